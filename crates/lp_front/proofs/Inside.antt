-- The rows of a version stand in parts of it.
use Rattle.std.proofs.Common.{◌≡◌, ◌<◌, ◌≤◌, ◌+◌, ◌∙◌, ℕ, zero, suc, List, [], ◌∷◌, ◌++◌, Option, Some, None, Bool, true, false, refl, sym, ap, subst, length, map, arith, if◌then◌else◌, length-append}
use Rattle.std.specs.Prelude.{not, ◌&&◌}
use Rattle.lp_tree.specs.declared.keyword.Modifier.{Modifier}
use Rattle.lp_tree.specs.declared.keyword.Base.{Base}
use Rattle.lp_tree.specs.Statements.{DeclaratorTree}
use Rattle.lp_tree.specs.Units.{ItemTree, Inherit, Proto, Fun, Var}
use Rattle.lp_instr.specs.EfunList.{is_name}
use Rattle.lp_code.specs.declared.tables.Slot.{Slot}
use Rattle.lp_code.specs.declared.tables.VarRow.{VarRow}
use Rattle.lp_code.specs.declared.tables.Tables.{Tables}
use Rattle.lp_types_expr.specs.Signatures.{or_else, is_private_number, is_wanted}
use Rattle.std.proofs.lemmas.Option.{none-some}
use Rattle.lp_tree.specs.declared.pragma.Pragmas.{Pragmas}
use Rattle.lp_values.specs.declared.id.ProgId.{ProgId}
use Rattle.lp_front.specs.Settling.{tables_of}
use Rattle.lp_layout.specs.Layout.{own_slot, prototype_slot, slot_named, slot_shown, last_slot, laid_slot, with_slot, laid_for, laid_slots, first_met, names_in, declared_names, parts_of, parts_before, var_row, own_rows, row_moved, laid_variables, AreRowsIn, AreVariablesIn, AreInside}

-- a row, if there is one, stands in one of n parts
abbrev RowIn : ℕ → Option Slot → Type 0
RowIn n None = Unit {0}
RowIn n (Some s) = s.part < n

if_row : (n : ℕ) (b : Bool) (o u : Option Slot) → RowIn n o → RowIn n u → RowIn n (if b then o else u)
if_row n true o u h k = h
if_row n false o u h k = k

else_row : (n : ℕ) (o u : Option Slot) → RowIn n o → RowIn n u → RowIn n (or_else o u)
else_row n None u h k = k
else_row n (Some s) u h k = h

own_in : (number part : ℕ) (is : List ItemTree) (w : List ℕ) → RowIn (suc part) (own_slot number part is w)
own_in number part [] w = tt
own_in number part (Inherit line path ∷ is) w = own_in number part is w
own_in number part (Proto line ms ty name ps ∷ is) w = own_in number part is w
own_in number part (Fun line ms ty name ps b ∷ is) w = if_row (suc part) (is_name name w) _ _ (omega arith) (own_in (suc number) part is w)
own_in number part (Var line ms base ds ∷ is) w = own_in number part is w

prototype_in : (part : ℕ) (is : List ItemTree) (w : List ℕ) → RowIn (suc part) (prototype_slot part is w)
prototype_in part [] w = tt
prototype_in part (Inherit line path ∷ is) w = prototype_in part is w
prototype_in part (Proto line ms ty name ps ∷ is) w = if_row (suc part) (is_name name w) _ _ (omega arith) (prototype_in part is w)
prototype_in part (Fun line ms ty name ps b ∷ is) w = prototype_in part is w
prototype_in part (Var line ms base ds ∷ is) w = prototype_in part is w

named_in : (n : ℕ) (ss : List Slot) (w : List ℕ) → AreRowsIn n ss → RowIn n (slot_named ss w)
named_in n [] w h = tt
named_in n (s ∷ ss) w h = if_row n (is_name s.name w) (Some s) (slot_named ss w) (h 0 s refl) (named_in n ss w (λ i r e. h (suc i) r e))

shown_in : (bodies : Bool) (first n most : ℕ) (o : Option Slot) → first + n ≤ most → RowIn n o → RowIn most (slot_shown bodies first o)
shown_in bodies first n most None h k = tt
shown_in bodies first n most (Some s) h k = if_row most (not (is_private_number s.mods) && is_wanted bodies s) (Some (record s { part = first + s.part })) None (omega (arith, h, k)) tt

tail_inside : (t : Tables) (ts : List Tables) → AreInside (t ∷ ts) → AreInside ts
tail_inside t ts h i u e = h (suc i) u e

last_in : (bodies : Bool) (ts : List Tables) (first most : ℕ) (w : List ℕ) → AreInside ts → first + parts_of ts ≤ most → RowIn most (last_slot bodies ts first w)
last_in bodies [] first most w h k = tt
last_in bodies (t ∷ ts) first most w h k =
    else_row most (last_slot bodies ts (first + length t.parts) w) (slot_shown bodies first (slot_named t.slots w))
    (last_in bodies ts (first + length t.parts) most w (tail_inside t ts h) (omega (arith, k)))
    (shown_in bodies first (length t.parts) most (slot_named t.slots w) (omega (arith, k)) (named_in (length t.parts) t.slots w (h 0 t refl).0))

laid_in : (is : List ItemTree) (ts : List Tables) (w : List ℕ) → AreInside ts → RowIn (suc (parts_of ts)) (laid_slot is ts w)
laid_in is ts w h =
    else_row (suc (parts_of ts)) (own_slot 0 (parts_of ts) is w) _ (own_in 0 (parts_of ts) is w)
    (else_row (suc (parts_of ts)) (last_slot true ts 0 w) _ (last_in true ts 0 (suc (parts_of ts)) w h (omega arith))
    (else_row (suc (parts_of ts)) (prototype_slot (parts_of ts) is w) _ (prototype_in (parts_of ts) is w) (last_in false ts 0 (suc (parts_of ts)) w h (omega arith))))

with_row : (n : ℕ) (o : Option Slot) (ss : List Slot) → RowIn n o → AreRowsIn n ss → AreRowsIn n (with_slot o ss)
with_row n None ss h k i r e = k i r e
with_row n (Some s) ss h k zero r e = subst (λ (o : Option Slot). RowIn n o) e h
with_row n (Some s) ss h k (suc i) r e = k i r e

rows_in : (is : List ItemTree) (ts : List Tables) (ws : List (List ℕ)) → AreInside ts → AreRowsIn (suc (parts_of ts)) (laid_for is ts ws)
rows_in is ts [] h i r e = absurd (none-some r e)
rows_in is ts (w ∷ ws) h i r e = with_row (suc (parts_of ts)) (laid_slot is ts w) (laid_for is ts ws) (laid_in is ts w h) (rows_in is ts ws h) i r e

-- Variables

-- a variable, if there is one, stands in one of n parts
abbrev VariableIn : ℕ → Option VarRow → Type 0
VariableIn n None = Unit {0}
VariableIn n (Some r) = r.part < n

joined_in : (n : ℕ) (xs ys : List VarRow) → AreVariablesIn n xs → AreVariablesIn n ys → AreVariablesIn n (xs ++ ys)
joined_in n [] ys h k i r e = k i r e
joined_in n (x ∷ xs) ys h k zero r e = h 0 r e
joined_in n (x ∷ xs) ys h k (suc i) r e = joined_in n xs ys (λ j s d. h (suc j) s d) k i r e

declared_in : (part : ℕ) (ms : List Modifier) (base : Base) (ds : List DeclaratorTree) → AreVariablesIn (suc part) (map (var_row part ms base) ds)
declared_in part ms base [] i r e = absurd (none-some r e)
declared_in part ms base (d ∷ ds) zero r e = subst (λ (o : Option VarRow). VariableIn (suc part) o) e here
  where
    here : part < suc part
    here = omega arith
declared_in part ms base (d ∷ ds) (suc i) r e = declared_in part ms base ds i r e

own_rows_in : (part : ℕ) (is : List ItemTree) → AreVariablesIn (suc part) (own_rows part is)
own_rows_in part [] i r e = absurd (none-some r e)
own_rows_in part (Inherit line path ∷ is) i r e = own_rows_in part is i r e
own_rows_in part (Proto line ms ty w ps ∷ is) i r e = own_rows_in part is i r e
own_rows_in part (Fun line ms ty w ps b ∷ is) i r e = own_rows_in part is i r e
own_rows_in part (Var line ms base ds ∷ is) i r e = joined_in (suc part) (map (var_row part ms base) ds) (own_rows part is) (declared_in part ms base ds) (own_rows_in part is) i r e

moved_in : (first n most : ℕ) (rs : List VarRow) → first + n ≤ most → AreVariablesIn n rs → AreVariablesIn most (map (row_moved first) rs)
moved_in first n most [] h k i r e = absurd (none-some r e)
moved_in first n most (x ∷ rs) h k zero r e = subst (λ (o : Option VarRow). VariableIn most o) e (here (k 0 x refl))
  where
    here : x.part < n → first + x.part < most
    here l = omega (arith, h, l)
moved_in first n most (x ∷ rs) h k (suc i) r e = moved_in first n most rs h (λ j s d. k (suc j) s d) i r e

variables_in : (is : List ItemTree) (ts : List Tables) (first : ℕ) → AreInside ts → AreVariablesIn (suc (first + parts_of ts)) (laid_variables is ts first)
variables_in is [] first h = subst (λ (n : ℕ). AreVariablesIn (suc n) (own_rows first is)) (plus first) (own_rows_in first is)
  where
    plus : (n : ℕ) → n ≡ n + 0
    plus n = omega arith
variables_in is (t ∷ ts) first h =
    joined_in (suc (first + (length t.parts + parts_of ts))) (map (row_moved first) t.vars) (laid_variables is ts (first + length t.parts))
    (moved_in first (length t.parts) (suc (first + (length t.parts + parts_of ts))) t.vars (omega arith) (h 0 t refl).1)
    (subst (λ (n : ℕ). AreVariablesIn (suc n) (laid_variables is ts (first + length t.parts))) (assoc first (length t.parts) (parts_of ts)) (variables_in is ts (first + length t.parts) (tail_inside t ts h)))
  where
    assoc : (a b c : ℕ) → (a + b) + c ≡ a + (b + c)
    assoc a b c = omega arith

counted : (ts : List Tables) → length (parts_before ts) ≡ parts_of ts
counted [] = refl
counted (t ∷ ts) = length-append t.parts (parts_before ts) ∙ ap (λ (n : ℕ). length t.parts + n) (counted ts)

-- tables, if there are some, whose rows stand in parts of them
abbrev TablesFine : Option Tables → Type 0
TablesFine None = Unit {0}
TablesFine (Some x) = AreRowsIn (length x.parts) x.slots × AreVariablesIn (length x.parts) x.vars

one_inside : (t : Tables) → AreRowsIn (length t.parts) t.slots → AreVariablesIn (length t.parts) t.vars → AreInside (t ∷ [])
one_inside t h k zero u e = subst TablesFine e (h, k)
one_inside t h k (suc i) u e = absurd (none-some u e)

-- the tables of a version are fine for its children, where those of its parents are
pub made_inside : (file : List ℕ) (is : List ItemTree) (pragmas : Pragmas) (ts : List Tables) (own : ProgId) → AreInside ts → AreInside (tables_of file is pragmas ts own ∷ [])
made_inside file is pragmas ts own h =
    let long : length (parts_before ts ++ own ∷ []) ≡ suc (parts_of ts) = length-append (parts_before ts) (own ∷ []) ∙ ap (λ (n : ℕ). n + 1) (counted ts) ∙ one (parts_of ts) in
    one_inside (tables_of file is pragmas ts own)
    (subst (λ (n : ℕ). AreRowsIn n (laid_slots is ts)) (sym long) (rows_in is ts (first_met [] (names_in ts ++ declared_names is)) h))
    (subst (λ (n : ℕ). AreVariablesIn n (laid_variables is ts 0)) (zeroth (parts_of ts) ∙ sym long) (variables_in is ts 0 h))
  where
    one : (n : ℕ) → n + 1 ≡ suc n
    one n = omega arith

    zeroth : (n : ℕ) → suc (0 + n) ≡ suc n
    zeroth n = omega arith
