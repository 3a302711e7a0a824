-- The rows of functions are what names mean in the inheritance tree.
use Rattle.std.proofs.Common.{◌≡◌, ◌≤◌, ℕ, suc, ◌%◌, ◌/◌, arith, refl, sym, ◌∙◌, ap, subst, Bool, true, false, ◌&&◌, ◌||◌, not, nat_eq, List, [], ◌∷◌, map, length, length-append, Option, Some, None}
use Rattle.std.proofs.lemmas.List.{length-map}
use Rattle.std.proofs.lemmas.Bool.Decides.{Decides-eqb}
use Rattle.std.specs.Prelude.{◌+◌, ◌*◌, ⊤, if◌then◌else◌}
use Rattle.lp_tree.specs.declared.keyword.Modifier.{Modifier}
use Rattle.lp_tree.specs.declared.keyword.Modifier.TheVariants.{Private, Protected, Public, Static, Nosave, Nomask, Varargs}
use Rattle.lp_tree.specs.Units.{ItemTree, Inherit, Proto, Fun, Var}
use Rattle.lp_code.specs.declared.tables.Slot.{Slot}
use Rattle.lp_code.specs.declared.tables.Tables.{Tables}
use Rattle.lp_instr.specs.EfunList.{is_name}
use Rattle.lp_language.specs.Resolve.{Heritage, Heir, Heritages, NoParent, OneParent, Found, Function, or_else as or_found, found_in, moved, shown, resolve, resolve_last, own_function, own_names, own_variables, is_private, is_private_word, part_count, parts_before, variable_count, variables_before}
use Rattle.lp_types_expr.specs.Signatures.{or_else, is_private_number, has_function}
use Rattle.lp_layout.specs.Layout.{bit_of, has_word, digit, bits_from, bits, slot, own_slot, prototype_slot, slot_named, slot_shown, last_slot, parts_of, var_row, own_rows, row_moved, laid_variables}
use Rattle.lp_layout.specs.Layout as layout
use Rattle.lp_inherit.specs.Heirs.{table, tables, with_function, IsRowOf, MeansTheSame, IsNumbered, AreNumbered}
use Rattle.lp_layout.proofs.RowLaid.{row_laid}

-- How many parts and variables there are

own_count : (part : ℕ) (is : List ItemTree) → length (own_rows part is) ≡ length (own_variables is)
own_count part [] = refl
own_count part (Inherit line path ∷ is) = own_count part is
own_count part (Proto line ms ty w ps ∷ is) = own_count part is
own_count part (Fun line ms ty w ps b ∷ is) = own_count part is
own_count part (Var line ms b ds ∷ is) =
    length-append (map (var_row part ms b) ds) (own_rows part is)
    ∙ ap (λ x. x + length (own_rows part is)) (length-map ds (var_row part ms b))
    ∙ ap (λ x. length ds + x) (own_count part is)
    ∙ sym (length-append (map (λ d. record { modifiers = ms; declared = d }) ds) (own_variables is) ∙ ap (λ x. x + length (own_variables is)) (length-map ds (λ d. record { modifiers = ms; declared = d })))

plus_one : (n : ℕ) → n + 1 ≡ suc n
plus_one n = omega arith

mutual
  pub count_parts : (h : Heritage) → length (table h).parts ≡ part_count h
  count_parts (Heir n v ps) = length-append (layout.parts_before (tables ps)) (n ∷ []) ∙ plus_one (length (layout.parts_before (tables ps))) ∙ ap suc (count_before ps)

  count_before : (hs : Heritages) → length (layout.parts_before (tables hs)) ≡ parts_before hs
  count_before NoParent = refl
  count_before (OneParent h hs) = length-append (table h).parts (layout.parts_before (tables hs)) ∙ ap (λ x. x + length (layout.parts_before (tables hs))) (count_parts h) ∙ ap (λ x. part_count h + x) (count_before hs)

pub parts_same : (hs : Heritages) → parts_of (tables hs) ≡ parts_before hs
parts_same NoParent = refl
parts_same (OneParent h hs) = ap (λ x. x + parts_of (tables hs)) (count_parts h) ∙ ap (λ x. part_count h + x) (parts_same hs)

zero_plus : (n : ℕ) → 0 + n ≡ n
zero_plus n = omega arith

assoc : (a b c : ℕ) → a + (b + c) ≡ (a + b) + c
assoc a b c = omega arith

mutual
  pub count_variables : (h : Heritage) → length (table h).vars ≡ variable_count h
  count_variables (Heir n v ps) = count_laid v.items ps 0

  count_laid : (is : List ItemTree) (hs : Heritages) (first : ℕ) → length (laid_variables is (tables hs) first) ≡ variables_before hs + length (own_variables is)
  count_laid is NoParent first = own_count first is ∙ sym (zero_plus (length (own_variables is)))
  count_laid is (OneParent h hs) first =
      length-append (map (row_moved first) (table h).vars) (laid_variables is (tables hs) (first + length (table h).parts))
      ∙ ap (λ x. x + length (laid_variables is (tables hs) (first + length (table h).parts))) (length-map (table h).vars (row_moved first) ∙ count_variables h)
      ∙ ap (λ x. variable_count h + x) (count_laid is hs (first + length (table h).parts))
      ∙ assoc (variable_count h) (variables_before hs) (length (own_variables is))

-- Modifiers as a number

same_word : (m : Modifier) → nat_eq (bit_of m) 0 ≡ is_private_word m
same_word Private = refl
same_word Protected = refl
same_word Public = refl
same_word Static = refl
same_word Nosave = refl
same_word Nomask = refl
same_word Varargs = refl

same_words : (ms : List Modifier) → has_word 0 ms ≡ is_private ms
same_words [] = refl
same_words (m ∷ ms) = ap (λ z. z || has_word 0 ms) (same_word m) ∙ ap (λ z. is_private_word m || z) (same_words ms)

odd : (b : Bool) (r : ℕ) → nat_eq (((digit b + 2 * r) / 1) % 2) 1 ≡ b
odd true r = let e : ((1 + 2 * r) / 1) % 2 ≡ 1 = omega arith in ap (λ z. nat_eq z 1) e
odd false r = let e : ((0 + 2 * r) / 1) % 2 ≡ 0 = omega arith in ap (λ z. nat_eq z 1) e

-- the bit of `private` tells whether the word stands there
pub private_bit : (ms : List Modifier) → is_private_number (bits ms) ≡ is_private ms
private_bit ms = odd (has_word 0 ms) (bits_from 1 (2 ∷ 3 ∷ 4 ∷ 5 ∷ 6 ∷ []) ms) ∙ same_words ms

-- Functions

-- a row and what a name means: the same, and the row has a function
abbrev pub Agree : Option Slot → Option Found → Type 0
Agree None None = ⊤
Agree (Some s) (Some f) = (has_function s ≡ true) × IsRowOf s f
Agree _ _ = ⊥

not_last : (n : ℕ) → suc n ≤ 65535 → not (nat_eq n 65535) ≡ true
not_last n h = by (nat_eq n 65535) refl
  where
    by : (b : Bool) → nat_eq n 65535 ≡ b → not b ≡ true
    by false e = refl
    by true e = let f : n ≡ 65535 = (Decides-eqb n 65535).0 e in absurd (omega (arith, h, f))

matched : (b : Bool) (s : Slot) (f : Function) (part : ℕ) (o : Option Slot) (g : Option Function) → has_function s ≡ true → IsRowOf s (record { part = part; function = f }) → Agree o (found_in part g) → Agree (if b then Some s else o) (found_in part (if b then Some f else g))
matched true s f part o g h r a = (h, r)
matched false s f part o g h r a = a

pub own_agrees : (k part : ℕ) (is : List ItemTree) (w : List ℕ) → k + length (own_names is) ≤ 65535 → Agree (own_slot k part is w) (found_in part (own_function is w))
own_agrees k part [] w h = tt
own_agrees k part (Inherit line path ∷ is) w h = own_agrees k part is w h
own_agrees k part (Proto line ms ty name ps ∷ is) w h = own_agrees k part is w h
own_agrees k part (Fun line ms ty name ps b ∷ is) w h =
    matched (is_name name w) (slot w part k ms ty ps) (record { name = name; modifiers = ms; parameters = map (λ p. p.name) ps; body = b.stmts }) part (own_slot (suc k) part is w) (own_function is w)
    (not_last k (omega (arith, h)))
    (record { part = refl; mods = refl; params = length-map ps _ ∙ sym (length-map ps _) })
    (own_agrees (suc k) part is w (omega (arith, h)))
own_agrees k part (Var line ms base ds ∷ is) w h = own_agrees k part is w h

either : (a b : Option Slot) (x y : Option Found) → Agree a x → Agree b y → Agree (or_else a b) (or_found x y)
either None b None y m n = n
either (Some s) b (Some f) y m n = m
either None b (Some f) y m n = absurd m
either (Some s) b None y m n = absurd m

none_if : (b : Bool) (o : Option Slot) → (if b && false then o else None) ≡ None
none_if true o = refl
none_if false o = refl

shown_agrees : (first : ℕ) (r : Option Slot) (o : Option Found) → MeansTheSame (with_function r) o → Agree (slot_shown true first r) (moved first (shown o))
shown_agrees first None None m = tt
shown_agrees first None (Some f) m = absurd m
shown_agrees first (Some s) o m = by (has_function s) refl o m
  where
    seen : (f : Found) → has_function s ≡ true → IsRowOf s f → (b c : Bool) → c ≡ b → Agree (if not c && true then Some (record s { part = first + s.part }) else None) (moved first (if b then None else Some f))
    seen f e r true true q = tt
    seen f e r false false q = (e, record { part = ap (λ z. first + z) r.part; mods = r.mods; params = r.params })
    seen f e r true false q = absurd cc
    seen f e r false true q = absurd cc

    by : (b : Bool) → has_function s ≡ b → (o : Option Found) → MeansTheSame (if b then Some s else None) o → Agree (if not (is_private_number s.mods) && b then Some (record s { part = first + s.part }) else None) (moved first (shown o))
    by false e None m = subst (λ z. Agree z None) (sym (none_if (not (is_private_number s.mods)) (Some (record s { part = first + s.part })))) tt
    by false e (Some f) m = absurd m
    by true e None m = absurd m
    by true e (Some f) m = seen f e m (is_private f.function.modifiers) (is_private_number s.mods) (ap is_private_number m.mods ∙ private_bit f.function.modifiers)

-- A row that is no function's

either_none : (a b : Option Slot) → with_function a ≡ None → with_function b ≡ None → with_function (or_else a b) ≡ None
either_none None b m n = n
either_none (Some s) b m n = m

prototype_no : (part : ℕ) (is : List ItemTree) (w : List ℕ) → with_function (prototype_slot part is w) ≡ None
prototype_no part [] w = refl
prototype_no part (Inherit line path ∷ is) w = prototype_no part is w
prototype_no part (Proto line ms ty name ps ∷ is) w = by (prototype_no part is w) (is_name name w)
  where
    by : with_function (prototype_slot part is w) ≡ None → (b : Bool) → with_function (if b then Some (slot w part 65535 ms ty ps) else prototype_slot part is w) ≡ None
    by ih true = refl
    by ih false = ih
prototype_no part (Fun line ms ty name ps b ∷ is) w = prototype_no part is w
prototype_no part (Var line ms base ds ∷ is) w = prototype_no part is w

shown_no : (first : ℕ) (r : Option Slot) → slot_shown true first r ≡ None → with_function (slot_shown false first r) ≡ None
shown_no first None h = refl
shown_no first (Some s) h = by (is_private_number s.mods) (has_function s) refl h
  where
    by : (p b : Bool) → has_function s ≡ b → (if not p && b then Some (record s { part = first + s.part }) else None) ≡ None → with_function (if not p && true then Some (record s { part = first + s.part }) else None) ≡ None
    by true b e g = refl
    by false true e g = absurd cc
    by false false e g = ap (λ z. if z then Some (record s { part = first + s.part }) else None) e

both_none : (a b : Option Slot) → or_else a b ≡ None → (a ≡ None) × (b ≡ None)
both_none None b h = (refl, h)
both_none (Some s) b h = absurd cc

last_no : (ts : List Tables) (first : ℕ) (w : List ℕ) → last_slot true ts first w ≡ None → with_function (last_slot false ts first w) ≡ None
last_no [] first w h = refl
last_no (t ∷ ts) first w h = let g = both_none (last_slot true ts (first + length t.parts) w) (slot_shown true first (slot_named t.slots w)) h in
    either_none (last_slot false ts (first + length t.parts) w) (slot_shown false first (slot_named t.slots w)) (last_no ts (first + length t.parts) w g.0) (shown_no first (slot_named t.slots w) g.1)

pub rest_no : (is : List ItemTree) (ts : List Tables) (w : List ℕ) → last_slot true ts 0 w ≡ None → with_function (or_else (prototype_slot (parts_of ts) is w) (last_slot false ts 0 w)) ≡ None
rest_no is ts w h = either_none (prototype_slot (parts_of ts) is w) (last_slot false ts 0 w) (prototype_no (parts_of ts) is w) (last_no ts 0 w h)

full : (s : Slot) (f : Found) (b : Bool) → b ≡ true → IsRowOf s f → MeansTheSame (if b then Some s else None) (Some f)
full s f true e r = r
full s f false e r = absurd cc

agreed : (a l rest : Option Slot) (x y : Option Found) → Agree a x → Agree l y → (l ≡ None → with_function rest ≡ None) → MeansTheSame (with_function (or_else a (or_else l rest))) (or_found x y)
agreed (Some s) l rest (Some f) y m n r = full s f (has_function s) m.0 m.1
agreed None (Some s) rest None (Some f) m n r = full s f (has_function s) n.0 n.1
agreed None None rest None None m n r = subst (λ z. MeansTheSame z None) (sym (r refl)) tt
agreed None (Some s) rest None None m n r = absurd n
agreed None None rest None (Some f) m n r = absurd n
agreed (Some s) l rest None y m n r = absurd m
agreed None l rest (Some f) y m n r = absurd m

mutual
  pub row_agrees : (h : Heritage) (w : List ℕ) → IsNumbered h → MeansTheSame (with_function (slot_named (table h).slots w)) (resolve h w)
  row_agrees (Heir n v ps) w c = subst (λ z. MeansTheSame (with_function z) (resolve (Heir n v ps) w)) (sym (row_laid v.items (tables ps) w))
      (agreed (own_slot 0 (parts_of (tables ps)) v.items w) (last_slot true (tables ps) 0 w) _ (found_in (parts_before ps) (own_function v.items w)) (resolve_last ps 0 w)
      (subst (λ z. Agree (own_slot 0 z v.items w) (found_in (parts_before ps) (own_function v.items w))) (sym (parts_same ps)) (own_agrees 0 (parts_before ps) v.items w (omega (arith, c.0))))
      (last_agrees ps 0 w c.1)
      (rest_no v.items (tables ps) w))

  pub last_agrees : (hs : Heritages) (first : ℕ) (w : List ℕ) → AreNumbered hs → Agree (last_slot true (tables hs) first w) (resolve_last hs first w)
  last_agrees NoParent first w c = tt
  last_agrees (OneParent h hs) first w c =
      either (last_slot true (tables hs) (first + length (table h).parts) w) (slot_shown true first (slot_named (table h).slots w)) (resolve_last hs (first + part_count h) w) (moved first (shown (resolve h w)))
      (subst (λ z. Agree (last_slot true (tables hs) z w) (resolve_last hs (first + part_count h) w)) (ap (λ z. first + z) (sym (count_parts h))) (last_agrees hs (first + part_count h) w c.1))
      (shown_agrees first (slot_named (table h).slots w) (resolve h w) (row_agrees h w c.0))
