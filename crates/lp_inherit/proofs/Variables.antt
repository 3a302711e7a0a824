-- The rows of variables have the places of the variables of the inheritance tree.
use Rattle.std.proofs.Common.{◌≡◌, ℕ, suc, arith, refl, sym, ◌∙◌, ap, Bool, true, false, ◌||◌, List, [], ◌∷◌, ◌++◌, map, length, Option, Some, None, is_some}
use Rattle.std.proofs.lemmas.List.{length-map}
use Rattle.std.specs.List.{list_any}
use Rattle.std.specs.Prelude.{◌+◌, ⊤, if◌then◌else◌}
use Rattle.lp_tree.specs.declared.keyword.Base.{Base}
use Rattle.lp_tree.specs.declared.keyword.Modifier.{Modifier}
use Rattle.lp_tree.specs.Statements.{DeclaratorTree}
use Rattle.lp_tree.specs.Units.{ItemTree, Inherit, Proto, Fun, Var}
use Rattle.lp_code.specs.declared.tables.VarRow.{VarRow}
use Rattle.lp_instr.specs.EfunList.{is_name}
use Rattle.lp_language.specs.Resolve.{Heritage, Heir, Heritages, NoParent, OneParent, Variable, Sighted, own_variables, sighted_from, variable_last, variable_outside, place_shown, place_moved, is_private, variable_count, variables_before, or_else as or_place}
use Rattle.lp_types_expr.specs.Signatures.{or_else, is_private_number}
use Rattle.lp_layout.specs.Layout.{bits, var_row, own_rows, row_moved, laid_variables}
use Rattle.lp_inherit.specs.Heirs.{table, tables, seen_from, AreDistinct, IsUnambiguous, AreUnambiguous}
use Rattle.lp_inherit.proofs.Meanings.{private_bit, count_variables}
use Rattle.lp_layout.proofs.RowLaid.{same_name}

same_else : {A : Type 0} (a b : Option A) → or_else a b ≡ or_place a b
same_else None b = refl
same_else (Some x) b = refl

else_none : {A : Type 0} (a : Option A) → or_else a None ≡ a
else_none None = refl
else_none (Some x) = refl

else_assoc : {A : Type 0} (a b c : Option A) → or_else (or_else a b) c ≡ or_else a (or_else b c)
else_assoc None b c = refl
else_assoc (Some x) b c = refl

abbrev sight : ℕ → VarRow → List ℕ → Option ℕ
sight n r w = if is_private_number r.mods then None else if is_name r.name w then Some n else None

seen_both : (n : ℕ) (xs ys : List VarRow) (w : List ℕ) → seen_from n (xs ++ ys) w ≡ or_else (seen_from (n + length xs) ys w) (seen_from n xs w)
seen_both n [] ys w = let e : n ≡ n + 0 = omega arith in ap (λ k. seen_from k ys w) e ∙ sym (else_none (seen_from (n + 0) ys w))
seen_both n (x ∷ xs) ys w = let e : suc n + length xs ≡ n + suc (length xs) = omega arith in
    ap (λ z. or_else z (sight n x w)) (seen_both (suc n) xs ys w)
    ∙ else_assoc (seen_from (suc n + length xs) ys w) (seen_from (suc n) xs w) (sight n x w)
    ∙ ap (λ k. or_else (seen_from k ys w) (or_else (seen_from (suc n) xs w) (sight n x w))) e

seen_moved : (n first : ℕ) (rs : List VarRow) (w : List ℕ) → seen_from n (map (row_moved first) rs) w ≡ seen_from n rs w
seen_moved n first [] w = refl
seen_moved n first (r ∷ rs) w = ap (λ z. or_else z (sight n r w)) (seen_moved (suc n) first rs w)

else_moved : (n : ℕ) (a b : Option ℕ) → or_else (place_moved n a) (place_moved n b) ≡ place_moved n (or_else a b)
else_moved n None b = refl
else_moved n (Some k) b = refl

sight_moved : (n k : ℕ) (p b : Bool) → (if p then None else if b then Some (n + k) else None) ≡ place_moved n (if p then None else if b then Some k else None)
sight_moved n k true b = refl
sight_moved n k false true = refl
sight_moved n k false false = refl

-- from another place on
seen_on : (n k : ℕ) (rs : List VarRow) (w : List ℕ) → seen_from (n + k) rs w ≡ place_moved n (seen_from k rs w)
seen_on n k [] w = refl
seen_on n k (r ∷ rs) w = let e : suc (n + k) ≡ n + suc k = omega arith in
    ap (λ z. or_else (seen_from z rs w) (sight (n + k) r w)) e
    ∙ ap (λ z. or_else z (sight (n + k) r w)) (seen_on n (suc k) rs w)
    ∙ ap (or_else (place_moved n (seen_from (suc k) rs w))) (sight_moved n k (is_private_number r.mods) (is_name r.name w))
    ∙ else_moved n (seen_from (suc k) rs w) (sight k r w)

from_zero : (n : ℕ) (rs : List VarRow) (w : List ℕ) → seen_from n rs w ≡ place_moved n (seen_from 0 rs w)
from_zero n rs w = let e : n ≡ n + 0 = omega arith in ap (λ k. seen_from k rs w) e ∙ seen_on n 0 rs w

zero_plus : (n : ℕ) → 0 + n ≡ n
zero_plus n = omega arith

-- A file's own variables

-- rows that have the names and modifiers of some variables
abbrev Alike : List VarRow → List Variable → Type 0
Alike [] [] = ⊤
Alike (r ∷ rs) (v ∷ vs) = (r.name ≡ v.declared.name) × (r.mods ≡ bits v.modifiers) × Alike rs vs
Alike _ _ = ⊥

alike_both : (rs : List VarRow) (vs : List Variable) (qs : List VarRow) (us : List Variable) → Alike rs vs → Alike qs us → Alike (rs ++ qs) (vs ++ us)
alike_both [] [] qs us h g = g
alike_both (r ∷ rs) (v ∷ vs) qs us h g = (h.0, h.1, alike_both rs vs qs us h.2 g)
alike_both [] (v ∷ vs) qs us h g = absurd h
alike_both (r ∷ rs) [] qs us h g = absurd h

alike_declared : (part : ℕ) (ms : List Modifier) (b : Base) (ds : List DeclaratorTree) → Alike (map (var_row part ms b) ds) (map (λ d. record { modifiers = ms; declared = d }) ds)
alike_declared part ms b [] = tt
alike_declared part ms b (d ∷ ds) = (refl, refl, alike_declared part ms b ds)

alike_own : (part : ℕ) (is : List ItemTree) → Alike (own_rows part is) (own_variables is)
alike_own part [] = tt
alike_own part (Inherit line path ∷ is) = alike_own part is
alike_own part (Proto line ms ty w ps ∷ is) = alike_own part is
alike_own part (Fun line ms ty w ps b ∷ is) = alike_own part is
alike_own part (Var line ms b ds ∷ is) = alike_both (map (var_row part ms b) ds) (map (λ d. record { modifiers = ms; declared = d }) ds) (own_rows part is) (own_variables is) (alike_declared part ms b ds) (alike_own part is)

abbrev seen_place : ℕ → Option Sighted → Option ℕ
seen_place b None = None
seen_place b (Some s) = if s.is_hidden then None else Some (b + s.place)

no_first : (a b : Bool) → a || b ≡ false → a ≡ false
no_first true b e = absurd cc
no_first false b e = refl

no_second : (a b : Bool) → a || b ≡ false → b ≡ false
no_second true b e = absurd cc
no_second false b e = e

none_if : (p : Bool) (x : Option ℕ) → x ≡ None → (if p then None else x) ≡ None
none_if true x e = refl
none_if false x e = e

no_sight : (n : ℕ) (r : VarRow) (w : List ℕ) → is_name r.name w ≡ false → sight n r w ≡ None
no_sight n r w e = none_if (is_private_number r.mods) (if is_name r.name w then Some n else None) (ap (λ z. if z then Some n else None) e)

none_seen : (k : ℕ) (rs : List VarRow) (vs : List Variable) (w : List ℕ) → Alike rs vs → list_any (λ u. is_name u.declared.name w) vs ≡ false → seen_from k rs w ≡ None
none_seen k [] vs w h e = refl
none_seen k (r ∷ rs) [] w h e = absurd h
none_seen k (r ∷ rs) (v ∷ vs) w h e =
    ap (λ z. or_else z (sight k r w)) (none_seen (suc k) rs vs w h.2 (no_second (is_name v.declared.name w) (list_any (λ u. is_name u.declared.name w) vs) e))
    ∙ no_sight k r w (ap (λ z. is_name z w) h.0 ∙ no_first (is_name v.declared.name w) (list_any (λ u. is_name u.declared.name w) vs) e)

own_seen : (b n : ℕ) (rs : List VarRow) (vs : List Variable) (w : List ℕ) → Alike rs vs → AreDistinct vs → seen_from (b + n) rs w ≡ seen_place b (sighted_from n vs w)
own_seen b n [] [] w h d = refl
own_seen b n [] (v ∷ vs) w h d = absurd h
own_seen b n (r ∷ rs) [] w h d = absurd h
own_seen b n (r ∷ rs) (v ∷ vs) w h d = by (own_seen b (suc n) rs vs w h.2 d.1) (is_name v.declared.name w) refl
  where
    named : is_name r.name w ≡ is_name v.declared.name w
    named = ap (λ z. is_name z w) h.0

    hidden : is_private_number r.mods ≡ is_private v.modifiers
    hidden = ap is_private_number h.1 ∙ private_bit v.modifiers

    by : seen_from (b + suc n) rs w ≡ seen_place b (sighted_from (suc n) vs w) → (c : Bool) → is_name v.declared.name w ≡ c
        → or_else (seen_from (suc (b + n)) rs w) (sight (b + n) r w) ≡ seen_place b (if c then Some (record { place = n; is_hidden = is_private v.modifiers }) else sighted_from (suc n) vs w)
    by ih true e = let f : v.declared.name ≡ w = same_name v.declared.name w e in
        ap (λ z. or_else z (sight (b + n) r w)) (none_seen (suc (b + n)) rs vs w h.2 (sym (ap (λ z. list_any (λ u. is_name u.declared.name z) vs) f) ∙ d.0))
        ∙ ap (λ z. if z then None else if is_name r.name w then Some (b + n) else None) hidden
        ∙ ap (λ z. if is_private v.modifiers then None else if z then Some (b + n) else None) (named ∙ e)
    by ih false e = let f : suc (b + n) ≡ b + suc n = omega arith in
        ap (or_else (seen_from (suc (b + n)) rs w)) (no_sight (b + n) r w (named ∙ e))
        ∙ else_none (seen_from (suc (b + n)) rs w)
        ∙ ap (λ k. seen_from k rs w) f ∙ ih

-- what a child sees of a version's variables
outside : (b : ℕ) (s : Option Sighted) (i : Option ℕ) → (is_some s ≡ true → i ≡ None) → or_else (seen_place b s) i ≡ place_shown b s i
outside b None i h = refl
outside b (Some s) i h = by s.is_hidden
  where
    by : (p : Bool) → or_else (if p then None else Some (b + s.place)) i ≡ (if p then None else Some (b + s.place))
    by true = h refl
    by false = refl

mutual
  pub rows_seen : (h : Heritage) (w : List ℕ) → IsUnambiguous h → seen_from 0 (table h).vars w ≡ variable_outside h w
  rows_seen (Heir n v ps) w c = laid_seen v.items ps 0 0 w c.0 c.2
      ∙ ap (λ k. or_else (seen_place k (sighted_from 0 (own_variables v.items) w)) (variable_last ps 0 w)) (zero_plus (variables_before ps))
      ∙ outside (variables_before ps) (sighted_from 0 (own_variables v.items) w) (variable_last ps 0 w) (c.1 w)

  laid_seen : (is : List ItemTree) (hs : Heritages) (n first : ℕ) (w : List ℕ) → AreDistinct (own_variables is) → AreUnambiguous hs → seen_from n (laid_variables is (tables hs) first) w ≡ or_else (seen_place (n + variables_before hs) (sighted_from 0 (own_variables is) w)) (variable_last hs n w)
  laid_seen is NoParent n first w d c = let e : n ≡ (n + 0) + 0 = omega arith in
      ap (λ k. seen_from k (own_rows first is) w) e ∙ own_seen (n + 0) 0 (own_rows first is) (own_variables is) w (alike_own first is) d ∙ sym (else_none (seen_place (n + 0) (sighted_from 0 (own_variables is) w)))
  laid_seen is (OneParent h hs) n first w d c = let e : (n + variable_count h) + variables_before hs ≡ n + (variable_count h + variables_before hs) = omega arith in
      seen_both n (map (row_moved first) (table h).vars) (laid_variables is (tables hs) (first + length (table h).parts)) w
      ∙ ap (λ k. or_else (seen_from (n + k) (laid_variables is (tables hs) (first + length (table h).parts)) w) (seen_from n (map (row_moved first) (table h).vars) w)) (length-map (table h).vars (row_moved first) ∙ count_variables h)
      ∙ ap (λ z. or_else z (seen_from n (map (row_moved first) (table h).vars) w)) (laid_seen is hs (n + variable_count h) (first + length (table h).parts) w d c.1)
      ∙ ap (or_else (or_else (seen_place ((n + variable_count h) + variables_before hs) (sighted_from 0 (own_variables is) w)) (variable_last hs (n + variable_count h) w))) (seen_moved n first (table h).vars w ∙ from_zero n (table h).vars w ∙ ap (place_moved n) (rows_seen h w c.0))
      ∙ else_assoc (seen_place ((n + variable_count h) + variables_before hs) (sighted_from 0 (own_variables is) w)) (variable_last hs (n + variable_count h) w) (place_moved n (variable_outside h w))
      ∙ ap (λ k. or_else (seen_place k (sighted_from 0 (own_variables is) w)) (or_else (variable_last hs (n + variable_count h) w) (place_moved n (variable_outside h w)))) e
      ∙ ap (or_else (seen_place (n + (variable_count h + variables_before hs)) (sighted_from 0 (own_variables is) w))) (same_else (variable_last hs (n + variable_count h) w) (place_moved n (variable_outside h w)))
