-- The variables that a version sees have the places that they have in its inheritance tree.
use Rattle.std.proofs.Common.{◌≡◌, ◌<◌, ℕ, suc, arith, refl, sym, ◌∙◌, ap, subst, Bool, true, false, ◌||◌, List, [], ◌∷◌, ◌++◌, map, length, length-append, Option, Some, None, nat_eq, not}
use Rattle.std.proofs.lemmas.List.{length-map}
use Rattle.std.proofs.lemmas.Bool.Decides.{Decides-eqb}
use Rattle.std.specs.List.{list_any}
use Rattle.std.specs.Prelude.{◌+◌, ⊤, if◌then◌else◌}
use Rattle.lp_tree.specs.declared.keyword.Base.{Base}
use Rattle.lp_tree.specs.declared.keyword.Modifier.{Modifier}
use Rattle.lp_tree.specs.Statements.{DeclaratorTree}
use Rattle.lp_tree.specs.Units.{ItemTree, Inherit, Proto, Fun, Var}
use Rattle.lp_code.specs.declared.tables.VarRow.{VarRow}
use Rattle.lp_instr.specs.EfunList.{is_name}
use Rattle.lp_language.specs.Resolve.{Heritage, Heir, Heritages, NoParent, OneParent, Variable, own_place, own_variables, sighted_from, variable_last, variable_outside, place_moved, variable_count, variables_before, is_private, variable_in, or_else}
use Rattle.lp_types_expr.specs.Signatures.{is_private_number}
use Rattle.lp_layout.specs.Layout.{var_row, own_rows, row_moved, laid_variables, parts_of, parts_before}
use Rattle.lp_layout.proofs.RowLaid.{same_name}
use Rattle.lp_inherit.specs.Heirs.{table, tables, seen_from, AreDistinct, IsUnambiguous, AreUnambiguous}
use Rattle.lp_inherit.proofs.Meanings.{count_variables}
use Rattle.lp_inherit.proofs.Variables.{rows_seen}
use Rattle.lp_types_expr.specs.Signatures.{or_else as or_row}
use Rattle.lp_codegen_layout.specs.declared.entry.Entry.{Entry}
use Rattle.lp_codegen_layout.specs.Laid.{entry, is_seen, last_number, seen}
use Rattle.lp_codegen_layout.proofs.Entries.{last_of_both}

-- Rows that stand in parts before the last one.

abbrev pub Below : ℕ → List VarRow → Type 0
Below m [] = ⊤
Below m (r ∷ rs) = (r.part < m) × Below m rs

below_both : (m : ℕ) (xs ys : List VarRow) → Below m xs → Below m ys → Below m (xs ++ ys)
below_both m [] ys h k = k
below_both m (x ∷ xs) ys h k = (h.0, below_both m xs ys h.1 k)

below_more : (m n : ℕ) (xs : List VarRow) → m < suc n → Below m xs → Below n xs
below_more m n [] e h = tt
below_more m n (x ∷ xs) e h = let a = h.0 in (omega (arith, a, e), below_more m n xs e h.1)

below_moved : (m first n : ℕ) (xs : List VarRow) → n ≡ first + m → Below m xs → Below n (map (row_moved first) xs)
below_moved m first n [] e h = tt
below_moved m first n (x ∷ xs) e h = let a = h.0 in (omega (arith, a, e), below_moved m first n xs e h.1)

below_declared : (part n : ℕ) (ms : List Modifier) (b : Base) (ds : List DeclaratorTree) → part < n → Below n (map (var_row part ms b) ds)
below_declared part n ms b [] h = tt
below_declared part n ms b (d ∷ ds) h = (h, below_declared part n ms b ds h)

below_own : (part n : ℕ) (is : List ItemTree) → part < n → Below n (own_rows part is)
below_own part n [] h = tt
below_own part n (Inherit line path ∷ is) h = below_own part n is h
below_own part n (Proto line ms ty w ps ∷ is) h = below_own part n is h
below_own part n (Fun line ms ty w ps b ∷ is) h = below_own part n is h
below_own part n (Var line ms b ds ∷ is) h = below_both n (map (var_row part ms b) ds) (own_rows part is) (below_declared part n ms b ds h) (below_own part n is h)

before_long : (hs : Heritages) → length (parts_before (tables hs)) ≡ parts_of (tables hs)
before_long NoParent = refl
before_long (OneParent h hs) = length-append (table h).parts (parts_before (tables hs)) ∙ ap (λ x. length (table h).parts + x) (before_long hs)

mutual
  pub all_below : (h : Heritage) → Below (length (table h).parts) (table h).vars
  all_below (Heir n v ps) =
      let e : length (parts_before (tables ps) ++ n ∷ []) ≡ length (parts_before (tables ps)) + 1 = length-append (parts_before (tables ps)) (n ∷ []) in
      let f = before_long ps in
      laid_below v.items ps 0 (length (parts_before (tables ps) ++ n ∷ [])) (omega (arith, e, f))

  laid_below : (is : List ItemTree) (hs : Heritages) (first n : ℕ) → n ≡ suc (first + parts_of (tables hs)) → Below n (laid_variables is (tables hs) first)
  laid_below is NoParent first n e = below_own first n is (omega (arith, e))
  laid_below is (OneParent h hs) first n e =
      below_both n (map (row_moved first) (table h).vars) (laid_variables is (tables hs) (first + length (table h).parts))
      (below_more (first + length (table h).parts) n (map (row_moved first) (table h).vars) (omega (arith, e)) (below_moved (length (table h).parts) first (first + length (table h).parts) (table h).vars refl (all_below h)))
      (laid_below is hs (first + length (table h).parts) n (omega (arith, e)))

-- Of rows in parts before the last one those are seen that are not private.

not_own : (part m : ℕ) → part < m → nat_eq (suc part) (suc m) ≡ false
not_own part m h = by (nat_eq (suc part) (suc m)) refl
  where
    by : (b : Bool) → nat_eq (suc part) (suc m) ≡ b → b ≡ false
    by false e = refl
    by true e = let f : suc part ≡ suc m = (Decides-eqb (suc part) (suc m)).0 e in absurd (omega (arith, h, f))

same_else : {A : Type 0} (a b : Option A) → or_row a b ≡ or_else a b
same_else None b = refl
same_else (Some x) b = refl

-- one entry more
more_entry : (w v : List ℕ) (k : ℕ) (rest : List Entry) (b : Bool) → last_number (if b then entry v k ∷ rest else rest) w ≡ or_else (last_number rest w) (if b then (if is_name v w then Some k else None) else None)
more_entry w v k rest true = refl
more_entry w v k rest false = by (last_number rest w)
  where
    by : (o : Option ℕ) → o ≡ or_else o None
    by None = refl
    by (Some x) = refl

abbrev sight : ℕ → VarRow → List ℕ → Option ℕ
sight n r w = if is_private_number r.mods then None else if is_name r.name w then Some n else None

seen_sight : (p : Bool) (o : Option ℕ) → (if not p then o else None) ≡ (if p then None else o)
seen_sight true o = refl
seen_sight false o = refl

below_seen : (m first n : ℕ) (rs : List VarRow) (w : List ℕ) → Below m (map (row_moved first) rs) → last_number (seen (suc m) n (map (row_moved first) rs)) w ≡ seen_from n rs w
below_seen m first n [] w h = refl
below_seen m first n (r ∷ rs) w h =
    ap (λ b. last_number (if b || not (is_private_number r.mods) then entry r.name n ∷ seen (suc m) (suc n) (map (row_moved first) rs) else seen (suc m) (suc n) (map (row_moved first) rs)) w) (not_own (first + r.part) m h.0)
    ∙ more_entry w r.name n (seen (suc m) (suc n) (map (row_moved first) rs)) (not (is_private_number r.mods))
    ∙ ap (or_else (last_number (seen (suc m) (suc n) (map (row_moved first) rs)) w)) (seen_sight (is_private_number r.mods) (if is_name r.name w then Some n else None))
    ∙ ap (λ o. or_else o (sight n r w)) (below_seen m first (suc n) rs w h.1)
    ∙ sym (same_else (seen_from (suc n) rs w) (sight n r w))

else_moved : (n : ℕ) (a b : Option ℕ) → or_row (place_moved n a) (place_moved n b) ≡ place_moved n (or_row a b)
else_moved n None b = refl
else_moved n (Some k) b = refl

sight_moved : (n k : ℕ) (p b : Bool) → (if p then None else if b then Some (n + k) else None) ≡ place_moved n (if p then None else if b then Some k else None)
sight_moved n k true b = refl
sight_moved n k false true = refl
sight_moved n k false false = refl

seen_on : (n k : ℕ) (rs : List VarRow) (w : List ℕ) → seen_from (n + k) rs w ≡ place_moved n (seen_from k rs w)
seen_on n k [] w = refl
seen_on n k (r ∷ rs) w = let e : suc (n + k) ≡ n + suc k = omega arith in
    ap (λ z. or_row (seen_from z rs w) (sight (n + k) r w)) e
    ∙ ap (λ z. or_row z (sight (n + k) r w)) (seen_on n (suc k) rs w)
    ∙ ap (or_row (place_moved n (seen_from (suc k) rs w))) (sight_moved n k (is_private_number r.mods) (is_name r.name w))
    ∙ else_moved n (seen_from (suc k) rs w) (sight k r w)

from_zero : (n : ℕ) (rs : List VarRow) (w : List ℕ) → seen_from n rs w ≡ place_moved n (seen_from 0 rs w)
from_zero n rs w = let e : n ≡ n + 0 = omega arith in ap (λ k. seen_from k rs w) e ∙ seen_on n 0 rs w

-- A version's own variables are all seen.

abbrev Alike : ℕ → List VarRow → List Variable → Type 0
Alike m [] [] = ⊤
Alike m (r ∷ rs) (v ∷ vs) = (r.name ≡ v.declared.name) × (r.part ≡ m) × Alike m rs vs
Alike m _ _ = ⊥

alike_both : (m : ℕ) (rs : List VarRow) (vs : List Variable) (qs : List VarRow) (us : List Variable) → Alike m rs vs → Alike m qs us → Alike m (rs ++ qs) (vs ++ us)
alike_both m [] [] qs us h g = g
alike_both m (r ∷ rs) (v ∷ vs) qs us h g = (h.0, h.1, alike_both m rs vs qs us h.2 g)
alike_both m [] (v ∷ vs) qs us h g = absurd h
alike_both m (r ∷ rs) [] qs us h g = absurd h

alike_declared : (part : ℕ) (ms : List Modifier) (b : Base) (ds : List DeclaratorTree) → Alike part (map (var_row part ms b) ds) (map (λ d. record { modifiers = ms; declared = d }) ds)
alike_declared part ms b [] = tt
alike_declared part ms b (d ∷ ds) = (refl, refl, alike_declared part ms b ds)

alike_own : (part : ℕ) (is : List ItemTree) → Alike part (own_rows part is) (own_variables is)
alike_own part [] = tt
alike_own part (Inherit line path ∷ is) = alike_own part is
alike_own part (Proto line ms ty w ps ∷ is) = alike_own part is
alike_own part (Fun line ms ty w ps b ∷ is) = alike_own part is
alike_own part (Var line ms b ds ∷ is) = alike_both part (map (var_row part ms b) ds) (map (λ d. record { modifiers = ms; declared = d }) ds) (own_rows part is) (own_variables is) (alike_declared part ms b ds) (alike_own part is)

is_own : (part m : ℕ) → part ≡ m → nat_eq (suc part) (suc m) ≡ true
is_own part m h = (Decides-eqb (suc part) (suc m)).1 (ap suc h)

no_first : (a b : Bool) → a || b ≡ false → a ≡ false
no_first true b e = absurd cc
no_first false b e = refl

no_second : (a b : Bool) → a || b ≡ false → b ≡ false
no_second true b e = absurd cc
no_second false b e = e

own_entry : (m n : ℕ) (r : VarRow) (rs : List VarRow) (w : List ℕ) → r.part ≡ m → last_number (seen (suc m) n (r ∷ rs)) w ≡ or_else (last_number (seen (suc m) (suc n) rs) w) (if is_name r.name w then Some n else None)
own_entry m n r rs w e = ap (λ b. last_number (if b || not (is_private_number r.mods) then entry r.name n ∷ seen (suc m) (suc n) rs else seen (suc m) (suc n) rs) w) (is_own r.part m e)

none_known : (m n : ℕ) (rs : List VarRow) (vs : List Variable) (w : List ℕ) → Alike m rs vs → list_any (λ u. is_name u.declared.name w) vs ≡ false → last_number (seen (suc m) n rs) w ≡ None
none_known m n [] vs w h e = refl
none_known m n (r ∷ rs) [] w h e = absurd h
none_known m n (r ∷ rs) (v ∷ vs) w h e =
    own_entry m n r rs w h.1
    ∙ ap (λ z. or_else z (if is_name r.name w then Some n else None)) (none_known m (suc n) rs vs w h.2 (no_second (is_name v.declared.name w) (list_any (λ u. is_name u.declared.name w) vs) e))
    ∙ ap (λ z. if z then Some n else None) (ap (λ z. is_name z w) h.0 ∙ no_first (is_name v.declared.name w) (list_any (λ u. is_name u.declared.name w) vs) e)

else_none : {A : Type 0} (a : Option A) → or_else a None ≡ a
else_none None = refl
else_none (Some x) = refl

own_known : (m b n : ℕ) (rs : List VarRow) (vs : List Variable) (w : List ℕ) → Alike m rs vs → AreDistinct vs → last_number (seen (suc m) (b + n) rs) w ≡ own_place b (sighted_from n vs w)
own_known m b n [] [] w h d = refl
own_known m b n [] (v ∷ vs) w h d = absurd h
own_known m b n (r ∷ rs) [] w h d = absurd h
own_known m b n (r ∷ rs) (v ∷ vs) w h d = own_entry m (b + n) r rs w h.1 ∙ by (own_known m b (suc n) rs vs w h.2 d.1) (is_name v.declared.name w) refl
  where
    named : is_name r.name w ≡ is_name v.declared.name w
    named = ap (λ z. is_name z w) h.0

    by : last_number (seen (suc m) (b + suc n) rs) w ≡ own_place b (sighted_from (suc n) vs w) → (c : Bool) → is_name v.declared.name w ≡ c
        → or_else (last_number (seen (suc m) (suc (b + n)) rs) w) (if is_name r.name w then Some (b + n) else None) ≡ own_place b (if c then Some (record { place = n; is_hidden = is_private v.modifiers }) else sighted_from (suc n) vs w)
    by ih true e = let f : v.declared.name ≡ w = same_name v.declared.name w e in
        ap (λ z. or_else z (if is_name r.name w then Some (b + n) else None)) (none_known m (suc (b + n)) rs vs w h.2 (sym (ap (λ z. list_any (λ u. is_name u.declared.name z) vs) f) ∙ d.0))
        ∙ ap (λ z. if z then Some (b + n) else None) (named ∙ e)
    by ih false e = let f : suc (b + n) ≡ b + suc n = omega arith in
        ap (λ z. or_else (last_number (seen (suc m) (suc (b + n)) rs) w) (if z then Some (b + n) else None)) (named ∙ e)
        ∙ else_none (last_number (seen (suc m) (suc (b + n)) rs) w)
        ∙ ap (λ k. last_number (seen (suc m) k rs) w) f ∙ ih

-- All together.

seen_both : (p n : ℕ) (xs ys : List VarRow) → seen p n (xs ++ ys) ≡ seen p n xs ++ seen p (n + length xs) ys
seen_both p n [] ys = let e : n ≡ n + 0 = omega arith in ap (λ k. seen p k ys) e
seen_both p n (x ∷ xs) ys = let e : suc n + length xs ≡ n + suc (length xs) = omega arith in
    ap (λ z. if is_seen p x then entry x.name n ∷ z else z) (seen_both p (suc n) xs ys ∙ ap (λ k. seen p (suc n) xs ++ seen p k ys) e)
    ∙ by (is_seen p x) (seen p (suc n) xs) (seen p (n + suc (length xs)) ys)
  where
    by : (b : Bool) (us vs : List Entry) → (if b then entry x.name n ∷ (us ++ vs) else us ++ vs) ≡ (if b then entry x.name n ∷ us else us) ++ vs
    by true us vs = refl
    by false us vs = refl

else_assoc : {A : Type 0} (a b c : Option A) → or_else (or_else a b) c ≡ or_else a (or_else b c)
else_assoc None b c = refl
else_assoc (Some x) b c = refl

laid_known : (is : List ItemTree) (hs : Heritages) (m n first : ℕ) (w : List ℕ) → AreDistinct (own_variables is) → AreUnambiguous hs → m ≡ first + parts_of (tables hs) → last_number (seen (suc m) n (laid_variables is (tables hs) first)) w ≡ or_else (own_place (n + variables_before hs) (sighted_from 0 (own_variables is) w)) (variable_last hs n w)
laid_known is NoParent m n first w d c q = let e : n ≡ (n + 0) + 0 = omega arith in
    ap (λ k. last_number (seen (suc m) k (own_rows first is)) w) e
    ∙ own_known m (n + 0) 0 (own_rows first is) (own_variables is) w (subst (λ k. Alike k (own_rows first is) (own_variables is)) (let f : first ≡ m = omega (arith, q) in f) (alike_own first is)) d
    ∙ sym (else_none (own_place (n + 0) (sighted_from 0 (own_variables is) w)))
laid_known is (OneParent h hs) m n first w d c q =
    let e : (n + variable_count h) + variables_before hs ≡ n + (variable_count h + variables_before hs) = omega arith in
    let own = sighted_from 0 (own_variables is) w in
    let xs = map (row_moved first) (table h).vars in
    let ys = laid_variables is (tables hs) (first + length (table h).parts) in
    let low : Below m xs = below_more (first + length (table h).parts) m xs (omega (arith, q)) (below_moved (length (table h).parts) first (first + length (table h).parts) (table h).vars refl (all_below h)) in
    ap (λ l. last_number l w) (seen_both (suc m) n xs ys)
    ∙ last_of_both (seen (suc m) n xs) (seen (suc m) (n + length xs) ys) w
    ∙ ap (λ k. or_else (last_number (seen (suc m) (n + k) ys) w) (last_number (seen (suc m) n xs) w)) (length-map (table h).vars (row_moved first) ∙ count_variables h)
    ∙ ap (λ z. or_else z (last_number (seen (suc m) n xs) w)) (laid_known is hs m (n + variable_count h) (first + length (table h).parts) w d c.1 (omega (arith, q)))
    ∙ ap (or_else (or_else (own_place ((n + variable_count h) + variables_before hs) own) (variable_last hs (n + variable_count h) w))) (below_seen m first n (table h).vars w low ∙ from_zero n (table h).vars w ∙ ap (place_moved n) (rows_seen h w c.0))
    ∙ else_assoc (own_place ((n + variable_count h) + variables_before hs) own) (variable_last hs (n + variable_count h) w) (place_moved n (variable_outside h w))
    ∙ ap (λ k. or_else (own_place k own) (or_else (variable_last hs (n + variable_count h) w) (place_moved n (variable_outside h w)))) e

pub variables_known : (h : Heritage) (w : List ℕ) → IsUnambiguous h → last_number (seen (length (table h).parts) 0 (table h).vars) w ≡ variable_in h w
variables_known (Heir n v ps) w c =
    let e : length (parts_before (tables ps) ++ n ∷ []) ≡ length (parts_before (tables ps)) + 1 = length-append (parts_before (tables ps)) (n ∷ []) in
    let f = before_long ps in
    let g : length (parts_before (tables ps) ++ n ∷ []) ≡ suc (parts_of (tables ps)) = omega (arith, e, f) in
    let z : 0 + variables_before ps ≡ variables_before ps = omega arith in
    ap (λ k. last_number (seen k 0 (laid_variables v.items (tables ps) 0)) w) g
    ∙ laid_known v.items ps (parts_of (tables ps)) 0 0 w c.0 c.2 (omega arith)
    ∙ ap (λ k. or_else (own_place k (sighted_from 0 (own_variables v.items) w)) (variable_last ps 0 w)) z
