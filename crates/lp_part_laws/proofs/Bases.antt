-- The variables of a part stand behind those of the parts before its tree.
use Rattle.std.proofs.Common.{◌≡◌, ◌⊎◌, ◌≤◌, ◌<◌, ℕ, zero, suc, arith, refl, sym, ◌∙◌, ap, inl, inr, List, [], ◌∷◌, ◌++◌, map, length, length-append, Some}
use Rattle.std.proofs.lemmas.List.{map-append, append_assoc, length-map}
use Rattle.std.specs.Prelude.{◌+◌, slice_get, replicate}
use Rattle.lp_tree.specs.declared.keyword.Base.{Base}
use Rattle.lp_tree.specs.declared.keyword.Modifier.{Modifier}
use Rattle.lp_tree.specs.Statements.{DeclaratorTree}
use Rattle.lp_tree.specs.Units.{ItemTree, Inherit, Proto, Fun, Var}
use Rattle.lp_code.specs.declared.tables.VarRow.{VarRow}
use Rattle.lp_language.specs.Resolve.{Heritage, Heir, Heritages, NoParent, OneParent, Part, own_variables, part_at, part_count, variable_count}
use Rattle.lp_layout.specs.Layout.{laid_variables, own_rows, row_moved, var_row}
use Rattle.lp_inherit.specs.Heirs.{table, tables}
use Rattle.lp_inherit.proofs.Meanings.{count_parts, count_variables}
use Rattle.lp_part_laws.specs.Parts.{IsSplit}
use Rattle.lp_part_laws.proofs.Lists.{get_map, is_below, parted, there_below}
use Rattle.lp_part_laws.proofs.Places.{count_counts, counts, counts_before, lies_at, sum_of, total, total-append}

-- the part of each variable
abbrev parts_of : List VarRow → List ℕ
parts_of rs = map (λ (r : VarRow). r.part) rs

-- so many of each part, in order
abbrev numbers : ℕ → List ℕ → List ℕ
numbers k [] = []
numbers k (c ∷ cs) = replicate c k ++ numbers (suc k) cs

replicated : (a b k : ℕ) → replicate a k ++ replicate b k ≡ replicate (a + b) k
replicated zero b k = let e : b ≡ 0 + b = omega arith in ap (λ z. replicate z k) e
replicated (suc a) b k = let e : suc (a + b) ≡ suc a + b = omega arith in ap (λ z. k ∷ z) (replicated a b k) ∙ ap (λ z. replicate z k) e

declared_parts : (part : ℕ) (ms : List Modifier) (base : Base) (ds : List DeclaratorTree) → parts_of (map (var_row part ms base) ds) ≡ replicate (length ds) part
declared_parts part ms base [] = refl
declared_parts part ms base (d ∷ ds) = ap (λ z. part ∷ z) (declared_parts part ms base ds)

own_parts : (part : ℕ) (is : List ItemTree) → parts_of (own_rows part is) ≡ replicate (length (own_variables is)) part
own_parts part [] = refl
own_parts part (Inherit line path ∷ is) = own_parts part is
own_parts part (Proto line ms ty w ps ∷ is) = own_parts part is
own_parts part (Fun line ms ty w ps b ∷ is) = own_parts part is
own_parts part (Var line ms b ds ∷ is) =
    map-append (λ (r : VarRow). r.part) (map (var_row part ms b) ds) (own_rows part is)
    ∙ ap (λ z. z ++ parts_of (own_rows part is)) (declared_parts part ms b ds)
    ∙ ap (λ z. replicate (length ds) part ++ z) (own_parts part is)
    ∙ replicated (length ds) (length (own_variables is)) part
    ∙ ap (λ z. replicate z part) (sym (length-append (map (λ d. record { modifiers = ms; declared = d }) ds) (own_variables is) ∙ ap (λ z. z + length (own_variables is)) (length-map ds (λ d. record { modifiers = ms; declared = d }))))

moved_parts : (first : ℕ) (rs : List VarRow) → parts_of (map (row_moved first) rs) ≡ map (λ z. first + z) (parts_of rs)
moved_parts first [] = refl
moved_parts first (r ∷ rs) = ap (λ z. (first + r.part) ∷ z) (moved_parts first rs)

shift_same : (first k n : ℕ) → map (λ z. first + z) (replicate n k) ≡ replicate n (first + k)
shift_same first k zero = refl
shift_same first k (suc n) = ap (λ z. (first + k) ∷ z) (shift_same first k n)

shift_numbers : (first k : ℕ) (cs : List ℕ) → map (λ z. first + z) (numbers k cs) ≡ numbers (first + k) cs
shift_numbers first k [] = refl
shift_numbers first k (c ∷ cs) =
    let e : first + suc k ≡ suc (first + k) = omega arith in
    map-append (λ z. first + z) (replicate c k) (numbers (suc k) cs)
    ∙ ap (λ z. z ++ map (λ z. first + z) (numbers (suc k) cs)) (shift_same first k c)
    ∙ ap (λ z. replicate c (first + k) ++ z) (shift_numbers first (suc k) cs ∙ ap (λ z. numbers z cs) e)

numbers_more : (k : ℕ) (xs ys : List ℕ) → numbers k (xs ++ ys) ≡ numbers k xs ++ numbers (k + length xs) ys
numbers_more k [] ys = let e : k ≡ k + 0 = omega arith in ap (λ z. numbers z ys) e
numbers_more k (x ∷ xs) ys =
    let e : suc k + length xs ≡ k + suc (length xs) = omega arith in
    ap (λ z. replicate x k ++ z) (numbers_more (suc k) xs ys ∙ ap (λ z. numbers (suc k) xs ++ numbers z ys) e)
    ∙ sym (append_assoc (replicate x k) (numbers (suc k) xs) (numbers (k + suc (length xs)) ys))

nothing_more : (xs : List ℕ) → xs ++ [] ≡ xs
nothing_more [] = refl
nothing_more (x ∷ xs) = ap (λ z. x ∷ z) (nothing_more xs)

mutual
  vars_parts : (h : Heritage) → parts_of (table h).vars ≡ numbers 0 (counts h)
  vars_parts (Heir n v ps) = laid_parts v.items ps 0

  laid_parts : (is : List ItemTree) (hs : Heritages) (first : ℕ) → parts_of (laid_variables is (tables hs) first) ≡ numbers first (counts_before hs ++ length (own_variables is) ∷ [])
  laid_parts is NoParent first = own_parts first is ∙ sym (nothing_more (replicate (length (own_variables is)) first))
  laid_parts is (OneParent h hs) first =
      let e : first + 0 ≡ first = omega arith in
      map-append (λ (r : VarRow). r.part) (map (row_moved first) (table h).vars) (laid_variables is (tables hs) (first + length (table h).parts))
      ∙ ap (λ z. z ++ parts_of (laid_variables is (tables hs) (first + length (table h).parts)))
      (moved_parts first (table h).vars ∙ ap (λ l. map (λ z. first + z) l) (vars_parts h) ∙ shift_numbers first 0 (counts h) ∙ ap (λ z. numbers z (counts h)) e)
      ∙ ap (λ z. numbers first (counts h) ++ z)
      (ap (λ z. parts_of (laid_variables is (tables hs) (first + z))) (count_parts h) ∙ laid_parts is hs (first + part_count h)
      ∙ ap (λ z. numbers (first + z) (counts_before hs ++ length (own_variables is) ∷ [])) (sym (count_counts h)))
      ∙ sym (numbers_more first (counts h) (counts_before hs ++ length (own_variables is) ∷ []))
      ∙ ap (λ z. numbers first z) (sym (append_assoc (counts h) (counts_before hs) (length (own_variables is) ∷ [])))

same_at : (n k i x : ℕ) → slice_get (replicate n k) i ≡ Some x → k ≡ x
same_at zero k i x e = absurd cc
same_at (suc n) k zero x e = let s : k ≡ x = cc in s
same_at (suc n) k (suc i) x e = same_at n k i x e

length_numbers : (k : ℕ) (cs : List ℕ) → length (numbers k cs) ≡ sum_of cs
length_numbers k [] = refl
length_numbers k (c ∷ cs) = length-append (replicate c k) (numbers (suc k) cs) ∙ ap (λ z. z + length (numbers (suc k) cs)) (by c) ∙ ap (λ z. c + z) (length_numbers (suc k) cs)
  where
    by : (n : ℕ) → length (replicate n k) ≡ n
    by zero = refl
    by (suc n) = ap suc (by n)

number_between : (k : ℕ) (cs : List ℕ) (i x : ℕ) → slice_get (numbers k cs) i ≡ Some x → (k ≤ x) × (x < k + length cs)
number_between k [] i x e = absurd cc
number_between k (c ∷ cs) i x e = elim (parted (replicate c k) (numbers (suc k) cs) i x e) [
  | inl f ↦ let s = same_at c k i x f in (omega (arith, s), omega (arith, s))
  | inr g ↦ let r = number_between (suc k) cs g.place x g.there in let a = r.0 in let b = r.1 in (omega (arith, a), omega (arith, b))
]

record Sides (rows : List VarRow) (front back : List ℕ) : Type 0 where
  pub is : parts_of rows ≡ numbers 0 front ++ numbers (0 + length front) back

sides_split : (rows : List VarRow) (front back : List ℕ) (base first : ℕ) → Sides rows front back → base ≡ sum_of front → first ≡ length front → base ≤ length rows → IsSplit rows first base
sides_split rows front back base first s b f inside = record {
  inside = inside;
  below = λ k r e l. elim (parted (numbers 0 front) (numbers (0 + length front) back) k r.part (ap (λ z. slice_get z k) (sym s.is) ∙ get_map (λ (x : VarRow). x.part) rows k r e)) [
    | inl g ↦ let t = (number_between 0 front k r.part g).1 in omega (arith, t, f)
    | inr g ↦ let t = g.is in let n = length_numbers 0 front in absurd (omega (arith, t, n, b, l))
  ];
  above = λ k r e l. elim (parted (numbers 0 front) (numbers (0 + length front) back) k r.part (ap (λ z. slice_get z k) (sym s.is) ∙ get_map (λ (x : VarRow). x.part) rows k r e)) [
    | inl g ↦ let t = is_below (numbers 0 front) k r.part g in let n = length_numbers 0 front in absurd (omega (arith, t, n, b, l))
    | inr g ↦ let t = (number_between (0 + length front) back g.place r.part g.there).0 in omega (arith, t, f)
  ];
}

-- a part's variables are among those of the whole
pub base_room : (h : Heritage) (i : ℕ) (p : Part) → part_at h i ≡ Some p → p.base + variable_count p.tree ≤ variable_count h
base_room h i p e =
    let l = lies_at h i p e in
    let b = l.base in
    let t = total h in
    let u = total p.tree in
    let d = ap sum_of l.declared in
    let x = total-append l.front (counts p.tree ++ l.back) in
    let y = total-append (counts p.tree) l.back in
    omega (arith, b, t, u, d, x, y)

-- its first variable is where the rows of variables come to the parts of its tree
pub base_split : (h : Heritage) (i : ℕ) (p : Part) → part_at h i ≡ Some p → IsSplit (table h).vars p.first p.base
base_split h i p e =
    let l = lies_at h i p e in
    sides_split (table h).vars l.front (counts p.tree ++ l.back) p.base p.first
    (record { is = vars_parts h ∙ ap (numbers 0) l.declared ∙ numbers_more 0 l.front (counts p.tree ++ l.back) })
    (let b = l.base in omega (arith, b)) (let f = l.first in let n = l.before in omega (arith, f, n))
    (let r = base_room h i p e in let c = count_variables h in omega (arith, r, c))

order : (a b : ℕ) → (a ≤ b) ⊎ (b < a)
order zero b = inl (omega arith)
order (suc a) zero = inr (omega arith)
order (suc a) (suc b) = elim (order a b) [ inl l ↦ inl (omega (arith, l)) | inr l ↦ inr (omega (arith, l)) ]

no_further : (rows : List VarRow) (first a b : ℕ) → IsSplit rows first a → IsSplit rows first b → a ≤ b
no_further rows first a b x y = elim (order a b) [
  | inl l ↦ l
  | inr l ↦
      let i = x.inside in
      let r = there_below rows b (omega (arith, l, i)) in
      let low = x.below b r.0 r.1 l in
      let high = y.above b r.0 r.1 (let z : b ≤ b = omega arith in z) in
      absurd (omega (arith, low, high))
]

-- there is one such place
pub one_split : (rows : List VarRow) (first a b : ℕ) → IsSplit rows first a → IsSplit rows first b → a ≡ b
one_split rows first a b x y = let l = no_further rows first a b x y in let m = no_further rows first b a y x in omega (arith, l, m)
