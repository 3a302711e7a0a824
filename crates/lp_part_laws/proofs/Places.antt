-- Where the parts of a tree stand, and the variables before them.
use Rattle.std.proofs.Common.{◌≡◌, ℕ, zero, suc, arith, refl, sym, ◌∙◌, ap, subst, inl, inr, List, [], ◌∷◌, ◌++◌, map, length, length-append, Some}
use Rattle.std.proofs.lemmas.List.{map-append, append_assoc}
use Rattle.std.specs.Prelude.{◌+◌, slice_get}
use Rattle.lp_values.specs.declared.id.ProgId.{ProgId}
use Rattle.lp_language.specs.Resolve.{Heritage, Heir, Heritages, NoParent, OneParent, Part, number_of, parents_of, part_at, parts, parts_from, parents_parts, part_count, parts_before, variable_count, variables_before, own_variables, parent_from}
use Rattle.lp_layout.specs.Layout as layout
use Rattle.lp_inherit.specs.Heirs.{table, tables}
use Rattle.lp_part_laws.proofs.Lists.{within, parted, get_map, one_at, Holds, holds_all, holds_within, holds_past}

-- as many parts as are counted

plus_one : (n : ℕ) → n + 1 ≡ suc n
plus_one n = omega arith

mutual
  pub count_from : (h : Heritage) (a b : ℕ) → length (parts_from h a b) ≡ part_count h
  count_from (Heir n v ps) a b = length-append (parents_parts ps a b) (record { tree = Heir n v ps; first = a; base = b } ∷ []) ∙ plus_one (length (parents_parts ps a b)) ∙ ap suc (count_parents ps a b)

  pub count_parents : (hs : Heritages) (a b : ℕ) → length (parents_parts hs a b) ≡ parts_before hs
  count_parents NoParent a b = refl
  count_parents (OneParent h hs) a b = length-append (parts_from h a b) (parents_parts hs (a + part_count h) (b + variable_count h))
      ∙ ap (λ z. z + length (parents_parts hs (a + part_count h) (b + variable_count h))) (count_from h a b)
      ∙ ap (λ z. part_count h + z) (count_parents hs (a + part_count h) (b + variable_count h))

-- their numbers are those in the tables

mutual
  numbers_from : (h : Heritage) (a b : ℕ) → map (λ p. number_of p.tree) (parts_from h a b) ≡ (table h).parts
  numbers_from (Heir n v ps) a b = map-append (λ p. number_of p.tree) (parents_parts ps a b) (record { tree = Heir n v ps; first = a; base = b } ∷ []) ∙ ap (λ z. z ++ n ∷ []) (numbers_before ps a b)

  numbers_before : (hs : Heritages) (a b : ℕ) → map (λ p. number_of p.tree) (parents_parts hs a b) ≡ layout.parts_before (tables hs)
  numbers_before NoParent a b = refl
  numbers_before (OneParent h hs) a b = map-append (λ p. number_of p.tree) (parts_from h a b) (parents_parts hs (a + part_count h) (b + variable_count h))
      ∙ ap (λ z. z ++ map (λ p. number_of p.tree) (parents_parts hs (a + part_count h) (b + variable_count h))) (numbers_from h a b)
      ∙ ap (λ z. (table h).parts ++ z) (numbers_before hs (a + part_count h) (b + variable_count h))

pub number_at : (h : Heritage) (k : ℕ) (p : Part) → part_at h k ≡ Some p → slice_get (table h).parts k ≡ Some (number_of p.tree)
number_at h k p e = ap (λ l. slice_get l k) (sym (numbers_from h 0 0)) ∙ get_map (λ (q : Part). number_of q.tree) (parts h) k p e

-- A part as it stands in a tree that has other parts and variables before it.
abbrev pub shifted : ℕ → ℕ → Part → Part
shifted c d p = record { tree = p.tree; first = c + p.first; base = d + p.base }

assoc : (a b c : ℕ) → a + (b + c) ≡ (a + b) + c
assoc a b c = omega arith

mutual
  pub parts_shift : (h : Heritage) (a b c d : ℕ) → parts_from h (c + a) (d + b) ≡ map (shifted c d) (parts_from h a b)
  parts_shift (Heir n v ps) a b c d = ap (λ z. z ++ record { tree = Heir n v ps; first = c + a; base = d + b } ∷ []) (parents_shift ps a b c d) ∙ sym (map-append (shifted c d) (parents_parts ps a b) (record { tree = Heir n v ps; first = a; base = b } ∷ []))

  parents_shift : (hs : Heritages) (a b c d : ℕ) → parents_parts hs (c + a) (d + b) ≡ map (shifted c d) (parents_parts hs a b)
  parents_shift NoParent a b c d = refl
  parents_shift (OneParent h hs) a b c d =
      ap (λ z. z ++ parents_parts hs ((c + a) + part_count h) ((d + b) + variable_count h)) (parts_shift h a b c d)
      ∙ ap (λ z. map (shifted c d) (parts_from h a b) ++ z)
      (ap (λ z. parents_parts hs z ((d + b) + variable_count h)) (sym (assoc c a (part_count h))) ∙ ap (λ z. parents_parts hs (c + (a + part_count h)) z) (sym (assoc d b (variable_count h)))
      ∙ parents_shift hs (a + part_count h) (b + variable_count h) c d)
      ∙ sym (map-append (shifted c d) (parts_from h a b) (parents_parts hs (a + part_count h) (b + variable_count h)))

-- How many variables each part declares, in order.
abbrev mutual
  pub counts : Heritage → List ℕ
  counts (Heir n v ps) = counts_before ps ++ length (own_variables v.items) ∷ []

  pub counts_before : Heritages → List ℕ
  counts_before NoParent = []
  counts_before (OneParent h hs) = counts h ++ counts_before hs

abbrev pub sum_of : List ℕ → ℕ
sum_of [] = 0
sum_of (x ∷ xs) = x + sum_of xs

pub total-append : (xs ys : List ℕ) → sum_of (xs ++ ys) ≡ sum_of xs + sum_of ys
total-append [] ys = omega arith
total-append (x ∷ xs) ys = let i = total-append xs ys in omega (arith, i)

mutual
  pub total : (h : Heritage) → sum_of (counts h) ≡ variable_count h
  total (Heir n v ps) = let i = total_before ps in let a = total-append (counts_before ps) (length (own_variables v.items) ∷ []) in omega (arith, a, i)

  pub total_before : (hs : Heritages) → sum_of (counts_before hs) ≡ variables_before hs
  total_before NoParent = refl
  total_before (OneParent h hs) = let i = total h in let j = total_before hs in let a = total-append (counts h) (counts_before hs) in omega (arith, a, i, j)

mutual
  pub count_counts : (h : Heritage) → length (counts h) ≡ part_count h
  count_counts (Heir n v ps) = length-append (counts_before ps) (length (own_variables v.items) ∷ []) ∙ plus_one (length (counts_before ps)) ∙ ap suc (count_counts_before ps)

  count_counts_before : (hs : Heritages) → length (counts_before hs) ≡ parts_before hs
  count_counts_before NoParent = refl
  count_counts_before (OneParent h hs) = length-append (counts h) (counts_before hs) ∙ ap (λ z. z + length (counts_before hs)) (count_counts h) ∙ ap (λ z. part_count h + z) (count_counts_before hs)

-- A part lies in a list of parts, of which the first has this place and this first variable: the parts of its tree stand there from
-- its first one on, it is the last of them, and its variables lie behind those that the parts before its first one declare.
pub record Lies (all : List Part) (cs : List ℕ) (a b i : ℕ) (p : Part) : Type 0 where
  pub place : ℕ
  pub first : p.first ≡ a + place
  pub last : i ≡ place + parts_before (parents_of p.tree)
  pub holds : Holds all place (parts_from p.tree p.first p.base)
  pub front : List ℕ
  pub back : List ℕ
  pub declared : cs ≡ front ++ (counts p.tree ++ back)
  pub before : length front ≡ place
  pub base : p.base ≡ b + sum_of front

lies_within : (all more : List Part) (cs ds : List ℕ) (a b i : ℕ) (p : Part) → Lies all cs a b i p → Lies (all ++ more) (cs ++ ds) a b i p
lies_within all more cs ds a b i p l = record {
  place = l.place;
  first = l.first;
  last = l.last;
  holds = holds_within all more (parts_from p.tree p.first p.base) l.place l.holds;
  front = l.front;
  back = l.back ++ ds;
  declared = ap (λ z. z ++ ds) l.declared ∙ append_assoc l.front (counts p.tree ++ l.back) ds ∙ ap (λ z. l.front ++ z) (append_assoc (counts p.tree) l.back ds);
  before = l.before;
  base = l.base;
}

lies_past : (front all : List Part) (cs ds : List ℕ) (a b n m i k : ℕ) (p : Part) → length front ≡ n → length cs ≡ n → sum_of cs ≡ m → i ≡ length front + k → Lies all ds (a + n) (b + m) k p → Lies (front ++ all) (cs ++ ds) a b i p
lies_past front all cs ds a b n m i k p e c s d l = record {
  place = length front + l.place;
  first = let f = l.first in omega (arith, f, e);
  last = let t = l.last in omega (arith, t, d);
  holds = holds_past front all (parts_from p.tree p.first p.base) l.place l.holds;
  front = cs ++ l.front;
  back = l.back;
  declared = ap (λ z. cs ++ z) l.declared ∙ sym (append_assoc cs l.front (counts p.tree ++ l.back));
  before = let t = l.before in let x = length-append cs l.front in omega (arith, t, x, e, c);
  base = let t = l.base in let x = total-append cs l.front in omega (arith, t, x, s);
}

lies_last : (n : ProgId) (v : _) (ps : Heritages) (a b i k : ℕ) (p : Part) → i ≡ length (parents_parts ps a b) + k → slice_get (record { tree = Heir n v ps; first = a; base = b } ∷ []) k ≡ Some p
    → Lies (parts_from (Heir n v ps) a b) (counts (Heir n v ps)) a b i p
lies_last n v ps a b i k p d e = subst (λ q. Lies (parts_from (Heir n v ps) a b) (counts (Heir n v ps)) a b i q) o.0 (record {
  place = 0;
  first = let z : a ≡ a + 0 = omega arith in z;
  last = let c = count_parents ps a b in let z = o.1 in let y : i ≡ 0 + parts_before ps = omega (arith, d, c, z) in y;
  holds = holds_all (parts_from (Heir n v ps) a b);
  front = [];
  back = [];
  declared = sym (nothing_more (counts (Heir n v ps)));
  before = refl;
  base = let z : b ≡ b + 0 = omega arith in z;
})
  where
    o : (record { tree = Heir n v ps; first = a; base = b } ≡ p) × (k ≡ 0)
    o = one_at (record { tree = Heir n v ps; first = a; base = b }) p k e

    nothing_more : (xs : List ℕ) → xs ++ [] ≡ xs
    nothing_more [] = refl
    nothing_more (x ∷ xs) = ap (λ z. x ∷ z) (nothing_more xs)

mutual
  pub lies : (h : Heritage) (a b i : ℕ) (p : Part) → slice_get (parts_from h a b) i ≡ Some p → Lies (parts_from h a b) (counts h) a b i p
  lies (Heir n v ps) a b i p e = elim (parted (parents_parts ps a b) (record { tree = Heir n v ps; first = a; base = b } ∷ []) i p e) [
    | inl f ↦ lies_within (parents_parts ps a b) (record { tree = Heir n v ps; first = a; base = b } ∷ []) (counts_before ps) (length (own_variables v.items) ∷ []) a b i p (lies_before ps a b i p f)
    | inr g ↦ lies_last n v ps a b i g.place p g.is g.there
  ]

  pub lies_before : (hs : Heritages) (a b i : ℕ) (p : Part) → slice_get (parents_parts hs a b) i ≡ Some p → Lies (parents_parts hs a b) (counts_before hs) a b i p
  lies_before NoParent a b i p e = absurd cc
  lies_before (OneParent h hs) a b i p e = elim (parted (parts_from h a b) (parents_parts hs (a + part_count h) (b + variable_count h)) i p e) [
    | inl f ↦ lies_within (parts_from h a b) (parents_parts hs (a + part_count h) (b + variable_count h)) (counts h) (counts_before hs) a b i p (lies h a b i p f)
    | inr g ↦ lies_past (parts_from h a b) (parents_parts hs (a + part_count h) (b + variable_count h)) (counts h) (counts_before hs) a b (part_count h) (variable_count h) i g.place p
        (count_from h a b) (count_counts h) (total h) g.is (lies_before hs (a + part_count h) (b + variable_count h) g.place p g.there)
  ]

pub lies_at : (h : Heritage) (i : ℕ) (p : Part) → part_at h i ≡ Some p → Lies (parts h) (counts h) 0 0 i p
lies_at h i p e = lies h 0 0 i p e

-- the last of a tree's parts is the tree
pub number_of_part : (h : Heritage) (i : ℕ) (p : Part) → part_at h i ≡ Some p → i + 1 ≡ p.first + part_count p.tree
number_of_part h i p e = by p.tree (lies_at h i p e).first (lies_at h i p e).last
  where
    by : (t : Heritage) → p.first ≡ 0 + (lies_at h i p e).place → i ≡ (lies_at h i p e).place + parts_before (parents_of t) → i + 1 ≡ p.first + part_count t
    by (Heir n v ps) f l = omega (arith, f, l)

-- a part's parts are parts of the whole
again : (t : Heritage) (first base k : ℕ) (q : Part) → slice_get (parts t) k ≡ Some q → slice_get (parts_from t first base) k ≡ Some (shifted first base q)
again t first base k q e =
    let f : first ≡ first + 0 = omega arith in
    let b : base ≡ base + 0 = omega arith in
    ap (λ l. slice_get l k) (ap (λ z. parts_from t z base) f ∙ ap (λ z. parts_from t (first + 0) z) b ∙ parts_shift t 0 0 first base) ∙ get_map (shifted first base) (parts t) k q e

pub part_inside : (h : Heritage) (i k : ℕ) (p q : Part) → part_at h i ≡ Some p → part_at p.tree k ≡ Some q → part_at h (p.first + k) ≡ Some (shifted p.first p.base q)
part_inside h i k p q e f =
    let l = lies_at h i p e in
    let d : p.first + k ≡ l.place + k = let z = l.first in omega (arith, z) in
    ap (λ z. slice_get (parts h) z) d ∙ l.holds k (shifted p.first p.base q) (again p.tree p.first p.base k q f)

-- and so are those of a parent
pub record IsParentAt (hs : Heritages) (a b : ℕ) (q : Part) : Type 0 where
  pub base : ℕ
  pub place : ℕ
  pub first : q.first ≡ a + place
  pub holds : Holds (parents_parts hs a b) place (parts_from q.tree q.first base)

pub parent_lies : (hs : Heritages) (a b j : ℕ) (q : Part) → parent_from hs a j ≡ Some q → IsParentAt hs a b q
parent_lies NoParent a b j q e = absurd cc
parent_lies (OneParent h hs) a b zero q e = let s : record { tree = h; first = a; base = 0 } ≡ q = cc in subst (IsParentAt (OneParent h hs) a b) s (record {
  base = b;
  place = 0;
  first = let z : a ≡ a + 0 = omega arith in z;
  holds = holds_within (parts_from h a b) (parents_parts hs (a + part_count h) (b + variable_count h)) (parts_from h a b) 0 (holds_all (parts_from h a b));
})
parent_lies (OneParent h hs) a b (suc j) q e = let l = parent_lies hs (a + part_count h) (b + variable_count h) j q e in record {
  base = l.base;
  place = length (parts_from h a b) + l.place;
  first = let f = l.first in let c = count_from h a b in omega (arith, f, c);
  holds = holds_past (parts_from h a b) (parents_parts hs (a + part_count h) (b + variable_count h)) (parts_from q.tree q.first l.base) l.place l.holds;
}

pub parent_inside : (t : Heritage) (j k : ℕ) (q r : Part) → parent_from (parents_of t) 0 j ≡ Some q → part_at q.tree k ≡ Some r → (base : ℕ) × (part_at t (q.first + k) ≡ Some (shifted q.first base r))
parent_inside (Heir n v ps) j k q r e f =
    let l = parent_lies ps 0 0 j q e in
    let d : q.first + k ≡ l.place + k = let z = l.first in omega (arith, z) in (
      l.base,
      ap (λ z. slice_get (parts (Heir n v ps)) z) d ∙ within (parents_parts ps 0 0) (record { tree = Heir n v ps; first = 0; base = 0 } ∷ []) (l.place + k) (shifted q.first l.base r)
          (l.holds k (shifted q.first l.base r) (again q.tree q.first l.base k r f)),
    )
