-- Mentions that go on from one another.
use Rattle.std.proofs.Common.{◌≡◌, ◌↔◌, ℕ, suc, ◌+◌, ◌<◌, ◌≤◌, Bool, true, false, ◌&&◌, eqb, leb, List, [], ◌∷◌, ◌++◌, length, get_or, take, drop, Option, Some, None, IsTrue, refl, sym, ap, subst, ◌∙◌, arith, inl, inr}
use Rattle.std.specs.List.{flat_map}
use Rattle.std.proofs.lemmas.Bool.{cases_Bool, eqb-true, eq-eqb, true≢false, leb-true, le-leb}
use Rattle.std.proofs.lemmas.List.{drop_all, take-append-drop, take_all, length-drop}
use Rattle.std.proofs.lemmas.Grind.{flat_map-append}
use Rattle.std.proofs.Math.Seq.{drop-cons}
use Rattle.lp_image.specs.declared.record.PackedCell.{PackedCell}
use Rattle.lp_image.specs.Image.{Mention, numbered, is_mapping}
use Rattle.lp_image.specs.Order.{same_kind, same_mention, stripped, expected, Follows}
use Rattle.lp_image.proofs.Steps.{mapped_more}

-- ---- one mention

pub none_left : (cells : List PackedCell) (n : ℕ) (m : Mention) → length cells ≤ n → Follows cells (m ∷ []) n None
none_left cells n m le = ap (λ cs. stripped (m ∷ []) (numbered n cs)) (drop_all n cells le)

expected-next : (cells : List PackedCell) (n : ℕ) (c : PackedCell) → n < length cells → c ≡ get_or cells n c → expected cells n ≡ (is_mapping c, n) ∷ expected cells (n + 1)
expected-next cells n c lt is =
    let next : suc n ≡ n + 1 = omega arith in
    ap (numbered n) (drop-cons cells n c lt)
    ∙ ap (λ d. (is_mapping d, n) ∷ numbered (n + 1) (drop (suc n) cells)) (sym is)
    ∙ ap (λ k. (is_mapping c, n) ∷ numbered (n + 1) (drop k cells)) next

pub next_taken : (cells : List PackedCell) (n : ℕ) (m : Mention) (c : PackedCell) → n < length cells → c ≡ get_or cells n c → same_mention m (is_mapping c, n) ≡ true → Follows cells (m ∷ []) n (Some (n + 1))
next_taken cells n m c lt is same = ap (stripped (m ∷ [])) (expected-next cells n c lt is) ∙ rw same refl

pub other_refused : (cells : List PackedCell) (n : ℕ) (m : Mention) (c : PackedCell) → n < length cells → c ≡ get_or cells n c → same_mention m (is_mapping c, n) ≡ false → Follows cells (m ∷ []) n None
other_refused cells n m c lt is other = ap (stripped (m ∷ [])) (expected-next cells n c lt is) ∙ rw other refl

-- ---- several

abbrev and_then : Option (List Mention) → (List Mention → Option (List Mention)) → Option (List Mention)
and_then None f = None
and_then (Some x) f = f x

stripped-append : (a b e : List Mention) → stripped (a ++ b) e ≡ and_then (stripped a e) (stripped b)
stripped-append [] b e = refl
stripped-append (m ∷ ms) b [] = refl
stripped-append (m ∷ ms) b (n ∷ ns) =
    elim (cases_Bool (same_mention m n)) [
      | inl y ↦ rw y (stripped-append ms b ns)
      | inr other ↦ rw other refl
    ]

pub follows_on : (cells : List PackedCell) (a b : List Mention) (n m : ℕ) (r : Option ℕ) → Follows cells a n (Some m) → Follows cells b m r → Follows cells (a ++ b) n r
follows_on cells a b n m r f g = stripped-append a b (expected cells n) ∙ ap (λ x. and_then x (stripped b)) f ∙ g

pub follows_no : (cells : List PackedCell) (a b : List Mention) (n : ℕ) → Follows cells a n None → Follows cells (a ++ b) n None
follows_no cells a b n f = stripped-append a b (expected cells n) ∙ ap (λ x. and_then x (stripped b)) f

-- ---- over a list

module _ {A : Type 0} (f : A → List Mention) (cells : List PackedCell) (xs : List A) where
  pub follows_more : (i : ℕ) (x : A) (n m : ℕ) (r : Option ℕ) → i < length xs → x ≡ get_or xs i x → Follows cells (flat_map f (take i xs)) n (Some m) → Follows cells (f x) m r → Follows cells (flat_map f (take (i + 1) xs)) n r
  follows_more i x n m r lt is before step = subst (λ y. Follows cells y n r) (sym (mapped_more f xs i x lt is)) (follows_on cells (flat_map f (take i xs)) (f x) n m r before step)

  pub follows_refused : (i : ℕ) (x : A) (n m : ℕ) → i < length xs → x ≡ get_or xs i x → Follows cells (flat_map f (take i xs)) n (Some m) → Follows cells (f x) m None → Follows cells (flat_map f xs) n None
  follows_refused i x n m lt is before step =
      let whole : flat_map f (take (i + 1) xs) ++ flat_map f (drop (i + 1) xs) ≡ flat_map f xs = sym (flat_map-append f (take (i + 1) xs) (drop (i + 1) xs)) ∙ ap (flat_map f) (take-append-drop (i + 1) xs) in
      subst (λ y. Follows cells y n None) whole (follows_no cells (flat_map f (take (i + 1) xs)) (flat_map f (drop (i + 1) xs)) n (follows_more i x n m None lt is before step))

  pub follows_all : (i n m : ℕ) → length xs ≤ i → Follows cells (flat_map f (take i xs)) n (Some m) → Follows cells (flat_map f xs) n (Some m)
  follows_all i n m le before = subst (λ y. Follows cells (flat_map f y) n (Some m)) (take_all i xs le) before

-- ---- all of them

kinds_same : (a b : Bool) → same_kind a b ≡ true → a ≡ b
kinds_same true true e = refl
kinds_same false false e = refl
kinds_same true false e = absurd cc
kinds_same false true e = absurd cc

kind_itself : (a : Bool) → same_kind a a ≡ true
kind_itself true = refl
kind_itself false = refl

and_true : (x y : Bool) → (x && y) ≡ true → (x ≡ true) × (y ≡ true)
and_true true true e = (refl, refl)
and_true true false e = absurd cc
and_true false y e = absurd cc

mentions_same : (m n : Mention) → same_mention m n ≡ true → m ≡ n
mentions_same m n e =
    let parts = and_true (same_kind m.0 n.0) (eqb m.1 n.1) e in
    let first = kinds_same m.0 n.0 parts.0 in
    let second = eqb-true m.1 n.1 parts.1 in
    let kind : Bool → Mention = λ k. (k, m.1) in
    let place : ℕ → Mention = λ i. (n.0, i) in
    ap kind first ∙ ap place second

mention_itself : (m : Mention) → same_mention m m ≡ true
mention_itself m = rw (kind_itself m.0, eq-eqb m.1 m.1 refl) refl

abbrev none : Option (List Mention)
none = None

abbrev some : List Mention → Option (List Mention)
some x = Some x

abbrev somewhere : ℕ → Option ℕ
somewhere n = Some n

abbrev nowhere : Option ℕ
nowhere = None

some_is : (x y : List Mention) → some x ≡ some y → x ≡ y
some_is x y e = cc

-- nothing is left of a list when itself is taken off, and of no other
stripped_all : (ms ns : List Mention) → stripped ms ns ≡ Some [] → ms ≡ ns
stripped_all [] [] e = refl
stripped_all [] (n ∷ ns) e = absurd cc
stripped_all (m ∷ ms) [] e = absurd cc
stripped_all (m ∷ ms) (n ∷ ns) e =
    elim (cases_Bool (same_mention m n)) [
      | inl y ↦ let first = mentions_same m n y in let rest = stripped_all ms ns (rw y at e) in cc
      | inr other ↦ let bad : none ≡ Some [] = rw other at e in absurd cc
    ]

stripped_itself : (ms : List Mention) → stripped ms ms ≡ Some []
stripped_itself [] = refl
stripped_itself (m ∷ ms) = rw (mention_itself m) (stripped_itself ms)

expected-none : (cells : List PackedCell) (n : ℕ) → length cells ≤ n → expected cells n ≡ []
expected-none cells n le = ap (numbered n) (drop_all n cells le)

-- so many cells are mentioned at most
length-numbered : (n : ℕ) (cells : List PackedCell) → length (numbered n cells) ≡ length cells
length-numbered n [] = refl
length-numbered n (c ∷ cs) = ap suc (length-numbered (n + 1) cs)

empty_past : (cells : List PackedCell) (n : ℕ) → expected cells n ≡ [] → length cells ≤ n
empty_past cells n e =
    let len : length (drop n cells) ≡ 0 = sym (length-numbered n (drop n cells)) ∙ ap length e in
    omega (arith, length-drop n cells)

pub ordered_from : (cells : List PackedCell) (ms : List Mention) (n : ℕ) → Follows cells ms 0 (Some n) → length cells ≤ n → ms ≡ numbered 0 cells
ordered_from cells ms n f le = stripped_all ms (numbered 0 cells) (f ∙ ap (λ x. Some x) (expected-none cells n le))

pub ordered_to : (cells : List PackedCell) (ms : List Mention) (r : Option ℕ) → Follows cells ms 0 r → ms ≡ numbered 0 cells → (n : ℕ) × (r ≡ Some n) × (length cells ≤ n)
ordered_to cells ms (Some n) f e =
    let all : stripped ms (numbered 0 cells) ≡ Some [] = rw e (stripped_itself (numbered 0 cells)) in
    (n, refl, empty_past cells n (some_is (expected cells n) [] (sym f ∙ all)))
ordered_to cells ms None f e =
    let all : stripped ms (numbered 0 cells) ≡ Some [] = rw e (stripped_itself (numbered 0 cells)) in
    let bad : none ≡ Some [] = sym f ∙ all in absurd cc

pub ordered_where_all : (cells : List PackedCell) (ms : List Mention) (n : ℕ) → Follows cells ms 0 (Some n) → IsTrue (leb (length cells) n) ↔ (ms ≡ numbered 0 cells)
ordered_where_all cells ms n f = (
  λ y. ordered_from cells ms n f (leb-true (length cells) n y),
  λ e. let t = ordered_to cells ms (Some n) f e in le-leb (length cells) n (same_number t.0 n t.1 t.2),
)
  where
    same_number : (k n : ℕ) → somewhere n ≡ somewhere k → length cells ≤ k → length cells ≤ n
    same_number k n e le = let same : n ≡ k = cc in omega arith

pub ordered_where_not : (cells : List PackedCell) (ms : List Mention) → Follows cells ms 0 None → IsTrue false ↔ (ms ≡ numbered 0 cells)
ordered_where_not cells ms f =
    (λ y. absurd (true≢false (sym y)), λ e. let t = ordered_to cells ms None f e in let bad : nowhere ≡ Some t.0 = t.1 in absurd cc)
