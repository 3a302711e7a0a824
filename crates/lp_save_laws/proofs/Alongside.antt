-- Saved cells that are gone over and spelled, and what reading the spelled text keeps, side by side.
use Rattle.std.proofs.Common.{◌≡◌, ℕ, zero, suc, ◌+◌, ◌^◌, ◌<◌, ◌≤◌, ◌⊎◌, inl, inr, Bool, true, false, cond, ◌&&◌, List, [], ◌∷◌, ◌++◌, length, append-nil, append_assoc, Option, Some, None, unwrap_or, refl, sym, ap, subst, ◌∙◌, arith, length-append}
use Rattle.std.specs.Prelude.{All, codes, decimal, nat_eq, slice_get}
use Rattle.std.specs.Char.{IsScalar, is_ascii_digit}
use Rattle.std.specs.List.{prefix_len, starts_with}
use Rattle.std.proofs.lemmas.List.{length-set}
use Rattle.std.proofs.lemmas.List.Elements.{filter-append}
use Rattle.std.proofs.lemmas.Bool.{cond-false}
use Rattle.lp_values.specs.declared.id.CellId.{CellId}
use Rattle.lp_values.specs.declared.id.ObjId.{ObjId}
use Rattle.lp_values.specs.declared.value.Value.{Value}
use Rattle.lp_cells.specs.declared.content.Content.{Content}
use Rattle.lp_cells.specs.Cells.{Store, content_at, content_set, kind_of, with_cell}
use Rattle.lp_save.specs.SaveText.{Rest, Spelt, Walk, add, begun, is_among, met_first, numbered, share_number}
use Rattle.lp_save.specs.Reading.{Done, value_at}
use Rattle.lp_save_laws.specs.Matching.{ContentsMatch, InOrder, Matching, ValuesMatch}
use Rattle.lp_save_laws.proofs.Places.{among_kept, get_at, get_before, in_order_length, in_order_push, in_order_weaker, kept, no_number, number_at, set_other, set_same}
use Rattle.lp_save.proofs.WalkLemmas.{among_added}

-- what is left of a line, the cells with numbers and the cells
abbrev pub rest_with : List ℕ → List CellId → Store → Rest
rest_with t numbers made = record { text = t; shared = numbers; cells = made }

-- a saved cell is matched with one of the first n
abbrev pub Numbered : Matching → ℕ → CellId → CellId → Type 0
Numbered m n c d = (k : ℕ) × (slice_get m.saved k ≡ Some c) × (d.0 ≡ m.first + k) × (k < n)

-- The shared cells that were spelled are those that were met; they have numbers in the order in which they were met; each cell that was met was made, in
-- that order, and is of its kind.
pub record Stands (cells : Store) (again : List CellId) (m : Matching) (w : Walk) (s : Spelt) (numbers : List CellId) (made : Store) : Type 0 where
  pub done : (c : CellId) → is_among c s.done ≡ is_among c (kept again w.met)
  pub shares : InOrder (Numbered m (length w.met)) (kept again w.met) numbers
  pub count : length made ≡ m.first + length w.met
  pub kinds : (k : ℕ) (c : CellId) → k < length w.met → slice_get m.saved k ≡ Some c → kind_of (content_at made (record { 0 = m.first + k })) ≡ kind_of (content_at cells c)

-- Cells that were there are as they were, and what cells that were met since then hold matches.
pub record Fills (live : ObjId → Bool) (cells : Store) (m : Matching) (w : Walk) (made : Store) (w2 : Walk) (made2 : Store) : Type 0 where
  pub grows : length w.met ≤ length w2.met
  pub same : (k : ℕ) → k < length made → slice_get made2 k ≡ slice_get made k
  pub filled : (k : ℕ) (c : CellId) → length w.met ≤ k → k < length w2.met → slice_get m.saved k ≡ Some c → ContentsMatch live m (content_at cells c) (content_at made2 (record { 0 = m.first + k }))

-- what may stand behind a value
abbrev pub Ends : List ℕ → Type 0
Ends rest = (prefix_len is_ascii_digit rest ≡ 0) × (starts_with nat_eq rest (codes "=") ≡ false)

-- a code point that a line may have
abbrev pub IsPlain : ℕ → Type 0
IsPlain c = IsScalar c × (c ≡ 10 → ⊥)

-- The text that is spelled of a value, and what is read of it.
pub record Again (live : ObjId → Bool) (cells : Store) (again : List CellId) (m : Matching) (n : ℕ) (v : Value) (w : Walk) (s : Spelt) (numbers : List CellId) (made : Store) (w2 : Walk) (s2 : Spelt) : Type 0 where
  pub text : List ℕ
  pub value : Value
  pub numbers2 : List CellId
  pub made2 : Store
  pub spells : s2.text ≡ s.text ++ text
  pub stands : Stands cells again m w2 s2 numbers2 made2
  pub fills : Fills live cells m w made w2 made2
  pub match : ValuesMatch m v value
  pub begins : (rest : List ℕ) → (starts_with nat_eq (text ++ rest) (codes "})") ≡ false) × (starts_with nat_eq (text ++ rest) (codes "])") ≡ false)
  pub plain : All IsPlain text
  pub reads : (steps : ℕ) (rest : List ℕ) → length text < steps → Ends rest → value_at steps n (rest_with (text ++ rest) numbers made) ≡ Done value (rest_with rest numbers2 made2)

-- more text changes nothing else
pub stands_add : (cells : Store) (again : List CellId) (m : Matching) (w : Walk) (s : Spelt) (numbers : List CellId) (made : Store) (t : List ℕ) → Stands cells again m w s numbers made → Stands cells again m w (add t s) numbers made
stands_add cells again m w s numbers made t h = record { done = h.done; shares = h.shares; count = h.count; kinds = h.kinds }

pub either : (k n : ℕ) → (k < n) ⊎ (n ≤ k)
either zero zero = inr (omega arith)
either zero (suc n) = inl (omega arith)
either (suc k) zero = inr (omega arith)
either (suc k) (suc n) = elim (either k n) [ inl a ↦ inl (omega arith) | inr b ↦ inr (omega arith) ]

module _ (live : ObjId → Bool) (cells : Store) (m : Matching) where
  pub fills_none : (w : Walk) (made : Store) → Fills live cells m w made w made
  fills_none w made = record { grows = omega arith; same = λ k lt. refl; filled = λ k c low high e. absurd (omega arith) }

  -- one behind the other
  pub fills_then : (w w2 w3 : Walk) (made made2 made3 : Store) → length made ≡ m.first + length w.met → length made2 ≡ m.first + length w2.met → Fills live cells m w made w2 made2 → Fills live cells m w2 made2 w3 made3 → Fills live cells m w made w3 made3
  fills_then w w2 w3 made made2 made3 count count2 h g =
      let low = h.grows in
      let high = g.grows in
      record {
        grows = omega arith;
        same = λ k lt. g.same k (omega arith) ∙ h.same k lt;
        filled = λ k c from to e. elim (either k (length w2.met)) [
          | inl before ↦ subst (λ o. ContentsMatch live m (content_at cells c) (unwrap_or o None)) (sym (g.same (m.first + k) (omega arith))) (h.filled k c from before e)
          | inr behind ↦ g.filled k c behind to e
        ];
      }

-- ---- a cell begins, and what it holds is put into it

last_one : {A : Type 0} (xs : List A) (x : A) → length (xs ++ x ∷ []) ≡ length xs + 1
last_one xs x = length-append xs (x ∷ [])

kept_one : (again : List CellId) (c : CellId) (xs : List CellId) (b : Bool) → is_among c again ≡ b → kept again (xs ++ c ∷ []) ≡ kept again xs ++ cond b (c ∷ []) []
kept_one again c xs b e = filter-append (λ d. is_among d again) xs (c ∷ []) ∙ ap (λ x. kept again xs ++ cond x (c ∷ []) []) e

-- what the numbers become where a cell is begun, and what is spelled before it
abbrev pub numbers_with : Bool → List CellId → Store → List CellId
numbers_with b numbers made = cond b (numbers ++ record { 0 = length made } ∷ []) numbers

abbrev pub begun_text : Bool → List CellId → List ℕ
begun_text b numbers = cond b (60 ∷ decimal (length numbers + 1) ++ 62 ∷ 61 ∷ []) []

abbrev pub number_of : Bool → List CellId → Option ℕ
number_of b numbers = cond b (Some (length numbers)) None

pub and_none : (b : Bool) → (b && false) ≡ false
and_none true = refl
and_none false = refl

-- which of two places
same_or : (k n : ℕ) → (k ≡ n) ⊎ (k ≡ n → ⊥)
same_or k n = elim (either k n) [ inl a ↦ inr (λ e. omega arith) | inr b ↦ elim (either n k) [ inl x ↦ inr (λ e. omega arith) | inr y ↦ inl (omega arith) ] ]

-- A cell that was not met is met, where the cells of the matching are those met, this one and later ones.
module _ (cells : Store) (again : List CellId) (m : Matching) (w : Walk) (s : Spelt) (numbers : List CellId) (made : Store) (c : CellId) (later : List CellId) (h : Stands cells again m w s numbers made) (front : m.saved ≡ (w.met ++ c ∷ []) ++ later)
    (other : is_among c w.met ≡ false) where
  pub here : slice_get m.saved (length w.met) ≡ Some c
  here = ap (λ l. slice_get l (length w.met)) (front ∙ append_assoc w.met (c ∷ []) later) ∙ get_at w.met c later

  the_same : (k : ℕ) (d : CellId) → k ≡ length w.met → slice_get m.saved k ≡ Some d → c ≡ d
  the_same k d e at = let x : Some c ≡ Some d = sym here ∙ ap (slice_get m.saved) (sym e) ∙ at in cc

  not_kept : is_among c (kept again w.met) ≡ false
  not_kept = among_kept again c w.met ∙ ap (λ x. is_among c again && x) other ∙ and_none (is_among c again)

  count_kept : length (kept again w.met) ≡ length numbers
  count_kept = in_order_length (Numbered m (length w.met)) (kept again w.met) numbers h.shares

  all_kept : is_among c again ≡ true → kept again m.saved ≡ kept again w.met ++ c ∷ kept again later
  all_kept e = ap (kept again) (front ∙ append_assoc w.met (c ∷ []) later) ∙ filter-append (λ d. is_among d again) w.met (c ∷ later) ∙ ap (λ x. kept again w.met ++ cond x (c ∷ kept again later) (kept again later)) e

  pub room_for : length (kept again m.saved) < 2 ^ 64 → is_among c again ≡ true → length numbers + 1 < 2 ^ 64
  room_for small e =
      let all : length (kept again m.saved) ≡ length (kept again w.met) + length (c ∷ kept again later) = ap length (all_kept e) ∙ length-append (kept again w.met) (c ∷ kept again later) in
      let count = count_kept in
      omega arith

  -- its number
  pub number_is : (b : Bool) → is_among c again ≡ b → share_number (kept again m.saved) c ≡ number_of b numbers
  number_is true e = ap (λ l. share_number l c) (all_kept e) ∙ number_at c (kept again w.met) (kept again later) not_kept ∙ ap Some count_kept
  number_is false e = no_number c (kept again m.saved) (among_kept again c m.saved ∙ ap (λ x. x && is_among c m.saved) e)

  pub begun_is : (b : Bool) → is_among c again ≡ b → (begun (share_number (kept again m.saved) c) c s).text ≡ s.text ++ begun_text b numbers
  begun_is true e = ap (λ o. (begun o c s).text) (number_is true e) ∙ append_assoc s.text (numbered (length numbers)) (61 ∷ []) ∙ ap (λ x. s.text ++ x) (ap (λ x. 60 ∷ x) (append_assoc (decimal (length numbers + 1)) (62 ∷ []) (61 ∷ [])))
  begun_is false e = ap (λ o. (begun o c s).text) (number_is false e) ∙ sym (append-nil s.text)

  longer : length (w.met ++ c ∷ []) ≡ length w.met + 1
  longer = last_one w.met c

  module _ (x0 : Content) (kind0 : kind_of (Some x0) ≡ kind_of (content_at cells c)) where
    kinds_begun : (k : ℕ) (d : CellId) → k < length (w.met ++ c ∷ []) → slice_get m.saved k ≡ Some d → kind_of (content_at (with_cell made x0) (record { 0 = m.first + k })) ≡ kind_of (content_at cells d)
    kinds_begun k d lt at =
        let count = h.count in
        let long = longer in
        elim (either k (length w.met)) [
          | inl before ↦ ap (λ o. kind_of (unwrap_or o None)) (get_before made (Some x0 ∷ []) (m.first + k) (omega arith)) ∙ h.kinds k d before at
          | inr behind ↦
              let e : k ≡ length w.met = omega arith in
              let i : m.first + k ≡ length made = omega arith in
              ap (λ j. kind_of (unwrap_or (slice_get (with_cell made x0) j) None)) i ∙ ap (λ o. kind_of (unwrap_or o None)) (get_at made (Some x0) []) ∙ kind0 ∙ ap (λ y. kind_of (content_at cells y)) (the_same k d e at)
        ]

    numbered_more : (x y : CellId) → Numbered m (length w.met) x y → Numbered m (length (w.met ++ c ∷ [])) x y
    numbered_more x y p = let lt = p.3 in let long = longer in (p.0, p.1, p.2, omega arith)

    shares_before : InOrder (Numbered m (length (w.met ++ c ∷ []))) (kept again w.met) numbers
    shares_before = in_order_weaker (Numbered m (length w.met)) (Numbered m (length (w.met ++ c ∷ []))) numbered_more (kept again w.met) numbers h.shares

    count_begun : length (with_cell made x0) ≡ m.first + length (w.met ++ c ∷ [])
    count_begun = let count = h.count in let long = longer in let more = last_one made (Some x0) in omega arith

    stands_by : (b : Bool) → is_among c again ≡ b → (t : List ℕ) → Stands cells again m (met_first c w) (add t (begun (number_of b numbers) c s)) (numbers_with b numbers made) (with_cell made x0)
    stands_by true e t =
        let all : kept again (w.met ++ c ∷ []) ≡ kept again w.met ++ c ∷ [] = kept_one again c w.met true e in
        let count = h.count in
        let long = longer in
        record {
          done = λ d. sym (among_added d c (kept again w.met) s.done (λ x. sym (h.done x))) ∙ ap (is_among d) (cond-false (is_among c (kept again w.met)) (kept again w.met) (kept again w.met ++ c ∷ []) not_kept) ∙ ap (is_among d) (sym all);
          shares = subst (λ l. InOrder (Numbered m (length (w.met ++ c ∷ []))) l (numbers ++ record { 0 = length made } ∷ [])) (sym all)
              (in_order_push (Numbered m (length (w.met ++ c ∷ []))) (kept again w.met) numbers c (record { 0 = length made }) shares_before (length w.met, here, count, omega arith));
          count = count_begun;
          kinds = kinds_begun;
        }
    stands_by false e t =
        let all : kept again (w.met ++ c ∷ []) ≡ kept again w.met = kept_one again c w.met false e ∙ append-nil (kept again w.met) in
        record {
          done = λ d. h.done d ∙ ap (is_among d) (sym all);
          shares = subst (λ l. InOrder (Numbered m (length (w.met ++ c ∷ []))) l numbers) (sym all) shares_before;
          count = count_begun;
          kinds = kinds_begun;
        }

    -- the cell begins
    pub opens : (b : Bool) → is_among c again ≡ b → (t : List ℕ) → Stands cells again m (met_first c w) (add t (begun (share_number (kept again m.saved) c) c s)) (numbers_with b numbers made) (with_cell made x0)
    opens b e t = subst (λ o. Stands cells again m (met_first c w) (add t (begun o c s)) (numbers_with b numbers made) (with_cell made x0)) (sym (number_is b e)) (stands_by b e t)

    -- and ends: what it holds is put into it
    module _ (live : ObjId → Bool) (w2 : Walk) (s2 : Spelt) (numbers2 : List CellId) (made2 : Store) (x : Content) (kind : kind_of (Some x) ≡ kind_of (content_at cells c)) (stands : Stands cells again m w2 s2 numbers2 made2)
        (fills : Fills live cells m (met_first c w) (with_cell made x0) w2 made2) where
      past : length made < length made2
      past = let count = h.count in let count2 = stands.count in let long = longer in let more = fills.grows in omega arith

      abbrev ended : Store
      ended = content_set made2 (record { 0 = length made }) x

      at_this : (k : ℕ) → k ≡ length w.met → slice_get ended (m.first + k) ≡ Some (Some x)
      at_this k e = let count = h.count in let i : m.first + k ≡ length made = omega arith in ap (slice_get ended) i ∙ set_same made2 (length made) (Some x) past

      at_other : (k : ℕ) → (length made ≡ k → ⊥) → slice_get ended k ≡ slice_get made2 k
      at_other k unlike = set_other made2 (length made) k (Some x) unlike

      pub closes : (t : List ℕ) → Stands cells again m w2 (add t s2) numbers2 ended
      closes t = record {
        done = stands.done;
        shares = stands.shares;
        count = length-set made2 (length made) (Some x) ∙ stands.count;
        kinds = λ k d lt at. elim (same_or k (length w.met)) [
          | inl e ↦ ap (λ o. kind_of (unwrap_or o None)) (at_this k e) ∙ kind ∙ ap (λ y. kind_of (content_at cells y)) (the_same k d e at)
          | inr unlike ↦ ap (λ o. kind_of (unwrap_or o None)) (at_other (m.first + k) (λ i. unlike (let count = h.count in omega arith))) ∙ stands.kinds k d lt at
        ];
      }

      pub fills_ended : ContentsMatch live m (content_at cells c) (Some x) → Fills live cells m w made w2 ended
      fills_ended match =
          let count = h.count in
          let long = longer in
          let more = fills.grows in
          let room = last_one made (Some x0) in
          record {
            grows = omega arith;
            same = λ k lt. at_other k (λ i. omega arith) ∙ fills.same k (omega arith) ∙ get_before made (Some x0 ∷ []) k lt;
            filled = λ k d low high at. elim (same_or k (length w.met)) [
              | inl e ↦ subst (λ o. ContentsMatch live m (content_at cells d) (unwrap_or o None)) (sym (at_this k e)) (subst (λ y. ContentsMatch live m (content_at cells y) (Some x)) (the_same k d e at) match)
              | inr unlike ↦ subst (λ o. ContentsMatch live m (content_at cells d) (unwrap_or o None)) (sym (at_other (m.first + k) (λ i. unlike (omega arith)))) (fills.filled k d (let a : length w.met ≡ k → ⊥ = λ i. unlike (sym i) in omega arith) high at)
            ];
          }
