-- What is held behind tries.
use Rattle.std.proofs.Common.{◌≡◌, ℕ, ◌+◌, ◌<◌, ◌≤◌, List, [], ◌∷◌, ◌++◌, length, Bool, true, false, ◌||◌, if◌then◌else◌, Option, Some, refl, sym, ap, subst, ◌∙◌, arith, inl, inr}
use Rattle.std.specs.Cmp.Lexicographic.{bytes_decides, nat_list_eq_equiv}
use Rattle.std.specs.Str.{bytes_eq}
use Rattle.std.proofs.lemmas.Bool.{cases_Bool, true≢false}
use Rattle.std.proofs.lemmas.List.{length-append}
use Rattle.lp_io.specs.Counts.{Rose, one_more}
use Rattle.lp_files.specs.Paths.{lists}
use Rattle.lp_folder.specs.Held.{Held, HoldsWith, HoldsBut}
use Rattle.lp_flush.specs.Flushing.{Flushes, none_tried, was_kept, has_failed}
use Rattle.lp_flush.specs.Laws.{KeptAt, ChangedFilesAreKept}

-- a path at the end of a list

listed_here : (q p : List ℕ) (ps : List (List ℕ)) → bytes_eq q p ≡ true → lists q (ps ++ p ∷ []) ≡ true
listed_here q p [] e = rw e refl
listed_here q p (r ∷ ps) e = elim (cases_Bool (bytes_eq q r)) [
  | inl y ↦ rw y refl
  | inr n ↦ rw n (listed_here q p ps e)
]

listed_apart : (q p : List ℕ) (ps : List (List ℕ)) → bytes_eq q p ≡ false → lists q (ps ++ p ∷ []) ≡ lists q ps
listed_apart q p [] e = rw e refl
listed_apart q p (r ∷ ps) e = ap (λ b. bytes_eq q r || b) (listed_apart q p ps e)

turned : (p q : List ℕ) (b : Bool) → bytes_eq p q ≡ b → bytes_eq q p ≡ b
turned p q b e = nat_list_eq_equiv.symm q p ∙ e

-- one try at another path
apart_at : (file : List ℕ → Option (List ℕ)) (p q : List ℕ) (tried left left1 : List (List ℕ)) (h0 h h1 : Held) → bytes_eq q p ≡ false → h1 q ≡ h q → lists q left1 ≡ lists q left → KeptAt file tried left h0 h q
    → KeptAt file (tried ++ p ∷ []) left1 h0 h1 q
apart_at file p q tried left left1 h0 h h1 apart same stays k = record {
  kept = λ listed gone. same ∙ k.kept (sym (listed_apart q p tried apart) ∙ listed) (sym stays ∙ gone);
  untried = λ none. same ∙ k.untried (sym (listed_apart q p tried apart) ∙ none);
}

kept_at : (file : List ℕ → Option (List ℕ)) (p : List ℕ) (tried left : List (List ℕ)) (h0 h h1 : Held) → ((q : List ℕ) → h1 q ≡ (if bytes_eq p q then file p else h q)) → (q : List ℕ) → KeptAt file tried left h0 h q
    → KeptAt file (tried ++ p ∷ []) left h0 h1 q
kept_at file p tried left h0 h h1 now q k = elim (cases_Bool (bytes_eq p q)) [
  | inl y ↦ record {
    kept = λ listed gone. (now q ∙ ap (λ (b : Bool). if b then file p else h q) y) ∙ ap file ((bytes_decides p q).0 y);
    untried = λ none. absurd (true≢false (sym (listed_here q p tried (turned p q true y)) ∙ none));
  }
  | inr n ↦ apart_at file p q tried left left h0 h h1 (turned p q false n) (now q ∙ ap (λ (b : Bool). if b then file p else h q) n) refl k
]

failed_at : (file : List ℕ → Option (List ℕ)) (p : List ℕ) (tried left : List (List ℕ)) (h0 h h1 : Held) → ((q : List ℕ) → bytes_eq p q ≡ false → h1 q ≡ h q) → (q : List ℕ) → KeptAt file tried left h0 h q
    → KeptAt file (tried ++ p ∷ []) (left ++ p ∷ []) h0 h1 q
failed_at file p tried left h0 h h1 now q k = elim (cases_Bool (bytes_eq p q)) [
  | inl y ↦ record {
    kept = λ listed gone. absurd (true≢false (sym (listed_here q p left (turned p q true y)) ∙ gone));
    untried = λ none. absurd (true≢false (sym (listed_here q p tried (turned p q true y)) ∙ none));
  }
  | inr n ↦ apart_at file p q tried left (left ++ p ∷ []) h0 h h1 (turned p q false n) (now q n) (listed_apart q p left (turned p q false n)) k
]

pub held_so : (file : List ℕ → Option (List ℕ)) (first : Option Held) (faults : ℕ) (tried left : List (List ℕ)) (now : Option Held) (count : ℕ) → Flushes file first faults tried left now count
    → (h1 : Held) → now ≡ Some h1 → (h0 : Held) × (first ≡ Some h0) × ((path : List ℕ) → KeptAt file tried left h0 h1 path)
held_so file first faults _ _ _ _ none_tried h1 is = (h1, is, λ path. record { kept = λ listed gone. absurd (true≢false (sym listed)); untried = λ none. refl })
held_so file first faults _ _ _ _ (was_kept tried left told told1 count count1 p fs one) h1 is =
    let w = one.0 h1 is in
    let r = held_so file first faults tried left told count fs w.0 w.1 in
    (r.0, r.1, λ q. kept_at file p tried left r.0 w.0 h1 w.2 q (r.2 q))
held_so file first faults _ _ _ _ (has_failed tried left told told1 count count1 p fs one) h1 is =
    let w = one.0 h1 is in
    let r = held_so file first faults tried left told count fs w.0 w.1 in
    (r.0, r.1, λ q. failed_at file p tried left r.0 w.0 h1 w.2 q (r.2 q))

pub tried_so : (file : List ℕ → Option (List ℕ)) (first : Option Held) (faults : ℕ) (tried left : List (List ℕ)) (now : Option Held) (count : ℕ) → Flushes file first faults tried left now count
    → (path : List ℕ) → lists path left ≡ true → lists path tried ≡ true
tried_so file first faults _ _ _ _ none_tried q listed = listed
tried_so file first faults _ _ _ _ (was_kept tried left told told1 count count1 p fs one) q listed = elim (cases_Bool (bytes_eq q p)) [
  | inl y ↦ listed_here q p tried y
  | inr n ↦ listed_apart q p tried n ∙ tried_so file first faults tried left told count fs q listed
]
tried_so file first faults _ _ _ _ (has_failed tried left told told1 count count1 p fs one) q listed = elim (cases_Bool (bytes_eq q p)) [
  | inl y ↦ listed_here q p tried y
  | inr n ↦ listed_apart q p tried n ∙ tried_so file first faults tried left told count fs q (sym (listed_apart q p left n) ∙ listed)
]

-- the count never falls
no_fall : (file : List ℕ → Option (List ℕ)) (first : Option Held) (faults : ℕ) (tried left : List (List ℕ)) (now : Option Held) (count : ℕ) → Flushes file first faults tried left now count → faults ≤ count
no_fall file first faults _ _ _ _ none_tried = omega arith
no_fall file first faults _ _ _ _ (was_kept tried left told told1 count count1 p fs one) = omega (arith, no_fall file first faults tried left told count fs, one.1)
no_fall file first faults _ _ _ _ (has_failed tried left told told1 count count1 p fs one) = omega (arith, no_fall file first faults tried left told count fs, one.2)

rose_more : (a b c : ℕ) → a ≤ b → Rose b c → Rose a c
rose_more a b c low rose = omega (arith, low, rose)

pub counted_so : (file : List ℕ → Option (List ℕ)) (first : Option Held) (faults : ℕ) (tried left : List (List ℕ)) (now : Option Held) (count : ℕ) → Flushes file first faults tried left now count → 0 < length left → Rose faults count
counted_so file first faults _ _ _ _ none_tried some = absurd (omega (arith, some))
counted_so file first faults _ _ _ _ (was_kept tried left told told1 count count1 p fs one) some = subst (λ (n : ℕ). Rose faults n) (sym one.1) (counted_so file first faults tried left told count fs some)
counted_so file first faults _ _ _ _ (has_failed tried left told told1 count count1 p fs one) some = rose_more faults count count1 (no_fall file first faults tried left told count fs) one.1

pub changed_kept : ChangedFilesAreKept
changed_kept = record {
  held = λ file first faults tried left now count fs. held_so file first faults tried left now count fs;
  tried_once = λ file first faults tried left now count fs. tried_so file first faults tried left now count fs;
  counted = λ file first faults tried left now count fs. counted_so file first faults tried left now count fs;
}
