-- Room for answers adds none.
use Rattle.std.proofs.Common.{◌≡◌, ◌∙◌, ◌++◌, ◌<◌, ℕ, zero, suc, Bool, true, false, List, [], ◌∷◌, Option, Some, None, Result, All, OnOk, OnErr, refl, ap, slice_get, slice_index_or, unwrap_or, length, nat_eq, if◌then◌else◌, arith}
use Rattle.std.specs.Prelude.{slice_set}
use Rattle.std.proofs.lemmas.List.Elements.{All-head, All-tail}
use Rattle.std.proofs.lemmas.Result.{on_err_weaker, on_ok_weaker}
use Rattle.std.specs.declared.alloc.AllocError.{AllocError}
use Rattle.lp_world.specs.Targets.{AreAllAmong, HasAnswerIn, HasSameAnswersIn, IsAnswerAmong, answer_at, answer_in, slot_answer, with_answer, with_slot}
use Rattle.lp_world.specs.declared.targets.FunAt.{FunAt}
use Rattle.lp_world.specs.declared.targets.PartTargets.{PartTargets}
use Rattle.lp_world.specs.declared.targets.Targets.{Targets}
use Rattle.lp_world.specs.declared.versions.Version.{Version}

none_more : (xs : List (Option (Option FunAt))) (k : ℕ) → unwrap_or (slice_get (xs ++ None ∷ []) k) None ≡ unwrap_or (slice_get xs k) None
none_more [] zero = refl
none_more [] (suc k) = refl
none_more (x ∷ xs) zero = refl
none_more (x ∷ xs) (suc k) = none_more xs k

pub slot_more : (old new : PartTargets) (k : ℕ) → new.answers.items ≡ old.answers.items ++ None ∷ [] → slot_answer new k ≡ slot_answer old k
slot_more old new k e = ap (λ l. unwrap_or (slice_get l k) None) e ∙ none_more old.answers.items k

empty_more : (xs : List PartTargets) (p : PartTargets) (n k : ℕ) → p.answers.items ≡ [] → answer_in (slice_get (xs ++ p ∷ []) n) k ≡ answer_in (slice_get xs n) k
empty_more [] p zero k e = ap (λ l. unwrap_or (slice_get l k) None) e
empty_more [] p (suc n) k e = refl
empty_more (x ∷ xs) p zero k e = refl
empty_more (x ∷ xs) p (suc n) k e = empty_more xs p n k e

pub part_more : (old new : Targets) (p : PartTargets) (n k : ℕ) → p.answers.items ≡ [] → new.parts.items ≡ old.parts.items ++ p ∷ [] → answer_at new n k ≡ answer_at old n k
part_more old new p n k e q = ap (λ l. answer_in (slice_get l n) k) q ∙ empty_more old.parts.items p n k e

pub same_either : {A : Type 0} (b : Bool) (a : A) → (if b then a else a) ≡ a
same_either true a = refl
same_either false a = refl

after_zero : (n : ℕ) → nat_eq (suc n) 0 ≡ false
after_zero n = grind arith

before_one : (n : ℕ) → nat_eq 0 (suc n) ≡ false
before_one n = grind arith

both_after : (n i : ℕ) → nat_eq (suc n) (suc i) ≡ nat_eq n i
both_after n i = grind arith

-- one part's answers change
pub set_part : (xs : List PartTargets) (i : ℕ) (p q : PartTargets) (f : ℕ → Option (Option FunAt) → Option (Option FunAt))
    → i < length xs → p ≡ slice_index_or xs i p → ((k : ℕ) → slot_answer q k ≡ f k (slot_answer p k))
    → (n k : ℕ) → answer_in (slice_get (slice_set xs i q) n) k ≡ (if nat_eq n i then f k (answer_in (slice_get xs n) k) else answer_in (slice_get xs n) k)
set_part [] i p q f l e h n k = absurd (omega (arith, l))
set_part (x ∷ xs) zero p q f l e h zero k = h k ∙ ap (λ y. f k (slot_answer y k)) e
set_part (x ∷ xs) zero p q f l e h (suc n) k = rw (after_zero n) refl
set_part (x ∷ xs) (suc i) p q f l e h zero k = rw (before_one i) refl
set_part (x ∷ xs) (suc i) p q f l e h (suc n) k = rw (both_after n i) (set_part xs i p q f (omega (arith, l)) e h n k)

pub part_kept : (r : Result (Unit {0}) AllocError) (xs : List PartTargets) (was : ℕ → ℕ → Option (Option FunAt)) (part slot : ℕ) (p q : PartTargets) (a : Option FunAt)
    → part < length xs → p ≡ slice_index_or xs part p → ((n k : ℕ) → answer_in (slice_get xs n) k ≡ was n k)
    → OnOk r ((k : ℕ) → slot_answer q k ≡ with_slot slot a k (slot_answer p k))
    → OnOk r ((n k : ℕ) → answer_in (slice_get (slice_set xs part q) n) k ≡ with_answer part slot a n k (was n k))
part_kept r xs was part slot p q a l e same h =
    on_ok_weaker r (λ g n k. set_part xs part p q (with_slot slot a) l e g n k ∙ ap (λ x. with_answer part slot a n k x) (same n k)) h

pub part_same : (r : Result (Unit {0}) AllocError) (xs : List PartTargets) (was : ℕ → ℕ → Option (Option FunAt)) (part : ℕ) (p q : PartTargets)
    → part < length xs → p ≡ slice_index_or xs part p → ((n k : ℕ) → answer_in (slice_get xs n) k ≡ was n k)
    → OnErr r ((k : ℕ) → slot_answer q k ≡ slot_answer p k)
    → OnErr r ((n k : ℕ) → answer_in (slice_get (slice_set xs part q) n) k ≡ was n k)
part_same r xs was part p q l e same h =
    on_err_weaker r (λ g n k. set_part xs part p q (λ k x. x) l e g n k ∙ same_either (nat_eq n part) (answer_in (slice_get xs n) k) ∙ same n k) h

-- a version keeps it
pub version_kept : (r : Result (Unit {0}) AllocError) (row : Option Version) (v : Version) (t : Targets) (part slot : ℕ) (a : Option FunAt) → row ≡ Some v
    → OnOk r ((n k : ℕ) → answer_at t n k ≡ with_answer part slot a n k (answer_at v.targets n k)) → OnOk r (HasAnswerIn row (Some (record v { targets = t })) part slot a)
version_kept r row v t part slot a e h = on_ok_weaker r (λ g. record { version = v; there = e; targets = t; after = refl; answers = g }) h

pub version_same : (r : Result (Unit {0}) AllocError) (row : Option Version) (v : Version) (t : Targets) → row ≡ Some v
    → OnErr r ((n k : ℕ) → answer_at t n k ≡ answer_at v.targets n k) → OnErr r (HasSameAnswersIn row (Some (record v { targets = t })))
version_same r row v t e h = on_err_weaker r (λ g. record { version = v; there = e; targets = t; after = refl; answers = g }) h

-- Answers that are there

among_at : (counts : List ℕ) (xs : List (Option (Option FunAt))) (k : ℕ) → All (IsAnswerAmong counts) xs → IsAnswerAmong counts (unwrap_or (slice_get xs k) None)
among_at counts [] k h = tt
among_at counts (x ∷ xs) zero h = All-head (IsAnswerAmong counts) x xs h
among_at counts (x ∷ xs) (suc k) h = among_at counts xs k (All-tail (IsAnswerAmong counts) x xs h)

pub all_among : (counts : List ℕ) (ps : List PartTargets) → All (λ (p : PartTargets). AreAllAmong counts p.answers.items) ps → (n k : ℕ) → IsAnswerAmong counts (answer_in (slice_get ps n) k)
all_among counts [] h n k = tt
all_among counts (p ∷ ps) h zero k = among_at counts p.answers.items k (All-head (λ (p : PartTargets). AreAllAmong counts p.answers.items) p ps h)
all_among counts (p ∷ ps) h (suc n) k = all_among counts ps (All-tail (λ (p : PartTargets). AreAllAmong counts p.answers.items) p ps h) n k
