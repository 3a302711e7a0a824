-- A version keeps one answer more.
use Rattle.std.proofs.Common.{◌≡◌, ◌∙◌, ◌⊎◌, ◌++◌, ℕ, zero, suc, Bool, true, false, List, [], ◌∷◌, Option, Some, None, refl, ap, sym, subst, inl, inr, slice_get, unwrap_or, nat_eq, if◌then◌else◌}
use Rattle.std.specs.Prelude.{slice_set}
use Rattle.std.specs.List.{flat_map}
use Rattle.std.proofs.lemmas.Bool.Decides.{Decides-eqb}
use Rattle.lp_values.specs.declared.id.ProgId.{ProgId}
use Rattle.lp_code.specs.declared.program.RawProgram.{RawProgram}
use Rattle.lp_swapfile.specs.Device.{Bytes}
use Rattle.lp_swapfile.specs.Room.{AreTaken}
use Rattle.lp_language.specs.World.{World}
use Rattle.lp_world.specs.Closed.{IsClosed, object_extents, version_extents}
use Rattle.lp_world.specs.Rows.{row_at, version_state}
use Rattle.lp_world.specs.Stands.{IsTarget, Stands, heritage_in, slot_of_part}
use Rattle.lp_language.specs.Resolve.{part_at}
use Rattle.lp_world.specs.Targets.{HasAnswer, HasSameAnswers, answer_at, with_answer}
use Rattle.lp_world.specs.declared.live.Live.{Live}
use Rattle.lp_world.specs.declared.targets.FunAt.{FunAt}
use Rattle.lp_world.specs.declared.targets.Targets.{Targets}
use Rattle.lp_world.specs.declared.versions.Version.{Version}
use Rattle.lp_world.proofs.Keeping.{get_set, get_set_here, same_or_not}
use Rattle.lp_residence.specs.Owners.{program_of}
use Rattle.lp_residence.proofs.VersionChanges.{closed_with_version, stands_with_version}
use Rattle.lp_targets.specs.Brought.{IsSameVersion, StaysInMemory, program_at}
use Rattle.lp_targets.specs.Callees.{IsKeepable}
use Rattle.lp_targets.proofs.Memory.{same_object, same_version}

-- each answer is the new one or one from before
abbrev Only : Targets → Targets → ℕ → ℕ → Option FunAt → Type 0
Only old new part slot answer = (n k : ℕ) (a : Option FunAt) → answer_at new n k ≡ Some a → ((n ≡ part) × (k ≡ slot) × (answer ≡ a)) ⊎ (answer_at old n k ≡ Some a)

pub record IsKeptIn (old new : List (Option Version)) (p part slot : ℕ) (answer : Option FunAt) : Type 0 where
  pub version : Version
  pub there : slice_get old p ≡ Some (Some version)
  pub targets : Targets
  pub after : new ≡ slice_set old p (Some (record version { targets = targets }))
  pub only : Only version.targets targets part slot answer

either_one : (part slot : ℕ) (answer : Option FunAt) (n k : ℕ) (was : Option (Option FunAt)) (a : Option FunAt) → with_answer part slot answer n k was ≡ Some a → ((n ≡ part) × (k ≡ slot) × (answer ≡ a)) ⊎ (was ≡ Some a)
either_one part slot answer n k was a e = by (nat_eq n part) refl (nat_eq k slot) refl e
  where
    by : (b : Bool) → nat_eq n part ≡ b → (c : Bool) → nat_eq k slot ≡ c → (if b then (if c then Some answer else was) else was) ≡ Some a → ((n ≡ part) × (k ≡ slot) × (answer ≡ a)) ⊎ (was ≡ Some a)
    by false x c y e = inr e
    by true x false y e = inr e
    by true x true y e = inl ((Decides-eqb n part).0 x, (Decides-eqb k slot).0 y, ap (λ o. unwrap_or o answer) e)

found_row : (o : Option (Option Version)) (v : Version) → unwrap_or o None ≡ Some v → o ≡ Some (Some v)
found_row None v e = cc
found_row (Some r) v e = ap (λ z. Some z) e

pub kept_more : (old new : List (Option Version)) (p part slot : ℕ) (answer : Option FunAt) → HasAnswer old new p part slot answer → IsKeptIn old new p part slot answer
kept_more old new p part slot answer h = record {
  version = h.has.version;
  there = found_row (slice_get old p) h.has.version h.has.there;
  targets = h.has.targets;
  after = h.after ∙ ap (slice_set old p) h.has.after;
  only = λ n k a e. either_one part slot answer n k (answer_at h.has.version.targets n k) a (sym (h.has.answers n k) ∙ e);
}

pub kept_same : (old new : List (Option Version)) (p part slot : ℕ) (answer : Option FunAt) → HasSameAnswers old new p → IsKeptIn old new p part slot answer
kept_same old new p part slot answer h = record {
  version = h.has.version;
  there = found_row (slice_get old p) h.has.version h.has.there;
  targets = h.has.targets;
  after = h.after ∙ ap (slice_set old p) h.has.after;
  only = λ n k a e. inr (sym (h.has.answers n k) ∙ e);
}

same_extents : (xs : List (Option Version)) (n : ℕ) (v u : Version) → slice_get xs n ≡ Some (Some v) → u.state ≡ v.state → flat_map version_extents (slice_set xs n (Some u)) ≡ flat_map version_extents xs
same_extents [] n v u e s = cc
same_extents (x ∷ xs) zero v u e s = ap (λ z. z ++ flat_map version_extents xs) (ap (λ z. version_extents (Some (record v { state = z }))) s ∙ ap (λ o. version_extents (unwrap_or o None)) (sym e))
same_extents (x ∷ xs) (suc n) v u e s = ap (λ z. version_extents x ++ z) (same_extents xs n v u e s)

pub kept_closed : (live : Live) (new : List (Option Version)) (p : ProgId) (part slot : ℕ) (answer : Option FunAt) → IsClosed live → IsKeptIn live.versions new p.0 part slot answer → IsKeepable live.versions (program_at live.versions p) answer
    → IsClosed (record live { versions = new })
kept_closed live new p part slot answer h k answers =
    let v = k.version in
    let u : Version = record v { targets = k.targets } in
    let was = h.versions p.0 v k.there in
    subst (λ vs. IsClosed (record live { versions = vs })) (sym k.after)
    (closed_with_version live p.0 v u live.swapper h k.there refl (record {
      lower = was.lower;
      parents = was.parents;
      parts = was.parts;
      variables = was.variables;
      program = λ q e. let c = was.program q e in record {
        outline = c.outline;
        slots = c.slots;
        rows = c.rows;
        targets = λ n m f g. elim (k.only n m (Some f) g) [
          | inl s ↦ subst (λ a. IsKeepable live.versions (Some q) a) s.2 (subst (λ o. IsKeepable live.versions o answer)
              (ap (λ o. program_of (version_state (unwrap_or o None))) k.there ∙ ap (λ s. program_of (Some s)) e) answers)
          | inr b ↦ c.targets n m f b
        ];
      };
    }) (subst (λ es. AreTaken (flat_map object_extents live.objects ++ es) live.swapper) (sym (same_extents live.versions p.0 v u k.there refl)) h.room))

pub kept_stands : (told : Option Bytes) (programs : List RawProgram) (live : Live) (w : World) (new : List (Option Version)) (p : ProgId) (part slot : ℕ) (answer : Option FunAt)
    → Stands told programs live w → IsKeptIn live.versions new p.0 part slot answer
    → IsTarget (heritage_in w.versions p) (part_at (heritage_in w.versions p) part) (slot_of_part programs (part_at (heritage_in w.versions p) part) slot) answer
    → Stands told programs (record live { versions = new }) w
kept_stands told programs live w new p part slot answer h k is =
    let v = k.version in
    let was = h.versions.each p.0 v k.there in
    subst (λ vs. Stands told programs (record live { versions = vs }) w) (sym k.after)
    (stands_with_version told programs live w p.0 v (record v { targets = k.targets }) h k.there (record {
      version = was.version;
      there = was.there;
      path = was.path;
      latest = was.latest;
      parents = was.parents;
      program = was.program;
      is = was.is;
      outline = was.outline;
      state = was.state;
      targets = λ n m a g. elim (k.only n m a g) [
        | inl s ↦
            subst (λ z. IsTarget (heritage_in w.versions p) (part_at (heritage_in w.versions p) z) (slot_of_part programs (part_at (heritage_in w.versions p) z) m) a) (sym s.0)
            (subst (λ z. IsTarget (heritage_in w.versions p) (part_at (heritage_in w.versions p) part) (slot_of_part programs (part_at (heritage_in w.versions p) part) z) a) (sym s.1)
            (subst (λ z. IsTarget (heritage_in w.versions p) (part_at (heritage_in w.versions p) part) (slot_of_part programs (part_at (heritage_in w.versions p) part) slot) z) s.2 is))
        | inr b ↦ was.targets n m a b
      ];
    }))

pub kept_stays : (live : Live) (new : List (Option Version)) (p part slot : ℕ) (answer : Option FunAt) → IsKeptIn live.versions new p part slot answer → StaysInMemory live (record live { versions = new })
kept_stays live new p part slot answer k =
    let v = k.version in
    let u : Version = record v { targets = k.targets } in
    let here : slice_get new p ≡ Some (Some u) = ap (λ l. slice_get l p) k.after ∙ get_set_here live.versions p (Some u) (Some v) k.there in
    let other : (n : ℕ) → (p ≡ n → ⊥) → slice_get new n ≡ slice_get live.versions n = λ n d. ap (λ l. slice_get l n) k.after ∙ get_set live.versions p n (Some u) d in
    record {
      others = refl;
      objects = λ n x e. (x, e, same_object x);
      versions = λ n x e. elim (same_or_not p n) [
        | inl s ↦
            let is : v ≡ x = ap (λ o. unwrap_or (unwrap_or o None) v) (sym k.there ∙ ap (slice_get live.versions) s) ∙ ap (λ o. unwrap_or o v) e in
            (u, ap (λ z. row_at new z) (sym s) ∙ ap (λ o. unwrap_or o None) here, subst (λ (y : Version). IsSameVersion y u) is (record { latest = refl; outline = refl }))
        | inr d ↦ (x, ap (λ o. unwrap_or o None) (other n d) ∙ e, same_version x)
      ];
      variables = λ o vs e. e;
      programs = λ q raw e. elim (same_or_not p q.0) [
        | inl s ↦
            let was : program_of (Some v.state) ≡ Some raw = ap (λ o. program_of (version_state (unwrap_or o None))) (sym k.there ∙ ap (slice_get live.versions) s) ∙ e in
            ap (λ o. program_of (version_state (unwrap_or o None))) (ap (slice_get new) (sym s) ∙ here) ∙ was
        | inr d ↦ ap (λ o. program_of (version_state (unwrap_or o None))) (other q.0 d) ∙ e
      ];
    }
