-- What needed versions name is marked.
use Rattle.std.proofs.Common.{◌≡◌, ◌∙◌, ◌<◌, ◌≤◌, ◌+◌, ◌-◌, inl, inr, ℕ, zero, suc, Bool, true, false, List, ◌++◌, Option, None, refl, sym, ap, subst, arith, length, drop, if◌then◌else◌}
use Rattle.std.specs.List.{Contains}
use Rattle.std.proofs.lemmas.List.{at_drop_more}
use Rattle.std.proofs.lemmas.Option.{unwrap_or-slice_get}
use Rattle.lp_values.specs.declared.id.ProgId.{ProgId}
use Rattle.lp_world.specs.declared.objects.Object.{Object}
use Rattle.lp_world.specs.declared.versions.Version.{Version}
use Rattle.lp_world.specs.Rows.{row_at}
use Rattle.lp_keeping.specs.Marks.{count, is_marked, with_marks}
use Rattle.lp_keeping.specs.Needs.{AreSettled, IsNeeded, all_named, by_version, named_by, version_of, versions_of, with_named}
use Rattle.lp_keeping.proofs.Marked.{HaveGrown, MarkedHave, count_within, grown, marks_append, marks_have, marks_here, marks_len, marks_more, one_or_two}

-- one row of objects less is left
row_more : (rows : List (Option Object)) (n : ℕ) → n < length rows → versions_of (drop n rows) ≡ version_of (row_at rows n) ++ versions_of (drop (n + 1) rows)
row_more rows n l = at_drop_more versions_of rows n None l ∙ ap (λ r. version_of r ++ versions_of (drop (n + 1) rows)) (sym (unwrap_or-slice_get rows n None))

pub marked_row : (marks all : List Bool) (rows : List (Option Object)) (n : ℕ) → n < length rows → with_marks marks (versions_of (drop n rows)) ≡ all → with_marks (with_marks marks (version_of (row_at rows n))) (versions_of (drop (n + 1) rows)) ≡ all
marked_row marks all rows n l e = sym (marks_append marks (version_of (row_at rows n)) (versions_of (drop (n + 1) rows))) ∙ ap (with_marks marks) (sym (row_more rows n l)) ∙ e

-- one version less is left
pub named_next : (versions : List (Option Version)) (k n : ℕ) (marks new all : List Bool) → k ≡ suc n → new ≡ with_named versions n marks → all_named versions k marks ≡ all → all_named versions n new ≡ all
named_next versions k n marks new all e f h = ap (all_named versions n) f ∙ subst (λ m. all_named versions m marks ≡ all) e h

pub named_last : (versions : List (Option Version)) (k : ℕ) (marks all : List Bool) → k ≡ 0 → all_named versions k marks ≡ all → marks ≡ all
named_last versions k marks all e h = subst (λ m. all_named versions m marks ≡ all) e h

-- By one version: what was marked is so still, as many marks are there, and what is marked is needed.
one_len : (versions : List (Option Version)) (n : ℕ) (marks : List Bool) → length (with_named versions n marks) ≡ length marks
one_len versions n marks = by (is_marked marks n)
  where
    by : (b : Bool) → length (if b then with_marks marks (named_by (row_at versions n)) else marks) ≡ length marks
    by true = marks_len marks (named_by (row_at versions n))
    by false = refl

one_more : (versions : List (Option Version)) (n : ℕ) (marks : List Bool) (k : ℕ) → is_marked marks k ≡ true → is_marked (with_named versions n marks) k ≡ true
one_more versions n marks k h = by (is_marked marks n)
  where
    by : (b : Bool) → is_marked (if b then with_marks marks (named_by (row_at versions n)) else marks) k ≡ true
    by true = marks_more marks (named_by (row_at versions n)) k h
    by false = h

one_needed : (objects : List (Option Object)) (versions : List (Option Version)) (n : ℕ) (marks : List Bool) → MarkedHave (IsNeeded objects versions) marks → MarkedHave (IsNeeded objects versions) (with_named versions n marks)
one_needed objects versions n marks h = by (is_marked marks n) refl
  where
    by : (b : Bool) → is_marked marks n ≡ b → MarkedHave (IsNeeded objects versions) (if b then with_marks marks (named_by (row_at versions n)) else marks)
    by true e = marks_have (IsNeeded objects versions) marks (named_by (row_at versions n)) h (λ p c. by_version (record { 0 = n }) p (h n e) c)
    by false e = h

one_named : (versions : List (Option Version)) (n : ℕ) (marks : List Bool) → is_marked marks n ≡ true → (p : ProgId) → Contains (named_by (row_at versions n)) p → p.0 < length marks → is_marked (with_named versions n marks) p.0 ≡ true
one_named versions n marks h p c l =
    subst (λ b. is_marked (if b then with_marks marks (named_by (row_at versions n)) else marks) p.0 ≡ true) (sym h) (marks_here marks (named_by (row_at versions n)) p c l)

-- by all below a number
all_len : (versions : List (Option Version)) (k : ℕ) (marks : List Bool) → length (all_named versions k marks) ≡ length marks
all_len versions zero marks = refl
all_len versions (suc k) marks = all_len versions k (with_named versions k marks) ∙ one_len versions k marks

all_more : (versions : List (Option Version)) (k : ℕ) (marks : List Bool) (n : ℕ) → is_marked marks n ≡ true → is_marked (all_named versions k marks) n ≡ true
all_more versions zero marks n h = h
all_more versions (suc k) marks n h = all_more versions k (with_named versions k marks) n (one_more versions k marks n h)

all_needed : (objects : List (Option Object)) (versions : List (Option Version)) (k : ℕ) (marks : List Bool) → MarkedHave (IsNeeded objects versions) marks → MarkedHave (IsNeeded objects versions) (all_named versions k marks)
all_needed objects versions zero marks h = h
all_needed objects versions (suc k) marks h = all_needed objects versions k (with_named versions k marks) (one_needed objects versions k marks h)

all_have : (versions : List (Option Version)) (k : ℕ) (marks : List Bool) (n : ℕ) → n < k → is_marked marks n ≡ true → (p : ProgId) → Contains (named_by (row_at versions n)) p → p.0 < length marks → is_marked (all_named versions k marks) p.0 ≡ true
all_have versions zero marks n l h p c m = absurd (none n l)
  where
    none : (n : ℕ) → n < 0 → ⊥
    none n l = omega arith
all_have versions (suc k) marks n l h p c m = elim (one_or_two n k) [
  | inl e ↦ all_more versions k (with_named versions k marks) p.0 (one_named versions k marks (subst (λ j. is_marked marks j ≡ true) e h) p (subst (λ j. Contains (named_by (row_at versions j)) p) e c) m)
  | inr d ↦ all_have versions k (with_named versions k marks) n (below n k l d) (one_more versions k marks n h) p c (subst (λ j. p.0 < j) (sym (one_len versions k marks)) m)
]
  where
    below : (n k : ℕ) → n < suc k → (n ≡ k → ⊥) → n < k
    below n k l d = omega (arith, l, d)

-- Passes

-- marks that grew by what marked ones name
pub record AreReached (versions : List (Option Version)) (old new : List Bool) : Type 0 where
  pub len : length new ≡ length old
  pub more : (n : ℕ) → is_marked old n ≡ true → is_marked new n ≡ true
  pub needed : (objects : List (Option Object)) → MarkedHave (IsNeeded objects versions) old → MarkedHave (IsNeeded objects versions) new

pub reached_first : (versions : List (Option Version)) (marks : List Bool) → AreReached versions marks marks
reached_first versions marks = record { len = refl; more = λ n h. h; needed = λ objects h. h }

pub reached_more : (versions : List (Option Version)) (first marks new : List Bool) → new ≡ all_named versions (length versions) marks → AreReached versions first marks → AreReached versions first new
reached_more versions first marks new e r =
    subst (AreReached versions first) (sym e) (record {
      len = all_len versions (length versions) marks ∙ r.len;
      more = λ n h. all_more versions (length versions) marks n (r.more n h);
      needed = λ objects h. all_needed objects versions (length versions) marks (r.needed objects h);
    })

-- a pass marks more, or none
pass : (versions : List (Option Version)) (marks new : List Bool) → new ≡ all_named versions (length versions) marks → HaveGrown marks new
pass versions marks new e =
    subst (HaveGrown marks) (sym e) (grown marks (all_named versions (length versions) marks) (all_len versions (length versions) marks) (all_more versions (length versions) marks))

pub fewer_left : (versions : List (Option Version)) (marks new : List Bool) (before behind : ℕ) → new ≡ all_named versions (length versions) marks → before ≡ count marks → behind ≡ count new → (behind ≡ before → ⊥) → length new - count new < length marks - count marks
fewer_left versions marks new before behind e a b d =
    let g : HaveGrown marks new = pass versions marks new e in
    let len : length new ≡ length marks = ap length e ∙ all_len versions (length versions) marks in
    let more : count marks ≤ count new = g.more in
    let inside : count new ≤ length new = count_within new in
    let other : count new ≡ count marks → ⊥ = λ q. d (b ∙ q ∙ sym a) in
    omega (arith, len, more, inside, other)

-- no mark is new: each needed version has what it names
pub settled_last : (versions : List (Option Version)) (first marks new : List Bool) → new ≡ all_named versions (length versions) marks → count new ≡ count marks → AreReached versions first marks → AreSettled versions first new
settled_last versions first marks new e q r =
    let g : HaveGrown marks new = pass versions marks new e in
    let same : new ≡ marks = g.same q in
    subst (AreSettled versions first) (sym same) (record {
      len = r.len;
      more = r.more;
      needed = r.needed;
      named = λ n l h p c m. subst (λ ms. is_marked ms p.0 ≡ true) (sym e ∙ same) (all_have versions (length versions) marks n l h p c m);
    })
