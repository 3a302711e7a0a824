-- What was found for the slots of a version's parts.
use Rattle.std.specs.Prelude.{◌≡◌, ◌<◌, ⊤, All, ℕ, List, Option, Some, None, slice_get, slice_set, unwrap_or, nat_eq, if◌then◌else◌}
use Rattle.lp_world.specs.declared.targets.FunAt.{FunAt}
use Rattle.lp_world.specs.declared.targets.PartTargets.{PartTargets}
use Rattle.lp_world.specs.declared.targets.Targets.{Targets}
use Rattle.lp_world.specs.declared.versions.Version.{Version}

abbrev pub answer_in : Option PartTargets → ℕ → Option (Option FunAt)
answer_in None slot = None
answer_in (Some p) slot = unwrap_or (slice_get p.answers.items slot) None

-- the answer that is kept for a slot of a part, if one is
abbrev pub answer_at : Targets → ℕ → ℕ → Option (Option FunAt)
answer_at t part slot = answer_in (slice_get t.parts.items part) slot

abbrev pub slot_answer : PartTargets → ℕ → Option (Option FunAt)
slot_answer p slot = unwrap_or (slice_get p.answers.items slot) None

-- what is kept once an answer was found for a slot, and for a slot of a part
abbrev pub with_slot : ℕ → Option FunAt → ℕ → Option (Option FunAt) → Option (Option FunAt)
with_slot slot answer k was = if nat_eq k slot then Some answer else was

abbrev pub with_answer : ℕ → ℕ → Option FunAt → ℕ → ℕ → Option (Option FunAt) → Option (Option FunAt)
with_answer part slot answer n k was = if nat_eq n part then with_slot slot answer k was else was

-- A version keeps one answer more, and is else as it was.
pub record HasAnswerIn (old new : Option Version) (part slot : ℕ) (answer : Option FunAt) : Type 0 where
  pub version : Version
  pub there : old ≡ Some version
  pub targets : Targets
  pub after : new ≡ Some (record version { targets = targets })
  pub answers : (n k : ℕ) → answer_at targets n k ≡ with_answer part slot answer n k (answer_at version.targets n k)

-- It keeps the same answers, and is else as it was.
pub record HasSameAnswersIn (old new : Option Version) : Type 0 where
  pub version : Version
  pub there : old ≡ Some version
  pub targets : Targets
  pub after : new ≡ Some (record version { targets = targets })
  pub answers : (n k : ℕ) → answer_at targets n k ≡ answer_at version.targets n k

-- One version does, and the others are as they were.
pub record HasAnswer (old new : List (Option Version)) (p part slot : ℕ) (answer : Option FunAt) : Type 0 where
  pub row : Option Version
  pub after : new ≡ slice_set old p row
  pub has : HasAnswerIn (unwrap_or (slice_get old p) None) row part slot answer

pub record HasSameAnswers (old new : List (Option Version)) (p : ℕ) : Type 0 where
  pub row : Option Version
  pub after : new ≡ slice_set old p row
  pub has : HasSameAnswersIn (unwrap_or (slice_get old p) None) row

-- a part has a function at a row, where the parts have so many functions
pub record IsAmong (counts : List ℕ) (part fun : ℕ) : Type 0 where
  pub count : ℕ
  pub listed : slice_get counts part ≡ Some count
  pub row : fun < count

-- and so has the part of an answer, where it is a function
abbrev pub IsAnswerAmong : List ℕ → Option (Option FunAt) → Type 0
IsAnswerAmong counts None = ⊤
IsAnswerAmong counts (Some None) = ⊤
IsAnswerAmong counts (Some (Some f)) = IsAmong counts f.part f.fun

abbrev pub AreAllAmong : List ℕ → List (Option (Option FunAt)) → Type 0
AreAllAmong counts answers = All (IsAnswerAmong counts) answers
