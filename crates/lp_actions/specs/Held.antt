-- The actions that are held, and the list of them all.
use Rattle.std.specs.Prelude.{◌≡◌, ℕ, ◌<◌, List, [], ◌∷◌, filter}
use Rattle.lp_values.specs.declared.id.ObjId.{ObjId}
use Rattle.lp_actions.specs.declared.actions.Actions.{Actions}
use Rattle.lp_places.specs.Places.{is_object}
use Rattle.lp_actions.specs.Actions.{Sentence}
use Rattle.lp_actions.specs.Stored.{of_holder}

-- the number of the next action
abbrev pub next_in : Actions → ℕ
next_in a = a.next

-- the actions of an object, the latest first
abbrev pub held_in : Actions → ObjId → List Sentence
held_in a holder = of_holder holder a.deeds.entries

-- the same among all, the latest first
abbrev pub held_by : List Sentence → ObjId → List Sentence
held_by sentences holder = filter (λ s. is_object s.holder holder) sentences

-- each number is below those before it, and the first below a bound
abbrev pub AreFallingBelow : ℕ → List Sentence → Type 0
AreFallingBelow n [] = Unit {0}
AreFallingBelow n (s ∷ ss) = (s.number < n) × AreFallingBelow s.number ss

-- A list has the actions that are held, the latest first: each object's are there in their order, and no others. Their
-- numbers fall, so that there is only one such list.
pub record Lists (a : Actions) (sentences : List Sentence) : Type 0 where
  pub each : (holder : ObjId) → held_by sentences holder ≡ held_in a holder
  pub numbers : AreFallingBelow a.next sentences

-- nothing changed
pub record IsSame (old new : Actions) : Type 0 where
  pub held : (holder : ObjId) → held_in new holder ≡ held_in old holder
  pub next : new.next ≡ old.next
