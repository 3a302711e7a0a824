-- Actions of living objects, and the parts of a command's line.
use Rattle.std.specs.Prelude.{ℕ, List, [], ◌∷◌, Bool, not, nat_eq, ◌&&◌, if◌then◌else◌, Option, Some, None, filter}
use Rattle.std.specs.Cmp.Lexicographic.{pointwise}
use Rattle.std.specs.List.{list_any, starts_with, before_first}
use Rattle.lp_values.specs.declared.id.ObjId.{ObjId}
use Rattle.lp_places.specs.Places.{Lying, in_reach, is_object}

-- An action: who may do it, whose function it is, that function and the verb, and whether a front of what is typed
-- is enough.
pub record Sentence : Type 0 where
  pub number : ℕ
  pub holder : ObjId
  pub giver : ObjId
  pub function : List ℕ
  pub verb : List ℕ
  pub is_front : Bool

-- an action matches where its verb is equal, or with the flag where it is a prefix of the typed one
abbrev pub matches : List ℕ → Sentence → Bool
matches typed s = if s.is_front then starts_with nat_eq typed s.verb else pointwise nat_eq s.verb typed

-- the actions of an object that match, the latest first
abbrev pub matching : List Sentence → ObjId → List ℕ → List Sentence
matching sentences holder typed = filter (λ s. is_object s.holder holder && matches typed s) sentences

-- an object still holds the action with a number
abbrev pub holds : List Sentence → ObjId → ℕ → Bool
holds sentences holder number = list_any (λ s. is_object s.holder holder && nat_eq s.number number) sentences

-- each action whose giver is not in reach of its holder is dropped
abbrev pub kept_in_reach : List Lying → List Sentence → List Sentence
kept_in_reach places sentences = filter (λ s. in_reach places s.holder s.giver) sentences

-- the same, whichever objects are in reach of which
abbrev pub kept_by : (ObjId → ObjId → Bool) → List Sentence → List Sentence
kept_by reaches sentences = filter (λ s. reaches s.holder s.giver) sentences

-- the actions that an object holds end with it
abbrev pub sentences_without : List Sentence → ObjId → List Sentence
sentences_without sentences o = filter (λ s. not (is_object s.holder o)) sentences

-- the verb of a line: the text before its first space
abbrev pub verb_of : List ℕ → List ℕ
verb_of line = before_first (λ c. nat_eq c 32) line

-- the argument: the text after it, where there is a space
abbrev pub argument_in : List ℕ → Option (List ℕ)
argument_in [] = None
argument_in (c ∷ cs) = if nat_eq c 32 then Some cs else argument_in cs
