-- Actions as they are kept.
use Rattle.std.specs.Prelude.{ℕ, List, [], ◌∷◌, Bool, filter, map, reverse, nat_eq, Option, Some, None}
use Rattle.std.specs.declared.cmp.Ordering.{Ordering}
use Rattle.std.specs.Ordering.{nat_cmp, ordering_then}
use Rattle.lp_values.specs.declared.id.ObjId.{ObjId}
use Rattle.lp_actions.specs.declared.sentence.Sentence as given
use Rattle.lp_actions.specs.declared.sentence.Place.{Place}
use Rattle.lp_actions.specs.declared.sentence.Deed.{Deed}
use Rattle.lp_actions.specs.Actions.{Sentence}

-- an action that is given out, with its holder
abbrev pub sentence_of : ObjId → given.Sentence → Sentence
sentence_of holder s = record { number = s.number; holder = holder; giver = s.giver; function = s.fun; verb = s.verb; is_front = s.flag }

-- an action that is kept, with its holder and its number
abbrev pub sentence_from : ObjId → ℕ → Deed → Sentence
sentence_from holder number d = record { number = number; holder = holder; giver = d.giver; function = d.fun; verb = d.verb; is_front = d.flag }

-- an action that is kept at a place
abbrev pub entry_sentence : Place × Deed → Sentence
entry_sentence e = sentence_from (record { 0 = e.0.holder }) e.0.number e.1

-- whether an entry is an action of an object
abbrev pub is_of : ObjId → Place × Deed → Bool
is_of holder e = nat_eq e.0.holder holder.0

-- the actions of an object among entries by holder and number, the latest first
abbrev pub of_holder : ObjId → List (Place × Deed) → List Sentence
of_holder holder es = reverse (map entry_sentence (filter (is_of holder) es))

-- the place of the first of some entries
abbrev pub head_place : List (Place × Deed) → Option Place
head_place [] = None
head_place (e ∷ es) = Some e.0

-- the place of the first action of an object
abbrev pub first_place : ObjId → List (Place × Deed) → Option Place
first_place holder es = head_place (filter (is_of holder) es)

-- how a place stands to another: by the holder, then by the number
abbrev pub place_cmp : Place → Place → Ordering
place_cmp a b = ordering_then (nat_cmp a.holder b.holder) (nat_cmp a.number b.number)
