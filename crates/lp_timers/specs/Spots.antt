-- Call-outs in order, by groups.
use Rattle.std.specs.Prelude.{ℕ, List, [], ◌∷◌, Bool, filter, nat_eq, Option, Some, None}
use Rattle.std.specs.declared.cmp.Ordering.{Ordering}
use Rattle.std.specs.Ordering.{nat_cmp, ordering_then, is_eq}
use Rattle.std.specs.List.{list_any}
use Rattle.lp_timers.specs.declared.spot.Spot.{Spot}

-- how a spot stands to another: by the group, then by the moment, then by the number
abbrev pub spot_cmp : Spot → Spot → Ordering
spot_cmp a b = ordering_then (nat_cmp a.group b.group) (ordering_then (nat_cmp a.due b.due) (nat_cmp a.number b.number))

-- whether a spot is of a group
abbrev pub in_group : ℕ → Spot → Bool
in_group group s = nat_eq s.group group

-- the first of some spots
abbrev pub head_spot : List Spot → Option Spot
head_spot [] = None
head_spot (s ∷ ss) = Some s

-- the first one of a group
abbrev pub first_spot : ℕ → List Spot → Option Spot
first_spot group ss = head_spot (filter (in_group group) ss)

-- whether a spot is among others
abbrev pub is_among : List Spot → Spot → Bool
is_among ss s = list_any (λ x. is_eq (spot_cmp s x)) ss
