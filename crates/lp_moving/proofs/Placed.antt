-- The table of places and the lists for which it stands.
use Rattle.std.proofs.Common.{◌≡◌, ◌∙◌, List, Option, Some, None, refl, ap, sym}
use Rattle.std.proofs.Math.Nat.{ℕ_set}
use mathlib.Core.Sum.{⊎_set}
use mathlib.Core.Path.{fun_ext}
use Rattle.lp_values.specs.declared.id.ObjId.{ObjId}
use Rattle.lp_places.specs.Places.{Lying, Shadowing, environment, in_reach}
use Rattle.lp_places.specs.Stands.{Stands}
use Rattle.lp_places.specs.declared.places.Places.{Places}
use Rattle.lp_world.specs.Closed.{ArePlaced}
use Rattle.lp_moving.specs.Reaching.{place_in, reached_in, reaches_by}

-- two objects that there may be are one in one way
pub option_object_set : (a b : Option ObjId) → IsProp (a ≡ b)
option_object_set = hlevel (ℕ_set, ⊎_set)

pub placed_there : (t : Places) → ArePlaced t → (o : ObjId) (r : Option ObjId) → ((places : List Lying) (shadows : List Shadowing) → Stands t places shadows → r ≡ environment places o) → r ≡ place_in t o
placed_there t p o r h = h p.lyings p.shadowings p.stands ∙ sym (p.stands.lyings.forward o.0)

by_around : (places : List Lying) (around : Option ObjId) (holder giver : ObjId) → environment places holder ≡ around → in_reach places holder giver ≡ reaches_by around (environment places giver) holder giver
by_around places None holder giver e = rw e refl
by_around places (Some x) holder giver e = rw e refl

-- reach by the table is reach by the lists
pub reach_same : (t : Places) (places : List Lying) (shadows : List Shadowing) → Stands t places shadows → reached_in t ≡ in_reach places
reach_same t places shadows h = fun_ext (λ holder. fun_ext (λ giver.
    ap (λ x. reaches_by x (place_in t giver) holder giver) (h.lyings.forward holder.0)
    ∙ ap (λ x. reaches_by (environment places holder) x holder giver) (h.lyings.forward giver.0)
    ∙ sym (by_around places (environment places holder) holder giver refl)))
