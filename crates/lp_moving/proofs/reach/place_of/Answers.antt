use Rattle.std.proofs.Math.Logic.{∥∥₁_elim}
use Rattle.lp_moving.proofs.Placed.{option_object_set, placed_there}
use Rattle.lp_moving.specs.Reaching.{place_in}
use Rattle.lp_moving.proofs.reach.place_of.Goals as goal

pub returns : goal.returns
returns c = ∥∥₁_elim c.args.reach.placed (option_object_set c.environment.result (place_in c.args.reach.places.now c.args.ob)) (λ p. placed_there c.args.reach.places.now p c.args.ob c.environment.result c.environment.ensures)
