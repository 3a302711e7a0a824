use Rattle.std.proofs.Common.{ap, refl}
use Rattle.std.specs.Option.{option_copied}
use Rattle.lp_world.specs.declared.live.Live.{Live}
use Rattle.lp_calling.specs.declared.wish.FileDeed.TheVariants as deeds
use Rattle.lp_calling.specs.Leave.{scene_of}
use Rattle.lp_saving.proofs.Kept.{kept_with, only_variables}
use Rattle.lp_saving.proofs.keeping.restore.Goals as goal

pub end_with-requires : goal.end_with-requires
end_with-requires c = record { there = c.in_ok-outcome.ensures.there c.restore_object.new.live.cells }

pub returns-clause-keeps : goal.returns-clause-keeps
returns-clause-keeps c =
    let a = c.args in
    kept_with a.efun (deeds.Restore a.this) (option_copied a.path) a.this a.code.now a.live.now c.restore_object.new.live a.stack.now.items c.end_with.new.stack.items a.low a.budget.now c.end_with.new.budget c.end_with.result c.in_ok-outcome.outcome
    (c.in_ok-outcome.ensures.comes (scene_of a.this) refl) (ap (λ (l : Live). l.outputs) c.in_ok-outcome.ensures.others) (c.in_ok-outcome.ensures.there c.restore_object.new.live.cells) c.end_with.ensures.finishes c.end_with.ensures.items

pub returns-clause-only : goal.returns-clause-only
returns-clause-only c = only_variables c.args.live.now c.restore_object.new.live c.in_ok-outcome.ensures.others
