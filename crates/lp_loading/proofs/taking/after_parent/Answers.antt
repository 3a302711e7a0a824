use Rattle.std.proofs.Common.{◌∙◌, ap, sym}
use Rattle.lp_language.specs.World.{object_named}
use Rattle.lp_loading.specs.declared.job.Waiting.TheVariants as waitings
use Rattle.lp_loading.proofs.Answered.{object_ends}
use Rattle.lp_loading.proofs.taking.after_parent.Goals as goal

pub note_parent-requires : goal.note_parent-requires
note_parent-requires c = record { none = λ told programs w h. sym c.in-None.is ∙ c.in_ok-own.ensures told programs w h ∙ ap (object_named w) c.as_slice.ensures }

pub returns-in-Some-clause-takes : goal.returns-in-Some-clause-takes
returns-in-Some-clause-takes c = λ v told turn budget e.
    object_ends c.args.job.now c.args.job.now (waitings.Parent c.args.name) v c.args.ob c.in-Some.o told c.args.live.now turn budget e
    (λ told programs w h. sym c.in-Some.is ∙ c.in_ok-own.ensures told programs w h ∙ ap (object_named w) c.as_slice.ensures)
