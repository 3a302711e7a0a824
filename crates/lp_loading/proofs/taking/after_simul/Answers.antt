use Rattle.std.proofs.Common.{◌∙◌, ap, sym}
use Rattle.lp_language.specs.World.{object_named}
use Rattle.lp_loading.specs.declared.job.Waiting.TheVariants as waitings
use Rattle.lp_loading.proofs.Answered.{object_ends, simul_reads}
use Rattle.lp_loading.proofs.taking.after_simul.Goals as goal

pub returns-in-Some-clause-takes : goal.returns-in-Some-clause-takes
returns-in-Some-clause-takes c = λ v x told turn budget e.
    object_ends c.args.job.now c.args.job.now waitings.Simul v x c.in-Some.o told c.args.live.now turn budget e
    (λ told programs w h. sym c.in-Some.is ∙ c.in_ok-own.ensures told programs w h ∙ ap (object_named w) c.as_slice.ensures)

pub returns-in-None-clause-takes : goal.returns-in-None-clause-takes
returns-in-None-clause-takes c = λ v x told turn budget e.
    simul_reads c.args.job.now v x told c.args.live.now turn budget e (λ told programs w h. sym c.in-None.is ∙ c.in_ok-own.ensures told programs w h ∙ ap (object_named w) c.as_slice.ensures)
