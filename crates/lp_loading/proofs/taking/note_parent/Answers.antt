use Rattle.std.proofs.Common.{refl, sym}
use Rattle.lp_loading.proofs.Answered.{parent_reads}
use Rattle.lp_loading.proofs.taking.note_parent.Goals as goal

pub returns-in_ok-insert-in-Some-clause-takes : goal.returns-in_ok-insert-in-Some-clause-takes
returns-in_ok-insert-in-Some-clause-takes c = λ v told turn budget e.
    parent_reads c.args.job.now _ c.args.name v c.args.ob c.in-Some.version told c.args.live.now turn budget e c.requires.none (sym c.in-Some.ensures) refl refl refl c.in_ok-insert-in-Some.ensures.items
