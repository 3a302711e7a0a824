use Rattle.std.proofs.Common.{subst, sym}
use Rattle.std.specs.Str.{chars}
use Rattle.lp_instr.specs.declared.efun.Efun.TheVariants as efuns
use Rattle.lp_calling.specs.declared.job.Begun.TheVariants as begun
use Rattle.lp_calling.specs.declared.job.Stage.TheVariants as stages
use Rattle.lp_calling.specs.Beginning.{Starts}
use Rattle.lp_calling.proofs.Loading.{load_starts}
use Rattle.lp_calling.proofs.load.load_named.Goals as goal

pub returns-clause-starts : goal.returns-clause-starts
returns-clause-starts c = λ caller.
    let a = c.args in
    subst (λ m. Starts (begun.Runs (record { efun = efuns.LoadObject; low = a.low; stage = stages.Load m })) efuns.LoadObject caller a.live.now a.low a.stack.now.items a.stack.now.items) (sym c.in_ok-name.ensures)
    (load_starts caller a.live.now a.low a.stack.now.items (chars a.name.now) c.requires.low c.requires.means c.requires.unnamed c.requires.other)
