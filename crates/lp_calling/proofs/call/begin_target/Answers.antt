use Rattle.std.proofs.Common.{◌∙◌, ap, map, subst, sym}
use Rattle.std.specs.Str.{chars}
use Rattle.lp_ops.specs.Operands.{operand}
use Rattle.lp_meaning.specs.EfunArguments.{text_arg}
use Rattle.lp_instr.specs.declared.efun.Efun.TheVariants as efuns
use Rattle.lp_calling.specs.declared.job.Begun.TheVariants as begun
use Rattle.lp_calling.specs.declared.job.Stage.TheVariants as stages
use Rattle.lp_calling.specs.Beginning.{Starts}
use Rattle.lp_calling.proofs.Calling.{target_starts}
use Rattle.lp_calling.proofs.call.begin_target.Goals as goal

pub returns-clause-starts : goal.returns-clause-starts
returns-clause-starts c = λ caller.
    let a = c.args in
    subst (λ m. Starts (begun.Runs (record { efun = efuns.CallOther; low = a.low; stage = stages.Target m c.in_ok-function.function })) efuns.CallOther caller a.live.now a.low a.stack.now.items a.stack.now.items) (sym c.in_ok-name.ensures)
    (target_starts caller a.live.now a.low a.stack.now.items (chars a.name.now) c.in_ok-function.function c.requires.low c.requires.unnamed c.requires.other
    (λ l cells. c.in_ok-function.ensures l cells ∙ ap (λ ws. text_arg (map (operand l cells) ws) 1) c.above.ensures))
