use Rattle.std.proofs.Common.{◌≡◌, ◌∙◌, drop, subst, sym, take}
use Rattle.std.proofs.lemmas.Result.{IfOk-weaker}
use Rattle.lp_values.specs.declared.error.ErrorKind.TheVariants.{BadTarget}
use Rattle.lp_values.specs.Errors.{plain}
use Rattle.lp_instr.specs.declared.efun.Efun.TheVariants as efuns
use Rattle.lp_efuns.specs.declared.answer.Answer.TheVariants as answers
use Rattle.lp_calling.specs.declared.job.Begun.TheVariants as begun
use Rattle.lp_calling.specs.Beginning.{Starts}
use Rattle.lp_calling.proofs.Calling.{dead_target, named_target, no_call_starts}
use Rattle.lp_calling.proofs.call.begin_found.Goals as goal

pub begin_live-requires-clause-target : goal.begin_live-requires-clause-target
begin_live-requires-clause-target c = named_target c.args.live.now (drop c.args.low c.args.stack.now.items) c.args.o c.requires.named (sym c.is_live.ensures ∙ c.if-is_live.true)

pub returns-clause-starts : goal.returns-clause-starts
returns-clause-starts c =
    IfOk-weaker c.begin_error.result (λ r. (r ≡ begun.Ends (answers.Error (plain BadTarget))) × (c.begin_error.new.stack.items ≡ take c.args.low c.args.stack.now.items)) _
    (λ r k. λ caller. subst (λ r. Starts r efuns.CallOther caller c.args.live.now c.args.low c.args.stack.now.items c.begin_error.new.stack.items) (sym k.0)
    (no_call_starts caller c.args.live.now c.args.low c.args.stack.now.items c.begin_error.new.stack.items k.1
    (dead_target c.args.live.now (drop c.args.low c.args.stack.now.items) c.args.o c.requires.named (sym c.is_live.ensures ∙ c.if-is_live.false)))) c.begin_error.ensures.ends
