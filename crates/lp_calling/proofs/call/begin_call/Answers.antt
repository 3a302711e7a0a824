use Rattle.std.proofs.Common.{◌≡◌, ◌∙◌, ap, drop, map, subst, sym, take}
use Rattle.std.proofs.lemmas.Result.{IfOk-weaker}
use Rattle.lp_values.specs.declared.error.ErrorKind.TheVariants.{BadTarget}
use Rattle.lp_values.specs.Errors.{plain}
use Rattle.lp_instr.specs.declared.efun.Efun.TheVariants as efuns
use Rattle.lp_efuns.specs.declared.answer.Answer.TheVariants as answers
use Rattle.lp_calling.specs.declared.job.Begun.TheVariants as begun
use Rattle.lp_calling.specs.Beginning.{Starts}
use Rattle.lp_ops.specs.Operands.{operand}
use Rattle.lp_meaning.specs.EfunArguments.{arg}
use Rattle.lp_world.specs.Rows.{live_in}
use Rattle.lp_calling.specs.Targets.{target_of}
use Rattle.lp_calling.proofs.Calling.{no_call_starts, nothing_targeted, object_target}
use Rattle.lp_calling.proofs.call.begin_call.Goals as goal

pub begin_live-requires-clause-target : goal.begin_live-requires-clause-target
begin_live-requires-clause-target c =
    object_target c.args.live.now (drop c.args.low c.args.stack.now.items) c.in-Live.o
    (λ cells. c.in-Live.ensures.value cells ∙ ap (λ ws. target_of (arg (map (operand (live_in c.args.live.now.objects) cells) ws) 0)) c.above.ensures)

pub begin_named-requires-clause-target : goal.begin_named-requires-clause-target
begin_named-requires-clause-target c = λ cells. c.in-Named.ensures.value cells ∙ ap (λ ws. target_of (arg (map (operand (live_in c.args.live.now.objects) cells) ws) 0)) c.above.ensures

pub returns-in-Nothing-clause-starts : goal.returns-in-Nothing-clause-starts
returns-in-Nothing-clause-starts c =
    IfOk-weaker c.begin_error.result (λ r. (r ≡ begun.Ends (answers.Error (plain BadTarget))) × (c.begin_error.new.stack.items ≡ take c.args.low c.args.stack.now.items)) _
    (λ r k. λ caller. subst (λ r. Starts r efuns.CallOther caller c.args.live.now c.args.low c.args.stack.now.items c.begin_error.new.stack.items) (sym k.0)
    (no_call_starts caller c.args.live.now c.args.low c.args.stack.now.items c.begin_error.new.stack.items k.1
    (nothing_targeted c.args.live.now (drop c.args.low c.args.stack.now.items) (λ cells. c.in-Nothing.ensures.value cells ∙ ap (λ ws. target_of (arg (map (operand (live_in c.args.live.now.objects) cells) ws) 0)) c.above.ensures)))) c.begin_error.ensures.ends
