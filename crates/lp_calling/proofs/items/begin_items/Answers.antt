use Rattle.std.proofs.Common.{◌≡◌, ◌∙◌, ap, map, subst, sym, take}
use Rattle.std.proofs.lemmas.Result.{IfOk-weaker}
use Rattle.lp_values.specs.Errors.{bad_arg}
use Rattle.lp_instr.specs.EfunList.{efun_name}
use Rattle.lp_ops.specs.Operands.{operand}
use Rattle.lp_world.specs.Rows.{live_in}
use Rattle.lp_efuns.specs.Subjects.{subject}
use Rattle.lp_efuns.specs.declared.answer.Answer.TheVariants as answers
use Rattle.lp_calling.specs.declared.job.Begun.TheVariants as begun
use Rattle.lp_calling.specs.Beginning.{Starts}
use Rattle.lp_calling.specs.Jobs.{round_efun}
use Rattle.lp_calling.proofs.Rounds.{no_round_starts}
use Rattle.lp_calling.proofs.items.begin_items.Goals as goal

pub returns-in-Some-clause-starts : goal.returns-in-Some-clause-starts
returns-in-Some-clause-starts c =
    IfOk-weaker c.begin_round.result _ _
    (λ r k. k c.args.caller.now (λ cells. c.in-Some.ensures.value cells ∙ ap (λ ws. subject (live_in c.args.live.now.objects) c.args.caller.now.this (map (operand (live_in c.args.live.now.objects) cells) ws) 2) c.above.ensures)) c.begin_round.ensures.starts

pub returns-in-None-clause-starts : goal.returns-in-None-clause-starts
returns-in-None-clause-starts c =
    let e = round_efun c.args.is_filter in
    IfOk-weaker c.begin_bad.result (λ r. (r ≡ begun.Ends (answers.Error (bad_arg 3 (efun_name c.efun_of.result)))) × (c.begin_bad.new.stack.items ≡ take c.args.low c.args.stack.now.items)) _
    (λ r k. subst (λ r. Starts r e c.args.caller.now c.args.live.now c.args.low c.args.stack.now.items c.begin_bad.new.stack.items) (sym (k.0 ∙ ap (λ e. begun.Ends (answers.Error (bad_arg 3 (efun_name e)))) c.efun_of.ensures))
    (no_round_starts c.args.is_filter c.args.caller.now c.args.live.now c.args.low c.args.stack.now.items c.begin_bad.new.stack.items k.1
    (λ cells. c.in-None.ensures.value cells ∙ ap (λ ws. subject (live_in c.args.live.now.objects) c.args.caller.now.this (map (operand (live_in c.args.live.now.objects) cells) ws) 2) c.above.ensures))) c.begin_bad.ensures.ends
