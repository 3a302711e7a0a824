use Rattle.std.proofs.Common.{All, None, subst}
use Rattle.std.proofs.lemmas.List.{take_all}
use Rattle.std.proofs.lemmas.List.Elements.{All-more}
use Rattle.lp_world.specs.Targets.{IsAnswerAmong}
use Rattle.lp_world.proofs.targets.are_among.Goals as goal

pub loop-answer-preserved : goal.loop-answer-preserved
loop-answer-preserved c = All-more (IsAnswerAmong c.args.counts.now) c.args.answers.now c.loop-answer.answer-index None c.loop-answer-test.true c.loop-answer.invariant c.if-not-is_answer_among.ensures

pub returns : goal.returns
returns c = subst (All (IsAnswerAmong c.args.counts.now)) (take_all c.loop-answer.answer-index c.args.answers.now c.loop-answer-test.false) c.loop-answer.invariant
