use Rattle.std.proofs.Common.{◌∙◌}
use Rattle.lp_words.proofs.PathLaws.{at-none, at-other, at-same}
use Rattle.lp_words.proofs.path.is_filling_above.Goals as goal

pub returns-then-room-eq0 : goal.returns-then-room-eq0
returns-then-room-eq0 c = at-none c.args.last.now c.loop-c.c-index c.loop-c.room c.if-room-eq0.true ∙ c.loop-c.invariant

pub returns-then-c-ne122 : goal.returns-then-c-ne122
returns-then-c-ne122 c = at-other c.args.last.now c.loop-c.c-index c.loop-c.room c.loop-c-test.true c.if-room-eq0.false c.if-c-ne122.true ∙ c.loop-c.invariant

pub loop-c-preserved : goal.loop-c-preserved
loop-c-preserved c = at-same c.args.last.now c.loop-c.c-index c.loop-c.room c.loop-c-test.true c.if-room-eq0.false c.if-c-ne122.false ∙ c.loop-c.invariant
