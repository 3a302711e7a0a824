use Rattle.std.proofs.Common.{◌∙◌, sym}
use Rattle.lp_keeping.proofs.Named.{fewer_left, reached_first, reached_more, settled_last}
use Rattle.lp_keeping.proofs.settling.settle.Goals as goal

pub passes-init : goal.passes-init
passes-init c = reached_first c.args.versions.now c.args.marks.now

pub passes-preserved : goal.passes-preserved
passes-preserved c = reached_more c.args.versions.now c.args.marks.now c.passes.marks c.need_all_named.new.marks c.need_all_named.ensures c.passes.invariant

pub passes-smaller : goal.passes-smaller
passes-smaller c = fewer_left c.args.versions.now c.passes.marks c.need_all_named.new.marks c.count_marks-before.result c.count_marks.result c.need_all_named.ensures c.count_marks-before.ensures c.count_marks.ensures c.if-count_marks-before.false

pub returns-then-count_marks-before : goal.returns-then-count_marks-before
returns-then-count_marks-before c = settled_last c.args.versions.now c.args.marks.now c.passes.marks c.need_all_named.new.marks c.need_all_named.ensures (sym c.count_marks.ensures ∙ c.if-count_marks-before.true ∙ c.count_marks-before.ensures) c.passes.invariant
