use Rattle.std.proofs.Common.{arith}
use Rattle.lp_tree.specs.TreeView.{tree_of}
use Rattle.lp_preproc.proofs.ConditionLemmas.{no_value_short, value_of_all}
use Rattle.lp_preproc.proofs.value.whole_value.Goals as goal

pub returns-then-count-tokens : goal.returns-then-count-tokens
returns-then-count-tokens c = λ ws same read. value_of_all c.one_tree_law.ensures ws c.args.tokens.now (tree_of c.args.e.now) c.args.count c.condition_value.result same read (omega (arith, c.if-count-tokens.true)) c.condition_value.ensures

pub returns : goal.returns
returns c = λ ws same read. no_value_short ws c.args.tokens.now c.args.count (tree_of c.args.e.now) same read (omega (arith, c.if-count-tokens.false, read.within))
