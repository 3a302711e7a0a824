use Rattle.std.proofs.Common.{◌≡◌, suc, ◌∙◌, ap, arith}
use Rattle.lp_lexer.specs.Source.{skipped}
use Rattle.lp_lexer.proofs.Signs.{skipped-passed_by}
use Rattle.lp_lexer.proofs.cursor.Cursor.skip.Goals as goal

pub loop-init : goal.loop-init
loop-init c = λ n e. let k : n ≡ c.args.count = omega arith in ap (λ m. skipped m c.args.self.now.behind c.args.self.now.left) k

pub loop-preserved : goal.loop-preserved
loop-preserved c = λ n e. skipped-passed_by n c.loop.self.behind c.loop.self.left _ c.pass.ensures ∙ c.loop.invariant (suc n) (omega arith)

pub returns : goal.returns
returns c = c.loop.invariant 0 (omega arith)
