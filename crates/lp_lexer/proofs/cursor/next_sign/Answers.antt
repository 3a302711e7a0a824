use Rattle.std.proofs.Common.{◌+◌, ◌∙◌, sym, ap}
use Rattle.lp_lexer.proofs.Signs.{next_plain, line_after-newline, line_after-other}
use Rattle.lp_lexer.proofs.cursor.next_sign.Goals as goal

pub returns-then-code-eq10-clause-same : goal.returns-then-code-eq10-clause-same
returns-then-code-eq10-clause-same c = sym c.joined.invariant.same ∙ next_plain _ _ _ _ _ _ _ _ c.joined-test.ensures.0 c.joined-test.ensures.1 c.in_ok-code.ensures (ap (λ n. c.joined.at + n) c.len_utf8.ensures.value) (line_after-newline _ _ c.if-code-eq10.true)

pub returns-else-code-eq10-clause-same : goal.returns-else-code-eq10-clause-same
returns-else-code-eq10-clause-same c = sym c.joined.invariant.same ∙ next_plain _ _ _ _ _ _ _ _ c.joined-test.ensures.0 c.joined-test.ensures.1 c.in_ok-code.ensures (ap (λ n. c.joined.at + n) c.len_utf8.ensures.value) (line_after-other _ _ c.if-code-eq10.false)
