use Rattle.std.proofs.Common.{◌≡◌, ℕ, ◌+◌}
use Rattle.lp_lexer.specs.Source.{skipped}
use Rattle.lp_lexer.proofs.cursor.Cursor.skip.Given as goal

abbrev pub invariant-loop : goal.invariant-loop
invariant-loop l = (n : ℕ) → n + l.counter ≡ l.count → skipped n l.self.behind l.self.left ≡ skipped l.count l.initial.self.behind l.initial.self.left
