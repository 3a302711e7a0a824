use Rattle.std.proofs.Common.{◌∙◌, subst}
use Rattle.lp_loading.specs.Lines.{IsLineOf}
use Rattle.lp_loading.proofs.lines.end_missing.Goals as goal

pub end_at-requires-clause-line : goal.end_at-requires-clause-line
end_at-requires-clause-line c = subst (λ p. IsLineOf c.args.live.now.store p c.args.file.now c.in_ok-line.line) (c.as_str.ensures.value ∙ c.in_ok-path.ensures) c.in_ok-line.ensures.line
