use Rattle.std.proofs.Common.{◌≡◌, List, ℕ, IfOk, length, subst, if◌then◌else◌}
use Rattle.std.specs.Prelude.{nat_le}
use Rattle.lp_values.specs.Limits.{max_code_points}
use Rattle.lp_values.specs.declared.value.Value.TheVariants.{Str}
use Rattle.lp_language.specs.Course.{zero_value}
use Rattle.lp_filing.proofs.reading.short_text.Goals as goal

pub returns-clause-value : goal.returns-clause-value
returns-clause-value c =
    subst (λ (t : List ℕ). IfOk c.bounded.result (λ v. v ≡ (if nat_le (length t) max_code_points then Str t else zero_value))) c.in_ok-points.ensures c.bounded.ensures.value
