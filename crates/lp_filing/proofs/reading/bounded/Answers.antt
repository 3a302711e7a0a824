use Rattle.std.proofs.Common.{◌≡◌, false, length, true}
use Rattle.std.specs.Prelude.{nat_lt}
use Rattle.lp_values.specs.Limits.{max_code_points}
use Rattle.lp_filing.proofs.Coming.{long_is_zero, short_is_text}
use Rattle.lp_filing.proofs.reading.bounded.Goals as goal

pub returns-then-is_long-clause-value : goal.returns-then-is_long-clause-value
returns-then-is_long-clause-value c = let e : nat_lt max_code_points (length c.args.points.items) ≡ true = cc in long_is_zero c.args.points.items e

pub returns-clause-value : goal.returns-clause-value
returns-clause-value c = let e : nat_lt max_code_points (length c.args.points.items) ≡ false = cc in short_is_text c.args.points.items c.in_ok-from_vec.field-0 c.in_ok-from_vec.ensures e
