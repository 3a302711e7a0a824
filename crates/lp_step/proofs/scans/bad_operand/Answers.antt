use Rattle.std.proofs.Common.{◌≡◌, ◌∙◌, ap, refl}
use Rattle.std.specs.Prelude.{codes}
use Rattle.std.specs.Str.{chars}
use Rattle.lp_values.specs.Errors.{bad_arg}
use Rattle.lp_step.specs.declared.scans.Scanning.TheVariants as scanning
use Rattle.lp_step.proofs.scans.bad_operand.Goals as goal

-- the name is ASCII
name : chars (codes "sscanf") ≡ codes "sscanf"
unfolding chars
name = refl

pub returns : goal.returns
returns c = ap scanning.Error (c.in_ok-bad_arg.ensures ∙ ap (bad_arg c.args.number) name)
