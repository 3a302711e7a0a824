use Rattle.std.proofs.Common.{sym}
use Rattle.std.specs.Str.{chars}
use Rattle.std.specs.String.{string_bytes}
use Rattle.lp_targets.proofs.Lookups.{if_ok}
use Rattle.lp_cloning.proofs.Arguing.{first_named}
use Rattle.lp_cloning.proofs.begin.blueprint_name.Goals as goal

pub returns-in-Some : goal.returns-in-Some
returns-in-Some c = if_ok c.value_blueprint.result (λ s h. first_named c.args.live.now c.args.args.now c.in-Some.v.now (chars (string_bytes s)) (sym c.in-Some.ensures) h) c.value_blueprint.ensures
