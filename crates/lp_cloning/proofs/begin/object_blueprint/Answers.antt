use Rattle.std.specs.Str.{chars}
use Rattle.std.specs.String.{string_bytes}
use Rattle.std.proofs.Common.{sym}
use Rattle.lp_targets.proofs.Lookups.{if_ok}
use Rattle.lp_cloning.proofs.Arguing.{object_named_so}
use Rattle.lp_cloning.proofs.begin.object_blueprint.Goals as goal

pub returns : goal.returns
returns c = if_ok c.load_name.result (λ s e. object_named_so c.args.live.now c.args.o c.in_ok-name.name.items (chars (string_bytes s)) (sym c.if-not-is_live.ensures) c.in_ok-name.ensures e) c.load_name.ensures
