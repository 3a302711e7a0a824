use Rattle.std.proofs.Common.{◌≡◌, ◌∙◌, ap, drop, map, subst, sym}
use Rattle.std.specs.Str.{chars}
use Rattle.lp_ops.specs.Operands.{operand}
use Rattle.lp_meaning.specs.EfunArguments.{text_arg}
use Rattle.lp_meaning.specs.WorldSteps.{as_name}
use Rattle.lp_calling.specs.Targets.{IsUnnamed}
use Rattle.lp_calling.proofs.Loading.{found_loadable, found_unnamed}
use Rattle.lp_calling.proofs.load.begin_load.Goals as goal

pub load_found-requires-clause-loadable : goal.load_found-requires-clause-loadable
load_found-requires-clause-loadable c =
    found_loadable c.args.live.now (drop c.args.low c.args.stack.now.items) (chars c.as_str.result.now) c.in-Some.o
    (λ l cells. ap chars c.as_str.ensures.value ∙ c.in_ok-name.ensures ∙ ap as_name (c.text_at.ensures l cells) ∙ ap (λ ws. as_name (text_arg (map (operand l cells) ws) 0)) c.above.ensures)
    c.in-Some.ensures

pub load_unnamed-requires-clause-means : goal.load_unnamed-requires-clause-means
load_unnamed-requires-clause-means c = λ l cells. ap chars c.as_str-in-None.ensures.value ∙ c.in_ok-name.ensures ∙ ap as_name (c.text_at.ensures l cells) ∙ ap (λ ws. as_name (text_arg (map (operand l cells) ws) 0)) c.above.ensures

pub load_unnamed-requires-clause-unnamed : goal.load_unnamed-requires-clause-unnamed
load_unnamed-requires-clause-unnamed c =
    let same : c.as_str.result.now ≡ c.as_str-in-None.result.now = c.as_str.ensures.value ∙ sym c.as_str-in-None.ensures.value in
    subst (λ n. IsUnnamed c.args.live.now (chars n)) same (found_unnamed c.args.live.now (chars c.as_str.result.now) (λ objects st. sym c.in-None.is ∙ c.find.ensures objects st))
