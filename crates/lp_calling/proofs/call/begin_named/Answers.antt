use Rattle.std.proofs.Common.{◌≡◌, ◌∙◌, ap, drop, map, subst, sym}
use Rattle.std.specs.Str.{chars}
use Rattle.lp_ops.specs.Operands.{operand}
use Rattle.lp_meaning.specs.EfunArguments.{text_arg}
use Rattle.lp_meaning.specs.WorldSteps.{as_name}
use Rattle.lp_calling.specs.Targets.{IsUnnamedTarget}
use Rattle.lp_calling.proofs.Calling.{named_is, unnamed_is}
use Rattle.lp_calling.proofs.call.begin_named.Goals as goal

pub begin_found-requires-clause-named : goal.begin_found-requires-clause-named
begin_found-requires-clause-named c =
    named_is c.args.live.now (drop c.args.low c.args.stack.now.items) (chars c.as_str.result.now) c.in-Some.o c.requires.target
    (λ l cells. ap chars c.as_str.ensures.value ∙ c.in_ok-name.ensures ∙ ap as_name (c.text_at.ensures l cells) ∙ ap (λ ws. as_name (text_arg (map (operand l cells) ws) 0)) c.above.ensures)
    c.in-Some.ensures

pub begin_unnamed-requires-clause-unnamed : goal.begin_unnamed-requires-clause-unnamed
begin_unnamed-requires-clause-unnamed c =
    let same : c.as_str.result.now ≡ c.as_str-in-None.result.now = c.as_str.ensures.value ∙ sym c.as_str-in-None.ensures.value in
    subst (λ n. IsUnnamedTarget c.args.live.now (drop c.args.low c.args.stack.now.items) (chars n)) same
    (unnamed_is c.args.live.now (drop c.args.low c.args.stack.now.items) (chars c.as_str.result.now) c.requires.target
    (λ l cells. ap chars c.as_str.ensures.value ∙ c.in_ok-name.ensures ∙ ap as_name (c.text_at.ensures l cells) ∙ ap (λ ws. as_name (text_arg (map (operand l cells) ws) 0)) c.above.ensures)
    (λ objects st. sym c.in-None.is ∙ c.find.ensures objects st))
