use Rattle.std.proofs.Common.{◌+◌, ◌++◌, drop, take, ap, map, ◌∙◌, arith}
use Rattle.lp_save.specs.Desks.{as_line}
use Rattle.lp_save.specs.SaveText.{given}
use Rattle.lp_save.proofs.NameLemmas.{name_given, names_counted, names_few}
use Rattle.lp_save.proofs.given.given.Goals as goal

pub rank-requires : goal.rank-requires
rank-requires c =
    let few = names_few c.name-item.result c.args.names.now c.loop-name.name-index in
    omega (arith, c.loop-name.invariant.counted c.name-item.result)

pub loop-name-preserved : goal.loop-name-preserved
loop-name-preserved c =
    let names = c.args.names.now in
    let ls = map as_line c.args.lines.now in
    let i = c.loop-name.name-index in
    let x = c.name-item.result in
    record {
      counted = names_counted names i x c.loop-name.counts c.rank.new.counts c.loop-name-test.true c.name-item.is c.loop-name.invariant.counted c.in_ok-before.ensures.after;
      given =
          ap (λ vs. vs ++ given (take (i + 1) names) (drop (i + 1) names) ls) c.in_ok-push.ensures.items
          ∙ name_given names ls i c.in_ok-before.before x c.in_ok-value_at.field-0 c.loop-name.values.items c.loop-name-test.true c.name-item.is c.loop-name.invariant.given (c.in_ok-before.ensures.before ∙ c.loop-name.invariant.counted x)
          (c.in_ok-value_at.ensures ∙ c.in_ok-found.ensures x c.in_ok-before.before);
    }
