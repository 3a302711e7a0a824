use Rattle.std.proofs.Common.{ap, map, ◌∙◌, arith}
use Rattle.std.specs.Prelude.{slice_get}
use Rattle.std.proofs.lemmas.List.{take_all}
use Rattle.lp_save.specs.Desks.{as_line}
use Rattle.lp_save.specs.Names.{values_of}
use Rattle.lp_save.proofs.NameLemmas.{line_found, lines_counted, lines_few}
use Rattle.lp_save.proofs.given.places.Goals as goal

pub rank-requires : goal.rank-requires
rank-requires c =
    let few = lines_few c.line-item.result.0 c.args.lines.now c.loop-line.line-index (omega arith) in
    omega (arith, c.loop-line.invariant.counted c.line-item.result.0)

pub loop-line-preserved : goal.loop-line-preserved
loop-line-preserved c = record {
  counted = lines_counted c.args.lines.now c.loop-line.line-index c.line-item.result c.loop-line.counts c.rank.new.counts c.loop-line-test.true c.line-item.is c.loop-line.invariant.counted c.in_ok-before.ensures.after;
  found =
      line_found c.args.lines.now c.loop-line.line-index c.in_ok-before.before c.line-item.result c.loop-line.counts c.loop-line.found c.put.new.found c.loop-line-test.true c.line-item.is c.loop-line.invariant.counted c.in_ok-before.ensures.before c.loop-line.invariant.found c.in_ok-put.ensures;
}

pub returns : goal.returns
returns c = λ q k. c.loop-line.invariant.found q k ∙ ap (λ ys. slice_get (values_of q (map as_line ys)) k) (take_all c.loop-line.line-index c.args.lines.now c.loop-line-test.false)
