use Rattle.std.proofs.Common.{refl, false, arith, ◌∙◌}
use Rattle.std.proofs.lemmas.List.{take_all}
use Rattle.lp_serving.proofs.Causes.{output_then}
use Rattle.lp_serving.proofs.LinesHeard.{no_lines, lines_on, more_lines, line_on, happens_keeps}
use Rattle.lp_serving.proofs.Cutting.{cut_keeps, cut_then}
use Rattle.lp_serving.proofs.server.Server.lines.Goals as goal

pub loop-line-init : goal.loop-line-init
loop-line-init g c = record { running = c.requires.running; goes = λ origin from. no_lines c.args.k _ _ _ _ _; keeps = refl; faults = refl; first = refl; output = (refl, refl); files = omega arith; swap = λ from q. q }

pub loop-line-preserved : goal.loop-line-preserved
loop-line-preserved g c = record {
  running = c.in-Ok.ensures.running;
  goes = λ origin from. more_lines c.args.k c.args.lines.now c.loop-line.line-index c.line-item.result c.line-item.result _ _ _ _ _ _ _ _ _ _ _ _ _ _ _ c.loop-line-test.true c.line-item.is (c.loop-line.invariant.goes origin from)
      (happens_keeps _ _ _ _ _ _ _ _ _ _ _ _ _ _ _ _ c.loop-line.invariant.keeps (line_on c.args.k _ _ _ _ _ _ _ _ _ _ _ _ c.as_slice.ensures (c.in-Ok.ensures.goes origin from)));
  keeps = c.in-Ok.ensures.keeps ∙ c.loop-line.invariant.keeps;
  faults = c.in-Ok.ensures.faults ∙ c.loop-line.invariant.faults;
  first = c.in-Ok.ensures.first ∙ c.loop-line.invariant.first;
  output = output_then false _ _ _ _ _ _ c.loop-line.invariant.output c.in-Ok.ensures.output;
  files = omega (arith, c.loop-line.invariant.files, c.in-Ok.ensures.files);
  swap = λ from q. c.in-Ok.ensures.swap from (c.loop-line.invariant.swap from q);
}

pub returns-clause-goes : goal.returns-clause-goes
returns-clause-goes g c = λ origin from. lines_on c.args.k _ _ _ _ _ _ _ _ _ _ _ _ (take_all c.loop-line.line-index c.args.lines.now c.loop-line-test.false) (c.loop-line.invariant.goes origin from)

pub returns-in-Err-clause-cut : goal.returns-in-Err-clause-cut
returns-in-Err-clause-cut g c =
    cut_then _ _ _ _ _ _ _ _ (λ origin from. let t = c.loop-line.invariant.goes origin from in (t.deeds, t.ran)) (cut_keeps _ _ _ _ _ _ _ c.loop-line.invariant.keeps c.in-Err.ensures.cut)
