use Rattle.std.proofs.Common.{◌≡◌, true, false, arith, rules, refl, ap, ◌∙◌}
use Rattle.std.proofs.lemmas.List.{take_all}
use Rattle.lp_wire.specs.Heard.{order_of}
use Rattle.lp_serving.proofs.Causes.{output_then}
use Rattle.lp_serve.proofs.Doing.{does_keeps, does_stops}
use Rattle.lp_serve.proofs.Ordering.{last_order, more_orders, no_orders, order_on, orders_on}
use Rattle.lp_serving.proofs.Cutting.{cut_keeps, cut_then}
use Rattle.lp_serve.proofs.game.Game.orders.Goals as goal

pub loop-line-init : goal.loop-line-init
loop-line-init g c = record { running = c.requires.running; does = λ origin from. no_orders _ _ _; keeps = refl; faults = refl; first = refl; output = (refl, refl); files = omega arith; swap = λ from q. q }

pub returns-then-stops-clause-does : goal.returns-then-stops-clause-does
returns-then-stops-clause-does g c = λ origin from.
    let stops : c.in-Ok.stops ≡ true = search rules in
    last_order c.args.lines.now _ _ _ _ _ _ _ (more_orders c.args.lines.now c.loop-line.line-index c.line-item.result c.line-item.result _ _ _ _ _ _ true _ _ _ c.loop-line-test.true c.line-item.is (c.loop-line.invariant.does origin from)
    (does_keeps _ _ _ _ _ _ _ _ _ _ _ _ _ c.loop-line.invariant.keeps (order_on _ _ _ _ _ _ _ _ _ (ap order_of c.as_slice.ensures) (does_stops _ _ _ _ _ _ _ _ _ stops (c.in-Ok.ensures.does origin from)))))

pub loop-line-preserved : goal.loop-line-preserved
loop-line-preserved g c =
    let stops : c.in-Ok.stops ≡ false = search rules in
    record {
      running = c.in-Ok.ensures.running;
      does = λ origin from. more_orders c.args.lines.now c.loop-line.line-index c.line-item.result c.line-item.result _ _ _ _ _ _ false _ _ _ c.loop-line-test.true c.line-item.is (c.loop-line.invariant.does origin from)
          (does_keeps _ _ _ _ _ _ _ _ _ _ _ _ _ c.loop-line.invariant.keeps (order_on _ _ _ _ _ _ _ _ _ (ap order_of c.as_slice.ensures) (does_stops _ _ _ _ _ _ _ _ _ stops (c.in-Ok.ensures.does origin from))));
      keeps = c.in-Ok.ensures.keeps ∙ c.loop-line.invariant.keeps;
      faults = c.in-Ok.ensures.faults ∙ c.loop-line.invariant.faults;
      first = c.in-Ok.ensures.first ∙ c.loop-line.invariant.first;
      output = output_then false _ _ _ _ _ _ c.loop-line.invariant.output c.in-Ok.ensures.output;
      files = omega (arith, c.loop-line.invariant.files, c.in-Ok.ensures.files);
      swap = λ from q. c.in-Ok.ensures.swap from (c.loop-line.invariant.swap from q);
    }

pub returns-clause-does : goal.returns-clause-does
returns-clause-does g c = λ origin from. orders_on _ _ _ _ _ _ _ _ _ (take_all c.loop-line.line-index c.args.lines.now c.loop-line-test.false) (c.loop-line.invariant.does origin from)

pub returns-in-Err-clause-cut : goal.returns-in-Err-clause-cut
returns-in-Err-clause-cut g c =
    cut_then _ _ _ _ _ _ _ _ (λ origin from. let t = c.loop-line.invariant.does origin from in (t.deeds, t.ran)) (cut_keeps _ _ _ _ _ _ _ c.loop-line.invariant.keeps c.in-Err.ensures.cut)
