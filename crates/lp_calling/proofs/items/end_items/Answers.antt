use Rattle.std.proofs.Common.{◌≡◌, ◌∙◌, ◌+◌, ◌≤◌, All, ap, arith, take, subst, sym}
use Rattle.std.proofs.lemmas.List.{take-take}
use Rattle.std.proofs.lemmas.List.Elements.{All-take, All-weaker}
use Rattle.lp_cells.specs.Cells.{IsThere}
use Rattle.lp_world.specs.Rows.{live_in}
use Rattle.lp_world.proofs.Closing.{closed_with_cells}
use Rattle.lp_calling.proofs.Ending.{spends_less}
use Rattle.lp_calling.proofs.Rounds.{items_end}
use Rattle.lp_calling.proofs.items.end_items.Goals as goal

pub returns-in_err-v-clause-closed : goal.returns-in_err-v-clause-closed
returns-in_err-v-clause-closed c = closed_with_cells c.args.live.now c.array_above.new.cells c.requires.fit.closed c.array_above.ensures.stay c.array_above.ensures.closed

pub returns-clause-goes : goal.returns-clause-goes
returns-clause-goes c = λ turn.
    let a = c.args in
    let r = a.round.now in
    let below : a.low ≤ a.low + (r.arguments + r.count) = omega arith in
    let cut_so : c.cut.new.stack.items ≡ take a.low a.stack.now.items =
    c.cut.ensures.items ∙ ap (take a.low) c.in_ok-v.ensures.rest ∙ take-take a.low (a.low + (r.arguments + r.count)) a.stack.now.items below in
    items_end a.efun r a.low a.stack.now.items c.cut.new.stack.items a.live.now c.array_above.new.cells turn a.budget.now c.finish.new.budget c.in_ok-v.v c.finish.result c.requires.room c.requires.done cut_so c.in_ok-v.ensures.value c.in_ok-v.ensures.made
    c.in_ok-v.ensures.there c.finish.ensures.finishes

pub returns-clause-closed : goal.returns-clause-closed
returns-clause-closed c = closed_with_cells c.args.live.now c.array_above.new.cells c.requires.fit.closed c.array_above.ensures.stay c.array_above.ensures.closed

pub returns-clause-fit : goal.returns-clause-fit
returns-clause-fit c =
    let a = c.args in
    let at = a.low + (a.round.now.arguments + a.round.now.count) in
    record {
      closed = closed_with_cells a.live.now c.array_above.new.cells c.requires.fit.closed c.array_above.ensures.stay c.array_above.ensures.closed;
      there = subst (λ s. All (IsThere c.array_above.new.cells) s) (sym (c.cut.ensures.items ∙ ap (take a.low) c.in_ok-v.ensures.rest))
          (All-take (IsThere c.array_above.new.cells) a.low (take at a.stack.now.items) (All-take (IsThere c.array_above.new.cells) at a.stack.now.items
          (All-weaker (IsThere a.live.now.cells) (IsThere c.array_above.new.cells) c.array_above.ensures.stay a.stack.now.items c.requires.fit.there)));
    }

pub returns-clause-spends : goal.returns-clause-spends
returns-clause-spends c = spends_less c.args.efun (live_in c.args.live.now.objects) c.array_above.new.cells c.in_ok-v.v c.args.budget.now c.finish.new.budget c.finish.result c.finish.ensures.finishes
