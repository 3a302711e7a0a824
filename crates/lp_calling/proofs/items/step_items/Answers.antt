use Rattle.std.proofs.Common.{◌≡◌, ◌∙◌, sym, true}
use Rattle.std.proofs.lemmas.Result.{IfOk-weaker}
use Rattle.lp_cells.specs.Cells.{Store}
use Rattle.lp_world.specs.Rows.{live_in}
use Rattle.lp_world.specs.declared.live.Live.{Live}
use Rattle.lp_step.specs.Steps.{IsFit}
use Rattle.lp_calling.specs.Going.{IsStepThere}
use Rattle.lp_calling.proofs.items.step_items.Goals as goal

pub end_dead-requires-clause-dead : goal.end_dead-requires-clause-dead
end_dead-requires-clause-dead c = sym c.is_live.ensures ∙ c.if-not-is_live.true

pub returns-then-not-is_live-clause-goes : goal.returns-then-not-is_live-clause-goes
returns-then-not-is_live-clause-goes c = IfOk-weaker c.end_dead.result _ _ (λ r k. λ turn. k c.args.efun turn c.args.budget.now) c.end_dead.ensures.goes

pub returns-then-not-is_live-clause-closed : goal.returns-then-not-is_live-clause-closed
returns-then-not-is_live-clause-closed c = c.requires.fit.closed

pub returns-then-not-is_live-clause-fit : goal.returns-then-not-is_live-clause-fit
returns-then-not-is_live-clause-fit c =
    IfOk-weaker c.end_dead.result (λ _. (l : Live) → IsFit l c.args.stack.now.items → IsFit l c.end_dead.new.stack.items) _ (λ _ k. k c.args.live.now c.requires.fit) c.end_dead.ensures.fit

pub returns-then-not-is_live-clause-there : goal.returns-then-not-is_live-clause-there
returns-then-not-is_live-clause-there c = IfOk-weaker c.end_dead.result (λ r. (cells : Store) → IsStepThere cells r) _ (λ r k. k c.args.live.now.cells) c.end_dead.ensures.there

pub returns-clause-goes : goal.returns-clause-goes
returns-clause-goes c =
    let lives : live_in c.args.live.now.objects c.args.round.now.object ≡ true = sym c.is_live.ensures ∙ c.if-not-is_live.false in
    IfOk-weaker c.ask_item.result _ _ (λ r k. λ turn. k c.args.efun c.args.live.now turn c.args.budget.now lives) c.ask_item.ensures.goes

pub returns-clause-closed : goal.returns-clause-closed
returns-clause-closed c = c.requires.fit.closed

pub returns-clause-fit : goal.returns-clause-fit
returns-clause-fit c =
    IfOk-weaker c.ask_item.result (λ _. (l : Live) → IsFit l c.args.stack.now.items → IsFit l c.ask_item.new.stack.items) _ (λ _ k. k c.args.live.now c.requires.fit) c.ask_item.ensures.fit

pub returns-clause-there : goal.returns-clause-there
returns-clause-there c = IfOk-weaker c.ask_item.result (λ r. (cells : Store) → IsStepThere cells r) _ (λ r k. k c.args.live.now.cells) c.ask_item.ensures.there
