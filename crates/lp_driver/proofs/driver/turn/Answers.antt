use Rattle.std.proofs.Common.{subst}
use Rattle.lp_driver.specs.Tidying.{IsTidied, TurnTells}
use Rattle.lp_driver.proofs.Rested.{turned_on}
use Rattle.lp_driver.proofs.Swaps.{no_fault, nobody_is_swap, nobody_still}
use Rattle.lp_driver.proofs.Telling.{behind_memory, behind_ok, read_exit, turn_tells}
use Rattle.lp_driver.proofs.driver.turn.Goals as goal

pub returns-in-Ok-clause-turns : goal.returns-in-Ok-clause-turns
returns-in-Ok-clause-turns g c =
    turned_on c.args.event.now (g.W.SwapFile.content c.args.swap.now) (g.W.SwapFile.content c.carry_turn.new.swap) (g.W.SwapFile.content c.tidy.new.swap) c.args.live.now c.carry_turn.new.live c.tidy.new.live c.in_ok-outs.outs c.in_ok-outs.ensures.turns c.in-Ok.ensures.rest

pub returns-in-Ok-clause-tidies : goal.returns-in-Ok-clause-tidies
returns-in-Ok-clause-tidies g c = record {
  told = g.W.SwapFile.content c.carry_turn.new.swap;
  live = c.carry_turn.new.live;
  outs = c.in_ok-outs.outs;
  turns = c.in_ok-outs.ensures.turns;
  forgotten = c.in_ok-outs.ensures.forgotten;
  needed = c.in_ok-outs.ensures.needed;
  tidied = subst (λ n. IsTidied c.args.swap_time c.args.event.now c.carry_turn.new.live (record { told = g.W.SwapFile.content c.carry_turn.new.swap; faults = n }) c.tidy.new.live (record { told = g.W.SwapFile.content c.tidy.new.swap; faults = g.W.SwapFile.write_faults c.tidy.new.swap }) c.in-Ok.idled) c.in_ok-outs.ensures.tells.write_faults
      c.in-Ok.ensures.tidied;
}

pub returns-in-Ok-clause-rest : goal.returns-in-Ok-clause-rest
returns-in-Ok-clause-rest g c = let h = c.in_ok-outs.ensures.rest in (h.0, c.in-Ok.ensures.rest h.0 h.1)

pub returns-in-Ok-clause-tells : goal.returns-in-Ok-clause-tells
returns-in-Ok-clause-tells g c = behind_ok c.in_ok-outs.ensures.tells c.tidy.ensures.reads

pub returns-in-Err-clause-tells : goal.returns-in-Err-clause-tells
returns-in-Err-clause-tells g c = behind_memory c.in_ok-outs.ensures.tells c.tidy.ensures.reads

pub returns-in_err-outs-clause-tells : goal.returns-in_err-outs-clause-tells
returns-in_err-outs-clause-tells g c =
    read_exit (TurnTells (g.W.SwapFile.content c.carry_turn.new.swap) (g.W.SwapFile.last c.carry_turn.new.swap) (g.W.SwapFile.read_faults c.args.swap.now) (g.W.SwapFile.read_faults c.carry_turn.new.swap) (g.W.SwapFile.is_truthful c.args.swap.now) (g.W.SwapFile.is_truthful c.carry_turn.new.swap) (g.W.SwapFile.is_honest c.args.swap.now) (g.W.SwapFile.is_honest c.carry_turn.new.swap) c.carry_turn.new.live)
    c.from_residual.result c.in_err-outs.field-0.0 c.from_residual.ensures.1 (turn_tells c.in_err-outs.ensures.tells)

pub returns-in-Ok-clause-swaps : goal.returns-in-Ok-clause-swaps
returns-in-Ok-clause-swaps g c = λ h. ((c.in_ok-outs.ensures.swaps h).0, tt)

pub returns-in_err-outs-clause-swaps : goal.returns-in_err-outs-clause-swaps
returns-in_err-outs-clause-swaps g c = λ h. absurd (no_fault c.carry_turn.result _ (c.carry_turn.ensures.swaps h).1 c.in_err-outs.was)

pub returns-in-Err-clause-quiet : goal.returns-in-Err-clause-quiet
returns-in-Err-clause-quiet g c = λ h.
    let s = c.in_ok-outs.ensures.swaps (nobody_is_swap c.args.event.now _ h) in
    absurd (no_fault c.tidy.result _ (c.tidy.ensures.quiet (nobody_still c.args.event.now _ _ s.2 h)) c.in-Err.is)

pub returns-in_err-outs-clause-quiet : goal.returns-in_err-outs-clause-quiet
returns-in_err-outs-clause-quiet g c = λ h. absurd (no_fault c.carry_turn.result _ (c.carry_turn.ensures.swaps (nobody_is_swap c.args.event.now _ h)).1 c.in_err-outs.was)
