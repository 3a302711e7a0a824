use Rattle.std.proofs.Common.{ap, cond, subst, sym, ◌∙◌, ◌+◌}
use Rattle.lp_step.specs.Each.{TurnsOn}
use Rattle.lp_step.proofs.Turned.{turned, turns_fit}
use Rattle.lp_step.proofs.turns.each_next.Goals as goal

pub returns-then-goes_on : goal.returns-then-goes_on
returns-then-goes_on c = record {
  table = λ budget a m h fine named. turned a c.args.live.now c.args.stack.now.items c.next_turn.new.stack.items c.args.frame.now budget m c.args.to c.args.n c.args.to c.in_ok-goes_on.goes_on h
      (subst (λ b. TurnsOn b c.args.stack.now.items c.next_turn.new.stack.items c.args.live.now.cells c.in_ok-goes_on.goes_on) c.has_two.ensures c.in_ok-goes_on.ensures) (ap (λ b. cond b c.args.to (m.place + 1)) (sym c.if-goes_on.true)) fine;
  keeps = λ f. (turns_fit c.args.live.now c.has_two.result c.args.stack.now.items c.next_turn.new.stack.items c.in_ok-goes_on.goes_on c.in_ok-goes_on.ensures f, tt);
}

pub returns : goal.returns
returns c = record {
  table = λ budget a m h fine named. turned a c.args.live.now c.args.stack.now.items c.next_turn.new.stack.items c.args.frame.now budget m c.args.to c.args.n (c.args.frame.now.at + 1) c.in_ok-goes_on.goes_on h
      (subst (λ b. TurnsOn b c.args.stack.now.items c.next_turn.new.stack.items c.args.live.now.cells c.in_ok-goes_on.goes_on) c.has_two.ensures c.in_ok-goes_on.ensures) (ap (λ n. n + 1) h.sits.place ∙ ap (λ b. cond b c.args.to (m.place + 1)) (sym c.if-goes_on.false)) fine;
  keeps = λ f. (turns_fit c.args.live.now c.has_two.result c.args.stack.now.items c.next_turn.new.stack.items c.in_ok-goes_on.goes_on c.in_ok-goes_on.ensures f, tt);
}
