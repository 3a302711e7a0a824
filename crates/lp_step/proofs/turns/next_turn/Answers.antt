use Rattle.lp_step.proofs.Turned.{turns_ok}
use Rattle.lp_step.proofs.turns.next_turn.Goals as goal

pub returns : goal.returns
returns c =
    turns_ok c.args.is_pair c.args.stack.now.items c.pop.new.stack.items c.go_on.new.stack.items c.args.cells.now c.pop.result c.place_in-k.result c.in_ok-turn.turn c.go_on.result c.requires.operands c.requires.there c.pop.ensures c.place_in-k.ensures.value c.in_ok-turn.ensures.row c.go_on.ensures
