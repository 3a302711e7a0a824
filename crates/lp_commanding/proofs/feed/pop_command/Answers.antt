use Rattle.std.proofs.Common.{◌∙◌, ◌-◌, ap, refl, take}
use Rattle.lp_commanding.proofs.Popped.{popped}
use Rattle.lp_commanding.proofs.feed.pop_command.Goals as goal

pub returns : goal.returns
returns c =
    let v = c.args.turn.now.commands in
    popped c.args.turn.now (record c.args.turn.now { commands = c.pop.new.self }) refl (c.pop.ensures.rest ∙ ap (λ n. take (n - 1) v.items) v.ok.0)
