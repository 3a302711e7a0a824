use Rattle.std.proofs.Common.{◌∙◌, map, subst, sym}
use Rattle.lp_ops.specs.Effects.{IsEffectThere, Meets}
use Rattle.lp_ops.specs.Operands.{operand}
use Rattle.lp_ops.proofs.ClosedLemmas.{within_there}
use Rattle.lp_meaning.specs.EfunArguments.{arg}
use Rattle.lp_value_efuns.proofs.MeaningLemmas.{meant_by}
use Rattle.lp_value_efuns.proofs.ThereLemmas.{arg_there, computed_there}
use Rattle.lp_value_efuns.proofs.compute.compute.Goals as goal

pub returns-clause-value : goal.returns-clause-value
returns-clause-value g c = λ s h n k.
    subst (λ e. Meets e c.args.cells.now c.carry_out.new.cells c.carry_out.result) (c.in_ok-effect.ensures ∙ meant_by c.args.efun c.args.args.now s (g.L.Living.live c.args.live.now) (g.L.Names.name c.args.live.now) c.args.cells.now h n k) c.carry_out.ensures.value

pub returns-clause-closed : goal.returns-clause-closed
returns-clause-closed g c =
    let live = g.L.Living.live c.args.live.now in
    let cells = c.args.cells.now in
    let vs = c.args.args.now in
    c.carry_out.ensures.closed c.requires.closed (subst (IsEffectThere cells) (sym c.in_ok-effect.ensures) (within_there cells _ (computed_there c.args.efun live (g.L.Names.name c.args.live.now) cells vs (arg (map (operand live cells) vs) 0) (arg (map (operand live cells) vs) 1) (arg (map (operand live cells) vs) 2) (arg_there live cells vs 0 c.requires.closed) (arg_there live cells vs 1 c.requires.closed))))
