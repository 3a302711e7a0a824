use Rattle.std.proofs.Common.{◌≡◌, ◌∙◌, Some, ap, rules}
use mir.Val.{to_z, of_z}
use mir.Syntax.{w64}
use Rattle.lp_instr.specs.declared.instr.Instr.TheVariants as variants
use Rattle.lp_run.proofs.Taken.{found, one, one_if, one_ok, one_ok_here, one_ok_if}
use Rattle.lp_run.proofs.taking.take.Goals as goal

pub returns-in-PushInt : goal.returns-in-PushInt
returns-in-PushInt c =
    let q : c.in-PushInt.z ≡ to_z w64 (of_z w64 c.in-PushInt.z) = search rules in
    one_ok (variants.PushInt (to_z w64 (of_z w64 c.in-PushInt.z))) c.args.live.now c.args.stack.now.items _ c.args.frame.now c.args.at.now _ c.args.left.now c.push_int.result
    (found c.args.code.now c.args.frame.now.code.instrs c.args.at.now _ c.requires.code (c.in-PushInt.ensures ∙ ap (λ z. Some (variants.PushInt z)) q)) c.push_int.ensures

pub returns-in-PushLocal : goal.returns-in-PushLocal
returns-in-PushLocal c = one_ok (variants.PushLocal c.in-PushLocal.k) c.args.live.now c.args.stack.now.items _ c.args.frame.now c.args.at.now _ c.args.left.now c.push_local.result (found c.args.code.now c.args.frame.now.code.instrs c.args.at.now _ c.requires.code c.in-PushLocal.ensures) c.push_local.ensures

pub returns-in-SetLocal : goal.returns-in-SetLocal
returns-in-SetLocal c = one_ok (variants.SetLocal c.in-SetLocal.k) c.args.live.now c.args.stack.now.items _ c.args.frame.now c.args.at.now _ c.args.left.now c.set_local.result (found c.args.code.now c.args.frame.now.code.instrs c.args.at.now _ c.requires.code c.in-SetLocal.ensures) c.set_local.ensures

pub returns-in-PushGlobal : goal.returns-in-PushGlobal
returns-in-PushGlobal c = one_ok_here (variants.PushGlobal c.in-PushGlobal.k) c.args.live.now c.args.stack.now.items _ c.args.frame.now c.args.at.now _ c.args.left.now c.push_global.result (found c.args.code.now c.args.frame.now.code.instrs c.args.at.now _ c.requires.code c.in-PushGlobal.ensures) c.push_global.ensures

pub returns-in-Pop : goal.returns-in-Pop
returns-in-Pop c = one (variants.Pop) c.args.live.now c.args.stack.now.items _ c.args.frame.now c.args.at.now _ c.args.left.now c.args.left.now (found c.args.code.now c.args.frame.now.code.instrs c.args.at.now _ c.requires.code c.in-Pop.ensures) (c.drop_value.ensures c.args.live.now c.args.left.now)

pub returns-in-Jump : goal.returns-in-Jump
returns-in-Jump c = one (variants.Jump c.in-Jump.to) c.args.live.now c.args.stack.now.items _ c.args.frame.now c.args.at.now _ c.args.left.now c.args.left.now (found c.args.code.now c.args.frame.now.code.instrs c.args.at.now _ c.requires.code c.in-Jump.ensures) (c.jump.ensures c.args.live.now c.args.left.now)

pub returns-in-Dup : goal.returns-in-Dup
returns-in-Dup c = one_ok (variants.Dup) c.args.live.now c.args.stack.now.items _ c.args.frame.now c.args.at.now _ c.args.left.now c.again_one.result (found c.args.code.now c.args.frame.now.code.instrs c.args.at.now _ c.requires.code c.in-Dup.ensures) c.again_one.ensures

pub returns-in-Rotate : goal.returns-in-Rotate
returns-in-Rotate c = one_if (variants.Rotate c.in-Rotate.n) c.args.live.now c.args.stack.now.items _ c.args.frame.now c.args.at.now _ c.args.left.now c.args.left.now c.rotate.result (found c.args.code.now c.args.frame.now.code.instrs c.args.at.now _ c.requires.code c.in-Rotate.ensures) (c.rotate.ensures c.args.live.now c.args.left.now)

pub returns-in-JumpIfZero : goal.returns-in-JumpIfZero
returns-in-JumpIfZero c = one (variants.JumpIfZero c.in-JumpIfZero.to) c.args.live.now c.args.stack.now.items _ c.args.frame.now c.args.at.now _ c.args.left.now c.args.left.now (found c.args.code.now c.args.frame.now.code.instrs c.args.at.now _ c.requires.code c.in-JumpIfZero.ensures) (c.jump_if_zero.ensures c.args.left.now)

pub returns-in-JumpIfNotZero : goal.returns-in-JumpIfNotZero
returns-in-JumpIfNotZero c = one (variants.JumpIfNotZero c.in-JumpIfNotZero.to) c.args.live.now c.args.stack.now.items _ c.args.frame.now c.args.at.now _ c.args.left.now c.args.left.now (found c.args.code.now c.args.frame.now.code.instrs c.args.at.now _ c.requires.code c.in-JumpIfNotZero.ensures) (c.jump_if_not_zero.ensures c.args.left.now)

pub returns-in-KeepIfZero : goal.returns-in-KeepIfZero
returns-in-KeepIfZero c = one (variants.KeepIfZero c.in-KeepIfZero.to) c.args.live.now c.args.stack.now.items _ c.args.frame.now c.args.at.now _ c.args.left.now c.args.left.now (found c.args.code.now c.args.frame.now.code.instrs c.args.at.now _ c.requires.code c.in-KeepIfZero.ensures) (c.keep_if_zero.ensures c.args.left.now)

pub returns-in-KeepIfNotZero : goal.returns-in-KeepIfNotZero
returns-in-KeepIfNotZero c = one (variants.KeepIfNotZero c.in-KeepIfNotZero.to) c.args.live.now c.args.stack.now.items _ c.args.frame.now c.args.at.now _ c.args.left.now c.args.left.now (found c.args.code.now c.args.frame.now.code.instrs c.args.at.now _ c.requires.code c.in-KeepIfNotZero.ensures) (c.keep_if_not_zero.ensures c.args.left.now)

pub returns-in-LoopTurn : goal.returns-in-LoopTurn
returns-in-LoopTurn c = one_if (variants.LoopTurn) c.args.live.now c.args.stack.now.items _ c.args.frame.now c.args.at.now _ c.args.left.now _ c.loop_turn.result (found c.args.code.now c.args.frame.now.code.instrs c.args.at.now _ c.requires.code c.in-LoopTurn.ensures) (c.loop_turn.ensures c.args.live.now)

pub returns-in-Index : goal.returns-in-Index
returns-in-Index c = one_ok_if (variants.Index c.in-Index.edge) c.args.live.now c.args.stack.now.items _ c.args.frame.now c.args.at.now _ c.args.left.now _ c.at_index.result (found c.args.code.now c.args.frame.now.code.instrs c.args.at.now _ c.requires.code c.in-Index.ensures) c.at_index.ensures

pub returns-in-Binary : goal.returns-in-Binary
returns-in-Binary c = one_if (variants.Binary c.in-Binary.op) c.args.live.now c.args.stack.now.items _ c.args.frame.now c.args.at.now _ c.args.left.now _ c.binary_operator.result (found c.args.code.now c.args.frame.now.code.instrs c.args.at.now _ c.requires.code c.in-Binary.ensures) c.binary_operator.ensures

pub returns-in-Step : goal.returns-in-Step
returns-in-Step c = one_if (variants.Step c.in-Step.step) c.args.live.now c.args.stack.now.items _ c.args.frame.now c.args.at.now _ c.args.left.now _ c.step_operator.result (found c.args.code.now c.args.frame.now.code.instrs c.args.at.now _ c.requires.code c.in-Step.ensures) c.step_operator.ensures
