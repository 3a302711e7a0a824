use Rattle.std.proofs.Common.{◌≡◌, ◌<◌, length, get_or, sym, ap, ◌∙◌, arith}
use Rattle.lp_codegen_flow.proofs.Clearing.{cleared_none, local_more, local_all}
use Rattle.lp_codegen_flow.proofs.clears.clear_each.Goals as goal

pub loop-one-init : goal.loop-one-init
loop-one-init c = cleared_none c.args.first _

pub loop-one-preserved : goal.loop-one-preserved
loop-one-preserved c =
    let all = c.args.local.now.ones.items in
    let i = c.loop-one._one-index in
    let x = c._one-item.result in
    let lt : i < length all = omega (arith, ap length c.deref-one-items.ensures.value) in
    let is : get_or all i x ≡ x = ap (λ l. get_or l i x) (sym c.deref-one-items.ensures.value) ∙ sym c._one-item.is in
    local_more c.args.first i c.loop-one.slot _ all x lt is c.in_ok-slot.ensures c.loop-one.invariant c.in_ok-put_all.ensures

pub returns : goal.returns
returns c =
    let all = c.args.local.now.ones.items in
    local_all c.args.first c.loop-one._one-index c.loop-one.slot all (omega (arith, ap length c.deref-one-items.ensures.value)) c.loop-one.invariant
