use Rattle.std.proofs.Common.{◌≡◌, ◌+◌, ◌<◌, [], ◌∷◌, ◌++◌, length, take, get_or, sym, ap, ◌∙◌, arith, subst}
use Rattle.std.proofs.lemmas.List.{take_all, take_more}
use Rattle.lp_codegen_expr.specs.Drafts.{draft_of}
use Rattle.lp_codegen_flow.proofs.Clearing.{cleared_none, clear_as}
use Rattle.lp_codegen_flow.proofs.Switching.{PartsClear, part_cleared, slots_in_parts}
use Rattle.lp_codegen_flow.proofs.clears.clear_parts.Goals as goal

pub loop-part-init : goal.loop-part-init
loop-part-init c = cleared_none c.args.first _

pub loop-part-preserved : goal.loop-part-preserved
loop-part-preserved c =
    let all = c.args.parts.now.items in
    let i = c.loop-part.part-index in
    let x = c.part-item.result in
    let lt : i < length all = omega (arith, ap length c.deref-part-items.ensures.value) in
    let is : get_or all i x ≡ x = ap (λ l. get_or l i x) (sym c.deref-part-items.ensures.value) ∙ sym c.part-item.is in
    let more : take (i + 1) all ≡ take i all ++ x ∷ [] = take_more all i x lt ∙ ap (λ y. take i all ++ y ∷ []) is in
    subst (λ l. PartsClear l c.args.first c.in_ok-slot.slot (draft_of c.args.into.now) (draft_of c.clear_part.new.into)) (sym more) (part_cleared (take i all) x c.args.first c.loop-part.slot _ c.loop-part.invariant c.in_ok-slot.ensures)

pub returns : goal.returns
returns c =
    let all = c.args.parts.now.items in
    let whole : take c.loop-part.part-index all ≡ all = take_all c.loop-part.part-index all (omega (arith, ap length c.deref-part-items.ensures.value)) in
    λ l. clear_as (ap (slots_in_parts c.args.first) whole) (c.loop-part.invariant.code l)
