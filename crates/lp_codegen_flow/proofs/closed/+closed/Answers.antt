use Rattle.std.proofs.Common.{◌≡◌, ◌<◌, true, length, get_or, refl, sym, ap, ◌∙◌, arith}
use Rattle.lp_tree.specs.StatementView.{stmt_of}
use Rattle.lp_tree.proofs.StmtNodes.{switch_tree}
use Rattle.lp_codegen_flow.specs.Closed.{is_closed, with}
use Rattle.lp_codegen_flow.proofs.Leaving.{one_open, one_closed, all_closed, part_is_open, part_is_closed, label_is_closed, parts_all_closed}
use Rattle.lp_codegen_flow.proofs.closed.+closed.Goals as goal
use Rattle.lp_codegen_flow.proofs.closed.+closed.Goals.{parts_closed-in-Stmt+else-not-is_closed, parts_closed-in_default}

pub are_closed-loop-s-init : goal.are_closed-loop-s-init
are_closed-loop-s-init t c = refl

pub are_closed-returns-then-not-is_closed : goal.are_closed-returns-then-not-is_closed
are_closed-returns-then-not-is_closed t c =
    let all = c.args.stmts.now.items in
    let i = c.loop-s.s-index in
    let x = c.s-item.result in
    let lt : i < length all = omega (arith, ap length c.deref-s-items.ensures.value) in
    let is : get_or all i x ≡ x = ap (λ l. get_or l i x) (sym c.deref-s-items.ensures.value) ∙ sym c.s-item.is in
    one_open (with c.args.may_break c.args.may_continue) all i x _ c.is_closed.result lt is c.loop-s.invariant c.is_closed.ensures c.if-not-is_closed.true

pub are_closed-loop-s-preserved : goal.are_closed-loop-s-preserved
are_closed-loop-s-preserved t c =
    let all = c.args.stmts.now.items in
    let i = c.loop-s.s-index in
    let x = c.s-item.result in
    let lt : i < length all = omega (arith, ap length c.deref-s-items.ensures.value) in
    let is : get_or all i x ≡ x = ap (λ l. get_or l i x) (sym c.deref-s-items.ensures.value) ∙ sym c.s-item.is in
    one_closed (with c.args.may_break c.args.may_continue) all i x _ c.is_closed.result lt is c.loop-s.invariant c.is_closed.ensures c.if-not-is_closed.false

pub are_closed-returns : goal.are_closed-returns
are_closed-returns t c =
    let all = c.args.stmts.now.items in
    all_closed (with c.args.may_break c.args.may_continue) all c.loop-s.s-index _ (omega (arith, ap length c.deref-s-items.ensures.value)) c.loop-s.invariant

pub is_closed-returns-in-Switch : goal.is_closed-returns-in-Switch
is_closed-returns-in-Switch t c =
    c.parts_closed.ensures ∙ ap (is_closed (with c.args.may_break c.args.may_continue)) (sym (ap stmt_of c.in-Switch.is ∙ switch_tree c.in-Switch.line c.in-Switch.on c.in-Switch.parts))

pub parts_closed-loop-part-init : goal.parts_closed-loop-part-init
parts_closed-loop-part-init t c = refl

pub parts_closed-returns-then-not-is_closed : goal.parts_closed-returns-then-not-is_closed
parts_closed-returns-then-not-is_closed t c =
    let all = c.args.parts.now.items in
    let i = c.loop-part.part-index in
    let x = c.part-item.result in
    let lt : i < length all = omega (arith, c.loop-part-test.true, ap length c.deref-part-items.ensures.value) in
    let is : get_or all i x ≡ x = ap (λ l. get_or l i x) (sym c.deref-part-items.ensures.value) ∙ sym c.part-item.is in
    part_is_open (with true c.args.may_continue) all i x c.in-Stmt.s _ c.is_closed.result lt is c.in-Stmt.is c.loop-part.invariant c.is_closed.ensures c.if-not-is_closed.true

pub parts_closed-loop-part-preserved : goal.parts_closed-loop-part-preserved
parts_closed-loop-part-preserved t c =
    let all = c.args.parts.now.items in
    let i = c.loop-part.part-index in
    let x = c.part-item.result in
    let a = with true c.args.may_continue in
    let lt : i < length all = omega (arith, c.loop-part-test.true, ap length c.deref-part-items.ensures.value) in
    let is : get_or all i x ≡ x = ap (λ l. get_or l i x) (sym c.deref-part-items.ensures.value) ∙ sym c.part-item.is in
    elim c.match-part.branch [
      | parts_closed-in-Stmt+else-not-is_closed w ↦ part_is_closed a all i x w.in-Stmt.s _ w.is_closed.result lt is w.in-Stmt.is c.loop-part.invariant w.is_closed.ensures w.if-not-is_closed.false
      | parts_closed-in_default w ↦ label_is_closed a all i x _ lt is w.in_default.not-Stmt c.loop-part.invariant
    ]

pub parts_closed-returns : goal.parts_closed-returns
parts_closed-returns t c =
    let all = c.args.parts.now.items in
    parts_all_closed (with true c.args.may_continue) all c.loop-part.part-index _ (omega (arith, ap length c.deref-part-items.ensures.value)) c.loop-part.invariant
