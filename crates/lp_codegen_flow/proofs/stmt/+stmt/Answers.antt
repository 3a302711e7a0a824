use Rattle.std.proofs.Common.{◌≡◌, ◌+◌, ◌<◌, [], ◌∷◌, ◌++◌, length, take, get_or, map, refl, sym, ap, ◌∙◌, arith}
use Rattle.std.specs.Prelude.{option_map}
use Rattle.std.proofs.lemmas.List.{take_more, take_all, map_push}
use Rattle.lp_tree.specs.declared.stmt.Stmt.TheVariants as variants
use Rattle.lp_tree.specs.Statements.{Empty as EmptyTree, Run as RunTree, If as IfTree, NoElse, Else, While as WhileTree, DoWhile as DoTree, For as ForTree, Foreach as ForeachTree, Break as BreakTree, Continue as ContinueTree, Return as ReturnTree}
use Rattle.lp_tree.specs.TreeView.{tree_of}
use Rattle.lp_tree.specs.StatementView.{init_of, local_of, stmt_of, stmt_trees}
use Rattle.lp_tree.proofs.StmtNodes.{block_tree, break_tree, continue_tree, declares_tree, do_tree, else_tree, empty_tree, for_tree, foreach_tree, if_tree, return_tree, run_tree, switch_tree, while_tree}
use Rattle.lp_language.specs.Scope.{declared}
use Rattle.lp_codegen_expr.specs.Clear.{IsClear}
use Rattle.lp_codegen_expr.specs.Names.{layout_of}
use Rattle.lp_codegen_expr.proofs.Compose.{line_none}
use Rattle.lp_codegen_expr.proofs.Refusals.{at_exit}
use Rattle.lp_codegen_flow.specs.Clear.{IsClearIf, IsClearStmt, IsClearTurns}
use Rattle.lp_codegen_flow.specs.Flows.{behind_all}
use Rattle.lp_codegen_flow.proofs.Sparing.{cut, forgot, label_of_all, named, stmt_of_all, stmt_of_parts, there, whole}
use Rattle.lp_codegen_flow.proofs.Scopes.{all_as, all_more, all_none, as_tree, block_stands, declares_stands, next_stands, stays}
use Rattle.lp_codegen_flow.proofs.Forms.{do_stands, else_stands, for_stands, foreach_stands, if_stands, over_stands, turns_stand, while_stands}
use Rattle.lp_codegen_flow.proofs.Switching.{joined, part_as, parts_as, parts_more, parts_none, stmt_part, switch_stands, table_stands}
use Rattle.lp_codegen_expr.specs.Drafts.{draft_of}
use Rattle.lp_codegen_flow.specs.Switches.{PartStands, behind_parts}
use Rattle.lp_codegen_flow.proofs.stmt.+stmt.Goals as goal
use Rattle.lp_codegen_flow.proofs.stmt.+stmt.Goals.{gen_parts-in-Label+in_ok-gen_label-in-Label, gen_parts-in-Stmt+in_ok-gen_next-in-Stmt}

pub gen_stmt-returns-in_ok-gen_block-in-Block : goal.gen_stmt-returns-in_ok-gen_block-in-Block
gen_stmt-returns-in_ok-gen_block-in-Block t c =
    as_tree _ _ (ap stmt_of c.in-Block.is ∙ block_tree c.in-Block.line c.in-Block.stmts) (c.in_ok-gen_block-in-Block.ensures c.in-Block.line)

pub gen_stmt-returns-in-Empty : goal.gen_stmt-returns-in-Empty
gen_stmt-returns-in-Empty t c =
    as_tree _ _ (ap stmt_of c.in-Empty.is ∙ empty_tree c.in-Empty.line) (stays (EmptyTree c.in-Empty.line) refl (line_none _ _))

pub gen_stmt-returns-in_ok-gen_run-in-Run : goal.gen_stmt-returns-in_ok-gen_run-in-Run
gen_stmt-returns-in_ok-gen_run-in-Run t c =
    as_tree _ _ (ap stmt_of c.in-Run.is ∙ run_tree c.in-Run.line c.in-Run.of) (stays (RunTree c.in-Run.line (tree_of c.in-Run.of)) refl c.in_ok-gen_run-in-Run.ensures)

pub gen_stmt-returns-in_ok-gen_local-in-Declares : goal.gen_stmt-returns-in_ok-gen_local-in-Declares
gen_stmt-returns-in_ok-gen_local-in-Declares t c =
    as_tree _ _ (ap stmt_of c.in-Declares.is ∙ declares_tree c.in-Declares.line c.in-Declares.local) (declares_stands c.in-Declares.line (local_of c.in-Declares.local) c.in_ok-gen_local-in-Declares.ensures)

pub gen_stmt-returns-in_ok-end-in-Some : goal.gen_stmt-returns-in_ok-end-in-Some
gen_stmt-returns-in_ok-end-in-Some t c =
    let line = c.in-If.line in
    let test = tree_of c.in-If.test in
    let y = stmt_of c.deref.result.now in
    let z = stmt_of c.deref-in-Some.result.now in
    as_tree _ (IfTree line test y (Else z)) (ap stmt_of (c.in-If.is ∙ ap (variants.If c.in-If.line c.in-If.test c.in-If.yes) c.in-Some.is) ∙ else_tree c.in-If.line c.in-If.test c.in-If.yes c.in-Some.other ∙ ap (λ x. IfTree line test (stmt_of x) (Else (stmt_of c.in-Some.other.value))) (sym c.deref.ensures) ∙ ap (λ x. IfTree line test y (Else (stmt_of x))) (sym c.deref-in-Some.ensures))
    (else_stands line test y z _ _ _ _ _ _ c.in_ok-gen_expr-in-Some.ensures c.in_ok-jump-in-Some.ensures c.in_ok-put-in-Some.ensures c.in_ok-gen_stmt-in-Some.ensures c.in_ok-over-in-Some.ensures c.in_ok-put-in-Some-2.ensures c.in_ok-second-in-Some.ensures c.fill.ensures c.in_ok-gen_stmt-in-Some-2.ensures c.in_ok-end-in-Some.ensures c.fill-in-Some.ensures)

pub gen_stmt-returns-in_ok-end-in-None : goal.gen_stmt-returns-in_ok-end-in-None
gen_stmt-returns-in_ok-end-in-None t c =
    let line = c.in-If.line in
    let test = tree_of c.in-If.test in
    let y = stmt_of c.deref-in-None.result.now in
    as_tree _ (IfTree line test y NoElse) (ap stmt_of (c.in-If.is ∙ ap (variants.If c.in-If.line c.in-If.test c.in-If.yes) c.in-None.is) ∙ if_tree c.in-If.line c.in-If.test c.in-If.yes ∙ ap (λ x. IfTree line test (stmt_of x) NoElse) (sym c.deref-in-None.ensures))
    (if_stands line test y _ _ _ c.in_ok-gen_expr-in-None.ensures c.in_ok-jump-in-None.ensures c.in_ok-put-in-None.ensures c.in_ok-gen_stmt-in-None.ensures c.in_ok-end-in-None.ensures c.fill-in-None.ensures)

pub gen_stmt-returns-in_ok-gen_while-in-While : goal.gen_stmt-returns-in_ok-gen_while-in-While
gen_stmt-returns-in_ok-gen_while-in-While t c =
    as_tree _ _ (ap stmt_of c.in-While.is ∙ while_tree c.in-While.line c.in-While.test c.in-While.body ∙ ap (λ x. WhileTree c.in-While.line (tree_of c.in-While.test) (stmt_of x)) (sym c.deref-in-While.ensures)) (c.in_ok-gen_while-in-While.ensures c.in-While.line)

pub gen_stmt-returns-in_ok-gen_do-in-DoWhile : goal.gen_stmt-returns-in_ok-gen_do-in-DoWhile
gen_stmt-returns-in_ok-gen_do-in-DoWhile t c =
    as_tree _ _ (ap stmt_of c.in-DoWhile.is ∙ do_tree c.in-DoWhile.line c.in-DoWhile.body c.in-DoWhile.test ∙ ap (λ x. DoTree c.in-DoWhile.line (stmt_of x) (tree_of c.in-DoWhile.test)) (sym c.deref-in-DoWhile.ensures)) (c.in_ok-gen_do-in-DoWhile.ensures c.in-DoWhile.line)

pub gen_stmt-returns-in_ok-gen_for-in-For : goal.gen_stmt-returns-in_ok-gen_for-in-For
gen_stmt-returns-in_ok-gen_for-in-For t c =
    as_tree _ _ (ap stmt_of c.in-For.is ∙ for_tree c.in-For.line c.in-For.init c.in-For.test c.in-For.step c.in-For.body ∙ ap (λ x. ForTree c.in-For.line (init_of c.in-For.init) (option_map tree_of c.in-For.test) (option_map tree_of c.in-For.step) (stmt_of x)) (sym c.deref-in-For.ensures)) (c.in_ok-gen_for-in-For.ensures c.in-For.line)

pub gen_stmt-returns-in_ok-gen_break-in-Break : goal.gen_stmt-returns-in_ok-gen_break-in-Break
gen_stmt-returns-in_ok-gen_break-in-Break t c =
    as_tree _ _ (ap stmt_of c.in-Break.is ∙ break_tree c.in-Break.line) (stays (BreakTree c.in-Break.line) refl (c.in_ok-gen_break-in-Break.ensures _ c.in-Break.line c.args.scope.now.locals.items))

pub gen_stmt-returns-in_ok-gen_continue-in-Continue : goal.gen_stmt-returns-in_ok-gen_continue-in-Continue
gen_stmt-returns-in_ok-gen_continue-in-Continue t c =
    as_tree _ _ (ap stmt_of c.in-Continue.is ∙ continue_tree c.in-Continue.line) (stays (ContinueTree c.in-Continue.line) refl (c.in_ok-gen_continue-in-Continue.ensures _ c.in-Continue.line c.args.scope.now.locals.items))

pub gen_stmt-returns-in_ok-gen_return-in-Return : goal.gen_stmt-returns-in_ok-gen_return-in-Return
gen_stmt-returns-in_ok-gen_return-in-Return t c =
    as_tree _ _ (ap stmt_of c.in-Return.is ∙ return_tree c.in-Return.line c.in-Return.value) (stays (ReturnTree c.in-Return.line (option_map tree_of c.in-Return.value)) refl (c.in_ok-gen_return-in-Return.ensures c.in-Return.line))

pub gen_block-returns : goal.gen_block-returns
gen_block-returns t c =
    λ line. block_stands line _ c.len-seen.result (c.len-seen.ensures ∙ c.args.scope.now.locals.ok.0) c.in_ok-gen_stmts.ensures refl c.truncate.ensures.items

pub gen_stmts-loop-s-init : goal.gen_stmts-loop-s-init
gen_stmts-loop-s-init t c =
    all_none

pub gen_stmts-loop-s-preserved : goal.gen_stmts-loop-s-preserved
gen_stmts-loop-s-preserved t c =
    let all = c.args.stmts.now.items in
    let i = c.loop-s.s-index in
    let x = c.s-item.result in
    let lt : i < length all = omega (arith, ap length c.deref-s-items.ensures.value) in
    let is : get_or all i x ≡ x = ap (λ l. get_or l i x) (sym c.deref-s-items.ensures.value) ∙ sym c.s-item.is in
    let more : take (i + 1) all ≡ take i all ++ x ∷ [] = take_more all i x lt ∙ ap (λ y. take i all ++ y ∷ []) is in
    all_as (sym (ap (λ l. stmt_trees (map stmt_of l)) more ∙ ap stmt_trees (map_push stmt_of (take i all) x))) (all_more (map stmt_of (take i all)) (stmt_of x) c.loop-s.invariant c.in_ok-gen_next.ensures)

pub gen_stmts-returns : goal.gen_stmts-returns
gen_stmts-returns t c =
    let all = c.args.stmts.now.items in
    all_as (ap (λ l. stmt_trees (map stmt_of l)) (take_all c.loop-s.s-index all (omega (arith, ap length c.deref-s-items.ensures.value)))) c.loop-s.invariant

pub gen_next-returns : goal.gen_next-returns
gen_next-returns t c =
    next_stands (stmt_of c.args.s.now) c.in_ok-first.first (c.in_ok-first.ensures ∙ c.len.ensures ∙ c.args.scope.now.locals.ok.0) c.in_ok-gen_clears.ensures.code c.in_ok-gen_stmt.ensures

pub gen_while-returns : goal.gen_while-returns
gen_while-returns t c =
    λ line. while_stands line (tree_of c.args.test.now) (stmt_of c.args.body.now) _ c.len-seen.result _ _ _ _ _ (c.len-seen.ensures ∙ c.args.scope.now.locals.ok.0) c.in_ok-start.ensures c.in_ok-put.ensures c.in_ok-turn.ensures c.in_ok-put-2.ensures c.in_ok-gen_stmt.ensures c.in_ok-again.ensures c.fill.ensures c.in_ok-gen_hidden.ensures c.in_ok-put-3.ensures c.in_ok-out.ensures c.lead.ensures

pub gen_do-returns : goal.gen_do-returns
gen_do-returns t c =
    λ line. do_stands line (stmt_of c.args.body.now) (tree_of c.args.test.now) _ _ _ _ c.in_ok-turn.ensures c.in_ok-put.ensures c.in_ok-gen_stmt.ensures c.in_ok-again.ensures c.in_ok-gen_expr.ensures c.in_ok-put-2.ensures c.in_ok-out.ensures c.lead.ensures

pub gen_for-returns : goal.gen_for-returns
gen_for-returns t c =
    λ line. for_stands line (init_of c.args.init.now) (option_map tree_of c.args.test.now) (option_map tree_of c.args.step.now) (stmt_of c.args.body.now) c.len-seen.result (c.len-seen.ensures ∙ c.args.scope.now.locals.ok.0) c.in_ok-gen_init.ensures c.in_ok-gen_turns.ensures refl c.truncate.ensures.items

pub gen_turns-returns : goal.gen_turns-returns
gen_turns-returns t c =
    turns_stand (option_map tree_of c.args.test.now) (option_map tree_of c.args.step.now) (stmt_of c.args.body.now) _ c.len-seen.result _ _ _ _ _ _ (c.len-seen.ensures ∙ c.args.scope.now.locals.ok.0) c.in_ok-start.ensures c.in_ok-put.ensures c.in_ok-turn.ensures c.in_ok-put-2.ensures c.in_ok-gen_stmt.ensures refl c.truncate.ensures.items c.in_ok-stepped.ensures c.in_ok-gen_run_if.ensures c.in_ok-tested.ensures c.fill.ensures c.in_ok-gen_test.ensures c.in_ok-out.ensures c.lead.ensures

pub gen_stmt-returns-in_ok-gen_foreach-in-Foreach : goal.gen_stmt-returns-in_ok-gen_foreach-in-Foreach
gen_stmt-returns-in_ok-gen_foreach-in-Foreach t c =
    as_tree _ _ (ap stmt_of c.in-Foreach.is ∙ foreach_tree c.in-Foreach.line c.in-Foreach.first c.in-Foreach.second c.in-Foreach.over c.in-Foreach.body ∙ ap (λ x. ForeachTree c.in-Foreach.line c.in-Foreach.first c.in-Foreach.second (tree_of c.in-Foreach.over) (stmt_of x)) (sym c.deref-in-Foreach.ensures)) (c.in_ok-gen_foreach-in-Foreach.ensures c.in-Foreach.line)

pub gen_stmt-returns-in_ok-gen_switch-in-Switch : goal.gen_stmt-returns-in_ok-gen_switch-in-Switch
gen_stmt-returns-in_ok-gen_switch-in-Switch t c =
    as_tree _ _ (ap stmt_of c.in-Switch.is ∙ switch_tree c.in-Switch.line c.in-Switch.on c.in-Switch.parts) (c.in_ok-gen_switch-in-Switch.ensures c.in-Switch.line)

pub gen_foreach-returns : goal.gen_foreach-returns
gen_foreach-returns t c =
    λ line. foreach_stands line c.args.first.now c.args.second.now (tree_of c.args.over.now) (stmt_of c.args.body.now) c.len-seen.result c.each_vars.result (c.len-seen.ensures ∙ c.args.scope.now.locals.ok.0) c.in_ok-gen_expr.ensures c.each_vars.ensures c.in_ok-put.ensures c.in_ok-gen_over.ensures refl c.truncate.ensures.items

pub gen_over-returns : goal.gen_over-returns
gen_over-returns t c =
    over_stands c.args.first.now c.args.second.now (stmt_of c.args.body.now) _ _ _ _ _ _ c.each_vars.result _ c.in_ok-start.ensures c.in_ok-put.ensures c.in_ok-turn.ensures c.in_ok-put-2.ensures c.in_ok-gen_eaches.ensures c.in_ok-gen_stmt.ensures c.in_ok-next.ensures c.in_ok-leave.ensures c.in_ok-end.ensures c.fill.ensures c.each_vars.ensures c.in_ok-put_all.ensures c.lead.ensures

pub gen_switch-returns : goal.gen_switch-returns
gen_switch-returns t c =
    λ line. switch_stands line (tree_of c.args.on.now) c.args.parts.now.items c.len-seen.result c.in_ok-first.first (c.len-seen.ensures ∙ c.args.scope.now.locals.ok.0) c.in_ok-first.ensures c.in_ok-gen_expr.ensures c.in_ok-clear_parts.ensures c.in_ok-gen_table.ensures refl c.truncate.ensures.items

pub gen_table-returns : goal.gen_table-returns
gen_table-returns t c =
    table_stands c.args.parts.now.items c.in_ok-labels.labels _ _ _ _ _ _ c.in_ok-start.ensures c.in_ok-put.ensures c.in_ok-first.ensures c.in_ok-labels.ensures c.in_ok-end.ensures c.lead.ensures c.in_ok-row.ensures c.fill.ensures

pub gen_parts-loop-part-init : goal.gen_parts-loop-part-init
gen_parts-loop-part-init t c = parts_none c.new.ensures.items refl

pub gen_parts-loop-part-preserved : goal.gen_parts-loop-part-preserved
gen_parts-loop-part-preserved t c =
    let all = c.args.parts.now.items in
    let i = c.loop-part.part-index in
    let x = c.part-item.result in
    let lt : i < length all = omega (arith, c.loop-part-test.true, ap length c.deref-part-items.ensures.value) in
    let is : get_or all i x ≡ x = ap (λ l. get_or l i x) (sym c.deref-part-items.ensures.value) ∙ sym c.part-item.is in
    let more : take (i + 1) all ≡ take i all ++ x ∷ [] = take_more all i x lt ∙ ap (λ y. take i all ++ y ∷ []) is in
    let step : PartStands x c.loop-part.labels c.match-part.labels c.loop-part.scope c.match-part.scope (draft_of c.loop-part.into) (draft_of c.match-part.into) =
    elim c.match-part.branch [
      | gen_parts-in-Label+in_ok-gen_label-in-Label w ↦ joined x (sym w.labels-is) (sym w.scope-is) (sym w.into-is) (part_as (sym w.in-Label.is) (w.in_ok-gen_label-in-Label.ensures c.loop-part.scope))
      | gen_parts-in-Stmt+in_ok-gen_next-in-Stmt w ↦ joined x (sym w.labels-is) (sym w.scope-is) (sym w.into-is) (part_as (sym w.in-Stmt.is) (stmt_part w.in-Stmt.s w.in_ok-gen_next-in-Stmt.ensures))
    ] in
    parts_as (sym more) (parts_more (take i all) x c.loop-part.invariant step)

pub gen_parts-returns : goal.gen_parts-returns
gen_parts-returns t c =
    let all = c.args.parts.now.items in
    parts_as (take_all c.loop-part.part-index all (omega (arith, ap length c.deref-part-items.ensures.value))) c.loop-part.invariant

pub gen_stmt-returns-in_err-gen_block-in-Block : goal.gen_stmt-returns-in_err-gen_block-in-Block
gen_stmt-returns-in_err-gen_block-in-Block t c =
    at_exit _ _ _ _ c.from_residual.ensures.1 (whole _ _ _ _ (ap stmt_of c.in-Block.is ∙ block_tree c.in-Block.line c.in-Block.stmts) (λ u q. c.in_err-gen_block-in-Block.ensures u (λ n. q)))

pub gen_stmt-returns-in_err-gen_run-in-Run : goal.gen_stmt-returns-in_err-gen_run-in-Run
gen_stmt-returns-in_err-gen_run-in-Run t c =
    at_exit _ _ _ _ c.from_residual-in_err-gen_run-in-Run.ensures.1 (whole _ _ _ _ (ap stmt_of c.in-Run.is ∙ run_tree c.in-Run.line c.in-Run.of) (λ u q. c.in_err-gen_run-in-Run.ensures u q))

pub gen_stmt-returns-in_err-gen_local-in-Declares : goal.gen_stmt-returns-in_err-gen_local-in-Declares
gen_stmt-returns-in_err-gen_local-in-Declares t c =
    at_exit _ _ _ _ c.from_residual-in_err-gen_local-in-Declares.ensures.1 (whole _ _ _ _ (ap stmt_of c.in-Declares.is ∙ declares_tree c.in-Declares.line c.in-Declares.local) (λ u q. c.in_err-gen_local-in-Declares.ensures u q))

pub gen_stmt-returns-in_err-gen_expr-in-Some : goal.gen_stmt-returns-in_err-gen_expr-in-Some
gen_stmt-returns-in_err-gen_expr-in-Some t c =
    at_exit _ _ _ _ c.from_residual-in_err-gen_expr-in-Some.ensures.1 (whole _ _ _ _ (ap stmt_of (c.in-If.is ∙ ap (variants.If c.in-If.line c.in-If.test c.in-If.yes) c.in-Some.is) ∙ else_tree c.in-If.line c.in-If.test c.in-If.yes c.in-Some.other) (λ u q. c.in_err-gen_expr-in-Some.ensures u q.0))

pub gen_stmt-returns-in_err-jump-in-Some : goal.gen_stmt-returns-in_err-jump-in-Some
gen_stmt-returns-in_err-jump-in-Some t c =
    at_exit _ _ _ _ c.from_residual-in_err-jump-in-Some.ensures.1 (λ u q. c.in_err-jump-in-Some.ensures u)

pub gen_stmt-returns-in_err-put-in-Some : goal.gen_stmt-returns-in_err-put-in-Some
gen_stmt-returns-in_err-put-in-Some t c =
    at_exit _ _ _ _ c.from_residual-in_err-put-in-Some.ensures.1 (λ u q. c.in_err-put-in-Some.ensures u)

pub gen_stmt-returns-in_err-gen_stmt-in-Some : goal.gen_stmt-returns-in_err-gen_stmt-in-Some
gen_stmt-returns-in_err-gen_stmt-in-Some t c =
    at_exit _ _ _ _ c.from_residual-in_err-gen_stmt-in-Some.ensures.1 (whole _ _ _ _ (ap stmt_of (c.in-If.is ∙ ap (variants.If c.in-If.line c.in-If.test c.in-If.yes) c.in-Some.is) ∙ else_tree c.in-If.line c.in-If.test c.in-If.yes c.in-Some.other) (λ u q. c.in_err-gen_stmt-in-Some.ensures u (named _ _ c.deref.ensures q.1)))

pub gen_stmt-returns-in_err-over-in-Some : goal.gen_stmt-returns-in_err-over-in-Some
gen_stmt-returns-in_err-over-in-Some t c =
    at_exit _ _ _ _ c.from_residual-in_err-over-in-Some.ensures.1 (λ u q. c.in_err-over-in-Some.ensures u)

pub gen_stmt-returns-in_err-put-in-Some-2 : goal.gen_stmt-returns-in_err-put-in-Some-2
gen_stmt-returns-in_err-put-in-Some-2 t c =
    at_exit _ _ _ _ c.from_residual-in_err-put-in-Some-2.ensures.1 (λ u q. c.in_err-put-in-Some-2.ensures u)

pub gen_stmt-returns-in_err-second-in-Some : goal.gen_stmt-returns-in_err-second-in-Some
gen_stmt-returns-in_err-second-in-Some t c =
    at_exit _ _ _ _ c.from_residual-in_err-second-in-Some.ensures.1 (λ u q. c.in_err-second-in-Some.ensures u)

pub gen_stmt-returns-in_err-gen_stmt-in-Some-2 : goal.gen_stmt-returns-in_err-gen_stmt-in-Some-2
gen_stmt-returns-in_err-gen_stmt-in-Some-2 t c =
    at_exit _ _ _ _ c.from_residual-in_err-gen_stmt-in-Some-2.ensures.1 (whole _ _ _ _ (ap stmt_of (c.in-If.is ∙ ap (variants.If c.in-If.line c.in-If.test c.in-If.yes) c.in-Some.is) ∙ else_tree c.in-If.line c.in-If.test c.in-If.yes c.in-Some.other ∙ ap (λ x. IfTree c.in-If.line (tree_of c.in-If.test) (stmt_of x) (Else (stmt_of c.in-Some.other.value))) (sym c.deref.ensures)) (λ u q. c.in_err-gen_stmt-in-Some-2.ensures u (named _ _ c.deref-in-Some.ensures (there (λ l ms. IsClearStmt l ms (stmt_of c.in-Some.other.value)) c.args.scope.now c.gen_stmt.new.scope _ c.in_ok-gen_stmt-in-Some.ensures.layout c.in_ok-gen_stmt-in-Some.ensures.names q.2))))

pub gen_stmt-returns-in_err-end-in-Some : goal.gen_stmt-returns-in_err-end-in-Some
gen_stmt-returns-in_err-end-in-Some t c =
    at_exit _ _ _ _ c.from_residual-in_err-end-in-Some.ensures.1 (λ u q. c.in_err-end-in-Some.ensures u)

pub gen_stmt-returns-in_err-gen_expr-in-None : goal.gen_stmt-returns-in_err-gen_expr-in-None
gen_stmt-returns-in_err-gen_expr-in-None t c =
    at_exit _ _ _ _ c.from_residual-in_err-gen_expr-in-None.ensures.1 (whole _ _ _ _ (ap stmt_of (c.in-If.is ∙ ap (variants.If c.in-If.line c.in-If.test c.in-If.yes) c.in-None.is) ∙ if_tree c.in-If.line c.in-If.test c.in-If.yes) (λ u q. c.in_err-gen_expr-in-None.ensures u q.0))

pub gen_stmt-returns-in_err-jump-in-None : goal.gen_stmt-returns-in_err-jump-in-None
gen_stmt-returns-in_err-jump-in-None t c =
    at_exit _ _ _ _ c.from_residual-in_err-jump-in-None.ensures.1 (λ u q. c.in_err-jump-in-None.ensures u)

pub gen_stmt-returns-in_err-put-in-None : goal.gen_stmt-returns-in_err-put-in-None
gen_stmt-returns-in_err-put-in-None t c =
    at_exit _ _ _ _ c.from_residual-in_err-put-in-None.ensures.1 (λ u q. c.in_err-put-in-None.ensures u)

pub gen_stmt-returns-in_err-gen_stmt-in-None : goal.gen_stmt-returns-in_err-gen_stmt-in-None
gen_stmt-returns-in_err-gen_stmt-in-None t c =
    at_exit _ _ _ _ c.from_residual-in_err-gen_stmt-in-None.ensures.1 (whole _ _ _ _ (ap stmt_of (c.in-If.is ∙ ap (variants.If c.in-If.line c.in-If.test c.in-If.yes) c.in-None.is) ∙ if_tree c.in-If.line c.in-If.test c.in-If.yes) (λ u q. c.in_err-gen_stmt-in-None.ensures u (named _ _ c.deref-in-None.ensures q.1)))

pub gen_stmt-returns-in_err-end-in-None : goal.gen_stmt-returns-in_err-end-in-None
gen_stmt-returns-in_err-end-in-None t c =
    at_exit _ _ _ _ c.from_residual-in_err-end-in-None.ensures.1 (λ u q. c.in_err-end-in-None.ensures u)

pub gen_stmt-returns-in_err-gen_while-in-While : goal.gen_stmt-returns-in_err-gen_while-in-While
gen_stmt-returns-in_err-gen_while-in-While t c =
    at_exit _ _ _ _ c.from_residual-in_err-gen_while-in-While.ensures.1 (whole _ _ _ _ (ap stmt_of c.in-While.is ∙ while_tree c.in-While.line c.in-While.test c.in-While.body ∙ ap (λ x. WhileTree c.in-While.line (tree_of c.in-While.test) (stmt_of x)) (sym c.deref-in-While.ensures)) (λ u q. c.in_err-gen_while-in-While.ensures u (λ n. q)))

pub gen_stmt-returns-in_err-gen_do-in-DoWhile : goal.gen_stmt-returns-in_err-gen_do-in-DoWhile
gen_stmt-returns-in_err-gen_do-in-DoWhile t c =
    at_exit _ _ _ _ c.from_residual-in_err-gen_do-in-DoWhile.ensures.1 (whole _ _ _ _ (ap stmt_of c.in-DoWhile.is ∙ do_tree c.in-DoWhile.line c.in-DoWhile.body c.in-DoWhile.test ∙ ap (λ x. DoTree c.in-DoWhile.line (stmt_of x) (tree_of c.in-DoWhile.test)) (sym c.deref-in-DoWhile.ensures)) (λ u q. c.in_err-gen_do-in-DoWhile.ensures u (λ n. q)))

pub gen_stmt-returns-in_err-gen_for-in-For : goal.gen_stmt-returns-in_err-gen_for-in-For
gen_stmt-returns-in_err-gen_for-in-For t c =
    at_exit _ _ _ _ c.from_residual-in_err-gen_for-in-For.ensures.1 (whole _ _ _ _ (ap stmt_of c.in-For.is ∙ for_tree c.in-For.line c.in-For.init c.in-For.test c.in-For.step c.in-For.body ∙ ap (λ x. ForTree c.in-For.line (init_of c.in-For.init) (option_map tree_of c.in-For.test) (option_map tree_of c.in-For.step) (stmt_of x)) (sym c.deref-in-For.ensures)) (λ u q. c.in_err-gen_for-in-For.ensures u (λ n. q)))

pub gen_stmt-returns-in_err-gen_foreach-in-Foreach : goal.gen_stmt-returns-in_err-gen_foreach-in-Foreach
gen_stmt-returns-in_err-gen_foreach-in-Foreach t c =
    at_exit _ _ _ _ c.from_residual-in_err-gen_foreach-in-Foreach.ensures.1 (whole _ _ _ _ (ap stmt_of c.in-Foreach.is ∙ foreach_tree c.in-Foreach.line c.in-Foreach.first c.in-Foreach.second c.in-Foreach.over c.in-Foreach.body ∙ ap (λ x. ForeachTree c.in-Foreach.line c.in-Foreach.first c.in-Foreach.second (tree_of c.in-Foreach.over) (stmt_of x)) (sym c.deref-in-Foreach.ensures)) (λ u q. c.in_err-gen_foreach-in-Foreach.ensures u (λ n. q)))

pub gen_stmt-returns-in_err-gen_switch-in-Switch : goal.gen_stmt-returns-in_err-gen_switch-in-Switch
gen_stmt-returns-in_err-gen_switch-in-Switch t c =
    at_exit _ _ _ _ c.from_residual-in_err-gen_switch-in-Switch.ensures.1 (whole _ _ _ _ (ap stmt_of c.in-Switch.is ∙ switch_tree c.in-Switch.line c.in-Switch.on c.in-Switch.parts) (λ u q. c.in_err-gen_switch-in-Switch.ensures u (λ n. q)))

pub gen_stmt-returns-in_err-gen_break-in-Break : goal.gen_stmt-returns-in_err-gen_break-in-Break
gen_stmt-returns-in_err-gen_break-in-Break t c =
    at_exit _ _ _ _ c.from_residual-in_err-gen_break-in-Break.ensures.1 (λ u q. c.in_err-gen_break-in-Break.ensures u)

pub gen_stmt-returns-in_err-gen_continue-in-Continue : goal.gen_stmt-returns-in_err-gen_continue-in-Continue
gen_stmt-returns-in_err-gen_continue-in-Continue t c =
    at_exit _ _ _ _ c.from_residual-in_err-gen_continue-in-Continue.ensures.1 (λ u q. c.in_err-gen_continue-in-Continue.ensures u)

pub gen_stmt-returns-in_err-gen_return-in-Return : goal.gen_stmt-returns-in_err-gen_return-in-Return
gen_stmt-returns-in_err-gen_return-in-Return t c =
    at_exit _ _ _ _ c.from_residual-in_err-gen_return-in-Return.ensures.1 (whole _ _ _ _ (ap stmt_of c.in-Return.is ∙ return_tree c.in-Return.line c.in-Return.value) (λ u q. c.in_err-gen_return-in-Return.ensures u q))

pub gen_block-returns-in_err-gen_stmts : goal.gen_block-returns-in_err-gen_stmts
gen_block-returns-in_err-gen_stmts t c =
    at_exit _ _ _ _ c.from_residual.ensures.1 (λ u q. c.in_err-gen_stmts.ensures u (q 0))

pub gen_stmts-returns-in_err-gen_next : goal.gen_stmts-returns-in_err-gen_next
gen_stmts-returns-in_err-gen_next t c =
    let all = c.args.stmts.now.items in
    let i = c.loop-s.s-index in
    let x = c.s-item.result in
    let s0 = c.args.scope.now in
    let lt : i < length all = omega (arith, ap length c.deref-s-items.ensures.value) in
    let is : get_or all i x ≡ x = ap (λ l. get_or l i x) (sym c.deref-s-items.ensures.value) ∙ sym c.s-item.is in
    at_exit _ _ _ _ c.from_residual.ensures.1
    (λ u q. c.in_err-gen_next.ensures u
    (there (λ l ms. IsClearStmt l ms (stmt_of x)) s0 c.loop-s.scope (behind_all s0.locals.items (stmt_trees (map stmt_of (take i all)))) c.loop-s.invariant.layout c.loop-s.invariant.names (stmt_of_all (layout_of s0.layout) s0.locals.items all i x lt is q)))

pub gen_next-returns-in_err-first : goal.gen_next-returns-in_err-first
gen_next-returns-in_err-first t c =
    at_exit _ _ _ _ c.from_residual.ensures.1 (λ u q. c.in_err-first.ensures u)

pub gen_next-returns-in_err-gen_clears : goal.gen_next-returns-in_err-gen_clears
gen_next-returns-in_err-gen_clears t c =
    at_exit _ _ _ _ c.from_residual-in_err-gen_clears.ensures.1 (λ u q. c.in_err-gen_clears.ensures u)

pub gen_next-returns-in_err-gen_stmt : goal.gen_next-returns-in_err-gen_stmt
gen_next-returns-in_err-gen_stmt t c =
    at_exit _ _ _ _ c.from_residual-in_err-gen_stmt.ensures.1 (λ u q. c.in_err-gen_stmt.ensures u q)

pub gen_while-returns-in_err-start : goal.gen_while-returns-in_err-start
gen_while-returns-in_err-start t c =
    at_exit _ _ _ _ c.from_residual.ensures.1 (λ u q. c.in_err-start.ensures u)

pub gen_while-returns-in_err-put : goal.gen_while-returns-in_err-put
gen_while-returns-in_err-put t c =
    at_exit _ _ _ _ c.from_residual-in_err-put.ensures.1 (λ u q. c.in_err-put.ensures u)

pub gen_while-returns-in_err-turn : goal.gen_while-returns-in_err-turn
gen_while-returns-in_err-turn t c =
    at_exit _ _ _ _ c.from_residual-in_err-turn.ensures.1 (λ u q. c.in_err-turn.ensures u)

pub gen_while-returns-in_err-put-2 : goal.gen_while-returns-in_err-put-2
gen_while-returns-in_err-put-2 t c =
    at_exit _ _ _ _ c.from_residual-in_err-put-2.ensures.1 (λ u q. c.in_err-put-2.ensures u)

pub gen_while-returns-in_err-gen_stmt : goal.gen_while-returns-in_err-gen_stmt
gen_while-returns-in_err-gen_stmt t c =
    at_exit _ _ _ _ c.from_residual-in_err-gen_stmt.ensures.1 (λ u q. c.in_err-gen_stmt.ensures u (q 0).1)

pub gen_while-returns-in_err-again : goal.gen_while-returns-in_err-again
gen_while-returns-in_err-again t c =
    at_exit _ _ _ _ c.from_residual-in_err-again.ensures.1 (λ u q. c.in_err-again.ensures u)

pub gen_while-returns-in_err-gen_hidden : goal.gen_while-returns-in_err-gen_hidden
gen_while-returns-in_err-gen_hidden t c =
    at_exit _ _ _ _ c.from_residual-in_err-gen_hidden.ensures.1 (λ u q. c.in_err-gen_hidden.ensures u (forgot (λ l ms. IsClear l ms (tree_of c.args.test.now)) c.args.scope.now c.gen_stmt.new.scope c.len-seen.result (declared (stmt_of c.args.body.now)) (c.len-seen.ensures ∙ c.args.scope.now.locals.ok.0) c.in_ok-gen_stmt.ensures.layout c.in_ok-gen_stmt.ensures.names (q 0).0))

pub gen_while-returns-in_err-put-3 : goal.gen_while-returns-in_err-put-3
gen_while-returns-in_err-put-3 t c =
    at_exit _ _ _ _ c.from_residual-in_err-put-3.ensures.1 (λ u q. c.in_err-put-3.ensures u)

pub gen_while-returns-in_err-out : goal.gen_while-returns-in_err-out
gen_while-returns-in_err-out t c =
    at_exit _ _ _ _ c.from_residual-in_err-out.ensures.1 (λ u q. c.in_err-out.ensures u)

pub gen_do-returns-in_err-turn : goal.gen_do-returns-in_err-turn
gen_do-returns-in_err-turn t c =
    at_exit _ _ _ _ c.from_residual.ensures.1 (λ u q. c.in_err-turn.ensures u)

pub gen_do-returns-in_err-put : goal.gen_do-returns-in_err-put
gen_do-returns-in_err-put t c =
    at_exit _ _ _ _ c.from_residual-in_err-put.ensures.1 (λ u q. c.in_err-put.ensures u)

pub gen_do-returns-in_err-gen_stmt : goal.gen_do-returns-in_err-gen_stmt
gen_do-returns-in_err-gen_stmt t c =
    at_exit _ _ _ _ c.from_residual-in_err-gen_stmt.ensures.1 (λ u q. c.in_err-gen_stmt.ensures u (q 0).0)

pub gen_do-returns-in_err-again : goal.gen_do-returns-in_err-again
gen_do-returns-in_err-again t c =
    at_exit _ _ _ _ c.from_residual-in_err-again.ensures.1 (λ u q. c.in_err-again.ensures u)

pub gen_do-returns-in_err-gen_expr : goal.gen_do-returns-in_err-gen_expr
gen_do-returns-in_err-gen_expr t c =
    at_exit _ _ _ _ c.from_residual-in_err-gen_expr.ensures.1 (λ u q. c.in_err-gen_expr.ensures u (there (λ l ms. IsClear l ms (tree_of c.args.test.now)) c.args.scope.now c.gen_stmt.new.scope _ c.in_ok-gen_stmt.ensures.layout c.in_ok-gen_stmt.ensures.names (q 0).1))

pub gen_do-returns-in_err-put-2 : goal.gen_do-returns-in_err-put-2
gen_do-returns-in_err-put-2 t c =
    at_exit _ _ _ _ c.from_residual-in_err-put-2.ensures.1 (λ u q. c.in_err-put-2.ensures u)

pub gen_do-returns-in_err-out : goal.gen_do-returns-in_err-out
gen_do-returns-in_err-out t c =
    at_exit _ _ _ _ c.from_residual-in_err-out.ensures.1 (λ u q. c.in_err-out.ensures u)

pub gen_for-returns-in_err-gen_init : goal.gen_for-returns-in_err-gen_init
gen_for-returns-in_err-gen_init t c =
    at_exit _ _ _ _ c.from_residual.ensures.1 (λ u q. c.in_err-gen_init.ensures u (q 0).0)

pub gen_for-returns-in_err-gen_turns : goal.gen_for-returns-in_err-gen_turns
gen_for-returns-in_err-gen_turns t c =
    at_exit _ _ _ _ c.from_residual-in_err-gen_turns.ensures.1 (λ u q. c.in_err-gen_turns.ensures u (there (λ l ms. IsClearTurns l ms (option_map tree_of c.args.test.now) (option_map tree_of c.args.step.now) (stmt_of c.args.body.now)) c.args.scope.now c.gen_init.new.scope _ c.in_ok-gen_init.ensures.layout c.in_ok-gen_init.ensures.names (let p = q 0 in (p.1, p.2, p.3))))

pub gen_turns-returns-in_err-start : goal.gen_turns-returns-in_err-start
gen_turns-returns-in_err-start t c =
    at_exit _ _ _ _ c.from_residual.ensures.1 (λ u q. c.in_err-start.ensures u)

pub gen_turns-returns-in_err-put : goal.gen_turns-returns-in_err-put
gen_turns-returns-in_err-put t c =
    at_exit _ _ _ _ c.from_residual-in_err-put.ensures.1 (λ u q. c.in_err-put.ensures u)

pub gen_turns-returns-in_err-turn : goal.gen_turns-returns-in_err-turn
gen_turns-returns-in_err-turn t c =
    at_exit _ _ _ _ c.from_residual-in_err-turn.ensures.1 (λ u q. c.in_err-turn.ensures u)

pub gen_turns-returns-in_err-put-2 : goal.gen_turns-returns-in_err-put-2
gen_turns-returns-in_err-put-2 t c =
    at_exit _ _ _ _ c.from_residual-in_err-put-2.ensures.1 (λ u q. c.in_err-put-2.ensures u)

pub gen_turns-returns-in_err-gen_stmt : goal.gen_turns-returns-in_err-gen_stmt
gen_turns-returns-in_err-gen_stmt t c =
    at_exit _ _ _ _ c.from_residual-in_err-gen_stmt.ensures.1 (λ u q. c.in_err-gen_stmt.ensures u q.2)

pub gen_turns-returns-in_err-stepped : goal.gen_turns-returns-in_err-stepped
gen_turns-returns-in_err-stepped t c =
    at_exit _ _ _ _ c.from_residual-in_err-stepped.ensures.1 (λ u q. c.in_err-stepped.ensures u)

pub gen_turns-returns-in_err-gen_run_if : goal.gen_turns-returns-in_err-gen_run_if
gen_turns-returns-in_err-gen_run_if t c =
    at_exit _ _ _ _ c.from_residual-in_err-gen_run_if.ensures.1 (λ u q. c.in_err-gen_run_if.ensures u (cut (λ l ms. IsClearIf l ms (option_map tree_of c.args.step.now)) c.args.scope.now c.gen_stmt.new.scope c.len-seen.result (declared (stmt_of c.args.body.now)) _ (c.len-seen.ensures ∙ c.args.scope.now.locals.ok.0) c.in_ok-gen_stmt.ensures.layout c.in_ok-gen_stmt.ensures.names c.truncate.ensures.items q.1))

pub gen_turns-returns-in_err-tested : goal.gen_turns-returns-in_err-tested
gen_turns-returns-in_err-tested t c =
    at_exit _ _ _ _ c.from_residual-in_err-tested.ensures.1 (λ u q. c.in_err-tested.ensures u)

pub gen_turns-returns-in_err-gen_test : goal.gen_turns-returns-in_err-gen_test
gen_turns-returns-in_err-gen_test t c =
    at_exit _ _ _ _ c.from_residual-in_err-gen_test.ensures.1 (λ u q. c.in_err-gen_test.ensures u (cut (λ l ms. IsClearIf l ms (option_map tree_of c.args.test.now)) c.args.scope.now c.gen_stmt.new.scope c.len-seen.result (declared (stmt_of c.args.body.now)) _ (c.len-seen.ensures ∙ c.args.scope.now.locals.ok.0) c.in_ok-gen_stmt.ensures.layout c.in_ok-gen_stmt.ensures.names c.truncate.ensures.items q.0))

pub gen_turns-returns-in_err-out : goal.gen_turns-returns-in_err-out
gen_turns-returns-in_err-out t c =
    at_exit _ _ _ _ c.from_residual-in_err-out.ensures.1 (λ u q. c.in_err-out.ensures u)

pub gen_foreach-returns-in_err-gen_expr : goal.gen_foreach-returns-in_err-gen_expr
gen_foreach-returns-in_err-gen_expr t c =
    at_exit _ _ _ _ c.from_residual.ensures.1 (λ u q. c.in_err-gen_expr.ensures u (q 0).0)

pub gen_foreach-returns-in_err-put : goal.gen_foreach-returns-in_err-put
gen_foreach-returns-in_err-put t c =
    at_exit _ _ _ _ c.from_residual-in_err-put.ensures.1 (λ u q. c.in_err-put.ensures u)

pub gen_foreach-returns-in_err-gen_over : goal.gen_foreach-returns-in_err-gen_over
gen_foreach-returns-in_err-gen_over t c =
    at_exit _ _ _ _ c.from_residual-in_err-gen_over.ensures.1 (λ u q. c.in_err-gen_over.ensures u (let p = q 0 in ((p.1, p.2), p.3)))

pub gen_over-returns-in_err-start : goal.gen_over-returns-in_err-start
gen_over-returns-in_err-start t c =
    at_exit _ _ _ _ c.from_residual.ensures.1 (λ u q. c.in_err-start.ensures u)

pub gen_over-returns-in_err-put : goal.gen_over-returns-in_err-put
gen_over-returns-in_err-put t c =
    at_exit _ _ _ _ c.from_residual-in_err-put.ensures.1 (λ u q. c.in_err-put.ensures u)

pub gen_over-returns-in_err-turn : goal.gen_over-returns-in_err-turn
gen_over-returns-in_err-turn t c =
    at_exit _ _ _ _ c.from_residual-in_err-turn.ensures.1 (λ u q. c.in_err-turn.ensures u)

pub gen_over-returns-in_err-put-2 : goal.gen_over-returns-in_err-put-2
gen_over-returns-in_err-put-2 t c =
    at_exit _ _ _ _ c.from_residual-in_err-put-2.ensures.1 (λ u q. c.in_err-put-2.ensures u)

pub gen_over-returns-in_err-gen_eaches : goal.gen_over-returns-in_err-gen_eaches
gen_over-returns-in_err-gen_eaches t c =
    at_exit _ _ _ _ c.from_residual-in_err-gen_eaches.ensures.1 (λ u q. c.in_err-gen_eaches.ensures u q.0)

pub gen_over-returns-in_err-gen_stmt : goal.gen_over-returns-in_err-gen_stmt
gen_over-returns-in_err-gen_stmt t c =
    at_exit _ _ _ _ c.from_residual-in_err-gen_stmt.ensures.1 (λ u q. c.in_err-gen_stmt.ensures u (there (λ l ms. IsClearStmt l ms (stmt_of c.args.body.now)) c.args.scope.now c.gen_eaches.new.scope _ c.in_ok-gen_eaches.ensures.layout c.in_ok-gen_eaches.ensures.names q.1))

pub gen_over-returns-in_err-next : goal.gen_over-returns-in_err-next
gen_over-returns-in_err-next t c =
    at_exit _ _ _ _ c.from_residual-in_err-next.ensures.1 (λ u q. c.in_err-next.ensures u)

pub gen_over-returns-in_err-leave : goal.gen_over-returns-in_err-leave
gen_over-returns-in_err-leave t c =
    at_exit _ _ _ _ c.from_residual-in_err-leave.ensures.1 (λ u q. c.in_err-leave.ensures u)

pub gen_over-returns-in_err-end : goal.gen_over-returns-in_err-end
gen_over-returns-in_err-end t c =
    at_exit _ _ _ _ c.from_residual-in_err-end.ensures.1 (λ u q. c.in_err-end.ensures u)

pub gen_over-returns-in_err-put_all : goal.gen_over-returns-in_err-put_all
gen_over-returns-in_err-put_all t c =
    at_exit _ _ _ _ c.from_residual-in_err-put_all.ensures.1 (λ u q. c.in_err-put_all.ensures u)

pub gen_switch-returns-in_err-gen_expr : goal.gen_switch-returns-in_err-gen_expr
gen_switch-returns-in_err-gen_expr t c =
    at_exit _ _ _ _ c.from_residual.ensures.1 (λ u q. c.in_err-gen_expr.ensures u (q 0).0)

pub gen_switch-returns-in_err-first : goal.gen_switch-returns-in_err-first
gen_switch-returns-in_err-first t c =
    at_exit _ _ _ _ c.from_residual-in_err-first.ensures.1 (λ u q. c.in_err-first.ensures u)

pub gen_switch-returns-in_err-clear_parts : goal.gen_switch-returns-in_err-clear_parts
gen_switch-returns-in_err-clear_parts t c =
    at_exit _ _ _ _ c.from_residual-in_err-clear_parts.ensures.1 (λ u q. c.in_err-clear_parts.ensures u)

pub gen_switch-returns-in_err-gen_table : goal.gen_switch-returns-in_err-gen_table
gen_switch-returns-in_err-gen_table t c =
    at_exit _ _ _ _ c.from_residual-in_err-gen_table.ensures.1 (λ u q. c.in_err-gen_table.ensures u (q 0).1)

pub gen_table-returns-in_err-start : goal.gen_table-returns-in_err-start
gen_table-returns-in_err-start t c =
    at_exit _ _ _ _ c.from_residual.ensures.1 (λ u q. c.in_err-start.ensures u)

pub gen_table-returns-in_err-put : goal.gen_table-returns-in_err-put
gen_table-returns-in_err-put t c =
    at_exit _ _ _ _ c.from_residual-in_err-put.ensures.1 (λ u q. c.in_err-put.ensures u)

pub gen_table-returns-in_err-first : goal.gen_table-returns-in_err-first
gen_table-returns-in_err-first t c =
    at_exit _ _ _ _ c.from_residual-in_err-first.ensures.1 (λ u q. c.in_err-first.ensures u)

pub gen_table-returns-in_err-labels : goal.gen_table-returns-in_err-labels
gen_table-returns-in_err-labels t c =
    at_exit _ _ _ _ c.from_residual-in_err-labels.ensures.1 (λ u q. c.in_err-labels.ensures u q)

pub gen_table-returns-in_err-end : goal.gen_table-returns-in_err-end
gen_table-returns-in_err-end t c =
    at_exit _ _ _ _ c.from_residual-in_err-end.ensures.1 (λ u q. c.in_err-end.ensures u)

pub gen_table-returns-in_err-row : goal.gen_table-returns-in_err-row
gen_table-returns-in_err-row t c =
    at_exit _ _ _ _ c.from_residual-in_err-row.ensures.1 (λ u q. c.in_err-row.ensures u)

pub gen_parts-returns-in_err-gen_label-in-Label : goal.gen_parts-returns-in_err-gen_label-in-Label
gen_parts-returns-in_err-gen_label-in-Label t c =
    let all = c.args.parts.now.items in
    let i = c.loop-part.part-index in
    let x = c.part-item.result in
    let s0 = c.args.scope.now in
    let lt : i < length all = omega (arith, c.loop-part-test.true, ap length c.deref-part-items.ensures.value) in
    let is : get_or all i x ≡ x = ap (λ l. get_or l i x) (sym c.deref-part-items.ensures.value) ∙ sym c.part-item.is in
    at_exit _ _ _ _ c.from_residual.ensures.1 (λ u q. c.in_err-gen_label-in-Label.ensures u (label_of_all (layout_of s0.layout) s0.locals.items all i x c.in-Label.label c.loop-part.labels.other lt is c.in-Label.is c.loop-part.invariant.default q))

pub gen_parts-returns-in_err-gen_next-in-Stmt : goal.gen_parts-returns-in_err-gen_next-in-Stmt
gen_parts-returns-in_err-gen_next-in-Stmt t c =
    let all = c.args.parts.now.items in
    let i = c.loop-part.part-index in
    let x = c.part-item.result in
    let s0 = c.args.scope.now in
    let lt : i < length all = omega (arith, c.loop-part-test.true, ap length c.deref-part-items.ensures.value) in
    let is : get_or all i x ≡ x = ap (λ l. get_or l i x) (sym c.deref-part-items.ensures.value) ∙ sym c.part-item.is in
    at_exit _ _ _ _ c.from_residual-in_err-gen_next-in-Stmt.ensures.1
    (λ u q. c.in_err-gen_next-in-Stmt.ensures u
    (there (λ l ms. IsClearStmt l ms (stmt_of c.in-Stmt.s)) s0 c.loop-part.scope (behind_parts s0.locals.items (take i all)) c.loop-part.invariant.layout c.loop-part.invariant.names (stmt_of_parts (layout_of s0.layout) s0.locals.items all i x c.in-Stmt.s lt is c.in-Stmt.is q)))
