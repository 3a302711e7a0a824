use Rattle.std.proofs.Common.{◌≡◌, ◌<◌, ◌+◌, ◌++◌, ◌∷◌, [], length, get_or, drop, ap, sym, subst, ◌∙◌, option_map, arith}
use Rattle.lp_tree.proofs.StmtNodes.{do_tree, for_tree, foreach_tree, switch_tree}
use Rattle.lp_tree.specs.Pieces.{parts_of}
use Rattle.lp_tree.specs.StatementView.{stmt_of, init_of}
use Rattle.lp_tree.specs.TreeView.{tree_of}
use Rattle.lp_types_expr.specs.Scopes.{declaring, inside}
use Rattle.lp_types_expr.specs.Surroundings.{around_of}
use Rattle.lp_types.specs.Loops.{InParts}
use Rattle.lp_types.specs.Pieces.{head_faults}
use Rattle.lp_types.specs.TypeFaults.{behind, declares, declares_first, declares_each, declares_second, stmt_faults, parts_faults}
use Rattle.lp_types.proofs.Adding.{then, rest_more}
use Rattle.lp_types.proofs.StmtSteps.{told_as, behind_as, stays, inside_left, do_told, parts_label, parts_stmt}
use Rattle.lp_types.proofs.stmt.+stmt.Goals.{parts_faults-in-Label+in_ok-label_faults-in-Label, parts_faults-in-Stmt+in_ok-stmt_faults-in-Stmt}
use Rattle.lp_types.proofs.stmt.+stmt.Goals as goal

pub parts_faults-all-preserved : goal.parts_faults-all-preserved
parts_faults-all-preserved t c =
    let a = around_of c.args.around.now in
    let first = c.args.scopes.now in
    let before = c.args.faults.now.items in
    let xs = c.args.parts.now.items in
    let i = c.all.part-index in
    let x = c.part-item.result in
    let lt : i < length xs = omega (arith, ap length c.deref-part-items.ensures.value) in
    let is : get_or xs i x ≡ x = ap (λ l. get_or l i x) (sym c.deref-part-items.ensures.value) ∙ sym c.part-item.is in
    let rest = rest_more xs i x lt is in
    let now = subst (λ l. InParts a first c.all.scopes before c.all.faults.items (parts_of xs) (parts_of l) c.all.labels) rest c.all.invariant in
    elim c.match-part.branch [
      | parts_faults-in-Label+in_ok-label_faults-in-Label w ↦
          rw (w.scopes-is, w.faults-is, w.labels-is)
          (parts_label a first c.all.scopes before c.all.faults.items w.label_faults.new.faults.items (parts_of xs) (parts_of (drop (i + 1) xs)) w.in-Label.label c.all.labels w.label_faults.new.labels
          (subst (λ y. InParts a first c.all.scopes before c.all.faults.items (parts_of xs) (parts_of (y ∷ drop (i + 1) xs)) c.all.labels) w.in-Label.is now) w.in_ok-label_faults-in-Label.ensures)
      | parts_faults-in-Stmt+in_ok-stmt_faults-in-Stmt w ↦
          rw (w.scopes-is, w.faults-is, w.labels-is)
          (parts_stmt a first c.all.scopes w.stmt_faults.new.scopes before c.all.faults.items w.stmt_faults.new.faults.items (parts_of xs) (parts_of (drop (i + 1) xs)) (stmt_of w.in-Stmt.stmt) c.all.labels
          (subst (λ y. InParts a first c.all.scopes before c.all.faults.items (parts_of xs) (parts_of (y ∷ drop (i + 1) xs)) c.all.labels) w.in-Stmt.is now) w.in_ok-stmt_faults-in-Stmt.ensures.faults w.in_ok-stmt_faults-in-Stmt.ensures.scope)
    ]

pub stmt_faults-returns-in_ok-expr_faults-in-DoWhile-clause-faults : goal.stmt_faults-returns-in_ok-expr_faults-in-DoWhile-clause-faults
stmt_faults-returns-in_ok-expr_faults-in-DoWhile-clause-faults t c =
    let a = around_of c.args.around.now in
    let sc = c.args.scopes.now in
    let d = c.in-DoWhile in
    told_as a sc c.args.faults.now.items _ (ap stmt_of d.is ∙ do_tree d.line d.body d.test)
    (do_told a sc c.stmt_faults-in-DoWhile.new.scopes d.line (stmt_of d.body.value) (tree_of d.test) c.args.faults.now.items c.assignments.new.faults.items c.add_all.new.faults.items _ c.stmt_faults-in-DoWhile.new.faults.items
    (c.in_ok-stmt_faults-in-DoWhile.ensures.faults ∙ ap (λ l. l ++ stmt_faults a sc (stmt_of c.deref-in-DoWhile.result.now)) c.new-inner.ensures.items ∙ ap (λ y. stmt_faults a sc (stmt_of y)) c.deref-in-DoWhile.ensures)
    (c.in_ok-stmt_faults-in-DoWhile.ensures.scope ∙ ap (λ y. behind sc (stmt_of y)) c.deref-in-DoWhile.ensures)
    c.in_ok-assignments-in-DoWhile.ensures c.in_ok-add_all-in-DoWhile.ensures c.in_ok-expr_faults-in-DoWhile.ensures)

pub stmt_faults-returns-in_ok-stmt_faults-in-For-clause-faults : goal.stmt_faults-returns-in_ok-stmt_faults-in-For-clause-faults
stmt_faults-returns-in_ok-stmt_faults-in-For-clause-faults t c =
    let a = around_of c.args.around.now in
    let sc = c.args.scopes.now in
    let d = c.in-For in
    let ls = declares_first (init_of d.init) in
    let mid = c.in_ok-head_faults-in-For.ensures.scope ∙ ap (λ s. declaring s ls) c.enter-mark-in-For.ensures.inside in
    told_as a sc c.args.faults.now.items _ (ap stmt_of d.is ∙ for_tree d.line d.init d.test d.step d.body)
    (then _ _ _ (c.in_ok-head_faults-in-For.ensures.faults ∙ ap (λ s. c.args.faults.now.items ++ head_faults a s d.line (init_of d.init) (option_map tree_of d.test) (option_map tree_of d.step)) c.enter-mark-in-For.ensures.inside)
    (c.in_ok-stmt_faults-in-For.ensures.faults
    ∙ ap (λ s. c.head_faults.new.faults.items ++ stmt_faults a s (stmt_of c.deref-in-For.result.now)) mid
    ∙ ap (λ y. c.head_faults.new.faults.items ++ stmt_faults a (declaring (inside sc) ls) (stmt_of y)) c.deref-in-For.ensures))

pub stmt_faults-returns-in_ok-stmt_faults-in-For-clause-scope : goal.stmt_faults-returns-in_ok-stmt_faults-in-For-clause-scope
stmt_faults-returns-in_ok-stmt_faults-in-For-clause-scope t c =
    let sc = c.args.scopes.now in
    let d = c.in-For in
    let ls = declares_first (init_of d.init) in
    let mid = c.in_ok-head_faults-in-For.ensures.scope ∙ ap (λ s. declaring s ls) c.enter-mark-in-For.ensures.inside in
    behind_as sc _ (ap stmt_of d.is ∙ for_tree d.line d.init d.test d.step d.body)
    (stays sc _ (c.leave-in-For.ensures.back sc (ls ++ declares (stmt_of d.body.value)) c.enter-mark-in-For.ensures.mark
    (inside_left sc c.stmt_faults-in-For.new.scopes ls (stmt_of d.body.value) c.head_faults.new.scopes mid (c.in_ok-stmt_faults-in-For.ensures.scope ∙ ap (λ y. behind c.head_faults.new.scopes (stmt_of y)) c.deref-in-For.ensures))))

pub stmt_faults-returns-in_ok-stmt_faults-in-Foreach-clause-faults : goal.stmt_faults-returns-in_ok-stmt_faults-in-Foreach-clause-faults
stmt_faults-returns-in_ok-stmt_faults-in-Foreach-clause-faults t c =
    let a = around_of c.args.around.now in
    let sc = c.args.scopes.now in
    let d = c.in-Foreach in
    let ls = declares_each d.first ++ declares_second d.second in
    let mid = c.in_ok-declare_variables-in-Foreach.ensures ∙ ap (λ s. declaring s ls) (c.enter-mark-in-Foreach.ensures.inside ∙ ap inside c.in_ok-over_faults-in-Foreach.ensures.scope) in
    told_as a sc c.args.faults.now.items _ (ap stmt_of d.is ∙ foreach_tree d.line d.first d.second d.over d.body)
    (then _ _ _ c.in_ok-over_faults-in-Foreach.ensures.faults
    (c.in_ok-stmt_faults-in-Foreach.ensures.faults
    ∙ ap (λ s. c.over_faults.new.faults.items ++ stmt_faults a s (stmt_of c.deref-in-Foreach.result.now)) mid
    ∙ ap (λ y. c.over_faults.new.faults.items ++ stmt_faults a (declaring (inside sc) ls) (stmt_of y)) c.deref-in-Foreach.ensures))

pub stmt_faults-returns-in_ok-stmt_faults-in-Foreach-clause-scope : goal.stmt_faults-returns-in_ok-stmt_faults-in-Foreach-clause-scope
stmt_faults-returns-in_ok-stmt_faults-in-Foreach-clause-scope t c =
    let sc = c.over_faults.new.scopes in
    let d = c.in-Foreach in
    let ls = declares_each d.first ++ declares_second d.second in
    let mid = c.in_ok-declare_variables-in-Foreach.ensures ∙ ap (λ s. declaring s ls) c.enter-mark-in-Foreach.ensures.inside in
    behind_as c.args.scopes.now _ (ap stmt_of d.is ∙ foreach_tree d.line d.first d.second d.over d.body)
    (stays c.args.scopes.now _ (c.leave-in-Foreach.ensures.back sc (ls ++ declares (stmt_of d.body.value)) c.enter-mark-in-Foreach.ensures.mark
    (inside_left sc c.stmt_faults-in-Foreach.new.scopes ls (stmt_of d.body.value) c.declare_variables.new.scopes mid (c.in_ok-stmt_faults-in-Foreach.ensures.scope ∙ ap (λ y. behind c.declare_variables.new.scopes (stmt_of y)) c.deref-in-Foreach.ensures))
    ∙ c.in_ok-over_faults-in-Foreach.ensures.scope))

pub stmt_faults-returns-in_ok-parts_faults-in-Switch-clause-faults : goal.stmt_faults-returns-in_ok-parts_faults-in-Switch-clause-faults
stmt_faults-returns-in_ok-parts_faults-in-Switch-clause-faults t c =
    let a = around_of c.args.around.now in
    let sc = c.args.scopes.now in
    let d = c.in-Switch in
    told_as a sc c.args.faults.now.items _ (ap stmt_of d.is ∙ switch_tree d.line d.on d.parts)
    (then _ _ _ c.in_ok-test_faults-in-Switch.ensures
    (c.in_ok-parts_faults-in-Switch.ensures.faults ∙ ap (λ s. c.test_faults-in-Switch.new.faults.items ++ parts_faults a s [] (parts_of d.parts.items)) c.enter-mark-in-Switch.ensures.inside))

pub stmt_faults-returns-in_ok-parts_faults-in-Switch-clause-scope : goal.stmt_faults-returns-in_ok-parts_faults-in-Switch-clause-scope
stmt_faults-returns-in_ok-parts_faults-in-Switch-clause-scope t c =
    let sc = c.args.scopes.now in
    let d = c.in-Switch in
    let within = c.in_ok-parts_faults-in-Switch.ensures.scope in
    behind_as sc _ (ap stmt_of d.is ∙ switch_tree d.line d.on d.parts)
    (stays sc _ (c.leave-in-Switch.ensures.back sc within.more c.enter-mark-in-Switch.ensures.mark (within.scope ∙ ap (λ s. declaring s within.more) c.enter-mark-in-Switch.ensures.inside)))
