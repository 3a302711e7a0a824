use Rattle.std.proofs.Common.{◌+◌, refl, sym, ap, ◌∙◌}
use Rattle.lp_tree.specs.declared.stmt.Stmt.TheVariants as variants
use Rattle.lp_tree.specs.TreeView.{tree_of}
use Rattle.lp_tree.specs.StatementView.{stmt_of, local_of, init_of}
use Rattle.lp_tree.proofs.StmtNodes.{block_tree, break_tree, continue_tree, declares_tree, do_tree, else_tree, empty_tree, for_tree, foreach_tree, if_tree, return_tree, run_tree, switch_tree, while_tree}
use Rattle.lp_codegen_flow.proofs.Clearing.{cleared_none, cleared_as, cleared_tree, nothing_by, local_by_tree, names_long, else_cleared, if_cleared, for_cleared, each_cleared, while_by, do_by, cleared_at, hidden_at, hidden_which}
use Rattle.lp_codegen_flow.proofs.clears.+clears.Goals as goal

pub gen_clears-returns-in-Block : goal.gen_clears-returns-in-Block
gen_clears-returns-in-Block t c =
    cleared_tree c.args.which c.args.first _ _ _ (ap stmt_of c.in-Block.is ∙ block_tree c.in-Block.line c.in-Block.stmts) (cleared_as (nothing_by c.args.which _ c.args.first refl refl refl) refl (cleared_none c.args.first _))

pub gen_clears-returns-in-Empty : goal.gen_clears-returns-in-Empty
gen_clears-returns-in-Empty t c =
    cleared_tree c.args.which c.args.first _ _ _ (ap stmt_of c.in-Empty.is ∙ empty_tree c.in-Empty.line) (cleared_as (nothing_by c.args.which _ c.args.first refl refl refl) refl (cleared_none c.args.first _))

pub gen_clears-returns-in-Run : goal.gen_clears-returns-in-Run
gen_clears-returns-in-Run t c =
    cleared_tree c.args.which c.args.first _ _ _ (ap stmt_of c.in-Run.is ∙ run_tree c.in-Run.line c.in-Run.of) (cleared_as (nothing_by c.args.which _ c.args.first refl refl refl) refl (cleared_none c.args.first _))

pub gen_clears-returns-in-Switch : goal.gen_clears-returns-in-Switch
gen_clears-returns-in-Switch t c =
    cleared_tree c.args.which c.args.first _ _ _ (ap stmt_of c.in-Switch.is ∙ switch_tree c.in-Switch.line c.in-Switch.on c.in-Switch.parts) (cleared_as (nothing_by c.args.which _ c.args.first refl refl refl) refl (cleared_none c.args.first _))

pub gen_clears-returns-in-Break : goal.gen_clears-returns-in-Break
gen_clears-returns-in-Break t c =
    cleared_tree c.args.which c.args.first _ _ _ (ap stmt_of c.in-Break.is ∙ break_tree c.in-Break.line) (cleared_as (nothing_by c.args.which _ c.args.first refl refl refl) refl (cleared_none c.args.first _))

pub gen_clears-returns-in-Continue : goal.gen_clears-returns-in-Continue
gen_clears-returns-in-Continue t c =
    cleared_tree c.args.which c.args.first _ _ _ (ap stmt_of c.in-Continue.is ∙ continue_tree c.in-Continue.line) (cleared_as (nothing_by c.args.which _ c.args.first refl refl refl) refl (cleared_none c.args.first _))

pub gen_clears-returns-in-Return : goal.gen_clears-returns-in-Return
gen_clears-returns-in-Return t c =
    cleared_tree c.args.which c.args.first _ _ _ (ap stmt_of c.in-Return.is ∙ return_tree c.in-Return.line c.in-Return.value) (cleared_as (nothing_by c.args.which _ c.args.first refl refl refl) refl (cleared_none c.args.first _))

pub gen_clears-returns-in_ok-next-in-Declares : goal.gen_clears-returns-in_ok-next-in-Declares
gen_clears-returns-in_ok-next-in-Declares t c =
    cleared_tree c.args.which c.args.first _ _ _ (ap stmt_of c.in-Declares.is ∙ declares_tree c.in-Declares.line c.in-Declares.local) (cleared_as (local_by_tree c.args.which c.in-Declares.line (local_of c.in-Declares.local) c.args.first) (sym (names_long c.in-Declares.local.ones.items)) c.in_ok-next-in-Declares.ensures)

pub gen_clears-returns-in_ok-next-in-Some : goal.gen_clears-returns-in_ok-next-in-Some
gen_clears-returns-in_ok-next-in-Some t c =
    cleared_tree c.args.which c.args.first _ _ _ (ap stmt_of (c.in-If.is ∙ ap (variants.If c.in-If.line c.in-If.test c.in-If.yes) c.in-Some.is) ∙ else_tree c.in-If.line c.in-If.test c.in-If.yes c.in-Some.other) (else_cleared c.args.which c.in-If.line (tree_of c.in-If.test) (stmt_of c.in-If.yes.value) (stmt_of c.in-Some.other.value) c.args.first c.in_ok-between-in-If.between _ (cleared_at c.inside.ensures (ap stmt_of c.deref.ensures) refl c.in_ok-between-in-If.ensures) (cleared_at c.inside-in-Some.ensures (ap stmt_of c.deref-in-Some.ensures) refl c.in_ok-next-in-Some.ensures))

pub gen_clears-returns-in-None : goal.gen_clears-returns-in-None
gen_clears-returns-in-None t c =
    cleared_tree c.args.which c.args.first _ _ _ (ap stmt_of (c.in-If.is ∙ ap (variants.If c.in-If.line c.in-If.test c.in-If.yes) c.in-None.is) ∙ if_tree c.in-If.line c.in-If.test c.in-If.yes) (if_cleared c.args.which c.in-If.line (tree_of c.in-If.test) (stmt_of c.in-If.yes.value) c.args.first c.in_ok-between-in-If.between (cleared_at c.inside.ensures (ap stmt_of c.deref.ensures) refl c.in_ok-between-in-If.ensures))

pub gen_clears-returns-in_ok-next-in-While : goal.gen_clears-returns-in_ok-next-in-While
gen_clears-returns-in_ok-next-in-While t c =
    cleared_tree c.args.which c.args.first _ _ _ (ap stmt_of c.in-While.is ∙ while_tree c.in-While.line c.in-While.test c.in-While.body) (cleared_as (while_by c.args.which c.in-While.line (tree_of c.in-While.test) (stmt_of c.in-While.body.value) c.args.first) refl (cleared_at c.inside-in-While.ensures (ap stmt_of c.deref-in-While.ensures) refl c.in_ok-next-in-While.ensures))

pub gen_clears-returns-in_ok-next-in-DoWhile : goal.gen_clears-returns-in_ok-next-in-DoWhile
gen_clears-returns-in_ok-next-in-DoWhile t c =
    cleared_tree c.args.which c.args.first _ _ _ (ap stmt_of c.in-DoWhile.is ∙ do_tree c.in-DoWhile.line c.in-DoWhile.body c.in-DoWhile.test) (cleared_as (do_by c.args.which c.in-DoWhile.line (tree_of c.in-DoWhile.test) (stmt_of c.in-DoWhile.body.value) c.args.first) refl (cleared_at c.inside-in-DoWhile.ensures (ap stmt_of c.deref-in-DoWhile.ensures) refl c.in_ok-next-in-DoWhile.ensures))

pub gen_clears-returns-in_ok-clear_hidden-in-For : goal.gen_clears-returns-in_ok-clear_hidden-in-For
gen_clears-returns-in_ok-clear_hidden-in-For t c =
    cleared_tree c.args.which c.args.first _ _ _ (ap stmt_of c.in-For.is ∙ for_tree c.in-For.line c.in-For.init c.in-For.test c.in-For.step c.in-For.body) (for_cleared c.args.which c.in-For.line (init_of c.in-For.init) _ _ (stmt_of c.in-For.body.value) c.args.first c.in_ok-inner-in-For.inner (c.in_ok-inner-in-For.ensures ∙ ap (λ n. c.args.first + n) c.init_count.ensures) (λ l. hidden_at c.args.which _ (ap stmt_of c.deref-in-For.ensures) (c.in_ok-clear_hidden-in-For.ensures l)))

pub gen_clears-returns-in_ok-clear_hidden-in-Foreach : goal.gen_clears-returns-in_ok-clear_hidden-in-Foreach
gen_clears-returns-in_ok-clear_hidden-in-Foreach t c =
    cleared_tree c.args.which c.args.first _ _ _ (ap stmt_of c.in-Foreach.is ∙ foreach_tree c.in-Foreach.line c.in-Foreach.one c.in-Foreach.second c.in-Foreach.over c.in-Foreach.body) (each_cleared c.args.which c.in-Foreach.line c.in-Foreach.one c.in-Foreach.second (tree_of c.in-Foreach.over) (stmt_of c.in-Foreach.body.value) c.args.first c.in_ok-inner-in-Foreach.inner (c.in_ok-inner-in-Foreach.ensures ∙ ap (λ n. c.args.first + n) c.eaches_count.ensures) (λ l. hidden_at c.args.which _ (ap stmt_of c.deref-in-Foreach.ensures) (c.in_ok-clear_hidden-in-Foreach.ensures l)))

pub clear_hidden-returns-in_ok-gen_clears-in-Loose : goal.clear_hidden-returns-in_ok-gen_clears-in-Loose
clear_hidden-returns-in_ok-gen_clears-in-Loose t c = λ l. hidden_which (stmt_of c.args.body.now) c.args.first (sym c.in-Loose.is) (c.in_ok-gen_clears-in-Loose.ensures.code l)

pub clear_hidden-returns-in_ok-gen_clears-in-Own : goal.clear_hidden-returns-in_ok-gen_clears-in-Own
clear_hidden-returns-in_ok-gen_clears-in-Own t c = λ l. hidden_which (stmt_of c.args.body.now) c.args.first (sym c.in-Own.is) (c.in_ok-gen_clears-in-Own.ensures.code l)
