use Rattle.std.proofs.Common.{ap, sym}
use Rattle.lp_tree.specs.TreeView.{tree_of}
use Rattle.lp_tree.specs.StatementView.{init_of, local_of}
use Rattle.lp_codegen_flow.proofs.Scopes.{init_none, init_declares, init_runs, init_as}
use Rattle.lp_codegen_flow.proofs.plain.gen_init.Goals as goal

pub returns-in-Nothing : goal.returns-in-Nothing
returns-in-Nothing c = init_as (ap init_of (sym c.in-Nothing.is)) init_none

pub returns-in_ok-gen_local-in-Declares : goal.returns-in_ok-gen_local-in-Declares
returns-in_ok-gen_local-in-Declares c = init_as (ap init_of (sym c.in-Declares.is)) (init_declares (local_of c.in-Declares.local) c.in_ok-gen_local-in-Declares.ensures)

pub returns-in_ok-gen_run-in-Runs : goal.returns-in_ok-gen_run-in-Runs
returns-in_ok-gen_run-in-Runs c = init_as (ap init_of (sym c.in-Runs.is)) (init_runs (tree_of c.in-Runs.e) c.in_ok-gen_run-in-Runs.ensures)
