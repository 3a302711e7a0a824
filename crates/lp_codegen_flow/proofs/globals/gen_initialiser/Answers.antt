use Rattle.std.proofs.Common.{ap, sym}
use Rattle.std.specs.Prelude.{option_map}
use Rattle.lp_tree.specs.TreeView.{tree_of}
use Rattle.lp_codegen_flow.proofs.Initialising.{none_bare, some_bare, value_as}
use Rattle.lp_codegen_flow.proofs.globals.gen_initialiser.Goals as goal

pub returns-in_ok-put_all-in-Some : goal.returns-in_ok-put_all-in-Some
returns-in_ok-put_all-in-Some c = value_as c.args.scope.now c.args.place (ap (option_map tree_of) (sym c.in-Some.is)) (some_bare c.args.scope.now c.in-Some.e c.args.place c.in_ok-gen_expr-in-Some.ensures c.in_ok-put_all-in-Some.ensures)

pub returns-in-None : goal.returns-in-None
returns-in-None c = value_as c.args.scope.now c.args.place (ap (option_map tree_of) (sym c.in-None.is)) (none_bare c.args.scope.now _ c.args.place)
