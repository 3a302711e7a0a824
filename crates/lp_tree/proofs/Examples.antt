-- Small sources and what they spell.
use Rattle.std.proofs.Common.{refl, arith}
use Rattle.lp_tree.specs.Types.{typed, none, one_more}
use Rattle.lp_tree.specs.Expressions as exprs
use Rattle.lp_tree.specs.Statements as stmts
use Rattle.lp_tree.specs.Statements.{Around}
use Rattle.lp_tree.specs.Units as units
use Rattle.lp_tree.specs.Laws.{AreSpelled}

pub are_spelled : (a : Around) → AreSpelled a
are_spelled a = record {
  declared =
      units.item units.inherit units.by_inherit
      (units.item (units.var (units.mod_word units.no_mod) (stmts.one (stmts.set_to (one_more none) exprs.int (omega arith)))) units.by_var
      (units.item (units.proto units.no_mod units.no_type (units.params (units.one_param (units.param (units.type_given (typed none)))))) units.by_proto
      units.no_item));
  nearest = stmts.if_only exprs.name (stmts.if_else exprs.name stmts.empty stmts.empty) refl;
  in_function =
      units.item (units.fun units.no_mod (units.type_given (typed none)) (units.params (units.one_param (units.param units.no_type)))
      (units.block (stmts.stmt (stmts.foreach (stmts.one_each stmts.untyped) stmts.word_in exprs.name
      (stmts.switch exprs.name
      (stmts.label_part (stmts.case_range stmts.negative stmts.int)
      (stmts.stmt_part (stmts.break refl)
      (stmts.label_part stmts.default_case
      (stmts.stmt_part (stmts.return (stmts.given exprs.name)) stmts.no_part)))))) stmts.no_more))) units.by_fun
      units.no_item;
  in_block =
      stmts.block
      (stmts.stmt (stmts.local (stmts.declares (stmts.another (stmts.plain (one_more none)) (stmts.one (stmts.set_to none exprs.int (omega arith))))))
      (stmts.stmt (stmts.while exprs.name (stmts.continue refl))
      (stmts.stmt (stmts.do_while stmts.empty exprs.name)
      (stmts.stmt (stmts.for (stmts.init_local (stmts.declares (stmts.one (stmts.set_to none exprs.int (omega arith))))) (stmts.given exprs.name) stmts.missing (stmts.break refl))
      (stmts.stmt (stmts.for (stmts.init_expr exprs.name) stmts.missing (stmts.given exprs.name) (stmts.block stmts.no_more))
      (stmts.stmt (stmts.for stmts.no_init stmts.missing stmts.missing stmts.empty)
      (stmts.stmt (stmts.foreach (stmts.two_eaches (stmts.typed (typed none)) (stmts.typed (typed none))) stmts.colon exprs.name stmts.empty)
      (stmts.stmt (stmts.switch exprs.name (stmts.label_part (stmts.case_value stmts.string) (stmts.label_part (stmts.case_value stmts.int) (stmts.stmt_part (stmts.run exprs.name) stmts.no_part))))
      (stmts.stmt (stmts.if_else exprs.name (stmts.return stmts.missing) stmts.empty)
      stmts.no_more)))))))));
  levels = refl;
}
