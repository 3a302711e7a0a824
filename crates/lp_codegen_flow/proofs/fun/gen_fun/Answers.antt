use Rattle.std.proofs.Common.{refl, sym, ◌∙◌}
use Rattle.lp_codegen_flow.proofs.Closing.{fun_stands}
use Rattle.lp_codegen_flow.proofs.fun.gen_fun.Goals as goal

pub returns : goal.returns
returns c =
    fun_stands _ c.len-seen.result c.in_ok-from.from _ (sym c.are_closed.ensures ∙ c.if-not-are_closed.false) (c.len-seen.ensures ∙ c.args.scope.now.locals.ok.0) c.in_ok-from.ensures c.in_ok-gen_stmts.ensures c.in_ok-put.ensures c.lead.ensures refl c.truncate.ensures.items
