use Rattle.std.proofs.Common.{subst, sym}
use Rattle.std.proofs.lemmas.Result.{IfOk-weaker}
use Rattle.lp_object_efuns.specs.Called.{DoesWithProgram}
use Rattle.lp_object_efuns.proofs.Bringing.{brought_same, on_err_any}
use Rattle.lp_object_efuns.proofs.Over.{exists_with}
use Rattle.lp_object_efuns.proofs.asking.did.Goals as goal

pub returns-in-FunctionExists-clause-brings : goal.returns-in-FunctionExists-clause-brings
returns-in-FunctionExists-clause-brings g c = brought_same c.did.ensures.brings

pub returns-in-FunctionExists-clause-does : goal.returns-in-FunctionExists-clause-does
returns-in-FunctionExists-clause-does g c = λ t.
    IfOk-weaker c.did.result _ (λ d. DoesWithProgram c.args.efun c.args.caller.now c.args.args.now (g.W.SwapFile.content c.args.swap.now) c.args.live.now c.args.turn.now d c.did.new.live)
    (λ d k. subst (λ e. DoesWithProgram e c.args.caller.now c.args.args.now (g.W.SwapFile.content c.args.swap.now) c.args.live.now c.args.turn.now d c.did.new.live) (sym c.in-FunctionExists.is)
    (exists_with c.args.caller.now c.args.args.now (g.W.SwapFile.content c.args.swap.now) c.args.live.now c.did.new.live c.args.turn.now d k)) (c.did.ensures.does t)

pub returns-in-FunctionExists-clause-still : goal.returns-in-FunctionExists-clause-still
returns-in-FunctionExists-clause-still g c = λ t. on_err_any c.did.result _ (c.did.ensures.stands t)
