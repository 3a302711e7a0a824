use Rattle.lp_object_efuns.proofs.Shown.{function_asked}
use Rattle.lp_object_efuns.proofs.functions.has_named.Goals as goal

pub returns-in-Ok-clause-found : goal.returns-in-Ok-clause-found
returns-in-Ok-clause-found g c = λ t programs w h. function_asked programs w c.args.ob c.in-Ok.callee _ c.is_some.result c.is_some.ensures (c.in-Ok.ensures.found t programs w h)
