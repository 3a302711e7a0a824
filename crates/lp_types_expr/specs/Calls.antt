-- Whom a call calls, as the program tells it.
use Rattle.lp_types_expr.specs.declared.called.Called.{Called}
use Rattle.lp_types_expr.specs.declared.called.Called.TheVariants as called
use Rattle.lp_types_expr.specs.Known.{Callee, AFunction, ASimul, AnEfun, TwoParents, Nobody}

abbrev pub callee_of : Called → Callee
callee_of (called.AFunction sig) = AFunction sig.now
callee_of called.ASimul = ASimul
callee_of (called.AnEfun e) = AnEfun e
callee_of called.TwoParents = TwoParents
callee_of called.Nobody = Nobody
