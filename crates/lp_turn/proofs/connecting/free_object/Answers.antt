use Rattle.std.proofs.Common.{subst, sym}
use Rattle.lp_turn.specs.Connections.{IsFreeObject}
use Rattle.lp_turn.proofs.Connected.{object_free}
use Rattle.lp_turn.proofs.connecting.free_object.Goals as goal

pub returns-in-Obj-clause-free : goal.returns-in-Obj-clause-free
returns-in-Obj-clause-free c = subst (λ v. IsFreeObject c.args.live.now v c.free.result) (sym c.in-Obj.is) (object_free c.args.live.now c.in-Obj.o c.free.result c.free.ensures.free)
