use Rattle.std.proofs.Common.{subst, sym}
use Rattle.std.proofs.lemmas.Result.{IfOk-weaker}
use Rattle.lp_world.specs.Rows.{live_in}
use Rattle.lp_calling.specs.Leave.{IsWish}
use Rattle.lp_calling.specs.Leaving.{GrantedAs}
use Rattle.lp_calling.proofs.Leaving.{leave_takes}
use Rattle.lp_calling.proofs.leave.take_leave.Goals as goal

pub take_path-requires : goal.take_path-requires
take_path-requires c = subst (λ w. IsWish w) c.in-File.is c.requires

pub returns-in-File-clause-takes : goal.returns-in-File-clause-takes
returns-in-File-clause-takes c =
    IfOk-weaker c.take_path.result _ _
    (λ t k. λ m low stack. leave_takes m c.args.wish c.args.v.now (live_in c.args.objects.now) low stack t (subst (λ w. GrantedAs (live_in c.args.objects.now) w c.args.v.now t) (sym c.in-File.is) (k c.in-File.field-2))) c.take_path.ensures.granted

pub returns-in-Shadow-clause-takes : goal.returns-in-Shadow-clause-takes
returns-in-Shadow-clause-takes c = λ m low stack.
    leave_takes m c.args.wish c.args.v.now (live_in c.args.objects.now) low stack c.take_shadow.result (subst (λ w. GrantedAs (live_in c.args.objects.now) w c.args.v.now c.take_shadow.result) (sym c.in-Shadow.is) c.take_shadow.ensures.granted)
