use Rattle.std.proofs.Common.{◌<◌, IsSome, Result, Ok, Err, OnOk}
use Rattle.lp_values.specs.declared.id.ProgId.{ProgId}
use Rattle.lp_making.specs.Objects.{program_at}
use Rattle.lp_residence.specs.Entering.{IsEntered}
use Rattle.lp_residence.specs.Owners.{ticket_at}
use Rattle.lp_residence.specs.declared.owner.Owner.TheVariants as owners
use Rattle.lp_world.specs.Rows.{row_at}
use Rattle.lp_world.specs.declared.live.Live.{Live}
use Rattle.std.proofs.Common.{◌≡◌, None}
use Rattle.lp_loading.specs.Present.{out_count}
use Rattle.lp_loading.specs.declared.job.LoadFault.{LoadFault}
use Rattle.lp_loading.proofs.Outside.{less_out}
use Rattle.lp_loading.proofs.compiling.bring_out.Goals as goal

less_by : (r : Result (Unit {0}) LoadFault) (old new : Live) (p : ProgId) → program_at old.versions p ≡ None → OnOk r (IsSome (row_at old.versions p.0)) → OnOk r (IsEntered (owners.Program p) old new (ticket_at old (owners.Program p)))
    → OnOk r (out_count new.versions < out_count old.versions)
less_by (Ok u) old new p n s h = less_out old new p s n h
less_by (Err e) old new p n s h = tt

pub returns-clause-less : goal.returns-clause-less
returns-clause-less g c = less_by c.bring.result c.args.live.now c.bring.new.live c.args.p c.requires.out c.bring.ensures.there c.bring.ensures.entered
