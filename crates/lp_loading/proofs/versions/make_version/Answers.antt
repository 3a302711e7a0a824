use Rattle.std.proofs.Common.{ap, subst}
use Rattle.lp_world.specs.declared.live.Live.{Live}
use Rattle.lp_loading.specs.Versions.{MakesVersion}
use Rattle.lp_loading.proofs.Making.{version_comes}
use Rattle.lp_loading.proofs.Brought.{version_stands, version_stays}
use Rattle.lp_loading.proofs.versions.make_version.Goals as goal

pub returns-clause-makes : goal.returns-clause-makes
returns-clause-makes c =
    let e = c.in_ok-new_version.ensures in
    subst (λ p. MakesVersion c.args.live.now c.new_version.new.live c.args.name.now p c.in_ok-new_version.field-0) c.in_ok-shared.ensures
    (version_comes c.law_fits.ensures c.calls_find_rows.ensures c.args.live.now c.new_version.new.live c.args.name.now c.in_ok-path.path c.in_ok-shared.shared c.in_ok-new_version.field-0 c.in_ok-path.ensures.file c.new_version.ensures.closed
    e.number e.new e.file e.places c.in_ok-path.ensures.ascii)

pub returns-clause-objects : goal.returns-clause-objects
returns-clause-objects c = ap (λ (l : Live). l.objects) c.in_ok-new_version.ensures.new.after

pub returns-clause-cells : goal.returns-clause-cells
returns-clause-cells c = ap (λ (l : Live). l.cells) c.in_ok-new_version.ensures.new.after

pub returns-clause-outputs : goal.returns-clause-outputs
returns-clause-outputs c = ap (λ (l : Live). l.outputs) c.in_ok-new_version.ensures.new.after

pub returns-clause-stays : goal.returns-clause-stays
returns-clause-stays c = version_stays c.args.live.now c.new_version.new.live c.in_ok-new_version.ensures.new.version c.in_ok-new_version.ensures.new.after

pub returns-clause-stands : goal.returns-clause-stands
returns-clause-stands c = version_stands c.args.live.now c.new_version.new.live c.in_ok-path.path c.in_ok-shared.shared c.in_ok-new_version.ensures.stands
