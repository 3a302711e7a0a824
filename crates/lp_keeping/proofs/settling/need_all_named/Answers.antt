use Rattle.std.proofs.Common.{◌≡◌, ◌-◌, suc, arith, length}
use Rattle.lp_keeping.specs.Needs.{all_named}
use Rattle.lp_keeping.proofs.Named.{named_last, named_next}
use Rattle.lp_keeping.proofs.settling.need_all_named.Goals as goal

pub versions-preserved : goal.versions-preserved
versions-preserved c =
    let e : c.versions.n ≡ suc (c.versions.n - 1) = omega arith in
    named_next c.args.versions.now c.versions.n (c.versions.n - 1) c.versions.marks c.need_named.new.marks (all_named c.args.versions.now (length c.args.versions.now) c.args.marks.now) e c.need_named.ensures c.versions.invariant

pub returns : goal.returns
returns c = named_last c.args.versions.now c.versions.n c.versions.marks (all_named c.args.versions.now (length c.args.versions.now) c.args.marks.now) (omega arith) c.versions.invariant
