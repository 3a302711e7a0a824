use Rattle.lp_loads.specs.Loads.{none}
use Rattle.lp_check.proofs.Loading.{one_more}
use Rattle.lp_check.proofs.all.load_all.Goals as goal

pub loop-path-init : goal.loop-path-init
loop-path-init c = (c.requires, λ ls k. record { after = ls; is = k; holds = none })

pub loop-path-preserved : goal.loop-path-preserved
loop-path-preserved c =
    let s = c.loop-path.invariant.0 in
    let r0 = c.in_ok-load_one.ensures s.0 s.1 in (
      (r0.after, r0.is),
      λ ls k.
          let g = c.loop-path.invariant.1 ls k in
          let r = c.in_ok-load_one.ensures g.after g.is in
          record {
            after = r.after;
            is = r.is;
            holds = one_more c.args.files.now c.args.simuls.now c.args.paths.now c.loop-path.path-index c.path-item.result _ ls g.after r.after c.loop-path-test.true c.path-item.is c.as_str.ensures g.holds r.holds;
          },
    )
