use Rattle.std.proofs.Common.{◌≡◌, drop, map}
use Rattle.lp_verify.specs.Flow.{case_exit, exits_hold}
use Rattle.lp_verify.specs.Walks.{shape_of}
use Rattle.lp_verify.proofs.flow.cases_hold.Given as goal

abbrev pub invariant-loop-case : goal.invariant-loop-case
invariant-loop-case l = exits_hold l.body l.at (shape_of l.openings l.form) l.effect (map case_exit l.cases) ≡ exits_hold l.body l.at (shape_of l.openings l.form) l.effect (map case_exit (drop l.case-index l.cases))
