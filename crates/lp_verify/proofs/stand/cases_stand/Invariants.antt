use Rattle.std.proofs.Common.{◌≡◌, drop, map}
use Rattle.lp_instr.specs.Code.{case_place}
use Rattle.lp_code.specs.Inside.{jumps_stand}
use Rattle.lp_verify.proofs.stand.cases_stand.Given as goal

abbrev pub invariant-loop-case : goal.invariant-loop-case
invariant-loop-case l = jumps_stand l.raw l.at (map case_place l.cases) ≡ jumps_stand l.raw l.at (map case_place (drop l.case-index l.cases))
