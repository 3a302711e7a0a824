use Rattle.std.proofs.Common.{◌≡◌, drop}
use Rattle.lp_instr.specs.EfunList.{efun_in}
use Rattle.lp_instr.proofs.efuns.among.Given as goal

abbrev pub invariant-loop-efun : goal.invariant-loop-efun
invariant-loop-efun l = efun_in l.efuns l.name ≡ efun_in (drop l.efun-index l.efuns) l.name
