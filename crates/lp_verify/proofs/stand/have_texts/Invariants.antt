use Rattle.std.proofs.Common.{◌≡◌, drop}
use Rattle.lp_code.specs.Inside.{have_texts}
use Rattle.lp_verify.proofs.stand.have_texts.Given as goal

abbrev pub invariant-loop-case : goal.invariant-loop-case
invariant-loop-case l = have_texts l.count l.cases ≡ have_texts l.count (drop l.case-index l.cases)
