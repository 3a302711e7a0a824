use Rattle.std.proofs.Common.{◌≡◌, IsUtf8, chars, drop}
use Rattle.lp_instr.specs.EfunList.{is_name}
use Rattle.lp_loading.proofs.present.is_spelled.Given as goal

abbrev pub invariant-loop-c : goal.invariant-loop-c
invariant-loop-c l = IsUtf8 l.rest × (is_name (drop l.c-index l.name) (chars l.rest) ≡ is_name l.name (chars l.text))
