use Rattle.std.proofs.Common.{◌≡◌, take}
use Rattle.std.proofs.Math.Utf8.{encodes}
use Rattle.std.specs.String.{string_bytes}
use Rattle.lp_loading.proofs.simuls.text_of.Given as goal

abbrev pub invariant-loop-c : goal.invariant-loop-c
invariant-loop-c l = string_bytes l.s ≡ encodes (take l.c-index l.all)
