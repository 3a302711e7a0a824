-- what was put so far is what is shown of the bytes so far
use Rattle.std.proofs.Common.{◌≡◌, take, map, string_bytes}
use Rattle.lp_explain.specs.Shown.{shown_byte}
use Rattle.lp_explain.proofs.line.shown.Given as goal

abbrev pub invariant-loop-byte : goal.invariant-loop-byte
invariant-loop-byte l = string_bytes l.text ≡ map shown_byte (take l.byte-index l.byte-items)
