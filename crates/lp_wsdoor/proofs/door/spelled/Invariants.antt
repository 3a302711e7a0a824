use Rattle.std.proofs.Common.{◌≡◌, ◌++◌, drop, string_bytes}
use Rattle.std.specs.Str.{encode_utf8_all}
use Rattle.lp_wsdoor.proofs.door.spelled.Given as goal

-- the bytes so far, and those of the rest, are those of the text
abbrev pub invariant-loop-c : goal.invariant-loop-c
invariant-loop-c l = string_bytes l.bytes ++ encode_utf8_all (drop l.c-index l.text) ≡ encode_utf8_all l.text
