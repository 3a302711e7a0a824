use Rattle.std.proofs.Common.{◌≡◌, ◌≤◌, ◌*◌, take}
use Rattle.std.specs.Str.{encode_utf8_all}
use Rattle.lp_script.proofs.put.encode.Given as goal

abbrev pub invariant-loop-c : goal.invariant-loop-c
invariant-loop-c l = record {
  room : l.len ≤ 4 * l.c-index;
  bytes : take l.len l.into ≡ encode_utf8_all (take l.c-index l.chars);
}
