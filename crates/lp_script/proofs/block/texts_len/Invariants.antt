use Rattle.std.proofs.Common.{◌≡◌, ◌≤◌, ◌*◌, ◌^◌, length, take}
use Rattle.std.specs.Str.{encode_utf8_all}
use Rattle.lp_script.specs.Runs.{texts}
use Rattle.lp_script.proofs.block.texts_len.Given as goal

abbrev pub invariant-loop-out : goal.invariant-loop-out
invariant-loop-out l = record {
  value : l.len ≡ length (encode_utf8_all (texts (take l.out-index l.outs)));
  small : l.len ≤ 2 ^ 66 * l.out-index;
}
