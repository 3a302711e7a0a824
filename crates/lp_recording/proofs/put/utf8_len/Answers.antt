use Rattle.std.proofs.Common.{◌≡◌, ℕ, ap, length, take, get_or, arith, length-append}
use Rattle.std.specs.Str.{encode_utf8_all}
use Rattle.std.specs.Char.{encode_utf8}
use Rattle.lp_script.proofs.PutLemmas.{encoded_more}
use Rattle.lp_recording.proofs.put.utf8_len.Goals as goal

pub loop-c-preserved : goal.loop-c-preserved
loop-c-preserved c =
    let more = ap length (encoded_more c.args.chars.now c.loop-c.c-index c.c-item.result c.loop-c-test.true) in
    let parts = length-append (encode_utf8_all (take c.loop-c.c-index c.args.chars.now)) (encode_utf8 (get_or c.args.chars.now c.loop-c.c-index c.c-item.result)) in
    let same : length (encode_utf8 c.c-item.result) ≡ length (encode_utf8 (get_or c.args.chars.now c.loop-c.c-index c.c-item.result)) = ap (λ (x : ℕ). length (encode_utf8 x)) c.c-item.is in
    record {
      value = omega (arith, more, parts, same, c.len_utf8.ensures.len, c.loop-c.invariant.value);
      small = omega (arith, c.len_utf8.ensures.upper_bound, c.loop-c.invariant.small);
    }
