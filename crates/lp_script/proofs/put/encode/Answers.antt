use Rattle.std.proofs.Common.{◌≡◌, ℕ, List, ◌+◌, ◌-◌, length, take, get_or, ◌++◌, arith, ap, ◌∙◌, sym}
use Rattle.std.specs.Char.{encode_utf8}
use Rattle.std.proofs.lemmas.Slice.{take-put_mid}
use Rattle.lp_script.proofs.PutLemmas.{encoded_more}
use Rattle.lp_script.proofs.put.encode.Goals as goal

pub overflow_add-len : goal.overflow_add-len
overflow_add-len c =
    let four = c.encode_utf8.ensures.upper_bound in
    omega (arith, four, ap length c.as_bytes-bytes.ensures.value)

pub loop-c-preserved : goal.loop-c-preserved
loop-c-preserved c =
    let four = c.encode_utf8.ensures.upper_bound in
    let same = c.copy_from_slice.ensures.after ∙ c.as_bytes-bytes.ensures.value ∙ c.encode_utf8.ensures.value in
    let long : length c.copy_from_slice.new.self ≡ length c.as_bytes-bytes.result.now = ap length c.copy_from_slice.ensures.after in
    let size : length c.loop-c.into ≡ 256 = omega (arith, c.loop-c.auto.into, c.requires.room) in
    record {
      room = omega (arith, four, ap length c.as_bytes-bytes.ensures.value);
      bytes = take-put_mid c.loop-c.len (c.loop-c.len + length c.as_bytes-bytes.result.now - c.loop-c.len) c.loop-c.into c.copy_from_slice.new.self (c.loop-c.len + length c.as_bytes-bytes.result.now)
          (omega (arith, long)) (omega (arith, c.loop-c.invariant.room, c.loop-c-test.true, c.requires.few))
          ∙ ap (λ (xs : List ℕ). take c.loop-c.len c.loop-c.into ++ xs) (same ∙ ap encode_utf8 c.c-item.is)
          ∙ ap (λ (xs : List ℕ). xs ++ encode_utf8 (get_or c.args.chars.now c.loop-c.c-index c.c-item.result)) c.loop-c.invariant.bytes
          ∙ sym (encoded_more c.args.chars.now c.loop-c.c-index c.c-item.result c.loop-c-test.true);
    }
