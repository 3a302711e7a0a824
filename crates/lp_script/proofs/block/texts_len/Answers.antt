use Rattle.std.proofs.Common.{◌≡◌, ◌∙◌, ap, length, take, get_or, arith, length-append}
use Rattle.std.specs.Str.{encode_utf8_all}
use Rattle.lp_script.specs.Runs.{texts, text_of}
use Rattle.lp_script.proofs.BlockLemmas.{texts_more}
use Rattle.lp_script.proofs.block.texts_len.Goals as goal

pub loop-out-preserved : goal.loop-out-preserved
loop-out-preserved c =
    let more = ap length (texts_more c.args.outs.now c.loop-out.out-index c.out-item.result c.loop-out-test.true) in
    let parts = length-append (encode_utf8_all (texts (take c.loop-out.out-index c.args.outs.now))) (encode_utf8_all (text_of (get_or c.args.outs.now c.loop-out.out-index c.out-item.result))) in
    let same : length (encode_utf8_all c.text_of.result.now) ≡ length (encode_utf8_all (text_of (get_or c.args.outs.now c.loop-out.out-index c.out-item.result)))
    = ap (λ xs. length (encode_utf8_all xs)) (c.text_of.ensures ∙ ap text_of c.out-item.is) in
    record {
      value = omega (arith, more, parts, same, c.utf8_len-len.ensures.value, c.loop-out.invariant.value);
      small = omega (arith, c.utf8_len-len.ensures.small, c.loop-out.invariant.small);
    }
