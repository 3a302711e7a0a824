use Rattle.std.proofs.Common.{◌++◌, ◌∙◌, ℕ, List, ap, sym, take, append_assoc}
use Rattle.std.specs.Prelude.{string_bytes}
use Rattle.std.specs.Char.{encode_utf8}
use Rattle.std.specs.Str.{encode_utf8_all}
use Rattle.lp_suite.proofs.Letters.{encoded_more}
use Rattle.lp_suite.proofs.names.put_letters.Goals as goal

pub loop-letter-preserved : goal.loop-letter-preserved
loop-letter-preserved c =
    c.in_ok-push.ensures.bytes
    ∙ ap (λ (xs : List ℕ). xs ++ encode_utf8 c.letter-item.result) c.loop-letter.invariant
    ∙ append_assoc (string_bytes c.args.text.now) (encode_utf8_all (take c.loop-letter.letter-index c.args.letters.now)) (encode_utf8 c.letter-item.result)
    ∙ ap (λ (xs : List ℕ). string_bytes c.args.text.now ++ xs)
    (ap (λ (x : ℕ). encode_utf8_all (take c.loop-letter.letter-index c.args.letters.now) ++ encode_utf8 x) c.letter-item.is
    ∙ sym (encoded_more c.args.letters.now c.loop-letter.letter-index c.letter-item.result c.loop-letter-test.true))
