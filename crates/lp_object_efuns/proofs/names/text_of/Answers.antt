use Rattle.std.proofs.Common.{◌++◌, ◌∙◌, ℕ, List, ap, sym, take}
use Rattle.std.specs.Char.{encode_utf8}
use Rattle.std.specs.Str.{encode_utf8_all}
use Rattle.lp_object_efuns.proofs.Spelled.{encoded_more}
use Rattle.lp_object_efuns.proofs.names.text_of.Goals as goal

pub loop-letter-preserved : goal.loop-letter-preserved
loop-letter-preserved c =
    let xs = c.args.letters.now in
    let i = c.loop-letter.letter-index in
    let x = c.letter-item.result in
    c.in_ok-push.ensures.bytes
    ∙ ap (λ (l : List ℕ). l ++ encode_utf8 x) c.loop-letter.invariant
    ∙ ap (λ (y : ℕ). encode_utf8_all (take i xs) ++ encode_utf8 y) c.letter-item.is
    ∙ sym (encoded_more xs i x c.loop-letter-test.true)
