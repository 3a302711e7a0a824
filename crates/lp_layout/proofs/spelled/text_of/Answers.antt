use Rattle.std.proofs.Common.{◌≡◌, ◌+◌, ◌++◌, ◌∷◌, [], ℕ, suc, List, take, sym, ap, ◌∙◌, arith, rules}
use Rattle.std.specs.Prelude.{encode_utf8, encode_utf8_all, string_bytes}
use Rattle.std.proofs.lemmas.Str.{encodes-append}
use Rattle.lp_types_expr.proofs.Declaring.{take_one}
use Rattle.lp_layout.proofs.Listing.{nil_right}
use Rattle.lp_layout.proofs.spelled.text_of.Goals as goal

pub loop-letter-preserved : goal.loop-letter-preserved
loop-letter-preserved c =
    let xs = c.args.letters.now in
    let i = c.loop-letter.letter-index in
    let x = c.letter-item.result in
    let f : suc i ≡ i + 1 = omega arith in
    let pushed : string_bytes c.push.new.self ≡ string_bytes c.loop-letter.text ++ encode_utf8 x = search rules in
    pushed ∙ ap (λ (l : List ℕ). l ++ encode_utf8 x) c.loop-letter.invariant ∙ ap (λ (l : List ℕ). encode_utf8_all (take i xs) ++ l) (sym (nil_right (encode_utf8 x)))
    ∙ sym (encodes-append (take i xs) (x ∷ [])) ∙ sym (ap encode_utf8_all (take_one xs i x c.loop-letter-test.true c.letter-item.is)) ∙ ap (λ n. encode_utf8_all (take n xs)) f
