use Rattle.std.proofs.Common.{◌≡◌, ◌<◌, ◌-◌, min, length, ap, sym, ◌∙◌, arith}
use Rattle.std.proofs.lemmas.Bool.Decides.{nat_tests}
use Rattle.lp_parser.proofs.Replies.{line_there}
use Rattle.lp_parser.proofs.reading.line_at.Goals as goal

pub returns : goal.returns
returns c =
    let some : 0 < length c.args.tokens.now = grind (arith, nat_tests) in
    let place : c.min.result ≡ min c.args.at (length c.args.tokens.now - 1) = omega (arith, c.min.ensures) in
    ap (λ t. t.line) (sym c.index-tokens-min.is) ∙ line_there c.args.tokens.now c.args.at c.min.result c.index-tokens-min.result some place c.index-tokens-min.is
