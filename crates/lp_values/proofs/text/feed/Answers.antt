use Rattle.std.proofs.Common.{◌≤◌, ◌+◌, ◌∙◌, length, ap, arith}
use Rattle.std.specs.Hash as fed
use Rattle.std.specs.List.{fold}
use Rattle.lp_values.proofs.HashLemmas.{next_four}
use Rattle.lp_values.proofs.text.feed.Goals as goal

pub loop-at-preserved : goal.loop-at-preserved
loop-at-preserved g c =
    let within = c.loop-at.invariant.0 in
    let fits : c.loop-at.at + 4 ≤ length c.args.chars.now = omega (arith, c.loop-at-test.true) in
    let fed_one = c.write_u128.ensures ∙ ap (λ x. fold g.H.Hasher.write c.loop-at.state (fed.u128 x)) c.four_at.ensures in (
      fits,
      c.loop-at.invariant.1 ∙ next_four g.H.Hasher.write c.loop-at.state c.write_u128.new.self c.args.chars.now c.loop-at.at fits fed_one,
    )
