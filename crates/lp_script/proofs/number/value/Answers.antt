use Rattle.std.proofs.Common.{ℕ, ◌+◌, ◌-◌, ◌*◌, ◌^◌, min, ap, ◌∙◌}
use Rattle.lp_script.proofs.NumberCode.{value_more}
use Rattle.lp_script.proofs.number.value.Goals as goal

pub loop-b-preserved : goal.loop-b-preserved
loop-b-preserved c =
    c.saturating_add-value.ensures ∙ ap (λ (m : ℕ). min (m + c.from.result) (2 ^ 128 - 1)) c.saturating_mul.ensures ∙ ap (λ (m : ℕ). min (min (c.loop-b.value * 10) (2 ^ 128 - 1) + m) (2 ^ 128 - 1)) (c.from.ensures ∙ c.saturating_sub.ensures)
    ∙ value_more c.args.word.now c.loop-b.b-index c.loop-b.value c.loop-b-test.true c.loop-b.invariant
