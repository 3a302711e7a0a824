use Rattle.std.proofs.Common.{◌++◌, ◌∙◌, ℕ, List, ap, sym, take, append_assoc}
use Rattle.std.specs.Prelude.{string_bytes}
use Rattle.std.specs.Char.{encode_utf8}
use Rattle.std.specs.Str.{encode_utf8_all}
use Rattle.lp_verdicts.specs.Verdicts.{shown, shown_point}
use Rattle.lp_verdicts.proofs.Showing.{shown_more}
use Rattle.lp_verdicts.proofs.shown.put_shown.Goals as goal

pub loop-point-preserved : goal.loop-point-preserved
loop-point-preserved c =
    let points = c.args.points.now in
    let i = c.loop-point.point-index in
    c.in_ok-push.ensures.bytes
    ∙ ap (λ (xs : List ℕ). xs ++ encode_utf8 c.point_shown.result) c.loop-point.invariant
    ∙ append_assoc (string_bytes c.args.text.now) (encode_utf8_all (shown (take i points))) (encode_utf8 c.point_shown.result)
    ∙ ap (λ (xs : List ℕ). string_bytes c.args.text.now ++ xs)
    (ap (λ (x : ℕ). encode_utf8_all (shown (take i points)) ++ encode_utf8 x) (c.point_shown.ensures ∙ ap shown_point c.point-item.is)
    ∙ sym (shown_more points i c.point-item.result c.loop-point-test.true))
