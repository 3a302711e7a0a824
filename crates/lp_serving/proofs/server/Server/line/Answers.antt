use Rattle.std.proofs.Common.{◌≡◌, true, false, rules, ◌∙◌}
use Rattle.lp_serving.proofs.Going.{ok_then}
use Rattle.lp_serving.proofs.Happening.{to_state}
use Rattle.lp_serving.proofs.LinesHeard.{line_is, line_not, goes_on_line}
use Rattle.lp_serving.proofs.server.Server.line.Goals as goal

pub returns-then-not-is_open-clause-goes : goal.returns-then-not-is_open-clause-goes
returns-then-not-is_open-clause-goes g c = λ origin from.
    let shut : c.is_open.result ≡ false = search rules in
    line_not c.args.k _ _ c.args.line.now _ _ _ (λ h l v. c.is_open.ensures _ _ h l v ∙ shut)

pub returns-in-Ok-clause-goes : goal.returns-in-Ok-clause-goes
returns-in-Ok-clause-goes g c =
    let there : c.is_open.result ≡ true = search rules in
    let same : c.in-Ok.bytes ≡ c.args.line.now = search rules in
    ok_then c.event.result _ _
    (λ all origin from. to_state _ _ _ _ _ _ _ _ _ _ _ _ _ c.event.ensures.highest c.event.ensures.moment
    (line_is c.args.k _ _ c.args.line.now _ _ _ _ _ _ (λ h l v. c.is_open.ensures _ _ h l v ∙ there) (goes_on_line c.args.k _ _ _ _ _ _ _ _ same (all origin from))))
    c.event.ensures.goes
