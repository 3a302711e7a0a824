use Rattle.std.proofs.Common.{◌∙◌, None, Some, subst, sym}
use Rattle.lp_events.specs.declared.out.Out.TheVariants as outs
use Rattle.lp_records.specs.Records.{IsNoticeIn}
use Rattle.lp_records.proofs.Spelling.{chars-notice}
use Rattle.lp_records.proofs.Telling.{player_gone, player_told}
use Rattle.lp_records.proofs.uncaught.notice.Goals as goal

pub returns-in_ok-text-in-Some-of : goal.returns-in_ok-text-in-Some-of
returns-in_ok-text-in-Some-of c =
    subst (λ p. IsNoticeIn c.args.live.now p (Some (outs.Text c.in-Some-of.number c.in_ok-text-in-Some-of.text))) (sym c.in-Some.is)
    (player_told c.args.live.now c.in-Some.o c.in-Some-of.number c.in_ok-text-in-Some-of.text (sym c.of.ensures ∙ c.in-Some-of.is) (c.in_ok-text-in-Some-of.ensures ∙ chars-notice))

pub returns-in-None-of : goal.returns-in-None-of
returns-in-None-of c = subst (λ p. IsNoticeIn c.args.live.now p None) (sym c.in-Some.is) (player_gone c.args.live.now c.in-Some.o (sym c.of.ensures ∙ c.in-None-of.is))
