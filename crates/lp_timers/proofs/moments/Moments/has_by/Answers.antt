use Rattle.std.proofs.Common.{ap, sym, ◌∙◌, subst}
use Rattle.lp_timers.specs.Lines.{moment_of, AreRising}
use Rattle.lp_timers.specs.Marks.{Putting}
use Rattle.lp_timers.proofs.MarkLemmas.{come_is, come_none, is_come}
use Rattle.lp_timers.proofs.moments.Moments.has_by.Goals as goal

pub returns-in-Some-moment : goal.returns-in-Some-moment
returns-in-Some-moment c =
    ap (is_come c.args.t) (sym c.in-Some-moment.is ∙ c.moment.ensures ∙ ap (λ (p : Putting). moment_of p.lines c.in-Some.number) c.self.view_is)
    ∙ come_is c.args.kind c.args.ob c.in-Some.number c.args.t c.args.self.now.lines (subst (λ (p : Putting). AreRising p.lines) c.self.view_is c.self.invariant.rising) c.in-Some.ensures.alone

pub returns-in-None-moment : goal.returns-in-None-moment
returns-in-None-moment c =
    ap (is_come c.args.t) (sym c.in-None-moment.is ∙ c.moment.ensures ∙ ap (λ (p : Putting). moment_of p.lines c.in-Some.number) c.self.view_is)
    ∙ come_is c.args.kind c.args.ob c.in-Some.number c.args.t c.args.self.now.lines (subst (λ (p : Putting). AreRising p.lines) c.self.view_is c.self.invariant.rising) c.in-Some.ensures.alone

pub returns-in-None : goal.returns-in-None
returns-in-None c = come_none c.args.kind c.args.ob c.args.t c.args.self.now.lines c.in-None.ensures.alone
