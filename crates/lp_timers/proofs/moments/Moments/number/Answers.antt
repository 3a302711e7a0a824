use Rattle.std.proofs.Common.{Option, MatchOption, ℕ, ap, sym, subst, ◌∙◌}
use Rattle.std.specs.Map.{lookup}
use Rattle.std.specs.BTreeMap.{is_at}
use Rattle.lp_timers.specs.Marked.{mark_cmp}
use Rattle.lp_timers.specs.Marks.{number_of, HasNone, IsAlone, Putting}
use Rattle.lp_timers.specs.Tree.{lines_of}
use Rattle.lp_timers.proofs.MarkLemmas.{number_alone}
use Rattle.lp_timers.proofs.moments.Moments.number.Goals as goal

pub returns-clause-number : goal.returns-clause-number
returns-clause-number c =
    c.copied.ensures ∙ c.get.ensures.value
    ∙ ap (λ m. lookup (is_at (mark_cmp m)) c.self.inside.numbers.entries) c.of.ensures
    ∙ c.self.invariant.found c.args.kind c.args.ob.0 ∙ ap (λ (p : Putting). number_of c.args.kind c.args.ob.0 p.lines) c.self.view_is

pub returns-clause-alone : goal.returns-clause-alone
returns-clause-alone c =
    subst (λ (q : Option ℕ). MatchOption q (HasNone c.args.kind c.args.ob.0 c.args.self.now.lines) (λ n. IsAlone c.args.kind c.args.ob.0 n c.args.self.now.lines)) (sym (returns-clause-number c))
    (subst (λ (p : Putting). MatchOption (number_of c.args.kind c.args.ob.0 p.lines) (HasNone c.args.kind c.args.ob.0 p.lines) (λ n. IsAlone c.args.kind c.args.ob.0 n p.lines)) c.self.view_is
    (number_alone c.args.kind c.args.ob.0 (lines_of c.self.inside.lines) c.self.invariant.rising c.self.invariant.apart))
