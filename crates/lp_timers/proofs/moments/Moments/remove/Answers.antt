use Rattle.std.proofs.Common.{◌≡◌, ◌<◌, None, Some, Option, ℕ, Bool, cond, not, nat_eq, ◌&&◌, MatchOption, ap, sym, subst, ◌∙◌}
use Rattle.std.specs.Map.{lookup}
use Rattle.std.specs.BTreeMap.{is_at}
use Rattle.lp_timers.specs.Lines.{is_of, lines_cut, lines_without, same_kind, AreBelow, AreRising}
use Rattle.lp_timers.specs.Marked.{mark_cmp, mark_of}
use Rattle.lp_timers.specs.Marks.{number_of, AreApart, HasNone, IsAlone}
use Rattle.lp_timers.specs.Tree.{lines_of}
use Rattle.lp_timers.proofs.MarkLemmas.{all_kept, apart_kept, cut_is_without, mark_is, none_of, number_alone, number_without, rising_kept, without_none}
use Rattle.lp_timers.proofs.moments.Moments.remove.Goals as goal
use Rattle.lp_timers.proofs.moments.Moments.remove.Goals.{After-cut}

cut : (c : After-cut) → lines_of c.cut.result ≡ lines_without (lines_of c.self.inside.lines) c.args.kind c.args.ob
cut c =
    let ls = lines_of c.self.inside.lines in
    let k = c.args.kind in
    let o = c.args.ob.0 in
    let number : Some c.in-Some.number ≡ number_of k o ls = c.in-Some.ensures.value ∙ ap (λ m. lookup (is_at (mark_cmp m)) c.self.inside.numbers.entries) c.of.ensures ∙ c.self.invariant.found k o in
    let alone : IsAlone k o c.in-Some.number ls = subst (λ (q : Option ℕ). MatchOption q (HasNone k o ls) (λ n. IsAlone k o n ls)) (sym number) (number_alone k o ls c.self.invariant.rising c.self.invariant.apart) in
    c.cut.ensures.lines ∙ ap (λ t. lines_cut (lines_of t) c.in-Some.number) c.replace-lines.ensures.value ∙ cut_is_without k c.args.ob c.in-Some.number ls alone

pub invariant_of-self-2 : goal.invariant_of-self-2
invariant_of-self-2 c =
    let ls = lines_of c.self.inside.lines in
    let k = c.args.kind in
    let o = c.args.ob.0 in
    let e = cut (goal.at.invariant_of-self-2 c).After-cut in
    record {
      knows = c.cut.ensures.knows;
      rising = subst AreRising (sym e) (rising_kept (λ l. not (is_of k c.args.ob l)) ls c.self.invariant.rising);
      below = subst (AreBelow c.self.inside.next) (sym e) (all_kept (λ l. l.number < c.self.inside.next) (λ l. not (is_of k c.args.ob l)) ls c.self.invariant.below);
      apart = subst AreApart (sym e) (apart_kept (λ l. not (is_of k c.args.ob l)) ls c.self.invariant.apart);
      found = λ kind p.
          c.remove.ensures.updates.0 (mark_of kind p)
          ∙ ap (λ m. cond (is_at (mark_cmp m) (mark_of kind p)) None (lookup (is_at (mark_cmp (mark_of kind p))) c.self.inside.numbers.entries)) c.of.ensures
          ∙ ap (λ (b : Bool). cond b None (lookup (is_at (mark_cmp (mark_of kind p))) c.self.inside.numbers.entries)) (mark_is k o kind p)
          ∙ ap (λ (q : Option ℕ). cond (same_kind k kind && nat_eq o p) None q) (c.self.invariant.found kind p)
          ∙ sym (number_without k c.args.ob kind p ls) ∙ ap (number_of kind p) (sym e);
    }

pub returns : goal.returns
returns c = rw (← c.self.view_is) (ap (λ l. record { next = c.self.inside.next; lines = l }) (cut (goal.at.returns c).After-cut))

pub returns-in_default : goal.returns-in_default
returns-in_default c =
    let ls = lines_of c.self.inside.lines in
    let number : None ≡ number_of c.args.kind c.args.ob.0 ls = c.in_default.ensures.value ∙ ap (λ m. lookup (is_at (mark_cmp m)) c.self.inside.numbers.entries) c.of.ensures ∙ c.self.invariant.found c.args.kind c.args.ob.0 in
    rw (← c.self.view_is) (ap (λ l. record { next = c.self.inside.next; lines = l }) (sym (without_none c.args.kind c.args.ob ls (none_of c.args.kind c.args.ob.0 ls (sym number)))))
