use Rattle.std.proofs.Common.{◌≡◌, ◌+◌, ◌∷◌, ◌++◌, [], None, Some, Option, ℕ, Bool, cond, nat_eq, ◌&&◌, ap, sym, subst, ◌∙◌, refl}
use Rattle.std.specs.Map.{lookup}
use Rattle.std.specs.BTreeMap.{is_at}
use Rattle.lp_timers.specs.declared.line.Line.{Line}
use Rattle.lp_timers.specs.Lines.{same_kind, AreBelow, AreRising}
use Rattle.lp_timers.specs.Marked.{mark_cmp, mark_of}
use Rattle.lp_timers.specs.Marks.{number_of, AreApart, Putting}
use Rattle.lp_timers.specs.Tree.{lines_of}
use Rattle.lp_timers.proofs.MarkLemmas.{apart_last, below_last, mark_is, none_of, number_put, rising_last}
use Rattle.lp_timers.proofs.moments.Moments.add.Goals as goal

pub invariant_of-self-2 : goal.invariant_of-self-2
invariant_of-self-2 c =
    let ls = lines_of c.self.inside.lines in
    let n = c.self.inside.next in
    let k = c.args.kind in
    let o = c.args.ob.0 in
    let line : Line = record { number = n; ob = c.args.ob; kind = k; next = c.args.at } in
    let e : lines_of c.with_last.result ≡ ls ++ line ∷ [] = c.with_last.ensures.lines ∙ ap (λ t. lines_of t ++ line ∷ []) c.replace-lines.ensures.value in
    let none : number_of k o ls ≡ None = ap (λ (p : Putting). number_of k o p.lines) c.self.view_is ∙ c.requires in
    record {
      knows = c.with_last.ensures.knows;
      rising = subst AreRising (sym e) (rising_last n ls line refl c.self.invariant.below c.self.invariant.rising);
      below = subst (AreBelow (n + 1)) (sym e) (below_last n ls line refl c.self.invariant.below);
      apart = subst AreApart (sym e) (apart_last ls line (none_of k o ls none) c.self.invariant.apart);
      found = λ kind p.
          c.in_ok-insert.ensures.updates.0 (mark_of kind p)
          ∙ ap (λ m. cond (is_at (mark_cmp m) (mark_of kind p)) (Some n) (lookup (is_at (mark_cmp (mark_of kind p))) c.self.inside.numbers.entries)) c.of.ensures
          ∙ ap (λ (b : Bool). cond b (Some n) (lookup (is_at (mark_cmp (mark_of kind p))) c.self.inside.numbers.entries)) (mark_is k o kind p)
          ∙ ap (λ (q : Option ℕ). cond (same_kind k kind && nat_eq o p) (Some n) q) (c.self.invariant.found kind p)
          ∙ sym (number_put kind p ls line none) ∙ ap (number_of kind p) (sym e);
    }
