use Rattle.std.proofs.Common.{◌≡◌, ◌∷◌, ◌++◌, [], subst, sym, append-nil, refl}
use Rattle.lp_timers.specs.Tree.{lines_of, KnowsSoonest}
use Rattle.lp_timers.specs.Lines.{AreFrom, due_objects}
use Rattle.lp_timers.proofs.LineLemmas.{due_none}
use Rattle.lp_timers.proofs.tree.Tree.+tell_due.Goals as goal

pub returns-then-t-b : goal.returns-then-t-b
returns-then-t-b t c =
    let know = subst KnowsSoonest c.in-Fork.is c.requires in
    let e : lines_of c.args.self.now ≡ lines_of c.in-Fork.b.value.left ++ c.in-Fork.b.value.line ∷ lines_of c.in-Fork.b.value.right = rw c.in-Fork.is refl in
    let lt = c.if-t-b.true in
    let none : due_objects c.args.kind c.args.t (lines_of c.args.self.now) ≡ [] = due_none c.args.kind c.args.t c.in-Fork.b.value.soonest (lines_of c.args.self.now) (rw c.deref-b.ensures at lt) (subst (AreFrom c.in-Fork.b.value.soonest) (sym e) know.0) in
    rw (none, append-nil) refl
