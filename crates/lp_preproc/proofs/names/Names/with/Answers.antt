use Rattle.std.proofs.Common.{◌≡◌, true, IfOk, ap, sym, ◌∙◌, subst}
use Rattle.lp_preproc.specs.NameTrees.{AreInOrder, names_in}
use Rattle.lp_preproc.specs.Names.{among, with_name}
use Rattle.lp_preproc.proofs.NameOrder.{ordered_with, with_present}
use Rattle.lp_preproc.proofs.names.Names.with.Goals as goal

pub returns-then-contains : goal.returns-then-contains
returns-then-contains c =
    let p : among c.args.name.now (names_in c.self.inside.tree) ≡ true = cc (c.contains.ensures, c.if-contains.true, c.as_slice.ensures) in
    let q = with_present c.args.name.now (names_in c.self.inside.tree) c.self.invariant p in
    subst (λ ws. IfOk c.copy.result (λ n. n ≡ ws)) (sym c.self.view_is ∙ sym q ∙ ap (with_name c.args.name.now) c.self.view_is) c.copy.ensures

pub invariant_of-result : goal.invariant_of-result
invariant_of-result c =
    subst AreInOrder (sym (c.in_ok-with_name.ensures c.self.invariant)) (ordered_with c.args.name.now (names_in c.self.inside.tree) c.self.invariant)
