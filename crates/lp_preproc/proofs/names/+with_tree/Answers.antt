use Rattle.std.proofs.Common.{◌≡◌, ◌∷◌, ◌++◌, IfOk, refl, subst}
use Rattle.lp_preproc.specs.NameTrees.{names_in}
use Rattle.lp_preproc.proofs.NameOrder.{with_all}
use Rattle.lp_preproc.proofs.names.+with_tree.Goals as goal

pub returns-in_ok-middle-in-Fork : goal.returns-in_ok-middle-in-Fork
returns-in_ok-middle-in-Fork t c =
    let d = c.deref.result.now in
    let e : names_in c.args.more.now ≡ names_in d.left ++ d.name ∷ names_in d.right = rw (c.in-Fork.is, c.deref.ensures) refl in
    subst (λ ws. IfOk c.with_tree-in-Fork.result (λ n. n ≡ ws))
    (cc (e, with_all (names_in d.left) d.name (names_in d.right) c.args.names, c.in_ok-first-in-Fork.ensures, c.in_ok-middle-in-Fork.ensures, c.deref.ensures, c.deref-in-Fork.ensures, c.deref-in-Fork-2.ensures))
    c.with_tree-in-Fork.ensures
