use Rattle.std.proofs.Common.{◌≡◌, ◌∷◌, ◌++◌, IfOk, refl, subst}
use Rattle.std.specs.declared.cmp.Ordering.TheVariants.{Less, Equal, Greater}
use Rattle.lp_preproc.specs.Names.{order}
use Rattle.lp_preproc.specs.NameTrees.{names_in, AreInOrder}
use Rattle.lp_preproc.proofs.NameOrder.{front, back, with_left, with_right, with_middle}
use Rattle.lp_preproc.proofs.names.+with_name.Goals as goal

pub returns-in_ok-copy-in-Less-2 : goal.returns-in_ok-copy-in-Less-2
returns-in_ok-copy-in-Less-2 t c s =
    let d = c.deref-in-Less.result.now in
    let e : names_in c.args.tree.now ≡ names_in d.left ++ d.name ∷ names_in d.right = rw (c.in-Fork.is, c.deref-in-Less.ensures) refl in
    let p : order c.args.name.now d.name ≡ Less = cc (c.order.ensures, c.in-Less.is, c.as_slice.ensures, c.as_slice-in-Fork.ensures, c.deref.ensures, c.deref-in-Less.ensures) in
    let l = c.in_ok-left-in-Less.ensures (front (names_in d.left) (d.name ∷ names_in d.right) (subst AreInOrder e s)) in
    subst (λ ws. IfOk c.balanced.result (λ u. names_in u ≡ ws))
    (cc (l, c.in_ok-copy-in-Less.ensures, c.in_ok-copy-in-Less-2.ensures, e, c.deref-in-Less.ensures, c.deref-in-Less-2.ensures, c.deref-in-Less-3.ensures, with_left c.args.name.now d.name (names_in d.left) (names_in d.right) p))
    c.balanced.ensures

pub returns-in_ok-copy-in-Greater-2 : goal.returns-in_ok-copy-in-Greater-2
returns-in_ok-copy-in-Greater-2 t c s =
    let d = c.deref-in-Greater.result.now in
    let e : names_in c.args.tree.now ≡ names_in d.left ++ d.name ∷ names_in d.right = rw (c.in-Fork.is, c.deref-in-Greater.ensures) refl in
    let p : order c.args.name.now d.name ≡ Greater = cc (c.order.ensures, c.in-Greater.is, c.as_slice.ensures, c.as_slice-in-Fork.ensures, c.deref.ensures, c.deref-in-Greater.ensures) in
    let o = subst AreInOrder e s in
    let r = c.in_ok-right-in-Greater.ensures (back (names_in d.left) d.name (names_in d.right) o) in
    subst (λ ws. IfOk c.balanced-in-Greater.result (λ u. names_in u ≡ ws))
    (cc (r, c.in_ok-copy-in-Greater.ensures, c.in_ok-copy-in-Greater-2.ensures, e, c.deref-in-Greater.ensures, c.deref-in-Greater-2.ensures, c.deref-in-Greater-3.ensures, with_right c.args.name.now d.name (names_in d.left) (names_in d.right) p o))
    c.balanced-in-Greater.ensures

pub returns-in-Equal : goal.returns-in-Equal
returns-in-Equal t c s =
    let d = c.deref.result.now in
    let e : names_in c.args.tree.now ≡ names_in d.left ++ d.name ∷ names_in d.right = rw (c.in-Fork.is, c.deref.ensures) refl in
    let p : order c.args.name.now d.name ≡ Equal = cc (c.order.ensures, c.in-Equal.is, c.as_slice.ensures, c.as_slice-in-Fork.ensures, c.deref.ensures) in
    subst (λ ws. IfOk c.copy-in-Equal.result (λ u. names_in u ≡ ws))
    (cc (e, with_middle c.args.name.now d.name (names_in d.left) (names_in d.right) p (subst AreInOrder e s)))
    c.copy-in-Equal.ensures
