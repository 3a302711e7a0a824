use Rattle.std.proofs.Common.{◌≡◌, ◌∷◌, ◌++◌, refl, sym, ap, ◌∙◌, subst}
use Rattle.std.specs.declared.cmp.Ordering.TheVariants.{Less, Equal, Greater}
use Rattle.lp_preproc.specs.Names.{order, among}
use Rattle.lp_preproc.specs.NameTrees.{names_in, AreInOrder}
use Rattle.lp_preproc.proofs.NameOrder.{front, back, among_left, among_right, among_middle}
use Rattle.lp_preproc.proofs.names.contains.Goals as goal

pub down-preserved-in-Less : goal.down-preserved-in-Less
down-preserved-in-Less c =
    let d = c.deref-in-Less.result.now in
    let e : names_in c.down.at.now ≡ names_in d.left ++ d.name ∷ names_in d.right = rw (c.in-Fork.is, c.deref-in-Less.ensures) refl in
    let p : order c.args.name.now d.name ≡ Less = cc (c.order.ensures, c.in-Less.is, c.as_slice.ensures, c.deref.ensures, c.deref-in-Less.ensures) in
    let o = subst AreInOrder e c.down.invariant.1 in
    (sym (among_left c.args.name.now d.name (names_in d.left) (names_in d.right) p o) ∙ ap (among c.args.name.now) (sym e) ∙ c.down.invariant.0, front (names_in d.left) (d.name ∷ names_in d.right) o)

pub down-preserved : goal.down-preserved
down-preserved c =
    let d = c.deref-in-Greater.result.now in
    let e : names_in c.down.at.now ≡ names_in d.left ++ d.name ∷ names_in d.right = rw (c.in-Fork.is, c.deref-in-Greater.ensures) refl in
    let p : order c.args.name.now d.name ≡ Greater = cc (c.order.ensures, c.in-Greater.is, c.as_slice.ensures, c.deref.ensures, c.deref-in-Greater.ensures) in
    let o = subst AreInOrder e c.down.invariant.1 in
    (sym (among_right c.args.name.now d.name (names_in d.left) (names_in d.right) p o) ∙ ap (among c.args.name.now) (sym e) ∙ c.down.invariant.0, back (names_in d.left) d.name (names_in d.right) o)

pub returns-in-Equal : goal.returns-in-Equal
returns-in-Equal c =
    let d = c.deref.result.now in
    let e : names_in c.down.at.now ≡ names_in d.left ++ d.name ∷ names_in d.right = rw (c.in-Fork.is, c.deref.ensures) refl in
    let p : order c.args.name.now d.name ≡ Equal = cc (c.order.ensures, c.in-Equal.is, c.as_slice.ensures, c.deref.ensures) in
    sym (among_middle c.args.name.now d.name (names_in d.left) (names_in d.right) p) ∙ ap (among c.args.name.now) (sym e) ∙ c.down.invariant.0
