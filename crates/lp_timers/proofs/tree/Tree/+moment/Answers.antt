use Rattle.std.proofs.Common.{◌≡◌, ◌∷◌, ◌++◌, arith, length, ap, subst, ◌∙◌, length-append, refl}
use Rattle.lp_timers.specs.Tree.{lines_of}
use Rattle.lp_timers.specs.Lines.{AreRising}
use Rattle.lp_timers.proofs.LineLemmas.{around, moment_left, moment_right, moment_here}
use Rattle.lp_timers.proofs.tree.Tree.+moment.Goals as goal

pub moment-requires : goal.moment-requires
moment-requires t c =
    let e : lines_of c.args.self.now ≡ lines_of c.deref-b.result.now.left ++ c.deref-b.result.now.line ∷ lines_of c.deref-b.result.now.right = rw (c.in-Fork.is, c.deref-b.ensures) refl in
    let l = ap length e ∙ length-append (lines_of c.deref-b.result.now.left) _ in
    (grind (arith, l), (around (lines_of c.deref-b.result.now.left) _ _ (subst AreRising e c.requires)).left)

pub returns-then-number-b : goal.returns-then-number-b
returns-then-number-b t c =
    let e : lines_of c.args.self.now ≡ lines_of c.deref-b.result.now.left ++ c.deref-b.result.now.line ∷ lines_of c.deref-b.result.now.right = rw (c.in-Fork.is, c.deref-b.ensures) refl in
    let a = around (lines_of c.deref-b.result.now.left) _ _ (subst AreRising e c.requires) in
    rw (e, moment_left c.args.number (lines_of c.deref-b.result.now.left) c.deref-b.result.now.line (lines_of c.deref-b.result.now.right) a c.if-number-b.true) c.moment.ensures

pub moment-requires-then-b-number : goal.moment-requires-then-b-number
moment-requires-then-b-number t c =
    let e : lines_of c.args.self.now ≡ lines_of c.deref-b.result.now.left ++ c.deref-b.result.now.line ∷ lines_of c.deref-b.result.now.right = rw (c.in-Fork.is, c.deref-b.ensures) refl in
    let l = ap length e ∙ length-append (lines_of c.deref-b.result.now.left) _ in
    (grind (arith, l), (around (lines_of c.deref-b.result.now.left) _ _ (subst AreRising e c.requires)).right)

pub returns-then-b-number : goal.returns-then-b-number
returns-then-b-number t c =
    let e : lines_of c.args.self.now ≡ lines_of c.deref-b.result.now.left ++ c.deref-b.result.now.line ∷ lines_of c.deref-b.result.now.right = rw (c.in-Fork.is, c.deref-b.ensures) refl in
    let a = around (lines_of c.deref-b.result.now.left) _ _ (subst AreRising e c.requires) in
    rw (e, moment_right c.args.number (lines_of c.deref-b.result.now.left) c.deref-b.result.now.line (lines_of c.deref-b.result.now.right) a c.if-b-number.true) c.moment-then-b-number.ensures

pub returns-else-b-number : goal.returns-else-b-number
returns-else-b-number t c =
    let e : lines_of c.args.self.now ≡ lines_of c.deref-b.result.now.left ++ c.deref-b.result.now.line ∷ lines_of c.deref-b.result.now.right = rw (c.in-Fork.is, c.deref-b.ensures) refl in
    let a = around (lines_of c.deref-b.result.now.left) _ _ (subst AreRising e c.requires) in
    let same : c.deref-b.result.now.line.number ≡ c.args.number = omega (arith, c.if-number-b.false, c.if-b-number.false) in
    rw (e, moment_here c.args.number (lines_of c.deref-b.result.now.left) c.deref-b.result.now.line (lines_of c.deref-b.result.now.right) a same) refl
