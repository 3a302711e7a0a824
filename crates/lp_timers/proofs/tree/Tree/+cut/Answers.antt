use Rattle.std.proofs.Common.{◌≡◌, arith, length, ap, subst, ◌∙◌, length-append, refl}
use Rattle.lp_timers.specs.Tree.{lines_of}
use Rattle.lp_timers.specs.Lines.{AreRising}
use Rattle.lp_timers.proofs.LineLemmas.{around, cut_left, cut_right, cut_here}
use Rattle.lp_timers.proofs.tree.Tree.+cut.Goals as goal

pub cut-requires : goal.cut-requires
cut-requires t c =
    let e = c.in-Some.ensures in
    let l = ap length e.lines ∙ length-append (lines_of c.in-Some.o.left) _ in
    (grind (arith, l), (e.left, (around (lines_of c.in-Some.o.left) _ _ (subst AreRising e.lines c.requires.rising)).left))

pub returns-then-number-o-clause-lines : goal.returns-then-number-o-clause-lines
returns-then-number-o-clause-lines t c =
    let e = c.in-Some.ensures in
    let a = around (lines_of c.in-Some.o.left) _ _ (subst AreRising e.lines c.requires.rising) in
    rw (e.lines, cut_left c.args.number (lines_of c.in-Some.o.left) c.in-Some.o.line (lines_of c.in-Some.o.right) a c.if-number-o.true, c.close.ensures.lines, c.cut.ensures.lines) refl

pub cut-requires-then-o-number : goal.cut-requires-then-o-number
cut-requires-then-o-number t c =
    let e = c.in-Some.ensures in
    let l = ap length e.lines ∙ length-append (lines_of c.in-Some.o.left) _ in
    (grind (arith, l), (e.right, (around (lines_of c.in-Some.o.left) _ _ (subst AreRising e.lines c.requires.rising)).right))

pub returns-then-o-number-clause-lines : goal.returns-then-o-number-clause-lines
returns-then-o-number-clause-lines t c =
    let e = c.in-Some.ensures in
    let a = around (lines_of c.in-Some.o.left) _ _ (subst AreRising e.lines c.requires.rising) in
    rw (e.lines, cut_right c.args.number (lines_of c.in-Some.o.left) c.in-Some.o.line (lines_of c.in-Some.o.right) a c.if-o-number.true, c.close-then-o-number.ensures.lines, c.cut-then-o-number.ensures.lines) refl

pub returns-clause-lines : goal.returns-clause-lines
returns-clause-lines t c =
    let e = c.in-Some.ensures in
    let a = around (lines_of c.in-Some.o.left) _ _ (subst AreRising e.lines c.requires.rising) in
    let same : c.in-Some.o.line.number ≡ c.args.number = omega (arith, c.if-number-o.false, c.if-o-number.false) in
    rw (e.lines, cut_here c.args.number (lines_of c.in-Some.o.left) c.in-Some.o.line (lines_of c.in-Some.o.right) a same, c.join.ensures.lines) refl
