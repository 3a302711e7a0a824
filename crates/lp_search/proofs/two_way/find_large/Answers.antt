use Rattle.std.proofs.Common.{rules, refl, ◌+◌, ◌≤◌, length, slice_index, sym, subst, arith, ⊎_elim}
use Rattle.std.proofs.lemmas.Bool.{cases_lt, false≢true}
use Rattle.lp_search.specs.Places.{IsFirst, Stands}
use Rattle.lp_search.proofs.PlaceLemmas.{Nowhere-then}
use Rattle.lp_search.proofs.MismatchLemmas.{Nowhere-right, Nowhere-left, Nowhere-end, Nowhere-skipped, begins, IsShift-large}
use Rattle.lp_search.proofs.two_way.find_large.Goals as goal

pub returns-in_err-pos : goal.returns-in_err-pos
returns-in_err-pos c =
    let x = slice_index c.args.needle.now in
    let m = length c.args.needle.now in
    let h = slice_index c.args.hay.now in
    let n = length c.args.hay.now in
    let old = c.loop-pos.invariant in
    let some = c.requires.some in
    subst (λ r. IsFirst (Stands c.args.needle.now c.args.hay.now) c.args.from (n + 1) r) (sym c.from_residual.ensures)
    (Nowhere-then old.2 (λ k a b occurs. c.in_err-pos.ensures k a (omega (arith, occurs.fits)) ((begins c.args.needle.now c.args.hay.now some) k occurs)))

pub loop-pos-preserved-then-i-m : goal.loop-pos-preserved-then-i-m
loop-pos-preserved-then-i-m c =
    let x = slice_index c.args.needle.now in
    let m = length c.args.needle.now in
    let h = slice_index c.args.hay.now in
    let n = length c.args.hay.now in
    let old = c.loop-pos.invariant in
    let pos = c.in_ok-pos.pos in
    let found = c.in_ok-pos.ensures.0 in
    let low = found.low in
    let high = found.high in
    let some = c.requires.some in
    let before = Nowhere-skipped old.2 (begins c.args.needle.now c.args.hay.now some) found.before in
    let fits = c.loop-pos-test.true in
    let earlier = old.1 in
    let cut = c.requires.cut in
    let i = c.matched_to-i.result in
    let ends = c.matched_to-i.ensures in
    let low = ends.low in
    let below = c.if-i-m.true in
    let here = Nowhere-right x m h n c.args.critical cut.critical pos i ends.low below ends.same (ends.differs below) in
    (omega arith, omega arith, Nowhere-then before here)

pub returns-then-matches_between : goal.returns-then-matches_between
returns-then-matches_between c =
    let x = slice_index c.args.needle.now in
    let m = length c.args.needle.now in
    let h = slice_index c.args.hay.now in
    let n = length c.args.hay.now in
    let old = c.loop-pos.invariant in
    let pos = c.in_ok-pos.pos in
    let found = c.in_ok-pos.ensures.0 in
    let low = found.low in
    let high = found.high in
    let some = c.requires.some in
    let before = Nowhere-skipped old.2 (begins c.args.needle.now c.args.hay.now some) found.before in
    let fits = c.loop-pos-test.true in
    let earlier = old.1 in
    let ends = c.matched_to-i.ensures in
    let cut = c.requires.cut in
    let full : m ≤ c.matched_to-i.result = omega (arith, c.if-i-m.false) in
    let left = c.if-matches_between.ensures.0 refl in (
      record { low = omega arith; high = omega arith; before = before },
      record {
        fits = omega arith;
        reads = λ j l. sym (⊎_elim
            (λ inside. left j (omega arith) inside)
            (λ outside. ends.same j outside (omega arith))
            (cases_lt j c.args.critical));
      },
    )

pub overflow_add-pos-in-loop-pos : goal.overflow_add-pos-in-loop-pos
overflow_add-pos-in-loop-pos c =
    let x = slice_index c.args.needle.now in
    let m = length c.args.needle.now in
    let h = slice_index c.args.hay.now in
    let n = length c.args.hay.now in
    let old = c.loop-pos.invariant in
    let pos = c.in_ok-pos.pos in
    let found = c.in_ok-pos.ensures.0 in
    let low = found.low in
    let high = found.high in
    let some = c.requires.some in
    let before = Nowhere-skipped old.2 (begins c.args.needle.now c.args.hay.now some) found.before in
    let fits = c.loop-pos-test.true in
    let earlier = old.1 in
    let cut = c.requires.cut in
    let parts = IsShift-large c.args.critical cut.shifts in
    search rules

pub loop-pos-smaller : goal.loop-pos-smaller
loop-pos-smaller c =
    let x = slice_index c.args.needle.now in
    let m = length c.args.needle.now in
    let h = slice_index c.args.hay.now in
    let n = length c.args.hay.now in
    let old = c.loop-pos.invariant in
    let pos = c.in_ok-pos.pos in
    let found = c.in_ok-pos.ensures.0 in
    let low = found.low in
    let high = found.high in
    let some = c.requires.some in
    let before = Nowhere-skipped old.2 (begins c.args.needle.now c.args.hay.now some) found.before in
    let fits = c.loop-pos-test.true in
    let earlier = old.1 in
    let cut = c.requires.cut in
    let parts = IsShift-large c.args.critical cut.shifts in
    omega arith

pub loop-pos-preserved : goal.loop-pos-preserved
loop-pos-preserved c =
    let x = slice_index c.args.needle.now in
    let m = length c.args.needle.now in
    let h = slice_index c.args.hay.now in
    let n = length c.args.hay.now in
    let old = c.loop-pos.invariant in
    let pos = c.in_ok-pos.pos in
    let found = c.in_ok-pos.ensures.0 in
    let low = found.low in
    let high = found.high in
    let some = c.requires.some in
    let before = Nowhere-skipped old.2 (begins c.args.needle.now c.args.hay.now some) found.before in
    let fits = c.loop-pos-test.true in
    let earlier = old.1 in
    let cut = c.requires.cut in
    let parts = IsShift-large c.args.critical cut.shifts in
    let ends = c.matched_to-i.ensures in
    let full : m ≤ c.matched_to-i.result = omega (arith, c.if-i-m.false) in
    let here = Nowhere-left x m h n c.args.critical c.args.shift cut.critical parts.2 pos
    (λ k a b. ends.same k a (omega arith))
    (λ occurs. false≢true (c.if-matches_between.ensures.1 (λ k a b. sym (occurs.reads k (omega arith))))) in
    (omega arith, omega arith, Nowhere-then before here)

pub returns : goal.returns
returns c =
    let x = slice_index c.args.needle.now in
    let m = length c.args.needle.now in
    let h = slice_index c.args.hay.now in
    let n = length c.args.hay.now in
    let old = c.loop-pos.invariant in
    Nowhere-then old.2 (Nowhere-end x m h n c.loop-pos.pos (omega (arith, old.1, c.loop-pos-test.false)))
