use Rattle.std.proofs.Common.{rules, ℕ, refl, ◌≡◌, ◌+◌, ◌≤◌, ◌<◌, length, slice_index, sym, subst, arith, ⊎_elim}
use Rattle.std.proofs.lemmas.Bool.{cases_lt, false≢true}
use Rattle.lp_search.specs.Places.{IsFirst, Stands}
use Rattle.lp_search.proofs.PlaceLemmas.{Nowhere-then}
use Rattle.lp_search.proofs.MismatchLemmas.{Nowhere-right, Nowhere-left, Nowhere-end, Nowhere-skipped, begins, known-next, IsShift-small}
use Rattle.lp_search.proofs.two_way.find_small.Goals as goal

pub returns-in_err-next : goal.returns-in_err-next
returns-in_err-next c =
    let x = slice_index c.args.needle.now in
    let m = length c.args.needle.now in
    let h = slice_index c.args.hay.now in
    let n = length c.args.hay.now in
    let old = c.loop-pos.invariant in
    let some = c.requires.some in
    subst (λ r. IsFirst (Stands c.args.needle.now c.args.hay.now) c.args.from (n + 1) r) (sym c.from_residual.ensures)
    (Nowhere-then old.2 (λ k a b occurs. c.in_err-next.ensures k a (omega (arith, occurs.fits)) ((begins c.args.needle.now c.args.hay.now some) k occurs)))

pub loop-pos-preserved-then-i-m : goal.loop-pos-preserved-then-i-m
loop-pos-preserved-then-i-m c =
    let x = slice_index c.args.needle.now in
    let m = length c.args.needle.now in
    let h = slice_index c.args.hay.now in
    let n = length c.args.hay.now in
    let old = c.loop-pos.invariant in
    let pos = c.in_ok-next.next in
    let found = c.in_ok-next.ensures.0 in
    let low = found.low in
    let high = found.high in
    let some = c.requires.some in
    let before = Nowhere-skipped old.2 (begins c.args.needle.now c.args.hay.now some) found.before in
    let fits = c.loop-pos-test.true in
    let earlier = old.1 in
    let known = c.known_at-known.result in
    let front : (k : ℕ) → k < known → x k ≡ h (pos + k) = λ k l.
    ⊎_elim
    (λ none. absurd (omega (arith, none)))
    (λ same. subst (λ p. x k ≡ h (p + k)) (sym same.0) (old.4 k (omega (arith, same.1))))
    c.known_at-known.ensures in
    let cut = c.requires.cut in
    let critical = c.args.critical in
    let ends = c.matched_to-i.ensures in
    let start = c.max.result in
    let start_is = c.max.ensures in
    let i = c.matched_to-i.result in
    let below = c.if-i-m.true in
    let low : critical ≤ i = omega (arith, ends.low) in
    let same : (k : ℕ) → critical ≤ k → k < i → x k ≡ h (pos + k) = λ k a b.
    ⊎_elim (λ inside. front k (omega arith)) (λ outside. ends.same k outside b) (cases_lt k start) in
    let here = Nowhere-right x m h n critical cut.critical pos i low below same (ends.differs below) in
    (omega arith, omega (arith, ends.high), Nowhere-then before here, some, λ k l. absurd (omega arith))

pub returns-then-matches_between : goal.returns-then-matches_between
returns-then-matches_between c =
    let x = slice_index c.args.needle.now in
    let m = length c.args.needle.now in
    let h = slice_index c.args.hay.now in
    let n = length c.args.hay.now in
    let old = c.loop-pos.invariant in
    let pos = c.in_ok-next.next in
    let found = c.in_ok-next.ensures.0 in
    let low = found.low in
    let high = found.high in
    let some = c.requires.some in
    let before = Nowhere-skipped old.2 (begins c.args.needle.now c.args.hay.now some) found.before in
    let fits = c.loop-pos-test.true in
    let earlier = old.1 in
    let known = c.known_at-known.result in
    let front : (k : ℕ) → k < known → x k ≡ h (pos + k) = λ k l.
    ⊎_elim
    (λ none. absurd (omega (arith, none)))
    (λ same. subst (λ p. x k ≡ h (p + k)) (sym same.0) (old.4 k (omega (arith, same.1))))
    c.known_at-known.ensures in
    let critical = c.args.critical in
    let ends = c.matched_to-i.ensures in
    let start = c.max.result in
    let start_is = c.max.ensures in
    let full : m ≤ c.matched_to-i.result = omega (arith, c.if-i-m.false) in
    let left = c.if-matches_between.ensures.0 refl in (
      record { low = omega arith; high = omega arith; before = before },
      record {
        fits = omega arith;
        reads = λ j l. sym (⊎_elim
            (λ early. front j early)
            (λ late. ⊎_elim
            (λ inside. left j late inside)
            (λ outside. ⊎_elim (λ near. front j (omega arith)) (λ far. ends.same j far (omega arith)) (cases_lt j start))
            (cases_lt j critical))
            (cases_lt j known));
      },
    )

pub overflow_add-pos-in-loop-pos : goal.overflow_add-pos-in-loop-pos
overflow_add-pos-in-loop-pos c =
    let x = slice_index c.args.needle.now in
    let m = length c.args.needle.now in
    let h = slice_index c.args.hay.now in
    let n = length c.args.hay.now in
    let old = c.loop-pos.invariant in
    let pos = c.in_ok-next.next in
    let found = c.in_ok-next.ensures.0 in
    let low = found.low in
    let high = found.high in
    let some = c.requires.some in
    let before = Nowhere-skipped old.2 (begins c.args.needle.now c.args.hay.now some) found.before in
    let fits = c.loop-pos-test.true in
    let earlier = old.1 in
    let known = c.known_at-known.result in
    let front : (k : ℕ) → k < known → x k ≡ h (pos + k) = λ k l.
    ⊎_elim
    (λ none. absurd (omega (arith, none)))
    (λ same. subst (λ p. x k ≡ h (p + k)) (sym same.0) (old.4 k (omega (arith, same.1))))
    c.known_at-known.ensures in
    let cut = c.requires.cut in
    let parts = IsShift-small c.args.critical cut.shifts in
    search rules

pub loop-pos-smaller : goal.loop-pos-smaller
loop-pos-smaller c =
    let x = slice_index c.args.needle.now in
    let m = length c.args.needle.now in
    let h = slice_index c.args.hay.now in
    let n = length c.args.hay.now in
    let old = c.loop-pos.invariant in
    let pos = c.in_ok-next.next in
    let found = c.in_ok-next.ensures.0 in
    let low = found.low in
    let high = found.high in
    let some = c.requires.some in
    let before = Nowhere-skipped old.2 (begins c.args.needle.now c.args.hay.now some) found.before in
    let fits = c.loop-pos-test.true in
    let earlier = old.1 in
    let known = c.known_at-known.result in
    let front : (k : ℕ) → k < known → x k ≡ h (pos + k) = λ k l.
    ⊎_elim
    (λ none. absurd (omega (arith, none)))
    (λ same. subst (λ p. x k ≡ h (p + k)) (sym same.0) (old.4 k (omega (arith, same.1))))
    c.known_at-known.ensures in
    let cut = c.requires.cut in
    let parts = IsShift-small c.args.critical cut.shifts in
    omega arith

pub loop-pos-preserved : goal.loop-pos-preserved
loop-pos-preserved c =
    let x = slice_index c.args.needle.now in
    let m = length c.args.needle.now in
    let h = slice_index c.args.hay.now in
    let n = length c.args.hay.now in
    let old = c.loop-pos.invariant in
    let pos = c.in_ok-next.next in
    let found = c.in_ok-next.ensures.0 in
    let low = found.low in
    let high = found.high in
    let some = c.requires.some in
    let before = Nowhere-skipped old.2 (begins c.args.needle.now c.args.hay.now some) found.before in
    let fits = c.loop-pos-test.true in
    let earlier = old.1 in
    let known = c.known_at-known.result in
    let front : (k : ℕ) → k < known → x k ≡ h (pos + k) = λ k l.
    ⊎_elim
    (λ none. absurd (omega (arith, none)))
    (λ same. subst (λ p. x k ≡ h (p + k)) (sym same.0) (old.4 k (omega (arith, same.1))))
    c.known_at-known.ensures in
    let cut = c.requires.cut in
    let critical = c.args.critical in
    let parts = IsShift-small c.args.critical cut.shifts in
    let ends = c.matched_to-i.ensures in
    let start = c.max.result in
    let start_is = c.max.ensures in
    let full : m ≤ c.matched_to-i.result = omega (arith, c.if-i-m.false) in
    let right : (k : ℕ) → critical ≤ k → k < m → x k ≡ h (pos + k) = λ k a b.
    ⊎_elim (λ near. front k (omega arith)) (λ far. ends.same k far (omega arith)) (cases_lt k start) in
    let here = Nowhere-left x m h n critical c.args.period cut.critical parts.4 pos right
    (λ occurs. false≢true (c.if-matches_between.ensures.1 (λ k a b. sym (occurs.reads k (omega arith))))) in
    (omega arith, omega arith, Nowhere-then before here, omega arith, known-next x m h n critical c.args.period parts.3 parts.1 pos right)

pub returns : goal.returns
returns c =
    let x = slice_index c.args.needle.now in
    let m = length c.args.needle.now in
    let h = slice_index c.args.hay.now in
    let n = length c.args.hay.now in
    let old = c.loop-pos.invariant in
    Nowhere-then old.2 (Nowhere-end x m h n c.loop-pos.pos (omega (arith, old.1, c.loop-pos-test.false)))

pub overflow_sub-known : goal.overflow_sub-known
overflow_sub-known c =
    let x = slice_index c.args.needle.now in
    let m = length c.args.needle.now in
    let h = slice_index c.args.hay.now in
    let n = length c.args.hay.now in
    let cut = c.requires.cut in
    let parts = IsShift-small c.args.critical cut.shifts in
    parts.2
