use Rattle.std.proofs.Common.{◌≡◌, ◌<◌, ◌+◌, length, take, ap, arith}
use Rattle.std.specs.Prelude.{◌-◌}
use Rattle.lp_layout.specs.Layout.{parts_of}
use Rattle.lp_layout.specs.Origins.{rowed}
use Rattle.lp_types_expr.proofs.Showing.{get_from}
use Rattle.lp_layout.proofs.Makes.{parent_before, parts_last}
use Rattle.lp_layout.proofs.shown.add_shown.Goals as goal

pub overflow_cast-first : goal.overflow_cast-first
overflow_cast-first c =
    let t = c.index-parents-left.result in
    let i = c.loop-left.left - 1 in
    let n : c.loop-left.left ≡ i + 1 = omega arith in
    let p = parts_last c.args.parents.now i t c.loop-left.left (omega arith) c.index-parents-left.is n in
    let l : length c.as_slice-parts.result.now ≡ length t.parts = ap length c.as_slice-parts.ensures in
    omega (arith, p, l, c.loop-left.invariant.first)

pub overflow_sub-first : goal.overflow_sub-first
overflow_sub-first c =
    let t = c.index-parents-left.result in
    let i = c.loop-left.left - 1 in
    let n : c.loop-left.left ≡ i + 1 = omega arith in
    let p = parts_last c.args.parents.now i t c.loop-left.left (omega arith) c.index-parents-left.is n in
    let l : length c.as_slice-parts.result.now ≡ length t.parts = ap length c.as_slice-parts.ensures in
    omega (arith, p, l, c.loop-left.invariant.first)

pub add_slots-requires-clause-rows : goal.add_slots-requires-clause-rows
add_slots-requires-clause-rows c = λ k s h.
    let t = c.index-parents-left.result in
    let i = c.loop-left.left - 1 in
    let l : length c.as_slice-parts.result.now ≡ length t.parts = ap length c.as_slice-parts.ensures in
    let q : s.part < length t.parts = (c.requires.inside i t (get_from c.args.parents.now i t (omega arith) c.index-parents-left.is)).0 k s h in
    omega (arith, q, l)

pub add_slots-requires-clause-room : goal.add_slots-requires-clause-room
add_slots-requires-clause-room c =
    let t = c.index-parents-left.result in
    let i = c.loop-left.left - 1 in
    let n : c.loop-left.left ≡ i + 1 = omega arith in
    let p = parts_last c.args.parents.now i t c.loop-left.left (omega arith) c.index-parents-left.is n in
    let l : length c.as_slice-parts.result.now ≡ length t.parts = ap length c.as_slice-parts.ensures in
    omega (arith, p, l, c.loop-left.invariant.first)

pub loop-left-preserved : goal.loop-left-preserved
loop-left-preserved c =
    let ts = c.args.parents.now in
    let t = c.index-parents-left.result in
    let i = c.loop-left.left - 1 in
    let f = c.loop-left.first - length c.as_slice-parts.result.now in
    let n : c.loop-left.left ≡ i + 1 = omega arith in
    let p = parts_last ts i t c.loop-left.left (omega arith) c.index-parents-left.is n in
    let l : length c.as_slice-parts.result.now ≡ length t.parts = ap length c.as_slice-parts.ensures in
    let g : f ≡ parts_of (take i ts) = omega (arith, p, l, c.loop-left.invariant.first) in
    record {
      inside = omega arith;
      first = g;
      rowed = parent_before c.args.bodies ts i t c.loop-left.left f (omega arith) c.index-parents-left.is n g (rowed c.args.origins.now) (rowed c.loop-left.origins) (rowed c.add_slots.new.origins) c.loop-left.invariant.rowed c.in_ok-add_slots.ensures;
    }
