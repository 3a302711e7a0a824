use Rattle.std.proofs.Common.{◌≡◌, ◌+◌, ◌++◌, List, length, take, map, ap, ◌∙◌, arith}
use Rattle.lp_code.specs.declared.tables.VarRow.{VarRow}
use Rattle.lp_layout.specs.Layout.{inherited_rows, row_moved}
use Rattle.lp_layout.proofs.Listing.{behind, inherited_next}
use Rattle.lp_layout.proofs.Makes.{parts_least, parts_next}
use Rattle.lp_layout.proofs.variables.add_inherited.Goals as goal

pub add_moved-requires-clause-room : goal.add_moved-requires-clause-room
add_moved-requires-clause-room c =
    let ts = c.args.parents.now in
    let t = c.parent-item.result in
    let p = parts_next ts c.loop-parent.parent-index t c.loop-parent-test.true c.parent-item.is in
    let b = parts_least ts (c.loop-parent.parent-index + 1) in
    let l : length c.as_slice-parts.result.now ≡ length t.parts = ap length c.as_slice-parts.ensures in
    omega (arith, p, b, l, c.loop-parent.invariant.first, c.requires.room)

pub overflow_cast-first : goal.overflow_cast-first
overflow_cast-first c =
    let ts = c.args.parents.now in
    let t = c.parent-item.result in
    let p = parts_next ts c.loop-parent.parent-index t c.loop-parent-test.true c.parent-item.is in
    let b = parts_least ts (c.loop-parent.parent-index + 1) in
    let l : length c.as_slice-parts.result.now ≡ length t.parts = ap length c.as_slice-parts.ensures in
    omega (arith, p, b, l, c.loop-parent.invariant.first, c.requires.room)

pub overflow_add-first : goal.overflow_add-first
overflow_add-first c =
    let ts = c.args.parents.now in
    let t = c.parent-item.result in
    let p = parts_next ts c.loop-parent.parent-index t c.loop-parent-test.true c.parent-item.is in
    let b = parts_least ts (c.loop-parent.parent-index + 1) in
    let l : length c.as_slice-parts.result.now ≡ length t.parts = ap length c.as_slice-parts.ensures in
    omega (arith, p, b, l, c.loop-parent.invariant.first, c.requires.room)

pub loop-parent-preserved : goal.loop-parent-preserved
loop-parent-preserved c =
    let ts = c.args.parents.now in
    let t = c.parent-item.result in
    let i = c.loop-parent.parent-index in
    let p = parts_next ts i t c.loop-parent-test.true c.parent-item.is in
    let l : length c.as_slice-parts.result.now ≡ length t.parts = ap length c.as_slice-parts.ensures in
    record {
      first = omega (arith, p, l, c.loop-parent.invariant.first);
      rows = behind c.args.rows.now.items c.loop-parent.rows.items c.add_moved.new.rows.items (inherited_rows (take i ts) 0) (map (row_moved c.loop-parent.first) t.vars) (inherited_rows (take (i + 1) ts) 0)
          (inherited_next ts i t c.loop-parent.first c.loop-parent-test.true c.parent-item.is c.loop-parent.invariant.first) c.loop-parent.invariant.rows
          (c.in_ok-add_moved.ensures ∙ ap (λ (rs : List VarRow). c.loop-parent.rows.items ++ map (row_moved c.loop-parent.first) rs) c.as_slice.ensures);
    }
