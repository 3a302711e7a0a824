use Rattle.std.proofs.Common.{◌≡◌, ◌+◌, suc, length, map, ap, ◌∙◌, arith}
use Rattle.lp_tree.specs.UnitView.{item_of}
use Rattle.lp_layout.specs.Layout.{functions, laid_slots, laid_variables, parts_before, parts_of}
use Rattle.lp_layout.proofs.Listing.{count_parts}
use Rattle.lp_layout.proofs.Sizes.{first_big, none_big, same_tables, second_big}
use Rattle.lp_layout.proofs.tables.tables.Goals.{then-len-ge-MOST_NAMES-via-then-len-ge-MOST_NAMES, then-len-ge-MOST_NAMES-via-else-len-ge-MOST_NAMES+then-functions-gt-MOST_NAMES}
use Rattle.lp_layout.proofs.tables.tables.Goals as goal

pub returns-then-len-ge-MOST_NAMES : goal.returns-then-len-ge-MOST_NAMES
returns-then-len-ge-MOST_NAMES c = λ h.
    let is = map item_of c.args.items.now in
    let ts = c.args.parents.now in
    let k : length (parts_before ts) ≡ parts_of ts = count_parts ts in
    let l : length c.in_ok-parts.parts.items ≡ length (parts_before ts) = ap length c.in_ok-parts.ensures in
    elim c.then-len-ge-MOST_NAMES.branch [
      | then-len-ge-MOST_NAMES-via-then-len-ge-MOST_NAMES w ↦ first_big 65535 (suc (parts_of ts)) (functions is) (length (laid_variables is ts 0)) (length (laid_slots is ts)) (omega (arith, k, l, c.in_ok-parts.parts.ok.0, c.len.ensures, w.if-len-ge-MOST_NAMES.true))
      | then-len-ge-MOST_NAMES-via-else-len-ge-MOST_NAMES+then-functions-gt-MOST_NAMES w ↦ second_big 65535 (suc (parts_of ts)) (functions is) (length (laid_variables is ts 0)) (length (laid_slots is ts)) (omega (arith, w.functions.ensures, w.if-functions-gt-MOST_NAMES.true))
    ]

pub variables-requires-clause-total : goal.variables-requires-clause-total
variables-requires-clause-total c =
    let ts = c.args.parents.now in
    let k : length (parts_before ts) ≡ parts_of ts = count_parts ts in
    let l : length c.in_ok-parts.parts.items ≡ length (parts_before ts) = ap length c.in_ok-parts.ensures in
    omega (arith, k, l, c.in_ok-parts.parts.ok.0, c.len-total.ensures)

pub rows-requires-clause-total : goal.rows-requires-clause-total
rows-requires-clause-total c =
    let ts = c.args.parents.now in
    let k : length (parts_before ts) ≡ parts_of ts = count_parts ts in
    let l : length c.in_ok-parts.parts.items ≡ length (parts_before ts) = ap length c.in_ok-parts.ensures in
    omega (arith, k, l, c.in_ok-parts.parts.ok.0, c.len-total.ensures)

pub returns : goal.returns
returns c = λ h.
    let is = map item_of c.args.items.now in
    let ts = c.args.parents.now in
    let k : length (parts_before ts) ≡ parts_of ts = count_parts ts in
    let l : length c.in_ok-parts.parts.items ≡ length (parts_before ts) = ap length c.in_ok-parts.ensures in
    let vs : c.in_ok-vars.vars.items ≡ laid_variables is ts 0 = c.in_ok-vars.ensures h.variables in
    let ss : c.in_ok-rows.rows.items ≡ laid_slots is ts = c.in_ok-rows.ensures h.functions in
    let lv : length c.in_ok-vars.vars.items ≡ length (laid_variables is ts 0) = ap length vs in
    let ls : length c.in_ok-rows.rows.items ≡ length (laid_slots is ts) = ap length ss in (
      none_big 65535 (suc (parts_of ts)) (functions is) (length (laid_variables is ts 0)) (length (laid_slots is ts)) (omega (arith, k, l, c.in_ok-parts.parts.ok.0, c.len.ensures, c.if-len-ge-MOST_NAMES.false)) (omega (arith, c.functions.ensures, c.if-functions-gt-MOST_NAMES.false)) (omega (arith, lv, c.in_ok-vars.vars.ok.0, c.len-2.ensures, c.if-len-gt-MOST_NAMES.false)) (omega (arith, ls, c.in_ok-rows.rows.ok.0, c.len-3.ensures, c.if-len-gt-MOST_NAMES-2.false)),
      c.in_ok-tables_of.ensures ∙ same_tables is ts c.in_ok-parts.parts.items c.in_ok-vars.vars.items c.in_ok-rows.rows.items c.in_ok-parts.ensures vs ss,
    )
