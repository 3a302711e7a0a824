use Rattle.std.proofs.Common.{ℕ, List, take, map, sym, subst}
use Rattle.lp_layout.specs.Standing.{KnowsSome}
use Rattle.lp_layout.proofs.Beside.{some_more, some_none}
use Rattle.lp_layout.proofs.Taken.{map_next}
use Rattle.lp_layout.proofs.nomask.add_names.Goals as goal

pub loop-row-init : goal.loop-row-init
loop-row-init c = λ ts k. some_none ts c.args.parent.now c.args.known.now k

pub loop-row-preserved : goal.loop-row-preserved
loop-row-preserved c = λ ts k.
    let xs : List (List ℕ) = map (λ s. s.name) (take c.loop-row.row-index c.args.rows.now) in
    subst (λ (l : List (List ℕ)). KnowsSome ts c.args.parent.now l c.add_name.new.known) (sym (map_next (λ s. s.name) c.args.rows.now c.loop-row.row-index c.row-item.result c.loop-row-test.true c.row-item.is))
    (some_more ts c.args.parent.now xs c.row-item.result.name c.loop-row.known c.add_name.new.known (c.loop-row.invariant ts k) c.in_ok-add_name.ensures)
