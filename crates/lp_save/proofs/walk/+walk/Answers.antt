use Rattle.std.proofs.Common.{sym, ◌∙◌}
use Rattle.lp_values.specs.declared.value.Value.{Value}
use Rattle.lp_cells.specs.Slots.{filled}
use Rattle.lp_save.specs.SaveText.{walked}
use Rattle.lp_save.specs.States.{met_at}
use Rattle.lp_save.proofs.WalkLemmas.{entered_array, entered_mapping, skipped_array, skipped_mapping, over_more, over_all, over_pair, over_no_pair, over_all_pairs}
use Rattle.lp_save.proofs.walk.+walk.Goals as goal
use Rattle.lp_save.proofs.walk.+walk.Goals.{walk_pairs-in-Some+in_ok-walk+in_ok-walk-2, walk_pairs-in_default}

pub walk-returns-in_ok-walk_items-in-Arr : goal.walk-returns-in_ok-walk_items-in-Arr
walk-returns-in_ok-walk_items-in-Arr g t c = λ w s.
    let m = c.in_ok-enter-in-Arr.ensures.met w s in
    entered_array (g.L.Living.live c.args.live.now) c.args.cells.now c.args.v.now c.in-Arr.c c.args.levels w c.walk_items.new.walker c.items.result.now c.in-Arr.is c.items.ensures.value (sym c.if-branch.true ∙ m.1)
    (c.in_ok-walk_items-in-Arr.ensures (met_at c.args.levels c.in-Arr.c w) m.0)

pub walk-returns-else-branch : goal.walk-returns-else-branch
walk-returns-else-branch g t c = λ w s.
    let m = c.in_ok-enter-in-Arr.ensures.met w s in
    skipped_array (g.L.Living.live c.args.live.now) c.args.cells.now c.args.v.now c.in-Arr.c c.args.levels w c.enter.new.walker c.in-Arr.is (sym c.if-branch.false ∙ m.1) m.0

pub walk-returns-in_ok-walk_pairs-in-Map : goal.walk-returns-in_ok-walk_pairs-in-Map
walk-returns-in_ok-walk_pairs-in-Map g t c = λ w s.
    let m = c.in_ok-enter-in-Map.ensures.met w s in
    entered_mapping (g.L.Living.live c.args.live.now) c.args.cells.now c.args.v.now c.in-Map.c c.args.levels w c.walk_pairs.new.walker (filled c.slots.result.now) c.in-Map.is c.slots.ensures.value (sym c.if-branch-2.true ∙ m.1)
    (c.in_ok-walk_pairs-in-Map.ensures (met_at c.args.levels c.in-Map.c w) m.0)

pub walk-returns-else-branch-2 : goal.walk-returns-else-branch-2
walk-returns-else-branch-2 g t c = λ w s.
    let m = c.in_ok-enter-in-Map.ensures.met w s in
    skipped_mapping (g.L.Living.live c.args.live.now) c.args.cells.now c.args.v.now c.in-Map.c c.args.levels w c.enter-in-Map.new.walker c.in-Map.is (sym c.if-branch-2.false ∙ m.1) m.0

pub walk_items-loop-v-preserved : goal.walk_items-loop-v-preserved
walk_items-loop-v-preserved g t c =
    over_more (walked (g.L.Living.live c.args.live.now) c.args.cells.now c.args.levels) c.args.walker.now c.loop-v.walker c.walk.new.walker c.args.items.now c.loop-v.v-index c.v-item.result c.loop-v-test.true c.v-item.is c.loop-v.invariant c.in_ok-walk.ensures

pub walk_items-returns : goal.walk_items-returns
walk_items-returns g t c =
    over_all (walked (g.L.Living.live c.args.live.now) c.args.cells.now c.args.levels) c.args.walker.now c.loop-v.walker c.args.items.now c.loop-v.v-index c.loop-v-test.false c.loop-v.invariant

pub walk_pairs-loop-slot-preserved : goal.walk_pairs-loop-slot-preserved
walk_pairs-loop-slot-preserved g t c =
    let live = g.L.Living.live c.args.live.now in
    let f = walked live c.args.cells.now c.args.levels in
    elim c.match-there_in.branch [
      | walk_pairs-in-Some+in_ok-walk+in_ok-walk-2 w ↦
          let pair : Value × Value = (w.in-Some.key.now, w.in-Some.v.now) in
          rw w.walker-is (over_pair live f c.args.walker.now c.loop-slot.walker w.walk.new.walker w.walk-in-Some.new.walker c.args.slots.now c.loop-slot.slot-index c.slot-item.result pair c.loop-slot-test.true c.slot-item.is w.in-Some.ensures.there c.loop-slot.invariant w.in_ok-walk.ensures w.in_ok-walk-2.ensures)
      | walk_pairs-in_default w ↦
          rw w.walker-is (over_no_pair live f c.args.walker.now c.loop-slot.walker c.args.slots.now c.loop-slot.slot-index c.slot-item.result c.loop-slot-test.true c.slot-item.is w.in_default.ensures.there c.loop-slot.invariant)
    ]

pub walk_pairs-returns : goal.walk_pairs-returns
walk_pairs-returns g t c =
    over_all_pairs (g.L.Living.live c.args.live.now) (walked (g.L.Living.live c.args.live.now) c.args.cells.now c.args.levels) c.args.walker.now c.loop-slot.walker c.args.slots.now c.loop-slot.slot-index c.loop-slot-test.false c.loop-slot.invariant
