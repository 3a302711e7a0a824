use Rattle.std.proofs.Common.{sym, ◌∙◌, arith}
use Rattle.std.specs.Prelude.{codes}
use Rattle.lp_values.specs.declared.value.Value.{Value}
use Rattle.lp_cells.specs.Slots.{filled}
use Rattle.lp_save.specs.SaveText.{Spelt, add, spelt}
use Rattle.lp_save.proofs.SpellLemmas.{on_ok, on_ok_both, spelt_array, spelt_mapping, spelt_items, spelt_pair, spelt_no_pair}
use Rattle.lp_save.proofs.spell.+spell.Goals as goal
use Rattle.lp_save.proofs.spell.+spell.Goals.{spell_pairs-in-Some+in_ok-spell+in_ok-add-2+in_ok-spell-2+in_ok-add-3, spell_pairs-in_default}

pub spell-returns-in_ok-begin_cell-in-Arr : goal.spell-returns-in_ok-begin_cell-in-Arr
spell-returns-in_ok-begin_cell-in-Arr g t c =
    on_ok c.spell_items.result
    (spelt_array (g.L.Living.live c.args.live.now) c.args.cells.now c.args.shared.now c.args.v.now c.in-Arr.c c.args.levels c.args.speller.now c.begin_cell.new.speller c.spell_items.new.speller c.items.result.now
    c.in-Arr.is c.items.ensures.value (omega arith) (sym c.contains.ensures ∙ c.if-contains.false) c.in_ok-begin_cell-in-Arr.ensures)
    c.spell_items.ensures

pub spell-returns-in_ok-begin_cell-in-Map : goal.spell-returns-in_ok-begin_cell-in-Map
spell-returns-in_ok-begin_cell-in-Map g t c =
    on_ok c.spell_pairs.result
    (spelt_mapping (g.L.Living.live c.args.live.now) c.args.cells.now c.args.shared.now c.args.v.now c.in-Map.c c.args.levels c.args.speller.now c.begin_cell-in-Map.new.speller c.spell_pairs.new.speller (filled c.slots.result.now)
    c.in-Map.is c.slots.ensures.value (omega arith) (sym c.contains-else-levels-eq0-2.ensures ∙ c.if-contains-2.false) c.in_ok-begin_cell-in-Map.ensures)
    c.spell_pairs.ensures

pub spell_items-returns : goal.spell_items-returns
spell_items-returns g t c =
    on_ok_both c.add-2.result
    (spelt_items (λ x v. add (codes ",") (spelt (g.L.Living.live c.args.live.now) c.args.cells.now c.args.shared.now c.args.levels x v)) c.args.speller.now c.loop-v.speller c.add-2.new.speller c.args.items.now c.loop-v.v-index c.loop-v-test.false c.loop-v.invariant)
    c.add-2.ensures.text c.add-2.ensures.done

pub spell_pairs-loop-slot-preserved : goal.spell_pairs-loop-slot-preserved
spell_pairs-loop-slot-preserved g t c =
    let live = g.L.Living.live c.args.live.now in
    let f = spelt live c.args.cells.now c.args.shared.now c.args.levels in
    let start : Spelt → Spelt = add (codes "([") in
    elim c.match-there_in.branch [
      | spell_pairs-in-Some+in_ok-spell+in_ok-add-2+in_ok-spell-2+in_ok-add-3 w ↦
          let pair : Value × Value = (w.in-Some.key.now, w.in-Some.v.now) in
          rw w.speller-is
          (spelt_pair live f start c.args.speller.now c.loop-slot.speller w.spell.new.speller w.add-in-Some.new.speller w.spell-in-Some.new.speller w.add-in-Some-2.new.speller c.args.slots.now c.loop-slot.slot-index c.slot-item.result pair c.loop-slot-test.true c.slot-item.is w.in-Some.ensures.there c.loop-slot.invariant
          w.in_ok-spell.ensures w.in_ok-add-2.ensures.text w.in_ok-add-2.ensures.done w.in_ok-spell-2.ensures w.in_ok-add-3.ensures.text w.in_ok-add-3.ensures.done)
      | spell_pairs-in_default w ↦ rw w.speller-is (spelt_no_pair live f start c.args.speller.now c.loop-slot.speller c.args.slots.now c.loop-slot.slot-index c.slot-item.result c.loop-slot-test.true c.slot-item.is w.in_default.ensures.there c.loop-slot.invariant)
    ]
