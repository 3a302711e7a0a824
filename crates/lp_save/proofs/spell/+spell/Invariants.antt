use Rattle.std.proofs.Common.{◌+◌, ◌*◌, take}
use Rattle.std.specs.Prelude.{codes}
use Rattle.std.specs.List.{fold}
use Rattle.lp_cells.specs.Mapping.{pairs_there}
use Rattle.lp_cells.specs.Slots.{filled}
use Rattle.lp_save.specs.SaveText.{add, spelt}
use Rattle.lp_save.specs.States.{Spells, pair_spelt}
use Rattle.lp_save.proofs.spell.+spell.Given as goal

abbrev pub decreases-spell : goal.decreases-spell
decreases-spell g l = l.levels * 2

abbrev pub decreases-spell_items : goal.decreases-spell_items
decreases-spell_items g l = l.levels * 2 + 1

abbrev pub decreases-spell_pairs : goal.decreases-spell_pairs
decreases-spell_pairs g l = l.levels * 2 + 1

abbrev pub invariant-spell_items-loop-v : goal.invariant-spell_items-loop-v
invariant-spell_items-loop-v g l = Spells l.fn.speller l.speller (λ s. fold (λ x v. add (codes ",") (spelt (g.L.Living.live l.live) l.cells l.shared l.levels x v)) (add (codes "({") s) (take l.v-index l.items))

abbrev pub invariant-spell_pairs-loop-slot : goal.invariant-spell_pairs-loop-slot
invariant-spell_pairs-loop-slot g l = Spells l.fn.speller l.speller (λ s. fold (pair_spelt (spelt (g.L.Living.live l.live) l.cells l.shared l.levels)) (add (codes "([") s) (pairs_there (g.L.Living.live l.live) (filled (take l.slot-index l.slots))))
