use Rattle.std.proofs.Common.{ℕ, List, [], ◌∷◌, ◌++◌, ◌+◌, true, rules, drop, map, subst, Err}
use Rattle.std.proofs.lemmas.Result.{err_from_is_err_and}
use Rattle.lp_cells.specs.Mapping.{pairs_there}
use Rattle.lp_cells.specs.Slots.{filled}
use Rattle.lp_values.specs.declared.id.CellId.{CellId}
use Rattle.lp_values.specs.declared.value.Value.{Value}
use Rattle.lp_format.specs.Answers.{Becomes}
use Rattle.lp_format.specs.Spelled.{pair_spelled, separator, spaced, spelled_within}
use Rattle.lp_format.proofs.AnswerLemmas.{goes_on, stops_behind}
use Rattle.lp_format.proofs.SpellLemmas.{next_pair, no_pair}
use Rattle.lp_format.proofs.spell.+spell.Goals as goal
use Rattle.lp_format.proofs.spell.+spell.Goals.{write_mapping-in-Some+in_ok-push_all-2+in_ok-write_pair, write_mapping-in_default}

pub write_mapping-returns-in_err-write_pair-clause-text :
    goal.write_mapping-returns-in_err-write_pair-clause-text
write_mapping-returns-in_err-write_pair-clause-text g t c =
    let p = err_from_is_err_and c.from_residual-in_err-write_pair.result c.from_residual-in_err-write_pair.ensures.1 in
    let live = g.L.Living.live c.args.names.now in
    let f = pair_spelled (spelled_within live (g.L.Names.name c.args.names.now) c.args.cells.now c.args.levels c.args.path.now.items) in
    let pair : Value × Value = (c.in-Some.key.now, c.in-Some.v.now) in
    let tail : List ℕ = 32 ∷ 93 ∷ 41 ∷ [] in
    let next = next_pair live f c.loop-slot.others c.loop-slot.out _ tail c.args.slots.now c.loop-slot.slot-index c.slot-item.result pair c.loop-slot-test.true c.slot-item.is c.in-Some.ensures.there c.loop-slot.invariant.text in
    let more = subst (λ (path : List CellId). Becomes (Err c.in_err-write_pair.field-0.0) c.write_pair.new.out (c.push_all-in-Some.new.self ++ pair_spelled (spelled_within live (g.L.Names.name c.args.names.now) c.args.cells.now c.args.levels path) pair)) c.loop-slot.invariant.path c.in_err-write_pair.ensures.text in
    rw (p.1, p.2) (stops_behind _ _ _ c.loop-slot.out (f pair) (separator c.loop-slot.others) (spaced true (map f (pairs_there live (filled (drop (c.loop-slot.slot-index + 1) c.args.slots.now)))) ++ tail) _ c.push_all-in-Some.new.self next (search rules) more)

pub write_mapping-loop-slot-preserved : goal.write_mapping-loop-slot-preserved
write_mapping-loop-slot-preserved g t c =
    let live = g.L.Living.live c.args.names.now in
    let f = pair_spelled (spelled_within live (g.L.Names.name c.args.names.now) c.args.cells.now c.args.levels c.args.path.now.items) in
    let tail : List ℕ = 32 ∷ 93 ∷ 41 ∷ [] in
    elim c.match-there_in.branch [
      | write_mapping-in-Some+in_ok-push_all-2+in_ok-write_pair w ↦
          let pair : Value × Value = (w.in-Some.key.now, w.in-Some.v.now) in
          let next = next_pair live f c.loop-slot.others c.loop-slot.out _ tail c.args.slots.now c.loop-slot.slot-index c.slot-item.result pair c.loop-slot-test.true c.slot-item.is w.in-Some.ensures.there c.loop-slot.invariant.text in
          record { path = search rules; text = rw (w.out-is, w.others-is) (goes_on c.loop-slot.out (separator c.loop-slot.others) (f pair) (spaced true (map f (pairs_there live (filled (drop (c.loop-slot.slot-index + 1) c.args.slots.now)))) ++ tail) _ w.push_all-in-Some.new.self w.write_pair.new.out next (search rules) (search rules)) }
      | write_mapping-in_default w ↦
          record { path = search rules; text = rw (w.out-is, w.others-is) (no_pair live f c.loop-slot.others c.loop-slot.out _ tail c.args.slots.now c.loop-slot.slot-index c.slot-item.result c.loop-slot-test.true c.slot-item.is w.in_default.ensures.there c.loop-slot.invariant.text) }
    ]
