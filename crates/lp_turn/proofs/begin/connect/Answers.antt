use Rattle.std.proofs.Common.{◌∙◌, sym}
use Rattle.lp_turn.proofs.Connected.{connects, connects_not}
use Rattle.lp_turn.proofs.begin.connect.Goals as goal

pub returns-then-has_place-clause-begins : goal.returns-then-has_place-clause-begins
returns-then-has_place-clause-begins c = connects c.args.live.now c.note_number.new.live c.args.number (sym c.has_place-has_place.ensures ∙ c.if-has_place.true) c.in_ok-note_number.ensures.numbered

pub returns-clause-begins : goal.returns-clause-begins
returns-clause-begins c =
    connects_not c.args.live.now c.note_number.new.live c.tell.new.live c.args.number (sym c.has_place-has_place.ensures ∙ c.if-has_place.false) c.in_ok-note_number.ensures.numbered c.in_ok-tell.ensures.told
