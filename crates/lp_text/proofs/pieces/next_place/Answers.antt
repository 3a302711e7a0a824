use Rattle.std.proofs.Common.{subst, sym}
use Rattle.lp_text.specs.Pieces.{AreNext}
use Rattle.lp_text.proofs.PieceLemmas.{next}
use Rattle.lp_text.proofs.pieces.next_place.Goals as goal

pub returns-in-Some : goal.returns-in-Some
returns-in-Some c = subst (AreNext c.args.by.now c.args.s.now c.args.from) (sym c.in-Some.ensures) (next c.args.by.now c.args.s.now c.args.from c.requires.some c.requires.within)

pub returns-in-None : goal.returns-in-None
returns-in-None c = subst (AreNext c.args.by.now c.args.s.now c.args.from) (sym c.in-None.ensures) (next c.args.by.now c.args.s.now c.args.from c.requires.some c.requires.within)
