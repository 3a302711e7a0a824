use Rattle.std.proofs.Common.{subst, sym}
use Rattle.lp_parser.specs.Machine.{modified}
use Rattle.lp_parser.specs.Moves.{Moves}
use Rattle.lp_parser.proofs.top.modified.Goals as goal

pub returns-in-Reserved : goal.returns-in-Reserved
returns-in-Reserved c = λ b. subst (λ k. Moves (modified k b c.args.line c.args.mods.items) b c.word_modified.result) (sym c.in-Reserved.is) (c.word_modified.ensures b)
