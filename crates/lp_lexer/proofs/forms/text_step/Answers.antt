use Rattle.std.proofs.Common.{rules}
use Rattle.lp_lexer.proofs.Reading.{text_letter}
use Rattle.lp_lexer.proofs.forms.text_step.Goals as goal

pub returns-in_default : goal.returns-in_default
returns-in_default c = text_letter c.args.cursor.now.behind c.in-Some.sign c.args.cursor.now.left _ _ c.in-Some.ensures (search rules) (search rules) c.letter_at-letter.ensures c.skip.ensures
