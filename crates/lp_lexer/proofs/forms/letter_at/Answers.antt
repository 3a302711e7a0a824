use Rattle.std.proofs.Common.{◌∙◌, sym, ap}
use Rattle.lp_lexer.specs.Source.{Rest, passed}
use Rattle.lp_lexer.proofs.Reading.{letter_behind}
use Rattle.lp_lexer.proofs.forms.letter_at.Goals as goal

pub returns : goal.returns
returns c = letter_behind c.args.cursor.now.behind _ _ _ c.args.cursor.now.left c.pass.new.self _ (c.pass.ensures ∙ ap (λ (r : Rest). passed r.behind r.left) c.copy-behind.ensures) (sym c.code-code.ensures ∙ c.if-code-ne92.false) c.codes-c.ensures.first c.codes-c.ensures.second c.codes-c.ensures.third c.escape_of.ensures
