use Rattle.std.proofs.Common.{◌∙◌, sym, arith}
use Rattle.std.proofs.lemmas.Str.{utf8_valid_len-IsUtf8, utf8_valid_len_le}
use Rattle.lp_lexer.proofs.Decoding.{characters-utf8, characters-split, width-source, width-utf8}
use Rattle.lp_lexer.proofs.characters.Characters.new.Goals as goal

pub returns-in-Ok-clause-all : goal.returns-in-Ok-clause-all
returns-in-Ok-clause-all c = rw c.in-Ok.ensures.cases.0 (characters-utf8 _ c.in-Ok.ensures.cases.1)

pub returns-in-Ok-clause-valid : goal.returns-in-Ok-clause-valid
returns-in-Ok-clause-valid c = sym (utf8_valid_len-IsUtf8 _ c.in-Ok.ensures.cases.1)

pub returns-in-Ok-clause-size : goal.returns-in-Ok-clause-size
returns-in-Ok-clause-size c = rw c.in-Ok.ensures.cases.0 (width-utf8 _ c.in-Ok.ensures.cases.1)

pub returns-in-Err-clause-all : goal.returns-in-Err-clause-all
returns-in-Err-clause-all c = characters-split _ _ _ _ (c.valid_up_to.ensures ∙ c.in-Err.ensures.valid_len) (c.from_utf8_unchecked-text.ensures ∙ c.split_at.ensures.front) c.split_at.ensures.back

pub returns-in-Err-clause-size : goal.returns-in-Err-clause-size
returns-in-Err-clause-size c = width-source _ _ _ _ c.from_utf8_unchecked-text.utf8 (c.from_utf8_unchecked-text.ensures ∙ c.split_at.ensures.front) c.split_at.ensures.back (omega (arith, utf8_valid_len_le c.args.bytes.now, c.valid_up_to.ensures, c.in-Err.ensures.valid_len))
