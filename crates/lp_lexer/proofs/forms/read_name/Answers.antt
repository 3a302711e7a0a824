use Rattle.std.proofs.Common.{◌∙◌, sym, ap}
use Rattle.lp_tree.specs.declared.token.TokenKind.TheVariants.{Name}
use Rattle.lp_lexer.specs.Forms.{is_word}
use Rattle.lp_lexer.proofs.Reading.{front-done, past-end}
use Rattle.lp_lexer.proofs.forms.read_name.Goals as goal

pub returns : goal.returns
returns c =
    let over = sym c.is_word.ensures ∙ c.letters-test.false in
    record {
      same_kind = ap Name (c.in_ok-from_vec.ensures ∙ front-done is_word c.code.result c.letters.cursor.left c.letters.letters.items _ c.code.ensures over c.letters.invariant.read);
      same_after = sym (past-end is_word c.letters.cursor.behind c.code.result c.letters.cursor.left c.code.ensures over) ∙ c.letters.invariant.left;
    }
