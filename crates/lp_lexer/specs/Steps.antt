-- What the lexer's functions do.
use Rattle.std.specs.Prelude.{◌≡◌, ℕ, ◌<◌, [], true, false, length}
use Rattle.lp_tree.specs.declared.token.TokenKind.{TokenKind}
use Rattle.lp_lexer.specs.declared.forms.TextStep.{TextStep}
use Rattle.lp_lexer.specs.declared.forms.TextStep.TheVariants as step
use Rattle.lp_lexer.specs.Source.{Rest}
use Rattle.lp_lexer.specs.Forms.{Read, letters_of, with_letter}

-- the least integer that is too large
abbrev pub too_large : ℕ
too_large = 9223372036854775808

-- a form gave this kind and left this
pub record IsRead (form : Read) (kind : TokenKind) (after : Rest) : Type 0 where
  pub same_kind : kind ≡ form.kind
  pub same_after : after ≡ form.after

-- what comes next in a text, and what is left then
abbrev pub IsTextStep : Rest → TextStep → Rest → Type 0
IsTextStep old (step.Letter c) new =
    (letters_of 0 old.behind old.left ≡ with_letter c (letters_of 0 new.behind new.left)) × (length new.left < length old.left)
IsTextStep old step.Close new = letters_of 0 old.behind old.left ≡ record { letters = []; closed = true; after = new }
IsTextStep old step.LineEnd new = letters_of 0 old.behind old.left ≡ record { letters = []; closed = false; after = new }
