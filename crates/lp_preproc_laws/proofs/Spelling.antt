-- Names of letters of ASCII.
use Rattle.std.proofs.Common.{◌≡◌, ◌<◌, ℕ, arith, List, [], ◌∷◌, true}
use Rattle.std.proofs.lemmas.Bool.Decides.{nat_tests}
use Rattle.std.specs.Str.{IsAscii}
use Rattle.std.proofs.lemmas.Str.Ascii.{IsAscii-nil, IsAscii-cons}
use Rattle.lp_lexer.specs.Forms.{is_letter, is_word}
use Rattle.lp_preproc_laws.specs.Names.{IsWord, IsName}

letter-small : (c : ℕ) → is_letter c ≡ true → c < 128
letter-small c h = grind (arith, nat_tests)

word-small : (c : ℕ) → is_word c ≡ true → c < 128
word-small c h = grind (arith, nat_tests)

word-ascii : (cs : List ℕ) → IsWord cs → IsAscii cs
word-ascii [] h = IsAscii-nil
word-ascii (c ∷ cs) h = IsAscii-cons c cs (word-small c h.0) (word-ascii cs h.1)

pub name_ascii : (cs : List ℕ) → IsName cs → IsAscii cs
name_ascii [] h = elim h [ ]
name_ascii (c ∷ cs) h = IsAscii-cons c cs (letter-small c h.0) (word-ascii cs h.1)
