-- Small files.
use Rattle.std.proofs.Common.{◌≡◌, List, [], ◌∷◌, true, false, codes, take, refl, inl, inr, arith}
use Rattle.std.specs.Char.{encode_utf8}
use Rattle.std.specs.Str.{chars, is_utf8}
use Rattle.std.specs.Str.Lossy.{utf8_valid_len}
use Rattle.lp_lexer.specs.Source.{characters}
use Rattle.lp_tree.specs.declared.fault.FaultKind.TheVariants.{NoFile, NomaskOverridden, Unexpected}
use Rattle.lp_tree.specs.declared.keyword.Modifier.TheVariants.{Nomask}
use Rattle.lp_tree.specs.Units.{Inherit, by_inherit, inherit, item, no_item}
use Rattle.std.specs.Prelude.{unwrap_or}
use Rattle.lp_tree.specs.declared.token.Token.{Token}
use Rattle.lp_tree.specs.declared.token.TokenKind.{TokenKind}
use Rattle.lp_tree.specs.declared.token.TokenKind.TheVariants.{Name, Text, Mark}
use Rattle.lp_tree.specs.declared.token.Mark.TheVariants.{OpenBrace, OpenParen, Semicolon}
use Rattle.lp_lexer.specs.Lexis.{IsLexed, Place, ReachesEnd, here, more, next, begin as begin_of}
use Rattle.lp_preproc.specs.declared.word.Word.{Word}
use Rattle.lp_preproc.specs.Expansion.{IsExpansion, came_out_of, fails, goes, reads, ends}
use Rattle.lp_preproc.specs.State.{State, begin, no_pragmas}
use Rattle.lp_parser.specs.Machine.{State as Machine, start, walk}
use Rattle.lp_parser.specs.Stops.{Stands}
use Rattle.lp_parser.specs.Theorem.{SpellsOne, deepest, sight}
use Rattle.lp_parser.proofs.Main.{unexpected_at}
use Rattle.lp_meaning.specs.FrontEnd.{FrontEnd, Declares, HasFault}
use Rattle.lp_front_end.specs.Readings.{IsDeclared, IsFaultOf, setting_of}
use Rattle.lp_front_end.specs.FrontEnds.{IsFrontEnd}
use Rattle.lp_front_end.specs.Examples.{Examples, child, empty_file, first_version, broken_bytes, broken_file, function, inherit_bytes, inherit_file, with_parent}
use Rattle.lp_front_end.proofs.OneReading.{OneOutcome, one_reading}

no_file_there : IsFaultOf (setting_of [] (codes "/a.c")) (record { file = codes "/a.c"; line = 0; kind = NoFile })
unfolding encode_utf8
no_file_there = (refl, inl fails)

nothing_lexed : IsLexed [] []
unfolding characters chars utf8_valid_len is_utf8 encode_utf8
nothing_lexed = (([], (refl, refl)), (begin_of [], here, refl, refl))

nothing_expands : IsExpansion (setting_of empty_file (codes "/a.c")) [] no_pragmas
unfolding encode_utf8
nothing_expands = (begin, reads nothing_lexed (goes (goes ends)), refl, refl)

nothing_declared : IsDeclared (setting_of empty_file (codes "/a.c")) [] no_pragmas
nothing_declared = record { tokens = []; expands = nothing_expands; spelled = no_item; shallow = omega arith }

-- the tokens of `inherit "/n";`, one after the other
abbrev behind : Place → Place
behind p = unwrap_or (next p) p

abbrev the_tokens : List Token
the_tokens =
    record { kind = Name (codes "inherit"); line = 1; at = 0; len = 7; first = true }
    ∷ record { kind = Text (codes "/n"); line = 1; at = 8; len = 4; first = false }
    ∷ record { kind = Mark Semicolon; line = 1; at = 12; len = 1; first = false }
    ∷ []

inherit_reached : ReachesEnd (begin_of inherit_bytes) the_tokens
unfolding characters chars utf8_valid_len is_utf8 encode_utf8
inherit_reached =
    let a : Place = begin_of inherit_bytes in
    let b : Place = behind a in
    let c : Place = behind b in
    let d : Place = behind c in
    let e : Place = behind d in
    (e, more (more (more (more here refl) refl) refl) refl, refl, refl)

inherit_lexed : IsLexed inherit_bytes the_tokens
unfolding encode_utf8
inherit_lexed = ((inherit_bytes, (refl, refl)), inherit_reached)

-- what comes out of them
abbrev word : TokenKind → Word
word k = record { kind = k; line = 1; hidden = []; depth = 0 }

abbrev at_last : State
at_last = record begin { out = word (Mark Semicolon) ∷ word (Text (codes "/n")) ∷ word (Name (codes "inherit")) ∷ [] }

inherit_expands : IsExpansion (setting_of inherit_file (codes "/m.c")) (came_out_of at_last.out) no_pragmas
unfolding encode_utf8
inherit_expands = (at_last, reads inherit_lexed (goes (goes (goes (goes (goes ends))))), refl, refl)

inherit_declared : IsDeclared (setting_of inherit_file (codes "/m.c")) (Inherit 1 (codes "/n") ∷ []) no_pragmas
inherit_declared = record { tokens = came_out_of at_last.out; expands = inherit_expands; spelled = item inherit by_inherit no_item; shallow = omega arith }

-- `int logon( {`
abbrev broken_tokens : List Token
broken_tokens =
    record { kind = Name (codes "int"); line = 1; at = 0; len = 3; first = true }
    ∷ record { kind = Name (codes "logon"); line = 1; at = 4; len = 5; first = false }
    ∷ record { kind = Mark OpenParen; line = 1; at = 9; len = 1; first = false }
    ∷ record { kind = Mark OpenBrace; line = 1; at = 11; len = 1; first = false }
    ∷ []

broken_reached : ReachesEnd (begin_of broken_bytes) broken_tokens
unfolding characters chars utf8_valid_len is_utf8 encode_utf8
broken_reached =
    let a : Place = behind (behind (behind (begin_of broken_bytes))) in
    let b : Place = behind (behind (behind a)) in
    (b, more (more (more (more (more (more here refl) refl) refl) refl) refl) refl, refl, refl)

broken_lexed : IsLexed broken_bytes broken_tokens
unfolding encode_utf8
broken_lexed = ((broken_bytes, (refl, refl)), broken_reached)

abbrev broken_last : State
broken_last = record begin { out = word (Mark OpenBrace) ∷ word (Mark OpenParen) ∷ word (Name (codes "logon")) ∷ word (Name (codes "int")) ∷ [] }

broken_expands : IsExpansion (setting_of broken_file (codes "/p.c")) (came_out_of broken_last.out) no_pragmas
unfolding encode_utf8
broken_expands = (broken_last, reads broken_lexed (goes (goes (goes (goes (goes (goes ends)))))), refl, refl)

-- the grammar stands before the brace, and refuses it
abbrev before_brace : Machine
before_brace = unwrap_or (walk start (sight (take 3 (came_out_of broken_last.out)))) start

broken_stands : Stands deepest (came_out_of broken_last.out) 3 before_brace
broken_stands = record { within = omega arith; walked = refl; shallow = omega arith }

broken_refused : IsFaultOf (setting_of broken_file (codes "/p.c")) (record { file = codes "/p.c"; line = 1; kind = Unexpected })
unfolding encode_utf8
broken_refused = (
  refl,
  inr (record {
    tokens = came_out_of broken_last.out;
    pragmas = no_pragmas;
    expands = broken_expands;
    fault = (3, unexpected_at deepest (came_out_of broken_last.out) 3 before_brace broken_stands (omega arith) refl, refl);
  }),
)

module _ (law : OneOutcome) (grammar : SpellsOne) (front : FrontEnd) (is : IsFrontEnd front) where
  overridden : front.check with_parent (codes "/m.c") child no_pragmas first_version [] ≡ record { file = codes "/m.c"; line = 2; kind = NomaskOverridden } ∷ []
  unfolding encode_utf8
  overridden = is.checks with_parent (codes "/m.c") child no_pragmas first_version []

  alone : front.check with_parent (codes "/n.c") (function 1 (Nomask ∷ []) 1 ∷ []) no_pragmas [] [] ≡ []
  alone = is.checks with_parent (codes "/n.c") (function 1 (Nomask ∷ []) 1 ∷ []) no_pragmas [] []

  pub examples : Examples front
  examples = record {
    no_file = one_reading law grammar (setting_of [] (codes "/a.c")) (front.read [] (codes "/a.c")) (HasFault (record { file = codes "/a.c"; line = 0; kind = NoFile })) (is.reads [] (codes "/a.c")) no_file_there;
    empty = one_reading law grammar (setting_of empty_file (codes "/a.c")) (front.read empty_file (codes "/a.c")) (Declares [] no_pragmas) (is.reads empty_file (codes "/a.c")) nothing_declared;
    inherited = one_reading law grammar (setting_of inherit_file (codes "/m.c")) (front.read inherit_file (codes "/m.c")) (Declares (Inherit 1 (codes "/n") ∷ []) no_pragmas) (is.reads inherit_file (codes "/m.c")) inherit_declared;
    broken = one_reading law grammar (setting_of broken_file (codes "/p.c")) (front.read broken_file (codes "/p.c")) (HasFault (record { file = codes "/p.c"; line = 1; kind = Unexpected })) (is.reads broken_file (codes "/p.c")) broken_refused;
    alone = alone;
    overridden = overridden;
  }
