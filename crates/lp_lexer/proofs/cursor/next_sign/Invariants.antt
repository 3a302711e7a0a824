use Rattle.std.proofs.Common.{◌≡◌, length}
use Rattle.lp_lexer.specs.Source.{signs, IsWithin}
use Rattle.lp_lexer.proofs.cursor.next_sign.Given as goal

abbrev pub invariant-joined : goal.invariant-joined
invariant-joined l = record {
  same : signs l.at l.line l.characters ≡ signs l.initial.at l.initial.line l.initial.characters;
  within : IsWithin l.characters l.at l.line;
}

abbrev pub decreases-joined : goal.decreases-joined
decreases-joined l = length l.characters
