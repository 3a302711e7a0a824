use Rattle.std.proofs.Common.{◌≡◌, chars, IsUtf8}
use Rattle.std.specs.Str.Iter.{chars_rest}
use Rattle.lp_meaning.specs.WorldSteps.{is_clone_name}
use Rattle.lp_cloning.proofs.naming.is_clone_name.Given as goal

abbrev pub invariant-loop-c : goal.invariant-loop-c
invariant-loop-c l = IsUtf8 (chars_rest l.rest) × (is_clone_name (chars (chars_rest l.rest)) ≡ is_clone_name (chars l.name))
