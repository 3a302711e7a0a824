use Rattle.std.proofs.Common.{◌≡◌, ◌∷◌, ◌++◌, take}
use Rattle.std.specs.List.{flat_map}
use Rattle.lp_save.specs.SaveText.{saved_point}
use Rattle.lp_save.proofs.spell.add_quoted.Given as goal

abbrev pub invariant-loop-c : goal.invariant-loop-c
invariant-loop-c l = record {
  text : l.speller.text.items ≡ l.fn.speller.text.items ++ 34 ∷ flat_map saved_point (take l.c-index l.text);
  done : l.speller.done ≡ l.fn.speller.done;
}
