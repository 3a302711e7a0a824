use Rattle.std.proofs.Common.{◌≡◌, drop}
use Rattle.lp_words.specs.Paths.{read}
use Rattle.lp_words.specs.declared.path.Progress.TheVariants.{Start}
use Rattle.lp_words.proofs.path.progress_after.Given as goal

-- what is left, read from here on, comes as far as the whole
abbrev pub invariant-loop-c : goal.invariant-loop-c
invariant-loop-c l = read l.progress (drop l.c-index l.word) ≡ read Start l.word
