-- The arguments of a use, as far as they were read.
use Rattle.std.specs.Prelude.{ℕ, List}
use Rattle.lp_preproc.specs.declared.word.Word.{Word}
use Rattle.lp_preproc.specs.declared.state.Use.{Use}

-- the use, how many parentheses are open within the present argument, the arguments that are whole, and the words of the present one
pub record Arguments : Type 0 where
  pub usage : Use
  pub nested : ℕ
  pub whole : List (List Word)
  pub current : List Word
