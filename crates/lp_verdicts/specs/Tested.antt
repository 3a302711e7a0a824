-- What is told of the tests of a script.
use Rattle.std.specs.Prelude.{◌≡◌, ⊤, ℕ, List, [], ◌∷◌, Option}
use Rattle.lp_events.specs.declared.item.Item.{Item}
use Rattle.lp_events.specs.Script.{files_of}
use Rattle.lp_suite.specs.Suite.{IsSuite}
use Rattle.lp_suite.specs.declared.suite.Entry.{Entry}
use Rattle.lp_suite.specs.declared.suite.Entry.TheVariants as entries
use Rattle.lp_verdicts.specs.declared.line.Line.{Line}
use Rattle.lp_verdicts.specs.declared.line.Line.TheVariants as lines
use Rattle.lp_verdicts.specs.Verdicts.{HasSimul, HasVerdict}

-- the line of an entry: of a test its verdict
abbrev pub IsLine : List Item → Entry → Line → Type 0
IsLine xs (entries.Faulty path) (lines.Faulty p) = p ≡ path
IsLine xs (entries.Faulty path) (lines.Judged p f v) = ⊥
IsLine xs (entries.Test path fun) (lines.Faulty p) = ⊥
IsLine xs (entries.Test path fun) (lines.Judged p f v) = (p ≡ path) × (f ≡ fun) × HasVerdict xs path fun v

-- one line for each entry, in order
abbrev pub AreLines : List Item → List Entry → List Line → Type 0
AreLines xs [] [] = ⊤
AreLines xs [] (l ∷ ls) = ⊥
AreLines xs (e ∷ es) [] = ⊥
AreLines xs (e ∷ es) (l ∷ ls) = IsLine xs e l × AreLines xs es ls

-- what is to be told of the files of a script: what a check of them finds, with the file of the simul-efun object of the world of the start
pub record IsSuiteOf (xs : List Item) (es : List Entry) : Type 0 where
  pub simul : Option (List ℕ)
  pub has : HasSimul xs simul
  pub suite : IsSuite simul (files_of xs) es

-- THE LINES of the tests of a script, in the order of its files
pub record AreLinesOf (xs : List Item) (ls : List Line) : Type 0 where
  pub told : List Entry
  pub suite : IsSuiteOf xs told
  pub each : AreLines xs told ls
