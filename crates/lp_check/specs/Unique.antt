-- That there is one report.
use Rattle.std.specs.Prelude.{◌≡◌, ℕ, List, Option}
use Rattle.lp_preproc.specs.Expansion.{LeadsTo, Outcome}
use Rattle.lp_preproc.specs.State.{Setting, Next}
use Rattle.lp_check.specs.Report.{IsReport}

-- what is next leads to one outcome at most
abbrev pub OneOutcome : Type 0
OneOutcome = (c : Setting) (n : Next) (o p : Outcome) → LeadsTo c n o → LeadsTo c n p → o ≡ p

-- the files of a script, and the path that was given, have one report at most
abbrev pub OneReport : Type 0
OneReport = (simul : Option (List ℕ)) (files : List (List ℕ × List ℕ)) (a b : List ℕ) → IsReport simul files a → IsReport simul files b → a ≡ b
