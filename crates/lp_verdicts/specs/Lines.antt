-- The lines of a report.
use Rattle.std.specs.Prelude.{ℕ, List, ◌++◌, Bool, true, false, count_by, flat_map, codes}
use Rattle.std.specs.Fmt.{decimal}
use Rattle.std.specs.List.{list_all}
use Rattle.lp_verdicts.specs.declared.line.Line.{Line}
use Rattle.lp_verdicts.specs.declared.line.Line.TheVariants as lines
use Rattle.lp_verdicts.specs.declared.verdict.Verdict.{Verdict}
use Rattle.lp_verdicts.specs.declared.verdict.Verdict.TheVariants as verdicts

-- a verdict as a line has it
abbrev pub verdict_text : Verdict → List ℕ
verdict_text verdicts.Pass = codes "pass"
verdict_text verdicts.Fail = codes "fail"
verdict_text (verdicts.Error text) = codes "error " ++ text
verdict_text verdicts.Spent = codes "spent"

-- the file and the name of a test, each with a blank behind it
abbrev pub front_text : List ℕ → List ℕ → List ℕ
front_text path fun = path ++ codes " " ++ fun ++ codes " "

-- THE LINE of a test: `PATH FUN VERDICT`
abbrev pub line_text : List ℕ → List ℕ → Verdict → List ℕ
line_text path fun v = front_text path fun ++ verdict_text v ++ codes "\n"

-- the line of what is no test
abbrev pub missing_text : List ℕ → List ℕ → List ℕ
missing_text path fun = front_text path fun ++ codes "missing\n"

-- the line of a faulty file
abbrev pub faulty_text : List ℕ → List ℕ
faulty_text path = path ++ codes " faulty\n"

abbrev pub text_of : Line → List ℕ
text_of (lines.Faulty path) = faulty_text path
text_of (lines.Judged path fun v) = line_text path fun v

-- a verdict of a test that passed
abbrev pub is_passed : Verdict → Bool
is_passed verdicts.Pass = true
is_passed v = false

abbrev pub is_good : Line → Bool
is_good (lines.Faulty path) = false
is_good (lines.Judged path fun v) = is_passed v

abbrev pub is_test : Line → Bool
is_test (lines.Faulty path) = false
is_test (lines.Judged path fun v) = true

-- how many lines are of tests, and of tests that passed
abbrev pub tests_in : List Line → ℕ
tests_in ls = count_by is_test ls

abbrev pub passed_in : List Line → ℕ
passed_in ls = count_by is_good ls

-- the last line
abbrev pub counts_text : ℕ → ℕ → List ℕ
counts_text tests passed = decimal tests ++ codes " tests, " ++ decimal passed ++ codes " passed\n"

-- THE REPORT: the lines, and that of the counts
abbrev pub report : List Line → List ℕ
report ls = flat_map text_of ls ++ counts_text (tests_in ls) (passed_in ls)

-- each line is of a test that passed
abbrev pub is_clean : List Line → Bool
is_clean ls = list_all is_good ls
