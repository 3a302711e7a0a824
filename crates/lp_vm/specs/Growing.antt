-- Loads put programs behind those that were there.
use Rattle.std.specs.Prelude.{◌≡◌, ◌++◌, List}
use Rattle.lp_code.specs.declared.program.RawProgram.{RawProgram}

-- Programs that are there stay at their numbers; more may stand behind them.
abbrev pub Grows : List RawProgram → List RawProgram → Type 0
Grows old new = (more : List RawProgram) × (new ≡ old ++ more)
