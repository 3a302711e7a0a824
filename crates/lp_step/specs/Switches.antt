-- Switches: a program's texts alone decide which label fits.
use Rattle.std.specs.Prelude.{ℕ, List, []}
use Rattle.lp_instr.specs.Code.{Code}

-- these texts, and no instructions
abbrev pub with_texts : List (List ℕ) → Code
with_texts texts = record { instrs = []; texts = texts; switches = []; rows = []; parents = [] }
