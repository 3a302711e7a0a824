-- Faults of a file, and the file as it was read.
use Rattle.std.specs.Prelude.{ℕ, List, ◌++◌, codes, decimal}
use Rattle.std.specs.Str.{chars}
use Rattle.lp_tree.specs.declared.fault.Fault.{Fault}
use Rattle.lp_tree.specs.FaultText.{text_of}

-- what the log record of a fault says
abbrev pub fault_text : Fault → List ℕ
fault_text f = chars f.file ++ codes " line " ++ decimal f.line ++ codes ": " ++ text_of f.kind
