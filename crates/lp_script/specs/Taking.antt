-- What taking an input answers.
use Rattle.std.specs.Prelude.{Bool, true, false, Result, Ok, Err}
use Rattle.lp_script.specs.declared.taking.TakeFault.{TakeFault}
use Rattle.lp_script.specs.declared.taking.TakeFault.TheVariants.{NoMemory, Broken}

-- a read failed
abbrev pub is_broken : Result (Unit {0}) TakeFault → Bool
is_broken (Ok u) = false
is_broken (Err NoMemory) = false
is_broken (Err Broken) = true
