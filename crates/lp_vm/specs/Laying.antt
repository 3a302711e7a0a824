-- What lies below the arguments of a call that goes through `call_other`.
use Rattle.std.specs.Prelude.{◌≡◌, ◌+◌, ◌-◌, ◌<◌, ◌++◌, ⊤, ℕ, List, ◌∷◌, Some, drop, length, slice_get, take}
use Rattle.lp_values.specs.declared.value.Value.{Value}
use Rattle.lp_values.specs.declared.value.Value.TheVariants.{Str}
use Rattle.lp_code.specs.declared.program.RawProgram.{RawProgram}
use Rattle.lp_language.specs.Eval.{name_or_zero}
use Rattle.lp_world.specs.declared.live.Live.{Live}
use Rattle.lp_step.specs.declared.next.Target.{Target}
use Rattle.lp_step.specs.declared.next.Target.TheVariants as targets

-- the program has the text that names a simul efun
abbrev pub HasText : Target → RawProgram → Type 0
HasText (targets.Slot k) p = ⊤
HasText (targets.Fixed j k) p = ⊤
HasText targets.Other p = ⊤
HasText (targets.Simul k) p = k < length p.consts

-- Of so many arguments on top it comes to so many, with what else the call takes below them.
abbrev pub Lays : Target → RawProgram → Live → ℕ → List Value → ℕ → List Value → Type 0
Lays (targets.Slot k) p live n stack0 n1 stack1 = (n1 ≡ n) × (stack1 ≡ stack0)
Lays (targets.Fixed j k) p live n stack0 n1 stack1 = (n1 ≡ n) × (stack1 ≡ stack0)
Lays targets.Other p live n stack0 n1 stack1 = (n1 ≡ n + 2) × (stack1 ≡ stack0)
Lays (targets.Simul k) p live n stack0 n1 stack1 =
    (n1 ≡ n + 2)
    × ((name : List ℕ) → slice_get p.consts k ≡ Some name → stack1 ≡ take (length stack0 - n) stack0 ++ name_or_zero live.simul ∷ Str name ∷ drop (length stack0 - n) stack0)
