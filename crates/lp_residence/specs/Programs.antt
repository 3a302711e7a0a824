-- Programs that come back: when one fits the versions that are there.
use Rattle.std.specs.Prelude.{◌≡◌, ℕ, List, [], ◌∷◌, Option, Some, None, Bool, ◌&&◌, nat_eq, if◌then◌else◌, ◌⊎◌}
use Rattle.lp_values.specs.declared.id.ProgId.{ProgId}
use Rattle.lp_code.specs.declared.tables.Slot.{Slot}
use Rattle.lp_instr.specs.declared.instr.Instr.{Instr}
use Rattle.lp_instr.specs.declared.instr.Instr.TheVariants.{CallFixed}
use Rattle.lp_world.specs.Closed.{IsRowThere}
use Rattle.lp_world.specs.Targets.{IsAmong}
use Rattle.lp_world.specs.declared.versions.Version.{Version}

-- how many functions a version has, and how many slots
abbrev pub functions_in : Option Version → ℕ
functions_in None = 0
functions_in (Some v) = v.outline.functions

abbrev pub slots_in : Option Version → ℕ
slots_in None = 0
slots_in (Some v) = v.outline.slots

-- a slot names a function that is there, where the parts have so many, or none
abbrev pub IsSlotAmong : List ℕ → Slot → Type 0
IsSlotAmong counts s = (s.fun ≡ 65535) ⊎ IsAmong counts s.part s.fun

-- a call of a parent's row finds it
abbrev pub IsCallThere : List (Option Version) → List ProgId → Instr → Type 0
IsCallThere versions parents i = (parent slot n : ℕ) → i ≡ CallFixed parent slot n → IsRowThere versions parents parent slot

-- the mark of a program, and what follows it
abbrev pub is_mark : ℕ → ℕ → ℕ → ℕ → Bool
is_mark a b c d = nat_eq a 76 && (nat_eq b 80 && (nat_eq c 80 && nat_eq d 49))

unfoldable pub behind_mark : List ℕ → Option (List ℕ)
behind_mark [] = None
behind_mark (a ∷ []) = None
behind_mark (a ∷ b ∷ []) = None
behind_mark (a ∷ b ∷ c ∷ []) = None
behind_mark (a ∷ b ∷ c ∷ d ∷ rest) = if is_mark a b c d then Some rest else None
