-- What an operator answers, and what it does to the cells.
use Rattle.std.specs.Prelude.{◌≡◌, ⊤, ℕ, if◌then◌else◌, nat_lt, length, Result, Ok, Err}
use Rattle.lp_values.specs.Errors.{plain}
use Rattle.lp_values.specs.declared.error.ErrorKind.{ErrorKind}
use Rattle.lp_values.specs.declared.error.ErrorKind.TheVariants.{TooLong, TextTooLong}
use Rattle.lp_values.specs.declared.value.Value.{Value}
use Rattle.lp_values.specs.declared.value.Value.TheVariants.{Int, Str, Arr, Map, Obj}
use Rattle.lp_cells.specs.Cells.{AreThere, IsThere, Store, with_cell}
use Rattle.lp_cells.specs.declared.content.Content.{Content}
use Rattle.lp_cells.specs.declared.content.Content.TheVariants.{Array, Mapping}
use Rattle.lp_ops.specs.declared.effect.Effect.{Effect}
use Rattle.lp_ops.specs.declared.effect.Effect.TheVariants.{Gives, Makes, Fault}
use Rattle.lp_ops.specs.declared.fault.OpFault.{OpFault}
use Rattle.lp_ops.specs.declared.fault.OpFault.TheVariants.{NoMemory, Run}
use Rattle.lp_values.specs.Limits.{max_code_points, max_items}

-- a refusal of this kind
abbrev pub refused : ErrorKind → Effect
refused k = Fault (plain k)

-- results too long are errors: texts above 100000 code points, arrays and mappings above 10000
abbrev pub within_value : Value → Effect
within_value (Int n) = Gives (Int n)
within_value (Str s) = if nat_lt max_code_points (length s) then refused TextTooLong else Gives (Str s)
within_value (Arr c) = Gives (Arr c)
within_value (Map c) = Gives (Map c)
within_value (Obj o) = Gives (Obj o)

abbrev pub within : Effect → Effect
within (Gives v) = within_value v
within (Makes (Array vs)) = if nat_lt max_items (length vs) then refused TooLong else Makes (Array vs)
within (Makes (Mapping ps)) = if nat_lt max_items (length ps) then refused TooLong else Makes (Mapping ps)
within (Fault e) = Fault e

-- the reference to a new cell of this content
abbrev pub reference : Content → ℕ → Value
reference (Array vs) n = Arr (record { 0 = n })
reference (Mapping ps) n = Map (record { 0 = n })

-- the value and the cells after an effect
abbrev pub Yields : Effect → Store → Store → Value → Type 0
Yields (Fault e) old new v = ⊥
Yields (Gives w) old new v = (v ≡ w) × (new ≡ old)
Yields (Makes x) old new v = (v ≡ reference x (length old)) × (new ≡ with_cell old x)

-- a call fails so: without memory, or with the effect's error
abbrev pub Refuses : Effect → OpFault → Type 0
Refuses effect NoMemory = ⊤
Refuses effect (Run e) = effect ≡ Fault e

-- a call that makes no cell answers so
abbrev pub Answers : Effect → Result Value OpFault → Type 0
Answers effect (Ok v) = effect ≡ Gives v
Answers effect (Err f) = Refuses effect f

-- a call answers so, with the cells before and after; on a refusal no cell changes
abbrev pub Meets : Effect → Store → Store → Result Value OpFault → Type 0
Meets effect old new (Ok v) = Yields effect old new v
Meets effect old new (Err f) = Refuses effect f × (new ≡ old)

-- what an effect gives or makes names what is there
abbrev pub IsEffectThere : Store → Effect → Type 0
IsEffectThere cells (Gives v) = IsThere cells v
IsEffectThere cells (Makes x) = AreThere cells x
IsEffectThere cells (Fault e) = ⊤
