-- Arrays and mappings that are spelled out, of the topmost values.
use Rattle.std.specs.Prelude.{◌≡◌, ◌++◌, ◌∷◌, [], ℕ, List, Option, Bool, All, length}
use Rattle.lp_values.specs.Read.{as_read}
use Rattle.lp_values.specs.declared.id.ObjId.{ObjId}
use Rattle.lp_values.specs.declared.value.Value.{Value}
use Rattle.lp_cells.specs.Cells.{IsThere, Store}
use Rattle.lp_cells.specs.Mapping.{pairs_of}
use Rattle.lp_ops.specs.Effects.{within}
use Rattle.lp_ops.specs.Operators.{array, mapping}
use Rattle.lp_ops.specs.Prices.{literal_after, literal_before}
use Rattle.lp_ops.specs.declared.effect.Effect.{Effect}
use Rattle.lp_world.specs.declared.objects.Object.{Object}
use Rattle.lp_world.specs.Rows.{live_in}
use Rattle.lp_step.specs.declared.worked.Worked.{Worked}
use Rattle.lp_step.specs.Works.{Works}

-- keys, which are read, and values by turns
abbrev pub by_turns : (ObjId → Bool) → List Value → List (Value × Value)
by_turns live [] = []
by_turns live (k ∷ []) = []
by_turns live (k ∷ v ∷ vs) = (as_read live k, v) ∷ by_turns live vs

-- what a literal makes of its parts
abbrev pub array_of : (ObjId → Bool) → List Value → Effect
array_of live xs = within (array xs)

abbrev pub mapping_of : (ObjId → Bool) → List Value → Effect
mapping_of live xs = within (mapping (pairs_of (by_turns live xs)))

-- a literal of the n topmost values, with its prices
abbrev pub SpellsOn : ((ObjId → Bool) → List Value → Effect) → ℕ → List Value → List Value → List (Option Object) → Store → ℕ → Worked → Store → ℕ → Type 0
SpellsOn make n old new objects cells budget0 d cells1 budget1 = (xs : List Value) × (old ≡ new ++ xs) × (length xs ≡ n) × All (IsThere cells) xs
    × Works (literal_before (live_in objects) cells xs) (make (live_in objects) xs) (literal_after (live_in objects) cells (make (live_in objects) xs)) cells budget0 d cells1 budget1
