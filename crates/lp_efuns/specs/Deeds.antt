-- What an efun comes to before the price of its result is paid, in the meaning and on the live state.
use Rattle.std.specs.Prelude.{◌≡◌, ℕ, List, length}
use Rattle.lp_values.specs.declared.error.RunError.{RunError}
use Rattle.lp_values.specs.declared.value.Value.{Value}
use Rattle.lp_values.specs.declared.id.CellId.{CellId}
use Rattle.lp_values.specs.declared.id.ObjId.{ObjId}
use Rattle.lp_cells.specs.Cells.{Store, content_set, stored_pairs, with_cell}
use Rattle.lp_cells.specs.Mapping.{pairs_dropped}
use Rattle.lp_cells.specs.declared.content.Content.TheVariants.{Mapping}
use Rattle.lp_world.specs.Rows.{live_in}
use Rattle.lp_ops.specs.declared.effect.Effect.{Effect}
use Rattle.lp_ops.specs.declared.effect.Effect.TheVariants.{Gives, Makes, Fault}
use Rattle.lp_ops.specs.Effects.{reference, within}
use Rattle.lp_instr.specs.declared.efun.Efun.{Efun}
use Rattle.lp_language.specs.Course.{Scene, State, zero_value}
use Rattle.lp_language.specs.Operations.{cells_of, with_store}
use Rattle.lp_meaning.specs.EfunArguments.{opened_args}
use Rattle.lp_meaning.specs.ComputingEfuns.{computes}
use Rattle.lp_meaning.specs.WorldEfuns.{Deed, Yields, Throws, deed, exec}
use Rattle.lp_meaning.specs.Questions.{Group, Computes, OfWorld, Calls, OfFiles, group}
use Rattle.lp_world.specs.declared.live.Live.{Live}
use Rattle.lp_efuns.specs.declared.answer.Did.{Did}
use Rattle.lp_efuns.specs.declared.answer.Did.TheVariants as did
use Rattle.lp_efuns.specs.declared.caller.Caller.{Caller}
use Rattle.lp_efuns.specs.declared.caller.Turn.{Turn}
use Rattle.lp_efuns.specs.Turns.{At, IsScene, Setting}

-- a value, with the state in which its cell is made; an error; or a throw
pub data Done : Type 0 where
  Gave : Value → State → Done
  Refused : RunError → State → Done
  Threw : Value → State → Done

-- what an effect comes to
abbrev pub effect_done : Effect → State → Done
effect_done (Gives v) s = Gave v s
effect_done (Makes x) s = Gave (reference x (length (cells_of s))) (with_store s (with_cell (cells_of s) x))
effect_done (Fault e) s = Refused e s

-- and a deed, in the state in which the efun was called
abbrev pub deed_done : Deed → State → Done
deed_done (Yields e t) s = effect_done e t
deed_done (Throws v) s = Threw v s

-- what an efun of a group comes to, for these arguments
abbrev pub group_done : Group → Efun → Scene → State → List Value → Done
group_done Computes e c s vs = effect_done (computes e s vs (opened_args s vs)) s
group_done OfWorld e c s vs = deed_done (deed e c s vs (opened_args s vs)) s
group_done Calls e c s vs = Gave zero_value s
group_done OfFiles e c s vs = Gave zero_value s

-- the same for an efun
abbrev pub efun_done : Efun → Scene → State → List Value → Done
efun_done e c s vs = group_done (group e) e c s vs

-- the live state came to this, in a state of which something holds
abbrev pub IsDone : Did → (State → Type 0) → Done → Type 0
IsDone (did.Value v) P (Gave w t) = (w ≡ v) × P t
IsDone (did.Error e) P (Refused f t) = (f ≡ e) × P t
IsDone (did.Thrown v) P (Threw w t) = (w ≡ v) × P t
IsDone _ P _ = ⊥

-- An efun does what it means: from each state for which the live state stands it comes to one for which that stands afterwards.
abbrev pub Does : Efun → Caller → List Value → Live → Turn → Did → Live → Turn → Type 0
Does e caller vs live0 turn0 d live1 turn1 =
    (g : Setting) (budget : ℕ) (c : Scene) (s : State) → IsScene caller c → At g live0 turn0 budget s → IsDone d (At g live1 turn1 budget) (efun_done e c s vs)

-- a new array or mapping that is too long is an error
abbrev pub bounded : Effect → Effect
bounded (Gives v) = Gives v
bounded (Makes x) = within (Makes x)
bounded (Fault e) = Fault e

-- an efun looks at the world alone, and has this effect
abbrev pub Looks : Efun → Caller → List Value → Live → Turn → Effect → Type 0
Looks e caller vs live turn effect =
    (g : Setting) (budget : ℕ) (c : Scene) (s : State) → IsScene caller c → At g live turn budget s → deed e c s vs (opened_args s vs) ≡ Yields (bounded effect) s

-- what an effect does to the cells of the state
abbrev pub CarriesOut : Effect → Store → Did → Store → Type 0
CarriesOut (Gives v) old d new = (d ≡ did.Value v) × (new ≡ old)
CarriesOut (Makes x) old d new = (d ≡ did.Value (reference x (length old))) × (new ≡ with_cell old x)
CarriesOut (Fault e) old d new = (d ≡ did.Error e) × (new ≡ old)

-- a key of a mapping is dropped in the cells of the state, and nothing else changes
abbrev pub HasDropped : Live → CellId → Value → Live → Type 0
HasDropped live0 c k live1 = live1 ≡ record live0 { cells = content_set live0.cells c (Mapping (pairs_dropped (live_in live0.objects) (stored_pairs live0.cells c) k)) }

-- the connection of the second object goes to the first, as `exec` means it
abbrev pub HandsOver : ObjId → ObjId → Live → Did → Live → Type 0
HandsOver to from live0 d live1 =
    (g : Setting) (turn : Turn) (budget : ℕ) (s : State) → At g live0 turn budget s → IsDone d (At g live1 turn budget) (deed_done (exec to from s) s)
