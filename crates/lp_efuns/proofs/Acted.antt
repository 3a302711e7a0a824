-- What efuns come to, on the live state and in the meaning.
use Rattle.std.proofs.Common.{◌≡◌, ℕ, Bool, true, List, Option, Result, Ok, Err, IfOk, refl, ap, sym, subst, length, All}
use Rattle.lp_values.specs.declared.value.Value.{Value}
use Rattle.lp_cells.specs.Cells.{IsThere, Store, with_cell}
use Rattle.lp_ops.specs.declared.effect.Effect.{Effect}
use Rattle.lp_ops.specs.declared.effect.Effect.TheVariants as effects
use Rattle.lp_ops.specs.declared.fault.OpFault.TheVariants as faults
use Rattle.lp_ops.specs.Effects.{Meets, reference}
use Rattle.lp_instr.specs.declared.efun.Efun.{Efun}
use Rattle.lp_language.specs.World.{World, with_cells}
use Rattle.lp_language.specs.Course.{State}
use Rattle.lp_language.specs.Operations.{cells_of, living, with_store, with_world}
use Rattle.lp_meaning.specs.EfunArguments.{opened_args}
use Rattle.lp_meaning.specs.ComputingEfuns.{computes, name_in}
use Rattle.lp_meaning.specs.Questions.{Computes, OfWorld, group}
use Rattle.lp_values.specs.declared.id.ObjId.{ObjId}
use Rattle.lp_world.specs.Closed.{IsClosed}
use Rattle.lp_world.specs.Rows.{live_in}
use Rattle.lp_world.specs.Stands.{Stands}
use Rattle.lp_world.specs.declared.live.Live.{Live}
use Rattle.lp_world.proofs.Keeping.{live_same, stands_with_cell}
use Rattle.lp_efuns.specs.declared.answer.EfunFault.{EfunFault}
use Rattle.lp_efuns.specs.declared.answer.Did.{Did}
use Rattle.lp_efuns.specs.declared.answer.Did.TheVariants as did
use Rattle.lp_efuns.specs.declared.caller.Caller.{Caller}
use Rattle.lp_efuns.specs.declared.caller.Turn.{Turn}
use Rattle.lp_efuns.specs.Deeds.{CarriesOut, Does, Gave, IsDone, Looks, Refused, bounded, deed_done, effect_done, group_done}
use Rattle.lp_efuns.specs.Names.{name_at}
use Rattle.lp_efuns.specs.Turns.{At, Setting}
use Rattle.lp_efuns.proofs.KnownNames.{name_known}
use Rattle.lp_efuns.proofs.Parted.{computes_same}

-- another world, for which the state with other cells stands
pub at_cells : (g : Setting) (live : Live) (part : Store) (turn : Turn) (b : ℕ) (s : State) (w : World) → At g live turn b s → Stands g.told g.programs (record live { cells = part }) w
    → At g (record live { cells = part }) turn b (with_world s w)
at_cells g live part turn b s w h st = record { stands = st; left = h.left; outputs = h.outputs; player = h.player; commands = h.commands }

-- an effect on the cells of the state is that of the world
pub effect_at : (g : Setting) (live : Live) (turn : Turn) (b : ℕ) (s : State) (e : Effect) (d : Did) (part : Store) → At g live turn b s → CarriesOut e live.cells d part
    → IsDone d (At g (record live { cells = part }) turn b) (effect_done e s)
effect_at g live turn b s (effects.Gives v) d part h c =
    subst (λ d. IsDone d (At g (record live { cells = part }) turn b) (Gave v s)) (sym c.0) (refl, subst (λ k. At g (record live { cells = k }) turn b s) (sym c.1) h)
effect_at g live turn b s (effects.Makes x) d part h c =
    let made : World = with_cells s.world (with_cell s.world.cells x) in
    subst (λ d. IsDone d (At g (record live { cells = part }) turn b) (Gave (reference x (length s.world.cells)) (with_world s made))) (sym c.0) (
      ap (λ n. reference x n) (sym h.stands.cells.next),
      subst (λ k. At g (record live { cells = k }) turn b (with_world s made)) (sym c.1) (at_cells g live (with_cell live.cells x) turn b s made h (stands_with_cell g.told g.programs live s.world x h.stands)),
    )
effect_at g live turn b s (effects.Fault e) d part h c =
    subst (λ d. IsDone d (At g (record live { cells = part }) turn b) (Refused e s)) (sym c.0) (refl, subst (λ k. At g (record live { cells = k }) turn b s) (sym c.1) h)

-- what operations on cells answer
pub met_value : (e : Effect) (old new : Store) (v : Value) → Meets e old new (Ok v) → CarriesOut e old (did.Value v) new
met_value (effects.Gives w) old new v m = (ap did.Value m.0, m.1)
met_value (effects.Makes x) old new v m = (ap did.Value m.0, m.1)
met_value (effects.Fault e) old new v m = absurd m

pub met_error : (e : Effect) (old new : Store) (x : _) → Meets e old new (Err (faults.Run x)) → CarriesOut e old (did.Error x) new
met_error e old new x m = subst (λ e. CarriesOut e old (did.Error x) new) (sym m.0) (refl, m.1)

-- an efun that computes
pub computing_does : (e : Efun) (caller : Caller) (vs : List Value) (live : Live) (turn : Turn) (d : Did) (part : Store) → group e ≡ Computes → IsClosed live → All (IsThere live.cells) vs
    → ((s : State) → living s ≡ live_in live.objects → ((o : ObjId) → live_in live.objects o ≡ true → name_in s.world o ≡ name_at live.names o) → cells_of s ≡ live.cells → CarriesOut (computes e s vs (opened_args s vs)) live.cells d part)
    → Does e caller vs live turn d (record live { cells = part }) turn
computing_does e caller vs live turn d part is closed there carries g b c s sc h =
    subst (λ k. IsDone d (At g (record live { cells = part }) turn b) (group_done k e c s vs)) (sym is)
    (effect_at g live turn b s (computes e s vs (opened_args s vs)) d part h
    (subst (λ x. CarriesOut x live.cells d part) (computes_same e s live.cells vs h.stands.cells closed.cells there)
    (carries (with_store s live.cells) (sym (live_same g.told g.programs live s.world h.stands)) (name_known g.told g.programs live s.world h.stands) refl)))

-- an efun that looks at the world alone
pub looking_does : (e : Efun) (caller : Caller) (vs : List Value) (live : Live) (turn : Turn) (x : Effect) (d : Did) (part : Store) → group e ≡ OfWorld
    → Looks e caller vs live turn x → CarriesOut (bounded x) live.cells d part → Does e caller vs live turn d (record live { cells = part }) turn
looking_does e caller vs live turn x d part is looks carries g b c s sc h =
    subst (λ k. IsDone d (At g (record live { cells = part }) turn b) (group_done k e c s vs)) (sym is)
    (subst (λ y. IsDone d (At g (record live { cells = part }) turn b) (deed_done y s)) (sym (looks g b c s sc h)) (effect_at g live turn b s (bounded x) d part h carries))

-- what is computed in each state, where it is
pub computed_ok : (r : Result Did EfunFault) (l : ObjId → Bool) (name : ObjId → Option (List ℕ)) (old new : Store) (e : Efun) (vs : List Value)
    → ((s : State) → living s ≡ l → ((o : ObjId) → l o ≡ true → name_in s.world o ≡ name o) → cells_of s ≡ old → IfOk r (λ d. CarriesOut (computes e s vs (opened_args s vs)) old d new))
    → IfOk r (λ d. (s : State) → living s ≡ l → ((o : ObjId) → l o ≡ true → name_in s.world o ≡ name o) → cells_of s ≡ old → CarriesOut (computes e s vs (opened_args s vs)) old d new)
computed_ok (Ok d) l name old new e vs f = f
computed_ok (Err x) l name old new e vs f = tt
