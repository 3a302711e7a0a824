-- States of the meaning, after programs came into memory.
use Rattle.std.proofs.Common.{◌≡◌, ◌∙◌, ℕ, List, Some, None, refl, ap, sym, subst}
use Rattle.lp_values.specs.declared.id.ObjId.{ObjId}
use Rattle.lp_values.specs.declared.value.Value.{Value}
use Rattle.lp_values.specs.Errors.{bad_arg}
use Rattle.lp_ops.specs.declared.effect.Effect.TheVariants.{Gives as GivesValue}
use Rattle.lp_instr.specs.declared.efun.Efun.TheVariants as efuns
use Rattle.lp_instr.specs.EfunList.{efun_name}
use Rattle.lp_language.specs.Course.{Scene, State}
use Rattle.lp_language.specs.Resolve.{function_of}
use Rattle.lp_meaning.specs.EfunArguments.{opened_args, text_arg}
use Rattle.lp_meaning.specs.WorldEfuns.{Yields, deed, function_program, object_or_this, of_object}
use Rattle.lp_world.specs.declared.live.Live.{Live}
use Rattle.lp_world.specs.Stands.{Stands}
use Rattle.lp_targets.specs.Brought.{StaysInMemory}
use Rattle.lp_efuns.specs.declared.answer.Did.TheVariants as did
use Rattle.lp_efuns.specs.declared.caller.Turn.{Turn}
use Rattle.lp_efuns.specs.Deeds.{IsDone, deed_done, efun_done}
use Rattle.lp_efuns.specs.Turns.{At, Setting}

-- the state stands for where the meaning is still
pub at_after : (g : Setting) (live0 live1 : Live) (turn : Turn) (b : ℕ) (s : State) → StaysInMemory live0 live1 → Stands g.told g.programs live1 s.world → At g live0 turn b s → At g live1 turn b s
at_after g live0 live1 turn b s m k h = record { stands = k; left = h.left; outputs = ap (λ (l : Live). l.outputs) m.others ∙ h.outputs; player = h.player; commands = h.commands }

-- the value of the object that the efun is about
pub done_value : (P : State → Type 0) (c : Scene) (s : State) (vs : List Value) (o : ObjId) (name : List ℕ) (v : Value)
    → object_or_this c s (opened_args s vs) 1 ≡ Some o → name ≡ text_arg (opened_args s vs) 0 → function_program s.world o (function_of s.world o name) ≡ GivesValue v → P s
    → IsDone (did.Value v) P (efun_done efuns.FunctionExists c s vs)
unfolding deed
done_value P c s vs o name v q n e p =
    subst (λ x. IsDone (did.Value v) P (deed_done x s))
    (sym (ap (λ z. of_object efuns.FunctionExists 2 z s (λ o. Yields (function_program s.world o (function_of s.world o (text_arg (opened_args s vs) 0))) s)) q
    ∙ ap (λ t. Yields (function_program s.world o (function_of s.world o t)) s) (sym n)
    ∙ ap (λ x. Yields x s) e)) (refl, p)

-- or its refusal
pub done_refused : (P : State → Type 0) (c : Scene) (s : State) (vs : List Value) → object_or_this c s (opened_args s vs) 1 ≡ None → P s
    → IsDone (did.Error (bad_arg 2 (efun_name efuns.FunctionExists))) P (efun_done efuns.FunctionExists c s vs)
unfolding deed
done_refused P c s vs q p =
    subst (λ x. IsDone (did.Error (bad_arg 2 (efun_name efuns.FunctionExists))) P (deed_done x s))
    (sym (ap (λ z. of_object efuns.FunctionExists 2 z s (λ o. Yields (function_program s.world o (function_of s.world o (text_arg (opened_args s vs) 0))) s)) q)) (refl, p)
