-- What `destruct` comes to.
use Rattle.std.proofs.Common.{◌≡◌, ◌∙◌, ◌++◌, ℕ, List, Some, None, refl, ap, sym, subst, map, pos}
use Rattle.std.proofs.lemmas.List.{append_assoc}
use Rattle.lp_values.specs.declared.id.ObjId.{ObjId}
use Rattle.lp_values.specs.declared.value.Value.{Value}
use Rattle.lp_values.specs.declared.value.Value.TheVariants as values
use Rattle.lp_cells.specs.Cells.{Store}
use Rattle.lp_ops.specs.Operands.{operand}
use Rattle.lp_instr.specs.declared.efun.Efun.TheVariants as efuns
use Rattle.lp_language.specs.Course.{State}
use Rattle.lp_language.specs.Operations.{with_world}
use Rattle.lp_meaning.specs.Askers.{told}
use Rattle.lp_meaning.specs.EfunArguments.{object_arg}
use Rattle.lp_meaning.specs.WorldEfuns.{Yields, deed, of_live, zero}
use Rattle.lp_meaning.specs.WorldSteps.{destructed, destruction}
use Rattle.lp_world.specs.Rows.{live_in}
use Rattle.lp_world.specs.declared.live.Live.{Live}
use Rattle.lp_efuns.specs.declared.answer.Did.TheVariants as did
use Rattle.lp_efuns.specs.declared.caller.Caller.{Caller}
use Rattle.lp_efuns.specs.declared.caller.Turn.{Turn}
use Rattle.lp_efuns.specs.Deeds.{Does, IsDone, deed_done}
use Rattle.lp_efuns.specs.Turns.{At, Setting}
use Rattle.lp_efuns.proofs.Looking.{object_same}
use Rattle.lp_destructing.specs.Ends.{EndsObject}

-- the object ended in the state and in the world
at_end : (g : Setting) (old new : Live) (turn : Turn) (b : ℕ) (s : State) (o : ObjId) → EndsObject o old new → At g old turn b s → At g new turn b (told (destruction s.world o) (with_world s (destructed s.world o)))
at_end g old new turn b s o e h =
    let d = e g.told g.programs s.world h.stands in
    record {
      stands = d.0;
      left = h.left;
      outputs = d.1 ∙ ap (λ os. os ++ destruction s.world o) h.outputs ∙ append_assoc g.before s.outputs (destruction s.world o);
      player = h.player;
      commands = h.commands;
    }

pub destruct_does : (caller : Caller) (vs : List Value) (old new : Live) (turn : Turn) (o : ObjId) → ((cells : Store) → Some o ≡ object_arg (map (operand (live_in old.objects) cells) vs) 0) → EndsObject o old new
    → Does efuns.Destruct caller vs old turn (did.Value (values.Int (pos 0))) new turn
unfolding deed
destruct_does caller vs old new turn o f e g b c s sc h =
    subst (λ d. IsDone (did.Value (values.Int (pos 0))) (At g new turn b) (deed_done d s))
    (sym (ap (λ o. of_live o s (λ o. Yields zero (told (destruction s.world o) (with_world s (destructed s.world o))))) (object_same g old turn b s vs 0 (Some o) h f)))
    (refl, at_end g old new turn b s o e h)

pub nothing_ends : (caller : Caller) (vs : List Value) (live : Live) (turn : Turn) → ((cells : Store) → None ≡ object_arg (map (operand (live_in live.objects) cells) vs) 0)
    → Does efuns.Destruct caller vs live turn (did.Value (values.Int (pos 0))) live turn
unfolding deed
nothing_ends caller vs live turn f g b c s sc h =
    subst (λ d. IsDone (did.Value (values.Int (pos 0))) (At g live turn b) (deed_done d s))
    (sym (ap (λ o. of_live o s (λ o. Yields zero (told (destruction s.world o) (with_world s (destructed s.world o))))) (object_same g live turn b s vs 0 None h f)))
    (refl, h)
