-- Whole calls, over worlds whose programs fit.
use Rattle.std.proofs.Common.{◌≡◌, ◌∙◌, ℕ, Bool, true, List, Option, refl, ap, sym, subst}
use Rattle.lp_values.specs.declared.value.Value.{Value}
use Rattle.lp_code.specs.declared.program.RawProgram.{RawProgram}
use Rattle.lp_swapfile.specs.Device.{Bytes}
use Rattle.lp_instr.specs.declared.efun.Efun.{Efun}
use Rattle.lp_instr.specs.declared.efun.Efun.TheVariants as efuns
use Rattle.lp_object_efuns.specs.Exists.{DoesOver}
use Rattle.lp_language.specs.Course.{End, Over, Scene, State}
use Rattle.lp_language.specs.World.{World}
use Rattle.lp_meaning.specs.Askers.{Asker}
use Rattle.lp_meaning.specs.EfunArguments.{opened_args}
use Rattle.lp_meaning.specs.Questions.{OfWorld, efun_in, group}
use Rattle.lp_meaning.specs.WorldEfuns.{deed}
use Rattle.lp_world.specs.declared.live.Live.{Live}
use Rattle.lp_efuns.specs.declared.answer.Answer.{Answer}
use Rattle.lp_efuns.specs.declared.answer.Did.{Did}
use Rattle.lp_efuns.specs.declared.caller.Caller.{Caller}
use Rattle.lp_efuns.specs.declared.caller.Turn.{Turn}
use Rattle.lp_efuns.specs.Deeds.{Does, IsDone, deed_done, efun_done, group_done}
use Rattle.lp_efuns.specs.Plain.{CallsEfun, IsEnd}
use Rattle.lp_efuns.specs.Turns.{At, IsScene, Setting}
use Rattle.lp_efuns.proofs.Called.{AsksNothing}
use Rattle.lp_settling.specs.Settling.{EndSettles}
use Rattle.lp_targets.specs.Callees.{IsWorldOf}
use Rattle.lp_object_efuns.specs.Called.{AnswersOver, CallsWithProgram, DoesWithProgram, is_with_program}
use Rattle.lp_putting.specs.Plans.{IsPlanned, is_own_function}
use Rattle.lp_putting.specs.declared.plans.Plan.{Plan}
use Rattle.lp_putting.specs.declared.plans.Planned.TheVariants as planned
use Rattle.lp_object_efuns.proofs.Groups.{of_world, own_with_program}
use Rattle.lp_object_efuns.proofs.Settled.{with_program_settles}

pub asks_nothing : (e : Efun) → is_with_program e ≡ true → AsksNothing (group e)
asks_nothing e p = rw (of_world e p) tt

-- a call for which nothing came into memory
pub called_over : (e : Efun) (caller : Caller) (vs : List Value) (told : Option Bytes) (live0 live1 : Live) (turn : Turn) (old new : ℕ) (a : Answer) → is_with_program e ≡ true → CallsEfun e caller vs live0 turn old a live1 turn new
    → CallsWithProgram e caller vs told live0 turn old a live1 new
called_over e caller vs told live0 live1 turn old new a p calls g by c s q sc h w =
    let r = calls g by c s sc h in (r.0, r.1, r.2, with_program_settles e by c vs s r.0 p r.1)

-- and one for which something did
pub settled_over : (e : Efun) (by : Asker) (c : Scene) (vs : List Value) (s : State) (P : State → Type 0) (a : Answer) → is_with_program e ≡ true → (end : End Value) × (efun_in e by c vs s ≡ Over end) × IsEnd a P end
    → (end : End Value) × (efun_in e by c vs s ≡ Over end) × IsEnd a P end × EndSettles s.world end
settled_over e by c vs s P a p r = (r.0, r.1, r.2, with_program_settles e by c vs s r.0 p r.1)

-- The efun ends before it is asked whether there is the function, or does what was planned.
pub ended_over : (e : Efun) (caller : Caller) (vs : List Value) (told : Option Bytes) (live : Live) (turn : Turn) (d : Did) → Does e caller vs live turn d live turn → DoesWithProgram e caller vs told live turn d live
ended_over e caller vs told live turn d does g b c s q sc h w = does g b c s sc h

pub planned_over : (e : Efun) (caller : Caller) (vs : List Value) (told : Option Bytes) (live0 live1 : Live) (turn : Turn) (p : Plan) (d : Did) → is_own_function e ≡ true → IsPlanned e caller vs live0 turn (planned.Asks p)
    → AnswersOver p caller.this vs told live0 d live1 → DoesWithProgram e caller vs told live0 turn d live1
planned_over e caller vs told live0 live1 turn p d own plan answers g b c s q sc h w =
    rw (of_world e (own_with_program e own)) (subst (λ x. IsDone d (At g live1 turn b) (deed_done x s)) (sym (plan g b c s sc h)) (answers g turn b s q h w))

-- where a function stands
pub exists_with : (caller : Caller) (vs : List Value) (told : Option Bytes) (live0 live1 : Live) (turn : Turn) (d : Did) → DoesOver efuns.FunctionExists caller vs told live0 d live1
    → DoesWithProgram efuns.FunctionExists caller vs told live0 turn d live1
exists_with caller vs told live0 live1 turn d k g b c s q sc h w = k g turn b c s q sc h w
