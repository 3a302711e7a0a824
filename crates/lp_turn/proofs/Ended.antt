-- Calls of the driver that ended.
use Rattle.std.proofs.Common.{◌≡◌, ◌∙◌, ◌++◌, ◌∷◌, [], ℕ, List, Option, Some, None, true, ap, refl, sym, subst, append_assoc, Vec, Global}
use Rattle.lp_tree.specs.declared.fault.Fault.{Fault}
use Rattle.lp_values.specs.declared.id.ObjId.{ObjId}
use Rattle.lp_values.specs.declared.value.Value.{Value}
use Rattle.lp_code.specs.declared.program.RawProgram.{RawProgram}
use Rattle.lp_events.specs.declared.out.Out.{Out}
use Rattle.lp_swapfile.specs.Device.{Bytes}
use Rattle.lp_language.specs.World.{World, object_named}
use Rattle.lp_language.specs.Course as course
use Rattle.lp_language.specs.Course.{Answer, IsFaulty, IsSound, Plain, Returned, State, WasRead, and_then, here, zero_value}
use Rattle.lp_meaning.specs.Askers.{error_record, told}
use Rattle.lp_meaning.specs.EventTurns.{Done, after_logon, applied_if, done, notice}
use Rattle.lp_meaning.specs.FileLoads.{could_not_load}
use Rattle.lp_meaning.specs.WorldSteps.{master_name}
use Rattle.lp_world.specs.Stands.{Stands}
use Rattle.lp_world.specs.declared.live.Live.{Live}
use Rattle.lp_asking.specs.Endings.{IsAnswer}
use Rattle.lp_asking.specs.declared.ending.Cause.TheVariants as causes
use Rattle.lp_asking.specs.declared.ending.Ending.{Ending}
use Rattle.lp_asking.specs.declared.ending.Ending.TheVariants as endings
use Rattle.lp_asking.specs.declared.ending.Stop.{Stop}
use Rattle.lp_records.specs.Records.{IsNoticeIn}
use Rattle.lp_turn.specs.Calls.{load_course, value_course}
use Rattle.lp_turn.specs.Ends.{HasValueOf, IsLoadEnd, Tells, TellsBoth}
use Rattle.lp_turn.specs.Going.{Takes}
use Rattle.lp_turn.specs.Turns.{arguments_of, behind, going_course, name_of, plain_done}
use Rattle.lp_turn.specs.declared.job.CallEnd.{CallEnd}
use Rattle.lp_turn.specs.declared.job.CallEnd.TheVariants as ends
use Rattle.lp_turn.specs.declared.job.Going.{Going}
use Rattle.lp_turn.specs.declared.job.Going.TheVariants as goings
use Rattle.lp_turn.specs.declared.job.MasterFunction.{MasterFunction}
use Rattle.lp_turn.specs.declared.job.Waiting.TheVariants as waitings
use Rattle.lp_turn.proofs.Kept.{stands_told}

-- the record, and what the player is told
pub player_told : (player : Option ObjId) (out text : Out) (live0 live1 live2 : Live) → live1 ≡ record live0 { outputs = live0.outputs ++ out ∷ [] } → live2 ≡ record live1 { outputs = live1.outputs ++ text ∷ [] } → IsNoticeIn live0 player (Some text)
    → TellsBoth player out live0 live2
player_told player out text live0 live1 live2 a b n g programs w h =
    b ∙ ap (λ (l : Live). record l { outputs = l.outputs ++ text ∷ [] }) a
    ∙ ap (λ os. record live0 { outputs = os }) (append_assoc live0.outputs (out ∷ []) (text ∷ []) ∙ ap (λ os. live0.outputs ++ (out ∷ os)) (n g programs w h))

pub nobody_told : (player : Option ObjId) (out : Out) (live0 live1 : Live) → live1 ≡ record live0 { outputs = live0.outputs ++ out ∷ [] } → IsNoticeIn live0 player None → TellsBoth player out live0 live1
nobody_told player out live0 live1 a n g programs w h = a ∙ ap (λ os. record live0 { outputs = live0.outputs ++ (out ∷ os) }) (n g programs w h)

-- what is told is what the meaning tells
pub told_stop : (g : Option Bytes) (programs : List RawProgram) (w : World) (x : course.Stop) (player : Option ObjId) (old mid new : Live) (out : Out) → Stands g programs mid w → mid.outputs ≡ old.outputs → out ≡ error_record x
    → TellsBoth player out mid new → Stands g programs new w × (new.outputs ≡ old.outputs ++ (error_record x ∷ notice w player))
told_stop g programs w x player old mid new out h k o t =
    let e = t g programs w h in (
      subst (λ l. Stands g programs l w) (sym e) (stands_told g programs mid w (mid.outputs ++ (out ∷ notice w player)) h),
      ap (λ (l : Live). l.outputs) e ∙ ap (λ l. l ++ (out ∷ notice w player)) k ∙ ap (λ y. old.outputs ++ (y ∷ notice w player)) o,
    )

-- A value.
pub gave : (g : Option Bytes) (live : Live) (player : Option ObjId) (v : Value) → HasValueOf player (ends.Ended (endings.Value v)) g live g live v
gave g live player v programs before (Returned (Plain u)) s h i = record { done = plain_done u; value = sym i; end = refl; state = s; rests = h; course = refl }
gave g live player v programs before (Returned (WasRead items pragmas)) s h i = absurd i
gave g live player v programs before (Returned IsSound) s h i = absurd i
gave g live player v programs before (Returned (IsFaulty fs)) s h i = absurd i
gave g live player v programs before (course.Stopped x) s h i = absurd i

-- A stop, of which the log and the player were told.
pub stopped : (told0 told1 : Option Bytes) (live0 live1 : Live) (player : Option ObjId) (stop : Stop) → Tells player stop told0 live0 told1 live1 → HasValueOf player (ends.Ended (endings.Stopped stop)) told0 live0 told1 live1 zero_value
stopped told0 told1 live0 live1 player stop t programs before (Returned r) s h i = absurd i
stopped told0 told1 live0 live1 player stop t programs before (course.Stopped x) s h i =
    let e = t programs s.world x h.world.stands i in
    record {
      done = record { value = zero_value; is_uncaught = true };
      value = refl;
      end = refl;
      state = told (error_record x ∷ notice s.world player) s;
      rests = record {
        world = record { stands = e.0; compiled = h.world.compiled; shadows = h.world.shadows };
        outputs = e.1 ∙ ap (λ l. l ++ (error_record x ∷ notice s.world player)) h.outputs ∙ append_assoc before s.outputs (error_record x ∷ notice s.world player);
      };
      course = refl;
    }

-- A load that ended with a value or a stop is a call that did.
load_is : (programs : List RawProgram) (w : World) (name : List ℕ) (e : Ending) (a : Answer) (s : State) → IsAnswer programs w e a → load_course name a s ≡ value_course None a s
load_is programs w name (endings.Value v) (Returned (Plain u)) s i = refl
load_is programs w name (endings.Value v) (Returned (WasRead items pragmas)) s i = absurd i
load_is programs w name (endings.Value v) (Returned IsSound) s i = absurd i
load_is programs w name (endings.Value v) (Returned (IsFaulty fs)) s i = absurd i
load_is programs w name (endings.Value v) (course.Stopped x) s i = absurd i
load_is programs w name (endings.Stopped stop) (Returned r) s i = absurd i
load_is programs w name (endings.Stopped stop) (course.Stopped x) s i = refl

pub load_ended : (told0 told1 : Option Bytes) (live0 live1 : Live) (name : List ℕ) (e : Ending) (v : Value) → HasValueOf None (ends.Ended e) told0 live0 told1 live1 v → IsLoadEnd name (ends.Ended e) told0 live0 told1 live1
load_ended told0 told1 live0 live1 name e v f programs before a s h i =
    let r = f programs before a s h i in
    record { done = r.done; state = r.state; rests = r.rests; course = load_is programs s.world name e a s i ∙ r.course }

-- Faults are an error.
pub load_faulty : (told0 told1 : Option Bytes) (live0 live1 : Live) (name : List ℕ) (fs : Vec Fault Global) (all : List Fault) (stop : Stop) → fs.items ≡ all → stop ≡ record { cause = causes.Failed (could_not_load name all); place = None }
    → Tells None stop told0 live0 told1 live1 → IsLoadEnd name (ends.Faulty fs) told0 live0 told1 live1
load_faulty told0 told1 live0 live1 name fs all stop q e t programs before (Returned (Plain u)) s h i = absurd i
load_faulty told0 told1 live0 live1 name fs all stop q e t programs before (Returned (WasRead items pragmas)) s h i = absurd i
load_faulty told0 told1 live0 live1 name fs all stop q e t programs before (Returned IsSound) s h i = absurd i
load_faulty told0 told1 live0 live1 name fs all stop q e t programs before (course.Stopped x) s h i = absurd i
load_faulty told0 told1 live0 live1 name fs all stop q e t programs before (Returned (IsFaulty gs)) s h i =
    let x : course.Stop = here (course.Failed (could_not_load name gs)) in
    let same = ap (λ l. course.Failed (could_not_load name l)) (sym q ∙ i) in
    let r = subst (λ y. Tells None y told0 live0 told1 live1) e t programs s.world x h.world.stands (record { cause = same; place = tt }) in
    record {
      done = record { value = zero_value; is_uncaught = true };
      state = told (error_record x ∷ []) s;
      rests = record {
        world = record { stands = r.0; compiled = h.world.compiled; shadows = h.world.shadows };
        outputs = r.1 ∙ ap (λ l. l ++ (error_record x ∷ [])) h.outputs ∙ append_assoc before s.outputs (error_record x ∷ []);
      };
      course = refl;
    }

-- Turns that take the ends of their calls.
pub line_ended : (told0 told1 : Option Bytes) (live0 live1 : Live) (o : ObjId) (end : CallEnd) (v : Value) → HasValueOf (Some o) end told0 live0 told1 live1 v → Takes (waitings.Line o) end told0 live0 told1 live1 goings.Done
line_ended told0 told1 live0 live1 o end v f programs before a s h i =
    let r = f programs before a s h i in record { state = r.state; rests = r.rests; course = ap (λ c. and_then c (λ d s. done s)) r.course }

pub logon_ended : (told0 told1 : Option Bytes) (live0 live1 : Live) (k : ℕ) (o : ObjId) (end : CallEnd) (v : Value) → HasValueOf (Some o) end told0 live0 told1 live1 v → Takes (waitings.Logon k o) end told0 live0 told1 live1 (goings.Logged k v)
logon_ended told0 told1 live0 live1 k o end v f programs before a s h i =
    let r = f programs before a s h i in
    record { state = r.state; rests = r.rests; course = ap (λ c. and_then c (λ d s. after_logon k d s)) r.course ∙ ap (λ x. after_logon k (plain_done x) r.state) r.value }

pub master_ended : (told0 told1 : Option Bytes) (live0 live1 : Live) (f : MasterFunction) (end : CallEnd) (v : Value) (going : Going) → HasValueOf None end told0 live0 told1 live1 v
    → ((d : Done) (s : State) → d.value ≡ v → behind f d s ≡ going_course going s) → Takes (waitings.Master f) end told0 live0 told1 live1 going
master_ended told0 told1 live0 live1 f end v going m b programs before a s h i =
    let r = m programs before a s h i in record { state = r.state; rests = r.rests; course = ap (λ c. and_then c (behind f)) r.course ∙ b r.done r.state r.value }

pub loading_ended : (told0 told1 : Option Bytes) (live0 live1 : Live) (f : MasterFunction) (end : CallEnd) → IsLoadEnd master_name end told0 live0 told1 live1 → Takes (waitings.Load f) end told0 live0 told1 live1 (goings.Loaded f)
loading_ended told0 told1 live0 live1 f end m programs before a s h i =
    let r = m programs before a s h i in
    record {
      state = r.state;
      rests = r.rests;
      course = ap (λ c. and_then (and_then c (λ d s. applied_if (object_named s.world master_name) (name_of f) (arguments_of f) s)) (behind f)) r.course;
    }
