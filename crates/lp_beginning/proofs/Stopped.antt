-- How jobs go on and end.
use Rattle.std.proofs.Common.{◌≡◌, ◌∙◌, ◌<◌, ℕ, refl, sym, ap, subst, Bool, true, false, List, [], ◌∷◌, ◌++◌, Option, Some, None, length, drop, add-one, drop-cons, append_assoc}
use Rattle.std.specs.Prelude.{◌+◌, if◌then◌else◌}
use Rattle.lp_values.specs.declared.id.ObjId.{ObjId}
use Rattle.lp_values.specs.declared.id.ProgId.{ProgId}
use Rattle.lp_values.specs.declared.error.ErrorKind.TheVariants.{TooMany}
use Rattle.lp_values.specs.declared.value.Value.{Value}
use Rattle.lp_values.specs.declared.value.Value.TheVariants.{Obj}
use Rattle.lp_values.specs.Errors.{plain}
use Rattle.lp_code.specs.declared.program.RawProgram.{RawProgram}
use Rattle.lp_swapfile.specs.Device.{Bytes}
use Rattle.lp_events.specs.declared.out.Out.{Out}
use Rattle.lp_events.specs.declared.out.Out.TheVariants as outs
use Rattle.lp_language.specs.World.{World}
use Rattle.lp_language.specs.Course as course
use Rattle.lp_language.specs.Course.{Course, Failed, Gives, Over, Plain, Reply, Spent, State, Stops, Thrown, here, in_any_case, stops}
use Rattle.lp_language.specs.Resolve.{or_else}
use Rattle.lp_meaning.specs.WorldSteps as steps
use Rattle.lp_meaning.specs.WorldSteps.{has_room, next_object}
use Rattle.lp_meaning.specs.Askers.{Asker, error_record, told}
use Rattle.lp_meaning.specs.FileLoads.{begun_end, beginning, logged_cause}
use Rattle.lp_meaning.specs.FunctionCalls.{place_of_asker, placed_stop}
use Rattle.lp_world.specs.declared.live.Live.{Live}
use Rattle.lp_world.specs.Stands.{Stands}
use Rattle.lp_asking.specs.declared.ending.Cause.{Cause}
use Rattle.lp_asking.specs.declared.ending.Cause.TheVariants as causes
use Rattle.lp_asking.specs.declared.ending.Ending.TheVariants as endings
use Rattle.lp_asking.specs.declared.ending.Place.{Place}
use Rattle.lp_asking.specs.declared.ending.Stop.{Stop}
use Rattle.lp_asking.specs.Endings.{IsPlaceIf, cause_of}
use Rattle.lp_beginning.specs.declared.job.Begun.{Begun}
use Rattle.lp_beginning.specs.declared.job.Begun.TheVariants as begun
use Rattle.lp_beginning.specs.declared.job.LoadKind.{LoadKind}
use Rattle.lp_beginning.specs.declared.job.LoadKind.TheVariants as kinds
use Rattle.lp_beginning.specs.Beginning.{Begins, IsFull, IsRefusedFor, StandsStill}
use Rattle.lp_beginning.specs.declared.fault.MakingFault.{MakingFault}
use Rattle.lp_beginning.specs.declared.fault.MakingFault.TheVariants as faults
use Rattle.lp_beginning.specs.Ends.{IsReplyEnd}
use Rattle.lp_beginning.specs.Feeding.{IsLogged, StopsAs, caught, earlier_place}
use Rattle.lp_beginning.specs.Jobs.{kind_of, made_from, rest_from}
use Rattle.lp_beginning.specs.Reports.{stop_text}

-- Values

-- the next part is done
pub next_done : (kind : LoadKind) (o : ObjId) (parts : List ℕ) (done : ℕ) (by : Asker) (v : Value) (s : State) → done < length parts → rest_from kind o (drop done parts) by (Gives v s) ≡ made_from kind o (drop (done + 1) parts) by s
next_done kind o parts done by v s h =
    ap (λ ns. rest_from kind o ns by (Gives v s)) (drop-cons parts done 0 h) ∙ ap (λ n. made_from kind o (drop n parts) by s) (sym (add-one done))

-- No room

-- there is no room: the course ends at once
pub full_begins : (b : Begun) (kind : LoadKind) (name : List ℕ) (v : ProgId) (told : Option Bytes) (live : Live) → IsFull b → ((programs : List RawProgram) (w : World) → Stands told programs live w → has_room w ≡ false) → Begins b kind name v told live live
full_begins (begun.Runs job) kind name v told live i room = absurd i
full_begins (begun.Ends e) kind name v told live i room = λ g by turn budget s q f.
    let none : has_room s.world ≡ false = room g.programs s.world (subst (λ t. Stands t g.programs live s.world) q f.world.stands) in
    record {
      end = Stops (here (Failed (plain TooMany))) s;
      over = ap (λ (b : Bool). if b then in_any_case (beginning by (next_object s.world) (record s { world = steps.with_new_object s.world name v })) (λ e. Over (begun_end (kind_of kind) by (next_object s.world) e)) else full s) none;
      is = subst (λ x. IsReplyEnd g.programs x (Stops (here (Failed (plain TooMany))) s)) (sym i) (record { cause = refl; place = tt });
      fits = f;
      world = refl;
    }
  where
    full : State → Course Reply
    full s = stops (Failed (plain TooMany)) s

-- A refusal in a state that stands for the same worlds.
pub refused_before : (told0 told1 : Option Bytes) (old new : Live) (name : List ℕ) (e : MakingFault) → StandsStill told0 old told1 new → IsRefusedFor told1 new name e → IsRefusedFor told0 old name e
refused_before told0 told1 old new name faults.NameTaken s r = λ programs w h. r programs w (s programs w h)
refused_before told0 told1 old new name (faults.Swap cause) s r = tt
refused_before told0 told1 old new name faults.NoMemory s r = tt

-- Stops

place_or : (programs : List RawProgram) (w : World) (a b : Option Place) (p q : Option course.Place) → IsPlaceIf programs w a p → IsPlaceIf programs w b q → IsPlaceIf programs w (or_else a b) (or_else p q)
place_or programs w None b None q i j = j
place_or programs w None b (Some p) q i j = absurd i
place_or programs w (Some a) b None q i j = absurd i
place_or programs w (Some a) b (Some p) q i j = i

-- what is caught is logged
caught_end : (kind : LoadKind) (cause : Cause) (by : Asker) (o : ObjId) (x : course.Stop) (s : State) → caught kind cause ≡ true → cause_of cause ≡ x.cause
    → begun_end (kind_of kind) by o (Stops x s) ≡ Gives (Plain (Obj o)) (told (error_record (placed_stop (place_of_asker s.world by) x) ∷ []) s)
caught_end kinds.Wanted cause by o x s c e = absurd cc
caught_end kinds.Inherited (causes.Thrown v) by o x s c e = ap (logged_cause by o x s) (sym e)
caught_end kinds.Inherited (causes.Failed f) by o x s c e = ap (logged_cause by o x s) (sym e)
caught_end kinds.Inherited causes.Spent by o x s c e = absurd cc

-- A stop that is logged: the object comes of it.
pub stop_logged : (kind : LoadKind) (object : ObjId) (stop : Stop) (asker : Option Place) (told0 : Option Bytes) (live0 live1 : Live) → caught kind stop.cause ≡ true → IsLogged told0 live0 live1 stop.cause (earlier_place stop.place asker)
    → StopsAs kind object stop asker (endings.Value (Obj object)) told0 live0 live1
stop_logged kind object stop asker told0 live0 live1 c l g by turn budget x s q f is at =
    let w = s.world in
    let here = subst (λ t. Stands t g.programs live0 w) q f.world.stands in
    let stands = subst (λ t. Stands t g.programs live1 w) (sym q) (l.stands g.programs w here) in
    let y : course.Stop = placed_stop (place_of_asker w by) x in
    let p : Option course.Place = or_else x.place (place_of_asker w by) in
    let text : l.text ≡ stop_text x.cause p = l.is g.programs w p here (place_or g.programs w stop.place asker x.place (place_of_asker w by) is.place at) ∙ ap (λ z. stop_text z p) is.cause in
    record {
      end = Gives (Plain (Obj object)) (told (error_record y ∷ []) s);
      over = ap (λ e. Over e) (caught_end kind stop.cause by object x s c is.cause);
      is = refl;
      fits = record {
        at = record { stands = stands; left = f.at.left; outputs = l.outputs ∙ ap (λ (os : List Out). os ++ outs.Log l.text ∷ []) f.at.outputs ∙ append_assoc g.before s.outputs (outs.Log l.text ∷ []) ∙ ap (λ z. g.before ++ (s.outputs ++ outs.Log z ∷ [])) text; player = f.at.player; commands = f.at.commands };
        world = record { stands = stands; compiled = f.world.compiled; shadows = f.world.shadows };
      };
      world = refl;
    }
