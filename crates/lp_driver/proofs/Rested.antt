-- The driver at rest between its turns.
use Rattle.std.proofs.Common.{◌≡◌, ◌∙◌, [], ℕ, List, Option, Result, Ok, Err, IfOk, refl, sym, subst, ap}
use Rattle.std.specs.Prelude.{IfErr, OnOk}
use Rattle.lp_code.specs.declared.program.RawProgram.{RawProgram}
use Rattle.lp_events.specs.declared.event.Event.{Event}
use Rattle.lp_events.specs.declared.out.Out.{Out}
use Rattle.lp_swapfile.specs.Device.{Bytes}
use Rattle.lp_files.specs.declared.store.Store.{Store}
use Rattle.lp_first.specs.First.{HasFiles}
use Rattle.lp_language.specs.World.{File, World, new_world}
use Rattle.lp_language.specs.Course.{Gives, State}
use Rattle.lp_meaning.specs.Closing.{Ends}
use Rattle.lp_meaning.specs.EventTurns.{NoMaster, at_rest, starting}
use Rattle.lp_meaning.specs.Ticks.{turn}
use Rattle.lp_front_end.specs.FrontEnds.{ThereIsOne}
use Rattle.lp_objects.specs.Stands.{died_in}
use Rattle.lp_targets.specs.Callees.{IsWorldOf}
use Rattle.lp_world.specs.Stands.{Stands}
use Rattle.lp_world.specs.declared.live.Live.{Live}
use Rattle.lp_turn.specs.Resting.{Rests}
use Rattle.lp_driver.specs.Carrying.{RestsForOne}
use Rattle.lp_driver.specs.Driving.{HasNoMasterIf, IsAtRest, IsNoMasterOf, StartsAs, TurnsAs, start_answer}
use Rattle.lp_driver.specs.Starting.{StartEnds, start_of}
use Rattle.lp_driver.specs.Tidying.{IsOver}
use Rattle.lp_driver.specs.declared.driver.StartFault.{StartFault}
use Rattle.lp_driver.specs.declared.driver.StartFault.TheVariants as faults
use Rattle.lp_driver.specs.declared.starting.Started.{Started}
use Rattle.lp_driver.specs.declared.starting.Started.TheVariants as ends
use Rattle.lp_driver.specs.Turning.{TurnEnds}

-- the state stands whatever the outputs are
stands_taken : (told : Option Bytes) (programs : List RawProgram) (live : Live) (w : World) (os : List Out) → Stands told programs live w → Stands told programs (record live { outputs = os }) w
stands_taken told programs live w os h = record { cells = h.cells; objects = h.objects; names = h.names; versions = h.versions; kept = h.kept; rest = h.rest }

world_taken : (told : Option Bytes) (programs : List RawProgram) (live0 live1 : Live) (w : World) → IsWorldOf told programs live0 w → live1 ≡ record live0 { outputs = [] } → IsWorldOf told programs live1 w
world_taken told programs live0 live1 w h e =
    subst (λ l. IsWorldOf told programs l w) (sym e) (record { stands = stands_taken told programs live0 w [] h.stands; compiled = h.compiled; shadows = h.shadows })

-- at rest it stands for the state in which a turn begins
rests_at : (told : Option Bytes) (live : Live) (w : World) → (h : IsAtRest told live w) → Rests told h.programs [] live (at_rest w)
rests_at told live w h = record { world = h.world; outputs = h.outputs }

pub rest_for_one : (told : Option Bytes) (live : Live) → (w : World) × IsAtRest told live w → RestsForOne told live
rest_for_one told live h = record { programs = h.1.programs; before = []; state = at_rest h.0; rests = rests_at told live h.0 h.1 }

-- A turn is over: its outputs were taken, and what ended was forgotten.
pub over_by : (live0 live1 live2 : Live) → live1 ≡ record live0 { outputs = [] } → live2 ≡ record live1 { names = live2.names; objects = live2.objects }
    → ((told : Option Bytes) (programs : List RawProgram) (w : World) → IsWorldOf told programs live1 w → IsWorldOf told programs live2 w) → died_in live2.names ≡ [] → IsOver live0 live2
over_by live0 live1 live2 e f world died = record {
  world = λ told programs w h. world told programs w (world_taken told programs live0 live1 w h e);
  outputs = ap (λ (l : Live). l.outputs) f ∙ ap (λ (l : Live). l.outputs) e;
  forgotten = died;
}

-- A turn ended, and is over.
pub turned : (event : Event) (told0 told1 : Option Bytes) (live0 live1 live2 : Live) (outs : List Out) → TurnEnds (turn event) told0 live0 told1 live1 → outs ≡ live1.outputs → IsOver live1 live2 → TurnsAs event told0 live0 told1 live2 outs
turned event told0 told1 live0 live1 live2 outs ended o over front w real h =
    let t = ended front real h.programs [] (at_rest w) (rests_at told0 live0 w h) in
    record {
      next = t.state.world;
      turns = record { at_end = t.state; ends = t.ends; world = refl; outputs = sym (o ∙ t.rests.outputs) };
      rest = record { programs = t.programs; world = over.world told1 t.programs t.state.world t.rests.world; outputs = over.outputs };
    }

pub turned_rest : (event : Event) (told0 told1 : Option Bytes) (live0 live1 : Live) (outs : List Out) → ThereIsOne → TurnsAs event told0 live0 told1 live1 outs → (w : World) × IsAtRest told0 live0 w → (w : World) × IsAtRest told1 live1 w
turned_rest event told0 told1 live0 live1 outs one turns h = let t = turns one.0 h.0 one.1 h.1 in (t.next, t.rest)

-- What goes out behind a turn leaves the world as it is.
pub turned_on : (event : Event) (told0 told1 told2 : Option Bytes) (live0 live1 live2 : Live) (outs : List Out) → TurnsAs event told0 live0 told1 live1 outs → ((w : World) → IsAtRest told1 live1 w → IsAtRest told2 live2 w) → TurnsAs event told0 live0 told2 live2 outs
turned_on event told0 told1 told2 live0 live1 live2 outs turns rest front w real h = let t = turns front w real h in record { next = t.next; turns = t.turns; rest = rest t.next t.rest }

-- what follows of each answer
pub on_ok_by : {A E : Type 0} {P : A → Type 0} {Q : Type 0} (r : Result A E) → ((x : A) → P x → Q) → IfOk r P → OnOk r Q
on_ok_by (Ok x) f h = f x h
on_ok_by (Err e) f h = tt

-- and of one that is well
pub on_ok_of : {A E : Type 0} {P Q : Type 0} (r : Result A E) → (P → Q) → OnOk r P → OnOk r Q
on_ok_of (Ok x) f h = f h
on_ok_of (Err e) f h = tt

-- The first state is at rest.
first_rests : (told : Option Bytes) (live : Live) (files : List File) (seed moment : ℕ) → IsWorldOf told [] live (new_world files seed moment) → live.outputs ≡ [] → Rests told [] [] live (at_rest (new_world files seed moment))
first_rests told live files seed moment h o = record { world = h; outputs = o }

pub first_for_one : (told : Option Bytes) (live : Live) (store : Store) (seed moment : ℕ) → (files : List File) × HasFiles store files → ((told : Option Bytes) (files : List File) → HasFiles store files → IsWorldOf told [] live (new_world files seed moment)) → live.outputs ≡ [] → RestsForOne told live
first_for_one told live store seed moment h world o = record { programs = []; before = []; state = at_rest (new_world h.0 seed moment); rests = first_rests told live h.0 seed moment (world told h.0 h.1) o }

-- The start ended, and its outputs were taken.
pub started : (store : Store) (seed moment : ℕ) (end : Started) (told0 told1 : Option Bytes) (live0 live1 live2 : Live) (outs : List Out) → ((told : Option Bytes) (files : List File) → HasFiles store files → IsWorldOf told [] live0 (new_world files seed moment)) → live0.outputs ≡ []
    → StartEnds starting told0 live0 told1 live1 end → end ≡ ends.Begins → outs ≡ live1.outputs → IsOver live1 live2 → StartsAs store seed moment told1 live2 outs
started store seed moment end told0 told1 live0 live1 live2 outs world empty ended begins o over front files real has =
    let s : State = at_rest (new_world files seed moment) in
    let t = ended front real [] [] s (first_rests told0 live0 files seed moment (world told0 files has) empty) in
    record {
      first = t.state.world;
      starts = record { at_end = t.state; ends = subst (λ x. Ends front (starting s) (Gives (start_of x) t.state)) begins t.ends; world = refl; outputs = sym (o ∙ t.rests.outputs) };
      rest = record { programs = t.programs; world = over.world told1 t.programs t.state.world t.rests.world; outputs = over.outputs };
    }

pub started_rest : (store : Store) (seed moment : ℕ) (told : Option Bytes) (live : Live) (outs : List Out) → ThereIsOne → (files : List File) × HasFiles store files → StartsAs store seed moment told live outs → (w : World) × IsAtRest told live w
started_rest store seed moment told live outs one h starts = let t = starts one.0 h.0 one.1 h.1 in (t.first, t.rest)

-- There is no master.
pub no_master : (store : Store) (seed moment : ℕ) (end : Started) (fault : StartFault) (told0 told1 : Option Bytes) (live0 live1 : Live) → ((told : Option Bytes) (files : List File) → HasFiles store files → IsWorldOf told [] live0 (new_world files seed moment)) → live0.outputs ≡ []
    → StartEnds starting told0 live0 told1 live1 end → IsNoMasterOf end fault → HasNoMasterIf store seed moment fault
no_master store seed moment ends.Begins fault told0 told1 live0 live1 world empty ended e = absurd e
no_master store seed moment (ends.NoMaster fs) (faults.Stopped f) told0 told1 live0 live1 world empty ended e = absurd e
no_master store seed moment (ends.NoMaster fs) (faults.NoMaster gs) told0 told1 live0 live1 world empty ended e = λ front files real has.
    let s : State = at_rest (new_world files seed moment) in
    let t = ended front real [] [] s (first_rests told0 live0 files seed moment (world told0 files has) empty) in
    record { at_end = t.state; ends = subst (λ x. Ends front (starting s) (Gives (NoMaster x.items) t.state)) (sym e) t.ends }

-- what follows of each fault
pub if_err : {A E : Type 0} {P Q : E → Type 0} (r : Result A E) → ((e : E) → P e → Q e) → IfErr r P → IfErr r Q
if_err (Ok x) f h = tt
if_err (Err e) f h = f e h

pub on_started : (store : Store) (seed moment : ℕ) (end : Started) (told0 told1 : Option Bytes) (live0 live1 live2 : Live) (outs : List Out) → ThereIsOne → (files : List File) × HasFiles store files
    → ((told : Option Bytes) (files : List File) → HasFiles store files → IsWorldOf told [] live0 (new_world files seed moment)) → live0.outputs ≡ [] → StartEnds starting told0 live0 told1 live1 end → end ≡ ends.Begins → outs ≡ live1.outputs → IsOver live1 live2
    → (w : World) × IsAtRest told1 live2 w
on_started store seed moment end told0 told1 live0 live1 live2 outs one h world empty ended begins o over = started_rest store seed moment told1 live2 outs one h (started store seed moment end told0 told1 live0 live1 live2 outs world empty ended begins o over)

-- where the start ended, no read is the cause
pub finished_answer : {A : Type 0} (r : Result A StartFault) (end : Started) → IfErr r (IsNoMasterOf end) → start_answer r ≡ Ok tt
finished_answer (Ok x) end h = refl
finished_answer (Err (faults.NoMaster fs)) end h = refl
finished_answer (Err (faults.Stopped f)) ends.Begins h = absurd h
finished_answer (Err (faults.Stopped f)) (ends.NoMaster fs) h = absurd h

-- what goes out leaves the state at rest
pub rest_on : (told0 told1 : Option Bytes) (live0 live1 : Live) → ((programs : List RawProgram) (w : World) → IsWorldOf told0 programs live0 w → IsWorldOf told1 programs live1 w) → live1.outputs ≡ live0.outputs → (w : World) → IsAtRest told0 live0 w → IsAtRest told1 live1 w
rest_on told0 told1 live0 live1 world outputs w h = record { programs = h.programs; world = world h.programs w h.world; outputs = outputs ∙ h.outputs }
