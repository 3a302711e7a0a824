-- The file of a load was read.
use Rattle.std.proofs.Common.{◌≡◌, ◌∙◌, ◌++◌, ◌⊎◌, ℕ, zero, suc, List, Option, Result, Ok, Err, IfOk, OnOk, Vec, Global, refl, ap, sym, subst, map, length, arith}
use Rattle.std.specs.Prelude.{false, nat_lt}
use Rattle.std.specs.Prelude.{codes}
use Rattle.std.specs.Str.{IsUtf8, chars}
use Rattle.std.proofs.lemmas.List.{append_assoc}
use Rattle.std.proofs.lemmas.Str.{encodes-chars}
use Rattle.lp_tree.specs.declared.fault.Fault.{Fault}
use Rattle.lp_values.specs.declared.id.ProgId.{ProgId}
use Rattle.lp_code.specs.declared.program.RawProgram.{RawProgram}
use Rattle.lp_events.specs.declared.out.Out.{Out}
use Rattle.lp_swapfile.specs.Device.{Bytes}
use Rattle.lp_language.specs.Course.{Course, Gives, IsFaulty, Reply, State}
use Rattle.lp_language.specs.World.{World}
use Rattle.lp_meaning.specs.Askers.{Asker, told}
use Rattle.lp_meaning.specs.FileLoads.{fault_record, is_under_way, simul_names}
use Rattle.lp_meaning.specs.Limits.{max_nested}
use Rattle.lp_meaning.specs.WorldSteps.{file_of_name}
use Rattle.lp_compile_laws.specs.Told.{IsFaultyFile, IsFaultyUnit, IsMissing}
use Rattle.lp_world.specs.declared.live.Live.{Live}
use Rattle.lp_world.specs.Stands.{Stands}
use Rattle.lp_asking.specs.declared.asker.Loading.{Loading}
use Rattle.lp_efuns.specs.declared.caller.Turn.{Turn}
use Rattle.lp_front_end.specs.Parents.{file_bytes}
use Rattle.lp_meaning.specs.FrontEnd.{FrontEnd}
use Rattle.lp_targets.specs.Callees.{IsWorldOf}
use Rattle.lp_loading.specs.declared.compiling.Compiled.{Compiled}
use Rattle.lp_loading.specs.declared.compiling.Compiled.TheVariants as compiled
use Rattle.lp_loading.specs.declared.job.Answer.TheVariants as answers
use Rattle.lp_loading.specs.declared.job.Going.TheVariants as goings
use Rattle.lp_loading.specs.declared.job.LoadJob.{LoadJob}
use Rattle.lp_loading.specs.declared.job.MadeFor.{MadeFor}
use Rattle.lp_loading.specs.declared.job.Going.{Going}
use Rattle.lp_loading.specs.declared.job.Step.{Step}
use Rattle.lp_loading.specs.declared.job.Step.TheVariants as steps
use Rattle.lp_loading.specs.Compiling.{CompilesTo, IsCompiledIn}
use Rattle.lp_loading.specs.Going.{Goes, HasEnded, IsAnswerThere, IsAt, LeadsTo, setting, state_in}
use Rattle.lp_loading.specs.Loads.{going_course, kind_of, loads_of}
use Rattle.lp_loading.specs.Parents.{AsksParent}
use Rattle.lp_loading.specs.Present.{HasWorld, KeepsWorlds, all_made}
use Rattle.lp_loading.specs.Reads.{HasRead}
use Rattle.lp_loading.specs.Readings.{FaultyEnds}
use Rattle.lp_loading.specs.Simuls.{SeesSimuls}
use Rattle.lp_loading.proofs.Growth.{grows_same}
use Rattle.lp_loading.proofs.Worlds.{file_is_bytes}

-- as many numbers were given out as the world has versions
versions_same : (told0 told1 : Option Bytes) (programs : List RawProgram) (live0 live1 : Live) (w : World) → Stands told0 programs live0 w → Stands told1 programs live1 w → length live0.versions ≡ length live1.versions
versions_same told0 told1 programs live0 live1 w h k = h.versions.next ∙ sym k.versions.next

-- it was compiled over a state that stands for the worlds of the one before
pub has_read : (r : Compiled) (job : LoadJob) (loads : List Loading) (names : List (List ℕ)) (ms : List MadeFor) (path : List ℕ) (own : ProgId) (told0 told1 told2 : Option Bytes) (live0 live1 live2 : Live) → HasWorld told0 live0 → KeepsWorlds told0 live0 told1 live1
    → KeepsWorlds told1 live1 told2 live2 → SeesSimuls told0 live0 loads names → ms ≡ job.made.items → path ≡ file_bytes job.name → own.0 ≡ length live1.versions → live1.outputs ≡ live0.outputs → live2.outputs ≡ live1.outputs → live1.cells ≡ live0.cells
    → live2.cells ≡ live1.cells → ((name : List ℕ) → path ≡ file_bytes name → CompilesTo r (all_made ms) name own names told1 live1 told2 live2) → HasRead r job loads told0 live0 told2 live2
has_read r job loads names ms path own told0 told1 told2 live0 live1 live2 h k k2 sees m p n o1 o2 b1 b2 c = record {
  own = own;
  next =
      let one = k h.programs h.world h.is in
      n ∙ versions_same told1 told2 h.programs live1 live2 h.world one.stands (k2 h.programs h.world one).stands;
  outputs = o2 ∙ o1;
  cells = b2 ∙ b1;
  is = λ programs w i.
      subst (λ ns. IsCompiledIn r (all_made job.made.items) job.name own ns told2 live2 programs w) (sees programs w i)
      (subst (λ x. IsCompiledIn r (all_made x) job.name own names told2 live2 programs w) m (c job.name p programs w (k programs w i)));
}

-- outputs are not part of what stands
pub stands_told : (told : Option Bytes) (programs : List RawProgram) (live : Live) (w : World) (os : List Out) → Stands told programs live w → Stands told programs (record live { outputs = os }) w
stands_told told programs live w os h = record {
  cells = h.cells;
  objects = h.objects;
  names = h.names;
  versions = h.versions;
  kept = h.kept;
  rest = h.rest;
}

-- THE STATE GOES OVER: where another state stands for the same world, with these outputs more.
pub told_over : (told0 told1 : Option Bytes) (programs : List RawProgram) (before : List Out) (live0 live1 : Live) (turn : Turn) (budget : ℕ) (s : State) (os : List Out) → IsAt (setting told0 programs before) live0 turn budget s
    → IsWorldOf told1 programs live1 s.world → live1.outputs ≡ live0.outputs → IsAt (setting told1 programs before) (record live1 { outputs = live1.outputs ++ os }) turn budget (told os s)
told_over told0 told1 programs before live0 live1 turn budget s os h k o = record {
  at = record {
    stands = stands_told told1 programs live1 s.world (live1.outputs ++ os) k.stands;
    left = h.at.left;
    outputs = ap (λ l. l ++ os) (o ∙ h.at.outputs) ∙ append_assoc before s.outputs os;
    player = h.at.player;
    commands = h.at.commands;
  };
  world = record { stands = stands_told told1 programs live1 s.world (live1.outputs ++ os) k.stands; compiled = k.compiled; shadows = k.shadows };
}

pub world_over : (told0 told1 : Option Bytes) (programs : List RawProgram) (before : List Out) (live0 live1 : Live) (turn : Turn) (budget : ℕ) (s : State) → IsAt (setting told0 programs before) live0 turn budget s
    → IsWorldOf told1 programs live1 s.world → live1.outputs ≡ live0.outputs → IsAt (setting told1 programs before) live1 turn budget s
world_over told0 told1 programs before live0 live1 turn budget s h k o = record {
  at = record { stands = k.stands; left = h.at.left; outputs = o ∙ h.at.outputs; player = h.at.player; commands = h.at.commands };
  world = k;
}

-- Its faults end the load.
pub faulty_goes : FaultyEnds → (fs : Vec Fault Global) (job : LoadJob) (loads : List Loading) (told0 : Option Bytes) (live0 : Live) (told1 : Option Bytes) (live1 live2 : Live) (budget : ℕ) (turn : Turn) (r : Step)
    → live2 ≡ record live1 { outputs = live1.outputs ++ map fault_record fs.items } → r ≡ steps.Ends (answers.Faulty fs) → HasRead (compiled.Faulty fs) job loads told0 live0 told1 live1 → Goes r job goings.Read loads told0 live0 budget told1 live2 budget turn
faulty_goes ends fs job loads told0 live0 told1 live1 live2 budget turn r e q h front programs before by s zero real at under l = absurd (omega (arith, l))
faulty_goes ends fs job loads told0 live0 told1 live1 live2 budget turn r e q h front programs before by s (suc m) real at under l =
    let c = h.is programs s.world at.world in
    let os : List Out = map fault_record fs.items in
    let made = all_made job.made.items in
    let it : HasEnded front (answers.Faulty fs) (going_course (suc m) job goings.Read by s) programs told1 before (record live1 { outputs = live1.outputs ++ os }) turn budget = record {
      programs = programs;
      grown = grows_same programs;
      end = Gives (IsFaulty fs.items) (told os s);
      is = record { answer = refl; at = told_over told0 told1 programs before live0 live1 turn budget s os at c.world h.outputs };
      ends = ends front m (kind_of job.purpose) by job.nested job.name made s fs.items
          (subst (λ ls. IsFaultyFile front s.world (file_of_name job.name) fs.items ⊎ IsFaultyUnit front s.world made (file_of_name job.name) (simul_names s.world ls) fs.items) (sym under.2) (c.front_end front real));
    } in
    subst (λ x. LeadsTo front x job (going_course (suc m) job goings.Read by s) programs told1 before live2 turn budget by) (sym q)
    (subst (λ (x : Live). HasEnded front (answers.Faulty fs) (going_course (suc m) job goings.Read by s) programs told1 before x turn budget) (sym e) it, tt)

-- what holds of an answer and of all answers
pub if_ok_on : {A E : Type 0} (r : Result A E) (P R : A → Type 0) (Q : Type 0) → ((x : A) → P x → Q → R x) → IfOk r P → OnOk r Q → IfOk r R
if_ok_on (Ok x) P R Q f h q = f x h q
if_ok_on (Err e) P R Q f h q = tt

-- WHAT A STATE LEADS TO, another leads to that stands for the same worlds, with the same outputs and cells.
leads_over : (r : Step) (front : FrontEnd) (job : LoadJob) (c : Course Reply) (old : List RawProgram) (told0 told1 : Option Bytes) (before : List Out) (live0 live1 : Live) (turn : Turn) (budget : ℕ) (by : Asker) → KeepsWorlds told0 live0 told1 live1
    → live1.outputs ≡ live0.outputs → live1.cells ≡ live0.cells → LeadsTo front r job c old told0 before live0 turn budget by → LeadsTo front r job c old told1 before live1 turn budget by
leads_over (steps.Asks name waiting) front job c old told0 told1 before live0 live1 turn budget by k o z h = record {
  programs = h.programs;
  grown = h.grown;
  state = h.state;
  turns = h.turns;
  at = world_over told0 told1 h.programs before live0 live1 turn budget h.state h.at (k h.programs h.state.world h.at.world) o;
  enough = h.enough;
  ends = h.ends;
}
leads_over (steps.Makes making) front job c old told0 told1 before live0 live1 turn budget by k o z h = record {
  programs = h.programs;
  grown = h.grown;
  state = h.state;
  at = world_over told0 told1 h.programs before live0 live1 turn budget h.state h.at (k h.programs h.state.world h.at.world) o;
  parts = h.parts;
  ends = h.ends;
}
leads_over (steps.Ends a) front job c old told0 told1 before live0 live1 turn budget by k o z h = (
  record {
    programs = h.0.programs;
    grown = h.0.grown;
    end = h.0.end;
    is = record { answer = h.0.is.answer; at = world_over told0 told1 h.0.programs before live0 live1 turn budget (state_in h.0.end) h.0.is.at (k h.0.programs (state_in h.0.end).world h.0.is.at.world) o };
    ends = h.0.ends;
  },
  subst (λ cells. IsAnswerThere cells a) (sym z) h.1,
)

pub goes_over : (r : Step) (job : LoadJob) (going : Going) (loads : List Loading) (told0 told1 : Option Bytes) (live0 live1 : Live) (budget : ℕ) (turn : Turn) → KeepsWorlds told0 live0 told1 live1 → live1.outputs ≡ live0.outputs
    → live1.cells ≡ live0.cells → Goes r job going loads told0 live0 budget told0 live0 budget turn → Goes r job going loads told0 live0 budget told1 live1 budget turn
goes_over r job going loads told0 told1 live0 live1 budget turn k o z g front programs before by s turns real at under l =
    leads_over r front job (going_course turns job going by s) programs told0 told1 before live0 live1 turn budget by k o z (g front programs before by s turns real at under l)

-- a parent that is missing may be asked for
pub asks_parent : (file : List ℕ) (job : LoadJob) (loads : List Loading) (told0 told1 : Option Bytes) (live0 live1 : Live) (name : List ℕ) → HasRead (compiled.Missing file) job loads told0 live0 told1 live1 → file ≡ file_bytes name
    → is_under_way name (loads_of loads) ≡ false → nat_lt max_nested (suc job.nested) ≡ false → AsksParent job loads told0 live0 name
asks_parent file job loads told0 told1 live0 live1 name h f away shallow = record {
  missing = λ front programs w real i. subst (λ x. IsMissing front w (all_made job.made.items) (file_of_name job.name) x) f ((h.is programs w i).front_end front real);
  away = away;
  shallow = shallow;
}

-- a path that ends in `.c` is the file of what is before that
pub file_of_front : (path front : List ℕ) → IsUtf8 front → path ≡ front ++ codes ".c" → path ≡ file_bytes (chars front)
file_of_front path front u e = e ∙ ap file_of_name (sym (encodes-chars front u)) ∙ file_is_bytes (chars front)
