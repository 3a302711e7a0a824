-- A load takes the answer of a load that it asked for.
use Rattle.std.proofs.Common.{◌≡◌, ◌∙◌, ◌<◌, ℕ, suc, List, ◌∷◌, Option, Some, None, Vec, Global, refl, ap, sym, subst, unwrap_or, arith}
use Rattle.lp_values.specs.declared.id.ObjId.{ObjId}
use Rattle.lp_values.specs.declared.id.ProgId.{ProgId}
use Rattle.lp_values.specs.declared.value.Value.{Value}
use Rattle.lp_values.specs.declared.value.Value.TheVariants as values
use Rattle.lp_code.specs.declared.program.RawProgram.{RawProgram}
use Rattle.lp_events.specs.declared.out.Out.{Out}
use Rattle.lp_swapfile.specs.Device.{Bytes}
use Rattle.lp_language.specs.Course.{Course, End, Gives, IsFaulty, IsSound, Over, Plain, Reply, State, Stops, WasRead, gives, zero_value}
use Rattle.lp_language.specs.World.{World, object_at, object_named}
use Rattle.lp_meaning.specs.Askers.{Asker}
use Rattle.lp_meaning.specs.Closing.{Ends}
use Rattle.lp_meaning.specs.FileLoads.{object_of_value, reading, unless_there, with_object_of}
use Rattle.lp_meaning.specs.FrontEnd.{FrontEnd}
use Rattle.lp_asking.specs.declared.ending.Stop.{Stop}
use Rattle.lp_tree.specs.declared.fault.Fault.{Fault}
use Rattle.lp_efuns.specs.declared.caller.Turn.{Turn}
use Rattle.lp_world.specs.Stands.{Stands}
use Rattle.lp_world.specs.declared.live.Live.{Live}
use Rattle.lp_world.specs.declared.objects.Object.{Object}
use Rattle.lp_world.specs.Rows.{row_at}
use Rattle.lp_loaded.specs.Present.{version_in}
use Rattle.lp_targets.proofs.Worlds.{version_is}
use Rattle.lp_loading.specs.declared.job.Answer.{Answer}
use Rattle.lp_loading.specs.declared.job.Answer.TheVariants as answers
use Rattle.lp_loading.specs.declared.job.Fed.{Fed}
use Rattle.lp_loading.specs.declared.job.Fed.TheVariants as fed
use Rattle.lp_loading.specs.declared.job.Going.TheVariants as goings
use Rattle.lp_loading.specs.declared.job.LoadJob.{LoadJob}
use Rattle.lp_loading.specs.declared.job.Waiting.{Waiting}
use Rattle.lp_loading.specs.declared.job.Waiting.TheVariants as waitings
use Rattle.lp_loading.specs.Going.{FedTo, HasEnded, IsAt, IsEndAt, Takes, setting}
use Rattle.lp_loading.specs.Loads.{kind_of, reading_again, reading_first, waiting_course}
use Rattle.lp_loading.specs.Present.{all_made}
use Rattle.lp_loading.proofs.Growth.{grows_same}
use Rattle.lp_loading.proofs.Telling.{over_ends}

-- which object a load has its name, whatever the world
abbrev pub Names : Live → List ℕ → Option ObjId → Type 0
Names live name r = (told : Option Bytes) (programs : List RawProgram) (w : World) → Stands told programs live w → r ≡ object_named w name

-- what follows an object that was loaded
abbrev next_of : ℕ → LoadJob → Waiting → Asker → ObjId → State → Course Reply
next_of turns job waitings.Simul by o s = unless_there job.name s (λ s. reading_first job by s)
next_of turns job (waitings.Parent name) by o s = unless_there job.name s (reading_again turns job name by (object_at s.world o).version)

-- the end of a load ends this one, where it ends so
ended_with : (front : FrontEnd) (programs : List RawProgram) (told : Option Bytes) (before : List Out) (live : Live) (turn : Turn) (budget : ℕ) (c : Course Reply) (e : End Reply) (a : Answer)
    → IsEndAt (setting told programs before) a live turn budget e → c ≡ Over e → HasEnded front a c programs told before live turn budget
ended_with front programs told before live turn budget c e a i q = record { programs = programs; grown = grows_same programs; end = e; is = i; ends = subst (λ x. Ends front x e) (sym q) (over_ends front e) }

-- what an object that was loaded leads to
after_is : (turns : ℕ) (job : LoadJob) (w : Waiting) (by : Asker) (u : Value) (s : State) → waiting_course turns job w by (Gives (Plain u) s) ≡ with_object_of (object_of_value u) s (next_of turns job w by)
after_is turns job waitings.Simul by u s = refl
after_is turns job (waitings.Parent name) by u s = refl

there_is : (turns : ℕ) (job : LoadJob) (w : Waiting) (by : Asker) (x o : ObjId) (s : State) → Some o ≡ object_named s.world job.name → next_of turns job w by x s ≡ Over (Gives (Plain (values.Obj o)) s)
there_is turns job waitings.Simul by x o s e = ap (λ q. elim q [ Some y ↦ gives (Plain (values.Obj y)) s | None ↦ reading_first job by s ]) (sym e)
there_is turns job (waitings.Parent name) by x o s e = ap (λ q. elim q [ Some y ↦ gives (Plain (values.Obj y)) s | None ↦ reading_again turns job name by (object_at s.world x).version s ]) (sym e)

given : (turns : ℕ) (job : LoadJob) (w : Waiting) (by : Asker) (v u : Value) (x : ObjId) (s : State) → v ≡ u → object_of_value v ≡ Some x → waiting_course turns job w by (Gives (Plain u) s) ≡ next_of turns job w by x s
given turns job w by v u x s e ob = after_is turns job w by u s ∙ ap (λ q. with_object_of q s (next_of turns job w by)) (ap object_of_value (sym e) ∙ ob)

-- what is taken of a value is taken of each end that is one
module _ (job0 job1 : LoadJob) (w : Waiting) (v : Value) (told : Option Bytes) (live : Live) (turn : Turn) (budget : ℕ) where
  pub takes_value : (r : Fed)
      → ((front : FrontEnd) (programs : List RawProgram) (before : List Out) (by : Asker) (turns : ℕ) (u : Value) (s : State) → v ≡ u → IsAt (setting told programs before) live turn budget s → budget < turns → FedTo front r job0 w turns by (Gives (Plain u) s) told programs before job1 live turn budget)
      → Takes r job0 w (answers.Value v) told live job1 turn budget
  takes_value r f front programs before by turns (Gives (Plain u) s) i l = f front programs before by turns u s i.answer i.at l
  takes_value r f front programs before by turns (Gives (WasRead items pragmas) s) i l = absurd i.answer
  takes_value r f front programs before by turns (Gives IsSound s) i l = absurd i.answer
  takes_value r f front programs before by turns (Gives (IsFaulty fs) s) i l = absurd i.answer
  takes_value r f front programs before by turns (Stops x s) i l = absurd i.answer

-- it ends with the object of its own name
pub object_ends : (job0 job1 : LoadJob) (w : Waiting) (v : Value) (x o : ObjId) (told : Option Bytes) (live : Live) (turn : Turn) (budget : ℕ) → object_of_value v ≡ Some x → Names live job0.name (Some o)
    → Takes (fed.Ends (answers.Value (values.Obj o))) job0 w (answers.Value v) told live job1 turn budget
object_ends job0 job1 w v x o told live turn budget ob n =
    takes_value job0 job1 w v told live turn budget (fed.Ends (answers.Value (values.Obj o)))
    (λ front programs before by turns u s e at l.
    ended_with front programs told before live turn budget (waiting_course turns job0 w by (Gives (Plain u) s)) (Gives (Plain (values.Obj o)) s) (answers.Value (values.Obj o)) (record { answer = refl; at = at })
    (given turns job0 w by v u x s e ob ∙ there_is turns job0 w by x o s (n told programs s.world at.world.stands)))

-- or with 0, where nothing was loaded
pub nothing_ends : (job0 job1 : LoadJob) (w : Waiting) (v : Value) (told : Option Bytes) (live : Live) (turn : Turn) (budget : ℕ) → object_of_value v ≡ None
    → Takes (fed.Ends (answers.Value zero_value)) job0 w (answers.Value v) told live job1 turn budget
nothing_ends job0 job1 w v told live turn budget ob =
    takes_value job0 job1 w v told live turn budget (fed.Ends (answers.Value zero_value))
    (λ front programs before by turns u s e at l.
    ended_with front programs told before live turn budget (waiting_course turns job0 w by (Gives (Plain u) s)) (Gives (Plain zero_value) s) (answers.Value zero_value) (record { answer = refl; at = at })
    (after_is turns job0 w by u s ∙ ap (λ q. with_object_of q s (next_of turns job0 w by)) (ap object_of_value (sym e) ∙ ob)))

-- or its file is read
pub simul_reads : (job : LoadJob) (v : Value) (x : ObjId) (told : Option Bytes) (live : Live) (turn : Turn) (budget : ℕ) → object_of_value v ≡ Some x → Names live job.name None
    → Takes (fed.Goes goings.Read) job waitings.Simul (answers.Value v) told live job turn budget
simul_reads job v x told live turn budget ob n =
    takes_value job job waitings.Simul v told live turn budget (fed.Goes goings.Read)
    (λ front programs before by turns u s e at l. (
      at,
      record {
        left = suc s.budget;
        enough = let b : s.budget ≡ budget = at.at.left in omega (arith, b);
        course =
            given turns job waitings.Simul by v u x s e ob
            ∙ ap (λ q. elim q [ Some y ↦ gives (Plain (values.Obj y)) s | None ↦ reading_first job by s ]) (sym (n told programs s.world at.world.stands));
      },
    ))

-- once more, with the version of the parent
pub parent_reads : (job0 job1 : LoadJob) (name : List ℕ) (v : Value) (x : ObjId) (version : ProgId) (told : Option Bytes) (live : Live) (turn : Turn) (budget : ℕ) → object_of_value v ≡ Some x → Names live job0.name None
    → version_in (row_at live.objects x.0) ≡ Some version → job1.name ≡ job0.name → job1.purpose ≡ job0.purpose → job1.nested ≡ job0.nested → job1.made.items ≡ record { name = name; version = version } ∷ job0.made.items
    → Takes (fed.Goes goings.Read) job0 (waitings.Parent name) (answers.Value v) told live job1 turn budget
parent_reads job0 job1 name v x version told live turn budget ob n r a b c d =
    takes_value job0 job1 (waitings.Parent name) v told live turn budget (fed.Goes goings.Read)
    (λ front programs before by turns u s e at l. (
      at,
      record {
        left = turns;
        enough = l;
        course =
            given turns job0 (waitings.Parent name) by v u x s e ob
            ∙ ap (λ q. elim q [ Some y ↦ gives (Plain (values.Obj y)) s | None ↦ reading_again turns job0 name by (object_at s.world x).version s ]) (sym (n told programs s.world at.world.stands))
            ∙ ap (λ z. reading_again turns job0 name by z s) (versioned told programs s.world at.world.stands (row_at live.objects x.0) refl r)
            ∙ ap (λ ms. reading turns (kind_of job0.purpose) by job0.nested job0.name (all_made ms) s) (sym d)
            ∙ ap (λ z. reading turns (kind_of job0.purpose) by z job0.name (all_made job1.made.items) s) (sym c)
            ∙ ap (λ z. reading turns (kind_of z) by job1.nested job0.name (all_made job1.made.items) s) (sym b)
            ∙ ap (λ z. reading turns (kind_of job1.purpose) by job1.nested z (all_made job1.made.items) s) (sym a);
      },
    ))
  where
    versioned : (told : Option Bytes) (programs : List RawProgram) (w : World) → Stands told programs live w → (o : Option Object) → row_at live.objects x.0 ≡ o → version_in o ≡ Some version → (object_at w x).version ≡ version
    versioned told programs w h None q i = cc
    versioned told programs w h (Some row) q i = version_is told programs live w x row h q ∙ ap (λ z. unwrap_or z version) i

-- Faults and stops

-- faults of a file that was loaded end the load that asked for it
faulty_over : (turns : ℕ) (job : LoadJob) (w : Waiting) (by : Asker) (gs : List Fault) (s : State) → waiting_course turns job w by (Gives (IsFaulty gs) s) ≡ Over (Gives (IsFaulty gs) s)
faulty_over turns job waitings.Simul by gs s = refl
faulty_over turns job (waitings.Parent name) by gs s = refl

pub faults_end : (job0 job1 : LoadJob) (w : Waiting) (fs : Vec Fault Global) (told : Option Bytes) (live : Live) (turn : Turn) (budget : ℕ) → Takes (fed.Ends (answers.Faulty fs)) job0 w (answers.Faulty fs) told live job1 turn budget
faults_end job0 job1 w fs told live turn budget front programs before by turns (Gives (Plain u) s) i l = absurd i.answer
faults_end job0 job1 w fs told live turn budget front programs before by turns (Gives (WasRead items pragmas) s) i l = absurd i.answer
faults_end job0 job1 w fs told live turn budget front programs before by turns (Gives IsSound s) i l = absurd i.answer
faults_end job0 job1 w fs told live turn budget front programs before by turns (Gives (IsFaulty gs) s) i l =
    ended_with front programs told before live turn budget (waiting_course turns job0 w by (Gives (IsFaulty gs) s)) (Gives (IsFaulty gs) s) (answers.Faulty fs) i (faulty_over turns job0 w by gs s)
faults_end job0 job1 w fs told live turn budget front programs before by turns (Stops x s) i l = absurd i.answer

-- and so does its stop
pub stop_ends : (job0 job1 : LoadJob) (w : Waiting) (stop : Stop) (told : Option Bytes) (live : Live) (turn : Turn) (budget : ℕ) → Takes (fed.Ends (answers.Stopped stop)) job0 w (answers.Stopped stop) told live job1 turn budget
stop_ends job0 job1 w stop told live turn budget front programs before by turns (Gives r s) i l = absurd i.answer
stop_ends job0 job1 w stop told live turn budget front programs before by turns (Stops x s) i l = ended_with front programs told before live turn budget (waiting_course turns job0 w by (Stops x s)) (Stops x s) (answers.Stopped stop) i refl
