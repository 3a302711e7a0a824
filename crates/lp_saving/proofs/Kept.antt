-- How jobs end that save and restore.
use Rattle.std.proofs.Common.{◌≡◌, ◌∙◌, ◌≤◌, ℕ, Bool, List, Option, All, Result, Ok, Err, refl, ap, sym, subst, arith, take}
use Rattle.std.specs.Prelude.{OnErr, OnOk}
use Rattle.std.proofs.lemmas.List.Elements.{All-take, All-weaker}
use Rattle.lp_values.specs.declared.id.ObjId.{ObjId}
use Rattle.lp_values.specs.declared.value.Value.{Value}
use Rattle.lp_cells.specs.Cells.{IsThere, KeepsThere, Store}
use Rattle.lp_code.specs.declared.program.RawProgram.{RawProgram}
use Rattle.lp_swapfile.specs.Device.{Bytes, Last}
use Rattle.lp_instr.specs.declared.efun.Efun.{Efun}
use Rattle.lp_language.specs.World.{World}
use Rattle.lp_language.specs.Resolve.{heritage_of}
use Rattle.lp_language.specs.Course.{Asks, Course, Gives, Over, State, Stops, and_then}
use Rattle.lp_meaning.specs.Askers.{Asker}
use Rattle.lp_part_laws.specs.Versions.{FitsVersion}
use Rattle.lp_world.specs.Closed.{IsClosed}
use Rattle.lp_world.specs.declared.live.Live.{Live}
use Rattle.lp_world.specs.declared.objects.Object.{Object}
use Rattle.lp_world.specs.Rows.{live_in, row_at}
use Rattle.lp_world.specs.Stands.{Stands}
use Rattle.lp_residence.specs.declared.answers.EnterFault.{EnterFault}
use Rattle.lp_residence.specs.declared.answers.EnterFault.TheVariants.{NoMemory}
use Rattle.lp_step.specs.Steps.{IsFit, KeepsVariables}
use Rattle.lp_targets.specs.Brought.{Brings, StaysInMemory}
use Rattle.lp_targets.specs.Callees.{IsWorldOf}
use Rattle.lp_targets.proofs.Memory.{some_row}
use Rattle.lp_targets.proofs.Worlds.{whole_fits}
use Rattle.lp_filing.specs.Filing.{ComesWith, EndsWith, Follows, IsOutcomeThere, StandsStill}
use Rattle.lp_filing.specs.declared.outcome.Outcome.{Outcome}
use Rattle.lp_filing.specs.declared.outcome.Outcome.TheVariants as outcomes
use Rattle.lp_efuns.specs.declared.answer.Answer.{Answer}
use Rattle.lp_efuns.specs.declared.caller.Turn.{Turn}
use Rattle.lp_efuns.specs.Plain.{Finishes, IsEnd}
use Rattle.lp_efuns.specs.Turns.{At, Setting}
use Rattle.lp_calling.specs.declared.job.Job.{Job}
use Rattle.lp_calling.specs.declared.job.Stage.{Stage}
use Rattle.lp_calling.specs.declared.wish.FileDeed.{FileDeed}
use Rattle.lp_calling.specs.Beginning.{IsOver, Settled}
use Rattle.lp_calling.specs.Jobs.{ended, stage_course}
use Rattle.lp_calling.specs.Leave.{file_deed}
use Rattle.lp_calling.proofs.Ending.{cut_to, spends_less, value_over}
use Rattle.lp_calling.proofs.Granted.{follows_at, follows_settles}
use Rattle.lp_calling.proofs.Settled.{over_onward}
use Rattle.lp_saving.specs.Saving.{IsKeeper, IsOnlyKept, Keeps, KeepsOver, KeepsWith, Reads, StandsOver, did_of}
use Rattle.lp_saving.proofs.InMemory.{row_of}

-- Ends

-- what a deed came to ends the course, once its price is paid
pub over : (e : Efun) (g : Setting) (live0 live1 : Live) (turn : Turn) (old new : ℕ) (a : Answer) (d : Outcome) (s : State) (k : Course Value)
    → live1.outputs ≡ live0.outputs → At g live0 turn old s → EndsWith d (Follows g.told g.programs live1 s) k → IsOutcomeThere live1.cells d → Finishes e (live_in live1.objects) live1.cells (did_of d) old a new
    → IsOver a (Settled s.world g live1 turn new) (and_then k (ended e))
over e g live0 live1 turn old new a (outcomes.Value v) s (Over (Gives w t)) o h i there f =
    over_onward s.world t.world g live1 turn new a (ended e w t) (follows_settles g.told g.programs live1 s t i.1)
    (subst (λ x. IsOver a (Settled t.world g live1 turn new) (ended e x t)) (sym i.0) (value_over g live1 turn old new e v a t (follows_at g live0 live1 turn old s t o h i.1) there f))
over e g live0 live1 turn old new a (outcomes.Error x) s (Over (Stops y t)) o h i there f = (
  Stops y t,
  refl,
  subst (λ n. IsEnd a (Settled s.world g live1 turn n) (Stops y t)) (sym f.1)
      (subst (λ b. IsEnd b (Settled s.world g live1 turn old) (Stops y t)) (sym f.0)
      (i.0, record { at = follows_at g live0 live1 turn old s t o h i.1; settles = follows_settles g.told g.programs live1 s t i.1 })),
)
over e g live0 live1 turn old new a (outcomes.Value v) s (Over (Stops y t)) o h i there f = absurd i
over e g live0 live1 turn old new a (outcomes.Error x) s (Over (Gives w t)) o h i there f = absurd i
over e g live0 live1 turn old new a (outcomes.Value v) s (Asks q k) o h i there f = absurd i
over e g live0 live1 turn old new a (outcomes.Error x) s (Asks q k) o h i there f = absurd i

pub kept_with : (e : Efun) (d : FileDeed) (p : Option (List ℕ)) (o : ObjId) (code : RawProgram) (live0 live1 : Live) (stack0 stack1 : List Value) (below old new : ℕ) (a : Answer) (out : Outcome)
    → ComesWith code o (file_deed d p) live0 out live1 → live1.outputs ≡ live0.outputs → IsOutcomeThere live1.cells out → Finishes e (live_in live1.objects) live1.cells (did_of out) old a new → stack1 ≡ take below stack0
    → KeepsWith a e d p o code live0 stack0 below old live1 stack1 new
kept_with e d p o code live0 live1 stack0 stack1 below old new a out c same there f t turn low own q k = (
  cut_to stack0 stack1 low own below t q k,
  λ g s h fits. over e g live0 live1 turn old new a out s (file_deed d p s) same h (c g.told g.programs s h.stands fits) there f,
)

-- what is left of the budget
pub kept_spends : (e : Efun) (l : ObjId → Bool) (cells : Store) (out : Outcome) (old new : ℕ) (a : Answer) → Finishes e l cells (did_of out) old a new → new ≤ old
kept_spends e l cells (outcomes.Value v) old new a f = spends_less e l cells v old new a f
kept_spends e l cells (outcomes.Error x) old new a f = subst (λ n. n ≤ old) (sym f.1) (omega arith)

-- What changed

pub only_store : (live0 live1 : Live) → live1 ≡ record live0 { store = live1.store } → IsOnlyKept live0 live1
only_store live0 live1 h = h ∙ ap (λ (l : Live). record live0 { store = live1.store; cells = l.cells; objects = l.objects }) (sym h)

pub only_variables : (live0 live1 : Live) → live1 ≡ record live0 { cells = live1.cells; objects = live1.objects } → IsOnlyKept live0 live1
only_variables live0 live1 h = h ∙ ap (λ (l : Live). record live0 { store = l.store; cells = live1.cells; objects = live1.objects }) (sym h)

-- the same cells, and the same objects
pub cells_there : (a b : Store) → b ≡ a → KeepsThere a b
cells_there a b e = λ v h. subst (λ (c : Store). IsThere c v) (sym e) h

pub objects_there : (a b : List (Option Object)) → b ≡ a → KeepsVariables a b
objects_there a b e = subst (λ (x : List (Option Object)). KeepsVariables a x) (sym e) (λ o vs h. (vs, h, refl))

pub still_same : (live0 live1 : Live) → live1 ≡ live0 → StandsStill live0 live1
still_same live0 live1 e = subst (λ l. StandsStill live0 l) (sym e) (λ told programs w h. h)

pub still_err : {A E : Type 0} (r : Result A E) (live0 live1 : Live) → OnErr r (live1 ≡ live0) → OnErr r (StandsStill live0 live1)
still_err (Ok x) live0 live1 h = tt
still_err (Err e) live0 live1 h = still_same live0 live1 h

-- Once the object and its program came into memory

pub brought_stay : (live0 mid live1 : Live) → StaysInMemory live0 mid → KeepsThere mid.cells live1.cells → KeepsThere live0.cells live1.cells
brought_stay live0 mid live1 s k = λ v h. k v (subst (λ (c : Store). IsThere c v) (sym (ap (λ (l : Live). l.cells) s.others)) h)

pub brought_variables : (live0 mid live1 : Live) → StaysInMemory live0 mid → KeepsVariables mid.objects live1.objects → KeepsVariables live0.objects live1.objects
brought_variables live0 mid live1 s k = λ o vs h. k o vs (s.variables o vs h)

pub only_brought : (live0 live1 : Live) → StaysInMemory live0 live1 → (KeepsThere live0.cells live1.cells × KeepsVariables live0.objects live1.objects)
only_brought live0 live1 s =
    (brought_stay live0 live1 live1 s (λ v h. h), λ o vs h. (vs, s.variables o vs h, refl))

pub still_brought : (told0 told1 : Option Bytes) (live0 mid live1 : Live) → StandsOver told0 live0 told1 mid → StandsStill mid live1 → StandsOver told0 live0 told1 live1
still_brought told0 told1 live0 mid live1 over still programs w h = still told1 programs w (over programs w h)

-- the program fits the version of the object, where the programs of the world fit
keeper_fits : (told : Option Bytes) (programs : List RawProgram) (live : Live) (w : World) (o : ObjId) (code : RawProgram) → IsWorldOf told programs live w → IsKeeper live o code → FitsVersion (heritage_of w o) code
keeper_fits told programs live w o code h k =
    let x = some_row (row_at live.objects o.0) (row_of live.objects o k.here) in
    whole_fits told programs live w o x.0 x.0.program code h x.1 refl (k.code x.0 x.1)

pub kept_over : (a : Answer) (e : Efun) (d : FileDeed) (p : Option (List ℕ)) (o : ObjId) (code : RawProgram) (told0 told1 : Option Bytes) (live0 mid live1 : Live) (stack0 stack1 : List Value) (below old new : ℕ)
    → told1 ≡ told0 → StaysInMemory live0 mid → StandsOver told0 live0 told1 mid → IsKeeper mid o code → KeepsWith a e d p o code mid stack0 below old live1 stack1 new
    → KeepsOver a e d p told0 live0 stack0 below old live1 stack1 new
kept_over a e d p o code told0 told1 live0 mid live1 stack0 stack1 below old new kept stays stand k w0 turn low own q n =
    let i = w0 turn low own q n in (
      i.0,
      λ g s z h w.
          let stands : Stands told1 g.programs mid s.world = stand g.programs s.world w.stands in
          i.1 g s
          (record {
            stands = subst (λ t. Stands t g.programs mid s.world) (kept ∙ sym z) stands;
            left = h.left;
            outputs = ap (λ (l : Live). l.outputs) stays.others ∙ h.outputs;
            player = h.player;
            commands = h.commands;
          })
          (keeper_fits told1 g.programs mid s.world o code (record { stands = stands; compiled = w.compiled; shadows = w.shadows }) k),
    )

-- What the device did

pub reads_of : {A : Type 0} {told0 told1 : Option Bytes} {last : Last} {reads0 reads1 writes0 writes1 : ℕ} {true0 true1 honest0 honest1 : Type 0} {live0 live1 : Live} {r : Result A EnterFault}
    → Brings told0 told1 last reads0 reads1 writes0 writes1 true0 true1 honest0 honest1 live0 live1 r → Reads told0 told1 last reads0 reads1 writes0 writes1 true0 true1 honest0 honest1 live0 live1 r
reads_of h = record { cause = h.cause; faults = h.faults; write_faults = h.write_faults; kept = h.kept; truthful = h.truthful; honest = h.honest }

pub reads_ok : {A B : Type 0} {told0 told1 : Option Bytes} {last : Last} {reads0 reads1 writes0 writes1 : ℕ} {true0 true1 honest0 honest1 : Type 0} {live0 mid live1 : Live} {x : A} {y : B}
    → Brings told0 told1 last reads0 reads1 writes0 writes1 true0 true1 honest0 honest1 live0 mid (Ok x) → Reads told0 told1 last reads0 reads1 writes0 writes1 true0 true1 honest0 honest1 live0 live1 (Ok y)
reads_ok h = record { cause = tt; faults = h.faults; write_faults = h.write_faults; kept = h.kept; truthful = h.truthful; honest = h.honest }

pub reads_no_memory : {A B : Type 0} {told0 told1 : Option Bytes} {last : Last} {reads0 reads1 writes0 writes1 : ℕ} {true0 true1 honest0 honest1 : Type 0} {live0 mid live1 : Live} {x : A}
    → Brings told0 told1 last reads0 reads1 writes0 writes1 true0 true1 honest0 honest1 live0 mid (Ok x) → Reads {A = B} told0 told1 last reads0 reads1 writes0 writes1 true0 true1 honest0 honest1 live0 live1 (Err NoMemory)
reads_no_memory h = record { cause = tt; faults = h.faults; write_faults = h.write_faults; kept = h.kept; truthful = h.truthful; honest = h.honest }

-- The job

-- what lies below it is there still
pub fit_below : {A E : Type 0} (r : Result A E) (live0 live1 : Live) (stack0 stack1 : List Value) (n : ℕ) → OnOk r (stack1 ≡ take n stack0) → IsClosed live1 → IsFit live0 stack0 → KeepsThere live0.cells live1.cells → OnOk r (IsFit live1 stack1)
fit_below (Ok x) live0 live1 stack0 stack1 n e closed h k = record {
  closed = closed;
  there =
      subst (λ s. All (IsThere live1.cells) s) (sym e)
      (All-weaker (IsThere live0.cells) (IsThere live1.cells) k (take n stack0) (All-take (IsThere live0.cells) n stack0 h.there));
}
fit_below (Err x) live0 live1 stack0 stack1 n e closed h k = tt

-- a stage at which a deed is done keeps as the deed does
pub job_kept : (a : Answer) (job : Job) (stage : Stage) (d : FileDeed) (p : Option (List ℕ)) (told : Option Bytes) (live0 live1 : Live) (stack0 stack1 : List Value) (old new : ℕ) → job.stage ≡ stage
    → ((own : List Value) (by : Asker) (s : State) → stage_course job.efun stage own by s ≡ and_then (file_deed d p s) (ended job.efun)) → KeepsOver a job.efun d p told live0 stack0 job.low old live1 stack1 new
    → Keeps a job told live0 stack0 old live1 stack1 new
job_kept a job stage d p told live0 live1 stack0 stack1 old new e c k turn low own q n =
    let i = k turn low own q n in record {
      stack = i.0;
      course = λ g by s z h w.
          subst (λ x. IsOver a (Settled s.world g live1 turn new) x) (sym (ap (λ t. stage_course job.efun t own by s) e ∙ c own by s)) (i.1 g s z h w);
    }
