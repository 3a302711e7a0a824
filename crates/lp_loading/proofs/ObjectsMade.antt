-- An object is made for a load.
use Rattle.std.proofs.Common.{◌≡◌, ◌∙◌, ℕ, Bool, true, false, List, [], ◌∷◌, Option, refl, ap, sym, subst, codes, if◌then◌else◌}
use Rattle.lp_values.specs.declared.id.ObjId.{ObjId}
use Rattle.lp_values.specs.declared.id.ProgId.{ProgId}
use Rattle.lp_values.specs.declared.value.Value.TheVariants.{Obj}
use Rattle.lp_values.specs.declared.error.ErrorKind.TheVariants.{TooMany}
use Rattle.lp_values.specs.Errors.{plain}
use Rattle.lp_cells.specs.Cells.{Store}
use Rattle.lp_code.specs.declared.program.RawProgram.{RawProgram}
use Rattle.lp_swapfile.specs.Device.{Bytes}
use Rattle.lp_language.specs.Course.{Apply, End, Failed, Gives, IsFaulty, IsSound, LoadKind, Over, Plain, Reply, State, Stops, WasRead, and_then, gives, here, in_any_case, stops}
use Rattle.lp_language.specs.Resolve.{heritage_of}
use Rattle.lp_meaning.specs.Askers.{Asker, ask_value}
use Rattle.lp_meaning.specs.Closing.{Ends}
use Rattle.lp_meaning.specs.FileLoads.{begun_end, beginning, initialised_parts, initialising, making}
use Rattle.lp_meaning.specs.WorldSteps.{has_room, next_object, with_new_object}
use Rattle.lp_world.specs.declared.live.Live.{Live}
use Rattle.lp_world.specs.declared.objects.Object.{Object}
use Rattle.lp_asking.specs.Endings.{IsCauseThere, IsEndingThere, cause_of}
use Rattle.lp_asking.specs.declared.ending.Cause.{Cause}
use Rattle.lp_asking.specs.declared.ending.Cause.TheVariants as causes
use Rattle.lp_asking.specs.declared.ending.Ending.{Ending}
use Rattle.lp_asking.specs.declared.ending.Ending.TheVariants as endings
use Rattle.lp_beginning.specs.Beginning.{Begins, IsBegunFor, IsBegunHome}
use Rattle.lp_beginning.specs.Ends.{IsReplyEnd, state_at}
use Rattle.lp_beginning.specs.Jobs as objects
use Rattle.lp_beginning.specs.declared.job.Begun.{Begun}
use Rattle.lp_beginning.specs.declared.job.Begun.TheVariants as begun
use Rattle.lp_beginning.specs.declared.job.LoadKind.{LoadKind as Kind}
use Rattle.lp_loading.specs.declared.job.Going.{Going}
use Rattle.lp_loading.specs.declared.job.LoadJob.{LoadJob}
use Rattle.lp_loading.specs.declared.job.Purpose.{Purpose}
use Rattle.lp_loading.specs.declared.job.Purpose.TheVariants as purposes
use Rattle.lp_loading.specs.Going.{IsAnswerOf, IsAnswerThere, IsAt, MakesAs, setting}
use Rattle.lp_loading.specs.Loads.{kind_of}
use Rattle.lp_loading.specs.Steps.{AsksInOrder, MakesFor, MakesHome, answer_of, making_kind, step_of}
use Rattle.lp_loading.proofs.Growth.{grows_same}
use Rattle.lp_loading.proofs.Telling.{over_ends}

-- Ends

-- how the job of an object ended is an answer of its load
pub reply_answers : (programs : List RawProgram) (ending : Ending) (e : End Reply) → IsReplyEnd programs ending e → IsAnswerOf programs (answer_of ending) e
reply_answers programs (endings.Value v) (Gives (Plain u) s) h = h
reply_answers programs (endings.Value v) (Gives (WasRead items pragmas) s) h = absurd h
reply_answers programs (endings.Value v) (Gives IsSound s) h = absurd h
reply_answers programs (endings.Value v) (Gives (IsFaulty fs) s) h = absurd h
reply_answers programs (endings.Value v) (Stops x s) h = absurd h
reply_answers programs (endings.Stopped stop) (Gives r s) h = absurd h
reply_answers programs (endings.Stopped stop) (Stops x s) h = h

pub answer_there : (cells : Store) (ending : Ending) → IsEndingThere cells ending → IsAnswerThere cells (answer_of ending)
answer_there cells (endings.Value v) h = h
answer_there cells (endings.Stopped stop) h = h

-- An object that is not made

end_same : (a b : End Reply) → Over a ≡ Over b → a ≡ b
end_same a b e = cc

-- that there is no room has no value
failed_there : (cells : Store) (c : Cause) → cause_of c ≡ Failed (plain TooMany) → IsCauseThere cells c
failed_there cells (causes.Thrown v) e = absurd cc
failed_there cells (causes.Failed x) e = tt
failed_there cells causes.Spent e = tt

full_there : (programs : List RawProgram) (cells : Store) (s : State) (ending : Ending) → IsReplyEnd programs ending (Stops (here (Failed (plain TooMany))) s) → IsEndingThere cells ending
full_there programs cells s (endings.Value v) h = absurd h
full_there programs cells s (endings.Stopped stop) h = failed_there cells stop.cause h.cause

-- an object that begins asks
asks_first : (kind : LoadKind) (by : Asker) (o : ObjId) (ps : List ℕ) (t : State) (e : End Reply)
    → in_any_case (and_then (initialising by o ps t) (λ v s. and_then (ask_value (Apply o (codes "create")) [] by s) (λ v s. gives (Plain (Obj o)) s))) (λ e. Over (begun_end kind by o e)) ≡ Over e → ⊥
asks_first kind by o [] t e q = absurd cc
asks_first kind by o (p ∷ ps) t e q = absurd cc

-- so that what ends at once is that there is no room
pub unmade_there : (programs : List RawProgram) (cells : Store) (kind : LoadKind) (by : Asker) (name : List ℕ) (v : ProgId) (s : State) (ending : Ending) (e : End Reply) → making kind by name v s ≡ Over e → IsReplyEnd programs ending e → IsEndingThere cells ending
unmade_there programs cells kind by name v s ending e q h = by_room (has_room s.world) q
  where
    by_room : (b : Bool) → (if b then in_any_case (beginning by (next_object s.world) (record s { world = with_new_object s.world name v })) (λ e. Over (begun_end kind by (next_object s.world) e)) else stops (Failed (plain TooMany)) s) ≡ Over e → IsEndingThere cells ending
    by_room true q = absurd (asks_first kind by (next_object s.world) (initialised_parts (heritage_of (with_new_object s.world name v) (next_object s.world))) (record s { world = with_new_object s.world name v }) e q)
    by_room false q = full_there programs cells s ending (subst (IsReplyEnd programs ending) (sym (end_same (Stops (here (Failed (plain TooMany))) s) e q)) h)

-- What begins

kinds_same : (p : Purpose) → objects.kind_of (making_kind p) ≡ kind_of p
kinds_same purposes.Wanted = refl
kinds_same purposes.Inherited = refl

-- AN OBJECT THAT IS MADE is what the load goes on with.
pub made_leads : (r : Begun) (job : LoadJob) (name : List ℕ) (version : ProgId) (told0 told1 : Option Bytes) (live0 live1 : Live) → told1 ≡ told0 → name ≡ job.name → Begins r (making_kind job.purpose) name version told0 live0 live1
    → MakesAs (step_of r) job version told0 live0 told1 live1
made_leads (begun.Runs object) job name version told0 told1 live0 live1 kept n h front programs before by s turn budget at =
    let x = h (setting told0 programs before) by turn budget s refl at in
    let same : making (kind_of job.purpose) by job.name version s ≡ objects.course_of object by x.0 =
    sym (ap (λ k. making k by job.name version s) (kinds_same job.purpose)) ∙ sym (ap (λ z. making (objects.kind_of (making_kind job.purpose)) by z version s) n) ∙ x.2 in
    record {
      programs = programs;
      grown = grows_same programs;
      state = x.0;
      at = subst (λ t. IsAt (setting t programs before) live1 turn budget x.0) (sym kept) x.1;
      parts = x.3;
      ends = λ e k. subst (λ c. Ends front c e) (sym same) k;
    }
made_leads (begun.Ends ending) job name version told0 told1 live0 live1 kept n h front programs before by s turn budget at =
    let x = h (setting told0 programs before) by turn budget s refl at in
    let same : making (kind_of job.purpose) by job.name version s ≡ Over x.end =
    sym (ap (λ k. making k by job.name version s) (kinds_same job.purpose)) ∙ sym (ap (λ z. making (objects.kind_of (making_kind job.purpose)) by z version s) n) ∙ x.over in (
      record {
        programs = programs;
        grown = grows_same programs;
        end = x.end;
        is = record { answer = reply_answers programs ending x.end x.is; at = subst (λ t. IsAt (setting t programs before) live1 turn budget (state_at x.end)) (sym kept) x.fits };
        ends = subst (λ c. Ends front c x.end) (sym same) (over_ends front x.end);
      },
      answer_there live1.cells ending (unmade_there programs live1.cells (objects.kind_of (making_kind job.purpose)) by name version s ending x.end x.over x.is),
    )

-- Steps

pub begun_order : (going : Going) (r : Begun) → AsksInOrder going (step_of r)
begun_order going (begun.Ends ending) = tt
begun_order going (begun.Runs object) = tt

pub begun_home : (rows : List (Option Object)) (r : Begun) → IsBegunHome rows r → MakesHome rows (step_of r)
begun_home rows (begun.Ends ending) h = tt
begun_home rows (begun.Runs object) h = h

pub begun_for : (kind : Kind) (p : Purpose) (r : Begun) → kind ≡ making_kind p → IsBegunFor kind r → MakesFor p (step_of r)
begun_for kind p (begun.Ends ending) e h = tt
begun_for kind p (begun.Runs object) e h = h ∙ e
