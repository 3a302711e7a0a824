-- What follows the answer of a question of a job.
use Rattle.std.proofs.Common.{◌≡◌, ◌∙◌, ◌++◌, [], ℕ, List, Option, refl, ap, sym, subst, append_assoc}
use Rattle.lp_values.specs.declared.value.Value.{Value}
use Rattle.lp_code.specs.declared.program.RawProgram.{RawProgram}
use Rattle.lp_events.specs.declared.out.Out.{Out}
use Rattle.lp_swapfile.specs.Device.{Bytes}
use Rattle.lp_language.specs.Course.{CanAnswer, Course, Over, End, Failed, Gives, IsFaulty, IsSound, Load, Outcome, Plain, Reply, State, Stops, Wanted, WasRead, after, and_then, end_of_outcome, end_of_reply, here, in_any_case, outcome_of, zero_value}
use Rattle.lp_meaning.specs.Askers as meaning
use Rattle.lp_meaning.specs.Askers.{question}
use Rattle.lp_meaning.specs.Closing.{Ends, Has}
use Rattle.lp_meaning.specs.FileLoads.{could_not_load, loaded_value}
use Rattle.lp_meaning.specs.FrontEnd.{FrontEnd}
use Rattle.lp_world.specs.declared.live.Live.{Live}
use Rattle.lp_beginning.specs.Beginning.{Fits}
use Rattle.lp_beginning.specs.Ends.{IsValueEnd, state_at}
use Rattle.lp_calling.specs.declared.job.Question.{Question}
use Rattle.lp_calling.specs.declared.job.Question.TheVariants as questions
use Rattle.lp_calling.specs.Questions.{IsAskedWith, asked_of, question_course}
use Rattle.lp_asking.specs.declared.asker.Asker.{Asker}
use Rattle.lp_asking.proofs.Courses.{asks_ends, has_of}
use Rattle.lp_loading.specs.declared.job.Answer.{Answer}
use Rattle.lp_loading.specs.declared.job.Answer.TheVariants as answers
use Rattle.lp_loading.specs.declared.job.Purpose.TheVariants as purposes
use Rattle.lp_loading.specs.Going.{IsAnswerOf, IsAt, state_in}
use Rattle.lp_vm.specs.Loaded.{loaded_ending}
use Rattle.lp_vm.specs.Loading.{load_course}
use Rattle.lp_vm.specs.Working.{IsCall}
use Rattle.lp_vm.proofs.Answered.{setting}

-- The value

-- what the end of a load gives
abbrev pub loaded_end : List ℕ → End Reply → End Value
loaded_end name (Gives (Plain v) s) = Gives v s
loaded_end name (Gives (WasRead items pragmas) s) = Gives zero_value s
loaded_end name (Gives IsSound s) = Gives zero_value s
loaded_end name (Gives (IsFaulty fs) s) = Stops (here (Failed (could_not_load name fs))) s
loaded_end name (Stops x s) = Stops x s

-- what a question gives, which had this outcome
abbrev pub value_behind : Question → State → Outcome → End Value
value_behind (questions.Other ob name) t o = end_of_outcome t o
value_behind (questions.Apply ob applied) t o = end_of_outcome t o
value_behind (questions.Load name) t o = loaded_end name (end_of_reply o.answer (after t o))

pub call_behind : (q : Question) (t : State) (o : Outcome) → IsCall q → value_behind q t o ≡ end_of_outcome t o
call_behind (questions.Other ob name) t o call = refl
call_behind (questions.Apply ob applied) t o call = refl
call_behind (questions.Load name) t o call = absurd call

-- The course

loaded_then : (name : List ℕ) (e : End Reply) (go : End Value → Course Value) → in_any_case (and_then (Over e) (λ r s. loaded_value name r s)) go ≡ go (loaded_end name e)
loaded_then name (Gives (Plain v) s) go = refl
loaded_then name (Gives (WasRead items pragmas) s) go = refl
loaded_then name (Gives IsSound s) go = refl
loaded_then name (Gives (IsFaulty fs) s) go = refl
loaded_then name (Stops x s) go = refl

-- what the rest ends with behind an outcome, the whole ends with
pub behind_ends : (front : FrontEnd) (q : Question) (xs : List Value) (by : meaning.Asker) (t : State) (go : End Value → Course Value) (o : Outcome) (end : End Value) → IsAskedWith q xs → Has front (question (asked_of q) xs by t) o → CanAnswer (question (asked_of q) xs by t) o
    → Ends front (go (value_behind q t o)) end → Ends front (in_any_case (question_course q xs by t) go) end
behind_ends front (questions.Other ob name) xs by t go o end given has can h = asks_ends front (question (asked_of (questions.Other ob name)) xs by t) (λ o. go (end_of_outcome t o)) o end has can h
behind_ends front (questions.Apply ob applied) xs by t go o end given has can h = asks_ends front (question (asked_of (questions.Apply ob applied)) xs by t) (λ o. go (end_of_outcome t o)) o end has can h
behind_ends front (questions.Load name) xs by t go o end given has can h =
    asks_ends front (question (Load name Wanted) [] by t) (λ o. in_any_case (and_then (Over (end_of_reply o.answer (after t o))) (λ r s. loaded_value name r s)) go) o end
    (subst (λ l. Has front (question (Load name Wanted) l by t) o) given has) (subst (λ l. CanAnswer (question (Load name Wanted) l by t) o) given can)
    (subst (λ c. Ends front c end) (sym (loaded_then name (end_of_reply o.answer (after t o)) go)) h)

-- A load

-- its end is an outcome that the question has
pub load_has : (front : FrontEnd) (name : List ℕ) (xs : List Value) (by : meaning.Asker) (t : State) (e : End Reply) → xs ≡ [] → Ends front (load_course name purposes.Wanted by t) e → Has front (question (Load name Wanted) xs by t) (outcome_of e)
load_has front name xs by t e none h =
    subst (λ l. Has front (question (Load name Wanted) l by t) (outcome_of e)) (sym none) (has_of front (question (Load name Wanted) [] by t) (load_course name purposes.Wanted by t) e refl h)

-- the state stands for what is behind it
pub load_fits : (told : Option Bytes) (programs : List RawProgram) (before outs : List Out) (live : Live) (asker : Asker) (budget : ℕ) (t : State) (e : End Reply) → outs ≡ before ++ t.outputs → IsAt (setting told programs outs) live asker.turn budget (state_in e)
    → Fits (setting told programs before) live asker.turn budget (after t (outcome_of e))
load_fits told programs before outs live asker budget t (Gives r s) o h = record {
  at = record { stands = h.at.stands; left = h.at.left; outputs = h.at.outputs ∙ ap (λ l. l ++ s.outputs) o ∙ append_assoc before t.outputs s.outputs; player = h.at.player; commands = h.at.commands };
  world = h.world;
}
load_fits told programs before outs live asker budget t (Stops x s) o h = record {
  at = record { stands = h.at.stands; left = h.at.left; outputs = h.at.outputs ∙ ap (λ l. l ++ s.outputs) o ∙ append_assoc before t.outputs s.outputs; player = h.at.player; commands = h.at.commands };
  world = h.world;
}

-- what it gives is how the load ended
pub load_is : (programs : List RawProgram) (name : List ℕ) (r : Answer) (e : End Reply) (t : State) → IsAnswerOf programs r e → IsValueEnd programs (loaded_ending name r) (value_behind (questions.Load name) t (outcome_of e))
load_is programs name (answers.Value v) (Gives (Plain u) s) t h = h
load_is programs name (answers.Value v) (Gives (WasRead items pragmas) s) t h = absurd h
load_is programs name (answers.Value v) (Gives IsSound s) t h = absurd h
load_is programs name (answers.Value v) (Gives (IsFaulty gs) s) t h = absurd h
load_is programs name (answers.Value v) (Stops x s) t h = absurd h
load_is programs name (answers.Faulty fs) (Gives (Plain u) s) t h = absurd h
load_is programs name (answers.Faulty fs) (Gives (WasRead items pragmas) s) t h = absurd h
load_is programs name (answers.Faulty fs) (Gives IsSound s) t h = absurd h
load_is programs name (answers.Faulty fs) (Gives (IsFaulty gs) s) t h = record { cause = ap (λ l. Failed (could_not_load name l)) h; place = tt }
load_is programs name (answers.Faulty fs) (Stops x s) t h = absurd h
load_is programs name (answers.Stopped stop) (Gives r s) t h = absurd h
load_is programs name (answers.Stopped stop) (Stops x s) t h = h

-- in the state behind it
pub load_state : (name : List ℕ) (e : End Reply) (t : State) → state_at (value_behind (questions.Load name) t (outcome_of e)) ≡ after t (outcome_of e)
load_state name (Gives (Plain u) s) t = refl
load_state name (Gives (WasRead items pragmas) s) t = refl
load_state name (Gives IsSound s) t = refl
load_state name (Gives (IsFaulty gs) s) t = refl
load_state name (Stops x s) t = refl
