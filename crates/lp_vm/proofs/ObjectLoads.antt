-- Loads for the driver, as questions of the meaning.
use Rattle.std.proofs.Common.{◌≡◌, ◌∙◌, ◌++◌, [], ℕ, List, Option, Some, None, refl, ap, sym, subst, append-nil}
use Rattle.std.specs.Prelude.{reverse}
use Rattle.lp_values.specs.declared.id.ObjId.{ObjId}
use Rattle.lp_values.specs.declared.value.Value.{Value}
use Rattle.lp_code.specs.declared.program.RawProgram.{RawProgram}
use Rattle.lp_swapfile.specs.Device.{Bytes}
use Rattle.lp_language.specs.Course.{Ask, End, Gives, IsFaulty, IsSound, Load, Plain, Reply, Scene, Stops, WasRead, Wanted, outcome_of}
use Rattle.lp_meaning.specs.Askers.{asker_of, state_of}
use Rattle.lp_meaning.specs.Closing.{Has}
use Rattle.lp_meaning.specs.FileLoads.{load_call}
use Rattle.lp_meaning.specs.FunctionCalls.{callers_behind}
use Rattle.lp_meaning.specs.Questions.{meaning_of, means}
use Rattle.lp_front_end.specs.FrontEnds.{ThereIsOne}
use Rattle.lp_world.specs.declared.live.Live.{Live}
use Rattle.lp_asking.specs.declared.asker.Asker.{Asker}
use Rattle.lp_asking.proofs.Courses.{has_of}
use Rattle.lp_loading.specs.declared.job.Answer.{Answer}
use Rattle.lp_loading.specs.declared.job.Answer.TheVariants as answers
use Rattle.lp_loading.specs.declared.job.Purpose.TheVariants as purposes
use Rattle.lp_loading.specs.Going.{IsAnswerOf, IsAt, setting, state_in}
use Rattle.lp_vm.specs.Loading.{CanLoad, LoadEnds, Loads, load_course}
use Rattle.lp_vm.specs.Making.{AsksAt, IsBehind}
use Rattle.lp_vm.specs.ObjectLoading.{CanLoadObject, IsLoadAnswer, IsLoadAsked, LoadIsMeant, LoadServes}

-- an end of the load as an outcome

answer_is : (programs : List RawProgram) (r : Answer) (x : End Reply) → IsAnswerOf programs r x → IsLoadAnswer programs (outcome_of x).world r (outcome_of x).answer
answer_is programs (answers.Value v) (Gives (Plain u) s) h = h
answer_is programs (answers.Value v) (Gives (WasRead items pragmas) s) h = absurd h
answer_is programs (answers.Value v) (Gives IsSound s) h = absurd h
answer_is programs (answers.Value v) (Gives (IsFaulty faults) s) h = absurd h
answer_is programs (answers.Value v) (Stops x s) h = absurd h
answer_is programs (answers.Faulty fs) (Gives (Plain u) s) h = absurd h
answer_is programs (answers.Faulty fs) (Gives (WasRead items pragmas) s) h = absurd h
answer_is programs (answers.Faulty fs) (Gives IsSound s) h = absurd h
answer_is programs (answers.Faulty fs) (Gives (IsFaulty faults) s) h = h
answer_is programs (answers.Faulty fs) (Stops x s) h = absurd h
answer_is programs (answers.Stopped stop) (Gives r s) h = absurd h
answer_is programs (answers.Stopped stop) (Stops x s) h = h

-- the driver is no function
no_scene : (programs : List RawProgram) (s : Option Scene) → s ≡ None → AsksAt programs None s
no_scene programs s e = subst (AsksAt programs None) (sym e) tt

no_callers : (s : Option Scene) (callers : List ObjId) → s ≡ None → callers ≡ [] → callers_behind s ≡ reverse (callers ++ [])
no_callers s callers e n = ap callers_behind e ∙ sym (ap (λ l. reverse (l ++ [])) n)

module _ (name : List ℕ) (told : Option Bytes) (live : Live) (asker : Asker) (budget : ℕ) where
  module _ (programs : List RawProgram) (a : Ask) (h : IsLoadAsked name told programs live asker budget a) where
    behind : IsBehind None None told programs live.outputs live asker budget (asker_of a) (state_of a)
    behind = record {
      fits = record {
        at = record { stands = h.world.stands; left = sym h.left; outputs = sym (append-nil live.outputs); player = h.by.player; commands = h.by.commands };
        world = h.world;
      };
      interactive = h.by.interactive;
      loads = h.by.loads;
      callers = no_callers a.scene asker.callers.items h.scene h.none;
      depth = h.by.depth;
      place = no_scene programs a.scene h.scene;
    }

  pub object_can : ThereIsOne → CanLoadObject name told live asker budget → CanLoad None None told live asker budget
  object_can one h = record { front = one.0; real = one.1; programs = h.programs; before = live.outputs; by = asker_of h.ask; state = state_of h.ask; behind = behind h.programs h.ask h.asked }

  means_load : (a : Ask) → a.what ≡ Load name Wanted → means a ≡ Some (load_call a name Wanted)
  means_load a what = ap (meaning_of a) what

  -- what is loaded is what the question means
  pub object_meant : (told1 : Option Bytes) (live1 : Live) (stack0 stack1 : List Value) (asker1 : Asker) (budget1 : ℕ) (r : Answer) → Loads None None name purposes.Wanted told live stack0 asker budget told1 live1 stack1 asker1 budget1 r
      → LoadIsMeant name told live stack0 asker budget told1 live1 stack1 asker1 budget1 r
  object_meant told1 live1 stack0 stack1 asker1 budget1 r loads front real programs a h = by y.end refl
    where
      y : LoadEnds front (load_course name purposes.Wanted (asker_of a) (state_of a)) told1 programs live.outputs live1 stack1 stack0 asker1 budget1 r
      y = loads.loaded front real programs live.outputs (asker_of a) (state_of a) (behind programs a h)

      has : Has front a (outcome_of y.end)
      has = has_of front a (load_call a name Wanted) y.end (means_load a h.what) y.ends

      by : (e : End Reply) → y.end ≡ e → LoadServes front told1 programs live.outputs live1 stack1 stack0 asker1 budget1 r a
      by (Gives reply s) e =
          let at = subst (λ x. IsAt (setting told1 y.programs live.outputs) live1 asker1.turn budget1 (state_in x)) e y.at in
          record {
            outcome = outcome_of (Gives reply s);
            has = subst (λ x. Has front a (outcome_of x)) e has;
            programs = y.programs;
            grown = y.grown;
            world = at.world;
            left = sym at.at.left;
            player = at.at.player;
            commands = at.at.commands;
            outputs = at.at.outputs;
            answer = answer_is y.programs r (Gives reply s) (subst (IsAnswerOf y.programs r) e y.answer);
            same = y.left;
          }
      by (Stops x s) e =
          let at = subst (λ x. IsAt (setting told1 y.programs live.outputs) live1 asker1.turn budget1 (state_in x)) e y.at in
          record {
            outcome = outcome_of (Stops x s);
            has = subst (λ x. Has front a (outcome_of x)) e has;
            programs = y.programs;
            grown = y.grown;
            world = at.world;
            left = sym at.at.left;
            player = at.at.player;
            commands = at.at.commands;
            outputs = at.at.outputs;
            answer = answer_is y.programs r (Stops x s) (subst (IsAnswerOf y.programs r) e y.answer);
            same = y.left;
          }
