-- The efun `command`: what it is answered.
use Rattle.std.proofs.Common.{◌≡◌, ◌∙◌, ◌++◌, [], ◌≤◌, ℕ, List, Option, Some, refl, ap, sym, subst, append-nil, append_assoc}
use Rattle.std.proofs.Math.Nat.{le_trans}
use Rattle.lp_values.specs.declared.id.ObjId.{ObjId}
use Rattle.lp_values.specs.declared.value.Value.{Value}
use Rattle.lp_code.specs.declared.program.RawProgram.{RawProgram}
use Rattle.lp_instr.specs.declared.efun.Efun.TheVariants as efuns
use Rattle.lp_swapfile.specs.Device.{Bytes}
use Rattle.lp_language.specs.Course.{Ask, CanAnswer, Command, End, Gives, Over, State, Stops, after, and_then, end_of_outcome, outcome_of}
use Rattle.lp_meaning.specs.Askers.{asker_of, question, state_of, with_player_back}
use Rattle.lp_meaning.specs.Closing.{Ends}
use Rattle.lp_meaning.specs.FrontEnd.{FrontEnd}
use Rattle.lp_meaning.specs.Questions.{efun_in}
use Rattle.lp_meaning.proofs.Kept.{outcomes_can_be}
use Rattle.lp_front_end.specs.FrontEnds.{IsFrontEnd}
use Rattle.lp_world.specs.declared.live.Live.{Live}
use Rattle.lp_step.specs.Steps.{IsFit}
use Rattle.lp_run.proofs.Together.{home_same}
use Rattle.lp_targets.specs.Callees.{IsWorldOf}
use Rattle.lp_efuns.specs.declared.answer.Answer.{Answer}
use Rattle.lp_efuns.specs.Turns.{At}
use Rattle.lp_asking.specs.declared.asker.Asker.{Asker}
use Rattle.lp_asking.specs.declared.ending.Ending.{Ending}
use Rattle.lp_asking.specs.declared.ending.Ending.TheVariants as endings
use Rattle.lp_asking.specs.declared.ending.Place.{Place}
use Rattle.lp_asking.specs.Endings.{IsEndingThere, plain_end}
use Rattle.lp_asking.proofs.Courses.{asks_ends, over_ends}
use Rattle.lp_beginning.specs.Beginning.{Fits}
use Rattle.lp_beginning.specs.Ends.{IsValueEnd, state_at}
use Rattle.lp_calling.specs.Beginning.{whole}
use Rattle.lp_calling.specs.Jobs.{ended}
use Rattle.lp_commanding.specs.declared.job.CommandBegun.TheVariants as begun
use Rattle.lp_commanding.specs.Efuns.{HasCommanded, commanded}
use Rattle.lp_commanding.specs.Going.{IsStillAt}
use Rattle.lp_vm.specs.declared.request.Request.TheVariants as requests
use Rattle.lp_vm.specs.Answering.{CanServe, IsAsked, Serves}
use Rattle.lp_vm.specs.CommandEfun.{BeginsAt, EndsAs, with_player}
use Rattle.lp_vm.specs.Commanding.{AsksCommand, CanObey, Obeys}
use Rattle.lp_vm.specs.Cycle.{Answers}
use Rattle.lp_vm.specs.Efuns.{ending_of}
use Rattle.lp_vm.specs.Going.{IsOutcome}
use Rattle.lp_vm.specs.Requests.{AsksEfun}
use Rattle.lp_vm.proofs.Answered.{answer_outcome, at_start, efun_has, ended_answers, scene_so, setting}
use Rattle.lp_vm.proofs.Clones.{callers_so, value_outcome}
use Rattle.lp_vm.proofs.Grown.{grows_same, outcome_grown}
use Rattle.lp_vm.proofs.Makings.{end_state, value_end}
use Rattle.lp_vm.proofs.Startings.{same_asker}

module _ (at : Place) (args : ℕ) (live : Live) (stack0 stack1 : List Value) (asker0 : Asker) (budget0 budget1 : ℕ) where
  -- It ends, and no line is carried out.
  pub command_answered : (told : Option Bytes) (x : Answer) → BeginsAt (begun.Ends x) at asker0 live stack0 args budget0 stack1 budget1 → IsFit live stack1 → IsEndingThere live.cells (ending_of x) → CanServe told live stack0 asker0 budget0 (requests.Efun at efuns.Command) args
      → Answers (requests.Efun at efuns.Command) args told live stack0 asker0 budget0 told live stack1 asker0 budget1 (ending_of x)
  command_answered told x b fit there can =
      ended_answers at efuns.Command live live stack0 stack1 asker0 asker0 args budget0 budget1 b.caller x b.this b.interactive b.callers
      (λ g a c below scene stands lies many. let r = b.begins asker0.turn below a.arguments lies many in (r.stack, r.course g (asker_of a) c (state_of a) scene stands)) (same_asker asker0) (home_same live.objects) fit there (told, can) told

  -- A line is carried out.
  module _ (o : ObjId) (line : List ℕ) (b : BeginsAt (begun.Runs o line) at asker0 live stack0 args budget0 stack1 budget1) where
    abbrev player : Asker
    player = with_player (Some o) asker0

    module _ (told : Option Bytes) (programs : List RawProgram) (a : Ask) (below : List Value) (h : IsAsked told programs live stack0 below asker0 args budget0 a) (q : AsksEfun programs asker0 at efuns.Command a) where
      begins : HasCommanded o line (whole efuns.Command a.arguments) b.caller live asker0.turn budget0 below stack1 budget1
      begins = b.begins asker0.turn below a.arguments h.lies h.many

      abbrev came : (t : State) × IsStillAt (state_of a) (setting told programs live.outputs) live asker0.turn budget1 t × (efun_in efuns.Command (asker_of a) q.scene a.arguments (state_of a) ≡ and_then (commanded o line (asker_of a) t) (ended efuns.Command))
      came =
          begins.course (setting told programs live.outputs) (asker_of a) q.scene (state_of a) (scene_so b.caller programs asker0 at efuns.Command a q b.this b.interactive b.callers)
          (at_start told programs live stack0 below asker0 args budget0 a h)

      -- the state in which the line is carried out, and the question
      abbrev then_ : State
      then_ = record came.0 { player = Some o }

      abbrev the_ask : Ask
      the_ask = question (Command o line) [] (asker_of a) then_

      asked : IsAsked told programs live stack1 stack1 player 0 budget1 the_ask
      asked = record {
        by = record { player = refl; commands = came.1.settled.at.commands; interactive = h.by.interactive; loads = h.by.loads; depth = h.by.depth };
        world = subst (IsWorldOf told programs live) (sym came.1.world) h.world;
        left = sym came.1.settled.at.left;
        lies = sym (append-nil stack1);
        many = refl;
      }

      asks : AsksCommand player (Some at.this) o line the_ask
      asks = record { callers = callers_so a.scene q.scene at.this asker0.callers.items q.scene_is q.runs.this q.callers; what = refl }

      -- What it was answered
      module _ (front : FrontEnd) (real : IsFrontEnd front) (told2 : Option Bytes) (live2 : Live) (stack2 : List Value) (asker2 : Asker) (budget2 budget3 : ℕ) (e d : Ending)
          (obeys : Obeys (Some at.this) o line told live stack1 player budget1 told2 live2 stack2 asker2 budget2 e) where
        sv : Serves front told2 programs live.outputs live2 stack2 stack1 asker2 budget2 e the_ask
        sv = obeys.meant front real programs the_ask stack1 asked asks

        can_be : CanAnswer the_ask sv.outcome
        can_be = outcomes_can_be front the_ask sv.outcome sv.has

        abbrev grew : List RawProgram
        grew = sv.is.programs

        abbrev end : End Value
        end = end_of_outcome then_ sv.outcome

        abbrev asker3 : Asker
        asker3 = with_player asker0.turn.player asker2

        fits_after : Fits (setting told2 grew live.outputs) live2 asker2.turn budget2 (after then_ sv.outcome)
        fits_after = record {
          at = record {
            stands = sv.is.world.stands;
            left = sym sv.is.left;
            outputs = sv.is.outputs ∙ outs_so came.1.settled.at.outputs;
            player = sv.is.player;
            commands = sv.is.commands;
          };
          world = sv.is.world;
        }
          where
            outs_so : live.outputs ≡ live.outputs ++ came.0.outputs → live.outputs ++ sv.outcome.outputs ≡ live.outputs ++ (came.0.outputs ++ sv.outcome.outputs)
            outs_so same = ap (λ l. l ++ sv.outcome.outputs) same ∙ append_assoc live.outputs came.0.outputs sv.outcome.outputs

        fits_end : Fits (setting told2 grew live.outputs) live2 asker2.turn budget2 (state_at end)
        fits_end = subst (Fits (setting told2 grew live.outputs) live2 asker2.turn budget2) (sym (end_state sv.outcome.answer (after then_ sv.outcome))) fits_after

        ends_so : IsValueEnd grew e end
        ends_so = value_end grew e sv.outcome.answer (after then_ sv.outcome) sv.is.answer

        -- The whole is over so.
        record IsEnded (z : End Value) : Type 0 where
          last : End Value
          over : and_then (Over (with_player_back came.0.player z)) (ended efuns.Command) ≡ Over last
          is : IsOutcome told2 grew live.outputs live2 asker3 budget3 d (outcome_of (plain_end last))

        at_back : (s : State) → Fits (setting told2 grew live.outputs) live2 asker2.turn budget2 s → At (setting told2 grew live.outputs) live2 asker3.turn budget2 (record s { player = came.0.player })
        at_back s fits = record { stands = fits.at.stands; left = fits.at.left; outputs = fits.at.outputs; player = came.1.settled.at.player; commands = fits.at.commands }

        ended_by : (y : Ending) (z : End Value) → Fits (setting told2 grew live.outputs) live2 asker2.turn budget2 (state_at z) → IsValueEnd grew y z → EndsAs y live2 budget2 d budget3 → IsEnded z
        ended_by (endings.Value v) (Gives u s) fits is h =
            let k = h.2 (setting told2 grew live.outputs) asker3.turn (record s { player = came.0.player }) (at_back s fits) in
            record {
              last = k.0;
              over = ap (λ x. ended efuns.Command x (record s { player = came.0.player })) (sym is) ∙ k.1;
              is = subst (λ y. IsOutcome told2 grew live.outputs live2 asker3 budget3 y (outcome_of (plain_end k.0))) (sym h.1) (answer_outcome told2 grew live.outputs live2 live2 asker3 budget3 h.0 s.world k.0 fits.world k.2);
            }
        ended_by (endings.Value v) (Stops x s) fits is h = absurd is
        ended_by (endings.Stopped stop) (Gives u s) fits is h = absurd is
        ended_by (endings.Stopped stop) (Stops x s) fits is h =
            let s1 : State = record s { player = came.0.player } in
            record {
              last = Stops x s1;
              over = refl;
              is = subst (λ y. IsOutcome told2 grew live.outputs live2 asker3 budget3 y (outcome_of (plain_end (Stops x s1)))) (sym h.0)
                  (subst (λ n. IsOutcome told2 grew live.outputs live2 asker3 n (endings.Stopped stop) (outcome_of (plain_end (Stops x s1)))) (sym h.1)
                  (value_outcome told2 grew grew live.outputs live2 asker3 budget2 (endings.Stopped stop) (Stops x s1) (grows_same grew) (record { at = at_back s fits; world = fits.world }) is));
            }

        served : EndsAs e live2 budget2 d budget3 → Serves front told2 programs live.outputs live2 stack2 below asker3 budget3 d a
        served ends =
            let k = ended_by e end fits_end ends_so ends in
            record {
              outcome = outcome_of (plain_end k.last);
              has = efun_has front a efuns.Command q.scene k.last q.scene_is q.what
                  (subst (λ c. Ends front c k.last) (sym came.2)
                  (asks_ends front the_ask (λ x. and_then (Over (with_player_back came.0.player (end_of_outcome then_ x))) (ended efuns.Command)) sv.outcome k.last sv.has can_be (subst (λ c. Ends front c k.last) (sym k.over) (over_ends front k.last))));
              is = outcome_grown told2 programs grew live.outputs live2 asker3 budget3 d (outcome_of (plain_end k.last)) sv.is.grown k.is;
              left = sv.left ∙ begins.stack;
            }

    pub command_obeys : (told : Option Bytes) → CanServe told live stack0 asker0 budget0 (requests.Efun at efuns.Command) args → CanObey (Some at.this) o line told live stack1 player budget1
    command_obeys told h = record {
      front = h.front;
      real = h.real;
      can = record {
        programs = h.programs;
        ask = the_ask told h.programs h.ask h.below h.asked h.is.0;
        below = stack1;
        asked = asked told h.programs h.ask h.below h.asked h.is.0;
        asks = asks told h.programs h.ask h.below h.asked h.is.0;
      };
    }

    pub command_answers : (told told2 : Option Bytes) (live2 : Live) (stack2 : List Value) (asker2 : Asker) (budget2 budget3 : ℕ) (e d : Ending) → Obeys (Some at.this) o line told live stack1 player budget1 told2 live2 stack2 asker2 budget2 e → EndsAs e live2 budget2 d budget3
        → budget1 ≤ budget0 → budget3 ≤ budget2 → IsEndingThere live2.cells d → Answers (requests.Efun at efuns.Command) args told live stack0 asker0 budget0 told2 live2 stack2 (with_player asker0.turn.player asker2) budget3 d
    command_answers told told2 live2 stack2 asker2 budget2 budget3 e d obeys ends less last there = record {
      served = λ front real programs a below h r. served told programs a below h r.0 front real told2 live2 stack2 asker2 budget2 budget3 e d obeys ends;
      same = record { interactive = obeys.same.interactive; loads = obeys.same.loads; callers = obeys.same.callers; depth = obeys.same.depth };
      spends = le_trans last (le_trans obeys.spends less);
      home = obeys.home;
      fit = obeys.fit;
      there = there;
    }
