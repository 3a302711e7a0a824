-- Instructions, with errors caught, one run after another.
use Rattle.std.proofs.Common.{◌≡◌, ◌∙◌, ◌<◌, ℕ, List, Some, None, refl, ap, sym, subst, arith}
use Rattle.lp_values.specs.declared.error.RunError.{RunError}
use Rattle.lp_values.specs.declared.value.Value.{Value}
use Rattle.lp_language.specs.Course as course
use Rattle.lp_language.specs.Course.{Gives, Stops, caught, here}
use Rattle.lp_isa.specs.Machine.{Goes}
use Rattle.lp_isa.specs.Runs.{Comes}
use Rattle.lp_isa.specs.SoundCode.{NextMatches}
use Rattle.lp_isa.specs.Work.{NextLess, work_of}
use Rattle.lp_world.specs.declared.frame.Frame.{Frame}
use Rattle.lp_world.specs.declared.live.Live.{Live}
use Rattle.lp_world.specs.Matches.{Matches}
use Rattle.lp_step.specs.declared.next.Next.TheVariants as nexts
use Rattle.lp_step.specs.Steps.{IsFit}
use Rattle.lp_run.specs.Kept.{Later}
use Rattle.lp_run.specs.Runs.{CanRun, RunsTo, left_of}
use Rattle.lp_run.proofs.Together.{left_same}
use Rattle.lp_asking.specs.declared.advance.Halt.TheVariants as halts
use Rattle.lp_asking.specs.declared.ending.Ending.TheVariants as endings
use Rattle.lp_asking.specs.declared.ending.Stop.{Stop}
use Rattle.lp_asking.specs.Endings.{cause_of}
use Rattle.lp_asking.specs.Stopping.{Advances, ComesToStop}
use Rattle.lp_asking.proofs.States.{stop_state}

-- what ran goes on from where it came
pub can_from : (live0 live1 : Live) (stack0 stack1 : List Value) (frame0 frame1 : Frame) (budget0 budget1 : ℕ) → CanRun live0 stack0 frame0 budget0 → RunsTo live0 stack0 frame0 budget0 nexts.Again live1 stack1 frame1 budget1 → CanRun live1 stack1 frame1 budget1
can_from live0 live1 stack0 stack1 frame0 frame1 budget0 budget1 h came =
    let c = came h.p h.k h.row h.function h.around h.moment h.of h.runs in
    record { p = h.p; k = h.k; row = h.row; function = h.function; around = h.around; moment = c.moment; of = h.of; runs = record { matches = c.matches; shaped = c.shaped; fit = c.fit; home = c.home } }

module _ (live0 live1 : Live) (stack0 stack1 stack2 : List Value) (frame0 frame1 frame2 : Frame) (budget0 budget1 : ℕ) (e : RunError) (stop : Stop) (is : cause_of stop.cause ≡ course.Failed e)
    (came : RunsTo live0 stack0 frame0 budget0 (nexts.Error e) live1 stack1 frame1 budget1) where
  -- an error that is caught
  pub error_caught : ComesToStop None stop stack1 frame1 stack2 frame2 → (IsFit live1 stack1 → IsFit live1 stack2) → RunsTo live0 stack0 frame0 budget0 nexts.Again live1 stack2 frame2 budget1
  error_caught stops fit p k row f a m of runs =
      let c = came p k row f a m of runs in
      let t = stops a live1 budget1 c.moment (here (course.Failed e)) is c.matches in
      let st : t.0.state ≡ c.moment.state = stop_state (caught (course.Failed e)) (here (course.Failed e)) c.moment.catches c.moment.stack c.moment.state t.0 t.1 in
      let less : work_of a.code t.0 < work_of a.code m = subst (NextLess a.code (work_of a.code m)) t.1 c.less in
      record {
        moment = t.0;
        matches = t.2;
        comes = subst (Comes a.code a.scene (Goes m)) t.1 c.comes;
        shaped = subst (NextMatches f.shapes) t.1 c.shaped;
        less = omega (arith, less);
        later = subst (Later m.state) (sym st) c.later;
        fit = fit c.fit;
        home = c.home;
      }

  -- less is left to do
  pub error_less : CanRun live0 stack0 frame0 budget0 → ComesToStop None stop stack1 frame1 stack2 frame2 → left_of frame2 budget1 < left_of frame0 budget0
  error_less h stops =
      let c = came h.p h.k h.row h.function h.around h.moment h.of h.runs in
      let t = stops h.around live1 budget1 c.moment (here (course.Failed e)) is c.matches in
      let less : work_of h.around.code t.0 < work_of h.around.code h.moment = subst (NextLess h.around.code (work_of h.around.code h.moment)) t.1 c.less in
      omega (arith, less, left_same h.around live0 stack0 frame0 budget0 h.moment h.runs.matches, left_same h.around live1 stack2 frame2 budget1 t.0 t.2)

  -- an error that is not
  pub error_ends : (s : Stop) → stop.place ≡ None → s ≡ stop → ComesToStop (Some s) stop stack1 frame1 stack2 frame2 → (IsFit live1 stack1 → IsFit live1 stack2) → Advances (halts.Ended (endings.Stopped s)) live0 stack0 frame0 budget0 live1 stack2 frame2 budget1
  error_ends s none same stops fit p k row f a m of runs =
      let c = came p k row f a m of runs in
      let t = stops a live1 budget1 c.moment (here (course.Failed e)) is c.matches in
      record {
        frame = frame1;
        moment = c.moment;
        matches = subst (λ l. Matches a live1 l frame1 budget1 c.moment) (sym t.2) c.matches;
        end = Stops (here (course.Failed e)) c.moment.state;
        comes = subst (Comes a.code a.scene (Goes m)) t.0 c.comes;
        is = (here (course.Failed e), refl, ap (λ z. cause_of z.cause) same ∙ is, refl, ap (λ z. z.place) same ∙ none);
        later = c.later;
        fit = fit c.fit;
      }

module _ (live0 live1 : Live) (stack0 stack1 : List Value) (frame0 frame1 : Frame) (budget0 budget1 : ℕ) where
  pub done_ends : (v : Value) → RunsTo live0 stack0 frame0 budget0 (nexts.Done v) live1 stack1 frame1 budget1 → Advances (halts.Ended (endings.Value v)) live0 stack0 frame0 budget0 live1 stack1 frame1 budget1
  done_ends v came p k row f a m of runs =
      let c = came p k row f a m of runs in
      record { frame = frame1; moment = c.moment; matches = c.matches; end = Gives v c.moment.state; comes = c.comes; is = refl; later = c.later; fit = c.fit }

  pub spent_ends : (s : Stop) → cause_of s.cause ≡ course.Spent → s.place ≡ None → RunsTo live0 stack0 frame0 budget0 nexts.Spent live1 stack1 frame1 budget1 → Advances (halts.Ended (endings.Stopped s)) live0 stack0 frame0 budget0 live1 stack1 frame1 budget1
  spent_ends s is none came p k row f a m of runs =
      let c = came p k row f a m of runs in
      record { frame = frame1; moment = c.moment; matches = c.matches; end = Stops (here course.Spent) c.moment.state; comes = c.comes; is = (here course.Spent, refl, is, refl, none); later = c.later; fit = c.fit }
