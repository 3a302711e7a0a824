-- The call-outs of a tick, one after another.
use Rattle.std.proofs.Common.{◌≡◌, ◌∙◌, ◌∷◌, [], ℕ, List, Option, Some, None, IsSome, All, refl, ap, sym, subst, map, option_map, unwrap_or}
use Rattle.lp_code.specs.declared.program.RawProgram.{RawProgram}
use Rattle.lp_cells.specs.Cells.{IsThere}
use Rattle.lp_events.specs.declared.out.Out.{Out}
use Rattle.lp_swapfile.specs.Device.{Bytes}
use Rattle.lp_timers.specs.Timers.{CallOut, due_at}
use Rattle.lp_timers.specs.Timing.{Timing}
use Rattle.lp_timers.specs.Waiting.{call_out_of, numbered}
use Rattle.lp_timers.specs.declared.call_out.CallOut as taken
use Rattle.lp_language.specs.Course.{Course, State, and_then}
use Rattle.lp_meaning.specs.EventTurns.{done, driver_apply}
use Rattle.lp_meaning.specs.Ticks.{at_moment, without_due}
use Rattle.lp_lasting_laws.specs.Numbers.{calls_due, calls_numbered}
use Rattle.lp_world.specs.Closed.{IsClosed}
use Rattle.lp_world.specs.Rows.{row_at}
use Rattle.lp_world.specs.declared.live.Live.{Live}
use Rattle.lp_turn.specs.Calls.{IsAskedThere}
use Rattle.lp_turn.specs.Going.{BeginsAs, BeginsWith, Goes}
use Rattle.lp_turn.specs.Resting.{Rests}
use Rattle.lp_turn.specs.TickSteps.{calling_out, first_waiting, with_left, without_number}
use Rattle.lp_turn.specs.declared.job.Asked.TheVariants as asks
use Rattle.lp_turn.specs.declared.job.Call.{Call}
use Rattle.lp_turn.specs.declared.job.Going.TheVariants as goings
use Rattle.lp_turn.specs.declared.job.Step.{Step}
use Rattle.lp_turn.specs.declared.job.Step.TheVariants as steps
use Rattle.lp_turn.specs.declared.job.Waiting.TheVariants as waitings
use Rattle.lp_turn.specs.declared.tick_job.TickGoing.TheVariants as tick_goings
use Rattle.lp_turn.specs.declared.tick_job.TickWaiting.TheVariants as tick_waitings
use Rattle.lp_turn.proofs.Connected.{asks_as}
use Rattle.lp_turn.proofs.Kept.{leads_as}
use Rattle.lp_turn.proofs.Timed.{found_number, numbered_has, rests_clocked, rests_retimed}

-- the call-outs that are due
pub calls_begin : (live : Live) (t : ℕ) (ns : List ℕ) → ns ≡ map (λ (c : CallOut). c.number) (due_at t live.timers.call_outs) → BeginsAs (calls_due t) live (record live { clock = t }) (goings.Tick (tick_goings.CallOuts ns))
calls_begin live t ns e g programs before s h = record {
  state = record s { world = at_moment s.world t };
  rests = rests_clocked g programs before live s t h;
  course = ap (λ ms. calls_numbered ms (record s { world = at_moment s.world t })) (ap (λ (x : Timing). map (λ (c : CallOut). c.number) (due_at t x.call_outs)) (sym h.world.stands.rest.timing) ∙ sym e);
}

-- what is called, by the first of them that waits still
by_first : State → Option (CallOut × List ℕ) → Course (Unit {0})
by_first s None = done s
by_first s (Some x) = calling_out x.0 x.1 (record s { world = without_due s.world x.0.number })

calls_as : (ns : List ℕ) (s : State) → calls_numbered ns s ≡ by_first s (first_waiting s.world.call_outs ns)
unfolding by_first
calls_as [] s = refl
calls_as (n ∷ ns) s = by (numbered s.world.call_outs n) refl (calls_as ns s)
  where
    by : (q : Option CallOut) → numbered s.world.call_outs n ≡ q → calls_numbered ns s ≡ by_first s (first_waiting s.world.call_outs ns)
        → (elim q [ Some c ↦ and_then (driver_apply None None c.object c.function c.arguments (record s { world = without_due s.world n })) (λ d s. calls_numbered ns s) | None ↦ calls_numbered ns s ])
        ≡ by_first s (elim q [ Some c ↦ Some (c, ns) | None ↦ first_waiting s.world.call_outs ns ])
    by None e k = k
    by (Some c) e k = ap (λ m. calling_out c ns (record s { world = without_due s.world m })) (sym (found_number s.world.call_outs n c e))

calls_in : (g : Option Bytes) (programs : List RawProgram) (before : List Out) (live : Live) (s : State) (ns : List ℕ) → Rests g programs before live s → calls_numbered ns s ≡ by_first s (first_waiting live.timers.call_outs ns)
calls_in g programs before live s ns h = calls_as ns s ∙ ap (λ (x : Timing). by_first s (first_waiting x.call_outs ns)) (sym h.world.stands.rest.timing)

-- one that was taken out is called
pub call_begins : (live : Live) (c : taken.CallOut) (ns : List ℕ) (call : Call) → IsSome (row_at live.objects c.ob.0) → call.asked ≡ asks.Apply c.ob c.fun → call.player ≡ None → call.interactive ≡ None → call.arguments.items ≡ c.args.items
    → BeginsWith (calling_out (call_out_of c) ns) live live (steps.Asks call (waitings.Tick (tick_waitings.CallOut ns)))
call_begins live c ns call r a b i d g programs before s h = record {
  state = s;
  rests = h;
  there = subst (λ x. IsAskedThere live.objects x) (sym a) r;
  course = asks_as (asks.Apply c.ob c.fun) None None c.args.items s (waitings.Tick (tick_waitings.CallOut ns)) call a b i d;
}

pub call_goes : (live : Live) (t : Timing) (ns ms : List ℕ) (c : taken.CallOut) (r : Step) → with_left (Some c) ms ≡ first_waiting live.timers.call_outs ns → t ≡ without_number live.timers c.number
    → BeginsWith (calling_out (call_out_of c) ms) (record live { timers = t }) (record live { timers = t }) r → Goes r (goings.Tick (tick_goings.CallOuts ns)) live (record live { timers = t })
unfolding by_first
call_goes live t ns ms c r e q b g programs before s h =
    leads_as r g programs before (record live { timers = t }) (calling_out (call_out_of c) ms (record s { world = without_due s.world c.number })) (calls_numbered ns s) (calls_in g programs before live s ns h ∙ ap (by_first s) (sym e))
    (b g programs before (record s { world = without_due s.world c.number })
    (subst (λ u. Rests g programs before (record live { timers = u }) (record s { world = without_due s.world c.number })) (sym q) (rests_retimed g programs before live s (λ x. without_number x c.number) h)))

pub no_call_goes : (live : Live) (t : Timing) (ns ms : List ℕ) → with_left None ms ≡ first_waiting live.timers.call_outs ns → t ≡ live.timers → Goes steps.Ends (goings.Tick (tick_goings.CallOuts ns)) live (record live { timers = t })
unfolding by_first
no_call_goes live t ns ms e q g programs before s h =
    record { state = s; rests = subst (λ u. Rests g programs before (record live { timers = u }) s) (sym q) h; course = calls_in g programs before live s ns h ∙ ap (by_first s) (sym e) }

-- Numbers one after another: one with which none waits is passed over.
pub taken_first : (old : Timing) (ns ms : List ℕ) (n : ℕ) (c : taken.CallOut) → ns ≡ n ∷ ms → option_map call_out_of (Some c) ≡ numbered old.call_outs n → with_left (Some c) ms ≡ first_waiting old.call_outs ns
taken_first old ns ms n c e f = sym (ap (first_waiting old.call_outs) e ∙ ap (λ q. elim q [ Some d ↦ Some (d, ms) | None ↦ first_waiting old.call_outs ms ]) (sym f))

pub passed_over : (old : Timing) (ns ms : List ℕ) (n : ℕ) → ns ≡ n ∷ ms → None ≡ numbered old.call_outs n → first_waiting old.call_outs ms ≡ first_waiting old.call_outs ns
passed_over old ns ms n e f = sym (ap (first_waiting old.call_outs) e ∙ ap (λ q. elim q [ Some d ↦ Some (d, ms) | None ↦ first_waiting old.call_outs ms ]) (sym f))

pub none_first : (old : Timing) (ns ms : List ℕ) → ns ≡ [] → with_left None ms ≡ first_waiting old.call_outs ns
none_first old ns ms e = sym (ap (first_waiting old.call_outs) e)

pub taken_number : (old : Timing) (n : ℕ) (c : taken.CallOut) → option_map call_out_of (Some c) ≡ numbered old.call_outs n → c.number ≡ n
taken_number old n c e = found_number old.call_outs n (call_out_of c) (sym e)

-- what it is called with is there
first_has : (P : CallOut → Type 0) (cs : List CallOut) (ns : List ℕ) (x : CallOut × List ℕ) → All P cs → Some x ≡ first_waiting cs ns → P x.0
first_has P cs [] x a e = cc
first_has P cs (n ∷ ns) x a e = by (numbered cs n) refl (λ f. first_has P cs ns x a f) e
  where
    by : (q : Option CallOut) → numbered cs n ≡ q → (Some x ≡ first_waiting cs ns → P x.0) → Some x ≡ (elim q [ Some c ↦ Some (c, ns) | None ↦ first_waiting cs ns ]) → P x.0
    by None q k e = k e
    by (Some c) q k e = subst P (sym (ap (λ (o : Option (CallOut × List ℕ)). (unwrap_or o x).0) e)) (numbered_has P cs n c a q)

pub taken_there : (live : Live) (ns ms : List ℕ) (c : taken.CallOut) → IsClosed live → with_left (Some c) ms ≡ first_waiting live.timers.call_outs ns → All (IsThere live.cells) c.args.items
taken_there live ns ms c h e = first_has (λ (x : CallOut). All (IsThere live.cells) x.arguments) live.timers.call_outs ns (call_out_of c, ms) h.call_outs e
