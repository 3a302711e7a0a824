-- The steps of a tick take the ends of their calls.
use Rattle.std.proofs.Common.{◌≡◌, ◌∙◌, ℕ, Bool, List, Option, None, ap, sym}
use Rattle.lp_values.specs.declared.id.ObjId.{ObjId}
use Rattle.lp_values.specs.declared.value.Value.{Value}
use Rattle.lp_swapfile.specs.Device.{Bytes}
use Rattle.lp_language.specs.Course.{and_then}
use Rattle.lp_meaning.specs.Ticks.{after_beat, after_clean_up, clean_ups, heart_beats, resets}
use Rattle.lp_lasting_laws.specs.Numbers.{calls_numbered}
use Rattle.lp_world.specs.declared.live.Live.{Live}
use Rattle.lp_turn.specs.Due.{Due}
use Rattle.lp_turn.specs.Ends.{HasValueOf, is_uncaught}
use Rattle.lp_turn.specs.Going.{Takes}
use Rattle.lp_turn.specs.Ticks.{answered_so, ended_so}
use Rattle.lp_turn.specs.declared.job.CallEnd.{CallEnd}
use Rattle.lp_turn.specs.declared.job.Going.TheVariants as goings
use Rattle.lp_turn.specs.declared.job.Waiting.TheVariants as waitings
use Rattle.lp_turn.specs.declared.tick_job.TickGoing.TheVariants as tick_goings
use Rattle.lp_turn.specs.declared.tick_job.TickWaiting.TheVariants as tick_waitings

pub call_out_ended : (told0 told1 : Option Bytes) (live0 live1 : Live) (ns : List ℕ) (end : CallEnd) (v : Value) → HasValueOf None end told0 live0 told1 live1 v
    → Takes (waitings.Tick (tick_waitings.CallOut ns)) end told0 live0 told1 live1 (goings.Tick (tick_goings.CallOuts ns))
call_out_ended told0 told1 live0 live1 ns end v f programs before a s h i =
    let r = f programs before a s h i in record { state = r.state; rests = r.rests; course = ap (λ c. and_then c (λ d s. calls_numbered ns s)) r.course }

pub beat_ended : (told0 told1 : Option Bytes) (live0 live1 : Live) (o : ObjId) (player : Option ObjId) (due : Due) (end : CallEnd) (v : Value) (u : Bool) → HasValueOf player end told0 live0 told1 live1 v → u ≡ is_uncaught end
    → Takes (waitings.Tick (tick_waitings.Beat o player due)) end told0 live0 told1 live1 (goings.Tick (tick_goings.Beaten o u due))
beat_ended told0 told1 live0 live1 o player due end v u f e programs before a s h i =
    let r = f programs before a s h i in
    record {
      state = r.state;
      rests = r.rests;
      course = ap (λ c. and_then c (λ d s. heart_beats due.moment due.objects (after_beat o d s))) r.course ∙ ap (λ b. heart_beats due.moment due.objects (after_beat o (ended_so b) r.state)) (r.end ∙ sym e);
    }

pub reset_ended : (told0 told1 : Option Bytes) (live0 live1 : Live) (due : Due) (end : CallEnd) (v : Value) → HasValueOf None end told0 live0 told1 live1 v
    → Takes (waitings.Tick (tick_waitings.Reset due)) end told0 live0 told1 live1 (goings.Tick (tick_goings.Resets due))
reset_ended told0 told1 live0 live1 due end v f programs before a s h i =
    let r = f programs before a s h i in record { state = r.state; rests = r.rests; course = ap (λ c. and_then c (λ d s. resets due.moment due.objects s)) r.course }

pub clean_up_ended : (told0 told1 : Option Bytes) (live0 live1 : Live) (o : ObjId) (due : Due) (end : CallEnd) (v : Value) → HasValueOf None end told0 live0 told1 live1 v
    → Takes (waitings.Tick (tick_waitings.CleanUp o due)) end told0 live0 told1 live1 (goings.Tick (tick_goings.CleanedUp o v due))
clean_up_ended told0 told1 live0 live1 o due end v f programs before a s h i =
    let r = f programs before a s h i in
    record {
      state = r.state;
      rests = r.rests;
      course = ap (λ c. and_then c (λ d s. clean_ups due.moment due.objects (after_clean_up o d s))) r.course ∙ ap (λ x. clean_ups due.moment due.objects (after_clean_up o (answered_so x) r.state)) r.value;
    }
