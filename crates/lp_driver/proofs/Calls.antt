-- Calls of the driver that were carried out.
use Rattle.std.proofs.Common.{◌≡◌, ◌∙◌, ◌+◌, ◌++◌, [], ℕ, List, Option, None, ap, refl, sym, append_assoc, length, map, reverse}
use Rattle.lp_values.specs.declared.id.ObjId.{ObjId}
use Rattle.lp_values.specs.declared.value.Value.{Value}
use Rattle.lp_code.specs.declared.program.RawProgram.{RawProgram}
use Rattle.lp_events.specs.declared.out.Out.{Out}
use Rattle.lp_swapfile.specs.Device.{Bytes}
use Rattle.lp_language.specs.World.{World}
use Rattle.lp_language.specs.Course as course
use Rattle.lp_language.specs.Course.{Apply, Asked, Load, State, Wanted, after}
use Rattle.lp_meaning.specs.EventTurns.{begun}
use Rattle.lp_front_end.specs.FrontEnds.{ThereIsOne}
use Rattle.lp_world.specs.declared.live.Live.{Live}
use Rattle.lp_efuns.specs.Turns.{commands_of}
use Rattle.lp_asking.specs.declared.asker.Asker.{Asker}
use Rattle.lp_asking.specs.declared.ending.Ending.{Ending}
use Rattle.lp_asking.specs.Asking.{IsBy, loading_of}
use Rattle.lp_vm.specs.LoadAnswer.{Answer}
use Rattle.lp_vm.specs.Reaching.{Applies}
use Rattle.lp_turn.specs.Calls.{IsEndOf}
use Rattle.lp_turn.specs.Resting.{Rests}
use Rattle.lp_turn.specs.declared.job.CallEnd.{CallEnd}
use Rattle.lp_turn.specs.declared.job.CallEnd.TheVariants as call_ends
use Rattle.lp_vm.specs.Answering.{IsAsked}
use Rattle.lp_vm.specs.Applying.{CallIsMeant, CanCall}
use Rattle.lp_vm.specs.ObjectLoading.{CanLoadObject, IsLoadAnswer, IsLoadAsked, LoadIsMeant}
use Rattle.lp_driver.specs.Carrying.{CarriesOut, IsDriver, RestsForOne, asked_in}

-- the driver asks
pub is_by : (what : Asked) (player interactive : Option ObjId) (xs : List Value) (s : State) (asker : Asker) → IsDriver player interactive asker → IsBy asker (asked_in what player interactive xs s)
is_by what player interactive xs s asker d = record {
  player = sym d.player;
  commands = ap commands_of (sym d.commands);
  interactive = sym d.interactive;
  loads = ap (λ l. map loading_of (reverse l)) (sym d.loads);
  depth = ap (λ n. n + 1) (sym d.depth);
}

-- A function of an object

pub call_asked : (told : Option Bytes) (programs : List RawProgram) (before : List Out) (live : Live) (s : State) (what : Asked) (player interactive : Option ObjId) (xs stack : List Value) (asker : Asker) (n : ℕ) → IsDriver player interactive asker → stack ≡ xs → n ≡ length xs → Rests told programs before live s
    → IsAsked told programs live stack [] asker n 1000000 (asked_in what player interactive xs s)
call_asked told programs before live s what player interactive xs stack asker n d lies many h = record { by = is_by what player interactive xs s asker d; world = h.world; left = refl; lies = lies; many = sym many }

pub applied : (o : ObjId) (name : List ℕ) (player interactive : Option ObjId) (xs : List Value) (s : State) (asker : Asker) → IsDriver player interactive asker → Applies asker None o name (asked_in (Apply o name) player interactive xs s)
applied o name player interactive xs s asker d = record { callers = ap (λ cs. reverse (cs ++ [])) (sym d.callers); what = refl }

pub can_call : (told : Option Bytes) (live : Live) (o : ObjId) (name : List ℕ) (player interactive : Option ObjId) (xs stack : List Value) (asker : Asker) (n : ℕ) → IsDriver player interactive asker → stack ≡ xs → n ≡ length xs → RestsForOne told live
    → CanCall None o name n told live stack asker 1000000
can_call told live o name player interactive xs stack asker n d lies many h = record {
  programs = h.programs;
  ask = asked_in (Apply o name) player interactive xs h.state;
  below = [];
  asked = call_asked told h.programs h.before live h.state (Apply o name) player interactive xs stack asker n d lies many h.rests;
  applies = applied o name player interactive xs h.state asker d;
}

pub call_carried : (told0 told1 : Option Bytes) (live0 live1 : Live) (o : ObjId) (name : List ℕ) (player interactive : Option ObjId) (xs stack0 stack1 : List Value) (asker0 asker1 : Asker) (n budget1 : ℕ) (e : Ending) → IsDriver player interactive asker0 → stack0 ≡ xs → n ≡ length xs
    → CallIsMeant None o name n told0 live0 stack0 asker0 1000000 told1 live1 stack1 asker1 budget1 e → CarriesOut (Apply o name) player interactive xs told0 live0 told1 live1 (call_ends.Ended e)
call_carried told0 told1 live0 live1 o name player interactive xs stack0 stack1 asker0 asker1 n budget1 e d lies many meant front real programs before s h =
    let r = meant front real programs (asked_in (Apply o name) player interactive xs s) [] (call_asked told0 programs before live0 s (Apply o name) player interactive xs stack0 asker0 n d lies many h) (applied o name player interactive xs s asker0 d) in
    record {
      outcome = r.outcome;
      has = r.has;
      programs = r.is.programs;
      rests = record { world = r.is.world; outputs = r.is.outputs ∙ ap (λ l. l ++ r.outcome.outputs) h.outputs ∙ append_assoc before s.outputs r.outcome.outputs };
      ended = r.is.answer;
    }

-- nothing is left on the stack
pub call_emptied : (told0 told1 : Option Bytes) (live0 live1 : Live) (o : ObjId) (name : List ℕ) (player interactive : Option ObjId) (xs stack0 stack1 : List Value) (asker0 asker1 : Asker) (n budget1 : ℕ) (e : Ending) → IsDriver player interactive asker0 → stack0 ≡ xs → n ≡ length xs → ThereIsOne → RestsForOne told0 live0
    → CallIsMeant None o name n told0 live0 stack0 asker0 1000000 told1 live1 stack1 asker1 budget1 e → stack1 ≡ []
call_emptied told0 told1 live0 live1 o name player interactive xs stack0 stack1 asker0 asker1 n budget1 e d lies many one h meant =
    (meant one.0 one.1 h.programs (asked_in (Apply o name) player interactive xs h.state) [] (call_asked told0 h.programs h.before live0 h.state (Apply o name) player interactive xs stack0 asker0 n d lies many h.rests) (applied o name player interactive xs h.state asker0 d)).left

-- An object by its name

pub load_asked : (told : Option Bytes) (programs : List RawProgram) (before : List Out) (live : Live) (s : State) (name : List ℕ) (player interactive : Option ObjId) (xs : List Value) (asker : Asker) → IsDriver player interactive asker → Rests told programs before live s
    → IsLoadAsked name told programs live asker 1000000 (asked_in (Load name Wanted) player interactive xs s)
load_asked told programs before live s name player interactive xs asker d h = record { what = refl; scene = refl; none = d.callers; by = is_by (Load name Wanted) player interactive xs s asker d; world = h.world; left = refl }

pub can_load : (told : Option Bytes) (live : Live) (name : List ℕ) (player interactive : Option ObjId) (asker : Asker) → IsDriver player interactive asker → RestsForOne told live → CanLoadObject name told live asker 1000000
can_load told live name player interactive asker d h = record { programs = h.programs; ask = asked_in (Load name Wanted) player interactive [] h.state; asked = load_asked told h.programs h.before live h.state name player interactive [] asker d h.rests }

pub load_carried : (told0 told1 : Option Bytes) (live0 live1 : Live) (name : List ℕ) (player interactive : Option ObjId) (xs stack0 stack1 : List Value) (asker0 asker1 : Asker) (budget1 : ℕ) (r : Answer) (end : CallEnd) → IsDriver player interactive asker0
    → ((programs : List RawProgram) (w : World) (a : course.Answer) → IsLoadAnswer programs w r a → IsEndOf programs w end a)
    → LoadIsMeant name told0 live0 stack0 asker0 1000000 told1 live1 stack1 asker1 budget1 r → CarriesOut (Load name Wanted) player interactive xs told0 live0 told1 live1 end
load_carried told0 told1 live0 live1 name player interactive xs stack0 stack1 asker0 asker1 budget1 r end d so meant front real programs before s h =
    let v = meant front real programs (asked_in (Load name Wanted) player interactive xs s) (load_asked told0 programs before live0 s name player interactive xs asker0 d h) in
    record {
      outcome = v.outcome;
      has = v.has;
      programs = v.programs;
      rests = record { world = v.world; outputs = v.outputs ∙ ap (λ l. l ++ v.outcome.outputs) h.outputs ∙ append_assoc before s.outputs v.outcome.outputs };
      ended = so v.programs v.outcome.world v.outcome.answer v.answer;
    }

pub load_emptied : (told0 told1 : Option Bytes) (live0 live1 : Live) (name : List ℕ) (player interactive : Option ObjId) (stack0 stack1 : List Value) (asker0 asker1 : Asker) (budget1 : ℕ) (r : Answer) → IsDriver player interactive asker0 → ThereIsOne → RestsForOne told0 live0
    → LoadIsMeant name told0 live0 stack0 asker0 1000000 told1 live1 stack1 asker1 budget1 r → stack1 ≡ stack0
load_emptied told0 told1 live0 live1 name player interactive stack0 stack1 asker0 asker1 budget1 r d one h meant = (meant one.0 one.1 h.programs (asked_in (Load name Wanted) player interactive [] h.state) (load_asked told0 h.programs h.before live0 h.state name player interactive [] asker0 d h.rests)).same

-- the state stands for one of the meaning's still
pub carried_rests : (what : Asked) (player interactive : Option ObjId) (xs : List Value) (told0 told1 : Option Bytes) (live0 live1 : Live) (end : CallEnd) → ThereIsOne → CarriesOut what player interactive xs told0 live0 told1 live1 end → RestsForOne told0 live0 → RestsForOne told1 live1
carried_rests what player interactive xs told0 told1 live0 live1 end one carries h =
    let r = carries one.0 one.1 h.programs h.before h.state h.rests in record { programs = r.programs; before = h.before; state = after (begun player h.state) r.outcome; rests = r.rests }
