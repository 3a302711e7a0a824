-- The verdict of a test, by the written meaning.
use Rattle.std.specs.Prelude.{◌≡◌, ℕ, List, [], map, Bool, Option, Some, None, nat_lt, option_map, if◌then◌else◌}
use Rattle.std.specs.Str.{chars, encode_utf8_all}
use Rattle.lp_values.specs.declared.id.ObjId.{ObjId}
use Rattle.lp_values.specs.declared.value.Value.{Value}
use Rattle.lp_events.specs.declared.item.Item.{Item}
use Rattle.lp_events.specs.declared.out.Out.{Out}
use Rattle.lp_events.specs.Script.{seed_of}
use Rattle.lp_language.specs.World.{File, World}
use Rattle.lp_language.specs.Operations.{is_false}
use Rattle.lp_language.specs.Course.{Apply, Cause, Course, End, Failed, Gives, Spent, State, Stops, Thrown, and_then, gives, zero_value}
use Rattle.lp_meaning.specs.Askers.{ask_value, cause_text, driver}
use Rattle.lp_meaning.specs.Closing.{Ends, Starts}
use Rattle.lp_meaning.specs.EventTurns.{at_rest, begun}
use Rattle.lp_meaning.specs.FileLoads.{live_object, text_target}
use Rattle.lp_meaning.specs.FrontEnd.{FrontEnd}
use Rattle.lp_meaning.specs.WorldSteps.{file_of_name}
use Rattle.lp_front_end.specs.FrontEnds.{IsFrontEnd}
use Rattle.lp_eventless.specs.Eventless.{moment_of}
use Rattle.lp_verdicts.specs.Scripts.{world_files}
use Rattle.lp_verdicts.specs.declared.verdict.Verdict.{Verdict}
use Rattle.lp_verdicts.specs.declared.verdict.Verdict.TheVariants as verdicts

-- The text of an error

-- a code point as a line shows it: `?` (63) for one below 32
abbrev pub shown_point : ℕ → ℕ
shown_point c = if nat_lt c 32 then 63 else c

abbrev pub shown : List ℕ → List ℕ
shown text = map shown_point text

-- The verdict of an end

-- of an uncaught error or throw its text without its last newline; a budget that was spent has a verdict of its own
abbrev pub cause_verdict : Cause → Verdict
cause_verdict (Thrown v) = verdicts.Error (encode_utf8_all (shown (cause_text (Thrown v))))
cause_verdict (Failed e) = verdicts.Error (encode_utf8_all (shown (cause_text (Failed e))))
cause_verdict Spent = verdicts.Spent

-- of a value, which fails where it reads as 0
abbrev pub value_verdict : Bool → Verdict
value_verdict is_zero = if is_zero then verdicts.Fail else verdicts.Pass

abbrev pub end_verdict : End Value → Verdict
end_verdict (Gives v s) = value_verdict (is_false s v)
end_verdict (Stops x s) = cause_verdict x.cause

-- The call of a test

-- a function of a live object is applied, without arguments; where there is no object the answer is 0
abbrev pub applied_in : List ℕ → Option ObjId → State → Course Value
applied_in fun None s = gives zero_value s
applied_in fun (Some o) s = ask_value (Apply o fun) [] (driver None) s

-- THE CALL: the blueprint of a file is loaded where it does not live, and the function is applied in it, on one budget.
abbrev pub test_call : List ℕ → List ℕ → State → Course Value
test_call path fun s = and_then (text_target (driver None) (chars path) s) (λ v s. applied_in (chars fun) (live_object s.world v) s)

-- THE VERDICT of a test by a front end: of the call with the full budget, without `this_player()`, in the world of the start on these files.
pub record HasVerdictBy (front : FrontEnd) (files : List File) (seed moment : ℕ) (path fun : List ℕ) (v : Verdict) : Type 0 where
  pub outs : List Out
  pub first : World
  pub starts : Starts front files seed moment outs first
  pub end : End Value
  pub ends : Ends front (test_call path fun (begun None (at_rest first))) end
  pub is : v ≡ end_verdict end

-- It is that by each front end that there is, and there is one.
abbrev pub HasVerdict : List Item → List ℕ → List ℕ → Verdict → Type 0
HasVerdict xs path fun v = (front : FrontEnd) → IsFrontEnd front → HasVerdictBy front (world_files xs) (seed_of xs) (moment_of xs) path fun v

-- The simul-efun object

-- the file of the simul-efun object of a world, if it has one
abbrev pub simul_of : World → Option (List ℕ)
simul_of w = option_map (λ name. encode_utf8_all (file_of_name name)) w.simul

-- by a front end, in the world of the start
pub record HasSimulBy (front : FrontEnd) (files : List File) (seed moment : ℕ) (simul : Option (List ℕ)) : Type 0 where
  pub outs : List Out
  pub first : World
  pub starts : Starts front files seed moment outs first
  pub is : simul ≡ simul_of first

abbrev pub HasSimul : List Item → Option (List ℕ) → Type 0
HasSimul xs simul = (front : FrontEnd) → IsFrontEnd front → HasSimulBy front (world_files xs) (seed_of xs) (moment_of xs) simul
