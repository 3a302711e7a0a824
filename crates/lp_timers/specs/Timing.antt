-- All that is to come, as lists: call-outs, heart beats and watches.
use Rattle.std.specs.Prelude.{ℕ, List, [], ◌∷◌, Bool, not, if◌then◌else◌, Option, Some, None}
use Rattle.lp_values.specs.declared.id.ObjId.{ObjId}
use Rattle.lp_timers.specs.declared.kind.Kind.{Kind}
use Rattle.lp_timers.specs.declared.kind.Kind.TheVariants as line
use Rattle.lp_timers.specs.declared.kind.Watch.{Watch}
use Rattle.lp_timers.specs.declared.kind.Watch.TheVariants as watch
use Rattle.lp_timers.specs.declared.line.Line.{Line}
use Rattle.lp_timers.specs.Timers.{Beat, CallOut, Watching, WatchKind, Reset, CleanUp, beat_off, beat_on, beats, watches_without}

-- the number of the next call-out, the call-outs that wait, in order of making, the hearts that beat, in order of switching on, and the watches, in order of putting
pub record Timing : Type 0 where
  pub next : ℕ
  pub call_outs : List CallOut
  pub beats : List Beat
  pub watches : List Watching

-- what an object is watched for
abbrev pub watch_kind : Watch → WatchKind
watch_kind watch.Reset = Reset
watch_kind watch.CleanUp = CleanUp

-- one more heart, where a line is a heart beat
abbrev pub beat_before : Kind → Line → List Beat → List Beat
beat_before line.Beat l bs = record { object = l.ob; next = l.next } ∷ bs
beat_before line.Reset l bs = bs
beat_before line.CleanUp l bs = bs

-- the heart beats among lines
abbrev pub beats_of : List Line → List Beat
beats_of [] = []
beats_of (l ∷ ls) = beat_before l.kind l (beats_of ls)

-- one more watch, where a line is one
abbrev pub watch_before : Kind → Line → List Watching → List Watching
watch_before line.Beat l ws = ws
watch_before line.Reset l ws = record { object = l.ob; kind = Reset; next = l.next } ∷ ws
watch_before line.CleanUp l ws = record { object = l.ob; kind = CleanUp; next = l.next } ∷ ws

-- the watches among lines
abbrev pub watches_of : List Line → List Watching
watches_of [] = []
watches_of (l ∷ ls) = watch_before l.kind l (watches_of ls)

-- a heart is switched on or off: one that beats keeps its place and its moment
abbrev pub beat_turned : List Beat → ObjId → Bool → ℕ → List Beat
beat_turned bs o on now = if on then (if beats bs o then bs else beat_on bs o now) else beat_off bs o

-- whether that changes anything
abbrev pub turns_beat : List Beat → ObjId → Bool → Bool
turns_beat bs o on = if on then not (beats bs o) else beats bs o

-- the beats and the watches of an object that has no call-out any more
abbrev pub beats_left : Option CallOut → List Beat → ObjId → List Beat
beats_left None bs o = beat_off bs o
beats_left (Some c) bs o = bs

-- the watches that are left
abbrev pub watches_left : Option CallOut → List Watching → ObjId → List Watching
watches_left None ws o = watches_without ws o
watches_left (Some c) ws o = ws
