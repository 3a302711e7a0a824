-- How calls end on the state.
use Rattle.std.specs.Prelude.{◌≡◌, ⊤, List, Option, Some, None, slice_get}
use Rattle.std.specs.Option.{option_map}
use Rattle.lp_values.specs.declared.value.Value.{Value}
use Rattle.lp_cells.specs.Cells.{IsThere, Store}
use Rattle.lp_code.specs.declared.program.RawProgram.{RawProgram}
use Rattle.lp_language.specs.World.{World, object_at, version_at}
use Rattle.lp_language.specs.Course as course
use Rattle.lp_language.specs.Course.{Answer, End, Gives, Stops, Plain, Reply, Returned, WasRead, IsSound, IsFaulty}
use Rattle.lp_language.specs.Resolve.{without_c}
use Rattle.lp_asking.specs.declared.ending.Cause.{Cause}
use Rattle.lp_asking.specs.declared.ending.Cause.TheVariants as causes
use Rattle.lp_asking.specs.declared.ending.Ending.{Ending}
use Rattle.lp_asking.specs.declared.ending.Ending.TheVariants as endings
use Rattle.lp_asking.specs.declared.ending.Place.{Place}
use Rattle.lp_asking.specs.declared.ending.Stop.{Stop}

-- why something stops
abbrev pub cause_of : Cause → course.Cause
cause_of (causes.Thrown v) = course.Thrown v
cause_of (causes.Failed e) = course.Failed e
cause_of causes.Spent = course.Spent

-- A function by numbers is one by names: of its row, of the path of its version's file without `.c`, and of its object.
pub record IsPlace (programs : List RawProgram) (w : World) (at : Place) (p : course.Place) : Type 0 where
  pub raw : RawProgram
  pub is : slice_get programs at.program.0 ≡ Some raw
  pub function : option_map (λ f. f.name) (slice_get raw.funs at.fun) ≡ Some p.function
  pub program : p.program ≡ without_c (version_at w at.program).path
  pub object : p.object ≡ (object_at w at.this).name

abbrev pub IsPlaceIf : List RawProgram → World → Option Place → Option course.Place → Type 0
IsPlaceIf programs w None None = ⊤
IsPlaceIf programs w None (Some p) = ⊥
IsPlaceIf programs w (Some at) None = ⊥
IsPlaceIf programs w (Some at) (Some p) = IsPlace programs w at p

-- a stop: its cause, and where it was
pub record IsStop (programs : List RawProgram) (w : World) (s : Stop) (x : course.Stop) : Type 0 where
  pub cause : cause_of s.cause ≡ x.cause
  pub place : IsPlaceIf programs w s.place x.place

-- the answer of a question: a plain value, or a stop
abbrev pub IsReply : Value → Reply → Type 0
IsReply v (Plain u) = v ≡ u
IsReply v (WasRead items pragmas) = ⊥
IsReply v IsSound = ⊥
IsReply v (IsFaulty faults) = ⊥

abbrev pub IsAnswer : List RawProgram → World → Ending → Answer → Type 0
IsAnswer programs w (endings.Value v) (Returned r) = IsReply v r
IsAnswer programs w (endings.Value v) (course.Stopped x) = ⊥
IsAnswer programs w (endings.Stopped s) (Returned r) = ⊥
IsAnswer programs w (endings.Stopped s) (course.Stopped x) = IsStop programs w s x

-- a value with which something ended is there
abbrev pub IsCauseThere : Store → Cause → Type 0
IsCauseThere cells (causes.Thrown v) = IsThere cells v
IsCauseThere cells (causes.Failed e) = ⊤
IsCauseThere cells causes.Spent = ⊤

abbrev pub IsEndingThere : Store → Ending → Type 0
IsEndingThere cells (endings.Value v) = IsThere cells v
IsEndingThere cells (endings.Stopped s) = IsCauseThere cells s.cause

-- the end of a function as that of its call
abbrev pub plain_end : End Value → End Reply
plain_end (Gives v s) = Gives (Plain v) s
plain_end (Stops x s) = Stops x s
