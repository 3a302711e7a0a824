-- Where a question leads, before what is needed comes into memory.
use Rattle.std.specs.Prelude.{◌≡◌, ◌++◌, ⊤, List, Option, None, Some, IsSome, reverse, slice_get}
use Rattle.std.specs.Option.{option_to_list}
use Rattle.lp_values.specs.declared.id.ObjId.{ObjId}
use Rattle.lp_code.specs.declared.program.RawProgram.{RawProgram}
use Rattle.lp_swapfile.specs.Device.{Bytes}
use Rattle.lp_language.specs.Course.{Ask}
use Rattle.lp_language.specs.Resolve.{Target, number_of}
use Rattle.lp_meaning.specs.FunctionCalls.{calling_target}
use Rattle.lp_meaning.specs.Questions.{means}
use Rattle.lp_world.specs.declared.live.Live.{Live}
use Rattle.lp_world.specs.declared.objects.Object.{Object}
use Rattle.lp_world.specs.Rows.{row_at}
use Rattle.lp_frames.specs.declared.entry.Callee.{Callee}
use Rattle.lp_asking.specs.declared.asker.Asker.{Asker}
use Rattle.lp_targets.specs.Callees.{IsTargetAnswer, IsWorldOf}
use Rattle.lp_initialisers.specs.Rows.{IsInitialiserRow}
use Rattle.lp_reaching.specs.Reaching.{Initialises}

-- the object of what was found is there
abbrev pub IsTargetThere : List (Option Object) → Option Target → Type 0
IsTargetThere objects None = ⊤
IsTargetThere objects (Some t) = IsSome (row_at objects t.object.0)

-- A question means that a target is called, if there is one, with these callers; and this is its callee, whose object is there.
pub record Leads (programs : List RawProgram) (objects : List (Option Object)) (asker : Asker) (caller : Option ObjId) (a : Ask) (callee : Option Callee) : Type 0 where
  pub target : Option Target
  pub callers : List ObjId
  pub means_it : means a ≡ Some (calling_target a callers target)
  pub callers_are : callers ≡ reverse (asker.callers.items ++ option_to_list caller)
  pub answer : IsTargetAnswer programs a.world callee target
  pub there : IsTargetThere objects target

-- so does one in some world
pub record CanLead (told : Option Bytes) (live : Live) (caller : Option ObjId) (callee : Option Callee) : Type 0 where
  pub programs : List RawProgram
  pub asker : Asker
  pub ask : Ask
  pub leads : Leads programs live.objects asker caller ask callee
  pub world : IsWorldOf told programs live ask.world

-- A question means that the initialisers of a part are called, and this is their callee.
pub record LeadsToInitialisers (programs : List RawProgram) (asker : Asker) (caller : Option ObjId) (a : Ask) (callee : Callee) : Type 0 where
  pub asks : Initialises asker caller callee.this callee.part a
  pub program : callee.program ≡ number_of asks.place.tree
  pub base : callee.base ≡ asks.place.base
  pub own : RawProgram
  pub is : slice_get programs callee.program.0 ≡ Some own
  pub row : IsInitialiserRow asks.place.tree own callee.fun

-- so does one in some world
pub record CanLeadToInitialisers (told : Option Bytes) (live : Live) (caller : Option ObjId) (callee : Callee) : Type 0 where
  pub programs : List RawProgram
  pub asker : Asker
  pub ask : Ask
  pub leads : LeadsToInitialisers programs asker caller ask callee
  pub world : IsWorldOf told programs live ask.world
