-- Jobs: what an efun that calls LPC still does, by where it stands and by its values on the stack.
use Rattle.std.specs.Prelude.{ℕ, ◌+◌, ◌-◌, ◌<◌, ◌≤◌, ⊤, List, [], ◌∷◌, ◌++◌, Bool, true, false, Option, Some, None, IsSome, cond, drop, length, slice_get, string_bytes, take, unwrap_or, if◌then◌else◌}
use Rattle.std.specs.Option.{option_map}
use Rattle.lp_values.specs.declared.id.ObjId.{ObjId}
use Rattle.lp_values.specs.declared.value.Value.{Value}
use Rattle.lp_values.specs.declared.value.Value.TheVariants.{Obj}
use Rattle.lp_values.specs.Errors.{plain}
use Rattle.lp_values.specs.Read.{is_zero}
use Rattle.lp_instr.specs.declared.efun.Efun.{Efun}
use Rattle.lp_instr.specs.declared.efun.Efun.TheVariants as efuns
use Rattle.lp_language.specs.Course.{Apply, Course, End, Failed, Gives, Other, Over, State, Stops, and_then, gives, stops, zero_value}
use Rattle.lp_language.specs.Operations.{is_false}
use Rattle.lp_places.specs.Places.{environment}
use Rattle.lp_meaning.specs.Askers.{Asker, ask_value, tell}
use Rattle.lp_meaning.specs.CallingEfuns.{kept_item, mapped_item, nobody, per_item, present_among, present_in, say_in, speaker, tell_each, write_text}
use Rattle.lp_meaning.specs.FileLoads.{as_target, load_value}
use Rattle.lp_meaning.specs.Questions.{value_end}
use Rattle.lp_meaning.specs.WorldSteps.{master_name}
use Rattle.lp_world.specs.declared.objects.Object.{Object}
use Rattle.lp_world.specs.Rows.{row_at}
use Rattle.lp_calling.specs.declared.job.Audience.{Audience}
use Rattle.lp_calling.specs.declared.job.Job.{Job}
use Rattle.lp_calling.specs.declared.job.Round.{Round}
use Rattle.lp_calling.specs.declared.job.Search.{Search}
use Rattle.lp_calling.specs.declared.job.Stage.{Stage}
use Rattle.lp_calling.specs.declared.job.Stage.TheVariants as stages
use Rattle.lp_calling.specs.Leave.{IsWish, asked_in, file_deed, granted, is_keeping, shadow_deed, wish_arguments, wish_function}
use Rattle.lp_calling.specs.declared.moving.Moving.{Moving}
use Rattle.lp_calling.specs.declared.moving.Moving.TheVariants as moves
use Rattle.lp_calling.specs.Moves.{IsMoveAsking, IsMoveOn, move_back, move_course, move_rest}

-- an efun has its value: the price of that is paid
abbrev pub ended : Efun → Value → State → Course Value
ended e v s = Over (value_end e v s)

-- Items

-- the arguments of the efun behind the third one, which each call gets behind its item
abbrev pub further : Round → List Value → List Value
further r own = drop 3 (take r.arguments own)

-- the items that are left
abbrev pub items_left : Round → List Value → List Value
items_left r own = drop r.done (take r.count (drop r.arguments own))

-- what was taken so far
abbrev pub taken : Round → List Value → List Value
taken r own = drop r.count (drop r.arguments own)

-- what an answer adds
abbrev pub taken_by : Bool → State → Value → Value → List Value
taken_by true s x v = kept_item s x v
taken_by false s x v = mapped_item s x v

-- the same by which objects are live
abbrev pub added : Bool → (ObjId → Bool) → Value → Value → List Value
added true live x v = if is_zero live v then [] else x ∷ []
added false live x v = v ∷ []

-- the efun of a round
abbrev pub round_efun : Bool → Efun
round_efun true = efuns.Filter
round_efun false = efuns.Map

-- the items that are left are gone over
abbrev pub going : Round → List Value → List Value → List Value → Asker → State → Course Value
going r more got xs by s = per_item by r.object r.function more (taken_by r.is_filter) got xs s

-- the answer for the first of the items that are left is there
abbrev pub answered : Round → List Value → List Value → List Value → Asker → Value → State → Course Value
answered r more got [] by v s = gives zero_value s
answered r more got (x ∷ xs) by v s = going r more (got ++ taken_by r.is_filter s x v) xs by s

-- Messages

-- the objects that are left to be told, and those behind the next one
abbrev pub listeners_left : Audience → List ObjId
listeners_left a = drop a.done a.listeners.items

abbrev pub listeners_behind : Audience → List ObjId
listeners_behind a = drop (a.done + 1) a.listeners.items

-- some objects are told, one after another
abbrev pub telling : Audience → List ObjId → Asker → State → Course Value
telling a os by s = tell_each by a.text a.but os s

-- those around `this_player()`, or around this object, are told
abbrev pub say_around : ObjId → List ℕ → Asker → State → Course Value
say_around this t by s = let o : ObjId = speaker s.world this s.player in say_in by o t (environment s.world.places o) s

-- Searches

-- the objects that are left to be asked, and those behind the next one
abbrev pub objects_left : Search → List ObjId
objects_left k = drop k.done k.objects.items

abbrev pub objects_behind : Search → List ObjId
objects_behind k = drop (k.done + 1) k.objects.items

-- the environment of an object is searched, where there is one
abbrev pub search_around : Asker → List ℕ → Option ObjId → State → Course Value
search_around by t None = nobody
search_around by t (Some o) = λ s. present_in by t (environment s.world.places o) s nobody

-- some objects are searched, and then that environment
abbrev pub searching : Search → List ObjId → Asker → State → Course Value
searching k os by s = present_among by k.text os s (search_around by k.text k.around)

-- what one of some objects answers tells whether it is what the text names
abbrev pub sought : Search → List ObjId → List ObjId → Asker → Value → State → Course Value
sought k [] behind by v s = gives zero_value s
sought k (o ∷ os) behind by v s = cond (is_false s v) (searching k behind by s) (gives (Obj o) s)

-- Courses

-- the first value
abbrev pub first_value : List Value → Value
first_value own = unwrap_or (slice_get own 0) zero_value

-- a function is called, by its name, in the live object that a load gave; another value is no target
abbrev pub called_in : List ℕ → List Value → Asker → Value → State → Course Value
called_in fun args by v s = as_target v s (λ o s. ask_value (Other o fun) args by s)

-- The course at a stage, with these values on the stack.
abbrev pub stage_course : Efun → Stage → List Value → Asker → State → Course Value
stage_course e (stages.Call o name) own by s = and_then (ask_value (Other o name) (drop 2 own) by s) (ended e)
stage_course e (stages.Target name fun) own by s = and_then (and_then (load_value by name s) (λ v s. called_in fun (drop 2 own) by v s)) (ended e)
stage_course e (stages.Load name) own by s = and_then (load_value by name s) (ended e)
stage_course e (stages.Move m) own by s = and_then (move_course m own by s) (ended e)
stage_course e (stages.Items r) own by s = and_then (going r (further r own) (taken r own) (items_left r own) by s) (ended e)
stage_course e (stages.Tell o t) own by s = and_then (tell by o t s) (ended e)
stage_course e (stages.Write t) own by s = and_then (write_text by t s) (ended e)
stage_course e (stages.Say this t) own by s = and_then (say_around this t by s) (ended e)
stage_course e (stages.TellEach a) own by s = and_then (telling a (listeners_left a) by s) (ended e)
stage_course e (stages.Seek k) own by s = and_then (searching k (objects_left k) by s) (ended e)
stage_course e (stages.MasterLoad w) own by s =
    and_then (and_then (and_then (load_value by master_name s) (λ v s. asked_in (wish_function w) (wish_arguments e w) by v s)) (granted w)) (ended e)
stage_course e (stages.Master m w) own by s = and_then (and_then (ask_value (Apply m (wish_function w)) (wish_arguments e w) by s) (granted w)) (ended e)
stage_course e (stages.File d p) own by s = and_then (file_deed d (option_map string_bytes p) s) (ended e)
stage_course e (stages.Shadow this o) own by s = and_then (shadow_deed this o s) (ended e)
stage_course e stages.Value own by s = ended e (first_value own) s
stage_course e stages.Zero own by s = ended e zero_value s
stage_course e (stages.Error kind) own by s = stops (Failed (plain kind)) s

-- What follows the answer of a question that was asked at a stage.
abbrev pub stage_rest : Efun → Stage → List Value → Asker → Value → State → Course Value
stage_rest e (stages.Call o name) own by v s = ended e v s
stage_rest e (stages.Target name fun) own by v s = and_then (called_in fun (drop 2 own) by v s) (ended e)
stage_rest e (stages.Load name) own by v s = ended e v s
stage_rest e (stages.Move m) own by v s = and_then (move_rest m own by v s) (ended e)
stage_rest e (stages.Items r) own by v s = and_then (answered r (further r own) (taken r own) (items_left r own) by v s) (ended e)
stage_rest e (stages.Tell o t) own by v s = ended e zero_value s
stage_rest e (stages.Write t) own by v s = ended e zero_value s
stage_rest e (stages.Say this t) own by v s = ended e zero_value s
stage_rest e (stages.TellEach a) own by v s = and_then (telling a (listeners_behind a) by s) (ended e)
stage_rest e (stages.Seek k) own by v s = and_then (sought k (objects_left k) (objects_behind k) by v s) (ended e)
stage_rest e (stages.MasterLoad w) own by v s = and_then (and_then (asked_in (wish_function w) (wish_arguments e w) by v s) (granted w)) (ended e)
stage_rest e (stages.Master m w) own by v s = and_then (granted w v s) (ended e)
stage_rest e (stages.File d p) own by v s = ended e zero_value s
stage_rest e (stages.Shadow this o) own by v s = ended e zero_value s
stage_rest e stages.Value own by v s = ended e zero_value s
stage_rest e stages.Zero own by v s = ended e zero_value s
stage_rest e (stages.Error kind) own by v s = ended e zero_value s

-- the course of a job, and what follows an answer
abbrev pub course_of : Job → List Value → Asker → State → Course Value
course_of job own by s = stage_course job.efun job.stage own by s

abbrev pub rest_of : Job → List Value → Asker → Value → State → Course Value
rest_of job own by v s = stage_rest job.efun job.stage own by v s

-- `this_player()` once a question of a stage has ended: where the stage changed it for the question it is put back
abbrev pub player_back : Stage → Option ObjId → Option ObjId
player_back (stages.Call o name) p = p
player_back (stages.Target name fun) p = p
player_back (stages.Load name) p = p
player_back (stages.Move m) p = move_back m p
player_back (stages.Items r) p = p
player_back (stages.Tell o t) p = p
player_back (stages.Write t) p = p
player_back (stages.Say this t) p = p
player_back (stages.TellEach a) p = p
player_back (stages.Seek k) p = p
player_back (stages.MasterLoad w) p = p
player_back (stages.Master m w) p = p
player_back (stages.File d q) p = p
player_back (stages.Shadow this o) p = p
player_back stages.Value p = p
player_back stages.Zero p = p
player_back (stages.Error kind) p = p

-- an end, with that done
abbrev pub with_player_by : (Option ObjId → Option ObjId) → End Value → End Value
with_player_by f (Gives v s) = Gives v (record s { player = f s.player })
with_player_by f (Stops x s) = Stops x (record s { player = f s.player })

-- WHAT FOLLOWS THE END of a question: an answer is taken, and a stop stops the job.
abbrev pub stage_behind : Efun → Stage → List Value → Asker → End Value → Course Value
stage_behind e stage own by end = and_then (Over (with_player_by (player_back stage) end)) (stage_rest e stage own by)

abbrev pub behind : Job → List Value → Asker → End Value → Course Value
behind job own by end = stage_behind job.efun job.stage own by end

-- On the stack

-- so many values are there as a stage has, above so many others
abbrev pub IsStageOn : Stage → ℕ → ℕ → Type 0
IsStageOn (stages.Call o name) low n = low ≤ n
IsStageOn (stages.Target name fun) low n = low ≤ n
IsStageOn (stages.Load name) low n = low ≤ n
IsStageOn (stages.Move m) low n = (low ≤ n) × IsMoveOn m
IsStageOn (stages.Items r) low n = (low + (r.arguments + r.count) ≤ n) × (r.done ≤ r.count)
IsStageOn (stages.Tell o t) low n = low ≤ n
IsStageOn (stages.Write t) low n = low ≤ n
IsStageOn (stages.Say this t) low n = low ≤ n
IsStageOn (stages.TellEach a) low n = low ≤ n
IsStageOn (stages.Seek k) low n = low ≤ n
IsStageOn (stages.MasterLoad w) low n = (low ≤ n) × IsWish w
IsStageOn (stages.Master m w) low n = (low ≤ n) × IsWish w
IsStageOn (stages.File d p) low n = low ≤ n
IsStageOn (stages.Shadow this o) low n = low ≤ n
IsStageOn stages.Value low n = low < n
IsStageOn stages.Zero low n = low ≤ n
IsStageOn (stages.Error kind) low n = low ≤ n

-- A job finds its values on the stack.
abbrev pub IsJobOn : Job → List Value → Type 0
IsJobOn job stack = IsStageOn job.stage job.low (length stack)

-- it may ask
abbrev pub IsStageAsking : Stage → Type 0
IsStageAsking (stages.Call o name) = ⊤
IsStageAsking (stages.Target name fun) = ⊤
IsStageAsking (stages.Load name) = ⊤
IsStageAsking (stages.Move m) = IsMoveAsking m
IsStageAsking (stages.Items r) = r.done < r.count
IsStageAsking (stages.Tell o t) = ⊤
IsStageAsking (stages.Write t) = ⊤
IsStageAsking (stages.Say this t) = ⊥
IsStageAsking (stages.TellEach a) = a.done < length a.listeners.items
IsStageAsking (stages.Seek k) = k.done < length k.objects.items
IsStageAsking (stages.MasterLoad w) = ⊤
IsStageAsking (stages.Master m w) = ⊤
IsStageAsking (stages.File d p) = ⊥
IsStageAsking (stages.Shadow this o) = ⊥
IsStageAsking stages.Value = ⊥
IsStageAsking stages.Zero = ⊥
IsStageAsking (stages.Error kind) = ⊥

abbrev pub IsAsking : Job → Type 0
IsAsking job = IsStageAsking job.stage

-- More than any list in memory has items: so many are asked at most where the list is not known yet.
abbrev pub unknown_many : ℕ
unknown_many = 18446744073709551616

abbrev pub left_around : Option ObjId → ℕ
left_around None = 0
left_around (Some o) = unknown_many

abbrev pub move_left : Moving → ℕ
move_left (moves.Destination name) = unknown_many + 1
move_left (moves.Into item dest) = unknown_many
move_left (moves.Visiting r) = length r.calls.items - r.done

-- how many questions it asks at most
abbrev pub stage_left : Stage → ℕ
stage_left (stages.Call o name) = 1
stage_left (stages.Target name fun) = 2
stage_left (stages.Load name) = 1
stage_left (stages.Move m) = move_left m
stage_left (stages.Items r) = r.count - r.done
stage_left (stages.Tell o t) = 1
stage_left (stages.Write t) = 1
stage_left (stages.Say this t) = unknown_many
stage_left (stages.TellEach a) = length a.listeners.items - a.done
stage_left (stages.Seek k) = length k.objects.items - k.done + left_around k.around
stage_left (stages.MasterLoad w) = 2
stage_left (stages.Master m w) = 1
stage_left (stages.File d p) = 0
stage_left (stages.Shadow this o) = 0
stage_left stages.Value = 0
stage_left stages.Zero = 0
stage_left (stages.Error kind) = 0

abbrev pub questions_left : Job → ℕ
questions_left job = stage_left job.stage

-- Among the objects

-- The object that is called next by its name has its row, whether it lives still or not. Other stages look first whether theirs
-- lives.
abbrev pub IsStageReady : List (Option Object) → Stage → Type 0
IsStageReady objects (stages.Call o name) = IsSome (row_at objects o.0)
IsStageReady objects (stages.Target name fun) = ⊤
IsStageReady objects (stages.Load name) = ⊤
IsStageReady objects (stages.Move m) = ⊤
IsStageReady objects (stages.Items r) = ⊤
IsStageReady objects (stages.Tell o t) = ⊤
IsStageReady objects (stages.Write t) = ⊤
IsStageReady objects (stages.Say this t) = ⊤
IsStageReady objects (stages.TellEach a) = ⊤
IsStageReady objects (stages.Seek k) = ⊤
IsStageReady objects (stages.MasterLoad w) = ⊤
IsStageReady objects (stages.Master m w) = IsSome (row_at objects m.0)
IsStageReady objects (stages.File d p) = ⊤
IsStageReady objects (stages.Shadow this o) = ⊤
IsStageReady objects stages.Value = ⊤
IsStageReady objects stages.Zero = ⊤
IsStageReady objects (stages.Error kind) = ⊤

abbrev pub IsReady : List (Option Object) → Job → Type 0
IsReady objects job = IsStageReady objects job.stage

-- Programs

-- A stage at which the program of an object is needed, which is to come into memory first.
abbrev pub stage_needs : Stage → Bool
stage_needs (stages.File d p) = is_keeping d
stage_needs _ = false

abbrev pub needs_program : Job → Bool
needs_program job = stage_needs job.stage
