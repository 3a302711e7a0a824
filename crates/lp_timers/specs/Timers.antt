-- Call-outs, heart beats, and the watches for `reset` and `clean_up`.
use Rattle.std.specs.Prelude.{ℕ, ◌+◌, List, [], ◌∷◌, ◌++◌, Bool, true, false, not, nat_eq, nat_le, nat_lt, ◌&&◌, if◌then◌else◌, Option, Some, None, filter, fold, map}
use Rattle.std.specs.Cmp.Lexicographic.{pointwise}
use Rattle.std.specs.List.{list_any}
use Rattle.lp_values.specs.declared.id.ObjId.{ObjId}
use Rattle.lp_values.specs.declared.value.Value.{Value}

-- how many call-outs may wait
abbrev pub max_call_outs : ℕ
max_call_outs = 100000

-- a call that waits for a moment
pub record CallOut : Type 0 where
  pub number : ℕ
  pub object : ObjId
  pub function : List ℕ
  pub due : ℕ
  pub arguments : List Value

-- a heart beat, with its next moment
pub record Beat : Type 0 where
  pub object : ObjId
  pub next : ℕ

pub data WatchKind : Type 0 where
  Reset : WatchKind
  CleanUp : WatchKind

-- a `reset` or a `clean_up` that is to come
pub record Watching : Type 0 where
  pub object : ObjId
  pub kind : WatchKind
  pub next : ℕ

-- A call-out among others that stand by their moment: behind those that are due no later.
abbrev pub placed_by_due : CallOut → List CallOut → List CallOut
placed_by_due c [] = c ∷ []
placed_by_due c (d ∷ ds) = if nat_lt c.due d.due then c ∷ d ∷ ds else d ∷ placed_by_due c ds

-- call-outs by their moment, and at one moment by order of making
abbrev pub by_due : List CallOut → List CallOut
by_due cs = fold (λ sorted c. placed_by_due c sorted) [] cs

-- the call-outs that are due at a moment, by their moment, then by order of making
abbrev pub due_at : ℕ → List CallOut → List CallOut
due_at t cs = by_due (filter (λ c. nat_le c.due t) cs)

-- whether a call-out with this number still waits
abbrev pub waits : List CallOut → ℕ → Bool
waits cs number = list_any (λ c. nat_eq c.number number) cs

-- the call-outs without the one with a number
abbrev pub without_call_out : List CallOut → ℕ → List CallOut
without_call_out cs number = filter (λ c. not (nat_eq c.number number)) cs

-- the first of a list
abbrev pub first_call_out : List CallOut → Option CallOut
first_call_out [] = None
first_call_out (c ∷ cs) = Some c

-- the earliest call-out of a function of an object, if there is one
abbrev pub earliest : List CallOut → ObjId → List ℕ → Option CallOut
earliest cs o fun = first_call_out (by_due (filter (λ c. nat_eq c.object.0 o.0 && pointwise nat_eq c.function fun) cs))

-- the call-outs of an object end with it
abbrev pub call_outs_without : List CallOut → ObjId → List CallOut
call_outs_without cs o = filter (λ c. not (nat_eq c.object.0 o.0)) cs

-- the heart of an object beats
abbrev pub beats : List Beat → ObjId → Bool
beats bs o = list_any (λ b. nat_eq b.object.0 o.0) bs

-- a heart is switched on: the first beat is two seconds later
abbrev pub beat_on : List Beat → ObjId → ℕ → List Beat
beat_on bs o now = bs ++ record { object = o; next = now + 2 } ∷ []

-- a heart is switched off
abbrev pub beat_off : List Beat → ObjId → List Beat
beat_off bs o = filter (λ b. not (nat_eq b.object.0 o.0)) bs

-- the objects whose next beat is at most at a moment, in order of switching on
abbrev pub beats_at : ℕ → List Beat → List ObjId
beats_at t bs = map (λ b. b.object) (filter (λ b. nat_le b.next t) bs)

-- the heart of an object is to beat by a moment
abbrev pub beats_by : List Beat → ObjId → ℕ → Bool
beats_by bs o t = list_any (λ b. nat_eq b.object.0 o.0 && nat_le b.next t) bs

-- the next beat of an object is at a moment
abbrev pub beat_at : ObjId → ℕ → Beat → Beat
beat_at o at b = if nat_eq b.object.0 o.0 then record b { next = at } else b

-- among all hearts
abbrev pub beat_next : List Beat → ObjId → ℕ → List Beat
beat_next bs o at = map (beat_at o at) bs

-- whether two watches are for the same call
abbrev pub same_watch : WatchKind → WatchKind → Bool
same_watch Reset Reset = true
same_watch CleanUp CleanUp = true
same_watch _ _ = false

-- how many seconds pass until an object is reset or asked
abbrev pub watch_time : WatchKind → ℕ
watch_time Reset = 1800
watch_time CleanUp = 3600

-- whether a watch is one of an object for a call
abbrev pub is_watch_of : WatchKind → ObjId → Watching → Bool
is_watch_of kind o x = same_watch x.kind kind && nat_eq x.object.0 o.0

-- the objects whose moment has come, by age
abbrev pub watched_at : ℕ → WatchKind → List Watching → List ObjId
watched_at t kind ws = map (λ x. x.object) (filter (λ x. same_watch x.kind kind && nat_le x.next t) ws)

-- an object is watched
abbrev pub is_watched : List Watching → WatchKind → ObjId → Bool
is_watched ws kind o = list_any (is_watch_of kind o) ws

-- the next moment of a watch
abbrev pub watch_at : WatchKind → ObjId → ℕ → Watching → Watching
watch_at kind o at x = if is_watch_of kind o x then record x { next = at } else x

-- among all watches
abbrev pub watch_next : List Watching → WatchKind → ObjId → ℕ → List Watching
watch_next ws kind o at = map (watch_at kind o at) ws

-- an object is watched from now on, with a moment: where it is watched already, the moment changes and its place stays
abbrev pub watch_put : List Watching → WatchKind → ObjId → ℕ → List Watching
watch_put ws kind o at = if is_watched ws kind o then watch_next ws kind o at else ws ++ record { object = o; kind = kind; next = at } ∷ []

-- an object is not watched for this any more
abbrev pub unwatched : List Watching → WatchKind → ObjId → List Watching
unwatched ws kind o = filter (λ x. not (is_watch_of kind o x)) ws

-- the watches of an object end with it
abbrev pub watches_without : List Watching → ObjId → List Watching
watches_without ws o = filter (λ x. not (nat_eq x.object.0 o.0)) ws
