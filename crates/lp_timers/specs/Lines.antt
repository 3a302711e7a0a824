-- What is to come for objects, in order of putting.
use Rattle.std.specs.Prelude.{ℕ, ◌≤◌, ◌<◌, List, [], ◌∷◌, Bool, true, false, not, nat_eq, nat_le, ◌&&◌, if◌then◌else◌, Option, Some, None, filter, map, ⊤}
use Rattle.std.specs.List.{list_any, AllByRecursion}
use Rattle.lp_values.specs.declared.id.ObjId.{ObjId}
use Rattle.lp_timers.specs.declared.kind.Kind.{Kind}
use Rattle.lp_timers.specs.declared.kind.Kind.TheVariants.{Beat, Reset, CleanUp}
use Rattle.lp_timers.specs.declared.kind.Watch.{Watch}
use Rattle.lp_timers.specs.declared.kind.Watch.TheVariants as watch
use Rattle.lp_timers.specs.declared.line.Line.{Line}

-- what an object is watched for, as a kind
abbrev pub kind_of : Watch → Kind
kind_of watch.Reset = Reset
kind_of watch.CleanUp = CleanUp

-- a kind's place among the kinds
abbrev pub kind_place : Kind → ℕ
kind_place Beat = 0
kind_place Reset = 1
kind_place CleanUp = 2

-- whether two kinds are one
abbrev pub same_kind : Kind → Kind → Bool
same_kind Beat Beat = true
same_kind Beat Reset = false
same_kind Beat CleanUp = false
same_kind Reset Beat = false
same_kind Reset Reset = true
same_kind Reset CleanUp = false
same_kind CleanUp Beat = false
same_kind CleanUp Reset = false
same_kind CleanUp CleanUp = true

-- ---- by objects

-- whether a line is one of an object, of a kind
abbrev pub is_of : Kind → ObjId → Line → Bool
is_of kind o l = same_kind l.kind kind && nat_eq l.ob.0 o.0

-- whether something of a kind is to come for an object
abbrev pub has_line : List Line → Kind → ObjId → Bool
has_line ls kind o = list_any (is_of kind o) ls

-- whether it is to come by a moment
abbrev pub has_line_by : List Line → Kind → ObjId → ℕ → Bool
has_line_by ls kind o t = list_any (λ l. is_of kind o l && nat_le l.next t) ls

-- the line of an object at another moment
abbrev pub line_at : Kind → ObjId → ℕ → Line → Line
line_at kind o at l = if is_of kind o l then record l { next = at } else l

-- among all lines
abbrev pub lines_next : List Line → Kind → ObjId → ℕ → List Line
lines_next ls kind o at = map (line_at kind o at) ls

-- without that of an object
abbrev pub lines_without : List Line → Kind → ObjId → List Line
lines_without ls kind o = filter (λ l. not (is_of kind o l)) ls

-- whether a line is of a kind, and due at a moment
abbrev pub is_due_for : Kind → ℕ → Line → Bool
is_due_for kind t l = same_kind l.kind kind && nat_le l.next t

-- the objects of the lines of a kind that are due at a moment, in order of putting
abbrev pub due_objects : Kind → ℕ → List Line → List ObjId
due_objects kind t ls = map (λ l. l.ob) (filter (is_due_for kind t) ls)

-- ---- by numbers

-- numbers that rise
abbrev pub AreRising : List Line → Type 0
AreRising [] = ⊤
AreRising (l ∷ ls) = AllByRecursion (λ k. l.number < k.number) ls × AreRising ls

-- each number is below this one
abbrev pub AreBelow : ℕ → List Line → Type 0
AreBelow n ls = AllByRecursion (λ l. l.number < n) ls

-- no line is due before a moment
abbrev pub AreFrom : ℕ → List Line → Type 0
AreFrom t ls = AllByRecursion (λ l. t ≤ l.next) ls

-- the line with a number at another moment
abbrev pub line_set : ℕ → ℕ → Line → Line
line_set number at l = if nat_eq l.number number then record l { next = at } else l

-- among all lines
abbrev pub lines_set : List Line → ℕ → ℕ → List Line
lines_set ls number at = map (line_set number at) ls

-- without that of a number
abbrev pub lines_cut : List Line → ℕ → List Line
lines_cut ls number = filter (λ l. not (nat_eq l.number number)) ls

-- the moment of the line with a number, if there is one
abbrev pub moment_of : List Line → ℕ → Option ℕ
moment_of [] number = None
moment_of (l ∷ ls) number = if nat_eq l.number number then Some l.next else moment_of ls number
