-- Rows: happenings over a small driver, and what is heard of them.
use Rattle.std.specs.Prelude.{◌≡◌, ℕ, List, [], ◌∷◌, ◌++◌, nat_eq, true, false, Option, Some, None, codes, if◌then◌else◌}
use Rattle.std.specs.Str.{bytes_eq}
use Rattle.lp_events.specs.declared.event.Event.{Event}
use Rattle.lp_events.specs.declared.event.Event.TheVariants as ev
use Rattle.lp_events.specs.declared.out.Out.{Out}
use Rattle.lp_events.specs.declared.out.Out.TheVariants as o
use Rattle.lp_wire.specs.declared.happening.Happening.{Happening}
use Rattle.lp_wire.specs.declared.happening.Happening.TheVariants as h
use Rattle.lp_wire.specs.Courses.{Done, carried, events_of, reads_of}
use Rattle.lp_wire.specs.Heard.{Hearing, hearing_from, heard, slow_above, slow_by}
use Rattle.lp_wire.specs.Record.{record_bytes}

-- A driver with one object, the master: `connect` answers the master itself, `logon` writes `Hello`, and no action is known, so each line but an empty one is
-- answered `What?`. A second connection finds the master taken, and is closed. Its world is the connection that the master has.
abbrev pub Master : Type 0
Master = Option ℕ

abbrev pub connected_to : ℕ → Master → List Out × Master
connected_to k None = (o.Text k (codes "Hello\n") ∷ [], Some k)
connected_to k (Some j) = (o.Close k ∷ [], Some j)

abbrev pub said : ℕ → Master → List Out × Master
said k None = ([], None)
said k (Some j) = if nat_eq k j then (o.Text k (codes "What?\n") ∷ [], Some j) else ([], Some j)

abbrev pub lost : ℕ → Master → List Out × Master
lost k None = ([], None)
lost k (Some j) = if nat_eq k j then ([], None) else ([], Some j)

abbrev pub hello : Master → Event → List Out × Master
hello w (ev.Connect k) = connected_to k w
hello w (ev.Line k []) = ([], w)
hello w (ev.Line k (b ∷ bytes)) = said k w
hello w (ev.Gone k) = lost k w
hello w (ev.Tick moment) = ([], w)
hello w (ev.Reload path bytes) = ([], w)
hello w (ev.Swap name) = ([], w)

-- files: `/a.c` can be read, and no other
abbrev pub read_a : List ℕ → Option (List ℕ)
read_a path = if bytes_eq path (codes "/a.c") then Some (codes "x") else None

-- what is heard of a row, where the wire has taken so many bytes for each connection in the end
abbrev pub shown : (ℕ → ℕ) → List Happening → Done Master Hearing
shown taken happenings = carried hello read_a None (heard (slow_by taken) happenings (hearing_from 0))

abbrev pub Hears : (ℕ → ℕ) → List Happening → List Event → Type 0
Hears taken happenings events = events_of (shown taken happenings).deeds ≡ events

-- all that is offered is taken, in rows whose texts are short
abbrev pub all : ℕ → ℕ
all k = 1000000

-- A line in three pieces, with a telnet command in its middle; then the operator stops. What is heard, sent and recorded.
abbrev pub look : List Happening
look = h.Accept 1 ∷ h.Piece 1 (codes "lo") ∷ h.Piece 1 (255 ∷ 253 ∷ 1 ∷ codes "ok") ∷ h.Piece 1 (13 ∷ 10 ∷ []) ∷ h.Piece 0 (codes "stop\n") ∷ []

abbrev pub master_file : List ℕ × List ℕ
master_file = (codes "/secure/master.c", codes "object connect() { return this_object(); }\nint logon() { write(\"Hello\\n\"); return 1; }\n")

abbrev pub look_record : List ℕ
look_record =
    codes "mudscript 1 0 0\n" ++ codes "file /secure/master.c 87\n" ++ master_file.1 ++ codes "\n"
    ++ codes "start\n" ++ codes "connect 1\n" ++ codes "line 1 4\n" ++ codes "look\n" ++ codes "end\n"

pub record LookRow : Type 0 where
  pub events : Hears all look (ev.Connect 1 ∷ ev.Line 1 (codes "look") ∷ [])
  pub text : ((shown all look).end.links 1).text ≡ codes "Hello" ++ 13 ∷ 10 ∷ codes "What?" ++ 13 ∷ 10 ∷ []
  pub script : record_bytes 0 0 (master_file ∷ []) (events_of (shown all look).deeds) ≡ look_record
  pub stopped : (shown all look).end.stopped ≡ true

-- Two connections come to one master: the driver closes the second, its line is not heard, and no text is for it.
abbrev pub two : List Happening
two = h.Accept 1 ∷ h.Accept 2 ∷ h.Piece 2 (codes "hi\n") ∷ h.Piece 0 (codes "stop\n") ∷ []

pub record TwoRow : Type 0 where
  pub events : Hears all two (ev.Connect 1 ∷ ev.Connect 2 ∷ [])
  pub text : ((shown all two).end.links 2).text ≡ []
  pub closed : ((shown all two).end.links 2).closed ≡ true
  pub first : ((shown all two).end.links 1).closed ≡ false

-- Happenings for which a script has no item: a number that is there already, bytes of a number that never came, bytes of one that is gone, and what follows `stop`.
abbrev pub odd : List Happening
odd = h.Accept 1 ∷ h.Accept 1 ∷ h.Piece 7 (codes "x\n") ∷ h.Piece 1 (codes "lo") ∷ h.Lost 1 ∷ h.Piece 1 (codes "ok\n") ∷ h.Piece 0 (codes "stop\n") ∷ h.Accept 5 ∷ []

pub record OddRow : Type 0 where
  pub events : Hears all odd (ev.Connect 1 ∷ ev.Gone 1 ∷ [])

-- Bytes that come before their connection opens belong to no stream.
abbrev pub early : List Happening
early = h.Piece 3 (codes "lo") ∷ h.Accept 3 ∷ h.Piece 3 (codes "ok\n") ∷ []

-- Ticks: one that falls and one past the last moment are not heard.
abbrev pub ticks : List Happening
ticks = h.Tick 5 ∷ h.Tick 4 ∷ h.Idle ∷ h.Tick 5 ∷ h.Tick 1000000000001 ∷ []

-- The operator: unknown words, a file that cannot be read, what is no path, and a file that can; in two spans, and what follows `stop` is not heard.
abbrev pub orders : List Happening
orders =
    h.Accept 0 ∷ h.Piece 0 (codes "look\nreload /no.c\nrelo") ∷ h.Piece 0 (codes "ad /a.c\r\n") ∷ h.Lost 0 ∷ h.Piece 0 (codes "reload a.c\n") ∷ h.Piece 0 (codes "stop\nreload /a.c\n") ∷ []

pub record OrdersRow : Type 0 where
  pub events : Hears all orders (ev.Reload (codes "/a.c") (codes "x") ∷ [])
  pub spans : (shown all orders).end.spans ≡ ([]) ∷ (codes "unknown\nreload failed\nok\n") ∷ []
  pub answers : (shown all orders).end.answers ≡ codes "reload failed\n"
  pub reads : reads_of (shown all orders).deeds ≡ (codes "/no.c", None) ∷ (codes "/a.c", Some (codes "x")) ∷ []

-- The operator's words, exactly: the empty line and words with a blank behind them are unknown, and nothing is a path; none of them stops the run.
abbrev pub words : List Happening
words = h.Piece 0 (codes "\nstop \nreload\nreload \n") ∷ []

pub record WordsRow : Type 0 where
  pub answers : (shown all words).end.answers ≡ codes "unknown\nunknown\nunknown\nreload failed\n"
  pub stopped : (shown all words).end.stopped ≡ false

-- Slow connections: of what comes for connection 1 two bytes are ever taken, and at most four may be pending. Behind its first block it is gone, and its line is not heard.
abbrev pub shown_above : ℕ → (ℕ → ℕ) → List Happening → Done Master Hearing
shown_above most taken happenings = carried hello read_a None (heard (slow_above most taken) happenings (hearing_from 0))

abbrev pub two_bytes : ℕ → ℕ
two_bytes k = 2

abbrev pub slow_look : List Happening
slow_look = h.Accept 1 ∷ h.Piece 1 (codes "look\n") ∷ h.Tick 1 ∷ h.Lost 1 ∷ h.Accept 2 ∷ h.Piece 0 (codes "stop\n") ∷ []

pub record SlowRow : Type 0 where
  pub gone : events_of (shown_above 4 two_bytes slow_look).deeds ≡ ev.Connect 1 ∷ ev.Gone 1 ∷ ev.Tick 1 ∷ ev.Connect 2 ∷ ev.Gone 2 ∷ []
  pub not_yet : events_of (shown_above 5 two_bytes slow_look).deeds ≡ ev.Connect 1 ∷ ev.Line 1 (codes "look") ∷ ev.Gone 1 ∷ ev.Tick 1 ∷ ev.Connect 2 ∷ []
  pub kept : events_of (shown_above 12 two_bytes slow_look).deeds ≡ ev.Connect 1 ∷ ev.Line 1 (codes "look") ∷ ev.Tick 1 ∷ ev.Gone 1 ∷ ev.Connect 2 ∷ []

pub record HeardRows : Type 0 where
  pub look : LookRow
  pub two : TwoRow
  pub odd : OddRow
  pub early : Hears all early (ev.Connect 3 ∷ ev.Line 3 (codes "ok") ∷ [])
  pub ticks : Hears all ticks (ev.Tick 5 ∷ ev.Tick 5 ∷ [])
  pub orders : OrdersRow
  pub words : WordsRow
  pub slow : SlowRow
