-- What is heard: the events of a served run, happening by happening, as a course that asks for turns and for reads of files.
use Rattle.std.specs.Prelude.{ℕ, zero, suc, ◌+◌, List, [], ◌∷◌, ◌++◌, length, drop, Bool, true, false, not, ◌&&◌, nat_eq, nat_lt, nat_le, Option, Some, None, codes, if◌then◌else◌}
use Rattle.std.specs.List.{list_any, find}
use Rattle.std.specs.Str.{bytes_eq}
use Rattle.lp_events.specs.declared.event.Event.{Event}
use Rattle.lp_events.specs.declared.event.Event.TheVariants.{Connect, Line, Gone, Tick, Reload}
use Rattle.lp_events.specs.declared.out.Out.{Out}
use Rattle.lp_events.specs.Script.{Context, Running, after_event}
use Rattle.lp_words.specs.Paths.{is_path}
use Rattle.lp_telnet.specs.Lines.{lines_of}
use Rattle.lp_wire.specs.WireText.{Link, new_link, behind_outs}
use Rattle.lp_wire.specs.Courses.{Course, Over, Turns, Reads, and_then}
use Rattle.lp_wire.specs.declared.happening.Happening.{Happening}
use Rattle.lp_wire.specs.declared.happening.Happening.TheVariants as happenings

-- WHAT WAS HEARD so far.
pub record Hearing : Type 0 where
  -- what stands before the next event, as in a script
  pub context : Context
  -- what is known of each connection; of connection 0 the stream since it last began
  pub links : ℕ → Link
  -- the answers to the operator in the spans of connection 0 that are over, and in the present one
  pub spans : List (List ℕ)
  pub answers : List ℕ
  -- the operator has stopped the run
  pub stopped : Bool

-- before the first happening
abbrev pub hearing_from : ℕ → Hearing
hearing_from moment = record {
  context = record { stage = Running; moment = moment; last_path = []; highest = 0; connected = [] };
  links = λ k. new_link;
  spans = [];
  answers = [];
  stopped = false;
}

abbrev pub is_connected : ℕ → Hearing → Bool
is_connected k h = list_any (nat_eq k) h.context.connected

-- lines of a connection are events unless it is gone or the driver has closed it
abbrev pub is_open : ℕ → Hearing → Bool
is_open k h = is_connected k h && not (h.links k).closed

-- outputs go to the connections that are there
abbrev pub link_behind : List Out → Hearing → ℕ → Link
link_behind outs h k = if is_connected k h then behind_outs k (h.links k) outs else h.links k

abbrev pub with_outputs : List Out → Hearing → Hearing
with_outputs outs h = record h { links = link_behind outs h }

-- an event had its turn, with these outputs
abbrev pub after_turn : Event → List Out → Hearing → Hearing
after_turn event outs h = with_outputs outs (record h { context = after_event h.context event })

-- Which connection is slow where these bytes were for it. That of a run is `slow_by` of how much the wire has taken in the end.
abbrev pub Slow : Type 0
Slow = ℕ → List ℕ → Bool

-- the most bytes that are pending for one connection
unfoldable pub most_pending : ℕ
most_pending = 262144

-- the text so far is longer than all that is ever taken of it, by more than may be pending
abbrev pub slow_above : ℕ → (ℕ → ℕ) → Slow
slow_above most taken k text = nat_lt (taken k + most) (length text)

abbrev pub slow_by : (ℕ → ℕ) → Slow
slow_by taken = slow_above most_pending taken

-- the lowest number that is slow, since numbers of connections rise
abbrev pub slowest : Slow → Hearing → Option ℕ
slowest slow h = find (λ k. slow k (h.links k).text) h.context.connected

-- Behind each event each slow connection is gone, the lowest first; each is one less, so as many times as there are connections at most.
abbrev pub gone_if : Option ℕ → Hearing → (ℕ → Course Hearing) → Course Hearing
gone_if None h go = Over h
gone_if (Some k) h go = go k

abbrev pub settle : ℕ → Slow → Hearing → Course Hearing
settle zero slow h = Over h
settle (suc n) slow h = gone_if (slowest slow h) h (λ k. Turns (Gone k) (λ outs. settle n slow (after_turn (Gone k) outs h)))

abbrev pub settled : Slow → Hearing → Course Hearing
settled slow h = settle (length h.context.connected) slow h

-- AN EVENT HAS ITS TURN, and those that are slow then are gone
abbrev pub event_heard : Slow → Event → Hearing → Course Hearing
event_heard slow event h = Turns event (λ outs. settled slow (after_turn event outs h))

-- Streams

abbrev pub with_stream : ℕ → List ℕ → Hearing → Hearing
with_stream k bytes h = record h { links = λ j. if nat_eq j k then record (h.links j) { stream = bytes } else h.links j }

-- the lines that end in a piece: those of the stream with it, less those of the stream before
abbrev pub new_lines : List ℕ → List ℕ → List (List ℕ)
new_lines stream piece = drop (length (lines_of stream)) (lines_of (stream ++ piece))

-- a line of a connection, unless the driver has closed it or it is gone
abbrev pub line_heard : Slow → ℕ → List ℕ → Hearing → Course Hearing
line_heard slow k line h = if is_open k h then event_heard slow (Line k line) h else Over h

abbrev pub lines_heard : Slow → ℕ → List (List ℕ) → Hearing → Course Hearing
lines_heard slow k [] h = Over h
lines_heard slow k (line ∷ lines) h = and_then (line_heard slow k line h) (lines_heard slow k lines)

-- The operator

-- an answer to a line of the operator, which ends in a newline alone
abbrev pub answered : List ℕ → Hearing → Hearing
answered text h = record h { answers = h.answers ++ text }

-- what stands behind a word, if a line begins with it
abbrev pub behind_word : List ℕ → List ℕ → Option (List ℕ)
behind_word [] line = Some line
behind_word (b ∷ word) [] = None
behind_word (b ∷ word) (c ∷ line) = if nat_eq b c then behind_word word line else None

-- what the operator asks for
pub data Order : Type 0 where
  Stop : Order
  ReloadFile : List ℕ → Order
  Unknown : Order

abbrev pub order_behind : Option (List ℕ) → Order
order_behind None = Unknown
order_behind (Some path) = ReloadFile path

-- What a line of the operator says: `stop` or `reload PATH`, exactly; everything else, the empty line too, is unknown.
abbrev pub order_of : List ℕ → Order
order_of line = if bytes_eq line (codes "stop") then Stop else order_behind (behind_word (codes "reload ") line)

-- a read of the operator's file has given bytes, or failed; what is no path is not read
abbrev pub reload_heard : Slow → List ℕ → Hearing → Option (List ℕ) → Course Hearing
reload_heard slow path h None = Over (answered (codes "reload failed\n") h)
reload_heard slow path h (Some bytes) = and_then (event_heard slow (Reload path bytes) h) (λ after. Over (answered (codes "ok\n") after))

-- AN ORDER is carried out and answered; `stop` has no answer
abbrev pub order_heard : Slow → Order → Hearing → Course Hearing
order_heard slow Stop h = Over (record h { stopped = true })
order_heard slow (ReloadFile path) h = if is_path path then Reads path (reload_heard slow path h) else Over (answered (codes "reload failed\n") h)
order_heard slow Unknown h = Over (answered (codes "unknown\n") h)

-- nothing behind `stop` counts
abbrev pub order_line_heard : Slow → List ℕ → Hearing → Course Hearing
order_line_heard slow line h = if h.stopped then Over h else order_heard slow (order_of line) h

abbrev pub order_lines_heard : Slow → List (List ℕ) → Hearing → Course Hearing
order_lines_heard slow [] h = Over h
order_lines_heard slow (line ∷ lines) h = and_then (order_line_heard slow line h) (order_lines_heard slow lines)

-- the operator's stream begins anew
abbrev pub new_span : Hearing → Hearing
new_span h = with_stream 0 [] (record h { spans = h.spans ++ h.answers ∷ []; answers = [] })

-- Happenings

-- a connection opens: an event where its number is above all before it
abbrev pub accept_heard : Slow → ℕ → Hearing → Course Hearing
accept_heard slow zero h = Over (new_span h)
accept_heard slow (suc n) h = if nat_lt h.context.highest (suc n) then event_heard slow (Connect (suc n)) h else Over h

-- a connection was lost: an event where it is not gone already
abbrev pub lost_heard : Slow → ℕ → Hearing → Course Hearing
lost_heard slow zero h = Over (new_span h)
lost_heard slow (suc n) h = if is_connected (suc n) h then event_heard slow (Gone (suc n)) h else Over h

-- a moment that a script may have here: it does not fall, and is at most 10^12
abbrev pub tick_fits : ℕ → Hearing → Bool
tick_fits moment h = nat_le h.context.moment moment && nat_le moment 1000000000000

-- the clock: an event where the moment fits
abbrev pub tick_heard : Slow → ℕ → Hearing → Course Hearing
tick_heard slow moment h = if tick_fits moment h then event_heard slow (Tick moment) h else Over h

-- A piece of a stream: of the operator's, or of a connection that is there. Bytes of another number belong to no stream.
abbrev pub piece_heard : Slow → ℕ → List ℕ → Hearing → Course Hearing
piece_heard slow zero bytes h = order_lines_heard slow (new_lines (h.links 0).stream bytes) (with_stream 0 ((h.links 0).stream ++ bytes) h)
piece_heard slow (suc n) bytes h =
    if is_connected (suc n) h then lines_heard slow (suc n) (new_lines (h.links (suc n)).stream bytes) (with_stream (suc n) ((h.links (suc n)).stream ++ bytes) h)
    else Over h

-- ONE HAPPENING: one for which a script has no item here gives no event
abbrev pub happening_heard : Slow → Happening → Hearing → Course Hearing
happening_heard slow (happenings.Accept k) h = accept_heard slow k h
happening_heard slow (happenings.Piece k bytes) h = piece_heard slow k bytes h
happening_heard slow (happenings.Lost k) h = lost_heard slow k h
happening_heard slow (happenings.Tick moment) h = tick_heard slow moment h
happening_heard slow happenings.Idle h = Over h

-- behind `stop` nothing counts
abbrev pub next_heard : Slow → Happening → Hearing → Course Hearing
next_heard slow x h = if h.stopped then Over h else happening_heard slow x h

-- ALL HAPPENINGS that a wire gave, one after another.
abbrev pub heard : Slow → List Happening → Hearing → Course Hearing
heard slow [] h = Over h
heard slow (x ∷ xs) h = and_then (next_heard slow x h) (heard slow xs)
