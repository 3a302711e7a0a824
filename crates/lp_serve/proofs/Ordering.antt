-- What a game does for its operator.
use Rattle.std.proofs.Common.{subst, ◌≡◌, ℕ, ◌<◌, ◌+◌, List, [], ◌∷◌, ◌++◌, length, take, drop, get_or, Bool, true, false, if◌then◌else◌, Option, Some, None, refl, sym, ap, ◌∙◌, append-nil, append_assoc, arith}
use Rattle.std.proofs.lemmas.List.{take_more, take-append-drop}
use Rattle.lp_io.specs.Told.{after_adding}
use Rattle.lp_events.specs.declared.event.Event.{Event}
use Rattle.lp_events.specs.declared.event.Event.TheVariants.{Reload}
use Rattle.lp_words.specs.Paths.{is_path}
use Rattle.lp_core.specs.Turning.{Turn, turns_of}
use Rattle.lp_wire.specs.Courses.{Course, Over, Reads, Deed, WasRead, Along, over, was_read, and_then}
use Rattle.lp_wire.specs.Heard.{Hearing, Slow, slow_by, answered, event_heard, new_lines, new_span, order_heard, order_line_heard, order_lines_heard, order_of, Order, Stop, ReloadFile, Unknown, piece_heard, reload_heard, with_stream, accept_heard, lost_heard}
use Rattle.lp_wire.specs.declared.happening.WireCall.{WireCall}
use Rattle.lp_control.specs.Operator.{ControlStands, IsFed, Operator, new_operator}
use Rattle.lp_control.proofs.Answered.{answers_fronts}
use Rattle.lp_recording.specs.declared.recording.Keeps.{Keeps}
use Rattle.lp_recording.specs.declared.recording.Keeps.TheVariants as kept
use Rattle.lp_sessions.specs.Serving.{Foresees}
use Rattle.lp_serving.specs.declared.server.Server.{Server}
use Rattle.lp_serving.specs.Recorded.{Recorded, deeds_written}
use Rattle.lp_serving.specs.Serves.{Goes, turn_course}
use Rattle.lp_serving.specs.Happens.{Happens, Serving}
use Rattle.lp_serving.proofs.EventsRecorded.{turns_append, written_append}
use Rattle.lp_serving.proofs.Happening.{event_happens, to_state}
use Rattle.lp_serving.proofs.LinesHeard.{along_over, along_parts, along_same, along_then}
use Rattle.lp_sessions.specs.declared.session.Session.{Session}
use Rattle.lp_serve.specs.declared.game.Game.{Game}
use Rattle.lp_serve.specs.Standing.{Does, DoesBy, IsForeseen, StandsFor}
use Rattle.lp_serve.proofs.Doing.{serving_calls, serving_on, serving_stream, player_does, stays_does, does_then, does_as}

-- Recorded, and a file was read

read_written : (keeps : Keeps) (path : List ℕ) (bytes : Option (List ℕ)) → deeds_written keeps (WasRead path bytes ∷ []) ≡ []
read_written kept.Record path bytes = refl
read_written kept.Log path bytes = refl

pub recorded_read : (ran : List Turn → Type 0) (keeps : Keeps) (before w : Option (List ℕ)) (path : List ℕ) (bytes : Option (List ℕ)) (ds : List Deed) → Recorded ran keeps before w ds → Recorded ran keeps before w (ds ++ WasRead path bytes ∷ [])
recorded_read ran keeps before w path bytes ds r =
    let same : deeds_written keeps ds ≡ deeds_written keeps (ds ++ WasRead path bytes ∷ []) =
    sym (append-nil (deeds_written keeps ds)) ∙ ap (λ (xs : List ℕ). deeds_written keeps ds ++ xs) (sym (read_written keeps path bytes)) ∙ sym (written_append keeps ds (WasRead path bytes ∷ [])) in
    record {
      did = subst ran (sym (turns_append ds (WasRead path bytes ∷ []) ∙ append-nil (turns_of ds))) r.did;
      written = r.written ∙ ap (after_adding before) same;
    }

-- a file is read first
pub does_read : (path : List ℕ) (bytes : Option (List ℕ)) (go : Slow → Hearing → Option (List ℕ) → Course Hearing) (ran : List Turn → Type 0) (keeps : Keeps) (before w : Option (List ℕ)) (ran1 : List Deed → Type 0) (g g1 : Game) (stops : Bool) (c0 c1 : Option (List WireCall))
    → Does (λ slow h. go slow h bytes) (Recorded ran keeps before w) ran1 g g1 stops c0 c1 → Does (λ slow h. Reads path (go slow h)) (Recorded ran keeps before w) ran1 g g1 stops c0 c1
does_read path bytes go ran keeps before w ran1 g g1 stops c0 c1 p = record {
  deeds = WasRead path bytes ∷ p.deeds;
  ran = λ ds r. subst ran1 (append_assoc ds (WasRead path bytes ∷ []) p.deeds) (p.ran (ds ++ WasRead path bytes ∷ []) (recorded_read ran keeps before w path bytes ds r));
  told = λ l told.
      let t = p.told l told in (
        t.0,
        t.1,
        t.2,
        t.3,
        record {
          none_given = t.4.none_given;
          foresees = λ final f. t.4.foresees final f;
          goes = λ final h f s going. let r = t.4.goes final h f s going in (r.0, was_read path (go (slow_by final) h) bytes r.1, r.2, r.3);
        },
      );
}

-- What an order comes to

-- an event whose context is the one before it
pub reload_does : (path bytes : List ℕ) (ran0 ran1 : List Deed → Type 0) (g g1 : Game) (c0 c1 : Option (List WireCall)) → g1.control ≡ g.control → g1.server.connections.highest ≡ g.server.connections.highest → g1.server.moment ≡ g.server.moment
    → Goes (turn_course (Reload path bytes)) ran0 ran1 g.server.connections.sessions g1.server.connections.sessions c0 c1 → Does (λ slow h. event_heard slow (Reload path bytes) h) ran0 ran1 g g1 false c0 c1
reload_does path bytes ran0 ran1 g g1 c0 c1 control highest moment p =
    let hi = g.server.connections.highest in
    let mo = g.server.moment in
    let ss = g.server.connections.sessions in
    let ss1 = g1.server.connections.sessions in
    player_does (λ slow h. event_heard slow (Reload path bytes) h) ran0 ran1 g g1 c0 c1 control
    (to_state (λ slow h. event_heard slow (Reload path bytes) h) ran0 ran1 ss hi mo ss1 hi mo g1.server.connections.highest g1.server.moment c0 c1 highest moment
    (event_happens (Reload path bytes) (λ slow h. event_heard slow (Reload path bytes) h) ran0 ran1 ss hi mo ss hi mo ss1 c0 c1 (λ h l v. v) (λ final l f. f) (λ slow h l v. refl) p))

-- it is read and answered
pub reloaded_does : (path bytes text : List ℕ) (ran0 ran1 : List Deed → Type 0) (g g1 g2 : Game) (c0 c1 c2 : Option (List WireCall))
    → Does (λ slow h. event_heard slow (Reload path bytes) h) ran0 ran1 g g1 false c0 c1 → Does (λ slow h. Over (answered text h)) ran1 ran1 g1 g2 false c1 c2
    → Does (λ slow h. and_then (event_heard slow (Reload path bytes) h) (λ after. Over (answered text after))) ran0 ran1 g g2 false c0 c2
reloaded_does path bytes text ran0 ran1 g g1 g2 c0 c1 c2 first second =
    does_then (λ slow h. event_heard slow (Reload path bytes) h) (λ slow h. Over (answered text h)) (λ slow h. and_then (event_heard slow (Reload path bytes) h) (λ after. Over (answered text after))) ran0 ran1 ran1 g g1 g2 false c0 c1 c2
    (λ slow h a b ds es p q. along_then (event_heard slow (Reload path bytes) h) (λ after. Over (answered text after)) ds es a b p q) first second

-- a path is read, and what is none is not
pub path_does : (word : List ℕ) (ran0 ran1 : List Deed → Type 0) (g g1 : Game) (c0 c1 : Option (List WireCall)) → is_path word ≡ true
    → Does (λ slow h. Reads word (reload_heard slow word h)) ran0 ran1 g g1 false c0 c1 → Does (λ slow h. order_heard slow (ReloadFile word) h) ran0 ran1 g g1 false c0 c1
path_does word ran0 ran1 g g1 c0 c1 is p = does_as (λ slow h. Reads word (reload_heard slow word h)) (λ slow h. order_heard slow (ReloadFile word) h) ran0 ran1 g g1 false c0 c1 (λ slow h a ds going end along. rw is along) p

pub no_path_does : (word text : List ℕ) (ran0 ran1 : List Deed → Type 0) (g g1 : Game) (c0 c1 : Option (List WireCall)) → is_path word ≡ false → ((slow : Slow) (h : Hearing) → reload_heard slow word h None ≡ Over (answered text h))
    → Does (λ slow h. Over (answered text h)) ran0 ran1 g g1 false c0 c1 → Does (λ slow h. order_heard slow (ReloadFile word) h) ran0 ran1 g g1 false c0 c1
no_path_does word text ran0 ran1 g g1 c0 c1 isnt same p =
    does_as (λ slow h. Over (answered text h)) (λ slow h. order_heard slow (ReloadFile word) h) ran0 ran1 g g1 false c0 c1 (λ slow h a ds going end along. rw isnt (subst (λ (x : Course Hearing). Along x ds a) (sym (same slow h)) along)) p

-- it stops the run
pub stop_does : (order : Order) (ran : List Deed → Type 0) (g : Game) (c : Option (List WireCall)) → order ≡ Stop → Does (λ slow h. order_heard slow order h) ran ran g g true c c
stop_does order ran g c is = stays_does (λ h. record h { stopped = true }) (λ slow h. order_heard slow order h) ran g g true c refl (λ slow h l s going. (
  subst (λ (o : Order). order_heard slow o h ≡ Over (record h { stopped = true })) (sym is) refl,
  record {
    serving = subst (λ (xs : List WireCall). Serving g.server.connections.sessions g.server.connections.highest g.server.moment (record h { stopped = true }) xs) (append-nil l)
        (serving_on g.server.connections.sessions g.server.connections.highest g.server.moment h h.spans h.answers true l [] (λ j some. refl) s.serving);
    control = answers_fronts.other_heard g.control h (record h { stopped = true }) l refl refl refl s.control;
  },
  refl,
))

-- an order by another name
pub order_on : (a b : Order) (ran0 ran1 : List Deed → Type 0) (g g1 : Game) (stops : Bool) (c0 c1 : Option (List WireCall)) → a ≡ b → Does (λ slow h. order_heard slow a h) ran0 ran1 g g1 stops c0 c1 → Does (λ slow h. order_heard slow b h) ran0 ran1 g g1 stops c0 c1
order_on a b ran0 ran1 g g1 stops c0 c1 e p = subst (λ (o : Order). Does (λ slow h. order_heard slow o h) ran0 ran1 g g1 stops c0 c1) e p

-- Lines

pub order_line : (line : List ℕ) (ran0 ran1 : List Deed → Type 0) (g g1 : Game) (stops : Bool) (c0 c1 : Option (List WireCall)) → Does (λ slow h. order_heard slow (order_of line) h) ran0 ran1 g g1 stops c0 c1
    → Does (λ slow h. order_line_heard slow line h) ran0 ran1 g g1 stops c0 c1
order_line line ran0 ran1 g g1 stops c0 c1 p = does_as (λ slow h. order_heard slow (order_of line) h) (λ slow h. order_line_heard slow line h) ran0 ran1 g g1 stops c0 c1 (λ slow h a ds going end along. subst (λ (b : Bool). Along (if b then Over h else order_heard slow (order_of line) h) ds a) (sym going) along) p

lines_more : (lines : List (List ℕ)) (line : List ℕ) (slow : Slow) (h a b : Hearing) (ds es : List Deed) → Along (order_lines_heard slow lines h) ds a → Along (order_line_heard slow line a) es b
    → Along (order_lines_heard slow (lines ++ line ∷ []) h) (ds ++ es) b
lines_more [] line slow h a b ds es first second =
    let none = along_over h a ds first in
    let two : Along (order_line_heard slow line h) es b = subst (λ (x : Hearing). Along (order_line_heard slow line x) es b) none.1 second in
    let last : Along (and_then (order_line_heard slow line h) (order_lines_heard slow [])) (es ++ []) b = along_then (order_line_heard slow line h) (order_lines_heard slow []) es [] b b two (over b) in
    along_same (order_lines_heard slow (line ∷ []) h) (es ++ []) (ds ++ es) b (append-nil es ∙ ap (λ (xs : List Deed). xs ++ es) (sym none.0)) last
lines_more (x ∷ lines) line slow h a b ds es first second =
    let p = along_parts (order_line_heard slow x h) (order_lines_heard slow lines) ds a first in
    let rest = lines_more lines line slow p.mid a b p.second es p.there second in
    let all = along_then (order_line_heard slow x h) (order_lines_heard slow (lines ++ line ∷ [])) p.first (p.second ++ es) p.mid b p.here rest in
    along_same (order_lines_heard slow (x ∷ (lines ++ line ∷ [])) h) (p.first ++ (p.second ++ es)) (ds ++ es) b (sym (append_assoc p.first p.second es) ∙ ap (λ (xs : List Deed). xs ++ es) (sym p.whole)) all

-- behind one that stops the run nothing counts
lines_over : (lines : List (List ℕ)) (slow : Slow) (h : Hearing) → h.stopped ≡ true → Along (order_lines_heard slow lines h) [] h
lines_over [] slow h over_now = over h
lines_over (x ∷ lines) slow h over_now =
    subst (λ (b : Bool). Along (and_then (if b then Over h else order_heard slow (order_of x) h) (order_lines_heard slow lines)) [] h) (sym over_now) (lines_over lines slow h over_now)

lines_end : (lines more : List (List ℕ)) (slow : Slow) (h a : Hearing) (ds : List Deed) → a.stopped ≡ true → Along (order_lines_heard slow lines h) ds a → Along (order_lines_heard slow (lines ++ more) h) ds a
lines_end [] more slow h a ds end along =
    let none = along_over h a ds along in
    let ends : h.stopped ≡ true = subst (λ (x : Hearing). x.stopped ≡ true) none.1 end in
    let all : Along (order_lines_heard slow more h) [] h = lines_over more slow h ends in
    subst (λ (x : Hearing). Along (order_lines_heard slow more h) ds x) (sym none.1) (along_same (order_lines_heard slow more h) [] ds h (sym none.0) all)
lines_end (x ∷ lines) more slow h a ds end along =
    let p = along_parts (order_line_heard slow x h) (order_lines_heard slow lines) ds a along in
    let rest = lines_end lines more slow p.mid a p.second end p.there in
    along_same (order_lines_heard slow (x ∷ (lines ++ more)) h) (p.first ++ p.second) ds a (sym p.whole) (along_then (order_line_heard slow x h) (order_lines_heard slow (lines ++ more)) p.first p.second p.mid a p.here rest)

pub no_orders : (ran : List Deed → Type 0) (g : Game) (c : Option (List WireCall)) → Does (λ slow h. order_lines_heard slow [] h) ran ran g g false c c
no_orders ran g c = stays_does (λ h. h) (λ slow h. order_lines_heard slow [] h) ran g g false c refl (λ slow h l s going. (refl, s, going))

-- the lines so far, and one more
pub more_orders : (lines : List (List ℕ)) (i : ℕ) (line d : List ℕ) (ran0 ran1 ran2 : List Deed → Type 0) (g0 g1 g2 : Game) (stops : Bool) (c0 c1 c2 : Option (List WireCall)) → i < length lines → line ≡ get_or lines i d
    → Does (λ slow h. order_lines_heard slow (take i lines) h) ran0 ran1 g0 g1 false c0 c1 → Does (λ slow h. order_heard slow (order_of line) h) ran1 ran2 g1 g2 stops c1 c2
    → Does (λ slow h. order_lines_heard slow (take (i + 1) lines) h) ran0 ran2 g0 g2 stops c0 c2
more_orders lines i line d ran0 ran1 ran2 g0 g1 g2 stops c0 c1 c2 within is first second =
    let more : take i lines ++ line ∷ [] ≡ take (i + 1) lines = ap (λ (x : List ℕ). take i lines ++ x ∷ []) is ∙ sym (take_more lines i d within) in
    subst (λ (ls : List (List ℕ)). Does (λ slow h. order_lines_heard slow ls h) ran0 ran2 g0 g2 stops c0 c2) more
    (does_then (λ slow h. order_lines_heard slow (take i lines) h) (λ slow h. order_line_heard slow line h) (λ slow h. order_lines_heard slow (take i lines ++ line ∷ []) h) ran0 ran1 ran2 g0 g1 g2 stops c0 c1 c2
    (λ slow h a b ds es p q. lines_more (take i lines) line slow h a b ds es p q) first (order_line line ran1 ran2 g1 g2 stops c1 c2 second))

-- the line that stops the run, and all others behind it
pub last_order : (lines : List (List ℕ)) (n : ℕ) (ran0 ran1 : List Deed → Type 0) (g g1 : Game) (c0 c1 : Option (List WireCall)) → Does (λ slow h. order_lines_heard slow (take n lines) h) ran0 ran1 g g1 true c0 c1
    → Does (λ slow h. order_lines_heard slow lines h) ran0 ran1 g g1 true c0 c1
last_order lines n ran0 ran1 g g1 c0 c1 p =
    does_as (λ slow h. order_lines_heard slow (take n lines) h) (λ slow h. order_lines_heard slow lines h) ran0 ran1 g g1 true c0 c1
    (λ slow h a ds going end along. subst (λ (ls : List (List ℕ)). Along (order_lines_heard slow ls h) ds a) (take-append-drop n lines) (lines_end (take n lines) (drop n lines) slow h a ds end along)) p

pub orders_on : (a b : List (List ℕ)) (ran0 ran1 : List Deed → Type 0) (g g1 : Game) (stops : Bool) (c0 c1 : Option (List WireCall)) → a ≡ b → Does (λ slow h. order_lines_heard slow a h) ran0 ran1 g g1 stops c0 c1
    → Does (λ slow h. order_lines_heard slow b h) ran0 ran1 g g1 stops c0 c1
orders_on a b ran0 ran1 g g1 stops c0 c1 e p = subst (λ (ls : List (List ℕ)). Does (λ slow h. order_lines_heard slow ls h) ran0 ran1 g g1 stops c0 c1) e p

-- The operator's stream

-- a piece of it
pub operator_piece : (k : ℕ) (bytes : List ℕ) (ended : List (List ℕ)) (ran0 ran1 : List Deed → Type 0) (g gm g1 : Game) (stops : Bool) (c0 c1 : Option (List WireCall)) → k ≡ 0 → gm.server ≡ g.server → IsFed bytes ended g.control gm.control
    → Does (λ slow h. order_lines_heard slow ended h) ran0 ran1 gm g1 stops c0 c1 → Does (λ slow h. piece_heard slow k bytes h) ran0 ran1 g g1 stops c0 c1
operator_piece k bytes ended ran0 ran1 g gm g1 stops c0 c1 none same fed p = record {
  deeds = p.deeds;
  ran = p.ran;
  told = λ l told.
      let t = p.told l told in (
        t.0,
        t.1,
        t.2,
        t.3,
        record {
          none_given = t.4.none_given;
          foresees = λ final f. subst (λ (s : Server). Foresees final s.connections.sessions s.connections.highest t.0) same (t.4.foresees final f);
          goes = λ final h f s going.
              let h1 = with_stream 0 ((h.links 0).stream ++ bytes) h in
              let law = answers_fronts.fed bytes ended g.control gm.control h t.0 fed s.control in
              let sm : StandsFor gm h1 t.0 = record {
                serving = subst (λ (x : Server). Serving x.connections.sessions x.connections.highest x.moment h1 t.0) (sym same)
                    (serving_stream g.server.connections.sessions g.server.connections.highest g.server.moment h ((h.links 0).stream ++ bytes) t.0 s.serving);
                control = law.1;
              } in
              let r = t.4.goes final h1 f sm going in
              let heard0 : Along (order_lines_heard (slow_by final) (new_lines (h.links 0).stream bytes) h1) p.deeds r.0 =
              subst (λ (ls : List (List ℕ)). Along (order_lines_heard (slow_by final) ls h1) p.deeds r.0) law.0 r.1 in
              (r.0, subst (λ (n : ℕ). Along (piece_heard (slow_by final) n bytes h) p.deeds r.0) (sym none) heard0, r.2, r.3);
        },
      );
}

-- it begins anew
pub renewed : (g g1 : Game) (h : Hearing) (l : List WireCall) → g1 ≡ record g { control = new_operator } → StandsFor g h l → StandsFor g1 (new_span h) l
renewed g g1 h l is s = subst (λ (x : Game). StandsFor x (new_span h) l) (sym is) (record {
  serving = serving_stream g.server.connections.sessions g.server.connections.highest g.server.moment (record h { spans = h.spans ++ h.answers ∷ []; answers = [] }) [] l
      (subst (λ (xs : List WireCall). Serving g.server.connections.sessions g.server.connections.highest g.server.moment (record h { spans = h.spans ++ h.answers ∷ []; answers = [] }) xs) (append-nil l)
      (serving_on g.server.connections.sessions g.server.connections.highest g.server.moment h (h.spans ++ h.answers ∷ []) [] h.stopped l [] (λ j some. refl) s.serving));
  control = answers_fronts.renewed g.control h l s.control;
})

pub accept_renews : (k : ℕ) (ran : List Deed → Type 0) (g g1 : Game) (c : Option (List WireCall)) → k ≡ 0 → g1 ≡ record g { control = new_operator } → Does (λ slow h. accept_heard slow k h) ran ran g g1 false c c
accept_renews k ran g g1 c none is = stays_does (λ h. new_span h) (λ slow h. accept_heard slow k h) ran g g1 false c (ap (λ (x : Game). x.server) is)
    (λ slow h l s going. (subst (λ (n : ℕ). accept_heard slow n h ≡ Over (new_span h)) (sym none) refl, renewed g g1 h l is s, going))

pub lose_renews : (k : ℕ) (ran : List Deed → Type 0) (g g1 : Game) (c : Option (List WireCall)) → k ≡ 0 → g1 ≡ record g { control = new_operator } → Does (λ slow h. lost_heard slow k h) ran ran g g1 false c c
lose_renews k ran g g1 c none is = stays_does (λ h. new_span h) (λ slow h. lost_heard slow k h) ran g g1 false c (ap (λ (x : Game). x.server) is)
    (λ slow h l s going. (subst (λ (n : ℕ). lost_heard slow n h ≡ Over (new_span h)) (sym none) refl, renewed g g1 h l is s, going))

pub reload_on : (a b : List ℕ) (bytes : Option (List ℕ)) (ran0 ran1 : List Deed → Type 0) (g g1 : Game) (stops : Bool) (c0 c1 : Option (List WireCall)) → a ≡ b → Does (λ slow h. reload_heard slow a h bytes) ran0 ran1 g g1 stops c0 c1
    → Does (λ slow h. reload_heard slow b h bytes) ran0 ran1 g g1 stops c0 c1
reload_on a b bytes ran0 ran1 g g1 stops c0 c1 e p = subst (λ (path : List ℕ). Does (λ slow h. reload_heard slow path h bytes) ran0 ran1 g g1 stops c0 c1) e p
