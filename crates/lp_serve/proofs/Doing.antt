-- What a game does at a happening.
use Rattle.std.proofs.Common.{subst, ◌≡◌, ℕ, zero, suc, ◌<◌, ◌≤◌, List, [], ◌∷◌, ◌++◌, length, nat_eq, Bool, true, false, if◌then◌else◌, Option, Some, None, Result, Ok, Err, IfOk, OnOk, refl, sym, ap, ◌∙◌, append-nil, append_assoc, arith}
use Rattle.lp_events.specs.declared.event.Event.{Event}
use Rattle.lp_wire.specs.Courses.{Course, Over, Deed, Along, over, and_then}
use Rattle.lp_wire.specs.WireText.{Link, new_link}
use Rattle.lp_wire.specs.Heard.{Hearing, Slow, slow_by, answered, happening_heard, with_stream}
use Rattle.lp_wire.specs.Wires.{taken, given}
use Rattle.lp_wire.specs.declared.happening.Happening.{Happening}
use Rattle.lp_wire.specs.declared.happening.WireCall.{WireCall}
use Rattle.lp_sessions.specs.declared.session.Session.{Session}
use Rattle.lp_sessions.specs.All.{AreTied, TellsAll}
use Rattle.lp_sessions.specs.Serving.{Stands, Foresees}
use Rattle.lp_sessions.proofs.Serving.{stands_calls, foresees_calls, taken_still}
use Rattle.lp_sessions.proofs.Taking.{above_other, given_append, turned as apart_below}
use Rattle.lp_control.specs.Operator.{ControlStands, Operator, TellsOperator, with_answer}
use Rattle.lp_control.proofs.Answered.{answers_fronts}
use Rattle.lp_serving.specs.declared.server.Server.{Server}
use Rattle.lp_serving.specs.Happens.{Aside, Happens, Serving}
use Rattle.lp_serving.proofs.LinesHeard.{along_then, tied_apart, with_stream_off, with_stream_text}
use Rattle.lp_serve.specs.declared.game.Game.{Game}
use Rattle.lp_core.specs.Turning.{Turn}
use Rattle.lp_recording.specs.declared.recording.Keeps.{Keeps}
use Rattle.lp_serving.specs.Recorded.{Recorded}
use Rattle.lp_serve.specs.Standing.{Does, DoesBy, IsForeseen, OffersAgain, StandsFor, TellsAgain}

-- the same server, with other answers and other calls
pub serving_on : (ss : List Session) (hi mo : ℕ) (h : Hearing) (spans : List (List ℕ)) (answers : List ℕ) (stopped : Bool) (l more : List WireCall) → ((j : ℕ) → 0 < j → taken j more ≡ []) → Serving ss hi mo h l
    → Serving ss hi mo (record h { spans = spans; answers = answers; stopped = stopped }) (l ++ more)
serving_on ss hi mo h spans answers stopped l more none v =
    let s = stands_calls ss h l more none v.stands in
    record {
      stands = record { tied = s.tied; above = s.above; connected = s.connected; others = s.others };
      top = v.top;
      now = v.now;
      most = v.most;
      fresh = λ j above. ((v.fresh j above).0, taken_still j l more (none j (omega (arith, above))) ∙ (v.fresh j above).1);
    }

pub serving_calls : (ss : List Session) (hi mo : ℕ) (h : Hearing) (l more : List WireCall) → ((j : ℕ) → 0 < j → taken j more ≡ []) → Serving ss hi mo h l → Serving ss hi mo h (l ++ more)
serving_calls ss hi mo h l more none v = serving_on ss hi mo h h.spans h.answers h.stopped l more none v

-- and with another stream of the operator
pub serving_stream : (ss : List Session) (hi mo : ℕ) (h : Hearing) (bytes : List ℕ) (l : List WireCall) → Serving ss hi mo h l → Serving ss hi mo (with_stream 0 bytes h) l
serving_stream ss hi mo h bytes l v = record {
  stands = record {
    tied = tied_apart 0 h.links (with_stream 0 bytes h).links l ss (λ j apart. with_stream_off 0 j bytes h apart) (above_other 0 0 ss (omega arith) v.stands.above) v.stands.tied;
    above = v.stands.above;
    connected = v.stands.connected;
    others = λ j some other. let front = v.stands.others j some other in (front.0, with_stream_text 0 j bytes h ∙ front.1);
  };
  top = v.top;
  now = v.now;
  most = v.most;
  fresh = λ j above. (with_stream_off 0 j bytes h (apart_below 0 j (omega (arith, above))) ∙ (v.fresh j above).0, (v.fresh j above).1);
}

-- A happening of players

pub aside_control : (k : Operator) (h after : Hearing) (l added : List WireCall) → Aside h after added → ControlStands k h l → ControlStands k after (l ++ added)
aside_control k h after l added a s = answers_fronts.other_heard k h after (l ++ added) a.stream a.spans a.answers (answers_fronts.other_calls k h l added a.untaken s)

pub player_does : (course : Slow → Hearing → Course Hearing) (ran0 ran1 : List Deed → Type 0) (g g1 : Game) (c0 c1 : Option (List WireCall)) → g1.control ≡ g.control
    → Happens course ran0 ran1 g.server.connections.sessions g.server.connections.highest g.server.moment g1.server.connections.sessions g1.server.connections.highest g1.server.moment c0 c1 → Does course ran0 ran1 g g1 false c0 c1
player_does course ran0 ran1 g g1 c0 c1 same p = record {
  deeds = p.deeds;
  ran = p.ran;
  told = λ l told.
      let t = p.told l told in (
        t.0,
        t.1,
        t.2,
        t.3,
        record {
          none_given = t.4.none_given;
          foresees = λ final f. t.4.foresees final f;
          goes = λ final h f s going.
              let r = t.4.goes final h f s.serving in
              (r.0, r.1, record { serving = r.2; control = subst (λ (k : Operator). ControlStands k r.0 (t.0 ++ t.1)) (sym same) (aside_control g.control h r.0 t.0 t.1 r.3 s.control) }, r.3.stopped ∙ going);
        },
      );
}

-- What asks for no turn

-- what was heard changes, and nothing is called
pub stays_does : (change : Hearing → Hearing) (course : Slow → Hearing → Course Hearing) (ran : List Deed → Type 0) (g g1 : Game) (stops : Bool) (c : Option (List WireCall)) → g1.server ≡ g.server
    → ((slow : Slow) (h : Hearing) (l : List WireCall) → StandsFor g h l → h.stopped ≡ false → (course slow h ≡ Over (change h)) × StandsFor g1 (change h) l × ((change h).stopped ≡ stops)) → Does course ran ran g g1 stops c c
stays_does change course ran g g1 stops c same does = record {
  deeds = [];
  ran = λ ds r. rw (append-nil ds) r;
  told = λ l told. (
    l,
    [],
    told,
    sym (append-nil l),
    record {
      none_given = refl;
      foresees = λ final f. subst (λ (s : Server). Foresees final s.connections.sessions s.connections.highest l) same (subst (λ (xs : List WireCall). IsForeseen final g1 xs) (append-nil l) f);
      goes = λ final h f s going.
          let d = does (slow_by final) h l s going in
          (change h, subst (λ (x : Course Hearing). Along x [] (change h)) (sym d.0) (over (change h)), subst (λ (xs : List WireCall). StandsFor g1 (change h) xs) (sym (append-nil l)) d.1, d.2);
    },
  );
}

-- an answer
pub answer_does : (text : List ℕ) (ran : List Deed → Type 0) (g g1 : Game) (c0 c1 : Option (List WireCall)) → TellsOperator (with_answer text g.control) g1.control c0 c1 → g1 ≡ record g { control = g1.control }
    → Does (λ slow h. Over (answered text h)) ran ran g g1 false c0 c1
answer_does text ran g g1 c0 c1 tells rest =
    let same : g1.server ≡ g.server = ap (λ (x : Game). x.server) rest in
    record {
      deeds = [];
      ran = λ ds r. rw (append-nil ds) r;
      told = λ l told.
          let t = tells l told in
          let apart = answers_fronts.apart (with_answer text g.control) g1.control t.1 t.4 in (
            t.0,
            t.1,
            t.2,
            t.3,
            record {
              none_given = apart.none_given;
              foresees = λ final f. foresees_calls final g.server.connections.sessions g.server.connections.highest t.0 t.1 apart.untaken
                  (subst (λ (s : Server). Foresees final s.connections.sessions s.connections.highest (t.0 ++ t.1)) same f);
              goes = λ final h f s going. (
                answered text h,
                over (answered text h),
                record {
                  serving = subst (λ (x : Server). Serving x.connections.sessions x.connections.highest x.moment (answered text h) (t.0 ++ t.1)) (sym same)
                      (serving_on g.server.connections.sessions g.server.connections.highest g.server.moment h h.spans (h.answers ++ text) h.stopped t.0 t.1 apart.untaken s.serving);
                  control = answers_fronts.offered (with_answer text g.control) g1.control t.1 (answered text h) t.0 t.4 (answers_fronts.line_answered text g.control h t.0 s.control);
                },
                going,
              );
            },
          );
    }

-- One after another

pub does_then : (first second both : Slow → Hearing → Course Hearing) (ran0 ran1 ran2 : List Deed → Type 0) (g0 g1 g2 : Game) (stops : Bool) (c0 c1 c2 : Option (List WireCall))
    → ((slow : Slow) (h a b : Hearing) (ds es : List Deed) → Along (first slow h) ds a → Along (second slow a) es b → Along (both slow h) (ds ++ es) b)
    → Does first ran0 ran1 g0 g1 false c0 c1 → Does second ran1 ran2 g1 g2 stops c1 c2 → Does both ran0 ran2 g0 g2 stops c0 c2
does_then first second both ran0 ran1 ran2 g0 g1 g2 stops c0 c1 c2 join a b = record {
  deeds = a.deeds ++ b.deeds;
  ran = λ ds r. subst ran2 (append_assoc ds a.deeds b.deeds) (b.ran (ds ++ a.deeds) (a.ran ds r));
  told = λ l told.
      let y = b.told l told in
      let x = a.told y.0 y.2 in
      let by : DoesBy second g1 g2 stops (x.0 ++ x.1) y.1 b.deeds = subst (λ (xs : List WireCall). DoesBy second g1 g2 stops xs y.1 b.deeds) x.3 y.4 in
      let end : (x.0 ++ x.1) ++ y.1 ≡ x.0 ++ (x.1 ++ y.1) = append_assoc x.0 x.1 y.1 in (
        x.0,
        x.1 ++ y.1,
        x.2,
        y.3 ∙ ap (λ (xs : List WireCall). xs ++ y.1) x.3 ∙ end,
        record {
          none_given = given_append x.1 y.1 ∙ ap (λ (hs : List Happening). hs ++ given y.1) x.4.none_given ∙ by.none_given;
          foresees = λ final f. x.4.foresees final (by.foresees final (subst (λ (xs : List WireCall). IsForeseen final g2 xs) (sym end) f));
          goes = λ final h f s going.
              let f2 : IsForeseen final g2 ((x.0 ++ x.1) ++ y.1) = subst (λ (xs : List WireCall). IsForeseen final g2 xs) (sym end) f in
              let r = x.4.goes final h (by.foresees final f2) s going in
              let q = by.goes final r.0 f2 r.2 r.3 in
              (q.0, join (slow_by final) h r.0 q.0 a.deeds b.deeds r.1 q.1, subst (λ (xs : List WireCall). StandsFor g2 q.0 xs) end q.2, q.3);
        },
      );
}

-- the same by another course
pub does_as : (course course1 : Slow → Hearing → Course Hearing) (ran0 ran1 : List Deed → Type 0) (g g1 : Game) (stops : Bool) (c0 c1 : Option (List WireCall))
    → ((slow : Slow) (h a : Hearing) (ds : List Deed) → h.stopped ≡ false → a.stopped ≡ stops → Along (course slow h) ds a → Along (course1 slow h) ds a) → Does course ran0 ran1 g g1 stops c0 c1 → Does course1 ran0 ran1 g g1 stops c0 c1
does_as course course1 ran0 ran1 g g1 stops c0 c1 same p = record {
  deeds = p.deeds;
  ran = p.ran;
  told = λ l told.
      let t = p.told l told in (
        t.0,
        t.1,
        t.2,
        t.3,
        record {
          none_given = t.4.none_given;
          foresees = λ final f. t.4.foresees final f;
          goes = λ final h f s going. let r = t.4.goes final h f s going in (r.0, same (slow_by final) h r.0 p.deeds going r.3 r.1, r.2, r.3);
        },
      );
}

-- the same, of what is kept of the same kind, and stopping as it does
pub does_keeps : (course : Slow → Hearing → Course Hearing) (ra rb : List Turn → Type 0) (k0 k1 : Keeps) (before wa wb : Option (List ℕ)) (g g1 : Game) (stops : Bool) (c0 c1 : Option (List WireCall)) → k1 ≡ k0
    → Does course (Recorded ra k1 before wa) (Recorded rb k1 before wb) g g1 stops c0 c1 → Does course (Recorded ra k0 before wa) (Recorded rb k0 before wb) g g1 stops c0 c1
does_keeps course ra rb k0 k1 before wa wb g g1 stops c0 c1 e p = subst (λ (k : Keeps). Does course (Recorded ra k before wa) (Recorded rb k before wb) g g1 stops c0 c1) e p

pub does_stops : (course : Slow → Hearing → Course Hearing) (ran0 ran1 : List Deed → Type 0) (g g1 : Game) (a b : Bool) (c0 c1 : Option (List WireCall)) → a ≡ b → Does course ran0 ran1 g g1 a c0 c1 → Does course ran0 ran1 g g1 b c0 c1
does_stops course ran0 ran1 g g1 a b c0 c1 e p = subst (λ (x : Bool). Does course ran0 ran1 g g1 x c0 c1) e p

-- All is offered once more

pub offers_again : (g g1 : Game) (c0 c1 c2 : Option (List WireCall)) → TellsAll g.server.connections.sessions g1.server.connections.sessions c0 c1 → TellsOperator g.control g1.control c1 c2
    → g1.server.connections.highest ≡ g.server.connections.highest → g1.server.moment ≡ g.server.moment → TellsAgain g g1 c0 c2
offers_again g g1 c0 c1 c2 all operator highest moment l told =
    let t = operator l told in
    let a = all t.0 t.2 in (
      a.0,
      a.1 ++ t.1,
      a.2,
      t.3 ∙ ap (λ (xs : List WireCall). xs ++ t.1) a.3 ∙ append_assoc a.0 a.1 t.1,
      record { offers = a.1; others = t.1; both = refl; all = a.4; operator = t.4; highest = highest; moment = moment },
    )

pub happening_on : (a b : Happening) (ran0 ran1 : List Deed → Type 0) (g g1 : Game) (stops : Bool) (c0 c1 : Option (List WireCall)) → a ≡ b → Does (λ slow h. happening_heard slow a h) ran0 ran1 g g1 stops c0 c1
    → Does (λ slow h. happening_heard slow b h) ran0 ran1 g g1 stops c0 c1
happening_on a b ran0 ran1 g g1 stops c0 c1 e p = subst (λ (x : Happening). Does (λ slow h. happening_heard slow x h) ran0 ran1 g g1 stops c0 c1) e p

-- what holds of the answer where a call is Ok
pub if_then : {A E : Type 0} (r : Result A E) (P Q : A → Type 0) → ((a : A) → P a → Q a) → IfOk r P → IfOk r Q
if_then (Ok a) P Q f p = f a p
if_then (Err e) P Q f p = p
