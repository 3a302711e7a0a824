-- A piece of a connection's stream.
use Rattle.std.proofs.Common.{rules, subst, ◌≡◌, ℕ, zero, suc, ◌<◌, ◌≤◌, ◌+◌, List, [], ◌∷◌, ◌++◌, length, map, take, drop, get_or, slice_set, nat_eq, not, ◌&&◌, Bool, true, false, Option, Some, None, refl, sym, ap, ◌∙◌, append-nil, append_assoc, arith, inl, inr}
use Rattle.std.specs.List.{list_any}
use Rattle.std.proofs.lemmas.Bool.{cases_Bool}
use Rattle.std.proofs.lemmas.List.{take_more}
use Rattle.std.proofs.Math.Seq.{drop-append_seam}
use Rattle.lp_events.specs.declared.event.Event.TheVariants.{Line}
use Rattle.lp_telnet.specs.Lines.{lines_of, lines_from}
use Rattle.lp_wire.specs.Courses.{Course, Over, Turns, Reads, Deed, Turned, WasRead, Along, over, turned, was_read, and_then}
use Rattle.lp_wire.specs.WireText.{Link, new_link}
use Rattle.lp_wire.specs.Heard.{is_connected, is_open, Hearing, Slow, slow_by, event_heard, line_heard, lines_heard, piece_heard, new_lines, with_stream}
use Rattle.lp_wire.specs.Wires.{Adds, taken, given}
use Rattle.lp_wire.specs.declared.happening.Happening.{Happening}
use Rattle.lp_wire.specs.declared.happening.WireCall.{WireCall}
use Rattle.lp_sessions.specs.declared.session.Phase.{Phase}
use Rattle.lp_sessions.specs.declared.session.Phase.TheVariants as phases
use Rattle.lp_sessions.specs.declared.session.Session.{Session}
use Rattle.lp_sessions.specs.Tied.{HasText, HasStream, IsTied, new_session}
use Rattle.lp_sessions.specs.All.{numbers, AreTied, AreAbove, AreOther, Fed}
use Rattle.lp_sessions.specs.Serving.{Stands, Foresees, IsFront}
use Rattle.lp_sessions.proofs.Serving.{text_of, same_number, other_any, other_same, tied_at}
use Rattle.lp_sessions.proofs.Taking.{below_other, turned as apart_below, above_other, taken_append, given_append, eq_self}
use Rattle.lp_sessions.proofs.Outputs.{above_at, numbers_set, eq_turned}
use Rattle.lp_core.specs.Turning.{Turn}
use Rattle.lp_sessions.specs.Table.{AreAtMost}
use Rattle.lp_serving.specs.Serves.{RanOn, turn_course, Goes}
use Rattle.lp_serving.specs.Happens.{open_phase, Aside, Serving, HappensBy, Happens}
use Rattle.lp_recording.specs.declared.recording.Keeps.{Keeps}
use Rattle.lp_serving.specs.Recorded.{Recorded}
use Rattle.lp_serving.proofs.Going.{most_same, most_at}
use Rattle.lp_serving.proofs.Happening.{number_in, event_happens, nothing_happens}

-- Courses, one after another

pub along_then : {A B : Type 0} (c : Course A) (f : A → Course B) (ds es : List Deed) (a : A) (b : B) → Along c ds a → Along (f a) es b → Along (and_then c f) (ds ++ es) b
along_then _ f _ es _ b (over a) second = second
along_then _ f _ es _ b (turned event go outs {more} {a} rest) second = turned event (λ outs. and_then (go outs) f) outs (along_then (go outs) f more es a b rest second)
along_then _ f _ es _ b (was_read path go bytes {more} {a} rest) second = was_read path (λ bytes. and_then (go bytes) f) bytes (along_then (go bytes) f more es a b rest second)

pub along_over : {A : Type 0} (a b : A) (ds : List Deed) → Along (Over a) ds b → (ds ≡ []) × (b ≡ a)
along_over _ _ _ (over a) = (refl, refl)

-- a course that was gone along after another one has two parts
pub record InParts {A B : Type 0} (c : Course A) (f : A → Course B) (ds : List Deed) (b : B) : Type 0 where
  pub first : List Deed
  pub second : List Deed
  pub mid : A
  pub whole : ds ≡ first ++ second
  pub here : Along c first mid
  pub there : Along (f mid) second b

pub along_parts : {A B : Type 0} (c : Course A) (f : A → Course B) (ds : List Deed) (b : B) → Along (and_then c f) ds b → InParts c f ds b
along_parts (Over a) f ds b all = record { first = []; second = ds; mid = a; whole = refl; here = over a; there = all }
along_parts (Turns event go) f _ b (turned _ _ outs {more} rest) =
    let p = along_parts (go outs) f more b rest in
    record { first = Turned event outs ∷ p.first; second = p.second; mid = p.mid; whole = ap (λ (xs : List Deed). Turned event outs ∷ xs) p.whole; here = turned event go outs p.here; there = p.there }
along_parts (Reads path go) f _ b (was_read _ _ bytes {more} rest) =
    let p = along_parts (go bytes) f more b rest in
    record { first = WasRead path bytes ∷ p.first; second = p.second; mid = p.mid; whole = ap (λ (xs : List Deed). WasRead path bytes ∷ xs) p.whole; here = was_read path go bytes p.here; there = p.there }

pub along_same : {A : Type 0} (c : Course A) (ds es : List Deed) (a : A) → ds ≡ es → Along c ds a → Along c es a
along_same c ds es a e p = subst (λ (xs : List Deed). Along c xs a) e p

pub aside_then : (h a b : Hearing) (x y : List WireCall) → Aside h a x → Aside a b y → Aside h b (x ++ y)
aside_then h a b x y p q = record {
  stopped = q.stopped ∙ p.stopped;
  spans = q.spans ∙ p.spans;
  answers = q.answers ∙ p.answers;
  stream = q.stream ∙ p.stream;
  untaken = taken_append 0 x y ∙ ap (λ (xs : List ℕ). xs ++ taken 0 y) p.untaken ∙ q.untaken;
}

-- one course and then another, which are a third together
pub happens_then : (first second both : Slow → Hearing → Course Hearing) (ran0 ran1 ran2 : List Deed → Type 0) (ss : List Session) (hi mo : ℕ) (ss1 : List Session) (hi1 mo1 : ℕ) (ss2 : List Session) (hi2 mo2 : ℕ) (c0 c1 c2 : Option (List WireCall))
    → ((slow : Slow) (h a b : Hearing) (ds es : List Deed) → Along (first slow h) ds a → Along (second slow a) es b → Along (both slow h) (ds ++ es) b)
    → Happens first ran0 ran1 ss hi mo ss1 hi1 mo1 c0 c1 → Happens second ran1 ran2 ss1 hi1 mo1 ss2 hi2 mo2 c1 c2 → Happens both ran0 ran2 ss hi mo ss2 hi2 mo2 c0 c2
happens_then first second both ran0 ran1 ran2 ss hi mo ss1 hi1 mo1 ss2 hi2 mo2 c0 c1 c2 join a b = record {
  deeds = a.deeds ++ b.deeds;
  ran = λ ds r. subst ran2 (append_assoc ds a.deeds b.deeds) (b.ran (ds ++ a.deeds) (a.ran ds r));
  told = λ l told.
      let y = b.told l told in
      let x = a.told y.0 y.2 in
      let all : l ≡ x.0 ++ (x.1 ++ y.1) = y.3 ∙ ap (λ xs. xs ++ y.1) x.3 ∙ append_assoc x.0 x.1 y.1 in
      let by : HappensBy second ss1 hi1 mo1 ss2 hi2 mo2 (x.0 ++ x.1) y.1 b.deeds = subst (λ (xs : List WireCall). HappensBy second ss1 hi1 mo1 ss2 hi2 mo2 xs y.1 b.deeds) x.3 y.4 in
      let end : (x.0 ++ x.1) ++ y.1 ≡ x.0 ++ (x.1 ++ y.1) = append_assoc x.0 x.1 y.1 in (
        x.0,
        x.1 ++ y.1,
        x.2,
        all,
        record {
          none_given = given_append x.1 y.1 ∙ ap (λ (hs : List Happening). hs ++ given y.1) x.4.none_given ∙ by.none_given;
          foresees = λ final f. x.4.foresees final (by.foresees final (subst (λ (xs : List WireCall). Foresees final ss2 hi2 xs) (sym end) f));
          goes = λ final h f v.
              let f2 : Foresees final ss2 hi2 ((x.0 ++ x.1) ++ y.1) = subst (λ (xs : List WireCall). Foresees final ss2 hi2 xs) (sym end) f in
              let r = x.4.goes final h (by.foresees final f2) v in
              let q = by.goes final r.0 f2 r.2 in
              (q.0, join (slow_by final) h r.0 q.0 a.deeds b.deeds r.1 q.1, subst (λ (xs : List WireCall). Serving ss2 hi2 mo2 q.0 xs) end q.2, aside_then h r.0 q.0 x.1 y.1 r.3 q.3);
        },
      );
}

-- Whether lines of a connection are events

pub text_open : (p : Phase) (o : List ℕ) (l : Link) (t : List ℕ) → HasText p o l t → not l.closed ≡ open_phase p
text_open phases.Open o l t h = ap not h.0
text_open phases.Closing o l t h = ap not h.0
text_open phases.Over o l t h = ap not h.0

pub open_at : (i k hi mo : ℕ) (ss : List Session) (d : Session) (h : Hearing) (l : List WireCall) → i < length ss → (get_or ss i d).number ≡ k → Serving ss hi mo h l → is_open k h ≡ open_phase (get_or ss i d).phase
open_at i k hi mo ss d h l within is v =
    let there : is_connected k h ≡ true = ap (list_any (nat_eq k)) v.stands.connected ∙ subst (λ (j : ℕ). list_any (nat_eq j) (numbers ss) ≡ true) is (number_in i ss d within) in
    let t = tied_at i h.links l ss d within v.stands.tied in
    let link : not (h.links k).closed ≡ open_phase (get_or ss i d).phase =
    subst (λ (j : ℕ). not (h.links j).closed ≡ open_phase (get_or ss i d).phase) is (text_open (get_or ss i d).phase (get_or ss i d).outbox (h.links (get_or ss i d).number) (taken (get_or ss i d).number l) t.text) in
    rw there link

pub open_not : (k hi mo : ℕ) (ss : List Session) (h : Hearing) (l : List WireCall) → AreOther k ss → Serving ss hi mo h l → is_open k h ≡ false
open_not k hi mo ss h l other v =
    let apart : is_connected k h ≡ false = ap (list_any (nat_eq k)) v.stands.connected ∙ other_any k ss other in
    rw apart refl

-- One line

pub line_is : (k hi mo : ℕ) (line : List ℕ) (ran0 ran1 : List Deed → Type 0) (ss ss1 : List Session) (c0 c1 : Option (List WireCall)) → ((h : Hearing) (l : List WireCall) → Serving ss hi mo h l → is_open k h ≡ true)
    → Goes (turn_course (Line k line)) ran0 ran1 ss ss1 c0 c1 → Happens (λ slow h. line_heard slow k line h) ran0 ran1 ss hi mo ss1 hi mo c0 c1
line_is k hi mo line ran0 ran1 ss ss1 c0 c1 is_there g =
    event_happens (Line k line) (λ slow h. line_heard slow k line h) ran0 ran1 ss hi mo ss hi mo ss1 c0 c1 (λ h l v. v) (λ final l f. f) (λ slow h l v. rw (is_there h l v) refl) g

pub line_not : (k hi mo : ℕ) (line : List ℕ) (ran : List Deed → Type 0) (ss : List Session) (c : Option (List WireCall)) → ((h : Hearing) (l : List WireCall) → Serving ss hi mo h l → is_open k h ≡ false)
    → Happens (λ slow h. line_heard slow k line h) ran ran ss hi mo ss hi mo c c
line_not k hi mo line ran ss c shut = nothing_happens (λ slow h. line_heard slow k line h) ran ss hi mo c (λ slow h l v. rw (shut h l v) refl)

pub no_lines : (k hi mo : ℕ) (ran : List Deed → Type 0) (ss : List Session) (c : Option (List WireCall)) → Happens (λ slow h. lines_heard slow k [] h) ran ran ss hi mo ss hi mo c c
no_lines k hi mo ran ss c = nothing_happens (λ slow h. lines_heard slow k [] h) ran ss hi mo c (λ slow h l v. refl)

pub lines_more : (k : ℕ) (lines : List (List ℕ)) (line : List ℕ) (slow : Slow) (h a b : Hearing) (ds es : List Deed) → Along (lines_heard slow k lines h) ds a → Along (line_heard slow k line a) es b
    → Along (lines_heard slow k (lines ++ line ∷ []) h) (ds ++ es) b
lines_more k [] line slow h a b ds es first second =
    let none = along_over h a ds first in
    let two : Along (line_heard slow k line h) es b = subst (λ (x : Hearing). Along (line_heard slow k line x) es b) none.1 second in
    let last : Along (and_then (line_heard slow k line h) (lines_heard slow k [])) (es ++ []) b = along_then (line_heard slow k line h) (lines_heard slow k []) es [] b b two (over b) in
    along_same (lines_heard slow k (line ∷ []) h) (es ++ []) (ds ++ es) b (append-nil es ∙ ap (λ (xs : List Deed). xs ++ es) (sym none.0)) last
lines_more k (x ∷ lines) line slow h a b ds es first second =
    let p = along_parts (line_heard slow k x h) (lines_heard slow k lines) ds a first in
    let rest = lines_more k lines line slow p.mid a b p.second es p.there second in
    let all = along_then (line_heard slow k x h) (lines_heard slow k (lines ++ line ∷ [])) p.first (p.second ++ es) p.mid b p.here rest in
    along_same (lines_heard slow k (x ∷ (lines ++ line ∷ [])) h) (p.first ++ (p.second ++ es)) (ds ++ es) b (sym (append_assoc p.first p.second es) ∙ ap (λ (xs : List Deed). xs ++ es) (sym p.whole)) all

-- the lines so far, and one more
pub more_lines : (k : ℕ) (lines : List (List ℕ)) (i : ℕ) (line d : List ℕ) (ran0 ran1 ran2 : List Deed → Type 0) (ss : List Session) (hi mo : ℕ) (ss1 : List Session) (hi1 mo1 : ℕ) (ss2 : List Session) (hi2 mo2 : ℕ) (c0 c1 c2 : Option (List WireCall))
    → i < length lines → line ≡ get_or lines i d
    → Happens (λ slow h. lines_heard slow k (take i lines) h) ran0 ran1 ss hi mo ss1 hi1 mo1 c0 c1 → Happens (λ slow h. line_heard slow k line h) ran1 ran2 ss1 hi1 mo1 ss2 hi2 mo2 c1 c2
    → Happens (λ slow h. lines_heard slow k (take (i + 1) lines) h) ran0 ran2 ss hi mo ss2 hi2 mo2 c0 c2
more_lines k lines i line d ran0 ran1 ran2 ss hi mo ss1 hi1 mo1 ss2 hi2 mo2 c0 c1 c2 within is first second =
    let more : take i lines ++ line ∷ [] ≡ take (i + 1) lines = ap (λ (x : List ℕ). take i lines ++ x ∷ []) is ∙ sym (take_more lines i d within) in
    subst (λ (ls : List (List ℕ)). Happens (λ slow h. lines_heard slow k ls h) ran0 ran2 ss hi mo ss2 hi2 mo2 c0 c2) more
    (happens_then (λ slow h. lines_heard slow k (take i lines) h) (λ slow h. line_heard slow k line h) (λ slow h. lines_heard slow k (take i lines ++ line ∷ []) h) ran0 ran1 ran2 ss hi mo ss1 hi1 mo1 ss2 hi2 mo2 c0 c1 c2
    (λ slow h a b ds es p q. lines_more k (take i lines) line slow h a b ds es p q) first second)

pub goes_on_line : (k : ℕ) (a b : List ℕ) (ran0 ran1 : List Deed → Type 0) (ss ss1 : List Session) (c0 c1 : Option (List WireCall)) → a ≡ b → Goes (turn_course (Line k a)) ran0 ran1 ss ss1 c0 c1 → Goes (turn_course (Line k b)) ran0 ran1 ss ss1 c0 c1
goes_on_line k a b ran0 ran1 ss ss1 c0 c1 e g = subst (λ (line : List ℕ). Goes (turn_course (Line k line)) ran0 ran1 ss ss1 c0 c1) e g

pub lines_on : (k : ℕ) (a b : List (List ℕ)) (ran0 ran1 : List Deed → Type 0) (ss : List Session) (hi mo : ℕ) (ss1 : List Session) (hi1 mo1 : ℕ) (c0 c1 : Option (List WireCall)) → a ≡ b
    → Happens (λ slow h. lines_heard slow k a h) ran0 ran1 ss hi mo ss1 hi1 mo1 c0 c1 → Happens (λ slow h. lines_heard slow k b h) ran0 ran1 ss hi mo ss1 hi1 mo1 c0 c1
lines_on k a b ran0 ran1 ss hi mo ss1 hi1 mo1 c0 c1 e g = subst (λ (ls : List (List ℕ)). Happens (λ slow h. lines_heard slow k ls h) ran0 ran1 ss hi mo ss1 hi1 mo1 c0 c1) e g

pub line_on : (k : ℕ) (a b : List ℕ) (ran0 ran1 : List Deed → Type 0) (ss : List Session) (hi mo : ℕ) (ss1 : List Session) (hi1 mo1 : ℕ) (c0 c1 : Option (List WireCall)) → a ≡ b
    → Happens (λ slow h. line_heard slow k a h) ran0 ran1 ss hi mo ss1 hi1 mo1 c0 c1 → Happens (λ slow h. line_heard slow k b h) ran0 ran1 ss hi mo ss1 hi1 mo1 c0 c1
line_on k a b ran0 ran1 ss hi mo ss1 hi1 mo1 c0 c1 e g = subst (λ (line : List ℕ). Happens (λ slow h. line_heard slow k line h) ran0 ran1 ss hi mo ss1 hi1 mo1 c0 c1) e g

pub happens_keeps : (course : Slow → Hearing → Course Hearing) (ra rb : List Turn → Type 0) (k0 k1 : Keeps) (before wa wb : Option (List ℕ)) (ss : List Session) (hi mo : ℕ) (ss1 : List Session) (hi1 mo1 : ℕ) (c0 c1 : Option (List WireCall)) → k1 ≡ k0
    → Happens course (Recorded ra k1 before wa) (Recorded rb k1 before wb) ss hi mo ss1 hi1 mo1 c0 c1 → Happens course (Recorded ra k0 before wa) (Recorded rb k0 before wb) ss hi mo ss1 hi1 mo1 c0 c1
happens_keeps course ra rb k0 k1 before wa wb ss hi mo ss1 hi1 mo1 c0 c1 e g = subst (λ (k : Keeps). Happens course (Recorded ra k before wa) (Recorded rb k before wb) ss hi mo ss1 hi1 mo1 c0 c1) e g

-- A piece

-- a course that begins with another hearing
pub happens_before : (prepare : Hearing → Hearing) (course inner : Slow → Hearing → Course Hearing) (ran0 ran1 : List Deed → Type 0) (ss : List Session) (hi mo : ℕ) (ssm ss1 : List Session) (hi1 mo1 : ℕ) (c0 c1 : Option (List WireCall))
    → ((h : Hearing) (l : List WireCall) → Serving ss hi mo h l → Serving ssm hi mo (prepare h) l)
    → ((h : Hearing) → Aside h (prepare h) [])
    → numbers ssm ≡ numbers ss
    → ((slow : Slow) (h : Hearing) (l : List WireCall) → Serving ss hi mo h l → course slow h ≡ inner slow (prepare h))
    → Happens inner ran0 ran1 ssm hi mo ss1 hi1 mo1 c0 c1 → Happens course ran0 ran1 ss hi mo ss1 hi1 mo1 c0 c1
happens_before prepare course inner ran0 ran1 ss hi mo ssm ss1 hi1 mo1 c0 c1 ready aside same is g = record {
  deeds = g.deeds;
  ran = g.ran;
  told = λ l told.
      let t = g.told l told in (
        t.0,
        t.1,
        t.2,
        t.3,
        record {
          none_given = t.4.none_given;
          foresees = λ final f. let m = t.4.foresees final f in record { grows = m.grows; gone = λ j some low other. m.gone j some low (other_same j ssm ss (sym same) other) };
          goes = λ final h f v.
              let r = t.4.goes final (prepare h) f (ready h t.0 v) in
              (r.0, subst (λ (c : Course Hearing). Along c g.deeds r.0) (sym (is (slow_by final) h t.0 v)) r.1, r.2, aside_then h (prepare h) r.0 [] t.1 (aside h) r.3);
        },
      );
}

pub tied_apart : (k : ℕ) (links links1 : ℕ → Link) (calls : List WireCall) (ss : List Session) → ((j : ℕ) → nat_eq j k ≡ false → links1 j ≡ links j) → AreOther k ss → AreTied links calls ss → AreTied links1 calls ss
tied_apart k links links1 calls [] alike other tied = tt
tied_apart k links links1 calls (s ∷ ss) alike other tied =
    (subst (λ (l : Link). IsTied s l (taken s.number calls)) (sym (alike s.number other.0)) tied.0, tied_apart k links links1 calls ss alike other.1 tied.1)

pub tied_put : (i k low : ℕ) (links links1 : ℕ → Link) (calls : List WireCall) (ss : List Session) (s1 d : Session) → i < length ss → (get_or ss i d).number ≡ k → s1.number ≡ k → ((j : ℕ) → nat_eq j k ≡ false → links1 j ≡ links j)
    → (IsTied (get_or ss i d) (links k) (taken k calls) → IsTied s1 (links1 k) (taken k calls)) → AreAbove low (numbers ss) → AreTied links calls ss → AreTied links1 calls (slice_set ss i s1)
tied_put i k low links links1 calls [] s1 d within is number alike takes above tied = absurd (omega (arith, within))
tied_put zero k low links links1 calls (s ∷ ss) s1 d within is number alike takes above tied =
    let mine : IsTied s (links k) (taken k calls) = subst (λ (j : ℕ). IsTied s (links j) (taken j calls)) is tied.0 in (
      subst (λ (j : ℕ). IsTied s1 (links1 j) (taken j calls)) (sym number) (takes mine),
      tied_apart k links links1 calls ss alike (above_other k s.number ss (omega (arith, is)) above.1) tied.1,
    )
tied_put (suc i) k low links links1 calls (s ∷ ss) s1 d within is number alike takes above tied =
    let below : s.number < k = omega (arith, is, above_at s.number i ss d (omega (arith, within)) above.1) in (
      subst (λ (l : Link). IsTied s l (taken s.number calls)) (sym (alike s.number (below_other s.number k below))) tied.0,
      tied_put i k s.number links links1 calls ss s1 d (omega (arith, within)) is number alike takes above.1 tied.1,
    )

-- a stream that was fed
pub fed_stream : (s s1 : Session) (l : Link) (piece : List ℕ) (lines : List (List ℕ)) → lines ≡ lines_from s.telnet piece → ((rest : List ℕ) → lines ++ lines_from s1.telnet rest ≡ lines_from s.telnet (piece ++ rest)) → HasStream s l
    → HasStream s1 (record l { stream = l.stream ++ piece })
fed_stream s s1 l piece lines all more stream rest =
    ap lines_of (append_assoc l.stream piece rest) ∙ stream (piece ++ rest) ∙ ap (λ (xs : List (List ℕ)). lines_of l.stream ++ xs) (sym (more rest))
    ∙ sym (append_assoc (lines_of l.stream) lines (lines_from s1.telnet rest))
    ∙ ap (λ (xs : List (List ℕ)). xs ++ lines_from s1.telnet rest) (ap (λ (xs : List (List ℕ)). lines_of l.stream ++ xs) all ∙ sym (stream piece))

pub fed_lines : (s : Session) (l : Link) (piece : List ℕ) → HasStream s l → new_lines l.stream piece ≡ lines_from s.telnet piece
fed_lines s l piece stream = ap (drop (length (lines_of l.stream))) (stream piece) ∙ drop-append_seam (lines_of l.stream) (lines_from s.telnet piece)

pub text_same : (p : Phase) (o : List ℕ) (l : Link) (bytes t : List ℕ) → HasText p o l t → HasText p o (record l { stream = bytes }) t
text_same phases.Open o l bytes t h = h
text_same phases.Closing o l bytes t h = h
text_same phases.Over o l bytes t h = h

pub with_stream_at : (k : ℕ) (bytes : List ℕ) (h : Hearing) → (with_stream k bytes h).links k ≡ record (h.links k) { stream = bytes }
with_stream_at k bytes h = rw (eq_self k) refl

pub with_stream_off : (k j : ℕ) (bytes : List ℕ) (h : Hearing) → nat_eq j k ≡ false → (with_stream k bytes h).links j ≡ h.links j
with_stream_off k j bytes h apart = rw apart refl

pub with_stream_text : (k j : ℕ) (bytes : List ℕ) (h : Hearing) → ((with_stream k bytes h).links j).text ≡ (h.links j).text
with_stream_text k j bytes h = elim (cases_Bool (nat_eq j k)) [ inl is ↦ rw is refl | inr isnt ↦ rw isnt refl ]

-- the server behind a piece of a connection's stream
pub fed : (i k hi mo : ℕ) (ss : List Session) (s s1 d : Session) (piece : List ℕ) (lines : List (List ℕ)) (h : Hearing) (l : List WireCall) → i < length ss → s ≡ get_or ss i d → (get_or ss i d).number ≡ k
    → s1.number ≡ s.number → s1.phase ≡ s.phase → s1.outbox ≡ s.outbox → lines ≡ lines_from s.telnet piece → ((rest : List ℕ) → lines ++ lines_from s1.telnet rest ≡ lines_from s.telnet (piece ++ rest))
    → Serving ss hi mo h l → Serving (slice_set ss i s1) hi mo (with_stream k ((h.links k).stream ++ piece) h) l
fed i k hi mo ss s s1 d piece lines h l within at is number phase outbox all more v =
    let bytes = (h.links k).stream ++ piece in
    let mine : s.number ≡ k = ap (λ (x : Session). x.number) at ∙ is in
    let same : numbers (slice_set ss i s1) ≡ numbers ss = numbers_set i k ss s1 d within is (number ∙ mine) in
    record {
      stands = record {
        tied = tied_put i k 0 h.links (with_stream k bytes h).links l ss s1 d within is (number ∙ mine) (λ j apart. with_stream_off k j bytes h apart)
            (λ old. let was : IsTied s (h.links k) (taken k l) = subst (λ (x : Session). IsTied x (h.links k) (taken k l)) (sym at) old in
            subst (λ (x : Link). IsTied s1 x (taken k l)) (sym (with_stream_at k bytes h))
            (record { text = rw (phase, outbox) (text_same s.phase s.outbox (h.links k) bytes (taken k l) was.text); stream = fed_stream s s1 (h.links k) piece lines all more was.stream }))
            v.stands.above v.stands.tied;
        above = subst (λ (ks : List ℕ). AreAbove 0 ks) (sym same) v.stands.above;
        connected = v.stands.connected ∙ sym same;
        others = λ j some other.
            let front = v.stands.others j some (other_same j ss (slice_set ss i s1) same other) in
            (front.0, with_stream_text k j bytes h ∙ front.1);
      };
      top = v.top;
      now = v.now;
      most = most_same hi ss (slice_set ss i s1) same v.most;
      fresh = λ j above.
          let low : k ≤ hi = subst (λ (n : ℕ). n ≤ hi) is (most_at i hi ss d within v.most) in
          (with_stream_off k j bytes h (apart_below k j (omega (arith, low, above))) ∙ (v.fresh j above).0, (v.fresh j above).1);
    }

pub piece_is : (k : ℕ) (bytes : List ℕ) (lines : List (List ℕ)) (slow : Slow) (h : Hearing) → 0 < k → is_connected k h ≡ true → new_lines (h.links k).stream bytes ≡ lines
    → piece_heard slow k bytes h ≡ lines_heard slow k lines (with_stream k ((h.links k).stream ++ bytes) h)
piece_is zero bytes lines slow h some is new = absurd (omega (arith, some))
piece_is (suc n) bytes lines slow h some is new = rw (is, new) refl

pub piece_not : (k : ℕ) (bytes : List ℕ) (slow : Slow) (h : Hearing) → 0 < k → is_connected k h ≡ false → piece_heard slow k bytes h ≡ Over h
piece_not zero bytes slow h some isnt = absurd (omega (arith, some))
piece_not (suc n) bytes slow h some isnt = rw isnt refl

pub pieces : (i k hi mo : ℕ) (ran0 ran1 : List Deed → Type 0) (ss : List Session) (s s1 d : Session) (piece : List ℕ) (lines : List (List ℕ)) (ss1 : List Session) (hi1 mo1 : ℕ) (c0 c1 : Option (List WireCall))
    → i < length ss → s ≡ get_or ss i d → (get_or ss i d).number ≡ k → s1.number ≡ s.number → s1.phase ≡ s.phase → s1.outbox ≡ s.outbox
    → lines ≡ lines_from s.telnet piece → ((rest : List ℕ) → lines ++ lines_from s1.telnet rest ≡ lines_from s.telnet (piece ++ rest))
    → Happens (λ slow h. lines_heard slow k lines h) ran0 ran1 (slice_set ss i s1) hi mo ss1 hi1 mo1 c0 c1 → 0 < k → Happens (λ slow h. piece_heard slow k piece h) ran0 ran1 ss hi mo ss1 hi1 mo1 c0 c1
pieces i k hi mo ran0 ran1 ss s s1 d piece lines ss1 hi1 mo1 c0 c1 within at is number phase outbox all more g some =
    let mine : s.number ≡ k = ap (λ (x : Session). x.number) at ∙ is in
    happens_before (λ h. with_stream k ((h.links k).stream ++ piece) h) (λ slow h. piece_heard slow k piece h) (λ slow h. lines_heard slow k lines h) ran0 ran1 ss hi mo (slice_set ss i s1) ss1 hi1 mo1 c0 c1
    (λ h l v. fed i k hi mo ss s s1 d piece lines h l within at is number phase outbox all more v)
    (λ h. record { stopped = refl; spans = refl; answers = refl; stream = ap (λ (x : Link). x.stream) (with_stream_off k 0 ((h.links k).stream ++ piece) h (below_other 0 k some)); untaken = refl })
    (numbers_set i k ss s1 d within is (number ∙ mine))
    (λ slow h l v.
    let there : is_connected k h ≡ true = ap (list_any (nat_eq k)) v.stands.connected ∙ subst (λ (j : ℕ). list_any (nat_eq j) (numbers ss) ≡ true) is (number_in i ss d within) in
    let t = tied_at i h.links l ss d within v.stands.tied in
    let was : IsTied s (h.links k) (taken k l) = subst (λ (j : ℕ). IsTied s (h.links j) (taken j l)) is (subst (λ (x : Session). IsTied x (h.links (get_or ss i d).number) (taken (get_or ss i d).number l)) (sym at) t) in
    piece_is k piece lines slow h some there (fed_lines s (h.links k) piece was.stream ∙ sym all))
    g

pub pieces_not : (k hi mo : ℕ) (piece : List ℕ) (ran : List Deed → Type 0) (ss : List Session) (c : Option (List WireCall)) → AreOther k ss → 0 < k → Happens (λ slow h. piece_heard slow k piece h) ran ran ss hi mo ss hi mo c c
pieces_not k hi mo piece ran ss c other some = nothing_happens (λ slow h. piece_heard slow k piece h) ran ss hi mo c
    (λ slow h l v. piece_not k piece slow h some (ap (list_any (nat_eq k)) v.stands.connected ∙ other_any k ss other))

-- the same, as the connections tell it
pub pieces_fed : (i k hi mo : ℕ) (ran0 ran1 : List Deed → Type 0) (ss ssm : List Session) (piece : List ℕ) (lines : List (List ℕ)) (ss1 : List Session) (hi1 mo1 : ℕ) (c0 c1 : Option (List WireCall))
    → i < length ss → ((d : Session) → (get_or ss i d).number ≡ k) → Fed i piece lines ss ssm → 0 < k
    → Happens (λ slow h. lines_heard slow k lines h) ran0 ran1 ssm hi mo ss1 hi1 mo1 c0 c1 → Happens (λ slow h. piece_heard slow k piece h) ran0 ran1 ss hi mo ss1 hi1 mo1 c0 c1
pieces_fed i k hi mo ran0 ran1 ss ssm piece lines ss1 hi1 mo1 c0 c1 within is f some g =
    let d = new_session k in
    let s : Session = get_or ss i d in
    let s1 : Session = record s { telnet = f.place } in
    pieces i k hi mo ran0 ran1 ss s s1 d piece lines ss1 hi1 mo1 c0 c1 within refl (is d) refl refl refl (f.lines d) (λ rest. f.rest d rest)
    (subst (λ (xs : List Session). Happens (λ slow h. lines_heard slow k lines h) ran0 ran1 xs hi mo ss1 hi1 mo1 c0 c1) (f.after d) g) some
