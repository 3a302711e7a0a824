-- What a served run does at one happening.
use Rattle.std.proofs.Common.{rules, subst, ◌≡◌, ℕ, zero, suc, ◌<◌, ◌≤◌, ◌+◌, List, [], ◌∷◌, ◌++◌, length, map, take, drop, get_or, nat_eq, nat_lt, nat_le, ◌&&◌, if◌then◌else◌, Bool, true, false, Option, Some, None, Result, Ok, Err, OnOk, refl, sym, ap, ◌∙◌, append-nil, append_assoc, arith, inl, inr}
use Rattle.std.specs.List.{find, remove, list_any}
use Rattle.lp_events.specs.declared.event.Event.{Event}
use Rattle.lp_events.specs.declared.event.Event.TheVariants.{Connect, Line, Gone, Tick}
use Rattle.lp_events.specs.Script.{after_event}
use Rattle.lp_telnet.specs.Lines.{beginning}
use Rattle.lp_wire.specs.Courses.{Course, Over, Turns, Deed, Turned, Along, over, turned}
use Rattle.lp_wire.specs.WireText.{Link, new_link}
use Rattle.lp_wire.specs.Heard.{is_connected, Hearing, Slow, slow_by, event_heard, accept_heard, lost_heard, tick_heard, tick_fits}
use Rattle.lp_wire.specs.Wires.{Adds, taken, given}
use Rattle.lp_wire.specs.declared.happening.Happening.{Happening}
use Rattle.lp_wire.specs.declared.happening.WireCall.{WireCall}
use Rattle.lp_wire.specs.declared.happening.WireCall.TheVariants.{Closed}
use Rattle.lp_sessions.specs.declared.session.Session.{Session}
use Rattle.lp_sessions.specs.Tied.{IsTied, new_session}
use Rattle.lp_sessions.specs.All.{numbers, AreTied, AreAbove, AreOther}
use Rattle.lp_sessions.specs.Serving.{Stands, Foresees, IsFront}
use Rattle.std.proofs.lemmas.Bool.{cases_Bool}
use Rattle.lp_sessions.proofs.Serving.{not_below, is_below, other_any, taken_still, stands_gone, foresees_gone, stands_calls, foresees_calls}
use Rattle.lp_sessions.proofs.Taking.{above_other, below_other, taken_append, given_append, turned as apart_below, eq_self}
use Rattle.lp_sessions.specs.Table.{AreAtMost, Connections, with_new}
use Rattle.lp_serving.specs.Serves.{AreCloses, Forgets, RanOn, turn_course, Leaves, GoesBy, Goes}
use Rattle.lp_serving.specs.Happens.{Aside, Serving, HappensBy, Happens}
use Rattle.lp_serving.proofs.Going.{most_remove}

pub most_other : (highest j : ℕ) (ss : List Session) → AreAtMost highest ss → highest < j → AreOther j ss
most_other highest j [] low above = tt
most_other highest j (s ∷ ss) (here, there) above = (below_other s.number j (omega (arith, here, above)), most_other highest j ss there above)

-- an event from a server that stands for what was heard, with the context behind the event
pub mid_goes : (event : Event) (ss ss1 : List Session) (highest moment : ℕ) (l0 added : List WireCall) (deeds : List Deed) → GoesBy (turn_course event) ss ss1 l0 added deeds
    → HappensBy (turn_course event) ss highest moment ss1 highest moment l0 added deeds
mid_goes event ss ss1 highest moment l0 added deeds by = record {
  none_given = by.none_given;
  foresees = λ final f. by.foresees final highest f;
  goes = λ final h f s.
      let r = by.goes final highest h s.most f s.stands in
      let k = r.3 in (
        r.0,
        r.1,
        record {
          stands = r.2;
          top = k.highest ∙ s.top;
          now = k.moment ∙ s.now;
          most = by.at_most highest s.most;
          fresh = λ j above.
              let other = most_other highest j ss s.most above in
              let apart : is_connected j h ≡ false = ap (list_any (nat_eq j)) s.stands.connected ∙ other_any j ss other in
              let was = s.fresh j above in
              ((k.others j apart).0 ∙ was.0, taken_still j l0 added (by.untaken j other) ∙ was.1);
        },
        record { stopped = k.stopped; spans = k.spans; answers = k.answers; stream = k.streams 0; untaken = by.untaken 0 (above_other 0 0 ss (omega arith) s.stands.above) },
      );
}

-- an event, from what was heard before it
pub before_event : (event : Event) (course : Slow → Hearing → Course Hearing) (ss : List Session) (highest moment : ℕ) (ssm : List Session) (highest1 moment1 : ℕ) (ss1 : List Session) (l0 added : List WireCall) (deeds : List Deed)
    → ((h : Hearing) → Serving ss highest moment h l0 → Serving ssm highest1 moment1 (record h { context = after_event h.context event }) l0)
    → ((final : ℕ → ℕ) → Foresees final ssm highest1 l0 → Foresees final ss highest l0)
    → ((slow : Slow) (h : Hearing) → Serving ss highest moment h l0 → course slow h ≡ event_heard slow event h)
    → HappensBy (turn_course event) ssm highest1 moment1 ss1 highest1 moment1 l0 added deeds
    → HappensBy course ss highest moment ss1 highest1 moment1 l0 added deeds
before_event event course ss highest moment ssm highest1 moment1 ss1 l0 added deeds ready back is by = record {
  none_given = by.none_given;
  foresees = λ final f. back final (by.foresees final f);
  goes = λ final h f s.
      let r = by.goes final (record h { context = after_event h.context event }) f (ready h s) in
      let k = r.3 in
      (r.0, subst (λ (c : Course Hearing). Along c deeds r.0) (sym (is (slow_by final) h s)) r.1, r.2, record { stopped = k.stopped; spans = k.spans; answers = k.answers; stream = k.stream; untaken = k.untaken });
}

pub aside_self : (h : Hearing) → Aside h h []
aside_self h = record { stopped = refl; spans = refl; answers = refl; stream = refl; untaken = refl }

-- nothing happens
pub nothing_happens : (course : Slow → Hearing → Course Hearing) (ran : List Deed → Type 0) (ss : List Session) (highest moment : ℕ) (c : Option (List WireCall))
    → ((slow : Slow) (h : Hearing) (l : List WireCall) → Serving ss highest moment h l → course slow h ≡ Over h) → Happens course ran ran ss highest moment ss highest moment c c
nothing_happens course ran ss highest moment c is = record {
  deeds = [];
  ran = λ ds r. rw (append-nil ds) r;
  told = λ l told. (
    l,
    [],
    told,
    sym (append-nil l),
    record {
      none_given = refl;
      foresees = λ final f. subst (λ (xs : List WireCall). Foresees final ss highest xs) (append-nil l) f;
      goes = λ final h f s. (h, subst (λ (c : Course Hearing). Along c [] h) (sym (is (slow_by final) h l s)) (over h), subst (λ (xs : List WireCall). Serving ss highest moment h xs) (sym (append-nil l)) s, aside_self h);
    },
  );
}

-- an event happens
pub event_happens : (event : Event) (course : Slow → Hearing → Course Hearing) (ran0 ran1 : List Deed → Type 0) (ss : List Session) (highest moment : ℕ) (ssm : List Session) (highest1 moment1 : ℕ) (ss1 : List Session) (c0 c1 : Option (List WireCall))
    → ((h : Hearing) (l : List WireCall) → Serving ss highest moment h l → Serving ssm highest1 moment1 (record h { context = after_event h.context event }) l)
    → ((final : ℕ → ℕ) (l : List WireCall) → Foresees final ssm highest1 l → Foresees final ss highest l)
    → ((slow : Slow) (h : Hearing) (l : List WireCall) → Serving ss highest moment h l → course slow h ≡ event_heard slow event h)
    → Goes (turn_course event) ran0 ran1 ssm ss1 c0 c1 → Happens course ran0 ran1 ss highest moment ss1 highest1 moment1 c0 c1
event_happens event course ran0 ran1 ss highest moment ssm highest1 moment1 ss1 c0 c1 ready back is g = record {
  deeds = g.deeds;
  ran = g.ran;
  told = λ l told.
      let t = g.told l told in (
        t.0,
        t.1,
        t.2,
        t.3,
        before_event event course ss highest moment ssm highest1 moment1 ss1 t.0 t.1 g.deeds (λ h s. ready h t.0 s) (λ final f. back final t.0 f) (λ slow h s. is slow h t.0 s)
            (mid_goes event ssm ss1 highest1 moment1 t.0 t.1 g.deeds t.4),
      );
}

-- A connection opens

pub numbers_push : (ss : List Session) (s : Session) → numbers (ss ++ s ∷ []) ≡ numbers ss ++ s.number ∷ []
numbers_push [] s = refl
numbers_push (x ∷ ss) s = ap (λ (ks : List ℕ). x.number ∷ ks) (numbers_push ss s)

pub tied_push : (links : ℕ → Link) (calls : List WireCall) (ss : List Session) (s : Session) → AreTied links calls ss → IsTied s (links s.number) (taken s.number calls) → AreTied links calls (ss ++ s ∷ [])
tied_push links calls [] s tied one = (one, tt)
tied_push links calls (x ∷ ss) s (here, there) one = (here, tied_push links calls ss s there one)

pub above_push : (low highest k : ℕ) (ks : List ℕ) (ss : List Session) → ks ≡ numbers ss → AreAtMost highest ss → low < k → highest < k → AreAbove low (numbers ss) → AreAbove low (numbers ss ++ k ∷ [])
above_push low highest k ks [] is most below top above = (below, tt)
above_push low highest k ks (s ∷ ss) is most below top above = (above.0, above_push s.number highest k (numbers ss) ss refl most.1 (omega (arith, most.0, top)) top above.1)

pub most_push : (highest k : ℕ) (ss : List Session) (s : Session) → highest < k → s.number ≡ k → AreAtMost highest ss → AreAtMost k (ss ++ s ∷ [])
most_push highest k [] s top is most = (omega (arith, is), tt)
most_push highest k (x ∷ ss) s top is (here, there) = (omega (arith, here, top), most_push highest k ss s top is there)

pub other_push : (j : ℕ) (ss : List Session) (s : Session) → nat_eq s.number j ≡ false → AreOther j ss → AreOther j (ss ++ s ∷ [])
other_push j [] s apart other = (apart, tt)
other_push j (x ∷ ss) s apart (here, there) = (here, other_push j ss s apart there)

pub other_pop : (j : ℕ) (ss : List Session) (s : Session) → AreOther j (ss ++ s ∷ []) → AreOther j ss
other_pop j [] s other = tt
other_pop j (x ∷ ss) s (here, there) = (here, other_pop j ss s there)

pub new_tied : (k : ℕ) (l : Link) (t : List ℕ) → l ≡ new_link → t ≡ [] → IsTied (new_session k) l t
new_tied k l t is none = rw (is, none) (record { text = (refl, refl); stream = λ rest. refl })

pub accept_ready : (k highest moment : ℕ) (ss : List Session) (h : Hearing) (l : List WireCall) → 0 < k → highest < k → Serving ss highest moment h l
    → Serving (ss ++ new_session k ∷ []) k moment (record h { context = after_event h.context (Connect k) }) l
accept_ready k highest moment ss h l some top v =
    let f = v.fresh k top in
    let mine : IsTied (new_session k) (h.links k) (taken k l) = new_tied k (h.links k) (taken k l) f.0 f.1 in
    record {
      stands = record {
        tied = tied_push h.links l ss (new_session k) v.stands.tied mine;
        above = subst (λ (ks : List ℕ). AreAbove 0 ks) (sym (numbers_push ss (new_session k))) (above_push 0 highest k (numbers ss) ss refl v.most some top v.stands.above);
        connected = ap (λ (ks : List ℕ). ks ++ k ∷ []) v.stands.connected ∙ sym (numbers_push ss (new_session k));
        others = λ j above other. v.stands.others j above (other_pop j ss (new_session k) other);
      };
      top = refl;
      now = v.now;
      most = most_push highest k ss (new_session k) top refl v.most;
      fresh = λ j above. v.fresh j (omega (arith, above, top));
    }

pub accept_back : (k highest : ℕ) (ss : List Session) (final : ℕ → ℕ) (l : List WireCall) → highest < k → Foresees final (ss ++ new_session k ∷ []) k l → Foresees final ss highest l
accept_back k highest ss final l top f = record {
  grows = f.grows;
  gone = λ j some low other. f.gone j some (omega (arith, low, top)) (other_push j ss (new_session k) (apart_below j k (omega (arith, low, top))) other);
}

pub accept_is : (k highest moment : ℕ) (ss : List Session) (slow : Slow) (h : Hearing) (l : List WireCall) → 0 < k → highest < k → Serving ss highest moment h l → accept_heard slow k h ≡ event_heard slow (Connect k) h
accept_is zero highest moment ss slow h l some top v = absurd (omega (arith, some))
accept_is (suc n) highest moment ss slow h l some top v =
    let yes : nat_lt h.context.highest (suc n) ≡ true = is_below h.context.highest (suc n) (omega (arith, v.top, top)) in
    rw yes refl

pub accept_not : (k highest moment : ℕ) (ss : List Session) (slow : Slow) (h : Hearing) (l : List WireCall) → 0 < k → k ≤ highest → Serving ss highest moment h l → accept_heard slow k h ≡ Over h
accept_not zero highest moment ss slow h l some low v = absurd (omega (arith, some))
accept_not (suc n) highest moment ss slow h l some low v =
    let no : nat_lt h.context.highest (suc n) ≡ false = not_below h.context.highest (suc n) (omega (arith, v.top, low)) in
    rw no refl

pub accepts : (k highest moment : ℕ) (ran0 ran1 : List Deed → Type 0) (ss ss1 : List Session) (c0 c1 : Option (List WireCall)) → highest < k → 0 < k
    → Goes (turn_course (Connect k)) ran0 ran1 (ss ++ new_session k ∷ []) ss1 c0 c1 → Happens (λ slow h. accept_heard slow k h) ran0 ran1 ss highest moment ss1 k moment c0 c1
accepts k highest moment ran0 ran1 ss ss1 c0 c1 top some g =
    event_happens (Connect k) (λ slow h. accept_heard slow k h) ran0 ran1 ss highest moment (ss ++ new_session k ∷ []) k moment ss1 c0 c1
    (λ h l v. accept_ready k highest moment ss h l some top v) (λ final l f. accept_back k highest ss final l top f)
    (λ slow h l v. accept_is k highest moment ss slow h l some top v) g

pub accepts_not : (k highest moment : ℕ) (ran : List Deed → Type 0) (ss : List Session) (c : Option (List WireCall)) → k ≤ highest → 0 < k → Happens (λ slow h. accept_heard slow k h) ran ran ss highest moment ss highest moment c c
accepts_not k highest moment ran ss c low some = nothing_happens (λ slow h. accept_heard slow k h) ran ss highest moment c (λ slow h l v. accept_not k highest moment ss slow h l some low v)

-- The clock

fits : (t m : ℕ) → m ≤ t → t ≤ 1000000000000 → (nat_le m t && nat_le t 1000000000000) ≡ true
fits t m low high = search rules

fits_not : (t m : ℕ) → (m ≤ t → t ≤ 1000000000000 → ⊥) → (nat_le m t && nat_le t 1000000000000) ≡ false
fits_not t m bad = elim (cases_Bool (nat_le m t && nat_le t 1000000000000)) [
  | inl is ↦ absurd (bad (search rules) (search rules))
  | inr isnt ↦ isnt
]

pub ticks : (t highest moment : ℕ) (ran0 ran1 : List Deed → Type 0) (ss ss1 : List Session) (c0 c1 : Option (List WireCall)) → moment ≤ t → t ≤ 1000000000000
    → Goes (turn_course (Tick t)) ran0 ran1 ss ss1 c0 c1 → Happens (λ slow h. tick_heard slow t h) ran0 ran1 ss highest moment ss1 highest t c0 c1
ticks t highest moment ran0 ran1 ss ss1 c0 c1 low high g =
    event_happens (Tick t) (λ slow h. tick_heard slow t h) ran0 ran1 ss highest moment ss highest t ss1 c0 c1
    (λ h l v. record { stands = record { tied = v.stands.tied; above = v.stands.above; connected = v.stands.connected; others = v.stands.others }; top = v.top; now = refl; most = v.most; fresh = v.fresh })
    (λ final l f. f)
    (λ slow h l v. let yes : tick_fits t h ≡ true = fits t h.context.moment (omega (arith, v.now, low)) high in rw yes refl) g

pub ticks_not : (t highest moment : ℕ) (ran : List Deed → Type 0) (ss : List Session) (c : Option (List WireCall)) → (moment ≤ t → t ≤ 1000000000000 → ⊥) → Happens (λ slow h. tick_heard slow t h) ran ran ss highest moment ss highest moment c c
ticks_not t highest moment ran ss c bad = nothing_happens (λ slow h. tick_heard slow t h) ran ss highest moment c
    (λ slow h l v. let no : tick_fits t h ≡ false = fits_not t h.context.moment (λ low high. bad (omega (arith, v.now, low)) high) in rw no refl)

-- A connection was lost

pub lost_is : (k : ℕ) (slow : Slow) (h : Hearing) → 0 < k → is_connected k h ≡ true → lost_heard slow k h ≡ event_heard slow (Gone k) h
lost_is zero slow h some is = absurd (omega (arith, some))
lost_is (suc n) slow h some is = rw is refl

pub lost_not : (k : ℕ) (slow : Slow) (h : Hearing) → 0 < k → is_connected k h ≡ false → lost_heard slow k h ≡ Over h
lost_not zero slow h some isnt = absurd (omega (arith, some))
lost_not (suc n) slow h some isnt = rw isnt refl

pub number_in : (i : ℕ) (ss : List Session) (d : Session) → i < length ss → list_any (nat_eq (get_or ss i d).number) (numbers ss) ≡ true
number_in i [] d within = absurd (omega (arith, within))
number_in zero (s ∷ ss) d within = rw (eq_self s.number) refl
number_in (suc i) (s ∷ ss) d within = elim (cases_Bool (nat_eq (get_or ss i d).number s.number)) [
  | inl is ↦ rw is refl
  | inr isnt ↦ rw isnt (number_in i ss d (omega (arith, within)))
]

pub lost_ready : (i k highest moment : ℕ) (ss : List Session) (d : Session) (h : Hearing) (l : List WireCall) → i < length ss → (get_or ss i d).number ≡ k → Serving ss highest moment h l
    → Serving (remove ss i) highest moment (record h { context = after_event h.context (Gone k) }) l
lost_ready i k highest moment ss d h l within is v = record {
  stands = subst (λ (j : ℕ). Stands (remove ss i) (record h { context = after_event h.context (Gone j) }) l) is (stands_gone i ss h l d within v.stands);
  top = v.top;
  now = v.now;
  most = most_remove i highest ss v.most;
  fresh = v.fresh;
}

pub loses : (i k highest moment : ℕ) (ran0 ran1 : List Deed → Type 0) (ss ss1 : List Session) (d : Session) (c0 c1 : Option (List WireCall)) → i < length ss → (get_or ss i d).number ≡ k
    → Goes (turn_course (Gone k)) ran0 ran1 (remove ss i) ss1 c0 c1 → 0 < k → Happens (λ slow h. lost_heard slow k h) ran0 ran1 ss highest moment ss1 highest moment c0 c1
loses i k highest moment ran0 ran1 ss ss1 d c0 c1 within is g some =
    event_happens (Gone k) (λ slow h. lost_heard slow k h) ran0 ran1 ss highest moment (remove ss i) highest moment ss1 c0 c1
    (λ h l v. lost_ready i k highest moment ss d h l within is v) (λ final l f. foresees_gone final i ss highest l f)
    (λ slow h l v. lost_is k slow h some (ap (list_any (nat_eq k)) v.stands.connected ∙ subst (λ (j : ℕ). list_any (nat_eq j) (numbers ss) ≡ true) is (number_in i ss d within))) g

pub loses_not : (k highest moment : ℕ) (ran : List Deed → Type 0) (ss : List Session) (c : Option (List WireCall)) → AreOther k ss → 0 < k → Happens (λ slow h. lost_heard slow k h) ran ran ss highest moment ss highest moment c c
loses_not k highest moment ran ss c other some = nothing_happens (λ slow h. lost_heard slow k h) ran ss highest moment c
    (λ slow h l v. lost_not k slow h some (ap (list_any (nat_eq k)) v.stands.connected ∙ other_any k ss other))

-- closes first

pub close_by : (closes : List WireCall) (course : Slow → Hearing → Course Hearing) (ss : List Session) (highest moment : ℕ) (ss1 : List Session) (highest1 moment1 : ℕ) (l0 added : List WireCall) (deeds : List Deed) → AreCloses closes
    → HappensBy course ss highest moment ss1 highest1 moment1 (l0 ++ closes) added deeds → HappensBy course ss highest moment ss1 highest1 moment1 l0 (closes ++ added) deeds
close_by closes course ss highest moment ss1 highest1 moment1 l0 added deeds are by =
    let all : (l0 ++ closes) ++ added ≡ l0 ++ (closes ++ added) = append_assoc l0 closes added in
    record {
      none_given = given_append closes added ∙ ap (λ (hs : List Happening). hs ++ given added) are.none_given ∙ by.none_given;
      foresees = λ final f. foresees_calls final ss highest l0 closes (λ j some. are.untaken j) (by.foresees final (subst (λ (xs : List WireCall). Foresees final ss1 highest1 xs) (sym all) f));
      goes = λ final h f v.
          let v1 : Serving ss highest moment h (l0 ++ closes) = record {
            stands = stands_calls ss h l0 closes (λ j some. are.untaken j) v.stands;
            top = v.top;
            now = v.now;
            most = v.most;
            fresh = λ j above. ((v.fresh j above).0, taken_still j l0 closes (are.untaken j) ∙ (v.fresh j above).1);
          } in
          let r = by.goes final h (subst (λ (xs : List WireCall). Foresees final ss1 highest1 xs) (sym all) f) v1 in
          let k = r.3 in (
            r.0,
            r.1,
            subst (λ (xs : List WireCall). Serving ss1 highest1 moment1 r.0 xs) all r.2,
            record { stopped = k.stopped; spans = k.spans; answers = k.answers; stream = k.stream; untaken = taken_append 0 closes added ∙ ap (λ (xs : List ℕ). xs ++ taken 0 added) (are.untaken 0) ∙ k.untaken },
          );
    }

pub happens_closed : (course : Slow → Hearing → Course Hearing) (ran0 ran1 : List Deed → Type 0) (ss : List Session) (highest moment : ℕ) (ss1 : List Session) (highest1 moment1 : ℕ) (c0 c1 c2 : Option (List WireCall))
    → Forgets c0 c1 → Happens course ran0 ran1 ss highest moment ss1 highest1 moment1 c1 c2 → Happens course ran0 ran1 ss highest moment ss1 highest1 moment1 c0 c2
happens_closed course ran0 ran1 ss highest moment ss1 highest1 moment1 c0 c1 c2 forgets g = record {
  deeds = g.deeds;
  ran = g.ran;
  told = λ l told.
      let t = g.told l told in
      let a = forgets t.0 t.2 in
      let by : HappensBy course ss highest moment ss1 highest1 moment1 (a.0 ++ a.1) t.1 g.deeds =
      subst (λ (xs : List WireCall). HappensBy course ss highest moment ss1 highest1 moment1 xs t.1 g.deeds) a.3 t.4 in
      (a.0, a.1 ++ t.1, a.2, t.3 ∙ ap (λ xs. xs ++ t.1) a.3 ∙ append_assoc a.0 a.1 t.1, close_by a.1 course ss highest moment ss1 highest1 moment1 a.0 t.1 g.deeds a.4 by);
}

pub forgets_none : (c : Option (List WireCall)) → Forgets c c
forgets_none c l told = (l, [], told, sym (append-nil l), record { none_given = refl; untaken = λ j. refl })

pub forgets_closed : (k : ℕ) (c0 c1 : Option (List WireCall)) → Adds c0 c1 (Closed k ∷ []) → Forgets c0 c1
forgets_closed k c0 c1 adds l told =
    let a = adds l told in
    (a.0, Closed k ∷ [], a.1, a.2, record { none_given = refl; untaken = λ j. refl })

-- the same, with sessions, numbers and moments by other names
pub from_sessions : (event : Event) (ran0 ran1 : List Deed → Type 0) (a b ss1 : List Session) (c0 c1 : Option (List WireCall)) → a ≡ b → Goes (turn_course event) ran0 ran1 a ss1 c0 c1 → Goes (turn_course event) ran0 ran1 b ss1 c0 c1
from_sessions event ran0 ran1 a b ss1 c0 c1 e g = subst (λ (ss : List Session). Goes (turn_course event) ran0 ran1 ss ss1 c0 c1) e g

pub to_state : (course : Slow → Hearing → Course Hearing) (ran0 ran1 : List Deed → Type 0) (ss : List Session) (highest moment : ℕ) (ss1 : List Session) (hi mo hi1 mo1 : ℕ) (c0 c1 : Option (List WireCall)) → hi1 ≡ hi → mo1 ≡ mo
    → Happens course ran0 ran1 ss highest moment ss1 hi mo c0 c1 → Happens course ran0 ran1 ss highest moment ss1 hi1 mo1 c0 c1
to_state course ran0 ran1 ss highest moment ss1 hi mo hi1 mo1 c0 c1 e f g =
    subst (λ (n : ℕ). Happens course ran0 ran1 ss highest moment ss1 n mo1 c0 c1) (sym e) (subst (λ (n : ℕ). Happens course ran0 ran1 ss highest moment ss1 hi n c0 c1) (sym f) g)

pub from_highest : (course : Slow → Hearing → Course Hearing) (ran0 ran1 : List Deed → Type 0) (ss : List Session) (a b moment : ℕ) (ss1 : List Session) (hi1 mo1 : ℕ) (c0 c1 : Option (List WireCall)) → a ≡ b
    → Happens course ran0 ran1 ss a moment ss1 hi1 mo1 c0 c1 → Happens course ran0 ran1 ss b moment ss1 hi1 mo1 c0 c1
from_highest course ran0 ran1 ss a b moment ss1 hi1 mo1 c0 c1 e g = subst (λ (n : ℕ). Happens course ran0 ran1 ss n moment ss1 hi1 mo1 c0 c1) e g

-- the same, as the connections tell it

below_is : (a b : ℕ) → nat_lt a b ≡ true → a < b
below_is a b e = search rules

not_below_is : (a b : ℕ) → nat_lt a b ≡ false → b ≤ a
not_below_is a b e = search rules

pub accepts_new : (b : Bool) (k moment mo1 : ℕ) (ran0 ran1 : List Deed → Type 0) (c0 cm c1 : Connections) (w0 w1 : Option (List WireCall)) → b ≡ true → b ≡ nat_lt c0.highest k → cm ≡ (if b then with_new k c0 else c0) → 0 < k
    → c1.highest ≡ cm.highest → mo1 ≡ moment → Goes (turn_course (Connect k)) ran0 ran1 cm.sessions c1.sessions w0 w1 → Happens (λ slow h. accept_heard slow k h) ran0 ran1 c0.sessions c0.highest moment c1.sessions c1.highest mo1 w0 w1
accepts_new b k moment mo1 ran0 ran1 c0 cm c1 w0 w1 is fresh made some same now g =
    let top : c0.highest < k = below_is c0.highest k (sym fresh ∙ is) in
    let new : cm ≡ with_new k c0 = subst (λ (x : Bool). cm ≡ (if x then with_new k c0 else c0)) is made in
    to_state (λ slow h. accept_heard slow k h) ran0 ran1 c0.sessions c0.highest moment c1.sessions k moment c1.highest mo1 w0 w1 (same ∙ ap (λ (x : Connections). x.highest) new) now
    (accepts k c0.highest moment ran0 ran1 c0.sessions c1.sessions w0 w1 top some (from_sessions (Connect k) ran0 ran1 cm.sessions (c0.sessions ++ new_session k ∷ []) c1.sessions w0 w1 (ap (λ (x : Connections). x.sessions) new) g))

pub accepts_old : (b : Bool) (k moment : ℕ) (ran : List Deed → Type 0) (c0 cm : Connections) (w : Option (List WireCall)) → b ≡ false → b ≡ nat_lt c0.highest k → cm ≡ (if b then with_new k c0 else c0) → 0 < k
    → Happens (λ slow h. accept_heard slow k h) ran ran c0.sessions c0.highest moment cm.sessions cm.highest moment w w
accepts_old b k moment ran c0 cm w is fresh made some =
    let low : k ≤ c0.highest = not_below_is c0.highest k (sym fresh ∙ is) in
    let old : cm ≡ c0 = subst (λ (x : Bool). cm ≡ (if x then with_new k c0 else c0)) is made in
    subst (λ (x : Connections). Happens (λ slow h. accept_heard slow k h) ran ran c0.sessions c0.highest moment x.sessions x.highest moment w w) (sym old) (accepts_not k c0.highest moment ran c0.sessions w low some)
