-- How the connections go along the course of what is heard.
use Rattle.std.proofs.Common.{rules, subst, ◌≡◌, ℕ, zero, suc, ◌<◌, ◌≤◌, ◌+◌, List, [], ◌∷◌, ◌++◌, length, map, take, drop, get_or, nat_eq, filter, not, ◌==◌, ◌||◌, Bool, true, false, Option, Some, None, Result, Ok, Err, OnOk, refl, sym, ap, ◌∙◌, append-nil, append_assoc, arith, inl, inr}
use Rattle.std.specs.List.{find, remove, list_any}
use Rattle.std.proofs.lemmas.Bool.{cases_Bool}
use Rattle.lp_wire.specs.WireText.{Link, behind_out, behind_outs}
use Rattle.std.proofs.lemmas.List.{length-map}
use Rattle.std.proofs.lemmas.List.Edits.{length-remove}
use Rattle.lp_events.specs.Script.{after_event}
use Rattle.lp_wire.specs.declared.happening.Happening.{Happening}
use Rattle.lp_sessions.proofs.Outputs.{above_at, stream_behind}
use Rattle.lp_events.specs.declared.event.Event.{Event}
use Rattle.lp_events.specs.declared.event.Event.TheVariants.{Gone}
use Rattle.lp_events.specs.declared.out.Out.{Out}
use Rattle.lp_wire.specs.Courses.{Course, Over, Turns, Deed, Turned, Along, over, turned}
use Rattle.lp_wire.specs.Heard.{is_connected, link_behind, Hearing, Slow, with_outputs, settle, settled, slowest, slow_by, after_turn, gone_if, most_pending}
use Rattle.lp_wire.specs.Wires.{Adds, taken, given, TellsOffer, Offers}
use Rattle.lp_wire.specs.declared.happening.WireCall.{WireCall}
use Rattle.lp_wire.specs.declared.happening.WireCall.TheVariants.{Gave, Took, Closed}
use Rattle.lp_sessions.specs.declared.session.Session.{Session}
use Rattle.lp_sessions.specs.All.{TakesOuts, TellsAll, OffersAll, numbers, number_of}
use Rattle.lp_sessions.specs.Serving.{Stands, Foresees, Sent, Sends, IsSlowest, AreQuick}
use Rattle.lp_sessions.proofs.Taking.{all_other, taken_append, given_append}
use Rattle.lp_sessions.proofs.Serving.{sent, sent_more, none_slow, first_slow, stands_gone, foresees_gone, stands_calls, foresees_calls, removed_other, other_remove, other_same, link_gone}
use Rattle.lp_sessions.specs.Table.{AreAtMost}
use Rattle.lp_serving.specs.Serves.{RanOn, SentAlone, SendsAlone, TurnsOver, turn_course, Leaves, GoesBy, Goes}

pub stands_on : (ss : List Session) (h : Hearing) (a b : List WireCall) → a ≡ b → Stands ss h a → Stands ss h b
stands_on ss h a b e s = subst (λ (xs : List WireCall). Stands ss h xs) e s

pub foresees_on : (final : ℕ → ℕ) (ss : List Session) (highest : ℕ) (a b : List WireCall) → a ≡ b → Foresees final ss highest a → Foresees final ss highest b
foresees_on final ss highest a b e f = subst (λ (xs : List WireCall). Foresees final ss highest xs) e f

pub turns_on : (event : Event) (ran0 ran1 : List Deed → Type 0) (a b ss1 : List Session) (c0 c1 : Option (List WireCall)) → a ≡ b → TurnsOver event ran0 ran1 a ss1 c0 c1 → TurnsOver event ran0 ran1 b ss1 c0 c1
turns_on event ran0 ran1 a b ss1 c0 c1 e t = subst (λ (ss : List Session). TurnsOver event ran0 ran1 ss ss1 c0 c1) e t

-- what events leave

pub leaves_all : (h : Hearing) → Leaves h h
leaves_all h = record { highest = refl; moment = refl; stopped = refl; spans = refl; answers = refl; streams = λ j. refl; others = λ j isnt. (refl, isnt) }

pub leaves_then : (a b c : Hearing) → Leaves a b → Leaves b c → Leaves a c
leaves_then a b c x y = record {
  highest = y.highest ∙ x.highest;
  moment = y.moment ∙ x.moment;
  stopped = y.stopped ∙ x.stopped;
  spans = y.spans ∙ x.spans;
  answers = y.answers ∙ x.answers;
  streams = λ j. y.streams j ∙ x.streams j;
  others = λ j isnt. let first = x.others j isnt in let second = y.others j first.1 in (second.0 ∙ first.0, second.1);
}

pub streams_behind : (j : ℕ) (l : Link) (outs : List Out) → (behind_outs j l outs).stream ≡ l.stream
streams_behind j l [] = refl
streams_behind j l (out ∷ outs) = streams_behind j (behind_out j l out) outs ∙ stream_behind j out l

pub stream_there : (j : ℕ) (outs : List Out) (h : Hearing) → (link_behind outs h j).stream ≡ (h.links j).stream
stream_there j outs h = elim (cases_Bool (is_connected j h)) [ inl is ↦ rw is (streams_behind j (h.links j) outs) | inr isnt ↦ rw isnt refl ]

pub leaves_outputs : (outs : List Out) (h : Hearing) → Leaves h (with_outputs outs h)
leaves_outputs outs h = record {
  highest = refl;
  moment = refl;
  stopped = refl;
  spans = refl;
  answers = refl;
  streams = λ j. stream_there j outs h;
  others = λ j isnt. (link_gone j outs h isnt, isnt);
}

first_false : (a b : Bool) → (a || b) ≡ false → a ≡ false
first_false true b e = cc
first_false false b e = refl

second_false : (a b : Bool) → (a || b) ≡ false → b ≡ false
second_false true b e = cc
second_false false b e = e

pub any_filtered : (j k : ℕ) (ks : List ℕ) → list_any (nat_eq j) ks ≡ false → list_any (nat_eq j) (filter (λ i. not (i == k)) ks) ≡ false
any_filtered j k [] none = refl
any_filtered j k (i ∷ ks) none =
    let here : nat_eq j i ≡ false = first_false (nat_eq j i) (list_any (nat_eq j) ks) none in
    let there : list_any (nat_eq j) ks ≡ false = second_false (nat_eq j i) (list_any (nat_eq j) ks) none in
    elim (cases_Bool (nat_eq i k)) [
      | inl is ↦ rw is (any_filtered j k ks there)
      | inr isnt ↦ rw (isnt, here) (any_filtered j k ks there)
    ]

pub leaves_gone : (k : ℕ) (outs : List Out) (h : Hearing) → Leaves h (after_turn (Gone k) outs h)
leaves_gone k outs h =
    let h1 = record h { context = after_event h.context (Gone k) } in
    leaves_then h h1 (after_turn (Gone k) outs h)
    (record { highest = refl; moment = refl; stopped = refl; spans = refl; answers = refl; streams = λ j. refl; others = λ j isnt. (refl, any_filtered j k h.context.connected isnt) })
    (leaves_outputs outs h1)

-- outputs are taken in, and then all are offered what is pending
pub sends_lem : (outs : List Out) (ss ss1 ss2 : List Session) (c0 c1 : Option (List WireCall)) → TakesOuts outs ss ss1 → TellsAll ss1 ss2 c0 c1 → SendsAlone outs ss ss2 c0 c1
sends_lem outs ss ss1 ss2 c0 c1 takes tells l told =
    let t = tells l told in (
      t.0,
      t.1,
      t.2,
      t.3,
      record { sent = sent outs ss ss1 ss2 t.0 t.1 takes t.4; others = λ j other. all_other j ss1 ss2 t.1 t.4 (other_same j ss1 ss (sym takes.same_numbers) other) },
    )

-- what holds where a call is Ok
pub ok_then : {A E : Type 0} (r : Result A E) (P Q : Type 0) → (P → Q) → OnOk r P → OnOk r Q
ok_then (Ok a) P Q f p = f p
ok_then (Err e) P Q f p = p

-- no number above the highest

pub most_remove : (i highest : ℕ) (ss : List Session) → AreAtMost highest ss → AreAtMost highest (remove ss i)
most_remove zero highest [] low = tt
most_remove (suc i) highest [] low = tt
most_remove zero highest (s ∷ ss) low = low.1
most_remove (suc i) highest (s ∷ ss) low = (low.0, most_remove i highest ss low.1)

pub most_same : (highest : ℕ) (ss ss1 : List Session) → numbers ss1 ≡ numbers ss → AreAtMost highest ss → AreAtMost highest ss1
most_same highest ss [] same low = tt
most_same highest [] (x ∷ ss1) same low = cc
most_same highest (s ∷ ss) (x ∷ ss1) same low =
    let head : x.number ≡ s.number = cc in
    let tail : numbers ss1 ≡ numbers ss = cc in
    (rw head low.0, most_same highest ss ss1 tail low.1)

pub most_at : (i highest : ℕ) (ss : List Session) (d : Session) → i < length ss → AreAtMost highest ss → (get_or ss i d).number ≤ highest
most_at i highest [] d within low = absurd (omega (arith, within))
most_at zero highest (s ∷ ss) d within low = low.0
most_at (suc i) highest (s ∷ ss) d within low = most_at i highest ss d (omega (arith, within)) low.1

-- the rest of an event

pub settle_quiet : (n : ℕ) (slow : Slow) (h : Hearing) → slowest slow h ≡ None → Along (settle n slow h) [] h
settle_quiet zero slow h none = over h
settle_quiet (suc n) slow h none = rw none (over h)

pub settle_first : (m k : ℕ) (slow : Slow) (h after : Hearing) (outs : List Out) (deeds : List Deed) → slowest slow h ≡ Some k → Along (settle m slow (after_turn (Gone k) outs h)) deeds after
    → Along (settle (suc m) slow h) (Turned (Gone k) outs ∷ deeds) after
settle_first m k slow h after outs deeds found rest = rw found (turned (Gone k) (λ outs. settle m slow (after_turn (Gone k) outs h)) outs rest)

pub settle_none : (ran : List Deed → Type 0) (ss : List Session) (c : Option (List WireCall)) → AreQuick ss → Goes settled ran ran ss ss c c
settle_none ran ss c quick = record {
  deeds = [];
  ran = λ ds r. rw (append-nil ds) r;
  told = λ l told. (
    l,
    [],
    told,
    sym (append-nil l),
    record {
      none_given = refl;
      untaken = λ j other. refl;
      at_most = λ highest low. low;
      foresees = λ final highest f. foresees_on final ss highest _ _ (append-nil l) f;
      goes = λ final highest h low f s.
          let g : Foresees final ss highest l = foresees_on final ss highest _ _ (append-nil l) f in
          let none : slowest (slow_by final) h ≡ None = ap (find (λ k. slow_by final k (h.links k).text)) s.connected ∙ none_slow final h.links l ss g.grows s.tied quick in
          (h, settle_quiet (length h.context.connected) (slow_by final) h none, stands_on ss h _ _ (sym (append-nil l)) s, leaves_all h);
    },
  );
}

pub one_less : (i : ℕ) (ss ss1 : List Session) (before after : List ℕ) → i < length ss → before ≡ numbers ss → after ≡ numbers ss1 → numbers ss1 ≡ numbers (remove ss i) → length before ≡ suc (length after)
one_less i ss ss1 before after within is is1 same =
    let a : length before ≡ length ss = ap length is ∙ length-map ss number_of in
    let b : length after ≡ length (remove ss i) = ap length (is1 ∙ same) ∙ length-map (remove ss i) number_of in
    omega (arith, a, b, length-remove ss i within)

-- a close concerns nobody's bytes
pub no_bytes : (j k : ℕ) → taken j (Closed k ∷ []) ≡ []
no_bytes j k = refl

pub step_by : (i k : ℕ) (d : Session) (ss ss1 ss2 : List Session) (l0 added1 added2 : List WireCall) (outs : List Out) (deeds : List Deed) → IsSlowest i ss → k ≡ (get_or ss i d).number
    → SentAlone outs (remove ss i) ss1 (l0 ++ Closed k ∷ []) added1 → GoesBy settled ss1 ss2 ((l0 ++ Closed k ∷ []) ++ added1) added2 deeds
    → GoesBy settled ss ss2 l0 (Closed k ∷ (added1 ++ added2)) (Turned (Gone k) outs ∷ deeds)
step_by i k d ss ss1 ss2 l0 added1 added2 outs deeds slow is sent1 by =
    let close = Closed k ∷ [] in
    let all : ((l0 ++ close) ++ added1) ++ added2 ≡ l0 ++ (Closed k ∷ (added1 ++ added2)) =
    append_assoc (l0 ++ close) added1 added2 ∙ append_assoc l0 close (added1 ++ added2) in
    let back = λ (final : ℕ → ℕ) (highest : ℕ) (f : Foresees final ss2 highest (l0 ++ (Closed k ∷ (added1 ++ added2)))).
    foresees_calls final (remove ss i) highest l0 close (λ j some. refl) (sent1.sent.foresees final highest (by.foresees final highest (foresees_on final ss2 highest _ _ (sym all) f))) in
    record {
      none_given = given_append added1 added2 ∙ ap (λ (hs : List Happening). hs ++ given added2) sent1.sent.none_given ∙ by.none_given;
      untaken = λ j other.
          let rest = other_remove i j ss other in
          taken_append j added1 added2 ∙ ap (λ xs. xs ++ taken j added2) (sent1.others j rest) ∙ by.untaken j (other_same j ss1 (remove ss i) (sym sent1.sent.same_numbers) rest);
      at_most = λ highest low. by.at_most highest (most_same highest (remove ss i) ss1 sent1.sent.same_numbers (most_remove i highest ss low));
      foresees = λ final highest f. foresees_gone final i ss highest l0 (back final highest f);
      goes = λ final highest h low f s.
          let f2 : Foresees final ss2 highest (((l0 ++ close) ++ added1) ++ added2) = foresees_on final ss2 highest _ _ (sym all) f in
          let f0 = back final highest f in
          let some : 0 < (get_or ss i d).number = above_at 0 i ss d slow.within s.above in
          let last = f0.gone (get_or ss i d).number some (most_at i highest ss d slow.within low) (removed_other i 0 ss d slow.within s.above) in
          let first = ap (find (λ k. slow_by final k (h.links k).text)) s.connected ∙ first_slow final h.links l0 ss i d f0.grows s.tied slow.within slow.quick (slow.slow d) last in
          let found : slowest (slow_by final) h ≡ Some k = first ∙ ap Some (sym is) in
          let gone0 : Stands (remove ss i) (record h { context = after_event h.context (Gone k) }) l0 = rw is (stands_gone i ss h l0 d slow.within s) in
          let gone1 = stands_calls (remove ss i) (record h { context = after_event h.context (Gone k) }) l0 close (λ j some. refl) gone0 in
          let gone2 = sent1.sent.stands (record h { context = after_event h.context (Gone k) }) gone1 in
          let h2 = after_turn (Gone k) outs h in
          let less : length h.context.connected ≡ suc (length h2.context.connected) = one_less i ss ss1 h.context.connected h2.context.connected slow.within s.connected gone2.connected sent1.sent.same_numbers in
          let r = by.goes final highest h2 (most_same highest (remove ss i) ss1 sent1.sent.same_numbers (most_remove i highest ss low)) f2 gone2 in
          (r.0, rw less (settle_first (length h2.context.connected) k (slow_by final) h r.0 outs deeds found r.1), stands_on ss2 r.0 _ _ all r.2, leaves_then h h2 r.0 (leaves_gone k outs h) r.3);
    }

pub settle_some : (ran0 ran1 ran2 : List Deed → Type 0) (i k : ℕ) (d : Session) (ss ss1 ss2 : List Session) (c0 c1 c2 c3 : Option (List WireCall)) → IsSlowest i ss → k ≡ (get_or ss i d).number
    → Adds c0 c1 (Closed k ∷ []) → TurnsOver (Gone k) ran0 ran1 (remove ss i) ss1 c1 c2 → Goes settled ran1 ran2 ss1 ss2 c2 c3 → Goes settled ran0 ran2 ss ss2 c0 c3
settle_some ran0 ran1 ran2 i k d ss ss1 ss2 c0 c1 c2 c3 slow is adds t g = record {
  deeds = Turned (Gone k) t.outs ∷ g.deeds;
  ran = λ ds r. rw (append_assoc ds (Turned (Gone k) t.outs ∷ []) g.deeds) at (g.ran (ds ++ Turned (Gone k) t.outs ∷ []) (t.ran ds r));
  told = λ l told.
      let after = g.told l told in
      let sends = t.sends after.0 after.2 in
      let a = adds sends.0 sends.2 in
      let close = Closed k ∷ [] in
      let l1 : sends.0 ≡ a.0 ++ close = a.2 in
      let l2 : after.0 ≡ (a.0 ++ close) ++ sends.1 = sends.3 ∙ ap (λ xs. xs ++ sends.1) l1 in
      let sent1 : SentAlone t.outs (remove ss i) ss1 (a.0 ++ close) sends.1 = rw l1 at sends.4 in
      let by : GoesBy settled ss1 ss2 ((a.0 ++ close) ++ sends.1) after.1 g.deeds = rw l2 at after.4 in (
        a.0,
        Closed k ∷ (sends.1 ++ after.1),
        a.1,
        after.3 ∙ ap (λ xs. xs ++ after.1) l2 ∙ append_assoc (a.0 ++ close) sends.1 after.1 ∙ append_assoc a.0 close (sends.1 ++ after.1),
        step_by i k d ss ss1 ss2 a.0 sends.1 after.1 t.outs g.deeds slow is sent1 by,
      );
}

pub event_by : (event : Event) (ss ss1 ss2 : List Session) (l0 added1 added2 : List WireCall) (outs : List Out) (deeds : List Deed) → SentAlone outs ss ss1 l0 added1 → GoesBy settled ss1 ss2 (l0 ++ added1) added2 deeds
    → GoesBy (turn_course event) ss ss2 l0 (added1 ++ added2) (Turned event outs ∷ deeds)
event_by event ss ss1 ss2 l0 added1 added2 outs deeds sent1 by =
    let all : (l0 ++ added1) ++ added2 ≡ l0 ++ (added1 ++ added2) = append_assoc l0 added1 added2 in
    record {
      none_given = given_append added1 added2 ∙ ap (λ (hs : List Happening). hs ++ given added2) sent1.sent.none_given ∙ by.none_given;
      untaken = λ j other. taken_append j added1 added2 ∙ ap (λ xs. xs ++ taken j added2) (sent1.others j other) ∙ by.untaken j (other_same j ss1 ss (sym sent1.sent.same_numbers) other);
      at_most = λ highest low. by.at_most highest (most_same highest ss ss1 sent1.sent.same_numbers low);
      foresees = λ final highest f. sent1.sent.foresees final highest (by.foresees final highest (foresees_on final ss2 highest _ _ (sym all) f));
      goes = λ final highest h low f s.
          let f2 : Foresees final ss2 highest ((l0 ++ added1) ++ added2) = foresees_on final ss2 highest _ _ (sym all) f in
          let r = by.goes final highest (with_outputs outs h) (most_same highest ss ss1 sent1.sent.same_numbers low) f2 (sent1.sent.stands h s) in
          (r.0, turned event (λ outs. settled (slow_by final) (with_outputs outs h)) outs r.1, stands_on ss2 r.0 _ _ all r.2, leaves_then h (with_outputs outs h) r.0 (leaves_outputs outs h) r.3);
    }

pub event_goes : (event : Event) (ran0 ran1 ran2 : List Deed → Type 0) (ss ss1 ss2 : List Session) (c0 c1 c2 : Option (List WireCall)) → TurnsOver event ran0 ran1 ss ss1 c0 c1 → Goes settled ran1 ran2 ss1 ss2 c1 c2
    → Goes (turn_course event) ran0 ran2 ss ss2 c0 c2
event_goes event ran0 ran1 ran2 ss ss1 ss2 c0 c1 c2 t g = record {
  deeds = Turned event t.outs ∷ g.deeds;
  ran = λ ds r. rw (append_assoc ds (Turned event t.outs ∷ []) g.deeds) at (g.ran (ds ++ Turned event t.outs ∷ []) (t.ran ds r));
  told = λ l told.
      let after = g.told l told in
      let sends = t.sends after.0 after.2 in
      let by : GoesBy settled ss1 ss2 (sends.0 ++ sends.1) after.1 g.deeds = rw sends.3 at after.4 in (
        sends.0,
        sends.1 ++ after.1,
        sends.2,
        after.3 ∙ ap (λ xs. xs ++ after.1) sends.3 ∙ append_assoc sends.0 sends.1 after.1,
        event_by event ss ss1 ss2 sends.0 sends.1 after.1 t.outs g.deeds sends.4 by,
      );
}
