-- A game goes rounds.
use Rattle.std.proofs.Common.{subst, ◌≡◌, ℕ, zero, suc, ◌<◌, ◌≤◌, ◌+◌, List, [], ◌∷◌, ◌++◌, length, nat_eq, if◌then◌else◌, Bool, true, false, Option, Some, None, Result, Ok, Err, refl, sym, ap, ◌∙◌, append-nil, append_assoc, arith, inl, inr}
use Rattle.std.specs.List.{list_any}
use Rattle.std.proofs.lemmas.Bool.{cases_Bool}
use Rattle.std.proofs.lemmas.List.{length-append}
use Rattle.lp_io.specs.Told.{after_adding}
use Rattle.lp_core.specs.Turning.{Turn, turns_of}
use Rattle.lp_wire.specs.Courses.{Course, Over, Deed, Along}
use Rattle.lp_wire.specs.WireText.{Link}
use Rattle.lp_wire.specs.Heard.{Hearing, Slow, slow_by, happening_heard, hearing_from, is_connected, next_heard}
use Rattle.lp_wire.specs.Wires.{Adds, given, stalls, taken}
use Rattle.lp_wire.specs.declared.happening.Happening.{Happening}
use Rattle.lp_wire.specs.declared.happening.WireCall.{WireCall}
use Rattle.lp_wire.specs.declared.happening.WireCall.TheVariants.{Gave}
use Rattle.lp_sessions.specs.declared.session.Session.{Session}
use Rattle.lp_sessions.specs.All.{AreOther, ArePrompt, AreTied, OffersAll, Offered, numbers}
use Rattle.lp_sessions.specs.Table.{AreAtMost, Connections, no_connections}
use Rattle.lp_sessions.specs.Serving.{Stands, Foresees, IsFront}
use Rattle.lp_sessions.proofs.Serving.{fewer_taken, foresees_calls, other_any, other_same, same_number, taken_still, text_of}
use Rattle.lp_sessions.proofs.Taking.{above_other, all_given, all_numbers, all_other, given_append, offers_come, stalls_append}
use Rattle.lp_control.specs.Operator.{ControlStands, OffersOperator, Operator, new_operator}
use Rattle.lp_control.proofs.Answered.{answers_fronts}
use Rattle.lp_recording.specs.declared.recording.Keeps.{Keeps}
use Rattle.lp_recording.specs.declared.recording.Keeps.TheVariants as kept
use Rattle.lp_serving.specs.Recorded.{Recorded, deeds_written}
use Rattle.lp_serving.specs.Happens.{Serving}
use Rattle.lp_serving.proofs.EventsRecorded.{adding_twice}
use Rattle.lp_serving.proofs.Going.{most_same}
use Rattle.lp_serving.proofs.Happening.{most_other}
use Rattle.lp_serve.specs.declared.game.Game.{Game}
use Rattle.lp_serve.specs.Rounds.{IsPending, IsPrompt, IsRound, Rounds, in_the_end, no_round, one_more}
use Rattle.lp_serve.specs.Standing.{Does, DoesBy, IsForeseen, OffersAgain, StandsFor, TellsAgain}
use Rattle.lp_serving.specs.declared.server.End.TheVariants as ends
use Rattle.lp_serve.specs.declared.run.Early.{Early}
use Rattle.lp_serve.specs.declared.run.Early.TheVariants as early
use Rattle.lp_serve.specs.declared.run.Served.{Served}
use Rattle.lp_serve.specs.declared.run.Served.TheVariants.{Done, OutputFault, FilesFault, WireFault, TurnsSpent, Stopped, NoMemory}
use Rattle.lp_serve.specs.Causes.{is_wire_fault}
use Rattle.lp_serve.specs.Served.{AsEnded, GoesRound, HasRun, HasServed, IfStopped, IfVain, RoundsBy, Runs, RunsBy, TakesFronts, early_served}
use Rattle.lp_serve.proofs.Doing.{serving_calls}
use Rattle.lp_serve.proofs.RoundsHeard.{rounds_heard}

-- Once more offered

offered_serving : (hi hi1 mo mo1 : ℕ) (ss ss1 : List Session) (h : Hearing) (l offers : List WireCall) → hi1 ≡ hi → mo1 ≡ mo → OffersAll ss ss1 offers → Serving ss hi mo h l → Serving ss1 hi1 mo1 h (l ++ offers)
offered_serving hi hi1 mo mo1 ss ss1 h l offers higher later all v =
    let o = offers_come h.links l 0 ss ss1 offers v.stands.above v.stands.tied all in
    record {
      stands = record {
        tied = o.tied;
        above = rw o.same_numbers v.stands.above;
        connected = v.stands.connected ∙ sym o.same_numbers;
        others = λ j some other.
            let mine = other_same j ss ss1 o.same_numbers other in
            let front = v.stands.others j some mine in
            (front.0, front.1 ∙ ap (λ (xs : List ℕ). xs ++ front.0) (sym (taken_still j l offers (o.others j mine))));
      };
      top = v.top ∙ sym higher;
      now = v.now ∙ sym later;
      most = most_same hi1 ss ss1 o.same_numbers (subst (λ (n : ℕ). AreAtMost n ss) (sym higher) v.most);
      fresh = λ j above.
          let over : hi < j = omega (arith, above, higher) in
          let was = v.fresh j over in
          (was.0, taken_still j l offers (o.others j (most_other hi j ss v.most over)) ∙ was.1);
    }

offered_back : (final : ℕ → ℕ) (ss ss1 : List Session) (hi hi1 : ℕ) (l offers : List WireCall) → hi1 ≡ hi → numbers ss1 ≡ numbers ss → OffersAll ss ss1 offers → Foresees final ss1 hi1 (l ++ offers) → Foresees final ss hi l
offered_back final ss ss1 hi hi1 l offers higher same all f = record {
  grows = λ j. fewer_taken j l offers (final j) (f.grows j);
  gone = λ j some low other.
      let low1 : j ≤ hi1 = omega (arith, low, higher) in
      f.gone j some low1 (other_same j ss1 ss (sym same) other) ∙ ap length (taken_still j l offers (all_other j ss ss1 offers all other));
}

no_more : (p : List ℕ) (t o : List ℕ) → p ≡ t ++ o → o ≡ [] → length t < length p → ⊥
no_more p t o e none less =
    let long : length p ≡ length t + length o = ap length e ∙ length-append t o in
    let short : length o ≡ 0 = ap length none in
    omega (arith, long, short, less)

prompt_at : (links : ℕ → Link) (calls offers : List WireCall) (ss : List Session) (k : ℕ) → AreTied links calls ss → ArePrompt offers ss → list_any (nat_eq k) (numbers ss) ≡ true → length (taken k calls) < length (links k).text → 0 < stalls k offers
prompt_at links calls offers [] k tied prompt there less = cc
prompt_at links calls offers (s ∷ ss) k tied prompt there less = elim (cases_Bool (nat_eq k s.number)) [
  | inl is ↦
      let e : k ≡ s.number = same_number k s.number is in
      let text = text_of s.phase s.outbox (links s.number) (taken s.number calls) tied.0.text in
      let fewer : length (taken s.number calls) < length (links s.number).text = subst (λ (j : ℕ). length (taken j calls) < length (links j).text) e less in
      let some : 0 < stalls s.number offers = elim prompt.0 [ inl none ↦ absurd (no_more (links s.number).text (taken s.number calls) s.outbox text none fewer) | inr more ↦ more ] in
      subst (λ (j : ℕ). 0 < stalls j offers) (sym e) some
  | inr isnt ↦
      let rest : list_any (nat_eq k) (numbers ss) ≡ true = rw isnt at there in
      prompt_at links calls offers ss k tied.1 prompt.1 rest less
]

more_stalls : (sum a b c : ℕ) → sum ≡ a + (b + c) → 0 < b → 0 < sum
more_stalls sum a b c e some = omega (arith, e, some)

-- A round

round_by : (happening : Happening) (g gm g1 : Game) (stops : Bool) (l0 a1 offers others : List WireCall) (deeds : List Deed) → DoesBy (λ slow h. happening_heard slow happening h) g gm stops (l0 ++ Gave happening ∷ []) a1 deeds
    → OffersAll gm.server.connections.sessions g1.server.connections.sessions offers → OffersOperator gm.control g1.control others → g1.server.connections.highest ≡ gm.server.connections.highest → g1.server.moment ≡ gm.server.moment
    → RoundsBy g g1 stops l0 happening (a1 ++ (offers ++ others)) deeds
round_by happening g gm g1 stops l0 a1 offers others deeds d every operator higher later =
    let poll = Gave happening ∷ [] in
    let l1 = l0 ++ poll in
    let l2 = l1 ++ a1 in
    let l3 = l2 ++ offers in
    let whole : l3 ++ others ≡ l0 ++ Gave happening ∷ (a1 ++ (offers ++ others)) = append_assoc l2 offers others ∙ append_assoc l1 a1 (offers ++ others) ∙ append_assoc l0 poll (a1 ++ (offers ++ others)) in
    let apart = answers_fronts.apart gm.control g1.control others operator in
    let ss = g.server.connections.sessions in
    let hi = g.server.connections.highest in
    let ssm = gm.server.connections.sessions in
    let him = gm.server.connections.highest in
    let ss1 = g1.server.connections.sessions in
    let hi1 = g1.server.connections.highest in
    let same : numbers ss1 ≡ numbers ssm = all_numbers ssm ss1 offers every in
    let back = λ (final : ℕ → ℕ) (f : IsForeseen final g1 (l0 ++ Gave happening ∷ (a1 ++ (offers ++ others)))).
    offered_back final ssm ss1 him hi1 l2 offers higher same every (foresees_calls final ss1 hi1 l3 others apart.untaken (subst (λ (xs : List WireCall). IsForeseen final g1 xs) (sym whole) f)) in
    let none : given (a1 ++ (offers ++ others)) ≡ [] =
    given_append a1 (offers ++ others) ∙ ap (λ (hs : List Happening). hs ++ given (offers ++ others)) d.none_given ∙ given_append offers others ∙ ap (λ (hs : List Happening). hs ++ given others) (all_given ssm ss1 offers every) ∙ apart.none_given in
    record {
      none_given = none;
      foresees = λ final f. foresees_calls final ss hi l0 poll (λ j some. refl) (d.foresees final (back final f));
      goes = λ final at f s going.
          let s1 : StandsFor g at l1 = record { serving = serving_calls ss hi g.server.moment at l0 poll (λ j some. refl) s.serving; control = answers_fronts.other_calls g.control at l0 poll refl s.control } in
          let r = d.goes final at (back final f) s1 going in
          let v2 : Serving ssm him gm.server.moment r.0 l2 = r.2.serving in
          let v3 : Serving ss1 hi1 g1.server.moment r.0 l3 = offered_serving him hi1 gm.server.moment g1.server.moment ssm ss1 r.0 l2 offers higher later every v2 in
          let v4 : Serving ss1 hi1 g1.server.moment r.0 (l3 ++ others) = serving_calls ss1 hi1 g1.server.moment r.0 l3 others apart.untaken v3 in
          let k3 : ControlStands gm.control r.0 l3 = answers_fronts.other_calls gm.control r.0 l2 offers (all_other 0 ssm ss1 offers every (above_other 0 0 ssm (omega arith) v2.stands.above)) r.2.control in
          let s4 : StandsFor g1 r.0 (l3 ++ others) = record { serving = v4; control = answers_fronts.offered gm.control g1.control others r.0 l3 operator k3 } in
          let prompts : ArePrompt offers ss1 = (offers_come r.0.links l2 0 ssm ss1 offers v2.stands.above v2.stands.tied every).prompt in (
            r.0,
            record {
              none_given = none;
              along = subst (λ (b : Bool). Along (if b then Over at else happening_heard (slow_by final) happening at) deeds r.0) (sym going) r.1;
              prompt = λ k p.
                  let there : list_any (nat_eq k) (numbers ss1) ≡ true = ap (list_any (nat_eq k)) (sym v4.stands.connected) ∙ p.there in
                  let fewer : length (taken k (l3 ++ others)) < length (r.0.links k).text = subst (λ (xs : List WireCall). length (taken k xs) < length (r.0.links k).text) (sym whole) p.fewer in
                  let some : 0 < stalls k offers = prompt_at r.0.links (l3 ++ others) offers ss1 k v4.stands.tied prompts there fewer in
                  let sum : stalls k (a1 ++ (offers ++ others)) ≡ stalls k a1 + (stalls k offers + stalls k others) = stalls_append k a1 (offers ++ others) ∙ ap (λ (n : ℕ). stalls k a1 + n) (stalls_append k offers others) in
                  more_stalls (stalls k (a1 ++ (offers ++ others))) (stalls k a1) (stalls k offers) (stalls k others) sum some;
            },
            subst (λ (xs : List WireCall). StandsFor g1 r.0 xs) whole s4,
            r.3,
          );
    }

pub round_goes : (happening : Happening) (ran0 ran1 : List Deed → Type 0) (g gm g1 : Game) (stops : Bool) (c0 c1 c2 c3 : Option (List WireCall)) → Adds c0 c1 (Gave happening ∷ [])
    → Does (λ slow h. happening_heard slow happening h) ran0 ran1 g gm stops c1 c2 → TellsAgain gm g1 c2 c3 → GoesRound ran0 ran1 g g1 stops c0 c3
round_goes happening ran0 ran1 g gm g1 stops c0 c1 c2 c3 adds d tells = record {
  deeds = d.deeds;
  ran = d.ran;
  told = λ l told.
      let poll = Gave happening ∷ [] in
      let t = tells l told in
      let x = d.told t.0 t.2 in
      let p = adds x.0 x.2 in
      let again = t.4 in
      let rest = again.offers ++ again.others in
      let by : DoesBy (λ slow h. happening_heard slow happening h) g gm stops (p.0 ++ poll) x.1 d.deeds = subst (λ (xs : List WireCall). DoesBy (λ slow h. happening_heard slow happening h) g gm stops xs x.1 d.deeds) p.2 x.4 in
      let whole : l ≡ p.0 ++ Gave happening ∷ (x.1 ++ rest) =
      t.3 ∙ ap (λ (xs : List WireCall). xs ++ t.1) (x.3 ∙ ap (λ (xs : List WireCall). xs ++ x.1) p.2) ∙ ap (λ (ys : List WireCall). ((p.0 ++ poll) ++ x.1) ++ ys) again.both ∙ append_assoc (p.0 ++ poll) x.1 rest ∙ append_assoc p.0 poll (x.1 ++ rest) in
      (p.0, happening, x.1 ++ rest, p.1, whole, round_by happening g gm g1 stops p.0 x.1 again.offers again.others d.deeds by again.all again.operator again.highest again.moment);
}

pub round_written : (ran0 : List Deed → Type 0) (ra rb : List Turn → Type 0) (keeps : Keeps) (before w : Option (List ℕ)) (g g1 : Game) (stops : Bool) (c0 c1 : Option (List WireCall)) → ((turns : List Turn) → ra turns → rb turns)
    → GoesRound ran0 (Recorded ra keeps before w) g g1 stops c0 c1 → GoesRound ran0 (Recorded rb keeps before w) g g1 stops c0 c1
round_written ran0 ra rb keeps before w g g1 stops c0 c1 goes_on p = record {
  deeds = p.deeds;
  ran = λ ds r. let s = p.ran ds r in record { did = goes_on (turns_of (ds ++ p.deeds)) s.did; written = s.written };
  told = p.told;
}

pub round_keeps : (ra rb : List Turn → Type 0) (k0 k1 : Keeps) (before wa wb : Option (List ℕ)) (g g1 : Game) (stops : Bool) (c0 c1 : Option (List WireCall)) → k1 ≡ k0
    → GoesRound (Recorded ra k1 before wa) (Recorded rb k1 before wb) g g1 stops c0 c1 → GoesRound (Recorded ra k0 before wa) (Recorded rb k0 before wb) g g1 stops c0 c1
round_keeps ra rb k0 k1 before wa wb g g1 stops c0 c1 e p = subst (λ (k : Keeps). GoesRound (Recorded ra k before wa) (Recorded rb k before wb) g g1 stops c0 c1) e p

-- Rounds, one after another

one_given : (calls more : List WireCall) (happening : Happening) (n : ℕ) → given more ≡ [] → length (given calls) ≡ n → length (given (calls ++ Gave happening ∷ more)) ≡ n + 1
one_given calls more happening n none many =
    let all : given (calls ++ Gave happening ∷ more) ≡ given calls ++ happening ∷ [] = given_append calls (Gave happening ∷ more) ∙ ap (λ (hs : List Happening). given calls ++ happening ∷ hs) none in
    let sum : length (given (calls ++ Gave happening ∷ more)) ≡ length (given calls) + 1 = ap length all ∙ length-append (given calls) (happening ∷ []) in
    omega (arith, sum, many)

begins_so : (moment : ℕ) → Serving [] 0 moment (hearing_from moment) []
begins_so moment = record {
  stands = record { tied = tt; above = tt; connected = refl; others = λ j some other. ([], refl) };
  top = refl;
  now = refl;
  most = tt;
  fresh = λ j above. (refl, refl);
}

none_told : (old : Option (List WireCall)) (l : List WireCall) → old ≡ Some [] → old ≡ Some l → l ≡ []
none_told old l none told = cc

pub runs_begin : (opening : ℕ) (ran : List Deed → Type 0) (g : Game) (c : Option (List WireCall)) → g.server.connections ≡ no_connections → g.server.moment ≡ opening → g.control ≡ new_operator → Runs opening 0 ran ran g false c c
runs_begin opening ran g c connections moment control = record {
  deeds = [];
  ran = λ ds r. rw (append-nil ds) r;
  told = λ start l told.
      let none : l ≡ [] = none_told c l start told in
      subst (λ (xs : List WireCall). (length (given xs) ≡ 0) × RunsBy opening g false xs []) (sym none) (
        refl,
        record {
          goes = λ final f. (
            hearing_from opening,
            no_round,
            record {
              serving = subst (λ (x : Connections). Serving x.sessions x.highest g.server.moment (hearing_from opening) []) (sym connections)
                  (subst (λ (n : ℕ). Serving [] 0 n (hearing_from opening) []) (sym moment) (begins_so opening));
              control = subst (λ (k : Operator). ControlStands k (hearing_from opening) []) (sym control) (answers_fronts.begins opening [] refl);
            },
            refl,
          );
        },
      );
}

pub runs_more : (opening n : ℕ) (ran0 ran1 ran2 : List Deed → Type 0) (g g1 : Game) (stops : Bool) (c0 c1 c2 : Option (List WireCall)) → Runs opening n ran0 ran1 g false c0 c1 → GoesRound ran1 ran2 g g1 stops c1 c2
    → Runs opening (n + 1) ran0 ran2 g1 stops c0 c2
runs_more opening n ran0 ran1 ran2 g g1 stops c0 c1 c2 a b = record {
  deeds = a.deeds ++ b.deeds;
  ran = λ ds r. subst ran2 (append_assoc ds a.deeds b.deeds) (b.ran (ds ++ a.deeds) (a.ran ds r));
  told = λ start l told.
      let y = b.told l told in
      let x = a.told start y.0 y.3 in
      let one : length (given (y.0 ++ Gave y.1 ∷ y.2)) ≡ n + 1 = one_given y.0 y.2 y.1 n y.5.none_given x.0 in
      subst (λ (xs : List WireCall). (length (given xs) ≡ n + 1) × RunsBy opening g1 stops xs (a.deeds ++ b.deeds)) (sym y.4) (
        one,
        record {
          goes = λ final f.
              let r = x.1.goes final (y.5.foresees final f) in
              let q = y.5.goes final r.0 f r.2 r.3 in
              (q.0, one_more y.0 a.deeds r.0 y.1 y.2 b.deeds q.0 r.1 q.1, q.2, q.3);
        },
      );
}

-- a poll that failed
pub runs_vain : (opening n : ℕ) (ran0 ran1 : List Deed → Type 0) (g : Game) (stops : Bool) (c0 c1 c2 : Option (List WireCall)) → Adds c1 c2 [] → Runs opening n ran0 ran1 g stops c0 c1 → Runs opening n ran0 ran1 g stops c0 c2
runs_vain opening n ran0 ran1 g stops c0 c1 c2 adds a = record {
  deeds = a.deeds;
  ran = a.ran;
  told = λ start l told.
      let t = adds l told in
      subst (λ (xs : List WireCall). (length (given xs) ≡ n) × RunsBy opening g stops xs a.deeds) (sym (t.2 ∙ append-nil t.0)) (a.told start t.0 t.1);
}

-- What a run comes to

foreseen_at_end : (ss : List Session) (highest : ℕ) (calls : List WireCall) → Foresees (in_the_end calls) ss highest calls
foreseen_at_end ss highest calls = record { grows = λ j. omega arith; gone = λ j some low other. refl }

front_of : (k : ℕ) (ss : List Session) (h : Hearing) (calls : List WireCall) → 0 < k → AreTied h.links calls ss → (AreOther k ss → IsFront (taken k calls) (h.links k).text) → IsFront (taken k calls) (h.links k).text
front_of k [] h calls some tied other = other tt
front_of k (s ∷ ss) h calls some tied other = elim (cases_Bool (nat_eq s.number k)) [
  | inl is ↦ subst (λ (j : ℕ). IsFront (taken j calls) (h.links j).text) (same_number s.number k is) (s.outbox, text_of s.phase s.outbox (h.links s.number) (taken s.number calls) tied.0.text)
  | inr isnt ↦ front_of k ss h calls some tied.1 (λ rest. other (isnt, rest))
]

takes_fronts : (g : Game) (h : Hearing) (calls : List WireCall) → StandsFor g h calls → TakesFronts calls h
takes_fronts g h calls s k some = front_of k g.server.connections.sessions h calls some s.serving.stands.tied (s.serving.stands.others k some)

has_served : (opening : ℕ) (g : Game) (stops : Bool) (calls : List WireCall) (deeds : List Deed) → RunsBy opening g stops calls deeds → HasServed opening calls deeds stops
has_served opening g stops calls deeds a =
    let q = a.goes (in_the_end calls) (foreseen_at_end g.server.connections.sessions g.server.connections.highest calls) in
    record {
      after = q.0;
      hears = rounds_heard (slow_by (in_the_end calls)) opening calls deeds q.0 q.1;
      rounds = q.1;
      fronts = takes_fronts g q.0 calls q.2;
      operator = answers_fronts.fronts g.control q.0 calls q.2.control;
      stopped = q.3;
    }

pub adding_none : (told : Option (List ℕ)) → told ≡ after_adding told []
adding_none None = refl
adding_none (Some xs) = ap Some (sym (append-nil xs))

pub nothing_written : (keeps : Keeps) → deeds_written keeps [] ≡ []
nothing_written kept.Record = refl
nothing_written kept.Log = refl

pub has_run : (opening n : ℕ) (ran0 ran1 ran2 : List Turn → Type 0) (keeps : Keeps) (w0 w1 w2 : Option (List ℕ)) (end : List ℕ) (g : Game) (stops : Bool) (polls : ℕ → Type 0) (old now : Option (List WireCall))
    → Runs opening n (Recorded ran0 keeps w0 w0) (Recorded ran1 keeps w0 w1) g stops old now → ran0 [] → ((turns : List Turn) → ran1 turns → ran2 turns) → w2 ≡ after_adding w1 end → polls n → HasRun opening ran2 keeps w0 w2 end stops polls old now
has_run opening n ran0 ran1 ran2 keeps w0 w1 w2 end g stops polls old now a began goes_on ended many =
    let none : Recorded ran0 keeps w0 w0 [] = record { did = began; written = adding_none w0 ∙ ap (after_adding w0) (sym (nothing_written keeps)) } in
    let r = a.ran [] none in
    record {
      deeds = a.deeds;
      did = goes_on (turns_of a.deeds) r.did;
      written = ended ∙ ap (λ (told : Option (List ℕ)). after_adding told end) r.written ∙ adding_twice w0 (deeds_written keeps a.deeds) end;
      served = λ start calls told. let t = a.told start calls told in (subst polls (sym t.0) many, has_served opening g stops calls a.deeds t.1);
    }

pub early_ends : (e : Early) (P : Type 0) (run : List ℕ → Bool → (ℕ → Type 0) → Type 0) (end : List ℕ) (turns : ℕ) → IfVain (Err e) P → (P → run [] false (λ polls. polls < turns)) → AsEnded (early_served e) run end turns
early_ends early.Wire P run end turns vain f = f vain
early_ends (early.At ends.Output) P run end turns vain f = tt
early_ends (early.At (ends.Stopped why)) P run end turns vain f = tt
early_ends (early.At ends.NoMemory) P run end turns vain f = tt

pub stop_ends : (s : Served) (P : Type 0) (run : List ℕ → Bool → (ℕ → Type 0) → Type 0) (end : List ℕ) (turns : ℕ) → IfStopped s P → (P → run end true (λ polls. polls ≤ turns)) → AsEnded s run end turns
stop_ends Done P run end turns p f = f p
stop_ends (FilesFault path) P run end turns p f = f p
stop_ends OutputFault P run end turns p f = tt
stop_ends NoMemory P run end turns p f = tt
stop_ends WireFault P run end turns p f = absurd p
stop_ends TurnsSpent P run end turns p f = absurd p
stop_ends (Stopped why) P run end turns p f = absurd p

pub stop_faults : (s : Served) (P : Type 0) → IfStopped s P → is_wire_fault s ≡ false
stop_faults Done P p = refl
stop_faults (FilesFault path) P p = refl
stop_faults OutputFault P p = refl
stop_faults NoMemory P p = refl
stop_faults WireFault P p = absurd p
stop_faults TurnsSpent P p = refl
stop_faults (Stopped why) P p = refl

pub runs_stops : (opening n : ℕ) (ran0 ran1 : List Deed → Type 0) (g : Game) (a b : Bool) (c0 c1 : Option (List WireCall)) → a ≡ b → Runs opening n ran0 ran1 g a c0 c1 → Runs opening n ran0 ran1 g b c0 c1
runs_stops opening n ran0 ran1 g a b c0 c1 e p = subst (λ (x : Bool). Runs opening n ran0 ran1 g x c0 c1) e p

pub written_none : (w1 w2 : Option (List ℕ)) → w2 ≡ w1 → w2 ≡ after_adding w1 []
written_none w1 w2 e = e ∙ adding_none w1

-- the end of a run whose round was not gone to its end
pub early_as : (s : Served) (e : Early) (P : Type 0) (run : List ℕ → Bool → (ℕ → Type 0) → Type 0) (end : List ℕ) (turns : ℕ) → s ≡ early_served e → IfVain (Err e) P → (P → run [] false (λ polls. polls < turns)) → AsEnded s run end turns
early_as s e P run end turns is vain f = subst (λ (x : Served). AsEnded x run end turns) (sym is) (early_ends e P run end turns vain f)
