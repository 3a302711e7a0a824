-- What was recorded of a run.
use Rattle.std.proofs.Common.{subst, ◌≡◌, ℕ, List, [], ◌∷◌, ◌++◌, flat_map, Option, Some, None, Result, Ok, Err, OnOk, false, refl, sym, ap, ◌∙◌, append-nil, append_assoc}
use Rattle.std.proofs.lemmas.List.Concat.{flat_map-append}
use Rattle.std.specs.Result.{is_err}
use Rattle.lp_io.specs.Told.{after_adding}
use Rattle.lp_events.specs.declared.event.Event.{Event}
use Rattle.lp_events.specs.declared.item.Item.{Item}
use Rattle.lp_events.specs.declared.item.Item.TheVariants as items
use Rattle.lp_events.specs.declared.out.Out.{Out}
use Rattle.lp_events.specs.Script.{spelling, spellings}
use Rattle.lp_core.specs.Turning.{Turn, turns_of}
use Rattle.lp_wire.specs.Courses.{Course, Deed, Turned, WasRead, events_of, outputs_of}
use Rattle.lp_wire.specs.Heard.{Hearing, Slow}
use Rattle.lp_wire.specs.Record.{event_items, logged}
use Rattle.lp_wire.specs.declared.happening.WireCall.{WireCall}
use Rattle.lp_sessions.specs.declared.session.Session.{Session}
use Rattle.lp_recording.specs.Recorded.{kept_of}
use Rattle.lp_recording.specs.declared.recording.Keeps.{Keeps}
use Rattle.lp_recording.specs.declared.recording.Keeps.TheVariants.{Record, Log}
use Rattle.lp_serving.specs.Recorded.{Recorded, deeds_written}
use Rattle.lp_serving.specs.Serves.{Goes, TurnsOver, SendsAlone}

pub turns_append : (ds es : List Deed) → turns_of (ds ++ es) ≡ turns_of ds ++ turns_of es
turns_append [] es = refl
turns_append (Turned event outs ∷ ds) es = ap (λ (ts : List Turn). (event, outs) ∷ ts) (turns_append ds es)
turns_append (WasRead path bytes ∷ ds) es = turns_append ds es

events_append : (ds es : List Deed) → event_items (events_of (ds ++ es)) ≡ event_items (events_of ds) ++ event_items (events_of es)
events_append [] es = refl
events_append (Turned event outs ∷ ds) es = ap (λ (xs : List Item). items.Event event ∷ xs) (events_append ds es)
events_append (WasRead path bytes ∷ ds) es = events_append ds es

outputs_append : (ds es : List Deed) → outputs_of (ds ++ es) ≡ outputs_of ds ++ outputs_of es
outputs_append [] es = refl
outputs_append (Turned event outs ∷ ds) es = ap (λ (xs : List (List Out)). outs ∷ xs) (outputs_append ds es)
outputs_append (WasRead path bytes ∷ ds) es = outputs_append ds es

-- what is written of turns, one after another
pub written_append : (keeps : Keeps) (ds es : List Deed) → deeds_written keeps (ds ++ es) ≡ deeds_written keeps ds ++ deeds_written keeps es
written_append Record ds es = ap spellings (events_append ds es) ∙ flat_map-append spelling (event_items (events_of ds)) (event_items (events_of es))
written_append Log ds es = ap (flat_map logged) (outputs_append ds es) ∙ flat_map-append logged (outputs_of ds) (outputs_of es)

pub one_written : (keeps : Keeps) (event : Event) (outs : List Out) → deeds_written keeps (Turned event outs ∷ []) ≡ kept_of keeps event outs
one_written Record event outs = append-nil (spelling (items.Event event))
one_written Log event outs = append-nil (logged outs)

pub adding_twice : (told : Option (List ℕ)) (a b : List ℕ) → after_adding (after_adding told a) b ≡ after_adding told (a ++ b)
adding_twice None a b = refl
adding_twice (Some xs) a b = ap Some (append_assoc xs a b)

-- one more event was carried out, and written
pub recorded_more : (ran0 ran1 : List Turn → Type 0) (keeps : Keeps) (before w0 w1 : Option (List ℕ)) (event : Event) (outs : List Out) (ds : List Deed)
    → ((turns : List Turn) → ran0 turns → ran1 (turns ++ (event, outs) ∷ [])) → w1 ≡ after_adding w0 (kept_of keeps event outs)
    → Recorded ran0 keeps before w0 ds → Recorded ran1 keeps before w1 (ds ++ Turned event outs ∷ [])
recorded_more ran0 ran1 keeps before w0 w1 event outs ds ran wrote r =
    let more : deeds_written keeps ds ++ kept_of keeps event outs ≡ deeds_written keeps (ds ++ Turned event outs ∷ []) =
    ap (λ (xs : List ℕ). deeds_written keeps ds ++ xs) (sym (one_written keeps event outs)) ∙ sym (written_append keeps ds (Turned event outs ∷ [])) in
    record {
      did = subst ran1 (sym (turns_append ds (Turned event outs ∷ []))) (ran (turns_of ds) r.did);
      written = wrote ∙ ap (λ (told : Option (List ℕ)). after_adding told (kept_of keeps event outs)) r.written
          ∙ adding_twice before (deeds_written keeps ds) (kept_of keeps event outs)
          ∙ ap (after_adding before) more;
    }

pub goes_keeps : (course : Slow → Hearing → Course Hearing) (ra rb : List Turn → Type 0) (k0 k1 : Keeps) (before wa wb : Option (List ℕ)) (ss ss1 : List Session) (c0 c1 : Option (List WireCall)) → k1 ≡ k0
    → Goes course (Recorded ra k1 before wa) (Recorded rb k1 before wb) ss ss1 c0 c1 → Goes course (Recorded ra k0 before wa) (Recorded rb k0 before wb) ss ss1 c0 c1
goes_keeps course ra rb k0 k1 before wa wb ss ss1 c0 c1 e g = subst (λ (k : Keeps). Goes course (Recorded ra k before wa) (Recorded rb k before wb) ss ss1 c0 c1) e g

-- a turn was carried out, written and sent, and files were written
pub turned_over : (event : Event) (outs : List Out) (ran0 ran1 ran2 : List Turn → Type 0) (keeps : Keeps) (before w0 w1 : Option (List ℕ)) (ss ss1 : List Session) (c0 c1 : Option (List WireCall))
    → ((turns : List Turn) → ran0 turns → ran1 (turns ++ (event, outs) ∷ [])) → ((turns : List Turn) → ran1 turns → ran2 turns) → w1 ≡ after_adding w0 (kept_of keeps event outs)
    → SendsAlone outs ss ss1 c0 c1 → TurnsOver event (Recorded ran0 keeps before w0) (Recorded ran2 keeps before w1) ss ss1 c0 c1
turned_over event outs ran0 ran1 ran2 keeps before w0 w1 ss ss1 c0 c1 ran kept wrote sends = record {
  outs = outs;
  ran = λ ds r. recorded_more ran0 ran2 keeps before w0 w1 event outs ds (λ turns did. kept (turns ++ (event, outs) ∷ []) (ran turns did)) wrote r;
  sends = sends;
}

-- what holds where a call is Ok, and it is
pub ok_is : {A E : Type 0} (r : Result A E) (P : Type 0) → is_err r ≡ false → OnOk r P → P
ok_is (Ok a) P e p = p
ok_is (Err x) P e p = cc
