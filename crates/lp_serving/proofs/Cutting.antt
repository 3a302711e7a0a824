-- Runs that were cut short.
use Rattle.std.proofs.Common.{subst, ◌≡◌, ℕ, ◌≤◌, ◌+◌, List, [], ◌∷◌, ◌++◌, length, take, Bool, true, false, Option, Result, Ok, Err, OnErr, IfErr, refl, sym, ap, ◌∙◌, arith}
use Rattle.std.specs.Result.{is_err}
use Rattle.std.proofs.Math.Seq.{take-append-add, take-length}
use Rattle.std.proofs.lemmas.List.{length-append}
use Rattle.lp_io.specs.Told.{after_adding, IsCut}
use Rattle.lp_events.specs.declared.event.Event.{Event}
use Rattle.lp_events.specs.declared.out.Out.{Out}
use Rattle.lp_core.specs.Turning.{Origin, Turn, turns_of}
use Rattle.lp_core.specs.declared.driver.Stop.{Stop}
use Rattle.lp_wire.specs.Courses.{Deed, Turned}
use Rattle.lp_recording.specs.Recorded.{IsFrontOf, kept_of}
use Rattle.lp_recording.specs.declared.recording.Keeps.{Keeps}
use Rattle.lp_serving.specs.CutShort.{CutsShort, WritesUpTo, WroteUpTo, is_whole}
use Rattle.lp_serving.specs.Recorded.{Recorded, deeds_written}
use Rattle.lp_serving.specs.Serves.{RanOn}
use Rattle.lp_serving.specs.declared.server.End.{End}
use Rattle.lp_serving.specs.declared.server.End.TheVariants.{Output, Stopped, NoMemory}
use Rattle.lp_serving.proofs.EventsRecorded.{adding_twice, recorded_more, turns_append, one_written, written_append}

-- some driver and swap file ran so
abbrev pub Some_ran : (A B : Type 0) → (A → B → Origin → List Turn → Type 0) → Origin → List Turn → Type 0
Some_ran A B ran origin turns = (c : A) × (w : B) × ran c w origin turns

-- the whole is a front
pub whole_front : (whole : Bool) (bytes : List ℕ) (before now : Option (List ℕ)) → now ≡ after_adding before bytes → WritesUpTo whole bytes before now
whole_front true bytes before now e = e
whole_front false bytes before now e = (length bytes, omega arith, e ∙ ap (after_adding before) (sym (take-length bytes)))

-- what was recorded was written up to any end
pub recorded_up_to : (A B : Type 0) (ran : A → B → Origin → List Turn → Type 0) (c : A) (w : B) (origin : Origin) (keeps : Keeps) (whole : Bool) (from now : Option (List ℕ)) (ds : List Deed)
    → Recorded (ran c w origin) keeps from now ds → WroteUpTo (Some_ran A B ran origin) keeps whole from now
recorded_up_to A B ran c w origin keeps whole from now ds r = record {
  deeds = ds;
  did = (c, w, r.did);
  wrote = whole_front whole (deeds_written keeps ds) from now r.written;
}

-- nothing was carried out, and nothing written
pub cut_none : (A B : Type 0) (ran : A → B → Origin → List Turn → Type 0) (c : A) (w : B) (keeps : Keeps) (old now : Option (List ℕ)) (end : End) → now ≡ old
    → CutsShort (ran c w) (Some_ran A B ran) keeps old now end
cut_none A B ran c w keeps old now end e = λ origin from ds r.
    recorded_up_to A B ran c w origin keeps (is_whole end) from now ds (record { did = r.did; written = e ∙ r.written })

-- one more event was carried out, and what is kept of it was written up to here
front_more : (from old now : Option (List ℕ)) (bytes more : List ℕ) → old ≡ after_adding from bytes → IsCut old now more → IsFrontOf (bytes ++ more) from now
front_more from old now bytes more e cut =
    let same : take (length bytes + cut.0) (bytes ++ more) ≡ bytes ++ take cut.0 more = take-append-add bytes more cut.0 in
    let long : length (bytes ++ more) ≡ length bytes + length more = length-append bytes more in (
      length bytes + cut.0,
      omega (arith, cut.1, long),
      cut.2 ∙ ap (λ (told : Option (List ℕ)). after_adding told (take cut.0 more)) e ∙ adding_twice from bytes (take cut.0 more) ∙ ap (after_adding from) (sym same),
    )

kept_more : (keeps : Keeps) (ds : List Deed) (event : Event) (outs : List Out) → deeds_written keeps ds ++ kept_of keeps event outs ≡ deeds_written keeps (ds ++ Turned event outs ∷ [])
kept_more keeps ds event outs = ap (λ (xs : List ℕ). deeds_written keeps ds ++ xs) (sym (one_written keeps event outs)) ∙ sym (written_append keeps ds (Turned event outs ∷ []))

-- an event was carried out, and a front of what is kept of it was written
pub cut_written : (A B : Type 0) (ran : A → B → Origin → List Turn → Type 0) (c0 c1 : A) (w0 w1 : B) (keeps : Keeps) (old now : Option (List ℕ)) (event : Event) (outs : List Out)
    → ((origin : Origin) (turns : List Turn) → ran c0 w0 origin turns → ran c1 w1 origin (turns ++ (event, outs) ∷ [])) → IsCut old now (kept_of keeps event outs)
    → CutsShort (ran c0 w0) (Some_ran A B ran) keeps old now Output
cut_written A B ran c0 c1 w0 w1 keeps old now event outs turn cut = λ origin from ds r. record {
  deeds = ds ++ Turned event outs ∷ [];
  did = (c1, w1, subst (ran c1 w1 origin) (sym (turns_append ds (Turned event outs ∷ []))) (turn origin (turns_of ds) r.did));
  wrote = subst (λ (xs : List ℕ). IsFrontOf xs from now) (kept_more keeps ds event outs) (front_more from old now (deeds_written keeps ds) (kept_of keeps event outs) r.written cut);
}

-- an event was carried out and written, and it ended behind that
pub cut_behind : (A B : Type 0) (ran : A → B → Origin → List Turn → Type 0) (c0 c1 : A) (w0 w1 : B) (keeps : Keeps) (old now : Option (List ℕ)) (event : Event) (outs : List Out) (end : End)
    → ((origin : Origin) (turns : List Turn) → ran c0 w0 origin turns → ran c1 w1 origin (turns ++ (event, outs) ∷ [])) → now ≡ after_adding old (kept_of keeps event outs)
    → CutsShort (ran c0 w0) (Some_ran A B ran) keeps old now end
cut_behind A B ran c0 c1 w0 w1 keeps old now event outs end turn wrote = λ origin from ds r.
    recorded_up_to A B ran c1 w1 origin keeps (is_whole end) from now (ds ++ Turned event outs ∷ [])
    (recorded_more (ran c0 w0 origin) (ran c1 w1 origin) keeps from old now event outs ds (λ turns did. turn origin turns did) wrote r)

-- one part was gone through, and the next was cut short
pub cut_then : (ran0 ran1 ran2 : Origin → List Turn → Type 0) (keeps : Keeps) (w0 w1 w2 : Option (List ℕ)) (end : End)
    → ((origin : Origin) (from : Option (List ℕ)) → (deeds : List Deed) × RanOn (Recorded (ran0 origin) keeps from w0) (Recorded (ran1 origin) keeps from w1) deeds)
    → CutsShort ran1 ran2 keeps w1 w2 end → CutsShort ran0 ran2 keeps w0 w2 end
cut_then ran0 ran1 ran2 keeps w0 w1 w2 end first rest = λ origin from ds r.
    let did = first origin from in
    rest origin from (ds ++ did.0) (did.1 ds r)

pub cut_keeps : (ran0 ran1 : Origin → List Turn → Type 0) (k0 k1 : Keeps) (old now : Option (List ℕ)) (end : End) → k1 ≡ k0 → CutsShort ran0 ran1 k1 old now end → CutsShort ran0 ran1 k0 old now end
cut_keeps ran0 ran1 k0 k1 old now end e h = subst (λ (k : Keeps). CutsShort ran0 ran1 k old now end) e h

-- what holds of an end holds of an answer that is one
pub err_then : {X E : Type 0} (r : Result X E) (P Q : E → Type 0) → ((e : E) → P e → Q e) → IfErr r P → IfErr r Q
err_then (Ok x) P Q f p = p
err_then (Err e) P Q f p = f e p

-- what holds where a call is Err, and it is
pub err_is : {X E : Type 0} (r : Result X E) (P : Type 0) → is_err r ≡ true → OnErr r P → P
err_is (Ok x) P e p = cc
err_is (Err x) P e p = p
