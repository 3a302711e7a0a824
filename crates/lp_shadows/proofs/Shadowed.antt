-- An object begins to shadow another one, in the state and in the world.
use Rattle.std.proofs.Common.{◌≡◌, ◌∙◌, Bool, true, false, not, ◌&&◌, is_some, List, Option, Some, None, Result, Ok, Err, refl, ap, sym}
use Rattle.std.specs.Prelude.{is_ok}
use Rattle.lp_values.specs.declared.id.ObjId.{ObjId}
use Rattle.lp_places.specs.declared.fault.ShadowNo.{ShadowNo as ShadowFault}
use Rattle.lp_code.specs.declared.program.RawProgram.{RawProgram}
use Rattle.lp_swapfile.specs.Device.{Bytes}
use Rattle.lp_language.specs.World.{World, is_live}
use Rattle.lp_meaning.specs.CallingEfuns.{may_begin, with_shadow}
use Rattle.lp_places.specs.Places.{Lying, Shadowing, may_shadow, shadowed}
use Rattle.lp_places.specs.Stands as places
use Rattle.lp_places.specs.declared.places.Places.{Places}
use Rattle.lp_world.specs.Rows.{live_in}
use Rattle.lp_world.specs.Stands.{Stands}
use Rattle.lp_world.specs.declared.live.Live.{Live}
use Rattle.lp_world.proofs.Keeping.{live_same}

-- both are live in the one where they are in the other
lives_same : (told : Option Bytes) (programs : List RawProgram) (live : Live) (w : World) (this victim : ObjId) → Stands told programs live w
    → (live_in live.objects this && live_in live.objects victim) ≡ (is_live w this && is_live w victim)
lives_same told programs live w this victim h = ap (λ l. l this && l victim) (live_same told programs live w h)

pub begin_same : (told : Option Bytes) (programs : List RawProgram) (live : Live) (w : World) (this victim : ObjId) (lives may : Bool) → lives ≡ (live_in live.objects this && live_in live.objects victim)
    → ((ps : List Lying) (ss : List Shadowing) → places.Stands live.places ps ss → may ≡ not (is_some (may_shadow ps ss this victim))) → Stands told programs live w → (lives && may) ≡ may_begin w this victim
begin_same told programs live w this victim lives may l m h =
    ap (λ b. b && may) (l ∙ lives_same told programs live w this victim h) ∙ ap (λ b. is_live w this && is_live w victim && b) (m w.places w.shadows h.rest.places)

-- the state stands where the chains are others
pub stands_shadows : (told : Option Bytes) (programs : List RawProgram) (live : Live) (w : World) (p : Places) (ss : List Shadowing) → places.Stands p w.places ss → Stands told programs live w
    → Stands told programs (record live { places = p }) (record w { shadows = ss })
stands_shadows told programs live w p ss e h = record {
  cells = h.cells;
  objects = h.objects;
  names = h.names;
  versions = h.versions;
  kept = h.kept;
  rest = record {
    files = h.rest.files;
    simul = h.rest.simul;
    places = e;
    sentences = h.rest.sentences;
    next_sentence = h.rest.next_sentence;
    timing = h.rest.timing;
    connections = h.rest.connections;
    highest = h.rest.highest;
    present = h.rest.present;
    waiting = h.rest.waiting;
    clock = h.rest.clock;
    generator = h.rest.generator;
    next_clone = h.rest.next_clone;
  };
}

-- nothing forbids it
none_forbids : {A : Type 0} (o : Option A) → true ≡ not (is_some o) → o ≡ None
none_forbids None e = refl
none_forbids (Some x) e = cc

pub allowed : (p : Places) (this victim : ObjId) (may : Bool) → ((ps : List Lying) (ss : List Shadowing) → places.Stands p ps ss → may ≡ not (is_some (may_shadow ps ss this victim))) → may ≡ true
    → (ps : List Lying) (ss : List Shadowing) → places.Stands p ps ss → may_shadow ps ss this victim ≡ None
allowed p this victim may m e ps ss h = none_forbids (may_shadow ps ss this victim) (sym e ∙ m ps ss h)

pub shadow_begins : (live : Live) (p : Places) (this victim : ObjId) (lives may : Bool) → lives ≡ (live_in live.objects this && live_in live.objects victim) → lives ≡ true
    → ((ps : List Lying) (ss : List Shadowing) → places.Stands live.places ps ss → may ≡ not (is_some (may_shadow ps ss this victim))) → may ≡ true
    → ((ps : List Lying) (ss : List Shadowing) → places.Stands live.places ps ss → may_shadow ps ss this victim ≡ None → places.Stands p ps (shadowed ss this victim))
    → (told : Option Bytes) (programs : List RawProgram) (w : World) → Stands told programs live w → (true ≡ may_begin w this victim) × Stands told programs (record live { places = p }) (with_shadow w this victim)
shadow_begins live p this victim lives may l lt m mt put told programs w h = (
  ap (λ b. b && true) (sym lt) ∙ ap (λ b. lives && b) (sym mt) ∙ begin_same told programs live w this victim lives may l m h,
  stands_shadows told programs live w p (shadowed w.shadows this victim) (put w.places w.shadows h.rest.places (allowed live.places this victim may m mt w.places w.shadows h.rest.places)) h,
)

-- or it may not
not_lives : (a b : Bool) → a ≡ false → false ≡ (a && b)
not_lives true b e = cc
not_lives false b e = refl

not_may : (a b : Bool) → b ≡ false → false ≡ (a && b)
not_may true b e = sym e
not_may false b e = refl

pub dead_begins : (live : Live) (this victim : ObjId) (lives : Bool) → lives ≡ (live_in live.objects this && live_in live.objects victim) → lives ≡ false
    → (told : Option Bytes) (programs : List RawProgram) (w : World) → Stands told programs live w → (false ≡ may_begin w this victim) × Stands told programs live w
dead_begins live this victim lives l e told programs w h =
    (not_lives (is_live w this && is_live w victim) (not (is_some (may_shadow w.places w.shadows this victim))) (sym (lives_same told programs live w this victim h) ∙ sym l ∙ e), h)

pub forbidden_begins : (live : Live) (this victim : ObjId) (may : Bool) → ((ps : List Lying) (ss : List Shadowing) → places.Stands live.places ps ss → may ≡ not (is_some (may_shadow ps ss this victim))) → may ≡ false
    → (told : Option Bytes) (programs : List RawProgram) (w : World) → Stands told programs live w → (false ≡ may_begin w this victim) × Stands told programs live w
forbidden_begins live this victim may m e told programs w h =
    (not_may (is_live w this && is_live w victim) (not (is_some (may_shadow w.places w.shadows this victim))) (sym (m w.places w.shadows h.rest.places) ∙ e), h)

-- an answer without a reason allows it
pub ok_allows : (r : Result (Unit {0}) ShadowFault) → is_ok r ≡ not (is_some (places.answered r))
ok_allows (Ok x) = refl
ok_allows (Err e) = refl

-- both live
pub both_live : (lives a b : Bool) → lives ≡ (a && b) → lives ≡ true → (a ≡ true) × (b ≡ true)
both_live lives a b e h = parts a b (sym e ∙ h)
  where
    parts : (a b : Bool) → (a && b) ≡ true → (a ≡ true) × (b ≡ true)
    parts true true q = (refl, refl)
    parts true false q = cc
    parts false b q = cc

differ : false ≡ true → ⊥
differ q = cc

pub impossible : {A : Type 0} → false ≡ true → A
impossible q = absurd (differ q)
