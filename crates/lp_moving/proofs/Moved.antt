-- What the state stands for after a move.
use Rattle.std.proofs.Common.{◌≡◌, ◌∷◌, ◌++◌, [], ◌∙◌, ℕ, Bool, true, false, not, ◌&&◌, List, Option, Some, None, map, refl, slice_get, sym, ap, inl, inr, unwrap_or}
use Rattle.std.proofs.lemmas.Bool.{and_parts, cases_Bool, cond-true, cond-false, eq-eqb, true≢false}
use Rattle.lp_values.specs.declared.id.ObjId.{ObjId}
use Rattle.lp_actions.specs.Actions.{kept_in_reach}
use Rattle.lp_actions.specs.Held.{Lists, next_in}
use Rattle.lp_actions.specs.declared.actions.Actions.{Actions}
use Rattle.lp_code.specs.declared.program.RawProgram.{RawProgram}
use Rattle.lp_cells.specs.Cells.{Store}
use Rattle.lp_language.specs.World as world
use Rattle.lp_language.specs.World.{World, is_live, no_object}
use Rattle.lp_meaning.specs.MovesAndCommands.{is_living, may_init, moved_world}
use Rattle.lp_places.specs.Places.{MoveNo, Lying, environment, inits_between, inits_of_move, inventory, is_at, is_object, moved, without_item}
use Rattle.lp_places.specs.Stands as places
use Rattle.lp_places.specs.declared.fault.PlaceFault.{PlaceFault}
use Rattle.lp_places.specs.declared.fault.PlaceFault.TheVariants as fault
use Rattle.lp_places.specs.declared.places.Places.{Places}
use Rattle.lp_swapfile.specs.Device.{Bytes}
use Rattle.lp_world.specs.Closed.{ArePlaced, IsClosed}
use Rattle.lp_world.specs.Rows.{live_in, row_at}
use Rattle.lp_world.specs.Stands.{ObjectIs, Stands}
use Rattle.lp_world.specs.declared.live.Live.{Live}
use Rattle.lp_world.specs.declared.objects.Object.{Object}
use Rattle.lp_world.proofs.Keeping.{live_same}
use Rattle.lp_moving.specs.Moving.{IsRefused, calls_among, fault_of, is_living_row, is_made, others_in}

-- Lists

pub others-append : (item : ObjId) (xs ys : List ObjId) → others_in item (xs ++ ys) ≡ others_in item xs ++ others_in item ys
others-append item [] ys = refl
others-append item (x ∷ xs) ys = elim (cases_Bool (not (is_object x item))) [
  | inl y ↦ cond-true _ _ _ y ∙ ap (λ os. x ∷ os) (others-append item xs ys) ∙ sym (ap (λ os. os ++ others_in item ys) (cond-true _ _ _ y))
  | inr n ↦ cond-false _ _ _ n ∙ others-append item xs ys ∙ sym (ap (λ os. os ++ others_in item ys) (cond-false _ _ _ n))
]

pub between-append : (item : ObjId) (xs ys : List ObjId) → inits_between item (xs ++ ys) ≡ inits_between item xs ++ inits_between item ys
between-append item [] ys = refl
between-append item (x ∷ xs) ys = ap (λ is. record { of = item; player = x } ∷ record { of = x; player = item } ∷ is) (between-append item xs ys)

-- one after another
pub between_more : (item o : ObjId) (os : List ObjId) → inits_between item (others_in item (o ∷ os)) ≡ inits_between item (others_in item (o ∷ [])) ++ inits_between item (others_in item os)
between_more item o os = ap (inits_between item) (others-append item (o ∷ []) os) ∙ between-append item (others_in item (o ∷ [])) (others_in item os)

-- The others in the destination are those that were there before the move.
filter_twice : (item : ObjId) (xs : List ObjId) → others_in item (others_in item xs) ≡ others_in item xs
filter_twice item [] = refl
filter_twice item (x ∷ xs) = elim (cases_Bool (not (is_object x item))) [
  | inl y ↦ ap (others_in item) (cond-true _ _ _ y) ∙ cond-true _ _ _ y ∙ ap (λ os. x ∷ os) (filter_twice item xs) ∙ sym (cond-true _ _ _ y)
  | inr n ↦ ap (others_in item) (cond-false _ _ _ n) ∙ filter_twice item xs ∙ sym (cond-false _ _ _ n)
]

without_others : (places : List Lying) (item dest : ObjId) → others_in item (inventory (without_item places item) dest) ≡ others_in item (inventory places dest)
without_others [] item dest = refl
without_others (l ∷ ls) item dest = elim (cases_Bool (not (is_object l.item item))) [
  | inl y ↦ ap (λ ps. others_in item (inventory ps dest)) (cond-true _ _ _ y) ∙ elim (cases_Bool (is_object l.place dest)) [
    | inl p ↦ ap (λ ps. others_in item (map (λ (q : Lying). q.item) ps)) (cond-true _ _ _ p) ∙ cond-true _ _ _ y ∙ ap (λ os. l.item ∷ os) (without_others ls item dest)
        ∙ sym (ap (λ ps. others_in item (map (λ (q : Lying). q.item) ps)) (cond-true _ _ _ p) ∙ cond-true _ _ _ y)
    | inr p ↦ ap (λ ps. others_in item (map (λ (q : Lying). q.item) ps)) (cond-false _ _ _ p) ∙ without_others ls item dest
        ∙ sym (ap (λ ps. others_in item (map (λ (q : Lying). q.item) ps)) (cond-false _ _ _ p))
  ]
  | inr n ↦ ap (λ ps. others_in item (inventory ps dest)) (cond-false _ _ _ n) ∙ without_others ls item dest ∙ elim (cases_Bool (is_object l.place dest)) [
    | inl p ↦ sym (ap (λ ps. others_in item (map (λ (q : Lying). q.item) ps)) (cond-true _ _ _ p) ∙ cond-false _ _ _ n)
    | inr p ↦ sym (ap (λ ps. others_in item (map (λ (q : Lying). q.item) ps)) (cond-false _ _ _ p))
  ]
]

same_others : (places : List Lying) (item dest : ObjId) → others_in item (inventory (moved places item dest) dest) ≡ others_in item (inventory places dest)
same_others places item dest =
    ap (λ ps. others_in item (map (λ (q : Lying). q.item) ps)) (cond-true _ _ _ (eq-eqb dest.0 dest.0 refl))
    ∙ cond-false _ _ _ (ap not (eq-eqb item.0 item.0 refl)) ∙ without_others places item dest

pub calls_same : (places : List Lying) (item dest : ObjId) → calls_among item dest (inventory places dest) ≡ inits_of_move (moved places item dest) item dest
calls_same places item dest = ap (λ os. record { of = dest; player = item } ∷ inits_between item os ++ record { of = item; player = dest } ∷ []) (sym (same_others places item dest))

-- Refusals

pub refused_same : (e : PlaceFault) (r : Option MoveNo) → r ≡ places.move_reason e → IsRefused (fault_of e) r
refused_same fault.IsShadow r h = h
refused_same fault.WouldContainItself r h = h
refused_same fault.NoMemory r h = tt

-- States

pub stands_moved : (told : Option Bytes) (programs : List RawProgram) (live : Live) (w : World) (item dest : ObjId) (p : Places) (a : Actions)
    → places.Stands p (moved w.places item dest) w.shadows → Lists a (kept_in_reach (moved w.places item dest) w.sentences) → next_in a ≡ next_in live.actions
    → Stands told programs live w → Stands told programs (record live { places = p; actions = a }) (moved_world w item dest)
stands_moved told programs live w item dest p a put kept next h = record {
  cells = h.cells;
  objects = h.objects;
  names = h.names;
  versions = h.versions;
  kept = h.kept;
  rest = record {
    files = h.rest.files;
    simul = h.rest.simul;
    places = put;
    sentences = kept;
    next_sentence = next ∙ h.rest.next_sentence;
    timing = h.rest.timing;
    connections = h.rest.connections;
    highest = h.rest.highest;
    present = h.rest.present;
    waiting = h.rest.waiting;
    clock = h.rest.clock;
    generator = h.rest.generator;
    next_clone = h.rest.next_clone;
  };
}

pub stands_placed : (told : Option Bytes) (programs : List RawProgram) (live : Live) (w : World) (p : Places) → places.Stands p w.places w.shadows → Stands told programs live w → Stands told programs (record live { places = p }) w
stands_placed told programs live w p put h = record {
  cells = h.cells;
  objects = h.objects;
  names = h.names;
  versions = h.versions;
  kept = h.kept;
  rest = record {
    files = h.rest.files;
    simul = h.rest.simul;
    places = put;
    sentences = h.rest.sentences;
    next_sentence = h.rest.next_sentence;
    timing = h.rest.timing;
    connections = h.rest.connections;
    highest = h.rest.highest;
    present = h.rest.present;
    waiting = h.rest.waiting;
    clock = h.rest.clock;
    generator = h.rest.generator;
    next_clone = h.rest.next_clone;
  };
}

pub closed_moved : (live : Live) (p : Places) (a : Actions) → IsClosed live → ArePlaced p → IsClosed (record live { places = p; actions = a })
closed_moved live p a h placed = record {
  clock = h.clock;
  cells = h.cells;
  objects = h.objects;
  apart = h.apart;
  versions = h.versions;
  call_outs = h.call_outs;
  waiting = h.waiting;
  placed = placed;
  numbered = h.numbered;
  room = h.room;
}

-- Calls of `init`

-- whether an object is living
living_row : (told : Option Bytes) (part whole : Store) (n : ℕ) (row : Option (Option Object)) (x : Option world.Object) → ObjectIs told part whole n row x → (unwrap_or x no_object).is_live ≡ true
    → is_living_row (unwrap_or row None) ≡ (unwrap_or x no_object).is_living
living_row told part whole n None None h l = refl
living_row told part whole n None (Some x) h l = absurd h
living_row told part whole n (Some o) None h l = absurd h
living_row told part whole n (Some None) (Some x) h l = absurd (true≢false (sym l ∙ h))
living_row told part whole n (Some (Some o)) (Some x) h l = h.living

-- whether one that is live is
both_same : (x a b c d : Bool) → a ≡ c → (c ≡ true → b ≡ d) → (x && a && b) ≡ (x && c && d)
both_same x a b true d e f = ap (λ y. x && y && b) e ∙ ap (λ y. x && true && y) (f refl)
both_same x a b false d e f = ap (λ y. x && y && b) e ∙ none x b d
  where
    none : (x b d : Bool) → (x && false && b) ≡ (x && false && d)
    none true b d = refl
    none false b d = refl

pub made_same : (told : Option Bytes) (programs : List RawProgram) (live : Live) (w : World) (item dest of player : ObjId) → Stands told programs live w
    → is_made (environment w.places item) live.objects item dest of player ≡ may_init w item dest (record { of = of; player = player })
made_same told programs live w item dest of player h =
    let same : live_in live.objects ≡ is_live w = live_same told programs live w h in
    ap (λ l. is_at (environment w.places item) dest && l item && l dest && l of && l player && is_living_row (row_at live.objects player.0)) same
    ∙ both_same (is_at (environment w.places item) dest && is_live w item && is_live w dest && is_live w of) (is_live w player) (is_living_row (row_at live.objects player.0)) (is_live w player) (is_living w player) refl
    (living_row told live.cells w.cells player.0 (slice_get live.objects player.0) (slice_get w.objects player.0) (h.objects player.0))

-- where it is made the object that is called is live
pub made_lives : (place : Option ObjId) (objects : List (Option Object)) (item dest of player : ObjId) → is_made place objects item dest of player ≡ true → live_in objects of ≡ true
made_lives place objects item dest of player e =
    let a = and_parts (is_at place dest && live_in objects item && live_in objects dest && live_in objects of && live_in objects player) (is_living_row (row_at objects player.0)) e in
    let b = and_parts (is_at place dest && live_in objects item && live_in objects dest && live_in objects of) (live_in objects player) a.0 in
    (and_parts (is_at place dest && live_in objects item && live_in objects dest) (live_in objects of) b.0).1
