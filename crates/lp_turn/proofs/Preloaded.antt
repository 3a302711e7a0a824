-- What is preloaded: the texts among values.
use Rattle.std.proofs.Common.{◌≡◌, ◌∙◌, ◌++◌, ◌+◌, ◌<◌, ◌∷◌, [], ℕ, List, ap, refl, sym, codes, get_or, length, take, unwrap_or}
use Rattle.std.proofs.lemmas.List.{take_more}
use mathlib.Core.Path.{fun_ext}
use Rattle.lp_values.specs.declared.value.Value.{Value}
use Rattle.lp_values.specs.declared.value.Value.TheVariants.{Arr, Int, Map, Obj, Str}
use Rattle.lp_cells.specs.Cells.{IsThere, Store, as_items}
use Rattle.lp_language.specs.Course.{State, and_then}
use Rattle.lp_meaning.specs.EventTurns.{driver_master, items_in, preloading}
use Rattle.lp_world.specs.Stands.{IsPart}
use Rattle.lp_world.specs.declared.live.Live.{Live}
use Rattle.lp_world.proofs.Keeping.{items_same}
use Rattle.lp_turn.specs.Starting.{StartGoes}
use Rattle.lp_turn.specs.Starts.{as_values, start_going, texts_of}
use Rattle.lp_turn.specs.declared.start_job.StartGoing.TheVariants as goings
use Rattle.lp_turn.specs.declared.start_job.StartStep.{StartStep}
use Rattle.lp_turn.proofs.Initial.{starts_as}

-- values that are no texts are passed over
preloading_texts : (vs : List Value) (s : State) → preloading vs s ≡ preloading (as_values (texts_of vs)) s
preloading_texts [] s = refl
preloading_texts (Int n ∷ vs) s = preloading_texts vs s
preloading_texts (Str t ∷ vs) s = ap (λ k. and_then (driver_master (codes "preload") (Str t ∷ []) s) (λ d s. k s)) (fun_ext (λ s. preloading_texts vs s))
preloading_texts (Arr c ∷ vs) s = preloading_texts vs s
preloading_texts (Map c ∷ vs) s = preloading_texts vs s
preloading_texts (Obj o ∷ vs) s = preloading_texts vs s

texts_append : (a b : List Value) → texts_of (a ++ b) ≡ texts_of a ++ texts_of b
texts_append [] b = refl
texts_append (Int n ∷ a) b = texts_append a b
texts_append (Str t ∷ a) b = ap (λ l. t ∷ l) (texts_append a b)
texts_append (Arr c ∷ a) b = texts_append a b
texts_append (Map c ∷ a) b = texts_append a b
texts_append (Obj o ∷ a) b = texts_append a b

pub texts_next : (vs : List Value) (i : ℕ) (x : Value) (a b : List (List ℕ)) → i < length vs → x ≡ get_or vs i x → a ≡ texts_of (take i vs) → b ≡ a ++ texts_of (x ∷ []) → b ≡ texts_of (take (i + 1) vs)
texts_next vs i x a b lt e q r =
    r ∙ ap (λ l. l ++ texts_of (x ∷ [])) q ∙ sym (texts_append (take i vs) (x ∷ [])) ∙ ap texts_of (sym (take_more vs i x lt ∙ ap (λ y. take i vs ++ y ∷ []) (sym e)))

-- the items of an array that is there
items_in_both : (part whole : Store) (v : Value) → IsPart part whole → IsThere part v → items_in whole v ≡ items_in part v
items_in_both part whole (Int n) h i = refl
items_in_both part whole (Str t) h i = refl
items_in_both part whole (Arr c) h i = ap (λ o. unwrap_or (as_items o) []) (items_same part whole c h i)
items_in_both part whole (Map c) h i = refl
items_in_both part whole (Obj o) h i = refl

pub listed_as : (live : Live) (v : Value) (texts : List (List ℕ)) (r : StartStep) → IsThere live.cells v → texts ≡ texts_of (items_in live.cells v) → StartGoes r (goings.Preloading texts) live live → StartGoes r (goings.Listed v) live live
listed_as live v texts r i e =
    starts_as (start_going (goings.Preloading texts)) (start_going (goings.Listed v)) live live r
    (λ g programs before s h. preloading_texts (items_in s.world.cells v) s
    ∙ ap (λ vs. preloading (as_values (texts_of vs)) s) (items_in_both live.cells s.world.cells v h.world.stands.cells i)
    ∙ ap (λ ts. preloading (as_values ts) s) (sym e))
