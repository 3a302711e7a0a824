-- The names of the simul efuns.
use Rattle.std.proofs.Common.{◌≡◌, ◌∙◌, ◌||◌, ◌+◌, ◌<◌, ◌++◌, arith, drop, drop-cons, get_or, length, ℕ, zero, suc, Bool, true, false, List, [], ◌∷◌, Option, Some, None, Result, Ok, Err, IfOk, refl, ap, sym, subst, map, reverse, filter, slice_get, append_assoc, if◌then◌else◌}
use Rattle.std.specs.Prelude.{is_some}
use Rattle.std.proofs.lemmas.List.{append-nil, map-append, reverse-append}
use Rattle.std.proofs.lemmas.List.Folds.{list_any-append}
use mathlib.Core.Path.{fun_ext}
use Rattle.std.specs.List.{list_any}
use Rattle.std.proofs.lemmas.List.Elements.{filter-append}
use Rattle.lp_values.specs.declared.id.ObjId.{ObjId}
use Rattle.lp_values.specs.declared.id.ProgId.{ProgId}
use Rattle.lp_code.specs.declared.program.RawProgram.{RawProgram}
use Rattle.lp_instr.specs.EfunList.{is_name}
use Rattle.lp_swapfile.specs.Device.{Bytes}
use Rattle.lp_inherit.specs.Heirs.{table}
use Rattle.lp_language.specs.Course as course
use Rattle.lp_language.specs.World.{World, object_named, version_at}
use Rattle.lp_language.specs.Resolve.{Heir, Heritage, callable_found, callable_names, each_heritage, heritage, heritage_of, heritage_within, names_before, names_in, own_names, resolve, version_of}
use Rattle.lp_meaning.specs.FileLoads.{is_under_way, simul_names}
use Rattle.lp_part_laws.specs.Versions.{heritage_in}
use Rattle.lp_part_laws.proofs.Trees.{version_settled}
use Rattle.lp_world.proofs.BareWorlds.{heritage_same}
use Rattle.lp_world.specs.declared.live.Live.{Live}
use Rattle.lp_asking.specs.Asking.{loading_of}
use Rattle.lp_asking.specs.declared.asker.Loading.{Loading}
use Rattle.lp_targets.specs.Callees.{IsWorldOf}
use Rattle.lp_loading.specs.Loads.{loads_of}
use Rattle.lp_loading.specs.Rows.{NamesAreOwn, OpenIsCallable, function_names, is_open, open_names}
use Rattle.lp_loading.specs.Simuls.{names_seen, open_before, open_in, seen_simul}

-- what an answer says says more
pub if_ok : {A E : Type 0} (r : Result A E) (P Q : A → Type 0) → ((x : A) → P x → Q x) → IfOk r P → IfOk r Q
if_ok (Ok x) P Q f h = f x h
if_ok (Err e) P Q f h = tt

-- Trees

tree_parents : (h : Heritage) → (table h).parents ≡ (version_of h).parents
tree_parents (Heir n v ps) = refl

pub parents_are : (told : Option Bytes) (programs : List RawProgram) (live : Live) (w : World) (v : ProgId) (code : RawProgram) → IsWorldOf told programs live w → slice_get programs v.0 ≡ Some code
    → (version_at w v).parents ≡ code.tables.parents
parents_are told programs live w v code h e =
    let fits = h.compiled.fit v.0 code e in
    ap (λ x. x.parents) (sym (version_settled w.versions v)) ∙ sym (tree_parents (heritage_in w.versions v)) ∙ ap (λ t. t.parents) fits.own.own

names_are : NamesAreOwn → (told : Option Bytes) (programs : List RawProgram) (live : Live) (w : World) (v : ProgId) (code : RawProgram) → IsWorldOf told programs live w → slice_get programs v.0 ≡ Some code
    → function_names code ≡ own_names (version_at w v).items
names_are law told programs live w v code h e = law (heritage_in w.versions v) code (h.compiled.fit v.0 code e) ∙ ap (λ x. own_names x.items) (version_settled w.versions v)

-- a version alone
pub tree_alone : NamesAreOwn → (told : Option Bytes) (programs : List RawProgram) (live : Live) (w : World) (v : ProgId) (whole code : RawProgram) (names0 names1 : List (List ℕ)) → IsWorldOf told programs live w → slice_get programs v.0 ≡ Some code
    → names1 ≡ names0 ++ open_names whole code → names1 ≡ names0 ++ open_in whole (heritage_within zero w v)
tree_alone law told programs live w v whole code names0 names1 h i e =
    e ∙ ap (λ ns. names0 ++ filter (is_open whole) ns) (names_are law told programs live w v code h i ∙ sym (append-nil (own_names (version_at w v).items)))

-- a version, before its parents
pub tree_begins : NamesAreOwn → (told : Option Bytes) (programs : List RawProgram) (live : Live) (w : World) (v : ProgId) (whole code : RawProgram) (n : ℕ) (names0 names1 : List (List ℕ)) → IsWorldOf told programs live w
    → slice_get programs v.0 ≡ Some code → names1 ≡ names0 ++ open_names whole code
    → names1 ++ open_before whole (each_heritage (heritage_within n w) code.tables.parents) ≡ names0 ++ open_in whole (heritage_within (suc n) w v)
tree_begins law told programs live w v whole code n names0 names1 h i e =
    let f : List (List ℕ) → List (List ℕ) = filter (is_open whole) in
    let own : List (List ℕ) = own_names (version_at w v).items in
    let ps : List ProgId = code.tables.parents in
    let below : List (List ℕ) = names_before (each_heritage (heritage_within n w) ps) in
    ap (λ ns. ns ++ f below) (e ∙ ap (λ ns. names0 ++ f ns) (names_are law told programs live w v code h i))
    ∙ append_assoc names0 (f own) (f below)
    ∙ ap (λ ns. names0 ++ ns) (sym (filter-append (is_open whole) own below))
    ∙ ap (λ qs. names0 ++ f (own ++ names_before (each_heritage (heritage_within n w) qs))) (sym (parents_are told programs live w v code h i))

-- one parent more
pub tree_goes : (w : World) (whole : RawProgram) (n : ℕ) (p : ProgId) (ps : List ProgId) (names0 names1 all : List (List ℕ)) → names1 ≡ names0 ++ open_in whole (heritage_within n w p)
    → names0 ++ open_before whole (each_heritage (heritage_within n w) (p ∷ ps)) ≡ all → names1 ++ open_before whole (each_heritage (heritage_within n w) ps) ≡ all
tree_goes w whole n p ps names0 names1 all e a =
    let f : List (List ℕ) → List (List ℕ) = filter (is_open whole) in
    let here : List (List ℕ) = names_in (heritage_within n w p) in
    let below : List (List ℕ) = names_before (each_heritage (heritage_within n w) ps) in
    ap (λ ns. ns ++ f below) e ∙ append_assoc names0 (f here) (f below) ∙ ap (λ ns. names0 ++ ns) (sym (filter-append (is_open whole) here below)) ∙ a

-- the next of several
pub item_drop : (xs : List ProgId) (i : ℕ) (d : ProgId) → i < length xs → drop i xs ≡ get_or xs i d ∷ drop (i + 1) xs
item_drop xs i d l = let n : suc i ≡ i + 1 = omega arith in drop-cons xs i d l ∙ ap (λ k. get_or xs i d ∷ drop k xs) n

-- all of them
pub all_open : OpenIsCallable → (told : Option Bytes) (programs : List RawProgram) (live : Live) (w : World) (v : ProgId) (whole : RawProgram) → IsWorldOf told programs live w → slice_get programs v.0 ≡ Some whole
    → open_in whole (heritage w v) ≡ callable_names (heritage w v)
all_open law told programs live w v whole h e =
    ap (λ p. filter p (names_in (heritage w v)))
    (fun_ext (λ n. subst (λ t. is_open whole n ≡ is_some (callable_found false (resolve t n))) (sym (heritage_same w v)) (law (heritage_in w.versions v) whole n (h.compiled.fit v.0 whole e))))

-- What is seen

-- a load among others
pub first_load : (name : List ℕ) (l : Loading) (ls : List Loading) → is_under_way name (loads_of (l ∷ ls)) ≡ (is_under_way name (loads_of ls) || is_name l.name name)
first_load name l ls =
    let p : course.Loading → Bool = λ x. is_name x.name name in
    ap (λ xs. list_any p (map loading_of xs)) (reverse-append (l ∷ []) ls)
    ∙ ap (list_any p) (map-append loading_of (reverse ls) (l ∷ []))
    ∙ list_any-append p (map loading_of (reverse ls)) (loading_of l ∷ [])
    ∙ ap (λ b. list_any p (map loading_of (reverse ls)) || b) (or_none (is_name l.name name))
  where
    or_none : (b : Bool) → (b || false) ≡ b
    or_none true = refl
    or_none false = refl

-- the load that is looked for, or one of the others
pub is_first : (name : List ℕ) (l : Loading) (ls : List Loading) → is_name l.name name ≡ true → true ≡ is_under_way name (loads_of (l ∷ ls))
is_first name l ls e = sym (first_load name l ls ∙ ap (λ b. is_under_way name (loads_of ls) || b) e ∙ or_true (is_under_way name (loads_of ls)))
  where
    or_true : (b : Bool) → (b || true) ≡ true
    or_true true = refl
    or_true false = refl

pub is_other : (name : List ℕ) (l : Loading) (ls : List Loading) (r : Bool) → is_name l.name name ≡ false → r ≡ is_under_way name (loads_of ls) → r ≡ is_under_way name (loads_of (l ∷ ls))
is_other name l ls r e q = q ∙ sym (first_load name l ls ∙ ap (λ b. is_under_way name (loads_of ls) || b) e ∙ or_none (is_under_way name (loads_of ls)))
  where
    or_none : (b : Bool) → (b || false) ≡ b
    or_none true = refl
    or_none false = refl

pub seen_is : (w : World) (name : List ℕ) (loads : List course.Loading) (b : Bool) → w.simul ≡ Some name → is_under_way name loads ≡ b → seen_simul w loads ≡ (if b then None else object_named w name)
seen_is w name loads b e q = ap (λ o. elim o [ Some n ↦ if is_under_way n loads then None else object_named w n | None ↦ None ]) e ∙ ap (λ c. if c then None else object_named w name) q

pub seen_none : (w : World) (loads : List course.Loading) → w.simul ≡ None → seen_simul w loads ≡ None
seen_none w loads e = ap (λ o. elim o [ Some n ↦ if is_under_way n loads then None else object_named w n | None ↦ None ]) e

-- what is seen has a name
pub seen_named : (w : World) (loads : List course.Loading) (o : ObjId) → seen_simul w loads ≡ Some o → (n : List ℕ) × (object_named w n ≡ Some o)
seen_named w loads o e = by w.simul e
  where
    at : (n : List ℕ) (b : Bool) → (if b then None else object_named w n) ≡ Some o → (m : List ℕ) × (object_named w m ≡ Some o)
    at n true e = absurd cc
    at n false e = (n, e)

    by : (s : Option (List ℕ)) → (elim s [ Some n ↦ if is_under_way n loads then None else object_named w n | None ↦ None ]) ≡ Some o → (n : List ℕ) × (object_named w n ≡ Some o)
    by None e = absurd cc
    by (Some n) e = at n (is_under_way n loads) e

pub names_are_seen : (w : World) (loads : List course.Loading) → names_seen w (seen_simul w loads) ≡ simul_names w loads
names_are_seen w loads = by w.simul
  where
    found : (o : Option ObjId) → names_seen w o ≡ elim o [ Some x ↦ callable_names (heritage_of w x) | None ↦ [] ]
    found None = refl
    found (Some x) = refl

    at : (n : List ℕ) (b : Bool) → names_seen w (if b then None else object_named w n) ≡ (if b then [] else elim (object_named w n) [ Some x ↦ callable_names (heritage_of w x) | None ↦ [] ])
    at n true = refl
    at n false = found (object_named w n)

    by : (s : Option (List ℕ)) → names_seen w (elim s [ Some n ↦ if is_under_way n loads then None else object_named w n | None ↦ None ])
        ≡ elim s [ Some n ↦ if is_under_way n loads then [] else elim (object_named w n) [ Some x ↦ callable_names (heritage_of w x) | None ↦ [] ] | None ↦ [] ]
    by None = refl
    by (Some n) = at n (is_under_way n loads)
