-- Rows of a file's own functions.
use Rattle.std.proofs.Common.{◌≡◌, ◌∙◌, ◌&&◌, ◌||◌, ◌+◌, ◌-◌, ◌<◌, ◌++◌, ℕ, zero, suc, Bool, true, false, List, [], ◌∷◌, Option, Some, None, refl, ap, sym, subst, map, length, nat_eq, arith}
use Rattle.std.specs.Prelude.{is_some, slice_get, unwrap_or, if◌then◌else◌}
use Rattle.std.specs.List.{list_any}
use Rattle.std.proofs.lemmas.Bool.{eqb-true}
use Rattle.std.proofs.lemmas.Bool.Decides.{Decides-eqb}
use Rattle.lp_tree.specs.Units.{ItemTree, Inherit, Proto, Fun, Var}
use Rattle.lp_code.specs.declared.program.FunRow.{FunRow as CodeRow}
use Rattle.lp_code.specs.declared.program.RawProgram.{RawProgram}
use Rattle.lp_instr.specs.EfunList.{is_name}
use Rattle.lp_instr.specs.Code.{Code}
use Rattle.lp_isa.specs.Programs.{AreFuns, AreInit, IsReached, Reached, fun_from, fun_in, own_functions}
use Rattle.lp_language.specs.Resolve.{Found, Function, Heir, Heritage, Part, callable_found, has_initialiser, own_function, found_in, or_else, own_names, own_variables, parents_of, parents_parts, part_at, part_count, parts, parts_before, resolve, resolve_last, version_of}
use Rattle.lp_layout.proofs.RowLaid.{same_name}
use Rattle.lp_inherit.specs.Heirs.{tables}
use Rattle.lp_inherit.proofs.Meanings.{count_parts}
use Rattle.lp_layout.specs.Layout.{slot_named}
use Rattle.lp_plan_laws.specs.Tables.{AreOnce, IsNamedOnce}
use Rattle.lp_plan_laws.proofs.Fresh.{itself}
use Rattle.lp_part_laws.specs.Parts.{reached_in}
use Rattle.lp_part_laws.specs.Versions.{FitsVersion, program_of, row_of}
use Rattle.lp_part_laws.proofs.Lists.{one_value, past}
use Rattle.lp_part_laws.proofs.Places.{count_parents}
use Rattle.lp_part_laws.proofs.Rows.{fit_reached, function_at}
use Rattle.lp_part_laws.proofs.Texts.{own_named}
use Rattle.lp_targets.proofs.Wanting.{wanted_reached}
use Rattle.lp_targets.specs.Callees.{wanted_in}
use Rattle.lp_targets.specs.declared.wants.Want.TheVariants as wants
use Rattle.lp_loading.specs.Rows.{NamesAreOwn, OpenIsCallable, is_own_row, is_there, names_from, own_part}

-- The place of a function among those of its file, where each name is there once.

named_there : (fs : List Function) (k : ℕ) (f : Function) → slice_get fs k ≡ Some f → list_any (λ g. is_name g.name f.name) fs ≡ true
named_there [] k f e = absurd cc
named_there (g ∷ fs) zero f e = let same : g ≡ f = cc in subst (λ (x : Function). (is_name x.name f.name || list_any (λ y. is_name y.name f.name) fs) ≡ true) (sym same) (by (is_name f.name f.name) (itself f.name))
  where
    by : (b : Bool) → b ≡ true → (b || list_any (λ y. is_name y.name f.name) fs) ≡ true
    by true q = refl
    by false q = absurd cc
named_there (g ∷ fs) (suc k) f e = by (is_name g.name f.name) (named_there fs k f e)
  where
    by : (b : Bool) → list_any (λ y. is_name y.name f.name) fs ≡ true → (b || list_any (λ y. is_name y.name f.name) fs) ≡ true
    by true q = refl
    by false q = q

place_of : (n : ℕ) (fs : List Function) (k : ℕ) (f : Function) → AreOnce fs → slice_get fs k ≡ Some f → fun_from n fs f.name ≡ Some (n + k)
place_of n [] k f h e = absurd cc
place_of n (g ∷ fs) zero f h e =
    let same : g ≡ f = cc in
    let z : n ≡ n + 0 = omega arith in
    ap (λ b. if b then Some n else fun_from (n + 1) fs f.name) (ap (λ (x : Function). is_name x.name f.name) same ∙ itself f.name) ∙ ap Some z
place_of n (g ∷ fs) (suc k) f h e = by (place_of (n + 1) fs k f h.1 e) (is_name g.name f.name) refl
  where
    by : fun_from (n + 1) fs f.name ≡ Some ((n + 1) + k) → (b : Bool) → is_name g.name f.name ≡ b → (if b then Some n else fun_from (n + 1) fs f.name) ≡ Some (n + suc k)
    by ih true q =
        let t : true ≡ false = sym (named_there fs k f e) ∙ ap (λ w. list_any (λ y. is_name y.name w) fs) (sym (same_name g.name f.name q)) ∙ h.0 in
        absurd cc
    by ih false q = let z : (n + 1) + k ≡ n + suc k = omega arith in ih ∙ ap Some z

-- what a place from 0 leads to is a place of the list
from_below : (n : ℕ) (fs : List Function) (w : List ℕ) (r : ℕ) → fun_from n fs w ≡ Some r → r < n + length fs
from_below n [] w r e = absurd cc
from_below n (f ∷ fs) w r e = by (is_name f.name w) (from_below (n + 1) fs w r) e
  where
    by : (b : Bool) → (fun_from (n + 1) fs w ≡ Some r → r < (n + 1) + length fs) → (if b then Some n else fun_from (n + 1) fs w) ≡ Some r → r < n + length (f ∷ fs)
    by true ih q = let s : n ≡ r = ap (λ (o : Option ℕ). unwrap_or o n) q in omega (arith, s)
    by false ih q = let i = ih q in omega (arith, i)

-- a function of a file is found by its name
own_there : (is : List ItemTree) (k : ℕ) (f : Function) → slice_get (own_functions is) k ≡ Some f → (g : Function) × (own_function is f.name ≡ Some g)
own_there [] k f e = absurd cc
own_there (Inherit line path ∷ is) k f e = own_there is k f e
own_there (Proto line ms ty name ps ∷ is) k f e = own_there is k f e
own_there (Fun line ms ty name ps b ∷ is) k f e = by (λ k. own_there is k f) (is_name name f.name) refl k e
  where
    by : ((k : ℕ) → slice_get (own_functions is) k ≡ Some f → (g : Function) × (own_function is f.name ≡ Some g)) → (c : Bool) → is_name name f.name ≡ c → (k : ℕ) → slice_get (own_functions (Fun line ms ty name ps b ∷ is)) k ≡ Some f
        → (g : Function) × ((if c then Some (record { name = name; modifiers = ms; parameters = map (λ p. p.name) ps; body = b.stmts }) else own_function is f.name) ≡ Some g)
    by ih true q k d = (record { name = name; modifiers = ms; parameters = map (λ p. p.name) ps; body = b.stmts }, refl)
    by ih false q zero d =
        let same : name ≡ f.name = ap (λ (o : Option Function). (unwrap_or o f).name) d in
        let t : true ≡ false = sym (itself f.name) ∙ ap (λ w. is_name w f.name) (sym same) ∙ q in
        absurd cc
    by ih false q (suc k) d = ih k d
own_there (Var line ms b ds ∷ is) k f e = own_there is k f e

-- Parts

-- the last part is the whole
whole_part : (h : Heritage) → (p : Part) × (part_at h (part_count h - 1) ≡ Some p) × (p.tree ≡ h)
whole_part (Heir n v ps) =
    let c = count_parents ps 0 0 in
    let e : suc (parts_before ps) - 1 ≡ length (parents_parts ps 0 0) + 0 = omega (arith, c) in
    (record { tree = Heir n v ps; first = 0; base = 0 }, ap (slice_get (parts (Heir n v ps))) e ∙ past (parents_parts ps 0 0) (record { tree = Heir n v ps; first = 0; base = 0 } ∷ []) 0, refl)

own_is : (h : Heritage) (p : RawProgram) → FitsVersion h p → own_part p ≡ part_count h - 1
own_is h p f = ap (λ n. n - 1) (sym (ap (λ t. length t.parts) f.own.own) ∙ count_parts h)

-- Rows

once_of : (h : Heritage) → IsNamedOnce h → AreOnce (own_functions (version_of h).items)
once_of (Heir n v ps) o = o.0

-- what the name of a function of the file means is in its last part
own_resolved : (h : Heritage) (w : List ℕ) (g : Function) → own_function (version_of h).items w ≡ Some g → resolve h w ≡ Some (record { part = part_count h - 1; function = g })
own_resolved (Heir n v ps) w g e =
    let k : parts_before ps ≡ suc (parts_before ps) - 1 = omega arith in
    ap (λ o. or_else (found_in (parts_before ps) o) (resolve_last ps 0 w)) e ∙ ap (λ i. Some (record { part = i; function = g })) k

same_number : (a b : ℕ) → a ≡ b → nat_eq a b ≡ true
same_number a b e = (Decides-eqb a b).1 e

-- A function's row is its own.
function_is : (h : Heritage) (p : RawProgram) (k : ℕ) (f : Function) → FitsVersion h p → slice_get (own_functions (version_of h).items) k ≡ Some f → is_own_row p k (slice_get p.funs k) ≡ true
function_is h p k f fits e =
    let row = function_at h p f k fits e in
    let own = own_there (version_of h).items k f e in
    let named : own.0.name ≡ f.name = own_named (version_of h).items f.name own.0 own.1 in
    let meant = own_resolved h f.name own.0 own.1 in
    let reached : IsReached h (Some (record { part = part_count h - 1; function = own.0 })) (reached_in (slot_named p.tables.slots f.name)) =
    subst (λ x. IsReached h x (reached_in (slot_named p.tables.slots f.name))) meant (fit_reached h p f.name fits) in
    let whole = whole_part h in
    let at : fun_in (part_at h (part_count h - 1)) own.0.name ≡ Some (0 + k) =
    ap (λ o. fun_in o own.0.name) whole.1 ∙ ap (λ t. fun_from 0 (own_functions (version_of t).items) own.0.name) whole.2 ∙ ap (fun_from 0 (own_functions (version_of h).items)) named ∙ place_of 0 (own_functions (version_of h).items) k f (once_of h fits.own.once) e in
    ap (is_own_row p k) row.listed ∙ ap (λ w. is_there (own_part p) k (reached_in (slot_named p.tables.slots w))) row.name ∙ by (reached_in (slot_named p.tables.slots f.name)) own.0 reached at
  where
    by : (o : Option Reached) (g : Function) → IsReached h (Some (record { part = part_count h - 1; function = g })) o → fun_in (part_at h (part_count h - 1)) g.name ≡ Some (0 + k) → is_there (own_part p) k o ≡ true
    by None g r a = absurd r
    by (Some x) g r a =
        let part : x.part ≡ own_part p = r.0 ∙ sym (own_is h p fits) in
        let fun : x.fun ≡ 0 + k = one_value (fun_in (part_at h (part_count h - 1)) g.name) x.fun (0 + k) r.1 a in
        let here : x.fun ≡ k = omega (arith, fun) in
        ap (λ b. b && nat_eq x.fun k) (same_number x.part (own_part p) part) ∙ same_number x.fun k here

-- No row behind those of functions is one.
behind_is_none : (h : Heritage) (p : RawProgram) (w : List ℕ) → FitsVersion h p → is_there (own_part p) (length (own_functions (version_of h).items)) (reached_in (slot_named p.tables.slots w)) ≡ false
behind_is_none h p w fits = by (reached_in (slot_named p.tables.slots w)) (resolve h w) (fit_reached h p w fits)
  where
    n : ℕ
    n = length (own_functions (version_of h).items)

    place : (x : Reached) (f : Found) → x.part ≡ f.part → fun_in (part_at h f.part) f.function.name ≡ Some x.fun → x.part ≡ own_part p → x.fun < 0 + length (own_functions (version_of h).items)
    place x f a r i =
        let whole = whole_part h in
        let part : f.part ≡ part_count h - 1 = sym a ∙ i ∙ own_is h p fits in
        from_below 0 (own_functions (version_of h).items) f.function.name x.fun
        (sym (ap (λ k. fun_in (part_at h k) f.function.name) part ∙ ap (λ o. fun_in o f.function.name) whole.1 ∙ ap (λ t. fun_from 0 (own_functions (version_of t).items) f.function.name) whole.2) ∙ r)

    tests : (x : Reached) (f : Found) → x.part ≡ f.part → fun_in (part_at h f.part) f.function.name ≡ Some x.fun → (b d : Bool) → nat_eq x.part (own_part p) ≡ b → nat_eq x.fun (length (own_functions (version_of h).items)) ≡ d → (b && d) ≡ false
    tests x f a r true true i j =
        let l = place x f a r (eqb-true x.part (own_part p) i) in
        let s = eqb-true x.fun (length (own_functions (version_of h).items)) j in
        absurd (omega (arith, l, s))
    tests x f a r true false i j = refl
    tests x f a r false d i j = refl

    by : (o : Option Reached) (z : Option Found) → IsReached h z o → is_there (own_part p) (length (own_functions (version_of h).items)) o ≡ false
    by None z r = refl
    by (Some x) None r = absurd r
    by (Some x) (Some f) r = tests x f r.0 r.1 (nat_eq x.part (own_part p)) (nat_eq x.fun (length (own_functions (version_of h).items))) refl refl

-- Names

-- The rows of a file that are functions have their names, in order.
names_are : (h : Heritage) (p : RawProgram) (code : Code) (k : ℕ) (fs : List Function) (rs : List CodeRow) → AreFuns h code fs (map row_of rs)
    → ((j : ℕ) (f : Function) (r : CodeRow) → slice_get fs j ≡ Some f → slice_get rs j ≡ Some r → is_own_row p (k + j) (Some r) ≡ true) → ((r : CodeRow) → is_own_row p (k + length fs) (Some r) ≡ false)
    → names_from p k rs ≡ map (λ (f : Function). f.name) fs
names_are h p code k [] rs a hits misses = by (has_initialiser (own_variables (version_of h).items)) rs a
  where
    one : (r : CodeRow) → is_own_row p k (Some r) ≡ false
    one r = let z : k ≡ k + 0 = omega arith in ap (λ m. is_own_row p m (Some r)) z ∙ misses r

    by : (b : Bool) (rs : List CodeRow) → AreInit h code b (map row_of rs) → names_from p k rs ≡ []
    by true [] i = let z = ap length i.1 in absurd (omega (arith, z))
    by true (r ∷ []) i = ap (λ b. (if b then r.name ∷ [] else []) ++ []) (one r)
    by true (r ∷ s ∷ rs) i = let z = ap length i.1 in absurd (omega (arith, z))
    by false [] i = refl
    by false (r ∷ rs) i = let z = ap length i in absurd (omega (arith, z))
names_are h p code k (f ∷ fs) [] a hits misses = absurd a
names_are h p code k (f ∷ fs) (r ∷ rs) a hits misses =
    let z : k ≡ k + 0 = omega arith in
    let here : is_own_row p k (Some r) ≡ true = ap (λ m. is_own_row p m (Some r)) z ∙ hits zero f r refl refl in
    ap (λ b. (if b then r.name ∷ [] else []) ++ names_from p (suc k) rs) here
    ∙ ap (λ w. w ∷ names_from p (suc k) rs) a.0.name
    ∙ ap (λ ws. f.name ∷ ws)
    (names_are h p code (suc k) fs rs a.1
    (λ j g s d e. let m : suc k + j ≡ k + suc j = omega arith in ap (λ n. is_own_row p n (Some s)) m ∙ hits (suc j) g s d e)
    (λ s. let m : suc k + length fs ≡ k + suc (length fs) = omega arith in ap (λ n. is_own_row p n (Some s)) m ∙ misses s))

own_names_are : (is : List ItemTree) → map (λ (f : Function). f.name) (own_functions is) ≡ own_names is
own_names_are [] = refl
own_names_are (Inherit line path ∷ is) = own_names_are is
own_names_are (Proto line ms ty name ps ∷ is) = own_names_are is
own_names_are (Fun line ms ty name ps b ∷ is) = ap (λ ws. name ∷ ws) (own_names_are is)
own_names_are (Var line ms b ds ∷ is) = own_names_are is

pub names_are_own : NamesAreOwn
names_are_own h p fits =
    let fs : List Function = own_functions (version_of h).items in
    names_are h p (program_of p (tables (parents_of h))).code 0 fs p.funs (fits.stands h fits.own).funs
    (λ j f r d e. let m : 0 + j ≡ j = omega arith in ap (λ n. is_own_row p n (Some r)) m ∙ ap (is_own_row p j) (sym e) ∙ function_is h p j f fits d)
    (λ r. let m : 0 + length fs ≡ length fs = omega arith in ap (λ n. is_own_row p n (Some r)) m ∙ behind_is_none h p r.name fits)
    ∙ own_names_are (version_of h).items

pub open_is_callable : OpenIsCallable
open_is_callable h p name fits = by (callable_found false (resolve h name)) (wanted_in (wants.Callable false) (slot_named p.tables.slots name)) (wanted_reached h p (wants.Callable false) name fits)
  where
    by : (x : Option Found) (o : Option Reached) → IsReached h x o → is_some o ≡ is_some x
    by None None r = refl
    by None (Some y) r = absurd r
    by (Some x) None r = absurd r
    by (Some x) (Some y) r = refl
