-- Rows of programs and tables that are functions.
use Rattle.std.proofs.Common.{◌≡◌, ◌≤◌, ℕ, zero, suc, arith, refl, sym, ◌∙◌, ap, subst, Bool, true, false, ◌&&◌, cond, List, [], ◌∷◌, map, length, Option, Some, None}
use Rattle.std.specs.Prelude.{◌+◌, slice_get, option_map, bytes_eq, if◌then◌else◌}
use Rattle.std.proofs.lemmas.Slice.Eq.{bytes_eq-Decides}
use Rattle.lp_instr.specs.Code.{Code}
use Rattle.lp_instr.specs.EfunList.{is_name}
use Rattle.lp_code.specs.declared.program.FunRow.{FunRow as CodeRow}
use Rattle.lp_code.specs.declared.program.RawProgram.{RawProgram}
use Rattle.lp_code.specs.declared.tables.Slot.{Slot}
use Rattle.lp_code.specs.Owners.{AreRows, RowsRise}
use Rattle.lp_code.specs.Programs.{code_of}
use Rattle.lp_code.specs.Slots.{first_place}
use Rattle.lp_language.specs.Resolve.{Found, Function, Heritage, Part, is_hidden, moved, parent_from, parents_of, part_at, resolve, version_of}
use Rattle.lp_isa.specs.Programs.{AreFuns, FunRow, IsFun, IsReached, Reached, fun_from, fun_in, own_functions}
use Rattle.lp_types_expr.specs.Signatures.{has_function, is_private_number}
use Rattle.lp_layout.specs.Layout.{slot_named}
use Rattle.lp_inherit.specs.Heirs.{IsNumbered, MeansTheSame, table, tables, with_function}
use Rattle.lp_inherit.proofs.Meanings.{private_bit, row_agrees}
use Rattle.lp_plan_laws.specs.Tables.{IsNamedOnce, reached_by, table_row}
use Rattle.lp_plan_laws.proofs.Meant.{Own, found_named, table_own}
use Rattle.lp_plan_laws.proofs.Standing.{table_stands}
use Rattle.lp_part_laws.specs.Versions.{FitsVersion, row_of, rows_of}
use Rattle.lp_part_laws.specs.Parts.{IsFunctionAt, moved_reached, reached_in}
use Rattle.lp_part_laws.proofs.Lists.{get_map, got_map}
use Rattle.lp_part_laws.proofs.Places.{parent_inside, part_inside, shifted}

-- Rows of functions

fun_at : (h : Heritage) (code : Code) (fs : List Function) (rs : List FunRow) (j : ℕ) (f : Function) → AreFuns h code fs rs → slice_get fs j ≡ Some f → (r : FunRow) × (slice_get rs j ≡ Some r) × IsFun h code f r
fun_at h code [] rs j f a e = absurd cc
fun_at h code (g ∷ fs) [] j f a e = absurd a
fun_at h code (g ∷ fs) (r ∷ rs) zero f a e = let s : g ≡ f = cc in (r, refl, subst (λ x. IsFun h code x r) s a.0)
fun_at h code (g ∷ fs) (r ∷ rs) (suc j) f a e = fun_at h code fs rs j f a.1 e

rise_at : (n low : ℕ) (rs : List CodeRow) → RowsRise n low rs → (k : ℕ) (r : CodeRow) → slice_get rs k ≡ Some r → r.params ≤ r.locals
rise_at n low [] h k r e = absurd cc
rise_at n low (x ∷ rs) h zero r e = let s : x ≡ r = cc in subst (λ (y : CodeRow). y.params ≤ y.locals) s h.2
rise_at n low (x ∷ rs) h (suc k) r e = rise_at n (suc x.from) rs h.3 k r e

few_params : (n : ℕ) (rs : List CodeRow) → AreRows n rs → (k : ℕ) (r : CodeRow) → slice_get rs k ≡ Some r → r.params ≤ r.locals
few_params n [] h k r e = absurd cc
few_params n (x ∷ rs) h k r e = rise_at n 0 (x ∷ rs) h.1 k r e

-- the row of a function of a version's file
pub function_at : (h : Heritage) (p : RawProgram) (f : Function) (k : ℕ) → FitsVersion h p → slice_get (own_functions (version_of h).items) k ≡ Some f → IsFunctionAt p h f k
function_at h p f k fits e =
    let code = code_of p (rows_of (tables (parents_of h))) in
    let a = fun_at h code (own_functions (version_of h).items) (map row_of p.funs) k f (fits.stands h fits.own).funs e in
    let i = got_map row_of p.funs k a.0 a.1 in
    let is : IsFun h code f (row_of i.of) = subst (IsFun h code f) (sym i.is) a.2 in
    let few = few_params (length p.instrs) p.funs fits.sound.rows k i.of i.there in
    record {
      row = i.of;
      listed = i.there;
      name = is.name;
      params = is.params;
      locals = let l = is.locals in omega (arith, l, few);
      makes = is.makes;
    }

-- What is reached, seen from a whole.

fun_there : (o : Option Part) (w : List ℕ) (r : ℕ) → fun_in o w ≡ Some r → (q : Part) × (o ≡ Some q)
fun_there None w r e = absurd cc
fun_there (Some q) w r e = (q, refl)

-- the parts of a tree are parts of another one from a place on
abbrev pub IsInside : Heritage → Heritage → ℕ → Type 0
IsInside whole t first = (k : ℕ) (q : Part) → part_at t k ≡ Some q → (r : Part) × (part_at whole (first + k) ≡ Some r) × (r.tree ≡ q.tree)

pub inside_part : (h : Heritage) (i : ℕ) (p : Part) → part_at h i ≡ Some p → IsInside h p.tree p.first
inside_part h i p e k q f = (shifted p.first p.base q, part_inside h i k p q e f, refl)

pub inside_parent : (t : Heritage) (j : ℕ) (q : Part) → parent_from (parents_of t) 0 j ≡ Some q → IsInside t q.tree q.first
inside_parent t j q e k r f = let x = parent_inside t j k q r e f in (shifted q.first x.0 r, x.1, refl)

pub reached_inside : (whole t : Heritage) (first : ℕ) (x : Option Found) (r : Option Reached) → IsInside whole t first → IsReached t x r → IsReached whole (moved first x) (moved_reached first r)
reached_inside whole t first None None i h = tt
reached_inside whole t first None (Some r) i h = absurd h
reached_inside whole t first (Some f) None i h = absurd h
reached_inside whole t first (Some f) (Some r) i h =
    let q = fun_there (part_at t f.part) f.function.name r.fun h.1 in
    let x = i f.part q.0 q.1 in (
      ap (λ z. first + z) h.0,
      ap (λ o. fun_in o f.function.name) x.1 ∙ ap (λ (y : Heritage). fun_from 0 (own_functions (version_of y).items) f.function.name) x.2 ∙ ap (λ o. fun_in o f.function.name) (sym q.1) ∙ h.1,
    )

-- What a name's row tells.

place_of : (ss : List Slot) (w : List ℕ) (s : Slot) → slot_named ss w ≡ Some s → (k : ℕ) × (slice_get ss k ≡ Some s)
place_of [] w s e = absurd cc
place_of (x ∷ ss) w s e = by (is_name x.name w) e (place_of ss w s)
  where
    by : (b : Bool) → (if b then Some x else slot_named ss w) ≡ Some s → (slot_named ss w ≡ Some s → (k : ℕ) × (slice_get ss k ≡ Some s)) → (k : ℕ) × (slice_get (x ∷ ss) k ≡ Some s)
    by true e ih = (0, e)
    by false e ih = let i = ih e in (suc i.0, i.1)

pub table_reached : (h : Heritage) (w : List ℕ) → IsNumbered h → IsNamedOnce h → IsReached h (resolve h w) (reached_in (slot_named (table h).slots w))
table_reached h w numbered once = by (slot_named (table h).slots w) refl
  where
    nothing : (x : Option Found) → MeansTheSame None x → IsReached h x None
    nothing None m = tt
    nothing (Some f) m = absurd m

    by : (o : Option Slot) → slot_named (table h).slots w ≡ o → IsReached h (resolve h w) (reached_in o)
    by None e = nothing (resolve h w) (subst (λ o. MeansTheSame (with_function o) (resolve h w)) e (row_agrees h w numbered))
    by (Some s) e =
        let k = place_of (table h).slots w s e in
        subst (λ z. IsReached h (resolve h z) (reached_by s)) (found_named (table h).slots w s e)
        ((table_stands h numbered once).reached k.0 (table_row s) (get_map table_row (table h).slots k.0 s k.1))

-- and which of its modifiers
pub table_means : (h : Heritage) (w : List ℕ) (s : Slot) → IsNumbered h → slot_named (table h).slots w ≡ Some s → MeansTheSame (with_function (Some s)) (resolve h w)
table_means h w s numbered e = subst (λ o. MeansTheSame (with_function o) (resolve h w)) e (row_agrees h w numbered)

pub table_hidden : (h : Heritage) (w : List ℕ) (s : Slot) → IsNumbered h → slot_named (table h).slots w ≡ Some s → is_hidden (resolve h w) ≡ (has_function s && is_private_number s.mods)
table_hidden h w s numbered e = by (has_function s) (resolve h w) (table_means h w s numbered e)
  where
    by : (b : Bool) (x : Option Found) → MeansTheSame (if b then Some s else None) x → is_hidden x ≡ (b && is_private_number s.mods)
    by true None m = absurd m
    by true (Some f) m = sym (ap is_private_number m.mods ∙ private_bit f.function.modifiers)
    by false None m = refl
    by false (Some f) m = absurd m

-- a row by its place is the row of its name
own_got : (all ss : List Slot) (k : ℕ) (s : Slot) → Own all ss → slice_get ss k ≡ Some s → slot_named all s.name ≡ Some s
own_got all [] k s h e = absurd cc
own_got all (x ∷ ss) zero s h e = let same : x ≡ s = cc in subst (λ (y : Slot). slot_named all y.name ≡ Some y) same h.0
own_got all (x ∷ ss) (suc k) s h e = own_got all ss k s h.1 e

pub row_by_place : (h : Heritage) (k : ℕ) (s : Slot) → slice_get (table h).slots k ≡ Some s → slot_named (table h).slots s.name ≡ Some s
row_by_place h k s e = own_got (table h).slots (table h).slots k s (table_own h) e

-- The place of a name's row, as a look-up tells it.
abbrev pub IsNamedAt : List Slot → List ℕ → Option ℕ → Type 0
IsNamedAt ss w None = slot_named ss w ≡ None
IsNamedAt ss w (Some k) = (s : Slot) × (slice_get ss k ≡ Some s) × (slot_named ss w ≡ Some s)

other_way : (a b : List ℕ) → bytes_eq a b ≡ bytes_eq b a
other_way a b = by (bytes_eq a b) (bytes_eq b a) refl refl
  where
    by : (x y : Bool) → bytes_eq a b ≡ x → bytes_eq b a ≡ y → x ≡ y
    by true true p q = refl
    by false false p q = refl
    by true false p q = sym ((bytes_eq-Decides b a).1 (sym ((bytes_eq-Decides a b).0 p))) ∙ q
    by false true p q = sym p ∙ (bytes_eq-Decides a b).1 (sym ((bytes_eq-Decides b a).0 q))

pub named_at : (w : List ℕ) (ss : List Slot) → IsNamedAt ss w (first_place w ss)
named_at w [] = refl
named_at w (x ∷ ss) = by (bytes_eq w x.name) (is_name x.name w) (other_way w x.name) (first_place w ss) (named_at w ss)
  where
    by : (b c : Bool) → b ≡ c → (o : Option ℕ) → IsNamedAt ss w o → elim (cond b (Some 0) (option_map suc o)) as (λ _. Type 0) [
      | None ↦ (if c then Some x else slot_named ss w) ≡ None
      | Some k ↦ (s : Slot) × (slice_get (x ∷ ss) k ≡ Some s) × ((if c then Some x else slot_named ss w) ≡ Some s)
    ]
    by true true e o h = (x, refl, refl)
    by false false e None h = h
    by false false e (Some k) h = h
    by true false e o h = absurd cc
    by false true e o h = absurd cc

-- a name's row in a program that fits
pub fit_reached : (h : Heritage) (p : RawProgram) (w : List ℕ) → FitsVersion h p → IsReached h (resolve h w) (reached_in (slot_named p.tables.slots w))
fit_reached h p w f = subst (λ t. IsReached h (resolve h w) (reached_in (slot_named t.slots w))) f.own.own (table_reached h w f.own.numbered f.own.once)
