-- What is known of an object's program and its parts, in a world for which the state stands.
use Rattle.std.proofs.Common.{◌≡◌, ◌∙◌, ◌≤◌, ◌<◌, ℕ, arith, List, Option, Some, None, IsSome, All, refl, ap, sym, subst, slice_get, unwrap_or, length}
use Rattle.std.specs.Prelude.{◌+◌, ◌-◌, ◌^◌}
use Rattle.lp_values.specs.declared.id.ObjId.{ObjId}
use Rattle.lp_values.specs.declared.id.ProgId.{ProgId}
use Rattle.lp_values.specs.declared.value.Value.{Value}
use Rattle.lp_code.specs.declared.program.RawProgram.{RawProgram}
use Rattle.lp_swapfile.specs.Device.{Bytes}
use Rattle.lp_language.specs.World as world
use Rattle.lp_language.specs.World.{World, no_object, no_version, object_at, version_at}
use Rattle.lp_language.specs.Resolve.{Found, Heritage, Part, heritage, heritage_of, internal_from, number_of, part_at, part_count, variable_count}
use Rattle.lp_isa.specs.Programs.{IsReached, Reached, fun_in}
use Rattle.lp_inherit.proofs.Meanings.{count_parts, count_variables}
use Rattle.lp_world.specs.Closed.{IsClosed, IsFunctionThere}
use Rattle.lp_world.specs.declared.targets.FunAt.{FunAt}
use Rattle.lp_world.specs.declared.live.Live.{Live}
use Rattle.lp_world.specs.declared.objects.Object.{Object}
use Rattle.lp_world.specs.declared.versions.ProgramState.{ProgramState}
use Rattle.lp_world.specs.declared.versions.ProgramState.TheVariants as programs_of
use Rattle.lp_world.specs.declared.versions.Version.{Version}
use Rattle.lp_world.specs.Rows.{row_at, variables_at, variables_in, variables_of, version_state}
use Rattle.lp_frames.specs.Running.{HasVariables}
use Rattle.lp_world.specs.Stands.{IsOutline, IsTarget, ProgramIs, Stands, reached_of, slot_in, slot_of_part}
use Rattle.lp_world.specs.Targets.{answer_at}
use Rattle.lp_code.specs.declared.tables.Slot.{Slot}
use Rattle.lp_targets.proofs.Calls.{internal_in_text}
use Rattle.lp_world.proofs.BareWorlds.{heritage_same}
use Rattle.lp_residence.specs.Owners.{program_of}
use Rattle.lp_residence.proofs.RowChanges.{object_behind, row_there}
use Rattle.lp_frames.specs.declared.entry.Callee.{Callee}
use Rattle.lp_part_laws.specs.Versions.{FitsVersion, heritage_in}
use Rattle.lp_part_laws.specs.Parts.{IsInText, IsSplit}
use Rattle.lp_part_laws.proofs.Bases.{base_room, base_split}
use Rattle.lp_part_laws.proofs.Lists.{is_below, one_value}
use Rattle.lp_part_laws.proofs.Places.{number_at, number_of_part}
use Rattle.lp_part_laws.proofs.Rows.{function_at}
use Rattle.lp_part_laws.proofs.Texts.{row_in_text}
use Rattle.lp_part_laws.proofs.Trees.{bare, part_keeps, part_settled}
use Rattle.lp_targets.specs.Brought.{program_at}
use Rattle.lp_targets.specs.Callees.{AreInText, IsAnswer, IsAtHome, IsCallee, IsCaller, IsKeepable, IsWorldOf, answer_for, kept_at}

-- the program of a version that is in memory is the one of that number
pub program_is : (told : Option Bytes) (programs : List RawProgram) (live : Live) (w : World) (p : ProgId) (raw : RawProgram) → Stands told programs live w → program_at live.versions p ≡ Some raw → slice_get programs p.0 ≡ Some raw
program_is told programs live w p raw h e = by (row_at live.versions p.0) refl e
  where
    same : (q : RawProgram) (s : ProgramState) → ProgramIs told q s → program_of (Some s) ≡ Some raw → q ≡ raw
    same q (programs_of.Resident x) i g = sym i ∙ ap (λ o. unwrap_or o x) g
    same q (programs_of.Swapped t) i g = cc

    by : (o : Option Version) → row_at live.versions p.0 ≡ o → program_of (version_state o) ≡ Some raw → slice_get programs p.0 ≡ Some raw
    by None q g = cc
    by (Some v) q g = let is = h.versions.each p.0 v (row_there live.versions p.0 v q) in is.is ∙ ap (λ x. Some x) (same is.program v.state is.state g)

-- an object's version
pub version_is : (told : Option Bytes) (programs : List RawProgram) (live : Live) (w : World) (o : ObjId) (x : Object) → Stands told programs live w → row_at live.objects o.0 ≡ Some x → (object_at w o).version ≡ x.program
version_is told programs live w o x h e =
    let b = object_behind told programs live w o.0 x h (row_there live.objects o.0 x e) in
    ap (λ (z : Option world.Object). (unwrap_or z no_object).version) b.1 ∙ sym b.2.version

pub tree_is : (told : Option Bytes) (programs : List RawProgram) (live : Live) (w : World) (o : ObjId) (x : Object) → Stands told programs live w → row_at live.objects o.0 ≡ Some x → heritage_of w o ≡ heritage_in w.versions x.program
tree_is told programs live w o x h e = ap (heritage w) (version_is told programs live w o x h e) ∙ heritage_same w x.program

-- A version whose row the state has, in such a world.
pub record IsThere (programs : List RawProgram) (live : Live) (t : Heritage) : Type 0 where
  pub version : Version
  pub there : row_at live.versions (number_of t).0 ≡ Some version
  pub code : RawProgram
  pub is : slice_get programs (number_of t).0 ≡ Some code
  pub outline : IsOutline code version.outline
  pub fits : FitsVersion t code

some_row : (o : Option Version) → IsSome o → (v : Version) × (o ≡ Some v)
some_row None h = absurd cc
some_row (Some v) h = (v, refl)

pub passes : (told : Option Bytes) (programs : List RawProgram) (live : Live) (w : World) → Stands told programs live w → IsClosed live
    → (v : ProgId) → IsSome (row_at live.versions v.0) → All (λ (p : ProgId). IsSome (row_at live.versions p.0)) (version_at (bare w.versions) v).parents
passes told programs live w h c v s =
    let r = some_row (row_at live.versions v.0) s in
    let there = row_there live.versions v.0 r.0 r.1 in
    let is = h.versions.each v.0 r.0 there in
    let at : version_at (bare w.versions) v ≡ is.version = ap (λ o. unwrap_or o no_version) is.there in
    subst (λ vs. All (λ (p : ProgId). IsSome (row_at live.versions p.0)) vs) (is.parents ∙ ap (λ (x : world.Version). x.parents) (sym at)) (c.versions v.0 r.0 there).parents

-- the versions of all parts of an object's program are there
pub part_there : (told : Option Bytes) (programs : List RawProgram) (live : Live) (w : World) (v : ProgId) (i : ℕ) (p : Part) → IsWorldOf told programs live w → IsClosed live → IsSome (row_at live.versions v.0)
    → part_at (heritage_in w.versions v) i ≡ Some p → IsThere programs live p.tree
part_there told programs live w v i p h c s e =
    let k = part_keeps w.versions (λ (u : ProgId). IsSome (row_at live.versions u.0)) (passes told programs live w h.stands c) v i p s e in
    let r = some_row (row_at live.versions (number_of p.tree).0) k in
    let is = h.stands.versions.each (number_of p.tree).0 r.0 (row_there live.versions (number_of p.tree).0 r.0 r.1) in
    record {
      version = r.0;
      there = r.1;
      code = is.program;
      is = is.is;
      outline = is.outline;
      fits = subst (λ t. FitsVersion t is.program) (sym (part_settled w.versions v i p h.compiled.rising e).tree) (h.compiled.fit (number_of p.tree).0 is.program is.is);
    }

-- The callee of a function that was found is the one that a look-up makes of its part and row.
pub record IsMade (programs : List RawProgram) (live : Live) (w : World) (whole : RawProgram) (o : ObjId) (f : Found) (part fun : ℕ) : Type 0 where
  pub number : ProgId
  pub version : Version
  pub base : ℕ
  pub listed : slice_get whole.tables.parts part ≡ Some number
  pub there : row_at live.versions number.0 ≡ Some version
  pub function : fun < version.outline.functions
  pub enough : version.outline.parts ≤ part + 1
  pub few : base < 2 ^ 32
  pub split : IsSplit whole.tables.vars (part + 1 - version.outline.parts) base
  pub callee : IsCallee programs w (answer_for o number part base fun) o f

pub made : (told : Option Bytes) (programs : List RawProgram) (live : Live) (w : World) (o : ObjId) (x : Object) (whole : RawProgram) (f : Found) (r : Reached)
    → IsWorldOf told programs live w → IsClosed live → row_at live.objects o.0 ≡ Some x → program_at live.versions x.program ≡ Some whole → IsInText (heritage_of w o) f → IsReached (heritage_of w o) (Some f) (Some r)
    → IsMade programs live w whole o f r.part r.fun
made told programs live w o x whole f r h c e g t reached =
    let h0 : Heritage = heritage_in w.versions x.program in
    let tree : heritage_of w o ≡ h0 = tree_is told programs live w o x h.stands e in
    let fits : FitsVersion h0 whole = h.compiled.fit x.program.0 whole (program_is told programs live w x.program whole h.stands g) in
    let at : part_at h0 f.part ≡ Some t.place = ap (λ z. part_at z f.part) (sym tree) ∙ t.at in
    let p = part_there told programs live w x.program f.part t.place h c (row_of_program (row_at live.versions x.program.0) g) at in
    let row = row_in_text t.place f.function r.fun t.own (ap (λ z. fun_in z f.function.name) (sym t.at) ∙ reached.1) in
    let is = function_at t.place.tree p.code f.function r.fun p.fits row in
    let parts : p.version.outline.parts ≡ part_count t.place.tree = p.outline.parts ∙ ap length (ap (λ z. z.parts) (sym p.fits.own.own)) ∙ count_parts t.place.tree in
    let end = number_of_part h0 f.part t.place at in
    let same = reached.0 in
    let split : IsSplit whole.tables.vars t.place.first t.place.base = subst (λ z. IsSplit z.vars t.place.first t.place.base) fits.own.own (base_split h0 f.part t.place at) in
    let first : t.place.first ≡ r.part + 1 - p.version.outline.parts = omega (arith, end, parts, same) in
    record {
      number = number_of t.place.tree;
      version = p.version;
      base = t.place.base;
      listed = ap (λ z. slice_get whole.tables.parts z) same ∙ subst (λ z. slice_get z.parts f.part ≡ Some (number_of t.place.tree)) fits.own.own (number_at h0 f.part t.place at);
      there = p.there;
      function = let i = is_below p.code.funs r.fun is.row is.listed in let n = p.outline.functions in omega (arith, i, n);
      enough = omega (arith, end, parts, same);
      few = let i = split.inside in let n = fits.variables in n_below (length whole.tables.vars) t.place.base (2 ^ 32) i n;
      split = subst (λ z. IsSplit whole.tables.vars z t.place.base) first split;
      callee = record { this = refl; part = same; place = t.place; at = t.at; program = refl; base = refl; code = p.code; is = p.is; fits = p.fits; function = is };
    }
  where
    row_of_program : (v : Option Version) → program_of (version_state v) ≡ Some whole → IsSome v
    row_of_program None e = absurd cc
    row_of_program (Some v) e = refl

    n_below : (n m k : ℕ) → m ≤ n → n < k → m < k
    n_below n m k a b = omega (arith, a, b)

-- The variables of a callee's part are among those of its object.
pub at_home : (told : Option Bytes) (programs : List RawProgram) (live : Live) (w : World) (c : Callee) (o : ObjId) (f : Found) (code : RawProgram)
    → IsWorldOf told programs live w → IsClosed live → IsCallee programs w c o f → IsSome (variables_at live.objects c.this) → slice_get programs c.program.0 ≡ Some code → IsAtHome live c code
at_home told programs live w c o f code h closed is here e =
    by (variables_at live.objects c.this) refl here
  where
    row : (vs : List Value) (r : Option Object) → row_at live.objects c.this.0 ≡ r → variables_in r ≡ Some vs → (x : Object) × (row_at live.objects c.this.0 ≡ Some x) × (variables_of x.state ≡ Some vs)
    row vs None q g = cc
    row vs (Some x) q g = (x, q, g)

    many : (vs : List Value) → variables_at live.objects c.this ≡ Some vs → c.base + length code.tables.vars ≤ length vs
    many vs g =
        let x = row vs (row_at live.objects c.this.0) refl g in
        let oc = closed.objects c.this.0 x.0 (row_there live.objects c.this.0 x.0 x.1) in
        let len = (oc.variables vs x.2).0 in
        let v = h.stands.versions.each x.0.program.0 oc.version (row_there live.versions x.0.program.0 oc.version oc.there) in
        let fits = h.compiled.fit x.0.program.0 v.program v.is in
        let tree : heritage_of w o ≡ heritage_in w.versions x.0.program = subst (λ (z : ObjId). heritage_of w z ≡ heritage_in w.versions x.0.program) is.this (tree_is told programs live w c.this x.0 h.stands x.1) in
        let room = base_room (heritage_in w.versions x.0.program) f.part is.place (ap (λ z. part_at z f.part) (sym tree) ∙ is.at) in
        let whole : length v.program.tables.vars ≡ variable_count (heritage_in w.versions x.0.program) = ap (λ z. length z.vars) (sym fits.own.own) ∙ count_variables (heritage_in w.versions x.0.program) in
        let same : is.code ≡ code = one_value (slice_get programs c.program.0) is.code code is.is e in
        let part : length code.tables.vars ≡ variable_count is.place.tree = ap (λ (z : RawProgram). length z.tables.vars) (sym same) ∙ ap (λ z. length z.vars) (sym is.fits.own.own) ∙ count_variables is.place.tree in
        let out = v.outline.variables in
        let base = is.base in
        omega (arith, len, room, whole, part, out, base)

    by : (k : Option (List Value)) → variables_at live.objects c.this ≡ k → IsSome k → HasVariables k (c.base + length code.tables.vars)
    by None q s = absurd cc
    by (Some vs) q s = many vs q

-- What a look-up found is the callee of what the meaning found.
pub right_callee : (told : Option Bytes) (programs : List RawProgram) (live : Live) (w : World) (o : ObjId) (x : Object) (whole : RawProgram) (f : Found) (r : Reached) (c : Option Callee)
    → IsWorldOf told programs live w → IsClosed live → row_at live.objects o.0 ≡ Some x → program_at live.versions x.program ≡ Some whole → IsInText (heritage_of w o) f → IsReached (heritage_of w o) (Some f) (Some r)
    → ((n : ProgId) (v : Version) (base : ℕ) → slice_get whole.tables.parts r.part ≡ Some n → row_at live.versions n.0 ≡ Some v → r.fun < v.outline.functions → v.outline.parts ≤ r.part + 1 → base < 2 ^ 32
    → IsSplit whole.tables.vars (r.part + 1 - v.outline.parts) base → c ≡ Some (answer_for o n r.part base r.fun))
    → IsAnswer programs w o c (Some f)
right_callee told programs live w o x whole f r c h closed e g t reached is =
    let m = made told programs live w o x whole f r h closed e g t reached in
    subst (λ z. IsAnswer programs w o z (Some f)) (sym (is m.number m.version m.base m.listed m.there m.function m.enough m.few m.split)) m.callee

-- the same of whatever was found
pub right_any : (told : Option Bytes) (programs : List RawProgram) (live : Live) (w : World) (o : ObjId) (x : Object) (version : ProgId) (whole : RawProgram) (f : Option Found) (r : Reached) (c : Option Callee)
    → IsWorldOf told programs live w → IsClosed live → row_at live.objects o.0 ≡ Some x → x.program ≡ version → program_at live.versions version ≡ Some whole → AreInText (heritage_of w o) f → IsReached (heritage_of w o) f (Some r)
    → ((n : ProgId) (v : Version) (base : ℕ) → slice_get whole.tables.parts r.part ≡ Some n → row_at live.versions n.0 ≡ Some v → r.fun < v.outline.functions → v.outline.parts ≤ r.part + 1 → base < 2 ^ 32
    → IsSplit whole.tables.vars (r.part + 1 - v.outline.parts) base → c ≡ Some (answer_for o n r.part base r.fun))
    → IsAnswer programs w o c f
right_any told programs live w o x version whole None r c h closed e p g t reached is = absurd reached
right_any told programs live w o x version whole (Some f) r c h closed e p g t reached is =
    right_callee told programs live w o x whole f r c h closed e (ap (program_at live.versions) p ∙ g) t reached is

pub nothing_right : (programs : List RawProgram) (w : World) (o : ObjId) (h : Heritage) (x : Option Found) → IsReached h x None → IsAnswer programs w o None x
nothing_right programs w o h None r = tt
nothing_right programs w o h (Some f) r = absurd r

pub keepable_some : (versions : List (Option Version)) (o : Option RawProgram) (f : FunAt) → ((q : RawProgram) → o ≡ Some q → IsFunctionThere versions q.tables.parts f.part f.fun) → IsKeepable versions o (Some f)
keepable_some versions None f h = tt
keepable_some versions (Some q) f h = h q refl

pub keepable_none : (versions : List (Option Version)) (o : Option RawProgram) → IsKeepable versions o None
keepable_none versions None = tt
keepable_none versions (Some q) = tt

-- the program of an object's version fits its tree
pub whole_fits : (told : Option Bytes) (programs : List RawProgram) (live : Live) (w : World) (o : ObjId) (x : Object) (version : ProgId) (whole : RawProgram) → IsWorldOf told programs live w → row_at live.objects o.0 ≡ Some x → x.program ≡ version
    → program_at live.versions version ≡ Some whole → FitsVersion (heritage_of w o) whole
whole_fits told programs live w o x version whole h e p g =
    subst (λ z. FitsVersion z whole) (sym (tree_is told programs live w o x h.stands e))
    (h.compiled.fit x.program.0 whole (program_is told programs live w x.program whole h.stands (ap (program_at live.versions) p ∙ g)))

-- a caller's program fits its part
pub caller_fits : (told : Option Bytes) (programs : List RawProgram) (live : Live) (w : World) (o : ObjId) (x : Object) (part : ℕ) (code : RawProgram) → IsWorldOf told programs live w → row_at live.objects o.0 ≡ Some x
    → (who : IsCaller programs w o part code) → FitsVersion who.place.tree code
caller_fits told programs live w o x part code h e who =
    let at : part_at (heritage_in w.versions x.program) part ≡ Some who.place = ap (λ z. part_at z part) (sym (tree_is told programs live w o x h.stands e)) ∙ who.at in
    subst (λ t. FitsVersion t code) (sym (part_settled w.versions x.program part who.place h.compiled.rising at).tree) (h.compiled.fit (number_of who.place.tree).0 code who.is)

-- what an internal call reaches stands in a text
pub internal_text : (programs : List RawProgram) (w : World) (o : ObjId) (part : ℕ) (code : RawProgram) (name : List ℕ) → IsCaller programs w o part code → AreInText (heritage_of w o) (internal_from (heritage_of w o) (part_at (heritage_of w o) part) name)
internal_text programs w o part code name who = subst (λ q. AreInText (heritage_of w o) (internal_from (heritage_of w o) q name)) (sym who.at) (internal_in_text (heritage_of w o) part who.place name who.at)

-- An answer for a slot of a caller's part is a target of the object's version exactly where it is what the call reaches.

slot_is : (programs : List RawProgram) (w : World) (o : ObjId) (part : ℕ) (code : RawProgram) (slot : ℕ) (row : Slot) → (who : IsCaller programs w o part code) → slice_get code.tables.slots slot ≡ Some row → slot_of_part programs (Some who.place) slot ≡ Some row
slot_is programs w o part code slot row who e = ap (λ z. slot_in z slot) who.is ∙ e

pub target_is : (told : Option Bytes) (programs : List RawProgram) (live : Live) (w : World) (o : ObjId) (x : Object) (version : ProgId) (part : ℕ) (code : RawProgram) (slot : ℕ) (row : Slot) (a : Option FunAt)
    → IsWorldOf told programs live w → row_at live.objects o.0 ≡ Some x → x.program ≡ version → (who : IsCaller programs w o part code) → slice_get code.tables.slots slot ≡ Some row
    → IsReached (heritage_of w o) (internal_from (heritage_of w o) (part_at (heritage_of w o) part) row.name) (reached_of a)
    → IsTarget (heritage_in w.versions version) (part_at (heritage_in w.versions version) part) (slot_of_part programs (part_at (heritage_in w.versions version) part) slot) a
target_is told programs live w o x version part code slot row a h e p who s reached =
    let tree : heritage_of w o ≡ heritage_in w.versions version = tree_is told programs live w o x h.stands e ∙ ap (heritage_in w.versions) p in
    subst (λ t. IsTarget t (part_at t part) (slot_of_part programs (part_at t part) slot) a) tree
    (subst (λ q. IsTarget (heritage_of w o) q (slot_of_part programs q slot) a) (sym who.at)
    (subst (λ z. IsTarget (heritage_of w o) (Some who.place) z a) (sym (slot_is programs w o part code slot row who s))
    (subst (λ q. IsReached (heritage_of w o) (internal_from (heritage_of w o) q row.name) (reached_of a)) who.at reached)))

kept_there : (o : Option Version) (part slot : ℕ) (a : Option FunAt) → kept_at o part slot ≡ Some a → (v : Version) × (o ≡ Some v) × (answer_at v.targets part slot ≡ Some a)
kept_there None part slot a e = cc
kept_there (Some v) part slot a e = (v, refl, e)

pub kept_reached : (told : Option Bytes) (programs : List RawProgram) (live : Live) (w : World) (o : ObjId) (x : Object) (version : ProgId) (part : ℕ) (code : RawProgram) (slot : ℕ) (row : Slot) (a : Option FunAt)
    → IsWorldOf told programs live w → row_at live.objects o.0 ≡ Some x → x.program ≡ version → (who : IsCaller programs w o part code) → slice_get code.tables.slots slot ≡ Some row
    → kept_at (row_at live.versions version.0) part slot ≡ Some a
    → IsReached (heritage_of w o) (internal_from (heritage_of w o) (part_at (heritage_of w o) part) row.name) (reached_of a)
kept_reached told programs live w o x version part code slot row a h e p who s k =
    let tree : heritage_of w o ≡ heritage_in w.versions version = tree_is told programs live w o x h.stands e ∙ ap (heritage_in w.versions) p in
    let v = kept_there (row_at live.versions version.0) part slot a k in
    let is = (h.stands.versions.each version.0 v.0 (row_there live.versions version.0 v.0 v.1)).targets part slot a v.2 in
    subst (λ q. IsReached (heritage_of w o) (internal_from (heritage_of w o) q row.name) (reached_of a)) (sym who.at)
    (subst (λ z. IsTarget (heritage_of w o) (Some who.place) z a) (slot_is programs w o part code slot row who s)
    (subst (λ q. IsTarget (heritage_of w o) q (slot_of_part programs q slot) a) who.at
    (subst (λ t. IsTarget t (part_at t part) (slot_of_part programs (part_at t part) slot) a) (sym tree) is)))
