-- Searches through chains of shadows.
use Rattle.std.proofs.Common.{◌≡◌, ◌∙◌, ◌≤◌, ◌<◌, ℕ, zero, suc, arith, Bool, true, false, ◌||◌, nat_eq, List, [], ◌∷◌, ◌++◌, Option, Some, None, IsSome, All, refl, ap, sym, subst, slice_get, unwrap_or, length, drop, map}
use Rattle.std.specs.Prelude.{◌+◌, filter, if◌then◌else◌}
use Rattle.std.specs.List.{list_any}
use Rattle.std.proofs.lemmas.Bool.Decides.{Decides-eqb}
use Rattle.std.proofs.lemmas.List.Elements.{All-head, All-tail}
use Rattle.lp_values.specs.declared.id.ObjId.{ObjId}
use Rattle.lp_code.specs.declared.program.RawProgram.{RawProgram}
use Rattle.lp_cells.specs.Cells.{Store}
use Rattle.lp_swapfile.specs.Device.{Bytes}
use Rattle.lp_language.specs.World as world
use Rattle.lp_language.specs.World.{World, is_live, no_object}
use Rattle.lp_language.specs.Resolve.{Found, Target, behind, chain_of, first_callable, first_with, function_of, or_else, searched, target_here}
use Rattle.lp_places.specs.Places.{Shadowing, is_object, shadows_of}
use Rattle.lp_world.specs.declared.live.Live.{Live}
use Rattle.lp_world.specs.declared.objects.Object.{Object}
use Rattle.lp_world.specs.Rows.{row_at}
use Rattle.lp_world.specs.Stands.{ObjectIs}
use Rattle.lp_frames.specs.declared.entry.Callee.{Callee}
use Rattle.lp_part_laws.proofs.Lists.{there_below}
use Rattle.lp_targets.specs.Callees.{IsAnswer, IsTargetAnswer, IsWorldOf, first_wanted, found_at, want_of, wanted}
use Rattle.lp_targets.specs.declared.wants.Seeker.{Seeker}
use Rattle.lp_targets.specs.declared.wants.Seeker.TheVariants.{Anyone, Caller}

-- One object, and then the others.

pub answer_here : (programs : List RawProgram) (w : World) (o : ObjId) (r : Option Callee) (x : Option Found) → IsAnswer programs w o r x → IsTargetAnswer programs w r (target_here o x)
answer_here programs w o None None h = tt
answer_here programs w o (Some c) (Some f) h = h
answer_here programs w o None (Some f) h = absurd h
answer_here programs w o (Some c) None h = absurd h

found_first : (programs : List RawProgram) (w : World) (o : ObjId) (c : Callee) (x : Option Found) (rest : Option Target) → IsAnswer programs w o (Some c) x → IsTargetAnswer programs w (Some c) (or_else (target_here o x) rest)
found_first programs w o c None rest h = absurd h
found_first programs w o c (Some f) rest h = h

found_later : (programs : List RawProgram) (w : World) (o : ObjId) (r : Option Callee) (x : Option Found) (rest : Option Target) → IsAnswer programs w o None x → IsTargetAnswer programs w r rest → IsTargetAnswer programs w r (or_else (target_here o x) rest)
found_later programs w o r None rest h k = k
found_later programs w o r (Some f) rest h k = absurd h

alone : (y : Option Target) → or_else y None ≡ y
alone None = refl
alone (Some t) = refl

drop_end : (os : List ObjId) (o : ObjId) (at : ℕ) → at ≡ length os → drop at (os ++ o ∷ []) ≡ o ∷ []
drop_end [] o zero e = refl
drop_end [] o (suc at) e = absurd (omega (arith, e))
drop_end (x ∷ os) o zero e = absurd (omega (arith, e))
drop_end (x ∷ os) o (suc at) e = drop_end os o at (omega (arith, e))

drop_at : (os : List ObjId) (o s : ObjId) (at : ℕ) → slice_get os at ≡ Some s → drop at (os ++ o ∷ []) ≡ s ∷ drop (suc at) (os ++ o ∷ [])
drop_at [] o s at e = absurd cc
drop_at (x ∷ os) o s zero e = let q : x ≡ s = cc in ap (λ z. z ∷ os ++ o ∷ []) q
drop_at (x ∷ os) o s (suc at) e = drop_at os o s at e

pub last_right : (programs : List RawProgram) (w : World) (seeker : Seeker) (ob : ObjId) (at : ℕ) (name : List ℕ) (r : Option Callee) → at ≡ length (shadows_of w.shadows ob) → IsAnswer programs w ob r (wanted (want_of seeker ob) (function_of w ob name))
    → IsTargetAnswer programs w r (first_wanted seeker w (drop at (chain_of w ob)) name)
last_right programs w seeker ob at name r e h =
    subst (λ os. IsTargetAnswer programs w r (first_wanted seeker w os name)) (sym (drop_end (shadows_of w.shadows ob) ob at e))
    (subst (IsTargetAnswer programs w r) (sym (alone (target_here ob (wanted (want_of seeker ob) (function_of w ob name))))) (answer_here programs w ob r (wanted (want_of seeker ob) (function_of w ob name)) h))

pub step_found : (programs : List RawProgram) (w : World) (seeker : Seeker) (ob s : ObjId) (at : ℕ) (name : List ℕ) (c : Callee) → slice_get (shadows_of w.shadows ob) at ≡ Some s → IsAnswer programs w s (Some c) (wanted (want_of seeker s) (function_of w s name))
    → IsTargetAnswer programs w (Some c) (first_wanted seeker w (drop at (chain_of w ob)) name)
step_found programs w seeker ob s at name c e h =
    subst (λ os. IsTargetAnswer programs w (Some c) (first_wanted seeker w os name)) (sym (drop_at (shadows_of w.shadows ob) ob s at e))
    (found_first programs w s c (wanted (want_of seeker s) (function_of w s name)) (first_wanted seeker w (drop (suc at) (chain_of w ob)) name) h)

pub step_on : (programs : List RawProgram) (w : World) (seeker : Seeker) (ob s : ObjId) (at next : ℕ) (name : List ℕ) (r : Option Callee) → slice_get (shadows_of w.shadows ob) at ≡ Some s → next ≡ at + 1 → IsAnswer programs w s None (wanted (want_of seeker s) (function_of w s name))
    → IsTargetAnswer programs w r (first_wanted seeker w (drop next (chain_of w ob)) name) → IsTargetAnswer programs w r (first_wanted seeker w (drop at (chain_of w ob)) name)
step_on programs w seeker ob s at next name r e n h k =
    let m : next ≡ suc at = omega (arith, n) in
    subst (λ os. IsTargetAnswer programs w r (first_wanted seeker w os name)) (sym (drop_at (shadows_of w.shadows ob) ob s at e))
    (found_later programs w s r (wanted (want_of seeker s) (function_of w s name)) (first_wanted seeker w (drop (suc at) (chain_of w ob)) name) h
    (subst (λ z. IsTargetAnswer programs w r (first_wanted seeker w (drop z (chain_of w ob)) name)) m k))

-- Shadows are there.

live_shadow : (P : ObjId → Type 0) (p : Shadowing → Bool) (xs : List Shadowing) (k : ℕ) (s : ObjId) → All (λ (x : Shadowing). P x.shadow) xs → slice_get (map (λ (x : Shadowing). x.shadow) (filter p xs)) k ≡ Some s → P s
live_shadow P p [] k s h e = absurd cc
live_shadow P p (x ∷ xs) k s h e = by (λ k e. live_shadow P p xs k s (All-tail (λ (x : Shadowing). P x.shadow) x xs h) e) (p x) k e
  where
    by : ((k : ℕ) → slice_get (map (λ (x : Shadowing). x.shadow) (filter p xs)) k ≡ Some s → P s) → (b : Bool) (k : ℕ) → slice_get (map (λ (x : Shadowing). x.shadow) (if b then x ∷ filter p xs else filter p xs)) k ≡ Some s → P s
    by ih true zero e = let q : x.shadow ≡ s = cc in subst P q (All-head (λ (x : Shadowing). P x.shadow) x xs h)
    by ih true (suc k) e = ih k e
    by ih false k e = ih k e

row_of_live : (told : Option Bytes) (part whole : Store) (n : ℕ) (r : Option (Option Object)) (x : Option world.Object) → ObjectIs told part whole n r x → (unwrap_or x no_object).is_live ≡ true → IsSome (unwrap_or r None)
row_of_live told part whole n None None h e = absurd cc
row_of_live told part whole n None (Some x) h e = absurd h
row_of_live told part whole n (Some r) None h e = absurd h
row_of_live told part whole n (Some None) (Some x) h e = let f : true ≡ false = sym e ∙ h in absurd cc
row_of_live told part whole n (Some (Some o)) (Some x) h e = refl

pub shadow_there : (told : Option Bytes) (programs : List RawProgram) (live : Live) (w : World) (ob : ObjId) (at : ℕ) → IsWorldOf told programs live w → at < length (shadows_of w.shadows ob)
    → (s : ObjId) × (slice_get (shadows_of w.shadows ob) at ≡ Some s) × IsSome (row_at live.objects s.0)
shadow_there told programs live w ob at h l =
    let s = there_below (shadows_of w.shadows ob) at l in
    let alive : is_live w s.0 ≡ true = live_shadow (λ o. is_live w o ≡ true) (λ x. is_object x.victim ob) w.shadows at s.0 h.shadows s.1 in
    (s.0, s.1, row_of_live told live.cells w.cells s.0.0 (slice_get live.objects s.0.0) (slice_get w.objects s.0.0) (h.stands.objects s.0.0) alive)

-- The searches of the meaning.

pub as_callable : (w : World) (c : ObjId) (os : List ObjId) (name : List ℕ) → first_wanted (Caller c) w os name ≡ first_callable w c os name
as_callable w c [] name = refl
as_callable w c (o ∷ os) name = ap (or_else (target_here o (wanted (want_of (Caller c) o) (function_of w o name)))) (as_callable w c os name)

pub as_with : (w : World) (os : List ObjId) (name : List ℕ) → first_wanted Anyone w os name ≡ first_with w os name
as_with w [] name = refl
as_with w (o ∷ os) name = ap (or_else (target_here o (wanted (want_of Anyone o) (function_of w o name)))) (as_with w os name)

-- Where the search of a caller begins.

either_way : (a b : ObjId) → is_object a b ≡ is_object b a
either_way a b = by (nat_eq a.0 b.0) (nat_eq b.0 a.0) refl refl
  where
    by : (x y : Bool) → nat_eq a.0 b.0 ≡ x → nat_eq b.0 a.0 ≡ y → x ≡ y
    by true true p q = refl
    by false false p q = refl
    by true false p q = sym ((Decides-eqb b.0 a.0).1 (sym ((Decides-eqb a.0 b.0).0 p))) ∙ q
    by false true p q = sym p ∙ (Decides-eqb a.0 b.0).1 (sym ((Decides-eqb b.0 a.0).0 q))

pub record Begins (c : ObjId) (n : ℕ) (os ys : List ObjId) (any : Bool) : Type 0 where
  pub yes_there : any ≡ true → (k : ℕ) × (found_at n os c ≡ n + k) × (k ≤ length os) × (drop k (os ++ ys) ≡ behind c (os ++ ys))
  pub not_there : any ≡ false → found_at n os c ≡ 0

pub begins_at : (c : ObjId) (n : ℕ) (os ys : List ObjId) → Begins c n os ys (list_any (is_object c) os)
begins_at c n [] ys = record { yes_there = λ e. absurd cc; not_there = λ e. refl }
begins_at c n (x ∷ os) ys = by (begins_at c (suc n) os ys) (is_object c x) (is_object x c) refl refl (either_way c x)
  where
    any : Bool
    any = list_any (is_object c) os

    by : Begins c (suc n) os ys any → (a b : Bool) → is_object c x ≡ a → is_object x c ≡ b → is_object c x ≡ is_object x c → Begins c n (x ∷ os) ys (is_object c x || any)
    by ih a true p q r = record {
      yes_there = λ e. (
        1,
        (let z : suc n ≡ n + 1 = omega arith in ap (λ z. if z then suc n else found_at (suc n) os c) q ∙ z),
        (let z : 1 ≤ length (x ∷ os) = omega arith in z),
        ap (λ z. if z then os ++ ys else behind c (os ++ ys)) (sym q),
      );
      not_there = λ e. let f : true ≡ false = ap (λ z. z || any) (sym (r ∙ q)) ∙ e in absurd cc;
    }
    by ih a false p q r = record {
      yes_there = λ e.
          let k = ih.yes_there (ap (λ z. z || any) (sym (r ∙ q)) ∙ e) in (
            suc k.0,
            (let z = k.1 in let y : suc n + k.0 ≡ n + suc k.0 = omega arith in ap (λ z. if z then suc n else found_at (suc n) os c) q ∙ z ∙ y),
            (let z = k.2 in let y : suc k.0 ≤ length (x ∷ os) = omega (arith, z) in y),
            k.3 ∙ ap (λ z. if z then os ++ ys else behind c (os ++ ys)) (sym q),
          );
      not_there = λ e. ap (λ z. if z then suc n else found_at (suc n) os c) q ∙ ih.not_there (ap (λ z. z || any) (sym (r ∙ q)) ∙ e);
    }

-- A search begins where the meaning has it begin.
pub record Starts (w : World) (c o : ObjId) : Type 0 where
  pub inside : found_at 0 (shadows_of w.shadows o) c ≤ length (shadows_of w.shadows o)
  pub is : drop (found_at 0 (shadows_of w.shadows o) c) (chain_of w o) ≡ searched w c o

pub starts : (w : World) (c o : ObjId) → Starts w c o
starts w c o = by (list_any (is_object c) (shadows_of w.shadows o)) refl (begins_at c 0 (shadows_of w.shadows o) (o ∷ []))
  where
    by : (b : Bool) → list_any (is_object c) (shadows_of w.shadows o) ≡ b → Begins c 0 (shadows_of w.shadows o) (o ∷ []) (list_any (is_object c) (shadows_of w.shadows o)) → Starts w c o
    by true e h =
        let k = h.yes_there e in
        let z : found_at 0 (shadows_of w.shadows o) c ≡ k.0 = let y = k.1 in omega (arith, y) in
        record {
          inside = let l = k.2 in omega (arith, z, l);
          is = ap (λ n. drop n (chain_of w o)) z ∙ k.3 ∙ ap (λ b. if b then behind c (chain_of w o) else chain_of w o) (sym e);
        }
    by false e h =
        let z : found_at 0 (shadows_of w.shadows o) c ≡ 0 = h.not_there e in
        record {
          inside = omega (arith, z);
          is = ap (λ n. drop n (chain_of w o)) z ∙ ap (λ b. if b then behind c (chain_of w o) else chain_of w o) (sym e);
        }
