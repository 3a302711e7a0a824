-- Where calls from outside and applies lead: through chains of shadows, whose objects are there.
use Rattle.std.proofs.Common.{◌≡◌, ◌∙◌, ◌<◌, ◌∷◌, [], ℕ, suc, Bool, true, false, arith, List, Option, Some, None, IsSome, All, refl, ap, sym, subst, length, slice_get, if◌then◌else◌}
use Rattle.std.specs.List.{list_any}
use Rattle.std.proofs.lemmas.List.{reverse-append}
use Rattle.std.proofs.lemmas.List.Elements.{All-append, All-cons, All-head, All-nil, All-tail}
use Rattle.lp_values.specs.declared.id.ObjId.{ObjId}
use Rattle.lp_code.specs.declared.program.RawProgram.{RawProgram}
use Rattle.lp_places.specs.Places.{is_object, shadows_of}
use Rattle.lp_swapfile.specs.Device.{Bytes}
use Rattle.lp_language.specs.World.{World}
use Rattle.lp_language.specs.Course.{Ask, Scene}
use Rattle.lp_language.specs.Resolve.{Found, Target, behind, callable_found, chain_of, first_callable, first_with, function_of, or_else, searched, shadow_target, target_here}
use Rattle.lp_meaning.specs.FunctionCalls.{callers_behind, calling_if, calling_target, goes_to_shadows, nothing_called}
use Rattle.lp_meaning.specs.Questions.{meaning_of}
use Rattle.lp_world.specs.declared.live.Live.{Live}
use Rattle.lp_world.specs.declared.objects.Object.{Object}
use Rattle.lp_world.specs.Rows.{row_at}
use Rattle.lp_frames.specs.declared.entry.Callee.{Callee}
use Rattle.lp_asking.specs.declared.asker.Asker.{Asker}
use Rattle.lp_targets.specs.Callees.{IsTargetAnswer, IsWorldOf, applied}
use Rattle.lp_targets.proofs.Shadows.{shadow_there}
use Rattle.lp_reaching.specs.Leading.{IsTargetThere, Leads}
use Rattle.lp_reaching.specs.Reaching.{Applies, AsksOutside}
use Rattle.lp_reaching.proofs.Leads.{called_here}

-- The objects of a chain are there.

abbrev IsThere : List (Option Object) → ObjId → Type 0
IsThere objects o = IsSome (row_at objects o.0)

each_there : (P : ObjId → Type 0) (xs : List ObjId) → ((n : ℕ) → n < length xs → (s : ObjId) × (slice_get xs n ≡ Some s) × P s) → All P xs
each_there P [] h = All-nil P
each_there P (x ∷ xs) h =
    let here = h 0 (let l : 0 < length (x ∷ xs) = omega arith in l) in
    let is : here.0 ≡ x = let e = here.1 in cc in
    All-cons P x xs (subst P is here.2) (each_there P xs (λ n l. h (suc n) (let m : suc n < length (x ∷ xs) = omega (arith, l) in m)))

chain_there : (told : Option Bytes) (programs : List RawProgram) (live : Live) (w : World) (ob : ObjId) → IsWorldOf told programs live w → IsSome (row_at live.objects ob.0) → All (IsThere live.objects) (chain_of w ob)
chain_there told programs live w ob h s =
    All-append (IsThere live.objects) (shadows_of w.shadows ob) (ob ∷ []) (each_there (IsThere live.objects) (shadows_of w.shadows ob) (λ n l. shadow_there told programs live w ob n h l))
    (All-cons (IsThere live.objects) ob [] s (All-nil (IsThere live.objects)))

behind_there : (P : ObjId → Type 0) (c : ObjId) (xs : List ObjId) → All P xs → All P (behind c xs)
behind_there P c [] h = h
behind_there P c (x ∷ xs) h = by (is_object x c) (behind_there P c xs (All-tail P x xs h))
  where
    by : (b : Bool) → All P (behind c xs) → All P (if b then xs else behind c xs)
    by true i = All-tail P x xs h
    by false i = i

searched_there : (told : Option Bytes) (programs : List RawProgram) (live : Live) (w : World) (c ob : ObjId) → IsWorldOf told programs live w → IsSome (row_at live.objects ob.0) → All (IsThere live.objects) (searched w c ob)
searched_there told programs live w c ob h s = by (list_any (is_object c) (shadows_of w.shadows ob))
  where
    by : (b : Bool) → All (IsThere live.objects) (if b then behind c (chain_of w ob) else chain_of w ob)
    by true = behind_there (IsThere live.objects) c (chain_of w ob) (chain_there told programs live w ob h s)
    by false = chain_there told programs live w ob h s

one_of : (objects : List (Option Object)) (o : ObjId) (x : Option Found) (rest : Option Target) → IsThere objects o → IsTargetThere objects rest → IsTargetThere objects (or_else (target_here o x) rest)
one_of objects o None rest h k = k
one_of objects o (Some f) rest h k = h

callable_there : (objects : List (Option Object)) (w : World) (c : ObjId) (os : List ObjId) (name : List ℕ) → All (IsThere objects) os → IsTargetThere objects (first_callable w c os name)
callable_there objects w c [] name h = tt
callable_there objects w c (o ∷ os) name h =
    one_of objects o (callable_found (is_object c o) (function_of w o name)) (first_callable w c os name) (All-head (IsThere objects) o os h) (callable_there objects w c os name (All-tail (IsThere objects) o os h))

with_there : (objects : List (Option Object)) (w : World) (os : List ObjId) (name : List ℕ) → All (IsThere objects) os → IsTargetThere objects (first_with w os name)
with_there objects w [] name h = tt
with_there objects w (o ∷ os) name h = one_of objects o (function_of w o name) (first_with w os name) (All-head (IsThere objects) o os h) (with_there objects w os name (All-tail (IsThere objects) o os h))

alone_there : (objects : List (Option Object)) (o : ObjId) (x : Option Found) → IsThere objects o → IsTargetThere objects (target_here o x)
alone_there objects o None h = tt
alone_there objects o (Some f) h = h

applied_there : (told : Option Bytes) (programs : List RawProgram) (live : Live) (w : World) (ob : ObjId) (name : List ℕ) → IsWorldOf told programs live w → IsSome (row_at live.objects ob.0) → IsTargetThere live.objects (applied w ob name)
applied_there told programs live w ob name h s = by (goes_to_shadows name)
  where
    by : (b : Bool) → IsTargetThere live.objects (if b then first_with w (chain_of w ob) name else target_here ob (function_of w ob name))
    by true = with_there live.objects w (chain_of w ob) name (chain_there told programs live w ob h s)
    by false = alone_there live.objects ob (function_of w ob name) s

-- Where they lead.

pub leads_outside : (told : Option Bytes) (programs : List RawProgram) (live : Live) (asker : Asker) (this ob : ObjId) (name : List ℕ) (a : Ask) (callee : Option Callee) → IsWorldOf told programs live a.world → IsSome (row_at live.objects ob.0)
    → AsksOutside asker this ob name a → IsTargetAnswer programs a.world callee (shadow_target a.world this ob name) → Leads programs live.objects asker (Some this) a callee
leads_outside told programs live asker this ob name a callee w there h answer =
    let asked : meaning_of a a.what ≡ Some (elim a.scene [ Some c ↦ calling_target a (c.this ∷ c.callers) (shadow_target a.world c.this ob name) | None ↦ nothing_called a ]) = ap (meaning_of a) h.what in
    record {
      target = shadow_target a.world this ob name;
      callers = this ∷ h.scene.callers;
      means_it =
          asked
          ∙ ap (λ (s : Option Scene). Some (elim s [ Some c ↦ calling_target a (c.this ∷ c.callers) (shadow_target a.world c.this ob name) | None ↦ nothing_called a ])) h.scene_is
          ∙ ap (λ o. Some (calling_target a (o ∷ h.scene.callers) (shadow_target a.world o ob name))) h.this_is;
      callers_are = ap (λ cs. this ∷ cs) h.callers ∙ sym (reverse-append asker.callers.items (this ∷ []));
      answer = answer;
      there = callable_there live.objects a.world this (searched a.world this ob) name (searched_there told programs live a.world this ob w there);
    }

called_applied : (a : Ask) (ob : ObjId) (callers : List ObjId) (name : List ℕ)
    → (if goes_to_shadows name then calling_target a callers (first_with a.world (chain_of a.world ob) name) else calling_if a ob callers (function_of a.world ob name)) ≡ calling_target a callers (applied a.world ob name)
called_applied a ob callers name = by (goes_to_shadows name)
  where
    by : (b : Bool) → (if b then calling_target a callers (first_with a.world (chain_of a.world ob) name) else calling_if a ob callers (function_of a.world ob name))
        ≡ calling_target a callers (if b then first_with a.world (chain_of a.world ob) name else target_here ob (function_of a.world ob name))
    by true = refl
    by false = called_here a ob callers (function_of a.world ob name)

pub leads_applied : (told : Option Bytes) (programs : List RawProgram) (live : Live) (asker : Asker) (caller : Option ObjId) (ob : ObjId) (name : List ℕ) (a : Ask) (callee : Option Callee) → IsWorldOf told programs live a.world → IsSome (row_at live.objects ob.0)
    → Applies asker caller ob name a → IsTargetAnswer programs a.world callee (applied a.world ob name) → Leads programs live.objects asker caller a callee
leads_applied told programs live asker caller ob name a callee w there h answer = record {
  target = applied a.world ob name;
  callers = callers_behind a.scene;
  means_it = ap (meaning_of a) h.what ∙ ap (λ x. Some x) (called_applied a ob (callers_behind a.scene) name);
  callers_are = h.callers;
  answer = answer;
  there = applied_there told programs live a.world ob name w there;
}
