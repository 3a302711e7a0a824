-- What a question of a job reaches.
use Rattle.std.proofs.Common.{◌≡◌, ◌∙◌, ◌∷◌, [], ℕ, Bool, true, false, List, Option, Some, None, refl, ap, sym, subst, if◌then◌else◌}
use Rattle.std.specs.Prelude.{IsAscii}
use Rattle.lp_values.specs.declared.id.ObjId.{ObjId}
use Rattle.lp_code.specs.declared.program.RawProgram.{RawProgram}
use Rattle.lp_places.specs.Places.{is_object}
use Rattle.lp_swapfile.specs.Device.{Bytes}
use Rattle.lp_language.specs.World.{World}
use Rattle.lp_language.specs.Course.{Ask, Scene}
use Rattle.lp_language.specs.Resolve.{callable_found, chain_of, first_callable, first_with, function_of, or_else, searched, shadow_target, target_here}
use Rattle.lp_meaning.specs.FunctionCalls.{apply_call, callers_behind, calling_if, calling_target, goes_to_shadows, nothing_called}
use Rattle.lp_meaning.specs.Questions.{meaning_of, means}
use Rattle.lp_world.specs.declared.live.Live.{Live}
use Rattle.lp_targets.specs.Callees.{IsWorldOf}
use Rattle.lp_object_efuns.proofs.Shown.{nothing_found}
use Rattle.lp_calling.specs.declared.job.Question.TheVariants as questions
use Rattle.lp_reaching.specs.declared.reached.Reached.{Reached}
use Rattle.lp_reaching.specs.Reaching.{AsksOutside, CanApply, CanAskOutside, FindsApplied, FindsOutside}
use Rattle.lp_vm.specs.Working.{CanReach, FindsAsked}

-- by a name whose bytes are its letters
pub can_outside : (this ob : ObjId) (name bytes : List ℕ) (told : Option Bytes) (live : Live) → bytes ≡ name → CanReach this (questions.Other ob name) told live → CanAskOutside told live this ob bytes
can_outside this ob name bytes told live e h = subst (CanAskOutside told live this ob) (sym e) (record { programs = h.programs; asker = h.asker; ask = h.ask; asks = h.asks; world = h.world })

pub finds_outside : (this ob : ObjId) (name bytes : List ℕ) (told0 told1 : Option Bytes) (live0 live1 : Live) (r : Option Reached) → bytes ≡ name → FindsOutside this ob bytes told0 live0 told1 live1 r → FindsAsked this (questions.Other ob name) told0 live0 told1 live1 r
finds_outside this ob name bytes told0 told1 live0 live1 r e finds programs asker a asks world = finds programs asker a (subst (λ n. AsksOutside asker this ob n a) (sym e) asks) world

-- A name of other letters than those of ASCII is that of no function: nothing is called.

foreign_callable : (told : Option Bytes) (programs : List RawProgram) (live : Live) (w : World) (c : ObjId) (os : List ObjId) (name : List ℕ) → IsWorldOf told programs live w → (IsAscii name → ⊥) → first_callable w c os name ≡ None
foreign_callable told programs live w c [] name h foreign = refl
foreign_callable told programs live w c (o ∷ os) name h foreign =
    ap (λ x. or_else (target_here o (callable_found (is_object c o) x)) (first_callable w c os name)) (nothing_found told programs live w o name h foreign) ∙ foreign_callable told programs live w c os name h foreign

pub foreign_finds : (this ob : ObjId) (name : List ℕ) (told : Option Bytes) (live : Live) → (IsAscii name → ⊥) → FindsAsked this (questions.Other ob name) told live told live None
foreign_finds this ob name told live foreign programs asker a h w =
    let asked : meaning_of a a.what ≡ Some (elim a.scene [ Some c ↦ calling_target a (c.this ∷ c.callers) (shadow_target a.world c.this ob name) | None ↦ nothing_called a ]) = ap (meaning_of a) h.what in
    let called : means a ≡ Some (nothing_called a)
    = asked
    ∙ ap (λ (s : Option Scene). Some (elim s [ Some c ↦ calling_target a (c.this ∷ c.callers) (shadow_target a.world c.this ob name) | None ↦ nothing_called a ])) h.scene_is
    ∙ ap (λ t. Some (calling_target a (h.scene.this ∷ h.scene.callers) t)) (foreign_callable told programs live a.world h.scene.this (searched a.world h.scene.this ob) name w foreign) in
    (called, w)

-- The same of applies.

foreign_with : (told : Option Bytes) (programs : List RawProgram) (live : Live) (w : World) (os : List ObjId) (name : List ℕ) → IsWorldOf told programs live w → (IsAscii name → ⊥) → first_with w os name ≡ None
foreign_with told programs live w [] name h foreign = refl
foreign_with told programs live w (o ∷ os) name h foreign = ap (λ x. or_else (target_here o x) (first_with w os name)) (nothing_found told programs live w o name h foreign) ∙ foreign_with told programs live w os name h foreign

foreign_apply : (told : Option Bytes) (programs : List RawProgram) (live : Live) (a : Ask) (o : ObjId) (name : List ℕ) → IsWorldOf told programs live a.world → (IsAscii name → ⊥) → apply_call a o name ≡ nothing_called a
foreign_apply told programs live a o name w foreign = by (goes_to_shadows name)
  where
    by : (b : Bool) → (if b then calling_target a (callers_behind a.scene) (first_with a.world (chain_of a.world o) name) else calling_if a o (callers_behind a.scene) (function_of a.world o name)) ≡ nothing_called a
    by true = ap (calling_target a (callers_behind a.scene)) (foreign_with told programs live a.world (chain_of a.world o) name w foreign)
    by false = ap (calling_if a o (callers_behind a.scene)) (nothing_found told programs live a.world o name w foreign)

pub foreign_applies : (caller : Option ObjId) (ob : ObjId) (name : List ℕ) (told : Option Bytes) (live : Live) → (IsAscii name → ⊥) → FindsApplied caller ob name told live told live None
foreign_applies caller ob name told live foreign programs asker a h w =
    let asked : means a ≡ Some (apply_call a ob name) = ap (meaning_of a) h.what in
    (asked ∙ ap Some (foreign_apply told programs live a ob name w foreign), w)

-- by a name whose bytes are its letters
pub can_apply_by : (caller : Option ObjId) (ob : ObjId) (name bytes : List ℕ) (told : Option Bytes) (live : Live) → bytes ≡ name → CanApply told live caller ob name → CanApply told live caller ob bytes
can_apply_by caller ob name bytes told live e h = subst (CanApply told live caller ob) (sym e) h

pub finds_applied_by : (caller : Option ObjId) (ob : ObjId) (name bytes : List ℕ) (told0 told1 : Option Bytes) (live0 live1 : Live) (r : Option Reached) → bytes ≡ name → FindsApplied caller ob bytes told0 live0 told1 live1 r → FindsApplied caller ob name told0 live0 told1 live1 r
finds_applied_by caller ob name bytes told0 told1 live0 live1 r e finds = subst (λ n. FindsApplied caller ob n told0 live0 told1 live1 r) e finds
