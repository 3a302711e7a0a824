-- What the end of an object leaves.
use Rattle.std.proofs.Common.{◌≡◌, ◌∙◌, ◌++◌, ◌∷◌, [], ℕ, true, false, List, Option, Some, None, refl, ap, sym, subst, inl, inr, slice_get, unwrap_or, if◌then◌else◌, length, append-nil}
use Rattle.std.specs.Prelude.{slice_set}
use Rattle.lp_values.specs.declared.id.ObjId.{ObjId}
use Rattle.lp_values.specs.declared.value.Value.{Value}
use Rattle.lp_code.specs.declared.program.RawProgram.{RawProgram}
use Rattle.lp_events.specs.declared.out.Out.{Out}
use Rattle.lp_events.specs.declared.out.Out.TheVariants as outs
use Rattle.lp_swapfile.specs.Device.{Bytes}
use Rattle.lp_language.specs.World.{World}
use Rattle.lp_meaning.specs.WorldSteps.{closing, connection_of, destructed, destruction}
use Rattle.lp_step.specs.Steps.{KeepsVariables}
use Rattle.lp_world.specs.Closed.{IsClosed}
use Rattle.lp_world.specs.Rows.{is_out_state, live_in, row_after_death, row_at, variables_in, variables_of}
use Rattle.lp_world.specs.Stands.{Stands}
use Rattle.lp_world.specs.declared.live.Live.{Live}
use Rattle.lp_world.specs.declared.objects.Object.{Object}
use Rattle.lp_world.specs.declared.objects.ObjectState.{ObjectState}
use Rattle.lp_world.specs.declared.objects.ObjectState.TheVariants as states
use Rattle.lp_world.proofs.Keeping.{get_set, get_set_here, live_same, same_or_not}
use Rattle.lp_destructing.specs.Ends.{EndsObject}

-- Outputs are no part of what a state stands for, nor of whether it is closed.
stands_told : (told : Option Bytes) (programs : List RawProgram) (live : Live) (w : World) (os : List Out) → Stands told programs live w → Stands told programs (record live { outputs = os }) w
stands_told told programs live w os h = record { cells = h.cells; objects = h.objects; names = h.names; versions = h.versions; kept = h.kept; rest = h.rest }

pub closed_told : (live : Live) (os : List Out) → IsClosed live → IsClosed (record live { outputs = os })
closed_told live os h = record {
  clock = h.clock;
  cells = h.cells;
  objects = h.objects;
  apart = h.apart;
  versions = h.versions;
  call_outs = h.call_outs;
  waiting = h.waiting;
  placed = h.placed;
  numbered = h.numbered;
  room = h.room;
}

-- a live object's destruction puts out what closes its connection
told_so : (told : Option Bytes) (programs : List RawProgram) (live : Live) (w : World) (o : ObjId) → live_in live.objects o ≡ true → Stands told programs live w → destruction w o ≡ closing (connection_of w o)
told_so told programs live w o l h =
    ap (λ b. if b then closing (connection_of w o) else []) (sym (ap (λ f. f o) (live_same told programs live w h)) ∙ l)

module _ (old new : Live) (o : ObjId) (k : Option ℕ) (l : live_in old.objects o ≡ true) (outputs : new.outputs ≡ old.outputs)
    (d : (told : Option Bytes) (programs : List RawProgram) (w : World) → Stands told programs old w → Stands told programs new (destructed w o) × (k ≡ connection_of w o)) where
  -- with the connection that it had closed, and that told
  pub ends_told : (n : ℕ) (os : List Out) → k ≡ Some n → os ≡ new.outputs ++ outs.Close n ∷ [] → EndsObject o old (record new { outputs = os })
  ends_told n os is e told programs w h =
      let x = d told programs w h in (
        stands_told told programs new (destructed w o) os x.0,
        e ∙ ap (λ os. os ++ outs.Close n ∷ []) outputs ∙ ap (λ c. old.outputs ++ closing c) (sym is ∙ x.1) ∙ ap (λ os. old.outputs ++ os) (sym (told_so told programs old w o l h)),
      )

  -- without a connection
  pub ends_quietly : k ≡ None → EndsObject o old new
  ends_quietly is told programs w h =
      let x = d told programs w h in
      (x.0, outputs ∙ sym (append-nil old.outputs) ∙ ap (λ c. old.outputs ++ closing c) (sym is ∙ x.1) ∙ ap (λ os. old.outputs ++ os) (sym (told_so told programs old w o l h)))

-- Variables in memory stay there.

kept_state : (row : Object) (s : ObjectState) (vs : List Value) → variables_of s ≡ Some vs → row.state ≡ s → variables_in (row_after_death (Some row)) ≡ Some vs
kept_state row (states.Resident us) vs e q = ap (λ s. variables_in (if is_out_state s then None else Some (record row { is_live = false; is_living = false }))) q ∙ ap variables_of q ∙ e
kept_state row (states.Swapped t shared own) vs e q = cc

kept_row : (r : Option Object) (vs : List Value) → variables_in r ≡ Some vs → variables_in (row_after_death r) ≡ Some vs
kept_row None vs e = e
kept_row (Some row) vs e = kept_state row row.state vs e refl

pub variables_kept : (old new : List (Option Object)) (o : ObjId) → new ≡ slice_set old o.0 (row_after_death (row_at old o.0)) → KeepsVariables old new
variables_kept old new o e p vs h = subst (λ rows. (us : List Value) × (variables_in (row_at rows p.0) ≡ Some us) × (length us ≡ length vs)) (sym e) (by (slice_get old p.0) refl)
  where
    set : List (Option Object)
    set = slice_set old o.0 (row_after_death (row_at old o.0))

    by : (r : Option (Option Object)) → slice_get old p.0 ≡ r → (us : List Value) × (variables_in (row_at set p.0) ≡ Some us) × (length us ≡ length vs)
    by None q = absurd (nothing (sym (ap (λ r. variables_in (unwrap_or r None)) q) ∙ h))
      where
        nothing : {A : Type 0} {x : A} → None ≡ Some x → ⊥
        nothing e = cc
    by (Some r) q = elim (same_or_not o.0 p.0) [
      | inl s ↦ (
        vs,
        ap (λ n. variables_in (unwrap_or (slice_get set n) None)) (sym s)
            ∙ ap (λ x. variables_in (unwrap_or x None)) (get_set_here old o.0 (row_after_death (row_at old o.0)) r (ap (slice_get old) s ∙ q))
            ∙ kept_row (row_at old o.0) vs (ap (λ n. variables_in (row_at old n)) s ∙ h),
        refl,
      )
      | inr d ↦ (vs, ap (λ x. variables_in (unwrap_or x None)) (get_set old o.0 p.0 (row_after_death (row_at old o.0)) d) ∙ h, refl)
    ]
