-- Variables of objects on the state and in the world.
use Rattle.std.proofs.Common.{◌≡◌, ◌⊎◌, inl, inr, ◌++◌, ◌∷◌, [], ◌∙◌, ℕ, ◌+◌, ◌-◌, List, Option, Some, None, length, length-append, refl, ap, sym, subst, arith, slice_get, unwrap_or}
use Rattle.std.specs.Prelude.{slice_set}
use Rattle.std.proofs.Math.ListN.{length-set}
use Rattle.lp_values.specs.declared.id.ObjId.{ObjId}
use Rattle.lp_values.specs.declared.value.Value.{Value}
use Rattle.lp_cells.specs.Cells.{IsThere, Store}
use Rattle.lp_swapfile.specs.Device.{Bytes}
use Rattle.lp_language.specs.Course.{zero_value}
use Rattle.lp_language.specs.Operations.{global_of, with_global, with_variable}
use Rattle.lp_language.specs.World as world
use Rattle.lp_language.specs.World.{no_object, object_at, with_object}
use Rattle.lp_isa.specs.Machine.{Moment, goes, on_one}
use Rattle.lp_world.specs.declared.frame.Frame.{Frame}
use Rattle.lp_world.specs.declared.live.Live.{Live}
use Rattle.lp_world.specs.declared.objects.Object.{Object}
use Rattle.lp_world.specs.declared.objects.ObjectState.{ObjectState}
use Rattle.lp_world.specs.declared.objects.ObjectState.TheVariants as objects_of
use Rattle.lp_world.specs.Rows.{HasPlace, IsWritten, variables_at, variables_in, variables_of, with_value}
use Rattle.lp_world.specs.Stands.{ObjectIs}
use Rattle.lp_world.specs.Matches.{Around, Matches, laid}
use Rattle.lp_world.proofs.Closing.{closed_with_variable}
use Rattle.lp_world.proofs.Keeping.{get_set, get_set_here, resident_same, same_or_not, stands_with_variable}
use Rattle.lp_step.specs.declared.next.Next.TheVariants as nexts
use Rattle.lp_step.specs.Steps.{IsFine, IsFit, KeepsVariables, LeadsTo}
use Rattle.lp_step.proofs.Fits.{get_all}
use Rattle.lp_step.proofs.Moves.{get_right, pushed}

-- the row of an object that is in memory
pub record IsResident (rows : List (Option Object)) (id : ObjId) : Type 0 where
  pub row : Object
  pub vs : List Value
  pub found : slice_get rows id.0 ≡ Some (Some row)
  pub state : row.state ≡ objects_of.Resident vs

state_resident : (s : ObjectState) (k : ℕ) → HasPlace (variables_of s) k → (vs : List Value) × (s ≡ objects_of.Resident vs)
state_resident (objects_of.Resident vs) k h = (vs, refl)
state_resident (objects_of.Swapped t shared own) k h = absurd h

pub resident : (rows : List (Option Object)) (id : ObjId) (k : ℕ) → HasPlace (variables_at rows id) k → IsResident rows id
resident rows id k h = by (slice_get rows id.0) refl h
  where
    by : (o : Option (Option Object)) → slice_get rows id.0 ≡ o → HasPlace (variables_in (unwrap_or o None)) k → IsResident rows id
    by None e h = absurd h
    by (Some None) e h = absurd h
    by (Some (Some row)) e h = let t = state_resident row.state k h in record { row = row; vs = t.0; found = e; state = t.1 }

-- its variables are those of the world
world_variables : (told : Option Bytes) (part whole : Store) (n : ℕ) (row : Object) (vs : List Value) (o : Option world.Object) → row.state ≡ objects_of.Resident vs → ObjectIs told part whole n (Some (Some row)) o → vs ≡ (unwrap_or o no_object).variables
world_variables told part whole n row vs None e h = absurd h
world_variables told part whole n row vs (Some x) e h = resident_same told part whole (record { 0 = n }) vs x.variables row.state e h.variables

pub variable_pushed : (a : Around) (live : Live) (stack0 stack1 : List Value) (frame : Frame) (budget : ℕ) (m : Moment) (k : ℕ) (v : Value)
    → Matches a live stack0 frame budget m → HasPlace (variables_at live.objects frame.this) (frame.base + k)
    → ((vs : List Value) → variables_at live.objects frame.this ≡ Some vs → slice_get vs (frame.base + k) ≡ Some v) → stack1 ≡ stack0 ++ v ∷ []
    → LeadsTo a nexts.Again live stack1 (record frame { at = frame.at + 1 }) budget (goes (m.place + 1) (global_of a.scene m.state k ∷ m.stack) m.catches m.state)
unfolding global_of
variable_pushed a live stack0 stack1 frame budget m k v h p g e =
    let r = resident live.objects frame.this (frame.base + k) p in
    let there : variables_at live.objects frame.this ≡ Some r.vs = ap (λ o. variables_in (unwrap_or o None)) r.found ∙ ap variables_of r.state in
    let same : r.vs ≡ (object_at m.state.world frame.this).variables =
    world_variables a.told live.cells m.state.world.cells frame.this.0 r.row r.vs (slice_get m.state.world.objects frame.this.0) r.state
    (subst (λ o. ObjectIs a.told live.cells m.state.world.cells frame.this.0 o (slice_get m.state.world.objects frame.this.0)) r.found (h.stands.objects frame.this.0)) in
    let at : slice_get (object_at m.state.world a.scene.this).variables (a.scene.base + k) ≡ Some v =
    ap (λ o. slice_get (object_at m.state.world o).variables (a.scene.base + k)) (sym h.sits.belongs.this)
    ∙ ap (λ l. slice_get l (a.scene.base + k)) (sym same) ∙ ap (λ n. slice_get r.vs (n + k)) (sym h.sits.belongs.base) ∙ g r.vs there in
    pushed a live stack0 stack1 frame budget m v (global_of a.scene m.state k) h e (ap (λ o. unwrap_or o zero_value) at)

pub variable_set : (a : Around) (live : Live) (rows : List (Option Object)) (stack : List Value) (frame : Frame) (budget : ℕ) (m : Moment) (k : ℕ) (v : Value) (len : ℕ)
    → len ≡ length stack → Matches a live stack frame budget m → HasPlace (variables_at live.objects frame.this) (frame.base + k) → slice_get stack (len - 1) ≡ Some v
    → IsWritten live.objects rows frame.this (frame.base + k) v
    → IsFine (on_one m.stack (λ u rest. goes (m.place + 1) (u ∷ rest) m.catches (with_global a.scene m.state k u)))
    → LeadsTo a nexts.Again (record live { objects = rows }) stack (record frame { at = frame.at + 1 }) budget (on_one m.stack (λ u rest. goes (m.place + 1) (u ∷ rest) m.catches (with_global a.scene m.state k u)))
unfolding with_global
variable_set a live rows stack frame budget m k v len ll h p g w fine = by m.stack h.sits.lies fine
  where
    base : List Value
    base = a.below ++ m.state.locals

    r : IsResident live.objects frame.this
    r = resident live.objects frame.this (frame.base + k) p

    by : (st : List Value) → stack ≡ laid base st → IsFine (on_one st (λ u rest. goes (m.place + 1) (u ∷ rest) m.catches (with_global a.scene m.state k u)))
        → LeadsTo a nexts.Again (record live { objects = rows }) stack (record frame { at = frame.at + 1 }) budget (on_one st (λ u rest. goes (m.place + 1) (u ∷ rest) m.catches (with_global a.scene m.state k u)))
    by [] l f = absurd f
    by (x ∷ xs) l f =
        let n : len - 1 ≡ length (laid base xs) + 0 = omega (arith, ll, ap length l, length-append (laid base xs) (x ∷ [])) in
        let s : Some x ≡ Some v = sym (get_right (laid base xs) (x ∷ []) (len - 1) 0 n) ∙ ap (λ s. slice_get s (len - 1)) (sym l) ∙ g in
        let vx : v ≡ x = sym (ap (λ o. unwrap_or o x) s) in
        let rows_are : slice_set live.objects frame.this.0 (Some (with_value r.row r.vs (frame.base + k) v)) ≡ rows = sym (w r.row r.vs r.found r.state) in
        let kept = stands_with_variable a.told a.programs live m.state.world frame.this r.row r.vs (frame.base + k) v h.stands r.found r.state in
        let u : world.World = with_object m.state.world a.scene.this (with_variable (object_at m.state.world a.scene.this) (a.scene.base + k) x) in
        record {
          m = record { place = m.place + 1; stack = x ∷ xs; catches = m.catches; state = record m.state { world = u } };
          matches = record {
            stands = rw (sym rows_are, sym vx, sym h.sits.belongs.this, sym h.sits.belongs.base) kept;
            sits = record { lies = l; bottom = h.sits.bottom; locals = h.sits.locals; place = ap (λ n. n + 1) h.sits.place; catches = h.sits.catches; belongs = h.sits.belongs };
            left = h.left;
            outputs = h.outputs;
            player = h.player;
            commands = h.commands;
          };
          told = refl;
        }

pub variable_fit : (live : Live) (rows : List (Option Object)) (stack : List Value) (id : ObjId) (k : ℕ) (v : Value)
    → HasPlace (variables_at live.objects id) k → IsWritten live.objects rows id k v → IsThere live.cells v → IsFit live stack → IsFit (record live { objects = rows }) stack
variable_fit live rows stack id k v p w t f =
    let r = resident live.objects id k p in
    record {
      closed = rw (w r.row r.vs r.found r.state) (closed_with_variable live id r.row r.vs k v f.closed r.found r.state t);
      there = f.there;
    }

-- a variable names what is there
pub variable_there : (live : Live) (stack : List Value) (id : ObjId) (k : ℕ) (v : Value)
    → HasPlace (variables_at live.objects id) k → ((vs : List Value) → variables_at live.objects id ≡ Some vs → slice_get vs k ≡ Some v) → IsFit live stack → IsThere live.cells v
variable_there live stack id k v p g f =
    let r = resident live.objects id k p in
    let there : variables_at live.objects id ≡ Some r.vs = ap (λ o. variables_in (unwrap_or o None)) r.found ∙ ap variables_of r.state in
    get_all (IsThere live.cells) r.vs k v ((f.closed.objects id.0 r.row r.found).variables r.vs (ap variables_of r.state)).1 (g r.vs there)

-- an object whose variable was written is in memory with as many variables, and so is each other one
pub written_home : (old new : List (Option Object)) (id : ObjId) (k : ℕ) (v : Value) → HasPlace (variables_at old id) k → IsWritten old new id k v → KeepsVariables old new
written_home old new id k v p w o us e = subst (λ rows. (xs : List Value) × (variables_at rows o ≡ Some xs) × (length xs ≡ length us)) (sym (w r.row r.vs r.found r.state)) (by (same_or_not id.0 o.0))
  where
    r : IsResident old id
    r = resident old id k p

    row : Option Object
    row = Some (with_value r.row r.vs k v)

    was : variables_at old id ≡ Some r.vs
    was = ap (λ q. variables_in (unwrap_or q None)) r.found ∙ ap variables_of r.state

    by : (id.0 ≡ o.0) ⊎ (id.0 ≡ o.0 → ⊥) → (xs : List Value) × (variables_at (slice_set old id.0 row) o ≡ Some xs) × (length xs ≡ length us)
    by (inl q) =
        let same : r.vs ≡ us = ap (λ l. unwrap_or l us) (let t : Some r.vs ≡ Some us = sym was ∙ ap (λ n. variables_in (unwrap_or (slice_get old n) None)) q ∙ e in t) in (
          slice_set r.vs k v,
          ap (λ n. variables_in (unwrap_or (slice_get (slice_set old id.0 row) n) None)) (sym q) ∙ ap (λ l. variables_in (unwrap_or l None)) (get_set_here old id.0 row (Some r.row) r.found),
          length-set r.vs k v ∙ ap length same,
        )
    by (inr d) = (us, ap (λ l. variables_in (unwrap_or l None)) (get_set old id.0 o.0 row d) ∙ e, refl)
