-- Programs that come into memory: fewer are out.
use Rattle.std.proofs.Common.{◌≡◌, ◌∙◌, ◌+◌, ◌<◌, ℕ, zero, suc, true, false, List, [], ◌∷◌, Option, Some, None, IsSome, refl, ap, sym, subst, arith, slice_get, unwrap_or}
use Rattle.std.specs.Prelude.{slice_set}
use Rattle.lp_values.specs.declared.id.ProgId.{ProgId}
use Rattle.lp_swapper.specs.declared.ticket.Ticket.{Ticket}
use Rattle.lp_world.specs.declared.live.Live.{Live}
use Rattle.lp_world.specs.declared.versions.ProgramState.{ProgramState}
use Rattle.lp_world.specs.declared.versions.ProgramState.TheVariants as programs_of
use Rattle.lp_world.specs.declared.versions.Version.{Version}
use Rattle.lp_world.specs.Rows.{row_at, version_state, version_with_state}
use Rattle.lp_residence.specs.Entering.{IsEntered}
use Rattle.lp_residence.specs.Owners.{program_of, ticket_at, ticket_of_version}
use Rattle.lp_residence.specs.declared.owner.Owner.TheVariants as owners
use Rattle.lp_residence.proofs.RowChanges.{row_there}
use Rattle.lp_making.specs.Objects.{program_at}
use Rattle.lp_loading.specs.Present.{is_out, is_swapped, one_if, out_count}

out_set : (rows : List (Option Version)) (n : ℕ) (x y : Option Version) → slice_get rows n ≡ Some x → is_out x ≡ true → is_out y ≡ false → out_count (slice_set rows n y) < out_count rows
out_set [] n x y e a b = absurd cc
out_set (z ∷ rows) zero x y e a b =
    let same : z ≡ x = ap (λ o. unwrap_or o z) e in
    let old : out_count (z ∷ rows) ≡ 1 + out_count rows = ap (λ q. one_if q + out_count rows) (ap is_out same ∙ a) in
    let new : out_count (y ∷ rows) ≡ 0 + out_count rows = ap (λ q. one_if q + out_count rows) b in
    let l : out_count (y ∷ rows) < out_count (z ∷ rows) = omega (arith, old, new) in
    l
out_set (z ∷ rows) (suc n) x y e a b =
    let i = out_set rows n x y e a b in
    let old : out_count (z ∷ rows) ≡ one_if (is_out z) + out_count rows = refl in
    let new : out_count (z ∷ slice_set rows n y) ≡ one_if (is_out z) + out_count (slice_set rows n y) = refl in
    let l : out_count (z ∷ slice_set rows n y) < out_count (z ∷ rows) = omega (arith, old, new, i) in
    l

-- a program that was out is in memory
pub less_out : (old new : Live) (p : ProgId) → IsSome (row_at old.versions p.0) → program_at old.versions p ≡ None → IsEntered (owners.Program p) old new (ticket_at old (owners.Program p))
    → out_count new.versions < out_count old.versions
less_out old new p s n h = by (row_at old.versions p.0) refl s n
  where
    back : (v : Version) (t : Ticket) → row_at old.versions p.0 ≡ Some v → v.state ≡ programs_of.Swapped t → out_count new.versions < out_count old.versions
    back v t r q =
        let ticket : ticket_at old (owners.Program p) ≡ Some t = ap (λ o. ticket_of_version (version_state o)) r ∙ ap (λ s. ticket_of_version (Some s)) q in
        let b = subst (IsEntered (owners.Program p) old new) ticket h in
        let y : Option Version = version_with_state (row_at old.versions p.0) (programs_of.Resident b.0) in
        let i = out_set old.versions p.0 (Some v) y (row_there old.versions p.0 v r) (ap is_swapped q) (ap (λ o. is_out (version_with_state o (programs_of.Resident b.0))) r) in
        subst (λ (l : Live). out_count l.versions < out_count old.versions) (sym b.1) i

    state_by : (v : Version) → row_at old.versions p.0 ≡ Some v → (s : ProgramState) → v.state ≡ s → program_of (Some s) ≡ None → out_count new.versions < out_count old.versions
    state_by v r (programs_of.Resident raw) q n = absurd cc
    state_by v r (programs_of.Swapped t) q n = back v t r q

    by : (o : Option Version) → row_at old.versions p.0 ≡ o → IsSome o → program_of (version_state o) ≡ None → out_count new.versions < out_count old.versions
    by None r s n = absurd cc
    by (Some v) r s n = state_by v r v.state refl n
