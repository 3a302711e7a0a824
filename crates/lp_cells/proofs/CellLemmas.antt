-- Laws of cells.
use Rattle.std.proofs.Common.{◌≡◌, Bool, [], Option, Some, None, Ok, Err, Result, refl, ap, ◌∙◌, sym, subst, slice_get, unwrap_or, get_or, IsSome}
use Rattle.std.specs.Prelude.{slice_set}
use Rattle.std.proofs.lemmas.List.{set-get_or}
use Rattle.std.proofs.lemmas.Option.{get_or_from_slice_get}
use Rattle.lp_values.specs.declared.id.CellId.{CellId}
use Rattle.lp_values.specs.declared.id.ObjId.{ObjId}
use Rattle.lp_values.specs.declared.value.Value.{Value}
use Rattle.lp_cells.specs.Cells.{Store, as_pairs, content_at, content_set, pairs_at, stored_pairs}
use Rattle.lp_cells.specs.Mapping.{IsFullFor, pairs_put}
use Rattle.lp_cells.specs.Refusals.{IsRefusal, UnlessFull}
use Rattle.lp_cells.specs.declared.content.Content.{Content}
use Rattle.lp_cells.specs.declared.content.Content.TheVariants.{Mapping}
use Rattle.lp_cells.specs.declared.fault.CellFault.{CellFault}

-- what stands in the slot of a mapping
pub slot_content : (cells : Store) (c : CellId) (old : Option Content) → old ≡ get_or cells c.0 old → IsSome (pairs_at cells c) → content_at cells c ≡ old
slot_content cells c old e h = by (slice_get cells c.0) refl
  where
    by : (o : Option (Option Content)) → slice_get cells c.0 ≡ o → content_at cells c ≡ old
    by None q = let n : IsSome (as_pairs None) = rw q at h in cc
    by (Some x) q = rw q (sym (e ∙ get_or_from_slice_get cells c.0 x old q))

-- a put into the slot of a mapping, seen as one into all cells
pub put_slot : (live : ObjId → Bool) (cells : Store) (c : CellId) (old new : Option Content) (k v : Value) (r : Result (Unit {0}) CellFault)
    → old ≡ get_or cells c.0 old → IsSome (pairs_at cells c)
    → UnlessFull (IsFullFor live (unwrap_or (as_pairs old) []) k) (λ _. new ≡ Some (Mapping (pairs_put live (unwrap_or (as_pairs old) []) k v))) (new ≡ old) r
    → UnlessFull (IsFullFor live (stored_pairs cells c) k) (λ _. slice_set cells c.0 new ≡ content_set cells c (Mapping (pairs_put live (stored_pairs cells c) k v))) (slice_set cells c.0 new ≡ cells) r
put_slot live cells c old new k v (Ok u) e i h =
    let s = slot_content cells c old e i in (
      λ f. h.0 (subst (λ o. IsFullFor live (unwrap_or (as_pairs o) []) k) s f),
      ap (slice_set cells c.0) (h.1 ∙ ap (λ o. Some (Mapping (pairs_put live (unwrap_or (as_pairs o) []) k v))) (sym s)),
    )
put_slot live cells c old new k v (Err f) e i h =
    let s = slot_content cells c old e i in (
      subst (λ o. IsRefusal (IsFullFor live (unwrap_or (as_pairs o) []) k) f) (sym s) h.0,
      ap (slice_set cells c.0) (h.1 ∙ e) ∙ set-get_or cells c.0 old,
    )
