-- Which steps of a world keep call-outs: all but those that make one and take one out keep all of them as they are.
use Rattle.std.proofs.Common.{◌≡◌, ◌⊎◌, ◌++◌, ◌∷◌, [], ℕ, ◌≤◌, ◌+◌, inl, inr, Bool, true, false, cond, List, Option, Some, None, refl, ap, subst, filter, not, nat_eq, length, arith, IsSome, if◌then◌else◌}
use Rattle.lp_values.specs.declared.id.CellId.{CellId}
use Rattle.lp_values.specs.declared.id.ObjId.{ObjId}
use Rattle.lp_values.specs.declared.id.ProgId.{ProgId}
use Rattle.lp_values.specs.declared.value.Value.{Value}
use Rattle.lp_cells.specs.declared.content.Content.{Content}
use Rattle.lp_cells.specs.declared.content.Content.TheVariants.{Mapping}
use Rattle.lp_cells.specs.Cells.{KeepsThere, Store, content_set, item_set, items_at, pairs_at, with_cell}
use Rattle.lp_timers.specs.Timers.{CallOut}
use Rattle.lp_language.specs.World.{World, Version, Object, IsSameObject, object_at, with_object, with_cells, is_live}
use Rattle.lp_language.specs.Operations.{with_variable}
use Rattle.lp_meaning.specs.WorldEfuns.{with_call_out, without_one}
use Rattle.lp_meaning.specs.WorldSteps.{with_new_object, with_new_version, entered, without_object, without_connection_if, destructed, connection_of}
use Rattle.lp_lasting_laws.specs.Lasting.{IsAmong, Keeps}

-- Lists

among_filter : (p : CallOut → Bool) (c : CallOut) (cs : List CallOut) → IsAmong c (filter p cs) → IsAmong c cs
among_filter p c [] h = h
among_filter p c (d ∷ ds) h = by (p d) (among_filter p c ds) h
  where
    by : (b : Bool) → (IsAmong c (filter p ds) → IsAmong c ds) → IsAmong c (if b then d ∷ filter p ds else filter p ds) → IsAmong c (d ∷ ds)
    by true k (inl e) = inl e
    by true k (inr i) = inr (k i)
    by false k i = inr (k i)

among_more : (c x : CallOut) (cs : List CallOut) → IsAmong c (cs ++ x ∷ []) → IsAmong c cs ⊎ (c ≡ x)
among_more c x [] (inl e) = inr e
among_more c x [] (inr i) = absurd i
among_more c x (d ∷ ds) (inl e) = inl (inl e)
among_more c x (d ∷ ds) (inr i) = elim (among_more c x ds i) [ inl was ↦ inl (inr was) | inr is ↦ inr is ]

-- Worlds

pub keeps_same : (w : World) → Keeps w w
keeps_same w = record { next = omega arith; same = λ c l h. h }

pub keeps_trans : (u v w : World) → Keeps u v → Keeps v w → Keeps u w
keeps_trans u v w a b = record {
  next = (let i = a.next in let j = b.next in omega (arith, i, j));
  same = λ c l h. a.same c l (b.same c (let i = a.next in omega (arith, l, i)) h);
}

-- a world with the same call-outs
pub keeps_these : (w v : World) → v.call_outs ≡ w.call_outs → v.next_call_out ≡ w.next_call_out → Keeps w v
keeps_these w v p q = record { next = omega (arith, q); same = λ c l h. subst (IsAmong c) p h }

-- where some go
pub keeps_filter : (w v : World) (p : CallOut → Bool) → v.call_outs ≡ filter p w.call_outs → v.next_call_out ≡ w.next_call_out → Keeps w v
keeps_filter w v p e q = record { next = omega (arith, q); same = λ c l h. among_filter p c w.call_outs (subst (IsAmong c) e h) }

-- one is made
pub keeps_new_call_out : (w : World) (o : ObjId) (fun : List ℕ) (delay : ℕ) (vs : List Value) → Keeps w (with_call_out w o fun delay vs)
keeps_new_call_out w o fun delay vs = record {
  next = omega arith;
  same = λ c l h. elim (among_more c (record { number = w.next_call_out; object = o; function = fun; due = w.clock + delay; arguments = vs }) w.call_outs h) [
    | inl was ↦ was
    | inr is ↦ (let e : c.number ≡ w.next_call_out = ap (λ (x : CallOut). x.number) is in absurd (omega (arith, e, l)))
  ];
}

-- one is taken out
pub keeps_less : (w : World) (x : CallOut) → Keeps w (without_one w (Some x))
keeps_less w x = keeps_filter w (without_one w (Some x)) (λ c. not (nat_eq c.number x.number)) refl refl

pub keeps_cells : (w : World) (cells : Store) → KeepsThere w.cells cells → length w.cells ≤ length cells → Keeps w (with_cells w cells)
keeps_cells w cells k l = keeps_these w (with_cells w cells) refl refl

pub keeps_cell : (w : World) (x : Content) → Keeps w (with_cells w (with_cell w.cells x))
keeps_cell w x = keeps_these w (with_cells w (with_cell w.cells x)) refl refl

pub keeps_item : (w : World) (c : CellId) (i : ℕ) (v : Value) → IsSome (items_at w.cells c) → Keeps w (with_cells w (item_set w.cells c i v))
keeps_item w c i v h = keeps_these w (with_cells w (item_set w.cells c i v)) refl refl

pub keeps_pairs : (w : World) (c : CellId) (ps qs : List (Value × Value)) → pairs_at w.cells c ≡ Some ps → Keeps w (with_cells w (content_set w.cells c (Mapping qs)))
keeps_pairs w c ps qs h = keeps_these w (with_cells w (content_set w.cells c (Mapping qs))) refl refl

pub keeps_variable : (w : World) (o : ObjId) (i : ℕ) (v : Value) → Keeps w (with_object w o (with_variable (object_at w o) i v))
keeps_variable w o i v = keeps_these w (with_object w o (with_variable (object_at w o) i v)) refl refl

pub keeps_object : (w : World) (o : ObjId) (y : Object) → IsSameObject (object_at w o) y → Keeps w (with_object w o y)
keeps_object w o y h = keeps_these w (with_object w o y) refl refl

pub keeps_new_version : (w : World) (v : Version) → Keeps w (with_new_version w v)
keeps_new_version w v = keeps_these w (with_new_version w v) refl refl

pub keeps_new_object : (w : World) (name : List ℕ) (v : ProgId) → Keeps w (with_new_object w name v)
keeps_new_object w name v = keeps_these w (with_new_object w name v) refl refl

pub keeps_entered : (w : World) (o : ObjId) (v : ProgId) → Keeps w (entered w o v)
keeps_entered w o v = keeps_these w (entered w o v) refl refl

keeps_without_object : (w : World) (o : ObjId) → Keeps w (without_object w o)
keeps_without_object w o = keeps_filter w (without_object w o) (λ c. not (nat_eq c.object.0 o.0)) refl refl

keeps_without_connection : (w : World) (k : Option ℕ) → Keeps w (without_connection_if w k)
keeps_without_connection w None = keeps_same w
keeps_without_connection w (Some k) = keeps_these w (without_connection_if w (Some k)) refl refl

keeps_cond : (w : World) (b : Bool) (u v : World) → Keeps w u → Keeps w v → Keeps w (cond b u v)
keeps_cond w true u v h g = h
keeps_cond w false u v h g = g

pub keeps_destructed : (w : World) (o : ObjId) → Keeps w (destructed w o)
keeps_destructed w o =
    let w1 = without_object w o in
    keeps_cond w (is_live w o) (without_connection_if w1 (connection_of w o)) w (keeps_trans w w1 (without_connection_if w1 (connection_of w o)) (keeps_without_object w o) (keeps_without_connection w1 (connection_of w o))) (keeps_same w)
