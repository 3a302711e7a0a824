-- Efuns that change something, and those that throw.
use Rattle.std.proofs.Common.{◌≡◌, ◌∙◌, ◌%◌, ℕ, ℤ, zero, suc, pos, negsuc, Bool, true, false, List, Option, Some, None, refl, ap, sym, subst, arith, slice_get, unwrap_or, map, option_map, IsSome, [], nat_eq, if◌then◌else◌}
use Rattle.rand_xoshiro.specs.SplitMix64.{mix_u64}
use Rattle.std.proofs.lemmas.Option.{slice_get-map}
use Rattle.lp_values.specs.declared.id.CellId.{CellId}
use Rattle.lp_values.specs.declared.id.ObjId.{ObjId}
use Rattle.lp_values.specs.declared.value.Value.{Value}
use Rattle.lp_values.specs.declared.value.Value.TheVariants as values
use Rattle.lp_cells.specs.Cells.{IsThere, Store, as_pairs, content_set, pairs_at, stored_pairs}
use Rattle.lp_cells.specs.Mapping.{pairs_dropped, pairs_there}
use Rattle.lp_cells.specs.declared.content.Content.{Content}
use Rattle.lp_cells.specs.declared.content.Content.TheVariants as content
use Rattle.lp_ops.specs.Integers.{int}
use Rattle.lp_ops.specs.Operands.{Mapping, Number, opened, operand}
use Rattle.lp_instr.specs.declared.efun.Efun.TheVariants as efuns
use Rattle.lp_places.specs.Places.{Lying, Shadowing, unshadowed}
use Rattle.lp_places.specs.Stands.{Stands as Place}
use Rattle.lp_places.specs.declared.places.Places.{Places}
use Rattle.lp_language.specs.Course.{State}
use Rattle.lp_language.specs.Operations.{cells_of, living, seen, with_world}
use Rattle.lp_language.specs.World.{World, with_cells}
use Rattle.lp_meaning.specs.ComputingEfuns.{from_zero}
use Rattle.lp_meaning.specs.EfunArguments.{arg, int_arg, opened_args, value_arg}
use Rattle.lp_meaning.specs.WorldEfuns.{Yields, changes, deed, m_delete, pairs_left, random, with_generator, zero as none}
use Rattle.lp_world.specs.Rows.{live_in}
use Rattle.lp_world.specs.declared.live.Live.{Live}
use Rattle.lp_world.proofs.Keeping.{live_same, stands_with_content}
use Rattle.lp_efuns.specs.declared.answer.Did.{Did}
use Rattle.lp_efuns.specs.declared.answer.Did.TheVariants as did
use Rattle.lp_efuns.specs.declared.caller.Caller.{Caller}
use Rattle.lp_efuns.specs.declared.caller.Turn.{Turn}
use Rattle.lp_efuns.specs.Deeds.{Does, HasDropped, IsDone, deed_done}
use Rattle.lp_efuns.specs.Turns.{At}
use Rattle.lp_efuns.specs.Subjects.{mapping_arg, mapping_in_option}
use Rattle.lp_efuns.proofs.Acted.{at_cells}
use Rattle.lp_efuns.proofs.Rested.{at_generator, at_places}

-- `random`

-- by the bound, from 0 up
by_bound : (z : ℤ) (s : State) → random z s ≡ random (pos (from_zero z)) s
by_bound (pos n) s = refl
by_bound (negsuc n) s = refl

pub no_random : (caller : Caller) (vs : List Value) (live : Live) (turn : Turn) (n : ℕ) → n ≡ 0 → ((l : ObjId → Bool) (cells : Store) → n ≡ from_zero (int_arg (map (operand l cells) vs) 0))
    → Does efuns.Random caller vs live turn (did.Value (values.Int (pos 0))) live turn
unfolding deed
no_random caller vs live turn n z is g b c s sc h =
    subst (λ d. IsDone (did.Value (values.Int (pos 0))) (At g live turn b) (deed_done d s))
    (sym (by_bound (int_arg (opened_args s vs) 0) s ∙ ap (λ n. random (pos n) s) (sym (is (living s) (cells_of s)) ∙ z))) (refl, h)

not_zero : (n : ℕ) → (n ≡ 0 → ⊥) → nat_eq n 0 ≡ false
not_zero zero l = absurd (l refl)
not_zero (suc n) l = grind arith

random_some : (n : ℕ) (s : State) → (n ≡ 0 → ⊥) → random (pos n) s ≡ changes (with_generator s.world (mix_u64 s.world.generator).1) (int (pos ((mix_u64 s.world.generator).0 % n))) s
random_some n s l = ap (λ b. if b then Yields none s else changes (with_generator s.world (mix_u64 s.world.generator).1) (int (pos ((mix_u64 s.world.generator).0 % n))) s) (not_zero n l)

pub some_random : (caller : Caller) (vs : List Value) (live : Live) (turn : Turn) (n : ℕ) (d : Did) (word next : ℕ) → (n ≡ 0 → ⊥) → ((l : ObjId → Bool) (cells : Store) → n ≡ from_zero (int_arg (map (operand l cells) vs) 0))
    → (word, next) ≡ mix_u64 live.generator → d ≡ did.Value (values.Int (pos (word % n))) → Does efuns.Random caller vs live turn d (record live { generator = next }) turn
unfolding deed
some_random caller vs live turn n d word next l is e q g b c s sc h =
    let m : (word, next) ≡ mix_u64 s.world.generator = e ∙ ap mix_u64 h.stands.rest.generator in
    subst (λ d. IsDone d (At g (record live { generator = next }) turn b) (deed_done (random (int_arg (opened_args s vs) 0) s) s)) (sym q)
    (subst (λ x. IsDone (did.Value (values.Int (pos (word % n)))) (At g (record live { generator = next }) turn b) (deed_done x s))
    (sym (by_bound (int_arg (opened_args s vs) 0) s ∙ ap (λ n. random (pos n) s) (sym (is (living s) (cells_of s))) ∙ random_some n s l))
    (ap (λ p. values.Int (pos (p.0 % n))) (sym m), at_generator g live turn b s next (mix_u64 s.world.generator).1 (ap (λ p. p.1) m) h))

-- `throw`

pub throw_does : (caller : Caller) (vs : List Value) (live : Live) (turn : Turn) (v : Value) → v ≡ value_arg vs 0 → Does efuns.Throw caller vs live turn (did.Thrown v) live turn
unfolding deed
throw_does caller vs live turn v e g b c s sc h = (sym e, h)

-- `m_delete`

no_mapping : (l : ObjId → Bool) (cells : Store) (s : State) (k : Value) (o : Option Value) → mapping_in_option o ≡ None → m_delete s (unwrap_or (option_map (operand l cells) o) (Number (pos 0))) k ≡ Yields none s
no_mapping l cells s k None e = refl
no_mapping l cells s k (Some (values.Int n)) e = refl
no_mapping l cells s k (Some (values.Str t)) e = refl
no_mapping l cells s k (Some (values.Arr c)) e = refl
no_mapping l cells s k (Some (values.Map c)) e = cc
no_mapping l cells s k (Some (values.Obj o)) e = by (l o)
  where
    by : (b : Bool) → m_delete s (opened l cells (unwrap_or (if b then Some (values.Obj o) else None) (values.Int (pos 0)))) k ≡ Yields none s
    by true = refl
    by false = refl

-- what is no mapping loses nothing
pub nothing_dropped : (caller : Caller) (vs : List Value) (live : Live) (turn : Turn) → mapping_arg vs 0 ≡ None → Does efuns.MDelete caller vs live turn (did.Value (values.Int (pos 0))) live turn
unfolding deed
nothing_dropped caller vs live turn e g b c s sc h =
    subst (λ d. IsDone (did.Value (values.Int (pos 0))) (At g live turn b) (deed_done d s))
    (sym (ap (λ o. m_delete s (unwrap_or o (Number (pos 0))) (value_arg vs 1)) (slice_get-map (seen s) vs 0) ∙ no_mapping (living s) (cells_of s) s (value_arg vs 1) (slice_get vs 0) e)) (refl, h)

mapping_there : (o : Option (Option Content)) → IsSome (as_pairs (unwrap_or o None)) → (ps : List (Value × Value)) × (o ≡ Some (Some (content.Mapping ps)))
mapping_there None h = cc
mapping_there (Some None) h = cc
mapping_there (Some (Some (content.Array vs))) h = cc
mapping_there (Some (Some (content.Mapping ps))) h = (ps, refl)

found_mapping : (o : Option Value) (c : CellId) → mapping_in_option o ≡ Some c → o ≡ Some (values.Map c)
found_mapping None c e = cc
found_mapping (Some (values.Int n)) c e = cc
found_mapping (Some (values.Str t)) c e = cc
found_mapping (Some (values.Arr d)) c e = cc
found_mapping (Some (values.Map d)) c e = ap (λ o. Some (values.Map (unwrap_or o d))) e
found_mapping (Some (values.Obj o)) c e = cc

-- a key of a mapping that is there goes
pub key_dropped : (caller : Caller) (vs : List Value) (live live1 : Live) (turn : Turn) (c : CellId) (k : Value) → mapping_arg vs 0 ≡ Some c → IsThere live.cells (values.Map c) → k ≡ value_arg vs 1 → HasDropped live c k live1
    → Does efuns.MDelete caller vs live turn (did.Value (values.Map c)) live1 turn
unfolding deed
key_dropped caller vs live live1 turn c k e there q drops g b d s sc h =
    let t = mapping_there (slice_get live.cells c.0) there in
    let whole : pairs_at s.world.cells c ≡ Some t.0 = ap (λ o. as_pairs (unwrap_or o None)) (h.stands.cells.same c.0 (content.Mapping t.0) t.1) in
    let mine : stored_pairs live.cells c ≡ t.0 = ap (λ o. unwrap_or (as_pairs (unwrap_or o None)) []) t.1 in
    let l : live_in live.objects ≡ living s = live_same g.told g.programs live s.world h.stands in
    let new : Content = content.Mapping (pairs_dropped (living s) t.0 (value_arg vs 1)) in
    let w : World = with_cells s.world (content_set s.world.cells c new) in
    let same : live1 ≡ record live { cells = content_set live.cells c new } =
    drops ∙ ap (λ l. record live { cells = content_set live.cells c (content.Mapping (pairs_dropped l (stored_pairs live.cells c) k)) }) l
    ∙ ap (λ ps. record live { cells = content_set live.cells c (content.Mapping (pairs_dropped (living s) ps k)) }) mine
    ∙ ap (λ k. record live { cells = content_set live.cells c (content.Mapping (pairs_dropped (living s) t.0 k)) }) q in
    let argument : arg (opened_args s vs) 0 ≡ Mapping c (pairs_there (living s) (stored_pairs (cells_of s) c)) =
    ap (λ o. unwrap_or o (Number (pos 0))) (slice_get-map (seen s) vs 0 ∙ ap (option_map (seen s)) (found_mapping (slice_get vs 0) c e)) in
    subst (λ d. IsDone (did.Value (values.Map c)) (At g live1 turn b) (deed_done d s))
    (sym (ap (λ x. m_delete s x (value_arg vs 1)) argument ∙ ap (λ o. pairs_left s c o (value_arg vs 1)) whole)) (
      refl,
      subst (λ l. At g l turn b (with_world s w)) (sym same)
          (at_cells g live (content_set live.cells c new) turn b s w h (stands_with_content g.told g.programs live s.world c (content.Mapping t.0) new h.stands t.1)),
    )

-- `unshadow`

pub unshadow_does : (caller : Caller) (vs : List Value) (live : Live) (turn : Turn) (p : Places) → ((places : List Lying) (shadows : List Shadowing) → Place live.places places shadows → Place p places (unshadowed shadows caller.this))
    → Does efuns.Unshadow caller vs live turn (did.Value (values.Int (pos 0))) (record live { places = p }) turn
unfolding deed
unshadow_does caller vs live turn p f g b c s sc h =
    (refl, at_places g live turn b s p (unshadowed s.world.shadows c.this) (subst (λ o. Place p s.world.places (unshadowed s.world.shadows o)) (sym sc.this) (f s.world.places s.world.shadows h.stands.rest.places)) h)
