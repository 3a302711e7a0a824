-- What names mean in a tree does not tell of clocks.
use Rattle.std.proofs.Common.{◌≡◌, ◌∙◌, ◌+◌, ◌++◌, ℕ, zero, suc, List, [], ◌∷◌, Option, Some, None, refl, ap, sym, subst, map, slice_get, unwrap_or, if◌then◌else◌, length}
use Rattle.std.specs.Option.{option_map}
use Rattle.lp_values.specs.declared.id.ProgId.{ProgId}
use Rattle.lp_code.specs.declared.program.RawProgram.{RawProgram}
use Rattle.lp_code.specs.declared.tables.Slot.{Slot}
use Rattle.lp_language.specs.World.{Version, World, new_world, no_version, version_at}
use Rattle.lp_language.specs.Resolve.{Found, Heritage, Heir, Heritages, NoParent, OneParent, Part, each_heritage, found_in, heritage_within, internal_from, is_hidden, moved, number_of, or_else, own_function, own_variables, parents_parts, part_at, part_count, parts, parts_before, parts_from, resolve, resolve_last, shown, variable_count, variables_before, version_of}
use Rattle.lp_isa.specs.Programs.{IsReached, Reached, fun_from, fun_in, own_functions}
use Rattle.lp_inherit.specs.Heirs.{laid, table, tables}
use Rattle.lp_world.specs.Stands.{AreTargets, IsTarget, heritage_in, reached_of, slot_in, slot_of_part}
use Rattle.lp_world.specs.declared.targets.FunAt.{FunAt}
use Rattle.lp_making.specs.Trees.{AreSameTrees, AreAlike, timeless, timeless_part, timeless_tree, timeless_trees}

-- Counts

mutual
  pub parts_counted : (h : Heritage) → part_count (timeless_tree h) ≡ part_count h
  parts_counted (Heir n v ps) = ap suc (parts_counted_before ps)

  parts_counted_before : (hs : Heritages) → parts_before (timeless_trees hs) ≡ parts_before hs
  parts_counted_before NoParent = refl
  parts_counted_before (OneParent h hs) = ap (λ k. k + parts_before (timeless_trees hs)) (parts_counted h) ∙ ap (λ k. part_count h + k) (parts_counted_before hs)

mutual
  pub variables_counted : (h : Heritage) → variable_count (timeless_tree h) ≡ variable_count h
  variables_counted (Heir n v ps) = ap (λ k. k + length (own_variables v.items)) (variables_counted_before ps)

  variables_counted_before : (hs : Heritages) → variables_before (timeless_trees hs) ≡ variables_before hs
  variables_counted_before NoParent = refl
  variables_counted_before (OneParent h hs) = ap (λ k. k + variables_before (timeless_trees hs)) (variables_counted h) ∙ ap (λ k. variable_count h + k) (variables_counted_before hs)

-- Functions

mutual
  pub resolved : (h : Heritage) (w : List ℕ) → resolve (timeless_tree h) w ≡ resolve h w
  resolved (Heir n v ps) w =
      ap (λ k. or_else (found_in k (own_function v.items w)) (resolve_last (timeless_trees ps) 0 w)) (parts_counted_before ps)
      ∙ ap (λ o. or_else (found_in (parts_before ps) (own_function v.items w)) o) (resolved_last ps 0 w)

  resolved_last : (hs : Heritages) (first : ℕ) (w : List ℕ) → resolve_last (timeless_trees hs) first w ≡ resolve_last hs first w
  resolved_last NoParent first w = refl
  resolved_last (OneParent h hs) first w =
      ap (λ k. or_else (resolve_last (timeless_trees hs) (first + k) w) (moved first (shown (resolve (timeless_tree h) w)))) (parts_counted h)
      ∙ ap (λ o. or_else o (moved first (shown (resolve (timeless_tree h) w)))) (resolved_last hs (first + part_count h) w)
      ∙ ap (λ o. or_else (resolve_last hs (first + part_count h) w) (moved first (shown o))) (resolved h w)

-- Parts

map_append : {A B : Type 0} (f : A → B) (xs ys : List A) → map f (xs ++ ys) ≡ map f xs ++ map f ys
map_append f [] ys = refl
map_append f (x ∷ xs) ys = ap (λ l. f x ∷ l) (map_append f xs ys)

map_get : {A B : Type 0} (f : A → B) (xs : List A) (n : ℕ) → slice_get (map f xs) n ≡ option_map f (slice_get xs n)
map_get f [] n = refl
map_get f (x ∷ xs) zero = refl
map_get f (x ∷ xs) (suc n) = map_get f xs n

mutual
  parts_same : (h : Heritage) (first base : ℕ) → parts_from (timeless_tree h) first base ≡ map timeless_part (parts_from h first base)
  parts_same (Heir n v ps) first base =
      ap (λ l. l ++ record { tree = Heir n (timeless v) (timeless_trees ps); first = first; base = base } ∷ []) (parents_same ps first base)
      ∙ sym (map_append timeless_part (parents_parts ps first base) (record { tree = Heir n v ps; first = first; base = base } ∷ []))

  parents_same : (hs : Heritages) (first base : ℕ) → parents_parts (timeless_trees hs) first base ≡ map timeless_part (parents_parts hs first base)
  parents_same NoParent first base = refl
  parents_same (OneParent h hs) first base =
      ap (λ k. parts_from (timeless_tree h) first base ++ parents_parts (timeless_trees hs) (first + k) (base + variable_count (timeless_tree h))) (parts_counted h)
      ∙ ap (λ k. parts_from (timeless_tree h) first base ++ parents_parts (timeless_trees hs) (first + part_count h) (base + k)) (variables_counted h)
      ∙ ap (λ l. l ++ parents_parts (timeless_trees hs) (first + part_count h) (base + variable_count h)) (parts_same h first base)
      ∙ ap (λ l. map timeless_part (parts_from h first base) ++ l) (parents_same hs (first + part_count h) (base + variable_count h))
      ∙ sym (map_append timeless_part (parts_from h first base) (parents_parts hs (first + part_count h) (base + variable_count h)))

pub part_same : (h : Heritage) (i : ℕ) → part_at (timeless_tree h) i ≡ option_map timeless_part (part_at h i)
part_same h i = ap (λ l. slice_get l i) (parts_same h 0 0) ∙ map_get timeless_part (parts h) i

-- Internal calls

internal_same : (h : Heritage) (o : Option Part) (w : List ℕ) → internal_from (timeless_tree h) (option_map timeless_part o) w ≡ internal_from h o w
internal_same h None w = resolved h w
internal_same h (Some p) w =
    ap (λ f. if is_hidden f then moved p.first f else resolve (timeless_tree h) w) (resolved p.tree w)
    ∙ ap (λ f. if is_hidden (resolve p.tree w) then moved p.first (resolve p.tree w) else f) (resolved h w)

version_same : (h : Heritage) → version_of (timeless_tree h) ≡ timeless (version_of h)
version_same (Heir n v ps) = refl

number_same : (h : Heritage) → number_of (timeless_tree h) ≡ number_of h
number_same (Heir n v ps) = refl

fun_same : (o : Option Part) (w : List ℕ) → fun_in (option_map timeless_part o) w ≡ fun_in o w
fun_same None w = refl
fun_same (Some p) w = ap (λ (v : Version). fun_from 0 (own_functions v.items) w) (version_same p.tree)

slot_same : (programs : List RawProgram) (o : Option Part) (k : ℕ) → slot_of_part programs (option_map timeless_part o) k ≡ slot_of_part programs o k
slot_same programs None k = refl
slot_same programs (Some p) k = ap (λ (n : ProgId). slot_in (slice_get programs n.0) k) (number_same p.tree)

fun_at_same : (h : Heritage) (i : ℕ) (w : List ℕ) → fun_in (part_at (timeless_tree h) i) w ≡ fun_in (part_at h i) w
fun_at_same h i w = ap (λ o. fun_in o w) (part_same h i) ∙ fun_same (part_at h i) w

reached_there : (h : Heritage) (f : Option Found) (r : Option Reached) → IsReached h f r → IsReached (timeless_tree h) f r
reached_there h None None i = i
reached_there h None (Some r) i = absurd i
reached_there h (Some f) None i = absurd i
reached_there h (Some f) (Some r) i = (i.0, fun_at_same h f.part f.function.name ∙ i.1)

reached_back : (h : Heritage) (f : Option Found) (r : Option Reached) → IsReached (timeless_tree h) f r → IsReached h f r
reached_back h None None i = i
reached_back h None (Some r) i = absurd i
reached_back h (Some f) None i = absurd i
reached_back h (Some f) (Some r) i = (i.0, sym (fun_at_same h f.part f.function.name) ∙ i.1)

target_there : (h : Heritage) (o : Option Part) (s : Option Slot) (a : Option FunAt) → IsTarget h o s a → IsTarget (timeless_tree h) (option_map timeless_part o) s a
target_there h o None a i = absurd i
target_there h o (Some s) a i =
    subst (λ f. IsReached (timeless_tree h) f (reached_of a)) (sym (internal_same h o s.name)) (reached_there h (internal_from h o s.name) (reached_of a) i)

target_back : (h : Heritage) (o : Option Part) (s : Option Slot) (a : Option FunAt) → IsTarget (timeless_tree h) (option_map timeless_part o) s a → IsTarget h o s a
target_back h o None a i = absurd i
target_back h o (Some s) a i =
    reached_back h (internal_from h o s.name) (reached_of a) (subst (λ f. IsReached (timeless_tree h) f (reached_of a)) (internal_same h o s.name) i)

targets_there : (programs : List RawProgram) (h : Heritage) (kept : ℕ → ℕ → Option (Option FunAt)) → AreTargets programs h kept → AreTargets programs (timeless_tree h) kept
targets_there programs h kept t part slot a e =
    subst (λ o. IsTarget (timeless_tree h) o (slot_of_part programs o slot) a) (sym (part_same h part))
    (subst (λ s. IsTarget (timeless_tree h) (option_map timeless_part (part_at h part)) s a) (sym (slot_same programs (part_at h part) slot))
    (target_there h (part_at h part) (slot_of_part programs (part_at h part) slot) a (t part slot a e)))

targets_back : (programs : List RawProgram) (h : Heritage) (kept : ℕ → ℕ → Option (Option FunAt)) → AreTargets programs (timeless_tree h) kept → AreTargets programs h kept
targets_back programs h kept t part slot a e =
    target_back h (part_at h part) (slot_of_part programs (part_at h part) slot) a
    (subst (λ s. IsTarget (timeless_tree h) (option_map timeless_part (part_at h part)) s a) (slot_same programs (part_at h part) slot)
    (subst (λ o. IsTarget (timeless_tree h) o (slot_of_part programs o slot) a) (part_same h part) (t part slot a e)))

pub targets_same : (programs : List RawProgram) (h k : Heritage) (kept : ℕ → ℕ → Option (Option FunAt)) → AreSameTrees h k → AreTargets programs h kept → AreTargets programs k kept
targets_same programs h k kept e t = targets_back programs k kept (subst (λ x. AreTargets programs x kept) e (targets_there programs h kept t))

-- Tables

mutual
  pub table_same : (h : Heritage) → table (timeless_tree h) ≡ table h
  table_same (Heir n v ps) = ap (laid n v) (tables_same ps)

  pub tables_same : (hs : Heritages) → tables (timeless_trees hs) ≡ tables hs
  tables_same NoParent = refl
  tables_same (OneParent h hs) = ap (λ t. t ∷ tables (timeless_trees hs)) (table_same h) ∙ ap (λ ts. table h ∷ ts) (tables_same hs)

-- Trees among versions that differ in clocks alone

each_same : (f g : ProgId → Heritage) → ((v : ProgId) → timeless_tree (f v) ≡ timeless_tree (g v)) → (vs : List ProgId) → timeless_trees (each_heritage f vs) ≡ timeless_trees (each_heritage g vs)
each_same f g e [] = refl
each_same f g e (v ∷ vs) = ap (λ h. OneParent h (timeless_trees (each_heritage f vs))) (e v) ∙ ap (λ hs. OneParent (timeless_tree (g v)) hs) (each_same f g e vs)

within_same : (n : ℕ) (w u : World) → ((v : ProgId) → timeless (version_at w v) ≡ timeless (version_at u v)) → (v : ProgId) → timeless_tree (heritage_within n w v) ≡ timeless_tree (heritage_within n u v)
within_same zero w u e v = ap (λ x. Heir v x NoParent) (e v)
within_same (suc n) w u e v =
    ap (λ (x : Version). Heir v x (timeless_trees (each_heritage (heritage_within n w) x.parents))) (e v)
    ∙ ap (λ hs. Heir v (timeless (version_at u v)) hs) (each_same (heritage_within n w) (heritage_within n u) (within_same n w u e) (version_at u v).parents)

timeless_or : (o : Option Version) → timeless (unwrap_or o no_version) ≡ unwrap_or (option_map timeless o) no_version
timeless_or None = refl
timeless_or (Some v) = refl

pub heritage_same : (old new : List Version) (v : ProgId) → AreAlike old new → AreSameTrees (heritage_in old v) (heritage_in new v)
heritage_same old new v e =
    within_same v.0 (record (new_world [] 0 0) { versions = old }) (record (new_world [] 0 0) { versions = new })
    (λ u. timeless_or (slice_get old u.0) ∙ ap (λ o. unwrap_or o no_version) (sym (e u.0)) ∙ sym (timeless_or (slice_get new u.0))) v
