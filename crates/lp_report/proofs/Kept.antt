-- The versions that are kept, by the rows of the state and by the world.
use Rattle.std.proofs.Common.{◌≡◌, ◌∙◌, ◌⊎◌, inl, inr, ◌≤◌, ℕ, zero, suc, Bool, true, false, List, [], ◌∷◌, ◌++◌, Option, Some, None, IsSome, refl, sym, ap, subst, arith, length, map, nat_eq, replicate, if◌then◌else◌, unwrap_or, ◌+◌, cond}
use Rattle.std.proofs.lemmas.List.{length-replicate}
use Rattle.std.specs.Prelude.{⊤, Contains, filter, slice_get, ◌||◌}
use Rattle.std.specs.List.{list_any}
use Rattle.std.proofs.lemmas.Bool.{eqb-true}
use Rattle.lp_values.specs.declared.id.ProgId.{ProgId}
use Rattle.lp_cells.specs.Cells.{Store}
use Rattle.lp_code.specs.declared.program.RawProgram.{RawProgram}
use Rattle.lp_swapfile.specs.Device.{Bytes}
use Rattle.lp_language.specs.World as world
use Rattle.lp_language.specs.World.{World, new_world, version_at}
use Rattle.lp_meaning.specs.IdleAndKept.{IsKept, by_child, by_object, kept_below, kept_versions}
use Rattle.lp_world.specs.Rows.{is_live_row, row_at}
use Rattle.lp_world.specs.Stands.{ObjectIs, Stands}
use Rattle.lp_world.specs.declared.live.Live.{Live}
use Rattle.lp_world.specs.declared.objects.Object.{Object}
use Rattle.lp_world.specs.declared.versions.Version.{Version}
use Rattle.lp_report.specs.Needed.{is_marked, kept_rows, live_versions, parents_in, version_if_live, with_marks}
use Rattle.lp_report.specs.Report.{Reports, is_out_at, is_out_object}
use Rattle.lp_report.specs.Report.{IsKept as IsKeptOf}
use Rattle.lp_report.specs.declared.keeping.Kept.{Kept}
use Rattle.lp_report.proofs.Marks.{AreMarked, marked_more, marks_len, none_marked}

-- Objects

-- what a row and an object have in common here
abbrev IsLike : Option (Option Object) → Option world.Object → Type 0
IsLike None None = ⊤
IsLike None (Some x) = ⊥
IsLike (Some o) None = ⊥
IsLike (Some None) (Some x) = x.is_live ≡ false
IsLike (Some (Some o)) (Some x) = (o.program ≡ x.version) × (o.is_live ≡ x.is_live)

abbrev AreLike : List (Option Object) → List world.Object → Type 0
AreLike rows xs = (n : ℕ) → IsLike (slice_get rows n) (slice_get xs n)

like_one : (told : Option Bytes) (part whole : Store) (n : ℕ) (r : Option (Option Object)) (x : Option world.Object) → ObjectIs told part whole n r x → IsLike r x
like_one told part whole n None None h = tt
like_one told part whole n None (Some x) h = h
like_one told part whole n (Some o) None h = absurd (none_some o h)
  where
    none_some : (o : Option Object) → ObjectIs told part whole n (Some o) None → ⊥
    none_some None h = h
    none_some (Some o) h = h
like_one told part whole n (Some None) (Some x) h = h
like_one told part whole n (Some (Some o)) (Some x) h = (h.version, h.live)

-- the versions of the live ones are the same
version_like : (r : Option Object) (x : world.Object) → IsLike (Some r) (Some x) → version_if_live r ≡ (if x.is_live then x.version ∷ [] else [])
version_like None x h = ap (λ b. if b then x.version ∷ [] else []) (sym h)
version_like (Some o) x h = ap (λ b. if b then o.program ∷ [] else []) h.1 ∙ ap (λ p. if x.is_live then p ∷ [] else []) h.0

live_like : (r : Option Object) (x : world.Object) → IsLike (Some r) (Some x) → is_live_row r ≡ x.is_live
live_like None x h = sym h
live_like (Some o) x h = h.1

map_live : (b : Bool) (x : world.Object) (xs : List world.Object) → (if b then x.version ∷ [] else []) ++ map (λ y. y.version) xs ≡ map (λ y. y.version) (cond b (x ∷ xs) xs)
map_live true x xs = refl
map_live false x xs = refl

live_same : (rows : List (Option Object)) (xs : List world.Object) → AreLike rows xs → live_versions rows ≡ map (λ x. x.version) (filter (λ x. x.is_live) xs)
live_same [] [] h = refl
live_same [] (x ∷ xs) h = absurd (h 0)
live_same (r ∷ rows) [] h = absurd (h 0)
live_same (r ∷ rows) (x ∷ xs) h =
    ap (λ l. l ++ live_versions rows) (version_like r x (h 0)) ∙ ap (λ l. (if x.is_live then x.version ∷ [] else []) ++ l) (live_same rows xs (λ n. h (suc n))) ∙ map_live x.is_live x (filter (λ x. x.is_live) xs)

len_live : {A B : Type 0} (b c : Bool) (x : A) (y : B) (xs : List A) (ys : List B) → b ≡ c → length xs ≡ length ys → length (cond b (x ∷ xs) xs) ≡ length (cond c (y ∷ ys) ys)
len_live true true x y xs ys e h = ap suc h
len_live true false x y xs ys e h = cc
len_live false true x y xs ys e h = cc
len_live false false x y xs ys e h = h

live_count : (rows : List (Option Object)) (xs : List world.Object) → AreLike rows xs → length (filter is_live_row rows) ≡ length (filter (λ x. x.is_live) xs)
live_count [] [] h = refl
live_count [] (x ∷ xs) h = absurd (h 0)
live_count (r ∷ rows) [] h = absurd (h 0)
live_count (r ∷ rows) (x ∷ xs) h = len_live (is_live_row r) x.is_live r x (filter is_live_row rows) (filter (λ x. x.is_live) xs) (live_like r x (h 0)) (live_count rows xs (λ n. h (suc n)))

-- Versions

-- membership, from the front
abbrev In : List ProgId → ProgId → Type 0
In [] x = ⊥
In (y ∷ ys) x = (y ≡ x) ⊎ In ys x

of_list : (xs : List ProgId) (x : ProgId) → In xs x → Contains xs x
of_list [] x h = absurd h
of_list (y ∷ ys) x (inl e) = (0, omega arith, e)
of_list (y ∷ ys) x (inr h) = let c = of_list ys x h in let l = c.1 in (suc c.0, omega (arith, l), c.2)

in_either : (xs ys : List ProgId) (x : ProgId) → In (xs ++ ys) x → In xs x ⊎ In ys x
in_either [] ys x h = inr h
in_either (y ∷ xs) ys x (inl e) = inl (inl e)
in_either (y ∷ xs) ys x (inr h) = elim (in_either xs ys x h) [ inl l ↦ inl (inr l) | inr r ↦ inr r ]

-- a number that is needed
needed_one : (n : ℕ) (vs : List ProgId) → list_any (λ v. nat_eq v.0 n) vs ≡ true → In vs (record { 0 = n })
needed_one n [] h = cc
needed_one n (v ∷ vs) h = by_test (nat_eq v.0 n) refl h (needed_one n vs)
  where
    by_test : (b : Bool) → nat_eq v.0 n ≡ b → b || list_any (λ v. nat_eq v.0 n) vs ≡ true → (list_any (λ v. nat_eq v.0 n) vs ≡ true → In vs (record { 0 = n })) → In (v ∷ vs) (record { 0 = n })
    by_test true e h next = inl (ap (λ k. record { 0 = k }) (eqb-true v.0 n e))
    by_test false e h next = inr (next h)

-- the world, as kept versions are told of it
abbrev told_of : World → World
told_of w = record (new_world [] 0 0) { objects = w.objects; versions = w.versions }

-- each of some versions is kept
abbrev AllKept : World → List ProgId → Type 0
AllKept w needed = (v : ProgId) → In needed v → IsKept (told_of w) v

-- the parents of a kept version are those of its row
some_is : (r : Option Version) → IsSome r → (v : Version) × (r ≡ Some v)
some_is None h = cc
some_is (Some v) h = (v, refl)

row_some : (rows : List (Option Version)) (n : ℕ) (v : Version) → row_at rows n ≡ Some v → slice_get rows n ≡ Some (Some v)
row_some rows n v e = by (slice_get rows n) e
  where
    by : (r : Option (Option Version)) → unwrap_or r None ≡ Some v → r ≡ Some (Some v)
    by None e = cc
    by (Some o) e = ap Some e

parents_same : (told : Option Bytes) (programs : List RawProgram) (live : Live) (w : World) (n : ℕ) → Stands told programs live w → IsKept (told_of w) (record { 0 = n }) → parents_in (row_at live.versions n) ≡ (version_at w (record { 0 = n })).parents
parents_same told programs live w n stands kept =
    let s = some_is (row_at live.versions n) (stands.kept (record { 0 = n }) kept) in
    let v = stands.versions.each n s.0 (row_some live.versions n s.0 s.1) in
    ap parents_in s.1 ∙ v.parents ∙ ap (λ (x : world.Version). x.parents) (sym (ap (λ o. unwrap_or o world.no_version) v.there))

-- the kept ones below a number
kept_same : (told : Option Bytes) (programs : List RawProgram) (live : Live) (w : World) (n : ℕ) (marks : List Bool) (needed : List ProgId) → Stands told programs live w → n ≤ length marks → AreMarked marks needed → AllKept w needed
    → kept_rows live.versions n marks ≡ kept_below w n needed
kept_same told programs live w zero marks needed stands l m k = refl
kept_same told programs live w (suc n) marks needed stands l m k =
    by (list_any (λ v. nat_eq v.0 n) needed) refl (m n (omega (arith, l))) (λ ms ns j i a. kept_same told programs live w n ms ns stands j i a)
  where
    Same : Type 0
    Same = (ms : List Bool) (ns : List ProgId) → n ≤ length ms → AreMarked ms ns → AllKept w ns → kept_rows live.versions n ms ≡ kept_below w n ns

    parents : List ProgId
    parents = (version_at w (record { 0 = n })).parents

    all : IsKept (told_of w) (record { 0 = n }) → AllKept w (needed ++ parents)
    all here v h = elim (in_either needed parents v h) [ inl a ↦ k v a | inr b ↦ by_child (record { 0 = n }) v here (of_list parents v b) ]

    more : Same → IsKept (told_of w) (record { 0 = n }) → kept_rows live.versions n (with_marks marks (parents_in (row_at live.versions n))) ≡ kept_below w n (needed ++ parents)
    more same here =
        ap (λ ps. kept_rows live.versions n (with_marks marks ps)) (parents_same told programs live w n stands here)
        ∙ same (with_marks marks parents) (needed ++ parents) (let e = marks_len marks parents in omega (arith, e, l)) (marked_more marks needed parents m) (all here)

    by : (b : Bool) → list_any (λ v. nat_eq v.0 n) needed ≡ b → is_marked marks n ≡ b → Same
        → (if is_marked marks n then record { 0 = n } ∷ kept_rows live.versions n (with_marks marks (parents_in (row_at live.versions n))) else kept_rows live.versions n marks)
        ≡ (if b then record { 0 = n } ∷ kept_below w n (needed ++ parents) else kept_below w n needed)
    by true e f same = ap (λ c. if c then record { 0 = n } ∷ kept_rows live.versions n (with_marks marks (parents_in (row_at live.versions n))) else kept_rows live.versions n marks) f
        ∙ ap (λ ks. record { 0 = n } ∷ ks) (more same (k (record { 0 = n }) (needed_one n needed e)))
    by false e f same = ap (λ c. if c then record { 0 = n } ∷ kept_rows live.versions n (with_marks marks (parents_in (row_at live.versions n))) else kept_rows live.versions n marks) f
        ∙ same marks needed (omega (arith, l)) m k

-- the versions of live objects are kept
live_kept : (w : World) (xs : List world.Object) (base : ℕ) → ((n : ℕ) (x : world.Object) → slice_get xs n ≡ Some x → slice_get w.objects (base + n) ≡ Some x) → AllKept w (map (λ x. x.version) (filter (λ x. x.is_live) xs))
live_kept w [] base f v h = absurd h
live_kept w (x ∷ xs) base f v h = by x.is_live refl h (live_kept w xs (base + 1) (λ n y g. subst (λ m. slice_get w.objects m ≡ Some y) (omega arith) (f (suc n) y g)) v)
  where
    by : (b : Bool) → x.is_live ≡ b → In (map (λ x. x.version) (cond b (x ∷ filter (λ x. x.is_live) xs) (filter (λ x. x.is_live) xs))) v → (In (map (λ x. x.version) (filter (λ x. x.is_live) xs)) v → IsKept (told_of w) v) → IsKept (told_of w) v
    by true e (inl s) next = subst (IsKept (told_of w)) s (by_object (base + 0) x (f 0 x refl) e)
    by true e (inr s) next = next s
    by false e s next = next s

like_all : (told : Option Bytes) (programs : List RawProgram) (live : Live) (w : World) → Stands told programs live w → AreLike live.objects w.objects
like_all told programs live w stands n = like_one told live.cells w.cells n (slice_get live.objects n) (slice_get w.objects n) (stands.objects n)

kept_of : (told : Option Bytes) (programs : List RawProgram) (live : Live) (w : World) (marks : List Bool) → Stands told programs live w → marks ≡ with_marks (replicate (length live.versions) false) (live_versions live.objects) → kept_rows live.versions (length live.versions) marks ≡ kept_versions w
kept_of told programs live w marks stands e =
    let needed = live_versions live.objects in
    let same = live_same live.objects w.objects (like_all told programs live w stands) in
    let len : length marks ≡ length live.versions = ap length e ∙ marks_len (replicate (length live.versions) false) needed ∙ length-replicate (length live.versions) false in
    kept_same told programs live w (length live.versions) marks needed stands (omega (arith, len)) (subst (λ m. AreMarked m needed) (sym e) (marked_more (replicate (length live.versions) false) [] needed (none_marked (length live.versions))))
    (subst (AllKept w) (sym same) (live_kept w w.objects 0 (λ n x g. subst (λ m. slice_get w.objects m ≡ Some x) (omega arith) g)))
    ∙ ap (λ n. kept_below w n needed) stands.versions.next ∙ ap (kept_below w (length w.versions)) same

-- What was counted is so in each world for which the state stands.
pub kept_is : (live : Live) (none marks : List Bool) (k : Kept) → none ≡ replicate (length live.versions) false → marks ≡ with_marks none (live_versions live.objects) → k.all ≡ length (kept_rows live.versions (length live.versions) marks)
    → k.out ≡ length (filter (is_out_at live.versions) (kept_rows live.versions (length live.versions) marks)) → IsKeptOf live k
kept_is live none marks k z e c d told programs w stands =
    let kept = kept_of told programs live w marks stands (e ∙ ap (λ ms. with_marks ms (live_versions live.objects)) z) in (c ∙ ap length kept, d ∙ ap (λ ks. length (filter (is_out_at live.versions) ks)) kept)

-- THE NUMBERS are those of each world for which the state stands.
pub reports : (live : Live) (k : Kept) (lives out : ℕ) → lives ≡ length (filter is_live_row live.objects) → out ≡ length (filter is_out_object live.objects) → IsKeptOf live k → Reports live (record { live = lives; live_out = out; kept = k.all; kept_out = k.out })
reports live k lives out a b h told programs w stands =
    let kept = h told programs w stands in
    record { live = a ∙ live_count live.objects w.objects (like_all told programs live w stands); live_out = b; kept = kept.0; kept_out = kept.1 }
