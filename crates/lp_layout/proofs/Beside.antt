-- Functions that may not stand beside others, when one more is known.
use Rattle.std.proofs.Common.{◌≡◌, ℕ, suc, ◌+◌, refl, sym, ap, ◌∙◌, arith, Bool, true, false, not, ◌||◌, ◌&&◌, cond, List, [], ◌∷◌, ◌++◌, map, Option, Some, None}
use Rattle.std.proofs.lemmas.Bool.Decides.{nat_tests}
use Rattle.std.specs.List.{list_any}
use Rattle.std.specs.Prelude.{OnOk, if◌then◌else◌, is_some, nat_eq, option_map, slice_get, Vec}
use Rattle.std.specs.HashMap.{HashMap}
use Rattle.std.specs.declared.alloc.Global.{Global}
use Rattle.std.specs.declared.result.Result.{Result}
use Rattle.std.specs.declared.result.Result.TheVariants.{Ok, Err}
use Rattle.lp_values.specs.declared.id.ProgId.{ProgId}
use Rattle.lp_code.specs.declared.tables.Slot.{Slot}
use Rattle.lp_code.specs.declared.tables.Tables.{Tables}
use Rattle.lp_code.specs.Slots.{first_place}
use Rattle.lp_instr.specs.EfunList.{is_name}
use Rattle.lp_types_expr.specs.NameMaps.{named}
use Rattle.lp_types_expr.specs.Signatures.{or_else, row_named}
use Rattle.lp_types_expr.proofs.NamesPut.{same_name}
use Rattle.lp_layout.specs.declared.standing.Standing.{Standing}
use Rattle.lp_layout.specs.declared.standing.Versions.{Versions}
use Rattle.lp_layout.specs.Layout.{slot_named}
use Rattle.lp_layout.specs.LayoutFaults.{Source, clash, clash_in, is_nomask_number, is_nomask_source, is_same_version, overrides, source, source_of, stands_beside}
use Rattle.lp_layout.specs.Standing.{Knows, KnowsSome, all_versions, clashes, differ, nomask_versions, shown_with, with_source, with_version}
use Rattle.lp_layout.proofs.Makes.{same_rows}

-- Rows by their places

abbrev pub row_at : List Slot → Option ℕ → Option Slot
row_at rs None = None
row_at rs (Some k) = slice_get rs k

row_place : (rs : List Slot) (w : List ℕ) → row_named rs w ≡ row_at rs (first_place w rs)
row_place [] w = refl
row_place (r ∷ rs) w = go (row_place rs w) (is_name w r.name) (first_place w rs) refl
  where
    go : row_named rs w ≡ row_at rs (first_place w rs) → (b : Bool) (x : Option ℕ) → first_place w rs ≡ x → (if b then Some r else row_named rs w) ≡ row_at (r ∷ rs) (cond b (Some 0) (option_map suc x))
    go h true x e = refl
    go h false None e = h ∙ ap (row_at rs) e
    go h false (Some k) e = h ∙ ap (row_at rs) e

pub slot_place : (rs : List Slot) (w : List ℕ) → slot_named rs w ≡ row_at rs (first_place w rs)
slot_place rs w = same_rows rs w ∙ row_place rs w

unnamed : (rs : List Slot) (w : List ℕ) → list_any (is_name w) (map (λ s. s.name) rs) ≡ false → row_named rs w ≡ None
unnamed [] w h = refl
unnamed (r ∷ rs) w h = go (unnamed rs w) (is_name w r.name) h
  where
    go : (list_any (is_name w) (map (λ s. s.name) rs) ≡ false → row_named rs w ≡ None) → (b : Bool) → b || list_any (is_name w) (map (λ s. s.name) rs) ≡ false → (if b then Some r else row_named rs w) ≡ None
    go i true e = absurd cc
    go i false e = i e

nothing_shown : (t : Tables) (w : List ℕ) → list_any (is_name w) (map (λ s. s.name) t.slots) ≡ false → source t w ≡ None
nothing_shown t w h = ap (source_of t) (same_rows t.slots w ∙ unnamed t.slots w h)

-- Versions

or_true : (b : Bool) → b || true ≡ true
or_true true = refl
or_true false = refl

or_false : (b : Bool) → b || false ≡ b
or_false true = refl
or_false false = refl

both_tests : (m n k : ℕ) → not (nat_eq m n) || not (nat_eq m k) ≡ not (nat_eq m k) || not (nat_eq n k)
both_tests m n k = grind (arith, nat_tests)

both_same : (u v z : Option ProgId) → not (is_same_version u v) || not (is_same_version u z) ≡ not (is_same_version u z) || not (is_same_version v z)
both_same None v z = refl
both_same (Some m) None z = sym (or_true (not (is_same_version (Some m) z)))
both_same (Some m) (Some n) None = or_true (not (nat_eq m.0 n.0))
both_same (Some m) (Some n) (Some k) = both_tests m.0 n.0 k.0

with_differ : (vs : Option Versions) (v z : Option ProgId) → differ (Some (with_version vs v)) z ≡ differ vs z || not (is_same_version v z)
with_differ None v z = refl
with_differ (Some a) v z = go a.several
  where
    go : (b : Bool) → (b || not (is_same_version a.first v)) || not (is_same_version a.first z) ≡ (b || not (is_same_version a.first z)) || not (is_same_version v z)
    go true = refl
    go false = both_same a.first v z

chosen : (n m : Bool) (al nm : Option Versions) (v z : Option ProgId)
    → differ (if n then Some (with_version al v) else (if m then Some (with_version nm v) else nm)) z ≡ differ (if n then al else nm) z || (not (is_same_version v z) && (m || n))
chosen true true al nm v z = with_differ al v z ∙ ap (λ b. differ al z || b) (and_true (not (is_same_version v z)))
  where
    and_true : (b : Bool) → b ≡ b && true
    and_true true = refl
    and_true false = refl
chosen true false al nm v z = with_differ al v z ∙ ap (λ b. differ al z || b) (and_true (not (is_same_version v z)))
  where
    and_true : (b : Bool) → b ≡ b && true
    and_true true = refl
    and_true false = refl
chosen false true al nm v z = with_differ nm v z ∙ ap (λ b. differ nm z || b) (and_true (not (is_same_version v z)))
  where
    and_true : (b : Bool) → b ≡ b && true
    and_true true = refl
    and_true false = refl
chosen false false al nm v z = sym (or_false (differ nm z)) ∙ ap (λ b. differ nm z || b) (and_false (not (is_same_version v z)))
  where
    and_false : (b : Bool) → false ≡ b && false
    and_false true = refl
    and_false false = refl

-- one function more
with_clash : (k : Option Standing) (y : Source) (x : Option Source) → clashes (Some (with_source k y)) x ≡ clashes k x || clash (Some y) x
with_clash k y None = refl
with_clash k y (Some x) = chosen (is_nomask_number x.mods) (is_nomask_number y.mods) (all_versions k) (nomask_versions k) y.version x.version

with_over : (k : Option Standing) (y : Source) → is_some (nomask_versions (Some (with_source k y))) ≡ is_some (nomask_versions k) || is_nomask_source (Some y)
with_over k y = go (is_nomask_number y.mods)
  where
    go : (b : Bool) → is_some (if b then Some (with_version (nomask_versions k) y.version) else nomask_versions k) ≡ is_some (nomask_versions k) || b
    go true = sym (or_true (is_some (nomask_versions k)))
    go false = sym (or_false (is_some (nomask_versions k)))

-- what is known where a parent shows what it shows of a name
shown_clash : (y x : Option Source) (name : List ℕ) (k : Option Standing) (w : List ℕ) → clashes (shown_with y name k w) x ≡ clashes k x || (is_name w name && clash y x)
shown_clash None x name k w = sym (or_false (clashes k x)) ∙ ap (λ b. clashes k x || b) (none (is_name w name) x)
  where
    none : (b : Bool) (x : Option Source) → false ≡ b && clash None x
    none true x = refl
    none false x = refl
shown_clash (Some y) x name k w = go (is_name w name)
  where
    go : (b : Bool) → clashes (if b then Some (with_source k y) else k) x ≡ clashes k x || (b && clash (Some y) x)
    go true = with_clash k y x
    go false = sym (or_false (clashes k x))

shown_over : (y : Option Source) (name : List ℕ) (k : Option Standing) (w : List ℕ) → is_some (nomask_versions (shown_with y name k w)) ≡ is_some (nomask_versions k) || (is_name w name && is_nomask_source y)
shown_over None name k w = sym (or_false (is_some (nomask_versions k))) ∙ ap (λ b. is_some (nomask_versions k) || b) (none (is_name w name))
  where
    none : (b : Bool) → false ≡ b && is_nomask_source None
    none true = refl
    none false = refl
shown_over (Some y) name k w = go (is_name w name)
  where
    go : (b : Bool) → is_some (nomask_versions (if b then Some (with_source k y) else k)) ≡ is_some (nomask_versions k) || (b && is_nomask_source (Some y))
    go true = with_over k y
    go false = sym (or_false (is_some (nomask_versions k)))

-- Parents

any_snoc : {X : Type 0} (f : X → Bool) (xs : List X) (x : X) → list_any f (xs ++ x ∷ []) ≡ list_any f xs || f x
any_snoc f [] x = or_false (f x)
any_snoc f (y ∷ xs) x = go (f y) (any_snoc f xs x)
  where
    go : (b : Bool) → list_any f (xs ++ x ∷ []) ≡ list_any f xs || f x → b || list_any f (xs ++ x ∷ []) ≡ (b || list_any f xs) || f x
    go true h = refl
    go false h = h

any_same : {X : Type 0} (f g : X → Bool) → ((x : X) → f x ≡ g x) → (xs : List X) → list_any f xs ≡ list_any g xs
any_same f g h [] = refl
any_same f g h (x ∷ xs) = ap (λ b. b || list_any f xs) (h x) ∙ ap (λ b. g x || b) (any_same f g h xs)

pub beside_known : {S : Type 0} (ts : List Tables) (t : Tables) (m : HashMap (Vec ℕ Global) Standing S) → Knows ts m → list_any (λ s. clashes (named m s.name) (source t s.name)) t.slots ≡ stands_beside ts t
beside_known ts t m k = any_same (λ (s : Slot). clashes (named m s.name) (source t s.name)) (λ (s : Slot). clash_in t ts s.name) (λ s. k.beside s.name (source t s.name)) t.slots

-- a map that has nothing knows no parents
pub known_none : {S : Type 0} (m : HashMap (Vec ℕ Global) Standing S) → ((w : List ℕ) → named m w ≡ None) → Knows [] m
known_none m h = record { beside = λ w x. ap (λ k. clashes k x) (h w) ∙ go x; over = λ w. ap (λ k. is_some (nomask_versions k)) (h w) }
  where
    by : (b : Bool) (v : Option ProgId) → differ (if b then None else None) v ≡ false
    by true v = refl
    by false v = refl

    go : (x : Option Source) → clashes None x ≡ false
    go None = refl
    go (Some y) = by (is_nomask_number y.mods) y.version

-- nothing of another parent is known yet
pub some_none : {S : Type 0} (ts : List Tables) (t : Tables) (m : HashMap (Vec ℕ Global) Standing S) → Knows ts m → KnowsSome ts t [] m
some_none ts t m k = record { beside = λ w x. k.beside w x ∙ sym (or_false (list_any (λ p. clash (source p w) x) ts)); over = λ w. k.over w ∙ sym (or_false (overrides ts w)) }

spread : (a h e c : Bool) → (a || (h && c)) || (e && c) ≡ a || ((h || e) && c)
spread true h e c = refl
spread false true e true = refl
spread false true true false = refl
spread false true false false = refl
spread false false e c = refl

-- one name more
pub some_more : {S : Type 0} (ts : List Tables) (t : Tables) (ns : List (List ℕ)) (n : List ℕ) (m o : HashMap (Vec ℕ Global) Standing S) → KnowsSome ts t ns m → ((w : List ℕ) → named o w ≡ shown_with (source t n) n (named m w) w) → KnowsSome ts t (ns ++ n ∷ []) o
some_more ts t ns n m o k p = record {
  beside = λ w x.
      ap (λ y. clashes y x) (p w) ∙ shown_clash (source t n) x n (named m w) w ∙ ap (λ b. b || (is_name w n && clash (source t n) x)) (k.beside w x)
      ∙ ap (λ b. (list_any (λ q. clash (source q w) x) ts || (list_any (is_name w) ns && clash (source t w) x)) || b) (same (is_name w n) w refl (λ y. clash y x))
      ∙ spread (list_any (λ q. clash (source q w) x) ts) (list_any (is_name w) ns) (is_name w n) (clash (source t w) x)
      ∙ ap (λ b. list_any (λ q. clash (source q w) x) ts || (b && clash (source t w) x)) (sym (any_snoc (is_name w) ns n));
  over = λ w.
      ap (λ y. is_some (nomask_versions y)) (p w) ∙ shown_over (source t n) n (named m w) w ∙ ap (λ b. b || (is_name w n && is_nomask_source (source t n))) (k.over w)
      ∙ ap (λ b. (overrides ts w || (list_any (is_name w) ns && is_nomask_source (source t w))) || b) (same (is_name w n) w refl is_nomask_source)
      ∙ spread (overrides ts w) (list_any (is_name w) ns) (is_name w n) (is_nomask_source (source t w))
      ∙ ap (λ b. overrides ts w || (b && is_nomask_source (source t w))) (sym (any_snoc (is_name w) ns n));
}
  where
    same : (b : Bool) (w : List ℕ) → is_name w n ≡ b → (f : Option Source → Bool) → b && f (source t n) ≡ b && f (source t w)
    same true w e f = ap (λ v. f (source t v)) (sym (same_name w n e))
    same false w e f = refl

-- all names of a parent
pub some_all : {S : Type 0} (ts : List Tables) (t : Tables) (m : HashMap (Vec ℕ Global) Standing S) → KnowsSome ts t (map (λ s. s.name) t.slots) m → Knows (ts ++ t ∷ []) m
some_all ts t m k = record {
  beside = λ w x. k.beside w x ∙ ap (λ b. list_any (λ q. clash (source q w) x) ts || b) (all w (λ y. clash y x) (none x)) ∙ sym (any_snoc (λ q. clash (source q w) x) ts t);
  over = λ w. k.over w ∙ ap (λ b. overrides ts w || b) (all w is_nomask_source refl) ∙ sym (any_snoc (λ q. is_nomask_source (source q w)) ts t);
}
  where
    none : (x : Option Source) → clash None x ≡ false
    none x = refl

    all : (w : List ℕ) (f : Option Source → Bool) → f None ≡ false → list_any (is_name w) (map (λ s. s.name) t.slots) && f (source t w) ≡ f (source t w)
    all w f h = go (list_any (is_name w) (map (λ s. s.name) t.slots)) refl
      where
        go : (b : Bool) → list_any (is_name w) (map (λ s. s.name) t.slots) ≡ b → b && f (source t w) ≡ f (source t w)
        go true e = refl
        go false e = sym (ap f (nothing_shown t w e) ∙ h)

-- a map after a change at one name
pub put_known : (old new : List ℕ → Option Standing) (name : List ℕ) (k : Standing) (y : Source) → k ≡ with_source (old name) y → ((w : List ℕ) → new w ≡ or_else (if is_name w name then Some k else None) (old w)) → (w : List ℕ) → new w ≡ shown_with (Some y) name (old w) w
put_known old new name k y e p w = p w ∙ go (is_name w name) refl
  where
    go : (b : Bool) → is_name w name ≡ b → or_else (if b then Some k else None) (old w) ≡ (if b then Some (with_source (old w) y) else old w)
    go true h = ap Some (e ∙ ap (λ v. with_source (old v) y) (sym (same_name w name h)))
    go false h = refl

pub lifted : {E A B : Type 0} (r : Result (Unit {0}) E) → (A → B) → OnOk r A → OnOk r B
lifted (Ok u) f h = f h
lifted (Err e) f h = tt
