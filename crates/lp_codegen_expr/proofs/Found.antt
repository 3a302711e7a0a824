-- Names that a map knows by their last places, and texts that a set knows by their numbers.
use Rattle.std.proofs.Common.{◌≡◌, ◌≤◌, ◌<◌, ℕ, zero, suc, ◌+◌, refl, sym, ◌∙◌, ap, subst, arith, Bool, true, false, cond, List, [], ◌∷◌, ◌++◌, length, take, get_or, Option, Some, None, ⊎_elim, length-append}
use Rattle.std.specs.Prelude.{Vec, nat_eq, slice_get, if◌then◌else◌}
use Rattle.std.specs.List.{list_any}
use Rattle.std.specs.Cmp.Lexicographic.{pointwise, bytes_decides, nat_list_eq_equiv}
use Rattle.std.specs.HashMap.{HashMap, UpdatesBy}
use Rattle.std.specs.Map.{lookup, IsKeyTest, AreApart, KeepsOthers}
use Rattle.std.proofs.lemmas.Bool.{cases_Bool, cond-true, cond-false}
use Rattle.std.proofs.lemmas.List.{take_more}
use Rattle.indexmap.specs.IndexSet.{insert_key}
use Rattle.lp_instr.specs.EfunList.{is_name}
use Rattle.lp_language.specs.Resolve.{or_else}
use Rattle.lp_language.specs.Scope.{Names, slot_of, slot_from}
use Rattle.lp_codegen_expr.specs.Found.{place_in}
use Rattle.lp_codegen_expr.specs.Found.{IsNumbered}
use Rattle.lp_codegen_expr.proofs.Compose.{slice_get-front}
use Rattle.lp_codegen_expr.proofs.Meanings.{same_name}

other_entries : {K X : Type 0} (eq : K → K → Bool) (test : K → Bool) (old new : List (K × X)) → KeepsOthers eq test old new → (other : K → Bool) → IsKeyTest eq other → AreApart test other → lookup other new ≡ lookup other old
unfolding KeepsOthers
other_entries eq test old new h = h

apart : (bs cs ks : List ℕ) → is_name bs cs ≡ false → is_name bs ks ≡ true → is_name cs ks ≡ false
apart bs cs ks n y = nat_list_eq_equiv.symm cs ks ∙ sym (nat_list_eq_equiv.congr bs ks cs y) ∙ n

by_name : {W : Type 0} (f g : List ℕ → W) (bs : List ℕ) (w : W) → g bs ≡ w → ((cs : List ℕ) → is_name bs cs ≡ false → g cs ≡ f cs) → (cs : List ℕ) → g cs ≡ cond (is_name bs cs) w (f cs)
by_name f g bs w here other cs =
    ⊎_elim
    (λ y. subst (λ l. g l ≡ w) ((bytes_decides bs cs).0 y) here ∙ sym (cond-true (is_name bs cs) w (f cs) y))
    (λ n. other cs n ∙ sym (cond-false (is_name bs cs) w (f cs) n))
    (cases_Bool (is_name bs cs))

-- a name is noted in a map
pub name_noted : {Y S : Type 0} (key : Vec ℕ Y) (m n : HashMap (Vec ℕ Y) ℕ S) (w : Option ℕ) {bs : List ℕ} → key.items ≡ bs → UpdatesBy (λ x y. pointwise nat_eq x.items y.items) (λ k. pointwise nat_eq key.items k.items) m n w → (cs : List ℕ) → place_in n cs ≡ cond (is_name bs cs) w (place_in m cs)
name_noted key m n w {bs} e h cs =
    by_name (place_in m) (place_in n) key.items w h.1 (λ cs f. other_entries _ _ _ _ h.3 _ (λ x y. nat_list_eq_equiv.congr cs x.items y.items) (λ k. apart key.items cs k.items f)) cs
    ∙ ap (λ b. cond (is_name b cs) w (place_in m cs)) e

choose : (b : Bool) (k m : ℕ) → k ≡ m → or_else None (if b then Some k else None) ≡ cond b (Some m) None
choose true k m e = ap Some e
choose false k m e = refl

behind : (b : Bool) (k m : ℕ) (o x : Option ℕ) → k ≡ m → or_else (cond b (Some k) o) x ≡ cond b (Some m) (or_else o x)
behind true k m o x e = ap Some e
behind false k m o x e = refl

-- one name more, which is the last
slot_more : (k : ℕ) (ns : Names) (n w : List ℕ) → slot_from k (ns ++ n ∷ []) w ≡ cond (is_name n w) (Some (k + length ns)) (slot_from k ns w)
slot_more k [] n w = choose (is_name n w) k (k + 0) (omega arith)
slot_more k (m ∷ ns) n w = let e : suc k + length ns ≡ k + suc (length ns) = omega arith in
    ap (λ o. or_else o (if is_name m w then Some k else None)) (slot_more (suc k) ns n w) ∙ behind (is_name n w) (suc k + length ns) (k + suc (length ns)) (slot_from (suc k) ns w) (if is_name m w then Some k else None) e

long : {A : Type 0} (xs : List A) (i : ℕ) → i ≤ length xs → length (take i xs) ≡ i
long [] zero h = refl
long [] (suc i) h = absurd (omega (arith, h))
long (x ∷ xs) zero h = refl
long (x ∷ xs) (suc i) h = ap suc (long xs i (omega (arith, h)))

-- one more of the names is noted
pub name_next : (names : Names) (i : ℕ) (n w : List ℕ) (before after : Option ℕ) → i < length names → get_or names i n ≡ n → before ≡ slot_of (take i names) w → after ≡ cond (is_name n w) (Some i) before → after ≡ slot_of (take (i + 1) names) w
name_next names i n w before after l is b a =
    let all : take (i + 1) names ≡ take i names ++ n ∷ [] = take_more names i n l ∙ ap (λ y. take i names ++ y ∷ []) is in
    let place : i ≡ 0 + length (take i names) = omega (arith, long names i (omega (arith, l))) in
    a ∙ ap (cond (is_name n w) (Some i)) b ∙ ap (λ k. cond (is_name n w) (Some k) (slot_of (take i names) w)) place ∙ sym (slot_more 0 (take i names) n w) ∙ ap (λ ns. slot_of ns w) (sym all)

added : (old : List (List ℕ)) (t : List ℕ) (b : Bool) → let new = if b then old else old ++ t ∷ [] in (length old ≤ length new) × ((j : ℕ) → j < length old → slice_get new j ≡ slice_get old j)
added old t true = (omega arith, λ j h. refl)
added old t false = (omega (arith, length-append old (t ∷ [])), λ j h. slice_get-front old (t ∷ []) j h)

-- a text has a number
pub numbered : (k : ℕ) (t u : List ℕ) (old new : List (List ℕ)) {v : List ℕ} → t ≡ v → new ≡ insert_key (pointwise nat_eq) old t → k < length new → slice_get new k ≡ Some u → pointwise nat_eq t u ≡ true → IsNumbered k v old new
numbered k t u old new {v} e n w s q =
    let h = added old t (list_any (pointwise nat_eq t) old) in
    record {
      longer = subst (λ x. length old ≤ length x) (sym n) h.0;
      kept = λ j l. ap (λ x. slice_get x j) n ∙ h.1 j l;
      within = w;
      there = s ∙ ap Some (sym (same_name t u q) ∙ e);
    }
