-- What a map by names has after a change at one.
use Rattle.std.proofs.Common.{◌≡◌, ℕ, refl, sym, ap, subst, ◌∙◌, Bool, true, false, List, Option, Some, None, Vec}
use Rattle.std.specs.Prelude.{if◌then◌else◌}
use Rattle.std.specs.declared.alloc.Global.{Global}
use Rattle.std.specs.Bool.{nat_eq}
use Rattle.std.specs.Cmp.Lexicographic.{pointwise, bytes_decides, nat_list_eq_equiv}
use Rattle.std.specs.HashMap.{HashMap, UpdatesBy}
use Rattle.std.specs.Map.{lookup, IsKeyTest, AreApart, KeepsOthers}
use Rattle.lp_instr.specs.EfunList.{is_name}
use Rattle.lp_types_expr.specs.Signatures.{or_else}
use Rattle.lp_types_expr.specs.NameMaps.{named}

pub same_name : (a b : List ℕ) → is_name a b ≡ true → a ≡ b
same_name a b h = (bytes_decides a b).0 h

pub turned : (a b : List ℕ) → is_name a b ≡ is_name b a
turned a b = nat_list_eq_equiv.symm a b

apart : (bs cs ks : List ℕ) → is_name bs cs ≡ false → is_name bs ks ≡ true → is_name cs ks ≡ false
apart bs cs ks n y = nat_list_eq_equiv.symm cs ks ∙ sym (nat_list_eq_equiv.congr bs ks cs y) ∙ n

module _ {K : Type 0} (eq : K → K → Bool) (test : K → Bool) where
  others : {X : Type 0} (old new : List (K × X)) → KeepsOthers eq test old new → (other : K → Bool) → IsKeyTest eq other → AreApart test other → lookup other new ≡ lookup other old
  unfolding KeepsOthers
  others old new h = h

pub after_put : {X S : Type 0} (name : List ℕ) (m n : HashMap (Vec ℕ Global) X S) (v : X)
    → UpdatesBy (λ x y. pointwise nat_eq x.items y.items) (λ k. pointwise nat_eq name k.items) m n (Some v)
    → (w : List ℕ) → named n w ≡ or_else (if is_name w name then Some v else None) (named m w)
after_put {X} {S} name m n v h w = go (is_name name w) refl
  where
    go : (b : Bool) → is_name name w ≡ b → named n w ≡ or_else (if is_name w name then Some v else None) (named m w)
    go true e = subst (λ l. named n l ≡ Some v) (same_name name w e) h.1 ∙ ap (λ t. or_else (if t then Some v else None) (named m w)) (sym (turned w name ∙ e))
    go false e = others _ _ _ _ h.3 _ (λ x y. nat_list_eq_equiv.congr w x.items y.items) (λ k. apart name w k.items e) ∙ ap (λ t. or_else (if t then Some v else None) (named m w)) (sym (turned w name ∙ e))

-- the same for any change at a name: a value is put there, or taken away
pub after_change : {X S : Type 0} (name : List ℕ) (m n : HashMap (Vec ℕ Global) X S) (v : Option X)
    → UpdatesBy (λ x y. pointwise nat_eq x.items y.items) (λ k. pointwise nat_eq name k.items) m n v
    → (w : List ℕ) → named n w ≡ (if is_name w name then v else named m w)
after_change {X} {S} name m n v h w = go (is_name name w) refl
  where
    go : (b : Bool) → is_name name w ≡ b → named n w ≡ (if is_name w name then v else named m w)
    go true e = subst (λ l. named n l ≡ v) (same_name name w e) h.1 ∙ ap (λ t. if t then v else named m w) (sym (turned w name ∙ e))
    go false e = others _ _ _ _ h.3 _ (λ x y. nat_list_eq_equiv.congr w x.items y.items) (λ k. apart name w k.items e) ∙ ap (λ t. if t then v else named m w) (sym (turned w name ∙ e))
