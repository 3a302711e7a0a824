-- A condition has a value or none.
use Rattle.std.proofs.Common.{◌≡◌, ℤ, Bool, true, false, List, [], Option, None, Some, refl, sym, ap, ◌∙◌, arith, inl, inr}
use Rattle.std.specs.Prelude.{map, nat_lt, ◌⊎◌}
use Rattle.lp_tree.specs.Trees.{Tree, height}
use Rattle.lp_tree.specs.Expressions.{Spells}
use Rattle.lp_parser_expr.specs.Machine.{run, Need}
use Rattle.lp_parser_expr.specs.Theorem.{ReadsExactly}
use Rattle.lp_preproc.specs.declared.word.Word.{Word}
use Rattle.lp_preproc.specs.Conditions.{HasValue, is_condition, sight, value}

abbrev pub HasDecision : List Word → Type 0
HasDecision ws = ((z : ℤ) × HasValue ws z) ⊎ ((z : ℤ) → HasValue ws z → ⊥)

none_some : {A : Type 0} (x : A) → None ≡ Some x → ⊥
none_some x e = cc

same_some : {A : Type 0} (x y : A) → Some x ≡ Some y → x ≡ y
same_some x y e = cc

apart : false ≡ true → ⊥
apart e = cc

-- the one tree of the words, by its height, by what it is made of, and by its value
by_tree : (ws : List Word) (t : Tree) → Spells t (map sight ws) [] → ((u : Tree) → Spells u (map sight ws) [] → u ≡ t)
    → (deep : Bool) → nat_lt 200 (height t) ≡ deep → (b : Bool) → is_condition t ≡ b → (v : Option ℤ) → value t ≡ v → HasDecision ws
by_tree ws t s one true d b e v f = inr (λ z h. let g = ap height (one h.0 h.1) in grind (arith, d, g, h.2))
by_tree ws t s one false d false e v f = inr (λ z h. apart (sym e ∙ sym (ap is_condition (one h.0 h.1)) ∙ h.3))
by_tree ws t s one false d true e None f = inr (λ z h. none_some z (sym f ∙ sym (ap value (one h.0 h.1)) ∙ h.4))
by_tree ws t s one false d true e (Some z) f = inl (z, (t, s, grind (arith, d), e, f))

by_run : ReadsExactly → (ws : List Word) (r : Option Tree) → run (Need []) (map sight ws) ≡ r → HasDecision ws
by_run m ws None e = inr (λ z h. none_some h.0 (sym e ∙ m.spelled false h.0 (map sight ws) h.1 (omega arith)))
by_run m ws (Some t) e = by_tree ws t (m.read false t (map sight ws) e).0 (λ u h. same_some u t (sym (m.spelled false u (map sight ws) h (omega arith)) ∙ e))
    (nat_lt 200 (height t)) refl (is_condition t) refl (value t) refl

pub decision : ReadsExactly → (ws : List Word) → HasDecision ws
decision m ws = by_run m ws (run (Need []) (map sight ws)) refl
