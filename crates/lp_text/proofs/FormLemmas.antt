-- The parts of a form spell it.
use Rattle.std.proofs.Common.{◌≡◌, ◌∙◌, ℕ, zero, suc, ◌+◌, ◌-◌, ◌<◌, List, [], ◌∷◌, ◌++◌, Option, Some, None, Bool, true, false, cond, drop, get_or, refl, ap, sym, subst, arith, nat_eq}
use Rattle.std.proofs.lemmas.Bool.Decides.{Decides-eqb}
use Rattle.lp_text.specs.Forms.{parts, parts_after, item, lettered_item, marked_item, width, spelling, spelled, is_fault, fault_of}
use Rattle.lp_text.specs.declared.form.Item.{Item}
use Rattle.lp_text.specs.declared.form.Item.TheVariants.{Bad, Number, Percent, Plain, Words}

-- a part that is not bad spells the front of a form
abbrev Spells : Item → List ℕ → Type 0
Spells Bad cs = Unit {0}
Spells (Number k) cs = spelling (Number k) ++ drop (width (Number k)) cs ≡ cs
Spells Percent cs = 37 ∷ 37 ∷ drop 2 cs ≡ cs
Spells (Plain c) cs = c ∷ drop 1 cs ≡ cs
Spells (Words k) cs = spelling (Words k) ++ drop (width (Words k)) cs ≡ cs

letter_spells : (d : ℕ) (cs : List ℕ) (b b' : Bool) → nat_eq d 100 ≡ b → nat_eq d 115 ≡ b' → Spells (cond b (Number true) (cond b' (Words true) Bad)) (37 ∷ d ∷ cs)
letter_spells d cs true b' e f = ap (λ (x : ℕ). 37 ∷ x ∷ cs) (sym ((Decides-eqb d 100).0 e))
letter_spells d cs false true e f = ap (λ (x : ℕ). 37 ∷ x ∷ cs) (sym ((Decides-eqb d 115).0 f))
letter_spells d cs false false e f = tt

starred_spells : (d : ℕ) (cs : List ℕ) (b b' : Bool) → nat_eq d 100 ≡ b → nat_eq d 115 ≡ b' → Spells (cond b (Number false) (cond b' (Words false) Bad)) (37 ∷ 42 ∷ d ∷ cs)
starred_spells d cs true b' e f = ap (λ (x : ℕ). 37 ∷ 42 ∷ x ∷ cs) (sym ((Decides-eqb d 100).0 e))
starred_spells d cs false true e f = ap (λ (x : ℕ). 37 ∷ 42 ∷ x ∷ cs) (sym ((Decides-eqb d 115).0 f))
starred_spells d cs false false e f = tt

after_star : (cs : List ℕ) → Spells (lettered_item (get_or cs 0 0) false) (37 ∷ 42 ∷ cs)
after_star [] = tt
after_star (d ∷ cs) = starred_spells d cs (nat_eq d 100) (nat_eq d 115) refl refl

marked_spells : (d : ℕ) (cs : List ℕ) (b b' : Bool) → nat_eq d 37 ≡ b → nat_eq d 42 ≡ b' → Spells (cond b Percent (cond b' (lettered_item (get_or cs 0 0) false) (lettered_item d true))) (37 ∷ d ∷ cs)
marked_spells d cs true b' e f = ap (λ (x : ℕ). 37 ∷ x ∷ cs) (sym ((Decides-eqb d 37).0 e))
marked_spells d cs false true e f = subst (λ (x : ℕ). Spells (lettered_item (get_or cs 0 0) false) (37 ∷ x ∷ cs)) (sym ((Decides-eqb d 42).0 f)) (after_star cs)
marked_spells d cs false false e f = letter_spells d cs (nat_eq d 100) (nat_eq d 115) refl refl

after_percent : (cs : List ℕ) → Spells (marked_item (get_or cs 0 0) (get_or cs 1 0)) (37 ∷ cs)
after_percent [] = tt
after_percent (d ∷ cs) = marked_spells d cs (nat_eq d 37) (nat_eq d 42) refl refl

item_cond : (c : ℕ) (cs : List ℕ) (b : Bool) → nat_eq c 37 ≡ b → Spells (cond b (marked_item (get_or cs 0 0) (get_or cs 1 0)) (Plain c)) (c ∷ cs)
item_cond c cs true e = subst (λ (x : ℕ). Spells (marked_item (get_or cs 0 0) (get_or cs 1 0)) (x ∷ cs)) (sym ((Decides-eqb c 37).0 e)) (after_percent cs)
item_cond c cs false e = refl

item_spells : (c : ℕ) (cs : List ℕ) → Spells (item (c ∷ cs)) (c ∷ cs)
item_spells c cs = item_cond c cs (nat_eq c 37) refl

front : (i : Item) (cs rest : List ℕ) → is_fault i rest ≡ false → Spells i cs → spelling i ++ drop (width i) cs ≡ cs
front Bad cs rest e h = absurd cc
front (Number k) cs rest e h = h
front Percent cs rest e h = h
front (Plain c) cs rest e h = h
front (Words k) cs rest e h = h

some_width : (i : Item) → 0 < width i
some_width Bad = omega arith
some_width (Number true) = omega arith
some_width (Number false) = omega arith
some_width Percent = omega arith
some_width (Plain c) = omega arith
some_width (Words true) = omega arith
some_width (Words false) = omega arith

dropped : (n : ℕ) (c : ℕ) (cs : List ℕ) → 0 < n → drop (n - 1) cs ≡ drop n (c ∷ cs)
dropped n c cs some = let k : n ≡ suc (n - 1) = omega (arith, some) in ap (λ (x : ℕ). drop x (c ∷ cs)) (sym k)

no_fault : (b : Bool) (at : ℕ) (f : Option ℕ) → cond b (Some at) f ≡ None → (b ≡ false) × (f ≡ None)
no_fault true at f e = absurd cc
no_fault false at f e = (refl, e)

rest_spelled : (at n : ℕ) (cs : List ℕ) → fault_of (parts_after at n cs) ≡ None → spelled (parts_after at n cs) ≡ drop n cs
rest_spelled at zero [] e = refl
rest_spelled at (suc n) [] e = refl
rest_spelled at (suc n) (c ∷ cs) e = rest_spelled at n cs e
rest_spelled at zero (c ∷ cs) e =
    let i : Item = item (c ∷ cs) in
    let none : (is_fault i (drop (width i) (c ∷ cs)) ≡ false) × (fault_of (parts_after (at + width i) (width i - 1) cs) ≡ None) = no_fault (is_fault i (drop (width i) (c ∷ cs))) at (fault_of (parts_after (at + width i) (width i - 1) cs)) e in
    ap (λ (l : List ℕ). spelling i ++ l) (rest_spelled (at + width i) (width i - 1) cs none.1 ∙ dropped (width i) c cs (some_width i)) ∙ front i (c ∷ cs) (drop (width i) (c ∷ cs)) none.0 (item_spells c cs)

-- the parts of a form without a fault spell it
pub form_spelled : (form : List ℕ) → fault_of (parts form) ≡ None → spelled (parts form) ≡ form
form_spelled form e = rest_spelled 0 0 form e
