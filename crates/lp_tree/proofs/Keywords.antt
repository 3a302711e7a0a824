-- Reserved words are found by their letters alone.
use Rattle.std.proofs.Common.{◌≡◌, ℕ, List, [], ◌∷◌, Bool, true, false, cond, refl, ap, ◌∙◌, subst}
use Rattle.std.specs.Prelude.{Option, Some, None, find, bytes_eq}
use Rattle.std.proofs.lemmas.Slice.Eq.{bytes_eq-Decides}
use Rattle.lp_tree.specs.declared.keyword.Modifier.{Modifier as ModifierWord}
use Rattle.lp_tree.specs.declared.keyword.Modifier.TheVariants as modifiers
use Rattle.lp_tree.specs.declared.keyword.Base.{Base as BaseWord}
use Rattle.lp_tree.specs.declared.keyword.Base.TheVariants as bases
use Rattle.lp_tree.specs.declared.keyword.Keyword.{Keyword}
use Rattle.lp_tree.specs.declared.keyword.Keyword.TheVariants.{Modifier, Base}
use Rattle.lp_tree.specs.Keywords.{modifier_letters, base_letters, letters, modifier_words, base_words, other_words, modifier_of, base_of, other_of, either_of, keyword_of}

find-step : {A : Type 0} (p : A → Bool) (y x : A) (o : Option A) (b : Bool) → p y ≡ b → cond b (Some y) o ≡ Some x → (o ≡ Some x → p x ≡ true) → p x ≡ true
find-step p y x o true h e ih = let f : y ≡ x = cc in subst (λ z. p z ≡ true) f h
find-step p y x o false h e ih = ih e

find-gives : {A : Type 0} (p : A → Bool) (xs : List A) (x : A) → find p xs ≡ Some x → p x ≡ true
find-gives p [] x e = cc
find-gives p (y ∷ ys) x e = find-step p y x (find p ys) (p y) refl e (find-gives p ys x)

some_modifier : {a : ModifierWord} {k : Keyword} → Some (Modifier a) ≡ Some k → Modifier a ≡ k
some_modifier e = cc

some_base : {a : BaseWord} {k : Keyword} → Some (Base a) ≡ Some k → Base a ≡ k
some_base e = cc

chosen : (w : List ℕ) (k : Keyword) (m : Option ModifierWord) (b : Option BaseWord) → modifier_of w ≡ m → base_of w ≡ b → either_of m b (other_of w) ≡ Some k → w ≡ letters k
chosen w k (Some m) b f g e = (bytes_eq-Decides w (modifier_letters m)).0 (find-gives (λ n. bytes_eq w (modifier_letters n)) modifier_words m f) ∙ ap letters (some_modifier e)
chosen w k None (Some b) f g e = (bytes_eq-Decides w (base_letters b)).0 (find-gives (λ n. bytes_eq w (base_letters n)) base_words b g) ∙ ap letters (some_base e)
chosen w k None None f g e = (bytes_eq-Decides w (letters k)).0 (find-gives (λ n. bytes_eq w (letters n)) other_words k e)

pub reserved_only : (w : List ℕ) (k : Keyword) → keyword_of w ≡ Some k → w ≡ letters k
reserved_only w k e = chosen w k (modifier_of w) (base_of w) refl refl e

modifier_found : (m : ModifierWord) → keyword_of (modifier_letters m) ≡ Some (Modifier m)
modifier_found modifiers.Private = refl
modifier_found _ = refl

base_found : (b : BaseWord) → keyword_of (base_letters b) ≡ Some (Base b)
base_found bases.Int = refl
base_found _ = refl

pub reserved_found : (k : Keyword) → keyword_of (letters k) ≡ Some k
reserved_found (Modifier m) = modifier_found m
reserved_found (Base b) = base_found b
reserved_found _ = refl
