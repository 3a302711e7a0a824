-- Fields put one behind the other.
use Rattle.std.proofs.Common.{◌≡◌, ℕ, List, ◌++◌, Result, Ok, Err, OnOk, ap, ◌∙◌, append_assoc}

pub on_ok : {X E P Q : Type 0} (r : Result X E) → (P → Q) → OnOk r P → OnOk r Q
on_ok (Ok x) f h = f h
on_ok (Err e) f h = tt

pub two : (a b c p q : List ℕ) → b ≡ a ++ p → c ≡ b ++ q → c ≡ a ++ (p ++ q)
two a b c p q f g = g ∙ ap (λ x. x ++ q) f ∙ append_assoc a p q

pub four : (a b c d e p q r s : List ℕ) → b ≡ a ++ p → c ≡ b ++ q → d ≡ c ++ r → e ≡ d ++ s → e ≡ a ++ (p ++ (q ++ (r ++ s)))
four a b c d e p q r s f g h i = two a b e p (q ++ (r ++ s)) f (two b c e q (r ++ s) g (two c d e r s h i))

pub six : (a b c d e f g p q r s t u : List ℕ) → b ≡ a ++ p → c ≡ b ++ q → d ≡ c ++ r → e ≡ d ++ s → f ≡ e ++ t → g ≡ f ++ u → g ≡ a ++ (p ++ (q ++ (r ++ (s ++ (t ++ u)))))
six a b c d e f g p q r s t u h i j k l m = two a b g p (q ++ (r ++ (s ++ (t ++ u)))) h (two b c g q (r ++ (s ++ (t ++ u))) i (four c d e f g r s t u j k l m))
