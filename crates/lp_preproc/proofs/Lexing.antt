-- A source has the tokens of one walk, or one first fault.
use Rattle.std.proofs.Common.{◌≡◌, ℕ, List, [], ◌∷◌, refl, sym, ap, ◌∙◌, arith}
use Rattle.std.specs.Prelude.{Some, None}
use Rattle.std.proofs.lemmas.Str.{utf8_valid_len-IsUtf8}
use Rattle.lp_tree.specs.declared.token.Token.{Token}
use Rattle.lp_tree.specs.declared.token.LexKind.{LexKind}
use Rattle.lp_tree.specs.declared.token.LexKind.TheVariants.{NotUtf8, OpenComment, BadChar, OpenString, NumberTooLarge}
use Rattle.lp_lexer.specs.declared.sign.Sign.{Sign}
use Rattle.lp_lexer.specs.Lexis.{Place, begin, next_by, next, Reaches, here, more, ReachesEnd, ReachesOpenComment, IsLexed, IsFault}

-- the places of a walk, from its first step on
data Walks : Place → Place → Type 0 where
  stays : {p : Place} → Walks p p
  steps : {p q r : Place} → next p ≡ Some q → Walks q r → Walks p r

onward : {a b : Place} → Reaches a b → (c : Place) → Walks b c → Walks a c
onward here c f = f
onward (more {p} {q} r e) c f = onward r c (steps e f)

same_walk : {a p : Place} → Walks a p → next p ≡ None → (b q : Place) → a ≡ b → Walks b q → next q ≡ None → p ≡ q
same_walk (stays {p}) n b q e stays m = e
same_walk (stays {p}) n b q e (steps h f) m = cc
same_walk (steps h f) n b q e stays m = cc
same_walk (steps {q = x} h f) n b q e (steps {q = y} k g) m = same_walk f n y q (let w : x ≡ y = cc in w) g m

-- a walk stops at one place
same_stop : (a p q : Place) → Reaches a p → next p ≡ None → Reaches a q → next q ≡ None → p ≡ q
same_stop a p q r n t m = same_walk (onward r p stays) n a q refl (onward t q stays) m

stopped : (p : Place) → p.rest.left ≡ [] → next p ≡ None
stopped p e = ap (next_by p) e

pub same_tokens : (bs : List ℕ) (ts us : List Token) → IsLexed bs ts → IsLexed bs us → ts ≡ us
same_tokens bs ts us l m =
    let x = l.1 in
    let y = m.1 in
    let e = same_stop (begin bs) x.0 y.0 x.1 (stopped x.0 x.2) y.1 (stopped y.0 y.2) in
    sym x.3 ∙ ap (λ (p : Place). p.tokens) e ∙ y.3

same_comment : (a : Place) (m n : ℕ) → ReachesOpenComment a m → ReachesOpenComment a n → m ≡ n
same_comment a m n x y =
    let e = same_stop a x.0 y.0 x.3 x.5 y.3 y.5 in
    let l : x.1 ∷ x.2 ≡ y.1 ∷ y.2 = sym x.4 ∙ ap (λ (p : Place). p.rest.left) e ∙ y.4 in
    let s : x.1 ≡ y.1 = cc in
    sym x.6 ∙ ap (λ (z : Sign). z.at) s ∙ y.6

not_both : (a : Place) (ts : List Token) (n : ℕ) → ReachesEnd a ts → ReachesOpenComment a n → ⊥
not_both a ts n x y =
    let e = same_stop a x.0 y.0 x.1 (stopped x.0 x.2) y.3 y.5 in
    let l : [] ≡ y.1 ∷ y.2 = sym x.2 ∙ ap (λ (p : Place). p.rest.left) e ∙ y.4 in
    cc

-- bytes with tokens have no fault
pub no_fault : (bs : List ℕ) (ts : List Token) (at : ℕ) (kind : LexKind) → IsLexed bs ts → IsFault bs at kind → ⊥
no_fault bs ts at NotUtf8 l f = omega (arith, f.0, f.1, utf8_valid_len-IsUtf8 bs l.0)
no_fault bs ts at OpenComment l f = not_both (begin bs) ts at l.1 f.0
no_fault bs ts at BadChar l f = f
no_fault bs ts at OpenString l f = f
no_fault bs ts at NumberTooLarge l f = f

-- the first fault has one place
pub same_place : (bs : List ℕ) (at place : ℕ) (kind what : LexKind) → IsFault bs at kind → IsFault bs place what → place ≡ at
same_place bs at place NotUtf8 NotUtf8 f g = g.0 ∙ sym f.0
same_place bs at place NotUtf8 OpenComment f g = let h = f.2 place g.0 in absurd (omega (arith, h, g.1, f.0))
same_place bs at place OpenComment NotUtf8 f g = let h = g.2 at f.0 in absurd (omega (arith, h, f.1, g.0))
same_place bs at place OpenComment OpenComment f g = same_comment (begin bs) place at g.0 f.0
same_place bs at place kind BadChar f g = absurd g
same_place bs at place kind OpenString f g = absurd g
same_place bs at place kind NumberTooLarge f g = absurd g
same_place bs at place BadChar what f g = absurd f
same_place bs at place OpenString what f g = absurd f
same_place bs at place NumberTooLarge what f g = absurd f
