-- The walk over a source.
use Rattle.std.proofs.Common.{◌≡◌, ℕ, ◌≤◌, Bool, true, false, cond, List, [], ◌∷◌, length, refl, sym, ap, ◌∙◌, arith, ne_eqb, inl, inr}
use Rattle.std.specs.Prelude.{Some, None, option_map, ◌==◌, ◌&&◌, ◌⊎◌, Result, Ok, Err, Vec, IfOk, IfErr}
use Rattle.std.specs.declared.alloc.Global.{Global}
use Rattle.std.specs.Str.Lossy.{utf8_valid_len}
use Rattle.std.proofs.lemmas.Str.{utf8_valid_len-IsUtf8}
use Rattle.lp_tree.specs.declared.token.Token.{Token}
use Rattle.lp_tree.specs.declared.token.LexKind.{LexKind}
use Rattle.lp_tree.specs.declared.token.LexKind.TheVariants.{NotUtf8, OpenComment, BadChar, OpenString, NumberTooLarge}
use Rattle.lp_lexer.specs.declared.LexFault.{LexFault}
use Rattle.lp_lexer.specs.declared.LexFault.TheVariants.{NoMemory, At}
use Rattle.lp_lexer.specs.declared.sign.Sign.{Sign}
use Rattle.lp_lexer.specs.Source.{first_of, code_at, characters, width}
use Rattle.lp_lexer.specs.Lexis.{Place, begin, is_blank, opens_line, opens_block, past_blank, past_line_comment, past_comment, past_token, comment_at, next_by, next, Reaches, here, more, ReachesEnd, ReachesOpenComment, IsWhole, IsOpenComment, IsLexed, IsFault}
use Rattle.lp_lexer.specs.Answer.{IsLexFault, AreTokensUnlessMemory, IsFaultUnlessMemory}
use Rattle.lp_lexer.proofs.Order.{open_within}

and_false : (a b : Bool) → b ≡ false → (a && b) ≡ false
and_false true b e = e
and_false false b e = refl

-- a token comes next
token_by : (p : Place) (s t : Sign) (ss : List Sign) → Some s ≡ first_of ss → is_blank s.code ≡ false → opens_line ss ≡ false → opens_block ss ≡ false → next_by p ss ≡ Some (past_token p s)
token_by p s t [] f b l o = cc
token_by p s t (u ∷ ss) f b l o =
    let e : s ≡ u = cc in
    ap (λ x. cond x (Some (past_blank p)) (cond (opens_line (u ∷ ss)) (Some (past_line_comment p)) (cond (opens_block (u ∷ ss)) (option_map (past_comment p) (comment_at p.rest)) (Some (past_token p u))))) (ap (λ (x : Sign). is_blank x.code) (sym e) ∙ b)
    ∙ ap (λ x. cond x (Some (past_line_comment p)) (cond (opens_block (u ∷ ss)) (option_map (past_comment p) (comment_at p.rest)) (Some (past_token p u)))) l
    ∙ ap (λ x. cond x (option_map (past_comment p) (comment_at p.rest)) (Some (past_token p u))) o
    ∙ ap (λ x. Some (past_token p x)) (sym e)

first_code : (s : Sign) (ss : List Sign) → Some s ≡ first_of ss → code_at 0 ss ≡ s.code
first_code s [] f = cc
first_code s (t ∷ ss) f = let e : t ≡ s = cc in ap (λ (x : Sign). x.code) e

pub token_next : (p : Place) (s : Sign) → Some s ≡ first_of p.rest.left → is_blank s.code ≡ false → (s.code ≡ 47 → ⊥) ⊎ ((code_at 1 p.rest.left ≡ 47 → ⊥) × (code_at 1 p.rest.left ≡ 42 → ⊥)) → next p ≡ Some (past_token p s)
token_next p s f b o =
    let c = first_code s p.rest.left f in
    elim o [
      | inl w ↦
          let e : (code_at 0 p.rest.left == 47) ≡ false = ne_eqb _ 47 (λ x. w (sym c ∙ x)) in
          token_by p s s p.rest.left f b (ap (λ x. x && (code_at 1 p.rest.left == 47)) e) (ap (λ x. x && (code_at 1 p.rest.left == 42)) e)
      | inr w ↦
          token_by p s s p.rest.left f b (and_false (code_at 0 p.rest.left == 47) _ (ne_eqb _ 47 w.0)) (and_false (code_at 0 p.rest.left == 47) _ (ne_eqb _ 42 w.1))
    ]

-- the same walk from its begin on
data From : Place → Place → Type 0 where
  done : {p : Place} → From p p
  first : {p q r : Place} → next p ≡ Some q → From q r → From p r

joined : {a b : Place} → Reaches a b → (c : Place) → From b c → From a c
joined here c f = f
joined (more {p} {q} r e) c f = joined r c (first e f)

same_from : {a p : Place} → From a p → next p ≡ None → (b q : Place) → a ≡ b → From b q → next q ≡ None → p ≡ q
same_from (done {p}) n b q e done m = e
same_from (done {p}) n b q e (first h f) m = cc
same_from (first h f) n b q e done m = cc
same_from (first {q = x} h f) n b q e (first {q = y} k g) m = same_from f n y q (let w : x ≡ y = cc in w) g m

-- A walk ends at one place.
pub same_end : (a p q : Place) → Reaches a p → next p ≡ None → Reaches a q → next q ≡ None → p ≡ q
same_end a p q r n t m = same_from (joined r p done) n a q refl (joined t q done) m

end_next : (p : Place) → p.rest.left ≡ [] → next p ≡ None
end_next p e = ap (next_by p) e

pub same_tokens : (a : Place) (ts us : List Token) → ReachesEnd a ts → ReachesEnd a us → ts ≡ us
same_tokens a ts us x y =
    let e = same_end a x.0 y.0 x.1 (end_next x.0 x.2) y.1 (end_next y.0 y.2) in
    sym x.3 ∙ ap (λ (p : Place). p.tokens) e ∙ y.3

pub same_open : (a : Place) (m n : ℕ) → ReachesOpenComment a m → ReachesOpenComment a n → m ≡ n
same_open a m n x y =
    let e = same_end a x.0 y.0 x.3 x.5 y.3 y.5 in
    let l : x.1 ∷ x.2 ≡ y.1 ∷ y.2 = sym x.4 ∙ ap (λ (p : Place). p.rest.left) e ∙ y.4 in
    let s : x.1 ≡ y.1 = cc in
    sym x.6 ∙ ap (λ (z : Sign). z.at) s ∙ y.6

pub not_both : (a : Place) (ts : List Token) (n : ℕ) → ReachesEnd a ts → ReachesOpenComment a n → ⊥
not_both a ts n x y =
    let e = same_end a x.0 y.0 x.1 (end_next x.0 x.2) y.3 y.5 in
    let l : [] ≡ y.1 ∷ y.2 = sym x.2 ∙ ap (λ (p : Place). p.rest.left) e ∙ y.4 in
    cc

-- bytes with tokens have no fault
no_fault : (bs : List ℕ) (ts : List Token) (at : ℕ) (kind : LexKind) → IsLexed bs ts → IsFault bs at kind → ⊥
no_fault bs ts at NotUtf8 l f = omega (arith, f.0, f.1, utf8_valid_len-IsUtf8 bs l.0)
no_fault bs ts at OpenComment l f = not_both (begin bs) ts at l.1 f.0
no_fault bs ts at BadChar l f = f
no_fault bs ts at OpenString l f = f
no_fault bs ts at NumberTooLarge l f = f

pub only : (bs : List ℕ) (r : Result (Vec Token Global) LexFault) → IfOk r (λ v. IsLexed bs v.items) → IfErr r (IsLexFault bs) → (ts : List Token) → IsLexed bs ts → AreTokensUnlessMemory ts r
only bs (Ok v) a b ts h = same_tokens (begin bs) v.items ts a.1 h.1
only bs (Err NoMemory) a b ts h = refl
only bs (Err (At at kind)) a b ts h = absurd (no_fault bs ts at kind h b)

same_fault : (bs : List ℕ) (at place : ℕ) (kind what : LexKind) → IsFault bs at kind → IsFault bs place what → (place ≡ at) × (what ≡ kind)
same_fault bs at place NotUtf8 NotUtf8 f g = (g.0 ∙ sym f.0, refl)
same_fault bs at place NotUtf8 OpenComment f g = let h = f.2 place g.0 in absurd (omega (arith, h, g.1, f.0))
same_fault bs at place OpenComment NotUtf8 f g = let h = g.2 at f.0 in absurd (omega (arith, h, f.1, g.0))
same_fault bs at place OpenComment OpenComment f g = (same_open (begin bs) place at g.0 f.0, refl)
same_fault bs at place kind BadChar f g = absurd g
same_fault bs at place kind OpenString f g = absurd g
same_fault bs at place kind NumberTooLarge f g = absurd g
same_fault bs at place BadChar what f g = absurd f
same_fault bs at place OpenString what f g = absurd f
same_fault bs at place NumberTooLarge what f g = absurd f

pub only_fault : (bs : List ℕ) (r : Result (Vec Token Global) LexFault) → IfOk r (λ v. IsLexed bs v.items) → IfErr r (IsLexFault bs) → (at : ℕ) (kind : LexKind) → IsFault bs at kind → IsFaultUnlessMemory at kind r
only_fault bs (Ok v) a b at kind f = no_fault bs v.items at kind a f
only_fault bs (Err NoMemory) a b at kind f = tt
only_fault bs (Err (At place what)) a b at kind f = same_fault bs at place kind what f b

-- the first byte that is not UTF-8 is the fault where no comment was open before it
pub not_utf8_whole : (bs : List ℕ) (v : ℕ) (ts : List Token) → v ≡ utf8_valid_len bs → v ≤ length bs → (v ≡ length bs → ⊥) → IsWhole bs ts → IsFault bs v NotUtf8
not_utf8_whole bs v ts e h n w = (e, omega (arith, h, n), λ at o. absurd (not_both (begin bs) ts at w o))

pub not_utf8_open : (bs : List ℕ) (v at : ℕ) → v ≡ utf8_valid_len bs → v ≤ at → width (characters bs) ≡ length bs → IsOpenComment bs at → IsFault bs v NotUtf8
not_utf8_open bs v at e h z o = (e, (let k = open_within (characters bs) at o in omega (arith, k, z, h)), λ q p. (let k = same_open (begin bs) q at p o in omega (arith, k, h)))
