-- Steps of the forms of tokens.
use Rattle.std.proofs.Common.{◌≡◌, ℕ, zero, suc, ◌+◌, ◌-◌, ◌*◌, ◌<◌, ◌≤◌, Bool, true, false, cond, List, [], ◌∷◌, ◌++◌, length, min, refl, sym, ap, ◌∙◌, arith, ne_eqb, eq-eqb}
use Rattle.std.proofs.Math.Nat.{mul-le-mul_left}
use Rattle.std.proofs.Math.Logic.{⊎_elim}
use Rattle.std.proofs.lemmas.Bool.Decides.{leb_tells}
use Rattle.std.proofs.lemmas.Bool.{lt-leb}
use Rattle.std.proofs.lemmas.List.{append-nil}
use Rattle.std.specs.Prelude.{Some, ◌==◌, ◌&&◌, if◌then◌else◌, nat_le, pos}
use Rattle.std.specs.Char.{digit_value}
use Rattle.lp_tree.specs.declared.token.TokenKind.{TokenKind}
use Rattle.lp_tree.specs.declared.token.TokenKind.TheVariants.{Int, Bad}
use Rattle.lp_tree.specs.declared.token.LexKind.TheVariants.{NumberTooLarge}
use Rattle.lp_lexer.specs.declared.sign.Sign.{Sign}
use Rattle.lp_lexer.specs.declared.sign.Letter.{Letter}
use Rattle.lp_lexer.specs.Source.{Rest, rest, passed, skipped, first_of, code_at, front, past, end_of}
use Rattle.lp_lexer.specs.Forms.{letters_of, with_letter, letter_at, escape, escaped, is_digit, number_after, integer}
use Rattle.lp_lexer.specs.Steps.{too_large}

-- the front of the signs that pass a test, one sign on and at its end
pub front-more : (p : ℕ → Bool) (behind c : ℕ) (ss : List Sign) (r : Rest) → c ≡ code_at 0 ss → r ≡ passed behind ss → p 0 ≡ false → p c ≡ true → front p ss ≡ c ∷ front p r.left
front-more p behind c [] r e f z t = let w : p c ≡ false = ap p e ∙ z in cc
front-more p behind c (s ∷ ss) r e f z t =
    ap (λ b. cond b (s.code ∷ front p ss) []) (ap p (sym e) ∙ t) ∙ ap (λ x. x ∷ front p ss) (sym e) ∙ ap (λ (x : Rest). c ∷ front p x.left) (sym f)

pub past-more : (p : ℕ → Bool) (behind c : ℕ) (ss : List Sign) (r : Rest) → c ≡ code_at 0 ss → r ≡ passed behind ss → p c ≡ true → past p behind ss ≡ past p r.behind r.left
past-more p behind c [] r e f t = ap (λ (x : Rest). past p x.behind x.left) (sym f)
past-more p behind c (s ∷ ss) r e f t =
    ap (λ b. cond b (past p (end_of s) ss) (rest behind (s ∷ ss))) (ap p (sym e) ∙ t) ∙ ap (λ (x : Rest). past p x.behind x.left) (sym f)

pub front-end : (p : ℕ → Bool) (c : ℕ) (ss : List Sign) → c ≡ code_at 0 ss → p c ≡ false → front p ss ≡ []
front-end p c [] e f = refl
front-end p c (s ∷ ss) e f = ap (λ b. cond b (s.code ∷ front p ss) []) (ap p (sym e) ∙ f)

pub past-end : (p : ℕ → Bool) (behind c : ℕ) (ss : List Sign) → c ≡ code_at 0 ss → p c ≡ false → past p behind ss ≡ rest behind ss
past-end p behind c [] e f = refl
past-end p behind c (s ∷ ss) e f = ap (λ b. cond b (past p (end_of s) ss) (rest behind (s ∷ ss))) (ap p (sym e) ∙ f)

pub passed-shorter : (p : ℕ → Bool) (behind c : ℕ) (ss : List Sign) (r : Rest) → c ≡ code_at 0 ss → r ≡ passed behind ss → p 0 ≡ false → p c ≡ true → length r.left < length ss
passed-shorter p behind c [] r e f z t = let w : p c ≡ false = ap p e ∙ z in cc
passed-shorter p behind c (s ∷ ss) r e f z t = let k : length r.left ≡ length ss = ap (λ (x : Rest). length x.left) f in omega arith

-- the letter behind a backslash
pub letter_behind : (behind c h k : ℕ) (ss : List Sign) (r : Rest) (l : Letter) → r ≡ passed behind ss → code_at 0 ss ≡ 92 → c ≡ code_at 0 r.left → h ≡ code_at 1 r.left → k ≡ code_at 2 r.left → l ≡ escape c h k → l ≡ letter_at ss
letter_behind behind c h k [] r l f e x y z g = cc
letter_behind behind c h k (s ∷ ss) r l f e x y z g =
    let f1 : r.left ≡ ss = ap (λ (q : Rest). q.left) f in
    g ∙ ap (λ n. escape n h k) (x ∙ ap (code_at 0) f1) ∙ ap (λ n. escape (code_at 0 ss) n k) (y ∙ ap (code_at 1) f1) ∙ ap (λ n. escape (code_at 0 ss) (code_at 1 ss) n) (z ∙ ap (code_at 2) f1)
    ∙ sym (ap (λ b. cond b (escape (code_at 0 ss) (code_at 1 ss) (code_at 2 ss)) (record { code = s.code; size = 1 })) (eq-eqb s.code 92 e))

-- letters of a text
size_if : (b : Bool) (l m : Letter) → 1 ≤ l.size → 1 ≤ m.size → 1 ≤ (cond b l m).size
size_if true l m h k = h
size_if false l m h k = k

escape-size : (c h k : ℕ) → 1 ≤ (escape c h k).size
escape-size c h k =
    size_if (c == 10) (record { code = 92; size = 1 }) (if (c == 120) && is_digit 16 h && is_digit 16 k then record { code = digit_value h * 16 + digit_value k; size = 4 } else record { code = escaped c; size = 2 }) (omega arith)
    (size_if ((c == 120) && is_digit 16 h && is_digit 16 k) (record { code = digit_value h * 16 + digit_value k; size = 4 }) (record { code = escaped c; size = 2 }) (omega arith) (omega arith))

pub letter-size : (ss : List Sign) → 1 ≤ (letter_at ss).size
letter-size [] = omega arith
letter-size (s ∷ ss) = size_if (s.code == 92) (escape (code_at 0 ss) (code_at 1 ss) (code_at 2 ss)) (record { code = s.code; size = 1 }) (escape-size (code_at 0 ss) (code_at 1 ss) (code_at 2 ss)) (omega arith)

letters_of-skipped : (n behind : ℕ) (ss : List Sign) → letters_of n behind ss ≡ letters_of 0 (skipped n behind ss).behind (skipped n behind ss).left
letters_of-skipped zero behind ss = refl
letters_of-skipped (suc n) behind [] = refl
letters_of-skipped (suc n) behind (s ∷ ss) = letters_of-skipped n (end_of s) ss

pub length-skipped : (n behind : ℕ) (ss : List Sign) → length (skipped n behind ss).left ≤ length ss
length-skipped zero behind ss = omega arith
length-skipped (suc n) behind [] = omega arith
length-skipped (suc n) behind (s ∷ ss) = let h = length-skipped n (end_of s) ss in omega (arith, h)

letter-step : (behind m : ℕ) (s : Sign) (ss : List Sign) (new : Rest) → (s.code ≡ 34 → ⊥) → (s.code ≡ 10 → ⊥) → (letter_at (s ∷ ss)).size ≡ suc m → new ≡ skipped (suc m) behind (s ∷ ss)
    → (letters_of 0 behind (s ∷ ss) ≡ with_letter (letter_at (s ∷ ss)).code (letters_of 0 new.behind new.left)) × (length new.left < length (s ∷ ss))
letter-step behind m s ss new q n z e =
    let t = letter_at (s ∷ ss) in
    let k : t.size - 1 ≡ m = omega (arith, z) in (
      ap (λ b. cond b (record { letters = []; closed = true; after = rest (end_of s) ss }) (if s.code == 10 then record { letters = []; closed = false; after = rest behind (s ∷ ss) } else with_letter t.code (letters_of (t.size - 1) (end_of s) ss))) (ne_eqb s.code 34 q)
          ∙ ap (λ b. cond b (record { letters = []; closed = false; after = rest behind (s ∷ ss) }) (with_letter t.code (letters_of (t.size - 1) (end_of s) ss))) (ne_eqb s.code 10 n)
          ∙ ap (λ i. with_letter t.code (letters_of i (end_of s) ss)) k
          ∙ ap (with_letter t.code) (letters_of-skipped m (end_of s) ss ∙ ap (λ (r : Rest). letters_of 0 r.behind r.left) (sym e)),
      (let h = length-skipped m (end_of s) ss in let g : length new.left ≡ length (skipped m (end_of s) ss).left = ap (λ (r : Rest). length r.left) e in omega (arith, h, g)),
    )

pub text_letter : (behind : ℕ) (s : Sign) (ss : List Sign) (l : Letter) (new : Rest) → Some s ≡ first_of ss → (s.code ≡ 34 → ⊥) → (s.code ≡ 10 → ⊥) → l ≡ letter_at ss → new ≡ skipped l.size behind ss
    → (letters_of 0 behind ss ≡ with_letter l.code (letters_of 0 new.behind new.left)) × (length new.left < length ss)
text_letter behind s [] l new f q n e g = cc
text_letter behind s (t ∷ ss) l new f q n e g =
    let st : s ≡ t = cc in
    let size = letter-size (t ∷ ss) in
    let m = (letter_at (t ∷ ss)).size - 1 in
    let z : (letter_at (t ∷ ss)).size ≡ suc m = omega (arith, size) in
    let h = letter-step behind m t ss new (λ w. q (ap (λ (x : Sign). x.code) st ∙ w)) (λ w. n (ap (λ (x : Sign). x.code) st ∙ w)) z (g ∙ ap (λ (x : Letter). skipped x.size behind (t ∷ ss)) e ∙ ap (λ i. skipped i behind (t ∷ ss)) z) in
    (h.0 ∙ ap (λ (x : Letter). with_letter x.code (letters_of 0 new.behind new.left)) (sym e), h.1)

-- a number that is too large stays so
capped_small : (base d v w : ℕ) → w ≡ v → min (w * base + d) too_large ≡ min (v * base + d) too_large
capped_small base d v w e = ap (λ n. min (n * base + d) too_large) e

capped_large : (base d v w : ℕ) → 1 ≤ base → too_large ≤ v → too_large ≤ w → min (w * base + d) too_large ≡ min (v * base + d) too_large
capped_large base d v w h a b =
    let x : v * 1 ≤ v * base = mul-le-mul_left v h in
    let y : w * 1 ≤ w * base = mul-le-mul_left w h in
    omega (arith, x, y, a, b)

capped-more : (base d v : ℕ) → 1 ≤ base → min (min v too_large * base + d) too_large ≡ min (v * base + d) too_large
capped-more base d v h =
    ⊎_elim (λ a. capped_small base d v (min v too_large) (omega (arith, a.1))) (λ a. capped_large base d v (min v too_large) h (omega (arith, a.1)) (omega (arith, a.1))) (leb_tells v too_large)

capped-all : (base v : ℕ) (cs : List ℕ) → 1 ≤ base → min (number_after base (min v too_large) cs) too_large ≡ min (number_after base v cs) too_large
capped-all base v [] h = omega arith
capped-all base v (c ∷ cs) h =
    sym (capped-all base (min v too_large * base + digit_value c) cs h)
    ∙ ap (λ n. min (number_after base n cs) too_large) (capped-more base (digit_value c) v h)
    ∙ capped-all base (v * base + digit_value c) cs h

-- one digit more
pub digit-step : (base v w c d whole : ℕ) (cs ds : List ℕ) → 1 ≤ base → cs ≡ c ∷ ds → d ≡ digit_value c → w ≡ min (v * base + d) too_large → min (number_after base v cs) too_large ≡ whole → min (number_after base w ds) too_large ≡ whole
digit-step base v w c d whole cs ds h e f g k =
    ap (λ n. min (number_after base n ds) too_large) (g ∙ ap (λ n. min (v * base + n) too_large) f)
    ∙ capped-all base (v * base + digit_value c) ds h
    ∙ sym (ap (λ xs. min (number_after base v xs) too_large) e) ∙ k

-- what counts of a number is whether it is too large
capped_integer : (n : ℕ) (b : Bool) → nat_le n 9223372036854775807 ≡ b → (b ≡ true → min n too_large ≡ n) → (b ≡ false → min n too_large ≡ too_large) → integer (min n too_large) ≡ integer n
capped_integer n true e t f = ap integer (t refl)
capped_integer n false e t f = ap integer (f refl) ∙ sym (ap (λ b. cond b (Int (pos n)) (Bad NumberTooLarge)) e)

integer-capped : (n : ℕ) → integer (min n too_large) ≡ integer n
integer-capped n =
    ⊎_elim (λ a. capped_integer n true a.0 (λ _. omega (arith, a.1)) (λ x. cc)) (λ a. capped_integer n false a.0 (λ x. cc) (λ _. omega (arith, a.1))) (leb_tells n 9223372036854775807)

pub integer-from_capped : (v n : ℕ) (k : TokenKind) → k ≡ integer v → v ≤ too_large → min v too_large ≡ min n too_large → k ≡ integer n
integer-from_capped v n k e h f = e ∙ sym (integer-capped v) ∙ ap integer f ∙ integer-capped n

pub no_digit : (base : ℕ) → base ≤ 36 → is_digit base 0 ≡ false
no_digit base h = lt-leb 37 base (omega (arith, h))

-- what is read at the end of a loop over a front
pub front-done : (p : ℕ → Bool) (c : ℕ) (ss : List Sign) (done whole : List ℕ) → c ≡ code_at 0 ss → p c ≡ false → done ++ front p ss ≡ whole → done ≡ whole
front-done p c ss done whole e f k = sym (append-nil done) ∙ sym (ap (λ xs. done ++ xs) (front-end p c ss e f)) ∙ k
