-- Each form goes on by some signs.
use Rattle.std.proofs.Common.{◌≡◌, ℕ, zero, suc, ◌+◌, ◌-◌, ◌<◌, ◌≤◌, Bool, true, false, cond, List, [], ◌∷◌, length, refl, sym, ap, subst, ◌∙◌, arith, zero-add}
use Rattle.std.specs.Prelude.{Option, Some, None, option_map, ◌==◌, ◌&&◌, ◌||◌, not, pos}
use Rattle.lp_tree.specs.declared.token.Mark.{Mark as MarkKind}
use Rattle.std.proofs.lemmas.Bool.Decides.{nat_tests}
use Rattle.std.proofs.lemmas.Bool.{eqb-true}
use Rattle.lp_tree.specs.declared.token.TokenKind.TheVariants.{Int, Bad}
use Rattle.lp_tree.specs.declared.token.LexKind.TheVariants.{BadChar}
use Rattle.lp_lexer.specs.declared.sign.Sign.{Sign}
use Rattle.lp_lexer.specs.Source.{Rest, rest, passed, skipped, code_at, past, end_of}
use Rattle.lp_lexer.specs.Marks.{Fit, longest, or_shorter, one, two, three}
use Rattle.lp_lexer.specs.Forms.{Read, Letters, letters_of, with_letter, letter_at, is_letter, is_digit, is_word, base_at, name, number, text, literal, mark, marked, read}
use Rattle.lp_lexer.specs.Lexis.{Place, Comment, comment, comment_at, is_blank, stays_on_line, opens_line, opens_block, past_blank, past_line_comment, past_comment, past_token, next_by, next}
use Rattle.lp_lexer.proofs.Reading.{length-skipped}

-- what is left is what is left behind some signs
pub record Advances (least behind : ℕ) (ss : List Sign) (r : Rest) : Type 0 where
  pub signs : ℕ
  pub enough : least ≤ signs
  pub is : r ≡ skipped signs behind ss

pub stays : (behind : ℕ) (ss : List Sign) → Advances 0 behind ss (rest behind ss)
stays behind ss = record { signs = 0; enough = omega arith; is = refl }

-- a sign more
pub sign_more : {least behind : ℕ} {s : Sign} {ss : List Sign} {r : Rest} → Advances least (end_of s) ss r → Advances (least + 1) behind (s ∷ ss) r
sign_more {s = s} a = record { signs = suc a.signs; enough = omega (arith, a.enough); is = a.is }

pub weaker : {least more behind : ℕ} {ss : List Sign} {r : Rest} → Advances more behind ss r → least ≤ more → Advances least behind ss r
weaker a h = record { signs = a.signs; enough = omega (arith, a.enough); is = a.is }

choice : {least behind : ℕ} {ss : List Sign} (b : Bool) (x y : Rest) → Advances least behind ss x → Advances least behind ss y → Advances least behind ss (cond b x y)
choice true x y a c = a
choice false x y a c = c

past-advances : (p : ℕ → Bool) (behind : ℕ) (ss : List Sign) → Advances 0 behind ss (past p behind ss)
past-advances p behind [] = stays behind []
past-advances p behind (s ∷ ss) = choice (p s.code) (past p (end_of s) ss) (rest behind (s ∷ ss)) (weaker (sign_more (past-advances p (end_of s) ss)) (omega arith)) (stays behind (s ∷ ss))

-- a first sign that passes
past-some : (p : ℕ → Bool) (behind : ℕ) (s : Sign) (ss : List Sign) → p s.code ≡ true → Advances 1 behind (s ∷ ss) (past p behind (s ∷ ss))
past-some p behind s ss e =
    subst (Advances 1 behind (s ∷ ss)) (sym (ap (λ b. cond b (past p (end_of s) ss) (rest behind (s ∷ ss))) e)) (weaker (sign_more (past-advances p (end_of s) ss)) (omega arith))

-- one advance and then another
skipped-nil : (n behind : ℕ) → skipped n behind [] ≡ rest behind []
skipped-nil zero behind = refl
skipped-nil (suc n) behind = refl

pub skipped-skipped : (m n behind : ℕ) (ss : List Sign) → skipped n (skipped m behind ss).behind (skipped m behind ss).left ≡ skipped (m + n) behind ss
skipped-skipped zero n behind ss = ap (λ k. skipped k behind ss) (sym (zero-add n))
skipped-skipped (suc m) n behind [] = skipped-nil n behind ∙ sym (skipped-nil (suc m + n) behind)
skipped-skipped (suc m) n behind (s ∷ ss) = skipped-skipped m n (end_of s) ss ∙ ap (λ k. skipped k behind (s ∷ ss)) (let k : suc (m + n) ≡ suc m + n = omega arith in k)

pub then_on : {least more behind : ℕ} {ss : List Sign} {r q : Rest} → Advances least behind ss r → Advances more r.behind r.left q → Advances (least + more) behind ss q
then_on {behind = behind} {ss = ss} a c = record {
  signs = a.signs + c.signs;
  enough = omega (arith, a.enough, c.enough);
  is = c.is ∙ ap (λ (x : Rest). skipped c.signs x.behind x.left) a.is ∙ skipped-skipped a.signs c.signs behind ss;
}

passed-is : (behind : ℕ) (ss : List Sign) → passed behind ss ≡ skipped 1 behind ss
passed-is behind [] = refl
passed-is behind (s ∷ ss) = refl

pub passes : (behind : ℕ) (ss : List Sign) → Advances 1 behind ss (passed behind ss)
passes behind ss = record { signs = 1; enough = omega arith; is = passed-is behind ss }

pub skips : (n behind : ℕ) (ss : List Sign) → Advances n behind ss (skipped n behind ss)
skips n behind ss = record { signs = n; enough = omega arith; is = refl }

-- the forms
letters_choice : {behind : ℕ} {ss : List Sign} (b : Bool) (x y : Letters) → Advances 0 behind ss x.after → Advances 0 behind ss y.after → Advances 0 behind ss (cond b x y).after
letters_choice true x y a c = a
letters_choice false x y a c = c

letters-advances : (n behind : ℕ) (ss : List Sign) → Advances 0 behind ss (letters_of n behind ss).after
letters-advances n behind [] = stays behind []
letters-advances zero behind (s ∷ ss) =
    let t = letter_at (s ∷ ss) in
    letters_choice (s.code == 34) (record { letters = []; closed = true; after = rest (end_of s) ss }) _ (weaker (passes behind (s ∷ ss)) (omega arith))
    (letters_choice (s.code == 10) (record { letters = []; closed = false; after = rest behind (s ∷ ss) }) (with_letter t.code (letters_of (t.size - 1) (end_of s) ss)) (stays behind (s ∷ ss)) (weaker (sign_more (letters-advances (t.size - 1) (end_of s) ss)) (omega arith)))
letters-advances (suc n) behind (s ∷ ss) = weaker (sign_more (letters-advances n (end_of s) ss)) (omega arith)

text-advances : (r : Rest) → Advances 1 r.behind r.left (text r).after
text-advances r = let o = passed r.behind r.left in then_on (passes r.behind r.left) (letters-advances 0 o.behind o.left)

read_choice : {behind : ℕ} {ss : List Sign} (b : Bool) (x y : Read) → (b ≡ true → Advances 1 behind ss x.after) → (b ≡ false → Advances 1 behind ss y.after) → Advances 1 behind ss (cond b x y).after
read_choice true x y a c = a refl
read_choice false x y a c = c refl

literal-advances : (r : Rest) → Advances 1 r.behind r.left (literal r).after
literal-advances r =
    let quote = passed r.behind r.left in
    let l = letter_at quote.left in
    let close = skipped l.size quote.behind quote.left in
    read_choice (not ((code_at 0 quote.left == 39) || (code_at 0 quote.left == 10)) && (code_at 0 close.left == 39))
    (record { kind = Int (pos l.code); after = passed close.behind close.left }) (record { kind = Bad BadChar; after = quote })
    (λ _. weaker (then_on (passes r.behind r.left) (then_on (skips l.size quote.behind quote.left) (passes close.behind close.left))) (omega arith))
    (λ _. passes r.behind r.left)

abbrev HasSigns : Option Fit → Type 0
HasSigns None = Unit {0}
HasSigns (Some g) = 1 ≤ g.size

marked-advances : (f : Option Fit) (r : Rest) → HasSigns f → Advances 1 r.behind r.left (marked f r).after
marked-advances None r h = passes r.behind r.left
marked-advances (Some g) r h = weaker (skips g.size r.behind r.left) h

fits : (m : Option MarkKind) (size : ℕ) (f : Option Fit) → 1 ≤ size → HasSigns f → HasSigns (or_shorter m size f)
fits None size f a h = h
fits (Some m) size f a h = a

mark-advances : (r : Rest) → Advances 1 r.behind r.left (mark r).after
mark-advances r =
    let a = code_at 0 r.left in
    let b = code_at 1 r.left in
    let c = code_at 2 r.left in
    marked-advances (longest a b c) r (fits (three a b c) 3 _ (omega arith) (fits (two a b) 2 _ (omega arith) (fits (one a) 1 None (omega arith) tt)))

name-advances : (behind : ℕ) (s : Sign) (ss : List Sign) → is_letter s.code ≡ true → Advances 1 behind (s ∷ ss) (name (rest behind (s ∷ ss))).after
name-advances behind s ss e = past-some is_word behind s ss (ap (λ b. b || is_digit 10 s.code) e)

-- the digits of a base, behind its prefix
digits_behind : (base behind : ℕ) (s : Sign) (ss : List Sign) (ten : Bool) → (base == 10) ≡ ten → is_digit 10 s.code ≡ true
    → Advances 1 behind (s ∷ ss) (past (is_digit base) (cond ten (rest behind (s ∷ ss)) (skipped 2 behind (s ∷ ss))).behind (cond ten (rest behind (s ∷ ss)) (skipped 2 behind (s ∷ ss))).left)
digits_behind base behind s ss true e d = past-some (is_digit base) behind s ss (ap (λ b. is_digit b s.code) (eqb-true base 10 e) ∙ d)
digits_behind base behind s ss false e d =
    let two = skipped 2 behind (s ∷ ss) in
    weaker (then_on (skips 2 behind (s ∷ ss)) (past-advances (is_digit base) two.behind two.left)) (omega arith)

number-advances : (behind : ℕ) (s : Sign) (ss : List Sign) → is_digit 10 s.code ≡ true → Advances 1 behind (s ∷ ss) (number (rest behind (s ∷ ss))).after
number-advances behind s ss d = digits_behind (base_at (s ∷ ss)) behind s ss (base_at (s ∷ ss) == 10) refl d

pub read-advances : (behind : ℕ) (s : Sign) (ss : List Sign) → Advances 1 behind (s ∷ ss) (read (rest behind (s ∷ ss))).after
read-advances behind s ss =
    let r = rest behind (s ∷ ss) in
    read_choice (is_letter s.code) (name r) _ (name-advances behind s ss) (λ _.
    read_choice (is_digit 10 s.code) (number r) _ (number-advances behind s ss) (λ _.
    read_choice (s.code == 34) (text r) _ (λ _. text-advances r) (λ _.
    read_choice (s.code == 39) (literal r) (mark r) (λ _. literal-advances r) (λ _. mark-advances r))))

-- comments
comment_choice : {least behind : ℕ} {ss : List Sign} (b : Bool) (x y : Option Comment) (c : Comment) → (x ≡ Some c → Advances least behind ss c.after) → (y ≡ Some c → Advances least behind ss c.after) → cond b x y ≡ Some c → Advances least behind ss c.after
comment_choice true x y c a d e = a e
comment_choice false x y c a d e = d e

comment-advances : (crosses : Bool) (behind : ℕ) (ss : List Sign) (c : Comment) → comment crosses ss ≡ Some c → Advances 1 behind ss c.after
comment-advances crosses behind [] c e = cc
comment-advances crosses behind (s ∷ ss) c e =
    comment_choice ((s.code == 42) && (code_at 0 ss == 47)) (Some (record { crosses = crosses; after = passed (end_of s) ss })) (comment (crosses || (s.code == 10)) ss) c
    (λ w. let v : record { crosses = crosses; after = passed (end_of s) ss } ≡ c = cc in
    weaker (subst (Advances 2 behind (s ∷ ss)) (ap (λ (x : Comment). x.after) v) (sign_more (passes (end_of s) ss))) (omega arith))
    (λ w. weaker (sign_more (comment-advances (crosses || (s.code == 10)) (end_of s) ss c w)) (omega arith)) e

block-advances : (p : Place) (q : Place) (o : Option Comment) → option_map (past_comment p) o ≡ Some q → (c : Comment) × (o ≡ Some c) × (q ≡ past_comment p c)
block-advances p q None e = cc
block-advances p q (Some c) e = (c, refl, (let w : q ≡ past_comment p c = cc in w))

pub block-next : (p q : Place) → option_map (past_comment p) (comment_at p.rest) ≡ Some q → Advances 1 p.rest.behind p.rest.left q.rest
block-next p q e =
    let b = block-advances p q (comment_at p.rest) e in
    let inside = skipped 2 p.rest.behind p.rest.left in
    weaker (subst (Advances 3 p.rest.behind p.rest.left) (sym (ap (λ (x : Place). x.rest) b.2)) (then_on (skips 2 p.rest.behind p.rest.left) (comment-advances false inside.behind inside.left b.0 b.1))) (omega arith)

-- the next place
some_advances : (p q : Place) (s : Sign) (ss : List Sign) (r : Place) → Some r ≡ Some q → Advances 1 p.rest.behind (s ∷ ss) r.rest → Advances 1 p.rest.behind (s ∷ ss) q.rest
some_advances p q s ss r e a = let w : r ≡ q = cc in subst (Advances 1 p.rest.behind (s ∷ ss)) (ap (λ (x : Place). x.rest) w) a

place_choice : (p q : Place) (s : Sign) (ss : List Sign) (b : Bool) (x y : Option Place) → (b ≡ true → x ≡ Some q → Advances 1 p.rest.behind (s ∷ ss) q.rest) → (b ≡ false → y ≡ Some q → Advances 1 p.rest.behind (s ∷ ss) q.rest) → cond b x y ≡ Some q → Advances 1 p.rest.behind (s ∷ ss) q.rest
place_choice p q s ss true x y a c e = a refl e
place_choice p q s ss false x y a c e = c refl e

line_stays : (c : ℕ) (b : Bool) → ((c == 47) && b) ≡ true → stays_on_line c ≡ true
line_stays c b h = grind (arith, nat_tests)

next_by-advances : (p q : Place) (behind : ℕ) (s : Sign) (ss : List Sign) → p.rest ≡ rest behind (s ∷ ss) → next_by p (s ∷ ss) ≡ Some q → Advances 1 p.rest.behind (s ∷ ss) q.rest
next_by-advances p q behind s ss f e =
    let l : p.rest.left ≡ s ∷ ss = ap (λ (x : Rest). x.left) f in
    place_choice p q s ss (is_blank s.code) (Some (past_blank p)) _
    (λ _ w. some_advances p q s ss (past_blank p) w (subst (λ xs. Advances 1 p.rest.behind xs (past_blank p).rest) l (passes p.rest.behind p.rest.left)))
    (λ _. place_choice p q s ss (opens_line (s ∷ ss)) (Some (past_line_comment p)) _
    (λ h w. some_advances p q s ss (past_line_comment p) w
    (subst (λ xs. Advances 1 p.rest.behind (s ∷ ss) (past stays_on_line p.rest.behind xs)) (sym l) (past-some stays_on_line p.rest.behind s ss (line_stays s.code (code_at 0 ss == 47) h))))
    (λ _. place_choice p q s ss (opens_block (s ∷ ss)) (option_map (past_comment p) (comment_at p.rest)) (Some (past_token p s))
    (λ _ w. subst (λ xs. Advances 1 p.rest.behind xs q.rest) l (block-next p q w))
    (λ _ w. some_advances p q s ss (past_token p s) w
    (subst (λ xs. Advances 1 p.rest.behind (s ∷ ss) (read (rest p.rest.behind xs)).after) (sym l) (read-advances p.rest.behind s ss))))) e

by_left : (p q : Place) (ss : List Sign) → p.rest.left ≡ ss → next_by p ss ≡ Some q → Advances 1 p.rest.behind ss q.rest
by_left p q [] f e = cc
by_left p q (s ∷ ss) f e = next_by-advances p q p.rest.behind s ss (ap (rest p.rest.behind) f) e

pub next-advances : (p q : Place) → next p ≡ Some q → Advances 1 p.rest.behind p.rest.left q.rest
next-advances p q e = by_left p q p.rest.left refl e

-- so it is shorter
length-skipped_more : (n behind : ℕ) (ss : List Sign) → 1 ≤ n → 0 < length ss → length (skipped n behind ss).left < length ss
length-skipped_more zero behind ss h k = absurd (omega (arith, h))
length-skipped_more (suc n) behind [] h k = absurd (omega (arith, k))
length-skipped_more (suc n) behind (s ∷ ss) h k = let w = length-skipped n (end_of s) ss in omega (arith, w)

some_left : (p q : Place) (ss : List Sign) → next_by p ss ≡ Some q → 0 < length ss
some_left p q [] e = cc
some_left p q (s ∷ ss) e = omega arith

pub next-shorter : (p q : Place) → next p ≡ Some q → length q.rest.left < length p.rest.left
next-shorter p q e =
    let a = next-advances p q e in
    let k : length q.rest.left ≡ length (skipped a.signs p.rest.behind p.rest.left).left = ap (λ (x : Rest). length x.left) a.is in
    let w = length-skipped_more a.signs p.rest.behind p.rest.left a.enough (some_left p q p.rest.left e) in
    omega (arith, k, w)
