-- Tokens are apart, and each byte is accounted for.
use Rattle.std.proofs.Common.{◌≡◌, ℕ, zero, suc, ◌+◌, ◌<◌, ◌≤◌, Bool, true, false, cond, List, [], ◌∷◌, ◌++◌, length, drop, get_or, refl, sym, ap, subst, ◌∙◌, arith, inl, inr, lit<}
use Rattle.std.specs.Prelude.{Option, Some, None, option_map, ◌==◌, ◌&&◌, slice_index, ◌⊎◌}
use Rattle.std.proofs.Math.Logic.{⊎_elim}
use Rattle.std.proofs.lemmas.Str.{len_utf8_bounds, length-encode, encode_ascii, drop_past_char, encodes-chars}
use Rattle.std.proofs.lemmas.Bool.{eqb-true}
use Rattle.std.proofs.lemmas.Bool.Decides.{leb_tells}
use Rattle.std.proofs.lemmas.List.{append-nil, drop-drop, get_or-drop, length-drop, length-append}
use Rattle.std.specs.Str.{chars, IsUtf8, encode_utf8_all}
use Rattle.std.specs.Char.{len_utf8, encode_utf8}
use Rattle.lp_tree.specs.declared.token.Token.{Token}
use Rattle.lp_lexer.specs.declared.sign.Sign.{Sign}
use Rattle.lp_lexer.specs.Source.{Rest, skipped, signs, joins, line_after, width, characters, end_of}
use Rattle.lp_lexer.specs.Forms.{read}
use Rattle.lp_lexer.specs.Lexis.{Place, Comment, begin, begin_of, is_blank, opens_line, opens_block, past_blank, past_line_comment, past_comment, comment_at, past_token, token_from, next_by, next, Reaches, here, more, IsLexed}
use Rattle.lp_lexer.specs.Laws.{AreDisjoint, IsOfToken, IsOfJoin, IsAccounted}
use Rattle.lp_lexer.proofs.Advances.{Advances, next-advances}
use Rattle.lp_lexer.proofs.Order.{IsOrdered, reached-ordered, begin-ordered, ordered_within, reaches-advances}
use Rattle.lp_lexer.proofs.Decoding.{characters-utf8, width-utf8}

below_or : (k n : ℕ) → (k < n) ⊎ (n ≤ k)
below_or k n = ⊎_elim (λ a. inr a.1) (λ a. inl a.1) (leb_tells n k)

-- What a step is: behind a gap, or behind a token.
pub record StepsBy (p q : Place) (s : Sign) (ss : List Sign) : Type 0 where
  pub gap : ((is_blank s.code ≡ true) ⊎ ((opens_line (s ∷ ss) ≡ true) ⊎ (opens_block (s ∷ ss) ≡ true))) × (q.tokens ≡ p.tokens)

steps_gap : (p q r : Place) (s : Sign) (ss : List Sign) → (is_blank s.code ≡ true) ⊎ ((opens_line (s ∷ ss) ≡ true) ⊎ (opens_block (s ∷ ss) ≡ true)) → r.tokens ≡ p.tokens → Some r ≡ Some q → StepsBy p q s ss ⊎ (q ≡ past_token p s)
steps_gap p q r s ss g t e = inl (record { gap = (g, (let w : r ≡ q = cc in ap (λ (x : Place). x.tokens) (sym w) ∙ t)) })

steps_comment : (p q : Place) (s : Sign) (ss : List Sign) (o : Option Comment) → opens_block (s ∷ ss) ≡ true → option_map (past_comment p) o ≡ Some q → StepsBy p q s ss ⊎ (q ≡ past_token p s)
steps_comment p q s ss None b e = cc
steps_comment p q s ss (Some c) b e = steps_gap p q (past_comment p c) s ss (inr (inr b)) refl e

steps_if : (p q : Place) (s : Sign) (ss : List Sign) (b : Bool) (x y : Option Place) → (b ≡ true → x ≡ Some q → StepsBy p q s ss ⊎ (q ≡ past_token p s)) → (b ≡ false → y ≡ Some q → StepsBy p q s ss ⊎ (q ≡ past_token p s)) → cond b x y ≡ Some q → StepsBy p q s ss ⊎ (q ≡ past_token p s)
steps_if p q s ss true x y a c e = a refl e
steps_if p q s ss false x y a c e = c refl e

steps : (p q : Place) (s : Sign) (ss : List Sign) → next_by p (s ∷ ss) ≡ Some q → StepsBy p q s ss ⊎ (q ≡ past_token p s)
steps p q s ss e =
    steps_if p q s ss (is_blank s.code) (Some (past_blank p)) _ (λ b w. steps_gap p q (past_blank p) s ss (inl b) refl w)
    (λ _. steps_if p q s ss (opens_line (s ∷ ss)) (Some (past_line_comment p)) _ (λ b w. steps_gap p q (past_line_comment p) s ss (inr (inl b)) refl w)
    (λ _. steps_if p q s ss (opens_block (s ∷ ss)) (option_map (past_comment p) (comment_at p.rest)) (Some (past_token p s)) (λ b w. steps_comment p q s ss (comment_at p.rest) b w)
    (λ _ w. inr (let v : past_token p s ≡ q = cc in sym v)))) e

-- a step goes on at least by its first sign
pub step_end : (limit behind : ℕ) (s : Sign) (ss : List Sign) (r : Rest) → IsOrdered limit behind (s ∷ ss) → Advances 1 behind (s ∷ ss) r → end_of s ≤ r.behind
step_end limit behind s ss r o a = from_signs a.signs a.enough a.is where
  skipped_end : (n b : ℕ) (xs : List Sign) → IsOrdered limit b xs → b ≤ (skipped n b xs).behind
  skipped_end zero b xs h = omega arith
  skipped_end (suc n) b [] h = omega arith
  skipped_end (suc n) b (x ∷ xs) h = let k = skipped_end n (end_of x) xs h.1 in omega (arith, k, h.0)

  from_signs : (n : ℕ) → 1 ≤ n → r ≡ skipped n behind (s ∷ ss) → end_of s ≤ r.behind
  from_signs zero h e = absurd (omega (arith, h))
  from_signs (suc n) h e = let k = skipped_end n (end_of s) ss o.1 in omega (arith, k, ap (λ (x : Rest). x.behind) e)

-- tokens that are apart, with one more
apart-more : (from to : ℕ) (ts : List Token) (t : Token) → AreDisjoint from ts to → to ≤ t.at → 0 < t.len → AreDisjoint from (ts ++ t ∷ []) (t.at + t.len)
apart-more from to [] t a h k = (omega (arith, a, h), k, omega arith)
apart-more from to (x ∷ ts) t a h k = (a.0, a.1, apart-more (x.at + x.len) to ts t a.2 h k)

apart-later : (from to later : ℕ) (ts : List Token) → AreDisjoint from ts to → to ≤ later → AreDisjoint from ts later
apart-later from to later [] a h = omega (arith, a, h)
apart-later from to later (x ∷ ts) a h = (a.0, a.1, apart-later (x.at + x.len) to later ts a.2 h)

apart_step : (limit : ℕ) (p q : Place) (ss : List Sign) → IsOrdered limit p.rest.behind ss → next_by p ss ≡ Some q → Advances 1 p.rest.behind ss q.rest → AreDisjoint 0 p.tokens p.rest.behind → AreDisjoint 0 q.tokens q.rest.behind
apart_step limit p q [] o e a h = cc
apart_step limit p q (s ∷ ss) o e a h =
    let k = step_end limit p.rest.behind s ss q.rest o a in
    let b = len_utf8_bounds s.code in
    ⊎_elim
    (λ (g : StepsBy p q s ss). subst (λ ts. AreDisjoint 0 ts q.rest.behind) (sym g.gap.1) (apart-later 0 p.rest.behind q.rest.behind p.tokens h (omega (arith, o.0, k))))
    (λ (w : q ≡ past_token p s).
    let t = token_from p.fresh s (read p.rest) in
    let e2 : q.rest.behind ≡ (read p.rest).after.behind = ap (λ (x : Place). x.rest.behind) w in
    subst (λ ts. AreDisjoint 0 ts q.rest.behind) (ap (λ (x : Place). x.tokens) (sym w))
    (apart-later 0 (t.at + t.len) q.rest.behind (p.tokens ++ t ∷ []) (apart-more 0 p.rest.behind p.tokens t h (omega (arith, o.0)) (omega (arith, k, b.0, e2))) (omega (arith, k, b.0, e2))))
    (steps p q s ss e)

apart_reached : (cs : List ℕ) (p : Place) → Reaches (begin_of cs) p → AreDisjoint 0 p.tokens p.rest.behind
apart_reached cs p here = omega arith
apart_reached cs q (more {p} r e) =
    apart_step (width cs) p q p.rest.left (reached-ordered (width cs) (begin_of cs) p r (begin-ordered cs)) e (next-advances p q e) (apart_reached cs p r)

-- bytes that belong to tokens
of_token-more : (ts : List Token) (t : Token) (k : ℕ) → IsOfToken ts k → IsOfToken (ts ++ t ∷ []) k
of_token-more [] t k h = absurd h
of_token-more (x ∷ ts) t k h = ⊎_elim (λ a. inl a) (λ a. inr (of_token-more ts t k a)) h

of_token-last : (ts : List Token) (t : Token) (k : ℕ) → t.at ≤ k → k < t.at + t.len → IsOfToken (ts ++ t ∷ []) k
of_token-last [] t k h l = inl (h, l)
of_token-last (x ∷ ts) t k h l = inr (of_token-last ts t k h l)

-- between signs there are joins only
abbrev JoinsBetween : List ℕ → ℕ → List Sign → Type 0
JoinsBetween bs behind [] = (k : ℕ) → behind ≤ k → k < length bs → IsOfJoin bs k
JoinsBetween bs behind (s ∷ ss) = ((k : ℕ) → behind ≤ k → k < s.at → IsOfJoin bs k) × JoinsBetween bs (end_of s) ss

joins_if : (bs : List ℕ) (behind : ℕ) (b : Bool) (xs ys : List Sign) → (b ≡ true → JoinsBetween bs behind xs) → (b ≡ false → JoinsBetween bs behind ys) → JoinsBetween bs behind (cond b xs ys)
joins_if bs behind true xs ys a c = a refl
joins_if bs behind false xs ys a c = c refl

skipped-joins : (bs : List ℕ) (n behind : ℕ) (ss : List Sign) → JoinsBetween bs behind ss → JoinsBetween bs (skipped n behind ss).behind (skipped n behind ss).left
skipped-joins bs zero behind ss h = h
skipped-joins bs (suc n) behind [] h = h
skipped-joins bs (suc n) behind (s ∷ ss) h = skipped-joins bs n (end_of s) ss h.1

and_true : (a b : Bool) → (a && b) ≡ true → (a ≡ true) × (b ≡ true)
and_true true b e = (refl, e)
and_true false b e = cc

are_joined : (c d : ℕ) → joins c d ≡ true → (c ≡ 92) × (d ≡ 10)
are_joined c d e = let h = and_true (c == 92) (d == 10) e in (eqb-true c 92 h.0, eqb-true d 10 h.1)

-- a join in the bytes
join_here : (bs xs : List ℕ) (at c d : ℕ) → drop at bs ≡ encode_utf8 c ++ (encode_utf8 d ++ xs) → c ≡ 92 → d ≡ 10 → (drop (at + 2) bs ≡ xs) × (slice_index bs at ≡ 92) × (slice_index bs (at + 1) ≡ 10)
join_here bs xs at c d e f g =
    let h : drop at bs ≡ 92 ∷ 10 ∷ xs = e ∙ ap (λ k. k ++ (encode_utf8 d ++ xs)) (ap encode_utf8 f ∙ encode_ascii 92 (lit< tt)) ∙ ap (λ k. 92 ∷ (k ++ xs)) (ap encode_utf8 g ∙ encode_ascii 10 (lit< tt)) in (
      sym (drop-drop 2 at bs) ∙ ap (drop 2) h,
      ap (λ k. get_or bs k 0) (let z : at ≡ at + 0 = omega arith in z) ∙ sym (get_or-drop at bs 0 0) ∙ ap (λ ys. get_or ys 0 0) h,
      sym (get_or-drop at bs 1 0) ∙ ap (λ ys. get_or ys 1 0) h,
    )

length_past : (bs xs : List ℕ) (at : ℕ) → drop at bs ≡ xs → length bs ≤ at + length xs
length_past bs xs at e = omega (arith, ap length e, length-drop at bs)

signs-joins : (bs : List ℕ) (behind at line : ℕ) (cs : List ℕ) → drop at bs ≡ encode_utf8_all cs → ((k : ℕ) → behind ≤ k → k < at → IsOfJoin bs k) → JoinsBetween bs behind (signs at line cs)
signs-joins bs behind at line [] e h = λ k a b. h k a (omega (arith, b, length_past bs [] at e))
signs-joins bs behind at line (c ∷ []) e h =
    (h, λ k a b. absurd (omega (arith, a, b, length_past bs _ at e, length-append (encode_utf8 c) [], length-encode c)))
signs-joins bs behind at line (c ∷ d ∷ cs) e h =
    joins_if bs behind (joins c d) (signs (at + 2) (line + 1) cs) _
    (λ j.
    let cd = are_joined c d j in
    let g = join_here bs (encode_utf8_all cs) at c d e cd.0 cd.1 in
    signs-joins bs behind (at + 2) (line + 1) cs g.0 (λ k a b. ⊎_elim (λ (l : k < at). h k a l) (λ (l : at ≤ k). (at, g.1, g.2, l, omega (arith, b))) (below_or k at)))
    (λ _. (h, signs-joins bs (at + len_utf8 c) (at + len_utf8 c) (line_after line c) (d ∷ cs) (drop_past_char bs (encode_utf8_all (d ∷ cs)) at c e) (λ k a b. absurd (omega (arith, a, b)))))

begin-joins : (bs : List ℕ) → IsUtf8 bs → JoinsBetween bs 0 (signs 0 1 (characters bs))
begin-joins bs u =
    signs-joins bs 0 0 1 (characters bs) (sym (encodes-chars bs u) ∙ ap encode_utf8_all (sym (append-nil (chars bs)) ∙ characters-utf8 bs u)) (λ k a b. absurd (omega (arith, b)))

reached-joins : (bs : List ℕ) (p : Place) → IsUtf8 bs → Reaches (begin bs) p → JoinsBetween bs p.rest.behind p.rest.left
reached-joins bs p u r =
    let d = reaches-advances r in
    subst (λ (x : Rest). JoinsBetween bs x.behind x.left) (sym d.is) (skipped-joins bs d.signs 0 (signs 0 1 (characters bs)) (begin-joins bs u))

-- what was passed over is accounted for
accounted-more : (bs : List ℕ) (ts : List Token) (t : Token) (k : ℕ) → IsAccounted bs ts k → IsAccounted bs (ts ++ t ∷ []) k
accounted-more bs ts t k h = ⊎_elim (λ a. inl (of_token-more ts t k a)) (λ a. inr a) h

accounted_step : (bs : List ℕ) (p q : Place) (ss : List Sign) → Reaches (begin bs) p → p.rest.left ≡ ss → IsOrdered (width (characters bs)) p.rest.behind ss → JoinsBetween bs p.rest.behind ss → next_by p ss ≡ Some q → next p ≡ Some q → Advances 1 p.rest.behind ss q.rest
    → ((k : ℕ) → k < p.rest.behind → IsAccounted bs p.tokens k) → (k : ℕ) → k < q.rest.behind → IsAccounted bs q.tokens k
accounted_step bs p q [] r l o j e n a h k m = cc
accounted_step bs p q (s ∷ ss) r l o j e n a h k m =
    let z = step_end (width (characters bs)) p.rest.behind s ss q.rest o a in
    let b = len_utf8_bounds s.code in
    ⊎_elim
    (λ (g : StepsBy p q s ss). subst (λ ts. IsAccounted bs ts k) (sym g.gap.1)
    (⊎_elim (λ (x : k < p.rest.behind). h k x) (λ (x : p.rest.behind ≤ k).
    ⊎_elim (λ (y : k < s.at). inr (inr (j.0 k x y))) (λ (y : s.at ≤ k).
    inr (inl (record { before = p; after = q; sign = s; others = ss; reached = r; left = l; gap = g.gap.0; goes = n; on = y; within = m }))) (below_or k s.at)) (below_or k p.rest.behind)))
    (λ (w : q ≡ past_token p s).
    let t = token_from p.fresh s (read p.rest) in
    let e2 : q.rest.behind ≡ (read p.rest).after.behind = ap (λ (x : Place). x.rest.behind) w in
    subst (λ ts. IsAccounted bs ts k) (ap (λ (x : Place). x.tokens) (sym w))
    (⊎_elim (λ (x : k < p.rest.behind). accounted-more bs p.tokens t k (h k x)) (λ (x : p.rest.behind ≤ k).
    ⊎_elim (λ (y : k < s.at). inr (inr (j.0 k x y))) (λ (y : s.at ≤ k). inl (of_token-last p.tokens t k y (omega (arith, z, b.0, e2, m)))) (below_or k s.at)) (below_or k p.rest.behind)))
    (steps p q s ss e)

accounted_reached : (bs : List ℕ) (p : Place) → IsUtf8 bs → Reaches (begin bs) p → (k : ℕ) → k < p.rest.behind → IsAccounted bs p.tokens k
accounted_reached bs p u here = λ k m. absurd (omega (arith, m))
accounted_reached bs q u (more {p} r e) =
    accounted_step bs p q p.rest.left r refl (reached-ordered (width (characters bs)) (begin bs) p r (begin-ordered (characters bs))) (reached-joins bs p u r) e e (next-advances p q e) (accounted_reached bs p u r)

-- the laws
width-utf8_source : (bs : List ℕ) → IsUtf8 bs → width (characters bs) ≡ length bs
width-utf8_source bs u = ap width (sym (characters-utf8 bs u)) ∙ width-utf8 bs u

pub tokens_apart : (bs : List ℕ) (ts : List Token) → IsLexed bs ts → AreDisjoint 0 ts (length bs)
tokens_apart bs ts h =
    let w = h.1 in
    let p = w.0 in
    let o = ordered_within (width (characters bs)) p.rest.behind p.rest.left (reached-ordered (width (characters bs)) (begin bs) p w.1 (begin-ordered (characters bs))) in
    subst (λ us. AreDisjoint 0 us (length bs)) w.3 (apart-later 0 p.rest.behind (length bs) p.tokens (apart_reached (characters bs) p w.1) (omega (arith, o, width-utf8_source bs h.0)))

pub bytes_accounted : (bs : List ℕ) (ts : List Token) → IsLexed bs ts → (k : ℕ) → k < length bs → IsAccounted bs ts k
bytes_accounted bs ts h k m =
    let w = h.1 in
    let p = w.0 in
    let j : JoinsBetween bs p.rest.behind [] = subst (JoinsBetween bs p.rest.behind) w.2 (reached-joins bs p h.0 w.1) in
    subst (λ us. IsAccounted bs us k) w.3
    (⊎_elim (λ (x : k < p.rest.behind). accounted_reached bs p h.0 w.1 k x) (λ (x : p.rest.behind ≤ k). inr (inr (j k x m))) (below_or k p.rest.behind))
