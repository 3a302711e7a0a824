-- Each walk ends, so each source has tokens or a fault.
use Rattle.std.proofs.Common.{◌≡◌, ℕ, zero, suc, ◌<◌, ◌≤◌, Bool, true, false, cond, List, [], ◌∷◌, length, take, drop, refl, arith, inl, inr}
use Rattle.std.specs.Prelude.{Option, Some, None, ◌⊎◌}
use Rattle.std.proofs.Math.Logic.{⊎_elim}
use Rattle.std.proofs.lemmas.Bool.Decides.{leb_tells}
use Rattle.std.proofs.lemmas.Str.{IsUtf8-from_is_utf8, IsUtf8-nil, utf8_valid_len_le}
use Rattle.std.specs.Str.{IsUtf8, is_utf8}
use Rattle.std.specs.Str.Lossy.{utf8_valid_len, valid_len_up_to}
use Rattle.lp_tree.specs.declared.token.LexKind.TheVariants.{NotUtf8, OpenComment}
use Rattle.lp_lexer.specs.declared.sign.Sign.{Sign}
use Rattle.lp_lexer.specs.Source.{characters, width}
use Rattle.lp_lexer.specs.Lexis.{Place, begin, next, Reaches, here, more, IsWhole, IsOpenComment}
use Rattle.lp_lexer.specs.Laws.{HasAnswer}
use Rattle.lp_lexer.proofs.Advances.{next-shorter}
use Rattle.lp_lexer.proofs.Decoding.{utf8_whole, width-source}
use Rattle.lp_lexer.proofs.Order.{open_within}
use Rattle.lp_lexer.proofs.Walking.{same_open, not_both}

reaches_first : {p q r : Place} → next p ≡ Some q → Reaches q r → Reaches p r
reaches_first {p} {q} e here = more {p = p} {q = q} here e
reaches_first e (more r f) = more (reaches_first e r) f

-- a walk from a place on that has an end
pub record Ending (p : Place) : Type 0 where
  pub last : Place
  pub reached : Reaches p last
  pub no_next : next last ≡ None

ends_by : (n : ℕ) (p : Place) (o : Option Place) → next p ≡ o → ((q : Place) → next p ≡ Some q → Ending q) → Ending p
ends_by n p None e go = record { last = p; reached = here; no_next = e }
ends_by n p (Some q) e go = let w = go q e in record { last = w.last; reached = reaches_first e w.reached; no_next = w.no_next }

ends : (n : ℕ) (p : Place) → length p.rest.left ≤ n → Ending p
ends zero p h = ends_by 0 p (next p) refl (λ q e. absurd (let k = next-shorter p q e in omega (arith, k, h)))
ends (suc n) p h = ends_by n p (next p) refl (λ q e. ends n q (let k = next-shorter p q e in omega (arith, k, h)))

-- the longest front that is UTF-8 is so
front_if : (bs : List ℕ) (n m : ℕ) (b : Bool) → is_utf8 (take n bs) ≡ b → IsUtf8 (take m bs) → IsUtf8 (take (cond b n m) bs)
front_if bs n m true e h = IsUtf8-from_is_utf8 (take n bs) e
front_if bs n m false e h = h

front_utf8 : (bs : List ℕ) (n : ℕ) → IsUtf8 (take (valid_len_up_to bs n) bs)
front_utf8 bs zero = IsUtf8-nil
front_utf8 bs (suc n) = front_if bs (suc n) (valid_len_up_to bs n) (is_utf8 (take (suc n) bs)) refl (front_utf8 bs n)

valid_front : (bs : List ℕ) → IsUtf8 (take (utf8_valid_len bs) bs)
unfolding utf8_valid_len
valid_front bs = front_utf8 bs (length bs)

valid_whole : (bs : List ℕ) → utf8_valid_len bs ≡ length bs → IsUtf8 bs
valid_whole bs e = utf8_whole bs (take (utf8_valid_len bs) bs) (utf8_valid_len bs) (valid_front bs) refl e

width_all : (bs : List ℕ) → width (characters bs) ≡ length bs
unfolding characters
width_all bs = width-source bs (take (utf8_valid_len bs) bs) (drop (utf8_valid_len bs) bs) (utf8_valid_len bs) (valid_front bs) refl refl (utf8_valid_len_le bs)

whole_or : (n m : ℕ) → n ≤ m → (n ≡ m) ⊎ (n < m)
whole_or n m h = ⊎_elim (λ a. inl (omega (arith, h, a.1))) (λ a. inr (omega (arith, a.1))) (leb_tells m n)

below_or : (n m : ℕ) → (n ≤ m) ⊎ (m < n)
below_or n m = ⊎_elim (λ a. inl a.1) (λ a. inr a.1) (leb_tells n m)

-- what the end of a walk says of the source
answered : (bs : List ℕ) (p : Place) (ss : List Sign) → Reaches (begin bs) p → next p ≡ None → p.rest.left ≡ ss → HasAnswer bs
answered bs p [] r n l =
    let w : IsWhole bs p.tokens = (p, r, l, refl) in
    ⊎_elim (λ (e : utf8_valid_len bs ≡ length bs). inl (p.tokens, (valid_whole bs e, w)))
    (λ (e : utf8_valid_len bs < length bs). inr (utf8_valid_len bs, NotUtf8, (refl, e, λ at o. absurd (not_both (begin bs) p.tokens at w o))))
    (whole_or (utf8_valid_len bs) (length bs) (utf8_valid_len_le bs))
answered bs p (s ∷ ss) r n l =
    let o : IsOpenComment bs s.at = (p, s, ss, r, l, n, refl) in
    ⊎_elim (λ (h : utf8_valid_len bs ≤ s.at). inr (utf8_valid_len bs, NotUtf8, (refl, (let k = open_within (characters bs) s.at o in omega (arith, k, width_all bs, h)), λ at q. (let k = same_open (begin bs) at s.at q o in omega (arith, k, h)))))
    (λ (h : s.at < utf8_valid_len bs). inr (s.at, OpenComment, (o, h)))
    (below_or (utf8_valid_len bs) s.at)

pub all_answered : (bs : List ℕ) → HasAnswer bs
all_answered bs = let w = ends (length (begin bs).rest.left) (begin bs) (omega arith) in answered bs w.last w.last.rest.left w.reached w.no_next refl
