-- Lines as bytes, and names.
use Rattle.std.proofs.Common.{◌≡◌, ℕ, ◌+◌, ◌<◌, Bool, true, false, not, ◌||◌, ◌&&◌, ◌⊎◌, inl, inr, List, [], ◌∷◌, ◌++◌, length, append-nil, append_assoc, drop, map, take, refl, sym, ap, ◌∙◌, arith, length-append}
use Rattle.std.specs.Prelude.{All, chars, codes, encode_utf8_all, flat_map, nat_eq, nat_le}
use Rattle.std.specs.Char.{encode_utf8, is_ascii_digit}
use Rattle.std.specs.List.{before_first, list_all, position_or_len}
use Rattle.std.specs.Str.{IsUtf8, all_scalars}
use Rattle.std.specs.Str.Lossy.{utf8_valid_len}
use Rattle.std.proofs.lemmas.Bool.{cond-true, cond-false, eq-eqb, eqb-true, leb-true, ne_eqb}
use Rattle.std.proofs.lemmas.List.Elements.{All-append, All-cons, All-from_get_or, All-head, All-nil, All-tail}
use Rattle.std.proofs.lemmas.Str.{chars_from_encodes, encode_ascii, encodes-append, inside_one, utf8_valid_len-IsUtf8}
use Rattle.lp_text.specs.Pieces.{pieces, with_head}
use Rattle.lp_save.specs.SaveText.{Rest, is_letter, is_variable_name}
use Rattle.lp_save.specs.Reading.{bytes_at, line_at, spoilt}
use Rattle.lp_save_laws.proofs.Alongside.{IsPlain}
use Rattle.lp_save_laws.proofs.Leaves.{low_plain}
use Rattle.lp_save_laws.proofs.Numbers.{drop_front, take_front}

-- ---- a line as bytes

and_true : (a b : Bool) → (a && b) ≡ true → (a ≡ true) × (b ≡ true)
and_true true b h = (refl, h)
and_true false b h = (h, cc)

or_true : (a b : Bool) → (a || b) ≡ true → (a ≡ true) ⊎ (b ≡ true)
or_true true b h = inl refl
or_true false b h = inr h

scalars_are : (t : List ℕ) → All IsPlain t → all_scalars t ≡ true
scalars_are [] h = refl
scalars_are (c ∷ cs) h = let k = All-head IsPlain c cs h in let e = scalars_are cs (All-tail IsPlain c cs h) in λ i. k.0 i && e i

is_text : (t : List ℕ) → All IsPlain t → IsUtf8 (encode_utf8_all t)
is_text t h = (t, (scalars_are t h, refl))

pub bytes_are : (t : List ℕ) (r : Rest) → All IsPlain t → bytes_at (encode_utf8_all t) r ≡ line_at t r
bytes_are t r h =
    let bytes : List ℕ = encode_utf8_all t in
    let u : IsUtf8 bytes = is_text t h in
    cond-true (nat_eq (utf8_valid_len bytes) (length bytes)) (line_at (chars bytes) r) (spoilt (line_at (chars (take (utf8_valid_len bytes) bytes)) r)) (eq-eqb (utf8_valid_len bytes) (length bytes) (utf8_valid_len-IsUtf8 bytes u))
    ∙ ap (λ x. line_at x r) (sym (chars_from_encodes t bytes u refl))

-- ---- lines

abbrev NoNewline : ℕ → Type 0
NoNewline b = b ≡ 10 → ⊥

point_bytes : (c : ℕ) → IsPlain c → All NoNewline (encode_utf8 c)
point_bytes c h = All-from_get_or NoNewline (encode_utf8 c) 0 (λ i lt e. h.1 (inside_one c [] (encode_utf8 c) i (sym (append-nil (encode_utf8 c))) lt (omega arith) ∙ e))

line_bytes : (t : List ℕ) → All IsPlain t → All NoNewline (encode_utf8_all t)
line_bytes [] h = All-nil NoNewline
line_bytes (c ∷ cs) h = All-append NoNewline (encode_utf8 c) (encode_utf8_all cs) (point_bytes c (All-head IsPlain c cs h)) (line_bytes cs (All-tail IsPlain c cs h))

pieces_front : (bs cs : List ℕ) → All NoNewline bs → pieces (codes "\n") (bs ++ 10 ∷ cs) ≡ bs ∷ pieces (codes "\n") cs
pieces_front [] cs h = refl
pieces_front (b ∷ bs) cs h =
    let rest : List (List ℕ) = pieces (codes "\n") (bs ++ 10 ∷ cs) in
    cond-false (nat_eq 10 b && true) ([] ∷ pieces (codes "\n") (bs ++ 10 ∷ cs)) (with_head b rest) (ap (λ x. x && true) (ne_eqb 10 b (λ e. All-head NoNewline b bs h (sym e)))) ∙ ap (with_head b) (pieces_front bs cs (All-tail NoNewline b bs h))

-- lines, each with its newline
abbrev pub with_newlines : List (List ℕ) → List ℕ
with_newlines ts = flat_map (λ t. t ++ 10 ∷ []) ts

newline_bytes : (t rest : List ℕ) → encode_utf8_all ((t ++ 10 ∷ []) ++ rest) ≡ encode_utf8_all t ++ 10 ∷ encode_utf8_all rest
newline_bytes t rest =
    encodes-append (t ++ 10 ∷ []) rest ∙ ap (λ x. x ++ encode_utf8_all rest) (encodes-append t (10 ∷ []) ∙ ap (λ x. encode_utf8_all t ++ (x ++ [])) (encode_ascii 10 (omega arith))) ∙ append_assoc (encode_utf8_all t) (10 ∷ []) (encode_utf8_all rest)

pub pieces_are : (ts : List (List ℕ)) → All (All IsPlain) ts → pieces (codes "\n") (encode_utf8_all (with_newlines ts)) ≡ map encode_utf8_all ts ++ [] ∷ []
pieces_are [] h = refl
pieces_are (t ∷ ts) h =
    ap (pieces (codes "\n")) (newline_bytes t (with_newlines ts)) ∙ pieces_front (encode_utf8_all t) (encode_utf8_all (with_newlines ts)) (line_bytes t (All-head (All IsPlain) t ts h)) ∙ ap (λ x. encode_utf8_all t ∷ x) (pieces_are ts (All-tail (All IsPlain) t ts h))

-- ---- names

abbrev IsNamePoint : ℕ → Type 0
IsNamePoint c = (47 < c) × (c < 123)

letter_point : (c : ℕ) → is_letter c ≡ true → IsNamePoint c
letter_point c h =
    elim (or_true ((nat_le 97 c && nat_le c 122) || (nat_le 65 c && nat_le c 90)) (nat_eq c 95) h) [
      | inl b ↦ elim (or_true (nat_le 97 c && nat_le c 122) (nat_le 65 c && nat_le c 90) b) [
        | inl a ↦ let k = and_true (nat_le 97 c) (nat_le c 122) a in let low = leb-true 97 c k.0 in let high = leb-true c 122 k.1 in (omega arith, omega arith)
        | inr a ↦ let k = and_true (nat_le 65 c) (nat_le c 90) a in let low = leb-true 65 c k.0 in let high = leb-true c 90 k.1 in (omega arith, omega arith)
      ]
      | inr d ↦ let e = eqb-true c 95 d in (omega arith, omega arith)
    ]

digit_point : (c : ℕ) → is_ascii_digit c ≡ true → IsNamePoint c
digit_point c h = let k = and_true (nat_le 48 c) (nat_le c 57) h in let low = leb-true 48 c k.0 in let high = leb-true c 57 k.1 in (omega arith, omega arith)

name_rest : (cs : List ℕ) → list_all (λ d. is_letter d || is_ascii_digit d) cs ≡ true → All IsNamePoint cs
name_rest [] h = All-nil IsNamePoint
name_rest (c ∷ cs) h =
    let k = and_true (is_letter c || is_ascii_digit c) (list_all (λ d. is_letter d || is_ascii_digit d) cs) h in
    All-cons IsNamePoint c cs (elim (or_true (is_letter c) (is_ascii_digit c) k.0) [ inl a ↦ letter_point c a | inr b ↦ digit_point c b ]) (name_rest cs k.1)

name_points : (name : List ℕ) → is_variable_name name ≡ true → All IsNamePoint name
name_points [] h = All-nil IsNamePoint
name_points (c ∷ cs) h = let k = and_true (is_letter c) (list_all (λ d. is_letter d || is_ascii_digit d) cs) h in All-cons IsNamePoint c cs (letter_point c k.0) (name_rest cs k.1)

points_plain : (name : List ℕ) → All IsNamePoint name → All IsPlain name
points_plain [] h = All-nil IsPlain
points_plain (c ∷ cs) h = let k = All-head IsNamePoint c cs h in let low : 47 < c = k.0 in let high : c < 123 = k.1 in All-cons IsPlain c cs (low_plain c (omega arith) (omega arith)) (points_plain cs (All-tail IsNamePoint c cs h))

pub name_plain : (name : List ℕ) → is_variable_name name ≡ true → All IsPlain name
name_plain name h = points_plain name (name_points name h)

space_at : (name t : List ℕ) → All IsNamePoint name → position_or_len (λ c. nat_eq c 32) (name ++ 32 ∷ t) ≡ length name
space_at [] t h = refl
space_at (c ∷ cs) t h =
    let k = All-head IsNamePoint c cs h in
    let low : 47 < c = k.0 in
    let e = space_at cs t (All-tail IsNamePoint c cs h) in
    cond-true (not (nat_eq c 32)) (1 + position_or_len (λ c. nat_eq c 32) (cs ++ 32 ∷ t)) 0 (ap not (ne_eqb c 32 (λ i. omega arith))) ∙ omega (arith, e)

pub name_front : (name t : List ℕ) → is_variable_name name ≡ true → before_first (λ c. nat_eq c 32) (name ++ 32 ∷ t) ≡ name
name_front name t h = ap (λ n. take n (name ++ 32 ∷ t)) (space_at name t (name_points name h)) ∙ take_front name (32 ∷ t)

pub name_behind : (name t : List ℕ) → drop (length name + 1) (name ++ 32 ∷ t) ≡ t
name_behind name t =
    let long : length name + 1 ≡ length (name ++ 32 ∷ []) = sym (length-append name (32 ∷ [])) in
    ap (drop (length name + 1)) (sym (append_assoc name (32 ∷ []) t)) ∙ ap (λ n. drop n ((name ++ 32 ∷ []) ++ t)) long ∙ drop_front (name ++ 32 ∷ []) t
