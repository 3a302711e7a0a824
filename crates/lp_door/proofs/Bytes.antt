-- Bytes of texts: they are below 255, and each character is read as it was written.
use Rattle.std.proofs.Common.{◌≡◌, ◌∙◌, ℕ, zero, suc, ◌<◌, ◌≤◌, ◌+◌, ◌-◌, ◌/◌, ◌⊎◌, ◌&&◌, List, [], ◌∷◌, ◌++◌, Bool, true, false, length, take, drop, chars, nat_eq, refl, sym, ap, subst, append-nil, append_assoc, arith, inl, inr, if◌then◌else◌}
use lib.Dec.{ltb}
use lib.Utf8.{next, scalar, scalar_cases}
use Rattle.std.specs.List.{AllByRecursion}
use Rattle.std.specs.Str.{IsUtf8, is_utf8, encode_utf8_all, all_scalars}
use Rattle.std.specs.Char.{encode_utf8}
use Rattle.std.proofs.Math.Seq.{take-append_seam}
use Rattle.std.proofs.lemmas.Bool.{cases_Bool, cases_lt, cond_both, eqb-true, ltb-true}
use Rattle.std.proofs.lemmas.List.{take-append-drop, length-take-le, length-append}
use Rattle.std.proofs.lemmas.Str.{IsUtf8-encode, IsUtf8-from_is_utf8, is_utf8-from_IsUtf8, chars-encodes, encode_same, len_utf8_bounds, length-encode}
use Rattle.lp_meaning.specs.EventTurns.{line_text, line_text_from, point_len, point_len_from}

-- Below 255

abbrev pub IsBelow : ℕ → Type 0
IsBelow b = b < 255

below_append : (xs ys : List ℕ) → AllByRecursion IsBelow xs → AllByRecursion IsBelow ys → AllByRecursion IsBelow (xs ++ ys)
below_append [] ys a b = b
below_append (x ∷ xs) ys a b = (a.0, below_append xs ys a.1 b)

pub both : (a b : Bool) → a && b ≡ true → (a ≡ true) × (b ≡ true)
both true b e = (refl, e)
both false b e = absurd cc

below_top : (c : ℕ) → (c < 55296) ⊎ ((57344 ≤ c) × (c < 1114112)) → c < 1114112
below_top c (inl h) = omega (arith, h)
below_top c (inr h) = h.1

next_below : (c : ℕ) → next c < 255
next_below c = omega arith

encode_below : (c : ℕ) → scalar c ≡ true → AllByRecursion IsBelow (encode_utf8 c)
unfolding encode_utf8
encode_below c s =
    let top : c < 1114112 = below_top c (scalar_cases c s) in
    cond_both (ltb c 128) (c ∷ []) _ (AllByRecursion IsBelow) (λ e. (omega (arith, ltb-true c 128 e), tt)) (λ e.
    cond_both (ltb c 2048) ((192 + c / 64) ∷ next c ∷ []) _ (AllByRecursion IsBelow) (λ f. (omega (arith, ltb-true c 2048 f), (next_below c, tt))) (λ f.
    cond_both (ltb c 65536) ((224 + c / 4096) ∷ next (c / 64) ∷ next c ∷ []) _ (AllByRecursion IsBelow)
    (λ g. (omega (arith, ltb-true c 65536 g), (next_below (c / 64), (next_below c, tt))))
    (λ g. (omega (arith, top), (next_below (c / 4096), (next_below (c / 64), (next_below c, tt)))))))

pub encodes_below : (cs : List ℕ) → all_scalars cs ≡ true → AllByRecursion IsBelow (encode_utf8_all cs)
encodes_below [] s = tt
encodes_below (c ∷ cs) s = let h = both (scalar c) (all_scalars cs) s in below_append (encode_utf8 c) (encode_utf8_all cs) (encode_below c h.0) (encodes_below cs h.1)

pub utf8_below : (bs : List ℕ) → IsUtf8 bs → AllByRecursion IsBelow bs
utf8_below bs u = subst (AllByRecursion IsBelow) u.1.1 (encodes_below u.0 u.1.0)

-- A character is read

-- no front of its bytes is text
no_front : (c n : ℕ) (rest : List ℕ) → 1 ≤ n → n < length (encode_utf8 c) → IsUtf8 (take n (encode_utf8 c ++ rest)) → ⊥
no_front c n rest some less ([], (s, e)) = absurd (empty_front e)
  where
    long : n ≤ length (encode_utf8 c ++ rest)
    long = omega (arith, length-append (encode_utf8 c) rest, less)

    empty_front : [] ≡ take n (encode_utf8 c ++ rest) → ⊥
    empty_front q = let l : 0 ≡ n = ap length q ∙ length-take-le n (encode_utf8 c ++ rest) long in omega (arith, l, some)
no_front c n rest some less (d ∷ ds, (s, e)) = absurd (longer (encode_same d c (encode_utf8_all ds ++ drop n (encode_utf8 c ++ rest)) rest whole).0)
  where
    long : n ≤ length (encode_utf8 c ++ rest)
    long = omega (arith, length-append (encode_utf8 c) rest, less)

    whole : encode_utf8 d ++ (encode_utf8_all ds ++ drop n (encode_utf8 c ++ rest)) ≡ encode_utf8 c ++ rest
    whole = sym (append_assoc (encode_utf8 d) (encode_utf8_all ds) (drop n (encode_utf8 c ++ rest))) ∙ ap (λ xs. xs ++ drop n (encode_utf8 c ++ rest)) e ∙ take-append-drop n (encode_utf8 c ++ rest)

    front : length (encode_utf8 d) + length (encode_utf8_all ds) ≡ n
    front = sym (length-append (encode_utf8 d) (encode_utf8_all ds)) ∙ ap length e ∙ length-take-le n (encode_utf8 c ++ rest) long

    longer : d ≡ c → ⊥
    longer q = let l : length (encode_utf8 d) ≡ length (encode_utf8 c) = ap (λ x. length (encode_utf8 x)) q in omega (arith, l, front, less)

no_text : (c n : ℕ) (rest : List ℕ) → 1 ≤ n → n < length (encode_utf8 c) → is_utf8 (take n (encode_utf8 c ++ rest)) ≡ false
no_text c n rest some less = elim (cases_Bool (is_utf8 (take n (encode_utf8 c ++ rest)))) [
  | inl y ↦ absurd (no_front c n rest some less (IsUtf8-from_is_utf8 (take n (encode_utf8 c ++ rest)) y))
  | inr f ↦ f
]

is_text : (c : ℕ) (rest : List ℕ) → scalar c ≡ true → is_utf8 (take (length (encode_utf8 c)) (encode_utf8 c ++ rest)) ≡ true
is_text c rest s = ap is_utf8 (take-append_seam (encode_utf8 c) rest) ∙ is_utf8-from_IsUtf8 (encode_utf8 c) (IsUtf8-encode c s)

-- the first front that is text is found
found : (n more len : ℕ) (bs : List ℕ) → n ≤ len → len < n + more → ((i : ℕ) → n ≤ i → i < len → is_utf8 (take i bs) ≡ false) → is_utf8 (take len bs) ≡ true
    → point_len_from n more bs ≡ len
found n zero len bs le less before is = absurd (omega (arith, le, less))
found n (suc more) len bs le less before is = elim (cases_lt n len) [
  | inl h ↦ ap (λ b. if b then n else point_len_from (suc n) more bs) (before n (omega arith) h) ∙ found (suc n) more len bs (omega (arith, h)) (omega (arith, less)) (λ i l. before i (omega (arith, l))) is
  | inr h ↦ let same : n ≡ len = omega (arith, h, le) in ap (λ b. if b then n else point_len_from (suc n) more bs) (ap (λ i. is_utf8 (take i bs)) same ∙ is) ∙ same
]

len_of_point : (c : ℕ) (rest : List ℕ) → scalar c ≡ true → point_len (encode_utf8 c ++ rest) ≡ length (encode_utf8 c)
len_of_point c rest s =
    let size = length-encode c in
    let bounds = len_utf8_bounds c in
    found 1 4 (length (encode_utf8 c)) (encode_utf8 c ++ rest) (omega (arith, size, bounds.0)) (omega (arith, size, bounds.1)) (λ i l h. no_text c i rest l h) (is_text c rest s)

-- bytes that are passed are dropped
passed : (bad : Bool) (n : ℕ) (bs : List ℕ) → line_text_from bad n bs ≡ line_text_from bad zero (drop n bs)
passed bad zero bs = refl
passed bad (suc n) [] = refl
passed bad (suc n) (b ∷ bs) = passed bad n bs

not_zero : (i : ℕ) (b : Bool) → nat_eq (suc i) 0 ≡ b → b ≡ false
not_zero i true h = let q : suc i ≡ 0 = eqb-true (suc i) 0 h in absurd (omega (arith, q))
not_zero i false h = refl

behind : (other : List ℕ) (n b : ℕ) (bs : List ℕ) → 1 ≤ n
    → (if nat_eq n 0 then other else chars (take n (b ∷ bs)) ++ line_text_from false (n - 1) bs) ≡ chars (take n (b ∷ bs)) ++ line_text_from false 0 (drop n (b ∷ bs))
behind other zero b bs le = let no_way : ⊥ = omega arith in elim no_way [ ]
behind other (suc m) b bs le =
    let e : suc m - 1 ≡ m = omega arith in
    rw (not_zero m (nat_eq (suc m) 0) refl) (rw e (ap (λ t. chars (take (suc m) (b ∷ bs)) ++ t) (passed false m bs)))

at_point : (bs : List ℕ) → 1 ≤ length bs → 1 ≤ point_len bs → line_text_from false 0 bs ≡ chars (take (point_len bs) bs) ++ line_text_from false 0 (drop (point_len bs) bs)
at_point [] some le = let no_way : ⊥ = omega arith in elim no_way [ ]
at_point (b ∷ bs) some le = behind (65533 ∷ line_text_from true zero bs) (point_len (b ∷ bs)) b bs le

behind_seam : (xs ys : List ℕ) → drop (length xs) (xs ++ ys) ≡ ys
behind_seam [] ys = refl
behind_seam (x ∷ xs) ys = behind_seam xs ys

reads_one : (c : ℕ) (rest : List ℕ) → scalar c ≡ true → line_text_from false 0 (encode_utf8 c ++ rest) ≡ c ∷ line_text_from false 0 rest
reads_one c rest s =
    let bs = encode_utf8 c ++ rest in
    let size = length-encode c in
    let bounds = len_utf8_bounds c in
    let len = len_of_point c rest s in
    let some : 1 ≤ length bs = omega (arith, length-append (encode_utf8 c) rest, size, bounds.0) in
    let le : 1 ≤ point_len bs = omega (arith, len, size, bounds.0) in
    let one : chars (encode_utf8 c) ≡ c ∷ [] = ap chars (sym (append-nil (encode_utf8 c))) ∙ chars-encodes (c ∷ []) (ap (λ b. b && true) s) in
    at_point bs some le
    ∙ ap (λ n. chars (take n bs) ++ line_text_from false 0 (drop n bs)) len
    ∙ ap (λ xs. chars xs ++ line_text_from false 0 (drop (length (encode_utf8 c)) bs)) (take-append_seam (encode_utf8 c) rest)
    ∙ ap (λ xs. xs ++ line_text_from false 0 (drop (length (encode_utf8 c)) bs)) one
    ∙ ap (λ xs. c ∷ line_text_from false 0 xs) (behind_seam (encode_utf8 c) rest)

reads_all : (cs : List ℕ) → all_scalars cs ≡ true → line_text_from false 0 (encode_utf8_all cs) ≡ cs
reads_all [] s = refl
reads_all (c ∷ cs) s = let h = both (scalar c) (all_scalars cs) s in reads_one c (encode_utf8_all cs) h.0 ∙ ap (λ xs. c ∷ xs) (reads_all cs h.1)

-- the text of bytes that are text is theirs
pub text_read : (cs : List ℕ) → all_scalars cs ≡ true → line_text (encode_utf8_all cs) ≡ cs
unfolding line_text
text_read cs s = reads_all cs s
