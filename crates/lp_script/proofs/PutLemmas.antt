-- Bytes that are written by several calls, one after another.
use Rattle.std.proofs.Common.{◌≡◌, ap, sym, refl, ◌∙◌, ℕ, ◌+◌, ◌<◌, ◌≤◌, List, [], ◌∷◌, ◌++◌, Option, Some, None, Result, Ok, Err, length, take, drop, get_or, flat_map, arith, append_assoc}
use Rattle.std.specs.Borrow.{Bor}
use Rattle.std.specs.Char.{encode_utf8}
use Rattle.std.specs.Str.{encode_utf8_all}
use Rattle.std.proofs.lemmas.List.{take_more, take_all, take-append-drop, append-nil, nil_from_length}
use Rattle.std.proofs.lemmas.List.Concat.{flat_map-append}
use Rattle.std.proofs.lemmas.Str.{encodes-append}
use Rattle.lp_io.specs.Told.{after_adding}
use Rattle.lp_io.specs.declared.put.PutFault.{PutFault}
use Rattle.lp_io.specs.declared.put.PutFault.TheVariants as put
use Rattle.lp_io.proofs.ToldLemmas.{after_adding-added, IsCut-longer, IsCut-after}
use Rattle.lp_script.specs.Put.{Told, Puts}

-- adding nothing
after_adding-none : (told : Option (List ℕ)) → told ≡ after_adding told []
after_adding-none None = refl
after_adding-none (Some xs) = ap Some (sym (append-nil xs))

-- some bytes, and then others
pub Puts-then : (a m c : Told) (r : Result (Unit {0}) PutFault) (xs ys : List ℕ) → Puts a m (Ok tt) xs → Puts m c r ys → Puts a c r (xs ++ ys)
Puts-then a m c (Ok u) xs ys p q = record {
  whole = q.whole ∙ ap (λ w. after_adding w ys) p.whole ∙ after_adding-added a.written xs ys;
  cut = tt;
  faults = q.faults ∙ p.faults;
  no_fall = omega (arith, p.no_fall, q.no_fall);
  zeros = q.zeros ∙ p.zeros;
  zeros_no_fall = omega (arith, p.zeros_no_fall, q.zeros_no_fall);
}
Puts-then a m c (Err put.Failed) xs ys p q = record {
  whole = tt;
  cut = IsCut-after a.written m.written c.written xs ys p.whole q.cut;
  faults = rw (← p.faults) q.faults;
  no_fall = omega (arith, p.no_fall, q.no_fall);
  zeros = q.zeros ∙ p.zeros;
  zeros_no_fall = omega (arith, p.zeros_no_fall, q.zeros_no_fall);
}
Puts-then a m c (Err put.ZeroTaken) xs ys p q = record {
  whole = tt;
  cut = IsCut-after a.written m.written c.written xs ys p.whole q.cut;
  faults = q.faults ∙ p.faults;
  no_fall = omega (arith, p.no_fall, q.no_fall);
  zeros = rw (← p.zeros) q.zeros;
  zeros_no_fall = omega (arith, p.zeros_no_fall, q.zeros_no_fall);
}

-- a cut, where more was to follow
pub Puts-cut : (a c : Told) (e : PutFault) (xs more : List ℕ) → Puts a c (Err e) xs → Puts a c (Err e) (xs ++ more)
Puts-cut a c e xs more p = record {
  whole = tt;
  cut = IsCut-longer a.written c.written xs more p.cut;
  faults = p.faults;
  no_fall = p.no_fall;
  zeros = p.zeros;
  zeros_no_fall = p.zeros_no_fall;
}

-- other bytes that are the same
pub Puts-same : (a c : Told) (r : Result (Unit {0}) PutFault) (xs ys : List ℕ) → xs ≡ ys → Puts a c r xs → Puts a c r ys
Puts-same a c r xs ys e p = rw e at p

-- the pieces up to one more
pieces_more : (pieces : List (Bor (List ℕ))) (i : ℕ) (d : Bor (List ℕ)) → i < length pieces
    → flat_map (λ p. p.now) (take (i + 1) pieces) ≡ flat_map (λ p. p.now) (take i pieces) ++ (get_or pieces i d).now
pieces_more pieces i d within =
    ap (flat_map (λ (p : Bor (List ℕ)). p.now)) (take_more pieces i d within) ∙ flat_map-append (λ (p : Bor (List ℕ)). p.now) (take i pieces) (get_or pieces i d ∷ [])
    ∙ ap (λ (xs : List ℕ). flat_map (λ (p : Bor (List ℕ)). p.now) (take i pieces) ++ xs) (append-nil (get_or pieces i d).now)

-- nothing at all
pub Puts-none : (a : Told) → Puts a a (Ok tt) []
Puts-none a = record {
  whole = after_adding-none a.written;
  cut = tt;
  faults = refl;
  no_fall = omega arith;
  zeros = refl;
  zeros_no_fall = omega arith;
}

-- one more piece
pub Puts-next : (a m c : Told) (pieces : List (Bor (List ℕ))) (i : ℕ) (d : Bor (List ℕ)) → i < length pieces
    → Puts a m (Ok tt) (flat_map (λ p. p.now) (take i pieces)) → Puts m c (Ok tt) (get_or pieces i d).now → Puts a c (Ok tt) (flat_map (λ p. p.now) (take (i + 1) pieces))
Puts-next a m c pieces i d within p q =
    Puts-same a c (Ok tt) _ _ (sym (pieces_more pieces i d within)) (Puts-then a m c (Ok tt) _ _ p q)

-- a piece that was cut
pub Puts-stop : (a m c : Told) (e : PutFault) (pieces : List (Bor (List ℕ))) (i : ℕ) (d : Bor (List ℕ)) → i < length pieces
    → Puts a m (Ok tt) (flat_map (λ p. p.now) (take i pieces)) → Puts m c (Err e) (get_or pieces i d).now → Puts a c (Err e) (flat_map (λ p. p.now) pieces)
Puts-stop a m c e pieces i d within p q =
    let front = pieces_more pieces i d within in
    let whole = ap (flat_map (λ (p : Bor (List ℕ)). p.now)) (sym (take-append-drop (i + 1) pieces)) ∙ flat_map-append (λ (p : Bor (List ℕ)). p.now) (take (i + 1) pieces) (drop (i + 1) pieces) in
    Puts-same a c (Err e) _ _ (ap (λ (xs : List ℕ). xs ++ flat_map (λ (p : Bor (List ℕ)). p.now) (drop (i + 1) pieces)) (sym front) ∙ sym whole) (Puts-cut a c e _ (flat_map (λ (p : Bor (List ℕ)). p.now) (drop (i + 1) pieces)) (Puts-then a m c (Err e) _ _ p q))

-- all pieces
pub Puts-all : (a c : Told) (pieces : List (Bor (List ℕ))) (i : ℕ) → length pieces ≤ i
    → Puts a c (Ok tt) (flat_map (λ p. p.now) (take i pieces)) → Puts a c (Ok tt) (flat_map (λ p. p.now) pieces)
Puts-all a c pieces i all p = Puts-same a c (Ok tt) _ _ (ap (flat_map (λ (p : Bor (List ℕ)). p.now)) (take_all i pieces all)) p

-- one more character
pub encoded_more : (chars : List ℕ) (i d : ℕ) → i < length chars → encode_utf8_all (take (i + 1) chars) ≡ encode_utf8_all (take i chars) ++ encode_utf8 (get_or chars i d)
encoded_more chars i d within =
    ap encode_utf8_all (take_more chars i d within) ∙ encodes-append (take i chars) (get_or chars i d ∷ []) ∙ ap (λ (xs : List ℕ). encode_utf8_all (take i chars) ++ xs) (append-nil (encode_utf8 (get_or chars i d)))

-- the characters so far, some more, and the others
encoded_parts : (chars done rest : List ℕ) (n : ℕ) (bytes : List ℕ) → bytes ≡ encode_utf8_all (take n rest) → chars ≡ done ++ rest
    → encode_utf8_all chars ≡ (encode_utf8_all done ++ bytes) ++ encode_utf8_all (drop n rest)
encoded_parts chars done rest n bytes encoded is =
    ap encode_utf8_all is ∙ encodes-append done rest
    ∙ ap (λ (xs : List ℕ). encode_utf8_all done ++ xs) (ap encode_utf8_all (sym (take-append-drop n rest)) ∙ encodes-append (take n rest) (drop n rest) ∙ ap (λ (xs : List ℕ). xs ++ encode_utf8_all (drop n rest)) (sym encoded))
    ∙ sym (append_assoc (encode_utf8_all done) bytes (encode_utf8_all (drop n rest)))

-- a cut among characters
pub encoded_stop : (a m c : Told) (e : PutFault) (chars done rest front others : List ℕ) (n : ℕ) (bytes : List ℕ) → front ≡ take n rest → others ≡ drop n rest → bytes ≡ encode_utf8_all front → chars ≡ done ++ rest
    → Puts a m (Ok tt) (encode_utf8_all done) → Puts m c (Err e) bytes → Puts a c (Err e) (encode_utf8_all chars)
encoded_stop a m c e chars done rest front others n bytes first last encoded is p q =
    Puts-same a c (Err e) _ _ (sym (encoded_parts chars done rest n bytes (encoded ∙ ap encode_utf8_all first) is)) (Puts-cut a c e _ (encode_utf8_all (drop n rest)) (Puts-then a m c (Err e) _ _ p q))

-- some more characters
pub encoded_next : (a m c : Told) (chars done rest front others : List ℕ) (n : ℕ) (bytes : List ℕ) → front ≡ take n rest → others ≡ drop n rest → bytes ≡ encode_utf8_all front → chars ≡ done ++ rest
    → Puts a m (Ok tt) (encode_utf8_all done) → Puts m c (Ok tt) bytes
    → (next : List ℕ) × (chars ≡ next ++ others) × Puts a c (Ok tt) (encode_utf8_all next)
encoded_next a m c chars done rest front others n bytes first last encoded is p q = (
  done ++ front,
  is ∙ ap (λ (xs : List ℕ). done ++ xs) (sym (take-append-drop n rest) ∙ ap (λ (xs : List ℕ). xs ++ drop n rest) (sym first) ∙ ap (λ (xs : List ℕ). front ++ xs) (sym last)) ∙ sym (append_assoc done front others),
  Puts-same a c (Ok tt) _ _ (ap (λ (xs : List ℕ). encode_utf8_all done ++ xs) encoded ∙ sym (encodes-append done front)) (Puts-then a m c (Ok tt) _ _ p q),
)

-- all characters
pub encoded_all : (a c : Told) (chars done rest : List ℕ) → chars ≡ done ++ rest → length rest ≡ 0 → Puts a c (Ok tt) (encode_utf8_all done) → Puts a c (Ok tt) (encode_utf8_all chars)
encoded_all a c chars done rest is none p =
    Puts-same a c (Ok tt) _ _ (ap encode_utf8_all (sym (append-nil done) ∙ ap (λ (xs : List ℕ). done ++ xs) (sym (nil_from_length rest none)) ∙ sym is)) p
