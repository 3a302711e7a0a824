-- The message of the bytes of whole outputs.
use Rattle.std.proofs.Common.{◌≡◌, ◌∙◌, ℕ, ◌<◌, ◌&&◌, List, [], ◌∷◌, ◌++◌, true, false, nat_eq, refl, sym, ap, arith, flat_map, inl, inr}
use Rattle.std.specs.List.{AllByRecursion}
use Rattle.std.specs.Str.{encode_utf8_all, all_scalars}
use lib.Utf8.{scalar}
use Rattle.std.proofs.lemmas.Bool.{cases_Bool, eqb-true, eq-eqb}
use Rattle.std.proofs.lemmas.Str.{encode_ascii, encodes-append}
use Rattle.lp_events.specs.declared.out.Out.{Out}
use Rattle.lp_events.specs.declared.out.Out.TheVariants.{Text, Hide, Show, Close, Log}
use Rattle.lp_meaning.specs.EventTurns.{line_text}
use Rattle.lp_wire.specs.WireText.{wire_bytes, with_returns}
use Rattle.lp_door.specs.Doors.{HasCharacters, MessagesShowOutputs, marked_from, shown}
use Rattle.lp_door.proofs.Bytes.{IsBelow, both, encodes_below, text_read}

-- bytes that begin with no newline
abbrev IsNotTen : List ℕ → Type 0
IsNotTen [] = Unit {0}
IsNotTen (b ∷ bs) = nat_eq 10 b ≡ false

turned : (a b : ℕ) → nat_eq a b ≡ false → nat_eq b a ≡ false
turned a b e = elim (cases_Bool (nat_eq b a)) [
  | inl y ↦ absurd (let q : b ≡ a = eqb-true b a y in let t : nat_eq a b ≡ true = eq-eqb a b (sym q) in cc)
  | inr n ↦ n
]

below_255 : (b : ℕ) → b < 255 → nat_eq 255 b ≡ false
below_255 b less = elim (cases_Bool (nat_eq 255 b)) [ inl y ↦ absurd (let q : 255 ≡ b = eqb-true 255 b y in omega (arith, q, less)) | inr other ↦ other ]

-- one byte, by what it is
marked_other : (b : ℕ) (bs : List ℕ) → nat_eq 13 b ≡ false → nat_eq 255 b ≡ false → marked_from 0 (b ∷ bs) ≡ b ∷ marked_from 0 bs
marked_other b bs r c = rw (r, c) refl

marked_return : (bs : List ℕ) → IsNotTen bs → marked_from 0 (13 ∷ bs) ≡ 13 ∷ marked_from 0 bs
marked_return [] h = refl
marked_return (b ∷ bs) h = rw h refl

not_ten : (bs rest : List ℕ) → IsNotTen rest → IsNotTen (with_returns bs ++ rest)
not_ten [] rest h = h
not_ten (b ∷ bs) rest h = elim (cases_Bool (nat_eq b 10)) [ inl y ↦ rw y refl | inr n ↦ rw n (turned b 10 n) ]

-- the bytes of a text
text_marked : (bs rest : List ℕ) → AllByRecursion IsBelow bs → IsNotTen rest → marked_from 0 (with_returns bs ++ rest) ≡ bs ++ marked_from 0 rest
text_marked [] rest a h = refl
text_marked (b ∷ bs) rest a h = elim (cases_Bool (nat_eq b 10)) [
  | inl y ↦ rw y (ap (λ xs. 10 ∷ xs) (text_marked bs rest a.1 h) ∙ ap (λ x. x ∷ (bs ++ marked_from 0 rest)) (sym (eqb-true b 10 y)))
  | inr n ↦ rw n (elim (cases_Bool (nat_eq 13 b)) [
    | inl r ↦ ap (λ x. marked_from 0 (x ∷ (with_returns bs ++ rest))) (sym (eqb-true 13 b r))
        ∙ marked_return (with_returns bs ++ rest) (not_ten bs rest h)
        ∙ ap (λ x. x ∷ marked_from 0 (with_returns bs ++ rest)) (eqb-true 13 b r)
        ∙ ap (λ xs. b ∷ xs) (text_marked bs rest a.1 h)
    | inr o ↦ marked_other b (with_returns bs ++ rest) o (below_255 b a.0) ∙ ap (λ xs. b ∷ xs) (text_marked bs rest a.1 h)
  ])
]

-- outputs begin with no newline
outs_not_ten : (outs : List Out) → IsNotTen (flat_map wire_bytes outs)
outs_not_ten [] = tt
outs_not_ten (Text k text ∷ outs) = not_ten (encode_utf8_all text) (flat_map wire_bytes outs) (outs_not_ten outs)
outs_not_ten (Hide k ∷ outs) = refl
outs_not_ten (Show k ∷ outs) = refl
outs_not_ten (Close k ∷ outs) = outs_not_ten outs
outs_not_ten (Log text ∷ outs) = outs_not_ten outs

outs_marked : (outs : List Out) → AllByRecursion HasCharacters outs → marked_from 0 (flat_map wire_bytes outs) ≡ encode_utf8_all (flat_map shown outs)
outs_marked [] h = refl
outs_marked (Text k text ∷ outs) h =
    text_marked (encode_utf8_all text) (flat_map wire_bytes outs) (encodes_below text h.0) (outs_not_ten outs)
    ∙ ap (λ xs. encode_utf8_all text ++ xs) (outs_marked outs h.1)
    ∙ sym (encodes-append text (flat_map shown outs))
outs_marked (Hide k ∷ outs) h = ap (λ xs. 2 ∷ xs) (outs_marked outs h.1) ∙ ap (λ xs. xs ++ encode_utf8_all (flat_map shown outs)) (sym (encode_ascii 2 (omega arith)))
outs_marked (Show k ∷ outs) h = ap (λ xs. 3 ∷ xs) (outs_marked outs h.1) ∙ ap (λ xs. xs ++ encode_utf8_all (flat_map shown outs)) (sym (encode_ascii 3 (omega arith)))
outs_marked (Close k ∷ outs) h = outs_marked outs h.1
outs_marked (Log text ∷ outs) h = outs_marked outs h.1

scalars_append : (cs ds : List ℕ) → all_scalars cs ≡ true → all_scalars ds ≡ true → all_scalars (cs ++ ds) ≡ true
scalars_append [] ds a b = b
scalars_append (c ∷ cs) ds a b = let h = both (scalar c) (all_scalars cs) a in ap (λ x. x && all_scalars (cs ++ ds)) h.0 ∙ scalars_append cs ds h.1 b

outs_scalars : (outs : List Out) → AllByRecursion HasCharacters outs → all_scalars (flat_map shown outs) ≡ true
outs_scalars [] h = refl
outs_scalars (Text k text ∷ outs) h = scalars_append text (flat_map shown outs) h.0 (outs_scalars outs h.1)
outs_scalars (Hide k ∷ outs) h = outs_scalars outs h.1
outs_scalars (Show k ∷ outs) h = outs_scalars outs h.1
outs_scalars (Close k ∷ outs) h = outs_scalars outs h.1
outs_scalars (Log text ∷ outs) h = outs_scalars outs h.1

pub outputs_shown : MessagesShowOutputs
outputs_shown outs h = ap line_text (outs_marked outs h) ∙ text_read (flat_map shown outs) (outs_scalars outs h)
