-- The line of a text message, as a telnet reader has it.
use Rattle.std.proofs.Common.{◌≡◌, ◌∙◌, ℕ, zero, suc, ◌<◌, ◌||◌, List, [], ◌∷◌, ◌++◌, Bool, true, false, take, nat_eq, refl, ap, append_assoc, append-nil, arith, inl, inr}
use Rattle.std.specs.List.{AllByRecursion}
use Rattle.std.proofs.lemmas.Bool.{cases_Bool, eqb-true}
use Rattle.lp_telnet.specs.Lines.{IsPlain, beginning, ended, lines_from, max_line, text_from, text_of, with_ends}
use Rattle.lp_door.specs.Doors.{LinesAreRead, is_dropped, line_of, wire_of, without_dropped}
use Rattle.lp_door.proofs.Bytes.{IsBelow, utf8_below}

neither : (a b : Bool) → a || b ≡ false → (a ≡ false) × (b ≡ false)
neither false b e = (refl, e)
neither true b e = absurd cc

other_than : (b n : ℕ) → b < n → nat_eq b n ≡ false
other_than b n less = elim (cases_Bool (nat_eq b n)) [ inl y ↦ absurd (let q : b ≡ n = eqb-true b n y in omega (arith, q, less)) | inr other ↦ other ]

-- the bytes of a line are plain

plain_one : (b : ℕ) → IsBelow b → is_dropped b ≡ false → IsPlain b
plain_one b below e =
    let zero_or = neither (nat_eq b 0) (nat_eq b 10 || nat_eq b 13) e in
    let ends = neither (nat_eq b 10) (nat_eq b 13) zero_or.1 in
    record { no_command = other_than b 255 below; no_return = ends.1; no_newline = ends.0; no_zero = zero_or.0 }

plain_rest : (bs : List ℕ) → AllByRecursion IsBelow bs → AllByRecursion IsPlain (without_dropped bs)
plain_rest [] a = tt
plain_rest (b ∷ bs) a = elim (cases_Bool (is_dropped b)) [
  | inl y ↦ rw y (plain_rest bs a.1)
  | inr n ↦ rw n (plain_one b a.0 n, plain_rest bs a.1)
]

plain_front : (n : ℕ) (bs : List ℕ) → AllByRecursion IsPlain bs → AllByRecursion IsPlain (take n bs)
plain_front zero bs a = tt
plain_front (suc n) [] a = tt
plain_front (suc n) (b ∷ bs) a = (a.0, plain_front n bs a.1)

take_twice : (n : ℕ) (bs : List ℕ) → take n (take n bs) ≡ take n bs
take_twice zero bs = refl
take_twice (suc n) [] = refl
take_twice (suc n) (b ∷ bs) = ap (λ xs. b ∷ xs) (take_twice n bs)

-- what a reader makes of them

text_of-plain : (line t : List ℕ) → AllByRecursion IsPlain line → text_of (line ++ t) ≡ line ++ text_of t
text_of-plain [] t a = refl
text_of-plain (b ∷ bs) t a = rw a.0.no_command (ap (λ x. b ∷ x) (text_of-plain bs t a.1))

with_ends-plain : (flag : Bool) (line t : List ℕ) → AllByRecursion IsPlain line → with_ends flag (line ++ 13 ∷ 10 ∷ t) ≡ line ++ 10 ∷ with_ends false t
with_ends-plain flag [] t a = refl
with_ends-plain flag (b ∷ bs) t a = rw (a.0.no_return, a.0.no_zero, a.0.no_newline) (ap (λ x. b ∷ x) (with_ends-plain false bs t a.1))

ended-plain : (front line t : List ℕ) → AllByRecursion IsPlain line → ended front (line ++ 10 ∷ t) ≡ take max_line (front ++ line) ∷ ended [] t
ended-plain front [] t a = simp append-nil
ended-plain front (b ∷ bs) t a = rw a.0.no_newline (ended-plain (front ++ b ∷ []) bs t a.1 ∙ ap (λ x. take max_line x ∷ ended [] t) (append_assoc front (b ∷ []) bs))

pub lines_read : LinesAreRead
lines_read message rest p u w e =
    let line = line_of message in
    let plain : AllByRecursion IsPlain line = plain_front max_line (without_dropped message) (plain_rest message (utf8_below message u)) in
    ap (λ x. ended x (with_ends p.behind_13 (text_from p.within (wire_of line ++ rest)))) e
    ∙ ap (λ x. ended [] (with_ends p.behind_13 (text_from x (wire_of line ++ rest)))) w
    ∙ ap (λ x. ended [] (with_ends p.behind_13 (text_of x))) (append_assoc line (13 ∷ 10 ∷ []) rest)
    ∙ ap (λ x. ended [] (with_ends p.behind_13 x)) (text_of-plain line (13 ∷ 10 ∷ rest) plain)
    ∙ ap (ended []) (with_ends-plain p.behind_13 line (text_of rest) plain)
    ∙ ended-plain [] line (with_ends false (text_of rest)) plain
    ∙ ap (λ x. x ∷ lines_from beginning rest) (take_twice max_line (without_dropped message))
