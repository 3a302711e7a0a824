-- Paths and names are text.
use Rattle.std.proofs.Common.{◌≡◌, ap, sym, refl, ◌∙◌, ℕ, zero, suc, ◌<◌, ◌≤◌, true, false, eqb, leb, ltb, List, [], ◌∷◌, ◌++◌, get_or, codes, arith, inl, inr}
use Rattle.std.specs.List.{list_all}
use Rattle.std.specs.Str.{IsUtf8}
use Rattle.std.proofs.lemmas.Bool.{cases_lt, ne_eqb, lt-ltb, ltb-true, le-leb, leb-true}
use Rattle.std.proofs.lemmas.List.Sums.{list_all-from_AllPass}
use Rattle.std.proofs.lemmas.Str.{IsUtf8-from_ascii}
use Rattle.lp_events.specs.Script.{numeral, is_part_byte, AreParts, path_of, IsPath, IsObjectName}
use Rattle.lp_words.specs.Paths.{is_path, is_name}
use Rattle.lp_words.proofs.PathLaws.{is_path-yes, is_name-yes}
use Rattle.lp_script.specs.Reading.{is_digit}
use Rattle.lp_script.proofs.NumberCode.{leb-of}
use Rattle.lp_script.proofs.Numbers.{both, joins, numeral_digits}

abbrev Small : List ℕ → Type 0
Small w = list_all (λ c. ltb c 128) w ≡ true

small_append : (a b : List ℕ) → Small a → Small b → Small (a ++ b)
small_append [] b e f = f
small_append (c ∷ a) b e f = let h = both (ltb c 128) (list_all (λ c. ltb c 128) a) e in joins _ _ h.0 (small_append a b h.1 f)

small_ascii : (w : List ℕ) → Small w → (i : ℕ) → get_or w i 0 < 128
small_ascii [] e i = omega arith
small_ascii (c ∷ w) e zero = let h = both (ltb c 128) (list_all (λ c. ltb c 128) w) e in ltb-true c 128 h.0
small_ascii (c ∷ w) e (suc i) = let h = both (ltb c 128) (list_all (λ c. ltb c 128) w) e in small_ascii w h.1 i

part_byte : (c : ℕ) → is_part_byte c ≡ true → c < 128
part_byte c e = elim (cases_lt c 128) as (λ _. c < 128) [
  | inl lt ↦ lt
  | inr ge ↦
      let a : leb c 122 ≡ false = leb-of c 122 (omega arith) in
      let b : leb c 90 ≡ false = leb-of c 90 (omega arith) in
      let d : leb c 57 ≡ false = leb-of c 57 (omega arith) in
      let f : eqb c 95 ≡ false = ne_eqb c 95 (λ k. omega (arith, k)) in
      let g : eqb c 45 ≡ false = ne_eqb c 45 (λ k. omega (arith, k)) in
      let h : eqb c 46 ≡ false = ne_eqb c 46 (λ k. omega (arith, k)) in
      let p : leb 97 c ≡ true = le-leb 97 c (omega arith) in
      let q : leb 65 c ≡ true = le-leb 65 c (omega arith) in
      let r : leb 48 c ≡ true = le-leb 48 c (omega arith) in
      let k : is_part_byte c ≡ false = rw (p, a, q, b, r, d, f, g, h) refl in
      let l : true ≡ false = sym e ∙ k in absurd cc
]

small_part : (w : List ℕ) → list_all is_part_byte w ≡ true → Small w
small_part [] e = refl
small_part (c ∷ w) e = let h = both (is_part_byte c) (list_all is_part_byte w) e in joins _ _ (lt-ltb c 128 (part_byte c h.0)) (small_part w h.1)

small_parts : (parts : List (List ℕ)) → AreParts parts → Small (path_of parts)
small_parts [] f = refl
small_parts (part ∷ parts) f = small_append (47 ∷ part) (path_of parts) (joins _ _ refl (small_part part (list_all-from_AllPass is_part_byte part f.0.bytes))) (small_parts parts f.1)

small_path : (w : List ℕ) → IsPath w → Small w
small_path w f = ap (list_all (λ c. ltb c 128)) f.joined ∙ small_parts f.parts f.each

small_digits : (w : List ℕ) → list_all is_digit w ≡ true → Small w
small_digits [] e = refl
small_digits (c ∷ w) e = let h = both (is_digit c) (list_all is_digit w) e in let k = both (leb 48 c) (leb c 57) h.0 in let le : c ≤ 57 = leb-true c 57 k.1 in joins _ _ (lt-ltb c 128 (omega arith)) (small_digits w h.1)

small_name : (w : List ℕ) → IsObjectName w → Small w
small_name w f = elim f.spelled as (λ _. Small w) [
  | inl e ↦ ap (list_all (λ c. ltb c 128)) e ∙ small_path f.path f.is_path
  | inr (n, e) ↦ ap (list_all (λ c. ltb c 128)) e ∙ small_append (f.path ++ codes "#") (numeral n) (small_append f.path (codes "#") (small_path f.path f.is_path) refl) (small_digits (numeral n) (numeral_digits n))
]

pub path_utf8 : (w : List ℕ) → IsPath w → IsUtf8 w
path_utf8 w f = IsUtf8-from_ascii w (small_ascii w (small_path w f))

pub name_utf8 : (w : List ℕ) → IsObjectName w → IsUtf8 w
name_utf8 w f = IsUtf8-from_ascii w (small_ascii w (small_name w f))

pub is_path_utf8 : (w : List ℕ) → is_path w ≡ true → IsUtf8 w
is_path_utf8 w e = path_utf8 w (is_path-yes w e)

pub is_name_utf8 : (w : List ℕ) → is_name w ≡ true → IsUtf8 w
is_name_utf8 w e = name_utf8 w (is_name-yes w e)
