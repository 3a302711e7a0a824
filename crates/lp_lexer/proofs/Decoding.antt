-- The characters of a source.
use Rattle.std.proofs.Common.{◌≡◌, ℕ, ◌+◌, ◌≤◌, List, [], ◌∷◌, ◌++◌, length, take, drop, map, refl, sym, ap, subst, ◌∙◌, arith, length-append, length-take, length-drop}
use Rattle.std.proofs.lemmas.List.{append-nil, take_all, drop_all, nil_from_length}
use Rattle.std.proofs.lemmas.Str.{utf8_valid_len-IsUtf8, chars-nil, encodes-chars, length-encode}
use Rattle.std.proofs.lemmas.Bool.Decides.{nat_tests}
use Rattle.std.specs.Str.{chars, IsUtf8, encode_utf8_all}
use Rattle.std.specs.Char.{len_utf8, encode_utf8}
use Rattle.std.specs.Str.Lossy.{utf8_valid_len}
use Rattle.lp_lexer.specs.Source.{characters, stray, width}

pub chars_empty : (bs : List ℕ) → length bs ≡ 0 → chars bs ≡ []
chars_empty bs e = ap chars (nil_from_length bs e) ∙ chars-nil

pub characters-utf8 : (bs : List ℕ) → IsUtf8 bs → chars bs ++ [] ≡ characters bs
unfolding characters
characters-utf8 bs u =
    let n = utf8_valid_len-IsUtf8 bs u in
    sym (ap (λ k. chars (take k bs) ++ map stray (drop k bs)) n ∙ ap (λ xs. chars xs ++ map stray (drop (length bs) bs)) (take_all (length bs) bs (omega arith)) ∙ ap (λ xs. chars bs ++ map stray xs) (drop_all (length bs) bs (omega arith)))

pub characters-split : (bs front strays : List ℕ) (n : ℕ) → n ≡ utf8_valid_len bs → front ≡ take n bs → strays ≡ drop n bs → chars front ++ map stray strays ≡ characters bs
unfolding characters
characters-split bs front strays n e f g = ap (λ xs. chars xs ++ map stray strays) f ∙ ap (λ xs. chars (take n bs) ++ map stray xs) g ∙ ap (λ k. chars (take k bs) ++ map stray (drop k bs)) e

-- how many bytes characters take
width-append : (cs ds : List ℕ) → width (cs ++ ds) ≡ width cs + width ds
width-append [] ds = omega arith
width-append (c ∷ cs) ds = omega (arith, width-append cs ds)

width-encodes : (cs : List ℕ) → width cs ≡ length (encode_utf8_all cs)
width-encodes [] = refl
width-encodes (c ∷ cs) = omega (arith, width-encodes cs, length-encode c, length-append (encode_utf8 c) (encode_utf8_all cs))

width-chars : (bs : List ℕ) → IsUtf8 bs → width (chars bs) ≡ length bs
width-chars bs u = width-encodes (chars bs) ∙ ap length (encodes-chars bs u)

width-stray : (b : ℕ) → len_utf8 (stray b) ≡ 1
width-stray b = grind (arith, nat_tests)

width-strays : (bs : List ℕ) → width (map stray bs) ≡ length bs
width-strays [] = refl
width-strays (b ∷ bs) = omega (arith, width-strays bs, width-stray b)

pub width-source : (bs front strays : List ℕ) (n : ℕ) → IsUtf8 front → front ≡ take n bs → strays ≡ drop n bs → n ≤ length bs → width (chars front ++ map stray strays) ≡ length bs
width-source bs front strays n u f g h =
    omega (arith, width-append (chars front) (map stray strays), width-chars front u, width-strays strays, ap length f, ap length g, length-take n bs, length-drop n bs)

pub width-utf8 : (bs : List ℕ) → IsUtf8 bs → width (chars bs ++ []) ≡ length bs
width-utf8 bs u = ap width (append-nil (chars bs)) ∙ width-chars bs u

pub utf8_whole : (bs front : List ℕ) (n : ℕ) → IsUtf8 front → front ≡ take n bs → n ≡ length bs → IsUtf8 bs
utf8_whole bs front n u f h = subst IsUtf8 (f ∙ ap (λ k. take k bs) h ∙ take_all (length bs) bs (omega arith)) u
