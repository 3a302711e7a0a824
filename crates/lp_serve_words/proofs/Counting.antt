-- Numbers of the command line: what is spelled as std spells a number is one, and nothing else.
use Rattle.std.proofs.Common.{◌≡◌, ◌∙◌, ℕ, ◌^◌, ◌<◌, ◌≤◌, Bool, true, false, List, Option, Some, None, Result, Ok, Err, refl, sym, ap, arith, leb}
use Rattle.std.specs.Prelude.{bytes_eq}
use Rattle.std.specs.Fmt.{decimal}
use Rattle.std.specs.Str.Parse.{ParsesUnsigned}
use Rattle.std.proofs.lemmas.Bool.{leb-true}
use Rattle.std.proofs.lemmas.Fmt.{parse-decimal}
use Rattle.lp_script.specs.Reading.{is_between, number_named}
use Rattle.lp_script.proofs.Numerals.{decimal-numeral}
use Rattle.lp_script.proofs.Numbers.{both, named_is, named_again}
use Rattle.lp_serve_words.proofs.Texts.{pointwise-same, pointwise-refl}

-- what a number that a word names says of it and of the word
record Named (low high : ℕ) (word : List ℕ) (n : ℕ) : Type 0 where
  pub allowed : is_between low high n ≡ true
  pub spelled : word ≡ decimal n

pub below_high : (low high n : ℕ) → is_between low high n ≡ true → n ≤ high
below_high low high n e = leb-true n high (both (leb low n) (leb n high) e).1

named : (low high n : ℕ) (word : List ℕ) → high < 2 ^ 64 → number_named (is_between low high) word ≡ Some n → Named low high word n
named low high n word small e =
    let w = named_is (is_between low high) word n e in
    let below : n ≤ high = below_high low high n w.0 in
    record { allowed = w.0; spelled = sym w.1 ∙ sym (decimal-numeral n (omega arith)) }

-- std reads such a word as the number
reads : {E : Type 0} (low high n : ℕ) (word : List ℕ) (r : Result ℕ E) → high < 2 ^ 64 → ParsesUnsigned 64 10 word r → number_named (is_between low high) word ≡ Some n → r ≡ Ok n
reads low high n word r small p e =
    let w = named low high n word small e in
    let below : n ≤ high = below_high low high n w.allowed in
    parse-decimal 64 n word r (omega arith) (omega arith) w.spelled p

none_of : (o : Option ℕ) → ((n : ℕ) → o ≡ Some n → ⊥) → None ≡ o
none_of None h = refl
none_of (Some n) h = absurd (h n refl)

ok_same : {E : Type 0} {m n : ℕ} (r : Result ℕ E) → r ≡ Ok m → r ≡ Ok n → m ≡ n
ok_same r e f = let h = sym e ∙ f in cc

not_both : (b : Bool) → b ≡ true → b ≡ false → ⊥
not_both b e f = let g : true ≡ false = sym e ∙ f in absurd cc

-- a word that std does not read
pub unread : {E : Type 0} (low high : ℕ) (word : List ℕ) (r : Result ℕ E) (fault : E) → high < 2 ^ 64 → ParsesUnsigned 64 10 word r → r ≡ Err fault → None ≡ number_named (is_between low high) word
unread low high word r fault small p e = none_of _ (λ n f. let h = sym e ∙ reads low high n word r small p f in absurd cc)

-- a word that std reads as a number that is spelled in another way
pub misspelled : {E : Type 0} (low high m : ℕ) (word : List ℕ) (r : Result ℕ E) → high < 2 ^ 64 → ParsesUnsigned 64 10 word r → r ≡ Ok m → bytes_eq (decimal m) word ≡ false → None ≡ number_named (is_between low high) word
misspelled low high m word r small p e other = none_of _ (λ n f.
    let w = named low high n word small f in
    let same : n ≡ m = ok_same r (reads low high n word r small p f) e in
    not_both (bytes_eq (decimal m) word) (ap (bytes_eq (decimal m)) (w.spelled ∙ ap decimal same) ∙ pointwise-refl (decimal m)) other)

-- or as one that lies outside
pub outside : {E : Type 0} (low high m : ℕ) (word : List ℕ) (r : Result ℕ E) → high < 2 ^ 64 → ParsesUnsigned 64 10 word r → r ≡ Ok m → is_between low high m ≡ false → None ≡ number_named (is_between low high) word
outside low high m word r small p e other = none_of _ (λ n f.
    let w = named low high n word small f in
    let same : n ≡ m = ok_same r (reads low high n word r small p f) e in
    not_both (is_between low high m) (ap (is_between low high) (sym same) ∙ w.allowed) other)

-- a word that is the spelling of a number that lies between
pub fit : (low high m : ℕ) (word : List ℕ) → m < 2 ^ 64 → bytes_eq (decimal m) word ≡ true → is_between low high m ≡ true → Some m ≡ number_named (is_between low high) word
fit low high m word small e between =
    sym (ap (number_named (is_between low high)) (sym (pointwise-same (decimal m) word e) ∙ decimal-numeral m (omega arith)) ∙ named_again (is_between low high) m between)
