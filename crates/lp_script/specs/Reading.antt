-- Reading items from left to right: a field is a value and the bytes behind it, or the bytes ran out, or are wrong.
use Rattle.std.specs.Prelude.{◌≡◌, ℕ, zero, suc, ◌+◌, ◌*◌, ◌-◌, List, [], ◌∷◌, length, take, drop, Bool, true, false, not, ◌==◌, ◌&&◌, ◌||◌, nat_le, nat_lt, Option, Some, None, Result, Ok, Err, if◌then◌else◌, take_while}
use Rattle.std.specs.List.{list_all, list_any}
use Rattle.lp_events.specs.Script.{numeral, is_line_byte}
use Rattle.lp_script.specs.declared.stop.Stop.{Stop}
use Rattle.lp_script.specs.declared.stop.Stop.TheVariants.{Short, Wrong}
use Rattle.lp_script.specs.declared.stop.ReadError.{ReadError}
use Rattle.lp_script.specs.declared.stop.ReadError.TheVariants as errors

infixl 10 ◌>>=◌
abbrev pub ◌>>=◌ : {A B : Type 0} → Result A Stop → (A → Result B Stop) → Result B Stop
(Ok x) >>= f = f x
(Err e) >>= f = Err e

-- What a function returned, seen by view, is what reading gives, unless memory ran out.
abbrev pub Fails : {Y : Type 0} → ReadError → Result Y Stop → Type 0
Fails errors.NoMemory read = Unit {0}
Fails (errors.Stop s) read = read ≡ Err s

abbrev pub Gives : {X Y : Type 0} → (X → Y) → Result X ReadError → Result Y Stop → Type 0
Gives view (Ok x) read = read ≡ Ok (view x)
Gives view (Err e) read = Fails e read

-- this text, and what is behind it
unfoldable pub text_at : List ℕ → List ℕ → Result (List ℕ) Stop
text_at [] bytes = Ok bytes
text_at (c ∷ text) [] = Err Short
text_at (c ∷ text) (b ∷ bytes) = if c == b then text_at text bytes else Err Wrong

-- how many bytes stand before the first one of a kind
abbrev pub before : ℕ → List ℕ → ℕ
before end bytes = length (take_while (λ b. not (b == end)) bytes)

-- a word without an end, which may be the front of one
abbrev pub stopped : {A : Type 0} → Bool → Result (A × List ℕ) Stop
stopped true = Err Short
stopped false = Err Wrong

-- a word with what it names, and what is behind it
abbrev pub found : {A : Type 0} → Option A → List ℕ → Result (A × List ℕ) Stop
found (Some x) rest = Ok (x, rest)
found None rest = Err Wrong

-- a word up to its end
abbrev pub word_at : {A : Type 0} → ℕ → (List ℕ → Option A) → (List ℕ → Bool) → List ℕ → Result (A × List ℕ) Stop
word_at end named begins bytes = if before end bytes == length bytes then stopped (begins bytes) else found (named (take (before end bytes) bytes)) (drop (before end bytes + 1) bytes)

-- two fields
abbrev pub pair_at : {A B : Type 0} → (List ℕ → Result (A × List ℕ) Stop) → (List ℕ → Result (B × List ℕ) Stop) → List ℕ → Result ((A × B) × List ℕ) Stop
pair_at first second bytes = first bytes >>= λ x. second x.1 >>= λ y. Ok ((x.0, y.0), y.1)

-- a text, and a field
abbrev pub after : {A : Type 0} → List ℕ → (List ℕ → Result (A × List ℕ) Stop) → List ℕ → Result (A × List ℕ) Stop
after text field bytes = text_at text bytes >>= field

-- what is made of a field
abbrev pub made : {A B : Type 0} → (A → B) → (List ℕ → Result (A × List ℕ) Stop) → List ℕ → Result (B × List ℕ) Stop
made make field bytes = field bytes >>= λ x. Ok (make x.0, x.1)

-- a choice by the first byte
abbrev pub either : {A : Type 0} → ℕ → (List ℕ → Result (A × List ℕ) Stop) → (List ℕ → Result (A × List ℕ) Stop) → List ℕ → Result (A × List ℕ) Stop
either first these others [] = Err Short
either first these others (b ∷ bytes) = if b == first then these (b ∷ bytes) else others (b ∷ bytes)

-- ---- numbers

abbrev pub is_digit : ℕ → Bool
is_digit b = nat_le 48 b && nat_le b 57

abbrev pub is_empty : List ℕ → Bool
is_empty [] = true
is_empty (b ∷ bytes) = false

-- digits, of which the first is no 0 unless it is alone
abbrev pub is_numeral : List ℕ → Bool
is_numeral [] = false
is_numeral (b ∷ word) = list_all is_digit (b ∷ word) && (not (b == 48) || is_empty word)

-- the number of digits behind a number
abbrev pub value_from : ℕ → List ℕ → ℕ
value_from n [] = n
value_from n (b ∷ word) = value_from (10 * n + (b - 48)) word

-- a number of a kind
unfoldable pub number_named : (ℕ → Bool) → List ℕ → Option ℕ
number_named allowed word = if is_numeral word && allowed (value_from 0 word) then Some (value_from 0 word) else None

-- from one number up to another
abbrev pub is_between : ℕ → ℕ → ℕ → Bool
is_between low high n = nat_le low n && nat_le n high

-- some number of at most so many more digits lies between two numbers, where those behind lie from one number up to below another
unfoldable pub reaches : ℕ → ℕ → ℕ → ℕ → ℕ → Bool
reaches zero low high from to = false
reaches (suc digits) low high from to = if nat_lt high from then false else (if nat_lt low to then true else reaches digits low high (10 * from) (10 * to))

-- a word may become a number between two numbers
unfoldable pub begins_between : ℕ → ℕ → List ℕ → Bool
begins_between low high word = is_empty word || (is_numeral word && (if value_from 0 word == 0 then low == 0 else reaches 20 low high (value_from 0 word) (value_from 0 word + 1)))

-- a word may become any number
abbrev pub begins_any : List ℕ → Bool
begins_any word = is_empty word || is_numeral word

-- a number of a list
abbrev pub is_one_of : List ℕ → ℕ → Bool
is_one_of numbers n = list_any (λ k. n == k) numbers

-- a list begins with another
abbrev pub is_front : List ℕ → List ℕ → Bool
is_front [] bytes = true
is_front (c ∷ text) [] = false
is_front (c ∷ text) (b ∷ bytes) = (c == b) && is_front text bytes

-- a word may become a number of a list
abbrev pub begins_one_of : List ℕ → List ℕ → Bool
begins_one_of numbers word = list_any (λ k. is_front word (numeral k)) numbers

-- ---- counted bytes

-- a byte that may stand in a line, or in a file
abbrev pub passes : Bool → ℕ → Bool
passes true b = is_line_byte b
passes false b = true

-- the newline behind some bytes
abbrev pub ended : List ℕ → List ℕ → Result (List ℕ × List ℕ) Stop
ended bytes [] = Err Short
ended bytes (b ∷ rest) = if b == 10 then Ok (bytes, rest) else Err Wrong

-- so many bytes and a newline
unfoldable pub bytes_at : Bool → ℕ → List ℕ → Result (List ℕ × List ℕ) Stop
bytes_at line n bytes = if nat_lt (length bytes) n then stopped (list_all (passes line) bytes) else (if list_all (passes line) (take n bytes) then ended (take n bytes) (drop n bytes) else Err Wrong)

-- how many bytes follow, and the bytes on lines of their own
abbrev pub counted_at : Bool → (List ℕ → Result (ℕ × List ℕ) Stop) → List ℕ → Result (List ℕ × List ℕ) Stop
counted_at line count bytes = count bytes >>= λ n. bytes_at line n.0 n.1

-- no bytes
abbrev pub nothing : List ℕ → Result (Unit {0} × List ℕ) Stop
nothing bytes = Ok (tt, bytes)

-- no value
abbrev pub none_at : {A : Type 0} → List ℕ → Result (A × List ℕ) Stop
none_at bytes = Err Wrong
