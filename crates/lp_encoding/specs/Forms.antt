-- Forms of encoding, and what they are built from.
use Rattle.std.specs.Prelude.{◌≡◌, ◌<◌, ◌^◌, ℕ, zero, suc, List, [], ◌∷◌, ◌++◌, length, take, drop, All, Option, Some, None, Result, Ok, Err, ⊤, nat_lt, cond, slice_get, ℤ, FitsSigned}
use Rattle.std.specs.Int.{Width, w32, w64, byte_len, from_le_bytes, to_le_bytes, cast_signed, cast_unsigned}
use Rattle.std.specs.List.{flat_map}
use Rattle.std.specs.Str.{IsUtf8, is_utf8, chars, encode_utf8_all}
use Rattle.lp_encoding.specs.declared.fault.DecodeFault.{DecodeFault}
use Rattle.lp_encoding.specs.declared.fault.DecodeFault.TheVariants.{NoMemory, NoRecord}

-- A form: how a value is spelled in bytes, which values have a spelling, and which value stands at the front of bytes, with
-- the bytes behind it.
pub record Form (A : Type 0) : Type 1 where
  pub spelled : A → List ℕ
  pub Fits : A → Type 0
  pub read : List ℕ → Option (A × List ℕ)

infixl 10 ◌>>=◌
abbrev pub ◌>>=◌ : {A B : Type 0} → Option A → (A → Option B) → Option B
(Some x) >>= f = f x
None >>= f = None

-- What a reader answered is what the form finds at the front of the bytes, and the reader then stands behind it. Only want of
-- memory is free.
abbrev pub GivesBy : {X A : Type 0} → (X → A) → Result X DecodeFault → List ℕ → Option (A × List ℕ) → Type 0
GivesBy view (Ok x) rest read = read ≡ Some (view x, rest)
GivesBy view (Err NoMemory) rest read = ⊤
GivesBy view (Err NoRecord) rest read = read ≡ None

abbrev pub Gives : {A : Type 0} → Result A DecodeFault → List ℕ → Option (A × List ℕ) → Type 0
Gives result rest read = GivesBy (λ x. x) result rest read

abbrev pub number_at : Width → List ℕ → Option (ℕ × List ℕ)
number_at w bytes = cond (nat_lt (length bytes) (byte_len w)) None (Some (from_le_bytes w (take (byte_len w) bytes), drop (byte_len w) bytes))

-- a number without sign, least byte first
abbrev pub number : Width → Form ℕ
number w = record { spelled = to_le_bytes w; Fits = λ n. n < 256 ^ byte_len w; read = number_at w }

-- an integer of 64 bits, by the number that has its bits
abbrev pub integer : Form ℤ
integer = record {
  spelled = λ z. to_le_bytes w64 (cast_unsigned w64 z);
  Fits = FitsSigned w64;
  read = λ bytes. number_at w64 bytes >>= λ n. Some (cast_signed w64 n.0, n.1);
}

-- nothing at all
abbrev pub nothing : Form (Unit {0})
nothing = record { spelled = λ _. []; Fits = λ _. ⊤; read = λ bytes. Some (tt, bytes) }

-- two values, one behind the other
abbrev pub pair : {A B : Type 0} → Form A → Form B → Form (A × B)
pair f g = record {
  spelled = λ x. f.spelled x.0 ++ g.spelled x.1;
  Fits = λ x. f.Fits x.0 × g.Fits x.1;
  read = λ bytes. f.read bytes >>= λ x. g.read x.1 >>= λ y. Some ((x.0, y.0), y.1);
}

-- values that are made of others
abbrev pub made : {A B : Type 0} → (B → A) → (A → B) → Form A → Form B
made parts whole f = record {
  spelled = λ y. f.spelled (parts y);
  Fits = λ y. f.Fits (parts y);
  read = λ bytes. f.read bytes >>= λ x. Some (whole x.0, x.1);
}

-- one of a list of values, by its place in the list
abbrev pub listed : {A : Type 0} → Width → (A → ℕ) → List A → Form A
listed w place all = record {
  spelled = λ x. to_le_bytes w (place x);
  Fits = λ _. ⊤;
  read = λ bytes. number_at w bytes >>= λ n. slice_get all n.0 >>= λ x. Some (x, n.1);
}

-- so many values, one behind the other
unfoldable pub items_at : {A : Type 0} → (List ℕ → Option (A × List ℕ)) → ℕ → List ℕ → Option (List A × List ℕ)
items_at read zero bytes = Some ([], bytes)
items_at read (suc n) bytes = read bytes >>= λ x. items_at read n x.1 >>= λ xs. Some (x.0 ∷ xs.0, xs.1)

-- a list: its length, then its values
abbrev pub list : {A : Type 0} → Form A → Form (List A)
list f = record {
  spelled = λ xs. to_le_bytes w32 (length xs) ++ flat_map f.spelled xs;
  Fits = λ xs. (length xs < 2 ^ 32) × All f.Fits xs;
  read = λ bytes. number_at w32 bytes >>= λ n. items_at f.read n.0 n.1;
}

abbrev pub string_at : List ℕ → Option (List ℕ × List ℕ)
string_at bytes = number_at w32 bytes >>= λ n. cond (nat_lt (length n.1) n.0) None (Some (take n.0 n.1, drop n.0 n.1))

-- a text: the list of its bytes in UTF-8
abbrev pub text : Form (List ℕ)
text = record {
  spelled = λ bs. to_le_bytes w32 (length bs) ++ bs;
  Fits = λ bs. (length bs < 2 ^ 32) × IsUtf8 bs;
  read = λ bytes. string_at bytes >>= λ t. cond (is_utf8 t.0) (Some t) None;
}

-- a text that is seen as its code points
abbrev pub code_points : Form (List ℕ)
code_points = record {
  spelled = λ cs. text.spelled (encode_utf8_all cs);
  Fits = λ cs. text.Fits (encode_utf8_all cs) × (chars (encode_utf8_all cs) ≡ cs);
  read = λ bytes. text.read bytes >>= λ t. Some (chars t.0, t.1);
}
