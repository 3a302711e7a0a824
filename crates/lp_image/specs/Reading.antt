-- Reading from left to right: a value and what follows it, or nothing.
use Rattle.std.specs.Prelude.{◌≡◌, ℕ, zero, suc, Bool, ◌&&◌, List, [], ◌∷◌, length, take, drop, Option, Some, None, Result, Ok, Err, chars, nat_lt, nat_eq, if◌then◌else◌}
use Rattle.std.specs.Int.{Width, w32, w64, byte_len, from_le_bytes, cast_signed}
use Rattle.std.specs.Str.{is_utf8}
use Rattle.lp_image.specs.declared.fault.ImageFault.{ImageFault}
use Rattle.lp_image.specs.declared.fault.ImageFault.TheVariants as faults
use Rattle.lp_image.specs.declared.record.Packed.{Packed}
use Rattle.lp_image.specs.declared.record.Packed.TheVariants.{Int, Str, Arr, Map, Obj, OwnArr, OwnMap}
use Rattle.lp_image.specs.declared.record.PackedCell.{PackedCell}
use Rattle.lp_image.specs.declared.record.PackedCell.TheVariants.{Array, Mapping}
use Rattle.lp_image.specs.declared.record.Record.{Record}

infixl 10 ◌>>=◌
abbrev pub ◌>>=◌ : {A B : Type 0} → Option A → (A → Option B) → Option B
(Some x) >>= f = f x
None >>= f = None

-- What a function returned, seen by view, is what reading gives, unless memory ran out.
abbrev pub Fails : {Y : Type 0} → ImageFault → Option Y → Type 0
Fails faults.NoMemory read = Unit {0}
Fails faults.NoRecord read = read ≡ None

abbrev pub Gives : {X Y : Type 0} → (X → Y) → Result X ImageFault → Option Y → Type 0
Gives view (Ok x) read = read ≡ Some (view x)
Gives view (Err e) read = Fails e read

-- what reads a part
abbrev pub Reader : Type 0 → Type 0
Reader A = List ℕ → Option (A × List ℕ)

-- what is read, as another value
abbrev pub as_read : {A B : Type 0} → (A → B) → Option (A × List ℕ) → Option (B × List ℕ)
as_read f read = read >>= λ x. Some (f x.0, x.1)

-- a number, the least byte first
abbrev pub number_at : Width → Reader ℕ
number_at w bytes = if nat_lt (length bytes) (byte_len w) then None else Some (from_le_bytes w (take (byte_len w) bytes), drop (byte_len w) bytes)

-- so many bytes of text
abbrev pub spelled : List ℕ → Option (List ℕ)
spelled bytes = if is_utf8 bytes then Some (chars bytes) else None

unfoldable pub text_at : Reader (List ℕ)
text_at bytes = do
  n ← number_at w32 bytes
  if nat_lt (length n.1) n.0 then None else do
    t ← spelled (take n.0 n.1)
    Some (t, drop n.0 n.1)

-- what follows a tag
unfoldable pub value_behind : ℕ → Reader Packed
value_behind tag bytes =
    if nat_eq tag 0 then as_read (λ n. Int (cast_signed w64 n)) (number_at w64 bytes)
    else (if nat_eq tag 1 then as_read (λ t. Str t) (text_at bytes)
    else (if nat_eq tag 2 then as_read (λ n. Arr (record { 0 = n })) (number_at w64 bytes)
    else (if nat_eq tag 3 then as_read (λ n. Map (record { 0 = n })) (number_at w64 bytes)
    else (if nat_eq tag 4 then as_read (λ n. Obj (record { 0 = n })) (number_at w64 bytes)
    else (if nat_eq tag 5 then as_read OwnArr (number_at w32 bytes)
    else (if nat_eq tag 6 then as_read OwnMap (number_at w32 bytes)
    else None))))))

unfoldable pub value_at : Reader Packed
value_at [] = None
value_at (tag ∷ bytes) = value_behind tag bytes

unfoldable pub pair_at : Reader (Packed × Packed)
pair_at bytes = do
  k ← value_at bytes
  v ← value_at k.1
  Some ((k.0, v.0), v.1)

-- so many one behind the other
unfoldable pub many_at : {A : Type 0} → Reader A → ℕ → Reader (List A)
many_at read zero bytes = Some ([], bytes)
many_at read (suc n) bytes = do
  first ← read bytes
  others ← many_at read n first.1
  Some (first.0 ∷ others.0, others.1)

-- a number, and so many
unfoldable pub list_at : {A : Type 0} → Reader A → Reader (List A)
list_at read bytes = do
  n ← number_at w32 bytes
  many_at read n.0 n.1

-- what follows a cell's tag
unfoldable pub cell_behind : ℕ → Reader PackedCell
cell_behind tag bytes =
    if nat_eq tag 0 then as_read (λ vs. Array vs) (list_at value_at bytes)
    else (if nat_eq tag 1 then as_read (λ ps. Mapping ps) (list_at pair_at bytes) else None)

unfoldable pub cell_at : Reader PackedCell
cell_at [] = None
cell_at (tag ∷ bytes) = cell_behind tag bytes

-- the mark of a record
abbrev pub is_mark : ℕ → ℕ → ℕ → ℕ → Bool
is_mark a b c d = nat_eq a 76 && (nat_eq b 80 && (nat_eq c 79 && nat_eq d 49))

unfoldable pub mark_at : Reader (Unit {0})
mark_at [] = None
mark_at (a ∷ []) = None
mark_at (a ∷ b ∷ []) = None
mark_at (a ∷ b ∷ c ∷ []) = None
mark_at (a ∷ b ∷ c ∷ d ∷ rest) = if is_mark a b c d then Some (tt, rest) else None

-- a record at the front, whatever the order of its cells
unfoldable pub record_at : Reader Record
record_at bytes = do
  mark ← mark_at bytes
  owner ← number_at w64 mark.1
  vars ← list_at value_at owner.1
  cells ← list_at cell_at vars.1
  Some (record { owner = record { 0 = owner.0 }; vars = vars.0; cells = cells.0 }, cells.1)

-- all of the bytes
unfoldable pub all_of : List ℕ → Option Record
all_of bytes = do
  r ← record_at bytes
  if nat_eq (length r.1) 0 then Some r.0 else None
