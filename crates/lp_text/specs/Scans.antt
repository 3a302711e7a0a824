-- Scanning a text by the parts of a form.
use Rattle.std.specs.Prelude.{ℕ, ℤ, pos, neg_ℤ, ◌≡◌, ◌+◌, ◌-◌, ◌*◌, ◌^◌, ◌<◌, ◌≤◌, List, [], ◌∷◌, ◌++◌, Bool, true, false, Option, Some, None, nat_eq, nat_lt, length, take, drop, slice_index, if◌then◌else◌, Result, Ok, Err, Vec}
use Rattle.std.specs.Char.{is_ascii_digit}
use Rattle.std.specs.List.{prefix_len, before_first, fold}
use Rattle.std.specs.Option.{option_to_list}
use Rattle.std.specs.declared.alloc.Global.{Global}
use Rattle.lp_text.specs.declared.form.Item.{Item}
use Rattle.lp_text.specs.declared.form.Item.TheVariants.{Bad, Number, Percent, Plain, Words}
use Rattle.lp_text.specs.declared.scan.Scanned.{Scanned}
use Rattle.lp_text.specs.declared.scan.Scanned.TheVariants.{Int as IntOf, Text as TextOf}
use Rattle.lp_text.specs.declared.scan.Taken.{Taken}
use Rattle.lp_text.specs.declared.fault.TextFault.{TextFault}
use Rattle.lp_text.specs.declared.fault.TextFault.TheVariants.{TooLong, BadFormat, NoMemory}
use Rattle.lp_text.specs.Forms.{Part}
use Rattle.lp_text.specs.Texts.{place_from}
use Rattle.lp_values.specs.Limits.{max_code_points}

-- what is assigned of a value
abbrev pub if_kept : Bool → Scanned → Option Scanned
if_kept kept x = if kept then Some x else None

-- one code point, which must be equal
abbrev pub plain_step : ℕ → List ℕ → Option Taken
plain_step c [] = None
plain_step c (d ∷ cs) = if nat_eq d c then Some (record { value = None; length = 1 }) else None

-- an optional `-` before digits
abbrev pub sign_len : List ℕ → ℕ
sign_len cs = if nat_eq (slice_index cs 0) 45 then 1 else 0

-- how many digits follow the optional `-`
abbrev pub digit_len : List ℕ → ℕ
digit_len cs = prefix_len is_ascii_digit (drop (sign_len cs) cs)

-- the number that digits write
abbrev pub digits_number : List ℕ → ℕ
digits_number ds = fold (λ n d. n * 10 + (d - 48)) 0 ds

-- the integer of a sign and a number, where it is in range
abbrev pub signed : Bool → ℕ → Option ℤ
signed true n = if nat_lt (2 ^ 63) n then None else Some (neg_ℤ (pos n))
signed false n = if nat_lt n (2 ^ 63) then Some (pos n) else None

-- what an integer takes, where there is one
abbrev pub int_taken : Bool → ℕ → Option ℤ → Option Taken
int_taken kept n None = None
int_taken kept n (Some x) = Some (record { value = if_kept kept (IntOf x); length = n })

-- an optional `-` and digits, at least one, whose number is in the range of an integer
abbrev pub number_step : Bool → List ℕ → Option Taken
number_step kept cs = if nat_eq (digit_len cs) 0 then None else int_taken kept (sign_len cs + digit_len cs) (signed (nat_eq (slice_index cs 0) 45) (digits_number (take (digit_len cs) (drop (sign_len cs) cs))))

-- the literal text that a form begins with: up to the next `%` or the end
abbrev pub literal : List ℕ → List ℕ
literal form = before_first (λ c. nat_eq c 37) form

-- what comes before a place, where there is one
abbrev pub words_taken : Bool → List ℕ → Option ℕ → Option Taken
words_taken kept cs None = None
words_taken kept cs (Some i) = Some (record { value = if_kept kept (TextOf (take i cs)); length = i })

-- the whole text where the form ends, and else what comes before the first place of the literal text that follows
abbrev pub words_step : Bool → List ℕ → List ℕ → Option Taken
words_step kept [] cs = Some (record { value = if_kept kept (TextOf cs); length = length cs })
words_step kept (c ∷ form) cs = words_taken kept cs (place_from (literal (c ∷ form)) 0 cs)

-- what a part takes of a text, before this rest of the form: none where it does not match
abbrev pub step : Item → List ℕ → List ℕ → Option Taken
step Bad rest cs = None
step (Number kept) rest cs = number_step kept cs
step Percent rest cs = plain_step 37 cs
step (Plain c) rest cs = plain_step c cs
step (Words kept) rest cs = words_step kept rest cs

-- what is assigned from a part on that may match
abbrev pub going_on : Option Taken → (ℕ → List Scanned) → List Scanned
going_on None more = []
going_on (Some t) more = option_to_list t.value ++ more t.length

-- what the parts assign, in their order, up to the first that does not match
abbrev pub scanned : List Part → List ℕ → List Scanned
scanned [] cs = []
scanned (p ∷ ps) cs = going_on (step p.item p.rest cs) (λ n. scanned ps (drop n cs))

-- the answer is what is assigned: exactly a form's fault comes first, then exactly a text above 100000 code points, and want of memory last
abbrev pub GivesScan : Result (Vec Scanned Global) TextFault → Option ℕ → List ℕ → List Scanned → Type 0
GivesScan (Ok v) fault cs found = (fault ≡ None) × (length cs ≤ max_code_points) × (v.items ≡ found)
GivesScan (Err TooLong) fault cs found = (fault ≡ None) × (max_code_points < length cs)
GivesScan (Err (BadFormat at)) fault cs found = fault ≡ Some at
GivesScan (Err NoMemory) fault cs found = (fault ≡ None) × (length cs ≤ max_code_points)
