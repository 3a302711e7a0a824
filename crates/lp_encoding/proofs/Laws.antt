-- What is read at the front of bytes is what they spell there, and what is spelled is read again.
use Rattle.std.proofs.Common.{◌≡◌, ℕ, zero, suc, ◌+◌, ◌^◌, ◌<◌, ◌≤◌, Bool, true, false, cond, ltb, List, [], ◌∷◌, ◌++◌, length, get_or, take, drop, All, Option, Some, None, refl, sym, ap, subst, ◌∙◌, append_assoc, arith, inl, inr, slice_get, FitsSigned, ℤ}
use Rattle.std.specs.List.{flat_map}
use Rattle.std.specs.Int.{Width, w8, w16, w32, w64, byte_len, from_le_bytes, to_le_bytes, cast_signed, cast_unsigned}
use Rattle.std.specs.Str.{is_utf8, chars, encode_utf8_all}
use Rattle.std.proofs.lemmas.Bool.{cases_lt, ltb-false, le-ltb}
use Rattle.std.proofs.lemmas.List.{take_at, drop_at, take-append-drop, length-append, length-take, get_or-drop, get_or-take, get_or_past}
use Rattle.std.proofs.lemmas.List.Concat.{flat_map-cons}
use Rattle.std.proofs.lemmas.List.Elements.{All-nil, All-cons}
use Rattle.std.proofs.lemmas.Nat.{le_bytes_2, le_bytes_4, le_bytes_8, from_le_bytes-to_le_bytes_2, from_le_bytes-to_le_bytes_4, from_le_bytes-to_le_bytes_8}
use Rattle.std.proofs.lemmas.Int.{to_z-of_z, of_z-to_z}
use Rattle.std.proofs.Math.Facts.{Fits-lt-pow, Fits-of_lt, Fits-of_z, sfits_to_z}
use Rattle.std.proofs.lemmas.Str.{IsUtf8-from_is_utf8, is_utf8-from_IsUtf8, encodes-chars}
use Rattle.lp_encoding.specs.Forms.{Form, ◌>>=◌, number_at, number, integer, nothing, pair, made, listed, items_at, list, string_at, text, code_points}

abbrev pub IsBytes : List ℕ → Type 0
IsBytes bytes = (i : ℕ) → get_or bytes i 0 < 256

IsBytes-drop : (n : ℕ) (bytes : List ℕ) → IsBytes bytes → IsBytes (drop n bytes)
IsBytes-drop n bytes h i = rw get_or-drop (h (n + i))

IsBytes-take : (n : ℕ) (bytes : List ℕ) → IsBytes bytes → IsBytes (take n bytes)
IsBytes-take n bytes h i =
    elim (cases_lt i n) [
      | inl lt ↦ rw (get_or-take n bytes i 0 lt) (h i)
      | inr le ↦ rw (get_or_past (take n bytes) i 0 (omega (arith, length-take n bytes))) (omega arith)
    ]

-- the value of a step that found one
pub bind_some : {A B : Type 0} (r : Option A) (f : A → Option B) (y : B) → (r >>= f) ≡ Some y → (x : A) × (r ≡ Some x) × (f x ≡ Some y)
bind_some (Some x) f y e = (x, refl, e)
bind_some None f y e = absurd cc

-- a test that let a value through
pub guard_some : {A : Type 0} (b : Bool) (x y : A) → cond b None (Some x) ≡ Some y → (b ≡ false) × (x ≡ y)
guard_some true x y e = absurd cc
guard_some false x y e = (refl, cc)

pub guard_kept : {A : Type 0} (b : Bool) (x y : A) → cond b (Some x) None ≡ Some y → (b ≡ true) × (x ≡ y)
guard_kept true x y e = (refl, cc)
guard_kept false x y e = absurd cc

abbrev found : {A : Type 0} → A → Option A
found x = Some x

pub some_is : {A : Type 0} (x y : A) → found x ≡ found y → x ≡ y
some_is x y e = cc

-- what a reader took from the front
pub record Takes (bytes text rest : List ℕ) : Type 0 where
  pub parts : bytes ≡ text ++ rest
  pub rest_fits : IsBytes rest

pub Takes-then : (a x b y c : List ℕ) → Takes a x b → Takes b y c → Takes a (x ++ y) c
Takes-then a x b y c p q = record { parts = p.parts ∙ ap (λ (t : List ℕ). x ++ t) q.parts ∙ sym (append_assoc x y c); rest_fits = q.rest_fits }

-- a form reads what it spells, and nothing else
pub record IsForm {A : Type 0} (f : Form A) : Type 0 where
  pub takes : (bytes : List ℕ) (x : A) (rest : List ℕ) → IsBytes bytes → f.read bytes ≡ Some (x, rest) → Takes bytes (f.spelled x) rest × f.Fits x
  pub again : (x : A) (rest : List ℕ) → f.Fits x → f.read (f.spelled x ++ rest) ≡ Some (x, rest)

-- ---- numbers

pub record IsWide (w : Width) : Type 0 where
  pub len : (n : ℕ) → length (to_le_bytes w n) ≡ byte_len w
  pub back : (bytes : List ℕ) → length bytes ≡ byte_len w → IsBytes bytes → to_le_bytes w (from_le_bytes w bytes) ≡ bytes
  pub repeats : (n : ℕ) → n < 256 ^ byte_len w → from_le_bytes w (to_le_bytes w n) ≡ n
  pub below : (bytes : List ℕ) → IsBytes bytes → from_le_bytes w bytes < 256 ^ byte_len w

one_byte : (bytes : List ℕ) → length bytes ≡ 1 → IsBytes bytes → to_le_bytes w8 (from_le_bytes w8 bytes) ≡ bytes
one_byte [] e fits = absurd (omega (arith, e))
one_byte (b ∷ []) e fits = let lt : b < 256 = fits 0 in ap (λ x. x ∷ []) (omega (arith, lt))
one_byte (b ∷ c ∷ bytes) e fits = absurd (omega (arith, e))

pub wide8 : IsWide w8
wide8 = record {
  len = λ n. refl;
  back = one_byte;
  repeats = λ n lt. omega (arith, lt);
  below = λ bytes fits. omega (arith, fits 0);
}

pub wide16 : IsWide w16
wide16 = record {
  len = λ n. refl;
  back = λ bytes len fits. le_bytes_2 bytes _ len fits refl;
  repeats = λ n lt. from_le_bytes-to_le_bytes_2 n lt;
  below = λ bytes fits. omega (arith, fits 0, fits 1);
}

pub wide32 : IsWide w32
wide32 = record {
  len = λ n. refl;
  back = λ bytes len fits. le_bytes_4 bytes _ len fits refl;
  repeats = λ n lt. from_le_bytes-to_le_bytes_4 n lt;
  below = λ bytes fits. omega (arith, fits 0, fits 1, fits 2, fits 3);
}

pub wide64 : IsWide w64
wide64 = record {
  len = λ n. refl;
  back = λ bytes len fits. le_bytes_8 bytes _ len fits refl;
  repeats = λ n lt. from_le_bytes-to_le_bytes_8 n lt;
  below = λ bytes fits. omega (arith, fits 0, fits 1, fits 2, fits 3, fits 4, fits 5, fits 6, fits 7);
}

pub number_takes : (w : Width) → IsWide w → (bytes : List ℕ) (n : ℕ) (rest : List ℕ) → IsBytes bytes → number_at w bytes ≡ Some (n, rest) → Takes bytes (to_le_bytes w n) rest × (n < 256 ^ byte_len w)
number_takes w wide bytes n rest fits e =
    let g = guard_some (ltb (length bytes) (byte_len w)) (from_le_bytes w (take (byte_len w) bytes), drop (byte_len w) bytes) (n, rest) e in
    let long : byte_len w ≤ length bytes = ltb-false _ _ g.0 in
    let n-is : from_le_bytes w (take (byte_len w) bytes) ≡ n = ap (λ (p : ℕ × List ℕ). p.0) g.1 in
    let rest-is : drop (byte_len w) bytes ≡ rest = ap (λ (p : ℕ × List ℕ). p.1) g.1 in
    let front : to_le_bytes w n ≡ take (byte_len w) bytes = rw (← n-is) (wide.back (take (byte_len w) bytes) (omega (arith, length-take (byte_len w) bytes)) (IsBytes-take (byte_len w) bytes fits)) in
    (record { parts = rw (front, ← rest-is) (sym (take-append-drop (byte_len w) bytes)); rest_fits = rw (← rest-is) (IsBytes-drop (byte_len w) bytes fits) }, rw (← n-is) (wide.below (take (byte_len w) bytes) (IsBytes-take (byte_len w) bytes fits)))

pub number_again : (w : Width) → IsWide w → (n : ℕ) (rest : List ℕ) → n < 256 ^ byte_len w → number_at w (to_le_bytes w n ++ rest) ≡ Some (n, rest)
number_again w wide n rest lt =
    let len = wide.len n in
    let long : ltb (length (to_le_bytes w n ++ rest)) (byte_len w) ≡ false = le-ltb _ _ (omega (arith, length-append (to_le_bytes w n) rest)) in
    rw (long, take_at (to_le_bytes w n) rest (byte_len w) len, drop_at (to_le_bytes w n) rest (byte_len w) len, wide.repeats n lt) refl

pub number_form : (w : Width) → IsWide w → IsForm (number w)
number_form w wide = record { takes = number_takes w wide; again = number_again w wide }

unsigned_below : (z : ℤ) → FitsSigned w64 z → cast_unsigned w64 z < 2 ^ 64
unsigned_below z fits = Fits-lt-pow (Fits-of_z fits)

signed_fits : (n : ℕ) → n < 2 ^ 64 → FitsSigned w64 (cast_signed w64 n)
signed_fits n lt = sfits_to_z (Fits-of_lt lt)

integer_takes : (bytes : List ℕ) (z : ℤ) (rest : List ℕ) → IsBytes bytes → integer.read bytes ≡ Some (z, rest) → Takes bytes (integer.spelled z) rest × integer.Fits z
integer_takes bytes z rest fits e =
    let b = bind_some (number_at w64 bytes) (λ n. Some (cast_signed w64 n.0, n.1)) (z, rest) e in
    let t = number_takes w64 wide64 bytes b.0.0 b.0.1 fits b.1 in
    let back : cast_unsigned w64 (cast_signed w64 b.0.0) ≡ b.0.0 = of_z-to_z w64 b.0.0 t.1 in
    let takes : Takes bytes (integer.spelled (cast_signed w64 b.0.0)) b.0.1 = rw back t.0 in
    subst (λ (x : ℤ × List ℕ). Takes bytes (integer.spelled x.0) x.1 × integer.Fits x.0) (some_is (cast_signed w64 b.0.0, b.0.1) (z, rest) b.2) (takes, signed_fits b.0.0 t.1)

pub integer_form : IsForm integer
integer_form = record {
  takes = integer_takes;
  again = λ z rest fits. rw (number_again w64 wide64 (cast_unsigned w64 z) rest (unsigned_below z fits), to_z-of_z w64 z fits) refl;
}

pub nothing_form : IsForm nothing
nothing_form = record {
  takes = λ bytes x rest fits e. let same = some_is (tt, bytes) (x, rest) e in (record { parts = ap (λ (p : Unit {0} × List ℕ). p.1) same; rest_fits = subst IsBytes (ap (λ (p : Unit {0} × List ℕ). p.1) same) fits }, tt);
  again = λ x rest fits. refl;
}

-- ---- parts

pub pair_form : {A B : Type 0} (f : Form A) (g : Form B) → IsForm f → IsForm g → IsForm (pair f g)
pair_form {A} {B} f g hf hg = record { takes = takes; again = again }
  where
    takes : (bytes : List ℕ) (x : A × B) (rest : List ℕ) → IsBytes bytes → (pair f g).read bytes ≡ Some (x, rest) → Takes bytes ((pair f g).spelled x) rest × (pair f g).Fits x
    takes bytes x rest fits e =
        let a = bind_some (f.read bytes) (λ y. g.read y.1 >>= λ z. Some ((y.0, z.0), z.1)) (x, rest) e in
        let b = bind_some (g.read a.0.1) (λ z. Some ((a.0.0, z.0), z.1)) (x, rest) a.2 in
        let t = hf.takes bytes a.0.0 a.0.1 fits a.1 in
        let u = hg.takes a.0.1 b.0.0 b.0.1 t.0.rest_fits b.1 in
        let both = Takes-then bytes (f.spelled a.0.0) a.0.1 (g.spelled b.0.0) b.0.1 t.0 u.0 in
        subst (λ (y : (A × B) × List ℕ). Takes bytes ((pair f g).spelled y.0) y.1 × (pair f g).Fits y.0) (some_is ((a.0.0, b.0.0), b.0.1) (x, rest) b.2) (both, (t.1, u.1))

    again : (x : A × B) (rest : List ℕ) → (pair f g).Fits x → (pair f g).read ((pair f g).spelled x ++ rest) ≡ Some (x, rest)
    again x rest fits = rw (append_assoc (f.spelled x.0) (g.spelled x.1) rest, hf.again x.0 (g.spelled x.1 ++ rest) fits.0, hg.again x.1 rest fits.1) refl

pub made_form : {A B : Type 0} (parts : B → A) (whole : A → B) (f : Form A) → IsForm f → ((x : A) → parts (whole x) ≡ x) → ((y : B) → whole (parts y) ≡ y) → IsForm (made parts whole f)
made_form {A} {B} parts whole f hf there back = record { takes = takes; again = again }
  where
    takes : (bytes : List ℕ) (y : B) (rest : List ℕ) → IsBytes bytes → (made parts whole f).read bytes ≡ Some (y, rest) → Takes bytes (f.spelled (parts y)) rest × f.Fits (parts y)
    takes bytes y rest fits e =
        let a = bind_some (f.read bytes) (λ x. Some (whole x.0, x.1)) (y, rest) e in
        let t = hf.takes bytes a.0.0 a.0.1 fits a.1 in
        let same = some_is (whole a.0.0, a.0.1) (y, rest) a.2 in
        subst (λ (z : B × List ℕ). Takes bytes (f.spelled (parts z.0)) z.1 × f.Fits (parts z.0)) same (subst (λ (x : A). Takes bytes (f.spelled x) a.0.1 × f.Fits x) (sym (there a.0.0)) t)

    again : (y : B) (rest : List ℕ) → f.Fits (parts y) → (made parts whole f).read (f.spelled (parts y) ++ rest) ≡ Some (y, rest)
    again y rest fits = rw (hf.again (parts y) rest fits, back y) refl

pub listed_form : {A : Type 0} (w : Width) (place : A → ℕ) (all : List A) → IsWide w → ((n : ℕ) (x : A) → slice_get all n ≡ Some x → n ≡ place x) → ((x : A) → (slice_get all (place x) ≡ Some x) × (place x < 256 ^ byte_len w)) → IsForm (listed w place all)
listed_form {A} w place all wide only there = record { takes = takes; again = again }
  where
    takes : (bytes : List ℕ) (x : A) (rest : List ℕ) → IsBytes bytes → (listed w place all).read bytes ≡ Some (x, rest) → Takes bytes (to_le_bytes w (place x)) rest × Unit {0}
    takes bytes x rest fits e =
        let a = bind_some (number_at w bytes) (λ n. slice_get all n.0 >>= λ y. Some (y, n.1)) (x, rest) e in
        let b = bind_some (slice_get all a.0.0) (λ y. Some (y, a.0.1)) (x, rest) a.2 in
        let t = number_takes w wide bytes a.0.0 a.0.1 fits a.1 in
        let one : Takes bytes (to_le_bytes w (place b.0)) a.0.1 = subst (λ (n : ℕ). Takes bytes (to_le_bytes w n) a.0.1) (only a.0.0 b.0 b.1) t.0 in
        (subst (λ (y : A × List ℕ). Takes bytes (to_le_bytes w (place y.0)) y.1) (some_is (b.0, a.0.1) (x, rest) b.2) one, tt)

    again : (x : A) (rest : List ℕ) → Unit {0} → (listed w place all).read (to_le_bytes w (place x) ++ rest) ≡ Some (x, rest)
    again x rest fits = rw (number_again w wide (place x) rest (there x).1, (there x).0) refl

-- ---- lists

items_take : {A : Type 0} (f : Form A) → IsForm f → (n : ℕ) (bytes : List ℕ) (xs : List A) (rest : List ℕ) → IsBytes bytes → items_at f.read n bytes ≡ Some (xs, rest) → Takes bytes (flat_map f.spelled xs) rest × (length xs ≡ n) × All f.Fits xs
unfolding items_at
items_take {A} f hf zero bytes xs rest fits e =
    subst (λ (y : List A × List ℕ). Takes bytes (flat_map f.spelled y.0) y.1 × (length y.0 ≡ 0) × All f.Fits y.0) (some_is ([], bytes) (xs, rest) e) (record { parts = refl; rest_fits = fits }, refl, All-nil f.Fits)
items_take {A} f hf (suc n) bytes xs rest fits e =
    let a = bind_some (f.read bytes) (λ x. items_at f.read n x.1 >>= λ ys. Some (x.0 ∷ ys.0, ys.1)) (xs, rest) e in
    let b = bind_some (items_at f.read n a.0.1) (λ ys. Some (a.0.0 ∷ ys.0, ys.1)) (xs, rest) a.2 in
    let t = hf.takes bytes a.0.0 a.0.1 fits a.1 in
    let u = items_take f hf n a.0.1 b.0.0 b.0.1 t.0.rest_fits b.1 in
    let both = Takes-then bytes (f.spelled a.0.0) a.0.1 (flat_map f.spelled b.0.0) b.0.1 t.0 u.0 in
    subst (λ (y : List A × List ℕ). Takes bytes (flat_map f.spelled y.0) y.1 × (length y.0 ≡ suc n) × All f.Fits y.0) (some_is (a.0.0 ∷ b.0.0, b.0.1) (xs, rest) b.2) (rw flat_map-cons both, ap suc u.1, All-cons f.Fits a.0.0 b.0.0 t.1 u.2)

items_again : {A : Type 0} (f : Form A) → IsForm f → (xs : List A) (rest : List ℕ) → All f.Fits xs → items_at f.read (length xs) (flat_map f.spelled xs ++ rest) ≡ Some (xs, rest)
unfolding items_at
items_again f hf [] rest fits = refl
items_again f hf (x ∷ xs) rest fits =
    let regrouped : flat_map f.spelled (x ∷ xs) ++ rest ≡ f.spelled x ++ (flat_map f.spelled xs ++ rest) = ap (λ (y : List ℕ). y ++ rest) (flat_map-cons f.spelled x xs) ∙ append_assoc (f.spelled x) (flat_map f.spelled xs) rest in
    ap (items_at f.read (suc (length xs))) regrouped ∙ rw (hf.again x (flat_map f.spelled xs ++ rest) (fits 0 x (omega arith)), items_again f hf xs rest (λ k d lt. fits (suc k) d (omega (arith, lt)))) refl

pub list_form : {A : Type 0} (f : Form A) → IsForm f → IsForm (list f)
list_form {A} f hf = record { takes = takes; again = again }
  where
    takes : (bytes : List ℕ) (xs : List A) (rest : List ℕ) → IsBytes bytes → (list f).read bytes ≡ Some (xs, rest) → Takes bytes ((list f).spelled xs) rest × (list f).Fits xs
    takes bytes xs rest fits e =
        let a = bind_some (number_at w32 bytes) (λ n. items_at f.read n.0 n.1) (xs, rest) e in
        let t = number_takes w32 wide32 bytes a.0.0 a.0.1 fits a.1 in
        let u = items_take f hf a.0.0 a.0.1 xs rest t.0.rest_fits a.2 in
        let both = Takes-then bytes (to_le_bytes w32 a.0.0) a.0.1 (flat_map f.spelled xs) rest t.0 u.0 in
        (subst (λ (k : ℕ). Takes bytes (to_le_bytes w32 k ++ flat_map f.spelled xs) rest) (sym u.1) both, (omega (arith, t.1, u.1), u.2))

    again : (xs : List A) (rest : List ℕ) → (list f).Fits xs → (list f).read ((list f).spelled xs ++ rest) ≡ Some (xs, rest)
    again xs rest fits = ap (list f).read (append_assoc (to_le_bytes w32 (length xs)) (flat_map f.spelled xs) rest) ∙ rw (number_again w32 wide32 (length xs) (flat_map f.spelled xs ++ rest) fits.0) (items_again f hf xs rest fits.1)

-- ---- texts

string_takes : (bytes value rest : List ℕ) → IsBytes bytes → string_at bytes ≡ Some (value, rest) → Takes bytes (text.spelled value) rest × (length value < 2 ^ 32)
string_takes bytes value rest fits e =
    let b = bind_some (number_at w32 bytes) (λ n. cond (ltb (length n.1) n.0) None (Some (take n.0 n.1, drop n.0 n.1))) (value, rest) e in
    let n = b.0 in
    let t = number_takes w32 wide32 bytes n.0 n.1 fits b.1 in
    let g = guard_some (ltb (length n.1) n.0) (take n.0 n.1, drop n.0 n.1) (value, rest) b.2 in
    let long : n.0 ≤ length n.1 = ltb-false _ _ g.0 in
    let len : length (take n.0 n.1) ≡ n.0 = omega (arith, length-take n.0 n.1) in
    let second : Takes n.1 (take n.0 n.1) (drop n.0 n.1) = record { parts = sym (take-append-drop n.0 n.1); rest_fits = IsBytes-drop n.0 n.1 t.0.rest_fits } in
    let both = Takes-then bytes (to_le_bytes w32 n.0) n.1 (take n.0 n.1) (drop n.0 n.1) t.0 second in
    let whole : Takes bytes (text.spelled (take n.0 n.1)) (drop n.0 n.1) = subst (λ (k : ℕ). Takes bytes (to_le_bytes w32 k ++ take n.0 n.1) (drop n.0 n.1)) (sym len) both in
    subst (λ (p : List ℕ × List ℕ). Takes bytes (text.spelled p.0) p.1 × (length p.0 < 2 ^ 32)) g.1 (whole, omega (arith, t.1))

string_again : (value rest : List ℕ) → length value < 2 ^ 32 → string_at (text.spelled value ++ rest) ≡ Some (value, rest)
string_again value rest lt =
    let long : ltb (length (value ++ rest)) (length value) ≡ false = le-ltb _ _ (omega (arith, length-append value rest)) in
    ap string_at (append_assoc (to_le_bytes w32 (length value)) value rest) ∙ rw (number_again w32 wide32 (length value) (value ++ rest) lt, long, take_at value rest (length value) refl, drop_at value rest (length value) refl) refl

text_takes : (bytes value rest : List ℕ) → IsBytes bytes → text.read bytes ≡ Some (value, rest) → Takes bytes (text.spelled value) rest × text.Fits value
text_takes bytes value rest fits e =
    let b = bind_some (string_at bytes) (λ t. cond (is_utf8 t.0) (Some t) None) (value, rest) e in
    let g = guard_kept (is_utf8 b.0.0) b.0 (value, rest) b.2 in
    let t = string_takes bytes b.0.0 b.0.1 fits b.1 in
    subst (λ (p : List ℕ × List ℕ). Takes bytes (text.spelled p.0) p.1 × text.Fits p.0) g.1 (t.0, (t.1, IsUtf8-from_is_utf8 b.0.0 g.0))

text_again : (value rest : List ℕ) → text.Fits value → text.read (text.spelled value ++ rest) ≡ Some (value, rest)
text_again value rest fits = rw (string_again value rest fits.0, is_utf8-from_IsUtf8 value fits.1) refl

pub text_form : IsForm text
text_form = record { takes = text_takes; again = text_again }

code_points_take : (bytes cs rest : List ℕ) → IsBytes bytes → code_points.read bytes ≡ Some (cs, rest) → Takes bytes (code_points.spelled cs) rest × code_points.Fits cs
code_points_take bytes cs rest fits e =
    let b = bind_some (text.read bytes) (λ t. Some (chars t.0, t.1)) (cs, rest) e in
    let t = text_takes bytes b.0.0 b.0.1 fits b.1 in
    let back : encode_utf8_all (chars b.0.0) ≡ b.0.0 = encodes-chars b.0.0 t.1.1 in
    subst (λ (p : List ℕ × List ℕ). Takes bytes (code_points.spelled p.0) p.1 × code_points.Fits p.0) (some_is (chars b.0.0, b.0.1) (cs, rest) b.2) (rw back t.0, (rw back t.1, ap chars back))

pub code_points_form : IsForm code_points
code_points_form = record {
  takes = code_points_take;
  again = λ cs rest fits. rw (text_again (encode_utf8_all cs) rest fits.0, fits.1) refl;
}
