-- Values without cells, and cells that were spelled before, are read as they were.
use Rattle.std.proofs.Common.{◌≡◌, ℕ, zero, suc, ◌+◌, ◌-◌, ◌^◌, ◌<◌, ◌≤◌, Bool, true, false, cond, ◌&&◌, List, [], ◌∷◌, ◌++◌, length, append_assoc, drop, Option, Some, None, unwrap_or, IsSome, refl, sym, ap, subst, ◌∙◌, arith, length-append, ℤ, pos, negsuc}
use Rattle.std.specs.Prelude.{All, codes, decimal, flat_map, nat_eq, slice_get}
use Rattle.std.specs.Char.{IsScalar}
use Rattle.std.specs.Fmt.{signed_decimal}
use Rattle.std.specs.List.{starts_with}
use Rattle.std.specs.Str.Parse.{AllDigits}
use Rattle.std.proofs.lemmas.Bool.{cond-true, cond-false, eq-eqb, lt-ltb, ne_eqb, true≢false}
use Rattle.std.proofs.lemmas.Fmt.{decimal_digit, decimal_is_IsNumeral}
use Rattle.std.proofs.lemmas.List.Elements.{filter-append, All-append, All-cons, All-head, All-nil, All-tail}
use Rattle.std.proofs.lemmas.Str.Parse.{digit_from_value}
use Rattle.lp_values.specs.Limits.{max_code_points}
use Rattle.lp_values.specs.declared.id.CellId.{CellId}
use Rattle.lp_values.specs.declared.id.ObjId.{ObjId}
use Rattle.lp_values.specs.declared.value.Value.{Value}
use Rattle.lp_values.specs.declared.value.Value.TheVariants.{Arr, Int, Map, Obj, Str}
use Rattle.lp_cells.specs.declared.content.Content.{Content}
use Rattle.lp_cells.specs.declared.content.Content.TheVariants as content
use Rattle.lp_cells.specs.declared.content.Kind.TheVariants as kind
use Rattle.lp_cells.specs.Cells.{Store, as_items, as_pairs, content_at, kind_of}
use Rattle.lp_save.specs.declared.fault.FaultKind.TheVariants.{BadShare, BadValue}
use Rattle.lp_save.specs.SaveText.{Rest, Spelt, Walk, add, again_text, begins, is_among, left, met_again, needed, saved_point, share_number, value_of_cell}
use Rattle.lp_save.specs.Reading.{Done, Found, Wrong, and_then, cell_at, numbered_at, or_wrong, shared_at, value_at}
use Rattle.lp_save.proofs.DeskLemmas.{value_share}
use Rattle.lp_save.proofs.TextLaws.{text_read_again}
use Rattle.lp_save_laws.specs.Matching.{InOrder, IsInt, Matched, Matching, ValuesMatch}
use Rattle.lp_save_laws.proofs.Numbers.{int_again, number_again, other_mark}
use Rattle.lp_save_laws.proofs.Places.{Split, among_kept, in_order_at, kept, number_at, split_among}
use Rattle.lp_save_laws.proofs.Alongside.{Again, Ends, IsPlain, Numbered, Stands, fills_none, rest_with, stands_add}

-- ---- code points that a line may have

pub low_plain : (c : ℕ) → 10 < c → c < 128 → IsPlain c
low_plain c low high = (cond-true _ true _ (lt-ltb c 55296 (omega arith)), λ e. omega arith)

pub plain_one : (c : ℕ) (cs : List ℕ) → IsPlain c → All IsPlain cs → All IsPlain (c ∷ cs)
plain_one c cs h g = All-cons IsPlain c cs h g

digits_plain : (ds : List ℕ) → AllDigits 10 ds → All IsPlain ds
digits_plain [] d = All-nil IsPlain
digits_plain (c ∷ cs) d = let k = digit_from_value c d.0 in let low : 48 ≤ c = k.0 in let high : c ≤ 57 = k.1 in plain_one c cs (low_plain c (omega arith) (omega arith)) (digits_plain cs d.1)

pub decimal_plain : (n : ℕ) → n < 2 ^ 64 → All IsPlain (decimal n)
decimal_plain n h = digits_plain (decimal n) (decimal_is_IsNumeral n h).0.1

int_plain : (i : ℤ) → IsInt i → All IsPlain (signed_decimal i)
int_plain (pos n) h = decimal_plain n (omega arith)
int_plain (negsuc n) h = plain_one 45 (decimal (suc n)) (refl, λ e. omega arith) (decimal_plain (suc n) (omega arith))

point_by : (c : ℕ) → IsScalar c → (a b d e f : Bool) → nat_eq c 92 ≡ a → nat_eq c 10 ≡ b → nat_eq c 13 ≡ d → nat_eq c 9 ≡ e → nat_eq c 34 ≡ f
    → All IsPlain (cond a (codes "\\\\") (cond b (codes "\\n") (cond d (codes "\\r") (cond e (codes "\\t") (cond f (codes "\\\"") (c ∷ []))))))
point_by c h true b d e f h1 h2 h3 h4 h5 = plain_one 92 (92 ∷ []) (refl, λ e. omega arith) (plain_one 92 [] (refl, λ e. omega arith) (All-nil IsPlain))
point_by c h false true d e f h1 h2 h3 h4 h5 = plain_one 92 (110 ∷ []) (refl, λ e. omega arith) (plain_one 110 [] (refl, λ e. omega arith) (All-nil IsPlain))
point_by c h false false true e f h1 h2 h3 h4 h5 = plain_one 92 (114 ∷ []) (refl, λ e. omega arith) (plain_one 114 [] (refl, λ e. omega arith) (All-nil IsPlain))
point_by c h false false false true f h1 h2 h3 h4 h5 = plain_one 92 (116 ∷ []) (refl, λ e. omega arith) (plain_one 116 [] (refl, λ e. omega arith) (All-nil IsPlain))
point_by c h false false false false true h1 h2 h3 h4 h5 = plain_one 92 (34 ∷ []) (refl, λ e. omega arith) (plain_one 34 [] (refl, λ e. omega arith) (All-nil IsPlain))
point_by c h false false false false false h1 h2 h3 h4 h5 = plain_one c [] (h, λ e. true≢false (sym (eq-eqb c 10 e) ∙ h2)) (All-nil IsPlain)

points_plain : (t : List ℕ) → All IsScalar t → All IsPlain (flat_map saved_point t)
points_plain [] h = All-nil IsPlain
points_plain (c ∷ cs) h =
    All-append IsPlain (saved_point c) (flat_map saved_point cs) (point_by c (All-head IsScalar c cs h) (nat_eq c 92) (nat_eq c 10) (nat_eq c 13) (nat_eq c 9) (nat_eq c 34) refl refl refl refl refl) (points_plain cs (All-tail IsScalar c cs h))

-- ---- marks that a value does not begin with

-- not a bracket that ends an array or a mapping
abbrev NoEnd : List ℕ → Type 0
NoEnd text = (rest : List ℕ) → (starts_with nat_eq (text ++ rest) (codes "})") ≡ false) × (starts_with nat_eq (text ++ rest) (codes "])") ≡ false)

digits_no_end : (ds : List ℕ) → 0 < length ds → AllDigits 10 ds → NoEnd ds
digits_no_end [] some d rest = absurd (omega arith)
digits_no_end (c ∷ cs) some d rest =
    let k = digit_from_value c d.0 in
    let high : c ≤ 57 = k.1 in
    (other_mark 125 (41 ∷ []) c (cs ++ rest) (ne_eqb 125 c (λ e. omega arith)), other_mark 93 (41 ∷ []) c (cs ++ rest) (ne_eqb 93 c (λ e. omega arith)))

int_no_end : (i : ℤ) → IsInt i → NoEnd (signed_decimal i)
int_no_end (pos n) h = let k = decimal_is_IsNumeral n (omega arith) in digits_no_end (decimal n) k.0.0 k.0.1
int_no_end (negsuc n) h = λ rest. (refl, refl)

-- ---- a value without cells

module _ (live : ObjId → Bool) (cells : Store) (again : List CellId) (m : Matching) where
  -- a text that is added, and the value that is read of it
  pub leaf : (n : ℕ) (v : Value) (w : Walk) (s : Spelt) (numbers : List CellId) (made : Store) (t text : List ℕ) (value : Value) → t ≡ text → Stands cells again m w s numbers made → ValuesMatch m v value → NoEnd text → All IsPlain text
      → ((steps : ℕ) (rest : List ℕ) → length text < steps → Ends rest → value_at steps n (rest_with (text ++ rest) numbers made) ≡ Done value (rest_with rest numbers made)) → Again live cells again m n v w s numbers made w (add t s)
  leaf n v w s numbers made t text value is h match begins plain reads = record {
    text = text;
    value = value;
    numbers2 = numbers;
    made2 = made;
    spells = ap (λ x. s.text ++ x) is;
    stands = stands_add cells again m w s numbers made t h;
    fills = fills_none live cells m w made;
    match = match;
    begins = begins;
    plain = plain;
    reads = reads;
  }

  pub int_leaf : (n : ℕ) (i : ℤ) (w : Walk) (s : Spelt) (numbers : List CellId) (made : Store) → IsInt i → Stands cells again m w s numbers made → Again live cells again m n (Int i) w s numbers made w (add (signed_decimal i) s)
  int_leaf n i w s numbers made h st =
      leaf n (Int i) w s numbers made (signed_decimal i) (signed_decimal i) (Int i) refl st refl (int_no_end i h) (int_plain i h) (λ steps rest lt ends. int_again i rest steps n (rest_with rest numbers made) h (omega arith) ends.0)

  pub object_leaf : (n : ℕ) (o : ObjId) (w : Walk) (s : Spelt) (numbers : List CellId) (made : Store) → Stands cells again m w s numbers made → Again live cells again m n (Obj o) w s numbers made w (add (codes "0") s)
  object_leaf n o w s numbers made st =
      leaf n (Obj o) w s numbers made (codes "0") (48 ∷ []) (Int (pos 0)) refl st refl (λ rest. (refl, refl)) (plain_one 48 [] (refl, λ e. omega arith) (All-nil IsPlain))
      (λ steps rest lt ends. subst (λ x. value_at steps n (rest_with (x ++ rest) numbers made) ≡ Done (Int (pos 0)) (rest_with rest numbers made)) (decimal_digit 0 (omega arith)) (int_again (pos 0) rest steps n (rest_with rest numbers made) (omega arith) (omega arith) ends.0))

  text_reads : (n : ℕ) (t rest : List ℕ) (steps : ℕ) (r : Rest) → length t ≤ max_code_points → 0 < steps → value_at steps n (left (34 ∷ flat_map saved_point t ++ 34 ∷ rest) r) ≡ Done (Str t) (left rest r)
  text_reads n t rest zero r h lt = absurd (omega arith)
  text_reads n t rest (suc k) r h lt = let e : k + 1 ≡ suc k = omega arith in subst (λ j. value_at j n (left (34 ∷ flat_map saved_point t ++ 34 ∷ rest) r) ≡ Done (Str t) (left rest r)) e (text_read_again t rest k n r h)

  pub text_leaf : (n : ℕ) (t : List ℕ) (w : Walk) (s : Spelt) (numbers : List CellId) (made : Store) → length t ≤ max_code_points → All IsScalar t → Stands cells again m w s numbers made → Again live cells again m n (Str t) w s numbers made w (add (34 ∷ flat_map saved_point t ++ 34 ∷ []) s)
  text_leaf n t w s numbers made h scalar st =
      let text : List ℕ = 34 ∷ flat_map saved_point t ++ 34 ∷ [] in
      leaf n (Str t) w s numbers made text text (Str t) refl st refl (λ rest. (refl, refl)) (plain_one 34 (flat_map saved_point t ++ 34 ∷ []) (refl, λ e. omega arith) (All-append IsPlain (flat_map saved_point t) (34 ∷ []) (points_plain t scalar) (plain_one 34 [] (refl, λ e. omega arith) (All-nil IsPlain))))
      (λ steps rest lt ends. ap (λ x. value_at steps n (rest_with (34 ∷ x) numbers made)) (append_assoc (flat_map saved_point t) (34 ∷ []) rest) ∙ text_reads n t rest steps (rest_with rest numbers made) h (omega arith))

  -- ---- a cell that was spelled before

  shared_step : (k : ℕ) (r : Rest) (c : CellId) (v : Value) → slice_get r.shared k ≡ Some c → value_of_cell c r ≡ Some (v, r) → shared_at (k + 1) r ≡ Done v r
  shared_step k r c v at is =
      let e : suc k ≡ k + 1 = omega arith in
      subst (λ j. shared_at j r ≡ Done v r) e (ap (λ o. and_then (or_wrong BadShare (elim o [ Some d ↦ Some (d, r) | None ↦ None ])) (λ d x. or_wrong BadShare (value_of_cell d x))) at ∙ ap (or_wrong BadShare) is)

  -- a number is read, and what stands behind its `>` follows
  pub number_reads : (steps n k : ℕ) (rest : List ℕ) (numbers : List CellId) (made : Store) → 0 < steps → k + 1 < 2 ^ 64
      → value_at steps n (rest_with (60 ∷ decimal (k + 1) ++ 62 ∷ rest) numbers made) ≡ numbered_at (λ x. cell_at (steps - 1) n true x) (k + 1) (rest_with rest numbers made)
  number_reads steps n k rest numbers made lt small =
      let cell : Rest → Found Value = λ x. cell_at (steps - 1) n true x in
      let line : Rest = rest_with (60 ∷ decimal (k + 1) ++ 62 ∷ rest) numbers made in
      value_share steps n line lt refl
      ∙ ap (λ o. and_then (or_wrong BadValue o) (λ k r. and_then (or_wrong BadValue (needed (codes ">") r)) (λ x r. numbered_at cell k r))) (number_again (k + 1) (62 ∷ rest) (rest_with rest numbers made) small refl)

  pub ref_reads : (steps n k : ℕ) (rest : List ℕ) (numbers : List CellId) (made : Store) (d : CellId) (v : Value) → 0 < steps → k + 1 < 2 ^ 64 → Ends rest → slice_get numbers k ≡ Some d
      → value_of_cell d (rest_with rest numbers made) ≡ Some (v, rest_with rest numbers made) → value_at steps n (rest_with (60 ∷ decimal (k + 1) ++ 62 ∷ rest) numbers made) ≡ Done v (rest_with rest numbers made)
  ref_reads steps n k rest numbers made d v lt small ends at is =
      let r : Rest = rest_with rest numbers made in
      number_reads steps n k rest numbers made lt small
      ∙ cond-false (begins (codes "=") r) (cond (nat_eq (k + 1) (length r.shared + 1)) (cell_at (steps - 1) n true (left (drop 1 r.text) r)) (Wrong BadShare)) (shared_at (k + 1) r) ends.1 ∙ shared_step k r d v at is

  -- a matched cell is of the same kind
  pub array_kind : (o : Option Content) → IsSome (as_items o) → kind_of o ≡ kind.Array
  array_kind (Some (content.Array vs)) h = refl
  array_kind (Some (content.Mapping ps)) h = cc
  array_kind None h = cc

  pub mapping_kind : (o : Option Content) → IsSome (as_pairs o) → kind_of o ≡ kind.Mapping
  mapping_kind (Some (content.Array vs)) h = cc
  mapping_kind (Some (content.Mapping ps)) h = refl
  mapping_kind None h = cc

  abbrev is_array : Option Content → Bool
  is_array o = elim o [ Some x ↦ elim x [ content.Array vs ↦ true | content.Mapping ps ↦ false ] | None ↦ false ]

  array_is : (o : Option Content) → kind_of o ≡ kind.Array → is_array o ≡ true
  array_is (Some (content.Array vs)) h = refl
  array_is (Some (content.Mapping ps)) h = cc
  array_is None h = cc

  mapping_is : (o : Option Content) → kind_of o ≡ kind.Mapping → is_array o ≡ false
  mapping_is (Some (content.Array vs)) h = cc
  mapping_is (Some (content.Mapping ps)) h = refl
  mapping_is None h = cc

  -- a cell that was met and occurs again
  module _ (n : ℕ) (w : Walk) (s : Spelt) (numbers : List CellId) (made : Store) (c : CellId) (later : List CellId) (st : Stands cells again m w s numbers made) (front : m.saved ≡ w.met ++ later) (met : is_among c w.met ≡ true) (more : is_among c again ≡ true)
      (small : length (kept again m.saved) < 2 ^ 64) where
    split : Split c (kept again w.met)
    split = split_among c (kept again w.met) (among_kept again c w.met ∙ (λ i. more i && met i))

    all : kept again m.saved ≡ split.front ++ c ∷ (split.back ++ kept again later)
    all = ap (kept again) front ∙ filter-append (λ d. is_among d again) w.met later ∙ ap (λ x. x ++ kept again later) split.is ∙ append_assoc split.front (c ∷ split.back) (kept again later)

    number : share_number (kept again m.saved) c ≡ Some (length split.front)
    number = ap (λ l. share_number l c) all ∙ number_at c split.front (split.back ++ kept again later) split.other

    room : length split.front + 1 < 2 ^ 64
    room = let long : length (kept again m.saved) ≡ length split.front + length (c ∷ (split.back ++ kept again later)) = ap length all ∙ length-append split.front (c ∷ (split.back ++ kept again later)) in omega arith

    found : (d : CellId) × (slice_get numbers (length split.front) ≡ Some d) × Numbered m (length w.met) c d
    found = in_order_at (Numbered m (length w.met)) split.front split.back c numbers (subst (λ l. InOrder (Numbered m (length w.met)) l numbers) split.is st.shares)

    kind_is : kind_of (content_at made found.0) ≡ kind_of (content_at cells c)
    kind_is = let p = found.2 in ap (λ j. kind_of (unwrap_or (slice_get made j) None)) p.2 ∙ st.kinds p.0 c p.3 p.1

    abbrev ref_text : List ℕ
    ref_text = 60 ∷ decimal (length split.front + 1) ++ 62 ∷ []

    ref_by : (v value : Value) → ValuesMatch m v value → ((rest : List ℕ) → value_of_cell found.0 (rest_with rest numbers made) ≡ Some (value, rest_with rest numbers made))
        → Again live cells again m n v w s numbers made (met_again c w) (add (again_text (share_number (kept again m.saved) c)) s)
    ref_by v value match named = record {
      text = ref_text;
      value = value;
      numbers2 = numbers;
      made2 = made;
      spells = ap (λ x. s.text ++ again_text x) number;
      stands = record { done = st.done; shares = st.shares; count = st.count; kinds = st.kinds };
      fills = record { grows = omega arith; same = λ k lt. refl; filled = λ k d low high e. absurd (omega arith) };
      match = match;
      begins = λ rest. (refl, refl);
      plain = plain_one 60 (decimal (length split.front + 1) ++ 62 ∷ []) (refl, λ e. omega arith) (All-append IsPlain (decimal (length split.front + 1)) (62 ∷ []) (decimal_plain (length split.front + 1) room) (plain_one 62 [] (refl, λ e. omega arith) (All-nil IsPlain)));
      reads = λ steps rest lt ends. ap (λ x. value_at steps n (rest_with (60 ∷ x) numbers made)) (append_assoc (decimal (length split.front + 1)) (62 ∷ []) rest) ∙ ref_reads steps n (length split.front) rest numbers made found.0 value (omega arith) room ends found.1 (named rest);
    }

    matched : Matched m c found.0
    matched = let p = found.2 in (p.0, p.1, p.2)

    pub array_ref : IsSome (as_items (content_at cells c)) → Again live cells again m n (Arr c) w s numbers made (met_again c w) (add (again_text (share_number (kept again m.saved) c)) s)
    array_ref t = ref_by (Arr c) (Arr found.0) matched (λ rest. ap (λ b. Some (cond b (Arr found.0) (Map found.0), rest_with rest numbers made)) (array_is (content_at made found.0) (kind_is ∙ array_kind (content_at cells c) t)))

    pub mapping_ref : IsSome (as_pairs (content_at cells c)) → Again live cells again m n (Map c) w s numbers made (met_again c w) (add (again_text (share_number (kept again m.saved) c)) s)
    mapping_ref t = ref_by (Map c) (Map found.0) matched (λ rest. ap (λ b. Some (cond b (Arr found.0) (Map found.0), rest_with rest numbers made)) (mapping_is (content_at made found.0) (kind_is ∙ mapping_kind (content_at cells c) t)))
