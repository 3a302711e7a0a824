-- What is read from a desk on, path by path.
use Rattle.std.proofs.Common.{◌≡◌, ℕ, zero, suc, ◌+◌, ◌-◌, ◌<◌, ◌≤◌, Bool, true, false, cond, ◌||◌, List, [], ◌∷◌, ◌++◌, length, get_or, map, drop, Option, Some, None, option_map, refl, sym, ap, subst, ◌∙◌, append_assoc, arith, length-append}
use Rattle.std.specs.Prelude.{codes, nat_eq, nat_lt, slice_get, slice_set, Result, Ok, Err}
use Rattle.std.proofs.lemmas.Bool.{cond_both, cond-true, cond-false, lt-ltb, le-ltb, ltb-true, ltb-false, ne_eqb}
use Rattle.std.proofs.lemmas.Option.{slice_get-map, slice_get_past, slice_get_read}
use Rattle.std.proofs.lemmas.List.{length-map}
use Rattle.lp_values.specs.Limits.{max_items}
use Rattle.lp_values.specs.Read.{value_eq}
use Rattle.indexmap.specs.IndexMap.{insert_entry}
use Rattle.lp_values.specs.declared.id.CellId.{CellId}
use Rattle.lp_values.specs.declared.value.Value.{Value}
use Rattle.lp_values.specs.declared.value.Value.TheVariants.{Arr, Map}
use Rattle.lp_cells.specs.declared.content.Content.{Content}
use Rattle.lp_cells.specs.declared.content.Content.TheVariants as content
use Rattle.lp_cells.specs.Cells.{Store, content_set}
use Rattle.lp_save.specs.declared.fault.ReadFault.{ReadFault}
use Rattle.lp_save.specs.declared.fault.ReadFault.TheVariants as fault
use Rattle.lp_save.specs.declared.fault.FaultKind.TheVariants.{BadValue, BadShare, TooLong, TooNested}
use Rattle.lp_save.specs.SaveText.{Rest, begins, cell_begun, int_read, left, needed, next_cell, value_of_cell}
use Rattle.lp_save.specs.Reading.{Found, Done, Wrong, TextFound, Text, NoText, and_then, array_filled, cell_at, items_at, mapping_filled, numbered_at, or_wrong, pairs_at, share_at, shared_at, text_at, text_value, value_at}
use Rattle.lp_save.specs.Desks.{Answers, Desk, Fails, cell_of, desk_begun, desk_filled, desk_left, rest_of}

-- another spelling of what is found, from a desk with the same cells that were there
pub answers_from : {T A : Type 0} (view : T → A) (r : Result T ReadFault) (old now new : Desk) (found other : Found A) → now.base ≡ old.base → found ≡ other → Answers view r now new other → Answers view r old new found
answers_from view (Ok x) old now new found other base is h = (is ∙ h.0, h.1 ∙ base)
answers_from view (Err fault.NoMemory) old now new found other base is h = tt
answers_from view (Err (fault.Wrong k)) old now new found other base is h = is ∙ h

-- a fault is passed on
pub answers_err : {T A : Type 0} (view : T → A) (r : Result T ReadFault) (e y : ReadFault) (old new : Desk) (found : Found A) → r ≡ Err y → y ≡ e → Fails e found → Answers view r old new found
answers_err view r e y old new found is same h = subst (λ x. Answers view x old new found) (sym is) (subst (λ z. Fails z found) (sym same) h)

fails_from : {A : Type 0} (e : ReadFault) (found other : Found A) → found ≡ other → Fails e other → Fails e found
fails_from e found other is h = subst (Fails e) (sym is) h

fails_then : {A B : Type 0} (e : ReadFault) (m : Found A) (go : A → Rest → Found B) → Fails e m → Fails e (and_then m go)
fails_then fault.NoMemory m go h = tt
fails_then (fault.Wrong k) m go h = ap (λ x. and_then x go) h

-- ---- the new cells

set_behind : (b m : Store) (i : ℕ) (x : Option Content) → slice_set (b ++ m) (length b + i) x ≡ b ++ slice_set m i x
set_behind [] m i x = let e : 0 + i ≡ i = omega arith in ap (λ j. slice_set m j x) e
set_behind (y ∷ b) m i x =
    let e : length (y ∷ b) + i ≡ suc (length b + i) = omega arith in ap (λ j. slice_set (y ∷ (b ++ m)) j x) e ∙ ap (λ z. y ∷ z) (set_behind b m i x)

map_more : (f : ℕ → CellId) (xs : List ℕ) (x : ℕ) → map f (xs ++ x ∷ []) ≡ map f xs ++ f x ∷ []
map_more f [] x = refl
map_more f (y ∷ xs) x = ap (λ z. f y ∷ z) (map_more f xs x)

next_is : (d : Desk) → next_cell (rest_of d) ≡ cell_of d.base (length d.made)
next_is d = ap (λ n. record { 0 = n }) (length-append d.base d.made)

pub begun_is : (d : Desk) (b : Bool) (t : List ℕ) (x : Content) → rest_of (desk_begun b t x d) ≡ cell_begun b t x (rest_of d)
begun_is d true t x =
    ap (λ cs. record { text = t; shared = cs; cells = d.base ++ (d.made ++ Some x ∷ []) }) (map_more (cell_of d.base) d.shared (length d.made) ∙ ap (λ c. map (cell_of d.base) d.shared ++ c ∷ []) (sym (next_is d)))
    ∙ ap (λ cs. record { text = t; shared = map (cell_of d.base) d.shared ++ next_cell (rest_of d) ∷ []; cells = cs }) (sym (append_assoc d.base d.made (Some x ∷ [])))
begun_is d false t x = ap (λ cs. record { text = t; shared = map (cell_of d.base) d.shared; cells = cs }) (sym (append_assoc d.base d.made (Some x ∷ [])))

pub filled_is : (d : Desk) (i : ℕ) (x : Content) → rest_of (desk_filled i x d) ≡ record (rest_of d) { cells = content_set (rest_of d).cells (cell_of d.base i) x }
filled_is d i x = ap (λ cs. record { text = d.text; shared = map (cell_of d.base) d.shared; cells = cs }) (sym (set_behind d.base d.made i (Some x)))

-- ---- shared cells

shared_step : (k : ℕ) (r : Rest) (c : CellId) (v : Value) → slice_get r.shared k ≡ Some c → value_of_cell c r ≡ Some (v, r) → shared_at (suc k) r ≡ Done v r
shared_step k r c v at is =
    ap (λ o. and_then (or_wrong BadShare (elim o [ Some d ↦ Some (d, r) | None ↦ None ])) (λ d x. or_wrong BadShare (value_of_cell d x))) at ∙ ap (or_wrong BadShare) is

pub shared_one : (d : Desk) (n place : ℕ) (v : Value) → 0 < n → n ≤ length d.shared → place ≡ get_or d.shared (n - 1) place → value_of_cell (cell_of d.base place) (rest_of d) ≡ Some (v, rest_of d)
    → (shared_at n (rest_of d) ≡ Done v (rest_of d)) × (d.base ≡ d.base)
shared_one d zero place v lt le at is = absurd (omega arith)
shared_one d (suc k) place v lt le at is =
    let less : suc k - 1 ≡ k = omega arith in
    let here : place ≡ get_or d.shared k place = at ∙ ap (λ j. get_or d.shared j place) less in
    let got : slice_get d.shared k ≡ Some place = slice_get_read d.shared (length d.shared) k place refl (omega arith) here in
    (shared_step k (rest_of d) (cell_of d.base place) v (slice_get-map (cell_of d.base) d.shared k ∙ ap (option_map (cell_of d.base)) got) is, refl)

shared_past : (k : ℕ) (r : Rest) → length r.shared < k → shared_at k r ≡ Wrong BadShare
shared_past zero r lt = refl
shared_past (suc k) r lt =
    ap (λ o. and_then (or_wrong BadShare (elim o [ Some d ↦ Some (d, r) | None ↦ None ])) (λ d x. or_wrong BadShare (value_of_cell d x))) (slice_get_past r.shared k (omega arith))

above_by : (n k : ℕ) (b : Bool) → nat_lt n k ≡ b → (k ≤ n → ⊥) → n < k
above_by n k true e high = ltb-true n k e
above_by n k false e high = absurd (high (ltb-false n k e))

pub above_limit : (n k : ℕ) → (k ≤ n → ⊥) → n < k
above_limit n k high = above_by n k (nat_lt n k) refl high

-- a number that is larger than all that there can be
pub numbered_large : (cell : Rest → Found Value) (k : ℕ) (d : Desk) → length d.shared + 1 < k → numbered_at cell k (rest_of d) ≡ Wrong BadShare
numbered_large cell k d lt =
    let r : Rest = rest_of d in
    let count : length r.shared ≡ length d.shared = length-map d.shared (cell_of d.base) in
    let other : nat_eq k (length r.shared + 1) ≡ false = ne_eqb k (length r.shared + 1) (λ e. omega arith) in
    cond_both (begins (codes "=") r) (cond (nat_eq k (length r.shared + 1)) (cell (left (drop 1 r.text) r)) (Wrong BadShare)) (shared_at k r) (λ x. x ≡ Wrong BadShare)
    (λ e. cond-false (nat_eq k (length r.shared + 1)) _ _ other) (λ e. shared_past k r (omega arith))

-- ---- values

value_one : (n levels : ℕ) (r : Rest) → value_at (suc n) levels r ≡ cond (begins (codes "<") r) (share_at (λ x. cell_at n levels true x) (left (drop 1 r.text) r)) (cond (begins (codes "({") r || begins (codes "([") r) (cell_at n levels false r)
    (cond (begins (codes "\"") r) (text_value (text_at [] false (drop 1 r.text)) r) (or_wrong BadValue (int_read r))))
value_one n levels r = refl

pub value_step : (n levels : ℕ) (r : Rest) → 0 < n → value_at n levels r ≡ cond (begins (codes "<") r) (share_at (λ x. cell_at (n - 1) levels true x) (left (drop 1 r.text) r)) (cond (begins (codes "({") r || begins (codes "([") r) (cell_at (n - 1) levels false r)
    (cond (begins (codes "\"") r) (text_value (text_at [] false (drop 1 r.text)) r) (or_wrong BadValue (int_read r))))
value_step zero levels r lt = absurd (omega arith)
value_step (suc n) levels r lt =
    let less : n ≡ suc n - 1 = omega arith in
    subst (λ k. value_at (suc n) levels r ≡ cond (begins (codes "<") r) (share_at (λ x. cell_at k levels true x) (left (drop 1 r.text) r)) (cond (begins (codes "({") r || begins (codes "([") r) (cell_at k levels false r)
    (cond (begins (codes "\"") r) (text_value (text_at [] false (drop 1 r.text)) r) (or_wrong BadValue (int_read r))))) less (value_one n levels r)

pub value_share : (n levels : ℕ) (r : Rest) → 0 < n → begins (codes "<") r ≡ true → value_at n levels r ≡ share_at (λ x. cell_at (n - 1) levels true x) (left (drop 1 r.text) r)
value_share n levels r lt a = value_step n levels r lt ∙ cond-true (begins (codes "<") r) _ _ a

pub value_cell : (n levels : ℕ) (r : Rest) → 0 < n → begins (codes "<") r ≡ false → (begins (codes "({") r || begins (codes "([") r) ≡ true → value_at n levels r ≡ cell_at (n - 1) levels false r
value_cell n levels r lt a b = value_step n levels r lt ∙ cond-false (begins (codes "<") r) _ _ a ∙ cond-true (begins (codes "({") r || begins (codes "([") r) _ _ b

pub value_text : (n levels : ℕ) (r : Rest) → 0 < n → begins (codes "<") r ≡ false → (begins (codes "({") r || begins (codes "([") r) ≡ false → begins (codes "\"") r ≡ true → value_at n levels r ≡ text_value (text_at [] false (drop 1 r.text)) r
value_text n levels r lt a b d = value_step n levels r lt ∙ cond-false (begins (codes "<") r) _ _ a ∙ cond-false (begins (codes "({") r || begins (codes "([") r) _ _ b ∙ cond-true (begins (codes "\"") r) _ _ d

pub value_int : (n levels : ℕ) (r : Rest) → 0 < n → begins (codes "<") r ≡ false → (begins (codes "({") r || begins (codes "([") r) ≡ false → begins (codes "\"") r ≡ false → value_at n levels r ≡ or_wrong BadValue (int_read r)
value_int n levels r lt a b d = value_step n levels r lt ∙ cond-false (begins (codes "<") r) _ _ a ∙ cond-false (begins (codes "({") r || begins (codes "([") r) _ _ b ∙ cond-false (begins (codes "\"") r) _ _ d

-- a shared cell behind its `<`
pub share_read : (n levels : ℕ) (old now new : Desk) (r : Result Value ReadFault) → 0 < n → begins (codes "<") (rest_of old) ≡ true → now ≡ desk_left (drop 1 old.text) old
    → Answers (λ v. v) r now new (share_at (λ x. cell_at (n - 1) levels true x) (rest_of now)) → Answers (λ v. v) r old new (value_at n levels (rest_of old))
share_read n levels old now new r lt a moved h =
    answers_from (λ v. v) r old now new (value_at n levels (rest_of old)) (share_at (λ x. cell_at (n - 1) levels true x) (rest_of now)) (ap (λ d. d.base) moved)
    (value_share n levels (rest_of old) lt a ∙ ap (share_at (λ x. cell_at (n - 1) levels true x)) (sym (ap rest_of moved))) h

text_left : (t : TextFound) (cs : List ℕ) (r : Rest) → text_value t r ≡ text_value t (left cs r)
text_left (Text x y) cs r = refl
text_left (NoText k) cs r = refl

-- a text behind its `"`
pub text_read : (n levels : ℕ) (old now new : Desk) (r : Result Value ReadFault) → 0 < n → begins (codes "<") (rest_of old) ≡ false → (begins (codes "({") (rest_of old) || begins (codes "([") (rest_of old)) ≡ false → begins (codes "\"") (rest_of old) ≡ true
    → now ≡ desk_left (drop 1 old.text) old → Answers (λ v. v) r now new (text_value (text_at [] false now.text) (rest_of now)) → Answers (λ v. v) r old new (value_at n levels (rest_of old))
text_read n levels old now new r lt a b d moved h =
    answers_from (λ v. v) r old now new (value_at n levels (rest_of old)) (text_value (text_at [] false now.text) (rest_of now)) (ap (λ d. d.base) moved)
    (value_text n levels (rest_of old) lt a b d ∙ text_left (text_at [] false (drop 1 old.text)) (drop 1 old.text) (rest_of old)
    ∙ ap (λ x. text_value (text_at [] false x.text) (rest_of x)) (sym moved)) h

pub no_cell : (a b : Bool) → a ≡ false → b ≡ false → (a || b) ≡ false
no_cell a b h k = ap (λ x. x || b) h ∙ k

-- ---- arrays and mappings

abbrev array_body : ℕ → ℕ → Bool → Rest → Found Value
array_body n levels b r = and_then (items_at n levels [] (cell_begun b (drop 2 r.text) (content.Array []) r)) (λ vs x. Done (Arr (next_cell r)) (array_filled (next_cell r) vs x))

abbrev mapping_body : ℕ → ℕ → Bool → Rest → Found Value
mapping_body n levels b r = and_then (pairs_at n levels [] (cell_begun b (drop 2 r.text) (content.Mapping []) r)) (λ ps x. Done (Map (next_cell r)) (mapping_filled (next_cell r) ps x))

cell_step : (n levels : ℕ) (b : Bool) (r : Rest) → 0 < n → 0 < levels → cell_at n levels b r ≡ cond (begins (codes "({") r) (array_body (n - 1) (levels - 1) b r) (cond (begins (codes "([") r) (mapping_body (n - 1) (levels - 1) b r) (Wrong BadShare))
cell_step zero levels b r lt low = absurd (omega arith)
cell_step (suc n) zero b r lt low = absurd (omega arith)
cell_step (suc n) (suc levels) b r lt low =
    let less : n ≡ suc n - 1 = omega arith in
    let lower : levels ≡ suc levels - 1 = omega arith in
    ap (λ k. cond (begins (codes "({") r) (array_body k levels b r) (cond (begins (codes "([") r) (mapping_body k levels b r) (Wrong BadShare))) less
    ∙ ap (λ k. cond (begins (codes "({") r) (array_body (suc n - 1) k b r) (cond (begins (codes "([") r) (mapping_body (suc n - 1) k b r) (Wrong BadShare))) lower

pub cell_array : (n levels : ℕ) (b : Bool) (r : Rest) → 0 < n → 0 < levels → begins (codes "({") r ≡ true → cell_at n levels b r ≡ array_body (n - 1) (levels - 1) b r
cell_array n levels b r lt low a = cell_step n levels b r lt low ∙ cond-true (begins (codes "({") r) _ _ a

pub cell_mapping : (n levels : ℕ) (b : Bool) (r : Rest) → 0 < n → 0 < levels → begins (codes "({") r ≡ false → begins (codes "([") r ≡ true → cell_at n levels b r ≡ mapping_body (n - 1) (levels - 1) b r
cell_mapping n levels b r lt low a m = cell_step n levels b r lt low ∙ cond-false (begins (codes "({") r) _ _ a ∙ cond-true (begins (codes "([") r) _ _ m

pub cell_nested : (n levels : ℕ) (b : Bool) (r : Rest) → 0 < n → levels ≡ 0 → (begins (codes "({") r || begins (codes "([") r) ≡ true → cell_at n levels b r ≡ Wrong TooNested
cell_nested zero levels b r lt none a = absurd (omega arith)
cell_nested (suc n) zero b r lt none a = cond-true (begins (codes "({") r || begins (codes "([") r) (Wrong TooNested) (Wrong BadShare) a
cell_nested (suc n) (suc levels) b r lt none a = absurd (omega arith)

pub cell_none : (n levels : ℕ) (b : Bool) (r : Rest) → 0 < n → begins (codes "({") r ≡ false → begins (codes "([") r ≡ false → cell_at n levels b r ≡ Wrong BadShare
cell_none zero levels b r lt a m = absurd (omega arith)
cell_none (suc n) zero b r lt a m = rw (a, m) refl
cell_none (suc n) (suc levels) b r lt a m = rw (a, m) refl

-- the items are put into the cell that was begun for them
pub array_read : (n levels : ℕ) (b : Bool) (old one two three : Desk) (place : ℕ) (c : CellId) (vs : List Value) → 0 < n → 0 < levels → begins (codes "({") (rest_of old) ≡ true → place ≡ length old.made
    → one ≡ desk_begun b (drop 2 old.text) (content.Array []) old → c ≡ cell_of one.base place → (items_at (n - 1) (levels - 1) [] (rest_of one) ≡ Done vs (rest_of two)) × (two.base ≡ one.base) → three ≡ desk_filled place (content.Array vs) two
    → (cell_at n levels b (rest_of old) ≡ Done (Arr c) (rest_of three)) × (three.base ≡ old.base)
array_read n levels b old one two three place c vs lt low a at begins_one cell_is items fills =
    let r : Rest = rest_of old in
    let base1 : one.base ≡ old.base = ap (λ d. d.base) begins_one in
    let base : two.base ≡ old.base = items.1 ∙ base1 in
    let base3 : three.base ≡ old.base = ap (λ d. d.base) fills ∙ base in
    let begun : rest_of one ≡ cell_begun b (drop 2 r.text) (content.Array []) r = ap rest_of begins_one ∙ begun_is old b (drop 2 old.text) (content.Array []) in
    let cell : next_cell r ≡ c = next_is old ∙ ap (cell_of old.base) (sym at) ∙ ap (λ s. cell_of s place) (sym base1) ∙ sym cell_is in
    let cell2 : cell_of two.base place ≡ next_cell r = ap (λ s. cell_of s place) base ∙ ap (cell_of old.base) at ∙ sym (next_is old) in
    let filled : rest_of three ≡ array_filled (next_cell r) vs (rest_of two) = ap rest_of fills ∙ filled_is two place (content.Array vs) ∙ ap (λ x. array_filled x vs (rest_of two)) cell2 in (
      cell_array n levels b r lt low a ∙ ap (λ x. and_then x (λ ws x. Done (Arr (next_cell r)) (array_filled (next_cell r) ws x))) (ap (items_at (n - 1) (levels - 1) []) (sym begun) ∙ items.0)
          ∙ ap (λ x. Done (Arr (next_cell r)) x) (sym filled) ∙ ap (λ x. Done (Arr x) (rest_of three)) cell,
      base3,
    )

pub array_failed : (n levels : ℕ) (b : Bool) (old one : Desk) (e : ReadFault) → 0 < n → 0 < levels → begins (codes "({") (rest_of old) ≡ true → one ≡ desk_begun b (drop 2 old.text) (content.Array []) old
    → Fails e (items_at (n - 1) (levels - 1) [] (rest_of one)) → Fails e (cell_at n levels b (rest_of old))
array_failed n levels b old one e lt low a begins_one h =
    let r : Rest = rest_of old in
    let begun : rest_of one ≡ cell_begun b (drop 2 r.text) (content.Array []) r = ap rest_of begins_one ∙ begun_is old b (drop 2 old.text) (content.Array []) in
    let start : Rest = cell_begun b (drop 2 r.text) (content.Array []) r in
    fails_from e (cell_at n levels b r) (array_body (n - 1) (levels - 1) b r) (cell_array n levels b r lt low a)
    (fails_then e (items_at (n - 1) (levels - 1) [] start) (λ ws x. Done (Arr (next_cell r)) (array_filled (next_cell r) ws x)) (subst (λ x. Fails e (items_at (n - 1) (levels - 1) [] x)) begun h))

pub mapping_read : (n levels : ℕ) (b : Bool) (old one two three : Desk) (place : ℕ) (c : CellId) (ps : List (Value × Value)) → 0 < n → 0 < levels → begins (codes "({") (rest_of old) ≡ false → begins (codes "([") (rest_of old) ≡ true → place ≡ length old.made
    → one ≡ desk_begun b (drop 2 old.text) (content.Mapping []) old → c ≡ cell_of one.base place → (pairs_at (n - 1) (levels - 1) [] (rest_of one) ≡ Done ps (rest_of two)) × (two.base ≡ one.base) → three ≡ desk_filled place (content.Mapping ps) two
    → (cell_at n levels b (rest_of old) ≡ Done (Map c) (rest_of three)) × (three.base ≡ old.base)
mapping_read n levels b old one two three place c ps lt low a m at begins_one cell_is pairs fills =
    let r : Rest = rest_of old in
    let base1 : one.base ≡ old.base = ap (λ d. d.base) begins_one in
    let base : two.base ≡ old.base = pairs.1 ∙ base1 in
    let base3 : three.base ≡ old.base = ap (λ d. d.base) fills ∙ base in
    let begun : rest_of one ≡ cell_begun b (drop 2 r.text) (content.Mapping []) r = ap rest_of begins_one ∙ begun_is old b (drop 2 old.text) (content.Mapping []) in
    let cell : next_cell r ≡ c = next_is old ∙ ap (cell_of old.base) (sym at) ∙ ap (λ s. cell_of s place) (sym base1) ∙ sym cell_is in
    let cell2 : cell_of two.base place ≡ next_cell r = ap (λ s. cell_of s place) base ∙ ap (cell_of old.base) at ∙ sym (next_is old) in
    let filled : rest_of three ≡ mapping_filled (next_cell r) ps (rest_of two) = ap rest_of fills ∙ filled_is two place (content.Mapping ps) ∙ ap (λ x. mapping_filled x ps (rest_of two)) cell2 in (
      cell_mapping n levels b r lt low a m ∙ ap (λ x. and_then x (λ qs x. Done (Map (next_cell r)) (mapping_filled (next_cell r) qs x))) (ap (pairs_at (n - 1) (levels - 1) []) (sym begun) ∙ pairs.0)
          ∙ ap (λ x. Done (Map (next_cell r)) x) (sym filled) ∙ ap (λ x. Done (Map x) (rest_of three)) cell,
      base3,
    )

pub mapping_failed : (n levels : ℕ) (b : Bool) (old one : Desk) (e : ReadFault) → 0 < n → 0 < levels → begins (codes "({") (rest_of old) ≡ false → begins (codes "([") (rest_of old) ≡ true → one ≡ desk_begun b (drop 2 old.text) (content.Mapping []) old
    → Fails e (pairs_at (n - 1) (levels - 1) [] (rest_of one)) → Fails e (cell_at n levels b (rest_of old))
mapping_failed n levels b old one e lt low a m begins_one h =
    let r : Rest = rest_of old in
    let begun : rest_of one ≡ cell_begun b (drop 2 r.text) (content.Mapping []) r = ap rest_of begins_one ∙ begun_is old b (drop 2 old.text) (content.Mapping []) in
    let start : Rest = cell_begun b (drop 2 r.text) (content.Mapping []) r in
    fails_from e (cell_at n levels b r) (mapping_body (n - 1) (levels - 1) b r) (cell_mapping n levels b r lt low a m)
    (fails_then e (pairs_at (n - 1) (levels - 1) [] start) (λ qs x. Done (Map (next_cell r)) (mapping_filled (next_cell r) qs x)) (subst (λ x. Fails e (pairs_at (n - 1) (levels - 1) [] x)) begun h))

-- ---- items and pairs

abbrev item_body : ℕ → ℕ → List Value → Value → Rest → Found (List Value)
item_body n levels vs v r = cond (nat_lt (length vs) max_items) (and_then (or_wrong BadValue (needed (codes ",") r)) (λ x r. items_at n levels (vs ++ v ∷ []) r)) (Wrong TooLong)

pub items_step : (n levels : ℕ) (vs : List Value) (r : Rest) → 0 < n → items_at n levels vs r ≡ cond (begins (codes "})") r) (Done vs (left (drop 2 r.text) r)) (and_then (value_at (n - 1) levels r) (item_body (n - 1) levels vs))
items_step zero levels vs r lt = absurd (omega arith)
items_step (suc n) levels vs r lt =
    let less : n ≡ suc n - 1 = omega arith in ap (λ k. cond (begins (codes "})") r) (Done vs (left (drop 2 r.text) r)) (and_then (value_at k levels r) (item_body k levels vs))) less

abbrev value_body : ℕ → ℕ → List (Value × Value) → Value → Value → Rest → Found (List (Value × Value))
value_body n levels ps k v r = cond (nat_lt max_items (length (insert_entry value_eq ps k v))) (Wrong TooLong) (and_then (or_wrong BadValue (needed (codes ",") r)) (λ y r. pairs_at n levels (insert_entry value_eq ps k v) r))

abbrev pair_body : ℕ → ℕ → List (Value × Value) → Value → Rest → Found (List (Value × Value))
pair_body n levels ps k r = and_then (or_wrong BadValue (needed (codes ":") r)) (λ x r. and_then (value_at n levels r) (λ v r. value_body n levels ps k v r))

pub pairs_step : (n levels : ℕ) (ps : List (Value × Value)) (r : Rest) → 0 < n → pairs_at n levels ps r ≡ cond (begins (codes "])") r) (Done ps (left (drop 2 r.text) r)) (and_then (value_at (n - 1) levels r) (pair_body (n - 1) levels ps))
pairs_step zero levels ps r lt = absurd (omega arith)
pairs_step (suc n) levels ps r lt =
    let less : n ≡ suc n - 1 = omega arith in ap (λ k. cond (begins (codes "])") r) (Done ps (left (drop 2 r.text) r)) (and_then (value_at k levels r) (pair_body k levels ps))) less

-- What the loop over the items has found so far is `all`: what is left is read from a desk on that has the same cells that were there.
module _ (n levels : ℕ) (vs : List Value) (old now : Desk) (all : Found (List Value)) (lt : 0 < n) (so_far : all ≡ items_at n levels vs (rest_of now)) (base : now.base ≡ old.base) where
  pub items_end : (new : Desk) → begins (codes "})") (rest_of now) ≡ true → new ≡ desk_left (drop 2 now.text) now → (all ≡ Done vs (rest_of new)) × (new.base ≡ old.base)
  items_end new ends moved =
      (so_far ∙ items_step n levels vs (rest_of now) lt ∙ cond-true (begins (codes "})") (rest_of now)) _ _ ends ∙ ap (λ x. Done vs (rest_of x)) (sym moved), ap (λ d. d.base) moved ∙ base)

  next_item : begins (codes "})") (rest_of now) ≡ false → all ≡ and_then (value_at (n - 1) levels (rest_of now)) (item_body (n - 1) levels vs)
  next_item more = so_far ∙ items_step n levels vs (rest_of now) lt ∙ cond-false (begins (codes "})") (rest_of now)) _ _ more

  pub item_failed : (e : ReadFault) → begins (codes "})") (rest_of now) ≡ false → Fails e (value_at (n - 1) levels (rest_of now)) → Fails e all
  item_failed e more h = fails_from e all _ (next_item more) (fails_then e (value_at (n - 1) levels (rest_of now)) (item_body (n - 1) levels vs) h)

  item_there : (v : Value) (two : Desk) → begins (codes "})") (rest_of now) ≡ false → value_at (n - 1) levels (rest_of now) ≡ Done v (rest_of two) → all ≡ item_body (n - 1) levels vs v (rest_of two)
  item_there v two more is = next_item more ∙ ap (λ x. and_then x (item_body (n - 1) levels vs)) is

  pub items_long : (v : Value) (two : Desk) → begins (codes "})") (rest_of now) ≡ false → value_at (n - 1) levels (rest_of now) ≡ Done v (rest_of two) → max_items ≤ length vs → all ≡ Wrong TooLong
  items_long v two more is full = item_there v two more is ∙ cond-false (nat_lt (length vs) max_items) _ _ (le-ltb (length vs) max_items full)

  comma_next : (v : Value) (two : Desk) → begins (codes "})") (rest_of now) ≡ false → value_at (n - 1) levels (rest_of now) ≡ Done v (rest_of two) → length vs < max_items
      → all ≡ and_then (or_wrong BadValue (needed (codes ",") (rest_of two))) (λ x r. items_at (n - 1) levels (vs ++ v ∷ []) r)
  comma_next v two more is room = item_there v two more is ∙ cond-true (nat_lt (length vs) max_items) _ _ (lt-ltb (length vs) max_items room)

  pub comma_failed : (e : ReadFault) (v : Value) (two : Desk) → begins (codes "})") (rest_of now) ≡ false → value_at (n - 1) levels (rest_of now) ≡ Done v (rest_of two) → length vs < max_items
      → Fails e (or_wrong BadValue (needed (codes ",") (rest_of two))) → Fails e all
  comma_failed e v two more is room h = fails_from e all _ (comma_next v two more is room) (fails_then e (or_wrong BadValue (needed (codes ",") (rest_of two))) (λ x r. items_at (n - 1) levels (vs ++ v ∷ []) r) h)

  pub items_more : (k : ℕ) (v : Value) (ws : List Value) (two three : Desk) → k ≡ n - 1 → begins (codes "})") (rest_of now) ≡ false → value_at (n - 1) levels (rest_of now) ≡ Done v (rest_of two) → two.base ≡ now.base → length vs < max_items
      → or_wrong BadValue (needed (codes ",") (rest_of two)) ≡ Done tt (rest_of three) → three.base ≡ two.base → ws ≡ vs ++ v ∷ [] → (all ≡ items_at k levels ws (rest_of three)) × (three.base ≡ old.base)
  items_more k v ws two three less more is base2 room comma base3 added = (
    comma_next v two more is room ∙ ap (λ x. and_then x (λ y r. items_at (n - 1) levels (vs ++ v ∷ []) r)) comma ∙ ap (λ y. items_at (n - 1) levels y (rest_of three)) (sym added) ∙ ap (λ j. items_at j levels ws (rest_of three)) (sym less),
    base3 ∙ base2 ∙ base,
  )

-- and so the loop over the pairs
module _ (n levels : ℕ) (ps : List (Value × Value)) (old now : Desk) (all : Found (List (Value × Value))) (lt : 0 < n) (so_far : all ≡ pairs_at n levels ps (rest_of now)) (base : now.base ≡ old.base) where
  pub pairs_end : (new : Desk) → begins (codes "])") (rest_of now) ≡ true → new ≡ desk_left (drop 2 now.text) now → (all ≡ Done ps (rest_of new)) × (new.base ≡ old.base)
  pairs_end new ends moved =
      (so_far ∙ pairs_step n levels ps (rest_of now) lt ∙ cond-true (begins (codes "])") (rest_of now)) _ _ ends ∙ ap (λ x. Done ps (rest_of x)) (sym moved), ap (λ d. d.base) moved ∙ base)

  next_pair : begins (codes "])") (rest_of now) ≡ false → all ≡ and_then (value_at (n - 1) levels (rest_of now)) (pair_body (n - 1) levels ps)
  next_pair more = so_far ∙ pairs_step n levels ps (rest_of now) lt ∙ cond-false (begins (codes "])") (rest_of now)) _ _ more

  pub key_failed : (e : ReadFault) → begins (codes "])") (rest_of now) ≡ false → Fails e (value_at (n - 1) levels (rest_of now)) → Fails e all
  key_failed e more h = fails_from e all _ (next_pair more) (fails_then e (value_at (n - 1) levels (rest_of now)) (pair_body (n - 1) levels ps) h)

  -- the key is read
  module _ (key : Value) (two : Desk) (more : begins (codes "])") (rest_of now) ≡ false) (key_is : value_at (n - 1) levels (rest_of now) ≡ Done key (rest_of two)) where
    with_key : all ≡ pair_body (n - 1) levels ps key (rest_of two)
    with_key = next_pair more ∙ ap (λ x. and_then x (pair_body (n - 1) levels ps)) key_is

    pub colon_failed : (e : ReadFault) → Fails e (or_wrong BadValue (needed (codes ":") (rest_of two))) → Fails e all
    colon_failed e h = fails_from e all _ with_key (fails_then e (or_wrong BadValue (needed (codes ":") (rest_of two))) _ h)

    -- and the `:`
    module _ (three : Desk) (colon : or_wrong BadValue (needed (codes ":") (rest_of two)) ≡ Done tt (rest_of three)) where
      with_colon : all ≡ and_then (value_at (n - 1) levels (rest_of three)) (value_body (n - 1) levels ps key)
      with_colon = with_key ∙ ap (λ x. and_then x (λ y r. and_then (value_at (n - 1) levels r) (value_body (n - 1) levels ps key))) colon

      pub value_failed : (e : ReadFault) → Fails e (value_at (n - 1) levels (rest_of three)) → Fails e all
      value_failed e h = fails_from e all _ with_colon (fails_then e (value_at (n - 1) levels (rest_of three)) (value_body (n - 1) levels ps key) h)

      -- and the value
      module _ (v : Value) (four : Desk) (value_is : value_at (n - 1) levels (rest_of three) ≡ Done v (rest_of four)) (qs : List (Value × Value)) (put : qs ≡ insert_entry value_eq ps key v) where
        with_value : all ≡ cond (nat_lt max_items (length qs)) (Wrong TooLong) (and_then (or_wrong BadValue (needed (codes ",") (rest_of four))) (λ y r. pairs_at (n - 1) levels qs r))
        with_value = with_colon ∙ ap (λ x. and_then x (value_body (n - 1) levels ps key)) value_is
            ∙ ap (λ z. cond (nat_lt max_items (length z)) (Wrong TooLong) (and_then (or_wrong BadValue (needed (codes ",") (rest_of four))) (λ y r. pairs_at (n - 1) levels z r))) (sym put)

        pub pairs_long : max_items < length qs → all ≡ Wrong TooLong
        pairs_long full = with_value ∙ cond-true (nat_lt max_items (length qs)) _ _ (lt-ltb max_items (length qs) full)

        comma_behind : length qs ≤ max_items → all ≡ and_then (or_wrong BadValue (needed (codes ",") (rest_of four))) (λ y r. pairs_at (n - 1) levels qs r)
        comma_behind room = with_value ∙ cond-false (nat_lt max_items (length qs)) _ _ (le-ltb max_items (length qs) room)

        pub pair_comma_failed : (e : ReadFault) → length qs ≤ max_items → Fails e (or_wrong BadValue (needed (codes ",") (rest_of four))) → Fails e all
        pair_comma_failed e room h = fails_from e all _ (comma_behind room) (fails_then e (or_wrong BadValue (needed (codes ",") (rest_of four))) (λ y r. pairs_at (n - 1) levels qs r) h)

        pub pairs_more : (k : ℕ) (five : Desk) → k ≡ n - 1 → length qs ≤ max_items → or_wrong BadValue (needed (codes ",") (rest_of four)) ≡ Done tt (rest_of five)
            → two.base ≡ now.base → three.base ≡ two.base → four.base ≡ three.base → five.base ≡ four.base → (all ≡ pairs_at k levels qs (rest_of five)) × (five.base ≡ old.base)
        pairs_more k five less room comma base2 base3 base4 base5 =
            (comma_behind room ∙ ap (λ x. and_then x (λ y r. pairs_at (n - 1) levels qs r)) comma ∙ ap (λ j. pairs_at j levels qs (rest_of five)) (sym less), base5 ∙ base4 ∙ base3 ∙ base2 ∙ base)
