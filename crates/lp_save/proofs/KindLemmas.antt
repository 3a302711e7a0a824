-- Reading with what is wrong tells else what reading without it tells.
use Rattle.std.proofs.Common.{◌≡◌, ℕ, zero, suc, ◌+◌, ◌<◌, ◌≤◌, Bool, true, false, cond, ◌||◌, ◌&&◌, List, [], ◌∷◌, ◌++◌, length, drop, take, Option, Some, None, refl, sym, ap, ◌∙◌, arith, length-append}
use Rattle.std.specs.Prelude.{codes, chars, nat_eq, nat_lt, slice_index}
use Rattle.std.specs.List.{before_first}
use Rattle.std.specs.Str.Lossy.{utf8_valid_len}
use Rattle.std.proofs.lemmas.Bool.{cond_both, cond-true, cond-false, ltb-true, ltb-false, lt-ltb, le-ltb, ne_eqb}
use Rattle.indexmap.specs.IndexMap.{insert_entry}
use Rattle.lp_values.specs.Limits.{max_code_points, max_items}
use Rattle.lp_values.specs.Read.{value_eq}
use Rattle.lp_values.specs.declared.id.CellId.{CellId}
use Rattle.lp_values.specs.declared.value.Value.{Value}
use Rattle.lp_values.specs.declared.value.Value.TheVariants.{Arr, Map}
use Rattle.lp_cells.specs.declared.content.Content.TheVariants as content
use Rattle.lp_cells.specs.Cells.{Store}
use Rattle.lp_text.specs.Pieces.{pieces}
use Rattle.lp_save.specs.declared.fault.FaultKind.{FaultKind}
use Rattle.lp_save.specs.declared.fault.FaultKind.TheVariants.{BadHeader, BadName, BadValue, BadShare, TooLong, TooNested}
use Rattle.lp_save.specs.SaveText.{Line, Lines, Read, Faulty, Reading, Rest, array_done, as_text, all_lines, begins, cell_begun, cell_read, escaped, int_read, is_header, is_variable_name, items_read, left, line_of, line_read, lines_read, mapping_done, max_saved_levels, named, needed, next_cell, number_read, pairs_read, restored_from, restored_text, shared_cell, text_read, then_read, value_of_cell, value_read, whole}
use Rattle.lp_save.specs.Reading.{Found, Done, Wrong, TextFound, Text, NoText, LinesFound, AllLines, FaultyAt, and_then, array_filled, bytes_at, cell_at, items_at, last_at, line_at, lines_at, lines_from, mapping_filled, nothing_behind, or_wrong, outcome, outcome_of, pairs_at, spoilt, text_at, text_value, value_at, without_kind}

-- but for what is wrong
abbrev forget : {A : Type 0} → Found A → Reading A
forget (Done x r) = Some (x, r)
forget (Wrong k) = None

forget_wrong : {A : Type 0} (k : FaultKind) (m : Reading A) → forget (or_wrong k m) ≡ m
forget_wrong k None = refl
forget_wrong k (Some p) = refl

forget_then : {A B : Type 0} (m : Found A) (o : Reading A) (f : A → Rest → Found B) (g : A → Rest → Reading B) → forget m ≡ o → ((x : A) (r : Rest) → forget (f x r) ≡ g x r) → forget (and_then m f) ≡ then_read o g
forget_then (Done x r) o f g h e = e x r ∙ ap (λ y. then_read y g) h
forget_then (Wrong k) o f g h e = ap (λ y. then_read y g) h

forget_if : {A : Type 0} (b : Bool) (m n : Found A) (o p : Reading A) → forget m ≡ o → forget n ≡ p → forget (cond b m n) ≡ cond b o p
forget_if true m n o p h e = h
forget_if false m n o p h e = e

-- and then more is read
if_then : {A B : Type 0} (b : Bool) (m n : Found A) (o p : Reading A) (f : A → Rest → Found B) (g : A → Rest → Reading B) → forget (and_then m f) ≡ then_read o g → forget (and_then n f) ≡ then_read p g → forget (and_then (cond b m n) f) ≡ then_read (cond b o p) g
if_then true m n o p f g h e = h
if_then false m n o p f g h e = e

then_then : {A B C : Type 0} (m : Found A) (o : Reading A) (k : A → Rest → Found B) (l : A → Rest → Reading B) (f : B → Rest → Found C) (g : B → Rest → Reading C) → forget m ≡ o
    → ((x : A) (r : Rest) → forget (and_then (k x r) f) ≡ then_read (l x r) g) → forget (and_then (and_then m k) f) ≡ then_read (then_read o l) g
then_then (Done x r) o k l f g h e = e x r ∙ ap (λ y. then_read (then_read y l) g) h
then_then (Wrong w) o k l f g h e = ap (λ y. then_read (then_read y l) g) h

none_then : {A B C : Type 0} (m : Reading A) (f : A → Rest → Reading B) (g : B → Rest → Reading C) → ((x : A) (r : Rest) → then_read (f x r) g ≡ None) → then_read (then_read m f) g ≡ None
none_then None f g h = refl
none_then (Some p) f g h = h p.0 p.1

-- ---- texts

abbrev forget_text : TextFound → Option (List ℕ × List ℕ)
forget_text (Text t cs) = Some (t, cs)
forget_text (NoText k) = None

forget_text_if : (b : Bool) (m n : TextFound) (o p : Option (List ℕ × List ℕ)) → forget_text m ≡ o → forget_text n ≡ p → forget_text (cond b m n) ≡ cond b o p
forget_text_if true m n o p h e = h
forget_text_if false m n o p h e = e

none_if : {A : Type 0} (b : Bool) (m n : Option A) → m ≡ None → n ≡ None → cond b m n ≡ None
none_if true m n h e = h
none_if false m n h e = e

none_escaped : {A : Type 0} (o : Option ℕ) (f : ℕ → Option A) → ((d : ℕ) → f d ≡ None) → ◌≡◌ {A = Option A} (elim o [ Some d ↦ f d | None ↦ None ]) None
none_escaped None f h = refl
none_escaped (Some d) f h = h d

one_more : {A : Type 0} (n : ℕ) (xs : List A) (x : A) → n < length xs → n < length (xs ++ x ∷ [])
one_more n xs x h = let e : length (xs ++ x ∷ []) ≡ length xs + 1 = length-append xs (x ∷ []) in omega arith

at_most : {A : Type 0} (n : ℕ) (xs : List A) (x : A) → length xs < n → length (xs ++ x ∷ []) ≤ n
at_most n xs x h = let e : length (xs ++ x ∷ []) ≡ length xs + 1 = length-append xs (x ∷ []) in omega arith

above : {A : Type 0} (n : ℕ) (xs : List A) (x : A) → n ≤ length xs → n < length (xs ++ x ∷ [])
above n xs x h = let e : length (xs ++ x ∷ []) ≡ length xs + 1 = length-append xs (x ∷ []) in omega arith

-- a text that is too long already is none
text_long : (done : List ℕ) (b : Bool) (cs : List ℕ) → max_code_points < length done → text_read done b cs ≡ None
text_long done true [] h = refl
text_long done true (c ∷ cs) h = none_escaped (escaped c) (λ d. text_read (done ++ d ∷ []) false cs) (λ d. text_long (done ++ d ∷ []) false cs (one_more max_code_points done d h))
text_long done false [] h = refl
text_long done false (c ∷ cs) h =
    let other : Option (List ℕ × List ℕ) = text_read (done ++ c ∷ []) false cs in
    let third : Option (List ℕ × List ℕ) = cond (nat_eq c 13 || nat_eq c 9) None other in
    let second : Option (List ℕ × List ℕ) = cond (nat_eq c 92) (text_read done true cs) third in
    none_if (nat_eq c 34) (cond (nat_lt max_code_points (length done)) None (Some (done, cs))) second
    (cond-true (nat_lt max_code_points (length done)) None (Some (done, cs)) (lt-ltb max_code_points (length done) h))
    (none_if (nat_eq c 92) (text_read done true cs) third (text_long done true cs h)
    (none_if (nat_eq c 13 || nat_eq c 9) None other refl (text_long (done ++ c ∷ []) false cs (one_more max_code_points done c h))))

point_same : (done : List ℕ) (d : ℕ) (cs : List ℕ) → (length (done ++ d ∷ []) ≤ max_code_points → forget_text (text_at (done ++ d ∷ []) false cs) ≡ text_read (done ++ d ∷ []) false cs)
    → forget_text (cond (nat_lt (length done) max_code_points) (text_at (done ++ d ∷ []) false cs) (NoText TooLong)) ≡ text_read (done ++ d ∷ []) false cs
point_same done d cs h =
    cond_both (nat_lt (length done) max_code_points) (text_at (done ++ d ∷ []) false cs) (NoText TooLong) (λ x. forget_text x ≡ text_read (done ++ d ∷ []) false cs)
    (λ e. h (at_most max_code_points done d (ltb-true (length done) max_code_points e)))
    (λ e. sym (text_long (done ++ d ∷ []) false cs (above max_code_points done d (ltb-false (length done) max_code_points e))))

escaped_same : (o : Option ℕ) (f : ℕ → TextFound) (g : ℕ → Option (List ℕ × List ℕ)) → ((d : ℕ) → forget_text (f d) ≡ g d) → forget_text (elim o [ Some d ↦ f d | None ↦ NoText BadValue ]) ≡ elim o [ Some d ↦ g d | None ↦ None ]
escaped_same None f g h = refl
escaped_same (Some d) f g h = h d

text_same : (done : List ℕ) (b : Bool) (cs : List ℕ) → length done ≤ max_code_points → forget_text (text_at done b cs) ≡ text_read done b cs
text_same done true [] h = refl
text_same done true (c ∷ cs) h =
    escaped_same (escaped c) (λ d. cond (nat_lt (length done) max_code_points) (text_at (done ++ d ∷ []) false cs) (NoText TooLong)) (λ d. text_read (done ++ d ∷ []) false cs)
    (λ d. point_same done d cs (λ k. text_same (done ++ d ∷ []) false cs k))
text_same done false [] h = refl
text_same done false (c ∷ cs) h =
    let other : TextFound = cond (nat_lt (length done) max_code_points) (text_at (done ++ c ∷ []) false cs) (NoText TooLong) in
    let other2 : Option (List ℕ × List ℕ) = text_read (done ++ c ∷ []) false cs in
    let third : TextFound = cond (nat_eq c 13 || nat_eq c 9) (NoText BadValue) other in
    let third2 : Option (List ℕ × List ℕ) = cond (nat_eq c 13 || nat_eq c 9) None other2 in
    let second : TextFound = cond (nat_eq c 92) (text_at done true cs) third in
    let second2 : Option (List ℕ × List ℕ) = cond (nat_eq c 92) (text_read done true cs) third2 in
    forget_text_if (nat_eq c 34) (Text done cs) second (cond (nat_lt max_code_points (length done)) None (Some (done, cs))) second2
    (sym (cond-false (nat_lt max_code_points (length done)) None (Some (done, cs)) (le-ltb max_code_points (length done) h)))
    (forget_text_if (nat_eq c 92) (text_at done true cs) third (text_read done true cs) third2 (text_same done true cs h)
    (forget_text_if (nat_eq c 13 || nat_eq c 9) (NoText BadValue) other None other2 refl (point_same done c cs (λ k. text_same (done ++ c ∷ []) false cs k))))

text_value_same : (x : TextFound) (o : Option (List ℕ × List ℕ)) (r : Rest) → forget_text x ≡ o → forget (text_value x r) ≡ as_text o r
text_value_same (Text t cs) o r h = ap (λ y. as_text y r) h
text_value_same (NoText k) o r h = ap (λ y. as_text y r) h

-- ---- arrays and mappings

wrong_if : {A : Type 0} (b : Bool) (k l : FaultKind) → forget {A = A} (cond b (Wrong k) (Wrong l)) ≡ None
wrong_if true k l = refl
wrong_if false k l = refl

-- what is too long already is none
items_long : (n levels : ℕ) (vs : List Value) (r : Rest) (c : CellId) → max_items < length vs → then_read (items_read n levels vs r) (λ ws x. array_done c ws x) ≡ None
items_long zero levels vs r c h = refl
items_long (suc n) levels vs r c h =
    let done : List Value → Rest → Reading Value = λ ws x. array_done c ws x in
    let next : Value → Rest → Reading (List Value) = λ v r. then_read (needed (codes ",") r) (λ x r. items_read n levels (vs ++ v ∷ []) r) in
    let end : Rest = left (drop 2 r.text) r in
    cond_both (begins (codes "})") r) (Some (vs, end)) (then_read (value_read n levels r) next) (λ m. then_read m done ≡ None)
    (λ e. cond-true (nat_lt max_items (length vs)) None (Some (Arr c, array_filled c vs end)) (lt-ltb max_items (length vs) h))
    (λ e. none_then (value_read n levels r) next done (λ v r. none_then (needed (codes ",") r) (λ x r. items_read n levels (vs ++ v ∷ []) r) done (λ x r. items_long n levels (vs ++ v ∷ []) r c (one_more max_items vs v h))))

insert_longer : (ps : List (Value × Value)) (k v : Value) → length ps ≤ length (insert_entry value_eq ps k v)
insert_longer [] k v = omega arith
insert_longer (p ∷ ps) k v =
    cond_both (value_eq k p.0) ((p.0, v) ∷ ps) (p ∷ insert_entry value_eq ps k v) (λ x. length (p ∷ ps) ≤ length x) (λ e. omega arith) (λ e. let h = insert_longer ps k v in omega (arith, h))

pairs_long : (n levels : ℕ) (ps : List (Value × Value)) (r : Rest) (c : CellId) → max_items < length ps → then_read (pairs_read n levels ps r) (λ qs x. mapping_done c qs x) ≡ None
pairs_long zero levels ps r c h = refl
pairs_long (suc n) levels ps r c h =
    let done : List (Value × Value) → Rest → Reading Value = λ qs x. mapping_done c qs x in
    let put : Value → Value → Rest → Reading (List (Value × Value)) = λ k v r. then_read (needed (codes ",") r) (λ y r. pairs_read n levels (insert_entry value_eq ps k v) r) in
    let with_value : Value → Rest → Reading (List (Value × Value)) = λ k r. then_read (value_read n levels r) (put k) in
    let with_key : Value → Rest → Reading (List (Value × Value)) = λ k r. then_read (needed (codes ":") r) (λ x r. with_value k r) in
    let end : Rest = left (drop 2 r.text) r in
    cond_both (begins (codes "])") r) (Some (ps, end)) (then_read (value_read n levels r) with_key) (λ m. then_read m done ≡ None)
    (λ e. cond-true (nat_lt max_items (length ps)) None (Some (Map c, mapping_filled c ps end)) (lt-ltb max_items (length ps) h))
    (λ e. none_then (value_read n levels r) with_key done (λ k r. none_then (needed (codes ":") r) (λ x r. with_value k r) done (λ x r. none_then (value_read n levels r) (put k) done
    (λ v r. none_then (needed (codes ",") r) (λ y r. pairs_read n levels (insert_entry value_eq ps k v) r) done (λ y r. pairs_long n levels (insert_entry value_eq ps k v) r c (let m = insert_longer ps k v in omega (arith, m, h)))))))

mutual
  value_same : (n levels : ℕ) (r : Rest) → forget (value_at n levels r) ≡ value_read n levels r
  value_same zero levels r = refl
  value_same (suc n) levels r =
      let number : Rest = left (drop 1 r.text) r in
      let shares : ℕ → Rest → Found Value = λ k r. cond (begins (codes "=") r) (cond (nat_eq k (length r.shared + 1)) (cell_at n levels true (left (drop 1 r.text) r)) (Wrong BadShare)) (and_then (or_wrong BadShare (shared_cell k r)) (λ c r. or_wrong BadShare (value_of_cell c r))) in
      let shares2 : ℕ → Rest → Reading Value = λ k r. cond (begins (codes "=") r) (cond (nat_eq k (length r.shared + 1)) (cell_read n levels true (left (drop 1 r.text) r)) None) (then_read (shared_cell k r) value_of_cell) in
      let closes : ℕ → Rest → Found Value = λ k r. and_then (or_wrong BadValue (needed (codes ">") r)) (λ x r. shares k r) in
      let closes2 : ℕ → Rest → Reading Value = λ k r. then_read (needed (codes ">") r) (λ x r. shares2 k r) in
      let last : Found Value = cond (begins (codes "\"") r) (text_value (text_at [] false (drop 1 r.text)) r) (or_wrong BadValue (int_read r)) in
      let last2 : Reading Value = cond (begins (codes "\"") r) (as_text (text_read [] false (drop 1 r.text)) r) (int_read r) in
      forget_if (begins (codes "<") r) (and_then (or_wrong BadValue (number_read number)) closes) (cond (begins (codes "({") r || begins (codes "([") r) (cell_at n levels false r) last) (then_read (number_read number) closes2) (cond (begins (codes "({") r || begins (codes "([") r) (cell_read n levels false r) last2)
      (forget_then (or_wrong BadValue (number_read number)) (number_read number) closes closes2 (forget_wrong BadValue (number_read number)) (λ k r.
      forget_then (or_wrong BadValue (needed (codes ">") r)) (needed (codes ">") r) (λ x r. shares k r) (λ x r. shares2 k r) (forget_wrong BadValue (needed (codes ">") r)) (λ x r.
      forget_if (begins (codes "=") r) (cond (nat_eq k (length r.shared + 1)) (cell_at n levels true (left (drop 1 r.text) r)) (Wrong BadShare)) (and_then (or_wrong BadShare (shared_cell k r)) (λ c r. or_wrong BadShare (value_of_cell c r)))
      (cond (nat_eq k (length r.shared + 1)) (cell_read n levels true (left (drop 1 r.text) r)) None) (then_read (shared_cell k r) value_of_cell)
      (forget_if (nat_eq k (length r.shared + 1)) (cell_at n levels true (left (drop 1 r.text) r)) (Wrong BadShare) (cell_read n levels true (left (drop 1 r.text) r)) None (cell_same n levels true (left (drop 1 r.text) r)) refl)
      (forget_then (or_wrong BadShare (shared_cell k r)) (shared_cell k r) (λ c r. or_wrong BadShare (value_of_cell c r)) value_of_cell (forget_wrong BadShare (shared_cell k r)) (λ c r. forget_wrong BadShare (value_of_cell c r))))))
      (forget_if (begins (codes "({") r || begins (codes "([") r) (cell_at n levels false r) last (cell_read n levels false r) last2 (cell_same n levels false r)
      (forget_if (begins (codes "\"") r) (text_value (text_at [] false (drop 1 r.text)) r) (or_wrong BadValue (int_read r)) (as_text (text_read [] false (drop 1 r.text)) r) (int_read r)
      (text_value_same (text_at [] false (drop 1 r.text)) (text_read [] false (drop 1 r.text)) r (text_same [] false (drop 1 r.text) (omega arith))) (forget_wrong BadValue (int_read r))))

  cell_same : (n levels : ℕ) (b : Bool) (r : Rest) → forget (cell_at n levels b r) ≡ cell_read n levels b r
  cell_same zero levels b r = refl
  cell_same (suc n) zero b r = wrong_if (begins (codes "({") r || begins (codes "([") r) TooNested BadShare
  cell_same (suc n) (suc levels) b r =
      let c : CellId = next_cell r in
      let xs : Rest = cell_begun b (drop 2 r.text) (content.Array []) r in
      let ps : Rest = cell_begun b (drop 2 r.text) (content.Mapping []) r in
      let items : Found Value = and_then (items_at n levels [] xs) (λ vs x. Done (Arr c) (array_filled c vs x)) in
      let items2 : Reading Value = then_read (items_read n levels [] xs) (λ vs x. array_done c vs x) in
      let pairs : Found Value = and_then (pairs_at n levels [] ps) (λ qs x. Done (Map c) (mapping_filled c qs x)) in
      let pairs2 : Reading Value = then_read (pairs_read n levels [] ps) (λ qs x. mapping_done c qs x) in
      forget_if (begins (codes "({") r) items (cond (begins (codes "([") r) pairs (Wrong BadShare)) items2 (cond (begins (codes "([") r) pairs2 None)
      (items_same n levels [] xs c (omega arith)) (forget_if (begins (codes "([") r) pairs (Wrong BadShare) pairs2 None (pairs_same n levels [] ps c (omega arith)) refl)

  items_same : (n levels : ℕ) (vs : List Value) (r : Rest) (c : CellId) → length vs ≤ max_items → forget (and_then (items_at n levels vs r) (λ ws x. Done (Arr c) (array_filled c ws x))) ≡ then_read (items_read n levels vs r) (λ ws x. array_done c ws x)
  items_same zero levels vs r c h = refl
  items_same (suc n) levels vs r c h =
      let f : List Value → Rest → Found Value = λ ws x. Done (Arr c) (array_filled c ws x) in
      let g : List Value → Rest → Reading Value = λ ws x. array_done c ws x in
      let next : Value → Rest → Found (List Value) = λ v r. cond (nat_lt (length vs) max_items) (and_then (or_wrong BadValue (needed (codes ",") r)) (λ x r. items_at n levels (vs ++ v ∷ []) r)) (Wrong TooLong) in
      let next2 : Value → Rest → Reading (List Value) = λ v r. then_read (needed (codes ",") r) (λ x r. items_read n levels (vs ++ v ∷ []) r) in
      let end : Rest = left (drop 2 r.text) r in
      if_then (begins (codes "})") r) (Done vs end) (and_then (value_at n levels r) next) (Some (vs, end)) (then_read (value_read n levels r) next2) f g
      (sym (cond-false (nat_lt max_items (length vs)) None (Some (Arr c, array_filled c vs end)) (le-ltb max_items (length vs) h)))
      (then_then (value_at n levels r) (value_read n levels r) next next2 f g (value_same n levels r) (λ v r.
      cond_both (nat_lt (length vs) max_items) (and_then (or_wrong BadValue (needed (codes ",") r)) (λ x r. items_at n levels (vs ++ v ∷ []) r)) (Wrong TooLong) (λ z. forget (and_then z f) ≡ then_read (next2 v r) g)
      (λ e. then_then (or_wrong BadValue (needed (codes ",") r)) (needed (codes ",") r) (λ x r. items_at n levels (vs ++ v ∷ []) r) (λ x r. items_read n levels (vs ++ v ∷ []) r) f g (forget_wrong BadValue (needed (codes ",") r))
      (λ x r. items_same n levels (vs ++ v ∷ []) r c (at_most max_items vs v (ltb-true (length vs) max_items e))))
      (λ e. sym (none_then (needed (codes ",") r) (λ x r. items_read n levels (vs ++ v ∷ []) r) g (λ x r. items_long n levels (vs ++ v ∷ []) r c (above max_items vs v (ltb-false (length vs) max_items e)))))))

  pairs_same : (n levels : ℕ) (ps : List (Value × Value)) (r : Rest) (c : CellId) → length ps ≤ max_items → forget (and_then (pairs_at n levels ps r) (λ qs x. Done (Map c) (mapping_filled c qs x))) ≡ then_read (pairs_read n levels ps r) (λ qs x. mapping_done c qs x)
  pairs_same zero levels ps r c h = refl
  pairs_same (suc n) levels ps r c h =
      let f : List (Value × Value) → Rest → Found Value = λ qs x. Done (Map c) (mapping_filled c qs x) in
      let g : List (Value × Value) → Rest → Reading Value = λ qs x. mapping_done c qs x in
      let more : Value → Value → Rest → Found (List (Value × Value)) = λ k v r. and_then (or_wrong BadValue (needed (codes ",") r)) (λ y r. pairs_at n levels (insert_entry value_eq ps k v) r) in
      let put : Value → Value → Rest → Found (List (Value × Value)) = λ k v r. cond (nat_lt max_items (length (insert_entry value_eq ps k v))) (Wrong TooLong) (more k v r) in
      let put2 : Value → Value → Rest → Reading (List (Value × Value)) = λ k v r. then_read (needed (codes ",") r) (λ y r. pairs_read n levels (insert_entry value_eq ps k v) r) in
      let with_value : Value → Rest → Found (List (Value × Value)) = λ k r. and_then (value_at n levels r) (put k) in
      let with_value2 : Value → Rest → Reading (List (Value × Value)) = λ k r. then_read (value_read n levels r) (put2 k) in
      let with_key : Value → Rest → Found (List (Value × Value)) = λ k r. and_then (or_wrong BadValue (needed (codes ":") r)) (λ x r. with_value k r) in
      let with_key2 : Value → Rest → Reading (List (Value × Value)) = λ k r. then_read (needed (codes ":") r) (λ x r. with_value2 k r) in
      let end : Rest = left (drop 2 r.text) r in
      if_then (begins (codes "])") r) (Done ps end) (and_then (value_at n levels r) with_key) (Some (ps, end)) (then_read (value_read n levels r) with_key2) f g
      (sym (cond-false (nat_lt max_items (length ps)) None (Some (Map c, mapping_filled c ps end)) (le-ltb max_items (length ps) h)))
      (then_then (value_at n levels r) (value_read n levels r) with_key with_key2 f g (value_same n levels r) (λ k r.
      then_then (or_wrong BadValue (needed (codes ":") r)) (needed (codes ":") r) (λ x r. with_value k r) (λ x r. with_value2 k r) f g (forget_wrong BadValue (needed (codes ":") r)) (λ x r.
      then_then (value_at n levels r) (value_read n levels r) (put k) (put2 k) f g (value_same n levels r) (λ v r.
      cond_both (nat_lt max_items (length (insert_entry value_eq ps k v))) (Wrong TooLong) (more k v r) (λ z. forget (and_then z f) ≡ then_read (put2 k v r) g)
      (λ e. sym (none_then (needed (codes ",") r) (λ y r. pairs_read n levels (insert_entry value_eq ps k v) r) g (λ y r. pairs_long n levels (insert_entry value_eq ps k v) r c (ltb-true max_items (length (insert_entry value_eq ps k v)) e))))
      (λ e. then_then (or_wrong BadValue (needed (codes ",") r)) (needed (codes ",") r) (λ y r. pairs_at n levels (insert_entry value_eq ps k v) r) (λ y r. pairs_read n levels (insert_entry value_eq ps k v) r) f g (forget_wrong BadValue (needed (codes ",") r))
      (λ y r. pairs_same n levels (insert_entry value_eq ps k v) r c (ltb-false max_items (length (insert_entry value_eq ps k v)) e)))))))

-- ---- lines

whole_same : (m : Found Value) (o : Reading Value) → forget m ≡ o → forget (and_then m nothing_behind) ≡ whole o
whole_same (Done v r) o h = forget_if (nat_eq (length r.text) 0) (Done v r) (Wrong BadValue) (Some (v, r)) None refl refl ∙ ap whole h
whole_same (Wrong k) o h = ap whole h

named_same : (name : List ℕ) (m : Found Value) (o : Reading Value) → forget m ≡ o → forget (and_then m (λ v r. Done (record { name = name; value = v }) r)) ≡ named name o
named_same name (Done v r) o h = ap (named name) h
named_same name (Wrong k) o h = ap (named name) h

line_same : (t : List ℕ) (r : Rest) → forget (line_at t r) ≡ line_of t r
line_same t r =
    let name : List ℕ = before_first (λ c. nat_eq c 32) t in
    let n : ℕ = 3 + length t + length t in
    let from : Rest = left (drop (length name + 1) t) r in
    let v : Found Value = value_at n max_saved_levels from in
    let v2 : Reading Value = value_read n max_saved_levels from in
    forget_if (is_variable_name name && nat_lt (length name) (length t)) (and_then (and_then v nothing_behind) (λ v r. Done (record { name = name; value = v }) r)) (Wrong BadName) (named name (whole v2)) None
    (named_same name (and_then v nothing_behind) (whole v2) (whole_same v v2 (value_same n max_saved_levels from))) refl

spoilt_none : (m : Found Line) → forget (spoilt m) ≡ None
spoilt_none (Done x r) = refl
spoilt_none (Wrong k) = refl

bytes_same : (bytes : List ℕ) (r : Rest) → forget (bytes_at bytes r) ≡ line_read bytes r
bytes_same bytes r =
    forget_if (nat_eq (utf8_valid_len bytes) (length bytes)) (line_at (chars bytes) r) (spoilt (line_at (chars (take (utf8_valid_len bytes) bytes)) r)) (line_of (chars bytes) r) None
    (line_same (chars bytes) r) (spoilt_none (line_at (chars (take (utf8_valid_len bytes) bytes)) r))

abbrev forget_lines : LinesFound → Lines
forget_lines (AllLines ls cells) = Read ls cells
forget_lines (FaultyAt n k) = Faulty n

lines_if : (b : Bool) (m n : LinesFound) (o p : Lines) → forget_lines m ≡ o → forget_lines n ≡ p → forget_lines (cond b m n) ≡ cond b o p
lines_if true m n o p h e = h
lines_if false m n o p h e = e

faulty_either : (n : ℕ) (m : Found Line) → forget_lines (elim m [ Done x y ↦ FaultyAt n BadValue | Wrong k ↦ FaultyAt n k ]) ≡ Faulty n
faulty_either n (Done x y) = refl
faulty_either n (Wrong k) = refl

last_same : (n : ℕ) (done : List Line) (last : List ℕ) (r : Rest) → forget_lines (last_at n done last r) ≡ cond (nat_eq (length last) 0) (Read done r.cells) (Faulty n)
last_same n done last r =
    lines_if (nat_eq (length last) 0) (AllLines done r.cells) (elim (spoilt (bytes_at last r)) [ Done x y ↦ FaultyAt n BadValue | Wrong k ↦ FaultyAt n k ]) (Read done r.cells) (Faulty n) refl (faulty_either n (spoilt (bytes_at last r)))

line_then : (n : ℕ) (m : Found Line) (o : Reading Line) (f : Line → Rest → LinesFound) (g : Line × Rest → Lines) → forget m ≡ o → ((x : Line) (r : Rest) → forget_lines (f x r) ≡ g (x, r)) → forget_lines (elim m [ Done x y ↦ f x y | Wrong k ↦ FaultyAt n k ]) ≡ elim o [ Some p ↦ g p | None ↦ Faulty n ]
line_then n (Done x y) o f g h e = e x y ∙ ap (λ z. elim z [ Some p ↦ g p | None ↦ Faulty n ]) h
line_then n (Wrong k) o f g h e = ap (λ z. elim z [ Some p ↦ g p | None ↦ Faulty n ]) h

lines_same : (n : ℕ) (done : List Line) (ls : List (List ℕ)) (r : Rest) → forget_lines (lines_at n done ls r) ≡ lines_read n done ls r
lines_same n done [] r = refl
lines_same n done (last ∷ []) r = last_same n done last r
lines_same n done (l ∷ m ∷ ls) r =
    line_then n (bytes_at l r) (line_read l r) (λ x y. lines_at (n + 1) (done ++ x ∷ []) (m ∷ ls) y) (λ p. lines_read (n + 1) (done ++ p.0 ∷ []) (m ∷ ls) p.1) (bytes_same l r) (λ x y. lines_same (n + 1) (done ++ x ∷ []) (m ∷ ls) y)

all_same : (ls : List (List ℕ)) (r : Rest) → forget_lines (lines_from ls r) ≡ all_lines ls r
all_same [] r = refl
all_same ([] ∷ []) r = refl
all_same ((c ∷ cs) ∷ []) r =
    let last : cond (nat_eq (length (c ∷ cs)) 0) (Read [] r.cells) (Faulty 1) ≡ Faulty 1 = cond-false (nat_eq (length (c ∷ cs)) 0) (Read [] r.cells) (Faulty 1) (ne_eqb (length (c ∷ cs)) 0 (λ e. omega arith)) in
    cond_both (nat_eq c 35) (FaultyAt 1 BadHeader) (last_at 1 [] (c ∷ cs) r) (λ x. forget_lines x ≡ Faulty 1) (λ e. refl) (λ e. last_same 1 [] (c ∷ cs) r ∙ last) ∙ sym last
all_same (l ∷ m ∷ ls) r =
    lines_if (nat_eq (slice_index l 0) 35) (cond (is_header l) (lines_at 2 [] (m ∷ ls) r) (FaultyAt 1 BadHeader)) (lines_at 1 [] (l ∷ m ∷ ls) r) (cond (is_header l) (lines_read 2 [] (m ∷ ls) r) (Faulty 1)) (lines_read 1 [] (l ∷ m ∷ ls) r)
    (lines_if (is_header l) (lines_at 2 [] (m ∷ ls) r) (FaultyAt 1 BadHeader) (lines_read 2 [] (m ∷ ls) r) (Faulty 1) (lines_same 2 [] (m ∷ ls) r) refl) (lines_same 1 [] (l ∷ m ∷ ls) r)

outcome_same : (names : List (List ℕ)) (x : LinesFound) (y : Lines) → forget_lines x ≡ y → without_kind (outcome_of names x) ≡ restored_from names y
outcome_same names (AllLines ls cells) y h = ap (restored_from names) h
outcome_same names (FaultyAt n k) y h = ap (restored_from names) h

-- but for what is wrong, both give the same
pub kinds_same : (names : List (List ℕ)) (bytes : List ℕ) (cells : Store) → without_kind (outcome names bytes cells) ≡ restored_text names bytes cells
unfolding outcome restored_text
kinds_same names bytes cells =
    let r : Rest = record { text = []; shared = []; cells = cells } in
    outcome_same names (lines_from (pieces (codes "\n") bytes) r) (all_lines (pieces (codes "\n") bytes) r) (all_same (pieces (codes "\n") bytes) r)
