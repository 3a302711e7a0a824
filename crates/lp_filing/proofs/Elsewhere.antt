-- A saved text is read in the same way over other cells, of which there are as many: the same values come of it, and the same new cells.
use Rattle.std.proofs.Common.{◌≡◌, ℕ, zero, suc, ◌+◌, Bool, true, false, cond, ◌||◌, ◌&&◌, List, [], ◌∷◌, ◌++◌, length, drop, map, Option, Some, None, option_map, unwrap_or, refl, sym, ap, subst, ◌∙◌, arith, length-append}
use Rattle.std.specs.Prelude.{codes, chars, nat_eq, nat_lt, slice_get, slice_index, slice_set}
use Rattle.std.specs.List.{before_first}
use Rattle.std.specs.Str.Lossy.{utf8_valid_len}
use Rattle.std.proofs.lemmas.List.{append-nil}
use Rattle.std.proofs.lemmas.Option.{slice_get-map}
use Rattle.indexmap.specs.IndexMap.{insert_entry}
use Rattle.lp_values.specs.Limits.{max_items}
use Rattle.lp_values.specs.Read.{value_eq}
use Rattle.lp_values.specs.declared.id.CellId.{CellId}
use Rattle.lp_values.specs.declared.value.Value.{Value}
use Rattle.lp_values.specs.declared.value.Value.TheVariants.{Arr, Int, Map, Str}
use Rattle.lp_cells.specs.declared.content.Content.{Content}
use Rattle.lp_cells.specs.declared.content.Content.TheVariants as content
use Rattle.lp_cells.specs.Cells.{Store, content_set}
use Rattle.lp_text.specs.Pieces.{pieces}
use Rattle.lp_text.specs.Scans.{digits_number, signed}
use Rattle.lp_save.specs.Desks.{Desk, cell_of, rest_of}
use Rattle.lp_save.specs.SaveText.{Line, Lines, Read, Faulty, Reading, Rest, Restored, Values, FaultyLine, all_lines, array_done, as_text, begins, cell_begun, cell_read, digits_at, given, int_of, int_read, is_array_cell, is_header, is_number, is_variable_name, items_read, left, line_of, line_read, lines_read, mapping_done, max_saved_levels, named, needed, next_cell, number_read, pairs_read, restored_from, restored_text, shared_cell, text_read, then_read, value_of_cell, value_read, whole as whole_value}
use Rattle.lp_save.proofs.DeskLemmas.{begun_is, filled_is}

-- what reading keeps beside the cells that were there: what is left of a line, the new cells that have numbers, and the new cells
pub record Draft : Type 0 where
  pub text : List ℕ
  pub shared : List ℕ
  pub made : Store

-- over these cells
abbrev pub desk : Store → Draft → Desk
desk base d = record { base = base; text = d.text; shared = d.shared; made = d.made }

abbrev pub over : Store → Draft → Rest
over base d = rest_of (desk base d)

get_behind : {A : Type 0} (b m : List A) (i : ℕ) → slice_get (b ++ m) (length b + i) ≡ slice_get m i
get_behind [] m i = let e : 0 + i ≡ i = omega arith in ap (slice_get m) e
get_behind (y ∷ b) m i = let e : length (y ∷ b) + i ≡ suc (length b + i) = omega arith in ap (slice_get (y ∷ (b ++ m))) e ∙ get_behind b m i

abbrev begun : Bool → List ℕ → Content → Draft → Draft
begun is_shared t x d = record { text = t; shared = cond is_shared (d.shared ++ length d.made ∷ []) d.shared; made = d.made ++ Some x ∷ [] }

abbrev filled : ℕ → Content → Draft → Draft
filled i x d = record d { made = slice_set d.made i (Some x) }

abbrev moved : List ℕ → Draft → Draft
moved t d = record d { text = t }

module _ (part whole : Store) (even : length part ≡ length whole) where
  -- the same was read, over each of both
  pub record SameRead {A : Type 0} (p q : A × Rest) : Type 0 where
    pub draft : Draft
    pub value : p.0 ≡ q.0
    pub first : p.1 ≡ over part draft
    pub second : q.1 ≡ over whole draft

  abbrev pub Same : {A : Type 0} → Reading A → Reading A → Type 0
  Same None None = Unit {0}
  Same (Some p) (Some q) = SameRead p q
  Same _ _ = ⊥

  same_then : {A B : Type 0} (m n : Reading A) (f g : A → Rest → Reading B) → Same m n → ((x : A) (d : Draft) → Same (f x (over part d)) (g x (over whole d))) → Same (then_read m f) (then_read n g)
  same_then None None f g h k = tt
  same_then None (Some q) f g h k = absurd h
  same_then (Some p) None f g h k = absurd h
  same_then (Some p) (Some q) f g h k =
      subst (λ x. Same (f x p.1) (g q.0 q.1)) (sym h.value) (subst (λ y. Same (f q.0 y) (g q.0 q.1)) (sym h.first) (subst (λ y. Same (f q.0 (over part h.draft)) (g q.0 y)) (sym h.second) (k q.0 h.draft)))

  same_cond : {A : Type 0} (b : Bool) (m n o p : Reading A) → Same m o → Same n p → Same (cond b m n) (cond b o p)
  same_cond true m n o p h g = h
  same_cond false m n o p h g = g

  same_either : {A B : Type 0} (o : Option B) (f g : B → Reading A) → ((x : B) → Same (f x) (g x)) → Same (elim o [ Some x ↦ f x | None ↦ None ]) (elim o [ Some x ↦ g x | None ↦ None ])
  same_either None f g h = tt
  same_either (Some x) f g h = h x

  here : {A : Type 0} (x : A) (d : Draft) → Same (Some (x, over part d)) (Some (x, over whole d))
  here x d = record { draft = d; value = refl; first = refl; second = refl }

  needed_same : (mark : List ℕ) (d : Draft) → Same (needed mark (over part d)) (needed mark (over whole d))
  needed_same mark d =
      same_cond (begins mark (over part d)) (Some (tt, over part (moved (drop (length mark) d.text) d))) None (Some (tt, over whole (moved (drop (length mark) d.text) d))) None (here tt (moved (drop (length mark) d.text) d)) tt

  number_same : (d : Draft) → Same (number_read (over part d)) (number_read (over whole d))
  number_same d =
      let m : Draft = moved (drop (length (digits_at d.text)) d.text) d in
      let n : ℕ = digits_number (digits_at d.text) in
      same_cond (is_number (digits_at d.text)) (Some (n, over part m)) None (Some (n, over whole m)) None (here n m) tt

  int_of_same : (negative : Bool) (n : ℕ) (d : Draft) → Same (int_of negative n (over part d)) (int_of negative n (over whole d))
  int_of_same negative n d =
      same_cond (negative && nat_eq n 0) None (elim (signed negative n) [ Some i ↦ Some (Int i, over part d) | None ↦ None ]) None (elim (signed negative n) [ Some i ↦ Some (Int i, over whole d) | None ↦ None ]) tt
      (same_either (signed negative n) (λ i. Some (Int i, over part d)) (λ i. Some (Int i, over whole d)) (λ i. here (Int i) d))

  int_same : (d : Draft) → Same (int_read (over part d)) (int_read (over whole d))
  int_same d =
      let m : Draft = moved (drop 1 d.text) d in
      same_cond (begins (codes "-") (over part d)) (then_read (number_read (over part m)) (λ n r. int_of true n r)) (then_read (number_read (over part d)) (λ n r. int_of false n r))
      (then_read (number_read (over whole m)) (λ n r. int_of true n r)) (then_read (number_read (over whole d)) (λ n r. int_of false n r))
      (same_then (number_read (over part m)) (number_read (over whole m)) (λ n r. int_of true n r) (λ n r. int_of true n r) (number_same m) (int_of_same true))
      (same_then (number_read (over part d)) (number_read (over whole d)) (λ n r. int_of false n r) (λ n r. int_of false n r) (number_same d) (int_of_same false))

  text_same : (o : Option (List ℕ × List ℕ)) (d : Draft) → Same (as_text o (over part d)) (as_text o (over whole d))
  text_same None d = tt
  text_same (Some p) d = here (Str p.0) (moved p.1 d)

  -- Cells

  cell_same : (i : ℕ) → cell_of part i ≡ cell_of whole i
  cell_same i = ap (λ n. record { 0 = n + i }) even

  array_cell : (base : Store) (d : Draft) (i : ℕ) → is_array_cell (over base d).cells (cell_of base i) ≡ elim (unwrap_or (slice_get d.made i) None) [ Some x ↦ elim x [ content.Array vs ↦ true | content.Mapping ps ↦ false ] | None ↦ false ]
  array_cell base d i = ap (λ (o : Option (Option Content)). elim (unwrap_or o None) [ Some x ↦ elim x [ content.Array vs ↦ true | content.Mapping ps ↦ false ] | None ↦ false ]) (get_behind base d.made i)

  abbrev shared_value : Store → Draft → Option ℕ → Reading Value
  shared_value base d None = None
  shared_value base d (Some i) = value_of_cell (cell_of base i) (over base d)

  shared_is : (base : Store) (k : ℕ) (d : Draft) → then_read (shared_cell (suc k) (over base d)) value_of_cell ≡ shared_value base d (slice_get d.shared k)
  shared_is base k d =
      ap (λ (o : Option CellId). then_read (elim o [ Some c ↦ Some (c, over base d) | None ↦ None ]) value_of_cell) (slice_get-map (cell_of base) d.shared k) ∙ by (slice_get d.shared k)
    where
      by : (o : Option ℕ) → then_read (elim (option_map (cell_of base) o) [ Some c ↦ Some (c, over base d) | None ↦ None ]) value_of_cell ≡ shared_value base d o
      by None = refl
      by (Some i) = refl

  value_same : (d : Draft) (o : Option ℕ) → Same (shared_value part d o) (shared_value whole d o)
  value_same d None = tt
  value_same d (Some i) = record {
    draft = d;
    value = ap (λ b. cond b (Arr (cell_of part i)) (Map (cell_of part i))) (array_cell part d i ∙ sym (array_cell whole d i)) ∙ ap (λ c. cond (is_array_cell (over whole d).cells (cell_of whole i)) (Arr c) (Map c)) (cell_same i);
    first = refl;
    second = refl;
  }

  share_same : (k : ℕ) (d : Draft) → Same (then_read (shared_cell k (over part d)) value_of_cell) (then_read (shared_cell k (over whole d)) value_of_cell)
  share_same zero d = tt
  share_same (suc k) d =
      subst (λ m. Same m (then_read (shared_cell (suc k) (over whole d)) value_of_cell)) (sym (shared_is part k d)) (subst (λ m. Same (shared_value part d (slice_get d.shared k)) m) (sym (shared_is whole k d)) (value_same d (slice_get d.shared k)))

  -- a cell that was begun so, over each
  begun_over : (base : Store) (b : Bool) (t : List ℕ) (x : Content) (d : Draft) → cell_begun b t x (over base d) ≡ over base (begun b t x d)
  begun_over base b t x d = sym (begun_is (desk base d) b t x)

  next_over : (base : Store) (d : Draft) → next_cell (over base d) ≡ cell_of base (length d.made)
  next_over base d = ap (λ n. record { 0 = n }) (length-append base d.made)

  next_same : (d : Draft) → next_cell (over part d) ≡ next_cell (over whole d)
  next_same d = next_over part d ∙ cell_same (length d.made) ∙ sym (next_over whole d)

  filled_over : (base : Store) (e d : Draft) (x : Content) → record (over base d) { cells = content_set (over base d).cells (next_cell (over base e)) x } ≡ over base (filled (length e.made) x d)
  filled_over base e d x = ap (λ c. record (over base d) { cells = content_set (over base d).cells c x }) (next_over base e) ∙ sym (filled_is (desk base d) (length e.made) x)

  array_same : (e : Draft) (vs : List Value) (d : Draft) → Same (array_done (next_cell (over part e)) vs (over part d)) (array_done (next_cell (over whole e)) vs (over whole d))
  array_same e vs d =
      let c : CellId = next_cell (over part e) in
      let k : CellId = next_cell (over whole e) in
      same_cond (nat_lt max_items (length vs)) None (Some (Arr c, record (over part d) { cells = content_set (over part d).cells c (content.Array vs) })) None (Some (Arr k, record (over whole d) { cells = content_set (over whole d).cells k (content.Array vs) })) tt
      (record { draft = filled (length e.made) (content.Array vs) d; value = ap Arr (next_same e); first = filled_over part e d (content.Array vs); second = filled_over whole e d (content.Array vs) })

  mapping_same : (e : Draft) (ps : List (Value × Value)) (d : Draft) → Same (mapping_done (next_cell (over part e)) ps (over part d)) (mapping_done (next_cell (over whole e)) ps (over whole d))
  mapping_same e ps d =
      let c : CellId = next_cell (over part e) in
      let k : CellId = next_cell (over whole e) in
      same_cond (nat_lt max_items (length ps)) None (Some (Map c, record (over part d) { cells = content_set (over part d).cells c (content.Mapping ps) })) None (Some (Map k, record (over whole d) { cells = content_set (over whole d).cells k (content.Mapping ps) })) tt
      (record { draft = filled (length e.made) (content.Mapping ps) d; value = ap Map (next_same e); first = filled_over part e d (content.Mapping ps); second = filled_over whole e d (content.Mapping ps) })

  shared_count : (d : Draft) → length (over part d).shared ≡ length (over whole d).shared
  shared_count d = ap (λ n. length {A = CellId} (map (λ i. record { 0 = n + i }) d.shared)) even

  mutual
    reads_same : (n levels : ℕ) (d : Draft) → Same (value_read n levels (over part d)) (value_read n levels (over whole d))
    reads_same zero levels d = tt
    reads_same (suc n) levels d =
        let shares : ℕ → Rest → Reading Value = λ k r. cond (begins (codes "=") r) (cond (nat_eq k (length r.shared + 1)) (cell_read n levels true (left (drop 1 r.text) r)) None) (then_read (shared_cell k r) value_of_cell) in
        let closes : ℕ → Rest → Reading Value = λ k r. then_read (needed (codes ">") r) (λ x r. shares k r) in
        let others : Rest → Reading Value = λ r. cond (begins (codes "\"") r) (as_text (text_read [] false (drop 1 r.text)) r) (int_read r) in
        let m : Draft = moved (drop 1 d.text) d in
        same_cond (begins (codes "<") (over part d)) (then_read (number_read (over part m)) closes) (cond (begins (codes "({") (over part d) || begins (codes "([") (over part d)) (cell_read n levels false (over part d)) (others (over part d)))
        (then_read (number_read (over whole m)) closes) (cond (begins (codes "({") (over part d) || begins (codes "([") (over part d)) (cell_read n levels false (over whole d)) (others (over whole d)))
        (same_then (number_read (over part m)) (number_read (over whole m)) closes closes (number_same m) (λ k e.
        same_then (needed (codes ">") (over part e)) (needed (codes ">") (over whole e)) (λ x r. shares k r) (λ x r. shares k r) (needed_same (codes ">") e) (λ x f.
        same_cond (begins (codes "=") (over part f)) (cond (nat_eq k (length (over part f).shared + 1)) (cell_read n levels true (over part (moved (drop 1 f.text) f))) None) (then_read (shared_cell k (over part f)) value_of_cell)
        (cond (nat_eq k (length (over whole f).shared + 1)) (cell_read n levels true (over whole (moved (drop 1 f.text) f))) None) (then_read (shared_cell k (over whole f)) value_of_cell)
        (subst (λ c. Same (cond (nat_eq k (length (over part f).shared + 1)) (cell_read n levels true (over part (moved (drop 1 f.text) f))) None) (cond (nat_eq k (c + 1)) (cell_read n levels true (over whole (moved (drop 1 f.text) f))) None)) (shared_count f)
        (same_cond (nat_eq k (length (over part f).shared + 1)) (cell_read n levels true (over part (moved (drop 1 f.text) f))) None (cell_read n levels true (over whole (moved (drop 1 f.text) f))) None (cells_same n levels true (moved (drop 1 f.text) f)) tt))
        (share_same k f))))
        (same_cond (begins (codes "({") (over part d) || begins (codes "([") (over part d)) (cell_read n levels false (over part d)) (others (over part d)) (cell_read n levels false (over whole d)) (others (over whole d)) (cells_same n levels false d)
        (same_cond (begins (codes "\"") (over part d)) (as_text (text_read [] false (drop 1 d.text)) (over part d)) (int_read (over part d)) (as_text (text_read [] false (drop 1 d.text)) (over whole d)) (int_read (over whole d))
        (text_same (text_read [] false (drop 1 d.text)) d) (int_same d)))

    cells_same : (n levels : ℕ) (b : Bool) (d : Draft) → Same (cell_read n levels b (over part d)) (cell_read n levels b (over whole d))
    cells_same zero levels b d = tt
    cells_same (suc n) zero b d = tt
    cells_same (suc n) (suc levels) b d =
        let t : List ℕ = drop 2 d.text in
        let items : Store → Rest → Reading Value = λ base r. then_read (items_read n levels [] r) (λ vs x. array_done (next_cell (over base d)) vs x) in
        let pairs : Store → Rest → Reading Value = λ base r. then_read (pairs_read n levels [] r) (λ ps x. mapping_done (next_cell (over base d)) ps x) in
        let xs : Draft = begun b t (content.Array []) d in
        let ps : Draft = begun b t (content.Mapping []) d in
        same_cond (begins (codes "({") (over part d)) (items part (cell_begun b t (content.Array []) (over part d))) (cond (begins (codes "([") (over part d)) (pairs part (cell_begun b t (content.Mapping []) (over part d))) None)
        (items whole (cell_begun b t (content.Array []) (over whole d))) (cond (begins (codes "([") (over part d)) (pairs whole (cell_begun b t (content.Mapping []) (over whole d))) None)
        (subst (λ r. Same (items part r) (items whole (cell_begun b t (content.Array []) (over whole d)))) (sym (begun_over part b t (content.Array []) d)) (subst (λ r. Same (items part (over part xs)) (items whole r)) (sym (begun_over whole b t (content.Array []) d))
        (same_then (items_read n levels [] (over part xs)) (items_read n levels [] (over whole xs)) (λ vs x. array_done (next_cell (over part d)) vs x) (λ vs x. array_done (next_cell (over whole d)) vs x) (items_same n levels [] xs) (λ vs e. array_same d vs e))))
        (same_cond (begins (codes "([") (over part d)) (pairs part (cell_begun b t (content.Mapping []) (over part d))) None (pairs whole (cell_begun b t (content.Mapping []) (over whole d))) None
        (subst (λ r. Same (pairs part r) (pairs whole (cell_begun b t (content.Mapping []) (over whole d)))) (sym (begun_over part b t (content.Mapping []) d)) (subst (λ r. Same (pairs part (over part ps)) (pairs whole r)) (sym (begun_over whole b t (content.Mapping []) d))
        (same_then (pairs_read n levels [] (over part ps)) (pairs_read n levels [] (over whole ps)) (λ qs x. mapping_done (next_cell (over part d)) qs x) (λ qs x. mapping_done (next_cell (over whole d)) qs x) (pairs_same n levels [] ps) (λ qs e. mapping_same d qs e)))) tt)

    items_same : (n levels : ℕ) (vs : List Value) (d : Draft) → Same (items_read n levels vs (over part d)) (items_read n levels vs (over whole d))
    items_same zero levels vs d = tt
    items_same (suc n) levels vs d =
        let more : Value → Rest → Reading (List Value) = λ v r. then_read (needed (codes ",") r) (λ x r. items_read n levels (vs ++ v ∷ []) r) in
        let m : Draft = moved (drop 2 d.text) d in
        same_cond (begins (codes "})") (over part d)) (Some (vs, over part m)) (then_read (value_read n levels (over part d)) more) (Some (vs, over whole m)) (then_read (value_read n levels (over whole d)) more) (here vs m)
        (same_then (value_read n levels (over part d)) (value_read n levels (over whole d)) more more (reads_same n levels d) (λ v e.
        same_then (needed (codes ",") (over part e)) (needed (codes ",") (over whole e)) (λ x r. items_read n levels (vs ++ v ∷ []) r) (λ x r. items_read n levels (vs ++ v ∷ []) r) (needed_same (codes ",") e) (λ x f.
        items_same n levels (vs ++ v ∷ []) f)))

    pairs_same : (n levels : ℕ) (ps : List (Value × Value)) (d : Draft) → Same (pairs_read n levels ps (over part d)) (pairs_read n levels ps (over whole d))
    pairs_same zero levels ps d = tt
    pairs_same (suc n) levels ps d =
        let put : Value → Value → Rest → Reading (List (Value × Value)) = λ k v r. then_read (needed (codes ",") r) (λ y r. pairs_read n levels (insert_entry value_eq ps k v) r) in
        let with_value : Value → Rest → Reading (List (Value × Value)) = λ k r. then_read (value_read n levels r) (put k) in
        let with_key : Value → Rest → Reading (List (Value × Value)) = λ k r. then_read (needed (codes ":") r) (λ x r. with_value k r) in
        let m : Draft = moved (drop 2 d.text) d in
        same_cond (begins (codes "])") (over part d)) (Some (ps, over part m)) (then_read (value_read n levels (over part d)) with_key) (Some (ps, over whole m)) (then_read (value_read n levels (over whole d)) with_key) (here ps m)
        (same_then (value_read n levels (over part d)) (value_read n levels (over whole d)) with_key with_key (reads_same n levels d) (λ k e.
        same_then (needed (codes ":") (over part e)) (needed (codes ":") (over whole e)) (λ x r. with_value k r) (λ x r. with_value k r) (needed_same (codes ":") e) (λ x f.
        same_then (value_read n levels (over part f)) (value_read n levels (over whole f)) (put k) (put k) (reads_same n levels f) (λ v i.
        same_then (needed (codes ",") (over part i)) (needed (codes ",") (over whole i)) (λ y r. pairs_read n levels (insert_entry value_eq ps k v) r) (λ y r. pairs_read n levels (insert_entry value_eq ps k v) r) (needed_same (codes ",") i) (λ y j.
        pairs_same n levels (insert_entry value_eq ps k v) j)))))

  -- Lines

  whole_same : (m n : Reading Value) → Same m n → Same (whole_value m) (whole_value n)
  whole_same None None h = tt
  whole_same None (Some q) h = absurd h
  whole_same (Some p) None h = absurd h
  whole_same (Some p) (Some q) h =
      subst (λ c. Same (cond (nat_eq (length p.1.text) 0) (Some p) None) (cond (nat_eq (length c) 0) (Some q) None)) (ap (λ r. r.text) h.first ∙ sym (ap (λ r. r.text) h.second))
      (same_cond (nat_eq (length p.1.text) 0) (Some p) None (Some q) None h tt)

  named_same : (name : List ℕ) (m n : Reading Value) → Same m n → Same (named name m) (named name n)
  named_same name None None h = tt
  named_same name None (Some q) h = absurd h
  named_same name (Some p) None h = absurd h
  named_same name (Some p) (Some q) h = record { draft = h.draft; value = ap (λ v. record { name = name; value = v }) h.value; first = h.first; second = h.second }

  line_of_same : (t : List ℕ) (d : Draft) → Same (line_of t (over part d)) (line_of t (over whole d))
  line_of_same t d =
      let name : List ℕ = before_first (λ c. nat_eq c 32) t in
      let m : Draft = moved (drop (length name + 1) t) d in
      let n : ℕ = 3 + length t + length t in
      same_cond (is_variable_name name && nat_lt (length name) (length t)) (named name (whole_value (value_read n max_saved_levels (over part m)))) None (named name (whole_value (value_read n max_saved_levels (over whole m)))) None
      (named_same name (whole_value (value_read n max_saved_levels (over part m))) (whole_value (value_read n max_saved_levels (over whole m)))
      (whole_same (value_read n max_saved_levels (over part m)) (value_read n max_saved_levels (over whole m)) (reads_same n max_saved_levels m))) tt

  line_same : (bytes : List ℕ) (d : Draft) → Same (line_read bytes (over part d)) (line_read bytes (over whole d))
  line_same bytes d = same_cond (nat_eq (utf8_valid_len bytes) (length bytes)) (line_of (chars bytes) (over part d)) None (line_of (chars bytes) (over whole d)) None (line_of_same (chars bytes) d) tt

  -- the same lines, with the same new cells; or the same one is faulty
  record SameCells (a b : Store) : Type 0 where
    made : Store
    first : a ≡ part ++ made
    second : b ≡ whole ++ made

  abbrev SameLines : Lines → Lines → Type 0
  SameLines (Read ls a) (Read ks b) = (ls ≡ ks) × SameCells a b
  SameLines (Faulty n) (Faulty m) = n ≡ m
  SameLines _ _ = ⊥

  lines_cond : (b : Bool) (m n o p : Lines) → SameLines m o → SameLines n p → SameLines (cond b m n) (cond b o p)
  lines_cond true m n o p h g = h
  lines_cond false m n o p h g = g

  line_then : (n : ℕ) (m o : Reading Line) (f : Line × Rest → Lines) → Same m o → ((x : Line) (d : Draft) → SameLines (f (x, over part d)) (f (x, over whole d))) → SameLines (elim m [ Some p ↦ f p | None ↦ Faulty n ]) (elim o [ Some p ↦ f p | None ↦ Faulty n ])
  line_then n None None f h k = refl
  line_then n None (Some q) f h k = absurd h
  line_then n (Some p) None f h k = absurd h
  line_then n (Some p) (Some q) f h k =
      subst (λ x. SameLines (f (x, p.1)) (f q)) (sym h.value) (subst (λ y. SameLines (f (q.0, y)) (f q)) (sym h.first) (subst (λ y. SameLines (f (q.0, over part h.draft)) (f (q.0, y))) (sym h.second) (k q.0 h.draft)))

  all_read : (ls : List Line) (d : Draft) → SameLines (Read ls (over part d).cells) (Read ls (over whole d).cells)
  all_read ls d = (refl, record { made = d.made; first = refl; second = refl })

  lines_same : (n : ℕ) (done : List Line) (ls : List (List ℕ)) (d : Draft) → SameLines (lines_read n done ls (over part d)) (lines_read n done ls (over whole d))
  lines_same n done [] d = all_read done d
  lines_same n done (l ∷ []) d = lines_cond (nat_eq (length l) 0) (Read done (over part d).cells) (Faulty n) (Read done (over whole d).cells) (Faulty n) (all_read done d) refl
  lines_same n done (l ∷ m ∷ ls) d =
      line_then n (line_read l (over part d)) (line_read l (over whole d)) (λ p. lines_read (n + 1) (done ++ p.0 ∷ []) (m ∷ ls) p.1) (line_same l d) (λ x e. lines_same (n + 1) (done ++ x ∷ []) (m ∷ ls) e)

  all_same : (ls : List (List ℕ)) (d : Draft) → SameLines (all_lines ls (over part d)) (all_lines ls (over whole d))
  all_same [] d = all_read [] d
  all_same (l ∷ []) d = lines_cond (nat_eq (length l) 0) (Read [] (over part d).cells) (Faulty 1) (Read [] (over whole d).cells) (Faulty 1) (all_read [] d) refl
  all_same (l ∷ m ∷ ls) d =
      lines_cond (nat_eq (slice_index l 0) 35) (cond (is_header l) (lines_read 2 [] (m ∷ ls) (over part d)) (Faulty 1)) (lines_read 1 [] (l ∷ m ∷ ls) (over part d)) (cond (is_header l) (lines_read 2 [] (m ∷ ls) (over whole d)) (Faulty 1)) (lines_read 1 [] (l ∷ m ∷ ls) (over whole d))
      (lines_cond (is_header l) (lines_read 2 [] (m ∷ ls) (over part d)) (Faulty 1) (lines_read 2 [] (m ∷ ls) (over whole d)) (Faulty 1) (lines_same 2 [] (m ∷ ls) d) refl) (lines_same 1 [] (l ∷ m ∷ ls) d)

  -- what is restored
  pub record SameValues (vs us : List (Option Value)) (a b : Store) : Type 0 where
    pub values : vs ≡ us
    pub made : Store
    pub first : a ≡ part ++ made
    pub second : b ≡ whole ++ made

  abbrev pub SameRestored : Restored → Restored → Type 0
  SameRestored (Values vs a) (Values us b) = SameValues vs us a b
  SameRestored (FaultyLine n) (FaultyLine m) = n ≡ m
  SameRestored _ _ = ⊥

  from_same : (names : List (List ℕ)) (x y : Lines) → SameLines x y → SameRestored (restored_from names x) (restored_from names y)
  from_same names (Read ls a) (Read ks b) h = record { values = ap (given [] names) h.0; made = h.1.made; first = h.1.first; second = h.1.second }
  from_same names (Read ls a) (Faulty m) h = absurd h
  from_same names (Faulty n) (Read ks b) h = absurd h
  from_same names (Faulty n) (Faulty m) h = h

  no_more : (base : Store) → record { text = []; shared = []; cells = base } ≡ over base (record { text = []; shared = []; made = [] })
  no_more base = ap (λ cells. record { text = []; shared = []; cells = cells }) (sym (append-nil base))

  pub restored_same : (names : List (List ℕ)) (bytes : List ℕ) → SameRestored (restored_text names bytes part) (restored_text names bytes whole)
  unfolding restored_text
  restored_same names bytes =
      let d : Draft = record { text = []; shared = []; made = [] } in
      let ls : List (List ℕ) = pieces (codes "\n") bytes in
      subst (λ (r : Rest). SameRestored (restored_from names (all_lines ls r)) (restored_from names (all_lines ls (record { text = []; shared = []; cells = whole })))) (sym (no_more part))
      (subst (λ (r : Rest). SameRestored (restored_from names (all_lines ls (over part d))) (restored_from names (all_lines ls r))) (sym (no_more whole))
      (from_same names (all_lines ls (over part d)) (all_lines ls (over whole d)) (all_same ls d)))

  values_from : (names : List (List ℕ)) (bytes : List ℕ) (vs : List (Option Value)) (a : Store) (y : Restored) → SameRestored (Values vs a) y → (made : Store) × (a ≡ part ++ made) × (y ≡ Values vs (whole ++ made))
  values_from names bytes vs a (Values us b) h = (h.made, h.first, ap (λ s. Values us s) h.second ∙ ap (λ x. Values x (whole ++ h.made)) (sym h.values))
  values_from names bytes vs a (FaultyLine n) h = absurd h

  fault_from : (n : ℕ) (y : Restored) → SameRestored (FaultyLine n) y → y ≡ FaultyLine n
  fault_from n (Values us b) h = absurd h
  fault_from n (FaultyLine m) h = ap FaultyLine (sym h)

  -- the same values come of a text, and the same new cells behind those that were there
  pub values_elsewhere : (names : List (List ℕ)) (bytes : List ℕ) (vs : List (Option Value)) (a : Store) → restored_text names bytes part ≡ Values vs a → (made : Store) × (a ≡ part ++ made) × (restored_text names bytes whole ≡ Values vs (whole ++ made))
  values_elsewhere names bytes vs a e = values_from names bytes vs a (restored_text names bytes whole) (subst (λ x. SameRestored x (restored_text names bytes whole)) e (restored_same names bytes))

  -- the same line is faulty
  pub fault_elsewhere : (names : List (List ℕ)) (bytes : List ℕ) (n : ℕ) → restored_text names bytes part ≡ FaultyLine n → restored_text names bytes whole ≡ FaultyLine n
  fault_elsewhere names bytes n e = fault_from n (restored_text names bytes whole) (subst (λ x. SameRestored x (restored_text names bytes whole)) e (restored_same names bytes))
