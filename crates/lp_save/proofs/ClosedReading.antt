-- What is read names what is there, what was there stays there, and closed cells stay closed.
use Rattle.std.proofs.Common.{◌≡◌, ℕ, zero, suc, ◌+◌, Bool, true, false, cond, ◌||◌, ◌&&◌, List, [], ◌∷◌, ◌++◌, length, drop, Option, Some, None, unwrap_or, refl, sym, ap, subst, ◌∙◌, IsSome, is_some, ◌⊎◌, inl, inr}
use Rattle.std.specs.declared.alloc.Global.{Global}
use Rattle.lp_save.specs.declared.fault.RestoreFault.{RestoreFault}
use Rattle.lp_save.specs.declared.fault.RestoreFault.TheVariants as restoring
use Rattle.lp_save.specs.Desks.{Restores}
use Rattle.lp_save.specs.Reading.{outcome, without_kind}
use Rattle.lp_save.proofs.KindLemmas.{kinds_same}
use Rattle.std.specs.Prelude.{Result, Ok, Err, Vec, IfOk, All, IfSome, codes, chars, nat_eq, nat_lt, slice_get, slice_index, bytes_eq}
use Rattle.std.specs.List.{before_first}
use Rattle.std.specs.Str.Lossy.{utf8_valid_len}
use Rattle.std.proofs.lemmas.List.Elements.{All-nil, All-cons, All-head, All-tail, All-push, All-filter, All-weaker}
use Rattle.indexmap.specs.IndexMap.{insert_entry}
use Rattle.lp_values.specs.Limits.{max_items}
use Rattle.lp_values.specs.Read.{value_eq}
use Rattle.lp_values.specs.declared.id.CellId.{CellId}
use Rattle.lp_values.specs.declared.value.Value.{Value}
use Rattle.lp_values.specs.declared.value.Value.TheVariants.{Arr, Int, Map}
use Rattle.lp_cells.specs.declared.content.Content.{Content}
use Rattle.lp_cells.specs.declared.content.Content.TheVariants as content
use Rattle.lp_cells.specs.declared.content.Kind.TheVariants as kind
use Rattle.lp_cells.specs.Cells.{AreThere, IsClosed, IsPairThere, IsThere, KeepsThere, Store, as_items, as_pairs, content_at, content_set, kind_of, with_cell}
use Rattle.lp_cells.proofs.ClosedLemmas.{closed_set, closed_with_cell, insert_there, there_set, there_with_cell}
use Rattle.lp_text.specs.Pieces.{pieces}
use Rattle.lp_text.specs.Scans.{digits_number, signed}
use Rattle.lp_save.specs.SaveText.{Line, Lines, Read, Faulty, Reading, Rest, Restored, Values, FaultyLine, all_lines, array_done, as_text, begins, cell_begun, cell_read, count_in, digits_at, given, int_of, int_read, is_header, is_number, is_variable_name, items_read, left, line_of, line_read, lines_of, lines_read, mapping_done, max_saved_levels, named, needed, next_cell, number_read, pairs_read, restored_from, restored_text, shared_cell, text_read, then_read, value_at, value_of_cell, value_read, whole}

-- a cell is there, an array or a mapping
abbrev Named : Store → CellId → Type 0
Named cells c = IsThere cells (Arr c) ⊎ IsThere cells (Map c)

named_kept : (old new : Store) → KeepsThere old new → (c : CellId) → Named old c → Named new c
named_kept old new k c h = elim h [ inl x ↦ inl (k (Arr c) x) | inr y ↦ inr (k (Map c) y) ]

-- what was there stays there, cells that were closed are closed, and cells with numbers are there
record Follows (r x : Rest) : Type 0 where
  stay : KeepsThere r.cells x.cells
  closed : IsClosed r.cells → IsClosed x.cells
  named : All (Named x.cells) x.shared

follows_both : (r y z : Rest) → Follows r y → Follows y z → Follows r z
follows_both r y z h g = record { stay = λ v t. g.stay v (h.stay v t); closed = λ t. g.closed (h.closed t); named = g.named }

follows_left : (r : Rest) (t : List ℕ) → All (Named r.cells) r.shared → Follows r (left t r)
follows_left r t h = record { stay = λ v s. s; closed = λ s. s; named = h }

-- what was read, and what follows
abbrev Well : {A : Type 0} → (Store → A → Type 0) → Rest → Reading A → Type 0
Well P r None = Unit {0}
Well P r (Some p) = Follows r p.1 × P p.1.cells p.0

abbrev Any : {A : Type 0} → Store → A → Type 0
Any cells x = Unit {0}

abbrev AllThere : Store → List Value → Type 0
AllThere cells vs = All (IsThere cells) vs

abbrev PairsThere : Store → List (Value × Value) → Type 0
PairsThere cells ps = All (IsPairThere cells) ps

well_from : {A : Type 0} (P : Store → A → Type 0) (r y : Rest) (m : Reading A) → Follows r y → Well P y m → Well P r m
well_from P r y None h g = tt
well_from P r y (Some p) h g = (follows_both r y p.1 h g.0, g.1)

well_then : {A B : Type 0} (P : Store → A → Type 0) (Q : Store → B → Type 0) (r : Rest) (m : Reading A) (go : A → Rest → Reading B) → Well P r m → ((x : A) (y : Rest) → Follows r y → P y.cells x → Well Q y (go x y)) → Well Q r (then_read m go)
well_then P Q r None go h g = tt
well_then P Q r (Some p) go h g = well_from Q r p.1 (go p.0 p.1) h.0 (g p.0 p.1 h.0 h.1)

well_cond : {A : Type 0} (P : Store → A → Type 0) (r : Rest) (b : Bool) (m n : Reading A) → Well P r m → Well P r n → Well P r (cond b m n)
well_cond P r true m n h g = h
well_cond P r false m n h g = g

well_either : {A B : Type 0} (P : Store → A → Type 0) (r : Rest) (o : Option B) (some : B → Reading A) → ((x : B) → Well P r (some x)) → Well P r (elim o [ Some x ↦ some x | None ↦ None ])
well_either P r None some g = tt
well_either P r (Some x) some g = g x

needed_well : (mark : List ℕ) (r : Rest) → All (Named r.cells) r.shared → Well Any r (needed mark r)
needed_well mark r h = well_cond Any r (begins mark r) (Some (tt, left (drop (length mark) r.text) r)) None (follows_left r (drop (length mark) r.text) h, tt) tt

number_well : (r : Rest) → All (Named r.cells) r.shared → Well Any r (number_read r)
number_well r h =
    well_cond Any r (is_number (digits_at r.text)) (Some (digits_number (digits_at r.text), left (drop (length (digits_at r.text)) r.text) r)) None (follows_left r (drop (length (digits_at r.text)) r.text) h, tt) tt

int_of_well : (negative : Bool) (n : ℕ) (r : Rest) → All (Named r.cells) r.shared → Well IsThere r (int_of negative n r)
int_of_well negative n r h =
    well_cond IsThere r (negative && nat_eq n 0) None (elim (signed negative n) [ Some i ↦ Some (Int i, r) | None ↦ None ]) tt (well_either IsThere r (signed negative n) (λ i. Some (Int i, r)) (λ i. (follows_left r r.text h, tt)))

int_well : (r : Rest) → All (Named r.cells) r.shared → Well IsThere r (int_read r)
int_well r h =
    let behind : Rest = left (drop 1 r.text) r in
    well_cond IsThere r (begins (codes "-") r) (then_read (number_read behind) (λ n r. int_of true n r)) (then_read (number_read r) (λ n r. int_of false n r))
    (well_from IsThere r behind (then_read (number_read behind) (λ n r. int_of true n r)) (follows_left r (drop 1 r.text) h)
    (well_then Any IsThere behind (number_read behind) (λ n r. int_of true n r) (number_well behind h) (λ n y f t. int_of_well true n y f.named)))
    (well_then Any IsThere r (number_read r) (λ n r. int_of false n r) (number_well r h) (λ n y f t. int_of_well false n y f.named))

text_well : (o : Option (List ℕ × List ℕ)) (r : Rest) → All (Named r.cells) r.shared → Well IsThere r (as_text o r)
text_well None r h = tt
text_well (Some p) r h = (follows_left r p.1 h, tt)

-- ---- cells with numbers

at_of : {X : Type 0} (P : X → Type 0) (xs : List X) (k : ℕ) (x : X) → slice_get xs k ≡ Some x → All P xs → P x
at_of P [] k x e h = cc
at_of P (y ∷ ys) zero x e h = subst P (let s : y ≡ x = cc in s) (All-head P y ys h)
at_of P (y ∷ ys) (suc k) x e h = at_of P ys k x e (All-tail P y ys h)

share_at : (r : Rest) (k : ℕ) → All (Named r.cells) r.shared → (o : Option CellId) → slice_get r.shared k ≡ o → Well Named r (elim o [ Some c ↦ Some (c, r) | None ↦ None ])
share_at r k h None e = tt
share_at r k h (Some c) e = (follows_left r r.text h, at_of (Named r.cells) r.shared k c e h)

share_well : (k : ℕ) (r : Rest) → All (Named r.cells) r.shared → Well Named r (shared_cell k r)
share_well zero r h = tt
share_well (suc k) r h = share_at r k h (slice_get r.shared k) refl

abbrev is_array : Option Content → Bool
is_array o = elim o [ Some x ↦ elim x [ content.Array vs ↦ true | content.Mapping ps ↦ false ] | None ↦ false ]

value_there : (cells : Store) (c : CellId) (o : Option Content) → content_at cells c ≡ o → IsSome (as_items o) ⊎ IsSome (as_pairs o) → IsThere cells (cond (is_array o) (Arr c) (Map c))
value_there cells c (Some (content.Array vs)) e h = ap (λ o. is_some (as_items o)) e
value_there cells c (Some (content.Mapping ps)) e h = ap (λ o. is_some (as_pairs o)) e
value_there cells c None e h = elim h [ inl x ↦ cc | inr y ↦ cc ]

value_of_well : (c : CellId) (r : Rest) → All (Named r.cells) r.shared → Named r.cells c → Well IsThere r (value_of_cell c r)
value_of_well c r h t = (follows_left r r.text h, value_there r.cells c (content_at r.cells c) refl t)

-- ---- a cell begins, and what it holds is put into it

last_of : {A : Type 0} (xs : List A) (x : A) → slice_get (xs ++ x ∷ []) (length xs) ≡ Some x
last_of [] x = refl
last_of (y ∷ xs) x = last_of xs x

new_array : (r : Rest) (vs : List Value) → IsThere (with_cell r.cells (content.Array vs)) (Arr (next_cell r))
new_array r vs = ap (λ o. is_some (as_items (unwrap_or o None))) (last_of r.cells (Some (content.Array vs)))

new_mapping : (r : Rest) (ps : List (Value × Value)) → IsThere (with_cell r.cells (content.Mapping ps)) (Map (next_cell r))
new_mapping r ps = ap (λ o. is_some (as_pairs (unwrap_or o None))) (last_of r.cells (Some (content.Mapping ps)))

begun_follows : (b : Bool) (t : List ℕ) (x : Content) (r : Rest) → All (Named r.cells) r.shared → AreThere r.cells x → Named (with_cell r.cells x) (next_cell r) → Follows r (cell_begun b t x r)
begun_follows true t x r h a n = record {
  stay = there_with_cell r.cells x;
  closed = λ s. closed_with_cell r.cells x s a;
  named = All-push (Named (with_cell r.cells x)) r.shared (next_cell r) (All-weaker (Named r.cells) (Named (with_cell r.cells x)) (named_kept r.cells (with_cell r.cells x) (there_with_cell r.cells x)) r.shared h) n;
}
begun_follows false t x r h a n = record {
  stay = there_with_cell r.cells x;
  closed = λ s. closed_with_cell r.cells x s a;
  named = All-weaker (Named r.cells) (Named (with_cell r.cells x)) (named_kept r.cells (with_cell r.cells x) (there_with_cell r.cells x)) r.shared h;
}

array_kind : (o : Option Content) → IsSome (as_items o) → kind_of o ≡ kind.Array
array_kind (Some (content.Array vs)) h = refl
array_kind (Some (content.Mapping ps)) h = cc
array_kind None h = cc

mapping_kind : (o : Option Content) → IsSome (as_pairs o) → kind_of o ≡ kind.Mapping
mapping_kind (Some (content.Array vs)) h = cc
mapping_kind (Some (content.Mapping ps)) h = refl
mapping_kind None h = cc

filled_follows : (x : Rest) (c : CellId) (y : Content) → All (Named x.cells) x.shared → kind_of (content_at x.cells c) ≡ kind_of (Some y) → AreThere x.cells y → Follows x (record x { cells = content_set x.cells c y })
filled_follows x c y h k a = record {
  stay = there_set x.cells c y k;
  closed = λ s. closed_set x.cells c y k s a;
  named = All-weaker (Named x.cells) (Named (content_set x.cells c y)) (named_kept x.cells (content_set x.cells c y) (there_set x.cells c y k)) x.shared h;
}

array_well : (c : CellId) (vs : List Value) (x : Rest) → All (Named x.cells) x.shared → IsThere x.cells (Arr c) → All (IsThere x.cells) vs → Well IsThere x (array_done c vs x)
array_well c vs x h t a =
    let k = array_kind (content_at x.cells c) t in
    let f : Follows x (record x { cells = content_set x.cells c (content.Array vs) }) = filled_follows x c (content.Array vs) h k a in
    well_cond IsThere x (nat_lt max_items (length vs)) None (Some (Arr c, record x { cells = content_set x.cells c (content.Array vs) })) tt (f, f.stay (Arr c) t)

mapping_well : (c : CellId) (ps : List (Value × Value)) (x : Rest) → All (Named x.cells) x.shared → IsThere x.cells (Map c) → All (IsPairThere x.cells) ps → Well IsThere x (mapping_done c ps x)
mapping_well c ps x h t a =
    let k = mapping_kind (content_at x.cells c) t in
    let f : Follows x (record x { cells = content_set x.cells c (content.Mapping ps) }) = filled_follows x c (content.Mapping ps) h k a in
    well_cond IsThere x (nat_lt max_items (length ps)) None (Some (Map c, record x { cells = content_set x.cells c (content.Mapping ps) })) tt (f, f.stay (Map c) t)

there_more : (r y : Rest) (vs : List Value) (v : Value) → Follows r y → All (IsThere r.cells) vs → IsThere y.cells v → All (IsThere y.cells) (vs ++ v ∷ [])
there_more r y vs v f h t = All-push (IsThere y.cells) vs v (All-weaker (IsThere r.cells) (IsThere y.cells) f.stay vs h) t

pairs_kept : (r y : Rest) (ps : List (Value × Value)) → Follows r y → All (IsPairThere r.cells) ps → All (IsPairThere y.cells) ps
pairs_kept r y ps f h = All-weaker (IsPairThere r.cells) (IsPairThere y.cells) (λ p t. (f.stay p.0 t.0, f.stay p.1 t.1)) ps h

mutual
  value_well : (n levels : ℕ) (r : Rest) → All (Named r.cells) r.shared → Well IsThere r (value_read n levels r)
  value_well zero levels r h = tt
  value_well (suc n) levels r h =
      let number : Rest = left (drop 1 r.text) r in
      let shares : ℕ → Rest → Reading Value = λ k r. cond (begins (codes "=") r) (cond (nat_eq k (length r.shared + 1)) (cell_read n levels true (left (drop 1 r.text) r)) None) (then_read (shared_cell k r) value_of_cell) in
      let closes : ℕ → Rest → Reading Value = λ k r. then_read (needed (codes ">") r) (λ x r. shares k r) in
      let others : Reading Value = cond (begins (codes "\"") r) (as_text (text_read [] false (drop 1 r.text)) r) (int_read r) in
      well_cond IsThere r (begins (codes "<") r) (then_read (number_read number) closes) (cond (begins (codes "({") r || begins (codes "([") r) (cell_read n levels false r) others)
      (well_from IsThere r number (then_read (number_read number) closes) (follows_left r (drop 1 r.text) h)
      (well_then Any IsThere number (number_read number) closes (number_well number h) (λ k y f t.
      well_then Any IsThere y (needed (codes ">") y) (λ x r. shares k r) (needed_well (codes ">") y f.named) (λ x z g t.
      well_cond IsThere z (begins (codes "=") z) (cond (nat_eq k (length z.shared + 1)) (cell_read n levels true (left (drop 1 z.text) z)) None) (then_read (shared_cell k z) value_of_cell)
      (well_cond IsThere z (nat_eq k (length z.shared + 1)) (cell_read n levels true (left (drop 1 z.text) z)) None
      (well_from IsThere z (left (drop 1 z.text) z) (cell_read n levels true (left (drop 1 z.text) z)) (follows_left z (drop 1 z.text) g.named) (cell_well n levels true (left (drop 1 z.text) z) g.named)) tt)
      (well_then Named IsThere z (shared_cell k z) value_of_cell (share_well k z g.named) (λ c u i t. value_of_well c u i.named t))))))
      (well_cond IsThere r (begins (codes "({") r || begins (codes "([") r) (cell_read n levels false r) others (cell_well n levels false r h)
      (well_cond IsThere r (begins (codes "\"") r) (as_text (text_read [] false (drop 1 r.text)) r) (int_read r) (text_well (text_read [] false (drop 1 r.text)) r h) (int_well r h)))

  cell_well : (n levels : ℕ) (b : Bool) (r : Rest) → All (Named r.cells) r.shared → Well IsThere r (cell_read n levels b r)
  cell_well zero levels b r h = tt
  cell_well (suc n) zero b r h = tt
  cell_well (suc n) (suc levels) b r h =
      let t : List ℕ = drop 2 r.text in
      let xs : Rest = cell_begun b t (content.Array []) r in
      let ps : Rest = cell_begun b t (content.Mapping []) r in
      let items : Reading Value = then_read (items_read n levels [] xs) (λ vs x. array_done (next_cell r) vs x) in
      let pairs : Reading Value = then_read (pairs_read n levels [] ps) (λ ps x. mapping_done (next_cell r) ps x) in
      let array_begun : Follows r xs = begun_follows b t (content.Array []) r h (All-nil (IsThere r.cells)) (inl (new_array r [])) in
      let mapping_begun : Follows r ps = begun_follows b t (content.Mapping []) r h (All-nil (IsPairThere r.cells)) (inr (new_mapping r [])) in
      well_cond IsThere r (begins (codes "({") r) items (cond (begins (codes "([") r) pairs None)
      (well_from IsThere r xs items array_begun (well_then AllThere IsThere xs (items_read n levels [] xs) (λ vs x. array_done (next_cell r) vs x) (items_well n levels [] xs array_begun.named (All-nil (IsThere xs.cells)))
      (λ vs x f a. array_well (next_cell r) vs x f.named (f.stay (Arr (next_cell r)) (new_array r [])) a)))
      (well_cond IsThere r (begins (codes "([") r) pairs None
      (well_from IsThere r ps pairs mapping_begun (well_then PairsThere IsThere ps (pairs_read n levels [] ps) (λ ps x. mapping_done (next_cell r) ps x) (pairs_well n levels [] ps mapping_begun.named (All-nil (IsPairThere ps.cells)))
      (λ qs x f a. mapping_well (next_cell r) qs x f.named (f.stay (Map (next_cell r)) (new_mapping r [])) a))) tt)

  items_well : (n levels : ℕ) (vs : List Value) (r : Rest) → All (Named r.cells) r.shared → All (IsThere r.cells) vs → Well AllThere r (items_read n levels vs r)
  items_well zero levels vs r h a = tt
  items_well (suc n) levels vs r h a =
      let more : Value → Rest → Reading (List Value) = λ v r. then_read (needed (codes ",") r) (λ x r. items_read n levels (vs ++ v ∷ []) r) in
      well_cond AllThere r (begins (codes "})") r) (Some (vs, left (drop 2 r.text) r)) (then_read (value_read n levels r) more) (follows_left r (drop 2 r.text) h, a)
      (well_then IsThere AllThere r (value_read n levels r) more (value_well n levels r h) (λ v y f t.
      well_then Any AllThere y (needed (codes ",") y) (λ x r. items_read n levels (vs ++ v ∷ []) r) (needed_well (codes ",") y f.named) (λ x z g u.
      items_well n levels (vs ++ v ∷ []) z g.named (there_more r z vs v (follows_both r y z f g) a (g.stay v t)))))

  pairs_well : (n levels : ℕ) (ps : List (Value × Value)) (r : Rest) → All (Named r.cells) r.shared → All (IsPairThere r.cells) ps → Well PairsThere r (pairs_read n levels ps r)
  pairs_well zero levels ps r h a = tt
  pairs_well (suc n) levels ps r h a =
      let put : Value → Value → Rest → Reading (List (Value × Value)) = λ k v r. then_read (needed (codes ",") r) (λ y r. pairs_read n levels (insert_entry value_eq ps k v) r) in
      let with_value : Value → Rest → Reading (List (Value × Value)) = λ k r. then_read (value_read n levels r) (put k) in
      let with_key : Value → Rest → Reading (List (Value × Value)) = λ k r. then_read (needed (codes ":") r) (λ x r. with_value k r) in
      well_cond PairsThere r (begins (codes "])") r) (Some (ps, left (drop 2 r.text) r)) (then_read (value_read n levels r) with_key) (follows_left r (drop 2 r.text) h, a)
      (well_then IsThere PairsThere r (value_read n levels r) with_key (value_well n levels r h) (λ k y f key.
      well_then Any PairsThere y (needed (codes ":") y) (λ x r. with_value k r) (needed_well (codes ":") y f.named) (λ x z g u.
      well_then IsThere PairsThere z (value_read n levels z) (put k) (value_well n levels z g.named) (λ v w i value.
      well_then Any PairsThere w (needed (codes ",") w) (λ y r. pairs_read n levels (insert_entry value_eq ps k v) r) (needed_well (codes ",") w i.named) (λ x e j u.
      let all : Follows r e = follows_both r y e f (follows_both y z e g (follows_both z w e i j)) in
      pairs_well n levels (insert_entry value_eq ps k v) e j.named
      (insert_there e.cells ps k v (pairs_kept r e ps all a) (j.stay k (i.stay k (g.stay k key))) (j.stay v value)))))))

-- ---- lines

abbrev LineThere : Store → Line → Type 0
LineThere cells l = IsThere cells l.value

whole_well : (r : Rest) (m : Reading Value) → Well IsThere r m → Well IsThere r (whole m)
whole_well r None h = tt
whole_well r (Some p) h = well_cond IsThere r (nat_eq (length p.1.text) 0) (Some p) None h tt

named_well : (r : Rest) (name : List ℕ) (m : Reading Value) → Well IsThere r m → Well LineThere r (named name m)
named_well r name None h = tt
named_well r name (Some p) h = h

line_of_well : (t : List ℕ) (r : Rest) → All (Named r.cells) r.shared → Well LineThere r (line_of t r)
line_of_well t r h =
    let name : List ℕ = before_first (λ c. nat_eq c 32) t in
    let from : Rest = left (drop (length name + 1) t) r in
    let v : Reading Value = value_read (3 + length t + length t) max_saved_levels from in
    well_cond LineThere r (is_variable_name name && nat_lt (length name) (length t)) (named name (whole v)) None
    (named_well r name (whole v) (whole_well r v (well_from IsThere r from v (follows_left r (drop (length name + 1) t) h) (value_well (3 + length t + length t) max_saved_levels from h)))) tt

line_well : (bytes : List ℕ) (r : Rest) → All (Named r.cells) r.shared → Well LineThere r (line_read bytes r)
line_well bytes r h = well_cond LineThere r (nat_eq (utf8_valid_len bytes) (length bytes)) (line_of (chars bytes) r) None (line_of_well (chars bytes) r h) tt

-- what was there stays there, closed cells stay closed, and the values of the lines are there
abbrev LinesWell : Store → Lines → Type 0
LinesWell a (Read ls cells) = KeepsThere a cells × (IsClosed a → IsClosed cells) × All (LineThere cells) ls
LinesWell a (Faulty n) = Unit {0}

lines_cond : (a : Store) (b : Bool) (m n : Lines) → LinesWell a m → LinesWell a n → LinesWell a (cond b m n)
lines_cond a true m n h g = h
lines_cond a false m n h g = g

lines_from : (a b : Store) (m : Lines) → KeepsThere a b → (IsClosed a → IsClosed b) → LinesWell b m → LinesWell a m
lines_from a b (Read ls cells) k c h = (λ v t. h.0 v (k v t), λ t. h.1 (c t), h.2)
lines_from a b (Faulty n) k c h = tt

line_then : (n : ℕ) (r : Rest) (o : Reading Line) (more : Line × Rest → Lines) → Well LineThere r o → ((p : Line × Rest) → Follows r p.1 → LineThere p.1.cells p.0 → LinesWell p.1.cells (more p)) → LinesWell r.cells (elim o [ Some p ↦ more p | None ↦ Faulty n ])
line_then n r None more h g = tt
line_then n r (Some p) more h g = lines_from r.cells p.1.cells (more p) h.0.stay h.0.closed (g p h.0 h.1)

lines_well : (n : ℕ) (done : List Line) (ls : List (List ℕ)) (r : Rest) → All (Named r.cells) r.shared → All (LineThere r.cells) done → LinesWell r.cells (lines_read n done ls r)
lines_well n done [] r h a = (λ v t. t, λ t. t, a)
lines_well n done (l ∷ []) r h a = lines_cond r.cells (nat_eq (length l) 0) (Read done r.cells) (Faulty n) (λ v t. t, λ t. t, a) tt
lines_well n done (l ∷ m ∷ ls) r h a =
    line_then n r (line_read l r) (λ p. lines_read (n + 1) (done ++ p.0 ∷ []) (m ∷ ls) p.1) (line_well l r h) (λ p f t.
    lines_well (n + 1) (done ++ p.0 ∷ []) (m ∷ ls) p.1 f.named (All-push (LineThere p.1.cells) done p.0 (All-weaker (LineThere r.cells) (LineThere p.1.cells) (λ x s. f.stay x.value s) done a) t))

all_well : (ls : List (List ℕ)) (r : Rest) → All (Named r.cells) r.shared → LinesWell r.cells (all_lines ls r)
all_well [] r h = (λ v t. t, λ t. t, All-nil (LineThere r.cells))
all_well (l ∷ []) r h = lines_cond r.cells (nat_eq (length l) 0) (Read [] r.cells) (Faulty 1) (λ v t. t, λ t. t, All-nil (LineThere r.cells)) tt
all_well (l ∷ m ∷ ls) r h =
    lines_cond r.cells (nat_eq (slice_index l 0) 35) (cond (is_header l) (lines_read 2 [] (m ∷ ls) r) (Faulty 1)) (lines_read 1 [] (l ∷ m ∷ ls) r)
    (lines_cond r.cells (is_header l) (lines_read 2 [] (m ∷ ls) r) (Faulty 1) (lines_well 2 [] (m ∷ ls) r h (All-nil (LineThere r.cells))) tt)
    (lines_well 1 [] (l ∷ m ∷ ls) r h (All-nil (LineThere r.cells)))

-- ---- what is given for names

found_there : (cells : Store) (o : Option Line) → IfSome o (LineThere cells) → IfSome (value_at o) (IsThere cells)
found_there cells None h = tt
found_there cells (Some l) h = h

get_there : (cells : Store) (ls : List Line) (k : ℕ) (o : Option Line) → slice_get ls k ≡ o → All (LineThere cells) ls → IfSome o (LineThere cells)
get_there cells ls k None e h = tt
get_there cells ls k (Some l) e h = at_of (LineThere cells) ls k l e h

given_there : (cells : Store) (before names : List (List ℕ)) (ls : List Line) → All (LineThere cells) ls → All (λ o. IfSome o (IsThere cells)) (given before names ls)
given_there cells before [] ls h = All-nil (λ o. IfSome o (IsThere cells))
given_there cells before (n ∷ ns) ls h =
    let mine : Option Line = slice_get (lines_of n ls) (count_in n before) in
    let these : All (LineThere cells) (lines_of n ls) = All-filter (λ l. bytes_eq l.name n) (LineThere cells) ls h in
    All-cons (λ o. IfSome o (IsThere cells)) (value_at mine) (given (before ++ n ∷ []) ns ls) (found_there cells mine (get_there cells (lines_of n ls) (count_in n before) mine refl these)) (given_there cells (before ++ n ∷ []) ns ls h)

-- so it is with what is restored
abbrev pub RestoredWell : Store → Restored → Type 0
RestoredWell a (Values vs cells) = KeepsThere a cells × (IsClosed a → IsClosed cells) × All (λ o. IfSome o (IsThere cells)) vs
RestoredWell a (FaultyLine n) = Unit {0}

from_well : (a : Store) (names : List (List ℕ)) (x : Lines) → LinesWell a x → RestoredWell a (restored_from names x)
from_well a names (Read ls cells) h = (h.0, h.1, given_there cells [] names ls h.2)
from_well a names (Faulty n) h = tt

pub restored_well : (names : List (List ℕ)) (bytes : List ℕ) (cells : Store) → RestoredWell cells (restored_text names bytes cells)
unfolding restored_text
restored_well names bytes cells =
    let r : Rest = record { text = []; shared = []; cells = cells } in from_well cells names (all_lines (pieces (codes "\n") bytes) r) (all_well (pieces (codes "\n") bytes) r (All-nil (Named cells)))

abbrev pub AnswersWell : Result (Vec (Option Value) Global) RestoreFault → Store → Store → Type 0
AnswersWell r old new = KeepsThere old new × (IsClosed old → IsClosed new) × IfOk r (λ vs. All (λ o. IfSome o (IsThere new)) vs.items)

-- whatever restoring answers
pub answers_well : (r : Result (Vec (Option Value) Global) RestoreFault) (old new : Store) (names : List (List ℕ)) (bytes : List ℕ) → Restores r old new (outcome names bytes old) → AnswersWell r old new
answers_well (Ok x) old new names bytes h = subst (RestoredWell old) (sym (kinds_same names bytes old) ∙ ap without_kind h) (restored_well names bytes old)
answers_well (Err restoring.NoMemory) old new names bytes h = subst (λ s. KeepsThere old s × (IsClosed old → IsClosed s) × Unit {0}) (sym h) (λ v t. t, λ t. t, tt)
answers_well (Err (restoring.Line n k)) old new names bytes h = subst (λ s. KeepsThere old s × (IsClosed old → IsClosed s) × Unit {0}) (sym h.1) (λ v t. t, λ t. t, tt)
