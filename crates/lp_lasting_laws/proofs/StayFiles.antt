-- Efuns of files keep call-outs.
use Rattle.lp_values.specs.Limits.{max_items}
use Rattle.lp_save.specs.SaveText.{max_saved_levels}
use Rattle.std.proofs.Common.{◌≡◌, ℕ, zero, suc, ◌+◌, ◌*◌, ◌<◌, ◌≤◌, Bool, true, false, cond, List, [], ◌∷◌, ◌++◌, Option, Some, None, refl, ap, ◌∙◌, arith, length, length-append, unwrap_or, map}
use Rattle.std.specs.Prelude.{codes, slice_get, nat_eq, nat_lt, drop, ◌&&◌, ◌||◌, is_some, slice_index, encode_utf8_all, pos, chars}
use Rattle.std.specs.List.{before_first}
use Rattle.std.specs.Str.Lossy.{utf8_valid_len}
use Rattle.indexmap.specs.IndexMap.{insert_entry}
use Rattle.lp_values.specs.Read.{value_eq}
use Rattle.lp_text.specs.Pieces.{pieces}
use Rattle.lp_text.specs.Scans.{digits_number, signed}
use Rattle.std.proofs.lemmas.List.{length-set}
use Rattle.lp_values.specs.declared.id.CellId.{CellId}
use Rattle.lp_values.specs.declared.value.Value.{Value}
use Rattle.lp_values.specs.declared.value.Value.TheVariants.{Int, Str, Arr, Map}
use Rattle.lp_cells.specs.declared.content.Content.{Content}
use Rattle.lp_cells.specs.declared.content.Content.TheVariants as content
use Rattle.lp_cells.specs.Cells.{Store, content_at, content_set, kind_of}
use Rattle.lp_language.proofs.Kept.{SameKinds, there_by_kinds, kinds_with_cell, kinds_set}
use Rattle.lp_lasting_laws.proofs.KeptCalls.{keeps_cells, keeps_trans}
use Rattle.lp_ops.specs.Operands.{Opened}
use Rattle.lp_instr.specs.declared.efun.Efun.{Efun}
use Rattle.lp_instr.specs.declared.efun.Efun.TheVariants as efuns
use Rattle.lp_instr.specs.EfunList.{efun_name}
use Rattle.lp_language.specs.World.{World, Object, IsSameObject, object_at, with_object, with_cells}
use Rattle.lp_language.specs.Course.{Scene, State, Course, and_then, gives, zero_value}
use Rattle.lp_language.specs.Operations.{seen, living, cells_of, with_world}
use Rattle.lp_lasting_laws.specs.Lasting.{After}
use Rattle.lp_meaning.specs.WorldSteps.{file_at, with_file}
use Rattle.lp_meaning.specs.Askers.{Asker}
use Rattle.lp_meaning.specs.FileLoads.{master_call}
use Rattle.lp_meaning.specs.EfunArguments.{text_arg}
use Rattle.lp_lasting_laws.specs.Lasting.{StaysBelow}
use Rattle.lp_lasting_laws.proofs.KeptCalls.{keeps_these, keeps_object}
use Rattle.lp_lasting_laws.proofs.Stays.{after_world, then_stays, cond_stays}
use Rattle.lp_lasting_laws.proofs.StayLoads.{master_stays}
use Rattle.lp_meaning.specs.FileEfuns.{is_path, path_answered, this_value, with_leave, bytes_of, read_value, size_value, or_empty, written_to, without_file, removed, named_value, saved_of, saved_bytes, saving, with_values, with_variables, restored, restoring_from, restoring, with_o, files}
use Rattle.lp_save.specs.SaveText.{Rest, Reading, then_read, left, begins, needed, digits_at, is_number, number_read, int_of, int_read, text_read, as_text, next_cell, cell_begun, array_done, mapping_done, shared_cell, value_of_cell, value_read, cell_read, items_read, pairs_read, whole, Line, named, line_of, line_read, Lines, Read, Faulty, lines_read, is_header, is_variable_name, all_lines, restored_from, Restored, Values, FaultyLine, saved_text, restored_text}

-- cells that grew: those that were there are there, each of its kind
record Grows (old new : Store) : Type 0 where
  kinds : SameKinds old new
  longer : length old ≤ length new

kinds_so : (k : Store) (c : CellId) (y : Content) (a b : Store) (o : Option Content) → content_at a c ≡ o → kind_of o ≡ kind_of (Some y) → SameKinds a b → kind_of (content_at b c) ≡ kind_of (Some y)
kinds_so k c y a b (Some z) e h g = g c z e ∙ h
kinds_so k c (content.Array vs) a b None e h g = cc
kinds_so k c (content.Mapping ps) a b None e h g = cc

grows_trans : (a b c : Store) → Grows a b → Grows b c → Grows a c
grows_trans a b c h g = record {
  kinds = λ k y e. kinds_so a k y b c (content_at b k) refl (h.kinds k y e) g.kinds;
  longer = (let x = h.longer in let y = g.longer in omega (arith, x, y));
}

grows_same : (a : Store) → Grows a a
grows_same a = record { kinds = λ k y e. ap kind_of e; longer = omega arith }

-- what was read left grown cells
abbrev Grew : {A : Type 0} → Store → Reading A → Type 0
Grew a None = Unit {0}
Grew a (Some p) = Grows a p.1.cells

grew_then : {A B : Type 0} (a : Store) (m : Reading A) (go : A → Rest → Reading B) → Grew a m → ((x : A) (r : Rest) → Grows a r.cells → Grew a (go x r)) → Grew a (then_read m go)
grew_then a None go h g = tt
grew_then a (Some p) go h g = g p.0 p.1 h

grew_cond : {A : Type 0} (a : Store) (b : Bool) (m n : Reading A) → Grew a m → Grew a n → Grew a (cond b m n)
grew_cond a true m n h g = h
grew_cond a false m n h g = g

needed_grew : (a : Store) (mark : List ℕ) (r : Rest) → Grows a r.cells → Grew a (needed mark r)
needed_grew a mark r h = grew_cond a (begins mark r) (Some (tt, left (drop (length mark) r.text) r)) None h tt

number_grew : (a : Store) (r : Rest) → Grows a r.cells → Grew a (number_read r)
number_grew a r h = grew_cond a (is_number (digits_at r.text)) (Some (digits_number (digits_at r.text), left (drop (length (digits_at r.text)) r.text) r)) None h tt

either_grew : {A B : Type 0} (a : Store) (o : Option B) (some : B → Reading A) → ((x : B) → Grew a (some x)) → Grew a (elim o [ Some x ↦ some x | None ↦ None ])
either_grew a None some g = tt
either_grew a (Some x) some g = g x

int_of_grew : (a : Store) (negative : Bool) (n : ℕ) (r : Rest) → Grows a r.cells → Grew a (int_of negative n r)
int_of_grew a negative n r h =
    grew_cond a (negative && nat_eq n 0) None (elim (signed negative n) [ Some i ↦ Some (Int i, r) | None ↦ None ]) tt (either_grew a (signed negative n) (λ i. Some (Int i, r)) (λ i. h))

int_grew : (a : Store) (r : Rest) → Grows a r.cells → Grew a (int_read r)
int_grew a r h =
    grew_cond a (begins (codes "-") r) (then_read (number_read (left (drop 1 r.text) r)) (λ n r. int_of true n r)) (then_read (number_read r) (λ n r. int_of false n r))
    (grew_then a (number_read (left (drop 1 r.text) r)) (λ n r. int_of true n r) (number_grew a (left (drop 1 r.text) r) h) (λ n r h. int_of_grew a true n r h))
    (grew_then a (number_read r) (λ n r. int_of false n r) (number_grew a r h) (λ n r h. int_of_grew a false n r h))

text_grew : (a : Store) (o : Option (List ℕ × List ℕ)) (r : Rest) → Grows a r.cells → Grew a (as_text o r)
text_grew a None r h = tt
text_grew a (Some p) r h = h

share_grew : (a : Store) (k : ℕ) (r : Rest) → Grows a r.cells → Grew a (shared_cell k r)
share_grew a zero r h = tt
share_grew a (suc n) r h = either_grew a (slice_get r.shared n) (λ c. Some (c, r)) (λ c. h)

last_of : {A : Type 0} (xs : List A) (x : A) → slice_get (xs ++ x ∷ []) (length xs) ≡ Some x
last_of [] x = refl
last_of (y ∷ xs) x = last_of xs x

-- a cell begins, and what it holds is put into it
begun_grows : (b : Bool) (t : List ℕ) (x : Content) (r : Rest) → Grows r.cells (cell_begun b t x r).cells
begun_grows b t x r = record { kinds = kinds_with_cell r.cells x; longer = omega (arith, length-append r.cells (Some x ∷ [])) }

new_kind : (b : Bool) (t : List ℕ) (x : Content) (r : Rest) (after : Store) → Grows (cell_begun b t x r).cells after → kind_of (content_at after (next_cell r)) ≡ kind_of (Some x)
new_kind b t x r after g = g.kinds (next_cell r) x (ap (λ o. unwrap_or o None) (last_of r.cells (Some x)))

set_grows : (cells : Store) (c : CellId) (x : Content) → kind_of (content_at cells c) ≡ kind_of (Some x) → Grows cells (content_set cells c x)
set_grows cells c x k = record { kinds = kinds_set cells c x k; longer = omega (arith, length-set cells c.0 (Some x)) }

array_grew : (a : Store) (b : Bool) (t : List ℕ) (r : Rest) (vs : List Value) (x : Rest) → Grows a r.cells → Grows (cell_begun b t (content.Array []) r).cells x.cells → Grew a (array_done (next_cell r) vs x)
array_grew a b t r vs x h g =
    let c = next_cell r in
    let begun = (cell_begun b t (content.Array []) r).cells in
    grew_cond a (nat_lt max_items (length vs)) None (Some (Arr c, record x { cells = content_set x.cells c (content.Array vs) })) tt
    (grows_trans a x.cells (content_set x.cells c (content.Array vs)) (grows_trans a begun x.cells (grows_trans a r.cells begun h (begun_grows b t (content.Array []) r)) g)
    (set_grows x.cells c (content.Array vs) (new_kind b t (content.Array []) r x.cells g)))

mapping_grew : (a : Store) (b : Bool) (t : List ℕ) (r : Rest) (ps : List (Value × Value)) (x : Rest) → Grows a r.cells → Grows (cell_begun b t (content.Mapping []) r).cells x.cells → Grew a (mapping_done (next_cell r) ps x)
mapping_grew a b t r ps x h g =
    let c = next_cell r in
    let begun = (cell_begun b t (content.Mapping []) r).cells in
    grew_cond a (nat_lt max_items (length ps)) None (Some (Map c, record x { cells = content_set x.cells c (content.Mapping ps) })) tt
    (grows_trans a x.cells (content_set x.cells c (content.Mapping ps)) (grows_trans a begun x.cells (grows_trans a r.cells begun h (begun_grows b t (content.Mapping []) r)) g)
    (set_grows x.cells c (content.Mapping ps) (new_kind b t (content.Mapping []) r x.cells g)))

-- what follows from a reading over other cells
done_grew : {A B : Type 0} (a d : Store) (m : Reading A) (go : A → Rest → Reading B) → Grew d m → ((x : A) (r : Rest) → Grows d r.cells → Grew a (go x r)) → Grew a (then_read m go)
done_grew a d None go h g = tt
done_grew a d (Some p) go h g = g p.0 p.1 h

mutual
  value_grew : (n levels : ℕ) (a : Store) (r : Rest) → Grows a r.cells → Grew a (value_read n levels r)
  value_grew zero levels a r h = tt
  value_grew (suc n) levels a r h =
      let number : Rest = left (drop 1 r.text) r in
      let shares : ℕ → Rest → Reading Value = λ k r. cond (begins (codes "=") r) (cond (nat_eq k (length r.shared + 1)) (cell_read n levels true (left (drop 1 r.text) r)) None) (then_read (shared_cell k r) value_of_cell) in
      let closes : ℕ → Rest → Reading Value = λ k r. then_read (needed (codes ">") r) (λ x r. shares k r) in
      let others : Reading Value = cond (begins (codes "\"") r) (as_text (text_read [] false (drop 1 r.text)) r) (int_read r) in
      grew_cond a (begins (codes "<") r) (then_read (number_read number) closes) (cond (begins (codes "({") r || begins (codes "([") r) (cell_read n levels false r) others)
      (grew_then a (number_read number) closes (number_grew a number h) (λ k r h.
      grew_then a (needed (codes ">") r) (λ x r. shares k r) (needed_grew a (codes ">") r h) (λ x r h.
      grew_cond a (begins (codes "=") r) (cond (nat_eq k (length r.shared + 1)) (cell_read n levels true (left (drop 1 r.text) r)) None) (then_read (shared_cell k r) value_of_cell)
      (grew_cond a (nat_eq k (length r.shared + 1)) (cell_read n levels true (left (drop 1 r.text) r)) None (cell_grew n levels true a (left (drop 1 r.text) r) h) tt)
      (grew_then a (shared_cell k r) value_of_cell (share_grew a k r h) (λ c r h. h)))))
      (grew_cond a (begins (codes "({") r || begins (codes "([") r) (cell_read n levels false r) others (cell_grew n levels false a r h)
      (grew_cond a (begins (codes "\"") r) (as_text (text_read [] false (drop 1 r.text)) r) (int_read r) (text_grew a (text_read [] false (drop 1 r.text)) r h) (int_grew a r h)))

  cell_grew : (n levels : ℕ) (b : Bool) (a : Store) (r : Rest) → Grows a r.cells → Grew a (cell_read n levels b r)
  cell_grew zero levels b a r h = tt
  cell_grew (suc n) zero b a r h = tt
  cell_grew (suc n) (suc levels) b a r h =
      let t : List ℕ = drop 2 r.text in
      let xs : Rest = cell_begun b t (content.Array []) r in
      let ps : Rest = cell_begun b t (content.Mapping []) r in
      let items : Reading Value = then_read (items_read n levels [] xs) (λ vs x. array_done (next_cell r) vs x) in
      let pairs : Reading Value = then_read (pairs_read n levels [] ps) (λ ps x. mapping_done (next_cell r) ps x) in
      grew_cond a (begins (codes "({") r) items (cond (begins (codes "([") r) pairs None)
      (done_grew a xs.cells (items_read n levels [] xs) (λ vs x. array_done (next_cell r) vs x) (items_grew n levels [] xs.cells xs (grows_same xs.cells)) (λ vs x g. array_grew a b t r vs x h g))
      (grew_cond a (begins (codes "([") r) pairs None
      (done_grew a ps.cells (pairs_read n levels [] ps) (λ ps x. mapping_done (next_cell r) ps x) (pairs_grew n levels [] ps.cells ps (grows_same ps.cells)) (λ qs x g. mapping_grew a b t r qs x h g)) tt)

  items_grew : (n levels : ℕ) (vs : List Value) (a : Store) (r : Rest) → Grows a r.cells → Grew a (items_read n levels vs r)
  items_grew zero levels vs a r h = tt
  items_grew (suc n) levels vs a r h =
      let more : Value → Rest → Reading (List Value) = λ v r. then_read (needed (codes ",") r) (λ x r. items_read n levels (vs ++ v ∷ []) r) in
      grew_cond a (begins (codes "})") r) (Some (vs, left (drop 2 r.text) r)) (then_read (value_read n levels r) more) h
      (grew_then a (value_read n levels r) more (value_grew n levels a r h) (λ v r h.
      grew_then a (needed (codes ",") r) (λ x r. items_read n levels (vs ++ v ∷ []) r) (needed_grew a (codes ",") r h) (λ x r h. items_grew n levels (vs ++ v ∷ []) a r h)))

  pairs_grew : (n levels : ℕ) (ps : List (Value × Value)) (a : Store) (r : Rest) → Grows a r.cells → Grew a (pairs_read n levels ps r)
  pairs_grew zero levels ps a r h = tt
  pairs_grew (suc n) levels ps a r h =
      let put : Value → Value → Rest → Reading (List (Value × Value)) = λ k v r. then_read (needed (codes ",") r) (λ y r. pairs_read n levels (insert_entry value_eq ps k v) r) in
      let with_value : Value → Rest → Reading (List (Value × Value)) = λ k r. then_read (value_read n levels r) (put k) in
      let with_key : Value → Rest → Reading (List (Value × Value)) = λ k r. then_read (needed (codes ":") r) (λ x r. with_value k r) in
      grew_cond a (begins (codes "])") r) (Some (ps, left (drop 2 r.text) r)) (then_read (value_read n levels r) with_key) h
      (grew_then a (value_read n levels r) with_key (value_grew n levels a r h) (λ k r h.
      grew_then a (needed (codes ":") r) (λ x r. with_value k r) (needed_grew a (codes ":") r h) (λ x r h.
      grew_then a (value_read n levels r) (put k) (value_grew n levels a r h) (λ v r h.
      grew_then a (needed (codes ",") r) (λ y r. pairs_read n levels (insert_entry value_eq ps k v) r) (needed_grew a (codes ",") r h) (λ y r h. pairs_grew n levels (insert_entry value_eq ps k v) a r h)))))

whole_grew : (a : Store) (m : Reading Value) → Grew a m → Grew a (whole m)
whole_grew a None h = tt
whole_grew a (Some p) h = grew_cond a (nat_eq (length p.1.text) 0) (Some p) None h tt

named_grew : (a : Store) (name : List ℕ) (m : Reading Value) → Grew a m → Grew a (named name m)
named_grew a name None h = tt
named_grew a name (Some p) h = h

line_of_grew : (a : Store) (t : List ℕ) (r : Rest) → Grows a r.cells → Grew a (line_of t r)
line_of_grew a t r h =
    let name : List ℕ = before_first (λ c. nat_eq c 32) t in
    let v : Reading Value = value_read (3 + length t + length t) max_saved_levels (left (drop (length name + 1) t) r) in
    grew_cond a (is_variable_name name && nat_lt (length name) (length t)) (named name (whole v)) None
    (named_grew a name (whole v) (whole_grew a v (value_grew (3 + length t + length t) max_saved_levels a (left (drop (length name + 1) t) r) h))) tt

line_grew : (a : Store) (bytes : List ℕ) (r : Rest) → Grows a r.cells → Grew a (line_read bytes r)
line_grew a bytes r h = grew_cond a (nat_eq (utf8_valid_len bytes) (length bytes)) (line_of (chars bytes) r) None (line_of_grew a (chars bytes) r h) tt

-- so it is with all lines
abbrev LinesGrew : Store → Lines → Type 0
LinesGrew a (Read ls cells) = Grows a cells
LinesGrew a (Faulty n) = Unit {0}

lines_cond : (a : Store) (b : Bool) (m n : Lines) → LinesGrew a m → LinesGrew a n → LinesGrew a (cond b m n)
lines_cond a true m n h g = h
lines_cond a false m n h g = g

line_then : (a : Store) (n : ℕ) (o : Reading Line) (more : Line × Rest → Lines) → Grew a o → ((p : Line × Rest) → Grows a p.1.cells → LinesGrew a (more p)) → LinesGrew a (elim o [ Some p ↦ more p | None ↦ Faulty n ])
line_then a n None more h g = tt
line_then a n (Some p) more h g = g p h

lines_grew : (a : Store) (n : ℕ) (done : List Line) (ls : List (List ℕ)) (r : Rest) → Grows a r.cells → LinesGrew a (lines_read n done ls r)
lines_grew a n done [] r h = h
lines_grew a n done (l ∷ []) r h = lines_cond a (nat_eq (length l) 0) (Read done r.cells) (Faulty n) h tt
lines_grew a n done (l ∷ m ∷ ls) r h =
    line_then a n (line_read l r) (λ p. lines_read (n + 1) (done ++ p.0 ∷ []) (m ∷ ls) p.1) (line_grew a l r h) (λ p g. lines_grew a (n + 1) (done ++ p.0 ∷ []) (m ∷ ls) p.1 g)

all_grew : (a : Store) (ls : List (List ℕ)) (r : Rest) → Grows a r.cells → LinesGrew a (all_lines ls r)
all_grew a [] r h = h
all_grew a (l ∷ []) r h = lines_cond a (nat_eq (length l) 0) (Read [] r.cells) (Faulty 1) h tt
all_grew a (l ∷ m ∷ ls) r h =
    lines_cond a (nat_eq (slice_index l 0) 35) (cond (is_header l) (lines_read 2 [] (m ∷ ls) r) (Faulty 1)) (lines_read 1 [] (l ∷ m ∷ ls) r)
    (lines_cond a (is_header l) (lines_read 2 [] (m ∷ ls) r) (Faulty 1) (lines_grew a 2 [] (m ∷ ls) r h) tt) (lines_grew a 1 [] (l ∷ m ∷ ls) r h)

-- what is restored
abbrev RestoredGrew : Store → Restored → Type 0
RestoredGrew a (Values given cells) = Grows a cells
RestoredGrew a (FaultyLine n) = Unit {0}

from_grew : (a : Store) (names : List (List ℕ)) (x : Lines) → LinesGrew a x → RestoredGrew a (restored_from names x)
from_grew a names (Read ls cells) h = h
from_grew a names (Faulty n) h = tt

restored_grew : (names : List (List ℕ)) (bytes : List ℕ) (cells : Store) → RestoredGrew cells (restored_text names bytes cells)
unfolding restored_text
restored_grew names bytes cells =
    let r : Rest = record { text = []; shared = []; cells = cells } in from_grew cells names (all_lines (pieces (codes "\n") bytes) r) (all_grew cells (pieces (codes "\n") bytes) r (grows_same cells))

-- The efuns

object_same : (x : Object) (vs : List Value) → IsSameObject x (with_variables x vs)
object_same x vs = record { name = refl; version = refl }

module _ (n : ℕ) (r : State) (low : 2 * r.budget + 0 < n) where
  leave_stays : (by : Asker) (c : Scene) (fun : List ℕ) (e : Efun) (path : List ℕ) (s : State) (go : Option (List ℕ) → State → Course Value) → After r s → ((p : Option (List ℕ)) (s : State) → After r s → StaysBelow n r (go p s)) → StaysBelow n r (with_leave by c fun e path s go)
  leave_stays by c fun e path s go h g =
      let xs : List Value = Str path ∷ zero_value ∷ Str (efun_name e) ∷ this_value s c ∷ [] in
      let used : Value → State → Course Value = λ v s. go (path_answered path (seen s v)) s in
      cond_stays n r (is_path path) (and_then (master_call by fun xs s) used) (go None s)
      (then_stays n r (master_call by fun xs s) used (master_stays n r low by fun xs s h) (λ v s h. g (path_answered path (seen s v)) s h)) (g None s h)

  written_stays : (p : Option (List ℕ)) (text : List ℕ) (s : State) → After r s → StaysBelow n r (written_to p text s)
  written_stays None text s h = h
  written_stays (Some path) text s h =
      let w : World = with_file s.world path (or_empty (file_at s.world.files path) ++ encode_utf8_all text) in
      after_world r s (with_world s w) h refl refl (keeps_these s.world w refl refl)

  removed_stays : (p : Option (List ℕ)) (s : State) → After r s → StaysBelow n r (removed p s)
  removed_stays None s h = h
  removed_stays (Some path) s h =
      let w : World = without_file s.world path in
      cond_stays n r (is_some (file_at s.world.files path)) (gives (Int (pos 1)) (with_world s w)) (gives zero_value s) (after_world r s (with_world s w) h refl refl (keeps_these s.world w refl refl)) h

  bytes_stay : (path : List ℕ) (o : Option (List ℕ)) (s : State) → After r s → StaysBelow n r (saved_bytes path o s)
  bytes_stay path None s h = h
  bytes_stay path (Some bytes) s h =
      let w : World = with_file s.world path bytes in after_world r s (with_world s w) h refl refl (keeps_these s.world w refl refl)

  saving_stays : (c : Scene) (p : Option (List ℕ)) (s : State) → After r s → StaysBelow n r (saving c p s)
  saving_stays c None s h = h
  saving_stays c (Some path) s h = bytes_stay path (saved_text (living s) (cells_of s) (map (named_value (object_at s.world c.this).variables) (saved_of s.world c.this))) s h

  restored_stays : (c : Scene) (path : List ℕ) (x : Restored) (s : State) → RestoredGrew (cells_of s) x → After r s → StaysBelow n r (restored c path x s)
  restored_stays c path (FaultyLine k) s g h = h
  restored_stays c path (Values given cells) s g h =
      let x : Object = object_at s.world c.this in
      let vs : List Value = with_values x.variables (saved_of s.world c.this) given in
      let w1 : World = with_cells s.world cells in
      let w2 : World = with_object w1 c.this (with_variables x vs) in
      after_world r s (with_world s w2) h refl refl (keeps_trans s.world w1 w2 (keeps_cells s.world cells (there_by_kinds (cells_of s) cells g.kinds) g.longer) (keeps_object w1 c.this (with_variables x vs) (object_same x vs)))

  from_stays : (c : Scene) (path : List ℕ) (o : Option (List ℕ)) (s : State) → After r s → StaysBelow n r (restoring_from c path o s)
  from_stays c path None s h = h
  from_stays c path (Some bytes) s h =
      restored_stays c path (restored_text (map (λ x. x.name) (saved_of s.world c.this)) bytes (cells_of s)) s (restored_grew (map (λ x. x.name) (saved_of s.world c.this)) bytes (cells_of s)) h

  restoring_stays : (c : Scene) (p : Option (List ℕ)) (s : State) → After r s → StaysBelow n r (restoring c p s)
  restoring_stays c None s h = h
  restoring_stays c (Some path) s h = from_stays c path (file_at s.world.files path) s h

  pub files_stay : (e : Efun) (by : Asker) (c : Scene) (s : State) (xs : List Opened) → After r s → StaysBelow n r (files e by c s xs)
  unfolding files
  files_stay efuns.ThisObject by c s xs h = h
  files_stay efuns.ThisPlayer by c s xs h = h
  files_stay efuns.ThisInteractive by c s xs h = h
  files_stay efuns.PreviousObject by c s xs h = h
  files_stay efuns.CallOther by c s xs h = h
  files_stay efuns.CloneObject by c s xs h = h
  files_stay efuns.LoadObject by c s xs h = h
  files_stay efuns.FindObject by c s xs h = h
  files_stay efuns.Destruct by c s xs h = h
  files_stay efuns.ObjectName by c s xs h = h
  files_stay efuns.LoadName by c s xs h = h
  files_stay efuns.ProgramName by c s xs h = h
  files_stay efuns.Clonep by c s xs h = h
  files_stay efuns.Objectp by c s xs h = h
  files_stay efuns.Intp by c s xs h = h
  files_stay efuns.Stringp by c s xs h = h
  files_stay efuns.Pointerp by c s xs h = h
  files_stay efuns.Mappingp by c s xs h = h
  files_stay efuns.Living by c s xs h = h
  files_stay efuns.Interactive by c s xs h = h
  files_stay efuns.FunctionExists by c s xs h = h
  files_stay efuns.EnableCommands by c s xs h = h
  files_stay efuns.Shadow by c s xs h = h
  files_stay efuns.QueryShadowing by c s xs h = h
  files_stay efuns.Unshadow by c s xs h = h
  files_stay efuns.Environment by c s xs h = h
  files_stay efuns.AllInventory by c s xs h = h
  files_stay efuns.FirstInventory by c s xs h = h
  files_stay efuns.NextInventory by c s xs h = h
  files_stay efuns.Present by c s xs h = h
  files_stay efuns.MoveObject by c s xs h = h
  files_stay efuns.AddAction by c s xs h = h
  files_stay efuns.Command by c s xs h = h
  files_stay efuns.QueryVerb by c s xs h = h
  files_stay efuns.NotifyFail by c s xs h = h
  files_stay efuns.InputTo by c s xs h = h
  files_stay efuns.Write by c s xs h = h
  files_stay efuns.TellObject by c s xs h = h
  files_stay efuns.TellRoom by c s xs h = h
  files_stay efuns.Say by c s xs h = h
  files_stay efuns.Printf by c s xs h = h
  files_stay efuns.Users by c s xs h = h
  files_stay efuns.Exec by c s xs h = h
  files_stay efuns.RemoveInteractive by c s xs h = h
  files_stay efuns.Time by c s xs h = h
  files_stay efuns.SetHeartBeat by c s xs h = h
  files_stay efuns.CallOut by c s xs h = h
  files_stay efuns.RemoveCallOut by c s xs h = h
  files_stay efuns.FindCallOut by c s xs h = h
  files_stay efuns.Random by c s xs h = h
  files_stay efuns.Throw by c s xs h = h
  files_stay efuns.RaiseError by c s xs h = h
  files_stay efuns.Strlen by c s xs h = h
  files_stay efuns.Explode by c s xs h = h
  files_stay efuns.Implode by c s xs h = h
  files_stay efuns.LowerCase by c s xs h = h
  files_stay efuns.UpperCase by c s xs h = h
  files_stay efuns.Capitalize by c s xs h = h
  files_stay efuns.Strstr by c s xs h = h
  files_stay efuns.Trim by c s xs h = h
  files_stay efuns.Sprintf by c s xs h = h
  files_stay efuns.Sscanf by c s xs h = h
  files_stay efuns.ToInt by c s xs h = h
  files_stay efuns.ToString by c s xs h = h
  files_stay efuns.Sizeof by c s xs h = h
  files_stay efuns.Allocate by c s xs h = h
  files_stay efuns.Member by c s xs h = h
  files_stay efuns.Copy by c s xs h = h
  files_stay efuns.Filter by c s xs h = h
  files_stay efuns.Map by c s xs h = h
  files_stay efuns.MIndices by c s xs h = h
  files_stay efuns.MValues by c s xs h = h
  files_stay efuns.MDelete by c s xs h = h
  files_stay efuns.Mkmapping by c s xs h = h
  files_stay efuns.Min by c s xs h = h
  files_stay efuns.Max by c s xs h = h
  files_stay efuns.Abs by c s xs h = h
  files_stay efuns.ReadFile by c s xs h = leave_stays by c (codes "valid_read") efuns.ReadFile (text_arg xs 0) s (λ p s. gives (read_value (bytes_of s.world p)) s) h (λ p s h. h)
  files_stay efuns.WriteFile by c s xs h = leave_stays by c (codes "valid_write") efuns.WriteFile (text_arg xs 0) s (λ p s. written_to p (text_arg xs 1) s) h (λ p s h. written_stays p (text_arg xs 1) s h)
  files_stay efuns.FileSize by c s xs h = leave_stays by c (codes "valid_read") efuns.FileSize (text_arg xs 0) s (λ p s. gives (size_value (bytes_of s.world p)) s) h (λ p s h. h)
  files_stay efuns.Rm by c s xs h = leave_stays by c (codes "valid_write") efuns.Rm (text_arg xs 0) s removed h removed_stays
  files_stay efuns.SaveObject by c s xs h = leave_stays by c (codes "valid_write") efuns.SaveObject (with_o (text_arg xs 0)) s (saving c) h (saving_stays c)
  files_stay efuns.RestoreObject by c s xs h = leave_stays by c (codes "valid_read") efuns.RestoreObject (with_o (text_arg xs 0)) s (restoring c) h (restoring_stays c)
