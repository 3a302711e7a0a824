-- The text of saved values: how it is spelled, and what is read of it.
use Rattle.lp_values.specs.Limits.{max_code_points, max_items}
use Rattle.std.specs.Prelude.{ℕ, zero, suc, ◌+◌, bytes_eq, List, [], ◌∷◌, ◌++◌, length, take, drop, map, filter, flat_map, fold, Bool, true, false, not, ◌&&◌, ◌||◌, Option, Some, None, unwrap_or, slice_get, slice_index, nat_eq, nat_le, nat_lt, chars, codes, decimal, encode_utf8_all, position, if◌then◌else◌}
use Rattle.std.specs.Char.{is_ascii_digit}
use Rattle.std.specs.Fmt.{signed_decimal}
use Rattle.std.specs.List.{list_all, list_any, prefix_len, starts_with, before_first}
use Rattle.std.specs.Str.Lossy.{utf8_valid_len}
use Rattle.indexmap.specs.IndexMap.{insert_entry}
use Rattle.lp_values.specs.declared.id.CellId.{CellId}
use Rattle.lp_values.specs.declared.id.ObjId.{ObjId}
use Rattle.lp_values.specs.declared.value.Value.{Value}
use Rattle.lp_values.specs.declared.value.Value.TheVariants.{Int, Str, Arr, Map, Obj}
use Rattle.lp_values.specs.Read.{value_eq}
use Rattle.lp_cells.specs.declared.content.Content.{Content}
use Rattle.lp_cells.specs.declared.content.Content.TheVariants as content
use Rattle.lp_cells.specs.Cells.{Store, content_set, items_of, stored_pairs, with_cell}
use Rattle.lp_cells.specs.Mapping.{pairs_there}
use Rattle.lp_text.specs.Pieces.{pieces}
use Rattle.lp_text.specs.Scans.{digits_number, signed}

-- how deep saved values may lie in one another
abbrev pub max_saved_levels : ℕ
max_saved_levels = 100

-- Spelling

-- whether a cell is one of these
abbrev pub is_among : CellId → List CellId → Bool
is_among c cs = list_any (λ d. nat_eq d.0 c.0) cs

-- the cell that a value names
abbrev pub cell_in : Value → Option CellId
cell_in (Int n) = None
cell_in (Str t) = None
cell_in (Arr c) = Some c
cell_in (Map c) = Some c
cell_in (Obj o) = None

-- what a cell holds, as read: items; keys and values by turns
abbrev pub inner : (ObjId → Bool) → Store → Value → List Value
inner live cells (Arr c) = items_of cells c
inner live cells (Map c) = flat_map (λ p. p.0 ∷ p.1 ∷ []) (pairs_there live (stored_pairs cells c))
inner live cells (Int n) = []
inner live cells (Str t) = []
inner live cells (Obj o) = []

-- Going over values in the order in which they are spelled: the cells met so far, by first place; those met again; and whether cells lie
-- too deep in one another.
pub record Walk : Type 0 where
  pub met : List CellId
  pub again : List CellId
  pub is_deep : Bool

-- a cell is met for the first time
abbrev pub met_first : CellId → Walk → Walk
met_first c w = record w { met = w.met ++ c ∷ [] }

-- and again
abbrev pub met_again : CellId → Walk → Walk
met_again c w = record w { again = c ∷ w.again }

-- a cell lies too deep
abbrev pub met_deep : Walk → Walk
met_deep w = record w { is_deep = true }

-- a value is gone over, where cells may lie so many levels deep
abbrev pub walked : (ObjId → Bool) → Store → ℕ → Walk → Value → Walk
walked live cells zero w v =
    elim (cell_in v) [ None ↦ w | Some c ↦ if is_among c w.met then met_again c w else met_deep w ]
walked live cells (suc n) w v =
    elim (cell_in v) [ None ↦ w | Some c ↦ if is_among c w.met then met_again c w else fold (walked live cells n) (met_first c w) (inner live cells v) ]

-- all values are gone over; 100 levels are spelled
abbrev pub walk_of : (ObjId → Bool) → Store → List Value → Walk
walk_of live cells vs = fold (walked live cells max_saved_levels) (record { met = []; again = []; is_deep = false }) vs

-- the cells that occur more than once, by first place: the first has the number 1
abbrev pub shared_in : Walk → List CellId
shared_in w = filter (λ c. is_among c w.again) w.met

-- the place of a cell among the shared ones
abbrev pub share_number : List CellId → CellId → Option ℕ
share_number shared c = position (λ d. nat_eq d.0 c.0) shared

-- a code point of a text
abbrev pub saved_point : ℕ → List ℕ
saved_point c =
    if nat_eq c 92 then codes "\\\\"
    else (if nat_eq c 10 then codes "\\n"
    else (if nat_eq c 13 then codes "\\r"
    else (if nat_eq c 9 then codes "\\t"
    else (if nat_eq c 34 then codes "\\\"" else c ∷ []))))

-- What is spelled so far, and the shared cells that it has.
pub record Spelt : Type 0 where
  pub done : List CellId
  pub text : List ℕ

-- more text
abbrev pub add : List ℕ → Spelt → Spelt
add t s = record s { text = s.text ++ t }

-- a shared cell begins with its number, and is the number alone afterwards
abbrev pub numbered : ℕ → List ℕ
numbered n = codes "<" ++ decimal (n + 1) ++ codes ">"

-- a cell begins, with its number where it is shared
abbrev pub begun : Option ℕ → CellId → Spelt → Spelt
begun None c s = s
begun (Some n) c s = record { done = c ∷ s.done; text = s.text ++ numbered n ++ codes "=" }

-- a cell that was spelled before
abbrev pub again_text : Option ℕ → List ℕ
again_text None = []
again_text (Some n) = numbered n

-- a value behind what is spelled so far, where cells lie at most so many levels deep; objects and what reads as 0 are 0
abbrev pub spelt : (ObjId → Bool) → Store → List CellId → ℕ → Spelt → Value → Spelt
spelt live cells shared n s (Int i) = add (signed_decimal i) s
spelt live cells shared n s (Str t) = add (34 ∷ flat_map saved_point t ++ 34 ∷ []) s
spelt live cells shared n s (Obj o) = add (codes "0") s
spelt live cells shared zero s (Arr c) = add (again_text (share_number shared c)) s
spelt live cells shared zero s (Map c) = add (again_text (share_number shared c)) s
spelt live cells shared (suc n) s (Arr c) =
    if is_among c s.done then add (again_text (share_number shared c)) s
    else add (codes "})") (fold (λ x v. add (codes ",") (spelt live cells shared n x v)) (add (codes "({") (begun (share_number shared c) c s)) (items_of cells c))
spelt live cells shared (suc n) s (Map c) =
    if is_among c s.done then add (again_text (share_number shared c)) s
    else add (codes "])") (fold (λ x p. add (codes ",") (spelt live cells shared n (add (codes ":") (spelt live cells shared n x p.0)) p.1)) (add (codes "([") (begun (share_number shared c) c s)) (pairs_there live (stored_pairs cells c)))

-- a line for each variable
abbrev pub line_spelt : (ObjId → Bool) → Store → List CellId → Spelt → List ℕ × Value → Spelt
line_spelt live cells shared s p = add (codes "\n") (spelt live cells shared max_saved_levels (add (p.0 ++ codes " ") s) p.1)

-- the first line, and then the variables
abbrev pub text_spelt : (ObjId → Bool) → Store → List CellId → List (List ℕ × Value) → List ℕ
text_spelt live cells shared ps = (fold (line_spelt live cells shared) (record { done = []; text = codes "#2:0\n" }) ps).text

-- nothing is spelled where cells lie too deep
abbrev pub spelled_by : (ObjId → Bool) → Store → List (List ℕ × Value) → Walk → Option (List ℕ)
spelled_by live cells ps w = if w.is_deep then None else Some (encode_utf8_all (text_spelt live cells (shared_in w) ps))

-- The text of named values: none where cells lie more than 100 levels deep.
unfoldable pub saved_text : (ObjId → Bool) → Store → List (List ℕ × Value) → Option (List ℕ)
saved_text live cells ps = spelled_by live cells ps (walk_of live cells (map (λ p. p.1) ps))

-- Reading

-- What is left of a line, the cells that have numbers, and the cells with the new ones.
pub record Rest : Type 0 where
  pub text : List ℕ
  pub shared : List CellId
  pub cells : Store

-- what was read, and what is left; or nothing where the line is faulty
abbrev pub Reading : Type 0 → Type 0
Reading A = Option (A × Rest)

-- first this is read, and then that
abbrev pub then_read : {A B : Type 0} → Reading A → (A → Rest → Reading B) → Reading B
then_read None go = None
then_read (Some p) go = go p.0 p.1

-- what is left
abbrev pub left : List ℕ → Rest → Rest
left t r = record r { text = t }

-- whether the rest begins with a mark
abbrev pub begins : List ℕ → Rest → Bool
begins mark r = starts_with nat_eq r.text mark

-- a mark that must stand here
abbrev pub needed : List ℕ → Rest → Reading (Unit {0})
needed mark r = if begins mark r then Some (tt, left (drop (length mark) r.text) r) else None

-- a number in decimal, without a leading zero
abbrev pub digits_at : List ℕ → List ℕ
digits_at t = take (prefix_len is_ascii_digit t) t

-- whether digits are a number
abbrev pub is_number : List ℕ → Bool
is_number [] = false
is_number (d ∷ ds) = not (nat_eq d 48) || nat_eq (length ds) 0

-- a number
abbrev pub number_read : Rest → Reading ℕ
number_read r = if is_number (digits_at r.text) then Some (digits_number (digits_at r.text), left (drop (length (digits_at r.text)) r.text) r) else None

-- an integer in its range; `-0` is none
abbrev pub int_of : Bool → ℕ → Rest → Reading Value
int_of negative n r = if negative && nat_eq n 0 then None else elim (signed negative n) [ Some i ↦ Some (Int i, r) | None ↦ None ]

-- an integer
abbrev pub int_read : Rest → Reading Value
int_read r =
    if begins (codes "-") r then then_read (number_read (left (drop 1 r.text) r)) (λ n r. int_of true n r)
    else then_read (number_read r) (λ n r. int_of false n r)

-- a text up to its `"`, behind what was read of it
abbrev pub escaped : ℕ → Option ℕ
escaped c =
    if nat_eq c 110 then Some 10 else (if nat_eq c 114 then Some 13 else (if nat_eq c 116 then Some 9 else (if nat_eq c 92 || nat_eq c 34 then Some c else None)))

-- the text and what is left, or nothing where no `"` comes or something stands there that is not spelled so; the flag says that a backslash stands before
abbrev pub text_read : List ℕ → Bool → List ℕ → Option (List ℕ × List ℕ)
text_read done true [] = None
text_read done true (c ∷ cs) = elim (escaped c) [ Some d ↦ text_read (done ++ d ∷ []) false cs | None ↦ None ]
text_read done false [] = None
text_read done false (c ∷ cs) =
    if nat_eq c 34 then (if nat_lt max_code_points (length done) then None else Some (done, cs))
    else (if nat_eq c 92 then text_read done true cs
    else (if nat_eq c 13 || nat_eq c 9 then None else text_read (done ++ c ∷ []) false cs))

-- a text that was read
abbrev pub as_text : Option (List ℕ × List ℕ) → Rest → Reading Value
as_text None r = None
as_text (Some p) r = Some (Str p.0, left p.1 r)

-- a new cell, and what it holds once that is read; one with a number has it from its beginning on
abbrev pub next_cell : Rest → CellId
next_cell r = record { 0 = length r.cells }

-- the cell begins
abbrev pub cell_begun : Bool → List ℕ → Content → Rest → Rest
cell_begun is_shared t x r = record { text = t; shared = if is_shared then r.shared ++ next_cell r ∷ [] else r.shared; cells = with_cell r.cells x }

-- an array is read
abbrev pub array_done : CellId → List Value → Rest → Reading Value
array_done c vs r = if nat_lt max_items (length vs) then None else Some (Arr c, record r { cells = content_set r.cells c (content.Array vs) })

-- a mapping is read
abbrev pub mapping_done : CellId → List (Value × Value) → Rest → Reading Value
mapping_done c ps r = if nat_lt max_items (length ps) then None else Some (Map c, record r { cells = content_set r.cells c (content.Mapping ps) })

-- a number `<n>` is that of a cell that was read; `<n>=` gives the next number to the cell that follows
abbrev pub shared_cell : ℕ → Rest → Reading CellId
shared_cell zero r = None
shared_cell (suc n) r = elim (slice_get r.shared n) [ Some c ↦ Some (c, r) | None ↦ None ]

-- whether a cell is an array
abbrev pub is_array_cell : Store → CellId → Bool
is_array_cell cells c = elim (unwrap_or (slice_get cells c.0) None) [ Some x ↦ elim x [ content.Array vs ↦ true | content.Mapping ps ↦ false ] | None ↦ false ]

-- the value that names a cell
abbrev pub value_of_cell : CellId → Rest → Reading Value
value_of_cell c r = Some (if is_array_cell r.cells c then Arr c else Map c, r)

-- A value, by the mark that it begins with; cells may lie so many levels deep. Each step reads something, so that the length bounds the steps.
abbrev mutual
  pub value_read : ℕ → ℕ → Rest → Reading Value
  value_read zero levels r = None
  value_read (suc n) levels r =
      if begins (codes "<") r then
      then_read (number_read (left (drop 1 r.text) r)) (λ k r. then_read (needed (codes ">") r) (λ x r.
      if begins (codes "=") r then (if nat_eq k (length r.shared + 1) then cell_read n levels true (left (drop 1 r.text) r) else None)
      else then_read (shared_cell k r) value_of_cell))
      else (if begins (codes "({") r || begins (codes "([") r then cell_read n levels false r
      else (if begins (codes "\"") r then as_text (text_read [] false (drop 1 r.text)) r else int_read r))

  pub cell_read : ℕ → ℕ → Bool → Rest → Reading Value
  cell_read zero levels is_shared r = None
  cell_read (suc n) zero is_shared r = None
  cell_read (suc n) (suc levels) is_shared r =
      if begins (codes "({") r then
      then_read (items_read n levels [] (cell_begun is_shared (drop 2 r.text) (content.Array []) r)) (λ vs x. array_done (next_cell r) vs x)
      else (if begins (codes "([") r then
      then_read (pairs_read n levels [] (cell_begun is_shared (drop 2 r.text) (content.Mapping []) r)) (λ ps x. mapping_done (next_cell r) ps x)
      else None)

  pub items_read : ℕ → ℕ → List Value → Rest → Reading (List Value)
  items_read zero levels vs r = None
  items_read (suc n) levels vs r =
      if begins (codes "})") r then Some (vs, left (drop 2 r.text) r)
      else then_read (value_read n levels r) (λ v r. then_read (needed (codes ",") r) (λ x r. items_read n levels (vs ++ v ∷ []) r))

  pub pairs_read : ℕ → ℕ → List (Value × Value) → Rest → Reading (List (Value × Value))
  pairs_read zero levels ps r = None
  pairs_read (suc n) levels ps r =
      if begins (codes "])") r then Some (ps, left (drop 2 r.text) r)
      else then_read (value_read n levels r) (λ k r. then_read (needed (codes ":") r) (λ x r.
      then_read (value_read n levels r) (λ v r. then_read (needed (codes ",") r) (λ y r. pairs_read n levels (insert_entry value_eq ps k v) r))))

-- a name: a letter or `_`, then letters, digits or `_`
abbrev pub is_letter : ℕ → Bool
is_letter c = (nat_le 97 c && nat_le c 122) || (nat_le 65 c && nat_le c 90) || nat_eq c 95

-- the name of a variable
abbrev pub is_variable_name : List ℕ → Bool
is_variable_name [] = false
is_variable_name (c ∷ cs) = is_letter c && list_all (λ d. is_letter d || is_ascii_digit d) cs

-- the whole of what is left must be read
abbrev pub whole : Reading Value → Reading Value
whole None = None
whole (Some p) = if nat_eq (length p.1.text) 0 then Some p else None

-- a line: a name, a space and a value
pub record Line : Type 0 where
  pub name : List ℕ
  pub value : Value

-- the line with its value
abbrev pub named : List ℕ → Reading Value → Reading Line
named name None = None
named name (Some p) = Some (record { name = name; value = p.0 }, p.1)

-- a line as text
abbrev pub line_of : List ℕ → Rest → Reading Line
line_of t r =
    let name : List ℕ = before_first (λ c. nat_eq c 32) t in
    if is_variable_name name && nat_lt (length name) (length t) then named name (whole (value_read (3 + length t + length t) max_saved_levels (left (drop (length name + 1) t) r)))
    else None

-- a line as bytes, which are UTF-8
abbrev pub line_read : List ℕ → Rest → Reading Line
line_read bytes r = if nat_eq (utf8_valid_len bytes) (length bytes) then line_of (chars bytes) r else None

-- The lines, from a number on: the last piece, behind the last newline, must be empty.
pub data Lines : Type 0 where
  Read : List Line → Store → Lines
  Faulty : ℕ → Lines

-- each line in order, up to the first that is faulty
abbrev pub lines_read : ℕ → List Line → List (List ℕ) → Rest → Lines
lines_read n done [] r = Read done r.cells
lines_read n done (last ∷ []) r = if nat_eq (length last) 0 then Read done r.cells else Faulty n
lines_read n done (l ∷ m ∷ ls) r = elim (line_read l r) [ Some p ↦ lines_read (n + 1) (done ++ p.0 ∷ []) (m ∷ ls) p.1 | None ↦ Faulty n ]

-- the first line, if it begins with `#`: one of the digits 0 to 2, `:`, and one or more digits
abbrev pub is_header : List ℕ → Bool
is_header l =
    nat_le 4 (length l) && nat_le 48 (slice_index l 1) && nat_le (slice_index l 1) 50 && nat_eq (slice_index l 2) 58 && list_all is_ascii_digit (drop 3 l)

-- the first line may be a header
abbrev pub all_lines : List (List ℕ) → Rest → Lines
all_lines [] r = Read [] r.cells
all_lines (l ∷ []) r = if nat_eq (length l) 0 then Read [] r.cells else Faulty 1
all_lines (l ∷ m ∷ ls) r =
    if nat_eq (slice_index l 0) 35 then (if is_header l then lines_read 2 [] (m ∷ ls) r else Faulty 1) else lines_read 1 [] (l ∷ m ∷ ls) r

-- the k-th line of a name is for the k-th variable of that name
abbrev pub lines_of : List ℕ → List Line → List Line
lines_of name ls = filter (λ l. bytes_eq l.name name) ls

-- the value of a line
abbrev pub value_at : Option Line → Option Value
value_at None = None
value_at (Some l) = Some l.value

-- how often a name stands in a list
abbrev pub count_in : List ℕ → List (List ℕ) → ℕ
count_in name names = length (filter (λ n. bytes_eq n name) names)

-- a value or nothing for each name, behind these
abbrev pub given : List (List ℕ) → List (List ℕ) → List Line → List (Option Value)
given before [] ls = []
given before (n ∷ ns) ls = value_at (slice_get (lines_of n ls) (count_in n before)) ∷ given (before ++ n ∷ []) ns ls

-- what reading a saved text gives: a value or nothing for each name, and the cells with the new ones; or the number of its first faulty line
pub data Restored : Type 0 where
  Values : List (Option Value) → Store → Restored
  FaultyLine : ℕ → Restored

-- what the lines give
abbrev pub restored_from : List (List ℕ) → Lines → Restored
restored_from names (Read ls cells) = Values (given [] names ls) cells
restored_from names (Faulty n) = FaultyLine n

-- What a saved text gives for names: a value or nothing for each, and the new cells; or its first faulty line.
unfoldable pub restored_text : List (List ℕ) → List ℕ → Store → Restored
restored_text names bytes cells = restored_from names (all_lines (pieces (codes "\n") bytes) (record { text = []; shared = []; cells = cells }))
