-- Reading saved text, with what is wrong where it is refused. `SaveText` tells only which line is faulty: that both tell the same but for this
-- is the law `law_kinds`.
use Rattle.lp_values.specs.Limits.{max_code_points, max_items}
use Rattle.std.specs.Prelude.{ℕ, zero, suc, ◌+◌, List, [], ◌∷◌, ◌++◌, length, take, drop, Bool, true, false, ◌&&◌, ◌||◌, Option, Some, None, slice_index, nat_eq, nat_lt, chars, codes, if◌then◌else◌}
use Rattle.std.specs.List.{before_first}
use Rattle.std.specs.Str.Lossy.{utf8_valid_len}
use Rattle.indexmap.specs.IndexMap.{insert_entry}
use Rattle.lp_values.specs.declared.id.CellId.{CellId}
use Rattle.lp_values.specs.declared.value.Value.{Value}
use Rattle.lp_values.specs.declared.value.Value.TheVariants.{Arr, Map, Str}
use Rattle.lp_values.specs.Read.{value_eq}
use Rattle.lp_cells.specs.declared.content.Content.TheVariants as content
use Rattle.lp_cells.specs.Cells.{Store, content_set}
use Rattle.lp_text.specs.Pieces.{pieces}
use Rattle.lp_save.specs.declared.fault.FaultKind.{FaultKind}
use Rattle.lp_save.specs.declared.fault.FaultKind.TheVariants.{BadHeader, BadName, BadValue, BadShare, TooLong, TooNested}
use Rattle.lp_save.specs.SaveText.{Line, Reading, Rest, Restored, Values, FaultyLine, begins, cell_begun, escaped, given, int_read, is_header, is_variable_name, left, max_saved_levels, needed, next_cell, number_read, shared_cell, value_of_cell}

-- what was read, and what is left; or what is wrong at the leftmost fault
pub data Found (A : Type 0) : Type 0 where
  Done : A → Rest → Found A
  Wrong : FaultKind → Found A

-- first this is read, and then that
abbrev pub and_then : {A B : Type 0} → Found A → (A → Rest → Found B) → Found B
and_then (Done x r) go = go x r
and_then (Wrong k) go = Wrong k

-- where a part can be wrong in one way alone
abbrev pub or_wrong : {A : Type 0} → FaultKind → Reading A → Found A
or_wrong k None = Wrong k
or_wrong k (Some p) = Done p.0 p.1

-- a text and what is left of the line, or what is wrong
pub data TextFound : Type 0 where
  Text : List ℕ → List ℕ → TextFound
  NoText : FaultKind → TextFound

-- A text up to its `"`, behind what was read of it; the flag says that a backslash stands before. It is too long at the code point that is one
-- too many.
abbrev pub text_at : List ℕ → Bool → List ℕ → TextFound
text_at done true [] = NoText BadValue
text_at done true (c ∷ cs) = elim (escaped c) [ Some d ↦ if nat_lt (length done) max_code_points then text_at (done ++ d ∷ []) false cs else NoText TooLong | None ↦ NoText BadValue ]
text_at done false [] = NoText BadValue
text_at done false (c ∷ cs) =
    if nat_eq c 34 then Text done cs
    else (if nat_eq c 92 then text_at done true cs
    else (if nat_eq c 13 || nat_eq c 9 then NoText BadValue
    else (if nat_lt (length done) max_code_points then text_at (done ++ c ∷ []) false cs else NoText TooLong)))

-- a text that was read
abbrev pub text_value : TextFound → Rest → Found Value
text_value (Text t cs) r = Done (Str t) (left cs r)
text_value (NoText k) r = Wrong k

-- what an array or a mapping holds is put into its cell
abbrev pub array_filled : CellId → List Value → Rest → Rest
array_filled c vs r = record r { cells = content_set r.cells c (content.Array vs) }

abbrev pub mapping_filled : CellId → List (Value × Value) → Rest → Rest
mapping_filled c ps r = record r { cells = content_set r.cells c (content.Mapping ps) }

-- the value that names the shared cell with a number, from 1
abbrev pub shared_at : ℕ → Rest → Found Value
shared_at k r = and_then (or_wrong BadShare (shared_cell k r)) (λ c r. or_wrong BadShare (value_of_cell c r))

-- the number of a shared cell behind its `<`, and what reads the cell where it is a new one
abbrev pub numbered_at : (Rest → Found Value) → ℕ → Rest → Found Value
numbered_at cell k r =
    if begins (codes "=") r then (if nat_eq k (length r.shared + 1) then cell (left (drop 1 r.text) r) else Wrong BadShare)
    else shared_at k r

abbrev pub share_at : (Rest → Found Value) → Rest → Found Value
share_at cell r = and_then (or_wrong BadValue (number_read r)) (λ k r. and_then (or_wrong BadValue (needed (codes ">") r)) (λ x r. numbered_at cell k r))

-- A value, by the mark that it begins with; cells may lie so many levels deep. Each step reads something, so that the length bounds the steps.
-- An array is too long where an item ends that is one too many, and a mapping where such a pair ends. Numbers of shared cells are wrong where none
-- has that number yet, where a new one is not the next, and where no array or mapping follows it.
abbrev mutual
  pub value_at : ℕ → ℕ → Rest → Found Value
  value_at zero levels r = Wrong BadValue
  value_at (suc n) levels r =
      if begins (codes "<") r then share_at (λ x. cell_at n levels true x) (left (drop 1 r.text) r)
      else (if begins (codes "({") r || begins (codes "([") r then cell_at n levels false r
      else (if begins (codes "\"") r then text_value (text_at [] false (drop 1 r.text)) r else or_wrong BadValue (int_read r)))

  pub cell_at : ℕ → ℕ → Bool → Rest → Found Value
  cell_at zero levels is_shared r = Wrong BadValue
  cell_at (suc n) zero is_shared r = if begins (codes "({") r || begins (codes "([") r then Wrong TooNested else Wrong BadShare
  cell_at (suc n) (suc levels) is_shared r =
      if begins (codes "({") r then
      and_then (items_at n levels [] (cell_begun is_shared (drop 2 r.text) (content.Array []) r)) (λ vs x. Done (Arr (next_cell r)) (array_filled (next_cell r) vs x))
      else (if begins (codes "([") r then
      and_then (pairs_at n levels [] (cell_begun is_shared (drop 2 r.text) (content.Mapping []) r)) (λ ps x. Done (Map (next_cell r)) (mapping_filled (next_cell r) ps x))
      else Wrong BadShare)

  pub items_at : ℕ → ℕ → List Value → Rest → Found (List Value)
  items_at zero levels vs r = Wrong BadValue
  items_at (suc n) levels vs r =
      if begins (codes "})") r then Done vs (left (drop 2 r.text) r)
      else and_then (value_at n levels r) (λ v r.
      if nat_lt (length vs) max_items then and_then (or_wrong BadValue (needed (codes ",") r)) (λ x r. items_at n levels (vs ++ v ∷ []) r)
      else Wrong TooLong)

  pub pairs_at : ℕ → ℕ → List (Value × Value) → Rest → Found (List (Value × Value))
  pairs_at zero levels ps r = Wrong BadValue
  pairs_at (suc n) levels ps r =
      if begins (codes "])") r then Done ps (left (drop 2 r.text) r)
      else and_then (value_at n levels r) (λ k r. and_then (or_wrong BadValue (needed (codes ":") r)) (λ x r. and_then (value_at n levels r) (λ v r.
      if nat_lt max_items (length (insert_entry value_eq ps k v)) then Wrong TooLong
      else and_then (or_wrong BadValue (needed (codes ",") r)) (λ y r. pairs_at n levels (insert_entry value_eq ps k v) r))))

-- the whole of what is left must be read
abbrev pub nothing_behind : Value → Rest → Found Value
nothing_behind v r = if nat_eq (length r.text) 0 then Done v r else Wrong BadValue

-- a line as text
abbrev pub line_at : List ℕ → Rest → Found Line
line_at t r =
    let name : List ℕ = before_first (λ c. nat_eq c 32) t in
    if is_variable_name name && nat_lt (length name) (length t) then
    and_then (and_then (value_at (3 + length t + length t) max_saved_levels (left (drop (length name + 1) t) r)) nothing_behind) (λ v r. Done (record { name = name; value = v }) r)
    else Wrong BadName

-- something stands behind a line that is none of the line
abbrev pub spoilt : Found Line → Found Line
spoilt (Done x r) = Wrong BadValue
spoilt (Wrong k) = Wrong k

-- a line as bytes, which are UTF-8; where they are not, something stands behind the part that is
abbrev pub bytes_at : List ℕ → Rest → Found Line
bytes_at bytes r =
    if nat_eq (utf8_valid_len bytes) (length bytes) then line_at (chars bytes) r
    else spoilt (line_at (chars (take (utf8_valid_len bytes) bytes)) r)

-- the lines, or the first that is faulty
pub data LinesFound : Type 0 where
  AllLines : List Line → Store → LinesFound
  FaultyAt : ℕ → FaultKind → LinesFound

-- the last piece, behind the last newline, is empty, or a line without its newline
abbrev pub last_at : ℕ → List Line → List ℕ → Rest → LinesFound
last_at n done last r = if nat_eq (length last) 0 then AllLines done r.cells else elim (spoilt (bytes_at last r)) [ Done x y ↦ FaultyAt n BadValue | Wrong k ↦ FaultyAt n k ]

-- each line in order, up to the first that is faulty
abbrev pub lines_at : ℕ → List Line → List (List ℕ) → Rest → LinesFound
lines_at n done [] r = AllLines done r.cells
lines_at n done (last ∷ []) r = last_at n done last r
lines_at n done (l ∷ m ∷ ls) r = elim (bytes_at l r) [ Done x y ↦ lines_at (n + 1) (done ++ x ∷ []) (m ∷ ls) y | Wrong k ↦ FaultyAt n k ]

-- the first line may be a header
abbrev pub lines_from : List (List ℕ) → Rest → LinesFound
lines_from [] r = AllLines [] r.cells
lines_from (l ∷ []) r = if nat_eq (slice_index l 0) 35 then FaultyAt 1 BadHeader else last_at 1 [] l r
lines_from (l ∷ m ∷ ls) r =
    if nat_eq (slice_index l 0) 35 then (if is_header l then lines_at 2 [] (m ∷ ls) r else FaultyAt 1 BadHeader) else lines_at 1 [] (l ∷ m ∷ ls) r

-- what a saved text gives for names: a value or nothing for each, and the cells with the new ones; or its first faulty line, with what is wrong there
pub data Outcome : Type 0 where
  Given : List (Option Value) → Store → Outcome
  FaultIn : ℕ → FaultKind → Outcome

abbrev pub outcome_of : List (List ℕ) → LinesFound → Outcome
outcome_of names (AllLines ls cells) = Given (given [] names ls) cells
outcome_of names (FaultyAt n k) = FaultIn n k

-- What a saved text gives for names, with what is wrong where it is refused.
unfoldable pub outcome : List (List ℕ) → List ℕ → Store → Outcome
outcome names bytes cells = outcome_of names (lines_from (pieces (codes "\n") bytes) (record { text = []; shared = []; cells = cells }))

-- the outcome, but for what is wrong
abbrev pub without_kind : Outcome → Restored
without_kind (Given vs cells) = Values vs cells
without_kind (FaultIn n k) = FaultyLine n
