-- Reading the items that may stand at a place.
use Rattle.std.specs.Borrow.{Bor}
use Rattle.std.specs.Prelude.{◌≡◌, ◌-◌, ◌^◌, min, Ok, Err, ℕ, ◌+◌, List, [], true, false, ◌&&◌, nat_le, nat_lt, Option, Some, None, Result, if◌then◌else◌, codes}
use Rattle.std.specs.Ordering.{nat_cmp, is_lt}
use Rattle.std.specs.Cmp.Lexicographic.{slice_cmp}
use Rattle.lp_events.specs.declared.event.Event.TheVariants.{Connect, Line, Gone, Tick, Reload, Swap}
use Rattle.lp_events.specs.declared.item.Item.{Item}
use Rattle.lp_events.specs.declared.item.Item.TheVariants as items
use Rattle.lp_events.specs.Script.{Context, Stage, Beginning, Filing, Running, Over}
use Rattle.lp_script.specs.declared.stop.Stop.{Stop}
use Rattle.lp_script.specs.declared.stop.ReadError.{ReadError}
use Rattle.lp_words.specs.Paths.{is_path, begins_path, is_name, begins_name}
use Rattle.lp_script.specs.Reading.{Fails, word_at, pair_at, after, made, either, nothing, none_at, counted_at, number_named, is_between, begins_between, begins_any, is_one_of, begins_one_of, is_empty}

-- the most seconds of a moment, the greatest seed, the greatest number of a connection, the most bytes of a line
abbrev pub last_moment : ℕ
last_moment = 1000000000000

abbrev pub last_seed : ℕ
last_seed = 18446744073709551615

abbrev pub last_number : ℕ
last_number = 4294967295

abbrev pub longest_line : ℕ
longest_line = 4096

-- a number between two numbers, up to an end
unfoldable pub between_at : ℕ → ℕ → ℕ → List ℕ → Result (ℕ × List ℕ) Stop
between_at low high end bytes = word_at end (number_named (is_between low high)) (begins_between low high) bytes

-- any number, up to a newline
unfoldable pub count_at : List ℕ → Result (ℕ × List ℕ) Stop
count_at bytes = word_at 10 (number_named (λ n. true)) begins_any bytes

-- a number of a list, up to an end
unfoldable pub one_of_at : List ℕ → ℕ → List ℕ → Result (ℕ × List ℕ) Stop
one_of_at numbers end bytes = word_at end (number_named (is_one_of numbers)) (begins_one_of numbers) bytes

-- a path above another one
abbrev pub path_named : List ℕ → List ℕ → Option (List ℕ)
path_named last word = if is_path word && is_lt (slice_cmp nat_cmp last word) then Some word else None

-- a path above another one, up to a space
unfoldable pub path_at : List ℕ → List ℕ → Result (List ℕ × List ℕ) Stop
path_at last bytes = word_at 32 (path_named last) (begins_path last) bytes

abbrev pub name_named : List ℕ → Option (List ℕ)
name_named word = if is_name word then Some word else None

-- the name of an object, up to a newline
unfoldable pub name_at : List ℕ → Result (List ℕ × List ℕ) Stop
name_at bytes = word_at 10 name_named begins_name bytes

-- counted bytes of a file, and of a line
unfoldable pub file_bytes_at : List ℕ → Result (List ℕ × List ℕ) Stop
file_bytes_at bytes = counted_at false count_at bytes

unfoldable pub line_bytes_at : List ℕ → Result (List ℕ × List ℕ) Stop
line_bytes_at bytes = counted_at true (between_at 0 longest_line 10) bytes

-- each kind of item
unfoldable pub head_at : List ℕ → Result (Item × List ℕ) Stop
head_at bytes = made (λ p. items.Head p.0 p.1) (after (codes "mudscript 1 ") (pair_at (between_at 0 last_seed 32) (between_at 0 last_moment 10))) bytes

unfoldable pub file_at : List ℕ → List ℕ → Result (Item × List ℕ) Stop
file_at last bytes = if begins_path last [] then made (λ p. items.File p.0 p.1) (after (codes "file ") (pair_at (path_at last) file_bytes_at)) bytes else none_at bytes

unfoldable pub start_at : List ℕ → Result (Item × List ℕ) Stop
start_at bytes = made (λ p. items.Start) (after (codes "start\n") nothing) bytes

unfoldable pub connect_at : ℕ → List ℕ → Result (Item × List ℕ) Stop
connect_at highest bytes = if nat_lt highest last_number then made (λ k. items.Event (Connect k)) (after (codes "connect ") (between_at (highest + 1) last_number 10)) bytes else none_at bytes

unfoldable pub line_at : List ℕ → List ℕ → Result (Item × List ℕ) Stop
line_at connected bytes = if is_empty connected then none_at bytes else made (λ p. items.Event (Line p.0 p.1)) (after (codes "line ") (pair_at (one_of_at connected 32) line_bytes_at)) bytes

unfoldable pub gone_at : List ℕ → List ℕ → Result (Item × List ℕ) Stop
gone_at connected bytes = if is_empty connected then none_at bytes else made (λ k. items.Event (Gone k)) (after (codes "gone ") (one_of_at connected 10)) bytes

unfoldable pub tick_at : ℕ → List ℕ → Result (Item × List ℕ) Stop
tick_at moment bytes = if nat_le moment last_moment then made (λ t. items.Event (Tick t)) (after (codes "tick ") (between_at moment last_moment 10)) bytes else none_at bytes

unfoldable pub reload_at : List ℕ → Result (Item × List ℕ) Stop
reload_at bytes = made (λ p. items.Event (Reload p.0 p.1)) (after (codes "reload ") (pair_at (path_at []) file_bytes_at)) bytes

unfoldable pub swap_at : List ℕ → Result (Item × List ℕ) Stop
swap_at bytes = made (λ p. items.Event (Swap p)) (after (codes "swap ") name_at) bytes

unfoldable pub end_at : List ℕ → Result (Item × List ℕ) Stop
end_at bytes = made (λ p. items.End) (after (codes "end\n") nothing) bytes

-- an item of the stage in which events stand
unfoldable pub running_at : Context → List ℕ → Result (Item × List ℕ) Stop
running_at c bytes = either 116 (tick_at c.moment) (either 115 swap_at (either 114 reload_at (either 108 (line_at c.connected) (either 103 (gone_at c.connected) (either 101 end_at (connect_at c.highest)))))) bytes

-- an item of a stage
unfoldable pub stage_at : Stage → Context → List ℕ → Result (Item × List ℕ) Stop
stage_at Beginning c bytes = head_at bytes
stage_at Filing c bytes = either 115 start_at (file_at c.last_path) bytes
stage_at Running c bytes = running_at c bytes
stage_at Over c bytes = none_at bytes

-- an item that may stand here
unfoldable pub item_at : Context → List ℕ → Result (Item × List ℕ) Stop
item_at c bytes = stage_at c.stage c bytes

-- What a reader of a count returned is what reading gives, where a number past the most of its type stands for any above it.
abbrev pub Counts : Result (ℕ × Bor (List ℕ)) ReadError → Result (ℕ × List ℕ) Stop → Type 0
Counts (Ok x) read = (n : ℕ) × (x.0 ≡ min n (2 ^ 128 - 1)) × (read ≡ Ok (n, x.1.now))
Counts (Err e) read = Fails e read
