-- The words of the command line.
use Rattle.std.specs.Prelude.{◌≡◌, ℕ, List, [], ◌∷◌, map, bytes_eq, codes, Bool, true, false, Option, Some, None, if◌then◌else◌, String, string_bytes}
use Rattle.std.specs.declared.alloc.Global.{Global}
use Rattle.clap.specs.Words.{App, Rule, new_app, new_rule, with_rule, fault_of, matches_of, first_of}
use Rattle.clap.specs.declared.builder.action.ArgAction.TheVariants.{Set, SetTrue}
use Rattle.lp_serve_words.specs.Values.{is_value, number_in}
use Rattle.lp_serve_words.specs.Words.{are_free, has_some, names_serve, serving_in}
use Rattle.lp_serve_words.specs.declared.words.Serving.{Serving}
use Rattle.lp_top.specs.declared.words.Command.{Command}
use Rattle.lp_top.specs.declared.words.Command.TheVariants.{Replay, Check, Make, Serve}
use Rattle.lp_top.specs.declared.words.CommandName.{CommandName}
use Rattle.lp_top.specs.declared.words.CommandName.TheVariants as name

-- the command that a word names, if it is one of those but `serve`
abbrev pub command_named : List ℕ → Option CommandName
command_named word = if bytes_eq word (codes "replay") then Some name.Replay else (if bytes_eq word (codes "check") then Some name.Check else (if bytes_eq word (codes "make") then Some name.Make else None))

abbrev pub text_of : CommandName → List ℕ
text_of name.Replay = codes "replay"
text_of name.Check = codes "check"
text_of name.Make = codes "make"

-- the option `--swap-time`, with one value
abbrev pub swap_time_option : Rule
swap_time_option = record (new_rule (codes "swap-time")) { long = Some (codes "swap-time"); action = Some Set }

-- the option `--report`, without a value: clap has the value `true` for it where it is given, and else `false`
abbrev pub report_option : Rule
report_option = record (new_rule (codes "report")) { long = Some (codes "report"); action = Some SetTrue }

-- the option `--simul`, with one value
abbrev pub simul_option : Rule
simul_option = record (new_rule (codes "simul")) { long = Some (codes "simul"); action = Some Set }

-- a value that stands behind the name of a command without a name of its own, and is wanted
abbrev pub wanted_value : List ℕ → Rule
wanted_value id = record (new_rule id) { action = Some Set; required = true }

-- the words of a command as clap has them: its name, and its options and values
abbrev pub line_of : CommandName → App
line_of name.Replay = with_rule (with_rule (new_app (codes "replay")) swap_time_option) report_option
line_of name.Check = with_rule (new_app (codes "check")) simul_option
line_of name.Make = with_rule (with_rule (new_app (codes "make")) (wanted_value (codes "count"))) (wanted_value (codes "seed"))

-- clap finds fault with the words of a command, of which the first is its name
abbrev pub fault_in_line : CommandName → List (List ℕ) → Bool
fault_in_line name words = has_some (fault_of (line_of name) words)

-- the value that clap has under this name, if the words have it
abbrev pub value_in : CommandName → List ℕ → List (List ℕ) → Option (List ℕ)
value_in name id words = first_of id (matches_of (line_of name) words)

-- a check with the value of `--simul`, if that may be one
abbrev pub check_with : Option (List ℕ) → Option Command
check_with None = Some (Check None)
check_with (Some value) = if is_value value then Some (Check (Some value)) else None

-- whether an option without a value was given
abbrev pub is_set : Option (List ℕ) → Bool
is_set None = false
is_set (Some value) = bytes_eq value (codes "true")

-- a replay with the value of `--swap-time`, a number up to 1000000000; without it 900
abbrev pub replay_of : Option ℕ → Bool → Option Command
replay_of (Some n) report = Some (Replay n report)
replay_of None report = None

abbrev pub replay_with : Option (List ℕ) → Bool → Option Command
replay_with None report = Some (Replay 900 report)
replay_with (Some value) report = replay_of (number_in 0 1000000000 (Some value)) report

abbrev pub make_of : Option ℕ → Option ℕ → Option Command
make_of (Some count) (Some seed) = Some (Make count seed)
make_of (Some count) None = None
make_of None seed = None

-- a workload of 1 to 200000 events, by a seed that is below 2^64
abbrev pub make_with : Option (List ℕ) → Option (List ℕ) → Option Command
make_with count seed = make_of (number_in 1 200000 count) (number_in 0 18446744073709551615 seed)

-- the command of this name with its values
abbrev pub with_values : CommandName → List (List ℕ) → Option Command
with_values name.Replay words = replay_with (value_in name.Replay (codes "swap-time") words) (is_set (value_in name.Replay (codes "report") words))
with_values name.Check words = check_with (value_in name.Check (codes "simul") words)
with_values name.Make words = make_with (value_in name.Make (codes "count") words) (value_in name.Make (codes "seed") words)

-- the command of this name, if clap takes the words
abbrev pub taken_with : CommandName → List (List ℕ) → Option Command
taken_with name words = if fault_in_line name words then None else with_values name words

-- the command, if the words belong to it
abbrev pub command_with : Option CommandName → List (List ℕ) → Option Command
command_with None words = None
command_with (Some name) words = if are_free words then taken_with name words else None

-- the command that the first word names, if it is one of those but `serve`
abbrev pub named_in : List (List ℕ) → Option Command
named_in [] = None
named_in (word ∷ rest) = command_with (command_named word) (word ∷ rest)

-- a game that is served, by words that say how
abbrev pub serve_with : Option Serving → Option Command
serve_with None = None
serve_with (Some serving) = Some (Serve serving)

-- THE COMMAND that the words, without the program's name, name
abbrev pub command_in : List (List ℕ) → Option Command
command_in words = if names_serve words then serve_with (serving_in words) else named_in words

-- the words name this command
abbrev pub Name : List (String Global) → Command → Type 0
Name words command = command_in (map string_bytes words) ≡ Some command

-- they name a command that makes a workload
abbrev pub NameMake : List (String Global) → Type 0
NameMake words = (count : ℕ) × (seed : ℕ) × Name words (Make count seed)

-- they name one that serves players
abbrev pub NameServe : List (String Global) → Type 0
NameServe words = (serving : Serving) × Name words (Serve serving)
