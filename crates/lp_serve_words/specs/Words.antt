-- The words of `serve`.
use Rattle.std.specs.Prelude.{ℕ, List, [], ◌∷◌, codes, bytes_eq, Bool, true, false, not, ◌&&◌, Option, Some, None, if◌then◌else◌}
use Rattle.std.specs.List.{list_all}
use Rattle.clap.specs.Kinds.{Kinds}
use Rattle.clap.specs.Words.{App, Rule, new_app, new_rule, with_rule, fault_of, matches_of, first_of, first_value, found_of}
use Rattle.clap.specs.declared.builder.action.ArgAction.TheVariants.{Set}
use Rattle.clap.specs.declared.parser.matches.ArgMatches.{ArgMatches}
use Rattle.lp_serve_words.specs.Serving.{ServeValues, serving_with}
use Rattle.lp_serve_words.specs.declared.words.Serving.{Serving}

-- the first word names the command
abbrev pub names_serve : List (List ℕ) → Bool
names_serve [] = false
names_serve (word ∷ rest) = bytes_eq word (codes "serve")

-- a word that is not one of those that no command takes, whatever clap says of them
abbrev pub is_free_word : List ℕ → Bool
is_free_word word = not (bytes_eq word (codes "--")) && not (bytes_eq word (codes "-h")) && not (bytes_eq word (codes "--help"))

abbrev pub are_free : List (List ℕ) → Bool
are_free words = list_all is_free_word words

-- an option with one value
abbrev pub valued : List ℕ → Rule
valued id = record (new_rule id) { long = Some id; action = Some Set }

-- an option with one value that is wanted
abbrev pub wanted_option : List ℕ → Rule
wanted_option id = record (new_rule id) { long = Some id; action = Some Set; required = true }

-- the words as clap has them: the command's name, and its options
abbrev pub lib_line : App
lib_line = with_rule (new_app (codes "serve")) (wanted_option (codes "lib"))

abbrev pub ports_line : App
ports_line = with_rule (with_rule lib_line (wanted_option (codes "port"))) (wanted_option (codes "control"))

abbrev pub web_line : App
web_line = with_rule ports_line (valued (codes "ws"))

abbrev pub numbers_line : App
numbers_line = with_rule (with_rule web_line (valued (codes "swap-time"))) (valued (codes "seed"))

abbrev pub serve_line : App
serve_line = with_rule (with_rule numbers_line (valued (codes "record"))) (valued (codes "turns"))

abbrev pub has_some : Kinds → Bool
has_some [] = false
has_some (k ∷ ks) = true

-- the value that clap has under this name, if the words have it
abbrev pub value_in : List ℕ → List (List ℕ) → Option (List ℕ)
value_in id words = first_of id (matches_of serve_line words)

abbrev pub values_in : List (List ℕ) → ServeValues
values_in words = record {
  lib = value_in (codes "lib") words;
  port = value_in (codes "port") words;
  control = value_in (codes "control") words;
  ws = value_in (codes "ws") words;
  swap_time = value_in (codes "swap-time") words;
  seed = value_in (codes "seed") words;
  record_file = value_in (codes "record") words;
  turns = value_in (codes "turns") words;
}

-- the same of what clap has found
abbrev pub values_found : ArgMatches → ServeValues
values_found m = record {
  lib = first_value (found_of m) (codes "lib");
  port = first_value (found_of m) (codes "port");
  control = first_value (found_of m) (codes "control");
  ws = first_value (found_of m) (codes "ws");
  swap_time = first_value (found_of m) (codes "swap-time");
  seed = first_value (found_of m) (codes "seed");
  record_file = first_value (found_of m) (codes "record");
  turns = first_value (found_of m) (codes "turns");
}

-- how players are served, if clap takes the words
abbrev pub serving_taken : List (List ℕ) → Option Serving
serving_taken words = if has_some (fault_of serve_line words) then None else serving_with (values_in words)

-- HOW PLAYERS ARE SERVED by the words, without the program's name, if they are those of `serve`.
abbrev pub serving_in : List (List ℕ) → Option Serving
serving_in words = if names_serve words then (if are_free words then serving_taken words else None) else None
