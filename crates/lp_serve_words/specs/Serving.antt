-- The options of `serve`.
use Rattle.std.specs.Prelude.{ℕ, List, [], ◌∷◌, Bool, true, Option, Some, None, if◌then◌else◌, nat_eq, ◌||◌}
use Rattle.std.specs.Option.{option_copied}
use Rattle.lp_serve_words.specs.declared.values.ServeTexts.{ServeTexts}
use Rattle.lp_serve_words.specs.declared.words.Serving.{Serving}
use Rattle.lp_serve_words.specs.Values.{is_value, number_in}

-- the values of its options, where they were given
pub record ServeValues : Type 0 where
  pub lib : Option (List ℕ)
  pub port : Option (List ℕ)
  pub control : Option (List ℕ)
  pub ws : Option (List ℕ)
  pub swap_time : Option (List ℕ)
  pub seed : Option (List ℕ)
  pub record_file : Option (List ℕ)
  pub turns : Option (List ℕ)

-- the same, as the code has them
abbrev pub values_of : ServeTexts → ServeValues
values_of texts = record {
  lib = option_copied texts.lib;
  port = option_copied texts.port;
  control = option_copied texts.control;
  ws = option_copied texts.ws;
  swap_time = option_copied texts.swap_time;
  seed = option_copied texts.seed;
  record_file = option_copied texts.record_file;
  turns = option_copied texts.turns;
}

-- what follows from a value, if there is one
abbrev pub if_some : {A B : Type 0} → Option A → (A → Option B) → Option B
if_some None f = None
if_some (Some a) f = f a

-- a text that was given and may be a value
abbrev pub wanted_text : Option (List ℕ) → Option (List ℕ)
wanted_text None = None
wanted_text (Some value) = if is_value value then Some value else None

-- a text that need not be given, and else may be a value
abbrev pub is_free_text : Option (List ℕ) → Bool
is_free_text None = true
is_free_text (Some value) = is_value value

-- the text, where it is so
abbrev pub free_text : Option (List ℕ) → Option (Option (List ℕ))
free_text text = if is_free_text text then Some text else None

-- the number that is given, from `low` up to `high`, or else the usual one
abbrev pub number_or : ℕ → ℕ → ℕ → Option (List ℕ) → Option ℕ
number_or usual low high None = Some usual
number_or usual low high (Some value) = number_in low high (Some value)

-- two ports, which are wanted and differ
abbrev pub ports_of : Option ℕ → Option ℕ → Option (ℕ × ℕ)
ports_of (Some port) (Some control) = if nat_eq port control then None else Some (port, control)
ports_of (Some port) None = None
ports_of None control = None

abbrev pub two_ports_in : Option (List ℕ) → Option (List ℕ) → Option (ℕ × ℕ)
two_ports_in port control = ports_of (number_in 1 65535 port) (number_in 1 65535 control)

-- a third one, which differs from both; it is 0 where none is given
abbrev pub with_third : Option (ℕ × ℕ) → Option ℕ → Option ((ℕ × ℕ) × ℕ)
with_third (Some two) (Some third) = if nat_eq third two.0 || nat_eq third two.1 then None else Some (two, third)
with_third (Some two) None = None
with_third None third = None

abbrev pub ports_in : Option (List ℕ) → Option (List ℕ) → Option (List ℕ) → Option ((ℕ × ℕ) × ℕ)
ports_in port control ws = with_third (two_ports_in port control) (number_or 0 1 65535 ws)

-- a run of a server, where each of its values is one
abbrev pub serving_from : Option (List ℕ) → Option ((ℕ × ℕ) × ℕ) → Option ℕ → Option ℕ → Option (Option (List ℕ)) → Option ℕ → Option Serving
serving_from lib ports time seed file turns =
    if_some lib (λ l. if_some ports (λ p. if_some time (λ t. if_some seed (λ s. if_some file (λ f. if_some turns (λ n. Some (record { lib = l; port = p.0.0; control = p.0.1; ws = p.1; swap_time = t; seed = s; record_file = f; turns = n })))))))

-- A RUN OF A SERVER: the folder of its files and two ports that differ are wanted; a third port, for WebSockets, differs from both; the swap time is at most 1000000000 seconds, by default 900; the seed, by
-- default 0, and how often the wire is polled at most, by default 1000000000000 times, are below 2^64.
abbrev pub serving_with : ServeValues → Option Serving
serving_with v =
    serving_from (wanted_text v.lib) (ports_in v.port v.control v.ws) (number_or 900 0 1000000000 v.swap_time) (number_or 0 0 18446744073709551615 v.seed) (free_text v.record_file) (number_or 1000000000000 0 18446744073709551615 v.turns)
