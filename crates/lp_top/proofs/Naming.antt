-- Which command words name.
use Rattle.std.proofs.Common.{◌≡◌, ◌∙◌, ℕ, List, [], ◌∷◌, Bool, true, false, Option, Some, None, sym, ap, refl, map, String, string_bytes, slice_get, codes, if◌then◌else◌}
use Rattle.std.specs.Prelude.{Result, Ok, Err, IfOk}
use Rattle.std.specs.List.{list_all}
use Rattle.std.specs.declared.alloc.Global.{Global}
use Rattle.std.proofs.lemmas.List.Folds.{list_all-map}
use Rattle.clap.specs.Words.{App, HasMatchesOf, first_of, first_value, found_of, is_simple, is_simple_and_free, matches_of}
use Rattle.clap.specs.declared.parser.matches.ArgMatches.{ArgMatches}
use Rattle.clap.proofs.WalkLemmas.{first_value-rows}
use Rattle.clap.proofs.OnLiterals.{clap_on_literals}
use Rattle.lp_top.specs.declared.words.Command.{Command}
use Rattle.lp_top.specs.declared.words.CommandName.{CommandName}
use Rattle.lp_top.specs.declared.words.CommandName.TheVariants as name
use Rattle.lp_serve_words.specs.Words.{is_free_word, names_serve, serving_in}
use Rattle.lp_serve_words.specs.declared.words.WordsFault.{WordsFault}
use Rattle.lp_top.specs.Words.{command_named, line_of, fault_in_line, value_in, is_set, make_with, replay_with, with_values, taken_with, command_with, command_in, named_in, serve_with}

pub is_simple_line : (n : CommandName) → is_simple_and_free (line_of n) ≡ true
unfolding clap_on_literals
is_simple_line name.Replay = refl
is_simple_line name.Check = refl
is_simple_line name.Make = refl

-- clap says which matches the words of a command have
has_matches : (n : CommandName) → is_simple (line_of n) ≡ true
unfolding clap_on_literals
has_matches name.Replay = refl
has_matches name.Check = refl
has_matches name.Make = refl

-- the value that clap has under a name is the one of the definition
pub value_read : (n : CommandName) (id : List ℕ) (words : List (List ℕ)) (line : App) (m : ArgMatches) → line ≡ line_of n → HasMatchesOf line words m → first_value (found_of m) id ≡ value_in n id words
value_read n id words line m e h =
    first_value-rows (found_of m) id
    ∙ ap (first_of id) ((h (ap is_simple e ∙ has_matches n)).0 ∙ ap (λ a. matches_of a words) e)

-- words that clap takes
pub taken_by : (n : CommandName) (words : List (List ℕ)) → fault_in_line n words ≡ false → taken_with n words ≡ with_values n words
taken_by n words e = ap (λ b. if b then None else with_values n words) e

-- the first word says which command may be named
pub by_first : (ws : List (String Global)) (w : String Global) (o : Option CommandName) → Some w ≡ slice_get ws 0 → o ≡ command_named (string_bytes w) → named_in (map string_bytes ws) ≡ command_with o (map string_bytes ws)
by_first [] w o e n = absurd cc
by_first (x ∷ ws) w o e n =
    let same : w ≡ x = cc in
    ap (λ p. command_with p (map string_bytes (x ∷ ws))) (sym (n ∙ ap (λ v. command_named (string_bytes v)) same))

-- a word that no command takes
pub with_refused : (ws : List (String Global)) (n : CommandName) → list_all (λ w. is_free_word (string_bytes w)) ws ≡ false → command_with (Some n) (map string_bytes ws) ≡ None
with_refused ws n e = ap (λ b. if b then taken_with n (map string_bytes ws) else None) (list_all-map is_free_word string_bytes ws ∙ e)

pub with_free : (ws : List (String Global)) (n : CommandName) → list_all (λ w. is_free_word (string_bytes w)) ws ≡ true → command_with (Some n) (map string_bytes ws) ≡ taken_with n (map string_bytes ws)
with_free ws n e = ap (λ b. if b then taken_with n (map string_bytes ws) else None) (list_all-map is_free_word string_bytes ws ∙ e)

-- a replay with the values that clap has
pub replay_read : (words : List (List ℕ)) (time report : Option (List ℕ)) (asked : Bool) → time ≡ value_in name.Replay (codes "swap-time") words → report ≡ value_in name.Replay (codes "report") words → asked ≡ is_set report
    → with_values name.Replay words ≡ replay_with time asked
replay_read words time report asked t r a =
    sym (ap (λ v. replay_with v asked) t ∙ ap (λ b. replay_with (value_in name.Replay (codes "swap-time") words) b) (a ∙ ap is_set r))

-- a workload with the values that clap has
make_read : (n : CommandName) (words : List (List ℕ)) (count seed : Option (List ℕ)) → n ≡ name.Make → fault_in_line name.Make words ≡ false → count ≡ value_in name.Make (codes "count") words → seed ≡ value_in name.Make (codes "seed") words
    → taken_with n words ≡ make_with count seed
make_read n words count seed is taken c s =
    ap (λ m. taken_with m words) is ∙ taken_by name.Make words taken
    ∙ sym (ap (λ v. make_with v seed) c ∙ ap (λ v. make_with (value_in name.Make (codes "count") words) v) s)

pub make_taken : (n : CommandName) (words : List (List ℕ)) (count seed : Option (List ℕ)) (r : Result Command WordsFault) → n ≡ name.Make → fault_in_line name.Make words ≡ false → count ≡ value_in name.Make (codes "count") words → seed ≡ value_in name.Make (codes "seed") words
    → IfOk r (λ c. make_with count seed ≡ Some c) → IfOk r (λ c. taken_with n words ≡ Some c)
make_taken n words count seed (Ok c) is taken e f h = make_read n words count seed is taken e f ∙ h
make_taken n words count seed (Err e) is taken f g h = tt

pub make_refused : (n : CommandName) (words : List (List ℕ)) (count seed : Option (List ℕ)) → n ≡ name.Make → fault_in_line name.Make words ≡ false → count ≡ value_in name.Make (codes "count") words → seed ≡ value_in name.Make (codes "seed") words
    → make_with count seed ≡ None → taken_with n words ≡ None
make_refused n words count seed is taken e f h = make_read n words count seed is taken e f ∙ h

-- the first word names a command, each word may stand, and clap takes them
pub named_command : (ws : List (String Global)) (w : String Global) (n : CommandName) (r : Result Command WordsFault) → Some w ≡ slice_get ws 0 → Some n ≡ command_named (string_bytes w) → list_all (λ v. is_free_word (string_bytes v)) ws ≡ true
    → IfOk r (λ c. taken_with n (map string_bytes ws) ≡ Some c) → IfOk r (λ c. named_in (map string_bytes ws) ≡ Some c)
named_command ws w n (Ok c) first is free h = by_first ws w (Some n) first is ∙ with_free ws n free ∙ h
named_command ws w n (Err e) first is free h = tt

pub refused_command : (ws : List (String Global)) (w : String Global) (n : CommandName) → Some w ≡ slice_get ws 0 → Some n ≡ command_named (string_bytes w) → list_all (λ v. is_free_word (string_bytes v)) ws ≡ true
    → taken_with n (map string_bytes ws) ≡ None → named_in (map string_bytes ws) ≡ None
refused_command ws w n first is free h = by_first ws w (Some n) first is ∙ with_free ws n free ∙ h

-- the words are those of `serve`, or of another command
pub by_serve : (words : List (List ℕ)) → names_serve words ≡ true → command_in words ≡ serve_with (serving_in words)
by_serve words e = ap (λ b. if b then serve_with (serving_in words) else named_in words) e

pub by_another : (words : List (List ℕ)) → names_serve words ≡ false → command_in words ≡ named_in words
by_another words e = ap (λ b. if b then serve_with (serving_in words) else named_in words) e

pub serve_named : (ws : List (String Global)) (r : Result Command WordsFault) → names_serve (map string_bytes ws) ≡ true → IfOk r (λ c. serve_with (serving_in (map string_bytes ws)) ≡ Some c) → IfOk r (λ c. command_in (map string_bytes ws) ≡ Some c)
serve_named ws (Ok c) e h = by_serve (map string_bytes ws) e ∙ h
serve_named ws (Err f) e h = tt

pub another_named : (ws : List (String Global)) (r : Result Command WordsFault) → names_serve (map string_bytes ws) ≡ false → IfOk r (λ c. named_in (map string_bytes ws) ≡ Some c) → IfOk r (λ c. command_in (map string_bytes ws) ≡ Some c)
another_named ws (Ok c) e h = by_another (map string_bytes ws) e ∙ h
another_named ws (Err f) e h = tt
