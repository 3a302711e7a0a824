-- Which words are those of `serve`.
use Rattle.std.proofs.Common.{◌≡◌, ◌∙◌, ℕ, List, [], ◌∷◌, Bool, true, false, Option, Some, None, sym, ap, refl, map, String, string_bytes, codes, if◌then◌else◌}
use Rattle.std.specs.List.{list_all}
use Rattle.std.specs.declared.alloc.Global.{Global}
use Rattle.std.proofs.lemmas.List.Folds.{list_all-map}
use Rattle.clap.specs.Kinds.{Kinds, IsAmong}
use Rattle.clap.specs.Words.{App, HasMatchesOf, first_of, first_value, found_of, is_simple, is_simple_and_free, matches_of, fault_of}
use Rattle.clap.specs.declared.parser.matches.ArgMatches.{ArgMatches}
use Rattle.clap.proofs.WalkLemmas.{first_value-rows}
use Rattle.clap.specs.declared.error.kind.ErrorKind.{ErrorKind}
use Rattle.clap.proofs.OnLiterals.{clap_on_literals}
use Rattle.lp_serve_words.specs.Serving.{ServeValues, serving_from, serving_with, values_of}
use Rattle.lp_serve_words.specs.Words.{are_free, has_some, is_free_word, names_serve, serve_line, serving_in, serving_taken, value_in, values_found, values_in}
use Rattle.lp_serve_words.specs.declared.words.Serving.{Serving}

-- a kind among some is one
pub some_kind : (k : ErrorKind) (ks : Kinds) → IsAmong k ks → has_some ks ≡ true
some_kind k [] h = absurd h
some_kind k (x ∷ xs) h = refl

pub is_simple_line : is_simple_and_free serve_line ≡ true
unfolding clap_on_literals
is_simple_line = refl

-- clap says which matches the words have
has_matches : is_simple serve_line ≡ true
unfolding clap_on_literals
has_matches = refl

-- the value that clap has under a name is the one of the definition
value_read : (id : List ℕ) (words : List (List ℕ)) (line : App) (m : ArgMatches) → line ≡ serve_line → HasMatchesOf line words m → first_value (found_of m) id ≡ value_in id words
value_read id words line m e h =
    first_value-rows (found_of m) id
    ∙ ap (first_of id) ((h (ap is_simple e ∙ has_matches)).0 ∙ ap (λ a. matches_of a words) e)

values_read : (words : List (List ℕ)) (line : App) (m : ArgMatches) → line ≡ serve_line → HasMatchesOf line words m → values_found m ≡ values_in words
values_read words line m e h =
    let lib = value_read (codes "lib") words line m e h in
    let port = value_read (codes "port") words line m e h in
    let control = value_read (codes "control") words line m e h in
    let ws = value_read (codes "ws") words line m e h in
    let time = value_read (codes "swap-time") words line m e h in
    let seed = value_read (codes "seed") words line m e h in
    let file = value_read (codes "record") words line m e h in
    let turns = value_read (codes "turns") words line m e h in
    cc

-- what clap takes says how players are served
pub taken_is : (words : List (List ℕ)) (line : App) (m : ArgMatches) (v : ServeValues) (o : Option Serving) → line ≡ serve_line → has_some (fault_of line words) ≡ false → HasMatchesOf line words m → v ≡ values_found m
    → serving_with v ≡ o → serving_taken words ≡ o
taken_is words line m v o e f h w k =
    ap (λ b. if b then None else serving_with (values_in words)) (sym (ap (λ a. has_some (fault_of a words)) e) ∙ f)
    ∙ ap serving_with (sym (w ∙ values_read words line m e h))
    ∙ k

-- words with which clap finds fault
pub taken_not : (words : List (List ℕ)) (line : App) → line ≡ serve_line → has_some (fault_of line words) ≡ true → serving_taken words ≡ None
taken_not words line e f = ap (λ b. if b then None else serving_with (values_in words)) (sym (ap (λ a. has_some (fault_of a words)) e) ∙ f)

-- another first word
pub other_word : (words : List (List ℕ)) → names_serve words ≡ false → serving_in words ≡ None
other_word words e = ap (λ b. if b then (if are_free words then serving_taken words else None) else None) e

-- a word that no command takes
pub word_refused : (ws : List (String Global)) → names_serve (map string_bytes ws) ≡ true → list_all (λ w. is_free_word (string_bytes w)) ws ≡ false → serving_in (map string_bytes ws) ≡ None
word_refused ws e f =
    ap (λ b. if b then (if are_free (map string_bytes ws) then serving_taken (map string_bytes ws) else None) else None) e
    ∙ ap (λ b. if b then serving_taken (map string_bytes ws) else None) (list_all-map is_free_word string_bytes ws ∙ f)

pub words_stand : (ws : List (String Global)) (o : Option Serving) → names_serve (map string_bytes ws) ≡ true → list_all (λ w. is_free_word (string_bytes w)) ws ≡ true → serving_taken (map string_bytes ws) ≡ o → serving_in (map string_bytes ws) ≡ o
words_stand ws o e f k =
    ap (λ b. if b then (if are_free (map string_bytes ws) then serving_taken (map string_bytes ws) else None) else None) e
    ∙ ap (λ b. if b then serving_taken (map string_bytes ws) else None) (list_all-map is_free_word string_bytes ws ∙ f)
    ∙ k

-- a value that is wanting or wrong
pub no_lib : (a : Option (List ℕ)) (b : Option ((ℕ × ℕ) × ℕ)) (c d : Option ℕ) (e : Option (Option (List ℕ))) (f : Option ℕ) → a ≡ None → serving_from a b c d e f ≡ None
no_lib None b c d e f h = refl
no_lib (Some x) b c d e f h = absurd cc

pub no_ports : (a : Option (List ℕ)) (b : Option ((ℕ × ℕ) × ℕ)) (c d : Option ℕ) (e : Option (Option (List ℕ))) (f : Option ℕ) → b ≡ None → serving_from a b c d e f ≡ None
no_ports None b c d e f h = refl
no_ports (Some x) None c d e f h = refl
no_ports (Some x) (Some y) c d e f h = absurd cc

pub no_time : (a : Option (List ℕ)) (b : Option ((ℕ × ℕ) × ℕ)) (c d : Option ℕ) (e : Option (Option (List ℕ))) (f : Option ℕ) → c ≡ None → serving_from a b c d e f ≡ None
no_time None b c d e f h = refl
no_time (Some x) None c d e f h = refl
no_time (Some x) (Some y) None d e f h = refl
no_time (Some x) (Some y) (Some z) d e f h = absurd cc

pub no_seed : (a : Option (List ℕ)) (b : Option ((ℕ × ℕ) × ℕ)) (c d : Option ℕ) (e : Option (Option (List ℕ))) (f : Option ℕ) → d ≡ None → serving_from a b c d e f ≡ None
no_seed None b c d e f h = refl
no_seed (Some x) None c d e f h = refl
no_seed (Some x) (Some y) None d e f h = refl
no_seed (Some x) (Some y) (Some z) None e f h = refl
no_seed (Some x) (Some y) (Some z) (Some u) e f h = absurd cc

pub no_file : (a : Option (List ℕ)) (b : Option ((ℕ × ℕ) × ℕ)) (c d : Option ℕ) (e : Option (Option (List ℕ))) (f : Option ℕ) → e ≡ None → serving_from a b c d e f ≡ None
no_file None b c d e f h = refl
no_file (Some x) None c d e f h = refl
no_file (Some x) (Some y) None d e f h = refl
no_file (Some x) (Some y) (Some z) None e f h = refl
no_file (Some x) (Some y) (Some z) (Some u) None f h = refl
no_file (Some x) (Some y) (Some z) (Some u) (Some v) f h = absurd cc

pub no_turns : (a : Option (List ℕ)) (b : Option ((ℕ × ℕ) × ℕ)) (c d : Option ℕ) (e : Option (Option (List ℕ))) (f : Option ℕ) → f ≡ None → serving_from a b c d e f ≡ None
no_turns None b c d e f h = refl
no_turns (Some x) None c d e f h = refl
no_turns (Some x) (Some y) None d e f h = refl
no_turns (Some x) (Some y) (Some z) None e f h = refl
no_turns (Some x) (Some y) (Some z) (Some u) None f h = refl
no_turns (Some x) (Some y) (Some z) (Some u) (Some v) None h = refl
no_turns (Some x) (Some y) (Some z) (Some u) (Some v) (Some w) h = absurd cc

-- all values are there
pub all_there : (s : Serving) (a : Option (List ℕ)) (b : Option ((ℕ × ℕ) × ℕ)) (c d : Option ℕ) (e : Option (Option (List ℕ))) (f : Option ℕ)
    → a ≡ Some s.lib → b ≡ Some ((s.port, s.control), s.ws) → c ≡ Some s.swap_time → d ≡ Some s.seed → e ≡ Some s.record_file → f ≡ Some s.turns → serving_from a b c d e f ≡ Some s
all_there s a b c d e f ea eb ec ed ee ef =
    ap (λ x. serving_from x b c d e f) ea
    ∙ ap (λ x. serving_from (Some s.lib) x c d e f) eb
    ∙ ap (λ x. serving_from (Some s.lib) (Some ((s.port, s.control), s.ws)) x d e f) ec
    ∙ ap (λ x. serving_from (Some s.lib) (Some ((s.port, s.control), s.ws)) (Some s.swap_time) x e f) ed
    ∙ ap (λ x. serving_from (Some s.lib) (Some ((s.port, s.control), s.ws)) (Some s.swap_time) (Some s.seed) x f) ee
    ∙ ap (λ x. serving_from (Some s.lib) (Some ((s.port, s.control), s.ws)) (Some s.swap_time) (Some s.seed) (Some s.record_file) x) ef
