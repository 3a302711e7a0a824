-- One more file behind those of a list.
use Rattle.std.proofs.Common.{◌≡◌, ℕ, ◌+◌, ◌<◌, List, [], ◌∷◌, ◌++◌, length, take, map, get_or, true, string_bytes, Global, sym, ap, ◌∙◌}
use Rattle.std.proofs.lemmas.List.{map-append, map_more}
use Rattle.std.specs.declared.string.String.{String}
use Rattle.lp_words.specs.Paths.{is_path}
use Rattle.lp_folder.specs.declared.outside.Loaded.{Loaded}
use Rattle.lp_folder.specs.Held.{AllPaths, paths_of}

pub all_append : (files : List Loaded) (f : Loaded) → AllPaths files → is_path f.path ≡ true → AllPaths (files ++ f ∷ [])
all_append [] f each is = (is, tt)
all_append (g ∷ gs) f each is = (each.0, all_append gs f each.1 is)

pub paths_append : (files : List Loaded) (f : Loaded) (paths : List (String Global)) (i : ℕ) (d : String Global) → i < length paths → paths_of files ≡ map string_bytes (take i paths) → f.path ≡ string_bytes (get_or paths i d)
    → paths_of (files ++ f ∷ []) ≡ map string_bytes (take (i + 1) paths)
paths_append files f paths i d within so_far is =
    map-append (λ (g : Loaded). g.path) files (f ∷ [])
    ∙ ap (λ ps. ps ++ f.path ∷ []) so_far
    ∙ ap (λ p. map string_bytes (take i paths) ++ p ∷ []) is
    ∙ sym (map_more string_bytes paths i d within)
