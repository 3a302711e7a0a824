-- Files that are gathered.
use Rattle.std.proofs.Common.{◌≡◌, ℕ, List, [], ◌∷◌, ◌++◌, ◌∙◌, Bool, true, false, Some, None, ap, if◌then◌else◌, map}
use Rattle.std.specs.Prelude.{filter, bytes_eq}
use Rattle.std.proofs.lemmas.List.{map-append, append-nil}
use Rattle.std.proofs.lemmas.List.Elements.{filter-append}
use Rattle.std.proofs.lemmas.List.Sums.{fold-append}
use Rattle.lp_check.specs.Report.{bytes_at, is_source, sources_of}

-- the bytes with one more file
pub bytes_behind : (files : List (List ℕ × List ℕ)) (path bytes q : List ℕ) → bytes_at (files ++ (path, bytes) ∷ []) q ≡ (if bytes_eq path q then Some bytes else bytes_at files q)
bytes_behind files path bytes q = fold-append (λ found (f : List ℕ × List ℕ). if bytes_eq f.0 q then Some f.1 else found) None files ((path, bytes) ∷ [])

one_source : (b : Bool) (path : List ℕ) → is_source path ≡ b → sources_of ((path, []) ∷ []) ≡ (if b then path ∷ [] else [])
one_source b path e = ap (λ x. if x then path ∷ [] else []) e

-- the paths with one more file that is compiled, or is not
pub compiled_behind : (files : List (List ℕ × List ℕ)) (path bytes : List ℕ) → is_source path ≡ true → sources_of (files ++ (path, bytes) ∷ []) ≡ sources_of files ++ path ∷ []
compiled_behind files path bytes e =
    ap (filter is_source) (map-append (λ (f : List ℕ × List ℕ). f.0) files ((path, bytes) ∷ [])) ∙ filter-append is_source (map (λ (f : List ℕ × List ℕ). f.0) files) (path ∷ []) ∙ ap (λ x. sources_of files ++ x) (one_source true path e)

pub other_behind : (files : List (List ℕ × List ℕ)) (path bytes : List ℕ) → is_source path ≡ false → sources_of (files ++ (path, bytes) ∷ []) ≡ sources_of files
other_behind files path bytes e =
    ap (filter is_source) (map-append (λ (f : List ℕ × List ℕ). f.0) files ((path, bytes) ∷ [])) ∙ filter-append is_source (map (λ (f : List ℕ × List ℕ). f.0) files) (path ∷ []) ∙ ap (λ x. sources_of files ++ x) (one_source false path e) ∙ append-nil (sources_of files)
