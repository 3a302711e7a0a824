-- What copies of all files of a map hold.
use Rattle.std.proofs.Common.{◌≡◌, ℕ, List, [], ◌∷◌, ◌++◌, map, filter, Bool, true, false, if◌then◌else◌, Option, Some, None, String, Vec, Global, string_bytes, refl, sym, ap, subst, ◌∙◌, append-nil, append_assoc, inl, inr}
use Rattle.std.specs.Bool.{⊤}
use Rattle.std.specs.Option.{option_map, unwrap_or}
use Rattle.std.specs.Ordering.{nat_cmp}
use Rattle.std.specs.Cmp.Lexicographic.{slice_cmp, bytes_decides, nat_list_eq_equiv}
use Rattle.std.specs.declared.cmp.Ordering.{Ordering}
use Rattle.std.specs.declared.cmp.Ordering.TheVariants.{Less}
use Rattle.std.specs.BTreeMap.{is_at}
use Rattle.std.specs.Map.{lookup, keys_of}
use Rattle.std.specs.List.{AllByRecursion}
use Rattle.std.specs.List.Sorted.{IsStrictlySortedBy}
use Rattle.std.specs.Str.{bytes_eq}
use Rattle.std.proofs.lemmas.Bool.{cases_Bool}
use Rattle.std.proofs.lemmas.List.Kept.{IsStrictlySortedBy-filter}
use Rattle.std.proofs.lemmas.Map.Text.{is_eq-slice_cmp}
use Rattle.lp_files.specs.Paths.{path_cmp, IsRising}
use Rattle.lp_words.specs.Paths.{is_path}
use Rattle.lp_folder.specs.declared.outside.Loaded.{Loaded}
use Rattle.lp_folder.specs.Held.{Held, HoldsAll, HoldsBut, HoldsWith, loaded_at, AllPaths, paths_of, ArePaths}
use Rattle.lp_folder.specs.Memory.{files_among}

abbrev pub Entries : Type 0
Entries = List (String Global × Vec ℕ Global)

abbrev pub Pairs : Type 0
Pairs = List (List ℕ × List ℕ)

-- files as paths and bytes
abbrev pub pair_of : Loaded → List ℕ × List ℕ
pair_of f = (f.path, f.bytes)

abbrev pub pairs_of : List Loaded → Pairs
pairs_of files = map pair_of files

-- the bytes at a path among pairs
pair_at : Pairs → List ℕ → Option (List ℕ)
pair_at [] q = None
pair_at (p ∷ ps) q = if bytes_eq p.0 q then Some p.1 else pair_at ps q

loaded_pairs : (files : List Loaded) (q : List ℕ) → loaded_at files q ≡ pair_at (pairs_of files) q
unfolding pair_at
loaded_pairs [] q = refl
loaded_pairs (f ∷ files) q = ap (λ (r : Option (List ℕ)). if bytes_eq f.path q then Some f.bytes else r) (loaded_pairs files q)

-- the test of a lookup
found_is : (q k : List ℕ) (b : Bool) → bytes_eq k q ≡ b → is_at (λ (s : List ℕ). slice_cmp nat_cmp q s) k ≡ b
found_is q k b e = is_eq-slice_cmp q k ∙ nat_list_eq_equiv.symm q k ∙ e

among_at : (es : Entries) (q : List ℕ) → is_path q ≡ true → pair_at (files_among es) q ≡ option_map (λ v. v.items) (lookup (is_at (λ k. slice_cmp nat_cmp q (string_bytes k))) es)
unfolding pair_at
among_at [] q path = refl
among_at (e ∷ es) q path = elim (cases_Bool (bytes_eq (string_bytes e.0) q)) [
  | inl y ↦
      let same : string_bytes e.0 ≡ q = (bytes_decides (string_bytes e.0) q).0 y in
      let there : is_path (string_bytes e.0) ≡ true = ap is_path same ∙ path in
      rw (there, found_is q (string_bytes e.0) true y, y) refl
  | inr n ↦ elim (cases_Bool (is_path (string_bytes e.0))) [
    | inl p ↦ rw (p, found_is q (string_bytes e.0) false n, n) (among_at es q path)
    | inr np ↦ rw (np, found_is q (string_bytes e.0) false n) (among_at es q path)
  ]
]

pub holds_all : (files : List Loaded) (es : Entries) → pairs_of files ≡ files_among es → (q : List ℕ) → is_path q ≡ true → loaded_at files q ≡ option_map (λ v. v.items) (lookup (is_at (λ k. slice_cmp nat_cmp q (string_bytes k))) es)
holds_all files es is q path = loaded_pairs files q ∙ ap (λ ps. pair_at ps q) is ∙ among_at es q path

-- Paths

EachPath : Pairs → Type 0
EachPath [] = ⊤
EachPath (p ∷ ps) = (is_path p.0 ≡ true) × EachPath ps

each_among : (es : Entries) → EachPath (files_among es)
unfolding EachPath
each_among [] = tt
each_among (e ∷ es) = elim (cases_Bool (is_path (string_bytes e.0))) [
  | inl p ↦ rw p (p, each_among es)
  | inr n ↦ rw n (each_among es)
]

all_paths : (files : List Loaded) → EachPath (pairs_of files) → AllPaths files
unfolding EachPath
all_paths [] each = tt
all_paths (f ∷ files) each = (each.0, all_paths files each.1)

paths_pairs : (files : List Loaded) → paths_of files ≡ map (λ p. p.0) (pairs_of files)
paths_pairs [] = refl
paths_pairs (f ∷ files) = ap (λ ps. f.path ∷ ps) (paths_pairs files)

among_paths : (es : Entries) → map (λ p. p.0) (files_among es) ≡ filter is_path (map string_bytes (keys_of es))
among_paths [] = refl
among_paths (e ∷ es) = elim (cases_Bool (is_path (string_bytes e.0))) [
  | inl p ↦ rw p (ap (λ ps. string_bytes e.0 ∷ ps) (among_paths es))
  | inr n ↦ rw n (among_paths es)
]

all_below : (c : String Global → String Global → Ordering) → ((a b : String Global) → c a b ≡ path_cmp (string_bytes a) (string_bytes b)) → (k : String Global) (ks : List (String Global))
    → AllByRecursion (λ y. c k y ≡ Less) ks → AllByRecursion (λ y. path_cmp (string_bytes k) y ≡ Less) (map string_bytes ks)
all_below c is k [] all = tt
all_below c is k (y ∷ ks) all = (sym (is k y) ∙ all.0, all_below c is k ks all.1)

rising_keys : (c : String Global → String Global → Ordering) → ((a b : String Global) → c a b ≡ path_cmp (string_bytes a) (string_bytes b)) → (ks : List (String Global)) → IsStrictlySortedBy c ks → IsRising (map string_bytes ks)
unfolding IsStrictlySortedBy
rising_keys c is [] s = tt
rising_keys c is (k ∷ ks) s = (all_below c is k ks s.0, rising_keys c is ks s.1)

pub are_paths : (c : String Global → String Global → Ordering) → ((a b : String Global) → c a b ≡ path_cmp (string_bytes a) (string_bytes b)) → (files : List Loaded) (es : Entries) → pairs_of files ≡ files_among es
    → IsStrictlySortedBy c (keys_of es) → ArePaths files
are_paths c is files es same s = record {
  each = all_paths files (subst EachPath (sym same) (each_among es));
  rising = subst IsRising (sym (paths_pairs files ∙ ap (map (λ p. p.0)) same ∙ among_paths es)) (IsStrictlySortedBy-filter path_cmp is_path (map string_bytes (keys_of es)) (rising_keys c is (keys_of es) s));
}

-- One entry more

pub with_file : (files : List Loaded) (f : Loaded) (e : String Global × Vec ℕ Global) (rest : Entries) (all : Pairs) → is_path (string_bytes e.0) ≡ true → f.path ≡ string_bytes e.0 → f.bytes ≡ e.1.items
    → pairs_of files ++ files_among (e ∷ rest) ≡ all → pairs_of (files ++ f ∷ []) ++ files_among rest ≡ all
with_file files f e rest all path same bytes is =
    ap (λ (ps : Pairs). ps ++ files_among rest) (pairs_more files f) ∙ append_assoc (pairs_of files) (pair_of f ∷ []) (files_among rest)
    ∙ ap (λ (p : List ℕ × List ℕ). pairs_of files ++ p ∷ files_among rest) (two f.path (string_bytes e.0) f.bytes e.1.items same bytes)
    ∙ ap (λ (b : Bool). pairs_of files ++ (if b then (string_bytes e.0, e.1.items) ∷ files_among rest else files_among rest)) (sym path) ∙ is
  where
    pairs_more : (files : List Loaded) (f : Loaded) → pairs_of (files ++ f ∷ []) ≡ pairs_of files ++ pair_of f ∷ []
    pairs_more [] f = refl
    pairs_more (x ∷ files) f = ap (λ (ps : Pairs). pair_of x ∷ ps) (pairs_more files f)

    two : (a b x y : List ℕ) → a ≡ b → x ≡ y → ◌≡◌ {A = List ℕ × List ℕ} (a, x) (b, y)
    two a b x y e f = ap (λ (p : List ℕ). (p, x)) e ∙ ap (λ (v : List ℕ). (b, v)) f

pub without_file : (files : List Loaded) (e : String Global × Vec ℕ Global) (rest : Entries) (all : Pairs) → is_path (string_bytes e.0) ≡ false → pairs_of files ++ files_among (e ∷ rest) ≡ all → pairs_of files ++ files_among rest ≡ all
without_file files e rest all path is = ap (λ (b : Bool). pairs_of files ++ (if b then (string_bytes e.0, e.1.items) ∷ files_among rest else files_among rest)) (sym path) ∙ is

-- What is told of one file

told_is : (now h : Held) → ◌≡◌ {A = Option Held} (Some now) (Some h) → (q : List ℕ) → h q ≡ now q
told_is now h e q = sym (ap (λ (o : Option Held). unwrap_or o now q) e)

pub holds_with : (path : List ℕ) (bytes : Option (List ℕ)) (old mid now : Held) → ((q : List ℕ) → mid q ≡ old q) → ((q : List ℕ) → now q ≡ (if bytes_eq path q then bytes else mid q)) → HoldsWith path bytes (Some old) (Some now)
holds_with path bytes old mid now same at h e = (old, refl, λ q. told_is now h e q ∙ at q ∙ ap (λ (o : Option (List ℕ)). if bytes_eq path q then bytes else o) (same q))

pub holds_but : (path : List ℕ) (old now : Held) → ((q : List ℕ) → now q ≡ old q) → HoldsBut path (Some old) (Some now)
holds_but path old now same h e = (old, refl, λ q apart. told_is now h e q ∙ same q)

pub holds_all_told : (files : List Loaded) (now : Held) → ((q : List ℕ) → is_path q ≡ true → loaded_at files q ≡ now q) → HoldsAll files (Some now)
holds_all_told files now at h e q path = at q path ∙ sym (told_is now h e q)

-- All entries were gone through

pub whole_of : (files : List Loaded) (rest : Entries) (all : Pairs) → rest ≡ [] → pairs_of files ++ files_among rest ≡ all → pairs_of files ≡ all
whole_of files rest all none is = sym (append-nil (pairs_of files)) ∙ ap (λ (es : Entries). pairs_of files ++ files_among es) (sym none) ∙ is
