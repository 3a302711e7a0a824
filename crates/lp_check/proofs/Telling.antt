-- The faults of loads that are kept in a map, by its keys.
use Rattle.std.proofs.Common.{◌≡◌, ◌∙◌, ℕ, List, [], ◌∷◌, ◌++◌, ◌+◌, ◌||◌, Bool, true, false, cond, Option, Some, None, is_some, refl, sym, ap, subst, length, length-append, append_assoc, map, string_bytes, arith}
use Rattle.std.proofs.lemmas.List.{append-nil}
use Rattle.std.proofs.lemmas.Grind.{flat_map-append}
use Rattle.std.specs.Prelude.{flat_map}
use Rattle.std.specs.List.{All, AllByRecursion}
use Rattle.std.proofs.lemmas.List.Elements.{All-head, All-tail, All-weaker}
use Rattle.std.specs.List.Sorted.{IsStrictlySortedBy}
use Rattle.std.specs.Option.{option_map}
use Rattle.std.specs.Ordering.{is_eq, nat_cmp}
use Rattle.std.specs.Cmp.Lexicographic.{slice_cmp}
use Rattle.std.specs.declared.cmp.Ordering.TheVariants.{Less}
use Rattle.std.specs.declared.string.String.{String}
use Rattle.std.specs.String.{string_cmp}
use Rattle.std.specs.Map.{keys_of, lookup}
use Rattle.std.specs.BTreeMap.{BTreeMap, IsOrdered, get, get_by_text, is_at}
use Rattle.std.proofs.lemmas.Map.Text.{is_eq-slice_cmp}
use Rattle.lp_files.specs.Paths.{path_cmp, IsRising, lists}
use Rattle.lp_tree.specs.declared.fault.Fault.{Fault}
use Rattle.lp_loads.specs.declared.known.Ended.{Ended}
use Rattle.lp_loads.specs.Known.{load_as}
use Rattle.lp_loads.specs.Loads.{Loaded, load_of}
use Rattle.lp_check.specs.Report.{fault_line, faults_in, load_faults}
use Rattle.lp_check.specs.Told.{AreTold, IsTold}

-- the faults that stand in entries of a map, in their order
abbrev pub entries_faults : {Y : Type 0} → List (String Y × Ended) → List Fault
entries_faults es = flat_map (λ e. e.1.faults.items) es

-- the paths of entries
abbrev pub entries_paths : {Y : Type 0} → List (String Y × Ended) → List (List ℕ)
entries_paths es = map string_bytes (keys_of es)

-- one entry more, whose lines are put behind the others
pub lines_more : {Y : Type 0} (out now whole : List ℕ) (fs : List Fault) (e : String Y × Ended) (before rest : List (String Y × Ended)) → before ≡ e ∷ rest → fs ≡ e.1.faults.items → now ≡ out ++ flat_map fault_line fs
    → out ++ flat_map fault_line (entries_faults before) ≡ whole → now ++ flat_map fault_line (entries_faults rest) ≡ whole
lines_more {Y = Y} out now whole fs e before rest is same put so =
    ap (λ (o : List ℕ). o ++ flat_map fault_line (entries_faults rest)) (put ∙ ap (λ (gs : List Fault). out ++ flat_map fault_line gs) same)
    ∙ append_assoc out (flat_map fault_line e.1.faults.items) (flat_map fault_line (entries_faults rest))
    ∙ ap (λ (o : List ℕ). out ++ o) (sym (flat_map-append fault_line e.1.faults.items (entries_faults rest)))
    ∙ ap (λ (es : List (String Y × Ended)). out ++ flat_map fault_line (entries_faults es)) (sym is)
    ∙ so

pub count_more : {Y : Type 0} (count now whole many : ℕ) (e : String Y × Ended) (before rest : List (String Y × Ended)) → before ≡ e ∷ rest → many ≡ length e.1.faults.items → now ≡ count + many
    → count + length (entries_faults before) ≡ whole → now + length (entries_faults rest) ≡ whole
count_more {Y = Y} count now whole many e before rest is same put so =
    let l : length (entries_faults before) ≡ length e.1.faults.items + length (entries_faults rest)
    = ap (λ (es : List (String Y × Ended)). length (entries_faults es)) is ∙ length-append e.1.faults.items (entries_faults rest)
    in
    omega (arith, l, same, put, so)

-- rising keys are rising paths
all_above : {Y : Type 0} (k : String Y) (ks : List (String Y)) → AllByRecursion (λ y. string_cmp k y ≡ Less) ks → AllByRecursion (λ p. path_cmp (string_bytes k) p ≡ Less) (map string_bytes ks)
all_above k [] h = h
all_above k (y ∷ ys) h = (h.0, all_above k ys h.1)

pub rising : {Y : Type 0} (ks : List (String Y)) → IsStrictlySortedBy string_cmp ks → IsRising (map string_bytes ks)
unfolding IsStrictlySortedBy
rising [] h = h
rising (k ∷ ks) h = (all_above k ks h.0, rising ks h.1)

-- a path is among them where the map has something
some_or : {X : Type 0} (b : Bool) (x : X) (o : Option X) → is_some (cond b (Some x) o) ≡ (b || is_some o)
some_or true x o = refl
some_or false x o = refl

pub listed : {Y : Type 0} (es : List (String Y × Ended)) (path : List ℕ) → lists path (entries_paths es) ≡ is_some (lookup (is_at (λ k. slice_cmp nat_cmp path (string_bytes k))) es)
listed [] path = refl
listed (e ∷ es) path =
    ap (λ b. b || lists path (entries_paths es)) (sym (is_eq-slice_cmp path (string_bytes e.0)))
    ∙ ap (λ b. is_eq (slice_cmp nat_cmp path (string_bytes e.0)) || b) (listed es path)
    ∙ sym (some_or (is_eq (slice_cmp nat_cmp path (string_bytes e.0))) e.1 (lookup (is_at (λ k. slice_cmp nat_cmp path (string_bytes k))) es))

some_map : {X Y : Type 0} (f : X → Y) (o : Option X) → is_some (option_map f o) ≡ is_some o
some_map f None = refl
some_map f (Some x) = refl

-- an entry is how the load of its path ended
abbrev IsLoadOf : {Y : Type 0} → Loaded → String Y × Ended → Type 0
IsLoadOf ls e = load_of ls (string_bytes e.0) ≡ Some (load_as (string_bytes e.0) e.1)

faults_of : {Y : Type 0} (ls : Loaded) (es : List (String Y × Ended)) → All (IsLoadOf ls) es → faults_in ls (entries_paths es) ≡ entries_faults es
faults_of ls [] h = refl
faults_of ls (e ∷ es) h =
    ap (λ (fs : List Fault). fs ++ faults_in ls (entries_paths es)) (ap load_faults (All-head (IsLoadOf ls) e es h)) ∙ ap (λ (fs : List Fault). e.1.faults.items ++ fs) (faults_of ls es (All-tail (IsLoadOf ls) e es h))

-- the lines of all entries are those of all loads
pub all_told : {Y : Type 0} (ls : Loaded) (m : BTreeMap (String Y) Ended) (old new : List ℕ) (count : ℕ) → ((file : List ℕ) → option_map (load_as file) (get_by_text m file) ≡ load_of ls file)
    → IsOrdered string_cmp m → All (λ e. get string_cmp m e.0 ≡ Some e.1) m.entries → AreTold (entries_faults m.entries) old new count → IsTold ls old new count
all_told ls m old new count same o f t =
    let e : faults_in ls (entries_paths m.entries) ≡ entries_faults m.entries
    = faults_of ls m.entries (All-weaker (λ e. get string_cmp m e.0 ≡ Some e.1) (IsLoadOf ls) (λ e h. sym (same (string_bytes e.0)) ∙ ap (option_map (load_as (string_bytes e.0))) h) m.entries f)
    in
    record {
      ended = entries_paths m.entries;
      are_ended = record { rising = rising (keys_of m.entries) o; each = λ path. listed m.entries path ∙ sym (some_map (load_as path) (get_by_text m path)) ∙ ap is_some (same path) };
      told = subst (λ (fs : List Fault). AreTold fs old new count) (sym e) t;
    }

-- no entry is left
pub none_left : {Y : Type 0} (out : List ℕ) (rest : List (String Y × Ended)) (whole : List ℕ) → rest ≡ [] → out ++ flat_map fault_line (entries_faults rest) ≡ whole → out ≡ whole
none_left {Y = Y} out rest whole is so = sym (append-nil out) ∙ ap (λ (es : List (String Y × Ended)). out ++ flat_map fault_line (entries_faults es)) (sym is) ∙ so

pub none_left_counted : {Y : Type 0} (count : ℕ) (rest : List (String Y × Ended)) (whole : ℕ) → rest ≡ [] → count + length (entries_faults rest) ≡ whole → count ≡ whole
none_left_counted {Y = Y} count rest whole is so =
    let e : length (entries_faults rest) ≡ 0 = ap (λ (es : List (String Y × Ended)). length (entries_faults es)) is in
    omega (arith, e, so)

pub none_more : (n m : ℕ) → n ≡ m → 0 + n ≡ m
none_more n m e = omega (arith, e)
