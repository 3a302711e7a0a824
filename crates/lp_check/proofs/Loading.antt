-- Loads of files, one after another.
use Rattle.std.proofs.Common.{◌≡◌, ◌<◌, ◌+◌, ◌∙◌, ℕ, List, [], ◌∷◌, ◌++◌, true, false, Option, Some, None, is_some, refl, sym, ap, subst, length, take, slice_index_or as get_or}
use Rattle.std.proofs.lemmas.List.{take_more}
use Rattle.std.proofs.lemmas.Bool.{true≢false}
use Rattle.lp_files.specs.declared.store.Store.{Store}
use Rattle.lp_loads.specs.Loads.{Load, Loaded, load_of, Loads, LoadsAll, none, again, first}

-- files, and then others
pub all_behind : {files : Store} {simuls ps qs : List (List ℕ)} {a b c : Loaded} → LoadsAll files simuls ps a b → LoadsAll files simuls qs b c → LoadsAll files simuls (ps ++ qs) a c
all_behind none k = k
all_behind (again e r) k = again e (all_behind r k)
all_behind (first e l r) k = first e l (all_behind r k)

-- one file, whose load ended
known_by : (files : Store) (simuls : List (List ℕ)) (file : List ℕ) (ls : Loaded) (o : Option Load) → load_of ls file ≡ o → is_some o ≡ true → LoadsAll files simuls (file ∷ []) ls ls
known_by files simuls file ls None e h = absurd (true≢false (sym h))
known_by files simuls file ls (Some l) e h = again e none

pub one_known : (files : Store) (simuls : List (List ℕ)) (file : List ℕ) (ls : Loaded) → is_some (load_of ls file) ≡ true → LoadsAll files simuls (file ∷ []) ls ls
one_known files simuls file ls h = known_by files simuls file ls (load_of ls file) refl h

-- and one whose load did not
pub unknown : (o : Option Load) → is_some o ≡ false → o ≡ None
unknown None h = refl
unknown (Some l) h = absurd (true≢false h)

pub one_new : (files : Store) (simuls : List (List ℕ)) (file : List ℕ) (ls after : Loaded) → is_some (load_of ls file) ≡ false → Loads files simuls [] file ls after → LoadsAll files simuls (file ∷ []) ls after
one_new files simuls file ls after h l = first (unknown (load_of ls file) h) l none

-- the file at a place, behind those before it
pub one_more : (files : Store) (simuls paths : List (List ℕ)) (i : ℕ) (path file : List ℕ) (a b c : Loaded) → i < length paths → path ≡ get_or paths i path → file ≡ path
    → LoadsAll files simuls (take i paths) a b → LoadsAll files simuls (file ∷ []) b c → LoadsAll files simuls (take (i + 1) paths) a c
one_more files simuls paths i path file a b c lt is e l k =
    subst (λ ps. LoadsAll files simuls ps a c) (sym (take_more paths i path lt ∙ ap (λ p. take i paths ++ p ∷ []) (sym is))) (all_behind l (subst (λ p. LoadsAll files simuls (p ∷ []) b c) e k))
