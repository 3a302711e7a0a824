-- Files that are put into a store, one after another.
use Rattle.std.proofs.Common.{◌≡◌, ◌∙◌, ◌<◌, ◌≤◌, ◌+◌, ℕ, zero, suc, List, [], ◌∷◌, length, drop, get_or, Bool, true, false, Option, Some, None, refl, sym, ap, arith}
use Rattle.std.specs.Prelude.{if◌then◌else◌}
use Rattle.std.specs.Str.{bytes_eq}
use Rattle.lp_folder.specs.declared.outside.Loaded.{Loaded}
use Rattle.lp_folder.specs.Held.{first_of, loaded_at}

-- the file at a place, and those behind it
next_loaded : (files : List Loaded) (i : ℕ) (d f : Loaded) (q : List ℕ) → i < length files → f ≡ get_or files i d → loaded_at (drop i files) q ≡ first_of (if bytes_eq f.path q then Some f.bytes else None) (loaded_at (drop (suc i) files) q)
next_loaded [] i d f q within is = absurd (omega arith)
next_loaded (x ∷ xs) zero d f q within is = ap (λ (g : Loaded). if bytes_eq g.path q then Some g.bytes else loaded_at xs q) (sym is) ∙ by_case (bytes_eq f.path q) f.bytes (loaded_at xs q)
  where
    by_case : (b : Bool) (bytes : List ℕ) (rest : Option (List ℕ)) → (if b then Some bytes else rest) ≡ first_of (if b then Some bytes else None) rest
    by_case true bytes rest = refl
    by_case false bytes rest = refl
next_loaded (x ∷ xs) (suc i) d f q within is = next_loaded xs i d f q (omega arith) is

assoc : (a b c : Option (List ℕ)) → first_of (first_of a b) c ≡ first_of a (first_of b c)
assoc (Some x) b c = refl
assoc None b c = refl

-- one more
pub put_more : (files : List Loaded) (i : ℕ) (d f : Loaded) (q : List ℕ) (before after whole : Option (List ℕ)) → i < length files → f ≡ get_or files i d
    → first_of before (loaded_at (drop i files) q) ≡ whole → after ≡ first_of before (if bytes_eq f.path q then Some f.bytes else None) → first_of after (loaded_at (drop (i + 1) files) q) ≡ whole
put_more files i d f q before after whole within is h k =
    let e : i + 1 ≡ suc i = omega arith in
    rw e (ap (λ o. first_of o (loaded_at (drop (suc i) files) q)) k
    ∙ assoc before (if bytes_eq f.path q then Some f.bytes else None) (loaded_at (drop (suc i) files) q)
    ∙ ap (first_of before) (sym (next_loaded files i d f q within is))
    ∙ h)

none_behind : (files : List Loaded) (i : ℕ) (q : List ℕ) → length files ≤ i → loaded_at (drop i files) q ≡ None
none_behind [] zero q past = refl
none_behind [] (suc i) q past = refl
none_behind (x ∷ xs) zero q past = absurd (omega arith)
none_behind (x ∷ xs) (suc i) q past = none_behind xs i q (omega arith)

first-none : (a : Option (List ℕ)) → first_of a None ≡ a
first-none (Some x) = refl
first-none None = refl

-- all of them
pub put_all : (files : List Loaded) (i : ℕ) (q : List ℕ) (now whole : Option (List ℕ)) → length files ≤ i → first_of now (loaded_at (drop i files) q) ≡ whole → now ≡ whole
put_all files i q now whole past h = sym (first-none now) ∙ ap (first_of now) (sym (none_behind files i q past)) ∙ h
