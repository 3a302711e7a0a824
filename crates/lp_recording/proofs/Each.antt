-- Things that are written one after another.
use Rattle.std.proofs.Common.{◌≡◌, ap, sym, refl, ◌∙◌, ℕ, ◌+◌, ◌<◌, ◌≤◌, List, [], ◌∷◌, ◌++◌, Ok, Err, length, map, take, drop, get_or}
use Rattle.std.specs.Str.{encode_utf8_all}
use Rattle.std.proofs.lemmas.List.{take_more, take_all, take-append-drop, append-nil}
use Rattle.std.proofs.lemmas.List.Concat.{flat_map-append}
use Rattle.std.proofs.lemmas.Str.{encodes-append}
use Rattle.lp_io.specs.declared.put.PutFault.{PutFault}
use Rattle.lp_events.specs.Script.{spelling, spellings}
use Rattle.lp_events.specs.declared.out.Out.{Out}
use Rattle.lp_folder.specs.declared.outside.Loaded.{Loaded}
use Rattle.lp_wire.specs.Record.{file_item, log_bytes, logged}
use Rattle.lp_script.specs.Put.{Told, Puts}
use Rattle.lp_script.proofs.PutLemmas.{Puts-same, Puts-then, Puts-cut}
use Rattle.lp_recording.specs.Recorded.{file_in, files_in}

-- bytes of a list that are those of its parts
pub record AreJoined {X : Type 0} (bytes : List X → List ℕ) : Type 0 where
  pub append : (xs ys : List X) → bytes (xs ++ ys) ≡ bytes xs ++ bytes ys

one_more : {X : Type 0} (f : List X → List ℕ) (j : AreJoined f) (xs : List X) (i : ℕ) (d : X) (bytes : List ℕ) → i < length xs → bytes ≡ f (get_or xs i d ∷ []) → f (take (i + 1) xs) ≡ f (take i xs) ++ bytes
one_more f j xs i d bytes within is = ap f (take_more xs i d within) ∙ j.append (take i xs) (get_or xs i d ∷ []) ∙ ap (λ ys. f (take i xs) ++ ys) (sym is)

-- one more was written
pub each_next : {X : Type 0} (f : List X → List ℕ) (j : AreJoined f) (a m c : Told) (xs : List X) (i : ℕ) (d : X) (bytes : List ℕ) → i < length xs → bytes ≡ f (get_or xs i d ∷ [])
    → Puts a m (Ok tt) (f (take i xs)) → Puts m c (Ok tt) bytes → Puts a c (Ok tt) (f (take (i + 1) xs))
each_next f j a m c xs i d bytes within is p q = Puts-same a c (Ok tt) _ _ (sym (one_more f j xs i d bytes within is)) (Puts-then a m c (Ok tt) _ _ p q)

-- one was cut
pub each_stop : {X : Type 0} (f : List X → List ℕ) (j : AreJoined f) (a m c : Told) (e : PutFault) (xs : List X) (i : ℕ) (d : X) (bytes : List ℕ) → i < length xs → bytes ≡ f (get_or xs i d ∷ [])
    → Puts a m (Ok tt) (f (take i xs)) → Puts m c (Err e) bytes → Puts a c (Err e) (f xs)
each_stop f j a m c e xs i d bytes within is p q =
    let whole : f xs ≡ f (take (i + 1) xs) ++ f (drop (i + 1) xs) = ap f (sym (take-append-drop (i + 1) xs)) ∙ j.append (take (i + 1) xs) (drop (i + 1) xs) in
    Puts-same a c (Err e) _ _ (ap (λ ys. ys ++ f (drop (i + 1) xs)) (sym (one_more f j xs i d bytes within is)) ∙ sym whole)
    (Puts-cut a c e _ (f (drop (i + 1) xs)) (Puts-then a m c (Err e) _ _ p q))

-- all were written
pub each_all : {X : Type 0} (f : List X → List ℕ) (a c : Told) (xs : List X) (i : ℕ) → length xs ≤ i → Puts a c (Ok tt) (f (take i xs)) → Puts a c (Ok tt) (f xs)
each_all f a c xs i all p = Puts-same a c (Ok tt) _ _ (ap f (take_all i xs all)) p

-- Which are so

pub chars_joined : AreJoined encode_utf8_all
chars_joined = record { append = λ xs ys. encodes-append xs ys }

pub logs_joined : AreJoined logged
logs_joined = record { append = λ xs ys. flat_map-append log_bytes xs ys }

-- the bytes of files as items
abbrev pub file_bytes : List Loaded → List ℕ
file_bytes files = spellings (map file_item (files_in files))

pub files_joined : AreJoined file_bytes
files_joined = record { append = λ xs ys. joins xs ys }
  where
    joins : (xs ys : List Loaded) → spellings (map file_item (files_in (xs ++ ys))) ≡ spellings (map file_item (files_in xs)) ++ spellings (map file_item (files_in ys))
    joins [] ys = refl
    joins (x ∷ xs) ys = ap (λ bs. spelling (file_item (file_in x)) ++ bs) (joins xs ys) ∙ sym (appends (spelling (file_item (file_in x))) (spellings (map file_item (files_in xs))) (spellings (map file_item (files_in ys))))
      where
        appends : (a b c : List ℕ) → (a ++ b) ++ c ≡ a ++ (b ++ c)
        appends [] b c = refl
        appends (n ∷ a) b c = ap (λ ns. n ∷ ns) (appends a b c)

pub one_file : (f : Loaded) → spelling (file_item (file_in f)) ≡ file_bytes (f ∷ [])
one_file f = sym (append-nil (spelling (file_item (file_in f))))

pub one_log : (out : Out) → log_bytes out ≡ logged (out ∷ [])
one_log out = sym (append-nil (log_bytes out))
