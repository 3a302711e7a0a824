-- What a reader that has given items says of its input.
use Rattle.std.proofs.Common.{subst, ◌≡◌, ◌∙◌, ◌<◌, ◌≤◌, ◌+◌, ℕ, zero, suc, List, [], ◌∷◌, ◌++◌, length, take, drop, false, Option, Some, None, refl, sym, ap, arith, append_assoc, length-append, inl, inr}
use Rattle.std.proofs.Math.Seq.{drop-append_seam}
use Rattle.std.proofs.lemmas.List.{length-take, length-take-le, take-append-le, take-append-drop}
use Rattle.std.specs.Prelude.{Ok, Err}
use Rattle.lp_io.specs.Told.{before_giving}
use Rattle.lp_events.specs.declared.item.Item.{Item}
use Rattle.lp_events.specs.declared.item.Item.TheVariants as items
use Rattle.lp_events.specs.declared.event.Event.TheVariants.{Connect, Line, Gone, Tick, Reload, Swap}
use Rattle.lp_events.specs.Script.{IsScript, longest_input, spelling, event_spelling, spellings}
use Rattle.lp_script.specs.declared.phase.Phase.{Phase}
use Rattle.lp_script.specs.declared.phase.Phase.TheVariants.{Taking, Giving, Over}
use Rattle.lp_script.specs.declared.phase.Ending.TheVariants.{Whole, Bad, Large, Failed}
use Rattle.lp_script.specs.Reader.{Reading, GoesOn, GoneAtMost, HasGiven, IsInput, Reads, IsAfter, Says}
use Rattle.lp_script.specs.declared.fault.ScriptFault.{ScriptFault}
use Rattle.lp_script.specs.declared.fault.ScriptFault.TheVariants as script
use Rattle.lp_eventless.specs.Eventless.{EndsReading, Holds, is_end}

-- a front of a front
take-front : (n m : ℕ) (xs : List ℕ) → n ≤ m → take n (take m xs) ≡ take n xs
take-front zero m xs l = refl
take-front (suc n) zero xs l = absurd (omega arith)
take-front (suc n) (suc m) [] l = refl
take-front (suc n) (suc m) (x ∷ xs) l = ap (λ ys. x ∷ ys) (take-front n m xs (omega arith))

-- what a phase says of the bytes that were taken
abbrev pub ReadsAt : List ℕ → List ℕ → Option (List ℕ) → Phase → Type 0
ReadsAt b taken told p = elim p [
  | Taking ↦ before_giving taken told ≡ Some b
  | Giving ↦ IsInput b taken × (before_giving taken told ≡ Some b)
  | Over ending ↦ elim ending [ Failed ↦ before_giving taken told ≡ Some b | _ ↦ IsInput b taken × (before_giving taken told ≡ Some b) ]
]

some-injective : {xs ys : List ℕ} → Some xs ≡ Some ys → xs ≡ ys
some-injective e = cc

-- the bytes are those that were taken, and those that are left
told-bytes : (b taken : List ℕ) (told : Option (List ℕ)) → before_giving taken told ≡ Some b → (rest : List ℕ) × (b ≡ taken ++ rest)
told-bytes b taken None e = absurd cc
told-bytes b taken (Some rest) e = (rest, sym (some-injective e))

by_phase : (b taken : List ℕ) (told : Option (List ℕ)) (n : ℕ) (p : Phase) → ReadsAt b taken told p → GoesOn p → n ≤ length (take longest_input taken) → take n (take longest_input b) ≡ take n taken
by_phase b taken told n Taking h g l =
    let w = told-bytes b taken told h in
    let k : length (take longest_input taken) ≤ length taken = rw (length-take longest_input taken) (omega arith) in
    let m : n ≤ longest_input = omega (arith, length-take longest_input taken) in
    let o : n ≤ length taken = omega arith in
    take-front n longest_input b m ∙ ap (take n) w.1 ∙ take-append-le n taken w.0 o
by_phase b taken told n Giving h g l =
    let m : n ≤ longest_input = omega (arith, length-take longest_input taken) in
    let o : n ≤ longest_input + 1 = omega arith in
    take-front n longest_input b m ∙ sym (ap (take n) h.0 ∙ take-front n (longest_input + 1) b o)
by_phase b taken told n (Over ending) h g l = absurd g

-- the input begins with the items that were given
pub begins_with : (b : List ℕ) (r : Reading) (told : Option (List ℕ)) (xs : List Item) → Reads b r told → GoesOn r.phase → HasGiven r xs → Holds b xs
begins_with b r told xs h g v =
    let e = by_phase b r.taken told r.cut r.phase h g v.within in
    record { others = drop r.cut (take longest_input b); spelled = sym (take-append-drop r.cut (take longest_input b)) ∙ ap (λ z. z ++ drop r.cut (take longest_input b)) (e ∙ v.spelled); fit = v.fit }

-- the items that were given have as many bytes as the reader is far
pub cut_is : (r : Reading) (xs : List Item) → HasGiven r xs → r.cut ≡ length (spellings xs)
cut_is r xs v =
    let k : r.cut ≤ length r.taken = omega (arith, length-take longest_input r.taken, v.within) in
    sym (ap length (sym v.spelled) ∙ length-take-le r.cut r.taken k)

pub cut_within : (r : Reading) (xs : List Item) → HasGiven r xs → r.cut ≤ longest_input
cut_within r xs v = omega (arith, length-take longest_input r.taken, v.within)

pub spellings-append : (xs ys : List Item) → spellings (xs ++ ys) ≡ spellings xs ++ spellings ys
spellings-append [] ys = refl
spellings-append (x ∷ xs) ys = ap (λ z. spelling x ++ z) (spellings-append xs ys) ∙ sym (append_assoc (spelling x) (spellings xs) (spellings ys))

-- an item has bytes
some-bytes : (x : Item) → 0 < length (spelling x)
unfolding spelling event_spelling
some-bytes (items.Head seed moment) = omega arith
some-bytes (items.File path bytes) = omega arith
some-bytes items.Start = omega arith
some-bytes (items.Event (Connect k)) = omega arith
some-bytes (items.Event (Line k bytes)) = omega arith
some-bytes (items.Event (Gone k)) = omega arith
some-bytes (items.Event (Tick t)) = omega arith
some-bytes (items.Event (Reload path bytes)) = omega arith
some-bytes (items.Event (Swap name)) = omega arith
some-bytes items.End = omega arith

-- each item brings the reader on
pub goes_on : (old new : Reading) (xs : List Item) (x : Item) → HasGiven old xs → HasGiven new (xs ++ x ∷ []) → old.cut < new.cut
goes_on old new xs x v w =
    let a = cut_is old xs v in
    let b = cut_is new (xs ++ x ∷ []) w in
    let c = ap length (spellings-append xs (x ∷ [])) in
    let d = length-append (spellings xs) (spellings (x ∷ [])) in
    let e = length-append (spelling x) [] in
    let f = some-bytes x in
    omega (arith, a, b, c, d, e, f)

-- a script that was given whole is not too long
pub script_within : (b : List ℕ) (r : Reading) (xs : List Item) → HasGiven r xs → IsScript b xs → length b ≤ longest_input
script_within b r xs v s = let c = cut_is r xs v in let l = cut_within r xs v in omega (arith, ap length s.spelled, c, l)

-- a fault of the script is one of the input
pub ends-reading : (b : List ℕ) (old : Reading) (told : Option (List ℕ)) (xs : List Item) (f : ScriptFault) → Reads b old told → GoesOn old.phase → HasGiven old xs → Says f b xs → EndsReading b xs f
ends-reading b old told xs (script.BadScript at) h g v (inl s) = record { read = xs; same = inl refl; ends = inl s }
ends-reading b old told xs (script.BadScript at) h g v (inr s) = record { read = xs ++ items.End ∷ []; same = inr refl; ends = inl s }
ends-reading b old told xs script.TooLarge h g v (inl s) = record { read = xs; same = inl refl; ends = s }
ends-reading b old told xs script.TooLarge h g v (inr s) = record { read = xs ++ items.End ∷ []; same = inr refl; ends = s }
ends-reading b old told xs script.InputFault h g v s = record { read = xs; same = inl refl; ends = begins_with b old told xs h g v }
ends-reading b old told xs script.NoMemory h g v s = record { read = xs; same = inl refl; ends = begins_with b old told xs h g v }

-- at most the bytes that a reader took are gone
gone-of : (b taken : List ℕ) (told : Option (List ℕ)) → length taken ≤ longest_input + 1 → before_giving taken told ≡ Some b → GoneAtMost b told
gone-of b taken None m e = absurd cc
gone-of b taken (Some rest) m e = (length taken, m, ap (λ xs. Some xs) (sym (ap (drop (length taken)) (sym (some-injective e)) ∙ drop-append_seam taken rest)))

gone-at : (b taken : List ℕ) (told : Option (List ℕ)) (p : Phase) → length taken ≤ longest_input + 1 → ReadsAt b taken told p → GoneAtMost b told
gone-at b taken told Taking m h = gone-of b taken told m h
gone-at b taken told Giving m h = gone-of b taken told m h.1
gone-at b taken told (Over Whole) m h = gone-of b taken told m h.1
gone-at b taken told (Over (Bad at)) m h = gone-of b taken told m h.1
gone-at b taken told (Over Large) m h = gone-of b taken told m h.1
gone-at b taken told (Over Failed) m h = gone-of b taken told m h

pub gone : (b : List ℕ) (r : Reading) (told : Option (List ℕ)) → length r.taken ≤ longest_input + 1 → Reads b r told → GoneAtMost b told
gone b r told m h = gone-at b r.taken told r.phase m h

-- after an item all that a reader wants was taken
pub at_phase : (b taken : List ℕ) (told : Option (List ℕ)) (p q : Phase) → p ≡ q → ReadsAt b taken told p → ReadsAt b taken told q
at_phase b taken told p q e h = subst (ReadsAt b taken told) e h

pub taken-after : (b : List ℕ) (r : Reading) (told : Option (List ℕ)) (x : Item) → IsAfter (Ok x) r.phase → Reads b r told → IsInput b r.taken
taken-after b r told items.End e h = (at_phase b r.taken told r.phase (Over Whole) e h).0
taken-after b r told x e h = (at_phase b r.taken told r.phase Giving e h).0

-- an item that does not end a script leaves the reader going
pub goes-after : (r : Reading) (x : Item) → is_end x ≡ false → IsAfter (Ok x) r.phase → GoesOn r.phase
goes-after r items.End n e = absurd cc
goes-after r x n e = subst GoesOn (sym e) tt

pub says-of : (b : List ℕ) (r : Reading) (told : Option (List ℕ)) (xs : List Item) (f : ScriptFault) → IsAfter (Err f) r.phase → Reads b r told → (IsInput b r.taken → Says f b xs) → Says f b xs
says-of b r told xs (script.BadScript at) e h k = k (at_phase b r.taken told r.phase (Over (Bad at)) e h).0
says-of b r told xs script.TooLarge e h k = k (at_phase b r.taken told r.phase (Over Large) e h).0
says-of b r told xs script.InputFault e h k = tt
says-of b r told xs script.NoMemory e h k = tt
