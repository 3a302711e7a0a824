-- What is told after several calls, one after another.
use Rattle.std.proofs.Common.{◌≡◌, ap, sym, refl, ℕ, ◌+◌, List, ◌++◌, take, drop, false, Option, Some, None, Ok, append_assoc, ◌≤◌, length, min, arith}
use Rattle.std.specs.Prelude.{◌==◌}
use Rattle.std.proofs.lemmas.Bool.{ne_eqb}
use Rattle.std.proofs.lemmas.Grind.{common_steps}
use Rattle.std.proofs.lemmas.List.{length-append, take-append-drop, take-append-le}
use Rattle.std.proofs.Math.Seq.{take-add, take-append-add}
use Rattle.lp_io.specs.Counts.{Counts}
use Rattle.lp_io.specs.Told.{after_adding, before_giving, took_none, IsCut}

-- bytes added twice are added at once
pub after_adding-added : (told : Option (List ℕ)) (xs ys : List ℕ) → after_adding (after_adding told xs) ys ≡ after_adding told (xs ++ ys)
after_adding-added None xs ys = refl
after_adding-added (Some ts) xs ys = ap Some (append_assoc ts xs ys)

-- bytes given twice are given at once
pub before_giving-given : (xs ys : List ℕ) (told : Option (List ℕ)) → before_giving xs (before_giving ys told) ≡ before_giving (xs ++ ys) told
before_giving-given xs ys None = refl
before_giving-given xs ys (Some ts) = ap Some (sym (append_assoc xs ys ts))

-- a front of a piece was added, and then a front of the rest
pub after_adding-more : (before mid now : Option (List ℕ)) (piece rest : List ℕ) (done taken : ℕ) → mid ≡ after_adding before (take done piece) → rest ≡ drop done piece → now ≡ after_adding mid (take taken rest) → now ≡ after_adding before (take (done + taken) piece)
after_adding-more before mid now piece rest done taken first is_rest then =
    rw (take-add done taken piece, ← is_rest, ← after_adding-added before (take done piece) (take taken rest), ← first) then

-- a write that took something leaves the count of those that took nothing
pub zeros-taken : (piece : List ℕ) (n before now : ℕ) → Counts (took_none piece (Ok n)) before now → (n ≡ 0 → ⊥) → now ≡ before
zeros-taken piece n before now counted some = let e : (n == 0) ≡ false = ne_eqb n 0 some in rw e at counted

-- the front of what is left was copied into a buffer
pub before_giving-copied : (all into now : List ℕ) (at n : ℕ) → at ≤ length all → n ≡ min (length into) (length (drop at all)) → now ≡ take n (drop at all) ++ drop n into → Some (drop at all) ≡ before_giving (take n now) (Some (drop (at + n) all))
before_giving-copied all into now at n within count copied =
    let fits : n ≤ length (drop at all) = omega arith in
    let front : take n now ≡ take n (drop at all) = rw copied (grind (arith, common_steps)) in
    let rest : drop (at + n) all ≡ drop n (drop at all) = grind (arith, common_steps) in
    rw (front, rest) (ap Some (sym (take-append-drop n (drop at all))))

-- a piece that was cut, as a front of a longer one
pub IsCut-longer : (before now : Option (List ℕ)) (piece more : List ℕ) → IsCut before now piece → IsCut before now (piece ++ more)
IsCut-longer before now piece more (n, within, added) =
    let fits : n ≤ length piece = omega arith in
    (n, omega (arith, length-append piece more), rw (take-append-le n piece more) added)

-- a piece that was cut, behind one that was added whole
pub IsCut-after : (before mid now : Option (List ℕ)) (front piece : List ℕ) → mid ≡ after_adding before front → IsCut mid now piece → IsCut before now (front ++ piece)
IsCut-after before mid now front piece first (n, within, added) =
    (length front + n, omega (arith, length-append front piece), rw (take-append-add front piece n, ← after_adding-added before front (take n piece), ← first) added)
