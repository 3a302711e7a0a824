-- What was taken of an input, and what is left.
use Rattle.std.proofs.Common.{◌≡◌, ap, sym, refl, ℕ, ◌+◌, List, ◌++◌, take, Option, Some, None, append_assoc, ◌≤◌, length, arith, Result, Ok, Err, IfOk}
use Rattle.std.proofs.lemmas.Grind.{common_steps}
use Rattle.std.proofs.lemmas.List.{length-take-le}
use Rattle.std.proofs.Math.Seq.{take-append-add, take-append_seam}
use Rattle.lp_io.specs.Told.{before_giving, IsAtEnd}
use Rattle.lp_io.specs.declared.outside.Failed.{Failed}

-- bytes given twice are given at once
given-twice : (xs ys : List ℕ) (told : Option (List ℕ)) → before_giving xs (before_giving ys told) ≡ before_giving (xs ++ ys) told
given-twice xs ys None = refl
given-twice xs ys (Some ts) = ap Some (sym (append_assoc xs ys ts))

-- a read behind a front
pub behind_front : (old new : List ℕ) (filled n : ℕ) (before now : Option (List ℕ)) → filled ≤ length old → before ≡ before_giving (take n new) now
    → before_giving (take (filled + n) (take filled old ++ new)) now ≡ before_giving (take filled old) before
behind_front old new filled n before now within given =
    let front : take (filled + n) (take filled old ++ new) ≡ take filled old ++ take n new = let e : length (take filled old) ≡ filled = length-take-le filled old within in grind (arith, common_steps, take-append-add (take filled old) new n, e) in
    rw (front, given) (sym (given-twice (take filled old) (take n new) now))

-- the same of a read that may fail
pub behind_read : (old new put : List ℕ) (filled : ℕ) (before now : Option (List ℕ)) (r : Result ℕ Failed) → filled ≤ length old → put ≡ take filled old ++ new → IfOk r (λ n. before ≡ before_giving (take n new) now)
    → IfOk r (λ n. before_giving (take (filled + n) put) now ≡ before_giving (take filled old) before)
behind_read old new put filled before now (Ok n) within is given = rw is (behind_front old new filled n before now within given)
behind_read old new put filled before now (Err e) within is given = tt

take-all : (n : ℕ) (xs : List ℕ) → length xs ≤ n → take n xs ≡ xs
take-all n xs within = grind (arith, common_steps)

-- what was taken is all, where nothing is left
pub whole_at_end : (most : ℕ) (told : Option (List ℕ)) (front bytes : List ℕ) → before_giving front told ≡ Some bytes → IsAtEnd told → length front ≤ most → front ≡ take most bytes
whole_at_end most None front bytes is ended within = grind (arith, common_steps)
whole_at_end most (Some xs) front bytes is ended within = let e : bytes ≡ front = grind (arith, common_steps) in rw e (sym (take-all most front within))

-- or as many as are wanted
pub whole_if_long : (most : ℕ) (told : Option (List ℕ)) (front bytes : List ℕ) → before_giving front told ≡ Some bytes → length front ≡ most → front ≡ take most bytes
whole_if_long most None front bytes is long = grind (arith, common_steps)
whole_if_long most (Some xs) front bytes is long = let e : bytes ≡ front ++ xs = grind (arith, common_steps) in rw (e, ← long) (sym (take-append_seam front xs))
