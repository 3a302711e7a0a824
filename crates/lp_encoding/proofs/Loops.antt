-- Values read one after the other, as a loop does.
use Rattle.std.proofs.Common.{◌≡◌, ℕ, suc, ◌-◌, ◌+◌, ◌≤◌, ◌<◌, List, [], ◌∷◌, ◌++◌, Option, Some, None, Err, refl, sym, ap, ◌∙◌, append_assoc, arith}
use Rattle.std.proofs.lemmas.List.{append-nil}
use Rattle.lp_encoding.specs.declared.fault.DecodeFault.{DecodeFault}
use Rattle.lp_encoding.specs.declared.fault.DecodeFault.TheVariants.{NoMemory, NoRecord}
use Rattle.lp_encoding.specs.Forms.{◌>>=◌, Gives, items_at}

-- what was read before, and what is still read
abbrev pub with_front : {A : Type 0} → List A → Option (List A × List ℕ) → Option (List A × List ℕ)
with_front front read = read >>= λ x. Some (front ++ x.0, x.1)

regroup : {A : Type 0} (front : List A) (x : A) (read : Option (List A × List ℕ)) → with_front front (read >>= λ xs. Some (x ∷ xs.0, xs.1)) ≡ with_front (front ++ x ∷ []) read
regroup front x (Some xs) = ap (λ ys. Some (ys, xs.1)) (simp append_assoc)
regroup front x None = refl

pub goes_on : {A : Type 0} (read : List ℕ → Option (A × List ℕ)) (front : List A) (count i : ℕ) (bytes : List ℕ) (x : A) (behind : List ℕ) (total : Option (List A × List ℕ)) → i < count → read bytes ≡ Some (x, behind)
    → with_front front (items_at read (count - i) bytes) ≡ total → with_front (front ++ x ∷ []) (items_at read (count - (i + 1)) behind) ≡ total
unfolding items_at
goes_on read front count i bytes x behind total lt h so_far =
    let k : count - i ≡ suc (count - (i + 1)) = omega arith in
    let one : with_front front (items_at read (count - i) bytes) ≡ with_front (front ++ x ∷ []) (items_at read (count - (i + 1)) behind) = rw (k, h) (regroup front x (items_at read (count - (i + 1)) behind)) in
    sym one ∙ so_far

pub refused : {A : Type 0} (e : DecodeFault) (read : List ℕ → Option (A × List ℕ)) (front : List A) (count i : ℕ) (bytes behind : List ℕ) (total : Option (List A × List ℕ)) → i < count → Gives (Err e) behind (read bytes)
    → with_front front (items_at read (count - i) bytes) ≡ total → Gives (Err e) behind total
unfolding items_at
refused NoMemory read front count i bytes behind total lt h so_far = tt
refused NoRecord read front count i bytes behind total lt h so_far =
    let k : count - i ≡ suc (count - (i + 1)) = omega arith in
    let one : with_front front (items_at read (count - i) bytes) ≡ None = rw (k, h) refl in
    sym so_far ∙ one

pub is_done : {A : Type 0} (read : List ℕ → Option (A × List ℕ)) (front : List A) (count i : ℕ) (bytes : List ℕ) (total : Option (List A × List ℕ)) → count ≤ i → with_front front (items_at read (count - i) bytes) ≡ total → total ≡ Some (front, bytes)
unfolding items_at
is_done read front count i bytes total le so_far =
    let k : count - i ≡ 0 = omega arith in
    let one : with_front front (items_at read (count - i) bytes) ≡ Some (front, bytes) = rw k (ap (λ ys. Some (ys, bytes)) (append-nil front)) in
    sym so_far ∙ one
