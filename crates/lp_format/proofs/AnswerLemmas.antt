-- Appending texts one after another.
use Rattle.std.proofs.Common.{◌≡◌, ◌∙◌, ◌≤◌, ℕ, List, ◌++◌, length, Err, ap, arith, append_assoc, sym}
use Rattle.std.proofs.lemmas.List.{length-append}
use Rattle.lp_format.specs.declared.fault.FormatFault.{FormatFault}
use Rattle.lp_format.specs.declared.fault.FormatFault.TheVariants.{BadFormat, TooFewArgs, BadArg, TooLong, NoMemory}
use Rattle.lp_format.specs.Answers.{Becomes}

-- where a text is too long, a longer one is
pub longer : (fault : FormatFault) (n m t u : List ℕ) → length t ≤ length u → Becomes (Err fault) n t → Becomes (Err fault) m u
longer (BadFormat at) n m t u le b = b
longer TooFewArgs n m t u le b = b
longer (BadArg k) n m t u le b = b
longer TooLong n m t u le b = omega (arith, le, b)
longer NoMemory n m t u le b = b

-- where what there is with one more text is too long, the whole is
pub stops : (fault : FormatFault) (n m out t rest whole : List ℕ) → whole ≡ out ++ (t ++ rest) → Becomes (Err fault) n (out ++ t) → Becomes (Err fault) m whole
stops fault n m out t rest whole e b =
    let a : length whole ≡ length (out ++ (t ++ rest)) = ap (λ (l : List ℕ). length l) e in
    longer fault n m (out ++ t) whole (omega (arith, a, length-append out (t ++ rest), length-append t rest, length-append out t)) b

-- the same, where another text was appended before
pub stops_behind : (fault : FormatFault) (n m out more t rest whole next : List ℕ) → whole ≡ out ++ (t ++ (more ++ rest)) → next ≡ out ++ t → Becomes (Err fault) n (next ++ more) → Becomes (Err fault) m whole
stops_behind fault n m out more t rest whole next e next_is b =
    stops fault n m next more rest whole (e ∙ sym (append_assoc out t (more ++ rest)) ∙ ap (λ (l : List ℕ). l ++ (more ++ rest)) (sym next_is)) b

-- two texts were appended, and the rest is still to come
pub goes_on : (out t more rest whole next last : List ℕ) → whole ≡ out ++ (t ++ (more ++ rest)) → next ≡ out ++ t → last ≡ next ++ more → whole ≡ last ++ rest
goes_on out t more rest whole next last e next_is last_is =
    e ∙ sym (append_assoc out t (more ++ rest)) ∙ ap (λ (l : List ℕ). l ++ (more ++ rest)) (sym next_is) ∙ sym (append_assoc next more rest) ∙ ap (λ (l : List ℕ). l ++ rest) (sym last_is)
