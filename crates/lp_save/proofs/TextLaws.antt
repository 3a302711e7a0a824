-- What is spelled of a text is read as that text.
use Rattle.std.proofs.Common.{◌≡◌, ℕ, ◌+◌, ◌<◌, ◌≤◌, Bool, true, false, cond, ◌||◌, List, [], ◌∷◌, ◌++◌, length, append-nil, refl, sym, ap, subst, ◌∙◌, append_assoc, arith, length-append}
use Rattle.std.specs.Prelude.{flat_map, nat_eq, nat_lt}
use Rattle.std.proofs.lemmas.Bool.{cond-true, cond-false, eqb-true, lt-ltb}
use Rattle.lp_values.specs.Limits.{max_code_points}
use Rattle.lp_values.specs.declared.value.Value.TheVariants.{Str}
use Rattle.lp_save.specs.declared.fault.FaultKind.TheVariants.{TooLong}
use Rattle.lp_save.specs.SaveText.{Rest, left, saved_point}
use Rattle.lp_save.specs.Reading.{Done, Text, NoText, text_at, text_value, value_at}
use Rattle.lp_save.proofs.DeskLemmas.{value_text}

escaped_step : (done : List ℕ) (c : ℕ) (xs : List ℕ) → length done < max_code_points → cond (nat_lt (length done) max_code_points) (text_at (done ++ c ∷ []) false xs) (NoText TooLong) ≡ text_at (done ++ c ∷ []) false xs
escaped_step done c xs lt = cond-true (nat_lt (length done) max_code_points) _ _ (lt-ltb (length done) max_code_points lt)

abbrev Reads : List ℕ → List ℕ → ℕ → Type 0
Reads done xs c = text_at done false (saved_point c ++ xs) ≡ text_at (done ++ c ∷ []) false xs

step_by : (done : List ℕ) (c : ℕ) (xs : List ℕ) → length done < max_code_points → (a b d e f : Bool) → nat_eq c 92 ≡ a → nat_eq c 10 ≡ b → nat_eq c 13 ≡ d → nat_eq c 9 ≡ e → nat_eq c 34 ≡ f → Reads done xs c
step_by done c xs lt true b d e f h1 h2 h3 h4 h5 = subst (Reads done xs) (sym (eqb-true c 92 h1)) (escaped_step done 92 xs lt)
step_by done c xs lt false true d e f h1 h2 h3 h4 h5 = subst (Reads done xs) (sym (eqb-true c 10 h2)) (escaped_step done 10 xs lt)
step_by done c xs lt false false true e f h1 h2 h3 h4 h5 = subst (Reads done xs) (sym (eqb-true c 13 h3)) (escaped_step done 13 xs lt)
step_by done c xs lt false false false true f h1 h2 h3 h4 h5 = subst (Reads done xs) (sym (eqb-true c 9 h4)) (escaped_step done 9 xs lt)
step_by done c xs lt false false false false true h1 h2 h3 h4 h5 = subst (Reads done xs) (sym (eqb-true c 34 h5)) (escaped_step done 34 xs lt)
step_by done c xs lt false false false false false h1 h2 h3 h4 h5 =
    let same : saved_point c ≡ c ∷ [] = cond-false (nat_eq c 92) _ _ h1 ∙ cond-false (nat_eq c 10) _ _ h2 ∙ cond-false (nat_eq c 13) _ _ h3 ∙ cond-false (nat_eq c 9) _ _ h4 ∙ cond-false (nat_eq c 34) _ _ h5 in
    let other : (nat_eq c 13 || nat_eq c 9) ≡ false = ap (λ x. x || nat_eq c 9) h3 ∙ h4 in
    ap (λ y. text_at done false (y ++ xs)) same ∙ cond-false (nat_eq c 34) _ _ h5 ∙ cond-false (nat_eq c 92) _ _ h1 ∙ cond-false (nat_eq c 13 || nat_eq c 9) _ _ other ∙ escaped_step done c xs lt

text_step : (done : List ℕ) (c : ℕ) (xs : List ℕ) → length done < max_code_points → Reads done xs c
text_step done c xs lt = step_by done c xs lt (nat_eq c 92) (nat_eq c 10) (nat_eq c 13) (nat_eq c 9) (nat_eq c 34) refl refl refl refl refl

text_again : (done t rest : List ℕ) → length done + length t ≤ max_code_points → text_at done false (flat_map saved_point t ++ 34 ∷ rest) ≡ Text (done ++ t) rest
text_again done [] rest le = ap (λ x. Text x rest) (sym (append-nil done))
text_again done (c ∷ cs) rest le =
    let more : length (done ++ c ∷ []) ≡ length done + 1 = length-append done (c ∷ []) in
    ap (text_at done false) (append_assoc (saved_point c) (flat_map saved_point cs) (34 ∷ rest)) ∙ text_step done c (flat_map saved_point cs ++ 34 ∷ rest) (omega arith)
    ∙ text_again (done ++ c ∷ []) cs rest (omega arith) ∙ ap (λ x. Text x rest) (append_assoc done (c ∷ []) cs)

pub text_read_again : (t rest : List ℕ) (n levels : ℕ) (r : Rest) → length t ≤ max_code_points → value_at (n + 1) levels (left (34 ∷ flat_map saved_point t ++ 34 ∷ rest) r) ≡ Done (Str t) (left rest r)
text_read_again t rest n levels r le =
    let line : Rest = left (34 ∷ flat_map saved_point t ++ 34 ∷ rest) r in
    value_text (n + 1) levels line (omega arith) refl refl refl ∙ ap (λ x. text_value x line) (text_again [] t rest (omega arith))
