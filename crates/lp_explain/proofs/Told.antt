-- A line that is told of a place, however the place, the number and the line came to be known.
use Rattle.std.proofs.Common.{◌≡◌, ◌∙◌, ap, ℕ, List, ◌++◌, length, drop, min}
use Rattle.std.specs.Prelude.{codes}
use Rattle.std.specs.Fmt.{decimal}
use Rattle.lp_explain.specs.Shown.{line_number, first_line, listed, IsTold}

pub told_of : (script : List ℕ) (at place number : ℕ) (line reason told : List ℕ) → place ≡ min at (length script) → number ≡ line_number script place → line ≡ first_line (drop place script) → told ≡ codes "line " ++ (decimal number ++ (listed line ++ (codes ": " ++ reason))) → IsTold script at told
told_of script at place number line reason told p n l t = (
  reason,
  t
      ∙ (ap (λ k. codes "line " ++ (decimal k ++ (listed line ++ (codes ": " ++ reason)))) (n ∙ ap (λ k. line_number script k) p)
      ∙ ap (λ xs. codes "line " ++ (decimal (line_number script (min at (length script))) ++ (listed xs ++ (codes ": " ++ reason)))) (l ∙ ap (λ k. first_line (drop k script)) p)),
)
