-- A line of plain bytes.
use Rattle.std.proofs.Common.{◌≡◌, ℕ, false, List, [], ◌∷◌, ◌++◌, take, refl, ap, ◌∙◌, append_assoc, append-nil}
use Rattle.std.specs.List.{AllByRecursion}
use Rattle.lp_telnet.specs.Lines.{IsPlain, PlainLinesComeWhole, lines_of, text_of, with_ends, ended, max_line}
use Rattle.lp_telnet.proofs.LineLemmas.{whole_kept}

text_of-plain : (line t : List ℕ) → AllByRecursion IsPlain line → text_of (line ++ t) ≡ line ++ text_of t
text_of-plain [] t a = refl
text_of-plain (b ∷ bs) t a = rw a.0.no_command (ap (λ x. b ∷ x) (text_of-plain bs t a.1))

with_ends-plain : (line t : List ℕ) → AllByRecursion IsPlain line → with_ends false (line ++ 13 ∷ 10 ∷ t) ≡ line ++ 10 ∷ with_ends false t
with_ends-plain [] t a = refl
with_ends-plain (b ∷ bs) t a = rw (a.0.no_return, a.0.no_zero, a.0.no_newline) (ap (λ x. b ∷ x) (with_ends-plain bs t a.1))

ended-plain : (front line t : List ℕ) → AllByRecursion IsPlain line → ended front (line ++ 10 ∷ t) ≡ take max_line (front ++ line) ∷ ended [] t
ended-plain front [] t a = simp append-nil
ended-plain front (b ∷ bs) t a = rw a.0.no_newline (ended-plain (front ++ b ∷ []) bs t a.1 ∙ ap (λ x. take max_line x ∷ ended [] t) (append_assoc front (b ∷ []) bs))

pub plain_line : PlainLinesComeWhole
plain_line line rest a h =
    ap (λ x. ended [] (with_ends false x)) (text_of-plain line (13 ∷ 10 ∷ rest) a)
    ∙ ap (ended []) (with_ends-plain line (text_of rest) a)
    ∙ ended-plain [] line (with_ends false (text_of rest)) a
    ∙ ap (λ x. x ∷ lines_of rest) (whole_kept line h)
