-- What is next leads to one outcome.
use Rattle.std.proofs.Common.{◌≡◌, ℕ, ℤ, List, Some, refl, sym, ap, ◌∙◌, subst}
use Rattle.std.specs.Prelude.{map}
use Rattle.lp_tree.specs.declared.fault.FaultKind.{FaultKind}
use Rattle.lp_tree.specs.declared.fault.FaultKind.TheVariants.{Lex}
use Rattle.lp_preproc.proofs.Lexing.{no_fault, same_place, same_tokens}
use Rattle.lp_preproc.specs.declared.word.Word.{Word}
use Rattle.lp_parser_expr.specs.Theorem.{SpellsOne}
use Rattle.lp_preproc.specs.Conditions.{HasValue, value, sight}
use Rattle.lp_preproc.specs.State.{Setting, State, Next, line_or}
use Rattle.lp_preproc.specs.Expansion.{Outcome, Whole, Faulty, LeadsTo, ends, fails, goes, asks, asks_fault, reads, reads_fault, tests, tests_fault, line_at}

same_some : {A : Type 0} (x y : A) → Some x ≡ Some y → x ≡ y
same_some x y e = cc

same_value : SpellsOne → (ws : List Word) (y z : ℤ) → HasValue ws y → HasValue ws z → y ≡ z
same_value one ws y z h g =
    let e : h.0 ≡ g.0 = one h.0 g.0 (map sight ws) h.1 g.1 in
    same_some y z (sym h.4 ∙ ap value e ∙ g.4)

same_whole : (s t : State) → Whole s ≡ Whole t → s ≡ t
same_whole s t e = cc

apart : (s : State) (kind : FaultKind) (line : ℕ) → Whole s ≡ Faulty kind line → ⊥
apart s kind line e = cc

-- What is next leads to one outcome.
pub one_outcome : SpellsOne → {c : Setting} {n : Next} {o p : Outcome} → LeadsTo c n o → LeadsTo c n p → o ≡ p
one_outcome uniq ends ends = refl
one_outcome uniq fails fails = refl
one_outcome uniq (goes h) (goes g) = one_outcome uniq h g
one_outcome uniq {c} {p = p} (asks {r = r} {k = k} h g) (asks {r = t} i j) =
    one_outcome uniq g (subst (λ x. LeadsTo c (k x) p) (sym (same_whole r t (one_outcome uniq h i))) j)
one_outcome uniq (asks {r = r} h g) (asks_fault i) = absurd (apart r _ _ (one_outcome uniq h i))
one_outcome uniq (asks_fault h) (asks {r = r} i j) = absurd (apart r _ _ (sym (one_outcome uniq h i)))
one_outcome uniq (asks_fault h) (asks_fault i) = one_outcome uniq h i
one_outcome uniq {c} {p = p} (reads {bytes} {k = k} {ts = ts} l h) (reads {ts = us} m g) =
    one_outcome uniq h (subst (λ x. LeadsTo c (k x) p) (sym (same_tokens bytes ts us l m)) g)
one_outcome uniq (reads {bytes} {ts = ts} l h) (reads_fault at kind f) = absurd (no_fault bytes ts at kind l f)
one_outcome uniq (reads_fault at kind f) (reads {bytes} {ts = ts} l h) = absurd (no_fault bytes ts at kind l f)
one_outcome uniq (reads_fault {bytes} {line} at kind f) (reads_fault place what g) =
    ap (λ x. Faulty Lex (line_or line (line_at bytes x))) (same_place bytes place at what kind g f)
one_outcome uniq {c} {p = p} (tests {ws} {k = k} {z = y} v h) (tests {z = z} w g) =
    one_outcome uniq h (subst (λ x. LeadsTo c (k x) p) (sym (same_value uniq ws y z v w)) g)
one_outcome uniq (tests {z = z} v h) (tests_fault n) = absurd (n z v)
one_outcome uniq (tests_fault n) (tests {z = z} v h) = absurd (n z v)
one_outcome uniq (tests_fault n) (tests_fault m) = refl
