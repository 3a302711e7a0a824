-- The argument of a line.
use Rattle.std.proofs.Common.{◌≡◌, ◌∙◌, ◌+◌, ◌<◌, ◌∷◌, [], ℕ, suc, Bool, true, false, not, cond, List, Some, None, refl, ap, drop, length, nat_eq, arith, if◌then◌else◌}
use Rattle.std.specs.List.{prefix_len}
use Rattle.lp_actions.specs.Actions.{argument_in}
use Rattle.lp_commanding.specs.Lines.{is_typed}

-- no space, no argument
none_by : (cs : List ℕ) (b : Bool) → (prefix_len is_typed cs ≡ length cs → argument_in cs ≡ None) → cond (not b) (1 + prefix_len is_typed cs) 0 ≡ suc (length cs) → (if b then Some cs else argument_in cs) ≡ None
none_by cs true f q = absurd (omega arith)
none_by cs false f q = f (omega arith)

pub no_argument : (line : List ℕ) → prefix_len is_typed line ≡ length line → argument_in line ≡ None
no_argument [] e = refl
no_argument (c ∷ cs) e = none_by cs (nat_eq c 32) (no_argument cs) e

-- what stands behind the first space
behind_by : (c : ℕ) (cs : List ℕ) (b : Bool) → (prefix_len is_typed cs < length cs → argument_in cs ≡ Some (drop (prefix_len is_typed cs + 1) cs)) → cond (not b) (1 + prefix_len is_typed cs) 0 < suc (length cs)
    → (if b then Some cs else argument_in cs) ≡ Some (drop (cond (not b) (1 + prefix_len is_typed cs) 0 + 1) (c ∷ cs))
behind_by c cs true f q = refl
behind_by c cs false f q =
    let n : suc (prefix_len is_typed cs + 1) ≡ 1 + prefix_len is_typed cs + 1 = omega arith in
    f (omega arith) ∙ ap (λ k. Some (drop k (c ∷ cs))) n

pub argument_behind : (line : List ℕ) → prefix_len is_typed line < length line → argument_in line ≡ Some (drop (prefix_len is_typed line + 1) line)
argument_behind [] e = absurd (omega arith)
argument_behind (c ∷ cs) e = behind_by c cs (nat_eq c 32) (argument_behind cs) e
