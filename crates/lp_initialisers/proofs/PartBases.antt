-- The place where the variables of a part begin, by the tables of the programs.
use Rattle.std.proofs.Common.{◌≡◌, ◌∙◌, ◌≤◌, ◌<◌, ℕ, arith, Option, Some, None, ap, sym, subst, length}
use Rattle.std.specs.Prelude.{◌+◌, ◌-◌, ◌^◌}
use Rattle.lp_code.specs.declared.program.RawProgram.{RawProgram}
use Rattle.lp_language.specs.Resolve.{Heritage, Part, part_at, part_count}
use Rattle.lp_inherit.proofs.Meanings.{count_parts}
use Rattle.lp_part_laws.specs.Parts.{IsSplit}
use Rattle.lp_part_laws.specs.Versions.{FitsVersion}
use Rattle.lp_part_laws.proofs.Bases.{base_split}
use Rattle.lp_part_laws.proofs.Lists.{one_value}
use Rattle.lp_part_laws.proofs.Places.{number_of_part}
use Rattle.lp_initialisers.specs.Callees.{IsBase}

n_below : (n m k : ℕ) → m ≤ n → n < k → m < k
n_below n m k a b = omega (arith, a, b)

pub base_is : (h : Heritage) (whole own : RawProgram) (n : ℕ) (p : Part) (r : Option ℕ) → part_at h n ≡ Some p → FitsVersion h whole → FitsVersion p.tree own → IsBase whole n (length own.tables.parts) r → r ≡ Some p.base
base_is h whole own n p r at fits mine is =
    let parts : length own.tables.parts ≡ part_count p.tree = ap length (ap (λ z. z.parts) (sym mine.own.own)) ∙ count_parts p.tree in
    let end = number_of_part h n p at in
    let split : IsSplit whole.tables.vars p.first p.base = subst (λ z. IsSplit z.vars p.first p.base) fits.own.own (base_split h n p at) in
    let first : p.first ≡ n + 1 - length own.tables.parts = omega (arith, end, parts) in
    is p.base (omega (arith, end, parts)) (let i = split.inside in let v = fits.variables in n_below (length whole.tables.vars) p.base (2 ^ 32) i v) (subst (λ z. IsSplit whole.tables.vars z p.base) first split)

pub same_base : (a b : ℕ) (r : Option ℕ) → r ≡ Some a → r ≡ Some b → a ≡ b
same_base a b r e f = one_value r a b e f

pub no_base : {P : Type 0} (b : ℕ) (r : Option ℕ) → r ≡ None → r ≡ Some b → P
no_base b r e f = let z : None ≡ Some b = sym e ∙ f in absurd cc
