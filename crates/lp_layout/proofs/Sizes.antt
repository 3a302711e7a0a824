-- When there are too many names.
use Rattle.std.proofs.Common.{◌≡◌, ℕ, ◌<◌, ◌≤◌, refl, ap, ◌∙◌, arith, Bool, true, false, ◌||◌, List}
use Rattle.std.specs.Prelude.{[], nat_lt}
use Rattle.std.proofs.lemmas.Bool.Decides.{nat_tests}
use Rattle.lp_tree.specs.Units.{ItemTree}
use Rattle.lp_values.specs.declared.id.ProgId.{ProgId}
use Rattle.lp_code.specs.declared.tables.Slot.{Slot}
use Rattle.lp_code.specs.declared.tables.VarRow.{VarRow}
use Rattle.lp_code.specs.declared.tables.Tables.{Tables}
use Rattle.lp_layout.specs.Layout.{laid_slots, laid_tables, laid_variables, parts_before, plain_pragmas}

more : (n a : ℕ) → n < a → nat_lt n a ≡ true
more n a h = grind (arith, nat_tests)

no_more : (n a : ℕ) → a ≤ n → nat_lt n a ≡ false
no_more n a h = grind (arith, nat_tests)

or_true : (a b : Bool) → b ≡ true → a || b ≡ true
or_true true b h = refl
or_true false b h = h

pub first_big : (n a b c d : ℕ) → n < a → nat_lt n a || nat_lt n b || nat_lt n c || nat_lt n d ≡ true
first_big n a b c d h = ap (λ x. x || nat_lt n b || nat_lt n c || nat_lt n d) (more n a h)

pub second_big : (n a b c d : ℕ) → n < b → nat_lt n a || nat_lt n b || nat_lt n c || nat_lt n d ≡ true
second_big n a b c d h = ap (λ x. x || nat_lt n c || nat_lt n d) (or_true (nat_lt n a) (nat_lt n b) (more n b h))

pub none_big : (n a b c d : ℕ) → a ≤ n → b ≤ n → c ≤ n → d ≤ n → nat_lt n a || nat_lt n b || nat_lt n c || nat_lt n d ≡ false
none_big n a b c d ha hb hc hd =
    ap (λ x. x || nat_lt n b || nat_lt n c || nat_lt n d) (no_more n a ha) ∙ ap (λ x. x || nat_lt n c || nat_lt n d) (no_more n b hb) ∙ ap (λ x. x || nat_lt n d) (no_more n c hc) ∙ no_more n d hd

abbrev made : List ProgId → List VarRow → List Slot → Tables
made ps vs ss = record { path = []; parents = []; parts = ps; slots = ss; vars = vs; pragmas = plain_pragmas }

pub same_tables : (is : List ItemTree) (ts : List Tables) (ps : List ProgId) (vs : List VarRow) (ss : List Slot) → ps ≡ parts_before ts → vs ≡ laid_variables is ts 0 → ss ≡ laid_slots is ts
    → record { path = []; parents = []; parts = ps; slots = ss; vars = vs; pragmas = plain_pragmas } ≡ laid_tables is ts
same_tables is ts ps vs ss hp hv hs = ap (λ x. made x vs ss) hp ∙ ap (λ x. made (parts_before ts) x ss) hv ∙ ap (λ x. made (parts_before ts) (laid_variables is ts 0) x) hs
