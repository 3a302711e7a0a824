-- How many slots a switch takes.
use Rattle.std.proofs.Common.{◌≡◌, ℕ, sym, ap, ◌∙◌, subst, arith}
use Rattle.lp_tree.specs.Trees.{Tree}
use Rattle.lp_tree.specs.Statements.{StmtTree, Switch, PartTrees}
use Rattle.lp_codegen_unit.specs.declared.slots.Used.{Used}
use Rattle.lp_codegen_unit.specs.Used.{UsesParts, UsesSlots}

pub uses_as : {s t : StmtTree} (n : ℕ) (u : Used) → t ≡ s → UsesSlots s n u → UsesSlots t n u
uses_as {s} {t} n u e h = subst (λ x. UsesSlots x n u) (sym e) h

pub switch_uses : (line n : ℕ) (e : Tree) (ps : PartTrees) (a u : Used) → UsesParts ps n a → u ≡ record { most = a.most; next = n } → UsesSlots (Switch line e ps) n u
switch_uses line n e ps a u p f = record { most = ap (λ x. x.most) f ∙ p.most; next = ap (λ x. x.next) f ∙ omega arith }
