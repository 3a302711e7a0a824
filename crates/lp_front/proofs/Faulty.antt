-- The first fault of a file.
use Rattle.std.proofs.Common.{◌≤◌, ℕ, List, ◌∙◌, sym, subst}
use Rattle.lp_tree.specs.declared.unit.Unit.{Unit as UnitOf}
use Rattle.lp_tree.specs.UnitView.{unit_of}
use Rattle.lp_tree.specs.Units.{SpellsUnit, unit_height}
use Rattle.lp_files.specs.declared.store.Store.{Store}
use Rattle.lp_tree.specs.declared.pragma.Pragmas.{Pragmas}
use Rattle.lp_tree.specs.declared.token.Token.{Token}
use Rattle.lp_preproc.specs.declared.fault.PreFault.{PreFault}
use Rattle.lp_preproc.specs.declared.fault.PreFault.TheVariants as pre
use Rattle.lp_preproc.specs.Expansion.{IsExpansion, IsFault as IsExpansionFault, setting}
use Rattle.lp_parser_expr.specs.declared.fault.ParseFault.{ParseFault}
use Rattle.lp_parser_expr.specs.declared.fault.ParseFault.TheVariants as parse
use Rattle.lp_parser.specs.Theorem.{IsFault, sight, deepest}
use Rattle.lp_front.specs.declared.read.ReadFault.{ReadFault}
use Rattle.lp_front.specs.declared.read.ReadFault.TheVariants.{At, NoMemory}
use Rattle.lp_front.specs.Reading.{Declares, IsUnitFault, IsUnitNamed, IsToldOf, IsWhy, expansion, unit}

-- what was read of a file
pub of_read : (files : Store) (path : List ℕ) (ts : List Token) (p : Pragmas) (u : UnitOf) → IsExpansion (setting files path) ts p → SpellsUnit (unit_of u) (sight ts) → unit_height (unit_of u) ≤ deepest → Declares files path (unit_of u) p
of_read files path ts p u x s h = record { tokens = ts; expands = x; spelled = s; shallow = h }

-- a fault of the tokens is one of the file
pub of_unit : (files : Store) (path : List ℕ) (ts : List Token) (p : Pragmas) (f : ParseFault) (told : ReadFault) → IsExpansion (setting files path) ts p → IsFault ts f → IsUnitNamed path f told → IsWhy files path told
of_unit files path ts p f NoMemory x h n = tt
of_unit files path ts p parse.NoMemory (At fault) x h n = subst (IsWhy files path) (sym n) tt
of_unit files path ts p (parse.Unexpected line) (At fault) x h n = unit n.0 x (subst (λ k. IsUnitFault ts k fault.line) (sym n.2) (h.0, h.1, n.1 ∙ h.2))
of_unit files path ts p (parse.TooNested line) (At fault) x h n = unit n.0 x (subst (λ k. IsUnitFault ts k fault.line) (sym n.2) (h.0, h.1, n.1 ∙ h.2))

-- a fault of the expansion is one of the file
pub of_expansion : (files : Store) (path : List ℕ) (f : PreFault) (told : ReadFault) → IsExpansionFault (setting files path) f → IsToldOf f told → IsWhy files path told
of_expansion files path (pre.At fault) told h e = subst (IsWhy files path) (sym e) (expansion h.0 h.1)
of_expansion files path pre.NoMemory told h e = subst (IsWhy files path) (sym e) tt
