-- How many slots statements take.
use Rattle.std.specs.Prelude.{◌≡◌, ℕ, ◌+◌, length, max}
use Rattle.lp_tree.specs.Statements.{StmtTree, StmtTrees, PartTrees}
use Rattle.lp_language.specs.Scope.{declared, declared_parts, slots_in, slots_in_all, slots_in_parts}
use Rattle.lp_codegen_unit.specs.declared.slots.Used.{Used}

-- so many slots at most, and this one is the next behind what is declared
pub record Uses (count behind : ℕ) (u : Used) : Type 0 where
  pub most : u.most ≡ count
  pub next : u.next ≡ behind

abbrev pub UsesSlots : StmtTree → ℕ → Used → Type 0
UsesSlots s n u = Uses (slots_in s n) (n + length (declared s)) u

-- the parts of a switch, with the slots of all that they declare
abbrev pub UsesParts : PartTrees → ℕ → Used → Type 0
UsesParts ps n u = Uses (max (n + length (declared_parts ps)) (slots_in_parts ps n)) (n + length (declared_parts ps)) u

-- So far some slots are used, and with the statements that are left it comes to what all of them take.
pub record AllLeft (left all : StmtTrees) (first : ℕ) (u : Used) : Type 0 where
  pub most : max u.most (slots_in_all left u.next) ≡ slots_in_all all first

-- the same of the parts of a switch
pub record PartsLeft (left all : PartTrees) (first : ℕ) (u : Used) : Type 0 where
  pub most : max u.most (slots_in_parts left u.next) ≡ slots_in_parts all first
  pub next : u.next + length (declared_parts left) ≡ first + length (declared_parts all)
