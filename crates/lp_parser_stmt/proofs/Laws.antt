-- The laws, put together.
use Rattle.std.proofs.Common.{◌≡◌, ℕ, max, List, [], ◌∷◌, sym, subst}
use Rattle.std.specs.Prelude.{Some}
use Rattle.lp_tree.specs.declared.token.Mark.TheVariants.{Semicolon}
use Rattle.lp_tree.specs.declared.seen.Seen.{Seen}
use Rattle.lp_tree.specs.Seen.{mark}
use Rattle.lp_tree.specs.Statements.{DeclaratorTree, SpellsDeclarators}
use Rattle.lp_parser_stmt.specs.Machine.{Names, AtOne, names_step, names_run}
use Rattle.lp_parser_stmt.specs.Depth.{names_height, names_here}
use Rattle.lp_parser_stmt.specs.Theorem.{ReadsNames, ReadsBlocks}
use Rattle.lp_parser_stmt.proofs.NamesRead.{names_read, names_rest, names_spelled}
use Rattle.lp_parser_stmt.proofs.Stmts.{block_read}
use Rattle.lp_parser_stmt.proofs.Levels.{NamesRise, names-rise, names-whole, step-levels, least-some}
use Rattle.lp_parser_stmt.proofs.Sound.{block_spelled}
use Rattle.lp_parser_stmt.proofs.Viable.{names_begun, block_begun}

names_read_so : (ds : List DeclaratorTree) (l : ℕ) (ts rest : List Seen) → names_run (AtOne []) ts ≡ Some (record { ones = ds; rest = mark Semicolon l ∷ rest }) → SpellsDeclarators ds ts (mark Semicolon l ∷ rest)
names_read_so ds l ts rest e =
    let m = names_spelled (names_rest (AtOne []) ts (record { ones = ds; rest = mark Semicolon l ∷ rest }) e) in
    subst (λ xs. SpellsDeclarators xs ts (mark Semicolon l ∷ rest)) (sym m.2) m.1

names_levels : (d next : Names) (x : Seen) → names_step d x ≡ Some next → names_height next ≡ max (names_height d) (names_here next)
names_levels d next x e = subst (λ o. NamesRise (names_height d) o) e (names-rise d x)

pub reads_names : ReadsNames
reads_names = record { read = names_read_so; spelled = λ ds l ts rest d. names_read d []; begun = names_begun; levels = names_levels; whole = names-whole }

pub reads_blocks : ReadsBlocks
reads_blocks = record { read = block_spelled; spelled = λ ss ts rest d. block_read d; begun = block_begun; levels = step-levels; positive = least-some }
