-- A tree's line is that of its first token.
use Rattle.std.proofs.Common.{◌≡◌, List, refl}
use Rattle.lp_tree.specs.declared.seen.Seen.{Seen}
use Rattle.lp_tree.specs.Seen.{first_line}
use Rattle.lp_tree.specs.Trees.{Tree, line_of}
use Rattle.lp_tree.specs.Expressions.{Spells, int, string, name, paren, array, mapping, call, efun_call, parent_call, named_parent_call, catch, sscanf, index, range, call_other, post_step, pre_step, unary, cast, binary, and_then, or_else, cond, assign, sequence}
use Rattle.lp_tree.specs.Statements.{Around, StmtTree, stmt_line, LocalTree, SpellsLocal, declares, SpellsStmt, block, empty, run, local, if_only, if_else, while, do_while, for, foreach, switch, break, continue, return}
use Rattle.lp_tree.specs.Units.{ItemTree, item_line, SpellsItem, inherit, proto, fun, var}

pub expression_line : {t : Tree} {ts rest : List Seen} → Spells t ts rest → line_of t ≡ first_line ts
expression_line int = refl
expression_line string = refl
expression_line name = refl
expression_line (paren s) = refl
expression_line (array s) = refl
expression_line (mapping s) = refl
expression_line (call s) = refl
expression_line (efun_call s) = refl
expression_line (parent_call s) = refl
expression_line (named_parent_call s) = refl
expression_line (catch s) = refl
expression_line (sscanf s r f q p) = refl
expression_line (index s r e i) = expression_line s
expression_line (range s r a b) = expression_line s
expression_line (call_other s r a) = expression_line s
expression_line (post_step s p) = expression_line s
expression_line (pre_step s p) = refl
expression_line (unary u s r) = refl
expression_line (cast ty s r) = refl
expression_line (binary s q r p) = expression_line s
expression_line (and_then s q r p) = expression_line s
expression_line (or_else s q r p) = expression_line s
expression_line (cond s q y n p) = expression_line s
expression_line (assign s q v p) = expression_line s
expression_line (sequence s q r) = expression_line s

pub local_line : {d : LocalTree} {ts rest : List Seen} → SpellsLocal d ts rest → d.line ≡ first_line ts
local_line (declares s) = refl

pub statement_line : {a : Around} {s : StmtTree} {ts rest : List Seen} → SpellsStmt a s ts rest → stmt_line s ≡ first_line ts
statement_line (block s) = refl
statement_line empty = refl
statement_line (run s) = expression_line s
statement_line (local s) = local_line s
statement_line (if_only e y n) = refl
statement_line (if_else e y n) = refl
statement_line (while e b) = refl
statement_line (do_while b e) = refl
statement_line (for i t s b) = refl
statement_line (foreach f i e b) = refl
statement_line (switch e p) = refl
statement_line (break h) = refl
statement_line (continue h) = refl
statement_line (return e) = refl

pub unit_line : {i : ItemTree} {ts rest : List Seen} → SpellsItem i ts rest → item_line i ≡ first_line ts
unit_line inherit = refl
unit_line (proto m t p) = refl
unit_line (fun m t p b) = refl
unit_line (var m d) = refl
