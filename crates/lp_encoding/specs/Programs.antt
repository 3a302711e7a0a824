-- The bytes of programs.
use Rattle.std.specs.Prelude.{◌≡◌, ℕ, Bool, true, false, List, [], ◌∷◌, ◌++◌, Option, Some, Result, Ok, Err, ⊤}
use Rattle.std.specs.Int.{w8, w16, w32, w64}
use Rattle.lp_tree.specs.declared.keyword.Base.{Base}
use Rattle.lp_tree.specs.declared.keyword.Base.TheVariants as bases
use Rattle.lp_tree.specs.declared.pragma.Pragmas.{Pragmas}
use Rattle.lp_tree.specs.declared.pragma.TypeMode.{TypeMode}
use Rattle.lp_tree.specs.declared.pragma.TypeMode.TheVariants as modes
use Rattle.lp_tree.specs.declared.types.TypeName.{TypeName}
use Rattle.lp_values.specs.declared.id.ProgId.{ProgId}
use Rattle.lp_code.specs.declared.program.FunRow.{FunRow}
use Rattle.lp_code.specs.declared.program.RawProgram.{RawProgram}
use Rattle.lp_code.specs.declared.program.SwitchRow.{SwitchRow}
use Rattle.lp_code.specs.declared.tables.Slot.{Slot}
use Rattle.lp_code.specs.declared.tables.Tables.{Tables}
use Rattle.lp_code.specs.declared.tables.VarRow.{VarRow}
use Rattle.lp_encoding.specs.declared.fault.DecodeFault.{DecodeFault}
use Rattle.lp_encoding.specs.declared.fault.DecodeFault.TheVariants.{NoMemory, NoRecord}
use Rattle.lp_encoding.specs.Forms.{Form, number, pair, made, listed, list, text, code_points}
use Rattle.lp_encoding.specs.Instructions.{instr, label}

abbrev pub flag_number : Bool → ℕ
flag_number false = 0
flag_number true = 1

-- a flag: one byte
abbrev pub flag : Form Bool
flag = listed w8 flag_number (false ∷ true ∷ [])

abbrev pub mode_number : TypeMode → ℕ
mode_number modes.Weak = 0
mode_number modes.Strong = 1
mode_number modes.Strict = 2

-- how closely types are checked: one byte
abbrev pub mode : Form TypeMode
mode = listed w8 mode_number (modes.Weak ∷ modes.Strong ∷ modes.Strict ∷ [])

abbrev pub base_number : Base → ℕ
base_number bases.Int = 0
base_number bases.Status = 1
base_number bases.String = 2
base_number bases.Object = 3
base_number bases.Mapping = 4
base_number bases.Mixed = 5
base_number bases.Void = 6

-- what a type is made of: one byte
abbrev pub base : Form Base
base = listed w8 base_number (bases.Int ∷ bases.Status ∷ bases.String ∷ bases.Object ∷ bases.Mapping ∷ bases.Mixed ∷ bases.Void ∷ [])

-- a type: its base, then its stars
abbrev pub type_name : Form TypeName
type_name = made (λ t. (t.base, t.stars)) (λ x. record { base = x.0; stars = x.1 }) (pair base (number w32))

-- a version of a program
abbrev pub version : Form ProgId
version = made (λ v. v.0) (λ n. record { 0 = n }) (number w64)

-- a switch: its labels, then the place where none fits
abbrev pub switch_row : Form SwitchRow
switch_row = made (λ r. (r.cases, r.other)) (λ x. record { cases = x.0; other = x.1 }) (pair (list label) (number w32))

-- a function: its name, its first instruction, and the numbers of its parameters and of its locals
abbrev pub fun_row : Form FunRow
fun_row =
    made (λ r. (r.name, (r.from, (r.params, r.locals)))) (λ x. record { name = x.0; from = x.1.0; params = x.1.1.0; locals = x.1.1.1 })
    (pair text (pair (number w32) (pair (number w8) (number w16))))

-- a slot: its name, its part, its function, its modifiers, its type and those of its parameters
abbrev pub slot : Form Slot
slot =
    made (λ s. (s.name, (s.part, (s.fun, (s.mods, (s.answer, s.params)))))) (λ x. record { name = x.0; part = x.1.0; fun = x.1.1.0; mods = x.1.1.1.0; answer = x.1.1.1.1.0; params = x.1.1.1.1.1 })
    (pair text (pair (number w16) (pair (number w16) (pair (number w16) (pair type_name (list type_name))))))

-- a variable: its name, its part, its modifiers and its type
abbrev pub var_row : Form VarRow
var_row =
    made (λ v. (v.name, (v.part, (v.mods, v.kind)))) (λ x. record { name = x.0; part = x.1.0; mods = x.1.1.0; kind = x.1.1.1 })
    (pair text (pair (number w16) (pair (number w16) type_name)))

-- pragmas: three flags, and how closely types are checked
abbrev pub pragmas : Form Pragmas
pragmas =
    made (λ p. (p.no_clone, (p.no_inherit, (p.no_shadow, p.types)))) (λ x. record { no_clone = x.0; no_inherit = x.1.0; no_shadow = x.1.1.0; types = x.1.1.1 })
    (pair flag (pair flag (pair flag mode)))

-- tables: the path, the parents, the parts, the slots, the variables and the pragmas
abbrev pub tables : Form Tables
tables =
    made (λ t. (t.path, (t.parents, (t.parts, (t.slots, (t.vars, t.pragmas)))))) (λ x. record { path = x.0; parents = x.1.0; parts = x.1.1.0; slots = x.1.1.1.0; vars = x.1.1.1.1.0; pragmas = x.1.1.1.1.1 })
    (pair text (pair (list version) (pair (list version) (pair (list slot) (pair (list var_row) pragmas)))))

-- a program: the instructions, the texts, the switches, the functions, the tables and how many operands the stack may hold
abbrev pub program : Form RawProgram
program =
    made (λ p. (p.instrs, (p.consts, (p.switches, (p.funs, (p.tables, p.max_height)))))) (λ x. record { instrs = x.0; consts = x.1.0; switches = x.1.1.0; funs = x.1.1.1.0; tables = x.1.1.1.1.0; max_height = x.1.1.1.1.1 })
    (pair (list instr) (pair (list code_points) (pair (list switch_row) (pair (list fun_row) (pair tables (number w32))))))

-- the bytes are the encoding of a program
pub record IsEncoding (p : RawProgram) (bytes : List ℕ) : Type 0 where
  pub fits : program.Fits p
  pub spelled : bytes ≡ program.spelled p

-- Programs with encodings that begin the same bytes are one program, and so are their encodings and the bytes behind them.
abbrev pub IsPrefixFree : Type 0
IsPrefixFree = (p q : RawProgram) (a b r s : List ℕ) → IsEncoding p a → IsEncoding q b → a ++ r ≡ b ++ s → (p ≡ q) × (a ≡ b) × (r ≡ s)

-- all of the bytes are read, and these are the parts of the program that they spell
abbrev pub GivesWhole : Result RawProgram DecodeFault → Option (RawProgram × List ℕ) → Type 0
GivesWhole (Ok p) read = read ≡ Some (p, [])
GivesWhole (Err NoMemory) read = ⊤
GivesWhole (Err NoRecord) read = (p : RawProgram) → read ≡ Some (p, []) → ⊥

-- this program was read, or memory ran out
abbrev pub IsDecoded : RawProgram → Result RawProgram DecodeFault → Type 0
IsDecoded p (Ok q) = q ≡ p
IsDecoded p (Err NoMemory) = ⊤
IsDecoded p (Err NoRecord) = ⊥
