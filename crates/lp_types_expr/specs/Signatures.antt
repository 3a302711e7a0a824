-- What is known of functions and variables when a file is compiled: what the file itself declares, and what the tables
-- of its parents tell.
use Rattle.std.specs.Prelude.{ℕ, ◌/◌, ◌%◌, List, [], ◌∷◌, map, Bool, true, false, not, ◌&&◌, nat_eq, Option, Some, None, if◌then◌else◌}
use Rattle.lp_tree.specs.declared.keyword.Base.{Base}
use Rattle.lp_tree.specs.declared.keyword.Modifier.{Modifier}
use Rattle.lp_tree.specs.declared.types.TypeName.{TypeName}
use Rattle.lp_tree.specs.declared.unit.Param.{Param}
use Rattle.lp_tree.specs.Statements.{DeclaratorTree}
use Rattle.lp_tree.specs.Units.{ItemTree, Inherit, Proto, Fun, Var}
use Rattle.lp_code.specs.declared.tables.Slot.{Slot}
use Rattle.lp_code.specs.declared.tables.VarRow.{VarRow}
use Rattle.lp_code.specs.declared.tables.Tables.{Tables}
use Rattle.lp_instr.specs.EfunList.{is_name}
use Rattle.lp_types_expr.specs.Kinds.{kind_of, is_varargs}
pub use Rattle.lp_types_expr.specs.declared.signature.Signature.{Signature}

-- the first that is there
abbrev pub or_else : {A : Type 0} → Option A → Option A → Option A
or_else (Some x) y = Some x
or_else None y = y

abbrev pub signature : List Modifier → Option TypeName → List Param → Signature
signature ms ty ps = record { varargs = is_varargs ms; answer = kind_of ty; params = map (λ p. kind_of p.type_name) ps }

-- What a file declares

-- a file's function with a name; of two it is the last, but then the file has a fault
abbrev pub own_function : List ItemTree → List ℕ → Option Signature
own_function [] w = None
own_function (Inherit line path ∷ is) w = own_function is w
own_function (Proto line ms ty name ps ∷ is) w = own_function is w
own_function (Fun line ms ty name ps b ∷ is) w = or_else (own_function is w) (if is_name w name then Some (signature ms ty ps) else None)
own_function (Var line ms base ds ∷ is) w = own_function is w

-- a file's first prototype with a name
abbrev pub own_prototype : List ItemTree → List ℕ → Option Signature
own_prototype [] w = None
own_prototype (Inherit line path ∷ is) w = own_prototype is w
own_prototype (Proto line ms ty name ps ∷ is) w = if is_name w name then Some (signature ms ty ps) else own_prototype is w
own_prototype (Fun line ms ty name ps b ∷ is) w = own_prototype is w
own_prototype (Var line ms base ds ∷ is) w = own_prototype is w

-- the type of a file's variable; of two with one name it is the last one's, but then the file has a fault
abbrev pub declared_kind : Base → List DeclaratorTree → List ℕ → Option TypeName
declared_kind base [] w = None
declared_kind base (d ∷ ds) w = or_else (declared_kind base ds w) (if is_name w d.name then Some (record { base = base; stars = d.stars }) else None)

abbrev pub own_kind : List ItemTree → List ℕ → Option TypeName
own_kind [] w = None
own_kind (Inherit line path ∷ is) w = own_kind is w
own_kind (Proto line ms ty name ps ∷ is) w = own_kind is w
own_kind (Fun line ms ty name ps b ∷ is) w = own_kind is w
own_kind (Var line ms base ds ∷ is) w = or_else (own_kind is w) (declared_kind base ds w)

-- What the parents' tables tell

-- whether a number of modifiers has one's bit
abbrev pub has_bit : ℕ → ℕ → Bool
has_bit value mods = nat_eq ((mods / value) % 2) 1

-- bit 0 is `private`, bit 6 is `varargs`
abbrev pub is_private_number : ℕ → Bool
is_private_number mods = has_bit 1 mods

abbrev pub is_varargs_number : ℕ → Bool
is_varargs_number mods = has_bit 64 mods

-- no function: the row is that of a prototype
abbrev pub has_function : Slot → Bool
has_function s = not (nat_eq s.fun 65535)

abbrev pub signature_of : Slot → Signature
signature_of s = record { varargs = is_varargs_number s.mods; answer = s.answer; params = s.params }

-- the first row of a name
abbrev pub row_named : List Slot → List ℕ → Option Slot
row_named [] w = None
row_named (s ∷ ss) w = if is_name w s.name then Some s else row_named ss w

-- a child sees the rows of a parent that are not private
abbrev pub is_shown : Slot → Bool
is_shown s = not (is_private_number s.mods)

-- whether a row counts where only functions are wanted, and where prototypes are too
abbrev pub is_wanted : Bool → Slot → Bool
is_wanted true s = has_function s
is_wanted false s = true

abbrev pub shown_if : Bool → Option Slot → Option Signature
shown_if bodies None = None
shown_if bodies (Some s) = if is_shown s && is_wanted bodies s then Some (signature_of s) else None

-- what the last parent shows of its row of a name
abbrev pub last_shown : Bool → List Tables → List ℕ → Option Signature
last_shown bodies [] w = None
last_shown bodies (t ∷ ts) w = or_else (last_shown bodies ts w) (shown_if bodies (row_named t.slots w))

-- the last parent's function, or else the last parent's prototype
abbrev pub of_parents : List Tables → List ℕ → Option Signature
of_parents ts w = or_else (last_shown true ts w) (last_shown false ts w)

-- the file's own function, else a parent's, else the file's own prototype, else a parent's
abbrev pub known_function : List ItemTree → List Tables → List ℕ → Option Signature
known_function is ts w = or_else (own_function is w) (or_else (last_shown true ts w) (or_else (own_prototype is w) (last_shown false ts w)))

-- the type of the last row of a name that a child sees
abbrev pub row_kind : List VarRow → List ℕ → Option TypeName
row_kind [] w = None
row_kind (v ∷ vs) w = or_else (row_kind vs w) (if is_private_number v.mods then None else if is_name w v.name then Some v.kind else None)

-- a variable of the last parent that shows one with the name
abbrev pub inherited_kind : List Tables → List ℕ → Option TypeName
inherited_kind [] w = None
inherited_kind (t ∷ ts) w = or_else (inherited_kind ts w) (row_kind t.vars w)
