-- A program is read from its encoding, and no encoding begins another.
use Rattle.std.proofs.Common.{◌≡◌, ℕ, List, [], ◌∷◌, ◌++◌, Some, Err, refl, sym, ap, subst, ◌∙◌, arith, Bool, true, false}
use Rattle.std.proofs.lemmas.List.{append-nil}
use Rattle.lp_tree.specs.declared.keyword.Base.{Base}
use Rattle.lp_tree.specs.declared.keyword.Base.TheVariants as bases
use Rattle.lp_tree.specs.declared.pragma.TypeMode.{TypeMode}
use Rattle.lp_tree.specs.declared.pragma.TypeMode.TheVariants as modes
use Rattle.lp_code.specs.declared.program.RawProgram.{RawProgram}
use Rattle.lp_instr.specs.EfunList.{AreNumbered}
use Rattle.lp_code.specs.Programs.{IsProgram}
use Rattle.lp_verify.specs.declared.fault.VerifyFault.{VerifyFault}
use Rattle.lp_verify.specs.declared.fault.VerifyFault.TheVariants.{Unsound}
use Rattle.lp_verify.specs.Verified.{IsRefused}
use Rattle.lp_encoding.specs.declared.fault.DecodeFault.{DecodeFault}
use Rattle.lp_encoding.specs.declared.fault.DecodeFault.TheVariants.{NoMemory, NoRecord}
use Rattle.lp_encoding.specs.Forms.{number, pair, list, text, code_points}
use Rattle.lp_encoding.specs.Instructions.{instr, label}
use Rattle.lp_encoding.specs.Programs.{flag, flag_number, mode, mode_number, base, base_number, type_name, version, switch_row, fun_row, slot, var_row, pragmas, tables, program, GivesWhole, IsDecoded, IsEncoding, IsPrefixFree}
use Rattle.lp_encoding.proofs.Laws.{some_is, IsBytes, IsForm, wide8, wide16, wide32, wide64, number_form, pair_form, made_form, listed_form, list_form, text_form, code_points_form}
use Rattle.lp_encoding.proofs.Operands.{instr_form, label_form}
use Rattle.std.specs.Int.{w8, w16, w32, w64, byte_len}
use Rattle.std.proofs.Common.{slice_get, suc, zero, ◌<◌, ◌^◌}

n8 : IsForm (number w8)
n8 = number_form w8 wide8

n16 : IsForm (number w16)
n16 = number_form w16 wide16

n32 : IsForm (number w32)
n32 = number_form w32 wide32

n64 : IsForm (number w64)
n64 = number_form w64 wide64

flag_only : (n : ℕ) (x : Bool) → slice_get (false ∷ true ∷ []) n ≡ Some x → n ≡ flag_number x
flag_only zero x e = ap flag_number (some_is false x e)
flag_only (suc zero) x e = ap flag_number (some_is true x e)
flag_only (suc (suc n)) x e = absurd cc

flag_there : (x : Bool) → (slice_get (false ∷ true ∷ []) (flag_number x) ≡ Some x) × (flag_number x < 256 ^ byte_len w8)
flag_there false = (refl, omega arith)
flag_there true = (refl, omega arith)

flag_form : IsForm flag
flag_form = listed_form w8 flag_number (false ∷ true ∷ []) wide8 flag_only flag_there

mode_only : (n : ℕ) (x : TypeMode) → slice_get (modes.Weak ∷ modes.Strong ∷ modes.Strict ∷ []) n ≡ Some x → n ≡ mode_number x
mode_only zero x e = ap mode_number (some_is modes.Weak x e)
mode_only (suc zero) x e = ap mode_number (some_is modes.Strong x e)
mode_only (suc (suc zero)) x e = ap mode_number (some_is modes.Strict x e)
mode_only (suc (suc (suc n))) x e = absurd cc

mode_there : (x : TypeMode) → (slice_get (modes.Weak ∷ modes.Strong ∷ modes.Strict ∷ []) (mode_number x) ≡ Some x) × (mode_number x < 256 ^ byte_len w8)
mode_there modes.Weak = (refl, omega arith)
mode_there modes.Strong = (refl, omega arith)
mode_there modes.Strict = (refl, omega arith)

mode_form : IsForm mode
mode_form = listed_form w8 mode_number (modes.Weak ∷ modes.Strong ∷ modes.Strict ∷ []) wide8 mode_only mode_there

base_only : (n : ℕ) (x : Base) → slice_get (bases.Int ∷ bases.Status ∷ bases.String ∷ bases.Object ∷ bases.Mapping ∷ bases.Mixed ∷ bases.Void ∷ []) n ≡ Some x → n ≡ base_number x
base_only zero x e = ap base_number (some_is bases.Int x e)
base_only (suc zero) x e = ap base_number (some_is bases.Status x e)
base_only (suc (suc zero)) x e = ap base_number (some_is bases.String x e)
base_only (suc (suc (suc zero))) x e = ap base_number (some_is bases.Object x e)
base_only (suc (suc (suc (suc zero)))) x e = ap base_number (some_is bases.Mapping x e)
base_only (suc (suc (suc (suc (suc zero))))) x e = ap base_number (some_is bases.Mixed x e)
base_only (suc (suc (suc (suc (suc (suc zero)))))) x e = ap base_number (some_is bases.Void x e)
base_only (suc (suc (suc (suc (suc (suc (suc n))))))) x e = absurd cc

base_there : (x : Base) → (slice_get (bases.Int ∷ bases.Status ∷ bases.String ∷ bases.Object ∷ bases.Mapping ∷ bases.Mixed ∷ bases.Void ∷ []) (base_number x) ≡ Some x) × (base_number x < 256 ^ byte_len w8)
base_there bases.Int = (refl, omega arith)
base_there bases.Status = (refl, omega arith)
base_there bases.String = (refl, omega arith)
base_there bases.Object = (refl, omega arith)
base_there bases.Mapping = (refl, omega arith)
base_there bases.Mixed = (refl, omega arith)
base_there bases.Void = (refl, omega arith)

base_form : IsForm base
base_form = listed_form w8 base_number (bases.Int ∷ bases.Status ∷ bases.String ∷ bases.Object ∷ bases.Mapping ∷ bases.Mixed ∷ bases.Void ∷ []) wide8 base_only base_there

type_name_form : IsForm type_name
type_name_form = made_form (λ t. (t.base, t.stars)) (λ x. record { base = x.0; stars = x.1 }) (pair base (number w32)) (pair_form base (number w32) base_form n32) (λ x. refl) (λ y. refl)

version_form : IsForm version
version_form = made_form (λ v. v.0) (λ n. record { 0 = n }) (number w64) n64 (λ x. refl) (λ y. refl)

switch_row_form : IsForm switch_row
switch_row_form = made_form (λ r. (r.cases, r.other)) (λ x. record { cases = x.0; other = x.1 }) (pair (list label) (number w32)) (pair_form (list label) (number w32) (list_form label label_form) n32) (λ x. refl) (λ y. refl)

fun_row_form : IsForm fun_row
fun_row_form = made_form (λ r. (r.name, (r.from, (r.params, r.locals)))) (λ x. record { name = x.0; from = x.1.0; params = x.1.1.0; locals = x.1.1.1 }) (pair text (pair (number w32) (pair (number w8) (number w16)))) (pair_form text (pair (number w32) (pair (number w8) (number w16))) text_form (pair_form (number w32) (pair (number w8) (number w16)) n32 (pair_form (number w8) (number w16) n8 n16))) (λ x. refl) (λ y. refl)

slot_form : IsForm slot
slot_form = made_form (λ s. (s.name, (s.part, (s.fun, (s.mods, (s.answer, s.params)))))) (λ x. record { name = x.0; part = x.1.0; fun = x.1.1.0; mods = x.1.1.1.0; answer = x.1.1.1.1.0; params = x.1.1.1.1.1 }) (pair text (pair (number w16) (pair (number w16) (pair (number w16) (pair type_name (list type_name)))))) (pair_form text (pair (number w16) (pair (number w16) (pair (number w16) (pair type_name (list type_name))))) text_form (pair_form (number w16) (pair (number w16) (pair (number w16) (pair type_name (list type_name)))) n16 (pair_form (number w16) (pair (number w16) (pair type_name (list type_name))) n16 (pair_form (number w16) (pair type_name (list type_name)) n16 (pair_form type_name (list type_name) type_name_form (list_form type_name type_name_form)))))) (λ x. refl) (λ y. refl)

var_row_form : IsForm var_row
var_row_form = made_form (λ v. (v.name, (v.part, (v.mods, v.kind)))) (λ x. record { name = x.0; part = x.1.0; mods = x.1.1.0; kind = x.1.1.1 }) (pair text (pair (number w16) (pair (number w16) type_name))) (pair_form text (pair (number w16) (pair (number w16) type_name)) text_form (pair_form (number w16) (pair (number w16) type_name) n16 (pair_form (number w16) type_name n16 type_name_form))) (λ x. refl) (λ y. refl)

pragmas_form : IsForm pragmas
pragmas_form = made_form (λ p. (p.no_clone, (p.no_inherit, (p.no_shadow, p.types)))) (λ x. record { no_clone = x.0; no_inherit = x.1.0; no_shadow = x.1.1.0; types = x.1.1.1 }) (pair flag (pair flag (pair flag mode))) (pair_form flag (pair flag (pair flag mode)) flag_form (pair_form flag (pair flag mode) flag_form (pair_form flag mode flag_form mode_form))) (λ x. refl) (λ y. refl)

tables_form : IsForm tables
tables_form = made_form (λ t. (t.path, (t.parents, (t.parts, (t.slots, (t.vars, t.pragmas)))))) (λ x. record { path = x.0; parents = x.1.0; parts = x.1.1.0; slots = x.1.1.1.0; vars = x.1.1.1.1.0; pragmas = x.1.1.1.1.1 }) (pair text (pair (list version) (pair (list version) (pair (list slot) (pair (list var_row) pragmas))))) (pair_form text (pair (list version) (pair (list version) (pair (list slot) (pair (list var_row) pragmas)))) text_form (pair_form (list version) (pair (list version) (pair (list slot) (pair (list var_row) pragmas))) (list_form version version_form) (pair_form (list version) (pair (list slot) (pair (list var_row) pragmas)) (list_form version version_form) (pair_form (list slot) (pair (list var_row) pragmas) (list_form slot slot_form) (pair_form (list var_row) pragmas (list_form var_row var_row_form) pragmas_form))))) (λ x. refl) (λ y. refl)

pub program_form : AreNumbered → IsForm program
program_form h = made_form (λ p. (p.instrs, (p.consts, (p.switches, (p.funs, (p.tables, p.max_height)))))) (λ x. record { instrs = x.0; consts = x.1.0; switches = x.1.1.0; funs = x.1.1.1.0; tables = x.1.1.1.1.0; max_height = x.1.1.1.1.1 }) (pair (list instr) (pair (list code_points) (pair (list switch_row) (pair (list fun_row) (pair tables (number w32)))))) (pair_form (list instr) (pair (list code_points) (pair (list switch_row) (pair (list fun_row) (pair tables (number w32))))) (list_form instr (instr_form h)) (pair_form (list code_points) (pair (list switch_row) (pair (list fun_row) (pair tables (number w32)))) (list_form code_points code_points_form) (pair_form (list switch_row) (pair (list fun_row) (pair tables (number w32))) (list_form switch_row switch_row_form) (pair_form (list fun_row) (pair tables (number w32)) (list_form fun_row fun_row_form) (pair_form tables (number w32) tables_form n32))))) (λ x. refl) (λ y. refl)

-- what begins with a program's encoding is read as that program
pub read_again : AreNumbered → (p : RawProgram) (a rest : List ℕ) → IsEncoding p a → program.read (a ++ rest) ≡ Some (p, rest)
read_again h p a rest e = rw e.spelled ((program_form h).again p rest e.fits)

pub read_whole : AreNumbered → (p : RawProgram) (bytes : List ℕ) → IsEncoding p bytes → program.read bytes ≡ Some (p, [])
read_whole h p bytes e = ap program.read (sym (append-nil bytes)) ∙ read_again h p bytes [] e

pub is_encoding : AreNumbered → (p : RawProgram) (bytes : List ℕ) → IsBytes bytes → program.read bytes ≡ Some (p, []) → IsEncoding p bytes
is_encoding h p bytes fits e = let t = (program_form h).takes bytes p [] fits e in record { fits = t.1; spelled = t.0.parts ∙ append-nil (program.spelled p) }

pub prefix_free : AreNumbered → IsPrefixFree
prefix_free h p q a b r s ea eb e =
    let same = some_is (p, r) (q, s) (sym (read_again h p a r ea) ∙ ap program.read e ∙ read_again h q b s eb) in
    let one : p ≡ q = ap (λ (x : RawProgram × List ℕ). x.0) same in
    (one, ea.spelled ∙ ap program.spelled one ∙ sym eb.spelled, ap (λ (x : RawProgram × List ℕ). x.1) same)

-- what all of the bytes spell is one program
pub same_whole : AreNumbered → (q p : RawProgram) (bytes : List ℕ) → program.read bytes ≡ Some (q, []) → IsEncoding p bytes → q ≡ p
same_whole h q p bytes e f = ap (λ (x : RawProgram × List ℕ). x.0) (some_is (q, []) (p, []) (sym e ∙ read_whole h p bytes f))

pub refused : AreNumbered → (e : DecodeFault) (bytes : List ℕ) (p : RawProgram) → GivesWhole (Err e) (program.read bytes) → IsEncoding p bytes → IsDecoded p (Err e)
refused h NoMemory bytes p g f = tt
refused h NoRecord bytes p g f = g p (read_whole h p bytes f)

-- what the verifier refuses is no program
pub not_sound : (f : VerifyFault) (raw : RawProgram) (at : ℕ) → IsRefused raw f → f ≡ Unsound at → IsProgram raw → ⊥
not_sound f raw at h e = (subst (λ (x : VerifyFault). IsRefused raw x) e h).1
