-- Efuns on files, with the leave of the master, and saving and restoring.
use Rattle.lp_save.specs.SaveText.{Restored, Values, FaultyLine, saved_text, restored_text}
use Rattle.lp_values.specs.Limits.{max_code_points}
use Rattle.std.specs.Prelude.{ℕ, suc, List, [], ◌∷◌, ◌++◌, length, drop, map, Bool, not, ◌&&◌, Option, Some, None, is_some, nat_eq, nat_le, nat_lt, pos, negsuc, chars, codes, encode_utf8_all, slice_get, slice_index, slice_set, unwrap_or, if◌then◌else◌}
use Rattle.std.specs.List.{list_all}
use Rattle.std.specs.Ordering.{int_eq}
use Rattle.std.specs.Str.Lossy.{utf8_valid_len}
use Rattle.lp_values.specs.declared.id.ObjId.{ObjId}
use Rattle.lp_values.specs.declared.value.Value.{Value}
use Rattle.lp_values.specs.declared.value.Value.TheVariants.{Int, Str}
use Rattle.lp_values.specs.declared.error.ErrorKind.TheVariants.{TooNested}
use Rattle.lp_values.specs.Errors.{bad_save, plain}
use Rattle.lp_events.specs.Script.{is_part_byte}
use Rattle.lp_text.specs.Pieces.{pieces}
use Rattle.lp_ops.specs.Operands.{Opened, Number, Chars}
use Rattle.lp_instr.specs.declared.efun.Efun.{Efun}
use Rattle.lp_instr.specs.declared.efun.Efun.TheVariants as efuns
use Rattle.lp_instr.specs.EfunList.{efun_name, is_name}
use Rattle.lp_language.specs.World.{Object as ObjectOf, World, object_at, object_value, with_object}
use Rattle.lp_language.specs.Course.{Scene, State, Failed, Course, and_then, gives, stops, zero_value}
use Rattle.lp_language.specs.Operations.{seen, living, cells_of, with_store, with_world}
use Rattle.lp_language.specs.Resolve.{Heritage, Heir, Heritages, NoParent, OneParent, Variable, own_variables, heritage_of, is_unsaved}
use Rattle.lp_meaning.specs.WorldSteps.{file_at, file_removed, with_file}
use Rattle.lp_meaning.specs.Askers.{Asker}
use Rattle.lp_meaning.specs.FileLoads.{master_call}
use Rattle.lp_meaning.specs.EfunArguments.{text_arg}

-- Paths: at most 256 long, and one or more parts with a `/` before each; a part has one or more letters, digits, `_`, `-` or `.`,
-- and is neither `.` nor `..`.
abbrev pub is_part : List ℕ → Bool
is_part part = nat_lt 0 (length part) && list_all is_part_byte part && not (is_name part (codes ".")) && not (is_name part (codes ".."))

-- a path
abbrev pub is_path : List ℕ → Bool
is_path path = nat_le (length path) 256 && nat_eq (slice_index path 0) 47 && list_all is_part (pieces (codes "/") (drop 1 path))

-- What the master answers of a path: 0 refuses it, a text is the path to use, and every other value allows it.
abbrev pub path_if : List ℕ → Option (List ℕ)
path_if path = if is_path path then Some path else None

-- the path to use, if any, by what the master answers
abbrev pub path_answered : List ℕ → Opened → Option (List ℕ)
path_answered path (Number n) = if int_eq n (pos 0) then None else Some path
path_answered path (Chars t) = path_if t
path_answered path _ = Some path

-- the value `this_object()`
abbrev pub this_value : State → Scene → Value
this_value s c = object_value s.world (Some c.this)

-- The master is asked with the path, 0, the efun's name and this object; a path that is none is refused at once.
abbrev pub with_leave : Asker → Scene → List ℕ → Efun → List ℕ → State → (Option (List ℕ) → State → Course Value) → Course Value
with_leave by c fun e path s go =
    if is_path path then
    and_then (master_call by fun (Str path ∷ zero_value ∷ Str (efun_name e) ∷ this_value s c ∷ []) s) (λ v s. go (path_answered path (seen s v)) s)
    else go None s

-- leave to read
abbrev pub may_read : Asker → Scene → Efun → List ℕ → State → (Option (List ℕ) → State → Course Value) → Course Value
may_read by c e path s go = with_leave by c (codes "valid_read") e path s go

-- leave to write
abbrev pub may_write : Asker → Scene → Efun → List ℕ → State → (Option (List ℕ) → State → Course Value) → Course Value
may_write by c e path s go = with_leave by c (codes "valid_write") e path s go

-- the bytes of a file, where the path is given
abbrev pub bytes_of : World → Option (List ℕ) → Option (List ℕ)
bytes_of w None = None
bytes_of w (Some path) = file_at w.files path

-- the text of bytes that are UTF-8 and no longer than a text may be, else 0
abbrev pub text_or_zero : List ℕ → Value
text_or_zero bytes = if nat_eq (utf8_valid_len bytes) (length bytes) && nat_le (length (chars bytes)) max_code_points then Str (chars bytes) else zero_value

-- what reading a file answers
abbrev pub read_value : Option (List ℕ) → Value
read_value None = zero_value
read_value (Some bytes) = text_or_zero bytes

-- the number of bytes of a file, or -1
abbrev pub size_value : Option (List ℕ) → Value
size_value None = Int (negsuc 0)
size_value (Some bytes) = Int (pos (length bytes))

-- the bytes of a file, none where it is not there
abbrev pub or_empty : Option (List ℕ) → List ℕ
or_empty None = []
or_empty (Some bytes) = bytes

-- a text is appended to a file, which is made where it is not there
abbrev pub written_to : Option (List ℕ) → List ℕ → State → Course Value
written_to None text s = gives zero_value s
written_to (Some path) text s =
    gives (Int (pos 1)) (with_world s (with_file s.world path (or_empty (file_at s.world.files path) ++ encode_utf8_all text)))

-- a file is removed
abbrev pub without_file : World → List ℕ → World
without_file w path = record w { files = file_removed w.files path }

-- the efun `rm`: 1 where a file was removed
abbrev pub removed : Option (List ℕ) → State → Course Value
removed None s = gives zero_value s
removed (Some path) s =
    if is_some (file_at s.world.files path) then gives (Int (pos 1)) (with_world s (without_file s.world path)) else gives zero_value s

-- Saving and restoring

-- All variables of a program and its parents, inherited ones first, in the order of the inherits.
abbrev mutual
  pub all_variables : Heritage → List Variable
  all_variables (Heir n v ps) = variables_of_parents ps ++ own_variables v.items

  pub variables_of_parents : Heritages → List Variable
  variables_of_parents NoParent = []
  variables_of_parents (OneParent h hs) = all_variables h ++ variables_of_parents hs

-- a variable that is saved: its place and its name
pub record Saved : Type 0 where
  pub place : ℕ
  pub name : List ℕ

-- the saved ones among variables, from a place on
abbrev pub saved_from : ℕ → List Variable → List Saved
saved_from n [] = []
saved_from n (v ∷ vs) = if is_unsaved v.modifiers then saved_from (suc n) vs else record { place = n; name = v.declared.name } ∷ saved_from (suc n) vs

-- the saved variables of an object
abbrev pub saved_of : World → ObjId → List Saved
saved_of w o = saved_from 0 (all_variables (heritage_of w o))

-- the value of a variable at a place
abbrev pub value_at : List Value → ℕ → Value
value_at vs n = unwrap_or (slice_get vs n) zero_value

-- a saved variable by its name and its value
abbrev pub named_value : List Value → Saved → List ℕ × Value
named_value vs x = (x.name, value_at vs x.place)

-- the text that was spelled becomes the bytes of the file; values that are nested too deep are an error, and nothing is written
abbrev pub saved_bytes : List ℕ → Option (List ℕ) → State → Course Value
saved_bytes path None s = stops (Failed (plain TooNested)) s
saved_bytes path (Some bytes) s = gives zero_value (with_world s (with_file s.world path bytes))

-- the variables of this object that are saved become the file's text
abbrev pub saving : Scene → Option (List ℕ) → State → Course Value
saving c None s = gives (Int (pos 1)) s
saving c (Some path) s =
    saved_bytes path (saved_text (living s) (cells_of s) (map (named_value (object_at s.world c.this).variables) (saved_of s.world c.this))) s

-- the variables with the values that were read; a variable without a line keeps its value
abbrev pub with_values : List Value → List Saved → List (Option Value) → List Value
with_values vs [] given = vs
with_values vs (x ∷ xs) [] = vs
with_values vs (x ∷ xs) (None ∷ given) = with_values vs xs given
with_values vs (x ∷ xs) (Some v ∷ given) = with_values (slice_set vs x.place v) xs given

-- an object with other values of its variables
abbrev pub with_variables : ObjectOf → List Value → ObjectOf
with_variables x vs = record x { variables = vs }

-- what was read becomes the values, all at once; a faulty line is an error, and nothing changes
abbrev pub restored : Scene → List ℕ → Restored → State → Course Value
restored c path (FaultyLine n) s = stops (Failed (bad_save path n)) s
restored c path (Values given cells) s =
    let x : ObjectOf = object_at s.world c.this in
    let t : State = with_store s cells in
    gives (Int (pos 1)) (with_world t (with_object t.world c.this (with_variables x (with_values x.variables (saved_of s.world c.this) given))))

-- a file that is not there restores nothing
abbrev pub restoring_from : Scene → List ℕ → Option (List ℕ) → State → Course Value
restoring_from c path None s = gives zero_value s
restoring_from c path (Some bytes) s = restored c path (restored_text (map (λ x. x.name) (saved_of s.world c.this)) bytes (cells_of s)) s

-- nor does one that is refused
abbrev pub restoring : Scene → Option (List ℕ) → State → Course Value
restoring c None s = gives zero_value s
restoring c (Some path) s = restoring_from c path (file_at s.world.files path) s

-- the path at which an object is saved
abbrev pub with_o : List ℕ → List ℕ
with_o path = path ++ codes ".o"

-- What an efun of this group does.
unfoldable pub files : Efun → Asker → Scene → State → List Opened → Course Value
files efuns.ReadFile by c s xs = may_read by c efuns.ReadFile (text_arg xs 0) s (λ p s. gives (read_value (bytes_of s.world p)) s)
files efuns.FileSize by c s xs = may_read by c efuns.FileSize (text_arg xs 0) s (λ p s. gives (size_value (bytes_of s.world p)) s)
files efuns.WriteFile by c s xs = may_write by c efuns.WriteFile (text_arg xs 0) s (λ p s. written_to p (text_arg xs 1) s)
files efuns.Rm by c s xs = may_write by c efuns.Rm (text_arg xs 0) s removed
files efuns.SaveObject by c s xs = may_write by c efuns.SaveObject (with_o (text_arg xs 0)) s (saving c)
files efuns.RestoreObject by c s xs = may_read by c efuns.RestoreObject (with_o (text_arg xs 0)) s (restoring c)
files _ by c s xs = gives zero_value s
