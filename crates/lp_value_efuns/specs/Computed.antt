-- Efuns that compute, by what they look at: which objects are live, what objects are called, the cells, and the arguments.
use Rattle.std.specs.Prelude.{ℕ, pos, nat_abs, int_le, List, map, drop, length, filter_map, Bool, false, Option, unwrap_or, if◌then◌else◌}
use Rattle.std.specs.Char.{to_ascii_lowercase, to_ascii_uppercase}
use Rattle.std.specs.Fmt.{signed_decimal}
use Rattle.std.specs.Prelude.{codes, []}
use Rattle.lp_values.specs.declared.id.ObjId.{ObjId}
use Rattle.lp_values.specs.declared.value.Value.{Value}
use Rattle.lp_values.specs.declared.value.Value.TheVariants as values
use Rattle.lp_cells.specs.Cells.{Store}
use Rattle.lp_cells.specs.Mapping.{pairs_of}
use Rattle.lp_text.specs.Pieces.{exploded, imploded}
use Rattle.lp_text.specs.Texts.{place, trimmed}
use Rattle.lp_format.specs.Forms.{pieces}
use Rattle.lp_format.specs.Formatted.{formatted}
use Rattle.lp_format.specs.Spelled.{spelled}
use Rattle.lp_ops.specs.declared.effect.Effect.{Effect}
use Rattle.lp_ops.specs.Integers.{int, truth, whole}
use Rattle.lp_ops.specs.Operands.{Opened, Number, Chars, Array, Mapping, Object}
use Rattle.lp_ops.specs.Operators.{text, array, mapping}
use Rattle.lp_instr.specs.declared.efun.Efun.{Efun}
use Rattle.lp_instr.specs.declared.efun.Efun.TheVariants.{Clonep, Objectp, Intp, Stringp, Pointerp, Mappingp, Strlen, Explode, Implode, LowerCase, UpperCase, Capitalize, Strstr, Trim, Sprintf, ToInt, ToString, Sizeof, Allocate, Member, Copy, MIndices, MValues, Mkmapping, Min, Max, Abs}
use Rattle.lp_meaning.specs.WorldSteps.{is_clone_name}
use Rattle.lp_meaning.specs.EfunArguments.{int_in, text_in, items_in, pairs_in}
use Rattle.lp_meaning.specs.ComputingEfuns.{allocate, as_text, capitalized, copied, from_zero, is_array_value, is_int_value, is_mapping_value, is_object_value, is_text_value, member, paired, place_or_none, sizeof, text_among, to_int}

-- what objects are called
abbrev pub Named : Type 0
Named = ObjId → Option (List ℕ)

-- the name of an object, or none of letters
abbrev pub called : Named → ObjId → List ℕ
called name o = unwrap_or (name o) []

-- whether a value is a clone
abbrev pub is_clone : Named → Opened → Bool
is_clone name (Object o) = is_clone_name (called name o)
is_clone name _ = false

-- what is written of a value
abbrev pub written : Named → Opened → List ℕ
written name (Number n) = signed_decimal n
written name (Chars s) = s
written name (Array c vs) = codes "<ARRAY>"
written name (Mapping c ps) = codes "<MAPPING>"
written name (Object o) = called name o

-- what an efun of this group does, before the limits of length: of the arguments as given, and of the first three as read
abbrev pub computed : Efun → (ObjId → Bool) → Named → Store → List Value → Opened → Opened → Opened → Effect
computed Clonep live name cells vs a b c = truth (is_clone name a)
computed Objectp live name cells vs a b c = truth (is_object_value a)
computed Intp live name cells vs a b c = truth (is_int_value a)
computed Stringp live name cells vs a b c = truth (is_text_value a)
computed Pointerp live name cells vs a b c = truth (is_array_value a)
computed Mappingp live name cells vs a b c = truth (is_mapping_value a)
computed Strlen live name cells vs a b c = int (pos (length (text_in a)))
computed Explode live name cells vs a b c = array (map values.Str (exploded (text_in b) (text_in a)))
computed Implode live name cells vs a b c = text (imploded (text_in b) (filter_map text_among (items_in a)))
computed LowerCase live name cells vs a b c = text (map to_ascii_lowercase (text_in a))
computed UpperCase live name cells vs a b c = text (map to_ascii_uppercase (text_in a))
computed Capitalize live name cells vs a b c = text (capitalized (text_in a))
computed Strstr live name cells vs a b c = place_or_none (place (text_in b) (text_in a) (from_zero (int_in c)))
computed Trim live name cells vs a b c = text (trimmed (text_in a))
computed Sprintf live name cells vs a b c = as_text Sprintf (formatted live (spelled live name cells) (drop 1 vs) (pieces (text_in a)))
computed ToInt live name cells vs a b c = to_int a
computed ToString live name cells vs a b c = text (written name a)
computed Sizeof live name cells vs a b c = sizeof a
computed Allocate live name cells vs a b c = allocate (int_in a)
computed Member live name cells vs a b c = member live a b
computed Copy live name cells vs a b c = copied a
computed MIndices live name cells vs a b c = array (map (λ p. p.0) (pairs_in a))
computed MValues live name cells vs a b c = array (map (λ p. p.1) (pairs_in a))
computed Mkmapping live name cells vs a b c = mapping (pairs_of (paired live (items_in a) (items_in b)))
computed Min live name cells vs a b c = int (if int_le (int_in a) (int_in b) then int_in a else int_in b)
computed Max live name cells vs a b c = int (if int_le (int_in a) (int_in b) then int_in b else int_in a)
computed Abs live name cells vs a b c = whole (pos (nat_abs (int_in a)))
computed _ live name cells vs a b c = int (pos 0)
