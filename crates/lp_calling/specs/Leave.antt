-- What the master is asked for by efuns on files and by `shadow`, and what follows its answer.
use Rattle.std.specs.Prelude.{◌≡◌, ℕ, ⊤, List, [], ◌∷◌, Bool, true, false, not, Option, Some, None, codes, if◌then◌else◌}
use Rattle.lp_values.specs.declared.id.ObjId.{ObjId}
use Rattle.lp_values.specs.declared.value.Value.{Value}
use Rattle.lp_values.specs.declared.value.Value.TheVariants.{Obj, Str}
use Rattle.lp_instr.specs.declared.efun.Efun.{Efun}
use Rattle.lp_instr.specs.EfunList.{efun_name}
use Rattle.lp_language.specs.Course.{Apply, Course, Scene, State, gives, zero_value}
use Rattle.lp_language.specs.Operations.{seen}
use Rattle.lp_meaning.specs.Askers.{Asker, ask_value}
use Rattle.lp_meaning.specs.CallingEfuns.{may_begin, one_value, shadow_answered, with_shadow}
use Rattle.lp_meaning.specs.FileEfuns.{bytes_of, is_path, path_answered, read_value, removed, restoring, saving, size_value, written_to}
use Rattle.lp_meaning.specs.FileLoads.{live_object}
use Rattle.lp_calling.specs.declared.wish.FileDeed.{FileDeed}
use Rattle.lp_calling.specs.declared.wish.FileDeed.TheVariants as deeds
use Rattle.lp_calling.specs.declared.wish.Wish.{Wish}
use Rattle.lp_calling.specs.declared.wish.Wish.TheVariants as wishes

-- Questions to the master

-- the object that asks, as the master is given it
abbrev pub asker_value : Option ObjId → Value
asker_value None = zero_value
asker_value (Some o) = Obj o

-- the function of the master that is asked for a deed on a file
abbrev pub leave_function : FileDeed → List ℕ
leave_function deeds.Read = codes "valid_read"
leave_function deeds.Size = codes "valid_read"
leave_function (deeds.Write text) = codes "valid_write"
leave_function deeds.Remove = codes "valid_write"
leave_function (deeds.Save this) = codes "valid_write"
leave_function (deeds.Restore this) = codes "valid_read"

-- the function that is asked for a wish
abbrev pub wish_function : Wish → List ℕ
wish_function (wishes.File d path o) = leave_function d
wish_function (wishes.Shadow this o) = codes "query_allow_shadow"

-- and its arguments: the path, 0, the efun's name and the object that asks; or the object that is to be shadowed
abbrev pub wish_arguments : Efun → Wish → List Value
wish_arguments e (wishes.File d path o) = Str path ∷ zero_value ∷ Str (efun_name e) ∷ asker_value o ∷ []
wish_arguments e (wishes.Shadow this o) = Obj o ∷ []

-- a path that is wished for is one
abbrev pub IsWish : Wish → Type 0
IsWish (wishes.File d path o) = is_path path ≡ true
IsWish (wishes.Shadow this o) = ⊤

-- Answers

-- a function of an object: saving and restoring look at the object alone
abbrev pub scene_of : ObjId → Scene
scene_of this =
    record { this = this; part = 0; version = record { 0 = 0 }; base = 0; function = []; interactive = None; loads = []; callers = []; depth = 0 }

-- it needs the program of its object in memory
abbrev pub is_keeping : FileDeed → Bool
is_keeping deeds.Read = false
is_keeping deeds.Size = false
is_keeping (deeds.Write text) = false
is_keeping deeds.Remove = false
is_keeping (deeds.Save this) = true
is_keeping (deeds.Restore this) = true

-- what is done with the file at the path that the master gave, if it gave one
abbrev pub file_deed : FileDeed → Option (List ℕ) → State → Course Value
file_deed deeds.Read p s = gives (read_value (bytes_of s.world p)) s
file_deed deeds.Size p s = gives (size_value (bytes_of s.world p)) s
file_deed (deeds.Write text) p s = written_to p text s
file_deed deeds.Remove p s = removed p s
file_deed (deeds.Save this) p s = saving (scene_of this) p s
file_deed (deeds.Restore this) p s = restoring (scene_of this) p s

-- an object begins to shadow another one, where it may by now
abbrev pub shadow_deed : ObjId → ObjId → State → Course Value
shadow_deed this o s = if not (may_begin s.world this o) then gives zero_value s else gives one_value (record s { world = with_shadow s.world this o })

-- what follows the answer of the master
abbrev pub granted : Wish → Value → State → Course Value
granted (wishes.File d path o) v s = file_deed d (path_answered path (seen s v)) s
granted (wishes.Shadow this o) v s = shadow_answered this o v s

-- the answer of a function of the object that a load gave, or 0 where that is no live object
abbrev pub asked_in : List ℕ → List Value → Asker → Value → State → Course Value
asked_in fun xs by v s = elim (live_object s.world v) [ Some m ↦ ask_value (Apply m fun) xs by s | None ↦ gives zero_value s ]
