-- The group of efuns about functions of objects.
use Rattle.std.proofs.Common.{◌≡◌, true, false, refl}
use Rattle.lp_instr.specs.declared.efun.Efun.{Efun}
use Rattle.lp_instr.specs.declared.efun.Efun.TheVariants as efuns
use Rattle.lp_meaning.specs.Questions.{OfWorld, group}
use Rattle.lp_object_efuns.specs.Called.{is_with_program}
use Rattle.lp_putting.specs.Plans.{is_own_function}

differ : false ≡ true → ⊥
differ q = cc

-- each is of the world
pub of_world : (e : Efun) → is_with_program e ≡ true → group e ≡ OfWorld
of_world efuns.FunctionExists p = refl
of_world efuns.AddAction p = refl
of_world efuns.InputTo p = refl
of_world efuns.CallOut p = refl
of_world _ p = absurd (differ p)

-- one that puts a function of this object somewhere is one of them
pub own_with_program : (e : Efun) → is_own_function e ≡ true → is_with_program e ≡ true
own_with_program efuns.AddAction p = refl
own_with_program efuns.InputTo p = refl
own_with_program efuns.CallOut p = refl
own_with_program _ p = absurd (differ p)
