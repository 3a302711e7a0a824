-- An object begins to shadow another one.
use Rattle.std.specs.Prelude.{Bool, true, false}
use Rattle.lp_values.specs.declared.id.ObjId.{ObjId}
use Rattle.lp_language.specs.World.{World}
use Rattle.lp_meaning.specs.CallingEfuns.{with_shadow}

-- the world in which one object shadows another one, if it does
abbrev pub shadowed_if : Bool → World → ObjId → ObjId → World
shadowed_if true w this victim = with_shadow w this victim
shadowed_if false w this victim = w
