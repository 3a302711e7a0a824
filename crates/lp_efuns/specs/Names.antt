-- What objects are called, by the table of names.
use Rattle.std.specs.Prelude.{ℕ, List, Option}
use Rattle.std.specs.BTreeMap.{get}
use Rattle.std.specs.Option.{option_map}
use Rattle.std.specs.Ordering.{nat_cmp}
use Rattle.lp_values.specs.declared.id.ObjId.{ObjId}
use Rattle.lp_objects.specs.Objects.{Named}
use Rattle.lp_objects.specs.Stands.{Stands, named}
use Rattle.lp_objects.specs.declared.objects.Objects.{Objects}

-- the table stands for a list of the objects that were made
pub record AreNamed (t : Objects) : Type 0 where
  pub objects : List Named
  pub stands : Stands t objects

-- the name that the table has for an object
abbrev pub name_at : Objects → ObjId → Option (List ℕ)
name_at t o = option_map (λ x. x.name) (option_map named (get nat_cmp t.entries o.0))
