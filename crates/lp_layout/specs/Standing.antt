-- What is known of a name's functions in the parents so far: whether one of another version is among them, and among
-- those that may not be overridden.
use Rattle.std.specs.Prelude.{◌≡◌, ℕ, List, Bool, false, not, ◌||◌, ◌&&◌, is_some, Option, Some, None, Vec, if◌then◌else◌}
use Rattle.std.specs.HashMap.{HashMap}
use Rattle.std.specs.List.{list_any}
use Rattle.std.specs.declared.alloc.Global.{Global}
use Rattle.lp_values.specs.declared.id.ProgId.{ProgId}
use Rattle.lp_code.specs.declared.tables.Tables.{Tables}
use Rattle.lp_instr.specs.EfunList.{is_name}
use Rattle.lp_types_expr.specs.NameMaps.{named}
use Rattle.lp_layout.specs.declared.standing.Standing.{Standing}
use Rattle.lp_layout.specs.declared.standing.Versions.{Versions}
use Rattle.lp_layout.specs.LayoutFaults.{Source, source, clash, is_same_version, is_nomask_number, is_nomask_source, overrides}

-- whether one of some versions is another one
abbrev pub differ : Option Versions → Option ProgId → Bool
differ None v = false
differ (Some vs) v = vs.several || not (is_same_version vs.first v)

abbrev pub with_version : Option Versions → Option ProgId → Versions
with_version None v = record { first = v; several = false }
with_version (Some vs) v = record { first = vs.first; several = vs.several || not (is_same_version vs.first v) }

abbrev pub all_versions : Option Standing → Option Versions
all_versions None = None
all_versions (Some s) = Some s.all

abbrev pub nomask_versions : Option Standing → Option Versions
nomask_versions None = None
nomask_versions (Some s) = s.nomask

-- whether a function stands beside a different one, and either may not be overridden
abbrev pub clashes : Option Standing → Option Source → Bool
clashes k None = false
clashes k (Some x) = differ (if is_nomask_number x.mods then all_versions k else nomask_versions k) x.version

-- one function more
abbrev pub with_source : Option Standing → Source → Standing
with_source k x = record { all = with_version (all_versions k) x.version; nomask = if is_nomask_number x.mods then Some (with_version (nomask_versions k) x.version) else nomask_versions k }

-- a map knows the functions of some parents
pub record Knows {S : Type 0} (ts : List Tables) (m : HashMap (Vec ℕ Global) Standing S) : Type 0 where
  pub beside : (w : List ℕ) (x : Option Source) → clashes (named m w) x ≡ list_any (λ p. clash (source p w) x) ts
  pub over : (w : List ℕ) → is_some (nomask_versions (named m w)) ≡ overrides ts w

-- what is known of a name, where a parent shows a function of another or the same name
abbrev pub shown_with : Option Source → List ℕ → Option Standing → List ℕ → Option Standing
shown_with None name k w = k
shown_with (Some x) name k w = if is_name w name then Some (with_source k x) else k

-- a map knows the functions of some parents, and those of one more that have some names
pub record KnowsSome {S : Type 0} (ts : List Tables) (t : Tables) (ns : List (List ℕ)) (m : HashMap (Vec ℕ Global) Standing S) : Type 0 where
  pub beside : (w : List ℕ) (x : Option Source) → clashes (named m w) x ≡ list_any (λ p. clash (source p w) x) ts || (list_any (is_name w) ns && clash (source t w) x)
  pub over : (w : List ℕ) → is_some (nomask_versions (named m w)) ≡ overrides ts w || (list_any (is_name w) ns && is_nomask_source (source t w))
