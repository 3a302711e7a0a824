-- What goes out between turns, in order.
use Rattle.std.specs.Prelude.{◌≡◌, ◌⊎◌, List, [], ◌∷◌, Option, Some, None, Ok}
use Rattle.lp_values.specs.declared.id.ObjId.{ObjId}
use Rattle.lp_values.specs.declared.id.ProgId.{ProgId}
use Rattle.lp_swapfile.specs.Counts.{Counts}
use Rattle.lp_swapfile.specs.Device.{IsTold}
use Rattle.lp_world.specs.Rows.{row_at}
use Rattle.lp_world.specs.declared.live.Live.{Live}
use Rattle.lp_world.specs.declared.objects.Object.{Object}
use Rattle.lp_residence.specs.Idling.{ArePut, Device, counted, none_yet}
use Rattle.lp_residence.specs.Puts.{IsPut, is_kept_fault}
use Rattle.lp_residence.specs.declared.answers.Idled.{Idled}
use Rattle.lp_residence.specs.declared.answers.PutOut.{PutOut}
use Rattle.lp_residence.specs.declared.owner.Owner.{Owner}
use Rattle.lp_residence.specs.declared.owner.Owner.TheVariants as owners

-- the version of the object of a row
abbrev pub version_in : Option Object → Option ProgId
version_in None = None
version_in (Some o) = Some o.program

abbrev pub version_owners : Option ProgId → List Owner
version_owners None = []
version_owners (Some p) = owners.Program p ∷ []

-- an object and then its version, if there is one
abbrev pub named_owners : Live → Option ObjId → List Owner
named_owners l None = []
named_owners l (Some o) = owners.Object o ∷ version_owners (version_in (row_at l.objects o.0))

-- One is put out, and counts: it goes out, or it stays for a cause. What is out already, or is not there, does not count.
pub record IsPutOut (who : Owner) (l : Live) (d : Device) (n : Idled) (l' : Live) (d' : Device) (n' : Idled) : Type 0 where
  pub answer : PutOut
  pub put : IsPut who l l' d'.told (Ok answer)
  pub faults : Counts (is_kept_fault (Ok answer)) d.faults d'.faults
  pub counts : n' ≡ counted answer n

-- Each of some is put out, in their order.
abbrev pub ArePutOut : List Owner → Live → Device → Idled → Live → Device → Idled → Type 0
ArePutOut [] l d n l' d' n' = (l' ≡ l) × (d' ≡ d) × (n' ≡ n)
ArePutOut (x ∷ xs) l d n l' d' n' = (m : Live) × (e : Device) × (k : Idled) × IsPutOut x l d n m e k × ArePutOut xs m e k l' d' n'

-- They are put out where the device says that it tells what it holds, and so many went and were kept; of what is out in another, nothing
-- stands, so there nothing is done.
abbrev pub ArePutWhereTold : List Owner → Live → Device → Live → Device → Idled → Type 0
ArePutWhereTold os l d l' d' n = (IsTold d.told × ArePutOut os l d none_yet l' d' n) ⊎ ((IsTold d.told → ⊥) × (l' ≡ l) × (d' ≡ d) × (n ≡ none_yet))

-- The same of what is idle.
abbrev pub AreIdlePut : List Owner → Live → Device → Live → Device → Idled → Type 0
AreIdlePut os l d l' d' n = (IsTold d.told × ArePut os l d none_yet l' d' n) ⊎ ((IsTold d.told → ⊥) × (l' ≡ l) × (d' ≡ d) × (n ≡ none_yet))
