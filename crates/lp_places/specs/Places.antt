-- Environments and inventories, and chains of shadows, as lists.
use Rattle.std.specs.Prelude.{ℕ, zero, suc, List, [], ◌∷◌, Bool, true, false, not, ◌||◌, nat_eq, if◌then◌else◌, Option, Some, None, option_map, is_some, filter, find, flat_map, map, length, ◌++◌}
use Rattle.lp_values.specs.declared.id.ObjId.{ObjId}

-- an object lies in another
pub record Lying : Type 0 where
  pub item : ObjId
  pub place : ObjId

-- an object shadows another
pub record Shadowing : Type 0 where
  pub shadow : ObjId
  pub victim : ObjId

-- whether two serials are one
abbrev pub is_object : ObjId → ObjId → Bool
is_object a b = nat_eq a.0 b.0

-- whether an object is the one that there may be
abbrev pub is_at : Option ObjId → ObjId → Bool
is_at None o = false
is_at (Some p) o = is_object p o

-- the object in which an object is, if there is one
abbrev pub environment : List Lying → ObjId → Option ObjId
environment places o = option_map (λ p. p.place) (find (λ p. is_object p.item o) places)

-- what is in an object: what was moved there last stands first
abbrev pub inventory : List Lying → ObjId → List ObjId
inventory places o = map (λ p. p.item) (filter (λ p. is_object p.place o) places)

-- what follows an object in a list
abbrev pub next_in : ObjId → List ObjId → Option ObjId
next_in o [] = None
next_in o (p ∷ []) = None
next_in o (p ∷ q ∷ ps) = if is_object p o then Some q else next_in o (q ∷ ps)

-- the object behind another one in the inventory of its environment
abbrev pub next_at : List Lying → ObjId → Option ObjId
next_at places o = elim (environment places o) [ Some e ↦ next_in o (inventory places e) | None ↦ None ]

-- the places after an object left its environment
abbrev pub without_item : List Lying → ObjId → List Lying
without_item places o = filter (λ p. not (is_object p.item o)) places

-- moving puts the item first in the inventory of its destination
abbrev pub moved : List Lying → ObjId → ObjId → List Lying
moved places item dest = record { item = item; place = dest } ∷ without_item places item

-- whether an object is another one or in it, where so many environments are looked at
abbrev pub is_inside_by : ℕ → List Lying → ObjId → ObjId → Bool
is_inside_by zero places o outer = is_object o outer
is_inside_by (suc n) places o outer =
    is_object o outer || elim (environment places o) [ Some e ↦ is_inside_by n places e outer | None ↦ false ]

-- whether an object is another one or in it, at any depth: a chain of environments has at most as many steps as there are places
abbrev pub is_inside : List Lying → ObjId → ObjId → Bool
is_inside places o outer = is_inside_by (length places) places o outer

-- An object's reach: itself, its inventory, its environment, and the inventory of that.
abbrev pub in_reach : List Lying → ObjId → ObjId → Bool
in_reach places holder giver =
    is_object giver holder || is_at (environment places giver) holder
    || elim (environment places holder) [ Some e ↦ is_object giver e || is_at (environment places giver) e | None ↦ false ]

-- the places after an object was destructed: it leaves its environment, and what is in it is nowhere
abbrev pub places_without : List Lying → ObjId → List Lying
places_without places o = filter (λ p. not (is_object p.item o || is_object p.place o)) places

-- the chain of an object's shadows: the latest is the outermost and stands first
abbrev pub shadows_of : List Shadowing → ObjId → List ObjId
shadows_of shadows o = map (λ s. s.shadow) (filter (λ s. is_object s.victim o) shadows)

-- whom an object shadows, if anyone
abbrev pub shadowing : List Shadowing → ObjId → Option ObjId
shadowing shadows o = option_map (λ s. s.victim) (find (λ s. is_object s.shadow o) shadows)

-- an object begins to shadow another one, as its outermost shadow
abbrev pub shadowed : List Shadowing → ObjId → ObjId → List Shadowing
shadowed shadows by victim = record { shadow = by; victim = victim } ∷ shadows

-- an object stops shadowing, and its chain closes up
abbrev pub unshadowed : List Shadowing → ObjId → List Shadowing
unshadowed shadows by = filter (λ s. not (is_object s.shadow by)) shadows

-- the shadows after an object was destructed: it leaves its chain, and its own shadows shadow nothing any more
abbrev pub shadows_without : List Shadowing → ObjId → List Shadowing
shadows_without shadows o = filter (λ s. not (is_object s.shadow o || is_object s.victim o)) shadows

-- why an object may not shadow another one
pub data ShadowNo : Type 0 where
  Same AlreadyShadowing IsShadowed HasEnvironment VictimShadows : ShadowNo

-- whether nobody shadows an object
abbrev pub is_bare : List ObjId → Bool
is_bare [] = true
is_bare (s ∷ ss) = false

-- Whether an object may shadow another one, and else the first of five reasons: it is the same; it shadows already;
-- it is shadowed itself; it is in an environment; the other one is a shadow.
abbrev pub may_shadow : List Lying → List Shadowing → ObjId → ObjId → Option ShadowNo
may_shadow places shadows by victim =
    if is_object by victim then Some Same
    else (if is_some (shadowing shadows by) then Some AlreadyShadowing
    else (if not (is_bare (shadows_of shadows by)) then Some IsShadowed
    else (if is_some (environment places by) then Some HasEnvironment
    else (if is_some (shadowing shadows victim) then Some VictimShadows
    else None))))

-- why an item may not be moved
pub data MoveNo : Type 0 where
  IsShadow WouldContainItself : MoveNo

-- Whether an item may be moved, and else the first of two reasons: it is a shadow; the destination is the item or inside it.
abbrev pub may_move : List Lying → List Shadowing → ObjId → ObjId → Option MoveNo
may_move places shadows item dest =
    if is_some (shadowing shadows item) then Some IsShadow
    else (if is_inside places dest item then Some WouldContainItself else None)

-- A call of `init` that a move makes: in which object, and for whom.
pub record Init : Type 0 where
  pub of : ObjId
  pub player : ObjId

-- For each other object in the destination, in order: the item's `init` for it, then its `init` for the item.
abbrev pub inits_between : ObjId → List ObjId → List Init
inits_between item others =
    flat_map (λ o. record { of = item; player = o } ∷ record { of = o; player = item } ∷ []) others

-- The calls of `init` after a move, in order: the destination's for the item; those of the others; the item's for the destination.
-- Each is made only while the item is still there, all of the objects are live, and the one for whom it is made is living.
abbrev pub inits_of_move : List Lying → ObjId → ObjId → List Init
inits_of_move places item dest =
    record { of = dest; player = item }
    ∷ inits_between item (filter (λ o. not (is_object o item)) (inventory places dest))
    ++ record { of = item; player = dest } ∷ []
