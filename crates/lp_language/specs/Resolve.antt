-- Which function and which variable a name means.
use Rattle.std.specs.Prelude.{ℕ, zero, suc, ◌+◌, ◌-◌, List, [], ◌∷◌, ◌++◌, map, filter, length, take, drop, Bool, true, false, ◌||◌, ◌&&◌, not, Option, Some, None, is_some, slice_get, nat_lt, if◌then◌else◌, codes}
use Rattle.std.specs.List.{list_any}
use Rattle.lp_tree.specs.declared.keyword.Modifier.{Modifier}
use Rattle.lp_tree.specs.declared.keyword.Modifier.TheVariants.{Private, Protected, Static, Nosave, Nomask}
use Rattle.lp_tree.specs.Units.{ItemTree, Inherit, Proto, Fun, Var}
use Rattle.lp_tree.specs.Statements.{DeclaratorTree, StmtTrees}
use Rattle.lp_values.specs.declared.id.ObjId.{ObjId}
use Rattle.lp_values.specs.declared.id.ProgId.{ProgId}
use Rattle.lp_instr.specs.EfunList.{is_name}
use Rattle.lp_language.specs.World.{World, Version, object_at, version_at}
use Rattle.lp_actions.specs.Places.{is_object, shadows_of}
use Rattle.lp_language.specs.Course.{Scene}

-- the first that is there
abbrev pub or_else : {A : Type 0} → Option A → Option A → Option A
or_else (Some x) y = Some x
or_else None y = y

-- Modifiers

abbrev pub is_private_word : Modifier → Bool
is_private_word Private = true
is_private_word _ = false

abbrev pub is_protected_word : Modifier → Bool
is_protected_word Protected = true
is_protected_word _ = false

abbrev pub is_static_word : Modifier → Bool
is_static_word Static = true
is_static_word _ = false

abbrev pub is_unsaved_word : Modifier → Bool
is_unsaved_word Static = true
is_unsaved_word Nosave = true
is_unsaved_word _ = false

abbrev pub is_nomask_word : Modifier → Bool
is_nomask_word Nomask = true
is_nomask_word _ = false

abbrev pub is_private : List Modifier → Bool
is_private ms = list_any is_private_word ms

abbrev pub is_protected : List Modifier → Bool
is_protected ms = list_any is_protected_word ms

abbrev pub is_static : List Modifier → Bool
is_static ms = list_any is_static_word ms

-- on a variable `static` and `nosave` are one: it is not saved
abbrev pub is_unsaved : List Modifier → Bool
is_unsaved ms = list_any is_unsaved_word ms

abbrev pub is_nomask : List Modifier → Bool
is_nomask ms = list_any is_nomask_word ms

-- What a file declares

-- a function with a body
pub record Function : Type 0 where
  pub name : List ℕ
  pub modifiers : List Modifier
  pub parameters : List (List ℕ)
  pub body : StmtTrees

-- a file's own function with a name
abbrev pub own_function : List ItemTree → List ℕ → Option Function
own_function [] w = None
own_function (Inherit line path ∷ is) w = own_function is w
own_function (Proto line ms ty name ps ∷ is) w = own_function is w
own_function (Fun line ms ty name ps b ∷ is) w =
    if is_name name w then Some (record { name = name; modifiers = ms; parameters = map (λ p. p.name) ps; body = b.stmts }) else own_function is w
own_function (Var line ms base ds ∷ is) w = own_function is w

-- the modifiers of its first prototype with a name
abbrev pub own_prototype : List ItemTree → List ℕ → Option (List Modifier)
own_prototype [] w = None
own_prototype (Inherit line path ∷ is) w = own_prototype is w
own_prototype (Proto line ms ty name ps ∷ is) w = if is_name name w then Some ms else own_prototype is w
own_prototype (Fun line ms ty name ps b ∷ is) w = own_prototype is w
own_prototype (Var line ms base ds ∷ is) w = own_prototype is w

-- the names of its functions with bodies
abbrev pub own_names : List ItemTree → List (List ℕ)
own_names [] = []
own_names (Inherit line path ∷ is) = own_names is
own_names (Proto line ms ty name ps ∷ is) = own_names is
own_names (Fun line ms ty name ps b ∷ is) = name ∷ own_names is
own_names (Var line ms base ds ∷ is) = own_names is

-- a variable that a file declares, with its modifiers
pub record Variable : Type 0 where
  pub modifiers : List Modifier
  pub declared : DeclaratorTree

-- its variables, in order
abbrev pub own_variables : List ItemTree → List Variable
own_variables [] = []
own_variables (Inherit line path ∷ is) = own_variables is
own_variables (Proto line ms ty name ps ∷ is) = own_variables is
own_variables (Fun line ms ty name ps b ∷ is) = own_variables is
own_variables (Var line ms base ds ∷ is) = map (λ d. record { modifiers = ms; declared = d }) ds ++ own_variables is

-- whether one of them has an initialiser
abbrev pub has_initialiser : List Variable → Bool
has_initialiser vs = list_any (λ v. is_some v.declared.value) vs

-- the place of a variable among those, and whether it is private
pub record Sighted : Type 0 where
  pub place : ℕ
  pub is_hidden : Bool

abbrev pub sighted_from : ℕ → List Variable → List ℕ → Option Sighted
sighted_from n [] w = None
sighted_from n (v ∷ vs) w = if is_name v.declared.name w then Some (record { place = n; is_hidden = is_private v.modifiers }) else sighted_from (suc n) vs w

-- The inheritance tree of a version: the version, and the trees of its parents in the order of the inherits.
mutual
  pub data Heritage : Type 0 where
    Heir : (number : ProgId) (version : Version) (parents : Heritages) → Heritage

  pub data Heritages : Type 0 where
    NoParent : Heritages
    OneParent : (first : Heritage) (others : Heritages) → Heritages

abbrev pub number_of : Heritage → ProgId
number_of (Heir n v ps) = n

abbrev pub version_of : Heritage → Version
version_of (Heir n v ps) = v

abbrev pub parents_of : Heritage → Heritages
parents_of (Heir n v ps) = ps

abbrev pub each_heritage : (ProgId → Heritage) → List ProgId → Heritages
each_heritage f [] = NoParent
each_heritage f (v ∷ vs) = OneParent (f v) (each_heritage f vs)

-- down to a depth
abbrev pub heritage_within : ℕ → World → ProgId → Heritage
heritage_within zero w v = Heir v (version_at w v) NoParent
heritage_within (suc n) w v = Heir v (version_at w v) (each_heritage (heritage_within n w) (version_at w v).parents)

-- each parent of a version has a lower number, so that the number bounds the depth
abbrev pub heritage : World → ProgId → Heritage
heritage w v = heritage_within v.0 w v

-- the inheritance tree of an object's version
abbrev pub heritage_of : World → ObjId → Heritage
heritage_of w o = heritage w (object_at w o).version

-- Parts: the places in the inheritance tree, those of the parents first, in the order of the inherits, the tree's own
-- version last; and variables, in the same order.

abbrev mutual
  pub part_count : Heritage → ℕ
  part_count (Heir n v ps) = suc (parts_before ps)

  pub parts_before : Heritages → ℕ
  parts_before NoParent = 0
  parts_before (OneParent h hs) = part_count h + parts_before hs

abbrev mutual
  pub variable_count : Heritage → ℕ
  variable_count (Heir n v ps) = variables_before ps + length (own_variables v.items)

  pub variables_before : Heritages → ℕ
  variables_before NoParent = 0
  variables_before (OneParent h hs) = variable_count h + variables_before hs

-- A part: its own tree, the place of the first part of that tree, and that of the tree's first variable.
pub record Part : Type 0 where
  pub tree : Heritage
  pub first : ℕ
  pub base : ℕ

abbrev mutual
  pub parts_from : Heritage → ℕ → ℕ → List Part
  parts_from (Heir n v ps) first base = parents_parts ps first base ++ record { tree = Heir n v ps; first = first; base = base } ∷ []

  pub parents_parts : Heritages → ℕ → ℕ → List Part
  parents_parts NoParent first base = []
  parents_parts (OneParent h hs) first base = parts_from h first base ++ parents_parts hs (first + part_count h) (base + variable_count h)

-- the parts of a tree, in order
abbrev pub parts : Heritage → List Part
parts h = parts_from h 0 0

abbrev pub part_at : Heritage → ℕ → Option Part
part_at h i = slice_get (parts h) i

-- Functions

-- a function and the part in whose text it stands
pub record Found : Type 0 where
  pub part : ℕ
  pub function : Function

abbrev pub found_in : ℕ → Option Function → Option Found
found_in part None = None
found_in part (Some f) = Some (record { part = part; function = f })

-- seen from a tree in which the first part has another place
abbrev pub moved : ℕ → Option Found → Option Found
moved n None = None
moved n (Some f) = Some (record { part = n + f.part; function = f.function })

-- only what is not private
abbrev pub shown : Option Found → Option Found
shown None = None
shown (Some f) = if is_private f.function.modifiers then None else Some f

-- Resolve: a name means the version's own function with a body, else what the last inherit gives whose resolve gives a
-- function that is not private.
abbrev mutual
  pub resolve : Heritage → List ℕ → Option Found
  resolve (Heir n v ps) w = or_else (found_in (parts_before ps) (own_function v.items w)) (resolve_last ps 0 w)

  pub resolve_last : Heritages → ℕ → List ℕ → Option Found
  resolve_last NoParent first w = None
  resolve_last (OneParent h hs) first w = or_else (resolve_last hs (first + part_count h) w) (moved first (shown (resolve h w)))

-- the function of an object that a name means
abbrev pub function_of : World → ObjId → List ℕ → Option Found
function_of w o name = resolve (heritage_of w o) name

-- whether resolve gives a private function
abbrev pub is_hidden : Option Found → Bool
is_hidden None = false
is_hidden (Some f) = is_private f.function.modifiers

-- An internal call reaches what resolve gives in the object's whole program; where resolve in the calling part's own
-- tree gives a private function, it stays with that one.
abbrev pub internal_from : Heritage → Option Part → List ℕ → Option Found
internal_from whole None w = resolve whole w
internal_from whole (Some p) w = if is_hidden (resolve p.tree w) then moved p.first (resolve p.tree w) else resolve whole w

abbrev pub internal : World → Scene → List ℕ → Option Found
internal w c name = internal_from (heritage_of w c.this) (part_at (heritage_of w c.this) c.part) name

-- a parent's tree, by its place among the inherits, with the place of its first part
abbrev pub parent_from : Heritages → ℕ → ℕ → Option Part
parent_from NoParent first k = None
parent_from (OneParent h hs) first zero = Some (record { tree = h; first = first; base = 0 })
parent_from (OneParent h hs) first (suc k) = parent_from hs (first + part_count h) k

abbrev pub resolve_in : Option Part → List ℕ → Option Found
resolve_in None w = None
resolve_in (Some p) w = moved p.first (resolve p.tree w)

-- a call of a parent's function goes to a part below the calling one
abbrev pub of_parent_from : Option Part → ℕ → List ℕ → Option Found
of_parent_from None inherit w = None
of_parent_from (Some p) inherit w = moved p.first (resolve_in (parent_from (parents_of p.tree) 0 inherit) w)

abbrev pub of_parent : World → Scene → ℕ → List ℕ → Option Found
of_parent w c inherit name = of_parent_from (part_at (heritage_of w c.this) c.part) inherit name

-- Names that a file knows as functions: what resolve gives, else its own prototypes, else what the last parent shows.
-- A row is known by its modifiers.
abbrev pub row_shown : Option (List Modifier) → Option (List Modifier)
row_shown None = None
row_shown (Some ms) = if is_private ms then None else Some ms

abbrev pub modifiers_of : Option Found → Option (List Modifier)
modifiers_of None = None
modifiers_of (Some f) = Some f.function.modifiers

abbrev mutual
  pub row : Heritage → List ℕ → Option (List Modifier)
  row (Heir n v ps) w = or_else (modifiers_of (resolve (Heir n v ps) w)) (or_else (own_prototype v.items w) (row_last ps w))

  pub row_last : Heritages → List ℕ → Option (List Modifier)
  row_last NoParent w = None
  row_last (OneParent h hs) w = or_else (row_last hs w) (row_shown (row h w))

-- `::name`: the last inherit whose resolve gives a function that is not private; where none does, the last one with a
-- prototype that is not private
abbrev pub counted : Option ℕ → Option ℕ
counted None = None
counted (Some k) = Some (suc k)

abbrev pub last_with : (Heritage → Bool) → Heritages → Option ℕ
last_with f NoParent = None
last_with f (OneParent h hs) = or_else (counted (last_with f hs)) (if f h then Some 0 else None)

abbrev pub parent_with : Heritage → List ℕ → Option ℕ
parent_with h w = or_else (last_with (λ p. is_some (shown (resolve p w))) (parents_of h)) (last_with (λ p. is_some (row_shown (row p w))) (parents_of h))

-- a path without `.c` at its end
abbrev pub without_c : List ℕ → List ℕ
without_c path = if is_name (drop (length path - 2) path) (codes ".c") then take (length path - 2) path else path

-- whether a text ends in another
abbrev pub ends_in : List ℕ → List ℕ → Bool
ends_in cs end = not (nat_lt (length cs) (length end)) && is_name (drop (length cs - length end) cs) end

-- `"p"::name`: the parent whose path without `.c` is p, or ends in `/p`
abbrev pub is_called : List ℕ → Heritage → Bool
is_called p h = is_name (without_c (version_of h).path) p || ends_in (without_c (version_of h).path) (codes "/" ++ p)

abbrev pub parent_called : Heritage → List ℕ → Option ℕ
parent_called h p = last_with (is_called p) (parents_of h)

-- Callable by call_other: a private or protected function is not; a static one is where caller and target are one
-- object; every other one is.
abbrev pub is_callable : Bool → List Modifier → Bool
is_callable is_self ms = not (is_private ms) && not (is_protected ms) && (is_self || not (is_static ms))

abbrev pub callable_found : Bool → Option Found → Option Found
callable_found is_self None = None
callable_found is_self (Some f) = if is_callable is_self f.function.modifiers then Some f else None

-- the shadows of an object, from the outermost inwards, and then the object itself
abbrev pub chain_of : World → ObjId → List ObjId
chain_of w o = shadows_of w.shadows o ++ o ∷ []

-- what comes behind an object in a list
abbrev pub behind : ObjId → List ObjId → List ObjId
behind c [] = []
behind c (x ∷ xs) = if is_object x c then xs else behind c xs

-- The search of a call_other begins just inside the caller where the caller shadows the target.
abbrev pub searched : World → ObjId → ObjId → List ObjId
searched w caller o = if list_any (is_object caller) (shadows_of w.shadows o) then behind caller (chain_of w o) else chain_of w o

-- an object and the function that a call reaches there
pub record Target : Type 0 where
  pub object : ObjId
  pub found : Found

abbrev pub target_here : ObjId → Option Found → Option Target
target_here o None = None
target_here o (Some f) = Some (record { object = o; found = f })

-- the first object that has a callable function of the name
abbrev pub first_callable : World → ObjId → List ObjId → List ℕ → Option Target
first_callable w caller [] name = None
first_callable w caller (o ∷ os) name = or_else (target_here o (callable_found (is_object caller o) (function_of w o name))) (first_callable w caller os name)

-- shadow target: where a call_other of this caller to this target goes
abbrev pub shadow_target : World → ObjId → ObjId → List ℕ → Option Target
shadow_target w caller o name = first_callable w caller (searched w caller o) name

-- the first object that has the function at all, from the outermost shadow inwards
abbrev pub first_with : World → List ObjId → List ℕ → Option Target
first_with w [] name = None
first_with w (o ∷ os) name = or_else (target_here o (function_of w o name)) (first_with w os name)

-- the names of all functions in a tree
abbrev mutual
  pub names_in : Heritage → List (List ℕ)
  names_in (Heir n v ps) = own_names v.items ++ names_before ps

  pub names_before : Heritages → List (List ℕ)
  names_before NoParent = []
  names_before (OneParent h hs) = names_in h ++ names_before hs

-- the functions that any other object may call
abbrev pub callable_names : Heritage → List (List ℕ)
callable_names h = filter (λ w. is_some (callable_found false (resolve h w))) (names_in h)

-- Variables

abbrev pub place_moved : ℕ → Option ℕ → Option ℕ
place_moved n None = None
place_moved n (Some k) = Some (n + k)

abbrev pub own_place : ℕ → Option Sighted → Option ℕ
own_place first None = None
own_place first (Some s) = Some (first + s.place)

-- what a child sees of a version's own variable, or else of those that the version sees in its parents
abbrev pub place_shown : ℕ → Option Sighted → Option ℕ → Option ℕ
place_shown first None inherited = inherited
place_shown first (Some s) inherited = if s.is_hidden then None else Some (first + s.place)

-- The place of a variable, by its name, among those of a version and its parents. A child sees the variables of its
-- parents that are not private, and of two parents with the name that of the later inherit.
abbrev mutual
  pub variable_outside : Heritage → List ℕ → Option ℕ
  variable_outside (Heir n v ps) w = place_shown (variables_before ps) (sighted_from 0 (own_variables v.items) w) (variable_last ps 0 w)

  pub variable_last : Heritages → ℕ → List ℕ → Option ℕ
  variable_last NoParent first w = None
  variable_last (OneParent h hs) first w = or_else (variable_last hs (first + variable_count h) w) (place_moved first (variable_outside h w))

abbrev pub variable_in : Heritage → List ℕ → Option ℕ
variable_in h w = or_else (own_place (variables_before (parents_of h)) (sighted_from 0 (own_variables (version_of h).items) w)) (variable_last (parents_of h) 0 w)
