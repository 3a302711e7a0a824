-- What it says that a program stands for a version: its functions, its initialisers, and the table of its names.
use Rattle.std.specs.Prelude.{◌≡◌, ℕ, ◌+◌, List, [], ◌∷◌, map, length, Bool, true, false, if◌then◌else◌, Option, Some, None, is_some, slice_get, codes}
use Rattle.lp_tree.specs.Units.{ItemTree, Inherit, Proto, Fun, Var}
use Rattle.lp_instr.specs.EfunList.{is_name}
use Rattle.lp_language.specs.Resolve.{Heritage, Function, Found, Part, has_initialiser, own_variables, part_at, parents_of, resolve, row, version_of, Heritages, NoParent, OneParent}
use Rattle.lp_language.specs.Exec.{local_count}
use Rattle.lp_instr.specs.Code.{Code}
use Rattle.lp_isa.specs.Translates.{MakesFun, MakesInitOf}

-- a row of the list of functions: its name, the place of its first instruction, how many parameters and further locals
-- it has
pub record FunRow : Type 0 where
  pub name : List ℕ
  pub from : ℕ
  pub params : ℕ
  pub locals : ℕ

-- A row of the table of names: the part in whose text the function stands, and the function's row there; or none where
-- the name has a prototype alone.
pub record Reached : Type 0 where
  pub part : ℕ
  pub fun : ℕ

pub record TableRow : Type 0 where
  pub name : List ℕ
  pub reached : Option Reached

pub record Program : Type 0 where
  pub code : Code
  pub funs : List FunRow
  pub table : List TableRow

-- the functions with bodies that a file declares, in order
abbrev pub own_functions : List ItemTree → List Function
own_functions [] = []
own_functions (Inherit line path ∷ is) = own_functions is
own_functions (Proto line ms ty name ps ∷ is) = own_functions is
own_functions (Fun line ms ty name ps b ∷ is) = record { name = name; modifiers = ms; parameters = map (λ p. p.name) ps; body = b.stmts } ∷ own_functions is
own_functions (Var line ms base ds ∷ is) = own_functions is

-- a row of the list is that of a function
pub record IsFun (h : Heritage) (code : Code) (f : Function) (r : FunRow) : Type 0 where
  pub name : r.name ≡ f.name
  pub params : r.params ≡ length f.parameters
  pub locals : r.params + r.locals ≡ local_count f
  pub makes : MakesFun h f code r.from

-- or of the initialisers, which have neither parameters nor locals
pub record IsInit (h : Heritage) (code : Code) (r : FunRow) : Type 0 where
  pub name : r.name ≡ codes "__INIT"
  pub params : r.params ≡ 0
  pub locals : r.locals ≡ 0
  pub makes : MakesInitOf h code r.from

-- the row of the initialisers stands last, where there are some
abbrev pub AreInit : Heritage → Code → Bool → List FunRow → Type 0
AreInit h code false rs = rs ≡ []
AreInit h code true rs = (r : FunRow) × (rs ≡ r ∷ []) × IsInit h code r

-- the rows are those of the functions, in order, and of the initialisers
abbrev pub AreFuns : Heritage → Code → List Function → List FunRow → Type 0
AreFuns h code [] rs = AreInit h code (has_initialiser (own_variables (version_of h).items)) rs
AreFuns h code (f ∷ fs) [] = ⊥
AreFuns h code (f ∷ fs) (r ∷ rs) = IsFun h code f r × AreFuns h code fs rs

-- the row of a function, by its name, among those of its file
abbrev pub fun_from : ℕ → List Function → List ℕ → Option ℕ
fun_from k [] w = None
fun_from k (f ∷ fs) w = if is_name f.name w then Some k else fun_from (k + 1) fs w

abbrev pub fun_in : Option Part → List ℕ → Option ℕ
fun_in None w = None
fun_in (Some p) w = fun_from 0 (own_functions (version_of p.tree).items) w

-- what resolve gives is what the table has
abbrev pub IsReached : Heritage → Option Found → Option Reached → Type 0
IsReached h None None = Unit {0}
IsReached h None (Some r) = ⊥
IsReached h (Some f) None = ⊥
IsReached h (Some f) (Some r) = (r.part ≡ f.part) × (fun_in (part_at h f.part) f.function.name ≡ Some r.fun)

-- Each name that the file knows as a function has one row, no other name has one, and the row is what resolve gives.
pub record IsTable (h : Heritage) (table : List TableRow) : Type 0 where
  pub found : (w : List ℕ) → is_some (row h w) ≡ true → (k : ℕ) × (r : TableRow) × (slice_get table k ≡ Some r) × (r.name ≡ w)
  pub known : (k : ℕ) (r : TableRow) → slice_get table k ≡ Some r → is_some (row h r.name) ≡ true
  pub one : (j k : ℕ) (q r : TableRow) → slice_get table j ≡ Some q → slice_get table k ≡ Some r → q.name ≡ r.name → j ≡ k
  pub reached : (k : ℕ) (r : TableRow) → slice_get table k ≡ Some r → IsReached h (resolve h r.name) r.reached

-- the tables of the parents, in the order of the inherits
abbrev pub AreParents : Heritages → List (List (List ℕ)) → (Heritage → List (List ℕ) → Type 0) → Type 0
AreParents NoParent [] P = Unit {0}
AreParents NoParent (t ∷ ts) P = ⊥
AreParents (OneParent h hs) [] P = ⊥
AreParents (OneParent h hs) (t ∷ ts) P = P h t × AreParents hs ts P

-- the names of a parent's table are those of some table of it
abbrev pub NamesTable : Heritage → List (List ℕ) → Type 0
NamesTable h names = (table : List TableRow) × IsTable h table × (names ≡ map (λ r. r.name) table)

-- A program stands for a version: several programs may stand for one.
pub record StandsForVersion (h : Heritage) (p : Program) : Type 0 where
  pub funs : AreFuns h p.code (own_functions (version_of h).items) p.funs
  pub table : IsTable h p.table
  pub rows : p.code.rows ≡ map (λ r. r.name) p.table
  pub parents : AreParents (parents_of h) p.code.parents NamesTable
