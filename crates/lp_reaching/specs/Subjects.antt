-- What is called: a function that a search found, or the initialisers of a part of an object's program.
use Rattle.std.specs.Prelude.{ℕ, List, [], codes}
use Rattle.lp_values.specs.declared.id.ObjId.{ObjId}
use Rattle.lp_values.specs.declared.value.Value.{Value}
use Rattle.lp_instr.specs.Code.{Code}
use Rattle.lp_language.specs.Course.{Ask, Course, Reply, State}
use Rattle.lp_language.specs.Eval.{Site}
use Rattle.lp_language.specs.Exec.{body_of, first_locals, initialisers_of}
use Rattle.lp_language.specs.Resolve.{Found, Heritage}
use Rattle.lp_isa.specs.Translates.{MakesFun, MakesInitOf}
use Rattle.lp_meaning.specs.Askers.{asker_of, plainly, state_of}
use Rattle.lp_meaning.specs.FunctionCalls.{entering, site_in}

pub data Subject : Type 0 where
  OfFunction : (found : Found) → Subject
  OfInitialisers : (part : ℕ) → Subject

-- the part in whose text it stands
abbrev pub part_of_subject : Subject → ℕ
part_of_subject (OfFunction f) = f.part
part_of_subject (OfInitialisers n) = n

-- its name
abbrev pub name_of_subject : Subject → List ℕ
name_of_subject (OfFunction f) = f.function.name
name_of_subject (OfInitialisers n) = codes "__INIT"

-- what it does
abbrev pub body_of_subject : Site → Subject → State → Course Value
body_of_subject k (OfFunction f) = body_of k f.function
body_of_subject k (OfInitialisers n) = initialisers_of k

-- The locals with which it begins: initialisers have none.
abbrev pub first_locals_of : Subject → List Value → List Value
first_locals_of (OfFunction f) xs = first_locals f.function xs
first_locals_of (OfInitialisers n) xs = []

-- its code begins at a place
abbrev pub MakesSubject : Heritage → Subject → Code → ℕ → Type 0
MakesSubject h (OfFunction f) code from = MakesFun h f.function code from
MakesSubject h (OfInitialisers n) code from = MakesInitOf h code from

-- Where it runs, and of which text it is.
abbrev pub site_of_subject : Ask → ObjId → List ObjId → Subject → Site
site_of_subject a o callers x = site_in (asker_of a) a.world o (part_of_subject x) (name_of_subject x) callers

-- the state in which it begins, but for what its entry pays and counts
abbrev pub start_of_subject : Ask → Subject → State
start_of_subject a x = record (state_of a) { locals = first_locals_of x a.arguments }

-- It is called: for a function this is its call, and for initialisers the call of them.
abbrev pub calling_subject : Ask → ObjId → List ObjId → Subject → Course Reply
calling_subject a o callers x =
    let k : Site = site_of_subject a o callers x in
    plainly (entering k.scene (body_of_subject k x) (start_of_subject a x))
