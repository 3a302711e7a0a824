-- Where a call of initialisers leads, and what is reached then.
use Rattle.std.proofs.Common.{◌≡◌, ◌∙◌, ◌≤◌, ◌<◌, ℕ, arith, true, false, List, [], Option, Some, None, IsSome, refl, ap, sym, subst, length, slice_get, unwrap_or}
use Rattle.std.specs.Prelude.{◌+◌, ◌-◌}
use Rattle.lp_values.specs.declared.id.ObjId.{ObjId}
use Rattle.lp_values.specs.declared.id.ProgId.{ProgId}
use Rattle.lp_values.specs.declared.value.Value.{Value}
use Rattle.lp_code.specs.declared.program.RawProgram.{RawProgram}
use Rattle.lp_code.specs.Programs.{FindsRows, code_of}
use Rattle.lp_swapfile.specs.Device.{Bytes}
use Rattle.lp_language.specs.World.{World}
use Rattle.lp_language.specs.Course.{Ask, Initialise}
use Rattle.lp_language.specs.Resolve.{Heritage, Part, heritage_of, number_of, parents_of, part_at, variable_count}
use Rattle.lp_isa.specs.Translates.{MakesInitOf}
use Rattle.lp_inherit.specs.Heirs.{tables}
use Rattle.lp_inherit.proofs.Meanings.{count_variables}
use Rattle.lp_meaning.specs.FunctionCalls.{callers_behind}
use Rattle.lp_meaning.specs.Questions.{meaning_of}
use Rattle.lp_world.specs.Closed.{IsClosed}
use Rattle.lp_world.specs.declared.live.Live.{Live}
use Rattle.lp_world.specs.declared.objects.Object.{Object}
use Rattle.lp_world.specs.declared.versions.ProgramState.{ProgramState}
use Rattle.lp_world.specs.declared.versions.ProgramState.TheVariants as programs_of
use Rattle.lp_world.specs.declared.versions.Version.{Version}
use Rattle.lp_world.specs.Rows.{row_at, variables_at, variables_in, variables_of, version_state}
use Rattle.lp_step_laws.specs.Running.{HasVariables}
use Rattle.lp_residence.specs.Owners.{program_of}
use Rattle.lp_residence.proofs.RowChanges.{row_there}
use Rattle.lp_frames.specs.Entries.{begun_locals}
use Rattle.lp_frames.specs.declared.entry.Callee.{Callee}
use Rattle.lp_part_laws.specs.Versions.{FitsVersion, heritage_in, rows_of}
use Rattle.lp_part_laws.proofs.Bases.{base_room}
use Rattle.lp_part_laws.proofs.Lists.{is_below, one_value}
use Rattle.lp_part_laws.proofs.Places.{number_at}
use Rattle.lp_part_laws.proofs.Trees.{part_settled}
use Rattle.lp_asking.specs.declared.asker.Asker.{Asker}
use Rattle.lp_asking.specs.Asking.{rows_in}
use Rattle.lp_initialisers.specs.Callees.{AreInitialisersIf}
use Rattle.lp_targets.specs.Brought.{StaysInMemory, program_at}
use Rattle.lp_targets.specs.Callees as now
use Rattle.lp_targets.specs.Callees.{IsAtHome, IsCalleeThere, IsWorldOf}
use Rattle.lp_targets.proofs.Memory.{program_still, some_row}
use Rattle.lp_targets.proofs.Worlds.{program_is, tree_is}
use Rattle.lp_reaching.specs.Compiled.{IsCallee}
use Rattle.lp_reaching.specs.Leading.{LeadsToInitialisers}
use Rattle.lp_reaching.specs.Reaching.{Initialises, Reaches}
use Rattle.lp_reaching.specs.Subjects.{OfInitialisers}
use Rattle.lp_reaching.proofs.Callees.{is_there, names_of_caller}
use Rattle.lp_reaching.proofs.Later.{caller_later}

-- The programs of an object's version and of a part of it.

-- that of the object's version fits it
fits_whole : (told : Option Bytes) (programs : List RawProgram) (live : Live) (w : World) (ob : ObjId) (x : Object) (whole : RawProgram) → IsWorldOf told programs live w → row_at live.objects ob.0 ≡ Some x → program_at live.versions x.program ≡ Some whole
    → FitsVersion (heritage_of w ob) whole
fits_whole told programs live w ob x whole h e g =
    subst (λ t. FitsVersion t whole) (sym (tree_is told programs live w ob x h.stands e)) (h.compiled.fit x.program.0 whole (program_is told programs live w x.program whole h.stands g))

-- The tables of that program have the version of each part.
listed : (h : Heritage) (whole : RawProgram) (n : ℕ) (p : Part) → FitsVersion h whole → part_at h n ≡ Some p → slice_get whole.tables.parts n ≡ Some (number_of p.tree)
listed h whole n p fits at = subst (λ z. slice_get z.parts n ≡ Some (number_of p.tree)) fits.own.own (number_at h n p at)

-- the program of a part's version fits the part
fits_part : (told : Option Bytes) (programs : List RawProgram) (live : Live) (w : World) (ob : ObjId) (x : Object) (n : ℕ) (p : Part) (own : RawProgram) → IsWorldOf told programs live w → row_at live.objects ob.0 ≡ Some x → part_at (heritage_of w ob) n ≡ Some p
    → slice_get programs (number_of p.tree).0 ≡ Some own → FitsVersion p.tree own
fits_part told programs live w ob x n p own h e at is =
    let settled = part_settled w.versions x.program n p h.compiled.rising (ap (λ t. part_at t n) (sym (tree_is told programs live w ob x h.stands e)) ∙ at) in
    subst (λ t. FitsVersion t own) (sym settled.tree) (h.compiled.fit (number_of p.tree).0 own is)

-- What was looked at: the program of an object's version, and that of a part.
record IsSeen (programs : List RawProgram) (live : Live) (w : World) (ob : ObjId) (version program : ProgId) (p : Part) : Type 0 where
  whole : RawProgram
  whole_is : program_at live.versions version ≡ Some whole
  fits : FitsVersion (heritage_of w ob) whole
  own : RawProgram
  own_is : program_at live.versions program ≡ Some own
  number : number_of p.tree ≡ program
  is : slice_get programs program.0 ≡ Some own
  mine : FitsVersion p.tree own

-- The program of an object's version lists the part's version.
abbrev pub Lists : Live → ProgId → ℕ → Option ProgId → Type 0
Lists live version part program = (raw : RawProgram) → program_at live.versions version ≡ Some raw → program ≡ slice_get raw.tables.parts part

-- So many looks are done: at the version of an object whose program is in memory, and at what that lists as a part's version.
pub record HasLooked (live : Live) (ob : ObjId) (part : ℕ) (v : ProgId) (program : Option ProgId) : Type 0 where
  pub object : Object
  pub there : row_at live.objects ob.0 ≡ Some object
  pub version : v ≡ object.program
  pub here : IsSome (program_at live.versions v)
  pub listed : Lists live v part program

seen : (told : Option Bytes) (programs : List RawProgram) (live : Live) (w : World) (ob : ObjId) (part : ℕ) (version program : ProgId) (p : Part) → IsWorldOf told programs live w → HasLooked live ob part version (Some program)
    → IsSome (program_at live.versions program) → part_at (heritage_of w ob) part ≡ Some p → IsSeen programs live w ob version program p
seen told programs live w ob part version program p h l there at =
    let whole = some_row (program_at live.versions version) l.here in
    let own = some_row (program_at live.versions program) there in
    let fits = fits_whole told programs live w ob l.object whole.0 h l.there (ap (program_at live.versions) (sym l.version) ∙ whole.1) in
    let number : number_of p.tree ≡ program = one_value (slice_get whole.0.tables.parts part) (number_of p.tree) program (listed (heritage_of w ob) whole.0 part p fits at) (sym (l.listed whole.0 whole.1)) in
    let is : slice_get programs program.0 ≡ Some own.0 = program_is told programs live w program own.0 h.stands own.1 in
    record {
      whole = whole.0;
      whole_is = whole.1;
      fits = fits;
      own = own.0;
      own_is = own.1;
      number = number;
      is = is;
      mine = fits_part told programs live w ob l.object part p own.0 h l.there at (ap (λ (u : ProgId). slice_get programs u.0) number ∙ is);
    }

-- the tables do not lack a part that is there
pub none_listed : (told : Option Bytes) (programs : List RawProgram) (live : Live) (asker : Asker) (caller : Option ObjId) (ob : ObjId) (part : ℕ) (version : ProgId) (a : Ask) (P : Type 0) → IsWorldOf told programs live a.world → HasLooked live ob part version None
    → Initialises asker caller ob part a → P
none_listed told programs live asker caller ob part version a P w l h =
    let whole = some_row (program_at live.versions version) l.here in
    let fits = fits_whole told programs live a.world ob l.object whole.0 w l.there (ap (program_at live.versions) (sym l.version) ∙ whole.1) in
    let z : None ≡ Some (number_of h.place.tree) = l.listed whole.0 whole.1 ∙ listed (heritage_of a.world ob) whole.0 part h.place fits h.at in
    absurd cc

-- All this stays where more comes into memory.

pub version_later : (old new : Live) (n : ℕ) (v : ProgId) → StaysInMemory old new → IsSome (row_at old.objects n) → ((o : Object) → row_at old.objects n ≡ Some o → v ≡ o.program) → (o : Object) → row_at new.objects n ≡ Some o → v ≡ o.program
version_later old new n v s h e o q =
    let x = some_row (row_at old.objects n) h in
    let y = s.objects n x.0 x.1 in
    e x.0 x.1 ∙ sym y.2.program ∙ ap (λ (z : Object). z.program) (one_value (row_at new.objects n) y.0 o y.1 q)

lists_later : (old new : Live) (v : ProgId) (part : ℕ) (program : Option ProgId) → StaysInMemory old new → IsSome (program_at old.versions v) → Lists old v part program → Lists new v part program
lists_later old new v part program s here l raw q =
    let x = some_row (program_at old.versions v) here in
    l x.0 x.1 ∙ ap (λ (z : RawProgram). slice_get z.tables.parts part) (one_value (program_at new.versions v) x.0 raw (s.programs v x.0 x.1) q)

pub has_looked : (old new : Live) (ob : ObjId) (part : ℕ) (v : ProgId) (program : Option ProgId) → StaysInMemory old new → IsSome (row_at old.objects ob.0) → ((o : Object) → row_at old.objects ob.0 ≡ Some o → v ≡ o.program)
    → IsSome (program_at old.versions v) → Lists old v part program → HasLooked new ob part v program
has_looked old new ob part v program s there e here l =
    let x = some_row (row_at old.objects ob.0) there in
    let y = s.objects ob.0 x.0 x.1 in
    record { object = y.0; there = y.1; version = e x.0 x.1 ∙ sym y.2.program; here = program_still old new v s here; listed = lists_later old new v part program s here l }

-- Where a call leads

-- what was found are the initialisers of the part
abbrev pub FindsThem : Live → ObjId → ℕ → ProgId → ProgId → Option Callee → Type 0
FindsThem live ob part version program r =
    (whole own : RawProgram) (h : Heritage) (p : Part) → program_at live.versions version ≡ Some whole → program_at live.versions program ≡ Some own → part_at h part ≡ Some p → FitsVersion h whole → FitsVersion p.tree own → AreInitialisersIf r ob part program p own

pub none_found : (told : Option Bytes) (programs : List RawProgram) (live : Live) (asker : Asker) (caller : Option ObjId) (ob : ObjId) (part : ℕ) (version program : ProgId) (a : Ask) (P : Type 0)
    → IsWorldOf told programs live a.world → HasLooked live ob part version (Some program) → IsSome (program_at live.versions program) → FindsThem live ob part version program None → Initialises asker caller ob part a → P
none_found told programs live asker caller ob part version program a P w l there found h =
    let s = seen told programs live a.world ob part version program h.place w l there h.at in
    let z : true ≡ false = sym h.has ∙ found s.whole s.own (heritage_of a.world ob) h.place s.whole_is s.own_is h.at s.fits s.mine in
    absurd cc

pub leads_to : (told : Option Bytes) (programs : List RawProgram) (live : Live) (asker : Asker) (caller : Option ObjId) (ob : ObjId) (part : ℕ) (version program : ProgId) (a : Ask) (callee : Callee)
    → IsWorldOf told programs live a.world → HasLooked live ob part version (Some program) → IsSome (program_at live.versions program) → FindsThem live ob part version program (Some callee) → Initialises asker caller ob part a
    → LeadsToInitialisers programs asker caller a callee
leads_to told programs live asker caller ob part version program a callee w l there found h =
    let s = seen told programs live a.world ob part version program h.place w l there h.at in
    let k = (found s.whole s.own (heritage_of a.world ob) h.place s.whole_is s.own_is h.at s.fits s.mine).1 in
    record {
      asks = record {
        callers = h.callers;
        what = h.what ∙ ap (λ o. Initialise o part) (sym k.this) ∙ ap (λ n. Initialise callee.this n) (sym k.part);
        place = h.place;
        at = ap (part_at (heritage_of a.world callee.this)) k.part ∙ ap (λ o. part_at (heritage_of a.world o) part) k.this ∙ h.at;
        has = h.has;
      };
      program = k.program ∙ sym s.number;
      base = k.base;
      own = s.own;
      is = ap (λ (u : ProgId). slice_get programs u.0) k.program ∙ s.is;
      row = k.row;
    }

-- its version is there, with such a row
pub leads_there : (told : Option Bytes) (programs : List RawProgram) (live : Live) (asker : Asker) (caller : Option ObjId) (a : Ask) (callee : Callee) → IsWorldOf told programs live a.world → IsClosed live → IsSome (program_at live.versions callee.program)
    → LeadsToInitialisers programs asker caller a callee → IsCalleeThere live.versions callee
leads_there told programs live asker caller a callee w closed here h =
    let raw = some_row (program_at live.versions callee.program) here in
    let same : h.own ≡ raw.0 = one_value (slice_get programs callee.program.0) h.own raw.0 h.is (program_is told programs live a.world callee.program raw.0 w.stands raw.1) in
    let low = is_below raw.0.funs callee.fun h.row.row (ap (λ (q : RawProgram). slice_get q.funs callee.fun) (sym same) ∙ h.row.listed) in
    by raw.0 (row_at live.versions callee.program.0) refl raw.1 low
  where
    held : (s : ProgramState) (q : RawProgram) → program_of (Some s) ≡ Some q → s ≡ programs_of.Resident q
    held (programs_of.Resident x) q g = ap (λ o. programs_of.Resident (unwrap_or o x)) g
    held (programs_of.Swapped t) q g = cc

    by : (q : RawProgram) (o : Option Version) → row_at live.versions callee.program.0 ≡ o → program_of (version_state o) ≡ Some q → callee.fun < length q.funs → IsCalleeThere live.versions callee
    by q None e g low = cc
    by q (Some v) e g low =
        let is = closed.versions callee.program.0 v (row_there live.versions callee.program.0 v e) in
        let n = (is.program q (held v.state q g)).outline.functions in
        record { version = v; there = e; function = omega (arith, n, low) }

-- What is reached

no_locals : (params locals : ℕ) (xs : List Value) → params ≡ 0 → locals - params ≡ 0 → begun_locals params locals xs ≡ []
no_locals params locals xs p l =
    let z : locals ≡ 0 = omega (arith, p, l) in
    ap (λ n. begun_locals n locals xs) p ∙ ap (λ n. begun_locals 0 n xs) z

fits_leads : (told : Option Bytes) (programs : List RawProgram) (live : Live) (asker : Asker) (caller : Option ObjId) (a : Ask) (callee : Callee) → IsWorldOf told programs live a.world → IsSome (row_at live.objects callee.this.0)
    → (h : LeadsToInitialisers programs asker caller a callee) → FitsVersion h.asks.place.tree h.own
fits_leads told programs live asker caller a callee w there h =
    let x = some_row (row_at live.objects callee.this.0) there in
    fits_part told programs live a.world callee.this x.0 callee.part h.asks.place h.own w x.1 h.asks.at (ap (λ (u : ProgId). slice_get programs u.0) (sym h.program) ∙ h.is)

initialisers_later : (told : Option Bytes) (programs : List RawProgram) (live : Live) (asker : Asker) (caller : Option ObjId) (a : Ask) (callee : Callee) → IsWorldOf told programs live a.world → IsClosed live → IsSome (row_at live.objects callee.this.0)
    → LeadsToInitialisers programs asker caller a callee → IsCallee programs a.world callee callee.this (OfInitialisers callee.part)
initialisers_later told programs live asker caller a callee w closed there h =
    let tree = h.asks.place.tree in
    let fits = fits_leads told programs live asker caller a callee w there h in
    let t = is_there told programs live a.world callee.this w.stands closed there in
    let who : now.IsCaller programs a.world callee.this callee.part h.own = record { place = h.asks.place; at = h.asks.at; is = ap (λ (u : ProgId). slice_get programs u.0) (sym h.program) ∙ h.is } in
    let names : rows_of (tables (parents_of tree)) ≡ rows_in programs h.own = names_of_caller programs told live a.world callee.this callee.part h.own w who in
    record {
      this = refl;
      part = refl;
      place = h.asks.place;
      at = h.asks.at;
      program = h.program;
      base = h.base;
      code = h.own;
      is = h.is;
      sound = fits.sound;
      row = h.row.row;
      found = h.row.listed;
      name = h.row.is.name;
      locals = λ xs. no_locals h.row.row.params h.row.row.locals xs h.row.is.params h.row.is.locals;
      makes = subst (λ ns. MakesInitOf tree (code_of h.own ns) h.row.row.from) names h.row.is.makes;
      rows = subst (FindsRows h.own) names fits.rows;
      places = fits.places;
      caller = caller_later programs a.world callee.this t.object callee.part h.own w.compiled.rising t.is t.low who;
    }

-- The variables of the part are among those of its object.
pub init_home : (told : Option Bytes) (programs : List RawProgram) (live : Live) (asker : Asker) (caller : Option ObjId) (a : Ask) (callee : Callee) (code : RawProgram) → IsWorldOf told programs live a.world → IsClosed live
    → LeadsToInitialisers programs asker caller a callee → IsSome (variables_at live.objects callee.this) → slice_get programs callee.program.0 ≡ Some code → IsAtHome live callee code
init_home told programs live asker caller a callee code w closed h here e =
    by (variables_at live.objects callee.this) refl here
  where
    row : (vs : List Value) (r : Option Object) → row_at live.objects callee.this.0 ≡ r → variables_in r ≡ Some vs → (x : Object) × (row_at live.objects callee.this.0 ≡ Some x) × (variables_of x.state ≡ Some vs)
    row vs None q g = cc
    row vs (Some x) q g = (x, q, g)

    many : (vs : List Value) → variables_at live.objects callee.this ≡ Some vs → callee.base + length code.tables.vars ≤ length vs
    many vs g =
        let x = row vs (row_at live.objects callee.this.0) refl g in
        let oc = closed.objects callee.this.0 x.0 (row_there live.objects callee.this.0 x.0 x.1) in
        let len = (oc.variables vs x.2).0 in
        let v = w.stands.versions.each x.0.program.0 oc.version (row_there live.versions x.0.program.0 oc.version oc.there) in
        let fits = w.compiled.fit x.0.program.0 v.program v.is in
        let tree : heritage_of a.world callee.this ≡ heritage_in a.world.versions x.0.program = tree_is told programs live a.world callee.this x.0 w.stands x.1 in
        let room = base_room (heritage_in a.world.versions x.0.program) callee.part h.asks.place (ap (λ z. part_at z callee.part) (sym tree) ∙ h.asks.at) in
        let whole : length v.program.tables.vars ≡ variable_count (heritage_in a.world.versions x.0.program) = ap (λ z. length z.vars) (sym fits.own.own) ∙ count_variables (heritage_in a.world.versions x.0.program) in
        let same : h.own ≡ code = one_value (slice_get programs callee.program.0) h.own code h.is e in
        let mine = fits_part told programs live a.world callee.this x.0 callee.part h.asks.place h.own w x.1 h.asks.at (ap (λ (u : ProgId). slice_get programs u.0) (sym h.program) ∙ h.is) in
        let part : length code.tables.vars ≡ variable_count h.asks.place.tree = ap (λ (z : RawProgram). length z.tables.vars) (sym same) ∙ ap (λ z. length z.vars) (sym mine.own.own) ∙ count_variables h.asks.place.tree in
        let out = v.outline.variables in
        let base = h.base in
        omega (arith, len, room, whole, part, out, base)

    by : (k : Option (List Value)) → variables_at live.objects callee.this ≡ k → IsSome k → HasVariables k (callee.base + length code.tables.vars)
    by None q s = absurd cc
    by (Some vs) q s = many vs q

-- The initialisers are reached.
pub init_reaches : (told0 told1 : Option Bytes) (programs : List RawProgram) (old new : Live) (asker : Asker) (caller : Option ObjId) (a : Ask) (callee : Callee) (code : RawProgram) → IsClosed old → IsSome (row_at old.objects callee.this.0) → IsWorldOf told0 programs old a.world
    → LeadsToInitialisers programs asker caller a callee → slice_get programs callee.program.0 ≡ Some code → IsWorldOf told1 programs new a.world → Reaches told1 programs new asker a (record { callee = callee; code = code; caller = caller })
init_reaches told0 told1 programs old new asker caller a callee code closed there w h e after =
    let k = initialisers_later told0 programs old asker caller a callee w closed there h in
    record {
      callers = callers_behind a.scene;
      subject = OfInitialisers callee.part;
      means_it = ap (meaning_of a) h.asks.what;
      callers_are = h.asks.callers;
      callee = k;
      code = one_value (slice_get programs callee.program.0) k.code code k.is e;
      world = after;
    }
