-- What the code's functions do.
use Rattle.std.specs.Prelude.{◌≡◌, ℕ, ℤ, pos, Vec, not, ◌≤◌, ◌<◌, length, List, [], ◌∷◌, reverse, Bool, true, false, Option, Some, None, Result, Ok, Err}
use Rattle.std.specs.Ordering.{int_eq}
use Rattle.std.specs.declared.alloc.Global.{Global}
use Rattle.lp_tree.specs.declared.fault.FaultKind.TheVariants.{Lex, BadDirective}
use Rattle.lp_tree.specs.declared.token.Token.{Token}
use Rattle.lp_tree.specs.declared.token.LexKind.{LexKind}
use Rattle.lp_lexer.specs.Lexis.{IsLexed, IsFault}
use Rattle.lp_files.specs.declared.store.Store.{Store}
use Rattle.lp_files.specs.Store.{file_at}
use Rattle.lp_preproc.specs.Conditions.{HasValue}
use Rattle.lp_preproc.specs.Tables.{macros_in}
use Rattle.lp_tree.specs.declared.pragma.Pragmas.{Pragmas}
use Rattle.lp_lexer.specs.declared.LexFault.{LexFault}
use Rattle.lp_lexer.specs.declared.LexFault.TheVariants as lexes
use Rattle.lp_preproc.specs.declared.reader.Reader.{Reader}
use Rattle.lp_preproc.specs.declared.stop.Stop.{Stop}
use Rattle.lp_preproc.specs.declared.stop.Stop.TheVariants.{NoMemory, At}
use Rattle.lp_preproc.specs.declared.fault.PreFault.{PreFault}
use Rattle.lp_preproc.specs.declared.fault.PreFault.TheVariants as pre
use Rattle.lp_preproc.specs.Macros.{Table}
use Rattle.lp_preproc.specs.declared.expander.Expander.{Expander}
use Rattle.lp_preproc.specs.declared.reading.Read.{Read}
use Rattle.lp_preproc.specs.declared.reading.Read.TheVariants.{Went, Used}
use Rattle.lp_preproc.specs.State.{Setting, Open, State, Next, Goes, Ends, Fails}
use Rattle.lp_preproc.specs.declared.word.Word.{Word}
use Rattle.lp_preproc.specs.declared.state.Group.{Group}
use Rattle.lp_preproc.specs.declared.state.Purpose.{Purpose}
use Rattle.lp_preproc.specs.declared.state.Reading.TheVariants.{Plain}
use Rattle.lp_preproc.specs.declared.row.Row.{Row}
use Rattle.lp_preproc.specs.Expansion.{line_at, Whole, Faulty, LeadsTo}
use Rattle.lp_preproc.specs.declared.state.Use.{Use}
use Rattle.lp_preproc.specs.Uses.{expanded, used, Asked}
pub use Rattle.lp_preproc.specs.Paths.{Leads}

-- what stands beside the words that are read
pub record Standing : Type 0 where
  pub least : ℕ
  pub files : List Open
  pub pragmas : Pragmas

-- the state of a reader, with the macros and what else stands beside it
abbrev pub state_of : Reader → Table → Standing → State
state_of r ms k = record { purpose = r.purpose; least = k.least; reading = r.reading; waiting = r.waiting; files = k.files; out = r.out; macros = ms; pragmas = k.pragmas; put_in = r.put_in }

-- the answer of a call that does what is next
abbrev pub Does : Next → Result (Unit {0}) Stop → State → Type 0
Does n (Ok u) s = n ≡ Goes s
Does n (Err NoMemory) s = Unit {0}
Does n (Err (At kind line)) s = n ≡ Fails kind line

-- the answer of a call that reads a word: it went on, or a use has its arguments
abbrev pub Reads : Setting → Next → Result Read Stop → State → Type 0
Reads c n (Ok Went) s = n ≡ Goes s
Reads c n (Ok (Used u args)) s = n ≡ used c u s args
Reads c n (Err NoMemory) s = Unit {0}
Reads c n (Err (At kind line)) s = n ≡ Fails kind line

-- the path of the compiled file
abbrev pub IsOf : List ℕ → Setting → Type 0
IsOf p c = p ≡ c.path

-- the answer of `defined`, and the words behind it
abbrev pub asked_with : List Word → Bool → Asked
asked_with ws b = record { answer = b; after = ws }

abbrev pub IsAsked : Option Asked → Option Bool → List Word → Type 0
IsAsked a (Some b) ws = a ≡ Some (asked_with ws b)
IsAsked a None ws = a ≡ None

-- the answer of a call at the end of the words: whether everything came out
abbrev pub Finishes : Next → Result Bool Stop → State → Type 0
Finishes n (Ok true) s = n ≡ Ends s
Finishes n (Ok false) s = n ≡ Goes s
Finishes n (Err NoMemory) s = Unit {0}
Finishes n (Err (At kind line)) s = n ≡ Fails kind line

-- the answer of a call that does all of what is next, up to a state
abbrev pub Reaches : Setting → Next → Result (Unit {0}) Stop → State → Type 0
Reaches c n (Ok u) s = Leads c n (Goes s)
Reaches c n (Err NoMemory) s = Unit {0}
Reaches c n (Err (At kind line)) s = LeadsTo c n (Faulty kind line)

-- the same, with whether everything came out
abbrev pub Turns : Setting → Next → Result Bool Stop → State → Type 0
Turns c n (Ok true) s = Leads c n (Ends s)
Turns c n (Ok false) s = Leads c n (Goes s)
Turns c n (Err NoMemory) s = Unit {0}
Turns c n (Err (At kind line)) s = LeadsTo c n (Faulty kind line)

-- a list that stands by itself, with these macros and pragmas
abbrev pub listed : Purpose → ℕ → List Word → Table → Pragmas → ℕ → State
listed p least ws ms ps n = record { purpose = p; least = least; reading = Plain; waiting = ws; files = []; out = []; macros = ms; pragmas = ps; put_in = n }

-- what came out of a list, and how much was put in then
abbrev pub ComesOut : Setting → State → Result (Row Word × ℕ) Stop → Type 0
ComesOut c q (Ok r) = (s : State) × LeadsTo c (Goes q) (Whole s) × (reverse s.out ≡ r.0) × (s.put_in ≡ r.1)
ComesOut c q (Err NoMemory) = Unit {0}
ComesOut c q (Err (At kind line)) = LeadsTo c (Goes q) (Faulty kind line)

-- what stands beside the words of such a list
abbrev pub in_list : ℕ → Pragmas → Standing
in_list least p = record { least = least; files = []; pragmas = p }

-- the arguments of a use were expanded
abbrev pub Expands : Setting → Use → ℕ → State → List (List Word) → Result (Row (Row Word)) Stop → State → Type 0
Expands c u d old args (Ok done) new = Leads c (expanded c u d old [] args) (expanded c u d new done [])
Expands c u d old args (Err NoMemory) new = Unit {0}
Expands c u d old args (Err (At kind line)) new = LeadsTo c (expanded c u d old [] args) (Faulty kind line)

-- the first word that waits was taken, or there was none
abbrev pub IsTaken : Option Word → Reader → Reader → Type 0
IsTaken None old new = (old.waiting ≡ []) × (new ≡ old)
IsTaken (Some w) old new = old ≡ record new { waiting = w ∷ new.waiting }

-- a state whose innermost file has these conditionals open
abbrev pub grouped : Open → List Group → Open
grouped o gs = record o { groups = gs }

abbrev pub within : State → Open → List Group → List Open → State
within s o gs os = record s { files = grouped o gs ∷ os }

-- what stands beside the words of the files
abbrev pub beside : List Open → Pragmas → Standing
beside fs p = record { least = 0; files = fs; pragmas = p }

-- the state of an expander
abbrev pub whole_of : Expander → State
whole_of e = state_of e.reader (macros_in e.table) (beside e.files e.pragmas)

-- a state with these open files, macros and pragmas
abbrev pub holding : State → List Open → Table → Pragmas → State
holding s fs ms p = record s { files = fs; macros = ms; pragmas = p }

-- the answer where nothing came to an end
abbrev pub turned : Result (Unit {0}) Stop → Result Bool Stop
turned (Ok u) = Ok false
turned (Err x) = Err x

-- the answer of a call that goes to the end
abbrev pub Runs : Setting → Next → Result (Unit {0}) Stop → State → Type 0
Runs c n (Ok u) s = LeadsTo c n (Whole s)
Runs c n (Err NoMemory) s = Unit {0}
Runs c n (Err (At kind line)) s = LeadsTo c n (Faulty kind line)

-- the answer of an expansion that begins with this
abbrev pub Expanding : Setting → Next → Result (Row Word × Pragmas) Stop → Type 0
Expanding c n (Ok r) = (s : State) × LeadsTo c n (Whole s) × (reverse s.out ≡ r.0) × (s.pragmas ≡ r.1)
Expanding c n (Err NoMemory) = Unit {0}
Expanding c n (Err (At kind line)) = LeadsTo c n (Faulty kind line)

-- why bytes without tokens have no expansion
abbrev pub stop_of : List ℕ → LexFault → Stop
stop_of bytes lexes.NoMemory = NoMemory
stop_of bytes (lexes.At at kind) = At Lex (line_at bytes at)

-- the files and the path of a setting
pub record IsIn (fs : Store) (p : List ℕ) (c : Setting) : Type 0 where
  pub files : c.files ≡ file_at fs
  pub place : IsOf p c

-- whether the condition of some words holds, and where it has no value
abbrev pub IsDecided : List Word → ℕ → Result Bool Stop → Type 0
IsDecided ws line (Ok b) = (z : ℤ) × HasValue ws z × (b ≡ not (int_eq z (pos 0)))
IsDecided ws line (Err NoMemory) = Unit {0}
IsDecided ws line (Err (At kind l)) = (kind ≡ BadDirective) × (l ≡ line) × ((z : ℤ) → HasValue ws z → ⊥)

-- the answer of a call that looks at a condition: it goes on by what came out
abbrev pub Branches : Setting → Next → Result Bool Stop → (Bool → Next) → Type 0
Branches c n (Ok b) g = Leads c n (g b)
Branches c n (Err NoMemory) g = Unit {0}
Branches c n (Err (At kind line)) g = LeadsTo c n (Faulty kind line)

-- the tokens of an included file, or a fault of the whole file
abbrev pub IsLexing : List ℕ → ℕ → Result (Vec Token Global) Stop → Type 0
IsLexing bytes line (Ok ts) = IsLexed bytes ts.items
IsLexing bytes line (Err NoMemory) = Unit {0}
IsLexing bytes line (Err (At kind l)) = (kind ≡ Lex) × (l ≡ line) × (at : ℕ) × (why : LexKind) × IsFault bytes at why

-- a count, unless it is more than so many
abbrev pub IsCount : ℕ → Option ℕ → ℕ → Type 0
IsCount room (Some n) m = (n ≡ m) × (m ≤ room)
IsCount room None m = room < m

-- these words, unless they are more than so many
abbrev pub IsWithin : ℕ → Option (Row Word) → List Word → Type 0
IsWithin room (Some r) ws = r ≡ ws
IsWithin room None ws = room < length ws

-- the fault of a file at a path
abbrev pub IsFaultOf : List ℕ → Stop → PreFault → Type 0
IsFaultOf path stop pre.NoMemory = Unit {0}
IsFaultOf path NoMemory (pre.At f) = ⊥
IsFaultOf path (At kind line) (pre.At f) = (f.file ≡ path) × (f.kind ≡ kind) × (f.line ≡ line)
