-- Rows: small mudlibs with their events, and the transcript that a run of them has.
use Rattle.std.specs.Prelude.{◌≡◌, ℕ, List, [], ◌∷◌, ◌++◌, ◌&&◌, Option, Some, None, encode_utf8_all, if◌then◌else◌, map}
use Rattle.lp_tree.specs.declared.fault.Fault.{Fault}
use Rattle.lp_tree.specs.declared.fault.FaultKind.TheVariants.{NoFile}
use Rattle.lp_tree.specs.Statements.{StmtTree, StmtTrees, NoStmt, MoreStmts}
use Rattle.lp_tree.specs.Units.{ItemTree}
use Rattle.lp_events.specs.declared.event.Event.{Event}
use Rattle.lp_events.specs.declared.out.Out.{Out}
use Rattle.lp_events.specs.Transcript.{transcript}
use Rattle.lp_instr.specs.EfunList.{is_name}
pub use Rattle.lp_language.specs.World.{File}
use Rattle.lp_language.specs.World.{World, no_pragmas}
use Rattle.lp_meaning.specs.WorldSteps.{file_at}
use Rattle.lp_meaning.specs.FrontEnd.{Reading, Declares, HasFault, FrontEnd}
use Rattle.lp_meaning.specs.Closing.{Run}
use Rattle.lp_meaning.specs.Computing.{Rules, rules, Shown, Outputs, Refused, computed}

-- A source: its path and its text, and what reading it gives. The trees are those that its text spells; none of these files has
-- a fault of types or of layout.
pub record Source : Type 0 where
  pub path : List ℕ
  pub bytes : List ℕ
  pub reading : Reading

-- a source that declares these items
abbrev pub sound : List ℕ → List ℕ → List ItemTree → Source
sound path bytes items = record { path = path; bytes = bytes; reading = Declares items no_pragmas }

-- a source with this first fault
abbrev pub unsound : List ℕ → List ℕ → Fault → Source
unsound path bytes fault = record { path = path; bytes = bytes; reading = HasFault fault }

abbrev pub stmts : List StmtTree → StmtTrees
stmts [] = NoStmt
stmts (s ∷ ss) = MoreStmts s (stmts ss)

-- A row: its sources, those that reloads bring, its other files, the moment of the start, and the events. The seed is 0.
pub record Row : Type 0 where
  pub sources : List Source
  pub later : List Source
  pub others : List File
  pub moment : ℕ
  pub events : List Event

abbrev pub row : List Source → List Source → List File → ℕ → List Event → Row
row sources later others moment events = record { sources = sources; later = later; others = others; moment = moment; events = events }

abbrev pub text_file : List ℕ → List ℕ → File
text_file path bytes = record { path = path; bytes = bytes }

abbrev pub file_of : Source → File
file_of s = record { path = s.path; bytes = s.bytes }

abbrev pub files_of : Row → List File
files_of r = map file_of r.sources ++ r.others

-- what reading a file gives, by a table of sources
abbrev pub no_file : List ℕ → Reading
no_file path = HasFault (record { file = encode_utf8_all path; line = 0; kind = NoFile })

abbrev pub reading_among : List Source → List ℕ → Option (List ℕ) → Reading
reading_among sources path None = no_file path
reading_among [] path (Some bytes) = no_file path
reading_among (x ∷ xs) path (Some bytes) = if is_name x.path path && is_name x.bytes bytes then x.reading else reading_among xs path (Some bytes)

-- the front end that a row needs
abbrev pub front_end : Row → FrontEnd
front_end r = record { read = λ files path. reading_among (r.sources ++ r.later) path (file_at files path); check = λ w path items pragmas parents simuls. [] }

-- what a row shows by some rules; at most so many questions lie inside one another
abbrev pub shown_by : Rules → Row → Option Shown
shown_by rules r = computed rules (front_end r) 250 0 r.moment (files_of r) r.events

-- the transcript of a row by some rules
abbrev pub transcript_of : Shown → Option (List ℕ)
transcript_of (Outputs outs) = Some (transcript outs)
transcript_of (Refused faults) = None

abbrev pub written : Option Shown → Option (List ℕ)
written None = None
written (Some s) = transcript_of s

abbrev pub GivesBy : Rules → Row → List ℕ → Type 0
GivesBy rules r text = written (shown_by rules r) ≡ Some text

-- a row gives this transcript
abbrev pub Gives : Row → List ℕ → Type 0
Gives r text = GivesBy rules r text

-- a row has no master, for these faults
abbrev pub Refuses : Row → List Fault → Type 0
Refuses r faults = shown_by rules r ≡ Some (Refused faults)

-- a run of a row has this transcript
pub record RunsTo (r : Row) (text : List ℕ) : Type 0 where
  pub outputs : List (List Out)
  pub last : World
  pub runs : Run (front_end r) 0 r.moment (files_of r) r.events outputs last
  pub spells : transcript outputs ≡ text

-- So what a row gives is the transcript of its run.
abbrev pub RowsAreRuns : Type 0
RowsAreRuns = (r : Row) (text : List ℕ) → Gives r text → RunsTo r text
