-- The expansion of a file: its tokens with their lines and its pragmas, or its first fault.
use Rattle.std.specs.Prelude.{◌≡◌, ℕ, ℤ, ◌+◌, List, [], ◌∷◌, map, reverse, length, take, count_by, Option, None, Some, Result, Ok, Err, ⊤, false, nat_lt, ◌==◌, ◌&&◌, if◌then◌else◌}
use Rattle.lp_tree.specs.declared.fault.FaultKind.{FaultKind}
use Rattle.lp_tree.specs.declared.fault.FaultKind.TheVariants as faults
use Rattle.lp_tree.specs.declared.pragma.Pragmas.{Pragmas}
use Rattle.lp_tree.specs.declared.token.LexKind.{LexKind}
use Rattle.lp_tree.specs.declared.token.Token.{Token}
use Rattle.lp_lexer.specs.Lexis.{IsLexed, IsFault as IsLexFault}
use Rattle.lp_files.specs.declared.store.Store.{Store}
use Rattle.lp_files.specs.Store.{file_at}
use Rattle.lp_preproc.specs.declared.fault.PreFault.{PreFault}
use Rattle.lp_preproc.specs.declared.fault.PreFault.TheVariants.{NoMemory, At}
use Rattle.lp_preproc.specs.declared.fault.Expanded.{Expanded}
use Rattle.lp_lexer.specs.Source.{most_bytes}
use Rattle.lp_preproc.specs.declared.state.Group.{Group}
use Rattle.lp_preproc.specs.declared.word.Word.{Word}
use Rattle.lp_preproc.specs.State.{Setting, Open, State, begin, Next, Goes, Ends, Fails, Asks, Reads, Tests, line_or, skips}
use Rattle.lp_preproc.specs.Uses.{read, ended}
use Rattle.lp_preproc.specs.Conditions.{HasValue}
use Rattle.lp_preproc.specs.Directives.{rest_of_line, next_lines, is_hash, is_bad, directive}

-- ---- What comes next

-- a token of a file becomes a word, with its line in the compiled file
abbrev pub word_of : Open → Token → Word
word_of o t = record { kind = t.kind; line = line_or o.included t.line; hidden = []; depth = 0 }

-- what was read of the innermost file
abbrev pub past : State → Open → List Open → List Token → State
past s o os ts = record s { files = record o { left = ts } ∷ os }

-- At the end of a file each conditional has had its `#endif`.
abbrev pub closed : State → Open → List Open → List Group → Next
closed s o os [] = Goes (record s { files = os })
closed s o os (g ∷ gs) = Fails faults.OpenIf o.last_line

-- A token of a file that is no directive: skipped, or refused, or read.
abbrev pub token : Setting → State → Open → List Open → Token → List Token → Next
token c s o os t ts =
    if skips o.groups then Goes (past s o os ts)
    else (if is_bad t.kind then Fails faults.Lex (line_or o.included t.line)
    else read c (past s o os ts) (word_of o t))

-- a directive of the innermost file, which is read up to the next line
abbrev pub directive_line : Setting → State → Open → List Open → List Token → ℕ → Next
directive_line c s o os ts line = directive c (record s { files = o ∷ os }) o ts line

-- A line whose first token is `#` is a directive.
abbrev pub from_file : Setting → State → Open → List Open → List Token → Next
from_file c s o os [] = closed s o os o.groups
from_file c s o os (t ∷ ts) =
    if t.first && is_hash t.kind then directive_line c s (record o { left = next_lines ts }) os (rest_of_line ts) (line_or o.included t.line)
    else token c s o os t ts

abbrev pub from_files : Setting → State → List Open → Next
from_files c s [] = ended s
from_files c s (o ∷ os) = from_file c s o os o.left

-- Words that were put in come before the rest of the files.
abbrev pub from_waiting : Setting → State → List Word → Next
from_waiting c s [] = from_files c s s.files
from_waiting c s (w ∷ ws) = read c (record s { waiting = ws }) w

abbrev pub next : Setting → State → Next
next c s = from_waiting c s s.waiting

-- ---- Where it leads

-- how an expansion ends
pub data Outcome : Type 0 where
  Whole : (s : State) → Outcome
  Faulty : (kind : FaultKind) (line : ℕ) → Outcome

-- the line of a byte
abbrev pub line_at : List ℕ → ℕ → ℕ
line_at bytes at = 1 + count_by (λ b. b == 10) (take at bytes)

-- What is next leads to this outcome.
pub data LeadsTo (c : Setting) : Next → Outcome → Type 0 where
  ends : {s : State} → LeadsTo c (Ends s) (Whole s)
  fails : {kind : FaultKind} {line : ℕ} → LeadsTo c (Fails kind line) (Faulty kind line)
  goes : {s : State} {o : Outcome} → LeadsTo c (next c s) o → LeadsTo c (Goes s) o
  -- a list that stands by itself has come out; or its fault is the first
  asks : {q r : State} {k : State → Next} {o : Outcome} → LeadsTo c (Goes q) (Whole r) → LeadsTo c (k r) o → LeadsTo c (Asks q k) o
  asks_fault : {q : State} {k : State → Next} {kind : FaultKind} {line : ℕ} → LeadsTo c (Goes q) (Faulty kind line) → LeadsTo c (Asks q k) (Faulty kind line)
  -- a file has these tokens; or bytes that are not UTF-8, or a comment without end
  reads : {bytes : List ℕ} {line : Option ℕ} {k : List Token → Next} {ts : List Token} {o : Outcome}
      → IsLexed bytes ts → LeadsTo c (k ts) o → LeadsTo c (Reads bytes line k) o
  reads_fault : {bytes : List ℕ} {line : Option ℕ} {k : List Token → Next} (at : ℕ) (kind : LexKind)
      → IsLexFault bytes at kind → LeadsTo c (Reads bytes line k) (Faulty faults.Lex (line_or line (line_at bytes at)))
  -- a condition has this value; or it has none
  tests : {ws : List Word} {line : ℕ} {k : ℤ → Next} {z : ℤ} {o : Outcome} → HasValue ws z → LeadsTo c (k z) o → LeadsTo c (Tests ws line k) o
  tests_fault : {ws : List Word} {line : ℕ} {k : ℤ → Next} → ((z : ℤ) → HasValue ws z → ⊥) → LeadsTo c (Tests ws line k) (Faulty faults.BadDirective line)

-- ---- The whole

-- the last line that has a token, or 0
abbrev pub last_line : ℕ → List Token → ℕ
last_line line [] = line
last_line line (t ∷ ts) = last_line t.line ts

abbrev pub compiled : Setting → List Token → Open
compiled c ts = record { path = c.path; left = ts; groups = []; included = None; last_line = last_line 0 ts }

-- the first step: the file that is compiled is opened, unless it is too large
abbrev pub opening_bytes : Setting → List ℕ → Next
opening_bytes c bytes =
    if nat_lt most_bytes (length bytes) then Fails faults.TooManyTokens 0
    else Reads bytes None (λ ts. Goes (record begin { files = compiled c ts ∷ [] }))

-- or there is none
abbrev pub opening_found : Setting → Option (List ℕ) → Next
opening_found c None = Fails faults.NoFile 0
opening_found c (Some bytes) = opening_bytes c bytes

abbrev pub opening : Setting → Next
opening c = opening_found c (c.files c.path)

-- a token that came out: what it is and its line; its place in its file is lost
abbrev pub came_out : Word → Token
came_out w = record { kind = w.kind; line = w.line; at = 0; len = 0; first = false }

abbrev pub came_out_of : List Word → List Token
came_out_of ws = map came_out (reverse ws)

-- The file expands to these tokens and pragmas.
abbrev pub IsExpansion : Setting → List Token → Pragmas → Type 0
IsExpansion c ts p = (s : State) × LeadsTo c (opening c) (Whole s) × (came_out_of s.out ≡ ts) × (s.pragmas ≡ p)

-- This is the first fault of the file, at this line.
abbrev pub IsFirstFault : Setting → FaultKind → ℕ → Type 0
IsFirstFault c kind line = LeadsTo c (opening c) (Faulty kind line)

-- what the files of a store have, and the path of the one that is compiled
abbrev pub setting : Store → List ℕ → Setting
setting fs path = record { files = file_at fs; path = path }

-- The answer is these tokens and pragmas, unless memory ran out.
abbrev pub IsUnlessMemory : List Token → Pragmas → Result Expanded PreFault → Type 0
IsUnlessMemory ts p (Ok e) = (e.tokens.items ≡ ts) × (e.pragmas ≡ p)
IsUnlessMemory ts p (Err f) = f ≡ NoMemory

-- What is answered is the first fault, in the file that is compiled.
abbrev pub IsFault : Setting → PreFault → Type 0
IsFault c NoMemory = ⊤
IsFault c (At f) = (f.file ≡ c.path) × IsFirstFault c f.kind f.line

-- The answer is this fault, unless memory ran out.
abbrev pub IsFaultUnlessMemory : Setting → FaultKind → ℕ → Result Expanded PreFault → Type 0
IsFaultUnlessMemory c kind line (Ok e) = ⊥
IsFaultUnlessMemory c kind line (Err NoMemory) = ⊤
IsFaultUnlessMemory c kind line (Err (At f)) = (f.file ≡ c.path) × (f.kind ≡ kind) × (f.line ≡ line)
