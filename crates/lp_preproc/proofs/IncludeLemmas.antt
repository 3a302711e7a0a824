-- Includes.
use Rattle.std.proofs.Common.{◌≡◌, ℕ, ◌+◌, ◌<◌, ◌≤◌, List, ◌∷◌, true, false, Some, Err, length, refl, sym, subst, arith}
use Rattle.std.specs.Prelude.{nat_lt}
use Rattle.lp_tree.specs.declared.token.Token.{Token}
use Rattle.lp_tree.specs.declared.fault.FaultKind.TheVariants.{IncludeDepth, Lex, TooManyTokens}
use Rattle.lp_lexer.specs.Lexis.{IsLexed}
use Rattle.lp_lexer.specs.Source.{most_bytes}
use Rattle.lp_preproc.specs.declared.stop.Stop.{Stop}
use Rattle.lp_preproc.specs.declared.stop.Stop.TheVariants.{NoMemory, At}
use Rattle.lp_preproc.specs.State.{Setting, State, Goes, Reads}
use Rattle.lp_preproc.specs.Directives.{include_bytes, included}
use Rattle.lp_preproc.specs.Expansion.{Faulty, LeadsTo, fails, reads_fault}
use Rattle.lp_preproc.specs.Paths.{stays, lexed}
use Rattle.lp_preproc.specs.Steps.{IsLexing, Leads, Reaches}

pub include_deep : (c : Setting) (s : State) (path : List ℕ) (line : ℕ) (bytes : List ℕ) → 32 < length s.files → LeadsTo c (include_bytes s path line (Some bytes)) (Faulty IncludeDepth line)
include_deep c s path line bytes h =
    let e : nat_lt 32 (length s.files) ≡ true = grind arith in
    rw e fails

pub include_many : (c : Setting) (s : State) (path : List ℕ) (line : ℕ) (bytes : List ℕ) → length s.files ≤ 32 → 1000000 ≤ s.put_in → LeadsTo c (include_bytes s path line (Some bytes)) (Faulty TooManyTokens line)
include_many c s path line bytes d h =
    let e : nat_lt 32 (length s.files) ≡ false = grind arith in
    let f : nat_lt 1000000 (s.put_in + 1) ≡ true = grind arith in
    rw (e, f) fails

pub include_large : (c : Setting) (s : State) (path : List ℕ) (line : ℕ) (bytes : List ℕ) → length s.files ≤ 32 → s.put_in < 1000000 → most_bytes < length bytes → LeadsTo c (include_bytes s path line (Some bytes)) (Faulty TooManyTokens line)
include_large c s path line bytes d p h =
    let e : nat_lt 32 (length s.files) ≡ false = grind arith in
    let f : nat_lt 1000000 (s.put_in + 1) ≡ false = grind arith in
    let g : nat_lt most_bytes (length bytes) ≡ true = grind arith in
    rw (e, f, g) fails

include_small : (s : State) (path : List ℕ) (line : ℕ) (bytes : List ℕ) → length s.files ≤ 32 → s.put_in < 1000000 → length bytes ≤ most_bytes
    → include_bytes s path line (Some bytes) ≡ Reads bytes (Some line) (λ ts. Goes (record s { files = included path line ts ∷ s.files; put_in = s.put_in + 1 }))
include_small s path line bytes d p h =
    let e : nat_lt 32 (length s.files) ≡ false = grind arith in
    let f : nat_lt 1000000 (s.put_in + 1) ≡ false = grind arith in
    let g : nat_lt most_bytes (length bytes) ≡ false = grind arith in
    rw (e, f, g) refl

-- a file with these tokens is open
pub include_read : (c : Setting) (s t : State) (path : List ℕ) (line : ℕ) (bytes : List ℕ) (ts : List Token) → length s.files ≤ 32 → s.put_in < 1000000 → length bytes ≤ most_bytes
    → IsLexed bytes ts → t ≡ record s { files = included path line ts ∷ s.files; put_in = s.put_in + 1 } → Leads c (include_bytes s path line (Some bytes)) (Goes t)
include_read c s t path line bytes ts d p h l e =
    subst (λ n. Leads c n (Goes t)) (sym (include_small s path line bytes d p h)) (lexed l (subst (λ u. Leads c (Goes u) (Goes t)) e stays))

-- a file without tokens
pub include_failed : (c : Setting) (s t : State) (path : List ℕ) (line : ℕ) (bytes : List ℕ) (x : Stop) → length s.files ≤ 32 → s.put_in < 1000000 → length bytes ≤ most_bytes
    → IsLexing bytes line (Err x) → Reaches c (include_bytes s path line (Some bytes)) (Err x) t
include_failed c s t path line bytes NoMemory d p h l = tt
include_failed c s t path line bytes (At kind own) d p h l =
    subst (λ k. LeadsTo c (include_bytes s path line (Some bytes)) (Faulty k own)) (sym l.0)
    (subst (λ k. LeadsTo c (include_bytes s path line (Some bytes)) (Faulty Lex k)) (sym l.1)
    (subst (λ n. LeadsTo c n (Faulty Lex line)) (sym (include_small s path line bytes d p h)) (reads_fault l.2 l.3 l.4)))
