-- What `lex` answers.
use Rattle.std.specs.Prelude.{◌≡◌, ℕ, List, Result, Ok, Err, Vec}
use Rattle.std.specs.declared.alloc.Global.{Global}
use Rattle.lp_tree.specs.declared.token.Token.{Token}
use Rattle.lp_tree.specs.declared.token.LexKind.{LexKind}
use Rattle.lp_lexer.specs.declared.LexFault.{LexFault}
use Rattle.lp_lexer.specs.declared.LexFault.TheVariants.{NoMemory, At}
use Rattle.lp_lexer.specs.Lexis.{IsFault}

-- the fault is the first of the bytes, or memory ran out
abbrev pub IsLexFault : List ℕ → LexFault → Type 0
IsLexFault bs NoMemory = Unit {0}
IsLexFault bs (At at kind) = IsFault bs at kind

-- the answer is these tokens, unless memory ran out
abbrev pub AreTokensUnlessMemory : List Token → Result (Vec Token Global) LexFault → Type 0
AreTokensUnlessMemory ts (Ok v) = v.items ≡ ts
AreTokensUnlessMemory ts (Err f) = f ≡ NoMemory

-- the answer is this fault, unless memory ran out
abbrev pub IsFaultUnlessMemory : ℕ → LexKind → Result (Vec Token Global) LexFault → Type 0
IsFaultUnlessMemory at kind (Ok v) = ⊥
IsFaultUnlessMemory at kind (Err NoMemory) = Unit {0}
IsFaultUnlessMemory at kind (Err (At place what)) = (place ≡ at) × (what ≡ kind)
