-- The texts by which faults of a source are told.
use Rattle.std.specs.Prelude.{ℕ, List, codes}
use Rattle.lp_tree.specs.declared.fault.FaultKind.{FaultKind}
use Rattle.lp_tree.specs.declared.fault.FaultKind.TheVariants.{NoFile, NoInclude, IncludeDepth, OpenIf, StrayElse, BadDirective, MacroArgs, MacroDepth, TooManyTokens, UserError, Lex, Unexpected, TooNested, UnknownName, UnknownFunction, WrongCount, WrongType, MissingType, DoubleName, DoubleCase, BadReturn, NomaskOverridden, NoInheritPragma, AmbiguousSuper, Cycle, InheritDepth, TooManyNames, Aborted}

-- what a keeper reads of a fault
abbrev pub text_of : FaultKind → List ℕ
text_of NoFile = codes "no such file"
text_of NoInclude = codes "no such include"
text_of IncludeDepth = codes "includes too deep"
text_of OpenIf = codes "open #if"
text_of StrayElse = codes "stray directive"
text_of BadDirective = codes "bad directive"
text_of MacroArgs = codes "wrong macro arguments"
text_of MacroDepth = codes "macros too deep"
text_of TooManyTokens = codes "too many tokens"
text_of UserError = codes "#error"
text_of Lex = codes "bad token"
text_of Unexpected = codes "unexpected token"
text_of TooNested = codes "nested too deep"
text_of UnknownName = codes "unknown name"
text_of UnknownFunction = codes "unknown function"
text_of WrongCount = codes "wrong number of arguments"
text_of WrongType = codes "wrong type"
text_of MissingType = codes "missing type"
text_of DoubleName = codes "name used twice"
text_of DoubleCase = codes "label used twice"
text_of BadReturn = codes "wrong return"
text_of NomaskOverridden = codes "nomask function overridden"
text_of NoInheritPragma = codes "not inheritable"
text_of AmbiguousSuper = codes "ambiguous parent"
text_of Cycle = codes "inherits itself"
text_of InheritDepth = codes "inherits too deep"
text_of TooManyNames = codes "too many names"
text_of Aborted = codes "load aborted"
