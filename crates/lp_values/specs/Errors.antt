-- The errors of running functions, and what is told of them.
use Rattle.std.specs.Prelude.{ℕ, List, [], ◌∷◌, ◌++◌, ◌-◌, take, length, slice_index, nat_eq, if◌then◌else◌, codes}
use Rattle.std.specs.Fmt.{decimal}
use Rattle.lp_values.specs.declared.error.RunError.{RunError}
use Rattle.lp_values.specs.declared.error.ErrorKind.{ErrorKind}
use Rattle.lp_values.specs.declared.error.ErrorKind.TheVariants.{BadOperands, Overflow, ZeroDivisor, BadIndex, TooLong, TextTooLong, BadArg, BadFormat, TooFewArgs, BadTarget, NoClone, NoFunction, TooMany, WouldContainItself, IsShadow, TooDeep, TooNested, CouldNotLoad, BadSave, Raised}

-- the words with which the text of an error begins
abbrev pub words_of : ErrorKind → List ℕ
words_of BadOperands = codes "Bad operands"
words_of Overflow = codes "Overflow"
words_of ZeroDivisor = codes "Division by zero"
words_of BadIndex = codes "Illegal index"
words_of TooLong = codes "Array too long"
words_of TextTooLong = codes "Text too long"
words_of BadArg = codes "Bad argument "
words_of BadFormat = codes "Bad format"
words_of TooFewArgs = codes "Too few arguments"
words_of BadTarget = codes "Bad target"
words_of NoClone = codes "Not clonable"
words_of NoFunction = codes "No such function"
words_of TooMany = codes "Too many"
words_of WouldContainItself = codes "Would contain itself"
words_of IsShadow = codes "Shadow cannot move"
words_of TooDeep = codes "Too deep recursion"
words_of TooNested = codes "Too deep nesting"
words_of CouldNotLoad = codes "Could not load "
words_of BadSave = codes "Illegal save text in "
words_of Raised = []

-- without the newline that a text may end in
abbrev pub without_newline : List ℕ → List ℕ
without_newline cs = if nat_eq (slice_index cs (length cs - 1)) 10 then take (length cs - 1) cs else cs

-- the text of an error: its first 1000 code points, with one newline at the end
unfoldable pub error_text : List ℕ → List ℕ
error_text cs = without_newline (take 1000 cs) ++ 10 ∷ []

-- an error whose text is its kind's words and then what is given
abbrev pub error : ErrorKind → List ℕ → RunError
error k rest = record { kind = k; text = error_text (words_of k ++ rest) }

-- an error whose text is its kind's words alone
abbrev pub plain : ErrorKind → RunError
plain k = error k []

-- `Bad argument N to NAME`
abbrev pub bad_arg : ℕ → List ℕ → RunError
bad_arg n efun = error BadArg (decimal n ++ codes " to " ++ efun)

-- `Illegal save text in FILE line N`
abbrev pub bad_save : List ℕ → ℕ → RunError
bad_save file n = error BadSave (file ++ codes " line " ++ decimal n)
