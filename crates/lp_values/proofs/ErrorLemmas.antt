-- The fixed words of errors are ASCII.
use Rattle.std.proofs.Common.{◌≡◌, refl}
use Rattle.std.specs.Prelude.{codes}
use Rattle.std.specs.Str.{chars}
use Rattle.lp_values.specs.Errors.{words_of}
use Rattle.lp_values.specs.declared.error.ErrorKind.{ErrorKind}
use Rattle.lp_values.specs.declared.error.ErrorKind.TheVariants.{BadOperands, Overflow, ZeroDivisor, BadIndex, TooLong, TextTooLong, BadArg, BadFormat, TooFewArgs, BadTarget, NoClone, NoFunction, TooMany, WouldContainItself, IsShadow, TooDeep, TooNested, CouldNotLoad, BadSave, Raised}

-- each of the words is its own list of code points
pub chars-words_of : (k : ErrorKind) → chars (words_of k) ≡ words_of k
unfolding chars
chars-words_of BadOperands = refl
chars-words_of Overflow = refl
chars-words_of ZeroDivisor = refl
chars-words_of BadIndex = refl
chars-words_of TooLong = refl
chars-words_of TextTooLong = refl
chars-words_of BadArg = refl
chars-words_of BadFormat = refl
chars-words_of TooFewArgs = refl
chars-words_of BadTarget = refl
chars-words_of NoClone = refl
chars-words_of NoFunction = refl
chars-words_of TooMany = refl
chars-words_of WouldContainItself = refl
chars-words_of IsShadow = refl
chars-words_of TooDeep = refl
chars-words_of TooNested = refl
chars-words_of CouldNotLoad = refl
chars-words_of BadSave = refl
chars-words_of Raised = refl

pub chars-to : chars (codes " to ") ≡ codes " to "
unfolding chars
chars-to = refl

pub chars-line : chars (codes " line ") ≡ codes " line "
unfolding chars
chars-line = refl
