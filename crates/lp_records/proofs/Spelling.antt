-- The fixed words of records are ASCII.
use Rattle.std.proofs.Common.{◌≡◌, refl}
use Rattle.std.specs.Prelude.{codes}
use Rattle.std.specs.Str.{chars}

pub chars-thrown : chars (codes "Throw without catch") ≡ codes "Throw without catch"
unfolding chars
chars-thrown = refl

pub chars-spent : chars (codes "Too long evaluation. Execution aborted.") ≡ codes "Too long evaluation. Execution aborted."
unfolding chars
chars-spent = refl

pub chars-error : chars (codes "error: ") ≡ codes "error: "
unfolding chars
chars-error = refl

pub chars-open : chars (codes " [") ≡ codes " ["
unfolding chars
chars-open = refl

pub chars-of : chars (codes " of ") ≡ codes " of "
unfolding chars
chars-of = refl

pub chars-object : chars (codes ", object ") ≡ codes ", object "
unfolding chars
chars-object = refl

pub chars-close : chars (codes "]") ≡ codes "]"
unfolding chars
chars-close = refl

pub chars-notice : chars (codes "Your sensitive mind notices a wrongness in the fabric of space.\n") ≡ codes "Your sensitive mind notices a wrongness in the fabric of space.\n"
unfolding chars
chars-notice = refl
