-- What the formatting functions answer. Memory may run out at any time.
use Rattle.std.specs.Prelude.{◌≡◌, ◌<◌, ◌≤◌, ℕ, List, ◌++◌, length, Result, Ok, Err}
use Rattle.std.specs.Bool.{⊤}
use Rattle.lp_format.specs.declared.fault.FormatFault.{FormatFault}
use Rattle.lp_format.specs.declared.fault.FormatFault.TheVariants.{BadFormat, TooFewArgs, BadArg, TooLong, NoMemory}
use Rattle.lp_values.specs.Limits.{max_code_points}

-- the answer is this result
abbrev pub Gives : {A : Type 0} → Result A FormatFault → Result A FormatFault → Type 0
Gives (Ok x) wanted = wanted ≡ Ok x
Gives (Err NoMemory) wanted = ⊤
Gives (Err (BadFormat at)) wanted = wanted ≡ Err (BadFormat at)
Gives (Err TooFewArgs) wanted = wanted ≡ Err TooFewArgs
Gives (Err (BadArg n)) wanted = wanted ≡ Err (BadArg n)
Gives (Err TooLong) wanted = wanted ≡ Err TooLong

-- the text became this one where it has at most 100000 code points, and exactly above that the answer is TooLong
abbrev pub Becomes : Result (Unit {0}) FormatFault → List ℕ → List ℕ → Type 0
Becomes (Ok _) new t = (new ≡ t) × (length t ≤ max_code_points)
Becomes (Err TooLong) new t = max_code_points < length t
Becomes (Err NoMemory) new t = ⊤
Becomes (Err (BadFormat at)) new t = ⊥
Becomes (Err TooFewArgs) new t = ⊥
Becomes (Err (BadArg n)) new t = ⊥

-- a text was appended, likewise
abbrev pub AppendsText : Result (Unit {0}) FormatFault → List ℕ → List ℕ → List ℕ → Type 0
AppendsText answer old new t = Becomes answer new (old ++ t)

-- the answer is this fault
abbrev pub Refuses : Result (Unit {0}) FormatFault → FormatFault → Type 0
Refuses (Ok _) fault = ⊥
Refuses (Err NoMemory) fault = ⊤
Refuses (Err (BadFormat at)) fault = fault ≡ BadFormat at
Refuses (Err TooFewArgs) fault = fault ≡ TooFewArgs
Refuses (Err (BadArg n)) fault = fault ≡ BadArg n
Refuses (Err TooLong) fault = fault ≡ TooLong

-- a text was appended where there is one, and else the answer is the fault
abbrev pub Appends : Result (Unit {0}) FormatFault → List ℕ → List ℕ → Result (List ℕ) FormatFault → Type 0
Appends answer old new (Ok t) = AppendsText answer old new t
Appends answer old new (Err fault) = Refuses answer fault
