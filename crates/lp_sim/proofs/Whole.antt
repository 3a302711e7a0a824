-- Whole runs, for every list of calls that fits.
use Rattle.std.proofs.Common.{◌≡◌, List, [], ◌∷◌, sym, ap, ◌∙◌, subst}
use Rattle.lp_values.specs.declared.value.Value.{Value}
use Rattle.lp_language.specs.Course.{Scene, End, CanAnswer, Course, Over, Asks, Entry, Fits}
use Rattle.lp_language.specs.Exec.{body_of, initialisers_of}
use Rattle.lp_instr.specs.Code.{Code}
use Rattle.lp_isa.specs.Machine.{Next, Ended, Awaits, goes}
use Rattle.lp_isa.specs.Runs.{Comes, there, later, Follows, Runs, Does, ends, goes_on, waits, KeepsTheMeaning, KeepsTheInitialisers, DoesTheMeaning}
use Rattle.lp_sim.proofs.Follow.{comes_to}
use Rattle.lp_sim.proofs.Stmts.{fun_follows, init_follows}

pub runs_fit : (code : Code) (c : Scene) (t : Course Value) (x : Next) (calls : List Entry) (end : End Value) → Follows code c x t (λ e y. y ≡ Ended e) → Fits t calls end → Runs code c x calls end
runs_fit code c (Over e) x [] end r f = comes_to r.1 (r.2 ∙ ap Ended f)
runs_fit code c (Over e) x (q ∷ calls) end r f = absurd f
runs_fit code c (Asks a k) x [] end r f = absurd f
runs_fit code c (Asks a k) x (q ∷ calls) end r f =
    let can : CanAnswer a q.outcome = f.1 in
    (r.0, comes_to r.1 (ap (λ b. Awaits b r.0) f.0), runs_fit code c (k q.outcome) (r.0 q.outcome) calls end (r.2 q.outcome can) f.2)

pub simulates : KeepsTheMeaning
simulates k f code from s calls end makes fits = runs_fit code k.scene (body_of k f s) (goes from [] [] s) calls end (fun_follows code k f from s makes) fits

pub initialises_so : KeepsTheInitialisers
initialises_so k code from s calls end makes fits = runs_fit code k.scene (initialisers_of k s) (goes from [] [] s) calls end (init_follows code k from s makes) fits

before_does : {code : Code} {c : Scene} {x y : Next} {t : Course Value} → Comes code c x y → Does code c y t → Does code c x t
before_does there d = d
before_does (later p) d = goes_on (before_does p d)

pub follows_does : (code : Code) (c : Scene) (t : Course Value) (x : Next) → Follows code c x t (λ e y. y ≡ Ended e) → Does code c x t
follows_does code c (Over e) x r = before_does r.1 (subst (λ y. Does code c y (Over e)) (sym r.2) ends)
follows_does code c (Asks a k) x r = before_does r.1 (waits (λ o can. follows_does code c (k o) (r.0 o) (r.2 o can)))

pub does_so : DoesTheMeaning
does_so k f code from s makes = follows_does code k.scene (body_of k f s) (goes from [] [] s) (fun_follows code k f from s makes)
