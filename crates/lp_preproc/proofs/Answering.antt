-- What the outcome of an expansion says of the answer.
use Rattle.std.proofs.Common.{◌≡◌, ℕ, List, Ok, Err, refl, sym, ap, ◌∙◌, subst}
use Rattle.std.specs.Prelude.{map}
use Rattle.lp_tree.specs.declared.fault.FaultKind.{FaultKind}
use Rattle.lp_tree.specs.declared.pragma.Pragmas.{Pragmas}
use Rattle.lp_tree.specs.declared.token.Token.{Token}
use Rattle.lp_preproc.specs.declared.fault.PreFault.{PreFault}
use Rattle.lp_preproc.specs.declared.fault.PreFault.TheVariants as pre
use Rattle.lp_preproc.specs.declared.stop.Stop.{Stop}
use Rattle.lp_preproc.specs.declared.stop.Stop.TheVariants.{NoMemory, At}
use Rattle.lp_preproc.specs.declared.word.Word.{Word}
use Rattle.lp_preproc.specs.State.{Setting, State, Next}
use Rattle.lp_preproc.specs.Expansion.{Outcome, Whole, Faulty, LeadsTo, IsExpansion, IsFault, IsFaultUnlessMemory, IsFirstFault, came_out, came_out_of, opening}
use Rattle.lp_preproc.specs.Steps.{Expanding, IsFaultOf}

abbrev pub OneOutcome : Type 0
OneOutcome = (c : Setting) (n : Next) (o p : Outcome) → LeadsTo c n o → LeadsTo c n p → o ≡ p

same_whole : (s t : State) → Whole s ≡ Whole t → s ≡ t
same_whole s t e = cc

apart : (s : State) (kind : FaultKind) (line : ℕ) → Whole s ≡ Faulty kind line → ⊥
apart s kind line e = cc

same_kind : (k l : FaultKind) (m n : ℕ) → Faulty k m ≡ Faulty l n → k ≡ l
same_kind k l m n e = cc

same_line : (k l : FaultKind) (m n : ℕ) → Faulty k m ≡ Faulty l n → m ≡ n
same_line k l m n e = cc

-- ---- tokens came out

pub found : (c : Setting) (ws : List Word) (ps : Pragmas) (ts : List Token) → Expanding c (opening c) (Ok (ws, ps)) → ts ≡ map came_out ws → IsExpansion c ts ps
found c ws ps ts g e = (g.0, g.1, ap (map came_out) g.2 ∙ sym e, g.3)

pub only : OneOutcome → (c : Setting) (ws : List Word) (ps : Pragmas) (ts : List Token) → Expanding c (opening c) (Ok (ws, ps)) → ts ≡ map came_out ws
    → (us : List Token) (q : Pragmas) → IsExpansion c us q → (ts ≡ us) × (ps ≡ q)
only one c ws ps ts g e us q h =
    let same = same_whole g.0 h.0 (one c (opening c) (Whole g.0) (Whole h.0) g.1 h.1) in
    (e ∙ ap (map came_out) (sym g.2) ∙ ap (λ (s : State). came_out_of s.out) same ∙ h.2, sym g.3 ∙ ap (λ (s : State). s.pragmas) same ∙ h.3)

pub no_fault : OneOutcome → (c : Setting) (ws : List Word) (ps : Pragmas) → Expanding c (opening c) (Ok (ws, ps)) → (kind : FaultKind) (line : ℕ) → IsFirstFault c kind line → ⊥
no_fault one c ws ps g kind line h = apart g.0 kind line (one c (opening c) (Whole g.0) (Faulty kind line) g.1 h)

-- ---- or the first fault

pub fault : (c : Setting) (x : Stop) (f : PreFault) → Expanding c (opening c) (Err x) → IsFaultOf c.path x f → IsFault c f
fault c x pre.NoMemory g h = tt
fault c NoMemory (pre.At f) g h = absurd h
fault c (At kind line) (pre.At f) g h = (h.0, subst (λ k. LeadsTo c (opening c) (Faulty k f.line)) (sym h.1) (subst (λ l. LeadsTo c (opening c) (Faulty kind l)) (sym h.2) g))

pub no_tokens : OneOutcome → (c : Setting) (x : Stop) (f : PreFault) → Expanding c (opening c) (Err x) → IsFaultOf c.path x f
    → (us : List Token) (q : Pragmas) → IsExpansion c us q → f ≡ pre.NoMemory
no_tokens one c x pre.NoMemory g h us q e = refl
no_tokens one c NoMemory (pre.At f) g h us q e = absurd h
no_tokens one c (At kind line) (pre.At f) g h us q e = absurd (apart e.0 kind line (one c (opening c) (Whole e.0) (Faulty kind line) e.1 g))

pub only_fault : OneOutcome → (c : Setting) (x : Stop) (f : PreFault) → Expanding c (opening c) (Err x) → IsFaultOf c.path x f
    → (kind : FaultKind) (line : ℕ) → IsFirstFault c kind line → IsFaultUnlessMemory c kind line (Err f)
only_fault one c x pre.NoMemory g h kind line e = tt
only_fault one c NoMemory (pre.At f) g h kind line e = absurd h
only_fault one c (At k l) (pre.At f) g h kind line e =
    let same = one c (opening c) (Faulty k l) (Faulty kind line) g e in
    (h.0, h.1 ∙ same_kind k kind l line same, h.2 ∙ same_line k kind l line same)
