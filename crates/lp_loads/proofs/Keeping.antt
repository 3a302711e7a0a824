-- One more load that ended.
use Rattle.std.proofs.Common.{◌≡◌, ◌∙◌, ℕ, List, ◌∷◌, Bool, true, false, Option, Some, refl, ap, sym, if◌then◌else◌, cond}
use Rattle.std.specs.Prelude.{bytes_eq}
use Rattle.std.specs.Option.{option_map}
use Rattle.std.proofs.lemmas.Slice.Eq.{bytes_eq-Decides}
use Rattle.lp_loads.specs.declared.known.Ended.{Ended}
use Rattle.lp_loads.specs.Known.{load_as, HasVersionInside, IsInside}
use Rattle.lp_loads.specs.Loads.{Loaded, load_of}

same_by : (b : Bool) (file q : List ℕ) (e : Ended) (ls : Loaded) (new old : Option Ended) → (b ≡ true → file ≡ q) → new ≡ cond b (Some e) old → option_map (load_as q) old ≡ load_of ls q
    → option_map (load_as q) new ≡ (if b then Some (load_as file e) else load_of ls q)
same_by true file q e ls new old d n o = ap (option_map (load_as q)) n ∙ ap (λ f. Some (load_as f e)) (sym (d refl))
same_by false file q e ls new old d n o = ap (option_map (load_as q)) n ∙ o

pub same_with : (file q : List ℕ) (e : Ended) (ls : Loaded) (new old : Option Ended) → new ≡ cond (bytes_eq file q) (Some e) old → option_map (load_as q) old ≡ load_of ls q
    → option_map (load_as q) new ≡ load_of (load_as file e ∷ ls) q
same_with file q e ls new old n o = same_by (bytes_eq file q) file q e ls new old (bytes_eq-Decides file q).0 n o

inside_by : (b : Bool) (file q : List ℕ) (e : Ended) (ls : Loaded) → HasVersionInside e.version → IsInside (load_of ls q) → IsInside (if b then Some (load_as file e) else load_of ls q)
inside_by true file q e ls h k = h
inside_by false file q e ls h k = k

pub inside_with : (file q : List ℕ) (e : Ended) (ls : Loaded) → HasVersionInside e.version → IsInside (load_of ls q) → IsInside (load_of (load_as file e ∷ ls) q)
inside_with file q e ls h k = inside_by (bytes_eq file q) file q e ls h k
