-- The state before anything was made stands for the first world.
use Rattle.std.proofs.Common.{◌≡◌, ℕ, List, [], Option, None, true, refl, ap, sym, subst, map}
use Rattle.std.proofs.lemmas.List.Elements.{All-nil}
use Rattle.lp_values.specs.declared.id.ProgId.{ProgId}
use Rattle.lp_cells.specs.Cells.{Store}
use Rattle.lp_swapfile.specs.Device.{Bytes}
use Rattle.lp_objects.specs.Stands as table
use Rattle.lp_objects.specs.Stands.{next_clone_in}
use Rattle.lp_places.specs.Stands as lying
use Rattle.lp_actions.specs.Held.{Lists, next_in}
use Rattle.lp_language.specs.World.{File, is_live, new_world}
use Rattle.lp_meaning.specs.IdleAndKept.{IsKept, by_child, by_object}
use Rattle.lp_part_laws.specs.Versions.{AreCompiled}
use Rattle.lp_world.specs.declared.live.Live.{Live}
use Rattle.lp_world.specs.declared.objects.Object.{Object}
use Rattle.lp_world.specs.declared.versions.Version.{Version}
use Rattle.lp_world.specs.Stands.{AreObjects, AreVersions, IsPart, connection_of, waiting_of}
use Rattle.lp_targets.specs.Callees.{IsWorldOf}
use Rattle.lp_first.specs.First.{HasFiles}

-- a state in which nothing was made
pub record IsFirst (live : Live) : Type 0 where
  pub cells : live.cells ≡ []
  pub objects : live.objects ≡ []
  pub versions : live.versions ≡ []
  pub names : table.Stands live.names []
  pub next_clone : next_clone_in live.names ≡ 1
  pub places : lying.Stands live.places [] []
  pub actions : Lists live.actions []
  pub next_sentence : next_in live.actions ≡ 1
  pub timers : live.timers ≡ record { next = 1; call_outs = []; beats = []; watches = [] }
  pub connections : live.connections ≡ record { opened = []; highest = 0; present = []; waiting = [] }
  pub simul : live.simul ≡ None

no_part : (part : Store) → part ≡ [] → IsPart part []
no_part part e = subst (λ p. IsPart p []) (sym e) (record { same = λ c x q. cc; next = refl })

no_objects : (told : Option Bytes) (part : Store) (rows : List (Option Object)) → rows ≡ [] → AreObjects told part [] rows []
no_objects told part rows e = subst (λ xs. AreObjects told part [] xs []) (sym e) (λ n. tt)

no_versions : (told : Option Bytes) (rows : List (Option Version)) → rows ≡ [] → AreVersions told [] rows []
no_versions told rows e = subst (λ xs. AreVersions told [] xs []) (sym e) (record { each = λ n v q. cc; next = refl; whole = refl })

-- no version is kept where there are no objects and no versions
none_kept : (v : ProgId) → IsKept (new_world [] 0 0) v → ⊥
none_kept _ (by_object n x e l) = cc
none_kept _ (by_child v p k c) = none_kept v k

none_compiled : AreCompiled [] []
none_compiled = record { whole = refl; rising = λ n v e. cc; fit = λ n p e. cc }

pub first_world : (told : Option Bytes) (live : Live) (files : List File) (seed moment : ℕ)
    → IsFirst live → HasFiles live.store files → live.generator ≡ seed → live.clock ≡ moment → IsWorldOf told [] live (new_world files seed moment)
first_world told live files seed moment f h g m = record {
  stands = record {
    cells = no_part live.cells f.cells;
    objects = no_objects told live.cells live.objects f.objects;
    names = f.names;
    versions = no_versions told live.versions f.versions;
    kept = λ v k. absurd (none_kept v k);
    rest = record {
      files = h;
      simul = f.simul;
      places = f.places;
      sentences = f.actions;
      next_sentence = f.next_sentence;
      timing = f.timers;
      connections = ap (λ x. map connection_of x.opened) f.connections;
      highest = ap (λ x. x.highest) f.connections;
      present = ap (λ x. x.present) f.connections;
      waiting = ap (λ x. map waiting_of x.waiting) f.connections;
      clock = m;
      generator = g;
      next_clone = f.next_clone;
    };
  };
  compiled = none_compiled;
  shadows = All-nil (λ s. is_live (new_world files seed moment) s.shadow ≡ true);
}
