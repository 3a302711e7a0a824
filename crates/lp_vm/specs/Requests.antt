-- What a running function asks, as a question of the meaning.
use Rattle.std.specs.Prelude.{◌≡◌, List, Option, Some, IfSome, IsSome, reverse, slice_get}
use Rattle.std.specs.Option.{option_map}
use Rattle.lp_code.specs.declared.program.RawProgram.{RawProgram}
use Rattle.lp_instr.specs.declared.efun.Efun.{Efun}
use Rattle.lp_swapfile.specs.Device.{Bytes}
use Rattle.lp_language.specs.Course.{Ask, OfEfun, Scene}
use Rattle.lp_world.specs.declared.frame.Frame.{Frame}
use Rattle.lp_world.specs.declared.live.Live.{Live}
use Rattle.lp_world.specs.Rows.{row_at}
use Rattle.lp_targets.specs.Callees.{IsWorldOf}
use Rattle.lp_asking.specs.declared.asker.Asker.{Asker}
use Rattle.lp_asking.specs.declared.ending.Place.{Place}
use Rattle.lp_reaching.specs.Reaching.{IsInMemory, ReachesIf}
use Rattle.lp_vm.specs.declared.request.Request.{Request}
use Rattle.lp_vm.specs.declared.request.Request.TheVariants as requests

-- where the function of a frame stands
abbrev pub place_in : Frame → Place
place_in f = record { this = f.this; program = f.program; fun = f.fun }

-- A function runs at a place: in its object, in the text of that version, whose program has its name in that row.
pub record RunsAt (programs : List RawProgram) (at : Place) (c : Scene) : Type 0 where
  pub this : c.this ≡ at.this
  pub version : c.version ≡ at.program
  pub raw : RawProgram
  pub is : slice_get programs at.program.0 ≡ Some raw
  pub function : option_map (λ f. f.name) (slice_get raw.funs at.fun) ≡ Some c.function

-- The function at a place calls an efun. What was handed down to the function is what who asks has.
pub record AsksEfun (programs : List RawProgram) (asker : Asker) (at : Place) (e : Efun) (a : Ask) : Type 0 where
  pub scene : Scene
  pub scene_is : a.scene ≡ Some scene
  pub runs : RunsAt programs at scene
  pub interactive : scene.interactive ≡ asker.interactive
  pub callers : scene.callers ≡ reverse asker.callers.items
  pub what : a.what ≡ OfEfun e

-- A question is this request, and the state stands for its world.
abbrev pub IsRequest : Request → Option Bytes → List RawProgram → Live → Asker → Ask → Type 0
IsRequest (requests.Function found) told programs live asker a = ReachesIf told programs live asker a found
IsRequest (requests.Efun at e) told programs live asker a = AsksEfun programs asker at e a × IsWorldOf told programs live a.world

-- the object and the program of a function that was found are in memory; the object in which an efun is called has its row
abbrev pub IsRequestThere : Live → Request → Type 0
IsRequestThere live (requests.Function found) = IfSome found (λ x. IsInMemory live x.callee x.code)
IsRequestThere live (requests.Efun at e) = IsSome (row_at live.objects at.this.0)
