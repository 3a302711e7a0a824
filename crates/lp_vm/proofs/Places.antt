-- Where who asks is, while loads put more programs behind those that are there.
use Rattle.std.proofs.Common.{List, Option, Some, None, ap}
use Rattle.lp_code.specs.declared.program.RawProgram.{RawProgram}
use Rattle.lp_language.specs.World.{World, object_at, version_at}
use Rattle.lp_language.specs.Course.{Scene}
use Rattle.lp_language.specs.Resolve.{without_c}
use Rattle.lp_meaning.specs.Askers.{Asker}
use Rattle.lp_meaning.specs.FunctionCalls.{place_of}
use Rattle.lp_asking.specs.declared.ending.Place.{Place}
use Rattle.lp_asking.specs.Endings.{IsPlace, IsPlaceIf}
use Rattle.lp_beginning.specs.Feeding.{IsAskerAt}
use Rattle.lp_vm.specs.Growing.{Grows}
use Rattle.lp_vm.specs.Making.{AsksAt}
use Rattle.lp_vm.specs.Requests.{RunsAt}
use Rattle.lp_vm.proofs.Grown.{still_at}

-- a function runs at its place, ..
pub runs_still : (a b : List RawProgram) (at : Place) (c : Scene) → Grows a b → RunsAt a at c → RunsAt b at c
runs_still a b at c h i = record { this = i.this; version = i.version; raw = i.raw; is = still_at a b at.program.0 i.raw h i.is; function = i.function }

pub asks_still : (a b : List RawProgram) (at : Option Place) (c : Option Scene) → Grows a b → AsksAt a at c → AsksAt b at c
asks_still a b None None h i = tt
asks_still a b None (Some c) h i = absurd i
asks_still a b (Some at) None h i = absurd i
asks_still a b (Some at) (Some c) h i = runs_still a b at c h i

-- .. which is that by names, in whatever world
pub place_by_names : (programs : List RawProgram) (w : World) (at : Place) (c : Scene) → RunsAt programs at c → IsPlace programs w at (place_of w c)
place_by_names programs w at c h =
    record { raw = h.raw; is = h.is; function = h.function; program = ap (λ v. without_c (version_at w v).path) h.version; object = ap (λ o. (object_at w o).name) h.this }

asks_by_names : (programs : List RawProgram) (w : World) (at : Option Place) (s : Option Scene) → AsksAt programs at s → IsPlaceIf programs w at (elim s [ Some c ↦ Some (place_of w c) | None ↦ None ])
asks_by_names programs w None None h = tt
asks_by_names programs w None (Some c) h = absurd h
asks_by_names programs w (Some at) None h = absurd h
asks_by_names programs w (Some at) (Some c) h = place_by_names programs w at c h

pub asker_there : (programs : List RawProgram) (w : World) (at : Option Place) (by : Asker) → AsksAt programs at by.scene → IsAskerAt programs w at by
asker_there programs w at by h = asks_by_names programs w at by.scene h
