use Rattle.std.proofs.Common.{ap, refl, sym}
use Rattle.std.specs.Str.{chars}
use Rattle.lp_language.specs.Course.{State}
use Rattle.lp_meaning.specs.WorldSteps as steps
use Rattle.lp_world.specs.Additions.{new_object}
use Rattle.lp_world.specs.Closed.{variables_in}
use Rattle.lp_world.specs.Rows.{row_at}
use Rattle.lp_world.specs.declared.live.Live.{Live}
use Rattle.lp_making.specs.Objects.{zeros}
use Rattle.std.specs.Prelude.{Some}
use Rattle.lp_beginning.specs.Beginning.{IsRefusedFor}
use Rattle.lp_beginning.specs.declared.job.Making.{Making}
use Rattle.lp_beginning.proofs.Made.{fits_with, made_course, new_home, others_home, parts_made, refused_so, same_home}
use Rattle.std.proofs.Common.{subst}
use Rattle.lp_beginning.proofs.begin.make.Goals as goal

pub returns-in-Ok-clause-made : goal.returns-in-Ok-clause-made
returns-in-Ok-clause-made c = λ g by turn budget s f e.
    let e0 = c.in-Ok.ensures in
    let name = chars c.args.name.now in
    let x = fits_with g c.args.live.now c.new_object.new.live turn budget s name c.args.version (zeros (variables_in (row_at c.args.live.now.versions c.args.version.0))) e0.after e0.stands f in
    let t : State = record s { world = steps.with_new_object s.world name c.args.version } in
    let job : Making = record { kind = c.args.kind; object = c.in-Ok.object; parts = c.args.parts; done = 0 } in (
      t,
      x.0,
      made_course g.told g.programs c.args.live.now c.args.kind c.in-Ok.object c.args.parts.items by s name c.args.version f.world.stands e0.serial e x.1,
      parts_made g.told g.programs c.args.live.now s.world name c.args.version job f.world.stands e0.serial e refl,
    )

pub returns-in-Ok-clause-home : goal.returns-in-Ok-clause-home
returns-in-Ok-clause-home c =
    new_home c.args.live.now c.new_object.new.live.objects c.in-Ok.object c.args.version (zeros (variables_in (row_at c.args.live.now.versions c.args.version.0))) (ap (λ (l : Live). l.objects) c.in-Ok.ensures.after) c.in-Ok.ensures.serial

pub returns-in-Ok-clause-variables : goal.returns-in-Ok-clause-variables
returns-in-Ok-clause-variables c =
    others_home c.args.live.now.objects c.new_object.new.live.objects (Some (new_object c.args.version c.args.live.now.clock (zeros (variables_in (row_at c.args.live.now.versions c.args.version.0))))) (ap (λ (l : Live). l.objects) c.in-Ok.ensures.after)

pub returns-in-Err-clause-refused : goal.returns-in-Err-clause-refused
returns-in-Err-clause-refused c = λ told.
    subst (IsRefusedFor told c.args.live.now (chars c.args.name.now)) (sym c.refusal_of.ensures.is) (refused_so told c.args.live.now c.new_object.new.live (chars c.args.name.now) c.in-Err.e c.in-Err.ensures.refused)

pub returns-in-Err-clause-still : goal.returns-in-Err-clause-still
returns-in-Err-clause-still c = λ told programs w h. (c.in-Err.ensures.refused told programs w h).0

pub returns-in-Err-clause-variables : goal.returns-in-Err-clause-variables
returns-in-Err-clause-variables c = same_home c.args.live.now.objects c.new_object.new.live.objects (ap (λ (l : Live). l.objects) c.in-Err.ensures.same)
