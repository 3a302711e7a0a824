use Rattle.lp_actions.specs.Actions.{sentences_without}
use Rattle.lp_places.specs.Places.{places_without, shadows_without}
use Rattle.lp_residence.proofs.ending.leave.Goals as goal

pub drop_unreached-requires : goal.drop_unreached-requires
drop_unreached-requires c = record {
  lyings = places_without c.requires.lyings c.args.ob;
  shadowings = shadows_without c.requires.shadowings c.args.ob;
  stands = c.take_out.ensures c.requires.lyings c.requires.shadowings c.requires.stands;
}

pub returns-clause-actions : goal.returns-clause-actions
returns-clause-actions c = λ ps ss acts st l.
    c.drop_unreached.ensures.kept (places_without ps c.args.ob) (shadows_without ss c.args.ob) (sentences_without acts c.args.ob) (c.take_out.ensures ps ss st) (c.drop_of.ensures.dropped acts l)
