use Rattle.lp_records.proofs.uncaught.error_record.Goals as goal

pub returns-in-Ok-record_in-clause-record : goal.returns-in-Ok-record_in-clause-record
returns-in-Ok-record_in-clause-record g c = λ t programs w x h i.
    c.in-Ok-record_in.ensures (g.W.SwapFile.content c.bring_place.new.swap) programs w x (c.bring_place.ensures.stands t programs w h) i
