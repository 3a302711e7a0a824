use Rattle.lp_loading.specs.declared.job.Going.TheVariants as goings
use Rattle.lp_loading.proofs.FilesRead.{asks_parent, goes_over}
use Rattle.lp_loading.proofs.SeenNames.{if_ok}
use Rattle.lp_loading.proofs.reading.ask_missing.Goals as goal

pub returns-clause-goes : goal.returns-clause-goes
returns-clause-goes c =
    if_ok c.ask_parent.result _ _
    (λ r f. λ file job loads told0 live0 told1 live1 budget turn h e away shallow.
    goes_over r job goings.Read loads told0 told1 live0 live1 budget turn (λ programs w i. (h.is programs w i).world) h.outputs h.cells (f job loads told0 live0 budget turn (asks_parent file job loads told0 told1 live0 live1 c.args.name h e away shallow)))
    c.ask_parent.ensures.goes
