use Rattle.std.proofs.Common.{◌≡◌, ◌∙◌, subst, sym, take}
use Rattle.std.proofs.lemmas.Result.{IfOk-weaker}
use Rattle.std.specs.Str.{chars}
use Rattle.lp_values.specs.declared.error.ErrorKind.TheVariants.{BadTarget}
use Rattle.lp_values.specs.Errors.{plain}
use Rattle.lp_instr.specs.declared.efun.Efun.TheVariants as efuns
use Rattle.lp_efuns.specs.declared.answer.Answer.TheVariants as answers
use Rattle.lp_calling.specs.declared.job.Begun.TheVariants as begun
use Rattle.lp_calling.specs.Beginning.{Starts}
use Rattle.lp_calling.proofs.Loading.{no_load_starts}
use Rattle.lp_calling.proofs.load.load_unnamed.Goals as goal

pub returns-then-is_clone_name-clause-starts : goal.returns-then-is_clone_name-clause-starts
returns-then-is_clone_name-clause-starts c =
    IfOk-weaker c.begin_error.result (λ r. (r ≡ begun.Ends (answers.Error (plain BadTarget))) × (c.begin_error.new.stack.items ≡ take c.args.low c.args.stack.now.items)) _
    (λ r k. λ caller. subst (λ r. Starts r efuns.LoadObject caller c.args.live.now c.args.low c.args.stack.now.items c.begin_error.new.stack.items) (sym k.0)
    (no_load_starts caller c.args.live.now c.args.low c.args.stack.now.items c.begin_error.new.stack.items (chars c.args.name.now) k.1 c.requires.means c.requires.unnamed (sym c.is_clone_name.ensures ∙ c.if-is_clone_name.true))) c.begin_error.ensures.ends

pub load_named-requires-clause-other : goal.load_named-requires-clause-other
load_named-requires-clause-other c = sym c.is_clone_name.ensures ∙ c.if-is_clone_name.false
