use Rattle.std.proofs.Common.{◌≡◌, sym, ap, ◌∙◌}
use Rattle.std.specs.Option.{option_copied_mut}
use Rattle.std.specs.Prelude.{is_some}
use Rattle.std.proofs.lemmas.Result.{IfErr-at_err, err_from_is_err_and}
use Rattle.indexmap.specs.IndexMap.{set_value_at}
use Rattle.context_core.specs.Faults.{told_as}
use Rattle.context_core.proofs.PolledEntries.{poll-absent, poll-there, set-same}
use Rattle.context_core.proofs.queues.poll.Goals as goal

pub returns-in_default-clause-refused : goal.returns-in_default-clause-refused
returns-in_default-clause-refused c = λ k e. ap told_as c.into.ensures ∙ poll-absent k c.args.queues.now.entries c.args.name e (sym c.get_index_of.ensures.found ∙ ap is_some c.in_default.is)

pub returns-in_err-entries-clause-refused : goal.returns-in_err-entries-clause-refused
returns-in_err-entries-clause-refused c = λ k e.
    let p = err_from_is_err_and c.from_residual.result c.from_residual.ensures.1 in
    rw (p.1, p.2) (poll-there k c.args.queues.now.entries c.args.name e (sym c.get_index_of.ensures.found ∙ ap is_some c.in-Some.is))

pub returns-in_err-entries-clause-err : goal.returns-in_err-entries-clause-err
returns-in_err-entries-clause-err c =
    let p = err_from_is_err_and c.from_residual.result c.from_residual.ensures.1 in
    let same = IfErr-at_err (λ u. c.polled.new.queue ≡ c.unwrap-queue.result.now) c.in_err-entries.was c.polled.ensures.err in
    rw (p.1) (ap (λ q. set_value_at c.args.queues.now.entries c.in-Some.place q) same ∙ set-same c.args.queues.now.entries c.in-Some.place c.unwrap-queue.result.now (sym c.get_index_mut.ensures.value ∙ ap option_copied_mut c.unwrap-queue.ensures))

pub returns-clause-refused : goal.returns-clause-refused
returns-clause-refused c = λ k e. poll-there k c.args.queues.now.entries c.args.name e (sym c.get_index_of.ensures.found ∙ ap is_some c.in-Some.is)
