use Rattle.std.proofs.Common.{◌∙◌, sym, ap}
use Rattle.std.specs.Prelude.{is_none, bytes_eq, ◌++◌, ◌∷◌, []}
use Rattle.std.specs.Map.{lookup}
use Rattle.std.specs.Result.{result_err}
use Rattle.std.proofs.lemmas.Result.{err_from_is_err_and}
use Rattle.rdma_types.specs.declared.answers.Refusal.TheVariants.{NoSuch}
use Rattle.context_core.specs.declared.state.EndSlot.{EndSlot}
use Rattle.context_core.specs.Faults.{told_as}
use Rattle.context_core.specs.NewEnds.{lacks_parts}
use Rattle.context_core.proofs.CreatedEnds.{not-there}
use Rattle.context_core.proofs.FirstCause.{first-holds, first-passed}
use Rattle.context_core.proofs.new_ends.make.Goals as goal

pub returns-in_default-clause-refused : goal.returns-in_default-clause-refused
returns-in_default-clause-refused c = λ few. ap told_as c.into.ensures ∙ sym (first-holds NoSuch (lacks_parts c.args.domains.now.keys c.args.queues.now.entries c.args.new.now) _ (sym (c.parts_of.ensures.found few) ∙ ap is_none c.in_default.is))

pub returns-in_err-number-clause-refused : goal.returns-in_err-number-clause-refused
returns-in_err-number-clause-refused c = λ few.
    let p = err_from_is_err_and c.from_residual.result c.from_residual.ensures.1 in
    rw (p.1, p.2) (ap result_err (sym c.in_err-number.was) ∙ (c.number_for.ensures.refused ∙ sym (first-passed NoSuch (lacks_parts c.args.domains.now.keys c.args.queues.now.entries c.args.new.now) _ (sym (c.parts_of.ensures.found few) ∙ ap is_none c.in-Some.is))))

pub returns-in_err-reserve-clause-refused : goal.returns-in_err-reserve-clause-refused
returns-in_err-reserve-clause-refused c = λ few.
    let p = err_from_is_err_and c.from_residual-in_err-reserve.result c.from_residual-in_err-reserve.ensures.1 in
    rw (p.1, p.2) (ap result_err (sym c.in_ok-number.was) ∙ (c.number_for.ensures.refused ∙ sym (first-passed NoSuch (lacks_parts c.args.domains.now.keys c.args.queues.now.entries c.args.new.now) _ (sym (c.parts_of.ensures.found few) ∙ ap is_none c.in-Some.is))))

pub returns-in_err-endpoint-clause-refused : goal.returns-in_err-endpoint-clause-refused
returns-in_err-endpoint-clause-refused c = λ few.
    let p = err_from_is_err_and c.from_residual-in_err-endpoint.result c.from_residual-in_err-endpoint.ensures.1 in
    rw (p.1, p.2) (ap result_err (sym c.in_ok-number.was) ∙ (c.number_for.ensures.refused ∙ sym (first-passed NoSuch (lacks_parts c.args.domains.now.keys c.args.queues.now.entries c.args.new.now) _ (sym (c.parts_of.ensures.found few) ∙ ap is_none c.in-Some.is))))

pub returns-clause-refused : goal.returns-clause-refused
returns-clause-refused c = λ few. ap result_err (sym c.in_ok-number.was) ∙ (c.number_for.ensures.refused ∙ sym (first-passed NoSuch (lacks_parts c.args.domains.now.keys c.args.queues.now.entries c.args.new.now) _ (sym (c.parts_of.ensures.found few) ∙ ap is_none c.in-Some.is)))

pub append-requires-clause-absent : goal.append-requires-clause-absent
append-requires-clause-absent c = ap (lookup (bytes_eq c.args.new.now.name)) c.reserve.ensures.entries ∙ not-there c.args.new.now.name c.args.ends.now.entries c.in_ok-number.ensures.absent

pub returns-clause-made : goal.returns-clause-made
returns-clause-made c =
    let slot : EndSlot = record { send = c.in-Some.parts.send; recv = c.in-Some.parts.recv; endpoint = c.in_ok-endpoint.endpoint } in
    record {
      parts = c.in-Some.parts;
      found = c.in-Some.ensures.parts;
      number = c.in_ok-number.number;
      given = c.in_ok-number.ensures.number;
      absent = c.in_ok-number.ensures.absent;
      entries = c.append.ensures ∙ (ap (λ es. es ++ (c.args.new.now.name, slot) ∷ []) c.reserve.ensures.entries ∙ ap (λ e. c.args.ends.now.entries ++ (c.args.new.now.name, record { send = c.in-Some.parts.send; recv = c.in-Some.parts.recv; endpoint = e }) ∷ []) c.in_ok-endpoint.ensures);
    }
