-- A new queue pair is refused by its first cause.
use Rattle.std.proofs.Common.{◌≡◌, ◌∙◌, sym, ap, Some, true}
use Rattle.std.specs.Prelude.{is_some}
use Rattle.std.specs.Str.{bytes_eq}
use Rattle.std.specs.Map.{lookup}
use Rattle.rdma_types.specs.Causes.{first_cause}
use Rattle.protocol.specs.Refusals.{has_context, qp_causes}
use Rattle.protocol.specs.State.{context_at}
use Rattle.context_core.specs.Context.{context_in}
use Rattle.device_core.proofs.Contexts.{found-there, lookup-found}
use Rattle.device_core.proofs.Dones.{within-there}
use Rattle.device_core.proofs.Helds.{is-context}
use Rattle.device_core.proofs.Lookups.{none-ref}
use Rattle.device_core.proofs.Stepping.{found-ref}
use Rattle.device_core.proofs.device.Device.qp_refusal.Goals as goal

pub missing-requires : goal.missing-requires
missing-requires c = ap (λ k. has_context k c.args.context) (sym c.self.view_is) ∙ (sym (found-there c.self.inside.pool c.args.context c.self.inside.contexts.entries) ∙ none-ref c.get.result (lookup (bytes_eq c.args.context) c.self.inside.contexts.entries) c.in-None.is c.get.ensures.value)

pub returns-in-None : goal.returns-in-None
returns-in-None c = sym (c.missing.ensures (λ k. qp_causes c.args.self.now k c.args.asked.now.name c.args.asked.now.domain c.args.asked.now.send_cq c.args.asked.now.recv_cq))

pub returns-in-Some : goal.returns-in-Some
returns-in-Some c =
    let x = c.self.inside in
    let n = c.args.context in
    let s = c.in-Some.state.now in
    let asked = c.args.asked.now in
    let d = c.args.self.now in
    let found : lookup (bytes_eq n) x.contexts.entries ≡ Some s = found-ref c.get.result c.in-Some.state (lookup (bytes_eq n) x.contexts.entries) c.in-Some.is c.get.ensures.value in
    let lives : has_context d n ≡ true = ap (λ k. has_context k n) (sym c.self.view_is) ∙ (sym (found-there x.pool n x.contexts.entries) ∙ ap is_some found) in
    let at : context_at d n ≡ context_in x.pool n s = ap (λ k. context_at k n) (sym c.self.view_is) ∙ lookup-found x.pool n x.contexts.entries s found in
    let is = is-context x.id x.address x.qp_count x.key_count x.pool x.contexts.entries x.husks.entries _ c.self.invariant n s found in
    c.qp_refusal.ensures x.pool n d is (sym c.next_number.ensures.all)
    ∙ (ap (λ k. first_cause (qp_causes d k asked.name asked.domain asked.send_cq asked.recv_cq)) (sym at) ∙ sym (within-there d n (λ k. qp_causes d k asked.name asked.domain asked.send_cq asked.recv_cq) lives))
