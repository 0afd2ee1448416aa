-- A queue pair is made with the next number, and its place is noted.
use Rattle.std.proofs.Common.{◌≡◌, ◌∙◌, sym, ap, refl, subst, Some, length}
use Rattle.std.specs.Prelude.{IfSome, is_none, is_ok, is_some, nat_eq, nat_le}
use Rattle.std.specs.Str.{bytes_eq}
use Rattle.std.specs.Map.{lookup}
use Rattle.rdma_types.specs.Limits.{most_numbers}
use Rattle.protocol.specs.DeviceStep.{number_of}
use Rattle.protocol.specs.Refusals.{has_context, qp_causes}
use Rattle.context_core.specs.Context.{context_in}
use Rattle.device_core.specs.Done.{plain, qp_event, told_by}
use Rattle.device_core.specs.Index.{noted, spot}
use Rattle.device_core.specs.Held.{IsHeld}
use Rattle.device_core.specs.Parts.{device_of}
use Rattle.device_core.proofs.Contexts.{found-there}
use Rattle.device_core.proofs.Dones.{step-refused, within-lives}
use Rattle.device_core.proofs.Helds.{is-context, moves-plainly}
use Rattle.device_core.proofs.Lookups.{some-mut}
use Rattle.device_core.proofs.MadeEnds.{Noted, qp-made}
use Rattle.device_core.proofs.Stepping.{Stepped, done-at, found-mut}
use Rattle.device_core.proofs.device.Device.make_qp.Goals as goal

pub returns-in-Some : goal.returns-in-Some
returns-in-Some c = (step-refused c.args.self.now (qp_event c.args.context c.args.asked.now) c.in-Some.refusal (sym c.qp_refusal.ensures ∙ c.in-Some.is), refl)

pub unwrap-state-requires : goal.unwrap-state-requires
unwrap-state-requires c =
    let asked = c.args.asked.now in
    let lives = within-lives c.args.self.now c.args.context (λ k. qp_causes c.args.self.now k asked.name asked.domain asked.send_cq asked.recv_cq) (sym c.qp_refusal.ensures ∙ c.in_default.is) in
    some-mut c.get_mut.result (ap is_some c.get_mut.ensures.value ∙ (found-there c.self.inside.pool c.args.context c.self.inside.contexts.entries ∙ (ap (λ k. has_context k c.args.context) c.self.view_is ∙ lives)))

pub invariant_of-self : goal.invariant_of-self
invariant_of-self c =
    let x = c.self.inside in
    subst (λ es. IsHeld x.pool x.contexts.entries (λ k. lookup (nat_eq k) es) (device_of x.id x.address x.qp_count x.key_count x.pool x.contexts.entries x.husks.entries)) (sym c.reserve.ensures.entries) c.self.invariant

pub invariant_of-self-2 : goal.invariant_of-self-2
invariant_of-self-2 c =
    let x = c.self.inside in
    subst (λ es. IsHeld x.pool x.contexts.entries (λ k. lookup (nat_eq k) es) (device_of x.id x.address x.qp_count x.key_count x.pool x.contexts.entries x.husks.entries)) (sym c.reserve.ensures.entries) c.self.invariant

-- the queue pair is made where its context lives, and then its number is used and noted
made_here : (c : goal.After-told) → let x = c.self.inside in let es' = (c.get_mut.follows.lender c.make_qp-made.new.self).entries in
    Stepped (device_of x.id x.address x.qp_count x.key_count x.pool x.contexts.entries x.husks.entries) (qp_event c.args.context c.args.asked.now) x.pool es' (λ k. lookup (nat_eq k) c.note_end.new.index.entries) (device_of x.id x.address c.counted-self-inside.result x.key_count x.pool es' x.husks.entries) c.told.result
made_here c =
    let x = c.self.inside in
    let n = c.args.context in
    let s = c.unwrap-state.result.now in
    let s' = c.make_qp-made.new.self in
    let e = c.make_qp-made.ensures in
    let d = device_of x.id x.address x.qp_count x.key_count x.pool x.contexts.entries x.husks.entries in
    let found : lookup (bytes_eq n) x.contexts.entries ≡ Some s = found-mut c.get_mut.result c.unwrap-state.result (lookup (bytes_eq n) x.contexts.entries) c.unwrap-state.ensures c.get_mut.ensures.value in
    let is = is-context x.id x.address x.qp_count x.key_count x.pool x.contexts.entries x.husks.entries _ c.self.invariant n s found in
    let all : is_none c.next_number-number.result ≡ nat_le most_numbers x.qp_count = c.next_number-number.ensures.all in
    let next : IfSome c.next_number-number.result (λ k. k ≡ number_of d) = c.next_number-number.ensures.next in
    let place : c.end_count-place.result ≡ length (context_in x.pool n s).ends = c.end_count-place.ensures x.pool n in
    let notes : Noted (λ k. lookup (nat_eq k) x.index.entries) (λ k. lookup (nat_eq k) c.note_end.new.index.entries) (is_ok c.make_qp-made.result) c.next_number-number.result n (length (context_in x.pool n s).ends) = record { said = λ k. c.note_end.ensures k ∙ (λ i. noted (is_ok c.make_qp-made.result) c.next_number-number.result (spot n (place i)) k (lookup (nat_eq k) (c.reserve.ensures.entries i))) } in
    qp-made x.id x.address x.qp_count x.key_count x.pool x.contexts.entries x.husks.entries (λ k. lookup (nat_eq k) x.index.entries) c.self.invariant n s found s' (moves-plainly x.pool s s' e.lists (λ m. e.pages x.pool m is)) (e.is x.pool is) (c.get_mut.follows.lender s').entries (c.get_mut.follows.holds s').0
    (λ k. lookup (nat_eq k) c.note_end.new.index.entries) c.counted-self-inside.result c.args.asked.now c.make_qp-made.result c.next_number-number.result c.told.result
    (c.told.ensures ∙ (λ i. told_by (λ y. plain (c.told_number.ensures i)) c.make_qp-made.result)) (e.refused x.pool n d is (sym all)) all next c.counted-self-inside.ensures notes (λ k some. e.made x.pool n k is some) e.err c.requires c.as_bytes-spelled.ensures.spelled

pub invariant_of-self-3 : goal.invariant_of-self-3
invariant_of-self-3 c = (made_here c).held c.requires c.as_bytes-spelled.ensures.spelled

pub returns : goal.returns
returns c = done-at c.self.view_is (made_here c)
