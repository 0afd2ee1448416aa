use Rattle.std.proofs.Common.{◌≡◌, ◌<◌, ◌≤◌, sym, ap, subst, ◌∙◌, arith, true, false, length}
use Rattle.std.specs.Option.{option_map}
use Rattle.std.specs.Map.{values_of}
use Rattle.std.specs.Map.Iter.{deref_pair}
use Rattle.std.specs.Bool.{then_some}
use Rattle.std.specs.Prelude.{Some, IfSome, nat_le, nat_lt, not, slice_get}
use Rattle.std.proofs.lemmas.Bool.Decides.{nat_tests}
use Rattle.rdma_types.specs.Limits.{most_bytes}
use Rattle.rdma_types.specs.Memory.{LocalWrite, is_granted, local_key}
use Rattle.rdma_types.specs.declared.answers.Refusal.TheVariants.{TooLong, BadKey, RqFull, CqFull}
use Rattle.memory_keys.specs.Regions.{regions_of}
use Rattle.protocol.specs.Refusals.{is_full}
use Rattle.context_core.specs.Queues.{is_full_at}
use Rattle.context_core.proofs.ReceiveRefusals.{last-of-four, place-none, place-some, takes-none, value-at}
use Rattle.context_core.proofs.FirstCause.{first-holds}
use Rattle.context_core.proofs.CauseOrder.{second-holds, third-holds}
use Rattle.context_core.proofs.receives.refusal.Goals as goal

pub returns-then-receive-gt-MOST_BYTES-clause-refused : goal.returns-then-receive-gt-MOST_BYTES-clause-refused
returns-then-receive-gt-MOST_BYTES-clause-refused c = λ pool k e rs d dp us full. sym (first-holds TooLong (nat_lt most_bytes c.args.receive.now.length) _ (grind (arith, nat_tests, c.if-receive-gt-MOST_BYTES.true)))

pub returns-then-is_none-clause-refused : goal.returns-then-is_none-clause-refused
returns-then-is_none-clause-refused c = λ pool k e rs d dp us full.
    let short : nat_lt most_bytes c.args.receive.now.length ≡ false = grind (arith, nat_tests, c.if-receive-gt-MOST_BYTES.false) in
    let none : not (is_granted local_key (regions_of pool c.args.regions.now) c.args.slot.now.endpoint.domain c.args.receive.now.lkey c.args.receive.now.local c.args.receive.now.length LocalWrite) ≡ true = place-none c.args.regions.now c.args.slot.now.endpoint.domain c.args.receive.now.lkey c.args.receive.now.local c.args.receive.now.length LocalWrite c.check_local-place.result c.check_local-place.ensures.granted c.if-is_none.ensures pool in
    sym (second-holds TooLong BadKey _ (not (is_granted local_key k.regions e.domain c.args.receive.now.lkey c.args.receive.now.local c.args.receive.now.length LocalWrite)) _ short (ap (λ r. not (is_granted local_key r e.domain c.args.receive.now.lkey c.args.receive.now.local c.args.receive.now.length LocalWrite)) rs ∙ (ap (λ n. not (is_granted local_key (regions_of pool c.args.regions.now) n c.args.receive.now.lkey c.args.receive.now.local c.args.receive.now.length LocalWrite)) d ∙ none)))

pub returns-then-len-slot-clause-refused : goal.returns-then-len-slot-clause-refused
returns-then-len-slot-clause-refused c = λ pool k e rs d dp us full.
    let short : nat_lt most_bytes c.args.receive.now.length ≡ false = grind (arith, nat_tests, c.if-receive-gt-MOST_BYTES.false) in
    let some : is_granted local_key (regions_of pool c.args.regions.now) c.args.slot.now.endpoint.domain c.args.receive.now.lkey c.args.receive.now.local c.args.receive.now.length LocalWrite ≡ true = place-some c.args.regions.now c.args.slot.now.endpoint.domain c.args.receive.now.lkey c.args.receive.now.local c.args.receive.now.length LocalWrite c.check_local-place.result c.check_local-place.ensures.granted c.if-is_none.ensures pool in
    let key : not (is_granted local_key k.regions e.domain c.args.receive.now.lkey c.args.receive.now.local c.args.receive.now.length LocalWrite) ≡ false = ap (λ r. not (is_granted local_key r e.domain c.args.receive.now.lkey c.args.receive.now.local c.args.receive.now.length LocalWrite)) rs ∙ (ap (λ n. not (is_granted local_key (regions_of pool c.args.regions.now) n c.args.receive.now.lkey c.args.receive.now.local c.args.receive.now.length LocalWrite)) d ∙ ap not some) in
    let at : nat_le c.args.slot.now.endpoint.recv_depth (length c.args.slot.now.endpoint.recvs.items) ≡ true = grind (arith, nat_tests, c.len.ensures.len, c.if-len-slot.true) in
    sym (third-holds TooLong BadKey RqFull _ (not (is_granted local_key k.regions e.domain c.args.receive.now.lkey c.args.receive.now.local c.args.receive.now.length LocalWrite)) (nat_le e.recv_depth (length e.unused)) _ short key (ap (λ n. nat_le n (length e.unused)) dp ∙ (ap (λ u. nat_le c.args.slot.now.endpoint.recv_depth (length u)) us ∙ at)))

pub returns-clause-refused : goal.returns-clause-refused
returns-clause-refused c = λ pool k e rs d dp us full.
    let short : nat_lt most_bytes c.args.receive.now.length ≡ false = grind (arith, nat_tests, c.if-receive-gt-MOST_BYTES.false) in
    let some : is_granted local_key (regions_of pool c.args.regions.now) c.args.slot.now.endpoint.domain c.args.receive.now.lkey c.args.receive.now.local c.args.receive.now.length LocalWrite ≡ true = place-some c.args.regions.now c.args.slot.now.endpoint.domain c.args.receive.now.lkey c.args.receive.now.local c.args.receive.now.length LocalWrite c.check_local-place.result c.check_local-place.ensures.granted c.if-is_none.ensures pool in
    let key : not (is_granted local_key k.regions e.domain c.args.receive.now.lkey c.args.receive.now.local c.args.receive.now.length LocalWrite) ≡ false = ap (λ r. not (is_granted local_key r e.domain c.args.receive.now.lkey c.args.receive.now.local c.args.receive.now.length LocalWrite)) rs ∙ (ap (λ n. not (is_granted local_key (regions_of pool c.args.regions.now) n c.args.receive.now.lkey c.args.receive.now.local c.args.receive.now.length LocalWrite)) d ∙ ap not some) in
    let at : nat_le c.args.slot.now.endpoint.recv_depth (length c.args.slot.now.endpoint.recvs.items) ≡ false = grind (arith, nat_tests, c.len.ensures.len, c.if-len-slot.false) in
    let there : slice_get (values_of c.args.queues.now.entries) c.args.slot.now.recv ≡ Some c.unwrap.result.1.now = value-at c.args.queues.now.entries c.args.slot.now.recv c.unwrap.result.0.now c.unwrap.result.1.now (sym c.get_index.ensures.entry ∙ ap (option_map deref_pair) c.unwrap.ensures) in
    let filled : is_full k e.recv_cq ≡ is_full_at c.unwrap.result.1.now = subst (λ o. IfSome o (λ q. is_full k e.recv_cq ≡ is_full_at q)) there full in
    c.then_some.ensures
    ∙ (ap (λ b. then_some b CqFull) (c.is_full.ensures.full ∙ sym filled)
    ∙ last-of-four TooLong BadKey RqFull CqFull _ (not (is_granted local_key k.regions e.domain c.args.receive.now.lkey c.args.receive.now.local c.args.receive.now.length LocalWrite)) (nat_le e.recv_depth (length e.unused)) (is_full k e.recv_cq) short key (ap (λ n. nat_le n (length e.unused)) dp ∙ (ap (λ u. nat_le c.args.slot.now.endpoint.recv_depth (length u)) us ∙ at)))

pub returns-clause-takes : goal.returns-clause-takes
returns-clause-takes c =
    let few : c.args.receive.now.length ≤ most_bytes = grind (arith, nat_tests, c.if-receive-gt-MOST_BYTES.false) in
    let deep : length c.args.slot.now.endpoint.recvs.items < c.args.slot.now.endpoint.recv_depth = grind (arith, nat_tests, c.len.ensures.len, c.if-len-slot.false) in
    let there = value-at c.args.queues.now.entries c.args.slot.now.recv c.unwrap.result.0.now c.unwrap.result.1.now (sym c.get_index.ensures.entry ∙ ap (option_map deref_pair) c.unwrap.ensures) in
    rw c.then_some.ensures (takes-none c.args.regions.now c.args.queues.now.entries c.args.slot.now c.args.receive.now c.unwrap.result.1.now c.is_full.result (record { few = few; granted = place-some c.args.regions.now c.args.slot.now.endpoint.domain c.args.receive.now.lkey c.args.receive.now.local c.args.receive.now.length LocalWrite c.check_local-place.result c.check_local-place.ensures.granted c.if-is_none.ensures }) deep there c.is_full.ensures.room)
