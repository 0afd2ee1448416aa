use Rattle.std.proofs.Common.{◌≡◌, ◌+◌, ◌<◌, sym, ap, subst, ◌∙◌, arith, refl, true, false, Bool, length}
use Rattle.std.specs.Option.{option_map, option_map_or}
use Rattle.std.specs.Map.{values_of}
use Rattle.std.specs.Map.Iter.{deref_pair}
use Rattle.std.specs.Prelude.{Some, IfSome, is_none, is_some, nat_le, nat_lt, not, slice_get, if◌then◌else◌}
use Rattle.std.proofs.lemmas.Bool.Decides.{nat_tests}
use Rattle.end_queues.specs.Completions.{used_places}
use Rattle.rdma_types.specs.Limits.{most_bytes}
use Rattle.rdma_types.specs.Memory.{LocalWrite, NoRight, is_granted, landing_right, local_key}
use Rattle.page_pool.specs.Pool.{Pool}
use Rattle.memory_keys.specs.Regions.{granted_spot, regions_of}
use Rattle.endpoint_core.specs.Ends.{untold_by}
use Rattle.endpoint_core.specs.Sound.{IsBelowLimit}
use Rattle.requester.specs.Sending.{sender_of}
use Rattle.protocol.specs.Requester.{end_of_queue}
use Rattle.rdma_types.specs.Spans.{span}
use Rattle.context_core.specs.Queues.{is_full_at}
use Rattle.context_core.specs.Requests.{is_full_place, is_past}
use Rattle.context_core.proofs.ReceiveRefusals.{place-none, place-some, value-at}
use Rattle.context_core.proofs.SendRefusals.{below, is-barred, is-clear, is-deep, is-filled, is-init, is-long, is-past, source-is}
use Rattle.context_core.proofs.postings.source_at.Goals as goal

pub returns-in_default-clause-refused : goal.returns-in_default-clause-refused
returns-in_default-clause-refused c = λ pool.
    let unlinked : is_none c.args.slot.now.endpoint.link ≡ true = ap is_none c.in_default.is in
    let past : is_past c.args.slot.now.endpoint.link c.args.request.now ≡ false = ap (λ o. is_past o c.args.request.now) c.in_default.is in
    is-init _ _ _ _ _ _ past unlinked

pub returns-then-is_past_limit-clause-refused : goal.returns-then-is_past_limit-clause-refused
returns-then-is_past_limit-clause-refused c = λ pool.
    let past : is_past c.args.slot.now.endpoint.link c.args.request.now ≡ true = ap (λ o. is_past o c.args.request.now) c.in-Some.is ∙ (sym (c.is_past_limit.ensures c.args.request.now refl) ∙ c.if-is_past_limit.true) in
    is-past _ _ _ _ _ _ past

pub returns-then-shape-gt-MOST_BYTES-clause-refused : goal.returns-then-shape-gt-MOST_BYTES-clause-refused
returns-then-shape-gt-MOST_BYTES-clause-refused c = λ pool.
    let past : is_past c.args.slot.now.endpoint.link c.args.request.now ≡ false = ap (λ o. is_past o c.args.request.now) c.in-Some.is ∙ (sym (c.is_past_limit.ensures c.args.request.now refl) ∙ c.if-is_past_limit.false) in
    let linked : is_none c.args.slot.now.endpoint.link ≡ false = ap is_none c.in-Some.is in
    let long : nat_lt most_bytes c.args.request.now.shape.length ≡ true = grind (arith, nat_tests, c.if-shape-gt-MOST_BYTES.true) in
    is-long _ _ _ _ _ _ past linked long

pub returns-in_default-check_local-clause-refused : goal.returns-in_default-check_local-clause-refused
returns-in_default-check_local-clause-refused c = λ pool.
    let past : is_past c.args.slot.now.endpoint.link c.args.request.now ≡ false = ap (λ o. is_past o c.args.request.now) c.in-Some.is ∙ (sym (c.is_past_limit.ensures c.args.request.now refl) ∙ c.if-is_past_limit.false) in
    let linked : is_none c.args.slot.now.endpoint.link ≡ false = ap is_none c.in-Some.is in
    let long : nat_lt most_bytes c.args.request.now.shape.length ≡ false = grind (arith, nat_tests, c.if-shape-gt-MOST_BYTES.false) in
    let granted = λ (pool : Pool). c.check_local.ensures.granted pool ∙ ap (λ (b : Bool). granted_spot local_key (regions_of pool c.args.regions.now) c.args.slot.now.endpoint.domain c.args.request.now.lkey c.args.request.now.local c.args.request.now.shape.length (if b then LocalWrite else NoRight)) c.lands-landing.ensures in
    let barred = place-none c.args.regions.now c.args.slot.now.endpoint.domain c.args.request.now.lkey c.args.request.now.local c.args.request.now.shape.length (landing_right c.args.request.now.shape.kind) c.check_local.result granted (ap is_some c.in_default-check_local.is) pool in
    is-barred _ _ _ _ _ _ past linked long barred

pub returns-then-is_send_full-clause-refused : goal.returns-then-is_send_full-clause-refused
returns-then-is_send_full-clause-refused c = λ pool.
    let past : is_past c.args.slot.now.endpoint.link c.args.request.now ≡ false = ap (λ o. is_past o c.args.request.now) c.in-Some.is ∙ (sym (c.is_past_limit.ensures c.args.request.now refl) ∙ c.if-is_past_limit.false) in
    let linked : is_none c.args.slot.now.endpoint.link ≡ false = ap is_none c.in-Some.is in
    let long : nat_lt most_bytes c.args.request.now.shape.length ≡ false = grind (arith, nat_tests, c.if-shape-gt-MOST_BYTES.false) in
    let granted = λ (pool : Pool). c.check_local.ensures.granted pool ∙ ap (λ (b : Bool). granted_spot local_key (regions_of pool c.args.regions.now) c.args.slot.now.endpoint.domain c.args.request.now.lkey c.args.request.now.local c.args.request.now.shape.length (if b then LocalWrite else NoRight)) c.lands-landing.ensures in
    let barred : not (is_granted local_key (regions_of pool c.args.regions.now) c.args.slot.now.endpoint.domain c.args.request.now.lkey c.args.request.now.local c.args.request.now.shape.length (landing_right c.args.request.now.shape.kind)) ≡ false = ap not (place-some c.args.regions.now c.args.slot.now.endpoint.domain c.args.request.now.lkey c.args.request.now.local c.args.request.now.shape.length (landing_right c.args.request.now.shape.kind) c.check_local.result granted (ap is_some c.in-Some-check_local.is) pool) in
    let deep : nat_le c.args.slot.now.endpoint.send_depth (length (untold_by c.args.slot.now.endpoint.link)) ≡ true = ap (λ o. nat_le c.args.slot.now.endpoint.send_depth (length (untold_by o))) c.in-Some.is ∙ (sym c.is_send_full.ensures ∙ c.if-is_send_full.true) in
    is-deep _ _ _ _ _ _ past linked long barred deep

pub returns-then-is_full-clause-refused : goal.returns-then-is_full-clause-refused
returns-then-is_full-clause-refused c = λ pool.
    let past : is_past c.args.slot.now.endpoint.link c.args.request.now ≡ false = ap (λ o. is_past o c.args.request.now) c.in-Some.is ∙ (sym (c.is_past_limit.ensures c.args.request.now refl) ∙ c.if-is_past_limit.false) in
    let linked : is_none c.args.slot.now.endpoint.link ≡ false = ap is_none c.in-Some.is in
    let long : nat_lt most_bytes c.args.request.now.shape.length ≡ false = grind (arith, nat_tests, c.if-shape-gt-MOST_BYTES.false) in
    let granted = λ (pool : Pool). c.check_local.ensures.granted pool ∙ ap (λ (b : Bool). granted_spot local_key (regions_of pool c.args.regions.now) c.args.slot.now.endpoint.domain c.args.request.now.lkey c.args.request.now.local c.args.request.now.shape.length (if b then LocalWrite else NoRight)) c.lands-landing.ensures in
    let barred : not (is_granted local_key (regions_of pool c.args.regions.now) c.args.slot.now.endpoint.domain c.args.request.now.lkey c.args.request.now.local c.args.request.now.shape.length (landing_right c.args.request.now.shape.kind)) ≡ false = ap not (place-some c.args.regions.now c.args.slot.now.endpoint.domain c.args.request.now.lkey c.args.request.now.local c.args.request.now.shape.length (landing_right c.args.request.now.shape.kind) c.check_local.result granted (ap is_some c.in-Some-check_local.is) pool) in
    let deep : nat_le c.args.slot.now.endpoint.send_depth (length (untold_by c.args.slot.now.endpoint.link)) ≡ false = ap (λ o. nat_le c.args.slot.now.endpoint.send_depth (length (untold_by o))) c.in-Some.is ∙ (sym c.is_send_full.ensures ∙ c.if-is_send_full.false) in
    let there : slice_get (values_of c.args.queues.now.entries) c.args.slot.now.send ≡ Some c.unwrap.result.1.now = value-at c.args.queues.now.entries c.args.slot.now.send c.unwrap.result.0.now c.unwrap.result.1.now (sym c.get_index.ensures.entry ∙ ap (option_map deref_pair) c.unwrap.ensures) in
    let filled : is_full_place c.args.queues.now.entries c.args.slot.now.send ≡ true = ap (λ o. option_map_or is_full_at o true) there ∙ (sym c.is_full.ensures.full ∙ c.if-is_full.true) in
    is-filled _ _ _ _ _ _ past linked long barred deep filled

pub returns-clause-refused : goal.returns-clause-refused
returns-clause-refused c = λ pool.
    let past : is_past c.args.slot.now.endpoint.link c.args.request.now ≡ false = ap (λ o. is_past o c.args.request.now) c.in-Some.is ∙ (sym (c.is_past_limit.ensures c.args.request.now refl) ∙ c.if-is_past_limit.false) in
    let linked : is_none c.args.slot.now.endpoint.link ≡ false = ap is_none c.in-Some.is in
    let long : nat_lt most_bytes c.args.request.now.shape.length ≡ false = grind (arith, nat_tests, c.if-shape-gt-MOST_BYTES.false) in
    let granted = λ (pool : Pool). c.check_local.ensures.granted pool ∙ ap (λ (b : Bool). granted_spot local_key (regions_of pool c.args.regions.now) c.args.slot.now.endpoint.domain c.args.request.now.lkey c.args.request.now.local c.args.request.now.shape.length (if b then LocalWrite else NoRight)) c.lands-landing.ensures in
    let barred : not (is_granted local_key (regions_of pool c.args.regions.now) c.args.slot.now.endpoint.domain c.args.request.now.lkey c.args.request.now.local c.args.request.now.shape.length (landing_right c.args.request.now.shape.kind)) ≡ false = ap not (place-some c.args.regions.now c.args.slot.now.endpoint.domain c.args.request.now.lkey c.args.request.now.local c.args.request.now.shape.length (landing_right c.args.request.now.shape.kind) c.check_local.result granted (ap is_some c.in-Some-check_local.is) pool) in
    let deep : nat_le c.args.slot.now.endpoint.send_depth (length (untold_by c.args.slot.now.endpoint.link)) ≡ false = ap (λ o. nat_le c.args.slot.now.endpoint.send_depth (length (untold_by o))) c.in-Some.is ∙ (sym c.is_send_full.ensures ∙ c.if-is_send_full.false) in
    let there : slice_get (values_of c.args.queues.now.entries) c.args.slot.now.send ≡ Some c.unwrap.result.1.now = value-at c.args.queues.now.entries c.args.slot.now.send c.unwrap.result.0.now c.unwrap.result.1.now (sym c.get_index.ensures.entry ∙ ap (option_map deref_pair) c.unwrap.ensures) in
    let filled : is_full_place c.args.queues.now.entries c.args.slot.now.send ≡ false = ap (λ o. option_map_or is_full_at o true) there ∙ (sym c.is_full.ensures.full ∙ c.if-is_full.false) in
    is-clear _ _ _ _ _ _ past linked long barred deep filled

pub returns-clause-takes : goal.returns-clause-takes
returns-clause-takes c =
    let past : is_past c.args.slot.now.endpoint.link c.args.request.now ≡ false = ap (λ o. is_past o c.args.request.now) c.in-Some.is ∙ (sym (c.is_past_limit.ensures c.args.request.now refl) ∙ c.if-is_past_limit.false) in
    let granted = λ (pool : Pool). c.check_local.ensures.granted pool ∙ ap (λ (b : Bool). granted_spot local_key (regions_of pool c.args.regions.now) c.args.slot.now.endpoint.domain c.args.request.now.lkey c.args.request.now.local c.args.request.now.shape.length (if b then LocalWrite else NoRight)) c.lands-landing.ensures in
    let deep : nat_le c.args.slot.now.endpoint.send_depth (length (untold_by c.args.slot.now.endpoint.link)) ≡ false = ap (λ o. nat_le c.args.slot.now.endpoint.send_depth (length (untold_by o))) c.in-Some.is ∙ (sym c.is_send_full.ensures ∙ c.if-is_send_full.false) in
    let there : slice_get (values_of c.args.queues.now.entries) c.args.slot.now.send ≡ Some c.unwrap.result.1.now = value-at c.args.queues.now.entries c.args.slot.now.send c.unwrap.result.0.now c.unwrap.result.1.now (sym c.get_index.ensures.entry ∙ ap (option_map deref_pair) c.unwrap.ensures) in
    let past' : is_past (Some c.in-Some.link) c.args.request.now ≡ false = sym (c.is_past_limit.ensures c.args.request.now refl) ∙ c.if-is_past_limit.false in
    record {
      linked = ap is_some c.in-Some.is;
      limit = subst (λ o. IsBelowLimit o c.args.request.now) (sym c.in-Some.is) (below c.in-Some.link.ended (end_of_queue c.in-Some.link.terms (sender_of c.in-Some.link.requester) + span c.args.request.now.shape c.in-Some.link.terms.mtu) past');
      granted = place-some c.args.regions.now c.args.slot.now.endpoint.domain c.args.request.now.lkey c.args.request.now.local c.args.request.now.shape.length (landing_right c.args.request.now.shape.kind) c.check_local.result granted (ap is_some c.in-Some-check_local.is);
      depth = grind (arith, nat_tests, deep);
      room = subst (λ o. IfSome o (λ q. used_places q < q.capacity)) (sym there) (c.is_full.ensures.room c.if-is_full.false);
      source = source-is c.args.regions.now c.args.slot.now.endpoint c.in-Some.link c.args.request.now c.in-Some-check_local.place c.source.result c.in-Some.is c.source.ensures c.in-Some-check_local.ensures.inside c.in-Some-check_local.ensures.length (λ pool. sym c.in-Some-check_local.is ∙ granted pool);
    }
