use Rattle.std.proofs.Common.{sym, subst, ap, ◌∙◌, arith, length, rules}
use Rattle.std.specs.Option.{option_copied_mut}
use Rattle.std.specs.Prelude.{Some}
use Rattle.protocol.specs.DeviceStep.{gives, with_context}
use Rattle.endpoint_core.specs.Answers.{row_in}
use Rattle.endpoint_core.specs.Ends.{link_in}
use Rattle.endpoint_core.specs.Queues.{nothing}
use Rattle.context_core.specs.Context.{Holding, IsContext, context_in}
use Rattle.context_core.specs.Links.{IsConnectedAt}
use Rattle.context_core.specs.Sending.{row_sent, send_answer}
use Rattle.context_core.proofs.ConnectedEnds.{IsHeldAt, held-at, held-linked, held-position, held-within}
use Rattle.context_core.proofs.DraftParts.{no-parts, one-part}
use Rattle.context_core.proofs.EndSteps.{after}
use Rattle.context_core.proofs.EndStepCalls.{end-sound, entry, entry-there, is-linked, lists-still, numbers-still, pages-still, still}
use Rattle.context_core.proofs.Transmissions.{sending-is, sends-is, some-of, way-small, way-there}
use Rattle.context_core.proofs.state.ContextState.transmit_at.Goals as goal

pub way_at-way-requires-clause-there : goal.way_at-way-requires-clause-there
way_at-way-requires-clause-there c =
    let held : IsHeldAt (record { domains = c.self.inside.domains.keys; regions = c.self.inside.regions; queues = c.self.inside.queues.entries; ends = c.self.inside.ends.entries }) c.requires.at.1 c.args.place = held-at c.args.pool.now c.requires.at.0 _ c.requires.at.1 c.args.place (subst (λ (x : Holding). IsConnectedAt (context_in c.args.pool.now c.requires.at.0 x) c.requires.at.1 c.args.place) (sym c.self.view_is) c.requires.at.2) in
    held-within _ _ c.args.place held

pub way_at-way-requires-clause-linked : goal.way_at-way-requires-clause-linked
way_at-way-requires-clause-linked c =
    let held : IsHeldAt (record { domains = c.self.inside.domains.keys; regions = c.self.inside.regions; queues = c.self.inside.queues.entries; ends = c.self.inside.ends.entries }) c.requires.at.1 c.args.place = held-at c.args.pool.now c.requires.at.0 _ c.requires.at.1 c.args.place (subst (λ (x : Holding). IsConnectedAt (context_in c.args.pool.now c.requires.at.0 x) c.requires.at.1 c.args.place) (sym c.self.view_is) c.requires.at.2) in
    held-linked _ _ c.args.place held

pub unwrap-slot-requires : goal.unwrap-slot-requires
unwrap-slot-requires c =
    let held : IsHeldAt (record { domains = c.self.inside.domains.keys; regions = c.self.inside.regions; queues = c.self.inside.queues.entries; ends = c.self.inside.ends.entries }) c.requires.at.1 c.args.place = held-at c.args.pool.now c.requires.at.0 _ c.requires.at.1 c.args.place (subst (λ (x : Holding). IsConnectedAt (context_in c.args.pool.now c.requires.at.0 x) c.requires.at.1 c.args.place) (sym c.self.view_is) c.requires.at.2) in
    let there = held-within _ _ c.args.place held in
    search (rules, there)

pub transmit-send-requires : goal.transmit-send-requires
transmit-send-requires c =
    let held : IsHeldAt (record { domains = c.self.inside.domains.keys; regions = c.self.inside.regions; queues = c.self.inside.queues.entries; ends = c.self.inside.ends.entries }) c.requires.at.1 c.args.place = held-at c.args.pool.now c.requires.at.0 _ c.requires.at.1 c.args.place (subst (λ (x : Holding). IsConnectedAt (context_in c.args.pool.now c.requires.at.0 x) c.requires.at.1 c.args.place) (sym c.self.view_is) c.requires.at.2) in
    record { connected = is-linked _ c.args.place c.unwrap-slot.result.now (sym c.get_index_mut.ensures.value ∙ ap option_copied_mut c.unwrap-slot.ensures) (held-linked _ _ c.args.place held) }

pub put_sent-requires-clause-sending : goal.put_sent-requires-clause-sending
put_sent-requires-clause-sending c =
    let held : IsHeldAt (record { domains = c.self.inside.domains.keys; regions = c.self.inside.regions; queues = c.self.inside.queues.entries; ends = c.self.inside.ends.entries }) c.requires.at.1 c.args.place = held-at c.args.pool.now c.requires.at.0 _ c.requires.at.1 c.args.place (subst (λ (x : Holding). IsConnectedAt (context_in c.args.pool.now c.requires.at.0 x) c.requires.at.1 c.args.place) (sym c.self.view_is) c.requires.at.2) in
    let is = subst (IsContext c.args.pool.now) (sym c.self.view_is) c.requires.is in
    let value = sym c.get_index_mut.ensures.value ∙ ap option_copied_mut c.unwrap-slot.ensures in
    let l = some-of c.unwrap-slot.result.now.endpoint.link (is-linked _ c.args.place c.unwrap-slot.result.now value (held-linked _ _ c.args.place held)) in
    (l.0, sending-is c.args.pool.now _ c.args.place c.unwrap-slot.result.now c.transmit-send.new.self c.transmit-send.result l.0 is value l.1 c.way_at-way.result (way-there _ c.args.place c.unwrap-slot.result.now l.0 c.way_at-way.result value l.1 c.way_at-way.ensures) c.transmit-send.ensures.untold c.transmit-send.ensures.packet)

pub put_sent-requires-clause-payload : goal.put_sent-requires-clause-payload
put_sent-requires-clause-payload c =
    let held : IsHeldAt (record { domains = c.self.inside.domains.keys; regions = c.self.inside.regions; queues = c.self.inside.queues.entries; ends = c.self.inside.ends.entries }) c.requires.at.1 c.args.place = held-at c.args.pool.now c.requires.at.0 _ c.requires.at.1 c.args.place (subst (λ (x : Holding). IsConnectedAt (context_in c.args.pool.now c.requires.at.0 x) c.requires.at.1 c.args.place) (sym c.self.view_is) c.requires.at.2) in
    let small = way-small c.args.pool.now (record { domains = c.self.inside.domains.keys; regions = c.self.inside.regions; queues = c.self.inside.queues.entries; ends = c.self.inside.ends.entries }) c.args.place c.way_at-way.result (subst (IsContext c.args.pool.now) (sym c.self.view_is) c.requires.is) (held-within _ _ c.args.place held) (held-linked _ _ c.args.place held) c.way_at-way.ensures in
    omega (arith, small, ap length c.deref_mut.ensures.value)

pub returns-clause-is : goal.returns-clause-is
returns-clause-is c =
    let is = subst (IsContext c.args.pool.now) (sym c.self.view_is) c.requires.is in
    let value = sym c.get_index_mut.ensures.value ∙ ap option_copied_mut c.unwrap-slot.ensures in
    let st = still c.args.pool.now _ c.args.place c.unwrap-slot.result.now c.transmit-send.new.self is value c.transmit-send.ensures.end c.transmit-send.ensures.untold c.transmit-send.ensures.reserved (c.transmit-send.ensures.sound c.args.pool.now _ (end-sound c.args.pool.now _ nothing c.args.place (entry _ c.args.place c.unwrap-slot.result.now) is.is (entry-there _ c.args.place c.unwrap-slot.result.now value)).end) in
    st.is

pub returns-clause-lists : goal.returns-clause-lists
returns-clause-lists c = rw (← c.self.view_is) (lists-still _ c.args.place c.unwrap-slot.result.now c.transmit-send.new.self (sym c.get_index_mut.ensures.value ∙ ap option_copied_mut c.unwrap-slot.ensures) c.transmit-send.ensures.untold)

pub returns-clause-pages : goal.returns-clause-pages
returns-clause-pages c =
    let is = subst (IsContext c.args.pool.now) (sym c.self.view_is) c.requires.is in
    let value = sym c.get_index_mut.ensures.value ∙ ap option_copied_mut c.unwrap-slot.ensures in
    let st = still c.args.pool.now _ c.args.place c.unwrap-slot.result.now c.transmit-send.new.self is value c.transmit-send.ensures.end c.transmit-send.ensures.untold c.transmit-send.ensures.reserved (c.transmit-send.ensures.sound c.args.pool.now _ (end-sound c.args.pool.now _ nothing c.args.place (entry _ c.args.place c.unwrap-slot.result.now) is.is (entry-there _ c.args.place c.unwrap-slot.result.now value)).end) in
    rw (← c.self.view_is) (λ n. pages-still c.args.pool.now n _ _ st.moves)

pub returns-clause-numbers : goal.returns-clause-numbers
returns-clause-numbers c = rw (← c.self.view_is) (λ n. numbers-still c.args.pool.now c.args.pool.now n _ c.args.place c.unwrap-slot.result.now c.self.inside.regions c.self.inside.queues.entries c.transmit-send.new.self (sym c.get_index_mut.ensures.value ∙ ap option_copied_mut c.unwrap-slot.ensures) c.transmit-send.ensures.end.number)

pub returns-clause-sent : goal.returns-clause-sent
returns-clause-sent c =
    let held : IsHeldAt (record { domains = c.self.inside.domains.keys; regions = c.self.inside.regions; queues = c.self.inside.queues.entries; ends = c.self.inside.ends.entries }) c.requires.at.1 c.args.place = held-at c.args.pool.now c.requires.at.0 _ c.requires.at.1 c.args.place (subst (λ (x : Holding). IsConnectedAt (context_in c.args.pool.now c.requires.at.0 x) c.requires.at.1 c.args.place) (sym c.self.view_is) c.requires.at.2) in
    let is = subst (IsContext c.args.pool.now) (sym c.self.view_is) c.requires.is in
    let value = sym c.get_index_mut.ensures.value ∙ ap option_copied_mut c.unwrap-slot.ensures in
    let st = still c.args.pool.now _ c.args.place c.unwrap-slot.result.now c.transmit-send.new.self is value c.transmit-send.ensures.end c.transmit-send.ensures.untold c.transmit-send.ensures.reserved (c.transmit-send.ensures.sound c.args.pool.now _ (end-sound c.args.pool.now _ nothing c.args.place (entry _ c.args.place c.unwrap-slot.result.now) is.is (entry-there _ c.args.place c.unwrap-slot.result.now value)).end) in
    let l = some-of c.unwrap-slot.result.now.endpoint.link (is-linked _ c.args.place c.unwrap-slot.result.now value (held-linked _ _ c.args.place held)) in
    let sending = sending-is c.args.pool.now (record { domains = c.self.inside.domains.keys; regions = c.self.inside.regions; queues = c.self.inside.queues.entries; ends = c.self.inside.ends.entries }) c.args.place c.unwrap-slot.result.now c.transmit-send.new.self c.transmit-send.result l.0 is value l.1 c.way_at-way.result (way-there _ c.args.place c.unwrap-slot.result.now l.0 c.way_at-way.result value l.1 c.way_at-way.ensures) c.transmit-send.ensures.untold c.transmit-send.ensures.packet in
    rw (← c.self.view_is) (λ n name d there at same.
    let named = held-at c.args.pool.now n _ name c.args.place there in
    sends-is c.args.pool.now (record { domains = c.self.inside.domains.keys; regions = c.self.inside.regions; queues = c.self.inside.queues.entries; ends = c.self.inside.ends.entries }) c.args.place c.unwrap-slot.result.now c.transmit-send.new.self c.transmit-send.result l.0 is value l.1 n d name c.args.own at same (held-position _ name c.args.place is.is.end_names named) st c.transmit-send.ensures.row c.transmit-send.ensures.step
    ∙ (ap (λ a. gives (with_context d (context_in c.args.pool.now n (after (record { domains = c.self.inside.domains.keys; regions = c.self.inside.regions; queues = c.self.inside.queues.entries; ends = c.self.inside.ends.entries }) c.args.place (entry c.self.inside.ends.entries c.args.place c.unwrap-slot.result.now) c.self.inside.regions c.self.inside.queues.entries c.transmit-send.new.self))) a (row_sent (link_in c.args.pool.now l.0) c.args.own (row_in c.args.pool.now (Some l.0) c.transmit-send.result))) (sym (c.row_of-row.ensures c.args.pool.now l.0))
    ∙ ap (λ list. gives (with_context d (context_in c.args.pool.now n (after (record { domains = c.self.inside.domains.keys; regions = c.self.inside.regions; queues = c.self.inside.queues.entries; ends = c.self.inside.ends.entries }) c.args.place (entry c.self.inside.ends.entries c.args.place c.unwrap-slot.result.now) c.self.inside.regions c.self.inside.queues.entries c.transmit-send.new.self))) (send_answer c.row_of-row.result) list) (sym (c.put_sent.ensures l.0 sending) ∙ sym (one-part c.put_sent.new.sent _ (no-parts c.draft.inside.sent c.draft.inside.responses.items (c.draft.view_is ∙ c.clear.ensures)).1))))
