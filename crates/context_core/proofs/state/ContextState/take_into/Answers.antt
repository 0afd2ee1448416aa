use Rattle.std.proofs.Common.{◌≡◌, ◌++◌, sym, subst, ap, ◌∙◌, refl, arith}
use Rattle.std.specs.Option.{option_copied_mut, option_to_list}
use Rattle.std.proofs.lemmas.Bool.{true≢false}
use Rattle.std.specs.Prelude.{◌==◌, Some, IsSome, is_none, reverse}
use Rattle.rdma_types.specs.declared.names.Name.{Name}
use Rattle.memory_keys.specs.Regions.{regions_of}
use Rattle.protocol.specs.Wire.{is_request}
use Rattle.roce_headers.specs.Packets.{packet}
use Rattle.endpoint_core.specs.declared.answers.DueRead.{DueRead}
use Rattle.endpoint_core.specs.Due.{due_in}
use Rattle.endpoint_core.specs.Queues.{nothing}
use Rattle.endpoint_core.proofs.Frames.{link-of}
use Rattle.context_core.specs.declared.state.EndSlot.{EndSlot}
use Rattle.context_core.specs.Context.{IsContext, context_in, names_in, site_in}
use Rattle.context_core.proofs.ArrivingDatagrams.{has-room, none-linked, none-there, sent-for, some-linked, takes-is}
use Rattle.context_core.proofs.DraftParts.{few-drafted}
use Rattle.context_core.proofs.EndSteps.{site_after}
use Rattle.context_core.proofs.EndStepCalls.{steps, end-sound, entry, entry-there}
use Rattle.context_core.proofs.UnansweredDatagrams.{neither, unanswered}
use Rattle.context_core.proofs.state.ContextState.take_into.Goals as goal

pub returns-in_default-clause-none : goal.returns-in_default-clause-none
returns-in_default-clause-none c = rw (← c.self.view_is) (λ n. sym (none-there c.args.pool.now n (record { domains = c.self.inside.domains.keys; regions = c.self.inside.regions; queues = c.self.inside.queues.entries; ends = c.self.inside.ends.entries }) c.args.place (sym c.in_default.ensures.entry)))

pub returns-in_default-link-clause-none : goal.returns-in_default-link-clause-none
returns-in_default-link-clause-none c = rw (← c.self.view_is) (λ n. sym (none-linked c.args.pool.now n (record { domains = c.self.inside.domains.keys; regions = c.self.inside.regions; queues = c.self.inside.queues.entries; ends = c.self.inside.ends.entries }) c.args.place (c.in-Some.field-0-0.now, c.in-Some.slot.now) (sym c.in-Some.ensures.entry) c.in_default-link.is))

pub replies_for-requires-clause-terms : goal.replies_for-requires-clause-terms
replies_for-requires-clause-terms c =
    let is = subst (IsContext c.args.pool.now) (sym c.self.view_is) c.requires.is in
    (link-of c.args.pool.now c.self.inside.regions c.in-Some.slot.now.endpoint c.in-Some-link.link (end-sound c.args.pool.now (record { domains = c.self.inside.domains.keys; regions = c.self.inside.regions; queues = c.self.inside.queues.entries; ends = c.self.inside.ends.entries }) nothing c.args.place (c.in-Some.field-0-0.now, c.in-Some.slot.now) is.is (sym c.in-Some.ensures.entry)).end c.in-Some-link.is).terms

pub returns-in_err-replies_for-clause-never_out_of_memory : goal.returns-in_err-replies_for-clause-never_out_of_memory
returns-in_err-replies_for-clause-never_out_of_memory c = rw (← c.self.view_is) (λ n gone. absurd (true≢false (sym (ap is_none gone) ∙ some-linked c.args.pool.now n (record { domains = c.self.inside.domains.keys; regions = c.self.inside.regions; queues = c.self.inside.queues.entries; ends = c.self.inside.ends.entries }) c.args.place (c.in-Some.field-0-0.now, c.in-Some.slot.now) c.in-Some-link.link (sym c.in-Some.ensures.entry) c.in-Some-link.is)))

pub take-done-requires-clause-connected : goal.take-done-requires-clause-connected
take-done-requires-clause-connected c =
    let is = subst (IsContext c.args.pool.now) (sym c.self.view_is) c.requires.is in
    let value = sym c.get_index_mut.ensures.value ∙ ap option_copied_mut c.unwrap-slot.ensures in
    let both : Some (c.in-Some.field-0-0.now, c.in-Some.slot.now) ≡ Some (entry c.self.inside.ends.entries c.args.place c.unwrap-slot.result.now) = c.in-Some.ensures.entry ∙ entry-there c.self.inside.ends.entries c.args.place c.unwrap-slot.result.now value in
    let pair : (c.in-Some.field-0-0.now, c.in-Some.slot.now) ≡ entry c.self.inside.ends.entries c.args.place c.unwrap-slot.result.now = cc in
    let same : c.in-Some.slot.now ≡ c.unwrap-slot.result.now = ap (λ (e : Name × EndSlot). e.1) pair in
    subst (λ (v : EndSlot). IsSome v.endpoint.link) same (subst IsSome (sym c.in-Some-link.is) refl)

pub take-done-requires-clause-sound : goal.take-done-requires-clause-sound
take-done-requires-clause-sound c =
    let is = subst (IsContext c.args.pool.now) (sym c.self.view_is) c.requires.is in
    let value = sym c.get_index_mut.ensures.value ∙ ap option_copied_mut c.unwrap-slot.ensures in
    end-sound c.args.pool.now (record { domains = c.self.inside.domains.keys; regions = c.self.inside.regions; queues = c.self.inside.queues.entries; ends = c.self.inside.ends.entries }) nothing c.args.place (entry c.self.inside.ends.entries c.args.place c.unwrap-slot.result.now) is.is (entry-there c.self.inside.ends.entries c.args.place c.unwrap-slot.result.now value)

pub put_answer-requires-clause-room : goal.put_answer-requires-clause-room
put_answer-requires-clause-room c =
    let is = subst (IsContext c.args.pool.now) (sym c.self.view_is) c.requires.is in
    let value = sym c.get_index_mut.ensures.value ∙ ap option_copied_mut c.unwrap-slot.ensures in
    let st = steps c.args.pool.now c.take-done.new.memory.0 (record { domains = c.self.inside.domains.keys; regions = c.self.inside.regions; queues = c.self.inside.queues.entries; ends = c.self.inside.ends.entries }) c.args.place c.unwrap-slot.result.now c.take-done.new.memory.1.0 c.take-done.new.memory.1.1.0.entries c.take-done.new.self is value c.take-done.ensures.keeps c.take-done.ensures.sound in
    let n = c.unwrap-slot.result.now.endpoint.domain in
    has-room c.args.d.now.opcode (site_after c.take-done.new.memory.0 (entry c.self.inside.ends.entries c.args.place c.unwrap-slot.result.now) c.take-done.new.memory.1.0 c.take-done.new.memory.1.1.0.entries c.take-done.new.self) c.take-done.result.reply c.replies_for.new.buffers.room c.in_ok-replies_for.ensures.room (λ a b.
    sym (c.take-done.ensures.sent (context_in c.args.pool.now n (record { domains = c.self.inside.domains.keys; regions = c.self.inside.regions; queues = c.self.inside.queues.entries; ends = c.self.inside.ends.entries })) (names_in c.self.inside.queues.entries (entry c.self.inside.ends.entries c.args.place c.unwrap-slot.result.now)) (st.stands n)) ∙ unanswered _ _ _ (packet c.args.d.now) a b)

pub put_answer-requires-clause-reply : goal.put_answer-requires-clause-reply
put_answer-requires-clause-reply c = (c.take-done.new.memory.1.0, c.take-done.ensures.reply)

pub returns-clause-none : goal.returns-clause-none
returns-clause-none c = rw (← c.self.view_is) (λ n. sym (some-linked c.args.pool.now n (record { domains = c.self.inside.domains.keys; regions = c.self.inside.regions; queues = c.self.inside.queues.entries; ends = c.self.inside.ends.entries }) c.args.place (c.in-Some.field-0-0.now, c.in-Some.slot.now) c.in-Some-link.link (sym c.in-Some.ensures.entry) c.in-Some-link.is))

pub returns-clause-took : goal.returns-clause-took
returns-clause-took c =
    let is = subst (IsContext c.args.pool.now) (sym c.self.view_is) c.requires.is in
    let value = sym c.get_index_mut.ensures.value ∙ ap option_copied_mut c.unwrap-slot.ensures in
    let both : Some (c.in-Some.field-0-0.now, c.in-Some.slot.now) ≡ Some (entry c.self.inside.ends.entries c.args.place c.unwrap-slot.result.now) = c.in-Some.ensures.entry ∙ entry-there c.self.inside.ends.entries c.args.place c.unwrap-slot.result.now value in
    let pair : (c.in-Some.field-0-0.now, c.in-Some.slot.now) ≡ entry c.self.inside.ends.entries c.args.place c.unwrap-slot.result.now = cc in
    let same : c.in-Some.slot.now ≡ c.unwrap-slot.result.now = ap (λ (e : Name × EndSlot). e.1) pair in
    let link : c.unwrap-slot.result.now.endpoint.link ≡ Some c.in-Some-link.link = ap (λ (v : EndSlot). v.endpoint.link) (sym same) ∙ c.in-Some-link.is in
    let made = λ (due : DueRead) (h : due_in c.in-Some-link.link (regions_of c.args.pool.now c.self.inside.regions) c.unwrap-slot.result.now.endpoint.domain (packet c.args.d.now) ≡ Some due). c.in_ok-replies_for.ensures.read due (subst (λ (v : EndSlot). due_in c.in-Some-link.link (regions_of c.args.pool.now c.self.inside.regions) v.endpoint.domain (packet c.args.d.now) ≡ Some due) (sym same) h) in
    let st = steps c.args.pool.now c.take-done.new.memory.0 (record { domains = c.self.inside.domains.keys; regions = c.self.inside.regions; queues = c.self.inside.queues.entries; ends = c.self.inside.ends.entries }) c.args.place c.unwrap-slot.result.now c.take-done.new.memory.1.0 c.take-done.new.memory.1.1.0.entries c.take-done.new.self is value c.take-done.ensures.keeps c.take-done.ensures.sound in
    let sent = sent-for (site_in c.args.pool.now (record { domains = c.self.inside.domains.keys; regions = c.self.inside.regions; queues = c.self.inside.queues.entries; ends = c.self.inside.ends.entries }) (entry c.self.inside.ends.entries c.args.place c.unwrap-slot.result.now)) (site_after c.take-done.new.memory.0 (entry c.self.inside.ends.entries c.args.place c.unwrap-slot.result.now) c.take-done.new.memory.1.0 c.take-done.new.memory.1.1.0.entries c.take-done.new.self) c.in-Some-link.link (packet c.args.d.now) c.take-done.result.reply (reverse c.replies_for.new.read.items) (option_to_list c.put_answer.new.sent ++ reverse c.put_answer.new.read.items) (c.take-done.ensures.due c.in-Some-link.link link) made (c.put_answer.ensures.all c.take-done.new.memory.0 (regions_of c.take-done.new.memory.0 c.take-done.new.memory.1.0)) in
    rw (← c.self.view_is) (λ n e l there linked.
    takes-is c.args.pool.now c.take-done.new.memory.0 (record { domains = c.self.inside.domains.keys; regions = c.self.inside.regions; queues = c.self.inside.queues.entries; ends = c.self.inside.ends.entries }) c.args.place c.unwrap-slot.result.now c.take-done.new.memory.1.0 c.take-done.new.memory.1.1.0.entries c.take-done.new.self n e l (packet c.args.d.now) c.take-done.result.took (option_to_list c.put_answer.new.sent ++ reverse c.put_answer.new.read.items) value st there linked
    c.take-done.ensures.step c.take-done.ensures.took (λ k names home. c.take-done.ensures.sent k names home ∙ sent))

pub returns-clause-bounded : goal.returns-clause-bounded
returns-clause-bounded c = few-drafted c.put_answer.new.sent c.put_answer.new.read.items c.put_answer.ensures.alone (omega (arith, c.put_answer.ensures.few, c.in_ok-replies_for.ensures.bounded))

pub returns-clause-is : goal.returns-clause-is
returns-clause-is c =
    let is = subst (IsContext c.args.pool.now) (sym c.self.view_is) c.requires.is in
    let value = sym c.get_index_mut.ensures.value ∙ ap option_copied_mut c.unwrap-slot.ensures in
    let st = steps c.args.pool.now c.take-done.new.memory.0 (record { domains = c.self.inside.domains.keys; regions = c.self.inside.regions; queues = c.self.inside.queues.entries; ends = c.self.inside.ends.entries }) c.args.place c.unwrap-slot.result.now c.take-done.new.memory.1.0 c.take-done.new.memory.1.1.0.entries c.take-done.new.self is value c.take-done.ensures.keeps c.take-done.ensures.sound in
    st.is

pub returns-clause-moves : goal.returns-clause-moves
returns-clause-moves c =
    let is = subst (IsContext c.args.pool.now) (sym c.self.view_is) c.requires.is in
    let value = sym c.get_index_mut.ensures.value ∙ ap option_copied_mut c.unwrap-slot.ensures in
    let st = steps c.args.pool.now c.take-done.new.memory.0 (record { domains = c.self.inside.domains.keys; regions = c.self.inside.regions; queues = c.self.inside.queues.entries; ends = c.self.inside.ends.entries }) c.args.place c.unwrap-slot.result.now c.take-done.new.memory.1.0 c.take-done.new.memory.1.1.0.entries c.take-done.new.self is value c.take-done.ensures.keeps c.take-done.ensures.sound in
    rw (← c.self.view_is) st.moves

pub returns-clause-numbers : goal.returns-clause-numbers
returns-clause-numbers c =
    let is = subst (IsContext c.args.pool.now) (sym c.self.view_is) c.requires.is in
    let value = sym c.get_index_mut.ensures.value ∙ ap option_copied_mut c.unwrap-slot.ensures in
    let st = steps c.args.pool.now c.take-done.new.memory.0 (record { domains = c.self.inside.domains.keys; regions = c.self.inside.regions; queues = c.self.inside.queues.entries; ends = c.self.inside.ends.entries }) c.args.place c.unwrap-slot.result.now c.take-done.new.memory.1.0 c.take-done.new.memory.1.1.0.entries c.take-done.new.self is value c.take-done.ensures.keeps c.take-done.ensures.sound in
    rw (← c.self.view_is) st.numbers

pub returns-clause-unanswered_draft : goal.returns-clause-unanswered_draft
returns-clause-unanswered_draft c = λ never.
    let is = subst (IsContext c.args.pool.now) (sym c.self.view_is) c.requires.is in
    let value = sym c.get_index_mut.ensures.value ∙ ap option_copied_mut c.unwrap-slot.ensures in
    let both : Some (c.in-Some.field-0-0.now, c.in-Some.slot.now) ≡ Some (entry c.self.inside.ends.entries c.args.place c.unwrap-slot.result.now) = c.in-Some.ensures.entry ∙ entry-there c.self.inside.ends.entries c.args.place c.unwrap-slot.result.now value in
    let pair : (c.in-Some.field-0-0.now, c.in-Some.slot.now) ≡ entry c.self.inside.ends.entries c.args.place c.unwrap-slot.result.now = cc in
    let same : c.in-Some.slot.now ≡ c.unwrap-slot.result.now = ap (λ (e : Name × EndSlot). e.1) pair in
    let link : c.unwrap-slot.result.now.endpoint.link ≡ Some c.in-Some-link.link = ap (λ (v : EndSlot). v.endpoint.link) (sym same) ∙ c.in-Some-link.is in
    let made = λ (due : DueRead) (h : due_in c.in-Some-link.link (regions_of c.args.pool.now c.self.inside.regions) c.unwrap-slot.result.now.endpoint.domain (packet c.args.d.now) ≡ Some due). c.in_ok-replies_for.ensures.read due (subst (λ (v : EndSlot). due_in c.in-Some-link.link (regions_of c.args.pool.now c.self.inside.regions) v.endpoint.domain (packet c.args.d.now) ≡ Some due) (sym same) h) in
    let st = steps c.args.pool.now c.take-done.new.memory.0 (record { domains = c.self.inside.domains.keys; regions = c.self.inside.regions; queues = c.self.inside.queues.entries; ends = c.self.inside.ends.entries }) c.args.place c.unwrap-slot.result.now c.take-done.new.memory.1.0 c.take-done.new.memory.1.1.0.entries c.take-done.new.self is value c.take-done.ensures.keeps c.take-done.ensures.sound in
    let sent = sent-for (site_in c.args.pool.now (record { domains = c.self.inside.domains.keys; regions = c.self.inside.regions; queues = c.self.inside.queues.entries; ends = c.self.inside.ends.entries }) (entry c.self.inside.ends.entries c.args.place c.unwrap-slot.result.now)) (site_after c.take-done.new.memory.0 (entry c.self.inside.ends.entries c.args.place c.unwrap-slot.result.now) c.take-done.new.memory.1.0 c.take-done.new.memory.1.1.0.entries c.take-done.new.self) c.in-Some-link.link (packet c.args.d.now) c.take-done.result.reply (reverse c.replies_for.new.read.items) (option_to_list c.put_answer.new.sent ++ reverse c.put_answer.new.read.items) (c.take-done.ensures.due c.in-Some-link.link link) made (c.put_answer.ensures.all c.take-done.new.memory.0 (regions_of c.take-done.new.memory.0 c.take-done.new.memory.1.0)) in
    let n = c.unwrap-slot.result.now.endpoint.domain in
    let both = neither (is_request c.args.d.now.opcode) (c.args.d.now.opcode == 0x1E) never in
    sym sent
    ∙ (sym (c.take-done.ensures.sent (context_in c.args.pool.now n (record { domains = c.self.inside.domains.keys; regions = c.self.inside.regions; queues = c.self.inside.queues.entries; ends = c.self.inside.ends.entries })) (names_in c.self.inside.queues.entries (entry c.self.inside.ends.entries c.args.place c.unwrap-slot.result.now)) (st.stands n)) ∙ unanswered _ _ _ (packet c.args.d.now) both.0 both.1)
