-- Where an event of a connected end is not refused, the end lives, and is connected.
use Rattle.std.proofs.Common.{◌≡◌, true, false, refl, sym, ◌∙◌}
use Rattle.std.specs.Prelude.{Option, Some, None}
use Rattle.rdma_types.specs.declared.names.ObjName.{ObjName}
use Rattle.rdma_types.specs.declared.answers.Refusal.TheVariants as refusals
use Rattle.rdma_types.specs.Causes.{first_cause}
use Rattle.protocol.specs.State.{World, Link}
use Rattle.protocol.specs.Refusals as refusing
use Rattle.protocol.specs.WorldStep.{is_live, home}
use Rattle.packetless_machine.specs.Machine as machine
use Rattle.packetless_machine.specs.Machine.{Machine, has_context, has_end}
use Rattle.law_simulation.specs.Stands.{Stands}
use Rattle.law_simulation.proofs.relation.Ends.{end_there}
use Rattle.law_simulation.proofs.relation.Live.{live_of, live_same}
use Rattle.law_simulation.proofs.relation.Linked.{end_there_of}
use Rattle.law_simulation.proofs.relation.Refusing.{first_no, later_no, not_lacking}
use Rattle.law_simulation.proofs.sending.GoLive.{LiveEnd}

linked_by : (l : Option Link) → refusing.is_init l ≡ false → (x : Link) × (l ≡ Some x)
linked_by None h = absurd (cc)
linked_by (Some l) h = (l, refl)

pub found_linked : (w : World) (m : Machine) (o : ObjName) → Stands w m → is_live w o.context ≡ true → has_context m o.context ≡ true →
    first_cause (refusing.within (home w o.context) o.context (λ c. refusing.connected_causes c o.name)) ≡ None → (l : Link) × LiveEnd w m o l
unfolding has_end
found_linked w m o s live there h =
    let ends = later_no refusals.Stopped _ _ (later_no refusals.NoSuch _ _ h) in
    let found : refusing.has_end (live_of w o.context) o.name ≡ true = not_lacking _ (first_no refusals.NoSuch _ _ ends) in
    let by = linked_by (end_there_of w o).link (first_no refusals.BadState _ _ (later_no refusals.NoSuch _ _ ends)) in (
      by.0,
      record {
        live = live;
        there = there;
        found = sym (end_there o.name (live_of w o.context).ends (machine.context_of m o.context).ends (live_same w m o.context s live).ends) ∙ found;
        linked = by.1;
      },
    )
