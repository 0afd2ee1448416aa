-- A live end in Rts goes to Error, perhaps after its owner learned more: the relation is kept.
use Rattle.std.proofs.Common.{◌≡◌, ◌≤◌, ◌+◌, ℕ, length, map, true, false, refl, sym, ap, ◌∙◌, subst}
use Rattle.std.specs.Prelude.{Some, not, drop}
use Rattle.rdma_types.specs.declared.names.ObjName.{ObjName}
use Rattle.rdma_types.specs.declared.answers.Answer.{Answer}
use Rattle.rdma_types.specs.declared.requests.WcStatus.{WcStatus}
use Rattle.rdma_types.specs.Limits.{is_mtu}
use Rattle.rdma_types.specs.Lists.{store_named}
use Rattle.rdma_types.specs.Spans.{end_number, first_number}
use Rattle.protocol.specs.State as state
use Rattle.protocol.specs.State.{World, Link, Sender, Running, NoMessage}
use Rattle.protocol.specs.EndWords as words
use Rattle.protocol.specs.Requester.{end_of_queue, emptied_at, ended_link, ended_with}
use Rattle.protocol.specs.DeviceStep as device
use Rattle.protocol.specs.WorldStep.{home, ran}
use Rattle.packetless_machine.specs.Machine as machine
use Rattle.packetless_machine.specs.Machine.{Machine, End}
use Rattle.packetless_machine.specs.Numbers.{due}
use Rattle.packetless_machine.specs.Steps as steps
use Rattle.packetless_machine.specs.Steps.{closed}
use Rattle.law_simulation.specs.Views.{Side, requests_of, side_of}
use Rattle.law_simulation.specs.Joined.{IsJoined}
use Rattle.law_simulation.specs.Stands.{Stands, IsEndSound}
use Rattle.law_simulation.proofs.relation.Connecting.{live_not_carried}
use Rattle.law_simulation.proofs.relation.Live.{live_of}
use Rattle.law_simulation.proofs.relation.Linked.{end_there_of}
use Rattle.law_simulation.proofs.relation.Numbers.{first-rest}
use Rattle.law_simulation.proofs.sending.GoNet.{Goes}
use Rattle.law_simulation.proofs.sending.GoStands.{steps_stand, with_link}
use Rattle.law_simulation.proofs.sending.GoEnd.{Goes_on, gone_end, gone_link, goes_on, goes_over}
use Rattle.law_simulation.proofs.sending.GoLive.{LiveEnd, ContextGoes, home_steps, owned_gone, link_is, connected, in_rts_is, joined_here, joined_other, connected_here, ended_here, both, mtu_is}
use Rattle.law_simulation.proofs.sending.GoNumbers.{end_near}
use Rattle.law_simulation.proofs.sending.GoOver.{over_goes, over_end, over_context}

-- one step, and then another
pub goes_then : (o : ObjName) (x x1 x2 y : Side) (q q1 q2 p : End) → Goes o x x1 y q q1 p → Goes o x1 x2 y q1 q2 p → Goes o x x2 y q q2 p
goes_then o x x1 x2 y q q1 q2 p a b = record {
  connected = b.connected;
  rts = λ h. a.rts (b.rts h);
  peer = b.peer ∙ a.peer;
  own = b.own;
  other = subst (λ k. IsJoined k y x2 p q2) a.peer b.other;
  acting = λ domain regions h. b.acting domain regions (a.acting domain regions h);
  taking = λ regions r h. b.taking regions r (a.taking regions (b.rts r) h);
  left = λ h t. b.left h (a.left h t);
  left_other = λ h t. b.left_other h (a.left_other h t);
  to = λ n bytes d f. b.to n bytes d (a.to n bytes d f);
  from = λ n bytes d f. b.from n bytes d (a.from n bytes d f);
}

-- the numbers of a requester end where those of the machine's end do
pub queue_ends : (l : Link) (s : Sender) (f : End) → l.terms.mtu ≡ f.mtu → s.untold ≡ drop f.told f.posted → s.first ≡ first_number f.posted f.mtu f.told → f.told ≤ length f.posted → end_of_queue l.terms s ≡ end_number f.posted f.mtu
unfolding end_of_queue
queue_ends l s f mtu rest first told =
    ap (λ k. k + end_number s.untold l.terms.mtu) first
    ∙ (ap (λ us. first_number f.posted f.mtu f.told + end_number us l.terms.mtu) rest
    ∙ (ap (λ k. first_number f.posted f.mtu f.told + end_number (drop f.told f.posted) k) mtu
    ∙ first-rest f.posted f.mtu f.told told))

module _ (w : World) (m : Machine) (o : ObjName) (l : Link) (s : Stands w m) (h : LiveEnd w m o l) where
  abbrev f : End
  f = machine.end_of m o

  pub over_stands : (s' : Sender) (told known spent waits : ℕ) → l.ended ≡ false → f.told ≤ told → l.sender.top ≤ s'.top → Goes_on s' (requests_of (gone_end f told known spent waits f.ended)) → s'.untold ≡ drop told f.posted →
      (m' : Machine) (x : state.Context) (y : machine.Context) (status : WcStatus) (a : Answer) → x.ends ≡ (live_of w o.context).ends →
      ContextGoes w m m' o (record x { ends = store_named (λ z. z.name) o.name (record (end_there_of w o) { link = Some (words.with_sender l s') }) x.ends }) y (record (end_there_of w o) { link = Some (words.with_sender l s') }) (gone_end f told known spent waits f.ended) (words.with_sender l s') →
      IsEndSound y.regions (map (λ q. q.name) y.queues) (gone_end f told known spent waits f.ended) →
      Stands (ran w (device.answers (device.with_context (home w o.context) (ended_with x (end_there_of w o) (words.with_sender l s') status)) a)).world (steps.ended_with m' o status)
  unfolding words.with_sender ended_link closed due
  over_stands s' told known spent waits alive more top g rest m' x y status a live c sound =
      let l' : Link = words.with_sender l s' in
      let f' : End = gone_end f told known spent waits f.ended in
      let e' : state.End = over_end (end_there_of w o) l' in
      let side : Side = side_of w o in
      let goes : ContextGoes w m (steps.ended_with m' o status) o (ended_with x (end_there_of w o) l' status) (over_context y o.name f' status) e' (closed f') (ended_link l') =
      over_goes w m o l s h m' x y f' l' status live c (owned_gone (end_there_of w o) f l s' told known spent waits (both w m o l s h) h.linked rest) (connected_here w m o l s h) sound in
      let in_rts : side.rts ≡ true = in_rts_is w m o l s h ∙ ap not alive in
      let alive' : side.link.ended ≡ false = ap (λ z. z.ended) (link_is w m o l s h) ∙ alive in
      let first : Goes o side (with_link side (gone_link side.link s' side.link.ended side.link.moving.phase side.link.receiver.progress)) (side_of w f.peer) (requests_of f) (requests_of f') (requests_of (machine.end_of m f.peer)) =
      goes_on o side (side_of w f.peer) (requests_of f) (requests_of (machine.end_of m f.peer)) s' told known spent waits (connected w m o l s h) in_rts alive' (joined_here w m o l s h) (joined_other w m o l s h) more
      (subst (λ z. z.sender.top ≤ s'.top) (sym (link_is w m o l s h)) top) g in
      let ends : end_of_queue l.terms s' ≡ end_number f.posted f.mtu = queue_ends l s' f' (mtu_is w m o l s h) rest g.sends.first sound.sound.told_posted in
      let second : Goes o (with_link side (gone_link side.link s' side.link.ended side.link.moving.phase side.link.receiver.progress)) (with_link side (gone_link side.link (emptied_at (end_of_queue l.terms s')) true Running NoMessage)) (side_of w f.peer) (requests_of f') (requests_of (closed f')) (requests_of (machine.end_of m f.peer)) =
      goes_over o (with_link side (gone_link side.link s' side.link.ended side.link.moving.phase side.link.receiver.progress)) (side_of w f.peer) (requests_of f') (requests_of (machine.end_of m f.peer)) (end_of_queue l.terms s') refl (ap not alive') (live_not_carried w m o.context s.placed h.live) first.own first.other sound.sound.told_posted ends
      (end_near f' sound.sound (subst (λ k. is_mtu k ≡ true) (joined_here w m o l s h).mtu (joined_here w m o l s h).terms.mtu) (ended_here w m o l s h ∙ alive) sound.depth) in
      steps_stand w _ m _ o _ _ e' (closed f') (ended_link l') (home_steps w m o l s h _ _ _ e' (closed f') (ended_link l') a goes) s
      (subst (λ z. Goes o side (with_link side (gone_link z (emptied_at (end_of_queue l.terms s')) true Running NoMessage)) (side_of w f.peer) (requests_of f) (requests_of (closed f')) (requests_of (machine.end_of m f.peer))) (link_is w m o l s h)
      (goes_then o side _ _ (side_of w f.peer) (requests_of f) (requests_of f') (requests_of (closed f')) (requests_of (machine.end_of m f.peer)) first second))
