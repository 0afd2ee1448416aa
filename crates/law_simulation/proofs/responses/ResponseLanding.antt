-- Bytes land at an end in Rts, and what is told then is completed: the relation is kept.
use Rattle.std.proofs.Common.{arith, ◌≡◌, ◌≤◌, ◌<◌, ◌+◌, ℕ, zero, suc, List, ◌++◌, length, map, filter, true, false, refl, sym, ap, ◌∙◌, subst}
use Rattle.std.specs.Prelude.{Some, All, drop, take}
use Rattle.std.proofs.Math.Seq.{drop-cons}
use Rattle.std.proofs.lemmas.List.{append-nil, append_assoc, drop-drop}
use Rattle.rdma_types.specs.declared.names.ObjName.{ObjName}
use Rattle.rdma_types.specs.declared.answers.Answer.{Answer}
use Rattle.rdma_types.specs.declared.requests.Completion.{Completion}
use Rattle.rdma_types.specs.Lists.{has_name, store_named}
use Rattle.rdma_types.specs.Objects.{IsWhole, Region, no_posted}
use Rattle.protocol.specs.State as state
use Rattle.protocol.specs.State.{World, Link, Sender}
use Rattle.protocol.specs.EndWords as words
use Rattle.protocol.specs.Requester.{after_telling, told_completions, telling}
use Rattle.protocol.specs.DeviceStep as device
use Rattle.protocol.specs.WorldStep.{home, ran}
use Rattle.packetless_machine.specs.Machine as machine
use Rattle.packetless_machine.specs.Machine.{Machine, End, has_end}
use Rattle.packetless_machine.specs.Steps.{front, success, told_one}
use Rattle.law_simulation.specs.Views.{owned, owned_there, requests_of}
use Rattle.law_simulation.specs.Stands.{Stands, IsContextSound, IsEndSound}
use Rattle.law_simulation.proofs.relation.Ends.{completing_there, ends_store, with_more, with_more_names}
use Rattle.law_simulation.proofs.relation.Live.{live_of, live_name, live_same}
use Rattle.law_simulation.proofs.relation.Machines.{MachineChanged}
use Rattle.law_simulation.proofs.relation.Linked.{end_there_of, connected_sound, domain_there}
use Rattle.law_simulation.proofs.relation.Sounds.{queue_there, queues_like}
use Rattle.law_simulation.proofs.sending.GoEnd.{Goes_on, gone_end}
use Rattle.law_simulation.proofs.sending.GoLive.{LiveEnd, ContextGoes, both, connected_here, ended_here, goes_on_here, name_here, name_there, owned_gone, sound_here, untold_here}
use Rattle.law_simulation.proofs.sending.GoSound.{MayKnow, gone_sound}
use Rattle.law_simulation.proofs.delivery.Regions.{AreLike, like_progress, like_sound}
use Rattle.law_simulation.proofs.responses.ResponseTold.{entries_by, learned_context, told_by}
use Rattle.law_simulation.proofs.responses.ResponseTelling.{Advances, done_first, learned_there}

-- ---- completions

pub entries_within : (count : ℕ) (e : End) → e.told + count ≤ length e.posted → map (words.done_request e.number) (filter (λ p. p.request.signaled) (take count (drop e.told e.posted))) ≡ entries_by e count
unfolding entries_by success told_one
entries_within zero e within = refl
entries_within (suc count) e within =
    let here : e.told < length e.posted = omega (arith, within) in
    ap (λ xs. map (words.done_request e.number) (filter (λ p. p.request.signaled) (take (suc count) xs))) (drop-cons e.posted e.told no_posted here)
    ∙ done_first e.number (front e) (take count (drop (suc e.told) e.posted)) (entries_by (told_one e) count) (entries_within count (told_one e) (omega (arith, within)))

pub entries_more : (count : ℕ) (e : End) → entries_by e (count + 1) ≡ entries_by e count ++ success (told_by e count) (front (told_by e count))
unfolding entries_by told_by
entries_more zero e = append-nil _
entries_more (suc count) e =
    let next : suc count + 1 ≡ suc (count + 1) = omega arith in
    ap (entries_by e) next
    ∙ (ap (λ xs. success e (front e) ++ xs) (entries_more count (told_one e))
    ∙ sym (append_assoc (success e (front e)) (entries_by (told_one e) count) _))

-- ---- the context

-- m' is m, but that the end o is g, its send queue has more entries, and the regions of its context are these
pub record LearnedAt (m m' : Machine) (o : ObjName) (g : End) (more : List Completion) (rs : List Region) : Type 0 where
  pub changed : MachineChanged m m' o.context (record (learned_context (machine.context_of m o.context) o.name g (machine.end_of m o).send_queue more) { regions = rs })
  pub numbers : m'.numbers ≡ m.numbers
  pub keys : m'.keys ≡ m.keys

module _ (w : World) (m : Machine) (o : ObjName) (l : Link) (s : Stands w m) (h : LiveEnd w m o l) (rs : List Region) (like : AreLike (machine.context_of m o.context).regions rs) (whole : All IsWhole rs) (said : All (λ r. All (λ b. b < 256) r.bytes) rs) where
  abbrev f : End
  f = machine.end_of m o

  abbrev c : state.Context
  c = live_of w o.context

  abbrev y : machine.Context
  y = machine.context_of m o.context

  abbrev e : state.End
  e = end_there_of w o

  queue_here : has_name (λ q. q.name) f.send_queue y.queues ≡ true
  queue_here = queue_there f.send_queue y.queues (sound_here w m o l s h).send_queue

  in_list : has_name (λ z. z.name) o.name y.ends ≡ true
  unfolding has_end
  in_list = h.found

  module _ (s2 : Sender) (count known spent waits : ℕ) (m' : Machine) (alive : l.ended ≡ false) (a : Advances w m o l s h s2 count) (knows : MayKnow f (f.told + count) known) (learned : LearnedAt m m' o (gone_end f (f.told + count) known spent waits f.ended) (entries_by f count) rs)
      (on : Goes_on (after_telling l.terms s2) (requests_of (gone_end f (f.told + count) known spent waits f.ended))) where
    abbrev g : End
    g = gone_end f (f.told + count) known spent waits f.ended

    abbrev s3 : Sender
    s3 = after_telling l.terms s2

    abbrev e3 : state.End
    e3 = record e { link = Some (words.with_sender l s3) }

    gone_sound_here : IsEndSound y.regions (map (λ q. q.name) y.queues) g
    gone_sound_here = gone_sound _ _ f (f.told + count) known spent waits (connected_here w m o l s h) (ended_here w m o l s h ∙ alive) knows (sound_here w m o l s h)

    sound_after : IsContextSound m.keys (learned_context y o.name g f.send_queue (entries_by f count))
    sound_after =
        let before = connected_sound m.keys y o.name (machine.nobody o) g in_list (name_here w m o l s h) (domain_there m o in_list (s.sound o.context)) gone_sound_here (s.sound o.context) in
        record {
          whole = before.whole;
          bytes = before.bytes;
          keyed = before.keyed;
          keyed_once = before.keyed_once;
          named_once = before.named_once;
          ends = queues_like y.regions _ _ _ (with_more_names y.queues f.send_queue (entries_by f count) queue_here) before.ends;
          regions_in = before.regions_in;
          ends_in = before.ends_in;
          regions_end = before.regions_end;
        }

    rest_is : s3.untold ≡ drop (f.told + count) f.posted
    unfolding after_telling
    rest_is =
        ap (λ k. drop k s2.untold) a.counts
        ∙ (ap (drop count) (a.untold ∙ untold_here w m o l s h) ∙ drop-drop count f.told f.posted)

    top_is : l.sender.top ≤ s3.top
    unfolding after_telling
    top_is = omega (arith, a.top)

    goes : ContextGoes w m m' o (record (learned_there c o.name e3 y.queues f.send_queue (entries_by f count)) { regions = rs }) (record (learned_context y o.name g f.send_queue (entries_by f count)) { regions = rs }) e3 g (words.with_sender l s3)
    unfolding words.with_sender
    goes =
        let before = live_same w m o.context s h.live in
        record {
          name = live_name w o.context h.live;
          changed = learned.changed;
          ends = refl;
          named_there = name_there w m o l s h;
          link = refl;
          ends_here = refl;
          named_here = name_here w m o l s h;
          number = refl;
          numbers = learned.numbers;
          keys = learned.keys;
          same = record {
            domains = before.domains;
            regions = refl;
            queues = refl;
            ends = ends_store o.name e3 g c.ends y.ends before.ends (owned_gone e f l s3 (f.told + count) known spent waits (both w m o l s h) h.linked rest_is);
          };
          sound = like_sound m.keys (learned_context y o.name g f.send_queue (entries_by f count)) rs like whole said sound_after;
          regions = λ q domain p k. like_progress q domain y.regions rs p like k;
        }

    told_within : f.told + count ≤ length f.posted
    told_within = omega (arith, knows.acted, (sound_here w m o l s h).sound.acted_posted)

    completed : told_completions e.number l.terms s2 ≡ entries_by f count
    unfolding told_completions owned_there owned
    completed =
        ap (λ k. map (words.done_request e.number) (filter (λ p. p.request.signaled) (take k s2.untold))) a.counts
        ∙ (ap (λ us. map (words.done_request e.number) (filter (λ p. p.request.signaled) (take count us))) (a.untold ∙ untold_here w m o l s h)
        ∙ (ap (λ z. map (words.done_request z.number) (filter (λ p. p.request.signaled) (take count (drop f.told f.posted)))) (both w m o l s h)
        ∙ entries_within count f told_within))

    telling_is : telling (record c { regions = rs }) e l s2 ≡ record (learned_there c o.name e3 y.queues f.send_queue (entries_by f count)) { regions = rs }
    unfolding telling words.with_end words.with_link owned_there owned
    telling_is =
        let x : state.Context = words.linked (record c { regions = rs }) e (words.with_sender l s3) in
        ap (words.completing x e.send_cq) completed
        ∙ (ap (λ z. words.completing x z.send_queue (entries_by f count)) (both w m o l s h)
        ∙ (completing_there x y.queues f.send_queue (entries_by f count) (live_same w m o.context s h.live).queues queue_here
        ∙ ap (λ k. record c { regions = rs; ends = store_named (λ z. z.name) k e3 c.ends; queues = with_more y.queues f.send_queue (entries_by f count) }) (name_there w m o l s h)))

    pub landing_stands : (answer : Answer) → Stands (ran w (device.answers (device.with_context (home w o.context) (telling (record c { regions = rs }) e l s2)) answer)).world m'
    landing_stands answer =
        subst (λ z. Stands (ran w (device.answers (device.with_context (home w o.context) z) answer)).world m') (sym telling_is)
        (goes_on_here w m o l s h s3 (f.told + count) known spent waits alive (omega arith) top_is on m' _ _ e3 answer goes)
