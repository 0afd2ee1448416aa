-- What is told is completed alike on both sides, and the relation is kept.
use Rattle.std.proofs.Common.{arith, ◌≡◌, ◌≤◌, ◌+◌, ℕ, zero, suc, List, [], ◌∷◌, ◌++◌, map, filter, true, false, Bool, refl, sym, ap, ◌∙◌, subst}
use Rattle.std.specs.Prelude.{Some, drop, take, if◌then◌else◌}
use Rattle.std.proofs.Math.Seq.{drop-cons}
use Rattle.std.proofs.lemmas.List.{drop-drop}
use Rattle.rdma_types.specs.declared.names.Name.{Name}
use Rattle.rdma_types.specs.declared.names.ObjName.{ObjName}
use Rattle.rdma_types.specs.declared.answers.Answer.{Answer}
use Rattle.rdma_types.specs.declared.requests.Completion.{Completion}
use Rattle.rdma_types.specs.declared.requests.WcStatus.{WcStatus}
use Rattle.rdma_types.specs.Lists.{has_name, store_named}
use Rattle.rdma_types.specs.Objects.{CompletionQueue, Posted, no_posted}
use Rattle.protocol.specs.State as state
use Rattle.protocol.specs.State.{World, Link, Sender}
use Rattle.protocol.specs.EndWords as words
use Rattle.protocol.specs.Requester.{after_telling, ended_with, told_completions, told_count, telling}
use Rattle.protocol.specs.DeviceStep as device
use Rattle.protocol.specs.WorldStep.{home, ran}
use Rattle.packetless_machine.specs.Machine as machine
use Rattle.packetless_machine.specs.Machine.{Machine, End, has_end}
use Rattle.packetless_machine.specs.Steps as making
use Rattle.packetless_machine.specs.Steps.{front, success, told_one}
use Rattle.law_simulation.specs.Views.{owned, owned_there, requests_of}
use Rattle.law_simulation.specs.Stands.{Stands, IsContextSound, IsEndSound}
use Rattle.law_simulation.proofs.relation.Ends.{completing_there, ends_store, with_more, with_more_names}
use Rattle.law_simulation.proofs.relation.Live.{live_of, live_name, live_same}
use Rattle.law_simulation.proofs.relation.Linked.{end_there_of, connected_sound, domain_there}
use Rattle.law_simulation.proofs.relation.Sounds.{queue_there, queues_like}
use Rattle.law_simulation.proofs.sending.GoEnd.{Goes_on, gone_end}
use Rattle.law_simulation.proofs.sending.GoLive.{LiveEnd, ContextGoes, both, connected_here, ended_here, goes_on_here, name_here, name_there, owned_gone, sound_here, untold_here}
use Rattle.law_simulation.proofs.sending.GoEnding.{over_stands}
use Rattle.law_simulation.proofs.sending.GoSound.{MayKnow, gone_sound}
use Rattle.law_simulation.proofs.responses.ResponseTold.{Learned, MayTell, Stays, entries_by, learned_context}

-- ---- completions

pub done_first : (number : ℕ) (r : Posted) (rs : List Posted) (entries : List Completion) → map (words.done_request number) (filter (λ p. p.request.signaled) rs) ≡ entries →
    map (words.done_request number) (filter (λ p. p.request.signaled) (r ∷ rs)) ≡ (if r.request.signaled then words.done_request number r ∷ [] else []) ++ entries
done_first number r rs entries h = by_signaled r.request.signaled
  where
    by_signaled : (b : Bool) → map (words.done_request number) (if b then r ∷ filter (λ p. p.request.signaled) rs else filter (λ p. p.request.signaled) rs) ≡ (if b then words.done_request number r ∷ [] else []) ++ entries
    by_signaled true = ap (λ xs. words.done_request number r ∷ xs) h
    by_signaled false = h

pub entries_are : (count : ℕ) (e : End) → MayTell e count → map (words.done_request e.number) (filter (λ p. p.request.signaled) (take count (drop e.told e.posted))) ≡ entries_by e count
unfolding MayTell entries_by success told_one
entries_are zero e may = refl
entries_are (suc count) e may =
    ap (λ xs. map (words.done_request e.number) (filter (λ p. p.request.signaled) (take (suc count) xs))) (drop-cons e.posted e.told no_posted may.0.there)
    ∙ done_first e.number (front e) (take count (drop (suc e.told) e.posted)) (entries_by (told_one e) count) (entries_are count (told_one e) may.1)

-- ---- the context

-- the context where the end is e, and a queue has more entries
abbrev pub learned_there : state.Context → Name → state.End → List CompletionQueue → Name → List Completion → state.Context
learned_there c n e queues q more = record c { ends = store_named (λ z. z.name) n e c.ends; queues = with_more queues q more }

module _ (w : World) (m : Machine) (o : ObjName) (l : Link) (s : Stands w m) (h : LiveEnd w m o l) where
  abbrev f : End
  f = machine.end_of m o

  abbrev c : state.Context
  c = live_of w o.context

  abbrev y : machine.Context
  y = machine.context_of m o.context

  abbrev e : state.End
  e = end_there_of w o

  queue_here : has_name (λ q. q.name) f.send_queue y.queues ≡ true
  queue_here = queue_there f.send_queue y.queues (sound_here w m o l s h).send_queue

  pub stays_here : Stays m o
  unfolding has_end
  stays_here = record { there = h.there; found = h.found; named = name_here w m o l s h; queue = queue_here }

  module _ (s' : Sender) (told known spent waits : ℕ) (more : List Completion) (m' : Machine) (alive : l.ended ≡ false) (rest : s'.untold ≡ drop told f.posted) (knows : MayKnow f told known) (learned : Learned m m' o (gone_end f told known spent waits f.ended) more) where
    abbrev g : End
    g = gone_end f told known spent waits f.ended

    abbrev e' : state.End
    e' = record e { link = Some (words.with_sender l s') }

    in_list : has_name (λ z. z.name) o.name y.ends ≡ true
    unfolding has_end
    in_list = h.found

    pub gone_sound_here : IsEndSound y.regions (map (λ q. q.name) y.queues) g
    gone_sound_here = gone_sound _ _ f told known spent waits (connected_here w m o l s h) (ended_here w m o l s h ∙ alive) knows (sound_here w m o l s h)

    pub gone_sound_after : IsEndSound y.regions (map (λ q. q.name) (with_more y.queues f.send_queue more)) g
    gone_sound_after = subst (λ ns. IsEndSound y.regions ns g) (sym (with_more_names y.queues f.send_queue more queue_here)) gone_sound_here

    sound_after : IsContextSound m.keys (learned_context y o.name g f.send_queue more)
    sound_after =
        let before = connected_sound m.keys y o.name (machine.nobody o) g in_list (name_here w m o l s h) (domain_there m o in_list (s.sound o.context)) gone_sound_here (s.sound o.context) in
        record {
          whole = before.whole;
          bytes = before.bytes;
          keyed = before.keyed;
          keyed_once = before.keyed_once;
          named_once = before.named_once;
          ends = queues_like y.regions _ _ _ (with_more_names y.queues f.send_queue more queue_here) before.ends;
          regions_in = before.regions_in;
          ends_in = before.ends_in;
          regions_end = before.regions_end;
        }

    pub learned_goes : ContextGoes w m m' o (learned_there c o.name e' y.queues f.send_queue more) (learned_context y o.name g f.send_queue more) e' g (words.with_sender l s')
    unfolding words.with_sender
    learned_goes =
        let before = live_same w m o.context s h.live in
        record {
          name = live_name w o.context h.live;
          changed = learned.changed;
          ends = refl;
          named_there = name_there w m o l s h;
          link = refl;
          ends_here = refl;
          named_here = name_here w m o l s h;
          number = refl;
          numbers = learned.numbers;
          keys = learned.keys;
          same = record {
            domains = before.domains;
            regions = before.regions;
            queues = refl;
            ends = ends_store o.name e' g c.ends y.ends before.ends (owned_gone e f l s' told known spent waits (both w m o l s h) h.linked rest);
          };
          sound = sound_after;
          regions = λ q domain p k. k;
        }

  -- ---- telling

  -- the requester s2 knows more than before, so that the first requests are told
  pub record Advances (s2 : Sender) (count : ℕ) : Type 0 where
    pub untold : s2.untold ≡ l.sender.untold
    pub top : s2.top ≡ l.sender.top
    pub counts : told_count l.terms s2 ≡ count

  module _ (s2 : Sender) (count known spent waits : ℕ) (m' : Machine) (alive : l.ended ≡ false) (a : Advances s2 count) (may : MayTell f count) (knows : MayKnow f (f.told + count) known) (learned : Learned m m' o (gone_end f (f.told + count) known spent waits f.ended) (entries_by f count))
      (on : Goes_on (after_telling l.terms s2) (requests_of (gone_end f (f.told + count) known spent waits f.ended))) where
    abbrev s3 : Sender
    s3 = after_telling l.terms s2

    completed : told_completions e.number l.terms s2 ≡ entries_by f count
    unfolding told_completions owned_there owned
    completed =
        ap (λ k. map (words.done_request e.number) (filter (λ p. p.request.signaled) (take k s2.untold))) a.counts
        ∙ (ap (λ us. map (words.done_request e.number) (filter (λ p. p.request.signaled) (take count us))) (a.untold ∙ untold_here w m o l s h)
        ∙ (ap (λ z. map (words.done_request z.number) (filter (λ p. p.request.signaled) (take count (drop f.told f.posted)))) (both w m o l s h)
        ∙ entries_are count f may))

    rest_is : s3.untold ≡ drop (f.told + count) f.posted
    unfolding after_telling
    rest_is =
        ap (λ k. drop k s2.untold) a.counts
        ∙ (ap (drop count) (a.untold ∙ untold_here w m o l s h) ∙ drop-drop count f.told f.posted)

    top_is : l.sender.top ≤ s3.top
    unfolding after_telling
    top_is = omega (arith, a.top)

    abbrev e3 : state.End
    e3 = record e { link = Some (words.with_sender l s3) }

    completing_is : (x : state.Context) → x.queues ≡ c.queues → words.completing x e.send_cq (told_completions e.number l.terms s2) ≡ record x { queues = with_more y.queues f.send_queue (entries_by f count) }
    unfolding owned_there owned
    completing_is x same =
        ap (words.completing x e.send_cq) completed
        ∙ (ap (λ z. words.completing x z.send_queue (entries_by f count)) (both w m o l s h)
        ∙ completing_there x y.queues f.send_queue (entries_by f count) (same ∙ (live_same w m o.context s h.live).queues) queue_here)

    telling_is : telling c e l s2 ≡ learned_there c o.name e3 y.queues f.send_queue (entries_by f count)
    unfolding telling words.with_end words.with_link
    telling_is =
        completing_is (words.linked c e (words.with_sender l s3)) refl
        ∙ ap (λ k. record c { ends = store_named (λ z. z.name) k e3 c.ends; queues = with_more y.queues f.send_queue (entries_by f count) }) (name_there w m o l s h)

    goes : ContextGoes w m m' o (learned_there c o.name e3 y.queues f.send_queue (entries_by f count)) (learned_context y o.name (gone_end f (f.told + count) known spent waits f.ended) f.send_queue (entries_by f count)) e3 (gone_end f (f.told + count) known spent waits f.ended) (words.with_sender l s3)
    goes = learned_goes s3 (f.told + count) known spent waits (entries_by f count) m' alive rest_is knows learned

    -- the end stays in Rts
    pub telling_stands : (answer : Answer) → Stands (ran w (device.answers (device.with_context (home w o.context) (telling c e l s2)) answer)).world m'
    telling_stands answer =
        subst (λ z. Stands (ran w (device.answers (device.with_context (home w o.context) z) answer)).world m') (sym telling_is)
        (goes_on_here w m o l s h s3 (f.told + count) known spent waits alive (omega arith) top_is on m' _ _ e3 answer goes)

    -- it goes to Error
    pub ending_stands : (status : WcStatus) (answer : Answer) → Stands (ran w (device.answers (device.with_context (home w o.context) (ended_with (words.completing c e.send_cq (told_completions e.number l.terms s2)) e (words.with_sender l s3) status)) answer)).world (making.ended_with m' o status)
    ending_stands status answer =
        subst (λ z. Stands (ran w (device.answers (device.with_context (home w o.context) (ended_with z e (words.with_sender l s3) status)) answer)).world (making.ended_with m' o status)) (sym (completing_is c refl))
        (over_stands w m o l s h s3 (f.told + count) known spent waits alive (omega arith) top_is on rest_is m' (record c { queues = with_more y.queues f.send_queue (entries_by f count) })
        (learned_context y o.name (gone_end f (f.told + count) known spent waits f.ended) f.send_queue (entries_by f count)) status answer refl goes
        (gone_sound_after s3 (f.told + count) known spent waits (entries_by f count) m' alive rest_is knows learned))
