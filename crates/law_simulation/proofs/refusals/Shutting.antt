-- The context of an end that refuses: where its receive is too short, that completes with an error, and the rest is flushed.
use Rattle.std.proofs.Common.{arith, ◌≡◌, ℕ, List, [], ◌∷◌, ◌++◌, length, map, true, refl, sym, ap, ◌∙◌}
use Rattle.std.specs.Prelude.{Option, Some, None, is_some, drop, if◌then◌else◌, option_to_list}
use Rattle.std.proofs.lemmas.List.{append-nil, drop_all}
use Rattle.rdma_types.specs.declared.names.Name.{Name}
use Rattle.rdma_types.specs.declared.requests.Completion.{Completion}
use Rattle.rdma_types.specs.declared.requests.Receive.{Receive}
use Rattle.rdma_types.specs.declared.requests.WcStatus.{WcStatus}
use Rattle.rdma_types.specs.declared.requests.WcStatus.TheVariants as statuses
use Rattle.rdma_types.specs.Lists.{has_name, has_word, store_named}
use Rattle.rdma_types.specs.Objects.{CompletionQueue, Posted, no_queue}
use Rattle.protocol.specs.State as state
use Rattle.protocol.specs.State.{Link, Progress, NoMessage, InSend, InWrite}
use Rattle.protocol.specs.EndWords as words
use Rattle.protocol.specs.Requester.{ended_link, ended_with, failing}
use Rattle.protocol.specs.Responder as responder
use Rattle.packetless_machine.specs.Machine as machine
use Rattle.packetless_machine.specs.Machine.{End, completed, nobody}
use Rattle.packetless_machine.specs.Steps.{closed, failed_queues, failed_receives, failed_requests, first_receive, receive_for, receives_of, too_long, unused_after, untold}
use Rattle.law_simulation.specs.Views.{Owned, owned, owned_there, link_or_none, receive_in}
use Rattle.law_simulation.specs.Stands.{AreSame, IsContextSound, IsEndSound}
use Rattle.law_simulation.proofs.relation.Tables.{replaced-stored, has_name-store, name-named_there}
use Rattle.law_simulation.proofs.relation.Ends.{ends_store, queue_in, with_more, with_more_names, completing_there}
use Rattle.law_simulation.proofs.relation.Sounds.{queue_there, queues_like}
use Rattle.law_simulation.proofs.relation.Linked.{connected_sound}
use Rattle.law_simulation.proofs.delivery.Arriving.{stored_again}
use Rattle.law_simulation.proofs.sending.GoSound.{closed_sound}

-- ---- what is completed is the same

flushed : (number : ℕ) (rs : List Posted) → map (words.failed_request number statuses.Flush) rs ≡ failed_requests number statuses.Flush rs
unfolding failed_requests
flushed number [] = refl
flushed number (r ∷ rs) = ap (λ xs. words.failed_request number statuses.Flush r ∷ xs) (flushed number rs)

failing_same : (number : ℕ) (status : WcStatus) (rs : List Posted) → failing number status rs ≡ failed_requests number status rs
unfolding failing failed_requests
failing_same number status [] = refl
failing_same number status (r ∷ rs) = ap (λ xs. words.failed_request number status r ∷ xs) (flushed number rs)

pub in_use_same : (p : Progress) → words.in_use_by p ≡ option_to_list (receive_in p)
unfolding receive_in
in_use_same NoMessage = refl
in_use_same (InSend done receive) = refl
in_use_same (InWrite region off count done) = refl

-- ---- queues

completed_there : (queues : List CompletionQueue) (n : Name) (more : List Completion) → has_name (λ q. q.name) n queues ≡ true → completed n more queues ≡ with_more queues n more
unfolding completed
completed_there queues n more there = replaced-stored (λ q. q.name) n (machine.longer (queue_in queues n) more) queues there

still_there : (queues : List CompletionQueue) (a b : Name) (xs : List Completion) → has_name (λ q. q.name) a queues ≡ true → has_name (λ q. q.name) b queues ≡ true → has_name (λ q. q.name) b (with_more queues a xs) ≡ true
still_there queues a b xs there there' = has_name-store (λ q. q.name) a b (record (queue_in queues a) { entries = (queue_in queues a).entries ++ xs }) queues there (name-named_there (λ q. q.name) no_queue a queues there) ∙ there'

-- no entries change nothing
more_none : (queues : List CompletionQueue) (n : Name) → has_name (λ q. q.name) n queues ≡ true → with_more queues n [] ≡ queues
more_none queues n there =
    ap (λ es. store_named (λ q. q.name) n (record (queue_in queues n) { entries = es }) queues) (append-nil (queue_in queues n).entries)
    ∙ stored_again (λ q. q.name) no_queue n queues there

-- ---- the end

-- the end e with the link l, which goes to Error
abbrev pub over_end : state.End → Link → state.End
over_end e l = record e { unused = []; link = Some (ended_link l) }

owned_over : (e : state.End) (x : End) (l : Link) → owned_there (record e { link = Some l }) ≡ owned x → owned_there (over_end e l) ≡ owned (closed x)
unfolding owned_there owned untold link_or_none closed ended_link receive_in
owned_over e x l same =
    ap (λ (z : Owned). record z { ended = true; untold = []; in_use = None; unused = [] }) same
    ∙ ap (λ us. record (owned x) { ended = true; untold = us; in_use = None; unused = [] }) (sym (drop_all (length x.posted) x.posted (omega arith)))

-- ---- receives

front_is : (u : Option Receive) (us : List Receive) (v : Receive) → first_receive u us ≡ Some v → responder.front (option_to_list u ++ us) ≡ v
unfolding first_receive
front_is (Some z) us v h = cc
front_is None [] v h = absurd (cc)
front_is None (z ∷ us) v h = cc

dropped_is : (u : Option Receive) (us : List Receive) → drop 1 (option_to_list u ++ us) ≡ (if is_some u then us else drop 1 us)
dropped_is (Some z) us = refl
dropped_is None us = refl

-- ---- the context on both sides

module _ (keys : List ℕ) (c : state.Context) (y : machine.Context) (n : Name) (e : state.End) (x : End) (l : Link) (same : AreSame c y) (sound : IsContextSound keys y) (found : has_name (λ z. z.name) n y.ends ≡ true)
    (name : e.name ≡ n) (linked : e.link ≡ Some l) (owns : owned_there e ≡ owned x) (connected : x.connected ≡ true) (domain : has_word x.domain y.domains ≡ true) (end_sound : IsEndSound y.regions (map (λ z. z.name) y.queues) x) where
  abbrev status : WcStatus
  status = statuses.Flush

  send_there : has_name (λ z. z.name) x.send_queue y.queues ≡ true
  send_there = queue_there x.send_queue y.queues end_sound.send_queue

  receive_there : has_name (λ z. z.name) x.receive_queue y.queues ≡ true
  receive_there = queue_there x.receive_queue y.queues end_sound.receive_queue

  abbrev requests : List Completion
  requests = failed_requests x.number statuses.Flush (untold x)

  -- all work is completed in these queues
  abbrev with_flushed : List CompletionQueue → List Receive → List CompletionQueue
  with_flushed queues rs = with_more (with_more queues x.send_queue requests) x.receive_queue (failed_receives x.number rs)

  -- .. after these entries
  abbrev pub queues_after : List Completion → List Receive → List CompletionQueue
  queues_after es rs = with_flushed (with_more y.queues x.receive_queue es) rs

  abbrev pub here_after : List Completion → List Receive → machine.Context
  here_after es rs = record y { ends = store_named (λ z. z.name) n (closed x) y.ends; queues = queues_after es rs }

  abbrev pub there_after : List Completion → List Receive → state.Context
  there_after es rs = record c { ends = store_named (λ z. z.name) n (over_end e l) c.ends; queues = queues_after es rs }

  first_send : (es : List Completion) → has_name (λ z. z.name) x.send_queue (with_more y.queues x.receive_queue es) ≡ true
  first_send es = still_there y.queues x.receive_queue x.send_queue es receive_there send_there

  first_receive_there : (es : List Completion) → has_name (λ z. z.name) x.receive_queue (with_more y.queues x.receive_queue es) ≡ true
  first_receive_there es = still_there y.queues x.receive_queue x.receive_queue es receive_there receive_there

  then_receive : (es : List Completion) → has_name (λ z. z.name) x.receive_queue (with_more (with_more y.queues x.receive_queue es) x.send_queue requests) ≡ true
  then_receive es = still_there (with_more y.queues x.receive_queue es) x.send_queue x.receive_queue requests (first_send es) (first_receive_there es)

  names_after : (es : List Completion) (rs : List Receive) → map (λ z. z.name) (queues_after es rs) ≡ map (λ z. z.name) y.queues
  names_after es rs =
      with_more_names (with_more (with_more y.queues x.receive_queue es) x.send_queue requests) x.receive_queue (failed_receives x.number rs) (then_receive es)
      ∙ (with_more_names (with_more y.queues x.receive_queue es) x.send_queue requests (first_send es) ∙ with_more_names y.queues x.receive_queue es receive_there)

  -- those of the machine
  pub machine_queues : (es : List Completion) (rs : List Receive) → failed_queues x statuses.Flush rs (completed x.receive_queue es y.queues) ≡ queues_after es rs
  unfolding failed_queues
  machine_queues es rs =
      ap (λ qs. completed x.receive_queue (failed_receives x.number rs) (completed x.send_queue requests qs)) (completed_there y.queues x.receive_queue es receive_there)
      ∙ (ap (completed x.receive_queue (failed_receives x.number rs)) (completed_there (with_more y.queues x.receive_queue es) x.send_queue requests (first_send es))
      ∙ completed_there (with_more (with_more y.queues x.receive_queue es) x.send_queue requests) x.receive_queue (failed_receives x.number rs) (then_receive es))

  owned_linked : owned_there (record e { link = Some l }) ≡ owned x
  owned_linked = (λ i. owned_there (record e { link = sym linked i })) ∙ owns

  pub same_after : (es : List Completion) (rs : List Receive) → AreSame (there_after es rs) (here_after es rs)
  same_after es rs = record {
    domains = same.domains;
    regions = same.regions;
    queues = refl;
    ends = ends_store n (over_end e l) (closed x) c.ends y.ends same.ends (owned_over e x l owned_linked);
  }

  x_name : x.name ≡ n
  unfolding owned_there owned
  x_name = ap (λ z. z.name) (sym owns) ∙ name

  pub sound_after : (es : List Completion) (rs : List Receive) → IsContextSound keys (here_after es rs)
  unfolding closed
  sound_after es rs =
      let before = connected_sound keys y n (nobody (record { context = []; name = [] })) (closed x) found x_name domain (closed_sound y.regions (map (λ z. z.name) y.queues) x connected end_sound) sound in
      record {
        whole = before.whole;
        bytes = before.bytes;
        keyed = before.keyed;
        keyed_once = before.keyed_once;
        named_once = before.named_once;
        ends = queues_like y.regions _ _ _ (names_after es rs) before.ends;
        regions_in = before.regions_in;
        ends_in = before.ends_in;
        regions_end = before.regions_end;
      }

  -- ---- the world's context

  ended_is : (c1 : state.Context) (qs : List CompletionQueue) (e1 : state.End) (l1 : Link) (rs : List Receive) → c1.queues ≡ qs → has_name (λ z. z.name) x.send_queue qs ≡ true → has_name (λ z. z.name) x.receive_queue qs ≡ true →
      e1.number ≡ x.number → e1.send_cq ≡ x.send_queue → e1.recv_cq ≡ x.receive_queue → l1.sender.untold ≡ untold x → words.in_use_by l1.receiver.progress ++ e1.unused ≡ rs →
      ended_with c1 e1 l1 statuses.Flush ≡ record c1 { ends = store_named (λ z. z.name) e1.name (over_end e1 l1) c1.ends; queues = with_flushed qs rs }
  unfolding ended_with words.with_end words.with_link words.with_unused failed_receives
  ended_is c1 qs e1 l1 rs queues send receive number send_cq recv_cq left used =
      let c2 : state.Context = words.linked c1 (words.with_unused e1 []) (ended_link l1) in
      (λ i. words.completing (words.completing c2 (send_cq i) (failing (number i) statuses.Flush (left i))) (recv_cq i) (map (words.failed_receive (number i) statuses.Flush) (used i)))
      ∙ (ap (λ xs. words.completing (words.completing c2 x.send_queue xs) x.receive_queue (failed_receives x.number rs)) (failing_same x.number statuses.Flush (untold x))
      ∙ (ap (λ z. words.completing z x.receive_queue (failed_receives x.number rs)) (completing_there c2 qs x.send_queue requests queues send)
      ∙ completing_there (record c2 { queues = with_more qs x.send_queue requests }) (with_more qs x.send_queue requests) x.receive_queue (failed_receives x.number rs) refl (still_there qs x.send_queue x.receive_queue requests send receive)))

  number_same : e.number ≡ x.number
  unfolding owned_there owned
  number_same = ap (λ z. z.number) owns

  send_same : e.send_cq ≡ x.send_queue
  unfolding owned_there owned
  send_same = ap (λ z. z.send_queue) owns

  receive_same : e.recv_cq ≡ x.receive_queue
  unfolding owned_there owned
  receive_same = ap (λ z. z.receive_queue) owns

  untold_same : l.sender.untold ≡ untold x
  unfolding owned_there owned link_or_none
  untold_same = ap (λ z. z.untold) owned_linked

  unused_same : e.unused ≡ x.unused
  unfolding owned_there owned
  unused_same = ap (λ z. z.unused) owns

  pub used_same : words.in_use_by l.receiver.progress ≡ option_to_list x.in_use
  unfolding owned_there owned link_or_none
  used_same = in_use_same l.receiver.progress ∙ ap (λ z. option_to_list z.in_use) owned_linked

  -- the receives that it has are flushed
  pub ended_there : ended_with c e l statuses.Flush ≡ there_after [] (receives_of x)
  ended_there =
      ended_is c y.queues e l (receives_of x) same.queues send_there receive_there number_same send_same receive_same untold_same (λ i. used_same i ++ unused_same i)
      ∙ (λ i. record c { ends = store_named (λ z. z.name) (name i) (over_end e l) c.ends; queues = with_flushed (sym (more_none y.queues x.receive_queue receive_there) i) (receives_of x) })

  -- .. but for one that is too short
  module _ (v : Receive) (first : receive_for x ≡ Some v) where
    short_is : responder.receive_of e l.receiver.progress ≡ v
    unfolding responder.receive_of receive_for
    short_is = (λ i. responder.front (used_same i ++ unused_same i)) ∙ front_is x.in_use x.unused v first

    entries_are : words.failed_receive e.number statuses.LocalLength (responder.receive_of e l.receiver.progress) ∷ [] ≡ too_long x.number (receive_for x)
    unfolding too_long
    entries_are = (λ i. words.failed_receive (number_same i) statuses.LocalLength (short_is i) ∷ []) ∙ ap (too_long x.number) (sym first)

    left_are : responder.unused_after e l.receiver.progress ≡ unused_after x
    unfolding unused_after
    left_are = (λ i. drop 1 (used_same i ++ unused_same i)) ∙ dropped_is x.in_use x.unused

    abbrev short_entries : List Completion
    short_entries = words.failed_receive e.number statuses.LocalLength (responder.receive_of e l.receiver.progress) ∷ []

    pub short_there : ended_with (words.completing c e.recv_cq short_entries) (words.with_unused e (responder.unused_after e l.receiver.progress)) (responder.idled l) statuses.Flush ≡ there_after (too_long x.number (receive_for x)) (unused_after x)
    unfolding words.with_unused words.with_receiver ended_link
    short_there =
        let es : List Completion = too_long x.number (receive_for x) in
        let c1 : state.Context = record c { queues = with_more y.queues x.receive_queue es } in
        ap (λ z. ended_with z (words.with_unused e (responder.unused_after e l.receiver.progress)) (responder.idled l) statuses.Flush)
        ((λ i. words.completing c (receive_same i) (entries_are i)) ∙ completing_there c y.queues x.receive_queue es same.queues receive_there)
        ∙ (ended_is c1 (with_more y.queues x.receive_queue es) (words.with_unused e (responder.unused_after e l.receiver.progress)) (responder.idled l) (unused_after x) refl (first_send es) (first_receive_there es) number_same send_same receive_same untold_same left_are
        ∙ ap (λ k. record c { ends = store_named (λ z. z.name) k (over_end e l) c.ends; queues = queues_after es (unused_after x) }) name)
