-- Differences of plain values, and of all that a device holds, tell them apart.
use Rattle.std.proofs.Common.{◌≡◌, ℕ, List, [], ◌∷◌, refl, ap}
use Rattle.std.specs.Prelude.{Option}
use Rattle.rdma_types.specs.Objects.{CompletionQueue, Posted, Region}
use Rattle.rdma_types.specs.declared.requests.Keys.{Keys}
use Rattle.rdma_types.specs.declared.rights.Rights.{Rights}
use Rattle.protocol.specs.State.{Context, Device, End, Husk, Link, Receiver, Sender}
use Rattle.device_differences.specs.Differing.{first_of, across, between, maybe}
use Rattle.device_differences.specs.Numbers.{numbers_of_receive, numbers_of_request, numbers_of_completion, numbers_of_region, numbers_of_terms, numbers_of_moving, numbers_of_sender, numbers_of_progress, numbers_of_receiver, numbers_of_reply, numbers_of_link, numbers_of_entry, numbers_of_device}
use Rattle.device_differences.specs.Differences.{receive_difference, posted_difference, completion_difference, queue_difference, region_difference, sender_difference, reply_difference, receiver_difference, link_difference, work_difference, end_difference, context_difference, entry_difference, husk_difference, first_difference}
use Rattle.device_differences.proofs.Tells.{Tells, TellsAll, tells-as, none-tells, first-tells, across-tells, between-tells, maybe-tells, numbers-tell}
use Rattle.device_differences.proofs.Numbered.{same-address, same-flag, same-receive, same-terms, same-reply, same-entry, same-moving, same-completion, same-request, same-progress}

same-head : {m n : ℕ} → m ∷ [] ≡ n ∷ [] → m ≡ n
same-head e = cc

-- ---- the numbers of things that hold more

same-rights : (x y : Rights) → x.0 ≡ y.0 → x ≡ y
same-rights x y e = λ i. record { 0 = e i }

same-keys : (x y : Keys) → x.local ≡ y.local → x.remote ≡ y.remote → x ≡ y
same-keys x y local remote = λ i. record { local = local i; remote = remote i }

record SameRegion (x y : Region) : Type 0 where
  base : x.base ≡ y.base
  length : x.length ≡ y.length
  rights : x.rights ≡ y.rights
  keys : x.keys ≡ y.keys

same-region : (x y : Region) → numbers_of_region x ≡ numbers_of_region y → SameRegion x y
same-region x y e = record { base = cc; length = cc; rights = same-rights x.rights y.rights (cc); keys = same-keys x.keys y.keys (cc) (cc) }

record SameSender (x y : Sender) : Type 0 where
  first : x.first ≡ y.first
  una : x.una ≡ y.una
  next : x.next ≡ y.next
  top : x.top ≡ y.top
  spent : x.spent ≡ y.spent
  waits : x.waits ≡ y.waits
  rnr_wait : x.rnr_wait ≡ y.rnr_wait

same-sender : (x y : Sender) → numbers_of_sender x ≡ numbers_of_sender y → SameSender x y
same-sender x y e = record { first = cc; una = cc; next = cc; top = cc; spent = cc; waits = cc; rnr_wait = same-flag x.rnr_wait y.rnr_wait (cc) }

record SameReceiver (x y : Receiver) : Type 0 where
  expected : x.expected ≡ y.expected
  nak_sent : x.nak_sent ≡ y.nak_sent
  msn : x.msn ≡ y.msn

same-receiver : (x y : Receiver) → numbers_of_receiver x ≡ numbers_of_receiver y → SameReceiver x y
same-receiver x y e = record { expected = cc; nak_sent = same-flag x.nak_sent y.nak_sent (cc); msn = cc }

record SameLink (x y : Link) : Type 0 where
  ended : x.ended ≡ y.ended
  peer : x.peer ≡ y.peer

same-link : (x y : Link) → numbers_of_link x ≡ numbers_of_link y → SameLink x y
same-link x y e = record { ended = same-flag x.ended y.ended (cc); peer = cc }

record SameDevice (x y : Device) : Type 0 where
  id : x.id ≡ y.id
  address : x.address ≡ y.address
  qp_count : x.qp_count ≡ y.qp_count
  key_count : x.key_count ≡ y.key_count

same-device : (x y : Device) → numbers_of_device x ≡ numbers_of_device y → SameDevice x y
same-device x y e = record { id = cc; address = same-address x.address y.address (cc) (cc); qp_count = cc; key_count = cc }

-- ---- what they tell

receive-tells : TellsAll receive_difference
unfolding receive_difference
receive-tells = numbers-tell numbers_of_receive same-receive

posted-tells : TellsAll posted_difference
unfolding posted_difference
posted-tells x y =
    tells-as (posted_difference x y)
    (first-tells _ _ (numbers-tell numbers_of_request same-request x.request y.request) (first-tells _ _ (between-tells x.payload y.payload) none-tells))
    (λ h. let request : x.request ≡ y.request = h.0 in let payload : x.payload ≡ y.payload = h.1.0 in λ i. record { request = request i; payload = payload i })
    (λ e. (ap (λ z. z.request) e, (ap (λ z. z.payload) e, tt)))

completion-tells : TellsAll completion_difference
unfolding completion_difference
completion-tells = numbers-tell numbers_of_completion same-completion

queue-tells : TellsAll queue_difference
unfolding queue_difference
queue-tells x y =
    tells-as (queue_difference x y)
    (first-tells _ _ (between-tells x.name y.name) (first-tells _ _ (between-tells (x.capacity ∷ []) (y.capacity ∷ [])) (first-tells _ _ (across-tells completion_difference completion-tells x.entries y.entries) none-tells)))
    (λ h. let name : x.name ≡ y.name = h.0 in let capacity : x.capacity ≡ y.capacity = same-head h.1.0 in let entries : x.entries ≡ y.entries = h.1.1.0 in λ i. record { name = name i; capacity = capacity i; entries = entries i })
    (λ e. (ap (λ z. z.name) e, (ap (λ z. z.capacity ∷ []) e, (ap (λ z. z.entries) e, tt))))

region-tells : TellsAll region_difference
unfolding region_difference
region-tells x y =
    tells-as (region_difference x y)
    (first-tells _ _ (between-tells x.name y.name) (first-tells _ _ (between-tells x.domain y.domain) (first-tells _ _ (between-tells (numbers_of_region x) (numbers_of_region y)) (first-tells _ _ (between-tells x.bytes y.bytes) none-tells))))
    (λ h. let name : x.name ≡ y.name = h.0 in let domain : x.domain ≡ y.domain = h.1.0 in let base : x.base ≡ y.base = (same-region x y h.1.1.0).base in let length : x.length ≡ y.length = (same-region x y h.1.1.0).length in let rights : x.rights ≡ y.rights = (same-region x y h.1.1.0).rights in let keys : x.keys ≡ y.keys = (same-region x y h.1.1.0).keys in let bytes : x.bytes ≡ y.bytes = h.1.1.1.0 in λ i. record { name = name i; domain = domain i; base = base i; length = length i; rights = rights i; keys = keys i; bytes = bytes i })
    (λ e. (ap (λ z. z.name) e, (ap (λ z. z.domain) e, (ap numbers_of_region e, (ap (λ z. z.bytes) e, tt)))))

sender-tells : TellsAll sender_difference
unfolding sender_difference
sender-tells x y =
    tells-as (sender_difference x y)
    (first-tells _ _ (across-tells posted_difference posted-tells x.untold y.untold) (first-tells _ _ (between-tells (numbers_of_sender x) (numbers_of_sender y)) none-tells))
    (λ h. let untold : x.untold ≡ y.untold = h.0 in let first : x.first ≡ y.first = (same-sender x y h.1.0).first in let una : x.una ≡ y.una = (same-sender x y h.1.0).una in let next : x.next ≡ y.next = (same-sender x y h.1.0).next in let top : x.top ≡ y.top = (same-sender x y h.1.0).top in let spent : x.spent ≡ y.spent = (same-sender x y h.1.0).spent in let waits : x.waits ≡ y.waits = (same-sender x y h.1.0).waits in let rnr_wait : x.rnr_wait ≡ y.rnr_wait = (same-sender x y h.1.0).rnr_wait in λ i. record { untold = untold i; first = first i; una = una i; next = next i; top = top i; spent = spent i; waits = waits i; rnr_wait = rnr_wait i })
    (λ e. (ap (λ z. z.untold) e, (ap numbers_of_sender e, tt)))

reply-tells : TellsAll reply_difference
unfolding reply_difference
reply-tells = numbers-tell numbers_of_reply same-reply

receiver-tells : TellsAll receiver_difference
unfolding receiver_difference
receiver-tells x y =
    tells-as (receiver_difference x y)
    (first-tells _ _ (between-tells (numbers_of_receiver x) (numbers_of_receiver y)) (first-tells _ _ (numbers-tell numbers_of_progress same-progress x.progress y.progress) (first-tells _ _ (across-tells reply_difference reply-tells x.kept y.kept) none-tells)))
    (λ h. let expected : x.expected ≡ y.expected = (same-receiver x y h.0).expected in let nak_sent : x.nak_sent ≡ y.nak_sent = (same-receiver x y h.0).nak_sent in let msn : x.msn ≡ y.msn = (same-receiver x y h.0).msn in let progress : x.progress ≡ y.progress = h.1.0 in let kept : x.kept ≡ y.kept = h.1.1.0 in λ i. record { expected = expected i; nak_sent = nak_sent i; msn = msn i; progress = progress i; kept = kept i })
    (λ e. (ap numbers_of_receiver e, (ap (λ z. z.progress) e, (ap (λ z. z.kept) e, tt))))

link-tells : TellsAll link_difference
unfolding link_difference
link-tells x y =
    tells-as (link_difference x y)
    (first-tells _ _ (between-tells (numbers_of_link x) (numbers_of_link y)) (first-tells _ _ (numbers-tell numbers_of_terms same-terms x.terms y.terms) (first-tells _ _ (numbers-tell numbers_of_moving same-moving x.moving y.moving) (first-tells _ _ (sender-tells x.sender y.sender) (first-tells _ _ (receiver-tells x.receiver y.receiver) none-tells)))))
    (λ h. let ended : x.ended ≡ y.ended = (same-link x y h.0).ended in let peer : x.peer ≡ y.peer = (same-link x y h.0).peer in let terms : x.terms ≡ y.terms = h.1.0 in let moving : x.moving ≡ y.moving = h.1.1.0 in let sender : x.sender ≡ y.sender = h.1.1.1.0 in let receiver : x.receiver ≡ y.receiver = h.1.1.1.1.0 in λ i. record { ended = ended i; peer = peer i; terms = terms i; moving = moving i; sender = sender i; receiver = receiver i })
    (λ e. (ap numbers_of_link e, (ap (λ z. z.terms) e, (ap (λ z. z.moving) e, (ap (λ z. z.sender) e, (ap (λ z. z.receiver) e, tt))))))

-- queue pairs, but for their names and numbers
record SameWork (x y : End) : Type 0 where
  send_depth : x.send_depth ≡ y.send_depth
  recv_depth : x.recv_depth ≡ y.recv_depth
  unused : x.unused ≡ y.unused
  link : x.link ≡ y.link

same-depths : (x y : End) → x.send_depth ∷ x.recv_depth ∷ [] ≡ y.send_depth ∷ y.recv_depth ∷ [] → (x.send_depth ≡ y.send_depth) × (x.recv_depth ≡ y.recv_depth)
same-depths x y e = (cc, cc)

work-tells : (x y : End) → Tells (work_difference x y) (SameWork x y)
unfolding work_difference
work-tells x y =
    tells-as (work_difference x y)
    (first-tells _ _ (between-tells (x.send_depth ∷ x.recv_depth ∷ []) (y.send_depth ∷ y.recv_depth ∷ []))
    (first-tells _ _ (across-tells receive_difference receive-tells x.unused y.unused)
    (first-tells _ _ (maybe-tells link_difference link-tells x.link y.link) none-tells)))
    (λ h. let depths = same-depths x y h.0 in record { send_depth = depths.0; recv_depth = depths.1; unused = h.1.0; link = h.1.1.0 })
    (λ e. ((λ i. e.send_depth i ∷ e.recv_depth i ∷ []), (e.unused, (e.link, tt))))

end-tells : TellsAll end_difference
unfolding end_difference
end-tells x y =
    tells-as (end_difference x y)
    (first-tells _ _ (between-tells x.name y.name) (first-tells _ _ (between-tells (x.number ∷ []) (y.number ∷ [])) (first-tells _ _ (between-tells x.domain y.domain) (first-tells _ _ (between-tells x.send_cq y.send_cq) (first-tells _ _ (between-tells x.recv_cq y.recv_cq) (first-tells _ _ (work-tells x y) none-tells))))))
    (λ h. let name : x.name ≡ y.name = h.0 in let number : x.number ≡ y.number = same-head h.1.0 in let domain : x.domain ≡ y.domain = h.1.1.0 in let send_cq : x.send_cq ≡ y.send_cq = h.1.1.1.0 in let recv_cq : x.recv_cq ≡ y.recv_cq = h.1.1.1.1.0 in let send_depth : x.send_depth ≡ y.send_depth = (h.1.1.1.1.1.0).send_depth in let recv_depth : x.recv_depth ≡ y.recv_depth = (h.1.1.1.1.1.0).recv_depth in let unused : x.unused ≡ y.unused = (h.1.1.1.1.1.0).unused in let link : x.link ≡ y.link = (h.1.1.1.1.1.0).link in λ i. record { name = name i; number = number i; domain = domain i; send_cq = send_cq i; recv_cq = recv_cq i; send_depth = send_depth i; recv_depth = recv_depth i; unused = unused i; link = link i })
    (λ e. (ap (λ z. z.name) e, (ap (λ z. z.number ∷ []) e, (ap (λ z. z.domain) e, (ap (λ z. z.send_cq) e, (ap (λ z. z.recv_cq) e, (record { send_depth = ap (λ z. z.send_depth) e; recv_depth = ap (λ z. z.recv_depth) e; unused = ap (λ z. z.unused) e; link = ap (λ z. z.link) e }, tt)))))))

context-tells : TellsAll context_difference
unfolding context_difference
context-tells x y =
    tells-as (context_difference x y)
    (first-tells _ _ (between-tells x.name y.name) (first-tells _ _ (across-tells between between-tells x.domains y.domains) (first-tells _ _ (across-tells region_difference region-tells x.regions y.regions) (first-tells _ _ (across-tells queue_difference queue-tells x.queues y.queues) (first-tells _ _ (across-tells end_difference end-tells x.ends y.ends) none-tells)))))
    (λ h. let name : x.name ≡ y.name = h.0 in let domains : x.domains ≡ y.domains = h.1.0 in let regions : x.regions ≡ y.regions = h.1.1.0 in let queues : x.queues ≡ y.queues = h.1.1.1.0 in let ends : x.ends ≡ y.ends = h.1.1.1.1.0 in λ i. record { name = name i; domains = domains i; regions = regions i; queues = queues i; ends = ends i })
    (λ e. (ap (λ z. z.name) e, (ap (λ z. z.domains) e, (ap (λ z. z.regions) e, (ap (λ z. z.queues) e, (ap (λ z. z.ends) e, tt))))))

entry-tells : TellsAll entry_difference
unfolding entry_difference
entry-tells = numbers-tell numbers_of_entry same-entry

husk-tells : TellsAll husk_difference
unfolding husk_difference
husk-tells x y =
    tells-as (husk_difference x y)
    (first-tells _ _ (between-tells x.name y.name) (first-tells _ _ (across-tells entry_difference entry-tells x.entries y.entries) none-tells))
    (λ h. let name : x.name ≡ y.name = h.0 in let entries : x.entries ≡ y.entries = h.1.0 in λ i. record { name = name i; entries = entries i })
    (λ e. (ap (λ z. z.name) e, (ap (λ z. z.entries) e, tt)))

-- two devices
pub device-tells : TellsAll first_difference
unfolding first_difference
device-tells x y =
    tells-as (first_difference x y)
    (first-tells _ _ (between-tells (numbers_of_device x) (numbers_of_device y)) (first-tells _ _ (across-tells context_difference context-tells x.contexts y.contexts) (first-tells _ _ (across-tells husk_difference husk-tells x.husks y.husks) none-tells)))
    (λ h. let id : x.id ≡ y.id = (same-device x y h.0).id in let address : x.address ≡ y.address = (same-device x y h.0).address in let qp_count : x.qp_count ≡ y.qp_count = (same-device x y h.0).qp_count in let key_count : x.key_count ≡ y.key_count = (same-device x y h.0).key_count in let contexts : x.contexts ≡ y.contexts = h.1.0 in let husks : x.husks ≡ y.husks = h.1.1.0 in λ i. record { id = id i; address = address i; qp_count = qp_count i; key_count = key_count i; contexts = contexts i; husks = husks i })
    (λ e. (ap numbers_of_device e, (ap (λ z. z.contexts) e, (ap (λ z. z.husks) e, tt))))
