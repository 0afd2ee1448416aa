-- What holds after a request, by what was taken.
use Rattle.std.proofs.Common.{◌≡◌, ℕ, ◌+◌, ◌≤◌, List, refl, ap, sym, ◌∙◌, arith, subst}
use Rattle.rdma_types.specs.Objects.{Region}
use Rattle.rdma_types.specs.declared.names.Name.{Name}
use Rattle.rdma_types.specs.declared.requests.Receive.{Receive}
use Rattle.page_pool.specs.Pool.{Pool}
use Rattle.memory_keys.specs.declared.RegisteredRegion.{RegisteredRegion}
use Rattle.memory_keys.specs.Regions.{AreKeyed, regions_of}
use Rattle.end_queues.specs.Completions as completions
use Rattle.end_queues.specs.Postings as work
use Rattle.protocol.specs.Wire.{Fits, Packet}
use Rattle.responder.specs.declared.answers.Reply.{Reply}
use Rattle.responder.specs.Receiving.{IsHeld, Receiving, waiting}
use Rattle.responder.specs.Sound.{IsSound}
use Rattle.responder.specs.Taken.{IsRead, IsTaken}
use Rattle.responder.specs.Taking.{around_with, taking}
use Rattle.responder.proofs.Cases.{fits-names}
use Rattle.responder.proofs.Counts.{counted}
use Rattle.responder.proofs.Soundness.{read-after, sound-after}

-- what a request took, at an end with these regions
abbrev Took : (pool : Pool) (hs : List RegisteredRegion) (domain : Name) (qp : ℕ) (d : Packet) (reply : Reply) (now new : Receiving) (bytes : List Region) (recvs more : work.Queue Receive) (cq done : completions.Queue) → Type 0
Took pool hs domain qp d reply now new bytes recvs more cq done = IsTaken (taking (around_with now domain qp (regions_of pool hs) recvs.items) d) reply now new bytes recvs more cq done

pub taken-read : (pool : Pool) (hs after : List RegisteredRegion) (domain : Name) (qp : ℕ) (d : Packet) (reply : Reply) (now new : Receiving) (bytes : List Region) (recvs more : work.Queue Receive) (cq done : completions.Queue)
    → AreKeyed hs → Fits d → after ≡ hs → Took pool hs domain qp d reply now new bytes recvs more cq done → IsRead after now.terms.mtu reply
taken-read pool hs after domain qp d reply now new bytes recvs more cq done keyed fits same t =
    let a = around_with now domain qp (regions_of pool hs) recvs.items in
    let read : IsRead hs now.terms.mtu (taking a d).reply = read-after pool hs a d refl keyed (fits-names d fits) in
    let there = subst (λ x. IsRead x now.terms.mtu (taking a d).reply) (sym same) read in
    subst (λ r. IsRead after now.terms.mtu r) (sym t.reply) there

pub taken-sound : (pool : Pool) (hs after : List RegisteredRegion) (domain : Name) (qp : ℕ) (d : Packet) (reply : Reply) (now new : Receiving) (bytes : List Region) (recvs more : work.Queue Receive) (cq done : completions.Queue)
    → AreKeyed hs → Fits d → IsHeld now.terms now.receiver → IsSound hs domain now recvs.items → after ≡ hs → Took pool hs domain qp d reply now new bytes recvs more cq done → IsSound after domain new more.items
taken-sound pool hs after domain qp d reply now new bytes recvs more cq done keyed fits held sound same t =
    let a = around_with now domain qp (regions_of pool hs) recvs.items in
    let x = taking a d in
    let next : Receiving = record now { receiver = x.receiver } in
    let there : IsSound hs domain next x.unused = sound-after pool hs a d refl keyed held.mtu (fits-names d fits) sound in
    let here = subst (λ y. IsSound y domain next x.unused) (sym same) there in
    let mine = subst (λ v. IsSound after domain v x.unused) (sym t.receiver) here in
    subst (λ us. IsSound after domain new us) (sym (ap (λ q. q.items) t.unused)) mine

pub taken-reserved : (pool : Pool) (hs : List RegisteredRegion) (domain : Name) (qp : ℕ) (d : Packet) (reply : Reply) (now new : Receiving) (bytes : List Region) (recvs more : work.Queue Receive) (cq done : completions.Queue)
    → Fits d → waiting now.receiver recvs.items ≤ cq.reserved → Took pool hs domain qp d reply now new bytes recvs more cq done
    → waiting new.receiver more.items + cq.reserved ≡ waiting now.receiver recvs.items + done.reserved
taken-reserved pool hs domain qp d reply now new bytes recvs more cq done fits enough t =
    let a = around_with now domain qp (regions_of pool hs) recvs.items in
    let x = taking a d in
    let count = counted a d (fits-names d fits) in
    let after : waiting new.receiver more.items ≡ waiting x.receiver x.unused = ap (λ v. waiting v.receiver more.items) t.receiver ∙ ap (λ q. waiting x.receiver q.items) t.unused in
    let places = ap (λ q. q.reserved) t.done in
    omega (arith, count, after, places, enough)
