use Rattle.std.proofs.Common.{◌≡◌, ◌+◌, ◌≤◌, ◌<◌, ◌++◌, ◌∙◌, ℕ, Some, ap, sym, subst, refl, arith, length}
use Rattle.std.specs.Option.{option_map}
use Rattle.protocol.specs.Requester.{failing}
use Rattle.requester.specs.Sending.{bares}
use Rattle.endpoint_core.specs.Answers.{failed_at}
use Rattle.endpoint_core.specs.Flushed.{IsFlushed, all_receives}
use Rattle.endpoint_core.specs.Ends.{link_in}
use Rattle.endpoint_core.specs.Queues.{count_at, nothing, reserved_in}
use Rattle.endpoint_core.specs.Sites.{IsSound, EndWithMemory, end_at, site_of}
use Rattle.endpoint_core.specs.declared.end.EndLink.{EndLink}
use Rattle.endpoint_core.proofs.Ended.{failed-keeps, failed-sound, failed-step, flushed-both, promised-is, receives-fit, requests-fit}
use Rattle.endpoint_core.proofs.Frames.{link-of}
use Rattle.endpoint_core.proofs.Given.{apart-of}
use Rattle.endpoint_core.proofs.Settled.{settle-length}
use Rattle.endpoint_core.proofs.end.Endpoint.fail.Goals as goal

pub flush-in_use-requires-clause-payloads : goal.flush-in_use-requires-clause-payloads
flush-in_use-requires-clause-payloads c =
    let linked = link-of c.args.memory.pool.now c.args.memory.regions.now c.args.self.now c.in-Some.link c.requires.sound.end c.in-Some.is in
    apart-of c.args.memory.pool.now c.args.memory.regions.now c.args.self.now.domain c.in-Some.link.requester.items linked.posted linked.apart

-- each place has as many reserved as the flush takes
fits : (s : EndWithMemory) (l : EndLink) → IsSound s nothing → s.end.link ≡ Some l
    → (place : ℕ) → count_at s.send (length l.requester.items) place + count_at s.recv (length (all_receives l s.end.recvs)) place ≤ reserved_in s.queues place
fits s l sound is place = let before = promised-is s.end l s.send s.recv place is in let enough = sound.reserved.enough place in omega (arith, before, enough)

pub flush-in_use-requires-clause-reserved : goal.flush-in_use-requires-clause-reserved
flush-in_use-requires-clause-reserved c =
    requests-fit c.args.memory.queues.now.entries c.args.memory.send c.args.memory.recv (length c.in-Some.link.requester.items) (length (all_receives c.in-Some.link c.args.self.now.recvs))
    (fits (site_of c.args.memory c.args.self.now) c.in-Some.link c.requires.sound c.in-Some.is)

pub flush_receives_at-requires-clause-there : goal.flush_receives_at-requires-clause-there
flush_receives_at-requires-clause-there c =
    let same = settle-length c.args.memory.queues.now.entries c.args.memory.send (length c.in-Some.link.requester.items) (failing c.args.self.now.number c.args.status (bares c.in-Some.link.requester.items)) in
    let there = c.requires.sound.reserved.recv_there in
    subst (λ qs. c.args.memory.recv < length qs) (sym c.flush-in_use.ensures.queues) (omega (arith, same, there))

pub flush_receives_at-requires-clause-reserved : goal.flush_receives_at-requires-clause-reserved
flush_receives_at-requires-clause-reserved c =
    let l = c.in-Some.link in
    subst (λ us. length (us ++ c.args.self.now.recvs.items) ≤ reserved_in c.flush-in_use.new.queues.entries c.args.memory.recv) (sym c.flush-in_use.ensures.used)
    (subst (λ qs. length (all_receives l c.args.self.now.recvs) ≤ reserved_in qs c.args.memory.recv) (sym c.flush-in_use.ensures.queues)
    (receives-fit c.args.memory.queues.now.entries c.args.memory.send c.args.memory.recv (length l.requester.items) (length (all_receives l c.args.self.now.recvs)) (failing c.args.self.now.number c.args.status (bares l.requester.items)) c.requires.sound.reserved.send_there
    (fits (site_of c.args.memory c.args.self.now) l c.requires.sound c.in-Some.is)))

whole : (c : goal.After-flush_receives_at) → IsFlushed c.args.self.now.number c.args.status c.args.memory.send c.args.memory.recv c.in-Some.link c.flush-in_use.new.self c.args.self.now.recvs c.flush_receives_at.new.recvs c.args.memory.pool.now c.flush-in_use.new.pool c.args.memory.queues.now.entries c.flush_receives_at.new.queues.entries
whole c =
    let e = c.flush-in_use.ensures in
    flushed-both c.args.self.now.number c.args.status c.args.memory.send c.args.memory.recv c.in-Some.link c.flush-in_use.new.self c.args.self.now.recvs c.flush_receives_at.new.recvs c.args.memory.pool.now c.flush-in_use.new.pool c.args.memory.queues.now.entries c.flush-in_use.new.queues.entries c.flush_receives_at.new.queues.entries c.flush-in_use.result
    e.used e.link e.terms e.depth e.items e.numbers e.queues e.lists c.flush_receives_at.ensures.items c.flush_receives_at.ensures.queues

pub returns-clause-step : goal.returns-clause-step
returns-clause-step c = λ ctx names at.
    let s = site_of c.args.memory c.args.self.now in
    ap (λ o. failed_at ctx (end_at names s) (option_map (link_in s.pool) o) c.args.status) c.in-Some.is
    ∙ failed-step s c.args.status c.in-Some.link c.flush-in_use.new.self c.flush_receives_at.new.recvs c.flush-in_use.new.pool c.flush_receives_at.new.queues.entries c.requires.sound c.in-Some.is (whole c) ctx names at

pub returns-clause-sound : goal.returns-clause-sound
returns-clause-sound c =
    let s = site_of c.args.memory c.args.self.now in
    failed-sound s c.args.status c.in-Some.link c.flush-in_use.new.self c.flush_receives_at.new.recvs c.flush-in_use.new.pool c.flush_receives_at.new.queues.entries c.requires.sound c.in-Some.is (whole c)
    (c.soundness_stays.ensures.cut s.held s.end.domain c.in-Some.link.responder s.end.recvs.items)
    (λ v n. c.soundness_stays.ensures.flushed s.held s.end.domain v s.end.recvs.items n)

pub returns-clause-keeps : goal.returns-clause-keeps
returns-clause-keeps c =
    let s = site_of c.args.memory c.args.self.now in
    failed-keeps s c.args.status c.in-Some.link c.flush-in_use.new.self c.flush_receives_at.new.recvs c.flush-in_use.new.pool c.flush_receives_at.new.queues.entries c.requires.sound c.in-Some.is (whole c)

pub returns-clause-partner : goal.returns-clause-partner
returns-clause-partner c = λ l is.
    let some : Some c.in-Some.link ≡ Some l = sym c.in-Some.is ∙ is in
    let same : c.in-Some.link ≡ l = cc in
    let new = c.flush-in_use.new.self in
    record {
      link = new;
      there = refl;
      peer = ap (λ (x : EndLink). x.peer) c.flush-in_use.ensures.link ∙ ap (λ (x : EndLink). x.peer) same;
      terms = ap (λ (x : EndLink). x.terms) c.flush-in_use.ensures.link ∙ ap (λ (x : EndLink). x.terms) same;
      partner = ap (λ (x : EndLink). x.moves.partner) c.flush-in_use.ensures.link ∙ ap (λ (x : EndLink). x.moves.partner) same;
      msn = ap (λ (x : EndLink). x.responder.receiver.msn) c.flush-in_use.ensures.link ∙ ap (λ (x : EndLink). x.responder.receiver.msn) same;
    }
