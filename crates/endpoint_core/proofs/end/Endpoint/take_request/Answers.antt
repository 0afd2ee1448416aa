use Rattle.std.proofs.Common.{[], false, ℕ, List, ◌≡◌, ◌∙◌, Some, ap, sym, subst, refl, arith, length}
use Rattle.rdma_types.specs.declared.names.Name.{Name}
use Rattle.memory_keys.specs.declared.RegisteredRegion.{RegisteredRegion}
use Rattle.memory_keys.specs.Regions.{regions_of}
use Rattle.protocol.specs.EndWords.{in_use_by}
use Rattle.protocol.specs.Requester.{ended_with}
use Rattle.protocol.specs.declared.wire.Syndrome.TheVariants.{Nak}
use Rattle.protocol.specs.Responder.{nak_code, takes_request}
use Rattle.protocol.specs.State.{Context}
use Rattle.roce_headers.specs.Packets.{packet}
use Rattle.rdma_types.specs.declared.requests.WcStatus.TheVariants as status
use Rattle.responder.specs.declared.answers.Reply.TheVariants as served
use Rattle.responder.specs.Taking.{taken_request}
use Rattle.endpoint_core.specs.declared.answers.EndEffect.{EndEffect}
use Rattle.endpoint_core.specs.declared.end.EndLink.{EndLink}
use Rattle.endpoint_core.specs.Answers.{IsReply, sent_of}
use Rattle.endpoint_core.specs.Ends.{is_ended_link, link_in}
use Rattle.endpoint_core.specs.Flushed.{all_receives}
use Rattle.endpoint_core.specs.Queues.{StandsAt, nothing}
use Rattle.endpoint_core.specs.Served.{request_answer}
use Rattle.endpoint_core.specs.Sites.{IsSound, Keeps, EndWithMemory, end_at, home, site_of}
use Rattle.endpoint_core.proofs.Answered.{home-of, home-twice}
use Rattle.endpoint_core.proofs.Ended.{count-here, length-both, promised-is}
use Rattle.endpoint_core.proofs.Frames.{link-of, site_after}
use Rattle.transport.specs.Table.{phase_of}
use Rattle.protocol.specs.EndWords.{is_paused}
use Rattle.endpoint_core.specs.Due.{WasDue}
use Rattle.endpoint_core.proofs.DueReads.{refused-due}
use Rattle.endpoint_core.proofs.Served.{read-reply, refused-reply, refused-step, served-due, served-keeps, served-sound, served-step}
use Rattle.endpoint_core.proofs.Settled.{stands-settled}
use Rattle.endpoint_core.proofs.Whole.{keeps-both}
use Rattle.endpoint_core.proofs.end.Endpoint.take_request.Goals as goal

pub serve-reply-requires-clause-serving : goal.serve-reply-requires-clause-serving
serve-reply-requires-clause-serving c = (link-of c.args.memory.pool.now c.args.memory.regions.now c.args.self.now c.in-Some.link c.requires.sound.end c.in-Some.is).serving

pub serve-reply-requires-clause-reserved : goal.serve-reply-requires-clause-reserved
serve-reply-requires-clause-reserved c =
    let l = c.in-Some.link in
    let recv = c.args.memory.recv in
    let before = promised-is c.args.self.now l c.args.memory.send recv recv c.in-Some.is in
    let enough = c.requires.sound.reserved.enough recv in
    let here = count-here recv (length (all_receives l c.args.self.now.recvs)) in
    let both = length-both (in_use_by l.responder.receiver.progress) c.args.self.now.recvs.items in
    omega (arith, before, enough, here, both)

-- ---- a refusal

-- the site before the flush
abbrev failing : (c : goal.After-answer_of) → EndWithMemory
failing c = record (site_of c.args.memory c.args.self.now) { pool = c.serve-reply.new.pool; held = c.serve-reply.new.regions; queues = c.serve-reply.new.queues.entries; end = record c.args.self.now { recvs = c.serve-reply.new.recvs; link = Some c.serve-reply.new.self } }

pub fail-requires-clause-sound : goal.fail-requires-clause-sound
fail-requires-clause-sound c =
    let s = site_of c.args.memory c.args.self.now in
    let l = c.in-Some.link in
    let t = taken_request l.responder.terms c.args.self.now.domain c.args.self.now.number l.responder.receiver (regions_of c.args.memory.pool.now c.args.memory.regions.now) c.args.self.now.recvs.items (packet c.args.d.now) in
    subst (λ h. IsSound (record s { pool = c.serve-reply.new.pool; held = h; queues = c.serve-reply.new.queues.entries; end = record s.end { recvs = c.serve-reply.new.recvs; link = Some c.serve-reply.new.self } }) nothing) (sym c.serve-reply.ensures.regions)
    (served-sound s l c.serve-reply.new.self (packet c.args.d.now) c.serve-reply.new.pool c.serve-reply.new.recvs c.serve-reply.new.queues.entries t c.requires.sound c.in-Some.is (sym (ap is_ended_link c.in-Some.is) ∙ c.requires.running) c.requires.fits refl c.serve-reply.ensures.served)

pub returns-in-Refused-clause-step : goal.returns-in-Refused-clause-step
returns-in-Refused-clause-step c = λ ctx names l at is.
    let s = site_of c.args.memory c.args.self.now in
    let k = c.in-Some.link in
    let l' = c.serve-reply.new.self in
    let t = taken_request k.responder.terms c.args.self.now.domain c.args.self.now.number k.responder.receiver (regions_of c.args.memory.pool.now c.args.memory.regions.now) c.args.self.now.recvs.items (packet c.args.d.now) in
    let some : Some l ≡ Some k = sym is ∙ c.in-Some.is in
    let same : l ≡ k = cc in
    let s1 : EndWithMemory = failing c in
    let s2 : EndWithMemory = site_after c.args.memory c.fail.new.memory c.fail.new.self in
    let a : EndEffect = c.answer_of.result in
    let answer : request_answer c.serve-reply.result k.responder.receiver.expected c.expected-after.result ≡ a = sym (c.answer_of.ensures ∙ ap (λ n. request_answer c.serve-reply.result n c.expected-after.result) c.expected-before.ensures) in
    let refused : request_answer (served.Refused c.in-Refused.field-0) k.responder.receiver.expected c.expected-after.result ≡ a = sym (ap (λ r. request_answer r k.responder.receiver.expected c.expected-after.result) c.in-Refused.is) ∙ answer in
    let stands : (name : Name) (place : ℕ) → StandsAt s.queues name place → StandsAt s1.queues name place =
    λ name place there. subst (λ qs. StandsAt qs name place) (sym c.serve-reply.ensures.served.queues) (stands-settled s.queues name place s.recv (length t.done) t.done there) in
    let ended : (h : List RegisteredRegion) → Context = λ h. ended_with (home ctx names (record s1 { held = h })) (end_at names s1) (link_in s1.pool l') status.Flush in
    ap (λ (x : EndLink). takes_request ctx (end_at names s) (link_in s.pool x) (packet c.args.d.now)) same
    ∙ (refused-step s k l' (packet c.args.d.now) s1.pool c.serve-reply.new.recvs s1.queues t c.requires.sound c.in-Some.is (sym (ap is_ended_link c.in-Some.is) ∙ c.requires.running) c.requires.fits refl c.serve-reply.ensures.served
    ctx names c.in-Refused.field-0 s2 at (sym c.serve-reply.ensures.reply ∙ c.in-Refused.is) (c.fail.ensures.partner l' refl)
    ∙ (ap (λ h. record { context = ended h; took = (request_answer (served.Refused c.in-Refused.field-0) k.responder.receiver.expected c.expected-after.result).took; sent = sent_of s2 (request_answer (served.Refused c.in-Refused.field-0) k.responder.receiver.expected c.expected-after.result).reply }) (sym c.serve-reply.ensures.regions)
    ∙ (ap (λ x. record { context = x; took = (request_answer (served.Refused c.in-Refused.field-0) k.responder.receiver.expected c.expected-after.result).took; sent = sent_of s2 (request_answer (served.Refused c.in-Refused.field-0) k.responder.receiver.expected c.expected-after.result).reply })
    (c.fail.ensures.step (home ctx names s1) names (home-of ctx names s1 (stands names.send_cq s.send at.send) (stands names.recv_cq s.recv at.recv)) ∙ home-twice ctx names s1 s2)
    ∙ ap (λ (x : EndEffect). record { context = home ctx names s2; took = x.took; sent = sent_of s2 x.reply }) refused)))

pub returns-in-Refused-clause-keeps : goal.returns-in-Refused-clause-keeps
returns-in-Refused-clause-keeps c =
    let s = site_of c.args.memory c.args.self.now in
    let l = c.in-Some.link in
    let t = taken_request l.responder.terms c.args.self.now.domain c.args.self.now.number l.responder.receiver (regions_of c.args.memory.pool.now c.args.memory.regions.now) c.args.self.now.recvs.items (packet c.args.d.now) in
    let one = served-keeps s l c.serve-reply.new.self (packet c.args.d.now) c.serve-reply.new.pool c.serve-reply.new.recvs c.serve-reply.new.queues.entries t c.requires.sound c.in-Some.is (sym (ap is_ended_link c.in-Some.is) ∙ c.requires.running) c.requires.fits refl c.serve-reply.ensures.served in
    keeps-both s (failing c) (site_after c.args.memory c.fail.new.memory c.fail.new.self) refl refl
    (subst (λ h. Keeps s (record (failing c) { held = h }) [] nothing) (sym c.serve-reply.ensures.regions) one) c.fail.ensures.keeps

pub returns-in-Refused-clause-reply : goal.returns-in-Refused-clause-reply
returns-in-Refused-clause-reply c =
    let before : ℕ = c.expected-before.result in
    refused-reply c.fail.new.memory.1.0 c.fail.new.self.link c.answer_of.result.reply before c.in-Refused.field-0
    (ap (λ (x : EndEffect). x.reply) (c.answer_of.ensures ∙ ap (λ r. request_answer r before c.expected-after.result) c.in-Refused.is))

pub returns-in-Refused-clause-due : goal.returns-in-Refused-clause-due
returns-in-Refused-clause-due c = λ l is paused.
    let before : ℕ = c.expected-before.result in
    refused-due (site_of c.args.memory c.args.self.now) (site_after c.args.memory c.fail.new.memory c.fail.new.self) l (packet c.args.d.now) c.answer_of.result.reply before (Nak (nak_code c.in-Refused.field-0))
    (ap (λ (x : EndEffect). x.reply) (c.answer_of.ensures ∙ ap (λ r. request_answer r before c.expected-after.result) c.in-Refused.is))

-- ---- any other answer

pub returns-clause-step : goal.returns-clause-step
returns-clause-step c = λ ctx names l at is.
    let s = site_of c.args.memory c.args.self.now in
    let k = c.in-Some.link in
    let l' = c.serve-reply.new.self in
    let t = taken_request k.responder.terms c.args.self.now.domain c.args.self.now.number k.responder.receiver (regions_of c.args.memory.pool.now c.args.memory.regions.now) c.args.self.now.recvs.items (packet c.args.d.now) in
    let some : Some l ≡ Some k = sym is ∙ c.in-Some.is in
    let same : l ≡ k = cc in
    let after : t.receiver.expected ≡ c.expected-after.result = sym (c.expected-after.ensures ∙ ap (λ (x : EndLink). x.responder.receiver.expected) c.serve-reply.ensures.served.same) in
    let a : EndEffect = c.answer_of-2.result in
    let answer : request_answer t.reply k.responder.receiver.expected t.receiver.expected ≡ a =
    ap (λ n. request_answer t.reply k.responder.receiver.expected n) after
    ∙ (ap (λ r. request_answer r k.responder.receiver.expected c.expected-after.result) (sym c.serve-reply.ensures.reply)
    ∙ (ap (λ n. request_answer c.serve-reply.result n c.expected-after.result) (sym c.expected-before.ensures) ∙ sym c.answer_of-2.ensures)) in
    let s1 : (h : List RegisteredRegion) → EndWithMemory = λ h. record s { pool = c.serve-reply.new.pool; held = h; queues = c.serve-reply.new.queues.entries; end = record s.end { recvs = c.serve-reply.new.recvs; link = Some l' } } in
    ap (λ (x : EndLink). takes_request ctx (end_at names s) (link_in s.pool x) (packet c.args.d.now)) same
    ∙ (served-step s k l' (packet c.args.d.now) c.serve-reply.new.pool c.serve-reply.new.recvs c.serve-reply.new.queues.entries t c.requires.sound c.in-Some.is (sym (ap is_ended_link c.in-Some.is) ∙ c.requires.running) c.requires.fits refl c.serve-reply.ensures.served
    ctx names at (λ w e. c.in_default-reply.not-Refused w (c.serve-reply.ensures.reply ∙ e))
    ∙ (ap (λ (x : EndEffect). record { context = home ctx names (s1 s.held); took = x.took; sent = sent_of (s1 s.held) x.reply }) answer
    ∙ ap (λ h. record { context = home ctx names (s1 h); took = a.took; sent = sent_of (s1 h) a.reply }) (sym c.serve-reply.ensures.regions)))

pub returns-clause-reply : goal.returns-clause-reply
returns-clause-reply c =
    let l = c.in-Some.link in
    let linked = link-of c.args.memory.pool.now c.args.memory.regions.now c.args.self.now l c.requires.sound.end c.in-Some.is in
    let mtu : c.serve-reply.new.self.terms.mtu ≡ l.responder.terms.mtu = ap (λ (x : EndLink). x.terms.mtu) c.serve-reply.ensures.served.same ∙ sym (ap (λ t. t.mtu) linked.serving_terms) in
    subst (λ (x : EndEffect). IsReply c.serve-reply.new.regions c.serve-reply.new.self x.reply) (sym c.answer_of-2.ensures)
    (read-reply c.serve-reply.new.regions c.serve-reply.new.self c.serve-reply.result l.responder.terms.mtu c.expected-before.result c.expected-after.result mtu c.serve-reply.ensures.read)

pub returns-clause-sound : goal.returns-clause-sound
returns-clause-sound c =
    let s = site_of c.args.memory c.args.self.now in
    let l = c.in-Some.link in
    let t = taken_request l.responder.terms c.args.self.now.domain c.args.self.now.number l.responder.receiver (regions_of c.args.memory.pool.now c.args.memory.regions.now) c.args.self.now.recvs.items (packet c.args.d.now) in
    subst (λ h. IsSound (record s { pool = c.serve-reply.new.pool; held = h; queues = c.serve-reply.new.queues.entries; end = record s.end { recvs = c.serve-reply.new.recvs; link = Some c.serve-reply.new.self } }) nothing) (sym c.serve-reply.ensures.regions)
    (served-sound s l c.serve-reply.new.self (packet c.args.d.now) c.serve-reply.new.pool c.serve-reply.new.recvs c.serve-reply.new.queues.entries t c.requires.sound c.in-Some.is (sym (ap is_ended_link c.in-Some.is) ∙ c.requires.running) c.requires.fits refl c.serve-reply.ensures.served)

pub returns-clause-keeps : goal.returns-clause-keeps
returns-clause-keeps c =
    let s = site_of c.args.memory c.args.self.now in
    let l = c.in-Some.link in
    let t = taken_request l.responder.terms c.args.self.now.domain c.args.self.now.number l.responder.receiver (regions_of c.args.memory.pool.now c.args.memory.regions.now) c.args.self.now.recvs.items (packet c.args.d.now) in
    subst (λ h. Keeps s (record s { pool = c.serve-reply.new.pool; held = h; queues = c.serve-reply.new.queues.entries; end = record s.end { recvs = c.serve-reply.new.recvs; link = Some c.serve-reply.new.self } }) [] nothing) (sym c.serve-reply.ensures.regions)
    (served-keeps s l c.serve-reply.new.self (packet c.args.d.now) c.serve-reply.new.pool c.serve-reply.new.recvs c.serve-reply.new.queues.entries t c.requires.sound c.in-Some.is (sym (ap is_ended_link c.in-Some.is) ∙ c.requires.running) c.requires.fits refl c.serve-reply.ensures.served)

pub returns-clause-due : goal.returns-clause-due
returns-clause-due c = λ l at paused.
    let s = site_of c.args.memory c.args.self.now in
    let k = c.in-Some.link in
    let some : Some l ≡ Some k = sym at ∙ c.in-Some.is in
    let same : l ≡ k = cc in
    let t = taken_request k.responder.terms c.args.self.now.domain c.args.self.now.number k.responder.receiver (regions_of c.args.memory.pool.now c.args.memory.regions.now) c.args.self.now.recvs.items (packet c.args.d.now) in
    let s1 : (h : List RegisteredRegion) → EndWithMemory = λ h. record s { pool = c.serve-reply.new.pool; held = h; queues = c.serve-reply.new.queues.entries; end = record s.end { recvs = c.serve-reply.new.recvs; link = Some c.serve-reply.new.self } } in
    let due = served-due s k c.serve-reply.new.self (packet c.args.d.now) c.serve-reply.new.pool c.serve-reply.new.recvs c.serve-reply.new.queues.entries t c.requires.sound c.in-Some.is (sym (ap is_ended_link c.in-Some.is) ∙ c.requires.running) c.requires.fits refl c.serve-reply.ensures.served
    (subst (λ (x : EndLink). is_paused (phase_of x.moves.phase) ≡ false) same paused) c.expected-before.result c.expected-after.result c.serve-reply.new.regions c.serve-reply.result c.serve-reply.ensures.read (sym c.serve-reply.ensures.reply) in
    let answered = subst (λ (x : EndEffect). WasDue s (s1 s.held) k (packet c.args.d.now) x.reply) (sym c.answer_of-2.ensures) due in
    let held = subst (λ h. WasDue s (s1 h) k (packet c.args.d.now) c.answer_of-2.result.reply) (sym c.serve-reply.ensures.regions) answered in
    subst (λ (x : EndLink). WasDue s (s1 c.serve-reply.new.regions) x (packet c.args.d.now) c.answer_of-2.result.reply) (sym same) held
