use Rattle.std.proofs.Common.{◌≡◌, ◌++◌, ◌&&◌, length, true, false, arith, ap, sym, ◌∙◌, subst, refl}
use Rattle.std.specs.Prelude.{is_some}
use Rattle.std.proofs.Common.{length-append}
use Rattle.rdma_types.specs.declared.requests.Receive.{Receive}
use Rattle.memory_keys.specs.Regions.{place_in, regions_of}
use Rattle.protocol.specs.EndWords.{in_use_by}
use Rattle.protocol.specs.Responder as words
use Rattle.roce_headers.specs.Packets.{packet}
use Rattle.responder.specs.Sound.{IsPlace}
use Rattle.responder.specs.Taken.{IsTaken, spot_named, target_in}
use Rattle.responder.specs.Taking.{Taking, around_with, link_with, place_at, write_taking}
use Rattle.responder.proofs.Kindly.{and-false, read-names-no-word, send-part, valid-parts, word-is-no-read, write-names-no-word}
use Rattle.protocol.proofs.WriteSizes.{write-fits}
use Rattle.responder.proofs.Acts.{atomic-target, front-all, in-region, named-by, next-fits, send-finds, send-row, word-is, write-next}
use Rattle.responder.proofs.Ends.{read-taken, word-taken}
use Rattle.responder.proofs.Responder.act.Goals as goal

pub take_send-requires-clause-there : goal.take_send-requires-clause-there
take_send-requires-clause-there c =
    let d = packet c.args.d.now in
    let s : words.is_send d.opcode ≡ true = sym c.is_send.ensures ∙ c.if-is_send.true in
    let v = valid-parts (link_with c.args.self.now) d c.requires.valid in
    send-finds d.opcode (words.part_of d.opcode) c.args.self.now.receiver.progress (words.is_write d.opcode && is_some d.imm) c.args.recvs.now.items s (send-part d.opcode s) v.placed c.requires.ready

pub take_send-requires-clause-place : goal.take_send-requires-clause-place
take_send-requires-clause-place c =
    front-all (IsPlace c.args.regions.now c.args.domain) (in_use_by c.args.self.now.receiver.progress ++ c.args.recvs.now.items) c.requires.sound.receives (take_send-requires-clause-there c)

pub take_send-requires-clause-reserved : goal.take_send-requires-clause-reserved
take_send-requires-clause-reserved c = omega (arith, take_send-requires-clause-there c, length-append {A = Receive}, c.requires.reserved)

pub returns-then-is_send-clause-taken : goal.returns-then-is_send-clause-taken
returns-then-is_send-clause-taken c = λ r t.
    let now = c.args.self.now in
    let d = packet c.args.d.now in
    let a = around_with now c.args.domain c.args.qp (regions_of c.args.pool.now c.args.regions.now) c.args.recvs.now.items in
    let s : words.is_send d.opcode ≡ true = sym c.is_send.ensures ∙ c.if-is_send.true in
    subst (λ (x : Taking). IsTaken x c.take_send.result now c.take_send.new.self (regions_of c.take_send.new.pool c.take_send.new.regions) c.args.recvs.now c.take_send.new.recvs c.args.cq.now c.take_send.new.cq)
    (sym (send-row a d now.receiver.expected r c.requires.ready s)) c.take_send.ensures.taken

pub take_write-requires-clause-fits : goal.take_write-requires-clause-fits
take_write-requires-clause-fits c =
    let now = c.args.self.now in
    let d = packet c.args.d.now in
    let w : words.is_write d.opcode ≡ true = sym c.is_write.ensures ∙ c.if-is_write.true in
    let v = valid-parts (link_with now) d c.requires.valid in
    let good = and-false _ _ w v.written in
    let none = write-names-no-word d c.requires.fits w in
    let t = in-region (spot_named d.atomic d.reth) (target_in (regions_of c.args.pool.now c.args.regions.now) c.args.domain d) c.args.spot (c.requires.target.granted c.args.pool.now) in
    let is = subst (λ o. c.args.spot ≡ spot_named o d.reth t.0) none t.1.1 in
    let fits = next-fits c.args.spot t.0 d.reth now.receiver.progress (length d.payload) is (write-fits d now.receiver.progress w good) in
    rw c.write_place-before.ensures fits

pub returns-then-is_write-clause-taken : goal.returns-then-is_write-clause-taken
returns-then-is_write-clause-taken c = λ r t.
    let now = c.args.self.now in
    let d = packet c.args.d.now in
    let rs = regions_of c.args.pool.now c.args.regions.now in
    let a = around_with now c.args.domain c.args.qp rs c.args.recvs.now.items in
    let s : words.is_send d.opcode ≡ false = sym c.is_send.ensures ∙ c.if-is_send.false in
    let w : words.is_write d.opcode ≡ true = sym c.is_write.ensures ∙ c.if-is_write.true in
    let v = valid-parts (link_with now) d c.requires.valid in
    let good = and-false _ _ w v.written in
    let none = write-names-no-word d c.requires.fits w in
    let named = named-by (spot_named d.atomic d.reth) (target_in rs c.args.domain d) c.args.spot r (c.requires.target.granted c.args.pool.now) t in
    let is = subst (λ o. c.args.spot ≡ spot_named o d.reth r) none named in
    let row = write-next a d now.receiver.expected r c.args.spot c.requires.ready s w good is in
    let same = ap (λ x. write_taking a d (place_at x.0 x.1)) c.write_place-before.ensures in
    subst (λ (x : Taking). IsTaken x c.take_write.result now c.take_write.new.self (regions_of c.take_write.new.pool c.take_write.new.regions) c.args.recvs.now c.take_write.new.recvs c.args.cq.now c.take_write.new.cq)
    (same ∙ sym row) (c.take_write.ensures.taken c.args.domain)

pub returns-in_default-clause-taken : goal.returns-in_default-clause-taken
returns-in_default-clause-taken c = λ r t.
    let now = c.args.self.now in
    let d = packet c.args.d.now in
    let rs = regions_of c.args.pool.now c.args.regions.now in
    let a = around_with now c.args.domain c.args.qp rs c.args.recvs.now.items in
    let s : words.is_send d.opcode ≡ false = sym c.is_send.ensures ∙ c.if-is_send.false in
    let w : words.is_write d.opcode ≡ false = sym c.is_write.ensures ∙ c.if-is_write.false in
    let read = read-names-no-word d c.requires.fits c.requires.request s w c.in_default.is in
    let named = named-by (spot_named d.atomic d.reth) (target_in rs c.args.domain d) c.args.spot r (c.requires.target.granted c.args.pool.now) t in
    let is = subst (λ o. c.args.spot ≡ spot_named o d.reth r) c.in_default.is named in
    read-taken now c.take_read.new.self c.args.domain c.args.qp rs c.args.recvs.now c.args.cq.now d r c.args.spot c.take_read.result d.reth refl read.1 is c.requires.ready s w read.0 c.take_read.ensures.reply c.take_read.ensures.receiver

pub take_atomic-requires-clause-length : goal.take_atomic-requires-clause-length
take_atomic-requires-clause-length c =
    let d = packet c.args.d.now in
    let t = in-region (spot_named d.atomic d.reth) (target_in (regions_of c.args.pool.now c.args.regions.now) c.args.domain d) c.args.spot (c.requires.target.granted c.args.pool.now) in
    ap (λ s. s.length) (subst (λ o. c.args.spot ≡ spot_named o d.reth t.0) c.in-Some.is t.1.1)

pub returns-clause-taken : goal.returns-clause-taken
returns-clause-taken c = λ r t.
    let now = c.args.self.now in
    let d = packet c.args.d.now in
    let rs = regions_of c.args.pool.now c.args.regions.now in
    let h = c.in-Some.h in
    let s : words.is_send d.opcode ≡ false = sym c.is_send.ensures ∙ c.if-is_send.false in
    let w : words.is_write d.opcode ≡ false = sym c.is_write.ensures ∙ c.if-is_write.false in
    let no = word-is-no-read d c.requires.fits c.requires.request s w (ap is_some c.in-Some.is) in
    let named = named-by (spot_named d.atomic d.reth) (target_in rs c.args.domain d) c.args.spot r (c.requires.target.granted c.args.pool.now) t in
    let is : c.args.spot ≡ place_in h.address 8 r = subst (λ o. c.args.spot ≡ spot_named o d.reth r) c.in-Some.is named in
    let old = word-is c.args.pool.now c.args.regions.now c.args.domain h.rkey h.address c.args.spot r c.take_atomic.ensures.keyed c.requires.target.inside (atomic-target rs c.args.domain d h r c.in-Some.is t) is in
    word-taken now c.take_atomic.new.self c.args.domain c.args.qp rs (regions_of c.take_atomic.new.pool c.take_atomic.new.regions) c.args.recvs.now c.args.cq.now d r c.args.spot c.take_atomic.result h _ c.in-Some.is is c.requires.ready s w no old c.take_atomic.ensures.reply c.take_atomic.ensures.receiver c.take_atomic.ensures.regions
