use Rattle.std.proofs.Common.{◌≡◌, ap, sym, ◌∙◌, refl}
use Rattle.std.specs.Prelude.{if◌then◌else◌, true, false}
use Rattle.memory_keys.specs.Regions.{granted_spot, regions_of}
use Rattle.protocol.specs.Responder.{is_read_request}
use Rattle.responder.specs.Taken.{place_granted}
use Rattle.rdma_types.specs.Memory.{RemoteAtomic, RemoteRead, RemoteWrite, remote_key}
use Rattle.roce_headers.specs.Packets.{packet}
use Rattle.responder.proofs.Granted.{atomic-place, no-place, reth-place}
use Rattle.responder.proofs.places.target.Goals as goal
use Rattle.responder.proofs.places.target.Goals.{then-is_read_request, else-is_read_request}

pub returns-in-Some-clause-granted : goal.returns-in-Some-clause-granted
returns-in-Some-clause-granted c = λ pool.
    c.check_remote.ensures.granted pool RemoteAtomic refl
    ∙ sym (atomic-place (regions_of pool c.args.regions.now) c.args.domain (packet c.args.d.now) c.in-Some.h c.in-Some.is)

pub returns-in_default-reth-clause-granted : goal.returns-in_default-reth-clause-granted
returns-in_default-reth-clause-granted c = λ pool.
    sym (no-place (regions_of pool c.args.regions.now) c.args.domain (packet c.args.d.now) c.in_default.is c.in_default-reth.is)

pub returns-clause-granted : goal.returns-clause-granted
returns-clause-granted c = λ pool.
    let d = packet c.args.d.now in
    let h = c.in-Some-reth.h in
    let rs = regions_of pool c.args.regions.now in
    let is : place_granted rs c.args.domain d ≡ granted_spot remote_key rs c.args.domain h.rkey h.address h.length (if is_read_request d.opcode then RemoteRead else RemoteWrite) = reth-place rs c.args.domain d h c.in_default.is c.in-Some-reth.is in
    elim c.if-is_read_request.branch [
      | then-is_read_request w ↦
          let t : is_read_request d.opcode ≡ true = sym c.is_read_request.ensures ∙ w.if-is_read_request.true in
          c.check_remote-2.ensures.granted pool RemoteRead (ap (λ r. r.0) w.right-is)
          ∙ (ap (λ b. granted_spot remote_key rs c.args.domain h.rkey h.address h.length (if b then RemoteRead else RemoteWrite)) (sym t) ∙ sym is)
      | else-is_read_request w ↦
          let t : is_read_request d.opcode ≡ false = sym c.is_read_request.ensures ∙ w.if-is_read_request.false in
          c.check_remote-2.ensures.granted pool RemoteWrite (ap (λ r. r.0) w.right-is)
          ∙ (ap (λ b. granted_spot remote_key rs c.args.domain h.rkey h.address h.length (if b then RemoteRead else RemoteWrite)) (sym t) ∙ sym is)
    ]
