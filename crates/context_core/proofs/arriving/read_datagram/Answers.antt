use Rattle.std.proofs.Common.{◌≡◌, ℕ, ap, sym, subst, ◌∙◌}
use Rattle.std.specs.Prelude.{Option, ◌%◌}
use Rattle.protocol.specs.declared.wire.Aeth.{Aeth}
use Rattle.protocol.specs.Numbers.{wire_number}
use Rattle.protocol.specs.Wire.{Fits, plain}
use Rattle.roce_headers.specs.Packets.{packet}
use Rattle.endpoint_core.specs.Due.{telling}
use Rattle.endpoint_core.specs.Ends.{link_in}
use Rattle.context_core.specs.Arriving.{aeth_at, opcode_at}
use Rattle.context_core.proofs.PacketSizes.{dest-small}
use Rattle.context_core.proofs.ReadResponses.{response-fits, response-is}
use Rattle.context_core.proofs.TransmittedPackets.{wire-small}
use Rattle.context_core.proofs.arriving.read_datagram.Goals as goal

made : (c : goal.After-answer) → packet c.answer.result ≡ record (plain (opcode_at c.args.k c.args.count) (c.args.link.now.peer % 16777216) (wire_number c.args.link.now.terms.peer_start c.args.n)) { aeth = aeth_at (opcode_at c.args.k c.args.count) c.args.msn; payload = c.args.payload.now }
made c =
    c.answer.ensures
    ∙ (ap {A = Option Aeth} (λ a. record (plain c.response_opcode-opcode.result (c.args.link.now.peer % 16777216) (wire_number c.args.link.now.terms.peer_start c.args.n)) { aeth = a; payload = c.args.payload.now }) c.response_aeth-aeth.ensures
    ∙ ap {A = ℕ} (λ o. record (plain o (c.args.link.now.peer % 16777216) (wire_number c.args.link.now.terms.peer_start c.args.n)) { aeth = aeth_at o c.args.msn; payload = c.args.payload.now }) c.response_opcode-opcode.ensures)

pub returns-clause-says : goal.returns-clause-says
returns-clause-says c = λ pool. made c ∙ response-is (telling (link_in pool c.args.link.now) c.args.msn) c.args.n c.args.k c.args.count c.args.payload.now

pub returns-clause-fits : goal.returns-clause-fits
returns-clause-fits c =
    subst Fits (sym (made c))
    (response-fits c.args.k c.args.count (c.args.link.now.peer % 16777216) (wire_number c.args.link.now.terms.peer_start c.args.n) c.args.msn c.args.payload.now (dest-small c.args.link.now.peer) (wire-small c.args.link.now.terms.peer_start c.args.n) c.requires.msn c.requires.bounded)
