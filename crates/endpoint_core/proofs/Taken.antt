-- Which table takes a packet.
use Rattle.std.proofs.Common.{◌≡◌, true, false, List, [], refl, ap, sym, ◌∙◌}
use Rattle.std.specs.Prelude.{Option, Some, None, option_map, if◌then◌else◌}
use Rattle.rdma_types.specs.declared.answers.DropReason.TheVariants as why
use Rattle.memory_keys.specs.declared.RegisteredRegion.{RegisteredRegion}
use Rattle.transport.specs.declared.move_core.Control.{Control}
use Rattle.transport.specs.Table as table
use Rattle.protocol.specs.EndStep.{takes, takes_kind, takes_other}
use Rattle.protocol.specs.EndWords.{is_paused, silent}
use Rattle.protocol.specs.Moves as moves
use Rattle.protocol.specs.Requester.{takes_response}
use Rattle.protocol.specs.Responder.{takes_request}
use Rattle.protocol.specs.State.{Context, End, Link}
use Rattle.protocol.specs.Wire.{Packet, is_request}
use Rattle.endpoint_core.specs.declared.answers.EndReply.{EndReply}
use Rattle.endpoint_core.specs.declared.answers.EndReply.TheVariants as reply
use Rattle.endpoint_core.specs.declared.end.EndLink.{EndLink}
use Rattle.std.specs.Option.{option_map_or}
use Rattle.memory_keys.specs.Regions.{regions_of}
use Rattle.endpoint_core.specs.Ends.{link_in}
use Rattle.endpoint_core.specs.Sites.{EndWithMemory}
use Rattle.endpoint_core.specs.Answers.{IsAck, IsReply, sent_by, sent_of}

pub taken-ended : (c : Context) (e : End) (l : Link) (d : Packet) → l.ended ≡ true → takes c e l d ≡ silent c why.Ended
unfolding takes
taken-ended c e l d ended = rw ended refl

taken-kind : (c : Context) (e : End) (l : Link) (d : Packet) → l.ended ≡ false → takes c e l d ≡ takes_kind c e l d (moves.control_of d)
unfolding takes
taken-kind c e l d ended = ap (λ b. if b then silent c why.Ended else takes_kind c e l d (moves.control_of d)) ended

pub taken-control : (c : Context) (e : End) (l : Link) (d : Packet) (control : Option Control) (k : Control) → l.ended ≡ false → option_map table.control_of control ≡ moves.control_of d → control ≡ Some k
    → takes c e l d ≡ moves.takes_control c e l (table.control_of k)
taken-control c e l d control k ended is some =
    taken-kind c e l d ended ∙ (ap (takes_kind c e l d) (sym is) ∙ ap (λ o. takes_kind c e l d (option_map table.control_of o)) some)

taken-other : (c : Context) (e : End) (l : Link) (d : Packet) (control : Option Control) → l.ended ≡ false → option_map table.control_of control ≡ moves.control_of d → control ≡ None
    → takes c e l d ≡ takes_other c e l d
taken-other c e l d control ended is none =
    taken-kind c e l d ended ∙ (ap (takes_kind c e l d) (sym is) ∙ ap (λ o. takes_kind c e l d (option_map table.control_of o)) none)

pub taken-response : (c : Context) (e : End) (l : Link) (d : Packet) (control : Option Control) → l.ended ≡ false → option_map table.control_of control ≡ moves.control_of d → control ≡ None
    → is_request d.opcode ≡ false → takes c e l d ≡ takes_response c e l d
taken-response c e l d control ended is none other =
    taken-other c e l d control ended is none
    ∙ ap (λ b. if b then (if is_paused l.moving.phase then silent c why.Paused else takes_request c e l d) else takes_response c e l d) other

pub taken-paused : (c : Context) (e : End) (l : Link) (d : Packet) (control : Option Control) → l.ended ≡ false → option_map table.control_of control ≡ moves.control_of d → control ≡ None
    → is_request d.opcode ≡ true → is_paused l.moving.phase ≡ true → takes c e l d ≡ silent c why.Paused
taken-paused c e l d control ended is none request paused =
    taken-other c e l d control ended is none
    ∙ (ap (λ b. if b then (if is_paused l.moving.phase then silent c why.Paused else takes_request c e l d) else takes_response c e l d) request
    ∙ ap (λ b. if b then silent c why.Paused else takes_request c e l d) paused)

pub taken-request : (c : Context) (e : End) (l : Link) (d : Packet) (control : Option Control) → l.ended ≡ false → option_map table.control_of control ≡ moves.control_of d → control ≡ None
    → is_request d.opcode ≡ true → is_paused l.moving.phase ≡ false → takes c e l d ≡ takes_request c e l d
taken-request c e l d control ended is none request paused =
    taken-other c e l d control ended is none
    ∙ (ap (λ b. if b then (if is_paused l.moving.phase then silent c why.Paused else takes_request c e l d) else takes_response c e l d) request
    ∙ ap (λ b. if b then silent c why.Paused else takes_request c e l d) paused)

pub ack-reply : (held : List RegisteredRegion) (l : EndLink) (r : EndReply) → IsAck r → IsReply held l r
ack-reply held l reply.Nothing ack = tt
ack-reply held l (reply.ResumeAck count address) ack = tt
ack-reply held l (reply.Acknowledge number syndrome) ack = absurd ack
ack-reply held l (reply.ReadBytes spot first count) ack = absurd ack
ack-reply held l (reply.Old number old) ack = absurd ack

-- no reply sends nothing
pub none-sent : (s : EndWithMemory) → [] ≡ sent_of s reply.Nothing
none-sent s = by_link s.end.link
  where
    by_link : (o : Option EndLink) → [] ≡ option_map_or (λ l. sent_by (regions_of s.pool s.held) (link_in s.pool l) reply.Nothing) o []
    by_link None = refl
    by_link (Some l) = refl
