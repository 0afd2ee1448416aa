-- What an end is in the words of the protocol's rules.
use Rattle.std.specs.Prelude.{◌≡◌, Bool, true, false, List, [], Option, Some, None, option_map}
use Rattle.rdma_types.specs.declared.names.Name.{Name}
use Rattle.rdma_types.specs.declared.requests.Receive.{Receive}
use Rattle.page_pool.specs.Pool.{Pool}
use Rattle.end_queues.specs.declared.work_queues.posted.QueuedRequest.{QueuedRequest}
use Rattle.requester.specs.Sending.{sender_in}
use Rattle.transport.specs.Table.{moving_of}
use Rattle.protocol.specs.EndWords.{in_use_by}
use Rattle.protocol.specs.State.{Link, End}
use Rattle.endpoint_core.specs.declared.end.Endpoint.{Endpoint}
use Rattle.endpoint_core.specs.declared.end.EndLink.{EndLink}

-- an end's name and those of its completion queues, as its context says them
pub record Names : Type 0 where
  pub name : Name
  pub send_cq : Name
  pub recv_cq : Name

-- a connection, with the bytes that its requests have in a pool
abbrev pub link_in : Pool → EndLink → Link
link_in pool l = record {
  ended = l.ended;
  peer = l.peer;
  terms = l.terms;
  moving = moving_of l.moves;
  sender = sender_in pool l.requester;
  receiver = l.responder.receiver;
}

-- an end
abbrev pub end_in : Pool → Names → Endpoint → End
end_in pool names e = record {
  name = names.name;
  number = e.number;
  domain = e.domain;
  send_cq = names.send_cq;
  recv_cq = names.recv_cq;
  send_depth = e.send_depth;
  recv_depth = e.recv_depth;
  unused = e.recvs.items;
  link = option_map (link_in pool) e.link;
}

-- it is in Error
abbrev pub is_ended_link : Option EndLink → Bool
is_ended_link None = false
is_ended_link (Some l) = l.ended

-- the requests of a connection that are not told
abbrev pub untold_by : Option EndLink → List QueuedRequest
untold_by None = []
untold_by (Some l) = l.requester.items

-- the receive that a message of a connection uses
abbrev pub used_by : Option EndLink → List Receive
used_by None = []
used_by (Some l) = in_use_by l.responder.receiver.progress

-- the numbers of a connection's requester may be others, and how far it has moved, where it is not in Error; all else stays
pub record KeepsLink (old new : EndLink) : Type 0 where
  pub same : new ≡ record old { requester = new.requester; moves = new.moves }
  pub moves : old.ended ≡ true → new.moves ≡ old.moves
  pub terms : new.requester.terms ≡ old.requester.terms
  pub depth : new.requester.depth ≡ old.requester.depth
  pub items : new.requester.items ≡ old.requester.items

-- the connection is there, and what its acknowledges are made of is as it was
pub record KeepsPartner (old : EndLink) (new : Option EndLink) : Type 0 where
  pub link : EndLink
  pub there : new ≡ Some link
  pub peer : link.peer ≡ old.peer
  pub terms : link.terms ≡ old.terms
  pub partner : link.moves.partner ≡ old.moves.partner
  pub msn : link.responder.receiver.msn ≡ old.responder.receiver.msn
