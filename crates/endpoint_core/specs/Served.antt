-- What a request does at a connected end.
use Rattle.std.specs.Prelude.{ℕ, ◌≡◌, ◌-◌, List, length}
use Rattle.rdma_types.specs.declared.answers.ArrivalEffect.TheVariants as took
use Rattle.rdma_types.specs.declared.names.Name.{Name}
use Rattle.rdma_types.specs.declared.requests.Receive.{Receive}
use Rattle.page_pool.specs.Pool.{Pool, free_pages}
use Rattle.memory_keys.specs.declared.RegisteredRegion.{RegisteredRegion}
use Rattle.memory_keys.specs.Regions.{AreHeld, AreKeyed, KeepsOthers, regions_of}
use Rattle.end_queues.specs.Completions.{Queue}
use Rattle.end_queues.specs.Postings.{Queue as WorkQueue}
use Rattle.protocol.specs.declared.wire.Syndrome.TheVariants.{Ack, Rnr, Nak}
use Rattle.protocol.specs.Responder.{nak_code}
use Rattle.responder.specs.declared.answers.Reply.{Reply}
use Rattle.responder.specs.declared.answers.Reply.TheVariants as served
use Rattle.responder.specs.Sound.{IsSound as IsServing}
use Rattle.responder.specs.Taking.{Taking}
use Rattle.endpoint_core.specs.declared.answers.EndReply.TheVariants as reply
use Rattle.endpoint_core.specs.declared.answers.EndEffect.{EndEffect}
use Rattle.endpoint_core.specs.declared.end.EndLink.{EndLink}
use Rattle.endpoint_core.specs.Queues.{settle_at}

-- the answer of an end, from the responder's and from the expected numbers before and after it
abbrev pub request_answer : Reply → (before after : ℕ) → EndEffect
request_answer served.Acted before after = record { took = took.Acted; reply = reply.Nothing }
request_answer served.Ack before after = record { took = took.Ack; reply = reply.Acknowledge (after - 1) Ack }
request_answer (served.ReadBytes spot first count) before after = record { took = took.Bytes; reply = reply.ReadBytes spot first count }
request_answer (served.AtomicOld number old) before after = record { took = took.Old; reply = reply.Old number old }
request_answer served.SequenceNak before after = record { took = took.SeqNak; reply = reply.Acknowledge before (Nak 0) }
request_answer served.NotReady before after = record { took = took.NotReady; reply = reply.Acknowledge before Rnr }
request_answer (served.Refused w) before after = record { took = took.Refused w; reply = reply.Acknowledge before (Nak (nak_code w)) }
request_answer served.DupAck before after = record { took = took.DupAck; reply = reply.Acknowledge (before - 1) Ack }
request_answer (served.Silent w) before after = record { took = took.Silent w; reply = reply.Nothing }

-- the responder, the receives, the regions and the queue at a place are as the row says, and all else is as it was
pub record HasServed (place : ℕ) (domain : Name) (t : Taking) (l l' : EndLink) (rs rs' : WorkQueue Receive) (pool pool' : Pool) (held : List RegisteredRegion) (qs qs' : List (Name × Queue)) : Type 0 where
  pub same : l' ≡ record l { responder = record l.responder { receiver = t.receiver } }
  pub receives : rs' ≡ record rs { items = t.unused }
  pub bytes : regions_of pool' held ≡ t.regions
  pub queues : qs' ≡ settle_at qs place (length t.done) t.done
  pub regions : AreHeld pool' held
  pub others : KeepsOthers pool pool' held
  pub free : free_pages pool' ≡ free_pages pool
  pub keyed : AreKeyed held
  pub serving : IsServing held domain l'.responder rs'.items
