use Rattle.protocol.specs.declared.events.WorldEvent.TheVariants.{Deliver}
use Rattle.law_simulation.proofs.runs.Inner.{named_more}
use Rattle.law_simulation.proofs.runs.Table.{each_follows}
use Rattle.law_simulation.proofs.runs.events_follow.Goals as goal

pub returns : goal.returns
returns c = each_follows (record {
  device = c.making_follows.ensures.device;
  context = c.making_follows.ensures.context;
  domain = c.making_follows.ensures.domain;
  region = c.making_follows.ensures.region;
  queue = c.making_follows.ensures.queue;
  queue_pair = c.making_follows.ensures.queue_pair;
  connect = c.making_follows.ensures.connect;
  store = c.memory_follows.ensures.store;
  load = c.memory_follows.ensures.load;
  drop = c.memory_follows.ensures.drop;
  lose = c.network_follows.ensures.lose;
  wire = c.network_follows.ensures.wire;
  send = c.posting_follows.ensures.send;
  receive = c.posting_follows.ensures.receive;
  poll = c.posting_follows.ensures.poll;
  transmit = c.sending_follows.ensures.transmit;
  expire = c.sending_follows.ensures.expire;
  rnr_over = c.sending_follows.ensures.rnr_over;
  stop = c.stop_follows.ensures;
  restore = c.restore_follows.ensures;
  release = c.release_follows.ensures;
}) (λ k w m r s. named_more w m (Deliver k) (c.deliveries_follow.ensures c.datagrams_are_taken.ensures k w m r s))
