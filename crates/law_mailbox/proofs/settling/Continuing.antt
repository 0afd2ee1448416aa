-- What is held, with all posted, is so at the beginning, and is kept by events of the network and by work.
use Rattle.std.proofs.Common.{arith, ◌≡◌, ℕ, List, [], length, refl, ap}
use Rattle.protocol.specs.declared.events.WorldEvent.{WorldEvent}
use Rattle.law_simulation.specs.Law.{AlwaysFollows}
use Rattle.law_simulation.specs.Named.{EventsFollowByName}
use Rattle.mailbox_rules.specs.declared.letters.Letter.{Letter}
use Rattle.mailbox_rules.specs.State.{made}
use Rattle.mailbox_rules.specs.Working.{begun, worked}
use Rattle.law_mailbox.specs.Beginning.{BeginningIsHeld}
use Rattle.law_mailbox.specs.Finished.{BeginsSo, EventsKeepSo, WorksKeepSo, line_of}
use Rattle.law_mailbox.specs.Kept.{long_letters}
use Rattle.law_mailbox.specs.Settled.{IsPostedLine}
use Rattle.law_mailbox.specs.Works.{IsKeptLine, Line}
use Rattle.law_mailbox.proofs.connection.Places.{copied_long}
use Rattle.law_mailbox.proofs.work.PollChains.{seen_held, works_seen}
use Rattle.law_mailbox.proofs.settling.Settling.{event_leads}

-- where no letter was sent nothing is posted or due
none_posted : (i : ℕ) (x : Line) → x.sent ≡ [] → IsKeptLine i x → IsPostedLine i x
none_posted i x none h =
    let a = h.counts.reads_posted in
    let b = h.counts.bodies_posted in
    let d = h.counts.frees_posted in
    let few = copied_long x.channel.receives x.sent in
    let no_long : length (long_letters x.sent) ≡ 0 = ap (λ (ls : List Letter). length (long_letters ls)) none in
    record {
      reads_all = λ lives unflagged. omega (arith, a, few, no_long);
      frees_all = λ lives unflagged. omega (arith, a, b, d, few, no_long);
    }

pub begins_so : BeginningIsHeld → BeginsSo
begins_so begin peers low high = let h = begin peers low high in record {
  machine = h.machine;
  held = record {
    stands = h.stands;
    senders = h.senders;
    all = h.all;
    posted = λ i one within. none_posted i (line_of h.machine (made peers) [] i) refl (h.all.kept i one within);
  };
}

pub events_keep_so : ((e : WorldEvent) → AlwaysFollows e) → EventsKeepSo
events_keep_so follow peers ts m e net h = let a = event_leads peers follow ts m h.machine e net h.held in record { machine = a.machine'; held = a.held }

pub works_keep_so : EventsFollowByName → WorksKeepSo
works_keep_so follow peers small ts m n room h =
    let s = works_seen follow peers small ts m h.machine n h.held room in
    record { machine = s.machine'; held = seen_held follow peers small ts m (worked n (begun m)).mail h.machine h.held s }
