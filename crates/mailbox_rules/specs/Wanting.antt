-- Calls that run out of memory: they are cut off after some of their steps, and any later call goes on from there.
use Rattle.std.specs.Prelude.{ℕ, ◌≡◌, true, List, ◌++◌, Option, None}
use Rattle.protocol.specs.declared.events.WorldEvent.{WorldEvent}
use Rattle.protocol.specs.WorldStep.{world_after}
use Rattle.law_settling.specs.Events.{settling_events}
use Rattle.mailbox_rules.specs.declared.letters.Letter.{Letter}
use Rattle.mailbox_rules.specs.Letters.{is_rendezvous}
use Rattle.mailbox_rules.specs.Opening.{slot_address}
use Rattle.mailbox_rules.specs.State.{Mail, with_world}
use Rattle.mailbox_rules.specs.Working.{begun, worked, working}
use Rattle.mailbox_rules.specs.Calls.{Call, Send, Take, Work, Network, Settle, send_fault, staged, storing}

-- what a sender's region may hold of a letter that is not sent: nothing, its body, or its message too
pub data IsPartlyStored (m : Mail) (i : ℕ) (l : Letter) : Mail → Type 0 where
  NotStored : IsPartlyStored m i l m
  BodyStored : is_rendezvous l.body ≡ true → IsPartlyStored m i l (storing m i slot_address l.body)
  AllStored : IsPartlyStored m i l (staged m i l)

-- work was cut off after so many steps
pub record IsWorkCut (m m' : Mail) : Type 0 where
  pub steps : ℕ
  pub after : m' ≡ (worked steps (begun m)).mail

-- a letter was not sent: all was done but the posting, or less
pub record IsSendCut (m : Mail) (i : ℕ) (l : Letter) (m' : Mail) : Type 0 where
  pub may : send_fault (working m) i l.body ≡ None
  pub stored : IsPartlyStored (working m) i l m'

-- settling was cut off after its first events
pub record IsSettlingCut (m m' : Mail) : Type 0 where
  pub made : List WorldEvent
  pub rest : List WorldEvent
  pub are : settling_events m.world ≡ made ++ rest
  pub after : m' ≡ with_world m (world_after m.world made)

-- what a call may leave that ran out of memory: no letter is lost, sent or taken
pub data IsCut (m : Mail) : Call → Mail → Type 0 where
  SendWorkCut : {from tag : ℕ} {body : List ℕ} {m' : Mail} → IsWorkCut m m' → IsCut m (Send from tag body) m'
  SendCut : {from tag : ℕ} {body : List ℕ} {m' : Mail} → IsSendCut m from (record { tag = tag; body = body }) m' → IsCut m (Send from tag body) m'
  TakeCut : {from : ℕ} {tag : Option ℕ} {m' : Mail} → IsWorkCut m m' → IsCut m (Take from tag) m'
  WorkCut : {m' : Mail} → IsWorkCut m m' → IsCut m Work m'
  NetworkCut : {e : WorldEvent} → IsCut m (Network e) m
  SettleCut : {m' : Mail} → IsSettlingCut m m' → IsCut m Settle m'
