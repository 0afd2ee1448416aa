-- All letters of a sender are delivered, by what a caller sees.
use Rattle.std.proofs.Common.{arith, ◌≡◌, ℕ, ◌<◌, List, [], ◌∷◌, ◌++◌, length, true, false, Bool, refl, sym, subst, ◌∙◌, inl, inr, append-nil}
use Rattle.rdma_types.specs.declared.names.ObjName.{ObjName}
use Rattle.protocol.specs.declared.events.WorldEvent.{WorldEvent}
use Rattle.protocol.specs.Settle.{settled, unfinished}
use Rattle.protocol.specs.State.{World}
use Rattle.law_settling.specs.Settling.{SettlingHasEvents}
use Rattle.law_simulation.specs.Law.{AlwaysFollows}
use Rattle.law_simulation.specs.Named.{EventsFollowByName}
use Rattle.mailbox_rules.specs.declared.letters.Letter.{Letter}
use Rattle.mailbox_rules.specs.Calls.{IsQuiet, Settle, Work, after, calls, settled_thrice, settles}
use Rattle.mailbox_rules.specs.Histories.{Turn, sent_letters}
use Rattle.mailbox_rules.specs.Opening.{receiver_end}
use Rattle.mailbox_rules.specs.State.{Mail, channel, made}
use Rattle.mailbox_rules.specs.Theorem.{IsReached, LeavesNothing, Replied}
use Rattle.law_mailbox.specs.AlwaysFew.{WorkAlwaysFindsRoom}
use Rattle.law_mailbox.specs.Delivered.{AllIsDelivered, SettlesQuietly}
use Rattle.law_mailbox.specs.Flagged.{FlagsAreTrue, IsOverSince, has_failed, most_letters}
use Rattle.law_mailbox.specs.Over.{StoppedWorkIsOver}
use Rattle.law_mailbox.specs.Reached.{AllIsPosted}
use Rattle.law_mailbox.specs.Stops.{WorkStopsInTime}
use Rattle.law_mailbox.proofs.settling.Finishing.{delivered_of}
use Rattle.law_mailbox.proofs.settling.Opened.{sent_more}
use Rattle.law_mailbox.proofs.settling.Reaching.{all_finish}

-- ---- what a settling answers

settle_answer : (m : Mail) → (calls m Settle).reply ≡ IsQuiet (settled m.world).rounds (unfinished (settled m.world).world)
unfolding calls settles
settle_answer m = refl

leaves_nothing : (m : Mail) → SettlesQuietly m → LeavesNothing m
leaves_nothing m s = let e : IsQuiet (settled m.world).rounds (unfinished (settled m.world).world) ≡ IsQuiet s.rounds [] = sym (settle_answer m) ∙ s.answer in cc

-- ---- settling and work are turns that send nothing

module _ (peers : ℕ) where
  record IsReachedSame (ts : List Turn) (m : Mail) : Type 0 where
    turns : List Turn
    reached : IsReached (made peers) turns m
    same : (i : ℕ) → sent_letters i turns ≡ sent_letters i ts

  settled_same : (ts : List Turn) (m : Mail) → IsReachedSame ts m → IsReachedSame ts (calls m Settle).mail
  settled_same ts m s =
      let t : Turn = record { call = Settle; reply = (calls m Settle).reply } in
      record { turns = s.turns ++ t ∷ []; reached = Replied Settle tt s.reached; same = λ i. sent_more i s.turns t ∙ (append-nil (sent_letters i s.turns) ∙ s.same i) }

  worked_same : (ts : List Turn) (m : Mail) → IsReachedSame ts m → IsReachedSame ts (calls m Work).mail
  worked_same ts m s =
      let t : Turn = record { call = Work; reply = (calls m Work).reply } in
      record { turns = s.turns ++ t ∷ []; reached = Replied Work tt s.reached; same = λ i. sent_more i s.turns t ∙ (append-nil (sent_letters i s.turns) ∙ s.same i) }

  thrice_same : (ts : List Turn) (m : Mail) → IsReached (made peers) ts m → IsReachedSame ts (after m settled_thrice)
  unfolding after
  thrice_same ts m reached =
      let s0 : IsReachedSame ts m = record { turns = ts; reached = reached; same = λ i. refl } in
      let s1 = settled_same ts m s0 in
      let s2 = worked_same ts (calls m Settle).mail s1 in
      let s3 = settled_same ts _ s2 in
      let s4 = worked_same ts _ s3 in
      let s5 = settled_same ts _ s4 in
      worked_same ts _ s5

-- ---- no flag is set

unset : (w : World) (sent : List Letter) (o : ObjName) (b : Bool) → (b ≡ true → IsOverSince w o sent) → has_failed w o ≡ false → length sent < most_letters → b ≡ false
unset w sent o false why fine few = refl
unset w sent o true why fine few = by (why refl)
  where
    by : IsOverSince w o sent → true ≡ false
    by (inl failed) = sym failed ∙ fine
    by (inr many) = absurd (omega (arith, few, many))

pub delivered : AllIsPosted → WorkAlwaysFindsRoom → WorkStopsInTime → StoppedWorkIsOver → SettlingHasEvents → ((e : WorldEvent) → AlwaysFollows e) → EventsFollowByName → FlagsAreTrue → AllIsDelivered
delivered posted finds stops over named follow by_name flags peers low small ts m reached i one most calm =
    let room = finds peers low small in
    let b = (posted peers low small room ts m reached).held in
    let s = thrice_same peers ts m reached in
    let true_flags = flags peers low small s.turns (after m settled_thrice) s.reached in
    let few : length (sent_letters i s.turns) < most_letters = subst (λ (ls : List Letter). length ls < most_letters) (sym (s.same i)) calm.few in
    delivered_of named follow by_name over peers low small ts m b.machine b.held (all_finish posted stops peers low small room ts m reached) (leaves_nothing m calm.first) (leaves_nothing (after m (Settle ∷ Work ∷ [])) calm.second)
    (leaves_nothing (after m (Settle ∷ Work ∷ Settle ∷ Work ∷ [])) calm.third) calm.receiver_lives i one most calm.sender_fine calm.receiver_fine
    (unset (after m settled_thrice).world (sent_letters i s.turns) (receiver_end i) (channel (after m settled_thrice) i).receiver_ended (true_flags.at_receiver i one most) calm.receiver_fine few)
