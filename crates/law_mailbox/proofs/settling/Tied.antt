-- What is counted of a connection is tied to what the packetless machine did.
use Rattle.std.proofs.Common.{arith, ◌≡◌, ℕ, ◌+◌, ◌≤◌, List, length, true, false, Bool, refl, sym, subst, ap, ◌∙◌, Some, None, Option, ◌⊎◌, inl, inr}
use Rattle.std.specs.Prelude.{◌↔◌, nat_le, ◌&&◌}
use Rattle.std.proofs.lemmas.Option.{same_Some}
use Rattle.packetless_machine.specs.Machine.{End, end_of}
use Rattle.mailbox_rules.specs.declared.letters.Letter.{Letter}
use Rattle.mailbox_rules.specs.Calls.{After, Gives, Reply, Take, calls, takes}
use Rattle.mailbox_rules.specs.Histories.{Placed, Turn, first_wanted, placed_letters, sent_letters}
use Rattle.mailbox_rules.specs.Opening.{receiver_end, sender_end}
use Rattle.mailbox_rules.specs.State.{Channel, Mail, channel, is_away, is_sender}
use Rattle.mailbox_rules.specs.Theorem.{IsAwaited, IsLanded}
use Rattle.mailbox_rules.specs.Working.{working}
use Rattle.law_mailbox.specs.AlwaysFew.{WorkAlwaysFindsRoom}
use Rattle.law_mailbox.specs.Arrived.{AreOpen, HasArrived}
use Rattle.law_mailbox.specs.Calls.{WorksAreKept}
use Rattle.law_mailbox.specs.Kept.{IsKept, Sight, bodies, copies, reads_in, sight_of}
use Rattle.law_mailbox.specs.Over.{StoppedWorkIsOver}
use Rattle.law_mailbox.specs.Reached.{AllIsPosted}
use Rattle.law_mailbox.specs.Stops.{WorkStopsInTime}
use Rattle.law_mailbox.specs.Tied.{AreTied, CountsAreTied, HasCome, HasNotCome, IsLevel, IsNotAhead, IsTakenAsCame}
use Rattle.law_mailbox.proofs.settling.AtRest.{IsAtRest, at_rest}
use Rattle.law_mailbox.proofs.settling.Finishing.{IsReceiverDone, receiver_over, taken_after}
use Rattle.law_mailbox.proofs.settling.Opened.{were_sent}
use Rattle.law_mailbox.proofs.settling.Taking.{IsGivenAt, IsNotGiven, outcome}
use Rattle.law_mailbox.proofs.work.Channels.{IsSender, sender_is}

-- ---- one connection

-- of an end in Error all requests are told
told_reads : (told posted : ℕ) (ended : Bool) (reads due : ℕ) → (ended ≡ true → told ≡ posted) → (ended ≡ false → reads + due ≡ reads_in told) → reads + due ≤ reads_in posted → reads ≤ reads_in told
told_reads told posted true reads due over level most = let all = over refl in omega (arith, all, most)
told_reads told posted false reads due over level most = let same = level refl in omega (arith, same)

module _ (i : ℕ) (s : Sight) (c : Channel) (sent : List Letter) (open' : List Placed) (h : IsKept i s c sent open') where
  not_ahead : IsNotAhead c s.sender s.receiver
  not_ahead = record {
    messages = let a = h.messages.receives_completed in omega (arith, a);
    bodies = told_reads s.receiver.told (length s.receiver.posted) s.receiver.ended c.reads (length (bodies i s.dues)) h.counts.over h.counts.bodies_told h.counts.bodies_posted;
  }

  level : IsReceiverDone i s.dues → IsLevel c s.sender s.receiver
  level done = record {
    messages = let a = h.messages.receives_completed in let none : length (copies i s.dues) ≡ 0 = ap length done.copied in omega (arith, a, none);
    bodies = λ lives. let a = h.counts.bodies_told lives in let none : length (bodies i s.dues) ≡ 0 = ap length done.filled in omega (arith, a, none);
  }

-- ---- a letter that is taken, where all is level

module _ (c : Channel) (sender receiver : End) (sent : List Letter) (lives : receiver.ended ≡ false) (same : IsLevel c sender receiver) (x : Placed) where
  landed : HasCome sender receiver sent x → IsLanded c sent x
  landed come = record {
    received = let a = same.messages in let b = come.acted in omega (arith, a, b);
    fetched = λ long. let a = same.bodies lives in let b = come.told long in omega (arith, a, b);
  }

  came : IsLanded c sent x → HasCome sender receiver sent x
  came is = record {
    acted = let a = same.messages in let b = is.received in omega (arith, a, b);
    told = λ long. let a = same.bodies lives in let b = is.fetched long in omega (arith, a, b);
  }

module _ (c : Channel) (sender receiver : End) (sent : List Letter) (lives : receiver.ended ≡ false) (same : IsLevel c sender receiver) where
  has_not : (o : Option Placed) → IsAwaited c sent o → HasNotCome sender receiver sent o
  has_not None awaited = tt
  has_not (Some x) awaited = λ come. awaited (landed c sender receiver sent lives same x come)

  awaits : (o : Option Placed) → HasNotCome sender receiver sent o → IsAwaited c sent o
  awaits None not_come = tt
  awaits (Some x) not_come = λ is. not_come (came c sender receiver sent lives same x is)

module _ (m : Mail) (i : ℕ) (sent : List Letter) (open' : List Placed) (there : is_sender m i ≡ true) (opened : AreOpen sent open') (arrived : HasArrived (channel m i) sent open')
    (sender receiver : End) (lives : receiver.ended ≡ false) (same : IsLevel (channel m i) sender receiver) where
  given : (tag : Option ℕ) (x : Placed) → first_wanted tag open' ≡ Some x → HasCome sender receiver sent x → (takes m i tag).reply ≡ Gives (Some x.letter)
  given tag x first come = by (outcome m i sent open' tag there opened arrived)
    where
      by : IsGivenAt m i sent open' tag ⊎ IsNotGiven m i sent open' tag → (takes m i tag).reply ≡ Gives (Some x.letter)
      by (inl g) = ap (λ (a : After). a.reply) g.answer ∙ ap (λ (y : Placed). Gives (Some y.letter)) (same_Some g.x x (sym g.first ∙ first))
      by (inr g) = absurd ((subst (λ (o : Option Placed). IsAwaited (channel m i) sent o) first g.awaited) (landed (channel m i) sender receiver sent lives same x come))

  none : (tag : Option ℕ) → ((takes m i tag).reply ≡ Gives None) ↔ HasNotCome sender receiver sent (first_wanted tag open')
  none tag = by (outcome m i sent open' tag there opened arrived)
    where
      by : IsGivenAt m i sent open' tag ⊎ IsNotGiven m i sent open' tag → ((takes m i tag).reply ≡ Gives None) ↔ HasNotCome sender receiver sent (first_wanted tag open')
      by (inl g) = (
        λ e. let no : Gives (Some g.x.letter) ≡ Gives None = sym (ap (λ (a : After). a.reply) g.answer) ∙ e in cc,
        λ not_come. absurd ((subst (λ (o : Option Placed). HasNotCome sender receiver sent o) g.first not_come) (came (channel m i) sender receiver sent lives same g.x g.landed)),
      )
      by (inr g) = (λ e. has_not (channel m i) sender receiver sent lives same (first_wanted tag open') g.awaited, λ not_come. ap (λ (a : After). a.reply) g.answer)

-- ---- after any calls

module _ (peers : ℕ) (ts : List Turn) (m : Mail) (r : IsAtRest peers ts m) where
  kept : (i : ℕ) → 1 ≤ i → i ≤ peers → IsKept i (sight_of r.held.machine (working m).owed i) (channel (working m) i) (sent_letters i ts) (placed_letters i ts)
  kept i low high = r.held.all.kept i low high

  all_level : is_away (working m).world 0 ≡ false → (i : ℕ) → 1 ≤ i → i ≤ peers → IsLevel (channel (working m) i) (end_of r.held.machine (sender_end i)) (end_of r.held.machine (receiver_end i))
  all_level home i low high =
      level i (sight_of r.held.machine (working m).owed i) (channel (working m) i) (sent_letters i ts) (placed_letters i ts) (kept i low high) (receiver_over peers (working m) r.held.machine r.held.stands r.over home i low)

  -- as many senders as before
  long_same : length m.channels ≡ length (working m).channels
  long_same = r.before.senders ∙ sym r.held.senders

  taken_as_came : is_away (working m).world 0 ≡ false → (i : ℕ) → is_sender m i ≡ true → (end_of r.held.machine (receiver_end i)).ended ≡ false → IsTakenAsCame m ts i (end_of r.held.machine (sender_end i)) (end_of r.held.machine (receiver_end i))
  taken_as_came home i there lives =
      let s : IsSender m i = sender_is m i there in
      let low = s.from_one in
      let high : i ≤ peers = subst (λ (n : ℕ). i ≤ n) r.before.senders s.within in
      let there' : is_sender (working m) i ≡ true = sym (ap (λ (n : ℕ). nat_le 1 i && nat_le i n) long_same) ∙ there in
      let arrived = (kept i low high).arrived in
      let same = all_level home i low high in
      let sender : End = end_of r.held.machine (sender_end i) in
      let receiver : End = end_of r.held.machine (receiver_end i) in
      let replies : (tag : Option ℕ) → (takes (working m) i tag).reply ≡ (calls m (Take i tag)).reply = λ tag. ap (λ (a : After). a.reply) (sym (taken_after m i tag)) in
      record {
        given = λ tag x first come. sym (replies tag) ∙ given (working m) i (sent_letters i ts) (placed_letters i ts) there' (were_sent i ts) arrived sender receiver lives same tag x first come;
        none = λ tag. subst (λ (y : Reply). (y ≡ Gives None) ↔ HasNotCome sender receiver (sent_letters i ts) (first_wanted tag (placed_letters i ts))) (replies tag)
            (none (working m) i (sent_letters i ts) (placed_letters i ts) there' (were_sent i ts) arrived sender receiver lives same tag);
      }

  tied : AreTied peers ts m
  tied = record {
    machine = r.held.machine;
    stands = r.held.stands;
    not_ahead = λ i low high. not_ahead i (sight_of r.held.machine (working m).owed i) (channel (working m) i) (sent_letters i ts) (placed_letters i ts) (kept i low high);
    level = all_level;
    taken = taken_as_came;
  }

pub counts_tied : AllIsPosted → WorkAlwaysFindsRoom → WorkStopsInTime → StoppedWorkIsOver → WorksAreKept → CountsAreTied
counts_tied posted finds stops over works peers low small ts m reached = tied peers ts m (at_rest posted finds stops over works peers low small ts m reached)
