-- An end that fails, as it is seen: it has ended, and nothing more is due. Expiries, waits and bounces are counted, or end their end.
use Rattle.std.proofs.Common.{◌≡◌, ℕ, suc, List, true, false, Bool, refl, Some, None, Option}
use Rattle.std.specs.Prelude.{slice_get, ◌==◌}
use Rattle.rdma_types.specs.declared.answers.RefusalReason.TheVariants as why
use Rattle.rdma_types.specs.declared.names.ObjName.{ObjName}
use Rattle.rdma_types.specs.declared.requests.WcStatus.{WcStatus}
use Rattle.rdma_types.specs.declared.requests.WcStatus.TheVariants as status
use Rattle.rdma_types.specs.Objects.{CompletionQueue}
use Rattle.packetless_machine.specs.declared.reply.Reply.{Reply}
use Rattle.packetless_machine.specs.declared.reply.Reply.TheVariants.{Denied, Finished, OldValue}
use Rattle.packetless_machine.specs.Machine.{End, Machine, context_of, end_of}
use Rattle.packetless_machine.specs.Steps.{bounce, bounce_status, ended_with, expire, failed_queues, receives_of, wait, waited}
use Rattle.packetless_machine.specs.Verbs.{has_queue}
use Rattle.mailbox_rules.specs.declared.due.Due.{Due}
use Rattle.mailbox_rules.specs.declared.letters.Letter.{Letter}
use Rattle.mailbox_rules.specs.Histories.{Placed}
use Rattle.mailbox_rules.specs.Opening.{queue_name, receiver, receiver_end, sender, sender_end}
use Rattle.mailbox_rules.specs.State.{Channel}
use Rattle.mailbox_rules.specs.Working.{is_success}
use Rattle.law_mailbox.specs.Kept.{IsKept, IsOpened, sight_of}
use Rattle.law_mailbox.specs.Moves.{ReceiverStays, SenderStays}
use Rattle.law_mailbox.specs.Seen.{IsSeen}
use Rattle.law_mailbox.proofs.connection.Quiet.{receiver_expires, receiver_seen, receiver_waits, sender_expires, sender_seen, sender_waits}
use Rattle.law_mailbox.proofs.connection.Refusals.{AreDueAlike, failed_alike, receiver_over, sender_over}

-- what bounces is no success
pub bounce_fails : (o : Option Reply) → is_success (bounce_status o) ≡ false
unfolding bounce_status
bounce_fails None = refl
bounce_fails (Some Finished) = refl
bounce_fails (Some (OldValue value)) = refl
bounce_fails (Some (Denied why.Access)) = refl
bounce_fails (Some (Denied why.Invalid)) = refl
bounce_fails (Some (Denied why.Length)) = refl

-- the queues of a context, once an end of it failed
pub failed_there : (m : Machine) (o : ObjName) (s : WcStatus) → is_success s ≡ false → has_queue m o.context queue_name ≡ true → (end_of m o).send_queue ≡ queue_name → (end_of m o).receive_queue ≡ queue_name →
    AreDueAlike (context_of m o.context).queues (failed_queues (end_of m o) s (receives_of (end_of m o)) (context_of m o.context).queues)
failed_there m o s bad there send receive =
    let queues : List CompletionQueue = (context_of m o.context).queues in
    failed_alike queues queues (end_of m o) s (receives_of (end_of m o)) bad send receive (record { there = there; dues = λ n. refl })

module _ (m : Machine) (owed : List Due) (i : ℕ) (opened : IsOpened m i) (c : Channel) (sent : List Letter) (open' : List Placed) (h : IsKept i (sight_of m owed i) c sent open') where
  -- ---- the sender's end

  sender_fails : (s : WcStatus) → is_success s ≡ false → IsSeen i owed m (ended_with m (sender_end i) s)
  unfolding ended_with
  sender_fails s bad =
      sender_over m owed i opened c sent open' h (failed_queues (end_of m (sender_end i)) s (receives_of (end_of m (sender_end i))) (context_of m (sender i)).queues)
      (failed_there m (sender_end i) s bad opened.sender_queue opened.sender_joined.send_queue opened.sender_joined.receive_queue)

  sender_last_expiry : ((end_of m (sender_end i)).spent == (end_of m (sender_end i)).retry) ≡ true → IsSeen i owed m (expire m (sender_end i))
  unfolding expire
  sender_last_expiry e = rw e (sender_fails status.RetryExceeded refl)

  pub sender_expiry : IsSeen i owed m (expire m (sender_end i))
  sender_expiry = by ((end_of m (sender_end i)).spent == (end_of m (sender_end i)).retry) refl
    where
      by : (b : Bool) → ((end_of m (sender_end i)).spent == (end_of m (sender_end i)).retry) ≡ b → IsSeen i owed m (expire m (sender_end i))
      by true e = sender_last_expiry e
      by false e = sender_expires m owed i opened c sent open' h e

  sender_last_wait : ((end_of m (sender_end i)).rnr == 7) ≡ false → ((end_of m (sender_end i)).waits == (end_of m (sender_end i)).rnr) ≡ true → IsSeen i owed m (wait m (sender_end i))
  unfolding wait
  sender_last_wait a b = rw (a, b) (sender_fails status.RnrExceeded refl)

  sender_one_wait : ((end_of m (sender_end i)).rnr == 7) ≡ false → ((end_of m (sender_end i)).waits == (end_of m (sender_end i)).rnr) ≡ false → IsSeen i owed m (wait m (sender_end i))
  unfolding wait waited
  sender_one_wait a b =
      let e : End = end_of m (sender_end i) in
      rw (a, b) (sender_seen m owed i opened c sent open' h (record (end_of m (sender_end i)) { waits = suc (end_of m (sender_end i)).waits }) refl
      (record { connected = refl; peer = refl; domain = refl; send_queue = refl; receive_queue = refl; send_depth = refl; receive_depth = refl })
      (SenderStays e.told e.known e.spent (suc e.waits) e.answers e.dry e.unused e.in_use e.ended h.plain.0 (λ live. live)))

  pub sender_wait : IsSeen i owed m (wait m (sender_end i))
  sender_wait = by ((end_of m (sender_end i)).rnr == 7) refl ((end_of m (sender_end i)).waits == (end_of m (sender_end i)).rnr) refl
    where
      by : (a : Bool) → ((end_of m (sender_end i)).rnr == 7) ≡ a → (b : Bool) → ((end_of m (sender_end i)).waits == (end_of m (sender_end i)).rnr) ≡ b → IsSeen i owed m (wait m (sender_end i))
      by true e b f = sender_waits m owed i opened c sent open' h e
      by false e true f = sender_last_wait e f
      by false e false f = sender_one_wait e f

  pub sender_bounce : IsSeen i owed m (bounce m (sender_end i))
  unfolding bounce
  sender_bounce = sender_fails (bounce_status (slice_get (end_of m (sender_end i)).answers (end_of m (sender_end i)).told)) (bounce_fails (slice_get (end_of m (sender_end i)).answers (end_of m (sender_end i)).told))

  -- ---- the receiver's end

  receiver_fails : (s : WcStatus) → is_success s ≡ false → IsSeen i owed m (ended_with m (receiver_end i) s)
  unfolding ended_with
  receiver_fails s bad =
      receiver_over m owed i opened c sent open' h (failed_queues (end_of m (receiver_end i)) s (receives_of (end_of m (receiver_end i))) (context_of m receiver).queues)
      (failed_there m (receiver_end i) s bad opened.receiver_queue opened.receiver_joined.send_queue opened.receiver_joined.receive_queue)

  receiver_last_expiry : ((end_of m (receiver_end i)).spent == (end_of m (receiver_end i)).retry) ≡ true → IsSeen i owed m (expire m (receiver_end i))
  unfolding expire
  receiver_last_expiry e = rw e (receiver_fails status.RetryExceeded refl)

  pub receiver_expiry : IsSeen i owed m (expire m (receiver_end i))
  receiver_expiry = by ((end_of m (receiver_end i)).spent == (end_of m (receiver_end i)).retry) refl
    where
      by : (b : Bool) → ((end_of m (receiver_end i)).spent == (end_of m (receiver_end i)).retry) ≡ b → IsSeen i owed m (expire m (receiver_end i))
      by true e = receiver_last_expiry e
      by false e = receiver_expires m owed i opened c sent open' h e

  receiver_last_wait : ((end_of m (receiver_end i)).rnr == 7) ≡ false → ((end_of m (receiver_end i)).waits == (end_of m (receiver_end i)).rnr) ≡ true → IsSeen i owed m (wait m (receiver_end i))
  unfolding wait
  receiver_last_wait a b = rw (a, b) (receiver_fails status.RnrExceeded refl)

  receiver_one_wait : ((end_of m (receiver_end i)).rnr == 7) ≡ false → ((end_of m (receiver_end i)).waits == (end_of m (receiver_end i)).rnr) ≡ false → IsSeen i owed m (wait m (receiver_end i))
  unfolding wait waited
  receiver_one_wait a b =
      let e : End = end_of m (receiver_end i) in
      rw (a, b) (receiver_seen m owed i opened c sent open' h (record (end_of m (receiver_end i)) { waits = suc (end_of m (receiver_end i)).waits }) refl
      (record { connected = refl; peer = refl; domain = refl; send_queue = refl; receive_queue = refl; send_depth = refl; receive_depth = refl })
      (ReceiverStays e.spent (suc e.waits) e.answers e.dry h.plain.1))

  pub receiver_wait : IsSeen i owed m (wait m (receiver_end i))
  receiver_wait = by ((end_of m (receiver_end i)).rnr == 7) refl ((end_of m (receiver_end i)).waits == (end_of m (receiver_end i)).rnr) refl
    where
      by : (a : Bool) → ((end_of m (receiver_end i)).rnr == 7) ≡ a → (b : Bool) → ((end_of m (receiver_end i)).waits == (end_of m (receiver_end i)).rnr) ≡ b → IsSeen i owed m (wait m (receiver_end i))
      by true e b f = receiver_waits m owed i opened c sent open' h e
      by false e true f = receiver_last_wait e f
      by false e false f = receiver_one_wait e f

  pub receiver_bounce : IsSeen i owed m (bounce m (receiver_end i))
  unfolding bounce
  receiver_bounce = receiver_fails (bounce_status (slice_get (end_of m (receiver_end i)).answers (end_of m (receiver_end i)).told)) (bounce_fails (slice_get (end_of m (receiver_end i)).answers (end_of m (receiver_end i)).told))
