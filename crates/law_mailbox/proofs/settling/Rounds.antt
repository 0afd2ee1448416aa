-- Three rounds of settling and work copy all and free the slot.
use Rattle.std.proofs.Common.{arith, ◌≡◌, ℕ, ◌+◌, List, [], ◌∷◌, length, true, false, Bool, cond, refl, sym, ap, ◌∙◌}
use Rattle.std.specs.Prelude.{if◌then◌else◌}
use Rattle.mailbox_rules.specs.declared.letters.Letter.{Letter}
use Rattle.mailbox_rules.specs.Histories.{fetched_before}
use Rattle.mailbox_rules.specs.Letters.{is_rendezvous}
use Rattle.law_mailbox.specs.Kept.{bodies, copies, fetches, frees, frees_in, long_letters, reads_in, slots}
use Rattle.law_mailbox.specs.Settled.{IsLive, IsRound, ThreeRoundsAreEnough}
use Rattle.law_mailbox.specs.Works.{Line}
use Rattle.law_mailbox.proofs.queue_room.Counts.{fetched_cons, one_if}

-- all long letters are among all letters
pub all_long : (ls : List Letter) → fetched_before (length ls) ls ≡ length (long_letters ls)
all_long [] = omega arith
all_long (l ∷ ls) = fetched_cons (length ls) l ls ∙ by (all_long ls) (is_rendezvous l.body)
  where
    by : fetched_before (length ls) ls ≡ length (long_letters ls) → (b : Bool) → one_if b + fetched_before (length ls) ls ≡ length (cond b (l ∷ long_letters ls) (long_letters ls))
    by h true = omega arith
    by h false = omega arith

pub unused : (b : Bool) → ◌≡◌ {A = ℕ} (if b then 1 else 0) 0 → b ≡ false
unused true e = cc
unused false e = refl

module _ (i : ℕ) (x a b : Line) (r : IsRound i x a b) (live : IsLive b) where
  -- the ends live where the settling is over
  sender_live : a.sight.sender.ended ≡ false
  sender_live = r.worked.ahead.sender_lived live.sender_lives

  receiver_live : a.sight.receiver.ended ≡ false
  receiver_live = r.worked.ahead.receiver_lived live.receiver_lives

  -- and where it began
  pub lived : IsLive x
  lived = record {
    sender_lives = r.settled.sender_lived sender_live;
    receiver_lives = r.settled.receiver_lived receiver_live;
    unflagged = r.settled.unflagged (r.worked.ahead.unflagged live.unflagged);
  }

  same_long : length (long_letters a.sent) ≡ length (long_letters b.sent)
  same_long = ap (λ (ls : List Letter). length (long_letters ls)) (sym r.worked.ahead.same_sent)

  pub long_since : length (long_letters x.sent) ≡ length (long_letters b.sent)
  long_since = ap (λ (ls : List Letter). length (long_letters ls)) (sym r.settled.same_sent) ∙ same_long

  -- all messages are copied
  pub received : b.channel.receives ≡ length b.sent
  received =
      let all = r.kept.sends.all_posted sender_live in
      let told = r.sends_told in
      let more = r.worked.ahead.more_sends in
      let same : length b.sent ≡ length a.sent = ap length r.worked.ahead.same_sent in
      let parts = r.worked.kept.messages.receives_completed in
      let none : length (copies i b.sight.dues) ≡ 0 = ap length r.copied in
      let acted = r.worked.kept.sends.acted_within in
      let posted = r.worked.kept.sends.posted_within in
      omega (arith, all, told, more, same, parts, none, acted, posted)

  -- a Read is posted for each long letter
  pub reads_posted : reads_in (length b.sight.receiver.posted) ≡ length (long_letters b.sent)
  reads_posted =
      let all = r.worked.posted.reads_all live.receiver_lives live.unflagged in
      let none : length (fetches i b.sight.dues) ≡ 0 = ap length r.fetched in
      let long : fetched_before b.channel.receives b.sent ≡ length (long_letters b.sent) = ap (λ (n : ℕ). fetched_before n b.sent) received ∙ all_long b.sent in
      omega (arith, all, none, long)

  -- where the Reads were posted before, all bodies are copied
  pub read : reads_in (length x.sight.receiver.posted) ≡ length (long_letters x.sent) → b.channel.reads ≡ length (long_letters b.sent)
  read before =
      let since = long_since in
      let grew = r.settled.more_posted in
      let told = r.all_told in
      let more = r.worked.ahead.more_told in
      let parts = r.worked.kept.counts.bodies_told live.receiver_lives in
      let none : length (bodies i b.sight.dues) ≡ 0 = ap length r.filled in
      let few = r.worked.kept.counts.bodies_posted in
      let most = reads_posted in
      omega (arith, before, since, grew, told, more, parts, none, few, most)

  -- .. and a Send of no bytes is posted for each of them
  pub frees_posted : reads_in (length x.sight.receiver.posted) ≡ length (long_letters x.sent) → frees_in (length b.sight.receiver.posted) ≡ length (long_letters b.sent)
  frees_posted before =
      let all = r.worked.posted.frees_all live.receiver_lives live.unflagged in
      let none : length (frees i b.sight.dues) ≡ 0 = ap length r.freed in
      let copied = read before in
      omega (arith, all, none, copied)

  -- where those were posted before, the slot is free
  pub slot_free : frees_in (length x.sight.receiver.posted) ≡ length (long_letters x.sent) → slots i b.sight.dues ≡ [] → b.channel.slot_in_use ≡ false
  slot_free before nothing =
      let since = long_since in
      let grew = r.settled.more_posted in
      let told = r.all_told in
      let acted = r.kept.counts.told_acted receiver_live in
      let more = r.worked.ahead.more_acted in
      let parts = r.worked.kept.counts.slot_freed in
      let none : length (slots i b.sight.dues) ≡ 0 = ap length nothing in
      unused b.channel.slot_in_use (omega (arith, before, since, grew, told, acted, more, parts, none))

pub three_rounds : ThreeRoundsAreEnough
three_rounds i x a b a' b' a'' b'' first second third live =
    let live2 : IsLive b' = lived i b' a'' b'' third live in
    let live1 : IsLive b = lived i b a' b' second live2 in
    let one = reads_posted i x a b first live1 in
    let two = reads_posted i b a' b' second live2 in
    record {
      receives_all = received i b' a'' b'' third live;
      reads_all = read i b' a'' b'' third live two;
      slot_free = slot_free i b' a'' b'' third live (frees_posted i b a' b' second live2 one);
    }
