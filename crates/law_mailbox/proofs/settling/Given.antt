-- Where all letters of a sender are copied each open one is given, and where its slot is free too none is refused as Full.
use Rattle.std.proofs.Common.{arith, ◌≡◌, ℕ, ◌<◌, List, [], ◌∷◌, length, true, false, Bool, refl, sym, subst, ap, Some, None, Option, ◌⊎◌, inl, inr}
use Rattle.std.specs.Prelude.{All, if◌then◌else◌, nat_lt, not, slice_get, ◌&&◌, ◌||◌}
use Rattle.std.proofs.lemmas.List.Elements.{All-head, All-tail}
use Rattle.std.proofs.lemmas.Option.{same_Some, slice_get_within}
use Rattle.rdma_types.specs.Limits.{most_bytes}
use Rattle.mailbox_rules.specs.declared.due.Side.TheVariants.{AtSender}
use Rattle.mailbox_rules.specs.declared.faults.MailFault.{MailFault}
use Rattle.mailbox_rules.specs.declared.faults.MailFault.TheVariants as fault
use Rattle.mailbox_rules.specs.declared.letters.Letter.{Letter}
use Rattle.mailbox_rules.specs.Calls.{After, Gives, IsSent, Refused, by_fault, is_full, message_of, posts_letter, replies, send_event, sending, sends, staged, takes}
use Rattle.mailbox_rules.specs.Histories.{Placed, first_wanted, is_wanted}
use Rattle.mailbox_rules.specs.Letters.{is_rendezvous}
use Rattle.mailbox_rules.specs.State.{Mail, channel, is_away, is_sender, with_channel}
use Rattle.mailbox_rules.specs.Theorem.{IsAwaited, IsGiven, IsLanded}
use Rattle.mailbox_rules.specs.Working.{asking, is_too_many, posted}
use Rattle.law_mailbox.specs.Finished.{CopiedLettersAreGiven, HasRoom}
use Rattle.law_mailbox.proofs.connection.Long.{fetched_less}
use Rattle.law_mailbox.proofs.settling.Rounds.{all_long}
use Rattle.law_mailbox.proofs.settling.Taking.{IsGivenAt, IsNotGiven, outcome}

wanted_is : (P : Placed → Type 0) (tag : Option ℕ) (xs : List Placed) (x : Placed) → All P xs → first_wanted tag xs ≡ Some x → P x
wanted_is P tag [] x all e = cc
wanted_is P tag (y ∷ ys) x all e = by (is_wanted tag y) (wanted_is P tag ys x (All-tail P y ys all)) e
  where
    by : (b : Bool) → (first_wanted tag ys ≡ Some x → P x) → (if b then Some y else first_wanted tag ys) ≡ Some x → P x
    by true rest f = subst P (same_Some y x f) (All-head P y ys all)
    by false rest f = rest f

pub copied_given : CopiedLettersAreGiven
copied_given m i sent open' tag there opened arrived received read = by (outcome m i sent open' tag there opened arrived)
  where
    landed : (x : Placed) → slice_get sent x.place ≡ Some x.letter → IsLanded (channel m i) sent x
    landed x at =
        let within : x.place < length sent = slice_get_within sent x.place x.letter at in
        record {
          received = omega (arith, within, received);
          fetched = λ long. let less = fetched_less sent x.place (length sent) x.letter at long within in omega (arith, less, all_long sent, read);
        }

    nothing : (o : Option Placed) → first_wanted tag open' ≡ o → IsAwaited (channel m i) sent o → (takes m i tag).reply ≡ Gives None → IsGiven o (takes m i tag).reply
    nothing None e awaited reply = reply
    nothing (Some x) e awaited reply = absurd (awaited (landed x (wanted_is (λ y. slice_get sent y.place ≡ Some y.letter) tag open' x opened.there e)))

    by : IsGivenAt m i sent open' tag ⊎ IsNotGiven m i sent open' tag → IsGiven (first_wanted tag open') (takes m i tag).reply
    by (inl g) = subst (λ (o : Option Placed). IsGiven o (takes m i tag).reply) (sym g.first) (ap (λ (a : After). a.reply) g.answer)
    by (inr g) = nothing (first_wanted tag open') refl g.awaited (ap (λ (a : After). a.reply) g.answer)

-- ---- none is Full

-- the answer where the letter is posted
posted_reply : (m : Mail) (i : ℕ) (l : Letter) → (posts_letter m i l).reply ≡ Refused fault.Full → ⊥
unfolding posts_letter
posted_reply m i l e = by (is_too_many (asking (staged m i l) (send_event i (length (message_of i l)))).answer) e
  where
    by : (b : Bool) → (if b then replies (posted (asking (staged m i l) (send_event i (length (message_of i l)))) AtSender i) (Refused fault.Ended) else replies (with_channel (posted (asking (staged m i l) (send_event i (length (message_of i l)))) AtSender i) i (sending l)) IsSent).reply ≡ Refused fault.Full → ⊥
    by true f = cc
    by false f = cc

module _ (m : Mail) (i : ℕ) (l : Letter) (room : HasRoom m i) where
  -- what the table of refusals says
  abbrev table : Bool → Bool → Bool → Bool → Bool → Option MailFault
  table no_sender long away ended full =
      if no_sender then Some fault.NoSender else if long then Some fault.TooLong else if away then Some fault.Moving else if ended then Some fault.Ended else if full then Some fault.Full else None

  not_full : is_sender m i ≡ true → is_away m.world i ≡ false → is_full m i l.body ≡ false
  not_full there live = let r = room there live in rw (r.0, r.1) (by (is_rendezvous l.body))
    where
      by : (b : Bool) → (false || (b && false)) ≡ false
      by true = refl
      by false = refl

  by_table : (no_sender long away ended full : Bool) → (no_sender ≡ false → away ≡ false → full ≡ false) → (by_fault m (table no_sender long away ended full) (posts_letter m i l)).reply ≡ Refused fault.Full → ⊥
  by_table true long away ended full free e = cc
  by_table false true away ended full free e = cc
  by_table false false true ended full free e = cc
  by_table false false false true full free e = cc
  by_table false false false false true free e = let f : true ≡ false = free refl refl in cc
  by_table false false false false false free e = posted_reply m i l e

  there_if : (b : Bool) → not b ≡ false → b ≡ true
  there_if true e = refl
  there_if false e = cc

  pub none_full : (sends m i l).reply ≡ Refused fault.Full → ⊥
  unfolding sends
  none_full e = by_table (not (is_sender m i)) (nat_lt most_bytes (length l.body)) (is_away m.world i) (channel m i).sender_ended (is_full m i l.body) (λ there live. not_full (there_if (is_sender m i) there) live) e
