-- Which flags of connections are set by completions that are polled and by postings.
use Rattle.std.proofs.Common.{arith, ◌≡◌, ◌≢◌, ℕ, zero, suc, ◌≤◌, List, [], ◌∷◌, length, true, false, Bool, refl, sym, subst, ap, ◌∙◌, Some, None, Option, ◌⊎◌, inl, inr, eqb-true}
use Rattle.std.proofs.lemmas.Bool.{eqb-false}
use Rattle.std.specs.Prelude.{All, if◌then◌else◌, ◌==◌}
use Rattle.std.proofs.lemmas.List.Elements.{All-head, All-tail}
use Rattle.rdma_types.specs.declared.requests.Completion.{Completion}
use Rattle.protocol.specs.declared.events.Event.{Event}
use Rattle.mailbox_rules.specs.declared.due.Due.{Due}
use Rattle.mailbox_rules.specs.declared.due.Side.{Side}
use Rattle.mailbox_rules.specs.declared.due.Side.TheVariants.{AtReceiver, AtSender}
use Rattle.mailbox_rules.specs.Opening.{connection_of}
use Rattle.mailbox_rules.specs.State.{Channel, Mail, channel, ending, has_ended, is_sender, with_channel}
use Rattle.mailbox_rules.specs.Working.{asking, due_of, failing, is_success, is_too_many, noting, noting_all, owing, posting}
use Rattle.law_mailbox.proofs.queue_room.FewCounted.{AreKnown}
use Rattle.law_mailbox.proofs.work.Changing.{one_or_not}
use Rattle.law_mailbox.proofs.work.Channels.{changed_elsewhere, changed_long, changed_there}
use Rattle.law_mailbox.proofs.work.DueSteps.{sender_there}

-- R and S are why a receiver's end and a sender's may count as ended
module _ (peers : ℕ) (R S : ℕ → Type 0) where
  -- a flag was set before, or there is reason for it
  pub record FlagsFrom (m m' : Mail) : Type 0 where
    pub at_receiver : (q : ℕ) → 1 ≤ q → q ≤ peers → (channel m' q).receiver_ended ≡ true → ((channel m q).receiver_ended ≡ true) ⊎ R q
    pub at_sender : (q : ℕ) → 1 ≤ q → q ≤ peers → (channel m' q).sender_ended ≡ true → ((channel m q).sender_ended ≡ true) ⊎ S q
    pub long : length m'.channels ≡ length m.channels

  pub flags_same : (m m' : Mail) → m'.channels ≡ m.channels → FlagsFrom m m'
  flags_same m m' same = record {
    at_receiver = λ q low high set. inl (sym (ap (λ (cs : List Channel). (channel (record m { channels = cs }) q).receiver_ended) same) ∙ set);
    at_sender = λ q low high set. inl (sym (ap (λ (cs : List Channel). (channel (record m { channels = cs }) q).sender_ended) same) ∙ set);
    long = ap length same;
  }

  pub flags_then : (a b c : Mail) → FlagsFrom a b → FlagsFrom b c → FlagsFrom a c
  flags_then a b c f g = record {
    at_receiver = λ q low high set. first (f.at_receiver q low high) (g.at_receiver q low high set);
    at_sender = λ q low high set. first (f.at_sender q low high) (g.at_sender q low high set);
    long = g.long ∙ f.long;
  }
    where
      first : {X Y Z : Type 0} → (Y → X ⊎ Z) → Y ⊎ Z → X ⊎ Z
      first before (inl y) = before y
      first before (inr z) = inr z

  -- why an end of connection j may count as ended
  abbrev pub Reason : Side → ℕ → Type 0
  Reason AtReceiver j = R j
  Reason AtSender j = S j

  module _ (m : Mail) (senders : length m.channels ≡ peers) (j : ℕ) (low : 1 ≤ j) (high : j ≤ peers) where
    there : is_sender m j ≡ true
    there = sender_there m peers j senders low high

    -- a change of one connection that leaves its flags
    pub flags_left : (change : Channel → Channel) → ((c : Channel) → (change c).receiver_ended ≡ c.receiver_ended) → ((c : Channel) → (change c).sender_ended ≡ c.sender_ended) → FlagsFrom m (with_channel m j change)
    flags_left change r s = record {
      at_receiver = λ q one most set. inl (sym (by q one (one_or_not j q)).0 ∙ set);
      at_sender = λ q one most set. inl (sym (by q one (one_or_not j q)).1 ∙ set);
      long = changed_long m j there change;
    }
      where
        by : (q : ℕ) → 1 ≤ q → (j ≡ q) ⊎ (j ≢ q) → ((channel (with_channel m j change) q).receiver_ended ≡ (channel m q).receiver_ended) × ((channel (with_channel m j change) q).sender_ended ≡ (channel m q).sender_ended)
        by q one (inl is) =
            subst (λ (k : ℕ). ((channel (with_channel m j change) k).receiver_ended ≡ (channel m k).receiver_ended) × ((channel (with_channel m j change) k).sender_ended ≡ (channel m k).sender_ended)) is (
              ap (λ (c : Channel). c.receiver_ended) (changed_there m j there change) ∙ r (channel m j),
              ap (λ (c : Channel). c.sender_ended) (changed_there m j there change) ∙ s (channel m j),
            )
        by q one (inr apart) = (ap (λ (c : Channel). c.receiver_ended) (changed_elsewhere m j there change q one apart), ap (λ (c : Channel). c.sender_ended) (changed_elsewhere m j there change q one apart))

    -- one flag is set, for a reason
    pub flags_set : (side : Side) → Reason side j → FlagsFrom m (with_channel m j (ending side))
    flags_set AtReceiver reason = record {
      at_receiver = λ q one most set. by q one set (one_or_not j q);
      at_sender = λ q one most set. inl (sym (same q one (one_or_not j q)) ∙ set);
      long = changed_long m j there (ending AtReceiver);
    }
      where
        by : (q : ℕ) → 1 ≤ q → (channel (with_channel m j (ending AtReceiver)) q).receiver_ended ≡ true → (j ≡ q) ⊎ (j ≢ q) → ((channel m q).receiver_ended ≡ true) ⊎ R q
        by q one set (inl is) = inr (subst R is reason)
        by q one set (inr apart) = inl (sym (ap (λ (c : Channel). c.receiver_ended) (changed_elsewhere m j there (ending AtReceiver) q one apart)) ∙ set)

        same : (q : ℕ) → 1 ≤ q → (j ≡ q) ⊎ (j ≢ q) → (channel (with_channel m j (ending AtReceiver)) q).sender_ended ≡ (channel m q).sender_ended
        same q one (inl is) = subst (λ (k : ℕ). (channel (with_channel m j (ending AtReceiver)) k).sender_ended ≡ (channel m k).sender_ended) is (ap (λ (c : Channel). c.sender_ended) (changed_there m j there (ending AtReceiver)))
        same q one (inr apart) = ap (λ (c : Channel). c.sender_ended) (changed_elsewhere m j there (ending AtReceiver) q one apart)
    flags_set AtSender reason = record {
      at_receiver = λ q one most set. inl (sym (same q one (one_or_not j q)) ∙ set);
      at_sender = λ q one most set. by q one set (one_or_not j q);
      long = changed_long m j there (ending AtSender);
    }
      where
        by : (q : ℕ) → 1 ≤ q → (channel (with_channel m j (ending AtSender)) q).sender_ended ≡ true → (j ≡ q) ⊎ (j ≢ q) → ((channel m q).sender_ended ≡ true) ⊎ S q
        by q one set (inl is) = inr (subst S is reason)
        by q one set (inr apart) = inl (sym (ap (λ (c : Channel). c.sender_ended) (changed_elsewhere m j there (ending AtSender) q one apart)) ∙ set)

        same : (q : ℕ) → 1 ≤ q → (j ≡ q) ⊎ (j ≢ q) → (channel (with_channel m j (ending AtSender)) q).receiver_ended ≡ (channel m q).receiver_ended
        same q one (inl is) = subst (λ (k : ℕ). (channel (with_channel m j (ending AtSender)) k).receiver_ended ≡ (channel m k).receiver_ended) is (ap (λ (c : Channel). c.receiver_ended) (changed_there m j there (ending AtSender)))
        same q one (inr apart) = ap (λ (c : Channel). c.receiver_ended) (changed_elsewhere m j there (ending AtSender) q one apart)

  -- ---- a posting

  pub posting_flags : (m : Mail) → length m.channels ≡ peers → (side : Side) (j : ℕ) (ev : Event) → 1 ≤ j → j ≤ peers → (is_too_many (asking m ev).answer ≡ true → Reason side j) → FlagsFrom m (posting m side j ev)
  unfolding posting asking
  posting_flags m senders side j ev low high reason = by (has_ended side (channel m j)) (is_too_many (asking m ev).answer) refl
    where
      by : (b t : Bool) → is_too_many (asking m ev).answer ≡ t → FlagsFrom m (if b then m else (if t then with_channel (asking m ev).mail j (ending side) else (asking m ev).mail))
      by true t e = flags_same m m refl
      by false true e = flags_then m (asking m ev).mail (with_channel (asking m ev).mail j (ending side)) (flags_same m (asking m ev).mail refl) (flags_set (asking m ev).mail senders j low high side (reason e))
      by false false e = flags_same m (asking m ev).mail refl

  -- ---- completions that are polled

  -- of context n, an error of which is a reason
  abbrev pub ReasonBy : Bool → ℕ → Completion → Type 0
  ReasonBy true n x = R (connection_of x.qp)
  ReasonBy false n x = S n

  abbrev pub ReasonOf : ℕ → Completion → Type 0
  ReasonOf n x = is_success x.status ≡ false → ReasonBy (n == 0) n x

  noting_flags : (n : ℕ) → n ≤ peers → (m : Mail) → length m.channels ≡ peers → (x : Completion) → ReasonOf n x → (n ≡ 0 → (1 ≤ connection_of x.qp) × (connection_of x.qp ≤ peers)) → FlagsFrom m (noting n m x)
  noting_flags n within m senders x reason range = by (is_success x.status) refl
    where
      owes : (o : Option Due) → FlagsFrom m (owing m o)
      owes None = flags_same m m refl
      owes (Some d) = flags_same m (owing m (Some d)) refl

      fails : (z : Bool) → (n == 0) ≡ z → ReasonBy z n x → FlagsFrom m (if z then with_channel m (connection_of x.qp) (ending AtReceiver) else with_channel m n (ending AtSender))
      fails true e why = let r : (1 ≤ connection_of x.qp) × (connection_of x.qp ≤ peers) = range (eqb-true n 0 e) in flags_set m senders (connection_of x.qp) r.0 r.1 AtReceiver why
      fails false e why = let no_zero : n ≢ 0 = eqb-false n 0 e in flags_set m senders n (positive n no_zero) within AtSender why
        where
          positive : (k : ℕ) → k ≢ 0 → 1 ≤ k
          positive zero apart = absurd (apart refl)
          positive (suc k) apart = omega arith

      by : (b : Bool) → is_success x.status ≡ b → FlagsFrom m (if b then owing m (due_of n x) else failing n x m)
      by true e = owes (due_of n x)
      by false e = fails (n == 0) refl (reason e)

  pub noting_all_flags : (n : ℕ) → n ≤ peers → (m : Mail) → length m.channels ≡ peers → (xs : List Completion) → All (ReasonOf n) xs → (n ≡ 0 → AreKnown peers xs) → FlagsFrom m (noting_all n m xs)
  unfolding noting_all
  noting_all_flags n within m senders [] all known = flags_same m m refl
  noting_all_flags n within m senders (x ∷ xs) all known =
      let one = noting_flags n within m senders x (All-head (ReasonOf n) x xs all) (λ e. All-head (λ y. (1 ≤ connection_of y.qp) × (connection_of y.qp ≤ peers)) x xs (known e)) in
      flags_then m (noting n m x) (noting_all n (noting n m x) xs) one
      (noting_all_flags n within (noting n m x) (one.long ∙ senders) xs (All-tail (ReasonOf n) x xs all) (λ e. All-tail (λ y. (1 ≤ connection_of y.qp) × (connection_of y.qp ≤ peers)) x xs (known e)))
