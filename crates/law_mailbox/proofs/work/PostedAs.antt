-- What is posted and due at the receivers' ends stays so, where letters are stored, sent or taken.
use Rattle.std.proofs.Common.{arith, ◌≡◌, ◌≢◌, ℕ, ◌≤◌, List, [], ◌++◌, length, true, Bool, refl, sym, subst, ap, ◌∙◌, ◌⊎◌, inl, inr}
use Rattle.rdma_types.specs.Lists.{named}
use Rattle.packetless_machine.specs.Machine.{End, Machine, end_of, nobody}
use Rattle.mailbox_rules.specs.declared.due.Due.{Due}
use Rattle.mailbox_rules.specs.declared.letters.Letter.{Letter}
use Rattle.mailbox_rules.specs.Histories.{Turn, fetched_before, sent_letters}
use Rattle.mailbox_rules.specs.Opening.{receiver, receiver_end, sender}
use Rattle.mailbox_rules.specs.State.{Channel, Mail, channel, is_sender, with_channel}
use Rattle.law_mailbox.specs.Finished.{IsHeldIn, IsHeldOn, line_of}
use Rattle.law_mailbox.specs.Held.{IsHeld}
use Rattle.law_mailbox.specs.Kept.{dues_of, fetches, frees, sight_of, standing}
use Rattle.law_mailbox.specs.Settled.{IsPostedLine}
use Rattle.law_mailbox.proofs.work.Changing.{one_or_not}
use Rattle.law_mailbox.proofs.work.Channels.{changed_elsewhere, changed_there}
use Rattle.law_mailbox.proofs.connection.Long.{fetched_append}
use Rattle.law_mailbox.proofs.work.Posted.{received_within}
use Rattle.law_mailbox.proofs.connection.Storing.{IsLikeMachine, standing_stays}

-- ---- what is posted and due at a receiver's end

-- how much was copied, and whether the receiver's end counts as ended
pub record Copied : Type 0 where
  pub receives : ℕ
  pub reads : ℕ
  pub flagged : Bool

abbrev pub copied_of : Channel → Copied
copied_of c = record { receives = c.receives; reads = c.reads; flagged = c.receiver_ended }

-- that of connection q is as before
pub record IsPostedAs (q : ℕ) (m m' : Mail) (machine machine' : Machine) : Type 0 where
  pub receiver_same : end_of machine' (receiver_end q) ≡ end_of machine (receiver_end q)
  pub dues_same : (sight_of machine' [] q).dues ≡ (sight_of machine [] q).dues
  pub owed_same : m'.owed ≡ m.owed
  pub copied_same : copied_of (channel m' q) ≡ copied_of (channel m q)

pub as_itself : (q : ℕ) (m : Mail) (machine : Machine) → IsPostedAs q m m machine machine
as_itself q m machine = record { receiver_same = refl; dues_same = refl; owed_same = refl; copied_same = refl }

pub as_both : (q : ℕ) (m m' m'' : Mail) (machine machine' machine'' : Machine) → IsPostedAs q m m' machine machine' → IsPostedAs q m' m'' machine' machine'' → IsPostedAs q m m'' machine machine''
as_both q m m' m'' machine machine' machine'' a b = record {
  receiver_same = b.receiver_same ∙ a.receiver_same;
  dues_same = b.dues_same ∙ a.dues_same;
  owed_same = b.owed_same ∙ a.owed_same;
  copied_same = b.copied_same ∙ a.copied_same;
}

-- where only bytes of regions are others
pub like_as : (m m' : Mail) (machine machine' : Machine) → IsLikeMachine machine machine' → m'.channels ≡ m.channels → m'.owed ≡ m.owed → (q : ℕ) → IsPostedAs q m m' machine machine'
unfolding end_of
like_as m m' machine machine' like channels owed q = record {
  receiver_same = ap (λ (es : List End). named (λ x. x.name) (nobody (receiver_end q)) (receiver_end q).name es) (like.ends receiver);
  dues_same = λ k. dues_of 0 (standing_stays machine machine' like receiver k) ++ dues_of q (standing_stays machine machine' like (sender q) k);
  owed_same = owed;
  copied_same = ap (λ (cs : List Channel). copied_of (channel (record m { channels = cs }) q)) channels;
}

-- a change of a connection that copies nothing
pub copied_stays : (m : Mail) (i : ℕ) → is_sender m i ≡ true → (change : Channel → Channel) → ((c : Channel) → copied_of (change c) ≡ copied_of c) → (q : ℕ) → 1 ≤ q → copied_of (channel (with_channel m i change) q) ≡ copied_of (channel m q)
copied_stays m i there change same q low = by (one_or_not i q)
  where
    by : (i ≡ q) ⊎ (i ≢ q) → copied_of (channel (with_channel m i change) q) ≡ copied_of (channel m q)
    by (inl e) = subst (λ (j : ℕ). copied_of (channel (with_channel m i change) j) ≡ copied_of (channel m j)) e (ap copied_of (changed_there m i there change) ∙ same (channel m i))
    by (inr apart) = ap copied_of (changed_elsewhere m i there change q low apart)

-- ---- so all stays posted

still_posted : (q : ℕ) (ts ts' : List Turn) (more : List Letter) (m m' : Mail) (machine machine' : Machine) → IsPostedAs q m m' machine machine' → sent_letters q ts' ≡ sent_letters q ts ++ more → (channel m q).receives ≤ length (sent_letters q ts) →
    IsPostedLine q (line_of machine m ts q) → IsPostedLine q (line_of machine' m' ts' q)
still_posted q ts ts' more m m' machine machine' same sent within p =
    let posted : length (end_of machine' (receiver_end q)).posted ≡ length (end_of machine (receiver_end q)).posted = ap (λ (e : End). length e.posted) same.receiver_same in
    let ended : (end_of machine' (receiver_end q)).ended ≡ (end_of machine (receiver_end q)).ended = ap (λ (e : End). e.ended) same.receiver_same in
    let dues : (sight_of machine' m'.owed q).dues ≡ (sight_of machine m.owed q).dues = (λ k. same.owed_same k ++ same.dues_same k) in
    let fetched : length (fetches q (sight_of machine' m'.owed q).dues) ≡ length (fetches q (sight_of machine m.owed q).dues) = ap (λ (ds : List Due). length (fetches q ds)) dues in
    let freed : length (frees q (sight_of machine' m'.owed q).dues) ≡ length (frees q (sight_of machine m.owed q).dues) = ap (λ (ds : List Due). length (frees q ds)) dues in
    let reads : (channel m' q).reads ≡ (channel m q).reads = ap (λ (c : Copied). c.reads) same.copied_same in
    let flagged : (channel m' q).receiver_ended ≡ (channel m q).receiver_ended = ap (λ (c : Copied). c.flagged) same.copied_same in
    let counted : fetched_before (channel m' q).receives (sent_letters q ts') ≡ fetched_before (channel m q).receives (sent_letters q ts) =
    (λ k. fetched_before (same.copied_same k).receives (sent k)) ∙ fetched_append (sent_letters q ts) more (channel m q).receives within in
    record {
      reads_all = λ live unflagged. let a = p.reads_all (sym ended ∙ live) (sym flagged ∙ unflagged) in omega (arith, a, posted, fetched, counted);
      frees_all = λ live unflagged. let a = p.frees_all (sym ended ∙ live) (sym flagged ∙ unflagged) in omega (arith, a, posted, freed, reads);
    }

-- ---- what is held

-- it is held after these turns, and what is posted and due at the receivers' ends is as before, and what stands in the receiver's queue
pub record IsHeldAs (peers : ℕ) (ts : List Turn) (m m' : Mail) (machine : Machine) : Type 0 where
  pub held : IsHeld peers ts m'
  pub as_posted : (q : ℕ) → 1 ≤ q → q ≤ peers → IsPostedAs q m m' machine held.machine
  pub standing_same : standing held.machine receiver ≡ standing machine receiver

pub held_on : (peers : ℕ) (ts ts' : List Turn) (m m' : Mail) (machine : Machine) (more : ℕ → List Letter) → ((q : ℕ) → sent_letters q ts' ≡ sent_letters q ts ++ more q) → IsHeldIn peers ts m machine → IsHeldAs peers ts' m m' machine → IsHeldOn peers ts' m'
held_on peers ts ts' m m' machine more sent h a = record {
  machine = a.held.machine;
  held = record {
    stands = a.held.stands;
    senders = a.held.senders;
    all = a.held.all;
    posted = λ q low high.
        still_posted q ts ts' (more q) m m' machine a.held.machine (a.as_posted q low high) (sent q) (received_within q (line_of machine m ts q) (h.all.kept q low high)) (h.posted q low high);
  };
}
