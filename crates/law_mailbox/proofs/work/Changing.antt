-- What is held stays held, where a step of work or a call changes one connection.
use Rattle.std.proofs.Common.{◌≡◌, ◌≢◌, ℕ, ◌≤◌, List, [], ◌++◌, true, false, Bool, refl, sym, subst, ◌∙◌, ◌⊎◌, inl, inr, eqb-true, eq-eqb}
use Rattle.std.specs.Prelude.{◌==◌}
use Rattle.rdma_types.specs.declared.names.ObjName.{ObjName}
use Rattle.packetless_machine.specs.Machine.{End, Machine, end_of}
use Rattle.mailbox_rules.specs.declared.due.Due.{Due}
use Rattle.mailbox_rules.specs.declared.letters.Letter.{Letter}
use Rattle.mailbox_rules.specs.Histories.{Placed, Turn, placed_letters, sent_letters}
use Rattle.mailbox_rules.specs.Opening.{receiver}
use Rattle.mailbox_rules.specs.State.{Channel, Mail, channel}
use Rattle.law_mailbox.specs.Held.{AreAllKept, AreOfSenders}
use Rattle.law_mailbox.specs.Kept.{IsKept, IsKeptWith, IsOpened, Pending, Sight, dues_of, pending, sight_of, standing}

-- ---- a connection of which only flags are others

pub record IsSameFor (c c' : Channel) : Type 0 where
  pub arrived : c'.arrived ≡ c.arrived
  pub receives : c'.receives ≡ c.receives
  pub reads : c'.reads ≡ c.reads
  pub slot_in_use : c'.slot_in_use ≡ c.slot_in_use

pub same_itself : (c : Channel) → IsSameFor c c
same_itself c = record { arrived = refl; receives = refl; reads = refl; slot_in_use = refl }

pub same_joined : (a b c : Channel) → IsSameFor a b → IsSameFor b c → IsSameFor a c
same_joined a b c g h = record { arrived = h.arrived ∙ g.arrived; receives = h.receives ∙ g.receives; reads = h.reads ∙ g.reads; slot_in_use = h.slot_in_use ∙ g.slot_in_use }

-- what is kept does not look at the flags
pub flags_unread : (i : ℕ) (sender receiver : End) (stored landed : List ℕ) (due : Pending) (c c' : Channel) (sent : List Letter) (open' : List Placed) → IsSameFor c c' →
    IsKeptWith i sender receiver stored landed due c sent open' → IsKeptWith i sender receiver stored landed due c' sent open'
flags_unread i sender receiver stored landed due c c' sent open' same h =
    let b : Channel = record c' { arrived = c.arrived; receives = c.receives; reads = c.reads; slot_in_use = c.slot_in_use } in
    let first : IsKeptWith i sender receiver stored landed due (record c' { arrived = c.arrived; receives = c.receives; reads = c.reads; slot_in_use = c.slot_in_use }) sent open' =
    record {
      letters = h.letters;
      unoffered = h.unoffered;
      number = h.number;
      plain = h.plain;
      sends = h.sends;
      messages = h.messages;
      places = h.places;
      queue = h.queue;
      counts = h.counts;
      slot = h.slot;
      offers = h.offers;
      landing = h.landing;
      arrived = h.arrived;
      waits_open = h.waits_open;
    } in
    let is : record c' { arrived = c.arrived; receives = c.receives; reads = c.reads; slot_in_use = c.slot_in_use } ≡ c' =
    λ k. record c' { arrived = sym same.arrived k; receives = sym same.receives k; reads = sym same.reads k; slot_in_use = sym same.slot_in_use k } in
    subst (λ (x : Channel). IsKeptWith i sender receiver stored landed due x sent open') is first

-- ---- what is seen of the connections

-- with so much owed
abbrev pub owed_with : List Due → Sight → Sight
owed_with owed s = record s { dues = owed ++ s.dues }

-- a verb changed something of connection j; `s` is what is seen of it then where nothing is owed
pub record IsSeenAt (peers : ℕ) (machine machine' : Machine) (j : ℕ) (s : Sight) : Type 0 where
  pub here : sight_of machine' [] j ≡ s
  pub others : (i : ℕ) → 1 ≤ i → i ≤ peers → i ≢ j → sight_of machine' [] i ≡ sight_of machine [] i
  pub opened : (i : ℕ) → IsOpened machine i → IsOpened machine' i
  pub connected : (o : ObjName) → (end_of machine' o).connected ≡ (end_of machine o).connected
  pub standing_same : dues_of 0 (standing machine' receiver) ≡ dues_of 0 (standing machine receiver)

-- nothing that is seen changed
pub sees_itself : (peers : ℕ) (machine : Machine) (j : ℕ) → IsSeenAt peers machine machine j (sight_of machine [] j)
sees_itself peers machine j = record { here = refl; others = λ i low high apart. refl; opened = λ i x. x; connected = λ o. refl; standing_same = refl }

-- two numbers are one, or not
pub one_or_not : (a b : ℕ) → (a ≡ b) ⊎ (a ≢ b)
one_or_not a b = by (a == b) refl
  where
    by : (t : Bool) → (a == b) ≡ t → (a ≡ b) ⊎ (a ≢ b)
    by true e = inl (eqb-true a b e)
    by false e = inr (λ same. let f : true ≡ false = sym (eq-eqb a b same) ∙ e in cc)

-- the same letters were sent on connection i
abbrev pub AreLettersSame : ℕ → List Turn → List Turn → Type 0
AreLettersSame i ts ts' = (sent_letters i ts' ≡ sent_letters i ts) × (placed_letters i ts' ≡ placed_letters i ts)

module _ (peers : ℕ) (ts ts' : List Turn) (m m' : Mail) (machine machine' : Machine) (j : ℕ) (s : Sight) (all : AreAllKept peers ts m machine) (seen : IsSeenAt peers machine machine' j s)
    (same : (i : ℕ) → 1 ≤ i → i ≤ peers → i ≢ j → IsSameFor (channel m i) (channel m' i))
    (dues : (i : ℕ) → 1 ≤ i → i ≤ peers → i ≢ j → pending i (m'.owed ++ (sight_of machine [] i).dues) ≡ pending i (m.owed ++ (sight_of machine [] i).dues))
    (letters : (i : ℕ) → 1 ≤ i → i ≤ peers → i ≢ j → AreLettersSame i ts ts')
    (here : IsKept j (owed_with m'.owed s) (channel m' j) (sent_letters j ts') (placed_letters j ts')) (known : AreOfSenders peers (m'.owed ++ dues_of 0 (standing machine' receiver))) where
  there_kept : IsKept j (sight_of machine' m'.owed j) (channel m' j) (sent_letters j ts') (placed_letters j ts')
  there_kept = subst (λ (x : Sight). IsKept j (owed_with m'.owed x) (channel m' j) (sent_letters j ts') (placed_letters j ts')) (sym seen.here) here

  elsewhere_kept : (i : ℕ) → 1 ≤ i → i ≤ peers → i ≢ j → IsKept i (sight_of machine' m'.owed i) (channel m' i) (sent_letters i ts') (placed_letters i ts')
  elsewhere_kept i low high apart =
      let x : Sight = sight_of machine [] i in
      let due : pending i (m'.owed ++ (sight_of machine [] i).dues) ≡ pending i (m.owed ++ (sight_of machine [] i).dues) = dues i low high apart in
      let old : IsKept i (sight_of machine m.owed i) (channel m i) (sent_letters i ts) (placed_letters i ts) = all.kept i low high in
      let owed : IsKeptWith i x.sender x.receiver x.stored x.landed (pending i (m'.owed ++ (sight_of machine [] i).dues)) (channel m i) (sent_letters i ts) (placed_letters i ts) =
      subst (λ (d : Pending). IsKeptWith i (sight_of machine [] i).sender (sight_of machine [] i).receiver (sight_of machine [] i).stored (sight_of machine [] i).landed d (channel m i) (sent_letters i ts) (placed_letters i ts)) (sym due) old in
      let flags : IsKeptWith i x.sender x.receiver x.stored x.landed (pending i (m'.owed ++ (sight_of machine [] i).dues)) (channel m' i) (sent_letters i ts) (placed_letters i ts) =
      flags_unread i x.sender x.receiver x.stored x.landed (pending i (m'.owed ++ (sight_of machine [] i).dues)) (channel m i) (channel m' i) (sent_letters i ts) (placed_letters i ts) (same i low high apart) owed in
      let sent : IsKeptWith i x.sender x.receiver x.stored x.landed (pending i (m'.owed ++ (sight_of machine [] i).dues)) (channel m' i) (sent_letters i ts') (placed_letters i ts) =
      subst (λ (ls : List Letter). IsKeptWith i (sight_of machine [] i).sender (sight_of machine [] i).receiver (sight_of machine [] i).stored (sight_of machine [] i).landed (pending i (m'.owed ++ (sight_of machine [] i).dues)) (channel m' i) ls (placed_letters i ts)) (sym (letters i low high apart).0) flags in
      let placed : IsKept i (owed_with m'.owed (sight_of machine [] i)) (channel m' i) (sent_letters i ts') (placed_letters i ts') =
      subst (λ (ls : List Placed). IsKept i (owed_with m'.owed (sight_of machine [] i)) (channel m' i) (sent_letters i ts') ls) (sym (letters i low high apart).1) sent in
      subst (λ (y : Sight). IsKept i (owed_with m'.owed y) (channel m' i) (sent_letters i ts') (placed_letters i ts')) (sym (seen.others i low high apart)) placed

  each_kept : (i : ℕ) → 1 ≤ i → i ≤ peers → (i ≡ j) ⊎ (i ≢ j) → IsKept i (sight_of machine' m'.owed i) (channel m' i) (sent_letters i ts') (placed_letters i ts')
  each_kept i low high (inl e) = subst (λ (x : ℕ). IsKept x (sight_of machine' m'.owed x) (channel m' x) (sent_letters x ts') (placed_letters x ts')) (sym e) there_kept
  each_kept i low high (inr apart) = elsewhere_kept i low high apart

  pub all_kept : AreAllKept peers ts' m' machine'
  all_kept = record {
    opened = λ i low high. seen.opened i (all.opened i low high);
    joined = λ o connected. all.joined o (sym (seen.connected o) ∙ connected);
    kept = λ i low high. each_kept i low high (one_or_not i j);
    dues = known;
  }
