-- Completions that were polled: what they make due is owed, and else only flags of connections are others.
use Rattle.std.proofs.Common.{arith, ◌≡◌, ◌≢◌, ℕ, ◌≤◌, List, [], ◌∷◌, ◌++◌, length, true, false, Bool, refl, sym, ap, ◌∙◌, Some, None, Option, append_assoc, append-nil, ne_eqb}
use Rattle.std.specs.Prelude.{All, flat_map, if◌then◌else◌, option_to_list, ◌==◌}
use Rattle.std.proofs.lemmas.List.Concat.{flat_map-append}
use Rattle.std.proofs.lemmas.List.Elements.{All-append, All-cons, All-head, All-nil, All-tail}
use Rattle.rdma_types.specs.declared.requests.Completion.{Completion}
use Rattle.rdma_types.specs.declared.requests.WcKind.{WcKind}
use Rattle.rdma_types.specs.declared.requests.WcKind.TheVariants as wc
use Rattle.mailbox_rules.specs.declared.due.Due.{Due}
use Rattle.mailbox_rules.specs.declared.due.Due.TheVariants as due
use Rattle.mailbox_rules.specs.declared.due.Side.TheVariants.{AtReceiver, AtSender}
use Rattle.mailbox_rules.specs.Opening.{connection_of}
use Rattle.mailbox_rules.specs.State.{Mail, channel, ending, with_channel}
use Rattle.mailbox_rules.specs.Working.{asking, due_of, entries_in, failing, heard, is_success, noting, noting_all, owing, place_in, poll_event, received}
use Rattle.law_mailbox.specs.Held.{connection_in}
use Rattle.law_mailbox.specs.Kept.{body_in, copy_in, dues_by, dues_of, fetch_in, free_in, pending, repost_in, slot_in, slots}
use Rattle.law_mailbox.proofs.work.Changing.{IsSameFor, same_itself, same_joined}
use Rattle.law_mailbox.proofs.work.Dues.{one_elsewhere}
use Rattle.law_mailbox.proofs.connection.Flags.{ending_long, ending_seen}
use Rattle.law_mailbox.proofs.queue_room.Gaining.{nothing_of_sender}

-- ---- what is noted

pub record IsNoted (n : ℕ) (m m' : Mail) (ds : List Due) : Type 0 where
  pub world : m'.world ≡ m.world
  pub owed : m'.owed ≡ m.owed ++ ds
  pub same : (q : ℕ) → IsSameFor (channel m q) (channel m' q)
  pub long : length m'.channels ≡ length m.channels

noted_owing : (n : ℕ) (m : Mail) (o : Option Due) → IsNoted n m (owing m o) (option_to_list o)
noted_owing n m None = record { world = refl; owed = sym (append-nil m.owed); same = λ q. same_itself (channel m q); long = refl }
noted_owing n m (Some d) = record { world = refl; owed = refl; same = λ q. same_itself (channel m q); long = refl }

noted_failing : (n : ℕ) (m : Mail) (x : Completion) → IsNoted n m (failing n x m) []
noted_failing n m x = by (n == 0)
  where
    by : (b : Bool) → IsNoted n m (if b then with_channel m (connection_of x.qp) (ending AtReceiver) else with_channel m n (ending AtSender)) []
    by true = record { world = refl; owed = sym (append-nil m.owed); same = ending_seen m AtReceiver (connection_of x.qp); long = ending_long m AtReceiver (connection_of x.qp) }
    by false = record { world = refl; owed = sym (append-nil m.owed); same = ending_seen m AtSender n; long = ending_long m AtSender n }

noted_one : (n : ℕ) (m : Mail) (x : Completion) → IsNoted n m (noting n m x) (dues_by n x)
noted_one n m x = by (is_success x.status)
  where
    by : (b : Bool) → IsNoted n m (if b then owing m (due_of n x) else failing n x m) (if b then option_to_list (due_of n x) else [])
    by true = noted_owing n m (due_of n x)
    by false = noted_failing n m x

pub noted_all : (n : ℕ) (m : Mail) (xs : List Completion) → IsNoted n m (noting_all n m xs) (dues_of n xs)
unfolding noting_all
noted_all n m [] = record { world = refl; owed = sym (append-nil m.owed); same = λ q. same_itself (channel m q); long = refl }
noted_all n m (x ∷ xs) =
    let one : IsNoted n m (noting n m x) (dues_by n x) = noted_one n m x in
    let more : IsNoted n (noting n m x) (noting_all n (noting n m x) xs) (dues_of n xs) = noted_all n (noting n m x) xs in
    record {
      world = more.world ∙ one.world;
      owed = more.owed ∙ (ap (λ (ds : List Due). ds ++ dues_of n xs) one.owed ∙ append_assoc m.owed (dues_by n x) (dues_of n xs));
      same = λ q. same_joined (channel m q) (channel (noting n m x) q) (channel (noting_all n (noting n m x) xs) q) (one.same q) (more.same q);
      long = more.long ∙ one.long;
    }

-- ---- what completions of the receiver make due is of no slot

no_slot_kind : (i : ℕ) (x : Completion) (k : WcKind) → slots i (option_to_list (received x k)) ≡ []
no_slot_kind i x wc.Recv = refl
no_slot_kind i x wc.Send = refl
no_slot_kind i x wc.Write = refl
no_slot_kind i x wc.Read = refl
no_slot_kind i x wc.CompareSwap = refl
no_slot_kind i x wc.FetchAdd = refl
no_slot_kind i x wc.RecvImm = refl

pub no_slots_at_receiver : (i : ℕ) (xs : List Completion) → slots i (dues_of 0 xs) ≡ []
no_slots_at_receiver i [] = refl
no_slots_at_receiver i (x ∷ xs) =
    flat_map-append (slot_in i) (dues_by 0 x) (dues_of 0 xs) ∙ (ap (λ zs. zs ++ slots i (dues_of 0 xs)) (one (is_success x.status)) ∙ no_slots_at_receiver i xs)
  where
    one : (b : Bool) → slots i (if b then option_to_list (received x x.kind) else []) ≡ []
    one true = no_slot_kind i x x.kind
    one false = refl

-- ---- what completions of a sender make due is of that sender's slots

heard_of_it : (n : ℕ) (x : Completion) (k : WcKind) → All (λ d. connection_in d ≡ n) (option_to_list (heard n x k))
heard_of_it n x wc.Recv = All-cons (λ d. connection_in d ≡ n) (due.FreeSlot n (place_in x)) [] refl (All-nil (λ d. connection_in d ≡ n))
heard_of_it n x wc.Send = All-nil (λ d. connection_in d ≡ n)
heard_of_it n x wc.Write = All-nil (λ d. connection_in d ≡ n)
heard_of_it n x wc.Read = All-nil (λ d. connection_in d ≡ n)
heard_of_it n x wc.CompareSwap = All-nil (λ d. connection_in d ≡ n)
heard_of_it n x wc.FetchAdd = All-nil (λ d. connection_in d ≡ n)
heard_of_it n x wc.RecvImm = All-nil (λ d. connection_in d ≡ n)

pub all_of_sender : (n : ℕ) → 1 ≤ n → (xs : List Completion) → All (λ d. connection_in d ≡ n) (dues_of n xs)
all_of_sender n positive [] = All-nil (λ d. connection_in d ≡ n)
all_of_sender n positive (x ∷ xs) = All-append (λ d. connection_in d ≡ n) (dues_by n x) (dues_of n xs) (one (is_success x.status)) (all_of_sender n positive xs)
  where
    one : (b : Bool) → All (λ d. connection_in d ≡ n) (if b then option_to_list (due_of n x) else [])
    one true = let no_zero : n ≢ 0 = λ e. omega (arith, e, positive) in rw (ne_eqb n 0 no_zero) (heard_of_it n x x.kind)
    one false = All-nil (λ d. connection_in d ≡ n)

no_slots_elsewhere : (i n : ℕ) → n ≢ i → (ds : List Due) → All (λ d. connection_in d ≡ n) ds → slots i ds ≡ []
no_slots_elsewhere i n apart [] all = refl
no_slots_elsewhere i n apart (d ∷ ds) all =
    let first : connection_in d ≡ n = All-head (λ x. connection_in x ≡ n) d ds all in
    let none : slots i (d ∷ []) ≡ [] = (one_elsewhere i d (λ e. apart (sym first ∙ e))).no_slots in
    ap (λ zs. zs ++ slots i ds) (sym (append-nil (slot_in i d)) ∙ none) ∙ no_slots_elsewhere i n apart ds (All-tail (λ x. connection_in x ≡ n) d ds all)

-- ---- what is due is as before, once completions were polled

-- of the receiver
pub receiver_polled : (i : ℕ) (owed more rest behind : List Due) → pending i ((owed ++ more) ++ (rest ++ behind)) ≡ pending i (owed ++ ((more ++ rest) ++ behind))
receiver_polled i owed more rest behind = ap (pending i) (append_assoc owed more (rest ++ behind) ∙ ap (λ (ds : List Due). owed ++ ds) (sym (append_assoc more rest behind)))

-- a part of which there is none in the middle, or none in front of it
module _ {Y : Type 0} (f : Due → List Y) (owed more front behind : List Due) where
  parts_after : flat_map f ((owed ++ more) ++ (front ++ behind)) ≡ flat_map f owed ++ (flat_map f more ++ (flat_map f front ++ flat_map f behind))
  parts_after =
      ap (flat_map f) (append_assoc owed more (front ++ behind))
      ∙ (flat_map-append f owed (more ++ (front ++ behind))
      ∙ ap (λ zs. flat_map f owed ++ zs) (flat_map-append f more (front ++ behind) ∙ ap (λ zs. flat_map f more ++ zs) (flat_map-append f front behind)))

  parts_before : flat_map f (owed ++ (front ++ (more ++ behind))) ≡ flat_map f owed ++ (flat_map f front ++ (flat_map f more ++ flat_map f behind))
  parts_before =
      flat_map-append f owed (front ++ (more ++ behind))
      ∙ ap (λ zs. flat_map f owed ++ zs) (flat_map-append f front (more ++ behind) ∙ ap (λ zs. flat_map f front ++ zs) (flat_map-append f more behind))

  pub none_moved : flat_map f more ≡ [] → flat_map f ((owed ++ more) ++ (front ++ behind)) ≡ flat_map f (owed ++ (front ++ (more ++ behind)))
  none_moved none =
      parts_after
      ∙ (ap (λ zs. flat_map f owed ++ (zs ++ (flat_map f front ++ flat_map f behind))) none
      ∙ (ap (λ zs. flat_map f owed ++ (flat_map f front ++ (zs ++ flat_map f behind))) (sym none) ∙ sym parts_before))

  pub moved_past_none : flat_map f front ≡ [] → flat_map f ((owed ++ more) ++ (front ++ behind)) ≡ flat_map f (owed ++ (front ++ (more ++ behind)))
  moved_past_none none =
      parts_after
      ∙ (ap (λ zs. flat_map f owed ++ (flat_map f more ++ (zs ++ flat_map f behind))) none
      ∙ (ap (λ zs. flat_map f owed ++ (zs ++ (flat_map f more ++ flat_map f behind))) (sym none) ∙ sym parts_before))

-- of a sender, for its own connection
pub sender_polled : (i : ℕ) → 1 ≤ i → (owed : List Due) (xs at_receiver : List Completion) (behind : List Due) → pending i ((owed ++ dues_of i xs) ++ (dues_of 0 at_receiver ++ behind)) ≡ pending i (owed ++ (dues_of 0 at_receiver ++ (dues_of i xs ++ behind)))
sender_polled i positive owed xs at_receiver behind =
    let copied = none_moved (copy_in i) owed (dues_of i xs) (dues_of 0 at_receiver) behind (nothing_of_sender (copy_in i) (λ n place. refl) i xs positive) in
    let reposted = none_moved (repost_in i) owed (dues_of i xs) (dues_of 0 at_receiver) behind (nothing_of_sender (repost_in i) (λ n place. refl) i xs positive) in
    let fetched = none_moved (fetch_in i) owed (dues_of i xs) (dues_of 0 at_receiver) behind (nothing_of_sender (fetch_in i) (λ n place. refl) i xs positive) in
    let bodied = none_moved (body_in i) owed (dues_of i xs) (dues_of 0 at_receiver) behind (nothing_of_sender (body_in i) (λ n place. refl) i xs positive) in
    let freed = none_moved (free_in i) owed (dues_of i xs) (dues_of 0 at_receiver) behind (nothing_of_sender (free_in i) (λ n place. refl) i xs positive) in
    let slotted = moved_past_none (slot_in i) owed (dues_of i xs) (dues_of 0 at_receiver) behind (no_slots_at_receiver i at_receiver) in
    λ k. record { copied = copied k; reposted = reposted k; fetched = fetched k; bodies = bodied k; frees = length (freed k); slots = length (slotted k) }

-- .. and for another connection
pub other_polled : (i n : ℕ) → 1 ≤ n → n ≢ i → (owed : List Due) (xs : List Completion) (front : List Due) → pending i ((owed ++ dues_of n xs) ++ front) ≡ pending i (owed ++ front)
other_polled i n positive apart owed xs front =
    let copied = nothing_between (copy_in i) (nothing_of_sender (copy_in i) (λ a place. refl) n xs positive) in
    let reposted = nothing_between (repost_in i) (nothing_of_sender (repost_in i) (λ a place. refl) n xs positive) in
    let fetched = nothing_between (fetch_in i) (nothing_of_sender (fetch_in i) (λ a place. refl) n xs positive) in
    let bodied = nothing_between (body_in i) (nothing_of_sender (body_in i) (λ a place. refl) n xs positive) in
    let freed = nothing_between (free_in i) (nothing_of_sender (free_in i) (λ a place. refl) n xs positive) in
    let slotted = nothing_between (slot_in i) (no_slots_elsewhere i n apart (dues_of n xs) (all_of_sender n positive xs)) in
    λ k. record { copied = copied k; reposted = reposted k; fetched = fetched k; bodies = bodied k; frees = length (freed k); slots = length (slotted k) }
  where
    nothing_between : {Y : Type 0} (f : Due → List Y) → flat_map f (dues_of n xs) ≡ [] → flat_map f ((owed ++ dues_of n xs) ++ front) ≡ flat_map f (owed ++ front)
    nothing_between f none =
        ap (flat_map f) (append_assoc owed (dues_of n xs) front)
        ∙ (flat_map-append f owed (dues_of n xs ++ front)
        ∙ (ap (λ zs. flat_map f owed ++ zs) (flat_map-append f (dues_of n xs) front ∙ ap (λ zs. zs ++ flat_map f front) none) ∙ sym (flat_map-append f owed front)))

-- ---- what a poll leaves of what is owed and of the channels

pub record IsPollNoted (m m' : Mail) (ds : List Due) : Type 0 where
  pub owed : m'.owed ≡ m.owed ++ ds
  pub same : (q : ℕ) → IsSameFor (channel m q) (channel m' q)
  pub long : length m'.channels ≡ length m.channels

pub poll_noted : (m : Mail) (n : ℕ) → IsPollNoted m (noting_all n (asking m (poll_event n)).mail (entries_in (asking m (poll_event n)).answer)) (dues_of n (entries_in (asking m (poll_event n)).answer))
unfolding asking
poll_noted m n =
    let noted = noted_all n (asking m (poll_event n)).mail (entries_in (asking m (poll_event n)).answer) in
    record { owed = noted.owed; same = noted.same; long = noted.long }
