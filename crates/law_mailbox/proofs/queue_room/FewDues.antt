-- How much is owed on each connection, where one of its things is done and another, or none, is owed in its place.
use Rattle.std.proofs.Common.{arith, ◌≡◌, ◌≢◌, ℕ, suc, ◌+◌, ◌*◌, ◌≤◌, List, [], ◌∷◌, ◌++◌, drop, length, take, refl, sym, subst, ap, ◌∙◌, Some, None, Option, ◌⊎◌, inl, inr, length-append}
use Rattle.std.specs.Prelude.{All, flat_map, option_to_list, slice_get}
use Rattle.std.proofs.lemmas.List.Concat.{flat_map-append}
use Rattle.std.proofs.lemmas.List.Elements.{All-head}
use Rattle.packetless_machine.specs.Machine.{Machine, end_of}
use Rattle.mailbox_rules.specs.declared.due.Due.{Due}
use Rattle.mailbox_rules.specs.declared.due.Due.TheVariants as due
use Rattle.mailbox_rules.specs.declared.due.Fetch.{Fetch}
use Rattle.mailbox_rules.specs.declared.letters.Letter.{Letter}
use Rattle.mailbox_rules.specs.Histories.{Turn, fetched_before, sent_letters}
use Rattle.mailbox_rules.specs.Opening.{receiver, receiver_end}
use Rattle.mailbox_rules.specs.State.{Channel, Mail, channel}
use Rattle.mailbox_rules.specs.Working.{due_next, going_on, read_due}
use Rattle.law_mailbox.specs.Few.{AreFew, IsFewOn}
use Rattle.law_mailbox.specs.Held.{connection_in}
use Rattle.law_mailbox.specs.Kept.{bodies, body_in, copies, copy_in, fetch_in, fetches, free_in, frees, repost_in, reposts, standing}
use Rattle.law_mailbox.proofs.work.Changing.{one_or_not}
use Rattle.law_mailbox.proofs.work.Dues.{AreElsewhere, next_is, nothing_elsewhere, one_elsewhere, one_of, split_at}
use Rattle.law_mailbox.proofs.queue_room.FewMachines.{IsFewMore}

-- ---- one part of what is owed

module _ {Y : Type 0} (f : Due → List Y) (owed : List Due) (k : ℕ) (d : Due) (at : slice_get owed k ≡ Some d) (next : Option Due) where
  part_long : (front xs behind : List Due) → length (flat_map f (front ++ (xs ++ behind))) ≡ length (flat_map f front) + (length (flat_map f xs) + length (flat_map f behind))
  part_long front xs behind =
      let all : length (flat_map f (front ++ (xs ++ behind))) ≡ length (flat_map f front ++ flat_map f (xs ++ behind)) = ap length (flat_map-append f front (xs ++ behind)) in
      let last : length (flat_map f (xs ++ behind)) ≡ length (flat_map f xs ++ flat_map f behind) = ap length (flat_map-append f xs behind) in
      omega (arith, all, last, length-append (flat_map f front) (flat_map f (xs ++ behind)), length-append (flat_map f xs) (flat_map f behind))

  -- of the thing that is done there is no more, and there is what comes in its place
  pub part_counted : length (flat_map f (due_next owed k next)) + length (flat_map f (d ∷ [])) ≡ length (flat_map f owed) + length (flat_map f (option_to_list next))
  part_counted =
      let before : length (flat_map f owed) ≡ length (flat_map f (take k owed ++ ((d ∷ []) ++ drop (suc k) owed))) = ap (λ (ds : List Due). length (flat_map f ds)) (split_at owed k d at) in
      let after : length (flat_map f (due_next owed k next)) ≡ length (flat_map f (take k owed ++ (option_to_list next ++ drop (suc k) owed))) = ap (λ (ds : List Due). length (flat_map f ds)) (next_is owed k d at next) in
      omega (arith, before, after, part_long (take k owed) (d ∷ []) (drop (suc k) owed), part_long (take k owed) (option_to_list next) (drop (suc k) owed))

-- ---- all that is owed of one connection

-- how much of each kind that uses the receiver's end is owed
pub record Amounts : Type 0 where
  pub copied : ℕ
  pub reposted : ℕ
  pub fetched : ℕ
  pub freed : ℕ
  pub bodied : ℕ

abbrev pub amounts : ℕ → List Due → Amounts
amounts i ds = record { copied = length (copies i ds); reposted = length (reposts i ds); fetched = length (fetches i ds); freed = length (frees i ds); bodied = length (bodies i ds) }

-- with the thing that is done, and with what comes in its place
pub record AreCounted (i : ℕ) (ds ds' : List Due) (gone come : Amounts) : Type 0 where
  pub copied_is : length (copies i ds') + gone.copied ≡ length (copies i ds) + come.copied
  pub reposted_is : length (reposts i ds') + gone.reposted ≡ length (reposts i ds) + come.reposted
  pub fetched_is : length (fetches i ds') + gone.fetched ≡ length (fetches i ds) + come.fetched
  pub freed_is : length (frees i ds') + gone.freed ≡ length (frees i ds) + come.freed
  pub bodied_is : length (bodies i ds') + gone.bodied ≡ length (bodies i ds) + come.bodied

module _ (owed : List Due) (k : ℕ) (d : Due) (at : slice_get owed k ≡ Some d) (next : Option Due) where
  pub all_counted : (i : ℕ) → AreCounted i owed (due_next owed k next) (amounts i (d ∷ [])) (amounts i (option_to_list next))
  all_counted i = record {
    copied_is = part_counted (copy_in i) owed k d at next;
    reposted_is = part_counted (repost_in i) owed k d at next;
    fetched_is = part_counted (fetch_in i) owed k d at next;
    freed_is = part_counted (free_in i) owed k d at next;
    bodied_is = part_counted (body_in i) owed k d at next;
  }

abbrev pub no_amounts : Amounts
no_amounts = record { copied = 0; reposted = 0; fetched = 0; freed = 0; bodied = 0 }

amounts_none : (i : ℕ) (ds : List Due) → AreElsewhere i ds → amounts i ds ≡ no_amounts
amounts_none i ds e = λ k. record { copied = length (e.no_copies k); reposted = length (e.no_reposts k); fetched = length (e.no_fetches k); freed = length (e.no_frees k); bodied = length (e.no_bodies k) }

-- ---- what is owed, of each thing on its own connection

pub copy_amounts : (j place size : ℕ) → amounts j (due.CopyMessage j place size ∷ []) ≡ record no_amounts { copied = 1 }
copy_amounts j place size = λ k. record { copied = length {A = ℕ × ℕ} (one_of j (place, size) k); reposted = 0; fetched = 0; freed = 0; bodied = 0 }

pub repost_amounts : (j place : ℕ) (fetch : Option Fetch) → amounts j (due.Repost j place fetch ∷ []) ≡ record no_amounts { reposted = 1; fetched = length (option_to_list fetch) }
repost_amounts j place None = λ k. record { copied = 0; reposted = length (one_of j place k); fetched = 0; freed = 0; bodied = 0 }
repost_amounts j place (Some f) = λ k. record { copied = 0; reposted = length (one_of j place k); fetched = length (one_of j f k); freed = 0; bodied = 0 }

pub read_amounts : (j : ℕ) (fetch : Option Fetch) → amounts j (option_to_list (read_due j fetch)) ≡ record no_amounts { fetched = length (option_to_list fetch) }
read_amounts j None = refl
read_amounts j (Some f) = λ k. record { copied = 0; reposted = 0; fetched = length (one_of j f k); freed = 0; bodied = 0 }

pub fetch_amounts : (j : ℕ) (f : Fetch) → amounts j (due.PostRead j f ∷ []) ≡ record no_amounts { fetched = 1 }
fetch_amounts j f = λ k. record { copied = 0; reposted = 0; fetched = length (one_of j f k); freed = 0; bodied = 0 }

pub body_amounts : (j size : ℕ) → amounts j (due.CopyBody j size ∷ []) ≡ record no_amounts { bodied = 1 }
body_amounts j size = λ k. record { copied = 0; reposted = 0; fetched = 0; freed = 0; bodied = length (one_of j size k) }

pub free_amounts : (j : ℕ) → amounts j (due.PostFree j ∷ []) ≡ record no_amounts { freed = 1 }
free_amounts j = λ k. record { copied = 0; reposted = 0; fetched = 0; freed = length (one_of j j k); bodied = 0 }

-- ---- few are on the connection then

module _ (peers j : ℕ) (m m' : Machine) (receives requests : ℕ) (more : IsFewMore peers j m m' receives requests) where
  -- on the connection of the thing that is done
  pub few_here : (owed owed' : List Due) (gone come : Amounts) → AreCounted j owed owed' gone come → (c c' : Channel) (sent : List Letter) →
      receives + (come.copied + come.reposted) ≤ gone.copied + gone.reposted →
      requests + ((come.fetched + come.freed + 2 * come.bodied) + (c'.reads + fetched_before c.receives sent)) ≤ (gone.fetched + gone.freed + 2 * gone.bodied) + (c.reads + fetched_before c'.receives sent) →
      IsFewOn j (end_of m (receiver_end j)) (standing m receiver) owed c sent → IsFewOn j (end_of m' (receiver_end j)) (standing m' receiver) owed' c' sent
  few_here owed owed' gone come counted c c' sent receives_less requests_less few =
      let a = more.receives_here in
      let b = more.requests_here in
      let old_receives = few.receives in
      let old_requests = few.requests in
      record {
        receives = omega (arith, a, old_receives, receives_less, counted.copied_is, counted.reposted_is);
        requests = omega (arith, b, old_requests, requests_less, counted.fetched_is, counted.freed_is, counted.bodied_is);
      }

  -- on another one
  pub few_elsewhere : (i : ℕ) → 1 ≤ i → i ≤ peers → i ≢ j → (owed owed' : List Due) → AreCounted i owed owed' no_amounts no_amounts → (c c' : Channel) (sent : List Letter) → c'.receives ≡ c.receives → c'.reads ≡ c.reads →
      IsFewOn i (end_of m (receiver_end i)) (standing m receiver) owed c sent → IsFewOn i (end_of m' (receiver_end i)) (standing m' receiver) owed' c' sent
  few_elsewhere i low high apart owed owed' counted c c' sent same_receives same_reads few =
      let a = more.receives_elsewhere i low high apart in
      let b = more.requests_elsewhere i low high apart in
      let old_receives = few.receives in
      let old_requests = few.requests in
      let long : fetched_before c'.receives sent ≡ fetched_before c.receives sent = ap (λ (n : ℕ). fetched_before n sent) same_receives in
      record {
        receives = omega (arith, a, old_receives, counted.copied_is, counted.reposted_is);
        requests = omega (arith, b, old_requests, long, same_reads, counted.fetched_is, counted.freed_is, counted.bodied_is);
      }

-- ---- on all connections

module _ (peers : ℕ) (ts : List Turn) (m : Mail) (machine : Machine) (few : AreFew peers ts m machine) (k : ℕ) (d : Due) (at : slice_get m.owed k ≡ Some d) (next : Option Due) (of_it : All (λ x. connection_in x ≡ connection_in d) (option_to_list next)) where
  elsewhere : (o : Option Due) → All (λ x. connection_in x ≡ connection_in d) (option_to_list o) → (i : ℕ) → i ≢ connection_in d → AreElsewhere i (option_to_list o)
  elsewhere None all i apart = nothing_elsewhere i
  elsewhere (Some x) all i apart = one_elsewhere i x (λ e. apart (sym e ∙ All-head (λ y. connection_in y ≡ connection_in d) x [] all))

  none_counted : (i : ℕ) → i ≢ connection_in d → AreCounted i m.owed (due_next m.owed k next) no_amounts no_amounts
  none_counted i apart =
      let gone = amounts_none i (d ∷ []) (one_elsewhere i d (λ e. apart (sym e))) in
      let come = amounts_none i (option_to_list next) (elsewhere next of_it i apart) in
      subst (λ (x : Amounts). AreCounted i m.owed (due_next m.owed k next) no_amounts x) come
      (subst (λ (x : Amounts). AreCounted i m.owed (due_next m.owed k next) x (amounts i (option_to_list next))) gone (all_counted m.owed k d at next i))

  pub few_goes : (m1 : Mail) (machine' : Machine) (receives requests : ℕ) → IsFewMore peers (connection_in d) machine machine' receives requests → m1.owed ≡ m.owed →
      ((q : ℕ) → 1 ≤ q → q ≢ connection_in d → (channel m1 q).receives ≡ (channel m q).receives) → ((q : ℕ) → 1 ≤ q → q ≢ connection_in d → (channel m1 q).reads ≡ (channel m q).reads) →
      (gone come : Amounts) → amounts (connection_in d) (d ∷ []) ≡ gone → amounts (connection_in d) (option_to_list next) ≡ come → (c' : Channel) → (channel m1 (connection_in d)).receives ≡ c'.receives → (channel m1 (connection_in d)).reads ≡ c'.reads →
      receives + (come.copied + come.reposted) ≤ gone.copied + gone.reposted →
      requests + ((come.fetched + come.freed + 2 * come.bodied) + (c'.reads + fetched_before (channel m (connection_in d)).receives (sent_letters (connection_in d) ts))) ≤ (gone.fetched + gone.freed + 2 * gone.bodied) + ((channel m (connection_in d)).reads + fetched_before c'.receives (sent_letters (connection_in d) ts)) →
      AreFew peers ts (going_on m1 k next) machine'
  few_goes m1 machine' receives requests more owed same_receives same_reads gone come gone_is come_is c' now_receives now_reads receives_less requests_less = record {
    each = λ i low high. by i low high (one_or_not i (connection_in d));
    known = more.known_still few.known;
  }
    where
      next_same : due_next m1.owed k next ≡ due_next m.owed k next
      next_same = ap (λ (xs : List Due). due_next xs k next) owed

      here : 1 ≤ connection_in d → connection_in d ≤ peers → IsFewOn (connection_in d) (end_of machine' (receiver_end (connection_in d))) (standing machine' receiver) (due_next m.owed k next) (channel m1 (connection_in d)) (sent_letters (connection_in d) ts)
      here low high =
          let counted : AreCounted (connection_in d) m.owed (due_next m.owed k next) gone come =
          subst (λ (x : Amounts). AreCounted (connection_in d) m.owed (due_next m.owed k next) gone x) come_is
          (subst (λ (x : Amounts). AreCounted (connection_in d) m.owed (due_next m.owed k next) x (amounts (connection_in d) (option_to_list next))) gone_is (all_counted m.owed k d at next (connection_in d))) in
          let long : fetched_before (channel m1 (connection_in d)).receives (sent_letters (connection_in d) ts) ≡ fetched_before c'.receives (sent_letters (connection_in d) ts) = ap (λ (n : ℕ). fetched_before n (sent_letters (connection_in d) ts)) now_receives in
          few_here peers (connection_in d) machine machine' receives requests more m.owed (due_next m.owed k next) gone come counted (channel m (connection_in d)) (channel m1 (connection_in d)) (sent_letters (connection_in d) ts) receives_less
          (omega (arith, requests_less, long, now_reads)) (few.each (connection_in d) low high)

      on_next : (i : ℕ) → IsFewOn i (end_of machine' (receiver_end i)) (standing machine' receiver) (due_next m.owed k next) (channel m1 i) (sent_letters i ts) → IsFewOn i (end_of machine' (receiver_end i)) (standing machine' receiver) (due_next m1.owed k next) (channel m1 i) (sent_letters i ts)
      on_next i x = subst (λ (ds : List Due). IsFewOn i (end_of machine' (receiver_end i)) (standing machine' receiver) ds (channel m1 i) (sent_letters i ts)) (sym next_same) x

      by : (i : ℕ) → 1 ≤ i → i ≤ peers → (i ≡ connection_in d) ⊎ (i ≢ connection_in d) → IsFewOn i (end_of machine' (receiver_end i)) (standing machine' receiver) (due_next m1.owed k next) (channel m1 i) (sent_letters i ts)
      by i low high (inl e) =
          subst (λ (x : ℕ). IsFewOn x (end_of machine' (receiver_end x)) (standing machine' receiver) (due_next m1.owed k next) (channel m1 x) (sent_letters x ts)) (sym e)
          (on_next (connection_in d) (here (subst (λ (x : ℕ). 1 ≤ x) e low) (subst (λ (x : ℕ). x ≤ peers) e high)))
      by i low high (inr apart) =
          on_next i (few_elsewhere peers (connection_in d) machine machine' receives requests more i low high apart m.owed (due_next m.owed k next) (none_counted i apart) (channel m i) (channel m1 i) (sent_letters i ts) (same_receives i low apart) (same_reads i low apart) (few.each i low high))
