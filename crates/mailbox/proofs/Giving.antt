-- Letters that are given.
use Rattle.std.proofs.Common.{◌≡◌, ◌-◌, ◌<◌, ◌≤◌, nat_le, rules, tests, arith, subst, ℕ, true, false, List, length, get_or, refl, sym, ap, ◌∙◌, Option, Some, None, slice_get}
use Rattle.std.specs.Prelude.{slice_set}
use Rattle.std.specs.List.{position}
use Rattle.std.proofs.lemmas.Bool.{and_parts}
use Rattle.std.proofs.lemmas.List.{set-get_or}
use Rattle.std.proofs.lemmas.Option.{get_or_from_slice_get, slice_get-get_or}
use Rattle.mailbox_rules.specs.declared.faults.MailFault.TheVariants as fault
use Rattle.mailbox_rules.specs.declared.letters.Arrival.{Arrival}
use Rattle.mailbox_rules.specs.declared.letters.Letter.{Letter}
use Rattle.mailbox_rules.specs.State.{Channel, Mail, channel, is_sender, with_channel}
use Rattle.mailbox_rules.specs.Working.{working}
use Rattle.mailbox_rules.specs.Calls.{Gives, Refused, Take, calls, first_asked, gives, gives_at, gives_body, is_asked, replies, taking, takes}
use Rattle.mailbox.specs.Steps.{Replies, Shows, given, given_at, given_body, given_by}

module _ (m : Mail) (i : ℕ) (c : Channel) (is : slice_get m.channels (i - 1) ≡ Some c) where
  unchanged : with_channel m i (λ x. c) ≡ m
  unchanged =
      let one : slice_set m.channels (i - 1) c ≡ m.channels =
      ap (λ x. slice_set m.channels (i - 1) x) (sym (get_or_from_slice_get m.channels (i - 1) c c is)) ∙ set-get_or m.channels (i - 1) c in
      rw is (ap (λ cs. record m { channels = cs }) one)

  changed_alike : (f : Channel → Channel) → with_channel m i f ≡ with_channel m i (λ x. f c)
  changed_alike f = rw is refl

  is_channel : channel m i ≡ c
  is_channel = rw is refl

  none : replies m (Gives None) ≡ replies (with_channel m i (λ x. c)) (Gives None)
  none = ap (λ x. replies x (Gives None)) (sym unchanged)

  by_body : (k tag : ℕ) (body : Option (List ℕ)) → gives_body m i k tag body ≡ replies (with_channel m i (λ x. (given_body c k tag body).channel)) (Gives (given_body c k tag body).letter)
  by_body k tag None = none
  by_body k tag (Some body) = ap (λ x. replies x (Gives (Some (record { tag = tag; body = body })))) (changed_alike (taking k))

  by_arrival : (k : ℕ) (a : Option Arrival) → gives_at m i k a ≡ replies (with_channel m i (λ x. (given_at c k a).channel)) (Gives (given_at c k a).letter)
  by_arrival k None = none
  by_arrival k (Some a) = by_body k a.tag a.body

  by_place : (t : Option ℕ) (o : Option ℕ) → gives m i o ≡ replies (with_channel m i (λ x. (given_by c o).channel)) (Gives (given_by c o).letter)
  by_place t None = none
  by_place t (Some k) = ap (λ x. gives_at m i k (slice_get x.arrived k)) is_channel ∙ by_arrival k (slice_get c.arrived k)

  pub given_is : (t : Option ℕ) → gives m i (first_asked m i t) ≡ replies (with_channel m i (λ x. (given c t).channel)) (Gives (given c t).letter)
  given_is t = ap (λ x. gives m i (position (λ a. is_asked t a.tag) x.arrived)) is_channel ∙ by_place t (position (λ a. is_asked t a.tag) c.arrived)

-- ---- the call

pub gives_letter : (v m : Mail) (i : ℕ) (t : Option ℕ) (c : Channel) → Shows v (working m) → is_sender v i ≡ true → slice_get v.channels (i - 1) ≡ Some c →
    Replies (record { world = v.world; channels = slice_set v.channels (i - 1) (given c t).channel; owed = v.owed }) (Gives (given c t).letter) (calls m (Take i t))
unfolding calls takes
gives_letter v m i t c shows sender here =
    let is : slice_get (working m).channels (i - 1) ≡ Some c = ap (λ cs. slice_get cs (i - 1)) (sym shows.channels) ∙ here in
    let may : is_sender (working m) i ≡ true = ap (λ cs. is_sender (record (working m) { channels = cs }) i) (sym shows.channels) ∙ sender in
    rw may (rw (given_is (working m) i c is t) (rw is (record {
      reply_is = refl;
      shown = record { world = shows.world; channels = ap (λ cs. slice_set cs (i - 1) (given c t).channel) shows.channels; owed = shows.owed };
    })))

pub no_sender : (v m : Mail) (i : ℕ) (t : Option ℕ) → Shows v (working m) → is_sender v i ≡ false → Replies v (Refused fault.NoSender) (calls m (Take i t))
unfolding calls takes
no_sender v m i t shows sender =
    let may : is_sender (working m) i ≡ false = ap (λ cs. is_sender (record (working m) { channels = cs }) i) (sym shows.channels) ∙ sender in
    rw may (record { reply_is = refl; shown = shows })

-- ---- what is given of one connection

pub given_none : (c : Channel) (t : Option ℕ) → position (λ a. is_asked t a.tag) c.arrived ≡ None → given c t ≡ record { channel = c; letter = None }
given_none c t is = rw is refl

pub given_lacking : (c : Channel) (t : Option ℕ) (k : ℕ) (a : Arrival) → position (λ x. is_asked t x.tag) c.arrived ≡ Some k → slice_get c.arrived k ≡ Some a → a.body ≡ None →
    given c t ≡ record { channel = c; letter = None }
given_lacking c t k a is there lacks = rw is (rw there (rw lacks refl))

pub given_some : (c : Channel) (t : Option ℕ) (k : ℕ) (a : Arrival) (body : List ℕ) → position (λ x. is_asked t x.tag) c.arrived ≡ Some k → slice_get c.arrived k ≡ Some a → a.body ≡ Some body →
    given c t ≡ record { channel = taking k c; letter = Some (record { tag = a.tag; body = body }) }
given_some c t k a body is there has = rw is (rw there (rw has refl))

-- ---- of the list of connections

sender_within : (m : Mail) (i : ℕ) → is_sender m i ≡ true → (1 ≤ i) × (i ≤ length m.channels)
sender_within m i is =
    let both = and_parts (nat_le 1 i) (nat_le i (length m.channels)) is in
    (search (rules, tests, both.0), search (rules, tests, both.1))

-- the letter is given by connection i, which stands at place k
pub gives_at_place : (v m : Mail) (i from k : ℕ) (t : Option ℕ) (c c' : Channel) (letter : Option Letter) → i ≡ from → k ≡ i - 1 → Shows v (working m) → is_sender v from ≡ true → c ≡ get_or v.channels k c → c' ≡ (given c t).channel → letter ≡ (given c t).letter →
    Replies (record { world = v.world; channels = slice_set v.channels k c'; owed = v.owed }) (Gives letter) (calls m (Take from t))
gives_at_place v m i from k t c c' letter is_i is_k shows sender value one gave =
    let within = sender_within v from sender in
    let less : k < length v.channels = omega (arith, within.0, within.1, is_i, is_k) in
    let place : k ≡ from - 1 = is_k ∙ ap (λ n. n - 1) is_i in
    let here : slice_get v.channels (from - 1) ≡ Some c = ap (λ n. slice_get v.channels n) (sym place) ∙ (slice_get-get_or v.channels k c less ∙ ap (λ x. Some x) (sym value)) in
    subst (λ (n : ℕ). Replies (record { world = v.world; channels = slice_set v.channels n c'; owed = v.owed }) (Gives letter) (calls m (Take from t))) (sym place)
    (subst (λ (x : Channel). Replies (record { world = v.world; channels = slice_set v.channels (from - 1) x; owed = v.owed }) (Gives letter) (calls m (Take from t))) (sym one)
    (subst (λ (x : Option Letter). Replies (record { world = v.world; channels = slice_set v.channels (from - 1) (given c t).channel; owed = v.owed }) (Gives x) (calls m (Take from t))) (sym gave)
    (gives_letter v m from t c shows sender here)))
