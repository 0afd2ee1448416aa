-- A Read that is asked for again: the rest is granted exactly where one offer of all of it is enabled, where the named steps are
-- a run of the machine.
use Rattle.std.proofs.Common.{arith, ◌≡◌, ◌≤◌, ◌+◌, ◌-◌, ◌*◌, ℕ, zero, suc, Bool, true, false, length, [], refl, nat_lt, if◌then◌else◌}
use Rattle.std.specs.Prelude.{min, not, ◌&&◌, nat_le}
use Rattle.std.proofs.lemmas.Bool.Decides.{nat_tests}
use Rattle.rdma_types.specs.declared.names.ObjName.{ObjName}
use Rattle.rdma_types.specs.Kinds.{is_read, kind_of, size_of}
use Rattle.rdma_types.specs.Memory.{RemoteRead}
use Rattle.rdma_types.specs.Spans.{span_of}
use Rattle.packetless_machine.specs.declared.steps.MachineStep.{MachineStep}
use Rattle.packetless_machine.specs.Legal.{IsRun}
use Rattle.packetless_machine.specs.Machine.{Machine, End, end_of, posted_at}
use Rattle.packetless_machine.specs.Steps.{has_peer, is_granted_there, is_read_part, may_offer, peer_of}
use Rattle.law_simulation.specs.Carries.{is_rest_granted, offers_from, offers_of, repeat_steps}
use Rattle.trace_record.specs.Steps.{may_offer_rest}

-- four tests in a row
four : (a b c d : Bool) → (a && (b && (c && d))) ≡ true → (a ≡ true) × (b ≡ true) × (c ≡ true) × (d ≡ true)
four true true true true h = (refl, refl, refl, refl)
four true true true false h = absurd (cc)
four true true false d h = absurd (cc)
four true false c d h = absurd (cc)
four false b c d h = absurd (cc)

all_four : (a b c d : Bool) → a ≡ true → b ≡ true → c ≡ true → d ≡ true → (a && (b && (c && d))) ≡ true
all_four a b c d p q r s = λ j. p j && (q j && (r j && s j))

-- the place of n bytes of request i is granted, from an offset on
abbrev grants : Machine → ObjName → ℕ → ℕ → ℕ → Bool
grants m q i off n = is_granted_there m q (posted_at (end_of m q).posted i).request.shape.rkey ((posted_at (end_of m q).posted i).request.shape.remote + off) n RemoteRead

offer_parts : (m : Machine) (q : ObjName) (i off n : ℕ) → may_offer m q i off n ≡ true → (has_peer m q ≡ true) × (is_read_part (end_of m q) i off n ≡ true) × (not (peer_of m q).ended ≡ true) × (grants m q i off n ≡ true)
unfolding may_offer
offer_parts m q i off n h = four (has_peer m q) (is_read_part (end_of m q) i off n) (not (peer_of m q).ended) (grants m q i off n) h

-- where it is, the rest is granted
rest_granted : (m : Machine) (q : ObjName) (i k : ℕ) → may_offer_rest m q i k ≡ true → is_rest_granted m q i k ≡ true
unfolding is_rest_granted
rest_granted m q i k h = (offer_parts m q i (k * (end_of m q).mtu) (size_of (posted_at (end_of m q).posted i) - k * (end_of m q).mtu) h).3

pub repeats_by : (m : Machine) (q : ObjName) (i k : ℕ) → is_read (kind_of (posted_at (end_of m q).posted i)) ≡ true → may_offer_rest m q i k ≡ true → repeat_steps m q i k ≡ offers_of q (end_of m q) i k
unfolding repeat_steps
repeats_by m q i k read h = λ j. if read j && rest_granted m q i k h j then offers_of q (end_of m q) i k else []

-- it is no Read
pub repeats_no_read : (m : Machine) (q : ObjName) (i k : ℕ) → is_read (kind_of (posted_at (end_of m q).posted i)) ≡ false → repeat_steps m q i k ≡ []
unfolding repeat_steps
repeats_no_read m q i k read = λ j. if read j && is_rest_granted m q i k then offers_of q (end_of m q) i k else []

-- the first offer and the grant of the rest enable an offer of the rest
enables : (m : Machine) (q : ObjName) (i k : ℕ) → may_offer m q i (k * (end_of m q).mtu) (min (end_of m q).mtu (size_of (posted_at (end_of m q).posted i) - k * (end_of m q).mtu)) ≡ true → is_rest_granted m q i k ≡ true → may_offer_rest m q i k ≡ true
unfolding may_offer is_rest_granted is_read_part
enables m q i k h granted =
    let e : End = end_of m q in
    let off : ℕ = k * e.mtu in
    let size : ℕ = size_of (posted_at e.posted i) in
    let part : ℕ = min e.mtu (size - off) in
    let a = four (has_peer m q) (is_read_part e i off part) (not (peer_of m q).ended) (grants m q i off part) h in
    let b = four (nat_lt i e.acted) (nat_lt i (length e.posted)) (is_read (kind_of (posted_at e.posted i))) (nat_le (off + part) size) a.1 in
    let le : nat_le (off + (size - off)) size ≡ true = fits off part size b.3 in
    all_four (has_peer m q) (is_read_part e i off (size - off)) (not (peer_of m q).ended) (grants m q i off (size - off)) a.0
    (all_four (nat_lt i e.acted) (nat_lt i (length e.posted)) (is_read (kind_of (posted_at e.posted i))) (nat_le (off + (size - off)) size) b.0 b.1 b.2 le) a.2 granted
  where
    fits : (off part size : ℕ) → nat_le (off + part) size ≡ true → nat_le (off + (size - off)) size ≡ true
    fits off part size h = grind (arith, nat_tests, h)

-- where it is not, and the named steps are a run, there are none
pub repeats_none : (m : Machine) (q : ObjName) (i k : ℕ) → may_offer_rest m q i k ≡ false → IsRun m (repeat_steps m q i k) → repeat_steps m q i k ≡ []
unfolding repeat_steps offers_of offers_from
repeats_none m q i k denied run = by_read (is_read (kind_of (posted_at (end_of m q).posted i))) (is_rest_granted m q i k) refl run
  where
    by_left : (left : ℕ) → is_rest_granted m q i k ≡ true → IsRun m (offers_from q (end_of m q) i k left) → offers_from q (end_of m q) i k left ≡ []
    by_left zero g r = refl
    by_left (suc left) g r = let yes : may_offer_rest m q i k ≡ true = enables m q i k r.0 g in absurd (cc (yes, denied))

    by_read : (b g : Bool) → is_rest_granted m q i k ≡ g → IsRun m (if b && g then offers_from q (end_of m q) i k (span_of (posted_at (end_of m q).posted i) (end_of m q).mtu - k) else []) → (if b && g then offers_from q (end_of m q) i k (span_of (posted_at (end_of m q).posted i) (end_of m q).mtu - k) else []) ≡ []
    by_read true true h r = by_left (span_of (posted_at (end_of m q).posted i) (end_of m q).mtu - k) h r
    by_read true false h r = refl
    by_read false g h r = refl
