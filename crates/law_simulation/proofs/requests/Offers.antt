-- The machine offers the pieces of a Read, one after the other.
use Rattle.std.proofs.Common.{arith, ◌≡◌, ◌≢◌, ◌<◌, ◌≤◌, ◌+◌, ◌-◌, ◌*◌, ℕ, zero, suc, List, [], ◌∷◌, ◌++◌, length, true, false, Bool, refl, sym, ap, ◌∙◌, subst, inl, inr}
use Rattle.std.specs.Prelude.{◌⊎◌, Some, min, is_some, not, nat_lt, nat_le, if◌then◌else◌, ◌==◌, ◌&&◌, ◌||◌, All, Contains, bytes_eq}
use Rattle.std.proofs.lemmas.Bool.Decides.{nat_tests, leb_tells, eqb_tells}
use Rattle.std.proofs.lemmas.List.{append_assoc, append-nil}
use Rattle.rdma_types.specs.declared.names.Name.{Name}
use Rattle.rdma_types.specs.declared.names.ObjName.{ObjName}
use Rattle.rdma_types.specs.Lists.{has_name, store_named, first_that}
use Rattle.rdma_types.specs.Kinds.{is_read, kind_of, size_of}
use Rattle.rdma_types.specs.Memory.{cut, local_key, RemoteRead, allows, holds, grants, granted, is_granted, remote_key}
use Rattle.rdma_types.specs.Objects.{Posted, Region}
use Rattle.packetless_machine.specs.Machine as machine
use Rattle.packetless_machine.specs.Machine.{Machine, Context, End, Offered, has_context, has_end, end_of, regions_of, posted_at, bytes_at, is_at}
use Rattle.packetless_machine.specs.Legal.{IsRun, after}
use Rattle.packetless_machine.specs.Steps.{has_peer, is_read_part, is_granted_there, may_offer, offered, with_offer, bytes_there}
use Rattle.law_simulation.specs.Carries.{offers_from}
use Rattle.std.specs.List.{count_by}
use Rattle.std.proofs.lemmas.List.Elements.{All-head, All-tail, All-contains}
use Rattle.law_simulation.proofs.relation.Tables.{name_tells, same_name, count_by-cons, once_later}
use Rattle.law_simulation.proofs.relation.Grants.{contains_cases, contains_here, contains_later}
use Rattle.law_simulation.proofs.relation.Machines as machines
use Rattle.law_simulation.proofs.relation.Machines.{MachineChanged}
use Rattle.law_simulation.proofs.relation.Linked.{context_with, end_changed, machine_here, machine_other, there_kept}
use Rattle.packetless_machine.specs.declared.reply.Reply.{Reply}
use Rattle.law_simulation.proofs.relation.Tables.{has_name-store}
use Rattle.law_simulation.proofs.delivery.First.{first_passes}
use Rattle.law_simulation.proofs.requests.Advancing.{moved_on}
use Rattle.law_simulation.proofs.requests.Running.{there_after}
use Rattle.law_simulation.proofs.requests.Written.{granted_region, held_part, number_counted}

-- the pieces that are offered, from piece k on
unfoldable pub offered_from : List Region → Posted → ℕ → ℕ → ℕ → ℕ → List Offered
offered_from rs r mtu i k zero = []
offered_from rs r mtu i k (suc left) = record { request = i; offset = k * mtu; bytes = bytes_at remote_key r.request.shape.rkey (r.request.shape.remote + k * mtu) (min mtu (size_of r - k * mtu)) rs } ∷ offered_from rs r mtu i (suc k) left

-- ---- an end that changes twice

stored_twice : {A : Type 0} (name : A → List ℕ) (n : List ℕ) (a b : A) (xs : List A) → name a ≡ n → store_named name n b (store_named name n a xs) ≡ store_named name n b xs
unfolding store_named
stored_twice name n a b [] h = grind (arith, same_name n)
stored_twice name n a b (x ∷ xs) h = grind (arith, same_name n, name_tells (name x) n, stored_twice name n a b xs h)

pub end_twice : (m : Machine) (q : ObjName) (a b : End) → has_context m q.context ≡ true → has_name (λ z. z.name) q.name (machine.context_of m q.context).ends ≡ true → a.name ≡ q.name → has_context (machine.with_end m q a) q.context ≡ true → has_name (λ z. z.name) q.name (machine.context_of (machine.with_end m q a) q.context).ends ≡ true → machine.with_end (machine.with_end m q a) q b ≡ machine.with_end m q b
unfolding machine.with_end machine.with_context
end_twice m q a b there found named there' found' =
    let one : MachineChanged m (machine.with_end m q a) q.context (context_with m q a) = end_changed m q a there found in
    let two : MachineChanged (machine.with_end m q a) (machine.with_end (machine.with_end m q a) q b) q.context (context_with (machine.with_end m q a) q b) = end_changed (machine.with_end m q a) q b there' found' in
    let all : MachineChanged m (machine.with_end m q b) q.context (context_with m q b) = end_changed m q b there found in
    let ctx : context_with (machine.with_end m q a) q b ≡ context_with m q b =
    ap (λ (z : Context). record z { ends = store_named (λ u. u.name) q.name b z.ends }) (machines.context_here m (machine.with_end m q a) q.context (context_with m q a) one)
    ∙ ap (λ es. record (machine.context_of m q.context) { ends = es }) (stored_twice (λ u. u.name) q.name a b (machine.context_of m q.context).ends named) in
    let contexts : (machine.with_end (machine.with_end m q a) q b).contexts ≡ (machine.with_end m q b).contexts =
    two.contexts ∙ ((λ i. store_named (λ u. u.name) q.context (ctx i) (one.contexts i)) ∙ (stored_twice (λ u. u.name) q.context (context_with m q a) (context_with m q b) m.contexts one.named ∙ sym all.contexts)) in
    λ i. record { contexts = contexts i; keys = m.keys; numbers = m.numbers }

-- ---- a part of a granted range is granted

first_there : (test : Region → Bool) (x : Region) (rs : List Region) → Contains rs x → test x ≡ true → is_some (first_that test rs) ≡ true
unfolding first_that
first_there test x [] h t = absurd (omega (arith, h.1))
first_there test x (r ∷ rs) h t = by_test (test r) refl (contains_cases x r rs h) (λ c. first_there test x rs c t)
  where
    by_test : (b : Bool) → test r ≡ b → ((r ≡ x) ⊎ Contains rs x) → (Contains rs x → is_some (first_that test rs) ≡ true) → is_some (if b then Some r else first_that test rs) ≡ true
    by_test true e c later = refl
    by_test false e (inl same) later = absurd (cc (e, ap test same, t))
    by_test false e (inr l) later = later l

domain_passes : (x : Region) (domain : Name) (key address size : ℕ) → grants remote_key domain key address size RemoteRead x ≡ true → bytes_eq x.domain domain ≡ true
unfolding grants
domain_passes x domain key address size h = grind (arith, h)

all_pass : (x : Region) (domain : Name) (key address n : ℕ) → bytes_eq x.domain domain ≡ true → remote_key x ≡ key → allows x.rights RemoteRead ≡ true → holds x address n ≡ true → grants remote_key domain key address n RemoteRead x ≡ true
unfolding grants
all_pass x domain key address n a b c d = grind (arith, nat_tests, a, b, c, d)

-- .. and so is a part of it
pub part_granted : (rs : List Region) (domain : Name) (key address size off n : ℕ) → off + n ≤ size → is_granted remote_key rs domain key address size RemoteRead ≡ true → is_granted remote_key rs domain key (address + off) n RemoteRead ≡ true
unfolding is_granted granted grants
part_granted rs domain key address size off n within h = by_count (n == 0) refl
  where
    zero_or : (b : Bool) → (n == 0) ≡ b → b ≡ false → 1 ≤ n
    zero_or b e f = grind (arith, nat_tests, eqb_tells n 0, e, f)

    by_count : (b : Bool) → (n == 0) ≡ b → (b || is_some (first_that (grants remote_key domain key (address + off) n RemoteRead) rs)) ≡ true
    by_count true e = refl
    by_count false e =
        let some : 1 ≤ n = zero_or false e refl in
        let g = granted_region remote_key rs domain key address size RemoteRead (omega (arith, some, within)) h in
        let passes = first_passes (grants remote_key domain key address size RemoteRead) g.0 rs g.1 in
        let dom : bytes_eq g.0.domain domain ≡ true = domain_passes g.0 domain key address size passes in
        first_there (grants remote_key domain key (address + off) n RemoteRead) g.0 rs g.2.there (all_pass g.0 domain key (address + off) n dom g.2.named g.2.allowed (held_part g.0 address size off n g.2.held within))

-- ---- the offers of a Read, of which each part from `first` on is granted

module _ (m : Machine) (q : ObjName) (e : End) (acted into : ℕ) (answers : List Reply) (i : ℕ) (there : has_context m q.context ≡ true) (found : has_name (λ z. z.name) q.name (machine.context_of m q.context).ends ≡ true) (named : e.name ≡ q.name)
    (connected : e.connected ≡ true) (peer_there : has_end m e.peer ≡ true) (apart : e.peer ≢ q) (alive : (end_of m e.peer).ended ≡ false) (turned : i < acted) (inside : i < length e.posted) (read : is_read (kind_of (posted_at e.posted i)) ≡ true)
    (first : ℕ) (grants' : (off n : ℕ) → first ≤ off → off + n ≤ size_of (posted_at e.posted i) → is_granted remote_key (regions_of m e.peer.context) (end_of m e.peer).domain (posted_at e.posted i).request.shape.rkey ((posted_at e.posted i).request.shape.remote + off) n RemoteRead ≡ true) where
  abbrev r : Posted
  r = posted_at e.posted i

  abbrev rs : List Region
  rs = regions_of m e.peer.context

  abbrev with_offers : List Offered → End
  with_offers os = moved_on e acted into answers (e.offers ++ os) e.dry

  abbrev at_offers : List Offered → Machine
  at_offers os = machine.with_end m q (with_offers os)

  end_now : (os : List Offered) → end_of (at_offers os) q ≡ with_offers os
  end_now os = machine_here m q (with_offers os) there found named

  peer_now : (os : List Offered) → end_of (at_offers os) e.peer ≡ end_of m e.peer
  peer_now os = machine_other m q e.peer (with_offers os) there found named apart

  has_now : (os : List Offered) → has_end (at_offers os) e.peer ≡ true
  has_now os = there_kept m q e.peer (with_offers os) there found named ∙ peer_there

  regions_now : (os : List Offered) (c : Name) → regions_of (at_offers os) c ≡ regions_of m c
  regions_now os c = machines.part_same m (at_offers os) q.context (context_with m q (with_offers os)) (end_changed m q (with_offers os) there found) (λ z. z.regions) c refl

  abbrev may_at : Machine → ℕ → ℕ → End → Bool
  may_at k off n z =
      (z.connected && has_end k z.peer)
      && (is_read_part z i off n
      && (not (end_of k z.peer).ended
      && is_granted remote_key (regions_of k z.peer.context) (end_of k z.peer).domain (posted_at z.posted i).request.shape.rkey ((posted_at z.posted i).request.shape.remote + off) n RemoteRead))

  may_is : (k : Machine) (off n : ℕ) → may_offer k q i off n ≡ may_at k off n (end_of k q)
  unfolding may_offer has_peer is_granted_there
  may_is k off n = refl

  part_is : (os : List Offered) (off n : ℕ) → off + n ≤ size_of r → is_read_part (with_offers os) i off n ≡ true
  unfolding is_read_part
  part_is os off n within = four (nat_lt i acted) (nat_lt i (length e.posted)) (is_read (kind_of r)) (nat_le (off + n) (size_of r)) (grind (arith, nat_tests, turned)) (grind (arith, nat_tests, inside)) read (grind (arith, nat_tests, leb_tells (off + n) (size_of r), within))
    where
      four : (a b c d : Bool) → a ≡ true → b ≡ true → c ≡ true → d ≡ true → (a && (b && (c && d))) ≡ true
      four a b c d h j k l = rw (h, j, k, l) refl

  enabled : (os : List Offered) (off n : ℕ) → first ≤ off → off + n ≤ size_of r → may_offer (at_offers os) q i off n ≡ true
  enabled os off n low within =
      may_is (at_offers os) off n
      ∙ (ap (may_at (at_offers os) off n) (end_now os)
      ∙ ((λ j. (connected j && has_now os j) && (part_is os off n within j && (not (peer_now os j).ended && is_granted remote_key (regions_now os e.peer.context j) (peer_now os j).domain r.request.shape.rkey (r.request.shape.remote + off) n RemoteRead)))
      ∙ (λ j. true && (true && (not (alive j) && grants' off n low within j)))))

  abbrev offer_at : ℕ → ℕ → Offered
  offer_at off n = record { request = i; offset = off; bytes = bytes_at remote_key r.request.shape.rkey (r.request.shape.remote + off) n rs }

  abbrev offered_at : Machine → ℕ → ℕ → End → Machine
  offered_at k off n z = machine.with_end k q (with_offer z i off (bytes_there (posted_at z.posted i) off n (regions_of k z.peer.context)))

  offered_is : (k : Machine) (off n : ℕ) → offered k q i off n ≡ offered_at k off n (end_of k q)
  unfolding offered
  offered_is k off n = refl

  context_after : (os : List Offered) → has_context (at_offers os) q.context ≡ true
  context_after os = there_after m (at_offers os) q.context (context_with m q (with_offers os)) (end_changed m q (with_offers os) there found)

  found_after : (os : List Offered) → has_name (λ z. z.name) q.name (machine.context_of (at_offers os) q.context).ends ≡ true
  found_after os = ap (λ z. has_name (λ u. u.name) q.name z.ends) (machines.context_here m (at_offers os) q.context (context_with m q (with_offers os)) (end_changed m q (with_offers os) there found)) ∙ (has_name-store (λ z. z.name) q.name q.name (with_offers os) (machine.context_of m q.context).ends found named ∙ found)

  step_is : (os : List Offered) (off n : ℕ) → offered (at_offers os) q i off n ≡ at_offers (os ++ offer_at off n ∷ [])
  unfolding with_offer bytes_there
  step_is os off n =
      offered_is (at_offers os) off n
      ∙ (ap (offered_at (at_offers os) off n) (end_now os)
      ∙ (ap (λ k. machine.with_end (at_offers os) q (with_offer (with_offers os) i off (bytes_there r off n k))) (regions_now os e.peer.context)
      ∙ (end_twice m q (with_offers os) (moved_on e acted into answers ((e.offers ++ os) ++ offer_at off n ∷ []) e.dry) there found named (context_after os) (found_after os)
      ∙ ap (λ k. machine.with_end m q (moved_on e acted into answers k e.dry)) (append_assoc e.offers os (offer_at off n ∷ [])))))

  -- all of them, from piece k on
  pub all_offered : (left k total : ℕ) (os : List Offered) → k + left ≤ total → ((j : ℕ) → j < total → j * e.mtu ≤ size_of r) → ((j : ℕ) → k ≤ j → first ≤ j * e.mtu) →
      IsRun (at_offers os) (offers_from q e i k left) × (after (at_offers os) (offers_from q e i k left) ≡ at_offers (os ++ offered_from rs r e.mtu i k left))
  unfolding offers_from offered_from
  all_offered zero k total os within short starts = (tt, ap at_offers (sym (append-nil os)))
  all_offered (suc left) k total os within short starts =
      let off : ℕ = k * e.mtu in
      let n : ℕ = min e.mtu (size_of r - off) in
      let step = step_is os off n in
      let later = all_offered left (suc k) total (os ++ offer_at off n ∷ []) (omega (arith, within)) short (λ j h. starts j (omega (arith, h))) in (
        (enabled os off n (starts k (omega arith)) (omega (arith, short k (omega (arith, within)))), subst (λ z. IsRun z (offers_from q e i (suc k) left)) (sym step) later.0),
        ap (λ z. after z (offers_from q e i (suc k) left)) step ∙ (later.1 ∙ ap at_offers (append_assoc os (offer_at off n ∷ []) (offered_from rs r e.mtu i (suc k) left))),
      )

-- each piece is among them
pub offered_contains : (rs : List Region) (r : Posted) (mtu i k left j : ℕ) → k ≤ j → j < k + left → Contains (offered_from rs r mtu i k left) (record { request = i; offset = j * mtu; bytes = bytes_at remote_key r.request.shape.rkey (r.request.shape.remote + j * mtu) (min mtu (size_of r - j * mtu)) rs })
unfolding offered_from
offered_contains rs r mtu i k zero j low high = absurd (omega (arith, low, high))
offered_contains rs r mtu i k (suc left) j low high = by_test (k == j) refl (λ l. offered_contains rs r mtu i (suc k) left j l (omega (arith, high)))
  where
    eq : (a b : ℕ) → (a == b) ≡ true → a ≡ b
    eq a b t = grind (arith, nat_tests, eqb_tells a b, t)

    ne : (a b : ℕ) → (a == b) ≡ false → a ≤ b → suc a ≤ b
    ne a b t h = grind (arith, nat_tests, eqb_tells a b, t, h)

    by_test : (b : Bool) → (k == j) ≡ b → (suc k ≤ j → Contains (offered_from rs r mtu i (suc k) left) (record { request = i; offset = j * mtu; bytes = bytes_at remote_key r.request.shape.rkey (r.request.shape.remote + j * mtu) (min mtu (size_of r - j * mtu)) rs })) → Contains (record { request = i; offset = k * mtu; bytes = bytes_at remote_key r.request.shape.rkey (r.request.shape.remote + k * mtu) (min mtu (size_of r - k * mtu)) rs } ∷ offered_from rs r mtu i (suc k) left) (record { request = i; offset = j * mtu; bytes = bytes_at remote_key r.request.shape.rkey (r.request.shape.remote + j * mtu) (min mtu (size_of r - j * mtu)) rs })
    by_test true t later = subst (λ z. Contains (record { request = i; offset = k * mtu; bytes = bytes_at remote_key r.request.shape.rkey (r.request.shape.remote + k * mtu) (min mtu (size_of r - k * mtu)) rs } ∷ offered_from rs r mtu i (suc k) left) (record { request = i; offset = z * mtu; bytes = bytes_at remote_key r.request.shape.rkey (r.request.shape.remote + z * mtu) (min mtu (size_of r - z * mtu)) rs })) (eq k j t) (contains_here _ (offered_from rs r mtu i (suc k) left))
    by_test false t later = contains_later _ _ (offered_from rs r mtu i (suc k) left) (later (ne k j t low))

-- the bytes at a granted place are those of its region
pub bytes_remote : (key a n : ℕ) (x : Region) (rs : List Region) → All (λ z. z.keys.remote ≡ suc z.keys.local) rs → ((k : ℕ) → count_by (λ z. z.keys.local == k) rs ≤ 1) → Contains rs x → x.keys.remote ≡ key → holds x a n ≡ true → bytes_at remote_key key a n rs ≡ cut (a - x.base) n x.bytes
unfolding bytes_at
bytes_remote key a n x [] paired once h is held = absurd (omega (arith, h.1))
bytes_remote key a n x (r ∷ rs) paired once h is held = elim (contains_cases x r rs h) [
  | inl same ↦ subst (λ z. (if is_at remote_key key a n z then cut (a - z.base) n z.bytes else bytes_at remote_key key a n rs) ≡ cut (a - x.base) n x.bytes) (sym same) (ap (λ b. if b then cut (a - x.base) n x.bytes else bytes_at remote_key key a n rs) (both (x.keys.remote == key) (holds x a n) (test x.keys.remote key is) held))
  | inr later ↦
      let other : (r.keys.remote == key) ≡ false = grind (arith, nat_tests, All-head (λ z. z.keys.remote ≡ suc z.keys.local) r rs paired, All-contains (λ z. z.keys.remote ≡ suc z.keys.local) rs x (All-tail (λ z. z.keys.remote ≡ suc z.keys.local) r rs paired) later, is, once x.keys.local, count_by-cons (λ z. z.keys.local == x.keys.local) r rs, number_counted local_key x rs later, eqb_tells r.keys.remote key) in
      ap (λ b. if b && holds r a n then cut (a - r.base) n r.bytes else bytes_at remote_key key a n rs) other
      ∙ bytes_remote key a n x rs (All-tail (λ z. z.keys.remote ≡ suc z.keys.local) r rs paired) (λ k. once_later (λ z. z.keys.local) k r rs (once k)) later is held
]
  where
    both : (p u : Bool) → p ≡ true → u ≡ true → (p && u) ≡ true
    both p u h k = rw (h, k) refl

    test : (a b : ℕ) → a ≡ b → (a == b) ≡ true
    test a b t = grind (arith, nat_tests, eqb_tells a b, t)
