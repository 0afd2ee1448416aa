-- A step of the machine leaves a byte of memory as it is, or may change it.
use Rattle.std.proofs.Common.{arith, ◌≡◌, ◌⊎◌, ◌≤◌, ◌<◌, ◌+◌, ℕ, List, [], ◌∷◌, ◌++◌, length, true, false, Bool, refl, sym, ap, ◌∙◌, subst, inl, inr}
use Rattle.std.specs.Prelude.{Option, Some, None, get_or, nat_le, nat_lt, not, slice_get, ◌&&◌, ◌==◌, ◌||◌}
use Rattle.std.proofs.lemmas.Bool.Decides.{eqb_tells, leb_tells, nat_tests}
use Rattle.std.proofs.lemmas.List.Elements.{All-get_or}
use Rattle.std.proofs.lemmas.Option.{get_or_from_slice_get, slice_get_within}
use Rattle.rdma_types.specs.declared.names.Name.{Name}
use Rattle.rdma_types.specs.declared.names.ObjName.{ObjName}
use Rattle.rdma_types.specs.declared.requests.Kind.{Kind}
use Rattle.rdma_types.specs.declared.requests.Kind.TheVariants as kinds
use Rattle.rdma_types.specs.declared.requests.Receive.{Receive}
use Rattle.rdma_types.specs.declared.rights.Rights.{Rights}
use Rattle.rdma_types.specs.declared.answers.Refusal.{Refusal}
use Rattle.rdma_types.specs.declared.verbs.Verb.{Verb}
use Rattle.rdma_types.specs.declared.verbs.Verb.TheVariants as verbs
use Rattle.rdma_types.specs.Kinds.{is_atomic, is_read, is_send, kind_of, size_of}
use Rattle.rdma_types.specs.Lists.{named, without}
use Rattle.rdma_types.specs.Memory.{RemoteAtomic, RemoteWrite, Right, holds, is_granted, local_key, remote_key, word_bytes}
use Rattle.rdma_types.specs.Objects.{IsWhole, Posted, Region, no_posted, no_region}
use Rattle.packetless_machine.specs.declared.steps.MachineStep.{MachineStep}
use Rattle.packetless_machine.specs.declared.steps.MachineStep.TheVariants as steps
use Rattle.packetless_machine.specs.Tables.{replaced}
use Rattle.packetless_machine.specs.Machine.{Machine, End, Offered, context_of, end_of, posted_at, regions_of, with_regions}
use Rattle.packetless_machine.specs.Steps as ideal
use Rattle.packetless_machine.specs.Steps.{current, front, next_bytes, peer_of, receive_for}
use Rattle.packetless_machine.specs.Verbs as verbal
use Rattle.packetless_machine.specs.Verbs.{region_of}
use Rattle.packetless_machine.specs.Legal.{effect, is_enabled}
use Rattle.law_simulation.proofs.delivery.Words.{word_length}
use Rattle.law_simulation.proofs.requests.ReadTurns.{cut_short}
use Rattle.law_simulation.proofs.relation.Tables.{name_or_not}
use Rattle.law_simulation.proofs.runs.Acting.{related}
use Rattle.law_machine_runs.specs.Changes.{IsGrantedNow, IsOldValue, IsWithin, MayChangeByte, MessageChanges, OwnerChanges, byte_of}
use Rattle.law_machine_runs.proofs.Fair.{AreFair, IsFair, IsInside, IsWordly}
use Rattle.law_machine_runs.proofs.Kept as kept
use Rattle.law_machine_runs.proofs.Memory.{AreWhole, atom_puts, byte_kept, byte_put, done_regions, land_puts, old_there, regions_part, run_range, run_receive, tell_cases, tell_puts}
use Rattle.law_machine_runs.proofs.Parts.{others_found, pushed_found, regions_cases, without_found}
use Rattle.law_machine_runs.proofs.Puts.{IsPut, granted_here, put_cases}
use Rattle.law_machine_runs.proofs.Tidy.{AreKeyedAt, IsStorable, offer_free, region_whole, storable}

both : (a b : Bool) → (a && b) ≡ true → (a ≡ true) × (b ≡ true)
both true b h = (refl, h)
both false b h = absurd (cc)

number_is : (a b : ℕ) → (a == b) ≡ true → a ≡ b
number_is a b t = grind (arith, nat_tests, eqb_tells a b, t)

-- ---- the current request

current_posted : (m : Machine) (q : ObjName) → ideal.has_current m q ≡ true → (end_of m q).acted < length (end_of m q).posted
unfolding ideal.has_current ideal.has_turn
current_posted m q h =
    let e : End = end_of m q in
    let one = both (ideal.has_peer m q) _ h in
    let two = both (not (peer_of m q).ended) _ one.1 in
    let three = both (nat_lt e.acted (length e.posted)) _ two.1 in
    let less : nat_lt e.acted (length e.posted) ≡ true = three.0 in
    grind (arith, nat_tests, less)

granted_now : (m : Machine) (q : ObjName) (right : Right) → ideal.right_for (kind_of (current (end_of m q))) ≡ right → ideal.is_current_granted m q ≡ true →
    is_granted remote_key (ideal.peer_regions m q) (peer_of m q).domain (current (end_of m q)).request.shape.rkey (current (end_of m q)).request.shape.remote (size_of (current (end_of m q))) right ≡ true
unfolding ideal.is_request_granted ideal.is_granted_there
granted_now m q right is h = subst (λ r. is_granted remote_key (ideal.peer_regions m q) (peer_of m q).domain (current (end_of m q)).request.shape.rkey (current (end_of m q)).request.shape.remote (size_of (current (end_of m q))) r ≡ true) is h

-- bytes that are put in the range of the current request, where it is granted
in_range : (m : Machine) (q : ObjName) (right : Right) (o : ObjName) (k into count : ℕ) → AreKeyedAt m → ideal.right_for (kind_of (current (end_of m q))) ≡ right → ideal.is_current_granted m q ≡ true →
    into + count ≤ size_of (current (end_of m q)) → (end_of m q).peer.context ≡ o.context →
    IsPut remote_key (current (end_of m q)).request.shape.rkey ((current (end_of m q)).request.shape.remote + into) count (ideal.peer_regions m q) (region_of m o) k → IsGrantedNow m q right o k
in_range m q right o k into count keyed is granted fits context p =
    let some : 1 ≤ size_of (current (end_of m q)) = omega (arith, fits, p.within.low, p.within.high) in
    record {
      context = context;
      grants = granted_here m.keys (ideal.peer_regions m q) (keyed (end_of m q).peer.context) (peer_of m q).domain (current (end_of m q)).request.shape.rkey (current (end_of m q)).request.shape.remote (size_of (current (end_of m q))) right (granted_now m q right is granted) some (region_of m o) p.there p.key;
      within = record { low = omega (arith, p.within.low); high = omega (arith, p.within.high, fits) };
    }

-- ---- Run

added : (e : End) (n : ℕ) → ideal.may_add e n ≡ true → e.into + n ≤ size_of (current e)
unfolding ideal.may_add
added e n h =
    let two : nat_le (e.into + n) (size_of (current e)) ≡ true = (both (nat_le 1 n || ((size_of (current e) == 0) && (n == 0))) (nat_le (e.into + n) (size_of (current e))) h).1 in
    grind (arith, nat_tests, leb_tells (e.into + n) (size_of (current e)), two)

fits_there : (v : Receive) (count : ℕ) → ideal.fits (Some v) count ≡ true → count ≤ v.length
unfolding ideal.fits
fits_there v count h = grind (arith, nat_tests, leb_tells count v.length, h)

write_right : (kind : Kind) → kind ≡ kinds.Write → ideal.right_for kind ≡ RemoteWrite
unfolding ideal.right_for
write_right kind is = ap ideal.right_for is

fits_nothing : (count : ℕ) → ideal.fits None count ≡ true → ⊥
unfolding ideal.fits
fits_nothing count h = absurd (cc)

module _ (m : Machine) (q : ObjName) (n : ℕ) (whole : AreWhole m) (keyed : AreKeyedAt m) (o : ObjName) (k : ℕ) where
  abbrev e : End
  e = end_of m q

  abbrev Cases : Kind → Type 0
  Cases kind = (byte_of (ideal.run m q n) o k ≡ byte_of m o k) ⊎ MessageChanges m q kind o k

  run_write : kind_of (current e) ≡ kinds.Write → e.into + n ≤ size_of (current e) → ideal.is_current_granted m q ≡ true → Cases kinds.Write
  run_write is fits granted = elim (byte_put m (ideal.run m q n) e.peer.context remote_key (current e).request.shape.rkey ((current e).request.shape.remote + e.into) (next_bytes e n) (run_range m q n (ap is_send is)) whole o k) [
    | inl same ↦ inl same
    | inr p ↦ inr (in_range m q RemoteWrite o k e.into (length (next_bytes e n)) keyed (write_right (kind_of (current e)) is) granted (omega (arith, fits, cut_short e.into n (current e).payload)) p.0 p.1)
  ]

  run_send : kind_of (current e) ≡ kinds.Send → (v : Option Receive) → receive_for (peer_of m q) ≡ v → ideal.fits v (e.into + n) ≡ true → Cases kinds.Send
  run_send is None there fits = absurd (fits_nothing (e.into + n) fits)
  run_send is (Some v) there fits =
      let few = fits_there v (e.into + n) fits in
      let short = cut_short e.into n (current e).payload in
      elim (byte_put m (ideal.run m q n) e.peer.context local_key v.lkey (v.local + e.into) (next_bytes e n) (run_receive m q n (ap is_send is) v there) whole o k) [
        | inl same ↦ inl same
        | inr p ↦ inr (record {
          context = p.0;
          receive = v;
          posted = there;
          place = record { key = p.1.key; within = record { low = omega (arith, p.1.within.low); high = omega (arith, p.1.within.high, few, short) } };
        })
      ]

  run_kind : (kind : Kind) → kind_of (current e) ≡ kind → e.into + n ≤ size_of (current e) → ideal.may_run_kind m q n kind ≡ true → Cases kind
  unfolding ideal.may_run_kind
  run_kind kinds.Write is fits may = run_write is fits (both (ideal.is_current_granted m q) _ may).0
  run_kind kinds.Send is fits may = run_send is (receive_for (peer_of m q)) refl may
  run_kind kinds.Read is fits may = absurd (cc)
  run_kind kinds.CompareSwap is fits may = absurd (cc)
  run_kind kinds.FetchAdd is fits may = absurd (cc)

  pub run_byte : ideal.may_run m q n ≡ true → Cases (kind_of (current e))
  unfolding ideal.may_run
  run_byte may =
      let one = both (ideal.has_current m q) _ may in
      let two = both (ideal.may_add e n) (ideal.may_run_kind m q n (kind_of (current e))) one.1 in
      run_kind (kind_of (current e)) refl (added e n two.0) two.1

-- ---- Atom

atomic_right : (kind : Kind) → is_atomic kind ≡ true → ideal.right_for kind ≡ RemoteAtomic
unfolding ideal.right_for
atomic_right kinds.Write h = absurd (cc)
atomic_right kinds.Send h = absurd (cc)
atomic_right kinds.Read h = absurd (cc)
atomic_right kinds.CompareSwap h = refl
atomic_right kinds.FetchAdd h = refl

atom_byte : (m : Machine) (q : ObjName) → AreWhole m → AreKeyedAt m → IsFair (end_of m q) → ideal.may_atom m q ≡ true → (o : ObjName) (k : ℕ) → (byte_of (ideal.atom m q) o k ≡ byte_of m o k) ⊎ IsGrantedNow m q RemoteAtomic o k
unfolding ideal.may_atom
atom_byte m q whole keyed fair may o k =
    let r : Posted = current (end_of m q) in
    let new : List ℕ = word_bytes (ideal.changed_word r (old_there m q)) in
    let one = both (ideal.has_current m q) _ may in
    let two = both (is_atomic (kind_of r)) _ one.1 in
    let three = both (not (ideal.is_misaligned r)) (ideal.is_current_granted m q) two.1 in
    let posted : IsWordly r = All-get_or IsWordly (end_of m q).posted (end_of m q).acted no_posted (current_posted m q one.0) fair.words in
    let size : size_of r ≡ 8 = posted.word two.0 in
    let word : length new ≡ 8 = word_length _ in
    elim (byte_put m (ideal.atom m q) (end_of m q).peer.context remote_key r.request.shape.rkey r.request.shape.remote new (atom_puts m q) whole o k) [
      | inl same ↦ inl same
      | inr p ↦ inr (in_range m q RemoteAtomic o k 0 (length new) keyed (atomic_right (kind_of r) two.0) three.1 (omega (arith, word, size)) p.0
          (record { there = p.1.there; key = p.1.key; within = record { low = omega (arith, p.1.within.low); high = omega (arith, p.1.within.high) } }))
    ]

-- ---- Land

-- what the offer that lands tells
record Landing (e : End) (offer : Offered) : Type 0 where
  request : offer.request ≡ e.told
  offset : offer.offset ≡ e.known

landing : (e : End) (offer : Offered) → ideal.may_land_offer e (Some offer) ≡ true → Landing e offer
unfolding ideal.may_land_offer
landing e offer h =
    let one = both (nat_le 1 (length offer.bytes)) ((offer.request == e.told) && (offer.offset == e.known)) h in
    let two = both (offer.request == e.told) (offer.offset == e.known) one.1 in
    record { request = number_is offer.request e.told two.0; offset = number_is offer.offset e.known two.1 }

bytes_are : (offer : Offered) (x : Option Offered) → x ≡ Some offer → length (ideal.bytes_of x) ≡ length offer.bytes
unfolding ideal.bytes_of
bytes_are offer x is = ap (λ z. length (ideal.bytes_of z)) is

no_landing : (e : End) → ideal.may_land_offer e None ≡ true → ⊥
unfolding ideal.may_land_offer
no_landing e h = absurd (cc)

module _ (m : Machine) (q : ObjName) (whole : AreWhole m) (fair : IsFair (end_of m q)) (o : ObjName) (k : ℕ) where
  abbrev at_q : End
  at_q = end_of m q

  land_offer : (i : ℕ) (x : Option Offered) → slice_get at_q.offers i ≡ x → ideal.may_land_offer at_q x ≡ true → (byte_of (ideal.landed m q i) o k ≡ byte_of m o k) ⊎ MayChangeByte m (steps.Land q i) o k
  land_offer i None is may = absurd (no_landing at_q may)
  land_offer i (Some offer) is may =
      let l : Landing at_q offer = landing at_q offer may in
      let found : get_or at_q.offers i offer ≡ offer = get_or_from_slice_get at_q.offers i offer offer is in
      let inside : IsInside at_q.posted offer = subst (IsInside at_q.posted) found (All-get_or (IsInside at_q.posted) at_q.offers i offer (slice_get_within at_q.offers i offer is) fair.offers) in
      let reads : is_read (kind_of (front at_q)) ≡ true = subst (λ j. is_read (kind_of (posted_at at_q.posted j)) ≡ true) l.request inside.reads in
      let size : offer.offset + length offer.bytes ≤ size_of (front at_q) = subst (λ j. offer.offset + length offer.bytes ≤ size_of (posted_at at_q.posted j)) l.request inside.within in
      let few : length (ideal.bytes_of (slice_get at_q.offers i)) ≡ length offer.bytes = bytes_are offer (slice_get at_q.offers i) is in
      elim (byte_put m (ideal.landed m q i) q.context local_key (front at_q).request.lkey ((front at_q).request.local + at_q.known) (ideal.bytes_of (slice_get at_q.offers i)) (land_puts m q i) whole o k) [
        | inl same ↦ inl same
        | inr p ↦ inr (
          reads,
          record {
            context = p.0;
            place = record { key = p.1.key; within = record { low = omega (arith, p.1.within.low); high = omega (arith, p.1.within.high, size, few, l.offset) } };
          },
        )
      ]

  land_byte : (i : ℕ) → ideal.may_land m q i ≡ true → (byte_of (ideal.landed m q i) o k ≡ byte_of m o k) ⊎ MayChangeByte m (steps.Land q i) o k
  unfolding ideal.may_land
  land_byte i may = land_offer i (slice_get at_q.offers i) refl (both (ideal.has_untold m q) _ may).1

  -- ---- Tell

  tell_byte : (byte_of (ideal.tell m q) o k ≡ byte_of m o k) ⊎ MayChangeByte m (steps.Tell q) o k
  tell_byte = elim (tell_cases m q (slice_get at_q.answers at_q.told) refl) [
    | inl same ↦ inl (byte_kept m (ideal.tell m q) same o k)
    | inr old ↦ elim (byte_put m (ideal.tell m q) q.context local_key (front at_q).request.lkey (front at_q).request.local (word_bytes old.0) (tell_puts m q old.0 old.1) whole o k) [
      | inl same ↦ inl same
      | inr p ↦ inr (
        subst IsOldValue (sym old.1) tt,
        record {
          context = p.0;
          place = record { key = p.1.key; within = record { low = p.1.within.low; high = omega (arith, p.1.within.high, word_length old.0) } };
        },
      )
    ]
  ]

-- ---- verbs

-- one of a name is replaced: what is found of each name is as before, or the new one
replaced_found : {A : Type 0} (name : A → List ℕ) (none : A) (k : List ℕ) (x : A) (xs : List A) → name x ≡ name (named name none k xs) → (named name none k (replaced name k x xs) ≡ named name none k xs) ⊎ (named name none k (replaced name k x xs) ≡ x)
replaced_found {A} name none k x xs h = related (λ (a : A) (b : A). (a ≡ b) ⊎ (a ≡ x)) (λ a. inl refl) name none none k k x xs h (inr refl)

abbrev by_name : Name → List Region → Region
by_name n rs = named (λ z. z.name) no_region n rs

abbrev found_bytes : Name → ℕ → List Region → Option ℕ
found_bytes n k rs = slice_get (by_name n rs).bytes k

-- the regions of one context become others: what is seen of a region stays where it does so there
pub seen_there : {B : Type 0} (g : Region → B) (m : Machine) (c : Name) (rs : List Region) (o : ObjName) (P : Type 0) → (o.context ≡ c → (g (by_name o.name rs) ≡ g (by_name o.name (regions_of m c))) ⊎ P) → (g (region_of (with_regions m c rs) o) ≡ g (region_of m o)) ⊎ P
unfolding region_of
seen_there g m c rs o P h = elim (regions_cases m c rs o.context) [
  | inl same ↦ inl (ap (λ z. g (by_name o.name z)) same)
  | inr here ↦ elim (h here.0) [
    | inl same ↦ inl (ap (λ z. g (by_name o.name z)) here.1 ∙ (same ∙ ap (λ j. g (by_name o.name (regions_of m j))) (sym here.0)))
    | inr p ↦ inr p
  ]
]

pub object_is : (a b : ObjName) → a.context ≡ b.context → a.name ≡ b.name → a ≡ b
object_is a b c n = λ i. record { context = c i; name = n i }

over_byte : (r : Region) (address k : ℕ) (bytes : List ℕ) → IsWhole r → holds r address (length bytes) ≡ true → (slice_get (verbal.overwritten r address bytes).bytes k ≡ slice_get r.bytes k) ⊎ IsWithin address (length bytes) r k
unfolding verbal.overwritten
over_byte r address k bytes whole held = put_cases r address k bytes whole held

over_name : (r : Region) (address : ℕ) (bytes : List ℕ) → (verbal.overwritten r address bytes).name ≡ r.name
unfolding verbal.overwritten
over_name r address bytes = refl

-- bytes are stored into the region of a name
module _ (n : Name) (address : ℕ) (bytes : List ℕ) (rs : List Region) (whole : IsWhole (by_name n rs)) (held : holds (by_name n rs) address (length bytes) ≡ true) (k : ℕ) where
  abbrev over : Region
  over = verbal.overwritten (by_name n rs) address bytes

  abbrev Stores : Name → Type 0
  Stores j = (found_bytes j k (replaced (λ z. z.name) n over rs) ≡ found_bytes j k rs) ⊎ ((n ≡ j) × IsWithin address (length bytes) (by_name j rs) k)

  stores_there : Stores n
  stores_there = elim (replaced_found (λ z. z.name) no_region n over rs (over_name (by_name n rs) address bytes)) [
    | inl kept ↦ inl (ap (λ (r : Region). slice_get r.bytes k) kept)
    | inr here ↦ elim (over_byte (by_name n rs) address k bytes whole held) [
      | inl same ↦ inl (ap (λ (r : Region). slice_get r.bytes k) here ∙ same)
      | inr within ↦ inr (refl, within)
    ]
  ]

  stores : (j : Name) → Stores j
  stores j = elim (name_or_not j n) [
    | inl is ↦ subst Stores (sym is) stores_there
    | inr far ↦ inl (ap (λ (r : Region). slice_get r.bytes k) (others_found (λ z. z.name) no_region no_region n j over rs far (over_name (by_name n rs) address bytes)))
  ]

store_byte : (m : Machine) (s : ObjName) (address : ℕ) (bytes : List ℕ) → AreWhole m → IsStorable m s address bytes → (o : ObjName) (k : ℕ) → (byte_of (verbal.stored m s address bytes) o k ≡ byte_of m o k) ⊎ ((s ≡ o) × IsWithin address (length bytes) (region_of m o) k)
unfolding verbal.stored region_of
store_byte m s address bytes whole h o k =
    seen_there (λ r. slice_get r.bytes k) m s.context (replaced (λ z. z.name) s.name (verbal.overwritten (region_of m s) address bytes) (regions_of m s.context)) o ((s ≡ o) × IsWithin address (length bytes) (by_name o.name (regions_of m o.context)) k)
    (λ same. elim (stores s.name address bytes (regions_of m s.context) (region_whole m s h.there whole) h.held k o.name) [
      | inl kept ↦ inl kept
      | inr changed ↦ inr (object_is s o (sym same) changed.0, subst (λ j. IsWithin address (length bytes) (by_name o.name (regions_of m j)) k) (sym same) changed.1)
    ])

-- a region is made, or dropped: what is seen of the others stays
pub make_seen : {B : Type 0} (g : Region → B) (m : Machine) (s : ObjName) (domain : Name) (base count : ℕ) (rights : Rights) (given : ℕ) (o : ObjName) → (g (region_of (verbal.made_region m s domain base count rights given) o) ≡ g (region_of m o)) ⊎ (s ≡ o)
unfolding verbal.made_region region_of context_of
make_seen g m s domain base count rights given o =
    let new : Region = verbal.new_region s.name domain base count rights given in
    seen_there g (record m { keys = m.keys ++ given ∷ [] }) s.context (regions_of m s.context ++ new ∷ []) o (s ≡ o)
    (λ same. elim (pushed_found (λ z. z.name) no_region o.name new (regions_of m s.context)) [
      | inl kept ↦ inl (ap g kept)
      | inr is ↦ inr (object_is s o (sym same) is)
    ])

pub drop_seen : {B : Type 0} (g : Region → B) (m : Machine) (s : ObjName) (o : ObjName) → (g (region_of (with_regions m s.context (without (λ r. r.name) s.name (regions_of m s.context))) o) ≡ g (region_of m o)) ⊎ (s ≡ o)
drop_seen g m s o =
    seen_there g m s.context (without (λ z. z.name) s.name (regions_of m s.context)) o (s ≡ o)
    (λ same. elim (without_found (λ z. z.name) no_region s.name o.name (regions_of m s.context)) [
      | inl kept ↦ inl (ap g kept)
      | inr is ↦ inr (object_is s o (sym same) is)
    ])

done_byte : (m : Machine) (v : Verb) (given : ℕ) → AreWhole m → verbal.refusal_of m v ≡ None → (o : ObjName) (k : ℕ) → (byte_of (verbal.done m v given) o k ≡ byte_of m o k) ⊎ OwnerChanges m v o k
done_byte m (verbs.MakeRegion s domain base count rights) given whole none o k = make_seen (λ r. slice_get r.bytes k) m s (verbal.word_or_none domain) base count rights given o
done_byte m (verbs.DropRegion s) given whole none o k = drop_seen (λ r. slice_get r.bytes k) m s o
done_byte m (verbs.Store s address bytes) given whole none o k = store_byte m s address bytes whole (storable m s address bytes none) o k
done_byte m (verbs.Context name made) given whole none o k = inl (byte_kept m _ (done_regions m (verbs.Context name made) given tt) o k)
done_byte m (verbs.Connect one two terms) given whole none o k = inl (byte_kept m _ (done_regions m (verbs.Connect one two terms) given tt) o k)
done_byte m (verbs.MakeDomain s) given whole none o k = inl (byte_kept m _ (done_regions m (verbs.MakeDomain s) given tt) o k)
done_byte m (verbs.MakeCq s capacity) given whole none o k = inl (byte_kept m _ (done_regions m (verbs.MakeCq s capacity) given tt) o k)
done_byte m (verbs.MakeQp s domain send_cq recv_cq send_depth recv_depth) given whole none o k = inl (byte_kept m _ (done_regions m (verbs.MakeQp s domain send_cq recv_cq send_depth recv_depth) given tt) o k)
done_byte m (verbs.Load s address count) given whole none o k = inl (byte_kept m _ (done_regions m (verbs.Load s address count) given tt) o k)
done_byte m (verbs.PostSend s r) given whole none o k = inl (byte_kept m _ (done_regions m (verbs.PostSend s r) given tt) o k)
done_byte m (verbs.PostRecv s v) given whole none o k = inl (byte_kept m _ (done_regions m (verbs.PostRecv s v) given tt) o k)
done_byte m (verbs.Poll s max) given whole none o k = inl (byte_kept m _ (done_regions m (verbs.Poll s max) given tt) o k)

verb_byte : (m : Machine) (v : Verb) (given : ℕ) (r : Option Refusal) → AreWhole m → verbal.refusal_of m v ≡ r → (o : ObjName) (k : ℕ) → (byte_of (verbal.after_answer r m v given) o k ≡ byte_of m o k) ⊎ OwnerChanges m v o k
verb_byte m v given None whole is o k = done_byte m v given whole is o k
verb_byte m v given (Some r) whole is o k = inl refl

-- ---- each step

pub step_byte : (m : Machine) (s : MachineStep) → AreWhole m → AreKeyedAt m → AreFair m → is_enabled m s ≡ true → (o : ObjName) (k : ℕ) → (byte_of (effect m s) o k ≡ byte_of m o k) ⊎ MayChangeByte m s o k
step_byte m (steps.Verb v given) whole keyed fair may o k = verb_byte m v given (verbal.refusal_of m v) whole refl o k
step_byte m (steps.Run q n) whole keyed fair may o k = run_byte m q n whole keyed o k may
step_byte m (steps.Atom q) whole keyed fair may o k = atom_byte m q whole keyed (fair q) may o k
step_byte m (steps.Land q i) whole keyed fair may o k = land_byte m q whole (fair q) o k i may
step_byte m (steps.Tell q) whole keyed fair may o k = tell_byte m q whole (fair q) o k
step_byte m (steps.Offer q i off n) whole keyed fair may o k = inl (byte_kept m _ (offer_free (λ x. x.regions) (λ c es. refl) m q i off n) o k)
step_byte m (steps.ReadTurn q) whole keyed fair may o k = inl (byte_kept m _ (kept.turn_kept (λ x. x.regions) regions_part m q) o k)
step_byte m (steps.Refuse q why) whole keyed fair may o k = inl (byte_kept m _ (kept.refuse_kept (λ x. x.regions) regions_part m q why) o k)
step_byte m (steps.Dry q) whole keyed fair may o k = inl (byte_kept m _ (kept.dry_kept (λ x. x.regions) regions_part m q) o k)
step_byte m (steps.Known q bytes) whole keyed fair may o k = inl (byte_kept m _ (kept.know_kept (λ x. x.regions) regions_part m q bytes) o k)
step_byte m (steps.Expire q) whole keyed fair may o k = inl (byte_kept m _ (kept.expire_kept (λ x. x.regions) regions_part m q) o k)
step_byte m (steps.Wait q) whole keyed fair may o k = inl (byte_kept m _ (kept.wait_kept (λ x. x.regions) regions_part m q) o k)
step_byte m (steps.Bounce q) whole keyed fair may o k = inl (byte_kept m _ (kept.bounce_kept (λ x. x.regions) regions_part m q) o k)
