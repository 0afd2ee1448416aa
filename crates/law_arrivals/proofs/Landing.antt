-- Responses write only into the local places of untold Reads and atomics.
use Rattle.std.proofs.Common.{arith, ◌≡◌, ◌≢◌, ◌⊎◌, ◌≤◌, ◌<◌, ◌+◌, ◌-◌, ◌*◌, ℕ, zero, suc, List, [], ◌∷◌, map, length, true, false, Bool, refl, sym, ap, ◌∙◌, inl, inr, subst}
use Rattle.std.specs.Prelude.{AllPairs, Option, Some, None, if◌then◌else◌, nat_lt, ◌==◌, ◌&&◌, ◌||◌, slice_get}
use Rattle.std.proofs.lemmas.Bool.{cases_lt}
use Rattle.std.proofs.lemmas.Bool.Decides.{nat_tests}
use Rattle.rdma_types.specs.declared.answers.ArrivalEffect.TheVariants as took
use Rattle.rdma_types.specs.declared.names.Name.{Name}
use Rattle.rdma_types.specs.Kinds.{is_read, kind_of, lands}
use Rattle.rdma_types.specs.Lists.{at, some}
use Rattle.rdma_types.specs.Memory.{LocalWrite, NoRight, Right, local_key}
use Rattle.rdma_types.specs.Objects.{Region, no_region}
use Rattle.rdma_types.specs.Spans.{Piece, next_landing, piece_at, piece_length, request_of}
use Rattle.protocol.specs.EndWords.{EndStep, stays}
use Rattle.protocol.specs.Memory.{landed, region_of_key, written}
use Rattle.protocol.specs.Numbers.{unwrap_near}
use Rattle.protocol.specs.Requester.{advanced, barrier, is_this_piece, landing, old_bytes, response_at, takes_landing, takes_piece, takes_response, telling, useless}
use Rattle.protocol.specs.State.{Context, End, Link}
use Rattle.protocol.specs.Wire.{Packet, is_read_response}
use Rattle.rdma_types.proofs.Places.{landing_lands, request_of_piece}
use Rattle.protocol.specs.Changes.{is_among}
use Rattle.law_devices.specs.Sound.{IsGrantedTo, IsSoundContext, IsSoundRequest, plans}
use Rattle.law_devices.proofs.Ends.{written_ends}
use Rattle.law_devices.proofs.Landing.{granted-place, lands_word, nothing_long, old_few}
use Rattle.law_devices.proofs.Regions.{All-at, at_key, granted-cases, region_at}
use Rattle.law_devices.proofs.Rooms.{IsHere}
use Rattle.law_devices.proofs.Working.{linked-sound}
use Rattle.law_arrivals.specs.Touched.{is_landing_byte}
use Rattle.law_arrivals.proofs.Changes.{Changes, changes-written}
use Rattle.law_arrivals.proofs.Steps as steps

-- ---- granted local places

-- a granted local place begins in the region of its key
pub record IsIn (rs : List Region) (lkey at' : ℕ) : Type 0 where
  pub key : (at local_key no_region lkey rs).keys.local ≡ lkey
  pub low : (at local_key no_region lkey rs).base ≤ at'

granted-in : (rs : List Region) (domain : Name) (lkey at' count : ℕ) (right : Right) → AllPairs (λ x y. x ≢ y) (map local_key rs) → IsGrantedTo (plans rs) domain lkey at' count right → 0 < count → IsIn rs lkey at'
granted-in rs domain lkey at' count right apart granted more = elim (granted-cases (plans rs) domain lkey at' count right granted) [
  | inl none ↦ absurd (omega (arith, none, more))
  | inr g ↦
      let mine = region_at rs g.i g.region g.there in
      let key : mine.0.keys.local ≡ lkey = ap (λ (z : Region). z.keys.local) mine.2 ∙ g.grants.same_key in
      let found : at local_key no_region lkey rs ≡ mine.0 = ap (λ k. at local_key no_region k rs) (sym key) ∙ at_key rs g.i mine.0 apart mine.1 in
      let base : (at local_key no_region lkey rs).base ≡ g.region.base = ap (λ (z : Region). z.base) found ∙ ap (λ (z : Region). z.base) mine.2 in
      record { key = ap (λ (z : Region). z.keys.local) found ∙ key; low = omega (arith, base, g.grants.low) }
]

pub among : (from count k : ℕ) → from ≤ k → k < from + count → is_among from count k ≡ true
among from count k low high = grind (arith, nat_tests)

-- bytes land in a granted local place of which each byte may change
pub changes-landed : (may : Region → ℕ → Bool) (c : Context) (e : End) (domain : Name) (lkey at' count : ℕ) (right : Right) (a : ℕ) (bytes : List ℕ) → IsSoundContext c → (0 < length bytes → IsGrantedTo (plans c.regions) domain lkey at' count right) → at' ≤ a → (0 < length bytes → a + length bytes ≤ at' + count)
    → ((r : Region) (k : ℕ) → ((r.keys.local == lkey) && is_among at' count (r.base + k)) ≡ true → may r k ≡ true) → Changes may c e (landed c lkey a bytes)
unfolding landed region_of_key
changes-landed may c e domain lkey at' count right a bytes s granted low high inside = by_length (cases_lt 0 (length bytes))
  where
    by_length : (0 < length bytes) ⊎ (length bytes ≤ 0) → Changes may c e (written c lkey (a - (at local_key no_region lkey c.regions).base) bytes)
    by_length (inr none) = changes-written may c e lkey (a - (at local_key no_region lkey c.regions).base) bytes s (inl (nothing_long bytes (omega (arith, none)))) (λ k from to. absurd (omega (arith, none, from, to)))
    by_length (inl more) =
        let fits = high more in
        let mine = granted-in c.regions domain lkey at' count right s.parts.keys (granted more) (omega (arith, more, fits, low)) in
        changes-written may c e lkey (a - (at local_key no_region lkey c.regions).base) bytes s
        (inr (granted-place c.regions domain lkey at' count right a (length bytes) s.parts.keys (granted more) (omega (arith, more, fits, low)) low fits))
        (λ k from to. inside (at local_key no_region lkey c.regions) k (both (same (at local_key no_region lkey c.regions).keys.local mine.key) (among at' count ((at local_key no_region lkey c.regions).base + k) (omega (arith, from, mine.low, low)) (omega (arith, to, fits, mine.low, low)))))
      where
        same : (n : ℕ) → n ≡ lkey → (n == lkey) ≡ true
        same n h = grind (arith, nat_tests, h)

        both : {x y : Bool} → x ≡ true → y ≡ true → (x && y) ≡ true
        both {x} {y} h g = ap (λ b. b && y) h ∙ g

-- ---- responses

-- what a list has passes where one of its things does
pub some-there : {A : Type 0} (test : A → Bool) (xs : List A) (i : ℕ) (x : A) → slice_get xs i ≡ Some x → test x ≡ true → some test xs ≡ true
unfolding some
some-there test [] i x h g = absurd (cc)
some-there {A} test (y ∷ ys) zero x h g = let same : y ≡ x = cc in ap (λ b. b || some test ys) (ap test same ∙ g)
some-there test (y ∷ ys) (suc i) x h g = by_test (test y) (some-there test ys i x h g)
  where
    by_test : (b : Bool) → some test ys ≡ true → (b || some test ys) ≡ true
    by_test true k = refl
    by_test false k = k

module _ (c : Context) (e : End) (l : Link) (s : IsSoundContext c) (here : IsHere c e) (there : e.link ≡ Some l) (d : Packet) where
  -- the local places of untold Reads and atomics
  abbrev pub lands_in : Region → ℕ → Bool
  lands_in r k = some (is_landing_byte r k) l.sender.untold

  abbrev Fine : EndStep → Type 0
  Fine = steps.Fine lands_in c e l s here there

  both : (a b : Bool) → (a && b) ≡ true → (a ≡ true) × (b ≡ true)
  both true true h = (refl, refl)
  both true false h = absurd (cc)
  both false b h = absurd (cc)

  length_is : (a b : ℕ) → (a == b) ≡ true → a ≡ b
  length_is a b h = grind (arith, nat_tests, h)

  -- an untold request that lands, and its place among them
  record IsLanding (x : Piece) : Type 0 where
    i : ℕ
    at-i : slice_get l.sender.untold i ≡ Some x.posted
    landing' : lands (kind_of x.posted) ≡ true

  piece_lands : (x : Piece) → IsLanding x → is_this_piece l d x ≡ true → Changes lands_in c e (landing c l d x)
  piece_lands x h this = by_test (is_read (kind_of x.posted)) refl this
    where
      mine : IsSoundRequest (plans c.regions) e.domain x.posted
      mine = All-at (IsSoundRequest (plans c.regions) e.domain) l.sender.untold h.i x.posted (linked-sound c e l s here there).sender.requests h.at-i

      granted : IsGrantedTo (plans c.regions) e.domain x.posted.request.lkey x.posted.request.local x.posted.request.shape.length LocalWrite
      granted = subst (λ b. IsGrantedTo (plans c.regions) e.domain x.posted.request.lkey x.posted.request.local x.posted.request.shape.length (if b then LocalWrite else NoRight)) h.landing' mine.granted

      inside : (r : Region) (k : ℕ) → ((r.keys.local == x.posted.request.lkey) && is_among x.posted.request.local x.posted.request.shape.length (r.base + k)) ≡ true → lands_in r k ≡ true
      inside r k g = some-there (is_landing_byte r k) l.sender.untold h.i x.posted h.at-i (ap (λ b. b && ((r.keys.local == x.posted.request.lkey) && is_among x.posted.request.local x.posted.request.shape.length (r.base + k))) h.landing' ∙ g)

      by_test : (b : Bool) → is_read (kind_of x.posted) ≡ b → (if b then is_read_response d.opcode && length d.payload == piece_length x.posted.request.shape.length x.k l.terms.mtu else d.opcode == 0x12) ≡ true
          → Changes lands_in c e (if b then landed c x.posted.request.lkey (x.posted.request.local + x.k * l.terms.mtu) d.payload else landed c x.posted.request.lkey x.posted.request.local (old_bytes d.old))
      by_test true t g =
          let size : length d.payload ≡ piece_length x.posted.request.shape.length x.k l.terms.mtu = length_is _ _ (both (is_read_response d.opcode) _ g).1 in
          changes-landed lands_in c e e.domain x.posted.request.lkey x.posted.request.local x.posted.request.shape.length LocalWrite (x.posted.request.local + x.k * l.terms.mtu) d.payload s (λ more. granted) (omega arith) (λ more. omega (arith, size, more)) inside
      by_test false t g =
          let word : x.posted.request.shape.length ≡ 8 = mine.shape.word (lands_word (kind_of x.posted) h.landing' t) in
          changes-landed lands_in c e e.domain x.posted.request.lkey x.posted.request.local x.posted.request.shape.length LocalWrite x.posted.request.local (old_bytes d.old) s (λ more. granted) (omega arith) (λ more. omega (arith, word, old_few d.old)) inside

  landing-ends : (x : Piece) → (landing c l d x).ends ≡ c.ends
  unfolding landed
  landing-ends x = by_test (is_read (kind_of x.posted))
    where
      by_test : (b : Bool) → (if b then landed c x.posted.request.lkey (x.posted.request.local + x.k * l.terms.mtu) d.payload else landed c x.posted.request.lkey x.posted.request.local (old_bytes d.old)).ends ≡ c.ends
      by_test true = written_ends c x.posted.request.lkey _ d.payload
      by_test false = written_ends c x.posted.request.lkey _ (old_bytes d.old)

  piece_fine : (n : ℕ) (o : Option Piece) → ((x : Piece) → o ≡ Some x → IsLanding x) → Fine (takes_piece c e l d n o)
  unfolding takes_piece
  piece_fine n None known = steps.none lands_in c e l s here there
  piece_fine n (Some x) known =
      steps.test_fine lands_in c e l s here there (is_this_piece l d x) (stays (telling (landing c l d x) e l (advanced l.sender (n + 1))) took.Landed) (useless c)
      (λ t. steps.to_telling lands_in c e l s here there (landing c l d x) (advanced l.sender (n + 1)) (piece_lands x (known x refl) t) (landing-ends x))
      (λ t. steps.none lands_in c e l s here there)

  landing_fine : (n : ℕ) → Fine (takes_landing c e l d n)
  unfolding takes_landing barrier
  landing_fine n =
      steps.test_fine lands_in c e l s here there (n == barrier l.terms l.sender && nat_lt n l.sender.top) (takes_piece c e l d n (piece_at l.sender.untold l.terms.mtu (n - l.sender.first))) (useless c)
      (λ t. piece_fine n (piece_at l.sender.untold l.terms.mtu (n - l.sender.first)) (known (length_is n _ (both _ _ t).0)))
      (λ t. steps.none lands_in c e l s here there)
    where
      known : n ≡ l.sender.first + next_landing l.sender.untold l.terms.mtu (l.sender.una - l.sender.first) → (x : Piece) → piece_at l.sender.untold l.terms.mtu (n - l.sender.first) ≡ Some x → IsLanding x
      known is x h =
          let place : n - l.sender.first ≡ next_landing l.sender.untold l.terms.mtu (l.sender.una - l.sender.first) = omega (arith, is) in
          record {
            i = request_of l.sender.untold l.terms.mtu (n - l.sender.first);
            at-i = request_of_piece l.sender.untold l.terms.mtu (n - l.sender.first) x h;
            landing' = landing_lands l.sender.untold l.terms.mtu (l.sender.una - l.sender.first) x (ap (piece_at l.sender.untold l.terms.mtu) (sym place) ∙ h);
          }

  response_at_fine : (o : Option ℕ) → Fine (response_at c e l d o)
  response_at_fine None = steps.none lands_in c e l s here there
  response_at_fine (Some n) = steps.if_fine lands_in c e l s here there (is_read_response d.opcode || d.opcode == 0x12) _ _ (landing_fine n) (steps.aeth_fine lands_in c e l s here there n d.aeth)

  pub response_fine : Fine (takes_response c e l d)
  unfolding takes_response
  response_fine = response_at_fine (unwrap_near l.terms.own_start d.psn l.sender.una)
