-- Bytes land in granted places alone, and responses keep a context sound.
use Rattle.std.proofs.Common.{arith, ◌≡◌, ◌≢◌, ◌⊎◌, ◌≤◌, ◌<◌, ◌+◌, ◌-◌, ◌*◌, ℕ, zero, suc, List, [], ◌∷◌, ◌++◌, map, length, take, drop, true, false, Bool, refl, sym, ap, ◌∙◌, inl, inr, subst}
use Rattle.std.specs.Prelude.{All, AllPairs, Option, Some, None, if◌then◌else◌, max, min, nat_lt, nat_le, not, ◌==◌, ◌&&◌, ◌||◌, slice_get}
use Rattle.std.proofs.lemmas.Bool.{cases_lt}
use Rattle.std.proofs.lemmas.Bool.Decides.{nat_tests}
use Rattle.rdma_types.specs.declared.answers.DropReason.TheVariants as why
use Rattle.rdma_types.specs.declared.answers.ArrivalEffect.TheVariants as took
use Rattle.rdma_types.specs.declared.names.Name.{Name}
use Rattle.rdma_types.specs.declared.requests.Kind.{Kind}
use Rattle.rdma_types.specs.declared.requests.Kind.TheVariants.{Write, Send, Read, CompareSwap, FetchAdd}
use Rattle.rdma_types.specs.Kinds.{is_atomic, is_read, kind_of, lands}
use Rattle.rdma_types.specs.Lists.{at}
use Rattle.rdma_types.specs.Memory.{LocalWrite, NoRight, Right, landing_right, local_key, word_bytes}
use Rattle.rdma_types.specs.Objects.{Posted, Region, no_region}
use Rattle.rdma_types.specs.Spans.{Piece, next_landing, piece_at, piece_length, request_of}
use Rattle.protocol.specs.EndWords.{EndStep, stays}
use Rattle.protocol.specs.Memory.{landed, region_of_key, written}
use Rattle.protocol.specs.Numbers.{unwrap_near}
use Rattle.protocol.specs.Requester.{advanced, barrier, is_this_piece, landing, old_bytes, response_at, takes_landing, takes_piece, takes_response, telling, useless}
use Rattle.protocol.specs.State.{Context, End, Link, Sender}
use Rattle.protocol.specs.Wire.{Packet, is_read_response}
use Rattle.rdma_types.proofs.Places.{landing_lands, request_of_piece}
use Rattle.law_devices.specs.Sound.{IsGrantedTo, IsSoundContext, IsSoundLink, IsSoundRequest, plan_of, plans}
use Rattle.law_devices.proofs.Ends.{Bytes, Stays, bytes-written}
use Rattle.law_devices.proofs.Regions.{All-at, IsPlace, at_key, granted-cases, region_at}
use Rattle.law_devices.proofs.Rooms.{IsHere, end-sound}
use Rattle.law_devices.proofs.Working as working
use Rattle.law_devices.proofs.Working.{Good, linked-sound}

-- ---- granted places

-- some bytes of a granted place are in the region of its key
pub granted-place : (rs : List Region) (domain : Name) (lkey at' count : ℕ) (right : Right) (a n : ℕ) → AllPairs (λ x y. x ≢ y) (map local_key rs) → IsGrantedTo (plans rs) domain lkey at' count right → 0 < count → at' ≤ a → a + n ≤ at' + count
    → IsPlace rs lkey (a - (at local_key no_region lkey rs).base) n
granted-place rs domain lkey at' count right a n apart granted some low high = elim (granted-cases (plans rs) domain lkey at' count right granted) [
  | inl none ↦ absurd (omega (arith, none, some))
  | inr g ↦
      let mine = region_at rs g.i g.region g.there in
      let key : mine.0.keys.local ≡ lkey = ap (λ (z : Region). z.keys.local) mine.2 ∙ g.grants.same_key in
      let found : at local_key no_region lkey rs ≡ mine.0 = ap (λ k. at local_key no_region k rs) (sym key) ∙ at_key rs g.i mine.0 apart mine.1 in
      let base : (at local_key no_region lkey rs).base ≡ g.region.base = ap (λ (z : Region). z.base) found ∙ ap (λ (z : Region). z.base) mine.2 in
      let size : mine.0.length ≡ g.region.length = ap (λ (z : Region). z.length) mine.2 in
      record { i = g.i; region = mine.0; there = mine.1; key = key; inside = omega (arith, base, size, g.grants.low, g.grants.high, low, high) }
]

pub nothing_long : (xs : List ℕ) → length xs ≡ 0 → xs ≡ []
nothing_long [] h = refl
nothing_long (x ∷ xs) h = absurd (omega (arith, h))

-- bytes land in a granted place
pub bytes-landed : (c : Context) (domain : Name) (lkey at' count : ℕ) (right : Right) (a : ℕ) (bytes : List ℕ) → IsSoundContext c → IsGrantedTo (plans c.regions) domain lkey at' count right → at' ≤ a → (0 < length bytes → a + length bytes ≤ at' + count)
    → Bytes c (landed c lkey a bytes)
unfolding landed region_of_key
bytes-landed c domain lkey at' count right a bytes s granted low high = bytes-written c lkey (a - (at local_key no_region lkey c.regions).base) bytes s (place (cases_lt 0 (length bytes)))
  where
    place : (0 < length bytes) ⊎ (length bytes ≤ 0) → (bytes ≡ []) ⊎ IsPlace c.regions lkey (a - (at local_key no_region lkey c.regions).base) (length bytes)
    place (inl some) = inr (granted-place c.regions domain lkey at' count right a (length bytes) s.parts.keys granted (omega (arith, some, high some, low)) low (high some))
    place (inr none) = inl (nothing_long bytes (omega (arith, none)))

pub word_length : (n : ℕ) → length (word_bytes n) ≡ 8
unfolding word_bytes
word_length n = refl

pub old_few : (o : Option ℕ) → length (old_bytes o) ≤ 8
old_few None = omega arith
old_few (Some n) = omega (arith, word_length n)

-- what lands and is no Read is a word
pub lands_word : (k : Kind) → lands k ≡ true → is_read k ≡ false → is_atomic k ≡ true
lands_word Write l r = absurd (cc)
lands_word Send l r = absurd (cc)
lands_word Read l r = absurd (cc)
lands_word CompareSwap l r = refl
lands_word FetchAdd l r = refl

-- ---- responses

module _ (c : Context) (e : End) (l : Link) (s : IsSoundContext c) (here : IsHere c e) (there : e.link ≡ Some l) (alive : l.ended ≡ false) (d : Packet) where
  abbrev Fine : EndStep → Type 0
  Fine = Good c e l s here there

  my_request : (n : ℕ) (x : Piece) → piece_at l.sender.untold l.terms.mtu n ≡ Some x → IsSoundRequest (plans c.regions) e.domain x.posted
  my_request n x h = All-at (IsSoundRequest (plans c.regions) e.domain) l.sender.untold (request_of l.sender.untold l.terms.mtu n) x.posted (linked-sound c e l s here there).sender.requests (request_of_piece l.sender.untold l.terms.mtu n x h)

  both : (a b : Bool) → (a && b) ≡ true → (a ≡ true) × (b ≡ true)
  both true true h = (refl, refl)
  both true false h = absurd (cc)
  both false b h = absurd (cc)

  length_is : (a b : ℕ) → (a == b) ≡ true → a ≡ b
  length_is a b h = grind (arith, nat_tests, h)

  less_is : (a b : ℕ) → nat_lt a b ≡ true → a < b
  less_is a b h = grind (arith, nat_tests, h)

  piece_bytes : (x : Piece) → IsSoundRequest (plans c.regions) e.domain x.posted → lands (kind_of x.posted) ≡ true → is_this_piece l d x ≡ true → Bytes c (landing c l d x)
  piece_bytes x r lands' this = by_test (is_read (kind_of x.posted)) refl this
    where
      granted : IsGrantedTo (plans c.regions) e.domain x.posted.request.lkey x.posted.request.local x.posted.request.shape.length LocalWrite
      granted = subst (λ b. IsGrantedTo (plans c.regions) e.domain x.posted.request.lkey x.posted.request.local x.posted.request.shape.length (if b then LocalWrite else NoRight)) lands' r.granted

      by_test : (b : Bool) → is_read (kind_of x.posted) ≡ b → (if b then is_read_response d.opcode && length d.payload == piece_length x.posted.request.shape.length x.k l.terms.mtu else d.opcode == 0x12) ≡ true
          → Bytes c (if b then landed c x.posted.request.lkey (x.posted.request.local + x.k * l.terms.mtu) d.payload else landed c x.posted.request.lkey x.posted.request.local (old_bytes d.old))
      by_test true t h =
          let size : length d.payload ≡ piece_length x.posted.request.shape.length x.k l.terms.mtu = length_is (length d.payload) (piece_length x.posted.request.shape.length x.k l.terms.mtu) (both (is_read_response d.opcode) (length d.payload == piece_length x.posted.request.shape.length x.k l.terms.mtu) h).1 in
          bytes-landed c e.domain x.posted.request.lkey x.posted.request.local x.posted.request.shape.length LocalWrite (x.posted.request.local + x.k * l.terms.mtu) d.payload s granted (omega arith) (λ some. omega (arith, size, some))
      by_test false t h =
          let word : x.posted.request.shape.length ≡ 8 = r.shape.word (lands_word (kind_of x.posted) lands' t) in
          bytes-landed c e.domain x.posted.request.lkey x.posted.request.local x.posted.request.shape.length LocalWrite x.posted.request.local (old_bytes d.old) s granted (omega arith) (λ some. omega (arith, word, old_few d.old))

  piece_good : (n : ℕ) → n < l.sender.top → (o : Option Piece) → ((x : Piece) → o ≡ Some x → IsSoundRequest (plans c.regions) e.domain x.posted × (lands (kind_of x.posted) ≡ true)) → Fine (takes_piece c e l d n o)
  unfolding takes_piece
  piece_good n below None known = working.still c e l s here there _ refl
  piece_good n below (Some x) known =
      working.test_good c e l s here there (is_this_piece l d x) (stays (telling (landing c l d x) e l (advanced l.sender (n + 1))) took.Landed) (useless c)
      (λ t. record { goes = working.telling_good c e l s here there alive (landing c l d x) (advanced l.sender (n + 1)) (piece_bytes x (known x refl).0 (known x refl).1 t) (working.advanced_at c e l s here there alive (n + 1) (omega (arith, below))) (working.advanced_calm c e l s here there alive (n + 1)) })
      (λ t. working.still c e l s here there _ refl)

  landing_good : (n : ℕ) → Fine (takes_landing c e l d n)
  unfolding takes_landing barrier
  landing_good n =
      working.test_good c e l s here there (n == barrier l.terms l.sender && nat_lt n l.sender.top) (takes_piece c e l d n (piece_at l.sender.untold l.terms.mtu (n - l.sender.first))) (useless c)
      (λ t. piece_good n (less_is n l.sender.top (both _ _ t).1) (piece_at l.sender.untold l.terms.mtu (n - l.sender.first)) (known (length_is n _ (both _ _ t).0)))
      (λ t. working.still c e l s here there _ refl)
    where
      known : n ≡ l.sender.first + next_landing l.sender.untold l.terms.mtu (l.sender.una - l.sender.first) → (x : Piece) → piece_at l.sender.untold l.terms.mtu (n - l.sender.first) ≡ Some x → IsSoundRequest (plans c.regions) e.domain x.posted × (lands (kind_of x.posted) ≡ true)
      known is x h =
          let place : n - l.sender.first ≡ next_landing l.sender.untold l.terms.mtu (l.sender.una - l.sender.first) = omega (arith, is) in
          (my_request (n - l.sender.first) x h, landing_lands l.sender.untold l.terms.mtu (l.sender.una - l.sender.first) x (ap (piece_at l.sender.untold l.terms.mtu) (sym place) ∙ h))

  response_at_good : (o : Option ℕ) → Fine (response_at c e l d o)
  response_at_good None = working.still c e l s here there _ refl
  response_at_good (Some n) = working.if_good c e l s here there (is_read_response d.opcode || d.opcode == 0x12) _ _ (landing_good n) (working.aeth_good c e l s here there alive n d.aeth)

  pub response_good : Fine (takes_response c e l d)
  unfolding takes_response
  response_good = response_at_good (unwrap_near l.terms.own_start d.psn l.sender.una)
