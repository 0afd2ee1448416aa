-- An end is sound by its requests: what else it has may differ.
use Rattle.std.proofs.Common.{◌≡◌, ◌≤◌, ◌<◌, ◌⊎◌, ℕ, suc, length}
use Rattle.std.specs.Prelude.{All, slice_get}
use Rattle.std.proofs.lemmas.List.Elements.{All-weaker}
use Rattle.packetless_machine.specs.Machine.{End, posted_at, untold_count}
use Rattle.packetless_machine.specs.Sound.{IsSound, IsOfferOf, IsReplyTo, IsDenial}
use Rattle.packetless_machine.specs.Steps.{in_place}

-- an end with the requests of e, and with the connection, the answers, the offers and the receives of e'
abbrev pub requests_in : End → End → End
requests_in e e' = record e { connected = e'.connected; peer = e'.peer; mtu = e'.mtu; retry = e'.retry; rnr = e'.rnr; answers = e'.answers; offers = e'.offers; dry = e'.dry; spent = e'.spent; waits = e'.waits; unused = e'.unused; in_use = e'.in_use }

-- .. is sound where those answers, offers and receives are
pub answered_sound : (e e' : End) → ((i : ℕ) → i < e.acted → IsReplyTo (posted_at e.posted i) (slice_get e'.answers i)) → (length e'.answers ≡ e.acted) ⊎ ((length e'.answers ≡ suc e.acted) × IsDenial (slice_get e'.answers e.acted)) → All (IsOfferOf e) e'.offers → length e'.unused ≤ e.receive_depth → IsSound e → IsSound (requests_in e e')
unfolding in_place untold_count
answered_sound e e' replies answered offers few s = record {
  acted_posted = s.acted_posted;
  told_posted = s.told_posted;
  told_acted = s.told_acted;
  over = s.over;
  unfinished = s.unfinished;
  whole_turns = s.whole_turns;
  known_there = s.known_there;
  known_within = s.known_within;
  unlanded = s.unlanded;
  whole_atomics = s.whole_atomics;
  replies = replies;
  answered = answered;
  offers = All-weaker (IsOfferOf e) (IsOfferOf (requests_in e e')) (λ o h. record { acted = h.acted; reads = h.reads; inside = h.inside }) e'.offers offers;
  sizes = s.sizes;
  depth = s.depth;
  receive_depth = few;
}

-- the same with the answers of e
pub sound_still : (e e' : End) → All (IsOfferOf e) e'.offers → length e'.unused ≤ e.receive_depth → IsSound e → IsSound (requests_in e (record e' { answers = e.answers }))
sound_still e e' offers few s = answered_sound e (record e' { answers = e.answers }) s.replies s.answered offers few s
