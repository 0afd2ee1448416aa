-- An end of the machine stays sound where its owner learns more, and where it fails.
use Rattle.std.proofs.Common.{arith, ◌≡◌, ◌≤◌, ◌+◌, ◌-◌, ℕ, List, length, true, false, refl, sym, ap, ◌∙◌, subst}
use Rattle.std.specs.Prelude.{All, drop}
use Rattle.std.proofs.lemmas.List.{drop-drop, drop_all}
use Rattle.std.proofs.lemmas.List.Elements.{All-nil, All-drop, All-weaker}
use Rattle.rdma_types.specs.declared.names.Name.{Name}
use Rattle.rdma_types.specs.Kinds.{is_atomic, kind_of, lands, size_of}
use Rattle.rdma_types.specs.Memory.{is_granted, landing_right, local_key}
use Rattle.rdma_types.specs.Objects.{Region}
use Rattle.packetless_machine.specs.Machine.{End, posted_at, untold_count}
use Rattle.packetless_machine.specs.Sound.{IsSound, IsOfferOf}
use Rattle.packetless_machine.specs.Steps.{closed, in_place, untold}
use Rattle.law_simulation.specs.Stands.{IsEndSound}
use Rattle.law_simulation.proofs.sending.GoEnd.{gone_end}

-- so many requests are told of the end f in Rts, and its owner knows so many bytes of the next one
pub record MayKnow (f : End) (told known : ℕ) : Type 0 where
  pub more : f.told ≤ told
  pub acted : told ≤ f.acted
  pub there : lands (kind_of (posted_at f.posted told)) ≡ false → known ≤ in_place f told
  pub within : known ≤ size_of (posted_at f.posted told)
  pub unlanded : lands (kind_of (posted_at f.posted told)) ≡ true → told ≡ f.acted → known ≡ 0
  pub whole : is_atomic (kind_of (posted_at f.posted told)) ≡ true → known ≡ 0

-- what it knows already
pub known_already : (f : End) → IsSound f → f.ended ≡ false → MayKnow f f.told f.known
known_already f s alive = record {
  more = omega arith;
  acted = s.told_acted alive;
  there = s.known_there alive;
  within = s.known_within;
  unlanded = s.unlanded;
  whole = s.whole_atomics;
}

-- what is untold later
pub later_untold : (f : End) (told : ℕ) → f.told ≤ told → drop told f.posted ≡ drop (told - f.told) (untold f)
unfolding untold
later_untold f told more =
    let all : f.told + (told - f.told) ≡ told = omega (arith, more) in
    ap (λ k. drop k f.posted) (sym all) ∙ sym (drop-drop (told - f.told) f.told f.posted)

pub gone_sound : (regions : List Region) (names : List Name) (f : End) (told known spent waits : ℕ) → f.connected ≡ true → f.ended ≡ false → MayKnow f told known → IsEndSound regions names f → IsEndSound regions names (gone_end f told known spent waits f.ended)
unfolding in_place untold untold_count
gone_sound regions names f told known spent waits connected alive k s = record {
  sound = record {
    acted_posted = s.sound.acted_posted;
    told_posted = omega (arith, k.acted, s.sound.acted_posted);
    told_acted = λ h. k.acted;
    over = λ h. absurd (cc (alive, h));
    unfinished = s.sound.unfinished;
    whole_turns = s.sound.whole_turns;
    known_there = λ h. k.there;
    known_within = k.within;
    unlanded = k.unlanded;
    whole_atomics = k.whole;
    replies = s.sound.replies;
    answered = s.sound.answered;
    offers = All-weaker (IsOfferOf f) (IsOfferOf (gone_end f told known spent waits f.ended)) (λ o h. record { acted = h.acted; reads = h.reads; inside = h.inside }) f.offers s.sound.offers;
    sizes = s.sound.sizes;
    depth = omega (arith, s.sound.depth, k.more);
    receive_depth = s.sound.receive_depth;
  };
  made = λ h. absurd (cc (connected, h));
  depth = s.depth;
  send_queue = s.send_queue;
  receive_queue = s.receive_queue;
  requests = subst (All (λ r. is_granted local_key regions f.domain r.request.lkey r.request.local (size_of r) (landing_right (kind_of r)) ≡ true)) (sym (later_untold f told k.more))
      (All-drop (λ r. is_granted local_key regions f.domain r.request.lkey r.request.local (size_of r) (landing_right (kind_of r)) ≡ true) (told - f.told) (untold f) s.requests);
  receives = s.receives;
}

pub closed_sound : (regions : List Region) (names : List Name) (f : End) → f.connected ≡ true → IsEndSound regions names f → IsEndSound regions names (closed f)
unfolding closed in_place untold untold_count
closed_sound regions names f connected s = record {
  sound = record {
    acted_posted = s.sound.acted_posted;
    told_posted = omega arith;
    told_acted = λ h. absurd (cc);
    over = λ h. refl;
    unfinished = s.sound.unfinished;
    whole_turns = s.sound.whole_turns;
    known_there = λ h. absurd (cc);
    known_within = omega arith;
    unlanded = λ h e. refl;
    whole_atomics = λ h. refl;
    replies = s.sound.replies;
    answered = s.sound.answered;
    offers = All-weaker (IsOfferOf f) (IsOfferOf (closed f)) (λ o h. record { acted = h.acted; reads = h.reads; inside = h.inside }) f.offers s.sound.offers;
    sizes = s.sound.sizes;
    depth = omega arith;
    receive_depth = omega arith;
  };
  made = λ h. absurd (cc (connected, h));
  depth = s.depth;
  send_queue = s.send_queue;
  receive_queue = s.receive_queue;
  requests = subst (All (λ r. is_granted local_key regions f.domain r.request.lkey r.request.local (size_of r) (landing_right (kind_of r)) ≡ true)) (sym (drop_all (length f.posted) f.posted (omega arith))) (All-nil _);
  receives = All-nil _;
}
