-- Where the contexts are those that the opening made, a device has pages for one more message, and a sender's queue has room for one
-- more request once it was polled.
use Rattle.std.proofs.Common.{arith, ◌≡◌, ◌≢◌, ℕ, ◌+◌, ◌≤◌, List, ◌∷◌, length, map, true, false, Bool, refl, sym, subst, ap, ◌∙◌, ◌⊎◌, inl, inr, le-ltb}
use Rattle.std.specs.Prelude.{All, bytes_eq, count_by, flat_map, if◌then◌else◌, not, ◌&&◌, ◌||◌}
use Rattle.std.proofs.lemmas.List.{length-map}
use Rattle.std.proofs.lemmas.List.Elements.{All-map, All-weaker}
use Rattle.rdma_types.specs.declared.names.Name.{Name}
use Rattle.rdma_types.specs.declared.requests.Request.{Request}
use Rattle.rdma_types.specs.Kinds.{takes_bytes}
use Rattle.rdma_types.specs.Limits.{most_bytes}
use Rattle.rdma_types.specs.Lists.{has_name, has_word}
use Rattle.rdma_types.specs.Objects.{Region}
use Rattle.protocol.specs.EndWords.{is_in_error}
use Rattle.protocol.specs.Images as images
use Rattle.protocol.specs.Memory.{free_pages, pages_of_context, pages_of_length, pages_of_request}
use Rattle.protocol.specs.Refusals.{lacks_pages}
use Rattle.protocol.specs.State as state
use Rattle.protocol.specs.State.{Device}
use Rattle.protocol.specs.WorldStep.{home, is_live}
use Rattle.packetless_machine.specs.Machine as machine
use Rattle.packetless_machine.specs.Machine.{Machine}
use Rattle.law_simulation.specs.Views.{context_of, contexts_of, owned, owned_there}
use Rattle.law_simulation.proofs.relation.Tables.{name-named, name_tells}
use Rattle.law_simulation.proofs.relation.Worlds.{has_context_is, holds_it, home_found, is_there}
use Rattle.mailbox_rules.specs.Histories.{Turn}
use Rattle.mailbox_rules.specs.Opening.{numbered, place_bytes, receiver, sender}
use Rattle.mailbox_rules.specs.State.{Mail}
use Rattle.law_mailbox.specs.Answered.{IsFurnished, Plan, for_each, plan_of}
use Rattle.law_mailbox.specs.Held.{IsHeld}
use Rattle.law_mailbox.specs.Kept.{landing_offset}
use Rattle.law_mailbox.proofs.queue_room.Counts.{count_both}
use Rattle.law_mailbox.proofs.queue_room.Light.{all_light}
use Rattle.law_mailbox.proofs.connection.Listed.{IsOfOne, all_by_name, counted_names, for_each_long, for_each_same, of_one}
use Rattle.law_mailbox.proofs.opening.Pages.{IsLight, context_pages, counted_found, most_pages, of_found, small_pages}
use Rattle.law_mailbox.proofs.connection.Places.{all_front, all_of_map}

-- ---- pages of regions

receiver_region_pages : (n : ℕ) → n ≡ landing_offset + most_bytes → pages_of_length n ≤ 272
unfolding pages_of_length
receiver_region_pages n e = omega (arith, e)

sender_region_pages : (n : ℕ) → n ≡ place_bytes + most_bytes → pages_of_length n ≤ 257
unfolding pages_of_length
sender_region_pages n e = omega (arith, e)

module _ (peers : ℕ) (small : peers ≤ 8) (ts : List Turn) (m : Mail) (h : IsHeld peers ts m) (furnished : IsFurnished peers h.machine) where
  abbrev mine : Machine
  mine = h.machine

  -- ---- each context

  light_there : (c : Name) → All (λ e. IsLight (owned_there e)) (context_of m.world c).ends
  light_there c =
      all_of_map IsLight owned_there (context_of m.world c).ends
      (subst (All IsLight) (sym (h.stands.same c).ends) (All-map IsLight owned (machine.context_of h.machine c).ends (all_light peers ts m h.machine h.all h.stands c)))

  lengths_there : (c : Name) → map (λ r. r.length) (context_of m.world c).regions ≡ (plan_of (machine.context_of h.machine c)).regions
  lengths_there c = ap (λ (rs : List Region). map (λ r. r.length) rs) (h.stands.same c).regions

  ends_there : (c : Name) → length (context_of m.world c).ends ≡ length (plan_of (machine.context_of h.machine c)).ends
  ends_there c =
      let same = ap length (h.stands.same c).ends in
      let there : length (map owned_there (context_of m.world c).ends) ≡ length (context_of m.world c).ends = length-map (context_of m.world c).ends owned_there in
      let here : length (map owned (machine.context_of h.machine c).ends) ≡ length (machine.context_of h.machine c).ends = length-map (machine.context_of h.machine c).ends owned in
      let names : length (map (λ e. e.name) (machine.context_of h.machine c).ends) ≡ length (machine.context_of h.machine c).ends = length-map (machine.context_of h.machine c).ends (λ e. e.name) in
      omega (arith, same, there, here, names)

  at_receiver : pages_of_context (context_of m.world receiver) ≤ 2432
  at_receiver =
      let lengths : map (λ r. r.length) (context_of m.world receiver).regions ≡ for_each (λ i. landing_offset + most_bytes) peers = lengths_there receiver ∙ ap (λ (p : Plan). p.regions) furnished.at_receiver in
      let regions : All (λ (r : Region). r.length ≡ landing_offset + most_bytes) (context_of m.world receiver).regions =
      all_of_map (λ n. n ≡ landing_offset + most_bytes) (λ r. r.length) (context_of m.world receiver).regions (subst (All (λ n. n ≡ landing_offset + most_bytes)) (sym lengths) (for_each_same (landing_offset + most_bytes) peers)) in
      let few : length (context_of m.world receiver).regions ≡ peers = sym (length-map (context_of m.world receiver).regions (λ r. r.length)) ∙ (ap length lengths ∙ for_each_long (λ i. landing_offset + most_bytes) peers) in
      let ends : length (context_of m.world receiver).ends ≡ peers = ends_there receiver ∙ (ap (λ (p : Plan). length p.ends) furnished.at_receiver ∙ for_each_long (numbered 113) peers) in
      let most = context_pages (context_of m.world receiver) 272 (All-weaker (λ (r : Region). r.length ≡ landing_offset + most_bytes) (λ r. pages_of_length r.length ≤ 272) (λ r e. receiver_region_pages r.length e) (context_of m.world receiver).regions regions) (light_there receiver) in
      omega (arith, most, few, ends, small)

  at_sender : (i : ℕ) → 1 ≤ i → i ≤ peers → pages_of_context (context_of m.world (sender i)) ≤ 289
  at_sender i low high =
      let lengths : map (λ r. r.length) (context_of m.world (sender i)).regions ≡ for_each (λ k. place_bytes + most_bytes) 1 = lengths_there (sender i) ∙ ap (λ (p : Plan). p.regions) (furnished.at_sender i low high) in
      let regions : All (λ (r : Region). r.length ≡ place_bytes + most_bytes) (context_of m.world (sender i)).regions =
      all_of_map (λ n. n ≡ place_bytes + most_bytes) (λ r. r.length) (context_of m.world (sender i)).regions (subst (All (λ n. n ≡ place_bytes + most_bytes)) (sym lengths) (for_each_same (place_bytes + most_bytes) 1)) in
      let few : length (context_of m.world (sender i)).regions ≡ 1 = sym (length-map (context_of m.world (sender i)).regions (λ r. r.length)) ∙ ap length lengths in
      let ends : length (context_of m.world (sender i)).ends ≡ 1 = ends_there (sender i) ∙ ap (λ (p : Plan). length p.ends) (furnished.at_sender i low high) in
      let most = context_pages (context_of m.world (sender i)) 257 (All-weaker (λ (r : Region). r.length ≡ place_bytes + most_bytes) (λ r. pages_of_length r.length ≤ 257) (λ r e. sender_region_pages r.length e) (context_of m.world (sender i)).regions regions) (light_there (sender i)) in
      omega (arith, most, few, ends)

  -- ---- all of them

  abbrev IsBounded : state.Context → Type 0
  IsBounded x = (has_word x.name (receiver ∷ for_each sender peers) ≡ true) × (pages_of_context x ≤ 289 + (if bytes_eq x.name receiver then 2143 else 0))

  is_named : (c : Name) → (context_of m.world c).name ≡ c
  unfolding context_of
  is_named c = name-named (λ x. x.name) (record state.no_context { name = c }) c (contexts_of m.world) refl

  is_known : (c : Name) → has_name (λ x. x.name) c (contexts_of m.world) ≡ true → has_word c (receiver ∷ for_each sender peers) ≡ true
  is_known c there = furnished.contexts c (is_there m.world h.machine c h.stands.placed ∙ (sym (has_context_is m.world c) ∙ there))

  few_pages : (c : Name) → has_word c (receiver ∷ for_each sender peers) ≡ true → pages_of_context (context_of m.world c) ≤ 289 + (if bytes_eq c receiver then 2143 else 0)
  unfolding has_name
  few_pages c known = by (name_tells receiver c) known
    where
      of_sender : IsOfOne sender peers c → pages_of_context (context_of m.world c) ≤ 289 + (if bytes_eq c receiver then 2143 else 0)
      of_sender x = let few = subst (λ (n : Name). pages_of_context (context_of m.world n) ≤ 289) (sym x.same) (at_sender x.i x.low x.high) in omega (arith, few)

      by : ((bytes_eq receiver c ≡ true) × (receiver ≡ c)) ⊎ ((bytes_eq receiver c ≡ false) × (receiver ≢ c)) → (bytes_eq receiver c || has_word c (for_each sender peers)) ≡ true →
          pages_of_context (context_of m.world c) ≤ 289 + (if bytes_eq c receiver then 2143 else 0)
      by (inl t) f = subst (λ (n : Name). pages_of_context (context_of m.world n) ≤ 289 + (if bytes_eq n receiver then 2143 else 0)) t.1 (omega (arith, at_receiver))
      by (inr t) f = of_sender (of_one sender peers c (sym (ap (λ (b : Bool). b || has_word c (for_each sender peers)) t.0) ∙ f))

  each_bounded : (c : Name) → has_name (λ x. x.name) c (contexts_of m.world) ≡ true → IsBounded (context_of m.world c)
  each_bounded c there =
      subst (λ (n : Name). (has_word n (receiver ∷ for_each sender peers) ≡ true) × (pages_of_context (context_of m.world c) ≤ 289 + (if bytes_eq n receiver then 2143 else 0))) (sym (is_named c)) (is_known c there, few_pages c (is_known c there))

  once : (c : Name) → count_by (λ x. bytes_eq x.name c) (contexts_of m.world) ≤ 1
  once c = subst (λ (n : ℕ). n ≤ 1) (sym (counted_names (λ x. x.name) c (contexts_of m.world))) (h.stands.placed.once c)

  all_bounded : All IsBounded (contexts_of m.world)
  unfolding context_of
  all_bounded = all_by_name IsBounded (λ x. x.name) (λ c. record state.no_context { name = c }) (contexts_of m.world) once each_bounded

  -- ---- the home of a context

  module _ (c : Name) (live : is_live m.world c ≡ true) where
    home_bounded : All IsBounded (home m.world c).contexts
    unfolding contexts_of
    home_bounded = of_found IsBounded (holds_it c) (home m.world c) m.world.devices (all_front IsBounded (flat_map (λ d. d.contexts) m.world.devices) (map images.context_of m.world.carried) all_bounded) (home_found m.world c live)

    home_once : (n : Name) → count_by (λ x. bytes_eq x.name n) (home m.world c).contexts ≤ 1
    unfolding contexts_of
    home_once n =
        let less = counted_found (λ x. bytes_eq x.name n) (holds_it c) (home m.world c) m.world.devices (home_found m.world c live) in
        omega (arith, less, once n, count_both (λ (x : state.Context). bytes_eq x.name n) (flat_map (λ d. d.contexts) m.world.devices) (map images.context_of m.world.carried))

    -- fewer than 8,192 pages are taken
    pages_free : 2 ≤ free_pages (home m.world c)
    unfolding free_pages
    pages_free =
        let taken = most_pages receiver 289 2143 (receiver ∷ for_each sender peers) (home m.world c).contexts (All-weaker IsBounded (λ x. pages_of_context x ≤ 289 + (if bytes_eq x.name receiver then 2143 else 0)) (λ x b. b.1) (home m.world c).contexts home_bounded)
        (All-weaker IsBounded (λ x. has_word x.name (receiver ∷ for_each sender peers) ≡ true) (λ x b. b.0) (home m.world c).contexts home_bounded) home_once in
        let names = for_each_long sender peers in
        omega (arith, taken, names, small)

    -- .. so there are some for a message that fits a place
    pub has_pages : (x : state.Context) (e : state.End) (r : Request) → (takes_bytes r.shape.kind ≡ true → r.shape.length ≤ place_bytes) → lacks_pages (home m.world c) x e r ≡ false
    has_pages x e r fits =
        let two = small_pages x r fits in
        let enough = le-ltb (free_pages (home m.world c)) (pages_of_request x r) (omega (arith, two, pages_free)) in
        neither (not (is_in_error e.link)) _ enough
      where
        neither : (a b : Bool) → b ≡ false → (a && b) ≡ false
        neither true b e = e
        neither false b e = refl
