-- A transmission as a context makes it.
use Rattle.std.proofs.Common.{◌≡◌, ℕ, zero, suc, ◌<◌, ◌≤◌, List, [], ◌∷◌, length, refl, ap, sym, ◌∙◌, subst, arith}
use Rattle.std.specs.Prelude.{Option, Some, None, IfSome, IsSome, bytes_eq, option_map, position, slice_get}
use Rattle.std.specs.Map.{keys_of, values_of}
use Rattle.rdma_types.specs.declared.names.Name.{Name}
use Rattle.rdma_types.specs.declared.requests.Address.{Address}
use Rattle.page_pool.specs.Pool.{Pool}
use Rattle.memory_keys.specs.declared.RegisteredRegion.{RegisteredRegion}
use Rattle.protocol.specs.DeviceStep.{gives, transmits, with_context}
use Rattle.protocol.specs.State.{Context, Device, end_at as end_named}
use Rattle.endpoint_core.specs.declared.answers.EndSend.{EndSend}
use Rattle.endpoint_core.specs.declared.end.Endpoint.{Endpoint}
use Rattle.endpoint_core.specs.declared.end.EndLink.{EndLink}
use Rattle.endpoint_core.specs.Answers.{IsPacketOf, row_in, sent_at, transmission_at}
use Rattle.endpoint_core.specs.Ends.{Names, link_in, untold_by}
use Rattle.endpoint_core.specs.Queues.{nothing}
use Rattle.endpoint_core.specs.Sites.{IsHome, EndWithMemory, end_at, home}
use Rattle.endpoint_core.specs.Sound.{IsEnd, IsLinked}
use Rattle.endpoint_core.proofs.Frames.{link-of}
use Rattle.context_core.specs.declared.sending.Route.{Route}
use Rattle.context_core.specs.declared.state.EndSlot.{EndSlot}
use Rattle.context_core.specs.Context.{Holding, IsContext, context_in, end_of, names_in, site_in}
use Rattle.context_core.specs.Sending.{row_answer, row_sent}
use Rattle.context_core.specs.Transmitting.{IsSending, IsRoute}
use Rattle.context_core.proofs.EndsByName.{end-found}
use Rattle.context_core.proofs.TransmittedPackets.{mtu-small, transmits-is}
use Rattle.context_core.proofs.EndSteps.{after}
use Rattle.context_core.proofs.EndStepCalls.{Steps, end-sound, entry, entry-there}

-- a connection that is there
pub some-of : (o : Option EndLink) → IsSome o → (l : EndLink) × (o ≡ Some l)
some-of None s = absurd (cc)
some-of (Some l) s = (l, refl)

pub way-there : (es : List (Name × EndSlot)) (i : ℕ) (v : EndSlot) (l : EndLink) (way : Route) → slice_get (values_of es) i ≡ Some v → v.endpoint.link ≡ Some l → IfSome (slice_get es i) (λ e. IfSome e.1.endpoint.link (IsRoute way)) → IsRoute way l
way-there es i v l way value is h =
    subst (λ o. IfSome o (IsRoute way)) is (subst (λ o. IfSome o (λ e. IfSome e.1.endpoint.link (IsRoute way))) (entry-there es i v value) h)

-- a place within a list has an entry
place-there : (es : List (Name × EndSlot)) (i : ℕ) → i < length es → slice_get es i ≡ None → ⊥
place-there [] i l e = omega (arith, l)
place-there (x ∷ xs) zero l e = let odd : Some x ≡ None = e in absurd (cc)
place-there (x ∷ xs) (suc i) l e = place-there xs i (omega arith) e

-- the payloads of a connected end fit a page
pub way-small : (pool : Pool) (h : Holding) (i : ℕ) (way : Route) → IsContext pool h → i < length h.ends → IfSome (slice_get h.ends i) (λ e. IsSome e.1.endpoint.link) → IfSome (slice_get h.ends i) (λ e. IfSome e.1.endpoint.link (IsRoute way)) → way.mtu ≤ 4096
way-small pool h i way is inside linked ways = by (slice_get h.ends i) refl linked ways
  where
    by_link : (e : Name × EndSlot) → slice_get h.ends i ≡ Some e → (o : Option EndLink) → e.1.endpoint.link ≡ o → IsSome o → IfSome o (IsRoute way) → way.mtu ≤ 4096
    by_link e there None none some w = absurd (cc)
    by_link e there (Some l) linked' some w =
        let terms = (link-of pool h.regions e.1.endpoint l (end-sound pool h nothing i e is.is there).end linked').terms in
        subst (λ (x : Route). x.mtu ≤ 4096) (sym w.is) (mtu-small l.terms.mtu terms.mtu)

    by : (o : Option (Name × EndSlot)) → slice_get h.ends i ≡ o → IfSome o (λ e. IsSome e.1.endpoint.link) → IfSome o (λ e. IfSome e.1.endpoint.link (IsRoute way)) → way.mtu ≤ 4096
    by None none l w = absurd (place-there h.ends i inside none)
    by (Some e) there l w = by_link e there e.1.endpoint.link refl l w

module _ (pool : Pool) (h : Holding) (i : ℕ) (v : EndSlot) (x : Endpoint) (s : EndSend) (l : EndLink) (is : IsContext pool h) (value : slice_get (values_of h.ends) i ≡ Some v) (linked : v.endpoint.link ≡ Some l) where
  sound : IsEnd pool h.regions v.endpoint
  sound = (end-sound pool h nothing i (entry h.ends i v) is.is (entry-there h.ends i v value)).end

  link : IsLinked pool h.regions v.endpoint l
  link = link-of pool h.regions v.endpoint l sound linked

  pub sending-is : (way : Route) → IsRoute way l → untold_by x.link ≡ untold_by v.endpoint.link → ((pool : Pool) (held : List RegisteredRegion) → IsEnd pool held v.endpoint → IfSome v.endpoint.link (λ l. IsPacketOf pool l s)) → IsSending pool x way s l
  sending-is way is-way untold packet = record {
    held = h.regions;
    domain = v.endpoint.domain;
    way_is = is-way;
    items = untold ∙ ap untold_by linked;
    posted = link.posted;
    terms = link.terms;
    packet = subst (λ o. IfSome o (λ l. IsPacketOf pool l s)) linked (packet pool h.regions sound);
  }

  pub sends-is : (n : Name) (d : Device) (name : Name) (own : Address) → d.address ≡ own → with_context d (context_in pool n h) ≡ d → position (bytes_eq name) (keys_of h.ends) ≡ Some i
      → Steps pool pool h i v h.regions h.queues x
      → ((pool : Pool) (held : List RegisteredRegion) → IsEnd pool held v.endpoint → transmission_at (option_map (link_in pool) v.endpoint.link) ≡ row_in pool v.endpoint.link s)
      → ((t : EndWithMemory) → t.end ≡ v.endpoint → IsEnd t.pool t.held v.endpoint → (c : Context) (names : Names) → IsHome c names t → sent_at c (end_at names t) (end_at names t).link ≡ home c names (record t { end = x }))
      → transmits d (context_in pool n h) (end_named (context_in pool n h) name) ≡ gives (with_context d (context_in pool n (after h i (entry h.ends i v) h.regions h.queues x))) (row_answer (row_in pool (Some l) s)) (row_sent (link_in pool l) own (row_in pool (Some l) s))
  unfolding context_in
  sends-is n d name own at same place st row step =
      let c : Context = context_in pool n h in
      let e = entry h.ends i v in
      let found = end-found pool h.queues h.ends name i e is.is.end_names place (entry-there h.ends i v value) in
      let shown = ap (option_map (link_in pool)) linked in
      let row' = subst (λ o. transmission_at (option_map (link_in pool) o) ≡ row_in pool o s) linked (row pool h.regions sound) in
      let stepped = sym (ap (λ o. sent_at c (end_of pool h.queues e) o) shown) ∙ (step (site_in pool h e) refl sound c (names_in h.queues e) (st.stands n) ∙ st.shown n) in
      ap (transmits d c) found.end
      ∙ (transmits-is d c (end_of pool h.queues e) (link_in pool l) own shown at same (st.stands n).there
      ∙ (ap (λ t. gives (with_context d (sent_at c (end_of pool h.queues e) (Some (link_in pool l)))) (row_answer t) (row_sent (link_in pool l) own t)) row'
      ∙ ap (λ k. gives (with_context d k) (row_answer (row_in pool (Some l) s)) (row_sent (link_in pool l) own (row_in pool (Some l) s))) stepped))
