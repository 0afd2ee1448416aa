-- What is told of live ends.
use Rattle.std.proofs.Common.{◌≡◌, ◌+◌, ◌<◌, ◌^◌, ℕ, List, [], ◌∷◌, ◌++◌, get_or, take, true, false, Bool, sym, ap, ◌∙◌, subst}
use Rattle.std.specs.Prelude.{All, Option, Some, None, IfSome, map, flat_map, option_map, slice_get, bytes_eq, if◌then◌else◌}
use Rattle.std.specs.Borrow.{Bor}
use Rattle.std.specs.Map.{lookup}
use Rattle.std.specs.Option.{option_copied}
use Rattle.std.proofs.lemmas.List.{flat_map_more}
use Rattle.std.proofs.lemmas.List.Elements.{All-head, All-nil, All-tail}
use Rattle.rdma_types.specs.declared.names.Name.{Name}
use Rattle.rdma_types.specs.declared.names.ObjName.{ObjName}
use Rattle.rdma_types.specs.Lists.{named}
use Rattle.page_pool.specs.Pool.{Pool}
use Rattle.protocol.specs.Refusals.{has_context}
use Rattle.protocol.specs.Requester.{end_of_queue}
use Rattle.protocol.specs.State.{Context, Device, End, Link, context_at, end_at, no_context, no_end}
use Rattle.context_core.specs.declared.lives.LinkView.{LinkView}
use Rattle.context_core.specs.declared.lives.LiveEnd.{LiveEnd}
use Rattle.context_core.specs.Context.{Holding, IsContext}
use Rattle.context_core.specs.Links.{SendByTerms, link_view, live_end}
use Rattle.context_core.proofs.ListPrefixes.{taken_on}
use Rattle.context_core.proofs.SettlingReaders.{sends-all}
use Rattle.law_devices.specs.Sound.{IsSoundContext, IsSoundDevice, IsSoundState, plans}
use Rattle.device_core.specs.Readings.{link_named}
use Rattle.device_core.proofs.Pairs.{All-found}
use Rattle.device_core.proofs.Stepping.{found-ref}
use Rattle.device_core.proofs.Withouts.{named-absent}

-- ---- each sends by its terms

-- .. in a context that is found
pub sends-held : (pool : Pool) (n : Name) (es : List (Name × Holding)) (o : Option (Bor Holding)) (s : Bor Holding) → All (λ e. IsContext pool e.1) es → o ≡ Some s → option_copied o ≡ lookup (bytes_eq n) es → SendByTerms s.now
sends-held pool n es o s each is found = sends-all pool s.now (All-found (bytes_eq n) (λ e. IsContext pool e.1) (λ h. IsContext pool h) (λ e h. h) es s.now each (found-ref o s (lookup (bytes_eq n) es) is found))

-- ---- all live ends

-- those of one context more
pub ends-more : (old : List LiveEnd) (cs : List Context) (i : ℕ) (c : Context) → slice_get cs i ≡ Some c →
    (old ++ flat_map (λ x. map (live_end x) x.ends) (take i cs)) ++ map (live_end c) c.ends ≡ old ++ flat_map (λ x. map (live_end x) x.ends) (take (i + 1) cs)
ends-more old cs i c at = flat_map_more (λ (x : Context). map (live_end x) x.ends) old (take i cs) c ∙ ap (λ xs. old ++ flat_map (λ x. map (live_end x) x.ends) xs) (taken_on cs i c at)

-- ---- the connection of an end

pub link-nowhere : (d : Device) (o : ObjName) → has_context d o.context ≡ false → None ≡ link_named d o
unfolding named
link-nowhere d o gone = sym (ap (λ (c : Context). option_map link_view (end_at c o.name).link) (named-absent (λ c. c.name) no_context o.context d.contexts gone))

-- its numbers are below the limit
abbrev IsBelow : Option Link → Type 0
IsBelow None = Unit {0}
IsBelow (Some l) = end_of_queue l.terms l.sender < 2 ^ 62

named-passes : {A : Type 0} (P : A → Type 0) (name : A → List ℕ) (none : A) (n : List ℕ) (xs : List A) → P none → All P xs → P (named name none n xs)
unfolding named
named-passes P name none n [] h all = h
named-passes {A} P name none n (x ∷ xs) h all = by (bytes_eq (name x) n) (All-head P x xs all) (named-passes P name none n xs h (All-tail P x xs all))
  where
    by : (b : Bool) → P x → P (named name none n xs) → P (if b then x else named name none n xs)
    by true p q = p
    by false p q = q

-- .. of a sound device
pub link-few : (d : Device) (o : ObjName) (r : Option LinkView) → IsSoundDevice d → r ≡ link_named d o → IfSome r (λ l. l.last < 2 ^ 62)
unfolding end_of_queue
link-few d o r sound is = subst (λ x. IfSome x (λ l. l.last < 2 ^ 62)) (sym is) (shown (end_at (context_at d o.context) o.name).link at)
  where
    shown : (x : Option Link) → IsBelow x → IfSome (option_map link_view x) (λ l. l.last < 2 ^ 62)
    shown None h = tt
    shown (Some l) h = h

    of_link : (c : Context) (e : End) (x : Option Link) → IsSoundState (plans c.regions) e.domain e.send_depth x → IsBelow x
    of_link c e None h = tt
    of_link c e (Some l) h = h.sender.numbers.limit

    of_ends : (c : Context) → IsSoundContext c → All (λ e. IsBelow e.link) c.ends
    of_ends c s = λ k z l. of_link c (get_or c.ends k z) (get_or c.ends k z).link (s.parts.ends k z l).state

    in_context : All (λ e. IsBelow e.link) (context_at d o.context).ends
    in_context = named-passes (λ (c : Context). All (λ e. IsBelow e.link) c.ends) (λ c. c.name) no_context o.context d.contexts (All-nil (λ (e : End). IsBelow e.link)) (λ k z l. of_ends (get_or d.contexts k z) (sound.contexts k z l))

    at : IsBelow (end_at (context_at d o.context) o.name).link
    at = named-passes (λ (e : End). IsBelow e.link) (λ e. e.name) no_end o.name (context_at d o.context).ends tt in_context
