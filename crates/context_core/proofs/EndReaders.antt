-- What is told of queue pairs.
use Rattle.std.proofs.Common.{◌≡◌, ℕ, Bool, List, [], ◌∷◌, refl, ap, sym, ◌∙◌}
use Rattle.std.specs.Prelude.{◌||◌, Option, Some, None, map, slice_get}
use Rattle.std.specs.List.{list_any}
use Rattle.std.specs.Map.{values_of}
use Rattle.std.specs.Option.{option_map}
use Rattle.std.proofs.lemmas.Option.{slice_get-map}
use Rattle.rdma_types.specs.declared.names.Name.{Name}
use Rattle.rdma_types.specs.Lists.{some}
use Rattle.page_pool.specs.Pool.{Pool}
use Rattle.end_queues.specs.Completions.{Queue}
use Rattle.protocol.specs.EndWords.{is_paused_link}
use Rattle.protocol.specs.Refusals.{has_moved_out, links_of}
use Rattle.protocol.specs.State.{Link}
use Rattle.endpoint_core.specs.declared.end.EndLink.{EndLink}
use Rattle.endpoint_core.specs.Ends.{link_in}
use Rattle.context_core.specs.declared.lives.LiveEnd.{LiveEnd}
use Rattle.context_core.specs.declared.state.EndSlot.{EndSlot}
use Rattle.context_core.specs.Context.{Holding, context_in, end_of}
use Rattle.context_core.specs.Links.{is_moved_out_by, is_paused_by, link_at, link_by, link_marks, live_end, live_end_at}

-- the end at a place
pub end-shown : (pool : Pool) (n : Name) (h : Holding) (i : ℕ) → slice_get (context_in pool n h).ends i ≡ option_map (end_of pool h.queues) (slice_get h.ends i)
unfolding context_in
end-shown pool n h i = slice_get-map (end_of pool h.queues) h.ends i

pub told-none : (pool : Pool) (n : Name) (h : Holding) (i : ℕ) → slice_get h.ends i ≡ None → None ≡ live_end_at (context_in pool n h) i
told-none pool n h i e = sym (ap (option_map (live_end (context_in pool n h))) (end-shown pool n h i ∙ ap (option_map (end_of pool h.queues)) e))

pub told-some : (pool : Pool) (n : Name) (h : Holding) (i : ℕ) (e : Name × EndSlot) (live : LiveEnd) → slice_get h.ends i ≡ Some e → live ≡ live_end (context_in pool n h) (end_of pool h.queues e) → Some live ≡ live_end_at (context_in pool n h) i
told-some pool n h i e live there is = ap Some is ∙ sym (ap (option_map (live_end (context_in pool n h))) (end-shown pool n h i ∙ ap (option_map (end_of pool h.queues)) there))

-- the connection of the end at a place
pub link-shown : (pool : Pool) (n : Name) (h : Holding) (i : ℕ) → link_at (context_in pool n h) i ≡ link_by (option_map (end_of pool h.queues) (slice_get h.ends i))
link-shown pool n h i = ap link_by (end-shown pool n h i)

-- .. and its marks
pub marks-none : (pool : Pool) (n : Name) (h : Holding) (i : ℕ) → slice_get h.ends i ≡ None → None ≡ option_map link_marks (link_at (context_in pool n h) i)
marks-none pool n h i e = sym (ap (option_map link_marks) (link-shown pool n h i ∙ ap (λ o. link_by (option_map (end_of pool h.queues) o)) e))

pub marks-some : (pool : Pool) (n : Name) (h : Holding) (i : ℕ) (e : Name × EndSlot) (o : Option EndLink) (marks : Option (ℕ × ℕ)) → slice_get h.ends i ≡ Some e → e.1.endpoint.link ≡ o → marks ≡ option_map link_marks (option_map (link_in pool) o)
    → marks ≡ option_map link_marks (link_at (context_in pool n h) i)
marks-some pool n h i e o marks there linked is =
    is
    ∙ (ap (λ x. option_map link_marks (option_map (link_in pool) x)) (sym linked)
    ∙ sym (ap (option_map link_marks) (link-shown pool n h i ∙ ap (λ x. link_by (option_map (end_of pool h.queues) x)) there)))

-- whether one passes a test
some-told : (pool : Pool) (qs : List (Name × Queue)) (test : Option EndLink → Bool) (f : Option Link → Bool) → ((l : Option EndLink) → test l ≡ f (option_map (link_in pool) l)) → (es : List (Name × EndSlot)) → list_any (λ s. test s.endpoint.link) (values_of es) ≡ some f (map (λ e. e.link) (map (end_of pool qs) es))
unfolding some
some-told pool qs test f same [] = refl
some-told pool qs test f same (e ∷ es) =
    ap (λ b. b || list_any (λ s. test s.endpoint.link) (values_of es)) (same e.1.endpoint.link)
    ∙ ap (λ b. f (option_map (link_in pool) e.1.endpoint.link) || b) (some-told pool qs test f same es)

paused-same : (pool : Pool) (l : Option EndLink) → is_paused_by l ≡ is_paused_link (option_map (link_in pool) l)
paused-same pool None = refl
paused-same pool (Some l) = refl

pub paused-told : (pool : Pool) (n : Name) (h : Holding) → list_any (λ s. is_paused_by s.endpoint.link) (values_of h.ends) ≡ some is_paused_link (links_of (context_in pool n h))
unfolding context_in
paused-told pool n h = some-told pool h.queues is_paused_by is_paused_link (paused-same pool) h.ends

out-same : (pool : Pool) (l : Option EndLink) → is_moved_out_by l ≡ has_moved_out (option_map (link_in pool) l)
out-same pool None = refl
out-same pool (Some l) = refl

pub out-told : (pool : Pool) (n : Name) (h : Holding) → list_any (λ s. is_moved_out_by s.endpoint.link) (values_of h.ends) ≡ some has_moved_out (links_of (context_in pool n h))
unfolding context_in
out-told pool n h = some-told pool h.queues is_moved_out_by has_moved_out (out-same pool) h.ends
