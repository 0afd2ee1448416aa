-- Connections that come of images.
use Rattle.std.proofs.Common.{◌≡◌, ℕ, zero, suc, ◌+◌, ◌-◌, ◌<◌, ◌≤◌, ◌^◌, Bool, true, false, List, [], ◌∷◌, ◌++◌, length, take, drop, get_or, refl, ap, sym, ◌∙◌, subst, arith}
use Rattle.std.specs.Prelude.{map, All, AllPairs, if◌then◌else◌}
use Rattle.std.proofs.lemmas.List.{get_or-take, get_or_default, length-take-le, take_more}
use Rattle.rdma_types.specs.declared.requests.Request.{Request}
use Rattle.rdma_types.specs.Spans.{end_number, span}
use Rattle.page_pool.specs.Pool.{Pool}
use Rattle.end_queues.specs.declared.work_queues.posted.QueuedRequest.{QueuedRequest}
use Rattle.end_queues.specs.Untold.{untold_in}
use Rattle.requester.specs.Sending.{AreInOrder, bares, sender_with}
use Rattle.protocol.specs.declared.images.ContextImage.{ContextImage}
use Rattle.protocol.specs.declared.images.EndImage.{EndImage}
use Rattle.protocol.specs.declared.images.KeptReply.{KeptReply}
use Rattle.protocol.specs.declared.images.LinkImage.{LinkImage}
use Rattle.protocol.specs.declared.images.PostedImage.{PostedImage}
use Rattle.protocol.specs.declared.images.RegionImage.{RegionImage}
use Rattle.protocol.specs.Images.{local_key_at, posted_of_image}
use Rattle.protocol.specs.Lawful.{IsLawfulLink}
use Rattle.context_core.specs.Coming.{numbers_after}
use Rattle.protocol.specs.Responder.{keeping}

pub key-of : (rs : List RegionImage) (i : ℕ) (d : RegionImage) → i < length rs → (get_or rs i d).keys.local ≡ local_key_at rs i
key-of [] i d lt = absurd (omega arith)
key-of (r ∷ rs) zero d lt = refl
key-of (r ∷ rs) (suc i) d lt = key-of rs i d (omega arith)

-- ---- kept replies

pub rises-behind : (ks : List KeptReply) (i : ℕ) (d : KeptReply) → i < length ks → AllPairs (λ a b. a.number < b.number) ks → All (λ k. k.number < (get_or ks i d).number) (take i ks)
rises-behind ks i d lt rise k e below =
    let count : length (take i ks) ≡ i = length-take-le i ks (omega arith) in
    let before : k < i = omega arith in
    let same : get_or (take i ks) k e ≡ get_or ks k d = get_or-take i ks k e before ∙ get_or_default ks k e d (omega arith) in
    subst (λ x. x.number < (get_or ks i d).number) (sym same) (rise k i d before lt)

pub keeps-more : (ks kept : List KeptReply) (i : ℕ) (d : KeptReply) → i < length ks → length ks ≤ 16 → kept ≡ take i ks → keeping kept (get_or ks i d) ≡ take (i + 1) ks
unfolding keeping
keeps-more ks kept i d lt few is =
    let count : length kept ≡ i = ap length is ∙ length-take-le i ks (omega arith) in
    let none : length kept + 1 - 16 ≡ 0 = omega arith in
    ap (λ n. drop n (kept ++ get_or ks i d ∷ [])) none ∙ (ap (λ xs. xs ++ get_or ks i d ∷ []) is ∙ sym (take_more ks i d lt))

-- ---- requests and numbers

requests-in : (pool : Pool) (ps : List QueuedRequest) → map (λ p. p.request) (untold_in pool ps) ≡ map (λ p. p.request) ps
requests-in pool [] = refl
requests-in pool (p ∷ ps) = ap (λ rs. p.request ∷ rs) (requests-in pool ps)

requests-of : (ps : List PostedImage) → map (λ p. p.request) (map posted_of_image ps) ≡ map (λ p. p.request) ps
requests-of [] = refl
requests-of (p ∷ ps) = ap (λ rs. p.request ∷ rs) (requests-of ps)

-- requests that are shown as images have theirs
pub requests-same : (pool : Pool) (ps : List QueuedRequest) (images : List PostedImage) → untold_in pool ps ≡ map posted_of_image images → map (λ p. p.request) ps ≡ map (λ p. p.request) images
requests-same pool ps images e = sym (requests-in pool ps) ∙ (ap (map (λ p. p.request)) e ∙ requests-of images)

end-same : (ps : List QueuedRequest) (images : List PostedImage) (mtu : ℕ) → map (λ p. p.request) ps ≡ map (λ p. p.request) images → end_number (bares ps) mtu ≡ end_number (map posted_of_image images) mtu
unfolding end_number
end-same [] [] mtu e = refl
end-same [] (x ∷ xs) mtu e = absurd (cc)
end-same (p ∷ ps) [] mtu e = absurd (cc)
end-same (p ∷ ps) (x ∷ xs) mtu e =
    let here : p.request ≡ x.request = cc in
    let later : map (λ q. q.request) ps ≡ map (λ q. q.request) xs = cc in
    ap (λ (r : Request). span r.shape mtu + end_number (bares ps) mtu) here ∙ ap (λ n. span x.request.shape mtu + n) (end-same ps xs mtu later)

end-empty : (ps : List PostedImage) (mtu : ℕ) → ps ≡ [] → end_number (map posted_of_image ps) mtu ≡ 0
unfolding end_number
end-empty ps mtu e = ap (λ xs. end_number (map posted_of_image xs) mtu) e

pub order-after : (c : ContextImage) (e : EndImage) (l : LinkImage) (ps : List QueuedRequest) → IsLawfulLink c e l → map (λ p. p.request) ps ≡ map (λ p. p.request) e.untold → AreInOrder l.terms (sender_with (bares ps) (numbers_after l))
order-after c e l ps law same = by_test l.ended refl
  where
    ends : end_number (bares ps) l.terms.mtu ≡ end_number (map posted_of_image e.untold) l.terms.mtu
    ends = end-same ps e.untold l.terms.mtu same

    all : l.top ≤ l.first + end_number (bares ps) l.terms.mtu
    all = let h = law.numbers.all in omega (arith, h, ends)

    limit : l.first + end_number (bares ps) l.terms.mtu < 2 ^ 62
    limit = let h = law.numbers.limit in subst (λ n. l.first + n < 2 ^ 62) (sym ends) h

    by_test : (b : Bool) → l.ended ≡ b → AreInOrder l.terms (sender_with (bares ps) (record { first = l.first; una = l.una; next = if b then l.next else l.una; top = l.top; spent = l.spent; waits = l.waits; rnr_wait = if b then l.rnr_wait else false }))
    by_test true t = record {
      una = law.numbers.una;
      next = law.numbers.next;
      top = law.numbers.top;
      all = all;
      limit = limit;
      whole_reads = λ lt. absurd (
          let none = end-empty e.untold l.terms.mtu (law.no_untold t) in
          let a = law.numbers.una in
          let b = law.numbers.top in
          omega (arith, none, a, b, all, ends, lt));
      spent = law.spent;
    }
    by_test false t = record {
      una = law.numbers.una;
      next = omega arith;
      top = let a = law.numbers.next in let b = law.numbers.top in omega (arith, a, b);
      all = all;
      limit = limit;
      whole_reads = λ lt. absurd (omega (arith, lt));
      spent = law.spent;
    }
