-- An end of an image behind those that are there.
use Rattle.std.proofs.Common.{◌≡◌, ℕ, zero, suc, ◌+◌, ◌<◌, ◌≤◌, Bool, true, false, List, [], ◌∷◌, length, take, get_or, refl, ap, sym, ◌∙◌, subst, arith}
use Rattle.std.specs.Prelude.{◌==◌, Option, Some, None, IfSome, map, option_map, bytes_eq, slice_get, sum_by}
use Rattle.std.specs.List.{AllByRecursion}
use Rattle.std.specs.Map.{keys_of, values_of}
use Rattle.std.proofs.lemmas.List.{length-map}
use Rattle.std.proofs.lemmas.List.Elements.{recursion_from_All}
use Rattle.std.proofs.lemmas.List.Sums.{sum_by-cons, sum_by_more_le}
use Rattle.rdma_types.specs.declared.names.Name.{Name}
use Rattle.rdma_types.specs.Objects.{CompletionQueue}
use Rattle.page_pool.specs.Pool.{Pool}
use Rattle.end_queues.specs.Completions.{Queue, used_places}
use Rattle.memory_keys.specs.Regions.{regions_of}
use Rattle.protocol.specs.declared.images.ContextImage.{ContextImage}
use Rattle.protocol.specs.declared.images.CqImage.{CqImage}
use Rattle.protocol.specs.declared.images.EndImage.{EndImage}
use Rattle.protocol.specs.declared.images.LinkImage.{LinkImage}
use Rattle.protocol.specs.declared.images.Progress as images
use Rattle.protocol.specs.declared.images.Progress.TheVariants as image
use Rattle.protocol.specs.declared.images.RegionImage.{RegionImage}
use Rattle.protocol.specs.Images.{context_of, end_of_image, link_of_image, moved, moved_end, moved_link, name_at, posted_of_image, progress_of_image, queue_of_image}
use Rattle.protocol.specs.Lawful.{IsLawful, IsLawfulEnd, IsLawfulQueue, IsLawfulState}
use Rattle.protocol.specs.EndWords.{in_use, in_use_by}
use Rattle.protocol.specs.Memory.{untold_of}
use Rattle.protocol.specs.Refusals.{count_if, reserved, reserved_by}
use Rattle.protocol.specs.State.{End, Link}
use Rattle.endpoint_core.specs.Queues.{queues_of, reserved_in}
use Rattle.context_core.specs.Coming.{HasPlaces, IsPart, promised_to, used_of_image, used_of_progress}
use Rattle.context_core.specs.Context.{HasQueues, Holding, IsContext, context_in, end_of, queue_name}
use Rattle.context_core.proofs.EndsFromImage.{shown-at}
use Rattle.context_core.proofs.PlacesFromImage.{keys-count}
use Rattle.context_core.proofs.ReservedCompletions.{ends-reserve, same-place}

-- ---- names of the queues of an image

shown-names : (qs : List (Name × Queue)) → map (λ q. q.name) (queues_of qs) ≡ keys_of qs
shown-names [] = refl
shown-names (q ∷ qs) = ap (λ ns. q.0 ∷ ns) (shown-names qs)

image-names : (qs : List CqImage) → map (λ q. q.name) (map queue_of_image qs) ≡ map (λ q. q.name) qs
image-names [] = refl
image-names (q ∷ qs) = ap (λ ns. q.name ∷ ns) (image-names qs)

module _ (pool : Pool) (c : ContextImage) (n : ℕ) (h : Holding) (part : IsPart pool c n h) where
  pub part-queues : queues_of h.queues ≡ map queue_of_image c.queues
  unfolding context_in context_of
  part-queues = part.queues

  pub part-regions : regions_of pool h.regions ≡ (context_of c).regions
  unfolding context_in
  part-regions = part.regions

  pub part-ends : map (end_of pool h.queues) h.ends ≡ take n (moved (context_of c)).ends
  unfolding context_in
  part-ends = part.ends

  pub part-names : keys_of h.queues ≡ map (λ q. q.name) c.queues
  part-names = sym (shown-names h.queues) ∙ (ap (map (λ q. q.name)) part-queues ∙ image-names c.queues)

  pub part-count : length h.queues ≡ length c.queues
  part-count = sym (keys-count h.queues) ∙ (ap length part-names ∙ length-map c.queues (λ q. q.name))

-- ---- room for an end

sum-take : {A B : Type 0} (f : B → ℕ) (g : A → B) (xs : List A) (k : ℕ) → sum_by f (take k (map g xs)) ≡ sum_by (λ x. f (g x)) (take k xs)
sum-take f g xs zero = refl
sum-take f g [] (suc k) = refl
sum-take f g (x ∷ xs) (suc k) = sum_by-cons f (g x) (take k (map g xs)) ∙ (ap (λ n. f (g x) + n) (sum-take f g xs k) ∙ sym (sum_by-cons (λ y. f (g y)) x (take k xs)))

sum-mapped : {A B : Type 0} (f : B → ℕ) (g : A → B) (xs : List A) → sum_by f (map g xs) ≡ sum_by (λ x. f (g x)) xs
sum-mapped f g [] = refl
sum-mapped f g (x ∷ xs) = sum_by-cons f (g x) (map g xs) ∙ (ap (λ n. f (g x) + n) (sum-mapped f g xs) ∙ sym (sum_by-cons (λ y. f (g y)) x xs))

-- a move reserves nothing
moved-use : (o : Option Link) → (length (untold_of (option_map moved_link o)) ≡ length (untold_of o)) × (length (in_use (option_map moved_link o)) ≡ length (in_use o))
unfolding moved_link
moved-use None = (refl, refl)
moved-use (Some l) = by_test l.ended refl
  where
    by_test : (b : Bool) → l.ended ≡ b → (length (untold_of (option_map moved_link (Some l))) ≡ length (untold_of (Some l))) × (length (in_use (option_map moved_link (Some l))) ≡ length (in_use (Some l)))
    by_test true t = rw t (refl, refl)
    by_test false t = rw t (refl, refl)

moved-reserves : (n : Name) (e : End) → reserved_by n (moved_end e) ≡ reserved_by n e
unfolding reserved_by moved_end
moved-reserves n e =
    let taken = moved-use e.link in
    ap (λ k. count_if (bytes_eq e.send_cq n) k + count_if (bytes_eq e.recv_cq n) (length e.unused + length (in_use (option_map moved_link e.link)))) taken.0
    ∙ ap (λ k. count_if (bytes_eq e.send_cq n) (length (untold_of e.link)) + count_if (bytes_eq e.recv_cq n) (length e.unused + k)) taken.1

-- what stands at a place
each-there : {A : Type 0} (P : A → Type 0) (xs : List A) (i : ℕ) (x : A) → AllByRecursion P xs → slice_get xs i ≡ Some x → P x
each-there P [] i x h e = absurd (cc)
each-there P (y ∷ ys) zero x h e = let same : y ≡ x = cc in subst P same h.0
each-there P (y ∷ ys) (suc i) x h e = each-there P ys i x h.1 e

pub there-is : {A : Type 0} (xs : List A) (i : ℕ) (x : A) → slice_get xs i ≡ Some x → (i < length xs) × (x ≡ get_or xs i x)
there-is [] i x e = absurd (cc)
there-is (y ∷ ys) zero x e = let same : y ≡ x = cc in (omega arith, sym same)
there-is (y ∷ ys) (suc i) x e = let rest = there-is ys i x e in (let l = rest.0 in omega arith, rest.1)

-- the end with the next number is lawful
pub next-lawful : (c : ContextImage) (i : ℕ) (e : EndImage) → IsLawful c → slice_get c.ends i ≡ Some e → IsLawfulEnd c e
next-lawful c i e law next = each-there (IsLawfulEnd c) c.ends i e (recursion_from_All (IsLawfulEnd c) c.ends law.ends) next

-- the queue at a place, as it is shown
queue-there : (qs : List (Name × Queue)) (place : ℕ) (q : Queue) → slice_get (values_of qs) place ≡ Some q → (place < length qs) × (slice_get (queues_of qs) place ≡ Some (record { name = queue_name qs place; capacity = q.capacity; entries = q.entries })) × (reserved_in qs place ≡ q.reserved)
queue-there [] place q e = absurd (cc)
queue-there (x ∷ xs) zero q e = let same : x.1 ≡ q = cc in (omega arith, ap (λ (y : Queue). Some (record { name = x.0; capacity = y.capacity; entries = y.entries })) same, ap (λ (y : Queue). y.reserved) same)
queue-there (x ∷ xs) (suc i) q e = let rest = queue-there xs i q e in (let l = rest.0 in omega arith, rest.1, rest.2)

sum-same : {A : Type 0} (f g : A → ℕ) (xs : List A) → ((x : A) → f x ≡ g x) → sum_by f xs ≡ sum_by g xs
sum-same f g [] e = refl
sum-same f g (x ∷ xs) e = sum_by-cons f x xs ∙ (ap (λ n. n + sum_by f xs) (e x) ∙ (ap (λ n. g x + n) (sum-same f g xs e) ∙ sym (sum_by-cons g x xs)))

image-untold : (c : ContextImage) (e : EndImage) (o : Option LinkImage) → IsLawfulState c e o → length (untold_of (option_map (link_of_image c.regions e.untold) o)) ≡ length e.untold
unfolding link_of_image
image-untold c e None h = sym (ap length h)
image-untold c e (Some l) h = length-map e.untold posted_of_image

image-used : (c : ContextImage) (e : EndImage) (o : Option LinkImage) → length (in_use (option_map (link_of_image c.regions e.untold) o)) ≡ used_of_image o
unfolding link_of_image
image-used c e None = refl
image-used c e (Some l) = by_progress c.regions l.progress
  where
    by_progress : (rs : List RegionImage) (p : images.Progress) → length (in_use_by (progress_of_image rs p)) ≡ used_of_progress p
    by_progress rs image.Idle = refl
    by_progress rs (image.Send done r) = refl
    by_progress rs (image.Write region off count done) = refl

module _ (pool : Pool) (c : ContextImage) (h : Holding) (law : IsLawful c) (is : IsContext pool h) (part : IsPart pool c (length h.ends) h) (e : EndImage) (next : slice_get c.ends (length h.ends) ≡ Some e) where
  -- what an end of the image reserves under a name
  taken-by : Name → EndImage → ℕ
  taken-by n y = reserved_by n (end_of_image c y)

  all-ends : (n : Name) → reserved (context_of c) n ≡ sum_by (taken-by n) c.ends
  unfolding reserved context_of taken-by
  all-ends n = sum-mapped (reserved_by n) (end_of_image c) c.ends

  first-ends : (n : Name) → sum_by (reserved_by n) (map (end_of pool h.queues) h.ends) ≡ sum_by (taken-by n) (take (length h.ends) c.ends)
  unfolding moved context_of taken-by
  first-ends n =
      ap (sum_by (reserved_by n)) (part-ends pool c (length h.ends) h part)
      ∙ (sum-take (reserved_by n) moved_end (map (end_of_image c) c.ends) (length h.ends)
      ∙ (sum-take (λ y. reserved_by n (moved_end y)) (end_of_image c) c.ends (length h.ends)
      ∙ sum-same (λ y. reserved_by n (moved_end (end_of_image c y))) (taken-by n) (take (length h.ends) c.ends) (λ y. moved-reserves n (end_of_image c y))))

  name-here : (place : ℕ) → name_at (map (λ q. q.name) c.queues) place ≡ queue_name h.queues place
  name-here place = ap (λ ks. get_or ks place []) (sym (part-names pool c (length h.ends) h part))

  -- the next end reserves what is promised to it
  next-takes : (place : ℕ) → place < length h.queues → taken-by (queue_name h.queues place) e ≡ promised_to e place
  unfolding reserved_by end_of_image taken-by
  next-takes place lt =
      let end-law = next-lawful c (length h.ends) e law next in
      let count = part-count pool c (length h.ends) h part in
      let send = ap (λ k. bytes_eq k (queue_name h.queues place)) (name-here e.send_cq) ∙ same-place h.queues e.send_cq place is.is.queue_names (subst (λ k. e.send_cq < k) (sym count) end-law.send_cq) lt in
      let recv = ap (λ k. bytes_eq k (queue_name h.queues place)) (name-here e.recv_cq) ∙ same-place h.queues e.recv_cq place is.is.queue_names (subst (λ k. e.recv_cq < k) (sym count) end-law.recv_cq) lt in
      ap (λ b. count_if b (length (untold_of (end_of_image c e).link)) + count_if (bytes_eq (name_at (map (λ q. q.name) c.queues) e.recv_cq) (queue_name h.queues place)) (length e.unused + length (in_use (end_of_image c e).link))) send
      ∙ (ap (λ b. count_if (e.send_cq == place) (length (untold_of (end_of_image c e).link)) + count_if b (length e.unused + length (in_use (end_of_image c e).link))) recv
      ∙ (ap (λ k. count_if (e.send_cq == place) k + count_if (e.recv_cq == place) (length e.unused + length (in_use (end_of_image c e).link))) (image-untold c e e.linked end-law.state)
      ∙ ap (λ k. count_if (e.send_cq == place) (length e.untold) + count_if (e.recv_cq == place) (length e.unused + k)) (image-used c e e.linked)))

  room-at : (place : ℕ) (q : Queue) → slice_get (values_of h.queues) place ≡ Some q → used_places q + promised_to e place ≤ q.capacity
  room-at place q s =
      let there = queue-there h.queues place q s in
      let n = queue_name h.queues place in
      let of-image = shown-at queue_of_image c.queues place (record { name = n; capacity = q.capacity; entries = q.entries }) (ap (λ qs. slice_get qs place) (sym (part-queues pool c (length h.ends) h part)) ∙ there.1) in
      let queue-law : IsLawfulQueue c of-image.0 = each-there (IsLawfulQueue c) c.queues place of-image.0 (recursion_from_All (IsLawfulQueue c) c.queues law.queues) of-image.1 in
      let same : queue_of_image of-image.0 ≡ record { name = n; capacity = q.capacity; entries = q.entries } = of-image.2 in
      let fits : length of-image.0.entries + reserved (context_of c) of-image.0.name ≤ of-image.0.capacity = queue-law.fits in
      let fits' : length q.entries + reserved (context_of c) n ≤ q.capacity = subst (λ (y : CompletionQueue). length y.entries + reserved (context_of c) y.name ≤ y.capacity) same fits in
      let old : q.reserved ≡ sum_by (taken-by n) (take (length h.ends) c.ends) = sym there.2 ∙ (is.is.reserved place ∙ (plain ∙ (sym (ends-reserve pool h.queues place h.ends is.is.queue_names there.0 (recursion_from_All (HasQueues h.queues) h.ends is.is.placed)) ∙ first-ends n))) in
      let at-next = there-is c.ends (length h.ends) e next in
      let more = sum_by_more_le (taken-by n) c.ends (length h.ends) e at-next.0 in
      let here : taken-by n (get_or c.ends (length h.ends) e) ≡ promised_to e place = ap (taken-by n) (sym at-next.1) ∙ next-takes place there.0 in
      let all = all-ends n in
      omega (arith, fits', old, more, here, all)
    where
      plain : {k : ℕ} → k + 0 ≡ k
      plain = omega arith

  pub has-places : HasPlaces h.queues e
  has-places place = by_value (slice_get (values_of h.queues) place) refl
    where
      by_value : (o : Option Queue) → slice_get (values_of h.queues) place ≡ o → IfSome o (λ q. used_places q + promised_to e place ≤ q.capacity)
      by_value None s = tt
      by_value (Some q) s = room-at place q s
