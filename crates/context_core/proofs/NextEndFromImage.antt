-- A context with the next end of an image.
use Rattle.std.proofs.Common.{◌≡◌, ◌≢◌, ℕ, zero, suc, ◌+◌, ◌<◌, ◌≤◌, false, List, [], ◌∷◌, ◌++◌, length, take, get_or, refl, ap, sym, ◌∙◌, subst, arith, inl, inr}
use Rattle.std.specs.Prelude.{◌⊎◌, Some, None, map, All, Contains, nat_eq, bytes_eq, slice_get, sum_by}
use Rattle.std.specs.List.{AllByRecursion, IsDistinct}
use Rattle.std.specs.Map.{keys_of, lookup}
use Rattle.std.proofs.lemmas.Bool.Decides.{nat_tests}
use Rattle.std.proofs.lemmas.List.{append-nil, map-append}
use Rattle.std.proofs.lemmas.List.Elements.{All-contains, All-map, All-push, All-weaker, Contains-append_cases, Contains-append_left, Contains-append_right, recursion_from_All}
use Rattle.std.proofs.lemmas.List.Sums.{sum_by_push}
use Rattle.std.proofs.lemmas.Grind.{flat_map-append}
use Rattle.rdma_types.specs.declared.names.Name.{Name}
use Rattle.page_pool.specs.Pool.{Pool, IsIn, bytes_of, free_pages}
use Rattle.end_queues.specs.Completions.{Queue}
use Rattle.protocol.specs.declared.images.ContextImage.{ContextImage}
use Rattle.protocol.specs.declared.images.EndImage.{EndImage}
use Rattle.protocol.specs.Images.{context_of, end_of_image, moved, moved_end, name_at}
use Rattle.protocol.specs.Lawful.{IsLawful, IsLawfulEnd}
use Rattle.protocol.specs.Memory.{pages_of_context}
use Rattle.end_completions.specs.Payloads.{payload_lists, payload_pages}
use Rattle.endpoint_core.specs.declared.end.Endpoint.{Endpoint}
use Rattle.endpoint_core.specs.Ends.{untold_by, used_by}
use Rattle.endpoint_core.specs.Queues.{count_at, nothing, promised, reserved_in}
use Rattle.endpoint_core.specs.Sound.{IsEnd}
use Rattle.context_core.specs.declared.state.EndSlot.{EndSlot}
use Rattle.context_core.specs.Coming.{AreReservedFor, HasPlaces, IsAlike, IsEndAfter, IsPart, MayCome, promised_to, used_of_image}
use Rattle.context_core.specs.Context.{HasQueues, Holding, IsContext, IsHolding, IsPaged, Moves, context_in, end_of, lists_of, payloads_of, untold_at}
use Rattle.context_core.proofs.AddedObjects.{distinct-more}
use Rattle.context_core.proofs.PoolAgreement.{Agree, context-same, holding-same, list-lives, lists-live}
use Rattle.context_core.proofs.EndsFromImage.{all-may, end-shown, end-sound, shown-count, untold-is, used-is}
use Rattle.context_core.proofs.PlacesFromImage.{keys-count, lacks-before, lookup-none, pairs-unmap}
use Rattle.context_core.proofs.RequestsFromImage.{differs, kept-list}
use Rattle.context_core.proofs.AppendedEndFromImage.{has-places, next-lawful, part-count, part-ends, part-names, part-regions, there-is}
use Rattle.context_core.proofs.DisjointLists.{AreApart, Lacks, distinct-both, each-back}
use Rattle.context_core.proofs.NamedLookups.{same-either}
use Rattle.context_core.proofs.ContextPages.{pages-are}
use Rattle.context_core.proofs.ReservedCompletions.{ends-named}

-- ---- lists

take-push : {A B : Type 0} (f : A → B) (xs : List A) (i : ℕ) (x : A) → slice_get xs i ≡ Some x → take (suc i) (map f xs) ≡ take i (map f xs) ++ f x ∷ []
take-push f [] i x e = absurd (cc)
take-push f (y ∷ ys) zero x e = let same : y ≡ x = cc in ap (λ z. f z ∷ []) same
take-push {A} {B} f (y ∷ ys) (suc i) x e = ap (λ (zs : List B). f y ∷ zs) (take-push f ys i x e)

map-take : {A B : Type 0} (f : A → B) (xs : List A) (i : ℕ) → map f (take i xs) ≡ take i (map f xs)
map-take f xs zero = refl
map-take f [] (suc i) = refl
map-take {A} {B} f (x ∷ xs) (suc i) = ap (λ (ys : List B). f x ∷ ys) (map-take f xs i)

map-map : {A B C : Type 0} (g : B → C) (f : A → B) (xs : List A) → map g (map f xs) ≡ map (λ x. g (f x)) xs
map-map g f [] = refl
map-map {A} {B} {C} g f (x ∷ xs) = ap (λ (ys : List C). g (f x) ∷ ys) (map-map g f xs)

count-push : {A : Type 0} (xs : List A) (x : A) → length (xs ++ x ∷ []) ≡ suc (length xs)
count-push [] x = refl
count-push (y ∷ ys) x = ap suc (count-push ys x)

pub payloads-push : (es : List (Name × EndSlot)) (e : Name × EndSlot) → payloads_of (es ++ e ∷ []) ≡ payloads_of es ++ payload_lists (untold_at e)
payloads-push es e = flat_map-append (λ y. payload_lists (untold_at y)) es (e ∷ []) ∙ ap (λ xs. payloads_of es ++ xs) (append-nil (payload_lists (untold_at e)))

ends-shown : (pool : Pool) (qs : List (Name × Queue)) (es : List (Name × EndSlot)) → map (λ y. y.name) (map (end_of pool qs) es) ≡ keys_of es
ends-shown pool qs [] = refl
ends-shown pool qs (e ∷ es) = ap (λ ns. e.0 ∷ ns) (ends-shown pool qs es)

-- lists that live are apart from lists that do not
live-apart : (pool : Pool) (xs ys : List ℕ) → AllByRecursion (IsIn pool) xs → AllByRecursion (λ y. bytes_of pool y ≡ None) ys → AreApart xs ys
live-apart pool [] ys h k = tt
live-apart pool (x ∷ xs) ys h k = (each ys k, live-apart pool xs ys h.1 k)
  where
    test : (y : ℕ) → x ≢ y → nat_eq x y ≡ false
    test y n = grind (arith, nat_tests, n)

    each : (zs : List ℕ) → AllByRecursion (λ y. bytes_of pool y ≡ None) zs → Lacks zs x
    each [] g = tt
    each (z ∷ zs) g = (test z (differs pool x z h.0 g.0), each zs g.1)

-- an end with its places
abbrev pub slot_of : EndImage → Endpoint → Name × EndSlot
slot_of e x = (e.name, record { send = e.send_cq; recv = e.recv_cq; endpoint = x })

-- the context with one end more
abbrev pub entered : Holding → List (Name × Queue) → EndImage → Endpoint → Holding
entered h queues e x = record h { queues = queues; ends = h.ends ++ slot_of e x ∷ [] }

-- the protocol's name of its ends
image-ends : (c : ContextImage) → map (λ y. y.name) (moved (context_of c)).ends ≡ map (λ y. y.name) c.ends
unfolding moved context_of moved_end end_of_image
image-ends c = map-map (λ y. y.name) moved_end (map (end_of_image c) c.ends) ∙ map-map (λ y. (moved_end y).name) (end_of_image c) c.ends

-- the names of the ends before
module _ (old : Pool) (c : ContextImage) (e : EndImage) (h : Holding) (law : IsLawful c) (is : IsContext old h) (part : IsPart old c (length h.ends) h) (next : slice_get c.ends (length h.ends) ≡ Some e) where
  names-are : keys_of h.ends ≡ map (λ y. y.name) (take (length h.ends) c.ends)
  names-are =
      sym (ends-shown old h.queues h.ends)
      ∙ (ap (map (λ y. y.name)) (part-ends old c (length h.ends) h part)
      ∙ (map-take (λ y. y.name) (moved (context_of c)).ends (length h.ends)
      ∙ (ap (take (length h.ends)) (image-ends c) ∙ sym (map-take (λ y. y.name) c.ends (length h.ends)))))

  other-names : (es : List EndImage) → AllByRecursion (λ y. bytes_eq e.name y.name ≡ false) es → AllByRecursion (λ y. bytes_eq y e.name ≡ false) (map (λ y. y.name) es)
  other-names [] k = tt
  other-names (y ∷ ys) k = (same-either y.name e.name ∙ k.0, other-names ys k.1)

  name-new : AllByRecursion (λ y. bytes_eq y e.name ≡ false) (keys_of h.ends)
  name-new =
      let there = there-is c.ends (length h.ends) e next in
      let before = lacks-before (λ y. y.name) c.ends (length h.ends) e there.0 there.1 (pairs-unmap (λ a b. a ≢ b) (λ y. y.name) c.ends law.end_names.distinct) in
      subst (AllByRecursion (λ y. bytes_eq y e.name ≡ false)) (sym names-are) (other-names (take (length h.ends) c.ends) (recursion_from_All (λ y. bytes_eq e.name y.name ≡ false) (take (length h.ends) c.ends) before))

  turned : (ks : List Name) → AllByRecursion (λ y. bytes_eq y e.name ≡ false) ks → AllByRecursion (λ y. bytes_eq e.name y ≡ false) ks
  turned [] k = tt
  turned (y ∷ ys) k = (same-either e.name y ∙ k.0, turned ys k.1)

  pub end-absent : lookup (bytes_eq e.name) h.ends ≡ None
  end-absent = lookup-none e.name h.ends (turned (keys_of h.ends) name-new)

module _ (old new : Pool) (c : ContextImage) (e : EndImage) (h : Holding) (queues : List (Name × Queue)) (x : Endpoint) (law : IsLawful c) (is : IsContext old h) (part : IsPart old c (length h.ends) h) (next : slice_get c.ends (length h.ends) ≡ Some e) (after : IsEndAfter old new h.regions c e x) (places : AreReservedFor h.queues queues e) where
  own : IsLawfulEnd c e
  own = next-lawful c (length h.ends) e law next

  agree : Agree old new (lists_of h)
  agree list k = kept-list old new after.queue.items list after.come.taken (list-lives old h nothing list is.is k)

  still : IsHolding new h nothing
  still = holding-same old new h nothing agree is.is

  still-part : IsPart new c (length h.ends) h
  still-part =
      let same = context-same old new h c.name agree in
      record {
        domains = part.domains;
        regions = ap (λ k. k.regions) same ∙ part.regions;
        queues = ap (λ k. k.queues) same ∙ part.queues;
        ends = ap (λ k. k.ends) same ∙ part.ends;
      }

  sound : IsEnd new h.regions x
  sound = end-sound old new c e h.regions x (part-regions new c (length h.ends) h still-part) is.is.keyed own after

  untold : untold_by x.link ≡ after.queue.items
  untold = untold-is old new h.regions c e x own after

  same-count : length queues ≡ length h.queues
  same-count = sym (keys-count queues) ∙ (ap length places.names ∙ keys-count h.queues)

  image-count : length queues ≡ length c.queues
  image-count = same-count ∙ part-count old c (length h.ends) h part

  new-placed : All (HasQueues queues) (h.ends ++ slot_of e x ∷ [])
  new-placed = All-push (HasQueues queues) h.ends (slot_of e x)
      (All-weaker (HasQueues h.queues) (HasQueues queues) (λ y k. (subst (λ n. y.1.send < n) (sym same-count) k.0, subst (λ n. y.1.recv < n) (sym same-count) k.1)) h.ends is.is.placed)
      (subst (λ n. e.send_cq < n) (sym image-count) own.send_cq, subst (λ n. e.recv_cq < n) (sym image-count) own.recv_cq)

  new-lists : AllByRecursion (λ y. bytes_of old y ≡ None) (payload_lists (untold_by x.link))
  new-lists = subst (λ ps. AllByRecursion (λ y. bytes_of old y ≡ None) (payload_lists ps)) (sym untold) (recursion_from_All (λ y. bytes_of old y ≡ None) (payload_lists after.queue.items) (All-map (λ y. bytes_of old y ≡ None) (λ p. p.payload.list) after.queue.items after.come.taken.fresh))

  old-lists : AllByRecursion (IsIn old) (payloads_of h.ends)
  unfolding lists_of
  old-lists = each-back (IsIn old) (map (λ r. r.list) h.regions) (payloads_of h.ends) (lists-live old h nothing is.is)

  new-apart : IsDistinct nat_eq (payloads_of (h.ends ++ slot_of e x ∷ []))
  new-apart =
      let mine : IsDistinct nat_eq (payload_lists (untold_by x.link)) = subst (λ ps. IsDistinct nat_eq (payload_lists ps)) (sym untold) after.come.taken.apart in
      subst (IsDistinct nat_eq) (sym (payloads-push h.ends (slot_of e x))) (distinct-both (payloads_of h.ends) (payload_lists (untold_by x.link)) is.is.apart mine (live-apart old (payloads_of h.ends) (payload_lists (untold_by x.link)) old-lists new-lists))

  promised-here : (place : ℕ) → promised e.send_cq e.recv_cq x place ≡ promised_to e place
  promised-here place =
      let sends : length (untold_by x.link) ≡ length e.untold = ap length untold ∙ shown-count new after.queue.items e.untold after.come.shown in
      let unused : length x.recvs.items ≡ length e.unused = ap (λ (y : Endpoint). length y.recvs.items) after.is in
      let used : length (used_by x.link) ≡ used_of_image e.linked = used-is old new h.regions c e x after in
      ap (λ n. count_at e.send_cq n place + count_at e.recv_cq (length x.recvs.items + length (used_by x.link)) place) sends
      ∙ (ap (λ n. count_at e.send_cq (length e.untold) place + count_at e.recv_cq (n + length (used_by x.link)) place) unused
      ∙ ap (λ n. count_at e.send_cq (length e.untold) place + count_at e.recv_cq (length e.unused + n) place) used)

  new-reserved : (place : ℕ) → reserved_in queues place ≡ sum_by (λ y. promised y.1.send y.1.recv y.1.endpoint place) (h.ends ++ slot_of e x ∷ []) + 0
  new-reserved place =
      let more = sum_by_push (λ y. promised y.1.send y.1.recv y.1.endpoint place) h.ends (slot_of e x) in
      let here = promised-here place in
      let before = is.is.reserved place in
      let took = places.reserved place in
      sum-up (reserved_in queues place) (reserved_in h.queues place) (promised_to e place) (promised e.send_cq e.recv_cq x place) _ _ took before here more
    where
      sum-up : (r r' p q s s' : ℕ) → r ≡ r' + p → r' ≡ s + 0 → q ≡ p → s' ≡ s + q → r ≡ s' + 0
      sum-up r r' p q s s' one two three four = omega arith

  pub entered-holding : IsHolding new (entered h queues e x) nothing
  entered-holding = record {
    held = still.held;
    keyed = still.keyed;
    ends = All-push (λ y. IsEnd new h.regions y.1.endpoint) h.ends (slot_of e x) still.ends sound;
    placed = new-placed;
    apart = new-apart;
    paged = All-push (λ y. All (IsPaged new h.regions) (untold_at y)) h.ends (slot_of e x) still.paged (subst (All (IsPaged new h.regions)) (sym untold) after.come.paged);
    reserved = new-reserved;
    queue_names = subst (IsDistinct bytes_eq) (sym places.names) is.is.queue_names;
    end_names = subst (IsDistinct bytes_eq) (sym (map-append (λ y. y.0) h.ends (slot_of e x ∷ []))) (distinct-more (keys_of h.ends) e.name is.is.end_names (name-new old c e h law is part next));
    few_queues = subst (λ n. n ≤ 64) (sym same-count) is.is.few_queues;
  }

  -- ---- what moved

  fresh-list : (list : ℕ) → Contains (lists_of (entered h queues e x)) list → Contains (lists_of h) list ⊎ (bytes_of old list ≡ None)
  unfolding lists_of
  fresh-list list k = by_region (Contains-append_cases (map (λ r. r.list) h.regions) (payloads_of (h.ends ++ slot_of e x ∷ [])) list k)
    where
      by_end : Contains (payloads_of h.ends) list ⊎ Contains (payload_lists (untold_by x.link)) list → Contains (lists_of h) list ⊎ (bytes_of old list ≡ None)
      by_end (inl there) = inl (Contains-append_right (map (λ r. r.list) h.regions) (payloads_of h.ends) list there)
      by_end (inr there) = inr (All-contains (λ y. bytes_of old y ≡ None) (payload_lists after.queue.items) list (All-map (λ y. bytes_of old y ≡ None) (λ p. p.payload.list) after.queue.items after.come.taken.fresh) (subst (λ ps. Contains (payload_lists ps) list) untold there))

      by_region : Contains (map (λ r. r.list) h.regions) list ⊎ Contains (payloads_of (h.ends ++ slot_of e x ∷ [])) list → Contains (lists_of h) list ⊎ (bytes_of old list ≡ None)
      by_region (inl there) = inl (Contains-append_left (map (λ r. r.list) h.regions) (payloads_of h.ends) list there)
      by_region (inr there) = by_end (Contains-append_cases (payloads_of h.ends) (payload_lists (untold_by x.link)) list (subst (λ ls. Contains ls list) (payloads-push h.ends (slot_of e x)) there))

  pages-more : (n : Name) → free_pages new + pages_of_context (context_in new n (entered h queues e x)) ≡ free_pages old + pages_of_context (context_in old n h)
  pages-more n =
      let after-pages = pages-are new (entered h queues e x) nothing n entered-holding in
      let before-pages = pages-are new h nothing n still in
      let same = ap pages_of_context (context-same old new h n agree) in
      let more = sum_by_push (λ y. payload_pages new (untold_at y)) h.ends (slot_of e x) in
      let here = ap (payload_pages new) untold in
      let took = after.come.taken.free in
      sum-up (free_pages new) (free_pages old) (payload_pages new after.queue.items) _ _ _ _ _ _ _ after-pages before-pages same more here took
    where
      sum-up : (fn fo p ca cb co r en en' pu : ℕ) → ca ≡ r + en' → cb ≡ r + en → cb ≡ co → en' ≡ en + pu → pu ≡ p → fn + p ≡ fo → fn + ca ≡ fo + co
      sum-up fn fo p ca cb co r en en' pu one two three four five six = omega arith

  pub entered-moves : Moves old new h (entered h queues e x)
  entered-moves = record {
    pages = after.come.taken.pages;
    others = λ list lives not-own. kept-list old new after.queue.items list after.come.taken lives;
    fresh = fresh-list;
    free = pages-more;
  }

  -- ---- what it is

  here-shown : end_of new queues (slot_of e x) ≡ moved_end (end_of_image c e)
  here-shown =
      let names : keys_of queues ≡ map (λ q. q.name) c.queues = places.names ∙ part-names old c (length h.ends) h part in
      end-shown old new c e h.regions x _ own after refl (ap (λ ks. get_or ks e.send_cq []) names) (ap (λ ks. get_or ks e.recv_cq []) names)

  image-next : take (suc (length h.ends)) (moved (context_of c)).ends ≡ take (length h.ends) (moved (context_of c)).ends ++ moved_end (end_of_image c e) ∷ []
  unfolding moved context_of
  image-next =
      let both = map-map moved_end (end_of_image c) c.ends in
      ap (take (suc (length h.ends))) both ∙ (take-push (λ y. moved_end (end_of_image c y)) c.ends (length h.ends) e next ∙ ap (λ xs. take (length h.ends) xs ++ moved_end (end_of_image c e) ∷ []) (sym both))

  entered-ends : map (end_of new queues) (h.ends ++ slot_of e x ∷ []) ≡ take (length (h.ends ++ slot_of e x ∷ [])) (moved (context_of c)).ends
  entered-ends =
      let others : map (end_of new queues) h.ends ≡ take (length h.ends) (moved (context_of c)).ends = ends-named new h.queues queues h.ends places.names ∙ part-ends new c (length h.ends) h still-part in
      map-append (end_of new queues) h.ends (slot_of e x ∷ [])
      ∙ (ap (λ xs. xs ++ end_of new queues (slot_of e x) ∷ []) others
      ∙ (ap (λ y. take (length h.ends) (moved (context_of c)).ends ++ y ∷ []) here-shown
      ∙ (sym image-next ∙ ap (λ n. take n (moved (context_of c)).ends) (sym (count-push h.ends (slot_of e x))))))

  pub entered-part : IsPart new c (length (h.ends ++ slot_of e x ∷ [])) (entered h queues e x)
  unfolding context_in
  entered-part = record {
    domains = part.domains;
    regions = part-regions new c (length h.ends) h still-part;
    queues = places.shown ∙ part.queues;
    ends = entered-ends;
  }

-- ---- nothing came

pub alike-moves : (old new : Pool) (h : Holding) → IsContext old h → IsAlike old new → Moves old new h h
alike-moves old new h is alike = record {
  pages = alike.pages;
  others = λ list lives not-own. alike.lists list;
  fresh = λ list k. inl k;
  free = λ n. let f = alike.free in let same = ap pages_of_context (context-same old new h n (λ list k. alike.lists list)) in omega (arith, f, same);
}

pub alike-kept : (old new : Pool) (h s : Holding) (ends : List (Name × EndSlot)) → h ≡ s → ends ≡ h.ends → IsContext old s → IsAlike old new → Moves old new s (record h { ends = ends })
alike-kept old new h s ends same put is alike =
    subst (λ es. Moves old new s (record h { ends = es })) (sym put) (subst (λ k. Moves old new s k) (sym same) (alike-moves old new s is alike))

-- ---- as a call sees it

-- a context is what comes of an image up to one of its ends, which is the next
pub record IsNext (pool : Pool) (c : ContextImage) (e : EndImage) (h : Holding) : Type 0 where
  pub law : IsLawful c
  pub is : IsContext pool h
  pub part : IsPart pool c (length h.ends) h
  pub next : slice_get c.ends (length h.ends) ≡ Some e

pub next-of : (pool : Pool) (c : ContextImage) (e : EndImage) (h s : Holding) → h ≡ s → IsLawful c → IsContext pool s → IsPart pool c (length s.ends) s → slice_get c.ends (length s.ends) ≡ Some e → IsNext pool c e h
next-of pool c e h s same law is part next = subst (IsNext pool c e) (sym same) (record { law = law; is = is; part = part; next = next })

module _ {pool : Pool} {c : ContextImage} {e : EndImage} {h : Holding} (n : IsNext pool c e h) where
  pub next-own : IsLawfulEnd c e
  next-own = next-lawful c (length h.ends) e n.law n.next

  pub next-may : All (MayCome h.regions (name_at c.domains e.domain)) e.untold
  next-may = all-may pool c h.regions (part-regions pool c (length h.ends) h n.part) e.domain e.untold next-own.requests

  pub next-send : e.send_cq < length h.queues
  next-send = subst (λ k. e.send_cq < k) (sym (part-count pool c (length h.ends) h n.part)) next-own.send_cq

  pub next-recv : e.recv_cq < length h.queues
  next-recv = subst (λ k. e.recv_cq < k) (sym (part-count pool c (length h.ends) h n.part)) next-own.recv_cq

  pub next-sends : length e.untold ≤ 256
  next-sends = let a = next-own.untold_fit in let b = next-own.few_sends in omega (arith, a, b)

  pub next-receives : length e.unused ≤ 256
  next-receives = let a = next-own.unused_fit in let b = next-own.few_receives in omega (arith, a, b)

  pub next-room : HasPlaces h.queues e
  next-room = has-places pool c h n.law n.is n.part e n.next

  pub next-absent : lookup (bytes_eq e.name) h.ends ≡ None
  next-absent = end-absent pool c e h n.law n.is n.part n.next

  module _ {new : Pool} {queues : List (Name × Queue)} {x : Endpoint} (after : IsEndAfter pool new h.regions c e x) (places : AreReservedFor h.queues queues e) where
    pub next-context : (ends : List (Name × EndSlot)) → ends ≡ h.ends ++ slot_of e x ∷ [] → IsContext new (record h { queues = queues; ends = ends })
    next-context ends put = subst (λ es. IsContext new (record h { queues = queues; ends = es })) (sym put) (record { is = entered-holding pool new c e h queues x n.law n.is n.part n.next after places })

    pub next-moves : (ends : List (Name × EndSlot)) (s : Holding) → h ≡ s → ends ≡ h.ends ++ slot_of e x ∷ [] → Moves pool new s (record h { queues = queues; ends = ends })
    next-moves ends s same put = subst (λ k. Moves pool new k (record h { queues = queues; ends = ends })) same (subst (λ es. Moves pool new h (record h { queues = queues; ends = es })) (sym put) (entered-moves pool new c e h queues x n.law n.is n.part n.next after places))

    pub next-part : (ends : List (Name × EndSlot)) → ends ≡ h.ends ++ slot_of e x ∷ [] → IsPart new c (length ends) (record h { queues = queues; ends = ends })
    next-part ends put = subst (λ es. IsPart new c (length es) (record h { queues = queues; ends = es })) (sym put) (entered-part pool new c e h queues x n.law n.is n.part n.next after places)

pub one-more : {A : Type 0} (xs ys : List A) (x : A) (s : List A) → ys ≡ xs ++ x ∷ [] → xs ≡ s → length ys ≡ length s + 1
one-more xs ys x s put same = ap length put ∙ (count-push xs x ∙ (ap (λ zs. suc (length zs)) same ∙ omega arith))

pub slot-same : (es : List (Name × EndSlot)) (e : EndImage) (x : Endpoint) (send recv : ℕ) → send ≡ e.send_cq → recv ≡ e.recv_cq → es ++ (e.name, record { send = send; recv = recv; endpoint = x }) ∷ [] ≡ es ++ slot_of e x ∷ []
slot-same es e x send recv one two =
    ap {A = ℕ} (λ n. es ++ (e.name, record { send = n; recv = recv; endpoint = x }) ∷ []) one
    ∙ ap {A = ℕ} (λ n. es ++ (e.name, record { send = e.send_cq; recv = n; endpoint = x }) ∷ []) two
