-- A context in which only bytes that may change have changed, besides completions and work.
use Rattle.std.proofs.Common.{arith, ◌≡◌, ◌≢◌, ◌⊎◌, ◌≤◌, ◌<◌, ◌+◌, ℕ, List, [], ◌∷◌, ◌++◌, map, length, true, false, Bool, refl, sym, ap, ◌∙◌, inl, inr, subst}
use Rattle.std.specs.Prelude.{◌==◌, bytes_eq, if◌then◌else◌, nat_lt, Some, slice_get}
use Rattle.std.proofs.lemmas.Bool.Decides.{eqb_tells, nat_tests}
use Rattle.rdma_types.specs.declared.names.Name.{Name}
use Rattle.rdma_types.specs.declared.requests.Completion.{Completion}
use Rattle.rdma_types.specs.declared.requests.Receive.{Receive}
use Rattle.rdma_types.specs.Lists.{at, has_name, named, store_named}
use Rattle.rdma_types.specs.Memory.{local_key, put}
use Rattle.rdma_types.specs.Objects.{CompletionQueue, Region, no_queue, no_region}
use Rattle.protocol.specs.EndWords.{completing, linked, with_end, with_entries, with_link, with_queue, with_unused}
use Rattle.protocol.specs.Memory.{region_of_key, stored, with_region, written}
use Rattle.protocol.specs.State.{Context, End, Link, end_at, no_end, queue_at}
use Rattle.law_devices.specs.Sound.{IsSoundContext, names_of_queues, plans}
use Rattle.law_devices.proofs.Regions.{All-at, IsPlace, at_key, plans-written}
use Rattle.law_devices.proofs.Rooms.{IsHere, has-same}
use Rattle.rdma_types.proofs.Tables.{named-store_other}
use Rattle.law_devices.proofs.Tables.{map-store, name-named_there, name_tells}
use Rattle.law_devices.specs.Sound.{IsSoundRegion}
use Rattle.law_arrivals.specs.Touched.{connection_of, end_frame, frame, queue_frame}
use Rattle.law_arrivals.proofs.Bytes.{at-store, put-apart}

-- the parts of a context, as a step of one of its ends leaves them
pub record Changes (may : Region → ℕ → Bool) (c : Context) (e : End) (x : Context) : Type 0 where
  pub name : x.name ≡ c.name
  pub domains : x.domains ≡ c.domains
  pub same_plans : plans x.regions ≡ plans c.regions
  pub queues : map queue_frame x.queues ≡ map queue_frame c.queues
  pub ends : map end_frame x.ends ≡ map end_frame c.ends
  pub bytes : (lkey k : ℕ) → may (region_of_key c lkey) k ≡ false → slice_get (region_of_key x lkey).bytes k ≡ slice_get (region_of_key c lkey).bytes k
  -- other ends, and queues where e does not complete, are as they were
  pub other_ends : (n : Name) → n ≢ e.name → end_at x n ≡ end_at c n
  pub other_queues : (n : Name) → n ≢ e.send_cq → n ≢ e.recv_cq → queue_at x n ≡ queue_at c n

pub changes-frame : (may : Region → ℕ → Bool) (c : Context) (e : End) (x : Context) → Changes may c e x → frame x ≡ frame c
unfolding frame
changes-frame may c e x h = cc (h.name, h.domains, h.same_plans, h.queues, h.ends)

pub changes-none : (may : Region → ℕ → Bool) (c : Context) (e : End) → Changes may c e c
changes-none may c e = record { name = refl; domains = refl; same_plans = refl; queues = refl; ends = refl; bytes = λ lkey k out. refl; other_ends = λ n far. refl; other_queues = λ n far further. refl }

-- .. and where more may change
pub changes-weaker : (may may' : Region → ℕ → Bool) (c : Context) (e : End) (x : Context) → ((r : Region) (k : ℕ) → may' r k ≡ false → may r k ≡ false) → Changes may c e x → Changes may' c e x
changes-weaker may may' c e x less h = record { name = h.name; domains = h.domains; same_plans = h.same_plans; queues = h.queues; ends = h.ends; bytes = λ lkey k out. h.bytes lkey k (less (region_of_key c lkey) k out); other_ends = h.other_ends; other_queues = h.other_queues }

-- ---- an end

-- two names that are not one
names-apart : (m n : Name) → (m ≡ n → ⊥) → bytes_eq m n ≡ false
names-apart m n far = elim (name_tells m n) [ inl t ↦ absurd (far t.1) | inr t ↦ t.0 ]

-- a queue that is neither of those of the end
neither : (e : End) (q n : Name) → (q ≡ e.send_cq) ⊎ (q ≡ e.recv_cq) → n ≢ e.send_cq → n ≢ e.recv_cq → q ≡ n → ⊥
neither e q n (inl is) far further same = far (sym same ∙ is)
neither e q n (inr is) far further same = further (sym same ∙ is)

pub changes-end : (may : Region → ℕ → Bool) (c x : Context) (e e' : End) → Changes may c e x → x.ends ≡ c.ends → IsHere c e → end_frame e' ≡ end_frame e → Changes may c e (with_end x e')
unfolding with_end region_of_key
changes-end may c x e e' h ends here same =
    let name : e'.name ≡ e.name = ap (λ (z : End). z.name) same in
    record {
      name = h.name;
      domains = h.domains;
      same_plans = h.same_plans;
      queues = h.queues;
      ends = ap (λ es. map end_frame (store_named (λ z. z.name) e'.name e' es)) ends
          ∙ map-store end_frame (λ z. z.name) no_end e'.name e' c.ends (ap (λ n. has_name (λ (z : End). z.name) n c.ends) name ∙ here.there)
          (same ∙ sym (ap (λ n. end_frame (named (λ z. z.name) no_end n c.ends)) name ∙ ap end_frame here.is));
      bytes = h.bytes;
      other_ends = λ n far. named-store_other (λ z. z.name) no_end e'.name n e' x.ends refl (names-apart e'.name n (λ is. far (sym is ∙ name))) ∙ ap (named (λ z. z.name) no_end n) ends;
      other_queues = h.other_queues;
    }

pub changes-linked : (may : Region → ℕ → Bool) (c x : Context) (e : End) (l : Link) (us : List Receive) (l' : Link) → Changes may c e x → x.ends ≡ c.ends → IsHere c e → e.link ≡ Some l → connection_of (Some l') ≡ connection_of (Some l) → Changes may c e (linked x (with_unused e us) l')
unfolding with_link with_unused
changes-linked may c x e l us l' h ends here there same = changes-end may c x e (record (record e { unused = us }) { link = Some l' }) h ends here (ap (λ o. record e { unused = []; link = o }) (same ∙ ap connection_of (sym there)))

-- ---- completions

names-frames : (qs : List CompletionQueue) → names_of_queues (map queue_frame qs) ≡ names_of_queues qs
names-frames [] = refl
names-frames (q ∷ qs) = ap (λ ns. q.name ∷ ns) (names-frames qs)

pub changes-completing : (may : Region → ℕ → Bool) (c : Context) (e : End) (x : Context) (q : Name) (es : List Completion) → (q ≡ e.send_cq) ⊎ (q ≡ e.recv_cq) → Changes may c e x → has_name (λ z. z.name) q c.queues ≡ true → Changes may c e (completing x q es)
unfolding completing with_queue with_entries region_of_key
changes-completing may c e x q es one h there =
    let names : names_of_queues x.queues ≡ names_of_queues c.queues = sym (names-frames x.queues) ∙ (ap names_of_queues h.queues ∙ names-frames c.queues) in
    let here : has_name (λ z. z.name) q x.queues ≡ true = has-same c.queues x.queues q names ∙ there in
    let named_so : (queue_at x q).name ≡ q = name-named_there (λ z. z.name) no_queue q x.queues here in
    record {
      name = h.name;
      domains = h.domains;
      same_plans = h.same_plans;
      queues = map-store queue_frame (λ z. z.name) no_queue (queue_at x q).name (record (queue_at x q) { entries = (queue_at x q).entries ++ es }) x.queues
          (ap (λ n. has_name (λ (z : CompletionQueue). z.name) n x.queues) named_so ∙ here)
          (sym (ap (λ n. queue_frame (named (λ z. z.name) no_queue n x.queues)) named_so))
          ∙ h.queues;
      ends = h.ends;
      bytes = h.bytes;
      other_ends = h.other_ends;
      other_queues = λ n far further. named-store_other (λ z. z.name) no_queue (queue_at x q).name n (record (queue_at x q) { entries = (queue_at x q).entries ++ es }) x.queues refl (names-apart (queue_at x q).name n (λ is. neither e q n one far further (sym named_so ∙ is))) ∙ h.other_queues n far further;
    }

-- ---- bytes

apart-from : (off count k : ℕ) → (off ≤ k → k < off + count → ⊥) → (k < off) ⊎ (off + count ≤ k)
apart-from off count k out = by_test (nat_lt k off) refl (nat_lt k (off + count)) refl
  where
    by_test : (a : Bool) → nat_lt k off ≡ a → (b : Bool) → nat_lt k (off + count) ≡ b → (k < off) ⊎ (off + count ≤ k)
    by_test true t b u = inl (grind (arith, nat_tests, t))
    by_test false t false u = inr (grind (arith, nat_tests, u))
    by_test false t true u = absurd (out (grind (arith, nat_tests, t)) (grind (arith, nat_tests, u)))

abbrev mine : Context → ℕ → Region
mine c lkey = at local_key no_region lkey c.regions

abbrev changed : Context → ℕ → ℕ → List ℕ → Region
changed c lkey off new = record (mine c lkey) { bytes = put (mine c lkey).bytes off new }

-- bytes are written into a place of which each byte may change
pub changes-written : (may : Region → ℕ → Bool) (c : Context) (e : End) (lkey off : ℕ) (bytes : List ℕ) → IsSoundContext c → (bytes ≡ []) ⊎ IsPlace c.regions lkey off (length bytes)
    → ((k : ℕ) → off ≤ k → k < off + length bytes → may (region_of_key c lkey) k ≡ true) → Changes may c e (written c lkey off bytes)
unfolding written with_region stored region_of_key
changes-written may c e lkey off [] s place inside = changes-none may c e
changes-written may c e lkey off (b ∷ bs) s (inl none) inside = absurd (cc)
changes-written may c e lkey off (b ∷ bs) s (inr p) inside = record {
  name = refl;
  domains = refl;
  same_plans = plans-written c lkey off (b ∷ bs) s.parts.keys (inr p);
  queues = refl;
  ends = refl;
  bytes = λ other k out. ap (λ (z : Region). slice_get z.bytes k) (at-store local_key no_region (mine c lkey).keys.local other (changed c lkey off (b ∷ bs)) c.regions refl) ∙ by_key other k out (eqb_tells (mine c lkey).keys.local other);
  other_ends = λ n far. refl;
  other_queues = λ n far further. refl;
}
  where
    found : mine c lkey ≡ p.region
    found = ap (mine c) (sym p.key) ∙ at_key c.regions p.i p.region s.parts.keys p.there

    key : (mine c lkey).keys.local ≡ lkey
    key = ap local_key found ∙ p.key

    fits : off + length (b ∷ bs) ≤ length (mine c lkey).bytes
    fits =
        let whole = (All-at (IsSoundRegion c.domains) c.regions p.i p.region s.parts.regions p.there).whole in
        let size : length (mine c lkey).bytes ≡ length p.region.bytes = ap (λ (z : Region). length z.bytes) found in
        omega (arith, p.inside, whole, size)

    by_key : (other k : ℕ) → may (mine c other) k ≡ false → ((((mine c lkey).keys.local == other) ≡ true) × ((mine c lkey).keys.local ≡ other)) ⊎ ((((mine c lkey).keys.local == other) ≡ false) × ((mine c lkey).keys.local ≢ other))
        → slice_get (if (mine c lkey).keys.local == other then changed c lkey off (b ∷ bs) else mine c other).bytes k ≡ slice_get (mine c other).bytes k
    by_key other k out (inl t) =
        let same : mine c other ≡ mine c lkey = ap (mine c) (sym t.1 ∙ key) in
        let no : may (mine c lkey) k ≡ false = subst (λ r. may r k ≡ false) same out in
        let apart = apart-from off (length (b ∷ bs)) k (λ low high. let yes = inside k low high in cc (yes, no)) in
        ap (λ t'. slice_get (if t' then changed c lkey off (b ∷ bs) else mine c other).bytes k) t.0 ∙ (put-apart (mine c lkey).bytes (b ∷ bs) off k fits apart ∙ ap (λ (z : Region). slice_get z.bytes k) (sym same))
    by_key other k out (inr t) = ap (λ t'. slice_get (if t' then changed c lkey off (b ∷ bs) else mine c other).bytes k) t.0
