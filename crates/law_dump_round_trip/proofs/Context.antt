-- A whole dump: what was read of one, and what reads back.
use Rattle.std.proofs.Common.{◌≡◌, ℕ, zero, suc, ◌+◌, ◌^◌, ◌<◌, ◌≤◌, not, ◌&&◌, Bool, true, false, nat_lt, nat_le, List, [], ◌∷◌, ◌++◌, length, map, refl, ap, sym, subst, ◌∙◌, arith, append_assoc, add-zero}
use Rattle.std.specs.Prelude.{◌||◌, ◌==◌, flat_map, Option, Some, None, bytes_eq, if◌then◌else◌}
use Rattle.std.proofs.lemmas.Bool.Decides.{nat_tests}
use Rattle.std.proofs.lemmas.List.{append-nil, length-map}
use Rattle.rdma_types.specs.declared.names.Name.{Name}
use Rattle.rdma_types.specs.Limits.{most_domains, most_ends, most_queues, most_regions}
use Rattle.rdma_types.proofs.Tables.{name_is, same_name}
use Rattle.protocol.specs.declared.dumps.DumpWhy.{DumpWhy}
use Rattle.protocol.specs.declared.dumps.DumpWhy.TheVariants as dump_why
use Rattle.protocol.specs.declared.images.ContextImage.{ContextImage}
use Rattle.protocol.specs.declared.images.CqImage.{CqImage}
use Rattle.protocol.specs.declared.images.EndImage.{EndImage}
use Rattle.protocol.specs.declared.images.RegionImage.{RegionImage}
use Rattle.protocol.specs.Bytes.{big_bytes}
use Rattle.protocol.specs.Images.{context_of, region_of_image}
use Rattle.protocol.specs.Refusals.{reserved}
use Rattle.protocol.specs.Dumps.{Reading, Reader, Good, Bad, ReadQueue, after, then_read, gives, raw, number, number_by, name_field, text, within, items, list_field, count_field, counted, region_field, region_bytes, queue_field, queue_names, queue_bytes, entry_field, end_field, end_bytes, overfull, no_overfull, at_end, is_magic, magic, context_field, read_dump, dump_bytes}
use Rattle.law_dump_round_trip.proofs.Exact.{AreBytes, Exact, Found, Both, Passes, Rises, exact_as, number_exact, then_exact, gives_exact, list_exact, raw_back, raw_only, back_bytes}
use Rattle.law_dump_round_trip.proofs.Things.{IsNewName, name_exact, RegionRule, regionRule_exact}
use Rattle.law_dump_round_trip.proofs.Groups.{EndRule, endRule_exact, QueueRule, queueRule_exact, bare_queue_field}

-- ---- the lists, without the places of capacities

-- a list of things under a limit, each beside those before it
abbrev pub ListRule : (A : Type 0) → ℕ → (List A → A → Type 0) → List A → Type 0
ListRule A limit P xs = Both ℕ (List A) (Passes 2 (λ n. nat_le n limit)) length (λ n ys. (length ys ≡ n) × Rises A P [] ys) xs

-- the name and the lists
unfoldable pub bare_context : ℕ → Reader ContextImage
bare_context version =
    then_read (name_field []) λ name.
    then_read (list_field 2 most_domains name_field) λ domains.
    then_read (list_field 2 most_regions (region_field (length domains))) λ regions.
    then_read (list_field 2 most_queues bare_queue_field) λ queues.
    then_read (list_field 2 most_ends (end_field version domains (map (region_of_image domains) regions) (length queues))) λ ends.
    gives (record { name = name; domains = domains; regions = regions; queues = queues; ends = ends })

-- the rules of a context but for the capacities
pub record ContextRule (version : ℕ) (x : ContextImage) : Type 0 where
  pub name : IsNewName [] x.name
  pub domains : ListRule Name most_domains IsNewName x.domains
  pub regions : ListRule RegionImage most_regions (RegionRule (length x.domains)) x.regions
  pub queues : ListRule CqImage most_queues QueueRule x.queues
  pub ends : ListRule EndImage most_ends (EndRule version x.domains (map (region_of_image x.domains) x.regions) (length x.queues)) x.ends

-- its bytes behind the version
abbrev pub context_bytes : ContextImage → List ℕ
context_bytes c = text c.name ++ (counted 2 text c.domains ++ (counted 2 region_bytes c.regions ++ (counted 2 queue_bytes c.queues ++ (counted 2 end_bytes c.ends ++ []))))

pub context_exact : (version : ℕ) → Exact ContextImage (bare_context version) (ContextRule version) context_bytes
unfolding bare_context
context_exact version =
    exact_as ContextImage _ _ _ _ _ _ (λ place bs. refl)
    (λ x h. record { first = h.name; others = record { first = h.domains; others = record { first = h.regions; others = record { first = h.queues; others = record { first = h.ends; others = refl } } } } })
    (λ x p. record { name = p.first; domains = p.others.first; regions = p.others.others.first; queues = p.others.others.others.first; ends = p.others.others.others.others.first })
    (λ x h. refl)
    (then_exact _ _ _ _ _ _ (λ (z : ContextImage). z.name) _ _ (name_exact []) (λ name.
    then_exact _ _ _ _ _ _ (λ (z : ContextImage). z.domains) _ _ (list_exact Name name_field IsNewName text name_exact 2 most_domains) (λ domains.
    then_exact _ _ _ _ _ _ (λ (z : ContextImage). z.regions) _ _ (list_exact RegionImage (region_field (length domains)) (RegionRule (length domains)) region_bytes (λ seen. regionRule_exact (length domains) seen) 2 most_regions) (λ regions.
    then_exact _ _ _ _ _ _ (λ (z : ContextImage). z.queues) _ _ (list_exact CqImage bare_queue_field QueueRule queue_bytes queueRule_exact 2 most_queues) (λ queues.
    then_exact _ _ _ _ _ _ (λ (z : ContextImage). z.ends) _ _ (list_exact EndImage (end_field version domains (map (region_of_image domains) regions) (length queues)) (EndRule version domains (map (region_of_image domains) regions) (length queues)) end_bytes (λ seen. endRule_exact version domains (map (region_of_image domains) regions) (length queues) seen) 2 most_ends) (λ ends. gives_exact ContextImage _)
    (λ v b f q. ap (λ (z : ContextImage). z.ends) q)) (λ v b f q. ap (λ (z : ContextImage). z.queues) q.others)) (λ v b f q. ap (λ (z : ContextImage). z.regions) q.others.others)) (λ v b f q. ap (λ (z : ContextImage). z.domains) q.others.others.others)) (λ v b f q. ap (λ (z : ContextImage). z.name) q.others.others.others.others))

-- ---- readings seen through a function

abbrev mapped : {A B : Type 0} → (A → B) → Reading A → Reading B
mapped f (Bad p w) = Bad p w
mapped f (Good x p r) = Good (f x) p r

mapped_then : {A B C : Type 0} (f : B → C) (r : Reading A) (k : A → Reader B) (k' : A → Reader C) → ((x : A) (p : ℕ) (bs : List ℕ) → mapped f (k x p bs) ≡ k' x p bs) → mapped f (after r k) ≡ after r k'
unfolding after
mapped_then f (Bad p w) k k' h = refl
mapped_then f (Good x p bs) k k' h = h x p bs

-- the reader of another list, whose items are seen through a function
mapped_into : {A B C D : Type 0} (g : A → C) (f : B → D) (r : Reading A) (s : Reading C) (k : A → Reader B) (k' : C → Reader D) → mapped g r ≡ s → ((x : A) (p : ℕ) (bs : List ℕ) → mapped f (k x p bs) ≡ k' (g x) p bs) → mapped f (after r k) ≡ after s k'
unfolding after
mapped_into g f (Bad p w) s k k' e h = ap (λ (t : Reading _). after t k') e
mapped_into g f (Good x p bs) s k k' e h = h x p bs ∙ ap (λ (t : Reading _). after t k') e

names_bare : (qs : List ReadQueue) → queue_names qs ≡ map (λ q. q.name) (map (λ q. q.queue) qs)
names_bare [] = refl
names_bare (q ∷ qs) = ap (λ (ns : List Name). q.queue.name ∷ ns) (names_bare qs)

queue_bare : (seen : List ReadQueue) (p : ℕ) (bs : List ℕ) → mapped (λ q. q.queue) (queue_field seen p bs) ≡ bare_queue_field (map (λ q. q.queue) seen) p bs
unfolding queue_field bare_queue_field
queue_bare seen p bs =
    mapped_then _ _ _ _ (λ name p bs. mapped_then _ _ _ _ (λ capacity p bs. mapped_then _ _ _ _ (λ entries p bs. refl)))
    ∙ ap (λ (ns : List Name). after (name_field ns p bs) (λ name. then_read (number 4 (within 1 16384)) λ capacity. then_read (list_field 4 capacity entry_field) λ entries. gives (record { name = name; capacity = capacity; entries = entries }))) (names_bare seen)

map_more : (qs : List ReadQueue) (q : ReadQueue) → map (λ x. x.queue) (qs ++ q ∷ []) ≡ map (λ x. x.queue) qs ++ q.queue ∷ []
map_more [] q = refl
map_more (x ∷ qs) q = ap (λ (ys : List CqImage). x.queue ∷ ys) (map_more qs q)

queues_bare : (n : ℕ) (seen : List ReadQueue) (p : ℕ) (bs : List ℕ) → mapped (map (λ q. q.queue)) (items n queue_field seen p bs) ≡ items n bare_queue_field (map (λ q. q.queue) seen) p bs
unfolding items
queues_bare zero seen p bs = refl
queues_bare (suc n) seen p bs =
    mapped_into (λ (q : ReadQueue). q.queue) (map (λ (q : ReadQueue). q.queue)) (queue_field seen p bs) (bare_queue_field (map (λ q. q.queue) seen) p bs) _ _ (queue_bare seen p bs)
    (λ x p bs. queues_bare n (seen ++ x ∷ []) p bs ∙ ap (λ (ys : List CqImage). items n bare_queue_field ys p bs) (map_more seen x))

list_bare : (p : ℕ) (bs : List ℕ) → mapped (map (λ q. q.queue)) (list_field 2 most_queues queue_field p bs) ≡ list_field 2 most_queues bare_queue_field p bs
list_bare p bs = mapped_then _ _ _ _ (λ n p bs. queues_bare n [] p bs)

-- ---- capacities

-- each of these queues has room for its entries and reservations
abbrev pub HaveRoom : ContextImage → List CqImage → Type 0
HaveRoom c [] = Unit {0}
HaveRoom c (q ∷ qs) = (nat_lt q.capacity (length q.entries + reserved (context_of c) q.name) ≡ false) × HaveRoom c qs

room_by : (c : ContextImage) (t : Bool) (place : ℕ) (o : Option ℕ) → (if t then Some place else o) ≡ None → (t ≡ false) × (o ≡ None)
room_by c true place o h = cc
room_by c false place o h = (refl, h)

room_only : (c : ContextImage) (qs : List ReadQueue) → overfull c qs ≡ None → HaveRoom c (map (λ q. q.queue) qs)
unfolding overfull
room_only c [] h = tt
room_only c (q ∷ qs) h = let r = room_by c _ q.place (overfull c qs) h in (r.0, room_only c qs r.1)

room_back : (c : ContextImage) (qs : List ReadQueue) → HaveRoom c (map (λ q. q.queue) qs) → overfull c qs ≡ None
unfolding overfull
room_back c [] h = refl
room_back c (q ∷ qs) (here, more) = rw here (room_back c qs more)

-- ---- from the bytes

-- what came first, and what came then
record Then (A B : Type 0) (r : Reading A) (k : A → Reader B) (b : B) (p : ℕ) (rest : List ℕ) : Type 0 where
  value : A
  place : ℕ
  more : List ℕ
  read : r ≡ Good value place more
  next : k value place more ≡ Good b p rest

good_then : {A B : Type 0} (r : Reading A) (k : A → Reader B) (b : B) (p : ℕ) (rest : List ℕ) → after r k ≡ Good b p rest → Then A B r k b p rest
unfolding after
good_then (Bad q w) k b p rest h = cc
good_then (Good x q m) k b p rest h = record { value = x; place = q; more = m; read = refl; next = h }

-- a context and its capacities
pub record IsRead (version place : ℕ) (bs : List ℕ) (c : ContextImage) : Type 0 where
  pub end : ℕ
  pub bare : bare_context version place bs ≡ Good c end []
  pub room : HaveRoom c c.queues

finish_by : (o : Option ℕ) (c0 c : ContextImage) (place : ℕ) (bs : List ℕ) (p : ℕ) (rest : List ℕ) → after (no_overfull o c0 place bs) at_end ≡ Good c p rest → (o ≡ None) × (c ≡ c0) × (bs ≡ [])
unfolding after
finish_by None c0 c place [] p rest h = (refl, (cc), refl)
finish_by None c0 c place (b ∷ bs) p rest h = cc
finish_by (Some at) c0 c place bs p rest h = cc

module _ (version place : ℕ) (bs : List ℕ) (name : Name) (p1 : ℕ) (b1 : List ℕ) (ds : List Name) (p2 : ℕ) (b2 : List ℕ) (rs : List RegionImage) (p3 : ℕ) (b3 : List ℕ) where
  bare_is : (qs : List CqImage) (p4 : ℕ) (b4 : List ℕ) (es : List EndImage) (p5 : ℕ) (b5 : List ℕ) → name_field [] place bs ≡ Good name p1 b1 → list_field 2 most_domains name_field p1 b1 ≡ Good ds p2 b2 → list_field 2 most_regions (region_field (length ds)) p2 b2 ≡ Good rs p3 b3 → list_field 2 most_queues bare_queue_field p3 b3 ≡ Good qs p4 b4 → list_field 2 most_ends (end_field version ds (map (region_of_image ds) rs) (length qs)) p4 b4 ≡ Good es p5 b5 → bare_context version place bs ≡ Good (record { name = name; domains = ds; regions = rs; queues = qs; ends = es }) p5 b5
  unfolding bare_context after
  bare_is qs p4 b4 es p5 b5 e1 e2 e3 e4 e5 = rw (e1, e2, e3, e4, e5) refl

  context_is : (qs : List ReadQueue) (p4 : ℕ) (b4 : List ℕ) (es : List EndImage) (p5 : ℕ) → name_field [] place bs ≡ Good name p1 b1 → list_field 2 most_domains name_field p1 b1 ≡ Good ds p2 b2 → list_field 2 most_regions (region_field (length ds)) p2 b2 ≡ Good rs p3 b3 → list_field 2 most_queues queue_field p3 b3 ≡ Good qs p4 b4 → list_field 2 most_ends (end_field version ds (map (region_of_image ds) rs) (length qs)) p4 b4 ≡ Good es p5 [] → overfull (record { name = name; domains = ds; regions = rs; queues = map (λ q. q.queue) qs; ends = es }) qs ≡ None → context_field version place bs ≡ Good (record { name = name; domains = ds; regions = rs; queues = map (λ q. q.queue) qs; ends = es }) p5 []
  unfolding context_field after
  context_is qs p4 b4 es p5 e1 e2 e3 e4 e5 e6 = rw (e1, e2, e3, e4, e5, e6) refl

pub context_only : (version place : ℕ) (bs : List ℕ) (c : ContextImage) (p : ℕ) (rest : List ℕ) → context_field version place bs ≡ Good c p rest → IsRead version place bs c
unfolding context_field
context_only version place bs c p rest h =
    let a = good_then (name_field [] place bs) _ c p rest h in
    let b = good_then (list_field 2 most_domains name_field a.place a.more) _ c p rest a.next in
    let d = good_then (list_field 2 most_regions (region_field (length b.value)) b.place b.more) _ c p rest b.next in
    let e = good_then (list_field 2 most_queues queue_field d.place d.more) _ c p rest d.next in
    let f = good_then (list_field 2 most_ends (end_field version b.value (map (region_of_image b.value) d.value) (length e.value)) e.place e.more) _ c p rest e.next in
    let queues : List CqImage = map (λ q. q.queue) e.value in
    let c0 : ContextImage = record { name = a.value; domains = b.value; regions = d.value; queues = queues; ends = f.value } in
    let g = finish_by (overfull c0 e.value) c0 c f.place f.more p rest f.next in
    let q : list_field 2 most_queues bare_queue_field d.place d.more ≡ Good queues e.place e.more = sym (list_bare d.place d.more) ∙ ap (mapped (map (λ (z : ReadQueue). z.queue))) e.read in
    let l : list_field 2 most_ends (end_field version b.value (map (region_of_image b.value) d.value) (length queues)) e.place e.more ≡ Good f.value f.place f.more = ap (λ (n : ℕ). list_field 2 most_ends (end_field version b.value (map (region_of_image b.value) d.value) n) e.place e.more) (length-map e.value (λ z. z.queue)) ∙ f.read in
    record {
      end = f.place;
      bare = bare_is version place bs a.value a.place a.more b.value b.place b.more d.value d.place d.more queues e.place e.more f.value f.place f.more a.read b.read d.read q l ∙ (ap (λ (z : ContextImage). Good z f.place f.more) (sym g.1) ∙ ap (λ (z : List ℕ). Good c f.place z) g.2);
      room = subst (λ (z : ContextImage). HaveRoom z z.queues) (sym g.1) (room_only c0 e.value g.0);
    }

-- ---- to the bytes

good_same : {A : Type 0} (x y : A) (p q : ℕ) (r s : List ℕ) → Good x p r ≡ Good y q s → (x ≡ y) × (p ≡ q) × (r ≡ s)
good_same x y p q r s h = ((cc), (cc), (cc))

abbrev with_queues : Name → List Name → List RegionImage → List CqImage → List EndImage → ContextImage
with_queues n ds rs qs es = record { name = n; domains = ds; regions = rs; queues = qs; ends = es }

mapped_good : {A B : Type 0} (f : A → B) (r : Reading A) (y : B) (p : ℕ) (rest : List ℕ) → mapped f r ≡ Good y p rest → (x : A) × (f x ≡ y) × (r ≡ Good x p rest)
mapped_good f (Bad q w) y p rest h = cc
mapped_good f (Good x q m) y p rest h =
    let a : f x ≡ y = cc in
    let b : q ≡ p = cc in
    let c : m ≡ rest = cc in
    (x, a, ap (λ (z : ℕ). Good x z m) b ∙ ap (λ (z : List ℕ). Good x p z) c)

-- a context that was read without the places of capacities is read with them where they have room
pub context_back : (version place : ℕ) (bs : List ℕ) (c : ContextImage) (p : ℕ) → bare_context version place bs ≡ Good c p [] → HaveRoom c c.queues → context_field version place bs ≡ Good c p []
unfolding bare_context
context_back version place bs c p h room =
    let a = good_then (name_field [] place bs) _ c p [] h in
    let b = good_then (list_field 2 most_domains name_field a.place a.more) _ c p [] a.next in
    let d = good_then (list_field 2 most_regions (region_field (length b.value)) b.place b.more) _ c p [] b.next in
    let e = good_then (list_field 2 most_queues bare_queue_field d.place d.more) _ c p [] d.next in
    let f = good_then (list_field 2 most_ends (end_field version b.value (map (region_of_image b.value) d.value) (length e.value)) e.place e.more) _ c p [] e.next in
    let q = mapped_good (map (λ (z : ReadQueue). z.queue)) (list_field 2 most_queues queue_field d.place d.more) e.value e.place e.more (list_bare d.place d.more ∙ e.read) in
    let c0 : ContextImage = record { name = a.value; domains = b.value; regions = d.value; queues = e.value; ends = f.value } in
    let same_end = good_same c0 c f.place p f.more [] f.next in
    let g : c0 ≡ c = same_end.0 in
    let fp : f.place ≡ p = same_end.1 in
    let fm : f.more ≡ [] = same_end.2 in
    let queued : map (λ (z : ReadQueue). z.queue) q.0 ≡ e.value = q.1 in
    let c1 : ContextImage = record { name = a.value; domains = b.value; regions = d.value; queues = map (λ (z : ReadQueue). z.queue) q.0; ends = f.value } in
    let same : c1 ≡ c = ap (λ (z : List CqImage). with_queues a.value b.value d.value z f.value) queued ∙ g in
    let len : length q.0 ≡ length e.value = sym (length-map q.0 (λ (z : ReadQueue). z.queue)) ∙ ap length queued in
    let l : list_field 2 most_ends (end_field version b.value (map (region_of_image b.value) d.value) (length q.0)) e.place e.more ≡ Good f.value f.place [] = ap (λ (n : ℕ). list_field 2 most_ends (end_field version b.value (map (region_of_image b.value) d.value) n) e.place e.more) len ∙ (f.read ∙ ap (λ (z : List ℕ). Good f.value f.place z) fm) in
    let fits : overfull c1 q.0 ≡ None = room_back c1 q.0 (subst (λ (z : ContextImage). HaveRoom z z.queues) (sym same) room) in
    context_is version place bs a.value a.place a.more b.value b.place b.more d.value d.place d.more q.0 e.place e.more f.value f.place a.read b.read d.read q.2 l fits
    ∙ (ap (λ (z : ContextImage). Good z f.place []) same ∙ ap (λ (z : ℕ). Good c z []) fp)

-- ---- the first fields

-- a dump in a version
pub record IsDump (bs : List ℕ) (c : ContextImage) : Type 0 where
  pub version : ℕ
  pub known : (version == 1 || version == 2) ≡ true
  pub rule : ContextRule version c
  pub room : HaveRoom c c.queues
  pub spelled : bs ≡ dump_bytes version c

grouped : (m v n ds rs qs es : List ℕ) → m ++ (v ++ (n ++ (ds ++ (rs ++ (qs ++ (es ++ [])))))) ≡ ((((((m ++ v) ++ n) ++ ds) ++ rs) ++ qs) ++ es)
grouped m v n ds rs qs es = simp (append_assoc, append-nil)

dump_grouped : (version : ℕ) (c : ContextImage) → magic ++ (big_bytes 2 version ++ context_bytes c) ≡ dump_bytes version c
unfolding dump_bytes
dump_grouped version c = grouped magic (big_bytes 2 version) (text c.name) (counted 2 text c.domains) (counted 2 region_bytes c.regions) (counted 2 queue_bytes c.queues) (counted 2 end_bytes c.ends)

magic_by : (t : Bool) (bytes : List ℕ) (place : ℕ) (bs x : List ℕ) (p : ℕ) (rest : List ℕ) → (if t then Good bytes place bs else Bad 0 dump_why.Magic) ≡ Good x p rest → (t ≡ true) × (bs ≡ rest)
magic_by true bytes place bs x p rest h = (refl, (cc))
magic_by false bytes place bs x p rest h = cc

magic_only : (bytes : List ℕ) (place : ℕ) (bs x : List ℕ) (p : ℕ) (rest : List ℕ) → is_magic bytes place bs ≡ Good x p rest → (bytes ≡ magic) × (bs ≡ rest)
unfolding is_magic
magic_only bytes place bs x p rest h = let m = magic_by (bytes_eq bytes magic) bytes place bs x p rest h in (name_is bytes magic m.0, m.1)

-- what is read is a dump
pub read_only : (bs : List ℕ) → AreBytes bs → (c : ContextImage) (p : ℕ) (rest : List ℕ) → read_dump bs ≡ Good c p rest → IsDump bs c
unfolding read_dump
read_only bs all c p rest h =
    let a = good_then (raw 8 0 bs) _ c p rest h in
    let b = good_then (is_magic a.value a.place a.more) _ c p rest a.next in
    let d = good_then (number_by dump_why.Version 2 (λ n. n == 1 || n == 2) b.place b.more) _ c p rest b.next in
    let t = raw_only 8 0 bs a.value a.place a.more a.read in
    let m = magic_only a.value a.place a.more b.value b.place b.more b.read in
    let rest_bytes : AreBytes a.more = back_bytes a.value a.more (subst (λ (y : List ℕ). AreBytes y) t.whole all) in
    let v = (number_exact dump_why.Version 2 (λ n. n == 1 || n == 2)).only b.place b.more (subst (λ (y : List ℕ). AreBytes y) m.1 rest_bytes) d.value d.place d.more d.read in
    let r = context_only d.value d.place d.more c p rest d.next in
    let x = (context_exact d.value).only d.place d.more v.bytes c r.end [] r.bare in
    record {
      version = d.value;
      known = v.keeps.test;
      rule = x.keeps;
      room = r.room;
      spelled = t.whole ∙ (ap (λ (y : List ℕ). y ++ a.more) m.0 ∙ (ap (λ (y : List ℕ). magic ++ y) (m.1 ∙ (v.spelled ∙ ap (λ (y : List ℕ). big_bytes 2 d.value ++ y) (x.spelled ∙ append-nil (context_bytes c)))) ∙ dump_grouped d.value c));
    }

-- the first fields, and the lists
opens : (version : ℕ) (rest : List ℕ) (c : ContextImage) (p : ℕ) → (version == 1 || version == 2) ≡ true → version < 256 ^ 2 → context_field version (8 + length (big_bytes 2 version)) rest ≡ Good c p [] → read_dump (magic ++ (big_bytes 2 version ++ rest)) ≡ Good c p []
unfolding read_dump after is_magic
opens version rest c p known fits h =
    let a : raw 8 0 (magic ++ (big_bytes 2 version ++ rest)) ≡ Good magic 8 (big_bytes 2 version ++ rest) = raw_back 8 magic refl 0 (big_bytes 2 version ++ rest) in
    let b : number_by dump_why.Version 2 (λ n. n == 1 || n == 2) 8 (big_bytes 2 version ++ rest) ≡ Good version (8 + length (big_bytes 2 version)) rest = (number_exact dump_why.Version 2 (λ n. n == 1 || n == 2)).back version (record { test = known; fits = fits }) 8 rest in
    rw a (rw b h)

small_version : (n : ℕ) → (n == 1 || n == 2) ≡ true → n < 256 ^ 2
small_version n h = grind (arith, nat_tests)

-- what is written reads back
pub read_back : (version : ℕ) (c : ContextImage) → (version == 1 || version == 2) ≡ true → ContextRule version c → HaveRoom c c.queues → (p : ℕ) × (read_dump (dump_bytes version c) ≡ Good c p [])
read_back version c known rule room =
    let place : ℕ = 8 + length (big_bytes 2 version) in
    let bare : bare_context version place (context_bytes c) ≡ Good c (place + length (context_bytes c)) [] = ap (λ (y : List ℕ). bare_context version place y) (sym (append-nil (context_bytes c))) ∙ (context_exact version).back c rule place [] in
    (place + length (context_bytes c), ap read_dump (sym (dump_grouped version c)) ∙ opens version (context_bytes c) c (place + length (context_bytes c)) known (small_version version known) (context_back version place (context_bytes c) c (place + length (context_bytes c)) bare room))
