-- What a step of a device does to the ends of its contexts.
use Rattle.std.proofs.Common.{arith, ◌≡◌, ◌≤◌, ◌<◌, ℕ, ◌+◌, ◌*◌, ◌++◌, List, [], ◌∷◌, map, Bool, true, false, Option, Some, None, refl, sym, ap, ◌∙◌, subst, if◌then◌else◌, bytes_eq}
use Rattle.std.specs.Prelude.{◌==◌, ◌&&◌, ◌||◌, not, codes, option_map}
use Rattle.rdma_types.specs.declared.answers.ExpiryIgnored.{ExpiryIgnored}
use Rattle.rdma_types.specs.declared.answers.Refusal.{Refusal}
use Rattle.rdma_types.specs.declared.answers.Refusal.TheVariants as refusals
use Rattle.rdma_types.specs.declared.names.Name.{Name}
use Rattle.rdma_types.specs.declared.requests.Address.{Address}
use Rattle.rdma_types.specs.declared.requests.Request.{Request}
use Rattle.rdma_types.specs.Causes.{Cause, cause, first_cause}
use Rattle.rdma_types.specs.Lists.{has_name, named, without}
use Rattle.protocol.specs.declared.events.Event.{Event}
use Rattle.protocol.specs.declared.events.Event.TheVariants as event
use Rattle.protocol.specs.declared.images.ContextImage.{ContextImage}
use Rattle.protocol.specs.DeviceStep as device
use Rattle.protocol.specs.DeviceStep.{Found, device_step, done_by, found_in, found_link, ends_with}
use Rattle.protocol.specs.EndWords.{linked, with_sender}
use Rattle.protocol.specs.Images as images
use Rattle.protocol.specs.Images.{moved, moved_end, moved_link}
use Rattle.protocol.specs.Refusals.{has_context, has_end, refusal_of}
use Rattle.protocol.specs.Requester.{Transmission, SendsResume, Waits, IsIdle, WindowIsFull, ReadsAreFull, IsFenced, Sends, transmission, transmitted, not_counted}
use Rattle.protocol.specs.State.{Context, Device, End, HuskEntry, Link, Sender, Running, Resuming, context_at, end_at, fresh_link, no_context, no_end}
use Rattle.protocol.specs.Wire.{Packet, is_control, packet_of}
use Rattle.law_simulation.proofs.relation.Tables.{name-named_there}
use Rattle.law_orders.proofs.Tame.{AllOf, IsTame, IsTameContext, IsTameEnd, IsTameLink, all_stored, completing_holds, ended_holds, linked_holds, of_two, queue_holds, takes_holds}

-- ---- contexts and devices

-- the context of that name is the one that moves
abbrev pub is_mover : Name → Bool
is_mover n = bytes_eq n (codes "b")

abbrev pub IsTameHere : ℕ → Context → Type 0
IsTameHere n c = IsTameContext n (is_mover c.name) c.name c

abbrev pub IsTameDevice : ℕ → Device → Type 0
IsTameDevice n d = AllOf (IsTameHere n) d.contexts

all_named : {A : Type 0} (P : A → Type 0) (name : A → Name) (none : A) (n : Name) (xs : List A) → AllOf P xs → P none → P (named name none n xs)
unfolding named
all_named P name none n [] all h = h
all_named {A} P name none n (x ∷ xs) all h = by (bytes_eq (name x) n) (all_named P name none n xs all.1 h)
  where
    by : (b : Bool) → P (named name none n xs) → P (if b then x else named name none n xs)
    by true later = all.0
    by false later = later

all_found : {A : Type 0} (P : A → Type 0) (name : A → Name) (none : A) (n : Name) (xs : List A) → AllOf P xs → has_name name n xs ≡ true → P (named name none n xs)
unfolding named has_name
all_found P name none n [] all there = absurd (cc)
all_found {A} P name none n (x ∷ xs) all there = by (bytes_eq (name x) n) there (all_found P name none n xs all.1)
  where
    by : (b : Bool) → (b || has_name name n xs) ≡ true → (has_name name n xs ≡ true → P (named name none n xs)) → P (if b then x else named name none n xs)
    by true h later = all.0
    by false h later = later h

all_pushed : {A : Type 0} (P : A → Type 0) (x : A) (xs : List A) → AllOf P xs → P x → AllOf P (xs ++ x ∷ [])
all_pushed P x [] all h = (h, tt)
all_pushed P x (y ∷ xs) all h = (all.0, all_pushed P x xs all.1 h)

all_without : {A : Type 0} (P : A → Type 0) (name : A → Name) (n : Name) (xs : List A) → AllOf P xs → AllOf P (without name n xs)
unfolding without
all_without P name n [] all = tt
all_without {A} P name n (x ∷ xs) all = by (bytes_eq (name x) n) (all_without P name n xs all.1)
  where
    by : (b : Bool) → AllOf P (without name n xs) → AllOf P (if b then xs else x ∷ without name n xs)
    by true later = all.1
    by false later = (all.0, later)

-- another context of the name of one that is there
pub context_holds : (n : ℕ) (d : Device) (c c' : Context) → IsTameDevice n d → IsTameContext n (is_mover c.name) c.name c' → IsTameDevice n (device.with_context d c')
unfolding device.with_context
context_holds n d c c' all h =
    all_stored (IsTameHere n) (λ x. x.name) c'.name c' d.contexts all
    (record { named = refl; ends = subst (λ k. AllOf (IsTameEnd n (is_mover k)) c'.ends) (sym h.named) h.ends })

-- the context of a name
pub here_holds : (n : ℕ) (d : Device) (name : Name) → IsTameDevice n d → IsTameHere n (context_at d name)
here_holds n d name all = all_named (IsTameHere n) (λ x. x.name) no_context name d.contexts all (record { named = refl; ends = tt })

-- ---- links

sender_tame : (n : ℕ) (moves : Bool) (l : Link) (s : Sender) → IsTame n moves l → IsTame n moves (with_sender l s)
unfolding with_sender
sender_tame n moves l s t = record { peer = t.peer; resuming = t.resuming; ended = t.ended }

-- the end of a name, which is there
module _ (n : ℕ) (d : Device) (all : IsTameDevice n d) where
  abbrev moves_at : Name → Bool
  moves_at c = is_mover (context_at d c).name

  abbrev Stays : device.Step → Type 0
  Stays s = IsTameDevice n s.device

  pub end_tame : (c x : Name) → has_end (context_at d c) x ≡ true → IsTameEnd n (moves_at c) (end_at (context_at d c) x)
  end_tame c x there = all_found (IsTameEnd n (moves_at c)) (λ z. z.name) no_end x (context_at d c).ends (here_holds n d c all).ends there

  -- a link in the place of one
  link_stays : (c : Name) (e : End) (l : Link) → IsTameEnd n (moves_at c) e → IsTame n (moves_at c) l → IsTameDevice n (device.with_context d (linked (context_at d c) e l))
  link_stays c e l e_tame tame = context_holds n d (context_at d c) _ all (linked_holds n (moves_at c) (context_at d c).name (context_at d c) e l (here_holds n d c all) e_tame.number tame)

  stays_if : (b : Bool) (s t : device.Step) → Stays s → Stays t → Stays (if b then s else t)
  stays_if true s t h k = h
  stays_if false s t h k = k

  device_if : (b : Bool) (x y : Context) → IsTameDevice n (device.with_context d x) → IsTameDevice n (device.with_context d y) → IsTameDevice n (device.with_context d (if b then x else y))
  device_if true x y h k = h
  device_if false x y h k = k

  module _ (c : Name) (e : End) (e_tame : IsTameEnd n (moves_at c) e) where
    posts_stays : (o : Option Link) (r : Request) → IsTameLink n (moves_at c) o → Stays (device.posts_at d (context_at d c) e o r)
    unfolding device.posted_at
    posts_stays None r tame = all
    posts_stays (Some l) r tame =
        device_if l.ended _ _ (context_holds n d (context_at d c) _ all (completing_holds n (moves_at c) (context_at d c).name (context_at d c) e.send_cq _ (here_holds n d c all)))
        (link_stays c e _ e_tame (sender_tame n (moves_at c) l _ tame))

    sends_stays : (l : Link) (t : Transmission) → IsTame n (moves_at c) l → Stays (device.sends_by d (context_at d c) e l t)
    unfolding device.sends_piece transmitted
    sends_stays l SendsResume tame = all
    sends_stays l Waits tame = all
    sends_stays l IsIdle tame = all
    sends_stays l WindowIsFull tame = all
    sends_stays l ReadsAreFull tame = all
    sends_stays l IsFenced tame = all
    sends_stays l (Sends x) tame = link_stays c e _ e_tame (sender_tame n (moves_at c) l _ tame)

    transmits_stays : (o : Option Link) → IsTameLink n (moves_at c) o → Stays (device.at_link d o (λ l. device.sends_by d (context_at d c) e l (transmission l)))
    transmits_stays None tame = all
    transmits_stays (Some l) tame = sends_stays l (transmission l) tame

    counts_stays : (l : Link) → IsTame n (moves_at c) l → l.receiver.expected ≤ n → Stays (device.counts d (context_at d c) e l)
    unfolding device.counts
    counts_stays l tame few =
        stays_if (l.sender.spent == l.terms.retry) _ _
        (context_holds n d (context_at d c) _ all (ended_holds n (moves_at c) (context_at d c).name (context_at d c) e l _ (here_holds n d c all) e_tame.number tame.peer few))
        (link_stays c e _ e_tame (sender_tame n (moves_at c) l _ tame))

    expires_by_stays : (l : Link) (o : Option ExpiryIgnored) → IsTame n (moves_at c) l → l.receiver.expected ≤ n → Stays (device.expires_by d (context_at d c) e l o)
    expires_by_stays l (Some w) tame few = all
    expires_by_stays l None tame few = counts_stays l tame few

    expires_stays : (o : Option Link) → IsTameLink n (moves_at c) o → ((l : Link) → o ≡ Some l → l.receiver.expected ≤ n) → Stays (device.at_link d o (λ l. device.expires_by d (context_at d c) e l (not_counted l)))
    expires_stays None tame few = all
    expires_stays (Some l) tame few = expires_by_stays l (not_counted l) tame (few l refl)

    over_stays : (o : Option Link) → IsTameLink n (moves_at c) o → Stays (device.at_link d o (λ l. device.waits_out d (context_at d c) e l))
    over_stays None tame = all
    over_stays (Some l) tame = stays_if l.sender.rnr_wait _ _ (link_stays c e _ e_tame (sender_tame n (moves_at c) l _ tame)) all

  -- ---- arrivals

  husk_stays : (from : Address) (p : Packet) (hs : List HuskEntry) → Stays (device.at_husk d from p hs)
  husk_stays from p [] = all
  husk_stays from p (h ∷ hs) = stays_if (is_control p) _ _ all all

  -- what is found is tame
  pub record IsTameFound (f : Found) : Type 0 where
    pub context : IsTameHere n f.context
    pub end : IsTameEnd n (is_mover f.context.name) f.end
    pub link : IsTame n (is_mover f.context.name) f.link

  link_found : (c : Context) (e : End) (o : Option Link) (more : List Found) → IsTameHere n c → IsTameEnd n (is_mover c.name) e → IsTameLink n (is_mover c.name) o → AllOf IsTameFound more → AllOf IsTameFound (found_link c e o more)
  link_found c e None more c_tame e_tame tame later = later
  link_found c e (Some l) more c_tame e_tame tame later = (record { context = c_tame; end = e_tame; link = tame }, later)

  ends_found : (k : ℕ) (c : Context) (es : List End) → IsTameHere n c → AllOf (IsTameEnd n (is_mover c.name)) es → AllOf IsTameFound (ends_with k c es)
  unfolding ends_with
  ends_found k c [] c_tame es_tame = tt
  ends_found k c (e ∷ es) c_tame es_tame = by (e.number == k) (ends_found k c es c_tame es_tame.1)
    where
      by : (b : Bool) → AllOf IsTameFound (ends_with k c es) → AllOf IsTameFound (if b then found_link c e e.link (ends_with k c es) else ends_with k c es)
      by true later = link_found c e e.link _ c_tame es_tame.0 es_tame.0.link later
      by false later = later

  all_both : {A : Type 0} (P : A → Type 0) (xs ys : List A) → AllOf P xs → AllOf P ys → AllOf P (xs ++ ys)
  all_both P [] ys one two = two
  all_both P (x ∷ xs) ys one two = (one.0, all_both P xs ys one.1 two)

  pub contexts_found : (k : ℕ) (cs : List Context) → AllOf (IsTameHere n) cs → AllOf IsTameFound (found_in k cs)
  unfolding found_in
  contexts_found k [] cs_tame = tt
  contexts_found k (c ∷ cs) cs_tame = all_both IsTameFound _ _ (ends_found k c c.ends cs_tame.0 cs_tame.0.ends) (contexts_found k cs cs_tame.1)

  -- the first that is found expects no number past n
  abbrev pub ExpectsFew : List Found → Type 0
  ExpectsFew [] = Unit {0}
  ExpectsFew (f ∷ fs) = f.link.receiver.expected ≤ n

  found_stays : (from : Address) (p : Packet) (fs : List Found) → AllOf IsTameFound fs → ExpectsFew fs → Stays (device.at_found d from p fs)
  found_stays from p [] tame few = husk_stays from p _
  found_stays from p (f ∷ fs) tame few =
      context_holds n d f.context _ all (takes_holds n (is_mover f.context.name) f.context.name f.end tame.0.end.number f.context f.link p tame.0.context tame.0.link few)

  packet_stays : (from : Address) (o : Option Packet) → ((p : Packet) → o ≡ Some p → ExpectsFew (found_in p.dest d.contexts)) → Stays (device.arrives_packet d from o)
  packet_stays from None few = all
  packet_stays from (Some p) few = found_stays from p (found_in p.dest d.contexts) (contexts_found p.dest d.contexts all) (few p refl)

  -- ---- a restore

  moved_tame : (l : Link) → IsTame n true l → IsTame n true (moved_link l)
  unfolding moved_link
  moved_tame l t = by l.ended refl
    where
      by : (b : Bool) → l.ended ≡ b → IsTame n true (if b then l else record l { moving = record l.moving { phase = Resuming; own = l.moving.own + 1 }; sender = record l.sender { next = l.sender.una; rnr_wait = false } })
      by true is = t
      by false is = record { peer = t.peer; resuming = λ q. refl; ended = t.ended }

  moved_link_tame : (o : Option Link) → IsTameLink n true o → IsTameLink n true (option_map moved_link o)
  moved_link_tame None t = tt
  moved_link_tame (Some l) t = moved_tame l t

  moved_ends_tame : (es : List End) → AllOf (IsTameEnd n true) es → AllOf (IsTameEnd n true) (map moved_end es)
  unfolding moved_end
  moved_ends_tame [] t = tt
  moved_ends_tame (e ∷ es) t = (record { number = t.0.number; link = moved_link_tame e.link t.0.link }, moved_ends_tame es t.1)

-- an image of the context that moves
pub record IsTameImage (n : ℕ) (i : ContextImage) : Type 0 where
  pub name : is_mover i.name ≡ true
  pub ends : AllOf (IsTameEnd n true) (images.context_of i).ends

image_named : (i : ContextImage) → (images.context_of i).name ≡ i.name
unfolding images.context_of
image_named i = refl

moved_named : (c : Context) → (moved c).name ≡ c.name
unfolding moved
moved_named c = refl

restored_here : (n : ℕ) (d : Device) (all : IsTameDevice n d) (i : ContextImage) → IsTameImage n i → IsTameHere n (moved (images.context_of i))
unfolding moved
restored_here n d all i t =
    let name : is_mover (images.context_of i).name ≡ true = ap is_mover (image_named i) ∙ t.name in
    record { named = refl; ends = subst (λ b. AllOf (IsTameEnd n b) (map moved_end (images.context_of i).ends)) (sym name) (moved_ends_tame n d all (images.context_of i).ends t.ends) }

-- ---- the end of an event is there

-- where the event of an end is not refused for it
ends_there : (a b h : Bool) (rest : List Cause) → first_cause (cause refusals.NoSuch (not a && not b) ∷ cause refusals.Stopped (not a) ∷ cause refusals.NoSuch (not h) ∷ rest) ≡ None → h ≡ true
unfolding first_cause
ends_there true b true rest none = refl
ends_there true b false rest none = absurd (cc)
ends_there false true h rest none = absurd (cc)
ends_there false false h rest none = absurd (cc)

-- ---- the table of work

-- what an event needs
abbrev pub Keeps : ℕ → Device → Event → Type 0
Keeps n d (event.PostSend o r) = Unit {0}
Keeps n d (event.Poll o most) = Unit {0}
Keeps n d (event.Transmit o) = Unit {0}
Keeps n d (event.Arrive from bytes) = (p : Packet) → packet_of bytes ≡ Some p → (all : IsTameDevice n d) → ExpectsFew n d all (found_in p.dest d.contexts)
Keeps n d (event.Expire o) = (l : Link) → has_end (context_at d o.context) o.name ≡ true → (end_at (context_at d o.context) o.name).link ≡ Some l → l.receiver.expected ≤ n
Keeps n d (event.RnrOver o) = Unit {0}
Keeps n d (event.Stop name alone) = Unit {0}
Keeps n d (event.Restore image) = IsTameImage n image
Keeps n d (event.Release name) = Unit {0}
Keeps n d other = ⊥

module _ (n : ℕ) (d : Device) (all : IsTameDevice n d) where
  work_done : (e : Event) → Keeps n d e → refusal_of d e ≡ None → IsTameDevice n (done_by d e).device
  unfolding refusal_of device.posts device.polls device.transmits device.expires device.rnr_over device.arrives device.stops device.restores device.releases
  work_done (event.PostSend o r) k none =
      let there = end_tame n d all o.context o.name (ends_there (has_context d o.context) _ (has_end (context_at d o.context) o.name) _ none) in
      posts_stays n d all o.context (end_at (context_at d o.context) o.name) there (end_at (context_at d o.context) o.name).link r there.link
  work_done (event.Poll o most) k none = context_holds n d (context_at d o.context) _ all (queue_holds n (is_mover (context_at d o.context).name) (context_at d o.context).name (context_at d o.context) _ (here_holds n d o.context all))
  work_done (event.Transmit o) k none =
      let there = end_tame n d all o.context o.name (ends_there (has_context d o.context) _ (has_end (context_at d o.context) o.name) _ none) in
      transmits_stays n d all o.context (end_at (context_at d o.context) o.name) there (end_at (context_at d o.context) o.name).link there.link
  work_done (event.Arrive from bytes) k none = packet_stays n d all from (packet_of bytes) (λ p is. k p is all)
  work_done (event.Expire o) k none =
      let has = ends_there (has_context d o.context) _ (has_end (context_at d o.context) o.name) _ none in
      let there = end_tame n d all o.context o.name has in
      expires_stays n d all o.context (end_at (context_at d o.context) o.name) there (end_at (context_at d o.context) o.name).link there.link (λ l is. k l has is)
  work_done (event.RnrOver o) k none =
      let there = end_tame n d all o.context o.name (ends_there (has_context d o.context) _ (has_end (context_at d o.context) o.name) _ none) in
      over_stays n d all o.context (end_at (context_at d o.context) o.name) there (end_at (context_at d o.context) o.name).link there.link
  work_done (event.Stop name alone) k none = all_without (IsTameHere n) (λ x. x.name) (context_at d name).name d.contexts all
  work_done (event.Restore image) k none = all_pushed (IsTameHere n) _ d.contexts all (restored_here n d all image k)
  work_done (event.Release name) k none = all
  work_done other k none = absurd k

  work_by : (e : Event) (r : Option Refusal) → Keeps n d e → refusal_of d e ≡ r → IsTameDevice n (device.by_refusal d e r).device
  work_by e (Some r) k is = all
  work_by e None k is = work_done e k is

  pub work_keeps : (e : Event) → Keeps n d e → IsTameDevice n (device_step d e).device
  unfolding device_step
  work_keeps e k = work_by e (refusal_of d e) k refl

-- ---- the table of the opening

-- what an event of the opening needs
abbrev pub Opens : ℕ → Event → Type 0
Opens id (event.MakeContext name) = Unit {0}
Opens id (event.MakeDomain o) = Unit {0}
Opens id (event.MakeRegion o domain base count rights) = Unit {0}
Opens id (event.MakeCq o capacity) = Unit {0}
Opens id (event.MakeQp o domain send_cq recv_cq send_depth recv_depth) = is_mover o.context ≡ true → of_two ≤ id * 65536
Opens id (event.Connect o peer partner terms) = is_mover o.context ≡ true → peer < of_two
Opens id other = ⊥

lives_there : (a b : Bool) (rest : List Cause) → first_cause (cause refusals.NoSuch (not a && not b) ∷ cause refusals.Stopped (not a) ∷ rest) ≡ None → a ≡ true
unfolding first_cause
lives_there true b rest none = refl
lives_there false true rest none = absurd (cc)
lives_there false false rest none = absurd (cc)

module _ (n : ℕ) (d : Device) (all : IsTameDevice n d) where
  -- another context of that name, with no other end
  same_ends : (c : Name) (c' : Context) → c'.name ≡ (context_at d c).name → c'.ends ≡ (context_at d c).ends → IsTameDevice n (device.with_context d c')
  same_ends c c' named ends = context_holds n d (context_at d c) c' all (record { named = named; ends = subst (AllOf (IsTameEnd n (is_mover (context_at d c).name))) (sym ends) (here_holds n d c all).ends })

  running_not : Running ≡ Resuming → ⊥
  running_not h = cc

  opened : (e : Event) → Opens d.id e → refusal_of d e ≡ None → IsTameDevice n (done_by d e).device
  unfolding refusal_of device.makes_context device.makes_domain device.makes_region device.makes_queue device.makes_end device.connects device.with_domain device.with_new_region device.with_new_queue device.with_new_end device.with_context
  opened (event.MakeContext name) k none = all_pushed (IsTameHere n) (device.new_context name) d.contexts all (record { named = refl; ends = tt })
  opened (event.MakeDomain o) k none = same_ends o.context (record (context_at d o.context) { domains = (context_at d o.context).domains ++ o.name ∷ [] }) refl refl
  opened (event.MakeRegion o domain base count rights) k none = same_ends o.context _ refl refl
  opened (event.MakeCq o capacity) k none = same_ends o.context _ refl refl
  opened (event.MakeQp o domain send_cq recv_cq send_depth recv_depth) k none =
      let lives = lives_there (has_context d o.context) _ _ none in
      let name : (context_at d o.context).name ≡ o.context = name-named_there (λ x. x.name) no_context o.context d.contexts lives in
      context_holds n d (context_at d o.context) _ all (record { named = refl; ends = all_pushed (IsTameEnd n (is_mover (context_at d o.context).name)) _ (context_at d o.context).ends (here_holds n d o.context all).ends (record { number = λ h. omega (arith, k (ap is_mover (sym name) ∙ h)); link = tt }) })
  opened (event.Connect o peer partner terms) k none =
      let lives = lives_there (has_context d o.context) _ _ none in
      let name : (context_at d o.context).name ≡ o.context = name-named_there (λ x. x.name) no_context o.context d.contexts lives in
      let there = end_tame n d all o.context o.name (ends_there (has_context d o.context) _ (has_end (context_at d o.context) o.name) _ none) in
      link_stays n d all o.context _ (fresh_link peer partner terms) there (record { peer = λ h. k (ap is_mover (sym name) ∙ h); resuming = λ h. absurd (running_not h); ended = λ h. absurd (cc) })
  opened other k none = absurd k

  opened_by : (e : Event) (r : Option Refusal) → Opens d.id e → refusal_of d e ≡ r → IsTameDevice n (device.by_refusal d e r).device
  opened_by e (Some r) k is = all
  opened_by e None k is = opened e k is

  pub opening_keeps : (e : Event) → Opens d.id e → IsTameDevice n (device_step d e).device
  unfolding device_step
  opening_keeps e k = opened_by e (refusal_of d e) k refl
