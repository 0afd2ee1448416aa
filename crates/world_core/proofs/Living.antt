-- Which contexts live on a device after its step.
use Rattle.std.proofs.Common.{◌≡◌, ℕ, ◌==◌, ◌||◌, List, [], ◌∷◌, Bool, true, false, Option, Some, None, refl, sym, ap, ◌∙◌, bytes_eq, if◌then◌else◌}
use Rattle.std.specs.Prelude.{All}
use Rattle.std.proofs.lemmas.List.Elements.{All-append, All-cons, All-head, All-nil}
use Rattle.rdma_types.specs.declared.answers.ExpiryIgnored.{ExpiryIgnored}
use Rattle.rdma_types.specs.declared.answers.Refusal.{Refusal}
use Rattle.rdma_types.specs.declared.names.Name.{Name}
use Rattle.rdma_types.specs.declared.requests.Address.{Address}
use Rattle.rdma_types.specs.declared.requests.Receive.{Receive}
use Rattle.rdma_types.specs.declared.requests.Request.{Request}
use Rattle.rdma_types.specs.Causes.{Cause, first_cause}
use Rattle.rdma_types.specs.Lists.{has_name, without}
use Rattle.rdma_types.proofs.Tables.{has_name-store, name_is, same_name}
use Rattle.law_simulation.proofs.relation.Refusing.{context_is_there, name_at}
use Rattle.law_simulation.proofs.relation.Tables.{has_name-push}
use Rattle.protocol.specs.declared.events.Event.{Event}
use Rattle.protocol.specs.declared.events.Event.TheVariants as event
use Rattle.protocol.specs.DeviceStep as device
use Rattle.protocol.specs.DeviceStep.{Found, device_step, ends_with, found_in, found_link, husk_entries, posted_at, with_context}
use Rattle.protocol.specs.EndWords.{is_in_error, with_end, with_queue}
use Rattle.protocol.specs.Images.{context_of, moved}
use Rattle.protocol.specs.Memory.{with_region}
use Rattle.protocol.specs.Refusals.{causes_of, has_context, refusal_of, within}
use Rattle.protocol.specs.Requester.{Transmission, SendsResume, Waits, IsIdle, WindowIsFull, ReadsAreFull, IsFenced, Sends, not_counted, transmission}
use Rattle.protocol.specs.State.{Context, Device, End, HuskEntry, Link, context_at}
use Rattle.protocol.specs.Wire.{Packet, is_control, packet_of}
use Rattle.world_core.specs.Homes.{mover}
use Rattle.world_core.proofs.Taking.{completing-named, either_one, ended-named, linked-named, takes-named}

-- a context is not the one that an event makes, stops or restores
abbrev pub IsOther : Option Name → Name → Type 0
IsOther None m = Unit {0}
IsOther (Some n) m = bytes_eq n m ≡ false

-- ---- lists of contexts

or_same : (a b : Bool) → (a ≡ true → b ≡ true) → (a || b) ≡ b
or_same true b h = sym (h refl)
or_same false b h = refl

or_false : (a b : Bool) → b ≡ false → (a || b) ≡ a
or_false true b h = refl
or_false false b h = h

has-without : (n m : Name) (xs : List Context) → bytes_eq n m ≡ false → has_name (λ x. x.name) m (without (λ x. x.name) n xs) ≡ has_name (λ x. x.name) m xs
unfolding without has_name
has-without n m [] other = refl
has-without n m (x ∷ xs) other = by (bytes_eq x.name n) refl (has-without n m xs other)
  where
    by : (b : Bool) → bytes_eq x.name n ≡ b → has_name (λ y. y.name) m (without (λ y. y.name) n xs) ≡ has_name (λ y. y.name) m xs → has_name (λ y. y.name) m (if b then xs else x ∷ without (λ y. y.name) n xs) ≡ (bytes_eq x.name m || has_name (λ y. y.name) m xs)
    by true t later = sym (ap (λ b. b || has_name (λ y. y.name) m xs) (ap (λ k. bytes_eq k m) (name_is x.name n t) ∙ other))
    by false t later = ap (λ b. bytes_eq x.name m || b) later

-- ---- another context in the place of one

with-stays : (d d0 : Device) (n : Name) (c : Context) (m : Name) → d0.contexts ≡ d.contexts → has_context d n ≡ true → c.name ≡ n → has_context (with_context d0 c) m ≡ has_context d m
unfolding with_context
with-stays d d0 n c m same there name =
    has_name-store (λ x. x.name) c.name m c d0.contexts refl
    ∙ (ap (λ cs. bytes_eq c.name m || has_name (λ x. x.name) m cs) same
    ∙ or_same (bytes_eq c.name m) (has_context d m) (λ is. ap (λ k. has_context d k) (sym (name_is c.name m is) ∙ name) ∙ there))

-- ---- the ends that are found

abbrev IsThere : List Context → Found → Type 0
IsThere all f = has_name (λ x. x.name) f.context.name all ≡ true

ends-there : (all : List Context) (n : ℕ) (c : Context) (es : List End) → has_name (λ x. x.name) c.name all ≡ true → All (IsThere all) (ends_with n c es)
unfolding ends_with
ends-there all n c [] is = All-nil (IsThere all)
ends-there all n c (e ∷ es) is = by (e.number == n) (ends-there all n c es is)
  where
    by_link : (o : Option Link) → All (IsThere all) (ends_with n c es) → All (IsThere all) (found_link c e o (ends_with n c es))
    by_link None later = later
    by_link (Some l) later = All-cons (IsThere all) (record { context = c; end = e; link = l }) (ends_with n c es) is later

    by : (b : Bool) → All (IsThere all) (ends_with n c es) → All (IsThere all) (if b then found_link c e e.link (ends_with n c es) else ends_with n c es)
    by true later = by_link e.link later
    by false later = later

founds-there : (all : List Context) (n : ℕ) (cs : List Context) → ((k : Name) → has_name (λ x. x.name) k cs ≡ true → has_name (λ x. x.name) k all ≡ true) → All (IsThere all) (found_in n cs)
unfolding found_in has_name
founds-there all n [] among = All-nil (IsThere all)
founds-there all n (c ∷ cs) among =
    All-append (IsThere all) (ends_with n c c.ends) (found_in n cs)
    (ends-there all n c c.ends (among c.name (ap (λ b. b || has_name (λ x. x.name) c.name cs) (same_name c.name))))
    (founds-there all n cs (λ k h. among k (later (bytes_eq c.name k) (has_name (λ x. x.name) k cs) h)))
  where
    later : (a b : Bool) → b ≡ true → (a || b) ≡ true
    later true b h = refl
    later false b h = h

-- ---- what each event does

module _ (d : Device) (m : Name) where
  stored : (d0 : Device) (n : Name) (c : Context) (more : List Cause) → d0.contexts ≡ d.contexts → first_cause (within d n (λ x. more)) ≡ None → c.name ≡ (context_at d n).name → has_context (with_context d0 c) m ≡ has_context d m
  stored d0 n c more same none name =
      let is : has_context d n ≡ true = context_is_there d n more none in
      with-stays d d0 n c m same is (name ∙ name_at d n is)

  posted : (n : Name) (e : End) (l : Option Link) (r : Request) → has_context d n ≡ true → has_context (device.posts_at d (context_at d n) e l r).device m ≡ has_context d m
  unfolding posted_at
  posted n e None r is = refl
  posted n e (Some l) r is = with-stays d d n _ m refl is (either_one (context_at d n).name l.ended _ _ (completing-named (context_at d n) _ _) (linked-named (context_at d n) e _) ∙ name_at d n is)

  received : (n : Name) (e : End) (r : Receive) → has_context d n ≡ true → has_context (device.receives d (context_at d n) e r).device m ≡ has_context d m
  unfolding device.receives with_end
  received n e r is = with-stays d d n _ m refl is (either_one (context_at d n).name (is_in_error e.link) _ _ (completing-named (context_at d n) _ _) refl ∙ name_at d n is)

  sent : (n : Name) (e : End) (l : Link) (t : Transmission) → has_context d n ≡ true → has_context (device.sends_by d (context_at d n) e l t).device m ≡ has_context d m
  unfolding device.sends_piece
  sent n e l SendsResume is = refl
  sent n e l Waits is = refl
  sent n e l IsIdle is = refl
  sent n e l WindowIsFull is = refl
  sent n e l ReadsAreFull is = refl
  sent n e l IsFenced is = refl
  sent n e l (Sends x) is = with-stays d d n _ m refl is (linked-named (context_at d n) e _ ∙ name_at d n is)

  transmitted : (n : Name) (e : End) (l : Option Link) → has_context d n ≡ true → has_context (device.at_link d l (λ k. device.sends_by d (context_at d n) e k (transmission k))).device m ≡ has_context d m
  transmitted n e None is = refl
  transmitted n e (Some l) is = sent n e l (transmission l) is

  either_device : (b : Bool) (s t : device.Step) → has_context s.device m ≡ has_context d m → has_context t.device m ≡ has_context d m → has_context (if b then s else t).device m ≡ has_context d m
  either_device true s t h k = h
  either_device false s t h k = k

  expired : (n : Name) (e : End) (l : Link) (o : Option ExpiryIgnored) → has_context d n ≡ true → has_context (device.expires_by d (context_at d n) e l o).device m ≡ has_context d m
  unfolding device.counts
  expired n e l (Some w) is = refl
  expired n e l None is =
      either_device (l.sender.spent == l.terms.retry) _ _
      (with-stays d d n _ m refl is (ended-named (context_at d n) e l _ ∙ name_at d n is))
      (with-stays d d n _ m refl is (linked-named (context_at d n) e _ ∙ name_at d n is))

  expired_at : (n : Name) (e : End) (l : Option Link) → has_context d n ≡ true → has_context (device.at_link d l (λ k. device.expires_by d (context_at d n) e k (not_counted k))).device m ≡ has_context d m
  expired_at n e None is = refl
  expired_at n e (Some l) is = expired n e l (not_counted l) is

  over : (n : Name) (e : End) (l : Option Link) → has_context d n ≡ true → has_context (device.at_link d l (λ k. device.waits_out d (context_at d n) e k)).device m ≡ has_context d m
  over n e None is = refl
  over n e (Some l) is = either_device l.sender.rnr_wait _ _ (with-stays d d n _ m refl is (linked-named (context_at d n) e _ ∙ name_at d n is)) refl

  husks : (from : Address) (p : Packet) (hs : List HuskEntry) → has_context (device.at_husk d from p hs).device m ≡ has_context d m
  husks from p [] = refl
  husks from p (h ∷ hs) = either_device (is_control p) _ _ refl refl

  found : (from : Address) (p : Packet) (fs : List Found) → All (IsThere d.contexts) fs → has_context (device.at_found d from p fs).device m ≡ has_context d m
  found from p [] all = husks from p (husk_entries p.dest d.husks)
  found from p (f ∷ fs) all = with-stays d d f.context.name _ m refl (All-head (IsThere d.contexts) f fs all) (takes-named f.context f.end f.link p)

  arrived : (from : Address) (o : Option Packet) → has_context (device.arrives_packet d from o).device m ≡ has_context d m
  arrived from None = refl
  arrived from (Some p) = found from p (found_in p.dest d.contexts) (founds-there d.contexts p.dest d.contexts (λ k h. h))

  done : (e : Event) → IsOther (mover e) m → first_cause (causes_of d e) ≡ None → has_context (device.done_by d e).device m ≡ has_context d m
  unfolding device.makes_context device.makes_domain device.makes_region device.makes_queue device.makes_end device.connects device.drops device.stores device.loads device.posts device.polls device.transmits device.expires device.rnr_over device.arrives device.stops device.restores device.releases device.with_domain device.with_new_region device.with_new_queue device.with_new_end with_region with_queue moved context_of
  done (event.MakeContext n) other h = has_name-push (λ x. x.name) m d.contexts (device.new_context n) ∙ or_false (has_context d m) (bytes_eq n m) other
  done (event.MakeDomain o) other h = stored d o.context _ _ refl h refl
  done (event.MakeRegion o domain base length rights) other h = stored (device.counting_key d) o.context _ _ refl h refl
  done (event.MakeCq o capacity) other h = stored d o.context _ _ refl h refl
  done (event.MakeQp o domain send_cq recv_cq send_depth recv_depth) other h = stored (device.counting_qp d) o.context _ _ refl h refl
  done (event.Connect o peer partner terms) other h = stored d o.context _ _ refl h (linked-named (context_at d o.context) _ _)
  done (event.DropRegion o) other h = stored d o.context _ _ refl h refl
  done (event.Store o at bytes) other h = stored d o.context _ _ refl h refl
  done (event.Load o at length) other h = refl
  done (event.PostSend o r) other h = posted o.context _ _ r (context_is_there d o.context _ h)
  done (event.PostRecv o r) other h = received o.context _ r (context_is_there d o.context _ h)
  done (event.Poll o most) other h = stored d o.context _ _ refl h refl
  done (event.Transmit o) other h = transmitted o.context _ _ (context_is_there d o.context _ h)
  done (event.Arrive from bytes) other h = arrived from (packet_of bytes)
  done (event.Expire o) other h = expired_at o.context _ _ (context_is_there d o.context _ h)
  done (event.RnrOver o) other h = over o.context _ _ (context_is_there d o.context _ h)
  done (event.Stop n alone) other h =
      let name : (context_at d n).name ≡ n = name_at d n (context_is_there d n _ h) in
      ap (λ k. has_name (λ x. x.name) m (without (λ x. x.name) k d.contexts)) name ∙ has-without n m d.contexts other
  done (event.Restore image) other h = has_name-push (λ x. x.name) m d.contexts (moved (context_of image)) ∙ or_false (has_context d m) (bytes_eq image.name m) other
  done (event.Release n) other h = refl

  -- every context but the one that the event makes, stops or restores lives on the device where it did before
  pub lives-on : (e : Event) → IsOther (mover e) m → has_context (device_step d e).device m ≡ has_context d m
  unfolding device_step refusal_of
  lives-on e other = by (refusal_of d e) refl
    where
      by : (r : Option Refusal) → refusal_of d e ≡ r → has_context (device.by_refusal d e r).device m ≡ has_context d m
      by (Some r) h = refl
      by None h = done e other h
