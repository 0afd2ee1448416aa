-- What a step of a device does with the names of its contexts.
use Rattle.std.proofs.Common.{arith, ◌≡◌, ℕ, zero, suc, List, [], ◌∷◌, ◌++◌, map, true, false, Bool, refl, sym, ap, ◌∙◌}
use Rattle.std.specs.Prelude.{Option, Some, None, if◌then◌else◌, slice_get, ◌==◌, not}
use Rattle.rdma_types.specs.Causes.{Cause, first_cause}
use Rattle.rdma_types.specs.declared.answers.Answer.{Answer}
use Rattle.rdma_types.specs.declared.answers.Answer.TheVariants as answer
use Rattle.rdma_types.specs.declared.answers.ExpiryIgnored.{ExpiryIgnored}
use Rattle.rdma_types.specs.declared.answers.Refusal.{Refusal}
use Rattle.rdma_types.specs.declared.answers.Sent.{Sent}
use Rattle.rdma_types.specs.declared.names.Name.{Name}
use Rattle.rdma_types.specs.declared.requests.Address.{Address}
use Rattle.rdma_types.specs.declared.requests.Receive.{Receive}
use Rattle.rdma_types.specs.declared.requests.Request.{Request}
use Rattle.rdma_types.specs.declared.requests.WcStatus.TheVariants as status
use Rattle.rdma_types.specs.Lists.{has_name, store_named}
use Rattle.rdma_types.specs.Objects.{Posted}
use Rattle.protocol.specs.declared.events.Event.{Event}
use Rattle.protocol.specs.declared.events.Event.TheVariants as events
use Rattle.protocol.specs.DeviceStep as device
use Rattle.protocol.specs.DeviceStep.{Found, device_step, found_in, with_context}
use Rattle.protocol.specs.EndStep.{takes}
use Rattle.protocol.specs.EndWords.{completing, failed_receive, failed_request, is_in_error, linked, with_end, with_queue, with_sender, with_unused}
use Rattle.protocol.specs.Memory.{with_region}
use Rattle.protocol.specs.Refusals.{causes_of, has_context, refusal_of}
use Rattle.protocol.specs.Requester.{Transmission, SendsResume, Waits, IsIdle, WindowIsFull, ReadsAreFull, IsFenced, Sends, not_counted, transmission}
use Rattle.protocol.specs.State.{Device, Context, End, HuskEntry, Link, context_at, end_at, no_context}
use Rattle.protocol.specs.Wire.{Packet, is_control, packet_of}
use Rattle.law_devices.proofs.Founds.{within-context}
use Rattle.law_devices.proofs.Tables.{map-store, name-named_there}
use Rattle.law_settling.proofs.own_names.Naming.{ended_name, taken_name}
use Rattle.law_settling.proofs.places.Reaching.{first_found}
use Rattle.rdma_types.proofs.Tables.{same_name}

-- ---- no name comes or goes

pub record KeepsNames (d : Device) (s : device.Step) : Type 0 where
  pub id : s.device.id ≡ d.id
  pub names : map (λ c. c.name) s.device.contexts ≡ map (λ c. c.name) d.contexts
  pub image : s.outcome.image ≡ None

pub keeps_none : (d : Device) (a : Answer) (sent : List Sent) → KeepsNames d (device.gives d a sent)
keeps_none d a sent = record { id = refl; names = refl; image = refl }

if_keeps : (d : Device) (b : Bool) (s t : device.Step) → KeepsNames d s → KeepsNames d t → KeepsNames d (if b then s else t)
if_keeps d true s t h g = h
if_keeps d false s t h g = g

-- a context of a name that the device has is stored
keeps_stored : (d d' : Device) (x : Context) (a : Answer) (sent : List Sent) → d'.id ≡ d.id → d'.contexts ≡ d.contexts → has_context d x.name ≡ true → KeepsNames d (device.gives (with_context d' x) a sent)
unfolding with_context
keeps_stored d d' x a sent id contexts has = record {
  id = id;
  names =
      ap (λ (cs : List Context). map (λ c. c.name) (store_named (λ c. c.name) x.name x cs)) contexts
      ∙ map-store (λ (c : Context). c.name) (λ c. c.name) no_context x.name x d.contexts has (sym (name-named_there (λ (c : Context). c.name) no_context x.name d.contexts has));
  image = refl;
}

-- ---- at a context that is there

module _ (d : Device) (n : Name) (has : has_context d n ≡ true) where
  abbrev c : Context
  c = context_at d n

  kept_on : (d' : Device) (x : Context) (a : Answer) (sent : List Sent) → d'.id ≡ d.id → d'.contexts ≡ d.contexts → x.name ≡ c.name → KeepsNames d (device.gives (with_context d' x) a sent)
  kept_on d' x a sent id contexts name =
      keeps_stored d d' x a sent id contexts (ap (has_context d) (name ∙ name-named_there (λ (y : Context). y.name) no_context n d.contexts has) ∙ has)

  kept : (x : Context) (a : Answer) (sent : List Sent) → x.name ≡ c.name → KeepsNames d (device.gives (with_context d x) a sent)
  kept x a sent name = kept_on d x a sent refl refl name

  linked_name : (e : End) (l : Link) → (linked c e l).name ≡ c.name
  unfolding with_end
  linked_name e l = refl

  if_name : (b : Bool) (x y : Context) → x.name ≡ c.name → y.name ≡ c.name → (if b then x else y).name ≡ c.name
  if_name true x y h g = h
  if_name false x y h g = g

  posted_name : (e : End) (l : Link) (p : Posted) → (device.posted_at c e l p).name ≡ c.name
  unfolding device.posted_at completing with_queue with_end
  posted_name e l p = if_name l.ended (completing c e.send_cq (failed_request e.number status.Flush p ∷ [])) (linked c e (with_sender l (device.posting l.sender p))) refl refl

  received_name : (e : End) (r : Receive) → (if is_in_error e.link then completing c e.recv_cq (failed_receive e.number status.Flush r ∷ []) else with_end c (with_unused e (e.unused ++ r ∷ []))).name ≡ c.name
  unfolding completing with_queue with_end
  received_name e r = if_name (is_in_error e.link) (completing c e.recv_cq (failed_receive e.number status.Flush r ∷ [])) (with_end c (with_unused e (e.unused ++ r ∷ []))) refl refl

  at_link : (f : Link → device.Step) → ((l : Link) → KeepsNames d (f l)) → (r : Option Link) → KeepsNames d (device.at_link d r f)
  at_link f each None = keeps_none d answer.Done []
  at_link f each (Some l) = each l

  sends_keeps : (e : End) (l : Link) (t : Transmission) → KeepsNames d (device.sends_by d c e l t)
  unfolding device.sends_piece
  sends_keeps e l SendsResume = record { id = refl; names = refl; image = refl }
  sends_keeps e l Waits = keeps_none d _ _
  sends_keeps e l IsIdle = keeps_none d _ _
  sends_keeps e l WindowIsFull = keeps_none d _ _
  sends_keeps e l ReadsAreFull = keeps_none d _ _
  sends_keeps e l IsFenced = keeps_none d _ _
  sends_keeps e l (Sends x) = kept _ _ _ (linked_name e _)

  counts_keeps : (e : End) (l : Link) → KeepsNames d (device.counts d c e l)
  unfolding device.counts
  counts_keeps e l = if_keeps d (l.sender.spent == l.terms.retry) _ _ (kept _ _ _ (ended_name c e l status.RetryExceeded)) (kept _ _ _ (linked_name e _))

  expires_keeps : (e : End) (l : Link) (r : Option ExpiryIgnored) → KeepsNames d (device.expires_by d c e l r)
  expires_keeps e l None = counts_keeps e l
  expires_keeps e l (Some why) = keeps_none d _ _

  waits_keeps : (e : End) (l : Link) → KeepsNames d (device.waits_out d c e l)
  waits_keeps e l = if_keeps d l.sender.rnr_wait _ (device.answers d answer.NotWaiting) (kept _ _ _ (linked_name e _)) (keeps_none d _ _)

  posts_keeps : (e : End) (r : Request) (o : Option Link) → KeepsNames d (device.posts_at d c e o r)
  posts_keeps e r None = keeps_none d _ _
  posts_keeps e r (Some l) = kept _ _ _ (posted_name e l _)

-- ---- an arrival

has_at : (cs : List Context) (j : ℕ) (c : Context) → slice_get cs j ≡ Some c → has_name (λ x. x.name) c.name cs ≡ true
unfolding has_name
has_at [] j c h = absurd (cc)
has_at (x ∷ cs) zero c h = grind (arith, same_name c.name, h)
has_at (x ∷ cs) (suc j) c h = grind (arith, has_at cs j c h)

husk_keeps : (d : Device) (from : Address) (p : Packet) (hs : List HuskEntry) → KeepsNames d (device.at_husk d from p hs)
husk_keeps d from p [] = keeps_none d _ _
husk_keeps d from p (h ∷ hs) = if_keeps d (is_control p) _ _ (keeps_none d _ _) (keeps_none d _ _)

found_keeps : (d : Device) (from : Address) (p : Packet) (fs : List Found) → found_in p.dest d.contexts ≡ fs → KeepsNames d (device.at_found d from p fs)
found_keeps d from p [] h = husk_keeps d from p _
found_keeps d from p (f ∷ fs) h =
    let at = first_found d p.dest f fs h in
    keeps_stored d d (takes f.context f.end f.link p).context _ _ refl refl (ap (has_context d) (taken_name f.context f.end f.link p) ∙ has_at d.contexts at.j f.context at.owner)

packet_keeps : (d : Device) (from : Address) (o : Option Packet) → KeepsNames d (device.arrives_packet d from o)
packet_keeps d from None = keeps_none d _ _
packet_keeps d from (Some p) = found_keeps d from p _ refl

-- ---- each event that neither makes, stops nor restores

-- what is not refused of a context that is there
pub there : (d : Device) (n : Name) (a b : Cause) (more : List Cause) → b.holds ≡ not (has_context d n) → first_cause (a ∷ b ∷ more) ≡ None → has_context d n ≡ true
there d n a b more is h = (within-context d n a b more is h).there

abbrev pub KeepsAll : Event → Type 0
KeepsAll (events.MakeContext name) = ⊥
KeepsAll (events.Stop name alone) = ⊥
KeepsAll (events.Restore image) = ⊥
KeepsAll e = Unit {0}

module _ (d : Device) where
  done_keeps : (e : Event) → KeepsAll e → first_cause (causes_of d e) ≡ None → KeepsNames d (device.done_by d e)
  unfolding device.makes_domain device.with_domain device.makes_region device.with_new_region device.makes_queue device.with_new_queue device.makes_end device.with_new_end device.connects device.drops device.stores with_region device.loads device.posts device.receives completing with_queue with_end device.polls device.transmits device.expires device.rnr_over device.arrives device.releases
  done_keeps (events.MakeDomain o) is h = kept d o.context (there d o.context _ _ _ refl h) _ _ _ refl
  done_keeps (events.MakeRegion o domain base size rights) is h = kept_on d o.context (there d o.context _ _ _ refl h) (device.counting_key d) _ _ _ refl refl refl
  done_keeps (events.MakeCq o capacity) is h = kept d o.context (there d o.context _ _ _ refl h) _ _ _ refl
  done_keeps (events.MakeQp o domain send_cq recv_cq send_depth recv_depth) is h = kept_on d o.context (there d o.context _ _ _ refl h) (device.counting_qp d) _ _ _ refl refl refl
  done_keeps (events.Connect o peer partner terms) is h = kept d o.context (there d o.context _ _ _ refl h) _ _ _ refl
  done_keeps (events.DropRegion o) is h = kept d o.context (there d o.context _ _ _ refl h) _ _ _ refl
  done_keeps (events.Store o at bytes) is h = kept d o.context (there d o.context _ _ _ refl h) _ _ _ refl
  done_keeps (events.Load o at size) is h = keeps_none d _ _
  done_keeps (events.PostSend o r) is h = posts_keeps d o.context (there d o.context _ _ _ refl h) _ r _
  done_keeps (events.PostRecv o r) is h = kept d o.context (there d o.context _ _ _ refl h) _ _ _ (received_name d o.context (there d o.context _ _ _ refl h) (end_at (context_at d o.context) o.name) r)
  done_keeps (events.Poll o most) is h = kept d o.context (there d o.context _ _ _ refl h) _ _ _ refl
  done_keeps (events.Transmit o) is h = at_link d o.context (there d o.context _ _ _ refl h) _ (λ l. sends_keeps d o.context (there d o.context _ _ _ refl h) (end_at (context_at d o.context) o.name) l (transmission l)) _
  done_keeps (events.Expire o) is h = at_link d o.context (there d o.context _ _ _ refl h) _ (λ l. expires_keeps d o.context (there d o.context _ _ _ refl h) (end_at (context_at d o.context) o.name) l (not_counted l)) _
  done_keeps (events.RnrOver o) is h = at_link d o.context (there d o.context _ _ _ refl h) _ (λ l. waits_keeps d o.context (there d o.context _ _ _ refl h) (end_at (context_at d o.context) o.name) l) _
  done_keeps (events.Arrive from bytes) is h = packet_keeps d from (packet_of bytes)
  done_keeps (events.Release name) is h = record { id = refl; names = refl; image = refl }
  done_keeps (events.MakeContext name) is h = absurd is
  done_keeps (events.Stop name alone) is h = absurd is
  done_keeps (events.Restore image) is h = absurd is

  by_refusal : (e : Event) → KeepsAll e → (r : Option Refusal) → first_cause (causes_of d e) ≡ r → KeepsNames d (device.by_refusal d e r)
  by_refusal e is None h = done_keeps e is h
  by_refusal e is (Some r) h = keeps_none d _ _

  pub step_keeps : (e : Event) → KeepsAll e → KeepsNames d (device_step d e)
  unfolding device_step refusal_of
  step_keeps e is = by_refusal e is (first_cause (causes_of d e)) refl
