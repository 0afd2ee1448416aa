-- A step of the machine leaves regions but for their bytes, domains, queue pairs and completion queues as they are, or may change them.
use Rattle.std.proofs.Common.{◌≡◌, ◌⊎◌, ℕ, List, [], ◌∷◌, ◌++◌, map, true, false, Bool, refl, sym, ap, ◌∙◌, inl, inr}
use Rattle.std.specs.Prelude.{Option, Some, None, if◌then◌else◌, length, slice_get, ◌+◌, ◌==◌}
use Rattle.rdma_types.specs.declared.names.Name.{Name}
use Rattle.rdma_types.specs.declared.names.ObjName.{ObjName}
use Rattle.rdma_types.specs.declared.requests.Completion.{Completion}
use Rattle.rdma_types.specs.declared.requests.Receive.{Receive}
use Rattle.rdma_types.specs.declared.requests.Request.{Request}
use Rattle.rdma_types.specs.declared.requests.Terms.{Terms}
use Rattle.rdma_types.specs.declared.requests.WcKind.TheVariants as wc_kinds
use Rattle.rdma_types.specs.declared.requests.WcStatus.{WcStatus}
use Rattle.rdma_types.specs.declared.requests.WcStatus.TheVariants as statuses
use Rattle.rdma_types.specs.declared.answers.Refusal.{Refusal}
use Rattle.rdma_types.specs.declared.answers.RefusalReason.{RefusalReason}
use Rattle.rdma_types.specs.declared.verbs.Verb.{Verb}
use Rattle.rdma_types.specs.declared.verbs.Verb.TheVariants as verbs
use Rattle.rdma_types.specs.Kinds.{is_send, kind_of, receive_done, request_done}
use Rattle.rdma_types.specs.Lists.{named}
use Rattle.rdma_types.specs.Memory.{local_key}
use Rattle.rdma_types.specs.Objects.{CompletionQueue, Region, no_region}
use Rattle.packetless_machine.specs.declared.reply.Reply.TheVariants.{Finished, OldValue}
use Rattle.packetless_machine.specs.declared.steps.MachineStep.{MachineStep}
use Rattle.packetless_machine.specs.declared.steps.MachineStep.TheVariants as steps
use Rattle.packetless_machine.specs.Tables.{replaced}
use Rattle.packetless_machine.specs.Machine.{Machine, Context, End, no_context, nobody, new_end, context_of, end_of, regions_of, with_end, with_end_in, with_regions, with_queues, with_queue, with_queue_in, completing, in_end}
use Rattle.packetless_machine.specs.Steps as ideal
use Rattle.packetless_machine.specs.Steps.{acted_with, advanced, closed, current, denied, dried_at, ended_with, expired, failed_queues, failed_receives, failed_requests, fills, placing, put_in_range, put_in_receive, put_old, receive_for, receives_of, receiving, refused_entries, refused_queues, refused_receives, success, told_one, untold, waited, with_known, with_offer}
use Rattle.packetless_machine.specs.Verbs as verbal
use Rattle.packetless_machine.specs.Verbs.{region_of}
use Rattle.packetless_machine.specs.Legal.{effect}
use Rattle.packetless_machine.proofs.Views.{end_of-completing, end_of-put_old, end_of-with_context, end_of-with_regions}
use Rattle.law_simulation.proofs.relation.Tables.{named-map}
use Rattle.law_simulation.proofs.runs.Acting.{pushed}
use Rattle.law_machine_runs.specs.Changes.{IsVerbOfPair, MakesDomain, MakesOrDrops, MayChangePair, plan_of}
use Rattle.law_machine_runs.proofs.Bytes.{drop_seen, make_seen, object_is}
use Rattle.law_machine_runs.proofs.Fair.{done_ends}
use Rattle.law_machine_runs.proofs.Kept.{IsBlind, IsPart, acted_fixed, advanced_fixed, closed_fixed, denied_fixed, dried_fixed, expired_fixed, fixed, known_fixed, receiving_fixed, told_fixed, waited_fixed}
use Rattle.law_machine_runs.proofs.Memory.{IsOfNoRegion, done_regions}
use Rattle.law_machine_runs.proofs.Parts.{AreKept, context_cases, context_kept, end_cases, kept_then, map_replaced, pushed_found}
use Rattle.law_machine_runs.proofs.Puts.{put_map}
use Rattle.law_machine_runs.proofs.Tidy.{IsInner, IsOfferKept, inner_kept, offer_free}

-- ---- regions but for their bytes

plans_part : IsPart (λ x. map plan_of x.regions)
plans_part = record { ends = λ c none e n h. refl; queues = λ c q more. refl }

plans_blind : IsBlind (λ x. map plan_of x.regions)
plans_blind c key_of key address new = put_map plan_of (λ r bytes. refl) key_of key address new c.regions

plan_kept : (m m' : Machine) → AreKept (λ x. map plan_of x.regions) m m' → (o : ObjName) → plan_of (region_of m' o) ≡ plan_of (region_of m o)
unfolding region_of
plan_kept m m' same o =
    sym (named-map plan_of (λ z. z.name) (λ z. z.name) no_region o.name (regions_of m' o.context) (λ z. refl))
    ∙ (ap (named (λ z. z.name) no_region o.name) (same o.context) ∙ named-map plan_of (λ z. z.name) (λ z. z.name) no_region o.name (regions_of m o.context) (λ z. refl))

same_plan : (m : Machine) (s : ObjName) (address : ℕ) (bytes : List ℕ) → plan_of (verbal.overwritten (region_of m s) address bytes) ≡ plan_of (named (λ r. r.name) no_region s.name (regions_of m s.context))
unfolding verbal.overwritten region_of
same_plan m s address bytes = refl

stored_plan : (m : Machine) (s : ObjName) (address : ℕ) (bytes : List ℕ) (o : ObjName) → plan_of (region_of (verbal.stored m s address bytes) o) ≡ plan_of (region_of m o)
unfolding verbal.stored with_regions
stored_plan m s address bytes o =
    plan_kept m (verbal.stored m s address bytes)
    (context_kept (λ x. map plan_of x.regions) m s.context (record (context_of m s.context) { regions = replaced (λ r. r.name) s.name (verbal.overwritten (region_of m s) address bytes) (regions_of m s.context) }) refl
    (map_replaced plan_of (λ r. r.name) no_region s.name (verbal.overwritten (region_of m s) address bytes) (regions_of m s.context) (same_plan m s address bytes))) o

other_plan : (m : Machine) (v : Verb) (given : ℕ) → IsOfNoRegion v → (o : ObjName) → plan_of (region_of (verbal.done m v given) o) ≡ plan_of (region_of m o)
other_plan m v given h o = plan_kept m (verbal.done m v given) (λ c. ap (map plan_of) (done_regions m v given h c)) o

done_plan : (m : Machine) (v : Verb) (given : ℕ) (o : ObjName) → (plan_of (region_of (verbal.done m v given) o) ≡ plan_of (region_of m o)) ⊎ MakesOrDrops (steps.Verb v given) o
done_plan m (verbs.MakeRegion s domain base count rights) given o = make_seen plan_of m s (verbal.word_or_none domain) base count rights given o
done_plan m (verbs.DropRegion s) given o = drop_seen plan_of m s o
done_plan m (verbs.Store s address bytes) given o = inl (stored_plan m s address bytes o)
done_plan m (verbs.Context name made) given o = inl (other_plan m (verbs.Context name made) given tt o)
done_plan m (verbs.Connect one two terms) given o = inl (other_plan m (verbs.Connect one two terms) given tt o)
done_plan m (verbs.MakeDomain s) given o = inl (other_plan m (verbs.MakeDomain s) given tt o)
done_plan m (verbs.MakeCq s capacity) given o = inl (other_plan m (verbs.MakeCq s capacity) given tt o)
done_plan m (verbs.MakeQp s domain send_cq recv_cq send_depth recv_depth) given o = inl (other_plan m (verbs.MakeQp s domain send_cq recv_cq send_depth recv_depth) given tt o)
done_plan m (verbs.Load s address count) given o = inl (other_plan m (verbs.Load s address count) given tt o)
done_plan m (verbs.PostSend s r) given o = inl (other_plan m (verbs.PostSend s r) given tt o)
done_plan m (verbs.PostRecv s v) given o = inl (other_plan m (verbs.PostRecv s v) given tt o)
done_plan m (verbs.Poll s max) given o = inl (other_plan m (verbs.Poll s max) given tt o)

verb_plan : (m : Machine) (v : Verb) (given : ℕ) (r : Option Refusal) (o : ObjName) → (plan_of (region_of (verbal.after_answer r m v given) o) ≡ plan_of (region_of m o)) ⊎ MakesOrDrops (steps.Verb v given) o
verb_plan m v given None o = done_plan m v given o
verb_plan m v given (Some r) o = inl refl

inner_plan : (m : Machine) (s : MachineStep) → IsInner s → IsOfferKept (λ x. map plan_of x.regions) m s → (o : ObjName) → plan_of (region_of (effect m s) o) ≡ plan_of (region_of m o)
inner_plan m s h offer o = plan_kept m (effect m s) (inner_kept (λ x. map plan_of x.regions) plans_part plans_blind m s h offer) o

pub step_plan : (m : Machine) (s : MachineStep) (o : ObjName) → (plan_of (region_of (effect m s) o) ≡ plan_of (region_of m o)) ⊎ MakesOrDrops s o
step_plan m (steps.Verb v given) o = verb_plan m v given (verbal.refusal_of m v) o
step_plan m (steps.Run q n) o = inl (inner_plan m (steps.Run q n) tt tt o)
step_plan m (steps.Atom q) o = inl (inner_plan m (steps.Atom q) tt tt o)
step_plan m (steps.ReadTurn q) o = inl (inner_plan m (steps.ReadTurn q) tt tt o)
step_plan m (steps.Refuse q why) o = inl (inner_plan m (steps.Refuse q why) tt tt o)
step_plan m (steps.Dry q) o = inl (inner_plan m (steps.Dry q) tt tt o)
step_plan m (steps.Offer q i off n) o = inl (inner_plan m (steps.Offer q i off n) tt (offer_free (λ x. map plan_of x.regions) (λ c es. refl) m q i off n) o)
step_plan m (steps.Land q i) o = inl (inner_plan m (steps.Land q i) tt tt o)
step_plan m (steps.Known q bytes) o = inl (inner_plan m (steps.Known q bytes) tt tt o)
step_plan m (steps.Tell q) o = inl (inner_plan m (steps.Tell q) tt tt o)
step_plan m (steps.Expire q) o = inl (inner_plan m (steps.Expire q) tt tt o)
step_plan m (steps.Wait q) o = inl (inner_plan m (steps.Wait q) tt tt o)
step_plan m (steps.Bounce q) o = inl (inner_plan m (steps.Bounce q) tt tt o)

-- ---- domains

domains_part : IsPart (λ x. x.domains)
domains_part = record { ends = λ c none e n h. refl; queues = λ c q more. refl }

domains_blind : IsBlind (λ x. x.domains)
domains_blind c key_of key address new = refl

-- a verb changes the parts of contexts that it does not speak of in nothing
abbrev IsDomainKept : Machine → Machine → Type 0
IsDomainKept m m' = AreKept (λ x. x.domains) m m'

end_domains : (m : Machine) (o : ObjName) (e : End) → IsDomainKept m (with_end m o e)
unfolding with_end with_end_in
end_domains m o e = context_kept (λ x. x.domains) m o.context _ refl refl

regions_domains : (m : Machine) (c : Name) (rs : List Region) → IsDomainKept m (with_regions m c rs)
unfolding with_regions
regions_domains m c rs = context_kept (λ x. x.domains) m c _ refl refl

completing_domains : (m : Machine) (c q : Name) (more : List Completion) → IsDomainKept m (completing m c q more)
unfolding completing with_queue with_queue_in
completing_domains m c q more = context_kept (λ x. x.domains) m c _ refl refl

posted_domains : (m : Machine) (o : ObjName) (r : Request) → IsDomainKept m (verbal.posted m o r)
unfolding verbal.posted
posted_domains m o r k = by (end_of m o).ended
  where
    by : (b : Bool) → (context_of (if b then completing m o.context (end_of m o).send_queue (request_done (end_of m o).number (verbal.taken m o r) statuses.Flush 0 ∷ []) else in_end m o (verbal.with_request (verbal.taken m o r))) k).domains ≡ (context_of m k).domains
    by true = completing_domains m o.context _ _ k
    by false = end_domains m o _ k

received_domains : (m : Machine) (o : ObjName) (v : Receive) → IsDomainKept m (verbal.received m o v)
unfolding verbal.received
received_domains m o v k = by (end_of m o).ended
  where
    by : (b : Bool) → (context_of (if b then completing m o.context (end_of m o).receive_queue (receive_done (end_of m o).number v wc_kinds.Recv statuses.Flush 0 None ∷ []) else in_end m o (verbal.with_receive v)) k).domains ≡ (context_of m k).domains
    by true = completing_domains m o.context _ _ k
    by false = end_domains m o _ k

connected_domains : (m : Machine) (one two : ObjName) (terms : Terms) → IsDomainKept m (verbal.connected_pair m one two terms)
unfolding verbal.connected_pair
connected_domains m one two terms =
    let first : Machine = in_end m one (verbal.joined two terms) in
    kept_then (λ z. z.domains) m first (in_end first two (verbal.joined one terms)) (end_domains m one (verbal.joined two terms (end_of m one))) (end_domains first two (verbal.joined one terms (end_of first two)))

done_domains : (m : Machine) (v : Verb) (given : ℕ) (k : Name) → ((context_of (verbal.done m v given) k).domains ≡ (context_of m k).domains) ⊎ MakesDomain (steps.Verb v given) k
unfolding verbal.with_domain verbal.made_region verbal.made_queue verbal.made_end verbal.stored verbal.polled with_queue with_queue_in context_of
done_domains m (verbs.Context name made) given k = inl (pushed (λ x. x.domains) (λ x. x.name) (no_context k) k (no_context name) m.contexts refl)
done_domains m (verbs.Connect one two terms) given k = inl (connected_domains m one two terms k)
done_domains m (verbs.MakeDomain o) given k = elim (context_cases m o.context (record (context_of m o.context) { domains = (context_of m o.context).domains ++ o.name ∷ [] }) k refl) [
  | inl same ↦ inl (ap (λ (x : Context). x.domains) same)
  | inr here ↦ inr (sym here.0)
]
done_domains m (verbs.MakeRegion o domain base count rights) given k = inl (regions_domains (record m { keys = m.keys ++ given ∷ [] }) o.context _ k)
done_domains m (verbs.MakeCq o capacity) given k = inl (context_kept (λ x. x.domains) m o.context _ refl refl k)
done_domains m (verbs.MakeQp o domain send_cq recv_cq send_depth recv_depth) given k = inl (context_kept (λ x. x.domains) (record m { numbers = m.numbers ++ given ∷ [] }) o.context _ refl refl k)
done_domains m (verbs.DropRegion o) given k = inl (regions_domains m o.context _ k)
done_domains m (verbs.Store o address bytes) given k = inl (regions_domains m o.context _ k)
done_domains m (verbs.Load o address count) given k = inl refl
done_domains m (verbs.PostSend o r) given k = inl (posted_domains m o r k)
done_domains m (verbs.PostRecv o v) given k = inl (received_domains m o v k)
done_domains m (verbs.Poll cq max) given k = inl (context_kept (λ x. x.domains) m cq.context _ refl refl k)

verb_domains : (m : Machine) (v : Verb) (given : ℕ) (r : Option Refusal) (k : Name) → ((context_of (verbal.after_answer r m v given) k).domains ≡ (context_of m k).domains) ⊎ MakesDomain (steps.Verb v given) k
verb_domains m v given None k = done_domains m v given k
verb_domains m v given (Some r) k = inl refl

inner_domains : (m : Machine) (s : MachineStep) → IsInner s → IsOfferKept (λ x. x.domains) m s → IsDomainKept m (effect m s)
inner_domains m s h offer = inner_kept (λ x. x.domains) domains_part domains_blind m s h offer

pub step_domains : (m : Machine) (s : MachineStep) (k : Name) → ((context_of (effect m s) k).domains ≡ (context_of m k).domains) ⊎ MakesDomain s k
step_domains m (steps.Verb v given) k = verb_domains m v given (verbal.refusal_of m v) k
step_domains m (steps.Run q n) k = inl (inner_domains m (steps.Run q n) tt tt k)
step_domains m (steps.Atom q) k = inl (inner_domains m (steps.Atom q) tt tt k)
step_domains m (steps.ReadTurn q) k = inl (inner_domains m (steps.ReadTurn q) tt tt k)
step_domains m (steps.Refuse q why) k = inl (inner_domains m (steps.Refuse q why) tt tt k)
step_domains m (steps.Dry q) k = inl (inner_domains m (steps.Dry q) tt tt k)
step_domains m (steps.Offer q i off n) k = inl (inner_domains m (steps.Offer q i off n) tt (offer_free (λ x. x.domains) (λ c es. refl) m q i off n) k)
step_domains m (steps.Land q i) k = inl (inner_domains m (steps.Land q i) tt tt k)
step_domains m (steps.Known q bytes) k = inl (inner_domains m (steps.Known q bytes) tt tt k)
step_domains m (steps.Tell q) k = inl (inner_domains m (steps.Tell q) tt tt k)
step_domains m (steps.Expire q) k = inl (inner_domains m (steps.Expire q) tt tt k)
step_domains m (steps.Wait q) k = inl (inner_domains m (steps.Wait q) tt tt k)
step_domains m (steps.Bounce q) k = inl (inner_domains m (steps.Bounce q) tt tt k)

-- ---- queue pairs

-- the queue pair o stays, or is q
abbrev IsPairOr : Machine → Machine → ObjName → ObjName → Type 0
IsPairOr m m' q o = (end_of m' o ≡ end_of m o) ⊎ (q ≡ o)

then_same : (m m' m'' : Machine) (q o : ObjName) → end_of m'' o ≡ end_of m' o → IsPairOr m m' q o → IsPairOr m m'' q o
then_same m m' m'' q o same (inl h) = inl (same ∙ h)
then_same m m' m'' q o same (inr h) = inr h

after_same : (m m' m'' : Machine) (q o : ObjName) → end_of m' o ≡ end_of m o → IsPairOr m' m'' q o → IsPairOr m m'' q o
after_same m m' m'' q o same (inl h) = inl (h ∙ same)
after_same m m' m'' q o same (inr h) = inr h

queues_end : (m : Machine) (c : Name) (qs : List CompletionQueue) (o : ObjName) → end_of (with_queues m c qs) o ≡ end_of m o
unfolding with_queues
queues_end m c qs o = end_of-with_context m c _ o refl refl

receive_end : (m : Machine) (c : Name) (into : ℕ) (new : List ℕ) (v : Option Receive) (o : ObjName) → end_of (put_in_receive m c into new v) o ≡ end_of m o
unfolding put_in_receive
receive_end m c into new None o = refl
receive_end m c into new (Some v) o = end_of-with_regions m c _ o

placing_end : (m : Machine) (c : Name) (e x : End) (new : List ℕ) (o : ObjName) → end_of (placing m c e x new) o ≡ end_of m o
unfolding placing
placing_end m c e x new o = by (is_send (kind_of (current e)))
  where
    by : (b : Bool) → end_of (if b then put_in_receive m c e.into new (receive_for x) else put_in_range m c e.into new (current e)) o ≡ end_of m o
    by true = receive_end m c e.into new (receive_for x) o
    by false = end_of-with_regions m c _ o

name_same : (a b : End) → fixed a ≡ fixed b → a.name ≡ b.name
name_same a b h = ap (λ (z : End). z.name) h

-- one end of the two of a connection
abbrev IsOneOf : Machine → Machine → ObjName → ObjName → ObjName → Type 0
IsOneOf m m' q p o = (end_of m' o ≡ end_of m o) ⊎ ((q ≡ o) ⊎ (p ≡ o))

two_ends : (m m' m'' : Machine) (q p o : ObjName) → IsPairOr m m' q o → IsPairOr m' m'' p o → IsOneOf m m'' q p o
two_ends m m' m'' q p o (inl h) (inl g) = inl (g ∙ h)
two_ends m m' m'' q p o (inr h) g = inr (inl h)
two_ends m m' m'' q p o (inl h) (inr g) = inr (inr g)

run_pair : (m : Machine) (q : ObjName) (n : ℕ) (o : ObjName) → IsOneOf m (ideal.run m q n) q (end_of m q).peer o
unfolding ideal.run ideal.run_towards
run_pair m q n o =
    let e : End = end_of m q in
    let x : End = ideal.peer_of m q in
    let first : Machine = in_end m q (λ y. advanced y n) in
    let put : Machine = placing first e.peer.context e x (ideal.next_bytes e n) in
    let used : End → End = receiving (current e).request.shape (fills e n) in
    let last : Machine = in_end put e.peer used in
    two_ends m first (ideal.run m q n) q e.peer o
    (end_cases m q (advanced e n) o (name_same (advanced e n) e (advanced_fixed e n)))
    (then_same first last (ideal.run m q n) e.peer o (queues_end last e.peer.context _ o)
    (after_same first put last e.peer o (placing_end first e.peer.context e x (ideal.next_bytes e n) o)
    (end_cases put e.peer (used (end_of put e.peer)) o (name_same (used (end_of put e.peer)) (end_of put e.peer) (receiving_fixed (current e).request.shape (fills e n) (end_of put e.peer))))))

refuse_pair : (m : Machine) (q : ObjName) (why : RefusalReason) (o : ObjName) → IsOneOf m (ideal.refuse m q why) q (end_of m q).peer o
unfolding ideal.refuse ideal.refuse_at
refuse_pair m q why o =
    let e : End = end_of m q in
    let first : Machine = in_end m q (λ y. denied y why) in
    let last : Machine = in_end first e.peer closed in
    two_ends m first (ideal.refuse m q why) q e.peer o
    (end_cases m q (denied e why) o (name_same (denied e why) e (denied_fixed e why)))
    (then_same first last (ideal.refuse m q why) e.peer o (queues_end last e.peer.context _ o)
    (end_cases first e.peer (closed (end_of first e.peer)) o (name_same (closed (end_of first e.peer)) (end_of first e.peer) (closed_fixed (end_of first e.peer)))))

-- the end of a step that changes it alone
own_end : (m : Machine) (q : ObjName) (e : End) (o : ObjName) → fixed e ≡ fixed (end_of m q) → IsPairOr m (with_end m q e) q o
own_end m q e o h = end_cases m q e o (name_same e (end_of m q) h)

ended_pair : (m : Machine) (q : ObjName) (status : WcStatus) (o : ObjName) → IsPairOr m (ended_with m q status) q o
unfolding ended_with
ended_pair m q status o = then_same m (in_end m q closed) (ended_with m q status) q o (queues_end (in_end m q closed) q.context _ o) (own_end m q (closed (end_of m q)) o (closed_fixed (end_of m q)))

-- a step of q that changes no other end
abbrev IsOwnOr : Machine → Machine → ObjName → ObjName → Type 0
IsOwnOr m m' q o = (end_of m' o ≡ end_of m o) ⊎ (Some q ≡ Some o)

own : (m m' : Machine) (q o : ObjName) → IsPairOr m m' q o → IsOwnOr m m' q o
own m m' q o (inl h) = inl h
own m m' q o (inr h) = inr (ap Some h)

atom_pair : (m : Machine) (q o : ObjName) → IsPairOr m (ideal.atom m q) q o
unfolding ideal.atom ideal.atom_on
atom_pair m q o =
    let old : ℕ = ideal.word_there (current (end_of m q)) (ideal.peer_regions m q) in
    let first : Machine = in_end m q (λ e. acted_with e (OldValue old)) in
    then_same m first (ideal.atom m q) q o (end_of-with_regions first (end_of m q).peer.context _ o) (own_end m q (acted_with (end_of m q) (OldValue old)) o (acted_fixed (end_of m q) (OldValue old)))

turn_pair : (m : Machine) (q o : ObjName) → IsPairOr m (ideal.read_turn m q) q o
unfolding ideal.read_turn
turn_pair m q o = own_end m q (acted_with (end_of m q) Finished) o (acted_fixed (end_of m q) Finished)

dry_pair : (m : Machine) (q o : ObjName) → IsPairOr m (ideal.dried m q) q o
unfolding ideal.dried
dry_pair m q o = own_end m q (dried_at (end_of m q)) o (dried_fixed (end_of m q))

offer_pair : (m : Machine) (q : ObjName) (i off n : ℕ) (o : ObjName) → IsPairOr m (ideal.offered m q i off n) q o
unfolding ideal.offered with_offer
offer_pair m q i off n o = end_cases m q _ o refl

land_pair : (m : Machine) (q : ObjName) (i : ℕ) (o : ObjName) → IsPairOr m (ideal.landed m q i) q o
unfolding ideal.landed ideal.land_at
land_pair m q i o =
    let e : End = end_of m q in
    let bytes : List ℕ = ideal.bytes_of (slice_get e.offers i) in
    let put : Machine = ideal.putting m q.context local_key (ideal.front e).request.lkey ((ideal.front e).request.local + e.known) bytes in
    after_same m put (ideal.landed m q i) q o (end_of-with_regions m q.context _ o) (own_end put q (with_known (end_of put q) (e.known + length bytes)) o (known_fixed (end_of put q) (e.known + length bytes)))

know_pair : (m : Machine) (q : ObjName) (bytes : ℕ) (o : ObjName) → IsPairOr m (ideal.knowing m q bytes) q o
unfolding ideal.knowing
know_pair m q bytes o = own_end m q (with_known (end_of m q) bytes) o (known_fixed (end_of m q) bytes)

tell_pair : (m : Machine) (q o : ObjName) → IsPairOr m (ideal.tell m q) q o
unfolding ideal.tell ideal.tell_at
tell_pair m q o =
    let e : End = end_of m q in
    let noted : Machine = completing m q.context e.send_queue (success e (ideal.front e)) in
    let put : Machine = put_old noted q.context (ideal.front e).request (slice_get e.answers e.told) in
    after_same m put (ideal.tell m q) q o (end_of-put_old noted q.context _ _ o ∙ end_of-completing m q.context _ _ o) (own_end put q (told_one (end_of put q)) o (told_fixed (end_of put q)))

expire_pair : (m : Machine) (q o : ObjName) → IsPairOr m (ideal.expire m q) q o
unfolding ideal.expire
expire_pair m q o = by ((end_of m q).spent == (end_of m q).retry)
  where
    by : (b : Bool) → IsPairOr m (if b then ended_with m q statuses.RetryExceeded else in_end m q expired) q o
    by true = ended_pair m q statuses.RetryExceeded o
    by false = own_end m q (expired (end_of m q)) o (expired_fixed (end_of m q))

wait_pair : (m : Machine) (q o : ObjName) → IsPairOr m (ideal.wait m q) q o
unfolding ideal.wait
wait_pair m q o = by ((end_of m q).rnr == 7) ((end_of m q).waits == (end_of m q).rnr)
  where
    by : (a b : Bool) → IsPairOr m (if a then m else if b then ended_with m q statuses.RnrExceeded else in_end m q waited) q o
    by true b = inl refl
    by false true = ended_pair m q statuses.RnrExceeded o
    by false false = own_end m q (waited (end_of m q)) o (waited_fixed (end_of m q))

bounce_pair : (m : Machine) (q o : ObjName) → IsPairOr m (ideal.bounce m q) q o
unfolding ideal.bounce
bounce_pair m q o = ended_pair m q _ o

connect_pair : (m : Machine) (one two : ObjName) (terms : Terms) (o : ObjName) → IsOneOf m (verbal.connected_pair m one two terms) one two o
unfolding verbal.connected_pair verbal.joined
connect_pair m one two terms o =
    let first : Machine = in_end m one (verbal.joined two terms) in
    two_ends m first _ one two o (end_cases m one (verbal.joined two terms (end_of m one)) o refl) (end_cases first two (verbal.joined one terms (end_of first two)) o refl)

made_pair : (m : Machine) (s : ObjName) (domain send_cq recv_cq : Name) (send_depth recv_depth given : ℕ) (o : ObjName) → IsPairOr m (verbal.made_end m s domain send_cq recv_cq send_depth recv_depth given) s o
unfolding verbal.made_end end_of context_of
made_pair m s domain send_cq recv_cq send_depth recv_depth given o =
    let new : End = new_end s given domain send_cq recv_cq send_depth recv_depth in
    elim (context_cases (record m { numbers = m.numbers ++ given ∷ [] }) s.context (record (context_of m s.context) { ends = (context_of m s.context).ends ++ new ∷ [] }) o.context refl) [
      | inl same ↦ inl (ap (λ (x : Context). named (λ z. z.name) (nobody o) o.name x.ends) same)
      | inr here ↦ elim (pushed_found (λ z. z.name) (nobody o) o.name new (context_of m s.context).ends) [
        | inl same ↦ inl (ap (λ (x : Context). named (λ z. z.name) (nobody o) o.name x.ends) here.1 ∙ (same ∙ ap (λ j. named (λ z. z.name) (nobody o) o.name (context_of m j).ends) (sym here.0)))
        | inr is ↦ inr (object_is s o (sym here.0) is)
      ]
    ]

posted_pair : (m : Machine) (s : ObjName) (r : Request) (o : ObjName) → IsPairOr m (verbal.posted m s r) s o
unfolding verbal.posted
posted_pair m s r o = by (end_of m s).ended
  where
    by : (b : Bool) → IsPairOr m (if b then completing m s.context (end_of m s).send_queue (request_done (end_of m s).number (verbal.taken m s r) statuses.Flush 0 ∷ []) else in_end m s (verbal.with_request (verbal.taken m s r))) s o
    by true = inl (end_of-completing m s.context _ _ o)
    by false = end_cases m s (verbal.with_request (verbal.taken m s r) (end_of m s)) o refl

received_pair : (m : Machine) (s : ObjName) (v : Receive) (o : ObjName) → IsPairOr m (verbal.received m s v) s o
unfolding verbal.received
received_pair m s v o = by (end_of m s).ended
  where
    by : (b : Bool) → IsPairOr m (if b then completing m s.context (end_of m s).receive_queue (receive_done (end_of m s).number v wc_kinds.Recv statuses.Flush 0 None ∷ []) else in_end m s (verbal.with_receive v)) s o
    by true = inl (end_of-completing m s.context _ _ o)
    by false = end_cases m s (verbal.with_receive v (end_of m s)) o refl

done_pair : (m : Machine) (v : Verb) (given : ℕ) (o : ObjName) → (end_of (verbal.done m v given) o ≡ end_of m o) ⊎ IsVerbOfPair v o
done_pair m (verbs.Connect one two terms) given o = connect_pair m one two terms o
done_pair m (verbs.MakeQp s domain send_cq recv_cq send_depth recv_depth) given o = made_pair m s (verbal.word_or_none domain) (verbal.word_or_none send_cq) (verbal.word_or_none recv_cq) send_depth recv_depth given o
done_pair m (verbs.PostSend s r) given o = posted_pair m s r o
done_pair m (verbs.PostRecv s v) given o = received_pair m s v o
done_pair m (verbs.Context name made) given o = inl (done_ends m (verbs.Context name made) given tt o)
done_pair m (verbs.MakeDomain s) given o = inl (done_ends m (verbs.MakeDomain s) given tt o)
done_pair m (verbs.MakeRegion s domain base count rights) given o = inl (done_ends m (verbs.MakeRegion s domain base count rights) given tt o)
done_pair m (verbs.MakeCq s capacity) given o = inl (done_ends m (verbs.MakeCq s capacity) given tt o)
done_pair m (verbs.DropRegion s) given o = inl (done_ends m (verbs.DropRegion s) given tt o)
done_pair m (verbs.Store s address bytes) given o = inl (done_ends m (verbs.Store s address bytes) given tt o)
done_pair m (verbs.Load s address count) given o = inl (done_ends m (verbs.Load s address count) given tt o)
done_pair m (verbs.Poll s max) given o = inl (done_ends m (verbs.Poll s max) given tt o)

verb_pair : (m : Machine) (v : Verb) (given : ℕ) (r : Option Refusal) (o : ObjName) → (end_of (verbal.after_answer r m v given) o ≡ end_of m o) ⊎ IsVerbOfPair v o
verb_pair m v given None o = done_pair m v given o
verb_pair m v given (Some r) o = inl refl

pub step_pair : (m : Machine) (s : MachineStep) (o : ObjName) → (end_of (effect m s) o ≡ end_of m o) ⊎ MayChangePair m s o
step_pair m (steps.Verb v given) o = verb_pair m v given (verbal.refusal_of m v) o
step_pair m (steps.Run q n) o = run_pair m q n o
step_pair m (steps.Atom q) o = own m _ q o (atom_pair m q o)
step_pair m (steps.ReadTurn q) o = own m _ q o (turn_pair m q o)
step_pair m (steps.Refuse q why) o = refuse_pair m q why o
step_pair m (steps.Dry q) o = own m _ q o (dry_pair m q o)
step_pair m (steps.Offer q i off n) o = own m _ q o (offer_pair m q i off n o)
step_pair m (steps.Land q i) o = own m _ q o (land_pair m q i o)
step_pair m (steps.Known q bytes) o = own m _ q o (know_pair m q bytes o)
step_pair m (steps.Tell q) o = own m _ q o (tell_pair m q o)
step_pair m (steps.Expire q) o = own m _ q o (expire_pair m q o)
step_pair m (steps.Wait q) o = own m _ q o (wait_pair m q o)
step_pair m (steps.Bounce q) o = own m _ q o (bounce_pair m q o)
