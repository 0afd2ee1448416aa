-- What each step of the machine does to the regions of contexts.
use Rattle.std.proofs.Common.{◌≡◌, ◌⊎◌, ◌+◌, ℕ, List, [], ◌∷◌, ◌++◌, length, true, false, Bool, refl, sym, ap, ◌∙◌, subst, inl, inr}
use Rattle.std.specs.Prelude.{All, Option, Some, None, if◌then◌else◌, slice_get}
use Rattle.rdma_types.specs.declared.names.Name.{Name}
use Rattle.rdma_types.specs.declared.names.ObjName.{ObjName}
use Rattle.rdma_types.specs.declared.requests.Receive.{Receive}
use Rattle.rdma_types.specs.declared.requests.Request.{Request}
use Rattle.rdma_types.specs.declared.requests.Terms.{Terms}
use Rattle.rdma_types.specs.declared.requests.WcKind.TheVariants as wc_kinds
use Rattle.rdma_types.specs.declared.requests.WcStatus.TheVariants as statuses
use Rattle.rdma_types.specs.declared.verbs.Verb.{Verb}
use Rattle.rdma_types.specs.declared.verbs.Verb.TheVariants as verbs
use Rattle.rdma_types.specs.Kinds.{is_send, kind_of, receive_done, request_done}
use Rattle.rdma_types.specs.Lists.{named}
use Rattle.rdma_types.specs.Memory.{local_key, remote_key, word_bytes}
use Rattle.rdma_types.specs.Objects.{IsWhole, Region, no_region}
use Rattle.packetless_machine.specs.declared.reply.Reply.{Reply}
use Rattle.packetless_machine.specs.declared.reply.Reply.TheVariants.{Finished, OldValue, Denied}
use Rattle.packetless_machine.specs.Machine.{Machine, End, no_context, context_of, end_of, regions_of, with_context, with_end, with_end_in, with_regions, with_queue, with_queue_in, completing, put_at, in_end}
use Rattle.packetless_machine.specs.Steps as ideal
use Rattle.packetless_machine.specs.Steps.{acted_with, advanced, atom, atom_on, current, land_at, landed, next_bytes, placing, put_in_range, put_in_receive, put_old, receive_for, run, success, tell, tell_at, told_one, with_known}
use Rattle.packetless_machine.specs.Verbs as verbal
use Rattle.packetless_machine.specs.Verbs.{done, region_of}
use Rattle.law_simulation.proofs.delivery.Regions.{put_whole}
use Rattle.law_simulation.proofs.runs.Acting.{pushed}
use Rattle.law_machine_runs.specs.Changes.{byte_of}
use Rattle.law_machine_runs.proofs.Kept.{IsPart, atom_before, completing_kept, land_after, run_after, run_before, run_put, tell_after}
use Rattle.law_machine_runs.proofs.Parts.{AreKept, context_kept, kept_then, regions_cases}
use Rattle.law_machine_runs.proofs.Puts.{IsPut, put_byte}

abbrev pub AreRegionsKept : Machine → Machine → Type 0
AreRegionsKept m m' = AreKept (λ x. x.regions) m m'

pub regions_part : IsPart (λ x. x.regions)
regions_part = record { ends = λ c none e n h. refl; queues = λ c q more. refl }

-- ---- bytes are put into the regions of one context

pub record IsPutting (m m' : Machine) (c : Name) (key_of : Region → ℕ) (key address : ℕ) (new : List ℕ) : Type 0 where
  pub at : (k : Name) → (regions_of m' k ≡ regions_of m k) ⊎ ((k ≡ c) × (regions_of m' k ≡ put_at key_of key address new (regions_of m c)))

-- .. between steps that put none
pub putting : (m a b : Machine) (c : Name) (key_of : Region → ℕ) (key address : ℕ) (new : List ℕ) → AreRegionsKept m a → AreRegionsKept (with_regions a c (put_at key_of key address new (regions_of a c))) b → IsPutting m b c key_of key address new
putting m a b c key_of key address new first last = record {
  at = λ k. elim (regions_cases a c (put_at key_of key address new (regions_of a c)) k) [
    | inl same ↦ inl (last k ∙ (same ∙ first k))
    | inr here ↦ inr (here.0, last k ∙ (here.1 ∙ ap (put_at key_of key address new) (first c)))
  ];
}

abbrev pub AreWhole : Machine → Type 0
AreWhole m = (c : Name) → All IsWhole (regions_of m c)

pub whole_kept : (m m' : Machine) → AreRegionsKept m m' → AreWhole m → AreWhole m'
whole_kept m m' same whole c = subst (All IsWhole) (sym (same c)) (whole c)

pub whole_put : (m m' : Machine) (c : Name) (key_of : Region → ℕ) (key address : ℕ) (new : List ℕ) → IsPutting m m' c key_of key address new → AreWhole m → AreWhole m'
whole_put m m' c key_of key address new p whole k = elim (p.at k) [
  | inl same ↦ subst (All IsWhole) (sym same) (whole k)
  | inr here ↦ subst (All IsWhole) (sym here.1) (put_whole key_of key address new (regions_of m c) (whole c))
]

pub byte_kept : (m m' : Machine) → AreRegionsKept m m' → (o : ObjName) (k : ℕ) → byte_of m' o k ≡ byte_of m o k
unfolding region_of
byte_kept m m' same o k = ap (λ rs. slice_get (named (λ z. z.name) no_region o.name rs).bytes k) (same o.context)

-- a byte stays, or is one of those that are put
pub byte_put : (m m' : Machine) (c : Name) (key_of : Region → ℕ) (key address : ℕ) (new : List ℕ) → IsPutting m m' c key_of key address new → AreWhole m → (o : ObjName) (k : ℕ) →
    (byte_of m' o k ≡ byte_of m o k) ⊎ ((c ≡ o.context) × IsPut key_of key address (length new) (regions_of m c) (region_of m o) k)
unfolding region_of
byte_put m m' c key_of key address new p whole o k = elim (p.at o.context) [
  | inl same ↦ inl (ap (λ rs. slice_get (named (λ z. z.name) no_region o.name rs).bytes k) same)
  | inr here ↦ elim (put_byte key_of key address new o.name k (regions_of m c) (whole c)) [
    | inl same ↦ inl (ap (λ rs. slice_get (named (λ z. z.name) no_region o.name rs).bytes k) here.1 ∙ (same ∙ ap (λ j. slice_get (named (λ z. z.name) no_region o.name (regions_of m j)).bytes k) (sym here.0)))
    | inr put ↦ inr (sym here.0, subst (λ rs. IsPut key_of key address (length new) (regions_of m c) (named (λ z. z.name) no_region o.name rs) k) (ap (λ j. regions_of m j) (sym here.0)) put)
  ]
]

-- ---- the steps that put bytes

module _ (m : Machine) (q : ObjName) where
  abbrev e : End
  e = end_of m q

  abbrev x : End
  x = ideal.peer_of m q

  module _ (n : ℕ) where
    abbrev first : Machine
    first = in_end m q (λ y. advanced y n)

    before : AreRegionsKept m first
    before = run_before (λ z. z.regions) regions_part m q n

    after : (put : Machine) → run_put m q n ≡ put → AreRegionsKept put (run m q n)
    after put is = subst (λ z. AreRegionsKept z (run m q n)) is (run_after (λ z. z.regions) regions_part m q n)

    pub run_range : is_send (kind_of (current e)) ≡ false → IsPutting m (run m q n) e.peer.context remote_key (current e).request.shape.rkey ((current e).request.shape.remote + e.into) (next_bytes e n)
    unfolding placing
    run_range h =
        putting m first (run m q n) e.peer.context remote_key (current e).request.shape.rkey ((current e).request.shape.remote + e.into) (next_bytes e n) before
        (after (put_in_range first e.peer.context e.into (next_bytes e n) (current e)) (ap (λ b. if b then put_in_receive first e.peer.context e.into (next_bytes e n) (receive_for x) else put_in_range first e.peer.context e.into (next_bytes e n) (current e)) h))

    received : is_send (kind_of (current e)) ≡ true → (v : Option Receive) → receive_for x ≡ v → run_put m q n ≡ put_in_receive first e.peer.context e.into (next_bytes e n) v
    unfolding placing
    received h v is = ap (λ b. if b then put_in_receive first e.peer.context e.into (next_bytes e n) (receive_for x) else put_in_range first e.peer.context e.into (next_bytes e n) (current e)) h ∙ ap (put_in_receive first e.peer.context e.into (next_bytes e n)) is

    pub run_receive : is_send (kind_of (current e)) ≡ true → (v : Receive) → receive_for x ≡ Some v → IsPutting m (run m q n) e.peer.context local_key v.lkey (v.local + e.into) (next_bytes e n)
    unfolding put_in_receive
    run_receive h v is = putting m first (run m q n) e.peer.context local_key v.lkey (v.local + e.into) (next_bytes e n) before (after (put_in_receive first e.peer.context e.into (next_bytes e n) (Some v)) (received h (Some v) is))

    pub run_nowhere : is_send (kind_of (current e)) ≡ true → receive_for x ≡ None → AreRegionsKept m (run m q n)
    unfolding put_in_receive
    run_nowhere h is = kept_then (λ z. z.regions) m first (run m q n) before (after (put_in_receive first e.peer.context e.into (next_bytes e n) None) (received h None is))

  abbrev pub old_there : ℕ
  old_there = ideal.word_there (current e) (ideal.peer_regions m q)

  pub atom_puts : IsPutting m (atom m q) e.peer.context remote_key (current e).request.shape.rkey (current e).request.shape.remote (word_bytes (ideal.changed_word (current e) old_there))
  unfolding atom atom_on
  atom_puts =
      putting m (in_end m q (λ y. acted_with y (OldValue old_there))) (atom m q) e.peer.context remote_key (current e).request.shape.rkey (current e).request.shape.remote (word_bytes (ideal.changed_word (current e) old_there))
      (atom_before (λ z. z.regions) regions_part m q old_there) (λ k. refl)

  pub land_puts : (i : ℕ) → IsPutting m (landed m q i) q.context local_key (ideal.front e).request.lkey ((ideal.front e).request.local + e.known) (ideal.bytes_of (slice_get e.offers i))
  unfolding landed land_at
  land_puts i =
      putting m m (landed m q i) q.context local_key (ideal.front e).request.lkey ((ideal.front e).request.local + e.known) (ideal.bytes_of (slice_get e.offers i)) (λ k. refl)
      (land_after (λ z. z.regions) regions_part _ q _)

  abbrev noted : Machine
  noted = completing m q.context e.send_queue (success e (ideal.front e))

  noting : AreRegionsKept m noted
  noting = completing_kept (λ z. z.regions) regions_part m q.context e.send_queue (success e (ideal.front e))

  telling : (a : Option Reply) → slice_get e.answers e.told ≡ a → tell m q ≡ in_end (put_old noted q.context (ideal.front e).request a) q told_one
  unfolding tell tell_at
  telling a is = ap (λ z. in_end (put_old noted q.context (ideal.front e).request z) q told_one) is

  pub tell_puts : (value : ℕ) → slice_get e.answers e.told ≡ Some (OldValue value) → IsPutting m (tell m q) q.context local_key (ideal.front e).request.lkey (ideal.front e).request.local (word_bytes value)
  unfolding put_old
  tell_puts value is =
      putting m noted (tell m q) q.context local_key (ideal.front e).request.lkey (ideal.front e).request.local (word_bytes value) noting
      (subst (AreRegionsKept (put_old noted q.context (ideal.front e).request (Some (OldValue value)))) (sym (telling (Some (OldValue value)) is)) (tell_after (λ z. z.regions) regions_part _ q))

  quiet : (a : Option Reply) → slice_get e.answers e.told ≡ a → put_old noted q.context (ideal.front e).request a ≡ noted → AreRegionsKept m (tell m q)
  quiet a is none =
      subst (AreRegionsKept m) (sym (telling a is ∙ ap (λ z. in_end z q told_one) none))
      (kept_then (λ z. z.regions) m noted _ noting (tell_after (λ z. z.regions) regions_part noted q))

  -- an old value lands, or nothing
  pub tell_cases : (a : Option Reply) → slice_get e.answers e.told ≡ a → AreRegionsKept m (tell m q) ⊎ ((value : ℕ) × (a ≡ Some (OldValue value)))
  unfolding put_old
  tell_cases None is = inl (quiet None is refl)
  tell_cases (Some Finished) is = inl (quiet (Some Finished) is refl)
  tell_cases (Some (OldValue value)) is = inr (value, refl)
  tell_cases (Some (Denied why)) is = inl (quiet (Some (Denied why)) is refl)

-- ---- verbs

-- the verb is none that makes, drops or stores into a region
abbrev pub IsOfNoRegion : Verb → Type 0
IsOfNoRegion (verbs.MakeRegion name domain base count rights) = ⊥
IsOfNoRegion (verbs.DropRegion name) = ⊥
IsOfNoRegion (verbs.Store name address bytes) = ⊥
IsOfNoRegion other = Unit {0}

end_regions : (m : Machine) (o : ObjName) (e : End) → AreRegionsKept m (with_end m o e)
unfolding with_end with_end_in
end_regions m o e = context_kept (λ x. x.regions) m o.context _ refl refl

queue_regions : (m : Machine) (c q : Name) (more : _) → AreRegionsKept m (completing m c q more)
queue_regions m c q more = completing_kept (λ x. x.regions) regions_part m c q more

posted_regions : (m : Machine) (o : ObjName) (r : Request) → AreRegionsKept m (verbal.posted m o r)
unfolding verbal.posted
posted_regions m o r k = by (end_of m o).ended
  where
    by : (b : Bool) → regions_of (if b then completing m o.context (end_of m o).send_queue (request_done (end_of m o).number (verbal.taken m o r) statuses.Flush 0 ∷ []) else in_end m o (verbal.with_request (verbal.taken m o r))) k ≡ regions_of m k
    by true = queue_regions m o.context _ _ k
    by false = end_regions m o _ k

received_regions : (m : Machine) (o : ObjName) (v : Receive) → AreRegionsKept m (verbal.received m o v)
unfolding verbal.received
received_regions m o v k = by (end_of m o).ended
  where
    by : (b : Bool) → regions_of (if b then completing m o.context (end_of m o).receive_queue (receive_done (end_of m o).number v wc_kinds.Recv statuses.Flush 0 None ∷ []) else in_end m o (verbal.with_receive v)) k ≡ regions_of m k
    by true = queue_regions m o.context _ _ k
    by false = end_regions m o _ k

connected_regions : (m : Machine) (one two : ObjName) (terms : Terms) → AreRegionsKept m (verbal.connected_pair m one two terms)
unfolding verbal.connected_pair
connected_regions m one two terms =
    let first : Machine = in_end m one (verbal.joined two terms) in
    kept_then (λ x. x.regions) m first (in_end first two (verbal.joined one terms)) (end_regions m one (verbal.joined two terms (end_of m one))) (end_regions first two (verbal.joined one terms (end_of first two)))

pub done_regions : (m : Machine) (v : Verb) (given : ℕ) → IsOfNoRegion v → AreRegionsKept m (done m v given)
unfolding verbal.with_domain verbal.made_queue verbal.made_end verbal.polled with_queue with_queue_in context_of with_context
done_regions m (verbs.Context name made) given h k = pushed (λ x. x.regions) (λ x. x.name) (no_context k) k (no_context name) m.contexts refl
done_regions m (verbs.Connect one two terms) given h k = connected_regions m one two terms k
done_regions m (verbs.MakeDomain o) given h k = context_kept (λ x. x.regions) m o.context _ refl refl k
done_regions m (verbs.MakeRegion o domain base count rights) given h k = absurd h
done_regions m (verbs.MakeCq o capacity) given h k = context_kept (λ x. x.regions) m o.context _ refl refl k
done_regions m (verbs.MakeQp o domain send_cq recv_cq send_depth recv_depth) given h k = context_kept (λ x. x.regions) (record m { numbers = m.numbers ++ given ∷ [] }) o.context _ refl refl k
done_regions m (verbs.DropRegion o) given h k = absurd h
done_regions m (verbs.Store o address bytes) given h k = absurd h
done_regions m (verbs.Load o address count) given h k = refl
done_regions m (verbs.PostSend o r) given h k = posted_regions m o r k
done_regions m (verbs.PostRecv o v) given h k = received_regions m o v k
done_regions m (verbs.Poll cq max) given h k = context_kept (λ x. x.regions) m cq.context _ refl refl k
