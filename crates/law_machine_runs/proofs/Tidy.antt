-- What holds in each run: keys name one region, regions are whole, offers lie in their Reads, and atomics are of one word.
use Rattle.std.proofs.Common.{arith, ◌≡◌, ◌+◌, ◌%◌, ℕ, List, [], ◌∷◌, ◌++◌, length, map, true, false, Bool, refl, sym, ap, ◌∙◌, subst, inl, inr}
use Rattle.std.specs.Prelude.{All, Option, Some, None, bytes_eq, if◌then◌else◌, nat_eq, not, slice_get, ◌&&◌, ◌==◌, ◌||◌}
use Rattle.std.specs.List.{list_any}
use Rattle.std.proofs.lemmas.Bool.Decides.{eqb_tells, nat_tests}
use Rattle.std.proofs.lemmas.List.{length-replicate, map-append}
use Rattle.std.proofs.lemmas.List.Elements.{All-cons, All-head, All-nil, All-push, All-tail}
use Rattle.std.proofs.lemmas.List.Folds.{list_any-append}
use Rattle.rdma_types.specs.declared.names.Name.{Name}
use Rattle.rdma_types.specs.declared.names.ObjName.{ObjName}
use Rattle.rdma_types.specs.declared.requests.Completion.{Completion}
use Rattle.rdma_types.specs.declared.requests.Keys.{Keys}
use Rattle.rdma_types.specs.declared.requests.Receive.{Receive}
use Rattle.rdma_types.specs.declared.requests.Request.{Request}
use Rattle.rdma_types.specs.declared.requests.WcStatus.{WcStatus}
use Rattle.rdma_types.specs.declared.requests.WcStatus.TheVariants as statuses
use Rattle.rdma_types.specs.declared.requests.WcKind.TheVariants as wc_kinds
use Rattle.rdma_types.specs.declared.answers.Refusal.{Refusal}
use Rattle.rdma_types.specs.declared.answers.Refusal.TheVariants as refusals
use Rattle.rdma_types.specs.declared.verbs.Verb.{Verb}
use Rattle.rdma_types.specs.declared.verbs.Verb.TheVariants as verbs
use Rattle.rdma_types.specs.Causes.{cause}
use Rattle.rdma_types.specs.Kinds.{is_send, kind_of, receive_done, request_done}
use Rattle.rdma_types.specs.Lists.{has_name, named, without}
use Rattle.rdma_types.specs.Memory.{holds}
use Rattle.rdma_types.specs.Objects.{CompletionQueue, IsWhole, Region, no_region}
use Rattle.packetless_machine.specs.declared.steps.MachineStep.{MachineStep}
use Rattle.packetless_machine.specs.declared.steps.MachineStep.TheVariants as steps
use Rattle.packetless_machine.specs.declared.reply.Reply.{Reply}
use Rattle.packetless_machine.specs.declared.reply.Reply.TheVariants.{Denied, Finished, OldValue}
use Rattle.packetless_machine.specs.Tables.{place_where, replaced}
use Rattle.packetless_machine.specs.Machine.{Machine, Context, End, context_of, end_of, regions_of, with_context, with_end, with_end_in, with_regions, with_queues, with_queue, completing, in_end}
use Rattle.packetless_machine.specs.Steps as ideal
use Rattle.packetless_machine.specs.Verbs as verbal
use Rattle.packetless_machine.specs.Legal.{effect, is_enabled}
use Rattle.law_simulation.proofs.relation.Refusing.{first_no, later_no, not_lacking}
use Rattle.law_simulation.proofs.relation.Tables.{All-named, All-without}
use Rattle.law_machine_runs.proofs.Kept as kept
use Rattle.law_machine_runs.proofs.Kept.{IsBlind, IsPart, fixed}
use Rattle.law_machine_runs.proofs.Memory.{AreWhole, IsOfNoRegion, atom_puts, done_regions, land_puts, regions_part, run_nowhere, run_range, run_receive, tell_cases, tell_puts, whole_kept, whole_put}
use Rattle.law_machine_runs.proofs.Parts.{AreKept, context_kept, map_replaced, regions_cases}
use Rattle.law_machine_runs.proofs.Puts.{AreApart, AreKeyed, IsKey, keys_of, put_length, put_map}

-- ---- parts of contexts

keys_part : IsPart (λ x. keys_of x.regions)
keys_part = record { ends = λ c none e n h. refl; queues = λ c q more. refl }

keys_blind : IsBlind (λ x. keys_of x.regions)
keys_blind c key_of key address new = put_map (λ r. r.keys) (λ r bytes. refl) key_of key address new c.regions

pub ends_part : IsPart (λ x. map fixed x.ends)
ends_part = record { ends = λ c none e n h. map_replaced fixed (λ z. z.name) none n e c.ends h; queues = λ c q more. refl }

pub ends_blind : IsBlind (λ x. map fixed x.ends)
ends_blind c key_of key address new = refl

-- ---- keys that were given stay

with_context_keys : (m : Machine) (c : Name) (x : Context) → (with_context m c x).keys ≡ m.keys
unfolding with_context
with_context_keys m c x = refl

end_keys : (m : Machine) (o : ObjName) (e : End) → (with_end m o e).keys ≡ m.keys
unfolding with_end
end_keys m o e = with_context_keys m o.context _

regions_keys : (m : Machine) (c : Name) (rs : List Region) → (with_regions m c rs).keys ≡ m.keys
unfolding with_regions
regions_keys m c rs = with_context_keys m c _

queues_keys : (m : Machine) (c : Name) (qs : List CompletionQueue) → (with_queues m c qs).keys ≡ m.keys
unfolding with_queues
queues_keys m c qs = with_context_keys m c _

completing_keys : (m : Machine) (c q : Name) (more : List Completion) → (completing m c q more).keys ≡ m.keys
unfolding completing with_queue
completing_keys m c q more = with_context_keys m c _

receive_keys : (m : Machine) (c : Name) (into : ℕ) (new : List ℕ) (v : Option Receive) → (ideal.put_in_receive m c into new v).keys ≡ m.keys
unfolding ideal.put_in_receive
receive_keys m c into new None = refl
receive_keys m c into new (Some v) = regions_keys m c _

placing_keys : (m : Machine) (c : Name) (e x : End) (new : List ℕ) → (ideal.placing m c e x new).keys ≡ m.keys
unfolding ideal.placing
placing_keys m c e x new = by (is_send (kind_of (ideal.current e)))
  where
    by : (b : Bool) → (if b then ideal.put_in_receive m c e.into new (ideal.receive_for x) else ideal.put_in_range m c e.into new (ideal.current e)).keys ≡ m.keys
    by true = receive_keys m c e.into new (ideal.receive_for x)
    by false = regions_keys m c _

ended_keys : (m : Machine) (o : ObjName) (status : WcStatus) → (ideal.ended_with m o status).keys ≡ m.keys
unfolding ideal.ended_with
ended_keys m o status = queues_keys _ o.context _ ∙ end_keys m o _

old_keys : (m : Machine) (c : Name) (r : Request) (a : Option Reply) → (ideal.put_old m c r a).keys ≡ m.keys
unfolding ideal.put_old
old_keys m c r None = refl
old_keys m c r (Some Finished) = refl
old_keys m c r (Some (OldValue value)) = regions_keys m c _
old_keys m c r (Some (Denied why)) = refl

-- it is a step of a queue pair, and no verb
abbrev pub IsInner : MachineStep → Type 0
IsInner (steps.Verb verb given) = ⊥
IsInner other = Unit {0}

inner_keys : (m : Machine) (s : MachineStep) → IsInner s → (effect m s).keys ≡ m.keys
unfolding ideal.run ideal.run_towards ideal.atom ideal.atom_on ideal.read_turn ideal.refuse ideal.refuse_at ideal.dried ideal.offered ideal.landed ideal.land_at ideal.knowing ideal.tell ideal.tell_at ideal.expire ideal.wait ideal.bounce
inner_keys m (steps.Verb verb given) h = absurd h
inner_keys m (steps.Run q n) h = queues_keys _ _ _ ∙ (end_keys _ _ _ ∙ (placing_keys _ _ _ _ _ ∙ end_keys m q _))
inner_keys m (steps.Atom q) h = regions_keys _ _ _ ∙ end_keys m q _
inner_keys m (steps.ReadTurn q) h = end_keys m q _
inner_keys m (steps.Refuse q why) h = queues_keys _ _ _ ∙ (end_keys _ _ _ ∙ end_keys m q _)
inner_keys m (steps.Dry q) h = end_keys m q _
inner_keys m (steps.Offer q i off n) h = end_keys m q _
inner_keys m (steps.Land q i) h = end_keys _ q _ ∙ regions_keys m _ _
inner_keys m (steps.Known q bytes) h = end_keys m q _
inner_keys m (steps.Tell q) h = end_keys _ q _ ∙ (old_keys _ _ _ _ ∙ completing_keys m _ _ _)
inner_keys m (steps.Expire q) h = by ((end_of m q).spent == (end_of m q).retry)
  where
    by : (b : Bool) → (if b then ideal.ended_with m q statuses.RetryExceeded else in_end m q ideal.expired).keys ≡ m.keys
    by true = ended_keys m q statuses.RetryExceeded
    by false = end_keys m q _
inner_keys m (steps.Wait q) h = by ((end_of m q).rnr == 7) ((end_of m q).waits == (end_of m q).rnr)
  where
    by : (a b : Bool) → (if a then m else if b then ideal.ended_with m q statuses.RnrExceeded else in_end m q ideal.waited).keys ≡ m.keys
    by true b = refl
    by false true = ended_keys m q statuses.RnrExceeded
    by false false = end_keys m q _
inner_keys m (steps.Bounce q) h = ended_keys m q _

-- ---- parts that inner steps leave

any_end : {B : Type 0} (f : Context → B) → ((c : Context) (es : List End) → f (record c { ends = es }) ≡ f c) → (m : Machine) (o : ObjName) (e : End) → AreKept f m (with_end m o e)
unfolding with_end with_end_in
any_end f free m o e = context_kept f m o.context _ refl (free (context_of m o.context) _)

-- a part that sees no end may not see offers either
pub offer_free : {B : Type 0} (f : Context → B) → ((c : Context) (es : List End) → f (record c { ends = es }) ≡ f c) → (m : Machine) (q : ObjName) (i off n : ℕ) → AreKept f m (ideal.offered m q i off n)
unfolding ideal.offered
offer_free f free m q i off n = any_end f free m q _

-- .. at an Offer
abbrev pub IsOfferKept : {B : Type 0} → (Context → B) → Machine → MachineStep → Type 0
IsOfferKept f m (steps.Offer q i off n) = AreKept f m (ideal.offered m q i off n)
IsOfferKept f m other = Unit {0}

pub inner_kept : {B : Type 0} (f : Context → B) → IsPart f → IsBlind f → (m : Machine) (s : MachineStep) → IsInner s → IsOfferKept f m s → AreKept f m (effect m s)
inner_kept f part blind m (steps.Verb verb given) h offer = absurd h
inner_kept f part blind m (steps.Run q n) h offer = kept.run_kept f part blind m q n
inner_kept f part blind m (steps.Atom q) h offer = kept.atom_kept f part blind m q
inner_kept f part blind m (steps.ReadTurn q) h offer = kept.turn_kept f part m q
inner_kept f part blind m (steps.Refuse q why) h offer = kept.refuse_kept f part m q why
inner_kept f part blind m (steps.Dry q) h offer = kept.dry_kept f part m q
inner_kept f part blind m (steps.Offer q i off n) h offer = offer
inner_kept f part blind m (steps.Land q i) h offer = kept.land_kept f part blind m q i
inner_kept f part blind m (steps.Known q bytes) h offer = kept.know_kept f part m q bytes
inner_kept f part blind m (steps.Tell q) h offer = kept.tell_kept f part blind m q
inner_kept f part blind m (steps.Expire q) h offer = kept.expire_kept f part m q
inner_kept f part blind m (steps.Wait q) h offer = kept.wait_kept f part m q
inner_kept f part blind m (steps.Bounce q) h offer = kept.bounce_kept f part m q

-- ---- keys

abbrev pub AreKeyedAt : Machine → Type 0
AreKeyedAt m = (c : Name) → AreKeyed m.keys (keys_of (regions_of m c))

keyed_same : (m m' : Machine) → m'.keys ≡ m.keys → AreKept (λ x. keys_of x.regions) m m' → AreKeyedAt m → AreKeyedAt m'
keyed_same m m' used same keyed c = subst (λ u. AreKeyed u (keys_of (regions_of m' c))) (sym used) (subst (AreKeyed m.keys) (sym (same c)) (keyed c))

more_used : (used : List ℕ) (given : ℕ) (ks : List Keys) → AreKeyed used ks → AreKeyed (used ++ given ∷ []) ks
more_used used given [] h = tt
more_used used given (k ∷ ks) h = (record { given = list_any-append (nat_eq k.local) used (given ∷ []) ∙ ap (λ b. b || list_any (nat_eq k.local) (given ∷ [])) h.0.given; remote = h.0.remote }, h.1, more_used used given ks h.2)

key_pushed : (used : List ℕ) (given : ℕ) (ks : List Keys) → list_any (nat_eq given) used ≡ false → AreKeyed used ks → AreKeyed (used ++ given ∷ []) (ks ++ record { local = given; remote = given + 1 } ∷ [])
key_pushed used given [] fresh h = (record { given = list_any-append (nat_eq given) used (given ∷ []) ∙ last; remote = omega arith }, All-nil (AreApart _), tt)
  where
    last : (list_any (nat_eq given) used || list_any (nat_eq given) (given ∷ [])) ≡ true
    last = grind (arith, nat_tests, eqb_tells given given, fresh)
key_pushed used given (k ∷ ks) fresh h =
    let rest = key_pushed used given ks fresh h.2 in
    let key : IsKey (used ++ given ∷ []) k = record { given = list_any-append (nat_eq k.local) used (given ∷ []) ∙ ap (λ b. b || list_any (nat_eq k.local) (given ∷ [])) h.0.given; remote = h.0.remote } in
    let apart : AreApart k (record { local = given; remote = given + 1 }) = record { apart = λ e. absurd (cc (fresh, h.0.given, ap (λ z. list_any (nat_eq z) used) e)) } in
    (key, All-push (AreApart k) ks _ h.1 apart, rest)

apart_without : (k : Keys) (n : Name) (rs : List Region) → All (AreApart k) (keys_of rs) → All (AreApart k) (keys_of (without (λ r. r.name) n rs))
unfolding without
apart_without k n [] h = h
apart_without k n (r ∷ rs) h = by (bytes_eq r.name n) (apart_without k n rs (All-tail (AreApart k) r.keys (keys_of rs) h))
  where
    by : (b : Bool) → All (AreApart k) (keys_of (without (λ z. z.name) n rs)) → All (AreApart k) (keys_of (if b then rs else r ∷ without (λ z. z.name) n rs))
    by true later = All-tail (AreApart k) r.keys (keys_of rs) h
    by false later = All-cons (AreApart k) r.keys (keys_of (without (λ z. z.name) n rs)) (All-head (AreApart k) r.keys (keys_of rs) h) later

keys_without : (used : List ℕ) (n : Name) (rs : List Region) → AreKeyed used (keys_of rs) → AreKeyed used (keys_of (without (λ r. r.name) n rs))
unfolding without
keys_without used n [] h = tt
keys_without used n (r ∷ rs) h = by (bytes_eq r.name n) (keys_without used n rs h.2)
  where
    by : (b : Bool) → AreKeyed used (keys_of (without (λ z. z.name) n rs)) → AreKeyed used (keys_of (if b then rs else r ∷ without (λ z. z.name) n rs))
    by true later = h.2
    by false later = (h.0, apart_without r.keys n rs h.1, later)

-- the regions of one context become others, whose keys are in order
keyed_regions : (m : Machine) (c : Name) (rs : List Region) → AreKeyed m.keys (keys_of rs) → AreKeyedAt m → AreKeyedAt (with_regions m c rs)
keyed_regions m c rs new keyed k = elim (regions_cases m c rs k) [
  | inl same ↦ subst (λ z. AreKeyed (with_regions m c rs).keys (keys_of z)) (sym same) (subst (λ u. AreKeyed u (keys_of (regions_of m k))) (sym (regions_keys m c rs)) (keyed k))
  | inr here ↦ subst (λ z. AreKeyed (with_regions m c rs).keys (keys_of z)) (sym here.1) (subst (λ u. AreKeyed u (keys_of rs)) (sym (regions_keys m c rs)) new)
]

keys_map : {A : Type 0} (g : A → Keys) (xs ys : List A) → map g xs ≡ map g ys → (used : List ℕ) → AreKeyed used (map g ys) → AreKeyed used (map g xs)
keys_map g xs ys same used h = subst (AreKeyed used) (sym same) h

posted_keys : (m : Machine) (o : ObjName) (r : Request) → (verbal.posted m o r).keys ≡ m.keys
unfolding verbal.posted
posted_keys m o r = by (end_of m o).ended
  where
    by : (b : Bool) → (if b then completing m o.context (end_of m o).send_queue (request_done (end_of m o).number (verbal.taken m o r) statuses.Flush 0 ∷ []) else in_end m o (verbal.with_request (verbal.taken m o r))).keys ≡ m.keys
    by true = completing_keys m _ _ _
    by false = end_keys m o _

received_keys : (m : Machine) (o : ObjName) (v : Receive) → (verbal.received m o v).keys ≡ m.keys
unfolding verbal.received
received_keys m o v = by (end_of m o).ended
  where
    by : (b : Bool) → (if b then completing m o.context (end_of m o).receive_queue (receive_done (end_of m o).number v wc_kinds.Recv statuses.Flush 0 None ∷ []) else in_end m o (verbal.with_receive v)).keys ≡ m.keys
    by true = completing_keys m _ _ _
    by false = end_keys m o _

done_keys : (m : Machine) (v : Verb) (given : ℕ) → IsOfNoRegion v → (verbal.done m v given).keys ≡ m.keys
unfolding verbal.connected_pair verbal.with_domain verbal.made_queue verbal.made_end verbal.polled with_queue
done_keys m (verbs.Context name made) given h = refl
done_keys m (verbs.Connect one two terms) given h = end_keys _ two _ ∙ end_keys m one _
done_keys m (verbs.MakeDomain o) given h = with_context_keys m _ _
done_keys m (verbs.MakeRegion o domain base count rights) given h = absurd h
done_keys m (verbs.MakeCq o capacity) given h = with_context_keys m _ _
done_keys m (verbs.MakeQp o domain send_cq recv_cq send_depth recv_depth) given h = with_context_keys _ _ _
done_keys m (verbs.DropRegion o) given h = absurd h
done_keys m (verbs.Store o address bytes) given h = absurd h
done_keys m (verbs.Load o address count) given h = refl
done_keys m (verbs.PostSend o r) given h = posted_keys m o r
done_keys m (verbs.PostRecv o v) given h = received_keys m o v
done_keys m (verbs.Poll cq max) given h = with_context_keys m _ _

inner_keyed : (m : Machine) (s : MachineStep) → IsInner s → IsOfferKept (λ x. keys_of x.regions) m s → AreKeyedAt m → AreKeyedAt (effect m s)
inner_keyed m s h offer keyed = keyed_same m (effect m s) (inner_keys m s h) (inner_kept (λ x. keys_of x.regions) keys_part keys_blind m s h offer) keyed

other_keyed : (m : Machine) (v : Verb) (given : ℕ) → IsOfNoRegion v → AreKeyedAt m → AreKeyedAt (verbal.done m v given)
other_keyed m v given h keyed = keyed_same m (verbal.done m v given) (done_keys m v given h) (λ c. ap keys_of (done_regions m v given h c)) keyed

not_any : (b : Bool) → not b ≡ true → b ≡ false
not_any true h = absurd (cc)
not_any false h = refl

both : (a b : Bool) → (a && b) ≡ true → (a ≡ true) × (b ≡ true)
both true b h = (refl, h)
both false b h = absurd (cc)

fresh_key : (m : Machine) (given : ℕ) → ((given % 2 == 0) && verbal.is_fresh m.keys given) ≡ true → list_any (nat_eq given) m.keys ≡ false
unfolding verbal.is_fresh
fresh_key m given h = not_any (list_any (nat_eq given) m.keys) (both (given % 2 == 0) (not (list_any (nat_eq given) m.keys)) h).1

stored_keys : (m : Machine) (o : ObjName) (address : ℕ) (bytes : List ℕ) → (verbal.overwritten (verbal.region_of m o) address bytes).keys ≡ (named (λ r. r.name) no_region o.name (regions_of m o.context)).keys
unfolding verbal.overwritten verbal.region_of
stored_keys m o address bytes = refl

done_keyed : (m : Machine) (v : Verb) (given : ℕ) → verbal.may_give m v given ≡ true → AreKeyedAt m → AreKeyedAt (verbal.done m v given)
unfolding verbal.made_region verbal.stored context_of
done_keyed m (verbs.MakeRegion o domain base count rights) given may keyed =
    let next : Machine = record m { keys = m.keys ++ given ∷ [] } in
    let new : Region = verbal.new_region o.name (verbal.word_or_none domain) base count rights given in
    let more : AreKeyedAt next = λ c. more_used m.keys given (keys_of (regions_of m c)) (keyed c) in
    keyed_regions next o.context (regions_of m o.context ++ new ∷ [])
    (subst (AreKeyed next.keys) (sym (map-append (λ r. r.keys) (regions_of m o.context) (new ∷ []))) (key_pushed m.keys given (keys_of (regions_of m o.context)) (fresh_key m given may) (keyed o.context))) more
done_keyed m (verbs.DropRegion o) given may keyed = keyed_regions m o.context _ (keys_without m.keys o.name (regions_of m o.context) (keyed o.context)) keyed
done_keyed m (verbs.Store o address bytes) given may keyed =
    let new : Region = verbal.overwritten (verbal.region_of m o) address bytes in
    keyed_regions m o.context (replaced (λ r. r.name) o.name new (regions_of m o.context))
    (subst (AreKeyed m.keys) (sym (map_replaced (λ r. r.keys) (λ r. r.name) no_region o.name new (regions_of m o.context) (stored_keys m o address bytes))) (keyed o.context)) keyed
done_keyed m (verbs.Context name made) given may keyed = other_keyed m (verbs.Context name made) given tt keyed
done_keyed m (verbs.Connect one two terms) given may keyed = other_keyed m (verbs.Connect one two terms) given tt keyed
done_keyed m (verbs.MakeDomain o) given may keyed = other_keyed m (verbs.MakeDomain o) given tt keyed
done_keyed m (verbs.MakeCq o capacity) given may keyed = other_keyed m (verbs.MakeCq o capacity) given tt keyed
done_keyed m (verbs.MakeQp o domain send_cq recv_cq send_depth recv_depth) given may keyed = other_keyed m (verbs.MakeQp o domain send_cq recv_cq send_depth recv_depth) given tt keyed
done_keyed m (verbs.Load o address count) given may keyed = other_keyed m (verbs.Load o address count) given tt keyed
done_keyed m (verbs.PostSend o r) given may keyed = other_keyed m (verbs.PostSend o r) given tt keyed
done_keyed m (verbs.PostRecv o v) given may keyed = other_keyed m (verbs.PostRecv o v) given tt keyed
done_keyed m (verbs.Poll cq max) given may keyed = other_keyed m (verbs.Poll cq max) given tt keyed

verb_keyed : (m : Machine) (v : Verb) (given : ℕ) (r : Option Refusal) → verbal.may_answer r m v given ≡ true → AreKeyedAt m → AreKeyedAt (verbal.after_answer r m v given)
verb_keyed m v given None may keyed = done_keyed m v given may keyed
verb_keyed m v given (Some r) may keyed = keyed

-- ---- whole regions

whole_regions : (m : Machine) (c : Name) (rs : List Region) → All IsWhole rs → AreWhole m → AreWhole (with_regions m c rs)
whole_regions m c rs new whole k = elim (regions_cases m c rs k) [
  | inl same ↦ subst (All IsWhole) (sym same) (whole k)
  | inr here ↦ subst (All IsWhole) (sym here.1) new
]

whole_replaced : (n : Name) (x : Region) (rs : List Region) → IsWhole x → All IsWhole rs → All IsWhole (replaced (λ r. r.name) n x rs)
unfolding replaced place_where
whole_replaced n x [] h all = all
whole_replaced n x (r ∷ rs) h all = by (bytes_eq r.name n) refl (whole_replaced n x rs h (All-tail IsWhole r rs all))
  where
    by : (b : Bool) → bytes_eq r.name n ≡ b → All IsWhole (replaced (λ z. z.name) n x rs) → All IsWhole (replaced (λ z. z.name) n x (r ∷ rs))
    by true e later = rw e (All-cons IsWhole x rs h (All-tail IsWhole r rs all))
    by false e later = rw e (All-cons IsWhole r (replaced (λ z. z.name) n x rs) (All-head IsWhole r rs all) later)

-- what a store that is not refused tells
pub record IsStorable (m : Machine) (o : ObjName) (address : ℕ) (bytes : List ℕ) : Type 0 where
  pub there : has_name (λ r. r.name) o.name (regions_of m o.context) ≡ true
  pub held : holds (verbal.region_of m o) address (length bytes) ≡ true

pub storable : (m : Machine) (o : ObjName) (address : ℕ) (bytes : List ℕ) → verbal.refusal_of m (verbs.Store o address bytes) ≡ None → IsStorable m o address bytes
storable m o address bytes none =
    let one = later_no refusals.NoSuch (verbal.lacks_context m o.context) (cause refusals.NoSuch (not (verbal.has_region m o)) ∷ cause refusals.BadKey (not (holds (verbal.region_of m o) address (length bytes))) ∷ []) none in
    let two = later_no refusals.NoSuch (not (verbal.has_region m o)) (cause refusals.BadKey (not (holds (verbal.region_of m o) address (length bytes))) ∷ []) one in
    record {
      there = not_lacking (verbal.has_region m o) (first_no refusals.NoSuch (not (verbal.has_region m o)) (cause refusals.BadKey (not (holds (verbal.region_of m o) address (length bytes))) ∷ []) one);
      held = not_lacking (holds (verbal.region_of m o) address (length bytes)) (first_no refusals.BadKey (not (holds (verbal.region_of m o) address (length bytes))) [] two);
    }

pub region_whole : (m : Machine) (o : ObjName) → has_name (λ r. r.name) o.name (regions_of m o.context) ≡ true → AreWhole m → IsWhole (verbal.region_of m o)
unfolding verbal.region_of
region_whole m o there whole = All-named IsWhole (λ r. r.name) no_region o.name (regions_of m o.context) (whole o.context) there

over_whole : (r : Region) (address : ℕ) (bytes : List ℕ) → IsWhole r → holds r address (length bytes) ≡ true → IsWhole (verbal.overwritten r address bytes)
unfolding verbal.overwritten
over_whole r address bytes whole held = put_length r address bytes whole held ∙ whole

other_whole : (m : Machine) (v : Verb) (given : ℕ) → IsOfNoRegion v → AreWhole m → AreWhole (verbal.done m v given)
other_whole m v given h whole = whole_kept m (verbal.done m v given) (done_regions m v given h) whole

done_whole : (m : Machine) (v : Verb) (given : ℕ) → verbal.refusal_of m v ≡ None → AreWhole m → AreWhole (verbal.done m v given)
unfolding verbal.made_region verbal.stored context_of
done_whole m (verbs.MakeRegion o domain base count rights) given none whole =
    whole_regions (record m { keys = m.keys ++ given ∷ [] }) o.context _ (All-push IsWhole (regions_of m o.context) _ (whole o.context) (length-replicate count 0)) whole
done_whole m (verbs.DropRegion o) given none whole = whole_regions m o.context _ (All-without IsWhole (λ r. r.name) o.name (regions_of m o.context) (whole o.context)) whole
done_whole m (verbs.Store o address bytes) given none whole =
    let s : IsStorable m o address bytes = storable m o address bytes none in
    whole_regions m o.context _ (whole_replaced o.name _ (regions_of m o.context) (over_whole (verbal.region_of m o) address bytes (region_whole m o s.there whole) s.held) (whole o.context)) whole
done_whole m (verbs.Context name made) given none whole = other_whole m (verbs.Context name made) given tt whole
done_whole m (verbs.Connect one two terms) given none whole = other_whole m (verbs.Connect one two terms) given tt whole
done_whole m (verbs.MakeDomain o) given none whole = other_whole m (verbs.MakeDomain o) given tt whole
done_whole m (verbs.MakeCq o capacity) given none whole = other_whole m (verbs.MakeCq o capacity) given tt whole
done_whole m (verbs.MakeQp o domain send_cq recv_cq send_depth recv_depth) given none whole = other_whole m (verbs.MakeQp o domain send_cq recv_cq send_depth recv_depth) given tt whole
done_whole m (verbs.Load o address count) given none whole = other_whole m (verbs.Load o address count) given tt whole
done_whole m (verbs.PostSend o r) given none whole = other_whole m (verbs.PostSend o r) given tt whole
done_whole m (verbs.PostRecv o v) given none whole = other_whole m (verbs.PostRecv o v) given tt whole
done_whole m (verbs.Poll cq max) given none whole = other_whole m (verbs.Poll cq max) given tt whole

verb_whole : (m : Machine) (v : Verb) (given : ℕ) (r : Option Refusal) → verbal.refusal_of m v ≡ r → AreWhole m → AreWhole (verbal.after_answer r m v given)
verb_whole m v given None is whole = done_whole m v given is whole
verb_whole m v given (Some r) is whole = whole

run_whole : (m : Machine) (q : ObjName) (n : ℕ) → AreWhole m → AreWhole (ideal.run m q n)
run_whole m q n whole = by (is_send (kind_of (ideal.current (end_of m q)))) refl
  where
    into : (v : Option Receive) → ideal.receive_for (ideal.peer_of m q) ≡ v → is_send (kind_of (ideal.current (end_of m q))) ≡ true → AreWhole (ideal.run m q n)
    into None is sends = whole_kept m (ideal.run m q n) (run_nowhere m q n sends is) whole
    into (Some v) is sends = whole_put m (ideal.run m q n) _ _ _ _ _ (run_receive m q n sends v is) whole

    by : (b : Bool) → is_send (kind_of (ideal.current (end_of m q))) ≡ b → AreWhole (ideal.run m q n)
    by true h = into (ideal.receive_for (ideal.peer_of m q)) refl h
    by false h = whole_put m (ideal.run m q n) _ _ _ _ _ (run_range m q n h) whole

tell_whole : (m : Machine) (q : ObjName) → AreWhole m → AreWhole (ideal.tell m q)
tell_whole m q whole = elim (tell_cases m q (slice_get (end_of m q).answers (end_of m q).told) refl) [
  | inl same ↦ whole_kept m (ideal.tell m q) same whole
  | inr old ↦ whole_put m (ideal.tell m q) _ _ _ _ _ (tell_puts m q old.0 old.1) whole
]

pub step_whole : (m : Machine) (s : MachineStep) → AreWhole m → AreWhole (effect m s)
step_whole m (steps.Verb v given) whole = verb_whole m v given (verbal.refusal_of m v) refl whole
step_whole m (steps.Run q n) whole = run_whole m q n whole
step_whole m (steps.Atom q) whole = whole_put m (ideal.atom m q) _ _ _ _ _ (atom_puts m q) whole
step_whole m (steps.ReadTurn q) whole = whole_kept m _ (kept.turn_kept (λ x. x.regions) regions_part m q) whole
step_whole m (steps.Refuse q why) whole = whole_kept m _ (kept.refuse_kept (λ x. x.regions) regions_part m q why) whole
step_whole m (steps.Dry q) whole = whole_kept m _ (kept.dry_kept (λ x. x.regions) regions_part m q) whole
step_whole m (steps.Offer q i off n) whole = whole_kept m _ (offer_free (λ x. x.regions) (λ c es. refl) m q i off n) whole
step_whole m (steps.Land q i) whole = whole_put m (ideal.landed m q i) _ _ _ _ _ (land_puts m q i) whole
step_whole m (steps.Known q bytes) whole = whole_kept m _ (kept.know_kept (λ x. x.regions) regions_part m q bytes) whole
step_whole m (steps.Tell q) whole = tell_whole m q whole
step_whole m (steps.Expire q) whole = whole_kept m _ (kept.expire_kept (λ x. x.regions) regions_part m q) whole
step_whole m (steps.Wait q) whole = whole_kept m _ (kept.wait_kept (λ x. x.regions) regions_part m q) whole
step_whole m (steps.Bounce q) whole = whole_kept m _ (kept.bounce_kept (λ x. x.regions) regions_part m q) whole

pub step_keyed : (m : Machine) (s : MachineStep) → is_enabled m s ≡ true → AreKeyedAt m → AreKeyedAt (effect m s)
step_keyed m (steps.Verb v given) may keyed = verb_keyed m v given (verbal.refusal_of m v) may keyed
step_keyed m (steps.Run q n) may keyed = inner_keyed m (steps.Run q n) tt tt keyed
step_keyed m (steps.Atom q) may keyed = inner_keyed m (steps.Atom q) tt tt keyed
step_keyed m (steps.ReadTurn q) may keyed = inner_keyed m (steps.ReadTurn q) tt tt keyed
step_keyed m (steps.Refuse q why) may keyed = inner_keyed m (steps.Refuse q why) tt tt keyed
step_keyed m (steps.Dry q) may keyed = inner_keyed m (steps.Dry q) tt tt keyed
step_keyed m (steps.Offer q i off n) may keyed = inner_keyed m (steps.Offer q i off n) tt (offer_free (λ x. keys_of x.regions) (λ c es. refl) m q i off n) keyed
step_keyed m (steps.Land q i) may keyed = inner_keyed m (steps.Land q i) tt tt keyed
step_keyed m (steps.Known q bytes) may keyed = inner_keyed m (steps.Known q bytes) tt tt keyed
step_keyed m (steps.Tell q) may keyed = inner_keyed m (steps.Tell q) tt tt keyed
step_keyed m (steps.Expire q) may keyed = inner_keyed m (steps.Expire q) tt tt keyed
step_keyed m (steps.Wait q) may keyed = inner_keyed m (steps.Wait q) tt tt keyed
step_keyed m (steps.Bounce q) may keyed = inner_keyed m (steps.Bounce q) tt tt keyed
