-- What holds of each end in every run: its offers lie in its Reads, and its atomics are of one word.
use Rattle.std.proofs.Common.{arith, ◌≡◌, ◌≤◌, ◌<◌, ◌+◌, ℕ, List, [], ◌∷◌, ◌++◌, length, map, true, false, Bool, refl, sym, ap, ◌∙◌, subst}
use Rattle.std.specs.Prelude.{All, Option, Some, None, if◌then◌else◌, nat_le, nat_lt, ◌&&◌}
use Rattle.std.proofs.lemmas.Bool.Decides.{leb_tells, nat_tests}
use Rattle.std.proofs.lemmas.List.{get_or_append_left, length-append}
use Rattle.std.proofs.lemmas.List.Elements.{All-push, All-weaker}
use Rattle.rdma_types.specs.declared.names.Name.{Name}
use Rattle.rdma_types.specs.declared.names.ObjName.{ObjName}
use Rattle.rdma_types.specs.declared.requests.Receive.{Receive}
use Rattle.rdma_types.specs.declared.requests.Request.{Request}
use Rattle.rdma_types.specs.declared.requests.Terms.{Terms}
use Rattle.rdma_types.specs.declared.requests.WcStatus.TheVariants as statuses
use Rattle.rdma_types.specs.declared.requests.WcKind.TheVariants as wc_kinds
use Rattle.rdma_types.specs.declared.answers.Refusal.{Refusal}
use Rattle.rdma_types.specs.declared.verbs.Verb.{Verb}
use Rattle.rdma_types.specs.declared.verbs.Verb.TheVariants as verbs
use Rattle.rdma_types.specs.Kinds.{is_atomic, is_read, kind_of, receive_done, request_done, size_of}
use Rattle.rdma_types.specs.Lists.{named}
use Rattle.rdma_types.specs.Objects.{Posted, Region, no_posted}
use Rattle.packetless_machine.specs.declared.steps.MachineStep.{MachineStep}
use Rattle.packetless_machine.specs.declared.steps.MachineStep.TheVariants as steps
use Rattle.packetless_machine.specs.Machine.{Machine, Context, End, Offered, no_context, nobody, new_end, context_of, end_of, with_context, with_end, with_queue, with_queue_in, completing, in_end, posted_at}
use Rattle.packetless_machine.specs.Steps as ideal
use Rattle.packetless_machine.specs.Verbs as verbal
use Rattle.packetless_machine.specs.Legal.{effect, is_enabled}
use Rattle.packetless_machine.proofs.Views.{end_of-completing, end_of-with_context, end_of-with_regions}
use Rattle.law_simulation.proofs.relation.Tables.{named-map}
use Rattle.law_simulation.proofs.requests.ReadTurns.{bytes_short}
use Rattle.law_simulation.proofs.runs.Acting.{end_related, pushed, related}
use Rattle.law_machine_runs.specs.Isolation.{IsOfWord}
use Rattle.law_machine_runs.proofs.Kept.{fixed}
use Rattle.law_machine_runs.proofs.Parts.{AreKept}
use Rattle.law_machine_runs.proofs.Tidy.{IsInner, IsOfferKept, ends_blind, ends_part, inner_kept}

-- an offer is of a Read, and lies in it
pub record IsInside (posted : List Posted) (o : Offered) : Type 0 where
  pub below : o.request < length posted
  pub reads : is_read (kind_of (posted_at posted o.request)) ≡ true
  pub within : o.offset + length o.bytes ≤ size_of (posted_at posted o.request)

-- an atomic is of one word
pub record IsWordly (p : Posted) : Type 0 where
  pub word : is_atomic (kind_of p) ≡ true → size_of p ≡ 8

pub record IsFair (e : End) : Type 0 where
  pub offers : All (IsInside e.posted) e.offers
  pub words : All IsWordly e.posted

abbrev pub AreFair : Machine → Type 0
AreFair m = (q : ObjName) → IsFair (end_of m q)

-- the requests and offers are those of an end that is fair
abbrev AreThose : End → End → Type 0
AreThose a b = (a.posted ≡ b.posted) × (a.offers ≡ b.offers)

those_fair : (a b : End) → a.posted ≡ b.posted → a.offers ≡ b.offers → IsFair b → IsFair a
those_fair a b p o h = record {
  offers = subst (λ xs. All (IsInside a.posted) xs) (sym o) (subst (λ ps. All (IsInside ps) b.offers) (sym p) h.offers);
  words = subst (All IsWordly) (sym p) h.words;
}

fixed_fair : (a b : End) → fixed a ≡ fixed b → IsFair b → IsFair a
fixed_fair a b same h = those_fair a b (ap (λ z. z.posted) same) (ap (λ z. z.offers) same) h

-- what is fixed of each end, from what is fixed of the ends of contexts
pub fixed_of : (m m' : Machine) → AreKept (λ x. map fixed x.ends) m m' → (q : ObjName) → fixed (end_of m' q) ≡ fixed (end_of m q)
unfolding end_of
fixed_of m m' same q =
    sym (named-map fixed (λ z. z.name) (λ z. z.name) (nobody q) q.name (context_of m' q.context).ends (λ z. refl))
    ∙ (ap (named (λ z. z.name) (fixed (nobody q)) q.name) (same q.context) ∙ named-map fixed (λ z. z.name) (λ z. z.name) (nobody q) q.name (context_of m q.context).ends (λ z. refl))

-- ---- an end changes

end_fair : (m : Machine) (o : ObjName) (e : End) → e.name ≡ (end_of m o).name → (IsFair (end_of m o) → IsFair e) → AreFair m → AreFair (with_end m o e)
end_fair m o e n h fair q = end_related (λ a b. IsFair b → IsFair a) (λ a f. f) m o e q n h (fair q)

-- one more request
posted_more : (e : End) (p : Posted) → IsWordly p → IsFair e → IsFair (verbal.with_request p e)
posted_more e p word h = record {
  offers = All-weaker (IsInside e.posted) (IsInside (e.posted ++ p ∷ [])) (λ o i. record {
    below = omega (arith, i.below, length-append e.posted (p ∷ []));
    reads = subst (λ r. is_read (kind_of r) ≡ true) (sym (get_or_append_left e.posted (p ∷ []) no_posted o.request i.below)) i.reads;
    within = subst (λ r. o.offset + length o.bytes ≤ size_of r) (sym (get_or_append_left e.posted (p ∷ []) no_posted o.request i.below)) i.within;
  }) e.offers h.offers;
  words = All-push IsWordly e.posted p h.words word;
}

both : (a b : Bool) → (a && b) ≡ true → (a ≡ true) × (b ≡ true)
both true b h = (refl, h)
both false b h = absurd (cc)

-- what an enabled Offer tells
record IsOffer (e : End) (i off n : ℕ) : Type 0 where
  below : i < length e.posted
  reads : is_read (kind_of (posted_at e.posted i)) ≡ true
  within : off + n ≤ size_of (posted_at e.posted i)

offer_there : (e : End) (i off n : ℕ) → ideal.is_read_part e i off n ≡ true → IsOffer e i off n
unfolding ideal.is_read_part
offer_there e i off n h =
    let one = both (nat_lt i e.acted) (nat_lt i (length e.posted) && (is_read (kind_of (posted_at e.posted i)) && nat_le (off + n) (size_of (posted_at e.posted i)))) h in
    let two = both (nat_lt i (length e.posted)) (is_read (kind_of (posted_at e.posted i)) && nat_le (off + n) (size_of (posted_at e.posted i))) one.1 in
    let three = both (is_read (kind_of (posted_at e.posted i))) (nat_le (off + n) (size_of (posted_at e.posted i))) two.1 in
    let below : nat_lt i (length e.posted) ≡ true = two.0 in
    let within : nat_le (off + n) (size_of (posted_at e.posted i)) ≡ true = three.1 in
    record { below = grind (arith, nat_tests, below); reads = three.0; within = grind (arith, nat_tests, leb_tells (off + n) (size_of (posted_at e.posted i)), within) }

offer_more : (e : End) (i off n : ℕ) (bytes : List ℕ) → IsOffer e i off n → length bytes ≤ n → IsFair e → IsFair (ideal.with_offer e i off bytes)
unfolding ideal.with_offer
offer_more e i off n bytes o few h = record {
  offers = All-push (IsInside e.posted) e.offers _ h.offers (record { below = o.below; reads = o.reads; within = omega (arith, few, o.within) });
  words = h.words;
}

offer_name : (e : End) (i off : ℕ) (bytes : List ℕ) → (ideal.with_offer e i off bytes).name ≡ e.name
unfolding ideal.with_offer
offer_name e i off bytes = refl

few_there : (p : Posted) (off n : ℕ) (rs : List Region) → length (ideal.bytes_there p off n rs) ≤ n
unfolding ideal.bytes_there
few_there p off n rs = bytes_short _ _ n rs

offered_fair : (m : Machine) (q : ObjName) (i off n : ℕ) → ideal.may_offer m q i off n ≡ true → AreFair m → AreFair (ideal.offered m q i off n)
unfolding ideal.offered ideal.may_offer
offered_fair m q i off n may fair =
    let e : End = end_of m q in
    let bytes : List ℕ = ideal.bytes_there (posted_at e.posted i) off n (ideal.peer_regions m q) in
    let one = both (ideal.has_peer m q) _ may in
    let two = both (ideal.is_read_part e i off n) _ one.1 in
    end_fair m q (ideal.with_offer e i off bytes) (offer_name e i off bytes) (offer_more e i off n bytes (offer_there e i off n two.0) (few_there (posted_at e.posted i) off n (ideal.peer_regions m q))) fair

-- ---- the other inner steps

kept_fair : (m m' : Machine) → AreKept (λ x. map fixed x.ends) m m' → AreFair m → AreFair m'
kept_fair m m' same fair q = fixed_fair (end_of m' q) (end_of m q) (fixed_of m m' same q) (fair q)

-- ---- verbs

-- an end as it stands without the verb
same_fair : (m m' : Machine) → ((q : ObjName) → end_of m' q ≡ end_of m q) → AreFair m → AreFair m'
same_fair m m' same fair q = subst IsFair (sym (same q)) (fair q)

-- the verb is none of a queue pair
abbrev pub IsOfNoPair : Verb → Type 0
IsOfNoPair (verbs.MakeQp name domain send_cq recv_cq send_depth recv_depth) = ⊥
IsOfNoPair (verbs.Connect one two terms) = ⊥
IsOfNoPair (verbs.PostSend name request) = ⊥
IsOfNoPair (verbs.PostRecv name receive) = ⊥
IsOfNoPair other = Unit {0}

context_pushed : (m : Machine) (name : Name) (q : ObjName) → end_of (record m { contexts = m.contexts ++ no_context name ∷ [] }) q ≡ end_of m q
unfolding end_of context_of named
context_pushed m name q = pushed (λ x. named (λ u. u.name) (nobody q) q.name x.ends) (λ x. x.name) (no_context q.context) q.context (no_context name) m.contexts refl

keys_ends : (m : Machine) (keys : List ℕ) (q : ObjName) → end_of (record m { keys = keys }) q ≡ end_of m q
unfolding end_of context_of
keys_ends m keys q = refl

pub done_ends : (m : Machine) (v : Verb) (given : ℕ) → IsOfNoPair v → (q : ObjName) → end_of (verbal.done m v given) q ≡ end_of m q
unfolding verbal.with_domain verbal.made_region verbal.made_queue verbal.stored verbal.polled with_queue with_queue_in
done_ends m (verbs.Context name made) given h q = context_pushed m name q
done_ends m (verbs.Connect one two terms) given h q = absurd h
done_ends m (verbs.MakeDomain o) given h q = end_of-with_context m o.context _ q refl refl
done_ends m (verbs.MakeRegion o domain base count rights) given h q = end_of-with_regions (record m { keys = m.keys ++ given ∷ [] }) o.context _ q ∙ keys_ends m (m.keys ++ given ∷ []) q
done_ends m (verbs.MakeCq o capacity) given h q = end_of-with_context m o.context _ q refl refl
done_ends m (verbs.MakeQp o domain send_cq recv_cq send_depth recv_depth) given h q = absurd h
done_ends m (verbs.DropRegion o) given h q = end_of-with_regions m o.context _ q
done_ends m (verbs.Store o address bytes) given h q = end_of-with_regions m o.context _ q
done_ends m (verbs.Load o address count) given h q = refl
done_ends m (verbs.PostSend o r) given h q = absurd h
done_ends m (verbs.PostRecv o v) given h q = absurd h
done_ends m (verbs.Poll cq max) given h q = end_of-with_context m cq.context _ q refl refl

joined_fair : (peer : ObjName) (terms : Terms) (e : End) → IsFair e → IsFair (verbal.joined peer terms e)
unfolding verbal.joined
joined_fair peer terms e h = record { offers = h.offers; words = h.words }

pub joined_name : (peer : ObjName) (terms : Terms) (e : End) → (verbal.joined peer terms e).name ≡ e.name
unfolding verbal.joined
joined_name peer terms e = refl

connected_fair : (m : Machine) (one two : ObjName) (terms : Terms) → AreFair m → AreFair (verbal.connected_pair m one two terms)
unfolding verbal.connected_pair
connected_fair m one two terms fair =
    let first : Machine = in_end m one (verbal.joined two terms) in
    end_fair first two (verbal.joined one terms (end_of first two)) (joined_name one terms (end_of first two)) (joined_fair one terms (end_of first two))
    (end_fair m one (verbal.joined two terms (end_of m one)) (joined_name two terms (end_of m one)) (joined_fair two terms (end_of m one)) fair)

made_fair : (m : Machine) (o : ObjName) (domain send_cq recv_cq : Name) (send_depth recv_depth given : ℕ) → AreFair m → AreFair (verbal.made_end m o domain send_cq recv_cq send_depth recv_depth given)
unfolding verbal.made_end end_of context_of with_context
made_fair m o domain send_cq recv_cq send_depth recv_depth given fair q =
    let new : End = new_end o given domain send_cq recv_cq send_depth recv_depth in
    let find : Context → End = λ x. named (λ u. u.name) (nobody q) q.name x.ends in
    let posted : (find (named (λ z. z.name) (no_context q.context) q.context (verbal.made_end m o domain send_cq recv_cq send_depth recv_depth given).contexts)).posted ≡ (end_of m q).posted =
    related (λ x y. (find x).posted ≡ (find y).posted) (λ x. refl) (λ x. x.name) (no_context o.context) (no_context q.context) o.context q.context
    (record (context_of m o.context) { ends = (context_of m o.context).ends ++ new ∷ [] }) m.contexts refl (pushed (λ u. u.posted) (λ u. u.name) (nobody q) q.name new (context_of m o.context).ends refl) in
    let offers : (find (named (λ z. z.name) (no_context q.context) q.context (verbal.made_end m o domain send_cq recv_cq send_depth recv_depth given).contexts)).offers ≡ (end_of m q).offers =
    related (λ x y. (find x).offers ≡ (find y).offers) (λ x. refl) (λ x. x.name) (no_context o.context) (no_context q.context) o.context q.context
    (record (context_of m o.context) { ends = (context_of m o.context).ends ++ new ∷ [] }) m.contexts refl (pushed (λ u. u.offers) (λ u. u.name) (nobody q) q.name new (context_of m o.context).ends refl) in
    those_fair (end_of (verbal.made_end m o domain send_cq recv_cq send_depth recv_depth given) q) (end_of m q) posted offers (fair q)

taken_word : (m : Machine) (o : ObjName) (r : Request) → (is_atomic r.shape.kind ≡ true → r.shape.length ≡ 8) → IsWordly (verbal.taken m o r)
unfolding verbal.taken
taken_word m o r h = record { word = h }

posted_fair : (m : Machine) (o : ObjName) (r : Request) → (is_atomic r.shape.kind ≡ true → r.shape.length ≡ 8) → AreFair m → AreFair (verbal.posted m o r)
unfolding verbal.posted
posted_fair m o r word fair = by (end_of m o).ended
  where
    by : (b : Bool) → AreFair (if b then completing m o.context (end_of m o).send_queue (request_done (end_of m o).number (verbal.taken m o r) statuses.Flush 0 ∷ []) else in_end m o (verbal.with_request (verbal.taken m o r)))
    by true = same_fair m _ (λ q. end_of-completing m o.context _ _ q) fair
    by false = end_fair m o (verbal.with_request (verbal.taken m o r) (end_of m o)) refl (posted_more (end_of m o) (verbal.taken m o r) (taken_word m o r word)) fair

received_fair : (m : Machine) (o : ObjName) (v : Receive) → AreFair m → AreFair (verbal.received m o v)
unfolding verbal.received
received_fair m o v fair = by (end_of m o).ended
  where
    by : (b : Bool) → AreFair (if b then completing m o.context (end_of m o).receive_queue (receive_done (end_of m o).number v wc_kinds.Recv statuses.Flush 0 None ∷ []) else in_end m o (verbal.with_receive v))
    by true = same_fair m _ (λ q. end_of-completing m o.context _ _ q) fair
    by false = end_fair m o (verbal.with_receive v (end_of m o)) refl (λ h. record { offers = h.offers; words = h.words }) fair

done_fair : (m : Machine) (v : Verb) (given : ℕ) → IsOfWord (steps.Verb v given) → AreFair m → AreFair (verbal.done m v given)
done_fair m (verbs.Context name made) given word fair = same_fair m _ (done_ends m (verbs.Context name made) given tt) fair
done_fair m (verbs.Connect one two terms) given word fair = connected_fair m one two terms fair
done_fair m (verbs.MakeDomain o) given word fair = same_fair m _ (done_ends m (verbs.MakeDomain o) given tt) fair
done_fair m (verbs.MakeRegion o domain base count rights) given word fair = same_fair m _ (done_ends m (verbs.MakeRegion o domain base count rights) given tt) fair
done_fair m (verbs.MakeCq o capacity) given word fair = same_fair m _ (done_ends m (verbs.MakeCq o capacity) given tt) fair
done_fair m (verbs.MakeQp o domain send_cq recv_cq send_depth recv_depth) given word fair = made_fair m o _ _ _ send_depth recv_depth given fair
done_fair m (verbs.DropRegion o) given word fair = same_fair m _ (done_ends m (verbs.DropRegion o) given tt) fair
done_fair m (verbs.Store o address bytes) given word fair = same_fair m _ (done_ends m (verbs.Store o address bytes) given tt) fair
done_fair m (verbs.Load o address count) given word fair = fair
done_fair m (verbs.PostSend o r) given word fair = posted_fair m o r word fair
done_fair m (verbs.PostRecv o v) given word fair = received_fair m o v fair
done_fair m (verbs.Poll cq max) given word fair = same_fair m _ (done_ends m (verbs.Poll cq max) given tt) fair

verb_fair : (m : Machine) (v : Verb) (given : ℕ) (r : Option Refusal) → IsOfWord (steps.Verb v given) → AreFair m → AreFair (verbal.after_answer r m v given)
verb_fair m v given None word fair = done_fair m v given word fair
verb_fair m v given (Some r) word fair = fair

-- ---- each step

inner_fair : (m : Machine) (s : MachineStep) → IsInner s → IsOfferKept (λ x. map fixed x.ends) m s → AreFair m → AreFair (effect m s)
inner_fair m s h offer fair = kept_fair m (effect m s) (inner_kept (λ x. map fixed x.ends) ends_part ends_blind m s h offer) fair

pub step_fair : (m : Machine) (s : MachineStep) → is_enabled m s ≡ true → IsOfWord s → AreFair m → AreFair (effect m s)
step_fair m (steps.Verb v given) may word fair = verb_fair m v given (verbal.refusal_of m v) word fair
step_fair m (steps.Run q n) may word fair = inner_fair m (steps.Run q n) tt tt fair
step_fair m (steps.Atom q) may word fair = inner_fair m (steps.Atom q) tt tt fair
step_fair m (steps.ReadTurn q) may word fair = inner_fair m (steps.ReadTurn q) tt tt fair
step_fair m (steps.Refuse q why) may word fair = inner_fair m (steps.Refuse q why) tt tt fair
step_fair m (steps.Dry q) may word fair = inner_fair m (steps.Dry q) tt tt fair
step_fair m (steps.Offer q i off n) may word fair = offered_fair m q i off n may fair
step_fair m (steps.Land q i) may word fair = inner_fair m (steps.Land q i) tt tt fair
step_fair m (steps.Known q bytes) may word fair = inner_fair m (steps.Known q bytes) tt tt fair
step_fair m (steps.Tell q) may word fair = inner_fair m (steps.Tell q) tt tt fair
step_fair m (steps.Expire q) may word fair = inner_fair m (steps.Expire q) tt tt fair
step_fair m (steps.Wait q) may word fair = inner_fair m (steps.Wait q) tt tt fair
step_fair m (steps.Bounce q) may word fair = inner_fair m (steps.Bounce q) tt tt fair
