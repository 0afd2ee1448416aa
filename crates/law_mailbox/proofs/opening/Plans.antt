-- Inner steps of the machine build nothing, and nor do the verbs of work.
use Rattle.std.proofs.Common.{◌≡◌, ℕ, suc, ◌+◌, ◌-◌, List, [], ◌∷◌, ◌++◌, length, map, drop, true, false, Bool, refl, sym, ap, ◌∙◌, Some, None, Option}
use Rattle.std.specs.Prelude.{bytes_eq, if◌then◌else◌, slice_get, slice_set, ◌==◌, ◌||◌}
use Rattle.rdma_types.specs.declared.answers.Refusal.{Refusal}
use Rattle.rdma_types.specs.declared.answers.RefusalReason.{RefusalReason}
use Rattle.rdma_types.specs.declared.names.Name.{Name}
use Rattle.rdma_types.specs.declared.names.ObjName.{ObjName}
use Rattle.rdma_types.specs.declared.requests.Completion.{Completion}
use Rattle.rdma_types.specs.declared.requests.Receive.{Receive}
use Rattle.rdma_types.specs.declared.requests.Request.{Request}
use Rattle.rdma_types.specs.declared.requests.WcKind.TheVariants as wc
use Rattle.rdma_types.specs.declared.requests.WcStatus.{WcStatus}
use Rattle.rdma_types.specs.declared.requests.WcStatus.TheVariants as status
use Rattle.rdma_types.specs.declared.verbs.Verb.{Verb}
use Rattle.rdma_types.specs.declared.verbs.Verb.TheVariants as verbs
use Rattle.rdma_types.specs.Kinds.{is_send, kind_of, receive_done, request_done}
use Rattle.rdma_types.specs.Lists.{has_name, named}
use Rattle.rdma_types.specs.Memory.{local_key, put, remote_key, word_bytes}
use Rattle.rdma_types.specs.Objects.{CompletionQueue, Region, no_queue, no_region}
use Rattle.packetless_machine.specs.declared.reply.Reply.{Reply}
use Rattle.packetless_machine.specs.declared.reply.Reply.TheVariants.{Denied, Finished, OldValue}
use Rattle.packetless_machine.specs.declared.steps.MachineStep.TheVariants as steps
use Rattle.packetless_machine.specs.Machine.{Context, End, Machine, completed, completing, context_of, end_of, has_context, is_at, longer, no_context, nobody, put_at, queue_of, regions_of, with_context, with_end, with_end_in, with_queue, with_queue_in, with_queues, with_regions}
use Rattle.packetless_machine.specs.Steps as step
use Rattle.packetless_machine.specs.Tables.{place_where, replaced}
use Rattle.packetless_machine.specs.Verbs as verbing
use Rattle.packetless_machine.specs.Verbs.{after_answer, after_verb, refusal_of}
use Rattle.law_mailbox.proofs.connection.Refusals.{closed_name, denied_name}
use Rattle.law_mailbox.proofs.connection.Towards.{advanced_name, received_name}
use Rattle.law_mailbox.specs.Plans.{AreBuiltAs, IsBuiltAs, IsVerbOfWork, StepsBuildNothing, VerbsBuildNothing}

-- ---- one thing is another, with a like part

module _ {A : Type 0} (name : A → List ℕ) (none : A) (k : List ℕ) (x : A) where
  -- a part of each stays
  parts_stay : {B : Type 0} (f : A → B) (xs : List A) → f x ≡ f (named name none k xs) → map f (replaced name k x xs) ≡ map f xs
  unfolding named replaced place_where
  parts_stay f [] p = refl
  parts_stay f (y ∷ ys) p = by (bytes_eq (name y) k) p (parts_stay f ys)
    where
      by : (b : Bool) → f x ≡ f (if b then y else named name none k ys) → (f x ≡ f (named name none k ys) → map f (slice_set ys (place_where (λ z. bytes_eq (name z) k) ys) x) ≡ map f ys) →
          map f (slice_set (y ∷ ys) (if b then 0 else suc (place_where (λ z. bytes_eq (name z) k) ys)) x) ≡ map f (y ∷ ys)
      by true q rest = ap (λ z. z ∷ map f ys) q
      by false q rest = ap (λ zs. f y ∷ zs) (rest q)

  -- .. and what is found under each name
  found_stays : {B : Type 0} (f : A → B) (other : A) (j : List ℕ) (xs : List A) → name x ≡ name (named name none k xs) → f x ≡ f (named name none k xs) → f (named name other j (replaced name k x xs)) ≡ f (named name other j xs)
  unfolding named replaced place_where
  found_stays f other j [] n p = refl
  found_stays f other j (y ∷ ys) n p = by (bytes_eq (name y) k) n p (found_stays f other j ys)
    where
      first : (b : Bool) → f x ≡ f y → f (if b then x else named name other j ys) ≡ f (if b then y else named name other j ys)
      first true q = q
      first false q = refl

      later : (b : Bool) (zs : List A) → f (named name other j zs) ≡ f (named name other j ys) → f (if b then y else named name other j zs) ≡ f (if b then y else named name other j ys)
      later true zs q = refl
      later false zs q = q

      by : (b : Bool) → name x ≡ name (if b then y else named name none k ys) → f x ≡ f (if b then y else named name none k ys) →
          (name x ≡ name (named name none k ys) → f x ≡ f (named name none k ys) → f (named name other j (slice_set ys (place_where (λ z. bytes_eq (name z) k) ys) x)) ≡ f (named name other j ys)) →
          f (named name other j (slice_set (y ∷ ys) (if b then 0 else suc (place_where (λ z. bytes_eq (name z) k) ys)) x)) ≡ f (named name other j (y ∷ ys))
      by true n' q rest = ap (λ (w : List ℕ). f (if bytes_eq w j then x else named name other j ys)) n' ∙ first (bytes_eq (name y) j) q
      by false n' q rest = later (bytes_eq (name y) j) (slice_set ys (place_where (λ z. bytes_eq (name z) k) ys) x) (rest n' q)

  -- .. and which names there are
  names_stay : (j : List ℕ) (xs : List A) → name x ≡ name (named name none k xs) → has_name name j (replaced name k x xs) ≡ has_name name j xs
  unfolding named replaced place_where has_name
  names_stay j [] n = refl
  names_stay j (y ∷ ys) n = by (bytes_eq (name y) k) n (names_stay j ys)
    where
      by : (b : Bool) → name x ≡ name (if b then y else named name none k ys) → (name x ≡ name (named name none k ys) → has_name name j (slice_set ys (place_where (λ z. bytes_eq (name z) k) ys) x) ≡ has_name name j ys) →
          has_name name j (slice_set (y ∷ ys) (if b then 0 else suc (place_where (λ z. bytes_eq (name z) k) ys)) x) ≡ has_name name j (y ∷ ys)
      by true q rest = ap (λ (w : List ℕ). bytes_eq w j || has_name name j ys) q
      by false q rest = ap (λ (t : Bool). bytes_eq (name y) j || t) (rest q)

-- ---- machines that are built alike

like_itself : (a : Context) → IsBuiltAs a a
like_itself a = record { region_names = refl; region_lengths = refl; queue_names = refl; capacities = refl; end_names = refl }

like_then : (a b c : Context) → IsBuiltAs a b → IsBuiltAs b c → IsBuiltAs a c
like_then a b c x y = record {
  region_names = x.region_names ∙ y.region_names;
  region_lengths = x.region_lengths ∙ y.region_lengths;
  queue_names = x.queue_names ∙ y.queue_names;
  capacities = x.capacities ∙ y.capacities;
  end_names = x.end_names ∙ y.end_names;
}

pub built_itself : (m : Machine) → AreBuiltAs m m
built_itself m = record { there = λ c. refl; each = λ c. like_itself (context_of m c) }

pub built_then : (a b c : Machine) → AreBuiltAs a b → AreBuiltAs b c → AreBuiltAs a c
built_then a b c x y = record { there = λ n. x.there n ∙ y.there n; each = λ n. like_then (context_of a n) (context_of b n) (context_of c n) (x.each n) (y.each n) }

context_built : (m : Machine) (c : Name) (x : Context) → x.name ≡ (context_of m c).name → IsBuiltAs x (context_of m c) → AreBuiltAs (with_context m c x) m
unfolding with_context context_of has_context
context_built m c x n p = record {
  there = λ d. names_stay (λ z. z.name) (no_context c) c x d m.contexts n;
  each = λ d. record {
    region_names = found_stays (λ z. z.name) (no_context c) c x (λ z. map (λ r. r.name) z.regions) (no_context d) d m.contexts n p.region_names;
    region_lengths = found_stays (λ z. z.name) (no_context c) c x (λ z. map (λ r. r.length) z.regions) (no_context d) d m.contexts n p.region_lengths;
    queue_names = found_stays (λ z. z.name) (no_context c) c x (λ z. map (λ q. q.name) z.queues) (no_context d) d m.contexts n p.queue_names;
    capacities = found_stays (λ z. z.name) (no_context c) c x (λ z. map (λ q. q.capacity) z.queues) (no_context d) d m.contexts n p.capacities;
    end_names = found_stays (λ z. z.name) (no_context c) c x (λ z. map (λ e. e.name) z.ends) (no_context d) d m.contexts n p.end_names;
  };
}

-- an end is another with its name
pub end_built : (m : Machine) (o : ObjName) (e : End) → e.name ≡ (end_of m o).name → AreBuiltAs (with_end m o e) m
unfolding with_end with_end_in end_of
end_built m o e n =
    context_built m o.context _ refl
    (record { region_names = refl; region_lengths = refl; queue_names = refl; capacities = refl; end_names = parts_stay (λ z. z.name) (nobody o) o.name e (λ z. z.name) (context_of m o.context).ends n })

-- regions are others of the same sizes
pub regions_built : (m : Machine) (c : Name) (rs : List Region) → map (λ r. r.name) rs ≡ map (λ r. r.name) (regions_of m c) → map (λ r. r.length) rs ≡ map (λ r. r.length) (regions_of m c) → AreBuiltAs (with_regions m c rs) m
unfolding with_regions
regions_built m c rs names lengths = context_built m c _ refl (record { region_names = names; region_lengths = lengths; queue_names = refl; capacities = refl; end_names = refl })

-- queues are others of the same capacities
pub queues_built : (m : Machine) (c : Name) (qs : List CompletionQueue) → map (λ q. q.name) qs ≡ map (λ q. q.name) (context_of m c).queues → map (λ q. q.capacity) qs ≡ map (λ q. q.capacity) (context_of m c).queues → AreBuiltAs (with_queues m c qs) m
unfolding with_queues
queues_built m c qs names capacities = context_built m c _ refl (record { region_names = refl; region_lengths = refl; queue_names = names; capacities = capacities; end_names = refl })

-- one queue is another of its name and capacity
queue_built : (m : Machine) (c q : Name) (x : CompletionQueue) → x.name ≡ (queue_of m c q).name → x.capacity ≡ (queue_of m c q).capacity → AreBuiltAs (with_queue m c q x) m
unfolding with_queue with_queue_in queue_of
queue_built m c q x n p =
    context_built m c _ refl
    (record {
      region_names = refl;
      region_lengths = refl;
      queue_names = parts_stay (λ z. z.name) no_queue q x (λ z. z.name) (context_of m c).queues n;
      capacities = parts_stay (λ z. z.name) no_queue q x (λ z. z.capacity) (context_of m c).queues p;
      end_names = refl;
    })

completing_built : (m : Machine) (c q : Name) (more : List Completion) → AreBuiltAs (completing m c q more) m
unfolding completing
completing_built m c q more = queue_built m c q (longer (queue_of m c q) more) refl refl

-- ---- bytes that are put, and completions

put_stays : {B : Type 0} (f : Region → B) → ((r : Region) (bs : List ℕ) → f (record r { bytes = bs }) ≡ f r) → (key_of : Region → ℕ) (key address : ℕ) (new : List ℕ) (rs : List Region) → map f (put_at key_of key address new rs) ≡ map f rs
unfolding put_at
put_stays f same key_of key address new [] = refl
put_stays f same key_of key address new (r ∷ rs) = by (is_at key_of key address (length new) r) (put_stays f same key_of key address new rs)
  where
    by : (b : Bool) → map f (put_at key_of key address new rs) ≡ map f rs → map f (if b then record r { bytes = put r.bytes (address - r.base) new } ∷ rs else r ∷ put_at key_of key address new rs) ≡ map f (r ∷ rs)
    by true rest = ap (λ z. z ∷ map f rs) (same r (put r.bytes (address - r.base) new))
    by false rest = ap (λ zs. f r ∷ zs) rest

put_built : (m : Machine) (c : Name) (key_of : Region → ℕ) (key address : ℕ) (new : List ℕ) → AreBuiltAs (with_regions m c (put_at key_of key address new (regions_of m c))) m
put_built m c key_of key address new =
    regions_built m c (put_at key_of key address new (regions_of m c)) (put_stays (λ r. r.name) (λ r bs. refl) key_of key address new (regions_of m c)) (put_stays (λ r. r.length) (λ r bs. refl) key_of key address new (regions_of m c))

-- queues with more completions are built alike
record AreLikeQueues (qs' qs : List CompletionQueue) : Type 0 where
  names : map (λ q. q.name) qs' ≡ map (λ q. q.name) qs
  capacities : map (λ q. q.capacity) qs' ≡ map (λ q. q.capacity) qs

completed_like : (q : Name) (more : List Completion) (qs : List CompletionQueue) → AreLikeQueues (completed q more qs) qs
unfolding completed
completed_like q more qs = record {
  names = parts_stay (λ z. z.name) no_queue q (longer (named (λ z. z.name) no_queue q qs) more) (λ z. z.name) qs refl;
  capacities = parts_stay (λ z. z.name) no_queue q (longer (named (λ z. z.name) no_queue q qs) more) (λ z. z.capacity) qs refl;
}

like_after : (a b c : List CompletionQueue) → AreLikeQueues a b → AreLikeQueues b c → AreLikeQueues a c
like_after a b c x y = record { names = x.names ∙ y.names; capacities = x.capacities ∙ y.capacities }

failed_like : (e : End) (s : WcStatus) (vs : List Receive) (qs : List CompletionQueue) → AreLikeQueues (step.failed_queues e s vs qs) qs
unfolding step.failed_queues
failed_like e s vs qs =
    like_after _ (completed e.send_queue (step.failed_requests e.number s (step.untold e)) qs) qs (completed_like e.receive_queue (step.failed_receives e.number vs) (completed e.send_queue (step.failed_requests e.number s (step.untold e)) qs))
    (completed_like e.send_queue (step.failed_requests e.number s (step.untold e)) qs)

-- .. in a machine that was built as before
over_built : (m m1 : Machine) (c : Name) (qs : List CompletionQueue) → AreBuiltAs m1 m → AreLikeQueues qs (context_of m c).queues → AreBuiltAs (with_queues m1 c qs) m
over_built m m1 c qs before like =
    built_then (with_queues m1 c qs) m1 m (queues_built m1 c qs (like.names ∙ sym (before.each c).queue_names) (like.capacities ∙ sym (before.each c).capacities)) before

-- ---- each inner step

ended_built : (m : Machine) (o : ObjName) (s : WcStatus) → AreBuiltAs (step.ended_with m o s) m
unfolding step.ended_with
ended_built m o s =
    over_built m (with_end m o (step.closed (end_of m o))) o.context (step.failed_queues (end_of m o) s (step.receives_of (end_of m o)) (context_of m o.context).queues)
    (end_built m o (step.closed (end_of m o)) (closed_name (end_of m o))) (failed_like (end_of m o) s (step.receives_of (end_of m o)) (context_of m o.context).queues)

expire_built : (m : Machine) (o : ObjName) → AreBuiltAs (step.expire m o) m
unfolding step.expire step.expired
expire_built m o = by ((end_of m o).spent == (end_of m o).retry)
  where
    by : (b : Bool) → AreBuiltAs (if b then step.ended_with m o status.RetryExceeded else with_end m o (record (end_of m o) { spent = suc (end_of m o).spent })) m
    by true = ended_built m o status.RetryExceeded
    by false = end_built m o (record (end_of m o) { spent = suc (end_of m o).spent }) refl

wait_built : (m : Machine) (o : ObjName) → AreBuiltAs (step.wait m o) m
unfolding step.wait step.waited
wait_built m o = by ((end_of m o).rnr == 7) ((end_of m o).waits == (end_of m o).rnr)
  where
    by : (a b : Bool) → AreBuiltAs (if a then m else if b then step.ended_with m o status.RnrExceeded else with_end m o (record (end_of m o) { waits = suc (end_of m o).waits })) m
    by true b = built_itself m
    by false true = ended_built m o status.RnrExceeded
    by false false = end_built m o (record (end_of m o) { waits = suc (end_of m o).waits }) refl

bounce_built : (m : Machine) (o : ObjName) → AreBuiltAs (step.bounce m o) m
unfolding step.bounce
bounce_built m o = ended_built m o (step.bounce_status (slice_get (end_of m o).answers (end_of m o).told))

refused_like : (x : End) (why : RefusalReason) (qs : List CompletionQueue) → AreLikeQueues (step.refused_queues x why qs) qs
unfolding step.refused_queues
refused_like x why qs =
    like_after _ (completed x.receive_queue (step.refused_entries x why) qs) qs (failed_like x status.Flush (step.refused_receives x why) (completed x.receive_queue (step.refused_entries x why) qs))
    (completed_like x.receive_queue (step.refused_entries x why) qs)

refuse_built : (m : Machine) (q : ObjName) (why : RefusalReason) → AreBuiltAs (step.refuse m q why) m
unfolding step.refuse step.refuse_at
refuse_built m q why =
    let p : ObjName = (end_of m q).peer in
    let m1 : Machine = with_end m q (step.denied (end_of m q) why) in
    over_built m (with_end m1 p (step.closed (end_of m1 p))) p.context (step.refused_queues (end_of m p) why (context_of m p.context).queues)
    (built_then (with_end m1 p (step.closed (end_of m1 p))) m1 m (end_built m1 p (step.closed (end_of m1 p)) (closed_name (end_of m1 p))) (end_built m q (step.denied (end_of m q) why) (denied_name (end_of m q) why)))
    (refused_like (end_of m p) why (context_of m p.context).queues)

placing_built : (m : Machine) (c : Name) (e x : End) (new : List ℕ) → AreBuiltAs (step.placing m c e x new) m
unfolding step.placing step.put_in_receive
placing_built m c e x new = by (is_send (kind_of (step.current e))) (step.receive_for x)
  where
    by : (b : Bool) (o : Option Receive) → AreBuiltAs (if b then step.put_in_receive m c e.into new o else step.put_in_range m c e.into new (step.current e)) m
    by true None = built_itself m
    by true (Some v) = put_built m c local_key v.lkey (v.local + e.into) new
    by false o = put_built m c remote_key (step.current e).request.shape.rkey ((step.current e).request.shape.remote + e.into) new

run_built : (m : Machine) (q : ObjName) (n : ℕ) → AreBuiltAs (step.run m q n) m
unfolding step.run step.run_towards
run_built m q n =
    let e : End = end_of m q in
    let p : ObjName = (end_of m q).peer in
    let x : End = end_of m p in
    let m1 : Machine = with_end m q (step.advanced (end_of m q) n) in
    let m2 : Machine = step.placing m1 p.context e x (step.next_bytes e n) in
    let f : End = step.receiving (step.current e).request.shape (step.fills e n) (end_of m2 p) in
    over_built m (with_end m2 p f) p.context (completed x.receive_queue (step.arrivals e n x) (context_of m p.context).queues)
    (built_then (with_end m2 p f) m2 m (end_built m2 p f (received_name (step.current e).request.shape (step.fills e n) (end_of m2 p)))
    (built_then m2 m1 m (placing_built m1 p.context e x (step.next_bytes e n)) (end_built m q (step.advanced (end_of m q) n) (advanced_name (end_of m q) n))))
    (completed_like x.receive_queue (step.arrivals e n x) (context_of m p.context).queues)

atom_built : (m : Machine) (q : ObjName) → AreBuiltAs (step.atom m q) m
unfolding step.atom step.atom_on step.acted_with
atom_built m q =
    let m1 : Machine = with_end m q (record (end_of m q) { acted = suc (end_of m q).acted; into = 0; answers = (end_of m q).answers ++ OldValue (step.word_there (step.current (end_of m q)) (step.peer_regions m q)) ∷ [] }) in
    built_then _ m1 m (put_built m1 (end_of m q).peer.context remote_key (step.current (end_of m q)).request.shape.rkey (step.current (end_of m q)).request.shape.remote (word_bytes (step.changed_word (step.current (end_of m q)) (step.word_there (step.current (end_of m q)) (step.peer_regions m q)))))
    (end_built m q _ refl)

land_built : (m : Machine) (q : ObjName) (k : ℕ) → AreBuiltAs (step.landed m q k) m
unfolding step.landed step.land_at step.with_known
land_built m q k =
    let e : End = end_of m q in
    let m1 : Machine = step.putting m q.context local_key (step.front e).request.lkey ((step.front e).request.local + e.known) (step.bytes_of (slice_get e.offers k)) in
    built_then _ m1 m (end_built m1 q _ refl) (put_built m q.context local_key (step.front e).request.lkey ((step.front e).request.local + e.known) (step.bytes_of (slice_get e.offers k)))

old_built : (m : Machine) (c : Name) (r : Request) (o : Option Reply) → AreBuiltAs (step.put_old m c r o) m
unfolding step.put_old
old_built m c r None = built_itself m
old_built m c r (Some Finished) = built_itself m
old_built m c r (Some (OldValue value)) = put_built m c local_key r.lkey r.local (word_bytes value)
old_built m c r (Some (Denied why)) = built_itself m

tell_built : (m : Machine) (q : ObjName) → AreBuiltAs (step.tell m q) m
unfolding step.tell step.tell_at step.told_one
tell_built m q =
    let e : End = end_of m q in
    let m1 : Machine = completing m q.context e.send_queue (step.success e (step.front e)) in
    let m2 : Machine = step.put_old m1 q.context (step.front e).request (slice_get e.answers e.told) in
    built_then _ m2 m (end_built m2 q _ refl) (built_then m2 m1 m (old_built m1 q.context (step.front e).request (slice_get e.answers e.told)) (completing_built m q.context e.send_queue (step.success e (step.front e))))

known_built : (m : Machine) (q : ObjName) (bytes : ℕ) → AreBuiltAs (step.knowing m q bytes) m
unfolding step.knowing step.with_known
known_built m q bytes = end_built m q _ refl

dry_built : (m : Machine) (q : ObjName) → AreBuiltAs (step.dried m q) m
unfolding step.dried step.dried_at
dry_built m q = end_built m q _ refl

turn_built : (m : Machine) (q : ObjName) → AreBuiltAs (step.read_turn m q) m
unfolding step.read_turn step.acted_with
turn_built m q = end_built m q _ refl

offer_built : (m : Machine) (q : ObjName) (k offset n : ℕ) → AreBuiltAs (step.offered m q k offset n) m
unfolding step.offered step.with_offer
offer_built m q k offset n = end_built m q _ refl

pub steps_build_nothing : StepsBuildNothing
steps_build_nothing m (steps.Verb verb given) inner = absurd inner
steps_build_nothing m (steps.Run q n) inner = run_built m q n
steps_build_nothing m (steps.Atom q) inner = atom_built m q
steps_build_nothing m (steps.ReadTurn q) inner = turn_built m q
steps_build_nothing m (steps.Refuse q why) inner = refuse_built m q why
steps_build_nothing m (steps.Dry q) inner = dry_built m q
steps_build_nothing m (steps.Offer q k offset n) inner = offer_built m q k offset n
steps_build_nothing m (steps.Land q k) inner = land_built m q k
steps_build_nothing m (steps.Known q bytes) inner = known_built m q bytes
steps_build_nothing m (steps.Tell q) inner = tell_built m q
steps_build_nothing m (steps.Expire q) inner = expire_built m q
steps_build_nothing m (steps.Wait q) inner = wait_built m q
steps_build_nothing m (steps.Bounce q) inner = bounce_built m q

-- ---- each verb of work

stored_built : (m : Machine) (o : ObjName) (address : ℕ) (bytes : List ℕ) → AreBuiltAs (verbing.stored m o address bytes) m
unfolding verbing.stored verbing.overwritten verbing.region_of
stored_built m o address bytes =
    let r : Region = named (λ z. z.name) no_region o.name (regions_of m o.context) in
    let x : Region = record r { bytes = put r.bytes (address - r.base) bytes } in
    regions_built m o.context _ (parts_stay (λ z. z.name) no_region o.name x (λ z. z.name) (regions_of m o.context) refl) (parts_stay (λ z. z.name) no_region o.name x (λ z. z.length) (regions_of m o.context) refl)

posted_built : (m : Machine) (o : ObjName) (r : Request) → AreBuiltAs (verbing.posted m o r) m
unfolding verbing.posted
posted_built m o r = by (end_of m o).ended
  where
    by : (b : Bool) → AreBuiltAs (if b then completing m o.context (end_of m o).send_queue (request_done (end_of m o).number (verbing.taken m o r) status.Flush 0 ∷ []) else with_end m o (verbing.with_request (verbing.taken m o r) (end_of m o))) m
    by true = completing_built m o.context (end_of m o).send_queue (request_done (end_of m o).number (verbing.taken m o r) status.Flush 0 ∷ [])
    by false = end_built m o (verbing.with_request (verbing.taken m o r) (end_of m o)) refl

received_built : (m : Machine) (o : ObjName) (v : Receive) → AreBuiltAs (verbing.received m o v) m
unfolding verbing.received
received_built m o v = by (end_of m o).ended
  where
    by : (b : Bool) → AreBuiltAs (if b then completing m o.context (end_of m o).receive_queue (receive_done (end_of m o).number v wc.Recv status.Flush 0 None ∷ []) else with_end m o (verbing.with_receive v (end_of m o))) m
    by true = completing_built m o.context (end_of m o).receive_queue (receive_done (end_of m o).number v wc.Recv status.Flush 0 None ∷ [])
    by false = end_built m o (verbing.with_receive v (end_of m o)) refl

polled_built : (m : Machine) (cq : ObjName) (max : ℕ) → AreBuiltAs (verbing.polled m cq max) m
unfolding verbing.polled
polled_built m cq max = queue_built m cq.context cq.name (record (queue_of m cq.context cq.name) { entries = drop max (queue_of m cq.context cq.name).entries }) refl refl

done_built : (m : Machine) (v : Verb) (given : ℕ) → IsVerbOfWork v → AreBuiltAs (verbing.done m v given) m
done_built m (verbs.Store region address bytes) given is = stored_built m region address bytes
done_built m (verbs.Load region address count) given is = built_itself m
done_built m (verbs.PostSend o r) given is = posted_built m o r
done_built m (verbs.PostRecv o v) given is = received_built m o v
done_built m (verbs.Poll cq max) given is = polled_built m cq max
done_built m v given is = absurd is

pub verbs_build_nothing : VerbsBuildNothing
verbs_build_nothing m v given is = by (refusal_of m v)
  where
    by : (r : Option Refusal) → AreBuiltAs (after_answer r m v given) m
    by None = done_built m v given is
    by (Some r) = built_itself m
