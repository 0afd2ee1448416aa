-- Bytes of a Read land: what changes of the machine.
use Rattle.std.proofs.Common.{arith, ◌≡◌, ◌<◌, ◌+◌, ◌-◌, ◌*◌, ◌/◌, ◌%◌, ℕ, zero, suc, List, [], ◌∷◌, ◌++◌, length, get_or, true, false, Bool, refl, sym, ap, ◌∙◌, subst}
use Rattle.std.specs.Prelude.{Some, nat_lt, slice_get, if◌then◌else◌}
use Rattle.rdma_types.specs.declared.names.Name.{Name}
use Rattle.rdma_types.specs.declared.names.ObjName.{ObjName}
use Rattle.rdma_types.specs.declared.requests.Completion.{Completion}
use Rattle.rdma_types.specs.Limits.{is_mtu}
use Rattle.rdma_types.specs.Lists.{has_name, named, store_named}
use Rattle.rdma_types.specs.Memory.{local_key}
use Rattle.rdma_types.specs.Objects.{CompletionQueue, Posted, Region, no_queue}
use Rattle.rdma_types.specs.Spans.{Piece, piece_at, piece_of, span_of}
use Rattle.packetless_machine.specs.Machine as machine
use Rattle.packetless_machine.specs.Machine.{Machine, End, Offered, has_context, put_at, regions_of}
use Rattle.packetless_machine.specs.Steps.{bytes_of, front, land_at, landed, putting, with_known}
use Rattle.law_simulation.proofs.relation.Tables.{has_name-store, name-named_there, named-store_same}
use Rattle.law_simulation.proofs.relation.Machines as machines
use Rattle.law_simulation.proofs.relation.Machines.{MachineChanged, context_name, with_context_changed}
use Rattle.law_simulation.proofs.relation.Ends.{queue_in, with_more}
use Rattle.law_simulation.proofs.relation.Linked.{end_changed}
use Rattle.law_simulation.proofs.sending.GoNumbers.{mtu_is}
use Rattle.law_simulation.proofs.sending.GoOver.{made_still}
use Rattle.law_simulation.proofs.sending.GoTables.{changed_twice, stored_twice}
use Rattle.law_simulation.proofs.responses.ResponseLanding.{LearnedAt}
use Rattle.law_simulation.proofs.responses.ResponseTold.{Learned, Stays, learned_context, more_twice, none_more}

-- ---- the machine

-- bytes at a place of the first untold request
abbrev pub landed_regions : Posted → ℕ → List ℕ → List Region → List Region
landed_regions r into new rs = put_at local_key r.request.lkey (r.request.local + into) new rs

abbrev land_after : Machine → ObjName → List ℕ → Machine
land_after m o new = land_at m o (machine.end_of m o) new

land_numbers : (m : Machine) (o : ObjName) (new : List ℕ) → (land_after m o new).numbers ≡ m.numbers
unfolding land_at machine.with_end machine.with_context machine.with_regions
land_numbers m o new = refl

land_keys : (m : Machine) (o : ObjName) (new : List ℕ) → (land_after m o new).keys ≡ m.keys
unfolding land_at machine.with_end machine.with_context machine.with_regions
land_keys m o new = refl

land_changed : (m : Machine) (o : ObjName) (new : List ℕ) → Stays m o → LearnedAt m (land_after m o new) o (with_known (machine.end_of m o) ((machine.end_of m o).known + length new)) [] (landed_regions (front (machine.end_of m o)) (machine.end_of m o).known new (regions_of m o.context))
unfolding machine.end_of machine.with_regions land_at with_known
land_changed m o new s =
    let y : machine.Context = machine.context_of m o.context in
    let f : End = machine.end_of m o in
    let rs : List Region = landed_regions (front f) f.known new y.regions in
    let m1 : Machine = putting m o.context local_key (front f).request.lkey ((front f).request.local + f.known) new in
    let y1 : machine.Context = record y { regions = rs } in
    let one : MachineChanged m m1 o.context y1 = with_context_changed m o.context y1 (context_name m o.context) s.there in
    let here : machine.context_of m1 o.context ≡ y1 = machines.context_here m m1 o.context y1 one in
    let end : machine.end_of m1 o ≡ f = ap (λ z. named (λ u. u.name) (machine.nobody o) o.name z.ends) here in
    let n : ℕ = f.known + length new in
    let two : MachineChanged m1 (land_after m o new) o.context (record (machine.context_of m1 o.context) { ends = store_named (λ z. z.name) o.name (with_known (machine.end_of m1 o) n) (machine.context_of m1 o.context).ends }) = end_changed m1 o (with_known (machine.end_of m1 o) n) (made_still m m1 o.context y1 one) (ap (λ z. has_name (λ u. u.name) o.name z.ends) here ∙ s.found) in
    let two' : MachineChanged m1 (land_after m o new) o.context (record y1 { ends = store_named (λ z. z.name) o.name (with_known f n) y.ends }) =
    subst (λ z. MachineChanged m1 (land_after m o new) o.context (record z { ends = store_named (λ u. u.name) o.name (with_known f n) z.ends })) here
    (subst (λ z. MachineChanged m1 (land_after m o new) o.context (record (machine.context_of m1 o.context) { ends = store_named (λ u. u.name) o.name (with_known z n) (machine.context_of m1 o.context).ends })) end two) in
    record {
      changed = subst (λ qs. MachineChanged m (land_after m o new) o.context (record y { ends = store_named (λ z. z.name) o.name (with_known f n) y.ends; queues = qs; regions = rs })) (sym (none_more y.queues f.send_queue s.queue))
          (changed_twice m m1 (land_after m o new) o.context y1 _ one two');
      numbers = land_numbers m o new;
      keys = land_keys m o new;
    }

pub learned_landed : (m : Machine) (o : ObjName) (i : ℕ) (z : Offered) → Stays m o → slice_get (machine.end_of m o).offers i ≡ Some z →
    LearnedAt m (landed m o i) o (with_known (machine.end_of m o) ((machine.end_of m o).known + length z.bytes)) [] (landed_regions (front (machine.end_of m o)) (machine.end_of m o).known z.bytes (regions_of m o.context))
unfolding landed bytes_of
learned_landed m o i z s h = subst (λ bs. LearnedAt m (land_after m o bs) o (with_known (machine.end_of m o) ((machine.end_of m o).known + length z.bytes)) [] (landed_regions (front (machine.end_of m o)) (machine.end_of m o).known z.bytes (regions_of m o.context))) (ap bytes_of (sym h)) (land_changed m o z.bytes s)

-- no region changed
pub learned_same : (m m' : Machine) (o : ObjName) (g : End) (more : List Completion) → Learned m m' o g more → LearnedAt m m' o g more (regions_of m o.context)
learned_same m m' o g more l = record { changed = l.changed; numbers = l.numbers; keys = l.keys }

pub at_end : (m m' : Machine) (o : ObjName) (g : End) (more : List Completion) (rs : List Region) → LearnedAt m m' o g more rs → g.name ≡ o.name → machine.end_of m' o ≡ g
unfolding machine.end_of
at_end m m' o g more rs l named' =
    ap (λ z. named (λ u. u.name) (machine.nobody o) o.name z.ends) (machines.context_here m m' o.context _ l.changed)
    ∙ named-store_same (λ u. u.name) (machine.nobody o) o.name g (machine.context_of m o.context).ends named'

pub at_stays : (m m' : Machine) (o : ObjName) (g : End) (more : List Completion) (rs : List Region) → LearnedAt m m' o g more rs → g.name ≡ o.name → g.send_queue ≡ (machine.end_of m o).send_queue → Stays m o → Stays m' o
unfolding has_context
at_stays m m' o g more rs l named' queue s =
    let y : machine.Context = machine.context_of m o.context in
    let here : machine.context_of m' o.context ≡ record (learned_context y o.name g (machine.end_of m o).send_queue more) { regions = rs } = machines.context_here m m' o.context _ l.changed in
    let end : machine.end_of m' o ≡ g = at_end m m' o g more rs l named' in
    let q : CompletionQueue = record (queue_in y.queues (machine.end_of m o).send_queue) { entries = (queue_in y.queues (machine.end_of m o).send_queue).entries ++ more } in
    record {
      there = ap (has_name (λ x. x.name) o.context) l.changed.contexts ∙ (has_name-store (λ x. x.name) o.context o.context (record (learned_context y o.name g (machine.end_of m o).send_queue more) { regions = rs }) m.contexts s.there l.changed.named ∙ s.there);
      found = ap (λ z. has_name (λ u. u.name) o.name z.ends) here ∙ (has_name-store (λ u. u.name) o.name o.name g y.ends s.found named' ∙ s.found);
      named = ap (λ z. z.name) end ∙ named';
      queue =
          ap (λ z. has_name (λ u. u.name) z.send_queue (machine.context_of m' o.context).queues) end
          ∙ (ap (λ k. has_name (λ u. u.name) k (machine.context_of m' o.context).queues) queue
          ∙ (ap (λ z. has_name (λ u. u.name) (machine.end_of m o).send_queue z.queues) here
          ∙ (has_name-store (λ u. u.name) (machine.end_of m o).send_queue (machine.end_of m o).send_queue q y.queues s.queue (name-named_there (λ z. z.name) no_queue (machine.end_of m o).send_queue y.queues s.queue) ∙ s.queue)));
    }

-- another step after it
pub at_then : (m m1 m2 : Machine) (o : ObjName) (g1 g2 : End) (xs ys : List Completion) (rs : List Region) → Stays m o → LearnedAt m m1 o g1 xs rs → Learned m1 m2 o g2 ys → g1.name ≡ o.name → g1.send_queue ≡ (machine.end_of m o).send_queue → LearnedAt m m2 o g2 (xs ++ ys) rs
at_then m m1 m2 o g1 g2 xs ys rs s a b named' queue =
    let y : machine.Context = machine.context_of m o.context in
    let sq : Name = (machine.end_of m o).send_queue in
    let here : machine.context_of m1 o.context ≡ record (learned_context y o.name g1 sq xs) { regions = rs } = machines.context_here m m1 o.context _ a.changed in
    let send : (machine.end_of m1 o).send_queue ≡ sq = ap (λ z. z.send_queue) (at_end m m1 o g1 xs rs a named') ∙ queue in
    let is : learned_context (machine.context_of m1 o.context) o.name g2 (machine.end_of m1 o).send_queue ys ≡ record (learned_context y o.name g2 sq (xs ++ ys)) { regions = rs } =
    ap (λ z. learned_context z o.name g2 (machine.end_of m1 o).send_queue ys) here
    ∙ (ap (λ k. learned_context (record (learned_context y o.name g1 sq xs) { regions = rs }) o.name g2 k ys) send
    ∙ (ap (λ es. record y { ends = es; queues = with_more (with_more y.queues sq xs) sq ys; regions = rs }) (stored_twice (λ z. z.name) o.name g1 g2 y.ends named')
    ∙ ap (λ qs. record y { ends = store_named (λ z. z.name) o.name g2 y.ends; queues = qs; regions = rs }) (more_twice y.queues sq xs ys s.queue))) in
    record {
      changed = subst (MachineChanged m m2 o.context) is (changed_twice m m1 m2 o.context _ _ a.changed b.changed);
      numbers = b.numbers ∙ a.numbers;
      keys = b.keys ∙ a.keys;
    }

-- ---- numbers and lists

pub piece_found : (us : List Posted) (mtu n : ℕ) (x : Piece) → piece_at us mtu n ≡ Some x → piece_of us mtu n ≡ x.k
unfolding piece_at piece_of
piece_found [] mtu n x h = absurd (cc)
piece_found (p ∷ us) mtu n x h = by_test (nat_lt n (span_of p mtu)) h (piece_found us mtu (n - span_of p mtu) x)
  where
    same : (a b : Piece) → Some a ≡ Some b → a ≡ b
    same a b e = cc

    by_test : (b : Bool) → (if b then Some (record { posted = p; k = n }) else piece_at us mtu (n - span_of p mtu)) ≡ Some x → (piece_at us mtu (n - span_of p mtu) ≡ Some x → piece_of us mtu (n - span_of p mtu) ≡ x.k) → (if b then n else piece_of us mtu (n - span_of p mtu)) ≡ x.k
    by_test true e later = ap (λ z. z.k) (same (record { posted = p; k = n }) x e)
    by_test false e later = later e

pub whole_is : (mtu known k : ℕ) → is_mtu mtu ≡ true → known % mtu ≡ 0 → known / mtu ≡ k → known ≡ k * mtu
whole_is mtu known k h whole is = mtu_is (λ m. known % m ≡ 0 → known / m ≡ k → known ≡ k * m) (λ a b. omega (arith, a, b)) (λ a b. omega (arith, a, b)) (λ a b. omega (arith, a, b)) (λ a b. omega (arith, a, b)) (λ a b. omega (arith, a, b)) mtu h whole is

pub got_at : {A : Type 0} (xs : List A) (k : ℕ) (x : A) → k < length xs → get_or xs k x ≡ x → slice_get xs k ≡ Some x
got_at [] k x l h = absurd (omega (arith, l))
got_at (y ∷ xs) zero x l h = ap Some h
got_at (y ∷ xs) (suc k) x l h = got_at xs k x (omega (arith, l)) h
