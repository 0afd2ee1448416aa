-- An atomic is told with its old value: what changes of the machine.
use Rattle.std.proofs.Common.{arith, ◌≡◌, ◌<◌, ◌+◌, ◌-◌, ◌⊎◌, ℕ, zero, suc, List, [], ◌∷◌, ◌++◌, length, true, false, Bool, refl, sym, ap, ◌∙◌, subst, inl, inr}
use Rattle.std.specs.Prelude.{Some, nat_lt, slice_get, if◌then◌else◌}
use Rattle.std.proofs.lemmas.Bool.Decides.{nat_tests, leb_tells, eqb_tells}
use Rattle.rdma_types.specs.declared.names.Name.{Name}
use Rattle.rdma_types.specs.declared.names.ObjName.{ObjName}
use Rattle.rdma_types.specs.declared.requests.Completion.{Completion}
use Rattle.rdma_types.specs.declared.requests.Kind.{Kind}
use Rattle.rdma_types.specs.declared.requests.Kind.TheVariants.{Write, Send, Read, CompareSwap, FetchAdd}
use Rattle.rdma_types.specs.Kinds.{is_atomic, is_read, kind_of, lands}
use Rattle.rdma_types.specs.Lists.{has_name, named, store_named}
use Rattle.rdma_types.specs.Memory.{local_key, word_bytes}
use Rattle.rdma_types.specs.Objects.{Posted, Region}
use Rattle.rdma_types.specs.Spans.{Piece, next_landing, piece_at, span_of}
use Rattle.packetless_machine.specs.declared.reply.Reply.{Reply}
use Rattle.packetless_machine.specs.declared.reply.Reply.TheVariants.{OldValue}
use Rattle.packetless_machine.specs.Machine as machine
use Rattle.packetless_machine.specs.Machine.{Machine, End, put_at, regions_of}
use Rattle.packetless_machine.specs.Sound.{IsDenial}
use Rattle.packetless_machine.specs.Steps.{front, put_old, putting, success, tell, tell_at, told_one}
use Rattle.law_simulation.proofs.relation.Machines as machines
use Rattle.law_simulation.proofs.relation.Machines.{MachineChanged, context_name, with_context_changed, queue_stored}
use Rattle.law_simulation.proofs.relation.Ends.{with_more}
use Rattle.law_simulation.proofs.relation.Linked.{end_changed}
use Rattle.law_simulation.proofs.sending.GoOver.{made_still}
use Rattle.law_simulation.proofs.sending.GoTables.{changed_twice, stored_twice}
use Rattle.law_simulation.proofs.responses.ResponseLanding.{LearnedAt}
use Rattle.law_simulation.proofs.responses.ResponseTold.{Learned, Stays, learned_context, learned_end, more_twice}

-- ---- the machine

-- the place of the old value
abbrev pub old_regions : Posted → ℕ → List Region → List Region
old_regions r value rs = put_at local_key r.request.lkey r.request.local (word_bytes value) rs

abbrev old_after : Machine → ObjName → List Completion → Posted → ℕ → Machine
old_after m o more r value = machine.in_end (putting (machine.completing m o.context (machine.end_of m o).send_queue more) o.context local_key r.request.lkey r.request.local (word_bytes value)) o told_one

tell_is : (m : Machine) (o : ObjName) (value : ℕ) → slice_get (machine.end_of m o).answers (machine.end_of m o).told ≡ Some (OldValue value) → tell m o ≡ old_after m o (success (machine.end_of m o) (front (machine.end_of m o))) (front (machine.end_of m o)) value
unfolding tell tell_at put_old
tell_is m o value answer = ap (λ a. machine.in_end (put_old (machine.completing m o.context (machine.end_of m o).send_queue (success (machine.end_of m o) (front (machine.end_of m o)))) o.context (front (machine.end_of m o)).request a) o told_one) answer

old_numbers : (m : Machine) (o : ObjName) (more : List Completion) (r : Posted) (value : ℕ) → (old_after m o more r value).numbers ≡ m.numbers
unfolding machine.with_end machine.with_context machine.with_regions machine.completing machine.with_queue
old_numbers m o more r value = refl

old_keys : (m : Machine) (o : ObjName) (more : List Completion) (r : Posted) (value : ℕ) → (old_after m o more r value).keys ≡ m.keys
unfolding machine.with_end machine.with_context machine.with_regions machine.completing machine.with_queue
old_keys m o more r value = refl

old_changed : (m : Machine) (o : ObjName) (more : List Completion) (r : Posted) (value : ℕ) → Stays m o → LearnedAt m (old_after m o more r value) o (told_one (machine.end_of m o)) more (old_regions r value (regions_of m o.context))
unfolding machine.completing machine.queue_of machine.end_of machine.with_regions
old_changed m o more r value s =
    let y : machine.Context = machine.context_of m o.context in
    let f : End = machine.end_of m o in
    let m1 : Machine = machine.completing m o.context f.send_queue more in
    let y1 : machine.Context = record y { queues = with_more y.queues f.send_queue more } in
    let stored : m1 ≡ machine.with_context m o.context y1 = queue_stored m o.context f.send_queue (machine.longer (machine.queue_of m o.context f.send_queue) more) s.queue in
    let one : MachineChanged m m1 o.context y1 = subst (λ z. MachineChanged m z o.context y1) (sym stored) (with_context_changed m o.context y1 (context_name m o.context) s.there) in
    let here : machine.context_of m1 o.context ≡ y1 = machines.context_here m m1 o.context y1 one in
    let rs : List Region = old_regions r value y.regions in
    let m2 : Machine = putting m1 o.context local_key r.request.lkey r.request.local (word_bytes value) in
    let two : MachineChanged m1 m2 o.context (record (machine.context_of m1 o.context) { regions = old_regions r value (machine.context_of m1 o.context).regions }) =
    with_context_changed m1 o.context (record (machine.context_of m1 o.context) { regions = old_regions r value (machine.context_of m1 o.context).regions }) (context_name m1 o.context) (made_still m m1 o.context y1 one) in
    let y2 : machine.Context = record y1 { regions = rs } in
    let two' : MachineChanged m m2 o.context y2 = changed_twice m m1 m2 o.context y1 y2 one (subst (λ z. MachineChanged m1 m2 o.context (record z { regions = old_regions r value z.regions })) here two) in
    let here2 : machine.context_of m2 o.context ≡ y2 = machines.context_here m m2 o.context y2 two' in
    let end : machine.end_of m2 o ≡ f = ap (λ z. named (λ u. u.name) (machine.nobody o) o.name z.ends) here2 in
    let three : MachineChanged m2 (old_after m o more r value) o.context (record (machine.context_of m2 o.context) { ends = store_named (λ z. z.name) o.name (told_one (machine.end_of m2 o)) (machine.context_of m2 o.context).ends }) = end_changed m2 o (told_one (machine.end_of m2 o)) (made_still m m2 o.context y2 two') (ap (λ z. has_name (λ u. u.name) o.name z.ends) here2 ∙ s.found) in
    let three' : MachineChanged m2 (old_after m o more r value) o.context (record y2 { ends = store_named (λ z. z.name) o.name (told_one f) y.ends }) =
    subst (λ z. MachineChanged m2 (old_after m o more r value) o.context (record z { ends = store_named (λ u. u.name) o.name (told_one f) z.ends })) here2
    (subst (λ z. MachineChanged m2 (old_after m o more r value) o.context (record (machine.context_of m2 o.context) { ends = store_named (λ u. u.name) o.name (told_one z) (machine.context_of m2 o.context).ends })) end three) in
    record {
      changed = changed_twice m m2 (old_after m o more r value) o.context y2 _ two' three';
      numbers = old_numbers m o more r value;
      keys = old_keys m o more r value;
    }

-- an atomic is told
pub learned_old : (m : Machine) (o : ObjName) (value : ℕ) → Stays m o → slice_get (machine.end_of m o).answers (machine.end_of m o).told ≡ Some (OldValue value) →
    LearnedAt m (tell m o) o (told_one (machine.end_of m o)) (success (machine.end_of m o) (front (machine.end_of m o))) (old_regions (front (machine.end_of m o)) value (regions_of m o.context))
learned_old m o value s answer = subst (λ z. LearnedAt m z o (told_one (machine.end_of m o)) (success (machine.end_of m o) (front (machine.end_of m o))) (old_regions (front (machine.end_of m o)) value (regions_of m o.context))) (sym (tell_is m o value answer)) (old_changed m o _ (front (machine.end_of m o)) value s)

-- after other steps
pub learned_at_then : (m m1 m2 : Machine) (o : ObjName) (g1 g2 : End) (xs ys : List Completion) (rs : List Region) → Stays m o → Learned m m1 o g1 xs → LearnedAt m1 m2 o g2 ys rs → g1.name ≡ o.name → g1.send_queue ≡ (machine.end_of m o).send_queue → LearnedAt m m2 o g2 (xs ++ ys) rs
learned_at_then m m1 m2 o g1 g2 xs ys rs s a b named' queue =
    let y : machine.Context = machine.context_of m o.context in
    let sq : Name = (machine.end_of m o).send_queue in
    let here : machine.context_of m1 o.context ≡ learned_context y o.name g1 sq xs = machines.context_here m m1 o.context _ a.changed in
    let send : (machine.end_of m1 o).send_queue ≡ sq = ap (λ z. z.send_queue) (learned_end m m1 o g1 xs a named') ∙ queue in
    let is : record (learned_context (machine.context_of m1 o.context) o.name g2 (machine.end_of m1 o).send_queue ys) { regions = rs } ≡ record (learned_context y o.name g2 sq (xs ++ ys)) { regions = rs } =
    ap (λ z. record (learned_context z o.name g2 (machine.end_of m1 o).send_queue ys) { regions = rs }) here
    ∙ (ap (λ k. record (learned_context (learned_context y o.name g1 sq xs) o.name g2 k ys) { regions = rs }) send
    ∙ (ap (λ es. record y { ends = es; queues = with_more (with_more y.queues sq xs) sq ys; regions = rs }) (stored_twice (λ z. z.name) o.name g1 g2 y.ends named')
    ∙ ap (λ qs. record y { ends = store_named (λ z. z.name) o.name g2 y.ends; queues = qs; regions = rs }) (more_twice y.queues sq xs ys s.queue))) in
    record {
      changed = subst (MachineChanged m m2 o.context) is (changed_twice m m1 m2 o.context _ _ a.changed b.changed);
      numbers = b.numbers ∙ a.numbers;
      keys = b.keys ∙ a.keys;
    }

-- the regions after other steps
pub learned_regions : (m m1 : Machine) (o : ObjName) (g1 : End) (xs : List Completion) → Learned m m1 o g1 xs → regions_of m1 o.context ≡ regions_of m o.context
learned_regions m m1 o g1 xs a = ap (λ z. z.regions) (machines.context_here m m1 o.context _ a.changed)

-- ---- numbers

-- what is found at the barrier lands
same_piece : (a b : Piece) → Some a ≡ Some b → a ≡ b
same_piece a b h = cc

pub barrier_lands : (us : List Posted) (mtu r : ℕ) (x : Piece) → piece_at us mtu (next_landing us mtu r) ≡ Some x → lands (kind_of x.posted) ≡ true
unfolding piece_at next_landing
barrier_lands [] mtu r x h = absurd (cc)
barrier_lands (p ∷ us) mtu r x h = by_test (nat_lt r (span_of p mtu)) (lands (kind_of p)) refl refl (barrier_lands us mtu 0 x) (barrier_lands us mtu (r - span_of p mtu) x)
  where
    later : (k : ℕ) → piece_at (p ∷ us) mtu (span_of p mtu + k) ≡ piece_at us mtu k
    later k =
        let less : (span_of p mtu + k) - span_of p mtu ≡ k = omega arith in
        let past : nat_lt (span_of p mtu + k) (span_of p mtu) ≡ false = grind (arith, nat_tests, leb_tells (suc (span_of p mtu + k)) (span_of p mtu)) in
        ap (λ b. if b then Some (record { posted = p; k = span_of p mtu + k }) else piece_at us mtu ((span_of p mtu + k) - span_of p mtu)) past ∙ ap (piece_at us mtu) less

    by_test : (b k : Bool) → nat_lt r (span_of p mtu) ≡ b → lands (kind_of p) ≡ k → (piece_at us mtu (next_landing us mtu 0) ≡ Some x → lands (kind_of x.posted) ≡ true) → (piece_at us mtu (next_landing us mtu (r - span_of p mtu)) ≡ Some x → lands (kind_of x.posted) ≡ true) → lands (kind_of x.posted) ≡ true
    by_test true true t u first rest =
        let next : next_landing (p ∷ us) mtu r ≡ r = ap (λ z. if z then (if lands (kind_of p) then r else span_of p mtu + next_landing us mtu 0) else span_of p mtu + next_landing us mtu (r - span_of p mtu)) t ∙ ap (λ z. if z then r else span_of p mtu + next_landing us mtu 0) u in
        let found : Some (record { posted = p; k = r }) ≡ Some x = sym (ap (λ b. if b then Some (record { posted = p; k = r }) else piece_at us mtu (r - span_of p mtu)) t) ∙ (sym (ap (piece_at (p ∷ us) mtu) next) ∙ h) in
        ap (λ z. lands (kind_of z.posted)) (sym (same_piece _ x found)) ∙ u
    by_test true false t u first rest =
        let next : next_landing (p ∷ us) mtu r ≡ span_of p mtu + next_landing us mtu 0 = ap (λ z. if z then (if lands (kind_of p) then r else span_of p mtu + next_landing us mtu 0) else span_of p mtu + next_landing us mtu (r - span_of p mtu)) t ∙ ap (λ z. if z then r else span_of p mtu + next_landing us mtu 0) u in
        first (sym (later (next_landing us mtu 0)) ∙ (sym (ap (piece_at (p ∷ us) mtu) next) ∙ h))
    by_test false k t u first rest =
        let next : next_landing (p ∷ us) mtu r ≡ span_of p mtu + next_landing us mtu (r - span_of p mtu) = ap (λ z. if z then (if lands (kind_of p) then r else span_of p mtu + next_landing us mtu 0) else span_of p mtu + next_landing us mtu (r - span_of p mtu)) t in
        rest (sym (later (next_landing us mtu (r - span_of p mtu))) ∙ (sym (ap (piece_at (p ∷ us) mtu) next) ∙ h))

pub lands_atomic : (k : Kind) → lands k ≡ true → is_read k ≡ false → is_atomic k ≡ true
lands_atomic Write h r = absurd (cc)
lands_atomic Send h r = absurd (cc)
lands_atomic Read h r = absurd (cc)
lands_atomic CompareSwap h r = refl
lands_atomic FetchAdd h r = refl

got_inside : {A : Type 0} (xs : List A) (i : ℕ) (x : A) → slice_get xs i ≡ Some x → i < length xs
got_inside [] i x h = absurd (cc)
got_inside (y ∷ xs) zero x h = omega arith
got_inside (y ∷ xs) (suc i) x h = omega (arith, got_inside xs i x h)

-- an old value is of a request that acted
pub old_acted : (answers : List Reply) (acted i value : ℕ) → (length answers ≡ acted) ⊎ ((length answers ≡ suc acted) × IsDenial (slice_get answers acted)) → slice_get answers i ≡ Some (OldValue value) → i < acted
old_acted answers acted i value h is =
    let inside : i < length answers = got_inside answers i (OldValue value) is in
    elim h [
      | inl e ↦ omega (arith, e, inside)
      | inr d ↦ elim (eqb_tells i acted) [
        | inl t ↦ absurd (subst IsDenial (ap (slice_get answers) (sym t.1) ∙ is) d.1)
        | inr t ↦ omega (arith, d.0, inside, t.1)
      ]
    ]
