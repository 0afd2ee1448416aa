-- The machine's owner learns more: requests are told, and bytes become known. What changes of the machine.
use Rattle.std.proofs.Common.{arith, ◌≡◌, ◌≤◌, ◌<◌, ℕ, zero, suc, List, [], ◌∷◌, ◌++◌, length, true, false, refl, sym, ap, ◌∙◌, subst}
use Rattle.std.specs.Prelude.{Option, Some, None, nat_lt, nat_le, slice_get}
use Rattle.std.proofs.lemmas.Bool.Decides.{nat_tests, leb_tells}
use Rattle.std.proofs.lemmas.List.{append-nil, append_assoc}
use Rattle.rdma_types.specs.declared.names.Name.{Name}
use Rattle.rdma_types.specs.declared.names.ObjName.{ObjName}
use Rattle.rdma_types.specs.declared.requests.Completion.{Completion}
use Rattle.rdma_types.specs.declared.requests.Kind.{Kind}
use Rattle.rdma_types.specs.declared.requests.Kind.TheVariants.{Write, Send, Read, CompareSwap, FetchAdd}
use Rattle.rdma_types.specs.Kinds.{is_read, kind_of, lands}
use Rattle.rdma_types.specs.Lists.{has_name, named, store_named}
use Rattle.rdma_types.specs.Objects.{CompletionQueue, no_queue}
use Rattle.packetless_machine.specs.declared.reply.Reply.TheVariants.{Finished}
use Rattle.packetless_machine.specs.declared.steps.MachineStep.{MachineStep}
use Rattle.packetless_machine.specs.declared.steps.MachineStep.TheVariants as steps
use Rattle.packetless_machine.specs.Legal.{IsRun, after}
use Rattle.packetless_machine.specs.Machine as machine
use Rattle.packetless_machine.specs.Machine.{Machine, End, has_context, posted_at}
use Rattle.packetless_machine.specs.Steps.{front, has_untold, in_place, knowing, may_know, may_tell, put_old, success, tell, tell_at, told_one, with_known}
use Rattle.law_simulation.specs.Carries.{OnlyTells}
use Rattle.law_simulation.specs.Named.{tells}
use Rattle.law_simulation.proofs.relation.Tables.{has_name-store, name-named_there, named-store_same}
use Rattle.law_simulation.proofs.relation.Machines as machines
use Rattle.law_simulation.proofs.relation.Machines.{MachineChanged, context_name, with_context_changed, queue_stored}
use Rattle.law_simulation.proofs.relation.Ends.{queue_in, with_more}
use Rattle.law_simulation.proofs.relation.Linked.{HasEnd, end_changed}
use Rattle.law_simulation.specs.Delivered.{AreInner}
use Rattle.law_simulation.proofs.sending.GoOver.{made_still}
use Rattle.law_simulation.proofs.sending.GoTables.{stored_same, stored_twice, changed_twice}

-- ---- what changes

-- the context where the end is g, and its send queue has more entries
abbrev pub learned_context : machine.Context → Name → End → Name → List Completion → machine.Context
learned_context y n g q more = record y { ends = store_named (λ z. z.name) n g y.ends; queues = with_more y.queues q more }

-- the end o of m lives in a context with its send queue
pub record Stays (m : Machine) (o : ObjName) : Type 0 where
  pub there : has_context m o.context ≡ true
  pub found : HasEnd m o
  pub named : (machine.end_of m o).name ≡ o.name
  pub queue : has_name (λ q. q.name) (machine.end_of m o).send_queue (machine.context_of m o.context).queues ≡ true

-- m' is m, but that the end o is g, and its send queue has more entries
pub record Learned (m m' : Machine) (o : ObjName) (g : End) (more : List Completion) : Type 0 where
  pub changed : MachineChanged m m' o.context (learned_context (machine.context_of m o.context) o.name g (machine.end_of m o).send_queue more)
  pub numbers : m'.numbers ≡ m.numbers
  pub keys : m'.keys ≡ m.keys

pub none_more : (queues : List CompletionQueue) (n : Name) → has_name (λ q. q.name) n queues ≡ true → with_more queues n [] ≡ queues
none_more queues n there =
    ap (λ es. store_named (λ q. q.name) n (record (queue_in queues n) { entries = es }) queues) (append-nil (queue_in queues n).entries)
    ∙ stored_same (λ q. q.name) no_queue n queues there

pub more_twice : (queues : List CompletionQueue) (n : Name) (xs ys : List Completion) → has_name (λ q. q.name) n queues ≡ true → with_more (with_more queues n xs) n ys ≡ with_more queues n (xs ++ ys)
more_twice queues n xs ys there =
    let q : CompletionQueue = record (queue_in queues n) { entries = (queue_in queues n).entries ++ xs } in
    let name : q.name ≡ n = name-named_there (λ z. z.name) no_queue n queues there in
    let here : queue_in (with_more queues n xs) n ≡ q = named-store_same (λ z. z.name) no_queue n q queues name in
    ap (λ (z : CompletionQueue). store_named (λ x. x.name) n (record z { entries = z.entries ++ ys }) (with_more queues n xs)) here
    ∙ (stored_twice (λ x. x.name) n q (record q { entries = q.entries ++ ys }) queues name
    ∙ ap (λ es. store_named (λ x. x.name) n (record (queue_in queues n) { entries = es }) queues) (append_assoc (queue_in queues n).entries xs ys))

pub learned_none : (m : Machine) (o : ObjName) → Stays m o → Learned m m o (machine.end_of m o) []
unfolding machine.end_of machine.context_of has_context
learned_none m o s =
    let y : machine.Context = machine.context_of m o.context in
    let ends : store_named (λ z. z.name) o.name (machine.end_of m o) y.ends ≡ y.ends = stored_same (λ z. z.name) (machine.nobody o) o.name y.ends s.found in
    let queues : with_more y.queues (machine.end_of m o).send_queue [] ≡ y.queues = none_more y.queues (machine.end_of m o).send_queue s.queue in
    record {
      changed = record {
        named = context_name m o.context;
        there = s.there;
        contexts = sym (ap (λ es. store_named (λ x. x.name) o.context (record y { ends = es; queues = with_more y.queues (machine.end_of m o).send_queue [] }) m.contexts) ends
            ∙ (ap (λ qs. store_named (λ x. x.name) o.context (record y { queues = qs }) m.contexts) queues
            ∙ stored_same (λ x. x.name) (machine.no_context o.context) o.context m.contexts s.there));
      };
      numbers = refl;
      keys = refl;
    }

pub learned_end : (m m' : Machine) (o : ObjName) (g : End) (more : List Completion) → Learned m m' o g more → g.name ≡ o.name → machine.end_of m' o ≡ g
unfolding machine.end_of
learned_end m m' o g more l named' =
    ap (λ z. named (λ u. u.name) (machine.nobody o) o.name z.ends) (machines.context_here m m' o.context _ l.changed)
    ∙ named-store_same (λ u. u.name) (machine.nobody o) o.name g (machine.context_of m o.context).ends named'

pub learned_stays : (m m' : Machine) (o : ObjName) (g : End) (more : List Completion) → Learned m m' o g more → g.name ≡ o.name → g.send_queue ≡ (machine.end_of m o).send_queue → Stays m o → Stays m' o
unfolding has_context
learned_stays m m' o g more l named' queue s =
    let y : machine.Context = machine.context_of m o.context in
    let here : machine.context_of m' o.context ≡ learned_context y o.name g (machine.end_of m o).send_queue more = machines.context_here m m' o.context _ l.changed in
    let end : machine.end_of m' o ≡ g = learned_end m m' o g more l named' in
    let q : CompletionQueue = record (queue_in y.queues (machine.end_of m o).send_queue) { entries = (queue_in y.queues (machine.end_of m o).send_queue).entries ++ more } in
    record {
      there = ap (has_name (λ x. x.name) o.context) l.changed.contexts ∙ (has_name-store (λ x. x.name) o.context o.context (learned_context y o.name g (machine.end_of m o).send_queue more) m.contexts s.there l.changed.named ∙ s.there);
      found = ap (λ z. has_name (λ u. u.name) o.name z.ends) here ∙ (has_name-store (λ u. u.name) o.name o.name g y.ends s.found named' ∙ s.found);
      named = ap (λ z. z.name) end ∙ named';
      queue =
          ap (λ z. has_name (λ u. u.name) z.send_queue (machine.context_of m' o.context).queues) end
          ∙ (ap (λ k. has_name (λ u. u.name) k (machine.context_of m' o.context).queues) queue
          ∙ (ap (λ z. has_name (λ u. u.name) (machine.end_of m o).send_queue z.queues) here
          ∙ (has_name-store (λ u. u.name) (machine.end_of m o).send_queue (machine.end_of m o).send_queue q y.queues s.queue (name-named_there (λ z. z.name) no_queue (machine.end_of m o).send_queue y.queues s.queue) ∙ s.queue)));
    }

pub learned_then : (m m1 m2 : Machine) (o : ObjName) (g1 g2 : End) (xs ys : List Completion) → Stays m o → Learned m m1 o g1 xs → Learned m1 m2 o g2 ys → g1.name ≡ o.name → g1.send_queue ≡ (machine.end_of m o).send_queue → Learned m m2 o g2 (xs ++ ys)
learned_then m m1 m2 o g1 g2 xs ys s a b named' queue =
    let y : machine.Context = machine.context_of m o.context in
    let sq : Name = (machine.end_of m o).send_queue in
    let here : machine.context_of m1 o.context ≡ learned_context y o.name g1 sq xs = machines.context_here m m1 o.context _ a.changed in
    let send : (machine.end_of m1 o).send_queue ≡ sq = ap (λ z. z.send_queue) (learned_end m m1 o g1 xs a named') ∙ queue in
    let is : learned_context (machine.context_of m1 o.context) o.name g2 (machine.end_of m1 o).send_queue ys ≡ learned_context y o.name g2 sq (xs ++ ys) =
    ap (λ z. learned_context z o.name g2 (machine.end_of m1 o).send_queue ys) here
    ∙ (ap (λ k. learned_context (learned_context y o.name g1 sq xs) o.name g2 k ys) send
    ∙ (ap (λ es. record y { ends = es; queues = with_more (with_more y.queues sq xs) sq ys }) (stored_twice (λ z. z.name) o.name g1 g2 y.ends named')
    ∙ ap (λ qs. record y { ends = store_named (λ z. z.name) o.name g2 y.ends; queues = qs }) (more_twice y.queues sq xs ys s.queue))) in
    record {
      changed = subst (MachineChanged m m2 o.context) is (changed_twice m m1 m2 o.context _ _ a.changed b.changed);
      numbers = b.numbers ∙ a.numbers;
      keys = b.keys ∙ a.keys;
    }

-- ---- one step

-- bytes become known
pub learned_known : (m : Machine) (o : ObjName) (bytes : ℕ) → Stays m o → Learned m (knowing m o bytes) o (with_known (machine.end_of m o) bytes) []
unfolding knowing machine.with_end machine.with_context with_known
learned_known m o bytes s =
    let y : machine.Context = machine.context_of m o.context in
    let g : End = with_known (machine.end_of m o) bytes in
    record {
      changed = subst (λ qs. MachineChanged m (knowing m o bytes) o.context (record y { ends = store_named (λ z. z.name) o.name g y.ends; queues = qs })) (sym (none_more y.queues (machine.end_of m o).send_queue s.queue)) (end_changed m o g s.there s.found);
      numbers = refl;
      keys = refl;
    }

-- the machine with more entries, where the end is told
abbrev told_after : Machine → ObjName → List Completion → Machine
told_after m o more = machine.in_end (machine.completing m o.context (machine.end_of m o).send_queue more) o told_one

tell_is : (m : Machine) (o : ObjName) → slice_get (machine.end_of m o).answers (machine.end_of m o).told ≡ Some Finished → tell m o ≡ told_after m o (success (machine.end_of m o) (front (machine.end_of m o)))
unfolding tell tell_at put_old
tell_is m o answer = ap (λ a. machine.in_end (put_old (machine.completing m o.context (machine.end_of m o).send_queue (success (machine.end_of m o) (front (machine.end_of m o)))) o.context (front (machine.end_of m o)).request a) o told_one) answer

told_numbers : (m : Machine) (o : ObjName) (more : List Completion) → (told_after m o more).numbers ≡ m.numbers
unfolding machine.with_end machine.with_context machine.completing machine.with_queue
told_numbers m o more = refl

told_keys : (m : Machine) (o : ObjName) (more : List Completion) → (told_after m o more).keys ≡ m.keys
unfolding machine.with_end machine.with_context machine.completing machine.with_queue
told_keys m o more = refl

told_changed : (m : Machine) (o : ObjName) (more : List Completion) → Stays m o → Learned m (told_after m o more) o (told_one (machine.end_of m o)) more
unfolding machine.completing machine.queue_of machine.end_of
told_changed m o more s =
    let y : machine.Context = machine.context_of m o.context in
    let f : End = machine.end_of m o in
    let m1 : Machine = machine.completing m o.context f.send_queue more in
    let y1 : machine.Context = record y { queues = with_more y.queues f.send_queue more } in
    let stored : m1 ≡ machine.with_context m o.context y1 = queue_stored m o.context f.send_queue (machine.longer (machine.queue_of m o.context f.send_queue) more) s.queue in
    let one : MachineChanged m m1 o.context y1 = subst (λ z. MachineChanged m z o.context y1) (sym stored) (with_context_changed m o.context y1 (context_name m o.context) s.there) in
    let here : machine.context_of m1 o.context ≡ y1 = machines.context_here m m1 o.context y1 one in
    let end : machine.end_of m1 o ≡ f = ap (λ z. named (λ u. u.name) (machine.nobody o) o.name z.ends) here in
    let two : MachineChanged m1 (told_after m o more) o.context (record (machine.context_of m1 o.context) { ends = store_named (λ z. z.name) o.name (told_one (machine.end_of m1 o)) (machine.context_of m1 o.context).ends }) = end_changed m1 o (told_one (machine.end_of m1 o)) (made_still m m1 o.context y1 one) (ap (λ z. has_name (λ u. u.name) o.name z.ends) here ∙ s.found) in
    let two' : MachineChanged m1 (told_after m o more) o.context (record y1 { ends = store_named (λ z. z.name) o.name (told_one f) y.ends }) =
    subst (λ z. MachineChanged m1 (told_after m o more) o.context (record z { ends = store_named (λ u. u.name) o.name (told_one f) z.ends })) here
    (subst (λ z. MachineChanged m1 (told_after m o more) o.context (record (machine.context_of m1 o.context) { ends = store_named (λ u. u.name) o.name (told_one z) (machine.context_of m1 o.context).ends })) end two) in
    record {
      changed = changed_twice m m1 (told_after m o more) o.context y1 _ one two';
      numbers = told_numbers m o more;
      keys = told_keys m o more;
    }

-- a request is told that is no atomic
pub learned_told : (m : Machine) (o : ObjName) → Stays m o → slice_get (machine.end_of m o).answers (machine.end_of m o).told ≡ Some Finished → Learned m (tell m o) o (told_one (machine.end_of m o)) (success (machine.end_of m o) (front (machine.end_of m o)))
learned_told m o s answer = subst (λ z. Learned m z o (told_one (machine.end_of m o)) (success (machine.end_of m o) (front (machine.end_of m o)))) (sym (tell_is m o answer)) (told_changed m o _ s)

told_name : (e : End) → (told_one e).name ≡ e.name
unfolding told_one
told_name e = refl

told_queue : (e : End) → (told_one e).send_queue ≡ e.send_queue
unfolding told_one
told_queue e = refl

told_connected : (e : End) → (told_one e).connected ≡ e.connected
unfolding told_one
told_connected e = refl

told_ended : (e : End) → (told_one e).ended ≡ e.ended
unfolding told_one
told_ended e = refl

-- ---- many steps

-- the end whose next requests are told
unfoldable pub told_by : End → ℕ → End
told_by e zero = e
told_by e (suc count) = told_by (told_one e) count

-- .. with their completions
unfoldable pub entries_by : End → ℕ → List Completion
entries_by e zero = []
entries_by e (suc count) = success e (front e) ++ entries_by (told_one e) count

-- the first untold request may be told, and is neither a Read nor an atomic
pub record IsNext (e : End) : Type 0 where
  pub there : e.told < length e.posted
  pub acted : e.told < e.acted
  pub stays : lands (kind_of (front e)) ≡ false
  pub answer : slice_get e.answers e.told ≡ Some Finished

-- the next requests may
unfoldable pub MayTell : End → ℕ → Type 0
MayTell e zero = Unit {0}
MayTell e (suc count) = IsNext e × MayTell (told_one e) count

-- so many bytes of the first untold request may become known
pub record MayHear (e : End) (bytes : ℕ) : Type 0 where
  pub there : e.told < length e.posted
  pub stays : lands (kind_of (front e)) ≡ false
  pub more : e.known < bytes
  pub placed : bytes ≤ in_place e e.told

-- the last step, if there is one
unfoldable pub LastOf : End → Option ℕ → Type 0
LastOf e None = Unit {0}
LastOf e (Some bytes) = MayHear e bytes

unfoldable pub known_by : End → Option ℕ → End
known_by e None = e
known_by e (Some bytes) = with_known e bytes

-- .. as a step
unfoldable pub known_last : ObjName → Option ℕ → List MachineStep
known_last o None = []
known_last o (Some bytes) = steps.Known o bytes ∷ []

-- requests are told, and then perhaps bytes become known: by the steps that are named
pub record Hears (m : Machine) (o : ObjName) (g : End) (more : List Completion) (named : List MachineStep) : Type 0 where
  pub steps : List MachineStep
  pub are : steps ≡ named
  pub inner : AreInner steps
  pub only : OnlyTells o steps
  pub is_run : IsRun m steps
  pub learned : Learned m (after m steps) o g more

not_read : (k : Kind) → lands k ≡ false → is_read k ≡ false
not_read Write h = refl
not_read Send h = refl
not_read Read h = absurd (cc)
not_read CompareSwap h = absurd (cc)
not_read FetchAdd h = absurd (cc)

less_tells : (a b : ℕ) → a < b → nat_lt a b ≡ true
less_tells a b h = grind (arith, nat_tests, leb_tells (suc a) b)

most_tells : (a b : ℕ) → a ≤ b → nat_le a b ≡ true
most_tells a b h = grind (arith, nat_tests, leb_tells a b)

pub untold_there : (m : Machine) (o : ObjName) → (machine.end_of m o).connected ≡ true → (machine.end_of m o).ended ≡ false → (machine.end_of m o).told < length (machine.end_of m o).posted → has_untold m o ≡ true
unfolding has_untold
untold_there m o connected alive there = rw (connected, alive, less_tells _ _ there) refl

tell_enabled : (m : Machine) (o : ObjName) → (machine.end_of m o).connected ≡ true → (machine.end_of m o).ended ≡ false → IsNext (machine.end_of m o) → may_tell m o ≡ true
unfolding may_tell
tell_enabled m o connected alive n = rw (untold_there m o connected alive n.there, less_tells _ _ n.acted, not_read _ n.stays) refl

known_enabled : (m : Machine) (o : ObjName) (bytes : ℕ) → (machine.end_of m o).connected ≡ true → (machine.end_of m o).ended ≡ false → MayHear (machine.end_of m o) bytes → may_know m o bytes ≡ true
unfolding may_know
known_enabled m o bytes connected alive n = rw (untold_there m o connected alive n.there, n.stays, less_tells _ _ n.more, most_tells _ _ n.placed) refl

last_heard : (m : Machine) (o : ObjName) (last : Option ℕ) → Stays m o → (machine.end_of m o).connected ≡ true → (machine.end_of m o).ended ≡ false → LastOf (machine.end_of m o) last → Hears m o (known_by (machine.end_of m o) last) [] (known_last o last)
unfolding LastOf known_by known_last
last_heard m o None s connected alive l = record { steps = []; are = refl; inner = tt; only = tt; is_run = tt; learned = learned_none m o s }
last_heard m o (Some bytes) s connected alive l = record { steps = steps.Known o bytes ∷ []; are = refl; inner = tt; only = (refl, tt); is_run = (known_enabled m o bytes connected alive l, tt); learned = learned_known m o bytes s }

pub hears : (count : ℕ) (m : Machine) (o : ObjName) (last : Option ℕ) → Stays m o → (machine.end_of m o).connected ≡ true → (machine.end_of m o).ended ≡ false → MayTell (machine.end_of m o) count → LastOf (told_by (machine.end_of m o) count) last → Hears m o (known_by (told_by (machine.end_of m o) count) last) (entries_by (machine.end_of m o) count) (tells o count ++ known_last o last)
unfolding MayTell told_by entries_by tells
hears zero m o last s connected alive may l = last_heard m o last s connected alive l
hears (suc count) m o last s connected alive may l =
    let f : End = machine.end_of m o in
    let g : End = told_one f in
    let one : Learned m (tell m o) o g (success f (front f)) = learned_told m o s may.0.answer in
    let name : g.name ≡ o.name = told_name f ∙ s.named in
    let end : machine.end_of (tell m o) o ≡ g = learned_end m (tell m o) o g (success f (front f)) one name in
    let rest : Hears (tell m o) o (known_by (told_by (machine.end_of (tell m o) o) count) last) (entries_by (machine.end_of (tell m o) o) count) (tells o count ++ known_last o last) =
    hears count (tell m o) o last (learned_stays m (tell m o) o g (success f (front f)) one name (told_queue f) s) (ap (λ z. z.connected) end ∙ (told_connected f ∙ connected)) (ap (λ z. z.ended) end ∙ (told_ended f ∙ alive))
    (subst (λ z. MayTell z count) (sym end) may.1) (subst (λ z. LastOf (told_by z count) last) (sym end) l) in
    let same : Hears (tell m o) o (known_by (told_by g count) last) (entries_by g count) (tells o count ++ known_last o last) = subst (λ z. Hears (tell m o) o (known_by (told_by z count) last) (entries_by z count) (tells o count ++ known_last o last)) end rest in
    record {
      steps = steps.Tell o ∷ same.steps;
      are = ap (λ z. steps.Tell o ∷ z) same.are;
      inner = same.inner;
      only = (refl, same.only);
      is_run = (tell_enabled m o connected alive may.0, same.is_run);
      learned = learned_then m (tell m o) (after (tell m o) same.steps) o g _ (success f (front f)) _ s one same.learned name (told_queue f);
    }
