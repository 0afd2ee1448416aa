-- Queues into which work completes, and the places that are reserved in them.
use Rattle.std.proofs.Common.{◌≡◌, ℕ, zero, suc, ◌+◌, ◌-◌, ◌≤◌, ◌<◌, Bool, true, false, List, [], ◌∷◌, ◌++◌, length, refl, ap, sym, ◌∙◌, arith, subst}
use Rattle.std.specs.Prelude.{◌==◌, Some, map, slice_get, bytes_eq, position}
use Rattle.std.specs.Map.{keys_of}
use Rattle.std.proofs.lemmas.Bool.Decides.{nat_tests}
use Rattle.std.proofs.lemmas.List.Quantifiers.{position-Some}
use Rattle.std.proofs.Math.ListN.{get_or}
use Rattle.indexmap.specs.IndexMap.{set_value_at}
use Rattle.rdma_types.specs.declared.names.Name.{Name}
use Rattle.rdma_types.specs.declared.requests.Completion.{Completion}
use Rattle.rdma_types.specs.Lists.{named, store_named}
use Rattle.rdma_types.specs.Objects.{CompletionQueue, no_queue}
use Rattle.rdma_types.proofs.Tables.{name_is, same_name}
use Rattle.end_queues.specs.Completions.{Queue}
use Rattle.protocol.specs.EndWords.{completing, with_entries, with_queue}
use Rattle.protocol.specs.State.{Context}
use Rattle.end_completions.specs.Completing.{settled}
use Rattle.endpoint_core.specs.declared.end.Endpoint.{Endpoint}
use Rattle.endpoint_core.specs.Queues.{AreReserved, KeepsReserved, StandsAt, count_at, nothing, promised, queues_of, reserved_in, settle_at}

-- ---- one queue

-- what is written at a place is what the work leaves there
pub settle-set : (qs : List (Name × Queue)) (place n : ℕ) (more : List Completion) (q w : Queue) → slice_get (map (λ e. e.1) qs) place ≡ Some q → w ≡ settled n more q → set_value_at qs place w ≡ settle_at qs place n more
settle-set [] place n more q w at is = refl
settle-set (e ∷ es) zero n more q w at is = let same : e.1 ≡ q = cc in ap (λ v. (e.0, v) ∷ es) (is ∙ ap (λ v. settled n more v) (sym same))
settle-set (e ∷ es) (suc place) n more q w at is = ap (λ l. e ∷ l) (settle-set es place n more q w at is)

pub settle-keys : (qs : List (Name × Queue)) (place n : ℕ) (more : List Completion) → keys_of (settle_at qs place n more) ≡ keys_of qs
settle-keys [] place n more = refl
settle-keys (e ∷ es) zero n more = refl
settle-keys (e ∷ es) (suc place) n more = ap (λ l. e.0 ∷ l) (settle-keys es place n more)

pub settle-capacities : (qs : List (Name × Queue)) (place n : ℕ) (more : List Completion) → map (λ q. q.1.capacity) (settle_at qs place n more) ≡ map (λ q. q.1.capacity) qs
settle-capacities [] place n more = refl
settle-capacities (e ∷ es) zero n more = refl
settle-capacities (e ∷ es) (suc place) n more = ap (λ l. e.1.capacity ∷ l) (settle-capacities es place n more)

pub settle-length : (qs : List (Name × Queue)) (place n : ℕ) (more : List Completion) → length (settle_at qs place n more) ≡ length qs
settle-length [] place n more = refl
settle-length (e ∷ es) zero n more = refl
settle-length (e ∷ es) (suc place) n more = ap suc (settle-length es place n more)

pub same-suc : (a b : ℕ) → (suc a == suc b) ≡ (a == b)
same-suc a b = grind (arith, nat_tests)

pub same-zero : (a : ℕ) → (zero == suc a) ≡ false
same-zero a = grind (arith, nat_tests)

pub zero-same : (a : ℕ) → (suc a == zero) ≡ false
zero-same a = grind (arith, nat_tests)

pub same-number : (k : ℕ) → (k == k) ≡ true
same-number k = grind (arith, nat_tests)

pub settle-reserved : (qs : List (Name × Queue)) (here n : ℕ) (more : List Completion) (place : ℕ) → here < length qs → reserved_in (settle_at qs here n more) place ≡ reserved_in qs place - count_at here n place
settle-reserved [] here n more place within = absurd (omega arith)
settle-reserved (e ∷ es) zero n more zero within = refl
settle-reserved (e ∷ es) zero n more (suc place) within = rw (same-zero place) (omega arith)
settle-reserved (e ∷ es) (suc here) n more zero within = rw (zero-same here) (omega arith)
settle-reserved (e ∷ es) (suc here) n more (suc place) within = rw (same-suc here place) (settle-reserved es here n more place (omega arith))

-- what is reserved of the queue that is found at a place
pub reserved-at : (qs : List (Name × Queue)) (place : ℕ) (q : Queue) → slice_get (map (λ e. e.1) qs) place ≡ Some q → reserved_in qs place ≡ q.reserved
reserved-at [] place q at = absurd (cc)
reserved-at (e ∷ es) zero q at = let same : e.1 ≡ q = cc in ap (λ v. v.reserved) same
reserved-at (e ∷ es) (suc place) q at = reserved-at es place q at

-- ---- the protocol's words

flip-names : (a b : Name) (v : Bool) → bytes_eq a b ≡ v → bytes_eq b a ≡ v
flip-names a b true e = let same = name_is a b e in subst (λ x. bytes_eq x a ≡ true) same (same_name a)
flip-names a b false e = by_test (bytes_eq b a) refl
  where
    by_test : (v : Bool) → bytes_eq b a ≡ v → bytes_eq b a ≡ false
    by_test false h = h
    by_test true h = absurd (let same = name_is b a h in let yes : bytes_eq a b ≡ true = subst (λ x. bytes_eq x b ≡ true) same (same_name b) in cc)

-- the first queue of that name, place by place
abbrev pub IsFirst : List (Name × Queue) → Name → ℕ → Type 0
IsFirst [] name place = ⊥
IsFirst (e ∷ es) name zero = bytes_eq e.0 name ≡ true
IsFirst (e ∷ es) name (suc place) = (bytes_eq e.0 name ≡ false) × IsFirst es name place

first-of : (qs : List (Name × Queue)) (name : Name) (place : ℕ) → place < length (keys_of qs) → bytes_eq name (get_or (keys_of qs) place []) ≡ true
    → ((k : ℕ) → k < place → bytes_eq name (get_or (keys_of qs) k []) ≡ false) → IsFirst qs name place
first-of [] name place within here before = absurd (omega arith)
first-of (e ∷ es) name zero within here before = flip-names name e.0 true here
first-of (e ∷ es) name (suc place) within here before =
    (flip-names name e.0 false (before 0 (omega arith)), first-of es name place (omega arith) here (λ k below. before (suc k) (omega arith)))

pub stands-first : (qs : List (Name × Queue)) (name : Name) (place : ℕ) → StandsAt qs name place → IsFirst qs name place
stands-first qs name place at =
    let found = position-Some (bytes_eq name) (keys_of qs) place [] at in first-of qs name place found.0 found.1 found.2

named-later : (e : Name × Queue) (es : List (Name × Queue)) (name : Name) → bytes_eq e.0 name ≡ false
    → named (λ x. x.name) no_queue name (queues_of (e ∷ es)) ≡ named (λ x. x.name) no_queue name (queues_of es)
unfolding named
named-later e es name other = rw other refl

store-later : (e : Name × Queue) (es : List (Name × Queue)) (name : Name) (q : CompletionQueue) → bytes_eq e.0 name ≡ false
    → store_named (λ x. x.name) name q (queues_of (e ∷ es)) ≡ record { name = e.0; capacity = e.1.capacity; entries = e.1.entries } ∷ store_named (λ x. x.name) name q (queues_of es)
unfolding store_named
store-later e es name q other = rw other refl

named-name : (qs : List (Name × Queue)) (name : Name) (place : ℕ) → IsFirst qs name place → (named (λ x. x.name) no_queue name (queues_of qs)).name ≡ name
unfolding named
named-name [] name place f = absurd f
named-name (x ∷ xs) name zero f = rw f (name_is x.0 name f)
named-name (x ∷ xs) name (suc place) f = ap (λ q. q.name) (named-later x xs name f.0) ∙ named-name xs name place f.1

-- the queue that the protocol finds by its name
named-settled : (qs : List (Name × Queue)) (name : Name) (place n : ℕ) (more : List Completion) → IsFirst qs name place
    → store_named (λ x. x.name) (named (λ x. x.name) no_queue name (queues_of qs)).name
    (record (named (λ x. x.name) no_queue name (queues_of qs)) { entries = (named (λ x. x.name) no_queue name (queues_of qs)).entries ++ more }) (queues_of qs)
    ≡ queues_of (settle_at qs place n more)
unfolding named store_named
named-settled [] name place n more first = absurd first
named-settled (e ∷ es) name zero n more first = rw (first, same_name e.0) refl
named-settled (e ∷ es) name (suc place) n more first =
    let q = named (λ x. x.name) no_queue name (queues_of es) in
    let one : CompletionQueue = record { name = e.0; capacity = e.1.capacity; entries = e.1.entries } in
    let there : bytes_eq e.0 q.name ≡ false = subst (λ m. bytes_eq e.0 m ≡ false) (sym (named-name es name place first.1)) first.0 in
    ap (λ (z : CompletionQueue). store_named (λ x. x.name) z.name (record z { entries = z.entries ++ more }) (queues_of (e ∷ es))) (named-later e es name first.0)
    ∙ (store-later e es q.name (record q { entries = q.entries ++ more }) there
    ∙ ap (λ l. one ∷ l) (named-settled es name place n more first.1))

-- more completions at the end of a queue
pub completing-settles : (c : Context) (qs : List (Name × Queue)) (name : Name) (place n : ℕ) (more : List Completion) → c.queues ≡ queues_of qs → StandsAt qs name place
    → completing c name more ≡ record c { queues = queues_of (settle_at qs place n more) }
unfolding completing with_queue with_entries
completing-settles c qs name place n more is at =
    ap (λ l. record c { queues = store_named (λ x. x.name) (named (λ x. x.name) no_queue name l).name (record (named (λ x. x.name) no_queue name l) { entries = (named (λ x. x.name) no_queue name l).entries ++ more }) l }) is
    ∙ ap (λ l. record c { queues = l }) (named-settled qs name place n more (stands-first qs name place at))

pub stands-settled : (qs : List (Name × Queue)) (name : Name) (place here n : ℕ) (more : List Completion) → StandsAt qs name place → StandsAt (settle_at qs here n more) name place
stands-settled qs name place here n more at = ap (position (bytes_eq name)) (settle-keys qs here n more) ∙ at

-- ---- places that are reserved

-- the queues with so many reserved places fewer
pub record Settles (old new : List (Name × Queue)) (done : ℕ → ℕ) : Type 0 where
  pub names : keys_of new ≡ keys_of old
  pub capacities : map (λ q. q.1.capacity) new ≡ map (λ q. q.1.capacity) old
  pub count : length new ≡ length old
  pub reserved : (place : ℕ) → reserved_in new place + done place ≡ reserved_in old place

pub settles-none : (qs : List (Name × Queue)) → Settles qs qs nothing
settles-none qs = record { names = refl; capacities = refl; count = refl; reserved = λ place. omega arith }

pub settles-at : (qs : List (Name × Queue)) (here n : ℕ) (more : List Completion) → here < length qs → n ≤ reserved_in qs here → Settles qs (settle_at qs here n more) (count_at here n)
settles-at qs here n more within few = record {
  names = settle-keys qs here n more;
  capacities = settle-capacities qs here n more;
  count = settle-length qs here n more;
  reserved = λ place. let less = settle-reserved qs here n more place within in let bound = count-few place in omega (arith, less, bound);
}
  where
    count-few : (place : ℕ) → count_at here n place ≤ reserved_in qs place
    count-few place = by_test (here == place) refl
      where
        by_test : (v : Bool) → (here == place) ≡ v → count_at here n place ≤ reserved_in qs place
        by_test true e = let same : here ≡ place = grind (arith, nat_tests, e) in subst (λ k. count_at here n k ≤ reserved_in qs k) same (rw (same-number here) few)
        by_test false e = rw e (omega arith)

pub settles-both : (a b c : List (Name × Queue)) (done more : ℕ → ℕ) → Settles a b done → Settles b c more → Settles a c (λ place. done place + more place)
settles-both a b c done more one two = record {
  names = two.names ∙ one.names;
  capacities = two.capacities ∙ one.capacities;
  count = two.count ∙ one.count;
  reserved = λ place. let x = one.reserved place in let y = two.reserved place in omega (arith, x, y);
}

-- what was reserved for work that is done is reserved no more
pub keeps-settled : (old new : List (Name × Queue)) (send recv : ℕ) (before after : Endpoint) (more done : ℕ → ℕ) → Settles old new done
    → ((place : ℕ) → promised send recv before place + more place ≡ promised send recv after place + done place) → KeepsReserved old new send recv before after more
keeps-settled old new send recv before after more done settles work = record {
  names = settles.names;
  capacities = settles.capacities;
  balance = λ place. let x = settles.reserved place in let y = work place in omega (arith, x, y);
}

-- .. and what the work left takes is reserved
pub reserved-after : (old new : List (Name × Queue)) (send recv : ℕ) (before after : Endpoint) (more done : ℕ → ℕ) → Settles old new done
    → ((place : ℕ) → promised send recv before place + more place ≡ promised send recv after place + done place) → AreReserved old send recv before more → AreReserved new send recv after nothing
reserved-after old new send recv before after more done settles work held = record {
  send_there = let there = held.send_there in let same = settles.count in omega (arith, there, same);
  recv_there = let there = held.recv_there in let same = settles.count in omega (arith, there, same);
  enough = λ place. let x = settles.reserved place in let y = work place in let z = held.enough place in omega (arith, x, y, z);
}
