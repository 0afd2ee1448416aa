-- The ends of a context on both sides: they are found alike, reserve alike, and change alike.
use Rattle.std.proofs.Common.{arith, ◌≡◌, ◌+◌, ℕ, List, [], ◌∷◌, ◌++◌, map, length, true, false, Bool, refl, sym, ap, ◌∙◌}
use Rattle.std.specs.Prelude.{Option, Some, None, bytes_eq, if◌then◌else◌, nat_le, sum_by}
use Rattle.std.proofs.lemmas.List.{length-drop}
use Rattle.std.proofs.lemmas.List.Sums.{sum_by-cons}
use Rattle.rdma_types.specs.declared.names.Name.{Name}
use Rattle.rdma_types.specs.declared.requests.Completion.{Completion}
use Rattle.rdma_types.specs.Lists.{named, has_name, store_named}
use Rattle.rdma_types.specs.Objects.{CompletionQueue, no_queue}
use Rattle.protocol.specs.State as state
use Rattle.protocol.specs.State.{Link, no_end, NoMessage, InSend, InWrite}
use Rattle.protocol.specs.Refusals as refusing
use Rattle.protocol.specs.EndWords as words
use Rattle.protocol.specs.Memory.{untold_of}
use Rattle.packetless_machine.specs.Machine as machine
use Rattle.packetless_machine.specs.Steps.{untold}
use Rattle.law_simulation.specs.Views.{Owned, owned, owned_there, link_or_none, receive_in, requests_of}
use Rattle.law_simulation.specs.Stands.{AreSame}
use Rattle.law_simulation.proofs.relation.Tables.{has_name-map, has_name-store, named-map, named-there, name-named_there, map-store, map-store_named, named-store_part}
use Rattle.law_simulation.proofs.relation.Nets.{AreQuiet}

pub names_there : (e : state.End) → (owned_there e).name ≡ e.name
unfolding owned_there
names_there e = refl

pub names_here : (e : machine.End) → (owned e).name ≡ e.name
unfolding owned
names_here e = refl

-- ---- found alike

pub end_there : (n : Name) (xs : List state.End) (ys : List machine.End) → map owned_there xs ≡ map owned ys → has_name (λ e. e.name) n xs ≡ has_name (λ e. e.name) n ys
end_there n xs ys same =
    sym (has_name-map owned_there (λ x. x.name) (λ e. e.name) n xs names_there)
    ∙ (ap (has_name (λ x. x.name) n) same ∙ has_name-map owned (λ x. x.name) (λ e. e.name) n ys names_here)

-- what an owner has of the end with a name
pub end_owned : (n : Name) (none : state.End) (none' : machine.End) (xs : List state.End) (ys : List machine.End) → map owned_there xs ≡ map owned ys → has_name (λ e. e.name) n ys ≡ true → owned_there (named (λ e. e.name) none n xs) ≡ owned (named (λ e. e.name) none' n ys)
end_owned n none none' xs ys same there =
    sym (named-map owned_there (λ x. x.name) (λ e. e.name) none n xs names_there)
    ∙ (ap (named (λ x. x.name) (owned_there none) n) same
    ∙ (named-there (λ x. x.name) (owned_there none) (owned none') n (map owned ys) (has_name-map owned (λ x. x.name) (λ e. e.name) n ys names_here ∙ there)
    ∙ named-map owned (λ x. x.name) (λ e. e.name) none' n ys names_here))

-- ---- changed alike

pub ends_store : (n : Name) (e : state.End) (f : machine.End) (xs : List state.End) (ys : List machine.End) → map owned_there xs ≡ map owned ys → owned_there e ≡ owned f → map owned_there (store_named (λ e. e.name) n e xs) ≡ map owned (store_named (λ e. e.name) n f ys)
ends_store n e f xs ys same here =
    map-store_named owned_there (λ x. x.name) (λ e. e.name) n e xs names_there
    ∙ (ap (λ x. store_named (λ x. x.name) n x (map owned_there xs)) here
    ∙ (ap (store_named (λ x. x.name) n (owned f)) same
    ∙ sym (map-store_named owned (λ x. x.name) (λ e. e.name) n f ys names_here)))

-- an end changes in its receives alone
pub stored_quiet : (n : Name) (none : state.End) (none' : machine.End) (e : state.End) (f : machine.End) (xs : List state.End) (ys : List machine.End) → has_name (λ x. x.name) n xs ≡ true → has_name (λ x. x.name) n ys ≡ true → e.name ≡ n → f.name ≡ n →
    e.link ≡ (named (λ x. x.name) none n xs).link → requests_of f ≡ requests_of (named (λ x. x.name) none' n ys) → AreQuiet xs (store_named (λ x. x.name) n e xs) ys (store_named (λ x. x.name) n f ys)
stored_quiet n none none' e f xs ys there there' named named' link requests = record {
  links = λ k. named-store_part (λ x. x.link) (λ x. x.name) (record no_end { name = k }) none n k e xs there named link;
  requests = λ o. named-store_part requests_of (λ x. x.name) (machine.nobody o) none' n o.name f ys there' named' requests;
  there = λ k. has_name-store (λ x. x.name) n k f ys there' named';
  numbers = λ c. map-store (λ x. (x.number, record { context = c; name = x.name })) (λ x. x.name) none' n f ys there' (ap (λ x. (x.number, record { context = c; name = x.name })) requests);
}

-- ---- reserved alike

-- the entries that an end's work will take of a queue
reserved_of : Name → Owned → ℕ
reserved_of q e =
    (if bytes_eq e.send_queue q then length e.untold else 0)
    + (if bytes_eq e.receive_queue q then machine.used_count e.in_use + length e.unused else 0)

untold_there : (l : Option Link) → untold_of l ≡ (link_or_none l).sender.untold
unfolding link_or_none
untold_there None = refl
untold_there (Some l) = refl

used_by : (p : state.Progress) → length (words.in_use_by p) ≡ machine.used_count (receive_in p)
unfolding receive_in machine.used_count
used_by NoMessage = refl
used_by (InSend done receive) = refl
used_by (InWrite region off count done) = refl

used_there : (l : Option Link) → length (words.in_use l) ≡ machine.used_count (receive_in (link_or_none l).receiver.progress)
unfolding link_or_none
used_there None = used_by NoMessage
used_there (Some l) = used_by l.receiver.progress

reserved_there : (q : Name) (e : state.End) → refusing.reserved_by q e ≡ reserved_of q (owned_there e)
unfolding refusing.reserved_by owned_there reserved_of
reserved_there q e = rw (untold_there e.link, used_there e.link) (by_tests (bytes_eq e.send_cq q) (bytes_eq e.recv_cq q) (length (link_or_none e.link).sender.untold) (machine.used_count (receive_in (link_or_none e.link).receiver.progress)) (length e.unused))
  where
    by_tests : (s r : Bool) (a b c : ℕ) → refusing.count_if s a + refusing.count_if r (c + b) ≡ (if s then a else 0) + (if r then b + c else 0)
    by_tests s true a b c = omega arith
    by_tests s false a b c = refl

reserved_here : (q : Name) (e : machine.End) → machine.reserved_by q e ≡ reserved_of q (owned e)
unfolding machine.reserved_by machine.untold_count owned untold reserved_of
reserved_here q e = ap (λ k. (if bytes_eq e.send_queue q then k else 0) + (if bytes_eq e.receive_queue q then machine.used_count e.in_use + length e.unused else 0)) (sym (length-drop e.told e.posted))

sum_by-map : {A B : Type 0} (f : A → ℕ) (g : B → ℕ) (h : A → B) (xs : List A) → ((x : A) → f x ≡ g (h x)) → sum_by f xs ≡ sum_by g (map h xs)
sum_by-map f g h [] same = refl
sum_by-map f g h (x ∷ xs) same = sum_by-cons f x xs ∙ (ap (λ k. k + sum_by f xs) (same x) ∙ (ap (λ k. g (h x) + k) (sum_by-map f g h xs same) ∙ sym (sum_by-cons g (h x) (map h xs))))

pub reserved_same : (x : state.Context) (y : machine.Context) (q : Name) → AreSame x y → refusing.reserved x q ≡ machine.reserved y q
unfolding refusing.reserved machine.reserved
reserved_same x y q same =
    sum_by-map (refusing.reserved_by q) (reserved_of q) owned_there x.ends (reserved_there q)
    ∙ (ap (sum_by (reserved_of q)) same.ends ∙ sym (sum_by-map (machine.reserved_by q) (reserved_of q) owned y.ends (reserved_here q)))

abbrev pub queue_in : List CompletionQueue → Name → CompletionQueue
queue_in qs n = named (λ q. q.name) no_queue n qs

pub full_same : (x : state.Context) (y : machine.Context) (q : Name) → AreSame x y → refusing.is_full x q ≡ nat_le (queue_in y.queues q).capacity (length (queue_in y.queues q).entries + machine.reserved y q)
full_same x y q same = ap (λ qs. nat_le (queue_in qs q).capacity (length (queue_in qs q).entries + refusing.reserved x q)) same.queues ∙ ap (λ k. nat_le (queue_in y.queues q).capacity (length (queue_in y.queues q).entries + k)) (reserved_same x y q same)

-- ---- completions

-- more entries in the queue with a name
abbrev pub with_more : List CompletionQueue → Name → List Completion → List CompletionQueue
with_more qs n more = store_named (λ q. q.name) n (record (queue_in qs n) { entries = (queue_in qs n).entries ++ more }) qs

pub completing_there : (x : state.Context) (queues : List CompletionQueue) (n : Name) (more : List Completion) → x.queues ≡ queues → has_name (λ q. q.name) n queues ≡ true → words.completing x n more ≡ record x { queues = with_more queues n more }
unfolding words.completing words.with_queue words.with_entries
completing_there x queues n more same there =
    ap (λ qs. record x { queues = qs })
    (ap (λ qs. store_named (λ q. q.name) (queue_in qs n).name (record (queue_in qs n) { entries = (queue_in qs n).entries ++ more }) qs) same
    ∙ ap (λ k. store_named (λ q. q.name) k (record (queue_in queues n) { entries = (queue_in queues n).entries ++ more }) queues) (name-named_there (λ q. q.name) no_queue n queues there))

pub with_more_names : (queues : List CompletionQueue) (n : Name) (more : List Completion) → has_name (λ q. q.name) n queues ≡ true → map (λ q. q.name) (with_more queues n more) ≡ map (λ q. q.name) queues
with_more_names queues n more there = map-store (λ q. q.name) (λ q. q.name) no_queue n (record (queue_in queues n) { entries = (queue_in queues n).entries ++ more }) queues there refl
