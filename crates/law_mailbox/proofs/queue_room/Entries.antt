-- What an end completes in the queue of letters of its context, counted by kind: it had as much left to complete.
use Rattle.std.proofs.Common.{arith, ◌≡◌, ◌≢◌, ℕ, suc, ◌+◌, ◌<◌, ◌≤◌, List, [], ◌∷◌, ◌++◌, length, true, false, Bool, refl, sym, subst, ap, ◌∙◌, Some, None, Option, append-nil, append_assoc, length-drop, ne_eqb}
use Rattle.std.specs.Prelude.{All, count_by, drop, if◌then◌else◌, is_some, not, ◌==◌, ◌&&◌}
use Rattle.std.proofs.lemmas.List.Elements.{All-append, All-cons, All-head, All-nil, All-tail}
use Rattle.rdma_types.specs.declared.answers.RefusalReason.{RefusalReason}
use Rattle.rdma_types.specs.declared.answers.RefusalReason.TheVariants as whys
use Rattle.rdma_types.specs.declared.names.Name.{Name}
use Rattle.rdma_types.specs.declared.requests.Completion.{Completion}
use Rattle.rdma_types.specs.declared.requests.Kind.{Kind}
use Rattle.rdma_types.specs.declared.requests.Kind.TheVariants as kind
use Rattle.rdma_types.specs.declared.requests.Receive.{Receive}
use Rattle.rdma_types.specs.declared.requests.Shape.{Shape}
use Rattle.rdma_types.specs.declared.requests.WcKind.{WcKind}
use Rattle.rdma_types.specs.declared.requests.WcKind.TheVariants as wc
use Rattle.rdma_types.specs.declared.requests.WcStatus.{WcStatus}
use Rattle.rdma_types.specs.declared.requests.WcStatus.TheVariants as status
use Rattle.rdma_types.specs.Kinds.{completed_kind, is_send, kind_of, receive_done, request_done, size_of}
use Rattle.rdma_types.specs.Lists.{has_name}
use Rattle.rdma_types.specs.Objects.{CompletionQueue, Posted, no_queue}
use Rattle.packetless_machine.specs.Machine.{End, completed, untold_count, used_count}
use Rattle.packetless_machine.specs.Steps.{arrivals, closed, current, failed_queues, failed_receives, failed_requests, fills, front, receive_for, received_whole, receives_of, receiving, refused_entries, refused_queues, refused_receives, success, told_one, too_long, untold, unused_after, used_by}
use Rattle.law_simulation.proofs.relation.Tables.{name-named_there}
use Rattle.mailbox_rules.specs.Opening.{connection_of, queue_name}
use Rattle.mailbox_rules.specs.Working.{is_success}
use Rattle.law_mailbox.specs.Few.{is_receive}
use Rattle.law_mailbox.proofs.queue_room.Counts.{count_both, count_cons, one_if}
use Rattle.law_mailbox.proofs.connection.Ends.{longer_here, still_named}
use Rattle.law_mailbox.proofs.connection.Refusals.{the_queue}
use Rattle.law_mailbox.proofs.queue_room.RoomSteps.{all_receives, refused_few, run_uses}

-- ---- completions of one connection

-- all are of connection j; so many are of receives, and so many of requests, or fewer
pub record AreOf (j receives requests : ℕ) (xs : List Completion) : Type 0 where
  pub of_it : All (λ x. connection_of x.qp ≡ j) xs
  pub receives_within : count_by (λ x. is_receive x.kind) xs ≤ receives
  pub requests_within : count_by (λ x. not (is_receive x.kind)) xs ≤ requests

pub none_of : (j : ℕ) → AreOf j 0 0 []
none_of j = record { of_it = All-nil (λ x. connection_of x.qp ≡ j); receives_within = omega arith; requests_within = omega arith }

module _ (j r q : ℕ) (x : Completion) (xs : List Completion) (is : connection_of x.qp ≡ j) (rest : AreOf j r q xs) where
  one_receive : is_receive x.kind ≡ true → AreOf j (suc r) q (x ∷ xs)
  one_receive of_receive = record {
    of_it = All-cons (λ y. connection_of y.qp ≡ j) x xs is rest.of_it;
    receives_within = let c = count_cons (λ y. is_receive y.kind) x xs in let k = ap (λ (b : Bool). one_if b) of_receive in let h = rest.receives_within in omega (arith, c, k, h);
    requests_within = let c = count_cons (λ y. not (is_receive y.kind)) x xs in let k = ap (λ (b : Bool). one_if (not b)) of_receive in let h = rest.requests_within in omega (arith, c, k, h);
  }

  one_request : is_receive x.kind ≡ false → AreOf j r (suc q) (x ∷ xs)
  one_request of_request = record {
    of_it = All-cons (λ y. connection_of y.qp ≡ j) x xs is rest.of_it;
    receives_within = let c = count_cons (λ y. is_receive y.kind) x xs in let k = ap (λ (b : Bool). one_if b) of_request in let h = rest.receives_within in omega (arith, c, k, h);
    requests_within = let c = count_cons (λ y. not (is_receive y.kind)) x xs in let k = ap (λ (b : Bool). one_if (not b)) of_request in let h = rest.requests_within in omega (arith, c, k, h);
  }

both_of : (j a b c d : ℕ) (xs ys : List Completion) → AreOf j a b xs → AreOf j c d ys → AreOf j (a + c) (b + d) (xs ++ ys)
both_of j a b c d xs ys x y = record {
  of_it = All-append (λ z. connection_of z.qp ≡ j) xs ys x.of_it y.of_it;
  receives_within = let n = count_both (λ z. is_receive z.kind) xs ys in let h = x.receives_within in let k = y.receives_within in omega (arith, n, h, k);
  requests_within = let n = count_both (λ z. not (is_receive z.kind)) xs ys in let h = x.requests_within in let k = y.requests_within in omega (arith, n, h, k);
}

-- ---- of the completions of a kind: those of connection j, and of another one

module _ (p : WcKind → Bool) where
  pub count_own : (j : ℕ) (xs : List Completion) → count_by (λ x. (connection_of x.qp == j) && p x.kind) xs ≤ count_by (λ x. p x.kind) xs
  count_own j [] = omega arith
  count_own j (x ∷ xs) =
      let a = count_cons (λ y. (connection_of y.qp == j) && p y.kind) x xs in
      let b = count_cons (λ y. p y.kind) x xs in
      let one = fewer (connection_of x.qp == j) (p x.kind) in
      let rest = count_own j xs in
      omega (arith, a, b, one, rest)
    where
      fewer : (a b : Bool) → one_if (a && b) ≤ one_if b
      fewer true b = omega arith
      fewer false b = omega arith

  pub count_other : (i j : ℕ) → i ≢ j → (xs : List Completion) → All (λ x. connection_of x.qp ≡ j) xs → count_by (λ x. (connection_of x.qp == i) && p x.kind) xs ≡ 0
  count_other i j apart [] all = refl
  count_other i j apart (x ∷ xs) all =
      let a = count_cons (λ y. (connection_of y.qp == i) && p y.kind) x xs in
      let not_it = ne_eqb (connection_of x.qp) i (λ e. apart (sym e ∙ All-head (λ y. connection_of y.qp ≡ j) x xs all)) in
      let none = ap (λ (b : Bool). one_if (b && p x.kind)) not_it in
      let rest = count_other i j apart xs (All-tail (λ y. connection_of y.qp ≡ j) x xs all) in
      omega (arith, a, none, rest)

-- ---- completions of an end with that number

never_receive : (k : Kind) → is_receive (completed_kind k) ≡ false
never_receive kind.Write = refl
never_receive kind.Send = refl
never_receive kind.Read = refl
never_receive kind.CompareSwap = refl
never_receive kind.FetchAdd = refl

module _ (number : ℕ) where
  requests_are : (s : WcStatus) (rs : List Posted) → AreOf (connection_of number) 0 (length rs) (failed_requests number s rs)
  unfolding failed_requests request_done
  requests_are s [] = none_of (connection_of number)
  requests_are s (r ∷ rs) = one_request (connection_of number) 0 (length rs) (request_done number r s 0) (failed_requests number status.Flush rs) refl (requests_are status.Flush rs) (never_receive (kind_of r))

  receives_are : (vs : List Receive) → AreOf (connection_of number) (length vs) 0 (failed_receives number vs)
  unfolding failed_receives receive_done
  receives_are [] = none_of (connection_of number)
  receives_are (v ∷ vs) = one_receive (connection_of number) (length vs) 0 (receive_done number v wc.Recv status.Flush 0 None) (failed_receives number vs) refl (receives_are vs) refl

  long_are : (o : Option Receive) → AreOf (connection_of number) (length (too_long number o)) 0 (too_long number o)
  unfolding too_long receive_done
  long_are None = none_of (connection_of number)
  long_are (Some v) = one_receive (connection_of number) 0 0 (receive_done number v wc.Recv status.LocalLength 0 None) [] refl (none_of (connection_of number)) refl

  whole_are : (r : Posted) (o : Option Receive) → AreOf (connection_of number) (length (received_whole number r o)) 0 (received_whole number r o)
  unfolding received_whole receive_done
  whole_are r None = none_of (connection_of number)
  whole_are r (Some v) =
      one_receive (connection_of number) 0 0 (receive_done number v (if is_send (kind_of r) then wc.Recv else wc.RecvImm) status.Success (size_of r) r.request.shape.imm) [] refl (none_of (connection_of number)) (by (is_send (kind_of r)))
    where
      by : (b : Bool) → is_receive (if b then wc.Recv else wc.RecvImm) ≡ true
      by true = refl
      by false = refl

refused_are : (x : End) (why : RefusalReason) → AreOf (connection_of x.number) (length (refused_entries x why)) 0 (refused_entries x why)
unfolding refused_entries
refused_are x whys.Invalid = none_of (connection_of x.number)
refused_are x whys.Access = none_of (connection_of x.number)
refused_are x whys.Length = long_are x.number (receive_for x)

arrived_are : (e : End) (n : ℕ) (x : End) → AreOf (connection_of x.number) (length (arrivals e n x)) 0 (arrivals e n x)
unfolding arrivals
arrived_are e n x = by (fills e n)
  where
    by : (b : Bool) → AreOf (connection_of x.number) (length (if b then received_whole x.number (current e) (used_by (current e) x) else [])) 0 (if b then received_whole x.number (current e) (used_by (current e) x) else [])
    by true = whole_are x.number (current e) (used_by (current e) x)
    by false = none_of (connection_of x.number)

success_are : (e : End) (r : Posted) → AreOf (connection_of e.number) 0 1 (success e r)
unfolding success request_done
success_are e r = by r.request.signaled
  where
    by : (b : Bool) → AreOf (connection_of e.number) 0 1 (if b then request_done e.number r status.Success (size_of r) ∷ [] else [])
    by true = one_request (connection_of e.number) 0 0 (request_done e.number r status.Success (size_of r)) [] refl (none_of (connection_of e.number)) (never_receive (kind_of r))
    by false = record { of_it = All-nil (λ x. connection_of x.qp ≡ connection_of e.number); receives_within = omega arith; requests_within = omega arith }

-- those of requests that are told, and of messages that are whole, have status 0
abbrev Succeeds : Completion → Type 0
Succeeds x = is_success x.status ≡ true

success_succeeds : (e : End) (r : Posted) → All Succeeds (success e r)
unfolding success request_done
success_succeeds e r = by r.request.signaled
  where
    by : (b : Bool) → All Succeeds (if b then request_done e.number r status.Success (size_of r) ∷ [] else [])
    by true = All-cons Succeeds (request_done e.number r status.Success (size_of r)) [] refl (All-nil Succeeds)
    by false = All-nil Succeeds

whole_succeeds : (number : ℕ) (r : Posted) (o : Option Receive) → All Succeeds (received_whole number r o)
unfolding received_whole receive_done
whole_succeeds number r None = All-nil Succeeds
whole_succeeds number r (Some v) = All-cons Succeeds (receive_done number v (if is_send (kind_of r) then wc.Recv else wc.RecvImm) status.Success (size_of r) r.request.shape.imm) [] refl (All-nil Succeeds)

arrived_succeed : (e : End) (n : ℕ) (x : End) → All Succeeds (arrivals e n x)
unfolding arrivals
arrived_succeed e n x = by (fills e n)
  where
    by : (b : Bool) → All Succeeds (if b then received_whole x.number (current e) (used_by (current e) x) else [])
    by true = whole_succeeds x.number (current e) (used_by (current e) x)
    by false = All-nil Succeeds

-- of these none says that the end has ended; and where it has, each may
abbrev IsErrorOf : End → Completion → Type 0
IsErrorOf e x = is_success x.status ≡ false → e.ended ≡ true

none_over : (e : End) (xs : List Completion) → All Succeeds xs → All (IsErrorOf e) xs
none_over e [] all = All-nil (IsErrorOf e)
none_over e (x ∷ xs) all = All-cons (IsErrorOf e) x xs (λ error. let is : is_success x.status ≡ true = All-head Succeeds x xs all in let no : true ≡ false = sym is ∙ error in cc) (none_over e xs (All-tail Succeeds x xs all))

all_over : (e : End) → e.ended ≡ true → (xs : List Completion) → All (IsErrorOf e) xs
all_over e ended [] = All-nil (IsErrorOf e)
all_over e ended (x ∷ xs) = All-cons (IsErrorOf e) x xs (λ error. ended) (all_over e ended xs)

-- an end that receives has ended as before
pub received_stays : (shape : Shape) (whole : Bool) (x : End) → (receiving shape whole x).ended ≡ x.ended
unfolding receiving
received_stays shape whole x = by (is_send shape.kind) (is_some shape.imm && whole)
  where
    by : (a b : Bool) → (if a then record x { in_use = if whole then None else receive_for x; unused = unused_after x } else if b then record x { unused = drop 1 x.unused } else x).ended ≡ x.ended
    by true b = refl
    by false true = refl
    by false false = refl

-- ---- queues of a context, of which that of letters has more entries

pub record IsLonger (queues queues' : List CompletionQueue) (more : List Completion) : Type 0 where
  pub there : has_name (λ x. x.name) queue_name queues' ≡ true
  pub entries : (the_queue queues').entries ≡ (the_queue queues).entries ++ more

as_long : (queues : List CompletionQueue) → has_name (λ x. x.name) queue_name queues ≡ true → IsLonger queues queues []
as_long queues there = record { there = there; entries = sym (append-nil (the_queue queues).entries) }

longer_by : (first queues : List CompletionQueue) (before : List Completion) (q : Name) (more : List Completion) → q ≡ queue_name → IsLonger first queues before → IsLonger first (completed q more queues) (before ++ more)
longer_by first queues before q more is long = subst (λ (z : Name). IsLonger first (completed z more queues) (before ++ more)) (sym is) after
  where
    same : (the_queue queues).name ≡ queue_name
    same = name-named_there (λ x. x.name) no_queue queue_name queues long.there

    after : IsLonger first (completed queue_name more queues) (before ++ more)
    after = record {
      there = still_named queue_name queue_name more queues long.there same ∙ long.there;
      entries = ap (λ (x : CompletionQueue). x.entries) (longer_here queue_name more queues long.there same) ∙ (ap (λ (xs : List Completion). xs ++ more) long.entries ∙ append_assoc (the_queue first).entries before more);
    }

-- ---- an end e becomes e', and its queue gets completions of what e had left and e' has not

-- how many receives an end has left
abbrev pub receives_left : End → ℕ
receives_left e = used_count e.in_use + length e.unused

pub record IsCompleted (e e' : End) (queues queues' : List CompletionQueue) : Type 0 where
  pub more : List Completion
  pub receives : ℕ
  pub requests : ℕ
  pub longer : IsLonger queues queues' more
  pub are : AreOf (connection_of e.number) receives requests more
  pub receives_fit : receives + receives_left e' ≤ receives_left e
  pub requests_fit : requests + untold_count e' ≤ untold_count e
  -- only an end that has ended completes something with an error, and it stays so
  pub errors : All (λ x. is_success x.status ≡ false → e'.ended ≡ true) more
  pub stays_ended : e.ended ≡ true → e'.ended ≡ true

pub told_ended : (e : End) → (told_one e).ended ≡ e.ended
unfolding told_one
told_ended e = refl

closed_ended : (e : End) → (closed e).ended ≡ true
unfolding closed
closed_ended e = refl

closed_receives : (e : End) → receives_left (closed e) ≡ 0
unfolding closed used_count
closed_receives e = refl

closed_requests : (e : End) → untold_count (closed e) ≡ 0
unfolding closed untold_count
closed_requests e = omega arith

untold_long : (e : End) → length (untold e) ≡ untold_count e
unfolding untold untold_count
untold_long e = length-drop e.told e.posted

module _ (queues : List CompletionQueue) (there : has_name (λ x. x.name) queue_name queues ≡ true) (e : End) (send : e.send_queue ≡ queue_name) (receive : e.receive_queue ≡ queue_name) where
  -- it fails, and of its receives some are completed before
  fails : (s : WcStatus) (queues' : List CompletionQueue) (before : List Completion) (vs : List Receive) (n : ℕ) → IsLonger queues queues' before → AreOf (connection_of e.number) n 0 before → length vs + n ≤ receives_left e → IsCompleted e (closed e) queues (failed_queues e s vs queues')
  unfolding failed_queues
  fails s queues' before vs n long are few =
      let requests : List Completion = failed_requests e.number s (untold e) in
      record {
        more = (before ++ failed_requests e.number s (untold e)) ++ failed_receives e.number vs;
        receives = (n + 0) + length vs;
        requests = (0 + length (untold e)) + 0;
        longer = longer_by queues (completed e.send_queue requests queues') (before ++ requests) e.receive_queue (failed_receives e.number vs) receive (longer_by queues queues' before e.send_queue requests send long);
        are =
            both_of (connection_of e.number) (n + 0) (0 + length (untold e)) (length vs) 0 (before ++ requests) (failed_receives e.number vs) (both_of (connection_of e.number) n 0 0 (length (untold e)) before requests are (requests_are e.number s (untold e)))
            (receives_are e.number vs);
        receives_fit = let none = closed_receives e in omega (arith, few, none);
        requests_fit = let none = closed_requests e in let all = untold_long e in omega (arith, none, all);
        errors = all_over (closed e) (closed_ended e) ((before ++ failed_requests e.number s (untold e)) ++ failed_receives e.number vs);
        stays_ended = λ was. closed_ended e;
      }

  pub end_completes : (s : WcStatus) → IsCompleted e (closed e) queues (failed_queues e s (receives_of e) queues)
  end_completes s = let all = all_receives e.in_use e.unused in fails s queues [] (receives_of e) 0 (as_long queues there) (none_of (connection_of e.number)) (omega (arith, all))

  pub refusal_completes : (why : RefusalReason) → IsCompleted e (closed e) queues (refused_queues e why queues)
  unfolding refused_queues
  refusal_completes why =
      fails status.Flush (completed e.receive_queue (refused_entries e why) queues) (refused_entries e why) (refused_receives e why) (length (refused_entries e why))
      (longer_by queues queues [] e.receive_queue (refused_entries e why) receive (as_long queues there)) (refused_are e why) (refused_few e why)

  pub tell_completes : e.told < length e.posted → IsCompleted e (told_one e) queues (completed e.send_queue (success e (front e)) queues)
  unfolding told_one untold_count
  tell_completes some' = record {
    more = success e (front e);
    receives = 0;
    requests = 1;
    longer = longer_by queues queues [] e.send_queue (success e (front e)) send (as_long queues there);
    are = success_are e (front e);
    receives_fit = omega arith;
    requests_fit = omega (arith, some');
    errors = none_over (told_one e) (success e (front e)) (success_succeeds e (front e));
    stays_ended = λ was. was;
  }

  -- the end s makes n bytes come here
  pub run_completes : (s : End) (n : ℕ) → IsCompleted e (receiving (current s).request.shape (fills s n) e) queues (completed e.receive_queue (arrivals s n e) queues)
  unfolding untold_count
  run_completes s n =
      let fit =
      run_uses s n e (λ y k. (k + receives_left y ≤ receives_left e) × (untold_count y ≡ untold_count e)) (λ v vs k few. (omega (arith, few), refl)) in
      record {
        more = arrivals s n e;
        receives = length (arrivals s n e);
        requests = 0;
        longer = longer_by queues queues [] e.receive_queue (arrivals s n e) receive (as_long queues there);
        are = arrived_are s n e;
        receives_fit = fit.0;
        requests_fit = let same = fit.1 in omega (arith, same);
        errors = none_over (receiving (current s).request.shape (fills s n) e) (arrivals s n e) (arrived_succeed s n e);
        stays_ended = λ was. received_stays (current s).request.shape (fills s n) e ∙ was;
      }
