-- Completions keep the rules of entries, and there are as many as pieces of work that they end.
use Rattle.std.proofs.Common.{arith, ◌≡◌, ◌≤◌, ◌+◌, ℕ, zero, suc, List, [], ◌∷◌, ◌++◌, map, length, take, drop, true, false, Bool, refl, sym, ap, ◌∙◌, length-append}
use Rattle.std.specs.Prelude.{All, Option, Some, None, if◌then◌else◌, filter}
use Rattle.std.proofs.lemmas.List.{length-map, length-take, length-drop}
use Rattle.std.proofs.lemmas.List.Elements.{All-cons, All-filter, All-head, All-nil, All-tail, All-take}
use Rattle.rdma_types.specs.declared.requests.Completion.{Completion}
use Rattle.rdma_types.specs.declared.requests.Receive.{Receive}
use Rattle.rdma_types.specs.declared.requests.Terms.{Terms}
use Rattle.rdma_types.specs.declared.requests.WcKind.{WcKind}
use Rattle.rdma_types.specs.declared.requests.WcStatus.{WcStatus}
use Rattle.rdma_types.specs.declared.requests.WcStatus.TheVariants as status
use Rattle.rdma_types.specs.Kinds.{receive_done, request_done}
use Rattle.rdma_types.specs.Limits.{most_bytes}
use Rattle.rdma_types.specs.Objects.{Posted, Region}
use Rattle.rdma_types.specs.declared.names.Name.{Name}
use Rattle.protocol.specs.EndWords.{done_request, failed_receive, failed_request}
use Rattle.protocol.specs.Lawful.{IsLawfulEntry, is_number}
use Rattle.protocol.specs.Requester.{failing, told_completions, told_count}
use Rattle.protocol.specs.State.{Sender}
use Rattle.law_devices.specs.Sound.{IsSoundRequest}
use Rattle.law_devices.proofs.Ends.{All-mapped}

pub entry-request : (qp : ℕ) (p : Posted) (st : WcStatus) (n : ℕ) → is_number qp ≡ true → n ≤ most_bytes → IsLawfulEntry (request_done qp p st n)
unfolding request_done
entry-request qp p st n number few = record { qp = number; length' = few }

pub entry-receive : (qp : ℕ) (r : Receive) (k : WcKind) (st : WcStatus) (n : ℕ) (imm : Option ℕ) → is_number qp ≡ true → n ≤ most_bytes → IsLawfulEntry (receive_done qp r k st n imm)
unfolding receive_done
entry-receive qp r k st n imm number few = record { qp = number; length' = few }

all-so : {A : Type 0} (P : A → Type 0) (xs : List A) → ((x : A) → P x) → All P xs
all-so P [] h = All-nil P
all-so P (x ∷ xs) h = All-cons P x xs (h x) (all-so P xs h)

pub entries-flushed : (qp : ℕ) (st : WcStatus) (rs : List Receive) → is_number qp ≡ true → All IsLawfulEntry (map (failed_receive qp st) rs)
entries-flushed qp st rs number = All-mapped IsLawfulEntry (failed_receive qp st) rs (all-so (λ r. IsLawfulEntry (failed_receive qp st r)) rs (λ r. entry-receive qp r _ st 0 None number (omega arith)))

pub entries-failing : (qp : ℕ) (st : WcStatus) (ps : List Posted) → is_number qp ≡ true → All IsLawfulEntry (failing qp st ps)
unfolding failing
entries-failing qp st [] number = All-nil IsLawfulEntry
entries-failing qp st (p ∷ ps) number =
    All-cons IsLawfulEntry (failed_request qp st p) _ (entry-request qp p st 0 number (omega arith))
    (All-mapped IsLawfulEntry _ ps (all-so (λ q. IsLawfulEntry (request_done qp q status.Flush 0)) ps (λ q. entry-request qp q status.Flush 0 number (omega arith))))

pub length-failing : (qp : ℕ) (st : WcStatus) (ps : List Posted) → length (failing qp st ps) ≡ length ps
unfolding failing
length-failing qp st [] = refl
length-failing qp st (p ∷ ps) = ap suc (length-map ps _)

length-filter_few : {A : Type 0} (p : A → Bool) (xs : List A) → length (filter p xs) ≤ length xs
length-filter_few p [] = omega arith
length-filter_few {A} p (x ∷ xs) = by_test (p x) (length-filter_few p xs)
  where
    by_test : (b : Bool) → length (filter p xs) ≤ length xs → length (if b then x ∷ filter p xs else filter p xs) ≤ suc (length xs)
    by_test true h = omega (arith, h)
    by_test false h = omega (arith, h)

all-done : (regions : List Region) (domain : Name) (qp : ℕ) (ps : List Posted) → is_number qp ≡ true → All (IsSoundRequest regions domain) ps → All (λ p. IsLawfulEntry (done_request qp p)) ps
all-done regions domain qp [] number all = All-nil (λ p. IsLawfulEntry (done_request qp p))
all-done regions domain qp (p ∷ ps) number all = All-cons (λ q. IsLawfulEntry (done_request qp q)) p ps (entry-request qp p _ p.request.shape.length number (All-head (IsSoundRequest regions domain) p ps all).length') (all-done regions domain qp ps number (All-tail (IsSoundRequest regions domain) p ps all))

pub entries-told : (regions : List Region) (domain : Name) (qp : ℕ) (t : Terms) (s : Sender) → is_number qp ≡ true → All (IsSoundRequest regions domain) s.untold → All IsLawfulEntry (told_completions qp t s)
unfolding told_completions
entries-told regions domain qp t s number all =
    All-mapped IsLawfulEntry (done_request qp) _
    (All-filter (λ p. p.request.signaled) (λ p. IsLawfulEntry (done_request qp p)) (take (told_count t s) s.untold)
    (All-take (λ p. IsLawfulEntry (done_request qp p)) (told_count t s) s.untold (all-done regions domain qp s.untold number all)))

pub length-told : (qp : ℕ) (t : Terms) (s : Sender) → length (told_completions qp t s) + length (drop (told_count t s) s.untold) ≤ length s.untold
unfolding told_completions
length-told qp t s =
    let m = length-map (filter (λ (p : Posted). p.request.signaled) (take (told_count t s) s.untold)) (done_request qp) in
    let f = length-filter_few (λ (p : Posted). p.request.signaled) (take (told_count t s) s.untold) in
    let a = length-take (told_count t s) s.untold in
    let b = length-drop (told_count t s) s.untold in
    omega (arith, m, f, a, b)
