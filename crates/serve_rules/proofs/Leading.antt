-- A turn is a list of events.
use Rattle.std.proofs.Common.{◌≡◌, ◌∙◌, ℕ, zero, suc, Bool, true, false, List, [], ◌∷◌, ◌++◌, Option, Some, None, All, refl, sym, ap, subst, append_assoc, if◌then◌else◌}
use Rattle.std.proofs.lemmas.List.Elements.{All-nil, All-cons, All-head, All-tail}
use Rattle.std.specs.Prelude.{nat_eq}
use Rattle.indexmap.specs.IndexMap.{insert_entry}
use Rattle.std.specs.List.{list_any}
use Rattle.device_core.specs.Numbered.{numbered_view}
use Rattle.host_ports.specs.Links.{Addressed}
use Rattle.law_arrivals.specs.Turns.{IsOfTurn}
use Rattle.protocol.specs.Bytes.{number_at}
use Rattle.protocol.specs.declared.events.Event.{Event}
use Rattle.protocol.specs.declared.events.Event.TheVariants as event
use Rattle.protocol.specs.DeviceStep.{device_step}
use Rattle.protocol.specs.Replay.{replay}
use Rattle.protocol.specs.State.{Device}
use Rattle.rdma_types.specs.declared.answers.Answer.{Answer}
use Rattle.rdma_types.specs.declared.answers.EndView.{EndView}
use Rattle.rdma_types.specs.declared.answers.Sent.{Sent}
use Rattle.rdma_types.specs.declared.requests.Address.{Address}
use Rattle.serve_rules.specs.declared.timers.Due.{Due}
use Rattle.serve_rules.specs.declared.timers.Due.TheVariants as due_is
use Rattle.serve_rules.specs.declared.timers.Timer.{Timer}
use Rattle.serve_rules.specs.Timers as timers
use Rattle.serve_rules.specs.Timers.{is_resuming}
use Rattle.serve_rules.specs.Laws.{ATurnIsEvents, AreEvents, arrivals}
use Rattle.serve_rules.specs.Server.{Server, after, due_of, may_send, observed, outcome_of, queued, resumed, spent, stepped, with_timer, without_timer, woken}
use Rattle.serve_rules.specs.Turns.{all_expired, arrived, arrived_first, arrived_many, arrived_next, counted, due_in, expired_at, expired_by, expired_due, expired_from, expired_once, is_crowded, is_heard, noted, sent_by, sent_first, sent_from, sent_if, sent_many, sent_next, sent_once, sent_view, transmitted, turned, woken_if}

-- ---- lists of events

arrivals-append : (es fs : List Event) → arrivals (es ++ fs) ≡ arrivals es ++ arrivals fs
unfolding arrivals
arrivals-append [] fs = refl
arrivals-append (event.Arrive from bytes ∷ es) fs = ap (λ ds. (from, bytes) ∷ ds) (arrivals-append es fs)
arrivals-append (e ∷ es) fs = arrivals-append es fs

replay-append : (d : Device) (es fs : List Event) → replay d (es ++ fs) ≡ replay (replay d es) fs
unfolding replay
replay-append d [] fs = refl
replay-append d (e ∷ es) fs = replay-append (device_step d e).device es fs

all-append : (es fs : List Event) → All IsOfTurn es → All IsOfTurn fs → All IsOfTurn (es ++ fs)
all-append [] fs a b = b
all-append (e ∷ es) fs a b = All-cons IsOfTurn e (es ++ fs) (All-head IsOfTurn e es a) (all-append es fs (All-tail IsOfTurn e es a) b)

-- ---- leading

-- device and inbox are the same
abbrev Same : Server → Server → Type 0
Same s s' = (s'.device ≡ s.device) × (s'.inbox ≡ s.inbox)

same_on : (s t u : Server) → Same s t → Same t u → Same s u
same_on s t u a b = (b.0 ∙ a.0, b.1 ∙ a.1)

pub by_none : (s s' : Server) → Same s s' → AreEvents s s'
unfolding replay arrivals
by_none s s' a = record { events = []; of_turn = All-nil IsOfTurn; leads = a.0; arrive = sym a.1 }

pub by_both : (s t u : Server) → AreEvents s t → AreEvents t u → AreEvents s u
by_both s t u a b = record {
  events = a.events ++ b.events;
  of_turn = all-append a.events b.events a.of_turn b.of_turn;
  leads = b.leads ∙ ap (λ (d : Device). replay d b.events) a.leads ∙ sym (replay-append s.device a.events b.events);
  arrive = a.arrive ∙ ap (λ ds. arrivals a.events ++ ds) b.arrive ∙ sym (append_assoc (arrivals a.events) (arrivals b.events) u.inbox) ∙ ap (λ ds. ds ++ u.inbox) (sym (arrivals-append a.events b.events));
}

then_same : (s t u : Server) → AreEvents s t → Same t u → AreEvents s u
then_same s t u a b = by_both s t u a (by_none t u b)

same_then : (s t u : Server) → Same s t → AreEvents t u → AreEvents s u
same_then s t u a b = by_both s t u (by_none s t a) b

-- one event that is no arrival
by_event : (s : Server) (e : Event) → IsOfTurn e → arrivals (e ∷ []) ≡ [] → AreEvents s (after s e)
unfolding replay after
by_event s e of_turn none = record { events = e ∷ []; of_turn = All-cons IsOfTurn e [] of_turn (All-nil IsOfTurn); leads = refl; arrive = ap (λ ds. ds ++ s.inbox) (sym none) }

-- the first that was taken arrives
by_arrival : (s : Server) (d : Addressed) (ds : List Addressed) → s.inbox ≡ d ∷ ds → AreEvents s (after (record s { inbox = ds }) (event.Arrive d.0 d.1))
unfolding replay after arrivals
by_arrival s d ds e = record { events = event.Arrive d.0 d.1 ∷ []; of_turn = All-cons IsOfTurn (event.Arrive d.0 d.1) [] tt (All-nil IsOfTurn); leads = refl; arrive = e }

-- ---- what changes neither

pub woken_same : (s : Server) (n : ℕ) → Same s (woken s n)
unfolding woken
woken_same s n = by_test (list_any (λ x. nat_eq x n) s.ready)
  where
    by_test : (b : Bool) → Same s (if b then s else record s { ready = s.ready ++ n ∷ [] })
    by_test true = (refl, refl)
    by_test false = (refl, refl)

with_timer_same : (s : Server) (n : ℕ) (t : Timer) → Same s (with_timer s n t)
unfolding with_timer
with_timer_same s n t = by_test (timers.is_over t)
  where
    by_test : (b : Bool) → Same s (if b then without_timer s n else record s { timers = insert_entry nat_eq s.timers n t })
    by_test true = (refl, refl)
    by_test false = (refl, refl)

pub observed_same : (s : Server) (v : EndView) → Same s (observed s v)
unfolding observed
observed_same s v = with_timer_same s v.number _

resumed_same : (s : Server) (v : EndView) → Same s (resumed s v)
unfolding resumed
resumed_same s v = with_timer_same s v.number _

pub spent_same : (s : Server) (v : EndView) (d : Due) → Same s (spent s v d)
unfolding spent
spent_same s v d = with_timer_same s v.number _

queued_same : (s : Server) (sent : List Sent) → Same s (queued s sent)
unfolding queued
queued_same s sent = (refl, refl)

woken_if_same : (b : Bool) (s : Server) (n : ℕ) → Same s (woken_if b s n)
woken_if_same true s n = woken_same s n
woken_if_same false s n = (refl, refl)

noted_same : (s : Server) (a : Answer) (n : ℕ) → Same s (noted s a n)
unfolding noted
noted_same s a n = same_on s (counted s a) (woken_if (is_heard a) (counted s a) n) (refl, refl) (woken_if_same (is_heard a) (counted s a) n)

sent_view_same : (s : Server) (v : EndView) → Same s (sent_view s v)
unfolding sent_view
sent_view_same s v = by_test (is_resuming v.state)
  where
    by_test : (b : Bool) → Same s (woken (if b then resumed (observed s v) v else observed s v) v.number)
    by_test true =
        same_on s (resumed (observed s v) v) (woken (resumed (observed s v) v) v.number)
        (same_on s (observed s v) (resumed (observed s v) v) (observed_same s v) (resumed_same (observed s v) v))
        (woken_same (resumed (observed s v) v) v.number)
    by_test false = same_on s (observed s v) (woken (observed s v) v.number) (observed_same s v) (woken_same (observed s v) v.number)

pub sent_view_by : (s : Server) (v : EndView) → AreEvents (observed s v) (sent_view s v)
unfolding sent_view
sent_view_by s v = by_test (is_resuming v.state)
  where
    by_test : (b : Bool) → AreEvents (observed s v) (woken (if b then resumed (observed s v) v else observed s v) v.number)
    by_test true =
        by_none (observed s v) (woken (resumed (observed s v) v) v.number)
        (same_on (observed s v) (resumed (observed s v) v) (woken (resumed (observed s v) v) v.number)
        (resumed_same (observed s v) v) (woken_same (resumed (observed s v) v) v.number))
    by_test false = by_none (observed s v) (woken (observed s v) v.number) (woken_same (observed s v) v.number)

sent_by_same : (s : Server) (v : Option EndView) → Same s (sent_by s v)
sent_by_same s None = (refl, refl)
sent_by_same s (Some v) = sent_view_same s v

sent_if_same : (sent : List Sent) (s : Server) (n : ℕ) → Same s (sent_if sent s n)
sent_if_same [] s n = (refl, refl)
sent_if_same (x ∷ xs) s n = sent_by_same s (numbered_view s.device n)

-- ---- the parts of a turn

arrived_by : (s : Server) (d : Addressed) (ds : List Addressed) → s.inbox ≡ d ∷ ds → AreEvents s (arrived (record s { inbox = ds }) d.0 d.1)
unfolding arrived
arrived_by s d ds e =
    let left : Server = record s { inbox = ds } in
    let ev : Event = event.Arrive d.0 d.1 in
    let out = outcome_of left ev in
    let stepped' : Server = after left ev in
    let marked : Server = noted stepped' out.answer (number_at 5 3 d.1) in
    then_same s stepped' (queued marked out.sent) (by_arrival s d ds e)
    (same_on stepped' marked (queued marked out.sent) (noted_same stepped' out.answer (number_at 5 3 d.1)) (queued_same marked out.sent))

arrived_first_by : (s : Server) (ds : List Addressed) → s.inbox ≡ ds → AreEvents s (arrived_first s ds)
arrived_first_by s [] e = by_none s s (refl, refl)
arrived_first_by s (d ∷ ds) e = arrived_by s d ds e

arrived_next_by : (s : Server) → AreEvents s (arrived_next s)
unfolding arrived_next
arrived_next_by s = by_test (is_crowded s)
  where
    by_test : (b : Bool) → AreEvents s (if b then s else arrived_first s s.inbox)
    by_test true = by_none s s (refl, refl)
    by_test false = arrived_first_by s s.inbox refl

pub arrived_many_by : (k : ℕ) (s : Server) → AreEvents s (arrived_many k s)
unfolding arrived_many
arrived_many_by zero s = by_none s s (refl, refl)
arrived_many_by (suc k) s = by_both s (arrived_many k s) _ (arrived_many_by k s) (arrived_next_by (arrived_many k s))

pub stepped_by : (s : Server) (e : Event) → IsOfTurn e → arrivals (e ∷ []) ≡ [] → AreEvents s (stepped s e)
stepped_by s e of_turn none = then_same s (after s e) _ (by_event s e of_turn none) (queued_same (after s e) _)

no_arrival-transmit : (v : EndView) → arrivals (event.Transmit v.name ∷ []) ≡ []
unfolding arrivals
no_arrival-transmit v = refl

no_arrival-expire : (v : EndView) → arrivals (event.Expire v.name ∷ []) ≡ []
unfolding arrivals
no_arrival-expire v = refl

no_arrival-rnr : (v : EndView) → arrivals (event.RnrOver v.name ∷ []) ≡ []
unfolding arrivals
no_arrival-rnr v = refl

pub transmit_by : (s : Server) (v : EndView) → AreEvents s (stepped s (event.Transmit v.name))
transmit_by s v = stepped_by s (event.Transmit v.name) tt (no_arrival-transmit v)

pub transmitted_by : (s : Server) (v : EndView) → AreEvents s (transmitted s v)
unfolding transmitted
transmitted_by s v = then_same s (stepped s (event.Transmit v.name)) _ (transmit_by s v) (sent_if_same _ (stepped s (event.Transmit v.name)) v.number)

sent_once_by : (s : Server) (v : EndView) → AreEvents s (sent_once s v)
unfolding sent_once
sent_once_by s v = by_test (may_send (observed s v) v)
  where
    by_test : (b : Bool) → AreEvents s (if b then transmitted (observed s v) v else observed s v)
    by_test true = same_then s (observed s v) _ (observed_same s v) (transmitted_by (observed s v) v)
    by_test false = by_none s (observed s v) (observed_same s v)

sent_from_by : (s : Server) (n : ℕ) (v : Option EndView) → AreEvents s (sent_from s n v)
sent_from_by s n None = by_none s (without_timer s n) (refl, refl)
sent_from_by s n (Some v) = sent_once_by s v

sent_first_by : (s : Server) (ns : List ℕ) → AreEvents s (sent_first s ns)
sent_first_by s [] = by_none s s (refl, refl)
sent_first_by s (n ∷ ns) =
    let left : Server = record s { ready = ns } in
    same_then s left (sent_from left n (numbered_view left.device n)) (refl, refl) (sent_from_by left n (numbered_view left.device n))

pub sent_next_by : (s : Server) → AreEvents s (sent_next s)
unfolding sent_next
sent_next_by s = sent_first_by s s.ready

pub sent_many_by : (k : ℕ) (s : Server) → AreEvents s (sent_many k s)
unfolding sent_many
sent_many_by zero s = by_none s s (refl, refl)
sent_many_by (suc k) s = by_both s (sent_many k s) (sent_next (sent_many k s)) (sent_many_by k s) (sent_next_by (sent_many k s))

expired_by_by : (s : Server) (v : EndView) (d : Due) → AreEvents s (expired_by s v d)
expired_by_by s v due_is.Neither = by_none s s (refl, refl)
expired_by_by s v due_is.Resume = by_none s s (refl, refl)
expired_by_by s v due_is.Rnr = stepped_by s (event.RnrOver v.name) tt (no_arrival-rnr v)
expired_by_by s v due_is.Expiry = stepped_by s (event.Expire v.name) tt (no_arrival-expire v)

expired_due_by : (s : Server) (v : EndView) (d : Due) → AreEvents s (expired_due s v d)
expired_due_by s v d =
    same_then s (spent s v d) _ (spent_same s v d)
    (then_same (spent s v d) (expired_by (spent s v d) v d) _ (expired_by_by (spent s v d) v d) (woken_same (expired_by (spent s v d) v d) v.number))

pub expired_once_by : (s : Server) (v : EndView) → AreEvents s (expired_once s v)
unfolding expired_once
expired_once_by s v = same_then s (observed s v) _ (observed_same s v) (expired_due_by (observed s v) v (due_of (observed s v) v))

pub expired_from_by : (s : Server) (n : ℕ) (v : Option EndView) → AreEvents s (expired_from s n v)
expired_from_by s n None = by_none s (without_timer s n) (refl, refl)
expired_from_by s n (Some v) = expired_once_by s v

pub all_expired_by : (s : Server) (ns : List ℕ) → AreEvents s (all_expired s ns)
unfolding all_expired
all_expired_by s [] = by_none s s (refl, refl)
all_expired_by s (n ∷ ns) =
    let next : Server = expired_from s n (numbered_view s.device n) in
    by_both s next (all_expired next ns) (expired_from_by s n (numbered_view s.device n)) (all_expired_by next ns)

-- a turn is events
pub a_turn_is_events : ATurnIsEvents
unfolding turned expired_at
a_turn_is_events s now =
    let arrived' : Server = arrived_many 64 s in
    let asked : Server = record arrived' { clock = now } in
    let sent' : Server = sent_many 64 asked in
    by_both s sent' (all_expired sent' (due_in sent'.clock sent'.timers)) (by_both s asked sent' (then_same s arrived' asked (arrived_many_by 64 s) (refl, refl)) (sent_many_by 64 asked))
    (all_expired_by sent' (due_in sent'.clock sent'.timers))
