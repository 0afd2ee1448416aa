-- A turn is a list of events, and what they send waits to leave, behind what waited before.
use Rattle.std.proofs.Common.{◌≡◌, ◌∙◌, ℕ, zero, suc, Bool, true, false, List, [], ◌∷◌, ◌++◌, Option, Some, None, All, refl, sym, ap, append_assoc, if◌then◌else◌}
use Rattle.std.proofs.lemmas.List.{append-nil}
use Rattle.std.proofs.lemmas.List.Elements.{All-nil, All-cons, All-head, All-tail}
use Rattle.std.specs.Prelude.{nat_eq}
use Rattle.indexmap.specs.IndexMap.{insert_entry}
use Rattle.std.specs.List.{list_any}
use Rattle.device_core.specs.Numbered.{numbered_view}
use Rattle.host_ports.specs.Links.{Addressed}
use Rattle.law_arrivals.specs.Turns.{IsOfTurn}
use Rattle.protocol.specs.Bytes.{number_at}
use Rattle.protocol.specs.declared.events.Event.{Event}
use Rattle.protocol.specs.declared.events.Event.TheVariants as event
use Rattle.protocol.specs.DeviceStep.{device_step}
use Rattle.protocol.specs.Replay.{replay}
use Rattle.protocol.specs.State.{Device}
use Rattle.rdma_types.specs.declared.answers.Answer.{Answer}
use Rattle.rdma_types.specs.declared.answers.EndView.{EndView}
use Rattle.rdma_types.specs.declared.answers.Sent.{Sent}
use Rattle.serve_rules.specs.declared.timers.Due.{Due}
use Rattle.serve_rules.specs.declared.timers.Due.TheVariants as due_is
use Rattle.serve_rules.specs.declared.timers.Timer.{Timer}
use Rattle.serve_rules.specs.Timers as timers
use Rattle.serve_rules.specs.Timers.{is_resuming}
use Rattle.serve_rules.specs.Laws.{AreEvents, arrivals}
use Rattle.law_nodes.specs.Served.{sent_in}
use Rattle.serve_rules.specs.Server.{Server, after, due_of, may_send, observed, outcome_of, queued, resumed, spent, stepped, with_timer, without_timer, woken}
use Rattle.serve_rules.specs.Turns.{all_expired, arrived, arrived_first, arrived_many, arrived_next, counted, due_in, expired_at, expired_by, expired_due, expired_from, expired_once, is_crowded, is_heard, noted, sent_by, sent_first, sent_from, sent_if, sent_many, sent_next, sent_once, sent_view, transmitted, turned, woken_if}

-- events lead from one state to another, and what they send waits behind what waited before
pub record Led (s s' : Server) : Type 0 where
  pub of : AreEvents s s'
  pub sends : s'.outgoing ≡ s.outgoing ++ sent_in s.device of.events

-- ---- lists of events

arrivals-append : (es fs : List Event) → arrivals (es ++ fs) ≡ arrivals es ++ arrivals fs
unfolding arrivals
arrivals-append [] fs = refl
arrivals-append (event.Arrive from bytes ∷ es) fs = ap (λ ds. (from, bytes) ∷ ds) (arrivals-append es fs)
arrivals-append (e ∷ es) fs = arrivals-append es fs

replay-append : (d : Device) (es fs : List Event) → replay d (es ++ fs) ≡ replay (replay d es) fs
unfolding replay
replay-append d [] fs = refl
replay-append d (e ∷ es) fs = replay-append (device_step d e).device es fs

sent-append : (d : Device) (es fs : List Event) → sent_in d (es ++ fs) ≡ sent_in d es ++ sent_in (replay d es) fs
unfolding replay
sent-append d [] fs = refl
sent-append d (e ∷ es) fs = ap (λ ss. (device_step d e).outcome.sent ++ ss) (sent-append (device_step d e).device es fs) ∙ sym (append_assoc (device_step d e).outcome.sent (sent_in (device_step d e).device es) (sent_in (replay (device_step d e).device es) fs))

all-append : (es fs : List Event) → All IsOfTurn es → All IsOfTurn fs → All IsOfTurn (es ++ fs)
all-append [] fs a b = b
all-append (e ∷ es) fs a b = All-cons IsOfTurn e (es ++ fs) (All-head IsOfTurn e es a) (all-append es fs (All-tail IsOfTurn e es a) b)

-- ---- leading

-- device, inbox and what waits to leave are the same
record Same (s s' : Server) : Type 0 where
  device : s'.device ≡ s.device
  inbox : s'.inbox ≡ s.inbox
  outgoing : s'.outgoing ≡ s.outgoing

itself : (s : Server) → Same s s
itself s = record { device = refl; inbox = refl; outgoing = refl }

same_on : (s t u : Server) → Same s t → Same t u → Same s u
same_on s t u a b = record { device = b.device ∙ a.device; inbox = b.inbox ∙ a.inbox; outgoing = b.outgoing ∙ a.outgoing }

by_none : (s s' : Server) → Same s s' → Led s s'
unfolding replay arrivals
by_none s s' a = record { of = record { events = []; of_turn = All-nil IsOfTurn; leads = a.device; arrive = sym a.inbox }; sends = a.outgoing ∙ sym (append-nil s.outgoing) }

by_both : (s t u : Server) → Led s t → Led t u → Led s u
by_both s t u a b = record {
  of = record {
    events = a.of.events ++ b.of.events;
    of_turn = all-append a.of.events b.of.events a.of.of_turn b.of.of_turn;
    leads = b.of.leads ∙ ap (λ (d : Device). replay d b.of.events) a.of.leads ∙ sym (replay-append s.device a.of.events b.of.events);
    arrive = a.of.arrive ∙ ap (λ ds. arrivals a.of.events ++ ds) b.of.arrive ∙ sym (append_assoc (arrivals a.of.events) (arrivals b.of.events) u.inbox) ∙ ap (λ ds. ds ++ u.inbox) (sym (arrivals-append a.of.events b.of.events));
  };
  sends =
      b.sends ∙ ap (λ (d : Device). t.outgoing ++ sent_in d b.of.events) a.of.leads ∙ ap (λ ss. ss ++ sent_in (replay s.device a.of.events) b.of.events) a.sends
      ∙ append_assoc s.outgoing (sent_in s.device a.of.events) (sent_in (replay s.device a.of.events) b.of.events) ∙ ap (λ ss. s.outgoing ++ ss) (sym (sent-append s.device a.of.events b.of.events));
}

then_same : (s t u : Server) → Led s t → Same t u → Led s u
then_same s t u a b = by_both s t u a (by_none t u b)

same_then : (s t u : Server) → Same s t → Led t u → Led s u
same_then s t u a b = by_both s t u (by_none s t a) b

-- one event, whose datagrams wait
by_step : (s t : Server) (e : Event) → IsOfTurn e → t.device ≡ (device_step s.device e).device → s.inbox ≡ arrivals (e ∷ []) ++ t.inbox → t.outgoing ≡ s.outgoing ++ (device_step s.device e).outcome.sent → Led s t
unfolding replay
by_step s t e of_turn leads arrive sends = record {
  of = record { events = e ∷ []; of_turn = All-cons IsOfTurn e [] of_turn (All-nil IsOfTurn); leads = leads; arrive = arrive };
  sends = sends ∙ ap (λ ss. s.outgoing ++ ss) (sym (append-nil (device_step s.device e).outcome.sent));
}

-- ---- what changes none of these

woken_same : (s : Server) (n : ℕ) → Same s (woken s n)
unfolding woken
woken_same s n = by_test (list_any (λ x. nat_eq x n) s.ready)
  where
    by_test : (b : Bool) → Same s (if b then s else record s { ready = s.ready ++ n ∷ [] })
    by_test true = record { device = refl; inbox = refl; outgoing = refl }
    by_test false = record { device = refl; inbox = refl; outgoing = refl }

with_timer_same : (s : Server) (n : ℕ) (t : Timer) → Same s (with_timer s n t)
unfolding with_timer
with_timer_same s n t = by_test (timers.is_over t)
  where
    by_test : (b : Bool) → Same s (if b then without_timer s n else record s { timers = insert_entry nat_eq s.timers n t })
    by_test true = record { device = refl; inbox = refl; outgoing = refl }
    by_test false = record { device = refl; inbox = refl; outgoing = refl }

observed_same : (s : Server) (v : EndView) → Same s (observed s v)
unfolding observed
observed_same s v = with_timer_same s v.number _

resumed_same : (s : Server) (v : EndView) → Same s (resumed s v)
unfolding resumed
resumed_same s v = with_timer_same s v.number _

spent_same : (s : Server) (v : EndView) (d : Due) → Same s (spent s v d)
unfolding spent
spent_same s v d = with_timer_same s v.number _

woken_if_same : (b : Bool) (s : Server) (n : ℕ) → Same s (woken_if b s n)
woken_if_same true s n = woken_same s n
woken_if_same false s n = record { device = refl; inbox = refl; outgoing = refl }

noted_same : (s : Server) (a : Answer) (n : ℕ) → Same s (noted s a n)
unfolding noted
noted_same s a n = same_on s (counted s a) (woken_if (is_heard a) (counted s a) n) (record { device = refl; inbox = refl; outgoing = refl }) (woken_if_same (is_heard a) (counted s a) n)

sent_view_same : (s : Server) (v : EndView) → Same s (sent_view s v)
unfolding sent_view
sent_view_same s v = by_test (is_resuming v.state)
  where
    by_test : (b : Bool) → Same s (woken (if b then resumed (observed s v) v else observed s v) v.number)
    by_test true =
        same_on s (resumed (observed s v) v) (woken (resumed (observed s v) v) v.number)
        (same_on s (observed s v) (resumed (observed s v) v) (observed_same s v) (resumed_same (observed s v) v))
        (woken_same (resumed (observed s v) v) v.number)
    by_test false = same_on s (observed s v) (woken (observed s v) v.number) (observed_same s v) (woken_same (observed s v) v.number)

sent_by_same : (s : Server) (v : Option EndView) → Same s (sent_by s v)
sent_by_same s None = record { device = refl; inbox = refl; outgoing = refl }
sent_by_same s (Some v) = sent_view_same s v

sent_if_same : (sent : List Sent) (s : Server) (n : ℕ) → Same s (sent_if sent s n)
sent_if_same [] s n = record { device = refl; inbox = refl; outgoing = refl }
sent_if_same (x ∷ xs) s n = sent_by_same s (numbered_view s.device n)

-- ---- the parts of a turn

arrived_by : (s : Server) (d : Addressed) (ds : List Addressed) → s.inbox ≡ d ∷ ds → Led s (arrived (record s { inbox = ds }) d.0 d.1)
unfolding arrived queued after outcome_of arrivals
arrived_by s d ds e =
    let ev : Event = event.Arrive d.0 d.1 in
    let stepped' : Server = after (record s { inbox = ds }) ev in
    let marked = noted_same stepped' (device_step s.device ev).outcome.answer (number_at 5 3 d.1) in
    by_step s _ ev tt marked.device (e ∙ ap (λ xs. d ∷ xs) (sym marked.inbox)) (ap (λ ss. ss ++ (device_step s.device ev).outcome.sent) marked.outgoing)

arrived_first_by : (s : Server) (ds : List Addressed) → s.inbox ≡ ds → Led s (arrived_first s ds)
arrived_first_by s [] e = by_none s s (itself s)
arrived_first_by s (d ∷ ds) e = arrived_by s d ds e

arrived_next_by : (s : Server) → Led s (arrived_next s)
unfolding arrived_next
arrived_next_by s = by_test (is_crowded s)
  where
    by_test : (b : Bool) → Led s (if b then s else arrived_first s s.inbox)
    by_test true = by_none s s (itself s)
    by_test false = arrived_first_by s s.inbox refl

arrived_many_by : (k : ℕ) (s : Server) → Led s (arrived_many k s)
unfolding arrived_many
arrived_many_by zero s = by_none s s (itself s)
arrived_many_by (suc k) s = by_both s (arrived_many k s) _ (arrived_many_by k s) (arrived_next_by (arrived_many k s))

stepped_by : (s : Server) (e : Event) → IsOfTurn e → arrivals (e ∷ []) ≡ [] → Led s (stepped s e)
unfolding queued after outcome_of
stepped_by s e of_turn none = by_step s (stepped s e) e of_turn refl (ap (λ ds. ds ++ s.inbox) (sym none)) refl

no_arrival-transmit : (v : EndView) → arrivals (event.Transmit v.name ∷ []) ≡ []
unfolding arrivals
no_arrival-transmit v = refl

no_arrival-expire : (v : EndView) → arrivals (event.Expire v.name ∷ []) ≡ []
unfolding arrivals
no_arrival-expire v = refl

no_arrival-rnr : (v : EndView) → arrivals (event.RnrOver v.name ∷ []) ≡ []
unfolding arrivals
no_arrival-rnr v = refl

transmitted_by : (s : Server) (v : EndView) → Led s (transmitted s v)
unfolding transmitted
transmitted_by s v = then_same s (stepped s (event.Transmit v.name)) _ (stepped_by s (event.Transmit v.name) tt (no_arrival-transmit v)) (sent_if_same _ (stepped s (event.Transmit v.name)) v.number)

sent_once_by : (s : Server) (v : EndView) → Led s (sent_once s v)
unfolding sent_once
sent_once_by s v = by_test (may_send (observed s v) v)
  where
    by_test : (b : Bool) → Led s (if b then transmitted (observed s v) v else observed s v)
    by_test true = same_then s (observed s v) _ (observed_same s v) (transmitted_by (observed s v) v)
    by_test false = by_none s (observed s v) (observed_same s v)

sent_from_by : (s : Server) (n : ℕ) (v : Option EndView) → Led s (sent_from s n v)
sent_from_by s n None = by_none s (without_timer s n) (record { device = refl; inbox = refl; outgoing = refl })
sent_from_by s n (Some v) = sent_once_by s v

sent_first_by : (s : Server) (ns : List ℕ) → Led s (sent_first s ns)
sent_first_by s [] = by_none s s (itself s)
sent_first_by s (n ∷ ns) =
    let left : Server = record s { ready = ns } in
    same_then s left (sent_from left n (numbered_view left.device n)) (record { device = refl; inbox = refl; outgoing = refl }) (sent_from_by left n (numbered_view left.device n))

sent_many_by : (k : ℕ) (s : Server) → Led s (sent_many k s)
unfolding sent_many sent_next
sent_many_by zero s = by_none s s (itself s)
sent_many_by (suc k) s = by_both s (sent_many k s) _ (sent_many_by k s) (sent_first_by (sent_many k s) (sent_many k s).ready)

expired_by_by : (s : Server) (v : EndView) (d : Due) → Led s (expired_by s v d)
expired_by_by s v due_is.Neither = by_none s s (itself s)
expired_by_by s v due_is.Resume = by_none s s (itself s)
expired_by_by s v due_is.Rnr = stepped_by s (event.RnrOver v.name) tt (no_arrival-rnr v)
expired_by_by s v due_is.Expiry = stepped_by s (event.Expire v.name) tt (no_arrival-expire v)

expired_due_by : (s : Server) (v : EndView) (d : Due) → Led s (expired_due s v d)
expired_due_by s v d =
    same_then s (spent s v d) _ (spent_same s v d)
    (then_same (spent s v d) (expired_by (spent s v d) v d) _ (expired_by_by (spent s v d) v d) (woken_same (expired_by (spent s v d) v d) v.number))

expired_once_by : (s : Server) (v : EndView) → Led s (expired_once s v)
unfolding expired_once
expired_once_by s v = same_then s (observed s v) _ (observed_same s v) (expired_due_by (observed s v) v (due_of (observed s v) v))

expired_from_by : (s : Server) (n : ℕ) (v : Option EndView) → Led s (expired_from s n v)
expired_from_by s n None = by_none s (without_timer s n) (record { device = refl; inbox = refl; outgoing = refl })
expired_from_by s n (Some v) = expired_once_by s v

all_expired_by : (s : Server) (ns : List ℕ) → Led s (all_expired s ns)
unfolding all_expired
all_expired_by s [] = by_none s s (itself s)
all_expired_by s (n ∷ ns) =
    let next : Server = expired_from s n (numbered_view s.device n) in
    by_both s next (all_expired next ns) (expired_from_by s n (numbered_view s.device n)) (all_expired_by next ns)

-- a turn is such events
pub a_turn_leads : (s : Server) (now : ℕ) → Led s (turned s now)
unfolding turned expired_at
a_turn_leads s now =
    let arrived' : Server = arrived_many 64 s in
    let asked : Server = record arrived' { clock = now } in
    let sent' : Server = sent_many 64 asked in
    by_both s sent' (all_expired sent' (due_in sent'.clock sent'.timers)) (by_both s asked sent' (then_same s arrived' asked (arrived_many_by 64 s) (record { device = refl; inbox = refl; outgoing = refl })) (sent_many_by 64 asked))
    (all_expired_by sent' (due_in sent'.clock sent'.timers))
