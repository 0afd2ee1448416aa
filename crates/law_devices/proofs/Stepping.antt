-- Transmissions, expiries, ends of RNR timers and connections keep a device sound.
use Rattle.std.proofs.Common.{arith, ◌≡◌, ◌≢◌, ◌⊎◌, ◌≤◌, ◌<◌, ◌+◌, ◌-◌, ◌^◌, ℕ, zero, suc, List, [], ◌∷◌, length, true, false, Bool, refl, sym, ap, ◌∙◌, inl, inr, subst}
use Rattle.std.specs.Prelude.{All, bytes_eq, Option, Some, None, if◌then◌else◌, max, nat_lt, nat_le, not, ◌==◌, ◌&&◌, ◌||◌}
use Rattle.std.proofs.lemmas.Bool.Decides.{nat_tests}
use Rattle.std.proofs.lemmas.List.Elements.{All-nil}
use Rattle.rdma_types.specs.declared.answers.Answer.TheVariants as answer
use Rattle.rdma_types.specs.declared.answers.ExpiryIgnored.{ExpiryIgnored}
use Rattle.rdma_types.specs.declared.answers.ExpiryIgnored.TheVariants as not_why
use Rattle.rdma_types.specs.declared.names.Name.{Name}
use Rattle.rdma_types.specs.declared.requests.Address.{Address}
use Rattle.rdma_types.specs.declared.requests.Terms.{Terms}
use Rattle.rdma_types.specs.declared.requests.WcStatus.TheVariants as status
use Rattle.rdma_types.specs.Kinds.{lands}
use Rattle.rdma_types.specs.Limits.{AreTerms, most_kept, number_limit, window}
use Rattle.rdma_types.specs.Objects.{Posted}
use Rattle.rdma_types.specs.Spans.{Piece, next_landing, piece_at}
use Rattle.protocol.specs.DeviceStep.{Step, answers, at_link, connects, counts, expires, expires_by, rnr_over, sends_by, sends_piece, transmits, waits_out, with_context}
use Rattle.protocol.specs.EndWords.{in_use_by, is_paused, is_resuming, linked, with_end, with_link, with_sender, with_unused}
use Rattle.protocol.specs.Memory.{untold_of}
use Rattle.protocol.specs.Refusals.{count_if, has_queue, is_init, reserved_by}
use Rattle.protocol.specs.Requester.{IsFenced, IsIdle, ReadsAreFull, Sends, SendsResume, Transmission, Waits, WindowIsFull, barrier, counted, end_of_queue, ended_with, going_to, next_transmission, not_counted, packets_in_flight, past, reads_in_flight, transmission, transmitted, waited_out}
use Rattle.protocol.specs.State.{Context, Device, End, Link, NoMessage, Sender, fresh_link, queue_at}
use Rattle.law_devices.specs.Sound.{AreCounted, HasNoneInError, IsInFirst, IsSoundContext, IsSoundDevice, IsSoundLink, IsSoundReceive, IsSoundRequest, load_of, plans}
use Rattle.law_devices.proofs.Ends.{Stays, bytes-none, counted-same, device-with, follow, follow-link, follows-stays, link-sender}
use Rattle.law_devices.proofs.Rooms.{IsHere, Steps, end-sound, ends-numbered, stepped-sound}
use Rattle.law_devices.proofs.Senders.{empties, rewinds, sends}
use Rattle.law_devices.proofs.Working as working
use Rattle.law_devices.proofs.Working.{linked-sound}

-- ---- what is sent

-- why a packet is sent
pub record IsSent (l : Link) (x : Piece) : Type 0 where
  pub alive : l.ended ≡ false
  pub piece : piece_at l.sender.untold l.terms.mtu (l.sender.next - l.sender.first) ≡ Some x
  pub free : x.posted.request.fence ≡ true → x.k ≡ 0 → l.sender.next ≤ l.sender.first + next_landing l.sender.untold l.terms.mtu (l.sender.una - l.sender.first)

not-less : (a b : ℕ) → nat_lt a b ≡ false → b ≤ a
not-less a b h = grind (arith, nat_tests, h)

same_number : (n : ℕ) → n ≡ 0 → (n == 0) ≡ true
same_number n h = grind (arith, nat_tests, h)

next-sent : (t : Terms) (s : Sender) (o : Option Piece) (x : Piece) → next_transmission t s o ≡ Sends x → (o ≡ Some x) × (x.posted.request.fence ≡ true → x.k ≡ 0 → s.next ≤ s.first + next_landing s.untold t.mtu (s.una - s.first))
unfolding next_transmission barrier
next-sent t s None x h = absurd (cc)
next-sent t s (Some y) x h = by_reads (lands y.posted.request.shape.kind && nat_le t.reads (reads_in_flight s.untold t.mtu s.first s.una s.next)) h
  where
    held : (f k b : Bool) → (f && (k && b)) ≡ false → f ≡ true → k ≡ true → b ≡ false
    held true true b h p q = h
    held true false b h p q = absurd (cc)
    held false k b h p q = absurd (cc)

    by_fence : (b : Bool) → (y.posted.request.fence && (y.k == 0 && nat_lt (s.first + next_landing s.untold t.mtu (s.una - s.first)) s.next)) ≡ b → (if b then IsFenced else Sends y) ≡ Sends x → (◌≡◌ {A = Option Piece} (Some y) (Some x)) × (x.posted.request.fence ≡ true → x.k ≡ 0 → s.next ≤ s.first + next_landing s.untold t.mtu (s.una - s.first))
    by_fence true e g = absurd (cc)
    by_fence false e g =
        let same : y ≡ x = cc in
        (ap Some same, λ fence k. not-less (s.first + next_landing s.untold t.mtu (s.una - s.first)) s.next (held y.posted.request.fence (y.k == 0) _ e (ap (λ (z : Piece). z.posted.request.fence) same ∙ fence) (same_number y.k (ap (λ (z : Piece). z.k) same ∙ k))))

    by_reads : (b : Bool) → (if b then ReadsAreFull else if y.posted.request.fence && (y.k == 0 && nat_lt (s.first + next_landing s.untold t.mtu (s.una - s.first)) s.next) then IsFenced else Sends y) ≡ Sends x → (◌≡◌ {A = Option Piece} (Some y) (Some x)) × (x.posted.request.fence ≡ true → x.k ≡ 0 → s.next ≤ s.first + next_landing s.untold t.mtu (s.una - s.first))
    by_reads true g = absurd (cc)
    by_reads false g = by_fence _ refl g

pub is-sent : (l : Link) (x : Piece) → transmission l ≡ Sends x → IsSent l x
unfolding transmission
is-sent l x h = by_resume (not l.ended && is_resuming l.moving.phase) h
  where
    middle : (a b r : Bool) → (a || (b || r)) ≡ false → b ≡ false
    middle true b r h = absurd (cc)
    middle false true r h = absurd (cc)
    middle false false r h = refl

    by_last : (w : Bool) → l.ended ≡ false → (if w then WindowIsFull else next_transmission l.terms l.sender (piece_at l.sender.untold l.terms.mtu (l.sender.next - l.sender.first))) ≡ Sends x → IsSent l x
    by_last true alive g = absurd (cc)
    by_last false alive g = let n = next-sent l.terms l.sender (piece_at l.sender.untold l.terms.mtu (l.sender.next - l.sender.first)) x g in record { alive = alive; piece = n.0; free = n.1 }

    by_idle : (i : Bool) (w : Bool) → l.ended ≡ false → (if i then IsIdle else if w then WindowIsFull else next_transmission l.terms l.sender (piece_at l.sender.untold l.terms.mtu (l.sender.next - l.sender.first))) ≡ Sends x → IsSent l x
    by_idle true w alive g = absurd (cc)
    by_idle false w alive g = by_last w alive g

    by_wait : (b : Bool) → (is_paused l.moving.phase || (l.ended || l.sender.rnr_wait)) ≡ b → (i w : Bool) → (if b then Waits else if i then IsIdle else if w then WindowIsFull else next_transmission l.terms l.sender (piece_at l.sender.untold l.terms.mtu (l.sender.next - l.sender.first))) ≡ Sends x → IsSent l x
    by_wait true t i w g = absurd (cc)
    by_wait false t i w g = by_idle i w (middle (is_paused l.moving.phase) l.ended l.sender.rnr_wait t) g

    by_resume : (b : Bool) → (if b then SendsResume else if is_paused l.moving.phase || (l.ended || l.sender.rnr_wait) then Waits else if l.sender.next == end_of_queue l.terms l.sender then IsIdle else if nat_le window (packets_in_flight l.sender.untold l.terms.mtu l.sender.first l.sender.una l.sender.next) then WindowIsFull else next_transmission l.terms l.sender (piece_at l.sender.untold l.terms.mtu (l.sender.next - l.sender.first))) ≡ Sends x → IsSent l x
    by_resume true g = absurd (cc)
    by_resume false g = by_wait _ refl _ _ g

module _ (d : Device) (c : Context) (e : End) (sd : IsSoundDevice d) (s : IsSoundContext c) (counts' : AreCounted d c) (here : IsHere c e) where
  changes : (x : Context) → Stays c x → IsSoundDevice (with_context d x)
  changes x t = device-with d c x sd counts' t

  module _ (l : Link) (there : e.link ≡ Some l) where
    own : IsSoundLink (plans c.regions) e.domain e.send_depth l
    own = linked-sound c e l s here there

    -- ---- transmissions

    sent-stays : (x : Piece) → IsSent l x → Stays c (linked c e (transmitted l x))
    unfolding transmitted with_sender
    sent-stays x h =
        let numbers = sends l.terms.mtu l.sender.untold l.sender.first l.sender.una l.sender.next l.sender.top x own.sender.numbers own.oldest h.piece h.free in
        follows-stays c e l _ s here there
        (follow-link c e l c (with_sender l (going_to l.sender (past l.terms l.sender.next x))) s here (bytes-none c s)
        (link-sender (plans c.regions) e.domain e.send_depth l own h.alive (going_to l.sender (past l.terms l.sender.next x)) (record { fits = own.sender.fits; requests = own.sender.requests; numbers = numbers; spent = own.sender.spent; waits = own.sender.waits }) own.oldest)
        h.alive (omega arith) (omega arith))

    sends-good : (t : Transmission) → transmission l ≡ t → IsSoundDevice (sends_by d c e l t).device
    unfolding sends_piece
    sends-good SendsResume h = sd
    sends-good Waits h = sd
    sends-good IsIdle h = sd
    sends-good WindowIsFull h = sd
    sends-good ReadsAreFull h = sd
    sends-good IsFenced h = sd
    sends-good (Sends x) h = changes (linked c e (transmitted l x)) (sent-stays x (is-sent l x h))

    -- ---- expiries

    alive-counted : not_counted l ≡ None → l.ended ≡ false
    unfolding not_counted
    alive-counted h = by_test l.ended refl h
      where
        by_test : (b : Bool) → l.ended ≡ b → (if b then Some not_why.Ended else if is_paused l.moving.phase then Some not_why.Paused else if is_resuming l.moving.phase then Some not_why.Resuming else if l.sender.rnr_wait then Some not_why.Rnr else if l.sender.next == l.sender.una then Some not_why.Nothing else None) ≡ None → l.ended ≡ false
        by_test true t g = absurd (cc)
        by_test false t g = t

    counted-stays : l.ended ≡ false → (l.sender.spent == l.terms.retry) ≡ false → Stays c (linked c e (with_sender l (counted l.sender)))
    unfolding with_sender
    counted-stays alive some =
        follows-stays c e l _ s here there
        (follow-link c e l c (with_sender l (counted l.sender)) s here (bytes-none c s)
        (link-sender (plans c.regions) e.domain e.send_depth l own alive (counted l.sender) (record { fits = own.sender.fits; requests = own.sender.requests; numbers = rewinds l.terms.mtu l.sender.untold l.sender.first l.sender.una l.sender.next l.sender.top own.sender.numbers; spent = omega (arith, own.sender.spent, other l.sender.spent l.terms.retry some); waits = own.sender.waits }) own.oldest)
        alive (omega arith) (omega arith))
      where
        other : (a b : ℕ) → (a == b) ≡ false → a ≢ b
        other a b h = λ k. absurd (grind (arith, nat_tests, h, k))

    counts-good : l.ended ≡ false → IsSoundDevice (counts d c e l).device
    unfolding counts
    counts-good alive = by_test (l.sender.spent == l.terms.retry) refl
      where
        by_test : (b : Bool) → (l.sender.spent == l.terms.retry) ≡ b → IsSoundDevice (if b then answers (with_context d (ended_with c e l status.RetryExceeded)) answer.Spent else answers (with_context d (linked c e (with_sender l (counted l.sender)))) (answer.Expired (l.sender.spent + 1))).device
        by_test true t = changes _ (working.ended_good c e l s here there status.RetryExceeded)
        by_test false t = changes _ (counted-stays alive t)

    expires-good : (o : Option ExpiryIgnored) → not_counted l ≡ o → IsSoundDevice (expires_by d c e l o).device
    expires-good None h = counts-good (alive-counted h)
    expires-good (Some w) h = sd

    -- ---- ends of RNR timers

    no-unused : l.ended ≡ true → e.unused ≡ []
    no-unused = subst (λ o. HasNoneInError o e.unused) there (end-sound c e s.parts here).no_unused

    over-stays : Stays c (linked c e (with_sender l (waited_out l.sender)))
    unfolding with_sender with_end with_link with_unused
    over-stays =
        follows-stays c e l _ s here there
        (follow c e l c e.unused (with_sender l (waited_out l.sender)) s (bytes-none c s)
        (record { peer = own.peer; terms = own.terms; sender = record { fits = own.sender.fits; requests = own.sender.requests; numbers = own.sender.numbers; spent = own.sender.spent; waits = own.sender.waits }; oldest = own.oldest; receiver = own.receiver; no_untold = own.no_untold; no_message = own.no_message; not_resuming = own.not_resuming })
        (end-sound c e s.parts here).receives no-unused (omega arith) (omega arith) (omega arith))

    over-good : IsSoundDevice (waits_out d c e l).device
    over-good = by_test l.sender.rnr_wait
      where
        by_test : (b : Bool) → IsSoundDevice (if b then answers (with_context d (linked c e (with_sender l (waited_out l.sender)))) answer.Over else answers d answer.NotWaiting).device
        by_test true = changes _ over-stays
        by_test false = sd

  at-link : (o : Option Link) → e.link ≡ o → (step : Link → Step) → ((l : Link) → e.link ≡ Some l → IsSoundDevice (step l).device) → IsSoundDevice (at_link d o step).device
  at-link None h step good = sd
  at-link (Some l) h step good = good l h

  pub transmit-good : IsSoundDevice (transmits d c e).device
  unfolding transmits
  transmit-good = at-link e.link refl (λ l. sends_by d c e l (transmission l)) (λ l there. sends-good l there (transmission l) refl)

  pub expire-good : IsSoundDevice (expires d c e).device
  unfolding expires
  expire-good = at-link e.link refl (λ l. expires_by d c e l (not_counted l)) (λ l there. expires-good l there (not_counted l) refl)

  pub over-timer-good : IsSoundDevice (rnr_over d c e).device
  unfolding rnr_over
  over-timer-good = at-link e.link refl (λ l. waits_out d c e l) (λ l there. over-good l there)

  -- ---- connections

  init-link : (o : Option Link) → is_init o ≡ true → o ≡ None
  init-link None h = refl
  init-link (Some l) h = absurd (cc)

  fresh-sound : (peer : ℕ) (partner : Address) (t : Terms) → peer < 2 ^ 24 → AreTerms t → IsSoundLink (plans c.regions) e.domain e.send_depth (fresh_link peer partner t)
  fresh-sound peer partner t few terms = record {
    peer = few;
    terms = terms;
    sender = record { fits = omega arith; requests = All-nil (IsSoundRequest (plans c.regions) e.domain); numbers = empties t.mtu 0 (omega arith); spent = omega arith; waits = inl (omega arith) };
    oldest = λ p h. absurd (cc);
    receiver = record { expected = omega arith; msn = omega arith; in_progress = tt; few_kept = omega arith; kept_rise = λ i j k lt below. absurd (omega (arith, below)); kept_before = λ i x below. absurd (omega (arith, below)) };
    no_untold = λ h. absurd (cc);
    no_message = λ h. absurd (cc);
    not_resuming = λ h. absurd (cc);
  }

  fresh-steps : (peer : ℕ) (partner : Address) (t : Terms) → peer < 2 ^ 24 → AreTerms t → Steps c e (with_link e (fresh_link peer partner t)) (linked c e (fresh_link peer partner t))
  unfolding with_end with_link
  fresh-steps peer partner t few terms = record {
    name = refl;
    domains = refl;
    same_plans = refl;
    regions = s.parts.regions;
    queue_names = refl;
    queues = s.parts.queues;
    ends = refl;
    end_name = refl;
    number = refl;
    sound =
        let old = end-sound c e s.parts here in
        record {
          number = old.number;
          domain = old.domain;
          send_cq = old.send_cq;
          recv_cq = old.recv_cq;
          some_sends = old.some_sends;
          few_sends = old.few_sends;
          some_receives = old.some_receives;
          few_receives = old.few_receives;
          unused_fit = old.unused_fit;
          receives = old.receives;
          state = fresh-sound peer partner t few terms;
          no_unused = λ h. absurd (cc);
        };
  }

  fresh-room : (peer : ℕ) (partner : Address) (t : Terms) (n : Name) → e.link ≡ None → reserved_by n (with_link e (fresh_link peer partner t)) ≡ reserved_by n e
  unfolding reserved_by with_link
  fresh-room peer partner t n init = subst (λ o. reserved_by n (with_link e (fresh_link peer partner t)) ≡ reserved_by n (record e { link = o })) (sym init) refl

  pub connect-good : (peer : ℕ) (partner : Address) (t : Terms) → e.link ≡ None → peer < 2 ^ 24 → AreTerms t → IsSoundDevice (connects d c e peer partner t).device
  unfolding connects with_end
  connect-good peer partner t init few terms =
      let steps = fresh-steps peer partner t few terms in
      changes (linked c e (fresh_link peer partner t)) (record {
        sound = stepped-sound c e (with_link e (fresh_link peer partner t)) (linked c e (fresh_link peer partner t)) (λ n. 0) s here steps (λ n has. refl) (λ n has. omega (arith, fresh-room peer partner t n init)) (λ n has. omega (arith, s.room n has));
        counted = λ dd. counted-same dd c (linked c e (fresh_link peer partner t)) (ends-numbered c e (with_link e (fresh_link peer partner t)) (linked c e (fresh_link peer partner t)).ends here steps.ends steps.number) refl;
      })
