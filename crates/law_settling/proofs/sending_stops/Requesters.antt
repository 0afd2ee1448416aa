-- What an answer leaves of the end that takes it.
use Rattle.std.proofs.Common.{arith, ◌≡◌, ◌≤◌, ◌<◌, ◌+◌, ◌-◌, ◌⊎◌, ℕ, suc, List, [], drop, true, false, Bool, refl, sym, ap, ◌∙◌, subst, inl, inr}
use Rattle.std.specs.Prelude.{Option, Some, None, if◌then◌else◌, ◌==◌, ◌&&◌, ◌||◌, not, nat_le, nat_lt, min, max}
use Rattle.std.proofs.lemmas.Bool.Decides.{nat_tests, leb_tells}
use Rattle.rdma_types.specs.declared.requests.WcStatus.{WcStatus}
use Rattle.rdma_types.specs.declared.requests.WcStatus.TheVariants as status
use Rattle.rdma_types.specs.declared.answers.ArrivalEffect.TheVariants as took
use Rattle.rdma_types.specs.declared.answers.DropReason.TheVariants as why
use Rattle.rdma_types.specs.Lists.{named, store_named}
use Rattle.rdma_types.specs.Objects.{Posted}
use Rattle.rdma_types.specs.Spans.{Piece, end_number, piece_at, first_number, request_of}
use Rattle.rdma_types.specs.declared.requests.Terms.{Terms}
use Rattle.rdma_types.proofs.Numbers.{split}
use Rattle.protocol.specs.declared.wire.Aeth.{Aeth}
use Rattle.protocol.specs.declared.wire.Syndrome.{Syndrome}
use Rattle.protocol.specs.declared.wire.Syndrome.TheVariants.{Ack, Rnr, Nak}
use Rattle.protocol.specs.Numbers.{unwrap_near}
use Rattle.protocol.specs.State.{Link, End, Context, Sender, no_end}
use Rattle.protocol.specs.Wire.{Packet, is_request, is_read_response}
use Rattle.protocol.specs.EndWords.{EndStep, stays, silent, linked, completing, with_end, with_link, with_queue, with_unused, with_sender}
use Rattle.protocol.specs.Requester as requester
use Rattle.protocol.specs.Requester.{end_of_queue, advanced, acknowledged, rewound, after_telling, told_count, telling, ended_with, ended_link, waited, waiting}
use Rattle.protocol.specs.Moves.{control_of}
use Rattle.protocol.specs.EndStep.{takes, takes_kind}
use Rattle.law_simulation.proofs.relation.Tables.{named-store_same}
use Rattle.law_simulation.proofs.sending.GoPieces.{piece_at-drop}
use Rattle.law_settling.proofs.weights.Numbers.{told_end}
use Rattle.law_settling.proofs.sending_stops.Turns.{IsFurther, IsTurned, WentOn}

-- no NAK
abbrev pub NoNak : Packet → Type 0
NoNak d = (h : Aeth) (code : ℕ) → d.aeth ≡ Some h → h.syndrome ≡ Nak code → ⊥

on_max : (a n : ℕ) → (max a n ≤ a) ⊎ (max a n ≤ n)
on_max a n = by_test (nat_le n a) refl
  where
    by_test : (b : Bool) → nat_le n a ≡ b → (max a n ≤ a) ⊎ (max a n ≤ n)
    by_test true t = let le : n ≤ a = grind (arith, nat_tests, leb_tells n a, t) in inl (omega (arith, le))
    by_test false t = let lt : a < n = grind (arith, nat_tests, leb_tells n a, t) in inr (omega (arith, lt))

-- ---- a requester with the same queue, before it tells

record Steps (Back : Type 0) (s s' : Sender) : Type 0 where
  untold : s'.untold ≡ s.untold
  first : s'.first ≡ s.first
  wait : s'.rnr_wait ≡ s.rnr_wait
  una : s.una ≤ s'.una
  next : WentOn s s' ⊎ (Back × (s'.next ≤ s'.una))

stays_same : (Back : Type 0) (s : Sender) → Steps Back s s
stays_same Back s = record { untold = refl; first = refl; wait = refl; una = omega arith; next = inl (omega arith, inl (omega arith)) }

advances : (Back : Type 0) (s : Sender) (n : ℕ) → Steps Back s (advanced s n)
unfolding advanced
advances Back s n = by_test (nat_lt s.una n) refl
  where
    by_test : (b : Bool) → nat_lt s.una n ≡ b → Steps Back s (if b then record s { una = n; spent = 0; waits = 0; next = max s.next n } else s)
    by_test true t = let less : s.una < n = grind (arith, nat_tests, leb_tells (suc s.una) n, t) in record { untold = refl; first = refl; wait = refl; una = omega (arith, less); next = inl (omega arith, on_max s.next n) }
    by_test false t = stays_same Back s

rewinds : (Back : Type 0) (s s' : Sender) → Back → Steps Back s s' → Steps Back s (rewound s')
unfolding rewound
rewinds Back s s' back h = record { untold = h.untold; first = h.first; wait = h.wait; una = h.una; next = inr (back, omega arith) }

-- ---- telling

queue_is : (terms : Terms) (s s' : Sender) → s'.untold ≡ s.untold → s'.first ≡ s.first → end_of_queue terms s' ≡ end_of_queue terms s
unfolding end_of_queue
queue_is terms s s' untold first = λ i. first i + end_number (untold i) terms.mtu

cut_pieces : (ps : List Posted) (mtu first una n : ℕ) → una ≤ n → piece_at (drop (request_of ps mtu (una - first)) ps) mtu (n - (first + first_number ps mtu (request_of ps mtu (una - first)))) ≡ piece_at ps mtu (n - first)
cut_pieces ps mtu first una n h =
    let k : ℕ = request_of ps mtu (una - first) in
    let low : first_number ps mtu k ≤ una - first = omega (arith, split ps mtu (una - first)) in
    let place : first_number ps mtu k + (n - (first + first_number ps mtu k)) ≡ n - first = omega (arith, low, h) in
    sym (piece_at-drop ps mtu k (n - (first + first_number ps mtu k))) ∙ ap (piece_at ps mtu) place

module _ (Back : Type 0) (l : Link) where
  told : (s : Sender) → Steps Back l.sender s → IsFurther Back l (with_sender l (after_telling l.terms s))
  unfolding with_sender after_telling
  told s h = record {
    ended = refl;
    wait = h.wait;
    peer = refl;
    terms = refl;
    moving = refl;
    end = told_end l.terms s ∙ queue_is l.terms l.sender s h.untold h.first;
    una = h.una;
    pieces = λ n le. cut_pieces s.untold l.terms.mtu s.first s.una n le ∙ λ i. piece_at (h.untold i) l.terms.mtu (n - h.first i);
    next = h.next;
  }

-- ---- the end in the context after a step

module _ (Back : Type 0) (c : Context) (e : End) (l : Link) (there : (named (λ z. z.name) no_end e.name c.ends).link ≡ Some l) where
  -- the end is there with a link that is turned
  pub record Turned (s : EndStep) : Type 0 where
    pub link : Link
    pub linked : (named (λ z. z.name) no_end e.name s.context.ends).link ≡ Some link
    pub turned : IsTurned Back l link
    pub steady : (link.ended ≡ true) ⊎ (link.moving ≡ l.moving)
    pub over : l.ended ≡ true → link.ended ≡ true

  if_turned : (b : Bool) (s t : EndStep) → Turned s → Turned t → Turned (if b then s else t)
  if_turned true s t h g = h
  if_turned false s t h g = g

  test_turned : (b : Bool) (s t : EndStep) → (b ≡ true → Turned s) → (b ≡ false → Turned t) → Turned (if b then s else t)
  test_turned true s t h g = h refl
  test_turned false s t h g = g refl

  same_link : IsFurther Back l l
  same_link = record { ended = refl; wait = refl; peer = refl; terms = refl; moving = refl; end = refl; una = omega arith; pieces = λ n le. refl; next = inl (omega arith, inl (omega arith)) }

  still : (s : EndStep) → s.context ≡ c → Turned s
  still s is = record { link = l; linked = ap (λ z. (named (λ y. y.name) no_end e.name z.ends).link) is ∙ there; turned = inr same_link; steady = inr refl; over = λ h. h }

  -- the end is stored with another link
  stored : (s : EndStep) (c0 : Context) (e0 : End) (l' : Link) → s.context.ends ≡ (linked c0 e0 l').ends → e0.name ≡ e.name → IsTurned Back l l' → (l'.ended ≡ true) ⊎ (l'.moving ≡ l.moving) → (l.ended ≡ true → l'.ended ≡ true) → Turned s
  unfolding with_end with_link
  stored s c0 e0 l' ends name turned steady over = record {
    link = l';
    linked = ap (λ es. (named (λ y. y.name) no_end e.name es).link) (ends ∙ ap (λ k. store_named (λ y. y.name) k (with_link e0 l') c0.ends) name) ∙ ap (λ z. z.link) (named-store_same (λ y. y.name) no_end e.name (with_link e0 l') c0.ends name);
    turned = turned;
    steady = steady;
    over = over;
  }

  tells : (c0 : Context) (s : Sender) (t : _) → IsTurned Back l (with_sender l (after_telling l.terms s)) → Turned (stays (telling c0 e l s) t)
  unfolding telling completing with_queue with_sender
  tells c0 s t turned = stored (stays (telling c0 e l s) t) c0 e (with_sender l (after_telling l.terms s)) refl refl turned (inr refl) (λ h. h)

  tells_steps : (c0 : Context) (s : Sender) (t : _) → Steps Back l.sender s → Turned (stays (telling c0 e l s) t)
  tells_steps c0 s t h = tells c0 s t (inr (told Back l s h))

  -- the end goes to Error
  fails : (s : Sender) (st : WcStatus) → Turned (requester.ends_after c e l s st)
  unfolding with_sender ended_with ended_link with_unused completing with_queue with_end with_link
  fails s st = stored (requester.ends_after c e l s st) c (with_unused e []) (ended_link (with_sender l (after_telling l.terms s))) refl refl (inl (inl refl)) (inl refl) (λ h. refl)

  module _ (d : Packet) where
    goes_back : (s : Sender) → Back → Steps Back l.sender s → Turned (requester.goes_back c e l s)
    goes_back s back h = tells_steps c (rewound s) took.Rewound (rewinds Back l.sender s back h)

    moved : (s : Sender) → Steps Back l.sender s → Turned (requester.moved_or_useless l s c (telling c e l s))
    moved s h = if_turned (nat_lt l.sender.una s.una) (stays (telling c e l s) took.Acked) (requester.useless c) (tells_steps c s took.Acked h) (still _ refl)

    acked : (n : ℕ) → Steps Back l.sender (acknowledged l n)
    acked n = advances Back l.sender (min n (requester.barrier l.terms l.sender))

    refusal : (n : ℕ) (st : WcStatus) → Back → Turned (requester.takes_refusal c e l (acknowledged l n) n st)
    unfolding requester.takes_refusal
    refusal n st back = if_turned ((acknowledged l n).una == n) (requester.ends_after c e l (acknowledged l n) st) (requester.goes_back c e l (acknowledged l n)) (fails (acknowledged l n) st) (goes_back (acknowledged l n) back (acked n))

    nak : (n code : ℕ) → Back → Turned (requester.takes_nak c e l n code)
    unfolding requester.takes_nak
    nak n code back =
        if_turned (code == 0) (requester.goes_back c e l (acknowledged l n)) _ (goes_back (acknowledged l n) back (acked n))
        (if_turned (code == 1) _ _ (refusal n status.RemoteInvalid back)
        (if_turned (code == 2) _ (requester.useless c) (refusal n status.RemoteAccess back) (still _ refl)))

    waits_again : (s : Sender) → Turned (requester.waits_again c e l (waited s))
    unfolding requester.waits_again with_sender after_telling
    waits_again s =
        if_turned (not (l.terms.rnr == 7) && (waited s).waits == l.terms.rnr + 1) (requester.ends_after c e l (waited s) status.RnrExceeded) (stays (telling c e l (waiting (waited s))) took.Waits)
        (fails (waited s) status.RnrExceeded)
        (tells c (waiting (waited s)) took.Waits (inl (inr (inl refl))))

    rnr : (n : ℕ) → Turned (requester.takes_rnr c e l (acknowledged l n) n)
    unfolding requester.takes_rnr
    rnr n = if_turned ((acknowledged l n).una == n) _ _ (waits_again (acknowledged l n)) (moved (acknowledged l n) (acked n))

    syndrome : (n : ℕ) (s : Syndrome) → ((code : ℕ) → s ≡ Nak code → Back) → Turned (requester.takes_syndrome c e l n s)
    unfolding requester.takes_ack
    syndrome n Ack back = moved (acknowledged l (n + 1)) (acked (n + 1))
    syndrome n Rnr back = if_turned l.sender.rnr_wait (requester.useless c) _ (still _ refl) (rnr n)
    syndrome n (Nak code) back = nak n code (back code refl)

    aeth : (n : ℕ) (h : Option Aeth) → ((x : Aeth) (code : ℕ) → h ≡ Some x → x.syndrome ≡ Nak code → Back) → Turned (requester.takes_aeth c e l n h)
    aeth n None back = still _ refl
    aeth n (Some h) back = if_turned (nat_le l.sender.una n && nat_lt n l.sender.top) _ (requester.useless c) (syndrome n h.syndrome (λ code t. back h code refl t)) (still _ refl)

    piece : (n : ℕ) (o : Option Piece) → Turned (requester.takes_piece c e l d n o)
    unfolding requester.takes_piece
    piece n None = still _ refl
    piece n (Some x) =
        if_turned (requester.is_this_piece l d x) (stays (telling (requester.landing c l d x) e l (advanced l.sender (n + 1))) took.Landed) (requester.useless c)
        (tells_steps (requester.landing c l d x) (advanced l.sender (n + 1)) took.Landed (advances Back l.sender (n + 1)))
        (still _ refl)

    response : (o : Option ℕ) → ((x : Aeth) (code : ℕ) → d.aeth ≡ Some x → x.syndrome ≡ Nak code → Back) → Turned (requester.response_at c e l d o)
    unfolding requester.takes_landing
    response None back = still _ refl
    response (Some n) back =
        if_turned (is_read_response d.opcode || d.opcode == 0x12) _ _
        (if_turned (n == requester.barrier l.terms l.sender && nat_lt n l.sender.top) (requester.takes_piece c e l d n (piece_at l.sender.untold l.terms.mtu (n - l.sender.first))) (requester.useless c) (piece n _) (still _ refl))
        (aeth n d.aeth back)

    other : (b : Bool) (x : EndStep) → b ≡ false → ((y : Aeth) (code : ℕ) → d.aeth ≡ Some y → y.syndrome ≡ Nak code → Back) → Turned (if b then x else requester.takes_response c e l d)
    unfolding requester.takes_response
    other true x h back = absurd (cc)
    other false x h back = response (unwrap_near l.terms.own_start d.psn l.sender.una) back

    -- an end that takes an answer is turned
    pub answered : control_of d ≡ None → is_request d.opcode ≡ false → ((x : Aeth) (code : ℕ) → d.aeth ≡ Some x → x.syndrome ≡ Nak code → Back) → Turned (takes c e l d)
    unfolding takes
    answered none response' back = if_turned l.ended (silent c why.Ended) (takes_kind c e l d (control_of d)) (still _ refl) (subst (λ m. Turned (takes_kind c e l d m)) (sym none) (other (is_request d.opcode) _ response' back))
