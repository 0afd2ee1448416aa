-- What an answer leaves of the end that takes it: it waits for its RNR timer by an RNR NAK alone, and then at the number of that.
use Rattle.std.proofs.Common.{arith, ◌≡◌, ◌≤◌, ◌<◌, ◌+◌, ◌-◌, ◌⊎◌, ℕ, suc, List, [], drop, true, false, Bool, refl, sym, ap, ◌∙◌, subst, inl, inr}
use Rattle.std.specs.Prelude.{Option, Some, None, if◌then◌else◌, ◌==◌, ◌&&◌, ◌||◌, not, nat_le, nat_lt, min, max}
use Rattle.std.proofs.lemmas.Bool.Decides.{nat_tests, leb_tells}
use Rattle.rdma_types.specs.declared.requests.WcStatus.{WcStatus}
use Rattle.rdma_types.specs.declared.requests.WcStatus.TheVariants as status
use Rattle.rdma_types.specs.declared.answers.ArrivalEffect.TheVariants as took
use Rattle.rdma_types.specs.declared.answers.DropReason.TheVariants as why
use Rattle.rdma_types.specs.Lists.{named, store_named}
use Rattle.rdma_types.specs.Objects.{Posted}
use Rattle.rdma_types.specs.Spans.{Piece, first_number, piece_at, request_of}
use Rattle.rdma_types.proofs.Numbers.{split}
use Rattle.protocol.specs.declared.wire.Aeth.{Aeth}
use Rattle.protocol.specs.declared.wire.Syndrome.{Syndrome}
use Rattle.protocol.specs.declared.wire.Syndrome.TheVariants.{Ack, Rnr, Nak}
use Rattle.protocol.specs.Numbers.{unwrap_near, wire_number}
use Rattle.protocol.specs.State.{Link, End, Context, Sender, no_end}
use Rattle.protocol.specs.Wire.{Packet, is_request, is_read_response}
use Rattle.protocol.specs.EndWords.{EndStep, stays, silent, is_paused, linked, completing, with_end, with_link, with_queue, with_unused, with_sender}
use Rattle.protocol.specs.Requester as requester
use Rattle.protocol.specs.Requester.{advanced, acknowledged, rewound, after_telling, telling, ended_with, ended_link, waited, waiting}
use Rattle.protocol.specs.Responder.{takes_request}
use Rattle.protocol.specs.Moves.{control_of}
use Rattle.protocol.specs.EndStep.{takes, takes_kind}
use Rattle.protocol.proofs.NearNumbers.{known}
use Rattle.law_simulation.proofs.relation.Tables.{named-store_same}
use Rattle.law_simulation.proofs.sending.GoPieces.{piece_at-drop}
use Rattle.law_settling.proofs.sending_stops.Turns.{piece_with}
use Rattle.law_settling.proofs.lacks_receive.Kept.{IsEndKept, IsLinkKept, IsLinkMoved, linked_of, link_kept_same, linked_same}
use Rattle.law_settling.proofs.lacks_receive.Tests.{equal_is}

-- ---- the end in the context after a step

module _ (c : Context) (e : End) (l : Link) (there : named (λ z. z.name) no_end e.name c.ends ≡ e) (here : e.link ≡ Some l) (Q : Link → Type 0) where
  -- the end is there, kept as a responder, and Q holds of its link
  pub record IsAnswerTaken (s : EndStep) : Type 0 where
    pub end : End
    pub found : named (λ z. z.name) no_end e.name s.context.ends ≡ end
    pub kept : IsEndKept e end
    pub link : Link
    pub linked : end.link ≡ Some link
    pub holds : Q link

  if_taken : (b : Bool) (s t : EndStep) → IsAnswerTaken s → IsAnswerTaken t → IsAnswerTaken (if b then s else t)
  if_taken true s t h g = h
  if_taken false s t h g = g

  test_taken : (b : Bool) (s t : EndStep) → (b ≡ true → IsAnswerTaken s) → (b ≡ false → IsAnswerTaken t) → IsAnswerTaken (if b then s else t)
  test_taken true s t h g = h refl
  test_taken false s t h g = g refl

  still : Q l → (s : EndStep) → s.context ≡ c → IsAnswerTaken s
  still q s is = record {
    end = e;
    found = ap (λ z. named (λ y. y.name) no_end e.name z.ends) is ∙ there;
    kept = record { number = refl; unused = λ h. h; links = linked_same IsLinkKept link_kept_same e.link };
    link = l;
    linked = here;
    holds = q;
  }

  stored : (s : EndStep) (c0 : Context) (e0 : End) (l' : Link) → s.context.ends ≡ (linked c0 e0 l').ends → e0.name ≡ e.name → e0.number ≡ e.number → (e.unused ≡ [] → e0.unused ≡ []) → IsLinkKept l l' → Q l' → IsAnswerTaken s
  unfolding with_end with_link
  stored s c0 e0 l' ends name number unused kept q = record {
    end = with_link e0 l';
    found = ap (named (λ y. y.name) no_end e.name) (ends ∙ ap (λ k. store_named (λ y. y.name) k (with_link e0 l') c0.ends) name) ∙ named-store_same (λ y. y.name) no_end e.name (with_link e0 l') c0.ends name;
    kept = record { number = number; unused = unused; links = linked_of IsLinkKept e.link (Some l') l l' here refl kept };
    link = l';
    linked = refl;
    holds = q;
  }

  tells : (c0 : Context) (s : Sender) (t : _) → Q (with_sender l (after_telling l.terms s)) → IsAnswerTaken (stays (telling c0 e l s) t)
  unfolding telling completing with_queue with_sender
  tells c0 s t q = stored (stays (telling c0 e l s) t) c0 e (with_sender l (after_telling l.terms s)) refl refl refl (λ h. h) (record { on = record { peer = refl; terms = refl; ended = λ h. h }; expected = refl }) q

  fails : (s : Sender) (st : WcStatus) → ((k : Link) → k.ended ≡ true → Q k) → IsAnswerTaken (requester.ends_after c e l s st)
  unfolding with_sender ended_with ended_link with_unused completing with_queue with_end with_link
  fails s st over = stored (requester.ends_after c e l s st) c (with_unused e []) (ended_link (with_sender l (after_telling l.terms s))) refl refl refl (λ h. refl) (record { on = record { peer = refl; terms = refl; ended = λ h. refl }; expected = refl }) (over (ended_link (with_sender l (after_telling l.terms s))) refl)

-- ---- an answer that is no RNR NAK

-- no RNR NAK
abbrev pub NotRnr : Packet → Type 0
NotRnr d = (h : Aeth) → d.aeth ≡ Some h → h.syndrome ≡ Rnr → ⊥

-- it is in Error, or does not wait
abbrev pub IsFree : Link → Type 0
IsFree l = (l.ended ≡ true) ⊎ (l.sender.rnr_wait ≡ false)

module _ (c : Context) (e : End) (l : Link) (there : named (λ z. z.name) no_end e.name c.ends ≡ e) (here : e.link ≡ Some l) where
  abbrev Free : EndStep → Type 0
  Free s = IsAnswerTaken c e l there here IsFree s

  over : (k : Link) → k.ended ≡ true → IsFree k
  over k h = inl h

  module _ (alive : l.ended ≡ false) (waits : l.sender.rnr_wait ≡ false) (d : Packet) where
    idle : (s : EndStep) → s.context ≡ c → Free s
    idle s is = still c e l there here IsFree (inr waits) s is

    if_free : (b : Bool) (s t : EndStep) → Free s → Free t → Free (if b then s else t)
    if_free b s t h g = if_taken c e l there here IsFree b s t h g

    free_tells : (c0 : Context) (s : Sender) (t : _) → s.rnr_wait ≡ false → Free (stays (telling c0 e l s) t)
    unfolding with_sender after_telling
    free_tells c0 s t h = tells c e l there here IsFree c0 s t (inr h)

    advances : (n : ℕ) → (advanced l.sender n).rnr_wait ≡ false
    unfolding advanced
    advances n = by_test (nat_lt l.sender.una n)
      where
        by_test : (b : Bool) → (if b then record l.sender { una = n; spent = 0; waits = 0; next = max l.sender.next n } else l.sender).rnr_wait ≡ false
        by_test true = waits
        by_test false = waits

    free_back : (s : Sender) → s.rnr_wait ≡ false → Free (requester.goes_back c e l s)
    unfolding rewound
    free_back s h = free_tells c (rewound s) took.Rewound h

    free_moved : (s : Sender) → s.rnr_wait ≡ false → Free (requester.moved_or_useless l s c (telling c e l s))
    free_moved s h = if_free (nat_lt l.sender.una s.una) (stays (telling c e l s) took.Acked) (requester.useless c) (free_tells c s took.Acked h) (idle _ refl)

    free_refusal : (n : ℕ) (st : WcStatus) → Free (requester.takes_refusal c e l (acknowledged l n) n st)
    unfolding requester.takes_refusal
    free_refusal n st = if_free ((acknowledged l n).una == n) (requester.ends_after c e l (acknowledged l n) st) (requester.goes_back c e l (acknowledged l n)) (fails c e l there here IsFree (acknowledged l n) st over) (free_back (acknowledged l n) (advances _))

    free_nak : (n code : ℕ) → Free (requester.takes_nak c e l n code)
    unfolding requester.takes_nak
    free_nak n code =
        if_free (code == 0) (requester.goes_back c e l (acknowledged l n)) _ (free_back (acknowledged l n) (advances _))
        (if_free (code == 1) _ _ (free_refusal n status.RemoteInvalid)
        (if_free (code == 2) _ (requester.useless c) (free_refusal n status.RemoteAccess) (idle _ refl)))

    free_syndrome : (n : ℕ) (s : Syndrome) → (s ≡ Rnr → ⊥) → Free (requester.takes_syndrome c e l n s)
    unfolding requester.takes_ack
    free_syndrome n Ack never = free_moved (acknowledged l (n + 1)) (advances _)
    free_syndrome n Rnr never = absurd (never refl)
    free_syndrome n (Nak code) never = free_nak n code

    free_aeth : (n : ℕ) (h : Option Aeth) → ((x : Aeth) → h ≡ Some x → x.syndrome ≡ Rnr → ⊥) → Free (requester.takes_aeth c e l n h)
    free_aeth n None never = idle _ refl
    free_aeth n (Some h) never = if_free (nat_le l.sender.una n && nat_lt n l.sender.top) _ (requester.useless c) (free_syndrome n h.syndrome (never h refl)) (idle _ refl)

    free_piece : (n : ℕ) (o : Option Piece) → Free (requester.takes_piece c e l d n o)
    unfolding requester.takes_piece
    free_piece n None = idle _ refl
    free_piece n (Some x) =
        if_free (requester.is_this_piece l d x) (stays (telling (requester.landing c l d x) e l (advanced l.sender (n + 1))) took.Landed) (requester.useless c)
        (free_tells (requester.landing c l d x) (advanced l.sender (n + 1)) took.Landed (advances (n + 1)))
        (idle _ refl)

    free_response : (o : Option ℕ) → NotRnr d → Free (requester.response_at c e l d o)
    unfolding requester.takes_landing
    free_response None never = idle _ refl
    free_response (Some n) never =
        if_free (is_read_response d.opcode || d.opcode == 0x12) _ _
        (if_free (n == requester.barrier l.terms l.sender && nat_lt n l.sender.top) (requester.takes_piece c e l d n (piece_at l.sender.untold l.terms.mtu (n - l.sender.first))) (requester.useless c) (free_piece n _) (idle _ refl))
        (free_aeth n d.aeth never)

    free_other : (b : Bool) (x : EndStep) → b ≡ false → NotRnr d → Free (if b then x else requester.takes_response c e l d)
    unfolding requester.takes_response
    free_other true x h never = absurd (cc)
    free_other false x h never = free_response (unwrap_near l.terms.own_start d.psn l.sender.una) never

  -- an end that does not wait takes it, and does not wait
  pub free_answered : (d : Packet) → IsFree l → control_of d ≡ None → is_request d.opcode ≡ false → NotRnr d → Free (takes c e l d)
  unfolding takes
  free_answered d free none response never = by_ended l.ended refl free
    where
      by_ended : (b : Bool) → l.ended ≡ b → IsFree l → Free (if b then silent c why.Ended else takes_kind c e l d (control_of d))
      by_ended true t q = still c e l there here IsFree q _ refl
      by_ended false t (inl q) = absurd (cc)
      by_ended false t (inr q) = subst (λ m. Free (takes_kind c e l d m)) (sym none) (free_other t q d (is_request d.opcode) _ response never)

-- ---- an RNR NAK of number n, whose piece is x

-- number n is sent and not acknowledged; where the end waits, it is the oldest
pub record IsOpen (n : ℕ) (x : Piece) (l : Link) : Type 0 where
  pub una : l.sender.una ≤ n
  pub top : n < l.sender.top
  pub near : n < l.sender.una + 8388608
  pub piece : piece_with l n ≡ Some x
  pub wait : l.sender.rnr_wait ≡ true → l.sender.una ≡ n

-- .. or it is in Error
abbrev pub IsWanting : ℕ → Piece → Link → Type 0
IsWanting n x l = (l.ended ≡ true) ⊎ IsOpen n x l

pub wanting_moved : (n : ℕ) (x : Piece) (l l' : Link) → IsLinkMoved l l' → IsWanting n x l → IsWanting n x l'
wanting_moved n x l l' h (inl over) = inl (h.ended ∙ over)
wanting_moved n x l l' h (inr open') = inr (elim h.sender [
  | inl same ↦ record {
    una = omega (arith, open'.una, ap (λ z. z.una) same);
    top = omega (arith, open'.top, ap (λ z. z.top) same);
    near = omega (arith, open'.near, ap (λ z. z.una) same);
    piece = (λ i. piece_at (same i).untold (h.terms i).mtu (n - (same i).first)) ∙ open'.piece;
    wait = λ t. ap (λ z. z.una) same ∙ open'.wait (sym (ap (λ z. z.rnr_wait) same) ∙ t);
  }
  | inr fresh ↦ record {
    una = omega (arith, open'.una, ap (λ z. z.una) fresh);
    top = omega (arith, open'.top, ap (λ z. z.top) fresh);
    near = omega (arith, open'.near, ap (λ z. z.una) fresh);
    piece = (λ i. piece_at (fresh i).untold (h.terms i).mtu (n - (fresh i).first)) ∙ open'.piece;
    wait = λ t. absurd (cc (t, ap (λ z. z.rnr_wait) fresh));
  }
])

cut_pieces : (ps : List Posted) (mtu first una n : ℕ) → una ≤ n → piece_at (drop (request_of ps mtu (una - first)) ps) mtu (n - (first + first_number ps mtu (request_of ps mtu (una - first)))) ≡ piece_at ps mtu (n - first)
cut_pieces ps mtu first una n h =
    let k : ℕ = request_of ps mtu (una - first) in
    let low : first_number ps mtu k ≤ una - first = omega (arith, split ps mtu (una - first)) in
    let place : first_number ps mtu k + (n - (first + first_number ps mtu k)) ≡ n - first = omega (arith, low, h) in
    sym (piece_at-drop ps mtu k (n - (first + first_number ps mtu k))) ∙ ap (piece_at ps mtu) place

module _ (c : Context) (e : End) (l : Link) (there : named (λ z. z.name) no_end e.name c.ends ≡ e) (here : e.link ≡ Some l) (n : ℕ) (x : Piece) where
  abbrev Wants : EndStep → Type 0
  Wants s = IsAnswerTaken c e l there here (IsWanting n x) s

  module _ (open' : IsOpen n x l) where
    open_told : (s : Sender) → s.untold ≡ l.sender.untold → s.first ≡ l.sender.first → s.top ≡ l.sender.top → l.sender.una ≤ s.una → s.una ≤ n → (s.rnr_wait ≡ true → s.una ≡ n) → IsOpen n x (with_sender l (after_telling l.terms s))
    unfolding with_sender after_telling
    open_told s untold first top rose most wait = record {
      una = most;
      top = omega (arith, open'.top, top);
      near = omega (arith, open'.near, rose);
      piece = cut_pieces s.untold l.terms.mtu s.first s.una n most ∙ ((λ i. piece_at (untold i) l.terms.mtu (n - first i)) ∙ open'.piece);
      wait = wait;
    }

    -- what is acknowledged below n
    record IsAcknowledged (s : Sender) : Type 0 where
      untold : s.untold ≡ l.sender.untold
      first : s.first ≡ l.sender.first
      top : s.top ≡ l.sender.top
      rose : l.sender.una ≤ s.una
      most : s.una ≤ n
      wait : s.rnr_wait ≡ l.sender.rnr_wait

    advances_to : (k : ℕ) → k ≤ n → IsAcknowledged (advanced l.sender k)
    unfolding advanced
    advances_to k le = by_test (nat_lt l.sender.una k) refl
      where
        by_test : (b : Bool) → nat_lt l.sender.una k ≡ b → IsAcknowledged (if b then record l.sender { una = k; spent = 0; waits = 0; next = max l.sender.next k } else l.sender)
        by_test true t = let less : l.sender.una < k = grind (arith, nat_tests, leb_tells (suc l.sender.una) k, t) in record { untold = refl; first = refl; top = refl; rose = omega (arith, less); most = le; wait = refl }
        by_test false t = record { untold = refl; first = refl; top = refl; rose = omega arith; most = open'.una; wait = refl }

    acked : IsAcknowledged (acknowledged l n)
    acked = advances_to (min n (requester.barrier l.terms l.sender)) (omega arith)

    over_wants : (k : Link) → k.ended ≡ true → IsWanting n x k
    over_wants k h = inl h

    same : (s : EndStep) → s.context ≡ c → Wants s
    same s is = still c e l there here (IsWanting n x) (inr open') s is

    waits_again : (acknowledged l n).una ≡ n → Wants (requester.waits_again c e l (waited (acknowledged l n)))
    unfolding requester.waits_again
    waits_again is =
        if_taken c e l there here (IsWanting n x) (not (l.terms.rnr == 7) && (waited (acknowledged l n)).waits == l.terms.rnr + 1) (requester.ends_after c e l (waited (acknowledged l n)) status.RnrExceeded) (stays (telling c e l (waiting (waited (acknowledged l n)))) took.Waits)
        (fails c e l there here (IsWanting n x) (waited (acknowledged l n)) status.RnrExceeded over_wants)
        (tells c e l there here (IsWanting n x) c (waiting (waited (acknowledged l n))) took.Waits (inr (open_told (waiting (waited (acknowledged l n))) acked.untold acked.first acked.top acked.rose acked.most (λ t. is))))

    rnr_moved : l.sender.rnr_wait ≡ false → Wants (requester.moved_or_useless l (acknowledged l n) c (telling c e l (acknowledged l n)))
    rnr_moved free =
        if_taken c e l there here (IsWanting n x) (nat_lt l.sender.una (acknowledged l n).una) (stays (telling c e l (acknowledged l n)) took.Acked) (requester.useless c)
        (tells c e l there here (IsWanting n x) c (acknowledged l n) took.Acked (inr (open_told (acknowledged l n) acked.untold acked.first acked.top acked.rose acked.most (λ t. absurd (cc (t, acked.wait, free))))))
        (same _ refl)

    takes_rnr : l.sender.rnr_wait ≡ false → Wants (requester.takes_rnr c e l (acknowledged l n) n)
    unfolding requester.takes_rnr
    takes_rnr free =
        test_taken c e l there here (IsWanting n x) ((acknowledged l n).una == n) (requester.waits_again c e l (waited (acknowledged l n))) (requester.moved_or_useless l (acknowledged l n) c (telling c e l (acknowledged l n)))
        (λ t. waits_again (equal_is _ _ t)) (λ t. rnr_moved free)

    syndrome : (s : Syndrome) → s ≡ Rnr → Wants (requester.takes_syndrome c e l n s)
    syndrome Ack h = absurd (cc)
    syndrome Rnr h = test_taken c e l there here (IsWanting n x) l.sender.rnr_wait (requester.useless c) (requester.takes_rnr c e l (acknowledged l n) n) (λ t. same _ refl) (λ t. takes_rnr t)
    syndrome (Nak code) h = absurd (cc)

    aeth : (a : Option Aeth) (h : Aeth) → a ≡ Some h → h.syndrome ≡ Rnr → Wants (requester.takes_aeth c e l n a)
    aeth None h t k = absurd (cc)
    aeth (Some a) h t k =
        let is : a ≡ h = cc in
        if_taken c e l there here (IsWanting n x) (nat_le l.sender.una n && nat_lt n l.sender.top) _ (requester.useless c) (syndrome a.syndrome (ap (λ z. z.syndrome) is ∙ k)) (same _ refl)

  -- an end where n is open takes it
  pub rnr_answered : (d : Packet) (h : Aeth) → IsWanting n x l → control_of d ≡ None → d.opcode ≡ 0x11 → d.psn ≡ wire_number l.terms.own_start n → d.aeth ≡ Some h → h.syndrome ≡ Rnr → Wants (takes c e l d)
  unfolding takes requester.takes_response is_request
  rnr_answered d h wanting none opcode psn is rnr = by_ended l.ended refl wanting
    where
      by_ended : (b : Bool) → l.ended ≡ b → IsWanting n x l → Wants (if b then silent c why.Ended else takes_kind c e l d (control_of d))
      by_ended true t q = still c e l there here (IsWanting n x) q _ refl
      by_ended false t (inl q) = absurd (cc)
      by_ended false t (inr q) =
          let number : unwrap_near l.terms.own_start d.psn l.sender.una ≡ Some n = known l.terms.own_start d.psn l.sender.una n (record { spelled = sym psn; low = omega (arith, q.una); high = omega (arith, q.near) }) in
          subst (λ m. Wants (takes_kind c e l d m)) (sym none)
          (subst (λ k. Wants (if is_request k then (if is_paused l.moving.phase then silent c why.Paused else takes_request c e l d) else requester.response_at c e l d (unwrap_near l.terms.own_start d.psn l.sender.una))) (sym opcode)
          (subst (λ o. Wants (requester.response_at c e l d o)) (sym number)
          (subst (λ k. Wants (if is_read_response k || k == 0x12 then requester.takes_landing c e l d n else requester.takes_aeth c e l n d.aeth)) (sym opcode) (aeth q d.aeth h is rnr))))
