-- What a requester does keeps its context sound.
use Rattle.std.proofs.Common.{arith, ◌≡◌, ◌≢◌, ◌⊎◌, ◌≤◌, ◌<◌, ◌+◌, ◌-◌, ◌^◌, ℕ, zero, suc, List, [], ◌∷◌, ◌++◌, map, length, take, drop, true, false, Bool, refl, sym, ap, ◌∙◌, inl, inr, subst, length-append}
use Rattle.std.specs.Prelude.{All, Option, Some, None, if◌then◌else◌, max, min, nat_lt, nat_le, not, ◌==◌, ◌&&◌, ◌||◌}
use Rattle.std.proofs.lemmas.Bool.Decides.{nat_tests}
use Rattle.std.proofs.lemmas.List.{length-map, length-drop}
use Rattle.std.proofs.lemmas.List.Elements.{All-drop, All-nil}
use Rattle.rdma_types.specs.declared.answers.DropReason.TheVariants as why
use Rattle.rdma_types.specs.declared.answers.ArrivalEffect.{ArrivalEffect}
use Rattle.rdma_types.specs.declared.answers.ArrivalEffect.TheVariants as took
use Rattle.rdma_types.specs.declared.names.Name.{Name}
use Rattle.rdma_types.specs.declared.requests.Completion.{Completion}
use Rattle.rdma_types.specs.declared.requests.Receive.{Receive}
use Rattle.rdma_types.specs.declared.requests.WcStatus.{WcStatus}
use Rattle.rdma_types.specs.declared.requests.WcStatus.TheVariants as status
use Rattle.rdma_types.specs.Limits.{AreTerms, number_limit}
use Rattle.rdma_types.specs.Objects.{Posted, Region}
use Rattle.rdma_types.specs.Spans.{end_number, first_number, request_of}
use Rattle.protocol.specs.EndWords.{EndStep, completing, failed_receive, in_use_by, linked, silent, stays, with_end, with_link, with_queue, with_sender, with_unused}
use Rattle.protocol.specs.Lawful.{IsLawfulEntry, is_number}
use Rattle.protocol.specs.Requester.{acknowledged, advanced, after_telling, barrier, cut_by, emptied_at, end_of_queue, ended_link, ended_with, ends_after, failing, goes_back, idle_receiver, moved_or_useless, rewound, takes_ack, takes_aeth, takes_nak, takes_refusal, takes_rnr, takes_syndrome, telling, told_completions, told_count, useless, waited, waiting, waits_again}
use Rattle.protocol.specs.declared.wire.Aeth.{Aeth}
use Rattle.protocol.specs.declared.wire.Syndrome.{Syndrome}
use Rattle.protocol.specs.declared.wire.Syndrome.TheVariants.{Ack, Rnr, Nak}
use Rattle.protocol.specs.State.{Context, End, Link, Receiver, Sender}
use Rattle.law_devices.specs.Sound.{AreSoundNumbers, IsInFirst, IsSoundContext, IsSoundLink, IsSoundReceive, IsSoundReceiver, IsSoundRequest, IsSoundSender, IsSoundState, plans}
use Rattle.law_devices.proofs.Ends.{Bytes, Stays, bytes-none, follow, follow-link, follows-served, follows-stays, follows-told, link-sender, stays-same}
use Rattle.law_devices.proofs.Entries.{entries-failing, entries-flushed, entries-told, length-failing, length-told}
use Rattle.law_devices.proofs.Rooms.{Follows, IsHere, end-sound}
use Rattle.law_devices.proofs.Senders.{advances, empties, end-drop, rewinds, tells, tells_first, told_within}

pub linked-sound : (c : Context) (e : End) (l : Link) → IsSoundContext c → IsHere c e → e.link ≡ Some l → IsSoundLink (plans c.regions) e.domain e.send_depth l
linked-sound c e l s here there = subst (IsSoundState (plans c.regions) e.domain e.send_depth) there (end-sound c e s.parts here).state

-- ---- an end that goes to Error

-- what a link in Error keeps
pub record IsEndable (regions : List Region) (domain : Name) (l : Link) : Type 0 where
  pub peer : l.peer < 2 ^ 24
  pub terms : AreTerms l.terms
  pub limit : end_of_queue l.terms l.sender < number_limit
  pub receiver : IsSoundReceiver regions domain l.terms.mtu l.receiver

pub ended-sound : (regions : List Region) (domain : Name) (depth : ℕ) (l : Link) → IsEndable regions domain l → IsSoundLink regions domain depth (ended_link l)
unfolding ended_link
ended-sound regions domain depth l h = record {
  peer = h.peer;
  terms = h.terms;
  sender = record { fits = omega arith; requests = All-nil (IsSoundRequest regions domain); numbers = empties l.terms.mtu (end_of_queue l.terms l.sender) h.limit; spent = omega arith; waits = inl (omega arith) };
  oldest = λ p there. absurd (cc);
  receiver = record { expected = h.receiver.expected; msn = h.receiver.msn; in_progress = tt; few_kept = h.receiver.few_kept; kept_rise = h.receiver.kept_rise; kept_before = h.receiver.kept_before };
  no_untold = λ t. refl;
  no_message = λ t. refl;
  not_resuming = λ t. refl;
}

module _ (c : Context) (e : End) (l : Link) (s : IsSoundContext c) (here : IsHere c e) (there : e.link ≡ Some l) where
  pub number : is_number e.number ≡ true
  number = (end-sound c e s.parts here).number

  pub ended-after : (x : Context) (us : List Receive) (l0 : Link) (served : ℕ) (st : WcStatus) → Follows c e l [] (ended_link l0) 0 served x → length l0.sender.untold ≤ length l.sender.untold → served + (length us + length (in_use_by l0.receiver.progress)) ≤ length e.unused + length (in_use_by l.receiver.progress)
      → Stays c (completing (completing x e.send_cq (failing e.number st l0.sender.untold)) e.recv_cq (map (failed_receive e.number status.Flush) (in_use_by l0.receiver.progress ++ us)))
  unfolding ended_link
  ended-after x us l0 served st f requests receives =
      let n = length-failing e.number st l0.sender.untold in
      let m = length-map (in_use_by l0.receiver.progress ++ us) (failed_receive e.number status.Flush) in
      let a = length-append (in_use_by l0.receiver.progress) us in
      follows-stays c e l _ s here there
      (follows-served c e l _ (map (failed_receive e.number status.Flush) (in_use_by l0.receiver.progress ++ us)) s here
      (follows-told c e l x (failing e.number st l0.sender.untold) s here f (entries-failing e.number st l0.sender.untold number) (omega (arith, n, requests)))
      (entries-flushed e.number status.Flush (in_use_by l0.receiver.progress ++ us) number) (omega (arith, m, a, receives)))

  endable : IsEndable (plans c.regions) e.domain l
  unfolding end_of_queue
  endable = let own = linked-sound c e l s here there in record { peer = own.peer; terms = own.terms; limit = own.sender.numbers.limit; receiver = own.receiver }

  pub ended-link-follows : (l0 : Link) → IsEndable (plans c.regions) e.domain l0 → Follows c e l [] (ended_link l0) 0 0 (linked c (with_unused e []) (ended_link l0))
  unfolding ended_link
  ended-link-follows l0 h = follow c e l c [] (ended_link l0) s (bytes-none c s) (ended-sound (plans c.regions) e.domain e.send_depth l0 h) (All-nil (IsSoundReceive (plans c.regions) e.domain)) (λ t. refl) (omega arith) (omega arith) (omega arith)

  -- the end goes to Error with all its work
  pub ended_good : (st : WcStatus) → Stays c (ended_with c e l st)
  unfolding ended_with
  ended_good st = ended-after (linked c (with_unused e []) (ended_link l)) e.unused l 0 st (ended-link-follows l endable) (omega arith) (omega arith)

  -- the end goes to Error with a link whose untold requests are left over from its own
  ending-follows : (l0 : Link) → IsEndable (plans c.regions) e.domain l0 → (told : List Completion) → All IsLawfulEntry told → length told + length l0.sender.untold ≤ length l.sender.untold
      → Follows c e l [] (ended_link l0) (0 + length told) 0 (completing (linked c (with_unused e []) (ended_link l0)) e.send_cq told)
  unfolding ended_link
  ending-follows l0 h told lawful pay =
      follows-told c e l (linked c (with_unused e []) (ended_link l0)) told s here
      (follow c e l c [] (ended_link l0) s (bytes-none c s) (ended-sound (plans c.regions) e.domain e.send_depth l0 h) (All-nil (IsSoundReceive (plans c.regions) e.domain)) (λ t. refl) (omega arith) (omega arith) (omega arith))
      lawful (omega (arith, pay))

  ends-told : (l0 : Link) → IsEndable (plans c.regions) e.domain l0 → (told : List Completion) → All IsLawfulEntry told → length told + length l0.sender.untold ≤ length l.sender.untold → (st : WcStatus)
      → l0.receiver.progress ≡ l.receiver.progress → Stays c (ended_with (completing c e.send_cq told) e l0 st)
  unfolding ended_with completing with_queue with_end with_link with_unused ended_link
  ends-told l0 h told lawful pay st same =
      let n = length-failing e.number st l0.sender.untold in
      let m = length-map (in_use_by l0.receiver.progress ++ e.unused) (failed_receive e.number status.Flush) in
      let a = length-append (in_use_by l0.receiver.progress) e.unused in
      let f = ending-follows l0 h told lawful pay in
      let g = follows-told c e l _ (failing e.number st l0.sender.untold) s here f (entries-failing e.number st l0.sender.untold number) (omega (arith, n, pay)) in
      follows-stays c e l _ s here there
      (follows-served c e l _ (map (failed_receive e.number status.Flush) (in_use_by l0.receiver.progress ++ e.unused)) s here g (entries-flushed e.number status.Flush (in_use_by l0.receiver.progress ++ e.unused) number) (omega (arith, m, a, ap (λ p. length (in_use_by p)) same)))

  -- ---- an end in Rts

  -- the step leaves a sound context
  pub record Good (x : EndStep) : Type 0 where
    pub goes : Stays c x.context

  pub if_good : (b : Bool) (x y : EndStep) → Good x → Good y → Good (if b then x else y)
  if_good true x y h g = h
  if_good false x y h g = g

  pub test_good : (b : Bool) (x y : EndStep) → (b ≡ true → Good x) → (b ≡ false → Good y) → Good (if b then x else y)
  test_good true x y h g = h refl
  test_good false x y h g = g refl

  pub still : (x : EndStep) → x.context ≡ c → Good x
  still x is = record { goes = subst (Stays c) (sym is) (stays-same c s) }

  module _ (alive : l.ended ≡ false) where
    pub mine : IsSoundLink (plans c.regions) e.domain e.send_depth l
    mine = linked-sound c e l s here there

    -- the same requests, and numbers in order
    pub record IsAt (x : Sender) : Type 0 where
      pub untold : x.untold ≡ l.sender.untold
      pub numbers : AreSoundNumbers l.terms.mtu x.untold x.first x.una x.next x.top

    -- counts within the terms
    pub record IsCalm (x : Sender) : Type 0 where
      pub spent : x.spent ≤ l.terms.retry
      pub waits : (x.waits ≤ l.terms.rnr) ⊎ (l.terms.rnr ≡ 7)

    pub at_self : IsAt l.sender
    at_self = record { untold = refl; numbers = mine.sender.numbers }

    pub calm_self : IsCalm l.sender
    calm_self = record { spent = mine.sender.spent; waits = mine.sender.waits }

    requests_of : (x : Sender) → IsAt x → All (IsSoundRequest (plans c.regions) e.domain) x.untold
    requests_of x at = subst (All (IsSoundRequest (plans c.regions) e.domain)) (sym at.untold) mine.sender.requests

    told_fits : (x : Sender) → first_number x.untold l.terms.mtu (told_count l.terms x) ≤ x.una - x.first
    told_fits x = told_within x.untold l.terms.mtu (x.una - x.first)

    told_sound : (x : Sender) → IsAt x → IsCalm x → IsSoundSender (plans c.regions) e.domain e.send_depth l.terms (after_telling l.terms x)
    unfolding after_telling
    told_sound x at calm = record {
      fits = omega (arith, length-drop (told_count l.terms x) x.untold, ap length at.untold, mine.sender.fits);
      requests = All-drop (IsSoundRequest (plans c.regions) e.domain) (told_count l.terms x) x.untold (requests_of x at);
      numbers = tells l.terms.mtu x.untold x.first x.una x.next x.top (told_count l.terms x) at.numbers (told_fits x);
      spent = calm.spent;
      waits = calm.waits;
    }

    told_link_sound : (x : Sender) → IsAt x → IsCalm x → IsSoundLink (plans c.regions) e.domain e.send_depth (with_sender l (after_telling l.terms x))
    unfolding after_telling
    told_link_sound x at calm = link-sender (plans c.regions) e.domain e.send_depth l mine alive (after_telling l.terms x) (told_sound x at calm) (tells_first l.terms.mtu x.untold x.first x.una at.numbers.first_una)

    told_pays : (x : Sender) → IsAt x → length (told_completions e.number l.terms x) + length (after_telling l.terms x).untold ≤ length l.sender.untold
    unfolding after_telling
    told_pays x at = omega (arith, length-told e.number l.terms x, ap length at.untold)

    pub telling_good : (c1 : Context) (x : Sender) → Bytes c c1 → IsAt x → IsCalm x → Stays c (telling c1 e l x)
    unfolding telling with_sender after_telling
    telling_good c1 x b at calm =
        follows-stays c e l _ s here there
        (follows-told c e l (linked c1 e (with_sender l (after_telling l.terms x))) (told_completions e.number l.terms x) s here
        (follow-link c e l c1 (with_sender l (after_telling l.terms x)) s here b (told_link_sound x at calm) alive (omega (arith, told_pays x at)) (omega arith))
        (entries-told (plans c.regions) e.domain e.number l.terms x number (requests_of x at)) (omega (arith, told_pays x at)))

    told_limit : (x : Sender) → IsAt x → end_of_queue l.terms (after_telling l.terms x) < number_limit
    unfolding after_telling end_of_queue
    told_limit x at = (tells l.terms.mtu x.untold x.first x.una x.next x.top (told_count l.terms x) at.numbers (told_fits x)).limit

    pub ends_good : (x : Sender) (st : WcStatus) → IsAt x → Good (ends_after c e l x st)
    unfolding with_sender
    ends_good x st at = record {
      goes =
          ends-told (with_sender l (after_telling l.terms x)) (record { peer = mine.peer; terms = mine.terms; limit = told_limit x at; receiver = mine.receiver })
          (told_completions e.number l.terms x) (entries-told (plans c.regions) e.domain e.number l.terms x number (requests_of x at)) (told_pays x at) st refl;
    }

    pub back_good : (x : Sender) → IsAt x → IsCalm x → Good (goes_back c e l x)
    unfolding rewound
    back_good x at calm = record { goes = telling_good c (rewound x) (bytes-none c s) (record { untold = at.untold; numbers = rewinds l.terms.mtu x.untold x.first x.una x.next x.top at.numbers }) (record { spent = calm.spent; waits = calm.waits }) }

    pub moved_good : (x : Sender) → IsAt x → IsCalm x → Good (moved_or_useless l x c (telling c e l x))
    moved_good x at calm = if_good (nat_lt l.sender.una x.una) (stays (telling c e l x) took.Acked) (useless c) (record { goes = telling_good c x (bytes-none c s) at calm }) (still _ refl)

    -- what is acknowledged below n
    pub advanced_at : (n : ℕ) → n ≤ l.sender.top → IsAt (advanced l.sender n)
    unfolding advanced
    advanced_at n below = by_test (nat_lt l.sender.una n) refl
      where
        by_test : (b : Bool) → nat_lt l.sender.una n ≡ b → IsAt (if b then record l.sender { una = n; spent = 0; waits = 0; next = max l.sender.next n } else l.sender)
        by_test true t = record { untold = refl; numbers = advances l.terms.mtu l.sender.untold l.sender.first l.sender.una l.sender.next l.sender.top n mine.sender.numbers (grind (arith, nat_tests, t)) below }
        by_test false t = at_self

    pub advanced_calm : (n : ℕ) → IsCalm (advanced l.sender n)
    unfolding advanced
    advanced_calm n = by_test (nat_lt l.sender.una n)
      where
        by_test : (b : Bool) → IsCalm (if b then record l.sender { una = n; spent = 0; waits = 0; next = max l.sender.next n } else l.sender)
        by_test true = record { spent = omega arith; waits = inl (omega arith) }
        by_test false = calm_self

    module _ (n : ℕ) (sent : n < l.sender.top) where
      acked : (m : ℕ) → m ≤ l.sender.top → IsAt (acknowledged l m)
      acked m below = advanced_at (min m (barrier l.terms l.sender)) (omega (arith, below))

      acked_calm : (m : ℕ) → IsCalm (acknowledged l m)
      acked_calm m = advanced_calm (min m (barrier l.terms l.sender))

      at_n : IsAt (acknowledged l n)
      at_n = acked n (omega (arith, sent))

      refusal_good : (st : WcStatus) → Good (takes_refusal c e l (acknowledged l n) n st)
      unfolding takes_refusal
      refusal_good st = if_good ((acknowledged l n).una == n) (ends_after c e l (acknowledged l n) st) (goes_back c e l (acknowledged l n)) (ends_good (acknowledged l n) st at_n) (back_good (acknowledged l n) at_n (acked_calm n))

      nak_good : (code : ℕ) → Good (takes_nak c e l n code)
      unfolding takes_nak
      nak_good code =
          if_good (code == 0) (goes_back c e l (acknowledged l n)) _ (back_good (acknowledged l n) at_n (acked_calm n))
          (if_good (code == 1) _ _ (refusal_good status.RemoteInvalid)
          (if_good (code == 2) _ (useless c) (refusal_good status.RemoteAccess) (still _ refl)))

      waited_at : (x : Sender) → IsAt x → IsAt (waited x)
      waited_at x at = record { untold = at.untold; numbers = rewinds l.terms.mtu x.untold x.first x.una x.next x.top at.numbers }

      waited_calm : (x : Sender) → IsCalm x → (not (l.terms.rnr == 7) && (waited x).waits == l.terms.rnr + 1) ≡ false → IsCalm (waiting (waited x))
      waited_calm x calm t = record { spent = calm.spent; waits = by_rnr (l.terms.rnr == 7) refl t }
        where
          seven : (l.terms.rnr == 7) ≡ true → l.terms.rnr ≡ 7
          seven h = grind (arith, nat_tests, h)

          not_seven : (l.terms.rnr == 7) ≡ false → l.terms.rnr ≢ 7
          not_seven h = λ k. absurd (grind (arith, nat_tests, h, k))

          other : (a b : ℕ) → (a == b) ≡ false → a ≢ b
          other a b h = λ k. absurd (grind (arith, nat_tests, h, k))

          within : (x.waits ≤ l.terms.rnr) ⊎ (l.terms.rnr ≡ 7) → (l.terms.rnr ≢ 7) → (min 255 (x.waits + 1) ≢ l.terms.rnr + 1) → min 255 (x.waits + 1) ≤ l.terms.rnr
          within (inl h) ne last = omega (arith, h, last)
          within (inr h) ne last = absurd (ne h)

          by_rnr : (b : Bool) → (l.terms.rnr == 7) ≡ b → (not b && min 255 (x.waits + 1) == l.terms.rnr + 1) ≡ false → (min 255 (x.waits + 1) ≤ l.terms.rnr) ⊎ (l.terms.rnr ≡ 7)
          by_rnr true h t' = inr (seven h)
          by_rnr false h t' = inl (within calm.waits (not_seven h) (other (min 255 (x.waits + 1)) (l.terms.rnr + 1) t'))

      waits_good : (x : Sender) → IsAt x → IsCalm x → Good (waits_again c e l (waited x))
      unfolding waits_again
      waits_good x at calm =
          test_good (not (l.terms.rnr == 7) && (waited x).waits == l.terms.rnr + 1) (ends_after c e l (waited x) status.RnrExceeded) (stays (telling c e l (waiting (waited x))) took.Waits)
          (λ t. ends_good (waited x) status.RnrExceeded (waited_at x at))
          (λ t. record { goes = telling_good c (waiting (waited x)) (bytes-none c s) (record { untold = (waited_at x at).untold; numbers = (waited_at x at).numbers }) (waited_calm x calm t) })

      rnr_good : (x : Sender) → IsAt x → IsCalm x → Good (takes_rnr c e l x n)
      unfolding takes_rnr
      rnr_good x at calm = if_good (x.una == n) _ _ (waits_good x at calm) (moved_good x at calm)

      syndrome_good : (y : Syndrome) → Good (takes_syndrome c e l n y)
      unfolding takes_ack
      syndrome_good Ack = moved_good (acknowledged l (n + 1)) (acked (n + 1) (omega (arith, sent))) (acked_calm (n + 1))
      syndrome_good Rnr = if_good l.sender.rnr_wait (useless c) _ (still _ refl) (rnr_good (acknowledged l n) at_n (acked_calm n))
      syndrome_good (Nak code) = nak_good code

    both : (a b : Bool) → (a && b) ≡ true → (a ≡ true) × (b ≡ true)
    both true true h = (refl, refl)
    both true false h = absurd (cc)
    both false b h = absurd (cc)

    less_is : (a b : ℕ) → nat_lt a b ≡ true → a < b
    less_is a b h = grind (arith, nat_tests, h)

    pub aeth_good : (n : ℕ) (h : Option Aeth) → Good (takes_aeth c e l n h)
    aeth_good n None = still _ refl
    aeth_good n (Some h) =
        test_good (nat_le l.sender.una n && nat_lt n l.sender.top) _ (useless c)
        (λ t. syndrome_good n (less_is n l.sender.top (both _ _ t).1) h.syndrome)
        (λ t. still _ refl)
