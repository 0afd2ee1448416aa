-- Requests keep a context sound.
use Rattle.std.proofs.Common.{arith, ◌≡◌, ◌≢◌, ◌⊎◌, ◌≤◌, ◌<◌, ◌+◌, ◌-◌, ◌*◌, ◌%◌, ◌/◌, ◌^◌, ℕ, zero, suc, List, [], ◌∷◌, ◌++◌, map, length, take, drop, true, false, Bool, refl, sym, ap, ◌∙◌, inl, inr, subst, length-append}
use Rattle.std.specs.Prelude.{All, AllPairs, Option, Some, None, is_some, if◌then◌else◌, max, min, nat_lt, nat_le, not, ◌==◌, ◌&&◌, ◌||◌, slice_get}
use Rattle.std.proofs.lemmas.Bool.{cases_lt}
use Rattle.std.proofs.lemmas.Bool.Decides.{nat_tests}
use Rattle.std.proofs.lemmas.List.{length-map, length-drop}
use Rattle.std.proofs.lemmas.List.Elements.{All-append, All-cons, All-drop, All-head, All-nil, All-tail}
use Rattle.rdma_types.specs.declared.answers.DropReason.TheVariants as why
use Rattle.rdma_types.specs.declared.answers.ArrivalEffect.TheVariants as took
use Rattle.rdma_types.specs.declared.answers.RefusalReason.{RefusalReason}
use Rattle.rdma_types.specs.declared.answers.RefusalReason.TheVariants as refused
use Rattle.rdma_types.specs.declared.names.Name.{Name}
use Rattle.rdma_types.specs.declared.requests.Completion.{Completion}
use Rattle.rdma_types.specs.declared.requests.Receive.{Receive}
use Rattle.rdma_types.specs.declared.requests.WcKind.TheVariants as wc
use Rattle.rdma_types.specs.declared.requests.WcStatus.{WcStatus}
use Rattle.rdma_types.specs.declared.requests.WcStatus.TheVariants as status
use Rattle.rdma_types.specs.Limits.{most_bytes, most_kept, number_limit}
use Rattle.rdma_types.specs.Memory.{Grants, LocalWrite, RemoteAtomic, RemoteRead, RemoteWrite, Right, allows, granted, grants, local_key, remote_key, word_bytes}
use Rattle.rdma_types.specs.Objects.{Region, no_region}
use Rattle.rdma_types.specs.Spans.{pieces}
use Rattle.rdma_types.proofs.Grants as grant
use Rattle.protocol.specs.declared.images.KeptReply.{KeptReply}
use Rattle.protocol.specs.declared.wire.AtomicEth.{AtomicEth}
use Rattle.protocol.specs.declared.wire.Reth.{Reth}
use Rattle.protocol.specs.EndWords.{EndStep, completing, done_receive, failed_receive, in_use_by, linked, stays, with_end, with_link, with_queue, with_receiver, with_unused}
use Rattle.protocol.specs.Lawful.{IsLawfulEntry, is_number, is_whole_pieces}
use Rattle.protocol.specs.Memory.{landed, word_at, written}
use Rattle.protocol.specs.Numbers.{unwrap_near}
use Rattle.protocol.specs.Requester.{end_of_queue, ended_link, ended_with, failing, idle_receiver}
use Rattle.protocol.specs.Responder.{First, Last, Middle, NoPart, Only, Part, Place, acts, ahead, answers_old, answers_read, atomic_acts, atomic_done, atomic_value, begins, bytes_before, executed, expected_packet, finished, finishes, front, granted_packet, idled, in_progress, is_bad_write, is_empty, is_invalid, is_missized, is_mistotalled, is_not_ready, is_out_of_place, is_part, is_read_request, is_send, is_too_long, is_write, keeping, keeps, needs_receive, no_repeat, not_ready, packet_acts, part_of, place_of, read_acts, read_grant, receive_of, refuses, refuses_length, repeated, repeats_read, request_at, reth_target, same_kind, send_done, span_of_packet, takes_request, target, target_of, unused_after, with_immediate, write_done, write_length}
use Rattle.protocol.specs.State.{Context, End, InSend, InWrite, Link, NoMessage, Progress, Receiver}
use Rattle.protocol.specs.Wire.{Packet}
use Rattle.law_devices.specs.Sound.{IsSoundContext, IsSoundLink, IsSoundProgress, IsSoundReceive, IsSoundReceiver, IsSoundSend, IsSoundWrite, plan_of, plans}
use Rattle.law_devices.proofs.Ends.{Bytes, Stays, bytes-none, bytes-written, follow, follow-link, follows-served, follows-stays, follows-told, link-receiver}
use Rattle.law_devices.proofs.Entries.{entries-failing, entries-flushed, entry-receive, length-failing}
use Rattle.law_devices.proofs.Landing.{bytes-landed, nothing_long, word_length}
use Rattle.law_devices.proofs.Opcodes.{HasNoWord, IsValid, and-false, or-false, send-part, some_mtu, valid-parts, whole-more, write-not-send, write-part}
use Rattle.law_devices.proofs.Pairs.{AllPairs-drop, AllPairs-push}
use Rattle.law_devices.proofs.Regions.{IsPlace, first_found, plan_at, region_at}
use Rattle.law_devices.proofs.Rooms.{Follows, IsHere, end-sound}
use Rattle.law_devices.proofs.Working as working
use Rattle.law_devices.proofs.Working.{Good, IsEndable, ended-sound, linked-sound}

-- ---- receives

some-unused : (unused : List Receive) → is_empty unused ≡ false → 0 < length unused
some-unused [] e = absurd (cc)
some-unused (r ∷ rs) e = omega arith

some-more : (xs ys : List Receive) → 0 < length ys → 0 < length (xs ++ ys)
some-more [] ys h = h
some-more (x ∷ xs) ys h = omega arith

front-all : (P : Receive → Type 0) (xs : List Receive) → All P xs → 0 < length xs → P (front xs)
front-all P [] all h = absurd (omega arith)
front-all P (x ∷ xs) all h = All-head P x xs all

not-false : (b : Bool) → not b ≡ false → b ≡ true
not-false true e = refl
not-false false e = absurd (cc)

in-use : (n : ℕ) (p : Progress) → is_send n ≡ true → not (same_kind n p) ≡ false → (unused : List Receive) → 0 < length (in_use_by p ++ unused)
in-use n NoMessage s k unused = absurd (cc)
in-use n (InSend done r) s k unused = omega arith
in-use n (InWrite region off count done) s k unused = absurd (let no = write-not-send n (not-false (is_write n) k) in cc (s, no))

-- a SEND finds a receive: the one in use, or an unused one
send-finds : (n : ℕ) (q : Part) (p : Progress) (w : Bool) (unused : List Receive) → is_send n ≡ true → is_part q ≡ true → is_out_of_place q n p ≡ false → (((is_send n && begins q) || w) && is_empty unused) ≡ false → 0 < length (in_use_by p ++ unused)
send-finds n First p w unused s part out ready = some-more (in_use_by p) unused (some-unused unused (rw s at ready))
send-finds n Only p w unused s part out ready = some-more (in_use_by p) unused (some-unused unused (rw s at ready))
send-finds n Middle p w unused s part out ready = in-use n p s out unused
send-finds n Last p w unused s part out ready = in-use n p s out unused
send-finds n NoPart p w unused s part out ready = absurd (cc)

-- at most one receive is in use
in_use_one : (p : Progress) → length (in_use_by p) ≤ 1
in_use_one NoMessage = omega arith
in_use_one (InSend done r) = omega arith
in_use_one (InWrite region off count done) = omega arith

pub in_use_sound : (regions : List Region) (domain : Name) (mtu : ℕ) (p : Progress) → IsSoundProgress regions domain mtu p → All (IsSoundReceive regions domain) (in_use_by p)
in_use_sound regions domain mtu NoMessage h = All-nil (IsSoundReceive regions domain)
in_use_sound regions domain mtu (InSend done r) h = All-cons (IsSoundReceive regions domain) r [] h.receive (All-nil (IsSoundReceive regions domain))
in_use_sound regions domain mtu (InWrite region off count done) h = All-nil (IsSoundReceive regions domain)

whole_before : (regions : List Region) (domain : Name) (mtu : ℕ) (p : Progress) → IsSoundProgress regions domain mtu p → (bytes_before None p ≡ 0) ⊎ (is_whole_pieces mtu (bytes_before None p) ≡ true)
whole_before regions domain mtu NoMessage h = inl refl
whole_before regions domain mtu (InSend done r) h = inr h.pieces
whole_before regions domain mtu (InWrite region off count done) h = inr h.pieces

-- ---- sizes

not-equal : (a b : ℕ) → not (a == b) ≡ false → a ≡ b
not-equal a b h = grind (arith, nat_tests, h)

not-more : (a b : ℕ) → nat_le a b ≡ false → b < a
not-more a b h = grind (arith, nat_tests, h)

not-less : (a b : ℕ) → nat_lt a b ≡ false → b ≤ a
not-less a b h = grind (arith, nat_tests, h)

unfinished-size : (q : Part) (size mtu : ℕ) → is_part q ≡ true → finishes q ≡ false → is_missized q size mtu ≡ false → size ≡ mtu
unfinished-size First size mtu p f h = not-equal size mtu h
unfinished-size Middle size mtu p f h = not-equal size mtu h
unfinished-size Last size mtu p f h = absurd (cc)
unfinished-size Only size mtu p f h = absurd (cc)
unfinished-size NoPart size mtu p f h = absurd (cc)

unfinished-total : (q : Part) (n count : ℕ) → is_part q ≡ true → finishes q ≡ false → is_mistotalled q n count ≡ false → n < count
unfinished-total First n count p f h = not-more count n h
unfinished-total Middle n count p f h = not-more count n h
unfinished-total Last n count p f h = absurd (cc)
unfinished-total Only n count p f h = absurd (cc)
unfinished-total NoPart n count p f h = absurd (cc)

fitting : (q : Part) (n count : ℕ) → is_part q ≡ true → is_mistotalled q n count ≡ false → n ≤ count
fitting First n count p e = omega (arith, not-more count n e)
fitting Middle n count p e = omega (arith, not-more count n e)
fitting Last n count p e = omega (arith, not-equal n count e)
fitting Only n count p e = omega (arith, not-equal n count e)
fitting NoPart n count p e = absurd (cc)

-- a region that is granted stands among them
record IsGrant (rs : List Region) (domain : Name) (key at' count : ℕ) (right : Right) (r : Region) : Type 0 where
  i : ℕ
  there : slice_get rs i ≡ Some r
  grants : Grants remote_key domain key at' count right r

granted-there : (rs : List Region) (domain : Name) (key at' count : ℕ) (right : Right) (r : Region) → granted remote_key rs domain key at' count right ≡ Some r → IsGrant rs domain key at' count right r
unfolding granted
granted-there rs domain key at' count right r h =
    let f = first_found (grants remote_key domain key at' count right) rs r h in
    record { i = f.0; there = f.1; grants = grant.granting remote_key domain key at' count right r f.2 }

module _ (c : Context) (e : End) (l : Link) (s : IsSoundContext c) (here : IsHere c e) (there : e.link ≡ Some l) (alive : l.ended ≡ false) (d : Packet) where
  abbrev Fine : EndStep → Type 0
  Fine = Good c e l s here there

  own : IsSoundLink (plans c.regions) e.domain e.send_depth l
  own = linked-sound c e l s here there

  own_number : is_number e.number ≡ true
  own_number = (end-sound c e s.parts here).number

  quiet : (x : EndStep) → x.context ≡ c → Fine x
  quiet x is = working.still c e l s here there x is

  -- ---- refusals

  refused_good : (n : ℕ) (w : RefusalReason) → Fine (refuses c e l n w)
  refused_good n w = record { goes = working.ended_good c e l s here there status.Flush }

  idle-endable : IsEndable (plans c.regions) e.domain (idled l)
  unfolding end_of_queue with_receiver
  idle-endable = record {
    peer = own.peer;
    terms = own.terms;
    limit = own.sender.numbers.limit;
    receiver = record { expected = own.receiver.expected; msn = own.receiver.msn; in_progress = tt; few_kept = own.receiver.few_kept; kept_rise = own.receiver.kept_rise; kept_before = own.receiver.kept_before };
  }

  length_good : (n : ℕ) → 0 < length (in_use_by l.receiver.progress ++ e.unused) → Fine (refuses_length c e l n)
  unfolding refuses_length ended_with completing with_queue with_end with_link with_unused with_receiver ended_link
  length_good n some =
      let a = length-append (in_use_by l.receiver.progress) e.unused in
      let b = length-drop 1 (in_use_by l.receiver.progress ++ e.unused) in
      record {
        goes = working.ended-after c e l s here there (completing (linked c (with_unused e []) (ended_link (idled l))) e.recv_cq (failed_receive e.number status.LocalLength (receive_of e l.receiver.progress) ∷ [])) (unused_after e l.receiver.progress) (idled l) 1 status.Flush
            (follows-served c e l (linked c (with_unused e []) (ended_link (idled l))) (failed_receive e.number status.LocalLength (receive_of e l.receiver.progress) ∷ []) s here (working.ended-link-follows c e l s here there (idled l) idle-endable)
            (All-cons IsLawfulEntry (failed_receive e.number status.LocalLength (receive_of e l.receiver.progress)) [] (entry-receive e.number (receive_of e l.receiver.progress) wc.Recv status.LocalLength 0 None own_number (omega arith)) (All-nil IsLawfulEntry)) (omega (arith, a, some)))
            (omega arith) (omega (arith, a, b, some));
      }

  -- ---- ahead and before

  ahead_good : Fine (ahead c e l)
  unfolding ahead with_receiver
  ahead_good =
      working.if_good c e l s here there l.receiver.nak_sent _ _ (quiet _ refl)
      (record {
        goes = follows-stays c e l _ s here there
            (follow-link c e l c (with_receiver l (record l.receiver { nak_sent = true })) s here (bytes-none c s)
            (link-receiver (plans c.regions) e.domain e.send_depth l own alive (record l.receiver { nak_sent = true }) (record { expected = own.receiver.expected; msn = own.receiver.msn; in_progress = own.receiver.in_progress; few_kept = own.receiver.few_kept; kept_rise = own.receiver.kept_rise; kept_before = own.receiver.kept_before }))
            alive (omega arith) (omega arith));
      })

  granted_good : (o : Option Region) (h : Reth) (n : ℕ) → Fine (answers_read c l o h n)
  granted_good None h n = quiet _ refl
  granted_good (Some r) h n = quiet _ refl

  reread_good : (o : Option Reth) (n : ℕ) → Fine (repeats_read c e l o n)
  reread_good None n = quiet _ refl
  reread_good (Some h) n = working.if_good c e l s here there (nat_le (n + pieces h.length l.terms.mtu) l.receiver.expected) _ _ (granted_good _ h n) (quiet _ refl)

  old_good : (n : ℕ) (o : Option KeptReply) → Fine (answers_old c l n o)
  old_good n None = quiet _ refl
  old_good n (Some kept) = quiet _ refl

  repeated_good : (n : ℕ) → Fine (repeated c e l d n)
  unfolding repeated
  repeated_good n = working.if_good c e l s here there (is_read_request d.opcode) _ _ (reread_good d.reth n) (working.if_good c e l s here there (is_some d.atomic) _ _ (old_good n _) (quiet _ refl))

  acts_good : (x : Context) (l' : Link) (n : ℕ) → Stays c x → Fine (acts x l' d n)
  acts_good x l' n h = working.if_good c e l s here there (finishes (part_of d.opcode) || d.ack_request) _ _ (record { goes = h }) (record { goes = h })

  -- ---- the responder once the packet is executed

  module _ (below : l.receiver.expected + span_of_packet d l.terms.mtu d.reth < number_limit) where
    -- the responder then, with another message in progress and other replies kept
    abbrev next_receiver : Progress → List KeptReply → Receiver
    next_receiver p ks = record {
      expected = l.receiver.expected + span_of_packet d l.terms.mtu d.reth;
      nak_sent = false;
      msn = (l.receiver.msn + finished d) % 16777216;
      progress = p;
      kept = ks;
    }

    next-sound : (p : Progress) (ks : List KeptReply) → IsSoundProgress (plans c.regions) e.domain l.terms.mtu p → length ks ≤ most_kept → AllPairs (λ a b. a.number < b.number) ks → All (λ k. k.number < l.receiver.expected + span_of_packet d l.terms.mtu d.reth) ks
        → IsSoundLink (plans c.regions) e.domain e.send_depth (with_receiver l (next_receiver p ks))
    next-sound p ks h few rise before = link-receiver (plans c.regions) e.domain e.send_depth l own alive (next_receiver p ks) (record { expected = below; msn = omega arith; in_progress = h; few_kept = few; kept_rise = rise; kept_before = before })

    kept-later : (m n : ℕ) (ks : List KeptReply) → m ≤ n → All (λ k. k.number < m) ks → All (λ k. k.number < n) ks
    kept-later m n [] le all = All-nil (λ k. k.number < n)
    kept-later m n (k ∷ ks) le all = All-cons (λ x. x.number < n) k ks (omega (arith, le, All-head (λ x. x.number < m) k ks all)) (kept-later m n ks le (All-tail (λ x. x.number < m) k ks all))

    progress-sound : (p : Progress) → IsSoundProgress (plans c.regions) e.domain l.terms.mtu p → IsSoundLink (plans c.regions) e.domain e.send_depth (with_receiver l (next_receiver p l.receiver.kept))
    progress-sound p h = next-sound p l.receiver.kept h own.receiver.few_kept own.receiver.kept_rise (kept-later l.receiver.expected _ l.receiver.kept (omega arith) own.receiver.kept_before)

    -- ---- a SEND

    module _ (valid : IsValid l d) (ready : is_not_ready e d ≡ false) where
      send_goes : is_send d.opcode ≡ true → is_too_long e l d ≡ false → Stays c (send_done (landed c (receive_of e l.receiver.progress).lkey ((receive_of e l.receiver.progress).local + bytes_before None l.receiver.progress) d.payload) e (executed l d) d (receive_of e l.receiver.progress) (bytes_before None l.receiver.progress + length d.payload))
      unfolding send_done executed with_receiver receive_of
      send_goes sends short = by_part (finishes (part_of d.opcode)) refl
        where
          used : List Receive
          used = in_use_by l.receiver.progress ++ e.unused

          some : 0 < length (in_use_by l.receiver.progress ++ e.unused)
          some = send-finds d.opcode (part_of d.opcode) l.receiver.progress (is_write d.opcode && is_some d.imm) e.unused sends (send-part d.opcode sends) valid.placed ready

          all : All (IsSoundReceive (plans c.regions) e.domain) (in_use_by l.receiver.progress ++ e.unused)
          all = All-append (IsSoundReceive (plans c.regions) e.domain) (in_use_by l.receiver.progress) e.unused (in_use_sound (plans c.regions) e.domain l.terms.mtu l.receiver.progress own.receiver.in_progress) (end-sound c e s.parts here).receives

          mine : IsSoundReceive (plans c.regions) e.domain (front (in_use_by l.receiver.progress ++ e.unused))
          mine = front-all (IsSoundReceive (plans c.regions) e.domain) (in_use_by l.receiver.progress ++ e.unused) all some

          fits : bytes_before None l.receiver.progress + length d.payload ≤ (front (in_use_by l.receiver.progress ++ e.unused)).length
          fits = not-less _ _ (and-false (is_send d.opcode) _ sends short)

          bytes : Bytes c (landed c (front (in_use_by l.receiver.progress ++ e.unused)).lkey ((front (in_use_by l.receiver.progress ++ e.unused)).local + bytes_before None l.receiver.progress) d.payload)
          bytes = bytes-landed c e.domain (front (in_use_by l.receiver.progress ++ e.unused)).lkey (front (in_use_by l.receiver.progress ++ e.unused)).local (front (in_use_by l.receiver.progress ++ e.unused)).length LocalWrite ((front (in_use_by l.receiver.progress ++ e.unused)).local + bytes_before None l.receiver.progress) d.payload s mine.granted (omega arith) (λ more. omega (arith, fits))

          rest : All (IsSoundReceive (plans c.regions) e.domain) (drop 1 (in_use_by l.receiver.progress ++ e.unused))
          rest = All-drop (IsSoundReceive (plans c.regions) e.domain) 1 (in_use_by l.receiver.progress ++ e.unused) all

          both_lengths : length (in_use_by l.receiver.progress ++ e.unused) ≡ length (in_use_by l.receiver.progress) + length e.unused
          both_lengths = length-append (in_use_by l.receiver.progress) e.unused

          left : length (drop 1 (in_use_by l.receiver.progress ++ e.unused)) ≡ length (in_use_by l.receiver.progress ++ e.unused) - 1
          left = length-drop 1 (in_use_by l.receiver.progress ++ e.unused)

          goes-on : (p : Progress) → IsSoundProgress (plans c.regions) e.domain l.terms.mtu p → length (in_use_by p) ≤ 1
              → Follows c e l (drop 1 (in_use_by l.receiver.progress ++ e.unused)) (with_receiver l (next_receiver p l.receiver.kept)) 0 0 (linked (landed c (front (in_use_by l.receiver.progress ++ e.unused)).lkey ((front (in_use_by l.receiver.progress ++ e.unused)).local + bytes_before None l.receiver.progress) d.payload) (with_unused e (drop 1 (in_use_by l.receiver.progress ++ e.unused))) (with_receiver l (next_receiver p l.receiver.kept)))
          goes-on p h one =
              follow c e l _ (drop 1 (in_use_by l.receiver.progress ++ e.unused)) (with_receiver l (next_receiver p l.receiver.kept)) s bytes (progress-sound p h) rest (λ t. absurd (cc (alive, t)))
              (omega (arith, both_lengths, left, in_use_one l.receiver.progress)) (omega arith) (omega (arith, both_lengths, left, some, one))

          by_part : (b : Bool) → finishes (part_of d.opcode) ≡ b → Stays c (if b
              then completing (linked (landed c (front (in_use_by l.receiver.progress ++ e.unused)).lkey ((front (in_use_by l.receiver.progress ++ e.unused)).local + bytes_before None l.receiver.progress) d.payload) (with_unused e (drop 1 (in_use_by l.receiver.progress ++ e.unused))) (with_receiver l (next_receiver NoMessage l.receiver.kept))) e.recv_cq (done_receive e.number wc.Recv (bytes_before None l.receiver.progress + length d.payload) d.imm (front (in_use_by l.receiver.progress ++ e.unused)) ∷ [])
              else linked (landed c (front (in_use_by l.receiver.progress ++ e.unused)).lkey ((front (in_use_by l.receiver.progress ++ e.unused)).local + bytes_before None l.receiver.progress) d.payload) (with_unused e (drop 1 (in_use_by l.receiver.progress ++ e.unused))) (with_receiver l (next_receiver (InSend (bytes_before None l.receiver.progress + length d.payload) (front (in_use_by l.receiver.progress ++ e.unused))) l.receiver.kept)))
          by_part true t =
              follows-stays c e l _ s here there
              (follows-served c e l _ _ s here (goes-on NoMessage tt (omega arith))
              (All-cons IsLawfulEntry _ [] (entry-receive e.number (front (in_use_by l.receiver.progress ++ e.unused)) wc.Recv status.Success (bytes_before None l.receiver.progress + length d.payload) d.imm own_number (omega (arith, fits, mine.length'))) (All-nil IsLawfulEntry))
              (omega (arith, both_lengths, left, some)))
          by_part false t =
              let size : length d.payload ≡ l.terms.mtu = unfinished-size (part_of d.opcode) (length d.payload) l.terms.mtu (send-part d.opcode sends) t valid.sized in
              let order : bytes_before None l.receiver.progress + length d.payload ≡ l.terms.mtu + bytes_before None l.receiver.progress = omega (arith, size) in
              let whole = whole-more l.terms.mtu (bytes_before None l.receiver.progress) (some_mtu l.terms.mtu own.terms.mtu) (whole_before (plans c.regions) e.domain l.terms.mtu l.receiver.progress own.receiver.in_progress) in
              follows-stays c e l _ s here there
              (goes-on (InSend (bytes_before None l.receiver.progress + length d.payload) (front (in_use_by l.receiver.progress ++ e.unused))) (record { pieces = ap (is_whole_pieces l.terms.mtu) order ∙ whole; fits = fits; receive = mine }) (omega arith))

      -- ---- a WRITE

      -- where a WRITE goes is granted, and what is left of it fits
      record IsWriting (p : Place) : Type 0 where
        few : p.length ≤ most_bytes
        bytes : (d.payload ≡ []) ⊎ IsPlace c.regions p.region (p.off + p.done) (length d.payload)
        next : finishes (part_of d.opcode) ≡ false → IsSoundWrite (plans c.regions) e.domain l.terms.mtu p.region p.off p.length (p.done + length d.payload)

      nothing-left : (q : Part) (n : ℕ) → is_part q ≡ true → is_mistotalled q n 0 ≡ false → (finishes q ≡ true) × (n ≡ 0)
      nothing-left First n p h = absurd (omega (arith, not-more 0 n h))
      nothing-left Middle n p h = absurd (omega (arith, not-more 0 n h))
      nothing-left Last n p h = (refl, not-equal n 0 h)
      nothing-left Only n p h = (refl, not-equal n 0 h)
      nothing-left NoPart n p h = absurd (cc)

      zero_is : (n : ℕ) → (n == 0) ≡ true → n ≡ 0
      zero_is n h = grind (arith, nat_tests, h)

      not_read : (n : ℕ) → is_write n ≡ true → is_read_request n ≡ false
      not_read n h = grind (arith, nat_tests, h)

      not_between : (q : Part) (n : ℕ) → is_write n ≡ true → is_part q ≡ true → not (is_send n) ≡ false ⊎ (true ≡ false) → ⊥
      not_between q n w p (inl h) = let a = write-not-send n w in absurd (cc (a, not-false (is_send n) h))
      not_between q n w p (inr h) = absurd (cc)

      no_send : (q : Part) (n : ℕ) (done : ℕ) (r : Receive) → is_write n ≡ true → is_part q ≡ true → is_out_of_place q n (InSend done r) ≡ false → ⊥
      no_send First n done r w p h = absurd (cc)
      no_send Only n done r w p h = absurd (cc)
      no_send Middle n done r w p h = not_between Middle n w p (inl h)
      no_send Last n done r w p h = not_between Last n w p (inl h)
      no_send NoPart n done r w p h = absurd (cc)

      writing : is_write d.opcode ≡ true → (r : Region) (o : Option Reth) (p : Progress) → IsSoundProgress (plans c.regions) e.domain l.terms.mtu p → reth_target c e d.opcode o ≡ Some r → is_out_of_place (part_of d.opcode) d.opcode p ≡ false
          → (nat_lt most_bytes (write_length o p) || is_mistotalled (part_of d.opcode) (length d.payload + bytes_before o p) (write_length o p)) ≡ false → IsWriting (place_of r o p)
      unfolding place_of
      writing w r None NoMessage h found placed whole =
          let total = or-false (nat_lt most_bytes 0) (is_mistotalled (part_of d.opcode) (length d.payload + 0) 0) whole in
          let none = nothing-left (part_of d.opcode) (length d.payload + 0) (write-part d.opcode w) total.1 in
          record { few = omega arith; bytes = inl (nothing_long d.payload (omega (arith, none.1))); next = λ t. absurd (cc (none.0, t)) }
      writing w r None (InSend done receive) h found placed whole = absurd (no_send (part_of d.opcode) d.opcode done receive w (write-part d.opcode w) placed)
      writing w r None (InWrite region off count done) h found placed whole =
          let total = or-false (nat_lt most_bytes count) (is_mistotalled (part_of d.opcode) (length d.payload + done) count) whole in
          let fits = fitting (part_of d.opcode) (length d.payload + done) count (write-part d.opcode w) total.1 in
          let mine = region_at c.regions h.place h.written h.there in
          let key : mine.0.keys.local ≡ region = ap (λ (z : Region). z.keys.local) mine.2 ∙ h.local in
          let size : mine.0.length ≡ h.written.length = ap (λ (z : Region). z.length) mine.2 in
          record {
            few = h.few;
            bytes = inr (record { i = h.place; region = mine.0; there = mine.1; key = key; inside = omega (arith, fits, size, h.inside) });
            next = λ t.
                let piece : length d.payload ≡ l.terms.mtu = unfinished-size (part_of d.opcode) (length d.payload) l.terms.mtu (write-part d.opcode w) t valid.sized in
                let order : done + length d.payload ≡ l.terms.mtu + done = omega (arith, piece) in
                let more = unfinished-total (part_of d.opcode) (length d.payload + done) count (write-part d.opcode w) t total.1 in
                record {
                  place = h.place;
                  written = h.written;
                  there = h.there;
                  local = h.local;
                  domain' = h.domain';
                  right = h.right;
                  inside = h.inside;
                  few = h.few;
                  pieces = ap (is_whole_pieces l.terms.mtu) order ∙ whole-more l.terms.mtu done (some_mtu l.terms.mtu own.terms.mtu) (inr h.pieces);
                  unfinished = omega (arith, more);
                };
          }
      writing w r (Some h) p sound found placed whole = by_length (h.length == 0) refl found
        where
          total : (nat_lt most_bytes h.length ≡ false) × (is_mistotalled (part_of d.opcode) (length d.payload + 0) h.length ≡ false)
          total = or-false _ _ whole

          few : h.length ≤ most_bytes
          few = not-less most_bytes h.length total.0

          by_length : (b : Bool) → (h.length == 0) ≡ b → (if b then Some no_region else read_grant c e h (if is_read_request d.opcode then RemoteRead else RemoteWrite)) ≡ Some r → IsWriting (record { region = r.keys.local; off = h.address - r.base; length = h.length; done = 0 })
          by_length true t g =
              let none = nothing-left (part_of d.opcode) (length d.payload + 0) (write-part d.opcode w) (ap (is_mistotalled (part_of d.opcode) (length d.payload + 0)) (sym (zero_is h.length t)) ∙ total.1) in
              record { few = few; bytes = inl (nothing_long d.payload (omega (arith, none.1))); next = λ f. absurd (cc (none.0, f)) }
          by_length false t g =
              let right : read_grant c e h RemoteWrite ≡ Some r = ap (λ b. read_grant c e h (if b then RemoteRead else RemoteWrite)) (sym (not_read d.opcode w)) ∙ g in
              let mine = granted-there c.regions e.domain h.rkey h.address h.length RemoteWrite r right in
              let fits = fitting (part_of d.opcode) (length d.payload + 0) h.length (write-part d.opcode w) total.1 in
              record {
                few = few;
                bytes = inr (record { i = mine.i; region = r; there = mine.there; key = refl; inside = omega (arith, fits, mine.grants.low, mine.grants.high) });
                next = λ f.
                    let piece : length d.payload ≡ l.terms.mtu = unfinished-size (part_of d.opcode) (length d.payload) l.terms.mtu (write-part d.opcode w) f valid.sized in
                    let order : 0 + length d.payload ≡ l.terms.mtu + 0 = omega (arith, piece) in
                    let more = unfinished-total (part_of d.opcode) (length d.payload + 0) h.length (write-part d.opcode w) f total.1 in
                    record {
                      place = mine.i;
                      written = plan_of r;
                      there = plan_at c.regions mine.i r mine.there;
                      local = refl;
                      domain' = mine.grants.same_domain;
                      right = mine.grants.allowed;
                      inside = omega (arith, mine.grants.low, mine.grants.high);
                      few = few;
                      pieces = ap (is_whole_pieces l.terms.mtu) order ∙ whole-more l.terms.mtu 0 (some_mtu l.terms.mtu own.terms.mtu) (inl refl);
                      unfinished = omega (arith, more);
                    };
              }

      -- the link once the packet is executed, with another message in progress
      write_goes : (p : Place) → IsWriting p → is_write d.opcode ≡ true → Stays c (write_done (written c p.region (p.off + p.done) d.payload) e (executed l d) d p (p.done + length d.payload))
      unfolding write_done executed with_receiver
      write_goes p h w = by_part (finishes (part_of d.opcode)) refl
        where
          bytes : Bytes c (written c p.region (p.off + p.done) d.payload)
          bytes = bytes-written c p.region (p.off + p.done) d.payload s h.bytes

          receives : All (IsSoundReceive (plans c.regions) e.domain) e.unused
          receives = (end-sound c e s.parts here).receives

          some : (imm : Option ℕ) → d.imm ≡ imm → is_some imm ≡ true → 0 < length e.unused
          some imm is t = some-unused e.unused (and-false (needs_receive d) (is_empty e.unused) (needs (is_send d.opcode && begins (part_of d.opcode)) (is_write d.opcode) (is_some d.imm) w (ap is_some is ∙ t)) ready)
            where
              needs : (a b m : Bool) → b ≡ true → m ≡ true → (a || (b && m)) ≡ true
              needs true b m p q = refl
              needs false b m p q = ap (λ x. x && m) p ∙ q

          immediate : (imm : Option ℕ) → d.imm ≡ imm → Stays c (with_immediate (written c p.region (p.off + p.done) d.payload) e (with_receiver l (next_receiver NoMessage l.receiver.kept)) p.length imm)
          immediate None is = follows-stays c e l _ s here there (follow-link c e l _ (with_receiver l (next_receiver NoMessage l.receiver.kept)) s here bytes (progress-sound NoMessage tt) alive (omega arith) (omega arith))
          immediate (Some n) is =
              let left = length-drop 1 e.unused in
              let one = some (Some n) is refl in
              follows-stays c e l _ s here there
              (follows-served c e l _ (done_receive e.number wc.RecvImm p.length (Some n) (front e.unused) ∷ []) s here
              (follow c e l _ (drop 1 e.unused) (with_receiver l (next_receiver NoMessage l.receiver.kept)) s bytes (progress-sound NoMessage tt) (All-drop (IsSoundReceive (plans c.regions) e.domain) 1 e.unused receives) (λ t. absurd (cc (alive, t))) (omega (arith, left)) (omega arith) (omega (arith, left)))
              (All-cons IsLawfulEntry (done_receive e.number wc.RecvImm p.length (Some n) (front e.unused)) [] (entry-receive e.number (front e.unused) wc.RecvImm status.Success p.length (Some n) own_number h.few) (All-nil IsLawfulEntry))
              (omega (arith, left, one)))

          by_part : (b : Bool) → finishes (part_of d.opcode) ≡ b → Stays c (if b then with_immediate (written c p.region (p.off + p.done) d.payload) e (with_receiver l (next_receiver NoMessage l.receiver.kept)) p.length d.imm else linked (written c p.region (p.off + p.done) d.payload) e (with_receiver l (next_receiver (InWrite p.region p.off p.length (p.done + length d.payload)) l.receiver.kept)))
          by_part true t = immediate d.imm refl
          by_part false t = follows-stays c e l _ s here there (follow-link c e l _ (with_receiver l (next_receiver (InWrite p.region p.off p.length (p.done + length d.payload)) l.receiver.kept)) s here bytes (progress-sound (InWrite p.region p.off p.length (p.done + length d.payload)) (h.next t)) alive (omega arith) (omega arith))

      -- ---- a READ and an atomic

      read_good : (r : Region) (n : ℕ) (o : Option Reth) → Fine (read_acts c e (executed l d) r n o)
      unfolding executed with_receiver
      read_good r n None = quiet _ refl
      read_good r n (Some h) = record { goes = follows-stays c e l _ s here there (follow-link c e l c (with_receiver l (next_receiver l.receiver.progress l.receiver.kept)) s here (bytes-none c s) (progress-sound l.receiver.progress own.receiver.in_progress) alive (omega arith) (omega arith)) }

      some_span : (mtu : ℕ) (o : Option Reth) → 1 ≤ span_of_packet d mtu o
      unfolding pieces
      some_span mtu None = omega arith
      some_span mtu (Some h) = by_test (is_read_request d.opcode)
        where
          by_test : (b : Bool) → 1 ≤ (if b then max 1 ((h.length + (mtu - 1)) / mtu) else 1)
          by_test true = omega arith
          by_test false = omega arith

      few_kept : (ks : List KeptReply) (k : KeptReply) → length (keeping ks k) ≤ most_kept
      unfolding keeping
      few_kept ks k = omega (arith, length-drop (length ks + 1 - most_kept) (ks ++ k ∷ []), length-append ks (k ∷ []))

      rise_kept : (ks : List KeptReply) (k : KeptReply) → AllPairs (λ a b. a.number < b.number) ks → All (λ x. x.number < k.number) ks → AllPairs (λ a b. a.number < b.number) (keeping ks k)
      unfolding keeping
      rise_kept ks k rise all = AllPairs-drop (λ (a b : KeptReply). a.number < b.number) (length ks + 1 - most_kept) (ks ++ k ∷ []) (AllPairs-push (λ (a b : KeptReply). a.number < b.number) ks k rise all)

      before_kept : (ks : List KeptReply) (k : KeptReply) (n : ℕ) → All (λ x. x.number < n) ks → k.number < n → All (λ x. x.number < n) (keeping ks k)
      unfolding keeping
      before_kept ks k n all new = All-drop (λ x. x.number < n) (length ks + 1 - most_kept) (ks ++ k ∷ []) (All-append (λ x. x.number < n) ks (k ∷ []) all (All-cons (λ x. x.number < n) k [] new (All-nil (λ x. x.number < n))))

      atomic_good : (r : Region) (n : ℕ) (o : Option AtomicEth) → target_of c e d o ≡ Some r → n ≡ l.receiver.expected → Fine (atomic_acts c e (executed l d) d r n o)
      unfolding atomic_done executed with_receiver
      atomic_good r n None found is = quiet _ refl
      atomic_good r n (Some h) found is =
          let mine = granted-there c.regions e.domain h.rkey h.address 8 RemoteAtomic r found in
          let word = word_length (atomic_value d.opcode h (word_at r (h.address - r.base))) in
          let some = some_span l.terms.mtu d.reth in
          record {
            goes = follows-stays c e l _ s here there
                (follow-link c e l (written c r.keys.local (h.address - r.base) (word_bytes (atomic_value d.opcode h (word_at r (h.address - r.base))))) (with_receiver l (next_receiver l.receiver.progress (keeping l.receiver.kept (reply h)))) s here
                (bytes-written c r.keys.local (h.address - r.base) (word_bytes (atomic_value d.opcode h (word_at r (h.address - r.base)))) s (inr (record { i = mine.i; region = r; there = mine.there; key = refl; inside = omega (arith, word, mine.grants.low, mine.grants.high) })))
                (next-sound l.receiver.progress (keeping l.receiver.kept (reply h)) own.receiver.in_progress (few_kept l.receiver.kept (reply h))
                (rise_kept l.receiver.kept (reply h) own.receiver.kept_rise (subst (λ m. All (λ x. x.number < m) l.receiver.kept) (sym is) own.receiver.kept_before))
                (before_kept l.receiver.kept (reply h) _ (kept-later l.receiver.expected _ l.receiver.kept (omega arith) own.receiver.kept_before) (omega (arith, is, some))))
                alive (omega arith) (omega arith));
          }
        where
          reply : AtomicEth → KeptReply
          reply h = record { number = n; old = word_at r (h.address - r.base) }

      -- ---- the packet acts

      packet_good : HasNoWord d → is_too_long e l d ≡ false → (r : Region) (n : ℕ) → target c e d ≡ Some r → n ≡ l.receiver.expected → Fine (packet_acts c e (executed l d) d r n)
      unfolding packet_acts executed with_receiver target
      packet_good no_word short r n found is =
          working.test_good c e l s here there (is_send d.opcode) _ _ (λ t. acts_good _ (executed l d) n (send_goes t short))
          (λ t. working.test_good c e l s here there (is_write d.opcode) _ _
          (λ w. acts_good _ (executed l d) n (write_goes (place_of r d.reth l.receiver.progress) (writing w r d.reth l.receiver.progress own.receiver.in_progress (ap (target_of c e d) (sym (no_word w)) ∙ found) valid.placed (and-false (is_write d.opcode) (is_bad_write d l.receiver.progress) w valid.written)) w))
          (λ w. working.if_good c e l s here there (is_read_request d.opcode) _ _ (read_good r n d.reth) (atomic_good r n d.atomic found is)))

  -- ---- the checks

  target_good : HasNoWord d → l.receiver.expected + span_of_packet d l.terms.mtu d.reth < number_limit → IsValid l d → (n : ℕ) → n ≡ l.receiver.expected → (o : Option Region) → target c e d ≡ o → Fine (granted_packet c e l d n o)
  unfolding not_ready
  target_good no_word below valid n is None found = refused_good n refused.Access
  target_good no_word below valid n is (Some r) found =
      working.test_good c e l s here there (is_not_ready e d) (not_ready c l n) _ (λ t. quiet _ refl)
      (λ ready. working.test_good c e l s here there (is_too_long e l d) _ _
      (λ long. length_good n (send-finds d.opcode (part_of d.opcode) l.receiver.progress (is_write d.opcode && is_some d.imm) e.unused (sends long) (send-part d.opcode (sends long)) valid.placed ready))
      (λ short. packet_good below valid ready no_word short r n found is))
    where
      first : (a b : Bool) → (a && b) ≡ true → a ≡ true
      first true b h = refl
      first false b h = absurd (cc)

      sends : is_too_long e l d ≡ true → is_send d.opcode ≡ true
      sends h = first (is_send d.opcode) _ h

  expected_good : HasNoWord d → (n : ℕ) → n ≡ l.receiver.expected → Fine (expected_packet c e l d n)
  unfolding expected_packet
  expected_good no_word n is =
      working.test_good c e l s here there (nat_le number_limit (n + span_of_packet d l.terms.mtu d.reth)) (no_repeat c) _ (λ t. quiet _ refl)
      (λ low. working.test_good c e l s here there (is_invalid l d) _ _ (λ t. refused_good n refused.Invalid)
      (λ t. target_good no_word (omega (arith, not-more number_limit (n + span_of_packet d l.terms.mtu d.reth) low, is)) (valid-parts l d t) n is (target c e d) refl))

  request_good : HasNoWord d → (o : Option ℕ) → Fine (request_at c e l d o)
  request_good no_word None = quiet _ refl
  request_good no_word (Some n) =
      working.test_good c e l s here there (nat_lt l.receiver.expected n) _ _ (λ t. ahead_good)
      (λ t. working.test_good c e l s here there (nat_lt n l.receiver.expected) _ _ (λ u. repeated_good n)
      (λ u. expected_good no_word n (omega (arith, not-less l.receiver.expected n t, not-less n l.receiver.expected u))))

  pub takes_request_good : HasNoWord d → Fine (takes_request c e l d)
  unfolding takes_request
  takes_request_good no_word = request_good no_word (unwrap_near l.terms.peer_start d.psn l.receiver.expected)
