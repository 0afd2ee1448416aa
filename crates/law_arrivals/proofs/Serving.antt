-- Requests write only into what is granted to them, into the WRITE in progress and into a receive.
use Rattle.std.proofs.Common.{arith, ◌≡◌, ◌≤◌, ◌<◌, ◌+◌, ◌-◌, ℕ, List, [], ◌∷◌, ◌++◌, length, drop, true, false, Bool, refl, sym, ap, ◌∙◌, inl, inr, subst}
use Rattle.std.specs.Prelude.{All, Option, Some, None, is_some, if◌then◌else◌, nat_lt, nat_le, ◌==◌, ◌&&◌, ◌||◌, slice_get}
use Rattle.std.proofs.lemmas.Bool.Decides.{nat_tests}
use Rattle.std.proofs.lemmas.List.Elements.{All-append, All-head}
use Rattle.rdma_types.specs.declared.answers.RefusalReason.{RefusalReason}
use Rattle.rdma_types.specs.declared.answers.RefusalReason.TheVariants as refused
use Rattle.rdma_types.specs.declared.names.Name.{Name}
use Rattle.rdma_types.specs.declared.requests.Receive.{Receive}
use Rattle.rdma_types.specs.declared.requests.WcStatus.TheVariants as status
use Rattle.rdma_types.specs.Limits.{number_limit}
use Rattle.rdma_types.specs.Lists.{at}
use Rattle.rdma_types.specs.Memory.{Grants, LocalWrite, RemoteAtomic, RemoteRead, RemoteWrite, Right, granted, grants, local_key, remote_key, word_bytes}
use Rattle.rdma_types.specs.Objects.{Region, no_region}
use Rattle.rdma_types.specs.Spans.{pieces}
use Rattle.rdma_types.proofs.Grants as grant
use Rattle.rdma_types.proofs.Tables.{same_name}
use Rattle.protocol.specs.declared.images.KeptReply.{KeptReply}
use Rattle.protocol.specs.declared.wire.AtomicEth.{AtomicEth}
use Rattle.protocol.specs.declared.wire.Reth.{Reth}
use Rattle.protocol.specs.EndWords.{EndStep, completing, failed_receive, in_use_by, linked, with_queue, with_receiver, with_unused}
use Rattle.protocol.specs.Memory.{landed, region_of_key, word_at, written}
use Rattle.protocol.specs.Numbers.{unwrap_near}
use Rattle.protocol.specs.Responder.{Place, acts, ahead, answers_old, answers_read, atomic_acts, atomic_done, atomic_value, bytes_before, executed, expected_packet, finishes, front, granted_packet, idled, is_bad_write, is_invalid, is_not_ready, is_read_request, is_send, is_too_long, is_write, keeping, no_repeat, not_ready, packet_acts, part_of, place_of, read_acts, read_grant, receive_of, refuses, refuses_length, repeated, repeats_read, request_at, reth_target, send_done, span_of_packet, takes_request, target, target_of, unused_after, with_immediate, write_done, write_length}
use Rattle.protocol.specs.State.{Context, End, InSend, InWrite, Link, NoMessage, Progress}
use Rattle.protocol.specs.Wire.{Packet}
use Rattle.protocol.proofs.WriteSizes.{write-fits}
use Rattle.protocol.specs.Changes.{is_among, is_atomic_byte, is_granted_byte, is_message_byte, is_receive_byte, is_reth_byte}
use Rattle.law_arrivals.specs.Reach.{may_write}
use Rattle.law_devices.specs.Sound.{IsSoundContext, IsSoundLink, IsSoundProgress, IsSoundReceive, IsSoundWrite, plan_of, plans}
use Rattle.law_devices.proofs.Ends.{written_ends}
use Rattle.law_devices.proofs.Landing.{nothing_long, word_length}
use Rattle.law_devices.proofs.Opcodes.{HasNoWord, IsValid, and-false, valid-parts}
use Rattle.law_devices.proofs.Regions.{at_key, first_found, region_at}
use Rattle.law_devices.proofs.Rooms.{IsHere, end-sound}
use Rattle.law_devices.proofs.Serving.{in_use_sound}
use Rattle.law_devices.proofs.Working.{linked-sound}
use Rattle.law_arrivals.proofs.Changes.{Changes, changes-written}
use Rattle.law_arrivals.proofs.Landing.{among, changes-landed}
use Rattle.law_arrivals.proofs.Steps as steps

-- ---- what a packet may change

and-both : (a b : Bool) → a ≡ true → b ≡ true → (a && b) ≡ true
and-both a b h g = ap (λ x. x && b) h ∙ g

equal-is : (a b : ℕ) → a ≡ b → (a == b) ≡ true
equal-is a b h = grind (arith, nat_tests, h)

-- a byte of the range that the region grants
granted-byte : (domain : Name) (rkey from count : ℕ) (right : Right) (r : Region) (k : ℕ) → Grants remote_key domain rkey from count right r → is_among from count (r.base + k) ≡ true → is_granted_byte domain r rkey from count right k ≡ true
granted-byte domain rkey from count right r k g inside = grind (arith, nat_tests, same_name domain, g.same_domain, g.same_key, g.low, g.high, g.allowed, inside)

-- the region that is granted is the one of its local key
record IsGrant (c : Context) (domain : Name) (rkey from count : ℕ) (right : Right) (r : Region) : Type 0 where
  i : ℕ
  there : slice_get c.regions i ≡ Some r
  found : at local_key no_region r.keys.local c.regions ≡ r
  grants : Grants remote_key domain rkey from count right r

grant-of : (c : Context) (domain : Name) (rkey from count : ℕ) (right : Right) (r : Region) → IsSoundContext c → granted remote_key c.regions domain rkey from count right ≡ Some r → IsGrant c domain rkey from count right r
unfolding granted
grant-of c domain rkey from count right r s h =
    let f = first_found (grants remote_key domain rkey from count right) c.regions r h in
    record { i = f.0; there = f.1; found = at_key c.regions f.0 r s.parts.keys f.1; grants = grant.granting remote_key domain rkey from count right r f.2 }

-- bytes are written into a granted range of which each byte may change
changes-granted : (may : Region → ℕ → Bool) (c : Context) (e : End) (domain : Name) (rkey from count : ℕ) (right : Right) (r : Region) (bytes : List ℕ) → IsSoundContext c → IsGrant c domain rkey from count right r → length bytes ≤ count
    → ((k : ℕ) → is_granted_byte domain r rkey from count right k ≡ true → may r k ≡ true) → Changes may c e (written c r.keys.local (from - r.base) bytes)
unfolding region_of_key
changes-granted may c e domain rkey from count right r bytes s g few inside =
    changes-written may c e r.keys.local (from - r.base) bytes s
    (inr (record { i = g.i; region = r; there = g.there; key = refl; inside = omega (arith, few, g.grants.low, g.grants.high) }))
    (λ k low high. subst (λ z. may z k ≡ true) (sym g.found) (inside k (granted-byte domain rkey from count right r k g.grants (among from count (r.base + k) (omega (arith, low, g.grants.low)) (omega (arith, high, few, g.grants.low))))))

-- ---- receives

-- a receive that holds bytes is one of them
front-some : (P : Receive → Type 0) (xs : List Receive) → All P xs → 0 < (front xs).length → P (front xs)
front-some P [] all h = absurd (omega (arith, h))
front-some P (x ∷ xs) all h = All-head P x xs all

front-byte : (r : Region) (k : ℕ) (xs : List Receive) → ((r.keys.local == (front xs).lkey) && is_among (front xs).local (front xs).length (r.base + k)) ≡ true → is_receive_byte r k xs ≡ true
front-byte r k [] h = absurd (nowhere (r.base + k) (r.keys.local == 0) h)
  where
    nowhere : (n : ℕ) (b : Bool) → (b && is_among 0 0 n) ≡ true → ⊥
    nowhere n true g = grind (arith, nat_tests, g)
    nowhere n false g = absurd (cc)
front-byte r k (x ∷ xs) h = h

module _ (c : Context) (e : End) (l : Link) (s : IsSoundContext c) (here : IsHere c e) (there : e.link ≡ Some l) (d : Packet) where
  -- what a request may change
  abbrev pub may : Region → ℕ → Bool
  may = may_write e.domain l.receiver e.unused d

  abbrev Fine : EndStep → Type 0
  Fine = steps.Fine may c e l s here there

  -- .. by its kind
  as_send : is_send d.opcode ≡ true → (r : Region) (k : ℕ) → may r k ≡ is_receive_byte r k (in_use_by l.receiver.progress ++ e.unused)
  as_send t r k = ap (λ b. if b then is_receive_byte r k (in_use_by l.receiver.progress ++ e.unused) else if is_write d.opcode then (if is_some d.reth then is_reth_byte e.domain r k d.reth else is_message_byte r k l.receiver.progress) else if is_read_request d.opcode then false else is_atomic_byte e.domain r k d.atomic) t

  as_write : is_write d.opcode ≡ true → (r : Region) (k : ℕ) → may r k ≡ (if is_some d.reth then is_reth_byte e.domain r k d.reth else is_message_byte r k l.receiver.progress)
  as_write w r k = let no_send : is_send d.opcode ≡ false = grind (arith, nat_tests, w) in rw (no_send, w) refl

  as_write_first : is_write d.opcode ≡ true → (h : Reth) → d.reth ≡ Some h → (r : Region) (k : ℕ) → may r k ≡ is_reth_byte e.domain r k (Some h)
  as_write_first w h is r k = as_write w r k ∙ ap (λ o. if is_some o then is_reth_byte e.domain r k o else is_message_byte r k l.receiver.progress) is

  as_write_on : is_write d.opcode ≡ true → d.reth ≡ None → (r : Region) (k : ℕ) → may r k ≡ is_message_byte r k l.receiver.progress
  as_write_on w is r k = as_write w r k ∙ ap (λ o. if is_some o then is_reth_byte e.domain r k o else is_message_byte r k l.receiver.progress) is

  as_atomic : is_send d.opcode ≡ false → is_write d.opcode ≡ false → is_read_request d.opcode ≡ false → (r : Region) (k : ℕ) → may r k ≡ is_atomic_byte e.domain r k d.atomic
  as_atomic t w u r k = rw (t, w, u) refl

  own : IsSoundLink (plans c.regions) e.domain e.send_depth l
  own = linked-sound c e l s here there

  none : Changes may c e c
  none = steps.none may c e l s here there

  if_changes : (b : Bool) (x y : Context) → Changes may c e x → Changes may c e y → Changes may c e (if b then x else y)
  if_changes true x y h g = h
  if_changes false x y h g = g

  -- ---- refusals, ahead and before

  refused_fine : (n : ℕ) (w : RefusalReason) → Fine (refuses c e l n w)
  unfolding with_unused
  refused_fine n w = steps.to_ended may c e l s here there c e.unused l status.Flush none refl refl

  length_fine : (n : ℕ) → Fine (refuses_length c e l n)
  unfolding refuses_length with_receiver completing with_queue
  length_fine n = steps.to_ended may c e l s here there (completing c e.recv_cq (failed_receive e.number status.LocalLength (receive_of e l.receiver.progress) ∷ [])) (unused_after e l.receiver.progress) (idled l) status.Flush (steps.to_recv_cq may c e l s here there c (failed_receive e.number status.LocalLength (receive_of e l.receiver.progress) ∷ []) none) refl refl

  ahead_fine : Fine (ahead c e l)
  unfolding ahead with_receiver
  ahead_fine = steps.if_fine may c e l s here there l.receiver.nak_sent _ _ none (steps.to_link may c e l s here there c (record l { receiver = record l.receiver { nak_sent = true } }) none refl refl)

  granted_fine : (o : Option Region) (h : Reth) (n : ℕ) → Fine (answers_read c l o h n)
  granted_fine None h n = none
  granted_fine (Some r) h n = none

  reread_fine : (o : Option Reth) (n : ℕ) → Fine (repeats_read c e l o n)
  reread_fine None n = none
  reread_fine (Some h) n = steps.if_fine may c e l s here there (nat_le (n + pieces h.length l.terms.mtu) l.receiver.expected) _ _ (granted_fine _ h n) none

  old_fine : (n : ℕ) (o : Option KeptReply) → Fine (answers_old c l n o)
  old_fine n None = none
  old_fine n (Some kept) = none

  repeated_fine : (n : ℕ) → Fine (repeated c e l d n)
  unfolding repeated
  repeated_fine n = steps.if_fine may c e l s here there (is_read_request d.opcode) _ _ (reread_fine d.reth n) (steps.if_fine may c e l s here there (is_some d.atomic) _ _ (old_fine n _) none)

  acts_fine : (x : Context) (l' : Link) (n : ℕ) → Changes may c e x → Fine (acts x l' d n)
  acts_fine x l' n h = steps.if_fine may c e l s here there (finishes (part_of d.opcode) || d.ack_request) _ _ h h

  -- ---- a SEND

  -- the receive that is in use, or the oldest unused one
  abbrev mine : Receive
  mine = front (in_use_by l.receiver.progress ++ e.unused)

  -- the link once the packet is executed, with another message in progress
  abbrev next : Progress → Link
  next p = record (executed l d) { receiver = record (executed l d).receiver { progress = p } }

  send_lands : is_send d.opcode ≡ true → is_too_long e l d ≡ false → Changes may c e (landed c mine.lkey (mine.local + bytes_before None l.receiver.progress) d.payload)
  unfolding receive_of
  send_lands sends short = changes-landed may c e e.domain mine.lkey mine.local mine.length LocalWrite (mine.local + bytes_before None l.receiver.progress) d.payload s (λ more. (sound more).granted) (omega arith) (λ more. omega (arith, fits)) inside
    where
      fits : bytes_before None l.receiver.progress + length d.payload ≤ mine.length
      fits = grind (arith, nat_tests, and-false (is_send d.opcode) _ sends short)

      all : All (IsSoundReceive (plans c.regions) e.domain) (in_use_by l.receiver.progress ++ e.unused)
      all = All-append (IsSoundReceive (plans c.regions) e.domain) (in_use_by l.receiver.progress) e.unused (in_use_sound (plans c.regions) e.domain l.terms.mtu l.receiver.progress own.receiver.in_progress) (end-sound c e s.parts here).receives

      sound : 0 < length d.payload → IsSoundReceive (plans c.regions) e.domain mine
      sound more = front-some (IsSoundReceive (plans c.regions) e.domain) (in_use_by l.receiver.progress ++ e.unused) all (omega (arith, more, fits))

      inside : (r : Region) (k : ℕ) → ((r.keys.local == mine.lkey) && is_among mine.local mine.length (r.base + k)) ≡ true → may r k ≡ true
      inside r k g = as_send sends r k ∙ front-byte r k (in_use_by l.receiver.progress ++ e.unused) g

  send_goes : is_send d.opcode ≡ true → is_too_long e l d ≡ false → Changes may c e (send_done (landed c (receive_of e l.receiver.progress).lkey ((receive_of e l.receiver.progress).local + bytes_before None l.receiver.progress) d.payload) e (executed l d) d (receive_of e l.receiver.progress) (bytes_before None l.receiver.progress + length d.payload))
  unfolding send_done executed with_receiver receive_of landed
  send_goes sends short =
      if_changes (finishes (part_of d.opcode)) _ _
      (steps.to_recv_cq may c e l s here there _ _ (goes-on NoMessage))
      (goes-on (InSend (bytes_before None l.receiver.progress + length d.payload) mine))
    where
      goes-on : (p : Progress) → Changes may c e (linked (landed c mine.lkey (mine.local + bytes_before None l.receiver.progress) d.payload) (with_unused e (unused_after e l.receiver.progress)) (next p))
      goes-on p = steps.to_end may c e l s here there _ (unused_after e l.receiver.progress) (next p) (send_lands sends short) (written_ends c mine.lkey _ d.payload) refl

  -- ---- a WRITE

  nothing : (lkey off : ℕ) → length d.payload ≤ 0 → Changes may c e (written c lkey off d.payload)
  nothing lkey off few = changes-written may c e lkey off d.payload s (inl (nothing_long d.payload (omega (arith, few)))) (λ k low high. absurd (omega (arith, few, low, high)))

  goes-on-writing : is_write d.opcode ≡ true → d.reth ≡ None → (region off count done : ℕ) → l.receiver.progress ≡ InWrite region off count done → IsSoundWrite (plans c.regions) e.domain l.terms.mtu region off count done → length d.payload + done ≤ count → Changes may c e (written c region (off + done) d.payload)
  unfolding region_of_key
  goes-on-writing w reth region off count done progress sound fits =
      changes-written may c e region (off + done) d.payload s
      (inr (record { i = sound.place; region = there-is.0; there = there-is.1; key = key; inside = omega (arith, fits, size, sound.inside) }))
      (λ k low high. as_write_on w reth (mine-at region) k
      ∙ (ap (is_message_byte (mine-at region) k) progress ∙ and-both ((mine-at region).keys.local == region) _ (equal-is (mine-at region).keys.local region (ap local_key found ∙ key)) (among off count k (omega (arith, low)) (omega (arith, high, fits)))))
    where
      mine-at : ℕ → Region
      mine-at n = at local_key no_region n c.regions

      there-is : (r : Region) × (slice_get c.regions sound.place ≡ Some r) × (plan_of r ≡ sound.written)
      there-is = region_at c.regions sound.place sound.written sound.there

      key : there-is.0.keys.local ≡ region
      key = ap (λ (z : Region). z.keys.local) there-is.2 ∙ sound.local

      size : there-is.0.length ≡ sound.written.length
      size = ap (λ (z : Region). z.length) there-is.2

      found : at local_key no_region region c.regions ≡ there-is.0
      found = ap (λ n. at local_key no_region n c.regions) (sym key) ∙ at_key c.regions sound.place there-is.0 s.parts.keys there-is.1

  -- the bytes of a WRITE go into the range of its RETH, or into that of the WRITE in progress
  write_lands : is_write d.opcode ≡ true → (r : Region) (o : Option Reth) (p : Progress) → d.reth ≡ o → l.receiver.progress ≡ p → IsSoundProgress (plans c.regions) e.domain l.terms.mtu p
      → reth_target c e d.opcode o ≡ Some r → length d.payload + bytes_before o p ≤ write_length o p → Changes may c e (written c (place_of r o p).region ((place_of r o p).off + (place_of r o p).done) d.payload)
  unfolding place_of
  write_lands w r None NoMessage reth progress sound found fits = nothing 0 0 (omega (arith, fits))
  write_lands w r None (InSend done receive) reth progress sound found fits = nothing 0 0 (omega (arith, fits))
  write_lands w r None (InWrite region off count done) reth progress sound found fits = goes-on-writing w reth region off count done progress sound fits
  write_lands w r (Some h) p reth progress sound found fits = by_length (h.length == 0) refl found
    where
      by_length : (b : Bool) → (h.length == 0) ≡ b → (if b then Some no_region else read_grant c e h (if is_read_request d.opcode then RemoteRead else RemoteWrite)) ≡ Some r → Changes may c e (written c r.keys.local ((h.address - r.base) + 0) d.payload)
      by_length true t g = let empty : h.length ≡ 0 = grind (arith, nat_tests, t) in nothing r.keys.local ((h.address - r.base) + 0) (omega (arith, fits, empty))
      by_length false t g =
          let no_read : is_read_request d.opcode ≡ false = grind (arith, nat_tests, w) in
          let right : read_grant c e h RemoteWrite ≡ Some r = ap (λ b. read_grant c e h (if b then RemoteRead else RemoteWrite)) (sym no_read) ∙ g in
          let plain : h.address - r.base ≡ (h.address - r.base) + 0 = omega arith in
          subst (λ n. Changes may c e (written c r.keys.local n d.payload)) plain
          (changes-granted may c e e.domain h.rkey h.address h.length RemoteWrite r d.payload s (grant-of c e.domain h.rkey h.address h.length RemoteWrite r s right) (omega (arith, fits))
          (λ k g'. as_write_first w h reth r k ∙ g'))

  write_goes : (p : Place) → Changes may c e (written c p.region (p.off + p.done) d.payload) → Changes may c e (write_done (written c p.region (p.off + p.done) d.payload) e (executed l d) d p (p.done + length d.payload))
  unfolding write_done executed with_receiver
  write_goes p h = if_changes (finishes (part_of d.opcode)) _ _ (immediate d.imm) (steps.to_link may c e l s here there _ (next (InWrite p.region p.off p.length (p.done + length d.payload))) h (written_ends c p.region (p.off + p.done) d.payload) refl)
    where
      immediate : (imm : Option ℕ) → Changes may c e (with_immediate (written c p.region (p.off + p.done) d.payload) e (next NoMessage) p.length imm)
      immediate None = steps.to_link may c e l s here there _ (next NoMessage) h (written_ends c p.region (p.off + p.done) d.payload) refl
      immediate (Some n) = steps.to_recv_cq may c e l s here there _ _ (steps.to_end may c e l s here there _ (drop 1 e.unused) (next NoMessage) h (written_ends c p.region (p.off + p.done) d.payload) refl)

  -- ---- a READ and an atomic

  read_fine : (r : Region) (n : ℕ) (o : Option Reth) → Fine (read_acts c e (executed l d) r n o)
  unfolding executed with_receiver
  read_fine r n None = none
  read_fine r n (Some h) = steps.to_link may c e l s here there c (next l.receiver.progress) none refl refl

  atomic_fine : is_send d.opcode ≡ false → is_write d.opcode ≡ false → is_read_request d.opcode ≡ false → (r : Region) (n : ℕ) (o : Option AtomicEth) → d.atomic ≡ o → target_of c e d o ≡ Some r → Fine (atomic_acts c e (executed l d) d r n o)
  unfolding atomic_done executed with_receiver
  atomic_fine no_send no_write no_read r n None is found = none
  atomic_fine no_send no_write no_read r n (Some h) is found =
      let word = atomic_value d.opcode h (word_at r (h.address - r.base)) in
      steps.to_link may c e l s here there _ (record (next l.receiver.progress) { receiver = record (next l.receiver.progress).receiver { kept = keeping l.receiver.kept (record { number = n; old = word_at r (h.address - r.base) }) } })
      (changes-granted may c e e.domain h.rkey h.address 8 RemoteAtomic r (word_bytes word) s (grant-of c e.domain h.rkey h.address 8 RemoteAtomic r s found) (omega (arith, word_length word))
      (λ k g. as_atomic no_send no_write no_read r k ∙ (ap (is_atomic_byte e.domain r k) is ∙ g)))
      (written_ends c r.keys.local (h.address - r.base) (word_bytes word)) refl

  -- ---- the packet acts, and the checks before that

  packet_fine : HasNoWord d → is_too_long e l d ≡ false → IsValid l d → (r : Region) (n : ℕ) → target c e d ≡ Some r → Fine (packet_acts c e (executed l d) d r n)
  unfolding packet_acts target executed with_receiver
  packet_fine no_word short valid r n found =
      steps.test_fine may c e l s here there (is_send d.opcode) _ _ (λ t. acts_fine _ (executed l d) n (send_goes t short))
      (λ t. steps.test_fine may c e l s here there (is_write d.opcode) _ _
      (λ w. acts_fine _ (executed l d) n (write_goes (place_of r d.reth l.receiver.progress) (write_lands w r d.reth l.receiver.progress refl refl own.receiver.in_progress (ap (target_of c e d) (sym (no_word w)) ∙ found) (write-fits d l.receiver.progress w (and-false (is_write d.opcode) (is_bad_write d l.receiver.progress) w valid.written)))))
      (λ w. steps.test_fine may c e l s here there (is_read_request d.opcode) _ _ (λ u. read_fine r n d.reth) (λ u. atomic_fine t w u r n d.atomic refl found)))

  target_fine : HasNoWord d → IsValid l d → (n : ℕ) (o : Option Region) → target c e d ≡ o → Fine (granted_packet c e l d n o)
  unfolding not_ready
  target_fine no_word valid n None found = refused_fine n refused.Access
  target_fine no_word valid n (Some r) found =
      steps.if_fine may c e l s here there (is_not_ready e d) (not_ready c l n) _ none
      (steps.test_fine may c e l s here there (is_too_long e l d) _ _ (λ long. length_fine n) (λ short. packet_fine no_word short valid r n found))

  expected_fine : HasNoWord d → (n : ℕ) → Fine (expected_packet c e l d n)
  unfolding expected_packet
  expected_fine no_word n =
      steps.if_fine may c e l s here there (nat_le number_limit (n + span_of_packet d l.terms.mtu d.reth)) (no_repeat c) _ none
      (steps.test_fine may c e l s here there (is_invalid l d) _ _ (λ t. refused_fine n refused.Invalid) (λ t. target_fine no_word (valid-parts l d t) n (target c e d) refl))

  request_at_fine : HasNoWord d → (o : Option ℕ) → Fine (request_at c e l d o)
  request_at_fine no_word None = none
  request_at_fine no_word (Some n) =
      steps.if_fine may c e l s here there (nat_lt l.receiver.expected n) _ _ ahead_fine
      (steps.if_fine may c e l s here there (nat_lt n l.receiver.expected) _ _ (repeated_fine n) (expected_fine no_word n))

  pub request_fine : HasNoWord d → Fine (takes_request c e l d)
  unfolding takes_request
  request_fine no_word = request_at_fine no_word (unwrap_near l.terms.peer_start d.psn l.receiver.expected)
