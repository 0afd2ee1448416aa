-- No end of a connection refuses a request of its peer.
use Rattle.std.proofs.Common.{arith, ◌≡◌, ℕ, ◌+◌, ◌%◌, ◌≤◌, ◌<◌, List, [], ◌∷◌, get_or, length, true, false, Bool, refl, sym, subst, ap, ◌∙◌, Some, None, Option, ◌⊎◌, inl, inr, ltb-true, le-ltb, le-leb, eq-eqb}
use Rattle.std.specs.Prelude.{All, bytes_eq, map, nat_le, nat_lt, not, slice_get, ◌&&◌, ◌||◌, ◌==◌}
use Rattle.std.proofs.lemmas.List.Elements.{All-head}
use Rattle.std.proofs.lemmas.List.{get_or-take}
use Rattle.std.proofs.lemmas.Option.{slice_get-get_or}
use Rattle.rdma_types.specs.declared.answers.RefusalReason.{RefusalReason}
use Rattle.rdma_types.specs.declared.answers.RefusalReason.TheVariants as whys
use Rattle.rdma_types.specs.declared.names.Name.{Name}
use Rattle.rdma_types.specs.declared.names.ObjName.{ObjName}
use Rattle.rdma_types.specs.declared.requests.Keys.{Keys}
use Rattle.rdma_types.specs.declared.requests.Receive.{Receive}
use Rattle.rdma_types.specs.declared.rights.Rights.{Rights}
use Rattle.rdma_types.specs.Kinds.{is_atomic, is_send, kind_of, size_of}
use Rattle.rdma_types.specs.Lists.{named}
use Rattle.rdma_types.specs.Memory.{RemoteRead, allows, granted, grants, holds, is_granted, remote_key}
use Rattle.rdma_types.specs.Objects.{Posted, Region, no_posted, no_region}
use Rattle.rdma_types.proofs.Tables.{same_name}
use Rattle.packetless_machine.specs.declared.steps.MachineStep.TheVariants as steps
use Rattle.packetless_machine.specs.Machine.{End, Machine, end_of, regions_of}
use Rattle.packetless_machine.specs.Steps as step
use Rattle.packetless_machine.specs.Steps.{current, first_receive, has_current, has_peer, has_turn, is_current_granted, is_granted_there, is_misaligned, is_request_granted, lands_before, may_refuse, may_refuse_for, overflows, peer_of, receive_for}
use Rattle.packetless_machine.specs.Verbs.{region_of}
use Rattle.mailbox_rules.specs.declared.due.Due.{Due}
use Rattle.mailbox_rules.specs.declared.letters.Letter.{Letter}
use Rattle.mailbox_rules.specs.Calls.{message_of}
use Rattle.mailbox_rules.specs.Histories.{Placed, placed_letters, sent_letters}
use Rattle.mailbox_rules.specs.Opening.{domain_name, place_bytes, receiver_end, receiver_receive, sender, sender_end, sender_region, sender_remote_key, slot_address}
use Rattle.mailbox_rules.specs.State.{Channel, channel}
use Rattle.law_mailbox.specs.Ending.{NoRequestIsRefused}
use Rattle.law_mailbox.specs.Held.{AtReceiverOf, AtSenderOf, IsEndOf}
use Rattle.law_mailbox.specs.Kept.{HoldsPart, IsKept, IsOpened, freed_as, read_as, sent_as, sight_of}
use Rattle.law_mailbox.proofs.connection.Connected.{stepping_connected}
use Rattle.law_mailbox.proofs.connection.Offers.{IsReadOf, read_of}
use Rattle.law_mailbox.proofs.connection.Quiet.{is_odd_freed, parity}
use Rattle.law_mailbox.proofs.connection.Runs.{sent_at}
use Rattle.law_mailbox.proofs.work.Channels.{both}
use Rattle.law_mailbox.proofs.work.Postings.{and_both, some_granted}
use Rattle.law_mailbox.proofs.work.Staged.{message_fits}

-- ---- a request that could be refused

-- it has its turn, and its peer has not ended
record MayBeRefused (m : Machine) (q : ObjName) (why : RefusalReason) : Type 0 where
  turn : (end_of m q).acted < length (end_of m q).posted
  lives : (peer_of m q).ended ≡ false
  reason : may_refuse_for m q why ≡ true

may_be : (m : Machine) (q : ObjName) (why : RefusalReason) → may_refuse m q why ≡ true → MayBeRefused m q why
unfolding may_refuse has_current has_turn
may_be m q why may =
    let e : End = end_of m q in
    let a = both (has_peer m q && (not (peer_of m q).ended && (nat_lt e.acted (length e.posted) && not ((current e).request.fence && lands_before e)))) (may_refuse_for m q why) may in
    let b = both (has_peer m q) (not (peer_of m q).ended && (nat_lt e.acted (length e.posted) && not ((current e).request.fence && lands_before e))) a.0 in
    let d = both (not (peer_of m q).ended) (nat_lt e.acted (length e.posted) && not ((current e).request.fence && lands_before e)) b.1 in
    let f = both (nat_lt e.acted (length e.posted)) (not ((current e).request.fence && lands_before e)) d.1 in
    record { turn = ltb-true e.acted (length e.posted) f.0; lives = not_so (peer_of m q).ended d.0; reason = a.1 }
  where
    not_so : (b : Bool) → not b ≡ true → b ≡ false
    not_so true e = cc
    not_so false e = refl

-- a Send is refused only where its receive is too short, and a Read only where its bytes are not granted
send_too_long : (m : Machine) (q : ObjName) (why : RefusalReason) (p : Posted) → current (end_of m q) ≡ p → is_send (kind_of p) ≡ true → is_atomic (kind_of p) ≡ false → may_refuse_for m q why ≡ true → overflows (receive_for (peer_of m q)) (size_of p) ≡ true
unfolding may_refuse_for
send_too_long m q whys.Invalid p is send plain may = let no : false ≡ true = sym (misaligned_not p plain) ∙ (ap is_misaligned (sym is) ∙ may) in cc
  where
    misaligned_not : (r : Posted) → is_atomic (kind_of r) ≡ false → is_misaligned r ≡ false
    misaligned_not r e = ap (λ (b : Bool). b && not (r.request.shape.remote % 8 == 0)) e
send_too_long m q whys.Access p is send plain may =
    let second = (both (not (is_misaligned (current (end_of m q)))) (not (is_send (kind_of (current (end_of m q)))) && not (is_current_granted m q)) may).1 in
    let first = (both (not (is_send (kind_of (current (end_of m q))))) (not (is_current_granted m q)) second).0 in
    let no : false ≡ true = ap not (sym (ap (λ (r : Posted). is_send (kind_of r)) is ∙ send)) ∙ first in
    cc
send_too_long m q whys.Length p is send plain may =
    ap (λ (r : Posted). overflows (receive_for (peer_of m q)) (size_of r)) (sym is) ∙ (both (is_send (kind_of (current (end_of m q)))) (overflows (receive_for (peer_of m q)) (size_of (current (end_of m q)))) may).1

read_not_granted : (m : Machine) (q : ObjName) (why : RefusalReason) (p : Posted) → current (end_of m q) ≡ p → is_send (kind_of p) ≡ false → is_atomic (kind_of p) ≡ false → may_refuse_for m q why ≡ true → is_request_granted m q p ≡ false
unfolding may_refuse_for
read_not_granted m q whys.Invalid p is send plain may = let no : false ≡ true = sym (misaligned_not p plain) ∙ (ap is_misaligned (sym is) ∙ may) in cc
  where
    misaligned_not : (r : Posted) → is_atomic (kind_of r) ≡ false → is_misaligned r ≡ false
    misaligned_not r e = ap (λ (b : Bool). b && not (r.request.shape.remote % 8 == 0)) e
read_not_granted m q whys.Access p is send plain may =
    let second = (both (not (is_misaligned (current (end_of m q)))) (not (is_send (kind_of (current (end_of m q)))) && not (is_current_granted m q)) may).1 in
    not_so (is_request_granted m q p) (ap (λ (r : Posted). not (is_request_granted m q r)) (sym is) ∙ (both (not (is_send (kind_of (current (end_of m q))))) (not (is_current_granted m q)) second).1)
  where
    not_so : (b : Bool) → not b ≡ true → b ≡ false
    not_so true e = cc
    not_so false e = refl
read_not_granted m q whys.Length p is send plain may =
    let first = (both (is_send (kind_of (current (end_of m q)))) (overflows (receive_for (peer_of m q)) (size_of (current (end_of m q)))) may).0 in
    let no : false ≡ true = sym (ap (λ (r : Posted). is_send (kind_of r)) is ∙ send) ∙ first in
    cc

-- ---- a receive of the receiver takes each message

fits_place : (i : ℕ) (v : Receive) (n : ℕ) → v ≡ receiver_receive i v.id → n ≤ place_bytes → nat_lt v.length n ≡ false
fits_place i v n is small = let long : v.length ≡ place_bytes = ap (λ (r : Receive). r.length) is in le-ltb v.length n (omega (arith, long, small))

no_overflow : (i : ℕ) (o : Option Receive) (vs : List Receive) (n : ℕ) → n ≤ place_bytes → ((v : Receive) → o ≡ Some v → v ≡ receiver_receive i v.id) → All (λ v. v ≡ receiver_receive i v.id) vs → overflows (first_receive o vs) n ≡ false
unfolding overflows first_receive
no_overflow i (Some v) vs n small used unused = fits_place i v n (used v refl) small
no_overflow i None [] n small used unused = refl
no_overflow i None (v ∷ vs) n small used unused = fits_place i v n (All-head (λ w. w ≡ receiver_receive i w.id) v vs unused) small

never_over : (o : Option Receive) → overflows o 0 ≡ false
unfolding overflows
never_over None = refl
never_over (Some v) = le-ltb v.length 0 (omega arith)

-- ---- both ends of a connection

module _ (m : Machine) (i : ℕ) (opened : IsOpened m i) (owed : List Due) (c : Channel) (sent : List Letter) (open' : List Placed) (h : IsKept i (sight_of m owed i) c sent open') where
  abbrev blank : Letter
  blank = record { tag = 0; body = [] }

  sender_never : (why : RefusalReason) → may_refuse m (sender_end i) why ≡ true → ⊥
  unfolding receive_for
  sender_never why may =
      let b = may_be m (sender_end i) why may in
      let e : End = end_of m (sender_end i) in
      let x : End = end_of m (receiver_end i) in
      let turn = b.turn in
      let within = h.sends.posted_within in
      let next : Letter = get_or sent (end_of m (sender_end i)).acted (record { tag = 0; body = [] }) in
      let at : slice_get sent (end_of m (sender_end i)).acted ≡ Some (get_or sent (end_of m (sender_end i)).acted (record { tag = 0; body = [] })) = slice_get-get_or sent (end_of m (sender_end i)).acted (record { tag = 0; body = [] }) (omega (arith, turn, within)) in
      let is : current (end_of m (sender_end i)) ≡ sent_as i next =
      ap (λ (ps : List Posted). get_or ps e.acted no_posted) h.sends.queue_of_sender ∙ (get_or-take (length e.posted) (map (sent_as i) sent) e.acted no_posted b.turn ∙ sent_at i sent e.acted next at) in
      let peer : peer_of m (sender_end i) ≡ end_of m (receiver_end i) = ap (end_of m) opened.sender_joined.peer_is in
      let lives : (end_of m (receiver_end i)).ended ≡ false = ap (λ (z : End). z.ended) (sym peer) ∙ b.lives in
      let fits = message_fits i next in
      let part : HoldsPart i (sight_of m owed i).landed e.into x.in_use (Some next) = subst (λ (l : Option Letter). HoldsPart i (sight_of m owed i).landed (end_of m (sender_end i)).into (end_of m (receiver_end i)).in_use l) at (h.messages.part_holds lives) in
      let long : overflows (receive_for (peer_of m (sender_end i))) (size_of (sent_as i next)) ≡ true = send_too_long m (sender_end i) why (sent_as i next) is refl refl b.reason in
      let no : overflows (first_receive x.in_use x.unused) (length (message_of i next)) ≡ false = no_overflow i x.in_use x.unused (length (message_of i next)) (omega (arith, fits)) (λ v used. in_part v x.in_use used part) (h.places.receives_known lives) in
      let both_ways : true ≡ false = sym long ∙ (ap (λ (z : End). overflows (receive_for z) (length (message_of i next))) peer ∙ no) in
      cc
    where
      in_part : (v : Receive) (o : Option Receive) → o ≡ Some v → HoldsPart i (sight_of m owed i).landed (end_of m (sender_end i)).into o (Some (get_or sent (end_of m (sender_end i)).acted (record { tag = 0; body = [] }))) → v ≡ receiver_receive i v.id
      in_part v None used part = cc
      in_part v (Some w) used part = let same : w ≡ v = cc in subst (λ (z : Receive). z ≡ receiver_receive i z.id) same part.0

  -- bytes of the slot are granted to the receiver's end
  slot_granted : (n : ℕ) → n ≤ 1048576 → is_granted remote_key (regions_of m (sender i)) domain_name (sender_remote_key i) slot_address n RemoteRead ≡ true
  unfolding is_granted granted grants allows holds region_of
  slot_granted n fits =
      let is = opened.sender_region_is in
      let begins = is.begins in
      let long = is.long in
      let r : Region = region_of m (sender_region i) in
      let domain : bytes_eq r.domain domain_name ≡ true = ap (λ (d : Name). bytes_eq d domain_name) is.domain ∙ same_name domain_name in
      let key : (r.keys.remote == sender_remote_key i) ≡ true = eq-eqb r.keys.remote (sender_remote_key i) (ap (λ (k : Keys). k.remote) is.keyed ∙ (omega arith)) in
      let right : allows r.rights RemoteRead ≡ true = ap (λ (x : Rights). allows x RemoteRead) is.granted in
      let low : nat_le r.base slot_address ≡ true = le-leb r.base slot_address (omega (arith, begins)) in
      let high : nat_le (slot_address + n) (r.base + r.length) ≡ true = le-leb (slot_address + n) (r.base + r.length) (omega (arith, begins, long, fits)) in
      let all : grants remote_key domain_name (sender_remote_key i) slot_address n RemoteRead (named (λ x. x.name) no_region (sender_region i).name (regions_of m (sender i))) ≡ true = and_both _ _ domain (and_both _ _ key (and_both _ _ right (and_both _ _ low high))) in
      let some' = some_granted remote_key domain_name (sender_remote_key i) slot_address n RemoteRead (sender_region i).name (regions_of m (sender i)) opened.sender_region_there all in
      or_some (n == 0) _ some'
    where
      or_some : (a b : Bool) → b ≡ true → (a || b) ≡ true
      or_some true b e = refl
      or_some false b e = e

  receiver_reads : (why : RefusalReason) → MayBeRefused m (receiver_end i) why → (end_of m (receiver_end i)).acted % 2 ≡ 0 → ⊥
  unfolding is_request_granted is_granted_there is_granted end_of step.right_for
  receiver_reads why b even =
      let e : End = end_of m (receiver_end i) in
      let r : IsReadOf i e.posted sent e.acted = read_of i e.posted sent e.acted h.letters h.queue b.turn even in
      let peer : (end_of m (receiver_end i)).peer ≡ sender_end i = opened.receiver_joined.peer_is in
      let refused : is_request_granted m (receiver_end i) (read_as i r.letter) ≡ false = read_not_granted m (receiver_end i) why (read_as i r.letter) r.is refl refl b.reason in
      let granted' : is_granted remote_key (regions_of m (end_of m (receiver_end i)).peer.context) (end_of m (end_of m (receiver_end i)).peer).domain (sender_remote_key i) slot_address (length r.letter.body) RemoteRead ≡ true =
      subst (λ (o : ObjName). is_granted remote_key (regions_of m o.context) (end_of m o).domain (sender_remote_key i) slot_address (length r.letter.body) RemoteRead ≡ true) (sym peer)
      (subst (λ (d : Name). is_granted remote_key (regions_of m (sender i)) d (sender_remote_key i) slot_address (length r.letter.body) RemoteRead ≡ true) (sym opened.sender_joined.domain) (slot_granted (length r.letter.body) r.fits)) in
      let both_ways : true ≡ false = sym granted' ∙ refused in
      cc

  receiver_frees : (why : RefusalReason) → MayBeRefused m (receiver_end i) why → (end_of m (receiver_end i)).acted % 2 ≡ 1 → ⊥
  receiver_frees why b odd =
      let e : End = end_of m (receiver_end i) in
      let is : current (end_of m (receiver_end i)) ≡ freed_as = is_odd_freed i e.posted sent e.acted h.queue b.turn odd in
      let long : overflows (receive_for (peer_of m (receiver_end i))) (size_of freed_as) ≡ true = send_too_long m (receiver_end i) why freed_as is refl refl b.reason in
      let both_ways : true ≡ false = sym long ∙ never_over (receive_for (peer_of m (receiver_end i))) in
      cc

  receiver_never : (why : RefusalReason) → may_refuse m (receiver_end i) why ≡ true → ⊥
  receiver_never why may = by (parity (end_of m (receiver_end i)).acted)
    where
      by : ((end_of m (receiver_end i)).acted % 2 ≡ 0) ⊎ ((end_of m (receiver_end i)).acted % 2 ≡ 1) → ⊥
      by (inl even) = receiver_reads why (may_be m (receiver_end i) why may) even
      by (inr odd) = receiver_frees why (may_be m (receiver_end i) why may) odd

pub none_refused : NoRequestIsRefused
none_refused peers ts m machine q why all may = by (all.joined q (stepping_connected machine (steps.Refuse q why) tt may))
  where
    by : IsEndOf peers q → ⊥
    by (AtSenderOf i low high is) = sender_never machine i (all.opened i low high) m.owed (channel m i) (sent_letters i ts) (placed_letters i ts) (all.kept i low high) why (subst (λ (o : ObjName). may_refuse machine o why ≡ true) is may)
    by (AtReceiverOf i low high is) = receiver_never machine i (all.opened i low high) m.owed (channel m i) (sent_letters i ts) (placed_letters i ts) (all.kept i low high) why (subst (λ (o : ObjName). may_refuse machine o why ≡ true) is may)
