-- Inner steps that change one end alone, as they are seen.
use Rattle.std.proofs.Common.{arith, ◌≡◌, ℕ, suc, ◌+◌, ◌*◌, ◌/◌, ◌%◌, ◌<◌, ◌≤◌, List, [], ◌∷◌, ◌++◌, length, take, get_or, true, false, Bool, refl, sym, subst, ap, ◌∙◌, Some, ltb-false, ltb-true, ◌⊎◌, inl, inr, length-take}
use Rattle.std.specs.Prelude.{not, nat_le, nat_lt, slice_get, ◌&&◌, ◌==◌}
use Rattle.std.proofs.lemmas.List.{get_or-take}
use Rattle.std.proofs.lemmas.List.Elements.{All-push}
use Rattle.std.proofs.lemmas.Option.{slice_get-get_or}
use Rattle.rdma_types.specs.declared.names.ObjName.{ObjName}
use Rattle.rdma_types.specs.declared.requests.Kind.{Kind}
use Rattle.rdma_types.specs.declared.requests.Kind.TheVariants as kind
use Rattle.rdma_types.specs.Kinds.{is_read, kind_of, lands}
use Rattle.rdma_types.specs.Objects.{Posted, no_posted}
use Rattle.packetless_machine.specs.declared.reply.Reply.TheVariants.{Finished}
use Rattle.packetless_machine.specs.Machine.{End, Machine, context_of, end_of, nobody, posted_at, with_end}
use Rattle.packetless_machine.specs.Steps.{acted_with, current, dried, dried_at, expire, expired, front, has_current, has_peer, has_turn, has_untold, in_place, is_current_granted, lands_before, knowing, may_know, may_read, read_turn, wait, with_known}
use Rattle.law_simulation.proofs.relation.Tables.{name-named}
use Rattle.mailbox_rules.specs.declared.due.Due.{Due}
use Rattle.mailbox_rules.specs.declared.letters.Letter.{Letter}
use Rattle.mailbox_rules.specs.Histories.{Placed}
use Rattle.mailbox_rules.specs.Opening.{receiver_end, sender_end}
use Rattle.mailbox_rules.specs.State.{Channel}
use Rattle.law_mailbox.specs.Kept.{IsKept, IsOpened, IsPlain, IsQueueOfReceiver, Sight, freed_as, long_letters, requests_for, sight_of}
use Rattle.law_mailbox.specs.Moves.{MovesTo, ReadTurns, ReceiverKnows, ReceiverStays, SenderStays}
use Rattle.law_mailbox.specs.Seen.{IsSeen, Moved, Moves, Stays}
use Rattle.law_mailbox.proofs.work.Channels.{both}
use Rattle.law_mailbox.proofs.connection.Opens.{IsAlike, opened_as}
use Rattle.law_mailbox.proofs.connection.Requests.{odd_is, read_at, requests_long}
use Rattle.law_mailbox.proofs.connection.Sights.{end_is_changed, sees_receiver, sees_sender}

-- ---- kinds of requests

-- no more is posted than there are requests
pub posted_few : (i : ℕ) (posted : List Posted) (sent : List Letter) → IsQueueOfReceiver i posted sent → length posted ≤ 2 * length (long_letters sent)
posted_few i posted sent queue =
    let long : length posted ≡ length (take (length posted) (requests_for i (long_letters sent))) = ap length queue in
    omega (arith, long, length-take (length posted) (requests_for i (long_letters sent)), requests_long i (long_letters sent))

pub is_even_read : (i : ℕ) (posted : List Posted) (sent : List Letter) (k : ℕ) → IsQueueOfReceiver i posted sent → k < length posted → k % 2 ≡ 0 → is_read (kind_of (posted_at posted k)) ≡ true
is_even_read i posted sent k queue below even =
    let l : Letter = get_or (long_letters sent) (k / 2) (record { tag = 0; body = [] }) in
    let few = posted_few i posted sent queue in
    let at : slice_get (long_letters sent) (k / 2) ≡ Some (get_or (long_letters sent) (k / 2) (record { tag = 0; body = [] })) = slice_get-get_or (long_letters sent) (k / 2) (record { tag = 0; body = [] }) (omega (arith, few, below)) in
    ap (λ (p : Posted). is_read (kind_of p)) (read_at i posted sent k (get_or (long_letters sent) (k / 2) (record { tag = 0; body = [] })) queue below even at)

pub is_odd_freed : (i : ℕ) (posted : List Posted) (sent : List Letter) (k : ℕ) → IsQueueOfReceiver i posted sent → k < length posted → k % 2 ≡ 1 → posted_at posted k ≡ freed_as
is_odd_freed i posted sent k queue below odd =
    let few = posted_few i posted sent queue in
    let half : k ≡ 2 * (k / 2) + 1 = omega (arith, odd) in
    ap (λ (ps : List Posted). get_or ps k no_posted) queue
    ∙ (get_or-take (length posted) (requests_for i (long_letters sent)) k no_posted below
    ∙ odd_is i (long_letters sent) (k / 2) k half (omega (arith, few, below)))

pub parity : (k : ℕ) → (k % 2 ≡ 0) ⊎ (k % 2 ≡ 1)
parity k = by (nat_lt (k % 2) 1) refl
  where
    by : (b : Bool) → nat_lt (k % 2) 1 ≡ b → (k % 2 ≡ 0) ⊎ (k % 2 ≡ 1)
    by true e = let below : k % 2 < 1 = ltb-true (k % 2) 1 e in inl (omega (arith, below))
    by false e = let above : 1 ≤ k % 2 = ltb-false (k % 2) 1 e in inr (omega (arith, above))

-- ---- ends

pub end_name : (m : Machine) (o : ObjName) → (end_of m o).name ≡ o.name
unfolding end_of
end_name m o = name-named (λ e. e.name) (nobody o) o.name (context_of m o.context).ends refl

lands_read : (k : Kind) → is_read k ≡ true → not (lands k) ≡ true → ⊥
lands_read kind.Read reads h = cc
lands_read kind.Write reads h = cc
lands_read kind.Send reads h = cc
lands_read kind.CompareSwap reads h = cc
lands_read kind.FetchAdd reads h = cc

module _ (m : Machine) (owed : List Due) (i : ℕ) (opened : IsOpened m i) (c : Channel) (sent : List Letter) (open' : List Placed) (h : IsKept i (sight_of m owed i) c sent open') where
  pub sender_seen : (e : End) → e.name ≡ (end_of m (sender_end i)).name → IsAlike e (end_of m (sender_end i)) → MovesTo i (sight_of m owed i) (record (sight_of m owed i) { sender = e }) → IsSeen i owed m (with_end m (sender_end i) e)
  sender_seen e name alike move =
      let named = name ∙ end_name m (sender_end i) in
      record {
        moves = subst (λ (s : Sight). Moves i (sight_of m owed i) s) (sym (sees_sender m (with_end m (sender_end i) e) owed i e (end_is_changed m (sender_end i) e opened.sender_there named name))) (Moved Stays move);
        opened = opened_as m (sender_end i) e opened.sender_there named name alike i opened;
      }

  pub receiver_seen : (e : End) → e.name ≡ (end_of m (receiver_end i)).name → IsAlike e (end_of m (receiver_end i)) → MovesTo i (sight_of m owed i) (record (sight_of m owed i) { receiver = e }) → IsSeen i owed m (with_end m (receiver_end i) e)
  receiver_seen e name alike move =
      let named = name ∙ end_name m (receiver_end i) in
      record {
        moves = subst (λ (s : Sight). Moves i (sight_of m owed i) s) (sym (sees_receiver m (with_end m (receiver_end i) e) owed i e (end_is_changed m (receiver_end i) e opened.receiver_there named name))) (Moved Stays move);
        opened = opened_as m (receiver_end i) e opened.receiver_there named name alike i opened;
      }

  -- ---- the sender's end

  pub sender_knows : (bytes : ℕ) → IsSeen i owed m (knowing m (sender_end i) bytes)
  unfolding knowing with_known
  sender_knows bytes =
      let e : End = end_of m (sender_end i) in
      sender_seen (record (end_of m (sender_end i)) { known = bytes; spent = 0; waits = 0 }) refl (record { connected = refl; peer = refl; domain = refl; send_queue = refl; receive_queue = refl; send_depth = refl; receive_depth = refl })
      (SenderStays e.told bytes 0 0 e.answers e.dry e.unused e.in_use e.ended h.plain.0 (λ live. live))

  pub sender_dries : IsSeen i owed m (dried m (sender_end i))
  unfolding dried dried_at
  sender_dries =
      let e : End = end_of m (sender_end i) in
      sender_seen (record (end_of m (sender_end i)) { dry = (end_of m (sender_end i)).dry ++ (end_of m (sender_end i)).acted ∷ [] }) refl (record { connected = refl; peer = refl; domain = refl; send_queue = refl; receive_queue = refl; send_depth = refl; receive_depth = refl })
      (SenderStays e.told e.known e.spent e.waits e.answers (e.dry ++ e.acted ∷ []) e.unused e.in_use e.ended h.plain.0 (λ live. live))

  pub sender_expires : ((end_of m (sender_end i)).spent == (end_of m (sender_end i)).retry) ≡ false → IsSeen i owed m (expire m (sender_end i))
  unfolding expire expired
  sender_expires more =
      let e : End = end_of m (sender_end i) in
      rw more (sender_seen (record (end_of m (sender_end i)) { spent = suc (end_of m (sender_end i)).spent }) refl (record { connected = refl; peer = refl; domain = refl; send_queue = refl; receive_queue = refl; send_depth = refl; receive_depth = refl })
      (SenderStays e.told e.known (suc e.spent) e.waits e.answers e.dry e.unused e.in_use e.ended h.plain.0 (λ live. live)))

  pub sender_waits : ((end_of m (sender_end i)).rnr == 7) ≡ true → IsSeen i owed m (wait m (sender_end i))
  unfolding wait
  sender_waits endless = rw endless (record { moves = Stays; opened = opened })

  -- ---- the receiver's end

  pub receiver_waits : ((end_of m (receiver_end i)).rnr == 7) ≡ true → IsSeen i owed m (wait m (receiver_end i))
  unfolding wait
  receiver_waits endless = rw endless (record { moves = Stays; opened = opened })

  pub receiver_dries : IsSeen i owed m (dried m (receiver_end i))
  unfolding dried dried_at
  receiver_dries =
      let e : End = end_of m (receiver_end i) in
      receiver_seen (record (end_of m (receiver_end i)) { dry = (end_of m (receiver_end i)).dry ++ (end_of m (receiver_end i)).acted ∷ [] }) refl (record { connected = refl; peer = refl; domain = refl; send_queue = refl; receive_queue = refl; send_depth = refl; receive_depth = refl })
      (ReceiverStays e.spent e.waits e.answers (e.dry ++ e.acted ∷ []) h.plain.1)

  pub receiver_expires : ((end_of m (receiver_end i)).spent == (end_of m (receiver_end i)).retry) ≡ false → IsSeen i owed m (expire m (receiver_end i))
  unfolding expire expired
  receiver_expires more =
      let e : End = end_of m (receiver_end i) in
      rw more (receiver_seen (record (end_of m (receiver_end i)) { spent = suc (end_of m (receiver_end i)).spent }) refl (record { connected = refl; peer = refl; domain = refl; send_queue = refl; receive_queue = refl; send_depth = refl; receive_depth = refl }) (ReceiverStays (suc e.spent) e.waits e.answers e.dry h.plain.1))

  pub receiver_knows : (bytes : ℕ) → may_know m (receiver_end i) bytes ≡ true → IsSeen i owed m (knowing m (receiver_end i) bytes)
  unfolding knowing with_known may_know has_untold
  receiver_knows bytes may =
      let e : End = end_of m (receiver_end i) in
      let a = both (e.connected && (not e.ended && nat_lt e.told (length e.posted))) (not (lands (kind_of (front e))) && (nat_lt e.known bytes && nat_le bytes (in_place e e.told))) may in
      let b = both e.connected (not e.ended && nat_lt e.told (length e.posted)) a.0 in
      let d = both (not e.ended) (nat_lt e.told (length e.posted)) b.1 in
      let untold : e.told < length e.posted = ltb-true e.told (length e.posted) d.1 in
      let f = both (not (lands (kind_of (front e)))) (nat_lt e.known bytes && nat_le bytes (in_place e e.told)) a.1 in
      receiver_seen (record (end_of m (receiver_end i)) { known = bytes; spent = 0; waits = 0 }) refl (record { connected = refl; peer = refl; domain = refl; send_queue = refl; receive_queue = refl; send_depth = refl; receive_depth = refl }) (ReceiverKnows bytes untold (odd_told untold f.0 (parity e.told)))
    where
      odd_told : (end_of m (receiver_end i)).told < length (end_of m (receiver_end i)).posted → not (lands (kind_of (front (end_of m (receiver_end i))))) ≡ true →
          ((end_of m (receiver_end i)).told % 2 ≡ 0) ⊎ ((end_of m (receiver_end i)).told % 2 ≡ 1) → (end_of m (receiver_end i)).told % 2 ≡ 1
      odd_told untold no_landing (inl even) = absurd (lands_read (kind_of (front (end_of m (receiver_end i)))) (is_even_read i (end_of m (receiver_end i)).posted sent (end_of m (receiver_end i)).told h.queue untold even) no_landing)
      odd_told untold no_landing (inr odd) = odd

  pub receiver_turns : may_read m (receiver_end i) ≡ true → IsSeen i owed m (read_turn m (receiver_end i))
  unfolding read_turn acted_with may_read has_current has_turn
  receiver_turns may =
      let e : End = end_of m (receiver_end i) in
      let a = both (has_peer m (receiver_end i) && (not (end_of m e.peer).ended && (nat_lt e.acted (length e.posted) && not ((current e).request.fence && lands_before e)))) (is_read (kind_of (current e)) && is_current_granted m (receiver_end i)) may in
      let b = both (has_peer m (receiver_end i)) (not (end_of m e.peer).ended && (nat_lt e.acted (length e.posted) && not ((current e).request.fence && lands_before e))) a.0 in
      let d = both (not (end_of m e.peer).ended) (nat_lt e.acted (length e.posted) && not ((current e).request.fence && lands_before e)) b.1 in
      let f = both (nat_lt e.acted (length e.posted)) (not ((current e).request.fence && lands_before e)) d.1 in
      let posted : e.acted < length e.posted = ltb-true e.acted (length e.posted) f.0 in
      let g = both (is_read (kind_of (current e))) (is_current_granted m (receiver_end i)) a.1 in
      receiver_seen (record (end_of m (receiver_end i)) { acted = suc (end_of m (receiver_end i)).acted; into = 0; answers = (end_of m (receiver_end i)).answers ++ Finished ∷ [] }) refl (record { connected = refl; peer = refl; domain = refl; send_queue = refl; receive_queue = refl; send_depth = refl; receive_depth = refl }) (ReadTurns (e.answers ++ Finished ∷ []) (All-push IsPlain e.answers Finished h.plain.1 tt) posted (even_acted posted g.0 (parity e.acted)))
    where
      even_acted : (end_of m (receiver_end i)).acted < length (end_of m (receiver_end i)).posted → is_read (kind_of (current (end_of m (receiver_end i)))) ≡ true →
          ((end_of m (receiver_end i)).acted % 2 ≡ 0) ⊎ ((end_of m (receiver_end i)).acted % 2 ≡ 1) → (end_of m (receiver_end i)).acted % 2 ≡ 0
      even_acted posted reads (inl even) = even
      even_acted posted reads (inr odd) =
          let freed : posted_at (end_of m (receiver_end i)).posted (end_of m (receiver_end i)).acted ≡ freed_as = is_odd_freed i (end_of m (receiver_end i)).posted sent (end_of m (receiver_end i)).acted h.queue posted odd in
          let no_read : false ≡ true = ap (λ (p : Posted). is_read (kind_of p)) (sym freed) ∙ reads in
          cc
