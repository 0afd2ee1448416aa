-- Steps that no end of a connection makes: the sender's end has Sends alone, and the receiver's end Reads and Sends.
use Rattle.std.proofs.Common.{arith, ◌≡◌, ℕ, ◌%◌, ◌<◌, List, [], length, get_or, map, true, false, Bool, sym, ap, ◌∙◌, Some, ltb-true, ◌⊎◌, inl, inr}
use Rattle.std.specs.Prelude.{nat_lt, not, slice_get, ◌&&◌}
use Rattle.std.proofs.lemmas.List.{get_or-take}
use Rattle.std.proofs.lemmas.Option.{none-some, slice_get-get_or}
use Rattle.rdma_types.specs.declared.names.ObjName.{ObjName}
use Rattle.rdma_types.specs.declared.requests.Kind.{Kind}
use Rattle.rdma_types.specs.declared.requests.Kind.TheVariants as kind
use Rattle.rdma_types.specs.Kinds.{is_atomic, is_read, kind_of}
use Rattle.rdma_types.specs.Objects.{Posted, no_posted}
use Rattle.packetless_machine.specs.Machine.{End, Machine, Offered, end_of, posted_at}
use Rattle.packetless_machine.specs.Steps.{current, has_current, has_peer, has_turn, is_current_granted, is_misaligned, lands_before, may_atom, may_land, may_offer, may_read}
use Rattle.mailbox_rules.specs.declared.due.Due.{Due}
use Rattle.mailbox_rules.specs.declared.letters.Letter.{Letter}
use Rattle.mailbox_rules.specs.Histories.{Placed}
use Rattle.mailbox_rules.specs.Opening.{receiver_end, sender_end}
use Rattle.mailbox_rules.specs.State.{Channel}
use Rattle.law_mailbox.specs.Kept.{AreSendsKept, IsKept, freed_as, sent_as, sight_of}
use Rattle.law_mailbox.proofs.work.Channels.{both}
use Rattle.law_mailbox.proofs.connection.Lands.{next_lands}
use Rattle.law_mailbox.proofs.connection.Offers.{part_offered}
use Rattle.law_mailbox.proofs.connection.Quiet.{is_even_read, is_odd_freed, parity}
use Rattle.law_mailbox.proofs.connection.Runs.{sent_at}

-- ---- kinds

-- each request of the sender's end is a Send
posted_send : (i : ℕ) (posted : List Posted) (acted : ℕ) (ended : Bool) (sent : List Letter) (k : ℕ) → AreSendsKept i posted acted ended sent → k < length posted → kind_of (posted_at posted k) ≡ kind.Send
posted_send i posted acted ended sent k sends below =
    let few = sends.posted_within in
    let at : slice_get sent k ≡ Some (get_or sent k (record { tag = 0; body = [] })) = slice_get-get_or sent k (record { tag = 0; body = [] }) (omega (arith, few, below)) in
    ap (λ (ps : List Posted). kind_of (get_or ps k no_posted)) sends.queue_of_sender
    ∙ ap kind_of (get_or-take (length posted) (map (sent_as i) sent) k no_posted below ∙ sent_at i sent k (get_or sent k (record { tag = 0; body = [] })) at)

no_atomic : (k : Kind) → is_read k ≡ true → is_atomic k ≡ true → ⊥
no_atomic kind.Read reads h = cc
no_atomic kind.Write reads h = cc
no_atomic kind.Send reads h = cc
no_atomic kind.CompareSwap reads h = cc
no_atomic kind.FetchAdd reads h = cc

-- ---- the request that has its turn

-- it is posted
turn_posted : (m : Machine) (q : ObjName) → has_current m q ≡ true → (end_of m q).acted < length (end_of m q).posted
unfolding has_current has_turn
turn_posted m q has =
    let e : End = end_of m q in
    let a = both (has_peer m q) (not (end_of m e.peer).ended && (nat_lt e.acted (length e.posted) && not ((current e).request.fence && lands_before e))) has in
    let b = both (not (end_of m e.peer).ended) (nat_lt e.acted (length e.posted) && not ((current e).request.fence && lands_before e)) a.1 in
    let d = both (nat_lt e.acted (length e.posted)) (not ((current e).request.fence && lands_before e)) b.1 in
    ltb-true e.acted (length e.posted) d.0

-- it is an atomic, or a Read
pub record HasTurn (e : End) (is : Kind → Bool) : Type 0 where
  pub posted : e.acted < length e.posted
  pub kind : is (kind_of (current e)) ≡ true

atom_turn : (m : Machine) (q : ObjName) → may_atom m q ≡ true → HasTurn (end_of m q) is_atomic
unfolding may_atom
atom_turn m q may =
    let e : End = end_of m q in
    let a = both (has_current m q) (is_atomic (kind_of (current e)) && (not (is_misaligned (current e)) && is_current_granted m q)) may in
    let b = both (is_atomic (kind_of (current e))) (not (is_misaligned (current e)) && is_current_granted m q) a.1 in
    record { posted = turn_posted m q a.0; kind = b.0 }

read_turn : (m : Machine) (q : ObjName) → may_read m q ≡ true → HasTurn (end_of m q) is_read
unfolding may_read
read_turn m q may =
    let e : End = end_of m q in
    let a = both (has_current m q) (is_read (kind_of (current e)) && is_current_granted m q) may in
    let b = both (is_read (kind_of (current e))) (is_current_granted m q) a.1 in
    record { posted = turn_posted m q a.0; kind = b.0 }

module _ (m : Machine) (owed : List Due) (i : ℕ) (c : Channel) (sent : List Letter) (open' : List Placed) (h : IsKept i (sight_of m owed i) c sent open') where
  -- ---- the sender's end

  sender_send : (k : ℕ) → k < length (end_of m (sender_end i)).posted → kind_of (posted_at (end_of m (sender_end i)).posted k) ≡ kind.Send
  sender_send k below = let e : End = end_of m (sender_end i) in posted_send i e.posted e.acted e.ended sent k h.sends below

  pub sender_offers_not : (k offset n : ℕ) → may_offer m (sender_end i) k offset n ≡ true → ⊥
  sender_offers_not k offset n may =
      let part = part_offered m (sender_end i) k offset n may in
      let no_read : false ≡ true = ap is_read (sym (sender_send k part.posted)) ∙ part.reads in
      cc

  pub sender_lands_not : (k : ℕ) → may_land m (sender_end i) k ≡ true → ⊥
  sender_lands_not k may =
      let next = next_lands m (sender_end i) k may in
      none-some next.offer (ap (λ (os : List Offered). slice_get os k) (sym h.unoffered) ∙ next.at)

  pub sender_atoms_not : may_atom m (sender_end i) ≡ true → ⊥
  sender_atoms_not may =
      let turn = atom_turn m (sender_end i) may in
      let no_atom : false ≡ true = ap is_atomic (sym (sender_send (end_of m (sender_end i)).acted turn.posted)) ∙ turn.kind in
      cc

  pub sender_turns_not : may_read m (sender_end i) ≡ true → ⊥
  sender_turns_not may =
      let turn = read_turn m (sender_end i) may in
      let no_read : false ≡ true = ap is_read (sym (sender_send (end_of m (sender_end i)).acted turn.posted)) ∙ turn.kind in
      cc

  -- ---- the receiver's end

  receiver_atoms : HasTurn (end_of m (receiver_end i)) is_atomic → ((end_of m (receiver_end i)).acted % 2 ≡ 0) ⊎ ((end_of m (receiver_end i)).acted % 2 ≡ 1) → ⊥
  receiver_atoms turn (inl even) =
      let e : End = end_of m (receiver_end i) in
      no_atomic (kind_of (current e)) (is_even_read i e.posted sent e.acted h.queue turn.posted even) turn.kind
  receiver_atoms turn (inr odd) =
      let e : End = end_of m (receiver_end i) in
      let freed : posted_at e.posted e.acted ≡ freed_as = is_odd_freed i e.posted sent e.acted h.queue turn.posted odd in
      let no_atom : false ≡ true = ap (λ (p : Posted). is_atomic (kind_of p)) (sym freed) ∙ turn.kind in
      cc

  pub receiver_atoms_not : may_atom m (receiver_end i) ≡ true → ⊥
  receiver_atoms_not may = receiver_atoms (atom_turn m (receiver_end i) may) (parity (end_of m (receiver_end i)).acted)
