-- Moves and work never go back.
use Rattle.std.proofs.Common.{arith, ◌≡◌, ℕ, suc, ◌+◌, ◌≤◌, List, [], ◌∷◌, ◌++◌, length, true, false, Bool, refl, sym, subst, ap, ◌∙◌, length-append}
use Rattle.rdma_types.specs.declared.requests.Receive.{Receive}
use Rattle.mailbox_rules.specs.declared.due.Due.{Due}
use Rattle.mailbox_rules.specs.declared.letters.Letter.{Letter}
use Rattle.law_mailbox.specs.Arrived.{AreOpen}
use Rattle.law_mailbox.specs.Kept.{IsKeptWith, Pending, Sight, fetches, freed_as, frees, pending}
use Rattle.law_mailbox.specs.Moves.{FreeActs, FreeTells, MessageRuns, MovesTo, OthersGain, PartRuns, ReadLands, ReadOffers, ReadTells, ReadTurns, ReceiverEnds, ReceiverKnows, ReceiverStays, SenderStays}
use Rattle.law_mailbox.specs.Settled.{Does, Flags, IsAhead, IsBeyond, IsPostedLine, IsWorkedOn, MovesAreAhead, Reach, Rests, SenderPosts, Turns, Worked, Works, WorksGoAhead, WorksOn, reach_of, with_sight}
use Rattle.law_mailbox.specs.Works.{BodyCopies, Copies, Fetches, FetchesNot, FreePosts, FreePostsNot, IsKeptLine, Line, Reposts, RepostsNot, Sends, SendsEnded, SlotFrees, Stores, WorksTo, read_for}
use Rattle.law_mailbox.proofs.work.Posted.{as_many, work_keeps_posted}
use Rattle.law_mailbox.proofs.connection.Steps.{moves_keep}
use Rattle.law_mailbox.proofs.work.WorkSteps.{work_keeps}
use Rattle.law_mailbox.proofs.work.Changing.{flags_unread}

no_more : true ≡ false → ⊥
no_more e = cc

-- some of it came further, and the rest stays
module _ (r : Reach) where
  pub came_to : (receives reads sends posted acted told : ℕ) (sender_ended receiver_ended flagged : Bool) → r.receives ≤ receives → r.reads ≤ reads → r.sends ≤ sends → r.posted ≤ posted → r.acted ≤ acted → r.told ≤ told →
      (sender_ended ≡ false → r.sender_ended ≡ false) → (receiver_ended ≡ false → r.receiver_ended ≡ false) → (flagged ≡ false → r.flagged ≡ false) →
      IsBeyond r (record { sent = r.sent; receives = receives; reads = reads; sends = sends; posted = posted; acted = acted; told = told; sender_ended = sender_ended; receiver_ended = receiver_ended; flagged = flagged })
  came_to receives reads sends posted acted told sender_ended receiver_ended flagged a b c d e f g h k = record {
    same_sent = refl;
    more_receives = a;
    more_reads = b;
    more_sends = c;
    more_posted = d;
    more_acted = e;
    more_told = f;
    sender_lived = g;
    receiver_lived = h;
    unflagged = k;
  }

  pub stays : IsBeyond r r
  stays = came_to r.receives r.reads r.sends r.posted r.acted r.told r.sender_ended r.receiver_ended r.flagged (omega arith) (omega arith) (omega arith) (omega arith) (omega arith) (omega arith) (λ e. e) (λ e. e) (λ e. e)

  copies_more : (receives reads : ℕ) → r.receives ≤ receives → r.reads ≤ reads → IsBeyond r (record r { receives = receives; reads = reads })
  copies_more receives reads a b = came_to receives reads r.sends r.posted r.acted r.told r.sender_ended r.receiver_ended r.flagged a b (omega arith) (omega arith) (omega arith) (omega arith) (λ e. e) (λ e. e) (λ e. e)

  acts_more : (sends posted acted told : ℕ) → r.sends ≤ sends → r.posted ≤ posted → r.acted ≤ acted → r.told ≤ told → IsBeyond r (record r { sends = sends; posted = posted; acted = acted; told = told })
  acts_more sends posted acted told a b c d = came_to r.receives r.reads sends posted acted told r.sender_ended r.receiver_ended r.flagged (omega arith) (omega arith) a b c d (λ e. e) (λ e. e) (λ e. e)

pub further : (r s t : Reach) → IsBeyond r s → IsBeyond s t → IsBeyond r t
further r s t a b = record {
  same_sent = b.same_sent ∙ a.same_sent;
  more_receives = let c = a.more_receives in let d = b.more_receives in omega (arith, c, d);
  more_reads = let c = a.more_reads in let d = b.more_reads in omega (arith, c, d);
  more_sends = let c = a.more_sends in let d = b.more_sends in omega (arith, c, d);
  more_posted = let c = a.more_posted in let d = b.more_posted in omega (arith, c, d);
  more_acted = let c = a.more_acted in let d = b.more_acted in omega (arith, c, d);
  more_told = let c = a.more_told in let d = b.more_told in omega (arith, c, d);
  sender_lived = λ e. a.sender_lived (b.sender_lived e);
  receiver_lived = λ e. a.receiver_lived (b.receiver_lived e);
  unflagged = λ e. a.unflagged (b.unflagged e);
}

-- ---- moves

move_ahead : (i : ℕ) (x : Line) {s : Sight} → MovesTo i x.sight s → IsKeptLine i x → IsAhead x (with_sight x s)
move_ahead i x (SenderStays told known spent waits answers dry unused in_use ended plain lives) h =
    let r : Reach = reach_of x in
    came_to r r.receives r.reads r.sends r.posted r.acted r.told ended r.receiver_ended r.flagged (omega arith) (omega arith) (omega arith) (omega arith) (omega arith) (omega arith) lives (λ e. e) (λ e. e)
move_ahead i x (ReceiverStays spent waits answers dry plain) h = stays (reach_of x)
move_ahead i x (OthersGain ds g) h = stays (reach_of x)
move_ahead i x ReceiverEnds h =
    let r : Reach = reach_of x in
    came_to r r.receives r.reads r.sends r.posted r.acted r.posted r.sender_ended true r.flagged (omega arith) (omega arith) (omega arith) (omega arith) (omega arith) h.counts.told_within (λ e. e) (λ e. absurd (no_more e)) (λ e. e)
move_ahead i x (ReceiverKnows known untold odd) h = stays (reach_of x)
move_ahead i x (ReadTurns answers plain posted even) h = let r : Reach = reach_of x in acts_more r r.sends r.posted (suc r.acted) r.told (omega arith) (omega arith) (omega arith) (omega arith)
move_ahead i x (FreeActs answers place ds plain posted odd g) h = let r : Reach = reach_of x in acts_more r r.sends r.posted (suc r.acted) r.told (omega arith) (omega arith) (omega arith) (omega arith)
move_ahead i x (ReadOffers o acted even inside is) h = stays (reach_of x)
move_ahead i x (ReadLands k o live untold at same offset inside) h = stays (reach_of x)
move_ahead i x (ReadTells ds live acted even known g) h = let r : Reach = reach_of x in acts_more r r.sends r.posted r.acted (suc r.told) (omega arith) (omega arith) (omega arith) (omega arith)
move_ahead i x (FreeTells live acted odd) h = let r : Reach = reach_of x in acts_more r r.sends r.posted r.acted (suc r.told) (omega arith) (omega arith) (omega arith) (omega arith)
move_ahead i x (PartRuns v n r short) h = stays (reach_of x)
move_ahead i x (MessageRuns v n answers ds plain may whole g) h = let r : Reach = reach_of x in acts_more r (suc r.sends) r.posted r.acted r.told (omega arith) (omega arith) (omega arith) (omega arith)

pub moves_are_ahead : MovesAreAhead
moves_are_ahead i x s moves h = move_ahead i x moves h

-- ---- work

-- a letter that is sent is one more
pub not_sent : (sent : List Letter) (l : Letter) → sent ++ l ∷ [] ≡ sent → ⊥
not_sent sent l same = let e : length (sent ++ l ∷ []) ≡ length sent = ap length same in let more = length-append sent (l ∷ []) in omega (arith, e, more)

work_ahead : (i : ℕ) (x : Line) {x' : Line} → WorksTo i x x' → x'.sent ≡ x.sent → IsAhead x x'
work_ahead i x (Copies place size bytes ds is g) same = let r : Reach = reach_of x in copies_more r (r.receives + 1) r.reads (omega arith) (omega arith)
work_ahead i x (Reposts place ds g) same = stays (reach_of x)
work_ahead i x (RepostsNot place ds g) same = stays (reach_of x)
work_ahead i x (Fetches f ds g live) same =
    let r : Reach = reach_of x in
    let more = length-append x.sight.receiver.posted (read_for i f ∷ []) in
    acts_more r r.sends (length (x.sight.receiver.posted ++ read_for i f ∷ [])) r.acted r.told (omega arith) (omega (arith, more)) (omega arith) (omega arith)
work_ahead i x (FetchesNot f ds g) same = stays (reach_of x)
work_ahead i x (BodyCopies size ds g) same = let r : Reach = reach_of x in copies_more r r.receives (r.reads + 1) (omega arith) (omega arith)
work_ahead i x (FreePosts ds g live) same =
    let r : Reach = reach_of x in
    let more = length-append x.sight.receiver.posted (freed_as ∷ []) in
    acts_more r r.sends (length (x.sight.receiver.posted ++ freed_as ∷ [])) r.acted r.told (omega arith) (omega (arith, more)) (omega arith) (omega arith)
work_ahead i x (FreePostsNot ds g) same = stays (reach_of x)
work_ahead i x (SlotFrees ds g) same = stays (reach_of x)
work_ahead i x (Stores stored holds) same = stays (reach_of x)
work_ahead i x (Sends l is_letter live slot_free) same = absurd (not_sent x.sent l same)
work_ahead i x (SendsEnded l is_letter gone slot_free) same = absurd (not_sent x.sent l same)

-- the same letters are open
work_opens : (i : ℕ) (x : Line) {x' : Line} → WorksTo i x x' → x'.sent ≡ x.sent → AreOpen x.sent x.open' → AreOpen x'.sent x'.open'
work_opens i x (Copies place size bytes ds is g) same opened = opened
work_opens i x (Reposts place ds g) same opened = opened
work_opens i x (RepostsNot place ds g) same opened = opened
work_opens i x (Fetches f ds g live) same opened = opened
work_opens i x (FetchesNot f ds g) same opened = opened
work_opens i x (BodyCopies size ds g) same opened = opened
work_opens i x (FreePosts ds g live) same opened = opened
work_opens i x (FreePostsNot ds g) same opened = opened
work_opens i x (SlotFrees ds g) same opened = opened
work_opens i x (Stores stored holds) same opened = opened
work_opens i x (Sends l is_letter live slot_free) same opened = absurd (not_sent x.sent l same)
work_opens i x (SendsEnded l is_letter gone slot_free) same opened = absurd (not_sent x.sent l same)

-- what is true after a step of work
record IsSteppedOn (i : ℕ) (x x' : Line) : Type 0 where
  opened : AreOpen x'.sent x'.open'
  worked : IsWorkedOn i x x'

module _ (i : ℕ) (x : Line) (known : i ≤ 8) (opened : AreOpen x.sent x.open') (h : IsKeptLine i x) (p : IsPostedLine i x) where
  -- the same things are due
  turned : (ds : List Due) → pending i ds ≡ pending i x.sight.dues → IsSteppedOn i x (record x { sight = record x.sight { dues = ds } })
  turned ds e =
      let fetched : length (fetches i ds) ≡ length (fetches i x.sight.dues) = ap (λ (q : Pending). length q.fetched) e in
      let freed : length (frees i ds) ≡ length (frees i x.sight.dues) = ap (λ (q : Pending). q.frees) e in
      record {
        opened = opened;
        worked = record {
          kept = subst (λ (q : Pending). IsKeptWith i x.sight.sender x.sight.receiver x.sight.stored x.sight.landed q x.channel x.sent x.open') (sym e) h;
          posted = as_many (length x.sight.receiver.posted) x.sight.receiver.ended x.channel.receiver_ended (length (fetches i x.sight.dues)) (length (frees i x.sight.dues)) (length (fetches i ds)) (length (frees i ds)) x.channel.receives x.channel.reads x.sent fetched freed p;
          ahead = stays (reach_of x);
        };
      }

  flagged : (at_receiver at_sender : Bool) → (at_receiver ≡ false → x.channel.receiver_ended ≡ false) → IsSteppedOn i x (record x { channel = record x.channel { receiver_ended = at_receiver; sender_ended = at_sender } })
  flagged at_receiver at_sender was =
      let r : Reach = reach_of x in
      record {
        opened = opened;
        worked = record {
          kept = flags_unread i x.sight.sender x.sight.receiver x.sight.stored x.sight.landed (pending i x.sight.dues) x.channel (record x.channel { receiver_ended = at_receiver; sender_ended = at_sender }) x.sent x.open' (record { arrived = refl; receives = refl; reads = refl; slot_in_use = refl }) h;
          posted = record { reads_all = λ live e. p.reads_all live (was e); frees_all = λ live e. p.frees_all live (was e) };
          ahead = came_to r r.receives r.reads r.sends r.posted r.acted r.told r.sender_ended r.receiver_ended at_receiver (omega arith) (omega arith) (omega arith) (omega arith) (omega arith) (omega arith) (λ e. e) (λ e. e) was;
        };
      }

  sender_posts : (v : Receive) → IsSteppedOn i x (record x { sight = record x.sight { sender = record x.sight.sender { unused = x.sight.sender.unused ++ v ∷ [] } } })
  sender_posts v =
      let e = x.sight.sender in
      record {
        opened = opened;
        worked = record {
          kept = moves_keep i x.sight (record x.sight { sender = record x.sight.sender { unused = x.sight.sender.unused ++ v ∷ [] } }) x.channel x.sent x.open'
              (SenderStays e.told e.known e.spent e.waits e.answers e.dry (e.unused ++ v ∷ []) e.in_use e.ended h.plain.0 (λ lives. lives)) h;
          posted = record { reads_all = p.reads_all; frees_all = p.frees_all };
          ahead = stays (reach_of x);
        };
      }

step_ahead : (i : ℕ) (x : Line) {x' : Line} → i ≤ 8 → AreOpen x.sent x.open' → WorksOn i x x' → IsKeptLine i x → IsPostedLine i x → IsSteppedOn i x x'
step_ahead i x {x' = x'} known opened (Does w same posts) h p = record {
  opened = work_opens i x w same opened;
  worked = record { kept = work_keeps i x x' known opened w h; posted = work_keeps_posted i x x' w known opened posts h p; ahead = work_ahead i x w same };
}
step_ahead i x known opened (Turns ds e) h p = turned i x known opened h p ds e
step_ahead i x known opened (Flags at_receiver at_sender was of_sender) h p = flagged i x known opened h p at_receiver at_sender was
step_ahead i x known opened (SenderPosts v) h p = sender_posts i x known opened h p v

steps_ahead : (i : ℕ) (x : Line) {x' : Line} → i ≤ 8 → AreOpen x.sent x.open' → Works i x x' → IsKeptLine i x → IsPostedLine i x → IsSteppedOn i x x'
steps_ahead i x known opened Rests h p = record { opened = opened; worked = record { kept = h; posted = p; ahead = stays (reach_of x) } }
steps_ahead i x known opened (Worked {x' = y} {x'' = z} before step) h p =
    let a : IsSteppedOn i x y = steps_ahead i x known opened before h p in
    let b : IsSteppedOn i y z = step_ahead i y known a.opened step a.worked.kept a.worked.posted in
    record { opened = b.opened; worked = record { kept = b.worked.kept; posted = b.worked.posted; ahead = further (reach_of x) (reach_of y) (reach_of z) a.worked.ahead b.worked.ahead } }

pub works_go_ahead : WorksGoAhead
works_go_ahead i x x' known opened works h p = (steps_ahead i x known opened works h p).worked
