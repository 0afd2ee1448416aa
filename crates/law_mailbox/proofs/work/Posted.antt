-- All is posted, unless an end is over: moves and work keep that.
use Rattle.std.proofs.Common.{arith, ◌≡◌, ℕ, ◌+◌, ◌%◌, ◌≤◌, List, [], ◌∷◌, ◌++◌, length, true, false, Bool, sym, ap, ◌∙◌, ◌⊎◌, inl, inr, length-append}
use Rattle.std.specs.Prelude.{if◌then◌else◌, option_to_list}
use Rattle.mailbox_rules.specs.declared.due.Due.{Due}
use Rattle.mailbox_rules.specs.declared.letters.Letter.{Letter}
use Rattle.mailbox_rules.specs.Letters.{header_of}
use Rattle.mailbox_rules.specs.Working.{fetch_of}
use Rattle.law_mailbox.specs.Arrived.{AreOpen}
use Rattle.law_mailbox.specs.Kept.{Sight, fetches, frees, freed_as}
use Rattle.law_mailbox.specs.Moves.{FreeActs, FreeTells, MessageRuns, MovesTo, OthersGain, PartRuns, ReadLands, ReadOffers, ReadTells, ReadTurns, ReceiverEnds, ReceiverKnows, ReceiverStays, SenderStays}
use Rattle.law_mailbox.specs.Settled.{AreAllPosted, IsPostedLine, MovesKeepPosted, PostsUnlessOver, WorkKeepsPosted, with_sight}
use Rattle.law_mailbox.specs.Works.{BodyCopies, Copies, Fetches, FetchesNot, FreePosts, FreePostsNot, Inserts, IsKeptLine, Line, Reposts, RepostsNot, Sends, SendsEnded, SlotFrees, Stores, WorksTo, read_for}
use Rattle.law_mailbox.proofs.connection.Long.{fetched_append}
use Rattle.law_mailbox.proofs.connection.Places.{copied_long}
use Rattle.law_mailbox.proofs.work.WorkSteps.{copied_counted}

no_more : true ≡ false → ⊥
no_more e = cc

-- as many of each are due
pub as_many : (posted : ℕ) (ended flagged : Bool) (fetched freed fetched' freed' receives reads : ℕ) (sent : List Letter) → fetched' ≡ fetched → freed' ≡ freed →
    AreAllPosted posted ended flagged fetched freed receives reads sent → AreAllPosted posted ended flagged fetched' freed' receives reads sent
as_many posted ended flagged fetched freed fetched' freed' receives reads sent e f p = record {
  reads_all = λ live unflagged. let a = p.reads_all live unflagged in omega (arith, a, e);
  frees_all = λ live unflagged. let a = p.frees_all live unflagged in omega (arith, a, f);
}

module _ (i : ℕ) (x : Line) (p : IsPostedLine i x) where
  -- the same Reads and Sends of no bytes are due
  as_due : (ds : List Due) → fetches i ds ≡ fetches i x.sight.dues → frees i ds ≡ frees i x.sight.dues → IsPostedLine i (record x { sight = record x.sight { dues = ds } })
  as_due ds e f = as_many (length x.sight.receiver.posted) x.sight.receiver.ended x.channel.receiver_ended (length (fetches i x.sight.dues)) (length (frees i x.sight.dues)) (length (fetches i ds)) (length (frees i ds)) x.channel.receives x.channel.reads x.sent (ap length e) (ap length f) p

move_keeps : (i : ℕ) (x : Line) {s : Sight} → MovesTo i x.sight s → IsPostedLine i x → IsPostedLine i (with_sight x s)
move_keeps i x (SenderStays told known spent waits answers dry unused in_use ended plain lives) p = record { reads_all = p.reads_all; frees_all = p.frees_all }
move_keeps i x (ReceiverStays spent waits answers dry plain) p = record { reads_all = p.reads_all; frees_all = p.frees_all }
move_keeps i x (OthersGain ds g) p = as_due i x p ds g.fetches_same g.frees_same
move_keeps i x ReceiverEnds p = record { reads_all = λ live unflagged. absurd (no_more live); frees_all = λ live unflagged. absurd (no_more live) }
move_keeps i x (ReceiverKnows known untold odd) p = record { reads_all = p.reads_all; frees_all = p.frees_all }
move_keeps i x (ReadTurns answers plain posted even) p = record { reads_all = p.reads_all; frees_all = p.frees_all }
move_keeps i x (FreeActs answers place ds plain posted odd g) p = let q = as_due i x p ds g.fetches_same g.frees_same in record { reads_all = q.reads_all; frees_all = q.frees_all }
move_keeps i x (ReadOffers o acted even inside is) p = record { reads_all = p.reads_all; frees_all = p.frees_all }
move_keeps i x (ReadLands k o live untold at same offset inside) p = record { reads_all = p.reads_all; frees_all = p.frees_all }
move_keeps i x (ReadTells ds live acted even known g) p = let q = as_due i x p ds g.fetches_same g.frees_same in record { reads_all = q.reads_all; frees_all = q.frees_all }
move_keeps i x (FreeTells live acted odd) p = record { reads_all = p.reads_all; frees_all = p.frees_all }
move_keeps i x (PartRuns v n r short) p = record { reads_all = p.reads_all; frees_all = p.frees_all }
move_keeps i x (MessageRuns v n answers ds plain r whole g) p = let q = as_due i x p ds g.fetches_same g.frees_same in record { reads_all = q.reads_all; frees_all = q.frees_all }

pub moves_keep_posted : MovesKeepPosted
moves_keep_posted i x s moves p = move_keeps i x moves p

-- ---- work

inserted : {X : Type 0} (more xs ys : List X) → Inserts more xs ys → length ys ≡ length xs + length more
inserted more xs ys g =
    let a : length xs ≡ length (g.front ++ g.behind) = ap length g.without in
    let b : length ys ≡ length (g.front ++ (more ++ g.behind)) = ap length g.with_them in
    omega (arith, a, b, length-append g.front g.behind, length-append g.front (more ++ g.behind), length-append more g.behind)

-- nothing is claimed of an end that is over
over_posted : (posted : ℕ) (ended flagged : Bool) (fetched freed receives reads : ℕ) (sent : List Letter) → (ended ≡ true) ⊎ (flagged ≡ true) → AreAllPosted posted ended flagged fetched freed receives reads sent
over_posted posted ended flagged fetched freed receives reads sent (inl e) = record { reads_all = λ live unflagged. absurd (no_more (sym e ∙ live)); frees_all = λ live unflagged. absurd (no_more (sym e ∙ live)) }
over_posted posted ended flagged fetched freed receives reads sent (inr e) = record { reads_all = λ live unflagged. absurd (no_more (sym e ∙ unflagged)); frees_all = λ live unflagged. absurd (no_more (sym e ∙ unflagged)) }

pub received_within : (i : ℕ) (x : Line) → IsKeptLine i x → x.channel.receives ≤ length x.sent
received_within i x h = let a = h.messages.receives_completed in let b = h.sends.acted_within in let d = h.sends.posted_within in omega (arith, a, b, d)

sent_posted : (i : ℕ) (x : Line) (l : Letter) → IsKeptLine i x → IsPostedLine i x →
    AreAllPosted (length x.sight.receiver.posted) x.sight.receiver.ended x.channel.receiver_ended (length (fetches i x.sight.dues)) (length (frees i x.sight.dues)) x.channel.receives x.channel.reads (x.sent ++ l ∷ [])
sent_posted i x l h p = record {
  reads_all = λ live unflagged. let a = p.reads_all live unflagged in let same = fetched_append x.sent (l ∷ []) x.channel.receives (received_within i x h) in omega (arith, a, same);
  frees_all = p.frees_all;
}

pub at_most : (t : Bool) → (if t then 1 else 0) ≤ 1
at_most true = omega arith
at_most false = omega arith

-- a Read is due where all before it are freed
read_turn : (i : ℕ) (x : Line) → IsKeptLine i x → 1 ≤ length (fetches i x.sight.dues) → length x.sight.receiver.posted % 2 ≡ 0
read_turn i x h due =
    let a = h.counts.reads_posted in
    let b = h.counts.slot_freed in
    let d = h.counts.acted_within in
    let most = copied_long x.channel.receives x.sent in
    let u : (if x.channel.slot_in_use then 1 else 0) ≤ 1 = at_most x.channel.slot_in_use in
    omega (arith, due, a, b, d, most, u)

-- a Send of no bytes is due behind a Read
free_turn : (i : ℕ) (x : Line) → IsKeptLine i x → 1 ≤ length (frees i x.sight.dues) → length x.sight.receiver.posted % 2 ≡ 1
free_turn i x h due =
    let a = h.counts.frees_posted in
    let b = h.counts.bodies_posted in
    omega (arith, due, a, b)

work_keeps_one : (i : ℕ) (x : Line) {x' : Line} (w : WorksTo i x x') → i ≤ 8 → AreOpen x.sent x.open' → PostsUnlessOver i x w → IsKeptLine i x → IsPostedLine i x → IsPostedLine i x'
work_keeps_one i x (Copies place size bytes ds is g) known opened posts h p = record {
  reads_all = λ live unflagged.
      let a = p.reads_all live unflagged in
      let more = inserted (option_to_list (fetch_of (header_of bytes))) (fetches i x.sight.dues) (fetches i ds) g.fetch in
      let next = copied_counted i x place size bytes ds known opened is g h in
      omega (arith, a, more, next);
  frees_all = λ live unflagged. let a = p.frees_all live unflagged in let same : length (frees i ds) ≡ length (frees i x.sight.dues) = ap length g.frees_same in omega (arith, a, same);
}
work_keeps_one i x (Reposts place ds g) known opened posts h p = let q = as_due i x p ds g.fetches_same g.frees_same in record { reads_all = q.reads_all; frees_all = q.frees_all }
work_keeps_one i x (RepostsNot place ds g) known opened posts h p = as_due i x p ds g.fetches_same g.frees_same
work_keeps_one i x (Fetches f ds g live) known opened posts h p =
    let less = inserted (f ∷ []) (fetches i ds) (fetches i x.sight.dues) g.fetch in
    let more = length-append x.sight.receiver.posted (read_for i f ∷ []) in
    let even = read_turn i x h (omega (arith, less)) in
    let same : length (frees i ds) ≡ length (frees i x.sight.dues) = ap length g.frees_same in
    record {
      reads_all = λ lives unflagged. let a = p.reads_all lives unflagged in omega (arith, a, less, more, even);
      frees_all = λ lives unflagged. let a = p.frees_all lives unflagged in omega (arith, a, same, more, even);
    }
work_keeps_one i x (FetchesNot f ds g) known opened posts h p = over_posted (length x.sight.receiver.posted) x.sight.receiver.ended x.channel.receiver_ended (length (fetches i ds)) (length (frees i ds)) x.channel.receives x.channel.reads x.sent posts
work_keeps_one i x (BodyCopies size ds g) known opened posts h p = record {
  reads_all = λ live unflagged. let a = p.reads_all live unflagged in let same : length (fetches i ds) ≡ length (fetches i x.sight.dues) = ap length g.fetches_same in omega (arith, a, same);
  frees_all = λ live unflagged. let a = p.frees_all live unflagged in let more = g.free in omega (arith, a, more);
}
work_keeps_one i x (FreePosts ds g live) known opened posts h p =
    let less = g.free in
    let more = length-append x.sight.receiver.posted (freed_as ∷ []) in
    let odd = free_turn i x h (omega (arith, less)) in
    let same : length (fetches i ds) ≡ length (fetches i x.sight.dues) = ap length g.fetches_same in
    record {
      reads_all = λ lives unflagged. let a = p.reads_all lives unflagged in omega (arith, a, same, more, odd);
      frees_all = λ lives unflagged. let a = p.frees_all lives unflagged in omega (arith, a, less, more, odd);
    }
work_keeps_one i x (FreePostsNot ds g) known opened posts h p = over_posted (length x.sight.receiver.posted) x.sight.receiver.ended x.channel.receiver_ended (length (fetches i ds)) (length (frees i ds)) x.channel.receives x.channel.reads x.sent posts
work_keeps_one i x (SlotFrees ds g) known opened posts h p = let q = as_due i x p ds g.fetches_same g.frees_same in record { reads_all = q.reads_all; frees_all = q.frees_all }
work_keeps_one i x (Stores stored same) known opened posts h p = record { reads_all = p.reads_all; frees_all = p.frees_all }
work_keeps_one i x (Sends l is_letter live slot_free) known opened posts h p = let q = sent_posted i x l h p in record { reads_all = q.reads_all; frees_all = q.frees_all }
work_keeps_one i x (SendsEnded l is_letter gone slot_free) known opened posts h p = let q = sent_posted i x l h p in record { reads_all = q.reads_all; frees_all = q.frees_all }

pub work_keeps_posted : WorkKeepsPosted
work_keeps_posted i x x' w known opened posts h p = work_keeps_one i x w known opened posts h p
