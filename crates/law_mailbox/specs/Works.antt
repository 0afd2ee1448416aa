-- What work and calls change of one connection, as it is seen.
use Rattle.std.specs.Prelude.{ℕ, ◌≡◌, ◌≤◌, ◌+◌, ◌*◌, List, [], ◌∷◌, ◌++◌, length, option_to_list, true, false}
use Rattle.rdma_types.specs.declared.requests.Kind.TheVariants as kind
use Rattle.rdma_types.specs.Memory.{cut}
use Rattle.mailbox_rules.specs.declared.due.Due.{Due}
use Rattle.mailbox_rules.specs.declared.due.Fetch.{Fetch}
use Rattle.mailbox_rules.specs.declared.letters.Letter.{Letter}
use Rattle.mailbox_rules.specs.Calls.{sending}
use Rattle.mailbox_rules.specs.Histories.{Placed}
use Rattle.mailbox_rules.specs.Letters.{header_of, is_rendezvous}
use Rattle.mailbox_rules.specs.Opening.{landing_address, place_bytes, receiver_key, receiver_receive, slot_address}
use Rattle.mailbox_rules.specs.State.{Channel}
use Rattle.mailbox_rules.specs.Working.{arriving, fetch_of, filling, freeing, request}
use Rattle.rdma_types.specs.Objects.{Posted}
use Rattle.law_mailbox.specs.Arrived.{AreOpen}
use Rattle.law_mailbox.specs.Headers.{IsLetter}
use Rattle.law_mailbox.specs.Kept.{IsKept, Sight, bodies, copies, fetches, frees, freed_as, landing_offset, reposts, sent_as, slot_offset, slots}

-- ---- what becomes of the list of what is due

-- a list with others in between
pub record Inserts {X : Type 0} (more xs ys : List X) : Type 0 where
  pub front : List X
  pub behind : List X
  pub without : xs ≡ front ++ behind
  pub with_them : ys ≡ front ++ (more ++ behind)

-- the first message to be copied was copied: its place is to be posted again, and its body to be fetched, where it has one
pub record IsCopied (i : ℕ) (ds ds' : List Due) (place size : ℕ) (fetched : List Fetch) : Type 0 where
  pub first : copies i ds ≡ (place, size) ∷ copies i ds'
  pub repost : Inserts (place ∷ []) (reposts i ds) (reposts i ds')
  pub fetch : Inserts fetched (fetches i ds) (fetches i ds')
  pub bodies_same : bodies i ds' ≡ bodies i ds
  pub frees_same : frees i ds' ≡ frees i ds
  pub slots_same : slots i ds' ≡ slots i ds

-- a place was posted again, and else the same is due
pub record IsReposted (i : ℕ) (ds ds' : List Due) (place : ℕ) : Type 0 where
  pub repost : Inserts (place ∷ []) (reposts i ds') (reposts i ds)
  pub copies_same : copies i ds' ≡ copies i ds
  pub fetches_same : fetches i ds' ≡ fetches i ds
  pub bodies_same : bodies i ds' ≡ bodies i ds
  pub frees_same : frees i ds' ≡ frees i ds
  pub slots_same : slots i ds' ≡ slots i ds

-- a Read was posted
pub record IsFetched (i : ℕ) (ds ds' : List Due) (f : Fetch) : Type 0 where
  pub fetch : Inserts (f ∷ []) (fetches i ds') (fetches i ds)
  pub copies_same : copies i ds' ≡ copies i ds
  pub reposts_same : reposts i ds' ≡ reposts i ds
  pub bodies_same : bodies i ds' ≡ bodies i ds
  pub frees_same : frees i ds' ≡ frees i ds
  pub slots_same : slots i ds' ≡ slots i ds

-- a body was copied, and a Send of no bytes is to be posted
pub record IsBodyCopied (i : ℕ) (ds ds' : List Due) (size : ℕ) : Type 0 where
  pub body : Inserts (size ∷ []) (bodies i ds') (bodies i ds)
  pub free : length (frees i ds') ≡ length (frees i ds) + 1
  pub copies_same : copies i ds' ≡ copies i ds
  pub reposts_same : reposts i ds' ≡ reposts i ds
  pub fetches_same : fetches i ds' ≡ fetches i ds
  pub slots_same : slots i ds' ≡ slots i ds

-- a Send of no bytes was posted
pub record IsFreePosted (i : ℕ) (ds ds' : List Due) : Type 0 where
  pub free : length (frees i ds) ≡ length (frees i ds') + 1
  pub copies_same : copies i ds' ≡ copies i ds
  pub reposts_same : reposts i ds' ≡ reposts i ds
  pub fetches_same : fetches i ds' ≡ fetches i ds
  pub bodies_same : bodies i ds' ≡ bodies i ds
  pub slots_same : slots i ds' ≡ slots i ds

-- a slot was freed
pub record IsSlotFreed (i : ℕ) (ds ds' : List Due) : Type 0 where
  pub slot : length (slots i ds) ≡ length (slots i ds') + 1
  pub copies_same : copies i ds' ≡ copies i ds
  pub reposts_same : reposts i ds' ≡ reposts i ds
  pub fetches_same : fetches i ds' ≡ fetches i ds
  pub bodies_same : bodies i ds' ≡ bodies i ds
  pub frees_same : frees i ds' ≡ frees i ds

-- ---- work

-- the Read that a fetch posts
abbrev pub read_for : ℕ → Fetch → Posted
read_for i f = record { request = request kind.Read (receiver_key i) (landing_address i) f.length slot_address f.rkey; payload = [] }

-- a connection as it is seen, and what is held of it
pub record Line : Type 0 where
  pub sight : Sight
  pub channel : Channel
  pub sent : List Letter
  pub open' : List Placed

abbrev pub IsKeptLine : ℕ → Line → Type 0
IsKeptLine i x = IsKept i x.sight x.channel x.sent x.open'

-- what one step of work, or a letter that is stored or posted, changes
pub data WorksTo (i : ℕ) (x : Line) : Line → Type 0 where
  -- a message is copied
  Copies : (place size : ℕ) (bytes : List ℕ) (ds : List Due) → bytes ≡ cut (place_bytes * place) size x.sight.landed → IsCopied i x.sight.dues ds place size (option_to_list (fetch_of (header_of bytes))) →
      WorksTo i x (record x { sight = record x.sight { dues = ds }; channel = arriving bytes x.channel })
  -- its place is posted again
  Reposts : (place : ℕ) (ds : List Due) → IsReposted i x.sight.dues ds place →
      WorksTo i x (record x { sight = record x.sight { receiver = record x.sight.receiver { unused = x.sight.receiver.unused ++ receiver_receive i place ∷ [] }; dues = ds } })
  -- .. or not, since it is refused, or the end has ended
  RepostsNot : (place : ℕ) (ds : List Due) → IsReposted i x.sight.dues ds place → WorksTo i x (record x { sight = record x.sight { dues = ds } })
  -- a Read is posted
  Fetches : (f : Fetch) (ds : List Due) → IsFetched i x.sight.dues ds f → x.sight.receiver.ended ≡ false →
      WorksTo i x (record x { sight = record x.sight { receiver = record x.sight.receiver { posted = x.sight.receiver.posted ++ read_for i f ∷ [] }; dues = ds } })
  FetchesNot : (f : Fetch) (ds : List Due) → IsFetched i x.sight.dues ds f → WorksTo i x (record x { sight = record x.sight { dues = ds } })
  -- a body is copied
  BodyCopies : (size : ℕ) (ds : List Due) → IsBodyCopied i x.sight.dues ds size →
      WorksTo i x (record x { sight = record x.sight { dues = ds }; channel = filling (cut landing_offset size x.sight.landed) x.channel })
  -- a Send of no bytes is posted
  FreePosts : (ds : List Due) → IsFreePosted i x.sight.dues ds → x.sight.receiver.ended ≡ false →
      WorksTo i x (record x { sight = record x.sight { receiver = record x.sight.receiver { posted = x.sight.receiver.posted ++ freed_as ∷ [] }; dues = ds } })
  FreePostsNot : (ds : List Due) → IsFreePosted i x.sight.dues ds → WorksTo i x (record x { sight = record x.sight { dues = ds } })
  -- the slot is free
  SlotFrees : (ds : List Due) → IsSlotFreed i x.sight.dues ds → WorksTo i x (record x { sight = record x.sight { dues = ds }; channel = freeing x.channel })
  -- bytes are stored, and a slot in use stays as it is
  Stores : (stored : List ℕ) → (x.channel.slot_in_use ≡ true → (n : ℕ) → cut slot_offset n stored ≡ cut slot_offset n x.sight.stored) → WorksTo i x (record x { sight = record x.sight { stored = stored } })
  -- a letter's Send is posted; a body that is to be fetched is in the slot, which was free
  Sends : (l : Letter) → IsLetter l → x.sight.sender.ended ≡ false → (is_rendezvous l.body ≡ true → (x.channel.slot_in_use ≡ false) × (cut slot_offset (length l.body) x.sight.stored ≡ l.body)) →
      WorksTo i x (record {
        sight = record x.sight { sender = record x.sight.sender { posted = x.sight.sender.posted ++ sent_as i l ∷ [] } };
        channel = sending l x.channel;
        sent = x.sent ++ l ∷ [];
        open' = x.open' ++ record { place = length x.sent; letter = l } ∷ [];
      })
  -- .. or it completes at once, since the end has ended
  SendsEnded : (l : Letter) → IsLetter l → x.sight.sender.ended ≡ true → (is_rendezvous l.body ≡ true → (x.channel.slot_in_use ≡ false) × (cut slot_offset (length l.body) x.sight.stored ≡ l.body)) →
      WorksTo i x (record {
        sight = x.sight;
        channel = sending l x.channel;
        sent = x.sent ++ l ∷ [];
        open' = x.open' ++ record { place = length x.sent; letter = l } ∷ [];
      })

-- each of these keeps what is true of the connection
abbrev pub WorkKeeps : Type 0
WorkKeeps = (i : ℕ) (x x' : Line) → i ≤ 8 → AreOpen x.sent x.open' → WorksTo i x x' → IsKeptLine i x → IsKeptLine i x'
