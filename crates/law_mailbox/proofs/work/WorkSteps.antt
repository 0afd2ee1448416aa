-- Each step of work, and each letter that is stored or sent, keeps what is true of a connection.
use Rattle.std.proofs.Common.{◌≡◌, ℕ, ◌+◌, ◌*◌, ◌≤◌, List, [], ◌∷◌, ◌++◌, length, sym, subst}
use Rattle.std.specs.Prelude.{option_to_list}
use Rattle.rdma_types.specs.Memory.{cut}
use Rattle.packetless_machine.specs.Machine.{End}
use Rattle.mailbox_rules.specs.declared.due.Due.{Due}
use Rattle.mailbox_rules.specs.declared.letters.Letter.{Letter}
use Rattle.mailbox_rules.specs.Histories.{Placed, fetched_before}
use Rattle.mailbox_rules.specs.Letters.{header_of}
use Rattle.mailbox_rules.specs.Opening.{place_bytes}
use Rattle.mailbox_rules.specs.State.{Channel}
use Rattle.mailbox_rules.specs.Working.{fetch_of}
use Rattle.law_mailbox.specs.Arrived.{AreOpen}
use Rattle.law_mailbox.specs.Kept.{IsKeptWith, Pending, bodies, copies, fetches, frees, pending, reposts, sent_as, slots}
use Rattle.law_mailbox.specs.Works.{BodyCopies, Copies, Fetches, FetchesNot, FreePosts, FreePostsNot, IsCopied, IsKeptLine, Line, Reposts, RepostsNot, Sends, SendsEnded, SlotFrees, Stores, WorkKeeps, WorksTo}
use Rattle.law_mailbox.proofs.work.Fetching as fetching
use Rattle.law_mailbox.proofs.work.Sending as sending
use Rattle.law_mailbox.proofs.work.Working as working

-- what is kept with the same things due, told otherwise
moved : (i : ℕ) (sender receiver : End) (stored landed : List ℕ) (c : Channel) (sent : List Letter) (open' : List Placed) (p q : Pending) → p ≡ q →
    IsKeptWith i sender receiver stored landed p c sent open' → IsKeptWith i sender receiver stored landed q c sent open'
moved i sender receiver stored landed c sent open' p q e h = subst (λ (d : Pending). IsKeptWith i sender receiver stored landed d c sent open') e h

work_keeps_one : (i : ℕ) (x : Line) {x' : Line} → i ≤ 8 → AreOpen x.sent x.open' → WorksTo i x x' → IsKeptLine i x → IsKeptLine i x'
work_keeps_one i x known opened (Copies place size bytes ds is g) h =
    let before : Pending = record { copied = (place, size) ∷ copies i ds; reposted = g.repost.front ++ g.repost.behind; fetched = g.fetch.front ++ g.fetch.behind; bodies = bodies i ds; frees = length (frees i ds); slots = length (slots i ds) } in
    moved i x.sight.sender x.sight.receiver x.sight.stored x.sight.landed _ x.sent x.open' _ _
    (λ k. record { copied = copies i ds; reposted = sym g.repost.with_them k; fetched = sym g.fetch.with_them k; bodies = bodies i ds; frees = length (frees i ds); slots = length (slots i ds) })
    (working.copies i x.sight.sender x.sight.receiver x.sight.stored x.sight.landed x.channel x.sent x.open' (copies i ds) g.repost.front g.repost.behind place size g.fetch.front g.fetch.behind (bodies i ds) (length (frees i ds)) (length (slots i ds)) known opened
    (moved i x.sight.sender x.sight.receiver x.sight.stored x.sight.landed x.channel x.sent x.open' _ before
    (λ k. record { copied = g.first k; reposted = g.repost.without k; fetched = g.fetch.without k; bodies = sym g.bodies_same k; frees = length (sym g.frees_same k); slots = length (sym g.slots_same k) }) h) bytes is)
work_keeps_one i x known opened (Reposts place ds g) h =
    moved i x.sight.sender _ x.sight.stored x.sight.landed x.channel x.sent x.open' _ _
    (λ k. record { copied = copies i ds; reposted = sym g.repost.without k; fetched = fetches i ds; bodies = bodies i ds; frees = length (frees i ds); slots = length (slots i ds) })
    (working.reposts i x.sight.sender x.sight.receiver x.sight.stored x.sight.landed x.channel x.sent x.open' (copies i ds) g.repost.front g.repost.behind place (fetches i ds) (bodies i ds) (length (frees i ds)) (length (slots i ds))
    (moved i x.sight.sender x.sight.receiver x.sight.stored x.sight.landed x.channel x.sent x.open' _ _
    (λ k. record { copied = sym g.copies_same k; reposted = g.repost.with_them k; fetched = sym g.fetches_same k; bodies = sym g.bodies_same k; frees = length (sym g.frees_same k); slots = length (sym g.slots_same k) }) h))
work_keeps_one i x known opened (RepostsNot place ds g) h =
    moved i x.sight.sender x.sight.receiver x.sight.stored x.sight.landed x.channel x.sent x.open' _ _
    (λ k. record { copied = copies i ds; reposted = sym g.repost.without k; fetched = fetches i ds; bodies = bodies i ds; frees = length (frees i ds); slots = length (slots i ds) })
    (working.reposts_not i x.sight.sender x.sight.receiver x.sight.stored x.sight.landed x.channel x.sent x.open' (copies i ds) g.repost.front g.repost.behind place (fetches i ds) (bodies i ds) (length (frees i ds)) (length (slots i ds))
    (moved i x.sight.sender x.sight.receiver x.sight.stored x.sight.landed x.channel x.sent x.open' _ _
    (λ k. record { copied = sym g.copies_same k; reposted = g.repost.with_them k; fetched = sym g.fetches_same k; bodies = sym g.bodies_same k; frees = length (sym g.frees_same k); slots = length (sym g.slots_same k) }) h))
work_keeps_one i x known opened (Fetches f ds g live) h =
    moved i x.sight.sender _ x.sight.stored x.sight.landed x.channel x.sent x.open' _ _
    (λ k. record { copied = copies i ds; reposted = reposts i ds; fetched = sym g.fetch.without k; bodies = bodies i ds; frees = length (frees i ds); slots = length (slots i ds) })
    (fetching.fetches i x.sight.sender x.sight.receiver x.sight.stored x.sight.landed x.channel x.sent x.open' (copies i ds) (reposts i ds) g.fetch.front g.fetch.behind f (bodies i ds) (length (frees i ds)) (length (slots i ds))
    (moved i x.sight.sender x.sight.receiver x.sight.stored x.sight.landed x.channel x.sent x.open' _ _
    (λ k. record { copied = sym g.copies_same k; reposted = sym g.reposts_same k; fetched = g.fetch.with_them k; bodies = sym g.bodies_same k; frees = length (sym g.frees_same k); slots = length (sym g.slots_same k) }) h) live)
work_keeps_one i x known opened (FetchesNot f ds g) h =
    moved i x.sight.sender x.sight.receiver x.sight.stored x.sight.landed x.channel x.sent x.open' _ _
    (λ k. record { copied = copies i ds; reposted = reposts i ds; fetched = sym g.fetch.without k; bodies = bodies i ds; frees = length (frees i ds); slots = length (slots i ds) })
    (fetching.fetches_not i x.sight.sender x.sight.receiver x.sight.stored x.sight.landed x.channel x.sent x.open' (copies i ds) (reposts i ds) g.fetch.front g.fetch.behind f (bodies i ds) (length (frees i ds)) (length (slots i ds))
    (moved i x.sight.sender x.sight.receiver x.sight.stored x.sight.landed x.channel x.sent x.open' _ _
    (λ k. record { copied = sym g.copies_same k; reposted = sym g.reposts_same k; fetched = g.fetch.with_them k; bodies = sym g.bodies_same k; frees = length (sym g.frees_same k); slots = length (sym g.slots_same k) }) h))
work_keeps_one i x known opened (BodyCopies size ds g) h =
    moved i x.sight.sender x.sight.receiver x.sight.stored x.sight.landed _ x.sent x.open' _ _
    (λ k. record { copied = copies i ds; reposted = reposts i ds; fetched = fetches i ds; bodies = sym g.body.without k; frees = sym g.free k; slots = length (slots i ds) })
    (fetching.body_copies i x.sight.sender x.sight.receiver x.sight.stored x.sight.landed x.channel x.sent x.open' (copies i ds) (reposts i ds) (fetches i ds) g.body.front g.body.behind size (length (frees i x.sight.dues)) (length (slots i ds)) opened
    (moved i x.sight.sender x.sight.receiver x.sight.stored x.sight.landed x.channel x.sent x.open' _ _
    (λ k. record { copied = sym g.copies_same k; reposted = sym g.reposts_same k; fetched = sym g.fetches_same k; bodies = g.body.with_them k; frees = length (frees i x.sight.dues); slots = length (sym g.slots_same k) }) h))
work_keeps_one i x known opened (FreePosts ds g live) h =
    fetching.free_posts i x.sight.sender x.sight.receiver x.sight.stored x.sight.landed x.channel x.sent x.open' (copies i ds) (reposts i ds) (fetches i ds) (bodies i ds) (length (frees i ds)) (length (slots i ds))
    (moved i x.sight.sender x.sight.receiver x.sight.stored x.sight.landed x.channel x.sent x.open' _ _
    (λ k. record { copied = sym g.copies_same k; reposted = sym g.reposts_same k; fetched = sym g.fetches_same k; bodies = sym g.bodies_same k; frees = g.free k; slots = length (sym g.slots_same k) }) h) live
work_keeps_one i x known opened (FreePostsNot ds g) h =
    fetching.free_posts_not i x.sight.sender x.sight.receiver x.sight.stored x.sight.landed x.channel x.sent x.open' (copies i ds) (reposts i ds) (fetches i ds) (bodies i ds) (length (frees i ds)) (length (slots i ds))
    (moved i x.sight.sender x.sight.receiver x.sight.stored x.sight.landed x.channel x.sent x.open' _ _
    (λ k. record { copied = sym g.copies_same k; reposted = sym g.reposts_same k; fetched = sym g.fetches_same k; bodies = sym g.bodies_same k; frees = g.free k; slots = length (sym g.slots_same k) }) h)
work_keeps_one i x known opened (SlotFrees ds g) h =
    fetching.slot_frees i x.sight.sender x.sight.receiver x.sight.stored x.sight.landed x.channel x.sent x.open' (copies i ds) (reposts i ds) (fetches i ds) (bodies i ds) (length (frees i ds)) (length (slots i ds))
    (moved i x.sight.sender x.sight.receiver x.sight.stored x.sight.landed x.channel x.sent x.open' _ _
    (λ k. record { copied = sym g.copies_same k; reposted = sym g.reposts_same k; fetched = sym g.fetches_same k; bodies = sym g.bodies_same k; frees = length (sym g.frees_same k); slots = g.slot k }) h)
work_keeps_one i x known opened (Stores stored same) h =
    fetching.stores i x.sight.sender x.sight.receiver x.sight.stored x.sight.landed x.channel x.sent x.open' (copies i x.sight.dues) (reposts i x.sight.dues) (fetches i x.sight.dues) (bodies i x.sight.dues) (length (frees i x.sight.dues)) (length (slots i x.sight.dues)) stored same h
work_keeps_one i x known opened (Sends l is_letter live slot_free) h =
    sending.sent_with i x.sight.sender x.sight.receiver x.sight.stored x.sight.landed x.channel x.sent x.open' (pending i x.sight.dues) l is_letter h slot_free (x.sight.sender.posted ++ sent_as i l ∷ [])
    (sending.sends_now i x.sight.sender x.sight.receiver x.sight.stored x.sight.landed x.channel x.sent x.open' (pending i x.sight.dues) l is_letter h slot_free live)
work_keeps_one i x known opened (SendsEnded l is_letter gone slot_free) h =
    sending.sent_with i x.sight.sender x.sight.receiver x.sight.stored x.sight.landed x.channel x.sent x.open' (pending i x.sight.dues) l is_letter h slot_free x.sight.sender.posted
    (sending.sends_ended i x.sight.sender x.sight.receiver x.sight.stored x.sight.landed x.channel x.sent x.open' (pending i x.sight.dues) l is_letter h slot_free gone)

pub work_keeps : WorkKeeps
work_keeps i x x' known opened works h = work_keeps_one i x known opened works h

-- a message that is copied makes a fetch due where its letter is long
pub copied_counted : (i : ℕ) (x : Line) (place size : ℕ) (bytes : List ℕ) (ds : List Due) → i ≤ 8 → AreOpen x.sent x.open' → bytes ≡ cut (place_bytes * place) size x.sight.landed →
    IsCopied i x.sight.dues ds place size (option_to_list (fetch_of (header_of bytes))) → IsKeptLine i x →
    fetched_before (x.channel.receives + 1) x.sent ≡ fetched_before x.channel.receives x.sent + length (option_to_list (fetch_of (header_of bytes)))
copied_counted i x place size bytes ds known opened is g h =
    let before : Pending = record { copied = (place, size) ∷ copies i ds; reposted = g.repost.front ++ g.repost.behind; fetched = g.fetch.front ++ g.fetch.behind; bodies = bodies i ds; frees = length (frees i ds); slots = length (slots i ds) } in
    working.copy_counted i x.sight.sender x.sight.receiver x.sight.stored x.sight.landed x.channel x.sent x.open' (copies i ds) g.repost.front g.repost.behind place size g.fetch.front g.fetch.behind (bodies i ds) (length (frees i ds)) (length (slots i ds)) known opened
    (moved i x.sight.sender x.sight.receiver x.sight.stored x.sight.landed x.channel x.sent x.open' _ before
    (λ k. record { copied = g.first k; reposted = g.repost.without k; fetched = g.fetch.without k; bodies = sym g.bodies_same k; frees = length (sym g.frees_same k); slots = length (sym g.slots_same k) }) h) bytes is
