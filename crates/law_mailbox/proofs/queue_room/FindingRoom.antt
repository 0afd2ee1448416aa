-- The work of each call finds room in the receiver's queue, and so letters are kept.
use Rattle.std.proofs.Common.{arith, ◌≡◌, ℕ, ◌+◌, ◌*◌, ◌≤◌, length, false}
use Rattle.std.proofs.lemmas.Bool.{lt-leb}
use Rattle.packetless_machine.specs.Machine.{Machine, context_of, queue_of, reserved}
use Rattle.packetless_machine.specs.Verbs.{is_full}
use Rattle.mailbox_rules.specs.Opening.{queue_name, receiver}
use Rattle.mailbox_rules.specs.State.{Mail}
use Rattle.mailbox_rules.specs.Theorem.{LettersAreKept}
use Rattle.mailbox_rules.specs.Working.{begun, worked}
use Rattle.law_mailbox.specs.AlwaysFew.{QueueEntriesAreBounded, WorkAlwaysFindsRoom}
use Rattle.law_mailbox.specs.Answered.{IsFurnished, IsFurnishedFor, WorksLeaveFurnished}
use Rattle.law_mailbox.specs.Few.{FewHaveRoom, IsHeldFew, WorksKeepFew}
use Rattle.law_mailbox.specs.Reached.{LettersAreKeptWhereWorkFindsRoom}
use Rattle.law_mailbox.specs.Room.{load}
use Rattle.law_mailbox.proofs.queue_room.FewAs.{held_of}
use Rattle.law_mailbox.proofs.opening.Furnishing.{furnished_machine, one_load, receiver_capacity_is}

-- a queue of which less is taken and reserved than its capacity is not full
not_full : (peers : ℕ) → peers ≤ 8 → (m : Machine) → IsFurnished peers m → load m receiver queue_name ≤ 18 * peers → is_full m receiver queue_name ≡ false
unfolding is_full queue_of
not_full peers small m f few =
    let capacity = receiver_capacity_is peers m f in
    lt-leb (queue_of m receiver queue_name).capacity (length (queue_of m receiver queue_name).entries + reserved (context_of m receiver) queue_name) (omega (arith, small, few, capacity))

pub finds_room : QueueEntriesAreBounded → WorksKeepFew → FewHaveRoom → WorksLeaveFurnished → WorkAlwaysFindsRoom
finds_room few works room leaves peers low small ts m reached o ready k machine stands =
    let after : Mail = (worked k (begun m)).mail in
    let before : IsHeldFew peers ts m = few peers low small ts m reached in
    let h : IsHeldFew peers ts (worked k (begun m)).mail = works peers small ts m k before in
    let f : IsFurnishedFor peers (worked k (begun m)).mail.world = leaves peers small ts m k (held_of before) ready.furnished in
    let most = room peers small ts after h.machine h.all (furnished_machine peers after.world h.machine h.stands f) h.few in
    let same = one_load after.world h.machine machine h.stands stands receiver in
    not_full peers small machine (furnished_machine peers after.world machine stands f) (omega (arith, most, same))

pub letters_kept : LettersAreKeptWhereWorkFindsRoom → WorkAlwaysFindsRoom → LettersAreKept
letters_kept kept finds peers ts m low small reached = kept peers low small (finds peers low small) ts m reached
