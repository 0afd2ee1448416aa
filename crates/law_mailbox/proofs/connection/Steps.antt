-- Each move keeps what is true of a connection.
use Rattle.mailbox_rules.specs.declared.letters.Letter.{Letter}
use Rattle.mailbox_rules.specs.Histories.{Placed}
use Rattle.mailbox_rules.specs.State.{Channel}
use Rattle.std.proofs.Common.{ℕ, List}
use Rattle.law_mailbox.specs.Kept.{IsKept, Sight}
use Rattle.law_mailbox.specs.Moves.{MovesKeep, MovesTo, SenderStays, ReceiverStays, OthersGain, ReceiverEnds, ReceiverKnows, ReadTurns, FreeActs, ReadOffers, ReadLands, ReadTells, FreeTells, PartRuns, MessageRuns}
use Rattle.law_mailbox.proofs.connection.Moves.{free_acts, free_tells, others_gain, read_lands, read_offers, read_tells, read_turns, receiver_ends, receiver_knows, receiver_stays, sender_stays}
use Rattle.law_mailbox.proofs.connection.Runs.{message_runs, part_runs}

move_keeps : (i : ℕ) (s : Sight) {s' : Sight} (c : Channel) (sent : List Letter) (open' : List Placed) → MovesTo i s s' → IsKept i s c sent open' → IsKept i s' c sent open'
move_keeps i s c sent open' (SenderStays told known spent waits answers dry unused in_use ended plain lives) h = sender_stays i s c sent open' h told known spent waits answers dry unused in_use ended plain lives
move_keeps i s c sent open' (ReceiverStays spent waits answers dry plain) h = receiver_stays i s c sent open' h spent waits answers dry plain
move_keeps i s c sent open' (OthersGain ds g) h = others_gain i s c sent open' h ds g
move_keeps i s c sent open' ReceiverEnds h = receiver_ends i s c sent open' h
move_keeps i s c sent open' (ReceiverKnows known untold odd) h = receiver_knows i s c sent open' h known untold odd
move_keeps i s c sent open' (ReadTurns answers plain posted even) h = read_turns i s c sent open' h answers plain posted even
move_keeps i s c sent open' (FreeActs answers place ds plain posted odd g) h = free_acts i s c sent open' h answers place ds plain posted odd g
move_keeps i s c sent open' (ReadOffers o acted even inside is) h = read_offers i s c sent open' h o acted even inside is
move_keeps i s c sent open' (ReadLands k o live untold at same offset inside) h = read_lands i s c sent open' h k o live untold at same offset inside
move_keeps i s c sent open' (ReadTells ds live acted even known g) h = read_tells i s c sent open' h ds live acted even known g
move_keeps i s c sent open' (FreeTells live acted odd) h = free_tells i s c sent open' h live acted odd
move_keeps i s c sent open' (PartRuns v n r short) h = part_runs i s c sent open' h v n r short
move_keeps i s c sent open' (MessageRuns v n answers ds plain r whole g) h = message_runs i s c sent open' h v n r ds whole g answers plain

pub moves_keep : MovesKeep
moves_keep i s s' c sent open' moves h = move_keeps i s c sent open' moves h
