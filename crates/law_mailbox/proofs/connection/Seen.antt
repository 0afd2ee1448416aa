-- Steps that are seen as moves keep what is held.
use Rattle.std.proofs.Common.{ℕ, ◌≤◌, List, sym, ◌∙◌}
use Rattle.std.proofs.lemmas.List.Elements.{All-append}
use Rattle.packetless_machine.specs.Legal.{effect}
use Rattle.packetless_machine.specs.Machine.{Machine}
use Rattle.mailbox_rules.specs.declared.due.Due.{Due}
use Rattle.mailbox_rules.specs.declared.letters.Letter.{Letter}
use Rattle.mailbox_rules.specs.Histories.{Placed, placed_letters, sent_letters}
use Rattle.mailbox_rules.specs.Opening.{receiver}
use Rattle.mailbox_rules.specs.State.{Channel, channel}
use Rattle.law_mailbox.specs.Held.{connection_in}
use Rattle.law_mailbox.specs.Kept.{IsKept, Sight, dues_of, sight_of, standing}
use Rattle.law_mailbox.specs.Seen.{IsSeen, Moved, Moves, Stays, StepsSeenAsMovesKeep}
use Rattle.law_mailbox.proofs.connection.Places.{all_back, all_front}
use Rattle.law_mailbox.proofs.connection.Steps.{moves_keep}

pub all_moves : (i : ℕ) (s : Sight) {s' : Sight} (c : Channel) (sent : List Letter) (open' : List Placed) → Moves i s s' → IsKept i s c sent open' → IsKept i s' c sent open'
all_moves i s c sent open' Stays h = h
all_moves i s c sent open' (Moved {s' = s'} {s'' = s''} before move) h = moves_keep i s' s'' c sent open' move (all_moves i s c sent open' before h)

pub seen_steps_keep : StepsSeenAsMovesKeep
seen_steps_keep peers seen ts m machine s inner enabled all =
    let a = seen ts m machine s inner enabled all in
    record {
      opened = λ i low high. (a.each i low high).opened;
      joined = λ o connected. all.joined o (sym (a.joined o) ∙ connected);
      kept = λ i low high. all_moves i (sight_of machine m.owed i) (channel m i) (sent_letters i ts) (placed_letters i ts) (a.each i low high).moves (all.kept i low high);
      dues = All-append (λ d. (1 ≤ connection_in d) × (connection_in d ≤ peers)) m.owed (dues_of 0 (standing (effect machine s) receiver))
          (all_front (λ d. (1 ≤ connection_in d) × (connection_in d ≤ peers)) m.owed (dues_of 0 (standing machine receiver)) all.dues)
          (a.dues (all_back (λ d. (1 ≤ connection_in d) × (connection_in d ≤ peers)) m.owed (dues_of 0 (standing machine receiver)) all.dues));
    }

-- moves after moves
pub moves_then : (i : ℕ) (a b : Sight) {z : Sight} → Moves i a b → Moves i b z → Moves i a z
moves_then i a b before Stays = before
moves_then i a b before (Moved {s' = s'} {s'' = s''} after move) = Moved (moves_then i a b before after) move

-- what is seen of two changes of the machine, one after the other
pub seen_then : (i : ℕ) (owed : List Due) (a b z : Machine) → IsSeen i owed a b → IsSeen i owed b z → IsSeen i owed a z
seen_then i owed a b z first second = record { moves = moves_then i (sight_of a owed i) (sight_of b owed i) first.moves second.moves; opened = second.opened }

-- what is true of the connection stays, where it is seen
pub kept_seen : (i : ℕ) (owed : List Due) (a b : Machine) (c : Channel) (sent : List Letter) (open' : List Placed) → IsSeen i owed a b → IsKept i (sight_of a owed i) c sent open' → IsKept i (sight_of b owed i) c sent open'
kept_seen i owed a b c sent open' seen h = all_moves i (sight_of a owed i) c sent open' seen.moves h
