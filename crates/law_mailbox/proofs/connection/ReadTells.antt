-- A Read that is told, as it is seen: its body is to be copied.
use Rattle.std.proofs.Common.{arith, ◌≡◌, ℕ, suc, ◌/◌, ◌%◌, ◌<◌, ◌≤◌, List, [], ◌∷◌, ◌++◌, length, get_or, true, false, Bool, refl, sym, subst, ap, ◌∙◌, eq-eqb, eqb-true, ltb-true}
use Rattle.std.specs.Prelude.{nat_lt, not, ◌&&◌, ◌||◌, ◌==◌}
use Rattle.std.proofs.lemmas.Option.{slice_get-get_or}
use Rattle.rdma_types.specs.Kinds.{is_read, kind_of, request_done, size_of}
use Rattle.rdma_types.specs.Objects.{Posted}
use Rattle.packetless_machine.specs.Machine.{End, Machine, completing, end_of, queue_of, with_end}
use Rattle.packetless_machine.specs.Steps.{front, has_untold, may_tell, success, tell, told_one}
use Rattle.packetless_machine.proofs.Views.{end_of-completing}
use Rattle.mailbox_rules.specs.declared.due.Due.{Due}
use Rattle.mailbox_rules.specs.declared.letters.Letter.{Letter}
use Rattle.mailbox_rules.specs.Histories.{Placed}
use Rattle.mailbox_rules.specs.Opening.{connection_of, queue_name, receiver, receiver_end, sender}
use Rattle.mailbox_rules.specs.State.{Channel}
use Rattle.law_mailbox.specs.Kept.{IsKept, IsOpened, Sight, bodies, copies, dues_of, fetches, frees, long_letters, read_as, reposts, sight_of, slots}
use Rattle.law_mailbox.specs.Moves.{Gains, ReadTells}
use Rattle.law_mailbox.specs.Seen.{IsSeen, Moved, Moves, Stays}
use Rattle.law_mailbox.proofs.work.Channels.{both}
use Rattle.law_mailbox.proofs.queue_room.Gaining.{gains_between}
use Rattle.law_mailbox.proofs.connection.Longer.{opened_longer, sees_more}
use Rattle.law_mailbox.proofs.connection.Opens.{opened_as}
use Rattle.law_mailbox.proofs.connection.Quiet.{end_name, is_even_read, posted_few}
use Rattle.law_mailbox.proofs.connection.Requests.{read_at}
use Rattle.law_mailbox.proofs.connection.Sights.{context_there, end_is_changed, sees_receiver}
use Rattle.law_mailbox.proofs.connection.Tells.{not_true, queue_named, receiver_told}

-- a Read that is told makes a body due, on the connection of the end's number
body_due : (i : ℕ) (e : End) (l : Letter) → connection_of e.number ≡ i → bodies i (dues_of 0 (success e (read_as i l))) ≡ length l.body ∷ []
unfolding success request_done
body_due i e l number = rw (eq-eqb (connection_of e.number) i number) refl

nothing_else : (i : ℕ) (e : End) (l : Letter) → (copies i (dues_of 0 (success e (read_as i l))) ≡ []) × (slots i (dues_of 0 (success e (read_as i l))) ≡ []) × (reposts i (dues_of 0 (success e (read_as i l))) ≡ [])
    × (fetches i (dues_of 0 (success e (read_as i l))) ≡ []) × (frees i (dues_of 0 (success e (read_as i l))) ≡ [])
unfolding success request_done
nothing_else i e l = (refl, refl, refl, refl, refl)

module _ (m : Machine) (owed : List Due) (i : ℕ) (positive : 1 ≤ i) (opened : IsOpened m i) (c : Channel) (sent : List Letter) (open' : List Placed) (h : IsKept i (sight_of m owed i) c sent open')
    (even : (end_of m (receiver_end i)).told % 2 ≡ 0) (untold : (end_of m (receiver_end i)).told < length (end_of m (receiver_end i)).posted) (live : (end_of m (receiver_end i)).ended ≡ false) (acted : (end_of m (receiver_end i)).told < (end_of m (receiver_end i)).acted)
    (known : (end_of m (receiver_end i)).known ≡ size_of (front (end_of m (receiver_end i)))) where
  abbrev l : Letter
  l = get_or (long_letters sent) ((end_of m (receiver_end i)).told / 2) (record { tag = 0; body = [] })

  front_is : front (end_of m (receiver_end i)) ≡ read_as i l
  front_is =
      let few = posted_few i (end_of m (receiver_end i)).posted sent h.queue in
      read_at i (end_of m (receiver_end i)).posted sent (end_of m (receiver_end i)).told (get_or (long_letters sent) ((end_of m (receiver_end i)).told / 2) (record { tag = 0; body = [] })) h.queue untold even
      (slice_get-get_or (long_letters sent) ((end_of m (receiver_end i)).told / 2) (record { tag = 0; body = [] }) (omega (arith, few, untold)))

  abbrev told_there : Machine
  told_there = completing m receiver queue_name (success (end_of m (receiver_end i)) (front (end_of m (receiver_end i))))

  abbrev dues_then : List Due
  dues_then = owed ++ ((dues_of 0 (queue_of m receiver queue_name).entries ++ dues_of 0 (success (end_of m (receiver_end i)) (front (end_of m (receiver_end i))))) ++ dues_of i (queue_of m (sender i) queue_name).entries)

  gains : Gains i (sight_of m owed i).dues dues_then [] (size_of (front (end_of m (receiver_end i))) ∷ []) []
  gains =
      let e : End = end_of m (receiver_end i) in
      let none = nothing_else i e l in
      let as' : dues_of 0 (success e (front e)) ≡ dues_of 0 (success e (read_as i l)) = ap (λ (p : Posted). dues_of 0 (success e p)) front_is in
      gains_between i owed (dues_of 0 (queue_of m receiver queue_name).entries) (queue_of m (sender i) queue_name).entries (dues_of 0 (success e (front e))) [] (size_of (front e) ∷ []) positive
      (ap (copies i) as' ∙ none.0)
      (ap (bodies i) as' ∙ (body_due i e l h.number ∙ ap (λ (p : Posted). size_of p ∷ []) (sym front_is)))
      (ap (slots i) as' ∙ none.1) (ap (reposts i) as' ∙ none.2) (ap (fetches i) as' ∙ none.3) (ap (frees i) as' ∙ none.4)

  pub read_tells_seen : IsSeen i owed m (tell m (receiver_end i))
  unfolding told_one
  read_tells_seen =
      let context = context_there m (receiver_end i) opened.receiver_there in
      let named = queue_named m receiver opened.receiver_queue in
      let still : IsOpened told_there i = opened_longer m receiver queue_name (success (end_of m (receiver_end i)) (front (end_of m (receiver_end i)))) context opened.receiver_queue named i opened in
      let e : End = record (end_of told_there (receiver_end i)) { told = suc (end_of told_there (receiver_end i)).told; known = 0; spent = 0; waits = 0 } in
      let same : end_of told_there (receiver_end i) ≡ end_of m (receiver_end i) = end_of-completing m receiver queue_name (success (end_of m (receiver_end i)) (front (end_of m (receiver_end i)))) (receiver_end i) in
      let seen : sight_of (with_end told_there (receiver_end i) e) owed i ≡ record (sight_of m owed i) { receiver = record (end_of m (receiver_end i)) { told = suc (end_of m (receiver_end i)).told; known = 0; spent = 0; waits = 0 }; dues = dues_then } =
      sees_receiver told_there (with_end told_there (receiver_end i) e) owed i e (end_is_changed told_there (receiver_end i) e still.receiver_there (end_name told_there (receiver_end i)) refl)
      ∙ (ap (λ (s : Sight). record s { receiver = e }) (sees_more m owed i (success (end_of m (receiver_end i)) (front (end_of m (receiver_end i)))) context opened.receiver_queue named (λ h. cc))
      ∙ ap (λ (x : End). record (sight_of m owed i) { receiver = record x { told = suc x.told; known = 0; spent = 0; waits = 0 }; dues = dues_then }) same) in
      subst (λ (x : Machine). IsSeen i owed m x) (sym (receiver_told m owed i positive opened c sent open' h)) record {
        moves = subst (λ (s : Sight). Moves i (sight_of m owed i) s) (sym seen) (Moved Stays (ReadTells dues_then live acted even known gains));
        opened = opened_as told_there (receiver_end i) e still.receiver_there (end_name told_there (receiver_end i)) refl (record { connected = refl; peer = refl; domain = refl; send_queue = refl; receive_queue = refl; send_depth = refl; receive_depth = refl }) i still;
      }

-- .. where it may
pub read_may_tell : (m : Machine) (owed : List Due) (i : ℕ) → 1 ≤ i → IsOpened m i → (c : Channel) (sent : List Letter) (open' : List Placed) → IsKept i (sight_of m owed i) c sent open' → (end_of m (receiver_end i)).told % 2 ≡ 0 →
    may_tell m (receiver_end i) ≡ true → IsSeen i owed m (tell m (receiver_end i))
unfolding may_tell has_untold
read_may_tell m owed i positive opened c sent open' h even may =
    let e : End = end_of m (receiver_end i) in
    let a = both (e.connected && (not e.ended && nat_lt e.told (length e.posted))) (nat_lt e.told e.acted && (not (is_read (kind_of (front e))) || (e.known == size_of (front e)))) may in
    let b = both e.connected (not e.ended && nat_lt e.told (length e.posted)) a.0 in
    let d = both (not e.ended) (nat_lt e.told (length e.posted)) b.1 in
    let f = both (nat_lt e.told e.acted) (not (is_read (kind_of (front e))) || (e.known == size_of (front e))) a.1 in
    let untold : e.told < length e.posted = ltb-true e.told (length e.posted) d.1 in
    let reads : is_read (kind_of (front e)) ≡ true = is_even_read i e.posted sent e.told h.queue untold even in
    read_tells_seen m owed i positive opened c sent open' h even untold (not_true e.ended d.0) (ltb-true e.told e.acted f.0) (eqb-true e.known (size_of (front e)) (whole (is_read (kind_of (front e))) (e.known == size_of (front e)) reads f.1))
  where
    whole : (r k : Bool) → r ≡ true → (not r || k) ≡ true → k ≡ true
    whole true k g f = f
    whole false k g f = cc
