-- Of a world and what is owed in it: what events of the network, work, and letters that are stored or posted keep is kept by each call,
-- also by one that is cut off.
use Rattle.std.proofs.Common.{◌≡◌, ℕ, List, true, false, Bool, sym, subst, Some, None, Option}
use Rattle.std.specs.Prelude.{if◌then◌else◌}
use Rattle.protocol.specs.declared.events.WorldEvent.{WorldEvent}
use Rattle.protocol.specs.State.{World}
use Rattle.protocol.specs.WorldStep.{world_step}
use Rattle.law_settling.specs.Settling.{SettlingHasEvents}
use Rattle.mailbox_rules.specs.declared.due.Due.{Due}
use Rattle.mailbox_rules.specs.declared.faults.MailFault.TheVariants as fault
use Rattle.mailbox_rules.specs.declared.letters.Arrival.{Arrival}
use Rattle.mailbox_rules.specs.declared.letters.Letter.{Letter}
use Rattle.mailbox_rules.specs.Calls.{Call, by_fault, calls, first_asked, gives, gives_at, gives_body, is_of_network, posts_letter, takes}
use Rattle.mailbox_rules.specs.Histories.{Turn}
use Rattle.mailbox_rules.specs.State.{Mail, is_sender}
use Rattle.mailbox_rules.specs.Theorem.{MayBeCalled}
use Rattle.mailbox_rules.specs.Wanting.{IsCut, IsPartlyStored}
use Rattle.mailbox_rules.specs.Working.{begun, most_steps, worked, working}
use Rattle.law_mailbox.specs.Held.{IsHeld, MayBeSent}
use Rattle.law_mailbox.proofs.work.EachCall.{after_call, after_cut}
use Rattle.law_mailbox.proofs.work.Staged.{is_worked}

module _ (peers : ℕ) (P : World → List Due → Type 0) (events : (w : World) (owed : List Due) (e : WorldEvent) → is_of_network e ≡ true → P w owed → P (world_step w e).world owed)
    (works : (ts : List Turn) (m : Mail) (n : ℕ) → IsHeld peers ts m → P m.world m.owed → P (worked n (begun m)).mail.world (worked n (begun m)).mail.owed)
    (stores : (m : Mail) (i : ℕ) (l : Letter) (m' : Mail) → MayBeSent l → IsPartlyStored m i l m' → P m.world m.owed → P m'.world m'.owed)
    (posts : (m : Mail) (i : ℕ) (l : Letter) → MayBeSent l → P m.world m.owed → P (posts_letter m i l).mail.world (posts_letter m i l).mail.owed) (named : SettlingHasEvents) where
  pub worked_kept : (ts : List Turn) (m : Mail) → IsHeld peers ts m → P m.world m.owed → P (working m).world (working m).owed
  worked_kept ts m h f = subst (λ (n : Mail). P n.world n.owed) (sym (is_worked m)) (works ts m most_steps h f)

  -- a letter that is taken leaves both as they are
  given_kept : (m : Mail) (i k tag : ℕ) (body : Option (List ℕ)) → P m.world m.owed → P (gives_body m i k tag body).mail.world (gives_body m i k tag body).mail.owed
  given_kept m i k tag None f = f
  given_kept m i k tag (Some body) f = f

  at_kept : (m : Mail) (i k : ℕ) (a : Option Arrival) → P m.world m.owed → P (gives_at m i k a).mail.world (gives_at m i k a).mail.owed
  at_kept m i k None f = f
  at_kept m i k (Some a) f = given_kept m i k a.tag a.body f

  gives_kept : (m : Mail) (i : ℕ) (k : Option ℕ) → P m.world m.owed → P (gives m i k).mail.world (gives m i k).mail.owed
  gives_kept m i None f = f
  gives_kept m i (Some k) f = at_kept m i k _ f

  takes_kept : (m : Mail) (i : ℕ) (t : Option ℕ) → P m.world m.owed → P (takes m i t).mail.world (takes m i t).mail.owed
  unfolding takes
  takes_kept m i t f = by (is_sender m i)
    where
      by : (b : Bool) → P (by_fault m (if b then None else Some fault.NoSender) (gives m i (first_asked m i t))).mail.world (by_fault m (if b then None else Some fault.NoSender) (gives m i (first_asked m i t))).mail.owed
      by true = gives_kept m i (first_asked m i t) f
      by false = f

  pub called_kept : (ts : List Turn) (m : Mail) (c : Call) → MayBeCalled c → IsHeld peers ts m → P m.world m.owed → P (calls m c).mail.world (calls m c).mail.owed
  called_kept =
      after_call (λ us x. P x.world x.owed) (IsHeld peers) (λ us x. events x.world x.owed) works (λ us x c r idle f. f) (λ us. takes_kept) (λ us x i l x' may e part h f w. stores (working x) i l x' may part w)
      (λ us x i l may e h f w. posts (working x) i l may w) named

  pub cut_kept : (ts : List Turn) (m : Mail) {c : Call} {m' : Mail} → IsCut m c m' → MayBeCalled c → IsHeld peers ts m → P m.world m.owed → P m'.world m'.owed
  cut_kept ts m cut may h f =
      after_cut (λ us x. P x.world x.owed) (IsHeld peers) (λ us x. events x.world x.owed) works (λ us x c r idle g. g) (λ us. takes_kept) (λ us x i l x' fits e part k g w. stores (working x) i l x' fits part w)
      (λ us x i l fits e k g w. posts (working x) i l fits w) named ts m cut may h f
