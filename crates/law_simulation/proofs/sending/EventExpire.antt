-- The machine follows an expiry: where it is counted by one Expire, and else by no step.
use Rattle.std.proofs.Common.{arith, ◌≡◌, ◌≤◌, ◌<◌, ◌+◌, ℕ, suc, [], ◌∷◌, length, true, false, Bool, refl, sym, ap, ◌∙◌, subst, inl, inr}
use Rattle.std.specs.Prelude.{Option, Some, None, not, ◌&&◌, ◌==◌, nat_lt, if◌then◌else◌}
use Rattle.std.proofs.lemmas.Bool.Decides.{nat_tests, leb_tells, eqb_tells}
use Rattle.rdma_types.specs.declared.names.ObjName.{ObjName}
use Rattle.rdma_types.specs.declared.answers.Answer.{Answer}
use Rattle.rdma_types.specs.declared.answers.Answer.TheVariants as answers
use Rattle.rdma_types.specs.declared.answers.ExpiryIgnored.{ExpiryIgnored}
use Rattle.rdma_types.specs.declared.requests.WcStatus.TheVariants as status
use Rattle.rdma_types.specs.Lists.{store_named}
use Rattle.rdma_types.specs.Spans.{end_number}
use Rattle.protocol.specs.declared.events.Event.TheVariants as events
use Rattle.protocol.specs.declared.events.WorldEvent.TheVariants as world_events
use Rattle.protocol.specs.State.{World, Link}
use Rattle.protocol.specs.EndWords as words
use Rattle.protocol.specs.EndWords.{is_paused, is_resuming}
use Rattle.protocol.specs.Refusals as refusing
use Rattle.protocol.specs.Requester.{not_counted, counted, ended_with}
use Rattle.protocol.specs.DeviceStep as device
use Rattle.protocol.specs.WorldStep as step
use Rattle.protocol.specs.WorldStep.{is_live, home, ran}
use Rattle.packetless_machine.specs.declared.steps.MachineStep.TheVariants as steps
use Rattle.packetless_machine.specs.Machine as machine
use Rattle.packetless_machine.specs.Machine.{Machine, End, has_context, has_end}
use Rattle.packetless_machine.specs.Numbers.{due, oldest}
use Rattle.packetless_machine.specs.Steps as making
use Rattle.packetless_machine.specs.Steps.{expire, expired, has_untold}
use Rattle.law_simulation.specs.Kept as kept
use Rattle.law_simulation.specs.Carries.{is_counted, expire_steps}
use Rattle.law_simulation.specs.Stands.{Stands}
use Rattle.law_simulation.specs.Views.{requests_of}
use Rattle.law_simulation.specs.Law.{Reaches, Follows}
use Rattle.law_simulation.proofs.relation.Live.{live_of}
use Rattle.law_simulation.proofs.relation.Linked.{end_there_of, linked_of, context_with}
use Rattle.law_simulation.proofs.sending.GoUnheard.{unheard_follows, same_reached, nothing_heard}
use Rattle.law_simulation.proofs.sending.GoEnd.{Goes_on, gone_end}
use Rattle.law_simulation.proofs.sending.GoTables.{end_kept}
use Rattle.law_simulation.proofs.sending.GoLive.{LiveEnd, ContextGoes, alone, alone_stands, link_is, sound_here, connected_here, ended_here, untold_here, sends_here, ordered_here, fenced_here, joined_here, name_there}
use Rattle.law_simulation.proofs.sending.GoNumbers.{some_untold}
use Rattle.law_simulation.proofs.sending.GoSound.{gone_sound, known_already}
use Rattle.law_simulation.proofs.sending.GoEnding.{over_stands}
use Rattle.law_simulation.proofs.sending.GoFound.{found_linked}

-- where an expiry is counted, the end is in Rts, and something is sent that is not acknowledged
expiring : (l : Link) → not_counted l ≡ None → (l.ended ≡ false) × ((l.sender.next == l.sender.una) ≡ false)
unfolding not_counted
expiring l h = by_tests l.ended (is_paused l.moving.phase) (is_resuming l.moving.phase) l.sender.rnr_wait (l.sender.next == l.sender.una) _ _ _ _ _ h
  where
    by_tests : (a b c d e : Bool) (u v x y z : ExpiryIgnored) → (if a then Some u else if b then Some v else if c then Some x else if d then Some y else if e then Some z else None) ≡ None → (a ≡ false) × (e ≡ false)
    by_tests true b c d e u v x y z h = absurd (cc)
    by_tests false true c d e u v x y z h = absurd (cc)
    by_tests false false true d e u v x y z h = absurd (cc)
    by_tests false false false true e u v x y z h = absurd (cc)
    by_tests false false false false true u v x y z h = absurd (cc)
    by_tests false false false false false u v x y z h = (refl, refl)

all_true : (a b c : Bool) → a ≡ true → b ≡ false → c ≡ true → (a && (not b && c)) ≡ true
all_true a b c h i j = rw (h, i, j) refl

less_tells : (a b : ℕ) → a < b → nat_lt a b ≡ true
less_tells a b h = grind (arith, nat_tests, leb_tells (suc a) b)

apart : (a b : ℕ) → (a == b) ≡ false → b ≤ a → b < a
apart a b h l = elim (eqb_tells a b) [
  | inl t ↦ absurd (cc (t.0, h))
  | inr t ↦ omega (arith, t.1, l)
]

module _ (w : World) (m : Machine) (o : ObjName) (s : Stands w m) where
  abbrev f : End
  f = machine.end_of m o

  -- the world where the end has failed, and where the expiry is counted
  abbrev spent_world : Link → World
  spent_world l = (ran w (device.answers (device.with_context (home w o.context) (ended_with (live_of w o.context) (end_there_of w o) l status.RetryExceeded)) answers.Spent)).world

  abbrev counted_world : Link → World
  counted_world l = (ran w (device.answers (device.with_context (home w o.context) (linked_of w o (words.with_sender l (counted l.sender)))) (answers.Expired (l.sender.spent + 1)))).world

  expire_reached : (w' : World) (a : Answer) → is_counted a ≡ true → has_untold m o ≡ true → Stands w' (expire m o) → Reaches w m (world_events.At (events.Expire o)) w' a
  unfolding expire_steps kept.verb_in
  expire_reached w' a counts untold stands = record {
    steps = steps.Expire o ∷ [];
    is_run = (untold, tt);
    heard = sym (nothing_heard w (events.Expire o) a refl);
    allowed = sym (ap (λ b. if b then steps.Expire o ∷ [] else []) counts);
    stands = stands;
  }

  module _ (l : Link) (h : LiveEnd w m o l) (none : not_counted l ≡ None) where
    alive : l.ended ≡ false
    alive = (expiring l none).0

    untold : has_untold m o ≡ true
    unfolding has_untold oldest
    untold =
        let before : l.sender.una < l.sender.next = apart l.sender.next l.sender.una (expiring l none).1 (ordered_here w m o l s h).una_next in
        let within : l.sender.next ≤ end_number f.posted f.mtu = omega (arith, (ordered_here w m o l s h).next_top, (ordered_here w m o l s h).top_end) in
        all_true _ _ _ (connected_here w m o l s h) (ended_here w m o l s h ∙ alive)
        (less_tells f.told (length f.posted) (some_untold (requests_of f) l.sender.next (omega (arith, before, (sends_here w m o l s h alive).una)) within))

    -- the last expiry is the same on both sides
    same_spent : (f.spent == f.retry) ≡ (l.sender.spent == l.terms.retry)
    same_spent =
        ap (λ k. k == f.retry) (sym (sends_here w m o l s h alive).spent)
        ∙ ap (λ k. l.sender.spent == k) (sym (joined_here w m o l s h).retry ∙ ap (λ z. z.terms.retry) (link_is w m o l s h))

    one_more : (a b : ℕ) → (a == b) ≡ false → a ≤ b → suc a ≤ b
    one_more a b h l = elim (eqb_tells a b) [
      | inl t ↦ absurd (cc (t.0, h))
      | inr t ↦ omega (arith, t.1, l)
    ]

    counted_on : (l.sender.spent == l.terms.retry) ≡ false → Goes_on (counted l.sender) (requests_of (gone_end f f.told f.known (suc f.spent) f.waits f.ended))
    unfolding oldest due
    counted_on more =
        let t = sends_here w m o l s h alive in
        let u = ordered_here w m o l s h in
        record {
          sends = record { first = t.first; una = t.una; spent = omega (arith, t.spent); few = one_more f.spent f.retry (same_spent ∙ more) t.few; waits = t.waits };
          ordered = record { una_next = omega arith; next_top = omega (arith, u.una_next, u.next_top); top_end = u.top_end; due_top = u.due_top; reach = u.reach; limit = u.limit };
          fenced = fenced_here w m o l s h alive;
          telling = (joined_here w m o l s h).in_pieces.telling;
        }

    counted_stands : (l.sender.spent == l.terms.retry) ≡ false → Stands (counted_world l) (machine.in_end m o expired)
    unfolding expired
    counted_stands more =
        let sound = sound_here w m o l s h in
        let ended : f.ended ≡ false = ended_here w m o l s h ∙ alive in
        alone_stands w m o l s h (counted l.sender) f.told f.known (suc f.spent) f.waits (answers.Expired (l.sender.spent + 1)) alive (omega arith) (omega arith) (untold_here w m o l s h)
        (gone_sound _ _ f f.told f.known (suc f.spent) f.waits (connected_here w m o l s h) ended (known_already f sound.sound ended) sound) (counted_on more)

    as_before : Goes_on l.sender (requests_of f)
    as_before = record { sends = sends_here w m o l s h alive; ordered = ordered_here w m o l s h; fenced = fenced_here w m o l s h alive; telling = (joined_here w m o l s h).in_pieces.telling }

    unchanged : ContextGoes w m (machine.with_end m o f) o (record (live_of w o.context) { ends = store_named (λ z. z.name) o.name (record (end_there_of w o) { link = Some l }) (live_of w o.context).ends }) (context_with m o f) (record (end_there_of w o) { link = Some l }) f l
    unfolding words.with_end words.with_link words.with_sender
    unchanged =
        subst (λ k. ContextGoes w m (machine.with_end m o f) o (record (live_of w o.context) { ends = store_named (λ z. z.name) k (record (end_there_of w o) { link = Some l }) (live_of w o.context).ends }) (context_with m o f) (record (end_there_of w o) { link = Some l }) f l) (name_there w m o l s h)
        (alone w m o l s h l.sender f.told f.known f.spent f.waits (untold_here w m o l s h) (sound_here w m o l s h))

    kept_end : machine.with_end m o f ≡ m
    unfolding has_end
    kept_end = end_kept m o h.there h.found

    spent_stands : Stands (spent_world l) (making.ended_with m o status.RetryExceeded)
    unfolding words.with_sender
    spent_stands =
        subst (λ z. Stands (spent_world l) (making.ended_with z o status.RetryExceeded)) kept_end
        (over_stands w m o l s h l.sender f.told f.known f.spent f.waits alive (omega arith) (omega arith) as_before (untold_here w m o l s h)
        (machine.with_end m o f) (live_of w o.context) (context_with m o f) status.RetryExceeded answers.Spent refl unchanged (sound_here w m o l s h))

    by_spent : (b : Bool) → (l.sender.spent == l.terms.retry) ≡ b →
        let next = if b then device.answers (device.with_context (home w o.context) (ended_with (live_of w o.context) (end_there_of w o) l status.RetryExceeded)) answers.Spent else device.answers (device.with_context (home w o.context) (linked_of w o (words.with_sender l (counted l.sender)))) (answers.Expired (l.sender.spent + 1)) in
        Reaches w m (world_events.At (events.Expire o)) (ran w next).world (ran w next).answer
    unfolding ran step.numbered is_counted expire
    by_spent true h = expire_reached (spent_world l) answers.Spent refl untold (subst (λ b. Stands (spent_world l) (if b then making.ended_with m o status.RetryExceeded else machine.in_end m o expired)) (sym (same_spent ∙ h)) spent_stands)
    by_spent false h = expire_reached (counted_world l) (answers.Expired (l.sender.spent + 1)) refl untold (subst (λ b. Stands (counted_world l) (if b then making.ended_with m o status.RetryExceeded else machine.in_end m o expired)) (sym (same_spent ∙ h)) (counted_stands h))

  by_reason : (l : Link) (r : Option ExpiryIgnored) → LiveEnd w m o l → not_counted l ≡ r →
      Reaches w m (world_events.At (events.Expire o)) (ran w (device.expires_by (home w o.context) (live_of w o.context) (end_there_of w o) l r)).world (ran w (device.expires_by (home w o.context) (live_of w o.context) (end_there_of w o) l r)).answer
  unfolding ran step.numbered kept.verb_in expire_steps is_counted device.counts
  by_reason l (Some why) h is = same_reached w m (events.Expire o) (answers.NotCounted why) s h.live refl refl refl
  by_reason l None h is = by_spent l h is (l.sender.spent == l.terms.retry) refl

  does : (found : (l : Link) × LiveEnd w m o l) → Reaches w m (world_events.At (events.Expire o)) (ran w (device.expires (home w o.context) (live_of w o.context) (end_there_of w o))).world (ran w (device.expires (home w o.context) (live_of w o.context) (end_there_of w o))).answer
  unfolding device.expires
  does found =
      let l : Link = found.0 in
      subst (λ z. Reaches w m (world_events.At (events.Expire o)) (ran w (device.at_link (home w o.context) z (λ l. device.expires_by (home w o.context) (live_of w o.context) (end_there_of w o) l (not_counted l)))).world (ran w (device.at_link (home w o.context) z (λ l. device.expires_by (home w o.context) (live_of w o.context) (end_there_of w o) l (not_counted l)))).answer) (sym found.1.linked)
      (by_reason l (not_counted l) found.1 refl)

  pub expire_follows : Follows w m (world_events.At (events.Expire o))
  unfolding kept.verb_in refusing.refusal_of expire_steps is_counted
  expire_follows = unheard_follows w m (events.Expire o) s (record {
    silent = refl;
    refused = λ r. refl;
    does = λ live there h. does (found_linked w m o s live there h);
  })
