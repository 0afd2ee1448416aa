-- Events that are made one after the other.
use Rattle.std.proofs.Common.{◌≡◌, ℕ, suc, subst, List, [], ◌∷◌, ◌++◌, refl, sym, ap, ◌∙◌}
use Rattle.rdma_types.specs.declared.answers.Answer.{Answer}
use Rattle.protocol.specs.declared.events.WorldEvent.{WorldEvent}
use Rattle.protocol.specs.State.{World, empty_world}
use Rattle.protocol.specs.WorldStep.{world_after, world_step}
use Rattle.rdma_types.specs.Limits.{most_bytes}
use Rattle.protocol.specs.Fabric.{forgetting}
use Rattle.law_kept_datagrams.specs.Alike.{with_kept_datagrams}
use Rattle.law_kept_datagrams.proofs.Steps.{step_alike}
use Rattle.world_core.specs.Kept.{Makes}
use Rattle.mailbox_rules.specs.Opening.{at, first_events, opening_events, opening_world, receiver_receives, receives_events, sender_events, sender_receives, senders_events}
use Rattle.mailbox.specs.Steps.{IsMadeOf}
use Rattle.mailbox.proofs.Shown.{alike_kept, kept_alike}

pub after_all : (w : World) (es fs : List WorldEvent) → world_after w (es ++ fs) ≡ world_after (world_after w es) fs
unfolding world_after
after_all w [] fs = refl
after_all w (e ∷ es) fs = after_all (world_step w e).world es fs

pub made_none : (a : World) → IsMadeOf a a []
unfolding world_after
made_none a w is = is

pub made_one : (a b : World) (e : WorldEvent) (answer : Answer) → Makes (world_step a e) answer b → IsMadeOf a b (e ∷ [])
unfolding world_after
made_one a b e answer made w is = made.left ∙ alike_kept (world_step a e).world (world_step w e).world (step_alike a w e (kept_alike a w is)).world

pub made_then : (a b c : World) (es fs : List WorldEvent) → IsMadeOf a b es → IsMadeOf b c fs → IsMadeOf a c (es ++ fs)
made_then a b c es fs first later w is = later (world_after w es) (first w is) ∙ ap (λ v. with_kept_datagrams v) (sym (after_all w es fs))

pub empty_kept : empty_world ≡ with_kept_datagrams empty_world
unfolding forgetting
empty_kept = refl

pub made_as : (a b : World) (x y : WorldEvent) → x ≡ y → IsMadeOf a b (x ∷ []) → IsMadeOf a b (y ∷ [])
made_as a b x y is made = subst (λ (e : WorldEvent). IsMadeOf a b (e ∷ [])) is made

-- ---- one after the other

pub receives_more : (a b c d : World) (i k n : ℕ) → n ≡ suc k → IsMadeOf a b (receives_events i k) → IsMadeOf b c (at (receiver_receives i k) ∷ []) → IsMadeOf c d (at (sender_receives i k) ∷ []) →
    IsMadeOf a d (receives_events i n)
unfolding receives_events
receives_more a b c d i k n is before one two =
    subst (λ (j : ℕ). IsMadeOf a d (receives_events i j)) (sym is)
    (made_then a b d (receives_events i k) (at (receiver_receives i k) ∷ at (sender_receives i k) ∷ []) before (made_then b c d (at (receiver_receives i k) ∷ []) (at (sender_receives i k) ∷ []) one two))

pub senders_more : (a b c : World) (slot k n : ℕ) → n ≡ suc k → IsMadeOf a b (senders_events slot k) → IsMadeOf b c (sender_events slot n) → IsMadeOf a c (senders_events slot n)
unfolding senders_events
senders_more a b c slot k n is before one =
    subst (λ (j : ℕ). IsMadeOf a c (senders_events slot j)) (sym is)
    (made_then a b c (senders_events slot k) (sender_events slot (suc k)) before (subst (λ (j : ℕ). IsMadeOf b c (sender_events slot j)) is one))

pub opened : (w0 w1 w2 : World) (peers : ℕ) → w0 ≡ empty_world → IsMadeOf w0 w1 first_events → IsMadeOf w1 w2 (senders_events most_bytes peers) → w2 ≡ with_kept_datagrams (opening_world most_bytes peers)
unfolding opening_events
opened w0 w1 w2 peers is a b = made_then w0 w1 w2 first_events (senders_events most_bytes peers) a b empty_world (is ∙ empty_kept)
