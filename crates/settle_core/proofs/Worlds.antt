-- Worlds that keep the last datagrams, and the states that they show.
use Rattle.std.proofs.Common.{◌≡◌, List, [], ◌∷◌, ◌++◌, false, refl, sym, ap, ◌∙◌, subst}
use Rattle.std.specs.Prelude.{◌||◌, not, option_map}
use Rattle.indexmap.specs.IndexMap.{get}
use Rattle.rdma_types.specs.declared.answers.Answer.{Answer}
use Rattle.rdma_types.specs.Lists.{same_object}
use Rattle.protocol.specs.declared.events.WorldEvent.{WorldEvent}
use Rattle.protocol.specs.State.{World}
use Rattle.protocol.specs.WorldStep.{world_after, world_step}
use Rattle.protocol.specs.Settle.{Settling, begun, last_wait, live_ends, marks, same_marks, settle_step, stepped_to}
use Rattle.protocol.proofs.Histories.{forgetting-forgetting}
use Rattle.law_kept_datagrams.specs.Alike.{AreAlike, StepAlike, with_kept_datagrams}
use Rattle.law_kept_datagrams.proofs.Steps.{step_alike}
use Rattle.world_core.specs.Kept.{Makes}
use Rattle.settle_core.specs.Shown.{HasSeen, Shows, wait_of}
use Rattle.settle_core.specs.declared.notes.Notes.{Notes}

-- ---- worlds that keep the last datagrams

pub kept_datagrams_alike : (w : World) → AreAlike (with_kept_datagrams w) w
kept_datagrams_alike w = record { devices = refl; sent = forgetting-forgetting w.sent; carried = refl; stopped = refl }

pub alike_kept_datagrams : (a b : World) → AreAlike a b → with_kept_datagrams a ≡ with_kept_datagrams b
alike_kept_datagrams a b h = λ i. record { devices = h.devices i; sent = h.sent i; carried = h.carried i; stopped = h.stopped i }

pub kept_alike : (v w : World) → v ≡ with_kept_datagrams w → AreAlike v w
kept_alike v w h = subst (λ (x : World). AreAlike x w) (sym h) (kept_datagrams_alike w)

pub kept_twice : (v w : World) → v ≡ with_kept_datagrams w → with_kept_datagrams v ≡ v
kept_twice v w h = alike_kept_datagrams v w (kept_alike v w h) ∙ sym h

-- the steps of both are alike
pub steps_shown : (v w : World) (e : WorldEvent) → v ≡ with_kept_datagrams w → StepAlike (world_step v e) (world_step w e)
steps_shown v w e h = step_alike v w e (kept_alike v w h)

-- ---- runs, one after another

pub after_append : (es fs : List WorldEvent) (w : World) → world_after w (es ++ fs) ≡ world_after (world_after w es) fs
unfolding world_after
after_append [] fs w = refl
after_append (e ∷ es) fs w = after_append es fs (world_step w e).world

-- ---- states that are shown

pub marks_shown : (v w : World) → v ≡ with_kept_datagrams w → marks v ≡ marks w
unfolding live_ends
marks_shown v w h = ap marks h

-- a step with a note of changes
pub shown_step : (w w' : World) (n n' : Notes) (s : Settling) (e : WorldEvent) → Shows w n s → w' ≡ with_kept_datagrams (world_step w e).world →
    n'.changed ≡ (n.changed || not (same_marks (marks w) (marks w'))) → n'.stepped ≡ n.stepped → n'.waited ≡ n.waited → HasSeen w' n' → Shows w' n' (settle_step s e)
unfolding settle_step stepped_to last_wait
shown_step w w' n n' s e h left changed stepped waited seen =
    let k : StepAlike (world_step w e) (world_step s.world e) = steps_shown w s.world e h.world in
    let after : w' ≡ with_kept_datagrams (world_step s.world e).world = left ∙ alike_kept_datagrams (world_step w e).world (world_step s.world e).world k.world in
    record {
      world = after;
      changed =
          changed
          ∙ (ap (λ x. x || not (same_marks (marks w) (marks w'))) h.changed
          ∙ (ap (λ x. s.changed || not (same_marks x (marks w'))) (marks_shown w s.world h.world)
          ∙ ap (λ x. s.changed || not (same_marks (marks s.world) x)) (marks_shown w' (world_step s.world e).world after)));
      stepped = stepped ∙ h.stepped;
      waited = λ o. subst (λ m. get same_object m o ≡ option_map wait_of (last_wait s o)) (sym waited) (h.waited o);
      seen = seen;
    }

-- the answer of a step is the one of the state's
pub answer_shown : (w : World) (n : Notes) (s : Settling) (e : WorldEvent) (answer : Answer) (new : World) → Shows w n s → Makes (world_step w e) answer new → answer ≡ (world_step s.world e).answer
answer_shown w n s e answer new h made = made.answered ∙ (steps_shown w s.world e h.world).answer

pub shown_begun : (w : World) (n n' : Notes) (s : Settling) → Shows w n s → n'.changed ≡ false → n'.stepped ≡ false → n'.waited ≡ n.waited → HasSeen w n' → Shows w n' (begun s)
unfolding last_wait
shown_begun w n n' s h changed stepped waited seen = record {
  world = h.world;
  changed = changed;
  stepped = stepped;
  waited = λ o. subst (λ m. get same_object m o ≡ option_map wait_of (last_wait s o)) (sym waited) (h.waited o);
  seen = seen;
}
