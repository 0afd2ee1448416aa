-- A step of the world with a note of changes, as a call leaves it.
use Rattle.std.proofs.Common.{◌≡◌, List, map, Bool, true, false, refl, sym, ap, ◌∙◌, subst, Result, Ok, Err}
use Rattle.std.specs.Prelude.{◌||◌, not, Option, Some, None, IfOk, IfSome, OnOk}
use Rattle.std.specs.declared.alloc.AllocError.{AllocError}
use Rattle.rdma_types.specs.declared.answers.Answer.{Answer}
use Rattle.rdma_types.specs.declared.names.ObjName.{ObjName}
use Rattle.protocol.specs.declared.events.WorldEvent.{WorldEvent}
use Rattle.protocol.specs.State.{World}
use Rattle.protocol.specs.WorldStep.{world_step}
use Rattle.protocol.specs.Settle.{Settling, marks, same_marks, settle_step, transmit}
use Rattle.law_kept_datagrams.specs.Alike.{with_kept_datagrams}
use Rattle.world_core.specs.Kept.{Makes}
use Rattle.world_core.specs.Lives.{live_list}
use Rattle.world_core.specs.Places.{HaveOwnIds}
use Rattle.context_core.specs.declared.lives.LiveEnd.{LiveEnd}
use Rattle.settle_core.specs.Marks.{view_mark}
use Rattle.settle_core.specs.Shown.{HasSeen, Settles, Shows}
use Rattle.settle_core.specs.declared.notes.Notes.{Notes}
use Rattle.settle_core.proofs.Listed.{marks_listed}
use Rattle.settle_core.proofs.Sweeps.{same_marks_same}
use Rattle.settle_core.proofs.Transmitting.{transmit_marks}
use Rattle.settle_core.proofs.Worlds.{answer_shown, marks_shown, shown_step}

-- where the round has changed already
pub changed_step : (w w' : World) (n : Notes) (e : WorldEvent) → w' ≡ with_kept_datagrams (world_step w e).world → n.changed ≡ true → Settles (λ s. settle_step s e) w n w' n
changed_step w w' n e left is s shows = shown_step w w' n n s e shows left (is ∙ sym (ap (λ b. b || not (same_marks (marks w) (marks w'))) is)) refl refl (λ still. absurd (cc))

-- where the marks are compared
pub list_marked : (w : World) (xs : List LiveEnd) → xs ≡ live_list w → map view_mark xs ≡ marks w
list_marked w xs h = ap (map view_mark) h ∙ marks_listed w

-- the live ends that were listed are seen from here on
pub shown_seen : (w : World) (n : Notes) (s : Settling) (es : List LiveEnd) → es ≡ live_list w → Shows w n s → Shows w (record n { seen = Some es }) s
shown_seen w n s es lives h = record { world = h.world; changed = h.changed; stepped = h.stepped; waited = h.waited; seen = λ still. list_marked w es lives }

pub listed_result : (r : Result (List LiveEnd) AllocError) (w : World) (P : Type 0) → IfOk r (λ ends. ends ≡ live_list w) → IfOk r (λ ends. P → map view_mark ends ≡ marks w)
listed_result (Err x) w P h = tt
listed_result (Ok ends) w P h = λ p. list_marked w ends h

pub live_result : (r : Result (List LiveEnd) AllocError) (w : World) (P : Type 0) → IfOk r (λ ends. ends ≡ live_list w) → IfOk r (λ ends. P → ends ≡ live_list w)
live_result (Err x) w P h = tt
live_result (Ok ends) w P h = λ p. h

-- those that were listed, where they were
pub taken_lists : (w : World) (taken listed : Option (List LiveEnd)) → taken ≡ listed → IfSome listed (λ ends. ends ≡ live_list w) → IfSome taken (λ ends. ends ≡ live_list w)
taken_lists w taken listed h = subst (λ o. IfSome o (λ ends. ends ≡ live_list w)) (sym h)

pub changed_told : (w w' : World) (n : Notes) (same : Bool) (xs ys : List LiveEnd) → n.changed ≡ false → map view_mark xs ≡ marks w → map view_mark ys ≡ marks w' → same ≡ same_marks (map view_mark xs) (map view_mark ys) →
    not same ≡ (n.changed || not (same_marks (marks w) (marks w')))
changed_told w w' n same xs ys unchanged first second is =
    ap not is ∙ (ap (λ m. not (same_marks m (map view_mark ys))) first ∙ (ap (λ m. not (same_marks (marks w) m)) second ∙ sym (ap (λ b. b || not (same_marks (marks w) (marks w'))) unchanged)))

-- ---- a transmission, which changes no mark

or_not_same : (b : Bool) → b ≡ (b || not true)
or_not_same true = refl
or_not_same false = refl

seen_as : (v w : World) (n : Notes) → marks v ≡ marks w → HasSeen w n → HasSeen v n
seen_as v w n h seen still = by n.seen (seen still)
  where
    by : (o : Option (List LiveEnd)) → IfSome o (λ ends. map view_mark ends ≡ marks w) → IfSome o (λ ends. map view_mark ends ≡ marks v)
    by None g = tt
    by (Some ends) g = g ∙ sym h

transmit_kept : (w w' : World) (o : ObjName) → HaveOwnIds w.devices → w' ≡ with_kept_datagrams (world_step w (transmit o)).world → marks w' ≡ marks w
transmit_kept w w' o own left = marks_shown w' (world_step w (transmit o)).world left ∙ transmit_marks w o own

pub transmit_shown : (r : Result Answer AllocError) (w w' : World) (o : ObjName) → IfOk r (λ answer. Makes (world_step w (transmit o)) answer w') → HaveOwnIds w.devices → OnOk r ((n : Notes) → Settles (λ s. settle_step s (transmit o)) w n w' n)
transmit_shown (Err x) w w' o h own = tt
transmit_shown (Ok answer) w w' o h own = λ n s shows.
    let kept : marks w' ≡ marks w = transmit_kept w w' o own h.left in
    let same : same_marks (marks w) (marks w') ≡ true = ap (same_marks (marks w)) kept ∙ same_marks_same (marks w) in
    shown_step w w' n n s (transmit o) shows h.left (or_not_same n.changed ∙ ap (λ b. n.changed || not b) (sym same)) refl refl (seen_as w' w n kept shows.seen)

pub transmit_told : (r : Result Answer AllocError) (w w' : World) (o : ObjName) → IfOk r (λ answer. Makes (world_step w (transmit o)) answer w') →
    IfOk r (λ answer. (n : Notes) (s : Settling) → Shows w n s → answer ≡ (world_step s.world (transmit o)).answer)
transmit_told (Err x) w w' o h = tt
transmit_told (Ok answer) w w' o h = λ n s shows. answer_shown w n s (transmit o) answer w' shows h
