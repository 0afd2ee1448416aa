-- How many more steps of settling an end may take: a weight that no step raises, and that each change and each step of a timer
-- lowers.
use Rattle.std.specs.Prelude.{◌≡◌, ◌≢◌, ℕ, ◌+◌, ◌-◌, ◌*◌, ◌≤◌, ◌<◌, Bool, false, Option, Some, None, nat_lt, ◌==◌, ◌&&◌, if◌then◌else◌}
use Rattle.rdma_types.specs.Lists.{store_named}
use Rattle.protocol.specs.Moves.{Control, Resume, Stopped, ResumeAck, control_of}
use Rattle.protocol.specs.Wire.{Packet}
use Rattle.protocol.specs.State.{Link, End, Context, Moving, Phase, Running, Paused, Resuming}
use Rattle.protocol.specs.EndStep.{takes}
use Rattle.protocol.specs.Requester.{end_of_queue}
use Rattle.protocol.specs.Settle.{Mark, Waited, mark_of, unacknowledged}

-- ---- the weight of an end in Rts; `partner` is how often its partner moved, and x its last noted timer

-- each unacknowledged number: a rise of `una` makes all counts new
abbrev pub rises_left : Link → ℕ
rises_left l = 18 * (end_of_queue l.terms l.sender - l.sender.una)

-- with rnr 7: a step at this `una`, and one after the partner went to Error
abbrev pub notes_left : Option Waited → ℕ → ℕ
notes_left None una = 3
notes_left (Some x) una = (if x.una == una then 0 else 2) + (if x.partner_ended then 0 else 1)

-- steps of the RNR timer
unfoldable pub waits_left : Option Waited → Link → ℕ
waits_left x l = if l.terms.rnr == 7 then notes_left x l.sender.una else (8 - l.sender.waits) + (if l.sender.rnr_wait then 1 else 0)

-- changes of the phase
abbrev pub phase_left : Phase → ℕ
phase_left Running = 1
phase_left Paused = 0
phase_left Resuming = 2

-- .. one more of them comes with the news of the partner's last move, and the last one is Error
unfoldable pub moves_left : ℕ → Moving → ℕ
moves_left partner m = 1 + phase_left m.phase + (if nat_lt m.recorded partner then 2 else 0)

-- all that is left of an end in Rts
unfoldable pub parts : ℕ → Option Waited → Link → ℕ
parts partner x l = rises_left l + (8 - l.sender.spent) + waits_left x l + moves_left partner l.moving

-- .. and of one in Error, where it waits all the same
unfoldable pub weight : ℕ → Option Waited → Link → ℕ
weight partner x l = if l.ended then (if l.sender.rnr_wait then 1 else 0) else parts partner x l

-- ---- what a step does to it

-- equal marks
abbrev pub same_mark : Mark → Mark → Bool
same_mark a b = a.una == b.una && a.state == b.state

-- an end lightens from l to l': a change of its mark makes it lighter, and nothing makes it heavier
pub record Lightens (partner : ℕ) (l l' : Link) : Type 0 where
  pub no_more : (x : Option Waited) → weight partner x l' ≤ weight partner x l
  pub less : (x : Option Waited) → same_mark (mark_of (Some l)) (mark_of (Some l')) ≡ false → weight partner x l' < weight partner x l

-- the counted expiries of an end in Rts are within its retries
abbrev pub HasFew : Link → Type 0
HasFew l = l.ended ≡ false → l.sender.spent ≤ l.terms.retry

-- .. and keeps what no step of settling changes; its unacknowledged numbers do not grow; it lightens where IsNews holds
pub record GoesOn (partner : ℕ) (IsNews : Type 0) (l l' : Link) : Type 0 where
  pub peer : l'.peer ≡ l.peer
  pub terms : l'.terms ≡ l.terms
  pub own : l'.moving.own ≡ l.moving.own
  pub fewer : unacknowledged (Some l') ≤ unacknowledged (Some l)
  pub few : HasFew l → HasFew l'
  pub lightens : IsNews → Lightens partner l l'

-- what is true of a link in Rts
pub record IsTame (l : Link) : Type 0 where
  pub top : l.sender.top ≤ end_of_queue l.terms l.sender
  pub rnr : l.terms.rnr ≤ 7
  pub waits : l.terms.rnr ≢ 7 → l.sender.waits ≤ l.terms.rnr

-- a RESUME brings the news of the partner's last move
abbrev pub BringsNews : ℕ → Option Control → Type 0
BringsNews partner None = Unit {0}
BringsNews partner (Some (Stopped count)) = Unit {0}
BringsNews partner (Some (ResumeAck count)) = Unit {0}
BringsNews partner (Some (Resume body)) = body.count ≡ partner

-- the context x comes of c, where the end e with the link l goes on
pub record EndGoesOn (partner : ℕ) (IsNews : Type 0) (c : Context) (e : End) (l : Link) (x : Context) : Type 0 where
  pub named : x.name ≡ c.name
  pub end : End
  pub ends : x.ends ≡ store_named (λ z. z.name) e.name end c.ends
  pub name : end.name ≡ e.name
  pub number : end.number ≡ e.number
  pub link : Link
  pub linked : end.link ≡ Some link
  pub goes : GoesOn partner IsNews l link

-- an end that takes a packet goes on
abbrev pub TakingLightens : Type 0
TakingLightens =
    (partner : ℕ) (c : Context) (e : End) (l : Link) (d : Packet) → c.ends ≡ store_named (λ z. z.name) e.name e c.ends → e.link ≡ Some l → (l.ended ≡ false → IsTame l) →
    EndGoesOn partner (BringsNews partner (control_of d)) c e l (takes c e l d).context
