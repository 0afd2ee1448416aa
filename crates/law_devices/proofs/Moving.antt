-- Messages of moving keep a context sound.
use Rattle.std.proofs.Common.{arith, ◌≡◌, ◌⊎◌, ◌≤◌, ◌<◌, ◌+◌, ℕ, List, [], ◌∷◌, length, true, false, Bool, refl, sym, ap, ◌∙◌, inl, inr}
use Rattle.std.specs.Prelude.{Option, Some, None}
use Rattle.protocol.specs.declared.wire.ResumeBody.{ResumeBody}
use Rattle.protocol.specs.EndWords.{EndStep, linked, with_moving}
use Rattle.protocol.specs.Moves.{Control, Stopped, Resume, ResumeAck, MoveTook, GoesPaused, Resumed, Again, GoesRunning, Stale, fresh_start, in_phase, move_row, moves_by, recording, resumed_link, takes_control}
use Rattle.protocol.specs.State.{Context, End, Link, Moving, Paused, Running}
use Rattle.law_devices.specs.Sound.{IsSoundContext, IsSoundLink, plans}
use Rattle.law_devices.proofs.Ends.{Stays, bytes-none, follow-link, follows-stays, link-moving}
use Rattle.law_devices.proofs.Rooms.{IsHere}
use Rattle.law_devices.proofs.Senders.{rewinds}
use Rattle.law_devices.proofs.Working as working
use Rattle.law_devices.proofs.Working.{Good, linked-sound}

module _ (c : Context) (e : End) (l : Link) (s : IsSoundContext c) (here : IsHere c e) (there : e.link ≡ Some l) (alive : l.ended ≡ false) where
  abbrev Fine : EndStep → Type 0
  Fine = Good c e l s here there

  goes : (m : Moving) → Stays c (linked c e (with_moving l m))
  unfolding with_moving
  goes m =
      follows-stays c e l _ s here there
      (follow-link c e l c (with_moving l m) s here (bytes-none c s) (link-moving (plans c.regions) e.domain e.send_depth l (linked-sound c e l s here there) alive m) alive (omega arith) (omega arith))

  resumed-sound : (body : ResumeBody) → IsSoundLink (plans c.regions) e.domain e.send_depth (resumed_link l body)
  resumed-sound body =
      let h = linked-sound c e l s here there in
      record {
        peer = h.peer;
        terms = h.terms;
        sender = record { fits = h.sender.fits; requests = h.sender.requests; numbers = rewinds l.terms.mtu l.sender.untold l.sender.first l.sender.una l.sender.next l.sender.top h.sender.numbers; spent = h.sender.spent; waits = h.sender.waits };
        oldest = h.oldest;
        receiver = h.receiver;
        no_untold = λ t. absurd (cc);
        no_message = λ t. absurd (cc);
        not_resuming = λ t. absurd (cc);
      }

  resumes : (body : ResumeBody) → Stays c (linked c e (resumed_link l body))
  resumes body = follows-stays c e l _ s here there (follow-link c e l c (resumed_link l body) s here (bytes-none c s) (resumed-sound body) alive (omega arith) (omega arith))

  row_good : (m : Control) (r : MoveTook) → Fine (moves_by c e l m r)
  unfolding moves_by
  row_good (Stopped count) GoesPaused = record { goes = goes (in_phase l.moving Paused) }
  row_good (Resume body) Resumed = record { goes = resumes body }
  row_good (Resume body) Again = working.still c e l s here there _ refl
  row_good (ResumeAck count) GoesRunning = record { goes = goes (in_phase l.moving Running) }
  row_good m r = working.still c e l s here there _ refl

  pub control_good : (m : Control) → Fine (takes_control c e l m)
  unfolding takes_control
  control_good m = row_good m (move_row l.moving m)
