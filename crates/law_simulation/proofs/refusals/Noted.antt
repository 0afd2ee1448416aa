-- The requests of an end once one of them met no receive, or was refused: nothing else of them changes.
use Rattle.std.proofs.Common.{arith, ◌≡◌, ◌<◌, ◌≤◌, ◌⊎◌, ℕ, zero, suc, List, [], ◌∷◌, ◌++◌, length, true, refl, sym, ap, ◌∙◌, subst, inr}
use Rattle.std.specs.Prelude.{Some, slice_get}
use Rattle.std.proofs.lemmas.List.{length_push}
use Rattle.std.proofs.lemmas.List.Elements.{Contains-append_left}
use Rattle.rdma_types.specs.declared.names.Name.{Name}
use Rattle.rdma_types.specs.declared.answers.RefusalReason.{RefusalReason}
use Rattle.rdma_types.specs.Objects.{Region}
use Rattle.protocol.specs.State.{Progress, NoMessage, InSend, InWrite, Receiver}
use Rattle.packetless_machine.specs.declared.reply.Reply.{Reply}
use Rattle.packetless_machine.specs.declared.reply.Reply.TheVariants.{Denied}
use Rattle.packetless_machine.specs.Machine.{End, posted_at, untold_count}
use Rattle.packetless_machine.specs.Numbers.{due}
use Rattle.packetless_machine.specs.Sound.{IsReplyTo, IsDenial}
use Rattle.packetless_machine.specs.Steps.{in_place, untold}
use Rattle.law_simulation.specs.Joined.{IsInPieces, IsProgress, Receives}
use Rattle.law_simulation.specs.Stands.{IsEndSound}
use Rattle.law_simulation.proofs.relation.SoundEnds.{answered_sound}
use Rattle.law_simulation.proofs.requests.Acted.{got_last}
use Rattle.law_simulation.proofs.requests.Advancing.{IsAdvance, moved_on}

-- ---- lists that grow at the end

got_other : {A : Type 0} (xs : List A) (y : A) (i : ℕ) → i < length xs → slice_get (xs ++ y ∷ []) i ≡ slice_get xs i
got_other [] y i h = absurd (omega (arith, h))
got_other (z ∷ xs) y zero h = refl
got_other (z ∷ xs) y (suc i) h = got_other xs y i (omega (arith, h))

-- ---- other answers and dry turns

-- the requests with other answers and dry turns
abbrev pub noted : End → List Reply → List ℕ → End
noted g answers dry = moved_on g g.acted g.into answers g.offers dry

pub noted_sound : (regions : List Region) (names : List Name) (g : End) (answers : List Reply) (dry : List ℕ) → g.connected ≡ true → ((i : ℕ) → i < g.acted → IsReplyTo (posted_at g.posted i) (slice_get answers i)) → (length answers ≡ g.acted) ⊎ ((length answers ≡ suc g.acted) × IsDenial (slice_get answers g.acted)) →
    IsEndSound regions names g → IsEndSound regions names (noted g answers dry)
unfolding in_place untold untold_count
noted_sound regions names g answers dry connected replies answered s = record {
  sound = answered_sound g (record g { answers = answers; dry = dry }) replies answered s.sound.offers s.sound.receive_depth s.sound;
  made = λ h. absurd (cc (connected, h));
  depth = s.depth;
  send_queue = s.send_queue;
  receive_queue = s.receive_queue;
  requests = s.requests;
  receives = s.receives;
}

-- a dry turn
pub dry_sound : (regions : List Region) (names : List Name) (g : End) (dry : List ℕ) → g.connected ≡ true → IsEndSound regions names g → IsEndSound regions names (noted g g.answers dry)
dry_sound regions names g dry connected s = noted_sound regions names g g.answers dry connected s.sound.replies s.sound.answered s

-- a refusal
pub denied_sound : (regions : List Region) (names : List Name) (g : End) (why : RefusalReason) → g.connected ≡ true → length g.answers ≡ g.acted → IsEndSound regions names g → IsEndSound regions names (noted g (g.answers ++ Denied why ∷ []) g.dry)
denied_sound regions names g why connected answered s =
    noted_sound regions names g (g.answers ++ Denied why ∷ []) g.dry connected
    (λ i h. subst (IsReplyTo (posted_at g.posted i)) (sym (got_other g.answers (Denied why) i (omega (arith, h, answered)))) (s.sound.replies i h))
    (inr (omega (arith, length_push g.answers (Denied why), answered), subst IsDenial (sym (denied_last g why answered)) tt)) s
  where
    denied_last : (g : End) (why : RefusalReason) → length g.answers ≡ g.acted → slice_get (g.answers ++ Denied why ∷ []) g.acted ≡ Some (Denied why)
    denied_last g why h = ap (slice_get (g.answers ++ Denied why ∷ [])) (sym h) ∙ got_last g.answers (Denied why)

-- the message in progress is the same
pub progress_noted : (g : End) (answers : List Reply) (dry : List ℕ) (domain : Name) (regions : List Region) (p : Progress) → IsProgress g domain regions p → IsProgress (noted g answers dry) domain regions p
progress_noted g answers dry domain regions NoMessage h = h
progress_noted g answers dry domain regions (InSend done v) h = h
progress_noted g answers dry domain regions (InWrite region off count done) h = h

-- where a turn is dry, the requests come no further
pub dry_advance : (g : End) (i top : ℕ) (r : Receiver) → due g ≤ top → IsInPieces g → Receives r g → IsAdvance g g.acted g.into g.answers g.offers (g.dry ++ i ∷ []) top r
unfolding due
dry_advance g i top r within pieces receives = record {
  due_up = omega arith;
  due_top = within;
  acted_up = omega arith;
  answers_kept = λ j a h. h;
  offers_kept = λ f h. h;
  dry_kept = λ j h. Contains-append_left g.dry (i ∷ []) j h;
  acting = pieces.acting;
  offers_said = pieces.offers;
  reads = pieces.reads;
  old_words = pieces.old_words;
  receives = record { expected = receives.expected; kept = receives.kept; answered = receives.answered };
}
