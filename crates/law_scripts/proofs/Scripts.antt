-- The worlds that a script leads to are sound, and each of its settlings leaves a quiet world.
use Rattle.std.proofs.Common.{◌≡◌, ◌+◌, ℕ, List, [], ◌∷◌, ◌++◌, refl, sym, subst, ◌∙◌, Result, Ok, Err, Option, Some, None}
use Rattle.std.specs.Prelude.{All}
use Rattle.std.proofs.lemmas.List.{append_assoc}
use Rattle.std.proofs.lemmas.List.Elements.{All-cons, All-head, All-nil, All-tail}
use Rattle.rdma_types.specs.declared.answers.Answer.TheVariants as answer
use Rattle.protocol.specs.declared.events.WorldEvent.{WorldEvent}
use Rattle.protocol.specs.Events.{IsLawfulWorldEvent}
use Rattle.protocol.specs.Script as script
use Rattle.protocol.specs.Script.{Happening, Settles, dumps, happens, settles}
use Rattle.protocol.specs.Settle.{settled, unfinished}
use Rattle.protocol.specs.State.{World, empty_world}
use Rattle.protocol.specs.WorldStep.{world_step}
use Rattle.packetless_machine.specs.Legal.{after}
use Rattle.packetless_machine.specs.Machine.{Machine, empty}
use Rattle.script_lang.specs.declared.lines.Line.{Line}
use Rattle.script_lang.specs.declared.lines.Offence.{Offence}
use Rattle.script_lang.specs.Lines.{reading_of}
use Rattle.script_lang.specs.Scripts.{lines_of}
use Rattle.law_simulation.specs.Quiet.{IsQuiet}
use Rattle.law_simulation.specs.Stands.{Stands}
use Rattle.law_settling.specs.Leaves.{SettlingLeaves}
use Rattle.law_headline.specs.Does.{IsWithinOf, MayBeAskedOf, before, happening_of, happenings_of}
use Rattle.law_headline.specs.Follows.{FollowsAll, line_steps, lines_steps}
use Rattle.law_headline.specs.Left.{ReachesAll}
use Rattle.law_headline.specs.Script.{begins_with, happenings, script_from, world_left}
use Rattle.law_headline.proofs.Following.{all_reached}
use Rattle.law_scripts.specs.Settled.{SettledScriptsAreQuiet, settled_after}
use Rattle.law_scripts.specs.Sound.{IsSoundWorld, MayBeSaid, MayBeSaidOf, NamesThings, NamesThingsIn}

-- ---- what is read may be said

abbrev NamesOf : Option Happening → Type 0
NamesOf None = Unit {0}
NamesOf (Some h) = NamesThingsIn h

pub may_be_said : (o : Option Happening) → IsWithinOf o → MayBeAskedOf o → NamesOf o → MayBeSaidOf o
may_be_said None within asked named = tt
may_be_said (Some h) within asked named = record { within = within; asked = asked; named = named }

-- what each line before the first bad one does may be said
all_said : ((bs : List ℕ) (l : Line) → reading_of bs ≡ Ok l → MayBeSaidOf (happening_of l)) → (number : ℕ) (lines : List (List ℕ)) → All MayBeSaid (happenings_of (script_from number lines).lines)
all_said read number [] = All-nil MayBeSaid
all_said read number (bs ∷ more) = by (reading_of bs) refl (all_said read (number + 1) more)
  where
    put : (o : Option Happening) (hs : List Happening) → MayBeSaidOf o → All MayBeSaid hs → All MayBeSaid (before o hs)
    put None hs first rest = rest
    put (Some h) hs first rest = All-cons MayBeSaid h hs first rest

    by : (r : Result Line Offence) → reading_of bs ≡ r → All MayBeSaid (happenings_of (script_from (number + 1) more).lines) → All MayBeSaid (happenings_of (begins_with r number (script_from (number + 1) more)).lines)
    by (Ok l) e rest = put (happening_of l) _ (read bs l e) rest
    by (Err o) e rest = All-nil MayBeSaid

-- ---- worlds stay sound

module _ (step : (w : World) (m : Machine) (e : WorldEvent) → Stands w m → IsSoundWorld w → IsLawfulWorldEvent e → NamesThings e → IsSoundWorld (world_step w e).world)
    (settling : (w : World) → IsSoundWorld w → IsSoundWorld (settled w).world) where
  line_sound : (w : World) (m : Machine) (h : Happening) → Stands w m → MayBeSaid h → IsSoundWorld w → IsSoundWorld (happens w h).world
  unfolding happens dumps settles
  line_sound w m (script.Event e) stands may s = step w m e stands s may.asked may.named
  line_sound w m (script.Dump name) stands may s = s
  line_sound w m Settles stands may s = settling w s

  prefix_sound : (w : World) (m : Machine) (prefix rest : List Happening) → Stands w m → FollowsAll w m (prefix ++ rest) → All MayBeSaid (prefix ++ rest) → IsSoundWorld w → IsSoundWorld (world_left w prefix)
  prefix_sound w m [] rest stands follows may s = s
  prefix_sound w m (h ∷ hs) rest stands follows may s =
      prefix_sound (happens w h).world (after m (line_steps w m h)) hs rest follows.0.stands follows.1 (All-tail MayBeSaid h (hs ++ rest) may)
      (line_sound w m h stands (All-head MayBeSaid h (hs ++ rest) may) s)

  pub text_sound : ((bs : List ℕ) (l : Line) → reading_of bs ≡ Ok l → MayBeSaidOf (happening_of l)) → IsSoundWorld empty_world → Stands empty_world empty → (text : List ℕ) → FollowsAll empty_world empty (happenings text) →
      (prefix rest : List Happening) → happenings text ≡ prefix ++ rest → IsSoundWorld (world_left empty_world prefix)
  text_sound read start stands text follows prefix rest splits =
      prefix_sound empty_world empty prefix rest stands
      (subst (λ (hs : List Happening). FollowsAll empty_world empty hs) splits follows)
      (subst (All MayBeSaid) splits (all_said read 1 (lines_of text)))
      start

-- ---- settlings

left_on : (w : World) (hs : List Happening) (h : Happening) → world_left w (hs ++ h ∷ []) ≡ (happens (world_left w hs) h).world
left_on w [] h = refl
left_on w (k ∷ hs) h = left_on (happens w k).world hs h

settles_to : (w : World) → (happens w Settles).world ≡ (settled w).world
unfolding happens settles
settles_to w = refl

listed_by : (w : World) → (happens w Settles).answer ≡ answer.Quiet (unfinished (settled w).world)
unfolding happens settles
listed_by w = refl

pub quiet_scripts : SettlingLeaves → ((text : List ℕ) (prefix rest : List Happening) → happenings text ≡ prefix ++ rest → IsSoundWorld (world_left empty_world prefix)) →
    ((text : List ℕ) (prefix rest : List Happening) → happenings text ≡ prefix ++ rest → FollowsAll empty_world empty prefix) → SettledScriptsAreQuiet
quiet_scripts leaves sound follows text prefix rest splits =
    let w : World = world_left empty_world prefix in
    let through : happenings text ≡ (prefix ++ Settles ∷ []) ++ rest = splits ∙ sym (append_assoc prefix (Settles ∷ []) rest) in
    let before' : ReachesAll empty_world empty prefix = all_reached empty_world empty prefix (follows text prefix (Settles ∷ rest) splits) in
    let same : settled_after prefix ≡ (settled w).world = left_on empty_world prefix Settles ∙ settles_to w in
    record {
      listed = unfinished (settled w).world;
      answered = listed_by w;
      reached = all_reached empty_world empty (prefix ++ Settles ∷ []) (follows text (prefix ++ Settles ∷ []) rest through);
      quiet = λ m stands.
          subst (λ (v : World). IsQuiet v m (unfinished (settled w).world)) (sym same)
          (leaves w (after empty (lines_steps empty_world empty prefix)) m (sound text prefix (Settles ∷ rest) splits).carried before'.stands
          (subst (λ (v : World). Stands v m) same stands));
    }
