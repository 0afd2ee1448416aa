-- The machine follows the lines of a script, one after the other.
use Rattle.std.proofs.Common.{◌≡◌, List, [], ◌∷◌, ◌++◌, refl, sym, ap, ◌∙◌, subst}
use Rattle.std.specs.Prelude.{All, Option, Some, None}
use Rattle.std.proofs.lemmas.List.{append_assoc}
use Rattle.std.proofs.lemmas.List.Elements.{All-cons, All-nil, All-head, All-tail}
use Rattle.rdma_types.specs.declared.answers.Answer.{Answer}
use Rattle.rdma_types.specs.declared.names.Name.{Name}
use Rattle.protocol.specs.declared.events.Event.{Event}
use Rattle.protocol.specs.declared.events.Event.TheVariants as event
use Rattle.protocol.specs.declared.events.WorldEvent.{WorldEvent}
use Rattle.protocol.specs.declared.events.WorldEvent.TheVariants as world_event
use Rattle.protocol.specs.Script as script
use Rattle.protocol.specs.Script.{Happening, happens, dumps, settles}
use Rattle.protocol.specs.State.{World}
use Rattle.protocol.specs.WorldStep.{world_step}
use Rattle.packetless_machine.specs.declared.steps.MachineStep.{MachineStep}
use Rattle.packetless_machine.specs.Legal.{IsLegalFrom, IsRun, after, effect, seen, seen_of}
use Rattle.packetless_machine.specs.Machine.{Machine}
use Rattle.script_lang.specs.declared.lines.Line.{Line}
use Rattle.law_simulation.specs.Kept.{kept_of, kept_verb, verb_in, verb_of}
use Rattle.law_simulation.specs.Carries.{Allows}
use Rattle.law_simulation.specs.Law.{IsEventInRange, IsInRange, kept}
use Rattle.law_simulation.specs.Named.{EventsFollowByName, FollowsByName, RunFollowsByName, run_steps, steps_of_each}
use Rattle.law_simulation.specs.Stands.{Stands}
use Rattle.law_simulation.proofs.runs.Inner.{named_inner}
use Rattle.law_settling.specs.Events.{settling_events}
use Rattle.law_settling.specs.Settling.{IsMade, IsSettling, IsTurn, SettlingFollowsByName, SettlingHasEvents}
use Rattle.law_headline.specs.Does.{IsLineInRange, IsWithin, IsWithinOf, before, happening_of, happenings_of}
use Rattle.law_headline.specs.Follows.{FollowsAll, FollowsLine, line_steps, lines_steps}
use Rattle.law_headline.specs.Left.{ReachesAll}
use Rattle.law_headline.specs.Script.{heard_from}

-- ---- what settling makes

turn_in_range : (e : Event) → IsTurn e → IsEventInRange e
turn_in_range (event.Transmit o) is = tt
turn_in_range (event.Expire o) is = tt
turn_in_range (event.RnrOver o) is = tt
turn_in_range other is = absurd is

pub settling_in_range : (e : WorldEvent) → IsSettling e → IsInRange e
settling_in_range (world_event.At e) is = turn_in_range e is
settling_in_range (world_event.Deliver k) is = tt
settling_in_range other is = absurd is

turn_is_no_verb : (e : Event) → IsTurn e → verb_in e ≡ None
unfolding verb_in
turn_is_no_verb (event.Transmit o) is = refl
turn_is_no_verb (event.Expire o) is = refl
turn_is_no_verb (event.RnrOver o) is = refl
turn_is_no_verb other is = absurd is

settling_is_no_verb : (w : World) (e : WorldEvent) → IsSettling e → verb_of w e ≡ None
unfolding verb_of
settling_is_no_verb w (world_event.At e) is = turn_is_no_verb e is
settling_is_no_verb w (world_event.Deliver k) is = refl
settling_is_no_verb w other is = absurd is

nothing_kept : (w : World) (e : WorldEvent) (a : Answer) → IsSettling e → kept_of w e a ≡ []
unfolding kept_verb
nothing_kept w e a is = ap (λ v. kept_verb v a) (settling_is_no_verb w e is)

none_kept : (w : World) (es : List WorldEvent) → All IsSettling es → kept w es ≡ []
none_kept w [] each = refl
none_kept w (e ∷ es) each =
    rw (nothing_kept w e (world_step w e).answer (All-head IsSettling e es each))
    (none_kept (world_step w e).world es (All-tail IsSettling e es each))

-- ---- one line

-- what the laws say, of which all else follows
pub record AreLaws : Type 0 where
  pub named : EventsFollowByName
  pub settling : SettlingHasEvents
  pub settling_follows : SettlingFollowsByName

pub laws_of : EventsFollowByName → SettlingHasEvents → SettlingFollowsByName → AreLaws
laws_of named settling settling_follows = record { named = named; settling = settling; settling_follows = settling_follows }

event_followed : (w : World) (m : Machine) (e : WorldEvent) → FollowsByName w m e → FollowsLine w m (script.Event e)
unfolding happens
event_followed w m e f = record { is_run = f.is_run; heard = f.heard; caused = subst (Allows w m e (world_step w e).answer) (sym (named_inner w m e)) f.allowed; stands = f.stands }

dump_followed : (w : World) (m : Machine) (name : Name) → Stands w m → FollowsLine w m (script.Dump name)
unfolding happens dumps
dump_followed w m name s = record { is_run = tt; heard = refl; caused = refl; stands = s }

settling_followed : (w : World) (m : Machine) → IsMade w → RunFollowsByName w m (settling_events w) → FollowsLine w m script.Settles
unfolding happens settles
settling_followed w m t f = record {
  is_run = f.is_run;
  heard = f.heard ∙ none_kept w (settling_events w) t.each;
  caused = record { events = settling_events w; each = t.each; reached = t.after; parts = steps_of_each w m (settling_events w); joined = refl; allowed = f.allowed };
  stands = subst (λ (x : World). Stands x (after m (run_steps w m (settling_events w)))) t.after f.stands;
}

line_followed : AreLaws → (w : World) (m : Machine) (h : Happening) → IsWithin h → Stands w m → FollowsLine w m h
line_followed laws w m (script.Event e) within s = event_followed w m e (laws.named e w m within s)
line_followed laws w m (script.Dump name) within s = dump_followed w m name s
line_followed laws w m script.Settles within s = settling_followed w m (laws.settling w) (laws.settling_follows w m s)

-- ---- all lines

pub all_followed : AreLaws → (w : World) (m : Machine) (hs : List Happening) → All IsWithin hs → Stands w m → FollowsAll w m hs
all_followed laws w m [] within s = s
all_followed laws w m (h ∷ hs) within s =
    let f : FollowsLine w m h = line_followed laws w m h (All-head IsWithin h hs within) s in
    (f, all_followed laws (happens w h).world (after m (line_steps w m h)) hs (All-tail IsWithin h hs within) f.stands)

-- what lines do is in its ranges, where each line is
pub all_within : (ls : List Line) → All IsLineInRange ls → All IsWithin (happenings_of ls)
all_within [] all = All-nil IsWithin
all_within (l ∷ ls) all = by (happening_of l) (All-head IsLineInRange l ls all) (all_within ls (All-tail IsLineInRange l ls all))
  where
    by : (o : Option Happening) → IsWithinOf o → All IsWithin (happenings_of ls) → All IsWithin (before o (happenings_of ls))
    by None first rest = rest
    by (Some h) first rest = All-cons IsWithin h (happenings_of ls) first rest

-- ---- where they lead, and what is heard

after_on : (m : Machine) (ss ts : List MachineStep) → after m (ss ++ ts) ≡ after (after m ss) ts
after_on m [] ts = refl
after_on m (s ∷ ss) ts = after_on (effect m s) ss ts

runs_on : (m : Machine) (ss ts : List MachineStep) → IsRun m ss → IsRun (after m ss) ts → IsRun m (ss ++ ts)
runs_on m [] ts first second = second
runs_on m (s ∷ ss) ts first second = (first.0, runs_on (effect m s) ss ts first.1 second)

seen_on : (m : Machine) (ss ts : List MachineStep) → seen m (ss ++ ts) ≡ seen m ss ++ seen (after m ss) ts
seen_on m [] ts = refl
seen_on m (s ∷ ss) ts = ap (λ x. seen_of m s ++ x) (seen_on (effect m s) ss ts) ∙ sym (append_assoc (seen_of m s) (seen (effect m s) ss) (seen (after (effect m s) ss) ts))

pub all_reached : (w : World) (m : Machine) (hs : List Happening) → FollowsAll w m hs → ReachesAll w m hs
unfolding lines_steps
all_reached w m [] f = record { is_run = tt; heard_all = refl; stands = f }
all_reached w m (h ∷ hs) f =
    let m1 : Machine = after m (line_steps w m h) in
    let rest : ReachesAll (happens w h).world m1 hs = all_reached (happens w h).world m1 hs f.1 in
    let more : List MachineStep = lines_steps (happens w h).world m1 hs in
    record {
      is_run = runs_on m (line_steps w m h) more f.0.is_run rest.is_run;
      heard_all = seen_on m (line_steps w m h) more ∙ rw (f.0.heard, rest.heard_all) refl;
      stands = rw (after_on m (line_steps w m h) more) rest.stands;
    }

pub all_legal : (w : World) (m : Machine) (hs : List Happening) → FollowsAll w m hs → IsLegalFrom m (heard_from w hs)
all_legal w m hs f = let r : ReachesAll w m hs = all_reached w m hs f in record { run = lines_steps w m hs; is_run = r.is_run; heard_all = r.heard_all }

-- ---- prefixes

pub prefix_followed : (w : World) (m : Machine) (prefix rest : List Happening) → Stands w m → FollowsAll w m (prefix ++ rest) → FollowsAll w m prefix
prefix_followed w m [] rest s f = s
prefix_followed w m (h ∷ hs) rest s f = (f.0, prefix_followed (happens w h).world (after m (line_steps w m h)) hs rest f.0.stands f.1)
