-- An evacuation's world is the one that its steps lead to.
use Rattle.std.proofs.Common.{◌≡◌, ℕ, List, [], ◌∷◌, ◌++◌, true, false, Bool, refl, sym, ap, ◌∙◌, Option, Some, None}
use Rattle.std.specs.Prelude.{All}
use Rattle.std.proofs.lemmas.List.{append_assoc, append-nil}
use Rattle.std.proofs.lemmas.List.Elements.{All-append, All-cons, All-nil}
use Rattle.rdma_types.specs.declared.names.Name.{Name}
use Rattle.protocol.specs.declared.events.WorldEvent.TheVariants as world_event
use Rattle.protocol.specs.declared.events.WorldEvent.{WorldEvent}
use Rattle.protocol.specs.Script.{Happening, Event, Dump, Settles, happens}
use Rattle.protocol.specs.State.{World}
use Rattle.protocol.specs.WorldStep.{world_step}
use Rattle.law_simulation.specs.Law.{IsInRange}
use Rattle.law_headline.specs.Does.{IsWithin}
use Rattle.law_headline.specs.Script.{world_left}
use Rattle.evac_rules.specs.declared.moves.StayReason.{StayReason}
use Rattle.evac_rules.specs.Evacuation.{Evacuation, Fault, NoSuch, Tried, are_devices, begun, doing, evacuation, moves, moving, names_on, placed, placed_by, release, restore, returned, stay_of, stop, stopped_by, takes, tries}

-- a stop, a restore, a release, or settling
abbrev pub IsMove : WorldEvent → Type 0
IsMove (world_event.Stop n) = Unit {0}
IsMove (world_event.Restore n k) = Unit {0}
IsMove (world_event.Release n k) = Unit {0}
IsMove other = ⊥

abbrev pub IsStep : Happening → Type 0
IsStep (Event e) = IsMove e
IsStep (Dump n) = ⊥
IsStep Settles = Unit {0}

move_within : (e : WorldEvent) → IsMove e → IsInRange e
move_within (world_event.Stop n) is = tt
move_within (world_event.Restore n k) is = tt
move_within (world_event.Release n k) is = tt
move_within other is = absurd is

pub step_within : (h : Happening) → IsStep h → IsWithin h
step_within (Event e) is = move_within e is
step_within (Dump n) is = absurd is
step_within Settles is = tt

pub left_on : (w : World) (hs ks : List Happening) → world_left w (hs ++ ks) ≡ world_left (world_left w hs) ks
left_on w [] ks = refl
left_on w (h ∷ hs) ks = left_on (happens w h).world hs ks

-- s' comes of s by more steps
pub record Leads (s s' : Evacuation) : Type 0 where
  pub done : List Happening
  pub steps : s'.steps ≡ s.steps ++ done
  pub world : s'.world ≡ world_left s.world done
  pub each : All IsStep done

pub leads_itself : (s : Evacuation) → Leads s s
leads_itself s = record { done = []; steps = sym (append-nil s.steps); world = refl; each = All-nil IsStep }

pub leads_on : (a b c : Evacuation) → Leads a b → Leads b c → Leads a c
leads_on a b c h k = record {
  done = h.done ++ k.done;
  steps = k.steps ∙ (ap (λ x. x ++ k.done) h.steps ∙ append_assoc a.steps h.done k.done);
  world = k.world ∙ (ap (λ w. world_left w k.done) h.world ∙ sym (left_on a.world h.done k.done));
  each = All-append IsStep h.done k.done h.each k.each;
}

pub step_leads : (s : Evacuation) (h : Happening) → IsStep h → Leads s (doing s h)
step_leads s h is = record { done = h ∷ []; steps = refl; world = refl; each = All-cons IsStep h [] is (All-nil IsStep) }

-- the steps and the world alone count
pub leads_as : (s a b : Evacuation) → a.steps ≡ b.steps → a.world ≡ b.world → Leads s a → Leads s b
leads_as s a b steps world h = record { done = h.done; steps = sym steps ∙ h.steps; world = sym world ∙ h.world; each = h.each }

pub tries_lead : (s : Evacuation) (n : Name) (ts : List ℕ) → Leads s (tries s n ts).state
unfolding tries
tries_lead s n [] = leads_itself s
tries_lead s n (t ∷ ts) = by (takes s.world n t) (tries_lead (doing s (restore n t)) n ts)
  where
    by : (b : Bool) → Leads (doing s (restore n t)) (tries (doing s (restore n t)) n ts).state →
        Leads s (elim b as (λ x. Tried) [ true ↦ record { state = doing s (restore n t); target = Some t } | false ↦ tries (doing s (restore n t)) n ts ]).state
    by true later = step_leads s (restore n t) tt
    by false later = leads_on s (doing s (restore n t)) _ (step_leads s (restore n t) tt) later

pub returned_leads : (s : Evacuation) (from : ℕ) (n : Name) → Leads s (returned s from n)
returned_leads s from n =
    let a : Evacuation = doing s (release n from) in
    let b : Evacuation = doing a (restore n from) in
    let c : Evacuation = doing b Settles in
    leads_as s c (returned s from n) refl refl (leads_on s b c (leads_on s a b (step_leads s (release n from) tt) (step_leads a (restore n from) tt)) (step_leads b Settles tt))

pub placed_by_leads : (s : Evacuation) (from : ℕ) (n : Name) (o : Option ℕ) → Leads s (placed_by s from n o)
placed_by_leads s from n None = returned_leads s from n
placed_by_leads s from n (Some t) = leads_as s (doing s Settles) _ refl refl (step_leads s Settles tt)

pub placed_leads : (s : Evacuation) (from : ℕ) (targets : List ℕ) (n : Name) → Leads s (placed s from targets n)
placed_leads s from targets n = let x : Tried = tries s n targets in leads_on s x.state (placed s from targets n) (tries_lead s n targets) (placed_by_leads x.state from n x.target)

pub stopped_by_leads : (s : Evacuation) (from : ℕ) (targets : List ℕ) (n : Name) (o : Option StayReason) → Leads s (stopped_by s from targets n o)
stopped_by_leads s from targets n (Some y) = leads_as s s _ refl refl (leads_itself s)
stopped_by_leads s from targets n None = placed_leads s from targets n

pub moves_leads : (s : Evacuation) (from : ℕ) (targets : List ℕ) (n : Name) → Leads s (moves s from targets n)
unfolding moves
moves_leads s from targets n = leads_on s (doing s (stop n)) (moves s from targets n) (step_leads s (stop n) tt) (stopped_by_leads (doing s (stop n)) from targets n (stay_of (world_step s.world (world_event.Stop n)).answer))

pub moving_leads : (s : Evacuation) (from : ℕ) (targets : List ℕ) (ns : List Name) → Leads s (moving s from targets ns)
unfolding moving
moving_leads s from targets [] = leads_itself s
moving_leads s from targets (n ∷ ns) = by (moves s from targets n).fault (moving_leads (moves s from targets n) from targets ns)
  where
    by : (o : Option Fault) → Leads (moves s from targets n) (moving (moves s from targets n) from targets ns) →
        Leads s (elim o as (λ x. Evacuation) [ None ↦ moving (moves s from targets n) from targets ns | Some f ↦ moves s from targets n ])
    by None later = leads_on s (moves s from targets n) (moving (moves s from targets n) from targets ns) (moves_leads s from targets n) later
    by (Some f) later = moves_leads s from targets n

pub evacuation_leads : (w : World) (from : ℕ) (targets : List ℕ) → Leads (begun w) (evacuation w from targets)
unfolding evacuation
evacuation_leads w from targets = by (are_devices w (from ∷ targets))
  where
    by : (b : Bool) → Leads (begun w) (elim b as (λ x. Evacuation) [ true ↦ moving (doing (begun w) Settles) from targets (names_on w from) | false ↦ record (begun w) { fault = Some NoSuch } ])
    by true = leads_on (begun w) (doing (begun w) Settles) _ (step_leads (begun w) Settles tt) (moving_leads (doing (begun w) Settles) from targets (names_on w from))
    by false = leads_as (begun w) (begun w) _ refl refl (leads_itself (begun w))
