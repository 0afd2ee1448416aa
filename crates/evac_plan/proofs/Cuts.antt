-- Evacuations that stopped on their way.
use Rattle.std.proofs.Common.{◌≡◌, List, [], ◌∷◌, ◌++◌, refl, sym, ap, ◌∙◌, subst, append_assoc}
use Rattle.std.specs.Prelude.{IfErr, OnErr, Result, Ok, Err}
use Rattle.std.specs.Result.{IsErrAnd}
use Rattle.protocol.specs.declared.events.WorldEvent.{WorldEvent}
use Rattle.protocol.specs.Script.{Happening, Event, Dump, Settles}
use Rattle.protocol.specs.State.{World}
use Rattle.protocol.specs.WorldStep.{world_after}
use Rattle.law_kept_datagrams.specs.Alike.{with_kept_datagrams}
use Rattle.law_settling.specs.Events.{settling_events}
use Rattle.law_headline.specs.Script.{world_left}
use Rattle.world_core.specs.Settled as settled
use Rattle.world_core.specs.Settled.{IsLeft}
use Rattle.evac_rules.specs.Evacuation.{Evacuation, doing}
use Rattle.law_moves.proofs.Leading.{Leads, left_on}
use Rattle.evac_plan.specs.Steps.{AreUnderWay, IsCut, Shows}
use Rattle.evac_plan.proofs.Shown.{alike_kept, kept_alike}

pub on_err : {T E : Type 0} (P : Type 0) (r : Result T E) → P → OnErr r P
on_err P (Ok x) h = tt
on_err P (Err e) h = h

pub if_err_is : {T E : Type 0} (P : E → Type 0) (r : Result T E) (e : E) → IsErrAnd r (λ x. x ≡ e) → P e → IfErr r P
if_err_is P (Ok x) e h p = tt
if_err_is P (Err y) e h p = subst P (sym h) p

-- nothing was done
pub cut_here : (s s' : Evacuation) (w : World) → Shows w s → Leads s s' → IsCut s s' w
unfolding world_after
cut_here s s' w shows l = record { prefix = []; back = l.done; splits = l.steps; events = []; under_way = tt; world = shows.world }

-- a settling stopped on its way
under_settling : (w : World) (es rest : List WorldEvent) → settling_events w ≡ es ++ rest → AreUnderWay w es (Settles ∷ [])
under_settling w [] rest are = tt
under_settling w (e ∷ es) rest are = record { rest = rest; are = are }

pub cut_settling : (s : Evacuation) (w new : World) → Shows w s → IsLeft w new → IsCut s (doing s Settles) new
cut_settling s w new shows l =
    let c : settled.IsCut s.world (settling_events s.world) new = l s.world (sym (alike_kept w s.world (kept_alike w s.world shows.world))) in
    record { prefix = []; back = Settles ∷ []; splits = refl; events = c.made; under_way = under_settling s.world c.made c.rest c.are; world = c.world }

-- more steps would follow
under_on : (w : World) (es : List WorldEvent) (back more : List Happening) → AreUnderWay w es back → AreUnderWay w es (back ++ more)
under_on w [] back more h = tt
under_on w (e ∷ es) [] more h = absurd h
under_on w (e ∷ es) (Event x ∷ back) more h = absurd h
under_on w (e ∷ es) (Dump n ∷ back) more h = absurd h
under_on w (e ∷ es) (Settles ∷ back) more h = h

pub cut_before : (s mid s' : Evacuation) (w : World) → IsCut s mid w → Leads mid s' → IsCut s s' w
cut_before s mid s' w c l = record {
  prefix = c.prefix;
  back = c.back ++ l.done;
  splits = l.steps ∙ (ap (λ hs. hs ++ l.done) c.splits ∙ (append_assoc s.steps (c.prefix ++ c.back) l.done ∙ ap (λ hs. s.steps ++ hs) (append_assoc c.prefix c.back l.done)));
  events = c.events;
  under_way = under_on (world_left s.world c.prefix) c.events c.back l.done c.under_way;
  world = c.world;
}

-- other steps were made before
pub cut_after : (s mid s' : Evacuation) (w : World) → Leads s mid → IsCut mid s' w → IsCut s s' w
cut_after s mid s' w l c = let on : world_left mid.world c.prefix ≡ world_left s.world (l.done ++ c.prefix) = ap (λ v. world_left v c.prefix) l.world ∙ sym (left_on s.world l.done c.prefix) in record {
  prefix = l.done ++ c.prefix;
  back = c.back;
  splits = c.splits ∙ (ap (λ hs. hs ++ (c.prefix ++ c.back)) l.steps ∙ (append_assoc s.steps l.done (c.prefix ++ c.back) ∙ ap (λ hs. s.steps ++ hs) (sym (append_assoc l.done c.prefix c.back))));
  events = c.events;
  under_way = subst (λ (v : World). AreUnderWay v c.events c.back) on c.under_way;
  world = c.world ∙ ap (λ v. with_kept_datagrams (world_after v c.events)) on;
}

-- it is of evacuations with the same steps
pub cut_as : (s a b : Evacuation) (w : World) → b.steps ≡ a.steps → IsCut s a w → IsCut s b w
cut_as s a b w same c = record { prefix = c.prefix; back = c.back; splits = same ∙ c.splits; events = c.events; under_way = c.under_way; world = c.world }
