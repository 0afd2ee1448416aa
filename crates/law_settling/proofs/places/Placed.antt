-- What is at the places of an end, and what is found of its name.
use Rattle.std.proofs.Common.{◌≡◌, ℕ, sym, ap, ◌∙◌}
use Rattle.std.specs.Prelude.{Some, slice_get}
use Rattle.std.specs.List.{position}
use Rattle.rdma_types.specs.declared.names.ObjName.{ObjName}
use Rattle.protocol.specs.Refusals.{has_context}
use Rattle.protocol.specs.Settle.{link_at}
use Rattle.protocol.specs.State.{World, Device, Context, End, no_context, no_end, context_at, end_at}
use Rattle.protocol.specs.WorldStep.{home, live_context, or_none}
use Rattle.law_devices.specs.Sound.{IsSoundContext}
use Rattle.law_devices.proofs.Regions.{All-at}
use Rattle.law_settling.specs.Places.{IsOrderly, PlacedIsFound, PlacesAreOfOne}
use Rattle.law_settling.proofs.places.Changes.{link_is}
use Rattle.law_settling.proofs.places.Lists.{IsNamedAt, named_there, position_first, the_same}

pub of_one : PlacesAreOfOne
of_one w o o' i j k p q =
    let d : p.device ≡ q.device = the_same p.device q.device (sym p.here ∙ q.here) in
    let c : p.context ≡ q.context = the_same p.context q.context (sym p.owner ∙ (ap (λ (z : Device). slice_get z.contexts j) d ∙ q.owner)) in
    let e : p.end ≡ q.end = the_same p.end q.end (sym p.there ∙ (ap (λ (z : Context). slice_get z.ends k) c ∙ q.there)) in
    let context : o.context ≡ o'.context = sym p.owned ∙ (ap (λ (z : Context). z.name) c ∙ q.owned) in
    let name : o.name ≡ o'.name = sym p.named ∙ (ap (λ (z : End). z.name) e ∙ q.named) in
    λ t. record { context = context t; name = name t }

-- the link that is found of a name, where its device is orderly and the first with its context
pub link_named : (w : World) (o : ObjName) (i j k : ℕ) (d : Device) (c : Context) (e : End) → IsOrderly d → position (λ x. has_context x o.context) w.devices ≡ Some i → slice_get w.devices i ≡ Some d → slice_get d.contexts j ≡ Some c → c.name ≡ o.context → slice_get c.ends k ≡ Some e → e.name ≡ o.name → link_at w o ≡ e.link
unfolding live_context home
link_named w o i j k d c e orderly home' here owner owned there named' =
    let first = position_first (λ x. has_context x o.context) w.devices i d home' here in
    let context_there : IsNamedAt (λ z. z.name) no_context c.name d.contexts j c = named_there (λ z. z.name) no_context d.contexts j c orderly.contexts owner in
    let sound : IsSoundContext c = All-at IsSoundContext d.contexts j c orderly.sound.contexts owner in
    let end_there : IsNamedAt (λ z. z.name) no_end e.name c.ends k e = named_there (λ z. z.name) no_end c.ends k e sound.parts.end_names.distinct there in
    let in_home : context_at d o.context ≡ c = ap (context_at d) (sym owned) ∙ context_there.is in
    let in_context : end_at c o.name ≡ e = ap (end_at c) (sym named') ∙ end_there.is in
    ap (λ r. (end_at (context_at (or_none r) o.context) o.name).link) first.0
    ∙ (ap (λ z. (end_at z o.name).link) in_home ∙ ap (λ (z : End). z.link) in_context)

pub is_found : PlacedIsFound
is_found w o i j k p orderly =
    link_is w i j k p.device p.context p.end p.here p.owner p.there
    ∙ sym (link_named w o i j k p.device p.context p.end orderly p.home p.here p.owner p.owned p.there p.named)
