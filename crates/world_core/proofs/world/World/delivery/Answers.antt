-- The device with its address, where it is kept and here.
use Rattle.std.proofs.Common.{◌≡◌, ◌∙◌, ap, sym, Some, None}
use Rattle.std.specs.List.{position}
use Rattle.protocol.specs.Fabric.{IsAged, IsGone, IsLost, kept_flight}
use Rattle.protocol.specs.State.{Flight, World}
use Rattle.protocol.specs.WorldStep.{same_address}
use Rattle.world_core.proofs.Networks.{comes_nowhere, comes_to, looked_here, looked_kept, looked_none, marked}
use Rattle.world_core.proofs.world.World.delivery.Goals as goal

pub returns-in_default : goal.returns-in_default
returns-in_default c =
    let w = c.args.self.now in
    let none : kept_flight w.sent c.args.k ≡ None = ap (λ (x : World). kept_flight x.sent c.args.k) (sym c.self.view_is) ∙ sym c.in_default.ensures in
    looked_none w c.args.k none

pub returns-in-Gone : goal.returns-in-Gone
returns-in-Gone c =
    let w = c.args.self.now in
    let f = c.in-Some.flight.now in
    let is : kept_flight w.sent c.args.k ≡ Some f = ap (λ (x : World). kept_flight x.sent c.args.k) (sym c.self.view_is) ∙ sym c.in-Some.ensures in
    let now = marked w f c.as_slice.result.now c.end_for-found.result c.mark_of.result (c.as_slice.ensures ∙ ap (λ (x : Flight). x.bytes) c.flight.view_is) c.end_for-found.ensures c.mark_of.ensures in
    looked_kept w c.args.k c.mark_of.result f IsGone is now c.in-Gone.ensures

pub returns-in-Lost : goal.returns-in-Lost
returns-in-Lost c =
    let w = c.args.self.now in
    let f = c.in-Some.flight.now in
    let is : kept_flight w.sent c.args.k ≡ Some f = ap (λ (x : World). kept_flight x.sent c.args.k) (sym c.self.view_is) ∙ sym c.in-Some.ensures in
    let now = marked w f c.as_slice.result.now c.end_for-found.result c.mark_of.result (c.as_slice.ensures ∙ ap (λ (x : Flight). x.bytes) c.flight.view_is) c.end_for-found.ensures c.mark_of.ensures in
    looked_kept w c.args.k c.mark_of.result f IsLost is now c.in-Lost.ensures

pub returns-in-Aged : goal.returns-in-Aged
returns-in-Aged c =
    let w = c.args.self.now in
    let f = c.in-Some.flight.now in
    let is : kept_flight w.sent c.args.k ≡ Some f = ap (λ (x : World). kept_flight x.sent c.args.k) (sym c.self.view_is) ∙ sym c.in-Some.ensures in
    let now = marked w f c.as_slice.result.now c.end_for-found.result c.mark_of.result (c.as_slice.ensures ∙ ap (λ (x : Flight). x.bytes) c.flight.view_is) c.end_for-found.ensures c.mark_of.ensures in
    looked_kept w c.args.k c.mark_of.result f IsAged is now c.in-Aged.ensures

pub returns-in-Some-place : goal.returns-in-Some-place
returns-in-Some-place c =
    let w = c.args.self.now in
    let f = c.in-Some.flight.now in
    let is : kept_flight w.sent c.args.k ≡ Some f = ap (λ (x : World). kept_flight x.sent c.args.k) (sym c.self.view_is) ∙ sym c.in-Some.ensures in
    let now = marked w f c.as_slice.result.now c.end_for-found.result c.mark_of.result (c.as_slice.ensures ∙ ap (λ (x : Flight). x.bytes) c.flight.view_is) c.end_for-found.ensures c.mark_of.ensures in
    let at : position (λ x. same_address x.address f.to) w.devices ≡ Some c.in-Some-place.place =
    ap (λ (x : Flight). position (λ y. same_address y.address x.to) w.devices) (sym c.flight.view_is) ∙ (sym c.place_with-place.ensures ∙ c.in-Some-place.is) in
    comes_to w c.args.k c.in-Some-place.place f c.end_for-found.result (looked_here w c.args.k c.mark_of.result f _ is now c.in-Here.ensures) at c.end_for-found.ensures

pub returns-in-None : goal.returns-in-None
returns-in-None c =
    let w = c.args.self.now in
    let f = c.in-Some.flight.now in
    let is : kept_flight w.sent c.args.k ≡ Some f = ap (λ (x : World). kept_flight x.sent c.args.k) (sym c.self.view_is) ∙ sym c.in-Some.ensures in
    let now = marked w f c.as_slice.result.now c.end_for-found.result c.mark_of.result (c.as_slice.ensures ∙ ap (λ (x : Flight). x.bytes) c.flight.view_is) c.end_for-found.ensures c.mark_of.ensures in
    let none : position (λ x. same_address x.address f.to) w.devices ≡ None =
    ap (λ (x : Flight). position (λ y. same_address y.address x.to) w.devices) (sym c.flight.view_is) ∙ (sym c.place_with-place.ensures ∙ c.in-None.is) in
    comes_nowhere w c.args.k f (looked_here w c.args.k c.mark_of.result f _ is now c.in-Here.ensures) none
