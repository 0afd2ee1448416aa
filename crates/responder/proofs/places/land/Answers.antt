use Rattle.std.proofs.Common.{◌≡◌, sym, ◌∙◌, subst}
use Rattle.std.specs.Prelude.{IsSome, IfSome, Some}
use Rattle.rdma_types.specs.Memory.{LocalWrite, local_key}
use Rattle.memory_keys.specs.Regions.{IsSpot, granted_spot, regions_of}
use Rattle.responder.proofs.Granted.{granted-place, part-landed}
use Rattle.responder.proofs.places.land.Goals as goal

pub unwrap-spot-requires : goal.unwrap-spot-requires
unwrap-spot-requires c =
    subst IsSome (sym (c.check_local-place.ensures.granted c.args.pool.now))
    (granted-place local_key (regions_of c.args.pool.now c.args.regions.now) c.args.domain c.args.receive.now.lkey c.args.receive.now.local c.args.receive.now.length LocalWrite (c.requires.place.granted c.args.pool.now))

pub returns-clause-landed : goal.returns-clause-landed
returns-clause-landed c =
    let spot = c.unwrap-spot.result in
    let r = c.args.receive.now in
    let is : granted_spot local_key (regions_of c.args.pool.now c.args.regions.now) c.args.domain r.lkey r.local r.length LocalWrite ≡ Some spot = sym (c.check_local-place.ensures.granted c.args.pool.now) ∙ c.unwrap-spot.ensures in
    let inside : IsSpot c.args.regions.now spot = subst (λ o. IfSome o (λ s. IsSpot c.args.regions.now s)) c.unwrap-spot.ensures c.check_local-place.ensures.inside in
    let length' : spot.length ≡ r.length = subst (λ o. IfSome o (λ s. s.length ≡ r.length)) c.unwrap-spot.ensures c.check_local-place.ensures.length in
    c.store_part.ensures.regions
    ∙ part-landed c.args.pool.now c.args.regions.now c.args.domain r.lkey r.local r.length c.args.done spot c.args.bytes.now c.check_local-place.ensures.keyed inside is length' c.requires.fits
