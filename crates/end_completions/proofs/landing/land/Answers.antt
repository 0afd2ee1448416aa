use Rattle.std.proofs.Common.{◌≡◌, ◌∙◌, Some, ap, sym, length, rules}
use Rattle.rdma_types.specs.Memory.{LocalWrite, is_granted, local_key}
use Rattle.memory_keys.specs.Regions.{IsSpot, granted_spot, part_of, regions_of, stored_at}
use Rattle.memory_keys.proofs.Protocol.{place-refused}
use Rattle.end_completions.proofs.Placed.{landed-part, place-there}
use Rattle.end_completions.proofs.landing.land.Goals as goal

pub unwrap-requires : goal.unwrap-requires
unwrap-requires c =
    let rs = regions_of c.args.pool.now c.args.regions.now in
    let r = c.args.request.now in
    let spot : c.check_local-place.result ≡ granted_spot local_key rs c.args.domain r.lkey r.local r.shape.length LocalWrite = c.check_local-place.ensures.granted c.args.pool.now in
    place-there c.check_local-place.result (is_granted local_key rs c.args.domain r.lkey r.local r.shape.length LocalWrite)
    (rw spot (place-refused local_key rs c.args.domain r.lkey r.local r.shape.length LocalWrite)) c.requires.granted

pub returns-clause-landed : goal.returns-clause-landed
returns-clause-landed c = λ ctx is.
    let r = c.args.request.now in
    let found : granted_spot local_key ctx.regions c.args.domain r.lkey r.local r.shape.length LocalWrite ≡ Some c.unwrap.result =
    ap (λ rs. granted_spot local_key rs c.args.domain r.lkey r.local r.shape.length LocalWrite) is ∙ (sym (c.check_local-place.ensures.granted c.args.pool.now) ∙ c.unwrap.ensures) in
    let spot : IsSpot c.args.regions.now c.unwrap.result = search rules in
    let whole : c.unwrap.result.length ≡ r.shape.length = search rules in
    let after : regions_of c.store_part.new.pool c.store_part.new.self ≡ stored_at (part_of c.unwrap.result c.args.off (length c.args.bytes.now)) c.args.bytes.now ctx.regions =
    c.store_part.ensures.regions ∙ ap (λ rs. stored_at (part_of c.unwrap.result c.args.off (length c.args.bytes.now)) c.args.bytes.now rs) (sym is) in
    landed-part ctx c.args.pool.now c.args.regions.now is c.check_local-place.ensures.keyed c.args.domain r.lkey r.local r.shape.length LocalWrite c.unwrap.result c.args.off c.args.bytes.now found spot whole c.requires.inside
    ∙ ap (λ rs. record ctx { regions = rs }) (sym after)
