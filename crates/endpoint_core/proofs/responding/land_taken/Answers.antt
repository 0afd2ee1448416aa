use Rattle.std.proofs.Common.{◌≡◌, ◌+◌, ◌∙◌, Some, ap, sym, subst, arith, rules}
use Rattle.std.specs.Prelude.{slice_get, unwrap_or}
use Rattle.rdma_types.specs.declared.requests.Request.{Request}
use Rattle.rdma_types.specs.Memory.{word_bytes}
use Rattle.rdma_types.specs.Objects.{no_posted}
use Rattle.protocol.specs.Memory.{landed}
use Rattle.roce_headers.specs.Packets.{packet}
use Rattle.memory_keys.specs.Regions.{AreHeld, regions_of}
use Rattle.requester.specs.Sending.{bares}
use Rattle.requester.proofs.Bares.{bare_at}
use Rattle.endpoint_core.specs.Responded.{landed_by, request_in}
use Rattle.endpoint_core.proofs.responding.land_taken.Goals as goal

pub returns-in-OldLanded-clause-landed : goal.returns-in-OldLanded-clause-landed
unfolding word_bytes
returns-in-OldLanded-clause-landed c =
    let us = bares c.args.requester.now.items in
    let p = c.unwrap-p-in-OldLanded.result.now in
    let there : slice_get c.args.requester.now.items c.in-OldLanded.index ≡ Some p = search rules in
    let request : (request_in us c.in-OldLanded.index).request ≡ p.request = ap (λ o. (unwrap_or o no_posted).request) (bare_at c.args.requester.now.items c.in-OldLanded.index p there) in
    let place : p.request.local ≡ p.request.local + 0 = omega arith in
    record {
      landing = λ ctx is.
          ap (λ t. landed_by ctx us (packet c.args.d.now) t) c.in-OldLanded.is
          ∙ (ap (λ (r : Request). landed ctx r.lkey r.local (word_bytes c.in-OldLanded.old)) request
          ∙ (ap (λ n. landed ctx p.request.lkey n (word_bytes c.in-OldLanded.old)) place
          ∙ (ap (λ bytes. landed ctx p.request.lkey (p.request.local + 0) bytes) (sym c.to_be_bytes.ensures)
          ∙ (c.land-in-OldLanded.ensures.landed ctx is
          ∙ ap (λ held. record ctx { regions = regions_of c.land-in-OldLanded.new.pool held }) c.land-in-OldLanded.ensures.same))));
      regions = subst (λ held. AreHeld c.land-in-OldLanded.new.pool held) c.land-in-OldLanded.ensures.same c.land-in-OldLanded.ensures.held;
      others = c.land-in-OldLanded.ensures.others;
      free = c.land-in-OldLanded.ensures.free;
    }
