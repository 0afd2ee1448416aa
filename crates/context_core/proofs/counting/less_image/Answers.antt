use Rattle.std.proofs.Common.{◌∙◌, ◌+◌, ap, sym}
use Rattle.std.specs.Prelude.{map, sum_by}
use Rattle.protocol.specs.Images.{context_of, region_of_image}
use Rattle.protocol.specs.Memory.{pages_of_length, pages_of_request}
use Rattle.context_core.proofs.PageCounts.{image-pages, image-regions, less-both, less-first}
use Rattle.context_core.proofs.counting.less_image.Goals as goal

pub returns-in_err-left : goal.returns-in_err-left
returns-in_err-left c = rw c.from_residual.ensures (less-first _ _ _ c.args.free (image-pages c.args.image.now c.requires) (ap (λ rs. sum_by (λ r. pages_of_length r.length) rs) c.as_slice-regions.ensures) c.in_err-left.ensures)

pub returns : goal.returns
returns c =
    let regions = ap (λ rs. sum_by (λ r. pages_of_length r.length) rs) c.as_slice-regions.ensures in
    let ends = ap (λ es. sum_by (λ e. sum_by (λ p. pages_of_request (context_of c.args.image.now) p.request) e.untold) es) c.as_slice.ensures in
    less-both c.less_ends.result (sum_by (λ r. pages_of_length r.length) c.args.image.now.regions) _ _ c.in_ok-left.left c.args.free (image-pages c.args.image.now c.requires) (ap (λ n. c.in_ok-left.left + n) (sym regions) ∙ c.in_ok-left.ensures) (rw (← ends) (c.less_ends.ensures (context_of c.args.image.now) c.args.image.now.domains (image-regions c.args.image.now ∙ ap (map (region_of_image c.args.image.now.domains)) (sym c.as_slice-regions.ensures))))
