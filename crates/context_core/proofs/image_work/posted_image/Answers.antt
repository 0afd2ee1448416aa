use Rattle.std.proofs.Common.{◌≡◌, ap, ◌∙◌}
use Rattle.rdma_types.specs.Memory.{cut}
use Rattle.page_pool.specs.Pool.{bytes_in}
use Rattle.page_pool.specs.Held.{payload_bytes}
use Rattle.protocol.specs.declared.images.PostedImage.{PostedImage}
use Rattle.context_core.proofs.image_work.posted_image.Goals as goal

pub returns : goal.returns
unfolding payload_bytes
returns c =
    let p = c.args.posted.now.payload in
    let bytes : c.in_ok-bytes.bytes ≡ payload_bytes c.args.pool.now p = c.in_ok-bytes.ensures ∙ ap (λ first. cut first p.length (bytes_in c.args.pool.now p.list)) c.from.ensures in
    ap {B = PostedImage} (λ b. record { request = c.args.posted.now.request; payload = b }) bytes
