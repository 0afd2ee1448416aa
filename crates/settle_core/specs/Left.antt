-- What is left of an end, as its view tells it.
use Rattle.std.specs.Prelude.{◌==◌, List, [], ◌∷◌, flat_map, Option, Some, None, if◌then◌else◌}
use Rattle.rdma_types.specs.declared.answers.UnfinishedReason.{UnfinishedReason}
use Rattle.rdma_types.specs.declared.answers.UnfinishedReason.TheVariants as left
use Rattle.rdma_types.specs.declared.names.ObjName.{ObjName}
use Rattle.protocol.specs.declared.images.ContextImage.{ContextImage}
use Rattle.protocol.specs.Settle.{left_image}
use Rattle.context_core.specs.declared.lives.LinkView.{LinkView}
use Rattle.context_core.specs.declared.lives.LiveEnd.{LiveEnd}

-- why the untold requests of a connected end are left
abbrev pub view_why : LinkView → Option UnfinishedReason
view_why v = if v.untold == 0 then None else if v.paused then Some left.Paused else if v.resuming then Some left.Resuming else Some left.NoReceive

-- with its name, where there is a reason
abbrev pub with_why : ObjName → Option UnfinishedReason → List (ObjName × UnfinishedReason)
with_why o None = []
with_why o (Some why) = (o, why) ∷ []

-- what is left of a link
abbrev pub left_linked : ObjName → Option LinkView → List (ObjName × UnfinishedReason)
left_linked o None = []
left_linked o (Some v) = with_why o (view_why v)

-- .. and of a live end
abbrev pub left_view : LiveEnd → List (ObjName × UnfinishedReason)
left_view e = left_linked e.name e.link

-- .. and of a carried context
abbrev pub left_image_of : ContextImage → List (ObjName × UnfinishedReason)
left_image_of c = flat_map (left_image c.name) c.ends
