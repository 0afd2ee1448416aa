use Rattle.std.proofs.Common.{◌∷◌, [], ◌+◌, ◌∙◌, ap}
use Rattle.std.proofs.lemmas.Result.{on_ok_weaker}
use Rattle.rdma_types.specs.Limits.{most_bytes}
use Rattle.mailbox_rules.specs.Opening.{end_event, place_address, receiver_end, receiver_region, region_event, sender_end, sender_region, staging_address}
use Rattle.mailbox.proofs.Made.{made_as, made_then}
use Rattle.mailbox.proofs.making.join.Goals as goal

pub returns : goal.returns
returns c = on_ok_weaker c.connect.result (λ last.
    made_then c.args.world.now c.make.new.world c.connect.new.world (region_event (receiver_region c.args.i) (place_address c.args.i 0) (65536 + most_bytes) 1 ∷ []) _
    (made_as c.args.world.now c.make.new.world _ _ c.places.ensures.event c.in_ok-make.ensures)
    (made_then c.make.new.world c.make-2.new.world c.connect.new.world (region_event (sender_region c.args.i) staging_address (4096 + most_bytes) 5 ∷ []) _
    (made_as c.make.new.world c.make-2.new.world _ _ c.slot.ensures.event c.in_ok-make-2.ensures)
    (made_then c.make-2.new.world c.make-3.new.world c.connect.new.world (end_event (receiver_end c.args.i) ∷ []) _
    (made_as c.make-2.new.world c.make-3.new.world _ _ (c.end.ensures.event ∙ ap (λ o. end_event o) c.receiver_end.ensures) c.in_ok-make-3.ensures)
    (made_then c.make-3.new.world c.make-4.new.world c.connect.new.world (end_event (sender_end c.args.i) ∷ []) _
    (made_as c.make-3.new.world c.make-4.new.world _ _ (c.end-2.ensures.event ∙ ap (λ o. end_event o) c.sender_end.ensures) c.in_ok-make-4.ensures)
    last)))) c.connect.ensures
