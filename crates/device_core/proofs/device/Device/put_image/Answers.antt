-- A context comes with an image.
use Rattle.std.proofs.Common.{◌∙◌, ◌++◌, ◌∷◌, [], sym, ap, refl}
use Rattle.std.specs.Prelude.{Ok, nat_eq}
use Rattle.rdma_types.specs.Causes.{first_cause}
use Rattle.protocol.specs.DeviceStep.{highest}
use Rattle.device_core.specs.Coming.{numbers_of_ends, pairs_of}
use Rattle.device_core.specs.Leaving.{placed}
use Rattle.std.specs.Str.{bytes_eq}
use Rattle.std.specs.Map.{lookup}
use Rattle.protocol.specs.declared.events.Event.TheVariants as event
use Rattle.protocol.specs.Refusals.{causes_of}
use Rattle.device_core.specs.Parts.{device_of}
use Rattle.device_core.proofs.Contexts.{free-lookup}
use Rattle.device_core.proofs.Dones.{step-refused}
use Rattle.device_core.proofs.Restores.{absent-name, held-reserved, may-restore, not-restored, restored}
use Rattle.device_core.proofs.Stepping.{done-at}
use Rattle.device_core.proofs.device.Device.put_image.Goals as goal

pub returns-in-Some : goal.returns-in-Some
returns-in-Some c = (step-refused c.args.self.now (event.Restore c.args.image.now) c.in-Some.refusal (sym c.restore_refusal.ensures ∙ c.in-Some.is), refl)

pub invariant_of-self : goal.invariant_of-self
invariant_of-self c =
    let x = c.self.inside in
    held-reserved x.id x.address x.qp_count x.key_count x.pool x.contexts.entries x.husks.entries (λ k. lookup (nat_eq k) x.index.entries) c.self.invariant c.args.image.now _ _ c.reserve.ensures.entries refl

pub invariant_of-self-then-is_err-2 : goal.invariant_of-self-then-is_err-2
invariant_of-self-then-is_err-2 c =
    let x = c.self.inside in
    held-reserved x.id x.address x.qp_count x.key_count x.pool x.contexts.entries x.husks.entries (λ k. lookup (nat_eq k) x.index.entries) c.self.invariant c.args.image.now _ _ c.reserve.ensures.entries (λ i k. lookup (nat_eq k) (c.reserve-2.ensures.entries i))

pub from_image-requires-clause-moves : goal.from_image-requires-clause-moves
from_image-requires-clause-moves c = (may-restore c.args.self.now c.args.image.now (sym c.restore_refusal.ensures ∙ c.in_default.is)).stays

pub invariant_of-self-in-Err : goal.invariant_of-self-in-Err
invariant_of-self-in-Err c =
    let x = c.self.inside in
    let img = c.args.image.now in
    let d = device_of x.id x.address x.qp_count x.key_count x.pool x.contexts.entries x.husks.entries in
    let may = may-restore d img (ap (λ k. first_cause (causes_of k (event.Restore img))) c.self.view_is ∙ (sym c.restore_refusal.ensures ∙ c.in_default.is)) in
    (not-restored x.id x.address x.qp_count x.key_count x.pool x.contexts.entries x.husks.entries (λ k. lookup (nat_eq k) x.index.entries) c.self.invariant img may.pages c.from_image.new.pool c.in-Err.fault c.in-Err.ensures.refused c.in-Err.ensures.err
    c.reserve.new.self.entries (λ k. lookup (nat_eq k) c.reserve-2.new.self.entries) c.reserve.ensures.entries (λ i k. lookup (nat_eq k) (c.reserve-2.ensures.entries i))).held c.requires tt

pub returns-in-Err : goal.returns-in-Err
returns-in-Err c =
    let x = c.self.inside in
    let img = c.args.image.now in
    let d = device_of x.id x.address x.qp_count x.key_count x.pool x.contexts.entries x.husks.entries in
    let may = may-restore d img (ap (λ k. first_cause (causes_of k (event.Restore img))) c.self.view_is ∙ (sym c.restore_refusal.ensures ∙ c.in_default.is)) in
    done-at c.self.view_is (not-restored x.id x.address x.qp_count x.key_count x.pool x.contexts.entries x.husks.entries (λ k. lookup (nat_eq k) x.index.entries) c.self.invariant img may.pages c.from_image.new.pool c.in-Err.fault c.in-Err.ensures.refused c.in-Err.ensures.err
    c.reserve.new.self.entries (λ k. lookup (nat_eq k) c.reserve-2.new.self.entries) c.reserve.ensures.entries (λ i k. lookup (nat_eq k) (c.reserve-2.ensures.entries i)))

pub put_context-requires-clause-absent : goal.put_context-requires-clause-absent
put_context-requires-clause-absent c =
    let x = c.self.inside in
    let img = c.args.image.now in
    let d = device_of x.id x.address x.qp_count x.key_count x.pool x.contexts.entries x.husks.entries in
    let may = may-restore d img (ap (λ k. first_cause (causes_of k (event.Restore img))) c.self.view_is ∙ (sym c.restore_refusal.ensures ∙ c.in_default.is)) in
    ap (lookup (bytes_eq img.name)) c.reserve.ensures.entries ∙ free-lookup x.pool img.name x.contexts.entries (absent-name d img may.nothing)

pub invariant_of-self-2 : goal.invariant_of-self-2
invariant_of-self-2 c =
    let x = c.self.inside in
    let img = c.args.image.now in
    let d = device_of x.id x.address x.qp_count x.key_count x.pool x.contexts.entries x.husks.entries in
    let may = may-restore d img (ap (λ k. first_cause (causes_of k (event.Restore img))) c.self.view_is ∙ (sym c.restore_refusal.ensures ∙ c.in_default.is)) in
    (restored x.id x.address x.qp_count x.key_count x.pool x.contexts.entries x.husks.entries (λ k. lookup (nat_eq k) x.index.entries) c.self.invariant img may.pages c.from_image.new.pool c.requires may.nothing c.in-Ok.state c.in-Ok.ensures.refused
    c.in-Ok.ensures.moved c.in-Ok.ensures.is c.in-Ok.ensures.moves c.put_context.new.contexts.entries (c.put_context.ensures ∙ ap (λ es. es ++ (img.name, c.in-Ok.state) ∷ []) c.reserve.ensures.entries)
    (λ k. lookup (nat_eq k) c.put_ends.new.index.entries) (λ k. c.put_ends.ensures k ∙ (λ i. placed img.name 0 (numbers_of_ends (c.as_slice.ensures i)) k (lookup (nat_eq k) (c.reserve-2.ensures.entries i))))
    c.highest_number-self-inside.result c.highest_pair-self-inside.result (c.highest_number-self-inside.ensures ∙ ap (λ es. highest x.id 65536 (numbers_of_ends es) x.qp_count) c.as_slice-2.ensures) (c.highest_pair-self-inside.ensures ∙ ap (λ rs. highest x.id 8388608 (pairs_of rs) x.key_count) c.as_slice-3.ensures)
    (Ok c.answered.result) (ap Ok c.answered.ensures)).held c.requires tt

pub returns : goal.returns
returns c =
    let x = c.self.inside in
    let img = c.args.image.now in
    let d = device_of x.id x.address x.qp_count x.key_count x.pool x.contexts.entries x.husks.entries in
    let may = may-restore d img (ap (λ k. first_cause (causes_of k (event.Restore img))) c.self.view_is ∙ (sym c.restore_refusal.ensures ∙ c.in_default.is)) in
    done-at c.self.view_is (restored x.id x.address x.qp_count x.key_count x.pool x.contexts.entries x.husks.entries (λ k. lookup (nat_eq k) x.index.entries) c.self.invariant img may.pages c.from_image.new.pool c.requires may.nothing c.in-Ok.state c.in-Ok.ensures.refused
    c.in-Ok.ensures.moved c.in-Ok.ensures.is c.in-Ok.ensures.moves c.put_context.new.contexts.entries (c.put_context.ensures ∙ ap (λ es. es ++ (img.name, c.in-Ok.state) ∷ []) c.reserve.ensures.entries)
    (λ k. lookup (nat_eq k) c.put_ends.new.index.entries) (λ k. c.put_ends.ensures k ∙ (λ i. placed img.name 0 (numbers_of_ends (c.as_slice.ensures i)) k (lookup (nat_eq k) (c.reserve-2.ensures.entries i))))
    c.highest_number-self-inside.result c.highest_pair-self-inside.result (c.highest_number-self-inside.ensures ∙ ap (λ es. highest x.id 65536 (numbers_of_ends es) x.qp_count) c.as_slice-2.ensures) (c.highest_pair-self-inside.ensures ∙ ap (λ rs. highest x.id 8388608 (pairs_of rs) x.key_count) c.as_slice-3.ensures)
    (Ok c.answered.result) (ap Ok c.answered.ensures))
