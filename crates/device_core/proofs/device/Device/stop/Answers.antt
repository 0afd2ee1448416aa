-- A context becomes a husk.
use Rattle.std.proofs.Common.{◌≡◌, ◌∙◌, ◌++◌, ◌∷◌, [], List, sym, ap, refl, subst, Some, None, true, map}
use Rattle.std.specs.Prelude.{All, IfSome, IsSome, Ok, is_some, nat_eq}
use Rattle.std.specs.List.{flat_map}
use Rattle.std.specs.Str.{bytes_eq}
use Rattle.std.specs.Map.{lookup}
use Rattle.rdma_types.specs.Causes.{first_cause}
use Rattle.protocol.specs.declared.events.Event.TheVariants as event
use Rattle.protocol.specs.DeviceStep.{husk_of}
use Rattle.protocol.specs.declared.images.Outcome.{Outcome}
use Rattle.protocol.specs.Images.{image_of}
use Rattle.protocol.specs.Lawful.{IsLawful}
use Rattle.protocol.specs.Refusals.{causes_of, has_context}
use Rattle.protocol.specs.State.{Context, context_at}
use Rattle.context_core.specs.Context.{context_in}
use Rattle.context_core.proofs.SettlingReaders.{sends-all}
use Rattle.device_core.specs.declared.husks.HuskEntry.{HuskEntry}
use Rattle.device_core.specs.Held.{IsHeld}
use Rattle.device_core.specs.Index.{numbers_in, without_numbers}
use Rattle.device_core.specs.Leaving.{gone_in, left_by, placed}
use Rattle.device_core.specs.Parts.{device_of, entry_of}
use Rattle.device_core.proofs.Contexts.{found-there, lookup-found}
use Rattle.device_core.proofs.Departures.{left-noted, may-stop, some-is, stop-lawful, stopped}
use Rattle.device_core.proofs.Dones.{step-refused}
use Rattle.device_core.proofs.Helds.{is-context}
use Rattle.device_core.proofs.HuskNames.{husk-there}
use Rattle.device_core.proofs.Leavings.{husk-entries}
use Rattle.device_core.proofs.Pairs.{not-err}
use Rattle.device_core.proofs.Stepping.{done-at}
use Rattle.device_core.proofs.device.Device.stop.Goals as goal

pub returns-in-Some-clause-done : goal.returns-in-Some-clause-done
returns-in-Some-clause-done c = (step-refused c.args.self.now (event.Stop c.args.name c.args.alone) c.in-Some.refusal (sym c.stop_refusal.ensures ∙ c.in-Some.is), refl)

pub returns-in_default-parting-clause-done : goal.returns-in_default-parting-clause-done
returns-in_default-parting-clause-done c = (refl, sym c.stop_refusal.ensures ∙ c.in_default.is)

pub parting-requires : goal.parting-requires
parting-requires c = (may-stop c.args.self.now c.args.name c.args.alone (sym c.stop_refusal.ensures ∙ c.in_default.is)).0

pub invariant_of-self : goal.invariant_of-self
invariant_of-self c =
    let x = c.self.inside in
    subst (λ hs. IsHeld x.pool x.contexts.entries (λ k. lookup (nat_eq k) x.index.entries) (device_of x.id x.address x.qp_count x.key_count x.pool x.contexts.entries hs)) (sym c.reserve.ensures.entries) c.self.invariant

pub unwrap-state-requires : goal.unwrap-state-requires
unwrap-state-requires c =
    let x = c.self.inside in
    let n = c.args.name in
    let lives = (may-stop c.args.self.now n c.args.alone (sym c.stop_refusal.ensures ∙ c.in_default.is)).0 in
    ap is_some c.shift_remove.ensures.value ∙ (found-there x.pool n x.contexts.entries ∙ (ap (λ k. has_context k n) c.self.view_is ∙ lives))

pub move_entries-requires : goal.move_entries-requires
move_entries-requires c =
    let x = c.self.inside in
    let n = c.args.name in
    let d = device_of x.id x.address x.qp_count x.key_count x.pool x.contexts.entries x.husks.entries in
    let lives : has_context d n ≡ true = ap (λ k. has_context k n) c.self.view_is ∙ (may-stop c.args.self.now n c.args.alone (sym c.stop_refusal.ensures ∙ c.in_default.is)).0 in
    let left : map entry_of c.in-Ok.entries ≡ flat_map left_by (context_at d n).ends = c.in-Ok.ensures.entries ∙ (ap (λ k. (husk_of (context_at k n)).entries) (sym c.self.view_is) ∙ husk-entries (context_at d n)) in
    subst (λ (es : List HuskEntry). All (λ e. IsSome (lookup (nat_eq e.number) x.index.entries)) es) (sym c.as_slice.ensures) (left-noted (λ k. lookup (nat_eq k) x.index.entries) d n c.in-Ok.entries c.self.invariant.indexed lives left)

pub drop_ends-requires : goal.drop_ends-requires
drop_ends-requires c =
    let x = c.self.inside in
    sends-all x.pool c.unwrap-state.result (is-context x.id x.address x.qp_count x.key_count x.pool x.contexts.entries x.husks.entries _ c.self.invariant c.args.name c.unwrap-state.result (sym c.shift_remove.ensures.value ∙ c.unwrap-state.ensures))

pub release-requires : goal.release-requires
release-requires c =
    let x = c.self.inside in
    is-context x.id x.address x.qp_count x.key_count x.pool x.contexts.entries x.husks.entries _ c.self.invariant c.args.name c.unwrap-state.result (sym c.shift_remove.ensures.value ∙ c.unwrap-state.ensures)

pub put_husk-requires-clause-absent : goal.put_husk-requires-clause-absent
put_husk-requires-clause-absent c =
    let x = c.self.inside in
    let n = c.args.name in
    let d = device_of x.id x.address x.qp_count x.key_count x.pool x.contexts.entries x.husks.entries in
    let lives : has_context d n ≡ true = ap (λ k. has_context k n) c.self.view_is ∙ (may-stop c.args.self.now n c.args.alone (sym c.stop_refusal.ensures ∙ c.in_default.is)).0 in
    ap (lookup (bytes_eq n)) c.reserve.ensures.entries ∙ some-is (lookup (bytes_eq n) x.husks.entries) (husk-there n x.husks.entries ∙ c.self.invariant.either n lives)

pub put_husk-requires-clause-room : goal.put_husk-requires-clause-room
put_husk-requires-clause-room c = not-err c.reserve.result c.is_err.result c.is_err.ensures.value c.if-is_err.false c.reserve.ensures.ok

pub invariant_of-self-2 : goal.invariant_of-self-2
invariant_of-self-2 c =
    let x = c.self.inside in
    let n = c.args.name in
    let s = c.unwrap-state.result in
    let d = device_of x.id x.address x.qp_count x.key_count x.pool x.contexts.entries x.husks.entries in
    let found : lookup (bytes_eq n) x.contexts.entries ≡ Some s = sym c.shift_remove.ensures.value ∙ c.unwrap-state.ensures in
    let none : first_cause (causes_of d (event.Stop n c.args.alone)) ≡ None = ap (λ k. first_cause (causes_of k (event.Stop n c.args.alone))) c.self.view_is ∙ (sym c.stop_refusal.ensures ∙ c.in_default.is) in
    let at : context_at c.args.self.now n ≡ context_in x.pool n s = ap (λ k. context_at k n) (sym c.self.view_is) ∙ lookup-found x.pool n x.contexts.entries s found in
    (stopped x.id x.address x.qp_count x.key_count x.pool x.contexts.entries x.husks.entries (λ k. lookup (nat_eq k) x.index.entries) c.self.invariant n c.args.alone s found none
    c.release.new.pool c.release.ensures c.shift_remove.new.self.entries c.shift_remove.ensures.entries
    c.in-Ok.entries (c.in-Ok.ensures.entries ∙ ap (λ (k : Context). (husk_of k).entries) at) c.put_husk.new.husks.entries (c.put_husk.ensures ∙ ap (λ hs. hs ++ (n, c.in-Ok.entries) ∷ []) c.reserve.ensures.entries)
    (λ k. lookup (nat_eq k) c.drop_ends.new.index.entries)
    (λ k. c.drop_ends.ensures x.pool k ∙ ap (without_numbers (gone_in (context_in x.pool n s).ends) k) (c.move_entries.ensures k ∙ ap (λ es. placed n 0 (numbers_in es) k (lookup (nat_eq k) x.index.entries)) c.as_slice.ensures))
    c.in-Ok.image (c.in-Ok.ensures.image ∙ ap image_of at) (Ok c.stopped.result) (ap Ok c.stopped.ensures)).held tt tt

pub returns-clause-done : goal.returns-clause-done
returns-clause-done c =
    let x = c.self.inside in
    let n = c.args.name in
    let s = c.unwrap-state.result in
    let d = device_of x.id x.address x.qp_count x.key_count x.pool x.contexts.entries x.husks.entries in
    let found : lookup (bytes_eq n) x.contexts.entries ≡ Some s = sym c.shift_remove.ensures.value ∙ c.unwrap-state.ensures in
    let none : first_cause (causes_of d (event.Stop n c.args.alone)) ≡ None = ap (λ k. first_cause (causes_of k (event.Stop n c.args.alone))) c.self.view_is ∙ (sym c.stop_refusal.ensures ∙ c.in_default.is) in
    let at : context_at c.args.self.now n ≡ context_in x.pool n s = ap (λ k. context_at k n) (sym c.self.view_is) ∙ lookup-found x.pool n x.contexts.entries s found in
    done-at c.self.view_is (stopped x.id x.address x.qp_count x.key_count x.pool x.contexts.entries x.husks.entries (λ k. lookup (nat_eq k) x.index.entries) c.self.invariant n c.args.alone s found none
    c.release.new.pool c.release.ensures c.shift_remove.new.self.entries c.shift_remove.ensures.entries
    c.in-Ok.entries (c.in-Ok.ensures.entries ∙ ap (λ (k : Context). (husk_of k).entries) at) c.put_husk.new.husks.entries (c.put_husk.ensures ∙ ap (λ hs. hs ++ (n, c.in-Ok.entries) ∷ []) c.reserve.ensures.entries)
    (λ k. lookup (nat_eq k) c.drop_ends.new.index.entries)
    (λ k. c.drop_ends.ensures x.pool k ∙ ap (without_numbers (gone_in (context_in x.pool n s).ends) k) (c.move_entries.ensures k ∙ ap (λ es. placed n 0 (numbers_in es) k (lookup (nat_eq k) x.index.entries)) c.as_slice.ensures))
    c.in-Ok.image (c.in-Ok.ensures.image ∙ ap image_of at) (Ok c.stopped.result) (ap Ok c.stopped.ensures))

pub returns-clause-image : goal.returns-clause-image
returns-clause-image c =
    let x = c.self.inside in
    let n = c.args.name in
    let d = device_of x.id x.address x.qp_count x.key_count x.pool x.contexts.entries x.husks.entries in
    let none : first_cause (causes_of d (event.Stop n c.args.alone)) ≡ None = ap (λ k. first_cause (causes_of k (event.Stop n c.args.alone))) c.self.view_is ∙ (sym c.stop_refusal.ensures ∙ c.in_default.is) in
    let lawful : IsLawful (image_of (context_at c.args.self.now n)) = subst (λ k. IsLawful (image_of (context_at k n))) c.self.view_is (stop-lawful d n c.args.alone c.self.invariant.sound none) in
    subst (λ (o : Outcome). IfSome o.image (λ i. IsLawful i)) (sym c.stopped.ensures) (subst IsLawful (sym c.in-Ok.ensures.image) lawful)
