-- The entry that the index says is there.
use Rattle.std.proofs.Common.{arith, ◌∙◌, ◌<◌, ◌^◌, List, sym, ap, subst, Some, length}
use Rattle.std.specs.Prelude.{slice_get}
use Rattle.std.specs.Str.{bytes_eq}
use Rattle.std.specs.Map.{lookup}
use Rattle.protocol.specs.State.{Device}
use Rattle.device_core.specs.declared.husks.HuskEntry.{HuskEntry}
use Rattle.device_core.specs.Index.{IsEntryAt, husk_at}
use Rattle.device_core.specs.Parts.{entry_of}
use Rattle.device_core.proofs.HuskNames.{entry_here, husk-some, left-here}
use Rattle.device_core.proofs.Stepping.{found-ref, some-copied}
use Rattle.device_core.proofs.device.Device.entry_at.Goals as goal

pub unwrap-entries-requires : goal.unwrap-entries-requires
unwrap-entries-requires c =
    let x = c.self.inside in
    let n = c.args.spot.now.context in
    let e = subst (λ (d : Device). IsEntryAt d n c.args.spot.now.place c.requires.0) (sym c.self.view_is) c.requires.1 in
    some-copied c.get.result (c.get.ensures.value ∙ (husk-some n x.husks.entries e.stays).1)

pub bounds-as_slice-spot : goal.bounds-as_slice-spot
bounds-as_slice-spot c =
    let x = c.self.inside in
    let n = c.args.spot.now.context in
    let e = subst (λ (d : Device). IsEntryAt d n c.args.spot.now.place c.requires.0) (sym c.self.view_is) c.requires.1 in
    let found = found-ref c.get.result c.unwrap-entries.result (lookup (bytes_eq n) x.husks.entries) c.unwrap-entries.ensures c.get.ensures.value in
    let at = entry_here n x.husks.entries c.unwrap-entries.result.now found c.args.spot.now.place e.entry e.there in
    subst (λ (l : List HuskEntry). c.args.spot.now.place < length l) (sym c.as_slice.ensures) at.within

pub returns-clause-entry : goal.returns-clause-entry
returns-clause-entry c =
    let x = c.self.inside in
    let n = c.args.spot.now.context in
    let e = subst (λ (d : Device). IsEntryAt d n c.args.spot.now.place c.requires.0) (sym c.self.view_is) c.requires.1 in
    let found = found-ref c.get.result c.unwrap-entries.result (lookup (bytes_eq n) x.husks.entries) c.unwrap-entries.ensures c.get.ensures.value in
    let at = entry_here n x.husks.entries c.unwrap-entries.result.now found c.args.spot.now.place e.entry e.there in
    ap (λ (d : Device). slice_get (husk_at d n).entries c.args.spot.now.place) (sym c.self.view_is)
    ∙ (e.there ∙ ap Some (sym at.same ∙ ap entry_of (at.is_read c.as_slice.result.now c.as_slice.ensures (record { number = 0; peer = 0; moves = 0 }))))

pub returns-clause-peer : goal.returns-clause-peer
returns-clause-peer c =
    let x = c.self.inside in
    let n = c.args.spot.now.context in
    let e = subst (λ (d : Device). IsEntryAt d n c.args.spot.now.place c.requires.0) (sym c.self.view_is) c.requires.1 in
    let found = found-ref c.get.result c.unwrap-entries.result (lookup (bytes_eq n) x.husks.entries) c.unwrap-entries.ensures c.get.ensures.value in
    let at = entry_here n x.husks.entries c.unwrap-entries.result.now found c.args.spot.now.place e.entry e.there in
    let small = left-here x.id x.qp_count n x.husks.entries c.unwrap-entries.result.now found c.self.invariant.left c.args.spot.now.place at.entry at.there in
    subst (λ (h : HuskEntry). h.peer < 2 ^ 24) (at.is_read c.as_slice.result.now c.as_slice.ensures (record { number = 0; peer = 0; moves = 0 })) small

pub offset_bounds-as_slice-spot : goal.offset_bounds-as_slice-spot
offset_bounds-as_slice-spot c =
    let x = c.self.inside in
    let n = c.args.spot.now.context in
    let e = subst (λ (d : Device). IsEntryAt d n c.args.spot.now.place c.requires.0) (sym c.self.view_is) c.requires.1 in
    let found = found-ref c.get.result c.unwrap-entries.result (lookup (bytes_eq n) x.husks.entries) c.unwrap-entries.ensures c.get.ensures.value in
    let at = entry_here n x.husks.entries c.unwrap-entries.result.now found c.args.spot.now.place e.entry e.there in
    let within : c.args.spot.now.place < length c.as_slice.result.now = subst (λ (l : List HuskEntry). c.args.spot.now.place < length l) (sym c.as_slice.ensures) at.within in
    omega arith
