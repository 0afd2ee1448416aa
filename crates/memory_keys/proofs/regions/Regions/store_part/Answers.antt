use Rattle.std.proofs.Common.{◌≡◌, ◌+◌, length, arith, ap, sym, ◌∙◌, subst}
use Rattle.std.specs.Prelude.{Some}
use Rattle.std.specs.Option.{option_copied_mut}
use Rattle.std.specs.Map.{values_of}
use Rattle.std.proofs.lemmas.Bool.Decides.{nat_tests}
use Rattle.rdma_types.specs.Memory.{put}
use Rattle.page_pool.specs.Pool.{Puts, bytes_in}
use Rattle.memory_keys.specs.declared.RegisteredRegion.{RegisteredRegion}
use Rattle.memory_keys.specs.Keyed.{IsKeyed}
use Rattle.memory_keys.specs.Regions.{AreHeld, part_of, regions_of}
use Rattle.memory_keys.proofs.Found.{keyed}
use Rattle.memory_keys.proofs.Places.{found_at, place_some}
use Rattle.memory_keys.proofs.Spots.{part-is, some-bytes, spot-in, holds-pages}
use Rattle.memory_keys.proofs.Stores.{set-same, stored-nothing, regions-stored, lie-stored, others-kept}
use Rattle.memory_keys.proofs.regions.Regions.store_part.Goals as goal

pub returns-then-is_empty-clause-regions : goal.returns-then-is_empty-clause-regions
returns-then-is_empty-clause-regions c = sym (stored-nothing (part_of c.args.spot c.args.from (length c.args.bytes.now)) c.args.bytes.now (regions_of c.args.pool.now c.args.self.now) (grind (arith, nat_tests, c.is_empty.ensures, c.if-is_empty.true)))

pub unwrap-place-requires : goal.unwrap-place-requires
unwrap-place-requires c =
    let some = some-bytes (length c.args.bytes.now) (sym c.is_empty.ensures ∙ c.if-is_empty.false) in
    place_some c.args.spot.region c.args.self.now c.place_again.result _ c.place_again.ensures.place (c.requires.spot (omega (arith, some, c.requires.inside)))

pub write-requires-clause-held : goal.write-requires-clause-held
write-requires-clause-held c =
    let some = some-bytes (length c.args.bytes.now) (sym c.is_empty.ensures ∙ c.if-is_empty.false) in
    let h = c.unwrap-held.result.now in
    let at = sym c.get_index_mut.ensures.value ∙ ap option_copied_mut c.unwrap-held.ensures in
    let f = found_at c.args.spot.region c.unwrap-place.result (values_of c.self.inside.held.entries) c.args.self.now h (c.self.view_is ∙ c.place_again.ensures.same) (sym c.place_again.ensures.place ∙ c.unwrap-place.ensures) at in
    let part = part_of c.args.spot c.args.from (length c.args.bytes.now) in
    (spot-in c.args.pool.now c.args.self.now part h c.requires.held (part-is c.args.self.now c.args.spot c.args.from (length c.args.bytes.now) c.requires.spot c.requires.inside) some f).0.lives

pub write-requires-clause-inside : goal.write-requires-clause-inside
write-requires-clause-inside c =
    let some = some-bytes (length c.args.bytes.now) (sym c.is_empty.ensures ∙ c.if-is_empty.false) in
    let h = c.unwrap-held.result.now in
    let at = sym c.get_index_mut.ensures.value ∙ ap option_copied_mut c.unwrap-held.ensures in
    let f = found_at c.args.spot.region c.unwrap-place.result (values_of c.self.inside.held.entries) c.args.self.now h (c.self.view_is ∙ c.place_again.ensures.same) (sym c.place_again.ensures.place ∙ c.unwrap-place.ensures) at in
    let part = part_of c.args.spot c.args.from (length c.args.bytes.now) in
    let s = spot-in c.args.pool.now c.args.self.now part h c.requires.held (part-is c.args.self.now c.args.spot c.args.from (length c.args.bytes.now) c.requires.spot c.requires.inside) some f in
    omega (arith, s.0.size, s.1, c.from.ensures, c.from-2.ensures, holds-pages h.head.length)

pub invariant_of-self : goal.invariant_of-self
invariant_of-self c =
    let h = c.unwrap-held.result.now in
    let at = sym c.get_index_mut.ensures.value ∙ ap option_copied_mut c.unwrap-held.ensures in
    let w : RegisteredRegion = record { head = h.head; list = c.write.new.list } in
    let is : h ≡ w = ap (λ l. record { head = h.head; list = l }) (sym c.write.ensures.list) in
    let same = set-same c.self.inside.held.entries c.unwrap-place.result w (at ∙ ap Some is) in
    subst IsKeyed (sym same) c.self.invariant

pub returns-clause-same : goal.returns-clause-same
returns-clause-same c =
    let h = c.unwrap-held.result.now in
    let at = sym c.get_index_mut.ensures.value ∙ ap option_copied_mut c.unwrap-held.ensures in
    let w : RegisteredRegion = record { head = h.head; list = c.write.new.list } in
    let is : h ≡ w = ap (λ l. record { head = h.head; list = l }) (sym c.write.ensures.list) in
    let same = set-same c.self.inside.held.entries c.unwrap-place.result w (at ∙ ap Some is) in
    ap values_of same ∙ (c.self.view_is ∙ c.place_again.ensures.same)

pub returns-clause-held : goal.returns-clause-held
returns-clause-held c =
    let some = some-bytes (length c.args.bytes.now) (sym c.is_empty.ensures ∙ c.if-is_empty.false) in
    let h = c.unwrap-held.result.now in
    let at = sym c.get_index_mut.ensures.value ∙ ap option_copied_mut c.unwrap-held.ensures in
    let f = found_at c.args.spot.region c.unwrap-place.result (values_of c.self.inside.held.entries) c.args.self.now h (c.self.view_is ∙ c.place_again.ensures.same) (sym c.place_again.ensures.place ∙ c.unwrap-place.ensures) at in
    let part = part_of c.args.spot c.args.from (length c.args.bytes.now) in
    let s = spot-in c.args.pool.now c.args.self.now part h c.requires.held (part-is c.args.self.now c.args.spot c.args.from (length c.args.bytes.now) c.requires.spot c.requires.inside) some f in
    let place : c.from.result + c.from-2.result ≡ part.off = omega (arith, c.from.ensures, c.from-2.ensures) in
    let puts = subst (λ n. Puts c.args.pool.now c.write.new.self h.list (Some (put (bytes_in c.args.pool.now h.list) n c.args.bytes.now))) place c.write.ensures.puts in
    subst (AreHeld c.write.new.self) (sym (returns-clause-same c)) (record {
      lie = lie-stored c.args.pool.now c.write.new.self part c.args.bytes.now h c.args.self.now c.requires.held.apart c.requires.held.lie f s.1 puts;
      apart = c.requires.held.apart;
    })

pub returns-clause-regions : goal.returns-clause-regions
returns-clause-regions c =
    let some = some-bytes (length c.args.bytes.now) (sym c.is_empty.ensures ∙ c.if-is_empty.false) in
    let h = c.unwrap-held.result.now in
    let at = sym c.get_index_mut.ensures.value ∙ ap option_copied_mut c.unwrap-held.ensures in
    let f = found_at c.args.spot.region c.unwrap-place.result (values_of c.self.inside.held.entries) c.args.self.now h (c.self.view_is ∙ c.place_again.ensures.same) (sym c.place_again.ensures.place ∙ c.unwrap-place.ensures) at in
    let part = part_of c.args.spot c.args.from (length c.args.bytes.now) in
    let s = spot-in c.args.pool.now c.args.self.now part h c.requires.held (part-is c.args.self.now c.args.spot c.args.from (length c.args.bytes.now) c.requires.spot c.requires.inside) some f in
    let keys = (keyed c.self.inside.held.entries c.args.self.now c.self.invariant (c.self.view_is ∙ c.place_again.ensures.same)).distinct in
    let place : c.from.result + c.from-2.result ≡ part.off = omega (arith, c.from.ensures, c.from-2.ensures) in
    let puts = subst (λ n. Puts c.args.pool.now c.write.new.self h.list (Some (put (bytes_in c.args.pool.now h.list) n c.args.bytes.now))) place c.write.ensures.puts in
    ap (regions_of c.write.new.self) (returns-clause-same c)
    ∙ regions-stored c.args.pool.now c.write.new.self part c.args.bytes.now h c.args.self.now keys c.requires.held.apart c.requires.held.lie f s.1 puts

pub returns-clause-others : goal.returns-clause-others
returns-clause-others c =
    let h = c.unwrap-held.result.now in
    let at = sym c.get_index_mut.ensures.value ∙ ap option_copied_mut c.unwrap-held.ensures in
    let f = found_at c.args.spot.region c.unwrap-place.result (values_of c.self.inside.held.entries) c.args.self.now h (c.self.view_is ∙ c.place_again.ensures.same) (sym c.place_again.ensures.place ∙ c.unwrap-place.ensures) at in
    others-kept c.args.pool.now c.write.new.self c.args.spot.region _ h c.args.self.now f c.write.ensures.puts
