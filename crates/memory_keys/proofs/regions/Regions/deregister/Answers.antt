use Rattle.std.proofs.Common.{◌≡◌, ◌+◌, ℕ, ap, sym, ◌∙◌, subst}
use Rattle.std.specs.Prelude.{Some, None, slice_get, remove, All, option_map}
use Rattle.std.specs.Map.{values_of}
use Rattle.page_pool.specs.Pool.{free_pages, pages_for}
use Rattle.memory_keys.specs.declared.RegisteredRegion.{RegisteredRegion}
use Rattle.std.specs.Map.Iter.{deref_pair}
use Rattle.memory_keys.specs.Regions.{AreHeld, Lies, regions_of}
use Rattle.memory_keys.proofs.Spots.{lies-pages}
use Rattle.memory_keys.proofs.Made.{is-named}
use Rattle.memory_keys.proofs.Dropped.{not-there, in-use, free-to-drop, all-at, all-removed, seen-at, seen-removed, is-first, asked-key, held-without, regions-without, others-without}
use Rattle.memory_keys.proofs.regions.Regions.deregister.Goals as goal

pub returns-in_default-clause-refused : goal.returns-in_default-clause-refused
returns-in_default-clause-refused c = not-there (regions_of c.args.pool.now c.args.self.now) c.args.name c.args.busy.now (sym (is-named c.args.pool.now c.args.name c.args.self.now None c.in_default.ensures))

pub returns-then-contains-clause-refused : goal.returns-then-contains-clause-refused
returns-then-contains-clause-refused c =
    let e : ℕ × RegisteredRegion = (c.unwrap.result.0.now, c.unwrap.result.1.now) in
    let at : slice_get c.self.inside.held.entries c.in-Some.place ≡ Some e = sym c.get_index.ensures.entry ∙ ap (option_map deref_pair) c.unwrap.ensures in
    let key = asked-key c.args.pool.now c.args.name c.self.inside.held.entries c.args.self.now c.in-Some.place e c.args.busy.now c.contains.result c.self.view_is c.self.invariant.local c.in-Some.ensures at c.contains.ensures.value in
    in-use (regions_of c.args.pool.now c.args.self.now) c.args.name c.args.busy.now key.0 (key.1 ∙ c.if-contains.true)

pub give-requires : goal.give-requires
give-requires c =
    let h = c.unwrap-held.result.1 in
    let at = sym c.shift_remove_index.ensures.entry ∙ c.unwrap-held.ensures in
    let seen = ap (λ hs. slice_get hs c.in-Some.place) (sym c.self.view_is) ∙ seen-at c.self.inside.held.entries c.in-Some.place c.unwrap-held.result at in
    (all-at (Lies c.args.pool.now) c.args.self.now c.in-Some.place h c.requires.lie seen).lives

pub invariant_of-self : goal.invariant_of-self
invariant_of-self c = record {
  local = subst (All (λ e. e.0 ≡ e.1.head.keys.local)) (sym c.shift_remove_index.ensures.entries) (all-removed (λ e. e.0 ≡ e.1.head.keys.local) c.self.inside.held.entries c.in-Some.place c.self.invariant.local);
  remote = subst (All (λ e. e.1.head.keys.remote ≡ e.1.head.keys.local + 1)) (sym c.shift_remove_index.ensures.entries) (all-removed (λ e. e.1.head.keys.remote ≡ e.1.head.keys.local + 1) c.self.inside.held.entries c.in-Some.place c.self.invariant.remote);
  distinct = c.shift_remove_index.ensures.unique;
}

pub returns-clause-held : goal.returns-clause-held
returns-clause-held c =
    let h = c.unwrap-held.result.1 in
    let at = sym c.shift_remove_index.ensures.entry ∙ c.unwrap-held.ensures in
    let seen = ap (λ hs. slice_get hs c.in-Some.place) (sym c.self.view_is) ∙ seen-at c.self.inside.held.entries c.in-Some.place c.unwrap-held.result at in
    let others = ap values_of c.shift_remove_index.ensures.entries ∙ (seen-removed c.self.inside.held.entries c.in-Some.place ∙ ap (λ hs. remove hs c.in-Some.place) c.self.view_is) in
    subst (AreHeld c.give.new.self) (sym others) (held-without c.args.pool.now c.give.new.self c.args.self.now c.in-Some.place h c.requires seen c.give.ensures.puts)

pub returns-clause-regions : goal.returns-clause-regions
returns-clause-regions c =
    let h = c.unwrap-held.result.1 in
    let at = sym c.shift_remove_index.ensures.entry ∙ c.unwrap-held.ensures in
    let seen = ap (λ hs. slice_get hs c.in-Some.place) (sym c.self.view_is) ∙ seen-at c.self.inside.held.entries c.in-Some.place c.unwrap-held.result at in
    let first = is-first c.args.pool.now c.args.name c.args.self.now c.in-Some.place h c.in-Some.ensures seen in
    let others = ap values_of c.shift_remove_index.ensures.entries ∙ (seen-removed c.self.inside.held.entries c.in-Some.place ∙ ap (λ hs. remove hs c.in-Some.place) c.self.view_is) in
    ap (regions_of c.give.new.self) others ∙ (regions-without c.args.pool.now c.give.new.self c.args.self.now c.in-Some.place h c.requires seen c.give.ensures.puts ∙ sym first.rest)

pub returns-clause-others : goal.returns-clause-others
returns-clause-others c =
    let h = c.unwrap-held.result.1 in
    let at = sym c.shift_remove_index.ensures.entry ∙ c.unwrap-held.ensures in
    let seen = ap (λ hs. slice_get hs c.in-Some.place) (sym c.self.view_is) ∙ seen-at c.self.inside.held.entries c.in-Some.place c.unwrap-held.result at in
    others-without c.args.pool.now c.give.new.self c.args.self.now c.in-Some.place h seen c.give.ensures.puts

pub returns-clause-free : goal.returns-clause-free
returns-clause-free c =
    let h = c.unwrap-held.result.1 in
    let at = sym c.shift_remove_index.ensures.entry ∙ c.unwrap-held.ensures in
    let seen = ap (λ hs. slice_get hs c.in-Some.place) (sym c.self.view_is) ∙ seen-at c.self.inside.held.entries c.in-Some.place c.unwrap-held.result at in
    let first = is-first c.args.pool.now c.args.name c.args.self.now c.in-Some.place h c.in-Some.ensures seen in
    let pages = lies-pages c.args.pool.now h (all-at (Lies c.args.pool.now) c.args.self.now c.in-Some.place h c.requires.lie seen) in
    c.give.ensures.free ∙ ap (λ n. free_pages c.args.pool.now + n) (pages ∙ ap (λ r. pages_for r.length) (sym first.first))

pub returns-clause-refused : goal.returns-clause-refused
returns-clause-refused c =
    let e : ℕ × RegisteredRegion = (c.unwrap.result.0.now, c.unwrap.result.1.now) in
    let at : slice_get c.self.inside.held.entries c.in-Some.place ≡ Some e = sym c.get_index.ensures.entry ∙ ap (option_map deref_pair) c.unwrap.ensures in
    let key = asked-key c.args.pool.now c.args.name c.self.inside.held.entries c.args.self.now c.in-Some.place e c.args.busy.now c.contains.result c.self.view_is c.self.invariant.local c.in-Some.ensures at c.contains.ensures.value in
    free-to-drop (regions_of c.args.pool.now c.args.self.now) c.args.name c.args.busy.now key.0 (key.1 ∙ c.if-contains.false)

pub returns-clause-removed : goal.returns-clause-removed
returns-clause-removed c =
    let h = c.unwrap-held.result.1 in
    let at = sym c.shift_remove_index.ensures.entry ∙ c.unwrap-held.ensures in
    let seen = ap (λ hs. slice_get hs c.in-Some.place) (sym c.self.view_is) ∙ seen-at c.self.inside.held.entries c.in-Some.place c.unwrap-held.result at in
    let others = ap values_of c.shift_remove_index.ensures.entries ∙ (seen-removed c.self.inside.held.entries c.in-Some.place ∙ ap (λ hs. remove hs c.in-Some.place) c.self.view_is) in
    record {
      place = c.in-Some.place;
      held = h;
      there = seen;
      rest = others;
      region = λ pool. (is-first pool c.args.name c.args.self.now c.in-Some.place h c.in-Some.ensures seen).first;
    }
