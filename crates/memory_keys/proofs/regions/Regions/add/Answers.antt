use Rattle.std.proofs.Common.{◌≡◌, ◌+◌, ◌++◌, ◌∷◌, [], arith, ap, sym, ◌∙◌, subst, refl}
use Rattle.std.specs.Prelude.{All, OnOk, nat_eq}
use Rattle.std.specs.Map.{values_of, lookup}
use Rattle.indexmap.specs.IndexMap.{insert_entry}
use Rattle.std.proofs.lemmas.List.Elements.{All-push}
use Rattle.indexmap.proofs.CallerLemmas.{insert_entry-new}
use Rattle.page_pool.specs.Pool.{free_pages}
use Rattle.memory_keys.specs.declared.RegisteredRegion.{RegisteredRegion}
use Rattle.memory_keys.specs.Regions.{AreHeld, regions_of, held_at}
use Rattle.memory_keys.proofs.Found.{found}
use Rattle.memory_keys.proofs.Spots.{holds-pages}
use Rattle.memory_keys.proofs.Made.{is-named, taken, many, short, free-to-make, memory-told, pool-told, length-regions, pages-are, held-more, regions-more, seen-more}
use Rattle.memory_keys.proofs.regions.Regions.add.Goals as goal

pub returns-then-is_some-clause-refused : goal.returns-then-is_some-clause-refused
returns-then-is_some-clause-refused c =
    let named = is-named c.args.pool.now c.args.head.name c.args.self.now c.place_of.result c.place_of.ensures in
    taken (regions_of c.args.pool.now c.args.self.now) (free_pages c.args.pool.now) c.args.head (sym named ∙ (sym c.is_some.ensures ∙ c.if-is_some.true))

pub returns-then-len-ge-MOST_REGIONS-clause-refused : goal.returns-then-len-ge-MOST_REGIONS-clause-refused
returns-then-len-ge-MOST_REGIONS-clause-refused c =
    let named = is-named c.args.pool.now c.args.head.name c.args.self.now c.place_of.result c.place_of.ensures in
    let size = length-regions c.args.pool.now c.self.inside.held.entries c.args.self.now c.self.view_is in
    many (regions_of c.args.pool.now c.args.self.now) (free_pages c.args.pool.now) c.args.head (sym named ∙ (sym c.is_some.ensures ∙ c.if-is_some.false)) (omega (arith, size, c.len.ensures.len, c.if-len-ge-MOST_REGIONS.true))

pub returns-then-free-pages-clause-refused : goal.returns-then-free-pages-clause-refused
returns-then-free-pages-clause-refused c =
    let named = is-named c.args.pool.now c.args.head.name c.args.self.now c.place_of.result c.place_of.ensures in
    let size = length-regions c.args.pool.now c.self.inside.held.entries c.args.self.now c.self.view_is in
    let pages = pages-are c.div_ceil-pages.result c.args.head.length 0 c.div_ceil-pages.ensures in
    short (regions_of c.args.pool.now c.args.self.now) (free_pages c.args.pool.now) c.args.head (sym named ∙ (sym c.is_some.ensures ∙ c.if-is_some.false)) (omega (arith, size, c.len.ensures.len, c.if-len-ge-MOST_REGIONS.false)) (omega (arith, pages, c.free.ensures.free, c.if-free-pages.true))

pub returns-in_err-reserve-clause-refused : goal.returns-in_err-reserve-clause-refused
returns-in_err-reserve-clause-refused c =
    let named = is-named c.args.pool.now c.args.head.name c.args.self.now c.place_of.result c.place_of.ensures in
    let size = length-regions c.args.pool.now c.self.inside.held.entries c.args.self.now c.self.view_is in
    let pages = pages-are c.div_ceil-pages.result c.args.head.length 0 c.div_ceil-pages.ensures in
    memory-told c.from_residual.result c.from_residual.ensures.1
    ∙ free-to-make (regions_of c.args.pool.now c.args.self.now) (free_pages c.args.pool.now) c.args.head (sym named ∙ (sym c.is_some.ensures ∙ c.if-is_some.false)) (omega (arith, size, c.len.ensures.len, c.if-len-ge-MOST_REGIONS.false)) (omega (arith, pages, c.free.ensures.free, c.if-free-pages.false))

pub returns-in_err-list-clause-refused : goal.returns-in_err-list-clause-refused
returns-in_err-list-clause-refused c =
    let named = is-named c.args.pool.now c.args.head.name c.args.self.now c.place_of.result c.place_of.ensures in
    let size = length-regions c.args.pool.now c.self.inside.held.entries c.args.self.now c.self.view_is in
    let pages = pages-are c.div_ceil-pages.result c.args.head.length 0 c.div_ceil-pages.ensures in
    pool-told c.from_residual-in_err-list.result c.in_err-list.field-0.0 _ c.div_ceil-pages.result c.from_residual-in_err-list.ensures.1 c.in_err-list.ensures.no_page (omega (arith, c.free.ensures.free, c.if-free-pages.false))
    ∙ free-to-make (regions_of c.args.pool.now c.args.self.now) (free_pages c.args.pool.now) c.args.head (sym named ∙ (sym c.is_some.ensures ∙ c.if-is_some.false)) (omega (arith, size, c.len.ensures.len, c.if-len-ge-MOST_REGIONS.false)) (omega (arith, pages, c.free.ensures.free, c.if-free-pages.false))

pub returns-clause-refused : goal.returns-clause-refused
returns-clause-refused c =
    let named = is-named c.args.pool.now c.args.head.name c.args.self.now c.place_of.result c.place_of.ensures in
    let size = length-regions c.args.pool.now c.self.inside.held.entries c.args.self.now c.self.view_is in
    let pages = pages-are c.div_ceil-pages.result c.args.head.length 0 c.div_ceil-pages.ensures in
    free-to-make (regions_of c.args.pool.now c.args.self.now) (free_pages c.args.pool.now) c.args.head (sym named ∙ (sym c.is_some.ensures ∙ c.if-is_some.false)) (omega (arith, size, c.len.ensures.len, c.if-len-ge-MOST_REGIONS.false)) (omega (arith, pages, c.free.ensures.free, c.if-free-pages.false))

pub returns-clause-free : goal.returns-clause-free
returns-clause-free c =
    let pages = pages-are c.div_ceil-pages.result c.args.head.length 0 c.div_ceil-pages.ensures in
    omega (arith, pages, c.in_ok-list.ensures.free)

pub invariant_of-self-2 : goal.invariant_of-self-2
invariant_of-self-2 c =
    let v : RegisteredRegion = record { head = c.args.head; list = c.in_ok-list.list } in
    let none = ap (λ es. lookup (nat_eq c.args.head.keys.local) es) c.reserve.ensures.entries ∙ (found c.args.head.keys.local c.self.inside.held.entries c.self.invariant.local ∙ (ap (held_at c.args.head.keys.local) c.self.view_is ∙ c.requires.new)) in
    let stored : c.insert.new.self.entries ≡ insert_entry nat_eq c.reserve.new.self.entries c.args.head.keys.local v = subst (λ r. OnOk r (c.insert.new.self.entries ≡ insert_entry nat_eq c.reserve.new.self.entries c.args.head.keys.local v)) c.unwrap.ensures c.insert.ensures.entries in
    let entries : c.insert.new.self.entries ≡ c.self.inside.held.entries ++ (c.args.head.keys.local, v) ∷ [] = stored ∙ (insert_entry-new nat_eq c.reserve.new.self c.args.head.keys.local v none ∙ ap (λ es. es ++ (c.args.head.keys.local, v) ∷ []) c.reserve.ensures.entries) in
    record {
      local = subst (All (λ e. e.0 ≡ e.1.head.keys.local)) (sym entries) (All-push (λ e. e.0 ≡ e.1.head.keys.local) c.self.inside.held.entries (c.args.head.keys.local, v) c.self.invariant.local refl);
      remote = subst (All (λ e. e.1.head.keys.remote ≡ e.1.head.keys.local + 1)) (sym entries) (All-push (λ e. e.1.head.keys.remote ≡ e.1.head.keys.local + 1) c.self.inside.held.entries (c.args.head.keys.local, v) c.self.invariant.remote c.requires.pair);
      distinct = c.insert.ensures.unique;
    }

pub returns-clause-held : goal.returns-clause-held
returns-clause-held c =
    let v : RegisteredRegion = record { head = c.args.head; list = c.in_ok-list.list } in
    let none = ap (λ es. lookup (nat_eq c.args.head.keys.local) es) c.reserve.ensures.entries ∙ (found c.args.head.keys.local c.self.inside.held.entries c.self.invariant.local ∙ (ap (held_at c.args.head.keys.local) c.self.view_is ∙ c.requires.new)) in
    let stored : c.insert.new.self.entries ≡ insert_entry nat_eq c.reserve.new.self.entries c.args.head.keys.local v = subst (λ r. OnOk r (c.insert.new.self.entries ≡ insert_entry nat_eq c.reserve.new.self.entries c.args.head.keys.local v)) c.unwrap.ensures c.insert.ensures.entries in
    let entries : c.insert.new.self.entries ≡ c.self.inside.held.entries ++ (c.args.head.keys.local, v) ∷ [] = stored ∙ (insert_entry-new nat_eq c.reserve.new.self c.args.head.keys.local v none ∙ ap (λ es. es ++ (c.args.head.keys.local, v) ∷ []) c.reserve.ensures.entries) in
    let seen = ap values_of entries ∙ (seen-more c.self.inside.held.entries (c.args.head.keys.local, v) ∙ ap (λ hs. hs ++ v ∷ []) c.self.view_is) in
    let pages = pages-are c.div_ceil-pages.result c.args.head.length 0 c.div_ceil-pages.ensures in
    subst (AreHeld c.take_with.new.self) (sym seen) (held-more c.args.pool.now c.take_with.new.self c.args.self.now v c.div_ceil-pages.result c.args.bytes.now c.requires.held c.in_ok-list.ensures.new c.in_ok-list.ensures.puts pages c.requires.inside)

pub returns-clause-regions : goal.returns-clause-regions
returns-clause-regions c =
    let v : RegisteredRegion = record { head = c.args.head; list = c.in_ok-list.list } in
    let none = ap (λ es. lookup (nat_eq c.args.head.keys.local) es) c.reserve.ensures.entries ∙ (found c.args.head.keys.local c.self.inside.held.entries c.self.invariant.local ∙ (ap (held_at c.args.head.keys.local) c.self.view_is ∙ c.requires.new)) in
    let stored : c.insert.new.self.entries ≡ insert_entry nat_eq c.reserve.new.self.entries c.args.head.keys.local v = subst (λ r. OnOk r (c.insert.new.self.entries ≡ insert_entry nat_eq c.reserve.new.self.entries c.args.head.keys.local v)) c.unwrap.ensures c.insert.ensures.entries in
    let entries : c.insert.new.self.entries ≡ c.self.inside.held.entries ++ (c.args.head.keys.local, v) ∷ [] = stored ∙ (insert_entry-new nat_eq c.reserve.new.self c.args.head.keys.local v none ∙ ap (λ es. es ++ (c.args.head.keys.local, v) ∷ []) c.reserve.ensures.entries) in
    let seen = ap values_of entries ∙ (seen-more c.self.inside.held.entries (c.args.head.keys.local, v) ∙ ap (λ hs. hs ++ v ∷ []) c.self.view_is) in
    let pages = pages-are c.div_ceil-pages.result c.args.head.length 0 c.div_ceil-pages.ensures in
    ap (regions_of c.take_with.new.self) seen ∙ regions-more c.args.pool.now c.take_with.new.self c.args.self.now v c.div_ceil-pages.result c.args.bytes.now c.requires.held c.in_ok-list.ensures.new c.in_ok-list.ensures.puts pages c.requires.inside

pub returns-clause-added : goal.returns-clause-added
returns-clause-added c =
    let v : RegisteredRegion = record { head = c.args.head; list = c.in_ok-list.list } in
    let none = ap (λ es. lookup (nat_eq c.args.head.keys.local) es) c.reserve.ensures.entries ∙ (found c.args.head.keys.local c.self.inside.held.entries c.self.invariant.local ∙ (ap (held_at c.args.head.keys.local) c.self.view_is ∙ c.requires.new)) in
    let stored : c.insert.new.self.entries ≡ insert_entry nat_eq c.reserve.new.self.entries c.args.head.keys.local v = subst (λ r. OnOk r (c.insert.new.self.entries ≡ insert_entry nat_eq c.reserve.new.self.entries c.args.head.keys.local v)) c.unwrap.ensures c.insert.ensures.entries in
    let entries : c.insert.new.self.entries ≡ c.self.inside.held.entries ++ (c.args.head.keys.local, v) ∷ [] = stored ∙ (insert_entry-new nat_eq c.reserve.new.self c.args.head.keys.local v none ∙ ap (λ es. es ++ (c.args.head.keys.local, v) ∷ []) c.reserve.ensures.entries) in
    let seen = ap values_of entries ∙ (seen-more c.self.inside.held.entries (c.args.head.keys.local, v) ∙ ap (λ hs. hs ++ v ∷ []) c.self.view_is) in
    record { held = v; head_is = refl; fresh = c.in_ok-list.ensures.new; behind = seen }

pub take_with-requires : goal.take_with-requires
take_with-requires c =
    let pages = pages-are c.div_ceil-pages.result c.args.head.length 0 c.div_ceil-pages.ensures in
    omega (arith, pages, c.requires.inside, holds-pages c.args.head.length)
