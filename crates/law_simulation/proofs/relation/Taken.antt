-- The bytes of a request are taken alike on both sides, and whole.
use Rattle.std.proofs.Common.{arith, ◌≡◌, ◌≤◌, ◌<◌, ◌+◌, ◌-◌, ℕ, List, [], ◌∷◌, length, true, false, Bool, refl, sym, ap, ◌∙◌}
use Rattle.std.specs.Prelude.{is_some, not, ◌&&◌, ◌||◌, ◌==◌, if◌then◌else◌, All, take, drop}
use Rattle.std.specs.List.{count_by}
use Rattle.std.proofs.lemmas.Bool.Decides.{nat_tests, leb_tells, eqb_tells}
use Rattle.std.proofs.lemmas.List.{length-take, length-drop}
use Rattle.std.proofs.lemmas.List.Elements.{All-nil, All-head, All-tail, All-take, All-drop}
use Rattle.rdma_types.specs.declared.names.Name.{Name}
use Rattle.rdma_types.specs.declared.requests.Kind.{Kind}
use Rattle.rdma_types.specs.declared.requests.Kind.TheVariants as kinds
use Rattle.rdma_types.specs.declared.requests.Request.{Request}
use Rattle.rdma_types.specs.Kinds.{takes_bytes, lands}
use Rattle.rdma_types.specs.Lists.{at, first_that}
use Rattle.rdma_types.specs.Memory.{Right, cut, grants, granted, holds, is_granted, local_key}
use Rattle.rdma_types.specs.Objects.{IsWhole, Region, no_region}
use Rattle.protocol.specs.Memory.{region_of_key, loaded}
use Rattle.protocol.specs.State as state
use Rattle.protocol.specs.DeviceStep.{taken_bytes}
use Rattle.packetless_machine.specs.Machine.{bytes_at, is_at}
use Rattle.law_simulation.proofs.relation.Tables.{count_by-cons, once_later}

cut_none : (place : ℕ) (bytes : List ℕ) → cut place 0 bytes ≡ []
unfolding cut
cut_none place bytes = refl

bytes_none : (key place : ℕ) (regions : List Region) → bytes_at local_key key place 0 regions ≡ []
unfolding bytes_at
bytes_none key place [] = refl
bytes_none key place (r ∷ rs) = none_if (is_at local_key key place 0 r) (bytes_none key place rs)
  where
    none_if : (b : Bool) → bytes_at local_key key place 0 rs ≡ [] → (if b then cut (place - r.base) 0 r.bytes else bytes_at local_key key place 0 rs) ≡ []
    none_if true h = cut_none (place - r.base) r.bytes
    none_if false h = h

granting_counted : (domain : Name) (key place count : ℕ) (right : Right) (regions : List Region) → is_some (first_that (grants local_key domain key place count right) regions) ≡ true → 1 ≤ count_by (λ r. r.keys.local == key) regions
unfolding first_that grants
granting_counted domain key place count right [] h = absurd (cc)
granting_counted domain key place count right (r ∷ rs) h = grind (arith, nat_tests, count_by-cons (λ z. z.keys.local == key) r rs, granting_counted domain key place count right rs)

-- the bytes of a granted place are those of the region with its key
bytes_found : (domain : Name) (key place count : ℕ) (right : Right) (regions : List Region) → ((k : ℕ) → count_by (λ r. r.keys.local == k) regions ≤ 1) → is_some (first_that (grants local_key domain key place count right) regions) ≡ true →
    bytes_at local_key key place count regions ≡ cut (place - (at local_key no_region key regions).base) count (at local_key no_region key regions).bytes
unfolding first_that grants bytes_at at
bytes_found domain key place count right [] once h = absurd (cc)
bytes_found domain key place count right (r ∷ rs) once h =
    let later : (k : ℕ) → count_by (λ z. z.keys.local == k) rs ≤ 1 = λ k. once_later (λ z. z.keys.local) k r rs (once k) in
    grind (arith, nat_tests, once key, count_by-cons (λ z. z.keys.local == key) r rs, granting_counted domain key place count right rs, bytes_found domain key place count right rs later)

takes_not : (k : Kind) → takes_bytes k ≡ not (lands k)
takes_not kinds.Write = refl
takes_not kinds.Send = refl
takes_not kinds.Read = refl
takes_not kinds.CompareSwap = refl
takes_not kinds.FetchAdd = refl

pub taken_same : (c : state.Context) (regions : List Region) (domain : Name) (r : Request) (right : Right) → ((k : ℕ) → count_by (λ z. z.keys.local == k) regions ≤ 1) → is_granted local_key regions domain r.lkey r.local r.shape.length right ≡ true → c.regions ≡ regions →
    taken_bytes c r ≡ (if lands r.shape.kind then [] else bytes_at local_key r.lkey r.local r.shape.length regions)
unfolding taken_bytes region_of_key is_granted granted
taken_same c regions domain r right once granting same =
    ap (λ rs. if takes_bytes r.shape.kind && not (r.shape.length == 0) then loaded (at local_key no_region r.lkey rs) r.local r.shape.length else []) same
    ∙ by_kind (takes_bytes r.shape.kind) (lands r.shape.kind) (r.shape.length == 0) refl granting (takes_not r.shape.kind)
  where
    by_kind : (t l z : Bool) → (r.shape.length == 0) ≡ z → (z || is_some (first_that (grants local_key domain r.lkey r.local r.shape.length right) regions)) ≡ true → t ≡ not l →
        (if t && not z then loaded (at local_key no_region r.lkey regions) r.local r.shape.length else []) ≡ (if l then [] else bytes_at local_key r.lkey r.local r.shape.length regions)
    by_kind true true z e g h = absurd (cc)
    by_kind false false z e g h = absurd (cc)
    by_kind false true z e g h = refl
    by_kind true false false e g h = sym (bytes_found domain r.lkey r.local r.shape.length right regions once g)
    by_kind true false true e g h =
        let none : r.shape.length ≡ 0 = grind (arith, nat_tests, eqb_tells r.shape.length 0, e) in
        sym (ap (λ n. bytes_at local_key r.lkey r.local n regions) none ∙ bytes_none r.lkey r.local regions)

-- ---- whole, and bytes

cut_length : (place count : ℕ) (bytes : List ℕ) → place + count ≤ length bytes → length (cut place count bytes) ≡ count
unfolding cut
cut_length place count bytes h = omega (arith, h, length-take count (drop place bytes), length-drop place bytes)

held_cut : (r : Region) (place count : ℕ) → IsWhole r → holds r place count ≡ true → length (cut (place - r.base) count r.bytes) ≡ count
unfolding holds
held_cut r place count whole held =
    let low : r.base ≤ place = grind (arith, nat_tests, held, leb_tells r.base place) in
    let high : place + count ≤ r.base + r.length = grind (arith, nat_tests, held, leb_tells (place + count) (r.base + r.length), leb_tells r.base place) in
    cut_length (place - r.base) count r.bytes (omega (arith, low, high, whole))

granted_bytes : (domain : Name) (key place count : ℕ) (right : Right) (regions : List Region) → ((k : ℕ) → count_by (λ r. r.keys.local == k) regions ≤ 1) → All IsWhole regions → is_some (first_that (grants local_key domain key place count right) regions) ≡ true → length (bytes_at local_key key place count regions) ≡ count
unfolding first_that grants bytes_at
granted_bytes domain key place count right [] once whole h = absurd (cc)
granted_bytes domain key place count right (r ∷ rs) once whole h =
    let later : (k : ℕ) → count_by (λ z. z.keys.local == k) rs ≤ 1 = λ k. once_later (λ z. z.keys.local) k r rs (once k) in
    let rest : All IsWhole rs = All-tail IsWhole r rs whole in
    grind (arith, nat_tests, once key, count_by-cons (λ z. z.keys.local == key) r rs, granting_counted domain key place count right rs, held_cut r place count (All-head IsWhole r rs whole), granted_bytes domain key place count right rs later rest)

pub taken_whole : (domain : Name) (key place count : ℕ) (right : Right) (regions : List Region) → ((k : ℕ) → count_by (λ r. r.keys.local == k) regions ≤ 1) → All IsWhole regions → is_granted local_key regions domain key place count right ≡ true → length (bytes_at local_key key place count regions) ≡ count
unfolding is_granted granted
taken_whole domain key place count right regions once whole h = by_count (count == 0) refl h
  where
    by_count : (b : Bool) → (count == 0) ≡ b → (b || is_some (first_that (grants local_key domain key place count right) regions)) ≡ true → length (bytes_at local_key key place count regions) ≡ count
    by_count false e g = granted_bytes domain key place count right regions once whole g
    by_count true e g =
        let none : count ≡ 0 = grind (arith, nat_tests, eqb_tells count 0, e) in
        ap length (ap (λ n. bytes_at local_key key place n regions) none ∙ bytes_none key place regions) ∙ sym none

pub taken_said : (key place count : ℕ) (regions : List Region) → All (λ r. All (λ b. b < 256) r.bytes) regions → All (λ b. b < 256) (bytes_at local_key key place count regions)
unfolding bytes_at cut
taken_said key place count [] all = All-nil _
taken_said key place count (r ∷ rs) all =
    said_if (is_at local_key key place count r) (All-take (λ b. b < 256) count (drop (place - r.base) r.bytes) (All-drop (λ b. b < 256) (place - r.base) r.bytes (All-head (λ z. All (λ b. b < 256) z.bytes) r rs all)))
    (taken_said key place count rs (All-tail (λ z. All (λ b. b < 256) z.bytes) r rs all))
  where
    said_if : (b : Bool) → All (λ x. x < 256) (take count (drop (place - r.base) r.bytes)) → All (λ x. x < 256) (bytes_at local_key key place count rs) → All (λ x. x < 256) (if b then take count (drop (place - r.base) r.bytes) else bytes_at local_key key place count rs)
    said_if true h k = h
    said_if false h k = k
