-- The test of events is the proposition.
use Rattle.std.proofs.Common.{arith, ◌≡◌, ◌<◌, ◌≤◌, ◌==◌, ◌^◌, ℕ, Bool, true, false, Option, Some, None, [], ◌∷◌, suc, refl, sym, ◌∙◌}
use Rattle.std.specs.Prelude.{◌&&◌, ◌||◌, All, IfSome, List, slice_index, nat_le, nat_lt, not}
use Rattle.std.specs.Bool.{Decides}
use Rattle.std.specs.List.{list_all}
use Rattle.std.proofs.lemmas.Bool.Decides.{Decides-and, Decides-by_and, Decides-like, Decides-ltb, eqb_tells, leb_tells, nat_tests}
use Rattle.rdma_types.specs.declared.requests.Request.{Request}
use Rattle.rdma_types.specs.Kinds.{is_atomic}
use Rattle.rdma_types.specs.Limits.{most_capacity, most_depth, most_region_bytes}
use Rattle.rdma_types.specs.Shapes.{is_swap}
use Rattle.protocol.specs.declared.events.Event.{Event}
use Rattle.protocol.specs.declared.events.Event.TheVariants as event
use Rattle.law_simulation.specs.Law.{AreDepths, IsRequestInRange}
use Rattle.order_rules.specs.Bridge.{IsAskable}
use Rattle.law_orders.specs.Asked.{are_bytes, has_fields_of_kind, is_askable, is_depth, is_immediate, is_request_in_range}

le_true : (a b : ℕ) → nat_le a b ≡ true → a ≤ b
le_true a b h = grind (arith, nat_tests, leb_tells a b)

true_le : (a b : ℕ) → a ≤ b → nat_le a b ≡ true
true_le a b h = grind (arith, nat_tests, leb_tells a b)

at_most : (a b : ℕ) → Decides (nat_le a b) (a ≤ b)
at_most a b = (le_true a b, true_le a b)

eq_true : (a b : ℕ) → (a == b) ≡ true → a ≡ b
eq_true a b h = grind (arith, nat_tests, eqb_tells a b)

true_eq : (a b : ℕ) → a ≡ b → (a == b) ≡ true
true_eq a b h = grind (arith, nat_tests, eqb_tells a b)

-- ---- requests

immediate : (o : Option ℕ) → Decides (is_immediate o) (IfSome o (λ n. n < 2 ^ 32))
immediate None = ((λ h. tt), (λ h. refl))
immediate (Some n) = Decides-ltb n (2 ^ 32)

unless_so : (b : Bool) (n k : ℕ) → Decides (b || n == k) (b ≡ false → n ≡ k)
unless_so true n k = ((λ h e. cc), (λ h. refl))
unless_so false n k = ((λ h e. eq_true n k h), (λ h. true_eq n k (h refl)))

where_so : (b : Bool) (n k : ℕ) → Decides (not b || n == k) (b ≡ true → n ≡ k)
where_so true n k = ((λ h e. eq_true n k h), (λ h. true_eq n k (h refl)))
where_so false n k = ((λ h e. cc), (λ h. refl))

-- the parts of a request in their ranges
abbrev AreParts : Request → Type 0
AreParts r =
    (r.shape.remote < 2 ^ 64)
    × ((r.shape.rkey < 2 ^ 32)
    × ((r.shape.swap_add < 2 ^ 64)
    × ((r.shape.compare < 2 ^ 64)
    × (IfSome r.shape.imm (λ n. n < 2 ^ 32)
    × ((is_swap r.shape.kind ≡ false → r.shape.compare ≡ 0)
    × (is_atomic r.shape.kind ≡ true → r.shape.length ≡ 8))))))

parts : (r : Request) → Decides (is_request_in_range r) (AreParts r)
parts r =
    Decides-and _ _ (Decides-ltb r.shape.remote (2 ^ 64))
    (Decides-and _ _ (Decides-ltb r.shape.rkey (2 ^ 32))
    (Decides-and _ _ (Decides-ltb r.shape.swap_add (2 ^ 64))
    (Decides-and _ _ (Decides-ltb r.shape.compare (2 ^ 64))
    (Decides-and _ _ (immediate r.shape.imm)
    (Decides-and _ _ (unless_so (is_swap r.shape.kind) r.shape.compare 0) (where_so (is_atomic r.shape.kind) r.shape.length 8))))))

request : (r : Request) → Decides (is_request_in_range r) (IsRequestInRange r)
request r = Decides-like (is_request_in_range r)
    (λ p. record { remote = p.0; rkey = p.1.0; swap_add = p.1.1.0; compare = p.1.1.1.0; no_compare = p.1.1.1.1.1.0; imm = p.1.1.1.1.0; word = p.1.1.1.1.1.1 })
    (λ i. (i.remote, (i.rkey, (i.swap_add, (i.compare, (i.imm, (i.no_compare, i.word)))))))
    (parts r)

-- ---- depths, and bytes

depth : (n : ℕ) → Decides (is_depth n) ((1 ≤ n) × (n ≤ most_depth))
depth n = Decides-and _ _ (at_most 1 n) (at_most n most_depth)

depths : (send receive : ℕ) → Decides (is_depth send && is_depth receive) (AreDepths send receive)
depths send receive = Decides-like _ (λ p. (p.0.0, p.0.1, p.1.0, p.1.1)) (λ d. ((d.0, d.1), (d.2, d.3))) (Decides-and _ _ (depth send) (depth receive))

bytes_fit : (bytes : List ℕ) → Decides (list_all (λ b. nat_lt b 256) bytes) (All (λ b. b < 256) bytes)
bytes_fit bytes = Decides-by_and (λ b. nat_lt b 256) (λ b. b < 256) (list_all (λ b. nat_lt b 256)) (λ b. Decides-ltb b 256) refl (λ x xs. refl) bytes

-- ---- events

always : Decides true (Unit {0})
always = ((λ h. tt), (λ h. refl))

never : Decides false ⊥
never = ((λ h. absurd (cc)), (λ h. absurd h))

pub askable : (e : Event) → Decides (is_askable e) (IsAskable e)
askable (event.MakeContext name) = always
askable (event.MakeDomain o) = always
askable (event.MakeRegion o domain base count rights) =
    Decides-like _ (λ p. (p.0, p.1.0, p.1.1.0, p.1.1.1)) (λ r. (r.0, (r.1, (r.2, r.3))))
    (Decides-and _ _ (at_most 1 count) (Decides-and _ _ (at_most count most_region_bytes) (Decides-and _ _ (at_most base (2 ^ 63)) (Decides-ltb rights.0 16))))
askable (event.MakeCq o capacity) = Decides-and _ _ (at_most 1 capacity) (at_most capacity most_capacity)
askable (event.MakeQp o domain send_cq recv_cq send_depth recv_depth) = depths send_depth recv_depth
askable (event.Connect o peer partner terms) = never
askable (event.DropRegion o) = always
askable (event.Store o at bytes) = bytes_fit bytes
askable (event.Load o at count) = always
askable (event.PostSend o r) = request r
askable (event.PostRecv o r) = always
askable (event.Poll o most) = always
askable (event.Transmit o) = always
askable (event.Arrive from bytes) = always
askable (event.Expire o) = always
askable (event.RnrOver o) = always
askable (event.Stop name alone) = always
askable (event.Restore image) = always
askable (event.Release name) = always

-- ---- what the types of a request and of bytes say

bytes_all : (bytes : List ℕ) → ((k : ℕ) → slice_index bytes k < 256) → are_bytes bytes ≡ true
bytes_all [] small = refl
bytes_all (b ∷ bytes) small = and_both (nat_lt b 256) (are_bytes bytes) ((Decides-ltb b 256).1 (small 0)) (bytes_all bytes (λ k. small (suc k)))
  where
    and_both : (a b : Bool) → a ≡ true → b ≡ true → (a && b) ≡ true
    and_both true b h k = k
    and_both false b h k = absurd (cc)

pub bytes_typed : (bytes : List ℕ) (b : Bool) → ((k : ℕ) → slice_index bytes k < 256) → b ≡ true → b ≡ are_bytes bytes
bytes_typed bytes b small is = is ∙ sym (bytes_all bytes small)

first_five : (a b c d e f : Bool) → a ≡ true → b ≡ true → c ≡ true → d ≡ true → e ≡ true → f ≡ (a && (b && (c && (d && (e && f)))))
first_five true true true true true f p q r s t = refl
first_five false b c d e f p q r s t = absurd (cc)
first_five true false c d e f p q r s t = absurd (cc)
first_five true true false d e f p q r s t = absurd (cc)
first_five true true true false e f p q r s t = absurd (cc)
first_five true true true true false f p q r s t = absurd (cc)

pub request_typed : (r : Request) (b : Bool) → r.shape.remote < 2 ^ 64 → r.shape.rkey < 2 ^ 32 → r.shape.swap_add < 2 ^ 64 → r.shape.compare < 2 ^ 64 → IfSome r.shape.imm (λ n. n < 2 ^ 32) → b ≡ has_fields_of_kind r.shape → b ≡ is_request_in_range r
request_typed r b remote rkey swap_add compare imm is =
    is
    ∙ first_five (nat_lt r.shape.remote (2 ^ 64)) (nat_lt r.shape.rkey (2 ^ 32)) (nat_lt r.shape.swap_add (2 ^ 64)) (nat_lt r.shape.compare (2 ^ 64)) (is_immediate r.shape.imm) (has_fields_of_kind r.shape)
    ((Decides-ltb r.shape.remote (2 ^ 64)).1 remote) ((Decides-ltb r.shape.rkey (2 ^ 32)).1 rkey) ((Decides-ltb r.shape.swap_add (2 ^ 64)).1 swap_add) ((Decides-ltb r.shape.compare (2 ^ 64)).1 compare) ((immediate r.shape.imm).1 imm)
