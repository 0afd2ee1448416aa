-- What the opcodes of requests tell of a packet.
use Rattle.std.proofs.Common.{◌≡◌, ℕ, zero, suc, Bool, true, false, length, refl, ap, sym, ◌∙◌, arith, subst, ◌⊎◌, inl, inr}
use Rattle.std.specs.Prelude.{◌==◌, ◌&&◌, Option, Some, None, IsTrue, is_some}
use Rattle.std.proofs.lemmas.Bool.Decides.{nat_tests}
use Rattle.protocol.specs.declared.wire.AtomicEth.{AtomicEth}
use Rattle.protocol.specs.declared.wire.Layout.{Layout}
use Rattle.protocol.specs.declared.wire.Headers.TheVariants as headers
use Rattle.protocol.specs.declared.wire.Reth.{Reth}
use Rattle.protocol.proofs.WriteSizes.{or-false}
use Rattle.protocol.specs.Responder.{is_invalid, is_bad_read, is_bad_write, is_missized, is_out_of_place, is_part, is_read_request, is_send, is_unaligned, is_write, part_of}
use Rattle.protocol.specs.State.{Link}
use Rattle.protocol.specs.Wire.{Fits, Packet, has_atomic, has_imm, has_reth, is_request, layout_of, loaded, unloaded}

-- ---- tests

pub and-false : (a b : Bool) → a ≡ true → (a && b) ≡ false → b ≡ false
and-false true b t e = e
and-false false b t e = absurd (cc)

-- what a valid packet is
pub record IsValid (l : Link) (d : Packet) : Type 0 where
  pub placed : is_out_of_place (part_of d.opcode) d.opcode l.receiver.progress ≡ false
  pub sized : is_missized (part_of d.opcode) (length d.payload) l.terms.mtu ≡ false
  pub written : (is_write d.opcode && is_bad_write d l.receiver.progress) ≡ false
  pub read : (is_read_request d.opcode && is_bad_read d.reth) ≡ false
  pub aligned : is_unaligned d.atomic ≡ false

pub valid-parts : (l : Link) (d : Packet) → is_invalid l d ≡ false → IsValid l d
unfolding is_invalid
valid-parts l d e =
    let a = or-false _ _ e in
    let b = or-false _ _ a.1 in
    let c = or-false _ _ b.1 in
    let f = or-false _ _ c.1 in
    record { placed = a.0; sized = b.0; written = c.0; read = f.0; aligned = f.1 }

-- ---- opcodes

pub send-part : (n : ℕ) → is_send n ≡ true → is_part (part_of n) ≡ true
unfolding part_of
send-part zero e = refl
send-part (suc zero) e = refl
send-part (suc (suc zero)) e = refl
send-part (suc (suc (suc zero))) e = refl
send-part (suc (suc (suc (suc zero)))) e = refl
send-part (suc (suc (suc (suc (suc zero))))) e = refl
send-part (suc (suc (suc (suc (suc (suc n)))))) e = absurd (grind (arith, nat_tests, e))

pub write-not-send : (n : ℕ) → is_write n ≡ true → is_send n ≡ false
write-not-send n e = grind (arith, nat_tests, e)

-- a row of the table by what it is
row-of : (n : ℕ) (x l : Layout) → layout_of n ≡ Some x → layout_of n ≡ Some l → x ≡ l
row-of n x l e f = cc

write-row : (n : ℕ) (l : Layout) → is_write n ≡ true → layout_of n ≡ Some l → has_atomic l.headers ≡ false
unfolding layout_of
write-row zero l e f = absurd (cc)
write-row (suc zero) l e f = absurd (cc)
write-row (suc (suc zero)) l e f = absurd (cc)
write-row (suc (suc (suc zero))) l e f = absurd (cc)
write-row (suc (suc (suc (suc zero)))) l e f = absurd (cc)
write-row (suc (suc (suc (suc (suc zero))))) l e f = absurd (cc)
write-row (suc (suc (suc (suc (suc (suc zero)))))) l e f = subst (λ x. has_atomic x.headers ≡ false) (row-of 6 (loaded headers.Reth) l refl f) refl
write-row (suc (suc (suc (suc (suc (suc (suc zero))))))) l e f = subst (λ x. has_atomic x.headers ≡ false) (row-of 7 (loaded headers.Bare) l refl f) refl
write-row (suc (suc (suc (suc (suc (suc (suc (suc zero)))))))) l e f = subst (λ x. has_atomic x.headers ≡ false) (row-of 8 (loaded headers.Bare) l refl f) refl
write-row (suc (suc (suc (suc (suc (suc (suc (suc (suc zero))))))))) l e f = subst (λ x. has_atomic x.headers ≡ false) (row-of 9 (loaded headers.Imm) l refl f) refl
write-row (suc (suc (suc (suc (suc (suc (suc (suc (suc (suc zero)))))))))) l e f = subst (λ x. has_atomic x.headers ≡ false) (row-of 10 (loaded headers.Reth) l refl f) refl
write-row (suc (suc (suc (suc (suc (suc (suc (suc (suc (suc (suc zero))))))))))) l e f = subst (λ x. has_atomic x.headers ≡ false) (row-of 11 (loaded headers.RethImm) l refl f) refl
write-row (suc (suc (suc (suc (suc (suc (suc (suc (suc (suc (suc (suc n)))))))))))) l e f = absurd (grind (arith, nat_tests, e))

no-atomic : (d : Packet) → is_some d.atomic ≡ false → d.atomic ≡ None
no-atomic d e = by_case d.atomic refl
  where
    by_case : (o : Option AtomicEth) → d.atomic ≡ o → o ≡ None
    by_case None e' = refl
    by_case (Some h) e' = absurd (cc (e, ap is_some e'))

pub write-names-no-word : (d : Packet) → Fits d → is_write d.opcode ≡ true → d.atomic ≡ None
write-names-no-word d f w = no-atomic d (f.atomic ∙ write-row d.opcode f.layout w f.known)

-- a request that is neither a SEND nor a WRITE
others : (n : ℕ) → IsTrue (is_request n) → is_send n ≡ false → is_write n ≡ false → (n ≡ 12) ⊎ ((n ≡ 19) ⊎ (n ≡ 20))
unfolding is_request
others n r s w = by_test (n == 12) refl (n == 19) refl
  where
    by_test : (a : Bool) → (n == 12) ≡ a → (b : Bool) → (n == 19) ≡ b → (n ≡ 12) ⊎ ((n ≡ 19) ⊎ (n ≡ 20))
    by_test true e b f = inl (grind (arith, nat_tests, e))
    by_test false e true f = inr (inl (grind (arith, nat_tests, f)))
    by_test false e false f = inr (inr (grind (arith, nat_tests, e, f, r, s, w)))

-- the row of an opcode tells which headers there are
has-by-row : (d : Packet) → Fits d → (n : ℕ) (x : Layout) → d.opcode ≡ n → layout_of n ≡ Some x → (is_some d.atomic ≡ has_atomic x.headers) × (is_some d.reth ≡ has_reth x.headers)
has-by-row d f n x e known =
    let same : x ≡ f.layout = row-of n x f.layout known (sym (ap layout_of e) ∙ f.known) in
    (f.atomic ∙ ap (λ l. has_atomic l.headers) (sym same), f.reth ∙ ap (λ l. has_reth l.headers) (sym same))

read-row : layout_of 12 ≡ Some (unloaded headers.Reth)
unfolding layout_of
read-row = refl

swap-row : layout_of 19 ≡ Some (unloaded headers.Atomic)
unfolding layout_of
swap-row = refl

add-row : layout_of 20 ≡ Some (unloaded headers.Atomic)
unfolding layout_of
add-row = refl

pub read-names-no-word : (d : Packet) → Fits d → IsTrue (is_request d.opcode) → is_send d.opcode ≡ false → is_write d.opcode ≡ false → d.atomic ≡ None → (is_read_request d.opcode ≡ true) × (is_some d.reth ≡ true)
read-names-no-word d f r s w none = elim (others d.opcode r s w) [
  | inl e ↦ (ap is_read_request e, (has-by-row d f 12 (unloaded headers.Reth) e read-row).1)
  | inr e ↦ elim e [
    | inl e' ↦ absurd (let some : is_some d.atomic ≡ true = (has-by-row d f 19 (unloaded headers.Atomic) e' swap-row).0 in let none' = ap is_some none in cc (some, none'))
    | inr e' ↦ absurd (let some : is_some d.atomic ≡ true = (has-by-row d f 20 (unloaded headers.Atomic) e' add-row).0 in let none' = ap is_some none in cc (some, none'))
  ]
]

pub word-is-no-read : (d : Packet) → Fits d → IsTrue (is_request d.opcode) → is_send d.opcode ≡ false → is_write d.opcode ≡ false → is_some d.atomic ≡ true → is_read_request d.opcode ≡ false
word-is-no-read d f r s w some = elim (others d.opcode r s w) [
  | inl e ↦ absurd (let none : is_some d.atomic ≡ false = (has-by-row d f 12 (unloaded headers.Reth) e read-row).0 in cc (some, none))
  | inr e ↦ elim e [ inl e' ↦ ap is_read_request e' | inr e' ↦ ap is_read_request e' ]
]

pub reads-no-word : (d : Packet) → Fits d → is_read_request d.opcode ≡ true → d.atomic ≡ None
reads-no-word d f t =
    let n : d.opcode ≡ 12 = grind (arith, nat_tests, t) in
    no-atomic d (has-by-row d f 12 (unloaded headers.Reth) n read-row).0

middle-row : layout_of 7 ≡ Some (loaded headers.Bare)
unfolding layout_of
middle-row = refl

no-reth : (d : Packet) → is_some d.reth ≡ false → d.reth ≡ None
no-reth d e = by_case d.reth refl
  where
    by_case : (o : Option Reth) → d.reth ≡ o → o ≡ None
    by_case None e' = refl
    by_case (Some h) e' = absurd (cc (e, ap is_some e'))

no-imm : (d : Packet) → is_some d.imm ≡ false → d.imm ≡ None
no-imm d e = by_case d.imm refl
  where
    by_case : (o : Option ℕ) → d.imm ≡ o → o ≡ None
    by_case None e' = refl
    by_case (Some n) e' = absurd (cc (e, ap is_some e'))

-- a packet between the first and the last of a WRITE names no place, and has no immediate
pub middle-is-bare : (d : Packet) → Fits d → d.opcode ≡ 7 → (d.atomic ≡ None) × ((d.reth ≡ None) × (d.imm ≡ None))
middle-is-bare d f e =
    let same : loaded headers.Bare ≡ f.layout = row-of 7 (loaded headers.Bare) f.layout middle-row (sym (ap layout_of e) ∙ f.known) in
    (no-atomic d (f.atomic ∙ ap (λ l. has_atomic l.headers) (sym same)), (no-reth d (f.reth ∙ ap (λ l. has_reth l.headers) (sym same)), no-imm d (f.imm ∙ ap (λ l. has_imm l.headers) (sym same))))
