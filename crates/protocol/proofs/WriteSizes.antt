-- The bytes of a WRITE that is not bad are within its message.
use Rattle.std.proofs.Common.{◌≡◌, ℕ, zero, suc, ◌+◌, ◌≤◌, Bool, true, false, length, refl, arith}
use Rattle.std.specs.Prelude.{◌||◌}
use Rattle.std.proofs.lemmas.Bool.Decides.{nat_tests}
use Rattle.protocol.specs.Responder.{Part, First, Middle, Last, Only, NoPart, bytes_before, is_bad_write, is_mistotalled, is_part, is_write, part_of, write_length}
use Rattle.protocol.specs.State.{Progress}
use Rattle.protocol.specs.Wire.{Packet}

pub or-false : (a b : Bool) → (a || b) ≡ false → (a ≡ false) × (b ≡ false)
or-false true b e = absurd (cc)
or-false false b e = (refl, e)

pub write-part : (n : ℕ) → is_write n ≡ true → is_part (part_of n) ≡ true
unfolding part_of
write-part zero e = absurd (cc)
write-part (suc zero) e = absurd (cc)
write-part (suc (suc zero)) e = absurd (cc)
write-part (suc (suc (suc zero))) e = absurd (cc)
write-part (suc (suc (suc (suc zero)))) e = absurd (cc)
write-part (suc (suc (suc (suc (suc zero))))) e = absurd (cc)
write-part (suc (suc (suc (suc (suc (suc zero)))))) e = refl
write-part (suc (suc (suc (suc (suc (suc (suc zero))))))) e = refl
write-part (suc (suc (suc (suc (suc (suc (suc (suc zero)))))))) e = refl
write-part (suc (suc (suc (suc (suc (suc (suc (suc (suc zero))))))))) e = refl
write-part (suc (suc (suc (suc (suc (suc (suc (suc (suc (suc zero)))))))))) e = refl
write-part (suc (suc (suc (suc (suc (suc (suc (suc (suc (suc (suc zero))))))))))) e = refl
write-part (suc (suc (suc (suc (suc (suc (suc (suc (suc (suc (suc (suc n)))))))))))) e = absurd (grind (arith, nat_tests, e))

-- the bytes of a valid WRITE fit
fitting : (q : Part) (done count : ℕ) → is_part q ≡ true → is_mistotalled q done count ≡ false → done ≤ count
fitting First done count p e = grind (arith, nat_tests, e)
fitting Middle done count p e = grind (arith, nat_tests, e)
fitting Last done count p e = grind (arith, nat_tests, e)
fitting Only done count p e = grind (arith, nat_tests, e)
fitting NoPart done count p e = absurd (cc)

pub write-fits : (d : Packet) (p : Progress) → is_write d.opcode ≡ true → is_bad_write d p ≡ false → length d.payload + bytes_before d.reth p ≤ write_length d.reth p
write-fits d p w e = fitting (part_of d.opcode) _ _ (write-part d.opcode w) (or-false _ _ e).1
