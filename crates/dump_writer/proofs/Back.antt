-- What was written whole is read as the image.
use Rattle.std.proofs.Common.{◌≡◌, ◌∙◌, ℕ, ◌<◌, ◌++◌, List, length, ap, sym, subst, refl, arith}
use Rattle.std.specs.Prelude.{min}
use Rattle.std.proofs.lemmas.List.{append-nil, nil_from_length}
use Rattle.protocol.specs.declared.images.ContextImage.{ContextImage}
use Rattle.protocol.specs.Dumps.{Dumps, dump_bytes}
use Rattle.protocol.specs.Lawful.{IsLawful}
use Rattle.law_dump_round_trip.specs.Fits.{FitsFields}
use Rattle.law_dump_round_trip.proofs.BackWhole.{written_back}
use Rattle.dump_writer.specs.Writing.{ReadsBack, Writing}

-- a writer of the image that has nothing left to give: the bytes so far read back
pub reads_back : (c : ContextImage) (w : Writing) (dump : List ℕ) (room : ℕ) → IsLawful c → w.image ≡ c → dump ++ w.left ≡ dump_bytes 2 c → min room (length w.left) ≡ 0 → 0 < room → (length w.left < room → FitsFields w.image) → ReadsBack c dump
reads_back c w dump room lawful same bytes none some fits =
    let empty : length w.left ≡ 0 = omega (arith, none, some) in
    let whole : dump ≡ dump_bytes 2 c = sym (append-nil dump) ∙ (ap (λ (bs : List ℕ). dump ++ bs) (sym (nil_from_length w.left empty)) ∙ bytes) in
    let dumps : Dumps c dump = record { version = 2; known = refl; lawful = lawful; bytes = whole } in
    let back = written_back c dump dumps (subst FitsFields same (fits (omega (arith, empty, some)))) in
    record { place = back.0; read = back.1 }
