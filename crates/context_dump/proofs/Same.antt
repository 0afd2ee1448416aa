-- A reading has one image.
use Rattle.std.proofs.Common.{◌≡◌, ℕ, List, []}
use Rattle.protocol.specs.declared.images.ContextImage.{ContextImage}
use Rattle.protocol.specs.Dumps.{Reading, Good, Dumps, read_dump}
use Rattle.law_dump_round_trip.specs.Fits.{FitsFields}
use Rattle.law_dump_round_trip.proofs.BackWhole.{written_back}

one_image : (r : Reading ContextImage) (c d : ContextImage) (p q : ℕ) (bs cs : List ℕ) → r ≡ Good c p bs → r ≡ Good d q cs → d ≡ c
one_image r c d p q bs cs e f = cc

-- what is read of a dump of an image is the image
pub same_image : (c read : ContextImage) (bytes rest : List ℕ) (place : ℕ) → Dumps c bytes → FitsFields c → read_dump bytes ≡ Good read place rest → read ≡ c
same_image c read bytes rest place h fits e =
    let back = written_back c bytes h fits in
    one_image (read_dump bytes) c read back.0 place [] rest back.1 e
