-- A writer of an image, and bytes that are read as an image.
use Rattle.std.specs.Prelude.{ℕ, ◌≡◌, List, []}
use Rattle.protocol.specs.declared.images.ContextImage.{ContextImage}
use Rattle.protocol.specs.Dumps.{Good, read_dump}

-- the bytes that a writer has still to hand out, and the image that they are of
pub record Writing : Type 0 where
  pub image : ContextImage
  pub left : List ℕ

-- the bytes are read as the image, and none are left
pub record ReadsBack (c : ContextImage) (bytes : List ℕ) : Type 0 where
  pub place : ℕ
  pub read : read_dump bytes ≡ Good c place []
