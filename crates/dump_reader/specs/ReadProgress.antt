-- How far a dump was read.
use Rattle.std.specs.Prelude.{ℕ, ◌≡◌, ◌≤◌, List, [], ◌++◌, length, drop}
use Rattle.protocol.specs.declared.images.ContextImage.{ContextImage}
use Rattle.protocol.specs.Dumps.{Good, read_dump}
use Rattle.dump_reader.specs.declared.read_progress.ReadProgress.{ReadProgress}
use Rattle.dump_reader.specs.Ahead.{ahead, image_of, queues_of}

-- what is read of bytes, whatever bytes follow them, is what is still ahead of the reading
pub record Stands (way : ReadProgress) (bytes : List ℕ) : Type 0 where
  pub within : way.at ≤ length bytes
  pub alike : (later : List ℕ) → read_dump (bytes ++ later) ≡ ahead way.opened way.lists way.place way.at (drop way.at bytes ++ later)

-- the image of what was read
abbrev pub image_at : ReadProgress → ContextImage
image_at way = image_of way.opened way.lists.domains.items way.lists.regions.items (queues_of way.lists) way.lists.ends.items

-- the bytes are a dump, and all of it was read
pub record IsWhole (way : ReadProgress) (bytes : List ℕ) : Type 0 where
  pub stands : Stands way bytes
  pub dump : read_dump bytes ≡ Good (image_at way) (length bytes) []
