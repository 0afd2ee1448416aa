-- The contexts of a world that were stopped: their images and their names (this project's choice).
use Rattle.std.specs.Prelude.{◌≡◌, Bool, List}
use Rattle.rdma_types.specs.declared.names.Name.{Name}
use Rattle.rdma_types.specs.Lists.{has_name, has_word}
use Rattle.protocol.specs.declared.images.ContextImage.{ContextImage}

-- the carried images in order of their stops, the names of all that were ever stopped, the last one first, and whether there is
-- room for one stop more
pub record Stopped : Type 0 where
  pub carried : List ContextImage
  pub stopped : List Name
  pub has_room : Bool

-- the names are told of which an image is carried, and those that were ever stopped
pub record AreMarked (images : List ContextImage) (names : List Name) (is_carried was_stopped : Name → Bool) : Type 0 where
  pub carried : (n : Name) → is_carried n ≡ has_name (λ c. c.name) n images
  pub stopped : (n : Name) → was_stopped n ≡ has_word n names
