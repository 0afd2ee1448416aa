-- What holds of the parts of a world.
use Rattle.std.specs.Prelude.{◌≡◌, ℕ, ◌==◌, ◌&&◌, Bool, List, [], ◌∷◌, Option, Some, None, map, nat_eq, All}
use Rattle.rdma_types.specs.declared.names.Name.{Name}
use Rattle.std.specs.List.{IsDistinct, position}
use Rattle.protocol.specs.declared.images.ContextImage.{ContextImage}
use Rattle.protocol.specs.Lawful.{IsLawful}
use Rattle.protocol.specs.Refusals.{has_context}
use Rattle.protocol.specs.State.{Device}

-- no two devices have an id
abbrev pub HaveOwnIds : List Device → Type 0
HaveOwnIds ds = IsDistinct nat_eq (map (λ d. d.id) ds)

-- equal pairs of an IP address and a port
abbrev pub port_eq : ℕ × ℕ → ℕ × ℕ → Bool
port_eq a b = nat_eq a.0 b.0 && nat_eq a.1 b.1

-- by each id, each address and each context's name the first device that has it is found
pub record AreIndexed (devices : List Device) (by_id : ℕ → Option ℕ) (by_port : ℕ × ℕ → Option ℕ) (by_name : Name → Option ℕ) : Type 0 where
  pub ids : (k : ℕ) → by_id k ≡ position (λ d. d.id == k) devices
  pub ports : (a : ℕ × ℕ) → by_port a ≡ position (λ d. d.address.ip == a.0 && d.address.port == a.1) devices
  pub homes : (n : Name) → by_name n ≡ position (λ d. has_context d n) devices

-- the devices have ids of their own, the images keep the rules, and the devices are indexed
pub record AreParts (devices : List Device) (carried : List ContextImage) (by_id : ℕ → Option ℕ) (by_port : ℕ × ℕ → Option ℕ) (by_name : Name → Option ℕ) : Type 0 where
  pub ids : HaveOwnIds devices
  pub lawful : All IsLawful carried
  pub indexed : AreIndexed devices by_id by_port by_name

-- the image that a step carries off, if there is one
abbrev pub images_of : Option ContextImage → List ContextImage
images_of None = []
images_of (Some x) = x ∷ []

-- .. and its name
abbrev pub names_of : Option ContextImage → List Name
names_of None = []
names_of (Some x) = x.name ∷ []
