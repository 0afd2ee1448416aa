-- What the steps that the law names at a datagram are made of.
use Rattle.std.specs.Prelude.{ℕ, ◌≡◌, ◌<◌, ◌-◌, ◌*◌, ◌^◌, Bool, true, false, List, [], ◌∷◌, Option, Some, None, if◌then◌else◌}
use Rattle.rdma_types.specs.declared.answers.RefusalReason.TheVariants as whys
use Rattle.rdma_types.specs.declared.names.ObjName.{ObjName}
use Rattle.rdma_types.specs.Kinds.{size_of}
use Rattle.packetless_machine.specs.declared.steps.MachineStep.{MachineStep}
use Rattle.packetless_machine.specs.declared.steps.MachineStep.TheVariants as steps
use Rattle.packetless_machine.specs.Machine.{Machine, End, end_of, posted_at}
use Rattle.packetless_machine.specs.Numbers.{barrier, due, oldest}
use Rattle.packetless_machine.specs.Steps.{may_atom, may_offer, may_read, may_refuse, may_run}
use Rattle.law_simulation.specs.Carries.{offers_of}

-- a connected end of the machine, whose next number to act has 64 bits
pub record HasDue (e : End) : Type 0 where
  pub connected : e.connected ≡ true
  pub mtu : 0 < e.mtu
  pub due : due e < 2 ^ 64

-- .. whose numbers have 64 bits that its owner learns by
pub record HasNumbers (e : End) : Type 0 where
  pub connected : e.connected ≡ true
  pub mtu : 0 < e.mtu
  pub oldest : oldest e < 2 ^ 64
  pub barrier : barrier e < 2 ^ 64

-- what the peer makes of the expected request: the first of these steps that is enabled, and else Dry
unfoldable pub due_step : Machine → ObjName → ℕ → MachineStep
due_step m q n =
    if may_run m q n
    then steps.Run q n
    else if may_atom m q
    then steps.Atom q
    else if may_read m q
    then steps.ReadTurn q
    else if may_refuse m q whys.Invalid
    then steps.Refuse q whys.Invalid
    else if may_refuse m q whys.Access
    then steps.Refuse q whys.Access
    else if may_refuse m q whys.Length
    then steps.Refuse q whys.Length
    else steps.Dry q

-- a Read has its turn
abbrev pub is_turn : MachineStep → Bool
is_turn (steps.ReadTurn q) = true
is_turn other = false

-- one offer for each response of the Read that has its turn
abbrev pub turn_offers : Machine → ObjName → Bool → List MachineStep
turn_offers m q false = []
turn_offers m q true = offers_of q (end_of m q) (end_of m q).acted 0

-- the offer lands, where there is one
abbrev pub landing_at : ObjName → Option ℕ → List MachineStep
landing_at q None = []
landing_at q (Some o) = steps.Land q o ∷ []

-- one offer of all that is left of request i, from piece k on, may be made
abbrev pub may_offer_rest : Machine → ObjName → ℕ → ℕ → Bool
may_offer_rest m q i k = may_offer m q i (k * (end_of m q).mtu) (size_of (posted_at (end_of m q).posted i) - k * (end_of m q).mtu)
