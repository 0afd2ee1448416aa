-- The machine follows the delivery of a datagram for an end that is not there.
use Rattle.std.proofs.Common.{◌≡◌, ◌-◌, ℕ, [], refl, sym, ap, ◌∙◌, subst}
use Rattle.std.specs.Prelude.{Option, Some, None, slice_get}
use Rattle.protocol.specs.declared.events.WorldEvent.TheVariants.{Deliver}
use Rattle.protocol.specs.Wire.{Packet, packet_of}
use Rattle.protocol.specs.State.{World, Device, Flight}
use Rattle.protocol.specs.DeviceStep.{found_in, husk_entries, at_found}
use Rattle.protocol.specs.WorldStep.{device_with, ran, with_taken}
use Rattle.packetless_machine.specs.Machine.{Machine}
use Rattle.law_simulation.specs.Views.{net_of, name_of, peer}
use Rattle.law_simulation.specs.Facts.{PacketFact}
use Rattle.law_simulation.specs.Stands.{Stands}
use Rattle.law_simulation.specs.Named.{FollowsByName, ReachesByName}
use Rattle.law_simulation.specs.Delivered.{HusksAnswer}
use Rattle.law_simulation.proofs.delivery.Arriving.{Reached, read_of, arrives_is, no_device_there, at_husks, delivered}
use Rattle.law_simulation.specs.Unfound.{FindsNoEnd}

module _ (w : World) (m : Machine) (k : ℕ) (f : Flight) (p : Packet) (s : Stands w m) (sent : slice_get w.sent (k - 1) ≡ Some f) (read : packet_of f.bytes ≡ Some p)
    (fact : PacketFact ((net_of w m).side (name_of m p.dest)) ((net_of w m).side (peer (net_of w m) (name_of m p.dest))) ((net_of w m).end (name_of m p.dest)) ((net_of w m).end (peer (net_of w m) (name_of m p.dest))) f.number f.bytes p) (husks : HusksAnswer) where
  by_device : (d : Option Device) → device_with w f.to ≡ d → ((e : Device) → device_with w f.to ≡ Some e → found_in p.dest e.contexts ≡ []) → Reached w m k f d
  by_device None is none = no_device_there w m k f p s sent read fact is
  by_device (Some d) is none =
      subst (λ z. ReachesByName w m (Deliver k) (ran (with_taken w k) z).world (ran (with_taken w k) z).answer) (sym (arrives_is d f.from f.bytes p read ∙ ap (at_found d f.from p) (none d is)))
      (at_husks w m k f p s sent read fact d is (none d is) husks (husk_entries p.dest d.husks) refl)

pub unfound_follows : (w : World) (m : Machine) (k : ℕ) → HusksAnswer → Stands w m → FindsNoEnd w k → FollowsByName w m (Deliver k)
unfound_follows w m k husks s none = delivered w m k s (λ f sent is fresh.
    let r = read_of (net_of w m) f.number f.bytes (packet_of f.bytes) refl (s.sent (k - 1) f sent) in
    by_device w m k f r.0 s sent r.1 r.2 husks (device_with w f.to) refl (λ d at. none f r.0 d sent r.1 at))
