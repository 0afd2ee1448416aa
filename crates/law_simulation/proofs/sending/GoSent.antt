-- An end sends one more datagram to its peer, of which its fact holds.
use Rattle.std.proofs.Common.{◌≡◌, ◌<◌, ◌^◌, ℕ, zero, suc, List, [], ◌∷◌, ◌++◌, map, true, false, Bool, refl, sym, ap, ◌∙◌, subst}
use Rattle.std.specs.Prelude.{Option, Some, None, All, if◌then◌else◌}
use Rattle.std.proofs.lemmas.List.Elements.{All-contains, All-head, All-tail}
use Rattle.rdma_types.specs.declared.names.Name.{Name}
use Rattle.rdma_types.specs.declared.names.ObjName.{ObjName}
use Rattle.rdma_types.specs.declared.requests.Address.{Address}
use Rattle.rdma_types.specs.Lists.{first_that}
use Rattle.protocol.specs.State.{World, Device, Flight}
use Rattle.protocol.specs.Wire.{Packet, packet_of, wire_of}
use Rattle.protocol.specs.WorldStep.{is_live, home}
use Rattle.packetless_machine.specs.Machine as machine
use Rattle.packetless_machine.specs.Machine.{Machine, End, has_end}
use Rattle.law_simulation.specs.Views.{Net, net_of, peer, requests_of, side_of}
use Rattle.law_simulation.specs.Facts.{Fact, BytesFact, PacketFact, ClassFact}
use Rattle.law_simulation.specs.Stands.{Stands, AreSent}
use Rattle.law_simulation.proofs.relation.Worlds.{holds_it, home_found}
use Rattle.law_simulation.proofs.relation.Grown.{are_made, number_given}

abbrev OptionFact : Net → Option Flight → Type 0
OptionFact n None = ⊥
OptionFact n (Some f) = Fact n f

pub sent_push : (n : Net) (sent : List Flight) (f : Flight) → AreSent n sent → Fact n f → AreSent n (sent ++ f ∷ [])
sent_push n [] f all fact zero g h = subst (OptionFact n) h fact
sent_push n [] f all fact (suc k) g h = all k g h
sent_push n (x ∷ sent) f all fact zero g h = all zero g h
sent_push n (x ∷ sent) f all fact (suc k) g h = sent_push n sent f (λ j y i. all (suc j) y i) fact k g h

module _ (w : World) (m : Machine) (o : ObjName) (s : Stands w m) (connected : (side_of w o).connected ≡ true) where
  abbrev f : End
  f = machine.end_of m o

  peer_connected : (side_of w f.peer).connected ≡ true
  peer_connected = (s.joined o connected).connected

  peer_made : has_end m f.peer ≡ true
  peer_made = are_made w m s f.peer peer_connected

  -- the number that the end's datagrams are for can be said
  pub peer_said : (side_of w o).link.peer < 2 ^ 24
  peer_said = subst (λ k. k < 2 ^ 24) (sym (s.joined o connected).number) (All-contains (λ k. k < 2 ^ 24) m.numbers (machine.end_of m f.peer).number s.counted.numbers_said (number_given w m s f.peer peer_made))

  -- the fact of a datagram of the end
  pub own_fact : (from to : Address) (number : Option ℕ) (d : Packet) → d.dest ≡ (side_of w o).link.peer → packet_of (wire_of d) ≡ Some d →
      ClassFact (side_of w f.peer) (side_of w o) (requests_of (machine.end_of m f.peer)) (requests_of f) number d → Fact (net_of w m) (record { from = from; to = to; number = number; bytes = wire_of d; lost = false; taken = false })
  own_fact from to number d dest reads fact =
      let n : Net = net_of w m in
      let number_is : (machine.end_of m f.peer).number ≡ d.dest = sym (s.joined o connected).number ∙ sym dest in
      let name : n.name d.dest ≡ f.peer = ap n.name (sym number_is) ∙ s.numbered.named f.peer peer_made in
      let fact' : PacketFact (n.side f.peer) (n.side (peer n f.peer)) (n.end f.peer) (n.end (peer n f.peer)) number (wire_of d) d =
      subst (λ k. PacketFact (n.side f.peer) (n.side k) (n.end f.peer) (n.end k) number (wire_of d) d) (sym (s.joined o connected).back) (record { spelled = refl; connected = peer_connected; dest = number_is; fact = fact }) in
      subst (BytesFact n number (wire_of d)) (sym reads)
      (subst (λ k. PacketFact (n.side k) (n.side (peer n k)) (n.end k) (n.end (peer n k)) number (wire_of d) d) (sym name) fact')

-- ---- the address of a device

same_device : (a b : Device) → Some a ≡ Some b → a ≡ b
same_device a b h = cc

address_if : (P : Address → Type 0) (x d : Device) (b : Bool) (rest : Option Device) → (if b then Some x else rest) ≡ Some d → P x.address → (rest ≡ Some d → P d.address) → P d.address
address_if P x d true rest h here later = subst P (ap (λ e. e.address) (same_device x d h)) here
address_if P x d false rest h here later = later h

address_found : (P : Address → Type 0) (test : Device → Bool) (d : Device) (ds : List Device) → All P (map (λ e. e.address) ds) → first_that test ds ≡ Some d → P d.address
unfolding first_that
address_found P test d [] all h = absurd (cc)
address_found P test d (x ∷ ds) all h = address_if P x d (test x) (first_that test ds) h (All-head P x.address (map (λ e. e.address) ds) all) (λ l. address_found P test d ds (All-tail P x.address (map (λ e. e.address) ds) all) l)

pub home_address : (P : Address → Type 0) (w : World) (c : Name) → is_live w c ≡ true → All P (map (λ e. e.address) w.devices) → P (home w c).address
home_address P w c live all = address_found P (holds_it c) (home w c) w.devices all (home_found w c live)
