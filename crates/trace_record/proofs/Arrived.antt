-- What a datagram may do is what is named, wherever a whole world has these last datagrams.
use Rattle.std.proofs.Common.{◌≡◌, ◌-◌, ◌*◌, ◌++◌, ℕ, List, [], ◌∷◌, length, true, false, Bool, refl, sym, ap, ◌∙◌}
use Rattle.std.specs.Prelude.{Option, Some, None, if◌then◌else◌, slice_get}
use Rattle.rdma_types.specs.declared.answers.EndView.{EndView}
use Rattle.rdma_types.specs.declared.answers.ArrivalEffect.{ArrivalEffect}
use Rattle.rdma_types.specs.declared.names.ObjName.{ObjName}
use Rattle.protocol.specs.Fabric.{is_kept, kept_flight}
use Rattle.protocol.specs.State.{Flight, World}
use Rattle.protocol.specs.Wire.{Packet, packet_of}
use Rattle.protocol.proofs.Histories.{kept_flight-forgetting}
use Rattle.packetless_machine.specs.declared.steps.MachineStep.{MachineStep}
use Rattle.packetless_machine.specs.declared.steps.MachineStep.TheVariants as steps
use Rattle.packetless_machine.specs.Machine as machine
use Rattle.packetless_machine.specs.Machine.{Machine}
use Rattle.packetless_machine.specs.Reading.{is_offer_of}
use Rattle.packetless_machine.specs.Tables.{place_where}
use Rattle.law_kept_datagrams.specs.Alike.{with_kept_datagrams}
use Rattle.law_simulation.specs.Carries.{finds_end, land_steps, piece_at, request_at, tell_steps}
use Rattle.law_simulation.specs.Named.{flight_steps, is_landed, learning, numbered_steps, offer_place, packet_steps, read_steps}
use Rattle.law_simulation.specs.Packets.{class_of}
use Rattle.law_simulation.specs.Views.{name_of}
use Rattle.trace_record.specs.Steps.{HasDue, HasNumbers}
use Rattle.world_core.specs.Reached.{view_reached}
use Rattle.trace_record.specs.declared.recorder.arrivals.Arrival.{Arrival}
use Rattle.trace_record.specs.declared.recorder.arrivals.Arrival.TheVariants as arrival
use Rattle.trace_record.specs.declared.recorder.arrivals.DatagramKind.TheVariants as sort
use Rattle.trace_record.specs.Arrivals.{IsArrival, IsArrivalAt, IsBeside, is_live_state, is_paused_state, sort_of}
use Rattle.trace_record.proofs.Reached.{none_named, none_there, named_there, numbers_there, viewed}

-- ---- READ responses

pub read_nothing : (m : Machine) (q : ObjName) (n : ℕ) (bytes : List ℕ) (paused : Bool) → bytes ≡ [] → IsArrivalAt m paused q n bytes sort.ReadResponse (arrival.Read q n None)
unfolding read_steps land_steps
read_nothing m q n bytes paused none = λ t. ap (λ bs. if is_landed t then learning q (machine.end_of m q) n ++ (land_steps q (offer_place (machine.end_of m q) n bs) bs ++ tell_steps q (machine.end_of m q) n) else []) none

pub read_bytes : (m : Machine) (q : ObjName) (n : ℕ) (bytes : List ℕ) (paused : Bool) (o : ℕ) → (bytes ≡ [] → ⊥) → o ≡ offer_place (machine.end_of m q) n bytes → IsArrivalAt m paused q n bytes sort.ReadResponse (arrival.Read q n (Some o))
unfolding read_steps land_steps
read_bytes m q n [] paused o some is = absurd (some refl)
read_bytes m q n (b ∷ bs) paused o some is = λ t. ap (λ z. if is_landed t then learning q (machine.end_of m q) n ++ ((steps.Land q z ∷ []) ++ tell_steps q (machine.end_of m q) n) else []) (sym is)

pub offered_at : (m : Machine) (q : ObjName) (n : ℕ) (bytes : List ℕ) (i off o : ℕ) → i ≡ request_at (machine.end_of m q) n → off ≡ piece_at (machine.end_of m q) n * (machine.end_of m q).mtu → o ≡ place_where (is_offer_of i off bytes) (machine.end_of m q).offers → o ≡ offer_place (machine.end_of m q) n bytes
unfolding offer_place
offered_at m q n bytes i off o request offset is = is ∙ λ j. place_where (is_offer_of (request j) (offset j) bytes) (machine.end_of m q).offers

-- ---- datagrams

kept_if : (b : Bool) (r : Option Flight) (f : Flight) → (if b then r else None) ≡ Some f → r ≡ Some f
kept_if true r f h = h
kept_if false r f h = absurd (cc)

in_store : (sent : List Flight) (k : ℕ) (f : Flight) → kept_flight sent k ≡ Some f → slice_get sent (k - 1) ≡ Some f
unfolding kept_flight
in_store sent k f h = kept_if (is_kept (length sent) k) (slice_get sent (k - 1)) f h

kept_there : (kept w : World) (k : ℕ) (r : Option Flight) → kept ≡ with_kept_datagrams w → kept_flight kept.sent k ≡ r → kept_flight w.sent k ≡ r
kept_there kept w k r e h = sym (ap (λ (x : World). kept_flight x.sent k) e ∙ kept_flight-forgetting w.sent k) ∙ h

pub gone : (kept : World) (m : Machine) (k : ℕ) → kept_flight kept.sent k ≡ None → IsArrival kept m k arrival.Nothing
gone kept m k none = λ w t e s. ap (λ r. flight_steps w m r t) (kept_there kept w k None e none)

abbrev no_steps : List MachineStep
no_steps = []

unnumbered : (w : World) (m : Machine) (f : Flight) (p : Option Packet) (t : ArrivalEffect) → f.number ≡ None → packet_steps w m f p t ≡ []
unnumbered w m f None t none = refl
unnumbered w m f (Some d) t none = ap (λ z. if finds_end w m f d then numbered_steps w m (name_of m d.dest) z d.payload (class_of d) t else []) none ∙ by (finds_end w m f d)
  where
    by : (b : Bool) → (if b then no_steps else no_steps) ≡ no_steps
    by true = refl
    by false = refl

module _ (kept : World) (m : Machine) (k : ℕ) (f : Flight) (is : kept_flight kept.sent k ≡ Some f) where
  flies : (w : World) (t : ArrivalEffect) → kept ≡ with_kept_datagrams w → flight_steps w m (kept_flight w.sent k) t ≡ packet_steps w m f (packet_of f.bytes) t
  flies w t e = ap (λ r. flight_steps w m r t) (kept_there kept w k (Some f) e is)

  pub no_number : f.number ≡ None → IsArrival kept m k arrival.Nothing
  no_number none = λ w t e s. flies w t e ∙ unnumbered w m f (packet_of f.bytes) t none

  pub no_datagram : packet_of f.bytes ≡ None → IsArrival kept m k arrival.Nothing
  no_datagram none = λ w t e s. flies w t e ∙ ap (λ p. packet_steps w m f p t) none

  module _ (d : Packet) (read : packet_of f.bytes ≡ Some d) where
    there : (w : World) → kept ≡ with_kept_datagrams w → slice_get w.sent (k - 1) ≡ Some f
    there w e = in_store w.sent k f (kept_there kept w k (Some f) e is)

    seen : (w : World) (r : Option EndView) → kept ≡ with_kept_datagrams w → view_reached kept f.to d.dest ≡ r → view_reached w f.to d.dest ≡ r
    seen w r e h = sym (ap (λ (x : World). view_reached x f.to d.dest) e) ∙ h

    says : (w : World) (t : ArrivalEffect) → kept ≡ with_kept_datagrams w → flight_steps w m (kept_flight w.sent k) t ≡ packet_steps w m f (Some d) t
    says w t e = flies w t e ∙ ap (λ p. packet_steps w m f p t) read

    pub no_end : view_reached kept f.to d.dest ≡ None → IsArrival kept m k arrival.Nothing
    no_end none = λ w t e s. says w t e ∙ none_named w m s k f d (there w e) read t (none_there w m s k f d (there w e) read (seen w None e none))

    module _ (v : EndView) (view : view_reached kept f.to d.dest ≡ Some v) where
      pub not_live : is_live_state v.state ≡ false → IsArrival kept m k arrival.Nothing
      not_live dead = λ w t e s. says w t e ∙ none_named w m s k f d (there w e) read t ((viewed w m s k f d (there w e) read v (seen w (Some v) e view)).live ∙ dead)

      pub arrived : (n : ℕ) (a : Arrival) → f.number ≡ Some n → is_live_state v.state ≡ true → IsArrivalAt m (is_paused_state v.state) v.name n d.payload (sort_of (class_of d)) a → IsArrival kept m k a
      arrived n a number live at = λ w t e s. says w t e ∙ (named_there w m s k f d (there w e) read v n t (viewed w m s k f d (there w e) read v (seen w (Some v) e view)) number live ∙ at t)

      pub numbered : IsBeside kept m → is_live_state v.state ≡ true → HasNumbers (machine.end_of m v.name) × HasDue (machine.end_of m (machine.end_of m v.name).peer)
      numbered b live = numbers_there b.whole m b.stands k f d (there b.whole b.left) read v (viewed b.whole m b.stands k f d (there b.whole b.left) read v (seen b.whole (Some v) b.left view)) live
