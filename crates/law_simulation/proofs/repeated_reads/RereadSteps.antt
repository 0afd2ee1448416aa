-- What a repeated READ request is answered, and what more offers leave as it was.
use Rattle.std.proofs.Common.{arith, ◌≡◌, ◌<◌, ◌≤◌, ◌+◌, ◌-◌, ◌*◌, ℕ, List, [], ◌++◌, true, false, Bool, refl, sym, ap, ◌∙◌}
use Rattle.std.specs.Prelude.{Option, Some, None, if◌then◌else◌, is_some, nat_le, ◌==◌, ◌&&◌, ◌||◌, All}
use Rattle.std.proofs.lemmas.List.Elements.{Contains-append_left, All-append}
use Rattle.rdma_types.specs.declared.names.Name.{Name}
use Rattle.rdma_types.specs.declared.names.ObjName.{ObjName}
use Rattle.rdma_types.specs.Kinds.{is_read, kind_of, size_of}
use Rattle.rdma_types.specs.Memory.{RemoteRead, granted, is_granted, remote_key}
use Rattle.rdma_types.specs.Objects.{Region, no_region}
use Rattle.rdma_types.specs.Spans.{pieces}
use Rattle.protocol.specs.declared.wire.Reth.{Reth}
use Rattle.protocol.specs.State as state
use Rattle.protocol.specs.State.{Link, Receiver, Progress, NoMessage, InSend, InWrite}
use Rattle.protocol.specs.Wire.{Packet}
use Rattle.protocol.specs.Responder.{repeated, answers_read, read_grant}
use Rattle.packetless_machine.specs.Machine as machine
use Rattle.packetless_machine.specs.Machine.{Machine, End, Offered, posted_at}
use Rattle.packetless_machine.specs.Numbers.{due}
use Rattle.packetless_machine.specs.Sound.{IsOfferOf, IsSound}
use Rattle.packetless_machine.specs.Steps.{in_place, is_granted_there}
use Rattle.packetless_machine.specs.Machine.{untold_count}
use Rattle.law_simulation.specs.Carries.{is_rest_granted, offers_of, repeat_steps}
use Rattle.law_simulation.specs.Joined.{IsInPieces, IsProgress, Receives}
use Rattle.law_simulation.proofs.relation.SoundEnds.{sound_still}
use Rattle.law_simulation.proofs.relation.Linked.{end_changed}
use Rattle.law_simulation.proofs.requests.Advancing.{IsAdvance, moved_on}
use Rattle.law_simulation.proofs.requests.Responding.{peer_again}

-- ---- the protocol's side

-- the responses, where the rest is granted
pub reread_is : (c : state.Context) (e : state.End) (l : Link) (d : Packet) (n : ℕ) (h : Reth) (t : Option Region) → d.opcode ≡ 0x0C → d.reth ≡ Some h → nat_le (n + pieces h.length l.terms.mtu) l.receiver.expected ≡ true →
    (if h.length == 0 then Some no_region else read_grant c e h RemoteRead) ≡ t → repeated c e l d n ≡ answers_read c l t h n
unfolding repeated
reread_is c e l d n h t op reth before found = rw (op, reth, before) (ap (λ z. answers_read c l z h n) found)

-- what is not granted has no region
pub none_granted : (rs : List Region) (domain : Name) (key address size : ℕ) → is_granted remote_key rs domain key address size RemoteRead ≡ false → (if size == 0 then Some no_region else granted remote_key rs domain key address size RemoteRead) ≡ None
unfolding is_granted
none_granted rs domain key address size h = by_tests (size == 0) (granted remote_key rs domain key address size RemoteRead) h
  where
    by_tests : (b : Bool) (g : Option Region) → (b || is_some g) ≡ false → (if b then Some no_region else g) ≡ None
    by_tests true g h = absurd (cc)
    by_tests false None h = refl
    by_tests false (Some x) h = absurd (cc)

-- ---- the machine's steps

pub rest_is : (m : Machine) (q : ObjName) (i k : ℕ) → is_rest_granted m q i k ≡ is_granted_there m q (posted_at (machine.end_of m q).posted i).request.shape.rkey ((posted_at (machine.end_of m q).posted i).request.shape.remote + k * (machine.end_of m q).mtu) (size_of (posted_at (machine.end_of m q).posted i) - k * (machine.end_of m q).mtu) RemoteRead
unfolding is_rest_granted
rest_is m q i k = refl

pub repeats_so : (m : Machine) (q : ObjName) (i k : ℕ) (b : Bool) → is_read (kind_of (posted_at (machine.end_of m q).posted i)) ≡ true → is_rest_granted m q i k ≡ b → repeat_steps m q i k ≡ (if b then offers_of q (machine.end_of m q) i k else [])
unfolding repeat_steps
repeats_so m q i k b read granted' = (λ j. if read j && granted' j then offers_of q (machine.end_of m q) i k else [])

-- an end stored again is as it was
pub end_again : (m : Machine) (q : ObjName) → machine.has_context m q.context ≡ true → machine.has_end m q ≡ true → machine.with_end m q (machine.end_of m q) ≡ m
unfolding machine.with_end machine.with_context machine.has_end
end_again m q there found =
    let contexts : (machine.with_end m q (machine.end_of m q)).contexts ≡ m.contexts = (end_changed m q (machine.end_of m q) there found).contexts ∙ sym (peer_again m q there found).contexts in
    λ i. record { contexts = contexts i; keys = m.keys; numbers = m.numbers }

-- ---- more offers leave the rest as it was

pub offers_sound : (q : End) (list : List Offered) → All (IsOfferOf q) list → IsSound q → IsSound (moved_on q q.acted q.into q.answers (q.offers ++ list) q.dry)
unfolding in_place untold_count
offers_sound q list inside s = sound_still q (record q { offers = q.offers ++ list }) (All-append (IsOfferOf q) q.offers list s.offers inside) s.receive_depth s

pub offers_advance : (q : End) (list : List Offered) (top : ℕ) (r : Receiver) → due q ≤ top → All (λ f. All (λ b. b < 256) f.bytes) list → IsInPieces q → Receives r q → IsAdvance q q.acted q.into q.answers (q.offers ++ list) q.dry top r
unfolding due
offers_advance q list top r within said pieces receives = record {
  due_up = omega arith;
  due_top = within;
  acted_up = omega arith;
  answers_kept = λ i a h. h;
  offers_kept = λ f h. Contains-append_left q.offers list f h;
  dry_kept = λ i h. h;
  acting = pieces.acting;
  offers_said = All-append (λ f. All (λ b. b < 256) f.bytes) q.offers list pieces.offers said;
  reads = pieces.reads;
  old_words = pieces.old_words;
  receives = record { expected = receives.expected; kept = receives.kept; answered = receives.answered };
}

pub progress_kept : (q : End) (offers : List Offered) (domain : Name) (rs : List Region) (p : Progress) → IsProgress q domain rs p → IsProgress (moved_on q q.acted q.into q.answers offers q.dry) domain rs p
progress_kept q offers domain rs NoMessage h = h
progress_kept q offers domain rs (InSend done receive) h = h
progress_kept q offers domain rs (InWrite region off count done) h = h
