-- A request changes no byte beyond those that it may.
use Rattle.std.proofs.Common.{◌≡◌, ℕ, ◌+◌, ◌<◌, true, false, List, ◌++◌, length, refl}
use Rattle.std.specs.Prelude.{Some, None, nat_lt, slice_get}
use Rattle.rdma_types.specs.declared.names.Name.{Name}
use Rattle.rdma_types.specs.declared.requests.Receive.{Receive}
use Rattle.rdma_types.specs.Objects.{Region}
use Rattle.page_pool.specs.Pool.{Pool}
use Rattle.memory_keys.specs.declared.RegisteredRegion.{RegisteredRegion}
use Rattle.memory_keys.specs.Regions.{AreHeld, AreKeyed, regions_of}
use Rattle.protocol.specs.declared.wire.AtomicEth.{AtomicEth}
use Rattle.protocol.specs.EndWords.{in_use_by}
use Rattle.protocol.specs.Responder as words
use Rattle.protocol.specs.Wire.{Fits, Packet}
use Rattle.protocol.specs.Changes.{KeepsRestAt}
use Rattle.responder.specs.Receiving.{Receiving}
use Rattle.responder.specs.Sound.{IsPlace, IsSound}
use Rattle.responder.specs.Taken.{target_in}
use Rattle.responder.specs.Taking.{Around, Taking, around_with, link_of, receive_in, send_taking, taking, too_long_taking, word_taking, write_taking}
use Rattle.protocol.proofs.WriteSizes.{write-fits}
use Rattle.responder.proofs.Acts.{atomic-target, front-all}
use Rattle.responder.proofs.Cases.{by-rows, fits-names}
use Rattle.responder.proofs.Changing.{kept, send-keeps, word-keeps, write-keeps}
use Rattle.responder.proofs.Counts.{send-there}
use Rattle.responder.proofs.Granted.{word-length}
use Rattle.responder.proofs.Kindly.{IsValid, and-false}
use Rattle.responder.proofs.Soundness.{fits-receive, write-target}

-- what a row leaves of a region
abbrev pub KeepsAt : Pool → List RegisteredRegion → Around → Packet → ℕ → Region → Taking → Type 0
KeepsAt pool hs a d i old t = KeepsRestAt a.domain a.receiver a.unused d (regions_of pool hs) t.regions i old

short-at : (pool : Pool) (hs : List RegisteredRegion) (v : Receiving) (domain : Name) (qp : ℕ) (unused : List Receive) (d : Packet) (i : ℕ) (old : Region) → slice_get (regions_of pool hs) i ≡ Some old → KeepsAt pool hs (around_with v domain qp (regions_of pool hs) unused) d i old (too_long_taking (around_with v domain qp (regions_of pool hs) unused))
unfolding too_long_taking
short-at pool hs v domain qp unused d i old there = kept domain v.receiver unused d (regions_of pool hs) i old there

send-at : (pool : Pool) (hs : List RegisteredRegion) (v : Receiving) (domain : Name) (qp : ℕ) (unused : List Receive) (d : Packet) (i : ℕ) (old : Region) → AreHeld pool hs → AreKeyed hs → IsSound hs domain v unused → slice_get (regions_of pool hs) i ≡ Some old
    → 0 < length (in_use_by v.receiver.progress ++ unused)
    → nat_lt (receive_in (around_with v domain qp (regions_of pool hs) unused)).length (words.bytes_before None v.receiver.progress + length d.payload) ≡ false
    → KeepsAt pool hs (around_with v domain qp (regions_of pool hs) unused) d i old (send_taking (around_with v domain qp (regions_of pool hs) unused) d (receive_in (around_with v domain qp (regions_of pool hs) unused)) (words.bytes_before None v.receiver.progress))
unfolding send_taking words.receive_of
send-at pool hs v domain qp unused d i old are k s there some fits =
    let x = words.front (in_use_by v.receiver.progress ++ unused) in
    send-keeps pool hs domain v.receiver unused d x (words.bytes_before None v.receiver.progress) d.payload i old are k (front-all (IsPlace hs domain) (in_use_by v.receiver.progress ++ unused) s.receives some) refl some (fits-receive _ _ fits) there

write-at : (pool : Pool) (hs : List RegisteredRegion) (v : Receiving) (domain : Name) (qp : ℕ) (unused : List Receive) (d : Packet) (i : ℕ) (old r : Region) → AreHeld pool hs → AreKeyed hs → IsSound hs domain v unused → slice_get (regions_of pool hs) i ≡ Some old
    → d.atomic ≡ None → words.is_write d.opcode ≡ true → IsValid (link_of (around_with v domain qp (regions_of pool hs) unused)) d → target_in (regions_of pool hs) domain d ≡ Some r
    → KeepsAt pool hs (around_with v domain qp (regions_of pool hs) unused) d i old (write_taking (around_with v domain qp (regions_of pool hs) unused) d (words.place_of r d.reth v.receiver.progress))
unfolding write_taking
write-at pool hs v domain qp unused d i old r are k s there none w valid t =
    let good = and-false _ _ w valid.written in
    write-keeps pool hs domain v.receiver unused d v.terms.mtu r d.reth v.receiver.progress d.payload i old are k refl refl s.message (write-fits d v.receiver.progress w good) (write-target pool hs (around_with v domain qp (regions_of pool hs) unused) d r refl none w t) there

word-at : (pool : Pool) (hs : List RegisteredRegion) (v : Receiving) (domain : Name) (qp : ℕ) (unused : List Receive) (d : Packet) (i : ℕ) (old r : Region) (h : AtomicEth) (n word : ℕ) → AreHeld pool hs → AreKeyed hs → slice_get (regions_of pool hs) i ≡ Some old → d.atomic ≡ Some h → target_in (regions_of pool hs) domain d ≡ Some r
    → KeepsAt pool hs (around_with v domain qp (regions_of pool hs) unused) d i old (word_taking (around_with v domain qp (regions_of pool hs) unused) d r n h word)
unfolding word_taking
word-at pool hs v domain qp unused d i old r h n word are k there e t = word-keeps pool hs domain v.receiver unused d r h _ i old are k e (word-length (words.atomic_value d.opcode h word)) (atomic-target (regions_of pool hs) domain d h r e t) there

pub bounded : (pool : Pool) (hs : List RegisteredRegion) (domain : Name) (qp : ℕ) (v : Receiving) (unused : List Receive) (d : Packet) (i : ℕ) (old : Region) → Fits d → AreHeld pool hs → AreKeyed hs → IsSound hs domain v unused → slice_get (regions_of pool hs) i ≡ Some old
    → KeepsAt pool hs (around_with v domain qp (regions_of pool hs) unused) d i old (taking (around_with v domain qp (regions_of pool hs) unused) d)
bounded pool hs domain qp v unused d i old fits are k s there =
    let a = around_with v domain qp (regions_of pool hs) unused in
    let names = fits-names d fits in
    let same = kept domain v.receiver unused d (regions_of pool hs) i old there in
    by-rows a d (KeepsAt pool hs a d i old) (record {
      quiet = λ reply e. same;
      nak = same;
      reread = λ r h n before t. same;
      read = λ r h n now t. same;
      too_long = λ snd valid ready. short-at pool hs v domain qp unused d i old there;
      send = λ snd valid ready fit. send-at pool hs v domain qp unused d i old are k s there (send-there a d snd valid ready) fit;
      write = λ r w valid ready t. write-at pool hs v domain qp unused d i old r are k s there (names.write w) w valid t;
      word = λ r h n word now e t. word-at pool hs v domain qp unused d i old r h n word are k there e t;
    }) names
