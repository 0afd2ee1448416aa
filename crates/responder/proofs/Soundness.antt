-- A request leaves a responder sound beside its receives and regions.
use Rattle.std.proofs.Common.{◌≡◌, ℕ, ◌+◌, ◌-◌, ◌<◌, ◌≤◌, Bool, true, false, List, [], ◌∷◌, ◌++◌, length, drop, refl, ap, sym, ◌∙◌, arith, subst}
use Rattle.std.specs.Prelude.{◌==◌, ◌||◌, not, if◌then◌else◌, All, Option, Some, None, is_some, nat_lt}
use Rattle.std.proofs.Math.Nat.{mod_self, add-mod_right}
use Rattle.std.proofs.lemmas.Bool.Decides.{nat_tests}
use Rattle.std.proofs.lemmas.List.Elements.{All-tail, All-drop}
use Rattle.rdma_types.specs.declared.names.Name.{Name}
use Rattle.rdma_types.specs.declared.requests.Receive.{Receive}
use Rattle.rdma_types.specs.Limits.{most_bytes}
use Rattle.rdma_types.specs.Memory.{Grants, RemoteRead, RemoteWrite, Right, allows, granted, grants, remote_key}
use Rattle.rdma_types.specs.Objects.{Region, no_region}
use Rattle.rdma_types.specs.Spans.{pieces}
use Rattle.page_pool.specs.Pool.{Pool}
use Rattle.memory_keys.specs.declared.RegisteredRegion.{RegisteredRegion}
use Rattle.memory_keys.specs.Regions.{AreKeyed, IsSpot, held_at, regions_of}
use Rattle.memory_keys.proofs.Spots.{spot-inside}
use Rattle.protocol.specs.declared.wire.AtomicEth.{AtomicEth}
use Rattle.protocol.specs.declared.wire.Reth.{Reth}
use Rattle.protocol.specs.EndWords.{in_use_by, with_receiver}
use Rattle.protocol.specs.Lawful.{is_whole_pieces}
use Rattle.protocol.specs.Responder as words
use Rattle.protocol.specs.Responder.{Part, First, Middle, Last, Only, NoPart, bytes_before, finishes, front, is_bad_write, is_mistotalled, is_missized, is_not_ready, is_out_of_place, is_part, is_read_request, is_send, is_write, part_of, place_of, receive_of, same_kind, target, write_length}
use Rattle.protocol.specs.State.{Progress, NoMessage, InSend, InWrite, Receiver}
use Rattle.protocol.specs.Wire.{Packet}
use Rattle.responder.specs.declared.answers.Reply.{Reply}
use Rattle.responder.specs.declared.answers.Reply.TheVariants.{Ack, Acted, AtomicOld, DupAck, NotReady, ReadBytes, Refused, SequenceNak, Silent}
use Rattle.responder.specs.Sound.{IsPlace, IsSound, IsUnderWay}
use Rattle.responder.specs.Taken.{IsRead, is_bytes, target_in}
use Rattle.responder.specs.Taking.{Around, Taking, acted, bytes_of, executed_by, link_of, receive_in, receives, send_taking, spot_of, taking, too_long_taking, word_taking, write_taking}
use Rattle.responder.proofs.Cases.{Names, by-rows, reached}
use Rattle.responder.proofs.Counts.{send-there, write-uses-none}
use Rattle.responder.proofs.Granted.{first-held, granted-grants}
use Rattle.protocol.proofs.WriteSizes.{or-false, write-part}
use Rattle.responder.proofs.Kindly.{IsValid, and-false, send-part, write-not-send}

-- ---- granted places are spots

-- the region that is granted is held under its key
record IsGrantedHere (key_of : Region → ℕ) (hs : List RegisteredRegion) (domain : Name) (key at count : ℕ) (right : Right) (r : Region) : Type 0 where
  held : RegisteredRegion
  there : held_at r.keys.local hs ≡ Some held
  base : held.head.base ≡ r.base
  size : held.head.length ≡ r.length
  domain' : held.head.domain ≡ r.domain
  rights : held.head.rights ≡ r.rights
  grant : Grants key_of domain key at count right r

granted-here : (pool : Pool) (key_of : Region → ℕ) (hs : List RegisteredRegion) (domain : Name) (key at count : ℕ) (right : Right) (r : Region) → AreKeyed hs → granted key_of (regions_of pool hs) domain key at count right ≡ Some r → IsGrantedHere key_of hs domain key at count right r
unfolding granted
granted-here pool key_of hs domain key at count right r k e =
    let f = first-held pool hs (grants key_of domain key at count right) r k.distinct e in
    record {
      held = f.0;
      there = f.1.1;
      base = ap (λ x. x.base) f.1.0;
      size = ap (λ x. x.length) f.1.0;
      domain' = ap (λ x. x.domain) f.1.0;
      rights = ap (λ x. x.rights) f.1.0;
      grant = granted-grants key_of (regions_of pool hs) domain key at count right r e;
    }

reached-spot : (pool : Pool) (hs : List RegisteredRegion) (domain : Name) (h : Reth) (r : Region) (right : Right) → AreKeyed hs → (if h.length == 0 then Some no_region else granted remote_key (regions_of pool hs) domain h.rkey h.address h.length right) ≡ Some r → IsSpot hs (spot_of r h)
reached-spot pool hs domain h r right k e = by_test (h.length == 0) refl
  where
    by_test : (b : Bool) → (h.length == 0) ≡ b → IsSpot hs (spot_of r h)
    by_test true t = rw t (λ some. absurd (omega (arith, some)))
    by_test false t = rw t (
        let g = granted-here pool remote_key hs domain h.rkey h.address h.length right r k (rw t at e) in
        let inside = spot-inside hs r.keys.local h.address h.length g.held g.there (omega (arith, g.base, g.grant.low)) (omega (arith, g.base, g.size, g.grant.high)) in
        subst (λ b. IsSpot hs (record { region = r.keys.local; off = h.address - b; length = h.length })) g.base inside)

spot-length : (r : Region) (h : Reth) → (spot_of r h).length ≡ h.length
spot-length r h = by_test (h.length == 0) refl
  where
    by_test : (b : Bool) → (h.length == 0) ≡ b → (spot_of r h).length ≡ h.length
    by_test true t = rw t (sym (none h.length t))
      where
        none : (n : ℕ) → (n == 0) ≡ true → n ≡ 0
        none n t = grind (arith, nat_tests, t)
    by_test false t = rw t refl

-- ---- the bytes that answers hand out

read-none : (hs : List RegisteredRegion) (mtu : ℕ) (reply : Reply) → is_bytes reply ≡ false → IsRead hs mtu reply
read-none hs mtu Acted e = tt
read-none hs mtu Ack e = tt
read-none hs mtu (ReadBytes spot first count) e = absurd (cc)
read-none hs mtu (AtomicOld number old) e = tt
read-none hs mtu SequenceNak e = tt
read-none hs mtu NotReady e = tt
read-none hs mtu (Refused w) e = tt
read-none hs mtu DupAck e = tt
read-none hs mtu (Silent w) e = tt

acted-none : (hs : List RegisteredRegion) (mtu : ℕ) (d : Packet) → IsRead hs mtu (acted d)
acted-none hs mtu d = by_test (finishes (part_of d.opcode) || d.ack_request) refl
  where
    by_test : (b : Bool) → (finishes (part_of d.opcode) || d.ack_request) ≡ b → IsRead hs mtu (acted d)
    by_test true t = rw t tt
    by_test false t = rw t tt

read-some : (pool : Pool) (hs : List RegisteredRegion) (a : Around) → a.regions ≡ regions_of pool hs → AreKeyed hs → (r : Region) (h : Reth) (n : ℕ) → reached a h ≡ Some r → IsRead hs a.terms.mtu (bytes_of a r h n)
read-some pool hs a e k r h n t = (
  reached-spot pool hs a.domain h r RemoteRead k (subst (λ rs. (if h.length == 0 then Some no_region else granted remote_key rs a.domain h.rkey h.address h.length RemoteRead) ≡ Some r) e t),
  ap (λ l. pieces l a.terms.mtu) (sym (spot-length r h)),
)

send-none : (hs : List RegisteredRegion) (mtu : ℕ) (a : Around) (d : Packet) (r : Receive) (before : ℕ) → IsRead hs mtu (send_taking a d r before).reply
unfolding send_taking
send-none hs mtu a d r before = acted-none hs mtu d

write-none : (hs : List RegisteredRegion) (mtu : ℕ) (a : Around) (d : Packet) (p : words.Place) → IsRead hs mtu (write_taking a d p).reply
unfolding write_taking
write-none hs mtu a d p = acted-none hs mtu d

short-none : (hs : List RegisteredRegion) (mtu : ℕ) (a : Around) → IsRead hs mtu (too_long_taking a).reply
unfolding too_long_taking
short-none hs mtu a = tt

word-none : (hs : List RegisteredRegion) (mtu : ℕ) (a : Around) (d : Packet) (r : Region) (n : ℕ) (h : AtomicEth) (old : ℕ) → IsRead hs mtu (word_taking a d r n h old).reply
unfolding word_taking
word-none hs mtu a d r n h old = tt

pub read-after : (pool : Pool) (hs : List RegisteredRegion) (a : Around) (d : Packet) → a.regions ≡ regions_of pool hs → AreKeyed hs → Names d → IsRead hs a.terms.mtu (taking a d).reply
read-after pool hs a d e k names = by-rows a d (λ t. IsRead hs a.terms.mtu t.reply) (record {
  quiet = λ reply no. read-none hs a.terms.mtu reply no;
  nak = tt;
  reread = λ r h n before t. read-some pool hs a e k r h n t;
  read = λ r h n now t. read-some pool hs a e k r h n t;
  too_long = λ s valid ready. short-none hs a.terms.mtu a;
  send = λ s valid ready fits. send-none hs a.terms.mtu a d _ _;
  write = λ r w valid ready t. write-none hs a.terms.mtu a d _;
  word = λ r h n old now n' t. word-none hs a.terms.mtu a d r n h old;
}) names

-- ---- whole pieces

whole-one : (mtu : ℕ) → 0 < mtu → is_whole_pieces mtu mtu ≡ true
whole-one mtu h = let m = mod_self mtu in grind (arith, nat_tests, m)

plain-sum : (m s : ℕ) → s ≡ m → m ≡ 0 + s
plain-sum m s e = omega (arith, e)

whole-more : (mtu n : ℕ) → is_whole_pieces mtu n ≡ true → is_whole_pieces mtu (n + mtu) ≡ true
whole-more mtu n e = let m = add-mod_right n mtu in grind (arith, nat_tests, m, e)

-- a First or Middle has a whole piece
full : (q : Part) (size mtu : ℕ) → is_part q ≡ true → finishes q ≡ false → is_missized q size mtu ≡ false → size ≡ mtu
full First size mtu p f e = grind (arith, nat_tests, e)
full Middle size mtu p f e = grind (arith, nat_tests, e)
full Last size mtu p f e = absurd (cc)
full Only size mtu p f e = absurd (cc)
full NoPart size mtu p f e = absurd (cc)

not-false : (b : Bool) → not b ≡ false → b ≡ true
not-false true e = refl
not-false false e = absurd (cc)

send-whole : (hs : List RegisteredRegion) (domain : Name) (q : Part) (n mtu : ℕ) (p : Progress) → is_send n ≡ true → is_part q ≡ true → finishes q ≡ false → is_out_of_place q n p ≡ false → 0 < mtu → IsUnderWay hs domain mtu p → is_whole_pieces mtu (bytes_before None p + mtu) ≡ true
send-whole hs domain First n mtu NoMessage s part f out some m = subst (λ k. is_whole_pieces mtu k ≡ true) (plain-sum mtu mtu refl) (whole-one mtu some)
send-whole hs domain First n mtu (InSend done r) s part f out some m = absurd (cc)
send-whole hs domain First n mtu (InWrite region off count done) s part f out some m = absurd (cc)
send-whole hs domain Middle n mtu NoMessage s part f out some m = absurd (cc)
send-whole hs domain Middle n mtu (InSend done r) s part f out some m = whole-more mtu done m.pieces
send-whole hs domain Middle n mtu (InWrite region off count done) s part f out some m = absurd (let w : is_write n ≡ true = not-false (is_write n) out in let no = write-not-send n w in cc (s, no))
send-whole hs domain Last n mtu p s part f out some m = absurd (cc)
send-whole hs domain Only n mtu p s part f out some m = absurd (cc)
send-whole hs domain NoPart n mtu p s part f out some m = absurd (cc)

-- ---- rows

-- sound after a row
abbrev pub IsSoundAfter : List RegisteredRegion → Around → Taking → Type 0
IsSoundAfter hs a t = IsSound hs a.domain (record { terms = a.terms; receiver = t.receiver }) t.unused

sound-same : (hs : List RegisteredRegion) (a : Around) (reply : Reply) (r : Receiver) → IsSound hs a.domain (record { terms = a.terms; receiver = a.receiver }) a.unused → r.progress ≡ a.receiver.progress → IsSoundAfter hs a (receives a reply r)
sound-same hs a reply r s e = record {
  receives = subst (λ p. All (IsPlace hs a.domain) (in_use_by p ++ a.unused)) (sym e) s.receives;
  message = subst (λ p. IsUnderWay hs a.domain a.terms.mtu p) (sym e) s.message;
}

sound-short : (hs : List RegisteredRegion) (a : Around) → IsSound hs a.domain (record { terms = a.terms; receiver = a.receiver }) a.unused → IsSoundAfter hs a (too_long_taking a)
unfolding too_long_taking
sound-short hs a s = record { receives = All-drop (IsPlace hs a.domain) 1 (in_use_by a.receiver.progress ++ a.unused) s.receives; message = tt }

front-drop : (P : Receive → Type 0) (xs : List Receive) → All P xs → 0 < length xs → All P (front xs ∷ drop 1 xs)
front-drop P [] all h = absurd (omega arith)
front-drop P (x ∷ xs) all h = all

pub fits-receive : (l n : ℕ) → nat_lt l n ≡ false → n ≤ l
fits-receive l n e = grind (arith, nat_tests, e)

sound-send : (hs : List RegisteredRegion) (a : Around) (d : Packet) → 0 < a.terms.mtu → IsSound hs a.domain (record { terms = a.terms; receiver = a.receiver }) a.unused → is_send d.opcode ≡ true → IsValid (link_of a) d → 0 < length (in_use_by a.receiver.progress ++ a.unused) → nat_lt (receive_in a).length (bytes_before None a.receiver.progress + length d.payload) ≡ false → IsSoundAfter hs a (send_taking a d (receive_in a) (bytes_before None a.receiver.progress))
unfolding send_taking receive_of
sound-send hs a d some s snd valid there fits = by_test (finishes (part_of d.opcode)) refl
  where
    by_test : (b : Bool) → finishes (part_of d.opcode) ≡ b → IsSoundAfter hs a (send_taking a d (receive_in a) (bytes_before None a.receiver.progress))
    by_test true t = rw t (record { receives = All-drop (IsPlace hs a.domain) 1 (in_use_by a.receiver.progress ++ a.unused) s.receives; message = tt })
    by_test false t =
        let size : length d.payload ≡ a.terms.mtu = full (part_of d.opcode) (length d.payload) a.terms.mtu (send-part d.opcode snd) t valid.sized in
        let whole = send-whole hs a.domain (part_of d.opcode) d.opcode a.terms.mtu a.receiver.progress snd (send-part d.opcode snd) t valid.placed some s.message in
        rw t (record {
          receives = front-drop (IsPlace hs a.domain) (in_use_by a.receiver.progress ++ a.unused) s.receives there;
          message = record { pieces = subst (λ n. is_whole_pieces a.terms.mtu (bytes_before None a.receiver.progress + n) ≡ true) (sym size) whole; fits = fits-receive _ _ fits };
        })

all-right : (P : Receive → Type 0) (xs ys : List Receive) → All P (xs ++ ys) → All P ys
all-right P [] ys all = all
all-right P (x ∷ xs) ys all = all-right P xs ys (All-tail P x (xs ++ ys) all)

-- bytes are left after a First or Middle
left-over : (q : Part) (done count : ℕ) → is_part q ≡ true → finishes q ≡ false → is_mistotalled q done count ≡ false → done < count
left-over First done count p f e = grind (arith, nat_tests, e)
left-over Middle done count p f e = grind (arith, nat_tests, e)
left-over Last done count p f e = absurd (cc)
left-over Only done count p f e = absurd (cc)
left-over NoPart done count p f e = absurd (cc)

few-bytes : (n : ℕ) → nat_lt most_bytes n ≡ false → n ≤ most_bytes
few-bytes n e = grind (arith, nat_tests, e)

write-goes-on : (pool : Pool) (hs : List RegisteredRegion) (domain : Name) (mtu size : ℕ) (r : Region) (o : Option Reth) (p : Progress) → AreKeyed hs → 0 < mtu → size ≡ mtu → IsUnderWay hs domain mtu p
    → size + bytes_before o p < write_length o p → write_length o p ≤ most_bytes
    → ((h : Reth) → o ≡ Some h → 0 < h.length → granted remote_key (regions_of pool hs) domain h.rkey h.address h.length RemoteWrite ≡ Some r)
    → IsUnderWay hs domain mtu (InWrite (place_of r o p).region (place_of r o p).off (place_of r o p).length ((place_of r o p).done + size))
unfolding place_of
write-goes-on pool hs domain mtu size r (Some h) p k some is m left few grant =
    let g = granted-here pool remote_key hs domain h.rkey h.address h.length RemoteWrite r k (grant h refl (omega (arith, left))) in
    record {
      written = g.held;
      there = g.there;
      same_domain = g.domain' ∙ g.grant.same_domain;
      right = ap (λ x. allows x RemoteWrite) g.rights ∙ g.grant.allowed;
      inside = omega (arith, g.base, g.size, g.grant.low, g.grant.high);
      few = few;
      pieces = subst (λ n. is_whole_pieces mtu n ≡ true) (plain-sum mtu size is) (whole-one mtu some);
      unfinished = omega (arith, left);
    }
write-goes-on pool hs domain mtu size r None NoMessage k some is m left few grant = absurd (omega (arith, left))
write-goes-on pool hs domain mtu size r None (InSend done receive) k some is m left few grant = absurd (omega (arith, left))
write-goes-on pool hs domain mtu size r None (InWrite region off count done) k some is m left few grant = record {
  written = m.written;
  there = m.there;
  same_domain = m.same_domain;
  right = m.right;
  inside = m.inside;
  few = m.few;
  pieces = subst (λ n. is_whole_pieces mtu (done + n) ≡ true) (sym is) (whole-more mtu done m.pieces);
  unfinished = omega (arith, left);
}

-- the target of a WRITE is the region that its RETH is granted
pub write-target : (pool : Pool) (hs : List RegisteredRegion) (a : Around) (d : Packet) (r : Region) → a.regions ≡ regions_of pool hs → d.atomic ≡ None → is_write d.opcode ≡ true → target_in a.regions a.domain d ≡ Some r → (h : Reth) → d.reth ≡ Some h → 0 < h.length → granted remote_key (regions_of pool hs) a.domain h.rkey h.address h.length RemoteWrite ≡ Some r
unfolding target
write-target pool hs a d r e none w t h reth some =
    let no : is_read_request d.opcode ≡ false = write-no-read d.opcode w in
    let length' : (h.length == 0) ≡ false = grind (arith, nat_tests, some) in
    let t' : target_in (regions_of pool hs) a.domain d ≡ Some r = subst (λ rs. target_in rs a.domain d ≡ Some r) e t in
    rw (none, reth, length', no) at t'
  where
    write-no-read : (n : ℕ) → is_write n ≡ true → is_read_request n ≡ false
    write-no-read n w = grind (arith, nat_tests, w)

sound-write : (pool : Pool) (hs : List RegisteredRegion) (a : Around) (d : Packet) (r : Region) → a.regions ≡ regions_of pool hs → AreKeyed hs → d.atomic ≡ None → 0 < a.terms.mtu → IsSound hs a.domain (record { terms = a.terms; receiver = a.receiver }) a.unused → is_write d.opcode ≡ true → IsValid (link_of a) d → in_use_by a.receiver.progress ≡ [] → target_in a.regions a.domain d ≡ Some r → IsSoundAfter hs a (write_taking a d (place_of r d.reth a.receiver.progress))
unfolding write_taking
sound-write pool hs a d r e k none some s w valid idle t = by_test (finishes (part_of d.opcode)) refl (is_some d.imm) refl
  where
    rest : All (IsPlace hs a.domain) a.unused
    rest = all-right (IsPlace hs a.domain) (in_use_by a.receiver.progress) a.unused s.receives

    by_test : (b : Bool) → finishes (part_of d.opcode) ≡ b → (b' : Bool) → is_some d.imm ≡ b' → IsSoundAfter hs a (write_taking a d (place_of r d.reth a.receiver.progress))
    by_test true f true i = rw f (rw i (record { receives = All-drop (IsPlace hs a.domain) 1 a.unused rest; message = tt }))
    by_test true f false i = rw f (rw i (record { receives = rest; message = tt }))
    by_test false f b' i =
        let good = and-false _ _ w valid.written in
        let two = or-false _ _ good in
        let size : length d.payload ≡ a.terms.mtu = full (part_of d.opcode) (length d.payload) a.terms.mtu (write-part d.opcode w) f valid.sized in
        let left = left-over (part_of d.opcode) _ _ (write-part d.opcode w) f two.1 in
        let way = write-goes-on pool hs a.domain a.terms.mtu (length d.payload) r d.reth a.receiver.progress k some size s.message left (few-bytes _ two.0) (write-target pool hs a d r e none w t) in
        rw f (record { receives = rest; message = way })

executed-keeps : (a : Around) (d : Packet) → (executed_by a d).progress ≡ a.receiver.progress
unfolding words.executed with_receiver
executed-keeps a d = refl

sound-word : (hs : List RegisteredRegion) (a : Around) (d : Packet) (r : Region) (n : ℕ) (h : AtomicEth) (old : ℕ) → IsSound hs a.domain (record { terms = a.terms; receiver = a.receiver }) a.unused → IsSoundAfter hs a (word_taking a d r n h old)
unfolding word_taking words.executed with_receiver
sound-word hs a d r n h old s = record { receives = s.receives; message = s.message }

pub sound-after : (pool : Pool) (hs : List RegisteredRegion) (a : Around) (d : Packet) → a.regions ≡ regions_of pool hs → AreKeyed hs → 0 < a.terms.mtu → Names d → IsSound hs a.domain (record { terms = a.terms; receiver = a.receiver }) a.unused → IsSoundAfter hs a (taking a d)
sound-after pool hs a d e k some names s = by-rows a d (IsSoundAfter hs a) (record {
  quiet = λ reply no. sound-same hs a reply a.receiver s refl;
  nak = sound-same hs a SequenceNak (record a.receiver { nak_sent = true }) s refl;
  reread = λ r h n before t. sound-same hs a (bytes_of a r h n) a.receiver s refl;
  read = λ r h n now t. sound-same hs a (bytes_of a r h n) (executed_by a d) s (executed-keeps a d);
  too_long = λ snd valid ready. sound-short hs a s;
  send = λ snd valid ready fits. sound-send hs a d some s snd valid (send-there a d snd valid ready) fits;
  write = λ r w valid ready t. sound-write pool hs a d r e k (names.write w) some s w valid (write-uses-none d.opcode (part_of d.opcode) a.receiver.progress w (write-part d.opcode w) valid.placed) t;
  word = λ r h n old now n' t. sound-word hs a d r n h old s;
}) names
