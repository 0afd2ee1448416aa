-- A posting is refused since the packet numbers are used up only where 2 ^ 48 letters or more were sent; and no receive is refused so.
use Rattle.std.proofs.Common.{arith, ◌≡◌, ℕ, ◌+◌, ◌-◌, ◌*◌, ◌/◌, ◌≤◌, suc, List, [], ◌∷◌, length, drop, take, true, false, Bool, refl, sym, subst, ap, ◌∙◌, Some, None, Option, leb-true}
use Rattle.std.proofs.lemmas.List.{take-append-drop}
use Rattle.std.specs.Prelude.{All, if◌then◌else◌, map, max, nat_le, not, ◌&&◌}
use Rattle.std.proofs.lemmas.List.Elements.{All-cons, All-filter, All-head, All-nil, All-tail}
use Rattle.std.proofs.lemmas.Option.{same_Some}
use Rattle.rdma_types.specs.declared.answers.Answer.{Answer}
use Rattle.rdma_types.specs.declared.answers.Answer.TheVariants as answers
use Rattle.rdma_types.specs.declared.answers.Refusal.{Refusal}
use Rattle.rdma_types.specs.declared.answers.Refusal.TheVariants as refusals
use Rattle.rdma_types.specs.declared.names.ObjName.{ObjName}
use Rattle.rdma_types.specs.declared.requests.Receive.{Receive}
use Rattle.rdma_types.specs.declared.requests.Request.{Request}
use Rattle.rdma_types.specs.declared.requests.Shape.{Shape}
use Rattle.rdma_types.specs.Causes.{Cause, cause, first_cause}
use Rattle.rdma_types.specs.Kinds.{is_atomic}
use Rattle.rdma_types.specs.Limits.{is_mtu, most_bytes, number_limit}
use Rattle.rdma_types.specs.Objects.{Posted}
use Rattle.rdma_types.specs.Spans.{end_number, pieces, span}
use Rattle.protocol.specs.declared.events.Event.{Event}
use Rattle.protocol.specs.declared.events.Event.TheVariants as events
use Rattle.protocol.specs.declared.events.WorldEvent.TheVariants as world_events
use Rattle.protocol.specs.DeviceStep as device
use Rattle.protocol.specs.DeviceStep.{device_step}
use Rattle.protocol.specs.Refusals as refusing
use Rattle.protocol.specs.Requester.{end_of_queue}
use Rattle.protocol.specs.State.{Context, Device, End, Link, World, context_at, end_at}
use Rattle.protocol.specs.WorldStep as step
use Rattle.protocol.specs.WorldStep.{context_causes, context_of_event, home, is_carried, is_live, ran, runs, world_step}
use Rattle.packetless_machine.specs.Machine as machine
use Rattle.packetless_machine.specs.Machine.{Machine, has_context, has_end}
use Rattle.law_simulation.specs.Stands.{Stands}
use Rattle.law_simulation.proofs.relation.Verbs.{causes_are, stepped_at}
use Rattle.law_simulation.proofs.requests.Due.{mtu_is}
use Rattle.law_simulation.proofs.sending.GoEnding.{queue_ends}
use Rattle.law_simulation.proofs.sending.GoLive as going
use Rattle.law_simulation.proofs.sending.GoLive.{LiveEnd}
use Rattle.mailbox_rules.specs.declared.letters.Letter.{Letter}
use Rattle.mailbox_rules.specs.Letters.{is_rendezvous}
use Rattle.mailbox_rules.specs.Working.{is_too_many}
use Rattle.law_mailbox.specs.Flagged.{most_letters}
use Rattle.law_mailbox.specs.Headers.{IsLetter}
use Rattle.law_mailbox.specs.Kept.{AreSendsKept, IsQueueOfReceiver, freed_as, long_letters, read_as, requests_for, sent_as}
use Rattle.law_mailbox.proofs.connection.Places.{all_front}
use Rattle.law_mailbox.proofs.connection.Quiet.{posted_few}
use Rattle.law_mailbox.proofs.work.Staged.{message_fits}

-- ---- causes of which this one is

-- where this cause holds, and is that the numbers are used up, P is true
record IsSuch (P : Type 0) (c : Cause) : Type 0 where
  such : c.holds ≡ true → is_too_many (answers.Refused c.refusal) ≡ true → P

abbrev AreSuch : Type 0 → List Cause → Type 0
AreSuch P [] = Unit {0}
AreSuch P (c ∷ cs) = IsSuch P c × AreSuch P cs

first_such : (P : Type 0) (cs : List Cause) → AreSuch P cs → (r : Refusal) → first_cause cs ≡ Some r → is_too_many (answers.Refused r) ≡ true → P
unfolding first_cause
first_such P [] all r e many = cc
first_such P (c ∷ cs) all r e many = by c.holds refl (first_such P cs all.1) e
  where
    by : (b : Bool) → c.holds ≡ b → ((x : Refusal) → first_cause cs ≡ Some x → is_too_many (answers.Refused x) ≡ true → P) → (if b then Some c.refusal else first_cause cs) ≡ Some r → P
    by true holds rest f = let same : c.refusal ≡ r = same_Some c.refusal r f in all.0.such holds (subst (λ (x : Refusal). is_too_many (answers.Refused x) ≡ true) (sym same) many)
    by false holds rest f = rest r f many

other : (P : Type 0) (r : Refusal) (b : Bool) → is_too_many (answers.Refused r) ≡ false → IsSuch P (cause r b)
other P r b e = record { such = λ holds many. let f : true ≡ false = sym many ∙ e in cc }

-- ---- a request, and a receive

-- a refusal by the world itself is for another reason
lives_then : (l k : Bool) → ◌≡◌ {A = Option Refusal} (if l then None else if k then Some refusals.Stopped else Some refusals.NoSuch) None → l ≡ true
lives_then true k e = refl
lives_then false true e = cc
lives_then false false e = cc

outer : (w : World) (P : Type 0) (ev : Event) → (is_live w (context_of_event ev) ≡ true → is_too_many (runs w (home w (context_of_event ev)) ev).answer ≡ true → P) → is_too_many (world_step w (world_events.At ev)).answer ≡ true → P
outer w P ev inner many = by (first_cause (context_causes w (context_of_event ev) [])) refl
  where
    by : (x : Option Refusal) → first_cause (context_causes w (context_of_event ev) []) ≡ x → P
    by (Some q) e =
        first_such P (context_causes w (context_of_event ev) []) (other P refusals.NoSuch _ refl, (other P refusals.Stopped _ refl, tt)) q e
        (subst (λ (s : step.Step). is_too_many s.answer ≡ true) (stepped_at w ev (Some q) e) many)
    by None e =
        inner (lives_then (is_live w (context_of_event ev)) (is_carried w (context_of_event ev)) (sym (causes_are w (context_of_event ev)) ∙ e))
        (subst (λ (s : step.Step). is_too_many s.answer ≡ true) (stepped_at w ev None e) many)

-- where the device refuses the request so, its numbers are past the limit
sends_such : (d : Device) (o : ObjName) (r : Request) → AreSuch (refusing.is_past_limit (end_at (context_at d o.context) o.name).link r ≡ true) (refusing.causes_of d (events.PostSend o r))
sends_such d o r =
    let P : Type 0 = refusing.is_past_limit (end_at (context_at d o.context) o.name).link r ≡ true in (
      other P refusals.NoSuch _ refl,
      (
        other P refusals.Stopped _ refl,
        (
          other P refusals.NoSuch _ refl,
          (
            record { such = λ holds many. holds },
            (other P refusals.BadState _ refl, (other P refusals.TooLong _ refl, (other P refusals.BadKey _ refl, (other P refusals.SqFull _ refl, (other P refusals.CqFull _ refl, (other P refusals.NoPage _ refl, tt)))))),
          ),
        ),
      ),
    )

-- and no receive is refused so
receives_such : (d : Device) (o : ObjName) (v : Receive) → AreSuch ⊥ (refusing.causes_of d (events.PostRecv o v))
receives_such d o v =
    (other ⊥ refusals.NoSuch _ refl, (other ⊥ refusals.Stopped _ refl, (other ⊥ refusals.NoSuch _ refl, (other ⊥ refusals.TooLong _ refl, (other ⊥ refusals.BadKey _ refl, (other ⊥ refusals.RqFull _ refl, (other ⊥ refusals.CqFull _ refl, tt)))))))

send_done : (w : World) (d : Device) (c : Context) (e : End) (r : Request) (l : Option Link) → (ran w (device.posts_at d c e l r)).answer ≡ answers.Done
unfolding ran step.numbered
send_done w d c e r None = refl
send_done w d c e r (Some l) = refl

send_refused : (w : World) (d : Device) (o : ObjName) (r : Request) → is_too_many (runs w d (events.PostSend o r)).answer ≡ true → refusing.is_past_limit (end_at (context_at d o.context) o.name).link r ≡ true
unfolding device_step refusing.refusal_of ran step.numbered device.posts
send_refused w d o r many = by (refusing.refusal_of d (events.PostSend o r)) refl many
  where
    by : (x : Option Refusal) → refusing.refusal_of d (events.PostSend o r) ≡ x → is_too_many (ran w (device.by_refusal d (events.PostSend o r) x)).answer ≡ true → refusing.is_past_limit (end_at (context_at d o.context) o.name).link r ≡ true
    by (Some q) e f = first_such (refusing.is_past_limit (end_at (context_at d o.context) o.name).link r ≡ true) (refusing.causes_of d (events.PostSend o r)) (sends_such d o r) q e f
    by None e f =
        let c : Context = context_at d o.context in
        let x : End = end_at c o.name in
        let no : is_too_many answers.Done ≡ true = subst (λ (a : Answer). is_too_many a ≡ true) (send_done w d c x r x.link) f in
        cc

receive_refused : (w : World) (d : Device) (o : ObjName) (v : Receive) → is_too_many (runs w d (events.PostRecv o v)).answer ≡ true → ⊥
unfolding device_step refusing.refusal_of ran step.numbered device.receives
receive_refused w d o v many = by (refusing.refusal_of d (events.PostRecv o v)) refl many
  where
    by : (x : Option Refusal) → refusing.refusal_of d (events.PostRecv o v) ≡ x → is_too_many (ran w (device.by_refusal d (events.PostRecv o v) x)).answer ≡ true → ⊥
    by (Some q) e f = first_such ⊥ (refusing.causes_of d (events.PostRecv o v)) (receives_such d o v) q e f
    by None e f = cc

pub receives_never : (w : World) (o : ObjName) (v : Receive) → is_too_many (world_step w (world_events.At (events.PostRecv o v))).answer ≡ true → ⊥
receives_never w o v many = outer w ⊥ (events.PostRecv o v) (λ live f. receive_refused w (home w o.context) o v f) many

-- ---- the machine's end

-- with this request the numbers of the end would come to the limit
record IsPast (q : machine.End) (r : Request) : Type 0 where
  past : number_limit ≤ end_number q.posted q.mtu + span r.shape q.mtu
  mtu : is_mtu q.mtu ≡ true

limit_of : (w : World) (m : Machine) (o : ObjName) (r : Request) → Stands w m → is_live w o.context ≡ true → has_context m o.context ≡ true → has_end m o ≡ true →
    (l : Option Link) → (end_at (context_at (home w o.context) o.context) o.name).link ≡ l → refusing.is_past_limit l r ≡ true → IsPast (machine.end_of m o) r
limit_of w m o r s live there found None linked past = cc
limit_of w m o r s live there found (Some l) linked past =
    let h : LiveEnd w m o l = record { live = live; there = there; found = found; linked = linked } in
    let parts = both_are (not l.ended) (nat_le number_limit (end_of_queue l.terms l.sender + span r.shape l.terms.mtu)) past in
    let alive : l.ended ≡ false = not_so l.ended parts.0 in
    let high : number_limit ≤ end_of_queue l.terms l.sender + span r.shape l.terms.mtu = leb-true number_limit (end_of_queue l.terms l.sender + span r.shape l.terms.mtu) parts.1 in
    let mtu : l.terms.mtu ≡ (machine.end_of m o).mtu = going.mtu_is w m o l s h in
    let ends : end_of_queue l.terms l.sender ≡ end_number (machine.end_of m o).posted (machine.end_of m o).mtu =
    queue_ends l l.sender (machine.end_of m o) mtu (going.untold_here w m o l s h) (going.sends_here w m o l s h alive).first (going.sound_here w m o l s h).sound.told_posted in
    let spans : span r.shape l.terms.mtu ≡ span r.shape (machine.end_of m o).mtu = ap (span r.shape) mtu in
    record { past = omega (arith, high, ends, spans); mtu = subst (λ (k : ℕ). is_mtu k ≡ true) (going.joined_here w m o l s h).mtu (going.joined_here w m o l s h).terms.mtu }
  where
    both_are : (a b : Bool) → (a && b) ≡ true → (a ≡ true) × (b ≡ true)
    both_are true b e = (refl, e)
    both_are false b e = cc

    not_so : (b : Bool) → not b ≡ true → b ≡ false
    not_so true e = cc
    not_so false e = refl

refused_past : (w : World) (m : Machine) (o : ObjName) (r : Request) → Stands w m → has_context m o.context ≡ true → has_end m o ≡ true → is_too_many (world_step w (world_events.At (events.PostSend o r))).answer ≡ true → IsPast (machine.end_of m o) r
refused_past w m o r s there found many =
    outer w (IsPast (machine.end_of m o) r) (events.PostSend o r)
    (λ live f. limit_of w m o r s live there found (end_at (context_at (home w o.context) o.context) o.name).link refl (send_refused w (home w o.context) o r f)) many

-- ---- so many numbers are those of so many requests

pieces_few : (n mtu : ℕ) → n ≤ most_bytes → is_mtu mtu ≡ true → pieces n mtu ≤ 4096
unfolding pieces
pieces_few n mtu small is =
    mtu_is (λ k. max 1 ((n + (k - 1)) / k) ≤ 4096)
    (omega (arith, small)) (omega (arith, small)) (omega (arith, small)) (omega (arith, small)) (omega (arith, small)) mtu is

span_few : (shape : Shape) (mtu : ℕ) → shape.length ≤ most_bytes → is_mtu mtu ≡ true → span shape mtu ≤ 4096
unfolding span
span_few shape mtu small is = by (is_atomic shape.kind)
  where
    by : (b : Bool) → (if b then 1 else pieces shape.length mtu) ≤ 4096
    by true = omega arith
    by false = pieces_few shape.length mtu small is

abbrev IsShort : Posted → Type 0
IsShort p = p.request.shape.length ≤ most_bytes

end_few : (ps : List Posted) (mtu : ℕ) → All IsShort ps → is_mtu mtu ≡ true → end_number ps mtu ≤ 4096 * length ps
unfolding end_number
end_few [] mtu all is = omega arith
end_few (p ∷ ps) mtu all is =
    let one = span_few p.request.shape mtu (All-head IsShort p ps all) is in
    let rest = end_few ps mtu (All-tail IsShort p ps all) is in
    omega (arith, one, rest)

many_letters : (posted sent numbers more : ℕ) → posted ≤ 2 * sent → numbers ≤ 4096 * posted → more ≤ 4096 → number_limit ≤ numbers + more → most_letters ≤ sent
many_letters posted sent numbers more a b c d = omega (arith, a, b, c, d)

-- ---- what the ends of a connection have posted

short_front : (n : ℕ) (ps : List Posted) → All IsShort ps → All IsShort (take n ps)
short_front n ps all = all_front IsShort (take n ps) (drop n ps) (subst (All IsShort) (sym (take-append-drop n ps)) all)

sends_short : (i : ℕ) (ls : List Letter) → All IsShort (map (sent_as i) ls)
sends_short i [] = All-nil IsShort
sends_short i (l ∷ ls) = All-cons IsShort (sent_as i l) (map (sent_as i) ls) (let fits = message_fits i l in omega (arith, fits)) (sends_short i ls)

requests_short : (i : ℕ) (ls : List Letter) → All IsLetter ls → All IsShort (requests_for i ls)
requests_short i [] all = All-nil IsShort
requests_short i (l ∷ ls) all =
    let fits = (All-head IsLetter l ls all).body_fits in
    All-cons IsShort (read_as i l) (freed_as ∷ requests_for i ls) (omega (arith, fits)) (All-cons IsShort freed_as (requests_for i ls) (omega arith) (requests_short i ls (All-tail IsLetter l ls all)))

long_within : (ls : List Letter) → length (long_letters ls) ≤ length ls
long_within [] = omega arith
long_within (l ∷ ls) = by (long_within ls) (is_rendezvous l.body)
  where
    by : length (long_letters ls) ≤ length ls → (b : Bool) → length (if b then l ∷ long_letters ls else long_letters ls) ≤ suc (length ls)
    by ih true = omega (arith, ih)
    by ih false = omega (arith, ih)

module _ (w : World) (m : Machine) (s : Stands w m) (o : ObjName) (there : has_context m o.context ≡ true) (found : has_end m o ≡ true) (i : ℕ) (sent : List Letter) (r : Request) (small : r.shape.length ≤ most_bytes)
    (many : is_too_many (world_step w (world_events.At (events.PostSend o r))).answer ≡ true) where
  past : IsPast (machine.end_of m o) r
  past = refused_past w m o r s there found many

  pub sender_used_up : (acted : ℕ) (ended : Bool) → AreSendsKept i (machine.end_of m o).posted acted ended sent → most_letters ≤ length sent
  sender_used_up acted ended h =
      let ps : List Posted = (machine.end_of m o).posted in
      let short : All IsShort (machine.end_of m o).posted = subst (All IsShort) (sym h.queue_of_sender) (short_front (length (machine.end_of m o).posted) (map (sent_as i) sent) (sends_short i sent)) in
      let within = h.posted_within in
      many_letters (length ps) (length sent) (end_number ps (machine.end_of m o).mtu) (span r.shape (machine.end_of m o).mtu) (omega (arith, within)) (end_few ps (machine.end_of m o).mtu short past.mtu) (span_few r.shape (machine.end_of m o).mtu small past.mtu) past.past

  pub receiver_used_up : All IsLetter sent → IsQueueOfReceiver i (machine.end_of m o).posted sent → most_letters ≤ length sent
  receiver_used_up letters queue =
      let ps : List Posted = (machine.end_of m o).posted in
      let long : All IsLetter (long_letters sent) = All-filter (λ (l : Letter). is_rendezvous l.body) IsLetter sent letters in
      let short : All IsShort (machine.end_of m o).posted = subst (All IsShort) (sym queue) (short_front (length (machine.end_of m o).posted) (requests_for i (long_letters sent)) (requests_short i (long_letters sent) long)) in
      let few = posted_few i ps sent queue in
      let within = long_within sent in
      many_letters (length ps) (length sent) (end_number ps (machine.end_of m o).mtu) (span r.shape (machine.end_of m o).mtu) (omega (arith, few, within)) (end_few ps (machine.end_of m o).mtu short past.mtu) (span_few r.shape (machine.end_of m o).mtu small past.mtu) past.past
