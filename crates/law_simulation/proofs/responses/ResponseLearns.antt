-- What the owner of an end learns where it knows all numbers below one: which requests are told, and which bytes known.
use Rattle.std.proofs.Common.{arith, ◌≡◌, ◌≤◌, ◌<◌, ◌+◌, ◌-◌, ◌*◌, ◌/◌, ◌%◌, ℕ, zero, suc, List, [], ◌∷◌, ◌++◌, length, get_or, true, false, Bool, refl, sym, ap, ◌∙◌, subst, inl, inr}
use Rattle.std.specs.Prelude.{Option, Some, None, drop, slice_get, nat_lt, ◌==◌, if◌then◌else◌}
use Rattle.std.proofs.lemmas.Bool.Decides.{nat_tests, leb_tells, eqb_tells}
use Rattle.std.proofs.lemmas.List.{length-drop, get_or-drop}
use Rattle.rdma_types.specs.declared.names.ObjName.{ObjName}
use Rattle.rdma_types.specs.declared.requests.Kind.{Kind}
use Rattle.rdma_types.specs.declared.requests.Kind.TheVariants.{Write, Send, Read, CompareSwap, FetchAdd}
use Rattle.rdma_types.specs.Kinds.{is_atomic, kind_of, lands, size_of}
use Rattle.rdma_types.specs.Limits.{is_mtu}
use Rattle.rdma_types.specs.Objects.{Posted, no_posted}
use Rattle.rdma_types.specs.Spans.{span_of, first_number, end_number, next_landing, piece_of, request_of}
use Rattle.packetless_machine.specs.declared.reply.Reply.{Reply}
use Rattle.packetless_machine.specs.declared.reply.Reply.TheVariants.{Finished, OldValue, Denied}
use Rattle.packetless_machine.specs.Machine.{End, posted_at}
use Rattle.packetless_machine.specs.Numbers.{due, oldest, barrier}
use Rattle.packetless_machine.specs.Sound.{IsSound, IsReplyTo}
use Rattle.packetless_machine.specs.Steps.{current, front, in_place, told_one, with_known}
use Rattle.law_simulation.specs.Carries.{piece_at, request_at}
use Rattle.law_simulation.specs.Joined.{AreWholePieces}
use Rattle.law_simulation.specs.Named.{known_bytes, learning, tells}
use Rattle.law_simulation.proofs.relation.Numbers.{first-rest}
use Rattle.law_simulation.proofs.sending.GoEnd.{gone_end}
use Rattle.law_simulation.proofs.sending.GoNumbers.{first_mono, mtu_is}
use Rattle.law_simulation.proofs.sending.GoPieces.{first-drop, head_dropped, known_within}
use Rattle.law_simulation.proofs.sending.GoSound.{MayKnow, known_already}
use Rattle.law_simulation.proofs.responses.ResponseNumbers.{IsOfFirst, bytes_inside, bytes_less, bytes_within, none_land, part_stays, piece_begins, piece_inside, pieces_back, request_begins, request_end, request_first, request_high, request_inside, request_low, request_within, whole_bytes}
use Rattle.law_simulation.proofs.responses.ResponseTold.{LastOf, MayHear, MayTell, known_by, known_last, told_by}

-- ---- kinds

pub not_atomic : (k : Kind) → lands k ≡ false → is_atomic k ≡ false
not_atomic Write h = refl
not_atomic Send h = refl
not_atomic Read h = refl
not_atomic CompareSwap h = absurd (cc)
not_atomic FetchAdd h = absurd (cc)

pub atomic_lands : (k : Kind) → is_atomic k ≡ true → lands k ≡ true
atomic_lands Write h = absurd (cc)
atomic_lands Send h = absurd (cc)
atomic_lands Read h = absurd (cc)
atomic_lands CompareSwap h = refl
atomic_lands FetchAdd h = refl

finished : (r : Posted) (a : Option Reply) → is_atomic (kind_of r) ≡ false → IsReplyTo r a → a ≡ Some Finished
finished r None h t = absurd t
finished r (Some Finished) h t = refl
finished r (Some (OldValue value)) h t = absurd (cc (h, t))
finished r (Some (Denied why)) h t = absurd t

-- ---- numbers

pub landing-drop : (posted : List Posted) (mtu told r : ℕ) → next_landing posted mtu (first_number posted mtu told + r) ≡ first_number posted mtu told + next_landing (drop told posted) mtu r
unfolding next_landing first_number
landing-drop [] mtu zero r = refl
landing-drop [] mtu (suc told) r = refl
landing-drop (p ∷ posted) mtu zero r = let same : 0 + r ≡ r = omega arith in ap (next_landing (p ∷ posted) mtu) same ∙ omega arith
landing-drop (p ∷ posted) mtu (suc told) r =
    let less : (span_of p mtu + first_number posted mtu told) + r - span_of p mtu ≡ first_number posted mtu told + r = omega arith in
    let past : nat_lt ((span_of p mtu + first_number posted mtu told) + r) (span_of p mtu) ≡ false = grind (arith, nat_tests, leb_tells (suc ((span_of p mtu + first_number posted mtu told) + r)) (span_of p mtu)) in
    ap (λ b. if b then (if lands (kind_of p) then (span_of p mtu + first_number posted mtu told) + r else span_of p mtu + next_landing posted mtu 0) else span_of p mtu + next_landing posted mtu ((span_of p mtu + first_number posted mtu told) + r - span_of p mtu)) past
    ∙ (ap (λ k. span_of p mtu + next_landing posted mtu k) less ∙ omega (arith, landing-drop posted mtu told r))

pub first_next : (posted : List Posted) (mtu i : ℕ) → i < length posted → first_number posted mtu (suc i) ≡ first_number posted mtu i + span_of (get_or posted i no_posted) mtu
unfolding first_number
first_next [] mtu i h = absurd (omega (arith, h))
first_next (p ∷ posted) mtu zero h = omega (arith, none posted)
  where
    none : (rs : List Posted) → first_number rs mtu 0 ≡ 0
    none [] = refl
    none (r ∷ rs) = refl
first_next (p ∷ posted) mtu (suc i) h = omega (arith, first_next posted mtu i (omega (arith, h)))

first_zero : (posted : List Posted) (mtu : ℕ) → first_number posted mtu 0 ≡ 0
unfolding first_number
first_zero [] mtu = refl
first_zero (p ∷ posted) mtu = refl

pub none_before : (us : List Posted) (mtu r : ℕ) → IsOfFirst us mtu r → request_of us mtu r ≡ 0
unfolding request_of
none_before [] mtu r first = refl
none_before (p ∷ us) mtu r first = request_first p us mtu r (first p us refl)

some_bytes : (mtu k : ℕ) → is_mtu mtu ≡ true → 1 ≤ k → 0 < k * mtu
some_bytes mtu k h l = mtu_is (λ m. 0 < k * m) (omega (arith, l)) (omega (arith, l)) (omega (arith, l)) (omega (arith, l)) (omega (arith, l)) mtu h

zero_bytes : (mtu : ℕ) → is_mtu mtu ≡ true → 0 / mtu ≡ 0
zero_bytes mtu h = mtu_is (λ m. 0 / m ≡ 0) refl refl refl refl refl mtu h

zero_whole : (mtu : ℕ) → is_mtu mtu ≡ true → 0 % mtu ≡ 0
zero_whole mtu h = mtu_is (λ m. 0 % m ≡ 0) refl refl refl refl refl mtu h

-- ---- the end whose next requests are told

-- what is left of a count or of known bytes
left : ℕ → ℕ → ℕ
left n zero = n
left n (suc count) = 0

told_as : (e : End) (count : ℕ) → told_by e count ≡ gone_end e (e.told + count) (left e.known count) (left e.spent count) (left e.waits count) e.ended
unfolding told_by left told_one
told_as e zero = let same : e.told ≡ e.told + 0 = omega arith in ap (λ k. record e { told = k }) same
told_as e (suc zero) = let same : suc e.told ≡ e.told + 1 = omega arith in ap (λ k. gone_end e k 0 0 0 e.ended) same
told_as e (suc (suc count)) = let same : suc e.told + suc count ≡ e.told + suc (suc count) = omega arith in told_as (told_one e) (suc count) ∙ ap (λ k. gone_end e k 0 0 0 e.ended) same

may_tell_all : (count : ℕ) (e : End) → e.told + count ≤ e.acted → e.acted ≤ length e.posted → ((i : ℕ) → i < e.acted → IsReplyTo (posted_at e.posted i) (slice_get e.answers i)) → ((i : ℕ) → e.told ≤ i → i < e.told + count → lands (kind_of (posted_at e.posted i)) ≡ false) → MayTell e count
unfolding MayTell told_one
may_tell_all zero e acted posted replies stays = tt
may_tell_all (suc count) e acted posted replies stays =
    let here : lands (kind_of (front e)) ≡ false = stays e.told (omega arith) (omega arith) in (
      record {
        there = omega (arith, acted, posted);
        acted = omega (arith, acted);
        stays = here;
        answer = finished (front e) (slice_get e.answers e.told) (not_atomic (kind_of (front e)) here) (replies e.told (omega (arith, acted)));
      },
      may_tell_all count (told_one e) (omega (arith, acted)) posted replies (λ i low high. stays i (omega (arith, low)) (omega (arith, high))),
    )

-- ---- the steps by name

-- nothing new
none_named : (o : ObjName) (e : End) → tells o 0 ++ known_last o None ≡ learning o e (oldest e)
unfolding learning tells known_last
none_named o e = sym (ap (λ b. if b then tells o (request_at e (oldest e) - e.told) ++ known_bytes o (piece_at e (oldest e) * e.mtu) else []) (not_less (oldest e)))
  where
    not_less : (k : ℕ) → nat_lt k k ≡ false
    not_less k = grind (arith, nat_tests, leb_tells (suc k) k)

-- so many requests are told, and then bytes of the next one are known
more_named : (o : ObjName) (e : End) (n count : ℕ) (last : Option ℕ) → oldest e < n → request_at e n ≡ e.told + count → known_last o last ≡ known_bytes o (piece_at e n * e.mtu) → tells o count ++ known_last o last ≡ learning o e n
unfolding learning
more_named o e n count last more at bytes =
    let less : nat_lt (oldest e) n ≡ true = grind (arith, nat_tests, leb_tells (suc (oldest e)) n) in
    let many : count ≡ request_at e n - e.told = omega (arith, at) in
    ap (λ z. tells o count ++ z) bytes
    ∙ (ap (λ k. tells o k ++ known_bytes o (piece_at e n * e.mtu)) many
    ∙ sym (ap (λ b. if b then tells o (request_at e n - e.told) ++ known_bytes o (piece_at e n * e.mtu) else []) less))

-- none are
no_bytes : (o : ObjName) (mtu k : ℕ) → k ≡ 0 → known_last o None ≡ known_bytes o (k * mtu)
unfolding known_last known_bytes
no_bytes o mtu k h = let none : k * mtu ≡ 0 = ap (λ j. j * mtu) h ∙ omega arith in sym (ap (known_bytes o) none)

-- .. or some
some_known : (o : ObjName) (bytes : ℕ) → 0 < bytes → known_last o (Some bytes) ≡ known_bytes o bytes
unfolding known_last known_bytes
some_known o zero h = absurd (omega (arith, h))
some_known o (suc bytes) h = refl

-- ---- what is learned

-- the owner of f learns that all numbers below n are in place
pub record Learns (f : End) (n : ℕ) : Type 0 where
  pub count : ℕ
  pub last : Option ℕ
  pub known : ℕ
  pub spent : ℕ
  pub waits : ℕ
  pub is : known_by (told_by f count) last ≡ gone_end f (f.told + count) known spent waits f.ended
  pub may : MayTell f count
  pub last_may : LastOf (told_by f count) last
  pub count_is : count ≡ request_of (drop f.told f.posted) f.mtu (n - first_number f.posted f.mtu f.told)
  pub knows : MayKnow f (f.told + count) known
  pub oldest_is : first_number f.posted f.mtu (f.told + count) + known / f.mtu ≡ n
  pub telling : AreWholePieces f.mtu (posted_at f.posted (f.told + count)) known
  pub named : (o : ObjName) → tells o count ++ known_last o last ≡ learning o f n
  pub fresh : oldest f < n → (spent ≡ 0) × (waits ≡ 0)
  pub still : oldest f ≡ n → (spent ≡ f.spent) × (waits ≡ f.waits)

module _ (f : End) (sound : IsSound f) (mtu : is_mtu f.mtu ≡ true) (alive : f.ended ≡ false) (telling : AreWholePieces f.mtu (front f) f.known) where
  abbrev us : List Posted
  us = drop f.told f.posted

  abbrev first : ℕ
  first = first_number f.posted f.mtu f.told

  pub known_first : IsOfFirst us f.mtu (f.known / f.mtu)
  known_first p rest e = subst (λ r. f.known / f.mtu < span_of r f.mtu) (head_dropped f.posted f.told p rest e) (known_within (front f) f.mtu f.known mtu sound.whole_atomics telling.1)

  barrier_is : barrier f ≡ first + next_landing us f.mtu (f.known / f.mtu)
  unfolding barrier oldest
  barrier_is = landing-drop f.posted f.mtu f.told (f.known / f.mtu)

  -- nothing new
  pub learns_none : Learns f (oldest f)
  unfolding oldest told_by known_by MayTell LastOf
  learns_none =
      let same : f.told ≡ f.told + 0 = omega arith in
      let less : first + f.known / f.mtu - first ≡ f.known / f.mtu = omega arith in
      record {
        count = 0;
        last = None;
        known = f.known;
        spent = f.spent;
        waits = f.waits;
        is = ap (λ k. record f { told = k }) same;
        may = tt;
        last_may = tt;
        count_is = sym (ap (request_of us f.mtu) less ∙ none_before us f.mtu (f.known / f.mtu) known_first);
        knows = subst (λ k. MayKnow f k f.known) same (known_already f sound alive);
        oldest_is = ap (λ k. first_number f.posted f.mtu k + f.known / f.mtu) (sym same);
        telling = subst (λ k. AreWholePieces f.mtu (posted_at f.posted k) f.known) same telling;
        named = λ o. none_named o f;
        fresh = λ h. absurd (omega (arith, h));
        still = λ h. (refl, refl);
      }

  module _ (n : ℕ) (more : oldest f < n) (within : n ≤ barrier f) (acts : n ≤ due f) (posted : due f ≤ end_number f.posted f.mtu) where
    abbrev m : ℕ
    m = n - first

    abbrev j : ℕ
    j = request_of us f.mtu m

    low : first < n
    unfolding oldest
    low = omega (arith, more)

    past_known : f.known / f.mtu < m
    unfolding oldest
    past_known = omega (arith, more)

    before_landing : m ≤ next_landing us f.mtu (f.known / f.mtu)
    before_landing = omega (arith, within, barrier_is, low)

    us_length : length us ≡ length f.posted - f.told
    us_length = length-drop f.told f.posted

    -- where the request begins
    begins : first_number f.posted f.mtu (f.told + j) ≡ first + first_number us f.mtu j
    begins =
        let back : (f.told + j) - f.told ≡ j = omega arith in
        sym (first-drop f.posted f.mtu f.told (f.told + j) (omega arith)) ∙ ap (λ k. first + first_number us f.mtu k) back

    at_most : first_number us f.mtu j ≤ m
    at_most = request_low us f.mtu m

    acted_after : f.told + j ≤ f.acted
    unfolding due
    acted_after = by_order (nat_lt f.acted (f.told + j)) refl
      where
        by_order : (b : Bool) → nat_lt f.acted (f.told + j) ≡ b → f.told + j ≤ f.acted
        by_order false t = grind (arith, nat_tests, leb_tells (suc f.acted) (f.told + j), t)
        by_order true t =
            let less : f.acted < f.told + j = grind (arith, nat_tests, leb_tells (suc f.acted) (f.told + j), t) in
            let inside : f.acted < length f.posted = omega (arith, less, request_within us f.mtu m, us_length, sound.told_posted) in
            let turn : f.into / f.mtu < span_of (current f) f.mtu = known_within (current f) f.mtu f.into mtu (λ a. sound.whole_turns (atomic_lands (kind_of (current f)) a)) sound.unfinished in
            absurd (omega (arith, first_mono f.posted f.mtu (suc f.acted) (f.told + j) less, first_next f.posted f.mtu f.acted inside, turn, begins, at_most, low, acts))

    stays_before : (i : ℕ) → f.told ≤ i → i < f.told + j → lands (kind_of (posted_at f.posted i)) ≡ false
    stays_before i l h =
        let back : f.told + (i - f.told) ≡ i = omega (arith, l) in
        ap (λ k. lands (kind_of (posted_at f.posted k))) (sym back)
        ∙ (ap (λ r. lands (kind_of r)) (sym (get_or-drop f.told f.posted (i - f.told) no_posted))
        ∙ none_land us f.mtu (f.known / f.mtu) m (i - f.told) known_first before_landing (omega (arith, l, h)))

    may_all : MayTell f j
    may_all = may_tell_all j f acted_after sound.acted_posted sound.replies stays_before

    -- its request, and which of its pieces n is
    begun : first_number us f.mtu j ≤ m → n ≡ first_number f.posted f.mtu (f.told + j) + (m - first_number us f.mtu j)
    begun h = omega (arith, begins, low, h)

    at_begin : first_number us f.mtu j ≡ m → n ≡ first_number f.posted f.mtu (f.told + j)
    at_begin e = omega (arith, begins, low, e)

    in_list : f.told + j ≤ length f.posted
    in_list = omega (arith, request_within us f.mtu m, us_length, sound.told_posted)

    -- .. and is whole
    whole_request : first_number us f.mtu j ≡ m → Learns f n
    unfolding known_by LastOf oldest left
    whole_request e = record {
      count = j;
      last = None;
      known = left f.known j;
      spent = left f.spent j;
      waits = left f.waits j;
      is = told_as f j;
      may = may_all;
      last_may = tt;
      count_is = refl;
      knows = subst (MayKnow f (f.told + j)) (sym (gone f.known)) (record {
        more = omega arith;
        acted = acted_after;
        there = λ h. omega arith;
        within = omega arith;
        unlanded = λ h k. refl;
        whole = λ h. refl;
      });
      oldest_is = omega (arith, begins, e, low, ap (λ k. k / f.mtu) (gone f.known), zero_bytes f.mtu mtu);
      telling = subst (AreWholePieces f.mtu (posted_at f.posted (f.told + j))) (sym (gone f.known)) (zero_whole f.mtu mtu, inl refl);
      named = λ o. more_named o f n j None more (ap (request_of f.posted f.mtu) (at_begin e) ∙ request_begins f.posted f.mtu (f.told + j) in_list)
          (no_bytes o f.mtu (piece_at f n) (ap (piece_of f.posted f.mtu) (at_begin e) ∙ piece_begins f.posted f.mtu (f.told + j) in_list));
      fresh = λ h. (gone f.spent, gone f.waits);
      still = λ h. absurd (omega (arith, h, more));
    }
      where
        some : (c : ℕ) → j ≡ c → 1 ≤ j
        some zero h = absurd (omega (arith, e, past_known, ap (first_number us f.mtu) h, first_zero us f.mtu))
        some (suc c) h = omega (arith, h)

        left_none : (c k : ℕ) → 1 ≤ c → left k c ≡ 0
        left_none zero k l = absurd (omega (arith, l))
        left_none (suc c) k l = refl

        gone : (k : ℕ) → left k j ≡ 0
        gone k = left_none j k (some j refl)

    -- .. or a piece of it is in place
    module _ (inside : first_number us f.mtu j < m) where
      abbrev k : ℕ
      k = m - first_number us f.mtu j

      there : f.told + j < length f.posted
      there = by_order (nat_lt (f.told + j) (length f.posted)) refl
        where
          by_order : (b : Bool) → nat_lt (f.told + j) (length f.posted) ≡ b → f.told + j < length f.posted
          by_order true t = grind (arith, nat_tests, leb_tells (suc (f.told + j)) (length f.posted), t)
          by_order false t =
              let over : length f.posted ≤ f.told + j = grind (arith, nat_tests, leb_tells (suc (f.told + j)) (length f.posted), t) in
              absurd (omega (arith, inside, request_end us f.mtu m (omega (arith, over, us_length)), first-rest f.posted f.mtu f.told sound.told_posted, acts, posted, low))

      here : get_or us j no_posted ≡ posted_at f.posted (f.told + j)
      here = get_or-drop f.told f.posted j no_posted

      stays : lands (kind_of (posted_at f.posted (f.told + j))) ≡ false
      stays = ap (λ r. lands (kind_of r)) (sym here) ∙ part_stays us f.mtu (f.known / f.mtu) m known_first past_known before_landing inside

      in_span : k < span_of (posted_at f.posted (f.told + j)) f.mtu
      in_span =
          let inside' : j < length us = omega (arith, there, us_length) in
          omega (arith, request_high us f.mtu m inside', first_next us f.mtu j inside', inside, ap (λ r. span_of r f.mtu) here)

      in_size : k * f.mtu < size_of (posted_at f.posted (f.told + j))
      in_size = bytes_inside (posted_at f.posted (f.told + j)) f.mtu k mtu (omega (arith, inside)) in_span

      placed : k * f.mtu ≤ in_place f (f.told + j)
      unfolding in_place due
      placed = by_order (nat_lt (f.told + j) f.acted) refl
        where
          by_order : (b : Bool) → nat_lt (f.told + j) f.acted ≡ b → k * f.mtu ≤ (if nat_lt (f.told + j) f.acted then size_of (posted_at f.posted (f.told + j)) else if (f.told + j) == f.acted then f.into else 0)
          by_order true t = rw t (omega (arith, in_size))
          by_order false t =
              let same : f.told + j ≡ f.acted = grind (arith, nat_tests, leb_tells (suc (f.told + j)) f.acted, t, acted_after) in
              let eq : ((f.told + j) == f.acted) ≡ true = elim (eqb_tells (f.told + j) f.acted) [ inl x ↦ x.0 | inr x ↦ absurd (x.1 same) ] in
              let pieces : k ≤ f.into / f.mtu = omega (arith, begins, acts, low, inside, ap (first_number f.posted f.mtu) same) in
              rw (t, eq) (bytes_within f.mtu k f.into mtu pieces)

      left_less : left f.known j < k * f.mtu
      unfolding left
      left_less = by_count j refl
        where
          by_count : (c : ℕ) → j ≡ c → left f.known c < k * f.mtu
          by_count zero h = bytes_less f.mtu f.known k mtu telling.0 (omega (arith, past_known, ap (first_number us f.mtu) h, first_zero us f.mtu))
          by_count (suc c) h = some_bytes f.mtu k mtu (omega (arith, inside))

      hear : MayHear (told_by f j) (k * f.mtu)
      unfolding in_place
      hear = subst (λ z. MayHear z (k * f.mtu)) (sym (told_as f j)) (record { there = there; stays = stays; more = left_less; placed = placed })

      part_request : Learns f n
      unfolding known_by LastOf oldest with_known
      part_request = record {
        count = j;
        last = Some (k * f.mtu);
        known = k * f.mtu;
        spent = 0;
        waits = 0;
        is = ap (λ z. with_known z (k * f.mtu)) (told_as f j);
        may = may_all;
        last_may = hear;
        count_is = refl;
        knows = record {
          more = omega arith;
          acted = acted_after;
          there = λ h. placed;
          within = omega (arith, in_size);
          unlanded = λ h e. absurd (cc (h, stays));
          whole = λ h. absurd (cc (atomic_lands _ h, stays));
        };
        oldest_is = omega (arith, begins, pieces_back f.mtu k mtu, inside, low);
        telling = (whole_bytes f.mtu k mtu, inr in_size);
        named = λ o. more_named o f n j (Some (k * f.mtu)) more (ap (request_of f.posted f.mtu) (begun at_most) ∙ request_inside f.posted f.mtu (f.told + j) k there in_span)
            (some_known o (k * f.mtu) (some_bytes f.mtu k mtu (omega (arith, inside))) ∙ ap (λ i. known_bytes o (i * f.mtu)) (sym (ap (piece_of f.posted f.mtu) (begun at_most) ∙ piece_inside f.posted f.mtu (f.told + j) k there in_span)));
        fresh = λ h. (refl, refl);
        still = λ h. absurd (omega (arith, h, more));
      }

    pub learns_more : Learns f n
    learns_more = by_order (nat_lt (first_number us f.mtu j) m) refl
      where
        by_order : (b : Bool) → nat_lt (first_number us f.mtu j) m ≡ b → Learns f n
        by_order true t = part_request (grind (arith, nat_tests, leb_tells (suc (first_number us f.mtu j)) m, t))
        by_order false t =
            let over : m ≤ first_number us f.mtu j = grind (arith, nat_tests, leb_tells (suc (first_number us f.mtu j)) m, t) in
            whole_request (omega (arith, over, at_most))
