-- The current request acts, or one more piece of it is in place: the counts, and what stays sound.
use Rattle.std.proofs.Common.{arith, ◌≡◌, ◌<◌, ◌≤◌, ◌+◌, ◌/◌, ◌%◌, ℕ, zero, suc, List, [], ◌∷◌, ◌++◌, length, true, false, Bool, refl, sym, ap, ◌∙◌, subst, inl, inr}
use Rattle.std.specs.Prelude.{Some, nat_lt, if◌then◌else◌, ◌==◌, slice_get, Contains, All}
use Rattle.std.proofs.lemmas.Bool.Decides.{nat_tests, leb_tells}
use Rattle.std.proofs.lemmas.List.{append_assoc, append-nil, length_push, get_or_past}
use Rattle.std.proofs.lemmas.List.Elements.{All-push, All-weaker}
use Rattle.rdma_types.specs.declared.names.Name.{Name}
use Rattle.rdma_types.specs.Objects.{Posted, Region, no_posted}
use Rattle.rdma_types.specs.Limits.{is_mtu, most_kept}
use Rattle.rdma_types.specs.Kinds.{is_read, kind_of, lands, size_of}
use Rattle.rdma_types.specs.Spans.{first_number, span_of}
use Rattle.protocol.specs.State.{Receiver}
use Rattle.packetless_machine.specs.declared.reply.Reply.{Reply}
use Rattle.packetless_machine.specs.declared.reply.Reply.TheVariants.{Finished}
use Rattle.packetless_machine.specs.Machine.{End, Offered, posted_at, untold_count}
use Rattle.packetless_machine.specs.Numbers.{due}
use Rattle.packetless_machine.specs.Sound.{IsSound, IsReplyTo, IsOfferOf}
use Rattle.packetless_machine.specs.Steps.{current, in_place, untold}
use Rattle.law_simulation.specs.Joined.{IsInPieces, IsUnwrapped, IsWordReply, old_value, old_values, last_of}
use Rattle.law_simulation.specs.Stands.{IsEndSound}
use Rattle.law_simulation.proofs.requests.Due.{mtu_is}
use Rattle.law_simulation.proofs.requests.Advancing.{IsAdvance, moved_on}

-- ---- old values

pub old-more : (mtu n : ℕ) (posted : List Posted) (answers : List Reply) (a : Reply) → length answers < length posted → old_values mtu n posted (answers ++ a ∷ []) ≡ old_values mtu n posted answers ++ old_value (n + first_number posted mtu (length answers)) a
unfolding old_values first_number
old-more mtu n [] answers a h = absurd (omega (arith, h))
old-more mtu n (r ∷ rs) [] a h = none rs ∙ ap (λ k. old_value k a) (omega arith)
  where
    none : (xs : List Posted) → old_value n a ++ old_values mtu (n + span_of r mtu) xs [] ≡ old_value n a
    none [] = append-nil (old_value n a)
    none (x ∷ xs) = append-nil (old_value n a)
old-more mtu n (r ∷ rs) (b ∷ answers) a h =
    let same : (n + span_of r mtu) + first_number rs mtu (length answers) ≡ n + (span_of r mtu + first_number rs mtu (length answers)) = omega arith in
    ap (λ xs. old_value n b ++ xs) (old-more mtu (n + span_of r mtu) rs answers a (omega (arith, h)) ∙ ap (λ k. old_values mtu (n + span_of r mtu) rs answers ++ old_value k a) same)
    ∙ sym (append_assoc (old_value n b) (old_values mtu (n + span_of r mtu) rs answers) (old_value (n + (span_of r mtu + first_number rs mtu (length answers))) a))

-- a finished request leaves no old value
pub old-finished : (mtu : ℕ) (posted : List Posted) (answers : List Reply) → length answers < length posted → old_values mtu 0 posted (answers ++ Finished ∷ []) ≡ old_values mtu 0 posted answers
unfolding old_value
old-finished mtu posted answers h = old-more mtu 0 posted answers Finished h ∙ append-nil (old_values mtu 0 posted answers)

-- ---- lists that grow at the end

pub got_before : {A : Type 0} (xs : List A) (y : A) (i : ℕ) (x : A) → slice_get xs i ≡ Some x → slice_get (xs ++ y ∷ []) i ≡ Some x
got_before [] y i x h = absurd (cc)
got_before (z ∷ xs) y zero x h = h
got_before (z ∷ xs) y (suc i) x h = got_before xs y i x h

pub got_last : {A : Type 0} (xs : List A) (y : A) → slice_get (xs ++ y ∷ []) (length xs) ≡ Some y
got_last [] y = refl
got_last (z ∷ xs) y = got_last xs y

got_other : {A : Type 0} (xs : List A) (y : A) (i : ℕ) → i < length xs → slice_get (xs ++ y ∷ []) i ≡ slice_get xs i
got_other [] y i h = absurd (omega (arith, h))
got_other (z ∷ xs) y zero h = refl
got_other (z ∷ xs) y (suc i) h = got_other xs y i (omega (arith, h))

-- ---- the counts

none_into : (mtu : ℕ) → is_mtu mtu ≡ true → 0 / mtu ≡ 0
none_into mtu is = mtu_is (λ k. 0 / k ≡ 0) (omega arith) (omega arith) (omega arith) (omega arith) (omega arith) mtu is

none_left : (mtu : ℕ) → is_mtu mtu ≡ true → 0 % mtu ≡ 0
none_left mtu is = mtu_is (λ k. 0 % k ≡ 0) (omega arith) (omega arith) (omega arith) (omega arith) (omega arith) mtu is

-- what is due once the current request acted
pub due_acted : (q : End) (answers : List Reply) (offers : List Offered) (dry : List ℕ) → is_mtu q.mtu ≡ true → due (moved_on q (suc q.acted) 0 answers offers dry) ≡ first_number q.posted q.mtu (suc q.acted)
unfolding due
due_acted q answers offers dry is = omega (arith, none_into q.mtu is)

-- the current request has acted
pub acts_advance : (q : End) (a : Reply) (offers : List Offered) (top : ℕ) (r : Receiver) → is_mtu q.mtu ≡ true → q.acted < length q.posted → length q.answers ≡ q.acted → due q ≤ first_number q.posted q.mtu (suc q.acted) → first_number q.posted q.mtu (suc q.acted) ≤ top →
    ((f : Offered) → Contains q.offers f → Contains offers f) → All (λ f. All (λ b. b < 256) f.bytes) offers → IsInPieces q → (is_read (kind_of (current q)) ≡ true → IsUnwrapped (current q)) → IsWordReply a → r.expected ≡ first_number q.posted q.mtu (suc q.acted) → r.kept ≡ last_of most_kept (old_values q.mtu 0 q.posted (q.answers ++ a ∷ [])) →
    IsAdvance q (suc q.acted) 0 (q.answers ++ a ∷ []) offers q.dry top r
acts_advance q a offers top r is inside answered up below kept said pieces read word expected replies =
    let now : due (moved_on q (suc q.acted) 0 (q.answers ++ a ∷ []) offers q.dry) ≡ first_number q.posted q.mtu (suc q.acted) = due_acted q (q.answers ++ a ∷ []) offers q.dry is in
    record {
      due_up = omega (arith, now, up);
      due_top = omega (arith, now, below);
      acted_up = omega arith;
      answers_kept = λ i b h. got_before q.answers a i b h;
      offers_kept = kept;
      dry_kept = λ i h. h;
      acting = (none_left q.mtu is, inl refl);
      offers_said = said;
      reads = λ i h. read_by i h (nat_lt i q.acted) refl;
      old_words = All-push IsWordReply q.answers a pieces.old_words word;
      receives = record { expected = expected ∙ sym now; kept = replies; answered = omega (arith, length_push q.answers a, answered) };
    }
  where
    read_by : (i : ℕ) → i < suc q.acted → (b : Bool) → nat_lt i q.acted ≡ b → is_read (kind_of (posted_at q.posted i)) ≡ true → IsUnwrapped (posted_at q.posted i)
    read_by i h true t = pieces.reads i (grind (arith, nat_tests, leb_tells (suc i) q.acted, t))
    read_by i h false t =
        let e : i ≡ q.acted = grind (arith, nat_tests, leb_tells (suc i) q.acted, t, h) in
        subst (λ j. is_read (kind_of (posted_at q.posted j)) ≡ true → IsUnwrapped (posted_at q.posted j)) (sym e) read

-- one more piece of it is in place
pub piece_advance : (q : End) (top : ℕ) (r : Receiver) (into : ℕ) → into / q.mtu ≡ q.into / q.mtu + 1 → into % q.mtu ≡ 0 → into < size_of (current q) → due q + 1 ≤ top → r.expected ≡ due q + 1 → r.kept ≡ last_of most_kept (old_values q.mtu 0 q.posted q.answers) → length q.answers ≡ q.acted → IsInPieces q →
    IsAdvance q q.acted into q.answers q.offers q.dry top r
unfolding due
piece_advance q top r into next whole short below expected kept answered pieces = record {
  due_up = omega (arith, next);
  due_top = omega (arith, next, below);
  acted_up = omega arith;
  answers_kept = λ i b h. h;
  offers_kept = λ f h. h;
  dry_kept = λ i h. h;
  acting = (whole, inr short);
  offers_said = pieces.offers;
  reads = pieces.reads;
  old_words = pieces.old_words;
  receives = record { expected = expected ∙ omega (arith, next); kept = kept; answered = answered };
}

-- ---- soundness

nothing_past : (q : End) → q.ended ≡ true → IsSound q → q.known ≡ 0
nothing_past q over s = omega (arith, s.known_within, ap size_of (get_or_past q.posted q.told no_posted (omega (arith, s.over over))))

no_known : (q : End) → (b : Bool) → q.ended ≡ b → IsSound q → q.told ≡ suc q.acted → q.known ≡ 0
no_known q true h s past = nothing_past q h s
no_known q false h s past = absurd (omega (arith, s.told_acted h, past))

-- .. where the current request acted, with an answer that fits it
pub acted_sound : (q : End) (a : Reply) (offers : List Offered) → q.acted < length q.posted → length q.answers ≡ q.acted → IsReplyTo (current q) (Some a) → All (IsOfferOf (moved_on q (suc q.acted) 0 (q.answers ++ a ∷ []) offers q.dry)) offers → IsSound q → IsSound (moved_on q (suc q.acted) 0 (q.answers ++ a ∷ []) offers q.dry)
unfolding in_place untold_count
acted_sound q a offers inside answered reply offered s = record {
  acted_posted = omega (arith, inside);
  told_posted = s.told_posted;
  told_acted = λ h. omega (arith, s.told_acted h);
  over = s.over;
  unfinished = inl refl;
  whole_turns = λ h. refl;
  known_there = λ h l. by_told h (nat_lt q.told (suc q.acted)) refl;
  known_within = s.known_within;
  unlanded = λ l h. no_known q q.ended refl s h;
  whole_atomics = s.whole_atomics;
  replies = λ i h. by_place i h (nat_lt i q.acted) refl;
  answered = inl (omega (arith, length_push q.answers a, answered));
  offers = offered;
  sizes = s.sizes;
  depth = s.depth;
  receive_depth = s.receive_depth;
}
  where
    by_told : q.ended ≡ false → (b : Bool) → nat_lt q.told (suc q.acted) ≡ b → q.known ≤ (if b then size_of (posted_at q.posted q.told) else if q.told == suc q.acted then 0 else 0)
    by_told h true t = s.known_within
    by_told h false t = let past : suc q.acted ≤ q.told = grind (arith, nat_tests, leb_tells (suc q.told) (suc q.acted), t) in absurd (omega (arith, s.told_acted h, past))

    by_place : (i : ℕ) → i < suc q.acted → (b : Bool) → nat_lt i q.acted ≡ b → IsReplyTo (posted_at q.posted i) (slice_get (q.answers ++ a ∷ []) i)
    by_place i h true t = let l : i < q.acted = grind (arith, nat_tests, leb_tells (suc i) q.acted, t) in subst (IsReplyTo (posted_at q.posted i)) (sym (got_other q.answers a i (omega (arith, l, answered)))) (s.replies i l)
    by_place i h false t =
        let e : i ≡ q.acted = grind (arith, nat_tests, leb_tells (suc i) q.acted, t, h) in
        subst (λ j. IsReplyTo (posted_at q.posted j) (slice_get (q.answers ++ a ∷ []) j)) (sym e)
        (subst (IsReplyTo (current q)) (sym (ap (slice_get (q.answers ++ a ∷ [])) (sym answered) ∙ got_last q.answers a)) reply)

-- .. where more of it is in place
pub piece_sound : (q : End) (into : ℕ) → q.into ≤ into → into < size_of (current q) → lands (kind_of (current q)) ≡ false → IsSound q → IsSound (moved_on q q.acted into q.answers q.offers q.dry)
unfolding in_place untold_count
piece_sound q into more short message s = record {
  acted_posted = s.acted_posted;
  told_posted = s.told_posted;
  told_acted = s.told_acted;
  over = s.over;
  unfinished = inr short;
  whole_turns = λ h. absurd (cc (message, h));
  known_there = λ h l. by_told (nat_lt q.told q.acted) (q.told == q.acted) (s.known_there h l);
  known_within = s.known_within;
  unlanded = s.unlanded;
  whole_atomics = s.whole_atomics;
  replies = s.replies;
  answered = s.answered;
  offers = All-weaker (IsOfferOf q) (IsOfferOf (moved_on q q.acted into q.answers q.offers q.dry)) (λ o h. record { acted = h.acted; reads = h.reads; inside = h.inside }) q.offers s.offers;
  sizes = s.sizes;
  depth = s.depth;
  receive_depth = s.receive_depth;
}
  where
    by_told : (a b : Bool) → q.known ≤ (if a then size_of (posted_at q.posted q.told) else if b then q.into else 0) → q.known ≤ (if a then size_of (posted_at q.posted q.told) else if b then into else 0)
    by_told true b h = h
    by_told false true h = omega (arith, h, more)
    by_told false false h = h

-- in its context
pub end_moved_sound : (regions : List Region) (names : List Name) (q : End) (acted into : ℕ) (answers : List Reply) (offers : List Offered) (dry : List ℕ) → q.connected ≡ true → IsSound (moved_on q acted into answers offers dry) → IsEndSound regions names q → IsEndSound regions names (moved_on q acted into answers offers dry)
unfolding untold
end_moved_sound regions names q acted into answers offers dry connected sound s = record {
  sound = sound;
  made = λ h. absurd (cc (connected, h));
  depth = s.depth;
  send_queue = s.send_queue;
  receive_queue = s.receive_queue;
  requests = s.requests;
  receives = s.receives;
}

-- offers of Reads that acted stay so
pub offers_acted : (q : End) (answers : List Reply) (offers : List Offered) → All (IsOfferOf q) q.offers → All (IsOfferOf (moved_on q (suc q.acted) 0 answers offers q.dry)) q.offers
offers_acted q answers offers all = All-weaker (IsOfferOf q) (IsOfferOf (moved_on q (suc q.acted) 0 answers offers q.dry)) (λ o h. record { acted = omega (arith, h.acted); reads = h.reads; inside = h.inside }) q.offers all
