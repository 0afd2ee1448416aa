-- The owner of a live end in Rts learns that all numbers below one are in place: the machine's steps, and the requester.
use Rattle.std.proofs.Common.{arith, ◌≡◌, ◌≢◌, ◌≤◌, ◌<◌, ◌+◌, ◌-◌, ◌/◌, ◌^◌, ℕ, suc, ◌++◌, true, false, Bool, refl, sym, ap, ◌∙◌, subst}
use Rattle.std.specs.Prelude.{max, drop, nat_lt, if◌then◌else◌}
use Rattle.std.proofs.lemmas.Bool.Decides.{nat_tests, leb_tells}
use Rattle.rdma_types.specs.declared.names.ObjName.{ObjName}
use Rattle.rdma_types.specs.declared.answers.Answer.{Answer}
use Rattle.rdma_types.specs.declared.requests.WcStatus.{WcStatus}
use Rattle.rdma_types.specs.Limits.{is_mtu}
use Rattle.rdma_types.specs.Spans.{end_number, first_number, next_landing, request_of}
use Rattle.protocol.specs.State.{World, Link, Sender}
use Rattle.protocol.specs.EndWords as words
use Rattle.protocol.specs.Requester as requester
use Rattle.protocol.specs.Requester.{advanced, after_telling, ended_with, told_completions, told_count, telling}
use Rattle.protocol.specs.DeviceStep as device
use Rattle.protocol.specs.WorldStep.{home, ran}
use Rattle.packetless_machine.specs.Legal.{after}
use Rattle.packetless_machine.specs.Machine as machine
use Rattle.packetless_machine.specs.Machine.{Machine, End}
use Rattle.packetless_machine.specs.Numbers.{due, oldest, barrier}
use Rattle.packetless_machine.specs.Sound.{IsSound}
use Rattle.packetless_machine.specs.Steps as making
use Rattle.law_simulation.specs.Named.{learning, tells}
use Rattle.law_simulation.specs.Views.{requests_of}
use Rattle.law_simulation.specs.Joined.{IsFencedIn, lands_untold_before}
use Rattle.law_simulation.specs.Stands.{Stands}
use Rattle.law_simulation.proofs.relation.Live.{live_of}
use Rattle.law_simulation.proofs.relation.Linked.{end_there_of}
use Rattle.law_simulation.proofs.relation.Numbers.{first-rest}
use Rattle.law_simulation.proofs.sending.GoEnd.{Goes_on, gone_end, lands_later}
use Rattle.law_simulation.proofs.sending.GoLive.{LiveEnd, connected_here, ended_here, fenced_here, joined_here, mtu_is, name_here, ordered_here, sends_here, sound_here, untold_here}
use Rattle.law_simulation.proofs.sending.GoNumbers.{rest_small}
use Rattle.law_simulation.proofs.sending.GoPieces.{first-drop}
use Rattle.law_simulation.proofs.responses.ResponseLearns.{Learns, landing-drop, learns_more, learns_none}
use Rattle.law_simulation.proofs.responses.ResponseTold.{Hears, Learned, entries_by, hears, known_last, learned_end}
use Rattle.law_simulation.proofs.responses.ResponseTelling.{Advances, stays_here, telling_stands, ending_stands}

-- the end of the numbers is near the first number that is not told
pub end_soon : (f : End) → IsSound f → is_mtu f.mtu ≡ true → f.send_depth ≤ 256 → end_number f.posted f.mtu ≤ first_number f.posted f.mtu f.told + 2 ^ 20
unfolding machine.untold_count
end_soon f s mtu depth = omega (arith, rest_small f.posted f.mtu f.told mtu s.sizes, first-rest f.posted f.mtu f.told s.told_posted, s.depth, depth)

module _ (w : World) (m : Machine) (o : ObjName) (l : Link) (s : Stands w m) (h : LiveEnd w m o l) (alive : l.ended ≡ false) where
  abbrev f : End
  f = machine.end_of m o

  pub mtu_here : is_mtu f.mtu ≡ true
  mtu_here = subst (λ k. is_mtu k ≡ true) (joined_here w m o l s h).mtu (joined_here w m o l s h).terms.mtu

  alive_here : f.ended ≡ false
  alive_here = ended_here w m o l s h ∙ alive

  pub una_is : l.sender.una ≡ oldest f
  unfolding oldest
  una_is = (sends_here w m o l s h alive).una

  pub due_end : due f ≤ end_number f.posted f.mtu
  unfolding due
  due_end = omega (arith, (ordered_here w m o l s h).due_top, (ordered_here w m o l s h).top_end)

  pub due_at_most : due f ≤ l.sender.top
  unfolding due
  due_at_most = (ordered_here w m o l s h).due_top

  -- numbers that may be spoken of are near
  pub near_una : (n : ℕ) → n ≤ due f → n ≤ l.sender.una + 2 ^ 20
  unfolding oldest
  near_una n below = omega (arith, below, due_end, end_soon f (sound_here w m o l s h).sound mtu_here (sound_here w m o l s h).depth, una_is)

  -- the barrier is the same on both sides
  pub barrier_same : requester.barrier l.terms l.sender ≡ barrier f
  unfolding requester.barrier barrier oldest
  barrier_same =
      let t = sends_here w m o l s h alive in
      let at : l.sender.una - l.sender.first ≡ f.known / f.mtu = omega (arith, t.first, una_is) in
      ap (λ k. k + next_landing l.sender.untold l.terms.mtu (l.sender.una - l.sender.first)) t.first
      ∙ (ap (λ us. first_number f.posted f.mtu f.told + next_landing us l.terms.mtu (l.sender.una - l.sender.first)) (untold_here w m o l s h)
      ∙ (ap (λ k. first_number f.posted f.mtu f.told + next_landing (drop f.told f.posted) k (l.sender.una - l.sender.first)) (mtu_is w m o l s h)
      ∙ (ap (λ k. first_number f.posted f.mtu f.told + next_landing (drop f.told f.posted) f.mtu k) at
      ∙ sym (landing-drop f.posted f.mtu f.told (f.known / f.mtu)))))

  module _ (n : ℕ) (low : l.sender.una ≤ n) (within : n ≤ requester.barrier l.terms l.sender) (acts : n ≤ due f) where
    pub learn : Learns f n
    learn = by_order (nat_lt l.sender.una n) refl
      where
        un_more : nat_lt l.sender.una n ≡ false → n ≤ l.sender.una
        un_more t = grind (arith, nat_tests, leb_tells (suc l.sender.una) n, t)

        by_order : (b : Bool) → nat_lt l.sender.una n ≡ b → Learns f n
        by_order true t =
            let more : l.sender.una < n = grind (arith, nat_tests, leb_tells (suc l.sender.una) n, t) in
            learns_more f (sound_here w m o l s h).sound mtu_here alive_here (joined_here w m o l s h).in_pieces.telling n (omega (arith, more, una_is)) (omega (arith, within, barrier_same)) acts due_end
        by_order false t =
            let same : oldest f ≡ n = omega (arith, low, una_is, un_more t) in
            subst (Learns f) same (learns_none f (sound_here w m o l s h).sound mtu_here alive_here (joined_here w m o l s h).in_pieces.telling)

    -- the machine's end then
    abbrev pub end_then : End
    end_then = gone_end f (f.told + learn.count) learn.known learn.spent learn.waits f.ended

    pub heard : Hears m o end_then (entries_by f learn.count) (learning o f n)
    heard = subst (Hears m o end_then (entries_by f learn.count)) (learn.named o)
        (subst (λ z. Hears m o z (entries_by f learn.count) (tells o learn.count ++ known_last o learn.last)) learn.is (hears learn.count m o learn.last (stays_here w m o l s h) (connected_here w m o l s h) alive_here learn.may learn.last_may))

    pub end_heard : machine.end_of (after m heard.steps) o ≡ end_then
    end_heard = learned_end m (after m heard.steps) o end_then (entries_by f learn.count) heard.learned (name_here w m o l s h)

    pub oldest_then : oldest (machine.end_of (after m heard.steps) o) ≡ n
    unfolding oldest
    oldest_then = ap oldest end_heard ∙ learn.oldest_is

    -- the counted expiries are within the retries: none where `una` rises, and the same where it does not
    few_learned : learn.spent ≤ f.retry
    few_learned = by_order (nat_lt l.sender.una n) refl
      where
        by_order : (b : Bool) → nat_lt l.sender.una n ≡ b → learn.spent ≤ f.retry
        by_order true t =
            let more : l.sender.una < n = grind (arith, nat_tests, leb_tells (suc l.sender.una) n, t) in
            omega (arith, (learn.fresh (omega (arith, more, una_is))).0)
        by_order false t =
            let less : n ≤ l.sender.una = grind (arith, nat_tests, leb_tells (suc l.sender.una) n, t) in
            omega (arith, (learn.still (omega (arith, low, una_is, less))).0, (sends_here w m o l s h alive).few)

    -- .. where more waits were counted
    abbrev pub end_with : ℕ → End
    end_with more_waits = gone_end f (f.told + learn.count) learn.known learn.spent more_waits f.ended

    -- a requester that knows as much
    pub record Knows (s2 : Sender) (more_waits : ℕ) : Type 0 where
      pub untold : s2.untold ≡ l.sender.untold
      pub first : s2.first ≡ l.sender.first
      pub top : s2.top ≡ l.sender.top
      pub una : s2.una ≡ n
      pub spent : s2.spent ≡ learn.spent
      pub waits : f.rnr ≢ 7 → (s2.waits ≡ more_waits) × (more_waits ≤ f.rnr)
      pub una_next : n ≤ s2.next
      pub next_top : s2.next ≤ l.sender.top

    module _ (s2 : Sender) (more_waits : ℕ) (k : Knows s2 more_waits) where
      counts : told_count l.terms s2 ≡ learn.count
      counts =
          ap (λ us. request_of us l.terms.mtu (s2.una - s2.first)) (k.untold ∙ untold_here w m o l s h)
          ∙ (ap (λ j. request_of (drop f.told f.posted) j (s2.una - s2.first)) (mtu_is w m o l s h)
          ∙ (ap (λ j. request_of (drop f.told f.posted) f.mtu (j - s2.first)) k.una
          ∙ (ap (λ j. request_of (drop f.told f.posted) f.mtu (n - j)) (k.first ∙ (sends_here w m o l s h alive).first) ∙ sym learn.count_is)))

      advances : Advances w m o l s h s2 learn.count
      advances = record { untold = k.untold; top = k.top; counts = counts }

      first_then : (after_telling l.terms s2).first ≡ first_number f.posted f.mtu (f.told + learn.count)
      unfolding after_telling
      first_then =
          let back : (f.told + learn.count) - f.told ≡ learn.count = omega arith in
          ap (λ j. s2.first + first_number s2.untold l.terms.mtu j) counts
          ∙ (ap (λ j. j + first_number s2.untold l.terms.mtu learn.count) (k.first ∙ (sends_here w m o l s h alive).first)
          ∙ (ap (λ us. first_number f.posted f.mtu f.told + first_number us l.terms.mtu learn.count) (k.untold ∙ untold_here w m o l s h)
          ∙ (ap (λ j. first_number f.posted f.mtu f.told + first_number (drop f.told f.posted) j learn.count) (mtu_is w m o l s h)
          ∙ (ap (λ j. first_number f.posted f.mtu f.told + first_number (drop f.told f.posted) f.mtu j) (sym back)
          ∙ first-drop f.posted f.mtu f.told (f.told + learn.count) (omega arith)))))

      fence_then : IsFencedIn (after_telling l.terms s2) (requests_of (end_with more_waits))
      unfolding after_telling
      fence_then i inside fence lands = by_test (lands_untold_before f i) refl
        where
          by_test : (b : Bool) → lands_untold_before f i ≡ b → s2.top ≤ first_number f.posted f.mtu i
          by_test true t = omega (arith, k.top, fenced_here w m o l s h alive i inside fence t)
          by_test false t = absurd (cc (lands, lands_later f (f.told + learn.count) learn.known learn.spent more_waits f.ended i (omega arith) t))

      goes : Goes_on (after_telling l.terms s2) (requests_of (end_with more_waits))
      unfolding after_telling oldest due
      goes =
          let u = ordered_here w m o l s h in
          record {
            sends = record { first = first_then; una = k.una ∙ sym learn.oldest_is; spent = k.spent; few = few_learned; waits = k.waits };
            ordered = record {
              una_next = omega (arith, k.una, k.una_next);
              next_top = omega (arith, k.next_top, k.top);
              top_end = omega (arith, k.top, u.top_end);
              due_top = omega (arith, k.top, u.due_top);
              reach = omega (arith, k.top, u.reach);
              limit = u.limit;
            };
            fenced = fence_then;
            telling = learn.telling;
          }

      pub knows_stands : (m' : Machine) → Learned m m' o (end_with more_waits) (entries_by f learn.count) → (answer : Answer) → Stands (ran w (device.answers (device.with_context (home w o.context) (telling (live_of w o.context) (end_there_of w o) l s2)) answer)).world m'
      knows_stands m' learned answer = telling_stands w m o l s h s2 learn.count learn.known learn.spent more_waits m' alive advances learn.may learn.knows learned goes answer

      pub knows_ends : (m' : Machine) → Learned m m' o (end_with more_waits) (entries_by f learn.count) → (status : WcStatus) (answer : Answer) →
          Stands (ran w (device.answers (device.with_context (home w o.context) (ended_with (words.completing (live_of w o.context) (end_there_of w o).send_cq (told_completions (end_there_of w o).number l.terms s2)) (end_there_of w o) (words.with_sender l (after_telling l.terms s2)) status)) answer)).world (making.ended_with m' o status)
      knows_ends m' learned status answer = ending_stands w m o l s h s2 learn.count learn.known learn.spent more_waits m' alive advances learn.may learn.knows learned goes status answer

    -- the requester as an acknowledgement makes it
    pub advanced_knows : Knows (advanced l.sender n) learn.waits
    unfolding advanced
    advanced_knows = by_order (nat_lt l.sender.una n) refl
      where
        not_more : nat_lt l.sender.una n ≡ false → n ≤ l.sender.una
        not_more t = grind (arith, nat_tests, leb_tells (suc l.sender.una) n, t)

        by_order : (b : Bool) → nat_lt l.sender.una n ≡ b → Knows (if b then record l.sender { una = n; spent = 0; waits = 0; next = max l.sender.next n } else l.sender) learn.waits
        by_order true t =
            let more : l.sender.una < n = grind (arith, nat_tests, leb_tells (suc l.sender.una) n, t) in
            let gone = learn.fresh (omega (arith, more, una_is)) in
            let u = ordered_here w m o l s h in
            record {
              untold = refl;
              first = refl;
              top = refl;
              una = refl;
              spent = sym gone.0;
              waits = λ r. (sym gone.1, omega (arith, gone.1));
              una_next = omega arith;
              next_top = omega (arith, u.next_top, acts, due_at_most);
            }
        by_order false t =
            let same : oldest f ≡ n = omega (arith, low, una_is, not_more t) in
            let still = learn.still same in
            let u = ordered_here w m o l s h in
            let v = sends_here w m o l s h alive in
            record {
              untold = refl;
              first = refl;
              top = refl;
              una = una_is ∙ same;
              spent = v.spent ∙ sym still.0;
              waits = λ r. ((v.waits r).0 ∙ sym still.1, omega (arith, (v.waits r).1, still.1));
              una_next = omega (arith, u.una_next, una_is, same);
              next_top = u.next_top;
            }
