-- What the test of an order says: it goes through the lines, and its answer is what is so.
use Rattle.std.proofs.Common.{arith, ◌≡◌, ℕ, zero, suc, ◌==◌, Bool, true, false, if◌then◌else◌, List, [], ◌∷◌, ◌++◌, length, take, slice_get, Option, Some, None, refl, ap, sym, subst, ◌∙◌}
use Rattle.std.specs.Prelude.{◌&&◌, ◌||◌, not}
use Rattle.std.specs.Bool.{Decides}
use Rattle.std.proofs.lemmas.Bool.Decides.{Decides-and, Decides-eqb, Decides-like}
use Rattle.std.proofs.lemmas.List.{append-nil, append_assoc}
use Rattle.std.proofs.lemmas.Slice.Eq.{bytes_eq-Decides}
use Rattle.std.proofs.Math.Seq.{take-append_seam}
use Rattle.rdma_types.specs.declared.requests.Address.{Address}
use Rattle.rdma_types.specs.Lists.{some}
use Rattle.protocol.specs.declared.events.Event.{Event}
use Rattle.protocol.specs.declared.events.Event.TheVariants as event
use Rattle.protocol.specs.declared.images.ContextImage.{ContextImage}
use Rattle.protocol.specs.Fabric.{is_late}
use Rattle.protocol.specs.State.{Device, Flight, World, device_at}
use Rattle.protocol.specs.WorldStep.{is_done, now_at, same_address}
use Rattle.law_simulation.specs.Kept.{verb_in}
use Rattle.order_rules.specs.AnyOpening.{AnyFairOrderIsLegal, PreparedOrdersAreLegal}
use Rattle.order_rules.specs.Bridge.{IsAskable, IsAskedLine, IsFairOrder, is_at_home}
use Rattle.order_rules.specs.Lines.{Line, device_after, flown, opening_of}
use Rattle.order_rules.specs.Order.{AreRestored, Each, HasDatagram, IsDatagram, IsLine, IsWorldOrder, with_stopped}
use Rattle.order_rules.specs.Sides.{IsFreshLine, IsInTime, IsInTimeLine, IsOneSidedLine, is_stopped, makes_a_second, stops_beside_a_mover, world_of}
use Rattle.order_rules.proofs.Growing.{each_push}
use Rattle.order_rules.proofs.Lists.{some_is}
use Rattle.law_orders.proofs.Orders.{address_after, after_all, at_after}
use Rattle.law_orders.specs.declared.fairness.Fairness.{Fairness}
use Rattle.law_orders.specs.declared.fairness.Fairness.TheVariants.{Fair, Unfair}
use Rattle.law_orders.specs.declared.fairness.UnfairCause.{UnfairCause}
use Rattle.law_orders.specs.declared.fairness.UnfairCause.TheVariants as cause
use Rattle.law_orders.specs.Asked.{AskableIsTested, is_askable, is_lawfully_posted}
use Rattle.law_orders.specs.Fairness.{AreLegal, FairRunsAreLegal, FairnessIsExact, HaveOwnIds, IsFairRun, IsFirstUnfair, IsUnfairLine, Says, cause_in, fairness_after, fairness_of, unless_unfair}
use Rattle.law_orders.specs.InTime.{is_in_time, is_timely}
use Rattle.law_orders.proofs.Begun.{begun}

-- ---- datagrams

both_same : (a b : Address) → (a.ip ≡ b.ip) × (a.port ≡ b.port) → a ≡ b
both_same a b h = λ i. record { ip = h.0 i; port = h.1 i }

address_tested : (a b : Address) → Decides (same_address a b) (a ≡ b)
address_tested a b = Decides-like (same_address a b) (both_same a b) (λ h. (ap (λ x. x.ip) h, ap (λ x. x.port) h)) (Decides-and _ _ (Decides-eqb a.ip b.ip) (Decides-eqb a.port b.port))

early_tested : (b : Bool) → Decides (not b) (b ≡ false)
early_tested true = ((λ h. cc), (λ h. cc))
early_tested false = ((λ h. refl), (λ h. refl))

-- a datagram that may have arrived in time, in parts
abbrev IsTimely : Address → Address → List ℕ → ℕ → Flight → Type 0
IsTimely from to bytes now f = (f.from ≡ from) × ((f.to ≡ to) × ((f.bytes ≡ bytes) × (is_late f.number now ≡ false)))

timely_tested : (from to : Address) (bytes : List ℕ) (now : ℕ) (f : Flight) → Decides (is_timely from to bytes now f) (IsTimely from to bytes now f)
timely_tested from to bytes now f =
    Decides-and _ _ (address_tested f.from from) (Decides-and _ _ (address_tested f.to to) (Decides-and _ _ (bytes_eq-Decides f.bytes bytes) (early_tested (is_late f.number now))))

some_found : (test : Flight → Bool) (fs : List Flight) → some test fs ≡ true → (k : ℕ) × (f : Flight) × (slice_get fs k ≡ Some f) × (test f ≡ true)
unfolding some
some_found test [] h = absurd (cc)
some_found test (x ∷ fs) h = by (test x) refl h (some_found test fs)
  where
    by : (b : Bool) → test x ≡ b → (b || some test fs) ≡ true → (some test fs ≡ true → (k : ℕ) × (f : Flight) × (slice_get fs k ≡ Some f) × (test f ≡ true)) → (k : ℕ) × (f : Flight) × (slice_get (x ∷ fs) k ≡ Some f) × (test f ≡ true)
    by true is g later = (0, x, refl, is)
    by false is g later = let found = later g in (suc found.0, found.1, found.2, found.3)

or_right : (a b : Bool) → b ≡ true → (a || b) ≡ true
or_right true b h = refl
or_right false b h = h

pub found_some : (test : Flight → Bool) (fs : List Flight) (k : ℕ) (f : Flight) → slice_get fs k ≡ Some f → test f ≡ true → some test fs ≡ true
unfolding some
found_some test [] k f at is = cc
found_some test (x ∷ fs) zero f at is = ap (λ b. b || some test fs) (ap test (some_is at) ∙ is)
found_some test (x ∷ fs) (suc k) f at is = or_right (test x) (some test fs) (found_some test fs k f at is)

pub in_time : (fs : List Flight) (d : Device) (e : Event) → Decides (is_in_time fs d e) (IsInTime fs d.address d e)
in_time fs d (event.Arrive from bytes) = (to, from_it)
  where
    to : some (is_timely from d.address bytes (now_at (Some d) bytes)) fs ≡ true → IsInTime fs d.address d (event.Arrive from bytes)
    to h =
        let found = some_found (is_timely from d.address bytes (now_at (Some d) bytes)) fs h in
        let parts = (timely_tested from d.address bytes (now_at (Some d) bytes) found.1).0 found.3 in
        (found.0, found.1, record { there = found.2; sender = parts.0; receiver = parts.1.0; says = parts.1.1.0 }, parts.1.1.1)

    from_it : IsInTime fs d.address d (event.Arrive from bytes) → some (is_timely from d.address bytes (now_at (Some d) bytes)) fs ≡ true
    from_it t = found_some (is_timely from d.address bytes (now_at (Some d) bytes)) fs t.0 t.1 t.2.there ((timely_tested from d.address bytes (now_at (Some d) bytes) t.1).1 (t.2.sender, (t.2.receiver, (t.2.says, t.3))))
in_time fs d e = ((λ h. tt), (λ h. refl))

-- ---- one line

-- a line that is fair, and posts a lawful request
pub record IsFairLine (os : List Device) (earlier : List Line) (l : Line) : Type 0 where
  pub asked : IsAskedLine os earlier l
  pub lawful : is_lawfully_posted l.receipt.event ≡ true
  pub one_sided : IsOneSidedLine os earlier l
  pub in_time : IsInTimeLine os earlier l
  pub fresh : IsFreshLine os earlier l

-- the causes by their tests
abbrev pub cause_by : Bool → Bool → Bool → Bool → Bool → Bool → Option UnfairCause
cause_by a b c d e f =
    if not a then Some cause.NotAskable
    else if not b then Some cause.Unlawful
    else if not c then Some cause.NotAtHome
    else if d then Some cause.PartnerMoves
    else if not e then Some cause.TooLate
    else if f then Some cause.NameTaken
    else None

pub no_cause : (a b c d e f : Bool) → cause_by a b c d e f ≡ None → (a ≡ true) × (b ≡ true) × (c ≡ true) × (d ≡ false) × (e ≡ true) × (f ≡ false)
no_cause false b c d e f h = absurd (cc)
no_cause true false c d e f h = absurd (cc)
no_cause true true false d e f h = absurd (cc)
no_cause true true true true e f h = absurd (cc)
no_cause true true true false false f h = absurd (cc)
no_cause true true true false true true h = absurd (cc)
no_cause true true true false true false h = (refl, refl, refl, refl, refl, refl)

-- the test that tells the cause
abbrev Tells : Bool → Bool → Bool → Bool → Bool → Bool → UnfairCause → Type 0
Tells a b c d e f cause.NotAskable = a ≡ false
Tells a b c d e f cause.Unlawful = b ≡ false
Tells a b c d e f cause.NotAtHome = c ≡ false
Tells a b c d e f cause.PartnerMoves = d ≡ true
Tells a b c d e f cause.TooLate = e ≡ false
Tells a b c d e f cause.NameTaken = f ≡ true

some_cause : (a b c d e f : Bool) (x : UnfairCause) → cause_by a b c d e f ≡ Some x → Tells a b c d e f x
some_cause false b c d e f x h = subst (λ y. Tells false b c d e f y) (some_is h) refl
some_cause true false c d e f x h = subst (λ y. Tells true false c d e f y) (some_is h) refl
some_cause true true false d e f x h = subst (λ y. Tells true true false d e f y) (some_is h) refl
some_cause true true true true e f x h = subst (λ y. Tells true true true true e f y) (some_is h) refl
some_cause true true true false false f x h = subst (λ y. Tells true true true false false f y) (some_is h) refl
some_cause true true true false true true x h = subst (λ y. Tells true true true false true true y) (some_is h) refl
some_cause true true true false true false x h = absurd (cc)

not_both : (b : Bool) → b ≡ true → b ≡ false → ⊥
not_both b h k = cc

module _ (tested : AskableIsTested) (os : List Device) (ids : HaveOwnIds os) (earlier : List Line) (l : Line) (is : IsLine os earlier l) where
  abbrev w : World
  w = world_of os earlier

  abbrev after : Device
  after = device_after os earlier l.receipt.device

  there : device_at (world_of os earlier) l.receipt.device ≡ device_after os earlier l.receipt.device
  unfolding world_of
  there = at_after os earlier l.receipt.device (begun os ids) is.known

  sent_is : (world_of os earlier).sent ≡ flown os earlier
  unfolding world_of
  sent_is = refl

  -- the tests of the line, in the words of the rules
  home_is : is_at_home (device_at w l.receipt.device) l.receipt.event (verb_in l.receipt.event) ≡ is_at_home after l.receipt.event (verb_in l.receipt.event)
  home_is = ap (λ d. is_at_home d l.receipt.event (verb_in l.receipt.event)) there

  timely_is : Decides (is_in_time w.sent (device_at w l.receipt.device) l.receipt.event) (IsInTimeLine os earlier l)
  timely_is =
      let at : Decides (is_in_time (flown os earlier) after l.receipt.event) (IsInTime (flown os earlier) after.address after l.receipt.event) = in_time (flown os earlier) after l.receipt.event in
      subst (λ (p : List Flight × Device × Address). Decides (is_in_time p.0 p.1 l.receipt.event) (IsInTime (flown os earlier) p.2 after l.receipt.event)) (λ i. (sym sent_is i, sym there i, address_after os earlier l.receipt.device i))
      at

  cause_is : cause_in w l.receipt
      ≡ cause_by (is_askable l.receipt.event) (is_lawfully_posted l.receipt.event) (is_at_home (device_at w l.receipt.device) l.receipt.event (verb_in l.receipt.event)) (is_stopped l.receipt.outcome.answer && stops_beside_a_mover w l.receipt.device l.receipt.event) (is_in_time w.sent (device_at w l.receipt.device) l.receipt.event) (is_done l.receipt.outcome.answer && makes_a_second w l.receipt.event)
  cause_is = refl

  pub fair_line : cause_in w l.receipt ≡ None → IsFairLine os earlier l
  fair_line none =
      let tests = no_cause (is_askable l.receipt.event) (is_lawfully_posted l.receipt.event) (is_at_home (device_at w l.receipt.device) l.receipt.event (verb_in l.receipt.event)) (is_stopped l.receipt.outcome.answer && stops_beside_a_mover w l.receipt.device l.receipt.event) (is_in_time w.sent (device_at w l.receipt.device) l.receipt.event) (is_done l.receipt.outcome.answer && makes_a_second w l.receipt.event) (sym cause_is ∙ none) in
      record {
        asked = record { askable = (tested l.receipt.event).0 tests.0; at_home = sym home_is ∙ tests.2 };
        lawful = tests.1;
        one_sided = tests.3;
        in_time = timely_is.0 tests.4;
        fresh = tests.5;
      }

  told : (x : UnfairCause) → Tells (is_askable l.receipt.event) (is_lawfully_posted l.receipt.event) (is_at_home (device_at w l.receipt.device) l.receipt.event (verb_in l.receipt.event)) (is_stopped l.receipt.outcome.answer && stops_beside_a_mover w l.receipt.device l.receipt.event) (is_in_time w.sent (device_at w l.receipt.device) l.receipt.event) (is_done l.receipt.outcome.answer && makes_a_second w l.receipt.event) x → IsUnfairLine os earlier l x
  told cause.NotAskable h = λ askable. not_both (is_askable l.receipt.event) ((tested l.receipt.event).1 askable) h
  told cause.Unlawful h = h
  told cause.NotAtHome h = sym home_is ∙ h
  told cause.PartnerMoves h = λ one. not_both (is_stopped l.receipt.outcome.answer && stops_beside_a_mover w l.receipt.device l.receipt.event) h one
  told cause.TooLate h = λ timely. not_both (is_in_time w.sent (device_at w l.receipt.device) l.receipt.event) (timely_is.1 timely) h
  told cause.NameTaken h = λ fresh. not_both (is_done l.receipt.outcome.answer && makes_a_second w l.receipt.event) h fresh

  pub unfair_line : (x : UnfairCause) → cause_in w l.receipt ≡ Some x → IsUnfairLine os earlier l x
  unfair_line x some = told x (some_cause (is_askable l.receipt.event) (is_lawfully_posted l.receipt.event) (is_at_home (device_at w l.receipt.device) l.receipt.event (verb_in l.receipt.event)) (is_stopped l.receipt.outcome.answer && stops_beside_a_mover w l.receipt.device l.receipt.event) (is_in_time w.sent (device_at w l.receipt.device) l.receipt.event) (is_done l.receipt.outcome.answer && makes_a_second w l.receipt.event) x (sym cause_is ∙ some))

-- a line that is unfair is not fair
not_fair : (os : List Device) (earlier : List Line) (l : Line) (x : UnfairCause) → IsUnfairLine os earlier l x → IsAskedLine os earlier l → IsOneSidedLine os earlier l → IsInTimeLine os earlier l → IsFreshLine os earlier l → is_lawfully_posted l.receipt.event ≡ true → ⊥
not_fair os earlier l cause.NotAskable unfair asked one time fresh lawful = unfair asked.askable
not_fair os earlier l cause.Unlawful unfair asked one time fresh lawful = not_both (is_lawfully_posted l.receipt.event) lawful unfair
not_fair os earlier l cause.NotAtHome unfair asked one time fresh lawful = not_both (is_at_home (device_after os earlier l.receipt.device) l.receipt.event (verb_in l.receipt.event)) asked.at_home unfair
not_fair os earlier l cause.PartnerMoves unfair asked one time fresh lawful = unfair one
not_fair os earlier l cause.TooLate unfair asked one time fresh lawful = unfair time
not_fair os earlier l cause.NameTaken unfair asked one time fresh lawful = unfair fresh

-- ---- all lines

-- what an answer says, line by line
abbrev SaysLines : List Device → List Line → Fairness → Type 0
SaysLines os ls Fair = Each (IsFairLine os) ls
SaysLines os ls (Unfair x place) = (l : Line) × (slice_get ls place ≡ Some l) × IsUnfairLine os (take place ls) l x × Each (IsFairLine os) (take place ls)

get_mid : (before : List Line) (x : Line) (more : List Line) → slice_get (before ++ x ∷ more) (length before) ≡ Some x
get_mid [] x more = refl
get_mid (y ∷ before) x more = get_mid before x more

module _ (tested : AskableIsTested) (os : List Device) (ids : HaveOwnIds os) where
  says_after : (earlier rest : List Line) → Each (IsLine os) (earlier ++ rest) → Each (IsFairLine os) earlier → SaysLines os (earlier ++ rest) (fairness_after os earlier rest)
  unfolding fairness_after
  says_after earlier [] each fair = subst (λ ls. Each (IsFairLine os) ls) (sym (append-nil earlier)) fair
  says_after earlier (l ∷ ls) each fair = by (cause_in (world_of os earlier) l.receipt) refl (says_after (earlier ++ l ∷ []) ls)
    where
      front : take (length earlier) (earlier ++ l ∷ ls) ≡ earlier
      front = take-append_seam earlier (l ∷ ls)

      line : IsLine os earlier l
      line = subst (λ before. IsLine os before l) front (each (length earlier) l (get_mid earlier l ls))

      more : (earlier ++ l ∷ []) ++ ls ≡ earlier ++ l ∷ ls
      more = append_assoc earlier (l ∷ []) ls

      by : (o : Option UnfairCause) → cause_in (world_of os earlier) l.receipt ≡ o
          → (Each (IsLine os) ((earlier ++ l ∷ []) ++ ls) → Each (IsFairLine os) (earlier ++ l ∷ []) → SaysLines os ((earlier ++ l ∷ []) ++ ls) (fairness_after os (earlier ++ l ∷ []) ls))
          → SaysLines os (earlier ++ l ∷ ls) (unless_unfair (length earlier) o (fairness_after os (earlier ++ l ∷ []) ls))
      by None none later =
          subst (λ whole. SaysLines os whole (fairness_after os (earlier ++ l ∷ []) ls)) more
          (later (subst (λ whole. Each (IsLine os) whole) (sym more) each) (each_push (IsFairLine os) earlier l fair (fair_line tested os ids earlier l line none)))
      by (Some x) is later = (
        l,
        get_mid earlier l ls,
        subst (λ before. IsUnfairLine os before l x) (sym front) (unfair_line tested os ids earlier l line x is),
        subst (λ before. Each (IsFairLine os) before) (sym front) fair,
      )

-- ---- orders

restored_front : (images : List ContextImage) (ls : List Line) (n : ℕ) (left : List ContextImage) → AreRestored images ls left → (mid : List ContextImage) × AreRestored images (take n ls) mid
restored_front images ls zero left are = (images, refl)
restored_front images [] (suc n) left are = (images, refl)
restored_front images (x ∷ ls) (suc n) left are =
    let more = restored_front (with_stopped x.receipt.outcome.image are.0) ls n left are.2 in
    (more.0, (are.0, are.1, more.1))

get_take : (n : ℕ) (ls : List Line) (k : ℕ) (l : Line) → slice_get (take n ls) k ≡ Some l → (slice_get ls k ≡ Some l) × (take k (take n ls) ≡ take k ls)
get_take zero ls k l h = absurd (cc)
get_take (suc n) [] k l h = absurd (cc)
get_take (suc n) (y ∷ ls) zero l h = (h, refl)
get_take (suc n) (y ∷ ls) (suc k) l h = let later = get_take n ls k l h in (later.0, ap (λ xs. y ∷ xs) later.1)

each_front : (Fact : List Line → Line → Type 0) (ls : List Line) (n : ℕ) → Each Fact ls → Each Fact (take n ls)
each_front Fact ls n each k l at = let whole = get_take n ls k l at in subst (λ before. Fact before l) (sym whole.1) (each k l whole.0)

front_order : (os : List Device) (ls : List Line) (n : ℕ) → IsWorldOrder os ls → IsWorldOrder os (take n ls)
front_order os ls n order =
    let restored = restored_front [] ls n order.untaken order.restored in
    record { each = each_front (IsLine os) ls n order.each; untaken = restored.0; restored = restored.1 }

fair_run : (os : List Device) (ls : List Line) → IsWorldOrder os ls → Each (IsFairLine os) ls → IsFairRun os ls
fair_run os ls order fair = record {
  fair = record {
    order = order;
    one_sided = λ k l at. (fair k l at).one_sided;
    in_time = λ k l at. (fair k l at).in_time;
    asked = λ k l at. (fair k l at).asked;
    fresh = λ k l at. (fair k l at).fresh;
  };
  lawful = λ k l at. (fair k l at).lawful;
}

says_of : (os : List Device) (ls : List Line) → IsWorldOrder os ls → (f : Fairness) → SaysLines os ls f → Says os ls f
says_of os ls order Fair fair = fair_run os ls order fair
says_of os ls order (Unfair x place) says = (
  record { line = says.0; there = says.1; unfair = says.2; first = fair_run os (take place ls) (front_order os ls place order) says.3 },
  (λ run. not_fair os (take place ls) says.0 x says.2 (run.fair.asked place says.0 says.1) (run.fair.one_sided place says.0 says.1) (run.fair.in_time place says.0 says.1) (run.fair.fresh place says.0 says.1) (run.lawful place says.0 says.1)),
)

pub exact : AskableIsTested → (os : List Device) (ls : List Line) → HaveOwnIds os → IsWorldOrder os ls → Says os ls (fairness_of os ls)
exact tested os ls ids order = says_of os ls order (fairness_of os ls) (says_after tested os ids [] ls order.each (λ k l at. absurd (cc)))

-- ---- what is legal

pub legal : AnyFairOrderIsLegal → PreparedOrdersAreLegal → (os : List Device) (ls : List Line) → IsFairOrder os ls → AreLegal os ls
legal any prepares os ls fair = record {
  from = λ w m opening same. any w m ls opening (subst (λ ds. IsFairOrder ds ls) (sym same) fair);
  prepared = λ es preparing same. prepares es ls preparing (subst (λ ds. IsFairOrder ds ls) (sym same) fair);
}

pub fair_legal : AnyFairOrderIsLegal → PreparedOrdersAreLegal → FairnessIsExact → FairRunsAreLegal
fair_legal any prepares exact os ls ids order fair =
    let says : IsFairRun os ls = subst (Says os ls) fair (exact os ls ids order) in
    legal any prepares os ls says.fair
