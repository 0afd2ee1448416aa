-- How far the check of a run has come: the lines so far, and what the check keeps of them.
use Rattle.std.proofs.Common.{arith, ◌≡◌, ◌≢◌, inl, inr, ℕ, zero, suc, ◌+◌, ◌<◌, List, [], ◌∷◌, ◌++◌, length, take, map, slice_get, Some, refl, ap, sym, subst, ◌∙◌}
use Rattle.std.proofs.lemmas.List.{take_all, length-append}
use Rattle.std.proofs.lemmas.Option.{slice_get_within}
use Rattle.rdma_types.specs.declared.requests.Address.{Address}
use Rattle.rdma_types.specs.Lists.{has}
use Rattle.protocol.specs.declared.images.ContextImage.{ContextImage}
use Rattle.protocol.specs.State.{Device, Flight}
use Rattle.protocol.specs.DeviceStep.{device_step}
use Rattle.protocol.specs.Fabric.{flight_of, sending}
use Rattle.protocol.specs.Replay.{replay}
use Rattle.order_rules.specs.declared.OrderEntry.{OrderEntry}
use Rattle.order_rules.specs.declared.Receipt.{Receipt}
use Rattle.order_rules.specs.Lines.{Line, device_after, entry_of, events_on, flown, held_by, opening_of}
use Rattle.order_rules.specs.Order.{AreRestored, Each, HasArrived, IsLine, with_stopped}
use Rattle.order_rules.proofs.Lists.{get_push, set_get, some_is, take_push}
use Rattle.order_rules.proofs.Growing.{each_push, events_on-here, events_on-other, flown-none, flown-push, held_by-here, held_by-other, restored-push}
use Rattle.shared_device.specs.Books.{AreApart, BookView, openings_of}
use Rattle.run_check.specs.declared.stops.StopAt.{StopAt}
use Rattle.run_check.specs.Checks.{AreMet, AreTold, IsAdvanced, IsMetOne}
use Rattle.run_check.specs.Gathered.{IsGathered}
use Rattle.run_check.proofs.Books.{found_at}
use Rattle.run_check.proofs.Taking.{AreStops, noted_of, takes_of}

-- how many steps of a book were met, after these lines
pub record IsMet (b : BookView) (n : ℕ) (ls : List Line) : Type 0 where
  pub events : events_on b.opening.id ls ≡ take n b.journal
  pub place : n ≡ length (events_on b.opening.id ls)

-- how many receipts of a worker were met, after these lines
pub record IsToldOf (w : ℕ) (held : List Receipt) (n : ℕ) (ls : List Line) : Type 0 where
  pub receipts : held_by w ls ≡ take n held
  pub head : n ≡ length (held_by w ls)

-- the check has come so far
pub record IsUpto (books : List BookView) (receipts : List (List Receipt)) (ls : List Line) (ps hs : List ℕ) (fs : List Flight) (ss : List StopAt) : Type 0 where
  pub each : Each (IsLine (openings_of books)) ls
  pub places : (i : ℕ) (b : BookView) (n : ℕ) → slice_get books i ≡ Some b → slice_get ps i ≡ Some n → IsMet b n ls
  pub heads : (w : ℕ) (held : List Receipt) (n : ℕ) → slice_get receipts w ≡ Some held → slice_get hs w ≡ Some n → IsToldOf w held n ls
  pub workers : (k : ℕ) (l : Line) → slice_get ls k ≡ Some l → l.receipt.worker < length receipts
  pub flights : fs ≡ flown (openings_of books) ls
  pub images : List ContextImage
  pub restored : AreRestored [] ls images
  pub stops : AreStops receipts ss images

abbrev pub line_of : (e : OrderEntry) (r : Receipt) → Line
line_of e r = record { receipt = r; first = e.first; count = e.count }

met_here : (b : BookView) (e : OrderEntry) (r : Receipt) (old new : ℕ) (ls : List Line) → IsMet b old ls → IsMetOne b r old new → r.device ≡ b.opening.id → IsMet b new (ls ++ line_of e r ∷ [])
met_here b e r old new ls was one here =
    let events : events_on b.opening.id (ls ++ line_of e r ∷ []) ≡ events_on b.opening.id ls ++ r.event ∷ [] = events_on-here b.opening.id ls (line_of e r) here in
    record {
      events = events ∙ (ap (λ x. x ++ r.event ∷ []) was.events ∙ (sym (take_push b.journal old r.event one.event) ∙ ap (λ n. take n b.journal) (sym one.next)));
      place = let n = length-append (events_on b.opening.id ls) (r.event ∷ []) in one.next ∙ (ap (λ k. k + 1) was.place ∙ (sym n ∙ ap length (sym events)));
    }

met_other : (b : BookView) (n : ℕ) (ls : List Line) (l : Line) → IsMet b n ls → l.receipt.device ≢ b.opening.id → IsMet b n (ls ++ l ∷ [])
met_other b n ls l was ne =
    let events : events_on b.opening.id (ls ++ l ∷ []) ≡ events_on b.opening.id ls = events_on-other b.opening.id ls l ne in
    record {
      events = events ∙ was.events;
      place = was.place ∙ ap length (sym events);
    }

told_here : (w : ℕ) (held : List Receipt) (n : ℕ) (r : Receipt) (ls : List Line) (l : Line) → IsToldOf w held n ls → l.receipt ≡ r → l.receipt.worker ≡ w → slice_get held n ≡ Some r → IsToldOf w held (n + 1) (ls ++ l ∷ [])
told_here w held n r ls l was is own at =
    let more : held_by w (ls ++ l ∷ []) ≡ held_by w ls ++ r ∷ [] = held_by-here w ls l own ∙ ap (λ x. held_by w ls ++ x ∷ []) is in
    record {
      receipts = more ∙ (ap (λ x. x ++ r ∷ []) was.receipts ∙ sym (take_push held n r at));
      head = let e = length-append (held_by w ls) (r ∷ []) in ap (λ k. k + 1) was.head ∙ (sym e ∙ ap length (sym more));
    }

told_other : (w : ℕ) (held : List Receipt) (n : ℕ) (ls : List Line) (l : Line) → IsToldOf w held n ls → l.receipt.worker ≢ w → IsToldOf w held n (ls ++ l ∷ [])
told_other w held n ls l was other =
    let same : held_by w (ls ++ l ∷ []) ≡ held_by w ls = held_by-other w ls l other in
    record {
      receipts = same ∙ was.receipts;
      head = was.head ∙ ap length (sym same);
    }

-- the device of a book where its lines lead
pub here : (books : List BookView) (i : ℕ) (b : BookView) (n : ℕ) (ls : List Line) (id : ℕ) → AreApart books → slice_get books i ≡ Some b → IsMet b n ls → b.opening.id ≡ id → device_after (openings_of books) ls id ≡ replay b.opening (take n b.journal)
unfolding device_after
here books i b n ls id apart at was named =
    ap (λ k. replay (opening_of (openings_of books) k) (events_on k ls)) (sym named)
    ∙ (ap (λ d. replay d (events_on b.opening.id ls)) (found_at books i b apart at).0 ∙ ap (replay b.opening) was.events)

-- the next line
next_line : (books : List BookView) (receipts : List (List Receipt)) (ls : List Line) (e : OrderEntry) (ps hs : List ℕ) (fs : List Flight) (ss : List StopAt) (ps' hs' : List ℕ) (fs' : List Flight) (ss' : List StopAt)
    → AreApart books → IsUpto books receipts ls ps hs fs ss → (a : IsAdvanced books receipts e ps hs fs ss ps' hs' fs' ss') → (b : BookView) → slice_get books a.at ≡ Some b → (old new : ℕ) → slice_get ps a.at ≡ Some old → IsMetOne b a.receipt old new
    → (b.opening.id ≡ a.receipt.device) → ((opening_of (openings_of books) a.receipt.device).address ≡ a.address) → IsLine (openings_of books) ls (line_of e a.receipt)
next_line books receipts ls e ps hs fs ss ps' hs' fs' ss' apart u a b at old new old_at one named address =
    let r : Receipt = a.receipt in
    let was : IsMet b old ls = u.places a.at b old at old_at in
    let device : device_after (openings_of books) ls r.device ≡ replay b.opening (take old b.journal) = here books a.at b old ls r.device apart at was named in
    record {
      known = ap (λ k. has (λ x. x.id) k (openings_of books)) (sym named) ∙ (found_at books a.at b apart at).1;
      place = one.place ∙ (was.place ∙ ap (λ k. length (events_on k ls)) named);
      outcome = one.outcome ∙ ap (λ d. (device_step d r.event).outcome) (sym device);
      first = a.first ∙ ap (λ f. length f + 1) u.flights;
      count = a.count;
      arrived = subst (λ (p : List Flight × Address). HasArrived p.0 p.1 r.event) (λ i. (u.flights i, sym address i)) a.arrived;
    }

flights_of : (os : List Device) (ls : List Line) (l : Line) (fs : List Flight) (from : Address) → fs ≡ flown os ls → (opening_of os l.receipt.device).address ≡ from → fs ++ map (flight_of from) l.receipt.outcome.sent ≡ flown os (ls ++ l ∷ [])
unfolding sending
flights_of os ls l fs from so address =
    ap (λ x. x ++ map (flight_of from) l.receipt.outcome.sent) so
    ∙ (ap (λ x. flown os ls ++ map (flight_of x) l.receipt.outcome.sent) (sym address) ∙ sym (flown-push os ls l))

pub advanced : (books : List BookView) (receipts : List (List Receipt)) (ls : List Line) (e : OrderEntry) (ps hs : List ℕ) (fs : List Flight) (ss : List StopAt) (ps' hs' : List ℕ) (fs' : List Flight) (ss' : List StopAt)
    → AreApart books → IsUpto books receipts ls ps hs fs ss → (a : IsAdvanced books receipts e ps hs fs ss ps' hs' fs' ss') → IsUpto books receipts (ls ++ line_of e a.receipt ∷ []) ps' hs' fs' ss'
advanced books receipts ls e ps hs fs ss ps' hs' fs' ss' apart u a =
    let r : Receipt = a.receipt in
    let b : BookView = a.met.0 in
    let old : ℕ = a.met.1 in
    let new : ℕ = a.met.2 in
    let book_at : slice_get books a.at ≡ Some b = a.met.3 in
    let old_at : slice_get ps a.at ≡ Some old = a.met.4 in
    let one : IsMetOne b r old new = a.met.5 in
    let held : List Receipt = a.head.0.0 in
    let list_at : slice_get receipts a.worker ≡ Some held = a.head.0.1 in
    let receipt_at : slice_get held a.place ≡ Some r = a.head.0.2 in
    let head_at : slice_get hs a.worker ≡ Some a.place = a.head.1 in
    let l : Line = line_of e r in
    let same : a.named.0 ≡ b = some_is (sym a.named.1 ∙ book_at) in
    let named : b.opening.id ≡ r.device = ap (λ (y : BookView). y.opening.id) (sym same) ∙ (a.named.2 ∙ sym a.head.2) in
    let from : b.opening.address ≡ a.address = ap (λ (y : BookView). y.opening.address) (sym same) ∙ a.named.3 in
    let opening : opening_of (openings_of books) r.device ≡ b.opening = ap (opening_of (openings_of books)) (sym named) ∙ (found_at books a.at b apart book_at).0 in
    let address : (opening_of (openings_of books) r.device).address ≡ a.address = ap (λ (d : Device). d.address) opening ∙ from in
    let was : IsMet b old ls = u.places a.at b old book_at old_at in
    let taken = takes_of receipts ss u.images r.event a.rest u.stops a.taken in
    record {
      each = each_push (IsLine (openings_of books)) ls l u.each (next_line books receipts ls e ps hs fs ss ps' hs' fs' ss' apart u a b book_at old new old_at one named address);
      places = λ i c n at at'. elim (set_get ps a.at new i n (subst (λ q. slice_get q i ≡ Some n) a.met.6 at')) [
        | inl s ↦ (
            let b_is : b ≡ c = some_is (sym book_at ∙ (ap (λ k. slice_get books k) (sym s.0) ∙ at)) in
            subst (λ (p : BookView × ℕ). IsMet p.0 p.1 (ls ++ l ∷ [])) (λ i. (b_is i, sym s.1 i)) (met_here b e r old new ls was one (sym named)))
        | inr o ↦ met_other c n ls l (u.places i c n at o.1) (λ same. o.0 (apart i a.at c b at book_at (sym same ∙ sym named)))
      ];
      heads = λ w v n at at'. elim (set_get hs a.worker (a.place + 1) w n (subst (λ q. slice_get q w ≡ Some n) a.heads at')) [
        | inl s ↦ (
            let v_is : held ≡ v = some_is (sym list_at ∙ (ap (λ k. slice_get receipts k) (sym s.0) ∙ at)) in
            let before : IsToldOf a.worker held a.place ls = u.heads a.worker held a.place list_at head_at in
            subst (λ (p : ℕ × List Receipt × ℕ). IsToldOf p.0 p.1 p.2 (ls ++ l ∷ [])) (λ i. (sym s.0 i, v_is i, sym s.1 i)) (told_here a.worker held a.place r ls l before refl a.is_worker receipt_at))
        | inr o ↦ told_other w v n ls l (u.heads w v n at o.1) (λ same. o.0 (sym same ∙ a.is_worker))
      ];
      workers = λ k x at. elim (get_push ls l k x at) [
        | inl b ↦ u.workers k x b.1
        | inr b ↦ subst (λ (y : Line). y.receipt.worker < length receipts) (sym b.1) (subst (λ n. n < length receipts) (sym a.is_worker) (slice_get_within receipts a.worker held list_at))
      ];
      flights = a.flights ∙ flights_of (openings_of books) ls l fs a.address u.flights address;
      images = with_stopped r.outcome.image taken.0;
      restored = restored-push [] ls l u.images taken.0 u.restored taken.1;
      stops = subst (λ x. AreStops receipts x (with_stopped r.outcome.image taken.0)) (sym a.stopped) (noted_of receipts a.rest taken.0 a.worker a.place r r.outcome.image refl a.head.0 taken.2);
    }

pub get_there : {X : Type 0} (xs : List X) (k : ℕ) → k < length xs → (x : X) × (slice_get xs k ≡ Some x)
get_there [] k h = absurd (omega (arith, h))
get_there (x ∷ xs) zero h = (x, refl)
get_there (x ∷ xs) (suc k) h = get_there xs k (omega (arith, h))

-- the journal of a book is what its lines asked
journal_is : (books : List BookView) (receipts : List (List Receipt)) (ls : List Line) (ps hs : List ℕ) (fs : List Flight) (ss : List StopAt) → IsUpto books receipts ls ps hs fs ss → AreMet books ps → (i : ℕ) (b : BookView) (n : ℕ) → slice_get books i ≡ Some b → slice_get ps i ≡ Some n → b.journal ≡ events_on b.opening.id ls
journal_is books receipts ls ps hs fs ss u met i b n at n_at = sym ((u.places i b n at n_at).events ∙ take_all n b.journal (let p = met i b n at n_at in omega (arith, p)))

pub gathered_from : (books : List BookView) (entries : List OrderEntry) (receipts : List (List Receipt)) (ls : List Line) (ps hs : List ℕ) (fs : List Flight) (ss : List StopAt)
    → IsUpto books receipts ls ps hs fs ss → length ps ≡ length books → length hs ≡ length receipts → AreMet books ps → AreTold receipts hs → map entry_of ls ≡ entries → IsGathered books entries receipts
gathered_from books entries receipts ls ps hs fs ss u pl hl met told_all es = record {
  lines = ls;
  order = record { each = u.each; untaken = u.images; restored = u.restored };
  journals = λ i b at.
      let n = get_there ps i (subst (λ k. i < k) (sym pl) (slice_get_within books i b at)) in
      journal_is books receipts ls ps hs fs ss u met i b n.0 at n.1;
  entries_are = sym es;
  held = record {
    each_list = λ w held at.
        let n = get_there hs w (subst (λ n. w < n) (sym hl) (slice_get_within receipts w held at)) in
        sym ((u.heads w held n.0 at n.1).receipts ∙ take_all n.0 held (let p = told_all w held n.0 at n.1 in omega (arith, p)));
    all = u.workers;
  };
}

pub upto_none : (books : List BookView) (receipts : List (List Receipt)) (ps hs : List ℕ) → ((i n : ℕ) → slice_get ps i ≡ Some n → n ≡ 0) → ((w n : ℕ) → slice_get hs w ≡ Some n → n ≡ 0) → IsUpto books receipts [] ps hs [] []
unfolding events_on held_by
upto_none books receipts ps hs unmet untold = record {
  each = λ k l at. cc;
  places = λ i b n at at'. record {
    events = ap (λ k. take k b.journal) (sym (unmet i n at'));
    place = unmet i n at';
  };
  heads = λ w v n at at'. record {
    receipts = ap (λ k. take k v) (sym (untold w n at'));
    head = untold w n at';
  };
  workers = λ k l at. cc;
  flights = sym (flown-none (openings_of books));
  images = [];
  restored = refl;
  stops = tt;
}
