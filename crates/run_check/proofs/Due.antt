-- Where books, order and receipts tell of a world order, the check finds just its lines, and the next entry may come.
use Rattle.std.proofs.Common.{arith, ◌≡◌, ◌⊎◌, inl, inr, ℕ, zero, suc, ◌+◌, ◌<◌, ◌≤◌, ◌==◌, Bool, true, false, if◌then◌else◌, List, [], ◌∷◌, ◌++◌, length, take, drop, map, slice_get, slice_set, get_or, Some, refl, ap, sym, subst, ◌∙◌}
use Rattle.std.specs.Prelude.{◌||◌, Option, None}
use Rattle.std.proofs.lemmas.Bool.Decides.{nat_tests, eqb_tells}
use Rattle.std.proofs.lemmas.List.{length-take, take_all}
use Rattle.std.proofs.lemmas.Option.{slice_get-get_or, slice_get_within}
use mathlib.Core.Logic.{∥∥₁_elim}
use mathlib.Core.HLevel.{⊥_prop}
use mathlib.Core.List.{Mem, Perm, append_of_mem, mem-append_right, mem-cons_self, perm_inv_core}
use mathlib.Core.List.Perm as Permuted
use Rattle.rdma_types.specs.declared.requests.Address.{Address}
use Rattle.rdma_types.specs.Lists.{has}
use Rattle.protocol.specs.declared.events.Event.{Event}
use Rattle.protocol.specs.declared.events.Event.TheVariants as event
use Rattle.protocol.specs.declared.images.ContextImage.{ContextImage}
use Rattle.protocol.specs.State.{Device, Flight}
use Rattle.protocol.specs.DeviceStep.{device_step}
use Rattle.protocol.specs.Replay.{replay}
use Rattle.order_rules.specs.declared.OrderEntry.{OrderEntry}
use Rattle.order_rules.specs.declared.Receipt.{Receipt}
use Rattle.order_rules.specs.Lines.{Line, device_after, entry_of, events_on, held_by, opening_of}
use Rattle.order_rules.specs.Order.{AreRestored, Each, HasArrived, IsLine, Takes, with_stopped}
use Rattle.order_rules.proofs.Lists.{some_is}
use Rattle.shared_device.specs.Books.{AreApart, BookView, openings_of}
use Rattle.run_check.specs.declared.run.RunFault.{RunFault}
use Rattle.run_check.specs.declared.stops.StopAt.{StopAt}
use Rattle.run_check.specs.Checks.{AreMet, AreTold, HasNoBook, HasNoHead, IsDue, IsDueReceipt, IsMetAt, IsNamed, IsStop, IsStopOf, TakesStop}
use Rattle.run_check.specs.Gathered.{IsGathered, Tells}
use Rattle.run_check.proofs.Books.{found_at}
use Rattle.run_check.proofs.Faults.{tells_more, tells_so}
use Rattle.run_check.proofs.Loops.{IsChecked}
use Rattle.run_check.proofs.Taking.{AreStops}
use Rattle.run_check.proofs.Upto.{IsMet, IsToldOf, IsUpto, get_there, here}

-- ---- lists

get_take : {X : Type 0} (n : ℕ) (xs : List X) (k : ℕ) (x : X) → slice_get (take n xs) k ≡ Some x → slice_get xs k ≡ Some x
get_take zero [] k x h = cc
get_take zero (y ∷ xs) k x h = cc
get_take (suc n) [] k x h = cc
get_take (suc n) (y ∷ xs) zero x h = h
get_take (suc n) (y ∷ xs) (suc k) x h = get_take n xs k x h

get_map : {X Y : Type 0} (f : X → Y) (xs : List X) (k : ℕ) (x : X) → slice_get xs k ≡ Some x → slice_get (map f xs) k ≡ Some (f x)
get_map f [] k x h = cc
get_map f (y ∷ xs) zero x h = ap (λ v. Some (f v)) (some_is h)
get_map f (y ∷ xs) (suc k) x h = get_map f xs k x h

get_mapped : {X Y : Type 0} (f : X → Y) (xs : List X) (k : ℕ) (y : Y) → slice_get (map f xs) k ≡ Some y → (x : X) × (slice_get xs k ≡ Some x) × (f x ≡ y)
get_mapped f [] k y h = cc
get_mapped f (x ∷ xs) zero y h = (x, refl, some_is h)
get_mapped f (x ∷ xs) (suc k) y h = get_mapped f xs k y h

length_map : {X Y : Type 0} (f : X → Y) (xs : List X) → length (map f xs) ≡ length xs
length_map f [] = refl
length_map f (x ∷ xs) = ap suc (length_map f xs)

-- a list whose things stand in another one, at the same places, is the beginning of that one
begins : {X : Type 0} (xs ys : List X) → ((k : ℕ) (x : X) → slice_get xs k ≡ Some x → slice_get ys k ≡ Some x) → xs ≡ take (length xs) ys
begins [] ys each = refl
begins (x ∷ xs) [] each = absurd (let h = each 0 x refl in cc)
begins (x ∷ xs) (y ∷ ys) each =
    let first : y ≡ x = some_is (each 0 x refl) in
    let rest : xs ≡ take (length xs) ys = begins xs ys (λ k v at. each (suc k) v at) in
    λ i. sym first i ∷ rest i

get_mid : {X : Type 0} (before : List X) (x : X) (after : List X) → slice_get (before ++ x ∷ after) (length before) ≡ Some x
get_mid [] x after = refl
get_mid (y ∷ before) x after = get_mid before x after

-- ---- what is picked of lines

-- a receipt of a worker is that of a line
from_if : (b : Bool) (w : ℕ) (x : Line) (rs : List Receipt) (ls : List Line) (p : ℕ) (r : Receipt) → (x.receipt.worker == w) ≡ b
    → slice_get (if b then x.receipt ∷ rs else rs) p ≡ Some r → ((q : ℕ) → slice_get rs q ≡ Some r → (k : ℕ) × (l : Line) × (slice_get ls k ≡ Some l) × (l.receipt ≡ r) × (r.worker ≡ w))
    → (k : ℕ) × (l : Line) × (slice_get (x ∷ ls) k ≡ Some l) × (l.receipt ≡ r) × (r.worker ≡ w)
from_if true w x rs ls zero r own at more =
    let same : x.receipt ≡ r = some_is at in
    let worker : x.receipt.worker ≡ w = grind (arith, nat_tests, eqb_tells x.receipt.worker w, own) in
    (0, x, refl, same, ap (λ y. y.worker) (sym same) ∙ worker)
from_if true w x rs ls (suc p) r own at more = let m = more p at in (suc m.0, m.1, m.2, m.3, m.4)
from_if false w x rs ls p r own at more = let m = more p at in (suc m.0, m.1, m.2, m.3, m.4)

held_from : (w : ℕ) (ls : List Line) (p : ℕ) (r : Receipt) → slice_get (held_by w ls) p ≡ Some r → (k : ℕ) × (l : Line) × (slice_get ls k ≡ Some l) × (l.receipt ≡ r) × (r.worker ≡ w)
unfolding held_by
held_from w [] p r at = cc
held_from w (x ∷ ls) p r at = from_if (x.receipt.worker == w) w x (held_by w ls) ls p r refl at (λ q h. held_from w ls q r h)

-- the receipt of a line is one of its worker
at_if : {X : Type 0} (b : Bool) (y : X) (ys : List X) (p : ℕ) (x : X) → slice_get ys p ≡ Some x → (q : ℕ) × (slice_get (if b then y ∷ ys else ys) q ≡ Some x)
at_if true y ys p x h = (suc p, h)
at_if false y ys p x h = (p, h)

first_if : {X : Type 0} (b : Bool) (y : X) (ys : List X) → b ≡ true → slice_get (if b then y ∷ ys else ys) 0 ≡ Some y
first_if b y ys e = ap (λ u. slice_get (if u then y ∷ ys else ys) 0) e

own_test : (n : ℕ) → (n == n) ≡ true
own_test n = grind (arith, nat_tests, eqb_tells n n)

held_at : (ls : List Line) (k : ℕ) (l : Line) → slice_get ls k ≡ Some l → (p : ℕ) × (slice_get (held_by l.receipt.worker ls) p ≡ Some l.receipt)
unfolding held_by
held_at [] k l h = absurd cc
held_at (x ∷ ls) zero l h =
    let same : x ≡ l = some_is h in
    (0, subst (λ (y : Line). slice_get (if y.receipt.worker == l.receipt.worker then y.receipt ∷ held_by l.receipt.worker ls else held_by l.receipt.worker ls) 0 ≡ Some l.receipt) (sym same) (first_if (l.receipt.worker == l.receipt.worker) l.receipt (held_by l.receipt.worker ls) (own_test l.receipt.worker)))
held_at (x ∷ ls) (suc k) l h =
    let rest = held_at ls k l h in
    at_if (x.receipt.worker == l.receipt.worker) x.receipt (held_by l.receipt.worker ls) rest.0 l.receipt rest.1

-- .. at the place that tells how many of that worker came before
next_if : {X : Type 0} (b : Bool) (y : X) (ys zs : List X) (x : X) → slice_get ys (length zs) ≡ Some x → slice_get (if b then y ∷ ys else ys) (length (if b then y ∷ zs else zs)) ≡ Some x
next_if true y ys zs x h = h
next_if false y ys zs x h = h

held_next : (w : ℕ) (ls : List Line) (n : ℕ) (l : Line) → slice_get ls n ≡ Some l → l.receipt.worker ≡ w → slice_get (held_by w ls) (length (held_by w (take n ls))) ≡ Some l.receipt
unfolding held_by
held_next w [] n l h own = cc
held_next w (x ∷ ls) zero l h own =
    let same : x ≡ l = some_is h in
    let test : (x.receipt.worker == w) ≡ true = ap (λ (y : Line). y.receipt.worker == w) same ∙ (ap (λ k. k == w) own ∙ own_test w) in
    first_if (x.receipt.worker == w) x.receipt (held_by w ls) test ∙ ap (λ (y : Line). Some y.receipt) same
held_next w (x ∷ ls) (suc n) l h own = next_if (x.receipt.worker == w) x.receipt (held_by w ls) (held_by w (take n ls)) l.receipt (held_next w ls n l h own)

events_next : (d : ℕ) (ls : List Line) (n : ℕ) (l : Line) → slice_get ls n ≡ Some l → l.receipt.device ≡ d → slice_get (events_on d ls) (length (events_on d (take n ls))) ≡ Some l.receipt.event
unfolding events_on
events_next d [] n l h own = cc
events_next d (x ∷ ls) zero l h own =
    let same : x ≡ l = some_is h in
    let test : (x.receipt.device == d) ≡ true = ap (λ (y : Line). y.receipt.device == d) same ∙ (ap (λ k. k == d) own ∙ own_test d) in
    first_if (x.receipt.device == d) x.receipt.event (events_on d ls) test ∙ ap (λ (y : Line). Some y.receipt.event) same
events_next d (x ∷ ls) (suc n) l h own = next_if (x.receipt.device == d) x.receipt.event (events_on d ls) (events_on d (take n ls)) l.receipt.event (events_next d ls n l h own)

-- a line of a device raises the number of its events
some_if : {X : Type 0} (b : Bool) (y : X) (ys : List X) → b ≡ true → 0 < length (if b then y ∷ ys else ys)
some_if true y ys e = omega arith
some_if false y ys e = cc

less_if : {X : Type 0} (b : Bool) (y : X) (ys zs : List X) → length ys < length zs → length (if b then y ∷ ys else ys) < length (if b then y ∷ zs else zs)
less_if true y ys zs h = omega (arith, h)
less_if false y ys zs h = h

events_grow : (d : ℕ) (ls : List Line) (j k : ℕ) (l : Line) → j < k → slice_get ls j ≡ Some l → l.receipt.device ≡ d → length (events_on d (take j ls)) < length (events_on d (take k ls))
unfolding events_on
events_grow d [] j k l h at own = cc
events_grow d (x ∷ ls) j zero l h at own = absurd (omega (arith, h))
events_grow d (x ∷ ls) zero (suc k) l h at own =
    let same : x ≡ l = some_is at in
    let test : (x.receipt.device == d) ≡ true = ap (λ (y : Line). y.receipt.device == d) same ∙ (ap (λ n. n == d) own ∙ own_test d) in
    some_if (x.receipt.device == d) x.receipt.event (events_on d (take k ls)) test
events_grow d (x ∷ ls) (suc j) (suc k) l h at own = less_if (x.receipt.device == d) x.receipt.event (events_on d (take j ls)) (events_on d (take k ls)) (events_grow d ls j k l (omega (arith, h)) at own)

-- ---- one line for each place

by_order : (a b : ℕ) → (a < b) ⊎ ((a ≡ b) ⊎ (b < a))
by_order zero zero = inr (inl refl)
by_order zero (suc b) = inl (omega arith)
by_order (suc a) zero = inr (inr (omega arith))
by_order (suc a) (suc b) = elim (by_order a b) [
  | inl lt ↦ inl (omega (arith, lt))
  | inr r ↦ elim r [ inl eq ↦ inr (inl (ap suc eq)) | inr gt ↦ inr (inr (omega (arith, gt))) ]
]

one_line : (os : List Device) (ls : List Line) → Each (IsLine os) ls → (j k : ℕ) (l m : Line) → slice_get ls j ≡ Some l → slice_get ls k ≡ Some m → l.receipt.device ≡ m.receipt.device → l.receipt.place ≡ m.receipt.place → j ≡ k
one_line os ls each j k l m at_j at_k device place =
    let left : l.receipt.place ≡ length (events_on m.receipt.device (take j ls)) = (each j l at_j).place ∙ ap (λ d. length (events_on d (take j ls))) device in
    let right : m.receipt.place ≡ length (events_on m.receipt.device (take k ls)) = (each k m at_k).place in
    let same : length (events_on m.receipt.device (take j ls)) ≡ length (events_on m.receipt.device (take k ls)) = sym left ∙ (place ∙ right) in
    elim (by_order j k) [
      | inl lt ↦ (let g = events_grow m.receipt.device ls j k l lt at_j device in absurd (omega (arith, g, same)))
      | inr r ↦ elim r [
        | inl eq ↦ eq
        | inr gt ↦ (let g = events_grow m.receipt.device ls k j m gt at_k refl in absurd (omega (arith, g, same)))
      ]
    ]

-- ---- restores

restored_at : (images : List ContextImage) (ls : List Line) (n : ℕ) (l : Line) (left : List ContextImage) → AreRestored images ls left → slice_get ls n ≡ Some l → (mid : List ContextImage) × (rest : List ContextImage) × AreRestored images (take n ls) mid × Takes mid l.receipt.event rest
restored_at images [] n l left are at = cc
restored_at images (x ∷ ls) zero l left are at =
    let same : x ≡ l = some_is at in
    (images, are.0, refl, subst (λ (y : Line). Takes images y.receipt.event are.0) same are.1)
restored_at images (x ∷ ls) (suc n) l left are at =
    let more = restored_at (with_stopped x.receipt.outcome.image are.0) ls n l left are.2 at in
    (more.0, more.1, (are.0, are.1, more.2), more.3)

taken_alike : (e : Event) (a b c d : List ContextImage) → Perm a b → Takes a e c → Takes b e d → Perm c d
taken_alike (event.Restore image) a b c d p x y =
    let whole : Perm (x.before ++ image ∷ x.after) (y.before ++ image ∷ y.after) = subst (λ (v : List ContextImage × List ContextImage). Perm v.0 v.1) (λ i. (x.there i, y.there i)) p in
    subst (λ (v : List ContextImage × List ContextImage). Perm v.0 v.1) (λ i. (sym x.rest i, sym y.rest i)) (perm_inv_core image x.before y.before x.after y.after whole)
taken_alike e a b c d p x y = subst (λ (v : List ContextImage × List ContextImage). Perm v.0 v.1) (λ i. (sym x i, sym y i)) p

stopped_alike : (o : Option ContextImage) (a b : List ContextImage) → Perm a b → Perm (with_stopped o a) (with_stopped o b)
stopped_alike None a b p = p
stopped_alike (Some image) a b p = Permuted.append_right (image ∷ []) p

-- the same images are left, in some order
left_alike : (ls : List Line) (a b c d : List ContextImage) → Perm a b → AreRestored a ls c → AreRestored b ls d → Perm c d
left_alike [] a b c d p x y = subst (λ (v : List ContextImage × List ContextImage). Perm v.0 v.1) (λ i. (sym x i, sym y i)) p
left_alike (l ∷ ls) a b c d p x y =
    left_alike ls (with_stopped l.receipt.outcome.image x.0) (with_stopped l.receipt.outcome.image y.0) c d
    (stopped_alike l.receipt.outcome.image x.0 y.0 (taken_alike l.receipt.event a b x.0 y.0 p x.1 y.1)) x.2 y.2

stop_at : (receipts : List (List Receipt)) (stops : List StopAt) (images : List ContextImage) (k : ℕ) (image : ContextImage) → AreStops receipts stops images → slice_get images k ≡ Some image → (i : ℕ) × IsStopOf receipts stops image i
stop_at receipts [] [] k image are at = cc
stop_at receipts [] (m ∷ images) k image are at = absurd are
stop_at receipts (s ∷ stops) [] k image are at = cc
stop_at receipts (s ∷ stops) (m ∷ images) zero image are at = (0, (s, refl, subst (λ y. IsStop receipts s y) (some_is at) are.0))
stop_at receipts (s ∷ stops) (m ∷ images) (suc k) image are at = let r = stop_at receipts stops images k image are.1 at in (suc r.0, (r.1.0, r.1.1, r.1.2))

-- the event may take what it needs
stop_left : (receipts : List (List Receipt)) (stops : List StopAt) (images mid rest : List ContextImage) (e : Event) → AreStops receipts stops images → Perm images mid → Takes mid e rest → ((left : List StopAt) × TakesStop receipts stops e left → ⊥) → ⊥
stop_left receipts stops images mid rest (event.Restore image) are p takes none =
    let there : Mem image mid = subst (λ (v : List ContextImage). Mem image v) (sym takes.there) (mem-append_right takes.before {t = image ∷ takes.after} (mem-cons_self {a = image} {l = takes.after})) in
    let found : Mem image images = Permuted.subset (Permuted.symm p) image there in
    ∥∥₁_elim (append_of_mem found) ⊥_prop (λ w.
    let at : slice_get images (length w.0) ≡ Some image = ap (λ v. slice_get v (length w.0)) w.2 ∙ get_mid w.0 image w.1 in
    let stop = stop_at receipts stops images (length w.0) image are at in
    none (take stop.0 stops ++ drop (stop.0 + 1) stops, (stop.0, stop.1, refl)))
stop_left receipts stops images mid rest e are p takes none = none (stops, refl)

-- ---- books

known_if : (b c : Bool) → b || c ≡ true → (b ≡ true) ⊎ (c ≡ true)
known_if true c h = inl refl
known_if false c h = inr h

no_book : (books : List BookView) (id : ℕ) → has (λ (d : Device). d.id) id (openings_of books) ≡ true → HasNoBook books id → ⊥
unfolding has
no_book [] id known none = cc
no_book (b ∷ books) id known none = elim (known_if (b.opening.id == id) (has (λ (d : Device). d.id) id (openings_of books)) known) [
  | inl e ↦ none 0 b refl (grind (arith, nat_tests, eqb_tells b.opening.id id, e))
  | inr h ↦ no_book books id h (λ i c at. none (suc i) c at)
]

-- ---- the check so far, where all agree

module _ (books : List BookView) (receipts : List (List Receipt)) (entries : List OrderEntry) (g : IsGathered books entries receipts) where
  -- a receipt that is held is that of a line
  line_held : (w : ℕ) (held : List Receipt) (p : ℕ) (r : Receipt) → slice_get receipts w ≡ Some held → slice_get held p ≡ Some r → (k : ℕ) × (l : Line) × (slice_get g.lines k ≡ Some l) × (l.receipt ≡ r) × (r.worker ≡ w)
  line_held w held p r at there = held_from w g.lines p r (ap (λ v. slice_get v p) (sym (g.held.each_list w held at)) ∙ there)

  -- .. and of the line whose entry has its device and its place
  own_line : (w : ℕ) (held : List Receipt) (p : ℕ) (r : Receipt) (n : ℕ) (m : Line) → slice_get receipts w ≡ Some held → slice_get held p ≡ Some r → slice_get g.lines n ≡ Some m → r.device ≡ m.receipt.device → r.place ≡ m.receipt.place → (m.receipt ≡ r) × (r.worker ≡ w)
  own_line w held p r n m at there line device place =
      let from = line_held w held p r at there in
      let same : from.0 ≡ n = one_line (openings_of books) g.lines g.order.each from.0 n from.1 m from.2 line (ap (λ (x : Receipt). x.device) from.3 ∙ device) (ap (λ (x : Receipt). x.place) from.3 ∙ place) in
      let is : from.1 ≡ m = some_is (sym from.2 ∙ (ap (λ k. slice_get g.lines k) same ∙ line)) in
      (ap (λ (l : Line). l.receipt) (sym is) ∙ from.3, from.4)

  -- the line of an entry
  line_at : (n : ℕ) (e : OrderEntry) → slice_get entries n ≡ Some e → (m : Line) × (slice_get g.lines n ≡ Some m) × (entry_of m ≡ e)
  line_at n e at = get_mapped entry_of g.lines n e (ap (λ v. slice_get v n) (sym g.entries_are) ∙ at)

  same_line : (ls : List Line) (n : ℕ) (ps hs : List ℕ) (fs : List Flight) (ss : List StopAt) → IsUpto books receipts ls ps hs fs ss → length hs ≡ length receipts → map entry_of ls ≡ take n entries
      → (k : ℕ) (l : Line) → slice_get ls k ≡ Some l → slice_get g.lines k ≡ Some l
  same_line ls n ps hs fs ss u hl es k l at =
      let w : ℕ = l.receipt.worker in
      let low : w < length receipts = u.workers k l at in
      let held : List Receipt = get_or receipts w [] in
      let list_at : slice_get receipts w ≡ Some held = slice_get-get_or receipts w [] low in
      let head = get_there hs w (subst (λ v. w < v) (sym hl) low) in
      let told : IsToldOf w held head.0 ls = u.heads w held head.0 list_at head.1 in
      let place = held_at ls k l at in
      let there : slice_get held place.0 ≡ Some l.receipt = get_take head.0 held place.0 l.receipt (ap (λ v. slice_get v place.0) (sym told.receipts) ∙ place.1) in
      let entry : slice_get entries k ≡ Some (entry_of l) = get_take n entries k (entry_of l) (ap (λ v. slice_get v k) (sym es) ∙ get_map entry_of ls k l at) in
      let m = line_at k (entry_of l) entry in
      let own = own_line w held place.0 l.receipt k m.0 list_at there m.1 (ap (λ (e : OrderEntry). e.device) (sym m.2)) (ap (λ (e : OrderEntry). e.place) (sym m.2)) in
      let is : m.0 ≡ l = λ i. record { receipt = own.0 i; first = (m.2 i).first; count = (m.2 i).count } in
      m.1 ∙ ap Some is

  -- the lines that were found are the first ones
  found_lines : (ls : List Line) (n : ℕ) (ps hs : List ℕ) (fs : List Flight) (ss : List StopAt) → IsUpto books receipts ls ps hs fs ss → length hs ≡ length receipts → map entry_of ls ≡ take n entries → n ≤ length entries → ls ≡ take n g.lines
  found_lines ls n ps hs fs ss u hl es h =
      let size : length ls ≡ n = sym (length_map entry_of ls) ∙ (ap length es ∙ omega (arith, h, length-take n entries)) in
      begins ls g.lines (same_line ls n ps hs fs ss u hl es) ∙ ap (λ k. take k g.lines) size

  module _ (apart : AreApart books) (ls : List Line) (n : ℕ) (e : OrderEntry) (m : Line) (ps hs : List ℕ) (fs : List Flight) (ss : List StopAt)
      (u : IsUpto books receipts ls ps hs fs ss) (pl : length ps ≡ length books) (hl : length hs ≡ length receipts) (found : ls ≡ take n g.lines)
      (line : slice_get g.lines n ≡ Some m) (is : entry_of m ≡ e) where
    next : IsLine (openings_of books) ls m
    next = subst (λ v. IsLine (openings_of books) v m) (sym found) (g.order.each n m line)

    device_is : m.receipt.device ≡ e.device
    device_is = ap (λ (x : OrderEntry). x.device) is

    place_is : m.receipt.place ≡ e.place
    place_is = ap (λ (x : OrderEntry). x.place) is

    head_due : HasNoHead receipts hs e → ⊥
    head_due none =
        let w : ℕ = m.receipt.worker in
        let low : w < length receipts = g.held.all n m line in
        let held : List Receipt = get_or receipts w [] in
        let list_at : slice_get receipts w ≡ Some held = slice_get-get_or receipts w [] low in
        let head = get_there hs w (subst (λ v. w < v) (sym hl) low) in
        let told : IsToldOf w held head.0 ls = u.heads w held head.0 list_at head.1 in
        let count : length (held_by w (take n g.lines)) ≡ head.0 = ap (λ v. length (held_by w v)) (sym found) ∙ sym told.head in
        let there : slice_get held head.0 ≡ Some m.receipt = ap (λ v. slice_get v head.0) (g.held.each_list w held list_at) ∙ (ap (λ k. slice_get (held_by w g.lines) k) (sym count) ∙ held_next w g.lines n m line refl) in
        none w head.0 m.receipt ((held, list_at, there), head.1, device_is, place_is)

    met_due : (i : ℕ) (address : Address) → IsNamed books e.device i address → (ps' : List ℕ) × IsMetAt books ps ps' i m.receipt
    met_due i address named =
        let b : BookView = named.0 in
        let old = get_there ps i (subst (λ v. i < v) (sym pl) (slice_get_within books i b named.1)) in
        let was : IsMet b old.0 ls = u.places i b old.0 named.1 old.1 in
        let id : b.opening.id ≡ m.receipt.device = named.2 ∙ sym device_is in
        let count : length (events_on b.opening.id (take n g.lines)) ≡ old.0 = ap (λ v. length (events_on b.opening.id v)) (sym found) ∙ sym was.place in
        let event : slice_get b.journal old.0 ≡ Some m.receipt.event = ap (λ v. slice_get v old.0) (g.journals i b named.1) ∙ (ap (λ k. slice_get (events_on b.opening.id g.lines) k) (sym count) ∙ events_next b.opening.id g.lines n m line (sym id)) in
        let device : device_after (openings_of books) ls m.receipt.device ≡ replay b.opening (take old.0 b.journal) = here books i b old.0 ls m.receipt.device apart named.1 was id in (
          slice_set ps i (old.0 + 1),
          (
            b,
            old.0,
            old.0 + 1,
            named.1,
            old.1,
            record {
              place = next.place ∙ (ap (λ k. length (events_on k ls)) (sym id) ∙ sym was.place);
              event = event;
              outcome = next.outcome ∙ ap (λ d. (device_step d m.receipt.event).outcome) device;
              next = refl;
            },
            refl,
          ),
        )

    arrived_due : (i : ℕ) (address : Address) → IsNamed books e.device i address → HasArrived fs address m.receipt.event
    arrived_due i address named =
        let b : BookView = named.0 in
        let id : b.opening.id ≡ m.receipt.device = named.2 ∙ sym device_is in
        let opening : opening_of (openings_of books) m.receipt.device ≡ b.opening = ap (opening_of (openings_of books)) (sym id) ∙ (found_at books i b apart named.1).0 in
        let from : (opening_of (openings_of books) m.receipt.device).address ≡ address = ap (λ (d : Device). d.address) opening ∙ named.3 in
        subst (λ (p : List Flight × Address). HasArrived p.0 p.1 m.receipt.event) (λ i. (sym u.flights i, from i)) next.arrived

    due : (left : List StopAt) → TakesStop receipts ss m.receipt.event left → IsDue books receipts e ps hs fs ss
    due left takes = record {
      has_book = no_book books e.device (ap (λ k. has (λ (d : Device). d.id) k (openings_of books)) (sym device_is) ∙ next.known);
      has_head = head_due;
      receipt = λ w head r is_head.
          let own = own_line w is_head.0.0 head r n m is_head.0.1 is_head.0.2 line (is_head.2 ∙ sym device_is) (is_head.3 ∙ sym place_is) in
          subst (λ (x : Receipt). IsDueReceipt books receipts e ps fs ss w x) own.0 (record {
            is_worker = ap (λ (x : Receipt). x.worker) own.0 ∙ own.1;
            first = ap (λ (x : OrderEntry). x.first) (sym is) ∙ (next.first ∙ ap (λ f. length f + 1) (sym u.flights));
            count = ap (λ (x : OrderEntry). x.count) (sym is) ∙ next.count;
            arrived = arrived_due;
            taken = (left, takes);
            met = met_due;
          });
    }

    -- the entry may come next
    due_next : (IsDue books receipts e ps hs fs ss → ⊥) → ⊥
    due_next none =
        let r = restored_at [] g.lines n m g.order.untaken g.order.restored line in
        let mine : AreRestored [] (take n g.lines) u.images = subst (λ v. AreRestored [] v u.images) found u.restored in
        let alike : Perm u.images r.0 = left_alike (take n g.lines) [] [] u.images r.0 (Permuted.refl []) mine r.2 in
        stop_left receipts ss u.images r.0 r.1 m.receipt.event u.stops alike r.3 (λ t. none (due t.0 t.1))

-- ---- what the check tells

-- an entry that may not come next
pub not_due : (books : List BookView) (receipts : List (List Receipt)) (entries : List OrderEntry) (n : ℕ) (e : OrderEntry) (ps hs : List ℕ) (fs : List Flight) (ss : List StopAt) (f : RunFault)
    → AreApart books → n < length entries → e ≡ get_or entries n e → IsChecked books receipts (take n entries) ps hs fs ss → Tells (IsDue books receipts e ps hs fs ss → ⊥) f → Tells (IsGathered books entries receipts → ⊥) f
not_due books receipts entries n e ps hs fs ss f apart h at ch told = tells_so f (λ none g.
    let found = found_lines books receipts entries g ch.lines n ps hs fs ss ch.upto ch.heads ch.entries_are (omega (arith, h)) in
    let entry : slice_get entries n ≡ Some e = slice_get-get_or entries n e h ∙ ap Some (sym at) in
    let m = line_at books receipts entries g n e entry in
    due_next books receipts entries g apart ch.lines n e m.0 ps hs fs ss ch.upto ch.places ch.heads found m.1 m.2 none) told

-- the lines at the end
all_lines : (books : List BookView) (receipts : List (List Receipt)) (entries : List OrderEntry) (g : IsGathered books entries receipts) (ps hs : List ℕ) (fs : List Flight) (ss : List StopAt) (ch : IsChecked books receipts entries ps hs fs ss) → ch.lines ≡ g.lines
all_lines books receipts entries g ps hs fs ss ch =
    let whole : take (length entries) entries ≡ entries = take_all (length entries) entries (omega arith) in
    let size : length g.lines ≡ length entries = sym (length_map entry_of g.lines) ∙ ap length (sym g.entries_are) in
    found_lines books receipts entries g ch.lines (length entries) ps hs fs ss ch.upto ch.heads (ch.entries_are ∙ sym whole) (omega arith) ∙ take_all (length entries) g.lines (omega (arith, size))

-- a journal that was not met to its end
pub not_met : (books : List BookView) (receipts : List (List Receipt)) (entries : List OrderEntry) (ps hs : List ℕ) (fs : List Flight) (ss : List StopAt) (f : RunFault)
    → IsChecked books receipts entries ps hs fs ss → Tells (AreMet books ps → ⊥) f → Tells (IsGathered books entries receipts → ⊥) f
not_met books receipts entries ps hs fs ss f ch told = tells_more f (λ g i b n at n_at.
    let same = all_lines books receipts entries g ps hs fs ss ch in
    (ch.upto.places i b n at n_at).place ∙ ap length (ap (events_on b.opening.id) same ∙ sym (g.journals i b at))) told

-- receipts that were not met to their end
pub not_told : (books : List BookView) (receipts : List (List Receipt)) (entries : List OrderEntry) (ps hs : List ℕ) (fs : List Flight) (ss : List StopAt) (f : RunFault)
    → IsChecked books receipts entries ps hs fs ss → Tells (AreTold receipts hs → ⊥) f → Tells (IsGathered books entries receipts → ⊥) f
not_told books receipts entries ps hs fs ss f ch told = tells_more f (λ g w held n at n_at.
    let same = all_lines books receipts entries g ps hs fs ss ch in
    (ch.upto.heads w held n at n_at).head ∙ ap length (ap (held_by w) same ∙ sym (g.held.each_list w held at))) told
