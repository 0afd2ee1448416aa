use Rattle.std.proofs.Common.{arith, ◌≡◌, ℕ, zero, suc, ◌<◌, List, [], ◌∷◌, refl, ap, sym, ◌∙◌, ◌==◌, if◌then◌else◌, length}
use Rattle.std.specs.Prelude.{slice_get, Some, map}
use Rattle.order_rules.specs.declared.Receipt.{Receipt}
use Rattle.order_rules.specs.declared.OrderEntry.{OrderEntry}
use Rattle.order_rules.specs.Evaluate.{opened}
use Rattle.order_rules.specs.Lines.{Line, entry_of, events_on, held_by}
use Rattle.order_rules.specs.Order.{IsLine}
use Rattle.shared_device.specs.Books.{BookView, openings_of}
use Rattle.example_rules.specs.OrdersCases.{two_polls}
use Rattle.example_rules.proofs.WorldOrders.{EachAfter, each_of}
use Rattle.example_threads.specs.Polls.{books, entries, receipts}
use Rattle.example_threads.proofs.Small.{some_is}
use Rattle.example_threads.proofs.a_raised_place_disagrees.Goals as goal

by_line : EachAfter (IsLine (openings_of books)) [] two_polls
unfolding opened
by_line = (record { known = refl; place = refl; outcome = refl; first = refl; count = refl; arrived = tt }, (record { known = refl; place = refl; outcome = refl; first = refl; count = refl; arrived = tt }, tt))

journals : (i : ℕ) (b : BookView) → slice_get books i ≡ Some b → b.journal ≡ events_on b.opening.id two_polls
unfolding opened
journals zero b h = ap (λ x. x.journal) (sym (some_is h)) ∙ ap (λ x. events_on x.opening.id two_polls) (some_is h)
journals (suc i) b h = cc

each_list : (worker : ℕ) (held : List Receipt) → slice_get (receipts 0) worker ≡ Some held → held ≡ held_by worker two_polls
unfolding opened
each_list zero held h = cc
each_list (suc k) held h = cc

all : (k : ℕ) (l : Line) → slice_get two_polls k ≡ Some l → l.receipt.worker < 1
all zero l h = let w : 0 ≡ l.receipt.worker = ap (λ x. x.receipt.worker) (some_is h) in omega (arith, w)
all (suc zero) l h = let w : 0 ≡ l.receipt.worker = ap (λ x. x.receipt.worker) (some_is h) in omega (arith, w)
all (suc (suc k)) l h = cc

pub returns-clause-agree : goal.returns-clause-agree
returns-clause-agree c = record {
  lines = two_polls;
  order = record { each = each_of (IsLine (openings_of books)) two_polls by_line; untaken = c.two_polls_are_an_order.ensures.untaken; restored = c.two_polls_are_an_order.ensures.restored };
  journals = journals;
  entries_are = refl;
  held = record { each_list = each_list; all = all };
}

held_first : (l : Line) (ls : List Line) → l.receipt.worker ≡ 0 → held_by 0 (l ∷ ls) ≡ l.receipt ∷ held_by 0 ls
unfolding opened
held_first l ls e = ap (λ n. if n == 0 then l.receipt ∷ held_by 0 ls else held_by 0 ls) e

abbrev first_place : List Receipt → ℕ
first_place [] = 0
first_place (r ∷ rs) = r.place

abbrev first_entry : List OrderEntry → ℕ
first_entry [] = 0
first_entry (x ∷ xs) = x.place

-- the first line's place is that of the first entry, and that of worker 0's first receipt
clash : (ls : List Line) → entries ≡ map entry_of ls → ((k : ℕ) (l : Line) → slice_get ls k ≡ Some l → l.receipt.worker < 1) → ((held : List Receipt) → slice_get (receipts 1) 0 ≡ Some held → held ≡ held_by 0 ls) → ⊥
clash [] e w h = let n = ap length e in absurd (cc)
clash (l ∷ ls) e w h =
    let low : l.receipt.worker < 1 = w 0 l refl in
    let here : l.receipt.worker ≡ 0 = omega (arith, low) in
    let held : 1 ≡ l.receipt.place = ap first_place (h _ refl ∙ held_first l ls here) in
    let entered : 0 ≡ l.receipt.place = ap first_entry e in
    absurd (omega (arith, held, entered))

pub returns-clause-disagree : goal.returns-clause-disagree
returns-clause-disagree c g = clash g.lines g.entries_are g.held.all (λ held h. g.held.each_list 0 held h)
