-- How a link lightens.
use Rattle.std.proofs.Common.{arith, ◌≡◌, ◌≢◌, ◌≤◌, ◌<◌, ◌+◌, ◌-◌, ◌*◌, ◌⊎◌, ℕ, true, false, Bool, refl, sym, ap, ◌∙◌, inl, inr}
use Rattle.std.specs.Prelude.{Option, Some, None, if◌then◌else◌, nat_lt, ◌==◌, ◌&&◌, ◌||◌, not}
use Rattle.std.proofs.lemmas.Bool.Decides.{eqb_tells}
use Rattle.rdma_types.specs.declared.names.ObjName.{ObjName}
use Rattle.protocol.specs.State.{World, Link, Sender, Moving, Phase, Running, Paused, Resuming}
use Rattle.protocol.specs.Requester.{end_of_queue}
use Rattle.protocol.specs.Settle.{Waited, mark_of, may_step, partner_ended, unacknowledged}
use Rattle.law_settling.specs.Weights.{notes_left, waits_left, phase_left, moves_left, parts, weight, same_mark, GoesOn}

if_true : {A : Type 0} (b : Bool) (x y : A) → b ≡ true → (if b then x else y) ≡ x
if_true true x y h = refl
if_true false x y h = absurd (cc)

if_false : {A : Type 0} (b : Bool) (x y : A) → b ≡ false → (if b then x else y) ≡ y
if_false true x y h = absurd (cc)
if_false false x y h = refl

if_most : (b : Bool) (x y n : ℕ) → x ≤ n → y ≤ n → (if b then x else y) ≤ n
if_most true x y n h k = h
if_most false x y n h k = k

same_number : (n : ℕ) → (n == n) ≡ true
same_number n = elim (eqb_tells n n) [ inl t ↦ t.0 | inr t ↦ absurd (t.1 refl) ]

pub weight_alive : (k : ℕ) (x : Option Waited) (l : Link) → l.ended ≡ false → weight k x l ≡ parts k x l
unfolding weight
weight_alive k x l h = if_false l.ended (if l.sender.rnr_wait then 1 else 0) (parts k x l) h

pub weight_over : (k : ℕ) (x : Option Waited) (l : Link) → l.ended ≡ true → weight k x l ≡ (if l.sender.rnr_wait then 1 else 0)
unfolding weight
weight_over k x l h = if_true l.ended (if l.sender.rnr_wait then 1 else 0) (parts k x l) h

pub unacknowledged_alive : (l : Link) → l.ended ≡ false → unacknowledged (Some l) ≡ end_of_queue l.terms l.sender - l.sender.una
unacknowledged_alive l h = if_false l.ended 0 (end_of_queue l.terms l.sender - l.sender.una) h

unacknowledged_over : (l : Link) → l.ended ≡ true → unacknowledged (Some l) ≡ 0
unacknowledged_over l h = if_true l.ended 0 (end_of_queue l.terms l.sender - l.sender.una) h

-- ---- bounds of the parts

notes_most : (x : Option Waited) (una : ℕ) → notes_left x una ≤ 3
notes_most None una = omega arith
notes_most (Some x) una = omega (arith, if_most (x.una == una) 0 2 2 (omega arith) (omega arith), if_most x.partner_ended 0 1 1 (omega arith) (omega arith))

waits_most : (x : Option Waited) (l : Link) → waits_left x l ≤ 9
unfolding waits_left
waits_most x l = if_most (l.terms.rnr == 7) (notes_left x l.sender.una) _ 9 (omega (arith, notes_most x l.sender.una)) (omega (arith, if_most l.sender.rnr_wait 1 0 1 (omega arith) (omega arith)))

phase_most : (p : Phase) → phase_left p ≤ 2
phase_most Running = omega arith
phase_most Paused = omega arith
phase_most Resuming = omega arith

moves_most : (k : ℕ) (m : Moving) → moves_left k m ≤ 5
unfolding moves_left
moves_most k m = omega (arith, phase_most m.phase, if_most (nat_lt m.recorded k) 2 0 2 (omega arith) (omega arith))

moves_some : (k : ℕ) (m : Moving) → 1 ≤ moves_left k m
unfolding moves_left
moves_some k m = omega arith

parts_most : (k : ℕ) (x : Option Waited) (l : Link) → parts k x l ≤ 18 * (end_of_queue l.terms l.sender - l.sender.una) + 22
unfolding parts
parts_most k x l = omega (arith, waits_most x l, moves_most k l.moving)

parts_some : (k : ℕ) (x : Option Waited) (l : Link) → 1 ≤ parts k x l
unfolding parts
parts_some k x l = omega (arith, moves_some k l.moving)

-- a link has at most this weight
pub weight_most : (k : ℕ) (x : Option Waited) (l : Link) → weight k x l ≤ 18 * unacknowledged (Some l) + 22
weight_most k x l = by_test l.ended refl
  where
    by_test : (b : Bool) → l.ended ≡ b → weight k x l ≤ 18 * unacknowledged (Some l) + 22
    by_test true h = omega (arith, weight_over k x l h, if_most l.sender.rnr_wait 1 0 1 (omega arith) (omega arith))
    by_test false h = omega (arith, weight_alive k x l h, parts_most k x l, unacknowledged_alive l h)

-- ---- an end goes to Error

pub over : (k : ℕ) (N : Type 0) (l l' : Link) → l.ended ≡ false → l'.ended ≡ true → l'.peer ≡ l.peer → l'.terms ≡ l.terms → l'.moving.own ≡ l.moving.own → l'.sender.rnr_wait ≡ false → GoesOn k N l l'
over k N l l' alive ended peer terms own no_wait = record {
  peer = peer;
  terms = terms;
  own = own;
  fewer = omega (arith, unacknowledged_over l' ended);
  few = λ h a. absurd (cc (a, ended));
  lightens = λ n. record {
    no_more = λ x. omega (arith, weight_over k x l' ended, nothing);
    less = λ x h. omega (arith, weight_over k x l' ended, nothing, weight_alive k x l alive, parts_some k x l);
  };
}
  where
    nothing : ◌≡◌ {A = ℕ} (if l'.sender.rnr_wait then 1 else 0) 0
    nothing = if_false l'.sender.rnr_wait 1 0 no_wait

-- .. and is lighter
pub ends_lighter : (k : ℕ) (x : Option Waited) (l l' : Link) → l.ended ≡ false → l'.ended ≡ true → l'.sender.rnr_wait ≡ false → weight k x l' < weight k x l
ends_lighter k x l l' alive ended no_wait = omega (arith, weight_over k x l' ended, nothing, weight_alive k x l alive, parts_some k x l)
  where
    nothing : ◌≡◌ {A = ℕ} (if l'.sender.rnr_wait then 1 else 0) 0
    nothing = if_false l'.sender.rnr_wait 1 0 no_wait

-- ---- an end in Rts stays there

-- l' is in Rts as l is, with the same partner, terms and end of its queue
pub record IsAlive (l l' : Link) : Type 0 where
  pub alive : l.ended ≡ false
  pub alive' : l'.ended ≡ false
  pub peer : l'.peer ≡ l.peer
  pub terms : l'.terms ≡ l.terms
  pub own : l'.moving.own ≡ l.moving.own
  pub ends : end_of_queue l'.terms l'.sender ≡ end_of_queue l.terms l.sender

goes_by : (k : ℕ) (N : Type 0) (l l' : Link) → IsAlive l l' → l.sender.una ≤ l'.sender.una → l'.sender.spent ≤ l.sender.spent → (N → (x : Option Waited) → parts k x l' ≤ parts k x l) → (N → (x : Option Waited) → same_mark (mark_of (Some l)) (mark_of (Some l')) ≡ false → parts k x l' < parts k x l) → GoesOn k N l l'
goes_by k N l l' a rises spent more less = record {
  peer = a.peer;
  terms = a.terms;
  own = a.own;
  fewer = omega (arith, unacknowledged_alive l a.alive, unacknowledged_alive l' a.alive', a.ends, rises);
  few = λ h z. omega (arith, h a.alive, spent, ap (λ t. t.retry) a.terms);
  lightens = λ n. record {
    no_more = λ x. omega (arith, weight_alive k x l' a.alive', weight_alive k x l a.alive, more n x);
    less = λ x h. omega (arith, weight_alive k x l' a.alive', weight_alive k x l a.alive, less n x h);
  };
}

-- `una` rises
pub advances : (k : ℕ) (N : Type 0) (l l' : Link) → IsAlive l l' → l'.moving ≡ l.moving → l.sender.una < l'.sender.una → l.sender.una < end_of_queue l.terms l.sender → l'.sender.spent ≤ l.sender.spent → GoesOn k N l l'
unfolding parts
advances k N l l' a moving rises below spent =
    let lighter : (x : Option Waited) → parts k x l' < parts k x l = λ x. omega (arith, a.ends, waits_most x l', ap (moves_left k) moving, rises, below) in
    goes_by k N l l' a (omega (arith, rises)) spent (λ n x. omega (arith, lighter x)) (λ n x h. lighter x)

-- the sender keeps its counts, and waits no more than before
pub record IsStill (s s' : Sender) : Type 0 where
  pub una : s'.una ≡ s.una
  pub spent : s'.spent ≡ s.spent
  pub waits : s'.waits ≡ s.waits
  pub wait : (s'.rnr_wait ≡ s.rnr_wait) ⊎ (s'.rnr_wait ≡ false)

wait_no_more : (b c : Bool) → (c ≡ b) ⊎ (c ≡ false) → (if c then 1 else 0) ≤ (if b then 1 else 0)
wait_no_more true true h = omega arith
wait_no_more true false h = omega arith
wait_no_more false false h = omega arith
wait_no_more false true h = elim h [ inl a ↦ absurd (cc) | inr b ↦ absurd (cc) ]

waits_still : (x : Option Waited) (l l' : Link) → l'.terms ≡ l.terms → l'.sender.una ≡ l.sender.una → l'.sender.waits ≡ l.sender.waits → (l'.sender.rnr_wait ≡ l.sender.rnr_wait) ⊎ (l'.sender.rnr_wait ≡ false) → waits_left x l' ≤ waits_left x l
unfolding waits_left
waits_still x l l' terms una waits wait = by_test (l.terms.rnr == 7) (l'.terms.rnr == 7) (ap (λ t. t.rnr == 7) terms)
  where
    by_test : (b c : Bool) → c ≡ b → (if c then notes_left x l'.sender.una else (8 - l'.sender.waits) + (if l'.sender.rnr_wait then 1 else 0)) ≤ (if b then notes_left x l.sender.una else (8 - l.sender.waits) + (if l.sender.rnr_wait then 1 else 0))
    by_test true true e = omega (arith, ap (notes_left x) una)
    by_test false false e = omega (arith, waits, wait_no_more l.sender.rnr_wait l'.sender.rnr_wait wait)
    by_test true false e = absurd (cc)
    by_test false true e = absurd (cc)

parts_still : (k : ℕ) (x : Option Waited) (l l' : Link) → IsAlive l l' → IsStill l.sender l'.sender → parts k x l' + moves_left k l.moving ≤ parts k x l + moves_left k l'.moving
unfolding parts
parts_still k x l l' a h = omega (arith, a.ends, h.una, h.spent, waits_still x l l' a.terms h.una h.waits h.wait)

unmarked : (l l' : Link) → l'.ended ≡ l.ended → l'.moving.phase ≡ l.moving.phase → l'.sender.una ≡ l.sender.una → same_mark (mark_of (Some l)) (mark_of (Some l')) ≡ false → ⊥
unmarked l l' ended phase una h =
    let same : mark_of (Some l') ≡ mark_of (Some l) = λ i. mark_of (Some (record l { ended = ended i; moving = record l.moving { phase = phase i }; sender = record l.sender { una = una i } })) in
    absurd (cc (h, ap (same_mark (mark_of (Some l))) same, same_itself (mark_of (Some l))))
  where
    same_itself : (a : _) → same_mark a a ≡ true
    same_itself a = rw (same_number a.una, same_number a.state) refl

-- nothing that counts changes
pub rests : (k : ℕ) (N : Type 0) (l l' : Link) → IsAlive l l' → l'.moving ≡ l.moving → IsStill l.sender l'.sender → GoesOn k N l l'
rests k N l l' a moving h =
    goes_by k N l l' a (omega (arith, h.una)) (omega (arith, h.spent)) (λ n x. omega (arith, parts_still k x l l' a h, ap (moves_left k) moving))
    (λ n x m. absurd (unmarked l l' (a.alive' ∙ sym a.alive) (ap (λ z. z.phase) moving) h.una m))

-- the phase changes, or the record of the partner's moves
pub moves : (k : ℕ) (N : Type 0) (l l' : Link) → IsAlive l l' → IsStill l.sender l'.sender → (N → moves_left k l'.moving < moves_left k l.moving) → GoesOn k N l l'
moves k N l l' a h less =
    goes_by k N l l' a (omega (arith, h.una)) (omega (arith, h.spent)) (λ n x. omega (arith, parts_still k x l l' a h, less n)) (λ n x m. omega (arith, parts_still k x l l' a h, less n))

waits_begin : (x : Option Waited) (l l' : Link) → l'.terms ≡ l.terms → l'.sender.una ≡ l.sender.una → (l.terms.rnr ≢ 7 → (l'.sender.waits ≡ l.sender.waits + 1) × (l'.sender.waits ≤ 7)) → waits_left x l' ≤ waits_left x l
unfolding waits_left
waits_begin x l l' terms una counts = by_test (l.terms.rnr == 7) (l'.terms.rnr == 7) refl (ap (λ t. t.rnr == 7) terms)
  where
    by_test : (b c : Bool) → (l.terms.rnr == 7) ≡ b → c ≡ b → (if c then notes_left x l'.sender.una else (8 - l'.sender.waits) + (if l'.sender.rnr_wait then 1 else 0)) ≤ (if b then notes_left x l.sender.una else (8 - l.sender.waits) + (if l.sender.rnr_wait then 1 else 0))
    by_test true true t e = omega (arith, ap (notes_left x) una)
    by_test false false t e = let g = counts (λ h. absurd (cc (t, ap (λ n. n == 7) h))) in omega (arith, g.0, g.1, if_most l'.sender.rnr_wait 1 0 1 (omega arith) (omega arith))
    by_test true false t e = absurd (cc)
    by_test false true t e = absurd (cc)

-- the end begins to wait for the RNR timer
pub waits_once : (k : ℕ) (N : Type 0) (l l' : Link) → IsAlive l l' → l'.moving ≡ l.moving → l'.sender.una ≡ l.sender.una → l'.sender.spent ≡ l.sender.spent →
    (l.terms.rnr ≢ 7 → (l'.sender.waits ≡ l.sender.waits + 1) × (l'.sender.waits ≤ 7)) → GoesOn k N l l'
unfolding parts
waits_once k N l l' a moving una spent counts =
    goes_by k N l l' a (omega (arith, una)) (omega (arith, spent)) (λ n x. omega (arith, a.ends, una, spent, ap (moves_left k) moving, waits_begin x l l' a.terms una counts))
    (λ n x m. absurd (unmarked l l' (a.alive' ∙ sym a.alive) (ap (λ z. z.phase) moving) una m))

-- nothing happens
pub same : (k : ℕ) (N : Type 0) (l : Link) → GoesOn k N l l
same k N l = record {
  peer = refl;
  terms = refl;
  own = refl;
  fewer = omega arith;
  few = λ h. h;
  lightens = λ n. record { no_more = λ x. omega arith; less = λ x h. absurd (unmarked l l refl refl refl h) };
}

-- ---- timers

-- one more expiry is counted
pub counts_lighter : (k : ℕ) (l l' : Link) → IsAlive l l' → l'.moving ≡ l.moving → l'.sender.una ≡ l.sender.una → l'.sender.waits ≡ l.sender.waits → l'.sender.rnr_wait ≡ l.sender.rnr_wait → l'.sender.spent ≡ l.sender.spent + 1 → l.sender.spent ≤ 7 → (x : Option Waited) → weight k x l' < weight k x l
unfolding parts
counts_lighter k l l' a moving una waits wait spent few x =
    omega (arith, weight_alive k x l' a.alive', weight_alive k x l a.alive, a.ends, una, spent, few, ap (moves_left k) moving, waits_still x l l' a.terms una waits (inl wait))

pub counts : (k : ℕ) (N : Type 0) (l l' : Link) → IsAlive l l' → l'.moving ≡ l.moving → l'.sender.una ≡ l.sender.una → l'.sender.waits ≡ l.sender.waits → l'.sender.rnr_wait ≡ l.sender.rnr_wait → l'.sender.spent ≡ l.sender.spent + 1 → l.sender.spent ≢ l.terms.retry → GoesOn k N l l'
unfolding parts
counts k N l l' a moving una waits wait spent more = record {
  peer = a.peer;
  terms = a.terms;
  own = a.own;
  fewer = omega (arith, unacknowledged_alive l a.alive, unacknowledged_alive l' a.alive', a.ends, una);
  few = λ h z. below l.sender.spent l.terms.retry l'.sender.spent l'.terms.retry (h a.alive) more spent (ap (λ t. t.retry) a.terms);
  lightens = λ n. record {
    no_more = λ x. omega (arith, weight_alive k x l' a.alive', weight_alive k x l a.alive, a.ends, una, spent, ap (moves_left k) moving, waits_still x l l' a.terms una waits (inl wait));
    less = λ x m. absurd (unmarked l l' (a.alive' ∙ sym a.alive) (ap (λ z. z.phase) moving) una m);
  };
}
  where
    below : (a b c d : ℕ) → a ≤ b → a ≢ b → c ≡ a + 1 → d ≡ b → c ≤ d
    below a b c d h ne e f = omega (arith, h, ne, e, f)

-- the RNR timer is over: the end with another note, or one in Error, is lighter
pub over_goes : (k : ℕ) (N : Type 0) (l l' : Link) → l'.ended ≡ l.ended → l'.peer ≡ l.peer → l'.terms ≡ l.terms → l'.moving ≡ l.moving → end_of_queue l'.terms l'.sender ≡ end_of_queue l.terms l.sender → l'.sender.una ≡ l.sender.una → l'.sender.spent ≡ l.sender.spent → l'.sender.waits ≡ l.sender.waits → l'.sender.rnr_wait ≡ false → GoesOn k N l l'
over_goes k N l l' ended peer terms moving ends una spent waits no_wait = by_test l.ended refl
  where
    nothing : ◌≡◌ {A = ℕ} (if l'.sender.rnr_wait then 1 else 0) 0
    nothing = if_false l'.sender.rnr_wait 1 0 no_wait

    by_test : (b : Bool) → l.ended ≡ b → GoesOn k N l l'
    by_test false t = rests k N l l' (record { alive = t; alive' = ended ∙ t; peer = peer; terms = terms; own = ap (λ z. z.own) moving; ends = ends }) moving (record { una = una; spent = spent; waits = waits; wait = inr no_wait })
    by_test true t = record {
      peer = peer;
      terms = terms;
      own = ap (λ z. z.own) moving;
      fewer = omega (arith, unacknowledged_over l' (ended ∙ t));
      few = λ h a. absurd (cc (a, ended, t));
      lightens = λ n. record {
        no_more = λ x. omega (arith, weight_over k x l' (ended ∙ t), nothing);
        less = λ x m. absurd (unmarked l l' ended (ap (λ z. z.phase) moving) una m);
      };
    }

-- a step with rnr 7 is allowed by the last note
abbrev may_note : Option Waited → ℕ → Bool → Bool
may_note None una ended = true
may_note (Some x) una ended = not (x.una == una) || (ended && not x.partner_ended)

may_is : (w : World) (l : Link) (x : Option Waited) → (l.terms.rnr == 7) ≡ true → may_step w l x ≡ true → may_note x l.sender.una (partner_ended w l) ≡ true
may_is w l None seven may = refl
may_is w l (Some x) seven may = by_test (l.terms.rnr == 7) _ seven may
  where
    by_test : (a b : Bool) → a ≡ true → (not a || b) ≡ true → b ≡ true
    by_test true b h g = g
    by_test false b h g = absurd (cc)

here_zero : (una : ℕ) → ◌≡◌ {A = ℕ} (if una == una then 0 else 2) 0
here_zero una = if_true {A = ℕ} (una == una) 0 2 (same_number una)

notes_lighter : (x : Option Waited) (una : ℕ) (ended : Bool) (o : ObjName) → may_note x una ended ≡ true → notes_left (Some (record { end = o; una = una; partner_ended = ended })) una < notes_left x una
notes_lighter None una ended o h = omega (arith, here_zero una, if_most ended 0 1 1 (omega arith) (omega arith))
notes_lighter (Some y) una ended o h = by_tests (y.una == una) ended y.partner_ended h
  where
    by_tests : (a b c : Bool) → (not a || (b && not c)) ≡ true → (if una == una then 0 else 2) + (if b then 0 else 1) < (if a then 0 else 2) + (if c then 0 else 1)
    by_tests false b c g = omega (arith, here_zero una, if_most b 0 1 1 (omega arith) (omega arith))
    by_tests true true false g = omega (arith, here_zero una)
    by_tests true true true g = absurd (cc)
    by_tests true false c g = absurd (cc)

pub over_lighter : (k : ℕ) (w : World) (o : ObjName) (x : Option Waited) (l l' : Link) → l'.ended ≡ l.ended → l'.terms ≡ l.terms → l'.moving ≡ l.moving → end_of_queue l'.terms l'.sender ≡ end_of_queue l.terms l.sender → l'.sender.una ≡ l.sender.una → l'.sender.spent ≡ l.sender.spent → l'.sender.waits ≡ l.sender.waits → l'.sender.rnr_wait ≡ false →
    l.sender.rnr_wait ≡ true → may_step w l x ≡ true → weight k (Some (record { end = o; una = l.sender.una; partner_ended = partner_ended w l })) l' < weight k x l
unfolding parts waits_left
over_lighter k w o x l l' ended terms moving ends una spent waits no_wait wait may = by_test l.ended refl
  where
    y : Option Waited
    y = Some (record { end = o; una = l.sender.una; partner_ended = partner_ended w l })

    nothing : ◌≡◌ {A = ℕ} (if l'.sender.rnr_wait then 1 else 0) 0
    nothing = if_false l'.sender.rnr_wait 1 0 no_wait

    something : ◌≡◌ {A = ℕ} (if l.sender.rnr_wait then 1 else 0) 1
    something = if_true l.sender.rnr_wait 1 0 wait

    may_note_is : (l.terms.rnr == 7) ≡ true → may_note x l.sender.una (partner_ended w l) ≡ true
    may_note_is seven = may_is w l x seven may

    by_rnr : (b c : Bool) → (l.terms.rnr == 7) ≡ b → c ≡ b → (if c then notes_left y l'.sender.una else (8 - l'.sender.waits) + (if l'.sender.rnr_wait then 1 else 0)) < (if b then notes_left x l.sender.una else (8 - l.sender.waits) + (if l.sender.rnr_wait then 1 else 0))
    by_rnr true true t e = omega (arith, ap (notes_left y) una, notes_lighter x l.sender.una (partner_ended w l) o (may_note_is t))
    by_rnr false false t e = omega (arith, waits, nothing, something)
    by_rnr true false t e = absurd (cc)
    by_rnr false true t e = absurd (cc)

    by_test : (b : Bool) → l.ended ≡ b → weight k y l' < weight k x l
    by_test true t = omega (arith, weight_over k y l' (ended ∙ t), weight_over k x l t, nothing, something)
    by_test false t = omega (arith, weight_alive k y l' (ended ∙ t), weight_alive k x l t, ends, una, spent, ap (moves_left k) moving, by_rnr (l.terms.rnr == 7) (l'.terms.rnr == 7) refl (ap (λ z. z.rnr == 7) terms))
