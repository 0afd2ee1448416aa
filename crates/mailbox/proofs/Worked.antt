-- Work goes on step by step.
use Rattle.std.proofs.Common.{◌≡◌, ◌≤◌, ◌+◌, ◌-◌, ℕ, zero, suc, refl, sym, ap, ◌∙◌, subst, arith, Option, Some, None}
use Rattle.mailbox_rules.specs.State.{Mail}
use Rattle.mailbox_rules.specs.Working.{Working, begun, most_steps, work_step, worked, working}
use Rattle.mailbox.specs.Steps.{IsPartOfWork, IsStep, Shows}

-- after a step, or where there is none
abbrev on_with : ℕ → Working → Option Working → Working
on_with n w None = w
on_with n w (Some v) = worked n v

worked_on_with : (n : ℕ) (w : Working) → worked (suc n) w ≡ on_with n w (work_step w)
unfolding worked
worked_on_with n w = refl

pub worked_some : (n : ℕ) (w v : Working) → work_step w ≡ Some v → worked (suc n) w ≡ worked n v
worked_some n w v is = worked_on_with n w ∙ ap (λ o. on_with n w o) is

pub worked_none : (n : ℕ) (w : Working) → work_step w ≡ None → worked n w ≡ w
unfolding worked
worked_none zero w is = refl
worked_none (suc n) w is = worked_on_with n w ∙ ap (λ o. on_with n w o) is

not_both : (v : Working) (o : Option Working) → o ≡ None → o ≡ Some v → ⊥
not_both v o none some = let e : None ≡ Some v = sym none ∙ some in cc

more_by : (n : ℕ) (w v : Working) (o : Option Working) → work_step w ≡ o → ((u : Working) → work_step (worked n u) ≡ Some v → worked (suc n) u ≡ v) → work_step (worked (suc n) w) ≡ Some v → worked (suc (suc n)) w ≡ v
more_by n w v None none rest is = absurd (not_both v (work_step w) none (ap (λ u. work_step u) (sym (worked_none (suc n) w none)) ∙ is))
more_by n w v (Some u) some rest is = worked_some (suc n) w u some ∙ rest u (ap (λ x. work_step x) (sym (worked_some n w u some)) ∙ is)

pub worked_more : (n : ℕ) (w v : Working) → work_step (worked n w) ≡ Some v → worked (suc n) w ≡ v
unfolding worked
worked_more zero w v is = worked_some zero w v is
worked_more (suc n) w v is = more_by n w v (work_step w) refl (λ u. worked_more n u v) is

on_by : (a b : ℕ) (w : Working) (o : Option Working) → work_step w ≡ o → ((u : Working) → work_step (worked a u) ≡ None → worked (a + b) u ≡ worked a u) → work_step (worked (suc a) w) ≡ None → worked (suc (a + b)) w ≡ worked (suc a) w
on_by a b w None none rest is = worked_none (suc (a + b)) w none ∙ sym (worked_none (suc a) w none)
on_by a b w (Some u) some rest is = worked_some (a + b) w u some ∙ (rest u (ap (λ x. work_step x) (sym (worked_some a w u some)) ∙ is) ∙ sym (worked_some a w u some))

pub worked_on : (a b : ℕ) (w : Working) → work_step (worked a w) ≡ None → worked (a + b) w ≡ worked a w
unfolding worked
worked_on zero b w is = worked_none (zero + b) w is
worked_on (suc a) b w is = let one : suc a + b ≡ suc (a + b) = omega arith in ap (λ n. worked n w) one ∙ on_by a b w (work_step w) refl (λ u. worked_on a b u) is

-- so many steps of work were made
pub record IsUnderWay (v m : Mail) (next steps : ℕ) : Type 0 where
  pub shown : Shows v (worked steps (begun m)).mail
  pub next_is : (worked steps (begun m)).next ≡ next

pub begins : (v m : Mail) → Shows v m → IsUnderWay v m 0 0
unfolding worked
begins v m shows = record { shown = shows; next_is = refl }

-- the next step, of the state that work has come to
abbrev pub at_next : Mail → ℕ → Working
at_next m next = record { mail = m; next = next }

module _ (v m : Mail) (next steps : ℕ) (way : IsUnderWay v m next steps) where
  abbrev w : Working
  w = worked steps (begun m)

  same : at_next w.mail next ≡ w
  same = ap (λ n. at_next w.mail n) (sym way.next_is)

  pub goes_on : (new : Mail) (n : ℕ) → IsStep (work_step (at_next w.mail next)) (Some n) new w.mail → IsUnderWay new m n (steps + 1)
  goes_on new n h = by (work_step w) refl (subst (λ (x : Working). IsStep (work_step x) (Some n) new w.mail) same h)
    where
      by : (o : Option Working) → work_step w ≡ o → IsStep o (Some n) new w.mail → IsUnderWay new m n (steps + 1)
      by None none step = absurd step
      by (Some u) some step =
          let more : worked (steps + 1) (begun m) ≡ u = ap (λ k. worked k (begun m)) (omega arith) ∙ worked_more steps (begun m) u some in
          record { shown = subst (λ (x : Working). Shows new x.mail) (sym more) step.shown; next_is = ap (λ x. x.next) more ∙ step.next }

  pub stops : (new : Mail) → steps ≤ most_steps → IsStep (work_step (at_next w.mail next)) None new w.mail → Shows new (working m)
  unfolding working
  stops new few h = by (work_step w) refl (subst (λ (x : Working). IsStep (work_step x) None new w.mail) same h)
    where
      by : (o : Option Working) → work_step w ≡ o → IsStep o None new w.mail → Shows new (worked most_steps (begun m)).mail
      by (Some u) some step = absurd step
      by None none step =
          let on : worked most_steps (begun m) ≡ w = ap (λ k. worked k (begun m)) (omega arith) ∙ worked_on steps (most_steps - steps) (begun m) none in
          subst (λ (x : Working). Shows new x.mail) (sym on) step

  pub ends : steps ≡ most_steps → Shows v (working m)
  unfolding working
  ends is = subst (λ (k : ℕ). Shows v (worked k (begun m)).mail) is way.shown

  pub is_part : IsPartOfWork v m
  is_part = record { steps = steps; shown = way.shown }
