-- What a call of a context tells, where an event asks for it.
use Rattle.std.proofs.Common.{◌≡◌, ◌∙◌, List, length, sym, ap, refl, subst}
use Rattle.std.specs.Prelude.{Some, Result, Ok, Err, OnErr, IfOk, IfSome}
use Rattle.std.specs.Result.{result_err}
use Rattle.rdma_types.specs.Causes.{Cause, first_cause}
use Rattle.rdma_types.specs.declared.answers.Refusal.{Refusal}
use Rattle.rdma_types.specs.declared.names.Name.{Name}
use Rattle.page_pool.specs.Pool.{Pool}
use Rattle.protocol.specs.declared.events.Event.{Event}
use Rattle.protocol.specs.declared.events.Event.TheVariants as event
use Rattle.protocol.specs.declared.images.Outcome.{Outcome}
use Rattle.protocol.specs.DeviceStep.{Step, done_by, with_context}
use Rattle.protocol.specs.Refusals.{causes_of, connected_causes, end_causes, recv_causes, send_causes, within}
use Rattle.protocol.specs.State.{Context, Device, context_at, end_at}
use Rattle.context_core.specs.Causes.{connect_causes, domain_causes, drop_causes, poll_causes, queue_causes, range_causes}
use Rattle.context_core.specs.Context.{Holding, IsContext, context_in, lists_of}
use Rattle.protocol.specs.Memory.{pages_of_context}
use Rattle.context_core.specs.Faults.{refusal_of}
use Rattle.context_core.specs.declared.ContextFault.{ContextFault}
use Rattle.device_core.specs.Acting.{Acts, Lives, Turn, context_named}
use Rattle.device_core.specs.Done.{told_by, told_plainly}
use Rattle.device_core.specs.Index.{numbers_of}
use Rattle.device_core.proofs.Dones.{done-by, done-plainly}
use Rattle.device_core.proofs.Helds.{moves-plainly}

-- a step that moves no pages
pub plain-turn : (pool : Pool) (n : Name) (s s' : Holding) → lists_of s' ≡ lists_of s → ((m : Name) → pages_of_context (context_in pool m s') ≡ pages_of_context (context_in pool m s)) → IsContext pool s' → numbers_of (context_in pool n s') ≡ numbers_of (context_in pool n s) → Turn pool pool n s s'
plain-turn pool n s s' lists pages is numbers = record { moves = moves-plainly pool s s' lists pages; is = is; numbers = numbers }

module _ (e : Event) (n : Name) (pool pool' : Pool) (s s' : Holding) (causes : Device → Context → List Cause) (same : (d : Device) → first_cause (causes_of d e) ≡ first_cause (within d n (causes d)))
    (act : Device → Context → Step) (does : (d : Device) → done_by d e ≡ act d (context_at d n)) {T : Type 0} (tell : T → Outcome) (told : Result Outcome ContextFault) where
  done_there : (d : Device) → Lives d pool n s → {x : Outcome} → act d (context_in pool n s) ≡ record { device = with_context d (context_in pool' n s'); outcome = x } → done_by d e ≡ record { device = with_context d (context_in pool' n s'); outcome = x }
  done_there d l h = does d ∙ (ap (act d) l.at ∙ h)

  same_there : (d : Device) → Lives d pool n s → s' ≡ s → pool' ≡ pool → with_context d (context_in pool' n s') ≡ d
  same_there d l state pages = (λ i. with_context d (context_in (pages i) n (state i))) ∙ l.same

  -- it may be refused or run out of memory
  pub acts : (r : Result T ContextFault) → told ≡ told_by tell r → Turn pool pool' n s s'
      → ((d : Device) → Lives d pool n s → refusal_of r ≡ first_cause (causes d (context_in pool n s)))
      → ((d : Device) → Lives d pool n s → IfOk r (λ x. act d (context_in pool n s) ≡ record { device = with_context d (context_in pool' n s'); outcome = tell x }))
      → OnErr r (s' ≡ s) → OnErr r (pool' ≡ pool) → Acts e pool pool' s s' told n
  acts r is turn refused ok state pages = record {
    turn = turn;
    done = λ d l.
        done-by d (with_context d (context_in pool' n s')) e n (causes d) tell r told is (same d) l.lives
        (refused d l ∙ ap (λ x. first_cause (causes d x)) (sym l.at))
        (done_where d l r (ok d l)) (same_where d l r state pages);
  }
    where
      done_where : (d : Device) → Lives d pool n s → (x : Result T ContextFault) → IfOk x (λ y. act d (context_in pool n s) ≡ record { device = with_context d (context_in pool' n s'); outcome = tell y }) → IfOk x (λ y. done_by d e ≡ record { device = with_context d (context_in pool' n s'); outcome = tell y })
      done_where d l (Ok y) h = done_there d l h
      done_where d l (Err f) h = tt

      same_where : (d : Device) → Lives d pool n s → (x : Result T ContextFault) → OnErr x (s' ≡ s) → OnErr x (pool' ≡ pool) → OnErr x (with_context d (context_in pool' n s') ≡ d)
      same_where d l (Ok y) a b = tt
      same_where d l (Err f) a b = same_there d l a b

  -- it takes no memory
  pub acts-plainly : (r : Result T Refusal) → told ≡ told_plainly tell r → Turn pool pool' n s s'
      → ((d : Device) → Lives d pool n s → result_err r ≡ first_cause (causes d (context_in pool n s)))
      → ((d : Device) → Lives d pool n s → IfOk r (λ x. act d (context_in pool n s) ≡ record { device = with_context d (context_in pool' n s'); outcome = tell x }))
      → OnErr r (s' ≡ s) → OnErr r (pool' ≡ pool) → Acts e pool pool' s s' told n
  acts-plainly r is turn refused ok state pages = record {
    turn = turn;
    done = λ d l.
        done-plainly d (with_context d (context_in pool' n s')) e n (causes d) tell r told is (same d) l.lives
        (refused d l ∙ ap (λ x. first_cause (causes d x)) (sym l.at))
        (done_where d l r (ok d l)) (same_where d l r state pages);
  }
    where
      done_where : (d : Device) → Lives d pool n s → (x : Result T Refusal) → IfOk x (λ y. act d (context_in pool n s) ≡ record { device = with_context d (context_in pool' n s'); outcome = tell y }) → IfOk x (λ y. done_by d e ≡ record { device = with_context d (context_in pool' n s'); outcome = tell y })
      done_where d l (Ok y) h = done_there d l h
      done_where d l (Err f) h = tt

      same_where : (d : Device) → Lives d pool n s → (x : Result T Refusal) → OnErr x (s' ≡ s) → OnErr x (pool' ≡ pool) → OnErr x (with_context d (context_in pool' n s') ≡ d)
      same_where d l (Ok y) a b = tt
      same_where d l (Err f) a b = same_there d l a b

-- what is as it was
pub err-same : {A T E : Type 0} (r : Result T E) (x : A) → OnErr r (x ≡ x)
err-same (Ok y) x = tt
err-same (Err f) x = refl

-- .. of the event that was asked for
pub for-event : {asked e : Event} {pool pool' : Pool} {s s' : Holding} {told : Result Outcome ContextFault} {n : Name} → asked ≡ e → context_named e ≡ Some n → Acts e pool pool' s s' told n → IfSome (context_named asked) (Acts asked pool pool' s s' told)
for-event {asked} {e} {pool} {pool'} {s} {s'} {told} is named acts = subst (λ x. IfSome (context_named x) (Acts x pool pool' s s' told)) (sym is) (subst (λ o. IfSome o (Acts e pool pool' s s' told)) (sym named) acts)

-- a call that only reads
pub kept-there : {T E : Type 0} (d : Device) (pool : Pool) (n : Name) (s : Holding) → Lives d pool n s → (step : Step) (tell : T → Outcome) (r : Result T E) → IfOk r (λ x. step ≡ record { device = d; outcome = tell x }) → IfOk r (λ x. step ≡ record { device = with_context d (context_in pool n s); outcome = tell x })
kept-there d pool n s l step tell (Ok x) h = h ∙ ap (λ k. record { device = k; outcome = tell x }) (sym l.same)
kept-there d pool n s l step tell (Err f) h = tt

-- the causes of such an event speak of its context
abbrev pub Speaks : Event → Name → Type 0
Speaks e n = (causes : Device → Context → List Cause) × ((d : Device) → first_cause (causes_of d e) ≡ first_cause (within d n (causes d)))

named_speaks : (e : Event) → IfSome (context_named e) (Speaks e)
named_speaks (event.MakeDomain o) = (λ d c. domain_causes c o.name, λ d. refl)
named_speaks (event.MakeCq o capacity) = (λ d c. queue_causes c o.name, λ d. refl)
named_speaks (event.Connect o peer partner terms) = (λ d c. connect_causes c o.name, λ d. refl)
named_speaks (event.DropRegion o) = (λ d c. drop_causes c o.name, λ d. refl)
named_speaks (event.Store o at bytes) = (λ d c. range_causes c o.name at (length bytes), λ d. refl)
named_speaks (event.Load o at count) = (λ d c. range_causes c o.name at count, λ d. refl)
named_speaks (event.PostSend o r) = (λ d c. end_causes c o.name (send_causes d c (end_at c o.name) r), λ d. refl)
named_speaks (event.PostRecv o r) = (λ d c. end_causes c o.name (recv_causes c (end_at c o.name) r), λ d. refl)
named_speaks (event.Poll o most) = (λ d c. poll_causes c o.name, λ d. refl)
named_speaks (event.Expire o) = (λ d c. connected_causes c o.name, λ d. refl)
named_speaks (event.RnrOver o) = (λ d c. connected_causes c o.name, λ d. refl)
named_speaks e = tt

pub missing-causes : (e : Event) (n : Name) → context_named e ≡ Some n → Speaks e n
missing-causes e n h = subst (λ o. IfSome o (Speaks e)) h (named_speaks e)
