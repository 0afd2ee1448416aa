-- An end of a context that lives sends its next packet, where it may.
use Rattle.std.proofs.Common.{arith, ◌≡◌, ◌∙◌, ℕ, List, Bool, true, false, refl, sym, ap, subst}
use Rattle.std.specs.Prelude.{bytes_eq, IsSome, Option, Some, None, Result, Ok, Err, OnErr, IfOk}
use Rattle.std.specs.declared.alloc.AllocError.{AllocError}
use Rattle.std.specs.Map.{lookup, set_value}
use Rattle.rdma_types.specs.Causes.{Cause, first_cause}
use Rattle.rdma_types.specs.declared.answers.Refusal.{Refusal}
use Rattle.rdma_types.specs.declared.answers.Sent.{Sent}
use Rattle.rdma_types.specs.declared.names.Name.{Name}
use Rattle.rdma_types.specs.declared.names.ObjName.{ObjName}
use Rattle.rdma_types.specs.declared.requests.Address.{Address}
use Rattle.page_pool.specs.Pool.{Pool}
use Rattle.protocol.specs.declared.events.Event.TheVariants as event
use Rattle.protocol.specs.DeviceStep.{device_step, gives, transmits, with_context}
use Rattle.protocol.specs.Refusals as rule
use Rattle.protocol.specs.Refusals.{connected_causes, has_context, has_husk, within}
use Rattle.protocol.specs.State.{Context, Device, context_at, end_at}
use Rattle.context_core.specs.Context.{Holding, IsContext, context_in}
use Rattle.context_core.specs.Faults.{refusal_of}
use Rattle.context_core.specs.Links.{IsConnectedAt}
use Rattle.context_core.specs.declared.ContextFault.{ContextFault}
use Rattle.context_core.specs.declared.ContextFault.TheVariants.{OutOfMemory}
use Rattle.context_core.specs.declared.sending.Answered.{Answered}
use Rattle.context_core.specs.declared.sending.SendRow.{SendRow}
use Rattle.context_core.specs.Sending.{send_answer}
use Rattle.device_core.specs.declared.husks.HuskEntry.{HuskEntry}
use Rattle.device_core.specs.declared.index.EndLocation.{EndLocation}
use Rattle.device_core.specs.Acting.{Turn}
use Rattle.device_core.specs.Done.{giving, sending, told_by, told_transmission}
use Rattle.device_core.specs.Held.{IsHeld}
use Rattle.device_core.specs.Parts.{device_of}
use Rattle.device_core.proofs.Acting.{err-same}
use Rattle.context_core.proofs.ConnectedEnds.{held-at, not-refused}
use Rattle.device_core.proofs.Dones.{within-husk, within-nothing, within-there}
use Rattle.device_core.proofs.Helds.{is-context, same-device}
use Rattle.device_core.proofs.Steps.{ToldAnswered, told-transmitted}
use Rattle.device_core.proofs.Stepping.{Stepped, done-at, stepped, unchanged-keys}

pub transmitted : (id : ℕ) (address : Address) (qp key : ℕ) (pool : Pool) (es : List (Name × Holding)) (husks : List (Name × List HuskEntry)) (index : ℕ → Option EndLocation) (held : IsHeld pool es index (device_of id address qp key pool es husks))
    → (o : ObjName) (s : Holding) (found : lookup (bytes_eq o.context) es ≡ Some s) (s' : Holding) (turn : Turn pool pool o.context s s') (es' : List (Name × Holding)) (set : es' ≡ set_value (bytes_eq o.context) es s')
    → (r : Result Answered ContextFault) → refusal_of r ≡ first_cause (connected_causes (context_in pool o.context s) o.name)
    → ((d : Device) → d.address ≡ address → with_context d (context_in pool o.context s) ≡ d → IfOk r (λ a. transmits d (context_in pool o.context s) (end_at (context_in pool o.context s) o.name) ≡ gives (with_context d (context_in pool o.context s')) a.answer a.sent))
    → OnErr r (s' ≡ s)
    → Stepped (device_of id address qp key pool es husks) (event.Transmit o) pool es' index (device_of id address qp key pool es' husks) (told_by sending r)
transmitted id address qp key pool es husks index held o s found s' turn es' set r refused sent err =
    stepped id address qp key pool es husks index held o.context s found pool s' turn es' set qp key (omega arith)
    (event.Transmit o) (λ k. connected_causes k o.name) refl (λ k. transmits (device_of id address qp key pool es husks) k (end_at k o.name)) refl sending (told_by sending r)
    r refl refused (sent (device_of id address qp key pool es husks) refl (same-device id address qp key pool es husks index held o.context s found))
    (unchanged-keys r pool pool s s' qp key key err (err-same r pool) (err-same r key))

-- ---- by the place of an end

-- the answer and what was sent, of a call that is not refused
abbrev pub answered_as : List Sent → Result SendRow AllocError → Result Answered ContextFault
answered_as sent (Ok row) = Ok (record { answer = send_answer row; sent = sent })
answered_as sent (Err e) = Err OutOfMemory

pub transmitted-at : (id : ℕ) (address : Address) (qp key : ℕ) (pool : Pool) (es : List (Name × Holding)) (husks : List (Name × List HuskEntry)) (index : ℕ → Option EndLocation) (held : IsHeld pool es index (device_of id address qp key pool es husks))
    → (o : ObjName) (place : ℕ) (s : Holding) (found : lookup (bytes_eq o.context) es ≡ Some s) → IsConnectedAt (context_in pool o.context s) o.name place
    → (s' : Holding) (turn : Turn pool pool o.context s s') (es' : List (Name × Holding)) (set : es' ≡ set_value (bytes_eq o.context) es s')
    → (r : Result SendRow AllocError) (sent : List Sent)
    → ((d : Device) → d.address ≡ address → with_context d (context_in pool o.context s) ≡ d → IfOk r (λ a. transmits d (context_in pool o.context s) (end_at (context_in pool o.context s) o.name) ≡ gives (with_context d (context_in pool o.context s')) (send_answer a) sent))
    → OnErr r (s' ≡ s)
    → Stepped (device_of id address qp key pool es husks) (event.Transmit o) pool es' index (device_of id address qp key pool es' husks) (told_by sending (answered_as sent r))
transmitted-at id address qp key pool es husks index held o place s found there s' turn es' set r sent sends err =
    transmitted id address qp key pool es husks index held o s found s' turn es' set (answered_as sent r) (refused r) (λ d at same. by_ok d r (sends d at same)) (by_err r err)
  where
    is : IsContext pool s
    is = is-context id address qp key pool es husks index held o.context s found

    free : None ≡ first_cause (connected_causes (context_in pool o.context s) o.name)
    free = sym (not-refused pool o.context s o.name place is.is.end_names (held-at pool o.context s o.name place there))

    refused : (x : Result SendRow AllocError) → refusal_of (answered_as sent x) ≡ first_cause (connected_causes (context_in pool o.context s) o.name)
    refused (Ok a) = free
    refused (Err e) = free

    by_ok : (d : Device) (x : Result SendRow AllocError) → IfOk x (λ a. transmits d (context_in pool o.context s) (end_at (context_in pool o.context s) o.name) ≡ gives (with_context d (context_in pool o.context s')) (send_answer a) sent)
        → IfOk (answered_as sent x) (λ a. transmits d (context_in pool o.context s) (end_at (context_in pool o.context s) o.name) ≡ gives (with_context d (context_in pool o.context s')) a.answer a.sent)
    by_ok d (Ok a) h = h
    by_ok d (Err e) h = tt

    by_err : (x : Result SendRow AllocError) → OnErr x (s' ≡ s) → OnErr (answered_as sent x) (s' ≡ s)
    by_err (Ok a) h = tt
    by_err (Err e) h = h

-- what is told of it
pub record ToldAt (d new : Device) (o : ObjName) (sent : List Sent) (r : Result SendRow AllocError) : Type 0 where
  pub ok : IfOk r (λ a. device_step d (event.Transmit o) ≡ record { device = new; outcome = giving (send_answer a) sent })
  pub id : new.id ≡ d.id
  pub address : new.address ≡ d.address
  pub err : OnErr r (new ≡ d)

pub told-at : {d d' new : Device} {pool : Pool} {es : List (Name × Holding)} {index : ℕ → Option EndLocation} {o : ObjName} {sent : List Sent} {r : Result SendRow AllocError} → d ≡ d' → Stepped d (event.Transmit o) pool es index new (told_by sending (answered_as sent r)) → ToldAt d' new o sent r
told-at {d} {d'} {new} {pool} {es} {index} {o} {sent} {r} same step = by r (told-transmitted d' new o (answered_as sent r) (told_transmission (answered_as sent r)) refl (done-at same step))
  where
    by : (x : Result SendRow AllocError) → ToldAnswered d' new (event.Transmit o) (told_transmission (answered_as sent x)) → ToldAt d' new o sent x
    by (Ok a) t = record { ok = t.ok; id = t.id; address = t.address; err = tt }
    by (Err e) t = record { ok = tt; id = t.id; address = t.address; err = t.err }

-- ---- an end that has no place

-- .. since its context does not live here
pub refused-gone : (d : Device) (o : ObjName) → has_context d o.context ≡ false → IsSome (rule.refusal_of d (event.Transmit o))
unfolding rule.refusal_of
refused-gone d o gone = by (has_husk d o.context) refl
  where
    by : (b : Bool) → has_husk d o.context ≡ b → IsSome (first_cause (within d o.context (λ c. connected_causes c o.name)))
    by true h = subst IsSome (sym (within-husk d o.context (λ c. connected_causes c o.name) gone h)) refl
    by false h = subst IsSome (sym (within-nothing d o.context (λ c. connected_causes c o.name) gone h)) refl

-- why, where its context does not live here
pub refusal-gone : (d : Device) (o : ObjName) (r : Refusal) → ((causes : Context → List Cause) → first_cause (within d o.context causes) ≡ Some r) → rule.refusal_of d (event.Transmit o) ≡ Some r
unfolding rule.refusal_of
refusal-gone d o r missing = missing (λ c. connected_causes c o.name)

-- .. and where it does
pub refusal-here : (d : Device) (o : ObjName) (pool : Pool) (s : Holding) (r : Refusal) → has_context d o.context ≡ true → context_at d o.context ≡ context_in pool o.context s → IsSome (rule.refusal_of d (event.Transmit o))
    → (IsSome (first_cause (connected_causes (context_in pool o.context s) o.name)) → first_cause (connected_causes (context_in pool o.context s) o.name) ≡ Some r) → rule.refusal_of d (event.Transmit o) ≡ Some r
unfolding rule.refusal_of
refusal-here d o pool s r lives at some told =
    let same : first_cause (within d o.context (λ c. connected_causes c o.name)) ≡ first_cause (connected_causes (context_in pool o.context s) o.name) = within-there d o.context (λ c. connected_causes c o.name) lives ∙ ap (λ c. first_cause (connected_causes c o.name)) at in
    same ∙ told (subst IsSome same some)

-- .. since it is not there, or not connected
pub refused-here : (d : Device) (o : ObjName) (pool : Pool) (s : Holding) → has_context d o.context ≡ true → context_at d o.context ≡ context_in pool o.context s → IsSome (first_cause (connected_causes (context_in pool o.context s) o.name)) → IsSome (rule.refusal_of d (event.Transmit o))
unfolding rule.refusal_of
refused-here d o pool s lives at refused =
    subst IsSome (sym (within-there d o.context (λ c. connected_causes c o.name) lives ∙ ap (λ c. first_cause (connected_causes c o.name)) at)) refused

-- ---- an end that has a place

-- is not refused
pub free-here : (d : Device) (o : ObjName) (pool : Pool) (s : Holding) → has_context d o.context ≡ true → context_at d o.context ≡ context_in pool o.context s → first_cause (connected_causes (context_in pool o.context s) o.name) ≡ None → rule.refusal_of d (event.Transmit o) ≡ None
unfolding rule.refusal_of
free-here d o pool s lives at free =
    within-there d o.context (λ c. connected_causes c o.name) lives ∙ (ap (λ c. first_cause (connected_causes c o.name)) at ∙ free)
