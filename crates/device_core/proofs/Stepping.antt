-- An event of a context that lives: what the device then is, and that it keeps what it keeps.
use Rattle.std.proofs.Common.{◌≡◌, ◌∙◌, ◌≤◌, ℕ, List, refl, sym, ap, subst}
use Rattle.std.specs.Prelude.{bytes_eq, Option, Some, None, Result, Ok, Err, OnErr, IfOk, IsSome}
use Rattle.std.specs.Borrow.{Bor, MutBor}
use Rattle.std.specs.Map.{lookup, set_value}
use Rattle.std.specs.Option.{option_copied, option_copied_mut}
use Rattle.std.proofs.lemmas.Map.Steps.{set_value_same}
use Rattle.rdma_types.specs.Causes.{Cause, first_cause}
use Rattle.rdma_types.specs.declared.names.Name.{Name}
use Rattle.rdma_types.specs.declared.requests.Address.{Address}
use Rattle.page_pool.specs.Pool.{Pool}
use Rattle.protocol.specs.declared.events.Event.{Event}
use Rattle.protocol.specs.declared.images.Outcome.{Outcome}
use Rattle.protocol.specs.DeviceStep.{Step, done_by, with_context}
use Rattle.protocol.specs.Events.{IsLawfulEvent}
use Rattle.protocol.specs.Refusals.{causes_of, within}
use Rattle.protocol.specs.State.{Context, Device, context_at}
use Rattle.context_core.specs.Context.{Holding, context_in}
use Rattle.context_core.specs.Faults.{refusal_of}
use Rattle.context_core.specs.declared.ContextFault.{ContextFault}
use Rattle.law_devices.specs.Sound.{GivesNames, IsSoundDevice}
use Rattle.device_core.specs.declared.husks.HuskEntry.{HuskEntry}
use Rattle.device_core.specs.declared.index.EndLocation.{EndLocation}
use Rattle.device_core.specs.Acting.{Acts, Lives, Turn}
use Rattle.device_core.specs.Done.{IsDone, told_by}
use Rattle.device_core.specs.Held.{IsHeld}
use Rattle.device_core.specs.Parts.{device_of}
use Rattle.device_core.proofs.Dones.{done-by, sound-done}
use Rattle.device_core.proofs.Helds.{context-is, free-is, held-after, same-device, there-is, view-is}

-- what a borrow of a found value says
pub found-mut : {A : Type 0} (r : Option (MutBor A)) (b : MutBor A) (o : Option A) → r ≡ Some b → option_copied_mut r ≡ o → o ≡ Some b.now
found-mut r b o is value = sym value ∙ ap option_copied_mut is

-- the event is done, and what the device keeps is kept
pub record Stepped (d : Device) (e : Event) (pool : Pool) (es : List (Name × Holding)) (index : ℕ → Option EndLocation) (new : Device) (told : Result Outcome ContextFault) : Type 0 where
  pub done : IsDone d e new told
  pub held : IsLawfulEvent e → GivesNames e → IsHeld pool es index new

-- .. of a device that is the same
pub done-at : {d d' new : Device} {e : Event} {pool : Pool} {es : List (Name × Holding)} {index : ℕ → Option EndLocation} {told : Result Outcome ContextFault} → d ≡ d' → Stepped d e pool es index new told → IsDone d' e new told
done-at {d} {d'} {new} {e} {pool} {es} {index} {told} same st = subst (λ x. IsDone x e new told) same st.done

-- what is as it was
pub record Unchanged (pool pool' : Pool) (s s' : Holding) (qp qp' key key' : ℕ) : Type 0 where
  pub state : s' ≡ s
  pub pages : pool' ≡ pool
  pub numbers : qp' ≡ qp
  pub keys : key' ≡ key

module _ (id : ℕ) (address : Address) (qp key : ℕ) (pool : Pool) (es : List (Name × Holding)) (husks : List (Name × List HuskEntry)) (index : ℕ → Option EndLocation) (held : IsHeld pool es index (device_of id address qp key pool es husks))
    (n : Name) (s : Holding) (found : lookup (bytes_eq n) es ≡ Some s) (pool' : Pool) (s' : Holding) (turn : Turn pool pool' n s s') (es' : List (Name × Holding)) (set : es' ≡ set_value (bytes_eq n) es s') (qp' key' : ℕ) (more : qp ≤ qp') where
  new-is : device_of id address qp' key' pool' es' husks ≡ with_context (record (device_of id address qp key pool es husks) { qp_count = qp'; key_count = key' }) (context_in pool' n s')
  new-is = ap (λ xs. device_of id address qp' key' pool' xs husks) set ∙ view-is id address qp key pool es husks index held n s found pool' s' turn.moves qp' key'

  same-is : Unchanged pool pool' s s' qp qp' key key' → device_of id address qp' key' pool' es' husks ≡ device_of id address qp key pool es husks
  same-is u =
      let back : es' ≡ es = set ∙ (ap (set_value (bytes_eq n) es) u.state ∙ set_value_same (bytes_eq n) es s found) in
      λ i. device_of id address (u.numbers i) (u.keys i) (u.pages i) (back i) husks

  pub kept : (e : Event) (told : Result Outcome ContextFault) → IsDone (device_of id address qp key pool es husks) e (device_of id address qp' key' pool' es' husks) told → Stepped (device_of id address qp key pool es husks) e pool' es' index (device_of id address qp' key' pool' es' husks) told
  kept e told done = record {
    done = done;
    held = λ lawful spelled.
        let sound = sound-done (device_of id address qp key pool es husks) (device_of id address qp' key' pool' es' husks) e told held.sound lawful spelled done in
        subst (λ xs. IsHeld pool' xs index (device_of id address qp' key' pool' xs husks)) (sym set)
        (held-after id address qp key pool es husks index held n s found pool' s' turn.moves qp' key' more turn.is turn.numbers (subst (λ xs. IsSoundDevice (device_of id address qp' key' pool' xs husks)) set sound));
  }

  -- .. as an event of the context asks for it
  pub acted : (e : Event) (told : Result Outcome ContextFault) → Acts e pool pool' s s' told n → qp' ≡ qp → key' ≡ key → Stepped (device_of id address qp key pool es husks) e pool' es' index (device_of id address qp' key' pool' es' husks) told
  acted e told acts same_qp same_key =
      let lives : Lives (device_of id address qp key pool es husks) pool n s = record { lives = there-is id address qp key pool es husks index held n s found; at = context-is id address qp key pool es husks index held n s found; same = same-device id address qp key pool es husks index held n s found; free = free-is id address qp key pool es husks index held } in
      let same : with_context (device_of id address qp key pool es husks) (context_in pool' n s') ≡ device_of id address qp' key' pool' es' husks = sym (new-is ∙ λ i. with_context (record (device_of id address qp key pool es husks) { qp_count = same_qp i; key_count = same_key i }) (context_in pool' n s')) in
      kept e told (subst (λ x. IsDone (device_of id address qp key pool es husks) e x told) same (acts.done (device_of id address qp key pool es husks) lives))

  module _ (e : Event) (causes : Context → List Cause) (same : first_cause (causes_of (device_of id address qp key pool es husks) e) ≡ first_cause (within (device_of id address qp key pool es husks) n causes))
      (act : Context → Step) (acts : done_by (device_of id address qp key pool es husks) e ≡ act (context_at (device_of id address qp key pool es husks) n)) {T : Type 0} (tell : T → Outcome) (told : Result Outcome ContextFault) where
    turned : (r : Result T ContextFault) → IfOk r (λ x. act (context_in pool n s) ≡ record { device = with_context (record (device_of id address qp key pool es husks) { qp_count = qp'; key_count = key' }) (context_in pool' n s'); outcome = tell x }) → IfOk r (λ x. done_by (device_of id address qp key pool es husks) e ≡ record { device = device_of id address qp' key' pool' es' husks; outcome = tell x })
    turned (Ok x) h = acts ∙ (ap act (context-is id address qp key pool es husks index held n s found) ∙ (h ∙ ap (λ d. record { device = d; outcome = tell x }) (sym new-is)))
    turned (Err f) h = tt

    back : (r : Result T ContextFault) → OnErr r (Unchanged pool pool' s s' qp qp' key key') → OnErr r (device_of id address qp' key' pool' es' husks ≡ device_of id address qp key pool es husks)
    back (Ok x) u = tt
    back (Err f) u = same-is u

    pub stepped : (r : Result T ContextFault) → told ≡ told_by tell r → refusal_of r ≡ first_cause (causes (context_in pool n s))
        → IfOk r (λ x. act (context_in pool n s) ≡ record { device = with_context (record (device_of id address qp key pool es husks) { qp_count = qp'; key_count = key' }) (context_in pool' n s'); outcome = tell x })
        → OnErr r (Unchanged pool pool' s s' qp qp' key key')
        → Stepped (device_of id address qp key pool es husks) e pool' es' index (device_of id address qp' key' pool' es' husks) told
    stepped r is refused ok err =
        kept e told (done-by (device_of id address qp key pool es husks) (device_of id address qp' key' pool' es' husks) e n causes tell r told is same
        (there-is id address qp key pool es husks index held n s found)
        (refused ∙ ap (λ x. first_cause (causes x)) (sym (context-is id address qp key pool es husks index held n s found)))
        (turned r ok) (back r err))

-- all as it was, where a call was refused
pub unchanged-keys : {T E : Type 0} (r : Result T E) (pool pool' : Pool) (s s' : Holding) (qp key key' : ℕ) → OnErr r (s' ≡ s) → OnErr r (pool' ≡ pool) → OnErr r (key' ≡ key) → OnErr r (Unchanged pool pool' s s' qp qp key key')
unchanged-keys (Ok x) pool pool' s s' qp key key' a b k = tt
unchanged-keys (Err f) pool pool' s s' qp key key' a b k = record { state = a; pages = b; numbers = refl; keys = k }

-- what a borrow of a found value says
pub found-ref : {A : Type 0} (r : Option (Bor A)) (b : Bor A) (o : Option A) → r ≡ Some b → option_copied r ≡ o → o ≡ Some b.now
found-ref r b o is value = sym value ∙ ap option_copied is

pub some-copied : {A : Type 0} (r : Option (Bor A)) {x : A} → option_copied r ≡ Some x → IsSome r
some-copied None h = absurd (cc)
some-copied (Some b) h = refl
