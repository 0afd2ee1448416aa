-- A look-up of a context that finds none, after which the device is as it was.
use Rattle.std.proofs.Common.{◌≡◌, ◌∙◌, ℕ, List, false, true, refl, sym, ap, subst}
use Rattle.std.specs.Prelude.{bytes_eq, is_some, Option, Some, None, Err}
use Rattle.std.specs.Borrow.{Bor, MutBor}
use Rattle.std.specs.Map.{lookup}
use Rattle.std.specs.Option.{option_copied, option_copied_mut}
use Rattle.rdma_types.specs.Causes.{Cause, first_cause}
use Rattle.rdma_types.specs.declared.answers.Refusal.{Refusal}
use Rattle.rdma_types.specs.declared.names.Name.{Name}
use Rattle.rdma_types.specs.declared.requests.Address.{Address}
use Rattle.page_pool.specs.Pool.{Pool}
use Rattle.protocol.specs.declared.events.Event.{Event}
use Rattle.protocol.specs.Refusals.{causes_of, has_context, within}
use Rattle.protocol.specs.State.{Context, Device}
use Rattle.context_core.specs.Context.{Holding}
use Rattle.context_core.specs.declared.ContextFault.TheVariants.{Refused}
use Rattle.device_core.specs.declared.husks.HuskEntry.{HuskEntry}
use Rattle.device_core.specs.declared.index.EndLocation.{EndLocation}
use Rattle.device_core.specs.Done.{IsDone}
use Rattle.device_core.specs.Held.{IsHeld}
use Rattle.device_core.specs.Parts.{device_of}
use Rattle.device_core.proofs.Contexts.{found-there}
use Rattle.device_core.proofs.Dones.{step-refused}

-- what is told where nothing is found, to write or to read
pub none-mut : {A : Type 0} (r : Option (MutBor A)) (o : Option A) → r ≡ None → option_copied_mut r ≡ o → is_some o ≡ false
none-mut {A} r o is value = ap is_some (sym value) ∙ ap (λ (x : Option (MutBor A)). is_some (option_copied_mut x)) is

pub some-mut : {A : Type 0} (r : Option (MutBor A)) → is_some (option_copied_mut r) ≡ true → is_some r ≡ true
some-mut None h = h
some-mut (Some b) h = refl

pub none-ref : {A : Type 0} (r : Option (Bor A)) (o : Option A) → r ≡ None → option_copied r ≡ o → is_some o ≡ false
none-ref {A} r o is value = ap is_some (sym value) ∙ ap (λ (x : Option (Bor A)). is_some (option_copied x)) is

-- contexts that stay as they were keep the device as it was
pub same-kept : (id : ℕ) (address : Address) (qp key : ℕ) (pool : Pool) (es es' : List (Name × Holding)) (husks : List (Name × List HuskEntry)) → es' ≡ es → (d : Device) → device_of id address qp key pool es husks ≡ d → device_of id address qp key pool es' husks ≡ d
same-kept id address qp key pool es es' husks kept d is = ap (λ xs. device_of id address qp key pool xs husks) kept ∙ is

pub held-kept : (id : ℕ) (address : Address) (qp key : ℕ) (pool : Pool) (es es' : List (Name × Holding)) (husks : List (Name × List HuskEntry)) (index : ℕ → Option EndLocation) → es' ≡ es → IsHeld pool es index (device_of id address qp key pool es husks) → IsHeld pool es' index (device_of id address qp key pool es' husks)
held-kept id address qp key pool es es' husks index kept held = subst (λ xs. IsHeld pool xs index (device_of id address qp key pool xs husks)) (sym kept) held

-- a context that is not found does not live there
pub gone-kept : (id : ℕ) (address : Address) (qp key : ℕ) (pool : Pool) (es es' : List (Name × Holding)) (husks : List (Name × List HuskEntry)) (n : Name) → es' ≡ es → is_some (lookup (bytes_eq n) es) ≡ false → has_context (device_of id address qp key pool es' husks) n ≡ false
gone-kept id address qp key pool es es' husks n kept gone = sym (found-there pool n es') ∙ (ap (λ xs. is_some (lookup (bytes_eq n) xs)) kept ∙ gone)

-- an event of a context that does not live here, where the device is as it was
pub missing-kept : (d d' : Device) (e : Event) (n : Name) (causes : Context → List Cause) (r : Refusal) → first_cause (causes_of d e) ≡ first_cause (within d n causes) → d' ≡ d → first_cause (within d' n causes) ≡ Some r → IsDone d e d' (Err (Refused r))
missing-kept d d' e n causes r same is h = (step-refused d e r (same ∙ subst (λ k. first_cause (within k n causes) ≡ Some r) is h), is)
