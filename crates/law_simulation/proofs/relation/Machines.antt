-- A machine in which one context is changed: what of it stays, and what is seen of the change.
use Rattle.std.proofs.Common.{◌≡◌, ◌≢◌, map, true, refl, sym, ap, ◌∙◌, inl, inr}
use Rattle.std.specs.Prelude.{flat_map}
use Rattle.rdma_types.specs.declared.names.Name.{Name}
use Rattle.rdma_types.specs.declared.names.ObjName.{ObjName}
use Rattle.rdma_types.specs.Lists.{named, has_name, store_named}
use Rattle.rdma_types.specs.Objects.{CompletionQueue}
use Rattle.packetless_machine.specs.Machine.{Machine, Context, End, no_context, nobody, has_context, context_of, has_end, end_of, with_context, with_end, with_end_in, with_queue, with_queue_in}
use Rattle.law_simulation.specs.Views.{numbered, numbered_ends}
use Rattle.law_simulation.proofs.relation.Tables.{name_or_not, name-named, name-named_there, named-store_same, named-store_other, map-store, flat_map-store, replaced-stored}

-- one context c becomes y
pub record MachineChanged (m m' : Machine) (c : Name) (y : Context) : Type 0 where
  pub named : y.name ≡ c
  pub there : has_context m c ≡ true
  pub contexts : m'.contexts ≡ store_named (λ x. x.name) c y m.contexts

pub context_name : (m : Machine) (c : Name) → (context_of m c).name ≡ c
unfolding context_of
context_name m c = name-named (λ x. x.name) (no_context c) c m.contexts refl

pub with_context_changed : (m : Machine) (c : Name) (y : Context) → y.name ≡ c → has_context m c ≡ true → MachineChanged m (with_context m c y) c y
unfolding with_context has_context
with_context_changed m c y h there = record { named = h; there = there; contexts = replaced-stored (λ x. x.name) c y m.contexts there }

-- an end that is there is put in its place as the protocol does it
pub end_stored : (m : Machine) (o : ObjName) (e : End) → has_name (λ z. z.name) o.name (context_of m o.context).ends ≡ true → with_end m o e ≡ with_context m o.context (record (context_of m o.context) { ends = store_named (λ z. z.name) o.name e (context_of m o.context).ends })
unfolding with_end with_end_in
end_stored m o e found = ap (λ es. with_context m o.context (record (context_of m o.context) { ends = es })) (replaced-stored (λ z. z.name) o.name e (context_of m o.context).ends found)

-- .. and so is a completion queue
pub queue_stored : (m : Machine) (c q : Name) (x : CompletionQueue) → has_name (λ z. z.name) q (context_of m c).queues ≡ true → with_queue m c q x ≡ with_context m c (record (context_of m c) { queues = store_named (λ z. z.name) q x (context_of m c).queues })
unfolding with_queue with_queue_in
queue_stored m c q x found = ap (λ qs. with_context m c (record (context_of m c) { queues = qs })) (replaced-stored (λ z. z.name) q x (context_of m c).queues found)

module _ (m m' : Machine) (c : Name) (y : Context) (ch : MachineChanged m m' c y) where
  pub context_here : context_of m' c ≡ y
  unfolding context_of
  context_here = ap (named (λ x. x.name) _ c) ch.contexts ∙ named-store_same (λ x. x.name) _ c y m.contexts ch.named

  pub context_other : (k : Name) → k ≢ c → context_of m' k ≡ context_of m k
  unfolding context_of
  context_other k ne = ap (named (λ x. x.name) _ k) ch.contexts ∙ named-store_other (λ x. x.name) _ c k y m.contexts ch.named ne

  -- a part of each context stays, where y has it
  pub part_same : {B : Type 0} (f : Context → B) (k : Name) → f y ≡ f (context_of m c) → f (context_of m' k) ≡ f (context_of m k)
  part_same f k h = elim (name_or_not k c) [
    | inl a ↦ ap (λ j. f (context_of m' j)) a ∙ (ap f context_here ∙ (h ∙ ap (λ j. f (context_of m j)) (sym a)))
    | inr ne ↦ ap f (context_other k ne)
  ]

  -- .. and a part of each end, where the ends of y have it
  pub end_part_same : {B : Type 0} (f : End → B) (o : ObjName) → (o.context ≡ c → f (named (λ e. e.name) (nobody o) o.name y.ends) ≡ f (named (λ e. e.name) (nobody o) o.name (context_of m c).ends)) → f (end_of m' o) ≡ f (end_of m o)
  unfolding end_of
  end_part_same f o h = elim (name_or_not o.context c) [
    | inl a ↦ ap (λ j. f (named (λ e. e.name) (nobody o) o.name (context_of m' j).ends)) a ∙ (ap (λ z. f (named (λ e. e.name) (nobody o) o.name z.ends)) context_here ∙ (h a ∙ ap (λ j. f (named (λ e. e.name) (nobody o) o.name (context_of m j).ends)) (sym a)))
    | inr ne ↦ ap (λ z. f (named (λ e. e.name) (nobody o) o.name z.ends)) (context_other o.context ne)
  ]

  pub there_same : (o : ObjName) → ((n : Name) → has_name (λ e. e.name) n y.ends ≡ has_name (λ e. e.name) n (context_of m c).ends) → has_end m' o ≡ has_end m o
  unfolding has_end
  there_same o h = part_same (λ x. has_name (λ e. e.name) o.name x.ends) o.context (h o.name)

  context_there : named (λ x. x.name) (no_context c) c m.contexts ≡ context_of m c
  unfolding context_of
  context_there = refl

  named_there : has_name (λ x. x.name) c m.contexts ≡ true
  unfolding has_context
  named_there = ch.there

  pub names_same : map (λ x. x.name) m'.contexts ≡ map (λ x. x.name) m.contexts
  names_same = ap (map (λ x. x.name)) ch.contexts ∙ map-store (λ x. x.name) (λ x. x.name) (no_context c) c y m.contexts named_there (ch.named ∙ sym (name-named_there (λ x. x.name) (no_context c) c m.contexts named_there))

  -- the numbers of all ends stay, where the ends of y have them
  pub listed_same : numbered y ≡ numbered (context_of m c) → numbered_ends m' ≡ numbered_ends m
  listed_same h = ap (flat_map numbered) ch.contexts ∙ flat_map-store numbered (λ x. x.name) (no_context c) c y m.contexts named_there (h ∙ ap numbered (sym context_there))
