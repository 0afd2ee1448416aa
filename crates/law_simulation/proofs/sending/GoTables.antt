-- What is put where it was, and what is put twice.
use Rattle.std.proofs.Common.{arith, ◌≡◌, ℕ, List, [], ◌∷◌, true, false, Bool, refl, ap, ◌∙◌}
use Rattle.std.specs.Prelude.{if◌then◌else◌, bytes_eq}
use Rattle.rdma_types.specs.declared.names.Name.{Name}
use Rattle.rdma_types.specs.declared.names.ObjName.{ObjName}
use Rattle.rdma_types.specs.Lists.{has_name, named, store_named}
use Rattle.packetless_machine.specs.Machine as machine
use Rattle.packetless_machine.specs.Machine.{Machine, End, has_context}
use Rattle.law_simulation.proofs.relation.Tables.{same_name, replaced-stored}
use Rattle.law_simulation.proofs.relation.Machines.{MachineChanged, end_stored}
use Rattle.law_simulation.proofs.relation.Linked.{HasEnd}

-- a thing is put where it is
pub stored_same : {A : Type 0} (name : A → List ℕ) (none : A) (n : List ℕ) (xs : List A) → has_name name n xs ≡ true → store_named name n (named name none n xs) xs ≡ xs
unfolding has_name named store_named
stored_same name none n [] h = absurd (cc)
stored_same name none n (x ∷ xs) h = grind (arith, stored_same name none n xs)

-- the second of two things stays
pub stored_twice : {A : Type 0} (name : A → List ℕ) (n : List ℕ) (a b : A) (xs : List A) → name a ≡ n → store_named name n b (store_named name n a xs) ≡ store_named name n b xs
unfolding store_named
stored_twice name n a b [] h = ap (λ k. if bytes_eq k n then b ∷ [] else a ∷ b ∷ []) h ∙ ap (λ t. if t then b ∷ [] else a ∷ b ∷ []) (same_name n)
stored_twice name n a b (x ∷ xs) h = by_test (bytes_eq (name x) n) refl (stored_twice name n a b xs h)
  where
    by_test : (t : Bool) → bytes_eq (name x) n ≡ t → store_named name n b (store_named name n a xs) ≡ store_named name n b xs → store_named name n b (if t then a ∷ xs else x ∷ store_named name n a xs) ≡ (if t then b ∷ xs else x ∷ store_named name n b xs)
    by_test true e i = ap (λ k. if bytes_eq k n then b ∷ xs else a ∷ store_named name n b xs) h ∙ ap (λ t. if t then b ∷ xs else a ∷ store_named name n b xs) (same_name n)
    by_test false e i = ap (λ t. if t then b ∷ store_named name n a xs else x ∷ store_named name n b (store_named name n a xs)) e ∙ ap (λ ys. x ∷ ys) i

-- an end is put where it is
pub end_kept : (m : Machine) (o : ObjName) → has_context m o.context ≡ true → HasEnd m o → machine.with_end m o (machine.end_of m o) ≡ m
unfolding machine.with_context machine.end_of machine.context_of has_context
end_kept m o there found =
    end_stored m o (machine.end_of m o) found
    ∙ (ap (λ es. machine.with_context m o.context (record (machine.context_of m o.context) { ends = es })) (stored_same (λ z. z.name) (machine.nobody o) o.name (machine.context_of m o.context).ends found)
    ∙ ap (λ cs. record m { contexts = cs }) (replaced-stored (λ x. x.name) o.context (machine.context_of m o.context) m.contexts there ∙ stored_same (λ x. x.name) (machine.no_context o.context) o.context m.contexts there))

-- a context changes twice
pub changed_twice : (m m' m'' : Machine) (c : Name) (y z : machine.Context) → MachineChanged m m' c y → MachineChanged m' m'' c z → MachineChanged m m'' c z
changed_twice m m' m'' c y z a b = record {
  named = b.named;
  there = a.there;
  contexts = b.contexts ∙ (ap (store_named (λ x. x.name) c z) a.contexts ∙ stored_twice (λ x. x.name) c y z m.contexts a.named);
}
