-- What is seen of an end after another part of the machine is changed.
use Rattle.std.proofs.Common.{◌≡◌, ℕ, List, [], ◌∷◌, Bool, true, false, Option, None, Some, refl, ap}
use Rattle.std.specs.Prelude.{bytes_eq, if◌then◌else◌}
use Rattle.rdma_types.specs.declared.names.Name.{Name}
use Rattle.rdma_types.specs.declared.names.ObjName.{ObjName}
use Rattle.rdma_types.specs.declared.requests.Completion.{Completion}
use Rattle.rdma_types.specs.declared.requests.Request.{Request}
use Rattle.rdma_types.specs.Lists.{named}
use Rattle.rdma_types.specs.Objects.{Region}
use Rattle.packetless_machine.specs.declared.reply.Reply.{Reply}
use Rattle.packetless_machine.specs.declared.reply.Reply.TheVariants.{Finished, OldValue, Denied}
use Rattle.packetless_machine.specs.Tables.{place_where, replaced}
use Rattle.packetless_machine.specs.Machine.{Machine, Context, no_context, nobody, context_of, end_of, with_context, with_regions, with_queue_in, with_queue, completing}
use Rattle.packetless_machine.specs.Steps.{put_old}

-- a part of the things of a list stays where one of them is replaced by one with the same name and part
part_kept : {A B : Type 0} (f : A → B) (name : A → List ℕ) (none other : A) (k j : List ℕ) (x : A) (xs : List A) → name x ≡ name (named name none k xs) → f x ≡ f (named name none k xs) → f (named name other j (replaced name k x xs)) ≡ f (named name other j xs)
unfolding named replaced place_where
part_kept f name none other k j x [] n p = refl
part_kept f name none other k j x (y ∷ ys) n p = by (bytes_eq (name y) k) refl n p (part_kept f name none other k j x ys)
  where
    by : (b : Bool) → bytes_eq (name y) k ≡ b
        → name x ≡ name (named name none k (y ∷ ys)) → f x ≡ f (named name none k (y ∷ ys))
        → (name x ≡ name (named name none k ys) → f x ≡ f (named name none k ys) → f (named name other j (replaced name k x ys)) ≡ f (named name other j ys))
        → f (named name other j (replaced name k x (y ∷ ys))) ≡ f (named name other j (y ∷ ys))
    by true e n p ih = let same : name x ≡ name y = rw e at n in let part : f x ≡ f y = rw e at p in rw (e, same) (there (bytes_eq (name y) j) part)
      where
        there : (b : Bool) → f x ≡ f y → f (if b then x else named name other j ys) ≡ f (if b then y else named name other j ys)
        there true q = q
        there false q = refl
    by false e n p ih = let rest = ih (rw e at n) (rw e at p) in rw e (there (bytes_eq (name y) j) rest)
      where
        there : (b : Bool) → f (named name other j (replaced name k x ys)) ≡ f (named name other j ys) → f (if b then y else named name other j (replaced name k x ys)) ≡ f (if b then y else named name other j ys)
        there true q = refl
        there false q = q

-- a context changes that keeps its name and its ends
pub end_of-with_context : (m : Machine) (c : Name) (x : Context) (o : ObjName) → x.name ≡ (context_of m c).name → x.ends ≡ (context_of m c).ends → end_of (with_context m c x) o ≡ end_of m o
unfolding end_of context_of with_context
end_of-with_context m c x o n p = ap (named (λ e. e.name) (nobody o) o.name) (part_kept (λ y. y.ends) (λ y. y.name) (no_context c) (no_context o.context) c o.context x m.contexts n p)

pub end_of-with_regions : (m : Machine) (c : Name) (rs : List Region) (o : ObjName) → end_of (with_regions m c rs) o ≡ end_of m o
unfolding with_regions
end_of-with_regions m c rs o = end_of-with_context m c _ o refl refl

pub end_of-completing : (m : Machine) (c q : Name) (more : List Completion) (o : ObjName) → end_of (completing m c q more) o ≡ end_of m o
unfolding completing with_queue with_queue_in
end_of-completing m c q more o = end_of-with_context m c _ o refl refl

pub end_of-put_old : (m : Machine) (c : Name) (r : Request) (reply : Option Reply) (o : ObjName) → end_of (put_old m c r reply) o ≡ end_of m o
unfolding put_old
end_of-put_old m c r None o = refl
end_of-put_old m c r (Some Finished) o = refl
end_of-put_old m c r (Some (OldValue value)) o = end_of-with_regions m c _ o
end_of-put_old m c r (Some (Denied why)) o = refl

pub ruleset ends_kept = (end_of-with_regions, end_of-completing, end_of-put_old)
