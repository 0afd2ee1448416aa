use Rattle.std.proofs.Common.{◌≡◌, refl, Option, Some, None}
use Rattle.std.specs.Prelude.{IfSome}
use Rattle.packetless_machine.specs.Machine.{Machine, Context, End, nobody, end_of, with_end, context_of}
use Rattle.rdma_types.specs.declared.names.ObjName.{ObjName}
use Rattle.rdma_types.specs.Lists.{named}
use Rattle.std.specs.Borrow.{MutBor}
use Rattle.packetless_machine.proofs.Same.{same_context, same_end, no_end_to_change}
use Rattle.packetless_machine.proofs.machine.PacketlessMachine.end_mut.Goals as goal

some_end : (r : Option (MutBor End)) (m : Machine) (o : ObjName) (x : Context) → x ≡ context_of m o.context → IfSome r (λ e. (none : End) → e.now ≡ named (λ y. y.name) none o.name x.ends) → IfSome r (λ e. e.now ≡ end_of m o)
unfolding end_of
some_end None m o x e h = h
some_end (Some v) m o x e h = rw e at h (nobody o)

pub returns : goal.returns
unfolding with_end
returns c =
    let there : c.in_ok-context.context.now ≡ context_of c.args.self.now c.args.o.now.context = c.in_ok-context.ensures.some in
    rw (there, same_context c.args.self.now c.args.o.now.context) (
      refl,
      record {
        lends = tt;
        some = some_end c.end_mut.result c.args.self.now c.args.o.now c.in_ok-context.context.now there c.end_mut.ensures.some;
        none = no_end_to_change c.end_mut.result c.args.self.now c.args.o.now c.in_ok-context.context.now there c.end_mut.ensures.none;
        same = same_end c.args.self.now c.args.o.now;
      },
    )
