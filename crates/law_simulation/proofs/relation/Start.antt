-- The empty world stands for the empty machine.
use Rattle.std.proofs.Common.{arith, ◌≡◌, ℕ, [], true, false, Bool, refl}
use Rattle.std.specs.Prelude.{Some, slice_get, Contains}
use Rattle.std.proofs.lemmas.List.Elements.{All-nil}
use Rattle.rdma_types.specs.declared.names.ObjName.{ObjName}
use Rattle.rdma_types.specs.Lists.{named, has_name}
use Rattle.protocol.specs.State.{empty_world}
use Rattle.packetless_machine.specs.Machine as machine
use Rattle.packetless_machine.specs.Machine.{Machine, empty}
use Rattle.law_simulation.specs.Views as views
use Rattle.law_simulation.specs.Stands.{Stands}

-- nothing is in an empty list
pub nothing_in : {A B : Type 0} (x : A) → Contains [] x → B
nothing_in x h = absurd (omega (arith, h.1))

pub true_is_false : {A : Type 0} {b : Bool} → b ≡ false → b ≡ true → A
true_is_false e h = absurd (cc)

not_connected : (o : ObjName) → views.is_connected empty_world o ≡ false
unfolding named views.end_of views.context_of views.contexts_of
not_connected o = refl

not_there : (o : ObjName) → machine.has_end empty o ≡ false
unfolding named has_name machine.has_end machine.context_of
not_there o = refl

none_missing : {A B : Type 0} (k : ℕ) (x : A) → slice_get [] k ≡ Some x → B
none_missing k x h = absurd (cc)

pub empty_stands : Stands empty_world empty
unfolding named has_name machine.context_of views.context_of views.contexts_of
empty_stands = record {
  placed = record {
    once = λ c. omega arith;
    same = λ c. refl;
    husks_made = All-nil _;
    ids_once = λ k. omega arith;
    addresses_once = λ a. omega arith;
    ids_said = All-nil _;
    addresses_said = All-nil _;
  };
  counted = record { numbers_said = All-nil _; numbers_used = All-nil _; keys_used = All-nil _ };
  same = λ c. record { domains = refl; regions = refl; queues = refl; ends = refl };
  sound = λ c. record { whole = All-nil _; bytes = All-nil _; keyed = All-nil _; keyed_once = λ k. omega arith; named_once = λ n. omega arith; ends = All-nil _; regions_in = All-nil _; ends_in = All-nil _; regions_end = All-nil _ };
  numbered = record { given = All-nil _; named = λ o h. true_is_false (not_there o) h };
  joined = λ o h. true_is_false (not_connected o) h;
  progress = λ o h. true_is_false (not_connected o) h;
  husks = λ h i. nothing_in h i;
  sent = λ k f h. none_missing k f h;
}
