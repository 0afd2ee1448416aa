-- Settling leaves a quiet world.
use Rattle.std.proofs.Common.{◌≡◌, List, [], true, false, sym, subst}
use Rattle.std.specs.Prelude.{All, Contains, Some, flat_map}
use Rattle.std.proofs.lemmas.List.Elements.{All-contains, All-contains_itself, All-weaker}
use Rattle.rdma_types.specs.declared.answers.UnfinishedReason.{UnfinishedReason}
use Rattle.rdma_types.specs.declared.names.ObjName.{ObjName}
use Rattle.protocol.specs.declared.images.ContextImage.{ContextImage}
use Rattle.protocol.specs.EndWords.{is_running}
use Rattle.protocol.specs.Images as images
use Rattle.protocol.specs.Lawful.{IsLawful}
use Rattle.protocol.specs.State.{World, Device, Context, Link}
use Rattle.protocol.specs.Settle as settle
use Rattle.protocol.specs.Settle.{left_image, left_link, link_at, settled}
use Rattle.packetless_machine.specs.Machine.{Machine}
use Rattle.law_simulation.specs.Quiet as quiet
use Rattle.law_simulation.specs.Quiet.{AreReasons, lacks_receive, left_in}
use Rattle.law_simulation.specs.Stands.{Stands}
use Rattle.law_settling.proofs.bound.Lives.{lives}
use Rattle.law_settling.specs.Rests.{SettlingRests}
use Rattle.law_settling.specs.Tells.{SettlingTells}
use Rattle.law_settling.specs.Wants.{SettlingWants}
use Rattle.law_settling.specs.Leaves.{SettlingLeaves}
use Rattle.law_settling.proofs.unfinished.Carried.{carried_same}
use Rattle.law_settling.proofs.unfinished.Listed.{both, each, flat_flat}
use Rattle.law_settling.proofs.unfinished.Reasons.{carried_named, live_named}

-- the live ends of a context with their reasons, and those of an image
abbrev left_live : Context → List (ObjName × UnfinishedReason)
left_live c = flat_map (λ e. left_link (record { context = c.name; name = e.name }) e.link) c.ends

abbrev left_carried : ContextImage → List (ObjName × UnfinishedReason)
left_carried i = flat_map (left_image i.name) i.ends

module _ (w : World) (m : Machine) (s : Stands w m) (lawful : All IsLawful w.carried)
    (tells : (o : ObjName) (l : Link) → link_at w o ≡ Some l → is_running (Some l) ≡ true → l.sender.rnr_wait ≡ false → l.sender.untold ≡ [])
    (wants : (o : ObjName) (l : Link) → link_at w o ≡ Some l → is_running (Some l) ≡ true → l.sender.rnr_wait ≡ true → lacks_receive m o ≡ true) where
  live_reasons : AreReasons w m (flat_map left_in (lives w)) (flat_map (λ d. flat_map left_live d.contexts) w.devices)
  live_reasons =
      subst (AreReasons w m (flat_map left_in (lives w))) (flat_flat left_live (λ (d : Device). d.contexts) w.devices)
      (each w m left_in left_live (lives w)
      (All-weaker (Contains (lives w)) (λ c. AreReasons w m (left_in c) (left_live c)) (λ c there. live_named w m s tells wants c there) (lives w) (All-contains_itself (lives w))))

  carried_reasons : AreReasons w m (flat_map (λ i. left_in (images.context_of i)) w.carried) (flat_map left_carried w.carried)
  carried_reasons =
      each w m (λ i. left_in (images.context_of i)) left_carried w.carried
      (All-weaker (Contains w.carried) (λ i. AreReasons w m (left_in (images.context_of i)) (left_carried i))
      (λ i there. carried_named w m i there (All-contains IsLawful w.carried i lawful there)) w.carried (All-contains_itself w.carried))

  reasons : AreReasons w m (quiet.unfinished w) (settle.unfinished w)
  unfolding quiet.unfinished settle.unfinished
  reasons = both w m (flat_map left_in (lives w)) (flat_map (λ i. left_in (images.context_of i)) w.carried) (flat_map (λ d. flat_map left_live d.contexts) w.devices) (flat_map left_carried w.carried) live_reasons carried_reasons

pub leaves : SettlingRests → SettlingTells → SettlingWants → SettlingLeaves
leaves rests tells wants w m m' lawful s s' = record {
  nothing_pending = (rests w m s).drained;
  reasons = reasons (settled w).world m' s' (subst (All IsLawful) (sym (carried_same w)) lawful) (tells w m s) (wants w m m' s s');
}
