-- The numbers that the ends of a world expect and have sent are no more than those of the postings that were heard.
use Rattle.std.proofs.Common.{arith, ◌≡◌, ◌≤◌, ℕ, ◌+◌, List, [], ◌∷◌, Bool, true, false, Option, Some, None, refl, sym, ap, ◌∙◌, subst, if◌then◌else◌}
use Rattle.std.specs.Prelude.{◌==◌, ◌&&◌, not, is_some}
use Rattle.std.proofs.lemmas.Bool.Decides.{nat_tests, leb_tells}
use Rattle.rdma_types.specs.declared.names.Name.{Name}
use Rattle.rdma_types.specs.declared.names.ObjName.{ObjName}
use Rattle.rdma_types.specs.Limits.{latest}
use Rattle.rdma_types.specs.Lists.{has_name, named}
use Rattle.protocol.specs.Bytes.{byte_at, number_at}
use Rattle.protocol.specs.DeviceStep.{Found, found_in}
use Rattle.protocol.specs.Fabric.{is_late}
use Rattle.protocol.specs.State.{Device, End, Link, World, context_at, device_at, end_at, no_end}
use Rattle.protocol.specs.Wire.{is_request}
use Rattle.protocol.specs.WorldStep.{has_device, home, is_live, mark_of, now_at}
use Rattle.packetless_machine.specs.Machine.{Machine}
use Rattle.packetless_machine.specs.Numbers.{due}
use Rattle.law_simulation.specs.Joined.{IsJoined}
use Rattle.law_simulation.specs.Stands.{Stands}
use Rattle.law_simulation.specs.Views.{context_of, end_of, in_rts, link_or_none, name_of, net_of, peer}
use Rattle.law_simulation.proofs.delivery.Found.{found_at}
use Rattle.law_simulation.proofs.relation.Tables.{named-absent, named-there}
use Rattle.law_simulation.proofs.relation.Worlds.{home_context}
use Rattle.law_orders.proofs.Found.{found_at_id}
use Rattle.law_orders.proofs.Posted.{numbers_of}

-- no end has more numbers than that
abbrev pub HasFew : Machine → ℕ → Type 0
HasFew m n = (q : ObjName) (t : ℕ) → numbers_of t m q ≤ n

module _ (w : World) (m : Machine) (s : Stands w m) (n : ℕ) (few : HasFew m n) (o : ObjName) (l : Link) (linked : (end_of w o).link ≡ Some l) where
  connected : ((net_of w m).side o).connected ≡ true
  connected = ap is_some linked

  side_link : ((net_of w m).side o).link ≡ l
  unfolding link_or_none
  side_link = ap link_or_none linked

  joined : IsJoined o ((net_of w m).side o) ((net_of w m).side (peer (net_of w m) o)) ((net_of w m).end o) ((net_of w m).end (peer (net_of w m) o))
  joined = s.joined o connected

  -- what was sent
  pub top_few : l.sender.top ≤ n
  top_few = omega (arith, ap (λ x. x.sender.top) side_link, joined.ordered.top_end, few o ((net_of w m).end o).mtu)

  -- what is expected, where the end is in Rts
  pub expected_few : l.ended ≡ false → l.receiver.expected ≤ n
  unfolding in_rts
  expected_few alive =
      let p : ObjName = peer (net_of w m) o in
      let j = s.joined p joined.connected in
      let rts : ((net_of w m).side o).rts ≡ true = ap (λ b. b && not (link_or_none (end_of w o).link).ended) connected ∙ (ap (λ x. not x.ended) side_link ∙ ap not alive) in
      let expected : ((net_of w m).side o).link.receiver.expected ≡ due ((net_of w m).end p) =
      subst (λ z. ((net_of w m).side z).rts ≡ true → ((net_of w m).side z).link.receiver.expected ≡ due ((net_of w m).end p)) joined.back (λ h. (j.receives h).expected) rts in
      omega (arith, ap (λ x. x.receiver.expected) side_link, expected, j.ordered.due_top, j.ordered.top_end, few p ((net_of w m).end p).mtu)

-- ---- the end on its device

link_named : (x : Name) (a b : End) (es : List End) (l : Link) → a.link ≡ None → (named (λ e. e.name) a x es).link ≡ Some l → (named (λ e. e.name) b x es).link ≡ Some l
link_named x a b es l none h = by (has_name (λ e. e.name) x es) refl
  where
    by : (t : Bool) → has_name (λ e. e.name) x es ≡ t → (named (λ e. e.name) b x es).link ≡ Some l
    by true there = ap (λ e. e.link) (named-there (λ e. e.name) b a x es there) ∙ h
    by false absent = absurd (cc (ap (λ e. e.link) (named-absent (λ e. e.name) a x es absent), h, none))

-- the end that stands on its home with a link has that link in the world
pub link_there : (w : World) (d : Device) (o : ObjName) (l : Link) → is_live w o.context ≡ true → home w o.context ≡ d → (end_at (context_at d o.context) o.name).link ≡ Some l → (end_of w o).link ≡ Some l
unfolding end_of
link_there w d o l live here h =
    let same : context_at d o.context ≡ context_of w o.context = ap (λ x. context_at x o.context) (sym here) ∙ home_context w o.context live in
    link_named o.name no_end _ (context_of w o.context).ends l refl (ap (λ c. (end_at c o.name).link) (sym same) ∙ h)

-- ---- the end that a packet finds

-- the first that is found has sent few, and where it is in Rts it expects few
pub record IsFew (n : ℕ) (f : Found) : Type 0 where
  pub top : f.link.sender.top ≤ n
  pub expected : f.link.ended ≡ false → f.link.receiver.expected ≤ n

pub found_few : (w : World) (m : Machine) (s : Stands w m) (n : ℕ) → HasFew m n → (k : ℕ) → has_device w k ≡ true → (number : ℕ) (f : Found) (fs : List Found) → found_in number (device_at w k).contexts ≡ f ∷ fs → IsFew n f
found_few w m s n few k made number f fs found =
    let at = found_at w m (λ d. d.id == k) (device_at w k) number f fs s (found_at_id w k made) found in
    let o : ObjName = name_of m number in
    let linked : (end_of w o).link ≡ Some f.link = link_there w (device_at w k) o f.link at.live at.home (ap (λ c. (end_at c o.name).link) at.context ∙ (ap (λ e. e.link) at.end ∙ at.linked)) in
    record { top = top_few w m s n few o f.link linked; expected = expected_few w m s n few o f.link linked }

-- ---- nothing is late

late_not : (number : Option ℕ) (now : ℕ) → now ≤ latest → is_late number now ≡ false
late_not None now low = refl
late_not (Some k) now low = grind (arith, nat_tests, leb_tells (k + latest + 1) now, low)

pub mark_low : (n : ℕ) (fs : List Found) (opcode : ℕ) → ((f : Found) (rest : List Found) → fs ≡ f ∷ rest → (f.link.sender.top ≤ n) × (f.link.receiver.expected ≤ n)) → mark_of fs opcode ≤ n
mark_low n [] opcode few = omega arith
mark_low n (f ∷ fs) opcode few = by (is_request opcode)
  where
    by : (b : Bool) → (if b then f.link.receiver.expected else f.link.sender.top) ≤ n
    by true = (few f fs refl).1
    by false = (few f fs refl).0

pub in_time : (n : ℕ) (d : Device) (number : Option ℕ) (bytes : List ℕ) → n ≤ latest → ((f : Found) (rest : List Found) → found_in (number_at 5 3 bytes) d.contexts ≡ f ∷ rest → (f.link.sender.top ≤ n) × (f.link.receiver.expected ≤ n)) → is_late number (now_at (Some d) bytes) ≡ false
in_time n d number bytes low few = late_not number _ (omega (arith, low, mark_low n (found_in (number_at 5 3 bytes) d.contexts) (byte_at 0 bytes) few))
