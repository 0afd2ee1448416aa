-- A region is in use on one side exactly where it is on the other.
use Rattle.std.proofs.Common.{arith, ◌≡◌, ◌≤◌, ◌<◌, ◌*◌, ◌-◌, ℕ, zero, suc, List, [], ◌∷◌, map, length, true, false, Bool, refl, sym, ap, ◌∙◌, subst, inl, inr}
use Rattle.std.specs.Prelude.{Option, Some, None, not, ◌&&◌, ◌||◌, ◌==◌, ◌/◌, ◌%◌, is_some, nat_lt, bytes_eq, if◌then◌else◌, Contains, All, drop, take}
use Rattle.std.specs.List.{list_any, count_by}
use Rattle.std.proofs.lemmas.Bool.Decides.{nat_tests, eqb_tells, leb_tells}
use Rattle.std.proofs.lemmas.List.{get_or_past, drop_all}
use Rattle.std.proofs.Math.Nat.{div-add-mod}
use Rattle.std.proofs.lemmas.List.Elements.{All-nil, All-cons, All-head, All-tail, All-weaker, All-contains}
use Rattle.rdma_types.specs.declared.names.Name.{Name}
use Rattle.rdma_types.specs.declared.names.ObjName.{ObjName}
use Rattle.rdma_types.specs.declared.requests.Kind.{Kind}
use Rattle.rdma_types.specs.declared.requests.Kind.TheVariants as kinds
use Rattle.rdma_types.specs.Kinds.{is_send, is_write, kind_of, lands, size_of}
use Rattle.rdma_types.specs.Limits.{is_mtu}
use Rattle.rdma_types.specs.Lists.{named, has_name, some}
use Rattle.rdma_types.specs.Objects.{Posted, Region, no_posted}
use Rattle.protocol.specs.State as state
use Rattle.protocol.specs.State.{World, Link, Progress, NoMessage, InSend, InWrite, no_end}
use Rattle.protocol.specs.Memory.{untold_of}
use Rattle.protocol.specs.Refusals as refusing
use Rattle.packetless_machine.specs.Machine as machine
use Rattle.packetless_machine.specs.Machine.{Machine, End, has_end}
use Rattle.packetless_machine.specs.Numbers.{due}
use Rattle.packetless_machine.specs.Sound.{IsSound}
use Rattle.packetless_machine.specs.Steps.{current, has_current, has_peer, has_turn, lands_before, untold}
use Rattle.packetless_machine.specs.Verbs as verbing
use Rattle.law_simulation.specs.Views.{Net, net_of, requests_of, peer, owned, owned_there, link_or_none, receive_in, end_of, in_rts, context_of}
use Rattle.law_simulation.specs.Joined.{IsJoined, IsProgress}
use Rattle.law_simulation.specs.Stands.{Stands, IsEndSound}
use Rattle.law_simulation.proofs.relation.Tables.{All-named, name_tells, same_name, named-there, count_by-cons}
use Rattle.law_simulation.proofs.relation.Ends.{end_owned, names_there, names_here}
use Rattle.law_simulation.proofs.relation.Grows.{IsConnected}
use Rattle.law_simulation.proofs.relation.Grown.{are_made}

-- ---- the current request of an end whose message is in progress

pub sound_of : (w : World) (m : Machine) → Stands w m → (o : ObjName) → has_end m o ≡ true → IsSound (machine.end_of m o)
unfolding has_end machine.end_of
sound_of w m s o there = (All-named (IsEndSound (machine.regions_of m o.context) _) (λ e. e.name) (machine.nobody o) o.name (machine.context_of m o.context).ends (s.sound o.context).ends there).sound

-- what an owner has of the end is equal
pub owned_of : (w : World) (m : Machine) → Stands w m → (o : ObjName) → has_end m o ≡ true → owned_there (end_of w o) ≡ owned (machine.end_of m o)
unfolding has_end machine.end_of end_of
owned_of w m s o there = end_owned o.name (record no_end { name = o.name }) (machine.nobody o) (context_of w o.context).ends (machine.context_of m o.context).ends (s.same o.context).ends there

is_positive : (n : ℕ) → is_mtu n ≡ true → 0 < n
is_positive zero h = absurd (cc)
is_positive (suc n) h = omega arith

whole_begun : (a b : ℕ) → a / b ≡ 0 → a % b ≡ 0 → a ≡ 0
whole_begun a b quotient rest = omega (arith, div-add-mod a b, ap (λ k. b * k) quotient, rest)

-- what is begun is posted
begun_posted : (e : End) → IsSound e → 0 < e.into → e.acted < length e.posted
begun_posted e s begun = by_order (nat_lt e.acted (length e.posted)) refl
  where
    by_order : (b : Bool) → nat_lt e.acted (length e.posted) ≡ b → e.acted < length e.posted
    by_order true t = grind (arith, nat_tests, leb_tells (suc e.acted) (length e.posted), t)
    by_order false t =
        let past : length e.posted ≤ e.acted = grind (arith, nat_tests, leb_tells (suc e.acted) (length e.posted), t) in
        let none : current e ≡ no_posted = get_or_past e.posted e.acted no_posted past in
        elim s.unfinished [
          | inl z ↦ absurd (omega (arith, z, begun))
          | inr l ↦ absurd (omega (arith, l, ap size_of none))
        ]

and_false : (a b : Bool) → (a ≡ true → b ≡ true → ⊥) → (a && b) ≡ false
and_false true true h = absurd (h refl refl)
and_false true false h = refl
and_false false b h = refl

any_taken : (k : ℕ) → list_any (λ (r : Posted). lands (kind_of r)) (take k []) ≡ false
any_taken zero = refl
any_taken (suc k) = refl

not_held : (w : World) (m : Machine) → Stands w m → (q : ObjName) → IsConnected (net_of w m) q → 0 < (machine.end_of m q).into → ((current (machine.end_of m q)).request.fence && lands_before (machine.end_of m q)) ≡ false
unfolding lands_before due owned owned_there in_rts
not_held w m s q c begun =
    let e : End = machine.end_of m q in
    let there : has_end m q ≡ true = are_made w m s q c in
    let sound : IsSound e = sound_of w m s q there in
    let posted : e.acted < length e.posted = begun_posted e sound begun in
    let j = s.joined q c in
    let over : (link_or_none (end_of w q).link).ended ≡ e.ended = ap (λ z. z.ended) (owned_of w m s q there) in
    and_false (current e).request.fence (lands_before e) (λ fenced lands'. by_ended e.ended refl there sound posted j over fenced lands')
  where
    by_ended : (b : Bool) → (machine.end_of m q).ended ≡ b → has_end m q ≡ true → IsSound (machine.end_of m q) → (machine.end_of m q).acted < length (machine.end_of m q).posted →
        IsJoined q ((net_of w m).side q) ((net_of w m).side (peer (net_of w m) q)) ((net_of w m).end q) ((net_of w m).end (peer (net_of w m) q)) → (link_or_none (end_of w q).link).ended ≡ (machine.end_of m q).ended →
        (current (machine.end_of m q)).request.fence ≡ true → list_any (λ r. lands (kind_of r)) (take ((machine.end_of m q).acted - (machine.end_of m q).told) (drop (machine.end_of m q).told (machine.end_of m q).posted)) ≡ true → ⊥
    by_ended true t there sound posted j over fenced lands' =
        let none : drop (machine.end_of m q).told (machine.end_of m q).posted ≡ [] = drop_all (machine.end_of m q).told (machine.end_of m q).posted (omega (arith, sound.over t)) in
        cc (ap (λ xs. list_any (λ r. lands (kind_of r)) (take ((machine.end_of m q).acted - (machine.end_of m q).told) xs)) none, lands', any_taken ((machine.end_of m q).acted - (machine.end_of m q).told))
    by_ended false t there sound posted j over fenced lands' =
        let rts : (is_some (end_of w q).link && not (link_or_none (end_of w q).link).ended) ≡ true = rw (c, over, t) refl in
        let top = j.fenced rts (machine.end_of m q).acted posted fenced lands' in
        let begins = whole_begun (machine.end_of m q).into (machine.end_of m q).mtu (omega (arith, top, j.ordered.due_top)) j.in_pieces.acting.0 in
        omega (arith, begins, begun)

all_current : (a p b c d : Bool) → a ≡ true → p ≡ true → b ≡ false → c ≡ true → d ≡ false → ((a && p) && (not b && (c && not d))) ≡ true
all_current a p b c d h g i j k = rw (h, g, i, j, k) refl

-- an end whose message is in progress at its peer has a current request
current_now : (w : World) (m : Machine) → Stands w m → (q : ObjName) → IsConnected (net_of w m) q → (machine.end_of m (machine.end_of m q).peer).ended ≡ false → 0 < (machine.end_of m q).into → has_current m q ≡ true
unfolding has_current has_peer has_turn owned owned_there
current_now w m s q c alive begun =
    let there : has_end m q ≡ true = are_made w m s q c in
    let posted : (machine.end_of m q).acted < length (machine.end_of m q).posted = begun_posted (machine.end_of m q) (sound_of w m s q there) begun in
    let connected : (machine.end_of m q).connected ≡ true = ap (λ z. z.connected) (sym (owned_of w m s q there)) ∙ c in
    let before : nat_lt (machine.end_of m q).acted (length (machine.end_of m q).posted) ≡ true = grind (arith, nat_tests, leb_tells (suc (machine.end_of m q).acted) (length (machine.end_of m q).posted)) in
    let peer_there : has_end m (machine.end_of m q).peer ≡ true = are_made w m s (machine.end_of m q).peer (s.joined q c).connected in
    all_current _ _ _ _ _ connected peer_there alive before (not_held w m s q c begun)

-- ---- a message in progress names a region

write_not_send : (r : Posted) → is_send (kind_of r) ≡ true → is_write (kind_of r) ≡ false
write_not_send r h = by_kind (kind_of r) h
  where
    by_kind : (k : Kind) → is_send k ≡ true → is_write k ≡ false
    by_kind kinds.Write t = absurd (cc)
    by_kind kinds.Send t = refl
    by_kind kinds.Read t = refl
    by_kind kinds.CompareSwap t = refl
    by_kind kinds.FetchAdd t = refl

and_no : (a b c d : Bool) → c ≡ false → (a && (b && (c && d))) ≡ false
and_no a b c d h = grind (arith, h)

-- the keys of two regions are equal where their remote keys are
same_keys : (a b c d : ℕ) → c ≡ suc a → d ≡ suc b → (a == b) ≡ (c == d)
same_keys a b c d e f = grind (arith, nat_tests, eqb_tells a b, eqb_tells c d)

and_no_write : (a b c d e : Bool) → d ≡ false → (a && (b && (c && (d && e)))) ≡ false
and_no_write a b c d e h = grind (arith, h)

and_ended : (a b c d e : Bool) → c ≡ true → (a && ((b && (not c && d)) && e)) ≡ false
and_ended a b c d e h = grind (arith, h)

all_true : (a b c d e : Bool) → a ≡ true → b ≡ true → c ≡ true → d ≡ true → (a && (b && (c && (d && e)))) ≡ e
all_true a b c d e h i j k = rw (h, i, j, k) refl

or_none : (a b : Bool) → b ≡ false → a ≡ (a || b)
or_none a b h = grind (arith, h)

and_swap : (a b : Bool) → (a && b) ≡ (b && a)
and_swap a b = grind arith

some_any : {A : Type 0} (f g : A → Bool) (xs : List A) → ((x : A) → f x ≡ g x) → some f xs ≡ list_any g xs
unfolding some
some_any f g [] same = refl
some_any f g (x ∷ xs) same = ap (λ b. b || some f xs) (same x) ∙ ap (λ b. g x || b) (some_any f g xs same)

untold_is : (l : Option Link) → untold_of l ≡ (link_or_none l).sender.untold
unfolding link_or_none
untold_is None = refl
untold_is (Some l) = refl

or_three : {a b c a' b' c' : Bool} → a ≡ a' → b ≡ b' → c ≡ c' → (a || (b || c)) ≡ (a' || (b' || c'))
or_three {a} {b} {c} {a'} {b'} {c'} h k l = rw (h, k, l) refl

abbrev IsKeyed : List ℕ → Region → Type 0
IsKeyed keys r = Contains keys r.keys.local × (r.keys.local % 2 ≡ 0) × (r.keys.remote ≡ suc r.keys.local)

module _ (w : World) (m : Machine) (s : Stands w m) (o : ObjName) (r : Region) (paired : r.keys.remote ≡ suc r.keys.local) (there : has_end m o ≡ true) where
  abbrev f : End
  f = machine.end_of m o

  abbrev q : ObjName
  q = f.peer

  same : owned_there (end_of w o) ≡ owned f
  same = owned_of w m s o there

  is_connected_here : IsConnected (net_of w m) o → f.connected ≡ true
  unfolding owned owned_there
  is_connected_here c = ap (λ z. z.connected) (sym same) ∙ c

  -- the peer, whose message it is
  joined : IsConnected (net_of w m) o → IsJoined o ((net_of w m).side o) ((net_of w m).side q) ((net_of w m).end o) ((net_of w m).end q)
  joined c = s.joined o c

  -- the message in progress towards an end in Rts
  at_peer : IsConnected (net_of w m) o → f.ended ≡ false → IsProgress (requests_of (machine.end_of m q)) f.domain (machine.regions_of m o.context) (link_or_none (end_of w o).link).receiver.progress
  unfolding owned owned_there in_rts
  at_peer c alive =
      let j = joined c in
      let n : Net = net_of w m in
      let back : peer n q ≡ o = j.back in
      let over : (link_or_none (end_of w o).link).ended ≡ false = ap (λ z. z.ended) same ∙ alive in
      let rts : (n.side o).rts ≡ true = rw (c, over) refl in
      subst (λ z. IsProgress (n.end q) (n.end z).domain (machine.regions_of m z.context) (n.side z).link.receiver.progress) back (s.progress q j.connected (subst (λ z. (n.side z).rts ≡ true) (sym back) rts))

  in_progress : IsConnected (net_of w m) o → f.ended ≡ false → (p : Progress) → IsProgress (requests_of (machine.end_of m q)) f.domain (machine.regions_of m o.context) p → refusing.progress_names r.keys.local p ≡ (verbing.in_use_names r.keys.local (receive_in p) || verbing.is_written m f r.keys.remote)
  unfolding verbing.in_use_names verbing.is_written receive_in
  in_progress c alive NoMessage h = sym (and_no f.connected (has_current m q) (nat_lt 0 (machine.end_of m q).into) _ (grind (arith, nat_tests, leb_tells 1 (machine.end_of m q).into, h)))
  in_progress c alive (InSend bytes v) h = or_none (v.lkey == r.keys.local) _ (and_no_write f.connected (has_current m q) (nat_lt 0 (machine.end_of m q).into) _ _ (write_not_send (current (machine.end_of m q)) h.2))
  in_progress c alive (InWrite region off count bytes) h =
      let begun : 0 < (machine.end_of m q).into = omega (arith, h.0, h.1) in
      let j = joined c in
      let peer_alive : (machine.end_of m (machine.end_of m q).peer).ended ≡ false = ap (λ z. (machine.end_of m z).ended) j.back ∙ alive in
      let now : has_current m q ≡ true = current_now w m s q j.connected peer_alive begun in
      let connected : f.connected ≡ true = is_connected_here c in
      let positive : nat_lt 0 (machine.end_of m q).into ≡ true = grind (arith, nat_tests, leb_tells 1 (machine.end_of m q).into, begun) in
      let keyed = All-contains (IsKeyed m.keys) (machine.regions_of m o.context) h.5.region (s.sound o.context).keyed h.5.there in
      let keys : (region == r.keys.local) ≡ ((current (machine.end_of m q)).request.shape.rkey == r.keys.remote) = same_keys region r.keys.local (current (machine.end_of m q)).request.shape.rkey r.keys.remote (sym h.5.remote ∙ (keyed.2 ∙ ap suc h.5.local)) paired in
      keys ∙ sym (all_true f.connected (has_current m q) (nat_lt 0 (machine.end_of m q).into) (is_write (kind_of (current (machine.end_of m q)))) _ connected now positive h.2)

  -- at an end in Error there is none
  in_error : IsConnected (net_of w m) o → f.ended ≡ true → verbing.is_written m f r.keys.remote ≡ false
  unfolding verbing.is_written has_current
  in_error c ended =
      let j = joined c in
      let gone : (machine.end_of m (machine.end_of m q).peer).ended ≡ true = ap (λ z. (machine.end_of m z).ended) j.back ∙ ended in
      and_ended f.connected (has_peer m q) (machine.end_of m (machine.end_of m q).peer).ended _ _ gone

  idle : IsConnected (net_of w m) o → (link_or_none (end_of w o).link).ended ≡ true → (link_or_none (end_of w o).link).receiver.progress ≡ NoMessage
  idle c =
      let j = joined c in
      let n : Net = net_of w m in
      subst (λ z. (n.side z).link.ended ≡ true → (n.side z).link.receiver.progress ≡ NoMessage) j.back (s.joined q j.connected).idle

  unwritten : f.connected ≡ false → verbing.is_written m f r.keys.remote ≡ false
  unfolding verbing.is_written
  unwritten h = rw h refl

  message_same : (l : Option Link) → (end_of w o).link ≡ l → refusing.message_names r.keys.local l ≡ (verbing.in_use_names r.keys.local f.in_use || verbing.is_written m f r.keys.remote)
  unfolding owned owned_there link_or_none receive_in verbing.in_use_names
  message_same None h =
      let connected : f.connected ≡ false = ap (λ z. z.connected) (sym same) ∙ ap is_some h in
      let in_use : f.in_use ≡ None = ap (λ z. z.in_use) (sym same) ∙ ap (λ z. receive_in (link_or_none z).receiver.progress) h in
      sym (ap (λ u. verbing.in_use_names r.keys.local u || verbing.is_written m f r.keys.remote) in_use ∙ unwritten connected)
  message_same (Some l) h =
      let c : IsConnected (net_of w m) o = ap is_some h in
      let in_use : f.in_use ≡ receive_in l.receiver.progress = ap (λ z. z.in_use) (sym same) ∙ ap (λ z. receive_in (link_or_none z).receiver.progress) h in
      let over : l.ended ≡ f.ended = sym (ap (λ z. (link_or_none z).ended) h) ∙ ap (λ z. z.ended) same in
      let progress : (link_or_none (end_of w o).link).receiver.progress ≡ l.receiver.progress = ap (λ z. (link_or_none z).receiver.progress) h in
      by_ended f.ended refl c over progress ∙ sym (ap (λ u. verbing.in_use_names r.keys.local u || verbing.is_written m f r.keys.remote) in_use)
    where
      by_ended : (b : Bool) → f.ended ≡ b → IsConnected (net_of w m) o → l.ended ≡ f.ended → (link_or_none (end_of w o).link).receiver.progress ≡ l.receiver.progress → refusing.progress_names r.keys.local l.receiver.progress ≡ (verbing.in_use_names r.keys.local (receive_in l.receiver.progress) || verbing.is_written m f r.keys.remote)
      by_ended false t c over progress = in_progress c t l.receiver.progress (subst (λ z. IsProgress (requests_of (machine.end_of m q)) f.domain (machine.regions_of m o.context) z) progress (at_peer c t))
      by_ended true t c over progress =
          let none : l.receiver.progress ≡ NoMessage = sym progress ∙ idle c (ap (λ z. (link_or_none z).ended) h ∙ (over ∙ t)) in
          ap (refusing.progress_names r.keys.local) none ∙ sym (ap (λ z. verbing.in_use_names r.keys.local (receive_in z) || verbing.is_written m f r.keys.remote) none ∙ in_error c t)

  -- the work of an end names a region
  pub names_same : refusing.names_key r.keys.local (end_of w o) ≡ verbing.is_used_by m r f
  unfolding refusing.names_key verbing.is_used_by owned owned_there
  names_same =
      let requests : some (λ p. p.request.lkey == r.keys.local && not (p.request.shape.length == 0)) (untold_of (end_of w o).link) ≡ list_any (verbing.request_names r.keys.local) (untold f) =
      ap (some (λ p. p.request.lkey == r.keys.local && not (p.request.shape.length == 0))) (untold_is (end_of w o).link ∙ ap (λ z. z.untold) same)
      ∙ some_any (λ p. p.request.lkey == r.keys.local && not (p.request.shape.length == 0)) (verbing.request_names r.keys.local) (untold f) (λ p. and_swap (p.request.lkey == r.keys.local) (not (p.request.shape.length == 0))) in
      let receives : some (λ v. v.lkey == r.keys.local && not (v.length == 0)) (end_of w o).unused ≡ list_any (verbing.receive_names r.keys.local) f.unused =
      ap (some (λ v. v.lkey == r.keys.local && not (v.length == 0))) (ap (λ z. z.unused) same)
      ∙ some_any (λ v. v.lkey == r.keys.local && not (v.length == 0)) (verbing.receive_names r.keys.local) f.unused (λ v. and_swap (v.lkey == r.keys.local) (not (v.length == 0))) in
      or_three requests receives (message_same (end_of w o).link refl)

-- ---- all ends of a context

pub All-zip : {A : Type 0} (P Q R : A → Type 0) → ((x : A) → P x → Q x → R x) → (xs : List A) → All P xs → All Q xs → All R xs
All-zip P Q R both xs p q k d h = both _ (p k d h) (q k d h)

pub bytes_swap : (a b : Name) → bytes_eq a b ≡ false → bytes_eq b a ≡ false
bytes_swap a b h = elim (name_tells b a) [ inl t ↦ absurd (cc (subst (λ z. bytes_eq a z ≡ true) (sym t.1) (same_name a), h)) | inr t ↦ t.0 ]

or_right : (a b : Bool) → b ≡ true → (a || b) ≡ true
or_right a b h = grind (arith, h)

or_both : {a b c d : Bool} → a ≡ c → b ≡ d → (a || b) ≡ (c || d)
or_both {a} {b} {c} {d} h k = rw (h, k) refl

once_less : {A : Type 0} (name : A → Name) (n : Name) (x : A) (xs : List A) → count_by (λ z. bytes_eq (name z) n) (x ∷ xs) ≤ 1 → count_by (λ z. bytes_eq (name z) n) xs ≤ 1
once_less name n x xs h = grind (arith, h, count_by-cons (λ z. bytes_eq (name z) n) x xs)

once_here : {A : Type 0} (name : A → Name) (x : A) (xs : List A) → count_by (λ z. bytes_eq (name z) (name x)) (x ∷ xs) ≤ 1 → count_by (λ z. bytes_eq (name z) (name x)) xs ≡ 0
once_here name x xs h = grind (arith, h, same_name (name x), count_by-cons (λ z. bytes_eq (name z) (name x)) x xs)

none_here : {A : Type 0} (name : A → Name) (n : Name) (x : A) (xs : List A) → count_by (λ z. bytes_eq (name z) n) (x ∷ xs) ≡ 0 → bytes_eq (name x) n ≡ false
none_here name n x xs h = grind (arith, h, count_by-cons (λ z. bytes_eq (name z) n) x xs)

none_later : {A : Type 0} (name : A → Name) (n : Name) (x : A) (xs : List A) → count_by (λ z. bytes_eq (name z) n) (x ∷ xs) ≡ 0 → count_by (λ z. bytes_eq (name z) n) xs ≡ 0
none_later name n x xs h = grind (arith, h, count_by-cons (λ z. bytes_eq (name z) n) x xs)

others : {A : Type 0} (name : A → Name) (n : Name) (xs : List A) → count_by (λ z. bytes_eq (name z) n) xs ≡ 0 → All (λ z. bytes_eq (name z) n ≡ false) xs
others name n [] h = All-nil _
others name n (x ∷ xs) h = All-cons (λ z. bytes_eq (name z) n ≡ false) x xs (none_here name n x xs h) (others name n xs (none_later name n x xs h))

count_map : {A B : Type 0} (p : B → Bool) (f : A → B) (q : A → Bool) (xs : List A) → ((x : A) → p (f x) ≡ q x) → count_by q xs ≡ count_by p (map f xs)
count_map p f q [] same = refl
count_map p f q (x ∷ xs) same = grind (arith, same x, count_by-cons p (f x) (map f xs), count_by-cons q x xs, count_map p f q xs same)

all_there : {A : Type 0} (name : A → Name) (xs : List A) → All (λ x. has_name name (name x) xs ≡ true) xs
unfolding has_name
all_there name [] = All-nil _
all_there name (x ∷ xs) = All-cons (λ z. has_name name (name z) (x ∷ xs) ≡ true) x xs (rw (same_name (name x)) refl) (All-weaker (λ z. has_name name (name z) xs ≡ true) (λ z. has_name name (name z) (x ∷ xs) ≡ true) (λ z h. or_right (bytes_eq (name x) (name z)) _ h) xs (all_there name xs))

-- an end that is found is found whatever stands where nothing is found
each_found : (none : Name → state.End) (xs : List state.End) → All (λ x. named (λ e. e.name) no_end x.name xs ≡ x) xs → All (λ x. named (λ e. e.name) (none x.name) x.name xs ≡ x) xs
each_found none xs all = All-zip (λ x. named (λ e. e.name) no_end x.name xs ≡ x) (λ x. has_name (λ e. e.name) x.name xs ≡ true) (λ x. named (λ e. e.name) (none x.name) x.name xs ≡ x) (λ x h t. named-there (λ e. e.name) (none x.name) no_end x.name xs t ∙ h) xs all (all_there (λ e. e.name) xs)

each_made : (none : Name → End) (other : End) (ys : List End) → All (λ y. named (λ e. e.name) other y.name ys ≡ y) ys → All (λ y. named (λ e. e.name) (none y.name) y.name ys ≡ y) ys
each_made none other ys all = All-zip (λ y. named (λ e. e.name) other y.name ys ≡ y) (λ y. has_name (λ e. e.name) y.name ys ≡ true) (λ y. named (λ e. e.name) (none y.name) y.name ys ≡ y) (λ y h t. named-there (λ e. e.name) (none y.name) other y.name ys t ∙ h) ys all (all_there (λ e. e.name) ys)

each_named : {A : Type 0} (name : A → Name) (none : A) (xs : List A) → ((n : Name) → count_by (λ x. bytes_eq (name x) n) xs ≤ 1) → All (λ x. named name none (name x) xs ≡ x) xs
unfolding named
each_named name none [] once = All-nil _
each_named name none (x ∷ xs) once =
    All-cons (λ z. named name none (name z) (x ∷ xs) ≡ z) x xs (rw (same_name (name x)) refl)
    (All-zip (λ z. named name none (name z) xs ≡ z) (λ z. bytes_eq (name x) (name z) ≡ false) (λ z. named name none (name z) (x ∷ xs) ≡ z)
    (λ z h k. ap (λ b. if b then x else named name none (name z) xs) k ∙ h) xs
    (each_named name none xs (λ n. once_less name n x xs (once n)))
    (All-weaker (λ z. bytes_eq (name z) (name x) ≡ false) (λ z. bytes_eq (name x) (name z) ≡ false) (λ z h. bytes_swap (name z) (name x) h) xs (others name (name x) xs (once_here name x xs (once (name x))))))

-- a test of the ends on both sides, where it agrees at each name
zip_same : (f : state.End → Bool) (g : End → Bool) (find : Name → state.End) (find' : Name → End) (xs : List state.End) (ys : List End) → map owned_there xs ≡ map owned ys → All (λ x. find x.name ≡ x) xs → All (λ y. find' y.name ≡ y) ys → All (λ y. f (find y.name) ≡ g (find' y.name)) ys → some f xs ≡ list_any g ys
unfolding some
zip_same f g find find' [] [] same a b c = refl
zip_same f g find find' [] (y ∷ ys) same a b c = absurd (cc)
zip_same f g find find' (x ∷ xs) [] same a b c = absurd (cc)
zip_same f g find find' (x ∷ xs) (y ∷ ys) same a b c =
    let heads : owned_there x ≡ owned y = cc in
    let tails : map owned_there xs ≡ map owned ys = cc in
    let names : x.name ≡ y.name = sym (names_there x) ∙ (ap (λ z. z.name) heads ∙ names_here y) in
    let here : f x ≡ g y = ap f (sym (All-head (λ z. find z.name ≡ z) x xs a) ∙ ap find names) ∙ (All-head (λ z. f (find z.name) ≡ g (find' z.name)) y ys c ∙ ap g (All-head (λ z. find' z.name ≡ z) y ys b)) in
    or_both here (zip_same f g find find' xs ys tails (All-tail (λ z. find z.name ≡ z) x xs a) (All-tail (λ z. find' z.name ≡ z) y ys b) (All-tail (λ z. f (find z.name) ≡ g (find' z.name)) y ys c))

once_there : (xs : List state.End) (ys : List End) → map owned_there xs ≡ map owned ys → ((n : Name) → count_by (λ y. bytes_eq y.name n) ys ≤ 1) → (n : Name) → count_by (λ x. bytes_eq x.name n) xs ≤ 1
once_there xs ys same once n =
    let there : count_by (λ x. bytes_eq x.name n) xs ≡ count_by (λ z. bytes_eq z.name n) (map owned_there xs) = count_map (λ z. bytes_eq z.name n) owned_there (λ x. bytes_eq x.name n) xs (λ x. ap (λ k. bytes_eq k n) (names_there x)) in
    let here : count_by (λ y. bytes_eq y.name n) ys ≡ count_by (λ z. bytes_eq z.name n) (map owned ys) = count_map (λ z. bytes_eq z.name n) owned (λ y. bytes_eq y.name n) ys (λ y. ap (λ k. bytes_eq k n) (names_here y)) in
    omega (arith, there, here, ap (count_by (λ z. bytes_eq z.name n)) same, once n)

pub in_use_same : (w : World) (m : Machine) (c : Name) (r : Region) → Stands w m → r.keys.remote ≡ suc r.keys.local → some (refusing.names_key r.keys.local) (context_of w c).ends ≡ list_any (verbing.is_used_by m r) (machine.context_of m c).ends
unfolding end_of machine.end_of has_end
in_use_same w m c r s paired =
    let xs : List state.End = (context_of w c).ends in
    let ys : List End = (machine.context_of m c).ends in
    let once : (n : Name) → count_by (λ y. bytes_eq y.name n) ys ≤ 1 = (s.sound c).named_once in
    zip_same (refusing.names_key r.keys.local) (verbing.is_used_by m r) (λ n. end_of w (record { context = c; name = n })) (λ n. machine.end_of m (record { context = c; name = n })) xs ys (s.same c).ends
    (each_found (λ n. record no_end { name = n }) xs (each_named (λ x. x.name) no_end xs (once_there xs ys (s.same c).ends once)))
    (each_made (λ n. machine.nobody (record { context = c; name = n })) (machine.nobody (record { context = c; name = [] })) ys (each_named (λ y. y.name) (machine.nobody (record { context = c; name = [] })) ys once))
    (All-weaker (λ y. has_name (λ z. z.name) y.name ys ≡ true) (λ y. refusing.names_key r.keys.local (end_of w (record { context = c; name = y.name })) ≡ verbing.is_used_by m r (machine.end_of m (record { context = c; name = y.name })))
    (λ y h. names_same w m s (record { context = c; name = y.name }) r paired h) ys (all_there (λ y. y.name) ys))
