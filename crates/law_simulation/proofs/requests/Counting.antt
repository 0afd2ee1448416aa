-- A responder whose counts alone change, with no memory, queue or receive: a NAK is noted, or the requests of the peer come
-- further at the machine alone.
use Rattle.std.proofs.Common.{◌≡◌, ◌≢◌, ℕ, List, map, true, refl, sym, ap, ◌∙◌, subst}
use Rattle.std.specs.Prelude.{Some, is_some, bytes_eq}
use Rattle.rdma_types.specs.declared.names.ObjName.{ObjName}
use Rattle.rdma_types.specs.Lists.{has_name, store_named}
use Rattle.protocol.specs.State as state
use Rattle.protocol.specs.State.{World, Link, Receiver, Progress, no_end}
use Rattle.protocol.specs.Wire.{Packet}
use Rattle.protocol.specs.EndWords as words
use Rattle.protocol.specs.WorldStep.{is_live}
use Rattle.packetless_machine.specs.declared.reply.Reply.{Reply}
use Rattle.packetless_machine.specs.Machine as machine
use Rattle.packetless_machine.specs.Machine.{Machine, End, Offered, has_end, has_context, regions_of, nobody}
use Rattle.law_simulation.specs.Views.{side_of, link_of, link_or_none, requests_of, owned, owned_there, receive_in}
use Rattle.law_simulation.specs.Joined.{IsProgress}
use Rattle.law_simulation.specs.Stands.{Stands, AreSame, IsEndSound}
use Rattle.law_simulation.proofs.relation.Grown.{are_made}
use Rattle.law_simulation.proofs.relation.Machines as machines
use Rattle.law_simulation.proofs.relation.Machines.{MachineChanged, context_name}
use Rattle.law_simulation.proofs.relation.Linked.{context_with}
use Rattle.law_simulation.proofs.relation.Ends.{ends_store, end_owned}
use Rattle.law_simulation.proofs.relation.Live.{live_name, live_same}
use Rattle.law_simulation.proofs.relation.Tables.{All-named, name-named_there, same_name}
use Rattle.law_simulation.specs.Delivered as delivered
use Rattle.law_simulation.specs.Delivered.{context_there}
use Rattle.law_simulation.proofs.delivery.Arriving.{stored_again}
use Rattle.law_simulation.proofs.delivery.Found.{linked_there}
use Rattle.law_simulation.proofs.requests.Requests.{IsRequestAt, asker, asking}
use Rattle.law_simulation.proofs.requests.Advancing.{IsAdvance, got, moved_on, no_advance}
use Rattle.law_simulation.proofs.requests.Responding.{IsRespond, machine_again, made_there, peer_again}

-- what an owner has of an end whose responder comes to other counts
pub owned_got : (e : state.End) (l : Link) (r : Receiver) → e.link ≡ Some l → owned_there (record e { link = Some (got l r) }) ≡ record (owned_there e) { in_use = receive_in r.progress }
unfolding owned_there link_or_none
owned_got e l r linked = λ i. record {
  name = e.name;
  number = e.number;
  domain = e.domain;
  send_queue = e.send_cq;
  receive_queue = e.recv_cq;
  send_depth = e.send_depth;
  receive_depth = e.recv_depth;
  connected = ap is_some (sym linked) i;
  ended = ap (λ z. (link_or_none z).ended) (sym linked) i;
  untold = ap (λ z. (link_or_none z).sender.untold) (sym linked) i;
  in_use = receive_in r.progress;
  unused = e.unused;
}

owned_kept : (e : state.End) (l : Link) (r : Receiver) → e.link ≡ Some l → receive_in r.progress ≡ receive_in l.receiver.progress → owned_there (record e { link = Some (got l r) }) ≡ owned_there e
unfolding owned_there link_or_none
owned_kept e l r linked same =
    owned_got e l r linked
    ∙ ap (λ v. record (owned_there e) { in_use = v }) (same ∙ ap (λ z. receive_in (link_or_none z).receiver.progress) (sym linked))

module _ (w : World) (m : Machine) (o : ObjName) (l : Link) (n : ℕ) (d : Packet) (s : Stands w m) (live : is_live w o.context ≡ true) (linked : (delivered.end_there w o).link ≡ Some l) (at : IsRequestAt w m o l n d) where
  abbrev q : ObjName
  q = asker m o

  abbrev c : state.Context
  c = context_there w o

  abbrev e : state.End
  e = delivered.end_there w o

  pub in_context : has_name (λ z. z.name) o.name c.ends ≡ true
  in_context = (linked_there w o live at.live).0

  pub name_there : e.name ≡ o.name
  name_there = name-named_there (λ z. z.name) no_end o.name c.ends in_context

  pub o_there : has_end m o ≡ true
  o_there = are_made w m s o at.live

  pub o_in : has_name (λ z. z.name) o.name (machine.context_of m o.context).ends ≡ true
  unfolding has_end
  o_in = o_there

  pub q_there : has_end m q ≡ true
  q_there = are_made w m s q at.joined.connected

  pub q_in : has_name (λ z. z.name) q.name (machine.context_of m q.context).ends ≡ true
  unfolding has_end
  q_in = q_there

  pub apart : q.context ≢ o.context
  apart h = absurd (cc (at.joined.apart, ap (λ z. bytes_eq z o.context) h, same_name o.context))

  pub same_here : AreSame c (machine.context_of m o.context)
  same_here = live_same w m o.context s live

  pub owned_here : owned_there e ≡ owned (machine.end_of m o)
  unfolding machine.end_of
  owned_here = end_owned o.name no_end (nobody o) c.ends (machine.context_of m o.context).ends same_here.ends o_in

  pub q_sound : IsEndSound (regions_of m q.context) (map (λ z. z.name) (machine.context_of m q.context).queues) (machine.end_of m q)
  unfolding machine.end_of
  q_sound = All-named (IsEndSound (regions_of m q.context) (map (λ z. z.name) (machine.context_of m q.context).queues)) (λ z. z.name) (nobody q) q.name (machine.context_of m q.context).ends (s.sound q.context).ends q_in

  pub o_sound : IsEndSound (regions_of m o.context) (map (λ z. z.name) (machine.context_of m o.context).queues) (machine.end_of m o)
  unfolding machine.end_of
  o_sound = All-named (IsEndSound (regions_of m o.context) (map (λ z. z.name) (machine.context_of m o.context).queues)) (λ z. z.name) (nobody o) o.name (machine.context_of m o.context).ends (s.sound o.context).ends o_in

  -- the message in progress
  pub progress_now : IsProgress (asking m o) (machine.end_of m o).domain (regions_of m o.context) l.receiver.progress
  progress_now =
      subst (λ (z : Link). IsProgress (asking m o) (machine.end_of m o).domain (regions_of m o.context) z.receiver.progress) at.link
      (subst (λ j. IsProgress (asking m o) (requests_of (machine.end_of m j)).domain (regions_of m j.context) (side_of w j).link.receiver.progress) at.joined.back
      (s.progress q at.joined.connected (subst (λ j. (side_of w j).rts ≡ true) (sym at.joined.back) at.rts)))

  -- the link is stored again
  pub linked_again : words.linked c e l ≡ c
  unfolding words.with_end words.with_link
  linked_again =
      let is : record e { link = Some l } ≡ e = λ i. record e { link = sym linked i } in
      ap (λ es. record c { ends = es })
      (ap (λ z. store_named (λ u. u.name) e.name z c.ends) is ∙ (ap (λ k. store_named (λ u. u.name) k e c.ends) name_there ∙ stored_again (λ u. u.name) no_end o.name c.ends in_context))

  -- the responder's counts change, and the requests come further at the machine
  pub counts : (m' : Machine) (r' : Receiver) (acted into : ℕ) (answers : List Reply) (offers : List Offered) (dry : List ℕ) →
      MachineChanged m m' q.context (context_with m q (moved_on (machine.end_of m q) acted into answers offers dry)) → m'.numbers ≡ m.numbers → m'.keys ≡ m.keys → receive_in r'.progress ≡ receive_in l.receiver.progress →
      IsEndSound (regions_of m q.context) (map (λ z. z.name) (machine.context_of m q.context).queues) (moved_on (machine.end_of m q) acted into answers offers dry) →
      IsAdvance (asking m o) acted into answers offers dry (link_of w q).sender.top r' →
      IsProgress (moved_on (asking m o) acted into answers offers dry) (machine.end_of m o).domain (regions_of m o.context) r'.progress →
      IsRespond w m m' o l r' (words.linked c e (got l r')) (machine.context_of m o.context) (machine.end_of m o) acted into answers offers dry
  unfolding words.with_end words.with_link machine.end_of has_end
  counts m' r' acted into answers offers dry changed numbers keys receives sound advance progress =
      let again : machine.context_of m' o.context ≡ machine.context_of m o.context = machines.context_other m m' q.context _ changed o.context (λ h. apart (sym h)) in
      let there : has_end m' o ≡ true = ap (λ z. has_name (λ u. u.name) o.name z.ends) again ∙ o_in in
      let stored : store_named (λ z. z.name) o.name (machine.end_of m o) (machine.context_of m o.context).ends ≡ (machine.context_of m o.context).ends = stored_again (λ z. z.name) (nobody o) o.name (machine.context_of m o.context).ends o_in in
      record {
        end = record e { link = Some (got l r') };
        named = live_name w o.context live;
        ends = ap (λ k. store_named (λ z. z.name) k (record e { link = Some (got l r') }) c.ends) name_there;
        end_name = name_there;
        link = refl;
        between = m';
        first = changed;
        second = subst (MachineChanged m' m' o.context) again (machine_again m' o.context (made_there m' o there));
        numbers = numbers;
        keys = keys;
        machine_ends = sym stored;
        requests = refl;
        same = record {
          domains = same_here.domains;
          regions = same_here.regions;
          queues = same_here.queues;
          ends =
              ap (λ k. map owned_there (store_named (λ z. z.name) k (record e { link = Some (got l r') }) c.ends)) name_there
              ∙ (ends_store o.name (record e { link = Some (got l r') }) (machine.end_of m o) c.ends (machine.context_of m o.context).ends same_here.ends (owned_kept e l r' linked receives ∙ owned_here)
              ∙ ap (map owned) stored);
        };
        sound = s.sound o.context;
        peer_sound = sound;
        advance = advance;
        progress = progress;
        progress_others = λ z domain p h. h;
      }

  -- .. and nothing changes at the machine
  pub notes : (r' : Receiver) → r'.expected ≡ l.receiver.expected → r'.kept ≡ l.receiver.kept → r'.progress ≡ l.receiver.progress → IsRespond w m m o l r' (words.linked c e (got l r')) (machine.context_of m o.context) (machine.end_of m o) (machine.end_of m q).acted (machine.end_of m q).into (machine.end_of m q).answers (machine.end_of m q).offers (machine.end_of m q).dry
  notes r' expected kept progress =
      counts m r' (machine.end_of m q).acted (machine.end_of m q).into (machine.end_of m q).answers (machine.end_of m q).offers (machine.end_of m q).dry
      (peer_again m q (made_there m q q_there) q_there) refl refl (ap receive_in progress) q_sound
      (no_advance (asking m o) (link_of w q).sender.top r' at.back.ordered.due_top at.back.in_pieces
      (record { expected = expected ∙ at.receives.expected; kept = kept ∙ at.receives.kept; answered = at.receives.answered }))
      (subst (IsProgress (asking m o) (machine.end_of m o).domain (regions_of m o.context)) (sym progress) progress_now)
