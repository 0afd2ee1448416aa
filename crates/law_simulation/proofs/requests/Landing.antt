-- A responder whose memory, queues and receives change too.
use Rattle.std.proofs.Common.{◌≡◌, ℕ, List, map, true, refl, sym, ap, ◌∙◌, subst, ◌<◌}
use Rattle.std.specs.Prelude.{Some, All}
use Rattle.rdma_types.specs.declared.names.Name.{Name}
use Rattle.rdma_types.specs.declared.names.ObjName.{ObjName}
use Rattle.rdma_types.specs.Lists.{has_word, has_name, store_named}
use Rattle.rdma_types.specs.Objects.{CompletionQueue, IsWhole, Region}
use Rattle.protocol.specs.State as state
use Rattle.protocol.specs.State.{World, Link, Receiver}
use Rattle.protocol.specs.Wire.{Packet}
use Rattle.protocol.specs.WorldStep.{is_live}
use Rattle.packetless_machine.specs.declared.reply.Reply.{Reply}
use Rattle.packetless_machine.specs.Machine as machine
use Rattle.packetless_machine.specs.Machine.{Machine, Context, End, Offered, regions_of, nobody}
use Rattle.law_simulation.specs.Views.{link_of, requests_of, owned, owned_there}
use Rattle.law_simulation.specs.Joined.{IsProgress}
use Rattle.law_simulation.specs.Stands.{Stands, IsContextSound, IsEndSound}
use Rattle.law_simulation.proofs.relation.Sounds.{queues_like}
use Rattle.law_simulation.proofs.relation.Machines.{MachineChanged}
use Rattle.law_simulation.proofs.relation.Linked.{context_with, connected_sound, domain_there}
use Rattle.law_simulation.proofs.relation.Ends.{ends_store}
use Rattle.law_simulation.proofs.relation.Live.{live_name}
use Rattle.law_simulation.specs.Delivered as delivered
use Rattle.law_simulation.proofs.requests.Requests.{IsRequestAt, asker, asking}
use Rattle.law_simulation.proofs.requests.Advancing.{IsAdvance, got, moved_on}
use Rattle.law_simulation.proofs.requests.Responding.{IsRespond}
use Rattle.law_simulation.proofs.delivery.Regions.{AreLike, like_sound, like_progress}
use Rattle.law_simulation.proofs.requests.Counting.{o_in, same_here}

-- the machine's context with other regions and queues, and another end
abbrev pub with_parts : Context → List Region → Name → End → List CompletionQueue → Context
with_parts y rs n f qs = record y { regions = rs; ends = store_named (λ z. z.name) n f y.ends; queues = qs }

-- .. and the world's
abbrev pub there_with : state.Context → List Region → Name → state.End → List CompletionQueue → state.Context
there_with c rs n e qs = record c { regions = rs; ends = store_named (λ z. z.name) n e c.ends; queues = qs }

-- the context of the machine stays sound
pub parts_sound : (keys : List ℕ) (y : Context) (rs : List Region) (n : Name) (f none : End) (qs : List CompletionQueue) → has_name (λ z. z.name) n y.ends ≡ true → f.name ≡ n → AreLike y.regions rs → All IsWhole rs → All (λ r. All (λ b. b < 256) r.bytes) rs → map (λ q. q.name) qs ≡ map (λ q. q.name) y.queues →
    has_word f.domain y.domains ≡ true → IsEndSound rs (map (λ q. q.name) qs) f → IsContextSound keys y → IsContextSound keys (with_parts y rs n f qs)
parts_sound keys y rs n f none qs found named' like whole said names domain end sound =
    let one : IsContextSound keys (record y { regions = rs }) = like_sound keys y rs like whole said sound in
    let two : IsContextSound keys (record y { regions = rs; queues = qs }) = record {
      whole = one.whole;
      bytes = one.bytes;
      keyed = one.keyed;
      keyed_once = one.keyed_once;
      named_once = one.named_once;
      ends = queues_like rs (map (λ q. q.name) y.queues) (map (λ q. q.name) qs) y.ends names one.ends;
      regions_in = one.regions_in;
      ends_in = one.ends_in;
      regions_end = one.regions_end;
    } in
    connected_sound keys (record y { regions = rs; queues = qs }) n none f found named' domain end two

module _ (w : World) (m : Machine) (o : ObjName) (l : Link) (n : ℕ) (d : Packet) (s : Stands w m) (live : is_live w o.context ≡ true) (linked : (delivered.end_there w o).link ≡ Some l) (at : IsRequestAt w m o l n d) where
  abbrev c : state.Context
  c = delivered.context_there w o

  abbrev y : Context
  y = machine.context_of m o.context

  abbrev q : ObjName
  q = asker m o

  pub lands : (m1 m' : Machine) (r' : Receiver) (acted into : ℕ) (answers : List Reply) (offers : List Offered) (dry : List ℕ) (rs : List Region) (qs : List CompletionQueue) (e' : state.End) (f' : End) →
      MachineChanged m m1 q.context (context_with m q (moved_on (machine.end_of m q) acted into answers offers dry)) → MachineChanged m1 m' o.context (with_parts y rs o.name f' qs) → m'.numbers ≡ m.numbers → m'.keys ≡ m.keys →
      AreLike (regions_of m o.context) rs → All IsWhole rs → All (λ r. All (λ b. b < 256) r.bytes) rs → map (λ z. z.name) qs ≡ map (λ z. z.name) y.queues →
      e'.name ≡ o.name → e'.link ≡ Some (got l r') → owned_there e' ≡ owned f' → requests_of f' ≡ requests_of (machine.end_of m o) →
      IsEndSound rs (map (λ z. z.name) qs) f' →
      IsEndSound (regions_of m q.context) (map (λ z. z.name) (machine.context_of m q.context).queues) (moved_on (machine.end_of m q) acted into answers offers dry) →
      IsAdvance (asking m o) acted into answers offers dry (link_of w q).sender.top r' →
      IsProgress (moved_on (asking m o) acted into answers offers dry) (machine.end_of m o).domain (regions_of m o.context) r'.progress →
      IsRespond w m m' o l r' (there_with c rs o.name e' qs) (with_parts y rs o.name f' qs) f' acted into answers offers dry
  unfolding machine.end_of owned_there owned
  lands m1 m' r' acted into answers offers dry rs qs e' f' first second numbers keys like whole said names named' link both requests end peer advance progress =
      let name : f'.name ≡ o.name = ap (λ z. z.name) (sym both) ∙ named' in
      record {
        end = e';
        named = live_name w o.context live;
        ends = refl;
        end_name = named';
        link = link;
        between = m1;
        first = first;
        second = second;
        numbers = numbers;
        keys = keys;
        machine_ends = refl;
        requests = requests;
        same = record {
          domains = (same_here w m o l n d s live linked at).domains;
          regions = refl;
          queues = refl;
          ends = ends_store o.name e' f' c.ends y.ends (same_here w m o l n d s live linked at).ends both;
        };
        sound = parts_sound m.keys y rs o.name f' (nobody o) qs (o_in w m o l n d s live linked at) name like whole said names (ap (λ z. has_word z.domain y.domains) requests ∙ domain_there m o (o_in w m o l n d s live linked at) (s.sound o.context)) end (s.sound o.context);
        peer_sound = peer;
        advance = advance;
        progress = subst (λ k. IsProgress (moved_on (asking m o) acted into answers offers dry) k rs r'.progress) (sym (ap (λ z. z.domain) requests)) (like_progress (moved_on (asking m o) acted into answers offers dry) (machine.end_of m o).domain (regions_of m o.context) rs r'.progress like progress);
        progress_others = λ z domain p h. like_progress z domain (regions_of m o.context) rs p like h;
      }
