-- What is sound stays sound where regions, queues and ends of a context change.
use Rattle.std.proofs.Common.{arith, ◌≡◌, ◌<◌, ◌≤◌, inl, length, ℕ, List, [], ◌∷◌, ◌++◌, map, true, false, Bool, refl, sym, ap, ◌∙◌, subst}
use Rattle.std.specs.Prelude.{◌||◌, All, option_to_list}
use Rattle.std.proofs.lemmas.List.Elements.{All-nil, All-push, All-weaker}
use Rattle.std.proofs.lemmas.List.{append_assoc, length_push, map-append}
use Rattle.rdma_types.specs.declared.names.Name.{Name}
use Rattle.rdma_types.specs.declared.names.ObjName.{ObjName}
use Rattle.rdma_types.specs.Limits.{most_depth}
use Rattle.rdma_types.specs.Lists.{has_name, has_word}
use Rattle.rdma_types.specs.Objects.{CompletionQueue, Region}
use Rattle.rdma_types.specs.Kinds.{kind_of, size_of}
use Rattle.rdma_types.specs.Memory.{LocalWrite, Right, is_granted, landing_right, local_key}
use Rattle.packetless_machine.specs.Machine.{End, new_end, untold_count}
use Rattle.rdma_types.specs.declared.requests.Receive.{Receive}
use Rattle.packetless_machine.specs.Steps.{in_place, untold, receives_of}
use Rattle.law_simulation.specs.Stands.{IsEndSound}
use Rattle.law_simulation.proofs.relation.SoundEnds.{sound_still}
use Rattle.law_simulation.proofs.relation.Tables.{has_name-map, has_name-push}

-- ---- queues

end_queues : (regions : List Region) (names names' : List Name) → ((q : Name) → has_word q names ≡ true → has_word q names' ≡ true) → (e : End) → IsEndSound regions names e → IsEndSound regions names' e
end_queues regions names names' more e s = record {
  sound = s.sound;
  made = s.made;
  depth = s.depth;
  send_queue = more e.send_queue s.send_queue;
  receive_queue = more e.receive_queue s.receive_queue;
  requests = s.requests;
  receives = s.receives;
}

or_left : (a b : Bool) → a ≡ true → (a || b) ≡ true
or_left true b h = refl
or_left false b h = absurd (cc)

pub queues_more : (regions : List Region) (queues : List CompletionQueue) (q : CompletionQueue) (es : List End) → All (IsEndSound regions (map (λ q. q.name) queues)) es → All (IsEndSound regions (map (λ q. q.name) (queues ++ q ∷ []))) es
queues_more regions queues q es all =
    All-weaker (IsEndSound regions (map (λ q. q.name) queues)) (IsEndSound regions (map (λ q. q.name) (queues ++ q ∷ [])))
    (end_queues regions (map (λ q. q.name) queues) (map (λ q. q.name) (queues ++ q ∷ []))
    (λ n h. ap (has_word n) (map-append (λ x. x.name) queues (q ∷ [])) ∙ (has_name-push (λ x. x) n (map (λ x. x.name) queues) q.name ∙ or_left _ _ h)))
    es all

-- ---- regions

-- what is granted stays granted
pub end_regions : (regions regions' : List Region) (names : List Name) → ((domain : Name) (key place count : ℕ) (right : Right) → is_granted local_key regions domain key place count right ≡ true → is_granted local_key regions' domain key place count right ≡ true) → (e : End) → IsEndSound regions names e → IsEndSound regions' names e
end_regions regions regions' names more e s = record {
  sound = s.sound;
  made = s.made;
  depth = s.depth;
  send_queue = s.send_queue;
  receive_queue = s.receive_queue;
  requests = All-weaker
      (λ r. is_granted local_key regions e.domain r.request.lkey r.request.local (size_of r) (landing_right (kind_of r)) ≡ true)
      (λ r. is_granted local_key regions' e.domain r.request.lkey r.request.local (size_of r) (landing_right (kind_of r)) ≡ true)
      (λ r h. more e.domain r.request.lkey r.request.local (size_of r) (landing_right (kind_of r)) h) (untold e) s.requests;
  receives = All-weaker
      (λ v. is_granted local_key regions e.domain v.lkey v.local v.length LocalWrite ≡ true)
      (λ v. is_granted local_key regions' e.domain v.lkey v.local v.length LocalWrite ≡ true)
      (λ v h. more e.domain v.lkey v.local v.length LocalWrite h) (receives_of e) s.receives;
}

pub ends_regions : (regions regions' : List Region) (names : List Name) (es : List End) → ((domain : Name) (key place count : ℕ) (right : Right) → is_granted local_key regions domain key place count right ≡ true → is_granted local_key regions' domain key place count right ≡ true) → All (IsEndSound regions names) es → All (IsEndSound regions' names) es
ends_regions regions regions' names es more all = All-weaker (IsEndSound regions names) (IsEndSound regions' names) (end_regions regions regions' names more) es all

pub queues_like : (regions : List Region) (names names' : List Name) (es : List End) → names' ≡ names → All (IsEndSound regions names) es → All (IsEndSound regions names') es
queues_like regions names names' es same all = subst (λ ns. All (IsEndSound regions ns) es) (sym same) all

-- ---- ends

-- one more unused receive, whose place is granted
pub receiving_sound : (regions : List Region) (names : List Name) (e : End) (v : Receive) → length e.unused < e.receive_depth → is_granted local_key regions e.domain v.lkey v.local v.length LocalWrite ≡ true → IsEndSound regions names e → IsEndSound regions names (record e { unused = e.unused ++ v ∷ [] })
unfolding in_place untold untold_count
receiving_sound regions names e v room granted s = record {
  sound = sound_still e (record e { unused = e.unused ++ v ∷ [] }) s.sound.offers (omega (arith, room, length_push e.unused v)) s.sound;
  made = s.made;
  depth = s.depth;
  send_queue = s.send_queue;
  receive_queue = s.receive_queue;
  requests = s.requests;
  receives = subst (All (λ x. is_granted local_key regions e.domain x.lkey x.local x.length LocalWrite ≡ true)) (append_assoc (option_to_list e.in_use) e.unused (v ∷ []))
      (All-push (λ x. is_granted local_key regions e.domain x.lkey x.local x.length LocalWrite ≡ true) (receives_of e) v s.receives granted);
}

-- a queue that an end names is there
pub queue_there : (q : Name) (queues : List CompletionQueue) → has_word q (map (λ x. x.name) queues) ≡ true → has_name (λ x. x.name) q queues ≡ true
queue_there q queues h = sym (has_name-map (λ (x : CompletionQueue). x.name) (λ x. x) (λ x. x.name) q queues (λ x. refl)) ∙ h

-- an end as it is made
pub new_sound : (regions : List Region) (names : List Name) (o : ObjName) (number : ℕ) (domain send_queue receive_queue : Name) (send_depth receive_depth : ℕ) → send_depth ≤ most_depth → has_word send_queue names ≡ true → has_word receive_queue names ≡ true → IsEndSound regions names (new_end o number domain send_queue receive_queue send_depth receive_depth)
unfolding in_place untold untold_count
new_sound regions names o number domain send_queue receive_queue send_depth receive_depth few sends receives = record {
  sound = record {
    acted_posted = omega arith;
    told_posted = omega arith;
    told_acted = λ h. omega arith;
    over = λ h. refl;
    unfinished = inl refl;
    whole_turns = λ h. refl;
    known_there = λ h l. omega arith;
    known_within = omega arith;
    unlanded = λ h e. refl;
    whole_atomics = λ h. refl;
    replies = λ i h. absurd (omega arith);
    answered = inl refl;
    offers = All-nil _;
    sizes = λ i h. absurd (omega arith);
    depth = omega arith;
    receive_depth = omega arith;
  };
  made = λ h. refl;
  depth = few;
  send_queue = sends;
  receive_queue = receives;
  requests = All-nil _;
  receives = All-nil _;
}
