-- What a Write or Send leaves at its responder: its receives, its completions and its soundness.
use Rattle.std.proofs.Common.{arith, ◌≡◌, ◌≤◌, List, [], ◌∷◌, ◌++◌, map, length, true, ap, ◌∙◌}
use Rattle.std.specs.Prelude.{Option, All, drop, option_to_list}
use Rattle.std.proofs.lemmas.List.{append-nil}
use Rattle.std.proofs.lemmas.List.Elements.{All-drop, All-append, All-tail, All-head, All-cons}
use Rattle.rdma_types.specs.declared.names.Name.{Name}
use Rattle.rdma_types.specs.declared.requests.Completion.{Completion}
use Rattle.rdma_types.specs.declared.requests.Receive.{Receive}
use Rattle.rdma_types.specs.Lists.{has_name, store_named}
use Rattle.rdma_types.specs.Memory.{LocalWrite, is_granted, local_key}
use Rattle.rdma_types.specs.Objects.{CompletionQueue, Region, no_queue}
use Rattle.packetless_machine.specs.Machine.{End, completed, untold_count}
use Rattle.packetless_machine.specs.Steps.{in_place, untold, receives_of}
use Rattle.law_simulation.specs.Stands.{IsEndSound}
use Rattle.law_simulation.proofs.relation.SoundEnds.{sound_still}
use Rattle.law_simulation.proofs.relation.Tables.{replaced-stored}
use Rattle.law_simulation.proofs.relation.Ends.{with_more, queue_in, with_more_names}
use Rattle.law_simulation.proofs.delivery.Arriving.{stored_again}

-- ---- completions

pub completed_is : (q : Name) (more : List Completion) (queues : List CompletionQueue) → has_name (λ z. z.name) q queues ≡ true → completed q more queues ≡ with_more queues q more
unfolding completed
completed_is q more queues there = replaced-stored (λ z. z.name) q _ queues there

pub completed_none : (q : Name) (queues : List CompletionQueue) → has_name (λ z. z.name) q queues ≡ true → completed q [] queues ≡ queues
completed_none q queues there =
    completed_is q [] queues there
    ∙ (ap (λ es. store_named (λ z. z.name) q (record (queue_in queues q) { entries = es }) queues) (append-nil (queue_in queues q).entries)
    ∙ stored_again (λ z. z.name) no_queue q queues there)

pub completed_names : (q : Name) (more : List Completion) (queues : List CompletionQueue) → has_name (λ z. z.name) q queues ≡ true → map (λ z. z.name) (completed q more queues) ≡ map (λ z. z.name) queues
completed_names q more queues there = ap (map (λ z. z.name)) (completed_is q more queues there) ∙ with_more_names queues q more there

-- ---- an end that uses receives

All-before : {A : Type 0} (P : A → Type 0) (xs ys : List A) → All P (xs ++ ys) → All P xs
All-before P [] ys all = λ k d h. absurd (omega (arith, h))
All-before P (x ∷ xs) ys all = All-cons P x xs (All-head P x (xs ++ ys) all) (All-before P xs ys (All-tail P x (xs ++ ys) all))

All-after : {A : Type 0} (P : A → Type 0) (xs ys : List A) → All P (xs ++ ys) → All P ys
All-after P [] ys all = all
All-after P (x ∷ xs) ys all = All-after P xs ys (All-tail P x (xs ++ ys) all)

abbrev pub IsLocalPlace : List Region → Name → Receive → Type 0
IsLocalPlace regions domain v = is_granted local_key regions domain v.lkey v.local v.length LocalWrite ≡ true

-- other receives, of those that it has
pub receives_sound : (regions : List Region) (names : List Name) (e : End) (used : Option Receive) (unused : List Receive) → e.connected ≡ true → length unused ≤ length e.unused → All (IsLocalPlace regions e.domain) (option_to_list used ++ unused) → IsEndSound regions names e → IsEndSound regions names (record e { in_use = used; unused = unused })
unfolding in_place untold untold_count
receives_sound regions names e used unused connected fewer places s = record {
  sound = sound_still e (record e { in_use = used; unused = unused }) s.sound.offers (omega (arith, fewer, s.sound.receive_depth)) s.sound;
  made = λ h. absurd (cc (connected, h));
  depth = s.depth;
  send_queue = s.send_queue;
  receive_queue = s.receive_queue;
  requests = s.requests;
  receives = places;
}

-- one of the unused ones is gone
pub fewer_places : (regions : List Region) (e : End) → All (IsLocalPlace regions e.domain) (receives_of e) → All (IsLocalPlace regions e.domain) (option_to_list e.in_use ++ drop 1 e.unused)
fewer_places regions e all = All-append (IsLocalPlace regions e.domain) (option_to_list e.in_use) (drop 1 e.unused) (All-before (IsLocalPlace regions e.domain) (option_to_list e.in_use) e.unused all) (All-drop (IsLocalPlace regions e.domain) 1 e.unused (All-after (IsLocalPlace regions e.domain) (option_to_list e.in_use) e.unused all))
