-- Isolation in each run of a world: the machine follows it.
use Rattle.std.proofs.Common.{◌≡◌, ◌⊎◌, ℕ, List, [], ◌∷◌, map, true, false, Bool, refl, sym, ap, ◌∙◌, subst, inl, inr}
use Rattle.std.specs.Prelude.{All, Some, None, if◌then◌else◌, slice_get}
use Rattle.std.proofs.lemmas.List.Elements.{All-append, All-cons, All-head, All-nil, All-tail}
use Rattle.rdma_types.specs.declared.names.ObjName.{ObjName}
use Rattle.rdma_types.specs.declared.verbs.Verb.{Verb}
use Rattle.rdma_types.specs.declared.verbs.Verb.TheVariants as verbs
use Rattle.rdma_types.specs.declared.answers.Answer.{Answer}
use Rattle.rdma_types.specs.Lists.{named}
use Rattle.rdma_types.specs.Objects.{no_queue, no_region}
use Rattle.protocol.specs.declared.events.Event.{Event}
use Rattle.protocol.specs.declared.events.Event.TheVariants as events
use Rattle.protocol.specs.declared.events.WorldEvent.{WorldEvent}
use Rattle.protocol.specs.declared.events.WorldEvent.TheVariants as world_events
use Rattle.protocol.specs.State.{World, empty_world, no_end}
use Rattle.protocol.specs.WorldStep.{world_after, world_step}
use Rattle.packetless_machine.specs.declared.steps.MachineStep.{MachineStep}
use Rattle.packetless_machine.specs.declared.steps.MachineStep.TheVariants as steps
use Rattle.packetless_machine.specs.Machine.{Machine, context_of, empty, end_of, nobody, queue_of}
use Rattle.packetless_machine.specs.Steps.{untold}
use Rattle.packetless_machine.specs.Verbs.{region_of}
use Rattle.packetless_machine.specs.Legal.{IsRun, after, effect, seen}
use Rattle.law_simulation.specs.Kept.{is_unmade, kept_of, kept_verb, verb_in, verb_of}
use Rattle.law_simulation.specs.Law.{IsEventInRange, IsInRange, kept}
use Rattle.law_simulation.specs.Named.{EventsFollowByName, FollowsByName, RunFollowsByName, RunsFollowByName, event_steps, run_steps}
use Rattle.law_simulation.specs.Stands.{Stands}
use Rattle.law_simulation.specs.Views as views
use Rattle.law_simulation.specs.Views.{link_or_none, owned, owned_there, receive_in}
use Rattle.law_simulation.proofs.relation.Tables.{named-map}
use Rattle.law_machine_runs.specs.Changes.{Byte, Domains, IsSame, Pair, Plan, Queue, Thing, plan_of}
use Rattle.law_machine_runs.specs.Isolation.{IsOfWord, IsSameThere, SomeMayChange, WorldsAreIsolated, queue_there, region_there}
use Rattle.law_machine_runs.proofs.Law.{IsTidy, step_isolated, tidy_after, tidy_run}

-- ---- an atomic that is posted in a world is of one word

abbrev IsVerbOfWord : Verb × Answer → Type 0
IsVerbOfWord x = IsOfWord (steps.Verb x.0 0)

of_word : (v : Verb) (given other : ℕ) → IsOfWord (steps.Verb v given) → IsOfWord (steps.Verb v other)
of_word (verbs.Context name made) given other h = tt
of_word (verbs.Connect one two terms) given other h = tt
of_word (verbs.MakeDomain name) given other h = tt
of_word (verbs.MakeRegion name domain base count rights) given other h = tt
of_word (verbs.MakeCq name capacity) given other h = tt
of_word (verbs.MakeQp name domain send_cq recv_cq send_depth recv_depth) given other h = tt
of_word (verbs.DropRegion name) given other h = tt
of_word (verbs.Store name address bytes) given other h = tt
of_word (verbs.Load name address count) given other h = tt
of_word (verbs.PostSend name request) given other h = h
of_word (verbs.PostRecv name receive) given other h = tt
of_word (verbs.Poll name max) given other h = tt

-- what is heard of a run has all its verbs
words_heard : (m : Machine) (ss : List MachineStep) → All IsVerbOfWord (seen m ss) → All IsOfWord ss
words_heard m [] h = All-nil IsOfWord
words_heard m (steps.Verb v given ∷ ss) h =
    All-cons IsOfWord (steps.Verb v given) ss (of_word v 0 given (All-head IsVerbOfWord _ (seen (effect m (steps.Verb v given)) ss) h)) (words_heard (effect m (steps.Verb v given)) ss (All-tail IsVerbOfWord _ (seen (effect m (steps.Verb v given)) ss) h))
words_heard m (steps.Run q n ∷ ss) h = All-cons IsOfWord (steps.Run q n) ss tt (words_heard (effect m (steps.Run q n)) ss h)
words_heard m (steps.Atom q ∷ ss) h = All-cons IsOfWord (steps.Atom q) ss tt (words_heard (effect m (steps.Atom q)) ss h)
words_heard m (steps.ReadTurn q ∷ ss) h = All-cons IsOfWord (steps.ReadTurn q) ss tt (words_heard (effect m (steps.ReadTurn q)) ss h)
words_heard m (steps.Refuse q why ∷ ss) h = All-cons IsOfWord (steps.Refuse q why) ss tt (words_heard (effect m (steps.Refuse q why)) ss h)
words_heard m (steps.Dry q ∷ ss) h = All-cons IsOfWord (steps.Dry q) ss tt (words_heard (effect m (steps.Dry q)) ss h)
words_heard m (steps.Offer q i off n ∷ ss) h = All-cons IsOfWord (steps.Offer q i off n) ss tt (words_heard (effect m (steps.Offer q i off n)) ss h)
words_heard m (steps.Land q i ∷ ss) h = All-cons IsOfWord (steps.Land q i) ss tt (words_heard (effect m (steps.Land q i)) ss h)
words_heard m (steps.Known q bytes ∷ ss) h = All-cons IsOfWord (steps.Known q bytes) ss tt (words_heard (effect m (steps.Known q bytes)) ss h)
words_heard m (steps.Tell q ∷ ss) h = All-cons IsOfWord (steps.Tell q) ss tt (words_heard (effect m (steps.Tell q)) ss h)
words_heard m (steps.Expire q ∷ ss) h = All-cons IsOfWord (steps.Expire q) ss tt (words_heard (effect m (steps.Expire q)) ss h)
words_heard m (steps.Wait q ∷ ss) h = All-cons IsOfWord (steps.Wait q) ss tt (words_heard (effect m (steps.Wait q)) ss h)
words_heard m (steps.Bounce q ∷ ss) h = All-cons IsOfWord (steps.Bounce q) ss tt (words_heard (effect m (steps.Bounce q)) ss h)

said : (v : Verb) (a : Answer) → IsVerbOfWord (v, a) → All IsVerbOfWord (kept_verb (Some v) a)
unfolding kept_verb
said v a h = by (is_unmade a)
  where
    by : (b : Bool) → All IsVerbOfWord (if b then [] else (v, a) ∷ [])
    by true = All-nil IsVerbOfWord
    by false = All-cons IsVerbOfWord (v, a) [] h (All-nil IsVerbOfWord)

unsaid : (a : Answer) → All IsVerbOfWord (kept_verb None a)
unfolding kept_verb
unsaid a = All-nil IsVerbOfWord

event_words : (e : Event) (a : Answer) → IsEventInRange e → All IsVerbOfWord (kept_verb (verb_in e) a)
unfolding verb_in
event_words (events.MakeDomain name) a h = said (verbs.MakeDomain name) a tt
event_words (events.MakeRegion name domain base count rights) a h = said (verbs.MakeRegion name domain base count rights) a tt
event_words (events.MakeCq name capacity) a h = said (verbs.MakeCq name capacity) a tt
event_words (events.MakeQp name domain send_cq recv_cq send_depth recv_depth) a h = said (verbs.MakeQp name domain send_cq recv_cq send_depth recv_depth) a tt
event_words (events.DropRegion name) a h = said (verbs.DropRegion name) a tt
event_words (events.Store region address bytes) a h = said (verbs.Store region address bytes) a tt
event_words (events.Load region address count) a h = said (verbs.Load region address count) a tt
event_words (events.PostSend o r) a h = said (verbs.PostSend o r) a h.word
event_words (events.PostRecv o v) a h = said (verbs.PostRecv o v) a tt
event_words (events.Poll cq max) a h = said (verbs.Poll cq max) a tt
event_words (events.MakeContext name) a h = unsaid a
event_words (events.Connect end peer partner terms) a h = unsaid a
event_words (events.Transmit o) a h = unsaid a
event_words (events.Arrive from bytes) a h = unsaid a
event_words (events.Expire o) a h = unsaid a
event_words (events.RnrOver o) a h = unsaid a
event_words (events.Stop context alone) a h = unsaid a
event_words (events.Restore image) a h = unsaid a
event_words (events.Release context) a h = unsaid a

world_words : (w : World) (e : WorldEvent) (a : Answer) → IsInRange e → All IsVerbOfWord (kept_of w e a)
unfolding verb_of
world_words w (world_events.MakeContext name device) a h = said _ a tt
world_words w (world_events.At event) a h = event_words event a h
world_words w (world_events.Connect one two terms) a h = said (verbs.Connect one two terms) a tt
world_words w (world_events.AddDevice id address) a h = unsaid a
world_words w (world_events.Deliver k) a h = unsaid a
world_words w (world_events.Lose k) a h = unsaid a
world_words w (world_events.Wire k) a h = unsaid a
world_words w (world_events.Stop name) a h = unsaid a
world_words w (world_events.Restore name device) a h = unsaid a
world_words w (world_events.Release name device) a h = unsaid a

kept_words : (w : World) (es : List WorldEvent) → All IsInRange es → All IsVerbOfWord (kept w es)
kept_words w [] h = All-nil IsVerbOfWord
kept_words w (e ∷ es) h =
    All-append IsVerbOfWord (kept_of w e (world_step w e).answer) (kept (world_step w e).world es) (world_words w e (world_step w e).answer (All-head IsInRange e es h)) (kept_words (world_step w e).world es (All-tail IsInRange e es h))

-- ---- several steps

same_then : (a b c : Machine) (t : Thing) → IsSame a b t → IsSame b c t → IsSame a c t
same_then a b c (Byte o k) h g = g ∙ h
same_then a b c (Plan o) h g = g ∙ h
same_then a b c (Queue o) h g = g ∙ h
same_then a b c (Pair o) h g = g ∙ h
same_then a b c (Domains n) h g = g ∙ h

same_self : (a : Machine) (t : Thing) → IsSame a a t
same_self a (Byte o k) = refl
same_self a (Plan o) = refl
same_self a (Queue o) = refl
same_self a (Pair o) = refl
same_self a (Domains n) = refl

steps_may : (m : Machine) (ss : List MachineStep) → All IsOfWord ss → IsRun m ss → IsTidy m → (t : Thing) → IsSame m (after m ss) t ⊎ SomeMayChange m ss t
steps_may m [] words run tidy t = inl (same_self m t)
steps_may m (s ∷ ss) words run tidy t = elim (step_isolated m s run.0 tidy t) [
  | inr may ↦ inr (inl may)
  | inl same ↦ elim (steps_may (effect m s) ss (All-tail IsOfWord s ss words) run.1 (tidy_run m (s ∷ []) (All-cons IsOfWord s [] (All-head IsOfWord s ss words) (All-nil IsOfWord)) (run.0, tt) tidy) t) [
    | inl later ↦ inl (same_then m (effect m s) (after (effect m s) ss) t same later)
    | inr may ↦ inr (inr may)
  ]
]

-- ---- a thing of a world is that of the machine

no_pair : (o : ObjName) → owned_there (record no_end { name = o.name }) ≡ owned (nobody o)
unfolding owned_there owned link_or_none receive_in untold
no_pair o = refl

pair_there : (w : World) (m : Machine) → Stands w m → (o : ObjName) → owned_there (views.end_of w o) ≡ owned (end_of m o)
unfolding views.end_of end_of owned_there owned
pair_there w m s o =
    sym (named-map owned_there (λ z. z.name) (λ z. z.name) (record no_end { name = o.name }) o.name (views.context_of w o.context).ends (λ z. refl))
    ∙ (ap (λ none. named (λ z. z.name) none o.name (map owned_there (views.context_of w o.context).ends)) (no_pair o)
    ∙ (ap (named (λ z. z.name) (owned (nobody o)) o.name) (s.same o.context).ends
    ∙ named-map owned (λ z. z.name) (λ z. z.name) (nobody o) o.name (context_of m o.context).ends (λ z. refl)))

region_is : (w : World) (m : Machine) → Stands w m → (o : ObjName) → region_there w o ≡ region_of m o
unfolding region_of
region_is w m s o = ap (named (λ z. z.name) no_region o.name) (s.same o.context).regions

queue_is : (w : World) (m : Machine) → Stands w m → (o : ObjName) → queue_there w o ≡ queue_of m o.context o.name
unfolding queue_of
queue_is w m s o = ap (named (λ z. z.name) no_queue o.name) (s.same o.context).queues

there_same : (w w' : World) (m m' : Machine) → Stands w m → Stands w' m' → (t : Thing) → IsSame m m' t → IsSameThere w w' t
there_same w w' m m' s s' (Byte o k) h = ap (λ r. slice_get r.bytes k) (region_is w' m' s' o) ∙ (h ∙ sym (ap (λ r. slice_get r.bytes k) (region_is w m s o)))
there_same w w' m m' s s' (Plan o) h = ap plan_of (region_is w' m' s' o) ∙ (h ∙ sym (ap plan_of (region_is w m s o)))
there_same w w' m m' s s' (Queue o) h = queue_is w' m' s' o ∙ (h ∙ sym (queue_is w m s o))
there_same w w' m m' s s' (Pair o) h = pair_there w' m' s' o ∙ (ap owned h ∙ sym (pair_there w m s o))
there_same w w' m m' s s' (Domains c) h = (s'.same c).domains ∙ (h ∙ sym (s.same c).domains)

-- ---- the law

pub worlds_isolated : Stands empty_world empty → EventsFollowByName → RunsFollowByName → WorldsAreIsolated
worlds_isolated start events runs es e ranges range t =
    let w : World = world_after empty_world es in
    let m : Machine = after empty (run_steps empty_world empty es) in
    let run : RunFollowsByName empty_world empty es = runs empty_world empty es ranges start in
    let words : All IsOfWord (run_steps empty_world empty es) = words_heard empty (run_steps empty_world empty es) (subst (All IsVerbOfWord) (sym run.heard) (kept_words empty_world es ranges)) in
    let tidy : IsTidy m = tidy_after (run_steps empty_world empty es) words run.is_run in
    let next : FollowsByName w m e = events e w m range run.stands in
    let more : All IsOfWord (event_steps w m e) = words_heard m (event_steps w m e) (subst (All IsVerbOfWord) (sym next.heard) (world_words w e (world_step w e).answer range)) in
    elim (steps_may m (event_steps w m e) more next.is_run tidy t) [
      | inl same ↦ inl (there_same w (world_step w e).world m (after m (event_steps w m e)) run.stands next.stands t same)
      | inr may ↦ inr may
    ]
