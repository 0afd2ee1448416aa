-- A datagram reaches a connected end.
use Rattle.std.proofs.Common.{arith, ◌≡◌, ◌∙◌, ℕ, List, [], ◌∷◌, map, true, false, refl, sym, ap, subst, inl, inr, ◌≢◌}
use Rattle.std.proofs.lemmas.Bool.{true≢false}
use Rattle.std.specs.Prelude.{AllPairs, ◌⊎◌, bytes_eq, Option, Some, None, is_none, slice_get, Result, Ok, Err, OnErr, IfOk, IfSome, IfNone}
use Rattle.std.specs.declared.alloc.AllocError.{AllocError}
use Rattle.std.specs.Map.{lookup, set_value}
use Rattle.std.proofs.lemmas.Map.Steps.{set_value_same}
use Rattle.rdma_types.specs.Causes.{first_cause}
use Rattle.rdma_types.specs.declared.answers.ArrivalEffect.{ArrivalEffect}
use Rattle.rdma_types.specs.declared.answers.DropReason.TheVariants as why
use Rattle.rdma_types.specs.declared.answers.Sent.{Sent}
use Rattle.rdma_types.specs.declared.names.Name.{Name}
use Rattle.rdma_types.specs.declared.requests.Address.{Address}
use Rattle.page_pool.specs.Pool.{Pool}
use Rattle.protocol.specs.declared.events.Event.TheVariants as event
use Rattle.protocol.specs.DeviceStep.{Step, arrives, arrives_packet, device_step, at_found, at_husk, ended_step, found_in, found_link, husk_entries, with_context}
use Rattle.protocol.specs.EndStep.{takes}
use Rattle.protocol.specs.Refusals.{causes_of, has_context, has_husk}
use Rattle.protocol.specs.State.{Context, Device, End, HuskEntry as Entry, Link, context_at}
use Rattle.protocol.specs.Wire.{Packet, is_control, packet_of}
use Rattle.context_core.specs.declared.arriving.ArrivalOutcome.{ArrivalOutcome}
use Rattle.context_core.specs.Context.{Holding, context_in}
use Rattle.context_core.specs.Links.{link_at, link_by}
use Rattle.device_core.specs.declared.husks.HuskEntry.{HuskEntry}
use Rattle.device_core.specs.declared.index.EndLocation.{EndLocation}
use Rattle.device_core.specs.Done.{IsDone, silent, taking, told_arrival, told_memory, told_taken}
use Rattle.device_core.specs.Held.{IsHeld}
use Rattle.device_core.specs.Index.{IsEndAt, IsEntryAt, IsIndex, husk_at}
use Rattle.device_core.specs.Parts.{device_of}
use Rattle.device_core.proofs.Dones.{step-done}
use Rattle.device_core.proofs.FoundEnds.{found-live, found-none, left-none, left-one}
use Rattle.device_core.proofs.Helds.{context-is, view-is}
use Rattle.device_core.specs.Acting.{Turn}
use Rattle.device_core.proofs.Stepping.{Stepped, kept}

-- what a datagram did, with the answer that is in a draft
abbrev pub taken_with : List Sent → Result (Option ArrivalEffect) AllocError → Result (Option ArrivalOutcome) AllocError
taken_with draft (Ok None) = Ok None
taken_with draft (Ok (Some t)) = Ok (Some (record { took = t; sent = draft }))
taken_with draft (Err e) = Err e

-- what bytes do is what their packet does
pub arrives-packet : (d : Device) (from : Address) (bytes : List ℕ) (p : Packet) → packet_of bytes ≡ Some p → (x : Step) → at_found d from p (found_in p.dest d.contexts) ≡ x → device_step d (event.Arrive from bytes) ≡ x
unfolding arrives first_cause
arrives-packet d from bytes p is x found = step-done d (event.Arrive from bytes) refl ∙ (ap (arrives_packet d from) is ∙ found)

pub arrives-nothing : (d : Device) (from : Address) (bytes : List ℕ) → packet_of bytes ≡ None → device_step d (event.Arrive from bytes) ≡ record { device = d; outcome = silent why.Malformed }
unfolding arrives first_cause
arrives-nothing d from bytes is = step-done d (event.Arrive from bytes) refl ∙ ap (arrives_packet d from) is

-- a number that is nowhere
pub found-nowhere : (d : Device) (from : Address) (p : Packet) → found_in p.dest d.contexts ≡ [] → husk_entries p.dest d.husks ≡ [] → at_found d from p (found_in p.dest d.contexts) ≡ record { device = d; outcome = silent why.Unknown }
found-nowhere d from p none left = ap (at_found d from p) none ∙ ap (at_husk d from p) left

-- an end or an entry, by whether the context lives
pub lives-there : (d : Device) (n : Name) (place k : ℕ) → has_context d n ≡ true → (has_context d n ≡ true → has_husk d n ≡ false) → IsEndAt d n place k ⊎ IsEntryAt d n place k → IsEndAt d n place k
lives-there d n place k lives either (inl e) = e
lives-there d n place k lives either (inr e) = absurd (true≢false (sym e.stays ∙ either lives))

pub stays-there : (d : Device) (n : Name) (place k : ℕ) → has_context d n ≡ false → IsEndAt d n place k ⊎ IsEntryAt d n place k → IsEntryAt d n place k
stays-there d n place k gone (inl e) = absurd (true≢false (sym e.lives ∙ gone))
stays-there d n place k gone (inr e) = e

-- an arrival is not refused
not-refused : (d : Device) (from : Address) (bytes : List ℕ) → first_cause (causes_of d (event.Arrive from bytes)) ≡ None
unfolding first_cause
not-refused d from bytes = refl

-- a datagram reaches an entry of a husk
pub husk-arrived : (index : ℕ → Option EndLocation) (d : Device) → IsIndex index d → AllPairs (λ a b. a ≢ b) (map (λ c. c.name) d.contexts) → AllPairs (λ a b. a ≢ b) (map (λ h. h.name) d.husks)
    → (n : Name) (place : ℕ) (from : Address) (bytes : List ℕ) (p : Packet) → packet_of bytes ≡ Some p → IsEntryAt d n place p.dest → has_context d n ≡ false
    → (r : Result ArrivalOutcome AllocError) → IfOk r (λ t. (h : Entry) → slice_get (husk_at d n).entries place ≡ Some h → at_husk d from p (h ∷ []) ≡ record { device = d; outcome = taking t })
    → IsDone d (event.Arrive from bytes) d (told_memory (told_arrival r))
husk-arrived index d i names husk_names n place from bytes p is entry gone r done = by_result r done
  where
    by_result : (x : Result ArrivalOutcome AllocError) → IfOk x (λ t. (h : Entry) → slice_get (husk_at d n).entries place ≡ Some h → at_husk d from p (h ∷ []) ≡ record { device = d; outcome = taking t }) → IsDone d (event.Arrive from bytes) d (told_memory (told_arrival x))
    by_result (Err e) h = (refl, not-refused d from bytes)
    by_result (Ok t) h =
        arrives-packet d from bytes p is _
        (ap (at_found d from p) (found-none index d i names husk_names p.dest n place entry gone)
        ∙ (ap (at_husk d from p) (left-one index d i names husk_names p.dest n place entry) ∙ h entry.entry entry.there))

-- .. of a device that is the same
pub husk-arrived-at : (index : ℕ → Option EndLocation) (d d' : Device) → d ≡ d' → IsIndex index d → AllPairs (λ a b. a ≢ b) (map (λ c. c.name) d.contexts) → AllPairs (λ a b. a ≢ b) (map (λ h. h.name) d.husks)
    → (n : Name) (place : ℕ) (from : Address) (bytes : List ℕ) (p : Packet) → packet_of bytes ≡ Some p → IsEntryAt d' n place p.dest → has_context d' n ≡ false
    → (r : Result ArrivalOutcome AllocError) → IfOk r (λ t. (h : Entry) → slice_get (husk_at d' n).entries place ≡ Some h → at_husk d' from p (h ∷ []) ≡ record { device = d'; outcome = taking t })
    → IsDone d' (event.Arrive from bytes) d' (told_memory (told_arrival r))
husk-arrived-at index d d' same i names husk_names n place from bytes p is entry gone r done =
    husk-arrived index d' (subst (IsIndex index) same i) (subst (λ (x : Device). AllPairs (λ a b. a ≢ b) (map (λ c. c.name) x.contexts)) same names) (subst (λ (x : Device). AllPairs (λ a b. a ≢ b) (map (λ h. h.name) x.husks)) same husk_names) n place from bytes p is entry gone r done

-- a packet for nobody that reaches an entry of a husk is a message of moving
pub left-control : (index : ℕ → Option EndLocation) (d : Device) → IsIndex index d → AllPairs (λ a b. a ≢ b) (map (λ c. c.name) d.contexts) → AllPairs (λ a b. a ≢ b) (map (λ h. h.name) d.husks)
    → (n : Name) (place : ℕ) (p : Packet) → IsEntryAt d n place p.dest → (husk_entries p.dest d.husks ≡ []) ⊎ (is_control p ≡ true) → is_control p ≡ true
left-control index d i names husk_names n place p entry (inl none) = absurd (cc (left-one index d i names husk_names p.dest n place entry, none))
left-control index d i names husk_names n place p entry (inr control) = control

-- a number that no connected end has is at an end that is not connected
no-link : (c : Context) (e : End) (l : Option Link) → found_link c e l [] ≡ [] → l ≡ None
no-link c e None gone = refl
no-link c e (Some l) gone = absurd (cc gone)

pub found-unlinked : (id : ℕ) (address : Address) (qp key : ℕ) (pool : Pool) (es : List (Name × Holding)) (husks : List (Name × List HuskEntry)) (index : ℕ → Option EndLocation) → IsHeld pool es index (device_of id address qp key pool es husks)
    → (n : Name) (s : Holding) → lookup (bytes_eq n) es ≡ Some s → (place k : ℕ) → IsEndAt (device_of id address qp key pool es husks) n place k
    → found_in k (device_of id address qp key pool es husks).contexts ≡ [] → link_at (context_in pool n s) place ≡ None
found-unlinked id address qp key pool es husks index held n s found place k end gone =
    ap (λ (c : Context). link_at c place) (sym (context-is id address qp key pool es husks index held n s found))
    ∙ (ap link_by end.there
    ∙ no-link _ end.end end.end.link (sym (found-live index (device_of id address qp key pool es husks) held.indexed held.names held.husk_names k n place end) ∙ gone))

module _ (id : ℕ) (address : Address) (qp key : ℕ) (pool : Pool) (es : List (Name × Holding)) (husks : List (Name × List HuskEntry)) (index : ℕ → Option EndLocation) (held : IsHeld pool es index (device_of id address qp key pool es husks))
    (n : Name) (s : Holding) (found : lookup (bytes_eq n) es ≡ Some s) (pool' : Pool) (s' : Holding) (turn : Turn pool pool' n s s') (es' : List (Name × Holding)) (set : es' ≡ set_value (bytes_eq n) es s') (from : Address) (bytes : List ℕ) (p : Packet) (is : packet_of bytes ≡ Some p)
    (place : ℕ) (end : IsEndAt (device_of id address qp key pool es husks) n place p.dest) where
  -- it does what the end does, or nothing where the end is not connected
  taken-step : (told : Result ArrivalOutcome AllocError) (r : Result (Option ArrivalOutcome) AllocError) → told ≡ told_taken r
      → IfOk r (λ o. is_none o ≡ is_none (link_at (context_in pool n s) place))
      → ((e : End) (l : Link) → slice_get (context_in pool n s).ends place ≡ Some e → e.link ≡ Some l → IfOk r (λ o. IfSome o (λ t. takes (context_in pool n s) e l p ≡ record { context = context_in pool' n s'; took = t.took; sent = t.sent })))
      → IfOk r (λ o. IfNone o (s' ≡ s)) → IfOk r (λ o. IfNone o (pool' ≡ pool)) → OnErr r (s' ≡ s) → OnErr r (pool' ≡ pool)
      → IsDone (device_of id address qp key pool es husks) (event.Arrive from bytes) (device_of id address qp key pool' es' husks) (told_memory (told_arrival told))
  taken-step told r tells none took nothing nothing_pool err err_pool = subst (λ x. IsDone (device_of id address qp key pool es husks) (event.Arrive from bytes) (device_of id address qp key pool' es' husks) (told_memory (told_arrival x))) (sym tells) (by_result r none took nothing nothing_pool err err_pool end.end.link refl)
    where
      here : slice_get (context_in pool n s).ends place ≡ Some end.end
      here = ap (λ (c : Context). slice_get c.ends place) (sym (context-is id address qp key pool es husks index held n s found)) ∙ end.there

      ends : found_in p.dest (device_of id address qp key pool es husks).contexts ≡ found_link (context_at (device_of id address qp key pool es husks) n) end.end end.end.link []
      ends = found-live index (device_of id address qp key pool es husks) held.indexed held.names held.husk_names p.dest n place end

      new : device_of id address qp key pool' es' husks ≡ with_context (device_of id address qp key pool es husks) (context_in pool' n s')
      new = ap (λ xs. device_of id address qp key pool' xs husks) set ∙ view-is id address qp key pool es husks index held n s found pool' s' turn.moves qp key

      same : s' ≡ s → pool' ≡ pool → device_of id address qp key pool' es' husks ≡ device_of id address qp key pool es husks
      same a b = (λ i. device_of id address qp key (b i) ((set ∙ (ap (set_value (bytes_eq n) es) a ∙ set_value_same (bytes_eq n) es s found)) i) husks)

      unlinked : end.end.link ≡ None → at_found (device_of id address qp key pool es husks) from p (found_in p.dest (device_of id address qp key pool es husks).contexts) ≡ record { device = device_of id address qp key pool es husks; outcome = silent why.Unknown }
      unlinked none' = found-nowhere (device_of id address qp key pool es husks) from p (ends ∙ ap (λ l. found_link (context_at (device_of id address qp key pool es husks) n) end.end l []) none')
          (left-none index (device_of id address qp key pool es husks) held.indexed held.names held.husk_names p.dest n place end (held.either n end.lives))

      linked : (l : Link) (t : ArrivalOutcome) → end.end.link ≡ Some l → takes (context_in pool n s) end.end l p ≡ record { context = context_in pool' n s'; took = t.took; sent = t.sent } → at_found (device_of id address qp key pool es husks) from p (found_in p.dest (device_of id address qp key pool es husks).contexts) ≡ record { device = device_of id address qp key pool' es' husks; outcome = taking t }
      linked l t some took' =
          ap (at_found (device_of id address qp key pool es husks) from p) (ends ∙ ap (λ k. found_link (context_at (device_of id address qp key pool es husks) n) end.end k []) some)
          ∙ (ap (λ c. ended_step (device_of id address qp key pool es husks) (takes c end.end l p)) (context-is id address qp key pool es husks index held n s found)
          ∙ (ap (ended_step (device_of id address qp key pool es husks)) took'
          ∙ ap (λ k. record { device = k; outcome = taking t }) (sym new)))

      by_result : (x : Result (Option ArrivalOutcome) AllocError)
          → IfOk x (λ o. is_none o ≡ is_none (link_at (context_in pool n s) place))
          → ((e : End) (l : Link) → slice_get (context_in pool n s).ends place ≡ Some e → e.link ≡ Some l → IfOk x (λ o. IfSome o (λ t. takes (context_in pool n s) e l p ≡ record { context = context_in pool' n s'; took = t.took; sent = t.sent })))
          → IfOk x (λ o. IfNone o (s' ≡ s)) → IfOk x (λ o. IfNone o (pool' ≡ pool)) → OnErr x (s' ≡ s) → OnErr x (pool' ≡ pool)
          → (l : Option Link) → end.end.link ≡ l → IsDone (device_of id address qp key pool es husks) (event.Arrive from bytes) (device_of id address qp key pool' es' husks) (told_memory (told_arrival (told_taken x)))
      by_result (Err e) agree tk nt ntp er erp l at = (same er erp, not-refused (device_of id address qp key pool es husks) from bytes)
      by_result (Ok None) agree tk nt ntp er erp None at = arrives-packet (device_of id address qp key pool es husks) from bytes p is _ (unlinked at) ∙ ap (λ k. record { device = k; outcome = silent why.Unknown }) (sym (same nt ntp))
      by_result (Ok None) agree tk nt ntp er erp (Some l) at = absurd (cc (agree, ap (λ e. is_none (link_by e)) here, ap is_none at))
      by_result (Ok (Some t)) agree tk nt ntp er erp None at = absurd (cc (agree, ap (λ e. is_none (link_by e)) here, ap is_none at))
      by_result (Ok (Some t)) agree tk nt ntp er erp (Some l) at = arrives-packet (device_of id address qp key pool es husks) from bytes p is _ (linked l t at (tk end.end l here at))

  pub arrived : (told : Result ArrivalOutcome AllocError) (r : Result (Option ArrivalOutcome) AllocError) → told ≡ told_taken r
      → IfOk r (λ o. is_none o ≡ is_none (link_at (context_in pool n s) place))
      → ((e : End) (l : Link) → slice_get (context_in pool n s).ends place ≡ Some e → e.link ≡ Some l → IfOk r (λ o. IfSome o (λ t. takes (context_in pool n s) e l p ≡ record { context = context_in pool' n s'; took = t.took; sent = t.sent })))
      → IfOk r (λ o. IfNone o (s' ≡ s)) → IfOk r (λ o. IfNone o (pool' ≡ pool)) → OnErr r (s' ≡ s) → OnErr r (pool' ≡ pool)
      → Stepped (device_of id address qp key pool es husks) (event.Arrive from bytes) pool' es' index (device_of id address qp key pool' es' husks) (told_memory (told_arrival told))
  arrived told r tells none took nothing nothing_pool err err_pool =
      kept id address qp key pool es husks index held n s found pool' s' turn es' set qp key (omega arith) (event.Arrive from bytes) (told_memory (told_arrival told)) (taken-step told r tells none took nothing nothing_pool err err_pool)

  -- .. where its answer is in a draft
  pub arrived-into : (draft : List Sent) (r : Result (Option ArrivalEffect) AllocError)
      → IfOk r (λ o. is_none o ≡ is_none (link_at (context_in pool n s) place))
      → ((e : End) (l : Link) → slice_get (context_in pool n s).ends place ≡ Some e → e.link ≡ Some l → IfOk r (λ o. IfSome o (λ took. takes (context_in pool n s) e l p ≡ record { context = context_in pool' n s'; took = took; sent = draft })))
      → IfOk r (λ o. IfNone o (s' ≡ s)) → IfOk r (λ o. IfNone o (pool' ≡ pool)) → OnErr r (s' ≡ s) → OnErr r (pool' ≡ pool)
      → Stepped (device_of id address qp key pool es husks) (event.Arrive from bytes) pool' es' index (device_of id address qp key pool' es' husks) (told_memory (told_arrival (told_taken (taken_with draft r))))
  arrived-into draft (Ok None) none took nothing nothing_pool err err_pool = arrived _ (Ok None) refl none (λ e l at some. tt) nothing nothing_pool err err_pool
  arrived-into draft (Ok (Some t)) none took nothing nothing_pool err err_pool = arrived _ (Ok (Some (record { took = t; sent = draft }))) refl none took nothing nothing_pool err err_pool
  arrived-into draft (Err e) none took nothing nothing_pool err err_pool = arrived _ (Err e) refl none (λ k l at some. tt) nothing nothing_pool err err_pool
