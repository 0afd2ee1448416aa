-- Why an event of a world is refused: its causes in the order of checking (this project's choice).
use Rattle.std.specs.Prelude.{ℕ, ◌||◌, not, false, List, [], ◌∷◌, length, nat_le, Option, Some, None, Result, Ok, Err, alloc_error}
use Rattle.std.specs.declared.alloc.AllocError.{AllocError}
use Rattle.rdma_types.specs.Causes.{Cause, cause, first_cause}
use Rattle.rdma_types.specs.Limits.{most_devices}
use Rattle.rdma_types.specs.Lists.{some}
use Rattle.rdma_types.specs.declared.answers.Answer.{Answer}
use Rattle.rdma_types.specs.declared.answers.Answer.TheVariants as answer
use Rattle.rdma_types.specs.declared.answers.Refusal.{Refusal}
use Rattle.rdma_types.specs.declared.answers.Refusal.TheVariants as refusal
use Rattle.rdma_types.specs.declared.names.Name.{Name}
use Rattle.rdma_types.specs.declared.requests.Address.{Address}
use Rattle.protocol.specs.declared.events.Event.TheVariants as event
use Rattle.protocol.specs.declared.events.WorldEvent.{WorldEvent}
use Rattle.protocol.specs.declared.events.WorldEvent.TheVariants as world_event
use Rattle.protocol.specs.declared.images.ContextImage.{ContextImage}
use Rattle.protocol.specs.Refusals.{refusal_of}
use Rattle.protocol.specs.State.{World, device_at}
use Rattle.protocol.specs.WorldStep.{carried_image, connect_causes, context_causes, context_of_event, has_device, home, is_carried, is_live, live_context, partner_moves, same_address}
use Rattle.rdma_types.specs.Lists.{has_word}

-- causes of adding a device
abbrev pub device_causes : World → ℕ → Address → List Cause
device_causes w id address =
    cause refusal.NumberTaken (has_device w id || some (λ d. same_address d.address address) w.devices)
    ∷ cause refusal.TooMany (nat_le most_devices (length w.devices))
    ∷ []

-- causes of making a context
abbrev pub make_causes : World → Name → ℕ → List Cause
make_causes w n k = cause refusal.NoSuch (not (has_device w k)) ∷ cause refusal.NumberTaken (is_live w n || is_carried w n) ∷ []

-- .. of stopping one
abbrev pub stop_causes : World → Name → List Cause
stop_causes w n = context_causes w n (cause refusal.PeerMoving (some (λ e. partner_moves w e.link) (live_context w n).ends) ∷ [])

-- .. of restoring one
abbrev pub restore_causes : World → Name → ℕ → List Cause
restore_causes w n k = cause refusal.NoSuch (not (has_device w k) || not (has_word n w.stopped)) ∷ []

-- .. of releasing one
abbrev pub release_causes : World → ℕ → List Cause
release_causes w k = cause refusal.NoSuch (not (has_device w k)) ∷ []

-- the world's refusal, or else the device's
abbrev pub or_later : Option Refusal → Option Refusal → Option Refusal
or_later (Some r) later = Some r
or_later None later = later

-- .. which is answered where there is no memory, if it is due
abbrev pub told_due : Option Refusal → Result Answer AllocError
told_due (Some r) = Ok (answer.Refused r)
told_due None = Err alloc_error

-- .. of the carried image of a context, where there is one
abbrev pub image_refusal : World → ℕ → Option ContextImage → Option Refusal
image_refusal w k None = Some refusal.Spent
image_refusal w k (Some image) = refusal_of (device_at w k) (event.Restore image)

-- the refusal of an event, where one is due
abbrev pub world_refusal : World → WorldEvent → Option Refusal
world_refusal w (world_event.AddDevice id address) = first_cause (device_causes w id address)
world_refusal w (world_event.MakeContext n k) = or_later (first_cause (make_causes w n k)) (refusal_of (device_at w k) (event.MakeContext n))
world_refusal w (world_event.At e) = or_later (first_cause (context_causes w (context_of_event e) [])) (refusal_of (home w (context_of_event e)) e)
world_refusal w (world_event.Connect one two terms) = first_cause (connect_causes w one two)
world_refusal w (world_event.Stop n) = or_later (first_cause (stop_causes w n)) (refusal_of (home w n) (event.Stop n false))
world_refusal w (world_event.Restore n k) = or_later (first_cause (restore_causes w n k)) (image_refusal w k (carried_image w n))
world_refusal w (world_event.Release n k) = or_later (first_cause (release_causes w k)) (refusal_of (device_at w k) (event.Release n))
world_refusal w e = None
