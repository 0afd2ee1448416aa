-- Steps of what a handle holds, as C is told of them. A result is 0 where the step is done, 1 where memory ran out, and 2 where an
-- argument is outside of what is allowed.
use Rattle.std.specs.Prelude.{ℕ, List, [], map, length, Bool, ◌&&◌, ◌==◌, nat_le, Option, Some, None, option_map, is_none, if◌then◌else◌}
use Rattle.rdma_types.specs.declared.answers.Answer.{Answer}
use Rattle.rdma_types.specs.declared.answers.Answer.TheVariants as answer
use Rattle.rdma_types.specs.declared.requests.Address.{Address}
use Rattle.rdma_types.specs.declared.requests.Completion.{Completion}
use Rattle.protocol.specs.declared.events.Event.{Event}
use Rattle.protocol.specs.declared.events.Event.TheVariants as event
use Rattle.protocol.specs.declared.images.ContextImage.{ContextImage}
use Rattle.protocol.specs.declared.images.Outcome.{Outcome}
use Rattle.protocol.specs.DeviceStep.{device_step}
use Rattle.device_core.specs.Readings.{new_device}
use Rattle.c_layout.specs.declared.layout.CCompletion.{CCompletion}
use Rattle.c_layout.specs.declared.layout.COutcome.{COutcome}
use Rattle.c_layout.specs.Told.{completion_told, outcome_told}
use Rattle.device_c.specs.declared.content.Content.{Content}
use Rattle.device_c.specs.declared.content.Content.TheVariants as content
use Rattle.device_c.specs.declared.content.HeldDevice.{HeldDevice}
use Rattle.c_layout.specs.Given.{overlaid}

-- ---- one device

-- what the rules say that a held device answers
abbrev pub outcome_of : HeldDevice → Event → Outcome
outcome_of d e = (device_step d.device e).outcome

-- the device that the rules give, with the datagrams of the step to be read
abbrev pub stepped : HeldDevice → Event → HeldDevice
stepped d e = record { device = (device_step d.device e).device; sent = (outcome_of d e).sent; read = 0 }

-- the answer as C is told it
abbrev pub answered : HeldDevice → Event → COutcome
answered d e = outcome_told (outcome_of d e).answer (length (outcome_of d e).sent)

-- the device after a step, by whether it was done
abbrev pub device_after : Bool → HeldDevice → Event → HeldDevice
device_after done d e = if done then stepped d e else d

-- what C is told then
abbrev pub told_after_step : Bool → HeldDevice → Event → COutcome → COutcome
told_after_step done d e was = if done then answered d e else was

-- the bytes that an answer has
abbrev pub bytes_of : Answer → List ℕ
bytes_of (answer.Bytes bytes) = bytes
bytes_of _ = []

-- the completions that an answer has
abbrev pub completions_of : Answer → List Completion
completions_of (answer.Polled completions) = completions
completions_of _ = []

-- what a buffer has after a load
abbrev pub loaded_by_step : Bool → HeldDevice → Event → List ℕ → List ℕ
loaded_by_step done d e old = if done then overlaid (bytes_of (outcome_of d e).answer) old else old

-- what an array has after a poll
abbrev pub polled_by_step : Bool → HeldDevice → Event → List CCompletion → List CCompletion
polled_by_step done d e old = if done then overlaid (map completion_told (completions_of (outcome_of d e).answer)) old else old

-- ---- what a handle can hold, by the result

abbrev pub content_after : ℕ → Content → Event → Content
content_after result (content.Device d) e = content.Device (device_after (result == 0) d e)
content_after result (content.Image i) e = content.Image i
content_after result (content.Reader r) e = content.Reader r

abbrev pub told_of : ℕ → Content → Event → COutcome → COutcome
told_of result (content.Device d) e was = told_after_step (result == 0) d e was
told_of result (content.Image i) e was = was
told_of result (content.Reader r) e was = was

abbrev pub result_of : Bool → Content → ℕ
result_of no_memory (content.Device d) = if no_memory then 1 else 0
result_of no_memory (content.Image i) = 2
result_of no_memory (content.Reader r) = 2

-- what a buffer has after a load
abbrev pub loaded_of : ℕ → Content → Event → List ℕ → List ℕ
loaded_of result (content.Device d) e old = loaded_by_step (result == 0) d e old
loaded_of result (content.Image i) e old = old
loaded_of result (content.Reader r) e old = old

-- what an array has after a poll
abbrev pub polled_of : ℕ → Content → Event → List CCompletion → List CCompletion
polled_of result (content.Device d) e old = polled_by_step (result == 0) d e old
polled_of result (content.Image i) e old = old
polled_of result (content.Reader r) e old = old

-- the image of a step, if it gives one
abbrev pub image_of : ℕ → Content → Event → Option ContextImage
image_of result (content.Device d) e = if result == 0 then (outcome_of d e).image else None
image_of result (content.Image i) e = None
image_of result (content.Reader r) e = None

-- ---- what a handle holds, where an event is asked for or the arguments are wrong

-- what is held after a step
unfoldable pub held_after : ℕ → Option Content → Option Event → Option Content
held_after result held None = held
held_after result held (Some e) = option_map (λ c. content_after result c e) held

-- what C is told of a step
abbrev pub told_by : ℕ → Option Content → Event → COutcome → COutcome
told_by result None e was = was
told_by result (Some c) e was = told_of result c e was

unfoldable pub told_after : ℕ → Option Content → Option Event → COutcome → COutcome
told_after result held None was = was
told_after result held (Some e) was = told_by result held e was

-- the result of a step, by whether memory ran out
abbrev pub result_by : Bool → Option Content → ℕ
result_by no_memory None = 2
result_by no_memory (Some c) = result_of no_memory c

unfoldable pub result_after : Bool → Option Content → Option Event → ℕ
result_after no_memory held None = 2
result_after no_memory held (Some e) = result_by no_memory held

-- what a buffer has after a load
abbrev pub loaded_by : ℕ → Option Content → Event → List ℕ → List ℕ
loaded_by result None e old = old
loaded_by result (Some c) e old = loaded_of result c e old

unfoldable pub loaded_after : ℕ → Option Content → Option Event → List ℕ → List ℕ
loaded_after result held None old = old
loaded_after result held (Some e) old = loaded_by result held e old

-- what an array has after a poll
abbrev pub polled_by : ℕ → Option Content → Event → List CCompletion → List CCompletion
polled_by result None e old = old
polled_by result (Some c) e old = polled_of result c e old

unfoldable pub polled_after : ℕ → Option Content → Option Event → List CCompletion → List CCompletion
polled_after result held None old = old
polled_after result held (Some e) old = polled_by result held e old

-- ---- stops and restores

-- a stop needs a handle for the image that holds nothing
abbrev pub stop_into : Option Content → Option Event → Option Event
stop_into image e = if is_none image then e else None

-- the image of a step of what a handle holds
abbrev pub image_by : ℕ → Option Content → Event → Option ContextImage
image_by result None e = None
image_by result (Some c) e = image_of result c e

-- an image as what a handle can hold
abbrev pub image_content : Option ContextImage → Option Content
image_content i = option_map (λ x. content.Image x) i

-- what the handle of the image holds: the image of the step, or what it held
abbrev pub put_in : Option Content → Option Content → Option Content
put_in None held = held
put_in (Some i) held = Some i

unfoldable pub image_after : ℕ → Option Content → Option Event → Option Content → Option Content
image_after result held None image = image
image_after result held (Some e) image = put_in (image_content (image_by result held e)) image

-- the restore that the image in a handle asks for
abbrev pub restore_by : Content → Option Event
restore_by (content.Device d) = None
restore_by (content.Image i) = Some (event.Restore i)
restore_by (content.Reader r) = None

abbrev pub restore_event : Option Content → Option Event
restore_event None = None
restore_event (Some c) = restore_by c

-- ---- a new device

-- a device may have this id, and its handle holds nothing
abbrev pub may_make : ℕ → Option Content → Bool
may_make id held = nat_le 1 id && nat_le id 255 && is_none held

-- a new device that did nothing yet
abbrev pub made : ℕ → Address → Content
made id address = content.Device (record { device = new_device id address; sent = []; read = 0 })
