-- Where two devices differ, field by field in the order of the protocol's State. This project's choice.
use Rattle.std.specs.Prelude.{ℕ, List, [], ◌∷◌, Option}
use Rattle.rdma_types.specs.declared.requests.Completion.{Completion}
use Rattle.rdma_types.specs.declared.requests.Receive.{Receive}
use Rattle.rdma_types.specs.Objects.{CompletionQueue, Posted, Region}
use Rattle.protocol.specs.declared.images.KeptReply.{KeptReply}
use Rattle.protocol.specs.State.{Context, Device, End, Husk, HuskEntry, Link, Receiver, Sender}
use Rattle.device_differences.specs.Differing.{first_of, across, between, maybe}
use Rattle.device_differences.specs.Numbers.{numbers_of_receive, numbers_of_request, numbers_of_completion, numbers_of_region, numbers_of_terms, numbers_of_moving, numbers_of_sender, numbers_of_progress, numbers_of_receiver, numbers_of_reply, numbers_of_link, numbers_of_entry, numbers_of_device}

-- two receives
unfoldable pub receive_difference : Receive → Receive → Option (ℕ × ℕ)
receive_difference x y = between (numbers_of_receive x) (numbers_of_receive y)

-- two posted requests
unfoldable pub posted_difference : Posted → Posted → Option (ℕ × ℕ)
posted_difference x y = first_of (between (numbers_of_request x.request) (numbers_of_request y.request) ∷ between x.payload y.payload ∷ [])

-- two completions
unfoldable pub completion_difference : Completion → Completion → Option (ℕ × ℕ)
completion_difference x y = between (numbers_of_completion x) (numbers_of_completion y)

-- two completion queues
unfoldable pub queue_difference : CompletionQueue → CompletionQueue → Option (ℕ × ℕ)
queue_difference x y = first_of (
    between x.name y.name
    ∷ between (x.capacity ∷ []) (y.capacity ∷ [])
    ∷ across completion_difference x.entries y.entries
    ∷ [])

-- two regions
unfoldable pub region_difference : Region → Region → Option (ℕ × ℕ)
region_difference x y = first_of (
    between x.name y.name
    ∷ between x.domain y.domain
    ∷ between (numbers_of_region x) (numbers_of_region y)
    ∷ between x.bytes y.bytes
    ∷ [])

-- two requesters
unfoldable pub sender_difference : Sender → Sender → Option (ℕ × ℕ)
sender_difference x y = first_of (across posted_difference x.untold y.untold ∷ between (numbers_of_sender x) (numbers_of_sender y) ∷ [])

-- two kept replies
unfoldable pub reply_difference : KeptReply → KeptReply → Option (ℕ × ℕ)
reply_difference x y = between (numbers_of_reply x) (numbers_of_reply y)

-- two responders
unfoldable pub receiver_difference : Receiver → Receiver → Option (ℕ × ℕ)
receiver_difference x y = first_of (
    between (numbers_of_receiver x) (numbers_of_receiver y)
    ∷ between (numbers_of_progress x.progress) (numbers_of_progress y.progress)
    ∷ across reply_difference x.kept y.kept
    ∷ [])

-- two connections
unfoldable pub link_difference : Link → Link → Option (ℕ × ℕ)
link_difference x y = first_of (
    between (numbers_of_link x) (numbers_of_link y)
    ∷ between (numbers_of_terms x.terms) (numbers_of_terms y.terms)
    ∷ between (numbers_of_moving x.moving) (numbers_of_moving y.moving)
    ∷ sender_difference x.sender y.sender
    ∷ receiver_difference x.receiver y.receiver
    ∷ [])

-- what two queue pairs have besides their names and numbers
unfoldable pub work_difference : End → End → Option (ℕ × ℕ)
work_difference x y = first_of (
    between (x.send_depth ∷ x.recv_depth ∷ []) (y.send_depth ∷ y.recv_depth ∷ [])
    ∷ across receive_difference x.unused y.unused
    ∷ maybe link_difference x.link y.link
    ∷ [])

-- two queue pairs
unfoldable pub end_difference : End → End → Option (ℕ × ℕ)
end_difference x y = first_of (
    between x.name y.name
    ∷ between (x.number ∷ []) (y.number ∷ [])
    ∷ between x.domain y.domain
    ∷ between x.send_cq y.send_cq
    ∷ between x.recv_cq y.recv_cq
    ∷ work_difference x y
    ∷ [])

-- two contexts
unfoldable pub context_difference : Context → Context → Option (ℕ × ℕ)
context_difference x y = first_of (
    between x.name y.name
    ∷ across between x.domains y.domains
    ∷ across region_difference x.regions y.regions
    ∷ across queue_difference x.queues y.queues
    ∷ across end_difference x.ends y.ends
    ∷ [])

-- two entries of husks
unfoldable pub entry_difference : HuskEntry → HuskEntry → Option (ℕ × ℕ)
entry_difference x y = between (numbers_of_entry x) (numbers_of_entry y)

-- two husks
unfoldable pub husk_difference : Husk → Husk → Option (ℕ × ℕ)
husk_difference x y = first_of (between x.name y.name ∷ across entry_difference x.entries y.entries ∷ [])

-- two devices
unfoldable pub first_difference : Device → Device → Option (ℕ × ℕ)
first_difference x y = first_of (
    between (numbers_of_device x) (numbers_of_device y)
    ∷ across context_difference x.contexts y.contexts
    ∷ across husk_difference x.husks y.husks
    ∷ [])
