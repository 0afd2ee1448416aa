-- The generated script: two contexts and their connections are made, messages are posted with some of the schedule after
-- each, the second context moves to and fro between them, and at the end all is settled and polled (this project's
-- choice).
use Rattle.std.specs.Prelude.{ℕ, zero, suc, ◌+◌, ◌-◌, ◌*◌, ◌/◌, ◌%◌, ◌^◌, ◌==◌, List, [], ◌∷◌, ◌++◌, codes, if◌then◌else◌}
use Rattle.std.specs.Fmt.{decimal}
use Rattle.rand_core.specs.Steps.{stream_of, steps_u32}
use Rattle.rand_core.specs.Stream.{Stream, next_u32}
use Rattle.rand_pcg.specs.Lcg.{started, increment_of}
use Rattle.rand_pcg.specs.Pcg.{multiplier_64, pcg32}
use Rattle.workload_gen.specs.Lines.{ended, line, end_a, end_b}
use Rattle.workload_gen.specs.declared.plan.Mix.{Mix}
use Rattle.workload_gen.specs.declared.message.Message.{Message}

-- ---- words of the generator

-- what the generator of a seed answers: the PCG XSH RR 64/32 of stream 1
abbrev pub words_of : ℕ → Stream
words_of seed = stream_of (steps_u32 pcg32) (started 64 multiplier_64 seed (increment_of 64 1))

-- what it answers after n words
unfoldable pub after_words : ℕ → Stream → Stream
after_words zero words = words
after_words (suc n) words = (next_u32 (after_words n words)).1

-- word n, counted from 0
abbrev pub word_at : ℕ → ℕ → ℕ
word_at seed n = (next_u32 (after_words n (words_of seed))).0

-- ---- opening lines

-- three devices, two contexts, and in each a domain, a region with all rights and a completion queue
unfoldable pub devices_text : List ℕ
devices_text = codes "device 1 10.0.0.1\ndevice 2 10.0.0.2\ndevice 3 10.0.0.3\n"

unfoldable pub contexts_text : List ℕ
contexts_text = codes "context a 1\ncontext b 2\ndomain a.p\ndomain b.p\n"

unfoldable pub things_text : List ℕ
things_text = codes "region a.m a.p 65536 65536 lwra\nregion b.n b.p 65536 65536 lwra\ncq a.c 4096\ncq b.c 4096\n"

-- the queue pair of connection i in the first context, and in the second
abbrev pub qp_a_line : ℕ → List ℕ
qp_a_line i = line (codes "qp") (end_a i ∷ codes "a.p a.c a.c 64 64" ∷ [])

abbrev pub qp_b_line : ℕ → List ℕ
qp_b_line i = line (codes "qp") (end_b i ∷ codes "b.p b.c b.c 64 64" ∷ [])

-- the terms of connection i, whose packet numbers start at 1000 i and 2000 i
unfoldable pub terms_text : ℕ → List ℕ
terms_text i = ended (codes "mtu 1024 psn" ∷ decimal (1000 * i) ∷ decimal (2000 * i) ∷ codes "retry 7 rnr 7 reads 4" ∷ [])

-- connection i
abbrev pub connect_line : ℕ → List ℕ
connect_line i = codes "connect a.q" ++ (decimal i ++ (codes " b.q" ++ (decimal i ++ terms_text i)))

-- the lines of connection i
unfoldable pub connection_lines : ℕ → List ℕ
connection_lines i = qp_a_line i ++ (qp_b_line i ++ connect_line i)

-- the lines of the first n connections
unfoldable pub connections_lines : ℕ → List ℕ
connections_lines zero = []
connections_lines (suc n) = connections_lines n ++ connection_lines (suc n)

-- ---- messages

-- message j over c connections, as its word says
abbrev pub message_of : ℕ → ℕ → ℕ → Message
message_of c j w = record {
  number = j;
  connection = w % c + 1;
  length = 1 + w / 64 % 4096;
  address = 65536 + 8 * (w / 262144 % 4096);
}

-- a Write, which takes the bytes at an address to the same address of the other region
abbrev pub write_line : Message → List ℕ
write_line m = line (codes "write") (end_a m.connection ∷ decimal m.number ∷ codes "01000002" ∷ decimal m.address
    ∷ decimal m.length ∷ decimal m.address ∷ codes "02000003" ∷ [])

-- a Read, likewise
abbrev pub read_line : Message → List ℕ
read_line m = line (codes "read") (end_a m.connection ∷ decimal m.number ∷ codes "01000002" ∷ decimal m.address
    ∷ decimal m.length ∷ decimal m.address ∷ codes "02000003" ∷ [])

-- a FetchAdd, which adds the length
abbrev pub add_line : Message → List ℕ
add_line m = line (codes "add") (end_a m.connection ∷ decimal m.number ∷ codes "01000002" ∷ decimal m.address
    ∷ decimal m.address ∷ codes "02000003" ∷ decimal m.length ∷ [])

-- the receive of a Send
abbrev pub recv_line : Message → List ℕ
recv_line m = line (codes "recv") (end_b m.connection ∷ decimal m.number ∷ codes "02000002" ∷ decimal m.address
    ∷ codes "4096" ∷ [])

-- a Send
abbrev pub send_line : Message → List ℕ
send_line m = line (codes "send") (end_a m.connection ∷ decimal m.number ∷ codes "01000002" ∷ decimal m.address
    ∷ decimal m.length ∷ [])

-- the posting of a message of kind 0 to 3
unfoldable pub posting_lines : ℕ → Message → List ℕ
posting_lines kind m =
    if kind == 0 then write_line m
    else if kind == 1 then read_line m
    else if kind == 2 then add_line m
    else recv_line m ++ send_line m

-- ---- the schedule after a message

abbrev pub go_line : ℕ → List ℕ
go_line i = line (codes "go") (end_a i ∷ [])

abbrev pub expire_line : ℕ → List ℕ
expire_line i = line (codes "expire") (end_a i ∷ [])

abbrev pub settle_line : List ℕ
settle_line = codes "settle\n"

-- all is settled, and both completion queues are polled
abbrev pub closing_lines : List ℕ
closing_lines = codes "settle\npoll a.c 256\npoll b.c 256\n"

-- after message j on connection i: each sixteenth, from the first on, is sent and expires; another is sent once, twice or
-- not at all, or all is settled, as the word's highest two bits say
unfoldable pub sending_lines : ℕ → ℕ → ℕ → List ℕ
sending_lines j i bits =
    if j % 16 == 1 then go_line i ++ expire_line i
    else if bits == 0 then go_line i
    else if bits == 1 then go_line i ++ go_line i
    else if bits == 2 then []
    else settle_line

-- after each sixteenth message
unfoldable pub polling_lines : ℕ → List ℕ
polling_lines j = if j % 16 == 0 then closing_lines else []

-- the lines of message j over c connections, as its word says
unfoldable pub message_lines : ℕ → ℕ → ℕ → List ℕ
message_lines c j w =
    posting_lines (w / 8 % 4) (message_of c j w) ++ (sending_lines j (w % c + 1) (w / 2 ^ 30) ++ polling_lines j)

-- ---- moves

-- the message after which move k stands, or 0 where it stands before the first
abbrev pub place_of : Mix → ℕ → ℕ
place_of mix k = k * mix.messages / (mix.moves + 1)

-- the device that move k takes the second context to: 3, then 2, then 3, and so on
abbrev pub taken_to : ℕ → ℕ
taken_to k = 2 + k % 2

-- the device that move k takes it from: 2, then 3, then 2, and so on
abbrev pub taken_from : ℕ → ℕ
taken_from k = 3 - k % 2

-- the second context is stopped, made again on one device, and released on another
unfoldable pub transfer_lines : ℕ → ℕ → List ℕ
transfer_lines new old =
    codes "stop b\nrestore b " ++ (decimal new ++ (codes "\nsettle\nrelease b " ++ (decimal old ++ codes "\n")))

-- move k
abbrev pub move_lines : ℕ → List ℕ
move_lines k = transfer_lines (taken_to k) (taken_from k)

-- move k, if it stands after message j
unfoldable pub move_at : Mix → ℕ → ℕ → List ℕ
move_at mix j k = if place_of mix k == j then move_lines k else []

-- those of the first n moves that stand after message j
unfoldable pub moves_at : Mix → ℕ → ℕ → List ℕ
moves_at mix j zero = []
moves_at mix j (suc n) = moves_at mix j n ++ move_at mix j (suc n)

-- ---- the whole

-- the first n messages, each with the moves that stand after it
unfoldable pub messages_lines : ℕ → Mix → ℕ → List ℕ
messages_lines seed mix zero = []
messages_lines seed mix (suc n) =
    messages_lines seed mix n ++ (message_lines mix.connections (suc n) (word_at seed n) ++ moves_at mix (suc n) mix.moves)

-- the opening lines: what the two contexts have, and the connections
unfoldable pub opening_lines : ℕ → List ℕ
opening_lines c = devices_text ++ (contexts_text ++ (things_text ++ connections_lines c))

-- the generated script
unfoldable pub plan : ℕ → Mix → List ℕ
plan seed mix =
    opening_lines mix.connections ++ (moves_at mix 0 mix.moves ++ (messages_lines seed mix mix.messages ++ closing_lines))
