-- The devices after the caller's own run of two workers with one addition and one move, written out from what the run does.
use Rattle.std.specs.Prelude.{ℕ, List, [], ◌∷◌, ◌++◌, replicate, Some, codes, false}
use Rattle.rdma_types.specs.declared.names.Name.{Name}
use Rattle.rdma_types.specs.declared.requests.Terms.{Terms}
use Rattle.protocol.specs.State.{Device, End, Moving, NoMessage, Receiver, Resuming, Running, Sender, fresh_receiver, fresh_sender}
use Rattle.example_rules.specs.Alone.{address}

-- a connected end with nothing posted
abbrev pub end : Name → ℕ → ℕ → Terms → Moving → Sender → Receiver → End
end name number peer terms moving sender receiver = record {
  name = name;
  number = number;
  domain = codes "p";
  send_cq = codes "c";
  recv_cq = codes "c";
  send_depth = 8;
  recv_depth = 1;
  unused = [];
  link = Some (record { ended = false; peer = peer; terms = terms; moving = moving; sender = sender; receiver = receiver });
}

-- an end of a: its one packet is acknowledged
abbrev pub end_of_a : Name → ℕ → ℕ → End
end_of_a name number peer =
    end name number peer (record { mtu = 256; own_start = 100; peer_start = 200; retry = 7; rnr = 7; reads = 4 })
    (record { phase = Running; own = 0; recorded = 0; partner = address 2 })
    (record { untold = []; first = 1; una = 1; next = 1; top = 1; spent = 0; waits = 0; rnr_wait = false })
    fresh_receiver

-- an end of b: it answered one atomic, and was moved once
abbrev pub end_of_b : Name → ℕ → ℕ → ℕ → End
end_of_b name number peer old =
    end name number peer (record { mtu = 256; own_start = 200; peer_start = 100; retry = 7; rnr = 7; reads = 4 })
    (record { phase = Resuming; own = 1; recorded = 0; partner = address 1 })
    fresh_sender
    (record { expected = 1; nak_sent = false; msn = 1; progress = NoMessage; kept = record { number = 0; old = old } ∷ [] })

-- the old values 0 and 1 landed in a's words; b left a husk on device 2 and lives on device 3, and its word is 2
abbrev pub devices : List Device
devices =
    record {
      id = 1;
      address = address 1;
      qp_count = 2;
      key_count = 1;
      contexts = record {
        name = codes "a";
        domains = codes "p" ∷ [];
        regions = record { name = codes "m"; domain = codes "p"; base = 4096; length = 64; rights = record { 0 = 15 }; keys = record { local = 16777218; remote = 16777219 }; bytes = replicate 15 0 ++ 1 ∷ replicate 48 0 } ∷ [];
        queues = record { name = codes "c"; capacity = 256; entries = [] } ∷ [];
        ends = end_of_a (codes "q1") 65537 131073 ∷ end_of_a (codes "q2") 65538 131074 ∷ [];
      } ∷ [];
      husks = [];
    }
    ∷ record {
      id = 2;
      address = address 2;
      qp_count = 2;
      key_count = 1;
      contexts = [];
      husks = record { name = codes "b"; entries = record { number = 131073; peer = 65537; moves = 0 } ∷ record { number = 131074; peer = 65538; moves = 0 } ∷ [] } ∷ [];
    }
    ∷ record {
      id = 3;
      address = address 3;
      qp_count = 0;
      key_count = 0;
      contexts = record {
        name = codes "b";
        domains = codes "p" ∷ [];
        regions = record { name = codes "n"; domain = codes "p"; base = 8192; length = 64; rights = record { 0 = 15 }; keys = record { local = 33554434; remote = 33554435 }; bytes = replicate 7 0 ++ 2 ∷ replicate 56 0 } ∷ [];
        queues = record { name = codes "c"; capacity = 256; entries = [] } ∷ [];
        ends = end_of_b (codes "q1") 131073 65537 0 ∷ end_of_b (codes "q2") 131074 65538 1 ∷ [];
      } ∷ [];
      husks = [];
    }
    ∷ []
