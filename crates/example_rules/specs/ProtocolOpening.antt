-- The usual opening of a script, and the names in it.
use Rattle.std.specs.Prelude.{ℕ, List, [], ◌∷◌, ◌++◌, Some}
use Rattle.rdma_types.specs.declared.answers.Answer.{Answer}
use Rattle.rdma_types.specs.declared.answers.Answer.TheVariants.{Done, Qp}
use Rattle.rdma_types.specs.declared.names.Name.{Name}
use Rattle.protocol.specs.declared.events.WorldEvent.{WorldEvent}
use Rattle.example_rules.specs.Words.{obj, device, context, domain, region, cq, qp, connect, region_keys}

-- a
abbrev pub n_a : Name
n_a = (97 ∷ [])

-- b
abbrev pub n_b : Name
n_b = (98 ∷ [])

-- big
abbrev pub n_big : Name
n_big = (98 ∷ 105 ∷ 103 ∷ [])

-- big2
abbrev pub n_big2 : Name
n_big2 = (98 ∷ 105 ∷ 103 ∷ 50 ∷ [])

-- c
abbrev pub n_c : Name
n_c = (99 ∷ [])

-- e
abbrev pub n_e : Name
n_e = (101 ∷ [])

-- m
abbrev pub n_m : Name
n_m = (109 ∷ [])

-- n
abbrev pub n_n : Name
n_n = (110 ∷ [])

-- p
abbrev pub n_p : Name
n_p = (112 ∷ [])

-- q
abbrev pub n_q : Name
n_q = (113 ∷ [])

-- q1
abbrev pub n_q1 : Name
n_q1 = (113 ∷ 49 ∷ [])

-- q2
abbrev pub n_q2 : Name
n_q2 = (113 ∷ 50 ∷ [])

-- r
abbrev pub n_r : Name
n_r = (114 ∷ [])

-- s
abbrev pub n_s : Name
n_s = (115 ∷ [])

-- z
abbrev pub n_z : Name
n_z = (122 ∷ [])

-- what scripts vary of the usual opening
pub record Setting : Type 0 where
  pub bytes : ℕ  -- of each region
  pub rights : ℕ  -- of b's region
  pub capacity : ℕ  -- of a's completion queue
  pub depth : ℕ  -- of all work queues
  pub start : ℕ  -- the wire number of a's first packet
  pub retry : ℕ
  pub rnr : ℕ

-- the usual setting
abbrev pub usual : Setting
usual = record { bytes = 64; rights = 15; capacity = 16; depth = 8; start = 100; retry = 7; rnr = 7 }

-- three devices; context a on the first and b on the second, each with a domain p, a region, a completion queue c and a
-- queue pair q; both queue pairs are connected
abbrev pub opening : Setting → List WorldEvent
opening s =
    device 1 167772161
    ∷ device 2 167772162
    ∷ device 3 167772163
    ∷ context n_a 1
    ∷ context n_b 2
    ∷ domain (obj n_a n_p)
    ∷ domain (obj n_b n_p)
    ∷ region (obj n_a n_m) (Some n_p) 4096 s.bytes 15
    ∷ region (obj n_b n_n) (Some n_p) 8192 s.bytes s.rights
    ∷ cq (obj n_a n_c) s.capacity
    ∷ cq (obj n_b n_c) 16
    ∷ qp (obj n_a n_q) (Some n_p) (Some n_c) (Some n_c) s.depth s.depth
    ∷ qp (obj n_b n_q) (Some n_p) (Some n_c) (Some n_c) s.depth s.depth
    ∷ connect (obj n_a n_q) (obj n_b n_q) 256 s.start 200 s.retry s.rnr 4
    ∷ []

-- what it is answered before the queue pairs are connected
abbrev pub made : List Answer
made =
    Done
    ∷ Done
    ∷ Done
    ∷ Done
    ∷ Done
    ∷ Done
    ∷ Done
    ∷ region_keys 16777218 16777219
    ∷ region_keys 33554434 33554435
    ∷ Done
    ∷ Done
    ∷ Qp 65537
    ∷ Qp 131073
    ∷ []

-- what it is answered
abbrev pub opened : List Answer
opened =
    made
    ++ Done
    ∷ []
