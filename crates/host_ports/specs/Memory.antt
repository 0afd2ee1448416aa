use Rattle.std.specs.Prelude.{ℕ, ◌+◌, ◌-◌, ◌^◌, List, [], ◌∷◌, ◌++◌, length, min, drop}

-- a source in memory: the bytes that are left, the numbers of the calls that fail, and how many calls there were and faults
pub record SourceState : Type 0 where
  pub left : List ℕ
  pub fails : List ℕ
  pub calls : ℕ
  pub faults : ℕ

-- a sink in memory: the bytes that it holds, how many more it has room for, the numbers of the calls that fail, and how many calls there were and faults
pub record SinkState : Type 0 where
  pub held : List ℕ
  pub room : ℕ
  pub fails : List ℕ
  pub calls : ℕ
  pub faults : ℕ

-- one more, up to the last value that a u64 has
abbrev pub counted : ℕ → ℕ
counted n = min (n + 1) (2 ^ 64 - 1)

-- a source after a call that failed: the call and the fault are counted
abbrev pub read_failed : SourceState → SourceState
read_failed s = record s { calls = counted s.calls; faults = counted s.faults }

-- a source after a call that took that many bytes
abbrev pub read_done : SourceState → ℕ → SourceState
read_done s n = record s { left = drop n s.left; calls = counted s.calls }

-- a sink after a call that failed: the call and the fault are counted
abbrev pub write_failed : SinkState → SinkState
write_failed s = record s { calls = counted s.calls; faults = counted s.faults }

-- a sink after a call that put these bytes
abbrev pub write_done : SinkState → List ℕ → SinkState
write_done s bytes = record s { held = s.held ++ bytes; room = s.room - length bytes; calls = counted s.calls }

-- how many bytes a sink takes for sure: its room, where no call is to fail, and else none
abbrev pub sure_room : List ℕ → ℕ → ℕ
sure_room [] room = room
sure_room (n ∷ fails) room = 0
