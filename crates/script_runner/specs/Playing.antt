-- What the parts of playing a script do.
use Rattle.std.specs.Prelude.{ℕ, ◌≡◌, ◌+◌, List, ◌++◌, Option, None, Some}
use Rattle.rdma_types.specs.declared.answers.Answer.{Answer}
use Rattle.protocol.specs.Script.{Happening, Event, Dump, Settles, happens}
use Rattle.protocol.specs.State.{World}
use Rattle.law_kept_datagrams.specs.Alike.{with_kept_datagrams}
use Rattle.host_ports.specs.Streams.{Puts}
use Rattle.law_headline.specs.Does.{happenings_of}
use Rattle.law_headline.specs.Left.{world_of}
use Rattle.law_headline.specs.Playing.{IsPlayed}
use Rattle.law_headline.specs.Script.{BadLine, answers_text, bad_line, script_from, world_left}
use Rattle.script_runner.specs.declared.fault.PlayFault.{PlayFault}
use Rattle.script_runner.specs.declared.fault.PlayFault.TheVariants as fault

-- a blank line and a dump leave the world as it is; an event and settling leave that of the rules, in which those datagrams are
-- blank that the network keeps no more
abbrev pub Leaves : World → Option Happening → World → Type 0
Leaves old None new = new ≡ old
Leaves old (Some (Event e)) new = new ≡ with_kept_datagrams (happens old (Event e)).world
Leaves old (Some (Dump name)) new = new ≡ old
Leaves old (Some Settles) new = new ≡ with_kept_datagrams (happens old Settles).world

-- the answer to what happens, and the world that it leaves
pub record Answers (old : World) (h : Happening) (answer : Answer) (new : World) : Type 0 where
  pub answered : answer ≡ (happens old h).answer
  pub left : Leaves old (Some h) new

-- a prefix of a text was put behind what was held
pub record PutsPrefix (held held' : Option (List ℕ)) (text : List ℕ) : Type 0 where
  pub prefix : List ℕ
  pub rest : List ℕ
  pub splits : text ≡ prefix ++ rest
  pub put : Puts held held' prefix

-- what holds of a bad line, if it is that fault
abbrev pub IfBadLine : (BadLine → Type 0) → PlayFault → Type 0
IfBadLine P (fault.BadLine line column why) = P (record { number = line; offence = record { column = column; why = why } })
IfBadLine P fault.WriteFault = Unit {0}
IfBadLine P fault.OutOfMemory = Unit {0}

-- a fault of answering a line: of the sink, or out of memory
abbrev pub IsOneLineFault : PlayFault → Type 0
IsOneLineFault (fault.BadLine line column why) = ⊥
IsOneLineFault fault.WriteFault = Unit {0}
IsOneLineFault fault.OutOfMemory = Unit {0}

-- where `number` lines of a text were read and `rest` are to come: in `w` those datagrams of the rules' world are blank that the
-- network keeps no more, and the lines to come lead from the rules' world to the one that the text leaves
pub record IsOnTheWay (text : List ℕ) (w : World) (number : ℕ) (rest : List (List ℕ)) : Type 0 where
  pub whole : World  -- the rules' world
  pub left : w ≡ with_kept_datagrams whole
  pub leads : world_of text ≡ world_left whole (happenings_of (script_from (number + 1) rest).lines)

-- how far a text is played, where `number` of its lines were read, `rest` are to come, and the world is `w`
pub record IsPlayedTo (held held' : Option (List ℕ)) (text : List ℕ) (w : World) (number : ℕ) (rest : List (List ℕ)) : Type 0 where
  pub done : List ℕ  -- what was written
  pub written : Puts held held' done
  pub played : IsPlayed text done w number rest
  pub way : IsOnTheWay text w number rest

-- the first bad line of a text, where the lines before it are answered
pub record IsStoppedAt (held held' : Option (List ℕ)) (text : List ℕ) (bad : BadLine) : Type 0 where
  pub first : bad_line text ≡ Some bad
  pub written : Puts held held' (answers_text text)
