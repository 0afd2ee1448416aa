-- What consumers did, and what is known after they are joined (this project's choice).
use Rattle.std.specs.Prelude.{◌≡◌, ℕ, ◌<◌, Bool, false, List, length, flat_map, slice_get, Some, Option}
use Rattle.rdma_types.specs.declared.requests.Completion.{Completion}
use Rattle.crossbeam_queue.specs.declared.array_queue.Doing.{Doing}
use Rattle.crossbeam_queue.specs.declared.array_queue.Slotted.{Slotted}
use Rattle.crossbeam_queue.specs.declared.array_queue.Turns.{Turns}
use Rattle.std.specs.declared.alloc.Global.{Global}
use Rattle.crossbeam_queue.specs.Passes.{view, IsPassOf, Pass}
use Rattle.completion_fanout.specs.declared.entry.FanEntry.{FanEntry}
use Rattle.completion_fanout.specs.declared.entry.QueueItem.{QueueItem}
use Rattle.completion_fanout.specs.declared.rule.Fan.{Fan}
use Rattle.completion_fanout.specs.declared.rule.Share.{Share}
use Rattle.completion_fanout.specs.declared.serving.Served.{Served}
use Rattle.completion_fanout.specs.Fanned.{IsRising, places}
use Rattle.completion_fanout.specs.Rule.{root_share, taker_share, writer_share}

-- a queue under the rule
abbrev pub Queue : Type 0
Queue = Slotted (Option QueueItem) (Doing QueueItem Share) (Turns Fan) Global

module _ (queue : Queue) where
  -- a consumer ended: it took an end mark; and its pass took just the entries of its list, unless memory ran out
  pub record IsServed (s : Served) : Type 0 where
    pub pass : IsPassOf queue s.pass
    pub parts : (view s.pass).parts ≡ 1
    pub marked : 0 < (view s.pass).ended
    pub knows : s.is_out_of_memory ≡ false → view s.pass ≡ taker_share s.taken (view s.pass).ended

  -- consumers were joined: the root pass has that many parts; an end mark was taken, unless there were no consumers; and unless
  -- memory ran out, the root pass was joined with those that took these lists
  pub record AreServed (parts : ℕ) (root : Pass QueueItem Share) (lists : List (List FanEntry)) (is_out_of_memory : Bool) : Type 0 where
    pub pass : IsPassOf queue root
    pub parts_are : (view root).parts ≡ parts
    pub marked : 0 < length lists → 0 < (view root).ended
    pub knows : is_out_of_memory ≡ false → view root ≡ root_share parts (flat_map (λ es. es) lists) (view root).ended
    pub rising : is_out_of_memory ≡ false → (i : ℕ) (es : List FanEntry) → slice_get lists i ≡ Some es → IsRising (places es)

  -- the one who puts has ended: its pass put just these completions, and then end marks
  pub record IsFed (pass : Pass QueueItem Share) (put : List Completion) : Type 0 where
    pub is_pass : IsPassOf queue pass
    pub knows : view pass ≡ writer_share put (view pass).marks
