-- What follows of how a run ends, where its words, its input and what the depot holds are known, and nothing failed.
use Rattle.std.proofs.Common.{arith, ◌≡◌, ◌≤◌, ◌⊎◌, ◌+◌, ℕ, List, Option, Some, None, Result, Ok, Err, length, drop, ap, subst, sym, ◌∙◌, inl, inr, length-drop}
use Rattle.std.specs.Prelude.{IsSome}
use Rattle.rdma_types.specs.declared.names.Name.{Name}
use Rattle.rdma_types.specs.declared.requests.Address.{Address}
use Rattle.protocol.specs.declared.images.ContextImage.{ContextImage}
use Rattle.protocol.specs.declared.dumps.DumpWhy.{DumpWhy}
use Rattle.protocol.specs.Dumps.{Bad, Good, read_dump}
use Rattle.host_ports.specs.Depots.{Has, Holding}
use Rattle.host_ports.specs.Streams.{FaultsCounted, TakesAll, TakesCount}
use Rattle.workload_gen.specs.declared.plan.Mix.{Mix}
use Rattle.evac_rules.specs.Evacuation.{Fault, evacuation}
use Rattle.run_traces.specs.Traces.{Reading as TraceReading, trace_of}
use Rattle.run_traces.specs.declared.trace_audit.verdicts.Verdict.{Verdict}
use Rattle.run_traces.specs.declared.trace_audit.verdicts.Verdict.TheVariants as verdict
use Rattle.trace_rules.specs.Recording.{Written, recorded_of}
use Rattle.law_headline.specs.Left.{world_of}
use Rattle.law_headline.specs.Script.{BadLine, bad_line}
use Rattle.node_rules.specs.Laws.{WholeRunsAreTheFunction}
use Rattle.node_rules.specs.Outside.{Outside, Ran, node_run, ran}
use Rattle.node_rules.specs.Plan as calls
use Rattle.node_rules.specs.Plan.{Ending}
use Rattle.node_rules.specs.Script.{node_plan}
use Rattle.node_rules.specs.Stops.{HasEnded, StopsAt}
use Rattle.node_rules.specs.Told.{Contents, told}
use Rattle.program_rules.specs.Commands as rules
use Rattle.program_rules.specs.Due.{IsDepotSound, IsDue, IsLinkSound, IsOrLacks, ending_status, recorded_status, script_status, trace_status}
use Rattle.program_rules.specs.Ends as ends
use Rattle.program_rules.specs.Ends.{Claims, CountsAs, Ends, Status, code, emptied_status, verdict_status}
use Rattle.program_rules.specs.Headline.{ImageText, IsAudited, IsDoneBy, IsEvacuated, IsMissingBy, IsNotEmptiedBy, IsNotLegalBy, IsShortOfMemoryBy, IsShown, IsStopped, IsStoppedAtBadDump, IsStoppedBy, IsWithoutDepotBy, IsWithoutLinkBy}
use Rattle.program_rules.specs.Nodes.{ComesTo, EndsAtBadDump, EndsAtBadLine, EndsAtMissing}
use Rattle.program_rules.specs.Runs.{ReadsInput, Run, TakesFew, Writes, command, input_limit}
use Rattle.commands.proofs.Stops.{all_is_few}

-- ---- what is told apart

no_command_is_one : (c : rules.Command) → None ≡ Some c → ⊥
no_command_is_one c h = cc

-- what is held under a name is one text
one_held : (stored : Option Holding) (name : Name) (a b : List ℕ) → IsSome stored → Has stored name (Some a) → Has stored name (Some b) → a ≡ b
one_held None name a b told x y = absurd (cc told)
one_held (Some holds) name a b told x y = cc (x, y)

-- .. or nothing
held_or_not : (stored : Option Holding) (name : Name) (a : List ℕ) → IsSome stored → Has stored name (Some a) → Has stored name None → ⊥
held_or_not None name a told x y = cc told
held_or_not (Some holds) name a told x y = cc (x, y)

-- what is read is an image or a fault
good_is_no_fault : (image : ContextImage) (place : ℕ) (rest : List ℕ) (at : ℕ) (why : DumpWhy) → Good image place rest ≡ Bad at why → ⊥
good_is_no_fault image place rest at why h = cc

one_image : (a b : ContextImage) (place place' : ℕ) (rest rest' : List ℕ) → Good a place rest ≡ Good b place' rest' → a ≡ b
one_image a b place place' rest rest' h = cc

-- what was to be read is what was read
same_text : (left left_after : Option (List ℕ)) (a b : List ℕ) → left ≡ Some a → TakesAll left left_after b → b ≡ a
same_text None left_after a b told t = absurd (cc told)
same_text (Some l) left_after a b told t = let same : l ≡ a = cc told in t.0 ∙ same

-- ---- how much was taken

-- few bytes are no more than the limit
few_is_not_long : (r : Run) → TakesFew r → IsSome r.left → TakesCount r.left r.left_after (input_limit + 1) → ⊥
few_is_not_long r f some long = by r.left r.left_after some f.read long
  where
    lengths : Option (List ℕ) → ℕ
    lengths None = 0
    lengths (Some l) = length l

    by : (left left_after : Option (List ℕ)) → IsSome left → TakesCount left left_after f.count → TakesCount left left_after (input_limit + 1) → ⊥
    by None left_after some few long = cc some
    by (Some l) left_after some few long =
        let same : length (drop f.count l) ≡ length (drop (input_limit + 1) l) = ap lengths (sym few.1 ∙ long.1) in
        omega (arith, same, length-drop f.count l, length-drop (input_limit + 1) l, f.short, few.0, long.0)

module _ (said : ImageText) (r : Run) where
  done_few : (k : Option rules.Command) → ReadsInput k → IsDoneBy said r k → TakesFew r
  done_few None i d = absurd d
  done_few (Some rules.Play) i d = all_is_few r d.text d.read d.short
  done_few (Some (rules.Bulk seed mix)) i d = absurd i
  done_few (Some (rules.ShowDump name)) i d = absurd i
  done_few (Some (rules.Evacuate from targets)) i d = all_is_few r d.text d.read d.short
  done_few (Some rules.Audit) i d = all_is_few r d.audited.text d.audited.read d.audited.short
  done_few (Some rules.Record) i d = all_is_few r d.text d.read d.short
  done_few (Some (rules.Node id own)) i d = all_is_few r d.text d.read d.short

  stopped_few : (k : Option rules.Command) → ReadsInput k → IsStoppedBy r k → TakesFew r
  stopped_few None i d = absurd d
  stopped_few (Some rules.Play) i d = all_is_few r d.text d.read d.short
  stopped_few (Some (rules.Bulk seed mix)) i d = absurd i
  stopped_few (Some (rules.ShowDump name)) i d = absurd i
  stopped_few (Some (rules.Evacuate from targets)) i d = all_is_few r d.text d.read d.short
  stopped_few (Some rules.Audit) i d = all_is_few r d.text d.read d.short
  stopped_few (Some rules.Record) i d = all_is_few r d.text d.read d.short
  stopped_few (Some (rules.Node id own)) i d = elim d [
    | inl b ↦ all_is_few r b.ends.comes.text b.ends.comes.read b.ends.comes.short
    | inr b ↦ all_is_few r b.ends.comes.text b.ends.comes.read b.ends.comes.short
  ]

  link_few : (k : Option rules.Command) → ReadsInput k → IsWithoutLinkBy r k → TakesFew r
  link_few None i d = absurd d
  link_few (Some rules.Play) i d = absurd d
  link_few (Some (rules.Bulk seed mix)) i d = absurd d
  link_few (Some (rules.ShowDump name)) i d = absurd d
  link_few (Some (rules.Evacuate from targets)) i d = absurd d
  link_few (Some rules.Audit) i d = absurd d
  link_few (Some rules.Record) i d = absurd d
  link_few (Some (rules.Node id own)) i d = all_is_few r d.comes.text d.comes.read d.comes.short

  depot_few : (k : Option rules.Command) → ReadsInput k → IsWithoutDepotBy r k → TakesFew r
  depot_few None i d = absurd d
  depot_few (Some rules.Play) i d = absurd d
  depot_few (Some (rules.Bulk seed mix)) i d = absurd d
  depot_few (Some (rules.ShowDump name)) i d = absurd i
  depot_few (Some (rules.Evacuate from targets)) i d = absurd d
  depot_few (Some rules.Audit) i d = absurd d
  depot_few (Some rules.Record) i d = absurd d
  depot_few (Some (rules.Node id own)) i d = all_is_few r d.comes.text d.comes.read d.comes.short

  memory_few : (k : Option rules.Command) → ReadsInput k → IsShortOfMemoryBy said r k → TakesFew r
  memory_few None i d = absurd d
  memory_few (Some rules.Play) i d = d.few
  memory_few (Some (rules.Bulk seed mix)) i d = d.few
  memory_few (Some (rules.ShowDump name)) i d = d.few
  memory_few (Some (rules.Evacuate from targets)) i d = d.few
  memory_few (Some rules.Audit) i d = d.few
  memory_few (Some rules.Record) i d = d.few
  memory_few (Some (rules.Node id own)) i d = elim d [ inl b ↦ all_is_few r b.comes.text b.comes.read b.comes.short | inr b ↦ b.few ]

  missing_few : (k : Option rules.Command) → ReadsInput k → IsMissingBy r k → TakesFew r
  missing_few None i d = absurd d
  missing_few (Some rules.Play) i d = absurd d
  missing_few (Some (rules.Bulk seed mix)) i d = absurd d
  missing_few (Some (rules.ShowDump name)) i d = absurd i
  missing_few (Some (rules.Evacuate from targets)) i d = absurd d
  missing_few (Some rules.Audit) i d = absurd d
  missing_few (Some rules.Record) i d = absurd d
  missing_few (Some (rules.Node id own)) i d = all_is_few r d.ends.comes.text d.ends.comes.read d.ends.comes.short

  illegal_few : (k : Option rules.Command) → IsNotLegalBy r k → TakesFew r
  illegal_few None d = absurd d
  illegal_few (Some rules.Play) d = absurd d
  illegal_few (Some (rules.Bulk seed mix)) d = absurd d
  illegal_few (Some (rules.ShowDump name)) d = absurd d
  illegal_few (Some (rules.Evacuate from targets)) d = absurd d
  illegal_few (Some rules.Audit) d = all_is_few r d.audited.text d.audited.read d.audited.short
  illegal_few (Some rules.Record) d = absurd d
  illegal_few (Some (rules.Node id own)) d = absurd d

  held_few : (k : Option rules.Command) → IsNotEmptiedBy r k → TakesFew r
  held_few None d = absurd d
  held_few (Some rules.Play) d = absurd d
  held_few (Some (rules.Bulk seed mix)) d = absurd d
  held_few (Some (rules.ShowDump name)) d = absurd d
  held_few (Some (rules.Evacuate from targets)) d = all_is_few r d.is.text d.is.read d.is.short
  held_few (Some rules.Audit) d = absurd d
  held_few (Some rules.Record) d = absurd d
  held_few (Some (rules.Node id own)) d = absurd d

-- ---- what follows

module _ (said : ImageText) (r : Run) (n : ℕ) (e : Ends said r n) where
  -- the words are of no command
  pub words_end : command r ≡ None → (n ≡ 2) ⊎ (n ≡ 5)
  words_end k = by e.status e.is e.claims e.counts
    where
      by : (s : Status) → n ≡ code s → Claims said r s → CountsAs r s → (n ≡ 2) ⊎ (n ≡ 5)
      by ends.Done is h c = absurd (subst (IsDoneBy said r) k h)
      by ends.WrongWords is h c = inl is
      by ends.BadInput is h c = absurd (subst (IsStoppedBy r) k h)
      by ends.Unread is h c = absurd (subst ReadsInput k h.reads)
      by ends.Unwritten is h c = inr is
      by ends.NoLink is h c = absurd (subst (IsWithoutLinkBy r) k h)
      by ends.NoDepot is h c = absurd (subst (IsWithoutDepotBy r) k h)
      by ends.NoMemory is h c = absurd (subst (IsShortOfMemoryBy said r) k h)
      by ends.TooLong is h c = absurd (subst ReadsInput k h.reads)
      by ends.NotHeld is h c = absurd (subst (IsMissingBy r) k h)
      by ends.NotLegal is h c = absurd (subst (IsNotLegalBy r) k h)
      by ends.NotEmptied is h c = absurd (subst (IsNotEmptiedBy r) k h)

  -- one byte more than the limit was taken
  pub long_ends : ReadsInput (command r) → IsSome r.left → TakesCount r.left r.left_after (input_limit + 1) → (n ≡ 9) ⊎ (n ≡ 5)
  long_ends i some long = by e.status e.is e.claims e.counts
    where
      by : (s : Status) → n ≡ code s → Claims said r s → CountsAs r s → (n ≡ 9) ⊎ (n ≡ 5)
      by ends.Done is h c = absurd (few_is_not_long r (done_few said r (command r) i h) some long)
      by ends.WrongWords is h c = absurd (subst ReadsInput h.no_command i)
      by ends.BadInput is h c = absurd (few_is_not_long r (stopped_few said r (command r) i h) some long)
      by ends.Unread is h c = absurd (few_is_not_long r (h.few) some long)
      by ends.Unwritten is h c = inr is
      by ends.NoLink is h c = absurd (few_is_not_long r (link_few said r (command r) i h) some long)
      by ends.NoDepot is h c = absurd (few_is_not_long r (depot_few said r (command r) i h) some long)
      by ends.NoMemory is h c = absurd (few_is_not_long r (memory_few said r (command r) i h) some long)
      by ends.TooLong is h c = inl is
      by ends.NotHeld is h c = absurd (few_is_not_long r (missing_few said r (command r) i h) some long)
      by ends.NotLegal is h c = absurd (few_is_not_long r (illegal_few said r (command r) h) some long)
      by ends.NotEmptied is h c = absurd (few_is_not_long r (held_few said r (command r) h) some long)

  -- the depot holds nothing under the name
  pub missing_ends : (name : Name) → command r ≡ Some (rules.ShowDump name) → IsSome r.before.held → Has r.before.held name None → (n ≡ 12) ⊎ (n ≡ 7) ⊎ (n ≡ 8) ⊎ (n ≡ 5)
  missing_ends name k told none = by e.status e.is e.claims e.counts
    where
      shown : IsShown said r name → ⊥
      shown d = held_or_not r.before.held name d.bytes told d.found none

      bad : IsStoppedAtBadDump r name → ⊥
      bad d = held_or_not r.before.held name d.bytes told d.found none

      by : (s : Status) → n ≡ code s → Claims said r s → CountsAs r s → (n ≡ 12) ⊎ (n ≡ 7) ⊎ (n ≡ 8) ⊎ (n ≡ 5)
      by ends.Done is h c = absurd (shown (subst (IsDoneBy said r) k h))
      by ends.WrongWords is h c = absurd (no_command_is_one (rules.ShowDump name) (sym h.no_command ∙ k))
      by ends.BadInput is h c = absurd (bad (subst (IsStoppedBy r) k h))
      by ends.Unread is h c = absurd (subst ReadsInput k h.reads)
      by ends.Unwritten is h c = inr (inr (inr is))
      by ends.NoLink is h c = absurd (subst (IsWithoutLinkBy r) k h)
      by ends.NoDepot is h c = inr (inl is)
      by ends.NoMemory is h c = inr (inr (inl is))
      by ends.TooLong is h c = absurd (subst ReadsInput k h.reads)
      by ends.NotHeld is h c = inl is
      by ends.NotLegal is h c = absurd (subst (IsNotLegalBy r) k h)
      by ends.NotEmptied is h c = absurd (subst (IsNotEmptiedBy r) k h)

  -- `bulk` is done
  pub bulk_ends : (seed : ℕ) (mix : Mix) → command r ≡ Some (rules.Bulk seed mix) → (IsStopped r → ⊥) → (FaultsCounted r.before.faults.output r.after.faults.output → ⊥) → (n ≡ 0) ⊎ (n ≡ 8)
  bulk_ends seed mix k good writes = by e.status e.is e.claims e.counts
    where
      by : (s : Status) → n ≡ code s → Claims said r s → CountsAs r s → (n ≡ 0) ⊎ (n ≡ 8)
      by ends.Done is h c = inl is
      by ends.WrongWords is h c = absurd (no_command_is_one (rules.Bulk seed mix) (sym h.no_command ∙ k))
      by ends.BadInput is h c = absurd (good h)
      by ends.Unread is h c = absurd (subst ReadsInput k h.reads)
      by ends.Unwritten is h c = absurd (writes c.1.1)
      by ends.NoLink is h c = absurd (subst (IsWithoutLinkBy r) k h)
      by ends.NoDepot is h c = absurd (subst (IsWithoutDepotBy r) k h)
      by ends.NoMemory is h c = inr is
      by ends.TooLong is h c = absurd (subst ReadsInput k h.reads)
      by ends.NotHeld is h c = absurd (subst (IsMissingBy r) k h)
      by ends.NotLegal is h c = absurd (subst (IsNotLegalBy r) k h)
      by ends.NotEmptied is h c = absurd (subst (IsNotEmptiedBy r) k h)

  -- `show-dump` is done
  pub show_dump_ends : (name : Name) (bytes : List ℕ) (image : ContextImage) (place : ℕ) (rest : List ℕ) → command r ≡ Some (rules.ShowDump name) → IsSome r.before.held → Has r.before.held name (Some bytes) → read_dump bytes ≡ Good image place rest
      → (FaultsCounted r.before.faults.depot r.after.faults.depot → ⊥) → (FaultsCounted r.before.faults.output r.after.faults.output → ⊥) → ((n ≡ 0) × Writes r (said image)) ⊎ (n ≡ 8)
  show_dump_ends name bytes image place rest k told has reads looks writes = by e.status e.is e.claims e.counts
    where
      shown : IsShown said r name → Writes r (said image)
      shown d =
          let same : d.image ≡ image = one_image d.image image d.place place d.rest rest (sym d.reads ∙ sym (ap read_dump (one_held r.before.held name bytes d.bytes told has d.found)) ∙ reads) in
          subst (λ i. Writes r (said i)) same d.written

      bad : IsStoppedAtBadDump r name → ⊥
      bad b = good_is_no_fault image place rest b.place b.why (sym reads ∙ ap read_dump (one_held r.before.held name bytes b.bytes told has b.found) ∙ b.reads)

      missing : Has r.before.held name None → ⊥
      missing m = held_or_not r.before.held name bytes told has m

      by : (s : Status) → n ≡ code s → Claims said r s → CountsAs r s → ((n ≡ 0) × Writes r (said image)) ⊎ (n ≡ 8)
      by ends.Done is h c = inl (is, shown (subst (IsDoneBy said r) k h))
      by ends.WrongWords is h c = absurd (no_command_is_one (rules.ShowDump name) (sym h.no_command ∙ k))
      by ends.BadInput is h c = absurd (bad (subst (IsStoppedBy r) k h))
      by ends.Unread is h c = absurd (subst ReadsInput k h.reads)
      by ends.Unwritten is h c = absurd (writes c.1.1)
      by ends.NoLink is h c = absurd (subst (IsWithoutLinkBy r) k h)
      by ends.NoDepot is h c = absurd (looks c.1.1)
      by ends.NoMemory is h c = inr is
      by ends.TooLong is h c = absurd (subst ReadsInput k h.reads)
      by ends.NotHeld is h c = absurd (missing (subst (IsMissingBy r) k h).0)
      by ends.NotLegal is h c = absurd (subst (IsNotLegalBy r) k h)
      by ends.NotEmptied is h c = absurd (subst (IsNotEmptiedBy r) k h)

  -- the bytes under the name are no dump
  pub bad_dump_ends : (name : Name) (bytes : List ℕ) (place : ℕ) (why : DumpWhy) → command r ≡ Some (rules.ShowDump name) → IsSome r.before.held → Has r.before.held name (Some bytes) → read_dump bytes ≡ Bad place why
      → (FaultsCounted r.before.faults.depot r.after.faults.depot → ⊥) → (FaultsCounted r.before.faults.output r.after.faults.output → ⊥) → IsOrLacks n 3
  bad_dump_ends name bytes place why k told has reads looks writes = by e.status e.is e.claims e.counts
    where
      shown : IsShown said r name → ⊥
      shown d = good_is_no_fault d.image d.place d.rest place why (sym d.reads ∙ sym (ap read_dump (one_held r.before.held name bytes d.bytes told has d.found)) ∙ reads)

      missing : Has r.before.held name None → ⊥
      missing m = held_or_not r.before.held name bytes told has m

      by : (s : Status) → n ≡ code s → Claims said r s → CountsAs r s → IsOrLacks n 3
      by ends.Done is h c = absurd (shown (subst (IsDoneBy said r) k h))
      by ends.WrongWords is h c = absurd (no_command_is_one (rules.ShowDump name) (sym h.no_command ∙ k))
      by ends.BadInput is h c = inl is
      by ends.Unread is h c = absurd (subst ReadsInput k h.reads)
      by ends.Unwritten is h c = absurd (writes c.1.1)
      by ends.NoLink is h c = absurd (subst (IsWithoutLinkBy r) k h)
      by ends.NoDepot is h c = absurd (looks c.1.1)
      by ends.NoMemory is h c = inr is
      by ends.TooLong is h c = absurd (subst ReadsInput k h.reads)
      by ends.NotHeld is h c = absurd (missing (subst (IsMissingBy r) k h).0)
      by ends.NotLegal is h c = absurd (subst (IsNotLegalBy r) k h)
      by ends.NotEmptied is h c = absurd (subst (IsNotEmptiedBy r) k h)

  -- the whole input is told and within the limit, and nothing failed
  module _ (text : List ℕ) (left : r.left ≡ Some text) (short : length text ≤ input_limit) (reads : FaultsCounted r.input_faults r.input_faults_after → ⊥) (writes : FaultsCounted r.before.faults.output r.after.faults.output → ⊥) where
    not_long : TakesCount r.left r.left_after (input_limit + 1) → ⊥
    not_long t =
        let read : TakesCount (Some text) r.left_after (input_limit + 1) = subst (λ l. TakesCount l r.left_after (input_limit + 1)) left t in
        omega (arith, read.0, short)

    -- the status by what was read is that by the text
    line_due : (status : ℕ) (b : Option BadLine) (xs : List ℕ) → TakesAll r.left r.left_after xs → bad_line xs ≡ b → script_status (bad_line text) status ≡ script_status b status
    line_due status b xs read e = ap (λ ys. script_status (bad_line ys) status) (sym (same_text r.left r.left_after text xs left read)) ∙ ap (λ x. script_status x status) e

    trace_due : (l : TraceReading) (xs : List ℕ) → TakesAll r.left r.left_after xs → trace_of xs ≡ l → trace_status (trace_of text) ≡ trace_status l
    trace_due l xs read e = ap (λ ys. trace_status (trace_of ys)) (sym (same_text r.left r.left_after text xs left read)) ∙ ap trace_status e

    record_due : (l : Result (List Written) BadLine) (xs : List ℕ) → TakesAll r.left r.left_after xs → recorded_of xs ≡ l → recorded_status (recorded_of text) ≡ recorded_status l
    record_due l xs read e = ap (λ ys. recorded_status (recorded_of ys)) (sym (same_text r.left r.left_after text xs left read)) ∙ ap recorded_status e

    -- a command that reads the input, and uses neither link nor depot: only four statuses are left, and a lack of memory
    module _ (k : rules.Command) (asked : command r ≡ Some k) (number : ℕ) (done : n ≡ 0 → IsDoneBy said r (Some k) → n ≡ number) (bad : n ≡ 3 → IsStoppedBy r (Some k) → n ≡ number) (illegal : n ≡ 13 → IsNotLegalBy r (Some k) → n ≡ number) (held : n ≡ 14 → IsNotEmptiedBy r (Some k) → n ≡ number)
        (no_link : IsWithoutLinkBy r (Some k) → ⊥) (no_depot : IsWithoutDepotBy r (Some k) → ⊥) (no_missing : IsMissingBy r (Some k) → ⊥) where
      by_status : (s : Status) → n ≡ code s → Claims said r s → CountsAs r s → IsOrLacks n number
      by_status ends.Done is h c = inl (done is (subst (IsDoneBy said r) asked h))
      by_status ends.WrongWords is h c = absurd (no_command_is_one k (sym h.no_command ∙ asked))
      by_status ends.BadInput is h c = inl (bad is (subst (IsStoppedBy r) asked h))
      by_status ends.Unread is h c = absurd (reads c.0.1)
      by_status ends.Unwritten is h c = absurd (writes c.1.1)
      by_status ends.NoLink is h c = absurd (no_link (subst (IsWithoutLinkBy r) asked h))
      by_status ends.NoDepot is h c = absurd (no_depot (subst (IsWithoutDepotBy r) asked h))
      by_status ends.NoMemory is h c = inr is
      by_status ends.TooLong is h c = absurd (not_long h.read)
      by_status ends.NotHeld is h c = absurd (no_missing (subst (IsMissingBy r) asked h))
      by_status ends.NotLegal is h c = inl (illegal is (subst (IsNotLegalBy r) asked h))
      by_status ends.NotEmptied is h c = inl (held is (subst (IsNotEmptiedBy r) asked h))

      input_ends : IsOrLacks n number
      input_ends = by_status e.status e.is e.claims e.counts

    pub play_ends : command r ≡ Some rules.Play → IsOrLacks n (script_status (bad_line text) 0)
    play_ends k = input_ends rules.Play k (script_status (bad_line text) 0)
        (λ is d. is ∙ sym (line_due 0 None d.text d.read d.good))
        (λ is b. is ∙ sym (line_due 0 (Some b.bad) b.text b.read b.first))
        (λ is h. absurd h) (λ is h. absurd h) (λ h. h) (λ h. h) (λ h. h)

    judged_so : (v : Verdict) → IsAudited r v → trace_status (trace_of text) ≡ verdict_status v
    judged_so v a = trace_due (Ok a.steps) a.text a.read a.says ∙ ap verdict_status a.finds

    pub audit_ends : command r ≡ Some rules.Audit → IsOrLacks n (trace_status (trace_of text))
    audit_ends k = input_ends rules.Audit k (trace_status (trace_of text))
        (λ is d. is ∙ sym (judged_so (verdict.Legal d.verbs d.inner) d.audited))
        (λ is b. is ∙ sym (trace_due (Err (b.bad.number, b.bad.offence)) b.text b.read b.first))
        (λ is d. is ∙ sym (judged_so (verdict.Illegal d.line d.why) d.audited))
        (λ is h. absurd h) (λ h. h) (λ h. h) (λ h. h)

    module _ (from : ℕ) (targets : List ℕ) where
      abbrev emptied_as : ℕ
      emptied_as = emptied_status (evacuation (world_of text) from targets).fault

      emptied_so : (f : Option Fault) → IsEvacuated r from targets f → script_status (bad_line text) emptied_as ≡ emptied_status f
      emptied_so f d = line_due emptied_as None d.text d.read d.good ∙ ap emptied_status (sym (ap (λ xs. (evacuation (world_of xs) from targets).fault) (same_text r.left r.left_after text d.text left d.read)) ∙ d.ended)

      pub evacuate_ends : command r ≡ Some (rules.Evacuate from targets) → IsOrLacks n (script_status (bad_line text) emptied_as)
      evacuate_ends k = input_ends (rules.Evacuate from targets) k (script_status (bad_line text) emptied_as)
          (λ is d. is ∙ sym (emptied_so None d))
          (λ is b. is ∙ sym (line_due emptied_as (Some b.bad) b.text b.read b.first))
          (λ is h. absurd h)
          (λ is d. is ∙ sym (emptied_so (Some d.fault) d.is))
          (λ h. h) (λ h. h) (λ h. h)

    pub record_ends : command r ≡ Some rules.Record → IsOrLacks n (recorded_status (recorded_of text))
    record_ends k = input_ends rules.Record k (recorded_status (recorded_of text))
        (λ is d. is ∙ sym (record_due (Ok d.is.lines) d.text d.read d.is.read))
        (λ is b. is ∙ sym (record_due (Err b.bad) b.text b.read b.first))
        (λ is h. absurd h) (λ is h. absurd h) (λ h. h) (λ h. h) (λ h. h)

    -- a node ends as its script does over what is told
    module _ (id : ℕ) (own : Address) (k : command r ≡ Some (rules.Node id own)) (o : Outside) (told_whole : r.before ≡ told o r.before.faults) (law : WholeRunsAreTheFunction) where
      abbrev due_here : ℕ
      due_here = code (ending_status (node_run id own text o).ending)

      -- the script ends so, where calls of its plan were made up to there
      is_ending : (ending : Ending) (reached : Contents) (c : ComesTo r id own (HasEnded ending) reached) → due_here ≡ code (ending_status ending)
      unfolding node_run
      is_ending ending reached c =
          let told_run = law (node_plan id own c.text) o r.before.faults ending reached (subst (λ (t : Contents). StopsAt (HasEnded ending) (node_plan id own c.text) t reached) told_whole c.stopped) in
          ap (λ (xs : List ℕ). code (ending_status (ran (node_plan id own xs) o).ending)) (sym (same_text r.left r.left_after text c.text left c.read)) ∙ ap (λ (v : Ran). code (ending_status v.ending)) told_run.2

      done : n ≡ 0 → ComesTo r id own (HasEnded calls.AllAnswered) r.after → n ≡ due_here
      done is c = is ∙ sym (is_ending calls.AllAnswered r.after c)

      bad : n ≡ 3 → EndsAtBadLine r id own ⊎ EndsAtBadDump r id own → n ≡ due_here
      bad is d = elim d [
        | inl b ↦ is ∙ sym (is_ending (calls.BadLine b.bad.number b.bad.offence) b.ends.reached b.ends.comes)
        | inr b ↦ is ∙ sym (is_ending (calls.BadDump b.place b.why) b.ends.reached b.ends.comes)
      ]

      missing : n ≡ 12 → EndsAtMissing r id own → n ≡ due_here
      missing is b = is ∙ sym (is_ending (calls.Missing b.name) b.ends.reached b.ends.comes)

      pub node_ends : IsLinkSound r → IsDepotSound r → IsOrLacks n due_here
      node_ends links depots = by e.status e.is e.claims e.counts
        where
          by : (s : Status) → n ≡ code s → Claims said r s → CountsAs r s → IsOrLacks n due_here
          by ends.Done is h c = inl (done is (subst (IsDoneBy said r) k h))
          by ends.WrongWords is h c = absurd (no_command_is_one (rules.Node id own) (sym h.no_command ∙ k))
          by ends.BadInput is h c = inl (bad is (subst (IsStoppedBy r) k h))
          by ends.Unread is h c = absurd (reads c.0.1)
          by ends.Unwritten is h c = absurd (writes c.1.1)
          by ends.NoLink is h c = absurd (links c.1.1)
          by ends.NoDepot is h c = absurd (depots c.1.1)
          by ends.NoMemory is h c = inr is
          by ends.TooLong is h c = absurd (not_long h.read)
          by ends.NotHeld is h c = inl (missing is (subst (IsMissingBy r) k h))
          by ends.NotLegal is h c = absurd (subst (IsNotLegalBy r) k h)
          by ends.NotEmptied is h c = absurd (subst (IsNotEmptiedBy r) k h)

-- ---- all of it

-- no line of a generated script is bad
abbrev pub GeneratesGood : Run → Type 0
GeneratesGood r = (seed : ℕ) (mix : Mix) → command r ≡ Some (rules.Bulk seed mix) → IsStopped r → ⊥

pub due : (said : ImageText) (r : Run) (n : ℕ) → Ends said r n → GeneratesGood r → WholeRunsAreTheFunction → IsDue said r n
due said r n e good law = record {
  usage = words_end said r n e;
  long = long_ends said r n e;
  missing = missing_ends said r n e;
  play = λ text k w. play_ends said r n e text w.left w.short w.read w.output k;
  bulk = λ seed mix k writes. bulk_ends said r n e seed mix k (good seed mix k) writes;
  show_dump = show_dump_ends said r n e;
  bad_dump = bad_dump_ends said r n e;
  audit = λ text k w. audit_ends said r n e text w.left w.short w.read w.output k;
  evacuate = λ from targets text k w. evacuate_ends said r n e text w.left w.short w.read w.output from targets k;
  record_trace = λ text k w. record_ends said r n e text w.left w.short w.read w.output k;
  node = λ id own text o k w t. node_ends said r n e text w.left w.short w.read w.output id own k o t.told_whole law t.link t.depot;
}
