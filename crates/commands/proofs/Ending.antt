-- What a run that stops leaves, once its last line is written, or a prefix of it.
use Rattle.std.proofs.Common.{arith, ◌≡◌, ◌≢◌, ◌≤◌, ◌+◌, ℕ, List, [], ◌++◌, Option, Some, None, Ok, Err, refl, ap, ap₂, subst, sym, ◌∙◌, inl, inr, append-nil, append_assoc}
use Rattle.rdma_types.specs.declared.names.Name.{Name}
use Rattle.rdma_types.specs.declared.requests.Address.{Address}
use Rattle.host_ports.specs.Streams.{Puts, TakesCount}
use Rattle.host_ports.proofs.Chains.{Puts-none, Puts-then}
use Rattle.workload_gen.specs.declared.plan.Mix.{Mix}
use Rattle.evac_rules.specs.Evacuation.{Fault, evacuation}
use Rattle.run_traces.specs.declared.trace_audit.verdicts.Verdict.{Verdict}
use Rattle.run_traces.specs.declared.trace_audit.verdicts.Verdict.TheVariants.{Illegal, Legal}
use Rattle.law_headline.specs.Left.{world_of}
use Rattle.law_headline.specs.Script.{BadLine, answers_text, bad_line}
use Rattle.node_rules.specs.Plan.{Plan}
use Rattle.node_rules.specs.Stops.{Rises}
use Rattle.node_rules.specs.Told.{Contents, Counts}
use Rattle.program_rules.specs.Commands as rules
use Rattle.program_rules.specs.Ends as ends
use Rattle.program_rules.specs.Ends.{Claims, CountsAs, CountsNone, Ends, IsCutOff, IsUnwrittenBy, IsWritten, code, uncut}
use Rattle.program_rules.specs.Headline.{AreAnswersRead, ImageText, IsAudited, IsCutShort, IsDoneBy, IsDumpRead, IsEvacuated, IsMissingBy, IsNotEmptiedBy, IsNotLegalBy, IsShortOfMemoryBy, IsStoppedAtBadLine, IsStoppedBy, IsToWriteBy, IsTooLong, IsUnread, IsWithoutDepotBy, IsWithoutLinkBy, bulk_text}
use Rattle.program_rules.specs.Nodes as nodes
use Rattle.program_rules.specs.Nodes.{ComesTo, CutsLine, EndsBeforeReading, EndsThere, IsNodeUnwritten, IsStartCut, IsStopCut, NodeStop, line_of_stop, stops_so}
use Rattle.program_rules.specs.Runs.{KeepsInput, KeepsOutside, KeepsUnused, ReadsInput, Run, TakesFew, WritesLine, command, input_limit}
use Rattle.program_rules.specs.Texts.{bad_dump_line, bad_line_line, depot_line, evacuation_text, long_line, memory_line, missing_line, usage_line, verdict_line}
use Rattle.script_runner.specs.Playing.{PutsPrefix}
use Rattle.commands.specs.declared.stop.Stop.{Stop}
use Rattle.commands.specs.declared.stop.Stop.TheVariants as stop
use Rattle.commands.specs.Stopping.{AuditStops, BulkStops, Counted, EvacuateStops, IsEvacuationCut, IsJudgedInPart, IsRecordedInPart, IsSilent, IsSummedUpInPart, IsToldInPart, MovesAreFollowed, NodeStops, Performs, PlayStops, RecordStops, ShowStops, StopsBy, StopsFor, WritesPrefix}
use Rattle.commands.specs.Writing.{last_line, status}

-- ---- a last line alone, and one behind a prefix

-- where nothing is put, all is as it was
nothing_put : (a b : Option (List ℕ)) → Puts a b [] → b ≡ a
nothing_put None b p = p
nothing_put (Some held) b p = p ∙ ap Some (append-nil held)

-- what is written behind nothing
behind_nothing : (r : Run) (w : Option (List ℕ)) (text : List ℕ) → IsSilent r → Puts r.after.written w text → Puts r.before.written w text
behind_nothing r w text s p = subst (λ h. Puts h w text) s p

-- ---- after the last line

-- the run once more was written
abbrev pub with_written : Run → Option (List ℕ) → Run
with_written r w = record r { after = record r.after { written = w } }

-- .. and the output counted so many faults
abbrev pub with_output : Run → Option (List ℕ) → ℕ → Run
with_output r w count = record r { after = record r.after { written = w; faults = record r.after.faults { output = count } } }

-- all is as it was, but for the text and the counts that are as they were, too
all_kept : (b a : Contents) (w : Option (List ℕ)) → a ≡ record b { written = a.written; faults = a.faults } → a.faults ≡ b.faults → w ≡ b.written → record a { written = w } ≡ b
all_kept b a w e f h = ap (λ (t : Contents). record t { written = w }) e ∙ ap₂ (λ (g : Counts) (v : Option (List ℕ)). record b { written = v; faults = g }) f h

-- .. or for the text alone
rest_kept : (b a : Contents) (w : Option (List ℕ)) → a ≡ record b { written = a.written; faults = a.faults } → a.faults ≡ b.faults → record a { written = w } ≡ record b { written = w }
rest_kept b a w e f = ap (λ (t : Contents). record t { written = w }) e ∙ ap (λ (g : Counts). record b { written = w; faults = g }) f

-- what was taken of the input is not changed by what is written
few_later : (r : Run) (t : Contents) → TakesFew r → TakesFew (record r { after = t })
few_later r t f = record { count = f.count; short = f.short; read = f.read }

-- nor what was read, and what an audit finds of it
audited_later : (r : Run) (t : Contents) (v : Verdict) → IsAudited r v → IsAudited (record r { after = t }) v
audited_later r t v a = record { text = a.text; read = a.read; short = a.short; steps = a.steps; says = a.says; finds = a.finds; right = a.right }

-- nor what is to be written
to_write_later : (said : ImageText) (r : Run) (t : Contents) (c : Option rules.Command) (text : List ℕ) → IsToWriteBy said r c text → IsToWriteBy said (record r { after = t }) c text
to_write_later said r t None text h = h
to_write_later said r t (Some rules.Play) text h = elim h [
  | inl e ↦ inl e
  | inr a ↦ inr (record { text = a.text; read = a.read; short = a.short; are = a.are; followed = a.followed })
]
to_write_later said r t (Some (rules.Bulk seed mix)) text h = h
to_write_later said r t (Some (rules.ShowDump name)) text h = elim h [
  | inl e ↦ inl e
  | inr a ↦ inr (record { bytes = a.bytes; found = a.found; image = a.image; place = a.place; rest = a.rest; reads = a.reads; is = a.is })
]
to_write_later said r t (Some (rules.Evacuate from targets)) text h = elim h [
  | inl e ↦ inl e
  | inr a ↦ inr (record { text = a.text; read = a.read; short = a.short; are = a.are; followed = a.followed })
]
to_write_later said r t (Some rules.Audit) text h = h
to_write_later said r t (Some rules.Record) text h = h
to_write_later said r t (Some (rules.Node id own)) text h = h

-- memory ran out, where a prefix was written of what a command writes
short : (said : ImageText) (r : Run) (w : Option (List ℕ)) (c : Option rules.Command) → command r ≡ c → TakesFew r → WritesPrefix (IsToWriteBy said r c) r → Puts r.after.written w memory_line → IsCutShort said (with_written r w)
short said r w c e few f p = record {
  few = few_later r (record r.after { written = w }) few;
  prefix = f.prefix;
  rest = f.rest;
  to_write = subst (λ k. IsToWriteBy said (with_written r w) k (f.prefix ++ f.rest)) (sym e) (to_write_later said r (record r.after { written = w }) c (f.prefix ++ f.rest) f.holds);
  written = Puts-then r.before.written r.after.written w f.prefix memory_line f.written p;
}

-- nothing was written
silent_prefix : (said : ImageText) (r : Run) (c : Option rules.Command) → IsToWriteBy said r c [] → IsSilent r → WritesPrefix (IsToWriteBy said r c) r
silent_prefix said r c n s = record { prefix = []; rest = []; holds = n; written = subst (λ h. Puts r.before.written h []) (sym s) (Puts-none r.before.written) }

-- ---- where a write failed: the rest is put behind what was written

-- these bytes more, where that is told
abbrev with_more : Option (List ℕ) → List ℕ → Option (List ℕ)
with_more None rest = None
with_more (Some held) rest = Some (held ++ rest)

puts_more : (held : Option (List ℕ)) (rest : List ℕ) → Puts held (with_more held rest) rest
puts_more None rest = refl
puts_more (Some held) rest = refl

-- a text is whole with its rest
put_whole : (a b : Option (List ℕ)) (prefix rest text : List ℕ) → Puts a b prefix → prefix ++ rest ≡ text → Puts a (with_more b rest) text
put_whole a b prefix rest text p whole = subst (λ t. Puts a (with_more b rest) t) whole (Puts-then a b (with_more b rest) prefix rest p (puts_more b rest))

-- the count of the output is taken back
abbrev IsCountedBack : Run → Type 0
IsCountedBack r = (r.input_faults_after ≡ r.input_faults) × (record r.after.faults { output = r.before.faults.output } ≡ r.before.faults)

counted_back : (r : Run) → Counted {U = Unit {0}} (Err stop.WriteFault) r.input_faults r.input_faults_after r.before.faults r.after.faults → IsCountedBack r
counted_back r c = (c.0, ap (λ (f : Counts). record f { output = r.before.faults.output }) c.2)

-- nothing taken
takes_nothing : (left : Option (List ℕ)) → TakesCount left left 0
takes_nothing None = refl
takes_nothing (Some l) = (omega arith, refl)

zero_few : 0 ≤ input_limit
zero_few = omega arith

-- ---- what each stop leaves

module _ (said : ImageText) (r : Run) (k : IsCountedBack r) where
  -- the answers to the lines before a bad one were written in part: with what is left of them, and the last line, it is a run that
  -- stopped there
  bad_line_cut : (c : rules.Command) → command r ≡ Some c → ((x : Run) → IsStoppedAtBadLine x → IsStoppedBy x (Some c)) → (s : WritesPrefix (AreAnswersRead r) r) → (bad : BadLine) → bad_line s.holds.text ≡ Some bad → IsCutOff said r
  bad_line_cut c e stops s bad first = record {
    rest = s.rest ++ bad_line_line bad;
    whole = with_more r.after.written (s.rest ++ bad_line_line bad);
    missing = puts_more r.after.written (s.rest ++ bad_line_line bad);
    status = ends.BadInput;
    is = subst (IsStoppedBy (uncut r (with_more r.after.written (s.rest ++ bad_line_line bad)))) (sym e) (stops (uncut r (with_more r.after.written (s.rest ++ bad_line_line bad))) (record {
      text = s.holds.text;
      read = s.holds.read;
      short = s.holds.short;
      bad = bad;
      first = first;
      written = put_whole r.before.written r.after.written s.prefix (s.rest ++ bad_line_line bad) (answers_text s.holds.text ++ bad_line_line bad) s.written (sym (append_assoc s.prefix s.rest (bad_line_line bad)) ∙ ap (λ xs. xs ++ bad_line_line bad) s.holds.are);
      followed = s.holds.followed;
    }));
    counts = k;
  }

  -- the answers were written in part
  answers_cut : command r ≡ Some rules.Play → WritesPrefix (AreAnswersRead r) r → IsCutOff said r
  answers_cut e s = by_line (bad_line s.holds.text) refl
    where
      by_line : (b : Option BadLine) → bad_line s.holds.text ≡ b → IsCutOff said r
      by_line None good = record {
        rest = s.rest;
        whole = with_more r.after.written s.rest;
        missing = puts_more r.after.written s.rest;
        status = ends.Done;
        is = subst (IsDoneBy said (uncut r (with_more r.after.written s.rest))) (sym e) (record {
          text = s.holds.text;
          read = s.holds.read;
          short = s.holds.short;
          good = good;
          written = put_whole r.before.written r.after.written s.prefix s.rest (answers_text s.holds.text) s.written s.holds.are;
          followed = s.holds.followed;
        });
        counts = k;
      }
      by_line (Some bad) first = bad_line_cut rules.Play e (λ x h. h) s bad first

  -- the summary was
  summary_cut : (seed : ℕ) (mix : Mix) → command r ≡ Some (rules.Bulk seed mix) → IsSummedUpInPart r seed mix → IsCutOff said r
  summary_cut seed mix e s = record {
    rest = s.prefix.rest;
    whole = with_more r.after.written s.prefix.rest;
    missing = puts_more r.after.written s.prefix.rest;
    status = ends.Done;
    is = subst (IsDoneBy said (uncut r (with_more r.after.written s.prefix.rest))) (sym e) (record {
      good = s.good;
      written = put_whole r.before.written r.after.written s.prefix.prefix s.prefix.rest (bulk_text seed mix) s.prefix.written s.prefix.holds;
      followed = s.followed;
    });
    counts = k;
  }

  -- the text of a dump was
  text_cut : (own : Name) → command r ≡ Some (rules.ShowDump own) → WritesPrefix (IsDumpRead said r own) r → IsCutOff said r
  text_cut own e s = record {
    rest = s.rest;
    whole = with_more r.after.written s.rest;
    missing = puts_more r.after.written s.rest;
    status = ends.Done;
    is = subst (IsDoneBy said (uncut r (with_more r.after.written s.rest))) (sym e) (record {
      bytes = s.holds.bytes;
      found = s.holds.found;
      image = s.holds.image;
      place = s.holds.place;
      rest = s.holds.rest;
      reads = s.holds.reads;
      written = put_whole r.before.written r.after.written s.prefix s.rest (said s.holds.image) s.written s.holds.is;
    });
    counts = k;
  }

  -- the verdict on a run of the machine was
  verdict_cut : command r ≡ Some rules.Audit → IsJudgedInPart r → IsCutOff said r
  verdict_cut e s = record {
    rest = s.prefix.rest;
    whole = with_more r.after.written s.prefix.rest;
    missing = puts_more r.after.written s.prefix.rest;
    status = ends.Done;
    is = subst (IsDoneBy said (uncut r (with_more r.after.written s.prefix.rest))) (sym e) (record {
      verbs = s.verbs;
      inner = s.inner;
      audited = audited_later r (uncut r (with_more r.after.written s.prefix.rest)).after (Legal s.verbs s.inner) s.audited;
      written = put_whole r.before.written r.after.written s.prefix.prefix s.prefix.rest (verdict_line (Legal s.verbs s.inner)) s.prefix.written s.prefix.holds;
    });
    counts = k;
  }

  -- the trace of a script was
  trace_cut : command r ≡ Some rules.Record → IsRecordedInPart r → IsCutOff said r
  trace_cut e s = record {
    rest = s.prefix.rest;
    whole = with_more r.after.written s.prefix.rest;
    missing = puts_more r.after.written s.prefix.rest;
    status = ends.Done;
    is = subst (IsDoneBy said (uncut r (with_more r.after.written s.prefix.rest))) (sym e) (record {
      text = s.text;
      read = s.read;
      short = s.short;
      trace = s.trace;
      is = s.is;
      steps = s.steps;
      says = s.says;
      run = s.run;
      written = put_whole r.before.written r.after.written s.prefix.prefix s.prefix.rest s.trace s.prefix.written s.prefix.holds;
    });
    counts = k;
  }

  -- `evacuate`: all of it, where the rest is put behind what was written
  module _ (from : ℕ) (targets : List ℕ) (e : command r ≡ Some (rules.Evacuate from targets)) where
    abbrev Tells : List ℕ → List ℕ → Type 0
    Tells text rest = (fault : Option Fault) → (evacuation (world_of text) from targets).fault ≡ fault → IsEvacuated (uncut r (with_more r.after.written rest)) from targets fault

    -- emptied or not, that is a run
    ended_cut : (text rest : List ℕ) → Tells text rest → IsCutOff said r
    ended_cut text rest tells = by (evacuation (world_of text) from targets).fault refl
      where
        by : (f : Option Fault) → (evacuation (world_of text) from targets).fault ≡ f → IsCutOff said r
        by None is = record {
          rest = rest;
          whole = with_more r.after.written rest;
          missing = puts_more r.after.written rest;
          status = ends.Done;
          is = subst (IsDoneBy said (uncut r (with_more r.after.written rest))) (sym e) (tells None is);
          counts = k;
        }
        by (Some f) is = record {
          rest = rest;
          whole = with_more r.after.written rest;
          missing = puts_more r.after.written rest;
          status = ends.NotEmptied;
          is = subst (IsNotEmptiedBy (uncut r (with_more r.after.written rest))) (sym e) (record { fault = f; is = tells (Some f) is });
          counts = k;
        }

    -- the answers were written in part
    evacuation_answers_cut : ((text : List ℕ) → MovesAreFollowed from targets text) → WritesPrefix (AreAnswersRead r) r → IsCutOff said r
    evacuation_answers_cut moves s = by_line (bad_line s.holds.text) refl
      where
        by_line : (b : Option BadLine) → bad_line s.holds.text ≡ b → IsCutOff said r
        by_line None good = ended_cut s.holds.text (s.rest ++ evacuation_text (evacuation (world_of s.holds.text) from targets)) (λ fault is. record {
          text = s.holds.text;
          read = s.holds.read;
          short = s.holds.short;
          good = good;
          ended = is;
          written = put_whole r.before.written r.after.written s.prefix (s.rest ++ evacuation_text (evacuation (world_of s.holds.text) from targets)) (answers_text s.holds.text ++ evacuation_text (evacuation (world_of s.holds.text) from targets)) s.written
              (sym (append_assoc s.prefix s.rest (evacuation_text (evacuation (world_of s.holds.text) from targets))) ∙ ap (λ xs. xs ++ evacuation_text (evacuation (world_of s.holds.text) from targets)) s.holds.are);
          followed = s.holds.followed;
          moves = moves s.holds.text;
        })
        by_line (Some bad) first = bad_line_cut (rules.Evacuate from targets) e (λ x h. h) s bad first

    -- what becomes of the contexts was
    tale_cut : ((text : List ℕ) → MovesAreFollowed from targets text) → IsToldInPart r from targets → IsCutOff said r
    tale_cut moves s = ended_cut s.text s.rest (λ fault is. record {
      text = s.text;
      read = s.read;
      short = s.short;
      good = s.good;
      ended = is;
      written = put_whole r.before.written r.after.written (answers_text s.text ++ s.prefix) s.rest (answers_text s.text ++ evacuation_text (evacuation (world_of s.text) from targets)) s.written
          (append_assoc (answers_text s.text) s.prefix s.rest ∙ ap (λ xs. answers_text s.text ++ xs) (sym s.splits));
      followed = s.followed;
      moves = moves s.text;
    })

    evacuation_cut : IsEvacuationCut r from targets → IsCutOff said r
    evacuation_cut s = elim s.prefix [ inl a ↦ evacuation_answers_cut s.moves a | inr t ↦ tale_cut s.moves t ]

-- what is claimed of the run as it is, where no last line was written
no_line : (said : ImageText) (r : Run) (w : Option (List ℕ)) → Puts r.after.written w [] → Claims said r ends.Unwritten → Claims said (with_written r w) ends.Unwritten
no_line said r w p c = subst (λ v. Claims said (with_written r v) ends.Unwritten) (sym (nothing_put r.after.written w p)) c

-- no count but that of the input rose
abbrev IsQuiet : Run → Type 0
IsQuiet r = r.after.faults ≡ r.before.faults

-- all but what was written, and the counts, is as it was
abbrev OnlyWrites : Run → Type 0
OnlyWrites r = r.after ≡ record r.before { written = r.after.written; faults = r.after.faults }

-- the counts that a stop leaves
abbrev StopCounts : Run → Stop → Type 0
StopCounts r x = Counted {U = Unit {0}} (Err x) r.input_faults r.input_faults_after r.before.faults r.after.faults

module _ (said : ImageText) (r : Run) (w : Option (List ℕ)) where
  -- the input was not read to its end
  unread : (c : rules.Command) → command r ≡ Some c → ReadsInput (Some c) → OnlyWrites r → IsQuiet r → IsSilent r × TakesFew r → Puts r.after.written w [] → IsUnread (with_written r w)
  unread c e reads o q s p = record {
    reads = subst ReadsInput (sym e) reads;
    few = few_later r (record r.after { written = w }) s.1;
    kept = all_kept r.before r.after w o q (nothing_put r.after.written w p ∙ s.0);
  }

  -- it is too long
  too_long : (c : rules.Command) → command r ≡ Some c → ReadsInput (Some c) → OnlyWrites r → IsQuiet r → (s : IsSilent r) → TakesCount r.left r.left_after (input_limit + 1) → Puts r.after.written w long_line → IsTooLong (with_written r w)
  too_long c e reads o q s t p = record {
    reads = subst ReadsInput (sym e) reads;
    read = t;
    last = record { written = behind_nothing r w long_line s p; others = rest_kept r.before r.after w o q };
  }

  -- the words are of no command
  words_end : command r ≡ None → (x : Stop) → StopsBy said r None x → Puts r.after.written w (last_line x) → Claims said (with_written r w) (status x)
  words_end e stop.Usage s p = record { no_command = e; written = behind_nothing r w usage_line s p }
  words_end e (stop.BadLine line column why) s p = absurd s
  words_end e (stop.BadDump place why) s p = absurd s
  words_end e stop.ReadFault s p = absurd s
  words_end e stop.WriteFault s p = absurd s
  words_end e stop.LinkFault s p = absurd s
  words_end e stop.DepotFault s p = absurd s
  words_end e stop.OutOfMemory s p = absurd s
  words_end e stop.TooLong s p = absurd s
  words_end e (stop.Missing name) s p = absurd s
  words_end e (stop.Illegal line why) s p = absurd s
  words_end e stop.NotEmptied s p = absurd s

  -- `play`
  play_end : command r ≡ Some rules.Play → OnlyWrites r → (x : Stop) → PlayStops r x → StopCounts r x → Puts r.after.written w (last_line x) → Claims said (with_written r w) (status x)
  play_end e o stop.Usage s c p = absurd s
  play_end e o (stop.BadLine line column why) s c p = subst (IsStoppedBy (with_written r w)) (sym e) (record {
    text = s.text;
    read = s.read;
    short = s.short;
    bad = record { number = line; offence = record { column = column; why = why } };
    first = s.first;
    written = Puts-then r.before.written r.after.written w (answers_text s.text) (bad_line_line (record { number = line; offence = record { column = column; why = why } })) s.written p;
    followed = s.followed;
  })
  play_end e o (stop.BadDump place why) s c p = absurd s
  play_end e o stop.ReadFault s c p = unread rules.Play e tt o c.1 s p
  play_end e o stop.WriteFault s c p = no_line said r w p (subst (IsUnwrittenBy said r) (sym e) (answers_cut said r (counted_back r c) e s))
  play_end e o stop.LinkFault s c p = absurd s
  play_end e o stop.DepotFault s c p = absurd s
  play_end e o stop.OutOfMemory s c p = subst (IsShortOfMemoryBy said (with_written r w)) (sym e) (short said r w (Some rules.Play) e s.0 s.1 p)
  play_end e o stop.TooLong s c p = too_long rules.Play e tt o c.1 s.0 s.1 p
  play_end e o (stop.Missing name) s c p = absurd s
  play_end e o (stop.Illegal line why) s c p = absurd s
  play_end e o stop.NotEmptied s c p = absurd s

  -- `bulk`
  bulk_end : (seed : ℕ) (mix : Mix) → command r ≡ Some (rules.Bulk seed mix) → TakesFew r → (x : Stop) → BulkStops seed mix r x → StopCounts r x → Puts r.after.written w (last_line x) → Claims said (with_written r w) (status x)
  bulk_end seed mix e few stop.Usage s c p = absurd s
  bulk_end seed mix e few (stop.BadLine line column why) s c p = subst (IsStoppedBy (with_written r w)) (sym e) (record {
    bad = record { number = line; offence = record { column = column; why = why } };
    first = s.1;
    written = behind_nothing r w (bad_line_line (record { number = line; offence = record { column = column; why = why } })) s.0 p;
  })
  bulk_end seed mix e few (stop.BadDump place why) s c p = absurd s
  bulk_end seed mix e few stop.ReadFault s c p = absurd s
  bulk_end seed mix e few stop.WriteFault s c p = no_line said r w p (subst (IsUnwrittenBy said r) (sym e) (summary_cut said r (counted_back r c) seed mix e s))
  bulk_end seed mix e few stop.LinkFault s c p = absurd s
  bulk_end seed mix e few stop.DepotFault s c p = absurd s
  bulk_end seed mix e few stop.OutOfMemory s c p = subst (IsShortOfMemoryBy said (with_written r w)) (sym e) (short said r w (Some (rules.Bulk seed mix)) e few (silent_prefix said r (Some (rules.Bulk seed mix)) (inl refl) s) p)
  bulk_end seed mix e few stop.TooLong s c p = absurd s
  bulk_end seed mix e few (stop.Missing name) s c p = absurd s
  bulk_end seed mix e few (stop.Illegal line why) s c p = absurd s
  bulk_end seed mix e few stop.NotEmptied s c p = absurd s

  -- `show-dump`
  show_end : (own : Name) → command r ≡ Some (rules.ShowDump own) → TakesFew r → (x : Stop) → ShowStops said own r x → StopCounts r x → Puts r.after.written w (last_line x) → Claims said (with_written r w) (status x)
  show_end own e few stop.Usage s c p = absurd s
  show_end own e few (stop.BadLine line column why) s c p = absurd s
  show_end own e few (stop.BadDump place why) s c p = subst (IsStoppedBy (with_written r w)) (sym e) (record {
    bytes = s.1.bytes;
    found = s.1.found;
    place = place;
    why = why;
    reads = s.1.reads;
    written = behind_nothing r w (bad_dump_line place why) s.0 p;
  })
  show_end own e few stop.ReadFault s c p = absurd s
  show_end own e few stop.WriteFault s c p = no_line said r w p (subst (IsUnwrittenBy said r) (sym e) (text_cut said r (counted_back r c) own e s))
  show_end own e few stop.LinkFault s c p = absurd s
  show_end own e few stop.DepotFault s c p = subst (IsWithoutDepotBy (with_written r w)) (sym e) (behind_nothing r w depot_line s p)
  show_end own e few stop.OutOfMemory s c p = subst (IsShortOfMemoryBy said (with_written r w)) (sym e) (short said r w (Some (rules.ShowDump own)) e few (silent_prefix said r (Some (rules.ShowDump own)) (inl refl) s) p)
  show_end own e few stop.TooLong s c p = absurd s
  show_end own e few (stop.Missing name) s c p = subst (IsMissingBy (with_written r w)) (sym e) (s.2, subst (λ n. Puts r.before.written w (missing_line n)) s.1 (behind_nothing r w (missing_line name) s.0 p))
  show_end own e few (stop.Illegal line why) s c p = absurd s
  show_end own e few stop.NotEmptied s c p = absurd s

  -- `audit`
  audit_end : command r ≡ Some rules.Audit → OnlyWrites r → (x : Stop) → AuditStops r x → StopCounts r x → Puts r.after.written w (last_line x) → Claims said (with_written r w) (status x)
  audit_end e o stop.Usage s c p = absurd s
  audit_end e o (stop.BadLine line column why) s c p = subst (IsStoppedBy (with_written r w)) (sym e) (record {
    text = s.1.text;
    read = s.1.read;
    short = s.1.short;
    bad = record { number = line; offence = record { column = column; why = why } };
    first = s.1.first;
    written = behind_nothing r w (bad_line_line (record { number = line; offence = record { column = column; why = why } })) s.0 p;
  })
  audit_end e o (stop.BadDump place why) s c p = absurd s
  audit_end e o stop.ReadFault s c p = unread rules.Audit e tt o c.1 s p
  audit_end e o stop.WriteFault s c p = no_line said r w p (subst (IsUnwrittenBy said r) (sym e) (verdict_cut said r (counted_back r c) e s))
  audit_end e o stop.LinkFault s c p = absurd s
  audit_end e o stop.DepotFault s c p = absurd s
  audit_end e o stop.OutOfMemory s c p = subst (IsShortOfMemoryBy said (with_written r w)) (sym e) (short said r w (Some rules.Audit) e s.1 (silent_prefix said r (Some rules.Audit) refl s.0) p)
  audit_end e o stop.TooLong s c p = too_long rules.Audit e tt o c.1 s.0 s.1 p
  audit_end e o (stop.Missing name) s c p = absurd s
  audit_end e o (stop.Illegal line why) s c p = subst (IsNotLegalBy (with_written r w)) (sym e) (record {
    line = line;
    why = why;
    audited = audited_later r (record r.after { written = w }) (Illegal line why) s.1;
    written = behind_nothing r w (verdict_line (Illegal line why)) s.0 p;
  })
  audit_end e o stop.NotEmptied s c p = absurd s

  -- `record`
  record_end : command r ≡ Some rules.Record → OnlyWrites r → (x : Stop) → RecordStops r x → StopCounts r x → Puts r.after.written w (last_line x) → Claims said (with_written r w) (status x)
  record_end e o stop.Usage s c p = absurd s
  record_end e o (stop.BadLine line column why) s c p = subst (IsStoppedBy (with_written r w)) (sym e) (record {
    text = s.1.text;
    read = s.1.read;
    short = s.1.short;
    bad = record { number = line; offence = record { column = column; why = why } };
    first = s.1.first;
    written = behind_nothing r w (bad_line_line (record { number = line; offence = record { column = column; why = why } })) s.0 p;
  })
  record_end e o (stop.BadDump place why) s c p = absurd s
  record_end e o stop.ReadFault s c p = unread rules.Record e tt o c.1 s p
  record_end e o stop.WriteFault s c p = no_line said r w p (subst (IsUnwrittenBy said r) (sym e) (trace_cut said r (counted_back r c) e s))
  record_end e o stop.LinkFault s c p = absurd s
  record_end e o stop.DepotFault s c p = absurd s
  record_end e o stop.OutOfMemory s c p = subst (IsShortOfMemoryBy said (with_written r w)) (sym e) (short said r w (Some rules.Record) e s.1 (silent_prefix said r (Some rules.Record) refl s.0) p)
  record_end e o stop.TooLong s c p = too_long rules.Record e tt o c.1 s.0 s.1 p
  record_end e o (stop.Missing name) s c p = absurd s
  record_end e o (stop.Illegal line why) s c p = absurd s
  record_end e o stop.NotEmptied s c p = absurd s

  -- `evacuate`
  evacuate_end : (from : ℕ) (targets : List ℕ) → command r ≡ Some (rules.Evacuate from targets) → OnlyWrites r → (x : Stop) → EvacuateStops from targets r x → StopCounts r x → Puts r.after.written w (last_line x) → Claims said (with_written r w) (status x)
  evacuate_end from targets e o stop.Usage s c p = absurd s
  evacuate_end from targets e o (stop.BadLine line column why) s c p = subst (IsStoppedBy (with_written r w)) (sym e) (record {
    text = s.text;
    read = s.read;
    short = s.short;
    bad = record { number = line; offence = record { column = column; why = why } };
    first = s.first;
    written = Puts-then r.before.written r.after.written w (answers_text s.text) (bad_line_line (record { number = line; offence = record { column = column; why = why } })) s.written p;
    followed = s.followed;
  })
  evacuate_end from targets e o (stop.BadDump place why) s c p = absurd s
  evacuate_end from targets e o stop.ReadFault s c p = unread (rules.Evacuate from targets) e tt o c.1 s p
  evacuate_end from targets e o stop.WriteFault s c p = no_line said r w p (subst (IsUnwrittenBy said r) (sym e) (evacuation_cut said r (counted_back r c) from targets e s))
  evacuate_end from targets e o stop.LinkFault s c p = absurd s
  evacuate_end from targets e o stop.DepotFault s c p = absurd s
  evacuate_end from targets e o stop.OutOfMemory s c p = subst (IsShortOfMemoryBy said (with_written r w)) (sym e) (short said r w (Some (rules.Evacuate from targets)) e s.0 s.1 p)
  evacuate_end from targets e o stop.TooLong s c p = too_long (rules.Evacuate from targets) e tt o c.1 s.0 s.1 p
  evacuate_end from targets e o (stop.Missing name) s c p = absurd s
  evacuate_end from targets e o (stop.Illegal line why) s c p = absurd s
  evacuate_end from targets e o stop.NotEmptied s c p = subst (IsNotEmptiedBy (with_written r w)) (sym e) (record {
    fault = s.fault;
    is = record {
      text = s.is.text;
      read = s.is.read;
      short = s.is.short;
      good = s.is.good;
      ended = s.is.ended;
      written = subst (λ h. Puts r.before.written h (answers_text s.is.text ++ evacuation_text (evacuation (world_of s.is.text) from targets))) (sym (nothing_put r.after.written w p)) s.is.written;
      followed = s.is.followed;
      moves = s.is.moves;
    };
  })

  -- `node`: the last line is written where it came to
  module _ (id : ℕ) (own : Address) (e : command r ≡ Some (rules.Node id own)) where
    ends_there : (Stop : Plan → Contents → Contents → Type 0) (line : List ℕ) → ComesTo r id own Stop r.after → Puts r.after.written w line → EndsThere (with_written r w) id own Stop line
    ends_there Stop line c p = record {
      reached = r.after;
      comes = record { text = c.text; read = c.read; short = c.short; stopped = c.stopped };
      last = record { written = p; others = refl };
    }

    -- or nothing else was touched
    touches_nothing : (line : List ℕ) → r.after ≡ r.before → Puts r.after.written w line → WritesLine line r.before (record r.after { written = w })
    touches_nothing line same p = record {
      written = subst (λ (t : Contents). Puts t.written w line) same p;
      others = ap (λ (t : Contents). record t { written = w }) same;
    }

    node_end : (x : Stop) → NodeStops id own r x → StopCounts r x → Puts r.after.written w (last_line x) → Claims said (with_written r w) (status x)
    node_end stop.Usage s c p = absurd s
    node_end (stop.BadLine line column why) s c p = subst (IsStoppedBy (with_written r w)) (sym e) (inl (record { bad = record { number = line; offence = record { column = column; why = why } }; ends = ends_there _ _ s p }))
    node_end (stop.BadDump place why) s c p = subst (IsStoppedBy (with_written r w)) (sym e) (inr (record { place = place; why = why; ends = ends_there _ _ s p }))
    node_end stop.ReadFault s c p = record { reads = subst ReadsInput (sym e) tt; few = few_later r (record r.after { written = w }) s.1; kept = subst (λ v. record r.after { written = v } ≡ r.before) (sym (nothing_put r.after.written w p)) s.0 }
    node_end stop.WriteFault s c p = no_line said r w p (subst (IsUnwrittenBy said r) (sym e) (inl s))
    node_end stop.LinkFault s c p = subst (IsWithoutLinkBy (with_written r w)) (sym e) (ends_there _ _ s p)
    node_end stop.DepotFault s c p = subst (IsWithoutDepotBy (with_written r w)) (sym e) (ends_there _ _ s p)
    node_end stop.OutOfMemory s c p = subst (IsShortOfMemoryBy said (with_written r w)) (sym e) (elim s [ inl c ↦ inl (ends_there _ _ c p) | inr b ↦ inr (record { few = few_later r (record r.after { written = w }) b.1; last = touches_nothing memory_line b.0 p }) ])
    node_end stop.TooLong s c p = record { reads = subst ReadsInput (sym e) tt; read = s.1; last = touches_nothing long_line s.0 p }
    node_end (stop.Missing name) s c p = subst (IsMissingBy (with_written r w)) (sym e) (record { name = name; ends = ends_there _ _ s p })
    node_end (stop.Illegal line why) s c p = absurd s
    node_end stop.NotEmptied s c p = absurd s

  -- nothing was taken of an input that is not read
  few_kept : r.left_after ≡ r.left → TakesFew r
  few_kept same = record { count = 0; short = zero_few; read = subst (λ l. TakesCount r.left l 0) (sym same) (takes_nothing r.left) }

  end_by : (k : Option rules.Command) → command r ≡ k → KeepsInput r k → KeepsOutside r k → (x : Stop) → StopsBy said r k x → StopCounts r x → Puts r.after.written w (last_line x) → Claims said (with_written r w) (status x)
  end_by None e i o x s c p = words_end e x s p
  end_by (Some rules.Play) e i o x s c p = play_end e o x s c p
  end_by (Some (rules.Bulk seed mix)) e i o x s c p = bulk_end seed mix e (few_kept i) x s c p
  end_by (Some (rules.ShowDump own)) e i o x s c p = show_end own e (few_kept i) x s c p
  end_by (Some (rules.Evacuate from targets)) e i o x s c p = evacuate_end from targets e o x s c p
  end_by (Some rules.Audit) e i o x s c p = audit_end e o x s c p
  end_by (Some rules.Record) e i o x s c p = record_end e o x s c p
  end_by (Some (rules.Node id own)) e i o x s c p = node_end id own e x s c p

  -- the command of the run
  stopped : (x : Stop) → StopsFor said r x → StopCounts r x → KeepsUnused r → Puts r.after.written w (last_line x) → Claims said (with_written r w) (status x)
  stopped x s c u p = end_by (command r) refl u.input u.outside x s c p

-- ---- counts

-- a stop leaves the counts of its status
stop_counts : (r : Run) (w : Option (List ℕ)) (x : Stop) → StopCounts r x → CountsAs (with_written r w) (status x)
stop_counts r w stop.Usage c = c
stop_counts r w (stop.BadLine line column why) c = c
stop_counts r w (stop.BadDump place why) c = c
stop_counts r w stop.ReadFault c = c
stop_counts r w stop.WriteFault c = (c.0, c.1)
stop_counts r w stop.LinkFault c = c
stop_counts r w stop.DepotFault c = c
stop_counts r w stop.OutOfMemory c = c
stop_counts r w stop.TooLong c = c
stop_counts r w (stop.Missing name) c = c
stop_counts r w (stop.Illegal line why) c = c
stop_counts r w stop.NotEmptied c = c

abbrev output_of : Counts → ℕ
output_of c = c.output

-- but for a fault of the output, its count is as it was
output_kept : (r : Run) (x : Stop) → x ≢ stop.WriteFault → StopCounts r x → r.after.faults.output ≡ r.before.faults.output
output_kept r stop.Usage n c = ap output_of c.1
output_kept r (stop.BadLine line column why) n c = ap output_of c.1
output_kept r (stop.BadDump place why) n c = ap output_of c.1
output_kept r stop.ReadFault n c = ap output_of c.1
output_kept r stop.WriteFault n c = absurd (n refl)
output_kept r stop.LinkFault n c = ap output_of c.2
output_kept r stop.DepotFault n c = ap output_of c.2
output_kept r stop.OutOfMemory n c = ap output_of c.1
output_kept r stop.TooLong n c = ap output_of c.1
output_kept r (stop.Missing name) n c = ap output_of c.1
output_kept r (stop.Illegal line why) n c = ap output_of c.1
output_kept r stop.NotEmptied n c = ap output_of c.1

-- the counts that a stop leaves, once that of the output is taken back
cut_counts : (r : Run) (w whole : Option (List ℕ)) (n : ℕ) (x : Stop) → x ≢ stop.ReadFault → x ≢ stop.WriteFault → StopCounts r x → CountsAs (uncut (with_output r w n) whole) (status x)
cut_counts r w whole n stop.Usage not_read not_written c = (c.0, ap (λ (f : Counts). record f { output = r.before.faults.output }) c.1)
cut_counts r w whole n (stop.BadLine line column why) not_read not_written c = (c.0, ap (λ (f : Counts). record f { output = r.before.faults.output }) c.1)
cut_counts r w whole n (stop.BadDump place why) not_read not_written c = (c.0, ap (λ (f : Counts). record f { output = r.before.faults.output }) c.1)
cut_counts r w whole n stop.ReadFault not_read not_written c = absurd (not_read refl)
cut_counts r w whole n stop.WriteFault not_read not_written c = absurd (not_written refl)
cut_counts r w whole n stop.LinkFault not_read not_written c = (c.0, c.1, ap (λ (f : Counts). record f { output = r.before.faults.output }) c.2)
cut_counts r w whole n stop.DepotFault not_read not_written c = (c.0, c.1, ap (λ (f : Counts). record f { output = r.before.faults.output }) c.2)
cut_counts r w whole n stop.OutOfMemory not_read not_written c = (c.0, ap (λ (f : Counts). record f { output = r.before.faults.output }) c.1)
cut_counts r w whole n stop.TooLong not_read not_written c = (c.0, ap (λ (f : Counts). record f { output = r.before.faults.output }) c.1)
cut_counts r w whole n (stop.Missing name) not_read not_written c = (c.0, ap (λ (f : Counts). record f { output = r.before.faults.output }) c.1)
cut_counts r w whole n (stop.Illegal line why) not_read not_written c = (c.0, ap (λ (f : Counts). record f { output = r.before.faults.output }) c.1)
cut_counts r w whole n stop.NotEmptied not_read not_written c = (c.0, ap (λ (f : Counts). record f { output = r.before.faults.output }) c.1)

-- .. and that the input's count stands
input_kept : (r : Run) (x : Stop) → x ≢ stop.ReadFault → StopCounts r x → r.input_faults_after ≡ r.input_faults
input_kept r stop.Usage n c = c.0
input_kept r (stop.BadLine line column why) n c = c.0
input_kept r (stop.BadDump place why) n c = c.0
input_kept r stop.ReadFault n c = absurd (n refl)
input_kept r stop.WriteFault n c = c.0
input_kept r stop.LinkFault n c = c.0
input_kept r stop.DepotFault n c = c.0
input_kept r stop.OutOfMemory n c = c.0
input_kept r stop.TooLong n c = c.0
input_kept r (stop.Missing name) n c = c.0
input_kept r (stop.Illegal line why) n c = c.0
input_kept r stop.NotEmptied n c = c.0

-- ---- what is not used

-- whatever is written
keeps_input : (r : Run) (t : Contents) (k : Option rules.Command) → KeepsInput r k → KeepsInput (record r { after = t }) k
keeps_input r t None k = k
keeps_input r t (Some rules.Play) k = k
keeps_input r t (Some (rules.Bulk seed mix)) k = k
keeps_input r t (Some (rules.ShowDump name)) k = k
keeps_input r t (Some (rules.Evacuate from targets)) k = k
keeps_input r t (Some rules.Audit) k = k
keeps_input r t (Some rules.Record) k = k
keeps_input r t (Some (rules.Node id own)) k = k

module _ (r : Run) (w : Option (List ℕ)) (n : ℕ) where
  only_writes : OnlyWrites r → OnlyWrites (with_output r w n)
  only_writes o = ap (λ (t : Contents). record t { written = w; faults = record r.after.faults { output = n } }) o

  keeps_outside : (k : Option rules.Command) → KeepsOutside r k → KeepsOutside (with_output r w n) k
  keeps_outside None o = only_writes o
  keeps_outside (Some rules.Play) o = only_writes o
  keeps_outside (Some (rules.Bulk seed mix)) o = only_writes o
  keeps_outside (Some (rules.ShowDump name)) o = only_writes o
  keeps_outside (Some (rules.Evacuate from targets)) o = only_writes o
  keeps_outside (Some rules.Audit) o = only_writes o
  keeps_outside (Some rules.Record) o = only_writes o
  keeps_outside (Some (rules.Node id own)) o = o

  keeps_unused : KeepsUnused r → KeepsUnused (with_output r w n)
  keeps_unused u = record { input = keeps_input r (record r.after { written = w; faults = record r.after.faults { output = n } }) (command r) u.input; outside = keeps_outside (command r) u.outside }

-- ---- how it ends

-- the command is done
pub done_ends : {U : Type 0} (said : ImageText) (r : Run) (d : U) → Performs {U = U} said r (Ok d) → Ends said r 0
done_ends said r d p = record { status = ends.Done; is = refl; claims = p.comes; counts = p.counts; unused = p.unused }

-- each stop with a last line is of a run that writes
written_by : (said : ImageText) (r : Run) (x : Stop) → x ≢ stop.ReadFault → x ≢ stop.WriteFault → Claims said r (status x) → IsWritten said r (status x)
written_by said r stop.Usage n m h = h
written_by said r (stop.BadLine line column why) n m h = h
written_by said r (stop.BadDump place why) n m h = h
written_by said r stop.ReadFault n m h = absurd (n refl)
written_by said r stop.WriteFault n m h = absurd (m refl)
written_by said r stop.LinkFault n m h = h
written_by said r stop.DepotFault n m h = h
written_by said r stop.OutOfMemory n m h = h
written_by said r stop.TooLong n m h = h
written_by said r (stop.Missing name) n m h = h
written_by said r (stop.Illegal line why) n m h = h
written_by said r stop.NotEmptied n m h = h

-- the last line of a node is cut off where it came to
module _ (r : Run) (w : Option (List ℕ)) (n : ℕ) (rises : Rises r.after.faults.output n) (id : ℕ) (own : Address) where
  cuts_line : (line : List ℕ) → PutsPrefix r.after.written w line → CutsLine line r.after (with_output r w n).after
  cuts_line line p = record { prefix = p.prefix; rest = p.rest; splits = p.splits; written = p.put; counted = rises; others = refl }

  -- or where it began
  cuts_first_line : (line : List ℕ) → r.after ≡ r.before → PutsPrefix r.after.written w line → CutsLine line r.before (with_output r w n).after
  cuts_first_line line same p = subst (λ (t : Contents). CutsLine line t (with_output r w n).after) same (cuts_line line p)

  stop_cut : (why : NodeStop) → ComesTo r id own (stops_so why) r.after → PutsPrefix r.after.written w (line_of_stop why) → IsNodeUnwritten (with_output r w n) id own
  stop_cut why c p = inr (inl (record { why = why; reached = r.after; comes = record { text = c.text; read = c.read; short = c.short; stopped = c.stopped }; last = cuts_line (line_of_stop why) p }))

  start_cut : IsStartCut (with_output r w n) → IsNodeUnwritten (with_output r w n) id own
  start_cut h = inr (inr h)

  node_cut : (x : Stop) → x ≢ stop.ReadFault → x ≢ stop.WriteFault → NodeStops id own r x → PutsPrefix r.after.written w (last_line x) → IsNodeUnwritten (with_output r w n) id own
  node_cut stop.Usage not_read not_written s p = absurd s
  node_cut (stop.BadLine line column why) not_read not_written s p = stop_cut (nodes.AtBadLine (record { number = line; offence = record { column = column; why = why } })) s p
  node_cut (stop.BadDump place why) not_read not_written s p = stop_cut (nodes.AtBadDump place why) s p
  node_cut stop.ReadFault not_read not_written s p = absurd (not_read refl)
  node_cut stop.WriteFault not_read not_written s p = absurd (not_written refl)
  node_cut stop.LinkFault not_read not_written s p = stop_cut nodes.WithoutLink s p
  node_cut stop.DepotFault not_read not_written s p = stop_cut nodes.WithoutDepot s p
  node_cut stop.OutOfMemory not_read not_written s p = elim s [
    | inl c ↦ stop_cut nodes.WithoutMemory c p
    | inr b ↦ start_cut (inl (few_later r (with_output r w n).after b.1, cuts_first_line memory_line b.0 p))
  ]
  node_cut stop.TooLong not_read not_written s p = start_cut (inr (s.1, cuts_first_line long_line s.0 p))
  node_cut (stop.Missing name) not_read not_written s p = stop_cut (nodes.AtMissing name) s p
  node_cut (stop.Illegal line why) not_read not_written s p = absurd s
  node_cut stop.NotEmptied not_read not_written s p = absurd s

module _ (said : ImageText) (r : Run) (x : Stop) (p : Performs {U = Unit {0}} said r (Err x)) where
  -- its last line was written
  pub stop_ends : (w : Option (List ℕ)) (n : ℕ) → Puts r.after.written w (last_line x) → n ≡ r.after.faults.output → (number : ℕ) → number ≡ code (status x) → Ends said (with_output r w n) number
  stop_ends w n line same number is = subst (λ m. Ends said (with_output r w m) number) (sym same) (record {
    status = status x;
    is = is;
    claims = stopped said r w x p.comes p.counts p.unused line;
    counts = stop_counts r w x p.counts;
    unused = keeps_unused r w r.after.faults.output p.unused;
  })

  -- of a node the last line alone, and of the others a prefix of what a run under another status writes
  cut_by : (k : Option rules.Command) → StopsBy said r k x → x ≢ stop.ReadFault → x ≢ stop.WriteFault → (w : Option (List ℕ)) (n : ℕ) → PutsPrefix r.after.written w (last_line x) → Rises r.after.faults.output n → IsCutOff said (with_output r w n) → IsUnwrittenBy said (with_output r w n) k
  cut_by None s not_read not_written w n prefix rises cut = cut
  cut_by (Some rules.Play) s not_read not_written w n prefix rises cut = cut
  cut_by (Some (rules.Bulk seed mix)) s not_read not_written w n prefix rises cut = cut
  cut_by (Some (rules.ShowDump name)) s not_read not_written w n prefix rises cut = cut
  cut_by (Some (rules.Evacuate from targets)) s not_read not_written w n prefix rises cut = cut
  cut_by (Some rules.Audit) s not_read not_written w n prefix rises cut = cut
  cut_by (Some rules.Record) s not_read not_written w n prefix rises cut = cut
  cut_by (Some (rules.Node id own)) s not_read not_written w n prefix rises cut = node_cut r w n rises id own x not_read not_written s prefix

  -- or a prefix of it
  pub cut_ends : x ≢ stop.ReadFault → x ≢ stop.WriteFault → (w : Option (List ℕ)) (n : ℕ) → PutsPrefix r.after.written w (last_line x) → Rises r.after.faults.output n → Ends said (with_output r w n) 5
  cut_ends not_read not_written w n prefix rises =
      let whole = with_more w prefix.rest in
      let line : Puts r.after.written whole (last_line x) = put_whole r.after.written w prefix.prefix prefix.rest (last_line x) prefix.put (sym prefix.splits) in
      let output = output_kept r x not_written p.counts in
      record {
        status = ends.Unwritten;
        is = refl;
        claims = cut_by (command r) p.comes not_read not_written w n prefix rises (record {
          rest = prefix.rest;
          whole = whole;
          missing = puts_more w prefix.rest;
          status = status x;
          is = subst (λ m. IsWritten said (with_output r whole m) (status x)) output (written_by said (with_written r whole) x not_read not_written (stopped said r whole x p.comes p.counts p.unused line));
          counts = cut_counts r w whole n x not_read not_written p.counts;
        });
        counts = (input_kept r x not_read p.counts, subst (λ m. Rises m n) output rises);
        unused = keeps_unused r w n p.unused;
      }

-- the stop of status 4
pub stop_4 : (x : Stop) → code (status x) ≡ 4 → x ≡ stop.ReadFault
stop_4 stop.Usage e = absurd (omega (arith, e))
stop_4 (stop.BadLine line column why) e = absurd (omega (arith, e))
stop_4 (stop.BadDump place why) e = absurd (omega (arith, e))
stop_4 stop.ReadFault e = refl
stop_4 stop.WriteFault e = absurd (omega (arith, e))
stop_4 stop.LinkFault e = absurd (omega (arith, e))
stop_4 stop.DepotFault e = absurd (omega (arith, e))
stop_4 stop.OutOfMemory e = absurd (omega (arith, e))
stop_4 stop.TooLong e = absurd (omega (arith, e))
stop_4 (stop.Missing name) e = absurd (omega (arith, e))
stop_4 (stop.Illegal line why) e = absurd (omega (arith, e))
stop_4 stop.NotEmptied e = absurd (omega (arith, e))

-- the stop of status 7
pub stop_7 : (x : Stop) → code (status x) ≡ 7 → x ≡ stop.DepotFault
stop_7 stop.Usage e = absurd (omega (arith, e))
stop_7 (stop.BadLine line column why) e = absurd (omega (arith, e))
stop_7 (stop.BadDump place why) e = absurd (omega (arith, e))
stop_7 stop.ReadFault e = absurd (omega (arith, e))
stop_7 stop.WriteFault e = absurd (omega (arith, e))
stop_7 stop.LinkFault e = absurd (omega (arith, e))
stop_7 stop.DepotFault e = refl
stop_7 stop.OutOfMemory e = absurd (omega (arith, e))
stop_7 stop.TooLong e = absurd (omega (arith, e))
stop_7 (stop.Missing name) e = absurd (omega (arith, e))
stop_7 (stop.Illegal line why) e = absurd (omega (arith, e))
stop_7 stop.NotEmptied e = absurd (omega (arith, e))
