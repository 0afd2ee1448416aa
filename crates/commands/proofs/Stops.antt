-- Why a command stops, and what is known there.
use Rattle.std.proofs.Common.{◌≡◌, ◌≢◌, ◌≤◌, ◌⊎◌, ◌+◌, ℕ, List, [], ◌++◌, length, Option, Some, None, Result, Ok, Err, refl, true, false, ap, subst, sym, ◌∙◌, inl, inr, append-nil, arith}
use Rattle.std.proofs.lemmas.List.{drop_all}
use Rattle.std.specs.Prelude.{IfErr, IsErrAnd, OnOk}
use Rattle.protocol.specs.declared.images.ContextImage.{ContextImage}
use Rattle.protocol.specs.Dumps.{Good, read_dump}
use Rattle.rdma_types.specs.declared.names.Name.{Name}
use Rattle.rdma_types.specs.declared.requests.Address.{Address}
use Rattle.host_ports.specs.Depots.{Has}
use Rattle.host_ports.specs.Streams.{FaultsCounted, Puts, TakesAll, TakesCount}
use Rattle.host_ports.specs.declared.reading.ReadAllFault.{ReadAllFault}
use Rattle.host_ports.specs.declared.reading.ReadAllFault.TheVariants as read
use Rattle.host_ports.proofs.Chains.{Puts-none, Puts-then}
use Rattle.dump_reader.specs.declared.fault.DumpFault.{DumpFault}
use Rattle.dump_reader.specs.declared.fault.DumpFault.TheVariants as dump
use Rattle.dump_reader.specs.Steps.{IsFault}
use Rattle.workload_gen.specs.declared.plan.Mix.{Mix}
use Rattle.workload_gen.specs.Plan.{plan}
use Rattle.run_traces.specs.Verdicts.{AreRun, Audits, VerdictsAreRight}
use Rattle.trace_rules.specs.Recording.{IsFaultOf, IsTraceOf}
use Rattle.trace_record.specs.Recorded.{IsLegalText}
use Rattle.run_traces.specs.declared.trace_audit.verdicts.AuditFault.{AuditFault}
use Rattle.run_traces.specs.declared.trace_audit.verdicts.AuditFault.TheVariants as audit
use Rattle.run_traces.specs.declared.trace_audit.verdicts.Verdict.{Verdict}
use Rattle.run_traces.specs.declared.trace_audit.verdicts.Verdict.TheVariants.{Legal}
use Rattle.node_rules.specs.Script.{node_plan}
use Rattle.node_rules.specs.Told.{Contents, Counts}
use Rattle.node_engine.specs.Answered.{Answers}
use Rattle.node_engine.specs.Counting as node_counts
use Rattle.node_engine.specs.declared.faults.NodeFault.{NodeFault}
use Rattle.node_engine.specs.declared.faults.NodeFault.TheVariants as node
use Rattle.program_rules.specs.Commands as rules
use Rattle.law_headline.specs.Follows.{IsFollowed}
use Rattle.program_rules.specs.Headline.{AreAnswersRead, ImageText, IsAnswered, IsAudited, IsDoneBy, IsEvacuated, IsLegalTrace, IsRecorded, IsShown, bulk_text}
use Rattle.program_rules.specs.Runs.{KeepsInput, KeepsOutside, Run, TakesFew, command, input_limit}
use Rattle.law_headline.specs.Left.{world_of}
use Rattle.law_headline.specs.Script.{answers_text, bad_line}
use Rattle.program_rules.specs.Texts.{evacuation_text, verdict_line}
use Rattle.evac_rules.specs.Evacuation.{Fault, evacuation}
use Rattle.law_moves.specs.Evacuated.{EvacuationsAreFollowed}
use Rattle.script_runner.specs.Playing.{IfBadLine, IsStoppedAt, PutsPrefix}
use Rattle.script_runner.specs.declared.fault.PlayFault.{PlayFault}
use Rattle.script_runner.specs.declared.fault.PlayFault.TheVariants as play
use Rattle.commands.specs.declared.stop.Stop.{Stop}
use Rattle.commands.specs.declared.stop.Stop.TheVariants as stop
use Rattle.commands.specs.Stopping.{AnswersStop, AuditStops, BulkStops, Counted, EvacuateStops, IsNotAsked, IsSilent, IsSummedUpInPart, LookStops, MovesAreFollowed, NodeEnds, NodeStops, Performs, PlayStops, RecordStops, ShowStops, StopsBy, WritesPrefix, counts_of, is_empty, stop_of_audit, stop_of_dump, stop_of_node, stop_of_play, stop_of_read}

-- no more was taken than a text within the limit
pub all_is_few : (r : Run) (text : List ℕ) → TakesAll r.left r.left_after text → length text ≤ input_limit → TakesFew r
all_is_few r text t short = record { count = length text; short = short; read = taken r.left r.left_after t }
  where
    taken : (left left_after : Option (List ℕ)) → TakesAll left left_after text → TakesCount left left_after (length text)
    taken None a t = t
    taken (Some l) a t =
        let same : length text ≡ length l = ap length t.0 in
        (omega (arith, same), t.1 ∙ ap Some (sym (drop_all (length text) l (omega (arith, same)))))

-- nothing is a prefix of nothing
pub nothing_written : (P : List ℕ → Type 0) (r : Run) → P [] → IsSilent r → WritesPrefix P r
nothing_written P r p s = record { prefix = []; rest = []; holds = p; written = subst (λ h. Puts r.before.written h []) (sym s) (Puts-none r.before.written) }

-- ---- play

-- the input is not read
pub read_stopped : (r : Run) (f : ReadAllFault) → (f ≡ read.TooLong → TakesCount r.left r.left_after (input_limit + 1)) → (f ≡ read.ReadFault → TakesFew r) → (f ≡ read.OutOfMemory → TakesFew r) → IsSilent r → PlayStops r (stop_of_read f)
read_stopped r read.ReadFault long part short s = (s, part refl)
read_stopped r read.TooLong long part short s = (s, long refl)
read_stopped r read.OutOfMemory long part short s = (short refl, nothing_written (λ text. (text ≡ []) ⊎ AreAnswersRead r text) r (inl refl) s)

module _ (r : Run) (text : List ℕ) (t : TakesAll r.left r.left_after text) (short : length text ≤ input_limit) (followed : IsFollowed text) where
  answers_in_part : PutsPrefix r.before.written r.after.written (answers_text text) → WritesPrefix (AreAnswersRead r) r
  answers_in_part p = record { prefix = p.prefix; rest = p.rest; holds = record { text = text; read = t; short = short; are = sym p.splits; followed = followed }; written = p.put }

  -- it is not played to its end
  pub play_stopped : (f : PlayFault) → IfBadLine (IsStoppedAt r.before.written r.after.written text) f → PutsPrefix r.before.written r.after.written (answers_text text) → PlayStops r (stop_of_play f)
  play_stopped (play.BadLine line column why) b p = record { text = text; read = t; short = short; first = b.first; written = b.written; followed = followed }
  play_stopped play.WriteFault b p = answers_in_part p
  play_stopped play.OutOfMemory b p = let a = answers_in_part p in (all_is_few r text t short, record { prefix = a.prefix; rest = a.rest; holds = inr a.holds; written = a.written })

  -- it is
  pub played : bad_line text ≡ None → Puts r.before.written r.after.written (answers_text text) → IsAnswered r
  played g p = record { text = text; read = t; short = short; good = g; written = p; followed = followed }

-- ---- evacuate

module _ (from : ℕ) (targets : List ℕ) (r : Run) where
  -- the input is not read
  pub evacuate_unread : (f : ReadAllFault) → PlayStops r (stop_of_read f) → EvacuateStops from targets r (stop_of_read f)
  evacuate_unread read.ReadFault s = s
  evacuate_unread read.TooLong s = s
  evacuate_unread read.OutOfMemory s = s

  module _ (law : EvacuationsAreFollowed) (text : List ℕ) (t : TakesAll r.left r.left_after text) (short : length text ≤ input_limit) (followed : IsFollowed text) where
    moves_are : (text' : List ℕ) → MovesAreFollowed from targets text'
    moves_are text' m stands = law (world_of text') m from targets stands

    -- it is not played to its end
    pub evacuate_stopped : (f : PlayFault) → IfBadLine (IsStoppedAt r.before.written r.after.written text) f → PutsPrefix r.before.written r.after.written (answers_text text) → EvacuateStops from targets r (stop_of_play f)
    evacuate_stopped (play.BadLine line column why) b p = play_stopped r text t short followed (play.BadLine line column why) b p
    evacuate_stopped play.WriteFault b p = record { prefix = inl (answers_in_part r text t short followed p); moves = moves_are }
    evacuate_stopped play.OutOfMemory b p = play_stopped r text t short followed play.OutOfMemory b p

    -- it is, and memory is wanted then
    pub nothing_told : Puts r.before.written r.after.written (answers_text text) → EvacuateStops from targets r stop.OutOfMemory
    nothing_told p = (
      all_is_few r text t short,
      record {
        prefix = answers_text text;
        rest = [];
        holds = inr (record { text = text; read = t; short = short; are = append-nil (answers_text text); followed = followed });
        written = p;
      },
    )

    module _ (good : bad_line text ≡ None) (h : Option (List ℕ)) (answered : Puts r.before.written h (answers_text text)) (tale : List ℕ) (is : tale ≡ evacuation_text (evacuation (world_of text) from targets)) where
      -- what becomes of the contexts is written in part
      pub told_in_part : PutsPrefix h r.after.written tale → EvacuateStops from targets r stop.WriteFault
      told_in_part p = record {
        prefix = inr (record {
          text = text;
          read = t;
          short = short;
          good = good;
          followed = followed;
          prefix = p.prefix;
          rest = p.rest;
          splits = sym is ∙ p.splits;
          written = Puts-then r.before.written h r.after.written (answers_text text) p.prefix answered p.put;
        });
        moves = moves_are;
      }

      module _ (p : Puts h r.after.written tale) where
        told_whole : (f : Option Fault) → (evacuation (world_of text) from targets).fault ≡ f → IsEvacuated r from targets f
        told_whole f e = record {
          text = text;
          read = t;
          short = short;
          good = good;
          ended = e;
          written = subst (λ xs. Puts r.before.written r.after.written (answers_text text ++ xs)) is (Puts-then r.before.written h r.after.written (answers_text text) tale answered p);
          followed = followed;
          moves = moves_are text;
        }

        -- the device is empty
        pub evacuated : is_empty (evacuation (world_of text) from targets).fault ≡ true → IsEvacuated r from targets None
        evacuated e = by (evacuation (world_of text) from targets).fault refl e
          where
            by : (f : Option Fault) → (evacuation (world_of text) from targets).fault ≡ f → is_empty f ≡ true → IsEvacuated r from targets None
            by None same d = told_whole None same
            by (Some f) same d = cc

        -- .. or not
        pub held_back : is_empty (evacuation (world_of text) from targets).fault ≡ false → EvacuateStops from targets r stop.NotEmptied
        held_back e = by (evacuation (world_of text) from targets).fault refl e
          where
            by : (f : Option Fault) → (evacuation (world_of text) from targets).fault ≡ f → is_empty f ≡ false → EvacuateStops from targets r stop.NotEmptied
            by None same d = cc
            by (Some f) same d = record { fault = f; is = told_whole (Some f) same }

-- ---- bulk

-- the answers to a script are not known
pub answers_stopped : (script : List ℕ) (held h : Option (List ℕ)) (f : PlayFault) → IfBadLine (IsStoppedAt held h script) f → f ≢ play.WriteFault → AnswersStop script (stop_of_play f)
answers_stopped script held h (play.BadLine line column why) b n = b.first
answers_stopped script held h play.WriteFault b n = absurd (n refl)
answers_stopped script held h play.OutOfMemory b n = tt

module _ (seed : ℕ) (mix : Mix) (r : Run) where
  -- so nothing is summed up
  pub bulk_stopped : (x : Stop) → AnswersStop (plan seed mix) x → IsSilent r → BulkStops seed mix r x
  bulk_stopped stop.Usage a s = absurd a
  bulk_stopped (stop.BadLine line column why) a s = (s, a)
  bulk_stopped (stop.BadDump place why) a s = absurd a
  bulk_stopped stop.ReadFault a s = absurd a
  bulk_stopped stop.WriteFault a s = absurd a
  bulk_stopped stop.LinkFault a s = absurd a
  bulk_stopped stop.DepotFault a s = absurd a
  bulk_stopped stop.OutOfMemory a s = s
  bulk_stopped stop.TooLong a s = absurd a
  bulk_stopped (stop.Missing name) a s = absurd a
  bulk_stopped (stop.Illegal line why) a s = absurd a
  bulk_stopped stop.NotEmptied a s = absurd a

  -- the summary is written in part
  pub bulk_cut_off : bad_line (plan seed mix) ≡ None → IsFollowed (plan seed mix) → PutsPrefix r.before.written r.after.written (bulk_text seed mix) → IsSummedUpInPart r seed mix
  bulk_cut_off good followed p = record { good = good; prefix = record { prefix = p.prefix; rest = p.rest; holds = sym p.splits; written = p.put }; followed = followed }

-- ---- show-dump

module _ (said : ImageText) (name : Name) (r : Run) where
  -- the depot gives no bytes
  pub look_stopped : (x : Stop) → LookStops r.before.held name x → IsSilent r → ShowStops said name r x
  look_stopped stop.Usage l s = absurd l
  look_stopped (stop.BadLine line column why) l s = absurd l
  look_stopped (stop.BadDump place why) l s = absurd l
  look_stopped stop.ReadFault l s = absurd l
  look_stopped stop.WriteFault l s = absurd l
  look_stopped stop.LinkFault l s = absurd l
  look_stopped stop.DepotFault l s = s
  look_stopped stop.OutOfMemory l s = s
  look_stopped stop.TooLong l s = absurd l
  look_stopped (stop.Missing other) l s = (s, l.0, l.1)
  look_stopped (stop.Illegal line why) l s = absurd l
  look_stopped stop.NotEmptied l s = absurd l

  module _ (bytes : List ℕ) (found : Has r.before.held name (Some bytes)) where
    -- they are no dump
    pub decode_stopped : (f : DumpFault) → IsFault (read_dump bytes) f → IsSilent r → ShowStops said name r (stop_of_dump f)
    decode_stopped (dump.BadDump place why) b s = (s, record { bytes = bytes; found = found; reads = b })
    decode_stopped dump.OutOfMemory b s = s

    -- what it says is written in part
    pub show_cut_off : (image : ContextImage) (place : ℕ) (rest : List ℕ) → read_dump bytes ≡ Good image place rest → PutsPrefix r.before.written r.after.written (said image) → ShowStops said name r stop.WriteFault
    show_cut_off image place rest g p = record { prefix = p.prefix; rest = p.rest; holds = record { bytes = bytes; found = found; image = image; place = place; rest = rest; reads = g; is = sym p.splits }; written = p.put }

    -- or whole
    pub shown : (image : ContextImage) (place : ℕ) (rest : List ℕ) → read_dump bytes ≡ Good image place rest → Puts r.before.written r.after.written (said image) → IsShown said r name
    shown image place rest g p = record { bytes = bytes; found = found; image = image; place = place; rest = rest; reads = g; written = p }

-- ---- audit

-- the input is not read
pub audit_unread : (r : Run) (f : ReadAllFault) → (f ≡ read.TooLong → TakesCount r.left r.left_after (input_limit + 1)) → (f ≡ read.ReadFault → TakesFew r) → (f ≡ read.OutOfMemory → TakesFew r) → IsSilent r → AuditStops r (stop_of_read f)
audit_unread r read.ReadFault long part short s = (s, part refl)
audit_unread r read.TooLong long part short s = (s, long refl)
audit_unread r read.OutOfMemory long part short s = (s, short refl)

module _ (r : Run) (text : List ℕ) (t : TakesAll r.left r.left_after text) (short : length text ≤ input_limit) where
  -- it is no trace
  pub audit_stopped : (f : AuditFault) → Audits text (Err f) → IsSilent r → AuditStops r (stop_of_audit f)
  audit_stopped (audit.BadLine line column why) a s = (s, record { text = text; read = t; short = short; first = a })
  audit_stopped audit.OutOfMemory a s = (s, all_is_few r text t short)

  -- it is one, with this verdict
  pub audited : VerdictsAreRight → (v : Verdict) → Audits text (Ok v) → IsAudited r v
  audited law v a = record { text = text; read = t; short = short; steps = a.0; says = a.1; finds = a.2; right = law a.0 }

  module _ (law : VerdictsAreRight) (verbs inner : ℕ) (a : Audits text (Ok (Legal verbs inner))) where
    -- the verdict is written in part
    pub judged_in_part : PutsPrefix r.before.written r.after.written (verdict_line (Legal verbs inner)) → AuditStops r stop.WriteFault
    judged_in_part p = record { verbs = verbs; inner = inner; audited = audited law (Legal verbs inner) a; prefix = record { prefix = p.prefix; rest = p.rest; holds = sym p.splits; written = p.put } }

    -- or whole
    pub judged : Puts r.before.written r.after.written (verdict_line (Legal verbs inner)) → IsLegalTrace r
    judged p = record { verbs = verbs; inner = inner; audited = audited law (Legal verbs inner) a; written = p }

-- ---- record

-- the input is not read
pub record_unread : (r : Run) (f : ReadAllFault) → (f ≡ read.TooLong → TakesCount r.left r.left_after (input_limit + 1)) → (f ≡ read.ReadFault → TakesFew r) → (f ≡ read.OutOfMemory → TakesFew r) → IsSilent r → RecordStops r (stop_of_read f)
record_unread r read.ReadFault long part short s = (s, part refl)
record_unread r read.TooLong long part short s = (s, long refl)
record_unread r read.OutOfMemory long part short s = (s, short refl)

module _ (r : Run) (text : List ℕ) (t : TakesAll r.left r.left_after text) (short : length text ≤ input_limit) where
  -- a line of it is bad
  pub record_stopped : (f : AuditFault) → IsFaultOf text f → IsSilent r → RecordStops r (stop_of_audit f)
  record_stopped (audit.BadLine line column why) a s = (s, record { text = text; read = t; short = short; first = a })
  record_stopped audit.OutOfMemory a s = (s, all_is_few r text t short)

  module _ (law : VerdictsAreRight) (trace : List ℕ) (is : IsTraceOf text trace) (legal : IsLegalText trace) where
    run_is : AreRun legal.steps
    run_is = ((law legal.steps).legal legal.verbs legal.inner legal.finds).0

    -- the trace is written in part
    pub recorded_in_part : PutsPrefix r.before.written r.after.written trace → RecordStops r stop.WriteFault
    recorded_in_part p = record { text = text; read = t; short = short; trace = trace; is = is; steps = legal.steps; says = legal.says; run = run_is; prefix = record { prefix = p.prefix; rest = p.rest; holds = sym p.splits; written = p.put } }

    -- or whole
    pub recorded : Puts r.before.written r.after.written trace → IsRecorded r
    recorded p = record { text = text; read = t; short = short; trace = trace; is = is; steps = legal.steps; says = legal.says; run = run_is; written = p }

-- ---- node

-- the input is not read
pub node_unread : (id : ℕ) (own : Address) (r : Run) (f : ReadAllFault) → (f ≡ read.TooLong → TakesCount r.left r.left_after (input_limit + 1)) → (f ≡ read.ReadFault → TakesFew r) → (f ≡ read.OutOfMemory → TakesFew r) → r.after ≡ r.before → NodeStops id own r (stop_of_read f)
node_unread id own r read.ReadFault long part short s = (s, part refl)
node_unread id own r read.TooLong long part short s = (s, long refl)
node_unread id own r read.OutOfMemory long part short s = inr (s, short refl)

module _ (id : ℕ) (own : Address) (r : Run) (text : List ℕ) (t : TakesAll r.left r.left_after text) (short : length text ≤ input_limit) where
  -- its plan is not done to the end
  pub node_stopped : (f : NodeFault) → Answers {U = Unit {0}} (node_plan id own text) r.before (Err f) r.after → NodeStops id own r (stop_of_node f)
  node_stopped (node.BadLine line column why) a = record { text = text; read = t; short = short; stopped = a }
  node_stopped (node.BadDump place why) a = record { text = text; read = t; short = short; stopped = a }
  node_stopped node.WriteFault a = record { text = text; read = t; short = short; stopped = a }
  node_stopped node.LinkFault a = record { text = text; read = t; short = short; stopped = a }
  node_stopped node.DepotFault a = record { text = text; read = t; short = short; stopped = a }
  node_stopped (node.Missing name) a = record { text = text; read = t; short = short; stopped = a }
  node_stopped node.OutOfMemory a = inl (record { text = text; read = t; short = short; stopped = a })

-- what holds of a stop holds of the error that is it
pub node_err : {U : Type 0} (id : ℕ) (own : Address) (r : Run) (result : Result U Stop) (x : Stop) → IsErrAnd result (λ y. y ≡ x) → NodeStops id own r x → NodeEnds id own r result
node_err id own r (Ok d) x h s = absurd h
node_err id own r (Err y) x h s = subst (NodeStops id own r) (sym h) s

-- ---- counts of faults

-- what holds of a stop holds of the error that is it
pub counted_err : {U : Type 0} (result : Result U Stop) (x : Stop) (i i' : ℕ) (old new : Counts) → IsErrAnd result (λ y. y ≡ x) → Counted {U = U} (Err x) i i' old new → Counted result i i' old new
counted_err {U = U} (Ok d) x i i' old new h c = absurd h
counted_err {U = U} (Err y) x i i' old new h c = subst (λ z. Counted {U = U} (Err z) i i' old new) (sym h) c

-- a success is no error
pub ok_or : {T E P : Type 0} (l : Result T E) (a : T) (x : E) → l ≡ Ok a → (l ≡ Err x) ⊎ P → P
ok_or l a x is h = elim h [ inl e ↦ absurd (cc (is, e)) | inr k ↦ k ]

-- an error is that fault
pub same_err : {T E P : Type 0} (l : Result T E) (f x : E) → l ≡ Err f → (l ≡ Err x) ⊎ P → (f ≡ x) ⊎ P
same_err l f x is h = elim h [ inl e ↦ inl (cc (is, e)) | inr k ↦ inr k ]

-- the input is not read
pub unread_counts : (f : ReadAllFault) (i i' : ℕ) (c : Counts) → (f ≡ read.ReadFault → FaultsCounted i i') → i ≤ i' → (f ≡ read.ReadFault) ⊎ (i' ≡ i) → Counted {U = Unit {0}} (Err (stop_of_read f)) i i' c c
unread_counts read.ReadFault i i' c counted most either = ((most, counted refl), refl)
unread_counts read.TooLong i i' c counted most either = (by either, refl)
  where
    by : (read.TooLong ≡ read.ReadFault) ⊎ (i' ≡ i) → i' ≡ i
    by h = elim h [ inl e ↦ absurd (cc e) | inr k ↦ k ]
unread_counts read.OutOfMemory i i' c counted most either = (by either, refl)
  where
    by : (read.OutOfMemory ≡ read.ReadFault) ⊎ (i' ≡ i) → i' ≡ i
    by h = elim h [ inl e ↦ absurd (cc e) | inr k ↦ k ]

-- counts of which that of the output alone is another
pub output_counts : (link depot output output' : ℕ) → output' ≡ output → counts_of link depot output' ≡ counts_of link depot output
output_counts link depot output output' h = ap (λ n. counts_of link depot n) h

-- a script is not played to its end
pub played_counts : (f : PlayFault) (i i' link depot output output' : ℕ) → i' ≡ i → (f ≡ play.WriteFault → FaultsCounted output output') → output ≤ output' → (f ≡ play.WriteFault) ⊎ (output' ≡ output)
    → Counted {U = Unit {0}} (Err (stop_of_play f)) i i' (counts_of link depot output) (counts_of link depot output')
played_counts (play.BadLine line column why) i i' link depot output output' e counted most either = (e, output_counts link depot output output' (by either))
  where
    by : (play.BadLine line column why ≡ play.WriteFault) ⊎ (output' ≡ output) → output' ≡ output
    by h = elim h [ inl e ↦ absurd (cc e) | inr k ↦ k ]
played_counts play.WriteFault i i' link depot output output' e counted most either = (e, (most, counted refl), refl)
played_counts play.OutOfMemory i i' link depot output output' e counted most either = (e, output_counts link depot output output' (by either))
  where
    by : (play.OutOfMemory ≡ play.WriteFault) ⊎ (output' ≡ output) → output' ≡ output
    by h = elim h [ inl e ↦ absurd (cc e) | inr k ↦ k ]

-- the answers to a script are not known
pub answers_counts : (script : List ℕ) (x : Stop) (i : ℕ) (c : Counts) → AnswersStop script x → Counted {U = Unit {0}} (Err x) i i c c
answers_counts script stop.Usage i c a = absurd a
answers_counts script (stop.BadLine line column why) i c a = (refl, refl)
answers_counts script (stop.BadDump place why) i c a = absurd a
answers_counts script stop.ReadFault i c a = absurd a
answers_counts script stop.WriteFault i c a = absurd a
answers_counts script stop.LinkFault i c a = absurd a
answers_counts script stop.DepotFault i c a = absurd a
answers_counts script stop.OutOfMemory i c a = (refl, refl)
answers_counts script stop.TooLong i c a = absurd a
answers_counts script (stop.Missing name) i c a = absurd a
answers_counts script (stop.Illegal line why) i c a = absurd a
answers_counts script stop.NotEmptied i c a = absurd a

-- a trace is not judged
pub audited_counts : (f : AuditFault) (i i' : ℕ) (c : Counts) → i' ≡ i → Counted {U = Unit {0}} (Err (stop_of_audit f)) i i' c c
audited_counts (audit.BadLine line column why) i i' c e = (e, refl)
audited_counts audit.OutOfMemory i i' c e = (e, refl)

-- a dump is not read
pub dump_counts : (f : DumpFault) (i : ℕ) (old new : Counts) → new ≡ old → Counted {U = Unit {0}} (Err (stop_of_dump f)) i i old new
dump_counts (dump.BadDump place why) i old new e = (refl, e)
dump_counts dump.OutOfMemory i old new e = (refl, e)

-- the depot gives no bytes, and the output is as it was
pub look_counts : (V : Type 0) (x : Stop) (i : ℕ) (old new : Counts) → Counted {U = V} (Err x) i i old new → Counted {U = Unit {0}} (Err x) i i old new
look_counts V stop.Usage i old new c = c
look_counts V (stop.BadLine line column why) i old new c = c
look_counts V (stop.BadDump place why) i old new c = c
look_counts V stop.ReadFault i old new c = c
look_counts V stop.WriteFault i old new c = c
look_counts V stop.LinkFault i old new c = c
look_counts V stop.DepotFault i old new c = c
look_counts V stop.OutOfMemory i old new c = c
look_counts V stop.TooLong i old new c = c
look_counts V (stop.Missing name) i old new c = c
look_counts V (stop.Illegal line why) i old new c = c
look_counts V stop.NotEmptied i old new c = c

-- the lines of a node are not done to the end
pub node_stop_counts : (f : NodeFault) (i i' : ℕ) (old new : Counts) → i' ≡ i → node_counts.Counted {U = Unit {0}} old (Err f) new → Counted {U = Unit {0}} (Err (stop_of_node f)) i i' old new
node_stop_counts (node.BadLine line column why) i i' old new e c = (e, c)
node_stop_counts (node.BadDump place why) i i' old new e c = (e, c)
node_stop_counts node.WriteFault i i' old new e c = (e, c.0, c.1)
node_stop_counts node.LinkFault i i' old new e c = (e, c.0, c.1)
node_stop_counts node.DepotFault i i' old new e c = (e, c.0, c.1)
node_stop_counts (node.Missing name) i i' old new e c = (e, c)
node_stop_counts node.OutOfMemory i i' old new e c = (e, c)

-- ---- a command as the run's

-- what a command does is what the run does
pub performs : {U : Type 0} (said : ImageText) (r : Run) (k : rules.Command) (e : command r ≡ Some k) (result : Result U Stop) → OnOk result (IsDoneBy said r (Some k)) → IfErr result (StopsBy said r (Some k)) → Counted result r.input_faults r.input_faults_after r.before.faults r.after.faults → KeepsInput r (Some k) → KeepsOutside r (Some k) → Performs said r result
performs said r k e (Ok d) done stops c i o = record { comes = subst (IsDoneBy said r) (sym e) done; counts = c; unused = record { input = subst (KeepsInput r) (sym e) i; outside = subst (KeepsOutside r) (sym e) o } }
performs said r k e (Err x) done stops c i o = record { comes = subst (λ j. StopsBy said r j x) (sym e) stops; counts = c; unused = record { input = subst (KeepsInput r) (sym e) i; outside = subst (KeepsOutside r) (sym e) o } }

-- .. and that of a node
pub node_performs : {U : Type 0} (said : ImageText) (r : Run) (id : ℕ) (own : Address) (e : command r ≡ Some (rules.Node id own)) (result : Result U Stop) → NodeEnds id own r result → Counted result r.input_faults r.input_faults_after r.before.faults r.after.faults → Performs said r result
node_performs said r id own e (Ok d) ends c = record { comes = subst (IsDoneBy said r) (sym e) ends; counts = c; unused = record { input = subst (KeepsInput r) (sym e) tt; outside = subst (KeepsOutside r) (sym e) tt } }
node_performs said r id own e (Err x) ends c = record { comes = subst (λ j. StopsBy said r j x) (sym e) ends; counts = c; unused = record { input = subst (KeepsInput r) (sym e) tt; outside = subst (KeepsOutside r) (sym e) tt } }

-- ---- no command is known

-- a run in which nothing was touched
pub record IsUntouched (r : Run) : Type 0 where
  pub left : r.left_after ≡ r.left
  pub counts : r.input_faults_after ≡ r.input_faults
  pub outside : r.after ≡ r.before

module _ (r : Run) (u : IsUntouched r) where
  silent : IsSilent r
  silent = ap (λ (t : Contents). t.written) u.outside

  few : TakesFew r
  few = record { count = 0; short = omega arith; read = subst (λ l. TakesCount r.left l 0) (sym u.left) (nothing r.left) }
    where
      nothing : (left : Option (List ℕ)) → TakesCount left left 0
      nothing None = refl
      nothing (Some l) = (omega arith, refl)

  only_writes : r.after ≡ record r.before { written = r.after.written; faults = r.after.faults }
  only_writes = u.outside ∙ ap (λ (t : Contents). record r.before { written = t.written; faults = t.faults }) (sym u.outside)

  -- nothing was written, whatever the command is
  memory_stops : (said : ImageText) (k : Option rules.Command) → k ≢ None → StopsBy said r k stop.OutOfMemory
  memory_stops said None n = absurd (n refl)
  memory_stops said (Some rules.Play) n = (few, nothing_written (λ text. (text ≡ []) ⊎ AreAnswersRead r text) r (inl refl) silent)
  memory_stops said (Some (rules.Bulk seed mix)) n = silent
  memory_stops said (Some (rules.ShowDump name)) n = silent
  memory_stops said (Some (rules.Evacuate from targets)) n = (few, nothing_written (λ text. (text ≡ []) ⊎ AreAnswersRead r text) r (inl refl) silent)
  memory_stops said (Some rules.Audit) n = (silent, few)
  memory_stops said (Some rules.Record) n = (silent, few)
  memory_stops said (Some (rules.Node id own)) n = inr (u.outside, few)

  -- .. and the input is as it was
  input_stays : (k : Option rules.Command) → KeepsInput r k
  input_stays None = u.left
  input_stays (Some rules.Play) = tt
  input_stays (Some (rules.Bulk seed mix)) = u.left
  input_stays (Some (rules.ShowDump name)) = u.left
  input_stays (Some (rules.Evacuate from targets)) = tt
  input_stays (Some rules.Audit) = tt
  input_stays (Some rules.Record) = tt
  input_stays (Some (rules.Node id own)) = tt

  outside_stays : (k : Option rules.Command) → KeepsOutside r k
  outside_stays None = only_writes
  outside_stays (Some rules.Play) = only_writes
  outside_stays (Some (rules.Bulk seed mix)) = only_writes
  outside_stays (Some (rules.ShowDump name)) = only_writes
  outside_stays (Some (rules.Evacuate from targets)) = only_writes
  outside_stays (Some rules.Audit) = only_writes
  outside_stays (Some rules.Record) = only_writes
  outside_stays (Some (rules.Node id own)) = tt

  -- so the run stops as it is to
  not_asked : (said : ImageText) (k : Option rules.Command) (x : Stop) → IsNotAsked k x → StopsBy said r k x
  not_asked said k stop.Usage n = subst (λ j. StopsBy said r j stop.Usage) (sym n) silent
  not_asked said k (stop.BadLine line column why) n = absurd n
  not_asked said k (stop.BadDump place why) n = absurd n
  not_asked said k stop.ReadFault n = absurd n
  not_asked said k stop.WriteFault n = absurd n
  not_asked said k stop.LinkFault n = absurd n
  not_asked said k stop.DepotFault n = absurd n
  not_asked said k stop.OutOfMemory n = memory_stops said k n
  not_asked said k stop.TooLong n = absurd n
  not_asked said k (stop.Missing name) n = absurd n
  not_asked said k (stop.Illegal line why) n = absurd n
  not_asked said k stop.NotEmptied n = absurd n

  unasked_counts : (k : Option rules.Command) (x : Stop) → IsNotAsked k x → Counted {U = Unit {0}} (Err x) r.input_faults r.input_faults_after r.before.faults r.after.faults
  unasked_counts k stop.Usage n = (u.counts, ap (λ (t : Contents). t.faults) u.outside)
  unasked_counts k (stop.BadLine line column why) n = absurd n
  unasked_counts k (stop.BadDump place why) n = absurd n
  unasked_counts k stop.ReadFault n = absurd n
  unasked_counts k stop.WriteFault n = absurd n
  unasked_counts k stop.LinkFault n = absurd n
  unasked_counts k stop.DepotFault n = absurd n
  unasked_counts k stop.OutOfMemory n = (u.counts, ap (λ (t : Contents). t.faults) u.outside)
  unasked_counts k stop.TooLong n = absurd n
  unasked_counts k (stop.Missing name) n = absurd n
  unasked_counts k (stop.Illegal line why) n = absurd n
  unasked_counts k stop.NotEmptied n = absurd n

  pub unasked : (said : ImageText) (x : Stop) → IsNotAsked (command r) x → Performs {U = Unit {0}} said r (Err x)
  unasked said x n = record { comes = not_asked said (command r) x n; counts = unasked_counts (command r) x n; unused = record { input = input_stays (command r); outside = outside_stays (command r) } }

-- ---- results

-- what holds of every error holds of this one
pub err_holds : {T E : Type 0} (result : Result T E) (P : E → Type 0) (x : E) → IfErr result P → result ≡ Err x → P x
err_holds result P x h e = subst (λ r. IfErr r P) e h
