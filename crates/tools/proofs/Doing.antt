-- What a run does, by the command that its words are of.
use Rattle.std.proofs.Common.{◌≡◌, ◌∙◌, ◌⊎◌, ℕ, List, Option, Some, None, inl, inr, subst, sym}
use Rattle.host_ports.specs.Streams.{FaultsCounted}
use Rattle.program_rules.specs.Due.{IsDue, IsOutputSound}
use Rattle.program_rules.specs.Ends.{Ends}
use Rattle.program_rules.specs.Headline.{ImageText}
use Rattle.program_rules.specs.Runs.{ReadsInput, Run, UsesDepot, UsesLink, command}
use Rattle.completion_fanout.specs.declared.plan.FanPlan.{FanPlan}
use Rattle.mailbox_rules.specs.declared.plans.MailPlan.{MailPlan}
use Rattle.thread_plan.specs.declared.plan.ThreadPlan.{ThreadPlan}
use Rattle.tools.specs.Does.{Does}
use Rattle.tools.specs.Endings.{EndsBy, done, no_memory}
use Rattle.tools.specs.Fanout.{EndsFanout, IsFanoutText, fanout_of}
use Rattle.tools.specs.Mails as mail
use Rattle.tools.specs.Mails.{EndsMail, mail_of}
use Rattle.tools.specs.Serial.{AreSerial}
use Rattle.tools.specs.ThreadEndings.{EndsRun, IsTextOf, not_as_planned}
use Rattle.tools.specs.Threads.{EndsThreads, IsThreadsText, threads_of}
use Rattle.tools.proofs.ThreadLinesApart.{no_fanout}
use Rattle.tools.proofs.ToolsApart.{no_fanout_of_mail, no_threads}

-- ---- a line that is not cut short

-- the text of a status was written, where the output counted no fault
told : (IsText : ℕ → List ℕ → Type 0) (held held' : Option (List ℕ)) (faults faults' n : ℕ) → EndsBy IsText held held' faults faults' n → (FaultsCounted faults faults' → ⊥) → (text : List ℕ) × IsText n text
told IsText held held' faults faults' n ends sound = elim ends [ inl t ↦ (t.1.text, t.1.says) | inr c ↦ absurd (sound c.1.writes.3) ]

run_due : (IsLine : List ℕ → Type 0) (n : ℕ) (text : List ℕ) → IsTextOf IsLine n text → (n ≡ done) ⊎ (n ≡ no_memory) ⊎ (n ≡ not_as_planned)
run_due IsLine n text h = elim h [ inl a ↦ inl a.0 | inr b ↦ elim b [ inl c ↦ inr (inl c.0) | inr d ↦ inr (inr d.0) ] ]

mail_due : (plan : MailPlan) (n : ℕ) (text : List ℕ) → mail.IsTextOf plan n text → (n ≡ done) ⊎ (n ≡ no_memory)
mail_due plan n text h = elim h [ inl a ↦ inl a.0 | inr b ↦ inr b.0 ]

-- ---- words of one command are not those of another

one_or_none : {A P : Type 0} (x : Option A) (a : A) → x ≡ None → x ≡ Some a → P
one_or_none x a h k = absurd cc

one_plan : {A : Type 0} (x : Option A) (a b : A) → x ≡ Some a → x ≡ Some b → a ≡ b
one_plan x a b h k = cc

module _ (said : ImageText) (r : Run) (SameInput SameButOutput SameLink SameDepot : Type 0) (n : ℕ) where
  abbrev DoesAll : Type 0
  DoesAll = Does said r SameInput SameButOutput SameLink SameDepot n

  abbrev IsOfThreads : Type 0
  IsOfThreads = (n ≡ done) ⊎ (n ≡ no_memory) ⊎ (n ≡ not_as_planned)

  pub threads_does : (plan : ThreadPlan) → threads_of r.words ≡ Some plan → EndsThreads plan r.before.written r.after.written r.before.faults.output r.after.faults.output n → SameInput → SameButOutput → DoesAll
  threads_does plan is e input rest =
      let none = no_fanout r.words plan is in
      record {
        threads = λ p k. subst (λ q. EndsThreads q r.before.written r.after.written r.before.faults.output r.after.faults.output n) (one_plan (threads_of r.words) plan p is k) e;
        threads_due = λ p k sound. let t = told (IsTextOf (IsThreadsText plan)) r.before.written r.after.written r.before.faults.output r.after.faults.output n e sound in run_due (IsThreadsText plan) n t.0 t.1;
        threads_keep = λ p k. (input, rest);
        fanout = λ p k. one_or_none (fanout_of r.words) p none k;
        fanout_due = λ p k. one_or_none (fanout_of r.words) p none k;
        fanout_keep = λ p k. one_or_none (fanout_of r.words) p none k;
        mail = λ p k. one_or_none (threads_of r.words) plan (no_threads r.words p k) is;
        mail_due = λ p k. one_or_none (threads_of r.words) plan (no_threads r.words p k) is;
        mail_keep = λ p k. one_or_none (threads_of r.words) plan (no_threads r.words p k) is;
        ends = λ s. one_or_none (threads_of r.words) plan s.0.0 is;
        due = λ s. one_or_none (threads_of r.words) plan s.0.0 is;
        kept_input = λ s. one_or_none (threads_of r.words) plan s.0.0 is;
        kept_link = λ s. one_or_none (threads_of r.words) plan s.0.0 is;
        kept_depot = λ s. one_or_none (threads_of r.words) plan s.0.0 is;
      }

  pub fanout_does : threads_of r.words ≡ None → (plan : FanPlan) → fanout_of r.words ≡ Some plan → EndsFanout plan r.before.written r.after.written r.before.faults.output r.after.faults.output n → SameInput → SameButOutput → DoesAll
  fanout_does none plan is e input rest = record {
    threads = λ p k. one_or_none (threads_of r.words) p none k;
    threads_due = λ p k. one_or_none (threads_of r.words) p none k;
    threads_keep = λ p k. one_or_none (threads_of r.words) p none k;
    fanout = λ p k. subst (λ q. EndsFanout q r.before.written r.after.written r.before.faults.output r.after.faults.output n) (one_plan (fanout_of r.words) plan p is k) e;
    fanout_due = λ p k sound. let t = told (IsTextOf (IsFanoutText plan)) r.before.written r.after.written r.before.faults.output r.after.faults.output n e sound in run_due (IsFanoutText plan) n t.0 t.1;
    fanout_keep = λ p k. (input, rest);
    mail = λ p k. one_or_none (fanout_of r.words) plan (no_fanout_of_mail r.words p k) is;
    mail_due = λ p k. one_or_none (fanout_of r.words) plan (no_fanout_of_mail r.words p k) is;
    mail_keep = λ p k. one_or_none (fanout_of r.words) plan (no_fanout_of_mail r.words p k) is;
    ends = λ s. one_or_none (fanout_of r.words) plan s.0.1 is;
    due = λ s. one_or_none (fanout_of r.words) plan s.0.1 is;
    kept_input = λ s. one_or_none (fanout_of r.words) plan s.0.1 is;
    kept_link = λ s. one_or_none (fanout_of r.words) plan s.0.1 is;
    kept_depot = λ s. one_or_none (fanout_of r.words) plan s.0.1 is;
  }

  pub mail_does : threads_of r.words ≡ None → fanout_of r.words ≡ None → (plan : MailPlan) → mail_of r.words ≡ Some plan → EndsMail plan r.before.written r.after.written r.before.faults.output r.after.faults.output n → SameInput → SameButOutput → DoesAll
  mail_does none no_fan plan is e input rest = record {
    threads = λ p k. one_or_none (threads_of r.words) p none k;
    threads_due = λ p k. one_or_none (threads_of r.words) p none k;
    threads_keep = λ p k. one_or_none (threads_of r.words) p none k;
    fanout = λ p k. one_or_none (fanout_of r.words) p no_fan k;
    fanout_due = λ p k. one_or_none (fanout_of r.words) p no_fan k;
    fanout_keep = λ p k. one_or_none (fanout_of r.words) p no_fan k;
    mail = λ p k. subst (λ q. EndsMail q r.before.written r.after.written r.before.faults.output r.after.faults.output n) (one_plan (mail_of r.words) plan p is k) e;
    mail_due = λ p k sound. let t = told (mail.IsTextOf plan) r.before.written r.after.written r.before.faults.output r.after.faults.output n e sound in mail_due plan n t.0 t.1;
    mail_keep = λ p k. (input, rest);
    ends = λ s. one_or_none (mail_of r.words) plan s.1 is;
    due = λ s. one_or_none (mail_of r.words) plan s.1 is;
    kept_input = λ s. one_or_none (mail_of r.words) plan s.1 is;
    kept_link = λ s. one_or_none (mail_of r.words) plan s.1 is;
    kept_depot = λ s. one_or_none (mail_of r.words) plan s.1 is;
  }

  pub serial_does : threads_of r.words ≡ None → fanout_of r.words ≡ None → mail_of r.words ≡ None → Ends said r n → IsDue said r n → ((ReadsInput (command r) → ⊥) → SameInput) → ((UsesLink (command r) → ⊥) → SameLink) → ((UsesDepot (command r) → ⊥) → SameDepot) → DoesAll
  serial_does none no_fan no_mail e due input link depot = record {
    threads = λ p k. one_or_none (threads_of r.words) p none k;
    threads_due = λ p k. one_or_none (threads_of r.words) p none k;
    threads_keep = λ p k. one_or_none (threads_of r.words) p none k;
    fanout = λ p k. one_or_none (fanout_of r.words) p no_fan k;
    fanout_due = λ p k. one_or_none (fanout_of r.words) p no_fan k;
    fanout_keep = λ p k. one_or_none (fanout_of r.words) p no_fan k;
    mail = λ p k. one_or_none (mail_of r.words) p no_mail k;
    mail_due = λ p k. one_or_none (mail_of r.words) p no_mail k;
    mail_keep = λ p k. one_or_none (mail_of r.words) p no_mail k;
    ends = λ s. e;
    due = λ s. due;
    kept_input = λ s. input;
    kept_link = λ s. link;
    kept_depot = λ s. depot;
  }
