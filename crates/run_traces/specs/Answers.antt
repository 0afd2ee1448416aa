-- The lines of answers in a trace, and the key or number that they say (this project's choice).
use Rattle.std.specs.Prelude.{ℕ, List, [], ◌∷◌, ◌++◌, Option, Some, None, Result, Ok, Err, if◌then◌else◌, unwrap_or, bytes_eq, codes}
use Rattle.std.specs.Map.{lookup}
use Rattle.rdma_types.specs.declared.answers.Answer.{Answer}
use Rattle.rdma_types.specs.declared.answers.Answer.TheVariants as answers
use Rattle.rdma_types.specs.declared.answers.Refusal.{Refusal}
use Rattle.rdma_types.specs.declared.answers.Refusal.TheVariants as refusals
use Rattle.rdma_types.specs.declared.requests.WcKind.{WcKind}
use Rattle.rdma_types.specs.declared.requests.WcKind.TheVariants as kinds
use Rattle.rdma_types.specs.declared.requests.WcStatus.{WcStatus}
use Rattle.rdma_types.specs.declared.requests.WcStatus.TheVariants as statuses
use Rattle.rdma_types.specs.declared.verbs.Verb.{Verb}
use Rattle.rdma_types.specs.declared.verbs.Verb.TheVariants as verbs
use Rattle.script_lang.specs.declared.lines.LineWhy.TheVariants as why
use Rattle.script_lang.specs.declared.lines.Offence.{Offence}
use Rattle.script_lang.specs.Fields.{a_key, a_long, a_queue_pair, a_short, an_immediate, some_bytes}
use Rattle.script_lang.specs.Lines.{said, whole}
use Rattle.script_lang.specs.Printed.{printed}
use Rattle.script_lang.specs.Words.{Reads, ◌>>=◌, done, a_field, input_of}
use Rattle.run_traces.specs.declared.trace_audit.lines.AnswerForm.{AnswerForm}
use Rattle.run_traces.specs.declared.trace_audit.lines.AnswerForm.TheVariants as form

-- ---- words

-- the refusal of a verb that a word names
unfoldable pub refusal_of_word : List ℕ → Option Refusal
refusal_of_word w =
    lookup (λ text. bytes_eq w text)
    ((codes "NoSuch", refusals.NoSuch)
    ∷ (codes "NumberTaken", refusals.NumberTaken)
    ∷ (codes "TooMany", refusals.TooMany)
    ∷ (codes "BadState", refusals.BadState)
    ∷ (codes "SqFull", refusals.SqFull)
    ∷ (codes "RqFull", refusals.RqFull)
    ∷ (codes "CqFull", refusals.CqFull)
    ∷ (codes "BadKey", refusals.BadKey)
    ∷ (codes "TooLong", refusals.TooLong)
    ∷ (codes "InUse", refusals.InUse)
    ∷ (codes "Stopped", refusals.Stopped)
    ∷ (codes "NoPage", refusals.NoPage)
    ∷ [])

-- the kind of a completion that a word names
unfoldable pub kind_of_word : List ℕ → Option WcKind
kind_of_word w =
    lookup (λ text. bytes_eq w text)
    ((codes "write", kinds.Write)
    ∷ (codes "send", kinds.Send)
    ∷ (codes "read", kinds.Read)
    ∷ (codes "cas", kinds.CompareSwap)
    ∷ (codes "add", kinds.FetchAdd)
    ∷ (codes "recv", kinds.Recv)
    ∷ (codes "recvimm", kinds.RecvImm)
    ∷ [])

-- the status of a completion that a word names
unfoldable pub status_of_word : List ℕ → Option WcStatus
status_of_word w =
    lookup (λ text. bytes_eq w text)
    ((codes "0", statuses.Success)
    ∷ (codes "1", statuses.LocalLength)
    ∷ (codes "5", statuses.Flush)
    ∷ (codes "9", statuses.RemoteInvalid)
    ∷ (codes "10", statuses.RemoteAccess)
    ∷ (codes "12", statuses.RetryExceeded)
    ∷ (codes "13", statuses.RnrExceeded)
    ∷ [])

-- the answer that a word begins
unfoldable pub answer_form : List ℕ → Option AnswerForm
answer_form w =
    lookup (λ text. bytes_eq w text)
    ((codes "ok", form.Done)
    ∷ (codes "none", form.NoEntry)
    ∷ (codes "region", form.Keys)
    ∷ (codes "qp", form.Number)
    ∷ (codes "bytes", form.Bytes)
    ∷ (codes "wc", form.Entry)
    ∷ (codes "refused", form.Refused)
    ∷ [])

-- ---- lines

-- `region` local key, remote key
unfoldable pub keys_said : Reads Answer
keys_said = do
  local ← a_key
  remote ← a_key
  done (answers.Region (record { local = local; remote = remote }))

-- `qp` number
unfoldable pub number_said : Reads Answer
number_said = do
  number ← a_queue_pair
  done (answers.Qp number)

-- `bytes` and these
unfoldable pub bytes_said : Reads Answer
bytes_said = do
  bytes ← some_bytes
  done (answers.Bytes bytes)

-- `wc` queue pair, id, kind, status, length, and perhaps `imm` i
unfoldable pub entry_said : Reads Answer
entry_said = do
  qp ← a_queue_pair
  id ← a_long
  kind ← a_field kind_of_word why.Word
  status ← a_field status_of_word why.Word
  size ← a_short
  imm ← an_immediate
  done (answers.Polled (record { qp = qp; id = id; kind = kind; status = status; length = size; imm = imm } ∷ []))

-- `refused` and a refusal
unfoldable pub refusal_said : Reads Answer
refusal_said = do
  refusal ← a_field refusal_of_word why.Word
  done (answers.Refused refusal)

-- what the words behind the first say
unfoldable pub answer_said : AnswerForm → Reads Answer
answer_said form.Done = done answers.Done
answer_said form.NoEntry = done (answers.Polled [])
answer_said form.Keys = keys_said
answer_said form.Number = number_said
answer_said form.Bytes = bytes_said
answer_said form.Entry = entry_said
answer_said form.Refused = refusal_said

-- what the words of a line of an answer say
unfoldable pub words_said : Reads Answer
words_said = do
  form ← a_field answer_form why.Word
  answer_said form

-- the answer, where it is printed as that very line
abbrev pub if_printed : List ℕ → Result Answer Offence → Option Answer
if_printed text (Ok a) = if bytes_eq (printed a) (text ++ 10 ∷ []) then Some a else None
if_printed text (Err e) = None

-- the answer of one line that a text is, where it is an answer to some verb: its words say one, and that is printed as this
-- very text; so one space stands between two words, and digits are in lower case
unfoldable pub answer_of_line : List ℕ → Option Answer
answer_of_line text = if_printed text (said (whole words_said (input_of text)))

-- ---- the key or number that an answer gives

-- the local key of a region
abbrev pub key_in : Option Answer → Option ℕ
key_in (Some (answers.Region keys)) = Some keys.local
key_in other = None

-- the number of a queue pair
abbrev pub number_in : Option Answer → Option ℕ
number_in (Some (answers.Qp number)) = Some number
number_in other = None

-- the key or number that a line of an answer says is given by the verb; any other verb gives none, which stands as 0
abbrev pub given_in : Verb → Option Answer → Option ℕ
given_in (verbs.MakeRegion name domain base count rights) a = key_in a
given_in (verbs.MakeQp name domain send_cq recv_cq send_depth recv_depth) a = number_in a
given_in other a = Some 0

-- the answer of the first line
abbrev pub first_answer : List (List ℕ) → Option Answer
first_answer [] = None
first_answer (text ∷ more) = answer_of_line text

-- the key or number that the lines of an answer say
abbrev pub given_by : Verb → List (List ℕ) → Option ℕ
given_by v lines = given_in v (first_answer lines)

-- .. where 0 stands for none
abbrev pub given_or_none : Option ℕ → ℕ
given_or_none given = unwrap_or given 0
