-- The text of each answer is whole lines.
use Rattle.std.proofs.Common.{ℕ, List, [], ◌∷◌, ◌++◌, refl, sym, ap, ◌∙◌, append_assoc, length, codes}
use Rattle.std.specs.Fmt.{decimal}
use Rattle.std.proofs.lemmas.List.{append-nil}
use Rattle.hex.specs.Hex.{encode_lower}
use Rattle.rdma_types.specs.declared.answers.Answer.{Answer}
use Rattle.rdma_types.specs.declared.answers.Answer.TheVariants as answer
use Rattle.rdma_types.specs.declared.answers.UnfinishedReason.{UnfinishedReason}
use Rattle.rdma_types.specs.declared.names.ObjName.{ObjName}
use Rattle.rdma_types.specs.declared.requests.Completion.{Completion}
use Rattle.script_lang.specs.Printed.{IsWhole, ended, line, completion_line, completion_lines, polled_lines, left_line, left_lines, key_text, qp_text, object_text, kind_text, status_number, left_text, imm_words, took_text, sent_words, not_why_text, shown_words, refusal_text, printed}

-- whole lines stay whole behind any text
whole_after : (text lines : List ℕ) → IsWhole lines → IsWhole (text ++ lines)
whole_after text lines w = (text ++ w.0, ap (λ (z : List ℕ). text ++ z) w.1 ∙ sym (append_assoc text w.0 (10 ∷ [])))

ended_whole : (words : List (List ℕ)) → IsWhole (ended words)
ended_whole [] = ([], refl)
ended_whole (word ∷ words) = whole_after (32 ∷ word) (ended words) (ended_whole words)

-- a line is whole
line_whole : (first : List ℕ) (words : List (List ℕ)) → IsWhole (line first words)
line_whole first words = whole_after first (ended words) (ended_whole words)

-- whole lines, and no more
and_nothing : (lines : List ℕ) → IsWhole lines → IsWhole (lines ++ [])
and_nothing lines w = (w.0, append-nil lines ∙ w.1)

completion_whole : (c : Completion) → IsWhole (completion_line c)
unfolding completion_line
completion_whole c = line_whole (codes "wc") (qp_text c.qp ∷ decimal c.id ∷ kind_text c.kind ∷ decimal (status_number c.status) ∷ decimal c.length ∷ imm_words c.imm)

completions_whole : (c : Completion) (cs : List Completion) → IsWhole (completion_lines (c ∷ cs))
unfolding completion_lines
completions_whole c [] = and_nothing (completion_line c) (completion_whole c)
completions_whole c (next ∷ cs) = whole_after (completion_line c) (completion_lines (next ∷ cs)) (completions_whole next cs)

polled_whole : (cs : List Completion) → IsWhole (polled_lines cs)
unfolding polled_lines
polled_whole [] = line_whole (codes "none") []
polled_whole (c ∷ cs) = completions_whole c cs

left_whole : (lines : List ℕ) (ends : List (ObjName × UnfinishedReason)) → IsWhole lines → IsWhole (lines ++ left_lines ends)
unfolding left_lines
left_whole lines [] w = and_nothing lines w
left_whole lines (x ∷ xs) w =
    whole_after lines (left_line x ++ left_lines xs) (left_whole (left_line x) xs (line_whole (codes "left") (object_text x.0 ∷ left_text x.1 ∷ [])))

-- the text of each answer is whole lines
pub printed_whole : (a : Answer) → IsWhole (printed a)
unfolding printed
printed_whole answer.Done = line_whole (codes "ok") []
printed_whole answer.Stopped = line_whole (codes "stopped") []
printed_whole (answer.Region keys) = line_whole (codes "region") (key_text keys.local ∷ key_text keys.remote ∷ [])
printed_whole (answer.Qp number) = line_whole (codes "qp") (qp_text number ∷ [])
printed_whole (answer.Bytes bytes) = line_whole (codes "bytes") (encode_lower bytes ∷ [])
printed_whole (answer.Polled completions) = polled_whole completions
printed_whole (answer.Sent first) = line_whole (codes "sent") (decimal first ∷ [])
printed_whole answer.Idle = line_whole (codes "idle") []
printed_whole answer.WindowFull = line_whole (codes "window") []
printed_whole answer.ReadsFull = line_whole (codes "reads") []
printed_whole answer.Fenced = line_whole (codes "fenced") []
printed_whole answer.Waiting = line_whole (codes "waiting") []
printed_whole (answer.Took t first count) = line_whole (codes "took") (took_text t ∷ sent_words first count)
printed_whole (answer.Expired spent) = line_whole (codes "expired") (decimal spent ∷ [])
printed_whole answer.Spent = line_whole (codes "spent") []
printed_whole (answer.NotCounted w) = line_whole (codes "notcounted") (not_why_text w ∷ [])
printed_whole answer.Over = line_whole (codes "over") []
printed_whole answer.NotWaiting = line_whole (codes "notwaiting") []
printed_whole (answer.Wire bytes) = line_whole (codes "wire") (encode_lower bytes ∷ [])
printed_whole answer.Gone = line_whole (codes "gone") []
printed_whole answer.Lost = line_whole (codes "lost") []
printed_whole answer.Aged = line_whole (codes "aged") []
printed_whole (answer.Dump count bytes) = line_whole (codes "dump") (decimal count ∷ shown_words bytes)
printed_whole (answer.Quiet ends) = left_whole (line (codes "quiet") (decimal (length ends) ∷ [])) ends (line_whole (codes "quiet") (decimal (length ends) ∷ []))
printed_whole (answer.Refused r) = line_whole (codes "refused") (refusal_text r ∷ [])
