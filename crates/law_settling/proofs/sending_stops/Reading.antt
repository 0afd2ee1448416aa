-- What answers say, by their bytes.
use Rattle.std.proofs.Common.{◌≡◌, ◌⊎◌, ℕ, List, true, false, Bool, refl, sym, ap, ◌∙◌, subst, inl, inr}
use Rattle.std.specs.Prelude.{Option, Some, None, is_some, if◌then◌else◌, ◌==◌}
use Rattle.protocol.specs.declared.wire.Aeth.{Aeth}
use Rattle.protocol.specs.declared.wire.Headers.{Headers}
use Rattle.protocol.specs.declared.wire.Headers.TheVariants as headers
use Rattle.protocol.specs.declared.wire.Layout.{Layout}
use Rattle.protocol.specs.declared.wire.Syndrome.{Syndrome}
use Rattle.protocol.specs.declared.wire.Syndrome.TheVariants.{Ack, Rnr, Nak}
use Rattle.protocol.specs.Bytes.{byte_at, number_at}
use Rattle.protocol.specs.Moves.{Stopped, control_of}
use Rattle.protocol.specs.Wire.{Packet, fields_of, is_nak_stopped, is_request, layout_of, loaded, offence_of, packet_of, read_aeth, read_by, read_syndrome, unloaded}
use Rattle.law_settling.proofs.draining.Replies.{IsReply, IsStop}
use Rattle.law_settling.proofs.sending_stops.Turns.{IsCalm, IsNak, IsAnswerTo}

-- the fields by the row of the opcode
read_as : (bs : List ℕ) (p : Packet) (op : ℕ) (row : Layout) → packet_of bs ≡ Some p → byte_at 0 bs ≡ op → layout_of op ≡ Some row → fields_of row.headers bs ≡ p
unfolding packet_of
read_as bs p op row read at is = by_offence (is_some (offence_of bs)) (layout_of (byte_at 0 bs)) (ap layout_of at ∙ is) read
  where
    same : (a b : Layout) → Some a ≡ Some b → a ≡ b
    same a b h = cc

    by_offence : (b : Bool) (l : Option Layout) → l ≡ Some row → (if b then None else read_by l bs) ≡ Some p → fields_of row.headers bs ≡ p
    by_offence true l h e = absurd (cc)
    by_offence false None h e = absurd (cc)
    by_offence false (Some l) h e = let r : fields_of l.headers bs ≡ p = cc in ap (λ z. fields_of z.headers bs) (sym (same l row h)) ∙ r

-- ---- what a packet with these headers is

abbrev Says : Type 0 → Packet → Type 0
Says Back p = (control_of p ≡ None) × ((x : Aeth) (code : ℕ) → p.aeth ≡ Some x → x.syndrome ≡ Nak code → Back)

bare_says : (bs : List ℕ) → Says ⊥ (fields_of headers.Bare bs)
unfolding control_of is_nak_stopped fields_of
bare_says bs = (refl, λ x code h t. absurd (cc))

aeth_calm : (h : Headers) (a : Aeth) (x : Aeth) (code : ℕ) (s : Syndrome) → a.syndrome ≡ s → ((k : ℕ) → s ≡ Nak k → ⊥) → Some a ≡ Some x → x.syndrome ≡ Nak code → ⊥
aeth_calm h a x code s is none e t = none code (let same : a ≡ x = cc in sym is ∙ (ap (λ z. z.syndrome) same ∙ t))

no_nak_ack : (k : ℕ) → Ack ≡ Nak k → ⊥
no_nak_ack k h = cc

no_nak_rnr : (k : ℕ) → Rnr ≡ Nak k → ⊥
no_nak_rnr k h = cc

ack_syndrome : (n : ℕ) → n ≡ 0x1F → read_syndrome n ≡ Ack
ack_syndrome n h = rw h refl

rnr_syndrome : (n : ℕ) → n ≡ 0x20 → read_syndrome n ≡ Rnr
rnr_syndrome n h = rw h refl

aeth_says : (bs : List ℕ) (s : Syndrome) → read_syndrome (byte_at 12 bs) ≡ s → ((k : ℕ) → s ≡ Nak k → ⊥) → Says ⊥ (fields_of headers.Aeth bs)
unfolding control_of is_nak_stopped fields_of
aeth_says bs s is none = (by_syndrome (read_syndrome (byte_at 12 bs)) (λ k h. none k (sym is ∙ h)), λ x code h t. aeth_calm headers.Aeth (read_aeth bs) x code s is none h t)
  where
    by_syndrome : (z : Syndrome) → ((k : ℕ) → z ≡ Nak k → ⊥) → control_of (record (fields_of headers.Aeth bs) { aeth = Some (record (read_aeth bs) { syndrome = z }) }) ≡ None
    by_syndrome Ack h = refl
    by_syndrome Rnr h = refl
    by_syndrome (Nak code) h = absurd (h code refl)

old_says : (bs : List ℕ) → byte_at 12 bs ≡ 0x1F → Says ⊥ (fields_of headers.AethOld bs)
unfolding control_of is_nak_stopped fields_of
old_says bs h = (rw h refl, λ x code e t. aeth_calm headers.AethOld (read_aeth bs) x code Ack (ack_syndrome (byte_at 12 bs) h) no_nak_ack e t)

nak_says : (bs : List ℕ) → (byte_at 12 bs ≡ 0x60) ⊎ (byte_at 12 bs ≡ 0x61) ⊎ (byte_at 12 bs ≡ 0x62) → control_of (fields_of headers.Aeth bs) ≡ None
unfolding control_of is_nak_stopped fields_of
nak_says bs (inl h) = rw h refl
nak_says bs (inr (inl h)) = rw h refl
nak_says bs (inr (inr h)) = rw h refl

-- ---- rows

row_aeth : (op : ℕ) → (op ≡ 0x0D) ⊎ (op ≡ 0x0F) ⊎ (op ≡ 0x10) → layout_of op ≡ Some (loaded headers.Aeth)
unfolding layout_of
row_aeth op (inl h) = rw h refl
row_aeth op (inr (inl h)) = rw h refl
row_aeth op (inr (inr h)) = rw h refl

row_ack : (op : ℕ) → op ≡ 0x11 → layout_of op ≡ Some (unloaded headers.Aeth)
unfolding layout_of
row_ack op h = rw h refl

row_old : (op : ℕ) → op ≡ 0x12 → layout_of op ≡ Some (unloaded headers.AethOld)
unfolding layout_of
row_old op h = rw h refl

row_bare : (op : ℕ) → op ≡ 0x0E → layout_of op ≡ Some (loaded headers.Bare)
unfolding layout_of
row_bare op h = rw h refl

-- ---- an answer

module _ (bs : List ℕ) (p : Packet) (read : packet_of bs ≡ Some p) where
  by_row : (Back : Type 0) (row : Layout) → layout_of (byte_at 0 bs) ≡ Some row → Says Back (fields_of row.headers bs) → Says Back p
  by_row Back row is h = subst (Says Back) (read_as bs p (byte_at 0 bs) row read refl is) h

  calm_says : IsCalm bs → Says ⊥ p
  calm_says (inl h) = by_row ⊥ (loaded headers.Bare) (row_bare _ h) (bare_says bs)
  calm_says (inr (inl (s, k))) = elim k [
    | inl a ↦ by_row ⊥ (loaded headers.Aeth) (row_aeth _ (inl a)) (aeth_says bs Ack (ack_syndrome _ s) no_nak_ack)
    | inr b ↦ elim b [
      | inl a ↦ by_row ⊥ (loaded headers.Aeth) (row_aeth _ (inr (inl a))) (aeth_says bs Ack (ack_syndrome _ s) no_nak_ack)
      | inr c ↦ elim c [
        | inl a ↦ by_row ⊥ (loaded headers.Aeth) (row_aeth _ (inr (inr a))) (aeth_says bs Ack (ack_syndrome _ s) no_nak_ack)
        | inr e ↦ elim e [
          | inl a ↦ by_row ⊥ (unloaded headers.Aeth) (row_ack _ a) (aeth_says bs Ack (ack_syndrome _ s) no_nak_ack)
          | inr a ↦ by_row ⊥ (unloaded headers.AethOld) (row_old _ a) (old_says bs s)
        ]
      ]
    ]
  ]
  calm_says (inr (inr (s, k))) = by_row ⊥ (unloaded headers.Aeth) (row_ack _ k) (aeth_says bs Rnr (rnr_syndrome _ s) no_nak_rnr)

  pub kind_says : (Back : Type 0) → IsCalm bs ⊎ (Back × IsNak bs) → Says Back p
  kind_says Back (inl h) = let s = calm_says h in (s.0, λ x code e t. absurd (s.1 x code e t))
  kind_says Back (inr (back, nak)) = by_row Back (unloaded headers.Aeth) (row_ack _ nak.0) (nak_says bs nak.1, λ x code e t. back)

  -- NAK_STOPPED
  stopped_says : byte_at 12 bs ≡ 0x65 → control_of (fields_of headers.Aeth bs) ≡ Some (Stopped (number_at 13 3 bs))
  unfolding control_of is_nak_stopped fields_of
  stopped_says h = rw h refl

  pub stop_says : IsStop bs → control_of p ≡ Some (Stopped (number_at 13 3 bs))
  stop_says s = ap control_of (sym (read_as bs p (byte_at 0 bs) (unloaded headers.Aeth) read refl (row_ack _ s.opcode))) ∙ stopped_says s.syndrome

-- the opcode and the number that bytes name
pub heads : (bs : List ℕ) (p : Packet) → packet_of bs ≡ Some p → (p.opcode ≡ byte_at 0 bs) × (p.dest ≡ number_at 5 3 bs)
unfolding packet_of fields_of
heads bs p h = by_offence (is_some (offence_of bs)) (layout_of (byte_at 0 bs)) h
  where
    by_offence : (b : Bool) (l : Option Layout) → (if b then None else read_by l bs) ≡ Some p → (p.opcode ≡ byte_at 0 bs) × (p.dest ≡ number_at 5 3 bs)
    by_offence true l e = absurd (cc)
    by_offence false None e = absurd (cc)
    by_offence false (Some l) e = let is : fields_of l.headers bs ≡ p = cc in (ap (λ z. z.opcode) (sym is), ap (λ z. z.dest) (sym is))

-- ---- it is no request

opcodes : (Back : Type 0) (bs : List ℕ) → IsCalm bs ⊎ (Back × IsNak bs) →
    (byte_at 0 bs ≡ 0x0E) ⊎ (byte_at 0 bs ≡ 0x0D) ⊎ (byte_at 0 bs ≡ 0x0F) ⊎ (byte_at 0 bs ≡ 0x10) ⊎ (byte_at 0 bs ≡ 0x11) ⊎ (byte_at 0 bs ≡ 0x12)
opcodes Back bs (inl (inl h)) = inl h
opcodes Back bs (inl (inr (inl (s, k)))) = inr k
opcodes Back bs (inl (inr (inr (s, k)))) = inr (inr (inr (inr (inl k))))
opcodes Back bs (inr (back, nak)) = inr (inr (inr (inr (inl nak.0))))

no_request_by : (op : ℕ) → (op ≡ 0x0E) ⊎ (op ≡ 0x0D) ⊎ (op ≡ 0x0F) ⊎ (op ≡ 0x10) ⊎ (op ≡ 0x11) ⊎ (op ≡ 0x12) → (is_request op ≡ false) × ((op == 0x1E) ≡ false)
unfolding is_request
no_request_by op (inl h) = (rw h refl, rw h refl)
no_request_by op (inr (inl h)) = (rw h refl, rw h refl)
no_request_by op (inr (inr (inl h))) = (rw h refl, rw h refl)
no_request_by op (inr (inr (inr (inl h)))) = (rw h refl, rw h refl)
no_request_by op (inr (inr (inr (inr (inl h))))) = (rw h refl, rw h refl)
no_request_by op (inr (inr (inr (inr (inr h))))) = (rw h refl, rw h refl)

pub answer_reply : (number : ℕ) (Back : Type 0) (bs : List ℕ) → IsAnswerTo number Back bs → IsReply bs
answer_reply number Back bs h = let n = no_request_by (byte_at 0 bs) (opcodes Back bs h.kind) in record { no_request = n.0; no_resume = n.1 }
