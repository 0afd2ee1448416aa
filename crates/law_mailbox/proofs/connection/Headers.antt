-- A header and a message read back.
use Rattle.std.proofs.Common.{arith, ◌≡◌, ℕ, ◌<◌, ◌≤◌, List, [], ◌++◌, length, drop, true, false, Bool, refl, ap, ◌∙◌, Some, None}
use Rattle.std.specs.Prelude.{if◌then◌else◌, ◌==◌}
use Rattle.byteorder.specs.Numbers.{big_number-reads_back}
use Rattle.protocol.specs.Bytes.{big_bytes, number_at}
use Rattle.mailbox_rules.specs.declared.letters.Header.{Header}
use Rattle.mailbox_rules.specs.declared.letters.Letter.{Letter}
use Rattle.mailbox_rules.specs.Calls.{header_for, message_of}
use Rattle.mailbox_rules.specs.Letters.{header_bytes, header_length, header_of, is_rendezvous}
use Rattle.mailbox_rules.specs.Opening.{sender_remote_key}
use Rattle.mailbox_rules.specs.Working.{arrival_of, fetch_of}
use Rattle.law_mailbox.specs.Headers.{IsHeader, IsLetter, IsMessageRead, IsReadBack}

kind_reads : (b : Bool) → ((if b then 2 else 1) == 2) ≡ b
kind_reads true = refl
kind_reads false = refl

pub header_read : (h : Header) (others : List ℕ) → IsHeader h → IsReadBack h others
unfolding header_of header_bytes number_at big_bytes
header_read h others fits = record {
  header = λ i. record {
    fetched = kind_reads h.fetched i;
    tag = big_number-reads_back 4 h.tag ((big_bytes 4 h.length ++ big_bytes 4 h.rkey) ++ others) fits.tag_fits i;
    length = big_number-reads_back 4 h.length (big_bytes 4 h.rkey ++ others) fits.length_fits i;
    rkey = big_number-reads_back 4 h.rkey others fits.rkey_fits i;
  };
  behind = refl;
  size = refl;
}

-- ---- a message

module _ (i : ℕ) (l : Letter) (known : i ≤ 8) (is : IsLetter l) where
  key_fits : (b : Bool) → (if b then sender_remote_key i else 0) < 4294967296
  key_fits true = omega arith
  key_fits false = omega arith

  in_range : IsHeader (header_for i l)
  in_range = let size = is.body_fits in record { tag_fits = is.tag_fits; length_fits = omega (arith, size); rkey_fits = key_fits (is_rendezvous l.body) }

  behind_it : List ℕ
  behind_it = if is_rendezvous l.body then [] else l.body

  of_header : (b : Bool) (more bytes : List ℕ) → drop header_length bytes ≡ more → more ≡ (if b then [] else l.body) →
      arrival_of (record { fetched = b; tag = l.tag; length = length l.body; rkey = if b then sender_remote_key i else 0 }) bytes ≡ record { tag = l.tag; body = if b then None else Some l.body }
  of_header true more bytes drops is' = refl
  of_header false more bytes drops is' = λ k. record { tag = l.tag; body = Some ((drops ∙ is') k) }

  fetched_by : (b : Bool) → fetch_of (record { fetched = b; tag = l.tag; length = length l.body; rkey = if b then sender_remote_key i else 0 }) ≡ (if b then Some (record { length = length l.body; rkey = sender_remote_key i }) else None)
  fetched_by true = refl
  fetched_by false = refl

  pub message_read : IsMessageRead i l
  message_read =
      let back : IsReadBack (header_for i l) (if is_rendezvous l.body then [] else l.body) = header_read (header_for i l) (if is_rendezvous l.body then [] else l.body) in_range in
      record {
        arrival = ap (λ (h : Header). arrival_of h (message_of i l)) back.header ∙ of_header (is_rendezvous l.body) (if is_rendezvous l.body then [] else l.body) (message_of i l) back.behind refl;
        fetch = ap (λ (h : Header). fetch_of h) back.header ∙ fetched_by (is_rendezvous l.body);
      }
