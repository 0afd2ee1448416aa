-- More bytes than were read.
use Rattle.std.proofs.Common.{◌≡◌, ℕ, ◌+◌, ◌≤◌, List, [], ◌++◌, length, take, drop, refl, ap, sym, ◌∙◌, subst, arith, length-append, append_assoc, Bool, true, false, not}
use Rattle.std.proofs.lemmas.List.{drop-append-le}
use Rattle.std.specs.Prelude.{Option, Some, None, IfSome, Result, Ok, Err, IfOk, IfErr, ⊤, if◌then◌else◌}
use Rattle.protocol.specs.declared.dumps.DumpWhy.{DumpWhy}
use Rattle.protocol.specs.declared.images.ContextImage.{ContextImage}
use Rattle.protocol.specs.Dumps.{Reading, Good, Bad, after, raw, read_dump}
use Rattle.dump_reader.specs.Faults.{fault_of}
use Rattle.law_dump_round_trip.specs.Later.{is_short}
use Rattle.dump_reader.specs.declared.fault.DumpFault.{DumpFault}
use Rattle.dump_reader.specs.declared.fault.DumpFault.TheVariants.{BadDump, OutOfMemory}
use Rattle.dump_reader.specs.declared.read_progress.ReadProgress.{ReadProgress}
use Rattle.dump_reader.specs.Ahead.{ahead}
use Rattle.dump_reader.specs.Steps.{IsFault, is_wanting}
use Rattle.dump_reader.specs.ReadProgress.{Stands, IsWhole, image_at}
use Rattle.context_dump.specs.Pieces.{is_bad, goes_on, Feeds, Keeps, IsTaken, IsRefused, IsAsBefore, unless_short, fault_in}
use Rattle.law_dump_round_trip.proofs.Steady.{faults_stay}
use Rattle.dump_reader.specs.declared.cursor.Offence.{Offence}

-- a reading stands where it stood
stands_more : (way : ReadProgress) (bs piece : List ℕ) → Stands way bs → Stands way (bs ++ piece)
stands_more way bs piece h =
    let within = h.within in
    record {
      within = omega (arith, length-append bs piece);
      alike = λ later.
          ap read_dump (append_assoc bs piece later)
          ∙ (h.alike (piece ++ later)
          ∙ ap (λ (x : List ℕ). ahead way.opened way.lists way.place way.at x)
          (sym (append_assoc (drop way.at bs) piece later) ∙ ap (λ (x : List ℕ). x ++ later) (sym (drop-append-le way.at bs piece within))));
    }

-- the same, if there is one
pub some_stands_more : (held : Option ReadProgress) (bs piece : List ℕ) → IfSome held (λ way. Stands way bs) → IfSome held (λ way. Stands way (bs ++ piece))
some_stands_more (Some way) bs piece h = stands_more way bs piece h
some_stands_more None bs piece h = h

sound_by : (r : Reading ContextImage) (c : ContextImage) (n : ℕ) (rest : List ℕ) → r ≡ Good c n rest → is_bad r ≡ false
sound_by r c n rest e = rw e refl

-- a whole dump is not at fault
pub whole_sound : (way : ReadProgress) (bs : List ℕ) → IsWhole way bs → is_bad (read_dump bs) ≡ false
whole_sound way bs h = sound_by (read_dump bs) (image_at way) (length bs) [] h.dump

short_by : (r : Reading ContextImage) (at : ℕ) (why : DumpWhy) → r ≡ Bad at why → is_short why ≡ true → is_bad r ≡ false
short_by r at why e short = rw e (ap not short)

-- nor are bytes that end too early
pub short_sound : (bs : List ℕ) (at : ℕ) (why : DumpWhy) → read_dump bs ≡ Bad at why → is_short why ≡ true → is_bad (read_dump bs) ≡ false
short_sound bs at why e short = short_by (read_dump bs) at why e short

-- after a reading that can go on, it stands
pub stands_after : (r : Result (Unit {0}) DumpFault) (way : ReadProgress) (bs : List ℕ) → IfOk r (λ u. IsWhole way bs) → IfErr r (λ e. is_wanting e ≡ true → Stands way bs) → goes_on r ≡ true → Stands way bs
stands_after (Ok u) way bs whole short e = whole.stands
stands_after (Err (BadDump at why)) way bs whole short e = short e
stands_after (Err OutOfMemory) way bs whole short e = absurd cc

fed_by : (old piece : List ℕ) (place : ℕ) (why : DumpWhy) (short : Bool) → is_short why ≡ short → read_dump (old ++ piece) ≡ Bad place why → Feeds old piece (old ++ piece) (if short then Ok tt else Err (BadDump place why))
fed_by old piece place why true e h = record { bytes = refl; sound = short_sound (old ++ piece) place why h e }
fed_by old piece place why false e h = record { bad = e; here = h; ever = h }

-- a fault, or too few bytes
pub fed_bad : (old piece new : List ℕ) (place : ℕ) (why : DumpWhy) (r : Result (Unit {0}) DumpFault) → new ≡ old ++ piece → read_dump new ≡ Bad place why → r ≡ unless_short place why → Feeds old piece new r
fed_bad old piece new place why r new_is h r_is =
    rw (r_is, new_is) (fed_by old piece place why (is_short why) refl (rw new_is at h))

-- what was kept is answered
pub fed_again : (old piece : List ℕ) (e : Offence) → Keeps old (Some e) → Feeds old piece old (Err (BadDump e.place e.why))
fed_again old piece e h = record { bad = h.1; here = faults_stay old piece e.place e.why h.0 h.1; ever = h.0 }

-- a reader keeps the fault that it found
pub keeps_found : (old piece new : List ℕ) (r : Result (Unit {0}) DumpFault) → Feeds old piece new r → Keeps new (fault_in r)
keeps_found old piece new (Ok u) h = h.sound
keeps_found old piece new (Err (BadDump place why)) h = (h.ever, h.bad)
keeps_found old piece new (Err OutOfMemory) h = rw h.bytes h.sound

-- a reading that can go on stands
pub kept_stands : (o : Option ReadProgress) (way : ReadProgress) (bs : List ℕ) (r : Result (Unit {0}) DumpFault) → IfSome o (λ w. (w ≡ way) × (goes_on r ≡ true)) → IfOk r (λ u. IsWhole way bs) → IfErr r (λ e. is_wanting e ≡ true → Stands way bs) → IfSome o (λ w. Stands w bs)
kept_stands None way bs r kept whole short = tt
kept_stands (Some w) way bs r kept whole short = subst (λ (x : ReadProgress). Stands x bs) (sym kept.0) (stands_after r way bs whole short kept.1)

-- what is whole is not at fault
pub whole_ok : (way : ReadProgress) (bs : List ℕ) (r : Result (Unit {0}) DumpFault) → IfOk r (λ u. IsWhole way bs) → IfOk r (λ u. is_bad (read_dump bs) ≡ false)
whole_ok way bs (Ok u) whole = whole_sound way bs whole
whole_ok way bs (Err e) whole = tt

no_bytes : is_bad (read_dump []) ≡ false
unfolding read_dump after raw
no_bytes = refl

-- no bytes are too few
pub none_sound : (bs : List ℕ) → bs ≡ [] → is_bad (read_dump bs) ≡ false
none_sound bs e = subst (λ (x : List ℕ). is_bad (read_dump x) ≡ false) (sym e) no_bytes

-- the fault that a reader keeps is answered
pub fed_kept : (inside now piece : List ℕ) (o : Option Offence) (e : Offence) (f : DumpFault) → inside ≡ now → Keeps inside o → o ≡ Some e → f ≡ fault_of e → Feeds now piece now (Err f)
fed_kept inside now piece o e f view keeps o_is f_is =
    let kept : Keeps inside (Some e) = subst (λ (x : Option Offence). Keeps inside x) o_is keeps in
    let again : Feeds inside piece inside (Err (fault_of e)) = fed_again inside piece e kept in
    let here : Feeds now piece now (Err (fault_of e)) = subst (λ (x : List ℕ). Feeds x piece x (Err (fault_of e))) view again in
    subst (λ (x : DumpFault). Feeds now piece now (Err x)) (sym f_is) here
