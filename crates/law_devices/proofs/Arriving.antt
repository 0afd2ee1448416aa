-- What an end of a sound context takes keeps it sound, and what arrives keeps a device sound.
use Rattle.std.proofs.Common.{arith, ◌≡◌, ℕ, List, [], ◌∷◌, true, false, Bool, refl, sym, ap, ◌∙◌}
use Rattle.std.specs.Prelude.{All, Option, Some, None, if◌then◌else◌}
use Rattle.std.proofs.lemmas.List.Elements.{All-head}
use Rattle.rdma_types.specs.declared.answers.DropReason.TheVariants as why
use Rattle.rdma_types.specs.declared.answers.Answer.TheVariants as answer
use Rattle.rdma_types.specs.declared.answers.ArrivalEffect.TheVariants as took
use Rattle.rdma_types.specs.declared.requests.Address.{Address}
use Rattle.protocol.specs.DeviceStep.{Found, Step, answers, arrives, gives, took_answer, arrives_packet, at_found, at_husk, found_in, husk_entries}
use Rattle.protocol.specs.EndStep.{takes, takes_kind, takes_other}
use Rattle.protocol.specs.EndWords.{EndStep, is_paused, silent}
use Rattle.protocol.specs.Moves.{Control, control_of, nak_stopped}
use Rattle.protocol.specs.Requester.{takes_response}
use Rattle.protocol.specs.State.{Context, Device, End, HuskEntry, Link}
use Rattle.protocol.specs.Wire.{Packet, is_control, is_request, packet_of, wire_of}
use Rattle.law_devices.specs.Sound.{IsSoundContext, IsSoundDevice}
use Rattle.law_devices.proofs.Ends.{Stays, device-with}
use Rattle.law_devices.proofs.Founds.{IsFoundThere, founds-there}
use Rattle.law_devices.proofs.Landing.{response_good}
use Rattle.law_devices.proofs.Moving.{control_good}
use Rattle.law_devices.proofs.Opcodes.{HasNoWord, reads-no-word}
use Rattle.law_devices.proofs.Rooms.{IsHere}
use Rattle.law_devices.proofs.Serving.{takes_request_good}
use Rattle.law_devices.proofs.Working as working
use Rattle.law_devices.proofs.Working.{Good}

module _ (c : Context) (e : End) (l : Link) (s : IsSoundContext c) (here : IsHere c e) (there : e.link ≡ Some l) (d : Packet) (no_word : HasNoWord d) where
  abbrev Fine : EndStep → Type 0
  Fine = Good c e l s here there

  other_good : l.ended ≡ false → Fine (takes_other c e l d)
  other_good alive =
      working.if_good c e l s here there (is_request d.opcode) _ (takes_response c e l d)
      (working.if_good c e l s here there (is_paused l.moving.phase) (silent c why.Paused) _ (working.still c e l s here there _ refl) (takes_request_good c e l s here there alive d no_word))
      (response_good c e l s here there alive d)

  kind_good : l.ended ≡ false → (m : Option Control) → Fine (takes_kind c e l d m)
  kind_good alive (Some m) = control_good c e l s here there alive m
  kind_good alive None = other_good alive

  pub takes_good : Fine (takes c e l d)
  unfolding takes
  takes_good = working.test_good c e l s here there l.ended (silent c why.Ended) (takes_kind c e l d (control_of d)) (λ t. working.still c e l s here there _ refl) (λ alive. kind_good alive (control_of d))

either : (b : Bool) (x y : Step) → IsSoundDevice x.device → IsSoundDevice y.device → IsSoundDevice (if b then x else y).device
either true x y h g = h
either false x y h g = g

at-husk : (d : Device) (from : Address) (p : Packet) (hs : List HuskEntry) → IsSoundDevice d → IsSoundDevice (at_husk d from p hs).device
at-husk d from p [] s = s
at-husk d from p (h ∷ hs) s = either (is_control p) (answers d (took_answer (took.Silent why.Unknown) [])) (gives d (answer.Took took.Stopped 0 1) (record { to = from; number = None; bytes = wire_of (nak_stopped h p.psn) } ∷ [])) s s

pub arriving : (d : Device) (from : Address) (bytes : List ℕ) → IsSoundDevice d → IsSoundDevice (arrives d from bytes).device
unfolding arrives
arriving d from bytes s = by_packet (packet_of bytes) refl
  where
    by_found : (p : Packet) → HasNoWord p → (fs : List Found) → All (IsFoundThere d) fs → IsSoundDevice (at_found d from p fs).device
    by_found p no_word [] all = at-husk d from p (husk_entries p.dest d.husks) s
    by_found p no_word (f ∷ fs) all =
        let h = All-head (IsFoundThere d) f fs all in
        device-with d f.context _ s h.counted (takes_good f.context f.end f.link h.sound h.here h.linked p no_word).goes

    by_packet : (o : Option Packet) → packet_of bytes ≡ o → IsSoundDevice (arrives_packet d from o).device
    by_packet None t = s
    by_packet (Some p) t = by_found p (reads-no-word bytes p t) (found_in p.dest d.contexts) (founds-there d p.dest d.contexts s.contexts s.counted)
