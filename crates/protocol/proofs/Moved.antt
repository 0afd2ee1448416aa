-- What a restore makes of an image.
use Rattle.std.proofs.Common.{arith, ◌≡◌, ◌++◌, List, [], ◌∷◌, map, true, false, Bool, refl}
use Rattle.std.specs.Prelude.{Option, Some, None, option_map}
use Rattle.protocol.specs.declared.events.Event.TheVariants.{Restore}
use Rattle.protocol.specs.declared.images.ContextImage.{ContextImage}
use Rattle.protocol.specs.DeviceStep.{device_step, restores}
use Rattle.protocol.specs.Images.{AreMovedEnds, AreMovedLinks, IsMoved, IsMovedEnd, IsMovedLink, context_of, moved, moved_end, moved_link}
use Rattle.protocol.specs.Refusals.{refusal_of}
use Rattle.protocol.specs.State.{Device, End, Link}

-- a link in Error stays, and a link in Rts moves
by_state : (l : Link) (b : Bool) → l.ended ≡ b → IsMovedLink l (moved_link l)
unfolding moved_link
by_state l true e = record {
  ended = rw e refl;
  peer = grind (arith, e);
  terms = grind (arith, e);
  partner = grind (arith, e);
  recorded = grind (arith, e);
  own = grind (arith, e);
  phase = grind (arith, e);
  untold = grind (arith, e);
  first = grind (arith, e);
  una = grind (arith, e);
  next = grind (arith, e);
  top = grind (arith, e);
  spent = grind (arith, e);
  waits = grind (arith, e);
  rnr_wait = grind (arith, e);
  receiver = grind (arith, e);
}
by_state l false e = record {
  ended = grind (arith, e);
  peer = grind (arith, e);
  terms = grind (arith, e);
  partner = grind (arith, e);
  recorded = grind (arith, e);
  own = grind (arith, e);
  phase = grind (arith, e);
  untold = grind (arith, e);
  first = grind (arith, e);
  una = grind (arith, e);
  next = grind (arith, e);
  top = grind (arith, e);
  spent = grind (arith, e);
  waits = grind (arith, e);
  rnr_wait = grind (arith, e);
  receiver = grind (arith, e);
}

by_link : (l : Option Link) → AreMovedLinks l (option_map moved_link l)
by_link None = tt
by_link (Some l) = by_state l _ refl

moved_end_is : (e : End) → IsMovedEnd e (moved_end e)
unfolding moved_end
moved_end_is e = record {
  name = refl;
  number = refl;
  domain = refl;
  send_cq = refl;
  recv_cq = refl;
  send_depth = refl;
  recv_depth = refl;
  unused = refl;
  link = by_link e.link;
}

moved_ends : (es : List End) → AreMovedEnds es (map moved_end es)
moved_ends [] = tt
moved_ends (e ∷ es) = (moved_end_is e, moved_ends es)

-- the moved context of an image is its image but for what a move changes
pub moved_is : (image : ContextImage) → IsMoved image (moved (context_of image))
unfolding moved context_of
moved_is image = record { name = refl; domains = refl; regions = refl; queues = refl; ends = moved_ends _ }

-- a restore that is not refused puts it on the device
pub restored_is : (d : Device) (image : ContextImage) → refusal_of d (Restore image) ≡ None → (device_step d (Restore image)).device.contexts ≡ d.contexts ++ moved (context_of image) ∷ []
unfolding device_step restores
restored_is d image h = rw h refl
