-- Numbers of what stands at the front fit, and those of what follows.
use Rattle.std.proofs.Common.{◌≡◌, ◌-◌, ◌≤◌, get_or, take, drop, List, length, subst}
use Rattle.std.specs.Prelude.{All}
use Rattle.std.proofs.lemmas.List.Elements.{All-cons}
use Rattle.protocol.specs.declared.images.EndImage.{EndImage}
use Rattle.protocol.specs.declared.images.PostedImage.{PostedImage}
use Rattle.law_dump_round_trip.specs.Fits.{FitsEnd, FitsRequest}
use Rattle.dump_writer.specs.Fitting.{LinkFits, RequestsFit}
use Rattle.dump_writer.proofs.Parts.{first_then}

-- the items of a list fit where the first does, and those that follow
all_fit : {A : Type 0} (P : A → Type 0) (xs : List A) (x : A) → 1 ≤ length xs → x ≡ get_or xs 0 x → P x → All P (take (length xs - 1) (drop 1 xs)) → All P xs
all_fit P xs x h is own more = subst (All P) (first_then xs x h is) (All-cons P x (take (length xs - 1) (drop 1 xs)) own more)

-- a queue pair at the front
pub ends_fit : (es : List EndImage) (e : EndImage) → 1 ≤ length es → e ≡ get_or es 0 e → LinkFits e.linked e (take (length es - 1) (drop 1 es)) → All FitsEnd es
ends_fit es e h is fit =
    let own : FitsEnd e = record { linked = fit.linked; untold = fit.kept.requests; unused = fit.kept.receives.receives } in
    all_fit FitsEnd es e h is own fit.kept.receives.ends

-- an untold request at the front
pub requests_fit : (e : EndImage) (ps : List PostedImage) (p : PostedImage) (es : List EndImage) → 1 ≤ length ps → p ≡ get_or ps 0 p → FitsRequest p → RequestsFit e (take (length ps - 1) (drop 1 ps)) es → RequestsFit e ps es
requests_fit e ps p es h is own fit = record { requests = all_fit FitsRequest ps p h is own fit.requests; receives = fit.receives }
