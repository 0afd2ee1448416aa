use Rattle.std.proofs.Common.{List, refl, ap, sym, ◌∙◌}
use Rattle.std.specs.Prelude.{Option, None}
use Rattle.protocol.specs.declared.images.PostedImage.{PostedImage}
use Rattle.dump_reader.specs.declared.heads.LinkImageHead.{LinkImageHead}
use Rattle.dump_reader.specs.declared.lists.ReadState.TheVariants as place
use Rattle.dump_reader.specs.Groups.{link_of_head}
use Rattle.dump_reader.specs.Ahead.{ahead, more_untold, unused_list, linked_of, queues_of, after_count, first_of}
use Rattle.law_dump_round_trip.proofs.Steady.{count_steady}
use Rattle.dump_reader.proofs.Onward.{goes, refused}
use Rattle.dump_reader.proofs.Opens.{opens_untold}
use Rattle.dump_reader.proofs.end_steps.untold_step.Goals as goal

pub returns-in-None : goal.returns-in-None
unfolding ahead
returns-in-None c = goes c.args.opened.now (place.Untold c.args.head.now c.args.link.now c.args.after) c.args.lists.now c.args.c.now _ _ (opens_untold c.args.opened.now c.args.lists.now c.args.head.now c.args.after c.args.link.now) c.read_untold_count.new.c (record c.args.lists.now { untold = c.new.result }) (count_steady _ _ _) c.in_ok-count.ensures.read (place.Unused c.args.head.now None c.args.after) c.in_ok-count.ensures.passed _ (ap (λ (l : Option LinkImageHead). after_count c.args.opened.now c.args.lists.now.domains.items c.args.lists.now.regions.items (queues_of c.args.lists.now) c.args.lists.now.ends.items c.args.after c.args.head.now (linked_of l c.args.lists.now.kept.items) c.in_ok-count.count) c.in-None.is ∙ ap (λ (ps : List PostedImage). unused_list c.args.opened.now c.args.lists.now.domains.items c.args.lists.now.regions.items (queues_of c.args.lists.now) c.args.lists.now.ends.items c.args.after c.args.head.now None ps) (sym c.new.ensures.items)) refl

pub returns-in-Some : goal.returns-in-Some
returns-in-Some c = goes c.args.opened.now (place.Untold c.args.head.now c.args.link.now c.args.after) c.args.lists.now c.args.c.now _ _ (opens_untold c.args.opened.now c.args.lists.now c.args.head.now c.args.after c.args.link.now) c.read_untold_count.new.c _ (count_steady _ _ _) c.in_ok-count.ensures.read c.enter_requests.result c.in_ok-count.ensures.passed _ (ap (λ (l : Option LinkImageHead). after_count c.args.opened.now c.args.lists.now.domains.items c.args.lists.now.regions.items (queues_of c.args.lists.now) c.args.lists.now.ends.items c.args.after c.args.head.now (linked_of l c.args.lists.now.kept.items) c.in_ok-count.count) c.in-Some.is ∙ ap (λ (ps : List PostedImage). more_untold c.args.opened.now c.args.lists.now.domains.items c.args.lists.now.regions.items (queues_of c.args.lists.now) c.args.lists.now.ends.items c.args.after c.args.head.now (link_of_head c.in-Some.link c.args.lists.now.kept.items) (first_of (link_of_head c.in-Some.link c.args.lists.now.kept.items) c.in_ok-count.count) c.in_ok-count.count ps) (sym c.new.ensures.items)) c.enter_requests.ensures.ahead

pub returns-in_err-count : goal.returns-in_err-count
returns-in_err-count c =
    refused c.args.opened.now (place.Untold c.args.head.now c.args.link.now c.args.after) c.args.lists.now c.args.c.now _ _ (opens_untold c.args.opened.now c.args.lists.now c.args.head.now c.args.after c.args.link.now) c.read_untold_count.new.c c.in_err-count.field-0.0 c.from_residual.result c.from_residual.ensures.1 c.in_err-count.ensures.read
