-- What is ahead at a place, as the group of fields that is read there and what follows it.
use Rattle.std.proofs.Common.{◌≡◌, ℕ, suc, ◌-◌, List, [], ◌∷◌, ◌++◌, length, refl, ap, sym, ◌∙◌}
use Rattle.std.specs.Prelude.{Option, ◌==◌}
use Rattle.rdma_types.specs.declared.requests.Completion.{Completion}
use Rattle.rdma_types.specs.declared.requests.Request.{Request}
use Rattle.rdma_types.specs.Limits.{most_regions, most_queues, most_ends}
use Rattle.protocol.specs.declared.images.RegionImage.{RegionImage}
use Rattle.protocol.specs.Images.{name_at}
use Rattle.protocol.specs.Dumps.{Reading, ReadQueue, after, then_read, raw, items, count_field, count_by, name_field, entry_field, kept_field, receive_field}
use Rattle.dump_reader.specs.declared.heads.EarlierRequests.{EarlierRequests}
use Rattle.dump_reader.specs.declared.heads.EndImageHead.{EndImageHead}
use Rattle.dump_reader.specs.declared.heads.LinkImageHead.{LinkImageHead}
use Rattle.dump_reader.specs.declared.heads.DumpHead.{DumpHead}
use Rattle.dump_reader.specs.declared.heads.QueueHead.{QueueHead}
use Rattle.dump_reader.specs.declared.heads.RegionImageHead.{RegionImageHead}
use Rattle.dump_reader.specs.declared.lists.Lists.{Lists}
use Rattle.dump_reader.specs.declared.lists.ReadState.TheVariants as place
use Rattle.dump_reader.specs.Groups.{regions_of, region_head_field, queue_head_field, end_head_field, link_head_field, link_of_head, region_of_head, request_start_field, payload_length}
use Rattle.dump_reader.specs.Ahead.{ahead, more_domains, more_regions, more_queues, more_entries, more_ends, more_kept, more_untold, more_receives, after_head, after_count, linked_of, queues_of, passed, may_be_untold, may_be_unused}
use Rattle.dump_reader.proofs.Split.{after_after, after_good, after_then, region_split, queue_split, entry_any}
use Rattle.dump_reader.proofs.Ends.{placed_begin, linked_begins, untold_opens, unused_opens, request_begins}

module _ (o : DumpHead) (s : Lists) where
  pub opens_domain : (m q : ℕ) (b : List ℕ) → ahead o s (place.Domain m) q b ≡ then_read (name_field s.domains.items) (λ x. more_domains o m (s.domains.items ++ x ∷ [])) q b
  unfolding ahead more_domains items
  opens_domain m q b = after_after _ _ _

  pub opens_region_count : (q : ℕ) (b : List ℕ) → ahead o s place.RegionCount q b ≡ then_read (count_field 2 most_regions) (λ k. more_regions o s.domains.items k []) q b
  unfolding ahead
  opens_region_count q b = refl

  pub opens_region : (m q : ℕ) (b : List ℕ) → ahead o s (place.Region m) q b ≡ then_read (region_head_field (length s.domains.items) s.regions.items) (λ h. then_read (raw h.length) λ bytes. more_regions o s.domains.items m (s.regions.items ++ region_of_head h bytes ∷ [])) q b
  unfolding ahead more_regions items
  opens_region m q b =
      after_after _ _ _
      ∙ (ap (λ (r : Reading RegionImage). after r (λ x. more_regions o s.domains.items m (s.regions.items ++ x ∷ []))) (region_split (length s.domains.items) s.regions.items q b)
      ∙ after_then _ _ _ _ λ h p bs. after_then _ _ _ _ λ bytes p bs. after_good _ _ _ _)

  pub opens_bytes : (h : RegionImageHead) (missing n q : ℕ) (b : List ℕ) → ahead o s (place.Bytes h missing n) q b ≡ then_read (raw missing) (λ more. more_regions o s.domains.items n (s.regions.items ++ region_of_head h (s.run ++ more) ∷ [])) q b
  unfolding ahead
  opens_bytes h missing n q b = refl

  pub opens_queue_count : (q : ℕ) (b : List ℕ) → ahead o s place.QueueCount q b ≡ then_read (count_field 2 most_queues) (λ k. more_queues o s.domains.items s.regions.items k []) q b
  unfolding ahead
  opens_queue_count q b = refl

  pub opens_queue : (m q : ℕ) (b : List ℕ) → ahead o s (place.Queue m) q b ≡ then_read (queue_head_field (queues_of s)) (λ h. more_entries o s.domains.items s.regions.items (queues_of s) m h h.count []) q b
  unfolding ahead more_queues more_entries items
  opens_queue m q b =
      after_after _ _ _
      ∙ (ap (λ (r : Reading ReadQueue). after r (λ x. more_queues o s.domains.items s.regions.items m (queues_of s ++ x ∷ []))) (queue_split (queues_of s) q b)
      ∙ after_then _ _ _ _ λ h p bs. after_then _ _ _ _ λ entries p bs. after_good _ _ _ _)

  pub opens_entry : (h : QueueHead) (m n q : ℕ) (b : List ℕ) → ahead o s (place.Entry h m n) q b ≡ then_read (entry_field []) (λ x. more_entries o s.domains.items s.regions.items (queues_of s) n h m (s.entries.items ++ x ∷ [])) q b
  unfolding ahead more_entries items
  opens_entry h m n q b =
      after_after _ _ _
      ∙ ap (λ (r : Reading Completion). after r (λ x. more_entries o s.domains.items s.regions.items (queues_of s) n h m (s.entries.items ++ x ∷ []))) (entry_any s.entries.items q b)

  pub opens_end_count : (q : ℕ) (b : List ℕ) → ahead o s place.EndCount q b ≡ then_read (count_field 2 most_ends) (λ k. more_ends o s.domains.items s.regions.items (queues_of s) k []) q b
  unfolding ahead
  opens_end_count q b = refl

  pub opens_end : (m q : ℕ) (b : List ℕ) → ahead o s (place.End m) q b ≡ then_read (end_head_field (length s.domains.items) (length s.queues.items) s.ends.items) (λ h. after_head o s.domains.items s.regions.items (queues_of s) s.ends.items m h) q b
  unfolding ahead
  opens_end m q b = placed_begin o s.domains.items s.regions.items s.queues.items s.ends.items m q b

  module _ (h : EndImageHead) (n : ℕ) where
    pub opens_link : (q : ℕ) (b : List ℕ) → ahead o s (place.Link h n) q b ≡ then_read (link_head_field (regions_of s.domains.items s.regions.items) (name_at s.domains.items h.domain) (h.state == 2)) (λ l. more_kept o s.domains.items s.regions.items (queues_of s) s.ends.items n h l l.count []) q b
    unfolding ahead
    opens_link q b = linked_begins o s.domains.items s.regions.items (queues_of s) s.ends.items n h q b

    pub opens_kept : (l : LinkImageHead) (m q : ℕ) (b : List ℕ) → ahead o s (place.Kept h l m n) q b ≡ then_read (kept_field l.waiting.expected s.kept.items) (λ x. more_kept o s.domains.items s.regions.items (queues_of s) s.ends.items n h l m (s.kept.items ++ x ∷ [])) q b
    unfolding ahead more_kept items
    opens_kept l m q b = after_after _ _ _

    pub opens_untold : (l : Option LinkImageHead) (q : ℕ) (b : List ℕ) → ahead o s (place.Untold h l n) q b ≡ then_read (count_by 2 h.send_depth (may_be_untold l)) (λ k. after_count o s.domains.items s.regions.items (queues_of s) s.ends.items n h (linked_of l s.kept.items) k) q b
    unfolding ahead
    opens_untold l q b = untold_opens o s.domains.items s.regions.items (queues_of s) s.ends.items n h l s.kept.items q b

    pub opens_request : (l : LinkImageHead) (before : EarlierRequests) (m q : ℕ) (b : List ℕ) → ahead o s (place.Request h l before m n) q b ≡ then_read (request_start_field (record { version = o.version; count = before.count; index = before.count - suc m; low = before.low; landing = before.landing }) (link_of_head l []) (regions_of s.domains.items s.regions.items) (name_at s.domains.items h.domain)) (λ (r : Request). then_read (raw (payload_length r)) λ payload. more_untold o s.domains.items s.regions.items (queues_of s) s.ends.items n h (link_of_head l s.kept.items) (passed (link_of_head l []) before r) m (s.untold.items ++ record { request = r; payload = payload } ∷ [])) q b
    unfolding ahead
    opens_request l before m q b =
        request_begins o s.domains.items s.regions.items (queues_of s) s.ends.items n h l s.kept.items before m s.untold.items q b ∙ sym (after_after _ _ _)

    pub opens_payload : (l : LinkImageHead) (before : EarlierRequests) (k : ℕ) (r : Request) (missing q : ℕ) (b : List ℕ) → ahead o s (place.Payload h l before k n r missing) q b ≡ then_read (raw missing) (λ more. more_untold o s.domains.items s.regions.items (queues_of s) s.ends.items n h (link_of_head l s.kept.items) before k (s.untold.items ++ record { request = r; payload = s.run ++ more } ∷ [])) q b
    unfolding ahead
    opens_payload l before k r missing q b = refl

    pub opens_unused : (l : Option LinkImageHead) (q : ℕ) (b : List ℕ) → ahead o s (place.Unused h l n) q b ≡ then_read (count_by 2 h.recv_depth (may_be_unused l)) (λ k. more_receives o s.domains.items s.regions.items (queues_of s) s.ends.items n h (linked_of l s.kept.items) s.untold.items k []) q b
    unfolding ahead
    opens_unused l q b = unused_opens o s.domains.items s.regions.items (queues_of s) s.ends.items n h s.untold.items l s.kept.items q b

    pub opens_receive : (l : Option LinkImageHead) (m q : ℕ) (b : List ℕ) → ahead o s (place.Receive h l m n) q b ≡ then_read (receive_field (regions_of s.domains.items s.regions.items) (name_at s.domains.items h.domain) 0) (λ x. more_receives o s.domains.items s.regions.items (queues_of s) s.ends.items n h (linked_of l s.kept.items) s.untold.items m (s.unused.items ++ x ∷ [])) q b
    unfolding ahead more_receives items
    opens_receive l m q b = after_after _ _ _
