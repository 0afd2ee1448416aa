-- Letters that are sent.
use Rattle.std.proofs.Common.{◌≡◌, ℕ, List, [], ◌++◌, length, ◌≤◌, arith, lit≤, Bool, true, false, ◌||◌, refl, sym, ap, ◌∙◌, subst, Some, None, if◌then◌else◌}
use Rattle.rdma_types.specs.declared.answers.Answer.{Answer}
use Rattle.protocol.specs.Bytes.{big_bytes}
use Rattle.protocol.specs.State.{World}
use Rattle.protocol.specs.WorldStep.{carried_image, home, live_context}
use Rattle.mailbox_rules.specs.declared.due.Side.TheVariants.{AtSender}
use Rattle.mailbox_rules.specs.declared.faults.MailFault.{MailFault}
use Rattle.mailbox_rules.specs.declared.faults.MailFault.TheVariants as fault
use Rattle.mailbox_rules.specs.declared.letters.Header.{Header}
use Rattle.mailbox_rules.specs.declared.letters.Letter.{Letter}
use Rattle.mailbox_rules.specs.Letters.{header_bytes, is_rendezvous}
use Rattle.mailbox_rules.specs.Opening.{slot_address, staging_address}
use Rattle.mailbox_rules.specs.State.{Mail, ending, with_channel}
use Rattle.mailbox_rules.specs.Working.{Asked, asking, begun, is_too_many, posted, worked, working}
use Rattle.mailbox_rules.specs.Calls.{After, IsSent, Refused, Reply, Send, calls, header_for, message_of, posts_letter, replies, send_event, send_fault, sends, slotted, staged, storing}
use Rattle.mailbox_rules.specs.Wanting.{AllStored, BodyStored, NotStored, SendCut, SendWorkCut}
use Rattle.mailbox.specs.Steps.{Goes, IsAsked, IsPartOfSend, IsPartOfWork, IsStoredOnly, Replies, Shows, changed, message_with, sent_with}
use Rattle.mailbox.proofs.Posting.{asked_answer, badly_posted, shows_same, well_posted}

-- a refusal is the same of what is shown
pub fault_same : (v m : Mail) (i : ℕ) (body : List ℕ) → Shows v m → send_fault v i body ≡ send_fault m i body
unfolding carried_image live_context home
fault_same v m i body shows =
    ap (λ cs. send_fault (record { world = v.world; channels = cs; owed = v.owed }) i body) shows.channels
    ∙ ap (λ w. send_fault (record { world = w; channels = m.channels; owed = v.owed }) i body) shows.world

-- ---- the posting

module _ (v m : Mail) (i length : ℕ) (stored : Bool) (new : World) (answer : Answer) (shows : Shows v m) (asks : IsAsked v.world new (send_event i length) answer) where
  abbrev a : Asked
  a = asking m (send_event i length)

  answer_is : answer ≡ a.answer
  answer_is = asked_answer m (send_event i length) answer v.world new (asks m.world shows.world)

  -- what is left, by whether the answer was TooMany
  sent_as : Bool → After
  sent_as b =
      if b
      then replies (posted a AtSender i) (Refused fault.Ended)
      else replies (with_channel (posted a AtSender i) i (λ c. record c { slot_in_use = c.slot_in_use || stored })) IsSent

  pub sent_well : is_too_many answer ≡ false → Replies (record { world = new; channels = changed v.channels i (λ c. record c { slot_in_use = c.slot_in_use || stored }); owed = v.owed }) IsSent (sent_with m i length stored)
  unfolding sent_as
  sent_well few =
      let shown : Shows (record { world = new; channels = v.channels; owed = v.owed }) (posted a AtSender i) = well_posted m (send_event i length) answer v.world new (asks m.world shows.world) v AtSender i few shows in
      subst (λ (b : Bool). Replies (record { world = new; channels = changed v.channels i (λ c. record c { slot_in_use = c.slot_in_use || stored }); owed = v.owed }) IsSent (sent_as b))
      (sym few ∙ ap (λ x. is_too_many x) answer_is)
      (record {
        reply_is = refl;
        shown = record { world = shown.world; channels = ap (λ cs. changed cs i (λ c. record c { slot_in_use = c.slot_in_use || stored })) shown.channels; owed = shown.owed };
      })

  pub sent_badly : is_too_many answer ≡ true → Replies (record { world = new; channels = changed v.channels i (ending AtSender); owed = v.owed }) (Refused fault.Ended) (sent_with m i length stored)
  unfolding sent_as
  sent_badly many =
      let shown : Shows (record { world = new; channels = changed v.channels i (ending AtSender); owed = v.owed }) (posted a AtSender i) = badly_posted m (send_event i length) answer v.world new (asks m.world shows.world) v AtSender i many shows in
      subst (λ (b : Bool). Replies (record { world = new; channels = changed v.channels i (ending AtSender); owed = v.owed }) (Refused fault.Ended) (sent_as b))
      (sym many ∙ ap (λ x. is_too_many x) answer_is) (record { reply_is = refl; shown = shown })

-- ---- the letter

pub posts_is : (m : Mail) (i : ℕ) (l : Letter) → posts_letter m i l ≡ sent_with (staged m i l) i (length (message_of i l)) (is_rendezvous l.body)
unfolding posts_letter
posts_is m i l = refl

-- ---- the call

module _ (m : Mail) (i : ℕ) (l : Letter) where
  pub refused_call : (v : Mail) (why : MailFault) → Shows v (working m) → send_fault v i l.body ≡ Some why → Replies v (Refused why) (calls m (Send i l.tag l.body))
  unfolding calls sends
  refused_call v why shows is = rw (sym (fault_same v (working m) i l.body shows) ∙ is) (record { reply_is = refl; shown = shows })

  pub sent_call : (v : Mail) → Shows v (working m) → send_fault v i l.body ≡ None → calls m (Send i l.tag l.body) ≡ posts_letter (working m) i l
  unfolding calls sends
  sent_call v shows is = rw (sym (fault_same v (working m) i l.body shows) ∙ is) refl

  pub work_cut : (new : Mail) → IsPartOfWork new m → IsPartOfSend new m i l
  work_cut new part = record { mail = (worked part.steps (begun m)).mail; cut = SendWorkCut (record { steps = part.steps; after = refl }); shown = part.shown }

  pub send_cut : (v new : Mail) → Shows v (working m) → send_fault v i l.body ≡ None → IsStoredOnly new (working m) i l → IsPartOfSend new m i l
  send_cut v new shows is part = record { mail = part.mail; cut = SendCut (record { may = sym (fault_same v (working m) i l.body shows) ∙ is; stored = part.stored }); shown = part.shown }

-- the sender's number is the one that was found
pub sent_ok : (v new m : Mail) (i from : ℕ) (l : Letter) → i ≡ from → Shows v (working m) → send_fault v i l.body ≡ None → (r : Reply) → ((x : Mail) → Shows v x → Replies new r (posts_letter x i l)) → Replies new r (calls m (Send from l.tag l.body))
sent_ok v new m i from l is shows may r posts =
    subst (λ (j : ℕ). Replies new r (calls m (Send j l.tag l.body))) is
    (subst (λ (a : After). Replies new r a) (sym (sent_call m i l v shows may)) (posts (working m) shows))

pub refused_at : (v m : Mail) (i from : ℕ) (l : Letter) (why : MailFault) → i ≡ from → Shows v (working m) → send_fault v i l.body ≡ Some why → Replies v (Refused why) (calls m (Send from l.tag l.body))
refused_at v m i from l why is shows fault' = subst (λ (j : ℕ). Replies v (Refused why) (calls m (Send j l.tag l.body))) is (refused_call m i l v why shows fault')

pub cut_at : (v new m : Mail) (i from : ℕ) (l : Letter) → i ≡ from → Shows v (working m) → send_fault v i l.body ≡ None → ((x : Mail) → Shows v x → IsStoredOnly new x i l) → IsPartOfSend new m from l
cut_at v new m i from l is shows may stored = subst (λ (j : ℕ). IsPartOfSend new m j l) is (send_cut m i l v new shows may (stored (working m) shows))

-- ---- its parts

module _ (v m : Mail) (i : ℕ) (l : Letter) (shows : Shows v m) where
  -- nothing was stored
  pub none_stored : (new : Mail) → new ≡ v → IsStoredOnly new m i l
  none_stored new same = record { mail = m; stored = NotStored; shown = shows_same v new m same shows }

  -- the body was stored, where it is to be fetched
  pub body_stored : (b : Bool) (v1 new : Mail) → b ≡ is_rendezvous l.body → Goes v v1 (λ x. if b then storing x i slot_address l.body else x) → new ≡ v1 → IsStoredOnly new m i l
  body_stored b v1 new is goes same = by b is (goes m shows)
    where
      by : (b : Bool) → b ≡ is_rendezvous l.body → Shows v1 (if b then storing m i slot_address l.body else m) → IsStoredOnly new m i l
      by true is shown = record { mail = storing m i slot_address l.body; stored = BodyStored (sym is); shown = shows_same v1 new (storing m i slot_address l.body) same shown }
      by false is shown = record { mail = m; stored = NotStored; shown = shows_same v1 new m same shown }

  pub slotted_shown : (b : Bool) (v1 : Mail) → b ≡ is_rendezvous l.body → Goes v v1 (λ x. if b then storing x i slot_address l.body else x) → Shows v1 (slotted m i l)
  slotted_shown b v1 is goes = subst (λ (c : Bool). Shows v1 (if c then storing m i slot_address l.body else m)) is (goes m shows)

  -- all was stored
  pub all_stored : (v2 new : Mail) → Shows v2 (staged m i l) → new ≡ v2 → IsStoredOnly new m i l
  all_stored v2 new shown same = record { mail = staged m i l; stored = AllStored; shown = shows_same v2 new (staged m i l) same shown }

-- the bytes of a Send are few, where a body that comes with them is
pub few_bytes : (h : Header) (body : List ℕ) → (h.fetched ≡ false → length body ≤ 4080) → length (message_with h body) ≤ 4096
unfolding header_bytes big_bytes
few_bytes h body few = by h.fetched refl
  where
    by : (b : Bool) → h.fetched ≡ b → length (header_bytes h ++ (if b then [] else body)) ≤ 4096
    by true is = lit≤ tt
    by false is = omega (arith, few is)

module _ (v v1 v2 m : Mail) (i : ℕ) (l : Letter) (h : Header) (shows : Shows v m) (is : h ≡ header_for i l) (slot : Goes v v1 (λ x. if h.fetched then storing x i slot_address l.body else x)) (message : Goes v1 v2 (λ x. storing x i staging_address (message_with h l.body))) where
  fetched_is : h.fetched ≡ is_rendezvous l.body
  fetched_is = ap (λ x. x.fetched) is

  pub staged_shown : Shows v2 (staged m i l)
  staged_shown = subst (λ (x : Header). Shows v2 (storing (slotted m i l) i staging_address (message_with x l.body))) is (message (slotted m i l) (slotted_shown v m i l shows h.fetched v1 fetched_is slot))

  pub posts_all : (new : Mail) (n : ℕ) (r : Reply) → n ≡ length (message_with h l.body) → ((x : Mail) → Shows v2 x → Replies new r (sent_with x i n h.fetched)) → Replies new r (posts_letter m i l)
  posts_all new n r is_n posts =
      let n_is : n ≡ length (message_of i l) = is_n ∙ ap (λ x. length (message_with x l.body)) is in
      subst (λ (a : After). Replies new r a) (sym (posts_is m i l))
      (subst (λ (b : Bool). Replies new r (sent_with (staged m i l) i (length (message_of i l)) b)) fetched_is
      (subst (λ (k : ℕ). Replies new r (sent_with (staged m i l) i k h.fetched)) n_is (posts (staged m i l) staged_shown)))
