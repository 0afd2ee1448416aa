-- Lists of calls, one after the other.
use Rattle.std.proofs.Common.{◌≡◌, ◌+◌, ◌*◌, ◌%◌, ◌==◌, ◌≤◌, ◌-◌, ℕ, zero, suc, Bool, true, false, List, [], ◌∷◌, ◌++◌, append_assoc, refl, sym, ap, ◌∙◌, subst, arith, rules, tests, eqb, add-one, zero-add, add-zero, ◌<◌, Option, Some, None, if◌then◌else◌}
use Rattle.std.specs.Prelude.{cond, count_by, is_none}
use Rattle.std.proofs.lemmas.List.{append-nil}
use Rattle.std.proofs.lemmas.List.Sums.{sum_by-append}
use Rattle.rdma_types.specs.declared.answers.UnfinishedReason.{UnfinishedReason}
use Rattle.rdma_types.specs.declared.names.ObjName.{ObjName}
use Rattle.mailbox_rules.specs.declared.faults.MailFault.{MailFault}
use Rattle.mailbox_rules.specs.State.{Mail, made}
use Rattle.mailbox_rules.specs.Calls.{Call, Network, Reply, Send, Settle, Take, Work, after, calls, replies_of, settled_thrice, settles}
use Rattle.mailbox_rules.specs.declared.plans.MailPlan.{MailPlan}
use Rattle.workload_gen.specs.Plan.{word_at}
use Rattle.mailbox_rules.specs.Working.{working}
use Rattle.mailbox_rules.specs.Opening.{receiver}
use Rattle.rdma_types.specs.declared.names.Name.{Name}
use Rattle.protocol.specs.declared.events.WorldEvent.TheVariants as world_event
use Rattle.mailbox_rules.specs.Command.{all_taking_calls, counting_bytes, is_given, is_refused_full, is_sent, letter_calls, letters_calls, letters_sent, letters_taken, mail_calls, move_calls, moves_after, place_of, sending_calls, taking_calls, send_of, transfer}
use Rattle.mailbox.specs.Steps.{Goes, Replies, SettlesTo, Shows}
use Rattle.mailbox.specs.Runs.{IsGivenOrNot, IsRun, Runs, count_of, send_reply}

-- ---- one list after another

pub after_both : (m : Mail) (cs ds : List Call) → after m (cs ++ ds) ≡ after (after m cs) ds
unfolding after
after_both m [] ds = refl
after_both m (c ∷ cs) ds = after_both (calls m c).mail cs ds

replies_both : (m : Mail) (cs ds : List Call) → replies_of m (cs ++ ds) ≡ replies_of m cs ++ replies_of (after m cs) ds
unfolding after replies_of
replies_both m [] ds = refl
replies_both m (c ∷ cs) ds = ap (λ rs. (calls m c).reply ∷ rs) (replies_both (calls m c).mail cs ds)

counts_both : (p : Reply → Bool) (m : Mail) (cs ds : List Call) → count_by p (replies_of m (cs ++ ds)) ≡ count_by p (replies_of m cs) + count_by p (replies_of (after m cs) ds)
counts_both p m cs ds = ap (λ rs. count_by p rs) (replies_both m cs ds) ∙ sum_by-append (λ r. cond (p r) 1 0) (replies_of m cs) (replies_of (after m cs) ds)

pub runs_both : (b c : Mail) (s1 t1 s2 t2 : ℕ) (m : Mail) (cs ds : List Call) → Runs b s1 t1 m cs → Runs c s2 t2 (after m cs) ds → Runs c (s1 + s2) (t1 + t2) m (cs ++ ds)
runs_both b c s1 t1 s2 t2 m cs ds one two = record {
  shown = subst (λ (x : Mail). Shows c x) (sym (after_both m cs ds)) two.shown;
  sent_is = counts_both is_sent m cs ds ∙ (ap (λ n. n + letters_sent (replies_of (after m cs) ds)) one.sent_is ∙ ap (λ n. s1 + n) two.sent_is);
  taken_is = counts_both is_given m cs ds ∙ (ap (λ n. n + letters_taken (replies_of (after m cs) ds)) one.taken_is ∙ ap (λ n. t1 + n) two.taken_is);
}

pub runs_none : (v m : Mail) → Shows v m → Runs v 0 0 m []
unfolding after replies_of
runs_none v m shows = record { shown = shows; sent_is = refl; taken_is = refl }

-- .. of each state that is shown
pub run_then : (a b c : Mail) (s1 t1 s2 t2 : ℕ) (f g : Mail → List Call) → IsRun a b s1 t1 f → IsRun b c s2 t2 g → IsRun a c (s1 + s2) (t1 + t2) (λ m. f m ++ g (after m (f m)))
run_then a b c s1 t1 s2 t2 f g one two m shows = runs_both b c s1 t1 s2 t2 m (f m) (g (after m (f m))) (one m shows) (two (after m (f m)) (one m shows).shown)

pub run_as : (a b : Mail) (s t s' t' : ℕ) (f g : Mail → List Call) → IsRun a b s t f → s ≡ s' → t ≡ t' → ((m : Mail) → f m ≡ g m) → IsRun a b s' t' g
run_as a b s t s' t' f g one is_s is_t same m shows =
    subst (λ (cs : List Call). Runs b s' t' m cs) (same m)
    (subst (λ (n : ℕ). Runs b s' n m (f m)) is_t (subst (λ (n : ℕ). Runs b n t m (f m)) is_s (one m shows)))

-- ---- one call

pub runs_one : (new : Mail) (s t : ℕ) (m : Mail) (c : Call) → Shows new (calls m c).mail → letters_sent ((calls m c).reply ∷ []) ≡ s → letters_taken ((calls m c).reply ∷ []) ≡ t → Runs new s t m (c ∷ [])
unfolding after replies_of
runs_one new s t m c shown sent taken = record { shown = shown; sent_is = sent; taken_is = taken }

pub run_replied : (new : Mail) (s t : ℕ) (m : Mail) (c : Call) (r : Reply) → Replies new r (calls m c) → letters_sent (r ∷ []) ≡ s → letters_taken (r ∷ []) ≡ t → Runs new s t m (c ∷ [])
run_replied new s t m c r replied sent taken = runs_one new s t m c replied.shown (ap (λ x. letters_sent (x ∷ [])) replied.reply_is ∙ sent) (ap (λ x. letters_taken (x ∷ [])) replied.reply_is ∙ taken)

-- ---- a settling, and work

after_one : (m : Mail) (c : Call) → after m (c ∷ []) ≡ (calls m c).mail
unfolding after
after_one m c = refl

pub settle_then_work : (a b d : Mail) (left : List (ObjName × UnfinishedReason)) → ((m : Mail) → Shows a m → SettlesTo b left m) → Goes b d working → IsRun a d 0 0 (λ m. Settle ∷ Work ∷ [])
unfolding calls settles
settle_then_work a b d left settled worked m shows =
    let x : Mail = (calls m Settle).mail in
    runs_both b d 0 0 0 0 m (Settle ∷ []) (Work ∷ []) (runs_one b 0 0 m Settle (settled m shows).shown refl refl)
    (subst (λ (y : Mail). Runs d 0 0 y (Work ∷ [])) (sym (after_one m Settle)) (runs_one d 0 0 x Work (worked x (settled m shows).shown) refl refl))

pub run_thrice : (a b d e : Mail) → IsRun a b 0 0 (λ m. Settle ∷ Work ∷ []) → IsRun b d 0 0 (λ m. Settle ∷ Work ∷ []) → IsRun d e 0 0 (λ m. Settle ∷ Work ∷ []) → IsRun a e 0 0 (λ m. settled_thrice)
run_thrice a b d e one two three m shows =
    let cs : List Call = Settle ∷ Work ∷ [] in
    let first : Runs d 0 0 m (cs ++ cs) = runs_both b d 0 0 0 0 m cs cs (one m shows) (two (after m cs) (one m shows).shown) in
    runs_both d e 0 0 0 0 m (cs ++ cs) cs first (three (after m (cs ++ cs)) first.shown)

settled_run : (a b : Mail) (left : List (ObjName × UnfinishedReason)) → ((m : Mail) → Shows a m → SettlesTo b left m) → IsRun a b 0 0 (λ m. Settle ∷ [])
unfolding calls settles
settled_run a b left settled m shows = runs_one b 0 0 m Settle (settled m shows).shown refl refl

pub run_next : (a b c : Mail) (xs ys : List Call) → IsRun a b 0 0 (λ m. xs) → IsRun b c 0 0 (λ m. ys) → IsRun a c 0 0 (λ m. xs ++ ys)
run_next a b c xs ys one two m shows = runs_both b c 0 0 0 0 m xs ys (one m shows) (two (after m xs) (one m shows).shown)

pub run_transfer : (a b c d e : Mail) (n : Name) (old new : ℕ) (left : List (ObjName × UnfinishedReason)) → n ≡ receiver → IsRun a b 0 0 (λ m. Network (world_event.Stop n) ∷ []) → IsRun b c 0 0 (λ m. Network (world_event.Restore n new) ∷ []) →
    ((m : Mail) → Shows c m → SettlesTo d left m) → IsRun d e 0 0 (λ m. Network (world_event.Release n old) ∷ []) → IsRun a e 0 0 (λ m. transfer old new)
run_transfer a b c d e n old new left is one two settled last =
    let stop : List Call = Network (world_event.Stop n) ∷ [] in
    let restore : List Call = Network (world_event.Restore n new) ∷ [] in
    let release : List Call = Network (world_event.Release n old) ∷ [] in
    let all : IsRun a e 0 0 (λ m. ((stop ++ restore) ++ (Settle ∷ [])) ++ release) =
    run_next a d e ((stop ++ restore) ++ (Settle ∷ [])) release (run_next a c d (stop ++ restore) (Settle ∷ []) (run_next a b c stop restore one two) (settled_run c d left settled)) last in
    subst (λ (x : Name). IsRun a e 0 0 (λ m. Network (world_event.Stop x) ∷ Network (world_event.Restore x new) ∷ Settle ∷ Network (world_event.Release x old) ∷ [])) is all

-- ---- moves

pub no_move : (plan : MailPlan) (k j : ℕ) → (place_of plan k ≡ j → ⊥) → (if place_of plan k == j then move_calls k else []) ≡ []
no_move plan k j other = let h : eqb (place_of plan k) j ≡ false = search (rules, tests, other) in ap (λ b. if b then move_calls k else []) h

pub the_move : (plan : MailPlan) (k j : ℕ) → place_of plan k ≡ j → move_calls k ≡ (if place_of plan k == j then move_calls k else [])
the_move plan k j is = let h : eqb (place_of plan k) j ≡ true = search (rules, tests, is) in ap (λ b. if b then move_calls k else []) (sym h)

pub moves_more : (plan : MailPlan) (j k n : ℕ) → n ≡ k + 1 → moves_after plan j n ≡ moves_after plan j k ++ (if place_of plan n == j then move_calls n else [])
unfolding moves_after
moves_more plan j k n is = subst (λ (i : ℕ). moves_after plan j i ≡ moves_after plan j k ++ (if place_of plan i == j then move_calls i else [])) (sym is) (rw add-one refl)

-- ---- bytes that count up

pub counts_more : (j n : ℕ) → counting_bytes j n ++ ((j + n) % 256) ∷ [] ≡ counting_bytes j (suc n)
unfolding counting_bytes
counts_more j zero = ap (λ k. k % 256 ∷ []) (omega arith)
counts_more j (suc n) = ap (λ bs. j % 256 ∷ bs) (ap (λ k. counting_bytes (j + 1) n ++ (k % 256) ∷ []) (omega arith) ∙ counts_more (j + 1) n)

after_none : (m : Mail) → after m [] ≡ m
unfolding after
after_none m = refl

-- ---- letters

pub letters_more : (plan : MailPlan) (j n : ℕ) (m : Mail) → letters_calls plan j (suc n) m ≡ letters_calls plan j n m ++ letter_calls plan (after m (letters_calls plan j n m)) (j + n)
unfolding letters_calls
letters_more plan j zero m = append-nil (letter_calls plan m j) ∙ (ap (λ x. letter_calls plan x j) (sym (after_none m)) ∙ ap (λ k. letter_calls plan (after m []) k) (omega arith))
letters_more plan j (suc n) m =
    let cs : List Call = letter_calls plan m j in
    let rest : List Call = letters_calls plan (j + 1) n (after m cs) in
    ap (λ ds. cs ++ ds) (letters_more plan (j + 1) n (after m cs))
    ∙ (sym (append_assoc cs rest (letter_calls plan (after (after m cs) rest) (j + 1 + n)))
    ∙ (ap (λ x. (cs ++ rest) ++ letter_calls plan x (j + 1 + n)) (sym (after_both m cs rest))
    ∙ ap (λ k. (cs ++ rest) ++ letter_calls plan (after m (cs ++ rest)) k) (omega arith)))

-- ---- sending a letter, and once more where it was refused as Full

-- the calls, by whether the first was refused so
abbrev sending_as : Call → Bool → List Call
sending_as c b = if b then c ∷ settled_thrice ++ c ∷ [] else c ∷ []

abbrev pub sent_once : Option MailFault → ℕ
sent_once why = count_of (is_none why)

once_counts : (why : Option MailFault) → letters_sent (send_reply why ∷ []) ≡ sent_once why
once_counts None = refl
once_counts (Some why) = refl

once_takes : (why : Option MailFault) → letters_taken (send_reply why ∷ []) ≡ 0
once_takes None = refl
once_takes (Some why) = refl

module _ (from tag : ℕ) (body : List ℕ) where
  abbrev c : Call
  c = Send from tag body

  -- a sending is answered so
  abbrev pub IsTried : Mail → Mail → Option MailFault → Type 0
  IsTried old new why = (m : Mail) → Shows old m → Replies new (send_reply why) (calls m c)

  pub tried_once : (a b : Mail) (why : Option MailFault) → IsTried a b why → is_refused_full (send_reply why) ≡ false → IsRun a b (sent_once why) 0 (λ m. sending_calls m c)
  unfolding sending_calls
  tried_once a b why tried other m shows =
      let h : Replies b (send_reply why) (calls m c) = tried m shows in
      let is : is_refused_full (calls m c).reply ≡ false = ap (λ r. is_refused_full r) h.reply_is ∙ other in
      subst (λ (x : Bool). Runs b (sent_once why) 0 m (sending_as c x)) (sym is)
      (run_replied b (sent_once why) 0 m c (send_reply why) h (once_counts why) (once_takes why))

  full_counts : (why : Option MailFault) → is_refused_full (send_reply why) ≡ true → sent_once why ≡ 0
  full_counts None full = absurd cc
  full_counts (Some why) full = refl

  pub tried_twice : (a b d e : Mail) (why again : Option MailFault) → IsTried a b why → is_refused_full (send_reply why) ≡ true → IsRun b d 0 0 (λ m. settled_thrice) → IsTried d e again → IsRun a e (sent_once again) 0 (λ m. sending_calls m c)
  unfolding sending_calls
  tried_twice a b d e why again tried full settled more m shows =
      let h : Replies b (send_reply why) (calls m c) = tried m shows in
      let is : is_refused_full (calls m c).reply ≡ true = ap (λ r. is_refused_full r) h.reply_is ∙ full in
      let one : Runs b 0 0 m (c ∷ []) = run_replied b 0 0 m c (send_reply why) h (once_counts why ∙ full_counts why full) (once_takes why) in
      let two : Runs d 0 0 m (c ∷ settled_thrice) = runs_both b d 0 0 0 0 m (c ∷ []) settled_thrice one (settled (after m (c ∷ [])) one.shown) in
      let n : Mail = after m (c ∷ settled_thrice) in
      let three : Runs e (sent_once again) 0 n (c ∷ []) = run_replied e (sent_once again) 0 n c (send_reply again) (more n two.shown) (once_counts again) (once_takes again) in
      let all : Runs e (0 + sent_once again) (0 + 0) m (c ∷ settled_thrice ++ c ∷ []) = runs_both d e 0 0 (sent_once again) 0 m (c ∷ settled_thrice) (c ∷ []) two three in
      subst (λ (x : Bool). Runs e (sent_once again) 0 m (sending_as c x)) (sym is)
      (subst (λ (k : ℕ). Runs e k 0 m (c ∷ settled_thrice ++ c ∷ [])) (zero-add (sent_once again)) all)

-- ---- taking the letters of a sender

-- so many letters were taken, and the rest of the calls goes on from here
pub record IsTaking (new m : Mail) (from fuel k : ℕ) : Type 0 where
  pub made : List Call
  pub runs : Runs new 0 k m made
  pub rest : (n : ℕ) → fuel ≡ k + n → taking_calls fuel from m ≡ made ++ taking_calls n from (after m made)

pub taking_none : (v m : Mail) (from fuel : ℕ) → Shows v m → IsTaking v m from fuel 0
taking_none v m from fuel shows = record {
  made = [];
  runs = runs_none v m shows;
  rest = λ n is. ap (λ k. taking_calls k from m) (is ∙ zero-add n) ∙ ap (λ x. taking_calls n from x) (sym (after_none m));
}

-- the calls after one was made, by whether a letter was given
abbrev then_taking : ℕ → ℕ → Mail → Bool → List Call
then_taking n from m b = (elim b [
  | true ↦ Take from None ∷ taking_calls n from (calls m (Take from None)).mail
  | false ↦ Take from None ∷ []
])

taking_by : (n from : ℕ) (m : Mail) → taking_calls (suc n) from m ≡ then_taking n from m (is_given (calls m (Take from None)).reply)
unfolding taking_calls
taking_by n from m = refl

given_counts : (r : Reply) (b : Bool) → is_given r ≡ b → letters_taken (r ∷ []) ≡ count_of b
given_counts r true is = rw is refl
given_counts r false is = rw is refl

none_sent : (r : Reply) → is_sent r ≡ false → letters_sent (r ∷ []) ≡ 0
none_sent r is = rw is refl

taken_by : (new m : Mail) (from : ℕ) (b : Bool) → IsGivenOrNot new b (calls m (Take from None)) → Runs new 0 (count_of b) m (Take from None ∷ [])
taken_by new m from b g = runs_one new 0 (count_of b) m (Take from None) g.shown (none_sent (calls m (Take from None)).reply g.not_sent) (given_counts (calls m (Take from None)).reply b g.given_is)

taking_given : (n from : ℕ) (m : Mail) → is_given (calls m (Take from None)).reply ≡ true → taking_calls (suc n) from m ≡ Take from None ∷ taking_calls n from (after m (Take from None ∷ []))
unfolding after
taking_given n from m is = taking_by n from m ∙ ap (λ b. then_taking n from m b) is

taking_ends : (n from : ℕ) (m : Mail) → is_given (calls m (Take from None)).reply ≡ false → taking_calls (suc n) from m ≡ Take from None ∷ []
taking_ends n from m is = taking_by n from m ∙ ap (λ b. then_taking n from m b) is

-- one more letter was taken
pub taking_more : (v new m : Mail) (from fuel k : ℕ) → IsTaking v m from fuel k → ((x : Mail) → Shows v x → IsGivenOrNot new true (calls x (Take from None))) → IsTaking new m from fuel (k + 1)
taking_more v new m from fuel k t given =
    let x : Mail = after m t.made in
    let g : IsGivenOrNot new true (calls x (Take from None)) = given x t.runs.shown in
    record {
      made = t.made ++ Take from None ∷ [];
      runs = runs_both v new 0 k 0 1 m t.made (Take from None ∷ []) t.runs (taken_by new x from true g);
      rest = λ n is.
          let more : fuel ≡ k + suc n = omega arith in
          t.rest (suc n) more
          ∙ (ap (λ cs. t.made ++ cs) (taking_given n from x g.given_is)
          ∙ (sym (append_assoc t.made (Take from None ∷ []) (taking_calls n from (after x (Take from None ∷ []))))
          ∙ ap (λ y. (t.made ++ Take from None ∷ []) ++ taking_calls n from y) (sym (after_both m t.made (Take from None ∷ [])))));
    }

-- no more letter is given
pub taking_ended : (v new m : Mail) (from fuel k : ℕ) → k < fuel → IsTaking v m from fuel k → ((x : Mail) → Shows v x → IsGivenOrNot new false (calls x (Take from None))) → Runs new 0 k m (taking_calls fuel from m)
taking_ended v new m from fuel k less t given =
    let x : Mail = after m t.made in
    let g : IsGivenOrNot new false (calls x (Take from None)) = given x t.runs.shown in
    let n : ℕ = fuel - k - 1 in
    let left : fuel ≡ k + suc n = omega arith in
    let both : Runs new (0 + 0) (k + 0) m (t.made ++ Take from None ∷ []) = runs_both v new 0 k 0 0 m t.made (Take from None ∷ []) t.runs (taken_by new x from false g) in
    subst (λ (cs : List Call). Runs new 0 k m cs) (sym (t.rest (suc n) left ∙ ap (λ cs. t.made ++ cs) (taking_ends n from x g.given_is)))
    (subst (λ (i : ℕ). Runs new 0 i m (t.made ++ Take from None ∷ [])) (add-zero k) both)

-- as many letters were taken as there may be calls
pub taking_done : (v m : Mail) (from fuel k : ℕ) → k ≡ fuel → IsTaking v m from fuel k → Runs v 0 k m (taking_calls fuel from m)
unfolding taking_calls
taking_done v m from fuel k is t =
    let left : fuel ≡ k + 0 = omega arith in
    subst (λ (cs : List Call). Runs v 0 k m cs) (sym (t.rest 0 left ∙ append-nil t.made)) t.runs

-- ---- taking the letters of each sender

all_taking_more : (letters i n : ℕ) (m : Mail) → all_taking_calls letters i (suc n) m ≡ all_taking_calls letters i n m ++ taking_calls (letters + 1) (i + n) (after m (all_taking_calls letters i n m))
unfolding all_taking_calls
all_taking_more letters i zero m =
    let cs : List Call = taking_calls (letters + 1) i m in
    append-nil cs ∙ (ap (λ x. taking_calls (letters + 1) i x) (sym (after_none m)) ∙ ap (λ k. taking_calls (letters + 1) k (after m [])) (sym (add-zero i)))
all_taking_more letters i (suc n) m =
    let cs : List Call = taking_calls (letters + 1) i m in
    let rest : List Call = all_taking_calls letters (i + 1) n (after m cs) in
    let same : i + 1 + n ≡ i + suc n = omega arith in
    ap (λ ds. cs ++ ds) (all_taking_more letters (i + 1) n (after m cs))
    ∙ (sym (append_assoc cs rest (taking_calls (letters + 1) (i + 1 + n) (after (after m cs) rest)))
    ∙ (ap (λ x. (cs ++ rest) ++ taking_calls (letters + 1) (i + 1 + n) x) (sym (after_both m cs rest))
    ∙ ap (λ k. (cs ++ rest) ++ taking_calls (letters + 1) k (after m (cs ++ rest))) same))

pub run_none : (v : Mail) (cs : Mail → List Call) → ((m : Mail) → cs m ≡ []) → IsRun v v 0 0 cs
run_none v cs same m shows = subst (λ (ds : List Call). Runs v 0 0 m ds) (sym (same m)) (runs_none v m shows)

pub no_letters : (plan : MailPlan) (j : ℕ) (m : Mail) → letters_calls plan j 0 m ≡ []
unfolding letters_calls
no_letters plan j m = refl

pub no_moves : (plan : MailPlan) (j : ℕ) → moves_after plan j 0 ≡ []
unfolding moves_after
no_moves plan j = refl

pub no_taking : (letters i : ℕ) (m : Mail) → all_taking_calls letters i 0 m ≡ []
unfolding all_taking_calls
no_taking letters i m = refl

-- ---- one more of each

pub run_moves_more : (a b c : Mail) (plan : MailPlan) (j k n : ℕ) → n ≡ k + 1 → IsRun a b 0 0 (λ m. moves_after plan j k) → IsRun b c 0 0 (λ m. if place_of plan n == j then move_calls n else []) → IsRun a c 0 0 (λ m. moves_after plan j n)
run_moves_more a b c plan j k n is before one m shows =
    subst (λ (cs : List Call). Runs c 0 0 m cs) (sym (moves_more plan j k n is))
    (runs_both b c 0 0 0 0 m (moves_after plan j k) (if place_of plan n == j then move_calls n else []) (before m shows) (one (after m (moves_after plan j k)) (before m shows).shown))

pub run_letters_more : (a b c : Mail) (plan : MailPlan) (s s1 w k n : ℕ) → n ≡ k + 1 → w ≡ word_at plan.seed k → IsRun a b s 0 (letters_calls plan 1 k) → IsRun b c s1 0 (λ m. sending_calls m (send_of plan n w) ++ moves_after plan n plan.moves) → IsRun a c (s + s1) 0 (letters_calls plan 1 n)
run_letters_more a b c plan s s1 w k n is word before one m shows =
    let x : Mail = after m (letters_calls plan 1 k m) in
    let suc_is : n ≡ suc k = omega arith in
    let next : 1 + k ≡ n = omega arith in
    let place : k ≡ n - 1 = omega arith in
    let whole : letters_calls plan 1 n m ≡ letters_calls plan 1 k m ++ letter_calls plan x n =
    ap (λ i. letters_calls plan 1 i m) suc_is ∙ (letters_more plan 1 k m ∙ ap (λ i. letters_calls plan 1 k m ++ letter_calls plan x i) next) in
    let calls_are : sending_calls x (send_of plan n w) ++ moves_after plan n plan.moves ≡ letter_calls plan x n =
    ap (λ v. sending_calls x (send_of plan n v) ++ moves_after plan n plan.moves) (word ∙ ap (λ i. word_at plan.seed i) place) in
    subst (λ (cs : List Call). Runs c (s + s1) 0 m cs) (sym whole)
    (runs_both b c s 0 s1 0 m (letters_calls plan 1 k m) (letter_calls plan x n) (before m shows)
    (subst (λ (cs : List Call). Runs c s1 0 x cs) calls_are (one x (before m shows).shown)))

pub run_taking_more : (a b c : Mail) (letters t t1 k n : ℕ) → n ≡ k + 1 → IsRun a b 0 t (all_taking_calls letters 1 k) → IsRun b c 0 t1 (taking_calls (letters + 1) n) → IsRun a c 0 (t + t1) (all_taking_calls letters 1 n)
run_taking_more a b c letters t t1 k n is before one m shows =
    let x : Mail = after m (all_taking_calls letters 1 k m) in
    let suc_is : n ≡ suc k = omega arith in
    let next : 1 + k ≡ n = omega arith in
    let whole : all_taking_calls letters 1 n m ≡ all_taking_calls letters 1 k m ++ taking_calls (letters + 1) n x =
    ap (λ i. all_taking_calls letters 1 i m) suc_is ∙ (all_taking_more letters 1 k m ∙ ap (λ i. all_taking_calls letters 1 k m ++ taking_calls (letters + 1) i x) next) in
    subst (λ (cs : List Call). Runs c 0 (t + t1) m cs) (sym whole)
    (runs_both b c 0 t 0 t1 m (all_taking_calls letters 1 k m) (taking_calls (letters + 1) n x) (before m shows) (one x (before m shows).shown))

-- ---- the whole

pub whole_run : (v a b c d : Mail) (plan : MailPlan) (s t : ℕ) → Shows v (made plan.peers) → IsRun v a 0 0 (λ m. moves_after plan 0 plan.moves) → IsRun a b s 0 (letters_calls plan 1 plan.letters) → IsRun b c 0 0 (λ m. settled_thrice) →
    IsRun c d 0 t (all_taking_calls plan.letters 1 plan.peers) → Runs d s t (made plan.peers) (mail_calls plan)
whole_run v a b c d plan s t shows moves letters settled taking =
    let m : Mail = made plan.peers in
    let first : List Call = moves_after plan 0 plan.moves in
    let one : Runs a 0 0 m first = moves m shows in
    let second : List Call = letters_calls plan 1 plan.letters (after m first) in
    let two : Runs b (0 + s) 0 m (first ++ second) = runs_both a b 0 0 s 0 m first second one (letters (after m first) one.shown) in
    let x : Mail = after m (first ++ second) in
    let three : Runs c 0 0 x settled_thrice = settled x two.shown in
    let last : List Call = all_taking_calls plan.letters 1 plan.peers (after x settled_thrice) in
    let four : Runs d 0 (0 + t) x (settled_thrice ++ last) = runs_both c d 0 0 0 t x settled_thrice last three (taking (after x settled_thrice) three.shown) in
    let all : Runs d (0 + s + 0) (0 + (0 + t)) m ((first ++ second) ++ (settled_thrice ++ last)) = runs_both b d (0 + s) 0 0 (0 + t) m (first ++ second) (settled_thrice ++ last) two four in
    let is_s : 0 + s + 0 ≡ s = omega arith in
    let is_t : 0 + (0 + t) ≡ t = omega arith in
    subst (λ (i : ℕ). Runs d i t m (mail_calls plan)) is_s (subst (λ (i : ℕ). Runs d (0 + s + 0) i m (mail_calls plan)) is_t all)
