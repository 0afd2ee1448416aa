-- The rule of the queue. One pass puts completions, with the places 0, 1, 2 and so on, and then end marks. What was taken is
-- a beginning of what was put, and each entry that was taken stands in the list of one pass (this project's choice).
use Rattle.std.specs.Prelude.{◌≡◌, ℕ, zero, suc, ◌+◌, ◌-◌, ◌<◌, Bool, true, false, nat_lt, if◌then◌else◌, List, [], ◌∷◌, ◌++◌, length}
use mathlib.Core.Option.{some}
use lib.ListN.{get_elem?}
use Rattle.rdma_types.specs.declared.requests.Completion.{Completion}
use Rattle.completion_fanout.specs.declared.entry.FanEntry.{FanEntry}
use Rattle.completion_fanout.specs.declared.entry.QueueItem.{QueueItem}
use Rattle.completion_fanout.specs.declared.entry.QueueItem.TheVariants.{Entry, End}
use Rattle.completion_fanout.specs.declared.rule.Share.{Share}
use Rattle.completion_fanout.specs.Fanned.{AreOf, IsRising, places, times}

-- ---- the kinds of step

abbrev pub share : ℕ → Bool → List Completion → ℕ → List FanEntry → List FanEntry → ℕ → Share
share parts puts put marks taken joined ended = record { parts = parts; puts = puts; put = put; marks = marks; taken = taken; joined = joined; ended = ended }

-- the first pass: it has all parts, and puts
abbrev pub first_share : Share
first_share = share 1024 true [] 0 [] [] 0

-- a pass that is cut off has one part, and does not put
abbrev pub new_share : Share
new_share = share 1 false [] 0 [] [] 0

-- .. and the pass that it was cut off has one part less
abbrev pub after_cut : Share → Share
after_cut v = share (v.parts - 1) v.puts v.put v.marks v.taken v.joined v.ended

-- a pass is cut off that puts from then on; it has one part
abbrev pub lent_share : Share → Share
lent_share v = share 1 v.puts v.put v.marks [] [] 0

-- .. and the pass that it was cut off puts no more
abbrev pub after_lend : Share → Share
after_lend v = share (v.parts - 1) false [] 0 v.taken v.joined v.ended

-- a pass takes in the parts of another that puts, which it does from then on, and what that one took
abbrev pub returned_with : Share → Share → Share
returned_with v u = share (v.parts + u.parts) u.puts u.put u.marks v.taken (v.joined ++ (u.taken ++ u.joined)) (v.ended + u.ended)

-- a pass takes in the parts of another that does not put, and what that one took
abbrev pub joined_with : Share → Share → Share
joined_with v u = share (v.parts + u.parts) v.puts v.put v.marks v.taken (v.joined ++ (u.taken ++ u.joined)) (v.ended + u.ended)

-- .. and nothing is left to the other
abbrev pub spent_share : Share
spent_share = share 0 false [] 0 [] [] 0

-- after a push
abbrev pub after_put : Share → QueueItem → Share
after_put v (Entry e) = share v.parts v.puts (v.put ++ e.completion ∷ []) v.marks v.taken v.joined v.ended
after_put v End = share v.parts v.puts v.put (v.marks + 1) v.taken v.joined v.ended

-- what the pass that puts may put: an entry has the next place, and comes before all end marks
abbrev pub MayPut : Share → QueueItem → Type 0
MayPut v (Entry e) = (0 < v.parts) × (v.puts ≡ true) × (v.marks ≡ 0) × (e.place ≡ length v.put)
MayPut v End = v.puts ≡ true

-- after a pop
abbrev pub after_take : Share → QueueItem → Share
after_take v (Entry e) = share v.parts v.puts v.put v.marks (v.taken ++ e ∷ []) v.joined v.ended
after_take v End = share v.parts v.puts v.put v.marks v.taken v.joined (v.ended + 1)

-- after an end mark no entry comes
abbrev pub MayFollow : ℕ → QueueItem → Type 0
MayFollow ended (Entry e) = ended ≡ 0
MayFollow ended End = Unit {0}

-- a pop, and what it may give
pub record IsTake (v : Share) (x : QueueItem) (w : Share) : Type 0 where
  pub after : w ≡ after_take v x
  pub follows : MayFollow v.ended x

-- ---- what is in the queue

-- entries of these completions, with the places from k on
abbrev pub numbered : ℕ → List Completion → List FanEntry
numbered k [] = []
numbered k (c ∷ cs) = record { place = k; completion = c } ∷ numbered (k + 1) cs

-- end marks
abbrev pub end_marks : ℕ → List QueueItem
end_marks zero = []
end_marks (suc n) = End ∷ end_marks n

-- entries, and then end marks
abbrev pub parcels : List FanEntry → ℕ → List QueueItem
parcels [] n = end_marks n
parcels (e ∷ es) n = Entry e ∷ parcels es n

-- ---- the rule

abbrev pub total : (Share → ℕ) → List Share → ℕ
total f [] = 0
total f (v ∷ vs) = f v + total f vs

abbrev pub below : ℕ → ℕ → ℕ
below k n = if nat_lt k n then 1 else 0

-- how often a place stands in the lists of a pass
abbrev pub times_in : ℕ → Share → ℕ
times_in k v = times k (places v.taken) + times k (places v.joined)

-- what holds of a pass, where the writer has put these completions and that many end marks, and these completions are taken
-- and those are not yet
pub record IsFit (writer : ℕ) (put got rest : List Completion) (marks port : ℕ) (v : Share) : Type 0 where
  pub puts : v.puts ≡ true → (port ≡ writer) × (v.put ≡ put) × (v.marks ≡ marks)
  pub rising : IsRising (places v.taken)
  pub taken : AreOf got v.taken
  pub joined : AreOf got v.joined
  pub ended : 0 < v.ended → rest ≡ []
  pub idle : v.parts ≡ 0 → (v.taken ≡ []) × (v.joined ≡ []) × (v.ended ≡ 0)

pub record IsKept (items : List QueueItem) (views : List Share) : Type 0 where
  pub writer : ℕ
  pub put : List Completion
  pub got : List Completion
  pub rest : List Completion
  pub marks : ℕ
  pub ends : ℕ
  pub all : put ≡ got ++ rest
  pub held : items ≡ parcels (numbered (length got) rest) ends
  pub parts : total (λ v. v.parts) views ≡ 1024
  pub once : (k : ℕ) → total (times_in k) views ≡ below k (length got)
  pub ended : total (λ v. v.ended) views + ends ≡ marks
  pub fits : (port : ℕ) (v : Share) → get_elem? views port ≡ some v → IsFit writer put got rest marks port v

-- ---- what passes know

-- a pass that puts, and put so many
abbrev pub writer_share : List Completion → ℕ → Share
writer_share put marks = share 1 true put marks [] [] 0

-- a pass that takes, and took these entries and so many end marks
abbrev pub taker_share : List FanEntry → ℕ → Share
taker_share taken ended = share 1 false [] 0 taken [] ended

-- a pass that took these entries and so many end marks, and had taken nothing before
abbrev pub left_share : Share → List FanEntry → ℕ → Share
left_share v taken ended = share v.parts v.puts v.put v.marks taken v.joined ended

-- a pass that neither puts nor takes, and was joined with those that took these entries and so many end marks
abbrev pub root_share : ℕ → List FanEntry → ℕ → Share
root_share parts joined ended = share parts false [] 0 [] joined ended

-- ---- what a pass with all parts learns of an empty queue

-- each completion that was put was taken once, and each end mark
pub record IsWhole (v : Share) : Type 0 where
  pub once : (k : ℕ) → times_in k v ≡ below k (length v.put)
  pub taken : AreOf v.put v.taken
  pub joined : AreOf v.put v.joined
  pub rising : IsRising (places v.taken)
  pub ended : v.ended ≡ v.marks

abbrev pub IsBalanced : Share → List QueueItem → Type 0
IsBalanced v items = v.parts ≡ 1024 → v.puts ≡ true → items ≡ [] → IsWhole v
