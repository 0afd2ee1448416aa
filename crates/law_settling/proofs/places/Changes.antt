-- One end of a device gets another link.
use Rattle.std.proofs.Common.{arith, ◌≡◌, ◌+◌, ℕ, zero, suc, List, [], ◌∷◌, ◌++◌, length, map, true, false, Bool, refl, sym, ap, ◌∙◌}
use Rattle.std.specs.Prelude.{Some, is_some, option_and_then, slice_get, flat_map, ◌&&◌}
use Rattle.std.proofs.Math.ListN.{set}
use Rattle.std.proofs.lemmas.List.{length-append, length-map, length-set, map-append}
use Rattle.protocol.specs.Settle.{Mark, live_ends, mark_of, marks, same_marks}
use Rattle.protocol.specs.State.{World, Device, Context, End, Link}
use Rattle.law_settling.specs.Places.{end_outline, context_outline, device_outline, outline, link_there}
use Rattle.law_settling.specs.Weights.{same_mark}
use Rattle.law_settling.proofs.places.Lists.{at_place, map_place, same_number, the_same}

-- ---- marks

pub mark_same : (a : Mark) → same_mark a a ≡ true
mark_same a = rw (same_number a.una, same_number a.state) refl

pub marks_same : (ms : List Mark) → same_marks ms ms ≡ true
unfolding same_marks
marks_same [] = refl
marks_same (m ∷ ms) = ap (λ b. b && same_marks ms ms) (mark_same m) ∙ marks_same ms

-- the same marks before others
marks_front : (ls xs ys : List Mark) → same_marks (ls ++ xs) (ls ++ ys) ≡ same_marks xs ys
unfolding same_marks
marks_front [] xs ys = refl
marks_front (m ∷ ls) xs ys = ap (λ b. b && same_marks (ls ++ xs) (ls ++ ys)) (mark_same m) ∙ marks_front ls xs ys

-- .. and behind as many others
marks_back : (xs ys ls : List Mark) → length xs ≡ length ys → same_marks (xs ++ ls) (ys ++ ls) ≡ same_marks xs ys
unfolding same_marks
marks_back [] [] ls h = marks_same ls
marks_back [] (y ∷ ys) ls h = absurd (omega (arith, h))
marks_back (x ∷ xs) [] ls h = absurd (omega (arith, h))
marks_back (x ∷ xs) (y ∷ ys) ls h = ap (λ b. same_mark x y && b) (marks_back xs ys ls (omega (arith, h)))

and_true : (b : Bool) → (b && true) ≡ b
and_true true = refl
and_true false = refl

-- one thing changes
marks_place : {A : Type 0} (m : A → Mark) (xs : List A) (k : ℕ) (x y : A) → slice_get xs k ≡ Some x → same_marks (map m xs) (map m (set xs k y)) ≡ same_mark (m x) (m y)
unfolding same_marks
marks_place m [] k x y h = absurd (cc)
marks_place m (z ∷ zs) zero x y h =
    ap (λ b. same_mark (m z) (m y) && b) (marks_same (map m zs))
    ∙ (and_true (same_mark (m z) (m y)) ∙ ap (λ a. same_mark (m a) (m y)) (the_same z x h))
marks_place m (z ∷ zs) (suc k) x y h =
    ap (λ b. b && same_marks (map m zs) (map m (set zs k y))) (mark_same (m z)) ∙ marks_place m zs k x y h

-- one list of things changes
marks_flat : {A B : Type 0} (f : A → List B) (m : B → Mark) (xs : List A) (k : ℕ) (x y : A) → slice_get xs k ≡ Some x → length (f y) ≡ length (f x) →
    same_marks (map m (flat_map f xs)) (map m (flat_map f (set xs k y))) ≡ same_marks (map m (f x)) (map m (f y))
marks_flat f m [] k x y h same = absurd (cc)
marks_flat f m (z ∷ zs) zero x y h same =
    let is : z ≡ x = the_same z x h in
    let lengths : length (map m (f z)) ≡ length (map m (f y)) = length-map (f z) m ∙ (ap (λ a. length (f a)) is ∙ (sym same ∙ sym (length-map (f y) m))) in
    (λ i. same_marks (map-append m (f z) (flat_map f zs) i) (map-append m (f y) (flat_map f zs) i))
    ∙ (marks_back (map m (f z)) (map m (f y)) (map m (flat_map f zs)) lengths ∙ ap (λ a. same_marks (map m (f a)) (map m (f y))) is)
marks_flat f m (z ∷ zs) (suc k) x y h same =
    (λ i. same_marks (map-append m (f z) (flat_map f zs) i) (map-append m (f z) (flat_map f (set zs k y)) i))
    ∙ (marks_front (map m (f z)) (map m (flat_map f zs)) (map m (flat_map f (set zs k y))) ∙ marks_flat f m zs k x y h same)

length_flat : {A B : Type 0} (f : A → List B) (xs : List A) (k : ℕ) (x y : A) → slice_get xs k ≡ Some x → length (f y) ≡ length (f x) → length (flat_map f (set xs k y)) ≡ length (flat_map f xs)
length_flat f [] k x y h same = absurd (cc)
length_flat f (z ∷ zs) zero x y h same =
    length-append (f y) (flat_map f zs) ∙ (ap (λ n. n + length (flat_map f zs)) (same ∙ ap (λ a. length (f a)) (sym (the_same z x h))) ∙ sym (length-append (f z) (flat_map f zs)))
length_flat f (z ∷ zs) (suc k) x y h same =
    length-append (f z) (flat_map f (set zs k y)) ∙ (ap (λ n. length (f z) + n) (length_flat f zs k x y h same) ∙ sym (length-append (f z) (flat_map f zs)))

-- ---- a device

-- the end at place k of the context at place j has another link, and else what may differ of ends is their receives
pub record EndChanges (d d' : Device) (j k : ℕ) (l l' : Link) : Type 0 where
  pub context : Context
  pub context' : Context
  pub end : End
  pub end' : End
  pub id : d'.id ≡ d.id
  pub owner : slice_get d.contexts j ≡ Some context
  pub contexts : d'.contexts ≡ set d.contexts j context'
  pub owned : context'.name ≡ context.name
  pub there : slice_get context.ends k ≡ Some end
  pub ends : context'.ends ≡ set context.ends k end'
  pub named : end'.name ≡ end.name
  pub numbered : end'.number ≡ end.number
  pub linked : end.link ≡ Some l
  pub linked' : end'.link ≡ Some l'

-- what is watched of an end
abbrev mark_end : End → Mark
mark_end e = mark_of e.link

abbrev ends_on : Device → List End
ends_on d = flat_map (λ c. c.ends) d.contexts

-- the link at places, by what is there
pub link_is : (w : World) (i j k : ℕ) (d : Device) (c : Context) (e : End) → slice_get w.devices i ≡ Some d → slice_get d.contexts j ≡ Some c → slice_get c.ends k ≡ Some e → link_there w i j k ≡ e.link
link_is w i j k d c e here owner there =
    ap (λ x. option_and_then (λ (z : End). z.link) (option_and_then (λ (y : Device). option_and_then (λ (b : Context). slice_get b.ends k) (slice_get y.contexts j)) x)) here
    ∙ (ap (λ x. option_and_then (λ (z : End). z.link) (option_and_then (λ (b : Context). slice_get b.ends k) x)) owner
    ∙ ap (λ x. option_and_then (λ (z : End). z.link) x) there)

module _ (d d' : Device) (j k : ℕ) (l l' : Link) (h : EndChanges d d' j k l l') where
  end_same : end_outline h.end' ≡ end_outline h.end
  end_same = λ i. record { name = h.named i; number = h.numbered i; connected = both i }
    where
      both : is_some h.end'.link ≡ is_some h.end.link
      both = ap (λ o. is_some o) h.linked' ∙ sym (ap (λ o. is_some o) h.linked)

  context_same : context_outline h.context' ≡ context_outline h.context
  context_same = λ i. record { name = h.owned i; ends = all i }
    where
      all : map end_outline h.context'.ends ≡ map end_outline h.context.ends
      all = ap (map end_outline) h.ends ∙ map_place end_outline h.context.ends k h.end h.end' h.there end_same

  pub device_same : device_outline d' ≡ device_outline d
  device_same = λ i. record { id = h.id i; contexts = all i }
    where
      all : map context_outline d'.contexts ≡ map context_outline d.contexts
      all = ap (map context_outline) h.contexts ∙ map_place context_outline d.contexts j h.context h.context' h.owner context_same

  as_many : length h.context'.ends ≡ length h.context.ends
  as_many = ap length h.ends ∙ length-set h.context.ends k h.end'

  all_as_many : length (ends_on d') ≡ length (ends_on d)
  all_as_many = ap (λ cs. length (flat_map (λ (c : Context). c.ends) cs)) h.contexts ∙ length_flat (λ (c : Context). c.ends) d.contexts j h.context h.context' h.owner as_many

  marks_on : same_marks (map mark_end (ends_on d)) (map mark_end (ends_on d')) ≡ same_mark (mark_of (Some l)) (mark_of (Some l'))
  marks_on =
      ap (λ cs. same_marks (map mark_end (ends_on d)) (map mark_end (flat_map (λ (c : Context). c.ends) cs))) h.contexts
      ∙ (marks_flat (λ (c : Context). c.ends) mark_end d.contexts j h.context h.context' h.owner as_many
      ∙ (ap (λ es. same_marks (map mark_end h.context.ends) (map mark_end es)) h.ends
      ∙ (marks_place mark_end h.context.ends k h.end h.end' h.there
      ∙ (λ i. same_mark (mark_of (h.linked i)) (mark_of (h.linked' i))))))

  -- ---- a world with it

  module _ (w w' : World) (i : ℕ) (here : slice_get w.devices i ≡ Some d) (devices : w'.devices ≡ set w.devices i d') where
    pub world_marks : same_marks (marks w) (marks w') ≡ same_mark (mark_of (Some l)) (mark_of (Some l'))
    unfolding live_ends
    world_marks =
        ap (λ ds. same_marks (marks w) (map mark_end (flat_map ends_on ds))) devices
        ∙ (marks_flat ends_on mark_end w.devices i d d' here all_as_many ∙ marks_on)

    pub link_before : link_there w i j k ≡ Some l
    link_before = link_is w i j k d h.context h.end here h.owner h.there ∙ h.linked

    pub link_after : link_there w' i j k ≡ Some l'
    link_after =
        link_is w' i j k d' h.context' h.end'
        (ap (λ ds. slice_get ds i) devices ∙ at_place w.devices i d d' here)
        (ap (λ cs. slice_get cs j) h.contexts ∙ at_place d.contexts j h.context h.context' h.owner)
        (ap (λ es. slice_get es k) h.ends ∙ at_place h.context.ends k h.end h.end' h.there)
        ∙ h.linked'

-- ---- a world with a device of the same outline

pub world_same : (w w' : World) (i : ℕ) (d d' : Device) → slice_get w.devices i ≡ Some d → w'.devices ≡ set w.devices i d' → device_outline d' ≡ device_outline d → outline w' ≡ outline w
unfolding outline
world_same w w' i d d' here devices same = ap (map device_outline) devices ∙ map_place device_outline w.devices i d d' here same
