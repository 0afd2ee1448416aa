-- New things have names, and numbers of queue pairs 24 bits, by what the words of a line are read as.
use Rattle.std.proofs.Common.{◌≡◌, ◌<◌, ◌^◌, ◌*◌, ◌==◌, ℕ, List, Bool, true, false, Option, None, Some, Result, Ok, Err, length, refl, subst, ap, if◌then◌else◌}
use Rattle.std.specs.Prelude.{codes, option_and_then}
use Rattle.byteorder.specs.Endian.{big_number}
use Rattle.byteorder.specs.Numbers.{big_from-lt}
use Rattle.hex.proofs.HexLemmas.{decode_of-ok}
use Rattle.hex.specs.declared.error.FromHexError.{FromHexError}
use Rattle.hex.specs.Hex.{decode_of}
use Rattle.rdma_types.specs.declared.names.Name.{Name}
use Rattle.rdma_types.specs.declared.names.ObjName.{ObjName}
use Rattle.rdma_types.specs.declared.requests.Shape.{Shape}
use Rattle.rdma_types.specs.declared.verbs.Verb.{Verb}
use Rattle.rdma_types.specs.declared.verbs.Verb.TheVariants as verb
use Rattle.rdma_types.specs.Limits.{most_capacity, most_depth, most_region_bytes}
use Rattle.rdma_types.specs.Spelled.{is_name}
use Rattle.script_lang.specs.declared.forms.VerbForm.{VerbForm}
use Rattle.script_lang.specs.declared.forms.VerbForm.TheVariants as verb_form
use Rattle.script_lang.specs.Fields.{a_key, a_long, a_name, a_number, a_queue_pair, a_short, an_immediate, an_object, an_own, some_bytes, some_rights}
use Rattle.script_lang.specs.Texts.{cut_at, hex_number, hex_of, if_decoded, name_of, object_of}
use Rattle.script_lang.specs.Verbs.{add_line, cas_line, cq_line, domain_line, drop_line, load_line, poll_line, posted, qp_line, read_line, recv_line, region_line, send_line, store_line, verb_line, write_line}
use Rattle.script_lang.specs.Words.{an_option}
use Rattle.law_headline.proofs.Tells.{Tells, any, bind, field, gives}

-- the new thing of a verb has a name
abbrev pub NamesNew : Verb → Type 0
NamesNew (verb.MakeDomain o) = is_name o.name ≡ true
NamesNew (verb.MakeRegion o domain base size rights) = is_name o.name ≡ true
NamesNew (verb.MakeCq o capacity) = is_name o.name ≡ true
NamesNew (verb.MakeQp o domain send_cq recv_cq send_depth recv_depth) = is_name o.name ≡ true
NamesNew other = Unit {0}

-- ---- names

is_spelled : (text : List ℕ) (n : Name) → name_of text ≡ Some n → is_name n ≡ true
unfolding name_of
is_spelled text n h = by (is_name text) refl h
  where
    by : (b : Bool) → is_name text ≡ b → (if b then Some text else None) ≡ Some n → is_name n ≡ true
    by true t g = let same : text ≡ n = cc g in subst (λ x. is_name x ≡ true) same t
    by false t g = absurd (cc)

pub name : Tells (λ n. is_name n ≡ true) a_name
unfolding a_name
name = field name_of _ is_spelled

own_is_spelled : (context : Name) (o : Option Name) (x : ObjName) → ((n : Name) → o ≡ Some n → is_name n ≡ true) → option_and_then (λ n. Some (record { context = context; name = n })) o ≡ Some x → is_name x.name ≡ true
own_is_spelled context (Some n) x each h = let same : n ≡ x.name = cc h in subst (λ m. is_name m ≡ true) same (each n refl)
own_is_spelled context None x each h = absurd (cc)

part_is_spelled : (context : Name) (behind : Option (List ℕ)) (x : ObjName) → option_and_then (λ text. option_and_then (λ n. Some (record { context = context; name = n })) (name_of text)) behind ≡ Some x → is_name x.name ≡ true
part_is_spelled context (Some text) x h = own_is_spelled context (name_of text) x (λ n e. is_spelled text n e) h
part_is_spelled context None x h = absurd (cc)

whole_is_spelled : (context : Option Name) (behind : Option (List ℕ)) (x : ObjName) → option_and_then (λ c. option_and_then (λ text. option_and_then (λ n. Some (record { context = c; name = n })) (name_of text)) behind) context ≡ Some x → is_name x.name ≡ true
whole_is_spelled (Some c) behind x h = part_is_spelled c behind x h
whole_is_spelled None behind x h = absurd (cc)

object_is_spelled : (text : List ℕ) (x : ObjName) → object_of text ≡ Some x → is_name x.name ≡ true
unfolding object_of
object_is_spelled text x h = whole_is_spelled (name_of (cut_at 46 text).front) (cut_at 46 text).behind x h

pub object : Tells (λ o. is_name o.name ≡ true) an_object
unfolding an_object
object = field object_of _ object_is_spelled

posted_names : (o : ObjName) (id lkey local : ℕ) (s : Shape) → Tells NamesNew (posted o id lkey local s)
unfolding posted
posted_names o id lkey local s = bind (any (an_option (codes "fence"))) (λ fence _. bind (any (an_option (codes "quiet"))) (λ quiet _. gives (verb.PostSend o _) tt))

pub verb_names : (v : VerbForm) → Tells NamesNew (verb_line v)
unfolding domain_line region_line cq_line qp_line drop_line store_line load_line write_line send_line read_line cas_line add_line recv_line poll_line
verb_names verb_form.Domain = bind object (λ o is. gives (verb.MakeDomain o) is)
verb_names verb_form.Region =
    bind object (λ o is. bind (any (an_own o)) (λ domain _. bind (any (a_number 0 (2 ^ 63))) (λ base _. bind (any (a_number 1 most_region_bytes)) (λ size _. bind (any some_rights) (λ rights _. gives (verb.MakeRegion o domain base size rights) is)))))
verb_names verb_form.Cq = bind object (λ o is. bind (any (a_number 1 most_capacity)) (λ capacity _. gives (verb.MakeCq o capacity) is))
verb_names verb_form.Qp =
    bind object (λ o is. bind (any (an_own o)) (λ domain _. bind (any (an_own o)) (λ send_cq _. bind (any (an_own o)) (λ recv_cq _. bind (any (a_number 1 most_depth)) (λ send _. bind (any (a_number 1 most_depth)) (λ recv _.
    gives (verb.MakeQp o domain send_cq recv_cq send recv) is))))))
verb_names verb_form.Drop = bind (any an_object) (λ o _. gives (verb.DropRegion o) tt)
verb_names verb_form.Store = bind (any an_object) (λ o _. bind (any a_long) (λ at _. bind (any some_bytes) (λ bytes _. gives (verb.Store o at bytes) tt)))
verb_names verb_form.Load = bind (any an_object) (λ o _. bind (any a_long) (λ at _. bind (any (a_number 1 4096)) (λ size _. gives (verb.Load o at size) tt)))
verb_names verb_form.Write =
    bind (any an_object) (λ o _. bind (any a_long) (λ id _. bind (any a_key) (λ lkey _. bind (any a_long) (λ local _. bind (any a_short) (λ size _. bind (any a_long) (λ remote _. bind (any a_key) (λ rkey _. bind (any an_immediate) (λ imm _.
    posted_names o id lkey local _))))))))
verb_names verb_form.Send =
    bind (any an_object) (λ o _. bind (any a_long) (λ id _. bind (any a_key) (λ lkey _. bind (any a_long) (λ local _. bind (any a_short) (λ size _. bind (any an_immediate) (λ imm _. posted_names o id lkey local _))))))
verb_names verb_form.Read =
    bind (any an_object) (λ o _. bind (any a_long) (λ id _. bind (any a_key) (λ lkey _. bind (any a_long) (λ local _. bind (any a_short) (λ size _. bind (any a_long) (λ remote _. bind (any a_key) (λ rkey _. posted_names o id lkey local _)))))))
verb_names verb_form.CompareSwap =
    bind (any an_object) (λ o _. bind (any a_long) (λ id _. bind (any a_key) (λ lkey _. bind (any a_long) (λ local _. bind (any a_long) (λ remote _. bind (any a_key) (λ rkey _. bind (any a_long) (λ compare _. bind (any a_long) (λ swap _.
    posted_names o id lkey local _))))))))
verb_names verb_form.FetchAdd =
    bind (any an_object) (λ o _. bind (any a_long) (λ id _. bind (any a_key) (λ lkey _. bind (any a_long) (λ local _. bind (any a_long) (λ remote _. bind (any a_key) (λ rkey _. bind (any a_long) (λ value _. posted_names o id lkey local _)))))))
verb_names verb_form.Recv =
    bind (any an_object) (λ o _. bind (any a_long) (λ id _. bind (any a_key) (λ lkey _. bind (any a_long) (λ local _. bind (any a_short) (λ size _. gives (verb.PostRecv o _) tt)))))
verb_names verb_form.Poll = bind (any an_object) (λ o _. bind (any (a_number 1 256)) (λ max _. gives (verb.Poll o max) tt))

-- a queue pair number has 24 bits
decoded : (r : Result (List ℕ) FromHexError) (bs : List ℕ) → if_decoded r ≡ Some bs → r ≡ Ok bs
decoded (Ok x) bs h = let same : x ≡ bs = cc h in ap Ok same
decoded (Err e) bs h = absurd (cc)

number_is : (text : List ℕ) (o : Option (List ℕ)) → hex_of text ≡ o → (n : ℕ) → option_and_then (λ bs. Some (big_number 3 bs)) o ≡ Some n → n < 2 ^ 24
number_is text (Some bs) is n h =
    let bytes = (decode_of-ok text bs (decoded (decode_of text) bs is)).3 in
    let same : big_number 3 bs ≡ n = cc h in
    subst (λ x. x < 2 ^ 24) same (big_from-lt 0 3 bs bytes)
number_is text None is n h = absurd (cc)

pair_is : (text : List ℕ) (n : ℕ) → hex_number 3 text ≡ Some n → n < 2 ^ 24
unfolding hex_number
pair_is text n h = by (length text == 2 * 3) h
  where
    by : (b : Bool) → (if b then option_and_then (λ bs. Some (big_number 3 bs)) (hex_of text) else None) ≡ Some n → n < 2 ^ 24
    by true g = number_is text (hex_of text) refl n g
    by false g = absurd (cc)

pub queue_pair : Tells (λ n. n < 2 ^ 24) a_queue_pair
unfolding a_queue_pair
queue_pair = field (hex_number 3) _ pair_is
