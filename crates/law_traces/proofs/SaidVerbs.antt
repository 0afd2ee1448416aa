-- The line of a verb is read as that verb.
use Rattle.std.proofs.Common.{arith, ◌≡◌, ℕ, ◌+◌, ◌≤◌, ◌^◌, ◌&&◌, ◌||◌, not, Bool, true, false, List, [], ◌∷◌, length, map, Option, Some, None, Ok, Err, if◌then◌else◌, refl, sym, ap, ◌∙◌, subst, codes}
use Rattle.std.specs.Map.{lookup}
use Rattle.std.specs.Str.{bytes_eq}
use Rattle.std.proofs.lemmas.Slice.Eq.{bytes_eq-Decides}
use Rattle.rdma_types.specs.declared.names.ObjName.{ObjName}
use Rattle.rdma_types.specs.declared.requests.Terms.{Terms}
use Rattle.rdma_types.specs.declared.verbs.Verb.{Verb}
use Rattle.rdma_types.specs.declared.verbs.Verb.TheVariants as verb
use Rattle.rdma_types.specs.Limits.{most_capacity, most_depth, most_region_bytes}
use Rattle.script_lang.specs.declared.forms.Form.{Form}
use Rattle.script_lang.specs.declared.forms.Form.TheVariants as form
use Rattle.script_lang.specs.declared.forms.VerbForm.{VerbForm}
use Rattle.script_lang.specs.declared.forms.VerbForm.TheVariants as verb_forms
use Rattle.script_lang.specs.declared.lines.Line.{Line}
use Rattle.script_lang.specs.declared.lines.Line.TheVariants as line
use Rattle.script_lang.specs.Fields.{a_device, a_long, a_name, a_short, an_address, an_object, some_terms}
use Rattle.script_lang.specs.Lines.{connect_line, device_line, form_of, form_or, line_of, said, whole, words_of_forms}
use Rattle.script_lang.specs.Texts.{greatest_u32, greatest_u64}
use Rattle.script_lang.specs.Verbs.{add_line, cas_line, cq_line, domain_line, drop_line, load_line, poll_line, qp_line, read_line, recv_line, region_line, send_line, store_line, verb_form, verb_line, verb_words, write_line}
use Rattle.script_lang.specs.Words.{Input, Read, Reads, Word, ◌>>=◌, a_word, done, no_more, the_end, then_read}
use Rattle.run_traces.specs.declared.trace_audit.lines.VerbLineForm.{VerbLineForm}
use Rattle.run_traces.specs.declared.trace_audit.lines.VerbLineForm.TheVariants as spoken_forms
use Rattle.run_traces.specs.declared.trace_audit.lines.TraceLine.TheVariants as trace_lines
use Rattle.run_traces.specs.Lines as audit_lines
use Rattle.run_traces.specs.Lines.{connect_verb, context_verb, leader_of, spoken_form, spoken_or, spoken_verb, trace_line, traced_reading}
use Rattle.run_traces.specs.Written.{lower, lowered}
use Rattle.law_headline.proofs.Tells.{Tells}
use Rattle.law_headline.proofs.Tells as tells
use Rattle.trace_rules.specs.Recording.{recorded_form, without_settle}
use Rattle.law_script_words.specs.Spoken.{columned}
use Rattle.law_script_words.proofs.Spoken.{left, right}
use Rattle.law_traces.proofs.SaidReaders.{AreLow, IsAlso, Lowers, LowersAll, at_most, bind, bytes, ends, gives, immediate, key, none_low, number, object, options, own, rights, takes_all, terms, texts}
use Rattle.law_traces.proofs.SaidSteps.{AreReadBack}
use Rattle.law_traces.proofs.SaidWords.{IsFixed, found_fixed}

-- ---- the words behind the verb's

long : AreReadBack → Lowers 21 (a_long)
long law = number law 0 greatest_u64 (omega arith)

short : AreReadBack → Lowers 21 (a_short)
short law = number law 0 greatest_u32 (omega arith)

module _ (law : AreReadBack) where
  domain_low : LowersAll 8300 domain_line
  unfolding domain_line
  domain_low = at_most 8300 (takes_all (bind object (λ o. gives (verb.MakeDomain o)))) (omega arith)

  region_low : LowersAll 8300 region_line
  unfolding region_line
  region_low =
      at_most 8300 (takes_all
      (bind object (λ o. bind (own o) (λ domain. bind (number law 0 (2 ^ 63) (omega arith)) (λ base. bind (number law 1 most_region_bytes (omega arith)) (λ size. bind rights (λ allowed.
      gives (verb.MakeRegion o domain base size allowed)))))))) (omega arith)

  cq_low : LowersAll 8300 cq_line
  unfolding cq_line
  cq_low = at_most 8300 (takes_all (bind object (λ o. bind (number law 1 most_capacity (omega arith)) (λ capacity. gives (verb.MakeCq o capacity))))) (omega arith)

  qp_low : LowersAll 8300 qp_line
  unfolding qp_line
  qp_low =
      at_most 8300 (takes_all
      (bind object (λ o. bind (own o) (λ domain. bind (own o) (λ send_cq. bind (own o) (λ recv_cq. bind (number law 1 most_depth (omega arith)) (λ send. bind (number law 1 most_depth (omega arith)) (λ recv.
      gives (verb.MakeQp o domain send_cq recv_cq send recv))))))))) (omega arith)

  drop_low : LowersAll 8300 drop_line
  unfolding drop_line
  drop_low = at_most 8300 (takes_all (bind object (λ o. gives (verb.DropRegion o)))) (omega arith)

  load_low : LowersAll 8300 load_line
  unfolding load_line
  load_low = at_most 8300 (takes_all (bind object (λ o. bind (long law) (λ at. bind (number law 1 4096 (omega arith)) (λ size. gives (verb.Load o at size)))))) (omega arith)

  store_low : LowersAll 8300 store_line
  unfolding store_line
  store_low = at_most 8300 (takes_all (bind object (λ o. bind (long law) (λ at. bind bytes (λ bs. gives (verb.Store o at bs)))))) (omega arith)

  recv_low : LowersAll 8300 recv_line
  unfolding recv_line
  recv_low =
      at_most 8300 (takes_all
      (bind object (λ o. bind (long law) (λ id. bind key (λ lkey. bind (long law) (λ local. bind (short law) (λ size.
      gives (verb.PostRecv o (record { id = id; lkey = lkey; local = local; length = size }))))))))) (omega arith)

  poll_low : LowersAll 8300 poll_line
  unfolding poll_line
  poll_low = at_most 8300 (takes_all (bind object (λ o. bind (number law 1 256 (omega arith)) (λ max. gives (verb.Poll o max))))) (omega arith)

  write_low : LowersAll 8300 write_line
  unfolding write_line
  write_low =
      at_most 8300
      (ends object (λ o. ends (long law) (λ id. ends key (λ lkey. ends (long law) (λ local. ends (short law) (λ size. ends (long law) (λ remote. ends key (λ rkey. ends immediate (λ imm.
      options o id lkey local _))))))))) (omega arith)

  send_low : LowersAll 8300 send_line
  unfolding send_line
  send_low =
      at_most 8300
      (ends object (λ o. ends (long law) (λ id. ends key (λ lkey. ends (long law) (λ local. ends (short law) (λ size. ends immediate (λ imm. options o id lkey local _))))))) (omega arith)

  read_low : LowersAll 8300 read_line
  unfolding read_line
  read_low =
      at_most 8300
      (ends object (λ o. ends (long law) (λ id. ends key (λ lkey. ends (long law) (λ local. ends (short law) (λ size. ends (long law) (λ remote. ends key (λ rkey. options o id lkey local _)))))))) (omega arith)

  cas_low : LowersAll 8300 cas_line
  unfolding cas_line
  cas_low =
      at_most 8300
      (ends object (λ o. ends (long law) (λ id. ends key (λ lkey. ends (long law) (λ local. ends (long law) (λ remote. ends key (λ rkey. ends (long law) (λ compare. ends (long law) (λ swap. options o id lkey local _))))))))) (omega arith)

  add_low : LowersAll 8300 add_line
  unfolding add_line
  add_low =
      at_most 8300
      (ends object (λ o. ends (long law) (λ id. ends key (λ lkey. ends (long law) (λ local. ends (long law) (λ remote. ends key (λ rkey. ends (long law) (λ value. options o id lkey local _)))))))) (omega arith)

  verb_low : (v : VerbForm) → LowersAll 8300 (verb_line v)
  verb_low verb_forms.Domain = domain_low
  verb_low verb_forms.Region = region_low
  verb_low verb_forms.Cq = cq_low
  verb_low verb_forms.Qp = qp_low
  verb_low verb_forms.Drop = drop_low
  verb_low verb_forms.Store = store_low
  verb_low verb_forms.Load = load_low
  verb_low verb_forms.Write = write_low
  verb_low verb_forms.Send = send_low
  verb_low verb_forms.Read = read_low
  verb_low verb_forms.CompareSwap = cas_low
  verb_low verb_forms.FetchAdd = add_low
  verb_low verb_forms.Recv = recv_low
  verb_low verb_forms.Poll = poll_low

  connect_low : LowersAll 8300 connect_verb
  unfolding connect_verb
  connect_low = at_most 8300 (takes_all (bind object (λ one. bind object (λ two. bind (terms law) (λ t. gives (verb.Connect one two t)))))) (omega arith)

-- ---- the first word

-- what is left of the forms is what is found of them
settle_kept : (o : Option Form) (f : Form) → without_settle o ≡ Some f → o ≡ Some f
settle_kept None f h = h
settle_kept (Some form.Settle) f h = cc h
settle_kept (Some other) f h = h

pub form_kept : (w : List ℕ) (f : Form) → recorded_form w ≡ Some f → form_of w ≡ Some f
unfolding recorded_form
form_kept w f h = settle_kept (form_of w) f h

-- the entries that pass a test have this key
abbrev only_key : (Form → Bool) → List ℕ → List (List ℕ × Form) → Bool
only_key test k [] = true
only_key test k (e ∷ es) = (not (test e.1) || bytes_eq e.0 k) && only_key test k es

-- a word by which such an entry is found is the key
found_key : (test : Form → Bool) (w k : List ℕ) (es : List (List ℕ × Form)) (f : Form) → only_key test k es ≡ true → test f ≡ true → lookup (λ text. bytes_eq w text) es ≡ Some f → w ≡ k
found_key test w k [] f only is h = cc h
found_key test w k (e ∷ es) f only is h = by (bytes_eq w e.0) refl h (found_key test w k es f (right (not (test e.1) || bytes_eq e.0 k) (only_key test k es) only) is)
  where
    here : (a b : Bool) → a ≡ true → (not a || b) ≡ true → b ≡ true
    here a true t h = refl
    here true false t h = cc h
    here false false t h = cc t

    by : (b : Bool) → bytes_eq w e.0 ≡ b → (if b then Some e.1 else lookup (λ text. bytes_eq w text) es) ≡ Some f → (lookup (λ text. bytes_eq w text) es ≡ Some f → w ≡ k) → w ≡ k
    by true t g later =
        let same : e.1 ≡ f = cc g in
        let passes : test e.1 ≡ true = ap test same ∙ is in
        let key : bytes_eq e.0 k ≡ true = here (test e.1) (bytes_eq e.0 k) passes (left (not (test e.1) || bytes_eq e.0 k) (only_key test k es) only) in
        (bytes_eq-Decides w e.0).0 t ∙ (bytes_eq-Decides e.0 k).0 key
    by false t g later = later g

abbrev is_connect : Form → Bool
is_connect form.Connect = true
is_connect other = false

abbrev is_verb : Form → Bool
is_verb (form.Verb v) = true
is_verb other = false

no_verb : (w : List ℕ) (v : VerbForm) → lookup (λ text. bytes_eq w text) words_of_forms ≡ Some (form.Verb v) → ⊥
no_verb w v h =
    let one : w ≡ [] = found_key is_verb w [] words_of_forms (form.Verb v) refl refl h in
    let two : w ≡ 0 ∷ [] = found_key is_verb w (0 ∷ []) words_of_forms (form.Verb v) refl refl h in
    cc

verb_found : (w : List ℕ) (v : VerbForm) → form_of w ≡ Some (form.Verb v) → verb_form w ≡ Some v
unfolding form_of
verb_found w v h = by (verb_form w) refl h
  where
    by : (o : Option VerbForm) → verb_form w ≡ o → form_or o (lookup (λ text. bytes_eq w text) words_of_forms) ≡ Some (form.Verb v) → verb_form w ≡ Some v
    by (Some u) e g = let same : u ≡ v = cc g in e ∙ ap Some same
    by None e g = absurd (no_verb w v g)

connect_found : (w : List ℕ) → form_of w ≡ Some form.Connect → w ≡ codes "connect"
unfolding form_of
connect_found w h = by (verb_form w) refl h
  where
    by : (o : Option VerbForm) → verb_form w ≡ o → form_or o (lookup (λ text. bytes_eq w text) words_of_forms) ≡ Some form.Connect → w ≡ codes "connect"
    by (Some u) e g = cc g
    by None e g = found_key is_connect w (codes "connect") words_of_forms form.Connect refl refl g

word_fixed : (w : List ℕ) (v : VerbForm) → verb_form w ≡ Some v → IsFixed 8 w
unfolding verb_form
word_fixed w v h = found_fixed w verb_words v refl h

shared_spoken : (w : List ℕ) (v : VerbForm) → verb_form w ≡ Some v → spoken_form w ≡ Some (spoken_forms.Shared v)
unfolding spoken_form
shared_spoken w v h = rw h refl

connect_spoken : spoken_form (codes "connect") ≡ Some spoken_forms.Connect
unfolding spoken_form verb_form
connect_spoken = refl

-- ---- the words behind the first

-- a reader of a verb gives this one, and takes all words
pub record IsGiven (r : Reads Verb) (i : Input) (v : Verb) : Type 0 where
  pub rest : Input
  pub reads : r i ≡ Ok (v, rest)
  pub all : rest.words ≡ []

-- the verb of a line, where nothing is left behind it
given_last : (q : Verb × Input) (ws : List Word) (v : Verb) → said (then_read (no_more ws q.1) (λ none. done (line.Verb q.0))) ≡ Ok (line.Verb v) → (q.0 ≡ v) × (ws ≡ [])
given_last q [] v h = (cc h, refl)
given_last q (w ∷ ws) v h = cc h

given_of : (r : Reads Verb) (i : Input) (v : Verb) → said (whole (r >>= (λ x. done (line.Verb x))) i) ≡ Ok (line.Verb v) → IsGiven r i v
unfolding the_end
given_of r i v h = by (r i) refl h
  where
    by : (x : Read Verb) → r i ≡ x → said (then_read (then_read x (λ y. done (line.Verb y))) (λ l. the_end >>= (λ none. done l))) ≡ Ok (line.Verb v) → IsGiven r i v
    by (Ok q) e g =
        let last = given_last q q.1.words v g in
        record { rest = q.1; reads = e ∙ ap (λ u. Ok (u, q.1)) last.0; all = last.1 }
    by (Err e') e g = cc g

-- the words of `connect` are read as they are in a script
connect_same : (i : Input) → connect_line i ≡ then_read (connect_verb i) (λ v. done (line.Verb v))
unfolding connect_line connect_verb
connect_same i = one (an_object i)
  where
    three : (a b : ObjName) (r : Read Terms) → then_read r (λ t. done (line.Verb (verb.Connect a b t))) ≡ then_read (then_read r (λ t. done (verb.Connect a b t))) (λ v. done (line.Verb v))
    three a b (Ok p) = refl
    three a b (Err e) = refl

    two : (a : ObjName) (r : Read ObjName) → then_read r (λ b. some_terms >>= (λ t. done (line.Verb (verb.Connect a b t)))) ≡ then_read (then_read r (λ b. some_terms >>= (λ t. done (verb.Connect a b t)))) (λ v. done (line.Verb v))
    two a (Ok p) = three a p.0 (some_terms p.1)
    two a (Err e) = refl

    one : (r : Read ObjName) → then_read r (λ a. an_object >>= (λ b. some_terms >>= (λ t. done (line.Verb (verb.Connect a b t))))) ≡ then_read (then_read r (λ a. an_object >>= (λ b. some_terms >>= (λ t. done (verb.Connect a b t))))) (λ v. done (line.Verb v))
    one (Ok p) = two p.0 (an_object p.1)
    one (Err e) = refl

-- ---- the verb of a line

-- a line that is no verb
abbrev IsNoVerb : Line → Type 0
IsNoVerb (line.Verb v) = ⊥
IsNoVerb other = Unit {0}

-- a form of lines that are no verbs
abbrev IsOther : Form → Type 0
IsOther (form.Verb v) = ⊥
IsOther form.Connect = ⊥
IsOther other = Unit {0}

other_lines : (f : Form) → IsOther f → Tells IsNoVerb (line_of f)
unfolding line_of device_line
other_lines (form.Verb v) is = absurd is
other_lines form.Connect is = absurd is
other_lines form.Device is = tells.bind (tells.any a_device) (λ id _. tells.bind (tells.any an_address) (λ a _. tells.gives (line.Device id a) tt))
other_lines form.Context is = tells.bind (tells.any a_name) (λ n _. tells.bind (tells.any a_device) (λ d _. tells.gives (line.Context n d) tt))
other_lines form.Go is = tells.bind (tells.any an_object) (λ o _. tells.gives (line.Go o) tt)
other_lines form.Deliver is = tells.bind (tells.any a_long) (λ k _. tells.gives (line.Deliver k) tt)
other_lines form.Lose is = tells.bind (tells.any a_long) (λ k _. tells.gives (line.Lose k) tt)
other_lines form.Wire is = tells.bind (tells.any a_long) (λ k _. tells.gives (line.Wire k) tt)
other_lines form.Expire is = tells.bind (tells.any an_object) (λ o _. tells.gives (line.Expire o) tt)
other_lines form.Rnr is = tells.bind (tells.any an_object) (λ o _. tells.gives (line.Rnr o) tt)
other_lines form.Stop is = tells.bind (tells.any a_name) (λ n _. tells.gives (line.Stop n) tt)
other_lines form.Restore is = tells.bind (tells.any a_name) (λ n _. tells.bind (tells.any a_device) (λ d _. tells.gives (line.Restore n d) tt))
other_lines form.Release is = tells.bind (tells.any a_name) (λ n _. tells.bind (tells.any a_device) (λ d _. tells.gives (line.Release n d) tt))
other_lines form.Dump is = tells.bind (tells.any a_name) (λ n _. tells.gives (line.Dump n) tt)
other_lines form.Settle is = tells.gives line.Settle tt

other_whole : (f : Form) → IsOther f → Tells IsNoVerb (whole (line_of f))
other_whole f is = tells.bind (other_lines f is) (λ l no'. tells.bind (tells.any the_end) (λ none _. tells.gives l no'))

no_verb_said : (r : Read Line) (v : Verb) → ((p : Line × Input) → r ≡ Ok p → IsNoVerb p.0) → said r ≡ Ok (line.Verb v) → ⊥
no_verb_said (Ok p) v each h = let same : p.0 ≡ line.Verb v = cc h in subst IsNoVerb same (each p refl)
no_verb_said (Err e) v each h = cc h

-- the word says a form of a trace's verbs, whose reader gives this verb
pub record IsSpoken (w : List ℕ) (i : Input) (v : Verb) : Type 0 where
  pub says : VerbLineForm
  pub is : spoken_form (map lower w) ≡ Some says
  pub short : length w ≤ 8
  pub low : LowersAll 8300 (spoken_verb says)
  pub given : IsGiven (spoken_verb says) i v

module _ (law : AreReadBack) where
  pub line_spoken : (f : Form) (w : List ℕ) (i : Input) (v : Verb) → form_of w ≡ Some f → said (whole (line_of f) i) ≡ Ok (line.Verb v) → IsSpoken w i v
  unfolding line_of
  line_spoken (form.Verb u) w i v h g =
      let found : verb_form w ≡ Some u = verb_found w u h in
      let fixed = word_fixed w u found in
      record { says = spoken_forms.Shared u; is = ap spoken_form fixed.same ∙ shared_spoken w u found; short = fixed.short; low = verb_low law u; given = given_of (verb_line u) i v g }
  line_spoken form.Connect w i v h g =
      let is : w ≡ codes "connect" = connect_found w h in
      let same : whole (connect_verb >>= (λ x. done (line.Verb x))) i ≡ whole connect_line i = ap (λ r. then_read r (λ l. the_end >>= (λ none. done l))) (sym (connect_same i)) in
      record {
        says = spoken_forms.Connect;
        is = ap (λ t. spoken_form (map lower t)) is ∙ connect_spoken;
        short = let size : length w ≡ 7 = ap length is in omega arith;
        low = connect_low law;
        given = given_of connect_verb i v (ap said same ∙ g);
      }
  line_spoken form.Device w i v h g = absurd (no_verb_said (whole (line_of form.Device) i) v ((other_whole form.Device tt).each i) g)
  line_spoken form.Context w i v h g = absurd (no_verb_said (whole (line_of form.Context) i) v ((other_whole form.Context tt).each i) g)
  line_spoken form.Go w i v h g = absurd (no_verb_said (whole (line_of form.Go) i) v ((other_whole form.Go tt).each i) g)
  line_spoken form.Deliver w i v h g = absurd (no_verb_said (whole (line_of form.Deliver) i) v ((other_whole form.Deliver tt).each i) g)
  line_spoken form.Lose w i v h g = absurd (no_verb_said (whole (line_of form.Lose) i) v ((other_whole form.Lose tt).each i) g)
  line_spoken form.Wire w i v h g = absurd (no_verb_said (whole (line_of form.Wire) i) v ((other_whole form.Wire tt).each i) g)
  line_spoken form.Expire w i v h g = absurd (no_verb_said (whole (line_of form.Expire) i) v ((other_whole form.Expire tt).each i) g)
  line_spoken form.Rnr w i v h g = absurd (no_verb_said (whole (line_of form.Rnr) i) v ((other_whole form.Rnr tt).each i) g)
  line_spoken form.Stop w i v h g = absurd (no_verb_said (whole (line_of form.Stop) i) v ((other_whole form.Stop tt).each i) g)
  line_spoken form.Restore w i v h g = absurd (no_verb_said (whole (line_of form.Restore) i) v ((other_whole form.Restore tt).each i) g)
  line_spoken form.Release w i v h g = absurd (no_verb_said (whole (line_of form.Release) i) v ((other_whole form.Release tt).each i) g)
  line_spoken form.Dump w i v h g = absurd (no_verb_said (whole (line_of form.Dump) i) v ((other_whole form.Dump tt).each i) g)
  line_spoken form.Settle w i v h g = absurd (no_verb_said (whole (line_of form.Settle) i) v ((other_whole form.Settle tt).each i) g)

-- ---- the line in a trace

texts_columned : (column : ℕ) (ws : List (List ℕ)) → texts (columned column ws) ≡ ws
texts_columned column [] = refl
texts_columned column (w ∷ ws) = ap (λ (z : List (List ℕ)). w ∷ z) (texts_columned (column + length w + 1) ws)

traced_by : (first : List ℕ) (vs : List Word) (column past : ℕ) (says : VerbLineForm) (v : Verb) (rest : Input) → spoken_form first ≡ Some says → spoken_verb says (record { words = vs; past = past }) ≡ Ok (v, rest) → rest.words ≡ [] →
    said (whole trace_line (record { words = record { column = 1; text = codes "v" } ∷ record { column = column; text = first } ∷ vs; past = past })) ≡ Ok (trace_lines.Verb v)
unfolding trace_line leader_of audit_lines.verb_words a_word the_end
traced_by first vs column past says v rest f r none = rw (f, r, none) refl

-- the words of a verb in lower case are read as the verb
pub words_said : (first : List ℕ) (ws : List Word) (past past' : ℕ) (v : Verb) → IsSpoken first (record { words = ws; past = past }) v → said (whole trace_line (record { words = columned 1 (codes "v" ∷ map lower first ∷ lowered ws); past = past' })) ≡ Ok (trace_lines.Verb v)
words_said first ws past past' v s =
    let column : ℕ = 3 + length (map lower first) + 1 in
    let vs : List Word = columned column (lowered ws) in
    let g = s.given in
    let also : IsAlso (spoken_verb s.says) (record { words = vs; past = past' }) v g.rest.words = s.low.also (record { words = ws; past = past }) (record { words = vs; past = past' }) (v, g.rest) (record { are = texts_columned column (lowered ws) }) g.reads g.all in
    traced_by (map lower first) vs 3 past' s.says v also.rest s.is also.reads (none_low also.rest.words (subst (λ z. AreLow z also.rest.words) g.all also.low))
