-- Pages of a list that are shared.
use Rattle.std.proofs.Common.{◌≡◌, ℕ, ◌+◌, ◌-◌, ◌*◌, ◌/◌, ◌<◌, ◌≤◌, List, [], ◌∷◌, ◌++◌, length, take, get_or, arith, refl, ap, sym, subst, ◌∙◌}
use Rattle.std.specs.Arc.{arc_value}
use Rattle.std.specs.declared.sync.Arc.{Arc}
use Rattle.std.specs.declared.alloc.Global.{Global}
use Rattle.std.proofs.lemmas.List.{places, same_lists, length_push, length-append, length-take, length-drop, length-replicate, append-nil, take-take, take-append-le}
use Rattle.std.proofs.lemmas.List.Elements.{All-nil, All-push, All-same}
use Rattle.rdma_types.specs.Memory.{cut, put}
use Rattle.rdma_types.proofs.Cuts.{cut-whole, length-cut}
use Rattle.byte_run.specs.Pages.{ArePages, joined}
use Rattle.byte_run.proofs.Runs.{length-pages}
use Rattle.byte_run.proofs.Joined.{cut-joined}
use Rattle.page_pool.specs.Store.{blank}
use Rattle.page_pool.specs.Ledger.{AreShared, IsWholePage, own_numbers}
use Rattle.page_pool.specs.declared.page.Page.{Page}
use Rattle.page_pool.specs.declared.page.Page.TheVariants.{Shared}
use Rattle.page_pool.proofs.Owned.{bytes-push, own-none, own-push}

pub shared-none : (bytes : List ℕ) (ps : List Page) → ps ≡ [] → AreShared bytes ps
shared-none bytes ps e =
    rw e
    (record {
      none_own = own-none;
      whole = All-nil IsWholePage;
      first = λ all. refl;
    })

-- one page more
pub shared-push : (bytes : List ℕ) (ps ps' : List Page) (page : Arc (List ℕ) Global) → ps' ≡ ps ++ Shared page ∷ [] → AreShared bytes ps → arc_value page ≡ cut (4096 * length ps) 4096 bytes → 4096 * length ps + 4096 ≤ length bytes → AreShared bytes ps'
shared-push bytes ps ps' page e h is room =
    let count : length ps + 1 ≡ length ps' = sym (ap length e ∙ length_push ps (Shared page)) in
    record {
      none_own = ap own_numbers e ∙ (own-push ps (Shared page) ∙ (append-nil (own_numbers ps) ∙ h.none_own));
      whole = All-same IsWholePage ps' (ps ++ Shared page ∷ []) e (All-push IsWholePage ps (Shared page) h.whole (ap length is ∙ length-cut (4096 * length ps) 4096 bytes room));
      first = λ all. bytes-push all all ps ps' (Shared page) bytes (length ps) (4096 * length ps) e (λ p l. refl) (h.first all) is refl room ∙ ap (λ n. take (4096 * n) bytes) count;
    }

-- the first bytes of another list
pub shared-in : (bytes bytes' : List ℕ) (ps : List Page) → AreShared bytes ps → take (4096 * length ps) bytes ≡ take (4096 * length ps) bytes' → AreShared bytes' ps
shared-in bytes bytes' ps h e = record { none_own = h.none_own; whole = h.whole; first = λ all. h.first all ∙ e }

-- a page of a row
pub page-at : {A : Type 0} (pages : List (Arc (List ℕ) A)) (i n : ℕ) (page : Arc (List ℕ) A) → ArePages pages → i < length pages → page ≡ get_or pages i page → n ≡ i → arc_value page ≡ cut (4096 * n) 4096 (joined pages)
page-at pages i n page even l is at =
    let place : 4096 * i + 0 ≡ 4096 * n = omega arith in
    let size : length (arc_value (get_or pages i page)) ≡ 4096 = even i page l in
    ap arc_value is
    ∙ (sym (cut-whole (arc_value (get_or pages i page)) 4096 (omega arith))
    ∙ (sym (cut-joined arc_value 4096 page pages i 0 4096 (λ j k. even j page k) l (omega arith))
    ∙ ap (λ a. cut a 4096 (joined pages)) place))

-- a part of the zeros behind a list
pub blank-behind : (bytes : List ℕ) (n a m : ℕ) → length bytes ≤ a → a + m ≤ length bytes + n → cut a m (bytes ++ blank n) ≡ blank m
unfolding cut blank
blank-behind bytes n a m low high = same_lists _ _ (simp (length-append, length-take, length-drop, length-replicate) (omega arith)) (λ i d l. grind (arith, places))

-- the whole pages of a run
pub whole-few : {A : Type 0} (pages : List (Arc (List ℕ) A)) (bytes : List ℕ) → ArePages pages → joined pages ≡ take (length bytes / 4096 * 4096) bytes → length pages ≡ length bytes / 4096
whole-few pages bytes even is =
    let size : length (joined pages) ≡ 4096 * length pages = length-pages pages even in
    let front : length (take (length bytes / 4096 * 4096) bytes) ≡ length bytes / 4096 * 4096 = simp length-take (omega arith) in
    omega (arith, ap length is)

-- bytes that are laid at the begin
pub laid-first : (bytes : List ℕ) (n : ℕ) → length bytes ≤ n → put (blank n) 0 bytes ≡ bytes ++ blank (n - length bytes)
unfolding put blank
laid-first bytes n h = same_lists _ _ (simp (length-append, length-take, length-drop, length-replicate) (omega arith)) (λ i d l. grind (arith, places))

-- the first whole pages of a run
pub run-shared : {A : Type 0} (pages : List (Arc (List ℕ) A)) (bytes : List ℕ) (ps : List Page) → ArePages pages → joined pages ≡ take (length bytes / 4096 * 4096) bytes → length ps ≤ length pages → AreShared (joined pages) ps → AreShared bytes ps
run-shared pages bytes ps even is few h =
    let count : length pages ≡ length bytes / 4096 = whole-few pages bytes even is in
    shared-in (joined pages) bytes ps h (ap (take (4096 * length ps)) is ∙ take-take (4096 * length ps) (length bytes / 4096 * 4096) bytes (omega arith))

-- and with zeros behind them
pub laid-shared : (bytes : List ℕ) (n : ℕ) (ps : List Page) → length bytes ≤ n → 4096 * length ps ≤ length bytes → AreShared bytes ps → AreShared (put (blank n) 0 bytes) ps
laid-shared bytes n ps inside few h = shared-in bytes (put (blank n) 0 bytes) ps h (sym (ap (take (4096 * length ps)) (laid-first bytes n inside) ∙ take-append-le (4096 * length ps) bytes (blank (n - length bytes)) few))

-- and all of them
pub laid-behind : (bytes : List ℕ) (n k : ℕ) (ps : List Page) → length bytes ≤ n → k ≡ n - length bytes → AreShared (bytes ++ blank k) ps → AreShared (put (blank n) 0 bytes) ps
laid-behind bytes n k ps inside rest h = subst (λ xs. AreShared xs ps) (sym (laid-first bytes n inside ∙ ap (λ m. bytes ++ blank m) (sym rest))) h
