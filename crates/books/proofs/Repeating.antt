-- A lent table, judged by itself: each symbol's entry stands at its codeword, and an entry of few bits repeats where one more bit is set. Assumes nothing.
use mathlib.Core.Path.{◌≡◌, refl, sym, ap, ap₂, ◌∙◌, subst}
use mathlib.Core.Logic.{⊎_elim}
use mathlib.Core.Bool.{Bool, true, false, not, ◌&&◌}
use mathlib.Core.List.{List, ◌∷◌}
use Prim.Native.Nat.{ℕ, zero, suc, ◌+◌, ◌-◌, ◌*◌, ◌%◌, ◌^◌, ◌≤◌, ◌<◌}
use native.Mathlib.Nat.{mod-eq_of_lt, pow-suc}
use native.Mathlib.Numerals.{add-one}
use native.Mathlib.Omega.{arith}
use borrow.Author.Count.{below_more}
use borrow.Author.Tests.{ltb-true, lt-ltb, eqb-true, eqb-false, not-true}
use lib.Dec.{eqb, ltb}
use lib.ListN.{length, get_or, take, drop}
use lib.Pow.{pow_mono}
use Rattle.std.proofs.lemmas.List.{get_or-drop, get_or-take, drop-drop}
use Rattle.laws.specs.Below.{one}
use Rattle.laws.proofs.Orders.{lt_or_le}
use Rattle.laws.proofs.Truths.{and_left, and_right, and_both, true_or_false}
use Rattle.laws.proofs.Powers.{below_top}
use Rattle.books.specs.Book.{length_in, codeword_in, one_symbol_each}
use Rattle.books.specs.Table.{is_table_of}
use Rattle.books.specs.Steps.{Decides, AllShaped, taken, Hit, entry_of, Agreed, Stands, breaks, Repeats, AllRepeat}
use Rattle.books.proofs.Agreement.{which_at, agrees, holds, passes, table_at, table_of_decoded}

-- ---- the count of what is broken

broken : (a b limit : ℕ) → breaks a b limit ≡ true → (a < limit) × (b ≡ a → ⊥)
broken a b limit e =
    (ltb-true a limit (and_left (ltb a limit) (not (eqb b a)) e), eqb-false b a (not-true (eqb b a) (and_right (ltb a limit) (not (eqb b a)) e)))

unbroken : (a b limit : ℕ) → breaks a b limit ≡ false → a < limit → b ≡ a
unbroken a b limit e l =
    ⊎_elim (λ (q : eqb b a ≡ true). eqb-true b a q)
    (λ (q : eqb b a ≡ false).
    let t : breaks a b limit ≡ true = and_both (lt-ltb a limit l) (ap not q) in
    let z : ◌≡◌ {A = ℕ} 0 1 = cc in absurd (omega arith)) (true_or_false (eqb b a))

module _ (table : List ℕ) (half limit : ℕ) where
  -- an entry below the limit is repeated
  abbrev pub Whole : ℕ → Type 0
  Whole k = get_or table k 0 < limit → get_or table (half + k) 0 ≡ get_or table k 0

  pub record Counted (count m : ℕ) : Type 0 where
    pub within : m ≤ half
    pub most : count ≤ m
    pub sound : count ≡ 0 → (k : ℕ) → k < m → Whole k
    pub complete : ((k : ℕ) → k < m → Whole k) → count ≡ 0

  pub counted_start : Counted 0 0
  counted_start = record { within = omega arith; most = omega arith; sound = λ e k l. absurd (omega arith); complete = λ h. refl }

  pub counted_turn : (count m more : ℕ) → Counted count m → m < half → more ≡ one (breaks (get_or table m 0) (get_or table (half + m) 0) limit)
      → Counted (count + more) (m + 1)
  counted_turn count m more c l e = ⊎_elim wrong right (true_or_false (breaks (get_or table m 0) (get_or table (half + m) 0) limit))
    where
      wrong : breaks (get_or table m 0) (get_or table (half + m) 0) limit ≡ true → Counted (count + more) (m + 1)
      wrong b =
          let w = broken (get_or table m 0) (get_or table (half + m) 0) limit b in
          let q : more ≡ 1 = e ∙ ap one b in
          record {
            within = omega arith;
            most = omega (arith, c.most);
            sound = λ (z : count + more ≡ 0). absurd (omega arith);
            complete = λ h. absurd (w.1 (h m (omega arith) w.0));
          }

      right : breaks (get_or table m 0) (get_or table (half + m) 0) limit ≡ false → Counted (count + more) (m + 1)
      right b =
          let q : more ≡ 0 = e ∙ ap one b in
          record {
            within = omega arith;
            most = omega (arith, c.most);
            sound =
                λ (z : count + more ≡ 0).
                below_more Whole m (c.sound (omega arith)) (unbroken (get_or table m 0) (get_or table (half + m) 0) limit b);
            complete = λ h. omega (arith, c.complete (λ k lk. h k (omega arith)));
          }

  pub counted_end : (count m : ℕ) → Counted count m → half ≤ m → (t : Bool) → eqb count 0 ≡ t → Decides (Repeats table half limit) t
  counted_end count m c l true e = λ k lk. c.sound (eqb-true count 0 e) k (omega arith)
  counted_end count m c l false e = λ h. eqb-false count 0 e (c.complete (λ k lk. h k (omega (arith, c.within))))

-- m entries of each half are counted, and the rest of each is left
abbrev pub Halved : (table : List ℕ) (half limit count : ℕ) (first second : List ℕ) → Type 0
Halved table half limit count first second =
    (length first ≤ half) × (first ≡ drop (half - length first) (take half table)) × (second ≡ drop (half - length first) (take half (drop half table)))
    × Counted table half limit count (half - length first)

pub halved_turn : (table : List ℕ) (half limit count more a b : ℕ) (first first' second second' : List ℕ) → first ≡ a ∷ first' → second ≡ b ∷ second'
    → Halved table half limit count first second → more ≡ one (breaks a b limit) → Halved table half limit (count + more) first' second'
halved_turn table half limit count more a b first first' second second' p q h e =
    let m : ℕ = half - length first in
    let less : length first ≡ suc (length first') = ap length p in
    let next : half - length first' ≡ m + 1 = omega (arith, h.0, less) in
    let inside : m + 0 < half = omega (arith, h.0, less) in
    let at : a ≡ get_or table (m + 0) 0 =
    ap (λ (l : List ℕ). get_or l 0 0) (sym p ∙ h.1) ∙ get_or-drop m (take half table) 0 0 ∙ get_or-take half table (m + 0) 0 inside in
    let bt : b ≡ get_or table (half + (m + 0)) 0 =
    ap (λ (l : List ℕ). get_or l 0 0) (sym q ∙ h.2) ∙ get_or-drop m (take half (drop half table)) 0 0
    ∙ get_or-take half (drop half table) (m + 0) 0 inside ∙ get_or-drop half table (m + 0) 0 in
    let same : m + 0 ≡ m = omega arith in
    let broke : more ≡ one (breaks (get_or table m 0) (get_or table (half + m) 0) limit) =
    e ∙ ap₂ (λ (x y : ℕ). one (breaks x y limit)) at bt ∙ ap (λ (k : ℕ). one (breaks (get_or table k 0) (get_or table (half + k) 0) limit)) same in (
      omega (arith, h.0, less),
      ap (drop 1) (sym p ∙ h.1) ∙ drop-drop 1 m (take half table) ∙ ap (λ (n : ℕ). drop n (take half table)) (sym next),
      ap (drop 1) (sym q ∙ h.2) ∙ drop-drop 1 m (take half (drop half table)) ∙ ap (λ (n : ℕ). drop n (take half (drop half table))) (sym next),
      subst (λ (k : ℕ). Counted table half limit (count + more) k) (sym next) (counted_turn table half limit count m more h.3 (omega (arith, h.0, less)) broke),
    )

-- ---- the levels, one after the other

pub levels_turn : (table : List ℕ) (bits half limit : ℕ) → half ≡ 2 ^ bits → limit ≡ (bits + 1) * 256
    → ((b : ℕ) → b < bits → Repeats table (2 ^ b) ((b + 1) * 256)) → Repeats table half limit → (b : ℕ) → b < bits + 1 → Repeats table (2 ^ b) ((b + 1) * 256)
levels_turn table bits half limit eh el before now =
    below_more (λ (b : ℕ). Repeats table (2 ^ b) ((b + 1) * 256)) bits before
    (subst (λ (h : ℕ). Repeats table h ((bits + 1) * 256)) eh (subst (λ (k : ℕ). Repeats table half k) el now))

pub levels_stop : (table : List ℕ) (bits half limit : ℕ) → half ≡ 2 ^ bits → limit ≡ (bits + 1) * 256 → bits < 12 → (Repeats table half limit → ⊥)
    → AllRepeat table → ⊥
levels_stop table bits half limit eh el l fails all =
    fails (subst (λ (h : ℕ). Repeats table h limit) (sym eh) (subst (λ (k : ℕ). Repeats table (2 ^ bits) k) (sym el) (all bits l)))

-- ---- what stands and repeats agrees with every symbol, and the other way round

module _ (book table : List ℕ) (short : length book ≤ 256) (s : AllShaped book) where
  abbrev len : ℕ → ℕ
  len y = length_in (get_or book y 0)

  module _ (stands : Stands book table) (repeats : AllRepeat table) where
    -- the numbers of so many bits have the entries of the symbols of at most so many
    abbrev Upto : ℕ → Type 0
    Upto bits = (y n : ℕ) → y < length book → len y ≤ bits → n < 2 ^ bits → Hit book y n → get_or table n 0 ≡ entry_of book y

    next : (bits : ℕ) → bits < 12 → Upto bits → Upto (suc bits)
    next bits l v y n ly few ln h =
        ⊎_elim shorter
        (λ (q : suc bits ≤ len y).
        let e : suc bits ≡ len y = omega arith in
        let at : n ≡ codeword_in (get_or book y 0) = sym (mod-eq_of_lt (subst (λ (b : ℕ). n < 2 ^ b) e ln)) ∙ h in
        ap (λ (m : ℕ). get_or table m 0) at ∙ stands y ly) (lt_or_le (len y) (suc bits))
      where
        shorter : len y < suc bits → get_or table n 0 ≡ entry_of book y
        shorter q =
            let few' : len y ≤ bits = omega arith in
            ⊎_elim (λ (k : n < 2 ^ bits). v y n ly few' k h)
            (λ (k : 2 ^ bits ≤ n).
            let e : 2 ^ bits + (n - 2 ^ bits) ≡ n = omega arith in
            let k' : n - 2 ^ bits < 2 ^ bits = omega (arith, pow-suc 2 bits) in
            let h' : Hit book y (n - 2 ^ bits) = sym (below_top (len y) bits (n - 2 ^ bits) few') ∙ ap (λ (p : ℕ). p % 2 ^ len y) e ∙ h in
            let old = v y (n - 2 ^ bits) ly few' k' h' in
            ap (λ (p : ℕ). get_or table p 0) (sym e) ∙ repeats bits l (n - 2 ^ bits) k' (omega (arith, old)) ∙ old) (lt_or_le n (2 ^ bits))

    upto : (bits : ℕ) → bits ≤ 12 → Upto bits
    upto zero l = λ y n (ly : y < length book) (few : len y ≤ 0) ln h. absurd (let q = (s y ly).least in omega arith)
    upto (suc bits) l = next bits (omega arith) (upto bits (omega arith))

    agreed : Agreed book table
    agreed y n ly ln h = upto 12 (omega arith) y n ly (s y ly).most ln h

    pub table_passes : taken book ≡ 4096 → (one_symbol_each book && is_table_of book table) ≡ true
    table_passes sum =
        let p = passes book table short s sum agreed in
        and_both p (table_of_decoded book table (holds book p table agreed))

  module _ (e : (one_symbol_each book && is_table_of book table) ≡ true) where
    each : one_symbol_each book ≡ true
    each = and_left (one_symbol_each book) (is_table_of book table) e

    -- the entry of a symbol that has the number
    entry_at : Agreed book table
    entry_at = agrees book each table (table_at book table (and_right (one_symbol_each book) (is_table_of book table) e))

    pub table_stands : Stands book table
    table_stands x l =
        let f = (s x l).fits in
        entry_at x (codeword_in (get_or book x 0)) l (omega (arith, pow_mono {i = len x} {j = 12} (s x l).most)) (mod-eq_of_lt f)

    pub table_repeats : AllRepeat table
    table_repeats bits lb m lm low =
        let top = pow_mono {i = bits + 1} {j = 12} (omega arith) in
        let twice : 2 ^ (bits + 1) ≡ 2 ^ bits * 2 = ap (λ (b : ℕ). 2 ^ b) (add-one bits) ∙ pow-suc 2 bits in
        let w = which_at book each m (omega arith) in
        let here = entry_at w.0 m w.1 (omega arith) w.2 in
        let few : len w.0 ≤ bits = omega (arith, w.1) in
        entry_at w.0 (2 ^ bits + m) w.1 (omega arith) (below_top (len w.0) bits m few ∙ w.2) ∙ sym here
