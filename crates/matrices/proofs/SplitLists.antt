-- The list of a split is one that the judgement accepts. Assumes nothing.
use mathlib.Core.Path.{◌≡◌, refl, sym, ap, ap₂, ◌∙◌, subst}
use mathlib.Core.Logic.{⊎_elim}
use mathlib.Core.Bool.{Bool, true, false, not, ◌&&◌, true≢false}
use mathlib.Core.List.{List, [], ◌∷◌, ◌++◌}
use Prim.Native.Nat.{ℕ, zero, suc, ◌+◌, ◌*◌, ◌/◌, ◌%◌, ◌^◌, ◌≤◌, ◌<◌}
use native.Mathlib.Nat.{zero-add, not-suc-le-zero}
use native.Mathlib.Omega.{arith}
use borrow.Author.Tests.{lt-ltb, le-ltb, ne_eqb, eq-eqb}
use lib.Dec.{ltb}
use lib.ListN.{length, get_or, length-append, get_or-append}
use lib.Pow.{pow_mono}
use lib.Seq.{get_or-append-add}
use Rattle.laws.specs.Columns.{has, differs}
use Rattle.laws.proofs.Orders.{lt_or_le}
use Rattle.laws.proofs.Words.{has_word_of}
use Rattle.refusals.specs.Outcome.{accepted}
use Rattle.pair_lists.specs.Lists.{judged_from, pairs_judged}
use Rattle.matrices.specs.Listing.{only, list_from}
use Rattle.matrices.specs.Matrix.{at, reserved, in_window}
use Rattle.matrices.specs.Parts.{surprise_word, surprise_pairs}
use Rattle.matrices.specs.Shapes.{Sorted}
use Rattle.matrices.proofs.Judged.{Pair}

-- ---- the numbers below n that pass a test: each does, and each is above the one before

Each : ℕ → (ℕ → Bool) → List ℕ → Type 0
Each n p l = (i : ℕ) → i < length l → (get_or l i 0 < n) × (p (get_or l i 0) ≡ true)

-- a number more, above all others
each_more : (n : ℕ) (p : ℕ → Bool) (l : List ℕ) (b : Bool) → p n ≡ b → Each n p l → Each (suc n) p (l ++ only b n)
unfolding Each
each_more n p l true e f i h =
    ⊎_elim
    (λ (g : i < length l).
    let u = f i g in
    subst (λ (x : ℕ). (x < suc n) × (p x ≡ true)) (sym (get_or-append l (n ∷ []) 0 i g)) (omega (arith, u.0), u.1))
    (λ (g : length l ≤ i).
    let q : i ≡ length l + 0 = omega (arith, length-append l (n ∷ [])) in
    subst (λ (x : ℕ). (x < suc n) × (p x ≡ true)) (sym (ap (λ (j : ℕ). get_or (l ++ (n ∷ [])) j 0) q ∙ get_or-append-add l (n ∷ []) 0 0)) (omega arith, e))
    (lt_or_le i (length l))
each_more n p l false e f i h =
    let z : i < length l = omega (arith, length-append l []) in
    let u = f i z in
    subst (λ (x : ℕ). (x < suc n) × (p x ≡ true)) (sym (get_or-append l [] 0 i z)) (omega (arith, u.0), u.1)

-- every member passed the test
pub list_each : (n : ℕ) (p : ℕ → Bool) (i : ℕ) → i < length (list_from 0 n p) → (get_or (list_from 0 n p) i 0 < n) × (p (get_or (list_from 0 n p) i 0) ≡ true)
unfolding Each list_from
list_each zero p i h = absurd (not-suc-le-zero h)
list_each (suc n) p i h =
    let e : 0 + n ≡ n = zero-add n in
    subst (λ (x : ℕ). Each (suc n) p (list_from 0 n p ++ only (p x) x)) (sym e) (each_more n p (list_from 0 n p) (p n) refl (list_each n p)) i h

sorted_more : (n : ℕ) (l : List ℕ) (b : Bool) → ((i : ℕ) → i < length l → get_or l i 0 < n) → Sorted l → Sorted (l ++ only b n)
sorted_more n l true f s = record {
  less = λ i j h g.
      let m = length-append l (n ∷ []) in
      let a : i < length l = omega arith in
      ⊎_elim
      (λ (u : j < length l). omega (arith, s.less i j h u, get_or-append l (n ∷ []) 0 i a, get_or-append l (n ∷ []) 0 j u))
      (λ (u : length l ≤ j).
      let q : j ≡ length l + 0 = omega arith in
      let v : get_or (l ++ (n ∷ [])) j 0 ≡ n = ap (λ (x : ℕ). get_or (l ++ (n ∷ [])) x 0) q ∙ get_or-append-add l (n ∷ []) 0 0 in
      omega (arith, f i a, get_or-append l (n ∷ []) 0 i a)) (lt_or_le j (length l));
}
sorted_more n l false f s = record {
  less = λ i j h g.
      let m = length-append l [] in
      let a : i < length l = omega arith in
      let b : j < length l = omega arith in
      omega (arith, s.less i j h b, get_or-append l [] 0 i a, get_or-append l [] 0 j b);
}

-- and is above the one before
pub list_sorted : (n : ℕ) (p : ℕ → Bool) → Sorted (list_from 0 n p)
unfolding list_from
list_sorted zero p = record { less = λ i j h g. absurd (not-suc-le-zero g) }
list_sorted (suc n) p =
    let e : 0 + n ≡ n = zero-add n in
    subst (λ (x : ℕ). Sorted (list_from 0 n p ++ only (p x) x)) (sym e) (sorted_more n (list_from 0 n p) (p n) (λ i h. (list_each n p i h).0) (list_sorted n p))

-- ---- an increasing list of lawful pairs is accepted

-- every pair below k, none the reserved number
pub judged_of : (k place least : ℕ) (ps : List ℕ) → Sorted ps → ((i : ℕ) → i < length ps → Pair k least (get_or ps i 0)) → judged_from k place least ps ≡ accepted []
unfolding judged_from
judged_of k place least [] s f = refl
judged_of k place least (pair ∷ more) s f =
    let p = f 0 (omega arith) in
    rw (lt-ltb (pair / 64) k p.row, le-ltb pair least p.above, ne_eqb pair 4294967295 p.lawful)
    (judged_of k (suc place) (suc pair) more (record { less = λ i j h g. s.less (suc i) (suc j) (omega arith) (omega arith) })
    (λ i h.
    let q = f (suc i) (omega arith) in
    record { row = q.row; above = s.less 0 (suc i) (omega arith) (omega arith); lawful = q.lawful }))

-- ---- the list of a split

-- column 63 is surprising only where it is set
top_surprise : (wide : Bool) (o w : ℕ) → o ≤ 61 → has (surprise_word wide o w) 63 ≡ true → has w 63 ≡ true
top_surprise false o w h e = e
top_surprise true o w h e =
    go (in_window o 63)
    (sym (ap (λ (t : Bool). not (in_window o 63) && differs (has w 63) t) (le-ltb 63 o (omega arith)))
    ∙ sym (has_word_of 64 (λ c. not (in_window o c) && differs (has w c) (ltb c o)) 63 (omega arith)) ∙ e)
  where
    go : (t : Bool) → (not t && differs (has w 63) false) ≡ true → has w 63 ≡ true
    go true q = absurd (true≢false (sym q))
    go false q = same (has w 63) q
      where
        same : (b : Bool) → differs b false ≡ true → b ≡ true
        same true z = refl
        same false z = z

-- all of its pairs are lawful, where the reserved bit is clear
pub split_judged : (lg : ℕ) (wide : Bool) (o : ℕ) (m : List ℕ) → lg ≤ 26 → length m ≡ 2 ^ lg → o ≤ 61 → reserved lg m ≡ false
    → pairs_judged (2 ^ lg) (surprise_pairs wide o m) ≡ accepted []
unfolding surprise_pairs
split_judged lg wide o m l n small clear =
    judged_of (2 ^ lg) 0 0 (list_from 0 (64 * length m) p) (list_sorted (64 * length m) p)
    (λ i h.
    let u = list_each (64 * length m) p i h in
    let x = get_or (list_from 0 (64 * length m) p) i 0 in
    record {
      row = omega (arith, u.0);
      above = omega arith;
      lawful = λ q. never (ap p (sym q) ∙ u.1) (omega (arith, u.0));
    })
  where
    p : ℕ → Bool
    p x = has (surprise_word wide o (get_or m (x / 64) 0)) (x % 64)

    never : p 4294967295 ≡ true → 4294967295 < 64 * length m → ⊥
    never e h =
        ⊎_elim
        (λ (b : lg < 26).
        let q : 2 ^ lg ≤ 2 ^ 25 = pow_mono {i = lg} {j = 25} (omega arith) in
        omega arith)
        (λ (b : 26 ≤ lg).
        let t : at m 67108863 63 ≡ true = top_surprise wide o (get_or m 67108863 0) small e in
        true≢false (sym (ap₂ ◌&&◌ (eq-eqb lg 26 (omega arith)) t) ∙ clear)) (lt_or_le lg 26)
