-- The loop that folds a matrix to k rows: where it starts, and a turn; it ends by `fold_short`. Assumes nothing.
use mathlib.Core.Path.{◌≡◌, refl, sym, ap, ap₂, ◌∙◌}
use mathlib.Core.Logic.{⊎_elim}
use mathlib.Core.Bool.{Bool, false, ◌&&◌, ◌||◌}
use mathlib.Core.List.{List}
use Prim.Native.Nat.{ℕ, ◌+◌, ◌%◌, ◌^◌, ◌≤◌, ◌<◌}
use native.Mathlib.Nat.{mod-lt, mod-eq_of_lt}
use native.Mathlib.Omega.{arith}
use borrow.Author.Tests.{eq-eqb, ne_eqb, lt-ltb, le-ltb, le-leb, lt-leb}
use lib.Dec.{eqb, ltb, leb}
use lib.ListN.{length, get_or, set}
use Rattle.laws.specs.Below.{any_below}
use Rattle.laws.specs.Choose.{choose}
use Rattle.laws.specs.Columns.{word_of}
use Rattle.laws.proofs.Any.{any_same, any_one, any_more}
use Rattle.laws.proofs.Orders.{lt_or_le, same_or_not}
use Rattle.laws.proofs.Truths.{or_false}
use Rattle.laws.proofs.Words.{word_of_same, word_of_none}
use Rattle.matrices.specs.Matrix.{at, matrix_of}
use Rattle.matrices.proofs.Rows.{at_matrix, matrix_is, matrix_same, set_matrix, put, put_same, put_other}

-- the rows below s are folded into the first k: those from k to s are empty, and those from s on as they were
abbrev pub partly : ℕ → ℕ → List ℕ → ℕ → ℕ → Bool
partly k s m r c = choose (ltb r k) (any_below s (λ t. eqb (t % k) r && at m t c)) (leb s r && at m r c)

module _ (m : List ℕ) (k : ℕ) where
  -- the rows below s that fall on row r
  abbrev falls : ℕ → ℕ → ℕ → Bool
  falls r c t = eqb (t % k) r && at m t c

  -- a row below k
  pub partly_low : (s r c : ℕ) → r < k → partly k s m r c ≡ any_below s (falls r c)
  partly_low s r c h = rw (lt-ltb r k h) refl

  -- a row that was folded
  pub partly_past : (s r c : ℕ) → k ≤ r → r < s → partly k s m r c ≡ false
  partly_past s r c h l = rw (le-ltb r k h, lt-leb s r l) refl

  -- a row that is still to be folded
  pub partly_rest : (s r c : ℕ) → k ≤ r → s ≤ r → partly k s m r c ≡ at m r c
  partly_rest s r c h l = rw (le-ltb r k h, le-leb s r l) refl

  -- before the first turn: the rows from k on are as they were
  pub fold_start : k ≤ length m → ((r : ℕ) → get_or m r 0 < 2 ^ 64) → m ≡ matrix_of (length m) (partly k k m)
  fold_start l w =
      matrix_is m (length m) (partly k k m) refl w
      (λ r c h b.
      ⊎_elim
      (λ (g : r < k).
      sym
      (partly_low k r c g
      ∙ any_same k (falls r c) (λ t. eqb t r && at m t c) (λ t u. ap (λ (x : ℕ). eqb x r && at m t c) (mod-eq_of_lt u))
      ∙ any_one k r (λ t. at m t c) g)) (λ (g : k ≤ r). sym (partly_rest k r c g g)) (lt_or_le r k))

  -- a turn: row s joins row s mod k, and becomes empty
  module _ (pos : 0 < k) (s : ℕ) (ks : k ≤ s) where
    abbrev f : ℕ → ℕ → Bool
    f = partly k s m

    abbrev joined : ℕ → Bool
    joined c = f (s % k) c || f s c

    abbrev g : ℕ → ℕ → Bool
    g = put f (s % k) joined

    turned : (r c : ℕ) → put g s (λ d. false) r c ≡ partly k (s + 1) m r c
    turned r c =
        ⊎_elim (λ (e : r ≡ s). put_same g s (λ d. false) r c e ∙ sym (partly_past (s + 1) r c (omega arith) (omega arith)))
        (λ (n : r ≡ s → ⊥).
        put_other g s (λ d. false) r c n
        ∙ ⊎_elim
        (λ (e : r ≡ s % k).
        let l : r < k = omega (arith, mod-lt s pos) in
        put_same f (s % k) joined r c e
        ∙ ap₂ ◌||◌ (ap (λ (x : ℕ). f x c) (sym e) ∙ partly_low s r c l)
        (partly_rest s s c ks (omega arith) ∙ sym (ap (λ (t : Bool). t && at m s c) (eq-eqb (s % k) r (sym e))))
        ∙ sym (partly_low (s + 1) r c l ∙ any_more s (falls r c)))
        (λ (ne : r ≡ s % k → ⊥).
        put_other f (s % k) joined r c ne
        ∙ ⊎_elim
        (λ (l : r < k).
        partly_low s r c l
        ∙ sym
        (partly_low (s + 1) r c l ∙ any_more s (falls r c)
        ∙ ap (λ (t : Bool). any_below s (falls r c) || (t && at m s c)) (ne_eqb (s % k) r (λ q. ne (sym q))) ∙ or_false (any_below s (falls r c))))
        (λ (l : k ≤ r).
        ⊎_elim (λ (b : r < s). partly_past s r c l b ∙ sym (partly_past (s + 1) r c l (omega arith)))
        (λ (b : s ≤ r). partly_rest s r c l b ∙ sym (partly_rest (s + 1) r c l (omega arith))) (lt_or_le r s)) (lt_or_le r k))
        (same_or_not r (s % k))) (same_or_not r s)

    -- the two stores of a turn
    pub fold_turn : s < length m
        → set (set (matrix_of (length m) f) (s % k) (word_of 64 (λ c. at (matrix_of (length m) f) (s % k) c || at (matrix_of (length m) f) s c))) s 0
        ≡ matrix_of (length m) (partly k (s + 1) m)
    fold_turn h =
        let n = length m in
        let i : s % k < n = omega (arith, mod-lt s pos) in
        ap (λ (w : ℕ). set (set (matrix_of n f) (s % k) w) s 0)
        (word_of_same 64 (λ c. at (matrix_of n f) (s % k) c || at (matrix_of n f) s c) joined
        (λ c l. ap₂ ◌||◌ (at_matrix n f (s % k) c i l) (at_matrix n f s c h l)))
        ∙ ap (λ (l : List ℕ). set l s 0) (set_matrix n f (s % k) joined i)
        ∙ ap (λ (w : ℕ). set (matrix_of n g) s w) (sym (word_of_none 64))
        ∙ set_matrix n g s (λ d. false) h
        ∙ matrix_same n (put g s (λ d. false)) (partly k (s + 1) m) (λ r c l b. turned r c)
