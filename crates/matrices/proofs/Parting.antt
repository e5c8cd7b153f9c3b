-- A word split at the offset o into a window byte and a surprise word, and put together again. Assumes nothing.
use mathlib.Core.Path.{◌≡◌, refl, sym, ap, ap₂, ◌∙◌}
use mathlib.Core.Logic.{⊎_elim}
use mathlib.Core.Bool.{Bool, true, false, not, ◌&&◌, ◌||◌}
use Prim.Native.Nat.{ℕ, ◌+◌, ◌-◌, ◌^◌, ◌≤◌, ◌<◌}
use native.Mathlib.Omega.{arith}
use borrow.Author.Tests.{lt-ltb, le-ltb, le-leb, lt-leb, leb-true, ltb-true}
use lib.Dec.{leb, ltb}
use Rattle.laws.specs.Columns.{has, word_of, differs}
use Rattle.laws.proofs.Columns.{has_out, word_ext}
use Rattle.laws.proofs.Orders.{lt_or_le}
use Rattle.laws.proofs.Truths.{and_left, and_right, and_true, and_false, or_false}
use Rattle.laws.proofs.Words.{word_of_lt, has_word_of, word_is, word_of_same}
use Rattle.matrices.specs.Matrix.{in_window}
use Rattle.matrices.specs.Parts.{window_at, surprises_at}
use Rattle.matrices.specs.Shapes.{joined_at, Lawful}

flip_flip : (b t : Bool) → differs (differs b t) t ≡ b
flip_flip true true = refl
flip_flip true false = refl
flip_flip false true = refl
flip_flip false false = refl

-- a column in the window, by its place there
pub window_col : (o i : ℕ) → i < 8 → in_window o (o + i) ≡ true
window_col o i h = rw (le-leb o (o + i) (omega arith), lt-ltb (o + i) (o + 8) (omega arith)) refl

-- and the other way round
pub window_from : (o c : ℕ) → in_window o c ≡ true → (o ≤ c) × (c < o + 8)
window_from o c e = (leb-true o c (and_left (leb o c) (ltb c (o + 8)) e), ltb-true c (o + 8) (and_right (leb o c) (ltb c (o + 8)) e))

-- what the three words have at a column: in the window, and out of it
module _ (o : ℕ) where
  joined_in : (b s c : ℕ) → c < 64 → in_window o c ≡ true → has (joined_at o b s) c ≡ has b (c - o)
  joined_in b s c l e = has_word_of 64 _ c l ∙ rw e (or_false (has b (c - o)))

  joined_out : (b s c : ℕ) → c < 64 → in_window o c ≡ false → has (joined_at o b s) c ≡ differs (has s c) (ltb c o)
  joined_out b s c l e = has_word_of 64 _ c l ∙ rw e refl

  -- no surprise in the window
  pub surprises_in : (w c : ℕ) → c < 64 → in_window o c ≡ true → has (surprises_at o w) c ≡ false
  surprises_in w c l e = has_word_of 64 _ c l ∙ rw e refl

  surprises_out : (w c : ℕ) → c < 64 → in_window o c ≡ false → has (surprises_at o w) c ≡ differs (has w c) (ltb c o)
  surprises_out w c l e = has_word_of 64 _ c l ∙ rw e refl

  -- the parts of a word make the word again
  pub join_split : (w : ℕ) → w < 2 ^ 64 → joined_at o (window_at o w) (surprises_at o w) ≡ w
  join_split w h = word_ext 64 _ w (word_of_lt 64 _) h (λ c l. go c l (in_window o c) refl)
    where
      go : (c : ℕ) → c < 64 → (t : Bool) → in_window o c ≡ t → has (joined_at o (window_at o w) (surprises_at o w)) c ≡ has w c
      go c l true e =
          let b = window_from o c e in
          joined_in (window_at o w) (surprises_at o w) c l e ∙ has_word_of 8 _ (c - o) (omega arith) ∙ ap (has w) (omega arith)
      go c l false e =
          joined_out (window_at o w) (surprises_at o w) c l e
          ∙ ap (λ (t : Bool). differs t (ltb c o)) (surprises_out w c l e) ∙ flip_flip (has w c) (ltb c o)

  -- and the word of lawful parts splits into them
  module _ (b s : ℕ) (ok : Lawful o b s) where
    -- the window is that byte
    pub window_join : window_at o (joined_at o b s) ≡ b
    window_join =
        sym (word_is 8 b (λ i. has (joined_at o b s) (o + i)) ok.byte
        (λ i l.
        ⊎_elim
        (λ (h : o + i < 64). sym (joined_in b s (o + i) h (window_col o i l) ∙ ap (has b) (omega arith)))
        (λ (h : 64 ≤ o + i). ok.inside i l h ∙ sym (has_out 64 (joined_at o b s) (o + i) (word_of_lt 64 _) h)) (lt_or_le (o + i) 64)))

    -- and the surprises are that word
    pub surprises_join : surprises_at o (joined_at o b s) ≡ s
    surprises_join = word_ext 64 _ s (word_of_lt 64 _) ok.word (λ c l. go c l (in_window o c) refl)
      where
        go : (c : ℕ) → c < 64 → (t : Bool) → in_window o c ≡ t → has (surprises_at o (joined_at o b s)) c ≡ has s c
        go c l true e = surprises_in (joined_at o b s) c l e ∙ sym (ok.apart c e)
        go c l false e =
            surprises_out (joined_at o b s) c l e
            ∙ ap (λ (t : Bool). differs t (ltb c o)) (joined_out b s c l e) ∙ flip_flip (has s c) (ltb c o)

-- the code's order of steps comes to the same
in_right : (o c : ℕ) → in_window o c ≡ true → ltb c o ≡ false
in_right o c e = le-ltb c o (window_from o c e).0

clear_then_flip : (o w c : ℕ) → differs (has w c && not (in_window o c)) (ltb c o) ≡ (not (in_window o c) && differs (has w c) (ltb c o))
clear_then_flip o w c = go (in_window o c) refl
  where
    go : (i : Bool) → in_window o c ≡ i → differs (has w c && not i) (ltb c o) ≡ (not i && differs (has w c) (ltb c o))
    go true e = ap₂ differs (and_false (has w c)) (in_right o c e)
    go false e = ap (λ (t : Bool). differs t (ltb c o)) (and_true (has w c))

-- first the window is cleared, then the columns below o are flipped
pub surprises_steps : (o w : ℕ)
    → word_of 64 (λ c. differs (has (word_of 64 (λ d. has w d && not (in_window o d))) c) (ltb c o)) ≡ surprises_at o w
surprises_steps o w =
    word_of_same 64 _ _ (λ c l. ap (λ (t : Bool). differs t (ltb c o)) (has_word_of 64 (λ d. has w d && not (in_window o d)) c l) ∙ clear_then_flip o w c)

byte_in : (o b c : ℕ) → b < 2 ^ 8 → (leb o c && has b (c - o)) ≡ (in_window o c && has b (c - o))
byte_in o b c h =
    ⊎_elim (λ (l : c < o). rw (lt-leb o c l) refl)
    (λ (l : o ≤ c).
    ⊎_elim (λ (g : c < o + 8). rw (le-leb o c l, lt-ltb c (o + 8) g) refl)
    (λ (g : o + 8 ≤ c). rw (le-leb o c l, le-ltb c (o + 8) g) (has_out 8 b (c - o) h (omega arith))) (lt_or_le c (o + 8))) (lt_or_le c o)

swap_or : (a i d : Bool) → (d && not i || (i && a)) ≡ ((i && a) || (not i && d))
swap_or true true true = refl
swap_or true true false = refl
swap_or true false true = refl
swap_or true false false = refl
swap_or false true true = refl
swap_or false true false = refl
swap_or false false true = refl
swap_or false false false = refl

-- first the columns below o are flipped, then the window is cleared, then the byte is put there
pub joined_steps : (o b s f k : ℕ) → b < 2 ^ 8 → f ≡ word_of 64 (λ c. differs (has s c) (ltb c o)) → k ≡ word_of 64 (λ c. has f c && not (in_window o c))
    → word_of 64 (λ c. has k c || (leb o c && has b (c - o))) ≡ joined_at o b s
joined_steps o b s f k h ef ek =
    word_of_same 64 _ _
    (λ c l.
    ap₂ ◌||◌
    (ap (λ (x : ℕ). has x c) ek ∙ has_word_of 64 _ c l ∙ ap (λ (t : Bool). t && not (in_window o c)) (ap (λ (x : ℕ). has x c) ef ∙ has_word_of 64 _ c l))
    (byte_in o b c h)
    ∙ swap_or (has b (c - o)) (in_window o c) (differs (has s c) (ltb c o)))
