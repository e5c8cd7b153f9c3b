-- Expansion undoes the split, and the split undoes the expansion of lawful parts. Assumes nothing.
use mathlib.Core.Path.{◌≡◌, refl, sym, ap, ap₂, ◌∙◌}
use mathlib.Core.Bool.{Bool, true, false, not, ◌&&◌, ◌||◌}
use mathlib.Core.List.{List}
use mathlib.Core.Logic.{⊎_elim}
use native.Mathlib.Nat.{zero-add}
use Rattle.laws.specs.Columns.{has, word_of, differs}
use Rattle.laws.proofs.Columns.{has_out}
use Rattle.laws.proofs.Orders.{lt_or_le}
use Rattle.laws.proofs.Words.{has_word_of, word_of_lt, word_of_same}
use Rattle.matrices.specs.Listing.{list_from, in_list}
use Rattle.matrices.specs.Matrix.{in_window, matrix_of}
use Rattle.matrices.specs.Parts.{window_at, surprises_at, surprise_word, surprise_pairs}
use Rattle.matrices.specs.Shapes.{joined_at, Lawful, Sorted, windows, surprising}
use Rattle.matrices.specs.Source.{expanded}
use Rattle.matrices.proofs.Joined.{join_expanded}
use Rattle.matrices.proofs.Listed.{list_same}
use Rattle.matrices.proofs.Members.{in_list_is, list_of_sorted}
use Rattle.matrices.proofs.Parting.{join_split, window_join, surprises_join}
use Rattle.matrices.proofs.Rows.{length_matrix, row_matrix, matrix_is}
use Rattle.matrices.proofs.SplitTurn.{get_d_map}
use Prim.Native.Nat.{ℕ, ◌+◌, ◌-◌, ◌*◌, ◌/◌, ◌%◌, ◌^◌, ◌≤◌, ◌<◌}
use native.Mathlib.Omega.{arith}
use borrow.Author.Tests.{lt-ltb}
use lib.Dec.{ltb}
use lib.ListN.{length, get_or, length-map}
use lib.Seq.{ext_get_or}

-- the surprises of row r are those of the list
pub listed_at : (wide : Bool) (o : ℕ) (m : List ℕ) (r c : ℕ) → r < length m → c < 64 → in_list (surprise_pairs wide o m) (64 * r + c) ≡ has (surprise_word wide o (get_or m r 0)) c
unfolding surprise_pairs
listed_at wide o m r c h l =
    let d : (64 * r + c) / 64 ≡ r = omega arith in
    let e : (64 * r + c) % 64 ≡ c = omega arith in
    in_list_is (64 * length m) (λ x. has (surprise_word wide o (get_or m (x / 64) 0)) (x % 64)) (64 * r + c)
    ∙ ap (λ (t : Bool). t && has (surprise_word wide o (get_or m ((64 * r + c) / 64) 0)) ((64 * r + c) % 64)) (lt-ltb (64 * r + c) (64 * length m) (omega arith))
    ∙ ap₂ (λ (x y : ℕ). has (surprise_word wide o (get_or m x 0)) y) d e

-- what a matrix is split into stands for the matrix
pub expand_split : (o : ℕ) (m : List ℕ) → ((r : ℕ) → get_or m r 0 < 2 ^ 64) → matrix_of (length m) (expanded o (windows o m) (surprise_pairs true o m)) ≡ m
expand_split o m w =
    sym
    (matrix_is m (length m) (expanded o (windows o m) (surprise_pairs true o m)) refl w
    (λ r c h l.
    let v = get_or m r 0 in
    sym
    (ap₂ (λ (x : ℕ) (t : Bool). (in_window o c && has x (c - o)) || (not (in_window o c) && differs t (ltb c o))) (get_d_map (window_at o) m r h) (listed_at true o m r c h l)
    ∙ sym (has_word_of 64 (λ d. (in_window o d && has (window_at o v) (d - o)) || (not (in_window o d) && differs (has (surprises_at o v) d) (ltb d o))) c l)
    ∙ ap (λ (x : ℕ). has x c) (join_split o v (w r)))))

-- without a window, what a matrix is split into is the list of its pairs
pub expand_list : (o : ℕ) (m : List ℕ) → ((r : ℕ) → get_or m r 0 < 2 ^ 64) → matrix_of (length m) (λ r c. in_list (surprise_pairs false o m) (64 * r + c)) ≡ m
expand_list o m w = sym (matrix_is m (length m) (λ r c. in_list (surprise_pairs false o m) (64 * r + c)) refl w (λ r c h l. sym (listed_at false o m r c h l)))

-- lawful parts: for each row a byte with no bit past column 63, and an increasing list of pairs below 64·k, none of them in the window's columns
pub record Parts (o k : ℕ) (window ps : List ℕ) : Type 0 where
  pub sorted : Sorted ps
  pub below : (i : ℕ) → i < length ps → get_or ps i 0 < 64 * k
  pub long : length window ≡ k
  pub byte : (r : ℕ) → get_or window r 0 < 2 ^ 8
  pub inside : (r i : ℕ) → i < 8 → 64 ≤ o + i → has (get_or window r 0) i ≡ false
  pub apart : (r c : ℕ) → c < 64 → in_window o c ≡ true → in_list ps (64 * r + c) ≡ false

-- row r of a matrix that is given by its parts
pub expanded_row : (o k : ℕ) (window ps : List ℕ) (r : ℕ) → r < k
    → get_or (matrix_of k (expanded o window ps)) r 0 ≡ joined_at o (get_or window r 0) (word_of 64 (λ c. in_list ps (64 * r + c)))
expanded_row o k window ps r h =
    row_matrix k (expanded o window ps) r h
    ∙ word_of_same 64 (expanded o window ps r) _ (λ c l. sym (join_expanded o window ps r (word_of 64 (λ d. in_list ps (64 * r + d))) c refl l) ∙ has_word_of 64 _ c l)

module _ (o k : ℕ) (window ps : List ℕ) (ok : Parts o k window ps) where
  abbrev m : List ℕ
  m = matrix_of k (expanded o window ps)

  abbrev row_of : ℕ → ℕ
  row_of r = word_of 64 (λ c. in_list ps (64 * r + c))

  row : (r : ℕ) → r < k → get_or m r 0 ≡ joined_at o (get_or window r 0) (row_of r)
  row = expanded_row o k window ps

  lawful : (r : ℕ) → Lawful o (get_or window r 0) (row_of r)
  lawful r = record {
    byte = ok.byte r;
    word = word_of_lt 64 (λ c. in_list ps (64 * r + c));
    inside = ok.inside r;
    apart = λ c e.
        ⊎_elim (λ (l : c < 64). has_word_of 64 (λ d. in_list ps (64 * r + d)) c l ∙ ok.apart r c l e)
        (λ (l : 64 ≤ c). has_out 64 (row_of r) c (word_of_lt 64 (λ d. in_list ps (64 * r + d))) l) (lt_or_le c 64);
  }

  -- the split of lawful parts has their window
  pub windows_expand : windows o m ≡ window
  windows_expand =
      ext_get_or 0 (windows o m) window (length-map m (window_at o) ∙ length_matrix k (expanded o window ps) ∙ sym ok.long)
      (λ r h.
      let l : r < length m = omega (arith, length-map m (window_at o)) in
      let b : r < k = omega (arith, length_matrix k (expanded o window ps)) in
      get_d_map (window_at o) m r l ∙ ap (window_at o) (row r b) ∙ window_join o (get_or window r 0) (row_of r) (lawful r))

  surprise : (x : ℕ) → x < 64 * k → surprising o m x ≡ in_list ps x
  surprise x h =
      let r = x / 64 in
      let b : r < k = omega arith in
      let l : x % 64 < 64 = omega arith in
      let e : 64 * (x / 64) + x % 64 ≡ x = omega arith in
      ap (λ (w : ℕ). has w (x % 64)) (ap (surprises_at o) (row r b) ∙ surprises_join o (get_or window r 0) (row_of r) (lawful r))
      ∙ has_word_of 64 (λ c. in_list ps (64 * r + c)) (x % 64) l ∙ ap (in_list ps) e

  -- and their list
  pub surprises_expand : surprise_pairs true o m ≡ ps
  unfolding surprise_pairs
  surprises_expand =
      ap (λ (n : ℕ). list_from 0 (64 * n) (surprising o m)) (length_matrix k (expanded o window ps))
      ∙ list_same 0 (64 * k) (surprising o m) (in_list ps)
      (λ x h. surprise (0 + x) (omega (arith, zero-add x)))
      ∙ list_of_sorted ps ok.sorted (64 * k) ok.below
