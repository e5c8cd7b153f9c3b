-- The loop that puts a window, two codes at a time: what holds at its head, and that two codes keep it. Assumes nothing.
use mathlib.Core.Path.{◌≡◌, refl, sym, ap, ap₂, ◌∙◌, subst}
use mathlib.Core.List.{List, [], ◌∷◌, ◌++◌, append_assoc, append-nil}
use Prim.Native.Nat.{ℕ, zero, suc, ◌+◌, ◌*◌, ◌/◌, ◌%◌, ◌^◌, ◌≤◌, ◌<◌}
use native.Mathlib.Omega.{arith}
use lib.ListN.{length, get_or, take, drop, drop_of_length-le}
use lib.Seq.{drop-drop, get_or-take}
use Rattle.std.specs.Simd.{first_chunks}
use Rattle.std.proofs.lemmas.List.{get_or-drop}
use Rattle.books.specs.Book.{length_in, codeword_in}
use Rattle.books.specs.Steps.{Shape}
use Rattle.streams.specs.Codes.{Code, total, pack}
use Rattle.streams.specs.Written.{window_codes}
use Rattle.streams.proofs.Packing.{total_append, empty, then, pack_fits}
use Rattle.compression.specs.Writing.{Lawful, bits_put, PutsBy, entry_code}
use Rattle.compression.specs.declared.writer.Writer.{Writer}
use Rattle.compression.proofs.PuttingValues.{put_none}
use Rattle.compression.proofs.PuttingCodes.{puts_then, pack_two, total_two}
use Rattle.compression.proofs.CountingBits.{next_item}

-- two book codes as one value
pub two_small : (first second : ℕ) → Shape first → Shape second
    → codeword_in first + codeword_in second * 2 ^ length_in first < 2 ^ (length_in first + length_in second)
two_small first second s t =
    subst (λ (v : ℕ). v < 2 ^ (length_in first + length_in second)) (pack_two (entry_code first) (entry_code second))
    (subst (λ (n : ℕ). pack (entry_code first ∷ entry_code second ∷ []) < 2 ^ n) (total_two (entry_code first) (entry_code second))
    (pack_fits (then s.fits (then t.fits empty))))

-- the window's bytes, two by two
two_at : (count : ℕ) (bytes : List ℕ) (i : ℕ) (d : List ℕ) → i < count → get_or (first_chunks 2 count bytes) i d ≡ take 2 (drop (2 * i) bytes)
two_at zero bytes i d l = absurd (omega arith)
two_at (suc count) bytes zero d l = refl
two_at (suc count) bytes (suc i) d l =
    two_at count (drop 2 bytes) i d (omega arith) ∙ ap (take 2) (drop-drop (2 * i) 2 bytes ∙ ap (λ (j : ℕ). drop j bytes) (omega arith))

pub byte_at : (twos : List (List ℕ)) (bytes : List ℕ) (i j : ℕ) (d : List ℕ) → twos ≡ first_chunks 2 (length bytes / 2) bytes → i < length bytes / 2 → j < 2
    → get_or (get_or twos i d) j 0 ≡ get_or bytes (2 * i + j) 0
byte_at twos bytes i j d is l h =
    ap (λ (t : List (List ℕ)). get_or (get_or t i d) j 0) is ∙ ap (λ (t : List ℕ). get_or t j 0) (two_at (length bytes / 2) bytes i d l)
    ∙ get_or-take 2 (drop (2 * i) bytes) j 0 h ∙ get_or-drop (2 * i) bytes j 0

module _ (book window out₀ : List ℕ) (w₀ : Writer) where
  -- the codes of the bytes passed are put, and those of the rest are to come
  pub record WindowHead (out : List ℕ) (w : Writer) (i : ℕ) : Type 0 where
    pub within : i ≤ length window
    pub even : i % 2 ≡ 0
    pub passed : List Code
    pub split : window_codes book window ≡ passed ++ window_codes book (drop i window)
    pub puts : PutsBy out₀ out w₀ w passed

  pub begins : Lawful out₀ w₀ → WindowHead out₀ w₀ 0
  unfolding pack total
  begins law = record { within = omega arith; even = omega arith; passed = []; split = refl; puts = put_none out₀ w₀ law }

  pub ends : (out : List ℕ) (w : Writer) (i : ℕ) → WindowHead out w i → length window ≤ i → PutsBy out₀ out w₀ w (window_codes book window)
  unfolding window_codes
  ends out w i h l =
      let e : window_codes book window ≡ h.passed =
      h.split ∙ ap (λ (x : List ℕ). h.passed ++ window_codes book x) (drop_of_length-le window l) ∙ append-nil h.passed in
      subst (PutsBy out₀ out w₀ w) (sym e) h.puts

  module _ (out : List ℕ) (w : Writer) (i : ℕ) (h : WindowHead out w i) (whole : length window % 2 ≡ 0) (lt : i < length window) where
    second_inside : i + 1 < length window
    second_inside = omega (arith, h.even)

    module _ (a b : ℕ) (first : a ≡ get_or book (get_or window i 0) 0) (second : b ≡ get_or book (get_or window (i + 1) 0) 0) where
      abbrev two : List Code
      two = entry_code a ∷ entry_code b ∷ []

      items : drop i window ≡ get_or window i 0 ∷ get_or window (i + 1) 0 ∷ drop (i + 2) window
      items =
          let at : i + 1 + 1 ≡ i + 2 = omega arith in
          next_item window i lt
          ∙ ap (λ (l : List ℕ). get_or window i 0 ∷ l)
          (next_item window (i + 1) second_inside ∙ ap (λ (j : ℕ). get_or window (i + 1) 0 ∷ drop j window) at)

      step : window_codes book window ≡ h.passed ++ (two ++ window_codes book (drop (i + 2) window))
      unfolding window_codes
      step =
          h.split ∙ ap (λ (x : List ℕ). h.passed ++ window_codes book x) items
          ∙ ap₂ (λ (x y : ℕ). h.passed ++ (entry_code x ∷ entry_code y ∷ window_codes book (drop (i + 2) window))) (sym first) (sym second)

      pub two_room : bits_put w + total two ≤ bits_put w₀ + total (window_codes book window)
      two_room =
          let rest : List Code = window_codes book (drop (i + 2) window) in
          omega (arith, ap total step, total_append h.passed (two ++ rest), total_append two rest, h.puts.sum)

      pub two_more : (out' : List ℕ) (w' : Writer) → PutsBy out out' w w' two → WindowHead out' w' (i + 2)
      two_more out' w' q = record {
        within = omega (arith, second_inside);
        even = omega (arith, h.even);
        passed = h.passed ++ two;
        split = step ∙ sym (append_assoc h.passed two (window_codes book (drop (i + 2) window)));
        puts = puts_then out₀ out out' w₀ w w' h.passed two h.puts q;
      }
