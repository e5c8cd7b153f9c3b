-- The loop that puts pairs: what holds at its head, and that a pair keeps it. Assumes nothing.
use mathlib.Core.Path.{◌≡◌, refl, sym, ap, ◌∙◌, subst}
use mathlib.Core.List.{List, [], ◌++◌, append_assoc, append-nil}
use Prim.Native.Nat.{ℕ, ◌+◌, ◌/◌, ◌%◌, ◌≤◌, ◌<◌}
use native.Mathlib.Numerals.{add-one}
use native.Mathlib.Omega.{arith}
use lib.ListN.{length, get_or, drop, drop_of_length-le}
use Rattle.refusals.specs.Outcome.{accepted}
use Rattle.pair_lists.specs.Lists.{pairs_judged}
use Rattle.streams.specs.Codes.{Code, total, pack}
use Rattle.streams.specs.Written.{pair_codes, codes_from}
use Rattle.streams.proofs.Rising.{Follows, Rising, rising, rising_at}
use Rattle.streams.proofs.Packing.{total_append}
use Rattle.compression.specs.Writing.{Lawful, bits_put, PutsBy}
use Rattle.compression.specs.declared.writer.Writer.{Writer}
use Rattle.compression.proofs.PuttingValues.{put_none}
use Rattle.compression.proofs.PuttingCodes.{puts_then}
use Rattle.compression.proofs.CountingBits.{next_item}

module _ (book : List ℕ) (b k : ℕ) (pairs out₀ : List ℕ) (w₀ : Writer) where
  abbrev all : List Code
  all = codes_from book b 0 0 pairs

  -- the codes of the pairs passed are put, and those of the rest are to come
  pub record Head (out : List ℕ) (w : Writer) (row next i : ℕ) : Type 0 where
    pub within : i ≤ length pairs
    pub passed : List Code
    pub split : all ≡ passed ++ codes_from book b row next (drop i pairs)
    pub puts : PutsBy out₀ out w₀ w passed
    pub rises : Rising k row next (drop i pairs)

  pub start : Lawful out₀ w₀ → pairs_judged k pairs ≡ accepted [] → Head out₀ w₀ 0 0 0
  unfolding pack total
  start law a = record {
    within = omega arith;
    passed = [];
    split = refl;
    puts = put_none out₀ w₀ law;
    rises = rising k pairs a;
  }

  pub end : (out : List ℕ) (w : Writer) (row next i : ℕ) → Head out w row next i → length pairs ≤ i → PutsBy out₀ out w₀ w all
  unfolding codes_from
  end out w row next i h l =
      let e : all ≡ h.passed =
      h.split ∙ ap (λ (x : List ℕ). h.passed ++ codes_from book b row next x) (drop_of_length-le pairs l) ∙ append-nil h.passed in
      subst (PutsBy out₀ out w₀ w) (sym e) h.puts

  module _ (out : List ℕ) (w : Writer) (row next i : ℕ) (h : Head out w row next i) (lt : i < length pairs) where
    abbrev p : ℕ
    p = get_or pairs i 0

    step : all ≡ h.passed ++ (pair_codes book b row next p ++ codes_from book b (p / 64) (p % 64 + 1) (drop (i + 1) pairs))
    unfolding codes_from
    step = h.split ∙ ap (λ (x : List ℕ). h.passed ++ codes_from book b row next x) (next_item pairs i lt)

    pub first : Follows k row next p
    first = (rising_at pairs i lt h.rises).0

    pub room : bits_put w + total (pair_codes book b row next p) ≤ bits_put w₀ + total all
    room =
        let rest : List Code = codes_from book b (p / 64) (p % 64 + 1) (drop (i + 1) pairs) in
        omega (
          arith,
          ap total step,
          total_append h.passed (pair_codes book b row next p ++ rest),
          total_append (pair_codes book b row next p) rest,
          h.puts.sum,
        )

    pub more : (out' : List ℕ) (w' : Writer) → PutsBy out out' w w' (pair_codes book b row next p) → Head out' w' (p / 64) (p % 64 + 1) (i + 1)
    more out' w' q = record {
      within = omega arith;
      passed = h.passed ++ pair_codes book b row next p;
      split = step ∙ sym (append_assoc h.passed (pair_codes book b row next p) (codes_from book b (p / 64) (p % 64 + 1) (drop (i + 1) pairs)));
      puts = puts_then out₀ out out' w₀ w w' h.passed (pair_codes book b row next p) h.puts q;
      rises = subst (λ (j : ℕ). Rising k (p / 64) (p % 64 + 1) (drop j pairs)) (sym (add-one i)) (rising_at pairs i lt h.rises).1;
    }
