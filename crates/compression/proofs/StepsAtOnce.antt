-- Both steps of a pair out of one buffer: each look finds what it would find alone. Assumes nothing.
use mathlib.Core.Path.{◌≡◌, refl, ◌∙◌}
use mathlib.Core.List.{List}
use Prim.Native.Nat.{ℕ, ◌+◌, ◌*◌, ◌/◌, ◌%◌, ◌^◌, ◌≤◌, ◌<◌}
use native.Mathlib.Omega.{arith}
use lib.Count.{count_trailing_zeros}
use lib.ListN.{get_or}
use Rattle.streams.specs.Stream.{number, word_bits}
use Rattle.streams.specs.Looks.{found, field_at, code_at, zeros_at}
use Rattle.streams.specs.Read.{pair_at}
use Rattle.compression.specs.Reading.{place_of, Stands, Holds, judged_step}
use Rattle.compression.specs.declared.reader.Cursor.{Cursor}
use Rattle.compression.proofs.ReaderBuffer.{skipped, skip_stands, held_bits, inside_words}
use Rattle.compression.proofs.LookingFields.{field_found, code_found, row_found}
use Rattle.compression.proofs.ZerosLooks.{zeros_start, zeros_found}
use Rattle.compression.proofs.ReadingSteps.{pair_judged}

module _ (s table : List ℕ) (b : ℕ) (c : Cursor) (st : Stands s c) (entry : ℕ) (is : entry ≡ get_or table (c.buffer % 4096) 0) (short : entry / 256 ≤ 12)
    (enough : 20 + b ≤ c.held) where
  abbrev end : ℕ
  end = word_bits s

  -- past the code
  abbrev coded : Cursor
  coded = skipped c (entry / 256)

  coded_stands : Stands s coded
  coded_stands = skip_stands s c (entry / 256) st (omega arith)

  code_is : (book : List ℕ) → Holds book table → code_at (number s) end book (place_of c) ≡ found (entry % 256) (place_of coded)
  code_is book holds =
      let inside = inside_words s c st in
      code_found (number s) end book (place_of c) table holds (c.buffer % 4096) entry (entry % 256) (place_of coded) (omega arith)
      (held_bits s c 12 st (omega arith)) is refl (omega (arith, st.from))

  module _ (zeros : ℕ) (some : 0 < coded.buffer % 256) (ran_so : zeros ≡ count_trailing_zeros 8 (coded.buffer % 256)) (few : zeros < 8) where
    -- past the zeros and their one
    abbrev ran : Cursor
    ran = skipped coded (zeros + 1)

    ran_stands : Stands s ran
    ran_stands = skip_stands s coded (zeros + 1) coded_stands (omega arith)

    zeros_is : zeros_at (number s) end (place_of coded) ≡ found zeros (place_of ran)
    zeros_is =
        let inside = inside_words s coded coded_stands in
        zeros_found s (place_of coded) 0 coded (zeros_start s coded coded_stands) (omega arith) (coded.buffer % 256) (held_bits s coded 8 coded_stands (omega arith))
        zeros zeros (place_of ran) (omega arith) ran_so (omega arith) (omega (arith, coded_stands.from))

    low_is : (low q : ℕ) → low ≡ ran.buffer % 2 ^ b → q ≡ place_of ran + b → field_at (number s) end b (place_of ran) ≡ found low q
    low_is low q e at =
        let inside = inside_words s ran ran_stands in
        field_found (number s) end b (place_of ran) low q (omega arith) (e ∙ held_bits s ran b ran_stands (omega arith)) at

    pub both_steps : (low down q : ℕ) → low ≡ ran.buffer % 2 ^ b → down ≡ zeros * 2 ^ b + low → q ≡ place_of c + (entry / 256 + zeros + 1 + b)
        → (book : List ℕ) → Holds book table → (k row next : ℕ)
        → pair_at (number s) end book b k row next (place_of c) ≡ judged_step k row next (entry % 256) down q
    both_steps low down q el ed eq book holds k row next =
        let at : q ≡ place_of ran + b = omega (arith, st.from) in
        pair_judged (number s) end book b k row next (place_of c) (entry % 256) (place_of coded) down q (code_is book holds)
        (row_found (number s) end b (place_of coded) zeros (place_of ran) low q down zeros_is (low_is low q el at) ed)
