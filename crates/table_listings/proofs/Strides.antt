-- The constant table of strides: its rule, by one test of the whole table. Assumes nothing.
use mathlib.Core.Path.{◌≡◌, sym, ap, ◌∙◌}
use mathlib.Core.Bool.{Bool}
use mathlib.Core.List.{List}
use Prim.Native.Nat.{ℕ, ◌+◌, ◌-◌, ◌^◌, ◌<◌, ◌≤◌}
use native.Mathlib.Omega.{arith}
use lib.Dec.{T, eqb, eqb→eq}
use lib.ListN.{length, get_or}
use lib.Seq.{ext_get_or}
use Rattle.laws.specs.Lists.{list_of}
use Rattle.laws.proofs.Lists.{length_list_of, get_d_list_of}
use Rattle.laws.proofs.Whole.{every, at}
use Rattle.tables.specs.Listings.{stride_at}
use Rattle.tables.proofs.Stride.{stride_is}

-- the entry at i is the stride for lg i + 2
abbrev pub right : ℕ → ℕ → Bool
right i entry = eqb entry (stride_at (i + 2))

pub right_strides : (table : List ℕ) → length table ≡ 25 → T (every right 0 table) → table ≡ list_of 25 (λ i. stride_at (i + 2))
right_strides table long t =
    ext_get_or 0 table (list_of 25 (λ i. stride_at (i + 2))) (long ∙ sym (length_list_of 25 (λ i. stride_at (i + 2))))
    (λ (i : ℕ) (l : i < length table). let l' : i < 25 = omega arith in eqb→eq (get_or table i 0) (stride_at (i + 2)) (at right table t i l) ∙ sym (get_d_list_of 25 (λ i. stride_at (i + 2)) i l'))

pub stride_found : (table : List ℕ) → table ≡ list_of 25 (λ i. stride_at (i + 2)) → (lg : ℕ) → 2 ≤ lg → lg ≤ 26
    → (get_or table (lg - 2) 0 ≡ stride_at lg) × (get_or table (lg - 2) 0 < 2 ^ lg)
stride_found table rule lg least most =
    let e : lg - 2 + 2 ≡ lg = omega arith in
    let is : get_or table (lg - 2) 0 ≡ stride_at lg = ap (λ (l : List ℕ). get_or l (lg - 2) 0) rule ∙ get_d_list_of 25 (λ i. stride_at (i + 2)) (lg - 2) (omega arith) ∙ ap stride_at e in
    (is, rw is (stride_is lg least most).below)
