-- Blocks of eight rows: their surprises, which of their rows hold any, and which blocks do. Assumes nothing.
use mathlib.Core.Path.{◌≡◌, refl, sym, ap, ap₂, ◌∙◌, subst}
use mathlib.Core.Logic.{⊎_elim}
use mathlib.Core.Bool.{Bool, true, false, not, ◌&&◌, true≢false}
use mathlib.Core.List.{List, [], ◌++◌, append-nil, append_assoc}
use Prim.Native.Nat.{ℕ, zero, suc, ◌+◌, ◌-◌, ◌*◌, ◌/◌, ◌%◌, ◌^◌, ◌≤◌, ◌<◌}
use native.Mathlib.Nat.{add-zero, zero-add}
use native.Mathlib.Numerals.{add-one}
use native.Mathlib.Omega.{arith}
use borrow.Author.Tests.{eq-eqb, ne_eqb, eqb-true}
use lib.Bits.{bit_or, bit_xor, xor_lt}
use lib.Count.{ones, count_trailing_zeros}
use lib.Dec.{eqb}
use lib.ListN.{length, get_or, set, take, length-append}
use Rattle.std.proofs.lemmas.List.{length-take-le, get_or-take}
use lib.Pow.{pow-lt}
use lib.Seq.{paste, get_or-set_same, get_or-set_other}
use Rattle.laws.specs.Below.{one}
use Rattle.laws.specs.Columns.{has, differs}
use Rattle.laws.proofs.Columns.{has_xor, has_one, has_zero, has_out}
use Rattle.laws.proofs.Orders.{lt_or_le}
use Rattle.laws.proofs.Trailing.{trailing_at, trailing_below, trailing_lt}
use Rattle.laws.proofs.Words.{has_word_of, word_of_lt}
use Rattle.matrices.specs.Listing.{list_from}
use Rattle.matrices.specs.Parts.{surprise_word, surprise_pairs}
use Rattle.matrices.specs.Shapes.{row_pairs}
use Rattle.matrices.proofs.Bridges.{length_from, row_length}
use Rattle.matrices.proofs.FirstColumn.{surprise_lt}
use Rattle.matrices.proofs.Fits.{count_le}
use Rattle.matrices.proofs.Listed.{list_same, list_none, list_split}
use Rattle.matrices.proofs.SplitTurn.{to_all}
use Rattle.unions.specs.Steps.{QuietIf, Found, BlocksWithin, Added, hit_rows, pairs_from, block_pairs}
use Rattle.unions.specs.declared.splitting.Surprises.{Surprises}
use Rattle.unions.proofs.Adding.{added_none, added_row, added_both}

-- ---- a word, and a word without its lowest column

-- only a word that is not 0 has columns
some_has : (w c : ℕ) (b : Bool) → eqb w 0 ≡ b → (not b && has w c) ≡ has w c
some_has w c true e = sym (ap (λ (x : ℕ). has x c) (eqb-true w 0 e) ∙ has_zero c)
some_has w c false e = refl

differs_none : (b : Bool) → differs b false ≡ b
differs_none true = refl
differs_none false = refl

without : (rest t j : ℕ) → has (bit_xor rest (2 ^ t)) j ≡ differs (has rest j) (eqb j t)
without rest t j = has_xor rest (2 ^ t) j ∙ ap (differs (has rest j)) (has_one t j)

-- the lowest of eight columns
pub lowest_lt : (rest : ℕ) → rest < 2 ^ 8 → 0 < rest → count_trailing_zeros 64 rest < 8
lowest_lt rest h p =
    let t = count_trailing_zeros 64 rest in
    let l : t < 64 = trailing_lt 64 rest (omega arith) p in
    ⊎_elim (λ (g : t < 8). g) (λ (g : 8 ≤ t). absurd (true≢false (sym (trailing_at 64 rest l) ∙ has_out 8 rest t h g))) (lt_or_le t 8)

-- ---- the surprises of rows that follow each other

module _ (wide : Bool) (o : ℕ) (m : List ℕ) where
  abbrev surprising : ℕ → Bool
  surprising x = has (surprise_word wide o (get_or m (x / 64) 0)) (x % 64)

  -- n rows, and then k more
  pub from_more : (r n k : ℕ) → pairs_from wide o m r (n + k) ≡ pairs_from wide o m r n ++ pairs_from wide o m (r + n) k
  from_more r n k =
      let e : 64 * (n + k) ≡ 64 * n + 64 * k = omega arith in
      let f : 64 * r + 64 * n ≡ 64 * (r + n) = omega arith in
      ap (λ (x : ℕ). list_from (64 * r) x surprising) e
      ∙ list_split (64 * r) (64 * n) (64 * k) surprising
      ∙ ap (λ (x : ℕ). list_from (64 * r) (64 * n) surprising ++ list_from x (64 * k) surprising) f

  -- all rows up to one list no more than all
  pub from_most : (to : ℕ) → to ≤ length m → length (pairs_from wide o m 0 to) ≤ length (surprise_pairs wide o m)
  from_most to h =
      let e : length m ≡ to + (length m - to) = omega arith in
      let s : surprise_pairs wide o m ≡ pairs_from wide o m 0 to ++ pairs_from wide o m (0 + to) (length m - to) =
      sym (to_all wide o m) ∙ ap (pairs_from wide o m 0) e ∙ from_more 0 to (length m - to) in
      omega (arith, ap length s, length-append (pairs_from wide o m 0 to) (pairs_from wide o m (0 + to) (length m - to)))

  -- a row more: as many as its surprise word has columns
  pub from_next : (r n : ℕ) → get_or m (r + n) 0 < 2 ^ 64 → length (pairs_from wide o m r (n + 1)) ≡ length (pairs_from wide o m r n) + ones (surprise_word wide o (get_or m (r + n) 0))
  from_next r n h =
      let w = surprise_word wide o (get_or m (r + n) 0) in
      let row : pairs_from wide o m (r + n) 1 ≡ row_pairs (r + n) w = list_same (64 * (r + n)) 64 surprising (λ x. has w (x % 64))
      (λ c l.
      let q : (64 * (r + n) + c) / 64 ≡ r + n = omega arith in
      ap (λ (i : ℕ). has (surprise_word wide o (get_or m i 0)) ((64 * (r + n) + c) % 64)) q) in
      ap length (from_more r n 1 ∙ ap (λ (l : List ℕ). pairs_from wide o m r n ++ l) row)
      ∙ length-append (pairs_from wide o m r n) (row_pairs (r + n) w)
      ∙ ap (λ (x : ℕ). length (pairs_from wide o m r n) + x) (row_length (r + n) w (surprise_lt wide o (get_or m (r + n) 0) h))

  -- no more than 64 for each row
  pub from_few : (r n : ℕ) → length (pairs_from wide o m r n) ≤ 64 * n
  from_few r n = omega (arith, length_from (64 * r) (64 * n) surprising, count_le (64 * n) (λ i. surprising (64 * r + i)))

  -- rows without a surprise list nothing
  from_quiet : (r n : ℕ) → ((t : ℕ) → r ≤ t → t < r + n → surprise_word wide o (get_or m t 0) ≡ 0) → pairs_from wide o m r n ≡ []
  from_quiet r n z =
      list_none (64 * r) (64 * n) surprising
      (λ c h. ap (λ (w : ℕ). has w ((64 * r + c) % 64)) (z ((64 * r + c) / 64) (omega arith) (omega arith)) ∙ has_zero ((64 * r + c) % 64))

  pub from_none : (r : ℕ) → pairs_from wide o m r 0 ≡ []
  from_none r = from_quiet r 0 (λ t a b. absurd (omega arith))

  -- ---- the rows of a block that hold a surprise

  -- the surprises of the rows that are left
  abbrev left_in : ℕ → ℕ → ℕ → Bool
  left_in r rest x = has rest (x / 64 - r) && surprising x

  abbrev hit_pairs : ℕ → ℕ → List ℕ
  hit_pairs r rest = list_from (64 * r) 512 (left_in r rest)

  hit_all : (r : ℕ) → hit_pairs r (hit_rows wide o m r) ≡ pairs_from wide o m r 8
  hit_all r =
      list_same (64 * r) 512 (left_in r (hit_rows wide o m r)) surprising
      (λ c h.
      let x = 64 * r + c in
      let w = surprise_word wide o (get_or m (x / 64) 0) in
      let j : x / 64 - r < 8 = omega arith in
      let e : r + (x / 64 - r) ≡ x / 64 = omega arith in
      ap (λ (t : Bool). t && surprising x)
      (has_word_of 8 (λ i. not (eqb (surprise_word wide o (get_or m (r + i) 0)) 0)) (x / 64 - r) j ∙ ap (λ (i : ℕ). not (eqb (surprise_word wide o (get_or m i 0)) 0)) e)
      ∙ some_has w (x % 64) (eqb w 0) refl)

  hit_none : (r : ℕ) → hit_pairs r 0 ≡ []
  hit_none r = list_none (64 * r) 512 (left_in r 0) (λ c h. ap (λ (t : Bool). t && surprising (64 * r + c)) (has_zero ((64 * r + c) / 64 - r)))

  -- the rows below one, it, and the rows above it
  three : (r t d : ℕ) (p : ℕ → Bool) → t + suc d ≡ 8
      → list_from (64 * r) 512 p ≡ list_from (64 * r) (64 * t) p ++ (list_from (64 * (r + t)) 64 p ++ list_from (64 * (r + t + 1)) (64 * d) p)
  three r t d p e =
      let a : 512 ≡ 64 * t + (64 + 64 * d) = omega arith in
      let b : 64 * r + 64 * t ≡ 64 * (r + t) = omega arith in
      let c : 64 * (r + t) + 64 ≡ 64 * (r + t + 1) = omega arith in
      ap (λ (n : ℕ). list_from (64 * r) n p) a
      ∙ list_split (64 * r) (64 * t) (64 + 64 * d) p
      ∙ ap (λ (l : List ℕ). list_from (64 * r) (64 * t) p ++ l)
      (ap (λ (x : ℕ). list_from x (64 + 64 * d) p) b ∙ list_split (64 * (r + t)) 64 (64 * d) p
      ∙ ap (λ (x : ℕ). list_from (64 * (r + t)) 64 p ++ list_from x (64 * d) p) c)

  module _ (r rest : ℕ) (h : rest < 2 ^ 8) (p : 0 < rest) where
    abbrev lowest : ℕ
    lowest = count_trailing_zeros 64 rest

    abbrev others : ℕ
    others = bit_xor rest (2 ^ count_trailing_zeros 64 rest)

    below : (j : ℕ) → j < lowest → has rest j ≡ false
    below j l = trailing_below 64 rest j l

    there : has rest lowest ≡ true
    there = trailing_at 64 rest (omega (arith, lowest_lt rest h p))

    -- the first row that is left comes first
    pub hit_first : hit_pairs r rest ≡ row_pairs (r + lowest) (surprise_word wide o (get_or m (r + lowest) 0)) ++ hit_pairs r others
    hit_first =
        let t = lowest in
        let d = 7 - t in
        let e : t + suc d ≡ 8 = omega (arith, lowest_lt rest h p) in
        let above = list_from (64 * (r + t + 1)) (64 * d) (left_in r rest) in
        three r t d (left_in r rest) e
        ∙ ap₂ (λ (x y : List ℕ). x ++ (y ++ above))
        (list_none (64 * r) (64 * t) (left_in r rest)
        (λ c l. ap (λ (b : Bool). b && surprising (64 * r + c)) (below ((64 * r + c) / 64 - r) (omega arith))))
        (list_same (64 * (r + t)) 64 (left_in r rest) (λ x. has (surprise_word wide o (get_or m (r + t) 0)) (x % 64))
        (λ c l.
        let x = 64 * (r + t) + c in
        let q : x / 64 ≡ r + t = omega arith in
        let g : x / 64 - r ≡ t = omega arith in
        ap (λ (b : Bool). b && surprising x) (ap (has rest) g ∙ there) ∙ ap (λ (i : ℕ). has (surprise_word wide o (get_or m i 0)) (x % 64)) q))
        ∙ ap (λ (l : List ℕ). row_pairs (r + t) (surprise_word wide o (get_or m (r + t) 0)) ++ l)
        (sym
        (three r t d (left_in r others) e
        ∙ ap₂ (λ (x y : List ℕ). x ++ (y ++ list_from (64 * (r + t + 1)) (64 * d) (left_in r others)))
        (list_none (64 * r) (64 * t) (left_in r others)
        (λ c l.
        let j = (64 * r + c) / 64 - r in
        let k : j < t = omega arith in
        ap (λ (b : Bool). b && surprising (64 * r + c)) (without rest t j ∙ ap₂ differs (below j k) (ne_eqb j t (omega arith)))))
        (list_none (64 * (r + t)) 64 (left_in r others)
        (λ c l.
        let j = (64 * (r + t) + c) / 64 - r in
        let g : j ≡ t = omega arith in
        ap (λ (b : Bool). b && surprising (64 * (r + t) + c)) (without rest t j ∙ ap₂ differs (ap (has rest) g ∙ there) (eq-eqb j t g))))
        ∙ list_same (64 * (r + t + 1)) (64 * d) (left_in r others) (left_in r rest)
        (λ c l.
        let j = (64 * (r + t + 1) + c) / 64 - r in
        ap (λ (b : Bool). b && surprising (64 * (r + t + 1) + c))
        (without rest t j ∙ ap (differs (has rest j)) (ne_eqb j t (omega arith)) ∙ differs_none (has rest j)))))

-- row r + i holds a surprise
abbrev pub hit : Bool → ℕ → List ℕ → ℕ → ℕ → Bool
hit wide o m r i = not (eqb (surprise_word wide o (get_or m (r + i) 0)) 0)

-- what holds at the loop's head: some rows are listed, and the others are those left
pub record HitsListed (wide : Bool) (o : ℕ) (m : List ℕ) (r : ℕ) (before : Surprises) (out : List ℕ) (rest : ℕ) (so : Surprises) (left : List ℕ) : Type 0 where
  pub done : List ℕ
  pub fits : rest < 2 ^ 8
  pub whole : done ++ hit_pairs wide o m r rest ≡ pairs_from wide o m r 8
  pub added : Added done before out so left

module _ (wide : Bool) (o : ℕ) (m : List ℕ) (r : ℕ) (before : Surprises) (out : List ℕ) where
  pub hits_start : HitsListed wide o m r before out (hit_rows wide o m r) before out
  hits_start = record { done = []; fits = word_of_lt 8 _; whole = hit_all wide o m r; added = added_none before out }

  module _ (rest : ℕ) (so : Surprises) (left : List ℕ) (s : HitsListed wide o m r before out rest so left) (p : 0 < rest) where
    abbrev row : ℕ
    row = r + count_trailing_zeros 64 rest

    abbrev next : ℕ
    next = surprise_word wide o (get_or m row 0)

    abbrev remaining : ℕ
    remaining = bit_xor rest (2 ^ count_trailing_zeros 64 rest)

    split : s.done ++ row_pairs row next ++ hit_pairs wide o m r remaining ≡ pairs_from wide o m r 8
    split =
        append_assoc s.done (row_pairs row next) (hit_pairs wide o m r remaining)
        ∙ ap (λ (l : List ℕ). s.done ++ l) (sym (hit_first wide o m r rest s.fits p)) ∙ s.whole

    -- there is room for the next row
    pub hits_room : before.count + length (pairs_from wide o m r 8) ≤ length out → so.count + length (row_pairs row next) ≤ length out
    hits_room h =
        omega (
          arith,
          s.added.count,
          ap length split,
          length-append (s.done ++ row_pairs row next) (hit_pairs wide o m r remaining),
          length-append s.done (row_pairs row next),
        )

    pub hits_turn : (n : ℕ) (then : List ℕ) → get_or m row 0 < 2 ^ 64 → n ≡ so.count + length (row_pairs row next)
        → then ≡ paste left so.count (row_pairs row next) (length (row_pairs row next))
        → HitsListed wide o m r before out remaining (record { ored = bit_or so.ored next; count = n }) then
    hits_turn n then f en et = record {
      done = s.done ++ row_pairs row next;
      fits = xor_lt 8 rest _ s.fits (pow-lt (lowest_lt rest s.fits p));
      whole = split;
      added = added_both s.done (row_pairs row next) before so _ out left then s.added (added_row row next so left then n (surprise_lt wide o (get_or m row 0) f) en et);
    }

  pub hits_end : (so : Surprises) (left : List ℕ) → HitsListed wide o m r before out 0 so left → Added (pairs_from wide o m r 8) before out so left
  hits_end so left s =
      subst (λ (l : List ℕ). Added l before out so left)
      (sym (append-nil s.done) ∙ ap (λ (l : List ℕ). s.done ++ l) (sym (hit_none wide o m r)) ∙ s.whole) s.added

-- ---- the blocks that hold a surprise

module _ (wide : Bool) (o : ℕ) (m : List ℕ) where
  pub blocks_none : (found : List ℕ) → block_pairs wide o m found 0 ≡ []
  unfolding block_pairs
  blocks_none found = refl

  pub blocks_more : (found : List ℕ) (n : ℕ) → block_pairs wide o m found (n + 1) ≡ block_pairs wide o m found n ++ pairs_from wide o m (get_or found n 0) 8
  unfolding block_pairs
  blocks_more found n = ap (block_pairs wide o m found) (add-one n)

  -- fewer blocks have no more surprises
  pub blocks_most : (found : List ℕ) (n d : ℕ) → length (block_pairs wide o m found n) ≤ length (block_pairs wide o m found (n + d))
  blocks_most found n zero = omega (arith, ap (λ (k : ℕ). length (block_pairs wide o m found k)) (add-zero n))
  blocks_most found n (suc d) =
      let e : n + suc d ≡ n + d + 1 = omega arith in
      omega (
        arith,
        blocks_most found n d,
        ap (λ (k : ℕ). length (block_pairs wide o m found k)) e,
        ap length (blocks_more found (n + d)),
        length-append (block_pairs wide o m found (n + d)) (pairs_from wide o m (get_or found (n + d) 0) 8),
      )

  pub blocks_few : (found : List ℕ) (n : ℕ) → length (block_pairs wide o m found n) ≤ 512 * n
  blocks_few found zero = omega (arith, ap length (blocks_none found))
  blocks_few found (suc n) =
      omega (
        arith,
        blocks_few found n,
        ap (λ (k : ℕ). length (block_pairs wide o m found k)) (add-one n),
        ap length (blocks_more found n),
        length-append (block_pairs wide o m found n) (pairs_from wide o m (get_or found n 0) 8),
        from_few wide o m (get_or found n 0) 8,
      )

  -- a block that is noted after the first n
  blocks_set : (found : List ℕ) (n v k : ℕ) → k ≤ n → block_pairs wide o m (set found n v) k ≡ block_pairs wide o m found k
  unfolding block_pairs
  blocks_set found n v zero h = refl
  blocks_set found n v (suc k) h =
      ap₂ (λ (l : List ℕ) (r : ℕ). l ++ pairs_from wide o m r 8) (blocks_set found n v k (omega arith)) (get_or-set_other found n k v 0 (omega arith))

  -- the first n blocks alone
  pub blocks_taken : (found : List ℕ) (n : ℕ) → n ≤ length found → block_pairs wide o m (take n found) (length (take n found)) ≡ block_pairs wide o m found n
  unfolding block_pairs
  blocks_taken found n h = ap (block_pairs wide o m (take n found)) (length-take-le n found h) ∙ go n (omega arith)
    where
      go : (k : ℕ) → k ≤ n → block_pairs wide o m (take n found) k ≡ block_pairs wide o m found k
      go zero l = refl
      go (suc k) l = ap₂ (λ (x : List ℕ) (r : ℕ). x ++ pairs_from wide o m r 8) (go k (omega arith)) (get_or-take n found k 0 (omega arith))

  pub found_start : (from : ℕ) (found : List ℕ) → Found wide o m from from found 0
  found_start from found =
      let z : from - from ≡ 0 = omega arith in
      record {
        few = omega arith;
        within = λ i h. absurd (omega arith);
        all = ap (pairs_from wide o m from) z ∙ from_none wide o m from ∙ sym (blocks_none found);
      }

  module _ (from r : ℕ) (found : List ℕ) (n : ℕ) (f : Found wide o m from r found n) (l : from ≤ r) where
    -- the rows up to the next block
    longer : pairs_from wide o m from (r + 8 - from) ≡ block_pairs wide o m (set found n r) n ++ pairs_from wide o m r 8
    longer =
        let a : r + 8 - from ≡ r - from + 8 = omega arith in
        let b : from + (r - from) ≡ r = omega arith in
        ap (pairs_from wide o m from) a ∙ from_more wide o m from (r - from) 8
        ∙ ap₂ (λ (x : List ℕ) (y : ℕ). x ++ pairs_from wide o m y 8) (f.all ∙ sym (blocks_set found n r n (omega arith))) b

    before : (i : ℕ) → i < n → get_or (set found n r) i 0 + 8 ≤ length m
    before i h = omega (arith, f.within i h, get_or-set_other found n i r 0 (omega arith))

    -- it holds none
    pub found_quiet : QuietIf 0 wide o m r (r + 8) → Found wide o m from (r + 8) (set found n r) n
    found_quiet q = record {
      few = omega (arith, f.few);
      within = before;
      all = longer ∙ ap (λ (x : List ℕ). block_pairs wide o m (set found n r) n ++ x) (from_quiet wide o m r 8 (q.none refl)) ∙ append-nil (block_pairs wide o m (set found n r) n);
    }

    -- it holds some
    pub found_hit : n < length found → r + 8 ≤ length m → Found wide o m from (r + 8) (set found n r) (n + 1)
    found_hit h g =
        let e : get_or (set found n r) n 0 ≡ r = get_or-set_same found n r 0 h in
        record {
          few = omega (arith, f.few);
          within = λ i k. ⊎_elim (λ (a : i < n). before i a) (λ (a : n ≤ i). let q : n ≡ i = omega arith in subst (λ (x : ℕ). get_or (set found n r) x 0 + 8 ≤ length m) q (omega arith)) (lt_or_le i n);
          all = longer ∙ ap (λ (x : ℕ). block_pairs wide o m (set found n r) n ++ pairs_from wide o m x 8) (sym e) ∙ sym (blocks_more (set found n r) n);
        }

    pub found_turn : (w : ℕ) → QuietIf w wide o m r (r + 8) → n < length found → r + 8 ≤ length m → Found wide o m from (r + 8) (set found n r) (n + one (not (eqb w 0)))
    found_turn w q h g = go (eqb w 0) refl
      where
        go : (b : Bool) → eqb w 0 ≡ b → Found wide o m from (r + 8) (set found n r) (n + one (not b))
        go true e = subst (λ (k : ℕ). Found wide o m from (r + 8) (set found n r) k) (sym (add-zero n)) (found_quiet (record { none = λ z. q.none (eqb-true w 0 e) }))
        go false e = found_hit h g

  -- the rows up to the end of the blocks found list what the rows before them do, and the blocks
  pub listed_found : (from to : ℕ) (found : List ℕ) (n : ℕ) → from ≤ to → Found wide o m from to found n
      → pairs_from wide o m 0 to ≡ pairs_from wide o m 0 from ++ block_pairs wide o m found n
  listed_found from to found n l f =
      let e : to ≡ from + (to - from) = omega arith in
      ap (pairs_from wide o m 0) e ∙ from_more wide o m 0 from (to - from)
      ∙ ap (λ (x : List ℕ). pairs_from wide o m 0 from ++ x) (ap (λ (r : ℕ). pairs_from wide o m r (to - from)) (zero-add from) ∙ f.all)

  -- they are among the rows
  pub taken_within : (from to : ℕ) (found : List ℕ) (n : ℕ) → n ≤ length found → Found wide o m from to found n → BlocksWithin (take n found) (length m)
  taken_within from to found n h f i l =
      let k : i < n = omega (arith, l, length-take-le n found h) in
      omega (arith, f.within i k, get_or-take n found i 0 k)
