-- No second outcome satisfies what the public calls promise. Assumes nothing.
use mathlib.Core.Path.{◌≡◌, sym, ap, ap₂, ◌∙◌}
use mathlib.Core.List.{List}
use Prim.Native.Nat.{ℕ}
use Rattle.std.specs.Prelude.{Result, ⊤}
use Rattle.refusals.specs.Told.{told_plain, told_number}
use Rattle.refusals.specs.declared.Refusal.{Refusal}
use Rattle.refusals.proofs.Only.{told_by_once, plain_once, number_once}
use Rattle.numbers.specs.declared.Flavor.{Flavor}
use Rattle.numbers.proofs.Only.{flavor_number_once}
use Rattle.matrices.specs.Calls.{count_of, split_of, split_window, split_pairs, expand_of, expanded_matrix, new_union_of, new_matrix, merge_of, merged_matrix}
use Rattle.unions.specs.Told.{told_split, told_union}
use Rattle.unions.specs.declared.Summary.{Summary}
use Rattle.unions.specs.declared.CpcUnion.{CpcUnion}

summary_once : (s t : Summary) → s.coupons ≡ t.coupons → s.flavor ≡ t.flavor → s.offset ≡ t.offset → s.column ≡ t.column → s.pairs ≡ t.pairs → s ≡ t
summary_once s t c f o d p =
    ap₂ (λ (x : ℕ) (y : Flavor). record { coupons = x; flavor = y; offset = s.offset; column = s.column; pairs = s.pairs }) c f
    ∙ ap₂ (λ (x y : ℕ). record { coupons = t.coupons; flavor = t.flavor; offset = x; column = y; pairs = s.pairs }) o d
    ∙ ap (λ (x : ℕ). record { coupons = t.coupons; flavor = t.flavor; offset = t.offset; column = t.column; pairs = x }) p

made_once : (s t : CpcUnion) → s.lg ≡ t.lg → s.present ≡ t.present → s.seed ≡ t.seed → s ≡ t
made_once s t l p q =
    ap₂ (λ (x y : ℕ). record { lg = x; present = y; seed = s.seed }) l p ∙ ap (λ (x : ℕ). record { lg = t.lg; present = t.present; seed = x }) q

-- what an answer is told as decides the answer
pub split_once : (a b : Result Summary Refusal) → told_split a ≡ told_split b → a ≡ b
split_once = told_by_once _ (λ s t e. summary_once s t (cc) (flavor_number_once s.flavor t.flavor (cc)) (cc) (cc) (cc))

pub union_once : (a b : Result CpcUnion Refusal) → told_union a ≡ told_union b → a ≡ b
union_once = told_by_once _ (λ s t e. made_once s t (cc) (cc) (cc))

pub one_count : (lg : ℕ) (m : List ℕ) (a b : Result ℕ Refusal) → told_number a ≡ count_of lg m → told_number b ≡ count_of lg m → a ≡ b
one_count lg m a b x y = number_once a b (x ∙ sym y)

pub one_split : (lg : ℕ) (m window out w v o p : List ℕ) (a b : Result Summary Refusal)
    → (told_split a ≡ split_of lg m window out) × (w ≡ split_window lg m window out) × (o ≡ split_pairs lg m window out)
    → (told_split b ≡ split_of lg m window out) × (v ≡ split_window lg m window out) × (p ≡ split_pairs lg m window out) → (a ≡ b) × (w ≡ v) × (o ≡ p)
one_split lg m window out w v o p a b x y = (split_once a b (x.0 ∙ sym y.0), x.1 ∙ sym y.1, x.2 ∙ sym y.2)

pub one_expansion : (lg c : ℕ) (window ps m n o : List ℕ) (a b : Result ⊤ Refusal)
    → (told_plain a ≡ expand_of lg c window ps m) × (n ≡ expanded_matrix lg c window ps m)
    → (told_plain b ≡ expand_of lg c window ps m) × (o ≡ expanded_matrix lg c window ps m) → (a ≡ b) × (n ≡ o)
one_expansion lg c window ps m n o a b x y = (plain_once a b (x.0 ∙ sym y.0), x.1 ∙ sym y.1)

pub one_new_union : (lg seed : ℕ) (m n o : List ℕ) (a b : Result CpcUnion Refusal)
    → (told_union a ≡ new_union_of lg seed m) × (n ≡ new_matrix lg seed m)
    → (told_union b ≡ new_union_of lg seed m) × (o ≡ new_matrix lg seed m) → (a ≡ b) × (n ≡ o)
one_new_union lg seed m n o a b x y = (union_once a b (x.0 ∙ sym y.0), x.1 ∙ sym y.1)

pub one_merge : (lg present seed : ℕ) (m : List ℕ) (from other c : ℕ) (window ps n o : List ℕ) (a b : Result CpcUnion Refusal)
    → (told_union a ≡ merge_of lg present seed m from other c window ps) × (n ≡ merged_matrix lg present seed m from other c window ps)
    → (told_union b ≡ merge_of lg present seed m from other c window ps) × (o ≡ merged_matrix lg present seed m from other c window ps) → (a ≡ b) × (n ≡ o)
one_merge lg present seed m from other c window ps n o a b x y = (union_once a b (x.0 ∙ sym y.0), x.1 ∙ sym y.1)
