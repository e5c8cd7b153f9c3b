-- What an exported call hands back: a result, and eight numbers. Assumes nothing.
use Rattle.std.specs.Prelude.{◌≡◌, List, [], ◌∷◌, not, ℕ, zero, suc, eqb, length}
use Rattle.laws.specs.Choose.{choose}
use Rattle.refusals.specs.Outcome.{Outcome, accepted, refused, stopped, if_accepted}

-- the result: 0 if the call is accepted, else the refusal's number
abbrev pub result_of : Outcome → ℕ
result_of (accepted values) = 0
result_of (refused number place) = number
result_of (stopped number place bit) = number

-- so many values, with zeros after the last
abbrev pub padded : ℕ → List ℕ → List ℕ
padded zero values = []
padded (suc n) [] = 0 ∷ padded n []
padded (suc n) (value ∷ values) = value ∷ padded n values

-- the eight numbers: place, bit, and the values of an accepted call
abbrev pub answer_of : Outcome → List ℕ
answer_of (accepted values) = 0 ∷ 0 ∷ padded 6 values
answer_of (refused number place) = place ∷ 0 ∷ padded 6 []
answer_of (stopped number place bit) = place ∷ bit ∷ padded 6 []

-- result and answer say this outcome
abbrev pub Says : Outcome → ℕ → List ℕ → Type 0
Says outcome result answer = (result ≡ result_of outcome) × (answer ≡ answer_of outcome)

-- a fixed list is handed out into lent memory of just its length, else 2
unfoldable pub hand_out_of : List ℕ → List ℕ → Outcome
hand_out_of list out = choose (not (eqb (length out) (length list))) (refused 2 0) (accepted [])

abbrev pub handed_out : List ℕ → List ℕ → List ℕ
handed_out list out = if_accepted (hand_out_of list out) list out
