-- Vectors of eight words, a lane for each of eight messages.
use Rattle.std.specs.Prelude.{◌≡◌, ℕ, ◌-◌, ◌*◌, List, [], ◌∷◌, ◌++◌, length, take, drop, replicate, map, get_or, slice_index}
use Rattle.std.specs.Borrow.{Bor}
use Rattle.sha2.specs.Sha256.{padded_message}

-- the vector whose lane i is f i
abbrev pub of_lanes : (ℕ → ℕ) → List ℕ
of_lanes f = f 0 ∷ f 1 ∷ f 2 ∷ f 3 ∷ f 4 ∷ f 5 ∷ f 6 ∷ f 7 ∷ []

-- this is a vector of eight lanes
abbrev pub IsVector : List ℕ → Type 0
IsVector x = x ≡ of_lanes (slice_index x)

-- eight vectors, whose lanes i are the words s i
abbrev pub vectors : (ℕ → List ℕ) → List (List ℕ)
vectors s =
    of_lanes (λ i. slice_index (s i) 0) ∷ of_lanes (λ i. slice_index (s i) 1)
    ∷ of_lanes (λ i. slice_index (s i) 2) ∷ of_lanes (λ i. slice_index (s i) 3)
    ∷ of_lanes (λ i. slice_index (s i) 4) ∷ of_lanes (λ i. slice_index (s i) 5)
    ∷ of_lanes (λ i. slice_index (s i) 6) ∷ of_lanes (λ i. slice_index (s i) 7) ∷ []

-- the words of lane i
abbrev pub lane : List (List ℕ) → ℕ → List ℕ
lane v i = map (λ x. slice_index x i) v

-- these are eight vectors
abbrev pub IsLanes : List (List ℕ) → Type 0
IsLanes v = v ≡ vectors (lane v)

-- list i of a list of lists
abbrev pub row : List (List ℕ) → ℕ → List ℕ
row lists i = get_or lists i []

-- the bytes of each slice
abbrev pub contents : List (Bor (List ℕ)) → List (List ℕ)
contents messages = map (λ message. message.now) messages

-- block k of the padded message, or zeros after its end
unfoldable pub block_at : List ℕ → ℕ → List ℕ
block_at m k = take 64 (drop (k * 64) (padded_message m)) ++ replicate (64 - (length (padded_message m) - k * 64)) 0
