-- Maps from keys to lists.
use Rattle.std.specs.Prelude.{◌≢◌, List, [], Option, Some, None, IsSome}

-- the list that a lookup found, or the empty list
abbrev pub list_of : {L V : Type 0} → (L → List V) → Option L → List V
list_of items None = []
list_of items (Some list) = items list

-- no list that a lookup finds is empty
abbrev pub AreFilled : {K L V : Type 0} → (L → List V) → (K → Option L) → Type 0
AreFilled {K} items at = (k : K) → IsSome (at k) → list_of items (at k) ≢ []
