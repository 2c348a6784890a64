-- Writing to the front of a list, and from a place on. Not part of what a reader must believe.
use Rattle.std.specs.Prelude.{ℕ, ◌≤◌, ◌≡◌, List, ◌++◌, length, take, drop}

-- xs at the front of d, and what lies after stays.
unfoldable pub placed : List ℕ → List ℕ → List ℕ
placed xs d = xs ++ drop (length xs) d

-- xs from a place of d on, and all else stays.
unfoldable pub written : ℕ → List ℕ → List ℕ → List ℕ
written at xs d = take at d ++ placed xs (drop at d)

-- Calls at 1, 2 and so on, n of them, give word 1, word 2 and so on: `post j r` says that the one at j may give r.
abbrev pub Gives : (post : ℕ → ℕ → Type 0) (word : ℕ → ℕ) → ℕ → Type 0
Gives post word n = (j r : ℕ) → 1 ≤ j → j ≤ n → post j r → r ≡ word j
