-- What the functions that put bytes give. Not part of what a reader must believe.
use Rattle.std.specs.Prelude.{ℕ, ◌+◌, ◌^◌, ◌<◌, ◌≤◌, ◌≡◌, List, [], ◌∷◌, ◌++◌, length, take, drop, Result, Ok, Err}
use Rattle.taskset.specs.Refusals.{second}
use Rattle.taskset.specs.Calls.{code}
use Rattle.entries.specs.Entry.{bytes_of, result_bytes}
use Rattle.taskset.specs.declared.Refusal.{Refusal}
use Rattle.taskset.specs.declared.Refusal.TheVariants.{TooShort}

-- The list d with xs in place of the words from `at` on.
unfoldable pub placed : ℕ → List ℕ → List ℕ → List ℕ
placed at xs d = take at d ++ (xs ++ drop (at + length xs) d)

-- The eight bytes of v stand at a place, and all else as before.
pub record Placed (at v : ℕ) (d d' : List ℕ) : Type 0 where
  pub bytes : d' ≡ placed at (bytes_of 8 v) d
  pub size : length d' ≡ length d

-- WHAT AN ENTRY ANSWERS, before it is left in the lent bytes: four values, or a refusal.
abbrev pub EntryAnswer : Type 0
EntryAnswer = Result (ℕ × ℕ × ℕ × ℕ) Refusal

-- It can be left in size bytes.
abbrev pub Leavable : ℕ → EntryAnswer → Type 0
Leavable size (Ok values) = 32 ≤ size
Leavable size (Err r) = second r < 2 ^ 32

-- Left in the bytes d, which are d' then, it returns x.
abbrev pub Left : EntryAnswer → (d d' : List ℕ) → ℕ → Type 0
Left (Ok values) d d' x = (x ≡ 0) × (d' ≡ result_bytes (values.0 ∷ values.1 ∷ values.2 ∷ values.3 ∷ []) ++ drop 32 d)
Left (Err r) d d' x = (x ≡ code r) × (d' ≡ d)

-- Whatever size bytes it is left in, it gives what the entry gives.
pub record Answers (Entry : (d d' : List ℕ) → ℕ → Type 0) (size : ℕ) (a : EntryAnswer) : Type 0 where
  pub fits : Leavable size a
  pub gives : (d d' : List ℕ) (x : ℕ) → length d ≡ size → Left a d d' x → Entry d d' x

-- Whether size bytes are enough for four values.
abbrev pub EnoughAfter : ℕ → Result Unit Refusal → Type 0
EnoughAfter size (Ok u) = 32 ≤ size
EnoughAfter size (Err r) = (r ≡ TooShort 32) × (size < 32)
