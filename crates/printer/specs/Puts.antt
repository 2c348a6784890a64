-- What a part's writer leaves. Not part of what a reader must believe: the calls' own contracts name none of it.
use Rattle.std.specs.Prelude.{ℕ, ◌+◌, ◌≤◌, ◌≡◌, List, length}
use Rattle.lists.specs.Writing.{placed, written}

-- d is the buffer as lent, d' as given back, n the number returned: how many bytes, or the place after them.
pub record Put (xs d d' : List ℕ) (n : ℕ) : Type 0 where
  pub size : n ≡ length xs
  pub is : d' ≡ placed xs d

pub record Added (at : ℕ) (xs d d' : List ℕ) (n : ℕ) : Type 0 where
  pub inside : at ≤ length d
  pub size : n ≡ at + length xs
  pub is : d' ≡ written at xs d
