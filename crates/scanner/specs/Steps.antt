-- What the functions that go byte by byte give: the class of a byte, and what a piece of the text reads as at a place.
-- Not part of what a reader must believe: the reader's contract speaks of scripts and their texts.
use Rattle.std.specs.Prelude.{ℕ, ◌-◌, ◌≤◌, ◌<◌, ◌≡◌, List, Bool, true, false, length, get_or}
use Rattle.std.specs.Prelude.{Result, Ok, Err}
use Rattle.text.specs.Reading.{Res, got, bad, read_at}
use Rattle.scanner.specs.declared.Class.{Class}
use Rattle.scanner.specs.declared.Class.TheVariants.{End, Digit, Bracket, Space, LineEnd, Letter, Other}
use Rattle.scanner.specs.declared.Cursor.{Cursor}
use Rattle.scanner.specs.declared.Departure.{Departure}

-- A byte from low to high stands at a place of a text.
pub record ByteAt (low high : ℕ) (s : List ℕ) (at : ℕ) : Type 0 where
  pub inside : at < length s
  pub least : low ≤ get_or s at 0
  pub most : get_or s at 0 ≤ high

-- A byte that is in none of the other classes' ranges stands there.
abbrev pub Outside : ℕ → ℕ → ℕ → Type 0
Outside low high b = low ≤ b → b ≤ high → ⊥

pub record OtherAt (s : List ℕ) (at : ℕ) : Type 0 where
  pub inside : at < length s
  pub no_digit : Outside 48 57 (get_or s at 0)
  pub no_bracket : Outside 40 41 (get_or s at 0)
  pub no_space : Outside 32 32 (get_or s at 0)
  pub no_line_end : Outside 10 10 (get_or s at 0)
  pub no_letter : Outside 97 122 (get_or s at 0)

-- What each class says of a place of a text.
abbrev pub Stands : Class → List ℕ → ℕ → Type 0
Stands End s at = length s ≤ at
Stands (Digit d) s at = ByteAt 48 57 s at × (d ≡ get_or s at 0 - 48)
Stands (Bracket b) s at = ByteAt 40 41 s at × (b ≡ get_or s at 0)
Stands Space s at = ByteAt 32 32 s at
Stands LineEnd s at = ByteAt 10 10 s at
Stands (Letter b) s at = ByteAt 97 122 s at × (b ≡ get_or s at 0)
Stands Other s at = OtherAt s at

-- An answer of the code, and the place where its cursor stands then, as a result of reading.
abbrev pub of_read : {A : Type 0} → Result A Departure → ℕ → Res A
of_read (Ok a) i = got a i
of_read (Err d) i = bad d.at

-- What reading a piece at a cursor gives: x is the cursor before, y after.
pub record Reads {A : Type 0} (p : List ℕ → Res A) (x y : Cursor) (r : Result A Departure) : Type 0 where
  pub same : y.text.now ≡ x.text.now
  pub answers : of_read r y.at ≡ read_at p x.text.now x.at

-- Where the text departs from it, the cursor stands where it stood.
abbrev pub Stays : {A : Type 0} → Cursor → Cursor → Result A Departure → Type 0
Stays x y (Ok a) = Unit {0}
Stays x y (Err d) = y.at ≡ x.at

-- Whether a piece was read.
abbrev pub taken : {A : Type 0} → Res A → Bool
taken (got a i) = true
taken (bad o) = false
