-- What the program's functions promise: how many bytes a read or a write moves, and what stands in the output.
use Rattle.std.specs.Prelude.{ℕ, ◌≤◌, ◌<◌, List, length, take, Option, Result, Ok, Err}
use Rattle.std.specs.Io.KnownBytes.{Keeps, Appends, Consumes, IsAtEnd}
use Rattle.answer.specs.Answer.{Prints, Owes}
use Rattle.seedspell.specs.declared.output.CutShort.{CutShort}

-- "reads at most 8,192 bytes": they are the first n of the list d.
abbrev pub InputFits : {E : Type 0} → List ℕ → Result ℕ E → Type 0
InputFits d (Ok n) = (n ≤ 8192) × (n ≤ length d)
InputFits d (Err e) = Unit {0}

-- They are the first bytes that the reader had left, in order and without a gap, and all of them unless there are 8,192.
-- Also of an input that cannot be read fewer than 8,192 bytes have been taken.
abbrev pub InputTaken : {E : Type 0} → Option (List ℕ) → Option (List ℕ) → List ℕ → Result ℕ E → Type 0
InputTaken old new d (Ok n) = Consumes old new (take n d) × (n < 8192 → IsAtEnd new)
InputTaken old new d (Err e) = (n : ℕ) × (n < 8192) × Consumes old new (take n d)

-- What is written of d: all of it, or less.
abbrev pub OutputFits : List ℕ → Result (Unit {0}) CutShort → Type 0
OutputFits d (Ok u) = Unit {0}
OutputFits d (Err e) = e.0 < length d

-- It is the first bytes of d, in order and without a gap.
abbrev pub OutputPut : Option (List ℕ) → Option (List ℕ) → List ℕ → Result (Unit {0}) CutShort → Type 0
OutputPut old new d (Ok u) = Appends old new d
OutputPut old new d (Err e) = Appends old new (take e.0 d)

-- THE ANSWER. The first r bytes of d are what the program is to print for the text t, with what that output owes.
pub record Answered (t d : List ℕ) (r : ℕ) : Type 0 where
  pub within : r ≤ length d
  pub prints : Prints t (take r d)
  pub owes : Owes prints

-- What a writer holds has grown by the first bytes of d: all of them, some or none.
abbrev pub Begins : Option (List ℕ) → Option (List ℕ) → List ℕ → Type 0
Begins old new d = (n : ℕ) × (n ≤ length d) × Appends old new (take n d)

-- THE PLANNING OF A TEXT t. Its answer goes to standard output, which held o and holds o': all of it, and nothing is
-- said on standard error, which held e and holds e'; or less of it, and the complaint is offered there.
pub data Plans (t : List ℕ) (o o' e e' : Option (List ℕ)) (complaint : List ℕ) : Type 0 where
  whole : (out : List ℕ) (p : Prints t out) → Owes p → Appends o o' out → Keeps e e' → Plans t o o' e e' complaint
  part : (out : List ℕ) (p : Prints t out) → Owes p → (n : ℕ) → n < length out → Appends o o' (take n out)
      → Begins e e' complaint → Plans t o o' e e' complaint

-- t is what is planned of an input: the bytes that the reader had left, all of them, or the first 8,192.
pub record IsPlanned (i i' : Option (List ℕ)) (t : List ℕ) : Type 0 where
  pub taken : Consumes i i' t
  pub most : length t ≤ 8192
  pub ended : length t < 8192 → IsAtEnd i'

-- A RUN. The input is read, of which i was left before and i' is left after, and its text planned; or it cannot be read:
-- then nothing goes to standard output, and the complaint is offered to standard error.
pub data Runs (i i' o o' e e' : Option (List ℕ)) (unreadable unwritable : List ℕ) : Type 0 where
  planned : (t : List ℕ) → IsPlanned i i' t → Plans t o o' e e' unwritable → Runs i i' o o' e e' unreadable unwritable
  unread : (t : List ℕ) → Consumes i i' t → length t < 8192 → Keeps o o' → Begins e e' unreadable
      → Runs i i' o o' e e' unreadable unwritable

-- WHAT A RUN COMES TO. The input x has its answer printed, however long it is; or it cannot be read.
pub data Answers (x : List ℕ) (o o' e e' : Option (List ℕ)) (unreadable unwritable : List ℕ) : Type 0 where
  answered : Plans x o o' e e' unwritable → Answers x o o' e e' unreadable unwritable
  silent : Keeps o o' → Begins e e' unreadable → Answers x o o' e e' unreadable unwritable
