-- Reading as a definition: what a reader of each piece, and of all of a text, gives at the front of a list of bytes. Not
-- part of what a reader must believe: what the calls promise does not speak of it, and it is the step between the
-- definitions, whose well-formed texts are just those that it accepts, and the code.
use Rattle.std.specs.Prelude.{ℕ, zero, suc, ◌+◌, ◌-◌, ◌*◌, ◌^◌, List, [], ◌∷◌, Bool, false, cond, length, drop, ltb, eqb}
use Rattle.std.proofs.Math.Option.{Option, none, some}
use Rattle.numbers.specs.Numbers.{between}
use Rattle.chips.specs.declared.Chip.{Chip}
use Rattle.chips.specs.declared.Chip.TheVariants.{Xscale, Ppc405lp}
use Rattle.text.specs.Text.{bytes, TaskLine, Clock, rates, chip, Script, chip_name, energy_count}

-- a value and how many bytes it took, or the offset of the first byte that departs
pub data Res (A : Type 0) : Type 0 where
  got : A → ℕ → Res A
  bad : ℕ → Res A

abbrev pub ext : {A : Type 0} → Res A → ℕ
ext (got a n) = n
ext (bad o) = o

-- the same, one byte or n bytes later
abbrev pub next : {A : Type 0} → Res A → Res A
next (got a n) = got a (suc n)
next (bad o) = bad (suc o)

abbrev pub later : {A : Type 0} → ℕ → Res A → Res A
later k (got a n) = got a (k + n)
later k (bad o) = bad (k + o)

abbrev pub map_res : {A B : Type 0} → (A → B) → Res A → Res B
map_res f (got a n) = got (f a) n
map_res f (bad o) = bad o

abbrev pub mapped : {A B : Type 0} → (A → B) → (List ℕ → Res A) → List ℕ → Res B
mapped f p t = map_res f (p t)

-- a piece, and then a piece that may depend on its value
abbrev pub after : {A B C : Type 0} → (A → B → C) → List ℕ → (A → List ℕ → Res B) → Res A → Res C
after mk t f (got a n) = later n (map_res (mk a) (f a (drop n t)))
after mk t f (bad o) = bad o

abbrev pub seq : {A B C : Type 0} → (A → B → C) → (List ℕ → Res A) → (A → List ℕ → Res B) → List ℕ → Res C
seq mk p f t = after mk t f (p t)

-- a fixed string
unfoldable pub literal : List ℕ → List ℕ → Res (Unit {0})
literal [] t = got tt 0
literal (c ∷ l) [] = bad 0
literal (c ∷ l) (b ∷ t) = cond (eqb b c) (next (literal l t)) (bad 0)

-- a fixed string in front of a piece, and behind it
abbrev pub skip : {B : Type 0} → List ℕ → (List ℕ → Res B) → List ℕ → Res B
skip l p = seq (λ _ b. b) (literal l) (λ _. p)

abbrev pub up_to : {A : Type 0} → (List ℕ → Res A) → List ℕ → List ℕ → Res A
up_to p l = seq (λ a _. a) p (λ _. literal l)

abbrev pub within : ℕ → ℕ → ℕ → Bool
within = between

abbrev pub is_digit : ℕ → Bool
is_digit b = within 48 57 b

-- the digits after the first, with value v so far
unfoldable pub more : ℕ → List ℕ → Res ℕ
more v [] = got v 0
more v (b ∷ t) =
    cond (is_digit b)
    (cond (ltb (v * 10 + (b - 48)) (2 ^ 32)) (next (more (v * 10 + (b - 48)) t)) (bad 0))
    (got v 0)

-- a number: 0, or digits that start with 1 to 9
unfoldable pub number : List ℕ → Res ℕ
number [] = bad 0
number (b ∷ t) = cond (eqb b 48) (got 0 1) (cond (is_digit b) (next (more (b - 48) t)) (bad 0))

abbrev pub starts : ℕ → List ℕ → Bool
starts c [] = false
starts c (b ∷ t) = eqb b c

-- a piece that starts with the byte c, or else another
abbrev pub either : {A : Type 0} → ℕ → (List ℕ → Res A) → (List ℕ → Res A) → List ℕ → Res A
either c p q t = cond (starts c t) (p t) (q t)

-- nothing, whatever stands there
abbrev pub nothing : {A : Type 0} → List ℕ → Res (List A)
nothing t = got [] 0

-- at least low and at most low + spare items, each of which starts with the byte c
unfoldable pub many : {A : Type 0} → (List ℕ → Res A) → ℕ → ℕ → ℕ → List ℕ → Res (List A)
many p c zero zero t = nothing t
many p c zero (suc k) t = either c (seq ◌∷◌ p (λ _. many p c zero k)) nothing t
many p c (suc m) k t = seq ◌∷◌ p (λ _. many p c m k) t

-- a piece that may be absent, and starts with the byte c where it is not
abbrev pub absent : {A : Type 0} → List ℕ → Res (Option A)
absent t = got none 0

abbrev pub optional : {A : Type 0} → ℕ → (List ℕ → Res A) → List ℕ → Res (Option A)
optional c p = either c (mapped some p) absent

-- a fixed string and a number
abbrev pub field : List ℕ → List ℕ → Res ℕ
field l = skip l number

-- so many numbers, each behind a space
abbrev pub numbers : ℕ → ℕ → List ℕ → Res (List ℕ)
numbers = many (field (bytes " ")) 32

abbrev pub mk_task : ℕ → ℕ × (List ℕ × Option ℕ) → TaskLine
mk_task p r = record { period = p; cycles = r.0; energies = r.1.0; first = r.1.1 }

abbrev pub mk_script : ℕ × Option ℕ → Clock × List TaskLine → Script
mk_script h r = record { slack = h.0; idle = h.1; clock = r.0; tasks = r.1 }

abbrev pub both : {A B : Type 0} → A → B → A × B
both a b = (a, b)

-- the energy form of a line that has m energies
abbrev pub read_energies : ℕ → List ℕ → Res (List ℕ)
read_energies zero = nothing
read_energies (suc m) = skip (bytes " (energy") (up_to (numbers (suc m) 0) (bytes ")"))

-- the first release behind them: a space begins it, and a bracket what ends the line
abbrev pub read_first_form : List ℕ → Res ℕ
read_first_form = up_to (field (bytes " (from ")) (bytes ")")

abbrev pub read_first : List ℕ → Res (Option ℕ)
read_first = optional 32 read_first_form

-- a task's line from behind its cycles on
abbrev pub read_ending : ℕ → List ℕ → Res (List ℕ × Option ℕ)
read_ending m = seq both (read_energies m) (λ _. up_to read_first (bytes ")\n"))

abbrev pub read_task : ℕ → List ℕ → Res TaskLine
read_task m =
    seq mk_task (field (bytes "(task (period "))
    (λ _. seq both (field (bytes ") (cycles "))
    (λ _. skip (bytes ")") (read_ending m)))

abbrev pub read_tasks : ℕ → List ℕ → Res (List TaskLine)
read_tasks m = many (read_task m) 40 1 31

-- the name of a chip: an x begins the one
abbrev pub read_name : Chip → List ℕ → Res Chip
read_name c = mapped (λ _. c) (literal (chip_name c))

abbrev pub read_chip : List ℕ → Res Chip
read_chip = either 120 (read_name Xscale) (read_name Ppc405lp)

-- the idle line from its name on, with the bracket that opens the line behind it, or none: an i begins it
abbrev pub read_idle_line : List ℕ → Res ℕ
read_idle_line = up_to (field (bytes "idle ")) (bytes ")\n(")

abbrev pub read_idle : List ℕ → Res (Option ℕ)
read_idle = optional 105 read_idle_line

-- the lines of the head
abbrev pub read_head : List ℕ → Res (ℕ × Option ℕ)
read_head = seq both (field (bytes "(slack ")) (λ _. skip (bytes ")\n(") read_idle)

-- what stands behind the head, from its name on: a c begins the chip's line
abbrev pub read_chip_line : List ℕ → Res Clock
read_chip_line = mapped chip (skip (bytes "chip ") read_chip)

abbrev pub read_rates_line : List ℕ → Res Clock
read_rates_line = mapped rates (skip (bytes "rates") (numbers 2 6))

abbrev pub read_clock : List ℕ → Res Clock
read_clock = either 99 read_chip_line read_rates_line

abbrev pub read_script : List ℕ → Res Script
read_script =
    seq mk_script read_head
    (λ _. seq both read_clock
    (λ k. skip (bytes ")\n") (read_tasks (energy_count k))))

-- all of a text: nothing may follow
abbrev pub ended : {A : Type 0} → ℕ → Res A → Res A
ended l (got a n) = cond (eqb n l) (got a n) (bad n)
ended l (bad o) = bad o

unfoldable pub read_text : List ℕ → Res Script
read_text t = ended (length t) (read_script t)

-- what a reader gives at a place of a text, with places counted from the text's start
unfoldable pub read_at : {A : Type 0} → (List ℕ → Res A) → List ℕ → ℕ → Res A
read_at p s at = later at (p (drop at s))
