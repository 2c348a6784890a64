-- The bracketed text (document 01, 'The bracketed text'; document 02, notes 2, 4 and 6): the one text of a script, which
-- texts are well formed, where another departs, and the words that a script says. A script is what stands in a text,
-- form by form; it is not yet a task set: "Ranges are not judged by the reader."
use Rattle.std.specs.Prelude.{ℕ, zero, suc, ◌+◌, ◌/◌, ◌%◌, ◌^◌, ◌≤◌, ◌<◌, ◌≡◌, List, [], ◌∷◌, ◌++◌, cond, length, take, ltb}
use Prim.Native.Char.{code}
use Prim.Native.String as Str
use Prim.Native.String.{String}
use Rattle.std.proofs.Math.Option.{Option, none, some}
use Rattle.numbers.specs.Numbers.{All, each, joined}
use Rattle.layout.specs.Words.{slack, idle, rate_count, task_count, rate, period, cycles, first, energy}
use Rattle.layout.specs.declared.Layout.TheVariants.{Ordinary}
use Rattle.chips.specs.Chips.{chip_rates, chip_energies, chip_idle}
use Rattle.chips.specs.declared.Chip.{Chip}
use Rattle.chips.specs.declared.Chip.TheVariants.{Xscale, Ppc405lp}

-- A task's line, and a whole text: "The order is slack, rates, then 1 to 32 tasks", where "a line `(chip xscale)` or
-- `(chip ppc405lp)` replaces the rates line" and "A line `(idle H)` may follow the slack line". A task's line under a
-- chip has no energies, and "Each task may end with `(from A)`".
pub record TaskLine : Type 0 where
  pub period : ℕ
  pub cycles : ℕ
  pub energies : List ℕ
  pub first : Option ℕ

pub data Clock : Type 0 where
  rates : List ℕ → Clock
  chip : Chip → Clock

pub record Script : Type 0 where
  pub slack : ℕ
  pub idle : Option ℕ
  pub clock : Clock
  pub tasks : List TaskLine

-- THE TEXT OF A SCRIPT. "Forms stand one a line, each line ended by byte 10, one space between items, exactly as in the
-- first example."

-- The bytes of a string of ASCII characters.
abbrev pub bytes : String → List ℕ
bytes Str.[] = []
bytes (Str.◌∷◌ c s) = code c ∷ bytes s

-- "A number is 0 or starts with 1 to 9": the decimal digits of n, highest first, at most k of them; twenty are enough
-- for a number of 64 bits, and so for every number that a text or an answer has.
unfoldable pub digits : ℕ → ℕ → List ℕ
digits zero n = []
digits (suc k) n = cond (ltb n 10) ((48 + n) ∷ []) (digits k (n / 10) ++ ((48 + n % 10) ∷ []))

unfoldable pub decimal : ℕ → List ℕ
decimal n = digits 20 n

-- A space and a number.
abbrev pub spaced : ℕ → List ℕ
spaced v = bytes " " ++ decimal v

-- "and task lines then omit the energy form": a line without energies has none.
abbrev pub energy_text : List ℕ → List ℕ
energy_text [] = []
energy_text (e ∷ es) = bytes " (energy" ++ (joined spaced (e ∷ es) ++ bytes ")")

-- "Each task may end with `(from A)`"
abbrev pub first_text : Option ℕ → List ℕ
first_text none = []
first_text (some a) = bytes " (from " ++ (decimal a ++ bytes ")")

abbrev pub task_text : TaskLine → List ℕ
task_text t =
    bytes "(task (period " ++ (decimal t.period ++ (bytes ") (cycles " ++ (decimal t.cycles ++
    (bytes ")" ++ (energy_text t.energies ++ (first_text t.first ++ bytes ")\n"))))))

-- "`(chip xscale)` or `(chip ppc405lp)`"
abbrev pub chip_name : Chip → List ℕ
chip_name Xscale = bytes "xscale"
chip_name Ppc405lp = bytes "ppc405lp"

abbrev pub clock_text : Clock → List ℕ
clock_text (rates fs) = bytes "rates" ++ joined spaced fs
clock_text (chip c) = bytes "chip " ++ chip_name c

-- "A line `(idle H)` may follow the slack line": with the bracket that opens the line behind it, as the slack's line
-- has its own, since the letter behind a bracket tells the lines apart.
abbrev pub idle_text : Option ℕ → List ℕ
idle_text none = []
idle_text (some h) = bytes "idle " ++ (decimal h ++ bytes ")\n(")

abbrev pub script_text : Script → List ℕ
script_text s =
    bytes "(slack " ++ (decimal s.slack ++ (bytes ")\n(" ++ (idle_text s.idle ++ (clock_text s.clock ++
    (bytes ")\n" ++ joined task_text s.tasks)))))

-- WELL-FORMED TEXTS.

-- "and is at most 4,294,967,295"
abbrev pub Word : ℕ → Type 0
Word v = v < 2 ^ 32

-- A list of low to high items, each with P.
pub record Between {A : Type 0} (P : A → Type 0) (low high : ℕ) (xs : List A) : Type 0 where
  pub least : low ≤ length xs
  pub most : length xs ≤ high
  pub each : All P xs

-- "Ranges are not judged by the reader": H and A may be any number, or absent.
abbrev pub MaybeWord : Option ℕ → Type 0
MaybeWord none = Unit {0}
MaybeWord (some v) = Word v

-- "Rates number 2 to 8, and each task has as many energies as there are rates": under a chip, none.
abbrev pub ClockOk : Clock → Type 0
ClockOk (rates fs) = Between Word 2 8 fs
ClockOk (chip c) = Unit {0}

abbrev pub energy_count : Clock → ℕ
energy_count (rates fs) = length fs
energy_count (chip c) = 0

pub record TaskLineOk (m : ℕ) (t : TaskLine) : Type 0 where
  pub period : Word t.period
  pub cycles : Word t.cycles
  pub energies : Between Word m m t.energies
  pub first : MaybeWord t.first

pub record ScriptOk (s : Script) : Type 0 where
  pub slack : Word s.slack
  pub idle : MaybeWord s.idle
  pub clock : ClockOk s.clock
  pub tasks : Between (TaskLineOk (energy_count s.clock)) 1 32 s.tasks

-- t is the text of the script s.
pub record IsTextOf (s : Script) (t : List ℕ) : Type 0 where
  pub script : ScriptOk s
  pub text : script_text s ≡ t

abbrev pub WellFormed : List ℕ → Type 0
WellFormed t = (s : Script) × IsTextOf s t

-- 1: "offset of the first byte such that no well-formed text begins with the bytes up to and including it; the text's
-- length if it ends early"
pub record FirstBad (Form : List ℕ → Type 0) (t : List ℕ) (o : ℕ) : Type 0 where
  pub within : o ≤ length t
  pub before : (rest : List ℕ) × Form (take o t ++ rest)
  pub departs : o < length t → (rest : List ℕ) → Form (take (suc o) t ++ rest) → ⊥
  pub early : o ≡ length t → Form t → ⊥

-- THE WORDS OF A SCRIPT: "the slack G ..; the rate count M ..; M rates ..; the task count N ..; then for each task the
-- period p .., the cycles c .., and M energies": the words of the ordinary list's head, and of what it has between a
-- task's cycles and its energies, stand by themselves.

-- H is "0 if the line is absent. Chips bring H of their own unless the line is given".
abbrev pub idle_of : Option ℕ → Clock → ℕ
idle_of (some h) k = h
idle_of none (rates fs) = 0
idle_of none (chip c) = chip_idle c

-- "the set list gains H as a word after the slack"
abbrev pub head_words : Script → List ℕ
head_words s = s.slack ∷ idle_of s.idle s.clock ∷ []

-- A is "0 if absent"; "the task record gains A after the cycles"
abbrev pub first_of : Option ℕ → ℕ
first_of none = 0
first_of (some a) = a

abbrev pub extra_words : TaskLine → List ℕ
extra_words t = first_of t.first ∷ []

-- "Reading gives the ordinary list, expanded": the rates and a task's energies, as they stand in the text or as the
-- chip has them.
abbrev pub rates_of : Clock → List ℕ
rates_of (rates fs) = fs
rates_of (chip c) = chip_rates c

abbrev pub energies_of : Clock → TaskLine → List ℕ
energies_of (rates fs) t = t.energies
energies_of (chip c) t = chip_energies c t.cycles

abbrev pub task_words : Clock → TaskLine → List ℕ
task_words k t = t.period ∷ t.cycles ∷ (extra_words t ++ energies_of k t)

unfoldable pub words : Script → List ℕ
words s =
    head_words s ++ (length (rates_of s.clock) ∷ (rates_of s.clock ++
    length s.tasks ∷ joined (task_words s.clock) s.tasks))

-- THE SCRIPT OF A LIST OF WORDS: what the writer writes. Every number in its own place, as the list has it: "the writer
-- writes that list in the old form."
abbrev pub list_rates : List ℕ → List ℕ
list_rates s = each (rate Ordinary s) 1 (rate_count Ordinary s)

-- "The writer writes the line only if H is above 0", and of A, "written only if above 0".
abbrev pub shown : ℕ → Option ℕ
shown zero = none
shown (suc v) = some (suc v)

abbrev pub line_of : List ℕ → ℕ → TaskLine
line_of s t = record {
  period = period Ordinary s t;
  cycles = cycles Ordinary s t;
  energies = each (energy Ordinary s t) 1 (rate_count Ordinary s);
  first = shown (first Ordinary s t);
}

unfoldable pub script_of : List ℕ → Script
script_of s = record {
  slack = slack s;
  idle = shown (idle s);
  clock = rates (list_rates s);
  tasks = each (line_of s) 0 (task_count Ordinary s);
}
