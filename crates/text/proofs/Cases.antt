-- The cases of the bracketed text, worked in the documents or beside them, proved of the definitions: document 01's
-- example, a text for each chip, idle lines, first releases, both sides of refusal 9, and where texts depart.
-- Assumes nothing.
use Prim.Native.Nat.{ℕ, ◌-◌, ◌^◌, ◌≤◌, ◌<◌}
use mathlib.Core.Path.{◌≡◌, refl, ap, ◌∙◌, subst}
use mathlib.Core.List.{List, [], ◌∷◌, ◌++◌}
use mathlib.Core.Bool.{true}
use mathlib.Core.Option.{Option, none, some}
use mathlib.Core.Logic.{inl, inr, ⊎_elim}
use native.Mathlib.Omega.{arith}
use native.Mathlib.Bridge.{le_by_compare, IsLe}
use lib.ListN.{length, get_or, replicate}
use lib.Dec.{leb}
use borrow.Author.Tests.{leb-true}
use Rattle.numbers.specs.Numbers.{each, joined}
use Rattle.numbers.proofs.Lists.{each-length, each_at, every, every_at}
use Rattle.numbers.proofs.Search.{seek}
use Rattle.numbers.proofs.Tests.{lt_or_le}
use Rattle.layout.specs.Words.{head_kinds, extra_kinds, kind_in, head_kind, task_kind, kind_at, allows, most_energy, energy}
use Rattle.layout.specs.declared.Layout.TheVariants.{Ordinary}
use Rattle.chips.specs.Chips.{megahertz, milliwatts, chip_rates, chip_energies, idle_figures}
use Rattle.chips.specs.declared.Chip.{Chip}
use Rattle.chips.specs.declared.Chip.TheVariants.{Xscale, Ppc405lp}
use Rattle.taskset.specs.Refusals.{Accepts, Refuses, word_checks, room_check}
use Rattle.taskset.specs.Calls.{CountsAfter}
use Rattle.taskset.proofs.Checks.{accepts_next}
use Rattle.taskset.proofs.Verdict.{is_bad, is_fall, shape_of, shape_answers}
use Rattle.taskset.proofs.Cases.{S_from, chip_set, slow_or_fast}
use Rattle.text.specs.Text.{TaskLine, Clock, rates, chip, Script, bytes, digits, decimal, script_text, TaskLineOk, ScriptOk, IsTextOf}
use Rattle.text.specs.Text.{WellFormed, FirstBad, rates_of, head_words, words, script_of}
use Rattle.text.specs.Calls.{WorksOut, HasOver, reader_checks, writer_checks}
use Rattle.text.specs.Reading.{literal, more, number, many, read_text}
use Rattle.text.proofs.Pieces.{no_first_bad}
use Rattle.text.proofs.Copies.{is_read, is_refused, NoneOver, takes}
use Rattle.taskset.specs.Answers.{ok_counts}

-- Document 01's input of the program is the text of "the set list S", and says the words of S.
abbrev S : List ℕ
S = 100 ∷ 0 ∷ 3 ∷ 2 ∷ 4 ∷ 8 ∷ 2 ∷ 10 ∷ 12 ∷ 0 ∷ 4 ∷ 9 ∷ 20 ∷ 15 ∷ 20 ∷ 0 ∷ 7 ∷ 15 ∷ 30 ∷ []

unfoldable pub example : List ℕ
example = bytes "(slack 100)\n(rates 2 4 8)\n(task (period 10) (cycles 12) (energy 4 9 20))\n(task (period 15) (cycles 20) (energy 7 15 30))\n"

pub example_text : IsTextOf (script_of S) example
unfolding example read_text number more literal many script_of head_kinds extra_kinds
example_text = (is_read (script_of S) example (length example) refl).0

pub example-words : words (script_of S) ≡ S
unfolding words script_of head_kinds extra_kinds
example-words = refl

-- The same with a first release.
unfoldable pub example_from : List ℕ
example_from = bytes "(slack 100)\n(rates 2 4 8)\n(task (period 10) (cycles 12) (energy 4 9 20))\n(task (period 15) (cycles 20) (energy 7 15 30) (from 7))\n"

pub from_text : IsTextOf (script_of (S_from 0 7)) example_from
unfolding example_from S_from read_text number more literal many script_of head_kinds extra_kinds
from_text = (is_read (script_of (S_from 0 7)) example_from (length example_from) refl).0

pub from_words : words (script_of (S_from 0 7)) ≡ S_from 0 7
unfolding words S_from script_of head_kinds extra_kinds
from_words = refl

-- A text with an idle line, where the energy at the slower rate is e.
unfoldable pub idle_910 : List ℕ
idle_910 = bytes "(slack 100)\n(idle 10)\n(rates 1 9)\n(task (period 100) (cycles 90) (energy 910 200))\n"

unfoldable pub idle_899 : List ℕ
idle_899 = bytes "(slack 100)\n(idle 10)\n(rates 1 9)\n(task (period 100) (cycles 90) (energy 899 200))\n"

pub record IdleLine (e : ℕ) (t : List ℕ) : Type 0 where
  pub text : IsTextOf (script_of (slow_or_fast 10 e)) t
  pub words_are : words (script_of (slow_or_fast 10 e)) ≡ slow_or_fast 10 e

pub idle-line_910 : IdleLine 910 idle_910
unfolding idle_910 slow_or_fast read_text number more literal many words script_of head_kinds extra_kinds
idle-line_910 = record { text = (is_read (script_of (slow_or_fast 10 910)) idle_910 (length idle_910) refl).0; words_are = refl }

pub idle-line_899 : IdleLine 899 idle_899
unfolding idle_899 slow_or_fast read_text number more literal many words script_of head_kinds extra_kinds
idle-line_899 = record { text = (is_read (script_of (slow_or_fast 10 899)) idle_899 (length idle_899) refl).0; words_are = refl }

-- "10, .. never by walk or writer": the writer takes the second list, which the planner refuses with 10.
shape_899 : shape_of Ordinary (slow_or_fast 10 899) ≡ ok_counts 2 1
unfolding slow_or_fast shape_of is_bad is_fall head_kinds extra_kinds kind_in kind_at head_kind task_kind allows seek
shape_899 = refl

pub not_by_writer : (lent : ℕ) → length idle_899 ≤ lent → Accepts (writer_checks (slow_or_fast 10 899) lent)
not_by_writer lent room =
    let s = slow_or_fast 10 899 in
    let passes = (subst (CountsAfter (word_checks Ordinary s) Ordinary s) shape_899 (shape_answers Ordinary s)).0 in
    accepts_next (word_checks Ordinary s) (room_check (length (script_text (script_of s))) lent) passes
    (λ k h. omega (arith, h.0, ap length idle-line_899.text.text))

-- A text for each chip, and the words that it says: at 33 MHz a million cycles take 31 ticks, the last not all used.
unfoldable pub xscale : List ℕ
xscale = bytes "(slack 100)\n(chip xscale)\n(task (period 10) (cycles 1500000))\n(task (period 20) (cycles 3000000))\n"

abbrev pub xscale_words : List ℕ
xscale_words =
    100 ∷ 40 ∷ 5 ∷ 150000 ∷ 400000 ∷ 600000 ∷ 800000 ∷ 1000000 ∷ 2 ∷ 10 ∷ 1500000 ∷ 0 ∷ 800 ∷ 680 ∷ 1200 ∷ 1800 ∷ 3200 ∷ 20 ∷ 3000000 ∷
    0 ∷ 1600 ∷ 1360 ∷ 2000 ∷ 3600 ∷ 4800 ∷ []

unfoldable pub ppc405lp : List ℕ
ppc405lp = bytes "(slack 500)\n(chip ppc405lp)\n(task (period 40) (cycles 1000000))\n(task (period 20) (cycles 500000))\n"

-- A task's line under a chip, and a script of two, without an idle line.
abbrev chip_line : ℕ → ℕ → TaskLine
chip_line p c = record { period = p; cycles = c; energies = []; first = none }

abbrev pub under_chip : ℕ → Chip → ℕ → ℕ → ℕ → ℕ → Script
under_chip g c p₁ c₁ p₂ c₂ = record {
  slack = g;
  idle = none;
  clock = chip c;
  tasks = chip_line p₁ c₁ ∷ chip_line p₂ c₂ ∷ [];
}

pub record Chips : Type 0 where
  pub xscale_text : IsTextOf (under_chip 100 Xscale 10 1500000 20 3000000) xscale
  pub xscale_words_lem : words (under_chip 100 Xscale 10 1500000 20 3000000) ≡ xscale_words
  pub ppc405lp_text : IsTextOf (under_chip 500 Ppc405lp 40 1000000 20 500000) ppc405lp
  pub ppc405lp_words : words (under_chip 500 Ppc405lp 40 1000000 20 500000) ≡ chip_set

pub chips : Chips
unfolding xscale ppc405lp chip_set read_text number more literal many words chip_rates chip_energies megahertz milliwatts idle_figures
chips = record {
  xscale_text = (is_read (under_chip 100 Xscale 10 1500000 20 3000000) xscale (length xscale) refl).0;
  xscale_words_lem = refl;
  ppc405lp_text = (is_read (under_chip 500 Ppc405lp 40 1000000 20 500000) ppc405lp (length ppc405lp) refl).0;
  ppc405lp_words = refl;
}

-- Idle energies: "Chips bring H of their own unless the line is given", also where it says 0. Of a line of rates, a line
-- that says 0 says what none says. Its range is not judged: a number over 1,000 is read.
abbrev one_task_from : Option ℕ → Option ℕ → Clock → List ℕ → Script
one_task_from a o k es = record { slack = 5; idle = o; clock = k; tasks = record { period = 7; cycles = 9; energies = es; first = a } ∷ [] }

abbrev one_task : Option ℕ → Clock → List ℕ → Script
one_task = one_task_from none

pub record Idles : Type 0 where
  pub given_0 : IsTextOf (one_task (some 0) (chip Xscale) []) (bytes "(slack 5)\n(idle 0)\n(chip xscale)\n(task (period 7) (cycles 9))\n")
  pub given_0_word : head_words (one_task (some 0) (chip Xscale) []) ≡ 5 ∷ 0 ∷ []
  pub given : IsTextOf (one_task (some 1001) (chip Ppc405lp) []) (bytes "(slack 5)\n(idle 1001)\n(chip ppc405lp)\n(task (period 7) (cycles 9))\n")
  pub given_word : head_words (one_task (some 1001) (chip Ppc405lp) []) ≡ 5 ∷ 1001 ∷ []
  pub xscale_word : head_words (one_task none (chip Xscale) []) ≡ 5 ∷ 40 ∷ []
  pub ppc405lp_word : head_words (one_task none (chip Ppc405lp) []) ≡ 5 ∷ 12 ∷ []
  pub rates_0 : IsTextOf (one_task (some 0) (rates (1 ∷ 2 ∷ [])) (3 ∷ 4 ∷ []))
      (bytes "(slack 5)\n(idle 0)\n(rates 1 2)\n(task (period 7) (cycles 9) (energy 3 4))\n")
  pub rates_0_words : words (one_task (some 0) (rates (1 ∷ 2 ∷ [])) (3 ∷ 4 ∷ [])) ≡ words (one_task none (rates (1 ∷ 2 ∷ [])) (3 ∷ 4 ∷ []))

pub idles : Idles
unfolding read_text number more literal many words idle_figures
idles = record {
  given_0 = (is_read (one_task (some 0) (chip Xscale) []) _ 62 refl).0;
  given_0_word = refl;
  given = (is_read (one_task (some 1001) (chip Ppc405lp) []) _ 67 refl).0;
  given_word = refl;
  xscale_word = refl;
  ppc405lp_word = refl;
  rates_0 = (is_read (one_task (some 0) (rates (1 ∷ 2 ∷ [])) (3 ∷ 4 ∷ [])) _ 73 refl).0;
  rates_0_words = refl;
}

-- First releases: "Each task may end with `(from A)`", also under a chip, and A is "0 if absent", as where it says 0. It
-- is not judged: a number that is not below the period is read. The writer writes it "only if above 0", also of a chip's
-- list.
abbrev two_rates : Option ℕ → Script
two_rates a = one_task_from a none (rates (1 ∷ 2 ∷ [])) (3 ∷ 4 ∷ [])

abbrev two_rates_words : ℕ → List ℕ
two_rates_words a = 5 ∷ 0 ∷ 2 ∷ 1 ∷ 2 ∷ 1 ∷ 7 ∷ 9 ∷ a ∷ 3 ∷ 4 ∷ []

abbrev xscale_from : ℕ → Script
xscale_from a = one_task_from (some a) none (chip Xscale) []

pub record Firsts : Type 0 where
  pub given : IsTextOf (two_rates (some 7)) (bytes "(slack 5)\n(rates 1 2)\n(task (period 7) (cycles 9) (energy 3 4) (from 7))\n")
  pub given_words : words (two_rates (some 7)) ≡ two_rates_words 7
  pub given_0 : IsTextOf (two_rates (some 0)) (bytes "(slack 5)\n(rates 1 2)\n(task (period 7) (cycles 9) (energy 3 4) (from 0))\n")
  pub given_0_words : words (two_rates (some 0)) ≡ two_rates_words 0
  pub absent_words : words (two_rates none) ≡ two_rates_words 0
  pub under_chip_lem : IsTextOf (xscale_from 6) (bytes "(slack 5)\n(chip xscale)\n(task (period 7) (cycles 9) (from 6))\n")
  pub under_chip_words : words (xscale_from 6) ≡
      5 ∷ 40 ∷ 5 ∷ 150000 ∷ 400000 ∷ 600000 ∷ 800000 ∷ 1000000 ∷ 1 ∷ 7 ∷ 9 ∷ 6 ∷ 80 ∷ 170 ∷ 400 ∷ 900 ∷ 1600 ∷ []
  pub written : IsTextOf (script_of (two_rates_words 6)) (bytes "(slack 5)\n(rates 1 2)\n(task (period 7) (cycles 9) (energy 3 4) (from 6))\n")
  pub not_written : IsTextOf (script_of (two_rates_words 0)) (bytes "(slack 5)\n(rates 1 2)\n(task (period 7) (cycles 9) (energy 3 4))\n")
  pub chip_written : IsTextOf (script_of (words (xscale_from 6)))
      (bytes "(slack 5)\n(idle 40)\n(rates 150000 400000 600000 800000 1000000)\n(task (period 7) (cycles 9) (energy 80 170 400 900 1600) (from 6))\n")

pub firsts : Firsts
unfolding read_text number more literal many words script_of head_kinds extra_kinds chip_rates chip_energies megahertz milliwatts idle_figures
firsts = record {
  given = (is_read (two_rates (some 7)) _ 73 refl).0;
  given_words = refl;
  given_0 = (is_read (two_rates (some 0)) _ 73 refl).0;
  given_0_words = refl;
  absent_words = refl;
  under_chip_lem = (is_read (xscale_from 6) _ 62 refl).0;
  under_chip_words = refl;
  written = (is_read (script_of (two_rates_words 6)) _ 73 refl).0;
  not_written = (is_read (script_of (two_rates_words 0)) _ 64 refl).0;
  chip_written = (is_read (script_of (words (xscale_from 6))) _ 131 refl).0;
}

-- Refusal 9, either side of its edge. On the xscale 625,000,000 cycles take 625 ticks at 1,000 MHz and 1,600 mW, which is
-- 1,000,000 exactly; on the ppc405lp 443,156,000 take 1,666 ticks at 266 MHz and 600 mW, 999,600, and at 333 MHz less. A
-- cycle more is a tick more. The second task's number is given, whatever is lent; and a byte behind the last line comes
-- first. Slack, period and cycles are not judged: 0, 0 and the largest number. An energy that stands in the text is not
-- judged either.
abbrev pub too_much : Script
too_much = under_chip 9 Xscale 7 625000000 7 625000001

abbrev enough : Script
enough = under_chip 9 Xscale 7 625000000 7 625000000

abbrev ppc_much : Script
ppc_much = under_chip 9 Ppc405lp 7 443156000 7 443156001

abbrev ppc_enough : Script
ppc_enough = under_chip 9 Ppc405lp 7 443156000 7 443156000

abbrev unjudged : Script
unjudged = record { slack = 0; idle = none; clock = chip Xscale; tasks = chip_line 0 4294967295 ∷ [] }

abbrev in_text : Script
in_text = record {
  slack = 9;
  idle = none;
  clock = rates (1 ∷ 2 ∷ []);
  tasks = record { period = 7; cycles = 9; energies = 1000001 ∷ 1 ∷ []; first = none } ∷ [];
}

pub record Overs : Type 0 where
  pub over : (lent : ℕ) → Refuses (reader_checks (script_text too_much) lent) 9 2
  pub at_most : (lent : ℕ) → 25 ≤ lent → Accepts (reader_checks (script_text enough) lent)
  pub ppc405lp_over : (lent : ℕ) → Refuses (reader_checks (script_text ppc_much) lent) 9 2
  pub ppc405lp_at_most : (lent : ℕ) → 22 ≤ lent → Accepts (reader_checks (script_text ppc_enough) lent)
  pub left_over : (lent : ℕ) → Refuses (reader_checks (script_text too_much ++ (10 ∷ [])) lent) 1 98
  pub unranged : (lent : ℕ) → Refuses (reader_checks (script_text unjudged) lent) 9 1
  pub given : (lent : ℕ) → 11 ≤ lent → Accepts (reader_checks (script_text in_text) lent)

-- Tasks with an energy over the largest.
much_2 : HasOver too_much 2
unfolding words chip_rates chip_energies megahertz milliwatts head_kinds extra_kinds IsLe
much_2 = record {
  from = omega arith;
  to = omega arith;
  rate = 5;
  rate_from = omega arith;
  rate_to = omega arith;
  over = le_by_compare _ _ tt;
}

ppc_much_2 : HasOver ppc_much 2
unfolding words chip_rates chip_energies megahertz milliwatts head_kinds extra_kinds IsLe
ppc_much_2 = record {
  from = omega arith;
  to = omega arith;
  rate = 3;
  rate_from = omega arith;
  rate_to = omega arith;
  over = le_by_compare _ _ tt;
}

unjudged_1 : HasOver unjudged 1
unfolding words chip_rates chip_energies megahertz milliwatts head_kinds extra_kinds IsLe
unjudged_1 = record {
  from = omega arith;
  to = omega arith;
  rate = 1;
  rate_from = omega arith;
  rate_to = omega arith;
  over = le_by_compare _ _ tt;
}

-- That a task has no energy over the largest is computed, rate by rate.
abbrev AllWithin : Script → ℕ → Type 0
AllWithin s k =
    every (λ r. leb (energy Ordinary (words s) (k - 1) r) most_energy) (each (λ j. j) 1 (length (rates_of s.clock))) ≡ true

has_none : (s : Script) (k : ℕ) → AllWithin s k → HasOver s k → ⊥
has_none s k all h =
    let rs : List ℕ = each (λ j. j) 1 (length (rates_of s.clock)) in
    let f : ℕ → ℕ = energy Ordinary (words s) (k - 1) in
    let size = each-length (λ (j : ℕ). j) 1 (length (rates_of s.clock)) in
    let low : h.rate - 1 < length (rates_of s.clock) = omega (arith, h.rate_from, h.rate_to) in
    let here : get_or rs (h.rate - 1) 0 ≡ h.rate =
    each_at (λ j. j) 1 (length (rates_of s.clock)) (h.rate - 1) low 0 ∙ omega (arith, h.rate_from) in
    let e : leb (f (get_or rs (h.rate - 1) 0)) most_energy ≡ true =
    every_at (λ r. leb (f r) most_energy) rs all (h.rate - 1) 0 (omega (arith, size)) in
    omega (arith, leb-true (f h.rate) most_energy (rw here at e), h.over)

-- Of two tasks, none has an energy over the largest.
two_within : (s : Script) → length s.tasks ≡ 2 → AllWithin s 1 → AllWithin s 2 → NoneOver s
two_within s two a b w k h =
    ⊎_elim
    (λ (l : k < 2). let e : k ≡ 1 = omega (arith, h.from) in has_none s 1 a (subst (HasOver s) e h))
    (λ (l : 2 ≤ k). let e : k ≡ 2 = omega (arith, h.to) in has_none s 2 b (subst (HasOver s) e h))
    (lt_or_le k 2)

enough-within : NoneOver enough
unfolding words chip_rates chip_energies megahertz milliwatts head_kinds extra_kinds
enough-within = two_within enough refl refl refl

ppc_enough-within : NoneOver ppc_enough
unfolding words chip_rates chip_energies megahertz milliwatts head_kinds extra_kinds
ppc_enough-within = two_within ppc_enough refl refl refl

pub ppc405lp-within : NoneOver (under_chip 500 Ppc405lp 40 1000000 20 500000)
unfolding words chip_rates chip_energies megahertz milliwatts head_kinds extra_kinds
ppc405lp-within = two_within (under_chip 500 Ppc405lp 40 1000000 20 500000) refl refl refl

much_1 : AllWithin too_much 1
unfolding words chip_rates chip_energies megahertz milliwatts head_kinds extra_kinds
much_1 = refl

ppc_much_1 : AllWithin ppc_much 1
unfolding words chip_rates chip_energies megahertz milliwatts head_kinds extra_kinds
ppc_much_1 = refl

in_text_unjudged : NoneOver in_text
in_text_unjudged w = absurd w

-- These scripts have texts.
two_ok : (c : Chip) (a b : ℕ) → a < 2 ^ 32 → b < 2 ^ 32 → ScriptOk (under_chip 9 c 7 a 7 b)
two_ok c a b h l =
    let line : (k : ℕ) → k < 2 ^ 32 → TaskLineOk 0 (chip_line 7 k) = λ k l.
    record { period = omega arith; cycles = l; energies = record { least = omega arith; most = omega arith; each = tt }; first = tt } in
    record {
      slack = omega arith;
      idle = tt;
      clock = tt;
      tasks = record { least = omega arith; most = omega arith; each = (line a h, (line b l, tt)) };
    }

text_of : (s : Script) → ScriptOk s → IsTextOf s (script_text s)
text_of s ok = record { script = ok; text = refl }

is_much : IsTextOf too_much (script_text too_much)
is_much = text_of too_much (two_ok Xscale 625000000 625000001 (omega arith) (omega arith))

is_ppc_much : IsTextOf ppc_much (script_text ppc_much)
is_ppc_much = text_of ppc_much (two_ok Ppc405lp 443156000 443156001 (omega arith) (omega arith))

is_unjudged : IsTextOf unjudged (script_text unjudged)
is_unjudged =
    text_of unjudged
    (record {
      slack = omega arith;
      idle = tt;
      clock = tt;
      tasks = record {
        least = omega arith;
        most = omega arith;
        each = (
          record {
            period = omega arith;
            cycles = omega arith;
            energies = record { least = omega arith; most = omega arith; each = tt };
            first = tt;
          },
          tt,
        );
      };
    })

is_in_text : IsTextOf in_text (script_text in_text)
is_in_text =
    text_of in_text
    (record {
      slack = omega arith;
      idle = tt;
      clock = record { least = omega arith; most = omega arith; each = (omega arith, (omega arith, tt)) };
      tasks = record {
        least = omega arith;
        most = omega arith;
        each = (
          record {
            period = omega arith;
            cycles = omega arith;
            energies = record { least = omega arith; most = omega arith; each = (omega arith, (omega arith, tt)) };
            first = tt;
          },
          tt,
        );
      };
    })

-- How many words they have.
record Lengths : Type 0 where
  xscale : length (words enough) ≡ 25
  ppc405lp : length (words ppc_enough) ≡ 22
  in_text_lem : length (words in_text) ≡ 11

lengths : Lengths
unfolding words chip_rates chip_energies megahertz head_kinds extra_kinds
lengths = record { xscale = refl; ppc405lp = refl; in_text_lem = refl }

left : FirstBad WellFormed (script_text too_much ++ (10 ∷ [])) 98
unfolding read_text number more literal many decimal digits
left = is_refused (script_text too_much ++ (10 ∷ [])) 98 refl

-- The second of two tasks is the first with such an energy.
second-over : (s : Script) → IsTextOf s (script_text s) → WorksOut s.clock → AllWithin s 1 → HasOver s 2 → (lent : ℕ)
    → Refuses (reader_checks (script_text s) lent) 9 2
second-over s is w one two lent =
    inr (
      (λ o. no_first_bad WellFormed (script_text s) o (s, is)),
      inl (
        refl,
        (
          s,
          is,
          w,
          record {
            here = two;
            before = λ j l h. let e : j ≡ 1 = omega (arith, h.from) in has_none s 1 one (subst (HasOver s) e h);
          },
        ),
      ),
    )

pub overs : Overs
overs = record {
  over = second-over too_much is_much tt much_1 much_2;
  at_most = λ lent room.
      takes enough (script_text enough) lent (text_of enough (two_ok Xscale 625000000 625000000 (omega arith) (omega arith))) enough-within
      (omega (arith, room, lengths.xscale));
  ppc405lp_over = second-over ppc_much is_ppc_much tt ppc_much_1 ppc_much_2;
  ppc405lp_at_most = λ lent room.
      takes ppc_enough (script_text ppc_enough) lent (text_of ppc_enough (two_ok Ppc405lp 443156000 443156000 (omega arith) (omega arith)))
      ppc_enough-within (omega (arith, room, lengths.ppc405lp));
  left_over = λ lent. inl (refl, left);
  unranged = λ lent.
      inr (
        (λ o. no_first_bad WellFormed (script_text unjudged) o (unjudged, is_unjudged)),
        inl (
          refl,
          (
            unjudged,
            is_unjudged,
            tt,
            record {
              here = unjudged_1;
              before = λ j l h. omega (arith, h.from);
            },
          ),
        ),
      );
  given = λ lent room. takes in_text (script_text in_text) lent is_in_text in_text_unjudged (omega (arith, room, lengths.in_text_lem));
}

-- Two rates, and n tasks all alike.
unfoldable pub alike : ℕ → List ℕ
alike n = bytes "(slack 1)\n(rates 1 2)\n" ++ joined (λ (k : ℕ). bytes "(task (period 1) (cycles 1) (energy 1 1))\n")
    (replicate n 0)

-- "A ninth rate, a 33rd task or a digit that passes the largest number is refusal 1 at that byte." "Empty text: refusal
-- 1, offset 0." After the largest number only a bracket may follow, after a first digit 0 no other, and a text that
-- ends before its first task ends early. With chips: an unknown name departs at the first letter that no name has there,
-- an energy form under a chip at its first letter, since a first release may stand there, a missing one under rates at
-- the bracket in its place, and where a chip and a line of rates both stand, the second at the first byte that no text
-- has. An idle line that stands twice, or not behind the slack's, departs at its first letter, and one without a number
-- where the number should be. A first release departs at its first letter where it stands in front of the energies, and
-- at its space where it stands twice.
pub record Departures : Type 0 where
  ninth_rate : FirstBad WellFormed (bytes "(slack 1)\n(rates 1 2 3 4 5 6 7 8 9)\n") 32
  task_33 : FirstBad WellFormed (alike 33) 1366
  largest_passed : FirstBad WellFormed (bytes "(slack 4294967296)\n") 16
  empty : FirstBad WellFormed [] 0
  leading_zero : FirstBad WellFormed (bytes "(slack 01)\n") 8
  after_largest : FirstBad WellFormed (bytes "(slack 4294967295 ") 17
  no_task : FirstBad WellFormed (bytes "(slack 1)\n(rates 1 2)\n") 22
  unknown_name : FirstBad WellFormed (bytes "(slack 1)\n(chip xp)\n") 17
  other_name : FirstBad WellFormed (bytes "(slack 1)\n(chip arm)\n") 16
  name_cut : FirstBad WellFormed (bytes "(slack 1)\n(chip ppc405") 22
  energies_under_chip : FirstBad WellFormed
      (bytes "(slack 1)\n(chip xscale)\n(task (period 1) (cycles 1) (energy 1 1 1 1 1))\n") 53
  no_energies : FirstBad WellFormed (bytes "(slack 1)\n(rates 1 2)\n(task (period 1) (cycles 1))\n") 49
  chip_then_rates : FirstBad WellFormed (bytes "(slack 1)\n(chip xscale)\n(rates 1 2)\n") 25
  rates_then_chip : FirstBad WellFormed (bytes "(slack 1)\n(rates 1 2)\n(chip xscale)\n") 23
  two_chips : FirstBad WellFormed (bytes "(slack 1)\n(chip xscale)\n(chip xscale)\n") 25
  idle_twice : FirstBad WellFormed (bytes "(slack 1)\n(idle 2)\n(idle 2)\n(rates 1 2)\n") 20
  idle_behind_rates : FirstBad WellFormed (bytes "(slack 1)\n(rates 1 2)\n(idle 2)\n") 23
  idle_behind_chip : FirstBad WellFormed (bytes "(slack 1)\n(chip xscale)\n(idle 2)\n") 25
  idle_before_slack : FirstBad WellFormed (bytes "(idle 2)\n(slack 1)\n(rates 1 2)\n") 1
  idle_empty : FirstBad WellFormed (bytes "(slack 1)\n(idle)\n(rates 1 2)\n") 15
  idle_largest_passed : FirstBad WellFormed (bytes "(slack 1)\n(idle 4294967296)\n") 25
  from_before_energies : FirstBad WellFormed (bytes "(slack 1)\n(rates 1 2)\n(task (period 1) (cycles 1) (from 0) (energy 1 1))\n") 51
  from_twice : FirstBad WellFormed (bytes "(slack 1)\n(rates 1 2)\n(task (period 1) (cycles 1) (energy 1 1) (from 0) (from 0))\n") 71
  from_empty : FirstBad WellFormed (bytes "(slack 1)\n(rates 1 2)\n(task (period 1) (cycles 1) (energy 1 1) (from))\n") 68
  from_leading_zero : FirstBad WellFormed (bytes "(slack 1)\n(rates 1 2)\n(task (period 1) (cycles 1) (energy 1 1) (from 01))\n") 70

pub departures : Departures
unfolding alike read_text number more literal many
departures = record {
  ninth_rate = is_refused _ 32 refl;
  task_33 = is_refused _ 1366 refl;
  largest_passed = is_refused _ 16 refl;
  empty = is_refused [] 0 refl;
  leading_zero = is_refused _ 8 refl;
  after_largest = is_refused _ 17 refl;
  no_task = is_refused _ 22 refl;
  unknown_name = is_refused _ 17 refl;
  other_name = is_refused _ 16 refl;
  name_cut = is_refused _ 22 refl;
  energies_under_chip = is_refused _ 53 refl;
  no_energies = is_refused _ 49 refl;
  chip_then_rates = is_refused _ 25 refl;
  rates_then_chip = is_refused _ 23 refl;
  two_chips = is_refused _ 25 refl;
  idle_twice = is_refused _ 20 refl;
  idle_behind_rates = is_refused _ 23 refl;
  idle_behind_chip = is_refused _ 25 refl;
  idle_before_slack = is_refused _ 1 refl;
  idle_empty = is_refused _ 15 refl;
  idle_largest_passed = is_refused _ 25 refl;
  from_before_energies = is_refused _ 51 refl;
  from_twice = is_refused _ 71 refl;
  from_empty = is_refused _ 68 refl;
  from_leading_zero = is_refused _ 70 refl;
}
