-- A set's words: each answer on the way says what the next piece reads.
-- Assumes nothing.
use Prim.Native.Nat.{ℕ, ◌+◌, ◌≤◌}
use mathlib.Core.Path.{◌≡◌, sym, ap, ◌∙◌, subst}
use mathlib.Core.List.{List, [], ◌∷◌}
use mathlib.Core.Option.{Option}
use native.Mathlib.Omega.{arith}
use lib.ListN.{length, length-set}
use Rattle.std.specs.Prelude.{Result, Ok}
use Rattle.numbers.specs.Numbers.{joined}
use Rattle.layout.specs.Words.{head_size, most_rates, most_tasks, most_words, tasks_place, period_place}
use Rattle.layout.specs.declared.Layout.TheVariants.{Ordinary}
use Rattle.layout.proofs.Layouts.{head_few, words_few}
use Rattle.text.specs.Text.{bytes, Clock, TaskLine, Script, ScriptOk, energy_count, idle_of, rates_of, task_words, words}
use Rattle.text.specs.Reading.{Res, skip, seq, both, mk_script, read_head, read_tasks, read_clock, read_script}
use Rattle.text.proofs.Grammar.{dom_of, clock_piece, script_piece}
use Rattle.lists.specs.Writing.{written}
use Rattle.text.proofs.Sizes.{words_size}
use Rattle.scanner.specs.Steps.{Reads}
use Rattle.scanner.specs.declared.Cursor.{Cursor}
use Rattle.scanner.specs.declared.Departure.{Departure}
use Rattle.scanner.proofs.Places.{on_value, first_departs, second, skip_departs, skipped, Took, took, lost}
use Rattle.forms.specs.Forms.{given, head_from, clock_of, rates_in, energies_in, idle_in, Fits, words_by, said_of}
use Rattle.forms.specs.declared.Clock as code
use Rattle.forms.specs.declared.Head.{Head}
use Rattle.forms.proofs.Gives.{refuses, gives, handed, Told, told}
use Rattle.forms.proofs.Words.{rates_in_lem, energies_in_lem, idle_in_lem, words_by_lem, fits, few_rates, set_words}
use Rattle.forms.proofs.set_lines.Goals as goal
use Rattle.forms.proofs.set_lines.Goals.{After-rate_count-m}

-- How many rates and tasks there are, and that the list has room for all their words.
record Sizes (head m n lent : ℕ) : Type 0 where
  front : head ≡ head_size Ordinary
  rates : m ≤ most_rates
  tasks : n ≤ most_tasks
  all : period_place Ordinary m n ≤ most_words
  room : most_words ≤ lent

-- What was read of a script, where its parts are known.
said-is : (s : Script) (k : code.Clock) (m n w : ℕ) → clock_of s.clock ≡ k → length (rates_of s.clock) ≡ m → length s.tasks ≡ n
    → length (words s) ≡ w → said_of s ≡ record { clock = k; rates = m; tasks = n; words = w }
said-is s k m n w a b c d = cc

-- What stands behind the clock's line, and behind the head.
abbrev behind_clock : Clock → List ℕ → Res (List TaskLine)
behind_clock k = skip (bytes ")\n") (read_tasks (energy_count k))

abbrev behind_head : List ℕ → Res (Clock × List TaskLine)
behind_head = seq both read_clock behind_clock

script_reads : {x y z u : Cursor} {h : ℕ × Option ℕ} {k : Clock} (r : Result (List TaskLine) Departure) → Reads read_head x y (Ok h)
    → Reads read_clock y z (Ok k) → Reads (behind_clock k) z u r → Reads read_script x u (on_value (mk_script h) (on_value (both k) r))
script_reads r i j l = second mk_script read_head (λ _. behind_head) i _ (second both read_clock behind_clock j r l)

-- A clock that was read has some rates, and not too many; and how many energies a line has is as the script says.
module _ {y z : Cursor} {at : ℕ} {d e : List ℕ} {v : code.Clock} (k : Told clock_of rates_of read_clock y z at d e v) where
  fit : Fits v
  fit = subst Fits k.shows (fits k.item (dom_of clock_piece _ _ _ k.item (sym k.reads.answers)))

  energies : energies_in v ≡ energy_count k.item
  energies = ap energies_in (sym k.shows) ∙ energies_in_lem k.item

-- What the calls told, once all was read.
module _ (c : After-rate_count-m) where
  head : Took head_from read_head c.args.text.now c.head_lines.new.text c.in_ok-head.head
  head = took head_from read_head c.in_ok-head.ensures

  clock : Told clock_of rates_of read_clock c.head_lines.new.text c.clock_line.new.text (c.head_size-size.result + 1)
      c.args.out.now c.clock_line.new.out c.in_ok-clock.clock
  clock = told clock_of rates_of read_clock c.in_ok-clock.ensures

  lines : Told length (joined (words_by c.in_ok-clock.clock)) (read_tasks (energies_in c.in_ok-clock.clock)) c.literal.new.self
      c.tasks.new.text (tasks_place Ordinary (rates_in c.in_ok-clock.clock)) c.clock_line.new.out c.tasks.new.out c.in_ok-n.n
  lines = told length (joined (words_by c.in_ok-clock.clock)) (read_tasks (energies_in c.in_ok-clock.clock)) c.in_ok-n.ensures

  -- The script that was read.
  abbrev script : Script
  script = mk_script head.item (clock.item, lines.item)

  is_read : Reads read_script c.args.text.now c.tasks.new.text (Ok script)
  is_read = script_reads (Ok lines.item) head.reads clock.reads
      (skipped (bytes ")\n") (read_tasks (energy_count clock.item)) c.in_ok-literal.ensures.reads (rw (energies clock) at lines.reads))

  is_ok : ScriptOk script
  is_ok = dom_of script_piece _ _ _ script (sym is_read.answers)

  rates : c.rate_count-m.result ≡ length (rates_of clock.item)
  rates = c.rate_count-m.ensures ∙ ap rates_in (sym clock.shows) ∙ rates_in_lem clock.item

  sizes : Sizes c.head_size-size.result c.rate_count-m.result c.in_ok-n.n (length c.tasks.new.out)
  sizes =
      let few : c.rate_count-m.result ≤ most_rates = omega (arith, c.rate_count-m.ensures, few_rates c.in_ok-clock.clock (fit clock)) in
      let few_tasks : c.in_ok-n.n ≤ most_tasks = omega (arith, lines.shows, is_ok.tasks.most) in
      record {
        front = c.head_size-size.ensures;
        rates = few;
        tasks = few_tasks;
        all = words_few _ _ few few_tasks;
        room = omega (arith, c.tasks.auto.out, c.clock_line.auto.out, c.requires);
      }

pub returns-in_err-head : goal.returns-in_err-head
returns-in_err-head c = handed _ _ _ _ c.from_residual.ensures.1
    (refuses _ _ _ (first_departs mk_script read_head (λ _. behind_head) (lost head_from read_head c.in_err-head.ensures)))

pub overflow_add-size : goal.overflow_add-size
overflow_add-size c = omega (arith, head_few Ordinary, c.head_size-size.ensures)

pub clock_line-requires : goal.clock_line-requires
clock_line-requires c = omega (arith, head_few Ordinary, c.head_size-size.ensures, c.requires)

pub returns-in_err-clock : goal.returns-in_err-clock
returns-in_err-clock c = let h = took head_from read_head c.in_ok-head.ensures in
    handed _ _ _ _ c.from_residual-in_err-clock.ensures.1
    (refuses _ _ _ (second mk_script read_head (λ _. behind_head) h.reads _
    (first_departs both read_clock behind_clock (lost clock_of read_clock c.in_err-clock.ensures.reads))))

pub returns-in_err-literal : goal.returns-in_err-literal
returns-in_err-literal c = let h = took head_from read_head c.in_ok-head.ensures in
    let k = told clock_of rates_of read_clock c.in_ok-clock.ensures in
    handed _ _ _ _ c.from_residual-in_err-literal.ensures.1
    (refuses _ _ _ (script_reads _ h.reads k.reads
    (skip_departs (bytes ")\n") (read_tasks (energy_count k.item)) c.in_err-literal.ensures.reads)))

pub tasks-requires : goal.tasks-requires
tasks-requires c = let f = fit (told clock_of rates_of read_clock c.in_ok-clock.ensures) in
    let few = few_rates c.in_ok-clock.clock f in
    (f, omega (arith, few, words_few _ most_tasks few (omega arith), c.clock_line.auto.out, c.requires))

pub returns-in_err-n : goal.returns-in_err-n
returns-in_err-n c = let h = took head_from read_head c.in_ok-head.ensures in
    let k = told clock_of rates_of read_clock c.in_ok-clock.ensures in
    let departs = lost length (read_tasks (energies_in c.in_ok-clock.clock)) c.in_err-n.ensures.reads in
    handed _ _ _ _ c.from_residual-in_err-n.ensures.1
    (refuses _ _ _ (script_reads _ h.reads k.reads
    (skipped (bytes ")\n") (read_tasks (energy_count k.item)) c.in_ok-literal.ensures.reads (rw (energies k) at departs))))

pub overflow_cast-out : goal.overflow_cast-out
overflow_cast-out c = omega (arith, sizes (goal.at.overflow_cast-out c).After-rate_count-m)

pub task_count_place-requires : goal.task_count_place-requires
task_count_place-requires c = omega (arith, sizes (goal.at.task_count_place-requires c).After-rate_count-m)

pub offset_bounds-out-task_count_place : goal.offset_bounds-out-task_count_place
offset_bounds-out-task_count_place c =
    omega (arith, sizes (goal.at.offset_bounds-out-task_count_place c).After-rate_count-m, c.task_count_place.ensures)

pub bounds-out-task_count_place : goal.bounds-out-task_count_place
bounds-out-task_count_place c =
    omega (arith, sizes (goal.at.bounds-out-task_count_place c).After-rate_count-m, c.task_count_place.ensures)

pub overflow_cast-out-2 : goal.overflow_cast-out-2
overflow_cast-out-2 c = omega (arith, sizes (goal.at.overflow_cast-out-2 c).After-rate_count-m)

pub offset_bounds-out-size : goal.offset_bounds-out-size
offset_bounds-out-size c = omega (arith, sizes (goal.at.offset_bounds-out-size c).After-rate_count-m)

pub bounds-out-size : goal.bounds-out-size
bounds-out-size c = simp length-set (omega (arith, sizes (goal.at.bounds-out-size c).After-rate_count-m))

pub period_place-requires : goal.period_place-requires
period_place-requires c = let z = sizes (goal.at.period_place-requires c).After-rate_count-m in (z.rates, z.tasks)

pub returns : goal.returns
returns c =
    let at = (goal.at.returns c).After-rate_count-m in
    let h = head at in
    let k = clock at in
    let ts = lines at in
    let s = script at in
    let m : length (rates_of s.clock) ≡ c.rate_count-m.result = sym (rates at) in
    let idle : c.idle_energy.result ≡ idle_of s.idle s.clock = c.idle_energy.ensures
    ∙ ap (λ (v : Head). idle_in v.idle c.in_ok-clock.clock) (sym h.shows)
    ∙ ap (idle_in (given s.idle)) (sym k.shows) ∙ idle_in_lem s.idle s.clock in
    let slack : c.in_ok-head.head.slack ≡ s.slack = ap (λ (v : Head). v.slack) (sym h.shows) in
    let size : length (words s) ≡ c.period_place.result = words_size s (is_ok at) ∙ rw (m, ts.shows) (sym c.period_place.ensures) in
    let by : words_by c.in_ok-clock.clock ≡ task_words s.clock = ap words_by (sym k.shows) ∙ words_by_lem k.item in
    gives _ _ _ (is_read at) (said-is s _ _ _ _ k.shows m ts.shows size)
    (set_words s (c.in_ok-head.head.slack ∷ c.idle_energy.result ∷ []) c.args.out.now c.tasks.new.out _ _ _ _
    (ap (λ (a : ℕ). a ∷ c.idle_energy.result ∷ []) slack ∙ ap (λ (a : ℕ). s.slack ∷ a ∷ []) idle)
    c.head_size-size.ensures c.task_count_place.ensures m ts.shows (omega (arith, sizes at, c.requires))
    ((rw (← c.rate_count-m.ensures, by) at ts.wrote)
    ∙ ap (written _ (joined (task_words s.clock) ts.item)) k.wrote))
