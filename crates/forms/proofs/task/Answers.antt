-- A task's line: each answer on the way says what the next piece reads.
-- Assumes nothing.
use Prim.Native.Nat.{ℕ}
use mathlib.Core.Path.{sym, ap, ◌∙◌}
use mathlib.Core.List.{List, [], ◌∷◌}
use native.Mathlib.Omega.{arith}
use lib.ListN.{length-set}
use Rattle.std.specs.Prelude.{Result, Ok}
use Rattle.layout.specs.declared.Layout.TheVariants.{Ordinary}
use Rattle.layout.proofs.Layouts.{first_in_extra}
use Rattle.text.specs.Text.{bytes, TaskLine, first_of, extra_words}
use mathlib.Core.Option.{Option}
use Rattle.text.specs.Reading.{Res, seq, literal, skip, up_to, field, mk_task, both, read_energies, read_first, read_ending, read_task}
use Rattle.scanner.specs.Steps.{Reads}
use Rattle.scanner.specs.declared.Cursor.{Cursor}
use Rattle.scanner.specs.declared.Departure.{Departure}
use Rattle.scanner.proofs.Places.{first_departs, skip_departs, piece_departs, took, lost}
use Rattle.forms.specs.Forms.{Gives, no_value, energies_in, energies_by}
use Rattle.forms.proofs.Gives.{refuses, handed, told, then_gives, skip_gives, closes}
use Rattle.lists.proofs.Stores.{stored, in_front}
use Rattle.forms.proofs.Words.{task_front}
use Rattle.forms.proofs.task.Goals as goal

-- The pieces of a line that has m energies.
abbrev period : List ℕ
period = bytes "(task (period "

abbrev cycles : List ℕ
cycles = bytes ") (cycles "

abbrev behind_cycles : ℕ → List ℕ → Res (List ℕ × Option ℕ)
behind_cycles m = skip (bytes ")") (read_ending m)

abbrev behind_period : ℕ → List ℕ → Res (ℕ × (List ℕ × Option ℕ))
behind_period m = seq both (field cycles) (λ _. behind_cycles m)

abbrev behind_energies : List ℕ → Res (Option ℕ)
behind_energies = up_to read_first (bytes ")\n")

-- What is left to read behind the cycles.
ending : (m : ℕ) {words : TaskLine → List ℕ} {x y z u v : Cursor} {k : ℕ} {d e : List ℕ} {r : Result (Unit {0}) Departure} {p c : ℕ}
    {t : Unit {0}} → Reads (field period) x y (Ok p) → Reads (field cycles) y z (Ok c) → Reads (literal (bytes ")")) z u (Ok t)
    → Gives no_value (λ b. words (mk_task p (c, b))) (read_ending m) u v k d e r → Gives no_value words (read_task m) x v k d e r
ending m h i j g =
    then_gives mk_task (field period) (λ _. behind_period m) h
    (then_gives both (field cycles) (λ _. behind_cycles m) i (skip_gives (bytes ")") (read_ending m) j g))

pub returns-in_err-p : goal.returns-in_err-p
returns-in_err-p c = let m = energies_in c.args.clock in
    handed _ _ _ _ c.from_residual.ensures.1
    (refuses _ _ _ (first_departs mk_task (field period) (λ _. behind_period m) c.in_err-p.ensures.reads))

pub returns-in_err-c : goal.returns-in_err-c
returns-in_err-c c = let m = energies_in c.args.clock in
    handed _ _ _ _ c.from_residual-in_err-c.ensures.1
    (then_gives mk_task (field period) (λ _. behind_period m) c.in_ok-p.ensures.reads
    (refuses _ _ _ (first_departs both (field cycles) (λ _. behind_cycles m) c.in_err-c.ensures.reads)))

pub returns-in_err-literal : goal.returns-in_err-literal
returns-in_err-literal c = let m = energies_in c.args.clock in
    handed _ _ _ _ c.from_residual-in_err-literal.ensures.1
    (then_gives mk_task (field period) (λ _. behind_period m) c.in_ok-p.ensures.reads
    (then_gives both (field cycles) (λ _. behind_cycles m) c.in_ok-c.ensures.reads
    (refuses _ _ _ (skip_departs (bytes ")") (read_ending m) c.in_err-literal.ensures.reads))))

pub returns-in_err-energies : goal.returns-in_err-energies
returns-in_err-energies c = let m = energies_in c.args.clock in
    handed _ _ _ _ c.from_residual-in_err-energies.ensures.1
    (ending m c.in_ok-p.ensures.reads c.in_ok-c.ensures.reads c.in_ok-literal.ensures.reads
    (refuses _ _ _ (first_departs both (read_energies m) (λ _. behind_energies)
    (lost no_value (read_energies m) c.in_err-energies.ensures.reads))))

pub returns-in_err-a : goal.returns-in_err-a
returns-in_err-a c = let m = energies_in c.args.clock in
    let es = took no_value (read_energies m) c.in_ok-energies.ensures.reads in
    handed _ _ _ _ c.from_residual-in_err-a.ensures.1
    (ending m c.in_ok-p.ensures.reads c.in_ok-c.ensures.reads c.in_ok-literal.ensures.reads
    (then_gives both (read_energies m) (λ _. behind_energies) es.reads
    (refuses _ _ _ (piece_departs read_first (bytes ")\n") (lost first_of read_first c.in_err-a.ensures)))))

pub bounds-out-k-3 : goal.bounds-out-k-3
bounds-out-k-3 c = simp length-set (omega (arith, first_in_extra Ordinary, c.energies.auto.out, c.requires.1))

pub returns : goal.returns
returns c = let m = energies_in c.args.clock in
    let g = told no_value (energies_by c.args.clock c.in_ok-c.c) (read_energies m) c.in_ok-energies.ensures in
    let f = took first_of read_first c.in_ok-a.ensures in
    let t = mk_task c.in_ok-p.p (c.in_ok-c.c, (g.item, f.item)) in
    let es = energies_by c.args.clock t.cycles t.energies in
    let size = c.before_energies.ensures in
    ending m c.in_ok-p.ensures.reads c.in_ok-c.ensures.reads c.in_ok-literal.ensures.reads
    (then_gives both (read_energies m) (λ _. behind_energies) g.reads
    (closes _ read_first (bytes ")\n") _ f.reads
    (ap (λ (v : ℕ). stored c.args.k (t.period ∷ t.cycles ∷ v ∷ []) c.energies.new.out) (sym f.shows)
    ∙ ap (stored c.args.k (t.period ∷ t.cycles ∷ extra_words t)) g.wrote
    ∙ in_front (t.period ∷ t.cycles ∷ extra_words t) es c.args.out.now c.args.k _
    (omega (arith, task_front t, size)) (omega (arith, size, c.requires.1)))
    c.literal-2.ensures.reads))
