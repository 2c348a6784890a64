-- The reader of a script is right for the texts of scripts; so what it answers of a whole text is what the definitions
-- say.
-- Assumes nothing.
use Prim.Native.Nat.{ℕ, zero, suc, ◌+◌, ◌≤◌}
use mathlib.Core.Path.{◌≡◌, refl, sym, ◌∙◌, subst}
use mathlib.Core.List.{List, [], ◌∷◌, ◌++◌, append_assoc}
use mathlib.Core.Bool.{true, false}
use mathlib.Core.Logic.{◌⊎◌, inl, inr}
use mathlib.Core.Option.{Option, none, some}
use native.Mathlib.Omega.{arith}
use native.Mathlib.Nat.{add-zero}
use lib.ListN.{length, drop}
use Rattle.numbers.specs.Numbers.{All, joined}
use Rattle.chips.specs.declared.Chip.{Chip}
use Rattle.chips.specs.declared.Chip.TheVariants.{Xscale, Ppc405lp}
use Rattle.text.specs.Text.{TaskLine, Clock, rates, chip, Script, bytes, decimal, spaced, energy_text, task_text}
use Rattle.text.specs.Text.{first_text, chip_name, clock_text, idle_text, script_text}
use Rattle.text.specs.Text.{Word, Between, MaybeWord, ClockOk, energy_count, TaskLineOk, ScriptOk, IsTextOf, WellFormed, FirstBad}
use Rattle.text.specs.Reading.{Res, got, bad, later, seq, skip, up_to, field, numbers, starts, both}
use Rattle.text.specs.Reading.{absent, optional, mk_task, mk_script, read_energies, read_first, read_ending, read_task, read_tasks}
use Rattle.text.specs.Reading.{read_name, read_idle, read_head, read_chip, read_clock, read_script, read_text, read_at}
use Rattle.text.proofs.Pieces.{Good, Piece, seq_piece, Form, Right, whole_exact, whole_right, first_bad_same}
use Rattle.text.proofs.Literals.{literal_piece, Any}
use Rattle.text.proofs.Branches.{map_piece, either_piece}
use Rattle.text.proofs.Digits.{NoDigit}
use Rattle.text.proofs.Numerals.{number_piece}
use Rattle.text.proofs.Repeats.{many_piece}

-- a fixed string in front
pub skip_piece : {B : Type 0} {text : B → List ℕ} {Dom : B → Type 0} {F : List ℕ → Type 0} {rd : List ℕ → Res B} (l : List ℕ)
    → (b : B) × Dom b → Piece text Dom F rd → Piece (λ b. l ++ text b) Dom F (skip l rd)
skip_piece {text = text} {Dom = Dom} l one P =
    seq_piece (λ _ b. b) (λ b. l ++ text b) Dom (literal_piece l) (λ _ _. P)
    (λ a b. refl) (λ a b _ d. d) (λ b d. (tt, b, tt, d, refl)) (λ _ _. one) (λ a b r _ _ _. tt)

-- a fixed string behind
pub end_piece : {A : Type 0} {text : A → List ℕ} {Dom : A → Type 0} {F : List ℕ → Type 0} {rd : List ℕ → Res A} (l : List ℕ)
    → ((r : List ℕ) → F (l ++ r)) → Piece text Dom F rd → Piece (λ a. text a ++ l) Dom Any (up_to rd l)
end_piece {text = text} {Dom = Dom} l f P =
    seq_piece (λ a _. a) (λ a. text a ++ l) Dom P (λ _ _. literal_piece l)
    (λ a b. refl) (λ a b d _. d) (λ a d. (a, tt, d, tt, refl)) (λ _ _. (tt, tt)) (λ a b r _ _ _. f r)

-- the same texts by another function
renamed : {A : Type 0} {textA : A → List ℕ} {Dom : A → Type 0} {F : List ℕ → Type 0} {rd : List ℕ → Res A} (text : A → List ℕ)
    → ((a : A) → Dom a → text a ≡ textA a) → Piece textA Dom F rd → Piece text Dom F rd
renamed {A} {textA} {Dom} {F} {rd} text same P = record {
  exact = λ a d r f. rw (same a d) (P.exact a d r f);
  good = λ t. go t (rd t) (P.good t);
  local = P.local;
}
  where
    go : (t : List ℕ) (x : Res A) → Good textA Dom t x → Good text Dom t x
    go t (got a n) g = (g.0, g.1, g.2 ∙ sym (same a g.0))
    go t (bad o) g = (g.0, (g.1.0, g.1.1, g.1.2, g.1.3 ∙ sym (same g.1.0 g.1.1)))

-- whatever follows it
follows : {A : Type 0} {text : A → List ℕ} {Dom : A → Type 0} {F : List ℕ → Type 0} {read : List ℕ → Res A}
    → Piece text Dom Any read → Piece text Dom F read
follows P = record { exact = λ a d r f. P.exact a d r tt; good = P.good; local = P.local }

pub field_piece : (l : List ℕ) → Piece (λ v. l ++ decimal v) Word NoDigit (field l)
field_piece l = skip_piece l (0, omega arith) number_piece

-- a number's form that may be absent: a byte that does not begin what follows begins it
abbrev Given : Option ℕ → Type 0
Given none = ⊥
Given (some v) = Word v

abbrev Absent : Option ℕ → Type 0
Absent none = Unit {0}
Absent (some v) = ⊥

optional_piece : (c : ℕ) (text : Option ℕ → List ℕ) → text none ≡ [] → {p : List ℕ → Res ℕ}
    → Piece (λ v. text (some v)) Word Any p
    → ((v : ℕ) (r : List ℕ) → starts c (text (some v) ++ r) ≡ true)
    → Piece text MaybeWord (λ r. starts c r ≡ false) (optional c p)
optional_piece c text empty P begins =
    either_piece text MaybeWord c
    (map_piece some text Given (follows P) (λ v. refl) (λ v d. d) given_part)
    absent_piece from_given from_absent which given_begins absent_begins
  where
    given_part : (o : Option ℕ) → Given o → (v : ℕ) × Word v × (some v ≡ o)
    given_part none d = absurd d
    given_part (some v) d = (v, d, refl)

    absent_exact : (o : Option ℕ) → Absent o → (r : List ℕ) → starts c r ≡ false → got none 0 ≡ got o (length (text o))
    absent_exact none d r f = rw empty
    absent_exact (some v) d r f = absurd d

    absent_piece : Piece text Absent (λ r. starts c r ≡ false) absent
    absent_piece = record { exact = absent_exact; good = λ t. (tt, omega arith, sym empty); local = λ t u lt same. refl }

    from_given : (o : Option ℕ) → Given o → MaybeWord o
    from_given none d = absurd d
    from_given (some v) d = omega arith

    from_absent : (o : Option ℕ) → Absent o → MaybeWord o
    from_absent none d = tt
    from_absent (some v) d = absurd d

    which : (o : Option ℕ) → MaybeWord o → Given o ⊎ Absent o
    which none d = inr tt
    which (some v) d = inl (omega arith)

    given_begins : (o : Option ℕ) → Given o → (r : List ℕ) → starts c (text o ++ r) ≡ true
    given_begins none d r = absurd d
    given_begins (some v) d r = begins v r

    absent_begins : (o : Option ℕ) → Absent o → (r : List ℕ) → starts c r ≡ false → starts c (text o ++ r) ≡ false
    absent_begins none d r f = rw empty f
    absent_begins (some v) d r f = absurd d

-- what may follow a list of numbers
abbrev NoItem : List ℕ → Type 0
NoItem r = NoDigit r × (starts 32 r ≡ false)

numbers_piece : (m k : ℕ) → Piece (joined spaced) (Between Word m (m + k)) NoItem (numbers m k)
numbers_piece = many_piece (field_piece (bytes " ")) 32 NoItem follow (λ a d r. refl) (λ r f. f.1) (0, omega arith)
  where
    follow : (xs : List ℕ) → All Word xs → (r : List ℕ) → NoItem r → NoDigit (joined spaced xs ++ r)
    follow [] d r f = f.0
    follow (x ∷ xs) d r f = refl

zeros : (m : ℕ) → (xs : List ℕ) × Between Word m m xs
zeros zero = ([], record { least = omega arith; most = omega arith; each = tt })
zeros (suc m) = let r = zeros m in (0 ∷ r.0, record { least = omega (arith, r.1.least); most = omega (arith, r.1.most); each = (omega arith, r.1.each) })

-- A line that has energies has the energy form.
pub energy_form : (es : List ℕ) → 1 ≤ length es → energy_text es ≡ bytes " (energy" ++ (joined spaced es ++ bytes ")")
energy_form [] h = absurd (omega arith)
energy_form (e ∷ es) h = refl

-- a first release, and none: a bracket follows
first_piece : Piece first_text MaybeWord (λ r. starts 32 r ≡ false) read_first
first_piece = optional_piece 32 first_text refl (end_piece (bytes ")") (λ r. refl) (field_piece (bytes " (from "))) (λ v r. refl)

module _ (m : ℕ) where
  some_task : (t : TaskLine) × TaskLineOk m t
  some_task =
      let z = zeros m in (
        record { period = 0; cycles = 0; energies = z.0; first = none },
        record { period = omega arith; cycles = omega arith; energies = z.1; first = tt },
      )

  energies_piece : Piece energy_text (Between Word m m) Any (read_energies m)
  energies_piece = of_count m
    where
      none : (es : List ℕ) → Between Word 0 0 es → (r : List ℕ) → Any r → got [] 0 ≡ got es (length (energy_text es))
      none [] d r f = refl
      none (e ∷ es) d r f = absurd (omega (arith, d.most))

      of_count : (m : ℕ) → Piece energy_text (Between Word m m) Any (read_energies m)
      of_count zero = record {
        exact = none;
        good = λ t. (record { least = omega arith; most = omega arith; each = tt }, omega arith, refl);
        local = λ t u lt same. refl;
      }
      of_count (suc m) =
          renamed energy_text (λ es d. energy_form es (omega (arith, d.least)))
          (skip_piece (bytes " (energy") (zeros (suc m))
          (end_piece (bytes ")") (λ r. (refl, refl)) (rw add-zero at (numbers_piece (suc m) 0))))

  -- the end of a line, from behind its cycles on
  abbrev ending_text : List ℕ × Option ℕ → List ℕ
  ending_text x = energy_text x.0 ++ (first_text x.1 ++ bytes ")\n")

  abbrev EndingOk : List ℕ × Option ℕ → Type 0
  EndingOk x = Between Word m m x.0 × MaybeWord x.1

  some_ending : (x : List ℕ × Option ℕ) × EndingOk x
  some_ending = let z = zeros m in ((z.0, none), (z.1, tt))

  ending_piece : Piece ending_text EndingOk Any (read_ending m)
  ending_piece =
      seq_piece both ending_text EndingOk energies_piece (λ _ _. end_piece (bytes ")\n") (λ r. refl) first_piece)
      (λ a b. refl) (λ a b d e. (d, e)) (λ x d. (x.0, x.1, d.0, d.1, refl)) (λ _ _. (none, tt)) (λ a b r _ _ _. tt)

  cycles_piece : Piece (λ (x : ℕ × (List ℕ × Option ℕ)). bytes ") (cycles " ++ (decimal x.0 ++ (bytes ")" ++ ending_text x.1)))
      (λ x. Word x.0 × EndingOk x.1) Any
      (seq both (field (bytes ") (cycles ")) (λ _. skip (bytes ")") (read_ending m)))
  cycles_piece =
      seq_piece both _ _ (field_piece (bytes ") (cycles "))
      (λ _ _. skip_piece (bytes ")") some_ending ending_piece)
      (λ a b. refl) (λ a b d e. (d, e)) (λ x d. (x.0, x.1, d.0, d.1, refl)) (λ _ _. some_ending) (λ a b r _ _ _. refl)

  pub task_piece : Piece task_text (TaskLineOk m) Any (read_task m)
  task_piece =
      seq_piece mk_task task_text (TaskLineOk m) (field_piece (bytes "(task (period ")) (λ _ _. cycles_piece)
      (λ a b. refl) (λ a b d e. record { period = d; cycles = e.0; energies = e.1.0; first = e.1.1 })
      (λ t d. (t.period, (t.cycles, (t.energies, t.first)), d.period, (d.cycles, (d.energies, d.first)), refl))
      (λ _ _. let z = some_ending in ((0, z.0), (omega arith, z.1))) (λ a b r _ _ _. refl)

  pub tasks_piece : Piece (joined task_text) (Between (TaskLineOk m) 1 32) (λ r. starts 40 r ≡ false) (read_tasks m)
  tasks_piece = many_piece task_piece 40 (λ r. starts 40 r ≡ false) (λ xs d r f. tt) (λ a d r. refl) (λ r f. f) some_task 1 31

  some_tasks : (ts : List TaskLine) × Between (TaskLineOk m) 1 32 ts
  some_tasks = (some_task.0 ∷ [], record { least = omega arith; most = omega arith; each = (some_task.1, tt) })

two : Between Word 2 8 (0 ∷ 0 ∷ [])
two = record { least = omega arith; most = omega arith; each = (omega arith, (omega arith, tt)) }

-- the name of a chip, and a chip's name
abbrev Is : Chip → Chip → Type 0
Is c d = d ≡ c

name_piece : (c : Chip) → Piece chip_name (Is c) Any (read_name c)
name_piece c =
    map_piece (λ _. c) chip_name (Is c) (literal_piece (chip_name c)) (λ a. refl) (λ a d. refl) (λ d e. (tt, tt, sym e))

chip_piece : Piece chip_name Any Any read_chip
chip_piece =
    either_piece chip_name Any 120 (name_piece Xscale) (name_piece Ppc405lp) (λ c e. tt) (λ c e. tt) which
    (λ c e r. rw e) (λ c e r f. rw e)
  where
    which : (c : Chip) → Any c → Is Xscale c ⊎ Is Ppc405lp c
    which Xscale d = inl refl
    which Ppc405lp d = inr refl

-- an idle line, and none: what follows does not begin as it does
abbrev NoIdle : List ℕ → Type 0
NoIdle r = starts 105 r ≡ false

idle_piece : Piece idle_text MaybeWord NoIdle read_idle
idle_piece = optional_piece 105 idle_text refl (end_piece (bytes ")\n(") (λ r. refl) (field_piece (bytes "idle "))) (λ v r. refl)

-- a line of rates, and a chip's line
abbrev OfRates : Clock → Type 0
OfRates (rates fs) = Between Word 2 8 fs
OfRates (chip c) = ⊥

abbrev OfChip : Clock → Type 0
OfChip (rates fs) = ⊥
OfChip (chip c) = Unit {0}

pub clock_piece : Piece clock_text ClockOk NoItem read_clock
clock_piece =
    either_piece clock_text ClockOk 99
    (map_piece chip clock_text OfChip (follows (skip_piece (bytes "chip ") (Xscale, tt) chip_piece)) (λ c. refl)
    (λ c d. tt) chip_part)
    (map_piece rates clock_text OfRates (skip_piece (bytes "rates") (0 ∷ 0 ∷ [], two) (numbers_piece 2 6)) (λ fs. refl)
    (λ fs d. d) rates_part)
    from_chip from_rates which chip_begins rates_begin
  where
    chip_part : (k : Clock) → OfChip k → (c : Chip) × Any c × (chip c ≡ k)
    chip_part (rates fs) d = absurd d
    chip_part (chip c) d = (c, tt, refl)

    rates_part : (k : Clock) → OfRates k → (fs : List ℕ) × Between Word 2 8 fs × (rates fs ≡ k)
    rates_part (rates fs) d = (fs, d, refl)
    rates_part (chip c) d = absurd d

    from_chip : (k : Clock) → OfChip k → ClockOk k
    from_chip (rates fs) d = absurd d
    from_chip (chip c) d = tt

    from_rates : (k : Clock) → OfRates k → ClockOk k
    from_rates (rates fs) d = record { least = omega (arith, d.least); most = omega (arith, d.most); each = d.each }
    from_rates (chip c) d = absurd d

    which : (k : Clock) → ClockOk k → OfChip k ⊎ OfRates k
    which (rates fs) d = inr (record { least = omega (arith, d.least); most = omega (arith, d.most); each = d.each })
    which (chip c) d = inl tt

    chip_begins : (k : Clock) → OfChip k → (r : List ℕ) → starts 99 (clock_text k ++ r) ≡ true
    chip_begins (rates fs) d r = absurd d
    chip_begins (chip c) d r = refl

    rates_begin : (k : Clock) → OfRates k → (r : List ℕ) → NoItem r → starts 99 (clock_text k ++ r) ≡ false
    rates_begin (rates fs) d r f = refl
    rates_begin (chip c) d r f = absurd d

-- neither begins as an idle line does
no_idle : (k : Clock) (u r : List ℕ) → NoIdle ((clock_text k ++ u) ++ r)
no_idle (rates fs) u r = refl
no_idle (chip c) u r = refl

-- the lines of the head, and what stands behind them
abbrev head_text : ℕ × Option ℕ → List ℕ
head_text h = bytes "(slack " ++ (decimal h.0 ++ (bytes ")\n(" ++ idle_text h.1))

abbrev HeadOk : ℕ × Option ℕ → Type 0
HeadOk h = Word h.0 × MaybeWord h.1

head_piece : Piece head_text HeadOk NoIdle read_head
head_piece =
    seq_piece both head_text HeadOk (field_piece (bytes "(slack "))
    (λ _ _. skip_piece (bytes ")\n(") (none, tt) idle_piece)
    (λ a b. refl) (λ a b d e. (d, e)) (λ h d. (h.0, h.1, d.0, d.1, refl)) (λ _ _. (none, tt)) (λ a b r _ _ _. refl)

abbrev behind_text : Clock × List TaskLine → List ℕ
behind_text x = clock_text x.0 ++ (bytes ")\n" ++ joined task_text x.1)

behind_head : Piece behind_text (λ x. ClockOk x.0 × Between (TaskLineOk (energy_count x.0)) 1 32 x.1)
    (λ r. starts 40 r ≡ false) (seq both read_clock (λ k. skip (bytes ")\n") (read_tasks (energy_count k))))
behind_head =
    seq_piece both behind_text _ clock_piece
    (λ k d. skip_piece (bytes ")\n") (some_tasks (energy_count k)) (tasks_piece (energy_count k)))
    (λ a b. refl) (λ a b d e. (d, e)) (λ x d. (x.0, x.1, d.0, d.1, refl)) (λ k _. some_tasks (energy_count k))
    (λ a b r _ _ _. (refl, refl))

pub script_piece : Piece script_text ScriptOk (λ r. starts 40 r ≡ false) read_script
script_piece =
    seq_piece mk_script script_text ScriptOk head_piece (λ _ _. behind_head)
    (λ h x. simp append_assoc)
    (λ h x d e. record {
      slack = d.0;
      idle = d.1;
      clock = e.0;
      tasks = record { least = e.1.least; most = omega (arith, e.1.most); each = e.1.each };
    })
    (λ s d. ((s.slack, s.idle), (s.clock, s.tasks), (d.slack, d.idle), (d.clock, d.tasks), refl))
    (λ _ _. let t = some_tasks (energy_count (chip Xscale)) in ((chip Xscale, t.0), (tt, t.1)))
    (λ h x r _ _ _. no_idle x.0 _ r)

-- a script's text is read as that script
pub read_render : (s : Script) → ScriptOk s → read_text (script_text s) ≡ got s (length (script_text s))
unfolding read_text
read_render = whole_exact script_piece refl

-- what is read is the script of the text; what is refused is refused at the first bad byte
abbrev pub Answer : List ℕ → Res Script → Type 0
Answer t (got s n) = IsTextOf s t × (n ≡ length t)
Answer t (bad o) = FirstBad WellFormed t o

pub read_right : (t : List ℕ) → Answer t (read_text t)
unfolding read_text
read_right t = go (read_text t) (whole_right script_piece refl t)
  where
    go : (x : Res Script) → Right script_piece refl t x → Answer t x
    go (got s n) h = (record { script = h.0; text = h.1 }, h.2)
    go (bad o) h =
        first_bad_same (Form script_piece refl) WellFormed
        (λ u f. (f.0, record { script = f.1; text = f.2 })) (λ u f. (f.0, f.1.script, f.1.text)) t o h

-- what is read is in the domain of its piece
pub dom_of : {A : Type 0} {text : A → List ℕ} {Dom : A → Type 0} {F : List ℕ → Type 0} {read : List ℕ → Res A} → Piece text Dom F read
    → (s : List ℕ) (at i : ℕ) (a : A) → read_at read s at ≡ got a i → Dom a
unfolding read_at
dom_of {A} {text} {Dom} {F} {read} P s at i a e = go (read (drop at s)) (P.good (drop at s)) e
  where
    go : (x : Res A) → Good text Dom (drop at s) x → later at x ≡ got a i → Dom a
    go (got b n) g q = let z : b ≡ a = cc in subst Dom z g.0
    go (bad o) g q = let z : ◌≡◌ {A = ℕ} 0 1 = cc in absurd (omega arith)
